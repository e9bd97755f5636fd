-- An instruction: four words of the list, and the form that it must have (docs/RULES.md, "Instructions", refusal 6). Assumes nothing.
use Rattle.std.specs.Prelude.{ℕ, ◌+◌, ◌*◌, ◌^◌, Bool, true, false, cond, ◌&&◌, List, [], ◌∷◌, get_or, eqb, ltb, leb, Option, Some, None}
use Rattle.numbers.specs.declared.size.Size.{Size}
use Rattle.numbers.specs.declared.size.Size.TheVariants.{Four, Eight}
use Rattle.instructions.specs.Operation.{decoded}
use Rattle.instructions.specs.declared.instruction.Instruction.{Instruction}
use Rattle.instructions.specs.declared.operation.Operation.{Operation}
use Rattle.instructions.specs.declared.operation.Operation.TheVariants.{Incssp, Rstorssp, Saveprevssp, Wrss, Call, Ret, Wruss}
use Rattle.instructions.specs.declared.operation.Target.{Target}
use Rattle.instructions.specs.declared.operation.Target.TheVariants.{Relative, Absolute}
use Rattle.instructions.specs.declared.operation.Release.{Release}
use Rattle.instructions.specs.declared.operation.Release.TheVariants.{Plain, Counted}

-- how many words an instruction has
abbrev pub instruction_words : ℕ
instruction_words = 4

-- the k-th instruction of a list of words, counted from 0
unfoldable pub instruction_at : List ℕ → ℕ → Instruction
instruction_at words k =
    let first : ℕ = instruction_words * k in
    record { code = get_or words first 0; length = get_or words (first + 1) 0; a = get_or words (first + 2) 0; b = get_or words (first + 3) 0 }

-- the words of one instruction, which is then the whole list
abbrev pub alone : Instruction → List ℕ
alone i = i.code ∷ i.length ∷ i.a ∷ i.b ∷ []

-- ---- refusal 6

unfoldable pub length_fits : Instruction → Bool
length_fits i = leb 1 i.length && leb i.length 15

-- the operand of a call: a displacement of 32 bits, or a target
abbrev pub target_fits : Target → ℕ → Bool
target_fits Relative a = ltb a (2 ^ 32)
target_fits Absolute a = true

-- the operand of a return: none, or a count of 16 bits
abbrev pub release_fits : Release → ℕ → Bool
release_fits Plain a = eqb a 0
release_fits Counted a = ltb a (2 ^ 16)

-- the words that it does not use are 0, and those that it uses have the bits that they may have
abbrev pub words_fit : Operation → Instruction → Bool
words_fit (Incssp size) i = eqb i.a 0
words_fit Rstorssp i = eqb i.b 0
words_fit Saveprevssp i = eqb i.a 0 && eqb i.b 0
words_fit (Wrss size) i = true
words_fit (Call target) i = target_fits target i.a && eqb i.b 0
words_fit (Ret release) i = release_fits release i.a && eqb i.b 0
words_fit (Wruss size) i = true

-- mode 0 has no call and no return
abbrev pub in_mode0 : Operation → Bool
in_mode0 (Incssp size) = true
in_mode0 Rstorssp = true
in_mode0 Saveprevssp = true
in_mode0 (Wrss size) = true
in_mode0 (Call target) = false
in_mode0 (Ret release) = false
in_mode0 (Wruss size) = true

abbrev pub is_four : Size → Bool
is_four Four = true
is_four Eight = false

-- mode 1 has no form of 8 bytes
abbrev pub in_mode1 : Operation → Bool
in_mode1 (Incssp size) = is_four size
in_mode1 Rstorssp = true
in_mode1 Saveprevssp = true
in_mode1 (Wrss size) = is_four size
in_mode1 (Call target) = true
in_mode1 (Ret release) = true
in_mode1 (Wruss size) = is_four size

-- and no word of more than 32 bits
unfoldable pub narrow : Operation → Instruction → Bool
narrow op i = in_mode1 op && (ltb i.a (2 ^ 32) && ltb i.b (2 ^ 32))

unfoldable pub mode_fits : Operation → Instruction → ℕ → Bool
mode_fits op i mode = cond (eqb mode 0) (in_mode0 op) (cond (eqb mode 1) (narrow op i) true)

-- the form of an operation
unfoldable pub fits : Operation → Instruction → ℕ → Bool
fits op i mode = words_fit op i && (length_fits i && mode_fits op i mode)

-- the code is known, and the instruction has the form of its operation
abbrev pub fits_if : Option Operation → Instruction → ℕ → Bool
fits_if (Some op) i mode = fits op i mode
fits_if None i mode = false

unfoldable pub well_formed : Instruction → ℕ → Bool
well_formed i mode = fits_if (decoded i.code) i mode
