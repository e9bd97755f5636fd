-- The ledger of the shadow stack pointer (docs/RULES.md, "The ledger"). Assumes nothing.
use Rattle.std.specs.Prelude.{ℕ, zero, suc, ◌+◌, ◌*◌, ◌%◌, ◌<◌, ◌≡◌, cond, eqb, Option, Some, None}
use Rattle.numbers.specs.Numbers.{byte_count}
use Rattle.addresses.specs.Address.{wrapped}
use Rattle.processor.specs.State.{enabled, width_of}
use Rattle.processor.specs.declared.state.State.{State}
use Rattle.saveprevssp.specs.Saveprevssp.{carry}
use Rattle.targets.specs.Targets.{pushed}
use Rattle.instructions.specs.Operation.{decoded}
use Rattle.replay.specs.Run.{Input, listed, Run, after, built, replayed}
use Rattle.instructions.specs.declared.instruction.Instruction.{Instruction}
use Rattle.instructions.specs.declared.operation.Operation.{Operation}
use Rattle.instructions.specs.declared.operation.Operation.TheVariants.{Incssp, Rstorssp, Saveprevssp, Wrss, Call, Ret, Wruss}
use Rattle.instructions.specs.declared.operation.Target.TheVariants.{Relative, Absolute}

-- bytes of a frame, where the shadow stack is enabled, and otherwise 0
unfoldable pub frame_bytes : State → ℕ
frame_bytes s = cond (enabled s) (byte_count (pushed s)) 0

-- bytes popped by an instruction that completes from this opening state: Range elements by INCSSP, the token and, where CF is set, the
-- hole by SAVEPREVSSP, a frame by RET
abbrev pub popped : Operation → Instruction → State → ℕ
popped (Incssp size) i s = byte_count size * (i.b % 256)
popped Rstorssp i s = 0
popped Saveprevssp i s = cond (carry s) 12 8
popped (Wrss size) i s = 0
popped (Call target) i s = 0
popped (Ret release) i s = frame_bytes s
popped (Wruss size) i s = 0

-- Bytes pushed by an instruction that completes from this opening state: a frame by every CALL but a relative one with displacement 0.
-- Whether there is a frame goes by the words of the instruction and not by CALL's `displaced`, so that the ledger holds only where the
-- two agree; its size and `enabled` are the operations' own.
abbrev pub pushed_by : Operation → Instruction → State → ℕ
pushed_by (Incssp size) i s = 0
pushed_by Rstorssp i s = 0
pushed_by Saveprevssp i s = 0
pushed_by (Wrss size) i s = 0
pushed_by (Call Relative) i s = cond (eqb i.a 0) 0 (frame_bytes s)
pushed_by (Call Absolute) i s = frame_bytes s
pushed_by (Ret release) i s = 0
pushed_by (Wruss size) i s = 0

-- what an instruction counts for, by its code; one that names no operation never completes
abbrev pub counted : (Operation → Instruction → State → ℕ) → Option Operation → Instruction → State → ℕ
counted amount (Some op) i s = amount op i s
counted amount None i s = 0

-- the sum over the first k instructions of what each one, with its opening state, counts for
unfoldable pub sum_of : (Operation → Instruction → State → ℕ) → (ℕ → Instruction) → (ℕ → State) → ℕ → ℕ
sum_of amount listed opening zero = 0
sum_of amount listed opening (suc k) = sum_of amount listed opening k + counted amount (decoded (listed k).code) (listed k) (opening k)

-- First SSP and all bytes popped, last SSP and all bytes pushed, are equal modulo 2^64 in mode 2, otherwise 2^32. The sums come from the
-- completed instructions and their opening states.
abbrev pub Balanced : Input → Type 0
Balanced given =
    let s : State = given.state in
    let r : Run = replayed given in
    let opening : ℕ → State = λ j. (after (built given) given j).state in
    wrapped (width_of s) (s.ssp + sum_of popped (listed given) opening r.count) ≡ wrapped (width_of s) (r.state.ssp + sum_of pushed_by (listed given) opening r.count)

-- no RSTORSSP completes
abbrev pub NeverRestored : Input → Type 0
NeverRestored given = (j : ℕ) → j < (replayed given).count → decoded (listed given j).code ≡ Some Rstorssp → ⊥

-- every completed instruction leaves the mode as it was at first
abbrev pub OneMode : Input → Type 0
OneMode given = (j : ℕ) → j < (replayed given).count → (after (built given) given (suc j)).state.mode ≡ given.state.mode

-- a run that keeps one mode, without a completed RSTORSSP
abbrev pub LedgerInOneMode : Type 0
LedgerInOneMode = (given : Input) → OneMode given → NeverRestored given → Balanced given

-- today every run keeps one mode: no operation that is built changes it
abbrev pub KeepsOneMode : Type 0
KeepsOneMode = (given : Input) → OneMode given

-- so the ledger holds of every run without a completed RSTORSSP
abbrev pub Ledger : Type 0
Ledger = (given : Input) → NeverRestored given → Balanced given
