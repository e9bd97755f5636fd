-- Which operation a code names: the one place where codes are numbers (docs/RULES.md, "Instructions"). Assumes nothing.
use Rattle.std.specs.Prelude.{ℕ, Bool, true, false, cond, eqb, Option, Some, None, Result, ok_or}
use Rattle.numbers.specs.declared.size.Size.{Size}
use Rattle.numbers.specs.declared.size.Size.TheVariants.{Four, Eight}
use Rattle.instructions.specs.declared.operation.Operation.{Operation}
use Rattle.instructions.specs.declared.operation.Operation.TheVariants.{Incssp, Rstorssp, Saveprevssp, Wrss, Call, Ret, Wruss}
use Rattle.instructions.specs.declared.operation.Target.TheVariants.{Relative, Absolute}
use Rattle.instructions.specs.declared.operation.Release.TheVariants.{Plain, Counted}
use Rattle.instructions.specs.declared.operation.UnknownCode.{UnknownCode}

unfoldable pub decoded : ℕ → Option Operation
decoded code =
    cond (eqb code 1) (Some (Incssp Four))
    (cond (eqb code 2) (Some (Incssp Eight))
    (cond (eqb code 3) (Some Rstorssp)
    (cond (eqb code 4) (Some Saveprevssp)
    (cond (eqb code 5) (Some (Wrss Four))
    (cond (eqb code 6) (Some (Wrss Eight))
    (cond (eqb code 7) (Some (Call Relative))
    (cond (eqb code 8) (Some (Call Absolute))
    (cond (eqb code 9) (Some (Ret Plain))
    (cond (eqb code 10) (Some (Ret Counted))
    (cond (eqb code 11) (Some (Wruss Four))
    (cond (eqb code 12) (Some (Wruss Eight))
    None)))))))))))

-- the operation, or the code that names none
abbrev pub named : ℕ → Result Operation UnknownCode
named code = ok_or (decoded code) (record { 0 = code })

-- ---- WRSS, which alone is told whether it is permitted

abbrev pub is_wrss : Option Operation → Bool
is_wrss (Some (Wrss size)) = true
is_wrss other = false

-- how many bytes it stores; asked of WRSS only
abbrev pub wrss_size : Option Operation → Size
wrss_size (Some (Wrss size)) = size
wrss_size other = Four
