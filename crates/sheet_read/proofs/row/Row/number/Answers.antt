-- `Row::number` meets its contract: a number stands there. Assumes nothing.
use Rattle.std.proofs.Common.{ℕ, ◌≡◌, ◌∙◌, refl, sym, take, Some}
use Rattle.sheet.specs.Lines.{width}
use Rattle.sheet.specs.Reading.{value}
use Rattle.sheet.proofs.LineLaws.{line_numeral}
use Rattle.sheet_read.proofs.row.Row.number.Goals.{After-number}
use Rattle.sheet_read.proofs.row.Row.number.Goals as goal

stands : (c : After-number) → c.number.result ≡ Some (value c.args.self.kind c.args.i (take (width c.args.self.kind) c.args.self.text.now))
stands c = c.number.ensures ∙ rw c.first.ensures (line_numeral c.args.self.kind c.args.self.text.now c.args.i c.args.self.begun c.requires)

same : {v w : ℕ} → Some v ≡ Some w → v ≡ w
same e = cc

pub unwrap-requires : goal.unwrap-requires
unwrap-requires c = rw (stands c) refl

pub returns : goal.returns
returns c = same (sym c.unwrap.ensures ∙ stands (goal.at.returns c).After-number)
