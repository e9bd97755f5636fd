-- Reading and writing undo each other. Assumes nothing.
use Rattle.std.proofs.Common.{◌≡◌, ℕ, ap, ◌∙◌, subst, arith}
use Rattle.texts.specs.Fields.{lines, joined}
use Rattle.sheet.specs.Sheets.{Saved, Sheeted, sheet_lines, text}
use Rattle.sheet.specs.Reading.{parsed_body, parsed}
use Rattle.sheet.specs.declared.line.Line.TheVariants.{State}
use Rattle.texts.proofs.FormLaws.{joined_lines}
use Rattle.sheet.proofs.LineLaws.{is_line_line, values_line}
use Rattle.sheet_claims.specs.RoundTrips.{ReadsBack, WritesBack}
use Rattle.sheet_claims.proofs.LineKinds.{head_parsed, head_read}
use Rattle.sheet_claims.proofs.Outcomes.{Outcome, no_head, no_state, whole, stopped, outcome}
use Rattle.sheet_claims.proofs.SheetLines.{lines_of_text}
use Rattle.sheet_claims.proofs.StagesRead.{stages_read}

pub reads_back : ReadsBack
unfolding parsed parsed_body sheet_lines
reads_back s h = head_parsed (lines (text s)) ∙ rw (lines_of_text s h, head_read, is_line_line State s.state h.fields h.state, values_line State s.state h.fields h.state, stages_read s h)

pub writes_back : WritesBack
unfolding parsed text
writes_back t s e = by (outcome (lines t))
  where
    by : Outcome (lines t) → Sheeted s × (text s ≡ t)
    by (no_head h none) = absurd cc
    by (no_state first h none) = absurd cc
    by (whole r h lines_are read) = let same : r ≡ s = cc in subst (λ (q : Saved). Sheeted q × (text q ≡ t)) same (h, ap joined lines_are ∙ joined_lines t)
    by (stopped r l rest h lines_are left none) = absurd cc
