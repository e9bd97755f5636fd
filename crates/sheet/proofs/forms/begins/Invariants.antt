-- `begins`: the invariant of its loop: what was told so far, and what the marks left are to tell, is the whole. Assumes nothing.
use Rattle.texts.specs.Fields.{begins}
use Rattle.std.specs.Slice.Iter.{iter_rest}
use Rattle.sheet.proofs.Turns.{Telling}
use Rattle.sheet.proofs.forms.begins.Given as goal

abbrev pub invariant-loop-mark : goal.invariant-loop-mark
invariant-loop-mark l = Telling (begins l.form l.text) l.good (iter_rest l.mark-iterator.a) (iter_rest l.mark-iterator.b)
