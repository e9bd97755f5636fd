-- `Line::stands` meets its contract: it looks at the rest of the text. Assumes nothing.
use borrow.Author.Tests.{le-ltb}
use lib.ListN.{drop_of_length-le}
use Rattle.sheet.proofs.LineLaws.{nothing_begins}
use Rattle.sheet.proofs.line.Line.stands.Goals as goal

pub returns-else-at-text : goal.returns-else-at-text
returns-else-at-text c = rw (drop_of_length-le _ c.if-at-text.false, nothing_begins _) (le-ltb _ _ c.if-at-text.false)
