-- What a run that passed its tests has for the writing of its sheet: no two pages at one address, with all their bytes. Assumes nothing.
use Prim.Native.Nat.{ℕ}
use mathlib.Core.List.{List}
use lib.ListN.{length}
use Rattle.pages.proofs.Laws.{once_apart, ValidList}
use Rattle.order.specs.Order.{page_number}
use Rattle.sheet_write.specs.Order.{Lent}

pub lent : (pages bytes : List ℕ) → ValidList pages (length bytes) → Lent pages bytes
unfolding page_number
lent pages bytes valid = record { apart = once_apart pages valid.apart; whole = valid.whole }
