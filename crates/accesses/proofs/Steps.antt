-- The turns of the loops: what each definition that recurs gives from a place on, in the terms of the code. Assumes nothing.
use Rattle.std.proofs.Common.{◌≡◌, ℕ, suc, ◌+◌, ◌-◌, ◌*◌, ◌/◌, ◌%◌, ◌<◌, ◌≤◌, refl, ◌∙◌, ap, true, false, true≢false, List, Result, Ok, Err, arith}
use mathlib.Core.Bool.{false≢true}
use Rattle.std.specs.Result.{is_err}
use Rattle.std.proofs.Math.Nat.{sub-zero}
use Rattle.addresses.specs.Address.{wrapped, plus}
use Rattle.addresses.specs.declared.address.Width.{Width}
use Rattle.addresses.proofs.Sums.{plus_one, plus_none}
use Rattle.pages.specs.Pages.{Lookup}
use Rattle.accesses.specs.Access.{and_then, scan, byte_in, number, put_byte, write}
use Rattle.accesses.specs.declared.reach.Failure.{Failure}

-- a number above 0, as the recursions match it
one_less : (left : ℕ) → 0 < left → left ≡ suc (left - 1)
one_less left h = omega arith

pub scan_turn : (left : ℕ) → 0 < left → (test : ℕ → Result (Unit {0}) Failure) (w : Width) (address : ℕ)
    → scan test w address left ≡ and_then (test address) (scan test w (plus w address 1) (left - 1))
unfolding scan
scan_turn left more test w address = ap (scan test w address) (one_less left more)

pub number_suc : (look : Lookup) (bytes : List ℕ) (w : Width) (address n : ℕ) → number look bytes w address (suc n) ≡ byte_in bytes (look address) + 256 * number look bytes w (plus w address 1) n
unfolding number
number_suc look bytes w address n = refl

-- ---- n bytes from the first on: the k-th, and those after it

pub scan_first : (test : ℕ → Result (Unit {0}) Failure) (w : Width) (first n : ℕ) → scan test w (wrapped w first) n ≡ scan test w (plus w first 0) (n - 0)
scan_first test w first n = rw (plus_none w first 0 (omega arith), sub-zero) refl

pub write_first : (look : Lookup) (w : Width) (first n v : ℕ) (bytes : List ℕ) → write look w (wrapped w first) n v bytes ≡ write look w (plus w first 0) (n - 0) v bytes
write_first look w first n v bytes = rw (plus_none w first 0 (omega arith), sub-zero) refl

module _ (w : Width) (first n k : ℕ) (more : k < n) where
  abbrev rest : ℕ
  rest = n - (k + 1)

  one_more : n - k ≡ suc rest
  one_more = omega arith

  pub scan_on : (test : ℕ → Result (Unit {0}) Failure)
      → scan test w (plus w first k) (n - k) ≡ and_then (test (plus w first k)) (scan test w (plus w first (k + 1)) (n - (k + 1)))
  unfolding scan
  scan_on test =
      ap (scan test w (plus w first k)) one_more
      ∙ ap (λ (a : ℕ). and_then (test (plus w first k)) (scan test w a rest)) (plus_one w first k)

  pub write_on : (look : Lookup) (v : ℕ) (bytes : List ℕ)
      → write look w (plus w first k) (n - k) v bytes ≡ write look w (plus w first (k + 1)) (n - (k + 1)) (v / 256) (put_byte (look (plus w first k)) (v % 256) bytes)
  unfolding write
  write_on look v bytes =
      ap (λ (m : ℕ). write look w (plus w first k) m v bytes) one_more
      ∙ ap (λ (a : ℕ). write look w a rest (v / 256) (put_byte (look (plus w first k)) (v % 256) bytes)) (plus_one w first k)

-- ---- no bytes

module _ (left : ℕ) (none : left ≤ 0) where
  le_zero : left ≡ 0
  le_zero = omega arith

  pub scan_end : (test : ℕ → Result (Unit {0}) Failure) (w : Width) (address : ℕ) → scan test w address left ≡ Ok tt
  unfolding scan
  scan_end test w address = ap (scan test w address) le_zero

  pub write_end : (look : Lookup) (w : Width) (address v : ℕ) (bytes : List ℕ) → write look w address left v bytes ≡ bytes
  unfolding write
  write_end look w address v bytes = ap (λ (n : ℕ). write look w address n v bytes) le_zero

-- ---- one finding after the other

pub blocked_first : (r next : Result (Unit {0}) Failure) → is_err r ≡ true → and_then r next ≡ r
blocked_first (Ok x) next e = absurd (false≢true e)
blocked_first (Err failure) next e = refl

pub ready_next : (r next : Result (Unit {0}) Failure) → is_err r ≡ false → and_then r next ≡ next
ready_next (Ok x) next e = refl
ready_next (Err failure) next e = absurd (true≢false e)
