-- Bytes in a row on a page that is handed on are those bytes of the whole. Assumes nothing.
use Rattle.std.proofs.Common.{ℕ, zero, suc, ◌+◌, ◌-◌, ◌*◌, ◌/◌, ◌%◌, ◌<◌, ◌≤◌, ◌≡◌, refl, sym, ◌∙◌, ap, ap₂, List, ◌++◌, length, set, take, drop, leb, get_or-take, get_or-drop, drop-set-lt, arith}
use lib.Seq.{take-set-le, take-set-lt, drop-set-add}
use borrow.Rule.Slice.PartMut.{mid_of, put_mid, put_same, mid_len}
use Rattle.pages.specs.Pages.{page_bytes}
use Rattle.numbers.specs.Numbers.{inside, number_at, put_at}
use Rattle.numbers.proofs.Laws.{room_left}
use Rattle.memory.specs.OnePage.{PageHolds}
use Rattle.accesses.proofs.Laws.{page_start, page_length, whole}

-- what is left of a page, as the code has it
pub room_on_page : (address n : ℕ) → leb n (page_bytes - address % page_bytes) ≡ leb (address % page_bytes + n) page_bytes
unfolding inside
room_on_page address n = room_left page_bytes (address % page_bytes) n (omega arith)

-- the page that is handed on holds the bytes
pub on_page_lem : (bytes : List ℕ) (place n : ℕ) → PageHolds (length bytes) place n → place % page_bytes + n ≤ length (mid_of (page_start place) (page_length place) bytes)
on_page_lem bytes place n on = omega (arith, mid_len (page_start place) (page_start place + page_bytes) bytes on.lent_whole, on.inside)

-- ---- on a part of the bytes

suc_on : (start at : ℕ) → start + suc at ≡ suc (start + at)
suc_on start at = omega arith

number_part : (bytes : List ℕ) (start len at n : ℕ) → at + n ≤ len → number_at (mid_of start len bytes) at n ≡ number_at bytes (start + at) n
unfolding number_at
number_part bytes start len at zero h = refl
number_part bytes start len at (suc n) h =
    ap₂ (λ (b rest : ℕ). b + 256 * rest)
    (get_or-take len (drop start bytes) at 0 (omega arith) ∙ get_or-drop start bytes at 0)
    (number_part bytes start len (suc at) n (omega arith) ∙ ap (λ (p : ℕ). number_at bytes p n) (suc_on start at))

-- a byte of the part is set in the whole
module _ (xs : List ℕ) (start len at : ℕ) (h : at < len) (b : ℕ) where
  mid_set : mid_of start len (set xs (start + at) b) ≡ set (mid_of start len xs) at b
  mid_set = ap (take len) (drop-set-add start xs at b) ∙ take-set-lt len (drop start xs) at b h

  -- and the rest of the whole stays
  put_mid_set : (ys : List ℕ) → put_mid start len (set xs (start + at) b) ys ≡ put_mid start len xs ys
  put_mid_set ys =
      ap₂ (λ (front back : List ℕ). front ++ (ys ++ back)) (take-set-le start xs (start + at) b (omega arith))
      (ap (drop len) (drop-set-add start xs at b) ∙ drop-set-lt len (drop start xs) at b h)

put_part : (xs : List ℕ) (start len at n v : ℕ) → at + n ≤ len → put_mid start len xs (put_at at n v (mid_of start len xs)) ≡ put_at (start + at) n v xs
unfolding put_at
put_part xs start len at zero v h = put_same start len xs
put_part xs start len at (suc n) v h =
    let k : at < len = omega arith in
    let b : ℕ = v % 256 in
    ap (λ (ys : List ℕ). put_mid start len xs (put_at (suc at) n (v / 256) ys)) (sym (mid_set xs start len at k b))
    ∙ sym (put_mid_set xs start len at k b (put_at (suc at) n (v / 256) (mid_of start len (set xs (start + at) b))))
    ∙ put_part (set xs (start + at) b) start len (suc at) n (v / 256) (omega arith)
    ∙ ap (λ (p : ℕ). put_at p n (v / 256) (set xs (start + at) b)) (suc_on start at)

-- the page that a place lies on, as the code hands it on
pub load_part : (bytes : List ℕ) (place n : ℕ) → place % page_bytes + n ≤ page_bytes → number_at (mid_of (page_start place) (page_length place) bytes) (place % page_bytes) n ≡ number_at bytes place n
load_part bytes place n h = number_part bytes (page_start place) (page_length place) (place % page_bytes) n (omega arith) ∙ ap (λ (p : ℕ). number_at bytes p n) (whole place)

pub store_part : (xs : List ℕ) (place n v : ℕ) → place % page_bytes + n ≤ page_bytes
    → put_mid (page_start place) (page_length place) xs (put_at (place % page_bytes) n v (mid_of (page_start place) (page_length place) xs)) ≡ put_at place n v xs
store_part xs place n v h = put_part xs (page_start place) (page_length place) (place % page_bytes) n v (omega arith) ∙ ap (λ (p : ℕ). put_at p n v xs) (whole place)
