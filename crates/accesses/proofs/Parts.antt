-- A byte set in the page that is lent on is that byte set in the whole. Assumes nothing.
use Rattle.std.proofs.Common.{◌≡◌, ℕ, ◌+◌, ◌-◌, ◌%◌, ◌<◌, ◌≤◌, ◌∙◌, ap, refl, List, Option, Some, None, length, set, length-set, arith}
use borrow.Rule.Slice.PartMut.{mid_of, put_mid, mid_len, set_mid_at}
use Rattle.pages.specs.Pages.{page_bytes}
use Rattle.pages.specs.declared.pages.Spot.{Spot}
use Rattle.accesses.specs.Access.{put_byte}

-- the start of the page that a place lies on
abbrev pub page_start : ℕ → ℕ
page_start place = place - place % page_bytes

-- the page's length, as the code takes it: its end less its start
abbrev pub page_length : ℕ → ℕ
page_length place = page_start place + page_bytes - page_start place

in_page_lem : (xs : List ℕ) (place : ℕ) → page_start place + page_bytes ≤ length xs → place % page_bytes < length (mid_of (page_start place) (page_length place) xs)
in_page_lem xs place h = omega (arith, mid_len (page_start place) (page_start place + page_bytes) xs h)

pub whole : (place : ℕ) → page_start place + place % page_bytes ≡ place
whole place = omega arith

pub put_in : (xs : List ℕ) (place byte : ℕ) → page_start place + page_bytes ≤ length xs
    → put_mid (page_start place) (page_length place) xs (set (mid_of (page_start place) (page_length place) xs) (place % page_bytes) byte) ≡ set xs place byte
put_in xs place byte h =
    set_mid_at (page_start place) (page_length place) (place % page_bytes) xs byte (in_page_lem xs place h) ∙ ap (λ (n : ℕ). set xs n byte) (whole place)

pub length_put : (spot : Option Spot) (byte : ℕ) (bytes : List ℕ) → length (put_byte spot byte bytes) ≡ length bytes
length_put None byte bytes = refl
length_put (Some found) byte bytes = length-set bytes found.place byte
