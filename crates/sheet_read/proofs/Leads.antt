-- The first lines of a text that are of one kind (`plain_count`): how far they reach, and what follows them. Assumes nothing.
use Prim.Native.Nat.{ℕ, zero, suc, ◌+◌, ◌-◌, ◌*◌, ◌<◌, ◌≤◌}
use mathlib.Core.Path.{◌≡◌, refl, ap, ◌∙◌}
use mathlib.Core.Bool.{Bool, true, false}
use mathlib.Core.List.{List, [], ◌∷◌}
use native.Mathlib.Nat.{mul-zero, mul-suc, zero-add, suc-add}
use native.Mathlib.Omega.{arith}
use lib.ListN.{length, take, drop, length-drop}
use lib.Seq.{drop-drop, take_all}
use Rattle.texts.specs.Fields.{lines, begins}
use Rattle.sheet.specs.Lines.{form, width, is_line}
use Rattle.sheet.specs.Reading.{next, plain_count}
use Rattle.sheet.specs.declared.line.Line.{Line}
use Rattle.sheet.proofs.LineLaws.{line_room, next_line, lines_step}

-- the part of a text from a place on, as the code lends it
pub rest_whole : (text : List ℕ) (at : ℕ) → take (length text - at) (drop at text) ≡ drop at text
rest_whole text at = take_all (length text - at) (drop at text) (simp length-drop (omega arith))

module _ (kind : Line) where
  -- ---- one line

  -- the line with which a text begins is of the kind
  pub front_line : (u : List ℕ) → begins (form kind) u ≡ true → is_line kind (take (width kind) u) ≡ true
  front_line u begun = rw (lines_step kind u begun) at (next_line kind u) ∙ begun

  plain_nil : plain_count kind [] ≡ 0
  unfolding plain_count
  plain_nil = refl

  pub plain_cons : (l : List ℕ) (ls : List (List ℕ)) → is_line kind l ≡ true → plain_count kind (l ∷ ls) ≡ suc (plain_count kind ls)
  unfolding plain_count
  plain_cons l ls h = rw h

  plain_other : (ls : List (List ℕ)) → is_line kind (next ls) ≡ false → plain_count kind ls ≡ 0
  unfolding plain_count
  plain_other [] h = refl
  plain_other (l ∷ ls) h = rw h

  pub plain_turn : (u : List ℕ) → begins (form kind) u ≡ true → plain_count kind (lines u) ≡ suc (plain_count kind (lines (drop (width kind) u)))
  plain_turn u begun = rw (lines_step kind u begun) (plain_cons (take (width kind) u) (lines (drop (width kind) u)) (front_line u begun))

  pub plain_end : (u : List ℕ) → begins (form kind) u ≡ false → plain_count kind (lines u) ≡ 0
  plain_end u other = plain_other (lines u) (next_line kind u ∙ other)

  -- less text is left behind it
  pub less_left : (u : List ℕ) → begins (form kind) u ≡ true → length (drop (width kind) u) < length u
  less_left u begun = let room = line_room kind u begun in omega (arith, length-drop (width kind) u)

  -- ---- n lines

  -- one and the others
  pub one_and : (n : ℕ) (u : List ℕ) → suc n ≤ plain_count kind (lines u) → (begins (form kind) u ≡ true) × (n ≤ plain_count kind (lines (drop (width kind) u)))
  one_and n u h = go (begins (form kind) u) refl
    where
      go : (b : Bool) → begins (form kind) u ≡ b → (begins (form kind) u ≡ true) × (n ≤ plain_count kind (lines (drop (width kind) u)))
      go true e = (e, let turn = plain_turn u e in omega arith)
      go false e = let none = plain_end u e in absurd (omega arith)

  pub lead_room : (n : ℕ) (u : List ℕ) → n ≤ plain_count kind (lines u) → width kind * n ≤ length u
  lead_room zero u h = omega arith
  lead_room (suc n) u h =
      let both = one_and n u h in
      let room = line_room kind u both.0 in
      let more = lead_room n (drop (width kind) u) both.1 in
      rw mul-suc (omega (arith, length-drop (width kind) u))

  -- the text behind one line and n others
  past : (n : ℕ) (u : List ℕ) → drop (width kind * n) (drop (width kind) u) ≡ drop (width kind * suc n) u
  past n u =
      let sum : width kind + width kind * n ≡ width kind * suc n = rw mul-suc (omega arith) in
      drop-drop (width kind * n) (width kind) u ∙ ap (λ (k : ℕ). drop k u) sum

  -- the lines behind them
  pub lead_lines : (n : ℕ) (u : List ℕ) → n ≤ plain_count kind (lines u) → lines (drop (width kind * n) u) ≡ drop n (lines u)
  lead_lines zero u h = rw mul-zero
  lead_lines (suc n) u h =
      let both = one_and n u h in
      rw (← past n u, lines_step kind u both.0) (lead_lines n (drop (width kind) u) both.1)

  pub lead_count : (n : ℕ) (u : List ℕ) → n ≤ plain_count kind (lines u) → length (lines u) ≡ n + length (lines (drop (width kind * n) u))
  lead_count zero u h = rw (mul-zero, zero-add)
  lead_count (suc n) u h =
      let both = one_and n u h in
      rw (← past n u, lines_step kind u both.0, suc-add) (ap suc (lead_count n (drop (width kind) u) both.1))

  -- n lines behind the first m are m + n lines
  pub lead_more : (m n : ℕ) (ls : List (List ℕ)) → m ≤ plain_count kind ls → n ≤ plain_count kind (drop m ls) → m + n ≤ plain_count kind ls
  lead_more zero n ls first rest = rw zero-add rest
  lead_more (suc m) n [] first rest = let none = plain_nil in absurd (omega arith)
  lead_more (suc m) n (l ∷ ls) first rest = go (is_line kind l) refl (λ h. lead_more m n ls h rest)
    where
      go : (b : Bool) → is_line kind l ≡ b → (m ≤ plain_count kind ls → m + n ≤ plain_count kind ls) → suc m + n ≤ plain_count kind (l ∷ ls)
      go true e more =
          let turn = plain_cons l ls e in
          let both = more (omega arith) in
          omega arith
      go false e more = let none = plain_other (l ∷ ls) e in absurd (omega arith)

  -- n more lines stand behind the first k
  pub lead_rest : (k n : ℕ) (u : List ℕ) → k + n ≤ plain_count kind (lines u) → n ≤ plain_count kind (lines (drop (width kind * k) u))
  lead_rest zero n u h = rw mul-zero (rw zero-add at h)
  lead_rest (suc k) n u h =
      let both = one_and (k + n) u (rw suc-add at h) in
      rw (← past k u) (lead_rest k n (drop (width kind) u) both.1)

  -- the k-th line: where it begins, and that it stands there
  pub place_room : (k n : ℕ) (u : List ℕ) → k ≤ n → n ≤ plain_count kind (lines u) → width kind * k ≤ length u
  place_room k n u less h = lead_room k u (omega arith)

  pub lead_at : (k n : ℕ) (u : List ℕ) → k < n → n ≤ plain_count kind (lines u) → begins (form kind) (drop (width kind * k) u) ≡ true
  lead_at k n u less h = (one_and 0 (drop (width kind * k) u) (lead_rest k 1 u (omega arith))).0
