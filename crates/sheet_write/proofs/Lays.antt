-- Pieces laid one behind the other: what is laid, and what is left of the whole. Assumes nothing.
use Prim.Native.Nat.{ℕ, ◌+◌, ◌≤◌}
use mathlib.Core.Path.{◌≡◌, refl, sym, ◌∙◌, ap}
use mathlib.Core.List.{List, [], ◌∷◌, ◌++◌, append_assoc, append-nil}
use native.Mathlib.Omega.{arith}
use lib.ListN.{length, length-append}
use borrow.Author.Tests.{eq-eqb, ne_eqb}
use Rattle.numbers.specs.Buffers.{laid}
use Rattle.texts.specs.Fields.{joined}
use Rattle.sheet.specs.Lines.{field_count, width, line, put_line}
use Rattle.sheet.specs.Sheets.{word_line}
use Rattle.sheet.specs.declared.line.Line.{Line}
use Rattle.sheet.specs.declared.line.Line.TheVariants.{Word}
use Rattle.numbers.proofs.Laws.{length_laid, laid_nil, laid_turn}
use Rattle.sheet.proofs.LineLaws.{line_length, line_put}
use Rattle.sheet_write.specs.Laying.{Laying}

-- ---- lines joined to a text

pub joined_append : (a b : List (List ℕ)) → joined (a ++ b) ≡ joined a ++ joined b
unfolding joined
joined_append [] b = refl
joined_append (l ∷ ls) b = ap (λ (t : List ℕ). l ++ t) (joined_append ls b) ∙ sym (append_assoc l (joined ls) (joined b))

pub joined_one : (l : List ℕ) → joined (l ∷ []) ≡ l
unfolding joined
joined_one l = append-nil l

-- ---- what is left

-- nothing laid
pub lay_none : (out : List ℕ) (at : ℕ) → Laying out at [] out at
lay_none out at = record { text = sym (laid_nil out at); place = omega arith }

-- a text begins with a piece, and goes on with the others
pub record Begins (rest piece later : List ℕ) : Type 0 where
  pub split : rest ≡ piece ++ later

-- `rest` is still to be laid, from `place` on, into a buffer that began as `out`
pub record Left (out : List ℕ) (at : ℕ) (whole now : List ℕ) (place : ℕ) (rest : List ℕ) : Type 0 where
  pub same : laid out at whole ≡ laid now place rest
  pub long : length now ≡ length out
  pub met : place + length rest ≡ at + length whole
  pub room : at + length whole ≤ length out

pub left_start : (out : List ℕ) (at : ℕ) (whole : List ℕ) → at + length whole ≤ length out → Left out at whole out at whole
left_start out at whole room = record { same = refl; long = refl; met = refl; room = room }

module _ (out : List ℕ) (at : ℕ) (whole now : List ℕ) (place : ℕ) (rest : List ℕ) (left : Left out at whole now place rest) where
  pub left_end : rest ≡ [] → Laying out at whole now place
  left_end e =
      let met = left.met in
      let none : length rest ≡ 0 = ap length e in
      record { text = sym (left.same ∙ ap (laid now place) e ∙ laid_nil now place); place = omega arith }

  module _ (piece later : List ℕ) (begins : Begins rest piece later) where
    -- the next piece fits
    pub left_room : place + length piece ≤ length now
    left_room = let met = left.met in let room = left.room in let long = left.long in let both = simp length-append at (ap length begins.split) in omega arith

    pub left_turn : (after : List ℕ) (next : ℕ) → Laying now place piece after next → Left out at whole after next later
    left_turn after next laying =
        let met = left.met in
        let both = simp length-append at (ap length begins.split) in
        let next_is = laying.place in
        record {
          same = left.same ∙ ap (laid now place) begins.split ∙ laid_turn now place piece later left_room ∙ rw (laying.text, laying.place);
          long = ap length laying.text ∙ length_laid now place piece left_room ∙ left.long;
          met = omega arith;
          room = left.room;
        }

-- ---- one line

-- a line with its own count of numbers, where there is room
pub lay_line : (kind : Line) (values out : List ℕ) (at : ℕ) (after : List ℕ) (wide : ℕ)
    → length values ≡ field_count kind → at + width kind ≤ length out → after ≡ put_line kind values out at → wide ≡ width kind
    → Laying out at (line kind values) after (at + wide)
lay_line kind values out at after wide whole room after_is wide_is =
    let long = line_length kind values whole in
    record { text = after_is ∙ line_put kind values out at whole room; place = omega arith }

-- the next line fits
pub line_room : (kind : Line) (values out : List ℕ) (at : ℕ) (whole now : List ℕ) (place : ℕ) (rest later : List ℕ) → length values ≡ field_count kind → Left out at whole now place rest
    → Begins rest (line kind values) later → place + width kind ≤ length now
line_room kind values out at whole now place rest later count left begins =
    let long = line_length kind values count in
    let room = left_room out at whole now place rest left (line kind values) later begins in
    omega arith

module _ (address value : ℕ) where
  word_none : value ≡ 0 → joined (word_line address value) ≡ []
  unfolding joined
  word_none e = rw (eq-eqb value 0 e)

  word_one : (value ≡ 0 → ⊥) → joined (word_line address value) ≡ line Word (address ∷ value ∷ [])
  word_one e = rw (ne_eqb value 0 e) (joined_one (line Word (address ∷ value ∷ [])))

  pub lay_zero : (out : List ℕ) (at : ℕ) → value ≡ 0 → Laying out at (joined (word_line address value)) out at
  lay_zero out at e = rw (word_none e) (lay_none out at)

  pub word_room : (at n : ℕ) → (value ≡ 0 → ⊥) → at + length (joined (word_line address value)) ≤ n → at + width Word ≤ n
  word_room at n e room = let long = ap length (word_one e) ∙ line_length Word (address ∷ value ∷ []) refl in omega arith

  pub lay_value : (out : List ℕ) (at : ℕ) (after : List ℕ) (next : ℕ) → (value ≡ 0 → ⊥)
      → Laying out at (line Word (address ∷ value ∷ [])) after next → Laying out at (joined (word_line address value)) after next
  lay_value out at after next e laying = rw (word_one e) laying
