-- The laws of lines and texts, for the code's proofs and the crates above.
--
-- How long and how large:
--     hex_length, number_length, fields_length, line_length, line_long   what is written
--     some_fields, few_fields, early_first                    how many numbers a line has, and where they begin
--     value_below                                             16 digits hold a number of 64 bits
-- A line of a kind at the front of a text:
--     line_room, line_short, nothing_begins                   the text is as long as the line
--     next_line, lines_step                                   it is the text's first line
--     line_numeral                                            where its numbers stand, they are read
-- A line:
--     values_count, values_below                              how many numbers it has, each of 64 bits
--     is_line_line, values_line, line_values                  writing and reading are inverse
--     line_put                                                one that is put lies in the text
--     one_kind                                                it is of one kind only, by its name
-- A text:
--     joined_lines, lines_joined, lines_append                joining lines and splitting are inverse (LinesOnly: each is a line of some kind)
-- Assumes nothing.
use Prim.Native.Nat.{ℕ, zero, suc, ◌+◌, ◌*◌, ◌^◌, ◌<◌, ◌≤◌}
use mathlib.Core.Path.{◌≡◌, refl, sym, ap, ap₂, ◌∙◌}
use mathlib.Core.Bool.{Bool, true, false, not, cond, ◌&&◌}
use mathlib.Core.List.{List, [], ◌∷◌, ◌++◌, append_assoc}
use native.Mathlib.Omega.{arith}
use lib.ListN.{length, take, drop, get_or, length-append, length-drop, drop_of_length-le}
use lib.Seq.{length-take-le, take-take, drop-drop, take_at, drop_at, drop-append_seam}
use lib.Dec.{eqb, leb}
use borrow.Author.Tests.{eq-eqb, eqb-true, leb-true, not-true}
use Rattle.numbers.specs.Buffers.{laid}
use Rattle.numbers.proofs.Laws.{lies_inside}
use Rattle.texts.specs.Digits.{tab, line_feed, digits, number, value_of, Below}
use Rattle.texts.specs.Fields.{fields, joined, lines, any_digit, number_form, field_forms, begins, numeral, values_in}
use Rattle.sheet.specs.Lines.{name, field_count, line, form, first, width, is_line, values, fits_line, put_line}
use Rattle.std.proofs.Common.{Some}
use Rattle.sheet.specs.Reading.{next}
use Rattle.sheet.specs.declared.line.Line.{Line}
use Rattle.sheet.specs.declared.line.Line.TheVariants.{Sheet, State, Page, Word, Do}
use Rattle.texts.proofs.DigitLaws.{both, and_both, same}
use Rattle.texts.proofs.Fields.{fields_length, forms_length, values_length, forms_lack_feed, fields_begin, number_in, value_in, value_small, values_fields, fields_values}
use Rattle.texts.proofs.FormLaws.{begins_room, begins_short, begins_take, begins_more, begins_parts, begins_both, lacks, lacks_append, letters_begin, begins_letters, lines_begins, joined_lines}

-- ---- how long a line is

width_is : (kind : Line) → width kind ≡ suc (length (name kind) + 18 * field_count kind)
width_is kind = omega arith

pub line_length : (kind : Line) (vs : List ℕ) → length vs ≡ field_count kind → length (line kind vs) ≡ width kind
unfolding line
line_length kind vs e = rw (width_is, length-append, length-append, fields_length, e) (omega arith)

-- ---- the form of a line

-- the end of every line, and of every form
abbrev feed : List ℕ
feed = line_feed ∷ []

feed_letter : lacks any_digit feed ≡ true
unfolding lacks
feed_letter = refl

feed_only : (u : List ℕ) → length u ≤ 1 → begins feed u ≡ true → feed ≡ u
feed_only u short h = ap (λ (r : List ℕ). line_feed ∷ r) (sym (drop_of_length-le u short)) ∙ begins_letters feed u feed_letter h

-- a form, up to the line feed
marks : Line → List ℕ
marks kind = name kind ++ field_forms (field_count kind)

form_is : (kind : Line) → form kind ≡ marks kind ++ feed
unfolding form marks
form_is kind = sym (append_assoc (name kind) (field_forms (field_count kind)) feed)

marks_length : (kind : Line) → suc (length (marks kind)) ≡ width kind
unfolding marks
marks_length kind = rw (length-append, forms_length) (sym (width_is kind))

form_length : (kind : Line) → length (form kind) ≡ width kind
form_length kind = rw (form_is, length-append, ← marks_length) (omega arith)

-- ---- what is computed of each kind, and all that is

-- its name holds no line feed, no mark of a digit and no tab; it has a number, and is not long
sound : Line → Bool
sound kind =
    lacks line_feed (name kind)
    && (lacks any_digit (name kind) && (lacks tab (name kind) && (leb 1 (field_count kind) && (leb (field_count kind) 64 && leb (length (name kind)) 64))))

is_sound : (kind : Line) → sound kind ≡ true
unfolding sound lacks
is_sound Sheet = refl
is_sound State = refl
is_sound Page = refl
is_sound Word = refl
is_sound Do = refl

record Sound (kind : Line) : Type 0 where
  feed : lacks line_feed (name kind) ≡ true
  digit : lacks any_digit (name kind) ≡ true
  tab : lacks tab (name kind) ≡ true
  some : 1 ≤ field_count kind
  few : field_count kind ≤ 64
  short : length (name kind) ≤ 64

all_sound : (kind : Line) → Sound kind
unfolding sound
all_sound kind =
    let first-parts = both _ _ (is_sound kind) in
    let second_parts = both _ _ first-parts.1 in
    let third-parts = both _ _ second_parts.1 in
    let fourth-parts = both _ _ third-parts.1 in
    let last-parts = both _ _ fourth-parts.1 in
    record {
      feed = first-parts.0;
      digit = second_parts.0;
      tab = third-parts.0;
      some = leb-true _ _ fourth-parts.0;
      few = leb-true _ _ last-parts.0;
      short = leb-true _ _ last-parts.1;
    }

-- a line's numbers, and where the first begins, are small
pub few_fields : (kind : Line) → field_count kind ≤ 64
few_fields kind = (all_sound kind).few

pub some_fields : (kind : Line) → 1 ≤ field_count kind
some_fields kind = (all_sound kind).some

pub early_first : (kind : Line) → first kind ≤ 65
early_first kind = let short = (all_sound kind).short in omega arith

marks_lack_feed : (kind : Line) → lacks line_feed (marks kind) ≡ true
unfolding marks
marks_lack_feed kind = lacks_append line_feed (name kind) (field_forms (field_count kind)) (all_sound kind).feed (forms_lack_feed (field_count kind))

-- ---- a line at the front of a text

pub line_room : (kind : Line) (u : List ℕ) → begins (form kind) u ≡ true → width kind ≤ length u
line_room kind u h = let room = begins_room (form kind) u h in let long = form_length kind in omega arith

-- no line stands in a text that is too short for it, so none in an empty one
pub line_short : (kind : Line) (u : List ℕ) → length u < width kind → begins (form kind) u ≡ false
line_short kind u short = begins_short (form kind) u (rw (form_length kind) short)

pub nothing_begins : (kind : Line) → begins (form kind) [] ≡ false
nothing_begins kind = line_short kind [] (omega arith)

-- a form with which the first line begins
begins_next : (marks u : List ℕ) → begins marks (next (lines u)) ≡ true → begins marks u ≡ true
unfolding joined
begins_next marks u h = ap (begins marks) (sym (joined_lines u)) ∙ go (lines u) h
  where
    go : (ls : List (List ℕ)) → begins marks (next ls) ≡ true → begins marks (joined ls) ≡ true
    go [] k = k
    go (l ∷ ls) k = begins_more marks l (joined ls) k

pub lines_step : (kind : Line) (u : List ℕ) → begins (form kind) u ≡ true → lines u ≡ take (width kind) u ∷ lines (drop (width kind) u)
lines_step kind u h = rw (← marks_length kind) (lines_begins (marks kind) u (marks_lack_feed kind) (rw form_is at h))

line_parts : (kind : Line) (l : List ℕ) → is_line kind l ≡ true → (begins (form kind) l ≡ true) × (length l ≡ width kind)
unfolding is_line
line_parts kind l h =
    let parts = both (begins (form kind) l) (eqb (length l) (width kind)) h in
    (parts.0, eqb-true (length l) (width kind) parts.1)

-- the front of such a text is a line
front_line : (kind : Line) (u : List ℕ) → begins (form kind) u ≡ true → is_line kind (take (width kind) u) ≡ true
unfolding is_line
front_line kind u h =
    let long = form_length kind in
    and_both (begins_take (form kind) u (width kind) (omega arith) ∙ h)
    (eq-eqb (length (take (width kind) u)) (width kind) (length-take-le (width kind) u (line_room kind u h)))

pub next_line : (kind : Line) (u : List ℕ) → is_line kind (next (lines u)) ≡ begins (form kind) u
next_line kind u =
    same (is_line kind (next (lines u))) (begins (form kind) u) (λ h. begins_next (form kind) u (line_parts kind (next (lines u)) h).0)
    (λ h. rw (lines_step kind u h) (front_line kind u h))

-- ---- the numbers of a line

pub values_count : (kind : Line) (l : List ℕ) → length (values kind l) ≡ field_count kind
unfolding values
values_count kind l = values_length (field_count kind) (drop (length (name kind)) l)

pub values_below : (kind : Line) (l : List ℕ) → Below (2 ^ 64) (values kind l)
unfolding values Below
values_below kind l i = value_small (field_count kind) i (drop (length (name kind)) l)

-- a part that lies in a front
part_of_front : (n k w : ℕ) (u : List ℕ) → k + n ≤ w → take n (drop k (take w u)) ≡ take n (drop k u)
part_of_front n zero w u h = take-take n w u (omega arith)
part_of_front n (suc k) zero u h = absurd (omega arith)
part_of_front n (suc k) (suc w) [] h = refl
part_of_front n (suc k) (suc w) (c ∷ cs) h = part_of_front n k w cs (omega arith)

line_value : (kind : Line) (u : List ℕ) (i : ℕ) → i < field_count kind
    → get_or (values kind (take (width kind) u)) i 0 ≡ value_of (take digits (drop (first kind + 18 * i + 1) u))
unfolding values
line_value kind u i less =
    let at : length (name kind) + (2 + 18 * i) ≡ first kind + 18 * i + 1 = omega arith in
    value_in (field_count kind) i (drop (length (name kind)) (take (width kind) u)) less
    ∙ ap (λ (r : List ℕ). value_of (take digits r)) (drop-drop (2 + 18 * i) (length (name kind)) (take (width kind) u) ∙ ap (λ (k : ℕ). drop k (take (width kind) u)) at)
    ∙ ap value_of (part_of_front digits (first kind + 18 * i + 1) (width kind) u (omega arith))

-- where the i-th number of a line stands, it is read
pub line_numeral : (kind : Line) (u : List ℕ) (i : ℕ) → begins (form kind) u ≡ true → i < field_count kind
    → numeral (drop (first kind + 18 * i) u) ≡ Some (get_or (values kind (take (width kind) u)) i 0)
unfolding numeral form
line_numeral kind u i h less =
    let n = field_count kind in
    let rest = drop (length (name kind)) u in
    let named-parts = begins_parts (name kind) (field_forms n ++ feed) u h in
    let formed = number_in n i rest (begins_parts (field_forms n) feed rest named-parts.1).0 less in
    let at : length (name kind) + (1 + 18 * i) ≡ first kind + 18 * i = omega arith in
    let there : drop (1 + 18 * i) rest ≡ drop (first kind + 18 * i) u = drop-drop (1 + 18 * i) (length (name kind)) u ∙ ap (λ (k : ℕ). drop k u) at in
    rw (ap (begins number_form) (sym there) ∙ formed, line_value kind u i less, ← drop-drop 1 (first kind + 18 * i) u)

-- ---- a line written and read

pub is_line_line : (kind : Line) (vs : List ℕ) → length vs ≡ field_count kind → Below (2 ^ 64) vs → is_line kind (line kind vs) ≡ true
unfolding is_line form line
is_line_line kind vs e small =
    and_both
    (begins_both (name kind) (field_forms (field_count kind) ++ feed) (name kind) (fields vs ++ feed) refl (letters_begin (name kind) (all_sound kind).digit)
    (begins_both (field_forms (field_count kind)) feed (fields vs) feed (rw (← e) (fields_length vs ∙ sym (forms_length (length vs)))) (rw (← e) (fields_begin vs))
    (letters_begin feed feed_letter)))
    (eq-eqb (length (line kind vs)) (width kind) (line_length kind vs e))

pub values_line : (kind : Line) (vs : List ℕ) → length vs ≡ field_count kind → Below (2 ^ 64) vs → values kind (line kind vs) ≡ vs
unfolding values line Below
values_line kind vs e small =
    ap₂ values_in (sym e) (drop-append_seam (name kind) (fields vs ++ feed)) ∙ values_fields vs feed small

pub line_values : (kind : Line) (l : List ℕ) → is_line kind l ≡ true → line kind (values kind l) ≡ l
unfolding values line form
line_values kind l h =
    let n = field_count kind in
    let parts = line_parts kind l h in
    let named-parts = begins_parts (name kind) (field_forms n ++ feed) l parts.0 in
    let rest = drop (length (name kind)) l in
    let field-parts = begins_parts (field_forms n) feed rest named-parts.1 in
    ap (λ (r : List ℕ). name kind ++ r)
    (ap (λ (r : List ℕ). fields (values_in n rest) ++ r) (feed_only (drop (18 * n) rest) (simp length-drop (omega (arith, width_is kind))) (rw forms_length at field-parts.1))
    ∙ fields_values n rest field-parts.0)
    ∙ begins_letters (name kind) l (all_sound kind).digit named-parts.0

-- what stands before the first tab: of a line, its name
before_tab : List ℕ → List ℕ
before_tab [] = []
before_tab (c ∷ cs) = cond (eqb c tab) [] (c ∷ before_tab cs)

before_tab_lem : (a u : List ℕ) → lacks tab a ≡ true → before_tab (a ++ (tab ∷ u)) ≡ a
unfolding before_tab lacks
before_tab_lem [] u h = refl
before_tab_lem (c ∷ cs) u h =
    let parts = both (not (eqb c tab)) (lacks tab cs) h in
    rw (not-true (eqb c tab) parts.0, before_tab_lem cs u parts.1)

fields_tab : (vs : List ℕ) → 1 ≤ length vs → (u : List ℕ) × (fields vs ++ feed ≡ tab ∷ u)
unfolding fields
fields_tab [] some = absurd (omega arith)
fields_tab (v ∷ vs) some = ((number v ++ fields vs) ++ feed, refl)

line_named : (kind : Line) (l : List ℕ) → is_line kind l ≡ true → before_tab l ≡ name kind
unfolding line
line_named kind l h =
    let rest = fields_tab (values kind l) (rw (values_count kind l) (all_sound kind).some) in
    ap before_tab (sym (line_values kind l h) ∙ ap (λ (r : List ℕ). name kind ++ r) rest.1) ∙ before_tab_lem (name kind) rest.0 (all_sound kind).tab

-- a name as one number, by which names are told apart
spelled : List ℕ → ℕ
spelled [] = 0
spelled (c ∷ cs) = c + 256 * spelled cs

-- the kind of line of a name
kind_of : ℕ → Line
kind_of s =
    cond (eqb s (spelled (name Sheet))) Sheet
    (cond (eqb s (spelled (name State))) State (cond (eqb s (spelled (name Page))) Page (cond (eqb s (spelled (name Word))) Word Do)))

kind_of_name : (kind : Line) → kind ≡ kind_of (spelled (name kind))
unfolding kind_of spelled
kind_of_name Sheet = refl
kind_of_name State = refl
kind_of_name Page = refl
kind_of_name Word = refl
kind_of_name Do = refl

pub one_kind : (kind other : Line) (l : List ℕ) → is_line kind l ≡ true → is_line other l ≡ true → kind ≡ other
one_kind kind other l h k =
    kind_of_name kind ∙ ap (λ (n : List ℕ). kind_of (spelled n)) (sym (line_named kind l h) ∙ line_named other l k) ∙ sym (kind_of_name other)

-- ---- a line put into a text

-- with its own count of numbers, where there is room
pub line_put : (kind : Line) (vs out : List ℕ) (at : ℕ) → length vs ≡ field_count kind → at + width kind ≤ length out → put_line kind vs out at ≡ laid out at (line kind vs)
unfolding put_line fits_line
line_put kind vs out at whole room = rw (whole, eq-eqb (field_count kind) (field_count kind) refl, lies_inside (length out) at (width kind) room)

-- ---- texts

-- every element is a line of some kind
unfoldable pub LinesOnly : List (List ℕ) → Type 0
LinesOnly [] = Unit {0}
LinesOnly (l ∷ ls) = ((kind : Line) × (is_line kind l ≡ true)) × LinesOnly ls

pub lines_append : (kind : Line) (l u : List ℕ) → is_line kind l ≡ true → lines (l ++ u) ≡ l ∷ lines u
lines_append kind l u h =
    let parts = line_parts kind l h in
    lines_step kind (l ++ u) (begins_more (form kind) l u parts.0)
    ∙ ap₂ (λ (a : List ℕ) (b : List ℕ). a ∷ lines b) (take_at l u (width kind) parts.1) (drop_at l u (width kind) parts.1)

pub lines_joined : (ls : List (List ℕ)) → LinesOnly ls → lines (joined ls) ≡ ls
unfolding lines joined LinesOnly
lines_joined [] h = refl
lines_joined (l ∷ ls) h = lines_append h.0.0 l (joined ls) h.0.1 ∙ ap (λ (r : List (List ℕ)). l ∷ r) (lines_joined ls h.1)
