-- A line that was printed, read back; and that it is of no other kind. From the laws on single lines. Assumes nothing.
use Rattle.std.proofs.Common.{◌≡◌, ℕ, ◌+◌, ◌*◌, ◌^◌, ◌<◌, Bool, true, false, cond, ◌&&◌, eqb, List, [], ◌∷◌, length, get_or, drop, sym, refl, ap, ◌∙◌, true≢false, arith, eq-eqb, ne_eqb}
use Rattle.texts.specs.Digits.{Below}
use Rattle.texts.specs.Fields.{lines}
use Rattle.sheet.specs.Lines.{name, field_count, line, is_line, values}
use Rattle.sheet.specs.Sheets.{version}
use Rattle.sheet.specs.Reading.{no_sheet, value, next, is_word, parsed_body, parsed_by, parsed_lines}
use Rattle.sheet.specs.declared.line.Line.{Line}
use Rattle.sheet.specs.declared.line.Line.TheVariants.{Sheet, Word}
use Rattle.sheet.proofs.LineLaws.{next_line, nothing_begins, is_line_line, values_line, values_count, one_kind}
use Rattle.sheet_claims.proofs.Bytes.{below_none, below_cons}

-- ---- kinds

-- a line of one kind is of no other
pub no_other : (kind other : Line) (l : List ℕ) → is_line kind l ≡ true → (kind ≡ other → ⊥) → is_line other l ≡ false
no_other kind other l is differ = go (is_line other l) refl
  where
    go : (t : Bool) → is_line other l ≡ t → t ≡ false
    go true e = absurd (differ (one_kind kind other l is e))
    go false e = refl

-- the first two letters of a name, by which kinds are told apart
abbrev pub letters : Line → ℕ
letters kind = get_or (name kind) 0 0 + 256 * get_or (name kind) 1 0

pub differ : (kind other : Line) → eqb (letters kind) (letters other) ≡ false → kind ≡ other → ⊥
differ kind other told same = true≢false (sym (eq-eqb _ _ (ap letters same)) ∙ told)

-- an empty line is of no kind
pub no_line : (kind : Line) → is_line kind [] ≡ false
unfolding lines
no_line kind = next_line kind [] ∙ nothing_begins kind

-- ---- lines of one number and of two

one : (vs : List ℕ) → length vs ≡ 1 → vs ≡ get_or vs 0 0 ∷ []
one [] long = absurd (omega arith)
one (v ∷ []) long = refl
one (v ∷ w ∷ vs) long = absurd (omega arith)

two : (vs : List ℕ) → length vs ≡ 2 → vs ≡ get_or vs 0 0 ∷ get_or vs 1 0 ∷ []
two [] long = absurd (omega arith)
two (v ∷ []) long = absurd (omega arith)
two (v ∷ w ∷ []) long = refl
two (v ∷ w ∷ u ∷ vs) long = absurd (omega arith)

pub one_field : (kind : Line) (l : List ℕ) → field_count kind ≡ 1 → values kind l ≡ value kind 0 l ∷ []
one_field kind l e = one (values kind l) (values_count kind l ∙ e)

pub word_fields : (l : List ℕ) → values Word l ≡ value Word 0 l ∷ value Word 1 l ∷ []
word_fields l = two (values Word l) (values_count Word l)

pub one_below : (v : ℕ) → v < 2 ^ 64 → Below (2 ^ 64) (v ∷ [])
one_below v small = below_cons (2 ^ 64) v [] small (below_none (2 ^ 64) (omega arith))

-- the line of the newest version
unfoldable pub is_head : List ℕ → Bool
is_head l = is_line Sheet l && eqb (value Sheet 0 l) version

both_tests : {A : Type 0} (a b : Bool) (x y : A) → cond a (cond b x y) y ≡ cond (a && b) x y
both_tests true b x y = refl
both_tests false b x y = refl

-- reading, by it
pub head_parsed : (ls : List (List ℕ)) → parsed_lines ls ≡ cond (is_head (next ls)) (parsed_body (drop 1 ls)) (no_sheet 1)
unfolding parsed_lines parsed_by is_head
head_parsed ls = both_tests (is_line Sheet (next ls)) (eqb (value Sheet 0 (next ls)) version) (parsed_body (drop 1 ls)) (no_sheet 1)

pub head_read : is_head (line Sheet (version ∷ [])) ≡ true
unfolding is_head
head_read =
    let small = one_below version (omega arith) in
    rw (is_line_line Sheet (version ∷ []) refl small, values_line Sheet (version ∷ []) refl small)

module _ (address v : ℕ) (address-small : address < 2 ^ 64) (small : v < 2 ^ 64) where
  both_below : Below (2 ^ 64) (address ∷ v ∷ [])
  both_below = below_cons (2 ^ 64) address (v ∷ []) address-small (one_below v small)

  pub word_line_lem : is_line Word (line Word (address ∷ v ∷ [])) ≡ true
  word_line_lem = is_line_line Word (address ∷ v ∷ []) refl both_below

  pub word_values : values Word (line Word (address ∷ v ∷ [])) ≡ address ∷ v ∷ []
  word_values = values_line Word (address ∷ v ∷ []) refl both_below

  pub is_word_lem : (v ≡ 0 → ⊥) → is_word address (line Word (address ∷ v ∷ [])) ≡ true
  unfolding is_word
  is_word_lem some = rw (word_line_lem, word_values, eq-eqb address address refl, ne_eqb v 0 some)

  pub other_word : (other : ℕ) → (address ≡ other → ⊥) → is_word other (line Word (address ∷ v ∷ [])) ≡ false
  unfolding is_word
  other_word other differ = rw (word_line_lem, word_values, ne_eqb address other differ)

pub no_word : (address : ℕ) (l : List ℕ) → is_line Word l ≡ false → is_word address l ≡ false
unfolding is_word
no_word address l e = rw e
