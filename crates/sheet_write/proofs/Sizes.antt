-- How long a sheet is: by the counts of its pages, values and instructions, whatever their order. Assumes nothing.
use Prim.Native.Nat.{ℕ, zero, suc, ◌+◌, ◌*◌, ◌/◌, ◌≤◌}
use mathlib.Core.Path.{◌≡◌, refl, sym, ◌∙◌, ap, ap₂}
use mathlib.Core.Bool.{Bool, true, false}
use mathlib.Core.List.{List, [], ◌∷◌}
use mathlib.Core.Logic.{⊎_elim}
use native.Mathlib.Nat.{mul-zero, mul-suc}
use native.Mathlib.Omega.{arith}
use lib.ListN.{length, take, drop, length-append, length-drop}
use lib.Seq.{length-take-le, drop-drop, take-nil, get_or-take}
use lib.Dec.{eqb}
use Rattle.numbers.specs.Numbers.{number_at}
use Rattle.pages.specs.Pages.{page_bytes, page_of}
use Rattle.order.specs.Order.{page_number}
use Rattle.processor.specs.Layout.{fields}
use Rattle.texts.specs.Fields.{joined}
use Rattle.sheet.specs.Lines.{field_count, line, width}
use Rattle.sheet.specs.Lent.{Buffers}
use Rattle.sheet.specs.Sheets.{Page, line_count, word_line, word_lines, slots, plain_lines, pages_of, insert, ascended, version, text, saved_of}
use Rattle.sheet.specs.declared.line.Line.{Line}
use Rattle.sheet.specs.declared.line.Line.TheVariants.{Sheet, State as StateLine, Page as PageLine, Word, Do}
use Rattle.sheet.proofs.LineLaws.{line_length}
use Rattle.sheet_write.specs.Values.{nonzeros}
use Rattle.sheet_write.specs.Laying.{lines_of, all_lines, text_length}
use Rattle.sheet_write.specs.declared.lay.Pass.{Pass}
use Rattle.sheet_write.specs.declared.lay.Pass.TheVariants.{Entries, Values}
use Rattle.sheet_write.proofs.Ascending.{le_or_lt, before, past}
use Rattle.sheet_write.proofs.Lays.{Begins, joined_one}
use Rattle.sheet_write.proofs.Rests.{words_suc, pages_cons}
use Rattle.sheet_write.proofs.Texts.{pieces, in_pieces}
use Rattle.sheet_write.proofs.ValueLaws.{nonzeros_suc, number_take}

-- a text's first piece and the others
parts : (rest piece later : List ℕ) → Begins rest piece later → length rest ≡ length piece + length later
parts rest piece later begins = ap length begins.split ∙ length-append piece later

-- ---- values

one_word : (address value : ℕ) → length (joined (word_line address value)) ≡ width Word * line_count value
unfolding joined
one_word address value = go (eqb value 0) refl
  where
    go : (t : Bool) → eqb value 0 ≡ t → length (joined (word_line address value)) ≡ width Word * line_count value
    go true e = rw e
    go false e = let long = line_length Word (address ∷ value ∷ []) refl in let all = length-append (line Word (address ∷ value ∷ [])) [] in rw e (omega arith)

words_size : (address n : ℕ) (bytes : List ℕ) → length (joined (word_lines address n bytes)) ≡ width Word * nonzeros n bytes
unfolding word_lines nonzeros joined
words_size address zero bytes = refl
words_size address (suc n) bytes =
    let whole = ap length (words_suc address n bytes) ∙ length-append (joined (word_line address (number_at bytes 0 8))) (joined (word_lines (address + 8) n (drop 8 bytes))) in
    let first = one_word address (number_at bytes 0 8) in
    let rest = words_size (address + 8) n (drop 8 bytes) in
    whole ∙ rw (first, rest) (omega arith)

drop_take : (n m : ℕ) (xs : List ℕ) → drop n (take (n + m) xs) ≡ take m (drop n xs)
drop_take zero m xs = let all : 0 + m ≡ m = omega arith in ap (λ (k : ℕ). take k xs) all
drop_take (suc n) m [] = ap (drop (suc n)) (take-nil (suc n + m)) ∙ sym (take-nil m)
drop_take (suc n) m (x ∷ xs) = let next : suc n + m ≡ suc (n + m) = omega arith in rw next (drop_take n m xs)

-- the bytes of n values hold them
nonzeros_take : (n : ℕ) (bytes : List ℕ) → nonzeros n (take (8 * n) bytes) ≡ nonzeros n bytes
unfolding nonzeros
nonzeros_take zero bytes = refl
nonzeros_take (suc n) bytes =
    let more : 8 * suc n ≡ 8 + 8 * n = omega arith in
    ap (λ (k : ℕ). nonzeros (suc n) (take k bytes)) more
    ∙ nonzeros_suc n (take (8 + 8 * n) bytes)
    ∙ ap₂ (λ (value count : ℕ). line_count value + count) (number_take 0 8 (8 + 8 * n) bytes (omega arith)) (ap (nonzeros n) (drop_take 8 (8 * n) bytes) ∙ nonzeros_take n (drop 8 bytes))

nonzeros_add : (n m : ℕ) (bytes : List ℕ) → nonzeros (n + m) bytes ≡ nonzeros n bytes + nonzeros m (drop (8 * n) bytes)
unfolding nonzeros
nonzeros_add zero m bytes = let all : 0 + m ≡ m = omega arith in ap (λ (k : ℕ). nonzeros k bytes) all ∙ (let same : nonzeros m bytes ≡ 0 + nonzeros m bytes = omega arith in same)
nonzeros_add (suc n) m bytes =
    let next : suc n + m ≡ suc (n + m) = omega arith in
    let more : 8 + 8 * n ≡ 8 * suc n = omega arith in
    let rest = nonzeros_add n m (drop 8 bytes) ∙ ap (λ (tail : List ℕ). nonzeros n (drop 8 bytes) + nonzeros m tail) (drop-drop (8 * n) 8 bytes ∙ ap (λ (k : ℕ). drop k bytes) more) in
    let first = nonzeros_suc n bytes in
    let whole = ap (λ (k : ℕ). nonzeros k bytes) next ∙ nonzeros_suc (n + m) bytes in
    omega arith

-- no more than there are values
pub nonzeros_most : (n : ℕ) (bytes : List ℕ) → nonzeros n bytes ≤ n
unfolding nonzeros
nonzeros_most zero bytes = omega arith
nonzeros_most (suc n) bytes = let rest = nonzeros_most n (drop 8 bytes) in let one = at_most (number_at bytes 0 8) in omega arith
  where
    at_most : (value : ℕ) → line_count value ≤ 1
    at_most value = go (eqb value 0) refl
      where
        go : (t : Bool) → eqb value 0 ≡ t → line_count value ≤ 1
        go true e = rw e (omega arith)
        go false e = rw e (omega arith)

-- ---- plain lines

plain_size : (kind : Line) (n : ℕ) (numbers : List ℕ) → field_count kind * n ≤ length numbers → length (joined (plain_lines kind n numbers)) ≡ width kind * n
unfolding plain_lines joined
plain_size kind zero numbers h = rw mul-zero
plain_size kind (suc n) numbers h =
    let own : field_count kind * suc n ≡ field_count kind * n + field_count kind = mul-suc (field_count kind) n in
    let all : width kind * suc n ≡ width kind * n + width kind = mul-suc (width kind) n in
    let whole = length-append (line kind (take (field_count kind) numbers)) (joined (plain_lines kind n (drop (field_count kind) numbers))) in
    let first = line_length kind (take (field_count kind) numbers) (length-take-le (field_count kind) numbers (omega arith)) in
    let rest = plain_size kind n (drop (field_count kind) numbers) (rw (length-drop (field_count kind) numbers) (omega arith)) in
    whole ∙ rw (first, rest, all) (omega arith)

-- ---- pages

abbrev size : Pass → List Page → ℕ
size pass ps = length (joined (all_lines pass ps))

size_cons : (pass : Pass) (p : Page) (ps : List Page) → size pass (p ∷ ps) ≡ length (joined (lines_of pass p)) + size pass ps
size_cons pass p ps = parts _ (joined (lines_of pass p)) _ (pages_cons pass p ps)

-- wherever a page is put
size_insert : (pass : Pass) (p : Page) (ps : List Page) → size pass (insert p ps) ≡ length (joined (lines_of pass p)) + size pass ps
unfolding insert
size_insert pass p [] = size_cons pass p []
size_insert pass p (q ∷ qs) =
    ⊎_elim
    (λ near. ap (size pass) (before p q qs near) ∙ size_cons pass p (q ∷ qs))
    (λ far.
    let whole = ap (size pass) (past p q qs far) ∙ size_cons pass q (insert p qs) in
    let rest = size_insert pass p qs in
    let both = size_cons pass q qs in
    omega arith)
    (le_or_lt (page_number p.entry) (page_number q.entry))

size_ascended : (pass : Pass) (ps : List Page) → size pass (ascended ps) ≡ size pass ps
unfolding ascended
size_ascended pass [] = refl
size_ascended pass (p ∷ ps) = size_insert pass p (ascended ps) ∙ ap (λ (n : ℕ). length (joined (lines_of pass p)) + n) (size_ascended pass ps) ∙ sym (size_cons pass p ps)

entries_size : (entries bytes : List ℕ) → size Entries (pages_of entries bytes) ≡ width PageLine * length entries
unfolding pages_of all_lines joined
entries_size [] bytes = refl
entries_size (entry ∷ entries) bytes =
    let first = ap length (joined_one (line PageLine (entry ∷ []))) ∙ line_length PageLine (entry ∷ []) refl in
    let rest = entries_size entries (drop page_bytes bytes) in
    let whole = size_cons Entries (record { entry = entry; bytes = take page_bytes bytes }) (pages_of entries (drop page_bytes bytes)) in
    omega arith

none : (bytes : List ℕ) → nonzeros 0 bytes ≡ 0
unfolding nonzeros
none bytes = refl

values_size : (entries bytes : List ℕ) → size Values (pages_of entries bytes) ≡ width Word * nonzeros (slots * length entries) bytes
unfolding pages_of all_lines joined
values_size [] bytes = ap (λ (n : ℕ). width Word * n) (sym (none bytes))
values_size (entry ∷ entries) bytes =
    let first = words_size (page_of entry) slots (take page_bytes bytes) ∙ ap (λ (n : ℕ). width Word * n) (nonzeros_take slots bytes) in
    let rest = values_size entries (drop page_bytes bytes) in
    let whole = size_cons Values (record { entry = entry; bytes = take page_bytes bytes }) (pages_of entries (drop page_bytes bytes)) in
    let more : slots * suc (length entries) ≡ slots + slots * length entries = omega arith in
    let sum = ap (λ (n : ℕ). nonzeros n bytes) more ∙ nonzeros_add slots (slots * length entries) bytes in
    omega arith

-- ---- the whole

-- all pieces of a text
abbrev lengths : List (List ℕ) → ℕ
lengths [] = 0
lengths (piece ∷ later) = length piece + lengths later

joined_size : (pieces : List (List ℕ)) → length (joined pieces) ≡ lengths pieces
unfolding joined
joined_size [] = refl
joined_size (piece ∷ later) = length-append piece (joined later) ∙ ap (λ (n : ℕ). length piece + n) (joined_size later)

-- the length that the code adds up
pub text_size : (run : Buffers) → length run.state ≡ fields → length run.bytes ≡ page_bytes * length run.pages
    → length (text (saved_of run)) ≡ text_length (length run.pages) (nonzeros (length run.bytes / 8) run.bytes) (length run.words / field_count Do)
unfolding text_length
text_size run full whole =
    let all = ap length (in_pieces run) ∙ joined_size (pieces run) in
    let head = line_length Sheet (version ∷ []) refl in
    let state = line_length StateLine run.state full in
    let entries = size_ascended Entries (pages_of run.pages run.bytes) ∙ entries_size run.pages run.bytes in
    let values = size_ascended Values (pages_of run.pages run.bytes) ∙ values_size run.pages run.bytes in
    let steps = plain_size Do (length run.words / field_count Do) run.words (omega arith) in
    let count : length run.bytes / 8 ≡ slots * length run.pages = omega arith in
    rw count (omega arith)
