-- Reading and writing undo each other, of what the contracts give: from the round trips of sheets and the laws between buffers and sheets.
-- Assumes nothing.
use Rattle.std.proofs.Common.{◌≡◌, ℕ, ◌/◌, Bool, true, false, cond, leb, List, length, take, Ok, Err, Result, sym, refl, ap, ◌∙◌, subst, arith}
use mathlib.Core.List.{Memᴰ}
use Rattle.pages.proofs.Laws.{valid_list, list_valid}
use Rattle.memory.specs.Extends.{HoldsPages}
use Rattle.processor.specs.Layout.{fields}
use Rattle.state_words.proofs.Laws.{good_fields}
use Rattle.numbers.specs.Buffers.{laid}
use Rattle.numbers.proofs.Laws.{laid_front}
use Rattle.answers.specs.declared.answer.Refusal.{Refusal}
use Rattle.sheet.specs.Lent.{Buffers, tested}
use Rattle.sheet.specs.Sheets.{Page, Saved, Sheeted, WholePages, pages_of, ascended, saved_of, entries_of, bytes_of, buffers_of, text}
use Rattle.sheet.specs.Reading.{Parsed, sheet, no_sheet, parsed}
use Rattle.sheet.proofs.TestedLaws.{passes, passed}
use Rattle.sheet_read.specs.Reads.{read_number, Read, by_test, by_text, fits, filled, sizes_of, reads}
use Rattle.sheet_read.specs.declared.buffers.Sizes.{Sizes}
use Rattle.sheet_read.specs.declared.buffers.ReadError.TheVariants.{TooLong as ReadTooLong}
use Rattle.sheet_write.specs.Writes.{write_number, Written, by_test as written_by_test, printed, writes}
use Rattle.sheet_write.specs.declared.text.WriteError.TheVariants.{TooLong as WriteTooLong}
use Rattle.sheet_write.specs.Laying.{text_length}
use Rattle.sheet_write.proofs.Sizes.{text_size, nonzeros_most}
use Rattle.sheet_claims.specs.RoundTrips.{Typed, SavedSheeted}
use Rattle.sheet_claims.specs.LentBuffers.{fronts, LongestText, WrittenRead, PagesReadBack, ReadWritten, ReadUntouched, WriteUntouched}
use Rattle.sheet_claims.proofs.RoundTripsProof.{reads_back, writes_back}
use Rattle.sheet_claims.proofs.SavedLaws.{lent_whole, ascended_valid, pages_back, saved_back}
use Rattle.sheet_claims.proofs.LentPages.{held_lent, lent_ascending}
use Rattle.sheet_claims.proofs.Ordered.{every_map, every_self, every_ascended, mem_ascended}

-- ---- a write that is done, and one that is not

-- a write that is done was tested, and laid the whole text
record WriteWas (test : Result (Unit {0}) Refusal) (whole out : List ℕ) (long : ℕ) : Type 0 where
  good : test ≡ Ok tt
  whole_long : length whole ≡ long
  left : (written_by_test test whole out).text ≡ laid out 0 whole

abbrev printed_if : Bool → List ℕ → List ℕ → Written
printed_if fits whole out = cond fits (record { answer = Ok (length whole); text = laid out 0 whole }) (record { answer = Err (WriteTooLong (length whole)); text = out })

printed_was : (fits : Bool) (whole out : List ℕ) (long : ℕ) → (printed_if fits whole out).answer ≡ Ok long → (length whole ≡ long) × ((printed_if fits whole out).text ≡ laid out 0 whole)
printed_was true whole out long e = (cc, refl)
printed_was false whole out long e = absurd cc

write_was : (test : Result (Unit {0}) Refusal) (whole out : List ℕ) (long : ℕ) → (written_by_test test whole out).answer ≡ Ok long → WriteWas test whole out long
unfolding printed
write_was (Ok x) whole out long e =
    let was = printed_was (leb (length whole) (length out)) whole out long e in
    record { good = refl; whole_long = was.0; left = was.1 }
write_was (Err refusal) whole out long e = absurd cc

printed_untouched : (fits : Bool) (whole out : List ℕ) → (write_number (printed_if fits whole out).answer ≡ 0 → ⊥) → (printed_if fits whole out).text ≡ out
printed_untouched true whole out e = absurd (e refl)
printed_untouched false whole out e = refl

untouched_by : (test : Result (Unit {0}) Refusal) (whole out : List ℕ) → (write_number (written_by_test test whole out).answer ≡ 0 → ⊥) → (written_by_test test whole out).text ≡ out
unfolding printed
untouched_by (Ok x) whole out e = printed_untouched (leb (length whole) (length out)) whole out e
untouched_by (Err refusal) whole out e = refl

pub write_untouched : WriteUntouched
unfolding writes
write_untouched run out e = untouched_by (tested run) (text (saved_of run)) out e

-- ---- a read that is done, and one that is not

-- a read that is done was of a sheet that was tested, and filled the buffers with its run
record ReadWas (t : List ℕ) (lent : Buffers) (sizes : Sizes) : Type 0 where
  saved : Saved
  from : parsed t ≡ sheet saved
  good : tested (buffers_of saved) ≡ Ok tt
  long : sizes_of (buffers_of saved) ≡ sizes
  left : (reads t lent).buffers ≡ filled (buffers_of saved) lent

abbrev read_if : Bool → Buffers → Buffers → Read
read_if fit run lent = cond fit (record { answer = Ok (sizes_of run); buffers = filled run lent }) (record { answer = Err (ReadTooLong (sizes_of run)); buffers = lent })

fit_was : (fit : Bool) (run lent : Buffers) (sizes : Sizes) → (read_if fit run lent).answer ≡ Ok sizes → (sizes_of run ≡ sizes) × ((read_if fit run lent).buffers ≡ filled run lent)
fit_was true run lent sizes e = (cc, refl)
fit_was false run lent sizes e = absurd cc

test_was : (test : Result (Unit {0}) Refusal) (run lent : Buffers) (sizes : Sizes) → (by_test test run lent).answer ≡ Ok sizes
    → (test ≡ Ok tt) × (sizes_of run ≡ sizes) × ((by_test test run lent).buffers ≡ filled run lent)
test_was (Ok x) run lent sizes e = let was = fit_was (fits run lent) run lent sizes e in (refl, was.0, was.1)
test_was (Err refusal) run lent sizes e = absurd cc

read_was : (t : List ℕ) (lent : Buffers) (sizes : Sizes) → (reads t lent).answer ≡ Ok sizes → ReadWas t lent sizes
unfolding reads
read_was t lent sizes e = by (parsed t) refl e
  where
    by : (p : Parsed) → parsed t ≡ p → (by_text p lent).answer ≡ Ok sizes → ReadWas t lent sizes
    by (sheet s) same done =
        let was = test_was (tested (buffers_of s)) (buffers_of s) lent sizes done in
        record { saved = s; from = same; good = was.0; long = was.1; left = rw same was.2 }
    by (no_sheet line) same done = absurd cc

fit_untouched : (fit : Bool) (run lent : Buffers) → (read_number (read_if fit run lent).answer ≡ 0 → ⊥) → (read_if fit run lent).buffers ≡ lent
fit_untouched true run lent e = absurd (e refl)
fit_untouched false run lent e = refl

test_untouched : (test : Result (Unit {0}) Refusal) (run lent : Buffers) → (read_number (by_test test run lent).answer ≡ 0 → ⊥) → (by_test test run lent).buffers ≡ lent
test_untouched (Ok x) run lent e = fit_untouched (fits run lent) run lent e
test_untouched (Err refusal) run lent e = refl

text_untouched : (p : Parsed) (lent : Buffers) → (read_number (by_text p lent).answer ≡ 0 → ⊥) → (by_text p lent).buffers ≡ lent
text_untouched (sheet s) lent e = test_untouched (tested (buffers_of s)) (buffers_of s) lent e
text_untouched (no_sheet line) lent e = refl

pub read_untouched : ReadUntouched
unfolding reads
read_untouched t lent e = text_untouched (parsed t) lent e

-- ---- what was written is read

pub saved_sheeted : SavedSheeted
unfolding saved_of
saved_sheeted run typed e =
    let has = passes run e in
    let valid = list_valid run.pages (length run.bytes) has.list in
    record {
      fields = good_fields run.state has.state;
      state = typed.state;
      ascending = lent_ascending run.pages run.bytes valid;
      pages = lent_whole run.pages run.bytes valid typed.pages typed.bytes;
      whole = has.whole;
      words = typed.words;
    }

pub longest_text : LongestText
unfolding text_length
longest_text run e =
    let has = passes run e in
    let whole = has.list.whole in
    let few = has.list.few in
    let steps = has.few in
    let values = nonzeros_most (length run.bytes / 8) run.bytes in
    rw (text_size run (good_fields run.state has.state) whole) (omega arith)

-- the run, its pages ascending, passes the tests again
again : (run : Buffers) → tested run ≡ Ok tt → tested (buffers_of (saved_of run)) ≡ Ok tt
unfolding saved_of
again run e =
    let has = passes run e in
    let valid = ascended_valid run.pages run.bytes (list_valid run.pages (length run.bytes) has.list) in
    passed (buffers_of (saved_of run)) (record { list = valid_list _ _ valid; state = has.state; whole = has.whole; few = has.few })

-- a write that is done was of a run that passed its tests, and left its text, which is read back
record Back (run : Buffers) (out : List ℕ) (long : ℕ) : Type 0 where
  good : tested run ≡ Ok tt
  sheeted : Sheeted (saved_of run)
  read : parsed (take long (writes run out).text) ≡ sheet (saved_of run)

back_read : (run : Buffers) (out : List ℕ) (long : ℕ) → Typed run → (writes run out).answer ≡ Ok long → Back run out long
unfolding writes
back_read run out long typed e =
    let was = write_was (tested run) (text (saved_of run)) out long e in
    let sheeted = saved_sheeted run typed was.good in
    record { good = was.good; sheeted = sheeted; read = rw (was.left, laid_front out (text (saved_of run)) long was.whole_long) (reads_back (saved_of run) sheeted) }

pub written_read : WrittenRead
unfolding reads
written_read run out lent long typed e = let back = back_read run out long typed e in rw (back.read, again run back.good)

-- the pages of the run are the lent ones, in their order
same_pages : (pages bytes : List ℕ) → let ps : List Page = ascended (pages_of pages bytes) in
    WholePages ps → HoldsPages pages bytes (entries_of ps) (bytes_of ps) × HoldsPages (entries_of ps) (bytes_of ps) pages bytes
same_pages pages bytes whole =
    let lent : List Page = pages_of pages bytes in
    let ps : List Page = ascended lent in (
      held_lent pages bytes (entries_of ps) (bytes_of ps)
          (rw (pages_back ps whole) (every_map (λ r. Memᴰ r lent) (λ r. Memᴰ r ps) lent (λ r. mem_ascended r lent) (every_self lent))),
      held_lent (entries_of ps) (bytes_of ps) pages bytes (rw (pages_back ps whole) (every_ascended (λ r. Memᴰ r lent) lent (every_self lent))),
    )

-- what a read that is done has put into the buffers is its run
fronts_are : (t : List ℕ) (lent : Buffers) (sizes : Sizes) (was : ReadWas t lent sizes) → Sheeted was.saved → fronts sizes (reads t lent).buffers ≡ buffers_of was.saved
unfolding filled
fronts_are t lent sizes was sheeted =
    let run : Buffers = buffers_of was.saved in
    rw (
      was.left,
      ← was.long,
      laid_front lent.state run.state fields sheeted.fields,
      laid_front lent.pages run.pages (length run.pages) refl,
      laid_front lent.bytes run.bytes (length run.bytes) refl,
      laid_front lent.words run.words (length run.words) refl,
    )

pub pages_read_back : PagesReadBack
unfolding saved_of
pages_read_back run out lent long sizes typed wrote read =
    let back = back_read run out long typed wrote in
    let was = read_was (take long (writes run out).text) lent sizes read in
    let both_read : sheet was.saved ≡ sheet (saved_of run) = sym was.from ∙ back.read in
    let same : was.saved ≡ saved_of run = cc in
    let held : fronts sizes (reads (take long (writes run out).text) lent).buffers ≡ buffers_of (saved_of run)
    = fronts_are _ lent sizes was (rw same back.sheeted) ∙ ap buffers_of same
    in
    subst (λ (b : Buffers). HoldsPages run.pages run.bytes b.pages b.bytes × HoldsPages b.pages b.bytes run.pages run.bytes) (sym held)
    (same_pages run.pages run.bytes back.sheeted.pages)

-- ---- what was read is written

pub read_written : ReadWritten
unfolding writes
read_written t out lent sizes e =
    let was = read_was t lent sizes e in
    let back = writes_back t was.saved was.from in
    ap (λ (run : Buffers). writes run out) (fronts_are t lent sizes was back.0) ∙ rw (was.good, saved_back was.saved back.0, back.1)
