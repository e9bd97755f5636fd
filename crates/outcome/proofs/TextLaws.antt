-- What reading a text into the program's buffers says of its outcome. Assumes nothing.
use Rattle.std.proofs.Common.{◌≡◌, ℕ, ◌*◌, ◌≤◌, true, List, length, take, None, Ok, Err, Option, Result, sym, refl, ◌∙◌, true≢false, arith, le-ltb, le-leb}
use Rattle.numbers.specs.Buffers.{laid}
use Rattle.numbers.proofs.Laws.{laid_front, laid_whole, length_laid}
use Rattle.pages.specs.Pages.{page_limit, page_bytes}
use Rattle.answers.specs.Answer.{refusal_number, sheet_number}
use Rattle.answers.specs.declared.answer.Refusal.{Refusal}
use Rattle.processor.specs.Layout.{fields, state_of, words_of}
use Rattle.state_words.specs.Formed.{formed, good_state}
use Rattle.state_words.proofs.Laws.{good_none, good_whole, good_fields}
use Rattle.instructions.specs.Instruction.{instruction_words}
use Rattle.replay.specs.Run.{instruction_limit, input_of}
use Rattle.sheet.specs.Lent.{Buffers, tested}
use Rattle.sheet.specs.Sheets.{Saved, buffers_of}
use Rattle.sheet.specs.Reading.{Parsed, sheet, no_sheet, parsed}
use Rattle.sheet.proofs.TestedLaws.{passes}
use Rattle.sheet_read.specs.Reads.{Read, sizes_of, fits, filled, by_test as read_by_test, by_text as read_by_text, reads}
use Rattle.sheet_read.specs.declared.buffers.Sizes.{Sizes}
use Rattle.sheet_read.specs.declared.buffers.ReadError.{ReadError}
use Rattle.sheet_read.specs.declared.buffers.ReadError.TheVariants.{NoSheet, Refused, TooLong}
use Rattle.outcome.specs.Outcome.{refused_line, answered, text_limit, outcome}
use Rattle.outcome.proofs.RunLaws.{good_words}

-- room for a state, the pages with their bytes, and the instructions
pub record Roomy (lent : Buffers) : Type 0 where
  pub state : length lent.state ≡ fields
  pub pages : length lent.pages ≡ page_limit
  pub bytes : length lent.bytes ≡ page_limit * page_bytes
  pub words : length lent.words ≡ instruction_limit * instruction_words

-- what they hold of a sheet that is run
pub record Ready (t : List ℕ) (sizes : Sizes) (b : Buffers) : Type 0 where
  pub pages_in_lem : sizes.pages ≤ length b.pages
  pub bytes_in_lem : sizes.bytes ≤ length b.bytes
  pub words_in : sizes.words ≤ length b.words
  pub good : good_state b.state ≡ true
  pub pass : tested (record { state = words_of (state_of b.state); pages = take sizes.pages b.pages; bytes = take sizes.bytes b.bytes; words = take sizes.words b.words }) ≡ Ok tt
  pub same : answered (input_of (state_of b.state) (take sizes.pages b.pages) (take sizes.bytes b.bytes) (take sizes.words b.words)) ≡ outcome t

-- what a reader's answer says of the outcome
abbrev pub Told : List ℕ → Result Sizes ReadError → Buffers → Type 0
Told t (Ok sizes) b = Ready t sizes b
Told t (Err (NoSheet row)) b = refused_line sheet_number row ≡ outcome t
Told t (Err (Refused refusal)) b = refused_line (refusal_number refusal) 0 ≡ outcome t
Told t (Err (TooLong sizes)) b = ⊥

-- a part that fits its buffer, and is laid to its front
record Front (lent part : List ℕ) : Type 0 where
  fits : length part ≤ length lent
  inside : length part ≤ length (laid lent 0 part)
  same : take (length part) (laid lent 0 part) ≡ part

front : (lent part : List ℕ) → length part ≤ length lent → Front lent part
front lent part room = record { fits = room; inside = rw (length_laid lent 0 part (omega arith)) room; same = laid_front lent part (length part) refl }

module _ (t : List ℕ) (short : length t ≤ text_limit) (lent : Buffers) (roomy : Roomy lent) where
  module _ (s : Saved) (e : parsed t ≡ sheet s) (q : tested (buffers_of s) ≡ Ok tt) where
    abbrev run : Buffers
    run = buffers_of s

    ready : (fits run lent ≡ true) × Ready t (sizes_of run) (filled run lent)
    unfolding fits filled outcome
    ready =
        let p = passes run q in
        let ten = good_fields run.state p.state in
        let state = laid_whole run.state lent.state (roomy.state ∙ sym ten) in
        let pages = front lent.pages run.pages (omega arith) in
        let bytes = front lent.bytes run.bytes (omega arith) in
        let words = front lent.words run.words (omega arith) in (
          rw (le-leb (length run.state) (length lent.state) (omega arith), le-leb _ _ pages.fits, le-leb _ _ bytes.fits, le-leb _ _ words.fits),
          record {
            pages_in_lem = pages.inside;
            bytes_in_lem = bytes.inside;
            words_in = words.inside;
            good = rw state p.state;
            pass = rw (state, pages.same, bytes.same, words.same, good_words (state_of run.state), ← good_whole run.state ten) q;
            same = rw (state, pages.same, bytes.same, words.same, le-ltb text_limit (length t) short, e, q);
          },
        )

  pub told : (r : Read) → r ≡ reads t lent → Told t r.answer r.buffers
  unfolding reads outcome
  told r came = rw came (by_text_lem (parsed t) refl)
    where
      by_test_lem : (s : Saved) → parsed t ≡ sheet s → (found : Result (Unit {0}) Refusal) → tested (buffers_of s) ≡ found
          → Told t (read_by_test found (buffers_of s) lent).answer (read_by_test found (buffers_of s) lent).buffers
      by_test_lem s e (Ok x) q = rw (ready s e q).0 (ready s e q).1
      by_test_lem s e (Err refusal) q = rw (le-ltb text_limit (length t) short, e, q)

      by_text_lem : (p : Parsed) → parsed t ≡ p → Told t (read_by_text p lent).answer (read_by_text p lent).buffers
      by_text_lem (sheet s) e = by_test_lem s e (tested (buffers_of s)) refl
      by_text_lem (no_sheet row) e = rw (le-ltb text_limit (length t) short, e)

-- where a state is good there is one
pub no_state_never : (words : List ℕ) → good_state words ≡ true → formed words ≡ None → ⊥
no_state_never words good none = true≢false (sym good ∙ good_none words none)
