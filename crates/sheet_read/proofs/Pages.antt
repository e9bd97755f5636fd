-- The turns of the loops over the pages of a stage: what is left of their word lines, how many those are, and their bytes. Assumes nothing.
use Prim.Native.Nat.{ℕ, zero, suc, ◌+◌, ◌*◌, ◌<◌, ◌≤◌}
use mathlib.Core.Path.{◌≡◌, refl, sym, ap}
use mathlib.Core.List.{List, [], ◌∷◌, ◌++◌}
use native.Mathlib.Omega.{arith}
use lib.ListN.{length, take, drop, length-append}
use Rattle.pages.specs.Pages.{page_bytes, page_of}
use Rattle.numbers.specs.Buffers.{laid}
use Rattle.numbers.proofs.Laws.{little_length, laid_nil, laid_turn}
use Rattle.sheet.specs.Lines.{width}
use Rattle.sheet.specs.Sheets.{slots, entries_of, bytes_of}
use Rattle.sheet.specs.Reading.{value, past_slot, slot_bytes, past_slots, past_pages, pages_in}
use Rattle.sheet.specs.declared.line.Line.TheVariants.{Page}
use Rattle.sheet_read.specs.Scan.{numbers_in, slot_count, word_count}
use Rattle.sheet_read.specs.declared.stage.Stage.{Stage}
use Rattle.sheet_read.proofs.Rows.{numbers_from, from_start, from_end, entry_turn}

-- ---- how many

values_long : (address n : ℕ) (ls : List (List ℕ)) → length (slot_bytes address n ls) ≡ 8 * n
unfolding slot_bytes
values_long address zero ls = refl
values_long address (suc n) ls = rw (length-append, little_length, values_long (address + 8) n (past_slot address ls)) (omega arith)

pub entries_kept : (entries : List ℕ) (ls : List (List ℕ)) → entries_of (pages_in entries ls) ≡ entries
unfolding pages_in entries_of
entries_kept [] ls = refl
entries_kept (entry ∷ entries) ls = ap (λ (rest : List ℕ). entry ∷ rest) (entries_kept entries (past_slots (page_of entry) slots ls))

pub bytes_length : (entries : List ℕ) (ls : List (List ℕ)) → length (bytes_of (pages_in entries ls)) ≡ page_bytes * length entries
unfolding pages_in bytes_of
bytes_length [] ls = refl
bytes_length (entry ∷ entries) ls =
    rw (length-append, values_long, bytes_length entries (past_slots (page_of entry) slots ls)) (omega arith)

-- ---- one page and the others

module _ (entry : ℕ) (entries : List ℕ) (ls rest : List (List ℕ)) (rest_is : rest ≡ past_slots (page_of entry) slots ls) where
  past_and : past_pages (entry ∷ entries) ls ≡ past_pages entries rest
  unfolding past_pages
  past_and = rw rest_is

  count_and : word_count (entry ∷ entries) ls ≡ slot_count (page_of entry) slots ls + word_count entries rest
  unfolding word_count
  count_and = rw rest_is

  bytes_and : bytes_of (pages_in (entry ∷ entries) ls) ≡ slot_bytes (page_of entry) slots ls ++ bytes_of (pages_in entries rest)
  unfolding pages_in bytes_of
  bytes_and = rw rest_is

-- ---- the pages of a stage

module _ (pages : Stage) where
  -- the entries from the k-th on
  abbrev pub entries_from : ℕ → List ℕ
  entries_from k = numbers_from pages.kind pages.text.now pages.count k

  pub entries_start : numbers_in pages ≡ entries_from 0
  unfolding numbers_in
  entries_start = sym (from_start pages.kind pages.text.now pages.count)

  entries_end : (k : ℕ) → pages.count ≤ k → entries_from k ≡ []
  entries_end k end = from_end pages.kind pages.text.now pages.count k end

  -- the k-th page: its entry was read, and its lines were taken
  module _ (kind : pages.kind ≡ Page) (k entry : ℕ) (less : k < pages.count)
      (entry_is : entry ≡ value pages.kind 0 (take (width pages.kind) (drop (width pages.kind * k) pages.text.now)))
      (ls rest : List (List ℕ)) (rest_is : rest ≡ past_slots (page_of entry) slots ls) where
    entries_turn : entries_from k ≡ entry ∷ entries_from (k + 1)
    entries_turn = entry_turn pages.kind kind pages.text.now pages.count k entry less pages.stands entry_is

    pub past_next : past_pages (entries_from k) ls ≡ past_pages (entries_from (k + 1)) rest
    past_next = rw entries_turn (past_and entry (entries_from (k + 1)) ls rest rest_is)

    pub count_next : word_count (entries_from k) ls ≡ slot_count (page_of entry) slots ls + word_count (entries_from (k + 1)) rest
    count_next = rw entries_turn (count_and entry (entries_from (k + 1)) ls rest rest_is)

    pub page_laid : (out : List ℕ) → page_bytes * pages.count ≤ length out
        → laid out (page_bytes * k) (bytes_of (pages_in (entries_from k) ls))
        ≡ laid (laid out (page_bytes * k) (slot_bytes (page_of entry) slots ls)) (page_bytes * (k + 1)) (bytes_of (pages_in (entries_from (k + 1)) rest))
    page_laid out room =
        let bytes : List ℕ = slot_bytes (page_of entry) slots ls in
        let later : List ℕ = bytes_of (pages_in (entries_from (k + 1)) rest) in
        let long : length bytes ≡ page_bytes = values_long (page_of entry) slots ls in
        let next : page_bytes * k + page_bytes ≡ page_bytes * (k + 1) = omega arith in
        rw (entries_turn, bytes_and entry (entries_from (k + 1)) ls rest rest_is, laid_turn out (page_bytes * k) bytes later (omega arith), long, next)

  -- no page is left
  module _ (k : ℕ) (end : pages.count ≤ k) (ls : List (List ℕ)) where
    pub past_end : past_pages (entries_from k) ls ≡ ls
    unfolding past_pages
    past_end = rw (entries_end k end)

    pub count_end : word_count (entries_from k) ls ≡ 0
    unfolding word_count
    count_end = rw (entries_end k end)

    pub laid_end : (out : List ℕ) → laid out (page_bytes * k) (bytes_of (pages_in (entries_from k) ls)) ≡ out
    unfolding pages_in bytes_of
    laid_end out = rw (entries_end k end) (laid_nil out (page_bytes * k))
