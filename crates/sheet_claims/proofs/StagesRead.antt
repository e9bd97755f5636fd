-- The lines of a printed sheet, read back stage by stage: nothing is left. Assumes nothing.
use Rattle.std.proofs.Common.{◌≡◌, ℕ, suc, false, List, [], ◌∷◌, ◌++◌, length, refl, ap, append-nil, le-leb}
use lib.Seq.{take-append_seam, drop-append_seam}
use Rattle.sheet.specs.Lines.{line, is_line}
use Rattle.sheet.specs.Sheets.{Page, Saved, Sheeted, Ascending, WholePages, pages_words, page_lines, entries_of, all_plain}
use Rattle.order.specs.Order.{page_number}
use Rattle.sheet.specs.Reading.{next, page_count, numbers, stages}
use Rattle.sheet.specs.declared.line.Line.{Line}
use Rattle.sheet.specs.declared.line.Line.TheVariants.{Page as PageLine, Word, Do}
use Rattle.sheet.proofs.LineLaws.{is_line_line, values_line}
use Rattle.sheet_claims.proofs.Plain.{none_next, stage_read}
use Rattle.sheet_claims.proofs.LineKinds.{differ, no_other, no_line, one_below, word_line_lem, no_word}
use Rattle.sheet_claims.proofs.WordsRead.{next_of_pages, pages_read}

-- ---- pages

no_page : (least : ℕ) (rest : List (List ℕ)) → is_line PageLine (next rest) ≡ false → page_count least rest ≡ 0
unfolding page_count
no_page least [] other = refl
no_page least (l ∷ rest) other = rw other

pages_counted : (least : ℕ) (ps : List Page) (rest : List (List ℕ)) → Ascending least ps → WholePages ps → is_line PageLine (next rest) ≡ false
    → page_count least (page_lines ps ++ rest) ≡ length (page_lines ps)
unfolding page_count page_lines Ascending WholePages
pages_counted least [] rest up whole other = no_page least rest other
pages_counted least (p ∷ ps) rest up whole other =
    let small = one_below p.entry whole.0.entry in
    rw (is_line_line PageLine (p.entry ∷ []) refl small, values_line PageLine (p.entry ∷ []) refl small, le-leb least (page_number p.entry) up.0)
    (ap suc (pages_counted (suc (page_number p.entry)) ps rest up.1 whole.1 other))

entries_read : (ps : List Page) → WholePages ps → numbers PageLine (page_lines ps) ≡ entries_of ps
unfolding numbers page_lines entries_of WholePages
entries_read [] whole = refl
entries_read (p ∷ ps) whole = rw (values_line PageLine (p.entry ∷ []) refl (one_below p.entry whole.0.entry), entries_read ps whole.1)

-- ---- all stages

module _ (s : Saved) (h : Sheeted s) where
  abbrev dos : List (List ℕ)
  dos = all_plain Do s.words

  -- nothing follows the instructions
  behind_words_lem : (kind : Line) → (Do ≡ kind → ⊥) → is_line kind (next dos) ≡ false
  behind_words_lem kind no-dos = rw append-nil at (none_next Do s.words h.whole h.words kind [] no-dos (no_line kind))

  -- what follows the pages is neither word nor instruction
  behind_pages_lem : (kind : Line) → (Word ≡ kind → ⊥) → (Do ≡ kind → ⊥) → is_line kind (next (pages_words s.pages ++ dos)) ≡ false
  behind_pages_lem kind no_words no-dos =
      next_of_pages (λ l. is_line kind l ≡ false) 0 s.pages dos h.ascending h.pages
      (λ a v low a_small v_small. no_other Word kind (line Word (a ∷ v ∷ [])) (word_line_lem a v a_small v_small) no_words) (behind_words_lem kind no-dos)

  pub stages_read : stages (page_lines s.pages ++ (pages_words s.pages ++ dos)) ≡ record { pages = s.pages; words = s.words; left = [] }
  unfolding stages
  stages_read =
      let other = behind_pages_lem PageLine (differ Word PageLine refl) (differ Do PageLine refl) in
      let counted = pages_counted 0 s.pages (pages_words s.pages ++ dos) h.ascending h.pages other in
      let no_words = behind_words_lem Word (differ Do Word refl) in
      let words = pages_read 0 s.pages dos h.ascending h.pages (λ a. no_word a (next dos) no_words) in
      let steps = rw append-nil at (stage_read Do s.words h.whole h.words [] (no_line Do)) in
      rw (counted, take-append_seam (page_lines s.pages), drop-append_seam (page_lines s.pages), entries_read s.pages h.pages)
      (rw (words.0, words.1, steps.0, steps.1))
