-- The pages of a valid list are saved whole; the list in ascending order, with its bytes, is valid again; and the buffers that a
-- run with a sheet fills are saved as that run. Assumes nothing.
use Rattle.std.proofs.Common.{◌≡◌, ℕ, suc, ◌*◌, ◌^◌, ◌<◌, Bool, false, List, [], ◌∷◌, length, drop, Ok, sym, refl, ap, ◌∙◌, arith, length-append, length-drop, length-take-le, take_at, drop_at}
use Rattle.std.specs.List.{list_any}
use Rattle.pages.specs.Pages.{page_bytes, bad_kind, bad_address, listing}
use Rattle.pages.proofs.Laws.{ValidList, valid_list, list_valid}
use Rattle.texts.specs.Digits.{Below}
use Rattle.sheet.specs.Sheets.{Page, Saved, WholePage, WholePages, Sheeted, pages_of, ascended, saved_of, entries_of, bytes_of, buffers_of}
use Rattle.sheet_claims.proofs.Bytes.{below_take, below_drop}
use Rattle.sheet_claims.proofs.LentPages.{lent_page, lent_entries, lent_every, lent_ascending}
use Rattle.sheet_claims.proofs.Ordered.{Every, every_ascended, length_ascended, any_every, every_any, ascending_apart, ascending_same}

-- ---- lengths

length_entries : (ps : List Page) → length (entries_of ps) ≡ length ps
unfolding entries_of
length_entries [] = refl
length_entries (p ∷ ps) = ap suc (length_entries ps)

length_bytes : (ps : List Page) → Every (λ p. length p.bytes ≡ page_bytes) ps → length (bytes_of ps) ≡ page_bytes * length ps
unfolding bytes_of
length_bytes [] all = refl
length_bytes (p ∷ ps) all = rw (length-append, all.0, length_bytes ps all.1) (omega arith)

every_whole : (ps : List Page) → Every WholePage ps → WholePages ps
unfolding WholePages
every_whole [] all = tt
every_whole (p ∷ ps) all = (all.0, every_whole ps all.1)

module _ (entries bytes : List ℕ) (is-valid : listing entries (length bytes) ≡ Ok tt) where
  tests : ValidList entries (length bytes)
  tests = valid_list entries (length bytes) is-valid

  lent_is : length bytes ≡ page_bytes * length entries
  lent_is = tests.whole

  page_long : (i : ℕ) → i < length entries → length (lent_page entries bytes i).bytes ≡ page_bytes
  page_long i h = let long = lent_is in length-take-le page_bytes (drop (page_bytes * i) bytes) (rw length-drop (omega arith))

  -- ---- valid again

  abbrev ps : List Page
  ps = ascended (pages_of entries bytes)

  length_ps : length ps ≡ length entries
  length_ps = length_ascended (pages_of entries bytes) ∙ sym (length_entries (pages_of entries bytes)) ∙ ap length (lent_entries entries bytes)

  lent_ps : length (bytes_of ps) ≡ length bytes
  lent_ps =
      let all = every_ascended (λ p. length p.bytes ≡ page_bytes) (pages_of entries bytes) (lent_every (λ p. length p.bytes ≡ page_bytes) entries bytes page_long) in
      length_bytes ps all ∙ ap (λ (n : ℕ). page_bytes * n) length_ps ∙ sym lent_is

  no_such_entry : (test : ℕ → Bool) → list_any test entries ≡ false → list_any test (entries_of ps) ≡ false
  no_such_entry test none =
      every_any test ps (every_ascended (λ p. test p.entry ≡ false) (pages_of entries bytes) (any_every test (pages_of entries bytes) (rw (lent_entries entries bytes) none)))

  pub ascended_valid : listing (entries_of ps) (length (bytes_of ps)) ≡ Ok tt
  ascended_valid =
      list_valid (entries_of ps) (length (bytes_of ps))
      (record {
        few = rw (length_entries ps, length_ps) tests.few;
        whole = rw (length_entries ps, length_ps, lent_ps) tests.whole;
        kinds = no_such_entry bad_kind tests.kinds;
        addresses = no_such_entry bad_address tests.addresses;
        apart = ascending_apart 0 ps (lent_ascending entries bytes is-valid);
      })

  -- ---- its pages are whole

  pub lent_whole : Below (2 ^ 64) entries → Below 256 bytes → WholePages ps
  unfolding Below
  lent_whole entries-small bytes_small = every_whole ps (every_ascended WholePage (pages_of entries bytes) (lent_every WholePage entries bytes page_whole))
    where
      page_whole : (i : ℕ) → i < length entries → WholePage (lent_page entries bytes i)
      page_whole i h = record {
        entry = entries-small i;
        long = page_long i h;
        bytes = below_take 256 page_bytes (drop (page_bytes * i) bytes) (below_drop 256 (page_bytes * i) bytes bytes_small);
      }

-- ---- from a sheet to the buffers and back

pub pages_back : (ps : List Page) → WholePages ps → pages_of (entries_of ps) (bytes_of ps) ≡ ps
unfolding WholePages pages_of entries_of bytes_of
pages_back [] whole = refl
pages_back (p ∷ ps) whole =
    let long = whole.0.long in
    rw (take_at p.bytes (bytes_of ps) page_bytes long, drop_at p.bytes (bytes_of ps) page_bytes long, pages_back ps whole.1)

pub saved_back : (s : Saved) → Sheeted s → saved_of (buffers_of s) ≡ s
unfolding saved_of
saved_back s h = rw (pages_back s.pages h.pages, ascending_same 0 s.pages h.ascending)
