-- The words of a state, and the call as the code has it. Assumes nothing.
use Rattle.std.proofs.Common.{ℕ, zero, suc, ◌+◌, ◌≤◌, ◌<◌, Bool, false, List, [], ◌∷◌, length, get_or, drop, ◌≡◌, refl, sym, ◌∙◌, arith, Result, Ok, Err, Some, None}
use lib.ListN.{drop_of_length-le}
use lib.Seq.{drop-cons}
use borrow.Author.Tests.{lt-ltb, le-ltb}
use Rattle.numbers.specs.Buffers.{laid_if}
use Rattle.numbers.proofs.Laws.{laid_if_lem, laid_whole}
use Rattle.pages.specs.Pages.{listing}
use Rattle.pages.specs.declared.pages.ListError.{ListError}
use Rattle.answers.specs.Answer.{refusal_for}
use Rattle.answers.specs.declared.answer.Refusal.{Refusal}
use Rattle.answers.specs.declared.answer.Refusal.TheVariants.{State as BadState}
use Rattle.processor.specs.State.{in_range}
use Rattle.processor.specs.Layout.{fields, state_of, words_of}
use Rattle.state_words.specs.Formed.{formed}
use Rattle.processor.specs.declared.state.State.{State}
use Rattle.state_words.proofs.Laws.{formed_whole, good_whole, good_none}
use Rattle.replay.specs.Run.{input_of, after_pages, check_by, check, run, replayed}
use Rattle.driftpocket.specs.Crossing.{report_length, Crossing, unreported, by_tests, ran, crossed}

-- ---- the words of a state

elements : List ℕ → ℕ → ℕ → List ℕ
elements words i zero = []
elements words i (suc n) = get_or words i 0 ∷ elements words (suc i) n

elements_rest : (words : List ℕ) (i n : ℕ) → i + n ≡ length words → elements words i n ≡ drop i words
unfolding elements
elements_rest words i zero e = sym (drop_of_length-le words {i = i} (omega arith))
elements_rest words i (suc n) e = rw (drop-cons words i 0 (omega arith), elements_rest words (suc i) n (omega arith))

-- a state made of ten words has these words
pub same_words : (words : List ℕ) → length words ≡ fields → words_of (state_of words) ≡ words
unfolding state_of elements
same_words words ten = elements_rest words 0 fields (omega arith)

-- a buffer of ten words holds the words of the state that is written there
pub written_words : (state : List ℕ) (start s : State) → formed state ≡ Some start → laid_if state 0 (words_of s) ≡ words_of s
written_words state start s whole =
    let ten = (formed_whole state start whole).0 in
    laid_if_lem state 0 (words_of s) (omega arith) ∙ laid_whole (words_of s) state ten

-- ---- the call, as the code has it: with no state, with a report that is too short, and run

-- the tests are not passed where there is no state
fails : (found : Result (Unit {0}) ListError) → (refusal : Refusal) × (after_pages found (Err BadState) ≡ Err refusal)
fails (Ok x) = (BadState, refl)
fails (Err error) = (refusal_for error, refl)

module _ (state pages bytes words report : List ℕ) where
  abbrev tests : Bool → Result (Unit {0}) Refusal
  tests good = check_by pages (length bytes) good (length words)

  abbrev whole_run : Crossing
  whole_run = ran report (replayed (input_of (state_of state) pages bytes words))

  pub crossed_never : formed state ≡ None → by_tests (tests false) state bytes report (unreported state bytes report) ≡ crossed state pages bytes words report
  unfolding crossed check_by
  crossed_never none = rw (good_none state none, (fails (listing pages (length bytes))).1)

  module _ (start : State) (whole : formed state ≡ Some start) where
    pub crossed_short : length report < report_length
        → by_tests (tests (in_range start)) state bytes report (unreported state bytes report) ≡ crossed state pages bytes words report
    unfolding crossed
    crossed_short short = let (ten, same) = formed_whole state start whole in rw (same, good_whole state ten, lt-ltb _ _ short)

    -- a run makes the tests itself, and leaves all as it was where they are not passed
    pub crossed_run : report_length ≤ length report → ran report (replayed (input_of start pages bytes words)) ≡ crossed state pages bytes words report
    unfolding crossed run check
    crossed_run room =
        let (ten, same) = formed_whole state start whole in
        rw (same, good_whole state ten, le-ltb _ _ room) (go ten (tests (in_range (state_of state))) refl)
      where
        go : length state ≡ fields → (tested : Result (Unit {0}) Refusal) → tests (in_range (state_of state)) ≡ tested → whole_run ≡ by_tests tested state bytes report whole_run
        go ten (Ok x) e = refl
        go ten (Err refusal) e = rw (e, same_words state ten)
