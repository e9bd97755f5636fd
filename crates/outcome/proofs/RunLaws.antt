-- The run that is left is not refused, and its sheet has room. Assumes nothing.
use Rattle.std.proofs.Common.{◌≡◌, ℕ, ◌-◌, ◌*◌, ◌≤◌, min, Bool, true, false, leb, List, length, take, drop, Ok, Err, Result, sym, refl, ap, ◌∙◌, arith, length-drop, drop_of_length-le, take_all, le-leb, leb-false, leb-true}
use Rattle.std.specs.Result.{result_unwrap_or}
use Rattle.numbers.specs.Buffers.{laid}
use Rattle.numbers.proofs.Laws.{laid_front, length_laid}
use Rattle.processor.specs.State.{in_range}
use Rattle.processor.specs.Layout.{state_of, words_of}
use Rattle.state_words.specs.Formed.{formed, good_state}
use Rattle.processor.specs.declared.state.State.{State}
use Rattle.replay.specs.Run.{Run, input_of, replayed}
use Rattle.claims.proofs.RangesProof.{run_stays_in_range}
use Rattle.sheet.specs.Lent.{Buffers, tested}
use Rattle.sheet.specs.Sheets.{saved_of, text}
use Rattle.sheet.proofs.TestedLaws.{passes, passed}
use Rattle.sheet_write.specs.Writes.{Written, printed, writes}
use Rattle.sheet_write.specs.declared.text.WriteError.{WriteError}
use Rattle.sheet_claims.proofs.LentBuffersProof.{longest_text}
use Rattle.outcome.specs.Outcome.{text_limit}

-- ---- writing it

-- what a writer's answer says of a text and of its buffer, where only one answer can be
abbrev pub PutBy : Result ℕ WriteError → List ℕ → List ℕ → Type 0
PutBy (Ok long) whole after = (long ≤ length after) × (take long after ≡ whole)
PutBy (Err error) whole after = ⊥

module _ (left : Buffers) (pass : tested left ≡ Ok tt) where
  pub left_put : (out : List ℕ) → text_limit ≤ length out → (answer : Result ℕ WriteError) (after : List ℕ) → record { answer = answer; text = after } ≡ writes left out → PutBy answer (text (saved_of left)) after
  unfolding writes printed
  left_put out room answer after e =
      let whole : List ℕ = text (saved_of left) in
      let fits : length whole ≤ length out = omega (arith, longest_text left pass) in
      let done : ◌≡◌ {A = Written} (record { answer = answer; text = after }) (record { answer = Ok (length whole); text = laid out 0 whole }) =
      e ∙ rw (pass, le-leb (length whole) (length out) fits)
      in
      let now = ap (λ (w : Written). w.text) done in
      rw (ap (λ (w : Written). w.answer) done) (
        rw (now, length_laid out 0 whole (omega arith)) fits,
        rw now (laid_front out whole (length whole) refl),
      )

-- and of the front that is said to be written, which is empty where the writer fails
pub put_front : (answer : Result ℕ WriteError) (whole after : List ℕ) → PutBy answer whole after
    → let long : ℕ = result_unwrap_or answer 0 in
    (long ≤ length after) × (take long after ≡ whole)
put_front (Ok long) whole after put = put
put_front (Err error) whole after put = absurd put

-- ---- what a run leaves

-- the words of a state are good where it is in range
pub good_words : (s : State) → good_state (words_of s) ≡ in_range s
unfolding good_state formed state_of
good_words s = refl

pub left_passes : (start : State) (pages bytes words : List ℕ) → tested (record { state = words_of start; pages = pages; bytes = bytes; words = words }) ≡ Ok tt
    → (r : Run) → r ≡ replayed (input_of start pages bytes words)
    → (after rest : List ℕ) → length after ≡ length bytes → rest ≡ drop (4 * r.count) words
    → tested (record { state = words_of r.state; pages = pages; bytes = after; words = rest }) ≡ Ok tt
left_passes start pages bytes words pass r e after rest same left =
    let p = passes (record { state = words_of start; pages = pages; bytes = bytes; words = words }) pass in
    let fewer = ap length left ∙ length-drop (4 * r.count) words in
    passed (record { state = words_of r.state; pages = pages; bytes = after; words = rest })
    (record {
      list = rw same p.list;
      state = good_words r.state ∙ rw e (run_stays_in_range (input_of start pages bytes words) (sym (good_words start) ∙ p.state));
      whole = omega arith;
      few = omega arith;
    })

-- past the end nothing is left
pub nothing_left : (words count : ℕ) (list : List ℕ) → length list ≡ words → drop (min (4 * count) words) list ≡ drop (4 * count) list
nothing_left words count list long = go (leb (4 * count) words) refl
  where
    go : (t : Bool) → leb (4 * count) words ≡ t → drop (min (4 * count) words) list ≡ drop (4 * count) list
    go true e =
        let few = leb-true (4 * count) words e in
        let all : min (4 * count) words ≡ 4 * count = omega arith in
        rw all
    go false e =
        let more = leb-false (4 * count) words e in
        let here : length list ≤ min (4 * count) words = omega arith in
        let there : length list ≤ 4 * count = omega arith in
        drop_of_length-le list here ∙ sym (drop_of_length-le list there)

-- the words that are left, as the code has them
pub left_words : (words : List ℕ) (done count : ℕ) → ((list : List ℕ) → length list ≡ length words → drop done list ≡ drop (4 * count) list)
    → take (length words - done) (drop done words) ≡ drop (4 * count) words
left_words words done count same =
    let few : length (drop done words) ≤ length words - done = rw (length-drop done words) (omega arith) in
    take_all (length words - done) (drop done words) few ∙ same words refl
