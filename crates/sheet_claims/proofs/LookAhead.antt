-- Reading looks no further than the first line that it leaves: whatever stands behind that line, it is left. Assumes nothing.
use Rattle.std.proofs.Common.{◌≡◌, ℕ, zero, suc, ◌+◌, ◌<◌, ◌≤◌, Bool, true, false, cond, ◌&&◌, leb, List, [], ◌∷◌, ◌++◌, length, take, drop, refl, subst₂, arith, length-append, length-drop}
use Rattle.pages.specs.Pages.{page_of}
use Rattle.sheet.specs.Lines.{is_line}
use Rattle.sheet.specs.Sheets.{slots}
use Rattle.order.specs.Order.{page_number}
use Rattle.sheet.specs.Reading.{value, next, is_word, page_count, numbers, plain_count, past_plain, past_slot, past_slots, past_pages, stages}
use Rattle.sheet.specs.declared.line.Line.{Line}
use Rattle.sheet.specs.declared.line.Line.TheVariants.{Page as PageLine, Do}

-- In what follows `past` is what a stage leaves of some lines. Of xs and `l` it leaves ys and `l`, whatever follows them.
abbrev Left : (List (List ℕ) → List (List ℕ)) → List (List ℕ) → List ℕ → Type 0
Left past xs l = (ys : List (List ℕ)) × ((rest : List (List ℕ)) → past (xs ++ l ∷ rest) ≡ ys ++ l ∷ rest)

-- a stage that leaves `l` before some lines leaves it before any
record Looks (past : List (List ℕ) → List (List ℕ)) : Type 0 where
  shorter : (ls : List (List ℕ)) → length (past ls) ≤ length ls
  stops : (xs : List (List ℕ)) (l : List ℕ) (rest : List (List ℕ)) → length rest < length (past (xs ++ l ∷ rest)) → Left past xs l

nothing_taken : Looks (λ ls. ls)
nothing_taken = record { shorter = λ ls. omega arith; stops = λ xs l rest h. (xs, λ other. refl) }

one_after_other : (past₁ past₂ : List (List ℕ) → List (List ℕ)) → Looks past₁ → Looks past₂ → Looks (λ ls. past₂ (past₁ ls))
one_after_other past₁ past₂ looks₁ looks₂ = record {
  shorter = λ ls. let a = looks₁.shorter ls in let b = looks₂.shorter (past₁ ls) in omega arith;
  stops = λ xs l rest h.
      let b = looks₂.shorter (past₁ (xs ++ l ∷ rest)) in
      let first = looks₁.stops xs l rest (omega arith) in
      let second = looks₂.stops first.0 l rest (rw (first.1 rest) at h) in
      (second.0, λ other. rw (first.1 other) (second.1 other));
}

-- ---- words

looks_slot : (address : ℕ) → Looks (past_slot address)
unfolding past_slot
looks_slot address = record { shorter = λ ls. shorter ls (is_word address (next ls)); stops = stops }
  where
    shorter : (ls : List (List ℕ)) (t : Bool) → length (cond t (drop 1 ls) ls) ≤ length ls
    shorter ls true = rw length-drop (omega arith)
    shorter ls false = omega arith

    here : (l : List ℕ) (rest : List (List ℕ)) (t : Bool) → is_word address l ≡ t → length rest < length (cond t rest (l ∷ rest)) → Left (past_slot address) [] l
    here l rest true e h = absurd (omega arith)
    here l rest false e h = ([], λ other. rw e)

    later : (x : List ℕ) (xs : List (List ℕ)) (l : List ℕ) (t : Bool) → is_word address x ≡ t → Left (past_slot address) (x ∷ xs) l
    later x xs l true e = (xs, λ other. rw e)
    later x xs l false e = (x ∷ xs, λ other. rw e)

    stops : (xs : List (List ℕ)) (l : List ℕ) (rest : List (List ℕ)) → length rest < length (past_slot address (xs ++ l ∷ rest)) → Left (past_slot address) xs l
    stops [] l rest h = here l rest (is_word address l) refl h
    stops (x ∷ xs) l rest h = later x xs l (is_word address x) refl

looks_slots : (address n : ℕ) → Looks (past_slots address n)
unfolding past_slots
looks_slots address zero = nothing_taken
looks_slots address (suc n) = one_after_other (past_slot address) (past_slots (address + 8) n) (looks_slot address) (looks_slots (address + 8) n)

looks_words : (entries : List ℕ) → Looks (past_pages entries)
unfolding past_pages
looks_words [] = nothing_taken
looks_words (entry ∷ entries) = one_after_other (past_slots (page_of entry) slots) (past_pages entries) (looks_slots (page_of entry) slots) (looks_words entries)

-- ---- pages and instructions: lines are counted while a test passes, which may depend on the lines before

module _ (count : ℕ → List (List ℕ) → ℕ) (test : ℕ → List ℕ → Bool) (then : ℕ → List ℕ → ℕ)
    (count-cons : (k : ℕ) (l : List ℕ) (ls : List (List ℕ)) → count k (l ∷ ls) ≡ cond (test k l) (suc (count (then k l) ls)) 0) where
  -- how many of these lines are left
  abbrev uncounted : ℕ → List (List ℕ) → ℕ
  uncounted n ls = length (drop n ls)

  -- the lines taken, and those left before `l`
  abbrev Split : ℕ → List (List ℕ) → List ℕ → Type 0
  Split k xs l =
      (taken : List (List ℕ)) × (ys : List (List ℕ))
      × ((rest : List (List ℕ)) → (take (count k (xs ++ l ∷ rest)) (xs ++ l ∷ rest) ≡ taken) × (drop (count k (xs ++ l ∷ rest)) (xs ++ l ∷ rest) ≡ ys ++ l ∷ rest))

  here : (k : ℕ) (l : List ℕ) (rest : List (List ℕ)) (t : Bool) → test k l ≡ t → length rest < uncounted (cond t (suc (count (then k l) rest)) 0) (l ∷ rest) → Split k [] l
  here k l rest true e h = let long = length-drop (count (then k l) rest) rest in absurd (omega arith)
  here k l rest false e h = ([], [], λ other. rw (count-cons k l other, e) (refl, refl))

  later : (k : ℕ) (x : List ℕ) (xs : List (List ℕ)) (l : List ℕ) (rest : List (List ℕ)) (t : Bool) → test k x ≡ t
      → (length rest < uncounted (count (then k x) (xs ++ l ∷ rest)) (xs ++ l ∷ rest) → Split (then k x) xs l)
      → length rest < uncounted (cond t (suc (count (then k x) (xs ++ l ∷ rest))) 0) (x ∷ xs ++ l ∷ rest)
      → Split k (x ∷ xs) l
  later k x xs l rest true e after h =
      let split = after h in
      (x ∷ split.0, split.1, λ other. rw (count-cons k x (xs ++ l ∷ other), e, (split.2 other).0, (split.2 other).1) (refl, refl))
  later k x xs l rest false e after h = ([], x ∷ xs, λ other. rw (count-cons k x (xs ++ l ∷ other), e) (refl, refl))

  stops_count : (k : ℕ) (xs : List (List ℕ)) (l : List ℕ) (rest : List (List ℕ)) → length rest < uncounted (count k (xs ++ l ∷ rest)) (xs ++ l ∷ rest) → Split k xs l
  stops_count k [] l rest h = here k l rest (test k l) refl (rw (count-cons k l rest) at h)
  stops_count k (x ∷ xs) l rest h = later k x xs l rest (test k x) refl (stops_count (then k x) xs l rest) (rw (count-cons k x (xs ++ l ∷ rest)) at h)

looks_plain : (kind : Line) → Looks (past_plain kind)
unfolding plain_count
looks_plain kind = record {
  shorter = λ ls. rw length-drop (omega arith);
  stops = λ xs l rest h. let split = stops_count (λ k. plain_count kind) (λ k. is_line kind) (λ k l. k) (λ k l ls. refl) 0 xs l rest h in (split.1, λ other. (split.2 other).1);
}

-- ---- all stages

-- what is left behind the words and the instructions
abbrev left_behind : List ℕ → List (List ℕ) → List (List ℕ)
left_behind entries ls = past_plain Do (past_pages entries ls)

looks_behind : (entries : List ℕ) → Looks (left_behind entries)
looks_behind entries = one_after_other (past_pages entries) (past_plain Do) (looks_words entries) (looks_plain Do)

-- a line that is left is left whatever follows it
pub stages_stop : (xs : List (List ℕ)) (l : List ℕ) (rest other : List (List ℕ)) → length rest < length (stages (xs ++ l ∷ rest)).left → length other < length (stages (xs ++ l ∷ other)).left
unfolding stages page_count
stages_stop xs l rest other h =
    let c : ℕ = page_count 0 (xs ++ l ∷ rest) in
    let fewer = (looks_behind (numbers PageLine (take c (xs ++ l ∷ rest)))).shorter (drop c (xs ++ l ∷ rest)) in
    let first
    = stops_count page_count (λ k l. is_line PageLine l && leb k (page_number (value PageLine 0 l))) (λ k l. suc (page_number (value PageLine 0 l))) (λ k l ls. refl) 0 xs l rest (omega arith) in
    let second
    = (looks_behind (numbers PageLine first.0)).stops first.1 l rest
    (subst₂ (λ (taken left : List (List ℕ)). length rest < length (left_behind (numbers PageLine taken) left)) (first.2 rest).0 (first.2 rest).1 h) in
    rw ((first.2 other).0, (first.2 other).1, second.1 other, length-append) (omega arith)
