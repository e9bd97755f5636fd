-- The laws of the access language for the crates above: what each word of it does, by what the code found. Assumes nothing.
--
--     passed, halted          `unless`: the test passes, or the fault comes
--     entered, skipped        `only_if`
--     loaded, not_loaded      `load`, by what the memory's load gave; `against` holds a failure against the access, as that load does
--     touched, not_touched    `touch`, likewise
--     stored, not_stored      `store`, by what trying gave
--     made, not_made          what the memory's store leaves, likewise
--     all_stored, none_stored    stores given as a list, `put_all`, by what trying them gave
--     blamed                  the fault that `?` makes of an access that cannot be done
--     continues, breaks       one program after another, by how the first ends
--     completes, faults       a whole operation, by how its program ends
--     some_bytes, long_small, product    small numbers
use Rattle.std.proofs.Common.{ℕ, ◌*◌, ◌^◌, ◌<◌, ◌≤◌, ◌≡◌, refl, ◌∙◌, ap, Bool, true, false, cond, List, [], ◌∷◌, rules, Result, Ok, Err, IsErrAnd, arith}
use Rattle.numbers.specs.Numbers.{byte_count}
use Rattle.numbers.specs.declared.size.Size.{Size}
use Rattle.numbers.specs.declared.size.Size.TheVariants.{Four, Eight}
use Rattle.accesses.specs.Access.{probe, value, written, loaded_if, stored_if, load as load_at, store as store_at}
use Rattle.pages.specs.Pages.{Lookup}
use Rattle.accesses.specs.declared.access.Access.{Access}
use Rattle.accesses.specs.declared.reach.Failure.{Failure}
use Rattle.memory.specs.Blocked.{against}
use Rattle.memory.specs.declared.blocked.Blocked.{Blocked}
use Rattle.stores.specs.Stores.{then_try, try_all, written_all}
use Rattle.stores.specs.declared.Store.{Store}
use Rattle.answers.specs.Blame.{blame}
use Rattle.processor.specs.Prog.{Prog, done, stop, fetch, put, ◌>>=◌, ◌>>◌, load, touch, store, unless, only_if, Ending, ended, broken, on_reach, interp, operate}
use Rattle.answers.specs.declared.answer.Answer.TheVariants.{Completed, Faulted}
use Rattle.answers.specs.declared.answer.Fault.{Fault}
use Rattle.processor.specs.State.{is_long, long_bit}
use Rattle.processor.specs.declared.state.State.{State}

-- how a program goes on from what came of an access or of some stores
go_on : {A B : Type 0} → Result B Blocked → (B → Ending A) → Ending A
go_on (Ok found) go = go found
go_on (Err b) go = broken (blame b.access b.failure)

module _ (look : Lookup) (bytes : List ℕ) {A : Type 0} where
  pub passed : (t : Bool) (fault : Fault) (p : Prog A) → t ≡ true → interp look (unless t fault >> p) bytes ≡ interp look p bytes
  unfolding ◌>>=◌
  passed t fault p e = rw e

  pub halted : (t : Bool) (fault : Fault) (p : Prog A) → t ≡ false → interp look (unless t fault >> p) bytes ≡ broken fault
  unfolding ◌>>=◌ interp
  halted t fault p e = rw e

  pub entered : (t : Bool) (q : Prog (Unit {0})) (p : Prog A) → t ≡ true → interp look (only_if t q >> p) bytes ≡ interp look (q >> p) bytes
  entered t q p e = rw e

  pub skipped : (t : Bool) (q : Prog (Unit {0})) (p : Prog A) → t ≡ false → interp look (only_if t q >> p) bytes ≡ interp look p bytes
  unfolding ◌>>=◌
  skipped t q p e = rw e

  fetched : (a : Access) (k : ℕ → Prog A) → interp look (fetch a k) bytes ≡ go_on (against a (load_at look bytes a)) (λ v. interp look (k v) bytes)
  unfolding interp load_at go_on
  fetched a k = go (probe look a) (value look bytes a)
    where
      go : (r : Result (Unit {0}) Failure) (v : ℕ) → on_reach a r (interp look (k v) bytes) ≡ go_on (against a (loaded_if r v)) (λ w. interp look (k w) bytes)
      go (Ok x) v = refl
      go (Err failure) v = refl

  set : (a : Access) (v : ℕ) (p : Prog A) → interp look (put a v p) bytes ≡ go_on (against a (probe look a)) (λ x. interp look p (written look a v bytes))
  unfolding interp go_on
  set a v p = go (probe look a)
    where
      go : (r : Result (Unit {0}) Failure) → on_reach a r (interp look p (written look a v bytes)) ≡ go_on (against a r) (λ x. interp look p (written look a v bytes))
      go (Ok x) = refl
      go (Err failure) = refl

  pub loaded : (a : Access) (f : ℕ → Prog A) (v : ℕ) → against a (load_at look bytes a) ≡ Ok v → interp look (load a >>= f) bytes ≡ interp look (f v) bytes
  unfolding ◌>>=◌ go_on
  loaded a f v e = fetched a f ∙ rw e

  pub not_loaded : (a : Access) (f : ℕ → Prog A) (b : Blocked) → against a (load_at look bytes a) ≡ Err b → interp look (load a >>= f) bytes ≡ broken (blame b.access b.failure)
  unfolding ◌>>=◌ go_on
  not_loaded a f b e = fetched a f ∙ rw e

  pub touched : (a : Access) (p : Prog A) (v : ℕ) → against a (load_at look bytes a) ≡ Ok v → interp look (touch a >> p) bytes ≡ interp look p bytes
  unfolding ◌>>=◌ go_on
  touched a p v e = fetched a (λ v. p) ∙ rw e

  pub not_touched : (a : Access) (p : Prog A) (b : Blocked) → against a (load_at look bytes a) ≡ Err b → interp look (touch a >> p) bytes ≡ broken (blame b.access b.failure)
  unfolding ◌>>=◌ go_on
  not_touched a p b e = fetched a (λ v. p) ∙ rw e

  pub stored : (a : Access) (v : ℕ) (p : Prog A) → against a (probe look a) ≡ Ok tt → interp look (store a v >> p) bytes ≡ interp look p (written look a v bytes)
  unfolding ◌>>=◌ go_on
  stored a v p e = set a v p ∙ rw e

  pub not_stored : (a : Access) (v : ℕ) (p : Prog A) (b : Blocked) → against a (probe look a) ≡ Err b → interp look (store a v >> p) bytes ≡ broken (blame b.access b.failure)
  unfolding ◌>>=◌ go_on
  not_stored a v p b e = set a v p ∙ rw e

-- what the memory's store leaves, by what came of it
module _ (look : Lookup) (a : Access) (v : ℕ) (bytes : List ℕ) where
  pub made : against a (probe look a) ≡ Ok tt → store_at look a v bytes ≡ written look a v bytes
  unfolding store_at
  made = go (probe look a)
    where
      go : (r : Result (Unit {0}) Failure) → against a r ≡ Ok tt → stored_if r (written look a v bytes) bytes ≡ written look a v bytes
      go (Ok x) e = refl
      go (Err failure) e = search rules

  pub not_made : (b : Blocked) → against a (probe look a) ≡ Err b → store_at look a v bytes ≡ bytes
  unfolding store_at
  not_made b = go (probe look a)
    where
      go : (r : Result (Unit {0}) Failure) → against a r ≡ Err b → stored_if r (written look a v bytes) bytes ≡ bytes
      go (Ok x) e = search rules
      go (Err failure) e = refl

module _ (look : Lookup) (p : Prog State) (s : State) (bytes : List ℕ) where
  pub completes : (after : State) (left : List ℕ) → interp look p bytes ≡ ended after left → operate look p s bytes ≡ record { answer = Completed; state = after; bytes = left }
  unfolding operate
  completes after left e = rw e

  pub faults : (fault : Fault) → interp look p bytes ≡ broken fault → operate look p s bytes ≡ record { answer = Faulted fault; state = s; bytes = bytes }
  unfolding operate
  faults fault e = rw e

-- a `?` on what an access or some stores gave hands back this fault
pub blamed : {A : Type 0} (r : Result A Fault) (b : Blocked) → IsErrAnd r (λ fault. fault ≡ blame b.access b.failure) → r ≡ Err (blame b.access b.failure)
blamed (Ok x) b h = absurd h
blamed (Err fault) b h = ap Err h

-- ---- one program after another

module _ (look : Lookup) {A B : Type 0} (f : A → Prog B) where
  after : Ending A → Ending B
  after (ended x left) = interp look (f x) left
  after (broken fault) = broken fault

  on_after : (a : Access) (r : Result (Unit {0}) Failure) (go : Ending A) → on_reach a r (after go) ≡ after (on_reach a r go)
  unfolding after
  on_after a (Ok x) go = refl
  on_after a (Err failure) go = refl

  bind : (p : Prog A) (bytes : List ℕ) → interp look (p >>= f) bytes ≡ after (interp look p bytes)
  unfolding ◌>>=◌ interp after
  bind (done x) bytes = refl
  bind (stop fault) bytes = refl
  bind (fetch a k) bytes = ap (on_reach a (probe look a)) (bind (k (value look bytes a)) bytes) ∙ on_after a (probe look a) _
  bind (put a v p) bytes = ap (on_reach a (probe look a)) (bind p (written look a v bytes)) ∙ on_after a (probe look a) _

  -- the first ends, and the second goes on from there
  pub continues : (p : Prog A) (bytes : List ℕ) (x : A) (left : List ℕ) → interp look p bytes ≡ ended x left → interp look (p >>= f) bytes ≡ interp look (f x) left
  unfolding after
  continues p bytes x left e = bind p bytes ∙ ap after e

  -- the first breaks off, and so does the whole
  pub breaks : (p : Prog A) (bytes : List ℕ) (fault : Fault) → interp look p bytes ≡ broken fault → interp look (p >>= f) bytes ≡ broken fault
  unfolding after
  breaks p bytes fault e = bind p bytes ∙ ap after e

-- ---- stores, given as a list

-- the stores of a list, one after the other
unfoldable pub put_all : List Store → Prog (Unit {0})
put_all [] = done tt
put_all (s ∷ rest) = put s.access s.value (put_all rest)

module _ (look : Lookup) {A : Type 0} (p : Prog A) where
  all_tried : (stores : List Store) (bytes : List ℕ) → interp look (put_all stores >> p) bytes ≡ go_on (try_all look stores) (λ x. interp look p (written_all look stores bytes))
  unfolding ◌>>=◌ interp put_all go_on try_all written_all
  all_tried [] bytes = refl
  all_tried (s ∷ rest) bytes = go (probe look s.access) (try_all look rest) (interp look p (written_all look rest (written look s.access s.value bytes))) (all_tried rest (written look s.access s.value bytes))
    where
      go : (r : Result (Unit {0}) Failure) (later : Result (Unit {0}) Blocked) {before : Ending A} (after : Ending A) → before ≡ go_on later (λ x. after)
          → on_reach s.access r before ≡ go_on (then_try (against s.access r) later) (λ x. after)
      go (Ok x) later after e = e
      go (Err failure) later after e = refl

  -- all can be made, and the rest goes on from the bytes that they leave
  pub all_stored : (stores : List Store) (bytes : List ℕ) → try_all look stores ≡ Ok tt → interp look (put_all stores >> p) bytes ≡ interp look p (written_all look stores bytes)
  unfolding go_on
  all_stored stores bytes e = all_tried stores bytes ∙ rw e

  -- one cannot be made: the first of them gives the fault
  pub none_stored : (stores : List Store) (bytes : List ℕ) (b : Blocked) → try_all look stores ≡ Err b → interp look (put_all stores >> p) bytes ≡ broken (blame b.access b.failure)
  unfolding go_on
  none_stored stores bytes b e = all_tried stores bytes ∙ rw e

-- ---- small numbers

pub some_bytes : (size : Size) → 0 < byte_count size
some_bytes Four = omega arith
some_bytes Eight = omega arith

pub long_small : (s : State) → long_bit s ≤ 1
long_small s = go (is_long s)
  where
    go : (t : Bool) → cond t 1 0 ≤ 1
    go true = omega arith
    go false = omega arith

-- up to 255 elements of a size fit a word
pub product : (size : Size) (n : ℕ) → n < 256 → byte_count size * n < 2 ^ 64
product Four n h = omega arith
product Eight n h = omega arith
