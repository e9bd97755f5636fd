-- A walk over a program of the access language, as a memory answers it: what holds of each load, each stop, each store and each end.
-- Each operation is walked once (..Walk); what a claim needs of it is read off there. Assumes nothing.
--
--     Rule, Walks                               what is said of a program's steps, and that it holds of all of them
--     end_walks, then_walks, tested_walks, ..   the words that operations are written in
--     weaker_walks                              a rule that says less
--     walked                                    how a program ends: at an end, at a stop, or at a load or a store that cannot be done
--     bytes_kept                                what every store keeps, the bytes that are left have
use Rattle.std.proofs.Common.{◌≡◌, ℕ, Bool, true, false, cond, List, Ok, Err, Result, refl}
use Rattle.accesses.specs.Access.{probe, value, written}
use Rattle.pages.specs.Pages.{Lookup}
use Rattle.accesses.specs.declared.access.Access.{Access}
use Rattle.accesses.specs.declared.reach.Failure.{Failure}
use Rattle.answers.specs.Blame.{blame}
use Rattle.answers.specs.declared.answer.Fault.{Fault}
use Rattle.processor.specs.Prog.{Prog, done, stop, fetch, put, ◌>>=◌, ◌>>◌, load, touch, store, unless, only_if, Ending, ended, broken, on_reach, interp}

-- what is said of a program: of the accesses that it loads, the faults that it stops with, the accesses that it stores with their values,
-- and of what it ends with
pub record Rule (A : Type 0) : Type 1 where
  pub loads : Access → Type 0
  pub stops : Fault → Type 0
  pub stores : Access → ℕ → Type 0
  pub ends : A → Type 0

-- it holds on the way that the program goes from these bytes on; a load gives what they hold
unfoldable pub Walks : {A : Type 0} → Lookup → Rule A → Prog A → List ℕ → Type 0
Walks look rule (done x) bytes = rule.ends x
Walks look rule (stop fault) bytes = rule.stops fault
Walks look rule (fetch a k) bytes = rule.loads a × Walks look rule (k (value look bytes a)) bytes
Walks look rule (put a v p) bytes = rule.stores a v × Walks look rule p (written look a v bytes)

-- a rule with another word on the ends
abbrev pub ending_in : {A B : Type 0} → Rule A → (B → Type 0) → Rule B
ending_in rule ends = record { loads = rule.loads; stops = rule.stops; stores = rule.stores; ends = ends }

-- of any program: nothing is said
abbrev pub anything : {A : Type 0} → Rule A
anything = record { loads = λ a. Unit {0}; stops = λ fault. Unit {0}; stores = λ a v. Unit {0}; ends = λ x. Unit {0} }

pub any_walks : {A : Type 0} (look : Lookup) (p : Prog A) (bytes : List ℕ) → Walks look anything p bytes
unfolding Walks
any_walks look (done x) bytes = tt
any_walks look (stop fault) bytes = tt
any_walks look (fetch a k) bytes = (tt, any_walks look (k (value look bytes a)) bytes)
any_walks look (put a v p) bytes = (tt, any_walks look p (written look a v bytes))

-- ---- the words that operations are written in

module _ (look : Lookup) {B : Type 0} (rule : Rule B) where
  pub end_walks : (x : B) (bytes : List ℕ) → rule.ends x → Walks look rule (done x) bytes
  unfolding Walks
  end_walks x bytes ends = ends

  -- one program, then another, from whatever bytes the first leaves
  pub then_walks : {A : Type 0} (Q : A → Type 0) (p : Prog A) (f : A → Prog B) (bytes : List ℕ)
      → Walks look (ending_in rule Q) p bytes → ((x : A) (left : List ℕ) → Q x → Walks look rule (f x) left) → Walks look rule (p >>= f) bytes
  unfolding Walks ◌>>=◌
  then_walks Q (done x) f bytes first next = next x bytes first
  then_walks Q (stop fault) f bytes first next = first
  then_walks Q (fetch a k) f bytes first next = (first.0, then_walks Q (k (value look bytes a)) f bytes first.1 next)
  then_walks Q (put a v p) f bytes first next = (first.0, then_walks Q p f (written look a v bytes) first.1 next)

  -- past a test: it has passed
  pub tested_walks : (t : Bool) (fault : Fault) (p : Prog B) (bytes : List ℕ) → rule.stops fault → (t ≡ true → Walks look rule p bytes) → Walks look rule (unless t fault >> p) bytes
  unfolding Walks ◌>>=◌
  tested_walks true fault p bytes stops next = next refl
  tested_walks false fault p bytes stops next = stops

  pub load_walks : (a : Access) (f : ℕ → Prog B) (bytes : List ℕ) → rule.loads a → Walks look rule (f (value look bytes a)) bytes → Walks look rule (load a >>= f) bytes
  unfolding Walks ◌>>=◌
  load_walks a f bytes loads next = (loads, next)

  pub touch_walks : (a : Access) (p : Prog B) (bytes : List ℕ) → rule.loads a → Walks look rule p bytes → Walks look rule (touch a >> p) bytes
  unfolding Walks ◌>>=◌
  touch_walks a p bytes loads next = (loads, next)

  pub store_walks : (a : Access) (v : ℕ) (p : Prog B) (bytes : List ℕ) → rule.stores a v → Walks look rule p (written look a v bytes) → Walks look rule (store a v >> p) bytes
  unfolding Walks ◌>>=◌
  store_walks a v p bytes stores next = (stores, next)

  -- what is done only where a test passes
  pub only_walks : (t : Bool) (q : Prog (Unit {0})) (p : Prog B) (bytes : List ℕ)
      → (t ≡ true → Walks look rule (q >> p) bytes) → (t ≡ false → Walks look rule p bytes) → Walks look rule (only_if t q >> p) bytes
  unfolding ◌>>=◌
  only_walks true q p bytes there past = there refl
  only_walks false q p bytes there past = past refl

  -- whichever of two a test picks
  pub picked_walks : (t : Bool) (p q : Prog B) (bytes : List ℕ) → (t ≡ true → Walks look rule p bytes) → (t ≡ false → Walks look rule q bytes) → Walks look rule (cond t p q) bytes
  picked_walks true p q bytes first second = first refl
  picked_walks false p q bytes first second = second refl

-- ---- a rule that says less

pub record Weaker {A : Type 0} (rule other : Rule A) : Type 0 where
  pub loads : (a : Access) → rule.loads a → other.loads a
  pub stops : (fault : Fault) → rule.stops fault → other.stops fault
  pub stores : (a : Access) (v : ℕ) → rule.stores a v → other.stores a v
  pub ends : (x : A) → rule.ends x → other.ends x

pub weaker_walks : {A : Type 0} (look : Lookup) (rule other : Rule A) → Weaker rule other → (p : Prog A) (bytes : List ℕ) → Walks look rule p bytes → Walks look other p bytes
unfolding Walks
weaker_walks look rule other less (done x) bytes walk = less.ends x walk
weaker_walks look rule other less (stop fault) bytes walk = less.stops fault walk
weaker_walks look rule other less (fetch a k) bytes walk = (less.loads a walk.0, weaker_walks look rule other less (k (value look bytes a)) bytes walk.1)
weaker_walks look rule other less (put a v p) bytes walk = (less.stores a v walk.0, weaker_walks look rule other less p (written look a v bytes) walk.1)

-- ---- how a program ends

-- what it breaks off with: a stop of its own, or a load or a store that cannot be done
pub data Breaks {A : Type 0} (rule : Rule A) : Fault → Type 0 where
  at_stop : {fault : Fault} → rule.stops fault → Breaks rule fault
  at_load : (a : Access) (failure : Failure) → rule.loads a → Breaks rule (blame a failure)
  at_store : (a : Access) (v : ℕ) (failure : Failure) → rule.stores a v → Breaks rule (blame a failure)

-- the bytes that are left: those from before where it broke off
abbrev pub left : {A : Type 0} → Ending A → List ℕ → List ℕ
left (ended x after) before = after
left (broken fault) before = before

abbrev pub Walked : {A : Type 0} → Rule A → Ending A → Type 0
Walked rule (ended x left) = rule.ends x
Walked rule (broken fault) = Breaks rule fault

module _ {A : Type 0} (look : Lookup) (rule : Rule A) where
  -- an access, and what comes after it
  reached : (a : Access) (r : Result (Unit {0}) Failure) (go : Ending A) → ((failure : Failure) → Breaks rule (blame a failure)) → Walked rule go → Walked rule (on_reach a r go)
  reached a (Ok x) go fails rest = rest
  reached a (Err failure) go fails rest = fails failure

  pub walked : (p : Prog A) (bytes : List ℕ) → Walks look rule p bytes → Walked rule (interp look p bytes)
  unfolding Walks interp
  walked (done x) bytes walk = walk
  walked (stop fault) bytes walk = at_stop walk
  walked (fetch a k) bytes walk = reached a (probe look a) _ (λ failure. at_load a failure walk.0) (walked (k (value look bytes a)) bytes walk.1)
  walked (put a v p) bytes walk = reached a (probe look a) _ (λ failure. at_store a v failure walk.0) (walked p (written look a v bytes) walk.1)

  -- `before` are the bytes that are left where the program breaks off
  module _ (Q : List ℕ → Type 0) (before : List ℕ) (start : Q before) where
    -- an access, and what comes after it if it can be done
    went_on : (a : Access) (r : Result (Unit {0}) Failure) (go : Ending A) → probe look a ≡ r → (probe look a ≡ Ok tt → Q (left go before)) → Q (left (on_reach a r go) before)
    went_on a (Ok x) go e rest = rest e
    went_on a (Err failure) go e rest = start

    pub bytes_kept : ((a : Access) (v : ℕ) (bytes : List ℕ) → rule.stores a v → probe look a ≡ Ok tt → Q bytes → Q (written look a v bytes))
        → (p : Prog A) (bytes : List ℕ) → Walks look rule p bytes → Q bytes → Q (left (interp look p bytes) before)
    unfolding Walks interp
    bytes_kept keeps (done x) bytes walk now = now
    bytes_kept keeps (stop fault) bytes walk now = start
    bytes_kept keeps (fetch a k) bytes walk now = went_on a (probe look a) _ refl (λ e. bytes_kept keeps (k (value look bytes a)) bytes walk.1 now)
    bytes_kept keeps (put a v p) bytes walk now = went_on a (probe look a) _ refl (λ e. bytes_kept keeps p (written look a v bytes) walk.1 (keeps a v bytes walk.0 e now))
