-- The access language: an operation is a little program of loads and stores, and never looks at memory by itself. The interpreter
-- says once, for all operations, that the first access that cannot be done decides and that then nothing is stored. Assumes nothing.
use Rattle.std.specs.Prelude.{ℕ, Bool, cond, List, Result, Ok, Err}
use Rattle.accesses.specs.Access.{probe, value, written}
use Rattle.pages.specs.Pages.{Lookup}
use Rattle.accesses.specs.declared.access.Access.{Access}
use Rattle.accesses.specs.declared.reach.Failure.{Failure}
use Rattle.answers.specs.Blame.{blame}
use Rattle.answers.specs.declared.answer.Answer.{Answer}
use Rattle.answers.specs.declared.answer.Answer.TheVariants.{Completed, Faulted}
use Rattle.answers.specs.declared.answer.Fault.{Fault}
use Rattle.processor.specs.declared.state.State.{State}

-- ---- the language

pub data Prog (A : Type 0) : Type 0 where
  done : A → Prog A
  stop : Fault → Prog A
  fetch : Access → (ℕ → Prog A) → Prog A
  put : Access → ℕ → Prog A → Prog A

infixl 20 ◌>>=◌ ◌>>◌
-- one program, then another
unfoldable pub ◌>>=◌ : {A B : Type 0} → Prog A → (A → Prog B) → Prog B
◌>>=◌ (done x) f = f x
◌>>=◌ (stop fault) f = stop fault
◌>>=◌ (fetch a k) f = fetch a (λ v. ◌>>=◌ (k v) f)
◌>>=◌ (put a v p) f = put a v (◌>>=◌ p f)

abbrev pub ◌>>◌ : {A B : Type 0} → Prog A → Prog B → Prog B
◌>>◌ p q = p >>= (λ x. q)

-- the words that operations are written in
abbrev pub load : Access → Prog ℕ
load a = fetch a done

-- a load whose value is not looked at
abbrev pub touch : Access → Prog (Unit {0})
touch a = fetch a (λ v. done tt)

abbrev pub store : Access → ℕ → Prog (Unit {0})
store a v = put a v (done tt)

-- the fault, unless the test passes
abbrev pub unless : Bool → Fault → Prog (Unit {0})
unless t fault = cond t (done tt) (stop fault)

-- do this only where the test passes
abbrev pub only_if : Bool → Prog (Unit {0}) → Prog (Unit {0})
only_if t p = cond t p (done tt)

-- ---- the interpreter

-- how a program ends: with what it hands back and the bytes that it leaves, or with a fault
pub data Ending (A : Type 0) : Type 0 where
  ended : A → List ℕ → Ending A
  broken : Fault → Ending A

-- by what trying an access finds
abbrev pub on_reach : {A : Type 0} → Access → Result (Unit {0}) Failure → Ending A → Ending A
on_reach a (Ok x) go = go
on_reach a (Err failure) go = broken (blame a failure)

unfoldable pub interp : {A : Type 0} → Lookup → Prog A → List ℕ → Ending A
interp look (done x) bytes = ended x bytes
interp look (stop fault) bytes = broken fault
interp look (fetch a k) bytes = on_reach a (probe look a) (interp look (k (value look bytes a)) bytes)
interp look (put a v p) bytes = on_reach a (probe look a) (interp look p (written look a v bytes))

-- ---- one operation

-- answer, state and bytes after an operation
pub record Step : Type 0 where
  pub answer : Answer
  pub state : State
  pub bytes : List ℕ

-- a fault gives back the state and the bytes from before it
abbrev pub settle : State → List ℕ → Ending State → Step
settle s bytes (ended after stored) = record { answer = Completed; state = after; bytes = stored }
settle s bytes (broken fault) = record { answer = Faulted fault; state = s; bytes = bytes }

unfoldable pub operate : Lookup → Prog State → State → List ℕ → Step
operate look p s bytes = settle s bytes (interp look p bytes)
