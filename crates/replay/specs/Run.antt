-- Whole runs: what is tested before any step, the steps, and where they end (docs/RULES.md, "Refusals and answers"). Assumes nothing.
use Rattle.std.specs.Prelude.{ℕ, zero, suc, ◌/◌, ◌%◌, Bool, not, cond, ◌||◌, List, length, eqb, ltb, Result, Ok, Err}
use Rattle.pages.specs.Pages.{Lookup, listing}
use Rattle.pages.specs.declared.pages.ListError.{ListError}
use Rattle.accesses.specs.Access.{lookup_of}
use Rattle.processor.specs.State.{in_range}
use Rattle.processor.specs.Prog.{Step}
use Rattle.answers.specs.Answer.{refusal_for}
use Rattle.answers.specs.declared.answer.Answer.{Answer}
use Rattle.answers.specs.declared.answer.Answer.TheVariants.{Completed, Refused, Faulted}
use Rattle.answers.specs.declared.answer.Refusal.{Refusal}
use Rattle.answers.specs.declared.answer.Refusal.TheVariants.{State as BadState, Words}
use Rattle.processor.specs.declared.state.State.{State}
use Rattle.instructions.specs.Instruction.{instruction_words, instruction_at}
use Rattle.perform.specs.Codes.{codes}
use Rattle.perform.specs.Exec.{InstructionSet, refused, perform}
use Rattle.instructions.specs.declared.instruction.Instruction.{Instruction}
use Rattle.replay.specs.declared.runs.Replay.{Replay}

-- ---- what a run is given

-- a state, a page list with the bytes lent for it, and the words of the instructions
pub record Input : Type 0 where
  pub state : State
  pub pages : List ℕ
  pub bytes : List ℕ
  pub words : List ℕ

abbrev pub input_of : State → List ℕ → List ℕ → List ℕ → Input
input_of s pages bytes words = record { state = s; pages = pages; bytes = bytes; words = words }

-- where its addresses lead
abbrev pub look_of : Input → Lookup
look_of given = lookup_of given.pages given.bytes

-- its k-th instruction
abbrev pub listed : Input → ℕ → Instruction
listed given = instruction_at given.words

-- how many instructions it lists
abbrev pub listed_count : Input → ℕ
listed_count given = length given.words / instruction_words

-- the same but for the state, but for the pages and their bytes, and but for the words
abbrev pub with_state : Input → State → Input
with_state given s = record { state = s; pages = given.pages; bytes = given.bytes; words = given.words }

abbrev pub with_pages : Input → List ℕ → List ℕ → Input
with_pages given pages bytes = record { state = given.state; pages = pages; bytes = bytes; words = given.words }

abbrev pub with_words : Input → List ℕ → Input
with_words given words = record { state = given.state; pages = given.pages; bytes = given.bytes; words = words }

-- ---- what is tested before any step

-- the most instructions
abbrev pub instruction_limit : ℕ
instruction_limit = 1024

-- refusal 7: not four words to each instruction, or too many
unfoldable pub bad_words : ℕ → Bool
bad_words words = not (eqb (words % instruction_words) 0) || ltb instruction_limit (words / instruction_words)

-- refusals 1 to 4 of the page list, then what is tested after them
abbrev pub after_pages : Result (Unit {0}) ListError → Result (Unit {0}) Refusal → Result (Unit {0}) Refusal
after_pages (Ok x) rest = rest
after_pages (Err error) rest = Err (refusal_for error)

-- Refusals 1, 2, 3, 4, 5 and 7, in this order, each over the whole input: `good` is whether the state is in range, `lent` and `words`
-- are how many bytes and words there are.
unfoldable pub check_by : List ℕ → ℕ → Bool → ℕ → Result (Unit {0}) Refusal
check_by pages lent good words = after_pages (listing pages lent) (cond good (cond (bad_words words) (Err Words) (Ok tt)) (Err BadState))

unfoldable pub check : Input → Result (Unit {0}) Refusal
check given = check_by given.pages (length given.bytes) (in_range given.state) (length given.words)

-- ---- one step

abbrev pub step_if : Result (Unit {0}) Refusal → Step → State → List ℕ → Step
step_if (Ok x) go s bytes = go
step_if (Err refusal) go s bytes = refused refusal s bytes

-- the first instruction of the list by itself, with every refusal that it can have; asked of lists of one (`alone`)
unfoldable pub step : InstructionSet → Input → Step
step set given =
    step_if (check given) (perform set (look_of given) (listed given 0) given.state given.bytes) given.state given.bytes

-- ---- a run

-- what a run hands back: how many instructions completed, the answer, the state, the bytes
pub record Run : Type 0 where
  pub count : ℕ
  pub answer : Answer
  pub state : State
  pub bytes : List ℕ

-- a run that ends with this step, after k completed ones
abbrev pub ends_at : ℕ → Step → Run
ends_at k now = record { count = k; answer = now.answer; state = now.state; bytes = now.bytes }

-- by a step's answer: the run goes on only where it completed
abbrev pub onward : Answer → Run → Run → Run
onward Completed more end = more
onward (Refused refusal) more end = end
onward (Faulted fault) more end = end

-- `left` instructions from the k-th on, from this state and these bytes
unfoldable pub run_from : InstructionSet → Lookup → (ℕ → Instruction) → ℕ → ℕ → State → List ℕ → Run
run_from set look listed k zero s bytes = record { count = k; answer = Completed; state = s; bytes = bytes }
run_from set look listed k (suc left) s bytes =
    let now : Step = perform set look (listed k) s bytes in
    onward now.answer (run_from set look listed (suc k) left now.state now.bytes) (ends_at k now)

abbrev pub run_if : Result (Unit {0}) Refusal → Run → State → List ℕ → Run
run_if (Ok x) go s bytes = go
run_if (Err refusal) go s bytes = ends_at 0 (refused refusal s bytes)

-- the whole run, from any input whatever
unfoldable pub run : InstructionSet → Input → Run
run set given =
    run_if (check given) (run_from set (look_of given) (listed given) 0 (listed_count given) given.state given.bytes) given.state given.bytes

-- state and bytes after k single operations from a state and bytes, whatever each answers
unfoldable pub after_from : InstructionSet → Lookup → (ℕ → Instruction) → ℕ → State → List ℕ → Step
after_from set look listed zero s bytes = record { answer = Completed; state = s; bytes = bytes }
after_from set look listed (suc k) s bytes =
    let before : Step = after_from set look listed k s bytes in
    perform set look (listed k) before.state before.bytes

-- the papers' "after k": after k single operations from the start
abbrev pub after : InstructionSet → Input → ℕ → Step
after set given k = after_from set (look_of given) (listed given) k given.state given.bytes

-- ---- the codes that are built

-- the instruction set that an input is run by
abbrev pub built : Input → InstructionSet
built given = codes

abbrev pub stepped : Input → Step
stepped given = step (built given) given

abbrev pub replayed : Input → Run
replayed given = run (built given) given

-- an outcome of the code with the bytes that are left
abbrev pub run_of : Replay → List ℕ → Run
run_of replay bytes = record { count = replay.count; answer = replay.answer; state = replay.state; bytes = bytes }
