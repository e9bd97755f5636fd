-- A run as it lies in lent buffers, to be written or as it was read. A further buffer is a field here. Assumes nothing.
use Rattle.std.specs.Prelude.{ℕ, List, length, Result}
use Rattle.answers.specs.declared.answer.Refusal.{Refusal}
use Rattle.state_words.specs.Formed.{good_state}
use Rattle.replay.specs.Run.{check_by}
use Rattle.sheet.specs.declared.lent.Parts.{Parts}

-- the words of a state, a page list, the bytes of its pages, and the words of the instructions
pub record Buffers : Type 0 where
  pub state : List ℕ
  pub pages : List ℕ
  pub bytes : List ℕ
  pub words : List ℕ

-- what is lent to be read
abbrev pub buffers_in : Parts → Buffers
buffers_in parts = record { state = parts.state.now; pages = parts.pages.now; bytes = parts.bytes.now; words = parts.words.now }

-- refusals 1, 2, 3, 4, 5 and 7, as before a run
abbrev pub tested : Buffers → Result (Unit {0}) Refusal
tested run = check_by run.pages (length run.bytes) (good_state run.state) (length run.words)
