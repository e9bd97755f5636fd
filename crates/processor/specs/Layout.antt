-- The layout of a state: its fields in the order of the rules, from words and to words, and the state with some of them changed
-- (docs/RULES.md, "State"). A further field edits the struct and this file. Assumes nothing.
use Rattle.std.specs.Prelude.{ℕ, List, [], ◌∷◌, get_or}
use Rattle.processor.specs.declared.state.State.{State}

-- how many fields there are
abbrev pub fields : ℕ
fields = 10

-- the state whose fields are these words; a word that is not there counts as 0
unfoldable pub state_of : List ℕ → State
state_of words =
    record {
      mode = get_or words 0 0;
      cpl = get_or words 1 0;
      cet = get_or words 2 0;
      ucet = get_or words 3 0;
      scet = get_or words 4 0;
      ip = get_or words 5 0;
      sp = get_or words 6 0;
      ssp = get_or words 7 0;
      flags = get_or words 8 0;
      limit = get_or words 9 0;
    }

-- the words of a state
abbrev pub words_of : State → List ℕ
words_of s = s.mode ∷ s.cpl ∷ s.cet ∷ s.ucet ∷ s.scet ∷ s.ip ∷ s.sp ∷ s.ssp ∷ s.flags ∷ s.limit ∷ []

-- ---- registers changed

-- U_CET and S_CET; CR4.CET is another field, `cet`
abbrev pub with_cet : State → ℕ → ℕ → State
with_cet s ucet scet =
    record { mode = s.mode; cpl = s.cpl; cet = s.cet; ucet = ucet; scet = scet; ip = s.ip; sp = s.sp; ssp = s.ssp; flags = s.flags; limit = s.limit }

abbrev pub with_ip : State → ℕ → State
with_ip s ip =
    record { mode = s.mode; cpl = s.cpl; cet = s.cet; ucet = s.ucet; scet = s.scet; ip = ip; sp = s.sp; ssp = s.ssp; flags = s.flags; limit = s.limit }

abbrev pub with_sp : State → ℕ → State
with_sp s sp =
    record { mode = s.mode; cpl = s.cpl; cet = s.cet; ucet = s.ucet; scet = s.scet; ip = s.ip; sp = sp; ssp = s.ssp; flags = s.flags; limit = s.limit }

abbrev pub with_ssp : State → ℕ → State
with_ssp s ssp =
    record { mode = s.mode; cpl = s.cpl; cet = s.cet; ucet = s.ucet; scet = s.scet; ip = s.ip; sp = s.sp; ssp = ssp; flags = s.flags; limit = s.limit }

abbrev pub with_flags : State → ℕ → State
with_flags s flags =
    record { mode = s.mode; cpl = s.cpl; cet = s.cet; ucet = s.ucet; scet = s.scet; ip = s.ip; sp = s.sp; ssp = s.ssp; flags = flags; limit = s.limit }
