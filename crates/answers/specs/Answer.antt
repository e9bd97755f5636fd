-- The answers and their numbers (docs/RULES.md, "Refusals and answers"). Assumes nothing.
use Rattle.std.specs.Prelude.{ℕ}
use Rattle.pages.specs.declared.pages.ListError.{ListError}
use Rattle.pages.specs.declared.pages.ListError.TheVariants.{BadLength, BadKind, BadAddress, Repeated}
use Rattle.answers.specs.declared.answer.Vector.{Vector}
use Rattle.answers.specs.declared.answer.Vector.TheVariants.{InvalidOpcode, Stack, Protection, Page, Control}
use Rattle.answers.specs.declared.answer.Refusal.{Refusal}
use Rattle.answers.specs.declared.answer.Refusal.TheVariants.{Length, Kind, Address, Repeat, State, Instruction, Words}
use Rattle.answers.specs.declared.answer.Answer.{Answer}
use Rattle.answers.specs.declared.answer.Answer.TheVariants.{Completed, Refused, Faulted}
use Rattle.answers.specs.declared.answer.Fault.{Fault}
use Rattle.answers.specs.declared.answer.Report.{Report}

abbrev pub vector_number : Vector → ℕ
vector_number InvalidOpcode = 6
vector_number Stack = 12
vector_number Protection = 13
vector_number Page = 14
vector_number Control = 21

abbrev pub refusal_number : Refusal → ℕ
refusal_number Length = 1
refusal_number Kind = 2
refusal_number Address = 3
refusal_number Repeat = 4
refusal_number State = 5
refusal_number Instruction = 6
refusal_number Words = 7

-- the refusal of a page list, by what is wrong with it
abbrev pub refusal_for : ListError → Refusal
refusal_for BadLength = Length
refusal_for BadKind = Kind
refusal_for BadAddress = Address
refusal_for Repeated = Repeat

-- the refusals of the calls: a result is longer than the buffer lent for it; a text is no sheet
abbrev pub room_number : ℕ
room_number = 8

abbrev pub sheet_number : ℕ
sheet_number = 9

-- a fault: vector, error code, address
abbrev pub fault_of : Vector → ℕ → ℕ → Fault
fault_of vector code address = record { vector = vector; code = code; address = address }

-- error code 0, no address
abbrev pub plain_fault : Vector → Fault
plain_fault vector = fault_of vector 0 0

-- #UD, #SS(0), #GP(0)
abbrev pub ud : Fault
ud = plain_fault InvalidOpcode

abbrev pub ss : Fault
ss = plain_fault Stack

abbrev pub gp : Fault
gp = plain_fault Protection

-- #PF, which names a byte
abbrev pub page_fault : ℕ → Fault
page_fault address = fault_of Page 0 address

-- #CP, whose error code says which operation found what
abbrev pub control_fault : ℕ → Fault
control_fault code = fault_of Control code 0

-- #CP(NEAR-RET)
abbrev pub cp_near_ret : Fault
cp_near_ret = control_fault 1

-- #CP(RSTORSSP)
abbrev pub cp_rstorssp : Fault
cp_rstorssp = control_fault 4

-- ---- an answer in numbers

abbrev pub report_of : Answer → Report
report_of Completed = record { refusal = 0; vector = 0; code = 0; address = 0 }
report_of (Refused refusal) = record { refusal = refusal_number refusal; vector = 0; code = 0; address = 0 }
report_of (Faulted fault) = record { refusal = 0; vector = vector_number fault.vector; code = fault.code; address = fault.address }
