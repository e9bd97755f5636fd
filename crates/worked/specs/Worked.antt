-- The worked cases P1 to P19 (docs/RULES.md, "Worked cases"): rows of data, and one claim over all of them. What a row expects is
-- written from the rules by hand. Every byte of the final memory is compared, and every register. Assumes nothing.
use Rattle.std.specs.Prelude.{ℕ, zero, suc, ◌+◌, ◌*◌, ◌/◌, ◌%◌, ◌≡◌, cond, List, [], ◌∷◌, ◌++◌, map, length, replicate, eqb}
use Rattle.answers.specs.Answer.{fault_of}
use Rattle.answers.specs.declared.answer.Answer.{Answer}
use Rattle.answers.specs.declared.answer.Answer.TheVariants.{Completed, Faulted}
use Rattle.answers.specs.declared.answer.Fault.{Fault}
use Rattle.answers.specs.declared.answer.Vector.TheVariants.{InvalidOpcode, Protection, Page, Control}
use Rattle.processor.specs.Layout.{state_of}
use Rattle.processor.specs.declared.state.State.{State}
use Rattle.replay.specs.Run.{Input, Run, replayed}

-- ---- what a row is made of

-- a number in memory: `size` bytes from an address on
pub record Word : Type 0 where
  pub address : ℕ
  pub size : ℕ
  pub value : ℕ

abbrev pub dword : ℕ → ℕ → Word
dword address value = record { address = address; size = 4; value = value }

abbrev pub qword : ℕ → ℕ → Word
qword address value = record { address = address; size = 8; value = value }

-- A run, and what is expected of it: the pages hold zeros but for `holds`; `count`, `answer`, the state `after` and the bytes come of it,
-- which are those of the start but for `changed`.
pub record Row : Type 0 where
  pub pages : List ℕ
  pub state : State
  pub holds : List Word
  pub words : List ℕ
  pub count : ℕ
  pub answer : Answer
  pub after : State
  pub changed : List Word

-- ---- what the pages hold, said without the memory's own definitions

-- Where the byte of an address lies among the bytes that were lent for a page list. An address on no page leads past the end, so that
-- a row with such a word is longer than its pages and fails.
unfoldable pub place_in : List ℕ → ℕ → ℕ
place_in [] address = 0
place_in (entry ∷ rest) address = cond (eqb (entry / 4096) (address / 4096)) (address % 4096) (4096 + place_in rest address)

-- the low n bytes of a number, low byte first
unfoldable pub low_bytes : ℕ → ℕ → List ℕ
low_bytes zero value = []
low_bytes (suc n) value = value % 256 ∷ low_bytes n (value / 256)

-- bytes with others laid over them from the first on
unfoldable pub over : List ℕ → List ℕ → List ℕ
over [] bytes = bytes
over (new ∷ rest) [] = new ∷ rest
over (new ∷ rest) (old ∷ bytes) = new ∷ over rest bytes

-- bytes with others laid over them from a place on
unfoldable pub laid_over : ℕ → List ℕ → List ℕ → List ℕ
laid_over zero new bytes = over new bytes
laid_over (suc place) new [] = []
laid_over (suc place) new (old ∷ bytes) = old ∷ laid_over place new bytes

-- bytes with words laid over them, one after the other
unfoldable pub with_words : List ℕ → List Word → List ℕ → List ℕ
with_words pages [] bytes = bytes
with_words pages (word ∷ rest) bytes = with_words pages rest (laid_over (place_in pages word.address) (low_bytes word.size word.value) bytes)

-- ---- the claim

-- the bytes that a row lends
unfoldable pub lent_bytes : Row → List ℕ
lent_bytes row = with_words row.pages row.holds (replicate (4096 * length row.pages) 0)

-- what a row's run is given
abbrev pub given_by : Row → Input
given_by row = record { state = row.state; pages = row.pages; bytes = lent_bytes row; words = row.words }

-- what it gives, by the definitions that the contract of `run` cites
unfoldable pub result : Row → Run
result row = replayed (given_by row)

-- what a row expects
unfoldable pub expected : Row → Run
expected row = record { count = row.count; answer = row.answer; state = row.after; bytes = with_words row.pages row.changed (lent_bytes row) }

-- ---- the words that rows are written in

-- pages 1000 and 2000 of the user's shadow stack, 5000 ordinary
abbrev pub three_pages : List ℕ
three_pages = 0x1001 ∷ 0x2001 ∷ 0x5003 ∷ []

-- the one place where rows write a state down, in the order of the rules; a field that is not named here is 0
abbrev pub state_in : (mode cpl cet ucet scet ip sp ssp flags limit : ℕ) → State
state_in mode cpl cet ucet scet ip sp ssp flags limit = state_of (mode ∷ cpl ∷ cet ∷ ucet ∷ scet ∷ ip ∷ sp ∷ ssp ∷ flags ∷ limit ∷ [])

-- CPL 3 with CR4.CET 1 and S_CET 0
abbrev pub user : (mode ucet ip sp ssp flags : ℕ) → State
user mode ucet ip sp ssp flags = state_in mode 3 1 ucet 0 ip sp ssp flags 0xffff_ffff

-- mode 2 with U_CET 1
abbrev pub long : (ip ssp flags : ℕ) → State
long ip ssp flags = user 2 1 ip 0x5010 ssp flags

-- the four words of an instruction, which is 5 bytes long
abbrev pub incsspq : ℕ → List ℕ
incsspq b = 2 ∷ 5 ∷ 0 ∷ b ∷ []

abbrev pub rstorssp : ℕ → List ℕ
rstorssp a = 3 ∷ 5 ∷ a ∷ 0 ∷ []

abbrev pub saveprevssp : List ℕ
saveprevssp = 4 ∷ 5 ∷ 0 ∷ 0 ∷ []

abbrev pub wrssd : ℕ → ℕ → List ℕ
wrssd a b = 5 ∷ 5 ∷ a ∷ b ∷ []

abbrev pub wrssq : ℕ → ℕ → List ℕ
wrssq a b = 6 ∷ 5 ∷ a ∷ b ∷ []

abbrev pub call_relative : ℕ → List ℕ
call_relative a = 7 ∷ 5 ∷ a ∷ 0 ∷ []

abbrev pub call_absolute : ℕ → List ℕ
call_absolute a = 8 ∷ 5 ∷ a ∷ 0 ∷ []

-- ---- the three ways that a row ends

-- All of its instructions, so many, complete. In order: their count, the state, what the pages hold, the instructions; on the line after it the
-- state after them and what they changed.
abbrev pub completes : ℕ → State → List Word → List ℕ → State → List Word → Row
completes count state holds words after changed =
    record { pages = three_pages; state = state; holds = holds; words = words; count = count; answer = Completed; after = after; changed = changed }

-- The first instruction faults, and nothing changes. In order: the state, what the pages hold, the instructions, the fault.
abbrev pub faults : State → List Word → List ℕ → Fault → Row
faults state holds words fault =
    record { pages = three_pages; state = state; holds = holds; words = words; count = 0; answer = Faulted fault; after = state; changed = [] }

-- The instructions of another row, which complete, and one more, which faults: all is as that row left it.
abbrev pub then_faults : Row → List ℕ → Fault → Row
then_faults row more fault =
    record {
      pages = row.pages;
      state = row.state;
      holds = row.holds;
      words = row.words ++ more;
      count = row.count;
      answer = Faulted fault;
      after = row.after;
      changed = row.changed;
    }

-- ---- INCSSP

-- P1. Of the count 103 only the low 8 bits count: three elements of 8 bytes are popped.
abbrev pub p1 : Row
p1 = completes 1 (long 0x40_0000 0x1fe0 0) [] (incsspq 0x103)
    (long 0x40_0005 0x1ff8 0) []

-- P2. The element at SSP is loaded although none is to be popped, and no page is there.
abbrev pub p2 : Row
p2 = faults (long 0x40_0000 0x3000 0) [] (incsspq 0) (fault_of Page 0 0x3000)

-- P3. Two elements end where the page ends. SSP may come to stand past it: nothing is loaded there.
abbrev pub p3_two : Row
p3_two = completes 1 (long 0x40_0000 0x2ff0 0) [] (incsspq 2)
    (long 0x40_0005 0x3000 0) []

-- P3. Of four, only the first and the last are loaded, so the fault names the last, 3008, and not 3000.
abbrev pub p3_four : Row
p3_four = faults (long 0x40_0000 0x2ff0 0) [] (incsspq 4) (fault_of Page 0 0x3008)

-- ---- RSTORSSP and SAVEPREVSSP in mode 2

-- P4. A switch: the token at 2FF0 gives way to the old SSP marked as such, and SSP is where the token was.
abbrev pub p4 : Row
p4 = completes 1 (long 0x40_0000 0x1ff0 0) (qword 0x2ff0 0x2ff9 ∷ []) (rstorssp 0x2ff0)
    (long 0x40_0005 0x2ff0 0) (qword 0x2ff0 0x1ff3 ∷ [])

-- P5. Its second half leaves a token below the old SSP, to come back by. It covers all 8 bytes that stood there.
abbrev pub p5 : Row
p5 = completes 2 (long 0x40_0000 0x1ff0 0) (qword 0x2ff0 0x2ff9 ∷ qword 0x1fe8 0x1122_3344_5566_7788 ∷ []) (rstorssp 0x2ff0 ++ saveprevssp)
    (long 0x40_000a 0x2ff8 0) (qword 0x2ff0 0x1ff3 ∷ qword 0x1fe8 0x1ff1 ∷ [])

-- P6. From an SSP that 8 does not divide, a hole of 4 zero bytes is left between the old SSP and the token, which still names 1FF4.
-- The bytes from 1FF4 on stay.
abbrev pub p6 : Row
p6 = completes 2 (long 0x40_0000 0x1ff4 0) (qword 0x2ff0 0x2ff9 ∷ qword 0x1ff0 0x1122_3344_5566_7788 ∷ []) (rstorssp 0x2ff0 ++ saveprevssp)
    (long 0x40_000a 0x2ff8 0) (qword 0x2ff0 0x1ff7 ∷ dword 0x1ff0 0 ∷ qword 0x1fe8 0x1ff5 ∷ [])

-- P6. The way back finds the token, and CF says that there is a hole.
abbrev pub p6_back : Row
p6_back = completes 3 (long 0x40_0000 0x1ff4 0) (qword 0x2ff0 0x2ff9 ∷ qword 0x1ff0 0x1122_3344_5566_7788 ∷ []) (rstorssp 0x2ff0 ++ (saveprevssp ++ rstorssp 0x1fe8))
    (long 0x40_000f 0x1fe8 1) (qword 0x2ff0 0x1ff7 ∷ dword 0x1ff0 0 ∷ qword 0x1fe8 0x2ffb ∷ [])

-- P6. Mode 2 pops no hole, so nothing can follow: three instructions stand and are counted, the fourth changes nothing.
abbrev pub p6_hole : Row
p6_hole = then_faults p6_back saveprevssp (fault_of Protection 0 0)

-- P7. A token with bit 1 set is the mark of a switch under way, not a place to resume, and it stays.
abbrev pub p7 : Row
p7 = faults (long 0x40_0000 0x1ff0 0) (qword 0x2ff0 0x2ffb ∷ []) (rstorssp 0x2ff0) (fault_of Control 4 0)

-- P8. Tokens lie at multiples of 8.
abbrev pub p8 : Row
p8 = faults (long 0x40_0000 0x1ff0 0) (qword 0x2ff0 0x2ff9 ∷ []) (rstorssp 0x2ff4) (fault_of Protection 0 0)

-- ---- WRSS

-- P9. Writing needs a permission of its own, WR_SHSTK_EN.
abbrev pub p9_forbidden : Row
p9_forbidden = faults (long 0x40_0000 0x1ff0 0) [] (wrssd 0x2ff4 0x8877_6655_4433_2211) (fault_of InvalidOpcode 0 0)

-- P9. With it the low 4 bytes of the value are written, and no more.
abbrev pub p9_written : Row
p9_written = completes 1 (user 2 3 0x40_0000 0x5010 0x1ff0 0) [] (wrssd 0x2ff4 0x8877_6655_4433_2211)
    (user 2 3 0x40_0005 0x5010 0x1ff0 0) (dword 0x2ff4 0x4433_2211 ∷ [])

-- P9. Then 8 bytes at the same address, which 8 does not divide: what was written before stands.
abbrev pub p9_aligned : Row
p9_aligned = then_faults p9_written (wrssq 0x2ff4 0x8877_6655_4433_2211) (fault_of Protection 0 0)

-- P9. An ordinary page is listed, but it is no shadow stack.
abbrev pub p9_ordinary : Row
p9_ordinary = faults (user 2 3 0x40_0000 0x5010 0x1ff0 0) [] (wrssd 0x5000 0x8877_6655_4433_2211) (fault_of Page 0 0x5000)

-- ---- CALL

-- P10. The address after the call goes on both stacks, and both pointers move.
abbrev pub p10 : Row
p10 = completes 1 (long 0x40_0000 0x1ff0 0) (qword 0x5008 0x1122_3344_5566_7788 ∷ qword 0x1fe8 0x1122_3344_5566_7788 ∷ []) (call_relative 0x10)
    (user 2 1 0x40_0015 0x5008 0x1fe8 0) (qword 0x5008 0x40_0005 ∷ qword 0x1fe8 0x40_0005 ∷ [])

-- P11. The lowest target that is not canonical.
abbrev pub p11 : Row
p11 = faults (long 0x40_0000 0x1ff0 0) [] (call_absolute 0x0000_8000_0000_0000) (fault_of Protection 0 0)

-- P12. The shadow push does not fit on the page, so the ordinary one, which would, is not made either.
abbrev pub p12 : Row
p12 = faults (long 0x40_0000 0x1004 0) (qword 0x5008 0x1122_3344_5566_7788 ∷ []) (call_relative 0x10) (fault_of Page 0 0xffc)

-- ---- SAVEPREVSSP in mode 1

-- P13. Mode 1 pops the hole: 8 bytes of token, then 4 of zero and no more. CF stays, and the token that is left has bit 0 clear.
abbrev pub p13 : Row
p13 = completes 1 (user 1 1 0x40_0000 0x5010 0x2fe0 1) (qword 0x2fe0 0x1ff2 ∷ dword 0x2fe8 0 ∷ dword 0x2fec 0xffff_ffff ∷ qword 0x1fe8 0x1122_3344_5566_7788 ∷ []) saveprevssp
    (user 1 1 0x40_0005 0x5010 0x2fec 1) (qword 0x1fe8 0x1ff0 ∷ [])

-- ---- CALL of the next instruction

-- P14. By displacement 0: the address goes on the ordinary stack alone. SSP stays, and so does what lies below it.
abbrev pub p14 : Row
p14 = completes 1 (long 0x40_0000 0x1ff0 0) (qword 0x5008 0x1122_3344_5566_7788 ∷ qword 0x1fe8 0x1122_3344_5566_7788 ∷ []) (call_relative 0)
    (user 2 1 0x40_0005 0x5008 0x1ff0 0) (qword 0x5008 0x40_0005 ∷ [])

-- P15. By its address: a call like any other, which goes on both stacks.
abbrev pub p15 : Row
p15 = completes 1 (long 0x40_0000 0x1ff0 0) (qword 0x5008 0x1122_3344_5566_7788 ∷ qword 0x1fe8 0x1122_3344_5566_7788 ∷ []) (call_absolute 0x40_0005)
    (user 2 1 0x40_0005 0x5008 0x1fe8 0) (qword 0x5008 0x40_0005 ∷ qword 0x1fe8 0x40_0005 ∷ [])

-- P16. Half of the frame would lie on no page. With displacement 0 no frame is tried; by the address it is.
abbrev pub p16_relative : Row
p16_relative = completes 1 (long 0x40_0000 0x1004 0) (qword 0x5008 0x1122_3344_5566_7788 ∷ []) (call_relative 0)
    (user 2 1 0x40_0005 0x5008 0x1004 0) (qword 0x5008 0x40_0005 ∷ [])

abbrev pub p16_absolute : Row
p16_absolute = faults (long 0x40_0000 0x1004 0) [] (call_absolute 0x40_0005) (fault_of Page 0 0xffc)

-- P17. The frame would lie at the lowest address that is not canonical: no fault with displacement 0, #GP by the address.
abbrev pub p17_relative : Row
p17_relative = completes 1 (long 0x40_0000 0x0000_8000_0000_0008 0) (qword 0x5008 0x1122_3344_5566_7788 ∷ []) (call_relative 0)
    (user 2 1 0x40_0005 0x5008 0x0000_8000_0000_0008 0) (qword 0x5008 0x40_0005 ∷ [])

abbrev pub p17_absolute : Row
p17_absolute = faults (long 0x40_0000 0x0000_8000_0000_0008 0) [] (call_absolute 0x40_0005) (fault_of Protection 0 0)

-- P18. Mode 1: both pushes have 4 bytes, and the frame would lie on no page. No fault with displacement 0, #PF by the address.
abbrev pub p18_relative : Row
p18_relative = completes 1 (user 1 1 0x40_0000 0x5010 0x1000 0) (qword 0x5008 0x1122_3344_5566_7788 ∷ []) (call_relative 0)
    (user 1 1 0x40_0005 0x500c 0x1000 0) (dword 0x500c 0x40_0005 ∷ [])

abbrev pub p18_absolute : Row
p18_absolute = faults (user 1 1 0x40_0000 0x5010 0x1000 0) [] (call_absolute 0x40_0005) (fault_of Page 0 0xffc)

-- P19. What looks like displacement 0 and is not: only the sign bit set, only bits above 15 set, and an address of 0. All make a frame.
abbrev pub p19_sign : Row
p19_sign = completes 1 (long 0x40_0000 0x1ff0 0) [] (call_relative 0x8000_0000)
    (user 2 1 0xffff_ffff_8040_0005 0x5008 0x1fe8 0) (qword 0x5008 0x40_0005 ∷ qword 0x1fe8 0x40_0005 ∷ [])

abbrev pub p19_high : Row
p19_high = completes 1 (long 0x40_0000 0x1ff0 0) [] (call_relative 0x1_0000)
    (user 2 1 0x41_0005 0x5008 0x1fe8 0) (qword 0x5008 0x40_0005 ∷ qword 0x1fe8 0x40_0005 ∷ [])

abbrev pub p19_address : Row
p19_address = completes 1 (long 0x40_0000 0x1ff0 0) [] (call_absolute 0)
    (user 2 1 0 0x5008 0x1fe8 0) (qword 0x5008 0x40_0005 ∷ qword 0x1fe8 0x40_0005 ∷ [])

-- ---- all of them

abbrev pub rows : List Row
rows =
    p1 ∷ p2 ∷ p3_two ∷ p3_four ∷ p4 ∷ p5 ∷ p6 ∷ p6_back ∷ p6_hole ∷ p7 ∷ p8 ∷ p9_forbidden ∷ p9_written ∷ p9_aligned ∷ p9_ordinary ∷ p10 ∷ p11 ∷ p12
    ∷ p13 ∷ p14 ∷ p15 ∷ p16_relative ∷ p16_absolute ∷ p17_relative ∷ p17_absolute ∷ p18_relative ∷ p18_absolute ∷ p19_sign ∷ p19_high ∷ p19_address ∷ []

-- Every row's run gives what the row expects: count, answer, all registers, all bytes.
abbrev pub Worked : Type 0
Worked = map result rows ≡ map expected rows
