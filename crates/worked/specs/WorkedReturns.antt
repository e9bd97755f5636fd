-- Worked cases of near RET and WRUSS, R1 to R17 (docs/RULES.md, "Worked cases"), in the same words as P1 to P19. Assumes nothing.
use Rattle.std.specs.Prelude.{ℕ, ◌≡◌, List, [], ◌∷◌, ◌++◌, map}
use Rattle.answers.specs.Answer.{fault_of}
use Rattle.answers.specs.declared.answer.Answer.TheVariants.{Refused}
use Rattle.answers.specs.declared.answer.Refusal.TheVariants.{Instruction as BadForm}
use Rattle.answers.specs.declared.answer.Vector.TheVariants.{InvalidOpcode, Stack, Protection, Page, Control}
use Rattle.processor.specs.declared.state.State.{State}
use Rattle.worked.specs.Worked.{Row, dword, qword, result, expected, three_pages, state_in, user, long, call_relative, completes, faults}

-- ---- the words that rows are written in

-- 1 byte long, and 3 with its count
abbrev pub ret : List ℕ
ret = 9 ∷ 1 ∷ 0 ∷ 0 ∷ []

abbrev pub ret_count : ℕ → List ℕ
ret_count count = 10 ∷ 3 ∷ count ∷ 0 ∷ []

-- 5 bytes long
abbrev pub wrussd : ℕ → ℕ → List ℕ
wrussd a b = 11 ∷ 5 ∷ a ∷ b ∷ []

abbrev pub wrussq : ℕ → ℕ → List ℕ
wrussq a b = 12 ∷ 5 ∷ a ∷ b ∷ []

-- U_CET 0
abbrev pub state_at : (mode cpl cet scet ip : ℕ) → State
state_at mode cpl cet scet ip = state_in mode cpl cet 0 scet ip 0x5010 0x1ff0 0 0xffff_ffff

-- mode 2 at this CPL, with SH_STK_EN and WR_SHSTK_EN clear for all
abbrev pub bare : (cpl cet ip : ℕ) → State
bare cpl cet ip = state_at 2 cpl cet 0 ip

-- CPL 0 in this mode, likewise
abbrev pub in_mode : ℕ → State
in_mode mode = state_at mode 0 1 0 0x40_0000

-- mode 1 with U_CET 1 and this code limit
abbrev pub limited : (limit ip sp ssp : ℕ) → State
limited limit ip sp ssp = state_in 1 3 1 1 0 ip sp ssp 0 limit

-- refusal 6, and nothing changes
abbrev pub refuses : State → List ℕ → Row
refuses state words =
    record { pages = three_pages; state = state; holds = []; words = words; count = 0; answer = Refused BadForm; after = state; changed = [] }

-- ---- RET

-- R1. A call, and the return from it: both pointers are back, and IP is after the call. What was pushed stays.
abbrev pub r1 : Row
r1 = completes 2 (long 0x40_0000 0x1ff0 0) [] (call_relative 0x10 ++ ret)
    (long 0x40_0005 0x1ff0 0) (qword 0x5008 0x40_0005 ∷ qword 0x1fe8 0x40_0005 ∷ [])

-- R2. The count moves SP besides, here off the pages: the bytes that it releases are not looked at. SSP moves by the frame alone.
abbrev pub r2 : Row
r2 = completes 2 (long 0x40_0000 0x1ff0 0) [] (call_relative 0x10 ++ ret_count 0xffff)
    (user 2 1 0x40_0005 0x1_500f 0x1ff0 0) (qword 0x5008 0x40_0005 ∷ qword 0x1fe8 0x40_0005 ∷ [])

-- R3. The return address was overwritten. That it is not canonical either is not found: the comparison comes before the target's test.
abbrev pub r3 : Row
r3 = faults (long 0x40_0000 0x1ff0 0) (qword 0x5010 0x0000_8000_0000_0000 ∷ qword 0x1ff0 0x40_0005 ∷ []) ret (fault_of Control 1 0)

-- R4. Both stacks agree on a target that is not canonical: nothing is popped.
abbrev pub r4 : Row
r4 = faults (long 0x40_0000 0x1ff0 0) (qword 0x5010 0x0000_8000_0000_0000 ∷ qword 0x1ff0 0x0000_8000_0000_0000 ∷ []) ret (fault_of Protection 0 0)

-- R5. Neither stack is there: the ordinary load is the first.
abbrev pub r5 : Row
r5 = faults (user 2 1 0x40_0000 0x6000 0x3000 0) [] ret (fault_of Page 0 0x6000)

-- R6. The shadow stack is not there, and the target would not do: the shadow load is before the target's test.
abbrev pub r6 : Row
r6 = faults (long 0x40_0000 0x3000 0) (qword 0x5010 0x0000_8000_0000_0000 ∷ []) ret (fault_of Page 0 0x3000)

-- R7. Not enabled: the shadow stack is not looked at, and SSP stays.
abbrev pub r7 : Row
r7 = completes 1 (user 2 0 0x40_0000 0x5010 0x3000 0) (qword 0x5010 0x40_0005 ∷ []) ret
    (user 2 0 0x40_0005 0x5018 0x3000 0) []

-- R8. Mode 1 pops 4 bytes of each stack; those behind them differ.
abbrev pub r8 : Row
r8 = completes 1 (user 1 1 0x40_0000 0x5010 0x1ff0 0) (qword 0x5010 0x1111_1111_0040_0005 ∷ qword 0x1ff0 0x2222_2222_0040_0005 ∷ []) (ret_count 8)
    (user 1 1 0x40_0005 0x501c 0x1ff4 0) []

-- ---- WRUSS

-- R9. The kernel writes to a user's shadow stack, 8 bytes and 4, and needs neither SH_STK_EN nor WR_SHSTK_EN.
abbrev pub r9 : Row
r9 = completes 2 (bare 0 1 0x40_0000) (qword 0x2ff0 0x1122_3344_5566_7788 ∷ []) (wrussq 0x2fe8 0x8877_6655_4433_2211 ++ wrussd 0x2ff4 0xddcc_bbaa_ffee_0099)
    (bare 0 1 0x40_000a) (qword 0x2fe8 0x8877_6655_4433_2211 ∷ dword 0x2ff4 0xffee_0099 ∷ [])

-- R10. No other ring may.
abbrev pub r10 : Row
r10 = faults (bare 3 1 0x40_0000) [] (wrussq 0x2ff0 1) (fault_of Protection 0 0)

-- R11. 8 bytes lie at multiples of 8; and an ordinary page is no shadow stack.
abbrev pub r11_aligned : Row
r11_aligned = faults (bare 0 1 0x40_0000) [] (wrussq 0x2ff4 1) (fault_of Protection 0 0)

abbrev pub r11_ordinary : Row
r11_ordinary = faults (bare 0 1 0x40_0000) [] (wrussd 0x5000 1) (fault_of Page 0 0x5000)

-- R12. Without CR4.CET it is not recognised, whatever the CPL and the address.
abbrev pub r12 : Row
r12 = faults (bare 3 0 0x40_0000) [] (wrussq 0x2ff4 1) (fault_of InvalidOpcode 0 0)

-- ---- the edges of RET

-- R13. The ordinary load must be canonical in mode 2; in mode 1 it may end at 2^32, and then only the page is missing, but not run past it.
abbrev pub r13_canonical : Row
r13_canonical = faults (user 2 1 0x40_0000 0x7fff_ffff_fffc 0x1ff0 0) [] ret (fault_of Stack 0 0)

abbrev pub r13_past : Row
r13_past = faults (user 1 1 0x40_0000 0xffff_fffd 0x1ff0 0) [] ret (fault_of Stack 0 0)

abbrev pub r13_end : Row
r13_end = faults (user 1 1 0x40_0000 0xffff_fffc 0x1ff0 0) [] ret (fault_of Page 0 0xffff_fffc)

-- R14. In mode 1 the target may be the code limit, and not above it.
abbrev pub r14_limit : Row
r14_limit = completes 1 (limited 0x40_0005 0x40_0000 0x5010 0x1ff0) (dword 0x5010 0x40_0005 ∷ dword 0x1ff0 0x40_0005 ∷ []) ret
    (limited 0x40_0005 0x40_0005 0x5014 0x1ff4) []

abbrev pub r14_above : Row
r14_above = faults (limited 0x40_0004 0x40_0000 0x5010 0x1ff0) (dword 0x5010 0x40_0005 ∷ dword 0x1ff0 0x40_0005 ∷ []) ret (fault_of Protection 0 0)

-- R15. Below CPL 3 the frame is on a supervisor shadow stack; this page is a user's.
abbrev pub r15 : Row
r15 = faults (state_at 2 0 1 1 0x40_0000) (qword 0x5010 0x40_0005 ∷ qword 0x1ff0 0x40_0005 ∷ []) ret (fault_of Page 0 0x1ff0)

-- ---- the edges of WRUSS, and refusal 6

-- R16. CPL 1 is not the kernel; and mode 0 does not recognise it.
abbrev pub r16_ring : Row
r16_ring = faults (bare 1 1 0x40_0000) [] (wrussq 0x2ff0 1) (fault_of Protection 0 0)

abbrev pub r16_mode : Row
r16_mode = faults (in_mode 0) [] (wrussq 0x2ff0 1) (fault_of InvalidOpcode 0 0)

-- R17. A count of 17 bits, RET in mode 0, WRUSSQ in mode 1.
abbrev pub r17_count : Row
r17_count = refuses (long 0x40_0000 0x1ff0 0) (ret_count 0x1_0000)

abbrev pub r17_ret : Row
r17_ret = refuses (in_mode 0) ret

abbrev pub r17_wruss : Row
r17_wruss = refuses (in_mode 1) (wrussq 0x2ff0 1)

-- ---- all of them

abbrev pub return_rows : List Row
return_rows =
    r1 ∷ r2 ∷ r3 ∷ r4 ∷ r5 ∷ r6 ∷ r7 ∷ r8 ∷ r9 ∷ r10 ∷ r11_aligned ∷ r11_ordinary ∷ r12 ∷ r13_canonical ∷ r13_past ∷ r13_end ∷ r14_limit ∷ r14_above ∷ r15
    ∷ r16_ring ∷ r16_mode ∷ r17_count ∷ r17_ret ∷ r17_wruss ∷ []

-- every row's run gives what the row expects: count, answer, all registers, all bytes
abbrev pub WorkedReturns : Type 0
WorkedReturns = map result return_rows ≡ map expected return_rows
