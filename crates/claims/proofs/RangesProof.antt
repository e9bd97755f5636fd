-- A state in its ranges stays in them: over a completed instruction, and over whole runs. Assumes nothing.
use Rattle.std.proofs.Common.{◌≡◌, ℕ, ◌*◌, ◌%◌, ◌^◌, ◌<◌, ◌≤◌, Bool, true, false, cond, not, eqb, ltb, List, refl, ◌∙◌, arith, ltb-true, eq-eqb, eqb-true, leb-true}
use borrow.Author.Tests.{eqb-false, not-true}
use Rattle.numbers.specs.Numbers.{byte_count}
use Rattle.addresses.specs.declared.address.Width.TheVariants.{Bits32}
use Rattle.pages.specs.Pages.{Lookup}
use Rattle.numbers.specs.declared.size.Size.{Size}
use Rattle.numbers.specs.declared.size.Size.TheVariants.{Four, Eight}
use Rattle.processor.specs.Layout.{with_cet, with_ip, with_sp, with_ssp, with_flags}
use Rattle.addresses.proofs.Laws.{plus_below, minus_below, plus_aligned, minus_aligned}
use Rattle.processor.specs.State.{is_long, width_of, cet_fits, enabled, usable, in_range, plus, minus, next}
use Rattle.processor.specs.declared.state.State.{State}
use Rattle.saveprevssp.specs.Saveprevssp.{carry}
use Rattle.targets.specs.Targets.{in_code, pushed}
use Rattle.call.specs.Call.{pushes_frame}
use Rattle.instructions.specs.Instruction.{words_fit, length_fits, in_mode1, narrow, mode_fits, fits}
use Rattle.instructions.specs.Permission.{hidden, shown}
use Rattle.perform.specs.Codes.{framed}
use Rattle.replay.specs.Run.{look_of, listed, after_from, built}
use Rattle.instructions.specs.declared.instruction.Instruction.{Instruction}
use Rattle.instructions.specs.declared.operation.Operation.{Operation}
use Rattle.instructions.specs.declared.operation.Operation.TheVariants.{Incssp, Rstorssp, Saveprevssp, Wrss, Call, Ret, Wruss}
use Rattle.claims.specs.Ranges.{StaysInRange, RunStaysInRange}
use Rattle.claims.proofs.InstructionWalk.{rule_of, completes_at}
use Rattle.claims.proofs.KeptAlong.{run_keeps}
use Rattle.claims.proofs.PermissionBits.{cet_hidden, cet_shown}
use Rattle.claims.proofs.RangeParts.{both, InRange, range_parts, parts_range}

-- what holds of both holds of the one that a test picks
either : {A : Type 0} (P : A → Type 0) (t : Bool) (a b : A) → P a → P b → P (cond t a b)
either P true a b first second = first
either P false a b first second = second

-- ---- the pointers that operations make

-- a pointer in its range, if the state was in its ranges
abbrev Pointer : State → ℕ → Type 0
Pointer s n = InRange s → is_long s ≡ false → n < 2 ^ 32

-- elements of either size keep a multiple of 4
bytes_aligned : (size : Size) (n : ℕ) → byte_count size * n % 4 ≡ 0
bytes_aligned Four n = omega arith
bytes_aligned Eight n = omega arith

plus_fits : (s : State) (a b : ℕ) → Pointer s (plus s a b)
unfolding plus
plus_fits s a b h long = rw long (plus_below Bits32 a b)

minus_fits : (s : State) (a b : ℕ) → Pointer s (minus s a b)
unfolding minus
minus_fits s a b h long = rw long (minus_below Bits32 a b)

next_fits : (s : State) (span : ℕ) → Pointer s (next s span)
unfolding next
next_fits s span = plus_fits s s.ip span

sp_fits : (s : State) → Pointer s s.sp
sp_fits s h long = (h.pointers long).sp

ssp_fits : (s : State) → Pointer s s.ssp
ssp_fits s h long = (h.pointers long).ssp

-- a target that has passed its test
target_fits_lem : (s : State) (target : ℕ) → in_code s target ≡ true → Pointer s target
unfolding in_code
target_fits_lem s target inside h long =
    let within : target ≤ s.limit = leb-true _ _ (rw long at inside) in
    let limit : s.limit < 2 ^ 32 = h.limit in
    omega arith

-- multiples of 4, where SSP was one
abbrev Of4 : State → ℕ → Type 0
Of4 s n = InRange s → n % 4 ≡ 0

plus_of_4 : (s : State) (a b : ℕ) → Of4 s a → b % 4 ≡ 0 → Of4 s (plus s a b)
unfolding plus
plus_of_4 s a b ha hb h = plus_aligned (width_of s) a b (ha h) hb

minus_of_4 : (s : State) (a : ℕ) (size : Size) → Of4 s a → Of4 s (minus s a (byte_count size))
unfolding minus
minus_of_4 s a Four ha h = minus_aligned (width_of s) a 4 (ha h) refl
minus_of_4 s a Eight ha h = minus_aligned (width_of s) a 8 (ha h) refl

size_of_4 : (size : Size) → byte_count size % 4 ≡ 0
size_of_4 Four = refl
size_of_4 Eight = refl

ssp_of_4 : (s : State) → Of4 s s.ssp
ssp_of_4 s h = h.aligned

-- ---- a state with other pointers and flags

moved : (s : State) (ip sp ssp flags : ℕ) → Pointer s ip → Pointer s sp → Pointer s ssp → Of4 s ssp → InRange s → InRange (with_ip (with_flags (with_ssp (with_sp s sp) ssp) flags) ip)
moved s ip sp ssp flags ip-in sp-in ssp-in aligned h =
    record {
      mode = h.mode;
      cpl = h.cpl;
      cet = h.cet;
      limit = h.limit;
      ucet = h.ucet;
      scet = h.scet;
      aligned = aligned h;
      pointers = λ long. record { ip = ip-in h long; sp = sp-in h long; ssp = ssp-in h long };
    }

-- IP moves on, and SSP
onward : (s : State) (span ssp flags : ℕ) → Pointer s ssp → Of4 s ssp → InRange s → InRange (with_ip (with_flags (with_ssp s ssp) flags) (next s span))
onward s span ssp flags = moved s (next s span) s.sp ssp flags (next_fits s span) (sp_fits s)

-- ---- what the form of an instruction says

-- a shadow stack operation is recognised in modes 1 and 2, and in mode 1 its operands have 32 bits
operand_fits : (op : Operation) (i : Instruction) (s : State) → fits op i s.mode ≡ true → usable s ≡ true → Pointer s i.a
unfolding fits mode_fits narrow usable
operand_fits op i s form u h long =
    let in_mode_lem : mode_fits op i s.mode ≡ true = (both (length_fits i) _ (both (words_fit op i) _ form).1).1 in
    let off_0 : eqb s.mode 0 ≡ false = not-true _ (both (not (eqb s.mode 0)) (enabled s) u).0 in
    let not_0 : s.mode ≡ 0 → ⊥ = eqb-false _ _ off_0 in
    let not_2 : s.mode ≡ 2 → ⊥ = eqb-false _ _ long in
    let small : s.mode ≤ 2 = h.mode in
    let is_1 : s.mode ≡ 1 = omega arith in
    let narrowed : narrow op i ≡ true = rw (off_0, eq-eqb _ _ is_1) at in_mode_lem in
    ltb-true _ _ (both (ltb i.a (2 ^ 32)) _ (both (in_mode1 op) _ narrowed).1).0

-- ---- each operation, where it ends

module _ (look : Lookup) (bytes : List ℕ) where
  ends_in_range : (op : Operation) (i : Instruction) (s t : State) → fits op i s.mode ≡ true → (rule_of look bytes op i s).ends t → InRange s → InRange t
  ends_in_range (Incssp size) i s t form is =
      let popped : ℕ = byte_count size * (i.b % 256) in
      rw is (onward s i.length _ s.flags (plus_fits s s.ssp popped) (plus_of_4 s s.ssp popped (ssp_of_4 s) (bytes_aligned size (i.b % 256))))
  ends_in_range Rstorssp i s t form end =
      let of_8 : i.a % 8 ≡ 0 = eqb-true _ _ end.aligned in
      rw end.state (onward s i.length i.a _ (operand_fits Rstorssp i s form end.recognised) (λ h. omega arith))
  ends_in_range Saveprevssp i s t form is =
      let past : Of4 s (plus s s.ssp 8) = plus_of_4 s s.ssp 8 (ssp_of_4 s) refl in
      rw is
      (onward s i.length _ s.flags
      (either (Pointer s) (carry s) _ _ (plus_fits s (plus s s.ssp 8) 4) (plus_fits s s.ssp 8))
      (either (Of4 s) (carry s) _ _ (plus_of_4 s (plus s s.ssp 8) 4 past refl) past))
  ends_in_range (Wrss size) i s t form is = rw is (onward s i.length s.ssp s.flags (ssp_fits s) (ssp_of_4 s))
  ends_in_range (Call how) i s t form end =
      rw end.1
      (moved s _ _ _ s.flags (target_fits_lem s _ end.0) (minus_fits s s.sp (byte_count (pushed s)))
      (either (Pointer s) (pushes_frame s (framed how i)) _ _ (minus_fits s s.ssp (byte_count (pushed s))) (ssp_fits s))
      (either (Of4 s) (pushes_frame s (framed how i)) _ _ (minus_of_4 s s.ssp (pushed s) (ssp_of_4 s)) (ssp_of_4 s)))
  ends_in_range (Ret release) i s t form end =
      rw end.1
      (moved s _ _ _ s.flags (target_fits_lem s _ end.0) (plus_fits s (plus s s.sp (byte_count (pushed s))) i.a)
      (either (Pointer s) (enabled s) _ _ (plus_fits s s.ssp (byte_count (pushed s))) (ssp_fits s))
      (either (Of4 s) (enabled s) _ _ (plus_of_4 s s.ssp (byte_count (pushed s)) (ssp_of_4 s) (size_of_4 (pushed s))) (ssp_of_4 s)))
  ends_in_range (Wruss size) i s t form is = rw is (onward s i.length s.ssp s.flags (ssp_fits s) (ssp_of_4 s))

-- ---- an instruction, and whole runs

-- other CET registers, in their range
with_cet_lem : (s : State) (ucet scet : ℕ) → cet_fits ucet ≡ cet_fits s.ucet → cet_fits scet ≡ cet_fits s.scet → InRange s → InRange (with_cet s ucet scet)
with_cet_lem s ucet scet user supervisor h =
    record {
      mode = h.mode;
      cpl = h.cpl;
      cet = h.cet;
      limit = h.limit;
      ucet = user ∙ h.ucet;
      scet = supervisor ∙ h.scet;
      aligned = h.aligned;
      pointers = λ long. let below = h.pointers long in record { ip = below.ip; sp = below.sp; ssp = below.ssp };
    }

hidden_range : (s : State) → InRange s → InRange (hidden s)
unfolding hidden
hidden_range s = with_cet_lem s _ _ (cet_hidden s.ucet) (cet_hidden s.scet)

shown_range : (s t : State) → InRange t → InRange (shown s t)
unfolding shown
shown_range s t = with_cet_lem t _ _ (cet_shown s.ucet t.ucet) (cet_shown s.scet t.scet)

pub stays_in_range : StaysInRange
unfolding hidden
stays_in_range given look i s bytes good done =
    let it = completes_at given look i s bytes done in
    let last = ends_in_range look bytes it.of.op i (hidden s) it.end it.of.form it.ends (hidden_range s (range_parts s good)) in
    rw it.bits_back (parts_range _ (shown_range s it.end last))

pub run_stays_in_range : RunStaysInRange
unfolding after_from
run_stays_in_range given good =
    run_keeps (built given) given (λ j t. in_range t ≡ true) good
    (λ j counted before done. stays_in_range given (look_of given) (listed given j) _ _ before done)
