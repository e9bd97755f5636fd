-- What a state in its ranges has, field by field. Assumes nothing.
use Rattle.std.proofs.Common.{◌≡◌, ◌%◌, ◌^◌, ◌<◌, ◌≤◌, Bool, true, false, ◌&&◌, ◌||◌, eqb, ltb, leb, refl, ltb-true, lt-ltb, eq-eqb, eqb-true, le-leb, leb-true}
use mathlib.Core.Bool.{false≢true}
use Rattle.processor.specs.State.{is_long, fixed_fit, cet_fits, pointers_fit, in_range}
use Rattle.processor.specs.declared.state.State.{State}

pub both : (a b : Bool) → (a && b) ≡ true → (a ≡ true) × (b ≡ true)
both true b e = (refl, e)
both false b e = absurd (false≢true e)

-- the pointers outside mode 2
pub record Below (s : State) : Type 0 where
  pub ip : s.ip < 2 ^ 32
  pub sp : s.sp < 2 ^ 32
  pub ssp : s.ssp < 2 ^ 32

pub record InRange (s : State) : Type 0 where
  pub mode : s.mode ≤ 2
  pub cpl : s.cpl ≤ 3
  pub cet : s.cet ≤ 1
  pub limit : s.limit < 2 ^ 32
  pub ucet : cet_fits s.ucet ≡ true
  pub scet : cet_fits s.scet ≡ true
  pub aligned : s.ssp % 4 ≡ 0
  pub pointers : is_long s ≡ false → Below s

fixed_parts : (s : State) → fixed_fit s ≡ true → (s.mode ≤ 2) × (s.cpl ≤ 3) × (s.cet ≤ 1) × (s.limit < 2 ^ 32)
unfolding fixed_fit
fixed_parts s e =
    let mode = both (leb s.mode 2) _ e in
    let cpl = both (leb s.cpl 3) _ mode.1 in
    let cet = both (leb s.cet 1) _ cpl.1 in
    (leb-true _ _ mode.0, leb-true _ _ cpl.0, leb-true _ _ cet.0, ltb-true _ _ cet.1)

pointer_parts : (s : State) → pointers_fit s ≡ true → (s.ssp % 4 ≡ 0) × (is_long s ≡ false → Below s)
unfolding pointers_fit
pointer_parts s e =
    let parts = both (eqb (s.ssp % 4) 0) _ e in
    (eqb-true _ _ parts.0, below parts.1)
  where
    below : (is_long s || (ltb s.ip (2 ^ 32) && (ltb s.sp (2 ^ 32) && ltb s.ssp (2 ^ 32)))) ≡ true → is_long s ≡ false → Below s
    below h long =
        let ip = both (ltb s.ip (2 ^ 32)) (ltb s.sp (2 ^ 32) && ltb s.ssp (2 ^ 32)) (rw long at h) in
        let rest = both (ltb s.sp (2 ^ 32)) (ltb s.ssp (2 ^ 32)) ip.1 in
        record { ip = ltb-true _ _ ip.0; sp = ltb-true _ _ rest.0; ssp = ltb-true _ _ rest.1 }

pub range_parts : (s : State) → in_range s ≡ true → InRange s
unfolding in_range
range_parts s e =
    let fixed = both (fixed_fit s) _ e in
    let rest = both (cet_fits s.ucet && cet_fits s.scet) _ fixed.1 in
    let cets = both (cet_fits s.ucet) _ rest.0 in
    let numbers = fixed_parts s fixed.0 in
    let pointers = pointer_parts s rest.1 in
    record { mode = numbers.0; cpl = numbers.1; cet = numbers.2; limit = numbers.3; ucet = cets.0; scet = cets.1; aligned = pointers.0; pointers = pointers.1 }

parts_pointer : (s : State) → InRange s → pointers_fit s ≡ true
unfolding pointers_fit
parts_pointer s h = rw (eq-eqb _ _ h.aligned) (go (is_long s) h.pointers)
  where
    go : (t : Bool) → (t ≡ false → Below s) → (t || (ltb s.ip (2 ^ 32) && (ltb s.sp (2 ^ 32) && ltb s.ssp (2 ^ 32)))) ≡ true
    go true below = refl
    go false below = let b = below refl in rw (lt-ltb _ _ b.ip, lt-ltb _ _ b.sp, lt-ltb _ _ b.ssp)

pub parts_range : (s : State) → InRange s → in_range s ≡ true
unfolding in_range fixed_fit
parts_range s h = rw (le-leb _ _ h.mode, le-leb _ _ h.cpl, le-leb _ _ h.cet, lt-ltb _ _ h.limit, h.ucet, h.scet) (parts_pointer s h)
