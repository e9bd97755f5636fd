-- Values of 8 bytes: the chunks of a list, and how many are not 0. Assumes nothing.
use Prim.Native.Nat.{ℕ, zero, suc, ◌+◌, ◌*◌, ◌/◌, ◌<◌, ◌≤◌}
use mathlib.Core.Path.{◌≡◌, refl, sym, ◌∙◌, ap, ap₂}
use mathlib.Core.Bool.{Bool, true, false, not}
use mathlib.Core.List.{List, [], ◌∷◌, ◌++◌}
use native.Mathlib.Omega.{arith}
use lib.Dec.{eqb}
use lib.ListN.{length, take, drop, length-append, length-drop}
use lib.Seq.{get_or-take, take_at, drop_at}
use Rattle.std.specs.List.{filter}
use Rattle.std.specs.Slice.Iter.{chunks_exact_rest, chunks_exact_size, chunks_exact_steps}
use Rattle.std.specs.Iterator.{AlwaysYields}
use Rattle.std.proofs.lemmas.Iterator.{YieldsList}
use Rattle.std.specs.declared.slice.ChunksExact.{ChunksExact}
use Rattle.numbers.specs.Numbers.{number_at}
use Rattle.sheet.specs.Sheets.{line_count}
use Rattle.sheet_write.specs.Values.{nonzeros}

pub nonzeros_suc : (n : ℕ) (bytes : List ℕ) → nonzeros (suc n) bytes ≡ line_count (number_at bytes 0 8) + nonzeros n (drop 8 bytes)
unfolding nonzeros
nonzeros_suc n bytes = refl

-- the front of a list holds the values that lie there
pub number_take : (place n m : ℕ) (bytes : List ℕ) → place + n ≤ m → number_at (take m bytes) place n ≡ number_at bytes place n
unfolding number_at
number_take place zero m bytes h = refl
number_take place (suc n) m bytes h =
    ap₂ (λ (byte rest : ℕ). byte + 256 * rest) (get_or-take m bytes place 0 (omega arith)) (number_take (suc place) n m bytes (omega arith))

-- ---- the first n values of a list

pub pieces : ℕ → List ℕ → List (List ℕ)
pieces zero bytes = []
pieces (suc n) bytes = take 8 bytes ∷ pieces n (drop 8 bytes)

-- chunks of 8 bytes are its values
pieces_yielded : (n : ℕ) (s : ChunksExact ℕ) → chunks_exact_size s ≡ 8 → length (chunks_exact_rest s) / 8 ≡ n
    → AlwaysYields chunks_exact_steps (λ x. x.now) s (pieces n (chunks_exact_rest s))
unfolding pieces
pieces_yielded zero s wide count = λ x j step. let all = ap length step.1.0 ∙ length-append x.now (chunks_exact_rest j) in let own = step.1.1 in omega arith
pieces_yielded (suc n) s wide count = (
  (λ j step. let few = step.1.0 in omega arith),
  λ x j step.
      let own = step.1.1 ∙ wide in
      let rest : drop 8 (chunks_exact_rest s) ≡ chunks_exact_rest j = ap (drop 8) step.1.0 ∙ drop_at x.now (chunks_exact_rest j) 8 own in
      let fewer : length (chunks_exact_rest j) / 8 ≡ n = let all = ap length step.1.0 ∙ length-append x.now (chunks_exact_rest j) in omega arith in
      (sym (ap (take 8) step.1.0 ∙ take_at x.now (chunks_exact_rest j) 8 own), rw rest (pieces_yielded n j (step.0 ∙ wide) fewer)),
)

pub values_yielded : (s : ChunksExact ℕ) (bytes : List ℕ) → chunks_exact_size s ≡ 8 → chunks_exact_rest s ≡ bytes
    → YieldsList chunks_exact_steps (λ x. x.now) s (pieces (length bytes / 8) bytes)
values_yielded s bytes wide e = rw (← e) (record { runs = pieces_yielded (length (chunks_exact_rest s) / 8) s wide refl })

-- ---- how many are not 0

abbrev pub not_zero : List ℕ → Bool
not_zero value = not (eqb (number_at value 0 8) 0)

pub nonzeros_kept : (n : ℕ) (bytes : List ℕ) → length (filter not_zero (pieces n bytes)) ≡ nonzeros n bytes
unfolding nonzeros pieces
nonzeros_kept zero bytes = refl
nonzeros_kept (suc n) bytes = go (eqb (number_at bytes 0 8) 0) refl (nonzeros_kept n (drop 8 bytes))
  where
    go : (b : Bool) → eqb (number_at bytes 0 8) 0 ≡ b → length (filter not_zero (pieces n (drop 8 bytes))) ≡ nonzeros n (drop 8 bytes)
        → length (filter not_zero (take 8 bytes ∷ pieces n (drop 8 bytes))) ≡ line_count (number_at bytes 0 8) + nonzeros n (drop 8 bytes)
    go true e rest = rw (number_take 0 8 8 bytes (omega arith), e) (omega (arith, rest))
    go false e rest = rw (number_take 0 8 8 bytes (omega arith), e) (omega (arith, rest))
