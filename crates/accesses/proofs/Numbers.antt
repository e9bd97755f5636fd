-- The loop that builds a number from its last byte down. Assumes nothing.
use Rattle.std.proofs.Common.{◌≡◌, ℕ, suc, ◌+◌, ◌-◌, ◌*◌, ◌^◌, ◌<◌, ◌≤◌, sym, ◌∙◌, ap, ap₂, List, pow-suc, arith}
use Rattle.std.proofs.Math.Nat.{pow-le-pow_right}
use Rattle.addresses.specs.Address.{wrapped, plus}
use Rattle.pages.specs.Pages.{Lookup}
use Rattle.accesses.specs.Access.{byte_in, number}
use Rattle.addresses.specs.declared.address.Width.{Width}
use Rattle.accesses.proofs.Steps.{number_suc}
use Rattle.addresses.proofs.Sums.{plus_one, plus_none}

-- `value` holds the bytes from the `left`-th to the last of n
pub record Built (look : Lookup) (bytes : List ℕ) (w : Width) (first n value left : ℕ) : Type 0 where
  pub within : left ≤ n
  pub value_is : value ≡ number look bytes w (plus w first left) (n - left)
  pub below : value < 256 ^ (n - left)

-- seven bytes leave room for one more
pub room : (value k : ℕ) → k ≤ 7 → value < 256 ^ k → value < 2 ^ 56
room value k h b = let p : 256 ^ k ≤ 256 ^ 7 = pow-le-pow_right (omega arith) h in omega arith

module _ (look : Lookup) (bytes : List ℕ) (w : Width) (first n : ℕ) where
  pub built_none : Built look bytes w first n 0 n
  unfolding number
  built_none = record {
    within = omega arith;
    value_is = ap (number look bytes w (plus w first n)) (nothing n);
    below = rw (sym (nothing n)) (omega arith);
  }
    where
      nothing : (k : ℕ) → 0 ≡ k - k
      nothing k = omega arith

  pub built_all : (value left : ℕ) → left ≤ 0 → Built look bytes w first n value left → value ≡ number look bytes w (wrapped w first) n
  built_all value left h b = b.value_is ∙ ap₂ (number look bytes w) (plus_none w first left h) (omega arith)

  one_more : (left : ℕ) → 0 < left → left ≤ n → n - (left - 1) ≡ suc (n - left)
  one_more left h k = omega arith

  pub built_more : (value left byte : ℕ) → 0 < left → Built look bytes w first n value left → byte < 256 → byte ≡ byte_in bytes (look (plus w first (left - 1)))
      → Built look bytes w first n (value * 256 + byte) (left - 1)
  built_more value left byte h b small byte_is =
      let more = one_more left h b.within in
      let next : left - 1 + 1 ≡ left = omega arith in
      let more_value : number look bytes w (plus w first (left - 1)) (suc (n - left)) ≡ byte_in bytes (look (plus w first (left - 1))) + 256 * number look bytes w (plus w first left) (n - left)
      = number_suc look bytes w (plus w first (left - 1)) (n - left)
      ∙ ap (λ (a : ℕ). byte_in bytes (look (plus w first (left - 1))) + 256 * number look bytes w a (n - left)) (plus_one w first (left - 1) ∙ ap (plus w first) next) in
      let value_is = b.value_is in
      record {
        within = omega arith;
        value_is = rw more (rw more_value (rw (← byte_is, ← value_is) (omega arith)));
        below = rw (more, pow-suc 256 (n - left)) (omega arith);
      }
