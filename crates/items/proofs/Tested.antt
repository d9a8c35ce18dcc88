-- Tests of fields, one after another, and of numbers against a power of two.
use Rattle.std.proofs.Common.{◌≡◌, ℕ, ◌^◌, ◌<◌, ◌≤◌, Bool, true, false, not, List, [], ◌∷◌, refl, arith, pow_mono}
use Rattle.std.specs.List.{find}
use Rattle.std.specs.Option.{option_map}
use Rattle.items.specs.Ranges.{first_bad}

pub first_found : (ts : List (ℕ × Bool)) → option_map (λ t. t.0) (find (λ t. not t.1) ts) ≡ first_bad ts
first_found [] = refl
first_found ((at, true) ∷ ts) = first_found ts
first_found ((at, false) ∷ ts) = refl

-- a number of 16 bits is below each power from the 16th on
pub below_power : (n k : ℕ) → n < 65536 → 16 ≤ k → n < 2 ^ k
below_power n k h l = let p : 2 ^ 16 ≤ 2 ^ k = pow_mono l in omega arith
