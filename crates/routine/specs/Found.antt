-- What a search for the lowest two ways finds, for one pair of points, for one point, and for all.
use Rattle.std.specs.Prelude.{◌≡◌, ℕ, ◌<◌, Bool, true, false, Some, None, MatchOption, Option}
use Rattle.std.proofs.Math.Option as searched
use Rattle.golog.specs.Points.{Ways}
use Rattle.golog.specs.Points.Ways.{one_way, two_ways}

-- no number below n passes the test
abbrev pub NoneBelow : ℕ → (ℕ → Bool) → Type 0
NoneBelow n t = (k : ℕ) → k < n → t k ≡ false

abbrev pub FoundSecond : ℕ → (ℕ → Bool) → Option ℕ → Type 0
FoundSecond n t o = MatchOption o (NoneBelow n t) (λ r. (r < n) × (t r ≡ true) × NoneBelow r t)

abbrev pub FoundPair : ℕ → (ℕ → ℕ → Bool) → Option (ℕ × ℕ) → Type 0
FoundPair n t o =
    MatchOption o ((q : ℕ) → q < n → NoneBelow n (t q))
    (λ x. (x.0 < n) × (x.1 < n) × (t x.0 x.1 ≡ true) × ((k : ℕ) → k < x.0 → NoneBelow n (t k)) × NoneBelow x.1 (t x.0))

abbrev pub found_ways : Option (ℕ × ℕ × ℕ) → Ways
found_ways None = one_way
found_ways (Some (p, q, r)) = two_ways p q r

-- a number that may be found
abbrev pub found : Option ℕ → searched.Option ℕ
found None = searched.none
found (Some k) = searched.some k
