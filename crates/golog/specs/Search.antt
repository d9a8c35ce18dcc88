-- Searches over the numbers below a bound.
use Rattle.std.specs.Prelude.{ℕ, zero, suc, Bool, true, false, ◌&&◌, List, [], ◌∷◌}
use Rattle.std.proofs.Math.Option.{Option, none, some}

-- whether every number below n passes the test
abbrev pub all_below : ℕ → (ℕ → Bool) → Bool
all_below zero t = true
all_below (suc n) t = t n && all_below n t

-- the lowest of the n numbers from k on that passes the test
abbrev pub lowest_from : ℕ → ℕ → (ℕ → Bool) → Option ℕ
lowest_from k zero t = none
lowest_from k (suc n) t = elim (t k) [ true ↦ some k | false ↦ lowest_from (suc k) n t ]

-- the lowest number below n that passes the test
abbrev pub lowest : ℕ → (ℕ → Bool) → Option ℕ
lowest n t = lowest_from 0 n t

-- the list of f k, f (k + 1) and so on, n of them
abbrev pub table_from {ℓ} : {A : Type ℓ} → ℕ → ℕ → (ℕ → A) → List A
table_from k zero f = []
table_from k (suc n) f = f k ∷ table_from (suc k) n f

-- the list of f 0 to f (n - 1)
abbrev pub table {ℓ} : {A : Type ℓ} → ℕ → (ℕ → A) → List A
table n f = table_from 0 n f
