-- Standings, what Trans reaches, and ways of choosing that surely end.
use Rattle.std.specs.Prelude.{◌≡◌, ℕ, zero, suc, true, ◌⊎◌, List, [], ◌∷◌, ◌++◌}
use Rattle.locks.specs.Meaning.{Meaning}
use Rattle.golog.specs.Programs.{Prog, Final, Trans}

-- What was done and seen: acts, each with its reaction, the first of them first.
abbrev pub History : Type 0
History = List (ℕ × ℕ)

-- A standing is a remainder with a state. From the standing of δ and s Trans reaches, by a list of acts and reactions, that of δ' and s'.
abbrev pub ReachesFrom : Meaning → Prog → ℕ → History → Prog → ℕ → Type 0
ReachesFrom m δ s [] δ' s' = (δ' ≡ δ) × (s' ≡ s)
ReachesFrom m δ s (x ∷ h) δ' s' =
    (δ₁ : Prog) × (s₁ : ℕ) × Trans m δ s x.0 x.1 δ₁ s₁ × ReachesFrom m δ₁ s₁ h δ' s'

-- The first standing is the whole program with the first state.
abbrev pub Reaches : Meaning → Prog → History → Prog → ℕ → Type 0
Reaches m δ h δ' s' = ReachesFrom m δ m.first h δ' s'

-- A way of choosing names, from all done and seen, an act or a stop.
pub data Choice : Type 0 where
  stop : Choice
  go : ℕ → Choice

abbrev pub Way : Type 0
Way = History → Choice

-- It stops where Final holds.
abbrev pub StopsWell : Meaning → Way → History → Prog → ℕ → Type 0
StopsWell m f h δ s = (f h ≡ stop) × (Final δ (m.holds s) ≡ true)

-- Ends m f n h δ s: after the history h, from the standing of δ and s, the way f ends within n.
-- It stops where Final holds; or n is at least 1, its act has a Trans step,
-- and after each possible reaction Trans reaches a standing where it ends within n - 1.
abbrev pub Ends : Meaning → Way → ℕ → History → Prog → ℕ → Type 0
Ends m f zero h δ s = StopsWell m f h δ s
Ends m f (suc n) h δ s =
    StopsWell m f h δ s
    ⊎ ((a : ℕ)
    × (f h ≡ go a)
    × ((e : ℕ) × (δ' : Prog) × (s' : ℕ) × Trans m δ s a e δ' s')
    × ((e : ℕ) → m.possible s a e ≡ true → (δ' : Prog) × (s' : ℕ) × Trans m δ s a e δ' s' × Ends m f n (h ++ (a, e) ∷ []) δ' s'))
