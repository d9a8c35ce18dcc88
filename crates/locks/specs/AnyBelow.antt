-- What `any_below` says: some number passes the test, or none does.
use Rattle.std.proofs.Common.{◌≡◌, ℕ, ◌<◌, Bool, true, false, Decides, refl, ⊎_elim}
use Rattle.std.proofs.lemmas.Bool.{cases_Bool, both_ways}
use Rattle.std.proofs.lemmas.Bool.Decides.{Decides-below_or}
use Rattle.locks.specs.Meaning.{any_below}

decided : (n : ℕ) (p : ℕ → Bool) → Decides (any_below n p) ((k : ℕ) × (k < n) × (p k ≡ true))
decided n p = Decides-below_or p (λ k. p k ≡ true) (λ m. any_below m p) (λ k. (λ e. e, λ e. e)) refl (λ _. refl) n

pub some_below : (n : ℕ) (p : ℕ → Bool) → any_below n p ≡ true → (k : ℕ) × (k < n) × (p k ≡ true)
some_below n p = (decided n p).0

pub any_from : (n : ℕ) (p : ℕ → Bool) (k : ℕ) → k < n → p k ≡ true → any_below n p ≡ true
any_from n p k h e = (decided n p).1 (k, h, e)

pub none_below : (n : ℕ) (p : ℕ → Bool) → any_below n p ≡ false → (k : ℕ) → k < n → p k ≡ false
none_below n p none k h = ⊎_elim (λ e. absurd (both_ways _ none (any_from n p k h e))) (λ e. e) (cases_Bool (p k))

pub none_from : (n : ℕ) (p : ℕ → Bool) → ((k : ℕ) → k < n → p k ≡ false) → any_below n p ≡ false
none_from n p none =
    ⊎_elim
    (λ e. let w = some_below n p e in absurd (both_ways _ (none w.0 w.1) w.2))
    (λ e. e)
    (cases_Bool (any_below n p))
