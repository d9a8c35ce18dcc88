-- The allowance is a sound memory, and leaves a live lock live.
use Rattle.std.proofs.Common.{◌≡◌, ℕ, ◌+◌, ◌-◌, ◌<◌, Bool, true, false, not, ◌&&◌, ltb, ⊎_elim, arith}
use Rattle.std.proofs.lemmas.Bool.{cases_Bool, and_parts, and_from, or_left, or_right, not_from_false, cond_both}
use Rattle.locks.specs.Meaning.{reactions, any_below}
use Rattle.locks.specs.Layer.{Sound, Lively, admitted}
use Rattle.locks.specs.Allowed.{allowance, unmarked_possible}
use Rattle.locks.specs.AnyBelow.{some_below, any_from}

module _ (mark : ℕ → ℕ → Bool) (k : ℕ) where
  pub allowance_sound : Sound (allowance mark k)
  allowance_sound = record {
    start_below = omega arith;
    next_below = λ v a e h. cond_both (mark a e) (v - 1) v (λ x. x < k + 1) (λ _. omega arith) (λ _. h);
  }

  -- an unmarked reaction stays possible
  module _ (below : ℕ → Bool) (v a : ℕ) where
    unmarked_stays : unmarked_possible mark below a ≡ true → any_below reactions (admitted (allowance mark k) below v a) ≡ true
    unmarked_stays some =
        let w = some_below reactions (λ e. below e && not (mark a e)) some in
        let p = and_parts (below w.0) (not (mark a w.0)) w.2 in
        any_from reactions (admitted (allowance mark k) below v a) w.0 w.1
        (and_from (below w.0) _ p.0 (or_left (not (mark a w.0)) _ p.1))

    -- where no unmarked one is possible, each marked one is
    marked_stays : unmarked_possible mark below a ≡ false → any_below reactions below ≡ true
        → any_below reactions (admitted (allowance mark k) below v a) ≡ true
    marked_stays none some =
        let w = some_below reactions below some in
        any_from reactions (admitted (allowance mark k) below v a) w.0 w.1
        (and_from (below w.0) _ w.2
        (or_right (not (mark a w.0)) _ (or_right (ltb 0 v) _ (not_from_false _ none))))

  pub allowance_lively : Lively (allowance mark k)
  allowance_lively = record {
    leaves = λ below v a _ some.
        ⊎_elim (unmarked_stays below v a) (λ none. marked_stays below v a none some)
        (cases_Bool (unmarked_possible mark below a));
  }
