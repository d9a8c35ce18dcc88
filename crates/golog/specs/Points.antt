-- The points of a program, what remains at each, and which come next.
use Rattle.std.specs.Prelude.{◌≡◌, ℕ, zero, suc, ◌+◌, ◌-◌, ◌*◌, ◌/◌, ◌%◌, ◌^◌, ◌<◌, ◌≤◌, Bool, true, false, cond, ◌&&◌, ◌||◌, List, [], ◌∷◌, ◌++◌, length, ◌==◌, nat_lt, slice_index_or}
use Rattle.std.proofs.Math.Option.{Option, none, some}
use Rattle.locks.specs.Meaning.{any_below}
use Rattle.golog.specs.Search.{lowest}
use Rattle.golog.specs.Faults.{Fault, routine_layer}
use Rattle.golog.specs.Programs.{Valuation, Prog, nil, names_below, Final, Step}
use Rattle.golog.specs.Programs.Cond.{never}
use Rattle.golog.specs.Programs.Prog.{act, test, seq, alt, star}

-- the number that stands for no act
abbrev pub no_act : ℕ
no_act = 255

-- The act words of a program, in the order of reading.
abbrev pub act_words : Prog → List ℕ
act_words (act a) = a ∷ []
act_words (test c) = []
act_words (seq p q) = act_words p ++ act_words q
act_words (alt p q) = act_words p ++ act_words q
act_words (star p) = act_words p

-- how many act words a program has
abbrev pub words : Prog → ℕ
words δ = length (act_words δ)

-- Point 0 is the beginning, and point k the place after the k-th act word.
abbrev pub points : Prog → ℕ
points δ = suc (words δ)

-- the act word before a point; before point 0 there is none
abbrev pub word : Prog → ℕ → ℕ
word δ k = slice_index_or (no_act ∷ act_words δ) k no_act

-- What remains at a point: at point 0 the whole program; after a word inside the first of two, what remains there and then the second;
-- after a word inside a repeat, what remains there and then the repeat again. Past the last point nothing can be done, not even stopping.
abbrev pub rem : Prog → ℕ → Prog
rem (act a) zero = act a
rem (act a) (suc zero) = nil
rem (act a) (suc (suc k)) = test never
rem (test c) zero = test c
rem (test c) (suc k) = test never
rem (seq p q) zero = seq p q
rem (seq p q) (suc k) = cond (nat_lt k (words p)) (seq (rem p (suc k)) q) (rem q (suc (k - words p)))
rem (alt p q) zero = alt p q
rem (alt p q) (suc k) = cond (nat_lt k (words p)) (rem p (suc k)) (rem q (suc (k - words p)))
rem (star p) zero = star p
rem (star p) (suc k) = seq (rem p (suc k)) (star p)

-- The program with each act word replaced by the number of the point after it, the first of them n + 1:
-- a step of it says which of the words is taken.
abbrev pub numbered_from : ℕ → Prog → Prog
numbered_from n (act a) = act (suc n)
numbered_from n (test c) = test c
numbered_from n (seq p q) = seq (numbered_from n p) (numbered_from (n + words p) q)
numbered_from n (alt p q) = alt (numbered_from n p) (numbered_from (n + words p) q)
numbered_from n (star p) = star (numbered_from n p)

abbrev pub numbered : Prog → Prog
numbered δ = numbered_from 0 δ

-- whether a program has a step by the act: the clauses of Step, as a test
abbrev pub takes : Prog → Valuation → ℕ → Bool
takes (act b) v a = a == b
takes (test c) v a = false
takes (seq p q) v a = takes p v a || (Final p v && takes q v a)
takes (alt p q) v a = takes p v a || takes q v a
takes (star p) v a = takes p v a

-- The point q comes next from the point p: the remainder of p may take the act word before q. Its being allowed is left aside.
abbrev pub next : Prog → Valuation → ℕ → ℕ → Bool
next δ v p q = takes (rem (numbered δ) p) v q

-- A point may stop where its remainder is final. It goes on when it may stop or some point comes next.
abbrev pub goes_on : Prog → Valuation → ℕ → Bool
goes_on δ v p = Final (rem δ p) v || any_below (points δ) (next δ v p)

-- Two ways, first part: q and r come next from p by one act under one valuation.
abbrev pub Together : Prog → ℕ → ℕ → ℕ → Type 0
Together δ p q r = (v : Valuation) × (next δ v p q ≡ true) × (next δ v p r ≡ true) × (word δ q ≡ word δ r)

-- Two ways, second part: q and r go on under one valuation.
abbrev pub GoOnTogether : Prog → ℕ → ℕ → Type 0
GoOnTogether δ q r = (w : Valuation) × (goes_on δ w q ≡ true) × (goes_on δ w r ≡ true)

-- A program has one way: no point has two next points of one act under one valuation that both go on under some valuation.
abbrev pub OneWay : Prog → Type 0
OneWay δ = (p q r : ℕ) → q < r → Together δ p q r → GoOnTogether δ q r → ⊥

-- The n-th valuation: fact i is true where bit i of n is set. Those below 2 ^ facts are all the valuations of so many facts.
abbrev pub valuation : ℕ → Valuation
valuation n i = (n / (2 ^ i)) % 2 == 1

-- the two parts, tried over the valuations of so many facts
abbrev pub together : ℕ → Prog → ℕ → ℕ → ℕ → Bool
together facts δ p q r =
    (word δ q == word δ r) && any_below (2 ^ facts) (λ n. next δ (valuation n) p q && next δ (valuation n) p r)

abbrev pub go_on_together : ℕ → Prog → ℕ → ℕ → Bool
go_on_together facts δ q r = any_below (2 ^ facts) (λ n. goes_on δ (valuation n) q && goes_on δ (valuation n) r)

-- the ground of the two-ways fault
abbrev pub two_ways_at : ℕ → Prog → ℕ → ℕ → ℕ → Bool
two_ways_at facts δ p q r = nat_lt q r && (together facts δ p q r && go_on_together facts δ q r)

-- What the check of a program finds: one way, or two from p to q and r, with p, then q, then r the lowest.
pub data Ways : Type 0 where
  one_way : Ways
  two_ways : ℕ → ℕ → ℕ → Ways

-- the triple of points that the number k stands for, among those of n points in rising order
abbrev pub ways_of : ℕ → Option ℕ → Ways
ways_of n none = one_way
ways_of n (some k) = two_ways (k / (n * n)) ((k / n) % n) (k % n)

abbrev pub ways : ℕ → Prog → Ways
ways facts δ =
    let n = points δ in ways_of n (lowest (n * n * n) (λ k. two_ways_at facts δ (k / (n * n)) ((k / n) % n) (k % n)))

-- the place of the two-ways fault
abbrev pub ways_place : ℕ → ℕ → ℕ → ℕ
ways_place p q r = p * 4096 + q * 64 + r

-- fault 11
abbrev pub two_ways_fault : ℕ → ℕ → ℕ → Fault
two_ways_fault p q r = record { number = 11; layer = routine_layer; place = ways_place p q r }

abbrev pub ways_fault : Ways → Option Fault
ways_fault one_way = none
ways_fault (two_ways p q r) = some (two_ways_fault p q r)

-- The check over the valuations of so many facts finds one way exactly when there is one, of a program that names no other facts;
-- and it finds two ways with the lowest place, of a program with at most 63 act words.
abbrev pub WaysIsOneWay : Type 0
WaysIsOneWay =
    (facts : ℕ) (δ : Prog) → names_below facts δ ≡ true →
    (ways facts δ ≡ one_way → OneWay δ)
    × (OneWay δ → ways facts δ ≡ one_way)
    × ((p q r : ℕ) → ways facts δ ≡ two_ways p q r →
    (q < r) × Together δ p q r × GoOnTogether δ q r
    × (words δ ≤ 63 → (p' q' r' : ℕ) → q' < r' → Together δ p' q' r' → GoOnTogether δ q' r' → ways_place p q r ≤ ways_place p' q' r'))

-- The steps of a point's remainder are exactly the points that come next: a step by an act leads to what remains
-- at a next point with that act word before it, and each next point is had by such a step.
abbrev pub NextIsTrans : Type 0
NextIsTrans =
    (δ : Prog) (v : Valuation) (p a : ℕ) (δ' : Prog) →
    (Step v a (rem δ p) δ' → (q : ℕ) × (next δ v p q ≡ true) × (word δ q ≡ a) × (rem δ q ≡ δ'))
    × ((q : ℕ) → next δ v p q ≡ true → word δ q ≡ a → rem δ q ≡ δ' → Step v a (rem δ p) δ')
