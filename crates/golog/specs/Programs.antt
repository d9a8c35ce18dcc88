-- Golog programs over acts and tests, and their single steps.
use Rattle.std.specs.Prelude.{◌≡◌, ℕ, Bool, true, false, not, ◌&&◌, ◌||◌, nat_lt}
use Rattle.locks.specs.Meaning.{Meaning}

-- A valuation: which facts are true.
abbrev pub Valuation : Type 0
Valuation = ℕ → Bool

-- A condition on the facts.
pub data Cond : Type 0 where
  always : Cond
  never : Cond
  fact : ℕ → Cond
  negated : Cond → Cond
  both : Cond → Cond → Cond
  any : Cond → Cond → Cond

-- A condition holds or fails by its parts.
abbrev pub eval : Cond → Valuation → Bool
eval always v = true
eval never v = false
eval (fact i) v = v i
eval (negated c) v = not (eval c v)
eval (both c d) v = eval c v && eval d v
eval (any c d) v = eval c v || eval d v

-- A program: an act, a test, one after the other, a choice, a repeat.
pub data Prog : Type 0 where
  act : ℕ → Prog
  test : Cond → Prog
  seq : Prog → Prog → Prog
  alt : Prog → Prog → Prog
  star : Prog → Prog

-- The three abbreviations: the empty program is a test that always holds;
-- if c then p else q is c?; p | (not c)?; q; while c do p is (c?; p)*; (not c)?.
abbrev pub nil : Prog
nil = test always

abbrev pub if_then_else : Cond → Prog → Prog → Prog
if_then_else c p q = alt (seq (test c) p) (seq (test (negated c)) q)

abbrev pub while_do : Cond → Prog → Prog
while_do c p = seq (star (seq (test c) p)) (test (negated c))

-- Final: the program may stop under the valuation.
abbrev pub Final : Prog → Valuation → Bool
Final (act a) v = false
Final (test c) v = eval c v
Final (seq p q) v = Final p v && Final q v
Final (alt p q) v = Final p v || Final q v
Final (star p) v = true

-- Step v a δ δ': under the valuation v the program δ may do the act a, and δ' remains.
-- A test is no step. Whether the act is allowed is left to the lock.
pub data Step (v : Valuation) (a : ℕ) : Prog → Prog → Type 0 where
  by_act : Step v a (act a) nil
  in_first : {p p' q : Prog} → Step v a p p' → Step v a (seq p q) (seq p' q)
  in_second : {p q q' : Prog} → Final p v ≡ true → Step v a q q' → Step v a (seq p q) q'
  in_left : {p p' q : Prog} → Step v a p p' → Step v a (alt p q) p'
  in_right : {p q q' : Prog} → Step v a q q' → Step v a (alt p q) q'
  in_star : {p p' : Prog} → Step v a p p' → Step v a (star p) (seq p' (star p))

-- Trans: from the program δ in the state s, the act a with the reaction e leads to δ' in the state s'.
abbrev pub Trans : Meaning → Prog → ℕ → ℕ → ℕ → Prog → ℕ → Type 0
Trans m δ s a e δ' s' = Step (m.holds s) a δ δ' × (m.possible s a e ≡ true) × (s' ≡ m.after s a e)

-- A program is stuck under a valuation if it can neither stop nor take a step.
abbrev pub Stuck : Prog → Valuation → Type 0
Stuck δ v = (Final δ v ≡ false) × ((a : ℕ) (δ' : Prog) → Step v a δ δ' → ⊥)

-- whether a condition, and a program, names no fact but those below a number
abbrev pub cond_names_below : ℕ → Cond → Bool
cond_names_below n always = true
cond_names_below n never = true
cond_names_below n (fact i) = nat_lt i n
cond_names_below n (negated c) = cond_names_below n c
cond_names_below n (both c d) = cond_names_below n c && cond_names_below n d
cond_names_below n (any c d) = cond_names_below n c && cond_names_below n d

abbrev pub names_below : ℕ → Prog → Bool
names_below n (act a) = true
names_below n (test c) = cond_names_below n c
names_below n (seq p q) = names_below n p && names_below n q
names_below n (alt p q) = names_below n p && names_below n q
names_below n (star p) = names_below n p

-- whether a program has no act but those below a number
abbrev pub acts_below : ℕ → Prog → Bool
acts_below n (act a) = nat_lt a n
acts_below n (test c) = true
acts_below n (seq p q) = acts_below n p && acts_below n q
acts_below n (alt p q) = acts_below n p && acts_below n q
acts_below n (star p) = acts_below n p
