-- How many act words a list of words has, and how deep it stands at its end, counted from the words alone.
use Rattle.std.specs.Prelude.{ℕ, ◌+◌, Bool, true, false, List, [], ◌∷◌, length}
use Rattle.golog.specs.Words.{Word}
use Rattle.golog.specs.Words.Word.{name, open_round, close_round, begins, behind, cond_begins, cond_behind, strange}
use Rattle.golog.specs.Words.Begin.{open_square, nil_word, if_word, while_word}
use Rattle.golog.specs.Words.Behind.{asterisk, semicolon, bar, else_word, fi_word, od_word}
use Rattle.golog.specs.Words.CondBegin.{true_word, false_word, not_word}
use Rattle.golog.specs.Words.CondBehind.{and_word, or_word, close_square, then_word, do_word}

-- Whether one stands in a condition behind a word, from whether one did before it: a condition goes from [, if or while to ], then or do.
abbrev pub cond_after : Bool → Word → Bool
cond_after b (name w) = b
cond_after b open_round = b
cond_after b close_round = b
cond_after b (begins open_square) = true
cond_after b (begins nil_word) = b
cond_after b (begins if_word) = true
cond_after b (begins while_word) = true
cond_after b (behind x) = b
cond_after b (cond_begins x) = b
cond_after b (cond_behind and_word) = b
cond_after b (cond_behind or_word) = b
cond_after b (cond_behind close_square) = false
cond_after b (cond_behind then_word) = false
cond_after b (cond_behind do_word) = false
cond_after b strange = b

-- A name outside of conditions is an act word.
abbrev pub act_here : Word → Bool → ℕ
act_here (name w) true = 0
act_here (name w) false = 1
act_here open_round b = 0
act_here close_round b = 0
act_here (begins x) b = 0
act_here (behind x) b = 0
act_here (cond_begins x) b = 0
act_here (cond_behind x) b = 0
act_here strange b = 0

-- the act words among words that begin in a condition or outside, and of a routine
abbrev pub acts_from : Bool → List Word → ℕ
acts_from b [] = 0
acts_from b (w ∷ ws) = act_here w b + acts_from (cond_after b w) ws

abbrev pub acts_among : List Word → ℕ
acts_among ws = acts_from false ws

-- The levels that are open, the innermost first: brackets, an if or a while; and a not, up to the end of its operand.
pub data Level : Type 0 where
  part waiting : Level

-- an operand ends, and with it the nots that stand before it
abbrev pub ended : List Level → List Level
ended [] = []
ended (part ∷ ls) = part ∷ ls
ended (waiting ∷ ls) = ended ls

-- brackets, an if or a while are closed; in a condition they were an operand
abbrev pub closed : List Level → List Level
closed [] = []
closed (l ∷ ls) = ended ls

-- ( [ if while and not open a level; ) ] fi and od close one; names, true and false are operands
abbrev pub levels_after : List Level → Word → List Level
levels_after ls (name w) = ended ls
levels_after ls open_round = part ∷ ls
levels_after ls close_round = closed ls
levels_after ls (begins open_square) = part ∷ ls
levels_after ls (begins nil_word) = ls
levels_after ls (begins if_word) = part ∷ ls
levels_after ls (begins while_word) = part ∷ ls
levels_after ls (behind asterisk) = ls
levels_after ls (behind semicolon) = ls
levels_after ls (behind bar) = ls
levels_after ls (behind else_word) = ls
levels_after ls (behind fi_word) = closed ls
levels_after ls (behind od_word) = closed ls
levels_after ls (cond_begins true_word) = ended ls
levels_after ls (cond_begins false_word) = ended ls
levels_after ls (cond_begins not_word) = waiting ∷ ls
levels_after ls (cond_behind and_word) = ls
levels_after ls (cond_behind or_word) = ls
levels_after ls (cond_behind close_square) = closed ls
levels_after ls (cond_behind then_word) = ls
levels_after ls (cond_behind do_word) = ls
levels_after ls strange = ls

abbrev pub levels_from : List Level → List Word → List Level
levels_from ls [] = ls
levels_from ls (w ∷ ws) = levels_from (levels_after ls w) ws

-- how deep one stands behind the words
abbrev pub nesting : List Word → ℕ
nesting ws = length (levels_from [] ws)
