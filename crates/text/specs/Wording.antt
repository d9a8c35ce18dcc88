-- What a fault of a text says to a foreman.
use Rattle.std.specs.Prelude.{ℕ, List, codes}
use Rattle.text.specs.declared.fault.TextFault.{TextFault}
use Rattle.text.specs.declared.fault.TextFault.TheVariants.{Word, Misplaced, Unknown, OverLimit, Memory}

abbrev pub text_words : TextFault → List ℕ
text_words (Word w) = codes "this is no word of a routine"
text_words (Misplaced o) = codes "the word does not fit there, or the text ends too soon"
text_words (Unknown o) = codes "no act, or no fact, has this name"
text_words (OverLimit o) = codes "too many words, too many acts, or too deep"
text_words Memory = codes "there is no memory for what the text says"
