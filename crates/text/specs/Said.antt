-- What the words of a text are.
use Rattle.std.specs.Prelude.{Bool, true, false}
use Rattle.golog.specs.Words as golog
use Rattle.golog.specs.Words.{Byte}
use Rattle.golog.specs.Words.Byte.{space, hash, part, lone}
use Rattle.golog.specs.Words.Word.{name, open_round, close_round, begins, behind, cond_begins, cond_behind, strange}
use Rattle.golog.specs.Words.Begin.{open_square, nil_word, if_word, while_word}
use Rattle.golog.specs.Words.Behind.{asterisk, semicolon, bar, else_word, fi_word, od_word}
use Rattle.golog.specs.Words.CondBegin.{true_word, false_word, not_word}
use Rattle.golog.specs.Words.CondBehind.{and_word, or_word, close_square, then_word, do_word}
use Rattle.text.specs.declared.word.Mark.{Mark}
use Rattle.text.specs.declared.word.Mark.TheVariants as mark
use Rattle.text.specs.declared.word.Word.{Word}
use Rattle.text.specs.declared.word.Word.TheVariants.{Name, Open, OpenSquare, If, While, Nil, Not, True, False, Behind, Strange}
use Rattle.text.specs.declared.lexer.cutting.Kind.{Kind}
use Rattle.text.specs.declared.lexer.cutting.Kind.TheVariants.{Blank, Hash, Part, Lone}

abbrev pub mark_word : Mark → golog.Word
mark_word mark.Close = close_round
mark_word mark.CloseSquare = cond_behind close_square
mark_word mark.Semicolon = behind semicolon
mark_word mark.Bar = behind bar
mark_word mark.Star = behind asterisk
mark_word mark.Then = cond_behind then_word
mark_word mark.Else = behind else_word
mark_word mark.Fi = behind fi_word
mark_word mark.Do = cond_behind do_word
mark_word mark.Od = behind od_word
mark_word mark.And = cond_behind and_word
mark_word mark.Or = cond_behind or_word

abbrev pub said : Word → golog.Word
said (Name w) = name w.now
said Open = open_round
said OpenSquare = begins open_square
said If = begins if_word
said While = begins while_word
said Nil = begins nil_word
said Not = cond_begins not_word
said True = cond_begins true_word
said False = cond_begins false_word
said (Behind m) = mark_word m
said Strange = strange

abbrev pub said_kind : Kind → Byte
said_kind Blank = space
said_kind Hash = hash
said_kind Part = part
said_kind (Lone w) = lone (said w)

-- whether a word begins with such a byte
abbrev pub word_byte : Byte → Bool
word_byte space = false
word_byte hash = false
word_byte part = true
word_byte (lone w) = true
