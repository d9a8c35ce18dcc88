-- The words that are left of a text.
use Rattle.golog.specs.Words as golog
use Rattle.std.specs.Prelude.{List, drop}
use Rattle.golog.specs.Words.{cut}
use Rattle.golog.specs.Words.Cutting.{gap}
use Rattle.text.specs.declared.word.Token.{Token}
use Rattle.text.specs.declared.lexer.Words.{Words}
use Rattle.text.specs.Said.{said}

abbrev pub said_token : Token → golog.Token
said_token t = golog.token t.at (said t.word)

abbrev pub left : Words → List golog.Token
left w = cut gap w.at (drop w.at w.text.now)
