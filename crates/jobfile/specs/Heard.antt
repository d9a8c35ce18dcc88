-- The routine's text, read as its record comes.
use Rattle.std.specs.Prelude.{◌≡◌, ℕ, List, length, Some, None, Option}
use Rattle.std.specs.Option.{option_map}
use Rattle.golog.specs.Programs.{Prog}
use Rattle.model.specs.Contents.{Contents, first_of}
use Rattle.text.specs.declared.parsed.Parsed.{Parsed}
use Rattle.text.specs.Parse.{parsed_prog}

-- the program so far
abbrev pub program_of : Option Parsed → Option Prog
program_of o = option_map parsed_prog o

-- a text that was read was the last record, and its facts are those that have come
abbrev pub ParsedStands : Option Parsed → Contents → Type 0
ParsedStands None c = Unit {0}
ParsedStands (Some p) c = (c.group ≡ 5) × ((t : List ℕ) × (first_of c.texts ≡ Some t)) × (p.facts ≡ length c.facts)

-- what reading a text, if there is one, leaves of the program so far
abbrev pub Listened : Option (List ℕ) → Option Parsed → Option Parsed → ℕ → Type 0
Listened None old new facts = new ≡ old
Listened (Some t) old new facts = (p : Parsed) × (new ≡ Some p) × (p.facts ≡ facts)
