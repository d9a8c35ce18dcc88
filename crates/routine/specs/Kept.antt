-- The program that is kept.
use Rattle.std.specs.Prelude.{Some, None, Option}
use Rattle.golog.specs.Programs.{Prog, nil}
use Rattle.text.specs.Parse.{parsed_prog}
use Rattle.routine.specs.declared.tables.Tables.{Tables}

abbrev pub tables_prog : Tables → Prog
tables_prog t = parsed_prog t.program

abbrev pub kept_prog : Option Tables → Prog
kept_prog None = nil
kept_prog (Some t) = tables_prog t
