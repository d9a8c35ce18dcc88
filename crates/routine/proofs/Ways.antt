-- A routine has one way.
use Rattle.std.proofs.Common.{◌≡◌, zero, suc}
use mathlib.Core.Bool.{false≢true}
use mathlib.Core.Logic.{∥∥₁_elim}
use Rattle.golog.specs.Programs.{nil}
use Rattle.golog.specs.Points.{OneWay, ways}
use Rattle.golog.specs.Points.Ways.{one_way}
use Rattle.golog.proofs.OneWays.{ways_is_one_way}
use Rattle.routine.specs.Kept.{tables_prog}
use Rattle.routine.specs.Routines.{routine_prog}
use Rattle.routine.specs.declared.tables.Tables.{Tables}
use Rattle.routine.specs.declared.routine.Routine.{Routine}
use Rattle.routine.proofs.Tabled.{tables_named}

-- no point comes next in the empty program
pub nil_one_way : OneWay nil
nil_one_way zero q r h (v, x, _, _) y = false≢true x
nil_one_way (suc p) q r h (v, x, _, _) y = false≢true x

pub tables_one_way : (t : Tables) → ways t.facts (tables_prog t) ≡ one_way → OneWay (tables_prog t)
tables_one_way t e = (ways_is_one_way t.facts (tables_prog t) (tables_named t)).0 e

pub routine_one_way : (r : Routine) → OneWay (routine_prog r)
routine_one_way r p q s h x y = ∥∥₁_elim r.one (λ a b. absurd a) (λ one. one p q s h x y)
