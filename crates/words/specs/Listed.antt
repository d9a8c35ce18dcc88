-- The names that a list of names holds.
use Rattle.std.specs.Prelude.{ℕ, List, map, vec_items}
use Rattle.words.specs.declared.names.Names.{Names}

abbrev pub name_list : Names → List (List ℕ)
name_list n = map vec_items (vec_items n.list)
