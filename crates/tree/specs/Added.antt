-- Why an entry is not added: a part of it is no entry; else the table is full, from 65,535 entries on; else there is no memory.
use Rattle.std.specs.Prelude.{ℕ, Bool, cond, nat_lt}
use Rattle.tree.specs.declared.tree.growing.Unadded.{Unadded}
use Rattle.tree.specs.declared.tree.growing.Unadded.TheVariants.{Part, Full, Memory}

abbrev pub unadded : (lower : Bool) (entries : ℕ) → Unadded
unadded lower entries = cond lower (cond (nat_lt entries 65535) Memory Full) Part
