-- Whether a record may stand where it stands, as a record: its kind, its form, its group and its length.
use Rattle.std.specs.Prelude.{ℕ, cond, List, length, Some, None, Ok, Err, Option, Result, ◌==◌, nat_le}
use Rattle.records.specs.declared.RecordFault.{RecordFault}
use Rattle.records.specs.declared.RecordFault.TheVariants.{NoHead, UnknownKind, OtherForm, OutOfOrder, WrongLength}
use Rattle.items.specs.declared.kind.Kind.{Kind}
use Rattle.items.specs.declared.kind.Kind.TheVariants.{Head}
use Rattle.items.specs.declared.item.Header.{Header}
use Rattle.items.specs.Kinds.{kind_number, kind_of, group_of, of_form, fits_length}
use Rattle.items.specs.Layout.{Entry, entry, header}

-- the first record of a file is a head, of a head's length
abbrev pub opened : (at kind : ℕ) → List ℕ → Result Header RecordFault
opened at kind body =
    cond (kind == kind_number Head) (cond (fits_length Head (length body)) (Ok (header body)) (Err (WrongLength at))) (Err (NoHead at))

-- a later record is of the lock's form, of no earlier group than the record before it, and of its kind's length
abbrev pub placed_kind : (form group at : ℕ) → List ℕ → Kind → Result Entry RecordFault
placed_kind form group at body k =
    cond (of_form k form)
    (cond (nat_le group (group_of k)) (cond (fits_length k (length body)) (Ok (entry k body)) (Err (WrongLength at))) (Err (OutOfOrder at)))
    (Err (OtherForm at))

abbrev pub placed_as : (form group at : ℕ) → List ℕ → Option Kind → Result Entry RecordFault
placed_as form group at body None = Err (UnknownKind at)
placed_as form group at body (Some k) = placed_kind form group at body k

abbrev pub placed : (form group at kind : ℕ) → List ℕ → Result Entry RecordFault
placed form group at kind body = placed_as form group at body (kind_of kind)
