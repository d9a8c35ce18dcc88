-- What a fault of a record says to a foreman.
use Rattle.std.specs.Prelude.{ℕ, List, codes}
use Rattle.records.specs.declared.RecordFault.{RecordFault}
use Rattle.records.specs.declared.RecordFault.TheVariants.{Cut, NoHead, UnknownKind, OtherForm, OutOfOrder, WrongLength}

abbrev pub record_words : RecordFault → List ℕ
record_words (Cut at) = codes "the record is cut short"
record_words (NoHead at) = codes "the first record is no head"
record_words (UnknownKind at) = codes "no record has this kind"
record_words (OtherForm at) = codes "the record is of the other form of lock"
record_words (OutOfOrder at) = codes "the record stands behind a later group"
record_words (WrongLength at) = codes "the record has the wrong length"
