-- Job files of the small lock, byte by byte.
use Rattle.std.specs.Prelude.{ℕ, ◌/◌, ◌%◌, List, [], ◌∷◌, ◌++◌, length, codes}

-- a number as two bytes, the low byte first
abbrev pub low_high : ℕ → List ℕ
low_high n = n % 256 ∷ n / 256 ∷ []

-- a record: its length, its kind and its body
abbrev pub record_of : ℕ → List ℕ → List ℕ
record_of kind body = low_high (length body) ++ (low_high kind ++ body)

abbrev pub joined : List (List ℕ) → List ℕ
joined [] = []
joined (r ∷ rs) = r ++ joined rs

abbrev head_record : List ℕ
head_record = record_of 0x0001 (1 ∷ 2 ∷ 2 ∷ (low_high 4 ++ low_high 0))

abbrev rule_record : ℕ → ℕ → ℕ → List ℕ
rule_record act need lack = record_of 0x0010 (act ∷ (low_high need ++ low_high lack))

abbrev change_record : ℕ → ℕ → ℕ → List ℕ
change_record act reaction set = record_of 0x0011 (act ∷ reaction ∷ (low_high 0 ++ (low_high 0 ++ (low_high set ++ low_high 0))))

abbrev pub mark_record : ℕ → ℕ → List ℕ
mark_record act reaction = record_of 0x0031 (act ∷ reaction ∷ [])

abbrev pub allowance_record : ℕ → List ℕ
allowance_record k = record_of 0x0032 (k ∷ [])

-- The small lock. Facts wound and shut; acts wind and close, both not allowed once the lock is shut; first state 0.
-- Wind 0 sets wound, wind 1 sets nothing, close 0 sets shut.
abbrev small_model : List (List ℕ)
small_model =
    head_record
    ∷ record_of 0x0002 (codes "wound")
    ∷ record_of 0x0002 (codes "shut")
    ∷ record_of 0x0003 (codes "wind")
    ∷ record_of 0x0003 (codes "close")
    ∷ rule_record 0 0 2
    ∷ rule_record 1 0 2
    ∷ change_record 0 0 1
    ∷ change_record 0 1 0
    ∷ change_record 1 0 2
    ∷ []

-- its job file, with records of the layer and a routine
abbrev pub small_file : List (List ℕ) → List ℕ → List ℕ
small_file layer text = joined small_model ++ (joined layer ++ record_of 0x0040 text)
