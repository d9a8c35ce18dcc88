-- Words and names: when two words are the same, which words are reserved, and what a name is.
use Rattle.std.specs.Prelude.{ℕ, suc, ◌+◌, Bool, true, false, not, ◌&&◌, ◌||◌, List, [], ◌∷◌, length, Some, None, codes, Option, ◌==◌, nat_le, slice_index}
use Rattle.std.specs.List.{list_any, list_all}

-- two words are the same if they have the same letters in the same order; capital letters count
abbrev pub same_word : List ℕ → List ℕ → Bool
same_word [] [] = true
same_word [] (y ∷ ys) = false
same_word (x ∷ xs) [] = false
same_word (x ∷ xs) (y ∷ ys) = x == y && same_word xs ys

-- whether a word is the same as one of the list
abbrev pub among : List ℕ → List (List ℕ) → Bool
among w vs = list_any (same_word w) vs

-- the place of the first entry of a list that is the same word
abbrev pub one_on : Option ℕ → Option ℕ
one_on None = None
one_on (Some i) = Some (suc i)

abbrev pub position : List (List ℕ) → List ℕ → Option ℕ
position [] w = None
position (v ∷ vs) w = elim (same_word v w) [ true ↦ Some 0 | false ↦ one_on (position vs w) ]

-- a place counted from an entry of the list
abbrev pub further : ℕ → Option ℕ → Option ℕ
further i None = None
further i (Some k) = Some (i + k)

abbrev pub reserved_words : List (List ℕ)
reserved_words =
    codes "if" ∷ (codes "then" ∷ (codes "else" ∷ (codes "fi" ∷ (codes "while" ∷ (codes "do" ∷ (codes "od" ∷ (codes "nil" ∷ (codes "and" ∷ (codes "or" ∷ (codes "not" ∷ (codes "true" ∷ (codes "false" ∷ []))))))))))))

abbrev pub is_reserved : List ℕ → Bool
is_reserved w = among w reserved_words

-- an ASCII letter
abbrev pub is_letter : ℕ → Bool
is_letter b = nat_le 97 b && nat_le b 122 || nat_le 65 b && nat_le b 90

-- a letter, a digit or an underscore
abbrev pub is_name_byte : ℕ → Bool
is_name_byte b = is_letter b || (nat_le 48 b && nat_le b 57 || b == 95)

abbrev pub all_name_bytes : List ℕ → Bool
all_name_bytes w = list_all is_name_byte w

-- the longest name
abbrev pub most_letters : ℕ
most_letters = 24

-- a letter at the front, and no more bytes than a name may have
abbrev pub name_shaped : List ℕ → Bool
name_shaped [] = false
name_shaped (b ∷ bs) = is_letter b && nat_le (suc (length bs)) most_letters

-- a letter, then letters, digits or underscores, 1 to 24 bytes in all, and no reserved word
abbrev pub is_name : List ℕ → Bool
is_name w = nat_le 1 (length w) && (nat_le (length w) most_letters && (is_letter (slice_index w 0) && (all_name_bytes w && not (is_reserved w))))
