-- A record is two bytes of length, two of kind, and its body; the length counts the body, low byte first.
use Rattle.std.specs.Prelude.{ℕ, ◌+◌, ◌*◌, Bool, true, false, List, [], ◌∷◌, length, take, drop, nat_le}

-- a number of two bytes, the low byte first
abbrev pub two_bytes : ℕ → ℕ → ℕ
two_bytes low high = low + 256 * high

-- what stands at the front of some bytes: a whole record and the bytes behind it, or one that is cut short
pub data Front : Type 0 where
  cut : Front
  whole : (kind : ℕ) (body rest : List ℕ) → Front

abbrev pub long_enough : Bool → ℕ → ℕ → List ℕ → Front
long_enough true n kind bytes = whole kind (take n bytes) (drop n bytes)
long_enough false n kind bytes = cut

abbrev pub front : List ℕ → Front
front [] = cut
front (a ∷ []) = cut
front (a ∷ (b ∷ [])) = cut
front (a ∷ (b ∷ (c ∷ []))) = cut
front (l0 ∷ (l1 ∷ (k0 ∷ (k1 ∷ bytes)))) =
    long_enough (nat_le (two_bytes l0 l1) (length bytes)) (two_bytes l0 l1) (two_bytes k0 k1) bytes
