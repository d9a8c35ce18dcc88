-- What a rule asks of the facts, and what a change makes of them, as the bits of a number.
use Rattle.std.specs.Prelude.{ℕ, ◌-◌, Bool, ◌&&◌, ◌==◌, bit_and, bit_or}

-- whether all need bits are set in the number, and no lack bit
abbrev pub met : ℕ → ℕ → ℕ → Bool
met n need lack = bit_and n need == need && bit_and n lack == 0

-- the number without the bits that it shares with clear, then with those of set
abbrev pub rewritten : ℕ → ℕ → ℕ → ℕ
rewritten n clear set = bit_or (n - bit_and n clear) set
