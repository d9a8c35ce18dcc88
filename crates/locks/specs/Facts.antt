-- The facts of a lock as the bits of a number: a valuation of them, or a mask.
use Rattle.std.specs.Prelude.{ℕ, ◌/◌, ◌%◌, ◌^◌, Bool, ◌==◌, nat_lt}

-- whether bit i of the number is set
abbrev pub bit : ℕ → ℕ → Bool
bit n i = n / 2 ^ i % 2 == 1

-- whether no bit at or above the count is set
abbrev pub short : ℕ → ℕ → Bool
short count n = nat_lt n (2 ^ count)
