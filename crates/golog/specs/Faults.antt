-- Faults as they are reported: a number, the layer where the ground lies, and a place.
use Rattle.std.specs.Prelude.{ℕ}

pub record Fault : Type 0 where
  pub number : ℕ
  pub layer : ℕ
  pub place : ℕ

-- the layers
abbrev pub text_layer : ℕ
text_layer = 3

abbrev pub routine_layer : ℕ
routine_layer = 4

abbrev pub positions_layer : ℕ
positions_layer = 5

abbrev pub sheet_layer : ℕ
sheet_layer = 6

abbrev pub job_layer : ℕ
job_layer = 7
