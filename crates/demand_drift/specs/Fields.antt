-- Document 02, Job 13, of lent bytes: which sets are within tolerance of each other. Tolerances and numbers are four bytes each, lowest first
-- (sheet_movement's specs/Moves), sets and results five bytes a value (value's specs/Bytes). Definitions only; assumes nothing.
use Rattle.std.specs.Prelude.{ℕ, ◌*◌, ◌/◌, ◌<◌, List, length}
use Rattle.std.proofs.Math.Option.{Option, some, none}
use Rattle.value.specs.declared.Value.{Value}
use Rattle.value.specs.Bytes.{value_of, word_at}
use Rattle.sheet_movement.specs.Moves.{number_at}
use Rattle.sheet_movement.specs.Near.{Near}

-- Two fields, both of which hold a value: "err in either or differs by no more than" d.
abbrev pub NearField : ℕ → Option Value → Option Value → Type 0
NearField d (some v) (some w) = Near d v w
NearField d (some v) none = ⊥
NearField d none w = ⊥

-- The first n values of two stretches of bytes, value i by number i of some numbers.
abbrev pub NearFields : ℕ → List ℕ → List ℕ → List ℕ → Type 0
NearFields n numbers a b = (i : ℕ) → i < n → NearField (number_at numbers (4 * i)) (value_of (word_at a (5 * i))) (value_of (word_at b (5 * i)))

-- "Two sets are within tolerance when each input is err in either or differs by no more than its tolerance." A tolerance an input, as 21 asks.
abbrev pub WithinTolerance : List ℕ → List ℕ → List ℕ → Type 0
WithinTolerance tolerances u v = NearFields (length tolerances / 4) tolerances u v
