-- What the passes of tests 8 to 10 start from: a table of fields that passed tests 4 to 7, with its places; and what tests 8
-- and 9 leave.
use Rattle.std.specs.Prelude.{ℕ, ◌*◌, ◌≤◌, ◌≡◌, Bool, true, List, length}
use Rattle.formula.specs.Places.{places_of}
use Rattle.formula.specs.Tests.{ranges_well, placed_well}
use Rattle.formula.specs.PlaceLaws.{Sound}
use Rattle.names.specs.Names.{mask}
use Rattle.sheet_tables.specs.Nodes.{node_at, returned_in, iterated_in, free_in, Holds}

pub record Ready (t : List ℕ) (n : ℕ) (p : List Bool) : Type 0 where
  pub size : length t ≡ 5 * n
  pub sound : Sound t n
  pub places : p ≡ places_of t n
  pub ranges : (r : ℕ) → 1 ≤ r → r ≤ n → ranges_well t r ≡ true
  pub iters : (r : ℕ) → 1 ≤ r → r ≤ n → placed_well t p r ≡ true

-- What tests 8 and 9 leave in the tables of widths and masks.
pub record Noded (t : List ℕ) (n : ℕ) (p : List Bool) (ret it m : List ℕ) : Type 0 where
  pub returned : Holds 0 ret n (λ k. returned_in (node_at t p k))
  pub iterated : Holds 0 it n (λ k. iterated_in (node_at t p k))
  pub masks : Holds 0 m n (λ k. mask (free_in (node_at t p k)))
  pub returned-size : length ret ≡ n
  pub iterated-size : length it ≡ n
  pub masks-size : length m ≡ n
