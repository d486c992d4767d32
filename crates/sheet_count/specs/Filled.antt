-- The tables that test 10 of document 01 reads.
use Rattle.std.specs.Prelude.{ℕ, ◌≤◌, ◌≡◌, Bool, List, length}
use Rattle.names.specs.Names.{mask}
use Rattle.sheet_tables.specs.Nodes.{node_at, returned_in, iterated_in, free_in, Holds}
use Rattle.sheet_tables.specs.Ends.{ends_in}
use Rattle.sheet_tables.specs.Loops.{loops_of}
use Rattle.sheet_tables.specs.Ready.{Ready}

-- The tables that test 10 reads: loop widths w, masks m, returned and iterated widths, ends f.
pub record Filled (t : List ℕ) (n : ℕ) (p : List Bool) (w m ret it f : List ℕ) : Type 0 where
  pub ready : Ready t n p
  pub some : 1 ≤ n
  pub few : n ≤ 200
  pub loops : w ≡ loops_of t p (λ k. returned_in (node_at t p k)) n
  pub masks : Holds 0 m n (λ k. mask (free_in (node_at t p k)))
  pub returned : Holds 0 ret n (λ k. returned_in (node_at t p k))
  pub iterated : Holds 0 it n (λ k. iterated_in (node_at t p k))
  pub ends : Holds 0 f n (λ k. ends_in (node_at t p k))
  pub masks-size : length m ≡ n
  pub returned-size : length ret ≡ n
  pub iterated-size : length it ≡ n
  pub ends-size : length f ≡ n
