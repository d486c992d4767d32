-- Laws of specs/Ends.antt, and what only they need.
use Rattle.std.specs.Prelude.{ℕ, ◌≤◌, ◌≡◌, ◌≢◌, List}
use Rattle.std.proofs.Math.Path.{refl}
use Rattle.std.proofs.Common.{◌∙◌, arith}
use Rattle.std.proofs.Math.Logic.{ite, if_pos, if_neg, Ne-symm}
use Rattle.std.proofs.Math.Decide.{ℕ_discrete}
use Rattle.network.specs.Net.{Demand}
use Rattle.network.specs.Ends.{push-demand, take-demand, capacities}

pub capacities-one : (credit capacity : ℕ) → 1 ≤ capacity → (l : ℕ) → 1 ≤ capacities credit capacity l
unfolding capacities
capacities-one credit capacity h l = go (ℕ_discrete l credit)
  where
    go : (d : Dec (l ≡ credit)) → 1 ≤ ite d 16 capacity
    go (yes e) = omega arith
    go (no n) = h

-- The machine: the graph's operators with push and take under numbers of their own.
module _ (graph : ℕ → Demand) (push take source credit : ℕ) (ins outs : List ℕ) where
  unfoldable pub machine : ℕ → Demand
  machine a = ite (ℕ_discrete a push) (push-demand source credit ins) (ite (ℕ_discrete a take) (take-demand credit outs) (graph a))

  pub machine-push : machine push ≡ push-demand source credit ins
  unfolding machine
  machine-push = if_pos (ℕ_discrete push push) refl _ _

  pub machine-take : push ≢ take → machine take ≡ take-demand credit outs
  unfolding machine
  machine-take ne = if_neg (ℕ_discrete take push) (Ne-symm ne) _ _ ∙ if_pos (ℕ_discrete take take) refl _ _

  pub machine-graph : (a : ℕ) → a ≢ push → a ≢ take → machine a ≡ graph a
  unfolding machine
  machine-graph a n m = if_neg (ℕ_discrete a push) n _ _ ∙ if_neg (ℕ_discrete a take) m _ _
