-- Operators of a net with twins: each has its number, is the only one that puts onto its links, and has a twin. And the three operators by which a
-- body's test reaches iter?: two copies and IC. Assumes nothing; crate theory_wiring places the operators of every fit graph.
use Rattle.std.specs.Prelude.{ℕ, ◌≡◌, ◌≢◌, List, [], ◌∷◌, get_or}
use Rattle.network.specs.Net.{Token, Demand, ask}
use Rattle.network.specs.Commute.{Never-emits}
use Rattle.network.specs.Poisoned.{poisoned}
use Rattle.network.specs.Uses.{Puts-onto}
use Rattle.theory_pieces.proofs.LateNets.{late-net, own-fine}
use Rattle.graph.specs.Assembly.{Graph, Env, Operator, copy_of, links_of, outputs}
use Rattle.theory_reference.specs.Plugged.{ports_of, demand_of, Each}
use Rattle.theory_reference.proofs.Plugged.{Has}
use Rattle.theory_reference.specs.Plan.{Between, Control}
use Rattle.theory_reference.specs.GraphLayout.{plan_of}

module _ (at : ℕ → Demand) (plain : ℕ → ℕ) where
  pub record Placed (o : Operator) : Type 0 where
    pub number : ℕ
    pub is : at number ≡ demand_of o
    pub own : plain number ≡ number
    -- no event of another operator puts onto its links
    pub alone : (l : ℕ) → Puts-onto o.kind (ports_of o) l → (e : ℕ) → number ≢ plain e → Never-emits (at e) l
    -- its twin begins with the link with which it begins
    pub asks : (l : ℕ) (k : Token → Demand) → demand_of o ≡ ask l k → (e : ℕ) → number ≡ plain e → (k' : Token → Demand) × (at e ≡ ask l k')
    pub twin : ℕ
    pub twin-is : at twin ≡ poisoned (demand_of o)
    pub twin-own : plain twin ≡ number

  pub placed-has : (N : ℕ) (X : ℕ → Type 0) (os : List Operator) → Each Placed os → Has (late-net at plain N X) os
  placed-has N X [] h = tt
  placed-has N X (o ∷ os) h = ((h.0.number, h.0.is, own-fine at plain N X h.0.number h.0.own), placed-has N X os h.1)

  -- The way of a body's test to iter?, in the graph g laid out from link n on.
  pub record Copied (g : Graph) (n : ℕ) (env : Env) : Type 0 where
    -- the test's link; the outputs of its first copy; those of its second
    pub test : ℕ
    pub arm₁ : ℕ
    pub on₁ : ℕ
    pub arm₂ : ℕ
    pub on₂ : ℕ
    pub first : Placed (copy_of test arm₁ on₁)
    pub second : Placed (copy_of on₁ arm₂ on₂)
    pub ic : Operator
    pub third : Placed ic
    pub begins : (k : Token → Demand) × (demand_of ic ≡ ask on₂ k)
    pub gives : Puts-onto ic.kind (ports_of ic) (get_or (outputs g n env) 0 0)
    -- the copies' links are the graph's own and no controls
    pub own-arm : Between n (links_of g) arm₁
    pub own₁ : Between n (links_of g) on₁
    pub own₂ : Between n (links_of g) on₂
    pub free₁ : Control (plan_of g n env) on₁ → ⊥
    pub free₂ : Control (plan_of g n env) on₂ → ⊥
