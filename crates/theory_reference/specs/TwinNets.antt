-- In each round of a loop its first test is copied, shown by what lies on three links before and after. Assumes one putter for each of the three.
use Rattle.std.specs.Prelude.{ℕ, zero, suc, ◌≤◌, ◌≡◌, refl, ◌≢◌, ◌⊎◌, List, [], ◌∷◌}
use Rattle.theory_schedule.specs.Counts.{count}
use Rattle.network.specs.Net.{Token, Demand, ask, Links}
use Rattle.network.specs.Commute.{Never-emits}
use Rattle.theory_pieces.specs.Goes.{one_place}

-- a: the first copy of the test, onto l₁; b: the second, from l₁ onto l₂; c: IC, from l₂ onto iter?.
pub record Tested (net : ℕ → Demand) (plain : ℕ → ℕ) (a b c l₁ l₂ it : ℕ) : Type 0 where
  pub one₁ : (e : ℕ) → a ≢ plain e → Never-emits (net e) l₁
  pub one₂ : (e : ℕ) → b ≢ plain e → Never-emits (net e) l₂
  pub one₃ : (e : ℕ) → c ≢ plain e → Never-emits (net e) it
  pub asks₁ : (e : ℕ) → b ≡ plain e → (k : Token → Demand) × (net e ≡ ask l₁ k)
  pub asks₂ : (e : ℕ) → c ≡ plain e → (k : Token → Demand) × (net e ≡ ask l₂ k)
