-- The call fire of the firmware (machine_calls/specs/Calls: `fired`, the contract of `bench_fire`) on a standing memory: an accepted one has fired an operator of the
-- graph, and the memory it leaves is explained by Brock's history rule of that operator's kind. Document 01, "Said by how the machine stands": "34 the
-- operator is absent or not able". Assumes a capacity of 1 to 16.
use Rattle.std.specs.Prelude.{ℕ, ◌≤◌, ◌<◌, ◌≡◌, Bool, ◌&&◌, List}
use Rattle.std.proofs.Math.Path.{refl, ap, subst}
use Rattle.std.proofs.Common.{sym, ◌∙◌, arith}
use Rattle.std.proofs.Math.Bool.{true, false}
use borrow.Author.Tests.{eqb-false, ltb-true, le-leb}
use Rattle.std.proofs.Math.Dec.{ltb, eqb}
use Rattle.std.proofs.Math.ListN.{length}
use Rattle.value.specs.Operators.{pick}
use Rattle.network.specs.Net.{Links}
use Rattle.formula.specs.declared.Refusal.TheVariants.{NotAble}
use Rattle.machine_layout.specs.Layout.{capacity_in, operators_of, size_of}
use Rattle.machine_firing.specs.Fire.{able_at, fired_at}
use Rattle.machine_calls.specs.Calls.{outcome, answers, refusal, size_in, standing, fired}
use Rattle.graph.specs.Assembly.{Operator}
use Rattle.graph.specs.Translation.{Made}
use Rattle.demand_view.specs.Sound.{Ith, Sound}
use Rattle.demand_view.specs.Stands.{Stands}
use Rattle.demand_view.proofs.Operators.{ith-there}
use Rattle.demand_view.specs.FiredHistory.{Fires-in-memory}
use Rattle.demand_view.proofs.FiredHistory.{fired-by-history}

module _ (g : Made) (S : Sound g) (kinds : List ℕ) (capacity : ℕ) (low : 1 ≤ capacity) (high : capacity ≤ 16) (m : List ℕ) (q : Links) (H : Stands g kinds capacity m q) where
  capacity-read : capacity_in capacity ≡ capacity
  unfolding capacity_in
  capacity-read = simp (le-leb 1 capacity low, le-leb capacity 16 high)

  -- the stretches have the length of the stored capacity
  pub stands-size : size_in m ≡ size_of capacity
  stands-size = ap (λ (c : ℕ). size_of (capacity_in c)) H.capacity-is ∙ ap size_of capacity-read

  -- An accepted fire: the operator is there and able, and it has fired.
  accepted : (i : ℕ) → (fired m i).answer.refusal ≡ 0 →
      (i < length g.operators) × (able_at m (size_of capacity) i ≡ true) × ((fired m i).mem ≡ fired_at m (size_of capacity) i)
  unfolding fired
  accepted i = go (eqb (standing m) 0) refl (ltb i (operators_of m)) refl (able_at m (size_in m) i) refl
    where
      go : (a : Bool) → eqb (standing m) 0 ≡ a → (b : Bool) → ltb i (operators_of m) ≡ b → (c : Bool) → able_at m (size_in m) i ≡ c →
          (pick a (pick (b && c) (outcome (answers 0 0) (fired_at m (size_in m) i)) (outcome (refusal NotAble) m)) (outcome (answers (standing m) 0) m)).answer.refusal ≡ 0 →
          (i < length g.operators) × (able_at m (size_of capacity) i ≡ true)
          × ((pick a (pick (b && c) (outcome (answers 0 0) (fired_at m (size_in m) i)) (outcome (refusal NotAble) m)) (outcome (answers (standing m) 0) m)).mem ≡ fired_at m (size_of capacity) i)
      go false e b f c t z = absurd (eqb-false (standing m) 0 e z)
      go true e false f c t z = absurd (omega arith)
      go true e true f false t z = absurd (omega arith)
      go true e true f true t z = (
        subst (λ n. i < n) H.operators-are (ltb-true i (operators_of m) f),
        subst (λ n. able_at m n i ≡ true) stands-size t,
        ap (λ (n : ℕ). fired_at m n i) stands-size,
      )

  -- THE SENTENCE for the call fire.
  pub fire-by-history : (i : ℕ) → (fired m i).answer.refusal ≡ 0 → (o : Operator) × Ith g.operators i o × Fires-in-memory g kinds capacity m q i o (fired m i).mem
  fire-by-history i z =
      let a = accepted i z in
      let w = ith-there g.operators i a.0 in
      (w.0, w.1, subst (Fires-in-memory g kinds capacity m q i w.0) (sym a.2) (fired-by-history g S kinds capacity m q H i w.0 w.1 low a.1))
