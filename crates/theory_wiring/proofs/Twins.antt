-- The machine of Machine.antt with a twin of each operator, beyond T (network/specs/Poisoned): every operator is placed in it, no operator uses a spare
-- link, push and take have no twins, and own events commute with every event of another operator: what theory_pieces/specs/Alone asks of a graph that can
-- be cut. Assumes what Machine.antt assumes, and that T lies past all operators, push and take.
use Rattle.std.specs.Prelude.{ℕ, suc, ◌+◌, ◌-◌, ◌≤◌, ◌<◌, ◌≡◌, ◌≢◌, List, [], ◌∷◌, length}
use Rattle.std.proofs.Common.{sym, ◌∙◌}
use Rattle.std.proofs.Math.Path.{ap, subst}
use Rattle.std.proofs.Math.Logic.{ite}
use Rattle.std.proofs.Math.Decide.{dec_lt, ℕ_discrete}
use native.Mathlib.Omega.{arith}
use Rattle.theory_schedule.proofs.Twins.{Part-diamond}
use Rattle.network.specs.Net.{Demand, halt, Links, Able, act, label}
use Rattle.network.specs.Commute.{Never-asks, Never-emits}
use Rattle.network.proofs.Commute.{enabled, next, output}
use Rattle.network.specs.Poisoned.{poisoned}
use Rattle.network.proofs.Poisoned.{asks-poisoned, emits-poisoned, plain, twinned, twinned-puts, twinned-asks, twin-at, own_at, part-diamond}
use Rattle.network.specs.Ends.{push-demand, take-demand}
use Rattle.network.proofs.Ends.{machine, machine-graph}
use Rattle.network.specs.Uses.{Puts-onto}
use Rattle.graph.specs.Assembly.{Graph, free, Env, Operator, links_of, outputs, operators_of}
use Rattle.graph.specs.Fit.{Fit}
use Rattle.theory_reference.specs.Plan.{Envs}
use Rattle.theory_reference.specs.Plugged.{nowhere, ports_of, demand_of, Each}
use Rattle.theory_reference.specs.Bystanders.{Unused}
use Rattle.theory_reference.proofs.Placed.{Placed}
use Rattle.theory_wiring.specs.Machine.{net_of, PutsAt}
use Rattle.theory_wiring.proofs.Machine.{net-past, Spare, spare-unused, puts-alone, Ends, machine-commutes}

-- Where events that are possible in one net are the same in another, the diamond of that one holds.
module _ (own : ℕ → ℕ) (net net' : ℕ → Demand) (cap : ℕ → ℕ) (same : (a : ℕ) (q : Links) → Able cap (net a) q → net' a ≡ net a)
    (D : Part-diamond own (enabled net' cap) (next net' cap) (output net' cap)) where
  both : (P : Demand → Demand → Type 0) (a b : ℕ) (q : Links) → Able cap (net a) q → Able cap (net b) q →
      (Able cap (net' a) q → Able cap (net' b) q → P (net' a) (net' b)) → P (net a) (net b)
  both P a b q ha hb f =
      let za = same a q ha in
      let zb = same b q hb in
      subst (λ d. P d (net b)) za (subst (P (net' a)) zb (f (subst (λ d. Able cap d q) (sym za) ha) (subst (λ d. Able cap d q) (sym zb) hb)))

  diamond-within : Part-diamond own (enabled net cap) (next net cap) (output net cap)
  diamond-within =
      record {
        stays = λ a b q e ne ha hb. both (λ c d. Able cap d (act c q) × Able cap c (act d q)) a b q ha hb (D.stays a b q e ne);
        meets = λ a b q e ne ha hb. both (λ c d. act d (act c q) ≡ act c (act d q)) a b q ha hb (D.meets a b q e ne);
        same = λ a b q e ne ha hb. both (λ c d. (label d (act c q) ≡ label d q) × (label c (act d q) ≡ label c q)) a b q ha hb (D.same a b q e ne);
      }

module _ (g : Graph) (n : ℕ) (env : Env) (fit : Fit g) (E : Envs (free g) env n) (room : n + links_of g ≤ nowhere) (T : ℕ)
    (many : length (operators_of g n env) ≤ T) (pos : 0 < T) where
  abbrev ops : List Operator
  ops = operators_of g n env

  abbrev twins : ℕ → Demand
  twins = twinned (net_of ops) T

  abbrev own : ℕ → ℕ
  own = plain (net_of ops) T

  place : (i : ℕ) (o : Operator) → i < T → net_of ops i ≡ demand_of o → ((l : ℕ) → Puts-onto o.kind (ports_of o) l → PutsAt ops i l) → Placed twins own o
  place i o lt e puts =
      let a = own_at (net_of ops) T i lt in
      let t = twin-at (net_of ops) T i in
      record {
        number = i;
        is = a.0 ∙ e;
        own = a.1;
        alone = λ l p. twinned-puts (net_of ops) T i l (puts-alone g n env fit E room i l (puts l p));
        asks = λ l k z. twinned-asks (net_of ops) T i l k (e ∙ z);
        twin = T + i;
        twin-is = t.0 ∙ ap poisoned e;
        twin-own = t.1;
      }

  placed-from : (m : ℕ) (os : List Operator) → m + length os ≤ T → ((i : ℕ) → net_of ops (m + i) ≡ net_of os i) → ((i l : ℕ) → PutsAt os i l → PutsAt ops (m + i) l) →
      Each (Placed twins own) os
  placed-from m [] le at puts = tt
  placed-from m (o ∷ os) le at puts = (
    place m o (omega arith) (ap (net_of ops) (omega arith) ∙ at 0) (λ l p. subst (λ j. PutsAt ops j l) (omega arith) (puts 0 l p)),
    placed-from (suc m) os (omega arith) (λ i. ap (net_of ops) (omega arith) ∙ at (suc i)) (λ i l p. subst (λ j. PutsAt ops j l) (omega arith) (puts (suc i) l p)),
  )

  pub all_placed : Each (Placed twins own) ops
  all_placed =
      placed-from 0 ops (omega arith) (λ i. ap (net_of ops) (omega arith)) (λ i l p. subst (λ j. PutsAt ops j l) (omega arith) p)

  -- A twin uses the links that its operator uses; so no event uses a spare link.
  pub twins-unused : (l : ℕ) → Spare g n env fit E room l → Unused twins l
  unfolding twinned
  twins-unused l s = record { asks = λ a. none-asks a (dec_lt a T); emits = λ a. none-emits a (dec_lt a T) }
    where
      none : Unused (net_of ops) l
      none = spare-unused g n env fit E room l s

      none-asks : (a : ℕ) (d : Dec (a < T)) → Never-asks (ite d (net_of ops a) (poisoned (net_of ops (a - T)))) l
      none-asks a (yes x) = none.asks a
      none-asks a (no x) = asks-poisoned (net_of ops (a - T)) l (none.asks (a - T))

      none-emits : (a : ℕ) (d : Dec (a < T)) → Never-emits (ite d (net_of ops a) (poisoned (net_of ops (a - T)))) l
      none-emits a (yes x) = none.emits a
      none-emits a (no x) = emits-poisoned (net_of ops (a - T)) l (none.emits (a - T))

  -- An operator that can fire is itself.
  pub own-operator : (cap : ℕ → ℕ) (a : ℕ) (q : Links) → Able cap (net_of ops a) q → (twins a ≡ net_of ops a) × (own a ≡ a)
  own-operator cap a q o = go (dec_lt a T)
    where
      go : Dec (a < T) → (twins a ≡ net_of ops a) × (own a ≡ a)
      go (yes p) = own_at (net_of ops) T a p
      go (no p) = absurd (subst (λ d. Able cap d q) (net-past ops a (omega arith)) o)

  module _ (push take source credit : ℕ) (ins : List ℕ) (H : Ends g n env fit E room push take source credit ins) (push-low : push < T) (take-low : take < T) where
    pub twin-push-halts : twins push ≡ halt
    twin-push-halts = (own_at (net_of ops) T push push-low).0 ∙ net-past ops push H.push-past

    pub twin-take-halts : twins take ≡ halt
    twin-take-halts = (own_at (net_of ops) T take take-low).0 ∙ net-past ops take H.take_past

    pub own-push : own push ≡ push
    own-push = (own_at (net_of ops) T push push-low).1

    pub own-take : own take ≡ take
    own-take = (own_at (net_of ops) T take take-low).1

    abbrev bare : ℕ → Demand
    bare = machine (net_of ops) push take source credit ins (outputs g n env)

    abbrev full : ℕ → Demand
    full = machine twins push take source credit ins (outputs g n env)

    twin-of : (b : ℕ) → full (T + b) ≡ poisoned (net_of ops b)
    twin-of b =
        machine-graph twins push take source credit ins (outputs g n env) (T + b) (λ e. omega arith) (λ e. omega arith) ∙ (twin-at (net_of ops) T b).0

    -- What is possible in the machine with twins is the same with twins of the whole machine, since those of push and take are never possible.
    twin-event : (cap : ℕ → ℕ) (b : ℕ) (q : Links) → Able cap (full (T + b)) q → twinned bare T (T + b) ≡ full (T + b)
    twin-event cap b q o =
        (twin-at bare T b).0
        ∙ ap poisoned (machine-graph (net_of ops) push take source credit ins (outputs g n env) b (differs push H.push-past) (differs take H.take_past))
        ∙ sym (twin-of b)
      where
        differs : (p : ℕ) → length ops ≤ p → b ≢ p
        differs p past e = subst (λ d. Able cap d q) (twin-of b ∙ ap poisoned (ap (net_of ops) e ∙ net-past ops p past)) o

    same-event : (cap : ℕ → ℕ) (a : ℕ) (q : Links) → Able cap (full a) q → twinned bare T a ≡ full a
    unfolding machine
    same-event cap a q o = go (dec_lt a T)
      where
        go : Dec (a < T) → twinned bare T a ≡ full a
        go (yes p) =
            (own_at bare T a p).0
            ∙ ap (λ d. ite (ℕ_discrete a push) (push-demand source credit ins) (ite (ℕ_discrete a take) (take-demand credit (outputs g n env)) d)) (sym (own_at (net_of ops) T a p).0)
        go (no p) =
            let z : T + (a - T) ≡ a = omega arith in
            subst (λ c. Able cap (full c) q → twinned bare T c ≡ full c) z (twin-event cap (a - T) q) o

    pub part : (cap : ℕ → ℕ) → Part-diamond own (enabled full cap) (next full cap) (output full cap)
    unfolding plain
    part cap =
        diamond-within own full (twinned bare T) cap (same-event cap)
        (part-diamond bare T pos (machine-commutes g n env fit E room push take source credit ins H) cap)
