-- A result comes from its own set even where sets before it never end: the k-th result taken is what direct evaluation yields for the k-th set as soon as
-- that set's own evaluation ends. The reference works every set: the k-th as its evaluation goes, every other cut (`Cut`), by twins that a run never meets.
-- Assumes `Cut` besides what Calls.antt assumes.
use Rattle.std.specs.Prelude.{ℕ, zero, suc, ◌<◌, ◌≤◌, ◌≡◌, length, get_or}
use Rattle.std.proofs.Math.Path.{refl, sym, ap, subst}
use Rattle.std.proofs.Common.{◌∙◌, arith}
use Rattle.std.proofs.Math.Logic.{ite}
use mathlib.Core.List.{List, [], ◌∷◌, ◌++◌}
use Rattle.std.proofs.Math.Option.{Option, some}
use Rattle.std.proofs.Math.Decide.{ℕ_discrete}
use Rattle.theory_schedule.proofs.Schedules.{Possible, outputs}
use Rattle.theory_schedule.specs.Schedules.{Agree}
use Rattle.theory_schedule.proofs.Twins.{Part-diamond, Late, late-append, late-one, Own-events, late-outputs-agree}
use Rattle.value.specs.declared.Value.{Value}
use Rattle.network.specs.Net.{Token, Demand, Links, Able, act, label}
use Rattle.network.proofs.Commute.{enabled, next, output}
use Rattle.network.specs.Ends.{push-demand, take-demand}
use Rattle.network.proofs.Ends.{machine}
use Rattle.theory_pieces.specs.Load.{Load}
use Rattle.theory_pieces.specs.Piece.{Piece, Means, some_of, Fits}
use Rattle.theory_pieces.proofs.Piece.{Serves}
use Rattle.theory_pieces.proofs.LateNets.{late-net}
use Rattle.theory_pieces.specs.Sets.{tokens-of}
use Rattle.theory_pieces.proofs.Sets.{net, Bench}
use Rattle.theory_pieces.proofs.Demand3.{Between, Reference, ref-nil, ref-then, base, base-clear, worked, Evaluated}
use Rattle.theory_pieces.specs.Demand3.{tape-of, each-tokens}
use Rattle.theory_pieces.proofs.Made.{Made}
use Rattle.theory_pieces.specs.Tape.{Step, sets_of, takes_of, Sized}
use Rattle.theory_pieces.proofs.Tape.{events-of, Source-apart, simulated}
use Rattle.theory_pieces.proofs.Calls.{Credit-apart, length-results, started, Accepted-calls, taken-results, taken-at-most-pushed}

-- A graph with twins, in which every set of values comes to an end: each twin behind N firings of its operator.
pub record Cut (graph : ℕ → Demand) (p k source credit : ℕ) (P : Piece) (eval : ℕ → List Value → Option (List Value)) (N : ℕ) : Type 1 where
  pub twins : ℕ → Demand
  pub plain : ℕ → ℕ
  pub M : Means
  pub bench : Bench twins p k source credit P M
  pub late : Serves (late-net twins plain N (λ a. ⊥)) P M
  pub push-own : plain p ≡ p
  pub take_own : plain k ≡ k
  -- an operator of the graph is itself
  pub own : (cap : ℕ → ℕ) (a : ℕ) (q : Links) → Able cap (graph a) q → (twins a ≡ graph a) × (plain a ≡ a)
  pub part : (cap : ℕ → ℕ) → Part-diamond plain (enabled (net twins p k source credit P M) cap) (next (net twins p k source credit P M) cap) (output (net twins p k source credit P M) cap)
  -- a set whose evaluation ends gives its result
  pub ended : (n : ℕ) (v r : List Value) → Fits P.ins v → eval n v ≡ some r → Fits P.outs r × ((c : ℕ) × M (some_of v) c (some (some_of r)))
  -- and every set, cut, gives something
  pub cut : (v : List Value) → Fits P.ins v → (r : List Value) × Fits P.outs r × ((c : ℕ) × M (some_of v) c (some (some_of r)))

-- Lists that agree are the same at every place that both have.
agree_at : {O : Type 0} (d : O) (xs ys : List O) (n : ℕ) → Agree xs ys → n < length xs → n < length ys → get_or xs n d ≡ get_or ys n d
agree_at d [] ys n a h g = absurd (omega arith)
agree_at d (x ∷ xs) [] n a h g = absurd (omega arith)
agree_at d (x ∷ xs) (y ∷ ys) zero a h g = a.0
agree_at d (x ∷ xs) (y ∷ ys) (suc n) a h g = agree_at d xs ys n a.1 (omega arith) (omega arith)

module _ (graph : ℕ → Demand) (p k source credit : ℕ) (P : Piece) (eval : ℕ → List Value → Option (List Value)) (N : ℕ) (K : Cut graph p k source credit P eval N)
    (cap : ℕ → ℕ) (roomy : (l : ℕ) → 1 ≤ cap l) where
  -- The machine over the graph, and the one over the graph with twins.
  abbrev net₀ : ℕ → Demand
  net₀ = machine graph p k source credit P.ins P.outs

  abbrev net₁ : ℕ → Demand
  net₁ = net K.twins p k source credit P K.M

  -- what can happen in a machine, and what its takes hand out
  abbrev Runs : (ℕ → Demand) → List ℕ → Links → Type 0
  Runs m = Possible (enabled m cap) (next m cap) (output m cap)

  abbrev Taken : (ℕ → Demand) → List ℕ → Links → List (List Token)
  Taken m = outputs (enabled m cap) (next m cap) (output m cap) k

  -- Push, take and every operator that is able are the same in both, and no twins.
  same-event : (a : ℕ) (q : Links) → Able cap (net₀ a) q → (net₁ a ≡ net₀ a) × (K.plain a ≡ a)
  unfolding machine
  same-event a q = go (ℕ_discrete a p) (ℕ_discrete a k)
    where
      go : (d : Dec (a ≡ p)) (e : Dec (a ≡ k)) → Able cap (ite d (push-demand source credit P.ins) (ite e (take-demand credit P.outs) (graph a))) q →
          (ite d (push-demand source credit P.ins) (ite e (take-demand credit P.outs) (K.twins a))
          ≡ ite d (push-demand source credit P.ins) (ite e (take-demand credit P.outs) (graph a)))
          × (K.plain a ≡ a)
      go (yes x) e o = (refl, ap K.plain x ∙ K.push-own ∙ sym x)
      go (no n) (yes x) o = (refl, ap K.plain x ∙ K.take_own ∙ sym x)
      go (no n) (no m) o = K.own cap a q o

  -- A run of the machine is one of the machine with twins, of own events, and its takes hand out the same.
  record Carried (u : List ℕ) (q : Links) : Type 0 where
    owns : Own-events K.plain (enabled net₁ cap) (next net₁ cap) (output net₁ cap) u
    runs : Runs net₁ u q
    gives : Taken net₁ u q ≡ Taken net₀ u q

  carried : (u : List ℕ) (q : Links) → Runs net₀ u q → Carried u q
  carried [] q r = record { owns = tt; runs = tt; gives = refl }
  carried (a ∷ u) q (o, r) =
      let e = same-event a q o in
      let h = carried u (act (net₀ a) q) r in
      record {
        owns = (e.1, h.owns);
        runs = (subst (λ d. Able cap d q) (sym e.0) o, subst (λ d. Runs net₁ u (act d q)) (sym e.0) h.runs);
        gives = ap (λ d. ite (ℕ_discrete k a) (label d q ∷ Taken net₁ u (act d q)) (Taken net₁ u (act d q))) e.0
            ∙ ap (λ z. ite (ℕ_discrete k a) (label (net₀ a) q ∷ z) z) h.gives;
      }

  -- both at rest with an idle load, the sets to come on the tape
  abbrev At : Load → List Token → Links
  At σ tape = Between K.twins p k source credit P K.M K.bench cap roomy σ tape (λ l. [])

  abbrev All-late : List ℕ → Type 0
  All-late w = (a : ℕ) → Late K.plain N a w

  abbrev Works : List (List Value) → List (List Value) → Type 0
  Works = Evaluated K.twins p k source credit P K.M K.bench cap roomy

  -- The reference: the sets one after another, every twin late.
  late-reference : (vss rss : List (List Value)) (σ : Load) → Works vss rss → P.Idle σ →
      (σ' : Load) × (R : Reference K.twins p k source credit P K.M K.bench cap roomy (At σ (tape-of vss [])) (each-tokens rss) (At σ' [])) × All-late R.w
  unfolding ref-nil ref-then
  late-reference [] [] σ e i = (σ, ref-nil K.twins p k source credit P K.M K.bench cap roomy (At σ []), λ a. tt)
  late-reference [] (r ∷ rss) σ e i = absurd e
  late-reference (v ∷ vss) [] σ e i = absurd e
  late-reference (v ∷ vss) (r ∷ rss) σ e i =
      let h = K.late (some_of v) e.2.0 (some (some_of r)) e.2.1 σ i in
      let s = h.2 (base K.twins p k source credit P K.M K.bench cap roomy (tape-of vss []) (λ l. []))
      (base-clear K.twins p k source credit P K.M K.bench cap roomy (tape-of vss []) (λ l. []) (λ l d. refl)) in
      let f = worked K.twins p k source credit P K.M K.bench cap roomy v r (tape-of vss []) σ h.0 (λ l. []) e.0 e.1 i h.1
      (λ l d. refl) refl s.w s.runs s.ends in
      let g = late-reference vss rss h.0 e.3 h.1 in
      let one-late : All-late f.0.w
      = subst All-late (sym f.1)
      (λ a. late-append K.plain N a (p ∷ []) (s.w ++ (k ∷ [])) (late-one K.plain N a p K.push-own)
      (late-append K.plain N a s.w (k ∷ []) (s.fine a (λ x. x)) (late-one K.plain N a k K.take_own))) in (
        g.0,
        ref-then K.twins p k source credit P K.M K.bench cap roomy (At σ (tape-of (v ∷ vss) [])) (At h.0 (tape-of vss []))
            (At g.0 []) (tokens-of r ∷ []) (each-tokens rss) f.0 g.1,
        λ a. late-append K.plain N a f.0.w g.1.w (one-late a) (g.2 a),
      )

  -- every set cut
  all-cut : (vss : List (List Value)) → Sized P.ins vss → (rss : List (List Value)) × Works vss rss
  all-cut [] s = ([], tt)
  all-cut (v ∷ vss) s = let c = K.cut v s.0 in let g = all-cut vss s.1 in (c.0 ∷ g.0, (s.0, c.1, c.2, g.1))

  -- every set cut but the n-th, which ends
  but-one : (vss : List (List Value)) → Sized P.ins vss → (n : ℕ) → n < length vss → (rounds : ℕ) (r : List Value) → eval rounds (get_or vss n []) ≡ some r →
      (rss : List (List Value)) × Works vss rss × (n < length (each-tokens rss)) × (get_or (each-tokens rss) n [] ≡ tokens-of r)
  but-one [] s n h rounds r e = absurd (omega arith)
  but-one (v ∷ vss) s zero h rounds r e =
      let m = K.ended rounds v r s.0 e in
      let g = all-cut vss s.1 in
      (r ∷ g.0, (s.0, m.0, m.1, g.1), omega arith, refl)
  but-one (v ∷ vss) s (suc n) h rounds r e =
      let c = K.cut v s.0 in
      let g = but-one vss s.1 n (omega arith) rounds r e in
      (c.0 ∷ g.0, (s.0, c.1, c.2, g.1), omega (arith, g.2), g.3)

  -- The n-th take of a run of at most N events hands out what the n-th set gives.
  run-gives : (vss : List (List Value)) → Sized P.ins vss → (σ : Load) → P.Idle σ → (u : List ℕ) → length u ≤ N →
      Runs net₀ u (At σ (tape-of vss [])) → (n : ℕ) → n < length vss → n < length (Taken net₀ u (At σ (tape-of vss []))) →
      (rounds : ℕ) (r : List Value) → eval rounds (get_or vss n []) ≡ some r → get_or (Taken net₀ u (At σ (tape-of vss []))) n [] ≡ tokens-of r
  run-gives vss s σ i u le ru n h t rounds r e =
      let g = but-one vss s n h rounds r e in
      let R = late-reference vss g.0 σ g.1 i in
      let c = carried u (At σ (tape-of vss [])) ru in
      let ag : Agree (Taken net₀ u (At σ (tape-of vss []))) (each-tokens g.0)
      = subst (λ z. Agree z (each-tokens g.0)) c.gives
      (subst (λ z. Agree (Taken net₁ u (At σ (tape-of vss []))) z) R.1.gives
      (late-outputs-agree K.plain (enabled net₁ cap) (next net₁ cap) (output net₁ cap) (K.part cap) N k u R.1.w
      (At σ (tape-of vss [])) c.owns le c.runs R.1.runs R.2)) in
      agree_at [] (Taken net₀ u (At σ (tape-of vss []))) (each-tokens g.0) n ag t g.2 ∙ g.3

module _ (graph : ℕ → Demand) (p k source credit : ℕ) (P : Piece) (M : Means) (eval : ℕ → List Value → Option (List Value)) (F : Made graph p k source credit P M eval) (cap : ℕ → ℕ)
    (roomy : (l : ℕ) → 1 ≤ cap l) (A : Source-apart graph p k source credit P.ins P.outs cap) (C : Credit-apart graph credit P.ins P.outs cap)
    (cuts : (N : ℕ) → 1 ≤ N → Cut graph p k source credit P eval N) where
  -- The n-th result taken is what direct evaluation yields for the n-th set, if it ends; nothing is asked of the sets before it.
  pub alone : (w : List Step) → Sized P.ins (sets_of w) → Accepted-calls graph p k source credit P M eval F cap roomy A C w → (n : ℕ) → n < takes_of w →
      (rounds : ℕ) (r : List Value) → eval rounds (get_or (sets_of w) n []) ≡ some r →
      get_or (taken-results graph p k source credit P M eval F cap roomy A C w) n [] ≡ tokens-of r
  alone w s a n h rounds r e =
      let u = events-of p k w in
      let sim = simulated graph p k source credit P.ins P.outs cap A w (started graph p k source credit P M eval F cap roomy A C) [] s a in
      let len = length-results graph credit P.ins P.outs cap w (started graph p k source credit P M eval F cap roomy A C) in
      subst (λ z. get_or z n [] ≡ tokens-of r) sim.hands
      (run-gives graph p k source credit P eval (suc (length u)) (cuts (suc (length u)) (omega arith)) cap roomy (sets_of w) s F.fresh F.fresh-idle u (omega arith) sim.possible n
      (omega (arith, taken-at-most-pushed graph p k source credit P M eval F cap roomy A C w a)) (subst (λ z. n < length z) (sym sim.hands) (omega (arith, len))) rounds r e)
