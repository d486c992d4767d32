-- Laws of specs/TurnLaws.antt, and what only they need.
use Prim.Native.Nat.{ℕ, zero, suc, ◌+◌, ◌≤◌}
use Rattle.std.specs.Prelude.{◌≡◌, ◌≢◌}
use Rattle.std.proofs.Math.Path.{refl, sym, ap, ap₂, subst}
use Rattle.std.proofs.Common.{◌∙◌, arith}
use Rattle.std.proofs.Math.Logic.{ite, if_neg}
use mathlib.Core.List.{List, [], ◌∷◌, ◌++◌, map, append_assoc}
use Rattle.std.proofs.Math.Option.{Option, none, some}
use Rattle.std.proofs.Math.ListN.{length}
use Rattle.std.proofs.Math.Decide.{ℕ_discrete}
use Rattle.theory_schedule.specs.Schedules.{reached}
use Rattle.theory_schedule.proofs.Schedules.{reached-append}
use Rattle.theory_schedule.specs.Counts.{count}
use Rattle.theory_schedule.proofs.Rounds.{turn, roundFrom, rounds}
use Rattle.value.specs.declared.Value.{Value}
use Rattle.network.specs.Net.{Demand, Links, Able, act}
use Rattle.network.proofs.Commute.{enabled, next, output}
use Rattle.theory_pieces.specs.Tape.{Step, pushing, firing, taking, sets_of, takes_of}
use Rattle.theory_pieces.proofs.Tape.{events-of}
use Rattle.formula.specs.Tree.{Exp}
use Rattle.graph.specs.Translation.{made_of}
use Rattle.theory_wiring.specs.Machine.{net_of}
use Rattle.theory_wiring.proofs.Machine.{net-past}
use Rattle.theory_verdicts.specs.Running.{places, operator_at, dec_able, Call, pushes, runs, takes, demand_of, after_steps, accept, least_able, onward, run_steps, steps_of, steps_from}
use Rattle.theory_verdicts.proofs.RunningLaws.{Made-in-turn, triggering}
use Rattle.theory_rounds.specs.InTurn.{fires_from, rounds_of, in_turn, AllAccepted, times}
use Rattle.theory_rounds.specs.TurnLaws.{Only-firings}

-- ---- lists of steps
pub sets-append : (w u : List Step) → sets_of (w ++ u) ≡ sets_of w ++ sets_of u
sets-append [] u = refl
sets-append (pushing v ∷ w) u = ap (λ (z : List (List Value)). v ∷ z) (sets-append w u)
sets-append (firing a ∷ w) u = sets-append w u
sets-append (taking ∷ w) u = sets-append w u

pub takes-append : (w u : List Step) → takes_of (w ++ u) ≡ takes_of w + takes_of u
takes-append [] u = omega arith
takes-append (pushing v ∷ w) u = takes-append w u
takes-append (firing a ∷ w) u = takes-append w u
takes-append (taking ∷ w) u = omega (arith, takes-append w u)

pub times-append : (i : ℕ) (w u : List Step) → times i (w ++ u) ≡ times i w + times i u
times-append i [] u = omega arith
times-append i (pushing v ∷ w) u = times-append i w u
times-append i (firing a ∷ w) u = go (ℕ_discrete i a) (times-append i w u)
  where
    go : (d : Dec (i ≡ a)) → times i (w ++ u) ≡ times i w + times i u
        → ite d (suc (times i (w ++ u))) (times i (w ++ u)) ≡ ite d (suc (times i w)) (times i w) + times i u
    go (yes e) h = omega (arith, h)
    go (no n) h = h
times-append i (taking ∷ w) u = times-append i w u

-- a take at the end is no firing
pub times-end : (i : ℕ) (w : List Step) → times i (w ++ (taking ∷ [])) ≡ times i w
times-end i [] = refl
times-end i (pushing v ∷ w) = times-end i w
times-end i (firing a ∷ w) = ap (λ (z : ℕ). ite (ℕ_discrete i a) (suc z) z) (times-end i w)
times-end i (taking ∷ w) = times-end i w

pub firings-append : (w u : List Step) → Only-firings w → Only-firings u → Only-firings (w ++ u)
firings-append [] u a b = b
firings-append (pushing v ∷ w) u a b = absurd a
firings-append (firing i ∷ w) u a b = firings-append w u a b
firings-append (taking ∷ w) u a b = absurd a

pub firings-push : (w : List Step) → Only-firings w → sets_of w ≡ []
firings-push [] f = refl
firings-push (pushing v ∷ w) f = absurd f
firings-push (firing a ∷ w) f = firings-push w f
firings-push (taking ∷ w) f = absurd f

pub firings-take : (w : List Step) → Only-firings w → takes_of w ≡ 0
firings-take [] f = refl
firings-take (pushing v ∷ w) f = absurd f
firings-take (firing a ∷ w) f = firings-take w f
firings-take (taking ∷ w) f = absurd f

module _ (x : Exp) (capacity : ℕ) where
  pub after-append : (w u : List Step) (q : Links) → after_steps x (w ++ u) q ≡ after_steps x u (after_steps x w q)
  after-append [] u q = refl
  after-append (s ∷ w) u q = after-append w u (act (demand_of x s) q)

  pub steps-append : (a b : List Call) (q : Links)
      → steps_from x capacity (a ++ b) q ≡ steps_from x capacity a q ++ steps_from x capacity b (after_steps x (steps_from x capacity a q) q)
  unfolding steps_from
  steps-append [] b q = refl
  steps-append (c ∷ a) b q =
      let w = steps_of x capacity c q in
      let r = after_steps x w q in
      let u = steps_from x capacity a r in
      ap (λ (z : List Step). w ++ z) (steps-append a b r)
      ∙ sym (append_assoc w u (steps_from x capacity b (after_steps x u r)))
      ∙ ap (λ (z : Links). (w ++ u) ++ steps_from x capacity b z) (sym (after-append w u q))

  -- The links after calls and calls.
  pub calls-lead : (a b : List Call) (q : Links)
      → after_steps x (steps_from x capacity (a ++ b) q) q
      ≡ after_steps x (steps_from x capacity b (after_steps x (steps_from x capacity a q) q)) (after_steps x (steps_from x capacity a q) q)
  calls-lead a b q =
      ap (λ (z : List Step). after_steps x z q) (steps-append a b q)
      ∙ after-append (steps_from x capacity a q) (steps_from x capacity b (after_steps x (steps_from x capacity a q) q)) q

  -- ---- a number past the last operator never fires
  pub past-never : (w : List Step) (q : Links) → Made-in-turn x capacity w q → (e : ℕ) → length (made_of x).operators ≤ e → times e w ≡ 0
  past-never [] q a e l = refl
  past-never (pushing v ∷ w) q a e l = past-never w (act (demand_of x (pushing v)) q) a.1 e l
  past-never (firing b ∷ w) q a e l =
      if_neg (ℕ_discrete e b)
      (λ z. subst (λ d. Able (places capacity) d q) (net-past (made_of x).operators e l) (subst (λ (c : ℕ). Able (places capacity) (operator_at x c) q) (sym z) a.0)) _ _
      ∙ past-never w (act (operator_at x b) q) a.1 e l
  past-never (taking ∷ w) q a e l = past-never w (act (demand_of x taking) q) a.1 e l

  -- ---- events of steps, push and take numbered p and k
  module _ (p k : ℕ) where
    pub events-fired : (w : List Step) (e : ℕ) → e ≢ p → e ≢ k → count e (events-of p k (map (triggering x capacity) w)) ≡ times e w
    events-fired [] e np nk = refl
    events-fired (pushing v ∷ w) e np nk = if_neg (ℕ_discrete e p) np _ _ ∙ events-fired w e np nk
    events-fired (firing a ∷ w) e np nk = ap (λ (z : ℕ). ite (ℕ_discrete e a) (suc z) z) (events-fired w e np nk)
    events-fired (taking ∷ w) e np nk = if_neg (ℕ_discrete e k) nk _ _ ∙ events-fired w e np nk

  pub triggering-end : (w : List Step) → map (triggering x capacity) (w ++ (taking ∷ [])) ≡ map (triggering x capacity) w ++ (taking ∷ [])
  triggering-end [] = refl
  triggering-end (s ∷ w) = ap (λ (z : List Step). triggering x capacity s ∷ z) (triggering-end w)

  -- ---- runs
  run-fires : (lent : ℕ) (q : Links) → Only-firings (run_steps x capacity lent q)
  unfolding run_steps
  run-fires zero q = tt
  run-fires (suc lent) q = go (least_able x capacity q) (λ a. run-fires lent (act (operator_at x a) q))
    where
      go : (o : Option ℕ) → ((a : ℕ) → Only-firings (run_steps x capacity lent (act (operator_at x a) q)))
          → Only-firings (onward o (λ a. run_steps x capacity lent (act (operator_at x a) q)))
      go none ih = tt
      go (some a) ih = ih a

  pub runs-fire : (ns : List ℕ) (q : Links) → Only-firings (steps_from x capacity (map runs ns) q)
  unfolding steps_from steps_of
  runs-fire [] q = tt
  runs-fire (n ∷ ns) q =
      firings-append (run_steps x capacity n q) (steps_from x capacity (map runs ns) (after_steps x (run_steps x capacity n q) q)) (run-fires n q)
      (runs-fire ns (after_steps x (run_steps x capacity n q) q))

  pub accepted-append : (a b : List Call) (q : Links) → AllAccepted x capacity (a ++ b) q → AllAccepted x capacity b (after_steps x (steps_from x capacity a q) q)
  unfolding steps_from
  accepted-append [] b q g = g
  accepted-append (c ∷ a) b q g =
      subst (AllAccepted x capacity b)
      (sym (after-append (steps_of x capacity c q) (steps_from x capacity a (after_steps x (steps_of x capacity c q) q)) q))
      (accepted-append a b (after_steps x (steps_of x capacity c q) q) g.1)

  -- ---- what working one set after another pushes and takes
  -- these sets are pushed, in order, and all of them taken, with a take at the end
  pub record Worked-off (sets : List (List Value)) (w : List Step) : Type 0 where
    pub before : List Step
    pub ends : w ≡ before ++ (taking ∷ [])
    pub sets-are : sets_of before ≡ sets
    pub takes-are : suc (takes_of before) ≡ length sets

  one_set : (v : List Value) (w : List Step) → Only-firings w → Worked-off (v ∷ []) (pushing v ∷ (w ++ (taking ∷ [])))
  one_set v w f =
      record {
        before = pushing v ∷ w;
        ends = refl;
        sets-are = ap (λ (z : List (List Value)). v ∷ z) (firings-push w f);
        takes-are = ap suc (firings-take w f);
      }

  more-sets : (v : List Value) (w u : List Step) (sets : List (List Value)) → Only-firings w → Worked-off sets u
      → Worked-off (v ∷ sets) (pushing v ∷ (w ++ (taking ∷ u)))
  more-sets v w u sets f W =
      record {
        before = pushing v ∷ (w ++ (taking ∷ W.before));
        ends = ap (λ (z : List Step). pushing v ∷ (w ++ (taking ∷ z))) W.ends ∙ ap (λ (z : List Step). pushing v ∷ z) (sym (append_assoc w (taking ∷ W.before) (taking ∷ [])));
        sets-are = ap (λ (z : List (List Value)). v ∷ z)
            (sets-append w (taking ∷ W.before) ∙ ap (λ (z : List (List Value)). z ++ sets_of W.before) (firings-push w f) ∙ W.sets-are);
        takes-are = omega (arith, takes-append w (taking ∷ W.before), firings-take w f, W.takes-are);
      }

  -- the steps of one set's work and of what follows
  record Turned (v : List Value) (rest : List Call) (w : List Step) : Type 0 where
    fired : List Step
    firings-only : Only-firings fired
    onto : Links
    steps-are : w ≡ pushing v ∷ (fired ++ (taking ∷ steps_from x capacity rest onto))
    accepted : AllAccepted x capacity rest onto

  turned : (v : List Value) (ns : List ℕ) (rest : List Call) (q : Links) → AllAccepted x capacity (pushes v ∷ (map runs ns ++ (takes ∷ rest))) q
      → Turned v rest (steps_from x capacity (pushes v ∷ (map runs ns ++ (takes ∷ rest))) q)
  unfolding steps_from
  turned v ns rest q g =
      let q₁ = after_steps x (steps_of x capacity (pushes v) q) q in
      let w = steps_from x capacity (map runs ns) q₁ in
      let q₂ = after_steps x w q₁ in
      let h = accepted-append (map runs ns) (takes ∷ rest) q₁ g.1 in
      let q₃ = after_steps x (steps_of x capacity takes q₂) q₂ in
      record {
        fired = w;
        firings-only = runs-fire ns q₁;
        onto = q₃;
        steps-are =
            ap₂ (λ (a b : List Step). a ++ b) g.0
            (steps-append (map runs ns) (takes ∷ rest) q₁ ∙ ap (λ (z : List Step). w ++ (z ++ steps_from x capacity rest q₃)) h.0);
        accepted = h.1;
      }

  pub in-turn-works : (v : List Value) (sets : List (List Value)) (lent : List (List ℕ)) (q : Links) → AllAccepted x capacity (in_turn (v ∷ sets) lent) q
      → Worked-off (v ∷ sets) (steps_from x capacity (in_turn (v ∷ sets) lent) q)
  unfolding steps_from
  in-turn-works v [] [] q g =
      let T = turned v [] [] q g in subst (Worked-off (v ∷ [])) (sym T.steps-are) (one_set v T.fired T.firings-only)
  in-turn-works v [] (ns ∷ lent) q g =
      let T = turned v ns [] q g in subst (Worked-off (v ∷ [])) (sym T.steps-are) (one_set v T.fired T.firings-only)
  in-turn-works v (u ∷ sets) [] q g =
      let T = turned v [] (in_turn (u ∷ sets) []) q g in
      subst (Worked-off (v ∷ u ∷ sets)) (sym T.steps-are)
      (more-sets v T.fired (steps_from x capacity (in_turn (u ∷ sets) []) T.onto) (u ∷ sets) T.firings-only (in-turn-works u sets [] T.onto T.accepted))
  in-turn-works v (u ∷ sets) (ns ∷ lent) q g =
      let T = turned v ns (in_turn (u ∷ sets) lent) q g in
      subst (Worked-off (v ∷ u ∷ sets)) (sym T.steps-are)
      (more-sets v T.fired (steps_from x capacity (in_turn (u ∷ sets) lent) T.onto) (u ∷ sets) T.firings-only (in-turn-works u sets lent T.onto T.accepted))

  -- ---- a round of calls is a round of the graph
  abbrev pub graph : ℕ → Demand
  graph = net_of (made_of x).operators

  abbrev pub graphRound : ℕ → ℕ → Links → List ℕ
  graphRound = roundFrom (enabled graph (places capacity)) (next graph (places capacity)) (output graph (places capacity)) (λ e q. dec_able (places capacity) (graph e) q)

  abbrev pub graphRounds : ℕ → Links → List ℕ
  graphRounds = rounds (enabled graph (places capacity)) (next graph (places capacity)) (output graph (places capacity)) (λ e q. dec_able (places capacity) (graph e) q) (length (made_of x).operators)

  abbrev pub leads : List ℕ → Links → Links
  leads = reached (enabled graph (places capacity)) (next graph (places capacity)) (output graph (places capacity))

  round-leads : (k i : ℕ) (q : Links) → after_steps x (steps_from x capacity (fires_from k i) q) q ≡ leads (graphRound k i q) q
  unfolding steps_from steps_of roundFrom
  round-leads zero i q = refl
  round-leads (suc k) i q = go (dec_able (places capacity) (operator_at x i) q) (round-leads k (suc i) (act (operator_at x i) q)) (round-leads k (suc i) q)
    where
      go : (d : Dec (Able (places capacity) (operator_at x i) q))
          → after_steps x (steps_from x capacity (fires_from k (suc i)) (act (operator_at x i) q)) (act (operator_at x i) q) ≡ leads (graphRound k (suc i) (act (operator_at x i) q)) (act (operator_at x i) q)
          → after_steps x (steps_from x capacity (fires_from k (suc i)) q) q ≡ leads (graphRound k (suc i) q) q
          → after_steps x (accept d (firing i) ++ steps_from x capacity (fires_from k (suc i)) (after_steps x (accept d (firing i)) q)) q
          ≡ leads (turn (enabled graph (places capacity)) (next graph (places capacity)) (output graph (places capacity)) (λ e q. dec_able (places capacity) (graph e) q) d i
          (graphRound k (suc i) (act (graph i) q)) (graphRound k (suc i) q)) q
      go (yes a) f g = f
      go (no a) f g = g

  pub rounds-lead : (b : ℕ) (q : Links) → after_steps x (steps_from x capacity (rounds_of x b) q) q ≡ leads (graphRounds b q) q
  unfolding steps_from rounds
  rounds-lead zero q = refl
  rounds-lead (suc b) q =
      let n = length (made_of x).operators in
      let r = leads (graphRound n 0 q) q in
      calls-lead (fires_from n 0) (rounds_of x b) q
      ∙ ap (λ (z : Links). after_steps x (steps_from x capacity (rounds_of x b) z) z) (round-leads n 0 q)
      ∙ rounds-lead b r
      ∙ sym (reached-append (enabled graph (places capacity)) (next graph (places capacity)) (output graph (places capacity)) (graphRound n 0 q) (graphRounds b r) q)
