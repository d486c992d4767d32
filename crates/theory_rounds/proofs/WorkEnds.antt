-- Laws of specs/WorkEnds.antt, and what only they need.
use Rattle.std.specs.Prelude.{ℕ, zero, suc, ◌+◌, ◌-◌, ◌≤◌, ◌<◌, ◌≡◌, ◌≢◌, ◌⊎◌, length, get_or, take}
use Rattle.std.proofs.Math.Path.{refl, ap}
use Rattle.std.proofs.Common.{sym, ◌∙◌, subst, inl, inr, eq-eqb, arith}
use mathlib.Core.List.{List, [], ◌∷◌, ◌++◌, map}
use Rattle.theory_schedule.specs.Counts.{count}
use Rattle.value.specs.declared.Value.{Value}
use Rattle.names.specs.Names.{bit, size}
use Rattle.formula.specs.Tree.{Exp, formula_of}
use Rattle.formula.specs.Free.{free_e, inputs_of}
use Rattle.formula.specs.Count.{count_e}
use Rattle.formula.specs.Admitted.{AdmittedE}
use Rattle.formula.specs.Acceptance.{Admissible}
use Rattle.network.specs.Values.{true-value}
use Rattle.network.specs.Net.{val, Demand, fire, Links, Able, act}
use Rattle.network.specs.Commute.{Free}
use Rattle.network.proofs.Wired.{wired}
use Rattle.network.specs.Ends.{take-demand}
use Rattle.network.proofs.Ends.{capacities-one}
use Rattle.theory_pieces.specs.Load.{Load, put}
use Rattle.theory_pieces.specs.Sets.{onto}
use Rattle.theory_pieces.specs.Tape.{Step, pushing, firing, taking}
use Rattle.graph.specs.Translation.{graph_e, port_of, made_of}
use Rattle.theory_yields.proofs.FitGraphs.{fit-E}
use Rattle.theory_wiring.specs.Machine.{net_of, TakesAt, PutsAt}
use Rattle.theory_wiring.proofs.MadeGraph.{made-envs, room, made-wiring}
use Rattle.theory_wiring.proofs.AtRest.{none-able}
use Rattle.theory_verdicts.proofs.Admitting.{accepted-admitted, accepted-operators}
use Rattle.theory_verdicts.specs.Results.{result_of, EndsWith, EachEnds}
use Rattle.theory_verdicts.specs.Owed.{push_number, take_number, source_link, credit_link}
use Rattle.theory_verdicts.proofs.Owed.{piece_of, meansOf, evaluation, results-are, inputs_are, input-count, numbers}
use Rattle.theory_verdicts.proofs.Owed.{owed as maker-owed}
use Rattle.theory_verdicts.specs.Running.{places, operator_at, with_trigger, push_of, take_of, start_of, dec_able, Call, pushes, fires, runs, takes, after_steps, steps_of, steps_from, history, standing, pushed, taken}
use Rattle.theory_verdicts.proofs.RunningLaws.{calls-whole, Each-whole, sets-whole, first-whole, sets-sized, trigger-off}
use Rattle.theory_rounds.specs.InTurn.{rounds_of, in_turn, AllAccepted, times, sum_below, owed}
use Rattle.theory_rounds.proofs.Shares.{sum_same}
use Rattle.theory_rounds.proofs.TurnLaws.{graph, leads, after-append, steps-append, times-append}
use Rattle.theory_rounds.proofs.RoundsReady.{can-accepted, take-after-rounds}
use Rattle.theory_rounds.proofs.EarlyEnd.{refused-is, ready-when-still}
use Rattle.theory_rounds.proofs.OneSet.{Worked-set, works}
use Rattle.theory_rounds.specs.RunsFire.{total}
use Rattle.theory_rounds.proofs.RunsFire.{Quiet, runs_lead, runs-times}
use Rattle.theory_rounds.specs.WorkEnds.{Enough, EachLentFits, LentFits, ones}

-- Before a take each operator would get 34.
abbrev pub Still-before : Exp → ℕ → Call → Links → Type 0
Still-before x capacity (pushes v) q = Unit {0}
Still-before x capacity (fires a) q = Unit {0}
Still-before x capacity (runs lent) q = Unit {0}
Still-before x capacity takes q = (a : ℕ) → steps_of x capacity (fires a) q ≡ []

-- Whenever a set is taken nothing can fire.
abbrev pub TakenAtRest : Exp → ℕ → List Call → Links → Type 0
TakenAtRest x capacity [] q = Unit {0}
TakenAtRest x capacity (c ∷ calls) q = Still-before x capacity c q × TakenAtRest x capacity calls (after_steps x (steps_of x capacity c q) q)

-- ---- one set's calls and what follows
module _ (x : Exp) (capacity : ℕ) where
  abbrev Smooth : List Call → Links → Type 0
  Smooth calls q = AllAccepted x capacity calls q × TakenAtRest x capacity calls q

  runs_then : (ns : List ℕ) (later : List Call) (q : Links) → Smooth later (after_steps x (steps_from x capacity (map runs ns) q) q) → Smooth (map runs ns ++ later) q
  unfolding steps_from
  runs_then [] later q s = s
  runs_then (n ∷ ns) later q s =
      let w = steps_of x capacity (runs n) q in
      let r = runs_then ns later (after_steps x w q) (subst (Smooth later) (after-append x capacity w (steps_from x capacity (map runs ns) (after_steps x w q)) q) s) in
      ((tt, r.0), (tt, r.1))

  set_then : (v : List Value) (ns : List ℕ) (later : List Call) (q : Links) → steps_of x capacity (pushes v) q ≡ pushing v ∷ []
      → (r : Links) → after_steps x (steps_from x capacity (map runs ns) (act (push_of x v) q)) (act (push_of x v) q) ≡ r
      → steps_of x capacity takes r ≡ taking ∷ [] → ((a : ℕ) → steps_of x capacity (fires a) r ≡ []) → Smooth later (act (take_of x) r)
      → Smooth (pushes v ∷ (map runs ns ++ (takes ∷ later))) q
  set_then v ns later q p r e t still s =
      let z : Smooth later (after_steps x (steps_of x capacity takes r) r) = subst (λ (w : List Step). Smooth later (after_steps x w r)) (sym t) s in
      let y : Smooth (takes ∷ later) r = ((t, z.0), (still, z.1)) in
      let u : Smooth (map runs ns ++ (takes ∷ later)) (after_steps x (steps_of x capacity (pushes v) q) q) =
      subst (λ (w : List Step). Smooth (map runs ns ++ (takes ∷ later)) (after_steps x w q)) (sym p)
      (runs_then ns (takes ∷ later) (act (push_of x v) q) (subst (Smooth (takes ∷ later)) (sym e) y)) in
      ((p, u.0), (tt, u.1))

  -- the steps of one set's calls and of what follows
  set-steps : (v : List Value) (ns : List ℕ) (later : List Call) (q : Links) → steps_of x capacity (pushes v) q ≡ pushing v ∷ []
      → (r : Links) → after_steps x (steps_from x capacity (map runs ns) (act (push_of x v) q)) (act (push_of x v) q) ≡ r → steps_of x capacity takes r ≡ taking ∷ []
      → steps_from x capacity (pushes v ∷ (map runs ns ++ (takes ∷ later))) q
      ≡ pushing v ∷ (steps_from x capacity (map runs ns) (act (push_of x v) q) ++ (taking ∷ steps_from x capacity later (act (take_of x) r)))
  unfolding steps_from
  set-steps v ns later q p r e t =
      let all = map runs ns ++ (takes ∷ later) in
      let q₁ = act (push_of x v) q in
      let w = steps_from x capacity (map runs ns) q₁ in
      ap (λ (u : List Step). u ++ steps_from x capacity all (after_steps x u q)) p
      ∙ ap (λ (u : List Step). pushing v ∷ u)
      (steps-append x capacity (map runs ns) (takes ∷ later) q₁ ∙ ap (λ (z : Links). w ++ steps_from x capacity (takes ∷ later) z) e
      ∙ ap (λ (u : List Step). w ++ (u ++ steps_from x capacity later (after_steps x u r))) t)

-- ---- the machine of an admitted formula
module _ (x : Exp) (h : AdmittedE x) (few : (count_e x).operators ≤ 1024) (capacity : ℕ) (space : 1 ≤ capacity) where
  roomy : (l : ℕ) → 1 ≤ places capacity l
  roomy = capacities-one credit_link capacity space

  -- Nothing can fire on an idle load.
  pub idle-still : (σ : Load) → (piece_of x h).Idle σ → (i : ℕ) → Able (places capacity) (net_of (made_of x).operators i) (put σ (λ l. [])) → ⊥
  unfolding made_of
  idle-still σ I i o = none-able (graph_e x) (size (free_e x)) (port_of x) (fit-E x h) (made-envs x h) (room x h few) (put σ (λ l. [])) I.calm (places capacity) i o

  free : (a b : ℕ) → a ≢ b → Free (graph x capacity a) (graph x capacity b)
  free =
      let E = (made-wiring x h few push_number take_number source_link credit_link (numbers x h few)).ends in
      wired (net_of (made_of x).operators) (TakesAt (made_of x).operators) (PutsAt (made_of x).operators) E.graph-uses E.one-taker E.one-putter

  made-inputs : (made_of x).inputs ≡ length (inputs_of x)
  unfolding made_of
  made-inputs = refl

  ports : length (piece_of x h).ins ≡ (made_of x).inputs + bit (made_of x).triggered
  unfolding made_of
  ports = input-count x h

  -- a set with the trigger's value behind it is evaluated as the set
  triggered-result : (v : List Value) → length v ≡ (made_of x).inputs → (rounds : ℕ) → evaluation x h rounds (with_trigger (made_of x).triggered v) ≡ result_of x v rounds
  triggered-result v e rounds =
      ap (λ (m : ℕ). result_of x (take m (with_trigger (made_of x).triggered v)) rounds) (sym (e ∙ made-inputs))
      ∙ ap (λ (u : List Value). result_of x u rounds) (trigger-off x capacity (made_of x).triggered v)

  abbrev Idle : Load → Type 0
  Idle σ = (piece_of x h).Idle σ

  abbrev Set-worked : List Value → Load → Type 0
  Set-worked v σ =
      Worked-set (net_of (made_of x).operators) push_number take_number source_link credit_link (piece_of x h) (meansOf x h) (evaluation x h) (maker-owed x h few) (places capacity) roomy idle-still
      (push_of x v) (take_of x) σ

  set-worked : (v r : List Value) (σ : Load) → Idle σ → length v ≡ (made_of x).inputs → EndsWith x v r → Set-worked v σ
  set-worked v r σ i e ends =
      subst (λ (d : Demand). Worked (push_of x v) d) (ap (take-demand credit_link) (results-are x h))
      (subst (λ (d : Demand). Worked d (take-demand credit_link (piece_of x h).outs)) (ap push_onto (inputs_are x h))
      (works (net_of (made_of x).operators) push_number take_number source_link credit_link (piece_of x h) (meansOf x h) (evaluation x h) (maker-owed x h few) (places capacity) roomy idle-still
      (with_trigger (made_of x).triggered v) r ends.0 σ i (sets-sized x capacity (piece_of x h).ins ports (v ∷ []) (e, tt)).0 (triggered-result v e ends.0 ∙ ends.1)))
    where
      Worked : Demand → Demand → Type 0
      Worked d t =
          Worked-set (net_of (made_of x).operators) push_number take_number source_link credit_link (piece_of x h) (meansOf x h) (evaluation x h) (maker-owed x h few) (places capacity) roomy idle-still d t σ

      push_onto : List ℕ → Demand
      push_onto is = fire ((credit_link, val true-value) ∷ onto is (with_trigger (made_of x).triggered v)) []

  push-granted : (v : List Value) (q : Links) → length v ≡ (made_of x).inputs → Able (places capacity) (push_of x v) q → steps_of x capacity (pushes v) q ≡ pushing v ∷ []
  unfolding steps_of
  push-granted v q e o = rw (eq-eqb (length v) (made_of x).inputs e) (can-accepted (pushing v) (dec_able (places capacity) (push_of x v) q) o)

  take-granted : (q : Links) → Able (places capacity) (take_of x) q → steps_of x capacity takes q ≡ taking ∷ []
  unfolding steps_of
  take-granted q o = can-accepted taking (dec_able (places capacity) (take_of x) q) o

  quiet-refused : (q : Links) → Quiet x capacity q → (a : ℕ) → steps_of x capacity (fires a) q ≡ []
  unfolding steps_of
  quiet-refused q n a = refused-is (firing a) (dec_able (places capacity) (operator_at x a) q) (n a)

  -- What is found out of sets that end: a number for each that is more than it fires; lent as many firings, its runs end with nothing able to fire.
  pub record Needs (sets : List (List Value)) (q : Links) : Type 0 where
    pub needs : List ℕ
    pub as_many : length needs ≡ length sets
    pub suffice : (lent : List (List ℕ)) → Enough needs lent → AllAccepted x capacity (in_turn sets lent) q × TakenAtRest x capacity (in_turn sets lent) q
    -- how often each operator fires, however that is lent
    pub shares : ℕ → ℕ
    pub fired : (lent : List (List ℕ)) → Enough needs lent → (i : ℕ) → times i (steps_from x capacity (in_turn sets lent) q) ≡ shares i

  one_more : (v : List Value) (sets : List (List Value)) (σ : Load) → length v ≡ (made_of x).inputs → (W : Set-worked v σ) → Needs sets (put W.idle-load (λ l. [])) → Needs (v ∷ sets) (put σ (λ l. []))
  one_more v sets σ e W N =
      record {
        needs = suc (length W.work) ∷ N.needs;
        as_many = ap suc N.as_many;
        suffice = suffices;
        shares = λ i. count i W.work + N.shares i;
        fired = fires-as;
      }
    where
      q : Links
      q = act (push_of x v) (put σ (λ l. []))

      r : Links
      r = leads x capacity W.work q

      push_ok : steps_of x capacity (pushes v) (put σ (λ l. [])) ≡ pushing v ∷ []
      push_ok = push-granted v (put σ (λ l. [])) e W.can-push

      run-to : (ns : List ℕ) → suc (length W.work) ≤ total ns → after_steps x (steps_from x capacity (map runs ns) q) q ≡ leads x capacity W.work q
      run-to ns l = runs_lead x capacity free W.work q W.possible W.quiet ns (omega (arith, l))

      suffices : (lent : List (List ℕ)) → Enough (suc (length W.work) ∷ N.needs) lent
          → AllAccepted x capacity (in_turn (v ∷ sets) lent) (put σ (λ l. [])) × TakenAtRest x capacity (in_turn (v ∷ sets) lent) (put σ (λ l. []))
      suffices [] g = absurd g
      suffices (ns ∷ lent) g =
          set_then x capacity v ns (in_turn sets lent) (put σ (λ l. [])) push_ok r (run-to ns g.0) (take-granted r W.can-take) (quiet-refused r W.quiet)
          (subst (λ (z : Links). AllAccepted x capacity (in_turn sets lent) z × TakenAtRest x capacity (in_turn sets lent) z) (sym W.leads) (N.suffice lent g.1))

      fires-as : (lent : List (List ℕ)) → Enough (suc (length W.work) ∷ N.needs) lent → (i : ℕ)
          → times i (steps_from x capacity (in_turn (v ∷ sets) lent) (put σ (λ l. []))) ≡ count i W.work + N.shares i
      fires-as [] g i = absurd g
      fires-as (ns ∷ lent) g i =
          let w = steps_from x capacity (map runs ns) q in
          let u = steps_from x capacity (in_turn sets lent) (act (take_of x) r) in
          let a : times i w ≡ count i W.work = runs-times x capacity free W.work q W.possible W.quiet ns (omega (arith, g.0)) i in
          let b : times i u ≡ N.shares i = ap (λ (z : Links). times i (steps_from x capacity (in_turn sets lent) z)) W.leads ∙ N.fired lent g.1 i in
          ap (times i) (set-steps x capacity v ns (in_turn sets lent) (put σ (λ l. [])) push_ok r (run-to ns g.0) (take-granted r W.can-take))
          ∙ omega (arith, times-append i w (taking ∷ u), a, b)

  sets_end : (sets rss : List (List Value)) (σ : Load) → Idle σ → Each-whole x capacity sets → EachEnds x sets rss → Needs sets (put σ (λ l. []))
  unfolding steps_from
  sets_end [] [] σ i w e = record { needs = []; as_many = refl; suffice = λ lent g. (tt, tt); shares = λ i. 0; fired = λ lent g i. refl }
  sets_end [] (r ∷ rss) σ i w e = absurd e
  sets_end (v ∷ sets) [] σ i w e = absurd e
  sets_end (v ∷ sets) (r ∷ rss) σ i w e =
      let W = set-worked v r σ i w.0 e.0 in
      one_more v sets σ w.0 W (sets_end sets rss W.idle-load W.is-idle w.1 e.1)

  pub from_start : (sets rss : List (List Value)) → Each-whole x capacity sets → EachEnds x sets rss → Needs sets (start_of x)
  unfolding maker-owed
  from_start sets rss w e = sets_end sets rss (maker-owed x h few).fresh (maker-owed x h few).fresh-idle w e

-- ---- lists of calls
abbrev Some-end : Exp → List Value → Type 0
Some-end x v = (r : List Value) × EndsWith x v r

gathered : (x : Exp) (k : ℕ) (vss : List (List Value)) → k ≤ length vss → ((j : ℕ) → j < k → Some-end x (get_or vss j [])) → (rss : List (List Value)) × EachEnds x (take k vss) rss
gathered x zero vss l f = ([], tt)
gathered x (suc k) [] l f = absurd (omega arith)
gathered x (suc k) (v ∷ vss) l f =
    let first = f 0 (omega arith) in
    let others = gathered x k vss (omega arith) (λ j i. f (suc j) (omega arith)) in
    (first.0 ∷ others.0, (first.1, others.1))

ones-fit : (n : ℕ) → EachLentFits (ones n)
ones-fit zero = tt
ones-fit (suc n) = (omega arith, ones-fit n)

ones-total : (n : ℕ) → total (ones n) ≡ n
ones-total zero = refl
ones-total (suc n) = omega (arith, ones-total n)

small-lent : (needs : List ℕ) → (lent : List (List ℕ)) × LentFits lent × Enough needs lent
small-lent [] = ([], tt, tt)
small-lent (n ∷ needs) =
    let r = small-lent needs in
    (ones n ∷ r.0, (ones-fit n, r.1), (omega (arith, ones-total n), r.2))

module _ (s : List ℕ) (accepted : Admissible s) (capacity : ℕ) (space : 1 ≤ capacity) (calls : List Call) where
  abbrev x : Exp
  x = formula_of s

  -- "the oldest untaken set, and .. every set before it"
  abbrev pub upToOldest : List (List Value)
  upToOldest = take (suc (length (taken (formula_of s) capacity calls))) (pushed (formula_of s) capacity calls)

  -- "suppose the evaluation of the oldest untaken set, and of every set before it, ends"
  module _ (left : length (taken (formula_of s) capacity calls) < length (pushed (formula_of s) capacity calls))
      (ends : (j : ℕ) → j ≤ length (taken (formula_of s) capacity calls) → (r : List Value) × EndsWith (formula_of s) (get_or (pushed (formula_of s) capacity calls) j []) r) where
    -- Then working these sets one after another is accepted, however the firings that they need are lent.
    pub work-ends : Needs (formula_of s) (accepted-admitted s accepted) (accepted-operators s accepted) capacity space upToOldest (start_of (formula_of s))
    work-ends =
        let k = length (taken x capacity calls) in
        let g = gathered x (suc k) (pushed x capacity calls) (omega arith) (λ j l. ends j (omega arith)) in
        from_start x (accepted-admitted s accepted) (accepted-operators s accepted) capacity space upToOldest g.0
        (first-whole x capacity (suc k) (pushed x capacity calls) (sets-whole x capacity (history x capacity calls) (calls-whole x capacity calls (start_of x)))) g.1

    -- What is owed is one number, however they are lent: that of the firings the sets need, operator by operator, less those made.
    pub owed-once : (lent : List (List ℕ)) → Enough work-ends.needs lent
        → owed (formula_of s) (history (formula_of s) capacity (in_turn upToOldest lent)) (history (formula_of s) capacity calls)
        ≡ sum_below (length (made_of (formula_of s)).operators) (λ i. work-ends.shares i - times i (history (formula_of s) capacity calls))
    owed-once lent g =
        sum_same (length (made_of x).operators) (λ i. times i (history x capacity (in_turn upToOldest lent)) - times i (history x capacity calls))
        (λ i. work-ends.shares i - times i (history x capacity calls)) (λ i l. ap (λ (t : ℕ). t - times i (history x capacity calls)) (work-ends.fired lent g i))

    -- It can be lent in numbers of 32 bits.
    pub work-lent : (lent : List (List ℕ)) × LentFits lent × AllAccepted (formula_of s) capacity (in_turn upToOldest lent) (start_of (formula_of s))
    work-lent = let r = small-lent work-ends.needs in (r.0, r.1, (work-ends.suffice r.0 r.2).0)

    -- "After at most that many rounds its whole result is ready."
    pub ready-after-owed : (lent : List (List ℕ)) → Enough work-ends.needs lent → (b : ℕ)
        → owed (formula_of s) (history (formula_of s) capacity (in_turn upToOldest lent)) (history (formula_of s) capacity calls) ≤ b
        → steps_of (formula_of s) capacity takes (standing (formula_of s) capacity (calls ++ rounds_of (formula_of s) b)) ≡ taking ∷ []
    ready-after-owed lent g b l = take-after-rounds s accepted capacity space calls left lent (work-ends.suffice lent g).0 b l

    -- The same of a run by rounds that is lent b: it makes them all, or ends where nothing can fire.
    pub ready-by-rounds : capacity ≤ 16 → (lent : List (List ℕ)) → Enough work-ends.needs lent → (b : ℕ)
        → owed (formula_of s) (history (formula_of s) capacity (in_turn upToOldest lent)) (history (formula_of s) capacity calls) ≤ b → (rounds : ℕ)
        → (rounds ≡ b) ⊎ ((a : ℕ) → steps_of (formula_of s) capacity (fires a) (standing (formula_of s) capacity (calls ++ rounds_of (formula_of s) rounds)) ≡ [])
        → steps_of (formula_of s) capacity takes (standing (formula_of s) capacity (calls ++ rounds_of (formula_of s) rounds)) ≡ taking ∷ []
    ready-by-rounds most lent g b l rounds (inl e) = ready-after-owed lent g rounds (omega (arith, e, l))
    ready-by-rounds most lent g b l rounds (inr still) = ready-when-still s accepted capacity space most calls left rounds still
