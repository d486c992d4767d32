-- Laws of specs/WorkInTurn.antt, and what only they need.
use Rattle.std.specs.Prelude.{ℕ, ◌≤◌, ◌≡◌, ◌⊎◌, Bool, true, false, length, take as first_of}
use Rattle.std.proofs.Math.Path.{refl, sym, ap, ap₂, subst}
use Rattle.std.proofs.Common.{◌∙◌, inl, inr, arith, eq-eqb}
use mathlib.Core.List.{List, [], ◌∷◌, ◌++◌, map}
use Rattle.std.proofs.Math.Option.{some}
use Rattle.std.proofs.Math.ListN.{drop}
use Rattle.value.specs.declared.Value.{Value}
use Rattle.value.specs.Operators.{pick}
use Rattle.network.specs.Net.{Links, act}
use Rattle.theory_pieces.specs.Tape.{Step, pushing, taking}
use Rattle.formula.specs.Tree.{Exp}
use Rattle.formula.specs.declared.Refusal.TheVariants.{Unfinished}
use Rattle.formula.specs.Refusals.{number_of}
use Rattle.graph.specs.Translation.{made_of}
use Rattle.value_sets.specs.Sets.{set_values}
use Rattle.value_sets.proofs.Sets.{values-set}
use Rattle.machine_layout.specs.Layout.{size_of, need, operators_of}
use Rattle.machine_valid.specs.Below.{all_below}
use Rattle.machine_runs.specs.Run.{Ran, runs, still_at}
use Rattle.machine_calls.specs.Calls.{Outcome, outcome, Handed, answers, size_in, standing, result_ready, ended, pushed, ran, taken}
use Rattle.machine_calls.specs.CallLaws.{ran-ended, taken-accepted}
use Rattle.theory_verdicts.specs.Running as Abstract
use Rattle.theory_verdicts.specs.Running.{places, push_of, take_of, dec_able, pushes, takes, accept, after_steps, run_steps, steps_of, steps_from}
use Rattle.theory_rounds.specs.InTurn as Links-in-turn
use Rattle.theory_rounds.specs.RunsFire.{operators-of}
use Rattle.demand_view.specs.Stands.{Stands}
use Rattle.demand_view.proofs.FireCall.{stands-size}
use Rattle.demand_ends.proofs.Push.{push-accepted}
use Rattle.demand_begin.proofs.Lent.{stands-behind}
use Rattle.demand.specs.MemoryCalls.{Call, push, run, take, answer_of, memory_after}
use Rattle.demand.specs.Agree.{CallsAgree}
use Rattle.demand.proofs.Followed.{EachRead}
use Rattle.demand_rounds.specs.InTurn.{run_fires, unless_refused, fired_by, all_fired, in_turn, AllAccepted}
use Rattle.demand_rounds.proofs.Traced.{operators-append, push-as, take-as, run-as, lent-stands}
use Rattle.demand_rounds.specs.WorkInTurn.{Job, pushing-set, running, taking-one}

pub accepted-can : {A : Type 0} (s : Step) (d : Dec A) → accept d s ≡ s ∷ [] → A
accepted-can s (yes p) e = p
accepted-can s (no n) e = let z : ◌≡◌ {A = ℕ} 0 1 = ap length e in absurd (omega arith)

module _ (kinds : List ℕ) where
  abbrev on_bytes : ℕ → List ℕ → Job kinds → Call
  on_bytes lent out (pushing-set set v r) = push lent set
  on_bytes lent out (running n) = run lent n
  on_bytes lent out taking-one = take lent out

  abbrev on_links : Job kinds → Abstract.Call
  on_links (pushing-set set v r) = pushes v
  on_links (running n) = Abstract.runs n
  on_links taking-one = takes

  map_runs : {A : Type 0} (f : Job kinds → A) (ns : List ℕ) (js : List (Job kinds)) → map f (map running ns ++ js) ≡ map (λ n. f (running n)) ns ++ map f js
  map_runs f [] js = refl
  map_runs {A} f (n ∷ ns) js = ap (λ (z : List A). f (running n) ∷ z) (map_runs f ns js)

module _ (x : Exp) (kinds : List ℕ) (capacity : ℕ) where
  jobs_of : (sets : List (List ℕ)) (vss : List (List Value)) → EachRead x kinds capacity sets vss → List (List ℕ) → List (Job kinds)
  jobs_of [] [] r lents = []
  jobs_of [] (v ∷ vss) r lents = []
  jobs_of (s ∷ sets) [] r lents = []
  jobs_of (s ∷ sets) (v ∷ vss) r [] = pushing-set s v r.0 ∷ taking-one ∷ jobs_of sets vss r.1 []
  jobs_of (s ∷ sets) (v ∷ vss) r (ns ∷ lents) = pushing-set s v r.0 ∷ (map running ns ++ (taking-one ∷ jobs_of sets vss r.1 lents))

  bytes-are : (lent : ℕ) (out : List ℕ) (sets : List (List ℕ)) (vss : List (List Value)) (r : EachRead x kinds capacity sets vss) (lents : List (List ℕ))
      → map (on_bytes kinds lent out) (jobs_of sets vss r lents) ≡ in_turn lent out sets lents
  unfolding jobs_of
  bytes-are lent out [] [] r lents = refl
  bytes-are lent out [] (v ∷ vss) r lents = absurd r
  bytes-are lent out (s ∷ sets) [] r lents = absurd r
  bytes-are lent out (s ∷ sets) (v ∷ vss) r [] = ap (λ (z : List Call). push lent s ∷ take lent out ∷ z) (bytes-are lent out sets vss r.1 [])
  bytes-are lent out (s ∷ sets) (v ∷ vss) r (ns ∷ lents) =
      ap (λ (z : List Call). push lent s ∷ z)
      (map_runs kinds (on_bytes kinds lent out) ns (taking-one ∷ jobs_of sets vss r.1 lents)
      ∙ ap (λ (z : List Call). map (run lent) ns ++ (take lent out ∷ z)) (bytes-are lent out sets vss r.1 lents))

  links-are : (sets : List (List ℕ)) (vss : List (List Value)) (r : EachRead x kinds capacity sets vss) (lents : List (List ℕ))
      → map (on_links kinds) (jobs_of sets vss r lents) ≡ Links-in-turn.in_turn vss lents
  unfolding jobs_of
  links-are [] [] r lents = refl
  links-are [] (v ∷ vss) r lents = absurd r
  links-are (s ∷ sets) [] r lents = absurd r
  links-are (s ∷ sets) (v ∷ vss) r [] = ap (λ (z : List Abstract.Call). pushes v ∷ takes ∷ z) (links-are sets vss r.1 [])
  links-are (s ∷ sets) (v ∷ vss) r (ns ∷ lents) =
      ap (λ (z : List Abstract.Call). pushes v ∷ z)
      (map_runs kinds (on_links kinds) ns (taking-one ∷ jobs_of sets vss r.1 lents)
      ∙ ap (λ (z : List Abstract.Call). map Abstract.runs ns ++ (takes ∷ z)) (links-are sets vss r.1 lents))

module _ (x : Exp) (kinds : List ℕ) (capacity : ℕ) (low : 1 ≤ capacity) (high : capacity ≤ 16) (A : CallsAgree x kinds capacity) (lent : ℕ) (enough : need (size_of capacity) ≤ lent)
    (out : List ℕ) where
  abbrev bytes : List (Job kinds) → List Call
  bytes = map (on_bytes kinds lent out)

  abbrev links : List (Job kinds) → List Abstract.Call
  links = map (on_links kinds)

  -- ---- one call
  -- The machine stands in what the call leaves.
  after_call : (m b : List ℕ) (q : Links) → Stands (made_of x) kinds capacity b q → Stands (made_of x) kinds capacity (b ++ drop lent m) q
  after_call m b q L = stands-behind (made_of x) A.sound kinds capacity b q L (drop lent m)

  module _ (m : List ℕ) (q : Links) (H : Stands (made_of x) kinds capacity m q) where
    abbrev part : List ℕ
    part = first_of lent m

    L : Stands (made_of x) kinds capacity part q
    L = lent-stands x kinds capacity low high A m q H lent enough

    good : standing part ≡ 0
    good = A.good part q L

    size-here : size_in part ≡ size_of capacity
    size-here = stands-size (made_of x) A.sound kinds capacity low high part q L

    run-granted : (n : ℕ) → ((ran part n).answer.refusal ≡ 0) ⊎ ((ran part n).answer.refusal ≡ number_of Unfinished)
    unfolding ended
    run-granted n = subst Or (sym (ran-ended part good n)) (go (still_at r.mem (size_in part) (operators_of part)))
      where
        Or : Outcome → Type 0
        Or o = (o.answer.refusal ≡ 0) ⊎ (o.answer.refusal ≡ number_of Unfinished)

        r : Ran
        r = runs (size_in part) (operators_of part) n part 0

        go : (t : Bool) → Or (pick t (outcome (answers 0 r.count) r.mem) (outcome (answers (number_of Unfinished) r.count) r.mem))
        go true = inl refl
        go false = inr refl

    push-granted : (set : List ℕ) (v : List Value) → set_values kinds set ≡ some v → steps_of x capacity (pushes v) q ≡ pushing v ∷ [] → (pushed part set).answer.refusal ≡ 0
    unfolding steps_of
    push-granted set v r e =
        let I = values-set kinds set v r in
        let c : accept (dec_able (places capacity) (push_of x v) q) (pushing v) ≡ pushing v ∷ [] = rw (eq-eqb (length v) (made_of x).inputs (I.count ∙ L.kinds-count)) at e in
        ap (λ (o : Outcome). o.answer.refusal)
        (push-accepted (made_of x) A.sound kinds capacity low high part q L set v I good (accepted-can (pushing v) (dec_able (places capacity) (push_of x v) q) c))

    -- A take is accepted where the abstract machine's is.
    pub take-granted : 80 ≤ length out → steps_of x capacity takes q ≡ taking ∷ [] → (taken (first_of lent m) out).answer.refusal ≡ 0
    unfolding steps_of
    take-granted room e =
        let r = A.take-ready part q L (accepted-can taking (dec_able (places capacity) (take_of x) q) e) in
        ap (λ (o : Handed). o.answer.refusal)
        (taken-accepted part good out room r.0 (ap₂ (λ (z n : ℕ). all_below n (result_ready part z)) size-here L.results-are ∙ r.1))

  -- ---- calls one after another
  abbrev Same-work : List (Job kinds) → List ℕ → Links → Type 0
  Same-work js m q = Links-in-turn.AllAccepted x capacity (links js) q × (operators-of (steps_from x capacity (links js) q) ≡ all_fired (bytes js) m)

  jobs-to-links : (js : List (Job kinds)) (m : List ℕ) (q : Links) → Stands (made_of x) kinds capacity m q → AllAccepted (bytes js) m → Same-work js m q
  unfolding steps_from all_fired fired_by memory_after answer_of steps_of
  jobs-to-links [] m q H g = (tt, refl)
  jobs-to-links (pushing-set set v r ∷ js) m q H g =
      let p = push-as x kinds capacity low high A (part m q H) q (L m q H) set v r g.0 in
      let ih = jobs-to-links js ((pushed (part m q H) set).mem ++ drop lent m) (act (push_of x v) q) (after_call m (pushed (part m q H) set).mem (act (push_of x v) q) p.1) g.1 in (
        (p.0, subst (λ (w : List Step). Links-in-turn.AllAccepted x capacity (links js) (after_steps x w q)) (sym p.0) ih.0),
        ap (λ (w : List Step). operators-of (w ++ steps_from x capacity (links js) (after_steps x w q))) p.0 ∙ ih.1,
      )
  jobs-to-links (running n ∷ js) m q H g =
      let p = run-as x kinds capacity low high A (part m q H) q (L m q H) n in
      let w = run_steps x capacity n q in
      let ih = jobs-to-links js ((ran (part m q H) n).mem ++ drop lent m) (after_steps x w q) (after_call m (ran (part m q H) n).mem (after_steps x w q) p.0) g.1 in (
        (tt, ih.0),
        operators-append w (steps_from x capacity (links js) (after_steps x w q))
            ∙ ap₂ (λ (a b : List ℕ). a ++ b) (p.1 ∙ sym (fires-are m q H n)) ih.1,
      )
    where
      fires-are : (m : List ℕ) (q : Links) (H : Stands (made_of x) kinds capacity m q) (n : ℕ)
          → unless_refused (part m q H) (run_fires (size_in (part m q H)) (operators_of (part m q H)) n (part m q H)) ≡ run_fires (size_in (part m q H)) (operators_of (part m q H)) n (part m q H)
      fires-are m q H n = rw (eq-eqb (standing (part m q H)) 0 (good m q H)) refl
  jobs-to-links (taking-one ∷ js) m q H g =
      let p = take-as x kinds capacity low high A (part m q H) q (L m q H) out g.0 in
      let ih = jobs-to-links js ((taken (part m q H) out).mem ++ drop lent m) (act (take_of x) q) (after_call m (taken (part m q H) out).mem (act (take_of x) q) p.1) g.1 in (
        (p.0, subst (λ (w : List Step). Links-in-turn.AllAccepted x capacity (links js) (after_steps x w q)) (sym p.0) ih.0),
        ap (λ (w : List Step). operators-of (w ++ steps_from x capacity (links js) (after_steps x w q))) p.0 ∙ ih.1,
      )

  jobs-to-bytes : 80 ≤ length out → (js : List (Job kinds)) (m : List ℕ) (q : Links) → Stands (made_of x) kinds capacity m q
      → Links-in-turn.AllAccepted x capacity (links js) q → AllAccepted (bytes js) m
  unfolding memory_after answer_of steps_of
  jobs-to-bytes room [] m q H g = tt
  jobs-to-bytes room (pushing-set set v r ∷ js) m q H g =
      let z = push-granted m q H set v r g.0 in
      let p = push-as x kinds capacity low high A (part m q H) q (L m q H) set v r z in (
        z,
        jobs-to-bytes room js ((pushed (part m q H) set).mem ++ drop lent m) (act (push_of x v) q) (after_call m (pushed (part m q H) set).mem (act (push_of x v) q) p.1)
            (subst (λ (w : List Step). Links-in-turn.AllAccepted x capacity (links js) (after_steps x w q)) p.0 g.1),
      )
  jobs-to-bytes room (running n ∷ js) m q H g =
      let p = run-as x kinds capacity low high A (part m q H) q (L m q H) n in
      let w = run_steps x capacity n q in (
        run-granted m q H n,
        jobs-to-bytes room js ((ran (part m q H) n).mem ++ drop lent m) (after_steps x w q) (after_call m (ran (part m q H) n).mem (after_steps x w q) p.0) g.1,
      )
  jobs-to-bytes room (taking-one ∷ js) m q H g =
      let z = take-granted m q H room g.0 in
      let p = take-as x kinds capacity low high A (part m q H) q (L m q H) out z in (
        z,
        jobs-to-bytes room js ((taken (part m q H) out).mem ++ drop lent m) (act (take_of x) q) (after_call m (taken (part m q H) out).mem (act (take_of x) q) p.1)
            (subst (λ (w : List Step). Links-in-turn.AllAccepted x capacity (links js) (after_steps x w q)) p.0 g.1),
      )

  -- ---- work on sets
  module _ (sets : List (List ℕ)) (vss : List (List Value)) (r : EachRead x kinds capacity sets vss) (lents : List (List ℕ)) (m : List ℕ) (q : Links)
      (H : Stands (made_of x) kinds capacity m q) where
    pub work-to-links : AllAccepted (in_turn lent out sets lents) m
        → Links-in-turn.AllAccepted x capacity (Links-in-turn.in_turn vss lents) q
        × (operators-of (steps_from x capacity (Links-in-turn.in_turn vss lents) q) ≡ all_fired (in_turn lent out sets lents) m)
    work-to-links g =
        let js = jobs_of x kinds capacity sets vss r lents in
        let b = bytes-are x kinds capacity lent out sets vss r lents in
        let k = links-are x kinds capacity sets vss r lents in
        let w = jobs-to-links js m q H (subst (λ (cs : List Call). AllAccepted cs m) (sym b) g) in (
          subst (λ (cs : List Abstract.Call). Links-in-turn.AllAccepted x capacity cs q) k w.0,
          ap (λ (cs : List Abstract.Call). operators-of (steps_from x capacity cs q)) (sym k) ∙ w.1 ∙ ap (λ (cs : List Call). all_fired cs m) b,
        )

    pub work-to-bytes : 80 ≤ length out → Links-in-turn.AllAccepted x capacity (Links-in-turn.in_turn vss lents) q → AllAccepted (in_turn lent out sets lents) m
    work-to-bytes room g =
        let js = jobs_of x kinds capacity sets vss r lents in
        subst (λ (cs : List Call). AllAccepted cs m) (bytes-are x kinds capacity lent out sets vss r lents)
        (jobs-to-bytes room js m q H (subst (λ (cs : List Abstract.Call). Links-in-turn.AllAccepted x capacity cs q) (sym (links-are x kinds capacity sets vss r lents)) g))
