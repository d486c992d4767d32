-- The bound of document 02, Job 7, on the abstract machine of every accepted sheet: after as many rounds as firings are owed of working one set after another up
-- to the oldest untaken one, a take is accepted. For every list of calls before and every capacity from 1 on. Rests on the law for any made graph
-- (theory_pieces/specs/RoundsReady). Assumes an admissible sheet, one place a link and an accepted work; that there is one where evaluation ends is WorkEnds'.
use Rattle.std.specs.Prelude.{ℕ, zero, suc, ◌+◌, ◌-◌, ◌≤◌, ◌<◌, ◌≡◌, refl, length, take, drop}
use Rattle.std.proofs.Common.{sym, ◌∙◌, ap₂, take-append-drop, length-append, arith}
use Rattle.std.proofs.Math.Path.{ap, subst}
use mathlib.Core.List.{List, [], ◌∷◌, ◌++◌, map}
use Rattle.std.proofs.Math.Decide.{ℕ_discrete}
use Rattle.theory_schedule.specs.Schedules.{remaining}
use Rattle.theory_schedule.specs.Counts.{count}
use Rattle.value.specs.declared.Value.{Value}
use Rattle.names.specs.Names.{bit}
use Rattle.formula.specs.Tree.{Exp, formula_of}
use Rattle.formula.specs.Count.{count_e}
use Rattle.formula.specs.Admitted.{AdmittedE}
use Rattle.formula.specs.Acceptance.{Admissible}
use Rattle.network.specs.Net.{Links, Able}
use Rattle.network.specs.Ends.{take-demand}
use Rattle.network.proofs.Ends.{capacities-one}
use Rattle.theory_pieces.specs.Load.{put}
use Rattle.theory_pieces.specs.Tape.{Step, pushing, firing, taking, sets_of, takes_of, Sized}
use Rattle.theory_pieces.proofs.Tape.{Accepted, after, events-of, counts}
use Rattle.theory_pieces.proofs.RoundsReady.{rounds-ready}
use Rattle.graph.specs.Translation.{made_of}
use Rattle.theory_wiring.specs.Machine.{net_of}
use Rattle.theory_wiring.proofs.Machine.{net-past}
use Rattle.theory_wiring.proofs.FormulaCounts.{made-operators}
use Rattle.theory_wiring.specs.MadeGraph.{push_links}
use Rattle.theory_verdicts.proofs.Admitting.{accepted-admitted, accepted-operators}
use Rattle.theory_verdicts.specs.Owed.{push_number, take_number, source_link, credit_link}
use Rattle.theory_verdicts.proofs.Owed.{piece_of, meansOf, evaluation, results-are, inputs_are, input-count, source-is-apart, credit-is-apart}
use Rattle.theory_verdicts.proofs.Owed.{owed as maker-owed}
use Rattle.theory_verdicts.specs.Running.{places, take_of, start_of, dec_able, Call, takes, after_steps, accept, steps_of, history, standing, pushed, taken}
use Rattle.theory_verdicts.proofs.RunningLaws.{Made-in-turn, calls-made, Whole-sets, calls-whole, triggering, triggered-sets, steps-accepted, steps-after, steps-sets, steps-takes, handed-count, sets-whole, sets-sized}
use Rattle.theory_rounds.specs.InTurn.{rounds_of, in_turn, AllAccepted, times, owed}
use Rattle.theory_rounds.proofs.Shares.{sum_same, remaining-shares}
use Rattle.theory_rounds.proofs.TurnLaws.{times-end, past-never, events-fired, triggering-end, calls-lead, graphRounds, leads, rounds-lead, in-turn-works}

pub can-accepted : {A : Type 0} (s : Step) (d : Dec A) → A → accept d s ≡ s ∷ []
can-accepted s (yes p) a = refl
can-accepted s (no n) a = absurd (n a)

-- ---- the machine of an admitted formula; the first four laws are those of theory_verdicts/specs/Verdicts
module _ (x : Exp) (h : AdmittedE x) (few : (count_e x).operators ≤ 1024) (capacity : ℕ) (room : 1 ≤ capacity) where
  pub roomy : (l : ℕ) → 1 ≤ places capacity l
  roomy = capacities-one credit_link capacity room

  ports : length (piece_of x h).ins ≡ (made_of x).inputs + bit (made_of x).triggered
  unfolding made_of
  ports = input-count x h

  pub accepted-here : (w : List Step) → Made-in-turn x capacity w (start_of x)
      → Accepted (net_of (made_of x).operators) credit_link (piece_of x h).ins (piece_of x h).outs (places capacity) (map (triggering x capacity) w) (put (maker-owed x h few).fresh (λ l. []))
  unfolding maker-owed
  accepted-here w a =
      subst (λ (is : List ℕ). Accepted (net_of (made_of x).operators) credit_link is (piece_of x h).outs (places capacity) (map (triggering x capacity) w) (start_of x)) (sym (inputs_are x h))
      (subst (λ (os : List ℕ). Accepted (net_of (made_of x).operators) credit_link (push_links (made_of x)) os (places capacity) (map (triggering x capacity) w) (start_of x)) (sym (results-are x h))
      (steps-accepted x capacity w (start_of x) a))

  pub after-here : (w : List Step)
      → after (net_of (made_of x).operators) credit_link (piece_of x h).ins (piece_of x h).outs (places capacity) (map (triggering x capacity) w) (put (maker-owed x h few).fresh (λ l. []))
      ≡ after_steps x w (start_of x)
  unfolding maker-owed
  after-here w =
      ap (λ (is : List ℕ). after (net_of (made_of x).operators) credit_link is (piece_of x h).outs (places capacity) (map (triggering x capacity) w) (start_of x)) (inputs_are x h)
      ∙ ap (λ (os : List ℕ). after (net_of (made_of x).operators) credit_link (push_links (made_of x)) os (places capacity) (map (triggering x capacity) w) (start_of x)) (results-are x h)
      ∙ steps-after x capacity w (start_of x)

  pub sized-here : (w : List Step) → Whole-sets x capacity w → Sized (piece_of x h).ins (sets_of (map (triggering x capacity) w))
  sized-here w a =
      subst (Sized (piece_of x h).ins) (sym (steps-sets x capacity w))
      (sets-sized x capacity (piece_of x h).ins ports (sets_of w) (sets-whole x capacity w a))

  -- ---- what is left in events is what is owed
  pub operators-few : length (made_of x).operators ≤ 1024
  operators-few = subst (λ (m : ℕ). m ≤ 1024) (sym (made-operators x h)) few

  abbrev events : List Step → List ℕ
  events w = events-of push_number take_number (map (triggering x capacity) w)

  event-counts : (w : List Step) → Made-in-turn x capacity w (start_of x)
      → (count push_number (events w) ≡ length (sets_of (map (triggering x capacity) w))) × (count take_number (events w) ≡ takes_of (map (triggering x capacity) w))
  event-counts w a =
      counts (net_of (made_of x).operators) push_number take_number source_link credit_link (piece_of x h).ins (piece_of x h).outs (places capacity) (source-is-apart x h few (places capacity))
      (map (triggering x capacity) w) (put (maker-owed x h few).fresh (λ l. [])) (accepted-here w a)

  fired-below : (w : List Step) (i : ℕ) → i < length (made_of x).operators → count i (events w) ≡ times i w
  fired-below w i l =
      events-fired x capacity push_number take_number w i (λ (e : i ≡ push_number). omega (arith, operators-few)) (λ (e : i ≡ take_number). omega (arith, operators-few))

  sets-longer : (w v : List Step) (more : List (List Value)) → sets_of w ≡ sets_of v ++ more
      → sets_of (map (triggering x capacity) w) ≡ sets_of (map (triggering x capacity) v) ++ triggered-sets x capacity more
  sets-longer w v more e =
      steps-sets x capacity w ∙ ap (triggered-sets x capacity) e ∙ both (sets_of v) ∙ ap (λ (z : List (List Value)). z ++ triggered-sets x capacity more) (sym (steps-sets x capacity v))
    where
      both : (vss : List (List Value)) → triggered-sets x capacity (vss ++ more) ≡ triggered-sets x capacity vss ++ triggered-sets x capacity more
      both [] = refl
      both (u ∷ vss) = ap₂ {B = List (List Value)} (λ (a : List Value) (b : List (List Value)). a ∷ b) refl (both vss)

  left-is-owed : (w v : List Step) (more : List (List Value)) → Made-in-turn x capacity w (start_of x) → Made-in-turn x capacity v (start_of x)
      → sets_of w ≡ sets_of v ++ more → takes_of w ≡ takes_of v → length (remaining (events w) (events v)) ≡ owed x v w
  left-is-owed w v more a av same taken =
      remaining-shares (length (made_of x).operators) (events w) (events v) far
      ∙ sum_same (length (made_of x).operators) (λ i. count i (events v) - count i (events w)) (λ i. times i v - times i w)
      (λ i l. ap₂ {B = ℕ} (λ (a b : ℕ). a - b) (fired-below v i l) (fired-below w i l))
    where
      far : (e : ℕ) → length (made_of x).operators ≤ e → count e (events v) ≤ count e (events w)
      far e l = go (ℕ_discrete e push_number) (ℕ_discrete e take_number)
        where
          go : Dec (e ≡ push_number) → Dec (e ≡ take_number) → count e (events v) ≤ count e (events w)
          go (yes z) d =
              subst (λ (c : ℕ). count c (events v) ≤ count c (events w)) (sym z)
              (omega (
                arith,
                (event-counts w a).0,
                (event-counts v av).0,
                ap length (sets-longer w v more same) ∙ length-append (sets_of (map (triggering x capacity) v)) (triggered-sets x capacity more),
              ))
          go (no y) (yes z) =
              subst (λ (c : ℕ). count c (events v) ≤ count c (events w)) (sym z)
              (omega (arith, (event-counts w a).1, (event-counts v av).1, steps-takes x capacity w, steps-takes x capacity v, taken))
          go (no y) (no z) = omega (arith, events-fired x capacity push_number take_number v e y z, past-never x capacity v (start_of x) av e l)

  -- ---- a take after rounds
  first_made : (v u : List Step) (q : Links) → Made-in-turn x capacity (v ++ u) q → Made-in-turn x capacity v q
  first_made [] u q a = tt
  first_made (s ∷ v) u q a = (a.0, first_made v u _ a.1)

  first-whole : (v u : List Step) → Whole-sets x capacity (v ++ u) → Whole-sets x capacity v
  first-whole [] u a = tt
  first-whole (pushing vs ∷ v) u a = (a.0, first-whole v u a.1)
  first-whole (firing i ∷ v) u a = first-whole v u a
  first-whole (taking ∷ v) u a = first-whole v u a

  ready-steps : (w v : List Step) (more : List (List Value)) → Made-in-turn x capacity w (start_of x) → Whole-sets x capacity w
      → Made-in-turn x capacity (v ++ (taking ∷ [])) (start_of x) → Whole-sets x capacity (v ++ (taking ∷ []))
      → sets_of w ≡ sets_of v ++ more → takes_of w ≡ takes_of v → (b : ℕ) → owed x v w ≤ b
      → Able (places capacity) (take_of x) (leads x capacity (graphRounds x capacity b (after_steps x w (start_of x))) (after_steps x w (start_of x)))
  ready-steps w v more a f av fv same taken b l =
      subst (λ (q : Links). Able (places capacity) (take_of x) (leads x capacity (graphRounds x capacity b q) q)) (after-here w)
      (subst (λ (os : List ℕ). Able (places capacity) (take-demand credit_link os) (leads x capacity (graphRounds x capacity b stood) stood)) (results-are x h)
      (rounds-ready (net_of (made_of x).operators) push_number take_number source_link credit_link (piece_of x h) (meansOf x h) (evaluation x h) (maker-owed x h few) (places capacity) roomy
      (source-is-apart x h few (places capacity)) (credit-is-apart x h few (places capacity)) (dec_able (places capacity)) (length (made_of x).operators) operators-few
      (omega (arith, operators-few)) (λ i m. net-past (made_of x).operators i m) (map (triggering x capacity) w) (map (triggering x capacity) v) (triggered-sets x capacity more)
      (sized-here w f) (sized-here v (first-whole v (taking ∷ []) fv)) (accepted-here w a)
      (subst (λ (u : List Step). Accepted (net_of (made_of x).operators) credit_link (piece_of x h).ins (piece_of x h).outs (places capacity) u (put (maker-owed x h few).fresh (λ l. [])))
      (triggering-end x capacity v) (accepted-here (v ++ (taking ∷ [])) av))
      (sets-longer w v more same) (steps-takes x capacity w ∙ taken ∙ sym (steps-takes x capacity v)) b
      (omega (arith, l, left-is-owed w v more a (first_made v (taking ∷ []) (start_of x) av) same taken))))
    where
      stood : Links
      stood = after (net_of (made_of x).operators) credit_link (piece_of x h).ins (piece_of x h).outs (places capacity) (map (triggering x capacity) w) (put (maker-owed x h few).fresh (λ l. []))

-- ---- lists of calls
module _ (s : List ℕ) (accepted : Admissible s) (capacity : ℕ) (room : 1 ≤ capacity) (calls : List Call) where
  abbrev x : Exp
  x = formula_of s

  -- Of any calls whose steps end with a take, push the sets up to the oldest untaken one and take them: after as many rounds as they have firings left, or more,
  -- a take is accepted.
  pub ready-after-rounds : (work : List Call) (v : List Step) → history (formula_of s) capacity work ≡ v ++ (taking ∷ [])
      → (more : List (List Value)) → pushed (formula_of s) capacity calls ≡ sets_of v ++ more → takes_of (history (formula_of s) capacity calls) ≡ takes_of v
      → (b : ℕ) → owed (formula_of s) (history (formula_of s) capacity work) (history (formula_of s) capacity calls) ≤ b
      → steps_of (formula_of s) capacity takes (standing (formula_of s) capacity (calls ++ rounds_of (formula_of s) b)) ≡ taking ∷ []
  unfolding steps_of
  ready-after-rounds work v e more same taken b l =
      can-accepted taking (dec_able (places capacity) (take_of x) (standing x capacity (calls ++ rounds_of x b)))
      (subst (Able (places capacity) (take_of x)) (sym (calls-lead x capacity calls (rounds_of x b) (start_of x) ∙ rounds-lead x capacity b (standing x capacity calls)))
      (ready-steps x (accepted-admitted s accepted) (accepted-operators s accepted) capacity room (history x capacity calls) v more (calls-made x capacity calls (start_of x))
      (calls-whole x capacity calls (start_of x)) (subst (λ (w : List Step). Made-in-turn x capacity w (start_of x)) e (calls-made x capacity work (start_of x)))
      (subst (Whole-sets x capacity) e (calls-whole x capacity work (start_of x))) same taken b (omega (arith, l, no_more))))
    where
      no_more : owed x (history x capacity work) (history x capacity calls) ≡ owed x v (history x capacity calls)
      no_more =
          ap (λ (w : List Step). owed x w (history x capacity calls)) e
          ∙ sum_same (length (made_of x).operators) (λ i. times i (v ++ (taking ∷ [])) - times i (history x capacity calls)) (λ i. times i v - times i (history x capacity calls))
          (λ i m. ap (λ (t : ℕ). t - times i (history x capacity calls)) (times-end i v))

  -- "After at most that many rounds its whole result is ready."
  pub take-after-rounds : length (taken (formula_of s) capacity calls) < length (pushed (formula_of s) capacity calls) → (lent : List (List ℕ))
      → AllAccepted (formula_of s) capacity (in_turn (take (suc (length (taken (formula_of s) capacity calls))) (pushed (formula_of s) capacity calls)) lent) (start_of (formula_of s))
      → (b : ℕ)
      → owed (formula_of s) (history (formula_of s) capacity (in_turn (take (suc (length (taken (formula_of s) capacity calls))) (pushed (formula_of s) capacity calls)) lent))
      (history (formula_of s) capacity calls) ≤ b
      → steps_of (formula_of s) capacity takes (standing (formula_of s) capacity (calls ++ rounds_of (formula_of s) b)) ≡ taking ∷ []
  take-after-rounds left lent g b l = go (pushed x capacity calls) refl left g l
    where
      count-taken : length (taken x capacity calls) ≡ takes_of (history x capacity calls)
      count-taken = handed-count x capacity (history x capacity calls) (start_of x)

      at_most : {A : Type 0} (n : ℕ) (xs : List A) → n ≤ length xs → length (take n xs) ≡ n
      at_most zero xs m = refl
      at_most (suc n) [] m = absurd (omega arith)
      at_most (suc n) (y ∷ xs) m = ap suc (at_most n xs (omega arith))

      go : (vss : List (List Value)) → pushed x capacity calls ≡ vss → length (taken x capacity calls) < length vss
          → AllAccepted x capacity (in_turn (take (suc (length (taken x capacity calls))) vss) lent) (start_of x)
          → owed x (history x capacity (in_turn (take (suc (length (taken x capacity calls))) vss) lent)) (history x capacity calls) ≤ b
          → steps_of x capacity takes (standing x capacity (calls ++ rounds_of x b)) ≡ taking ∷ []
      go [] e m g l = absurd (omega arith)
      go (v ∷ vss) e m g l =
          let k = length (taken x capacity calls) in
          let W = in-turn-works x capacity v (take k vss) lent (start_of x) g in
          ready-after-rounds (in_turn (v ∷ take k vss) lent) W.before W.ends (drop k vss)
          (e ∙ ap (λ (z : List (List Value)). v ∷ z) (sym (take-append-drop k vss)) ∙ ap (λ (z : List (List Value)). z ++ drop k vss) (sym W.sets-are))
          (omega (arith, count-taken, W.takes-are, at_most k vss (omega arith))) b l
