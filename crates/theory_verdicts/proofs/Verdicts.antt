-- Demand 3 on the abstract machine: "A beacon's verdict comes from its own readings and nobody else's." For every accepted sheet, every capacity
-- from 1 on and every list of calls (Running), both halves; and that a push is accepted when nothing can fire and every set is taken. Rests on the pieces (theory_pieces/specs/Alone, Calls), on what the maker owes (Owed, CutOwed) and on
-- the laws of the calls. Assumes an admissible sheet and one place a link, nothing else.
use Rattle.std.specs.Prelude.{ℕ, zero, suc, ◌+◌, ◌≤◌, ◌<◌, ◌≡◌, ◌⊎◌, get_or, take}
use Rattle.std.proofs.Math.Path.{refl, ap, subst}
use Rattle.std.proofs.Common.{sym, ◌∙◌, arith}
use Rattle.std.proofs.Math.Logic.{inl, inr}
use mathlib.Core.List.{List, [], ◌∷◌, map}
use Rattle.std.proofs.Math.ListN.{length}
use Rattle.value.specs.declared.Value.{Value}
use Rattle.names.specs.Names.{bit}
use Rattle.formula.specs.Tree.{Exp, formula_of}
use Rattle.formula.specs.Free.{inputs_of}
use Rattle.formula.specs.Widths.{width}
use Rattle.formula.specs.Count.{count_e}
use Rattle.formula.specs.Admitted.{AdmittedE}
use Rattle.formula.specs.Acceptance.{Admissible}
use Rattle.network.specs.Values.{true-value}
use Rattle.network.specs.Net.{Token, val, Demand, fire, Links, Able}
use Rattle.network.specs.Ends.{take-demand}
use Rattle.network.proofs.Ends.{capacities-one}
use Rattle.theory_pieces.specs.Load.{put}
use Rattle.theory_pieces.specs.Sets.{tokens-of, onto}
use Rattle.theory_pieces.proofs.Made.{Ending}
use Rattle.theory_pieces.specs.Tape.{Step, taking, sets_of, takes_of, results-of, Sized}
use Rattle.theory_pieces.proofs.Tape.{Accepted, after}
use Rattle.theory_pieces.proofs.Calls.{second-half, ended-when-quiet, untaken-from-start, push-when-quiet}
use Rattle.theory_pieces.proofs.Alone.{alone}
use Rattle.graph.specs.Translation.{made_of}
use Rattle.theory_wiring.specs.Machine.{net_of}
use Rattle.theory_wiring.proofs.FormulaCounts.{made-operators, made-links-bound}
use Rattle.theory_wiring.specs.MadeGraph.{push_links}
use Rattle.theory_verdicts.proofs.Admitting.{accepted-admitted, accepted-operators}
use Rattle.theory_verdicts.specs.Results.{result_of, EndsWith, EachEnds}
use Rattle.theory_verdicts.specs.Owed.{push_number, take_number, source_link, credit_link}
use Rattle.theory_verdicts.proofs.Owed.{piece_of, meansOf, evaluation, result-width, results-are, inputs_are, input-count, owed, source-is-apart, credit-is-apart}
use Rattle.theory_verdicts.proofs.CutOwed.{cut-owed}
use Rattle.theory_verdicts.specs.Running.{places, operator_at, with_trigger, push_of, take_of, start_of, dec_able, Call, fires, takes, after_steps, handed, accept, steps_of, history, standing, pushed, taken}
use Rattle.theory_verdicts.proofs.RunningLaws.{Made-in-turn, calls-made, Whole-sets, calls-whole, triggering, triggered-sets, steps-accepted, steps-after, steps-handed, steps-sets, steps-takes, handed-count, trigger-off, Each-whole, sets-whole, first-whole, first-triggered, sets-sized}

refused-cannot : {A : Type 0} (s : Step) (d : Dec A) → accept d s ≡ [] → A → ⊥
refused-cannot s (yes p) e a = let z : ◌≡◌ {A = ℕ} 1 0 = ap length e in omega arith
refused-cannot s (no n) e a = n a

can-accepted : {A : Type 0} (s : Step) (d : Dec A) → A → accept d s ≡ s ∷ []
can-accepted s (yes p) a = refl
can-accepted s (no n) a = absurd (n a)

-- ---- the machine of an admitted formula
module _ (x : Exp) (h : AdmittedE x) (few : (count_e x).operators ≤ 1024) (capacity : ℕ) (room : 1 ≤ capacity) where
  roomy : (l : ℕ) → 1 ≤ places capacity l
  roomy = capacities-one credit_link capacity room

  made-inputs : (made_of x).inputs ≡ length (inputs_of x)
  unfolding made_of
  made-inputs = refl

  ports : length (piece_of x h).ins ≡ (made_of x).inputs + bit (made_of x).triggered
  unfolding made_of
  ports = input-count x h

  accepted-here : (w : List Step) → Made-in-turn x capacity w (start_of x)
      → Accepted (net_of (made_of x).operators) credit_link (piece_of x h).ins (piece_of x h).outs (places capacity) (map (triggering x capacity) w) (put (owed x h few).fresh (λ l. []))
  unfolding owed
  accepted-here w a =
      subst (λ (is : List ℕ). Accepted (net_of (made_of x).operators) credit_link is (piece_of x h).outs (places capacity) (map (triggering x capacity) w) (start_of x)) (sym (inputs_are x h))
      (subst (λ (os : List ℕ). Accepted (net_of (made_of x).operators) credit_link (push_links (made_of x)) os (places capacity) (map (triggering x capacity) w) (start_of x)) (sym (results-are x h))
      (steps-accepted x capacity w (start_of x) a))

  after-here : (w : List Step)
      → after (net_of (made_of x).operators) credit_link (piece_of x h).ins (piece_of x h).outs (places capacity) (map (triggering x capacity) w) (put (owed x h few).fresh (λ l. []))
      ≡ after_steps x w (start_of x)
  unfolding owed
  after-here w =
      ap (λ (is : List ℕ). after (net_of (made_of x).operators) credit_link is (piece_of x h).outs (places capacity) (map (triggering x capacity) w) (start_of x)) (inputs_are x h)
      ∙ ap (λ (os : List ℕ). after (net_of (made_of x).operators) credit_link (push_links (made_of x)) os (places capacity) (map (triggering x capacity) w) (start_of x)) (results-are x h)
      ∙ steps-after x capacity w (start_of x)

  handed-here : (w : List Step)
      → results-of (net_of (made_of x).operators) credit_link (piece_of x h).ins (piece_of x h).outs (places capacity) (map (triggering x capacity) w) (put (owed x h few).fresh (λ l. []))
      ≡ handed x w (start_of x)
  unfolding owed
  handed-here w =
      ap (λ (is : List ℕ). results-of (net_of (made_of x).operators) credit_link is (piece_of x h).outs (places capacity) (map (triggering x capacity) w) (start_of x)) (inputs_are x h)
      ∙ ap (λ (os : List ℕ). results-of (net_of (made_of x).operators) credit_link (push_links (made_of x)) os (places capacity) (map (triggering x capacity) w) (start_of x)) (results-are x h)
      ∙ steps-handed x capacity w (start_of x)

  sized-here : (w : List Step) → Whole-sets x capacity w → Sized (piece_of x h).ins (sets_of (map (triggering x capacity) w))
  sized-here w a =
      subst (Sized (piece_of x h).ins) (sym (steps-sets x capacity w))
      (sets-sized x capacity (piece_of x h).ins ports (sets_of w) (sets-whole x capacity w a))

  -- a set with the trigger's value behind it is evaluated as the set
  triggered-result : (v : List Value) → length v ≡ (made_of x).inputs → (rounds : ℕ) → evaluation x h rounds (with_trigger (made_of x).triggered v) ≡ result_of x v rounds
  triggered-result v e rounds =
      ap (λ (m : ℕ). result_of x (take m (with_trigger (made_of x).triggered v)) rounds) (sym (e ∙ made-inputs))
      ∙ ap (λ (u : List Value). result_of x u rounds) (trigger-off x capacity (made_of x).triggered v)

  ended : (vss rss : List (List Value)) → Each-whole x capacity vss
      → Ending (net_of (made_of x).operators) push_number take_number source_link credit_link (piece_of x h) (meansOf x h) (evaluation x h) (triggered-sets x capacity vss) rss → EachEnds x vss rss
  ended [] [] a e = tt
  ended [] (r ∷ rss) a e = e
  ended (v ∷ vss) [] a e = e
  ended (v ∷ vss) (r ∷ rss) a e = ((e.1.0, sym (triggered-result v a.0 e.1.0) ∙ e.1.1), ended vss rss a.1 e.2)

  length-triggered : (vss : List (List Value)) → length (triggered-sets x capacity vss) ≡ length vss
  length-triggered [] = refl
  length-triggered (v ∷ vss) = ap suc (length-triggered vss)

  pushed-count : (w : List Step) → length (sets_of (map (triggering x capacity) w)) ≡ length (sets_of w)
  pushed-count w = ap length (steps-sets x capacity w) ∙ length-triggered (sets_of w)

  -- The credit link holds a token for each set untaken.
  untaken-here : (w : List Step) → Made-in-turn x capacity w (start_of x) → length (handed x w (start_of x)) + length (after_steps x w (start_of x) credit_link) ≡ length (sets_of w)
  untaken-here w a =
      omega (
        arith,
        handed-count x capacity w (start_of x),
        steps-takes x capacity w,
        pushed-count w,
        ap (λ (q : Links). length (q credit_link)) (after-here w),
        untaken-from-start (net_of (made_of x).operators) push_number take_number source_link credit_link (piece_of x h) (meansOf x h) (evaluation x h) (owed x h few) (places capacity) roomy
            (source-is-apart x h few (places capacity)) (credit-is-apart x h few (places capacity)) (map (triggering x capacity) w) (accepted-here w a),
      )

  -- The k-th set, pushed with the trigger's value behind it.
  triggered-at : (vss : List (List Value)) (k : ℕ) → k < length vss → get_or (triggered-sets x capacity vss) k [] ≡ with_trigger (made_of x).triggered (get_or vss k [])
  triggered-at [] k l = absurd (omega arith)
  triggered-at (v ∷ vss) zero l = refl
  triggered-at (v ∷ vss) (suc k) l = triggered-at vss k (omega arith)

  whole-at : (vss : List (List Value)) → Each-whole x capacity vss → (k : ℕ) → k < length vss → length (get_or vss k []) ≡ (made_of x).inputs
  whole-at [] a k l = absurd (omega arith)
  whole-at (v ∷ vss) a zero l = a.0
  whole-at (v ∷ vss) a (suc k) l = whole-at vss a.1 k (omega arith)

  alone-result : (w : List Step) → Made-in-turn x capacity w (start_of x) → Whole-sets x capacity w → (k : ℕ) → k < length (handed x w (start_of x))
      → (r : List Value) → EndsWith x (get_or (sets_of w) k []) r → get_or (handed x w (start_of x)) k [] ≡ tokens-of r
  alone-result w a f k l r (rounds, e) =
      let inside : k < length (sets_of w) = omega (arith, untaken-here w a) in
      ap (λ (z : List (List Token)). get_or z k []) (sym (handed-here w))
      ∙ alone (net_of (made_of x).operators) push_number take_number source_link credit_link (piece_of x h) (meansOf x h) (evaluation x h) (owed x h few) (places capacity) roomy
      (source-is-apart x h few (places capacity)) (credit-is-apart x h few (places capacity)) (cut-owed x h few) (map (triggering x capacity) w) (sized-here w f) (accepted-here w a) k
      (omega (arith, l, handed-count x capacity w (start_of x), steps-takes x capacity w)) rounds r
      (ap (λ (vss : List (List Value)). evaluation x h rounds (get_or vss k [])) (steps-sets x capacity w) ∙ ap (evaluation x h rounds) (triggered-at (sets_of w) k inside)
      ∙ triggered-result (get_or (sets_of w) k []) (whole-at (sets_of w) (sets-whole x capacity w f) k inside) rounds ∙ e)

  quiet-ready : (w : List Step) → Made-in-turn x capacity w (start_of x) → Whole-sets x capacity w
      → ((a : ℕ) → Able (places capacity) (operator_at x a) (after_steps x w (start_of x)) → ⊥)
      → (length (handed x w (start_of x)) ≡ length (sets_of w)) ⊎ Able (places capacity) (take_of x) (after_steps x w (start_of x))
  quiet-ready w a f quiet =
      go (second-half (net_of (made_of x).operators) push_number take_number source_link credit_link (piece_of x h) (meansOf x h) (evaluation x h) (owed x h few) (places capacity) roomy
      (source-is-apart x h few (places capacity)) (credit-is-apart x h few (places capacity)) (map (triggering x capacity) w) (sized-here w f) (accepted-here w a)
      (λ b o. quiet b (subst (Able (places capacity) (operator_at x b)) (after-here w) o)))
    where
      go : (takes_of (map (triggering x capacity) w) ≡ length (sets_of (map (triggering x capacity) w)))
          ⊎ Able (places capacity) (take-demand credit_link (piece_of x h).outs)
          (after (net_of (made_of x).operators) credit_link (piece_of x h).ins (piece_of x h).outs (places capacity) (map (triggering x capacity) w) (put (owed x h few).fresh (λ l. [])))
          → (length (handed x w (start_of x)) ≡ length (sets_of w)) ⊎ Able (places capacity) (take_of x) (after_steps x w (start_of x))
      go (inl e) = inl (omega (arith, e, handed-count x capacity w (start_of x), steps-takes x capacity w, pushed-count w))
      go (inr o) =
          inr (subst (λ (os : List ℕ). Able (places capacity) (take-demand credit_link os) (after_steps x w (start_of x))) (results-are x h)
          (subst (Able (places capacity) (take-demand credit_link (piece_of x h).outs)) (after-here w) o))

  -- the evaluation of the oldest untaken set and of every set before it has ended
  quiet-ends : (w : List Step) → Made-in-turn x capacity w (start_of x) → Whole-sets x capacity w
      → ((a : ℕ) → Able (places capacity) (operator_at x a) (after_steps x w (start_of x)) → ⊥)
      → (n : ℕ) → n ≤ length (sets_of w) → n ≤ suc (length (handed x w (start_of x))) → (rss : List (List Value)) × EachEnds x (take n (sets_of w)) rss
  quiet-ends w a f quiet n inside most =
      let z =
      ended-when-quiet (net_of (made_of x).operators) push_number take_number source_link credit_link (piece_of x h) (meansOf x h) (evaluation x h) (owed x h few) (places capacity) roomy
      (source-is-apart x h few (places capacity)) (credit-is-apart x h few (places capacity)) (map (triggering x capacity) w) (sized-here w f) (accepted-here w a)
      (λ b o. quiet b (subst (Able (places capacity) (operator_at x b)) (after-here w) o)) n (omega (arith, inside, pushed-count w))
      (omega (arith, most, handed-count x capacity w (start_of x), steps-takes x capacity w)) in (
        z.0,
        ended (take n (sets_of w)) z.0 (first-whole x capacity n (sets_of w) (sets-whole x capacity w f))
            (subst (λ (vss : List (List Value)). Ending (net_of (made_of x).operators) push_number take_number source_link credit_link (piece_of x h) (meansOf x h) (evaluation x h) vss z.0)
            (ap (take n) (steps-sets x capacity w) ∙ first-triggered x capacity n (sets_of w)) z.1),
      )

  quiet-push : (w : List Step) → Made-in-turn x capacity w (start_of x) → Whole-sets x capacity w
      → ((a : ℕ) → Able (places capacity) (operator_at x a) (after_steps x w (start_of x)) → ⊥)
      → length (handed x w (start_of x)) ≡ length (sets_of w) → (v : List Value) → length v ≡ (made_of x).inputs
      → Able (places capacity) (push_of x v) (after_steps x w (start_of x))
  quiet-push w a f quiet all v e =
      subst (λ (is : List ℕ). Able (places capacity) (on_links is) (after_steps x w (start_of x))) (inputs_are x h)
      (subst (Able (places capacity) (on_links (piece_of x h).ins)) (after-here w)
      (push-when-quiet (net_of (made_of x).operators) push_number take_number source_link credit_link (piece_of x h) (meansOf x h) (evaluation x h) (owed x h few) (places capacity) roomy
      (source-is-apart x h few (places capacity)) (credit-is-apart x h few (places capacity)) (map (triggering x capacity) w) (sized-here w f) (accepted-here w a)
      (λ b o. quiet b (subst (Able (places capacity) (operator_at x b)) (after-here w) o))
      (omega (arith, handed-count x capacity w (start_of x), steps-takes x capacity w, pushed-count w))
      (with_trigger (made_of x).triggered v) (sets-sized x capacity (piece_of x h).ins ports (v ∷ []) (e, tt)).0))
    where
      on_links : List ℕ → Demand
      on_links is = fire ((credit_link, val true-value) ∷ onto is (with_trigger (made_of x).triggered v)) []

-- ---- results one by one
ends_at : (x : Exp) (k : ℕ) (vss rss : List (List Value)) → suc k ≤ length vss → EachEnds x (take (suc k) vss) rss → EndsWith x (get_or vss k []) (get_or rss k [])
ends_at x k [] rss l e = absurd (omega arith)
ends_at x k (v ∷ vss) [] l e = absurd e
ends_at x zero (v ∷ vss) (r ∷ rss) l e = e.0
ends_at x (suc k) (v ∷ vss) (r ∷ rss) l e = ends_at x k vss rss (omega arith) e.1

-- ---- demand 3
module _ (s : List ℕ) (accepted : Admissible s) (capacity : ℕ) (room : 1 ≤ capacity) (calls : List Call) where
  abbrev x : Exp
  x = formula_of s

  admitted : AdmittedE x
  admitted = accepted-admitted s accepted

  few : (count_e x).operators ≤ 1024
  few = accepted-operators s accepted

  made : Made-in-turn x capacity (history x capacity calls) (start_of x)
  made = calls-made x capacity calls (start_of x)

  sets : Whole-sets x capacity (history x capacity calls)
  sets = calls-whole x capacity calls (start_of x)

  -- The credit link counts the sets pushed and not taken.
  pub untaken-counted : length (taken (formula_of s) capacity calls) + length (standing (formula_of s) capacity calls credit_link) ≡ length (pushed (formula_of s) capacity calls)
  untaken-counted = untaken-here x admitted few capacity room (history x capacity calls) made

  pub were-pushed : length (taken x capacity calls) ≤ length (pushed x capacity calls)
  were-pushed = omega (arith, untaken-counted)

  -- The k-th result taken is what direct evaluation yields for the k-th set, if it ends, whatever the sets before it do.
  pub alone-verdict : (k : ℕ) → k < length (taken (formula_of s) capacity calls) → (r : List Value)
      → EndsWith (formula_of s) (get_or (pushed (formula_of s) capacity calls) k []) r → get_or (taken (formula_of s) capacity calls) k [] ≡ tokens-of r
  alone-verdict k l r e = alone-result x admitted few capacity room (history x capacity calls) made sets k l r e

  none-able : ((a : ℕ) → steps_of x capacity (fires a) (standing x capacity calls) ≡ []) → (a : ℕ) → Able (places capacity) (operator_at x a) (standing x capacity calls) → ⊥
  unfolding steps_of
  none-able quiet a = refused-cannot _ (dec_able (places capacity) (operator_at x a) (standing x capacity calls)) (quiet a)

  pub ready-when-quiet : ((a : ℕ) → steps_of x capacity (fires a) (standing x capacity calls) ≡ [])
      → (length (taken x capacity calls) ≡ length (pushed x capacity calls)) ⊎ (steps_of x capacity takes (standing x capacity calls) ≡ taking ∷ [])
  unfolding steps_of
  ready-when-quiet quiet = go (quiet-ready x admitted few capacity room (history x capacity calls) made sets (none-able quiet))
    where
      go : (length (taken x capacity calls) ≡ length (pushed x capacity calls)) ⊎ Able (places capacity) (take_of x) (standing x capacity calls)
          → (length (taken x capacity calls) ≡ length (pushed x capacity calls)) ⊎ (accept (dec_able (places capacity) (take_of x) (standing x capacity calls)) taking ≡ taking ∷ [])
      go (inl e) = inl e
      go (inr o) = inr (can-accepted taking (dec_able (places capacity) (take_of x) (standing x capacity calls)) o)

  -- When nothing can fire, direct evaluation of the oldest untaken set ends, and so does that of every set before it.
  pub ends-when-quiet : ((a : ℕ) → steps_of (formula_of s) capacity (fires a) (standing (formula_of s) capacity calls) ≡ [])
      → (j : ℕ) → j < length (pushed (formula_of s) capacity calls) → j ≤ length (taken (formula_of s) capacity calls)
      → (r : List Value) × EndsWith (formula_of s) (get_or (pushed (formula_of s) capacity calls) j []) r
  ends-when-quiet quiet j l most =
      let z = quiet-ends x admitted few capacity room (history x capacity calls) made sets (none-able quiet) (suc j) (omega arith) (omega arith) in
      (get_or z.0 j [], ends_at x j (pushed x capacity calls) z.0 (omega arith) z.1)

  -- When nothing can fire and every pushed set has been taken, a push of any set with a value for each input can be made.
  pub pushable-when-quiet : ((a : ℕ) → steps_of (formula_of s) capacity (fires a) (standing (formula_of s) capacity calls) ≡ [])
      → length (taken (formula_of s) capacity calls) ≡ length (pushed (formula_of s) capacity calls) → (v : List Value) → length v ≡ (made_of (formula_of s)).inputs
      → Able (places capacity) (push_of (formula_of s) v) (standing (formula_of s) capacity calls)
  pushable-when-quiet quiet all v e = quiet-push x admitted few capacity room (history x capacity calls) made sets (none-able quiet) all v e

-- The made graph of an accepted sheet is small enough for the machine's numbers.
pub accepted-graph : (s : List ℕ) → Admissible s → (length (made_of (formula_of s)).operators ≤ 1024) × ((made_of (formula_of s)).links ≤ 3105)
accepted-graph s accepted = (
  subst (λ (m : ℕ). m ≤ 1024) (sym (made-operators (formula_of s) (accepted-admitted s accepted))) (accepted-operators s accepted),
  made-links-bound (formula_of s) (accepted-admitted s accepted) (accepted-operators s accepted),
)

-- "the result taken equals its result set in width": what evaluation yields has the formula's width.
pub verdict-width : (s : List ℕ) → Admissible s → (v r : List Value) → EndsWith (formula_of s) v r → length r ≡ width (formula_of s)
verdict-width s accepted v r e = result-width (formula_of s) (accepted-admitted s accepted) v r e
