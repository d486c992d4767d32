-- Laws of specs/SameFirings.antt, and what only they need.
use Rattle.std.specs.Prelude.{ℕ, ◌≤◌, ◌<◌, ◌≡◌, ◌≢◌, List, map}
use Rattle.std.proofs.Common.{sym, ◌∙◌, subst}
use Rattle.std.proofs.Math.Path.{ap}
use Rattle.std.proofs.Math.ListN.{length, length-map}
use Rattle.std.proofs.Math.Decide.{dec_lt}
use native.Mathlib.Omega.{arith}
use Rattle.formula.specs.Tree.{Exp, formula_of}
use Rattle.formula.specs.Count.{count_e}
use Rattle.formula.specs.Admitted.{AdmittedE}
use Rattle.formula.specs.Acceptance.{Admissible}
use Rattle.network.specs.Net.{Able}
use Rattle.theory_pieces.specs.Tape.{Step, firing, sets_of}
use Rattle.theory_pieces.proofs.Calls as Pieces
use Rattle.graph.specs.Translation.{made_of}
use Rattle.theory_wiring.specs.Machine.{net_of}
use Rattle.theory_verdicts.proofs.Admitting.{accepted-admitted, accepted-operators}
use Rattle.theory_verdicts.specs.Owed.{push_number, take_number, source_link, credit_link}
use Rattle.theory_verdicts.proofs.Owed.{piece_of, meansOf, evaluation, source-is-apart, credit-is-apart}
use Rattle.theory_verdicts.proofs.Owed.{owed as maker-owed}
use Rattle.theory_verdicts.specs.Running.{places, operator_at, with_trigger, start_of, dec_able, Call, steps_of, history, standing, pushed}
use Rattle.theory_verdicts.proofs.RunningLaws.{calls-made, calls-whole, triggering, triggered-sets, steps-sets, steps-takes, handed-count}
use Rattle.theory_rounds.specs.InTurn.{times}
use Rattle.theory_rounds.proofs.TurnLaws.{past-never, events-fired}
use Rattle.theory_rounds.proofs.RoundsReady.{roomy, accepted-here, after-here, sized-here, operators-few}
use Rattle.theory_rounds.proofs.RunsFire.{refused-cannot}
use Rattle.theory_rounds.proofs.WorkEnds.{idle-still}
use Rattle.theory_firings.specs.SameFirings.{AtRest}

module _ (x : Exp) (h : AdmittedE x) (few : (count_e x).operators ≤ 1024) where
  -- the calls' steps, every set with its trigger
  abbrev pub stepsWith : ℕ → List Call → List Step
  stepsWith capacity calls = map (triggering x capacity) (history x capacity calls)

  abbrev pub Rests : (capacity : ℕ) → 1 ≤ capacity → List Step → Type 0
  Rests capacity room w =
      Pieces.At-rest (net_of (made_of x).operators) push_number take_number source_link credit_link (piece_of x h) (meansOf x h) (evaluation x h) (maker-owed x h few) (places capacity)
      (roomy x h few capacity room) (source-is-apart x h few (places capacity)) (credit-is-apart x h few (places capacity)) w

  pub rests : (capacity : ℕ) (room : 1 ≤ capacity) (calls : List Call) → AtRest x capacity calls → Rests capacity room (stepsWith capacity calls)
  unfolding steps_of
  rests capacity room calls r =
      let w = history x capacity calls in
      record {
        sized = sized-here x h few capacity room w (calls-whole x capacity calls (start_of x));
        accepted = accepted-here x h few capacity room w (calls-made x capacity calls (start_of x));
        quiet = λ a o.
            refused-cannot (firing a) (dec_able (places capacity) (operator_at x a) (standing x capacity calls)) (r.still a)
            (subst (Able (places capacity) (operator_at x a)) (after-here x h few capacity room w) o);
        all-taken =
            omega (
              arith,
              r.all-taken,
              handed-count x capacity w (start_of x),
              steps-takes x capacity w,
              ap length (steps-sets x capacity w) ∙ length-map (sets_of w) (with_trigger (made_of x).triggered),
            );
        idle-still = idle-still x h few capacity room;
      }

  module _ (capacity capacity' : ℕ) (room : 1 ≤ capacity) (room' : 1 ≤ capacity') (calls calls' : List Call) (same : pushed x capacity calls ≡ pushed x capacity' calls')
      (r : AtRest x capacity calls) (r' : AtRest x capacity' calls') where
    same-sets : sets_of (stepsWith capacity calls) ≡ sets_of (stepsWith capacity' calls')
    same-sets =
        steps-sets x capacity (history x capacity calls) ∙ ap (triggered-sets x capacity) same
        ∙ sym (steps-sets x capacity' (history x capacity' calls'))

    pub fired-equally : (i : ℕ) → times i (history x capacity calls) ≡ times i (history x capacity' calls')
    fired-equally i = go (dec_lt i (length (made_of x).operators))
      where
        go : Dec (i < length (made_of x).operators) → times i (history x capacity calls) ≡ times i (history x capacity' calls')
        go (yes l) =
            let np : i ≢ push_number = λ e. omega (arith, operators-few x h few capacity room) in
            let nk : i ≢ take_number = λ e. omega (arith, operators-few x h few capacity room) in
            sym (events-fired x capacity push_number take_number (history x capacity calls) i np nk)
            ∙ Pieces.fired-alike (net_of (made_of x).operators) push_number take_number source_link credit_link (piece_of x h) (meansOf x h) (evaluation x h) (maker-owed x h few) (places capacity)
            (places capacity') (roomy x h few capacity room) (roomy x h few capacity' room') (source-is-apart x h few (places capacity)) (source-is-apart x h few (places capacity'))
            (credit-is-apart x h few (places capacity)) (credit-is-apart x h few (places capacity')) (stepsWith capacity calls) (stepsWith capacity' calls') (rests capacity room calls r)
            (rests capacity' room' calls' r') same-sets i
            ∙ events-fired x capacity' push_number take_number (history x capacity' calls') i np nk
        go (no n) =
            past-never x capacity (history x capacity calls) (start_of x) (calls-made x capacity calls (start_of x)) i (omega arith)
            ∙ sym (past-never x capacity' (history x capacity' calls') (start_of x) (calls-made x capacity' calls' (start_of x)) i (omega arith))

-- EACH OPERATOR FIRES AS OFTEN AS THE SHEET AND THE SETS SAY.
pub same-firings : (s : List ℕ) → Admissible s → (capacity capacity' : ℕ) → 1 ≤ capacity → 1 ≤ capacity' → (calls calls' : List Call)
    → pushed (formula_of s) capacity calls ≡ pushed (formula_of s) capacity' calls' → AtRest (formula_of s) capacity calls → AtRest (formula_of s) capacity' calls'
    → (i : ℕ) → times i (history (formula_of s) capacity calls) ≡ times i (history (formula_of s) capacity' calls')
same-firings s ok = fired-equally (formula_of s) (accepted-admitted s ok) (accepted-operators s ok)
