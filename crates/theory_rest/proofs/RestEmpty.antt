-- Where a formula has no for, nothing can fire and every pushed set has been taken, every link of its graph is empty (`rested-empty`), on the abstract machine of
-- every accepted sheet. Document 02, Job 12: "when nothing can fire every tag is free or has its whole result", and a tag is free where no token with it is left
-- on any link. With a for it is not so: each gate of a loop that has fired has a false on its control link then.
-- Assumes an admissible sheet and one place a link; that evaluation ends is not assumed, it follows from being at rest.
use Rattle.std.specs.Prelude.{ℕ, ◌+◌, ◌≤◌, ◌<◌, ◌≡◌, true, length}
use Rattle.std.proofs.Common.{sym, ◌∙◌, subst}
use Rattle.std.proofs.Math.Path.{ap}
use mathlib.Core.List.{List, []}
use Rattle.std.proofs.Math.Decide.{dec_lt}
use native.Mathlib.Omega.{arith}
use Rattle.names.specs.Names.{trigger, bit, size}
use Rattle.formula.specs.Tree.{Exp, formula_of}
use Rattle.formula.specs.Free.{free_e, inputs_of}
use Rattle.formula.specs.Count.{count_e}
use Rattle.formula.specs.Admitted.{AdmittedE}
use Rattle.formula.specs.Acceptance.{Admissible}
use Rattle.meaning.specs.Loopless.{Loopless}
use Rattle.network.specs.Net.{Links}
use Rattle.network.specs.Uses.{In}
use Rattle.theory_pieces.specs.Load.{Load, put}
use Rattle.graph.specs.Assembly.{free, listed}
use Rattle.graph.specs.Translation.{graph_e, port_of, made_of}
use Rattle.theory_reference.proofs.NameSets.{listed-only}
use Rattle.theory_reference.proofs.BehindGate.{up_from-in}
use Rattle.theory_reference.proofs.WrittenOut.{in-links}
use Rattle.theory_wiring.specs.Machine.{net_of}
use Rattle.theory_wiring.proofs.FormulaCounts.{made-links-bound}
use Rattle.theory_wiring.specs.MadeGraph.{push_links}
use Rattle.theory_wiring.proofs.MadeGraph.{port-count, whole-inputs}
use Rattle.theory_verdicts.proofs.Admitting.{accepted-admitted, accepted-operators}
use Rattle.theory_verdicts.specs.Owed.{push_number, take_number, source_link, credit_link}
use Rattle.theory_verdicts.proofs.Owed.{piece_of, meansOf, evaluation, source-is-apart, credit-is-apart}
use Rattle.theory_verdicts.proofs.Owed.{owed as maker-owed}
use Rattle.theory_verdicts.specs.Running.{places, Call, history, standing}
use Rattle.theory_rounds.proofs.RoundsReady.{roomy, after-here}
use Rattle.theory_firings.specs.SameFirings.{AtRest}
use Rattle.theory_firings.proofs.SameFirings.{stepsWith, rests}
use Rattle.theory_rest.proofs.IdleAgain.{Stands-idle, idle-again}
use Rattle.theory_rest.proofs.LoopFree.{no-ring, graph-free}

module _ (x : Exp) (h : AdmittedE x) where
  -- The links below the graph's own are those of its free names.
  port-named : (l : ℕ) → l < size (free_e x) → (k : ℕ) × (free (graph_e x) k ≡ true) × (l ≡ port_of x k)
  unfolding made_of
  port-named l low =
      let among : In l (push_links (made_of x)) = up_from-in 0 (length (inputs_of x) + bit (free_e x trigger)) l (omega arith, omega (arith, port-count x)) in
      let found = in-links (listed (free (graph_e x))) (port_of x) l (subst (In l) (sym (whole-inputs x h)) among) in
      (found.0, listed-only (free (graph_e x)) found.0 found.1, found.2)

  -- An idle load has nothing on a link of the graph.
  pub idle-empty : Loopless x → (σ : Load) → (piece_of x h).Idle σ → (l : ℕ) → l < (made_of x).links → put σ (λ m. []) l ≡ []
  unfolding made_of
  idle-empty loopless σ I l below = go (dec_lt l (size (free_e x)))
    where
      go : Dec (l < size (free_e x)) → put σ (λ m. []) l ≡ []
      go (yes low) = let named = port-named l low in ap (put σ (λ m. [])) named.2 ∙ I.calm.laid named.0 named.1
      go (no own) = I.calm.clear l (omega arith, below) (λ c. no-ring (graph_e x) (graph-free x loopless) (size (free_e x)) l c.0 c.1)

  module _ (few : (count_e x).operators ≤ 1024) (capacity : ℕ) (room : 1 ≤ capacity) (calls : List Call) (r : AtRest x capacity calls) where
    idle-stands : Stands-idle (net_of (made_of x).operators) push_number take_number source_link credit_link (piece_of x h) (meansOf x h) (evaluation x h) (maker-owed x h few) (places capacity)
        (roomy x h few capacity room) (source-is-apart x h few (places capacity)) (credit-is-apart x h few (places capacity)) (stepsWith x h few capacity calls)
    idle-stands =
        idle-again (net_of (made_of x).operators) push_number take_number source_link credit_link (piece_of x h) (meansOf x h) (evaluation x h) (maker-owed x h few) (places capacity)
        (roomy x h few capacity room) (source-is-apart x h few (places capacity)) (credit-is-apart x h few (places capacity)) (stepsWith x h few capacity calls)
        (rests x h few capacity room calls r)

    pub empty-when-rested : Loopless x → (l : ℕ) → l < (made_of x).links → standing x capacity calls l ≡ []
    empty-when-rested loopless l below =
        ap (λ (q : Links). q l) (sym (after-here x h few capacity room (history x capacity calls)))
        ∙ idle-stands.agrees l (λ e. omega (arith, made-links-bound x h few))
        ∙ idle-empty loopless idle-stands.idle-load idle-stands.is-idle l below

-- WITHOUT A LOOP, A MACHINE AT REST HAS NO TOKEN ON ANY LINK OF ITS GRAPH.
pub rested-empty : (s : List ℕ) → Admissible s → Loopless (formula_of s) → (capacity : ℕ) → 1 ≤ capacity → (calls : List Call)
    → AtRest (formula_of s) capacity calls → (l : ℕ) → l < (made_of (formula_of s)).links → standing (formula_of s) capacity calls l ≡ []
rested-empty s ok loopless capacity room calls r = empty-when-rested (formula_of s) (accepted-admitted s ok) (accepted-operators s ok) capacity room calls r loopless
