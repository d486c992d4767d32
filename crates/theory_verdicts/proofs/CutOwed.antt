-- Laws of specs/CutOwed.antt, and what only they need.
use Rattle.std.specs.Prelude.{ℕ, ◌≤◌, ◌⊎◌, List, length, take}
use Rattle.std.proofs.Common.{sym, ap, subst, ◌∙◌, inl, inr, arith}
use Rattle.std.proofs.Math.Option.{some}
use Rattle.value.specs.declared.Value.{Value}
use Rattle.names.specs.Names.{size}
use Rattle.formula.specs.Tree.{Exp}
use Rattle.formula.specs.Free.{free_e, inputs_of}
use Rattle.formula.specs.Count.{count_e}
use Rattle.formula.specs.Admitted.{AdmittedE}
use Rattle.meaning.specs.Meaning.{inputs_hold}
use Rattle.network.specs.Net.{Demand}
use Rattle.theory_pieces.specs.Piece.{some_of, Fits}
use Rattle.theory_pieces.specs.Goes.{Net}
use Rattle.theory_pieces.proofs.LateNets.{late-net}
use Rattle.theory_pieces.proofs.Alone.{Cut}
use Rattle.graph.specs.Yields.{Values, Answer, Yields, YieldsIn}
use Rattle.graph.specs.Assembly.{operators_of}
use Rattle.graph.specs.Translation.{graph_e, port_of, made_of}
use Rattle.theory_reference.specs.Plan.{Plan}
use Rattle.theory_reference.proofs.Plan.{Serves}
use Rattle.theory_reference.specs.GraphLayout.{plan_of}
use Rattle.theory_reference.proofs.Schedule.{serves}
use Rattle.theory_reference.proofs.Placed.{placed-has}
use Rattle.theory_reference.proofs.CutSchedule.{cut-serves}
use Rattle.theory_reference.specs.WholeGraph.{from-inputs}
use Rattle.theory_yields.proofs.FitGraphs.{fit-E}
use Rattle.theory_yields.proofs.Cuts.{ends-E}
use Rattle.theory_yields.proofs.CutGraphs.{cuttable-E}
use Rattle.theory_wiring.specs.Machine.{net_of}
use Rattle.theory_wiring.proofs.MadeGraph.{made-envs, room, result_count}
use Rattle.theory_wiring.proofs.MadeTwins.{twins, own, made-placed, made-own, made-push-own, made-take-own, made-part, cut-bench}
use Rattle.theory_verdicts.proofs.Owed.{length-fits, some-present, piece_of, evaluation, results-are, ρ, held, result_fits, numbers}
use Rattle.theory_verdicts.specs.Owed.{push_number, take_number, source_link, credit_link}
use Rattle.theory_verdicts.specs.CutOwed.{twin_offset}

large : 1024 ≤ twin_offset
large = omega arith

module _ (x : Exp) (h : AdmittedE x) (few : (count_e x).operators ≤ 1024) (N : ℕ) (pos : 1 ≤ N) where
  abbrev twin-net : ℕ → Demand
  twin-net = twins x h few twin_offset large

  abbrev operator-of : ℕ → ℕ
  operator-of = own x h few twin_offset large

  abbrev late : Net
  late = late-net twin-net operator-of N (λ a. ⊥)

  abbrev plan : Plan
  plan = plan_of (graph_e x) (size (free_e x)) (port_of x)

  -- What the graph yields, or yields with loops cut.
  abbrev Either : Values → ℕ → Answer → Type 0
  Either σ c a = Yields (graph_e x) σ c a ⊎ YieldsIn (some N) (graph_e x) σ c a

  either-served : Serves late plan Either
  either-served σ c a (inl y) =
      serves late (graph_e x) (fit-E x h) (size (free_e x)) (port_of x) (made-envs x h) (room x h few)
      (placed-has twin-net operator-of N (λ a. ⊥) (operators_of (graph_e x) (size (free_e x)) (port_of x)) (made-placed x h few twin_offset large)) σ c a y
  either-served σ c a (inr y) =
      cut-serves twin-net operator-of N pos (graph_e x) (fit-E x h) (cuttable-E x h) (size (free_e x)) (port_of x) (made-envs x h) (room x h few) (made-placed x h few twin_offset large) σ c a y

  -- a set cut
  some_result : (v : List Value) (fits : Fits (piece_of x h).ins v) →
      (r : List Value) × Fits (piece_of x h).outs r × ((c : ℕ) × from-inputs (graph_e x) (size (free_e x)) (port_of x) source_link credit_link Either (some_of v) c (some (some_of r)))
  some_result v fits =
      let e = ends-E N x h (inputs_hold (free_e x) (take (length (inputs_of x)) v)) (ρ x h v fits) (held x h v fits) in (
        e.0,
        length-fits (piece_of x h).outs e.0 (e.1 ∙ sym (ap length (results-are x h) ∙ result_count x h)),
        (e.2.0, inr (subst (λ ws. YieldsIn (some N) (graph_e x) (ρ x h v fits) e.2.0 (some ws)) (sym (some-present e.0)) e.2.1)),
      )

  pub cut-owed : Cut (net_of (made_of x).operators) push_number take_number source_link credit_link (piece_of x h) (evaluation x h) N
  cut-owed =
      let b = cut-bench x h few twin_offset large push_number take_number source_link credit_link (numbers x h few) (omega arith) (omega arith) N Either either-served in
      record {
        twins = twin-net;
        plain = operator-of;
        M = from-inputs (graph_e x) (size (free_e x)) (port_of x) source_link credit_link Either;
        bench = b.0;
        late = b.1;
        push-own = made-push-own x h few twin_offset large push_number take_number source_link credit_link (numbers x h few) (omega arith) (omega arith);
        take_own = made-take-own x h few twin_offset large push_number take_number source_link credit_link (numbers x h few) (omega arith) (omega arith);
        own = made-own x h few twin_offset large;
        part = made-part x h few twin_offset large push_number take_number source_link credit_link (numbers x h few) (omega arith) (omega arith);
        ended = λ n v r f e. let o = result_fits x h v f n r e in (o.0, (o.1.0, inl o.1.1));
        cut = some_result;
      }
