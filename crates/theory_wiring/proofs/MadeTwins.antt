-- The made graph of an admitted formula (MadeGraph.antt) with a twin of each operator: its operators are placed, own events commute with those of others, and
-- with any meaning that is served with late twins its bench holds: what theory_pieces/specs/Alone asks of a graph that can be cut, but for the meaning.
-- Assumes what MadeGraph.antt assumes, and that T lies past all operators, push and take.
use Rattle.std.specs.Prelude.{ℕ, ◌≤◌, ◌<◌, ◌≡◌, length}
use Rattle.std.proofs.Common.{arith}
use Rattle.theory_schedule.proofs.Twins.{Part-diamond}
use Rattle.names.specs.Names.{size}
use Rattle.formula.specs.Tree.{Exp}
use Rattle.formula.specs.Free.{free_e}
use Rattle.formula.specs.Count.{count_e}
use Rattle.formula.specs.Admitted.{AdmittedE}
use Rattle.network.specs.Net.{Demand, halt, Links, Able}
use Rattle.network.proofs.Commute.{enabled, next, output}
use Rattle.network.proofs.Poisoned.{plain, twinned}
use Rattle.network.proofs.Ends.{machine}
use Rattle.theory_pieces.specs.Piece.{Piece}
use Rattle.theory_pieces.proofs.Piece as Pieces
use Rattle.theory_pieces.proofs.Sets.{Bench}
use Rattle.theory_pieces.proofs.LateNets.{late-net}
use Rattle.graph.specs.Assembly.{operators_of}
use Rattle.graph.specs.Yields.{Values, Answer}
use Rattle.graph.specs.Translation.{graph_e, port_of, made_of}
use Rattle.theory_reference.proofs.Plan.{Serves}
use Rattle.theory_reference.specs.Plugged.{Each}
use Rattle.theory_reference.specs.GraphLayout.{plan_of}
use Rattle.theory_reference.specs.Bystanders.{Unused}
use Rattle.theory_reference.proofs.Placed.{Placed}
use Rattle.theory_reference.proofs.WholeGraph.{whole, Ends-apart, whole-serves}
use Rattle.theory_reference.specs.WholeGraph.{from-inputs}
use Rattle.theory_reference.proofs.GraphBench.{ends-apart, graph-bench}
use Rattle.theory_yields.proofs.FitGraphs.{fit-E}
use Rattle.theory_wiring.specs.Machine.{net_of}
use Rattle.theory_wiring.proofs.Twins.{all_placed, twins-unused, own-operator, twin-push-halts, twin-take-halts, own-push, own-take, part}
use Rattle.theory_wiring.proofs.FormulaCounts.{made-operators}
use Rattle.theory_wiring.proofs.MadeGraph.{made-envs, Spare, room, Numbers, ins, made_ends}

module _ (x : Exp) (h : AdmittedE x) (few : (count_e x).operators ≤ 1024) (T : ℕ) (large : 1024 ≤ T) where
  abbrev n : ℕ
  n = size (free_e x)

  abbrev pub twins : ℕ → Demand
  twins = twinned (net_of (made_of x).operators) T

  abbrev pub own : ℕ → ℕ
  own = plain (net_of (made_of x).operators) T

  many : length (made_of x).operators ≤ T
  many = omega (arith, made-operators x h)

  pos : 0 < T
  pos = omega arith

  pub made-placed : Each (Placed twins own) (operators_of (graph_e x) (size (free_e x)) (port_of x))
  unfolding made_of
  made-placed = all_placed (graph_e x) n (port_of x) (fit-E x h) (made-envs x h) (room x h few) T many pos

  pub made-unused : (l : ℕ) → Spare x h l → Unused twins l
  unfolding made_of
  made-unused = twins-unused (graph_e x) n (port_of x) (fit-E x h) (made-envs x h) (room x h few) T many pos

  pub made-own : (cap : ℕ → ℕ) (a : ℕ) (q : Links) → Able cap (net_of (made_of x).operators a) q → (twins a ≡ net_of (made_of x).operators a) × (own a ≡ a)
  unfolding made_of
  made-own = own-operator (graph_e x) n (port_of x) (fit-E x h) (made-envs x h) (room x h few) T many pos

  module _ (push take source credit : ℕ) (N : Numbers x h few push take source credit) (push-low : push < T) (take-low : take < T) where
    pub made-push-halts : twins push ≡ halt
    unfolding made_of
    made-push-halts =
        twin-push-halts (graph_e x) n (port_of x) (fit-E x h) (made-envs x h) (room x h few) T many pos push take source credit
        (ins x h few push take source credit N) (made_ends x h few push take source credit N) push-low take-low

    pub made-take-halts : twins take ≡ halt
    unfolding made_of
    made-take-halts =
        twin-take-halts (graph_e x) n (port_of x) (fit-E x h) (made-envs x h) (room x h few) T many pos push take source credit
        (ins x h few push take source credit N) (made_ends x h few push take source credit N) push-low take-low

    pub made-push-own : own push ≡ push
    unfolding made_of
    made-push-own =
        own-push (graph_e x) n (port_of x) (fit-E x h) (made-envs x h) (room x h few) T many pos push take source credit
        (ins x h few push take source credit N) (made_ends x h few push take source credit N) push-low take-low

    pub made-take-own : own take ≡ take
    unfolding made_of
    made-take-own =
        own-take (graph_e x) n (port_of x) (fit-E x h) (made-envs x h) (room x h few) T many pos push take source credit
        (ins x h few push take source credit N) (made_ends x h few push take source credit N) push-low take-low

    -- The piece of the schedule lemma.
    abbrev piece : Piece
    piece = whole (graph_e x) n (port_of x) source credit

    abbrev cut-machine : ℕ → Demand
    cut-machine = machine twins push take source credit piece.ins piece.outs

    pub made-part : (cap : ℕ → ℕ) → Part-diamond own (enabled cut-machine cap) (next cut-machine cap) (output cut-machine cap)
    unfolding made_of
    made-part =
        part (graph_e x) n (port_of x) (fit-E x h) (made-envs x h) (room x h few) T many pos push take source credit
        (ins x h few push take source credit N) (made_ends x h few push take source credit N) push-low take-low

    apart : Ends-apart (graph_e x) n (port_of x) source credit
    unfolding made_of
    apart =
        ends-apart (graph_e x) (fit-E x h) n (port_of x) (made-envs x h) (room x h few) source credit N.spare-source N.spare-credit N.source-not-credit

    -- What is served in the net of references with late twins is so on the bench.
    pub cut-bench : (k : ℕ) (Y : Values → ℕ → Answer → Type 0) → Serves (late-net twins own k (λ a. ⊥)) (plan_of (graph_e x) (size (free_e x)) (port_of x)) Y →
        Bench twins push take source credit piece (from-inputs (graph_e x) n (port_of x) source credit Y)
        × Pieces.Serves (late-net twins own k (λ a. ⊥)) piece (from-inputs (graph_e x) n (port_of x) source credit Y)
    cut-bench k Y S =
        let unused-source = made-unused source N.spare-source in
        let unused-credit = made-unused credit N.spare-credit in (
          graph-bench (graph_e x) (fit-E x h) n (port_of x) (made-envs x h) (room x h few) source credit apart (late-net twins own k (λ a. ⊥)) push take Y S
              unused-source unused-credit made-push-halts made-take-halts N.push-not-take,
          whole-serves (graph_e x) n (port_of x) source credit (fit-E x h) (made-envs x h) (room x h few) apart (late-net twins own k (λ a. ⊥)) Y S unused-source unused-credit,
        )
