-- What the schedule lemma gives to the machine over a fit graph: the bench of theory_pieces/specs/Sets, from which both halves of demand 3 follow
-- (theory_pieces/specs/Alone, Made, Calls), and the load that start leaves. Assumes the schedule lemma for some meaning of the graph, that push and take are no
-- operators of the net, and that source and credit link lie beyond the graph's links and registers and are used by no operator (crate theory_wiring).
use Rattle.std.specs.Prelude.{ℕ, ◌+◌, ◌≤◌, ◌≡◌, ◌≢◌}
use Rattle.std.proofs.Common.{inl, inr, arith}
use Rattle.std.proofs.Math.Option.{none, some}
use Rattle.network.specs.Net.{Links, halt}
use Rattle.theory_pieces.specs.Load.{Load, On}
use Rattle.theory_pieces.specs.Goes.{Net, any-list}
use Rattle.theory_pieces.proofs.Sets.{Bench}
use Rattle.graph.specs.Assembly.{Graph, Env, free, links_of, operators_of}
use Rattle.graph.specs.Yields.{Values, Answer}
use Rattle.graph.specs.Fit.{Fit}
use Rattle.theory_reference.specs.Plugged.{nowhere, registers}
use Rattle.theory_reference.specs.Plan.{Between, Plan, Zone, Register, Envs}
use Rattle.theory_reference.proofs.Plan.{Leads, Serves}
use Rattle.theory_reference.specs.Bystanders.{Unused}
use Rattle.theory_reference.specs.Marks.{marks}
use Rattle.theory_reference.proofs.Marks.{marks-hold, marks-in, each-marked, registers-own, rings-marked}
use Rattle.theory_reference.proofs.WholeGraph.{plan, whole, Idle-load, Ends-apart, fresh-idle, whole-neat, whole-serves, inputs-differ, results-differ, source-off-region, credit-off-region}
use Rattle.theory_reference.specs.WholeGraph.{from-inputs, bare-state}

-- A schedule in a net is one where nothing is asked of the lists of firings.
any-leads : (net : Net) (P : Plan) (s : Links) (c : ℕ) (a : Answer) → Leads net P s c a → Leads (any-list net.at) P s c a
any-leads net P s c none t = record { w = t.w; runs = t.runs; many = t.many; fine = tt }
any-leads net P s c (some vs) (s', t, X) = (s', record { w = t.w; runs = t.runs; ends = t.ends; many = t.many; fine = tt }, X)

any-serves : (net : Net) (P : Plan) (M : Values → ℕ → Answer → Type 0) → Serves net P M → Serves (any-list net.at) P M
any-serves net P M S ρ c a y s B = any-leads net P s c a (S ρ c a y s B)

module _ (g : Graph) (ft : Fit g) (n : ℕ) (env : Env) (E : Envs (free g) env n) (fits : n + links_of g ≤ nowhere) (source credit : ℕ) where
  -- A link beyond the graph's links and registers.
  abbrev pub Beyond : ℕ → Type 0
  Beyond l = (n + links_of g ≤ l) × (Between registers (n + links_of g) l → ⊥)

  beyond-zone : (l : ℕ) → Beyond l → Zone (plan g n env source credit) l → ⊥
  beyond-zone l b (inl o) = omega arith
  beyond-zone l b (inr p) = let q = E.below p.0 p.1 in let z = p.2 in omega arith

  beyond-register : (l : ℕ) → Beyond l → Register (plan g n env source credit) l → ⊥
  beyond-register l b r = b.1 (omega arith, omega arith)

  pub ends-apart : Beyond source → Beyond credit → source ≢ credit → Ends-apart g n env source credit
  ends-apart s c ne =
      record {
        source-off = beyond-zone source s;
        source-no-register = beyond-register source s;
        credit-off = beyond-zone credit c;
        credit-no-register = beyond-register credit c;
        source-not-credit = ne;
      }

  -- Every register of a loop's gate marked, everything else empty.
  abbrev pub fresh : Load
  fresh = marks (operators_of g n env)

  module _ (A : Ends-apart g n env source credit) where
    pub fresh-is-idle : Idle-load g n env source credit fresh
    fresh-is-idle =
        fresh-idle g n env source credit ft E fits A fresh (marks-in (Between (registers + n) (links_of g)) (operators_of g n env) (registers-own g ft n env))
        (λ c r k. marks-hold (operators_of g n env) bare-state r (rings-marked (λ l. On l fresh) g ft n env (each-marked (λ l. On l fresh) (operators_of g n env) (λ l o. o)) c r k))

    pub graph-bench : (net : Net) (push take : ℕ) (M : Values → ℕ → Answer → Type 0) → Serves net (plan g n env source credit) M → Unused net.at source → Unused net.at credit →
        net.at push ≡ halt → net.at take ≡ halt → push ≢ take → Bench net.at push take source credit (whole g n env source credit) (from-inputs g n env source credit M)
    graph-bench net push take M S us uc np nt ne =
        record {
          serves = whole-serves g n env source credit ft E fits A (any-list net.at) M (any-serves net (plan g n env source credit) M S) us uc;
          neat = whole-neat g n env source credit;
          push-apart = np;
          take-apart = nt;
          push-not-take = ne;
          source-off = source-off-region g n env source credit ft E fits A;
          credit-off = credit-off-region g n env source credit ft E fits A;
          source-not-credit = A.source-not-credit;
          ins-differ = inputs-differ g n env source credit ft E fits A;
          outs-differ = results-differ g n env source credit ft E fits A;
        }
