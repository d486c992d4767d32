-- The made graph of an admitted formula (graph/specs/Translation: made_of): its inputs have the links 0, 1, .. and the trigger the next, where it is a
-- free name; its wiring; and that push, take and its operators commute, which is what network/specs/Commute asks. Document 01, "Running": "Push
-- gives one value to each input link, and one trigger if that link exists .. Take removes one value from each result port."
use Rattle.std.specs.Prelude.{ℕ, zero, suc, ◌+◌, ◌≤◌, ◌<◌, ◌≡◌, refl, ◌≢◌, Bool, false, List, [], ◌∷◌, length, eqb}
use native.Mathlib.Omega.{arith}
use Rattle.names.specs.Names.{Names, trigger, one, without, later, bit, put, size, size_from, members_from, below}
use Rattle.formula.specs.Tree.{Exp}
use Rattle.formula.specs.Free.{free_e, inputs_of}
use Rattle.formula.specs.Count.{count_e}
use Rattle.formula.specs.Widths.{width}
use Rattle.formula.specs.Admitted.{AdmittedE}
use Rattle.network.specs.Commute.{Free}
use Rattle.network.specs.Uses.{In}
use Rattle.theory_pieces.specs.Piece.{Piece, Means}
use Rattle.theory_pieces.specs.Sets.{Different}
use Rattle.graph.specs.Assembly.{Env, Operator, free, up_from, rank, total, listed, name_count, links_of, operators_of}
use Rattle.graph.specs.Translation.{graph_e, port_of, Made, made_of}
use Rattle.theory_reference.specs.Plan.{Between, Envs}
use Rattle.theory_reference.specs.Plugged.{nowhere, registers, Each}
use Rattle.theory_reference.specs.WrittenOut.{links-of}
use Rattle.theory_reference.specs.WholeGraph.{inputs}
use Rattle.theory_yields.specs.Naming.{Small}
use Rattle.theory_wiring.specs.Wiring.{inputs_at, outputs_at}
use Rattle.theory_wiring.specs.Ports.{Ported}

-- ---- the wiring of the made graph
-- The links that push puts onto: those of the inputs, and the trigger's where it exists.
abbrev pub push_links : Made → List ℕ
push_links m = up_from 0 (m.inputs + bit m.triggered)

-- Refusal 31 speaks of "a stored figure .. outside its range, or a link named twice by one operator, the inputs or the results".
pub record WellWired (m : Made) : Type 0 where
  pub one-taker : (i j l : ℕ) → In l (inputs_at m.operators i) → In l (inputs_at m.operators j) → i ≡ j
  pub one-putter : (i j l : ℕ) → In l (outputs_at m.operators i) → In l (outputs_at m.operators j) → i ≡ j
  pub inputs-differ : (i : ℕ) → Different (inputs_at m.operators i)
  pub outputs-differ : (i : ℕ) → Different (outputs_at m.operators i)
  pub ports-apart : (i l : ℕ) → In l (inputs_at m.operators i) → In l (outputs_at m.operators i) → ⊥
  pub takes-below : (i l : ℕ) → In l (inputs_at m.operators i) → l < m.links
  pub puts-below : (i l : ℕ) → In l (outputs_at m.operators i) → (m.inputs + bit m.triggered ≤ l) × (l < m.links)
  pub takes-no-result : (i l : ℕ) → In l (inputs_at m.operators i) → In l m.results → ⊥
  pub results-differ : Different m.results
  pub results-below : (l : ℕ) → In l m.results → l < m.links
  pub all-ported : Each Ported m.operators
