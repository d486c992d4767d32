-- "In a passed sheet, given inputs of their kinds or errs, no err comes from a wrong kind or a test that is neither truth nor err" (document 02, Job 6), ON REAL
-- MEMORY: from an accepted start on, after every list of pushes, trays, firings, runs and takes, refused calls included, every token that waits in the memory before
-- an operator is of the kind that the operator wants there or an err, every one before a gate's control a truth or err; so no firing, of any order, computes on a
-- wrong kind, also for sets that never end. The two operands of an operator share one kind k, told by sheet and line alone, for every capacity, memory and list of
-- calls; at gates k means nothing. And every result taken is of its kinds, place by place, or err. Assumes an accepted start and nothing else: push refuses other
-- sets with 12.
use Rattle.std.specs.Prelude.{ℕ, zero, suc, ◌+◌, ◌*◌, ◌≤◌, ◌<◌, ◌≡◌, refl, Bool, true, false, List, [], ◌∷◌, ◌++◌, map, length, get_or}
use Rattle.std.proofs.Math.Option.{Option, some, none}
use Rattle.value.specs.declared.Value.{Value}
use Rattle.value.specs.declared.ValueKind.{ValueKind}
use Rattle.value.specs.declared.ValueKind.TheVariants.{Truth as truth-kind}
use Rattle.value.specs.Operators.{pick}
use Rattle.value.specs.Bytes.{word_of, word_at}
use Rattle.value.specs.Kinds.{suits}
use Rattle.network.specs.Values.{one-operand}
use Rattle.network.specs.Rules.{Kind, constant, copy, operator, T-gate, F-gate, M-gate, E-gate, IC-gate, FM-gate, FS-gate}
use Rattle.network.specs.Net.{Token, val, mark, Links}
use Rattle.network.specs.Fill.{value-of}
use Rattle.formula.specs.Tree.{Exp, formula_of}
use Rattle.formula.specs.Free.{free_e}
use Rattle.formula.specs.Faults.{input_kinds, letters_of}
use Rattle.formula.specs.Kinds.{kinds_e}
use Rattle.formula.specs.Acceptance.{Admissible, Kinded}
use Rattle.machine_queue.specs.Stretch.{waiting}
use Rattle.machine_layout.specs.Layout.{links_of, port_of, size_of}
use Rattle.machine_firing.specs.LinkLaws.{link_part}
use Rattle.graph.specs.Assembly.{Operator}
use Rattle.graph.specs.Translation.{made_of}
use Rattle.theory_kinds.specs.KindLaws.{Suited-list}
use Rattle.theory_reference.specs.Plugged.{ports_of, link-of, Each}
use Rattle.theory_verdicts.specs.ResultSets.{values_in}
use Rattle.theory_verdicts.specs.Running as Abstract
use Rattle.theory_verdicts.specs.Running.{start_of}
use Rattle.theory_claims.specs.Keeps.{Waiting, Takes, Wanted}
use Rattle.theory_claims.specs.Runs.{Tokens-of-kinds, Results-of-kinds, Of-one-kind}
use Rattle.theory_claims.specs.Sheets.{All-suit}
use Rattle.demand_view.specs.Sound.{Ith}
use Rattle.demand_view.specs.Stands.{Waits, Recorded, Stands}
use Rattle.machine_start.specs.Start.{started}
use Rattle.machine_start.specs.StartLaws.{AcceptedStart, accepted-start}
use Rattle.demand.specs.MemoryCalls.{Call, Result, result, memory_after_all, sets_pushed, results_taken}
use Rattle.demand.specs.Evaluations.{shown}
use Rattle.demand.specs.Followed.{shown_tokens}

-- ---- what is claimed
-- The kind that an operator, on operands of kind k, or a gate wants on each of its inputs 0, 1, 2; none where it looks at no kind. A copy, a constant
-- and a gate's data take every kind.
abbrev pub wanted_at : Kind → ValueKind → ℕ → Option ValueKind
wanted_at (operator code) k zero = some k
wanted_at (operator code) k (suc zero) = pick (one-operand code) none (some k)
wanted_at (operator code) k (suc (suc p)) = none
wanted_at constant k p = none
wanted_at copy k p = none
wanted_at IC-gate k zero = some truth-kind
wanted_at IC-gate k (suc zero) = some truth-kind
wanted_at IC-gate k (suc (suc zero)) = some truth-kind
wanted_at IC-gate k (suc (suc (suc p))) = none
wanted_at T-gate k zero = some truth-kind
wanted_at T-gate k (suc p) = none
wanted_at F-gate k zero = some truth-kind
wanted_at F-gate k (suc p) = none
wanted_at M-gate k zero = some truth-kind
wanted_at M-gate k (suc p) = none
wanted_at E-gate k zero = some truth-kind
wanted_at E-gate k (suc p) = none
wanted_at FM-gate k zero = some truth-kind
wanted_at FM-gate k (suc p) = none
wanted_at FS-gate k zero = some truth-kind
wanted_at FS-gate k (suc p) = none

-- A link's stretch in which every waiting token is the word of a value of the kind, or of an err.
pub record WaitsOf (k : ValueKind) (s : List ℕ) : Type 0 where
  pub each : (j : ℕ) → j < waiting s → (v : Value) × (word_at s (5 * j + 1) ≡ word_of v) × (suits k v ≡ true)

-- Operator i in a memory at a capacity, on operands of kind k: its record is o's, and no token of a wrong kind waits before it.
pub record Rightly (m : List ℕ) (capacity i : ℕ) (o : Operator) (k : ValueKind) : Type 0 where
  pub recorded : Recorded m i o
  pub inputs : (p : ℕ) (j : ValueKind) → wanted_at o.kind k p ≡ some j → port_of m i p < links_of m → WaitsOf j (link_part m (size_of capacity) (port_of m i p))

-- A result whose values are of these kinds, place by place, or errs.
pub record OfKinds (ks : List ValueKind) (r : Result) : Type 0 where
  pub values : List Value
  pub bytes : r ≡ shown values
  pub suit : Suited-list values ks

-- What waits on input p of an operator.
abbrev pub link_in : Operator → ℕ → ℕ
link_in o zero = link-of o.in1
link_in o (suc zero) = link-of o.in2
link_in o (suc (suc p)) = link-of o.in3
