-- Demand 3 on the machine of a tag (demand/specs/OnMemory, Alone): calls of the first machine from a memory that its start left at capacity 1 (Plays). Each result is that of its
-- set; a set that was pushed can be read; when nothing can fire, a take is accepted or all is taken, and then no token is left where the sheet has no for. Assumes an accepted start.
use Rattle.std.specs.Prelude.{ℕ, ◌≤◌, ◌<◌, ◌≡◌, ◌⊎◌, get_or}
use mathlib.Core.List.{List, []}
use Rattle.value.specs.declared.Value.{Value}
use Rattle.value_sets.specs.Sets.{set_values}
use Rattle.network.specs.Net.{Token}
use Rattle.formula.specs.declared.Refusal.TheVariants.{NotAble}
use Rattle.formula.specs.Refusals.{number_of}
use Rattle.formula.specs.Tree.{formula_of}
use Rattle.formula.specs.Faults.{letters_of}
use Rattle.graph.specs.Translation.{made_of}
use Rattle.meaning.specs.Evaluate.{evaluation_of}
use Rattle.meaning.specs.Loopless.{Loopless}
use Rattle.theory_verdicts.specs.Running as Abstract
use Rattle.theory_verdicts.specs.Running.{start_of}
use Rattle.theory_firings.specs.SameFirings.{AtRest}
use Rattle.machine_queue.specs.Stretch.{waiting}
use Rattle.machine_layout.specs.Layout.{operators_of, least_size, need}
use Rattle.machine_firing.specs.LinkLaws.{link_part}
use Rattle.machine_calls.specs.Calls.{fired, taken}
use Rattle.machine_start.specs.Start.{started}
use Rattle.machine_start.specs.StartLaws.{AcceptedStart, accepted-start}
use Rattle.demand.specs.MemoryCalls.{Result, result, fire, take, answer_of, done, memory_after_all, sets_pushed, results_taken}
use Rattle.demand.specs.Claim.{Enough, yielded}
use Rattle.demand.specs.Agree.{CallsAgree}

-- "Nothing can fire when each operator would get 34"
abbrev pub Still : List ℕ → Type 0
Still p = (i : ℕ) → i < operators_of p → (fired p i).answer.refusal ≡ number_of NotAble
