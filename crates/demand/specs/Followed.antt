-- What it is that calls of the abstract machine (theory_verdicts/specs/Running) follow calls on bytes (`Follows`): the memory stands afterwards with the links as
-- the abstract calls leave them, and the sets pushed and the results taken are the abstract ones in bytes. None, one, and one after the other. Assumes nothing.
use Rattle.std.specs.Prelude.{ℕ, zero, suc, ◌<◌, ◌≡◌, ◌≢◌, length, get_or}
use mathlib.Core.List.{List, [], ◌∷◌, ◌++◌, map, append-nil, append_assoc}
use Rattle.value.specs.declared.Value.{Value}
use Rattle.network.specs.Net.{Token, Links, act, label}
use Rattle.theory_pieces.specs.Tape.{Step, pushing, firing, taking, sets_of}
use Rattle.formula.specs.Tree.{Exp}
use Rattle.formula.specs.declared.Refusal.TheVariants.{Altered}
use Rattle.formula.specs.Refusals.{number_of}
use Rattle.graph.specs.Translation.{made_of}
use Rattle.value_sets.specs.Sets.{set_values}
use Rattle.theory_verdicts.specs.ResultSets.{values_in}
use Rattle.theory_verdicts.specs.Running as Abstract
use Rattle.theory_verdicts.specs.Running.{operator_at, push_of, take_of, after_steps, handed, accept, steps_of, steps_from, demand_of}
use Rattle.demand_view.specs.Stands.{Stands}
use Rattle.demand.specs.MemoryCalls.{Result}
use Rattle.demand.specs.Evaluations.{shown}

-- The tokens of a take as the firmware gets them.
abbrev pub shown_tokens : List Token → Result
shown_tokens ts = shown (values_in ts)

abbrev pub Unaltered : ℕ → Type 0
Unaltered r = r ≢ number_of Altered
