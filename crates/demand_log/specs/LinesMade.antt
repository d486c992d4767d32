-- A log's lines followed one after the other (machine_log/specs/Follow `followed`) are their calls made one after the other (demand/specs/MemoryCalls): followed to
-- the end exactly where all are accepted, with the same memory, sets and results. Assumes a memory in which the machine of a formula stands (demand/specs/Agree).
use Rattle.std.specs.Prelude.{ℕ, suc, ◌≤◌, ◌<◌, ◌≡◌, refl, true, length, get_or}
use mathlib.Core.List.{List, [], ◌∷◌, ◌++◌, append-nil, append_assoc, map-append}
use Rattle.network.specs.Net.{Links}
use Rattle.formula.specs.Tree.{Exp}
use Rattle.graph.specs.Translation.{made_of}
use Rattle.machine_layout.specs.Layout.{results_of}
use Rattle.theory_verdicts.specs.Running.{after_steps, steps_from}
use Rattle.demand_view.specs.Stands.{Stands}
use Rattle.machine_log.specs.declared.lines.Line.{Line}
use Rattle.machine_log.specs.declared.lines.Line.TheVariants.{Malformed}
use Rattle.machine_log.specs.Lines.{listed}
use Rattle.machine_log.specs.Follow.{called, given, Followed, followed}
use Rattle.machine_log.specs.FollowLaws.{followed-next, followed-refused, followed-over}
use Rattle.demand.specs.MemoryCalls.{Call, Result, memory_after, memory_after_all, answers_of, result_of, sets_pushed, results_taken}
use Rattle.demand.specs.Agree.{CallsAgree}

-- Each of these lines is one, and names a set of the list if it is a push.
abbrev pub Listed : ℕ → List Line → Type 0
Listed number lines = (i : ℕ) → i < length lines → listed number (get_or lines i Malformed) ≡ true
