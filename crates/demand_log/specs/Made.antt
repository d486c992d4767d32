-- One line of a log on a machine: its call in demand 3's list (demand/specs/MemoryCalls `done`), lent the whole memory, is the call that following the line makes
-- (machine_log/specs/Follow `called`), whatever the memory holds. Assumes nothing.
use Rattle.std.specs.Prelude.{ℕ, ◌≤◌, ◌≡◌, refl, Bool, true, false, eqb, ltb, drop, take as first_of}
use mathlib.Core.List.{List, [], ◌∷◌, ◌++◌, append-nil, flatten}
use Rattle.std.proofs.Math.ListN.{length}
use Rattle.machine_layout.specs.Layout.{links_at, operators_of, results_of, untaken_at, untaken_of}
use Rattle.machine_firing.specs.Fire.{able_at}
use Rattle.machine_valid.specs.Below.{all_below}
use Rattle.machine_valid.specs.Figures.{valid-figures}
use Rattle.machine_calls.specs.Calls.{Outcome, Handed, refusal, size_in, standing, pushed, fired, result_ready, emptied, taken_memory, taken}
use Rattle.machine_calls.specs.CallLaws.{standing-good, emptied-keeps, pushed-length, fired-refused, fired-absent, fired-idle, fired-accepted, taken_refused, taken_none, taken-empty, taken-accepted}
use Rattle.machine_rounds.specs.Keeps.{fired-keeps}
use Rattle.machine_log.specs.declared.lines.Line.{Line}
use Rattle.machine_log.specs.declared.lines.Line.TheVariants.{Push, Fire, Take, Malformed}
use Rattle.machine_log.specs.Lines.{listed}
use Rattle.machine_log.specs.Follow.{room, called, given}
use Rattle.machine_log.specs.Steps.{given-long}
use Rattle.demand.specs.MemoryCalls.{Call, push, fire, take, Result, result, accepted, answer_of, memory_after, set_of, result_of}
use Rattle.demand_log.specs.LogCalls.{set_of_line, AllWide, bytes_of}

-- ---- a line and its call
pub record Made (set : ℕ → List ℕ) (l : Line) (c : Call) (m : List ℕ) : Type 0 where
  pub answered : (answer_of c m).refusal ≡ (called set l m).answer.refusal
  pub memory : memory_after c m ≡ (called set l m).mem
  pub kept : length (called set l m).mem ≡ length m
  pub pushes : (called set l m).answer.refusal ≡ 0 → set_of c m ≡ set_of_line set l
  pub hands : (called set l m).answer.refusal ≡ 0 → bytes_of (result_of c m) ≡ given l (called set l m)
  pub wide : AllWide (results_of m) (result_of c m)
