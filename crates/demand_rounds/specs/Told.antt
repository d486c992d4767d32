-- That the operators told of a call (InTurn `fired_by`) are those that it fired: each is able at its turn, firing them one after another leads from the lent bytes before
-- to those after, and a run and a run by rounds answer their number. For every memory, refused calls included; assumes nothing.
use Prim.Native.Nat.{ℕ, zero, suc, ◌+◌, ◌≤◌, ◌<◌}
use Rattle.std.specs.Prelude.{◌≡◌, Bool, cond, eqb, ltb, length, take as first_of}
use Rattle.std.proofs.Math.Bool.{true}
use mathlib.Core.List.{List, [], ◌∷◌, ◌++◌}
use Rattle.value.specs.Operators.{pick}
use Rattle.formula.specs.declared.Refusal.TheVariants.{Unfinished}
use Rattle.formula.specs.Refusals.{number_of}
use Rattle.machine_layout.specs.Layout.{operators_of}
use Rattle.machine_firing.specs.Fire.{able_at, fired_at}
use Rattle.machine_runs.specs.Run.{least_from, first_from, lowest_from, Ran, ran as ran_to, runs, runs_from, still_at}
use Rattle.machine_calls.specs.Calls.{Outcome, outcome, answers, size_in, standing, ended, ran}
use Rattle.machine_calls.specs.CallLaws.{ran-refused, ran-ended}
use Rattle.machine_rounds.specs.Rounds.{Swept, sweep, round, Rounded, rounded, rounds_from, ran_rounds}
use Rattle.machine_rounds.specs.Rounds.{outcome as rounds-outcome, answers as rounds-answers, ended as rounds-ended}
use Rattle.demand.specs.MemoryCalls.{run, by_rounds, answer_of}

module _ (size n : ℕ) where
  -- These operators fired one after another.
  abbrev pub firedInTurn : List ℕ → List ℕ → List ℕ
  firedInTurn [] m = m
  firedInTurn (i ∷ fires) m = firedInTurn fires (fired_at m size i)

  -- Each is one of the n operators and able when its turn comes.
  abbrev pub AbleInTurn : List ℕ → List ℕ → Type 0
  AbleInTurn [] m = Unit {0}
  AbleInTurn (i ∷ fires) m = (i < n) × (able_at m size i ≡ true) × AbleInTurn fires (fired_at m size i)

  -- These firings, and no others, lead from m to m', and so many are counted, c before them.
  pub record Told (fires m m' : List ℕ) (c counted : ℕ) : Type 0 where
    pub able : AbleInTurn fires m
    pub leads : m' ≡ firedInTurn fires m
    pub counts : counted ≡ c + length fires
