-- DEMAND 2 ON REAL MEMORY: "each firing does to the links just what his history rules say for the next tokens". After every list of calls from an accepted start,
-- whatever operator an accepted fire names has fired by Brock's rule (`fire-by-history`), and a run is as many such firings, one after another, as it counts
-- (`run-by-history`), as is a run by rounds (`rounds-by-history`). What a firing by his rule is: demand_view/specs/FiredHistory `Fires-in-memory`. Assumes an
-- accepted start and nothing else.
use Prim.Native.Nat.{ℕ, zero, suc, ◌+◌, ◌≤◌, ◌<◌}
use Rattle.std.specs.Prelude.{◌≡◌, true, length, drop, take as first_of}
use mathlib.Core.List.{List, ◌++◌}
use Rattle.network.specs.Net.{Links}
use Rattle.formula.specs.Faults.{letters_of}
use Rattle.formula.specs.Tree.{formula_of}
use Rattle.formula.specs.declared.Refusal.TheVariants.{Memory}
use Rattle.formula.specs.Refusals.{number_of}
use Rattle.graph.specs.Assembly.{Operator}
use Rattle.graph.specs.Translation.{Made, made_of}
use Rattle.machine_layout.specs.Layout.{operators_of, register_at, size_of, need}
use Rattle.machine_firing.specs.Fire.{able_at, fired_at}
use Rattle.machine_calls.specs.Calls.{size_in, standing, fired, ran}
use Rattle.machine_calls.specs.CallLaws.{fired-refused, ran-refused}
use Rattle.machine_rounds.specs.Rounds.{ran_rounds}
use Rattle.machine_rounds.specs.RoundLaws.{rounds-refused}
use Rattle.machine_rounds.specs.Turns.{Turns, RoundsMade}
use Rattle.machine_rounds.specs.Counted.{rounds-count}
use Rattle.demand_view.specs.Sound.{Ith, Sound}
use Rattle.demand_view.specs.Stands.{Stands}
use Rattle.demand_view.specs.FiredHistory.{Fires-in-memory}
use Rattle.refusals.specs.RunCount.{Firings}
use Rattle.machine_start.specs.Start.{started}
use Rattle.machine_start.specs.StartLaws.{AcceptedStart, accepted-start}

-- ---- firings of any order
-- So many firings lead from m to m', each of an operator that is able then.
abbrev pub AnyFirings : ℕ → ℕ → ℕ → List ℕ → List ℕ → Type 0
AnyFirings size n zero m m' = m' ≡ m
AnyFirings size n (suc k) m m' = (i : ℕ) × (i < n) × (able_at m size i ≡ true) × AnyFirings size n k (fired_at m size i) m'
