-- A run on the bytes of a standing memory is the run on its links (theory_verdicts/specs/Running: run_steps): the same firings, the same count, and 36 where the
-- links say so. Document 01, "Running": "Run fires the least-numbered able operator, up to a lent number of firings, and gives a count". Assumes a sound
-- graph and a capacity of at least 1.
use Prim.Native.Nat.{ℕ, zero, suc, ◌+◌, ◌≤◌, ◌<◌}
use Rattle.std.specs.Prelude.{◌≡◌, Bool, true, false, ltb}
use mathlib.Core.List.{List, []}
use Rattle.std.proofs.Math.Option.{Option, none, some}
use native.Mathlib.Omega.{arith}
use borrow.Author.Tests.{lt-ltb, le-ltb}
use Rattle.value.specs.Operators.{pick}
use Rattle.network.specs.Net.{Links, Able, act}
use Rattle.theory_pieces.specs.Tape.{Step, firing}
use Rattle.formula.specs.Tree.{Exp}
use Rattle.graph.specs.Translation.{made_of}
use Rattle.machine_layout.specs.Layout.{links_at, size_of}
use Rattle.machine_firing.specs.Fire.{able_at, fired_at}
use Rattle.machine_runs.specs.Run.{least_from, first_from, least, lowest_from, Ran, ran, runs, runs_from, still_at, still_from}
use Rattle.machine_runs.specs.RunLaws.{least-none}
use Rattle.theory_verdicts.specs.Running.{places, dec_able, operator_at, fires, accept, after_steps, least_able, onward, run_steps, steps_of}
use Rattle.theory_verdicts.specs.Running.{least_from as leastAbleFrom, pick as choose}

-- The operator found, or the number past the last.
abbrev pub numbered : Option ℕ → ℕ → ℕ
numbered none past = past
numbered (some a) past = a
