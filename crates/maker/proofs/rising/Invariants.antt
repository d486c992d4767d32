use Prim.Native.Nat.{◌-◌, ◌≤◌}
use mathlib.Core.Path.{◌≡◌}
use mathlib.Core.List.{◌++◌}
use lib.ListN.{length, replicate}
use Rattle.graph.specs.Assembly.{up_from}
use Rattle.maker.proofs.rising.Given as goal

abbrev pub invariant-loop-i : goal.invariant-loop-i
invariant-loop-i l = (l.i ≤ l.k) × (l.k ≤ 32) × (length l.links ≡ 32) × (l.links ≡ up_from 0 l.i ++ replicate (32 - l.i) 65535)
