use mathlib.Core.Path.{◌≡◌}
use Prim.Native.Nat.{◌≤◌, ◌-◌}
use Rattle.names.specs.Names.{below}
use Rattle.eval_words.specs.Inputs.{set_in}
use Rattle.sheet_drift.specs.Numbers.{InOrder}
use Rattle.sheet_drift.proofs.numbers.in_order.Given as goal

abbrev pub invariant-loop-k : goal.invariant-loop-k
invariant-loop-k l = (l.k ≤ 32) × (l.i ≡ below (set_in l.free) l.k) × (l.i ≤ l.k) × InOrder l.s l.free l.env l.k
