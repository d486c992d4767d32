use mathlib.Core.Path.{◌≡◌}
use Prim.Native.Nat.{◌≤◌}
use Rattle.names.specs.Names.{below}
use Rattle.eval_words.specs.Inputs.{set_in}
use Rattle.eval_sheet.specs.Inputs.{Holds}
use Rattle.eval_sheet.proofs.row.hold.Given as goal

abbrev pub invariant-loop-k : goal.invariant-loop-k
invariant-loop-k l = (l.i ≡ below (set_in l.m) l.k) × (l.i ≤ l.k) × Holds l.set l.n l.m l.env l.k
