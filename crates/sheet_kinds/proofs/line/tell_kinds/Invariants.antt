use mathlib.Core.Path.{◌≡◌}
use Prim.Native.Nat.{◌≤◌}
use Rattle.names.specs.Names.{below}
use Rattle.eval_words.specs.Inputs.{set_in}
use Rattle.sheet_kinds.specs.Line.{Tells}
use Rattle.sheet_kinds.proofs.line.tell_kinds.Given as goal

abbrev pub invariant-loop-k : goal.invariant-loop-k
invariant-loop-k l = (l.k ≤ 32) × (l.i ≡ below (set_in l.m) l.k) × (l.i ≤ l.k) × Tells l.line l.m l.env l.k
