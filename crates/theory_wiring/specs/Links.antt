-- The links that operators take from and put onto (graph/specs/Assembly), with how often each link stands among them: for the copies of
-- shared names, the chain of copies of iter?, the gates of a loop, and a gate. Assumes nothing.
use Prim.Native.Nat.{ℕ, zero, suc, ◌+◌, ◌*◌, ◌≤◌}
use Rattle.std.specs.Prelude.{◌≡◌, Bool, not, length, eqb}
use mathlib.Core.List.{List, [], ◌∷◌, ◌++◌}
use Rattle.std.proofs.Math.Option.{Option, none, some}
use native.Mathlib.Omega.{arith}
use Rattle.names.specs.Names.{Names, common, without, bit}
use Rattle.graph.specs.Assembly.{Gate, const, oper, T, F, M, E, IC, gate_outputs, Env, Operator, nth, gate_of, copies_for, chain, chain_ends, ring_gate, ring, up_from, name_count, total, listed}

abbrev pub optional : Option ℕ → List ℕ
optional none = []
optional (some l) = l ∷ []

-- The links of an operator's inputs, and of its outputs.
abbrev pub input_links : Operator → List ℕ
input_links o = optional o.in1 ++ (optional o.in2 ++ optional o.in3)

abbrev pub output_links : Operator → List ℕ
output_links o = optional o.out1 ++ (optional o.out2 ++ optional o.out3)

-- All links that a list of operators takes from, each as often as it is taken from; and all that it puts onto.
unfoldable pub taken : List Operator → List ℕ
taken [] = []
taken (o ∷ os) = input_links o ++ taken os

unfoldable pub emitted : List Operator → List ℕ
emitted [] = []
emitted (o ∷ os) = output_links o ++ emitted os
