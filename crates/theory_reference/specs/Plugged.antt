-- Operators of a graph (graph, Assembly.antt) as firings of a network: each port gets its link, an absent input a link on which nothing
-- ever waits, and the register of a loop's gate a link of its own beyond all others. `Has net ops`: each of these operators stands somewhere
-- in the net; where, and in which order, matters to no schedule. Assumes nothing.
use Prim.Native.Nat.{ℕ, zero, suc, ◌+◌, ◌≤◌, ◌<◌}
use Rattle.std.specs.Prelude.{◌≡◌, Bool, ◌&&◌, get_or}
use mathlib.Core.List.{List, [], ◌∷◌, ◌++◌}
use Rattle.std.proofs.Math.Option.{Option, none, some}
use native.Mathlib.Omega.{arith}
use Rattle.names.specs.Names.{Names, common, size_from, members_from, later, bit, put}
use Rattle.theory_pieces.specs.Goes.{Net}
use Rattle.network.specs.Net.{Demand}
use Rattle.network.specs.Fill.{Ports, fill}
use Rattle.graph.specs.Assembly.{name_count, Operator, Env, copy_of, copies_for, sharing, first_use, second_use, ring_gate, ring, listed, rank, total}

-- The link of an absent input, and the first of the register links.
abbrev pub nowhere : ℕ
nowhere = 65535

abbrev pub registers : ℕ
registers = 65536

abbrev pub link-of : Option ℕ → ℕ
link-of none = nowhere
link-of (some l) = l

-- The register link of a gate is numbered by its first output.
abbrev pub ports_of : Operator → Ports
ports_of o =
    record {
      in1 = link-of o.in1;
      in2 = link-of o.in2;
      in3 = link-of o.in3;
      out1 = o.out1;
      out2 = o.out2;
      out3 = o.out3;
      register = registers + link-of o.out1;
      held = o.held;
    }

abbrev pub demand_of : Operator → Demand
demand_of o = fill o.kind (ports_of o)

-- What holds of each operator of a list, and of those on a list of names by name.
module _ (P : Operator → Type 0) where
  abbrev pub Each : List Operator → Type 0
  Each [] = Unit {0}
  Each (o ∷ os) = P o × Each os
