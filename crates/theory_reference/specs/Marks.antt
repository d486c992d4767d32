-- The start: the register of each gate of a loop holds the mark ("first firing"), everything else is empty. The load of these marks is read off
-- the list of operators; it lies on register links of the graph's own, and every gate of a loop has its mark in it.
use Prim.Native.Nat.{ℕ, zero, suc, ◌+◌, ◌≤◌, ◌<◌}
use Rattle.std.specs.Prelude.{◌≡◌, ◌⊎◌, Bool, get_or, drop}
use Rattle.std.proofs.Math.Bool.{true, false}
use mathlib.Core.List.{List, [], ◌∷◌, ◌++◌}
use Rattle.std.proofs.Math.Option.{some}
use Rattle.names.specs.Names.{Names, common, without}
use Rattle.network.specs.Net.{mark, Links}
use Rattle.network.specs.Fill.{remembering}
use Rattle.theory_pieces.specs.Load.{Load, set_link, put, On}
use Rattle.graph.specs.Assembly.{Gate, const, oper, T, F, M, E, IC, Graph, wire, nothing, beside, bind, gate, loop, Env, member_of, named, spread, rank, total, free, links_of, outputs, operators_of, Operator, copies_for, sharing, shared_links, first_use, second_use, gate_of, gate_outputs, chain, chain_ends, chain_links, ring_gate, ring, listed}
use Rattle.graph.specs.Fit.{Fit}
use Rattle.theory_reference.specs.Plugged.{registers, link-of}

abbrev pub register_of : Operator → ℕ
register_of o = registers + link-of o.out1

abbrev pub with-mark : Bool → ℕ → Load → Load
with-mark true r σ = (r, some mark) ∷ σ
with-mark false r σ = σ

unfoldable pub marks : List Operator → Load
marks [] = []
marks (o ∷ os) = with-mark (remembering o.kind) (register_of o) (marks os)

-- An operator that remembers has its register in a set of links.
abbrev pub Remembers-in : (ℕ → Type 0) → Operator → Type 0
Remembers-in D o = remembering o.kind ≡ true → D (register_of o)
