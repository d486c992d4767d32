use mathlib.Core.Path.{sym, ◌∙◌, subst, ◌≡◌}
use native.Mathlib.Omega.{arith}
use Prim.Native.Nat.{◌+◌}
use lib.ListN.{take, length-set}
use lib.Seq.{length-take-le}
use Rattle.formula.specs.Sheet.{named_in}
use Rattle.formula.specs.Places.{places_of}
use Rattle.formula.specs.TreeLaws.{AllBetween}
use Rattle.sheet_tables.specs.Ends.{ends_in}
use Rattle.sheet_tables.specs.Nodes.{node_at, Holds}
use Rattle.sheet_tables.proofs.NodeLaws.{holds-none, holds-take, holds_more}
use Rattle.sheet_tables.proofs.LoopLaws.{row_ends}
use Rattle.sheet_tables.proofs.ends.find_ends.Goals as goal

pub loop-i-init : goal.loop-i-init
loop-i-init c = (omega arith, holds-none 0 c.args.ends.now 0 (λ k. ends_in (node_at c.args.fields.now (places_of c.args.fields.now c.args.n) k)), c.requires.1)

pub shape_at-requires : goal.shape_at-requires
shape_at-requires c = let e = c.requires.0.size in (omega arith, omega (arith, e))

pub slice_bounds-ends_of-end : goal.slice_bounds-ends_of-end
slice_bounds-ends_of-end c = omega arith

pub slice_bounds-ends_of-end-in-loop-i : goal.slice_bounds-ends_of-end-in-loop-i
slice_bounds-ends_of-end-in-loop-i c = sym (length-take-le c.loop-i.i c.loop-i.ends (omega arith))

pub ends_of-requires : goal.ends_of-requires
ends_of-requires c = (subst (λ z. AllBetween (c.loop-i.i + 1) (named_in z)) (sym c.shape_at.ensures) (c.requires.0.sound.named.names (c.loop-i.i + 1) (omega arith) (omega arith)), omega (arith, length-take-le c.loop-i.i c.loop-i.ends (omega arith)))

pub bounds-ends-i : goal.bounds-ends-i
bounds-ends-i c = omega arith

pub loop-i-preserved : goal.loop-i-preserved
loop-i-preserved c = (
  omega arith,
  holds_more 0 c.loop-i.ends c.loop-i.i (λ k. ends_in (node_at c.args.fields.now (places_of c.args.fields.now c.args.n) k)) c.ends_of.result c.loop-i.invariant.1 (omega arith)
      (c.ends_of.ensures ∙ row_ends c.args.fields.now c.args.n (places_of c.args.fields.now c.args.n) c.requires.0 c.loop-i.i c.loop-i-test.true (take c.loop-i.i c.loop-i.ends) (holds-take 0 c.loop-i.ends c.loop-i.i (λ k. ends_in (node_at c.args.fields.now (places_of c.args.fields.now c.args.n) k)) c.loop-i.invariant.1) c.shape_at.result c.shape_at.ensures),
  length-set c.loop-i.ends c.loop-i.i c.ends_of.result ∙ c.loop-i.invariant.2,
)

pub shape_of-ends : goal.shape_of-ends
shape_of-ends c = c.loop-i.invariant.2 ∙ sym c.requires.1

pub returns : goal.returns
returns c = let e : c.loop-i.i ≡ c.args.n = omega arith in subst (λ j. Holds 0 c.loop-i.ends j (λ k. ends_in (node_at c.args.fields.now (places_of c.args.fields.now c.args.n) k))) e c.loop-i.invariant.1
