use mathlib.Core.Path.{sym, ◌∙◌, subst, ◌≡◌}
use native.Mathlib.Omega.{arith}
use Prim.Native.Nat.{ℕ, ◌+◌, ◌<◌, ◌^◌}
use lib.ListN.{take, length-set}
use lib.Seq.{length-take-le}
use Rattle.formula.specs.Sheet.{named_in}
use Rattle.formula.specs.Tests.{widths_well}
use Rattle.formula.proofs.TestLaws.{starts, goes_on, stops, ends}
use Rattle.formula.specs.TreeLaws.{AllBetween}
use Rattle.sheet_tables.specs.Nodes.{node_at, returned_in, iterated_in, Holds}
use Rattle.sheet_tables.proofs.NodeLaws.{ready-length, holds-none, holds-take, holds_more}
use Rattle.sheet_tables.proofs.WidthLaws.{row_told, well-bounds, well-node}
use Rattle.sheet_tables.proofs.widths.test_widths.Goals as goal

pub loop-i-init : goal.loop-i-init
loop-i-init c = (omega arith, starts c.args.n 0 (widths_well c.args.fields.now c.args.places.now), holds-none 0 c.args.returned.now 0 (λ k. returned_in (node_at c.args.fields.now c.args.places.now k)), holds-none 0 c.args.iterated.now 0 (λ k. iterated_in (node_at c.args.fields.now c.args.places.now k)), c.requires.1, c.requires.2)

pub shape_at-requires : goal.shape_at-requires
shape_at-requires c = let e = c.requires.0.size in (omega arith, omega (arith, e))

pub bounds-places-i : goal.bounds-places-i
bounds-places-i c = omega (arith, ready-length c.args.fields.now c.args.n c.args.places.now c.requires.0)

pub slice_bounds-widths_of-end : goal.slice_bounds-widths_of-end
slice_bounds-widths_of-end c = omega arith

pub slice_bounds-widths_of-end-in-loop-i : goal.slice_bounds-widths_of-end-in-loop-i
slice_bounds-widths_of-end-in-loop-i c = sym (length-take-le c.loop-i.i c.loop-i.returned (omega arith))

pub slice_bounds-widths_of-end-in-loop-i-2 : goal.slice_bounds-widths_of-end-in-loop-i-2
slice_bounds-widths_of-end-in-loop-i-2 c = omega arith

pub slice_bounds-widths_of-end-in-loop-i-3 : goal.slice_bounds-widths_of-end-in-loop-i-3
slice_bounds-widths_of-end-in-loop-i-3 c = sym (length-take-le c.loop-i.i c.loop-i.iterated (omega arith))

pub widths_of-w-requires : goal.widths_of-w-requires
widths_of-w-requires c = (
  subst (λ z. AllBetween (c.loop-i.i + 1) (named_in z)) (sym c.shape_at.ensures) (c.requires.0.sound.named.names (c.loop-i.i + 1) (omega arith) (omega arith)),
  omega (arith, length-take-le c.loop-i.i c.loop-i.returned (omega arith)),
  omega (arith, length-take-le c.loop-i.i c.loop-i.iterated (omega arith)),
)

pub shape_of-returned-then-not-widths_well : goal.shape_of-returned-then-not-widths_well
shape_of-returned-then-not-widths_well c = c.loop-i.invariant.4 ∙ sym c.requires.1

pub shape_of-iterated-then-not-widths_well : goal.shape_of-iterated-then-not-widths_well
shape_of-iterated-then-not-widths_well c = c.loop-i.invariant.5 ∙ sym c.requires.2

pub returns-then-not-widths_well : goal.returns-then-not-widths_well
returns-then-not-widths_well c =
    let tl = row_told c.args.fields.now c.args.n c.args.places.now c.requires.0 c.loop-i.i c.loop-i-test.true (take c.loop-i.i c.loop-i.returned) (take c.loop-i.i c.loop-i.iterated) (holds-take 0 c.loop-i.returned c.loop-i.i (λ k. returned_in (node_at c.args.fields.now c.args.places.now k)) c.loop-i.invariant.2) (holds-take 0 c.loop-i.iterated c.loop-i.i (λ k. iterated_in (node_at c.args.fields.now c.args.places.now k)) c.loop-i.invariant.3) c.shape_at.result c.shape_at.ensures c.widths_of-w.result c.widths_of-w.ensures in
    let e = well-node c.args.fields.now c.args.places.now (c.loop-i.i + 1) ∙ tl.rules ∙ sym c.widths_well.ensures in (
      sym (stops c.args.n c.loop-i.i (widths_well c.args.fields.now c.args.places.now) c.loop-i-test.true (e ∙ c.if-not-widths_well.true)) ∙ c.loop-i.invariant.1,
      λ q. absurd (let z : ◌≡◌ {A = ℕ} 0 1 = cc q in omega arith),
    )

pub overflow_cast-returned : goal.overflow_cast-returned
overflow_cast-returned c =
    let h = well-bounds c.widths_of-w.result (sym c.widths_well.ensures ∙ c.if-not-widths_well.false) in
    let k : c.widths_of-w.result.returned < 2 ^ 8 = omega arith in
    record { fits = k }

pub bounds-returned-i : goal.bounds-returned-i
bounds-returned-i c = omega arith

pub overflow_cast-iterated : goal.overflow_cast-iterated
overflow_cast-iterated c =
    let h = well-bounds c.widths_of-w.result (sym c.widths_well.ensures ∙ c.if-not-widths_well.false) in
    let k : c.widths_of-w.result.iterated < 2 ^ 8 = omega arith in
    record { fits = k }

pub bounds-iterated-i : goal.bounds-iterated-i
bounds-iterated-i c = omega arith

pub loop-i-preserved : goal.loop-i-preserved
loop-i-preserved c =
    let tl = row_told c.args.fields.now c.args.n c.args.places.now c.requires.0 c.loop-i.i c.loop-i-test.true (take c.loop-i.i c.loop-i.returned) (take c.loop-i.i c.loop-i.iterated) (holds-take 0 c.loop-i.returned c.loop-i.i (λ k. returned_in (node_at c.args.fields.now c.args.places.now k)) c.loop-i.invariant.2) (holds-take 0 c.loop-i.iterated c.loop-i.i (λ k. iterated_in (node_at c.args.fields.now c.args.places.now k)) c.loop-i.invariant.3) c.shape_at.result c.shape_at.ensures c.widths_of-w.result c.widths_of-w.ensures in
    let e = well-node c.args.fields.now c.args.places.now (c.loop-i.i + 1) ∙ tl.rules ∙ sym c.widths_well.ensures in (
      omega arith,
      goes_on c.args.n c.loop-i.i (widths_well c.args.fields.now c.args.places.now) c.loop-i-test.true (e ∙ c.if-not-widths_well.false) ∙ c.loop-i.invariant.1,
      holds_more 0 c.loop-i.returned c.loop-i.i (λ k. returned_in (node_at c.args.fields.now c.args.places.now k)) c.widths_of-w.result.returned c.loop-i.invariant.2 (omega arith) (sym tl.returns),
      holds_more 0 c.loop-i.iterated c.loop-i.i (λ k. iterated_in (node_at c.args.fields.now c.args.places.now k)) c.widths_of-w.result.iterated c.loop-i.invariant.3 (omega arith) (sym tl.iterates),
      length-set c.loop-i.returned c.loop-i.i c.widths_of-w.result.returned ∙ c.loop-i.invariant.4,
      length-set c.loop-i.iterated c.loop-i.i c.widths_of-w.result.iterated ∙ c.loop-i.invariant.5,
    )

pub shape_of-returned : goal.shape_of-returned
shape_of-returned c = c.loop-i.invariant.4 ∙ sym c.requires.1

pub shape_of-iterated : goal.shape_of-iterated
shape_of-iterated c = c.loop-i.invariant.5 ∙ sym c.requires.2

pub returns : goal.returns
returns c =
    let e : c.loop-i.i ≡ c.args.n = omega arith in (
      sym (ends c.args.n c.loop-i.i (widths_well c.args.fields.now c.args.places.now) (omega arith)) ∙ c.loop-i.invariant.1,
      λ q. (subst (λ j. Holds 0 c.loop-i.returned j (λ k. returned_in (node_at c.args.fields.now c.args.places.now k))) e c.loop-i.invariant.2, subst (λ j. Holds 0 c.loop-i.iterated j (λ k. iterated_in (node_at c.args.fields.now c.args.places.now k))) e c.loop-i.invariant.3),
    )
