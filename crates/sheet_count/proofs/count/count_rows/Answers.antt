use mathlib.Core.Path.{sym, ◌∙◌, ap, subst, ◌≡◌}
use mathlib.Core.Bool.{false}
use native.Mathlib.Omega.{arith}
use Prim.Native.Nat.{ℕ, ◌+◌, ◌-◌}
use lib.ListN.{get_or, take, replicate, length-set, length-replicate}
use lib.Seq.{length-take-le}
use Rattle.formula.specs.Sheet.{named_in}
use Rattle.formula.specs.TreeLaws.{AllBetween}
use Rattle.sheet_tables.specs.Masks.{Ranged}
use Rattle.sheet_tables.specs.Nodes.{Holds}
use Rattle.sheet_count.specs.Counts.{count_at, own_by, own_operators}
use Rattle.sheet_tables.proofs.NodeLaws.{ready-length, holds-none, holds-take, holds_more}
use Rattle.sheet_tables.proofs.MaskLaws.{ranged-at}
use Rattle.sheet_count.proofs.OperatorLaws.{bounded-take, bounded-set, bounded-blank, loops-size, row_told, over, within}
use Rattle.sheet_count.proofs.count.count_rows.Goals as goal

pub loop-i-init : goal.loop-i-init
loop-i-init c = (
  omega arith,
  holds-none 0 (replicate 200 0) 0 (λ k. (count_at c.args.fields.now c.args.places.now c.args.n k).operators),
  bounded-blank 1024 200,
  length-replicate {A = ℕ} 200 0,
)

pub shape_at-s-requires : goal.shape_at-s-requires
shape_at-s-requires c = let e = c.requires.ready.size in (omega arith, omega (arith, e))

pub bounds-places-i : goal.bounds-places-i
bounds-places-i c = omega (arith, ready-length c.args.fields.now c.args.n c.args.places.now c.requires.ready)

pub entry-requires : goal.entry-requires
entry-requires c = let e = loops-size c.args.fields.now c.args.n c.args.places.now c.args.loops.now c.args.masks.now c.args.returned.now c.args.iterated.now c.args.ends.now c.requires in (omega arith, omega (arith, e))

pub own_of-own-requires : goal.own_of-own-requires
own_of-own-requires c = (
  subst (λ z. AllBetween (c.loop-i.i + 1) (named_in z)) (sym c.shape_at-s.ensures) (c.requires.ready.sound.named.names (c.loop-i.i + 1) (omega arith) (omega arith)),
  subst (λ z. Ranged z) (sym c.shape_at-s.ensures) (ranged-at c.args.fields.now c.args.n c.args.places.now c.requires.ready (c.loop-i.i + 1) (omega arith) (omega arith)),
  omega (arith, c.type_inv.loops c.loop-i.i, c.entry.ensures 0, c.from.ensures),
  omega (arith, c.requires.masks-size),
  omega (arith, c.requires.returned-size),
  omega (arith, c.requires.iterated-size),
  omega (arith, c.requires.ends-size),
)

pub slice_bounds-operators-end : goal.slice_bounds-operators-end
slice_bounds-operators-end c = let f = c.requires.few in omega (arith, f)

pub slice_bounds-named_total-end : goal.slice_bounds-named_total-end
slice_bounds-named_total-end c = let f = c.requires.few in sym (length-take-le c.loop-i.i c.loop-i.operators (omega (arith, f)))

pub named_total-requires : goal.named_total-requires
named_total-requires c =
    let f = c.requires.few in (
      subst (λ z. AllBetween (c.loop-i.i + 1) (named_in z)) (sym c.shape_at-s.ensures) (c.requires.ready.sound.named.names (c.loop-i.i + 1) (omega arith) (omega arith)),
      omega (arith, length-take-le c.loop-i.i c.loop-i.operators (omega (arith, f))),
      λ k. let b = bounded-take 1024 c.loop-i.i c.loop-i.operators c.loop-i.invariant.2 k in omega arith,
    )

pub operators_of-total-requires : goal.operators_of-total-requires
operators_of-total-requires c = (c.own_of-own.ensures.1, c.named_total.ensures.1)

pub returns-then-total-gt-MOST_OPERATORS : goal.returns-then-total-gt-MOST_OPERATORS
returns-then-total-gt-MOST_OPERATORS c =
    let tl = row_told c.args.fields.now c.args.n c.args.places.now c.args.loops.now c.args.masks.now c.args.returned.now c.args.iterated.now c.args.ends.now c.requires c.loop-i.i c.loop-i-test.true (take c.loop-i.i c.loop-i.operators) (holds-take 0 c.loop-i.operators c.loop-i.i (λ k. (count_at c.args.fields.now c.args.places.now c.args.n k).operators) c.loop-i.invariant.1) c.shape_at-s.result c.shape_at-s.ensures c.own_of-own.result (c.own_of-own.ensures.0 ∙ ap (λ v. own_by (get_or c.args.places.now c.loop-i.i false) (λ k. get_or c.args.masks.now (k - 1) 0) (λ k. get_or c.args.returned.now (k - 1) 0) (λ k. get_or c.args.iterated.now (k - 1) 0) (λ k. get_or c.args.ends.now (k - 1) 0) v c.shape_at-s.result) (c.from.ensures ∙ c.entry.ensures 0)) in
    let u : (count_at c.args.fields.now c.args.places.now c.args.n (c.loop-i.i + 1)).operators ≡ c.operators_of-total.result = tl.operators-are ∙ ap (λ j. own_operators c.own_of-own.result + j) (sym c.named_total.ensures.0) ∙ sym c.operators_of-total.ensures in
    over c.args.fields.now c.args.n c.args.places.now c.requires.ready (c.loop-i.i + 1) (omega arith) (omega arith) (omega (arith, c.if-total-gt-MOST_OPERATORS.true))

pub loop-i-preserved : goal.loop-i-preserved
loop-i-preserved c =
    let f = c.requires.few in
    let tl = row_told c.args.fields.now c.args.n c.args.places.now c.args.loops.now c.args.masks.now c.args.returned.now c.args.iterated.now c.args.ends.now c.requires c.loop-i.i c.loop-i-test.true (take c.loop-i.i c.loop-i.operators) (holds-take 0 c.loop-i.operators c.loop-i.i (λ k. (count_at c.args.fields.now c.args.places.now c.args.n k).operators) c.loop-i.invariant.1) c.shape_at-s.result c.shape_at-s.ensures c.own_of-own.result (c.own_of-own.ensures.0 ∙ ap (λ v. own_by (get_or c.args.places.now c.loop-i.i false) (λ k. get_or c.args.masks.now (k - 1) 0) (λ k. get_or c.args.returned.now (k - 1) 0) (λ k. get_or c.args.iterated.now (k - 1) 0) (λ k. get_or c.args.ends.now (k - 1) 0) v c.shape_at-s.result) (c.from.ensures ∙ c.entry.ensures 0)) in
    let u : (count_at c.args.fields.now c.args.places.now c.args.n (c.loop-i.i + 1)).operators ≡ c.operators_of-total.result = tl.operators-are ∙ ap (λ j. own_operators c.own_of-own.result + j) (sym c.named_total.ensures.0) ∙ sym c.operators_of-total.ensures in (
      omega arith,
      holds_more 0 c.loop-i.operators c.loop-i.i (λ k. (count_at c.args.fields.now c.args.places.now c.args.n k).operators) c.operators_of-total.result c.loop-i.invariant.1 (omega (arith, f)) (sym u),
      bounded-set 1024 c.loop-i.i c.operators_of-total.result c.loop-i.operators c.loop-i.invariant.2 (omega (arith, f)) c.if-total-gt-MOST_OPERATORS.false,
      length-set c.loop-i.operators c.loop-i.i c.operators_of-total.result ∙ c.loop-i.invariant.3,
    )

pub returns : goal.returns
returns c =
    let e : c.loop-i.i ≡ c.args.n = omega arith in
    let ho = subst (λ j. Holds 0 c.loop-i.operators j (λ k. (count_at c.args.fields.now c.args.places.now c.args.n k).operators)) e c.loop-i.invariant.1 in
    within c.args.fields.now c.args.n c.args.places.now c.requires.ready c.requires.some (get_or c.loop-i.operators (c.args.n - 1) 0) (ho.entry c.args.n c.requires.some (omega arith)) (c.loop-i.invariant.2 (c.args.n - 1))
