use Prim.Native.Nat.{ℕ, ◌+◌, ◌-◌}
use mathlib.Core.Path.{◌≡◌, refl, sym, ap, ◌∙◌}
use mathlib.Core.Bool.{Bool}
use native.Mathlib.Omega.{arith}
use Rattle.sheet_listed.specs.Search.{searched, down_from}
use Rattle.sheet_listed.specs.Texts.{field_row}
use Rattle.sheet_stands.specs.Fronts.{rows_to}
use Rattle.sheet_stands.proofs.ContentLaws.{content-place}
use Rattle.sheet_stands.proofs.FrontLaws.{agree_then, agree_less, front_less}
use Rattle.sheet_next.specs.Found.{found}
use Rattle.sheet_next.proofs.DownLaws.{down-found, down-less, down-none}
use Rattle.sheet_next.proofs.search.as_long.Goals as goal

pub fill-requires : goal.fill-requires
fill-requires c = (c.requires, refl, refl)

pub loop-r-init : goal.loop-r-init
loop-r-init c = (omega arith, c.requires.size, λ i l. refl, c.fill.ensures, refl)

pub number_of-start-requires : goal.number_of-start-requires
number_of-start-requires c = (omega arith, omega (arith, c.requires.few), content-place (field_row c.loop-r.t c.loop-r.r) (c.loop-r.invariant.3.content c.loop-r.r (omega arith) (omega arith)))

pub overflow_add-start : goal.overflow_add-start
overflow_add-start c = omega (arith, c.number_of-start.ensures, content-place (field_row c.loop-r.t c.loop-r.r) (c.loop-r.invariant.3.content c.loop-r.r (omega arith) (omega arith)))

pub first_from-requires : goal.first_from-requires
first_from-requires c =
    let low = content-place (field_row c.loop-r.t c.loop-r.r) (c.loop-r.invariant.3.content c.loop-r.r (omega arith) (omega arith)) in
    (omega arith, c.loop-r.invariant.0, c.requires.few, omega (arith, c.number_of-start.ensures), c.loop-r.invariant.1, front_less c.loop-r.t c.loop-r.widths c.loop-r.masks c.loop-r.r (c.loop-r.r - 1) (omega arith) c.loop-r.invariant.3)

pub returns-then-first_from : goal.returns-then-first_from
returns-then-first_from c = down-found c.loop-r.t c.args.t.now c.args.n c.loop-r.r c.loop-r-test.true c.loop-r.invariant.0 c.loop-r.invariant.2 (rows_to c.args.n c.first_from.new.t) (ap (λ (b : Bool). found b (rows_to c.args.n c.first_from.new.t)) (sym c.if-first_from.true) ∙ (c.first_from.ensures.0 ∙ ap (λ (k : ℕ). searched (rows_to (c.loop-r.r - 1) c.loop-r.t) (k + 1) (c.args.n - c.loop-r.r)) c.number_of-start.ensures)) ∙ c.loop-r.invariant.4

pub loop-r-preserved : goal.loop-r-preserved
loop-r-preserved c = (
  omega arith,
  c.first_from.auto.t ∙ c.loop-r.invariant.1,
  agree_then (c.loop-r.r - 1) c.first_from.new.t c.loop-r.t c.args.t.now c.first_from.ensures.1 (agree_less c.loop-r.r (c.loop-r.r - 1) c.loop-r.t c.args.t.now (omega arith) c.loop-r.invariant.2),
  c.first_from.ensures.2,
  down-less c.loop-r.t c.args.t.now c.args.n c.loop-r.r c.loop-r-test.true c.loop-r.invariant.0 c.loop-r.invariant.2 (ap (λ (b : Bool). found b (rows_to c.args.n c.first_from.new.t)) (sym c.if-first_from.false) ∙ (c.first_from.ensures.0 ∙ ap (λ (k : ℕ). searched (rows_to (c.loop-r.r - 1) c.loop-r.t) (k + 1) (c.args.n - c.loop-r.r)) c.number_of-start.ensures)) ∙ c.loop-r.invariant.4,
)

pub returns : goal.returns
returns c = let z : c.loop-r.r ≡ 0 = omega arith in sym (down-none (rows_to c.args.n c.args.t.now)) ∙ ap (λ (i : ℕ). down_from i (rows_to c.args.n c.args.t.now)) (sym z) ∙ c.loop-r.invariant.4
