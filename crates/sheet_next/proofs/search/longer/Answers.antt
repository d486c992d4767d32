use Prim.Native.Nat.{suc, ◌+◌, ◌-◌}
use mathlib.Core.Path.{◌≡◌, refl, sym, ap, ◌∙◌}
use mathlib.Core.Bool.{Bool}
use native.Mathlib.Omega.{arith}
use Rattle.sheet_listed.specs.Search.{up_from}
use Rattle.sheet_stands.specs.Fronts.{rows_to}
use Rattle.sheet_stands.proofs.FrontLaws.{front-none}
use Rattle.sheet_next.specs.Found.{found}
use Rattle.sheet_next.proofs.DownLaws.{up-found, up-later, up_none}
use Rattle.sheet_next.proofs.search.longer.Goals as goal

pub loop-i-init : goal.loop-i-init
loop-i-init c = (c.requires.1, c.requires.0, refl, refl, refl)

pub first_from-requires : goal.first_from-requires
first_from-requires c = (omega arith, omega arith, omega arith, omega arith, c.loop-i.invariant.1, front-none c.loop-i.t c.loop-i.widths c.loop-i.masks c.loop-i.invariant.2 c.loop-i.invariant.3)

pub returns-then-first_from : goal.returns-then-first_from
returns-then-first_from c = (up-found c.loop-i.t c.loop-i.i c.loop-i-test.true (rows_to (c.loop-i.i + 1) c.first_from.new.t) (ap (λ (b : Bool). found b (rows_to (c.loop-i.i + 1) c.first_from.new.t)) (sym c.if-first_from.true) ∙ c.first_from.ensures.0) ∙ c.loop-i.invariant.4, omega arith)

pub loop-i-preserved : goal.loop-i-preserved
loop-i-preserved c = (
  omega arith,
  c.first_from.auto.t ∙ c.loop-i.invariant.1,
  c.first_from.auto.widths ∙ c.loop-i.invariant.2,
  c.first_from.auto.masks ∙ c.loop-i.invariant.3,
  up-later c.loop-i.t c.loop-i.i c.loop-i-test.true (ap (λ (b : Bool). found b (rows_to (c.loop-i.i + 1) c.first_from.new.t)) (sym c.if-first_from.false) ∙ c.first_from.ensures.0) ∙ c.loop-i.invariant.4,
)

pub returns : goal.returns
returns c = let z : 5 - c.loop-i.i ≡ 0 = omega arith in (sym (up_none (suc c.loop-i.i)) ∙ ap (up_from (suc c.loop-i.i)) (sym z) ∙ c.loop-i.invariant.4, omega arith)
