use borrow.Author.Tests.{eq-eqb, ne_eqb}
use native.Mathlib.Omega.{arith}
use mathlib.Core.Path.{refl}
use mir.Syntax.{w32}
use mir.Facts.{to_z_pos}
use Rattle.formula.proofs.Constants.{most-bounded}
use Rattle.formula.proofs.constant.Goals as goal

pub returns-then-kind-eq-TRUTH : goal.returns-then-kind-eq-TRUTH
returns-then-kind-eq-TRUTH c = rw (eq-eqb _ _ c.if-kind-eq-TRUTH.true) refl

pub thousandths-requires : goal.thousandths-requires
thousandths-requires c = most-bounded c.args.kind c.args.a c.requires

pub returns-then-kind-eq-FLOAT : goal.returns-then-kind-eq-FLOAT
returns-then-kind-eq-FLOAT c = rw (ne_eqb c.args.kind 3 c.if-kind-eq-TRUTH.false, eq-eqb c.args.kind 10 c.if-kind-eq-FLOAT.true) c.thousandths.ensures

pub overflow_cast-result : goal.overflow_cast-result
overflow_cast-result c = record { sfits = omega (arith, most-bounded c.args.kind c.args.a c.requires) }

pub returns : goal.returns
returns c = rw (ne_eqb c.args.kind 3 c.if-kind-eq-TRUTH.false, ne_eqb c.args.kind 10 c.if-kind-eq-FLOAT.false) (rw (to_z_pos w32 {n = c.args.a} (omega (arith, most-bounded c.args.kind c.args.a c.requires))) refl)
