use mathlib.Core.Logic.{inl, inr}
use mathlib.Core.Path.{refl}
use borrow.Author.Tests.{eq-eqb, ne_eqb}
use Rattle.text.specs.Scan.{seen_laid_out}
use Rattle.text_read.proofs.scan.seen_laid_out.Goals as goal
use Rattle.text_read.proofs.scan.seen_laid_out.Goals.{then-x-ne0, else-x-ne0}

pub returns-then-x-eq0 : goal.returns-then-x-eq0
unfolding seen_laid_out
returns-then-x-eq0 c = rw (ne_eqb c.args.x.length 0 c.if-x-eq0.true.0, eq-eqb c.args.x.column 0 c.if-x-eq0.true.1) refl

pub returns-else-x-eq0 : goal.returns-else-x-eq0
unfolding seen_laid_out
returns-else-x-eq0 c =
    elim c.if-x-ne0.branch [
      | then-x-ne0 w ↦ elim c.if-x-eq0.either [
        | inl p ↦ rw (w.t-3-is, ne_eqb c.args.x.length 0 w.if-x-ne0.true, ne_eqb c.args.x.column 0 p.1) refl
        | inr e ↦ absurd (w.if-x-ne0.true e)
      ]
      | else-x-ne0 w ↦ rw (w.t-3-is, eq-eqb c.args.x.length 0 w.if-x-ne0.false) refl
    ]
