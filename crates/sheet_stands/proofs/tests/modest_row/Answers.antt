use mathlib.Core.Path.{sym, ap, ◌∙◌, refl}
use native.Mathlib.Omega.{arith}
use borrow.Author.Tests.{lt-leb, le-leb}
use Rattle.sheet_listed.specs.Small.{modest_row, modest}
use Rattle.sheet_stands.proofs.TestLaws.{modest-by}
use Rattle.sheet_stands.proofs.tests.modest_row.Goals as goal

pub returns-then-kind-lt-FIRST_KIND : goal.returns-then-kind-lt-FIRST_KIND
unfolding modest_row
returns-then-kind-lt-FIRST_KIND c = rw (sym c.field_at-kind.ensures, lt-leb 1 c.field_at-kind.result c.if-kind-lt-FIRST_KIND.true) refl

pub returns-then-kind-gt-LAST_KIND : goal.returns-then-kind-gt-LAST_KIND
unfolding modest_row
returns-then-kind-gt-LAST_KIND c = rw (sym c.field_at-kind.ensures, le-leb 1 c.field_at-kind.result c.if-kind-lt-FIRST_KIND.false, lt-leb c.field_at-kind.result 9 c.if-kind-gt-LAST_KIND.true) refl

pub returns : goal.returns
returns c = c.modest.ensures ∙ ap modest c.shape_at.ensures ∙ sym (modest-by c.args.t.now c.args.r (omega (arith, c.field_at-kind.ensures)) (omega (arith, c.field_at-kind.ensures)))
