use Rattle.sheet_tidy.specs.Rows.{listed}
use Prim.Native.Nat.{ℕ, ◌-◌}
use mathlib.Core.Path.{sym, ap, ◌∙◌}
use mathlib.Core.List.{List}
use native.Mathlib.Omega.{arith}
use Rattle.sheet_listed.specs.Search.{same_row, content_at}
use Rattle.sheet_listed.specs.Texts.{field_row}
use Rattle.sheet_listed.proofs.Numbers.{number-starts}
use Rattle.sheet_stands.proofs.ContentLaws.{number-here, number-later}
use Rattle.sheet_stands.proofs.contents.number_of.Goals as goal

pub loop-k-init : goal.loop-k-init
loop-k-init c = (omega arith, number-starts (field_row c.args.t.now c.args.r) ∙ omega arith)

pub returns-then-same_row : goal.returns-then-same_row
returns-then-same_row c = number-here (field_row c.args.t.now c.args.r) c.loop-k.k c.loop-k-test.true c.loop-k.invariant.1 (sym (c.same_row.ensures ∙ ap (λ (q : List ℕ). same_row q (listed c.row_at-given.result)) c.content.ensures ∙ ap (same_row (content_at c.loop-k.k)) c.row_at-given.ensures) ∙ c.if-same_row.true)

pub loop-k-preserved : goal.loop-k-preserved
loop-k-preserved c = (omega arith, number-later (field_row c.args.t.now c.args.r) c.loop-k.k c.loop-k-test.true c.loop-k.invariant.1 (sym (c.same_row.ensures ∙ ap (λ (q : List ℕ). same_row q (listed c.row_at-given.result)) c.content.ensures ∙ ap (same_row (content_at c.loop-k.k)) c.row_at-given.ensures) ∙ c.if-same_row.false))

pub returns : goal.returns
returns c = omega (arith, c.loop-k.invariant.1, c.requires.2)
