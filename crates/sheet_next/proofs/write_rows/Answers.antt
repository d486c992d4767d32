use Prim.Native.Nat.{ℕ, ◌+◌, ◌*◌, ◌-◌}
use mathlib.Core.Path.{◌≡◌, refl, ap, ◌∙◌}
use mathlib.Core.List.{List}
use native.Mathlib.Omega.{arith}
use lib.Seq.{sets}
use Rattle.sheet_tidied.specs.Text.{row_text, sheet_text}
use Rattle.sheet_listed.specs.Texts.{field_row}
use Rattle.sheet_stands.specs.Fronts.{rows_to}
use Rattle.sheet_next.proofs.AnswerLaws.{row_written, nothing_written}
use Rattle.sheet_next.proofs.write_rows.Goals as goal

pub loop-i-init : goal.loop-i-init
loop-i-init c = (omega arith, refl, nothing_written c.args.fields.now c.args.out.now)

pub row_at-requires : goal.row_at-requires
row_at-requires c = (omega arith, omega (arith, c.requires.0))

pub put_row-requires : goal.put_row-requires
put_row-requires c = omega (arith, c.requires.1)

pub loop-i-preserved : goal.loop-i-preserved
loop-i-preserved c = (
  omega arith,
  c.put_row.auto.out ∙ c.loop-i.invariant.1,
  c.put_row.ensures
      ∙ ap (λ (q : List ℕ). sets c.loop-i.out (31 * c.loop-i.i) (row_text q)) c.row_at.ensures
      ∙ ap (λ (o : List ℕ). sets o (31 * c.loop-i.i) (row_text (field_row c.args.fields.now (c.loop-i.i + 1)))) c.loop-i.invariant.2
      ∙ row_written c.args.fields.now c.args.out.now c.loop-i.i (omega (arith, c.requires.1)),
)

pub shape_of-out : goal.shape_of-out
shape_of-out c = c.loop-i.invariant.1

pub returns : goal.returns
returns c = let e : c.loop-i.i ≡ c.args.n = omega arith in c.loop-i.invariant.2 ∙ ap (λ (i : ℕ). sets c.args.out.now 0 (sheet_text (rows_to i c.args.fields.now))) e
