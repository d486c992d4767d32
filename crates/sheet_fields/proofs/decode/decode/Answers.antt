use mathlib.Core.Path.{sym, ◌∙◌, ap, refl, ◌≡◌}
use mathlib.Core.Bool.{true, false}
use native.Mathlib.Omega.{arith}
use Prim.Native.Nat.{◌+◌, ◌*◌}
use Rattle.formula.specs.Tests.{fields_well, line_at}
use Rattle.formula.proofs.TestLaws.{starts, goes_on, stops, ends}
use lib.Seq.{paste, paste-zero, sets}
use Rattle.formula.specs.Sheet.{lines_of, fields_of}
use Rattle.formula.specs.SheetLaws.{line_fields}
use Rattle.sheet_fields.proofs.TableLaws.{decoded-more}
use Rattle.sheet_fields.proofs.decode.decode.Goals as goal

pub loop-i-init : goal.loop-i-init
loop-i-init c = (omega arith, starts c.args.n 0 (fields_well (lines_of c.args.s.now)), paste-zero c.args.fields.now 0 (fields_of c.args.s.now), refl)

pub decode_row-requires : goal.decode_row-requires
decode_row-requires c = omega arith

pub returns-then-not-decode_row : goal.returns-then-not-decode_row
returns-then-not-decode_row c =
    let w = fields_well (lines_of c.args.s.now) in
    let e : w (c.loop-i.i + 1) ≡ false = sym c.decode_row.ensures.0 ∙ c.if-not-decode_row.true in (
      sym (stops c.args.n c.loop-i.i w c.loop-i-test.true e) ∙ c.loop-i.invariant.1,
      c.decode_row.ensures.1 ∙ ap (λ t. sets t (5 * c.loop-i.i) (line_fields (line_at (lines_of c.args.s.now) (c.loop-i.i + 1)))) c.loop-i.invariant.2 ∙ decoded-more c.args.s.now c.args.fields.now c.loop-i.i (omega arith) (omega arith),
    )

pub loop-i-preserved : goal.loop-i-preserved
loop-i-preserved c =
    let w = fields_well (lines_of c.args.s.now) in
    let e : w (c.loop-i.i + 1) ≡ true = sym c.decode_row.ensures.0 ∙ c.if-not-decode_row.false in (
      omega arith,
      goes_on c.args.n c.loop-i.i w c.loop-i-test.true e ∙ c.loop-i.invariant.1,
      c.decode_row.ensures.1 ∙ ap (λ t. sets t (5 * c.loop-i.i) (line_fields (line_at (lines_of c.args.s.now) (c.loop-i.i + 1)))) c.loop-i.invariant.2 ∙ decoded-more c.args.s.now c.args.fields.now c.loop-i.i (omega arith) (omega arith),
      c.decode_row.auto.fields ∙ c.loop-i.invariant.3,
    )

pub returns : goal.returns
returns c =
    let w = fields_well (lines_of c.args.s.now) in
    let e : c.loop-i.i ≡ c.args.n = omega arith in
    (sym (ends c.args.n c.loop-i.i w (omega arith)) ∙ c.loop-i.invariant.1, c.loop-i.invariant.2 ∙ ap (λ j. paste c.args.fields.now 0 (fields_of c.args.s.now) (5 * j)) e)
