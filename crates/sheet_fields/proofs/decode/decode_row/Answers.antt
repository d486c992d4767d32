use mathlib.Core.Path.{sym, ◌∙◌}
use native.Mathlib.Omega.{arith}
use Prim.Native.Nat.{◌*◌}
use lib.ListN.{length-set}
use Rattle.formula.proofs.SheetLaws.{fields-well-at, line-fields-at}
use Rattle.sheet_fields.proofs.TableLaws.{stored}
use Rattle.sheet_fields.proofs.decode.decode_row.Goals as goal

pub bounds-fields-i-2 : goal.bounds-fields-i-2
bounds-fields-i-2 c = simp length-set (omega arith)

pub bounds-fields-i-3 : goal.bounds-fields-i-3
bounds-fields-i-3 c = simp length-set (omega arith)

pub bounds-fields-i-4 : goal.bounds-fields-i-4
bounds-fields-i-4 c = simp length-set (omega arith)

pub bounds-fields-i-5 : goal.bounds-fields-i-5
bounds-fields-i-5 c = simp length-set (omega arith)

pub shape_of-fields : goal.shape_of-fields
shape_of-fields c = simp length-set

pub returns : goal.returns
returns c =
    let s = c.args.s.now in
    let i = c.args.i in
    let x = c.short-kind.ensures (omega arith) in
    let y = c.short-a.ensures (omega arith) in
    let z = c.short-b.ensures (omega arith) in
    let u = c.short-c.ensures (omega arith) in
    let v = c.short-d.ensures (omega arith) in (
      sym (fields-well-at s i c.requires.0 ∙ simp (x, y, z, u, v)),
      rw (line-fields-at s i c.requires.0, x, y, z, u, v) (stored c.args.fields.now (5 * i) c.short-kind.result c.short-a.result c.short-b.result c.short-c.result c.short-d.result),
    )
