use mathlib.Core.Path.{sym}
use native.Mathlib.Omega.{arith}
use Prim.Native.Nat.{◌*◌}
use lib.ListN.{length-set}
use Rattle.formula.proofs.SheetLaws.{fields-well-at, line-fields-at}
use Rattle.sheet_fields.proofs.TableLaws.{stored}
use Rattle.sheet_fields.proofs.decode.long_row.Goals as goal

pub bounds-fields-i-2 : goal.bounds-fields-i-2
bounds-fields-i-2 c = simp length-set (omega arith)

pub bounds-fields-i-3 : goal.bounds-fields-i-3
bounds-fields-i-3 c = simp length-set (omega arith)

pub bounds-fields-i-4 : goal.bounds-fields-i-4
bounds-fields-i-4 c = simp length-set (omega arith)

pub bounds-fields-i-5 : goal.bounds-fields-i-5
bounds-fields-i-5 c = simp length-set (omega arith)

pub shape_of-fields : goal.shape_of-fields
shape_of-fields c = simp length-set

pub returns : goal.returns
returns c =
    let s = c.args.s.now in
    let i = c.args.i in
    let w = sym (fields-well-at s i c.requires.0) in
    let l = line-fields-at s i c.requires.0 in (
      simp (c.all_formed.ensures, c.field_in-kind.ensures, c.field_in-a.ensures, c.field_in-b.ensures, c.field_in-c.ensures, c.field_in-d.ensures) w,
      rw (l, sym c.field_in-kind.ensures, sym c.field_in-a.ensures, sym c.field_in-b.ensures, sym c.field_in-c.ensures, sym c.field_in-d.ensures, sym c.unwrap_or.ensures, sym c.unwrap_or-2.ensures, sym c.unwrap_or-3.ensures, sym c.unwrap_or-4.ensures, sym c.unwrap_or-5.ensures) (stored c.args.fields.now (5 * i) c.unwrap_or.result c.unwrap_or-2.result c.unwrap_or-3.result c.unwrap_or-4.result c.unwrap_or-5.result),
    )
