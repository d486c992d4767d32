use mathlib.Core.Path.{sym}
use native.Mathlib.Omega.{arith}
use Prim.Native.Nat.{◌*◌, ◌-◌}
use lib.ListN.{length-set}
use Rattle.sheet_fields.proofs.TableLaws.{stored}
use Rattle.sheet_stands.proofs.contents.put_content.Goals as goal

pub bounds-t-at-2 : goal.bounds-t-at-2
bounds-t-at-2 c = simp length-set (omega arith)

pub bounds-t-at-3 : goal.bounds-t-at-3
bounds-t-at-3 c = simp length-set (omega arith)

pub bounds-t-at-4 : goal.bounds-t-at-4
bounds-t-at-4 c = simp length-set (omega arith)

pub bounds-t-at-5 : goal.bounds-t-at-5
bounds-t-at-5 c = simp length-set (omega arith)

pub shape_of-t : goal.shape_of-t
shape_of-t c = simp length-set

pub returns : goal.returns
returns c = rw (sym c.content-c.ensures) (stored c.args.t.now (5 * (c.args.r - 1)) c.content-c.result.kind c.content-c.result.a c.content-c.result.b c.content-c.result.c c.content-c.result.d)
