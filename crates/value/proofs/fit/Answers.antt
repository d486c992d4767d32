use mir.Facts.{to_z-of_z}
use mir.Syntax.{w32}
use mir.Val.{SFits}
use Rattle.value.proofs.Whole.{back, whole_is, outside}
use Rattle.value.proofs.fit.Goals as goal

pub returns-in-Ok : goal.returns-in-Ok
returns-in-Ok c =
    let f : SFits w32 c.args.z = rw (to_z-of_z c.ranges.z) at c.in-Ok.ensures.0 in
    rw (c.in-Ok.ensures.1, to_z-of_z c.ranges.z, back f) (whole_is c.args.z f)

pub returns-in-Err : goal.returns-in-Err
returns-in-Err c = outside c.args.z (rw (to_z-of_z c.ranges.z) at c.in-Err.ensures)
