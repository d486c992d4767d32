use Prim.Native.Nat.{◌+◌, ◌*◌}
use mathlib.Core.Bool.{cond}
use Rattle.maker_rows.proofs.+arm_ended_fors_ifs_lets_pairs_plain_row.Given as goal

abbrev pub decreases-arm : goal.decreases-arm
decreases-arm l = 8 * l.k + 5

abbrev pub decreases-ended : goal.decreases-ended
decreases-ended l = 8 * l.k + 3

abbrev pub decreases-fors : goal.decreases-fors
decreases-fors l = 8 * l.r

abbrev pub decreases-ifs : goal.decreases-ifs
decreases-ifs l = 8 * l.r

abbrev pub decreases-lets : goal.decreases-lets
decreases-lets l = 8 * l.r

abbrev pub decreases-pairs : goal.decreases-pairs
decreases-pairs l = 8 * l.r

abbrev pub decreases-plain : goal.decreases-plain
decreases-plain l = 8 * l.r + 1

abbrev pub decreases-row : goal.decreases-row
decreases-row l = 8 * l.r + cond l.place.body 4 2
