use Prim.Native.Nat.{◌+◌, ◌*◌}
use Rattle.sheet_kinds.proofs.walk.+arms_body_kinds_codes_exp_kinds_fors_ifs.Given as goal

abbrev pub decreases-arms : goal.decreases-arms
decreases-arms l = 3 * l.r

abbrev pub decreases-body_kinds : goal.decreases-body_kinds
decreases-body_kinds l = 3 * l.r + 2

abbrev pub decreases-codes : goal.decreases-codes
decreases-codes l = 3 * l.r

abbrev pub decreases-exp_kinds : goal.decreases-exp_kinds
decreases-exp_kinds l = 3 * l.r + 1

abbrev pub decreases-fors : goal.decreases-fors
decreases-fors l = 3 * l.r

abbrev pub decreases-ifs : goal.decreases-ifs
decreases-ifs l = 3 * l.r
