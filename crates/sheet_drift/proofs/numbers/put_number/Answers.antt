use native.Mathlib.Omega.{arith}
use lib.ListN.{take, drop}
use lib.Seq.{sets, sets-eq, drop-drop}
use mathlib.Core.List.{List, [], ◌∷◌, ◌++◌}
use mathlib.Core.Path.{◌≡◌, ap, ◌∙◌, sym, refl}
use Prim.Native.Nat.{ℕ, ◌+◌, ◌-◌, ◌/◌, ◌≤◌}
use lib.ListN.{length}
use Rattle.std.proofs.Common.{append_assoc}
use Rattle.std.specs.Int.{to_le_bytes}
use Rattle.sheet_movement.specs.Moves.{number_bytes}
use Rattle.sheet_drift.proofs.numbers.put_number.Goals as goal

put-is : (l vs : List ℕ) (at : ℕ) → at + length vs ≤ length l → take at l ++ (vs ++ drop (length vs) (drop at l)) ≡ sets l at vs
put-is l vs at h = ap (λ r. take at l ++ (vs ++ r)) (drop-drop (length vs) at l) ∙ sym (append_assoc (take at l) vs (drop (at + length vs) l)) ∙ sym (sets-eq vs l at h)

pub returns : goal.returns
unfolding number_bytes
returns c =
    let e : c.args.at + 4 - c.args.at ≡ 4 = omega arith in
    let d : c.to_le_bytes.result ≡ number_bytes (c.args.d ∷ []) = c.to_le_bytes.ensures in
    rw (e, c.copy_from_slice.ensures.after, d) (put-is c.args.out.now (number_bytes (c.args.d ∷ [])) c.args.at c.requires)
