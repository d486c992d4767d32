use native.Mathlib.Omega.{arith}
use lib.ListN.{take, drop}
use lib.Seq.{paste, length-paste, drop-drop}
use mathlib.Core.List.{List, ◌++◌}
use mathlib.Core.Path.{◌≡◌, ap, ◌∙◌, sym}
use Prim.Native.Nat.{ℕ, ◌+◌, ◌-◌}
use Rattle.std.proofs.Common.{append_assoc}
use Rattle.sheet_kinds.specs.Bytes.{paste-writes}
use Rattle.sheet_kinds.proofs.bytes.copy.Goals as goal

put-is : (l s : List ℕ) (at n : ℕ) → take at l ++ (take n s ++ drop n (drop at l)) ≡ paste l at s n
put-is l s at n = ap (λ r. take at l ++ (take n s ++ r)) (drop-drop n at l) ∙ sym (append_assoc (take at l) (take n s) (drop (at + n) l))

pub returns : goal.returns
returns c =
    let e : c.args.at + c.args.n - c.args.at ≡ c.args.n = omega arith in
    let p = put-is c.args.to.now c.args.from.now c.args.at c.args.n in
    let l = length-paste c.args.to.now c.args.at c.args.from.now c.args.n c.requires.0 c.requires.1 in
    rw (e, c.copy_from_slice.ensures.after, p) (paste-writes c.args.to.now c.args.at c.args.from.now c.args.n c.requires.0 c.requires.1, l)
