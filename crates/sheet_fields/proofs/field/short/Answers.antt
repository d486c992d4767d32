use native.Mathlib.Omega.{arith}
use Prim.Native.Nat.{◌+◌, ◌*◌}
use mathlib.Core.Path.{◌≡◌, ◌∙◌, ap, sym}
use lib.ListN.{get_or}
use Rattle.sheet_fields.proofs.FieldLaws.{three-spaces, four-spaces, word-of-spaces, word-after-spaces}
use Rattle.sheet_fields.proofs.field.short.Goals as goal

pub returns-then-w-eq-FOUR_SPACES : goal.returns-then-w-eq-FOUR_SPACES
returns-then-w-eq-FOUR_SPACES c =
    let s = c.args.s.now in
    let i = c.args.at in
    let g = c.type_inv.s in
    let e : i + 4 + 2 ≡ i + 6 = omega arith in
    let w = word-of-spaces (get_or s i 0) (get_or s (i + 1) 0) (get_or s (i + 2) 0) (get_or s (i + 3) 0) (omega (arith, g i)) (omega (arith, g (i + 1))) (omega (arith, g (i + 2))) (omega (arith, g (i + 3))) (sym c.four-w.ensures ∙ c.if-w-eq-FOUR_SPACES.true) in
    λ h. four-spaces s i (omega arith) w.0 w.1 w.2 w.3 ∙ (rw e at (c.two.ensures h))

pub returns : goal.returns
returns c =
    let s = c.args.s.now in
    let i = c.args.at in
    let g = c.type_inv.s in
    let e : i + 3 + 3 ≡ i + 6 = omega arith in
    let w = word-after-spaces (get_or s i 0) (get_or s (i + 1) 0) (get_or s (i + 2) 0) (get_or s (i + 3) 0) (omega (arith, g i)) (omega (arith, g (i + 1))) (omega (arith, g (i + 2))) (sym c.four-w.ensures ∙ c.if-w-from.false ∙ ap (λ v. 2105376 + 16777216 * v) c.from.ensures) in
    λ h. three-spaces s i (omega arith) w.0 w.1 w.2 ∙ (rw e at (c.three.ensures h))
