use native.Mathlib.Omega.{arith}
use Prim.Native.Nat.{ℕ, ◌*◌, ◌-◌}
use mathlib.Core.List.{List, [], ◌∷◌}
use mathlib.Core.Path.{◌≡◌, refl, ap, ◌∙◌}
use lib.ListN.{get_or}
use lib.Seq.{sets}
use Rattle.sheet_movement.specs.Moves.{number_bytes}
use Rattle.sheet_drift.specs.Numbers.{numbers-none, numbers_more}
use Rattle.sheet_drift.proofs.numbers.write_numbers.Goals as goal

pub loop-i-init : goal.loop-i-init
loop-i-init c = (omega arith, numbers-none c.args.out.now c.args.numbers.now, refl)

pub loop-i-preserved : goal.loop-i-preserved
loop-i-preserved c = (
  omega arith,
  c.put_number.ensures ∙ ap (λ (o : List ℕ). sets o (4 * c.loop-i.i) (number_bytes (get_or c.args.numbers.now c.loop-i.i 0 ∷ []))) c.loop-i.invariant.1
      ∙ numbers_more c.args.out.now c.args.numbers.now c.loop-i.i (omega (arith, c.loop-i-test.true, c.requires.0)),
  c.put_number.auto.out ∙ c.loop-i.invariant.2,
)

pub returns : goal.returns
returns c = let e : c.loop-i.i ≡ c.args.n = omega arith in rw e at c.loop-i.invariant.1
