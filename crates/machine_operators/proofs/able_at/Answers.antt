use Rattle.machine_firing.specs.Moves.{Done}
use mathlib.Core.Path.{◌≡◌, ◌∙◌, refl}
use mathlib.Core.Bool.{Bool, true, false, not, ◌&&◌}
use Rattle.value.specs.Operators.{pick}
use Rattle.machine_operators.proofs.able_at.Goals as goal

-- a dry firing leaves every byte

kept : (r : Bool) {A : Type 0} (x m : A) → pick (r && not true) x m ≡ m
kept true x m = refl
kept false x m = refl

pub returns : goal.returns
unfolding Done
returns c = (c.fire_or_tell.ensures.0, c.fire_or_tell.ensures.1 ∙ kept c.fire_or_tell.result _ _)
