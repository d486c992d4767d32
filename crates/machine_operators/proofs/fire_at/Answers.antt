use Rattle.machine_firing.specs.Moves.{Done}
use mathlib.Core.Path.{◌≡◌, ◌∙◌, refl}
use mathlib.Core.Bool.{Bool, true, false, not, ◌&&◌}
use Rattle.value.specs.Operators.{pick}
use Rattle.machine_firing.specs.Fire.{fired_from}
use Rattle.machine_operators.proofs.fire_at.Goals as goal

wet : (r : Bool) {A : Type 0} (x m : A) → pick (r && not false) x m ≡ pick r x m
wet true x m = refl
wet false x m = refl

pub returns : goal.returns
unfolding fired_from Done
returns c = (c.fire_or_tell.ensures.0, c.fire_or_tell.ensures.1 ∙ wet c.fire_or_tell.result _ _ ∙ rw c.fire_or_tell.ensures.0 refl)
