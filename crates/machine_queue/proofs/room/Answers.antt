use mathlib.Core.Path.{refl}
use Rattle.machine_queue.specs.Stretch.{room_in}
use Rattle.machine_queue.proofs.room.Goals as goal

pub returns : goal.returns
unfolding room_in
returns c = rw c.from.ensures refl
