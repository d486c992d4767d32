use native.Mathlib.Omega.{arith}
use mathlib.Core.Path.{sym}
use Rattle.machine_log.specs.CheckedLaws.{lent-memory, lent-room, lent_below, lent-above, lent-passes}
use Rattle.machine_log.proofs.test_lent.Goals as goal

pub returns-then-lent-machine_need : goal.returns-then-lent-machine_need
returns-then-lent-machine_need c = sym (lent-memory c.args.capacity c.args.bytes c.args.lent c.args.room (omega (arith, c.machine_need.ensures, c.capacity_asked.ensures)))

pub returns-then-room-room_for : goal.returns-then-room-room_for
returns-then-room-room_for c = sym (lent-room c.args.capacity c.args.bytes c.args.lent c.args.room (omega (arith, c.machine_need.ensures, c.capacity_asked.ensures)) (omega (arith, c.room_for.ensures)))

pub returns-then-capacity-lt1 : goal.returns-then-capacity-lt1
returns-then-capacity-lt1 c = sym (lent_below c.args.capacity c.args.bytes c.args.lent c.args.room (omega (arith, c.machine_need.ensures, c.capacity_asked.ensures)) (omega (arith, c.room_for.ensures)) (omega arith))

pub returns-then-capacity-gt-MOST_CAPACITY : goal.returns-then-capacity-gt-MOST_CAPACITY
returns-then-capacity-gt-MOST_CAPACITY c = sym (lent-above c.args.capacity c.args.bytes c.args.lent c.args.room (omega (arith, c.machine_need.ensures, c.capacity_asked.ensures)) (omega (arith, c.room_for.ensures)) (omega arith))

pub returns : goal.returns
returns c = sym (lent-passes c.args.capacity c.args.bytes c.args.lent c.args.room (omega (arith, c.machine_need.ensures, c.capacity_asked.ensures)) (omega (arith, c.room_for.ensures)) (omega arith) (omega arith))
