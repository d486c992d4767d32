use native.Mathlib.Omega.{arith}
use borrow.Author.Tests.{eqb-true, not-false}
use lib.Dec.{eqb}
use lib.ListN.{get_or}
use Rattle.machine_tag_marks.specs.FirstInputs.{none-absent, none-empty}
use Rattle.machine_tag_marks.proofs.waits.Goals as goal

pub port_of-l-requires : goal.port_of-l-requires
port_of-l-requires c = omega arith

pub returns-then-l-ge-LINKS : goal.returns-then-l-ge-LINKS
returns-then-l-ge-LINKS c = λ e. rw c.port_of-l.ensures.0 at (none-absent c.args.mem.now c.args.base c.port_of-l.result c.if-l-ge-LINKS.true)

pub link_from-at-requires : goal.link_from-at-requires
link_from-at-requires c = omega arith

pub bounds-mem-at : goal.bounds-mem-at
bounds-mem-at c = omega arith

pub returns : goal.returns
returns c =
    λ e. rw c.port_of-l.ensures.0 at
    (none-empty c.args.mem.now c.args.base c.port_of-l.result (omega arith)
    (rw c.link_from-at.ensures.0 at (eqb-true (get_or c.args.mem.now c.link_from-at.result 0) 0 (not-false (eqb (get_or c.args.mem.now c.link_from-at.result 0) 0) e))))
