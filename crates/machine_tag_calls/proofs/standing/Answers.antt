use native.Mathlib.Omega.{arith}
use mathlib.Core.Path.{sym, ◌∙◌, refl}
use borrow.Author.Tests.{lt-ltb, le-ltb}
use lib.ListN.{length}
use Rattle.machine_planes.specs.Planes.{tagged_need}
use Rattle.machine_tags.specs.TagCalls.{tag_standing}
use Rattle.machine_tag_calls.proofs.standing.Goals as goal

pub returns-then-mem-lt-TAGGED_NEED : goal.returns-then-mem-lt-TAGGED_NEED
unfolding tag_standing
returns-then-mem-lt-TAGGED_NEED c = simp (lt-ltb (length c.args.mem.now) tagged_need (omega arith)) (refl, omega arith)

pub returns-then-not-is_valid : goal.returns-then-not-is_valid
unfolding tag_standing
returns-then-not-is_valid c = simp (le-ltb (length c.args.mem.now) tagged_need (omega arith), sym c.is_valid.ensures ∙ c.if-not-is_valid.true) (refl, omega arith)

pub returns : goal.returns
unfolding tag_standing
returns c = simp (le-ltb (length c.args.mem.now) tagged_need (omega arith), sym c.is_valid.ensures ∙ c.if-not-is_valid.false)
