use native.Mathlib.Omega.{arith}
use mathlib.Core.Path.{◌≡◌}
use Prim.Native.Nat.{◌+◌, ◌-◌}
use borrow.Author.Tests.{lt-ltb, le-ltb}
use Rattle.machine_firing.specs.Links.{head_from}
use Rattle.machine_firing.proofs.head_of.Goals as goal

pub returns-then-l-lt-LINKS : goal.returns-then-l-lt-LINKS
unfolding head_from
returns-then-l-lt-LINKS c = let k : c.link_from-a.result + c.args.links.size - c.link_from-a.result ≡ c.args.links.size = omega arith in (simp (lt-ltb c.args.l 3105 c.if-l-lt-LINKS.true) (rw (k, c.link_from-a.ensures.0) at c.head.ensures.0), c.head.ensures.1)

pub returns : goal.returns
unfolding head_from
returns c = (simp (le-ltb c.args.l 3105 c.if-l-lt-LINKS.false), omega arith)
