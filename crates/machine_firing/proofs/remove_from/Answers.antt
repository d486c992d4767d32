use native.Mathlib.Omega.{arith}
use mathlib.Core.Path.{◌≡◌, refl}
use Prim.Native.Nat.{◌+◌, ◌-◌}
use borrow.Author.Tests.{lt-ltb, le-ltb}
use Rattle.machine_firing.specs.Links.{removed_from}
use lib.Seq.{drop-drop}
use Rattle.machine_firing.proofs.remove_from.Goals as goal

pub returns-then-l-lt-LINKS : goal.returns-then-l-lt-LINKS
unfolding removed_from
returns-then-l-lt-LINKS c = let k : c.link_from-a.result + c.args.links.size - c.link_from-a.result ≡ c.args.links.size = omega arith in simp (lt-ltb c.args.l 3105 c.if-l-lt-LINKS.true) (rw (k, drop-drop c.args.links.size c.link_from-a.result c.args.mem.now, rw k at c.remove_first.ensures, c.link_from-a.ensures.0) refl)

pub returns-else-l-lt-LINKS : goal.returns-else-l-lt-LINKS
unfolding removed_from
returns-else-l-lt-LINKS c = simp (le-ltb c.args.l 3105 c.if-l-lt-LINKS.false)
