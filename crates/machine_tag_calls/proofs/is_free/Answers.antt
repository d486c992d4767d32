use native.Mathlib.Omega.{arith}
use mathlib.Core.Path.{sym, ◌∙◌}
use borrow.Author.Tests.{eq-eqb, ne_eqb}
use Rattle.machine_planes.specs.Planes.{untaken_under}
use Rattle.machine_tags.specs.TagCalls.{free_tag}
use Rattle.machine_tag_calls.proofs.is_free.Goals as goal

pub returns-then-untaken_under-ne0 : goal.returns-then-untaken_under-ne0
unfolding free_tag
returns-then-untaken_under-ne0 c = simp (ne_eqb (untaken_under c.args.mem.now c.args.t) 0 (λ e. c.if-untaken_under-ne0.true (c.untaken_under.ensures ∙ e)))

pub are_empty-requires : goal.are_empty-requires
are_empty-requires c = (omega arith, omega arith, omega (arith, c.links.ensures.0))

pub returns : goal.returns
unfolding free_tag
returns c = simp (eq-eqb (untaken_under c.args.mem.now c.args.t) 0 (sym c.untaken_under.ensures ∙ c.if-untaken_under-ne0.false)) (rw c.links.ensures.0 at c.are_empty.ensures)
