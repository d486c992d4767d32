use mathlib.Core.Path.{refl, sym, ◌∙◌}
use mathlib.Core.Logic.{inl, inr}
use Rattle.machine_runs.proofs.rest.Goals as goal

pub returns-then-l-ge-LINKS : goal.returns-then-l-ge-LINKS
returns-then-l-ge-LINKS c = inl refl

pub returns-then-waiting_on-eq0 : goal.returns-then-waiting_on-eq0
returns-then-waiting_on-eq0 c = inr (c.without.ensures, rw c.port_of-l.ensures.0 at c.if-l-ge-LINKS.false, rw c.port_of-l.ensures.0 at (sym c.waiting_on.ensures.0 ∙ c.if-waiting_on-eq0.true))

pub returns : goal.returns
returns c = inl refl
