use mathlib.Core.Path.{sym, ◌∙◌}
use borrow.Author.Tests.{eq-eqb, ne_eqb}
use Rattle.machine_layout.specs.Layout.{capacity_byte, untaken_of}
use Rattle.machine_tags.specs.TagValid.{tag_figures_ok}
use Rattle.machine_tag_valid.proofs.figures_ok.Goals as goal

pub returns-then-capacity_stored-ne-TAG_MARK : goal.returns-then-capacity_stored-ne-TAG_MARK
unfolding tag_figures_ok
returns-then-capacity_stored-ne-TAG_MARK c = simp (ne_eqb (capacity_byte c.args.mem.now) 17 (λ e. c.if-capacity_stored-ne-TAG_MARK.true (c.capacity_stored.ensures.0 ∙ e)))

pub returns-then-untaken-ne0 : goal.returns-then-untaken-ne0
unfolding tag_figures_ok
returns-then-untaken-ne0 c = simp (eq-eqb (capacity_byte c.args.mem.now) 17 (sym c.capacity_stored.ensures.0 ∙ c.if-capacity_stored-ne-TAG_MARK.false), ne_eqb (untaken_of c.args.mem.now) 0 (λ e. c.if-untaken-ne0.true (c.untaken.ensures.0 ∙ e)))

pub returns : goal.returns
unfolding tag_figures_ok
returns c = simp (eq-eqb (capacity_byte c.args.mem.now) 17 (sym c.capacity_stored.ensures.0 ∙ c.if-capacity_stored-ne-TAG_MARK.false), eq-eqb (untaken_of c.args.mem.now) 0 (sym c.untaken.ensures.0 ∙ c.if-untaken-ne0.false)) c.counts_ok.ensures
