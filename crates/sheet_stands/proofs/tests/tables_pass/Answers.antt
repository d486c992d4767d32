use mathlib.Core.Path.{sym, refl}
use lib.ListN.{replicate}
use Rattle.sheet_fields.proofs.TableLaws.{part_length}
use Rattle.sheet_stands.proofs.TestLaws.{tables-by}
use Rattle.sheet_stands.proofs.tests.tables_pass.Goals as goal

pub slice_bounds-test_widths-end : goal.slice_bounds-test_widths-end
slice_bounds-test_widths-end c = part_length c.args.n 5 c.requires.1 (replicate 5 0) refl

pub slice_bounds-test_widths-end-2 : goal.slice_bounds-test_widths-end-2
slice_bounds-test_widths-end-2 c = part_length c.args.n 5 c.requires.1 (replicate 5 0) refl

pub test_widths-requires : goal.test_widths-requires
test_widths-requires c = (c.requires.0, sym (part_length c.args.n 5 c.requires.1 (replicate 5 0) refl), sym (part_length c.args.n 5 c.requires.1 (replicate 5 0) refl))

pub returns-then-not-is_ok : goal.returns-then-not-is_ok
returns-then-not-is_ok c = rw (tables-by c.args.t.now c.args.n c.args.places.now, sym c.test_widths.ensures.0, sym c.is_ok.ensures.value, c.if-not-is_ok.true) refl

pub slice_bounds-test_bound-end : goal.slice_bounds-test_bound-end
slice_bounds-test_bound-end c = part_length c.args.n 5 c.requires.1 (replicate 5 0) refl

pub test_bound-requires : goal.test_bound-requires
test_bound-requires c = (c.requires.0, sym (part_length c.args.n 5 c.requires.1 (replicate 5 0) refl))

pub returns : goal.returns
returns c = rw (tables-by c.args.t.now c.args.n c.args.places.now, sym c.test_widths.ensures.0, sym c.is_ok.ensures.value, c.if-not-is_ok.false, sym c.test_bound.ensures.0) c.is_ok-2.ensures.value
