use mathlib.Core.Path.{sym, ◌∙◌, ap, subst, refl}
use native.Mathlib.Omega.{arith}
use Prim.Native.Nat.{◌-◌}
use lib.ListN.{length, get_or, replicate}
use Rattle.sheet_tables.specs.Nodes.{node_at, returned_in, Holds}
use Rattle.sheet_tables.specs.Ends.{ends_in}
use Rattle.sheet_tables.specs.Ready.{Ready}
use Rattle.sheet_tables.proofs.LoopLaws.{same-loops}
use Rattle.sheet_fields.proofs.TableLaws.{part_length, lent_length, whole_length, part-back, take-replicate}
use Rattle.sheet_count.proofs.count.test_operators.Goals as goal

pub slice_bounds-find_ends-end : goal.slice_bounds-find_ends-end
slice_bounds-find_ends-end c = part_length c.args.n 200 c.requires.2 (replicate 200 0) refl

pub find_ends-requires : goal.find_ends-requires
find_ends-requires c = (subst (λ x. Ready c.args.fields.now c.args.n x) c.requires.0.places c.requires.0, sym (part_length c.args.n 200 c.requires.2 (replicate 200 0) refl))

pub slice_bounds-find_loops-end : goal.slice_bounds-find_loops-end
slice_bounds-find_loops-end c = part_length c.args.n 200 c.requires.2 (replicate 200 0) refl

pub find_loops-requires : goal.find_loops-requires
find_loops-requires c = (c.requires.0, c.requires.3.returned-size, take-replicate c.args.n 200 0 c.requires.2)

pub slice_bounds-loops-end-2 : goal.slice_bounds-loops-end-2
slice_bounds-loops-end-2 c = let e = whole_length c.args.n 200 c.requires.2 (replicate 200 0) refl c.find_loops.new.loops c.find_loops.auto.loops in omega (arith, e, c.requires.2)

pub slice_bounds-count_rows-end : goal.slice_bounds-count_rows-end
slice_bounds-count_rows-end c =
    let l = c.find_loops.new.loops in
    sym (ap length (part-back c.args.n 200 c.requires.2 (replicate 200 0) refl l c.find_loops.auto.loops) ∙ lent_length c.args.n 200 c.requires.2 (replicate 200 0) refl l c.find_loops.auto.loops)

pub slice_bounds-ends-end-2 : goal.slice_bounds-ends-end-2
slice_bounds-ends-end-2 c = let e = whole_length c.args.n 200 c.requires.2 (replicate 200 0) refl c.find_ends.new.ends c.find_ends.auto.ends in omega (arith, e, c.requires.2)

pub slice_bounds-count_rows-end-2 : goal.slice_bounds-count_rows-end-2
slice_bounds-count_rows-end-2 c =
    let l = c.find_ends.new.ends in
    sym (ap length (part-back c.args.n 200 c.requires.2 (replicate 200 0) refl l c.find_ends.auto.ends) ∙ lent_length c.args.n 200 c.requires.2 (replicate 200 0) refl l c.find_ends.auto.ends)

pub count_rows-requires : goal.count_rows-requires
count_rows-requires c =
    let back = part-back c.args.n 200 c.requires.2 (replicate 200 0) refl c.find_ends.new.ends c.find_ends.auto.ends in
    let long = lent_length c.args.n 200 c.requires.2 (replicate 200 0) refl c.find_ends.new.ends c.find_ends.auto.ends in
    record {
      ready = c.requires.0;
      some = c.requires.1;
      few = c.requires.2;
      loops = part-back c.args.n 200 c.requires.2 (replicate 200 0) refl c.find_loops.new.loops c.find_loops.auto.loops ∙ c.find_loops.ensures
          ∙ same-loops c.args.fields.now c.args.places.now (λ k. get_or c.args.returned.now (k - 1) 0) (λ k. returned_in (node_at c.args.fields.now c.args.places.now k)) c.args.n c.requires.0.sound.named (λ k a b. c.requires.3.returned.entry k a b);
      masks = c.requires.3.masks;
      returned = c.requires.3.returned;
      iterated = c.requires.3.iterated;
      ends = subst (λ x. Holds 0 x c.args.n (λ k. ends_in (node_at c.args.fields.now c.args.places.now k))) (sym back)
          (subst (λ x. Holds 0 c.find_ends.new.ends c.args.n (λ k. ends_in (node_at c.args.fields.now x k))) (sym c.requires.0.places) c.find_ends.ensures);
      masks-size = c.requires.3.masks-size;
      returned-size = c.requires.3.returned-size;
      iterated-size = c.requires.3.iterated-size;
      ends-size = ap length back ∙ long;
    }

pub returns : goal.returns
returns c = c.count_rows.ensures
