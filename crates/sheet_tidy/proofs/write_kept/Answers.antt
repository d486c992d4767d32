use Prim.Native.Nat.{ℕ}
use mathlib.Core.Path.{refl, sym, ◌∙◌, ap}
use mathlib.Core.Bool.{Bool, false}
use mathlib.Core.List.{List}
use native.Mathlib.Omega.{arith}
use lib.ListN.{replicate, length, take}
use lib.Seq.{sets}
use Rattle.sheet_fields.proofs.TableLaws.{part_length, lent_length, whole_length, part-back, take-replicate}
use Rattle.sheet_tidied.specs.Text.{sheet_text}
use Rattle.sheet_tidied.specs.Tidy.{kept_rows}
use Rattle.sheet_tidy.proofs.KeptLaws.{numbers-back, rows-counted}
use Rattle.sheet_tidy.proofs.write_kept.Goals as goal

pub slice_bounds-find_kept-end : goal.slice_bounds-find_kept-end
slice_bounds-find_kept-end c = part_length c.args.n 200 c.requires.2 (replicate 200 false) refl

pub find_kept-requires : goal.find_kept-requires
find_kept-requires c = (c.requires.0, c.requires.1, take-replicate c.args.n 200 false c.requires.2, c.requires.3)

pub slice_bounds-kept-end-2 : goal.slice_bounds-kept-end-2
slice_bounds-kept-end-2 c = let e = whole_length c.args.n 200 c.requires.2 (replicate 200 false) refl c.find_kept.new.kept c.find_kept.auto.kept in omega (arith, e, c.requires.2)

pub slice_bounds-number_rows-end : goal.slice_bounds-number_rows-end
slice_bounds-number_rows-end c = sym (ap length (part-back c.args.n 200 c.requires.2 (replicate 200 false) refl c.find_kept.new.kept c.find_kept.auto.kept) ∙ lent_length c.args.n 200 c.requires.2 (replicate 200 false) refl c.find_kept.new.kept c.find_kept.auto.kept)

pub slice_bounds-number_rows-end-2 : goal.slice_bounds-number_rows-end-2
slice_bounds-number_rows-end-2 c = part_length c.args.n 200 c.requires.2 (replicate 200 0) refl

pub number_rows-rows-requires : goal.number_rows-rows-requires
number_rows-rows-requires c = let e = (ap length (part-back c.args.n 200 c.requires.2 (replicate 200 false) refl c.find_kept.new.kept c.find_kept.auto.kept) ∙ lent_length c.args.n 200 c.requires.2 (replicate 200 false) refl c.find_kept.new.kept c.find_kept.auto.kept) in let f = part_length {A = ℕ} c.args.n 200 c.requires.2 (replicate 200 0) refl in (omega (arith, e, c.requires.2), omega (arith, e, f))

pub slice_bounds-kept-end-3 : goal.slice_bounds-kept-end-3
slice_bounds-kept-end-3 c = let e = whole_length c.args.n 200 c.requires.2 (replicate 200 false) refl c.find_kept.new.kept c.find_kept.auto.kept in omega (arith, e, c.requires.2)

pub slice_bounds-write_rows-end : goal.slice_bounds-write_rows-end
slice_bounds-write_rows-end c = sym (ap length (part-back c.args.n 200 c.requires.2 (replicate 200 false) refl c.find_kept.new.kept c.find_kept.auto.kept) ∙ lent_length c.args.n 200 c.requires.2 (replicate 200 false) refl c.find_kept.new.kept c.find_kept.auto.kept)

pub slice_bounds-numbers-end-2 : goal.slice_bounds-numbers-end-2
slice_bounds-numbers-end-2 c = let e = whole_length c.args.n 200 c.requires.2 (replicate 200 0) refl c.number_rows-rows.new.numbers c.number_rows-rows.auto.numbers in omega (arith, e, c.requires.2)

pub slice_bounds-write_rows-end-2 : goal.slice_bounds-write_rows-end-2
slice_bounds-write_rows-end-2 c = sym (ap length (part-back c.args.n 200 c.requires.2 (replicate 200 0) refl c.number_rows-rows.new.numbers c.number_rows-rows.auto.numbers) ∙ lent_length c.args.n 200 c.requires.2 (replicate 200 0) refl c.number_rows-rows.new.numbers c.number_rows-rows.auto.numbers)

pub write_rows-requires : goal.write_rows-requires
write_rows-requires c = (c.requires.0, c.requires.3, (ap length (part-back c.args.n 200 c.requires.2 (replicate 200 false) refl c.find_kept.new.kept c.find_kept.auto.kept) ∙ lent_length c.args.n 200 c.requires.2 (replicate 200 false) refl c.find_kept.new.kept c.find_kept.auto.kept), (ap length (part-back c.args.n 200 c.requires.2 (replicate 200 0) refl c.number_rows-rows.new.numbers c.number_rows-rows.auto.numbers) ∙ lent_length c.args.n 200 c.requires.2 (replicate 200 0) refl c.number_rows-rows.new.numbers c.number_rows-rows.auto.numbers), numbers-back c.args.n _ c.number_rows-rows.new.numbers _ (part-back c.args.n 200 c.requires.2 (replicate 200 0) refl c.number_rows-rows.new.numbers c.number_rows-rows.auto.numbers) (ap length (part-back c.args.n 200 c.requires.2 (replicate 200 false) refl c.find_kept.new.kept c.find_kept.auto.kept) ∙ lent_length c.args.n 200 c.requires.2 (replicate 200 false) refl c.find_kept.new.kept c.find_kept.auto.kept) c.number_rows-rows.ensures.1, c.requires.4)

pub returns : goal.returns
returns c = (
  rows-counted c.args.fields.now c.args.n c.number_rows-rows.result _ (part-back c.args.n 200 c.requires.2 (replicate 200 false) refl c.find_kept.new.kept c.find_kept.auto.kept ∙ c.find_kept.ensures) c.number_rows-rows.ensures.0,
  c.write_rows.ensures ∙ ap (λ (k : List Bool). sets c.args.out.now 0 (sheet_text (kept_rows c.args.fields.now k c.args.n))) (part-back c.args.n 200 c.requires.2 (replicate 200 false) refl c.find_kept.new.kept c.find_kept.auto.kept ∙ c.find_kept.ensures),
)
