use mathlib.Core.Path.{sym, ◌∙◌, ap, ◌≡◌}
use mathlib.Core.Bool.{false}
use mathlib.Core.List.{[], ◌∷◌}
use native.Mathlib.Omega.{arith}
use Prim.Native.Nat.{◌-◌}
use lib.ListN.{length, length-replicate}
use Rattle.formula.specs.Places.{mark}
use Rattle.sheet_tidied.specs.Tidy.{keep_down, kept_of}
use Rattle.sheet_tidied.proofs.KeptLaws.{keep-step}
use Rattle.sheet_tidy.proofs.kept.find_kept.Goals as goal

pub mark_one-requires : goal.mark_one-requires
mark_one-requires c = let e : length c.args.kept.now ≡ c.args.n = ap length c.requires.2 ∙ length-replicate c.args.n false in (omega arith, omega arith)

pub loop-r-init : goal.loop-r-init
unfolding kept_of mark
loop-r-init c =
    let e : length c.args.kept.now ≡ c.args.n = ap length c.requires.2 ∙ length-replicate c.args.n false in
    (omega arith, ap (keep_down c.args.fields.now c.args.n) (c.mark_one.ensures ∙ ap (mark (c.args.n ∷ [])) c.requires.2), c.mark_one.auto.marks ∙ e)

pub keep_row-requires : goal.keep_row-requires
keep_row-requires c = (omega arith, omega arith, omega arith, c.requires.3.names c.loop-r.r (omega arith) (omega arith))

pub loop-r-preserved : goal.loop-r-preserved
loop-r-preserved c = (
  omega arith,
  ap (keep_down c.args.fields.now (c.loop-r.r - 1)) c.keep_row.ensures ∙ sym (keep-step c.args.fields.now c.loop-r.r c.loop-r.kept (omega arith)) ∙ c.loop-r.invariant.1,
  c.keep_row.auto.kept ∙ c.loop-r.invariant.2,
)

pub shape_of-kept : goal.shape_of-kept
shape_of-kept c = c.loop-r.invariant.2 ∙ sym (ap length c.requires.2 ∙ length-replicate c.args.n false)

pub returns : goal.returns
unfolding keep_down
returns c = let z : c.loop-r.r ≡ 0 = omega arith in (rw z at c.loop-r.invariant.1)
