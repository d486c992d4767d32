use Prim.Native.Nat.{◌+◌, ◌-◌, ◌*◌}
use native.Mathlib.Omega.{arith}
use mathlib.Core.Path.{◌≡◌}
use lib.Seq.{drop-drop}
use Rattle.machine_firing.specs.Parts.{part_length}
use Rattle.machine_tag_runs.specs.TagMarks.{marked_more, words-length, firsts-length}
use Rattle.machine_tag_runs.proofs.mark_planes.Goals as goal

pub loop-t-init : goal.loop-t-init
loop-t-init c = (omega arith, c.requires.3, c.requires.4, λ o h. absurd (omega arith))

pub plane_at-base-requires : goal.plane_at-base-requires
plane_at-base-requires c = omega arith

pub overflow_mul-a : goal.overflow_mul-a
overflow_mul-a c = omega arith

pub overflow_add-e : goal.overflow_add-e
overflow_add-e c = omega arith

pub offset_bounds-awake-a : goal.offset_bounds-awake-a
offset_bounds-awake-a c = omega arith

pub slice_bounds-mark_plane-count : goal.slice_bounds-mark_plane-count
slice_bounds-mark_plane-count c = omega arith

pub slice_bounds-mark_plane-start : goal.slice_bounds-mark_plane-start
slice_bounds-mark_plane-start c = omega arith

pub slice_bounds-mark_plane-end : goal.slice_bounds-mark_plane-end
slice_bounds-mark_plane-end c = omega arith

pub mark_plane-next-requires : goal.mark_plane-next-requires
mark_plane-next-requires c =
    let k : 16 * c.loop-t.t + 16 - 16 * c.loop-t.t ≡ 16 = omega arith in
    rw (k, c.plane_at-base.ensures) (omega arith, c.requires.1, λ j h. (c.requires.2 j h).kind, part_length c.loop-t.awake (16 * c.loop-t.t) 16 (omega (arith, c.loop-t.invariant.1)))

pub overflow_mul-firsts : goal.overflow_mul-firsts
overflow_mul-firsts c = omega (arith, c.mark_plane-next.ensures.1.upto)

pub overflow_add-firsts : goal.overflow_add-firsts
overflow_add-firsts c = omega (arith, c.mark_plane-next.ensures.1.upto)

pub offset_bounds-firsts-t : goal.offset_bounds-firsts-t
offset_bounds-firsts-t c = omega arith

pub bounds-firsts-t : goal.bounds-firsts-t
bounds-firsts-t c = omega arith

pub loop-t-preserved : goal.loop-t-preserved
loop-t-preserved c =
    let k : 16 * c.loop-t.t + 16 - 16 * c.loop-t.t ≡ 16 = omega arith in
    let own = c.mark_plane-next.new.awake in
    let len = c.mark_plane-next.ensures.0 in
    rw (k, drop-drop 16 (16 * c.loop-t.t) c.loop-t.awake) (
      omega arith,
      words-length c.loop-t.awake c.loop-t.firsts c.loop-t.invariant.1 c.loop-t.invariant.2 c.loop-t.t c.loop-t-test.true own len c.mark_plane-next.result,
      firsts-length c.loop-t.awake c.loop-t.firsts c.loop-t.invariant.1 c.loop-t.invariant.2 c.loop-t.t c.loop-t-test.true own len c.mark_plane-next.result,
      marked_more c.loop-t.awake c.loop-t.firsts c.loop-t.invariant.1 c.loop-t.invariant.2 c.loop-t.t c.loop-t-test.true own len c.mark_plane-next.result c.args.mem.now c.args.n c.loop-t.invariant.3 c.mark_plane-next.ensures.1
          (rw c.plane_at-base.ensures at c.mark_plane-next.ensures.2),
    )

pub shape_of-awake : goal.shape_of-awake
shape_of-awake c = omega arith

pub shape_of-firsts : goal.shape_of-firsts
shape_of-firsts c = omega arith

pub returns : goal.returns
returns c = let e : c.loop-t.t ≡ 16 = omega arith in (c.loop-t.invariant.1, c.loop-t.invariant.2, rw e at c.loop-t.invariant.3)
