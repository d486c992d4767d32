use Prim.Native.Nat.{◌+◌, ◌-◌, ◌*◌, ◌%◌}
use native.Mathlib.Omega.{arith}
use mathlib.Core.Path.{◌≡◌, refl}
use lib.Seq.{drop-drop}
use Rattle.machine_firing.specs.Parts.{part_length}
use Rattle.machine_tag_runs.proofs.step_pair.Goals as goal

pub plane_at-plane-requires : goal.plane_at-plane-requires
plane_at-plane-requires c = omega arith

pub overflow_mul-a : goal.overflow_mul-a
overflow_mul-a c = omega arith

pub overflow_add-e : goal.overflow_add-e
overflow_add-e c = omega arith

pub offset_bounds-awake-a : goal.offset_bounds-awake-a
offset_bounds-awake-a c = omega arith

pub slice_bounds-step_plane-count : goal.slice_bounds-step_plane-count
slice_bounds-step_plane-count c = omega arith

pub slice_bounds-step_plane-start : goal.slice_bounds-step_plane-start
slice_bounds-step_plane-start c = omega arith

pub slice_bounds-step_plane-end : goal.slice_bounds-step_plane-end
slice_bounds-step_plane-end c = omega arith

pub step_plane-s-requires : goal.step_plane-s-requires
step_plane-s-requires c =
    let k : 16 * (c.args.v % 16) + 16 - 16 * (c.args.v % 16) ≡ 16 = omega arith in
    rw (k, c.plane_at-plane.ensures) (omega arith, omega arith, omega arith, part_length c.args.awake.now (16 * (c.args.v % 16)) 16 (omega (arith, c.requires.2)), c.requires.4)

pub overflow_mul-firsts : goal.overflow_mul-firsts
overflow_mul-firsts c = omega (arith, c.step_plane-s.ensures.first.upto)

pub overflow_add-firsts : goal.overflow_add-firsts
overflow_add-firsts c = omega (arith, c.step_plane-s.ensures.first.upto)

pub offset_bounds-firsts-t : goal.offset_bounds-firsts-t
offset_bounds-firsts-t c = omega arith

pub bounds-firsts-t : goal.bounds-firsts-t
bounds-firsts-t c = omega arith

pub shape_of-mem : goal.shape_of-mem
shape_of-mem c = omega arith

pub shape_of-awake : goal.shape_of-awake
shape_of-awake c = omega arith

pub returns : goal.returns
returns c =
    let k : 16 * (c.args.v % 16) + 16 - 16 * (c.args.v % 16) ≡ 16 = omega arith in
    record {
      next = c.step_plane-s.result.next;
      own = c.step_plane-s.new.awake;
      stepped = rw (k, c.plane_at-plane.ensures) at c.step_plane-s.ensures;
      words = rw (k, drop-drop 16 (16 * (c.args.v % 16)) c.args.awake.now) refl;
      firsts = refl;
      bytes = λ j. omega (arith, c.slice_known-1.given j);
    }
