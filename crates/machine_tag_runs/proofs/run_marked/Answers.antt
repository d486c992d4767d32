use Prim.Native.Nat.{ℕ, ◌+◌, ◌-◌, ◌*◌, ◌≤◌, ◌<◌}
use native.Mathlib.Omega.{arith}
use mathlib.Core.Path.{◌≡◌, refl, sym}
use Rattle.machine_tag_runs.specs.TagRunLaws.{going-full}
use Rattle.machine_tag_runs.specs.PlainFirings.{plain-valid}
use Rattle.machine_tag_runs.specs.TagMarks.{fast-start, fast-end, fast-fired, fast-idle, first-pair, spare, spare-most, fewer-left}
use Rattle.machine_tag_runs.proofs.run_marked.Goals as goal

-- a firing more, or a pair nearer to the end

fewer-firings : (d e x y : ℕ) → e ≡ d + 1 → x ≤ 262400 → 262401 * d + x < 262401 * e + y
fewer-firings d e x y p h = let q : 262401 * e ≡ 262401 * d + 262401 = omega arith in omega arith

pub slice_bounds-mark_planes-end : goal.slice_bounds-mark_planes-end
slice_bounds-mark_planes-end c = omega arith

pub slice_bounds-mark_planes-end-2 : goal.slice_bounds-mark_planes-end-2
slice_bounds-mark_planes-end-2 c = omega arith

pub mark_planes-requires : goal.mark_planes-requires
mark_planes-requires c = (c.requires.0, c.requires.1, plain-valid c.args.mem.now c.args.n c.requires.2 c.requires.3, refl, refl)

pub loop-fired-init : goal.loop-fired-init
loop-fired-init c =
    fast-start c.args.users.now c.args.mem.now c.args.n c.args.budget c.mark_planes.new.awake c.mark_planes.new.firsts
    (record {
      words = c.mark_planes.ensures.0;
      firsts = c.mark_planes.ensures.1;
      marked = c.mark_planes.ensures.2;
      filled = c.requires.4;
      plain = plain-valid c.args.mem.now c.args.n c.requires.2 c.requires.3;
    })

pub slice_bounds-least_pair-end : goal.slice_bounds-least_pair-end
slice_bounds-least_pair-end c = sym c.loop-fired.invariant.tables.firsts

pub least_pair-v-requires : goal.least_pair-v-requires
least_pair-v-requires c = c.loop-fired.invariant.tables.firsts

pub shape_of-mem-then-n-v : goal.shape_of-mem-then-n-v
shape_of-mem-then-n-v c = c.loop-fired.invariant.going.len

pub returns-then-n-v : goal.returns-then-n-v
returns-then-n-v c = fast-end c.args.users.now c.args.mem.now c.args.n c.args.budget c.loop-fired.mem c.loop-fired.awake c.loop-fired.firsts c.loop-fired.fired c.loop-fired.invariant c.least_pair-v.result c.least_pair-v.ensures c.if-n-v.true

pub slice_bounds-step_pair-end : goal.slice_bounds-step_pair-end
slice_bounds-step_pair-end c = sym c.loop-fired.invariant.tables.words

pub slice_bounds-step_pair-end-in-loop-fired : goal.slice_bounds-step_pair-end-in-loop-fired
slice_bounds-step_pair-end-in-loop-fired c = sym c.loop-fired.invariant.tables.firsts

pub step_pair-requires : goal.step_pair-requires
step_pair-requires c = (omega (arith, c.loop-fired.invariant.going.len), omega arith, c.loop-fired.invariant.tables.words, c.loop-fired.invariant.tables.firsts, first-pair c.args.users.now c.args.mem.now c.args.n c.args.budget c.loop-fired.mem c.loop-fired.awake c.loop-fired.firsts c.loop-fired.fired c.loop-fired.invariant c.least_pair-v.result c.least_pair-v.ensures (omega arith))

pub overflow_add-fired : goal.overflow_add-fired
overflow_add-fired c = omega arith

pub loop-fired-smaller-then-step_pair : goal.loop-fired-smaller-then-step_pair
loop-fired-smaller-then-step_pair c = fewer-firings (c.args.budget - (c.loop-fired.fired + 1)) (c.args.budget - c.loop-fired.fired) (spare c.step_pair.new.firsts) (spare c.loop-fired.firsts) (omega arith) (omega (arith, spare-most c.step_pair.new.firsts, c.step_pair.auto.firsts, c.loop-fired.invariant.tables.firsts))

pub loop-fired-preserved-then-step_pair : goal.loop-fired-preserved-then-step_pair
loop-fired-preserved-then-step_pair c = fast-fired c.args.users.now c.args.mem.now c.args.n c.args.budget c.loop-fired.mem c.loop-fired.awake c.loop-fired.firsts c.loop-fired.fired c.loop-fired.invariant c.least_pair-v.result c.least_pair-v.ensures (omega (arith, c.loop-fired.invariant.going.len)) c.requires.1 c.if-n-v.false c.step_pair.new.mem c.step_pair.new.awake c.step_pair.new.firsts c.step_pair.result c.step_pair.ensures c.loop-fired-test.true c.if-step_pair.true

pub loop-fired-smaller : goal.loop-fired-smaller
loop-fired-smaller c = omega (arith, fewer-left c.args.users.now c.args.mem.now c.args.n c.args.budget c.loop-fired.mem c.loop-fired.awake c.loop-fired.firsts c.loop-fired.fired c.loop-fired.invariant c.least_pair-v.result c.least_pair-v.ensures (omega (arith, c.loop-fired.invariant.going.len)) c.requires.1 c.if-n-v.false c.step_pair.new.mem c.step_pair.new.awake c.step_pair.new.firsts c.step_pair.result c.step_pair.ensures c.if-step_pair.false)

pub loop-fired-preserved : goal.loop-fired-preserved
loop-fired-preserved c = fast-idle c.args.users.now c.args.mem.now c.args.n c.args.budget c.loop-fired.mem c.loop-fired.awake c.loop-fired.firsts c.loop-fired.fired c.loop-fired.invariant c.least_pair-v.result c.least_pair-v.ensures (omega (arith, c.loop-fired.invariant.going.len)) c.requires.1 c.if-n-v.false c.step_pair.new.mem c.step_pair.new.awake c.step_pair.new.firsts c.step_pair.result c.step_pair.ensures c.if-step_pair.false

pub shape_of-mem : goal.shape_of-mem
shape_of-mem c = c.loop-fired.invariant.going.len

pub returns : goal.returns
returns c = going-full c.args.mem.now c.args.n c.args.budget c.loop-fired.mem c.loop-fired.fired c.loop-fired.invariant.going (omega arith)
