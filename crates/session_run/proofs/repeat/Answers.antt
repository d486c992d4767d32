use native.Mathlib.Omega.{arith}
use mathlib.Core.Path.{sym, ◌∙◌, refl}
use lib.Seq.{length-take-le}
use Rattle.session.proofs.Ending.{proceeds-on, comes-on, comes-to-end}
use Rattle.session_run.proofs.repeat.Goals as goal

pub slice_bounds-write_all-end-2 : goal.slice_bounds-write_all-end-2
slice_bounds-write_all-end-2 g c = sym (length-take-le c.args.opened.stage.printed c.args.out.now (omega (arith, c.requires.kinds_len_bound.2, c.requires.kinds_len_bound.3)))

pub loop-stage-init : goal.loop-stage-init
loop-stage-init g c = (refl, refl, c.requires.kinds_len_bound.1, c.requires.proceeds, λ last t. t)

pub pass-stage-requires : goal.pass-stage-requires
pass-stage-requires g c = (c.requires.kinds_len_bound.0, c.loop-stage.invariant.2, omega (arith, c.loop-stage.invariant.1, c.requires.kinds_len_bound.3), (c.loop-stage.invariant.3.rest, c.loop-stage.invariant.3.waits))

pub slice_bounds-write_all-end-in-loop-stage-2 : goal.slice_bounds-write_all-end-in-loop-stage-2
slice_bounds-write_all-end-in-loop-stage-2 g c = sym (length-take-le c.pass-stage.result.printed c.pass-stage.new.out (omega (arith, c.pass-stage.ensures.at_in_bounds.1, c.pass-stage.auto.out, c.loop-stage.invariant.1, c.requires.kinds_len_bound.3)))

pub loop-stage-smaller : goal.loop-stage-smaller
loop-stage-smaller g c = (proceeds-on c.args.kinds.now c.args.sets.now c.loop-stage.stage c.loop-stage.mem c.pass-stage.result c.pass-stage.new.mem c.pass-stage.new.out c.loop-stage.invariant.3 (omega (arith, c.loop-stage-test.true)) c.pass-stage.ensures.passes_to).less

pub loop-stage-preserved : goal.loop-stage-preserved
loop-stage-preserved g c = (c.pass-stage.auto.mem ∙ c.loop-stage.invariant.0, c.pass-stage.auto.out ∙ c.loop-stage.invariant.1, c.pass-stage.ensures.at_in_bounds.0, (proceeds-on c.args.kinds.now c.args.sets.now c.loop-stage.stage c.loop-stage.mem c.pass-stage.result c.pass-stage.new.mem c.pass-stage.new.out c.loop-stage.invariant.3 (omega (arith, c.loop-stage-test.true)) c.pass-stage.ensures.passes_to).on, comes-on c.args.kinds.now c.args.sets.now c.args.opened.stage c.args.mem.now c.loop-stage.stage c.loop-stage.mem c.pass-stage.result c.pass-stage.new.mem c.pass-stage.new.out (omega (arith, c.loop-stage-test.true)) c.pass-stage.ensures.passes_to c.loop-stage.invariant.4)

pub returns : goal.returns
returns g c = comes-to-end c.args.kinds.now c.args.sets.now c.args.opened.stage c.args.mem.now c.loop-stage.stage c.loop-stage.mem (omega (arith, c.loop-stage-test.false)) c.loop-stage.invariant.4
