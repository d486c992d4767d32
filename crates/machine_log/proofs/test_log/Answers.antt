use mathlib.Core.Path.{ap, sym, ◌∙◌}
use lib.ListN.{length}
use Rattle.formula.specs.Results.{Verdict}
use Rattle.formula.proofs.Results.{exit-at, passed-at}
use Rattle.machine_log.specs.CheckedLaws.{opened_by, log-no-set, log-fault, log-passes}
use Rattle.machine_log.proofs.test_log.Goals as goal

pub returns-then-not-are_sets : goal.returns-then-not-are_sets
returns-then-not-are_sets c =
    ap (λ (v : Verdict). opened_by v (length c.args.kinds.now) c.args.width)
    (sym (log-no-set c.args.kinds.now c.args.sets.now c.args.number c.args.log.now (sym c.are_sets.ensures ∙ c.if-not-are_sets.true)))

pub returns-in_err-at_row : goal.returns-in_err-at_row
returns-in_err-at_row c =
    let p = exit-at _ _ _ _ _ c.at_row.ensures c.in_err-at_row.was c.from_residual.ensures.1 in
    p.1
    ∙ ap (λ (v : Verdict). opened_by v (length c.args.kinds.now) c.args.width)
    (sym (log-fault c.args.kinds.now c.args.sets.now c.args.number c.args.log.now (sym c.are_sets.ensures ∙ c.if-not-are_sets.false) _ (sym c.bad_line.ensures ∙ p.0)))

pub returns : goal.returns
returns c =
    ap (λ (v : Verdict). opened_by v (length c.args.kinds.now) c.args.width)
    (sym (log-passes c.args.kinds.now c.args.sets.now c.args.number c.args.log.now (sym c.are_sets.ensures ∙ c.if-not-are_sets.false) (sym c.bad_line.ensures ∙ (passed-at _ _ _ (sym c.at_row.ensures ∙ c.in_ok-at_row.was)))))
