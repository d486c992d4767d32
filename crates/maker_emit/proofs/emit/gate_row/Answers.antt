use Rattle.std.proofs.Common.{◌≡◌, ◌+◌, ◌-◌, ◌*◌, arith, rules, refl, sym}
use lib.ListN.{length-set}
use Rattle.maker_laid.specs.Emitted.{outputs-none}
use Rattle.maker_emit.proofs.Emits.{row-again, row_ends, row-over, outs-again, outs-ends}
use Rattle.maker_emit.proofs.emit.gate_row.Goals as goal

pub returns-then-k-eq0 : goal.returns-then-k-eq0
returns-then-k-eq0 c = (row-over _ _ _ _ _ _ c.args.k _ _ _ refl (omega arith) (λ e. omega arith), rw c.if-k-eq0.true (sym (outputs-none _)))

pub loop-i-preserved : goal.loop-i-preserved
loop-i-preserved c =
    let i = c.loop-i.i in
    let a = c.args in
    let s = c.loop-i.invariant in
    let l = a.n + 3 * i in
    let at : a.m + 2 * (i + 1) ≡ a.m + 2 * i + 2 = omega arith in
    let next : a.n + 3 * (i + 1) ≡ l + 3 = omega arith in
    let less : a.k - (i + 1) ≡ a.k - i - 1 = omega arith in
    record {
      room = search rules;
      kept = search rules;
      size = simp length-set s.size;
      rest = rw (at, next, less)
          (row-again _ _ _ _ _ _ _ _ _ _ s.rest (omega arith) _ _ _ _ c.store_operator.ensures c.copy_of.ensures c.store_operator-in-loop-i.ensures c.gate_of.ensures);
      links = rw (next, less) (outs-again _ _ a.k _ _ _ s.links (omega arith) (omega arith) (omega arith));
    }

pub returns : goal.returns
returns c =
    let s = c.loop-i.invariant in
    let last : c.loop-i.i ≡ c.args.k - 1 = omega arith in (
      row_ends _ _ _ _ _ _ _ _ _ _ s.rest (omega arith) _ _ (rw (← last) at c.store_operator-2.ensures) (rw (← last) at c.gate_of-2.ensures),
      rw (← last) (outs-ends _ _ _ _ _ _ s.links (omega arith) (omega arith) (omega arith)),
    )
