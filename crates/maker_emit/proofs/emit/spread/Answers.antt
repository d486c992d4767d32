use Rattle.std.proofs.Common.{◌≡◌, ◌+◌, ◌-◌, ◌*◌, arith, rules, refl, sym}
use lib.ListN.{length-set}
use Rattle.maker_laid.specs.Emitted.{ends-none}
use Rattle.maker_emit.proofs.Emits.{chain-again, chain-over, ends-again, ends-ends}
use Rattle.maker_emit.proofs.emit.spread.Goals as goal

pub returns-then-k-eq0 : goal.returns-then-k-eq0
returns-then-k-eq0 c = (chain-over _ _ c.args.k _ _ _ refl (omega arith), rw c.if-k-eq0.true (sym (ends-none _ _)))

pub loop-i-preserved : goal.loop-i-preserved
loop-i-preserved c =
    let i = c.loop-i.i in
    let a = c.args in
    let s = c.loop-i.invariant in
    let to = a.n + 2 * i in
    let at : a.m + (i + 1) ≡ a.m + i + 1 = omega arith in
    let next : a.n + 2 * (i + 1) ≡ to + 2 = omega arith in
    let less : a.k - (i + 1) ≡ a.k - i - 1 = omega arith in
    record {
      room = search rules;
      kept = search rules;
      size = simp length-set s.size;
      rest = rw (at, next, less) (chain-again _ _ _ _ _ _ s.rest (omega arith) _ _ c.store_operator.ensures c.copy_of.ensures);
      links = rw (next, less) (ends-again _ _ a.k _ _ _ _ s.links (omega arith) (omega arith) (omega arith));
    }

pub returns : goal.returns
returns c =
    let s = c.loop-i.invariant in
    let last : c.loop-i.i ≡ c.args.k - 1 = omega arith in
    (chain-over _ _ _ _ _ _ s.rest (omega arith), rw (← last) (ends-ends _ _ _ _ _ _ _ s.links (omega arith) (omega arith) (omega arith)))
