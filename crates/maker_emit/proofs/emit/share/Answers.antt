use Rattle.std.proofs.Common.{◌<◌, ◌≡◌, ◌+◌, ap, length, arith, rules, refl, ℕ, inl}
use Rattle.std.proofs.lemmas.List.Elements.{All-rest}
use Rattle.maker_laid.specs.Masked.{mask-inside}
use Rattle.maker_emit.proofs.Turns.{begun-counted}
use Rattle.maker_emit.proofs.Emits.{share_again, share-end}
use Rattle.maker_emit.proofs.emit.share.Goals as goal

pub loop-i-init : goal.loop-i-init
loop-i-init c =
    let b = begun-counted _ c.requires.0 _ _ _ c.into_iter-i-iterator.ensures.into_iter_gives c.enumerate-i-items.ensures.source c.members.ensures c.enumerate-i-items.ensures.count in
    let z : c.args.m + 0 ≡ c.args.m = omega arith in
    rw (b.0, b.1)
    record {
      can = (tt, tt, inl (omega arith));
      ends = tt;
      inside = mask-inside _ c.requires.0;
      fits = omega arith;
      room = search rules;
      kept = refl;
      env = search rules;
      first = search rules;
      second = search rules;
      rest = rw z refl;
    }

pub loop-i-preserved : goal.loop-i-preserved
loop-i-preserved c =
    let w = c.in-Some.ensures.steps in
    let n = ap (length {A = ℕ}) w.0 in
    let s = c.loop-i.invariant in
    let z : c.args.m + (c.loop-i.i-iterator.count + 1) ≡ c.args.m + c.loop-i.i-iterator.count + 1 = omega arith in
    record {
      can = (tt, tt, inl (omega arith));
      ends = tt;
      inside = All-rest (λ x. x < 33) _ _ _ w.0 s.inside;
      fits = omega arith;
      room = search rules;
      kept = search rules;
      env = s.env;
      first = s.first;
      second = s.second;
      rest = rw (w.2, z) (share_again _ _ _ _ _ _ _ s.rest _ _ w.0 _ _ (rw w.1 at c.store_operator.ensures) c.copy_of.ensures);
    }

pub returns : goal.returns
returns c = share-end _ _ _ _ _ _ _ c.loop-i.invariant.rest c.in-None.ensures.steps.0.0
