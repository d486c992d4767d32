use Rattle.std.proofs.Common.{◌<◌, ap, length, arith, rules, refl, ℕ, inl}
use lib.ListN.{length-set}
use Rattle.std.proofs.lemmas.List.Elements.{All-rest}
use Rattle.maker_laid.specs.Masked.{mask-inside, mask-short}
use Rattle.maker_emit.proofs.Turns.{begun-counted, gather-turn, gather-end}
use Rattle.maker_emit.proofs.records.gather.Goals as goal

pub loop-k-init : goal.loop-k-init
loop-k-init c =
    let b = begun-counted _ c.requires _ _ _ c.into_iter-k-iterator.ensures.into_iter_gives c.enumerate-k-items.ensures.source c.members.ensures c.enumerate-k-items.ensures.count in
    let short = mask-short _ c.requires in
    rw (b.0, b.1)
    record {
      can = (tt, tt, inl (omega arith));
      ends = tt;
      inside = mask-inside _ c.requires;
      count = omega arith;
      short = short;
      size = search rules;
      env = search rules;
      rest = refl;
    }

pub loop-k-preserved : goal.loop-k-preserved
loop-k-preserved c =
    let w = c.in-Some.ensures.steps in
    let n = ap (length {A = ℕ}) w.0 in
    let s = c.loop-k.invariant in
    record {
      can = (tt, tt, inl (omega arith));
      ends = tt;
      inside = All-rest (λ x. x < 33) _ _ _ w.0 s.inside;
      count = omega arith;
      short = s.short;
      size = simp length-set s.size;
      env = s.env;
      rest = rw (w.2, w.1) (gather-turn _ _ _ w.0 _ _ c.loop-k.k-iterator.count _ (omega arith) s.rest);
    }

pub returns : goal.returns
returns c = gather-end _ c.in-None.ensures.steps.0.0 _ _ _ _ _ c.loop-k.invariant.count c.loop-k.invariant.rest
