use Rattle.std.proofs.Common.{◌<◌, ◌∙◌, ap, length, arith, rules, refl, ℕ}
use mathlib.Core.Logic.{inl}
use lib.ListN.{length-set}
use Rattle.std.proofs.lemmas.List.Elements.{All-rest}
use Rattle.maker_laid.specs.Masked.{mask-inside, mask-short}
use Rattle.maker_emit.proofs.Turns.{begun-counted, assign-turn, assign_end}
use Rattle.maker_emit.proofs.records.assign.Goals as goal

pub loop-k-init : goal.loop-k-init
loop-k-init c =
    let b = begun-counted _ c.requires _ _ _ c.into_iter-k-iterator.ensures.into_iter_gives c.enumerate-k-items.ensures.source c.members.ensures c.enumerate-k-items.ensures.count in
    rw (b.0, b.1)
    record {
      can = (tt, tt, inl (omega (arith, mask-short _ c.requires)));
      ends = tt;
      inside = mask-inside _ c.requires;
      fits = omega (arith, mask-short _ c.requires);
      size = search rules;
      links = search rules;
      rest = refl;
    }

pub loop-k-preserved : goal.loop-k-preserved
loop-k-preserved c =
    let w = c.in-Some.ensures.steps in
    let n = ap (length {A = ℕ}) w.0 in
    let s = c.loop-k.invariant in
    record {
      can = (tt, tt, inl (omega arith));
      ends = tt;
      inside = All-rest (λ x. x < 33) _ _ _ w.0 s.inside;
      fits = omega arith;
      size = simp length-set s.size;
      links = s.links;
      rest = rw (w.2, w.1) (assign-turn _ _ _ w.0 _ _ c.loop-k.k-iterator.count (omega arith) ∙ s.rest);
    }

pub returns : goal.returns
returns c = assign_end _ c.in-None.ensures.steps.0.0 _ _ _ c.loop-k.invariant.rest
