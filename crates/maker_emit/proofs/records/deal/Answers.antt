use Rattle.std.proofs.Common.{◌<◌, ◌∙◌, ap, length, arith, rules, refl, ℕ}
use lib.ListN.{length-set}
use Rattle.std.proofs.lemmas.List.Elements.{All-rest}
use Rattle.maker_laid.specs.Masked.{mask-inside}
use Rattle.maker_emit.proofs.Turns.{begun, deal-turn, deal-end}
use Rattle.maker_emit.proofs.records.deal.Goals as goal

pub loop-x-init : goal.loop-x-init
loop-x-init c =
    rw (begun _ c.requires.0 _ _ c.into_iter-x-iterator.ensures.into_iter_gives c.members-x-items.ensures)
    record { can = tt; ends = tt; small = c.requires.1; inside = mask-inside _ c.requires.0; fits = c.requires.2; size = search rules; rest = refl }

pub loop-x-preserved : goal.loop-x-preserved
loop-x-preserved c =
    let w = c.in-Some.ensures.steps in
    record {
      can = tt;
      ends = tt;
      small = c.loop-x.invariant.small;
      inside = All-rest (λ x. x < 33) _ _ _ w c.loop-x.invariant.inside;
      fits = omega (arith, ap (length {A = ℕ}) w);
      size = simp length-set c.loop-x.invariant.size;
      rest = deal-turn _ _ _ w _ _ _ ∙ c.loop-x.invariant.rest;
    }

pub returns : goal.returns
returns c = deal-end _ c.in-None.ensures.steps.0 _ _ _ _ c.loop-x.invariant.rest
