use Rattle.std.proofs.Common.{◌<◌, ◌≡◌, ◌+◌, ap, length, arith, rules, refl, ℕ, inl}
use Rattle.std.proofs.lemmas.List.Elements.{All-rest}
use Rattle.maker_laid.specs.Masked.{mask-inside, mask-short}
use Rattle.maker_emit.proofs.Turns.{begun-counted}
use Rattle.maker_emit.proofs.Emits.{ring-again, ring-over}
use Rattle.maker_emit.proofs.emit.ring_gates.Goals as goal

pub loop-k-init : goal.loop-k-init
loop-k-init c =
    let b = begun-counted _ c.requires.0 _ _ _ c.into_iter-k-iterator.ensures.into_iter_gives c.enumerate-k-items.ensures.source c.members.ensures c.enumerate-k-items.ensures.count in
    let short = mask-short _ c.requires.0 in
    let z : c.args.m + 0 ≡ c.args.m = omega arith in
    rw (b.0, b.1)
    record {
      can = (tt, tt, inl (omega arith));
      ends = tt;
      inside = mask-inside _ c.requires.0;
      short = omega arith;
      fits = omega arith;
      room = search rules;
      kept = refl;
      controls = search rules;
      iterated = search rules;
      started = search rules;
      own = search rules;
      out = search rules;
      rest = rw z refl;
    }

pub loop-k-preserved : goal.loop-k-preserved
loop-k-preserved c =
    let w = c.in-Some.ensures.steps in
    let n = ap (length {A = ℕ}) w.0 in
    let s = c.loop-k.invariant in
    record {
      can = (tt, tt, inl (omega arith));
      ends = tt;
      inside = All-rest (λ x. x < 33) _ _ _ w.0 s.inside;
      short = omega arith;
      fits = omega arith;
      room = search rules;
      kept = search rules;
      controls = s.controls;
      iterated = s.iterated;
      started = s.started;
      own = s.own;
      out = s.out;
      rest = rw w.2
          (ring-again _ _ _ _ _ _ _ _ _ w.0 _ _ c.loop-k.k-iterator.count _ _ _ _ (omega arith) (rw w.1 at c.store_operator.ensures) (rw w.1 at c.ring_gate-o.ensures) c.has.ensures s.rest);
    }

pub returns : goal.returns
returns c =
    let a = c.args in
    ring-over a.ids a.controls a.iterated a.started a.own a.out _ c.in-None.ensures.steps.0.0 _ _ c.loop-k.k-iterator.count _ c.loop-k.invariant.rest
