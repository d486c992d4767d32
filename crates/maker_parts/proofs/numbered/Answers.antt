use mathlib.Core.Path.{◌∙◌}
use lib.ListN.{length-set}
use Rattle.names.specs.Names.{size_from}
use Rattle.maker_parts.proofs.Numbering.{numbered-turn, numbered-all, count_turn, byte-bit, one_more}
use native.Mathlib.Omega.{arith}
use borrow.Author.Rules.{rules}
use Rattle.maker_parts.proofs.numbered.Goals as goal

pub loop-i-init : goal.loop-i-init
unfolding size_from
loop-i-init c = search rules

pub loop-i-preserved : goal.loop-i-preserved
loop-i-preserved c =
    let s = c.loop-i.invariant in
    let more = c.from-l.ensures ∙ byte-bit _ in
    record {
      size = simp length-set s.size;
      count = rw more (count_turn c.loop-i.i c.args.mask c.args.n c.loop-i.l _ s.count c.has.ensures);
      fits = rw more (one_more c.args.n c.loop-i.i c.loop-i.l c.has.result s.fits);
      links = numbered-turn c.loop-i.i c.args.mask c.args.n c.loop-i.l c.loop-i.link-items (omega arith) s.count s.links;
    }

pub returns : goal.returns
returns c = numbered-all c.loop-i.i c.args.mask c.args.n c.loop-i.link-items (omega arith) c.loop-i.invariant.links
