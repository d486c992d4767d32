use mathlib.Core.Path.{◌≡◌, refl, ap, ap₂, ◌∙◌, subst}
use mathlib.Core.List.{List}
use Prim.Native.Nat.{ℕ, ◌+◌, ◌*◌, ◌-◌}
use lib.ListN.{get_or, take}
use Rattle.graph.specs.Assembly.{chain, chain_ends, ring}
use Rattle.maker_laid.specs.Masked.{list_of}
use Rattle.names.specs.Names.{names_in}
use Rattle.maker_laid.specs.Encode.{encoded, written}
use Rattle.maker_laid.specs.Emitted.{assigned, link_in}
use Rattle.maker_parts.specs.Ranges.{list-range, mask-of-range}
use native.Mathlib.Omega.{arith}
use Rattle.maker_parts.proofs.closed.Goals as goal

pub assign-iterated-requires : goal.assign-iterated-requires
assign-iterated-requires c = mask-of-range c.args.binding.first c.args.binding.count c.range_mask-ids.result (omega (arith, c.requires.1)) c.range_mask-ids.ensures

pub assign-started-requires : goal.assign-started-requires
assign-started-requires c = mask-of-range c.args.binding.first c.args.binding.count c.range_mask-ids.result (omega (arith, c.requires.1)) c.range_mask-ids.ensures

pub ring_gates-requires : goal.ring_gates-requires
ring_gates-requires c = (c.requires.0, omega (arith, c.names_in-k.ensures.0, c.requires.2, c.requires.4), omega (arith, c.requires.6, c.mem-1.given))

pub overflow_sub-end : goal.overflow_sub-end
overflow_sub-end c = omega (arith, c.names_in-k.ensures.0, c.requires.2)

pub overflow_mul-end : goal.overflow_mul-end
overflow_mul-end c = omega (arith, c.names_in-k.ensures.1)

pub overflow_add-end : goal.overflow_add-end
overflow_add-end c = omega (arith, c.names_in-k.ensures.1, c.requires.5)

pub overflow_add-end-2 : goal.overflow_add-end-2
overflow_add-end-2 c = omega (arith, c.names_in-k.ensures.0, c.names_in-k.ensures.1, c.requires.4)

pub returns : goal.returns
returns c = record { middle = c.spread-controls.new.mem; controls = c.spread-controls.result; again = c.part-again.result; iterated = c.assign-iterated.result; started = c.assign-started.result; chained = c.spread-controls.ensures.0 ∙ ap (λ (k : ℕ). written c.args.mem.now c.args.y.next.operator (encoded (chain (get_or c.args.y.outs 0 0) c.args.y.next.link k))) c.names_in-k.ensures.0; ends = subst (λ (k : ℕ). take k c.spread-controls.result ≡ chain_ends (get_or c.args.y.outs 0 0) c.args.y.next.link k) c.names_in-k.ensures.0 c.spread-controls.ensures.1; taken = c.part-again.ensures; iterated-is = c.assign-iterated.ensures ∙ ap (λ (xs : List ℕ). assigned xs c.part-again.result c.args.env) (list-range c.args.binding.first c.args.binding.count c.range_mask-ids.result (omega (arith, c.requires.1)) c.range_mask-ids.ensures); started-is = c.assign-started.ensures ∙ ap (λ (xs : List ℕ). assigned xs c.args.x.outs c.args.env) (list-range c.args.binding.first c.args.binding.count c.range_mask-ids.result (omega (arith, c.requires.1)) c.range_mask-ids.ensures); ringed = c.ring_gates.ensures ∙ ap₂ (λ (k i : ℕ). written c.spread-controls.new.mem (c.args.y.next.operator + (k - 1)) (encoded (ring (list_of c.args.mask) (names_in i) c.spread-controls.result (link_in c.assign-iterated.result) (link_in c.assign-started.result) (link_in c.args.own) (link_in c.args.inner)))) c.names_in-k.ensures.0 c.range_mask-ids.ensures; count = refl; outs = c.part-outs.ensures; links = ap (λ (k : ℕ). c.args.y.next.link + 2 * (k - 1)) c.names_in-k.ensures.0; operators = ap (λ (k : ℕ). c.args.y.next.operator + (k - 1) + k) c.names_in-k.ensures.0 }
