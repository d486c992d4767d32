use borrow.Author.Rules.{rules}
use Prim.Native.Nat.{ℕ, ◌≤◌, ◌+◌}
use mathlib.Core.Path.{◌≡◌, refl, sym, ap, ◌∙◌}
use mathlib.Core.Bool.{Bool, true, false, cond, ◌&&◌}
use mir.Val.{bool_byte}
use borrow.Author.Tests.{lt-ltb, le-ltb}
use lib.ListN.{take}
use Rattle.maker_laid.specs.Counts.{room-gate, room-iterated, room-returned, room-copied}
use Rattle.maker_laid.specs.Arms.{arms-laid, at_most}
use native.Mathlib.Omega.{arith}
use lib.Dec.{ltb}
use Rattle.maker_joins.proofs.join_arms.Goals as goal
use Rattle.maker_joins.proofs.join_arms.Goals.{then-x-gt0, else-x-gt0}

few : (b : Bool) (n : ℕ) → n ≡ bool_byte b → 2 + n ≤ 3
few true n h = omega arith
few false n h = omega arith

outputs : (b : Bool) (n : ℕ) → n ≡ bool_byte b → 2 + n ≡ cond b 3 2
outputs true n h = omega arith
outputs false n h = omega arith

pub store_operator-requires : goal.store_operator-requires
store_operator-requires c = (room-gate c.args.x.iterated.len c.args.y.iterated.len c.args.x.returned.len c.args.y.returned.len c.args.w c.args.next.operator c.requires.1.0 c.requires.1.1 c.requires.0.0 c.requires.0.1 c.requires.5, search rules)

pub join_iterated-i-requires : goal.join_iterated-i-requires
join_iterated-i-requires c = (c.requires.1.0, c.requires.1.1, λ p q. (c.requires.2 p q, room-iterated c.args.x.iterated.len c.args.y.iterated.len c.args.x.returned.len c.args.y.returned.len c.args.w c.args.next.operator c.requires.1.0 c.requires.1.1 c.requires.0.0 c.requires.0.1 c.requires.5 p q), omega (arith, c.requires.6, few _ _ c.from-outputs.ensures), search rules)

pub join_returned-r-requires : goal.join_returned-r-requires
join_returned-r-requires c = (c.requires.0.0, c.requires.0.1, c.requires.3, c.requires.4, room-returned c.args.x.iterated.len c.args.y.iterated.len c.args.x.returned.len c.args.y.returned.len c.args.w c.args.next.operator c.requires.1.0 c.requires.1.1 c.requires.0.0 c.requires.0.1 c.requires.5 _ c.join_iterated-i.ensures.3, room-copied c.args.x.iterated.len c.args.y.iterated.len c.args.x.returned.len c.args.y.returned.len c.args.w c.args.next.operator c.requires.1.0 c.requires.1.1 c.requires.0.0 c.requires.0.1 c.requires.5 _ c.join_iterated-i.ensures.3, omega (arith, c.requires.6, few _ _ c.from-outputs.ensures, c.join_iterated-i.ensures.4), omega (arith, c.requires.7, c.mem-1.given, c.mem-2-1.given))

pub listed-outs-requires : goal.listed-outs-requires
listed-outs-requires c = omega (arith, c.join_iterated-i.ensures.0, c.join_returned-r.ensures.0, c.requires.0.1)

pub overflow_add-result : goal.overflow_add-result
overflow_add-result c = omega (arith, c.join_iterated-i.ensures.0, c.requires.0.1)

pub overflow_add-result-2 : goal.overflow_add-result-2
overflow_add-result-2 c = omega (arith, c.join_iterated-i.ensures.0, c.requires.0.1)

pub shape_of-mem : goal.shape_of-mem
shape_of-mem c = c.mem-3-1.given ∙ c.mem-2-1.given ∙ c.mem-1.given

pub returns : goal.returns
returns c =
    let both : c.if-x-gt0.both ≡ ltb 0 c.args.x.iterated.len && ltb 0 c.args.y.iterated.len =
    elim c.if-x-gt0.branch [
      | then-x-gt0 w ↦ w.both-is ∙ ap (λ (b : Bool). b && ltb 0 c.args.y.iterated.len) (sym (lt-ltb 0 c.args.x.iterated.len w.if-x-gt0.true))
      | else-x-gt0 w ↦ w.both-is ∙ le-ltb 0 c.args.x.iterated.len w.if-x-gt0.false ∙ ap (λ (b : Bool). b && ltb 0 c.args.y.iterated.len) (sym (le-ltb 0 c.args.x.iterated.len w.if-x-gt0.false))
    ]
    in
    (c.join_iterated-i.ensures.2, refl, λ env e ax ay. arms-laid c.args.x.iterated.len c.args.y.iterated.len c.args.x.returned.len c.args.y.returned.len c.args.w c.args.next.link c.args.next.operator c.requires.1.0 c.requires.1.1 (at_most c.args.x.returned.len c.args.w c.requires.3 c.requires.0.1) (at_most c.args.y.returned.len c.args.w c.requires.4 c.requires.0.1) c.requires.0.1 c.if-x-gt0.both _ both (outputs _ _ c.from-outputs.ensures) env _ _ _ _ c.args.x.iterated.at c.args.y.iterated.at c.args.x.returned.at c.args.y.returned.at _ _ _ _ _ _ _ _ _ _ _ c.store_operator.ensures c.ic_of.ensures c.join_iterated-i.ensures.5 c.join_returned-r.ensures.1 (ap (λ (z : ℕ). take (1 + c.join_iterated-i.result.count + z) c.listed-outs.result) (sym c.join_returned-r.ensures.0) ∙ c.listed-outs.ensures) e ax ay)
