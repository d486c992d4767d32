use borrow.Author.Rules.{rules}
use Prim.Native.Nat.{◌+◌, ◌*◌, ◌≤◌}
use mathlib.Core.Path.{◌≡◌, refl, sym, ap, ◌∙◌}
use mathlib.Core.Bool.{Bool, cond}
use mathlib.Core.List.{[]}
use Rattle.maker_laid.specs.Counts.{first-none, second_none, both-iterate}
use Rattle.maker_laid.specs.Results.{none_is, some_is, iterated-second-only, iterated-first-only, iterated-merged}
use native.Mathlib.Omega.{arith}
use Rattle.maker_joins.proofs.join_iterated.Goals as goal

pub returns-then-xs-eq0 : goal.returns-then-xs-eq0
returns-then-xs-eq0 c = (omega arith, refl, sym (ap (λ (b : Bool). cond b c.args.xs.len c.args.ys.len) (none_is c.args.xs.len c.if-xs-eq0.true)), omega (arith, first-none c.args.xs.len c.args.ys.len c.if-xs-eq0.true), omega arith, λ env e p q. iterated-second-only _ _ env _ [] c.args.xs.at c.args.ys.at [] _ c.args.xs.len c.args.ys.len e p q c.if-xs-eq0.true (search rules))

pub returns-then-ys-eq0 : goal.returns-then-ys-eq0
returns-then-ys-eq0 c = (omega arith, refl, sym (ap (λ (b : Bool). cond b c.args.xs.len c.args.ys.len) (some_is c.args.xs.len c.if-xs-eq0.false)), omega (arith, second_none c.args.xs.len c.args.ys.len c.if-xs-eq0.false c.if-ys-eq0.true), omega arith, λ env e p q. iterated-first-only _ _ env _ [] c.args.xs.at c.args.ys.at [] _ c.args.xs.len c.args.ys.len e p q c.if-xs-eq0.false c.if-ys-eq0.true (search rules))

pub gates-requires : goal.gates-requires
gates-requires c = let h : (c.args.xs.len ≡ c.args.ys.len) × (c.args.next.operator + 2 * c.args.xs.len ≤ 1025) = c.requires.2 (omega arith) (omega arith) in ((omega arith, omega arith), h.1, omega arith, search rules)

pub returns : goal.returns
returns c = let h : (c.args.xs.len ≡ c.args.ys.len) × (c.args.next.operator + 2 * c.args.xs.len ≤ 1025) = c.requires.2 (omega arith) (omega arith) in (omega arith, omega arith, c.gates.ensures.2 ∙ sym (ap (λ (b : Bool). cond b c.args.xs.len c.args.ys.len) (some_is c.args.xs.len c.if-xs-eq0.false)), omega (arith, both-iterate c.args.xs.len c.args.ys.len c.if-xs-eq0.false c.if-ys-eq0.false (omega arith)), omega arith, λ env e p q. iterated-merged _ _ env _ _ c.args.xs.at c.args.ys.at _ _ c.args.xs.len c.args.ys.len e p q c.if-xs-eq0.false c.if-ys-eq0.false h.0 (omega arith) _ _ _ c.gates.ensures.0 c.gates.ensures.1 c.gates.ensures.2 c.gates.ensures.4 c.gates.ensures.5)
