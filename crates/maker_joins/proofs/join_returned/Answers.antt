use borrow.Author.Rules.{rules}
use Prim.Native.Nat.{ℕ, ◌+◌, ◌*◌, ◌≤◌, ◌<◌}
use mathlib.Core.Path.{◌≡◌}
use lib.ListN.{get_or, replicate, get_or-replicate}
use Rattle.machine_layout.specs.Layout.{no_link}
use Rattle.maker_laid.specs.Results.{returned-neither, returned-second, returned-first, returned-both}
use native.Mathlib.Omega.{arith}
use Rattle.maker_joins.proofs.join_returned.Goals as goal

blank : (z : ℕ) → z < 33 → get_or (replicate 33 65535) z 0 ≡ no_link
blank z l = get_or-replicate 33 z 65535 0 l

pub returns-then-ys-eq0 : goal.returns-then-ys-eq0
returns-then-ys-eq0 c = (c.copies.ensures.2, λ env e p q. returned-neither _ _ env _ _ c.args.xs.at c.args.ys.at (replicate 33 65535) _ _ c.args.xs.len c.args.ys.len c.args.w e p q (omega arith) blank _ _ _ c.copies.ensures.2 c.if-xs-eq0.true c.if-ys-eq0.true c.copies.ensures.0 c.copies.ensures.1 c.copies.ensures.3 c.copies.ensures.4)

pub gates-requires : goal.gates-requires
gates-requires c = let h : c.args.next.operator + 2 * c.args.w ≤ 1025 = c.requires.4 (omega arith) in ((omega arith, omega arith), h, omega arith, search rules)

pub returns-then-xs-eq0 : goal.returns-then-xs-eq0
returns-then-xs-eq0 c = (c.gates.ensures.2, λ env e p q. returned-second _ _ env _ _ c.args.xs.at c.args.ys.at (replicate 33 65535) _ _ c.args.xs.len c.args.ys.len c.args.w e p q (omega arith) blank _ _ _ c.gates.ensures.2 c.if-xs-eq0.true c.if-ys-eq0.false (c.requires.3 (omega arith)) c.gates.ensures.0 c.gates.ensures.1 c.gates.ensures.4 c.gates.ensures.5)

pub gates-requires-then-ys-eq0-2 : goal.gates-requires-then-ys-eq0-2
gates-requires-then-ys-eq0-2 c = let h : c.args.next.operator + 2 * c.args.w ≤ 1025 = c.requires.4 (omega arith) in ((omega arith, omega arith), h, omega arith, search rules)

pub returns-then-ys-eq0-2 : goal.returns-then-ys-eq0-2
returns-then-ys-eq0-2 c = (c.gates-then-ys-eq0-2.ensures.2, λ env e p q. returned-first _ _ env _ _ c.args.xs.at c.args.ys.at (replicate 33 65535) _ _ c.args.xs.len c.args.ys.len c.args.w e p q (omega arith) blank _ _ _ c.gates-then-ys-eq0-2.ensures.2 c.if-xs-eq0.false c.if-ys-eq0-2.true (c.requires.2 (omega arith)) c.gates-then-ys-eq0-2.ensures.0 c.gates-then-ys-eq0-2.ensures.1 c.gates-then-ys-eq0-2.ensures.4 c.gates-then-ys-eq0-2.ensures.5)

pub gates-requires-2 : goal.gates-requires-2
gates-requires-2 c = let h : c.args.next.operator + 2 * c.args.w ≤ 1025 = c.requires.4 (omega arith) in ((omega arith, omega arith), h, omega arith, search rules)

pub returns : goal.returns
returns c = (c.gates-2.ensures.2, λ env e p q. returned-both _ _ env _ _ c.args.xs.at c.args.ys.at (replicate 33 65535) _ _ c.args.xs.len c.args.ys.len c.args.w e p q (omega arith) blank _ _ _ c.gates-2.ensures.2 c.if-xs-eq0.false c.if-ys-eq0-2.false (c.requires.2 (omega arith)) (c.requires.3 (omega arith)) c.gates-2.ensures.0 c.gates-2.ensures.1 c.gates-2.ensures.4 c.gates-2.ensures.5)
