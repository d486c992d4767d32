use native.Mathlib.Omega.{arith}
use Prim.Native.Nat.{ℕ}
use mathlib.Core.Path.{sym, ap, ◌∙◌}
use Rattle.formula.specs.Tree.{exp_of}
use Rattle.sheet_movement.specs.Sorts.{code_sort}
use Rattle.sheet_drift.specs.Moved.{moved-negated, moved-product, moved-quotient, moved_sum}
use Rattle.sheet_drift.proofs.moves.moved.Goals as goal

pub multiplied-requires : goal.multiplied-requires
multiplied-requires c = ((c.requires.0.0, ap (λ (k : ℕ). code_sort k (exp_of c.args.t.now c.args.b)) (sym c.in-3.is) ∙ c.requires.0.1), omega (arith, c.requires.1, c.requires.2), omega (arith, c.requires.1, c.requires.2))

pub divided-requires : goal.divided-requires
divided-requires c = ((c.requires.0.0, ap (λ (k : ℕ). code_sort k (exp_of c.args.t.now c.args.b)) (sym c.in-4.is) ∙ c.requires.0.1), c.requires.1)

pub returns-in-11 : goal.returns-in-11
returns-in-11 c = moved-negated (exp_of c.args.t.now c.args.b) c.args.code c.args.d c.args.e c.in-11.is

pub returns-in-3 : goal.returns-in-3
returns-in-3 c = c.multiplied.ensures ∙ moved-product (exp_of c.args.t.now c.args.b) c.args.code c.args.d c.args.e c.in-3.is

pub returns-in-4 : goal.returns-in-4
returns-in-4 c = c.divided.ensures ∙ moved-quotient (exp_of c.args.t.now c.args.b) c.args.code c.args.d c.args.e c.in-4.is

pub returns-in_default : goal.returns-in_default
returns-in_default c = let r = c.in_default.in_default-own.rest in moved_sum (exp_of c.args.t.now c.args.b) c.args.code c.args.d c.args.e r.0.0.1 r.0.1 r.1
