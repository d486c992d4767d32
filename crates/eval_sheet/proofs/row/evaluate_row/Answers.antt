use native.Mathlib.Omega.{arith}
use Prim.Native.Nat.{ℕ}
use mathlib.Core.Path.{refl, sym, ◌∙◌, subst}
use lib.ListN.{length, replicate}
use Rattle.formula.specs.Tree.{exp_of}
use Rattle.meaning.specs.Meaning.{eval_e}
use Rattle.eval_words.specs.Words.{env_of}
use Rattle.eval_words.specs.Needs.{narrow}
use Rattle.eval_sheet.specs.Inputs.{Holds, inputs-few}
use Rattle.value_sets.proofs.Sets.{set-length}
use Rattle.eval_sheet.specs.Conclude.{left-within, evaluated-bad, evaluated-good, concluded-short, concluded-left}
use Rattle.eval_sheet.proofs.row.evaluate_row.Goals as goal

pub is_set-requires : goal.is_set-requires
is_set-requires c = omega (arith, c.requires.2, inputs-few (exp_of c.args.t.now c.args.n))

pub returns-then-not-is_set : goal.returns-then-not-is_set
returns-then-not-is_set c = c.refuse.ensures ∙ evaluated-bad (exp_of c.args.t.now c.args.n) c.args.kinds.now c.args.set.now c.args.rounds (sym c.is_set.ensures ∙ c.if-not-is_set.true)

pub hold-requires : goal.hold-requires
hold-requires c = (refl, set-length c.args.kinds.now c.args.set.now (sym c.is_set.ensures ∙ c.if-not-is_set.false), omega (arith, c.requires.2, inputs-few (exp_of c.args.t.now c.args.n)))

pub expr-requires : goal.expr-requires
expr-requires c = (c.requires.0, c.hold.ensures.long, omega (arith, narrow c.args.t.now c.args.widths.now c.args.n c.requires.0))

pub overflow_sub-rounds : goal.overflow_sub-rounds
overflow_sub-rounds c = left-within (exp_of c.args.t.now c.args.n) (env_of c.hold.new.env) c.args.rounds c.in-Some.left 0 (replicate 16 0) c.expr.new.out (rw c.in-Some.is at c.expr.ensures.0)

pub returns-in-None : goal.returns-in-None
returns-in-None c = c.refuse-in-None.ensures ∙ concluded-short (eval_e (exp_of c.args.t.now c.args.n) (env_of c.hold.new.env) c.args.rounds) c.args.rounds 0 (replicate 16 0) c.expr.new.out (rw c.in-None.is at c.expr.ensures.0) ∙ evaluated-good (exp_of c.args.t.now c.args.n) c.args.kinds.now c.args.set.now c.args.rounds c.hold.new.env c.requires.2 (sym c.is_set.ensures ∙ c.if-not-is_set.false) (subst (λ (z : ℕ). Holds c.args.set.now (length c.args.kinds.now) z c.hold.new.env 32) c.requires.1 c.hold.ensures)

pub returns-in-Some : goal.returns-in-Some
returns-in-Some c = concluded-left c.args.t.now c.args.widths.now c.args.n c.requires.0 (env_of c.hold.new.env) c.args.rounds c.in-Some.left c.expr.new.out c.conclude.result (rw c.in-Some.is at c.expr.ensures.0) c.expr.ensures.1 c.conclude.ensures.0 (c.conclude.ensures.1 ∙ c.width_at.ensures.0) c.conclude.ensures.2 c.conclude.ensures.3 ∙ evaluated-good (exp_of c.args.t.now c.args.n) c.args.kinds.now c.args.set.now c.args.rounds c.hold.new.env c.requires.2 (sym c.is_set.ensures ∙ c.if-not-is_set.false) (subst (λ (z : ℕ). Holds c.args.set.now (length c.args.kinds.now) z c.hold.new.env 32) c.requires.1 c.hold.ensures)
