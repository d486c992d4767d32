use mathlib.Core.Logic.{inl, inr}
use native.Mathlib.Omega.{arith}
use Prim.Native.Nat.{◌<◌}
use mathlib.Core.Path.{refl, sym, ◌∙◌, subst}
use lib.ListN.{get_or}
use Rattle.formula.specs.declared.Shape.TheVariants.{Identifier, Constant, Operator, Iter}
use Rattle.meaning.proofs.Rows.{exp-children}
use Rattle.eval_words.specs.Words.{env_of}
use Rattle.eval_words.specs.Needs.{exp-needs}
use Rattle.eval_words.specs.Parts.{Compound, part-identifier, part-constant, part-operator}
use Rattle.eval_words.proofs.parts.part_at.Goals as goal

pub bounds-env-a : goal.bounds-env-a
bounds-env-a c = let f : c.in-Identifier.a < 32 = (exp-needs c.args.t.now c.args.widths.now c.args.r c.requires.0 (Identifier c.in-Identifier.a) (sym c.shape_at.ensures ∙ c.in-Identifier.is)).1 in omega (arith, f)

pub constant_word-requires : goal.constant_word-requires
constant_word-requires c = (exp-needs c.args.t.now c.args.widths.now c.args.r c.requires.0 (Constant c.in-Constant.kind c.in-Constant.a) (sym c.shape_at.ensures ∙ c.in-Constant.is)).1

pub operator_at-requires : goal.operator_at-requires
operator_at-requires c = (exp-children c.args.t.now c.args.widths.now c.args.r c.requires.0 (Operator c.in-Operator.code c.in-Operator.b) (sym c.shape_at.ensures ∙ c.in-Operator.is)).0

pub returns-in-Identifier : goal.returns-in-Identifier
unfolding env_of
returns-in-Identifier c = part-identifier c.args.t.now c.args.widths.now c.args.r c.requires.0 (env_of c.args.env.now) c.in-Identifier.a (get_or c.args.env.now c.in-Identifier.a 0) (sym c.shape_at.ensures ∙ c.in-Identifier.is) refl

pub returns-in-Constant : goal.returns-in-Constant
returns-in-Constant c = part-constant c.args.t.now c.args.widths.now c.args.r c.requires.0 (env_of c.args.env.now) c.in-Constant.kind c.in-Constant.a c.constant_word.result (sym c.shape_at.ensures ∙ c.in-Constant.is) c.constant_word.ensures

pub returns-in-Operator : goal.returns-in-Operator
returns-in-Operator c = part-operator c.args.t.now c.args.widths.now c.args.r c.in-Operator.code c.in-Operator.b (env_of c.args.env.now) c.operator_at.result c.requires.0 (sym c.shape_at.ensures ∙ c.in-Operator.is) c.operator_at.ensures

pub returns-in-Pair : goal.returns-in-Pair
returns-in-Pair c =
    elim c.in-Pair.is [
      | inl p ↦ subst Compound (sym p.2 ∙ c.shape_at.ensures) tt
      | inr q ↦ elim q [
        | inl p ↦ subst Compound (sym p.4 ∙ c.shape_at.ensures) tt
        | inr q ↦ elim q [
          | inl p ↦ subst Compound (sym p.3 ∙ c.shape_at.ensures) tt
          | inr q ↦ elim q [
            | inl p ↦ subst Compound (sym p.4 ∙ c.shape_at.ensures) tt
            | inr p ↦ absurd (exp-needs c.args.t.now c.args.widths.now c.args.r c.requires.0 (Iter p.0) (sym c.shape_at.ensures ∙ p.1))
          ]
        ]
      ]
    ]
