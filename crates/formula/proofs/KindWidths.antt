-- A row has as many kinds as its width says (document 02, Job 6: "the kind of each of its values"). Assumes nothing of the tree.
use Rattle.std.specs.Prelude.{suc, ◌≡◌, refl, List, [], ◌∷◌, length}
use Rattle.std.proofs.Common.{◌∙◌, length-append, ne_eqb, arith}
use Rattle.value.specs.declared.ValueKind.{ValueKind}
use Rattle.formula.specs.Tree.{Exp, identifier, constant, pair, operator, let_e, if_e, for_e, Body, ret, iter, let_b, if_b}
use Rattle.formula.specs.Widths.{width, returned, either}
use Rattle.formula.specs.Kinds.{Kinds, bind_kinds, either_kinds, kinds_e, returned_kinds}

pub either-length : (ks ls : List ValueKind) → length (either_kinds ks ls) ≡ either (length ks) (length ls)
either-length [] ls = refl
either-length (k ∷ ks) ls = simp (ne_eqb (suc (length ks)) 0 (λ e. omega arith))

mutual
  unfolding kinds_e width

  pub kinds-length : (x : Exp) (kinds : Kinds) → length (kinds_e x kinds) ≡ width x
  kinds-length (identifier a) kinds = refl
  kinds-length (constant k a) kinds = refl
  kinds-length (pair x y) kinds = length-append (kinds_e x kinds) (kinds_e y kinds) ∙ rw (kinds-length x kinds, kinds-length y kinds) refl
  kinds-length (operator k x) kinds = refl
  kinds-length (let_e a b x y) kinds = kinds-length y (bind_kinds a b (kinds_e x kinds) kinds)
  kinds-length (if_e t x y) kinds = kinds-length x kinds
  kinds-length (for_e a b x y) kinds = returned-length y (bind_kinds a b (kinds_e x kinds) kinds)

  pub returned-length : (y : Body) (kinds : Kinds) → length (returned_kinds y kinds) ≡ returned y
  returned-length (ret x) kinds = kinds-length x kinds
  returned-length (iter x) kinds = refl
  returned-length (let_b a b x y) kinds = returned-length y (bind_kinds a b (kinds_e x kinds) kinds)
  returned-length (if_b t x y) kinds =
      either-length (returned_kinds x kinds) (returned_kinds y kinds) ∙ rw (returned-length x kinds, returned-length y kinds) refl
