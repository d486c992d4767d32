-- Laws of specs/Drifts.antt, and what only they need.
use Rattle.std.specs.Prelude.{ℕ, zero, suc, ◌≤◌, ◌<◌, ◌≡◌, refl, Bool, true, not, ◌||◌, List, [], ◌∷◌, ◌++◌, eqb, Ok}
use Rattle.std.proofs.Common.{sym, ap, subst, ◌∙◌, arith}
use Rattle.std.proofs.Math.Bool.{false}
use Rattle.std.proofs.lemmas.Bool.{false≢true}
use borrow.Author.Tests.{eqb-true}
use Rattle.value.specs.declared.ValueKind.TheVariants.{Whole as whole-kind}
use Rattle.value.specs.Operators.{pick}
use Rattle.value.specs.Kinds.{all_of}
use Rattle.formula.specs.declared.Shape.{Shape}
use Rattle.formula.specs.declared.Shape.TheVariants.{Identifier, Constant, Pair, Operator, Let, If, For, Iter}
use Rattle.formula.specs.Sheet.{shape_at, named_in}
use Rattle.formula.specs.Tree.{Exp, identifier, constant, pair, operator, let_e, if_e, for_e, exp_node, exp_of, body_of}
use Rattle.formula.specs.TreeLaws.{AllBetween, Named}
use Rattle.formula.proofs.TreeLaws.{exp-as, and-true}
use Rattle.formula.specs.Places.{node_in}
use Rattle.formula.specs.Free.{free_e}
use Rattle.formula.specs.Kinds.{Kinds, kinds_e}
use Rattle.formula.specs.Faults.{faults_below, own_fault, input_kinds, kind_check}
use Rattle.formula.specs.FaultLaws.{faults_at}
use Rattle.formula.proofs.FaultLaws.{faults-as}
use Rattle.formula.proofs.FaultRows.{none-lowest}
use Rattle.sheet_movement.specs.Sorts.{is_whole, amount, names_whole, divides_by_whole, code_sort, sort_e, drifting, sorts_kept}
use Rattle.sheet_movement.specs.Drifts.{Drifts, Operated, add, subtract, negate, multiply-first, multiply-second, divide}

whole_is : (x : Exp) → is_whole x ≡ true → x ≡ constant 2 (amount x)
unfolding is_whole amount
whole_is (identifier a) h = absurd (false≢true h)
whole_is (constant k a) h = ap (λ (j : ℕ). constant j a) (eqb-true k 2 h)
whole_is (pair x y) h = absurd (false≢true h)
whole_is (operator k x) h = absurd (false≢true h)
whole_is (let_e a b x y) h = absurd (false≢true h)
whole_is (if_e t x y) h = absurd (false≢true h)
whole_is (for_e a b x y) h = absurd (false≢true h)

multiplies : (x : Exp) → names_whole x ≡ true → Operated 3 x
unfolding names_whole
multiplies (identifier a) h = absurd (false≢true h)
multiplies (constant k a) h = absurd (false≢true h)
multiplies (pair x y) h = go (is_whole x) refl h
  where
    go : (b : Bool) → is_whole x ≡ b → b || is_whole y ≡ true → Operated 3 (pair x y)
    go true e h = subst (λ (z : Exp). Operated 3 (pair z y)) (sym (whole_is x e)) (multiply-first (amount x) y)
    go false e h = subst (λ (z : Exp). Operated 3 (pair x z)) (sym (whole_is y h)) (multiply-second x (amount y) e)
multiplies (operator k x) h = absurd (false≢true h)
multiplies (let_e a b x y) h = absurd (false≢true h)
multiplies (if_e t x y) h = absurd (false≢true h)
multiplies (for_e a b x y) h = absurd (false≢true h)

not-0 : (a : ℕ) → not (eqb a 0) ≡ true → 0 < a
not-0 zero h = absurd (false≢true h)
not-0 (suc a) h = omega arith

divides : (x : Exp) → divides_by_whole x ≡ true → Operated 4 x
unfolding divides_by_whole
divides (identifier a) h = absurd (false≢true h)
divides (constant k a) h = absurd (false≢true h)
divides (pair x y) h =
    let p = and-true (is_whole y) (not (eqb (amount y) 0)) h in
    subst (λ (z : Exp). Operated 4 (pair x z)) (sym (whole_is y p.0)) (divide x (amount y) (not-0 (amount y) p.1))
divides (operator k x) h = absurd (false≢true h)
divides (let_e a b x y) h = absurd (false≢true h)
divides (if_e t x y) h = absurd (false≢true h)
divides (for_e a b x y) h = absurd (false≢true h)

pub operated : (code : ℕ) (x : Exp) → code_sort code x ≡ true → Operated code x
unfolding code_sort
operated code x =
    either 1 true _ (λ h. add x)
    (either 2 true _ (λ h. subtract x)
    (either 11 true _ (λ h. negate x)
    (either 3 (names_whole x) _ (multiplies x)
    (either 4 (divides_by_whole x) _ (divides x)
    (λ h. absurd (false≢true h))))))
  where
    either : (c : ℕ) (p q : Bool) → (p ≡ true → Operated c x) → (q ≡ true → Operated code x) → pick (eqb code c) p q ≡ true → Operated code x
    either c p q f g h = go (eqb code c) refl h
      where
        go : (b : Bool) → eqb code c ≡ b → pick b p q ≡ true → Operated code x
        go true e h = subst (λ (k : ℕ). Operated k x) (sym (eqb-true code c e)) (f h)
        go false e h = g h

-- ---- from the rows
none-either : (l m : List ℕ) → l ++ m ≡ [] → (l ≡ []) × (m ≡ [])
none-either [] m h = (refl, h)
none-either (x ∷ l) m h = absurd (let z : ◌≡◌ {A = ℕ} 0 1 = cc h in omega arith)

none-own : (r : ℕ) (kept : Bool) → own_fault r kept ≡ [] → kept ≡ true
none-own r true h = refl
none-own r false h = absurd (let z : ◌≡◌ {A = ℕ} 0 1 = cc h in omega arith)

module _ (t : List ℕ) (n : ℕ) (ok : Named t n) where
  own-sort : (r : ℕ) (kinds : Kinds) → own_fault r (drifting (node_in false t r) kinds) ≡ [] → sort_e (exp_of t r) ≡ true
  unfolding drifting node_in
  own-sort r kinds h = (and-true (sort_e (exp_of t r)) (all_of whole-kind (kinds_e (exp_of t r) kinds)) (none-own r _ h)).0

  -- A node of one of the sorts, the rows that it names being so.
  node : (r : ℕ) (kinds : Kinds) → ((k : ℕ) → (1 ≤ k) × (k < r) → (ks : Kinds) → faults_at drifting t false ks k ≡ [] → Drifts (exp_of t k))
      → (s : Shape) → AllBetween r (named_in s) → sort_e (exp_node (exp_of t) (body_of t) s) ≡ true
      → faults_below (faults_at drifting t) t false kinds s ≡ [] → Drifts (exp_node (exp_of t) (body_of t) s)
  unfolding exp_node sort_e faults_below named_in
  node r kinds at (Identifier a) i h e = tt
  node r kinds at (Constant k a) i h e = eqb-true k 2 h
  node r kinds at (Pair a b) i h e =
      let p = none-either (faults_at drifting t false kinds a) _ e in
      (at a i.0 kinds p.0, at b i.1.0 kinds p.1)
  node r kinds at (Operator a b) i h e = (h, at b i.0 kinds e)
  node r kinds at (Let a b c d) i h e =
      let p = none-either (faults_at drifting t false kinds c) _ e in
      (at c i.0 kinds p.0, at d i.1.0 _ p.1)
  node r kinds at (If a b c) i h e = absurd (false≢true h)
  node r kinds at (For a b c d) i h e = absurd (false≢true h)
  node r kinds at (Iter a) i h e = at a i.0 kinds e

  within : (depth r : ℕ) → r < depth → 1 ≤ r → r ≤ n → (kinds : Kinds) → faults_at drifting t false kinds r ≡ [] → Drifts (exp_of t r)
  within zero r d l u kinds h = absurd (omega arith)
  within (suc depth) r d l u kinds h =
      subst Drifts (sym tree)
      (node r kinds (λ k i ks e. within depth k (omega (arith, i.1)) i.0 (omega (arith, i.1)) ks e) (shape_at t r) (ok.names r l u) sort parts.1)
    where
      tree : exp_of t r ≡ exp_node (exp_of t) (body_of t) (shape_at t r)
      tree = exp-as t n ok r l u (shape_at t r) refl

      parts : (own_fault r (drifting (node_in false t r) kinds) ≡ []) × (faults_below (faults_at drifting t) t false kinds (shape_at t r) ≡ [])
      parts = none-either (own_fault r (drifting (node_in false t r) kinds)) _ (sym (faults-as drifting t n ok r l u false kinds (shape_at t r) refl) ∙ h)

      sort : sort_e (exp_node (exp_of t) (body_of t) (shape_at t r)) ≡ true
      sort = subst (λ (x : Exp). sort_e x ≡ true) tree (own-sort r kinds parts.0)

  -- No row at fault from row r down.
  pub faultless-drifts : (r : ℕ) → 1 ≤ r → r ≤ n → (kinds : Kinds) → faults_at drifting t false kinds r ≡ [] → Drifts (exp_of t r)
  faultless-drifts r l u kinds h = within (suc r) r (omega arith) l u kinds h

  -- The formula of a sheet that passes 20.
  pub sorts-drift : 1 ≤ n → (line : List ℕ) → sorts_kept t n line ≡ Ok tt → Drifts (exp_of t n)
  unfolding sorts_kept kind_check
  sorts-drift l line h =
      faultless-drifts n l (omega arith) (input_kinds (free_e (exp_of t n)) line) (none-lowest _ h)
