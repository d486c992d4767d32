-- Laws of specs/CountLaws.antt, and what only they need.
use Rattle.std.specs.Prelude.{ℕ, ◌+◌, ◌-◌, ◌≡◌, Bool, true, false, cond, ◌&&◌, ◌||◌}
use Rattle.std.proofs.Math.Path.{refl}
use Rattle.std.proofs.Common.{arith}
use Rattle.formula.specs.Tree.{Exp, identifier, constant, pair, operator, let_e, if_e, for_e, Body, ret, iter, let_b, if_b}
use Rattle.names.specs.Names.{trigger, one, union, common, without, range, size}
use Rattle.formula.specs.Widths.{width, iterated, returned}
use Rattle.formula.specs.Free.{free_e, free_b}
use Rattle.formula.specs.Count.{Count, ◌⊕◌, gates, copies, joins, returns, iterates, count_e, count_b}
use Rattle.formula.specs.CountLaws.{Few}

-- ---- the count of each kind, with the sizes of its sets of names as numbers
module _ (x y t : Exp) (a k : ℕ) where
  pub pair-count : count_e (pair x y) ≡ copies (size (common (free_e x) (free_e y))) ⊕ count_e x ⊕ count_e y
  unfolding count_e
  pair-count = refl

  pub operator-count : count_e (operator k x) ≡ count_e x ⊕ gates 1
  unfolding count_e
  operator-count = refl

  pub let-count : count_e (let_e a k x y) ≡ copies (size (common (free_e x) (without (free_e y) (range a k)))) ⊕ count_e x ⊕ count_e y
  unfolding count_e
  let-count = refl

  pub if-count : count_e (if_e t x y)
      ≡ (copies (size (common (free_e t) (union (free_e x) (free_e y)))) ⊕ copies (size (common (free_e x) (free_e y))) ⊕ gates (size (free_e x) + size (free_e y)))
      ⊕ count_e t ⊕ copies (size (free_e x) + size (free_e y) + width x - 1) ⊕ count_e x ⊕ count_e y ⊕ gates (width x)
  unfolding count_e
  if-count = refl

pub for-count : (x : Exp) (y : Body) (a k : ℕ) → count_e (for_e a k x y)
    ≡ copies (size (common (free_e x) (without (free_b y) (range a k))))
    ⊕ count_e x ⊕ gates (size (free_b y)) ⊕ copies (size (free_b y) - 1) ⊕ count_b (returned y) y
unfolding count_e
for-count x y a k = refl

module _ (w : ℕ) (x : Exp) where
  pub ret-count : count_b w (ret x) ≡ copies (size (common (one trigger) (free_e x))) ⊕ gates 1 ⊕ count_e x
  unfolding count_e
  ret-count = refl

  pub iter-count : count_b w (iter x) ≡ copies (size (common (one trigger) (free_e x))) ⊕ gates 1 ⊕ count_e x
  unfolding count_e
  iter-count = refl

  pub body-let-count : (y : Body) (a k : ℕ) → count_b w (let_b a k x y) ≡ copies (size (common (free_e x) (without (free_b y) (range a k)))) ⊕ count_e x ⊕ count_b w y
  unfolding count_e
  body-let-count y a k = refl

  pub body-if-count : (y z : Body) → count_b w (if_b x y z)
      ≡ (copies (size (common (free_e x) (union (free_b y) (free_b z)))) ⊕ copies (size (common (free_b y) (free_b z))) ⊕ gates (size (free_b y) + size (free_b z)))
      ⊕ count_e x ⊕ copies (size (free_b y) + size (free_b z)) ⊕ count_b w y ⊕ count_b w z
      ⊕ (joins (iterates y && iterates z) ⊕ cond (iterates y && iterates z) (gates (iterated y) ⊕ copies (iterated y - 1)) (gates 0)
      ⊕ cond (returns y || returns z) (gates w) (gates 0) ⊕ copies (w - 1))
  unfolding count_e
  body-if-count y z = refl

sum-few : (u v : Count) → Few u → Few v → Few (u ⊕ v)
sum-few u v a b = record { few = let x = a.few in let y = b.few in omega arith }

gates-few : (k : ℕ) → Few (gates k)
gates-few k = record { few = omega arith }

joins-few : (p q : Bool) (v w : ℕ) → Few (joins p ⊕ cond p (gates v ⊕ copies (v - 1)) (gates 0) ⊕ cond q (gates w) (gates 0) ⊕ copies (w - 1))
joins-few true true v w = record { few = omega arith }
joins-few true false v w = record { few = omega arith }
joins-few false true v w = record { few = omega arith }
joins-few false false v w = record { few = omega arith }

-- k copies, then u and v
beside : (k : ℕ) (u v : Count) → Few u → Few v → Few (copies k ⊕ u ⊕ v)
beside k u v a b = record { few = let x = a.few in let y = b.few in omega arith }

gated-few : (i j g k : ℕ) (t x y z : Count) → Few t → Few x → Few y → Few z
    → Few ((copies i ⊕ copies j ⊕ gates g) ⊕ t ⊕ copies k ⊕ x ⊕ y ⊕ z)
gated-few i j g k t x y z a b c d = record { few = let e = a.few in let f = b.few in let h = c.few in let l = d.few in omega arith }

looped-few : (i j : ℕ) (x y : Count) → Few x → Few y → Few (copies i ⊕ x ⊕ gates j ⊕ copies (j - 1) ⊕ y)
looped-few i j x y a b = record { few = let e = a.few in let f = b.few in omega arith }

mutual
  unfolding count_e

  pub links-few : (x : Exp) → Few (count_e x)
  links-few (identifier a) = gates-few 0
  links-few (constant k a) = gates-few 1
  links-few (pair x y) = beside (size (common (free_e x) (free_e y))) (count_e x) (count_e y) (links-few x) (links-few y)
  links-few (operator k x) = sum-few (count_e x) (gates 1) (links-few x) (gates-few 1)
  links-few (let_e a k x y) = beside (size (common (free_e x) (without (free_e y) (range a k)))) (count_e x) (count_e y) (links-few x) (links-few y)
  links-few (if_e t x y) =
      gated-few (size (common (free_e t) (union (free_e x) (free_e y)))) (size (common (free_e x) (free_e y))) (size (free_e x) + size (free_e y))
      (size (free_e x) + size (free_e y) + width x - 1) (count_e t) (count_e x) (count_e y) (gates (width x)) (links-few t) (links-few x) (links-few y) (gates-few (width x))
  links-few (for_e a k x y) =
      looped-few (size (common (free_e x) (without (free_b y) (range a k)))) (size (free_b y)) (count_e x) (count_b (returned y) y) (links-few x) (links-few-body (returned y) y)

  pub links-few-body : (w : ℕ) (y : Body) → Few (count_b w y)
  links-few-body w (ret x) = beside (size (common (one trigger) (free_e x))) (gates 1) (count_e x) (gates-few 1) (links-few x)
  links-few-body w (iter x) = beside (size (common (one trigger) (free_e x))) (gates 1) (count_e x) (gates-few 1) (links-few x)
  links-few-body w (let_b a k x y) = beside (size (common (free_e x) (without (free_b y) (range a k)))) (count_e x) (count_b w y) (links-few x) (links-few-body w y)
  links-few-body w (if_b t x y) =
      gated-few (size (common (free_e t) (union (free_b x) (free_b y)))) (size (common (free_b x) (free_b y))) (size (free_b x) + size (free_b y))
      (size (free_b x) + size (free_b y)) (count_e t) (count_b w x) (count_b w y)
      (joins (iterates x && iterates y) ⊕ cond (iterates x && iterates y) (gates (iterated x) ⊕ copies (iterated x - 1)) (gates 0) ⊕ cond (returns x || returns y) (gates w) (gates 0) ⊕ copies (w - 1))
      (links-few t) (links-few-body w x) (links-few-body w y) (joins-few (iterates x && iterates y) (returns x || returns y) (iterated x) w)
