-- The operators of a row's node from its own and those of the rows that it names.
use Prim.Native.Nat.{ℕ, ◌+◌, ◌-◌, ◌^◌, ◌≤◌, ◌<◌}
use mathlib.Core.Path.{◌≡◌, refl, sym, ap, subst, ◌∙◌}
use mathlib.Core.Bool.{Bool, true, false, cond, ◌&&◌, ◌||◌, false≢true}
use native.Mathlib.Omega.{arith}
use lib.Bits.{bit_and, bit_or}
use lib.Count.{ones}
use Rattle.names.specs.Names.{Names, mask, one, union, common, without, range, trigger, size}
use Rattle.names.proofs.Sets.{mask_one, mask-range, mask-or, mask-and, mask-without, ones-mask}
use Rattle.formula.specs.declared.Shape.{Shape}
use Rattle.formula.specs.declared.Shape.TheVariants.{Identifier, Constant, Pair, Operator, Let, If, For, Iter}
use Rattle.formula.specs.Sheet.{named_in}
use Rattle.formula.specs.Tree.{Exp, identifier, constant, pair, operator, let_e, if_e, for_e, Body, ret, iter, let_b, if_b, exp_node, body_node}
use Rattle.formula.specs.Places.{Node, expression, body}
use Rattle.formula.specs.Widths.{width, returned, iterated}
use Rattle.formula.specs.Free.{free_e, free_b}
use Rattle.formula.specs.Count.{Count, ◌⊕◌, gates, copies, joins, returns, iterates, count_e, count_b}
use Rattle.formula.proofs.CountLaws.{pair-count, operator-count, let-count, if-count, for-count, ret-count, iter-count, body-let-count, body-if-count}
use Rattle.sheet_count.specs.declared.count.Own.{Own}
use Rattle.sheet_tables.specs.Nodes.{returned_in, iterated_in, free_in, count_in}
use Rattle.sheet_tables.specs.Masks.{trigger_mask, outside, plain_mask, Ranged}
use Rattle.sheet_tables.specs.Ends.{ends_of, ends_in}
use Rattle.sheet_count.specs.Counts.{own, sharing, exp_if, for_own, body_if, ended, both_iterate, one_returns, plain_own, body_own, own_by, own_operators, named_total, Small}
use Rattle.sheet_tables.proofs.NodeLaws.{node_by, Parts}
use Rattle.sheet_tables.proofs.LoopLaws.{Loops, ends-iterates, ends-returns}

pub widen : (o : Own) → Small 1000 o → Small 2000 o
widen o h =
    let a = h.gates in
    let b = h.copies in
    record { gates = omega arith; copies = omega arith; joins = h.joins }

-- ---- sizes by masks

shares : (f g : Names) → sharing (mask f) (mask g) ≡ size (common f g)
shares f g = ap ones (mask-and f g) ∙ ones-mask (common f g)

trigger-is : trigger_mask ≡ mask (one trigger)
trigger-is = sym (mask_one 32 (omega arith))

shares-trigger : (f : Names) → sharing trigger_mask (mask f) ≡ size (common (one trigger) f)
shares-trigger f = ap (λ (m : ℕ). sharing m (mask f)) trigger-is ∙ shares (one trigger) f

outside-is : (g : Names) (a k : ℕ) → a + k ≤ 32 → outside (mask g) a k ≡ mask (without g (range a k))
outside-is g a k h = ap (λ (m : ℕ). bit_and (mask g) ((2 ^ 64 - 1) - m)) (sym (mask-range a k (omega arith))) ∙ mask-without g (range a k)

shares-outside : (f g : Names) (a k : ℕ) → a + k ≤ 32 → sharing (mask f) (outside (mask g) a k) ≡ size (common f (without g (range a k)))
shares-outside f g a k h = ap (sharing (mask f)) (outside-is g a k h) ∙ shares f (without g (range a k))

shares-union : (f g h : Names) → sharing (mask f) (bit_or (mask g) (mask h)) ≡ size (common f (union g h))
shares-union f g h = ap (sharing (mask f)) (mask-or g h) ∙ shares f (union g h)

-- A returned expression and its false constant share the trigger where the expression has it.
shares-end : (m : ℕ) (f : Names) → m ≡ mask f → sharing trigger_mask m ≡ size (common (one trigger) f)
shares-end m f e = ap (sharing trigger_mask) e ∙ shares-trigger f

-- ---- the masks of returned expressions

module _ (x y : Exp) (a k : ℕ) where
  pair-mask : bit_or (mask (free_e x)) (mask (free_e y)) ≡ mask (free_e (pair x y))
  unfolding free_e
  pair-mask = mask-or (free_e x) (free_e y)

  identifier-mask : a < 32 → 2 ^ a ≡ mask (free_e (identifier a))
  unfolding free_e
  identifier-mask h = sym (mask_one a (omega arith))

  constant-mask : trigger_mask ≡ mask (free_e (constant k a))
  unfolding free_e
  constant-mask = trigger-is

  operator-mask : mask (free_e x) ≡ mask (free_e (operator k x))
  unfolding free_e
  operator-mask = refl

  for-mask : (z : Body) → a + k ≤ 32 → bit_or (mask (free_e x)) (outside (mask (free_b z)) a k) ≡ mask (free_e (for_e a k x z))
  unfolding free_e
  for-mask z h = ap (bit_or (mask (free_e x))) (outside-is (free_b z) a k h) ∙ mask-or (free_e x) (without (free_b z) (range a k))

-- ---- a row's node

-- The operators of a node are its own and those of the rows that it names.
pub record Counted (c : Count) (o : Own) (operators : ℕ) : Type 0 where
  pub operators-are : c.operators ≡ own_operators o + operators

counted-by : (c d : Count) (o : Own) (u : ℕ) → c ≡ d → Counted d o u → Counted c o u
counted-by c d o u e h = subst (λ (z : Count). Counted z o u) (sym e) h

-- a returned expression, from the expression
ended-count : (w : ℕ) (x : Exp) (m : ℕ) (o : Own) (u : ℕ) → m ≡ mask (free_e x) → Counted (count_e x) o u → Counted (count_b w (ret x)) (ended o m) u
ended-count w x m o u e h =
    counted-by (count_b w (ret x)) (copies (size (common (one trigger) (free_e x))) ⊕ gates 1 ⊕ count_e x) (ended o m) u (ret-count w x)
    (let s = shares-end m (free_e x) e in
    let a = h.operators-are in
    record { operators-are = omega arith })

plain-leaf : (k a : ℕ) → Counted (gates k) (own k 0) 0
plain-leaf k a = record { operators-are = omega arith }

module _ (a : ℕ) where
  identifier-counted : Counted (count_e (identifier a)) (own 0 0) 0
  unfolding count_e
  identifier-counted = plain-leaf 0 a

  constant-counted : (k : ℕ) → Counted (count_e (constant k a)) (own 1 0) 0
  unfolding count_e
  constant-counted k = plain-leaf 1 a

-- parts that share names
beside-count : (m f : ℕ) (x y : Count) → m ≡ f → Counted (copies f ⊕ x ⊕ y) (own 0 m) (x.operators + (y.operators + 0))
beside-count m f x y e = record { operators-are = omega arith }

operator-counted : (x : Count) → Counted (x ⊕ gates 1) (own 1 0) (x.operators + 0)
operator-counted x = record { operators-are = omega arith }

iter-counted : (m f : ℕ) (x : Count) → m ≡ f → Counted (copies f ⊕ gates 1 ⊕ x) (own 1 m) (x.operators + 0)
iter-counted m f x e = record { operators-are = omega arith }

for-counted : (m f g h : ℕ) (x y : Count) → m ≡ f → g ≡ h
    → Counted (copies f ⊕ x ⊕ gates h ⊕ copies (h - 1) ⊕ y) (own g (m + (g - 1))) (x.operators + (y.operators + 0))
for-counted m f g h x y e d = record { operators-are = omega arith }

-- An if by numbers: i and j names shared with the test and between the arms, g and h names of the arms.
exp-if-counted : (i j g h i' j' g' h' w : ℕ) (t x y : Count) → i ≡ i' → j ≡ j' → g ≡ g' → h ≡ h'
    → Counted ((copies i' ⊕ copies j' ⊕ gates (g' + h')) ⊕ t ⊕ copies (g' + h' + w - 1) ⊕ x ⊕ y ⊕ gates w)
    (own (g + h + w) (i + j + (g + h + w - 1))) (t.operators + (x.operators + (y.operators + 0)))
exp-if-counted i j g h i' j' g' h' w t x y a b c d = record { operators-are = omega arith }

body-if-counted : (i j g h i' j' g' h' v w : ℕ) (t x y : Count) (p q p' q' : Bool) → i ≡ i' → j ≡ j' → g ≡ g' → h ≡ h' → p ≡ p' → q ≡ q'
    → Counted
    ((copies i' ⊕ copies j' ⊕ gates (g' + h')) ⊕ t ⊕ copies (g' + h') ⊕ x ⊕ y
    ⊕ (joins p' ⊕ cond p' (gates v ⊕ copies (v - 1)) (gates 0) ⊕ cond q' (gates w) (gates 0) ⊕ copies (w - 1)))
    (record {
      gates = g + h + cond p v 0 + cond q w 0;
      copies = i + j + (g + h) + cond p (v - 1) 0 + (w - 1);
      joins = 1;
    })
    (t.operators + (x.operators + (y.operators + 0)))
body-if-counted i j g h i' j' g' h' v w t x y true true p' q' a b c d e f = rw (sym e, sym f) (record { operators-are = omega arith })
body-if-counted i j g h i' j' g' h' v w t x y true false p' q' a b c d e f = rw (sym e, sym f) (record { operators-are = omega arith })
body-if-counted i j g h i' j' g' h' v w t x y false true p' q' a b c d e f = rw (sym e, sym f) (record { operators-are = omega arith })
body-if-counted i j g h i' j' g' h' v w t x y false false p' q' a b c d e f = rw (sym e, sym f) (record { operators-are = omega arith })

arms-iterate : (y z : Body) → both_iterate (ends_of y) (ends_of z) ≡ iterates y && iterates z
arms-iterate y z = sym (rw (ends-iterates y, ends-iterates z) refl)

arm-returns : (y z : Body) → one_returns (ends_of y) (ends_of z) ≡ returns y || returns z
arm-returns y z = sym (rw (ends-returns y, ends-returns z) refl)

module _ (N : ℕ → Node) (E : ℕ → Exp) (B : ℕ → Body) (W : ℕ → ℕ) (w : ℕ) where
  abbrev pub Goal : Bool → Shape → Type 0
  Goal b s =
      Counted (count_in w (node_by b E B s))
      (own_by b (λ k. mask (free_in (N k))) (λ k. returned_in (N k)) (λ k. iterated_in (N k)) (λ k. ends_in (N k)) w s)
      (named_total (λ k. (count_in (W k) (N k)).operators) s)

  pair-plain : (x y : ℕ) → N x ≡ expression (E x) → N y ≡ expression (E y) → Counted (count_e (pair (E x) (E y))) (own 0 (sharing (mask (free_in (N x))) (mask (free_in (N y)))))
      ((count_in (W x) (N x)).operators + ((count_in (W y) (N y)).operators + 0))
  pair-plain x y a b =
      rw (a, b)
      (counted-by (count_e (pair (E x) (E y))) (copies (size (common (free_e (E x)) (free_e (E y)))) ⊕ count_e (E x) ⊕ count_e (E y)) (own 0 (sharing (mask (free_e (E x))) (mask (free_e (E y)))))
      ((count_e (E x)).operators + ((count_e (E y)).operators + 0)) (pair-count (E x) (E y) (E x) 0 0)
      (beside-count (sharing (mask (free_e (E x))) (mask (free_e (E y)))) (size (common (free_e (E x)) (free_e (E y)))) (count_e (E x)) (count_e (E y)) (shares (free_e (E x)) (free_e (E y)))))

  operator-plain : (k x : ℕ) → N x ≡ expression (E x) → Counted (count_e (operator k (E x))) (own 1 0) ((count_in (W x) (N x)).operators + 0)
  operator-plain k x a =
      rw a
      (counted-by (count_e (operator k (E x))) (count_e (E x) ⊕ gates 1) (own 1 0) ((count_e (E x)).operators + 0) (operator-count (E x) (E x) (E x) 0 k)
      (operator-counted (count_e (E x))))

  for-plain : (a k x y : ℕ) → a + k ≤ 32 → N x ≡ expression (E x) → N y ≡ body (B y) → W y ≡ returned_in (N y)
      → Counted (count_e (for_e a k (E x) (B y))) (for_own (mask (free_in (N x))) (mask (free_in (N y))) a k)
      ((count_in (W x) (N x)).operators + ((count_in (W y) (N y)).operators + 0))
  for-plain a k x y q h i l =
      let v : W y ≡ returned (B y) = l ∙ ap returned_in i in
      rw (h, i, v)
      (counted-by (count_e (for_e a k (E x) (B y)))
      (copies (size (common (free_e (E x)) (without (free_b (B y)) (range a k)))) ⊕ count_e (E x) ⊕ gates (size (free_b (B y))) ⊕ copies (size (free_b (B y)) - 1) ⊕ count_b (returned (B y)) (B y))
      (for_own (mask (free_e (E x))) (mask (free_b (B y))) a k)
      ((count_e (E x)).operators + ((count_b (returned (B y)) (B y)).operators + 0))
      (for-count (E x) (B y) a k)
      (for-counted (sharing (mask (free_e (E x))) (outside (mask (free_b (B y))) a k)) (size (common (free_e (E x)) (without (free_b (B y)) (range a k)))) (ones (mask (free_b (B y)))) (size (free_b (B y)))
      (count_e (E x)) (count_b (returned (B y)) (B y)) (shares-outside (free_e (E x)) (free_b (B y)) a k q) (ones-mask (free_b (B y)))))

  pub counted : (b : Bool) (s : Shape) → Parts N E B b s → Ranged s → Loops W (λ k. returned_in (N k)) w b s → Goal b s
  unfolding plain_own body_own plain_mask named_in exp_node body_node
  counted false (Identifier a) h q l = identifier-counted a
  counted true (Identifier a) h q l = ended-count w (identifier a) (2 ^ a) (own 0 0) 0 (identifier-mask (identifier a) (identifier a) a 0 q) (identifier-counted a)
  counted false (Constant k a) h q l = constant-counted a k
  counted true (Constant k a) h q l = ended-count w (constant k a) trigger_mask (own 1 0) 0 (constant-mask (constant k a) (constant k a) a k) (constant-counted a k)
  counted false (Pair x y) h q l = pair-plain x y h.0 h.1
  counted true (Pair x y) h q l =
      ended-count w (pair (E x) (E y)) (bit_or (mask (free_in (N x))) (mask (free_in (N y)))) (own 0 (sharing (mask (free_in (N x))) (mask (free_in (N y)))))
      ((count_in (W x) (N x)).operators + ((count_in (W y) (N y)).operators + 0))
      (rw (h.0, h.1) (pair-mask (E x) (E y) 0 0)) (pair-plain x y h.0 h.1)
  counted false (Operator k x) h q l = operator-plain k x h
  counted true (Operator k x) h q l =
      ended-count w (operator k (E x)) (mask (free_in (N x))) (own 1 0) ((count_in (W x) (N x)).operators + 0)
      (rw h (operator-mask (E x) (E x) 0 k)) (operator-plain k x h)
  counted false (Let a k x y) h q l =
      rw (h.0, h.1)
      (counted-by (count_e (let_e a k (E x) (E y))) (copies (size (common (free_e (E x)) (without (free_e (E y)) (range a k)))) ⊕ count_e (E x) ⊕ count_e (E y))
      (own 0 (sharing (mask (free_e (E x))) (outside (mask (free_e (E y))) a k)))
      ((count_e (E x)).operators + ((count_e (E y)).operators + 0)) (let-count (E x) (E y) (E x) a k)
      (beside-count (sharing (mask (free_e (E x))) (outside (mask (free_e (E y))) a k)) (size (common (free_e (E x)) (without (free_e (E y)) (range a k)))) (count_e (E x)) (count_e (E y)) (shares-outside (free_e (E x)) (free_e (E y)) a k q)))
  counted true (Let a k x y) h q l =
      rw (h.0, h.1, l)
      (counted-by (count_b w (let_b a k (E x) (B y))) (copies (size (common (free_e (E x)) (without (free_b (B y)) (range a k)))) ⊕ count_e (E x) ⊕ count_b w (B y))
      (own 0 (sharing (mask (free_e (E x))) (outside (mask (free_b (B y))) a k)))
      ((count_e (E x)).operators + ((count_b w (B y)).operators + 0)) (body-let-count w (E x) (B y) a k)
      (beside-count (sharing (mask (free_e (E x))) (outside (mask (free_b (B y))) a k)) (size (common (free_e (E x)) (without (free_b (B y)) (range a k)))) (count_e (E x)) (count_b w (B y)) (shares-outside (free_e (E x)) (free_b (B y)) a k q)))
  counted false (If x y z) h q l =
      rw (h.0, h.1, h.2)
      (counted-by (count_e (if_e (E x) (E y) (E z)))
      ((copies (size (common (free_e (E x)) (union (free_e (E y)) (free_e (E z))))) ⊕ copies (size (common (free_e (E y)) (free_e (E z)))) ⊕ gates (size (free_e (E y)) + size (free_e (E z))))
      ⊕ count_e (E x) ⊕ copies (size (free_e (E y)) + size (free_e (E z)) + width (E y) - 1) ⊕ count_e (E y) ⊕ count_e (E z) ⊕ gates (width (E y)))
      (exp_if (mask (free_e (E x))) (mask (free_e (E y))) (mask (free_e (E z))) (width (E y)))
      ((count_e (E x)).operators + ((count_e (E y)).operators + ((count_e (E z)).operators + 0)))
      (if-count (E y) (E z) (E x) 0 0)
      (exp-if-counted (sharing (mask (free_e (E x))) (bit_or (mask (free_e (E y))) (mask (free_e (E z))))) (sharing (mask (free_e (E y))) (mask (free_e (E z)))) (ones (mask (free_e (E y)))) (ones (mask (free_e (E z))))
      (size (common (free_e (E x)) (union (free_e (E y)) (free_e (E z))))) (size (common (free_e (E y)) (free_e (E z)))) (size (free_e (E y))) (size (free_e (E z))) (width (E y)) (count_e (E x)) (count_e (E y)) (count_e (E z))
      (shares-union (free_e (E x)) (free_e (E y)) (free_e (E z))) (shares (free_e (E y)) (free_e (E z))) (ones-mask (free_e (E y))) (ones-mask (free_e (E z)))))
  counted true (If x y z) h q l =
      rw (h.0, h.1, h.2, l.0, l.1)
      (counted-by (count_b w (if_b (E x) (B y) (B z)))
      ((copies (size (common (free_e (E x)) (union (free_b (B y)) (free_b (B z))))) ⊕ copies (size (common (free_b (B y)) (free_b (B z)))) ⊕ gates (size (free_b (B y)) + size (free_b (B z))))
      ⊕ count_e (E x) ⊕ copies (size (free_b (B y)) + size (free_b (B z))) ⊕ count_b w (B y) ⊕ count_b w (B z)
      ⊕ (joins (iterates (B y) && iterates (B z)) ⊕ cond (iterates (B y) && iterates (B z)) (gates (iterated (B y)) ⊕ copies (iterated (B y) - 1)) (gates 0)
      ⊕ cond (returns (B y) || returns (B z)) (gates w) (gates 0) ⊕ copies (w - 1)))
      (body_if (mask (free_e (E x))) (mask (free_b (B y))) (mask (free_b (B z))) (iterated (B y)) w (ends_of (B y)) (ends_of (B z)))
      ((count_e (E x)).operators + ((count_b w (B y)).operators + ((count_b w (B z)).operators + 0)))
      (body-if-count w (E x) (B y) (B z))
      (body-if-counted (sharing (mask (free_e (E x))) (bit_or (mask (free_b (B y))) (mask (free_b (B z))))) (sharing (mask (free_b (B y))) (mask (free_b (B z)))) (ones (mask (free_b (B y)))) (ones (mask (free_b (B z))))
      (size (common (free_e (E x)) (union (free_b (B y)) (free_b (B z))))) (size (common (free_b (B y)) (free_b (B z)))) (size (free_b (B y))) (size (free_b (B z))) (iterated (B y)) w (count_e (E x)) (count_b w (B y)) (count_b w (B z))
      (both_iterate (ends_of (B y)) (ends_of (B z))) (one_returns (ends_of (B y)) (ends_of (B z))) (iterates (B y) && iterates (B z)) (returns (B y) || returns (B z))
      (shares-union (free_e (E x)) (free_b (B y)) (free_b (B z))) (shares (free_b (B y)) (free_b (B z))) (ones-mask (free_b (B y))) (ones-mask (free_b (B z)))
      (arms-iterate (B y) (B z)) (arm-returns (B y) (B z))))
  counted false (For a k x y) h q l = for-plain a k x y q h.0 h.1 l
  counted true (For a k x y) h q l =
      ended-count w (for_e a k (E x) (B y)) (bit_or (mask (free_in (N x))) (outside (mask (free_in (N y))) a k)) (for_own (mask (free_in (N x))) (mask (free_in (N y))) a k)
      ((count_in (W x) (N x)).operators + ((count_in (W y) (N y)).operators + 0))
      (rw (h.0, h.1) (for-mask (E x) (E x) a k (B y) q)) (for-plain a k x y q h.0 h.1 l)
  counted false (Iter x) h q l = absurd (false≢true h.0)
  counted true (Iter x) h q l =
      rw h.1
      (counted-by (count_b w (iter (E x))) (copies (size (common (one trigger) (free_e (E x)))) ⊕ gates 1 ⊕ count_e (E x)) (own 1 (sharing trigger_mask (mask (free_e (E x)))))
      ((count_e (E x)).operators + 0) (iter-count w (E x))
      (iter-counted (sharing trigger_mask (mask (free_e (E x)))) (size (common (one trigger) (free_e (E x)))) (count_e (E x)) (shares-trigger (free_e (E x)))))
