-- Laws of specs/ArmNames.antt, and what only they need.
use Rattle.std.specs.Prelude.{ℕ, suc, ◌+◌, ◌≤◌, ◌<◌, ◌≡◌, Bool, not, ◌&&◌, ◌||◌, ◌∷◌, ◌++◌, length}
use Rattle.std.proofs.Math.Path.{refl, ap}
use Rattle.std.proofs.Common.{sym, ◌∙◌, length-append, arith}
use Rattle.std.proofs.Math.Bool.{true, false}
use Rattle.std.proofs.lemmas.Bool.{false≢true}
use Rattle.std.proofs.Math.Dec.{eqb, ltb}
use borrow.Author.Tests.{ne_eqb, ltb-true, ltb-false}
use Rattle.formula.specs.Tree.{Exp, Body, if_b}
use Rattle.formula.specs.Widths.{iterated}
use Rattle.formula.specs.Count.{returns, iterates}
use Rattle.formula.specs.Admitted.{AdmittedB}
use Rattle.graph.specs.Assembly.{free, member_of}
use Rattle.graph.specs.Fit.{Different, Used}
use Rattle.graph.specs.Translation.{test_name, iter_name, iterated_name, returned_name, join_name, iterated_join, returned_join, arm_names, join_names, joined}
use Rattle.theory_yields.proofs.Naming.{or-true, or-false, or_left, or_right, or-neither, length-up_from, below-up_from, above-up_from, up_from-holds, member-append, different-up_from, different-append}
use Rattle.theory_yields.specs.Naming.{Apart}
use Rattle.theory_yields.specs.BodyWidths.{iterated_outputs, returned_outputs}
use Rattle.theory_yields.proofs.BodyWidths.{iterated-outputs, returned-outputs-le, iterated-16, iterated-both}
use Rattle.theory_yields.specs.Choice.{From}
use Rattle.theory_yields.proofs.Choice.{gone, kept, unseen}
use Rattle.theory_yields.proofs.Joins.{join_i-is, join_r-is, join_i-lacks, join_i-first, join_i-second, join_r-lacks, join_r-first, join_r-second}
use Rattle.theory_yields.specs.ArmNames.{iterated_names, returned_names, Narrow, lowest}

pub arm-names : (side : Bool) (w : ℕ) (x : Body) → arm_names side w x ≡ iter_name side ∷ (iterated_names side x ++ returned_names side w x)
unfolding arm_names iterated_outputs returned_outputs
arm-names side w x = refl

pub length-arm-names : (side : Bool) (w : ℕ) (x : Body) → length (arm_names side w x) ≡ suc (iterated_outputs x + returned_outputs w x)
unfolding arm_names iterated_outputs returned_outputs
length-arm-names side w x =
    ap suc
    (length-append (iterated_names side x) (returned_names side w x)
    ∙ rw (length-up_from (iterated_name side) (iterated_outputs x), length-up_from (returned_name side) (returned_outputs w x)) refl)

module _ (side : Bool) (w : ℕ) (x : Body) (k : ℕ) where
  pub arm-member : member_of (arm_names side w x) k
      ≡ eqb (iter_name side) k || (member_of (iterated_names side x) k || member_of (returned_names side w x) k)
  unfolding arm_names member_of iterated_outputs returned_outputs
  arm-member = ap (λ (z : Bool). eqb (iter_name side) k || z) (member-append (iterated_names side x) (returned_names side w x) k)

  -- what a name that is none of them is not
  pub record Foreign : Type 0 where
    pub no-iter : eqb (iter_name side) k ≡ false
    pub no-iterated : member_of (iterated_names side x) k ≡ false
    pub no-returned : member_of (returned_names side w x) k ≡ false

  pub foreign : member_of (arm_names side w x) k ≡ false → Foreign
  foreign h =
      let p = or-neither (eqb (iter_name side) k) (member_of (iterated_names side x) k || member_of (returned_names side w x) k) (sym arm-member ∙ h) in
      let q = or-neither (member_of (iterated_names side x) k) (member_of (returned_names side w x) k) p.1 in
      record { no-iter = p.0; no-iterated = q.0; no-returned = q.1 }

  pub not-foreign : eqb (iter_name side) k ≡ false → member_of (iterated_names side x) k ≡ false → member_of (returned_names side w x) k ≡ false
      → member_of (arm_names side w x) k ≡ false
  not-foreign p q r = arm-member ∙ or-false _ _ p (or-false _ _ q r)

pub narrow : (w : ℕ) (x : Body) → AdmittedB x → w ≤ 16 → Narrow w x
narrow w x a h =
    (omega (arith, iterated-outputs x, iterated-16 x a), omega (arith, h, returned-outputs-le w x))

pub arm_from : (side : Bool) (w : ℕ) (x : Body) → From (lowest side) (arm_names side w x)
arm_from true w x k h =
    not-foreign true w x k (ne_eqb 34 k (λ e. omega arith)) (below-up_from 35 (iterated_outputs x) k (omega arith))
    (below-up_from 51 (returned_outputs w x) k (omega arith))
arm_from false w x k h =
    not-foreign false w x k (ne_eqb 67 k (λ e. omega arith)) (below-up_from 68 (iterated_outputs x) k (omega arith))
    (below-up_from 84 (returned_outputs w x) k (omega arith))

pub arm-to : (side : Bool) (w : ℕ) (x : Body) → Narrow w x → (k : ℕ) → lowest side + 33 ≤ k → member_of (arm_names side w x) k ≡ false
arm-to true w x b k h =
    not-foreign true w x k (ne_eqb 34 k (λ e. omega arith)) (above-up_from 35 (iterated_outputs x) k (omega arith))
    (above-up_from 51 (returned_outputs w x) k (omega arith))
arm-to false w x b k h =
    not-foreign false w x k (ne_eqb 67 k (λ e. omega arith)) (above-up_from 68 (iterated_outputs x) k (omega arith))
    (above-up_from 84 (returned_outputs w x) k (omega arith))

pub arm-from-test : (side : Bool) (w : ℕ) (x : Body) → From 34 (arm_names side w x)
arm-from-test true w x k h = arm_from true w x k h
arm-from-test false w x k h = arm_from false w x k (omega arith)

-- The names of the two arms are apart.
pub arms-apart : (w : ℕ) (x y : Body) → Narrow w x → Apart (arm_names true w x) (arm_names false w y)
arms-apart w x y b k h = go (ltb k 67) refl
  where
    go : (s : Bool) → ltb k 67 ≡ s → member_of (arm_names false w y) k ≡ false
    go true e = arm_from false w y k (ltb-true k 67 e)
    go false e = absurd (false≢true (sym (arm-to true w x b k (ltb-false k 67 e)) ∙ h))

pub arm-different : (side : Bool) (w : ℕ) (x : Body) → Narrow w x → Different (arm_names side w x)
unfolding arm_names iterated_outputs returned_outputs
arm-different true w x b = (
  omega arith,
  member-append (iterated_names true x) (returned_names true w x) 34
      ∙ or-false _ _ (below-up_from 35 (iterated_outputs x) 34 (omega arith)) (below-up_from 51 (returned_outputs w x) 34 (omega arith)),
  different-append (iterated_names true x) (returned_names true w x) (different-up_from 35 (iterated_outputs x) (omega arith))
      (different-up_from 51 (returned_outputs w x) (omega arith))
      (λ k h. below-up_from 51 (returned_outputs w x) k (omega (arith, b, up_from-holds 35 (iterated_outputs x) k h))),
)
arm-different false w x b = (
  omega arith,
  member-append (iterated_names false x) (returned_names false w x) 67
      ∙ or-false _ _ (below-up_from 68 (iterated_outputs x) 67 (omega arith)) (below-up_from 84 (returned_outputs w x) 67 (omega arith)),
  different-append (iterated_names false x) (returned_names false w x) (different-up_from 68 (iterated_outputs x) (omega arith))
      (different-up_from 84 (returned_outputs w x) (omega arith))
      (λ k h. below-up_from 84 (returned_outputs w x) k (omega (arith, b, up_from-holds 68 (iterated_outputs x) k h))),
)

-- ---- IC's names
pub join-from : (both : Bool) → From 100 (join_names both)
unfolding join_names member_of
join-from true k h = or-false _ _ (ne_eqb 100 k (λ e. omega arith)) (or-false _ _ (ne_eqb 101 k (λ e. omega arith)) (or-false _ _ (ne_eqb 102 k (λ e. omega arith)) refl))
join-from false k h = or-false _ _ (ne_eqb 100 k (λ e. omega arith)) (or-false _ _ (ne_eqb 102 k (λ e. omega arith)) refl)

pub join-different : (both : Bool) → Different (join_names both)
unfolding join_names member_of
join-different true = (omega arith, refl, (omega arith, refl, (omega arith, refl, tt)))
join-different false = (omega arith, refl, (omega arith, refl, tt))

pub join-has-first : (both : Bool) → member_of (join_names both) join_name ≡ true
unfolding join_names member_of
join-has-first true = refl
join-has-first false = refl

pub join-has-third : (both : Bool) → member_of (join_names both) (join_name + 2) ≡ true
unfolding join_names member_of
join-has-third true = refl
join-has-third false = refl

-- A name that is not among them is neither IC's first nor its third output.
pub not_first : (both : Bool) (k : ℕ) → member_of (join_names both) k ≡ false → eqb join_name k ≡ false
not_first both k h = ne_eqb join_name k (λ e. false≢true (sym h ∙ ap (member_of (join_names both)) (sym e) ∙ join-has-first both))

pub not_third : (both : Bool) (k : ℕ) → member_of (join_names both) k ≡ false → k ≡ join_name + 2 → ⊥
not_third both k h e = false≢true (sym h ∙ ap (member_of (join_names both)) e ∙ join-has-third both)

-- ---- what the joins use
module _ (w : ℕ) (t : Exp) (x y : Body) (a : AdmittedB (if_b t x y)) where
  same_width : iterates x ≡ true → iterates y ≡ true → iterated x ≡ iterated y
  same_width p q = iterated-both t x y a p q

  pub joined_free : (k : ℕ) → free (joined w x y) k
      ≡ (eqb test_name k || (eqb (iter_name true) k || eqb (iter_name false) k))
      || ((eqb join_name k || (free (iterated_join x y) k || free (returned_join w x y) k)) && not (member_of (join_names (iterates x && iterates y)) k))
  unfolding joined free
  joined_free k = refl

  -- behind IC: nothing but its outputs and the arms' results
  pub parts-lack : (k : ℕ) → member_of (join_names (iterates x && iterates y)) k ≡ false → Foreign true w x k → Foreign false w y k
      → eqb join_name k || (free (iterated_join x y) k || free (returned_join w x y) k) ≡ false
  unfolding iterated_outputs returned_outputs
  parts-lack k h p q =
      or-false (eqb join_name k) (free (iterated_join x y) k || free (returned_join w x y) k) (not_first (iterates x && iterates y) k h)
      (or-false (free (iterated_join x y) k) (free (returned_join w x y) k)
      (rw (join_i-is x y)
      (join_i-lacks (iterates x) (iterates y) (iterated x) (iterated y) k same_width h p.no-iterated q.no-iterated))
      (rw (join_r-is w x y)
      (join_r-lacks (returns x) (returns y) w k (not_third (iterates x && iterates y) k h) p.no-returned q.no-returned)))

  pub joined-lacks : (k : ℕ) → (k ≡ test_name → ⊥) → member_of (arm_names true w x) k ≡ false → member_of (arm_names false w y) k ≡ false
      → free (joined w x y) k ≡ false
  joined-lacks k n p q = joined_free k ∙ or-false _ _ gates (go (member_of (join_names (iterates x && iterates y)) k) refl)
    where
      fp : Foreign true w x k
      fp = foreign true w x k p

      fq : Foreign false w y k
      fq = foreign false w y k q

      gates : eqb test_name k || (eqb (iter_name true) k || eqb (iter_name false) k) ≡ false
      gates =
          or-false (eqb test_name k) (eqb (iter_name true) k || eqb (iter_name false) k) (ne_eqb test_name k (λ e. n (sym e)))
          (or-false (eqb (iter_name true) k) (eqb (iter_name false) k) fp.no-iter fq.no-iter)

      go : (m : Bool) → member_of (join_names (iterates x && iterates y)) k ≡ m
          → (eqb join_name k || (free (iterated_join x y) k || free (returned_join w x y) k)) && not m ≡ false
      go true h = gone (eqb join_name k || (free (iterated_join x y) k || free (returned_join w x y) k)) true refl
      go false h = unseen (eqb join_name k || (free (iterated_join x y) k || free (returned_join w x y) k)) true (parts-lack k h fp fq)

  pub joined-test : free (joined w x y) test_name ≡ true
  joined-test = joined_free test_name

  -- a result that a join uses is used by the whole, being none of IC's names
  through : (k : ℕ) → k < 100 → free (iterated_join x y) k || free (returned_join w x y) k ≡ true → free (joined w x y) k ≡ true
  through k l h =
      joined_free k
      ∙ or_right (eqb test_name k || (eqb (iter_name true) k || eqb (iter_name false) k)) _
      (kept _ (member_of (join_names (iterates x && iterates y)) k) (join-from (iterates x && iterates y) k l)
      ∙ or_right (eqb join_name k) (free (iterated_join x y) k || free (returned_join w x y) k) h)

  pub use-first : Narrow w x → Used (arm_names true w x) (joined w x y)
  unfolding iterated_outputs returned_outputs
  use-first b k h = go (eqb 34 k) refl (member_of (iterated_names true x) k) refl
    where
      small : k < 100
      small = below (ltb k 67) refl
        where
          below : (s : Bool) → ltb k 67 ≡ s → k < 100
          below true e = omega (arith, ltb-true k 67 e)
          below false e = absurd (false≢true (sym (arm-to true w x b k (ltb-false k 67 e)) ∙ h))

      go : (s : Bool) → eqb 34 k ≡ s → (m : Bool) → member_of (iterated_names true x) k ≡ m → free (joined w x y) k ≡ true
      go true e m i = joined_free k ∙ or_left _ _ (or_right (eqb test_name k) _ (or_left _ _ e))
      go false e true i =
          through k small
          (or_left (free (iterated_join x y) k) (free (returned_join w x y) k) (rw (join_i-is x y) (join_i-first (iterates x) (iterates y) (iterated x) (iterated y) k i)))
      go false e false i =
          through k small
          (or_right (free (iterated_join x y) k) (free (returned_join w x y) k)
          (rw (join_r-is w x y)
          (join_r-first (returns x) (returns y) w k
          (or-true (member_of (iterated_names true x) k) (member_of (returned_names true w x) k)
          (or-true (eqb 34 k) _ (sym (arm-member true w x k) ∙ h) e) i))))

  pub use-second : Narrow w y → Used (arm_names false w y) (joined w x y)
  unfolding iterated_outputs returned_outputs
  use-second b k h = go (eqb 67 k) refl (member_of (iterated_names false y) k) refl
    where
      small : k < 100
      small = below (ltb k 100) refl
        where
          below : (s : Bool) → ltb k 100 ≡ s → k < 100
          below true e = ltb-true k 100 e
          below false e = absurd (false≢true (sym (arm-to false w y b k (ltb-false k 100 e)) ∙ h))

      go : (s : Bool) → eqb 67 k ≡ s → (m : Bool) → member_of (iterated_names false y) k ≡ m → free (joined w x y) k ≡ true
      go true e m i = joined_free k ∙ or_left _ _ (or_right (eqb test_name k) _ (or_right (eqb 34 k) _ e))
      go false e true i =
          through k small
          (or_left (free (iterated_join x y) k) (free (returned_join w x y) k) (rw (join_i-is x y) (join_i-second (iterates x) (iterates y) (iterated x) (iterated y) k same_width i)))
      go false e false i =
          through k small
          (or_right (free (iterated_join x y) k) (free (returned_join w x y) k)
          (rw (join_r-is w x y)
          (join_r-second (returns x) (returns y) w k
          (or-true (member_of (iterated_names false y) k) (member_of (returned_names false w y) k)
          (or-true (eqb 67 k) _ (sym (arm-member false w y k) ∙ h) e) i))))
