-- Laws of specs/JoinCounts.antt, and what only they need.
use Rattle.std.specs.Prelude.{ℕ, ◌+◌, ◌*◌, ◌-◌, ◌≤◌, ◌<◌, ◌≡◌, ◌⊎◌, Bool, cond, ◌&&◌, ◌||◌, not, length}
use Rattle.std.proofs.Math.Path.{refl, sym}
use Rattle.std.proofs.Common.{ap, ◌∙◌, arith}
use Rattle.std.proofs.Math.Logic.{inl, inr}
use Rattle.std.proofs.Math.Bool.{true, false}
use Rattle.std.proofs.Math.Dec.{eqb}
use borrow.Author.Tests.{eqb-true, eq-eqb, ne_eqb}
use Rattle.std.proofs.Math.Decide.{ℕ_discrete, dec_lt}
use Rattle.names.specs.Names.{Names, one, common, union, without}
use Rattle.formula.specs.Tree.{Body}
use Rattle.formula.specs.Widths.{iterated}
use Rattle.formula.specs.Count.{◌⊕◌, gates, copies, returns, iterates, joined as joinedCount}
use Rattle.graph.specs.Assembly.{Graph, wire, gate_outputs, free, member_of, up_from, total, name_count}
use Rattle.graph.specs.Translation.{test_name, iter_name, iterated_name, returned_name, join_name, merged, excepted, merge_row, except_row, straight, copied, iterated_join, returned_join, join_names, joined}
use Rattle.theory_reference.proofs.NameSets.{not-both, or_cases}
use Rattle.theory_yields.proofs.Naming.{or-false, or_left, length-up_from, up_from-holds, below-up_from, above-up_from, different-up_from}
use Rattle.theory_yields.proofs.Choice.{unseen}
use Rattle.theory_yields.specs.Joins.{join_i, join_r}
use Rattle.theory_yields.proofs.Joins.{join_i-is, join_r-is, merge-lacks, except-lacks, straight-lacks, copied-lacks}
use Rattle.theory_wiring.specs.Counts.{count_g}
use Rattle.theory_wiring.specs.RowCounts.{Same}
use Rattle.theory_wiring.proofs.RowCounts.{apart_none, ShareOnly, count-row, count-plain}
use Rattle.theory_wiring.specs.JoinCounts.{Merging}

-- ---- sums of rows, by the length of the row
row-gates : (k w a : ℕ) → k ≡ w → a ≡ 1 * k + (k - 1) → a ≡ w + (w - 1)
row-gates k w a p q = omega arith

row-links : (k w a : ℕ) → k ≡ w → a ≡ 1 * k + 2 * (k - 1) → a ≡ w + 2 * (w - 1)
row-links k w a p q = omega arith

row-copies : (k w a : ℕ) → k ≡ w → a ≡ 0 * k + (k - 1) → a ≡ w - 1
row-copies k w a p q = omega arith

row-copy-links : (k w a : ℕ) → k ≡ w → a ≡ 0 * k + 2 * (k - 1) → a ≡ 2 * (w - 1)
row-copy-links k w a p q = omega arith

module _ (c : ℕ) (s : Bool → ℕ) (w : ℕ) (m : Merging c s w) where
  merged-count : (i : ℕ) → i < w → Same (count_g (merged c s i)) (gates 1)
  unfolding count_g free gate_outputs
  merged-count i l =
      let y : total (common (one (s true + i)) (one (s false + i))) ≡ 0 =
      apart_none (one (s true + i)) (one (s false + i)) (λ k e. ne_eqb (s false + i) k (λ z. omega (arith, m.sides, z, eqb-true (s true + i) k e)))
      in
      let z : total (common (one c) (union (one (s true + i)) (one (s false + i)))) ≡ 0 =
      apart_none (one c) (union (one (s true + i)) (one (s false + i)))
      (λ k e.
      or-false (eqb (s true + i) k) (eqb (s false + i) k) (ne_eqb (s true + i) k (λ z. m.not_first i l (eqb-true c k e ∙ sym z)))
      (ne_eqb (s false + i) k (λ z. m.not-second i l (eqb-true c k e ∙ sym z)))
      )
      in
      (omega (arith, y, z), omega (arith, y, z))

  abbrev Named : ℕ → ℕ → Type 0
  Named i k = (s true + i ≡ k) ⊎ (s false + i ≡ k)

  which : (i k : ℕ) → (k ≡ c → ⊥) → free (merged c s i) k ≡ true → Named i k
  unfolding free
  which i k n e = go (or_cases (eqb c k) (eqb (s true + i) k || eqb (s false + i) k) e)
    where
      go : (eqb c k ≡ true) ⊎ (eqb (s true + i) k || eqb (s false + i) k ≡ true) → Named i k
      go (inl z) = absurd (n (sym (eqb-true c k z)))
      go (inr z) = side (or_cases (eqb (s true + i) k) (eqb (s false + i) k) z)
        where
          side : (eqb (s true + i) k ≡ true) ⊎ (eqb (s false + i) k ≡ true) → Named i k
          side (inl e) = inl (eqb-true (s true + i) k e)
          side (inr e) = inr (eqb-true (s false + i) k e)

  other : (x y k : ℕ) → x < w → y < w → (x ≡ y → ⊥) → Named x k → (s true + y ≡ k → ⊥) × (s false + y ≡ k → ⊥)
  other x y k p q n (inl e) = (λ z. n (omega arith), λ z. omega (arith, m.sides))
  other x y k p q n (inr e) = (λ z. omega (arith, m.sides), λ z. n (omega arith))

  merged-shares : ShareOnly c (merged c s) (up_from 0 w)
  unfolding free
  merged-shares x y p q ne k n e =
      let o = other x y k (omega (arith, up_from-holds 0 w x p)) (omega (arith, up_from-holds 0 w y q)) ne (which x k n e) in
      or-false (eqb c k) (eqb (s true + y) k || eqb (s false + y) k) (ne_eqb c k (λ z. n (sym z)))
      (or-false (eqb (s true + y) k) (eqb (s false + y) k) (ne_eqb (s true + y) k o.0) (ne_eqb (s false + y) k o.1))

  merged-has : (i : ℕ) → free (merged c s i) c ≡ true
  unfolding free
  merged-has i = or_left (eqb c c) (eqb (s true + i) c || eqb (s false + i) c) (eq-eqb c c refl)

  pub count-merge : Same (count_g (merge_row c s w)) (gates w ⊕ copies (w - 1))
  unfolding merge_row
  count-merge =
      let r = count-row c (merged c s) m.control merged-has 1 (up_from 0 w) (different-up_from 0 w (omega (arith, m.room))) merged-shares
      (λ i h. merged-count i (omega (arith, up_from-holds 0 w i h)))
      in
      let l = length-up_from 0 w in
      (row-gates (length (up_from 0 w)) w _ l r.0, row-links (length (up_from 0 w)) w _ l r.1)

-- ---- rows of E
module _ (c s w : ℕ) (cb : c < name_count) (room : w ≤ name_count) (nc : (i : ℕ) → i < w → c ≡ s + i → ⊥) where
  excepted-count : (i : ℕ) → i < w → Same (count_g (excepted c s i)) (gates 1)
  unfolding count_g free gate_outputs
  excepted-count i l =
      let z : total (common (one c) (one (s + i))) ≡ 0 = apart_none (one c) (one (s + i)) (λ k e. ne_eqb (s + i) k (λ z. nc i l (eqb-true c k e ∙ sym z))) in
      (omega (arith, z), omega (arith, z))

  excepted-which : (i k : ℕ) → (k ≡ c → ⊥) → free (excepted c s i) k ≡ true → s + i ≡ k
  unfolding free
  excepted-which i k n e = go (or_cases (eqb c k) (eqb (s + i) k) e)
    where
      go : (eqb c k ≡ true) ⊎ (eqb (s + i) k ≡ true) → s + i ≡ k
      go (inl z) = absurd (n (sym (eqb-true c k z)))
      go (inr z) = eqb-true (s + i) k z

  excepted-shares : ShareOnly c (excepted c s) (up_from 0 w)
  unfolding free
  excepted-shares x y p q ne k n e =
      or-false (eqb c k) (eqb (s + y) k) (ne_eqb c k (λ z. n (sym z)))
      (ne_eqb (s + y) k (λ z. ne (omega (arith, z, excepted-which x k n e))))

  excepted-has : (i : ℕ) → free (excepted c s i) c ≡ true
  unfolding free
  excepted-has i = or_left (eqb c c) (eqb (s + i) c) (eq-eqb c c refl)

  pub count-except : Same (count_g (except_row c s w)) (gates w ⊕ copies (w - 1))
  unfolding except_row
  count-except =
      let r = count-row c (excepted c s) cb excepted-has 1 (up_from 0 w) (different-up_from 0 w (omega arith)) excepted-shares
      (λ i h. excepted-count i (omega (arith, up_from-holds 0 w i h)))
      in
      let l = length-up_from 0 w in
      (row-gates (length (up_from 0 w)) w _ l r.0, row-links (length (up_from 0 w)) w _ l r.1)

-- ---- copies, and results that pass straight
module _ (c w : ℕ) (cb : c < name_count) (room : w ≤ name_count) where
  copied-shares : ShareOnly c (λ i. wire c) (up_from 0 w)
  unfolding free
  copied-shares x y p q ne k n e = absurd (n (sym (eqb-true c k e)))

  copied-has : (i : ℕ) → free (wire c) c ≡ true
  unfolding free
  copied-has i = eq-eqb c c refl

  wire-count : (i : ℕ) → member_of (up_from 0 w) i ≡ true → Same (count_g (wire c)) (gates 0)
  unfolding count_g
  wire-count i m = (refl, refl)

  pub count-copied : Same (count_g (copied c w)) (copies (w - 1))
  unfolding copied
  count-copied =
      let r = count-row c (λ i. wire c) cb copied-has 0 (up_from 0 w) (different-up_from 0 w (omega arith)) copied-shares wire-count in
      let l = length-up_from 0 w in
      (row-copies (length (up_from 0 w)) w _ l r.0, row-copy-links (length (up_from 0 w)) w _ l r.1)

module _ (s w : ℕ) (room : s + w ≤ name_count) where
  straight-shares : ShareOnly name_count (λ i. wire (s + i)) (up_from 0 w)
  unfolding free
  straight-shares x y p q ne k n e = ne_eqb (s + y) k (λ z. ne (omega (arith, z, eqb-true (s + x) k e)))

  straight-count : (i : ℕ) → member_of (up_from 0 w) i ≡ true → Same (count_g (wire (s + i))) (gates 0)
  unfolding count_g
  straight-count i m = (refl, refl)

  straight-lacks-all : (i : ℕ) → member_of (up_from 0 w) i ≡ true → free (wire (s + i)) name_count ≡ false
  unfolding free
  straight-lacks-all i m = ne_eqb (s + i) name_count (λ e. omega (arith, e, room, up_from-holds 0 w i m))

  pub count-straight : Same (count_g (straight s w)) (gates 0)
  unfolding straight
  count-straight =
      count-plain name_count (λ i. wire (s + i)) (up_from 0 w) (different-up_from 0 w (omega arith)) straight-shares straight-count straight-lacks-all

-- ---- the two joins of a body's if
outside : (s w k : ℕ) → w ≤ 16 → (k < s) ⊎ (s + 16 ≤ k) → member_of (up_from s w) k ≡ false
outside s w k h (inl p) = below-up_from s w k p
outside s w k h (inr p) = above-up_from s w k (omega arith)

pub merging : (c w : ℕ) (s : Bool → ℕ) → c < name_count → w ≤ 16 → s true + 16 ≤ s false → (c < s true) ⊎ (s false + 16 ≤ c) → Merging c s w
merging c w s p q r (inl z) = record { control = p; sides = omega arith; room = omega arith; not_first = λ i l e. omega arith; not-second = λ i l e. omega arith }
merging c w s p q r (inr z) = record { control = p; sides = omega arith; room = omega arith; not_first = λ i l e. omega arith; not-second = λ i l e. omega arith }

pub join_i-count : (b c : Bool) (m n : ℕ) → m ≤ 16 → n ≤ 16 → Same (count_g (join_i b c m n)) (cond (b && c) (gates m ⊕ copies (m - 1)) (gates 0))
unfolding count_g
join_i-count true true m n p q = count-merge (join_name + 1) iterated_name m (merging (join_name + 1) m iterated_name (omega arith) p (omega arith) (inr (omega arith)))
join_i-count true false m n p q = count-straight (iterated_name true) m (omega arith)
join_i-count false true m n p q = count-straight (iterated_name false) n (omega arith)
join_i-count false false m n p q = (refl, refl)

pub join_r-count : (b c : Bool) (w : ℕ) → w ≤ 16 → Same (count_g (join_r b c w)) (cond (b || c) (gates w) (gates 0) ⊕ copies (w - 1))
join_r-count true true w p = count-merge (join_name + 2) returned_name w (merging (join_name + 2) w returned_name (omega arith) p (omega arith) (inr (omega arith)))
join_r-count true false w p = count-except (join_name + 2) (returned_name true) w (omega arith) (omega arith) (λ i l e. omega arith)
join_r-count false true w p = count-except (join_name + 2) (returned_name false) w (omega arith) (omega arith) (λ i l e. omega arith)
join_r-count false false w p = let r = count-copied (join_name + 2) w (omega arith) (omega arith) in (omega (arith, r), omega (arith, r))

-- which names the joins do not use
join_i-not : (b c : Bool) (m n k : ℕ) → m ≤ 16 → n ≤ 16 → (k ≡ 101 → ⊥) → (k < 35) ⊎ (51 ≤ k) → (k < 68) ⊎ (84 ≤ k) → free (join_i b c m n) k ≡ false
unfolding free
join_i-not true true m n k p q n₁ u v = merge-lacks (join_name + 1) iterated_name m k n₁ (outside 35 m k p u) (outside 68 m k p v)
join_i-not true false m n k p q n₁ u v = straight-lacks (iterated_name true) m k (outside 35 m k p u)
join_i-not false true m n k p q n₁ u v = straight-lacks (iterated_name false) n k (outside 68 n k q v)
join_i-not false false m n k p q n₁ u v = refl

join_r-not : (b c : Bool) (w k : ℕ) → w ≤ 16 → (k ≡ 102 → ⊥) → (k < 51) ⊎ (67 ≤ k) → (k < 84) ⊎ (100 ≤ k) → free (join_r b c w) k ≡ false
join_r-not true true w k p n u v = merge-lacks (join_name + 2) returned_name w k n (outside 51 w k p u) (outside 84 w k p v)
join_r-not true false w k p n u v = except-lacks (join_name + 2) (returned_name true) w k n (outside 51 w k p u)
join_r-not false true w k p n u v = except-lacks (join_name + 2) (returned_name false) w k n (outside 84 w k p v)
join_r-not false false w k p n u v = copied-lacks (join_name + 2) w k n

-- no name is used by both
joins-apart : (b c d e : Bool) (m n w k : ℕ) → m ≤ 16 → n ≤ 16 → w ≤ 16 → free (join_i b c m n) k ≡ true → free (join_r d e w) k ≡ false
joins-apart b c d e m n w k p q r h = go (dec_lt k 51) (dec_lt k 68) (dec_lt k 84) (ℕ_discrete k 101)
  where
    never : free (join_i b c m n) k ≡ false → free (join_r d e w) k ≡ false
    never z = absurd (not-both (free (join_i b c m n) k) h z)

    go : Dec (k < 51) → Dec (k < 68) → Dec (k < 84) → Dec (k ≡ 101) → free (join_r d e w) k ≡ false
    go (yes x) u v z = join_r-not d e w k r (λ o. omega arith) (inl x) (inl (omega arith))
    go (no x) (yes u) v z = never (join_i-not b c m n k p q (λ o. omega arith) (inr (omega arith)) (inl u))
    go (no x) (no u) (yes v) z = join_r-not d e w k r (λ o. omega arith) (inr (omega arith)) (inl v)
    go (no x) (no u) (no v) (yes z) = join_r-not d e w k r (λ o. omega arith) (inr (omega arith)) (inr (omega arith))
    go (no x) (no u) (no v) (no z) = never (join_i-not b c m n k p q z (inr (omega arith)) (inr (omega arith)))

-- ---- behind IC
module _ (w : ℕ) (x y : Body) (small-x : iterated x ≤ 16) (small-y : iterated y ≤ 16) (small-w : w ≤ 16) where
  abbrev both : Bool
  both = iterates x && iterates y

  I-not : (k : ℕ) → (k ≡ 101 → ⊥) → (k < 35) ⊎ (51 ≤ k) → (k < 68) ⊎ (84 ≤ k) → free (iterated_join x y) k ≡ false
  I-not k n u v = rw (join_i-is x y) (join_i-not (iterates x) (iterates y) (iterated x) (iterated y) k small-x small-y n u v)

  R-not : (k : ℕ) → (k ≡ 102 → ⊥) → (k < 51) ⊎ (67 ≤ k) → (k < 84) ⊎ (100 ≤ k) → free (returned_join w x y) k ≡ false
  R-not k n u v = rw (join_r-is w x y) (join_r-not (returns x) (returns y) w k small-w n u v)

  I-R-apart : (k : ℕ) → free (iterated_join x y) k ≡ true → free (returned_join w x y) k ≡ false
  I-R-apart k h =
      rw (join_r-is w x y)
      (joins-apart (iterates x) (iterates y) (returns x) (returns y) (iterated x) (iterated y) w k small-x small-y small-w (ap (λ (g : Graph). free g k) (sym (join_i-is x y)) ∙ h))

  first-apart : (k : ℕ) → eqb join_name k ≡ true → free (iterated_join x y) k || free (returned_join w x y) k ≡ false
  first-apart k e =
      let z = eqb-true join_name k e in
      or-false (free (iterated_join x y) k) (free (returned_join w x y) k) (I-not k (λ o. omega arith) (inr (omega arith)) (inr (omega arith)))
      (R-not k (λ o. omega arith) (inr (omega arith)) (inr (omega arith)))

  -- IC's inputs are the test's output and the two iter?
  abbrev asked : Names
  asked = union (one test_name) (union (one (iter_name true)) (one (iter_name false)))

  asked-apart : (k : ℕ) → asked k ≡ true → (eqb join_name k || (free (iterated_join x y) k || free (returned_join w x y) k)) && not (member_of (join_names both) k) ≡ false
  asked-apart k e = unseen (eqb join_name k || (free (iterated_join x y) k || free (returned_join w x y) k)) (not (member_of (join_names both) k)) (go (or_cases (eqb 33 k) (eqb 34 k || eqb 67 k) e))
    where
      lacks : (k < 35) ⊎ (k ≡ 67) → eqb join_name k || (free (iterated_join x y) k || free (returned_join w x y) k) ≡ false
      lacks (inl h) =
          or-false (eqb join_name k) (free (iterated_join x y) k || free (returned_join w x y) k) (ne_eqb join_name k (λ o. omega arith))
          (or-false (free (iterated_join x y) k) (free (returned_join w x y) k) (I-not k (λ o. omega arith) (inl h) (inl (omega arith)))
          (R-not k (λ o. omega arith) (inl (omega arith)) (inl (omega arith))))
      lacks (inr h) =
          or-false (eqb join_name k) (free (iterated_join x y) k || free (returned_join w x y) k) (ne_eqb join_name k (λ o. omega arith))
          (or-false (free (iterated_join x y) k) (free (returned_join w x y) k) (I-not k (λ o. omega arith) (inr (omega arith)) (inl (omega arith)))
          (R-not k (λ o. omega arith) (inr (omega arith)) (inl (omega arith))))

      go : (eqb 33 k ≡ true) ⊎ (eqb 34 k || eqb 67 k ≡ true) → eqb join_name k || (free (iterated_join x y) k || free (returned_join w x y) k) ≡ false
      go (inl h) = let z = eqb-true 33 k h in lacks (inl (omega arith))
      go (inr h) = side (or_cases (eqb 34 k) (eqb 67 k) h)
        where
          side : (eqb 34 k ≡ true) ⊎ (eqb 67 k ≡ true) → eqb join_name k || (free (iterated_join x y) k || free (returned_join w x y) k) ≡ false
          side (inl e) = let z = eqb-true 34 k e in lacks (inl (omega arith))
          side (inr e) = let z = eqb-true 67 k e in lacks (inr (sym z))

  inputs_apart : (total (common (one (iter_name true)) (one (iter_name false))) ≡ 0) × (total (common (one test_name) (union (one (iter_name true)) (one (iter_name false)))) ≡ 0)
  inputs_apart = (
    apart_none (one 34) (one 67) (λ k e. ne_eqb 67 k (λ z. omega (arith, z, eqb-true 34 k e))),
    apart_none (one 33) (union (one 34) (one 67)) (λ k e. let t = eqb-true 33 k e in or-false (eqb 34 k) (eqb 67 k) (ne_eqb 34 k (λ z. omega arith)) (ne_eqb 67 k (λ z. omega arith))),
  )

  sum-joined : (o p q r s i j ic i' j' : ℕ) → o ≡ 0 → p ≡ 0 → q ≡ 0 → r ≡ 0 → s ≡ 0 → i ≡ i' → j ≡ j'
      → o + (((p + (0 + (q + (0 + 0)))) + ic) + (r + (0 + (s + (i + j))))) ≡ ic + (i' + j')
  sum-joined o p q r s i j ic i' j' a b c d e f g = omega arith

  sum-joined-links : (o p q r s i j ic i' j' : ℕ) → o ≡ 0 → p ≡ 0 → q ≡ 0 → r ≡ 0 → s ≡ 0 → i ≡ i' → j ≡ j'
      → 2 * o + (((2 * p + (0 + (2 * q + (0 + 0)))) + ic) + (2 * r + (0 + (2 * s + (i + j))))) ≡ ic + (i' + j')
  sum-joined-links o p q r s i j ic i' j' a b c d e f g = omega arith

  pub joined-count : Same (count_g (joined w x y)) (joinedCount w x y)
  unfolding count_g joined free gate_outputs joinedCount
  joined-count =
      let o = apart_none asked (without (union (one join_name) (union (free (iterated_join x y)) (free (returned_join w x y)))) (member_of (join_names both))) asked-apart in
      let p = inputs_apart in
      let r = apart_none (one join_name) (union (free (iterated_join x y)) (free (returned_join w x y))) first-apart in
      let s = apart_none (free (iterated_join x y)) (free (returned_join w x y)) I-R-apart in
      let i : Same (count_g (iterated_join x y)) (cond both (gates (iterated x) ⊕ copies (iterated x - 1)) (gates 0)) =
      rw (join_i-is x y) (join_i-count (iterates x) (iterates y) (iterated x) (iterated y) small-x small-y)
      in
      let j : Same (count_g (returned_join w x y)) (cond (returns x || returns y) (gates w) (gates 0) ⊕ copies (w - 1)) =
      rw (join_r-is w x y) (join_r-count (returns x) (returns y) w small-w)
      in
      (sum-joined _ _ _ _ _ _ _ _ _ _ o p.1 p.0 r s i.0 j.0, sum-joined-links _ _ _ _ _ _ _ _ _ _ o p.1 p.0 r s i.1 j.1)
