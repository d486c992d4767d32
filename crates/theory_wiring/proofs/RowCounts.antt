-- Laws of specs/RowCounts.antt, and what only they need.
use Rattle.std.specs.Prelude.{ℕ, zero, suc, ◌+◌, ◌*◌, ◌-◌, ◌≤◌, ◌<◌, ◌≡◌, Bool, ◌&&◌, length}
use Rattle.std.proofs.Math.Path.{refl, sym, ap}
use Rattle.std.proofs.Common.{ap₂, ◌∙◌}
use Rattle.std.proofs.Math.Bool.{true, false}
use mathlib.Core.List.{List, [], ◌∷◌}
use Rattle.std.proofs.Math.Dec.{eqb}
use borrow.Author.Tests.{eqb-true, eqb-false, eq-eqb}
use native.Mathlib.Omega.{arith}
use Rattle.names.specs.Names.{Names, one, common, bit, size, size_from}
use Rattle.names.proofs.Counts.{size_from-cong, size_from-none, size_from-one, size_from-suc}
use Rattle.formula.specs.Count.{◌⊕◌, gates, copies}
use Rattle.graph.specs.Assembly.{Graph, nothing, free, member_of, total, name_count}
use Rattle.graph.specs.Fit.{Different}
use Rattle.graph.specs.Translation.{test_name, row}
use Rattle.theory_reference.proofs.NameSets.{not-both}
use Rattle.theory_yields.proofs.Naming.{or_left, or_right}
use Rattle.theory_yields.specs.Naming.{Small}
use Rattle.theory_yields.proofs.Choice.{row-lacks, row_has}
use Rattle.theory_wiring.specs.Counts.{count_g}
use Rattle.theory_wiring.specs.RowCounts.{Same}

-- ---- sizes of sets
-- nothing from a place on
size-stop : (m k : ℕ) (h : Names) → ((i : ℕ) → m ≤ i → h i ≡ false) → size_from (m + k) h ≡ size_from m h
size-stop m zero h e = ap (λ (n : ℕ). size_from n h) (omega arith)
size-stop m (suc k) h e =
    let z : m + suc k ≡ suc (m + k) = omega arith in
    let b : bit (h (m + k)) ≡ 0 = ap bit (e (m + k) (omega arith)) in
    ap (λ (n : ℕ). size_from n h) z ∙ size_from-suc (m + k) h ∙ omega (arith, b, size-stop m k h e)

-- A set over the 33 places has as many members among all names.
pub total_size : (h f : Names) → ((k : ℕ) → h k ≡ f k) → Small f → total h ≡ size f
unfolding total size
total_size h f e s = size_from-cong name_count h f (λ k _. e k) ∙ size-stop 33 70 f s

-- A set that has the test's name besides.
pub total-test : (h f : Names) (b : Bool) → ((k : ℕ) → k < 33 → h k ≡ f k) → h test_name ≡ b → ((k : ℕ) → 34 ≤ k → h k ≡ false) → total h ≡ size f + bit b
unfolding total size
total-test h f b e t s =
    size-stop 34 69 h s ∙ size_from-suc 33 h ∙ ap₂ ◌+◌ (size_from-cong 33 h f e) (ap bit t)

pub total-none : (h : Names) → ((k : ℕ) → h k ≡ false) → total h ≡ 0
unfolding total
total-none h e = size_from-none name_count h (λ k _. e k)

pub apart_none : (f g : Names) → ((k : ℕ) → f k ≡ true → g k ≡ false) → total (common f g) ≡ 0
apart_none f g h = total-none (common f g) (λ k. go k (f k) refl)
  where
    go : (k : ℕ) (b : Bool) → f k ≡ b → b && g k ≡ false
    go k true e = h k e
    go k false e = refl

-- ---- rows of graphs that share one name, or none
module _ (c : ℕ) (f : ℕ → Graph) where
  -- no name but c is in two of them
  abbrev pub ShareOnly : List ℕ → Type 0
  ShareOnly xs = (x y : ℕ) → member_of xs x ≡ true → member_of xs y ≡ true → (x ≡ y → ⊥) → (k : ℕ) → (k ≡ c → ⊥) → free (f x) k ≡ true → free (f y) k ≡ false

  tail-shares : (x : ℕ) (xs : List ℕ) → ShareOnly (x ∷ xs) → ShareOnly xs
  unfolding member_of
  tail-shares x xs h y z p q = h y z (or_right (eqb x y) (member_of xs y) p) (or_right (eqb x z) (member_of xs z) q)

  head_apart : (x : ℕ) (xs : List ℕ) → member_of xs x ≡ false → ShareOnly (x ∷ xs) → (k : ℕ) → (k ≡ c → ⊥) → free (f x) k ≡ true → free (row f xs) k ≡ false
  unfolding member_of
  head_apart x xs d h k n e =
      row-lacks f xs k
      (λ y m.
      h x y (or_left (eqb x x) (member_of xs x) (eq-eqb x x refl)) (or_right (eqb x y) (member_of xs y) m)
      (λ z. not-both (member_of xs x) (ap (member_of xs) z ∙ m) d) k n e
      )

  -- where each of them has c
  module _ (small : c < name_count) (has : (x : ℕ) → free (f x) c ≡ true) where
    row-shares : (x y : ℕ) (xs : List ℕ) → member_of (y ∷ xs) x ≡ false → ShareOnly (x ∷ y ∷ xs) → total (common (free (f x)) (free (row f (y ∷ xs)))) ≡ 1
    unfolding total member_of
    row-shares x y xs d h =
        size_from-cong name_count (common (free (f x)) (free (row f (y ∷ xs)))) (one c) (λ k _. go k (eqb c k) refl (free (f x) k) refl)
        ∙ size_from-one name_count c small
      where
        go : (k : ℕ) (b : Bool) → eqb c k ≡ b → (e : Bool) → free (f x) k ≡ e → e && free (row f (y ∷ xs)) k ≡ b
        go k true p e q =
            let z : c ≡ k = eqb-true c k p in
            let t : e ≡ true = sym q ∙ ap (free (f x)) (sym z) ∙ has x in
            rw t (row_has f (y ∷ xs) k y (or_left (eqb y y) (member_of xs y) (eq-eqb y y refl)) (ap (free (f y)) (sym z) ∙ has y))
        go k false p true q = head_apart x (y ∷ xs) d h k (λ z. eqb-false c k p (sym z)) q
        go k false p false q = refl

    last-lacks : (x : ℕ) → total (common (free (f x)) (free (row f []))) ≡ 0
    unfolding row free
    last-lacks x = apart_none (free (f x)) (free nothing) (λ k e. refl)

    grown : (s u a p l : ℕ) → s ≡ 1 → u ≡ p → a ≡ p * suc l + (suc l - 1) → s + (u + a) ≡ p * suc (suc l) + (suc (suc l) - 1)
    grown s u a p l h k e = omega arith

    grown-links : (s u a p l : ℕ) → s ≡ 1 → u ≡ p → a ≡ p * suc l + 2 * (suc l - 1) → 2 * s + (u + a) ≡ p * suc (suc l) + 2 * (suc (suc l) - 1)
    grown-links s u a p l h k e = omega arith

    -- k of them, each of p gates, and the copies of c
    pub count-row : (p : ℕ) (xs : List ℕ) → Different xs → ShareOnly xs → ((x : ℕ) → member_of xs x ≡ true → Same (count_g (f x)) (gates p))
        → Same (count_g (row f xs)) (gates (p * length xs) ⊕ copies (length xs - 1))
    unfolding count_g row member_of
    count-row p [] d h e = (omega arith, omega arith)
    count-row p (x ∷ []) d h e =
        let z = last-lacks x in
        let w = e x (or_left (eqb x x) false (eq-eqb x x refl)) in
        (omega (arith, z, w), omega (arith, z, w))
    count-row p (x ∷ y ∷ xs) d h e =
        let z = row-shares x y xs d.1 h in
        let w = e x (or_left (eqb x x) (member_of (y ∷ xs) x) (eq-eqb x x refl)) in
        let r = count-row p (y ∷ xs) d.2 (tail-shares x (y ∷ xs) h) (λ t m. e t (or_right (eqb x t) (member_of (y ∷ xs) t) m)) in
        (grown _ _ _ p (length xs) z w.0 r.0, grown-links _ _ _ p (length xs) z w.1 r.1)

  -- where none of them has c either, nothing is shared
  pub count-plain : (xs : List ℕ) → Different xs → ShareOnly xs → ((x : ℕ) → member_of xs x ≡ true → Same (count_g (f x)) (gates 0))
      → ((x : ℕ) → member_of xs x ≡ true → free (f x) c ≡ false) → Same (count_g (row f xs)) (gates 0)
  unfolding count_g row member_of
  count-plain [] d h e l = (refl, refl)
  count-plain (x ∷ xs) d h e l =
      let z : total (common (free (f x)) (free (row f xs))) ≡ 0 = apart_none (free (f x)) (free (row f xs)) (λ k p. apart k p (eqb c k) refl) in
      let w = e x (or_left (eqb x x) (member_of xs x) (eq-eqb x x refl)) in
      let r = count-plain xs d.2 (tail-shares x xs h) (λ t m. e t (or_right (eqb x t) (member_of xs t) m)) (λ t m. l t (or_right (eqb x t) (member_of xs t) m)) in
      (omega (arith, z, w, r), omega (arith, z, w, r))
    where
      apart : (k : ℕ) → free (f x) k ≡ true → (b : Bool) → eqb c k ≡ b → free (row f xs) k ≡ false
      apart k p true q =
          absurd (not-both (free (f x) k) p (ap (free (f x)) (sym (eqb-true c k q)) ∙ l x (or_left (eqb x x) (member_of xs x) (eq-eqb x x refl))))
      apart k p false q = head_apart x xs d.1 h k (λ z. eqb-false c k q (sym z)) p
