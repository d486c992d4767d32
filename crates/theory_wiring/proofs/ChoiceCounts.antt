-- Counting an if behind its test (theory_yields/specs/Choice): a T gate on each free name of one arm and an F gate on each of the other, as many copies
-- of the test's output as there are gates, and the copies of the names that test and arms share. Assumes arms over the 33 places, and that what
-- joins them uses the test's output and the arms' outputs alone.
use Rattle.std.specs.Prelude.{ℕ, suc, ◌+◌, ◌*◌, ◌-◌, ◌≤◌, ◌<◌, ◌≡◌, ◌⊎◌, Bool, ◌&&◌, List, [], ◌∷◌, length, eqb}
use Rattle.std.proofs.Math.Path.{refl, sym, ap, ap₂}
use Rattle.std.proofs.Common.{◌∙◌, inl, inr}
use Rattle.std.proofs.Math.Bool.{true, false, ◌||◌, not}
use Rattle.std.proofs.Math.Dec.{ltb}
use borrow.Author.Tests.{eqb-true, eq-eqb, ne_eqb, ltb-true, ltb-false}
use native.Mathlib.Omega.{arith}
use Rattle.names.specs.Names.{Names, none as noNames, one, common, union, without, bit, size, members}
use Rattle.names.proofs.Sets.{length-members, size-empty}
use Rattle.formula.specs.Count.{◌⊕◌, gates, copies}
use Rattle.graph.specs.Assembly.{Gate, T, F, Graph, bind, gate_outputs, free, member_of, total}
use Rattle.graph.specs.Translation.{test_name, row, gated, arm}
use Rattle.theory_reference.proofs.NameSets.{not-both, or_cases}
use Rattle.theory_yields.proofs.Naming.{or-false, or_left, or_right, member-members, different-members}
use Rattle.theory_yields.specs.Naming.{Small}
use Rattle.theory_yields.specs.Choice.{choice, From, Has}
use Rattle.theory_yields.proofs.Choice.{Joining, row_has, arm-free, unseen, kept, gone, or-none}
use Rattle.theory_wiring.specs.Counts.{count_g}
use Rattle.theory_wiring.specs.RowCounts.{Same}
use Rattle.theory_wiring.proofs.RowCounts.{total_size, total-test, total-none, apart_none, ShareOnly, count-row}

-- ---- the gates of an arm
module _ (G : Gate) (one_out : gate_outputs G ≡ 1) where
  gated-free : (x k : ℕ) → free (gated G x) k ≡ eqb test_name k || eqb x k
  unfolding free
  gated-free x k = refl

  gated-count : (x : ℕ) → (x ≡ test_name → ⊥) → Same (count_g (gated G x)) (gates 1)
  unfolding count_g free
  gated-count x n =
      let z : total (common (one test_name) (one x)) ≡ 0 = apart_none (one test_name) (one x) (λ k e. ne_eqb x k (λ w. n (w ∙ sym (eqb-true test_name k e)))) in
      (omega (arith, z), omega (arith, z, one_out))

  members-below : (f : Names) → Small f → (x : ℕ) → member_of (members f) x ≡ true → x ≡ test_name → ⊥
  members-below f s x m e = not-both (f x) (sym (member-members f s x) ∙ m) (s x (omega (arith, e)))

  gated-shares : (f : Names) → ShareOnly test_name (gated G) (members f)
  gated-shares f x y p q ne k n e =
      gated-free y k
      ∙ or-false (eqb test_name k) (eqb y k) (ne_eqb test_name k (λ z. n (sym z))) (ne_eqb y k (λ z. ne (same (or_cases (eqb test_name k) (eqb x k) (sym (gated-free x k) ∙ e)) ∙ sym z)))
    where
      same : (eqb test_name k ≡ true) ⊎ (eqb x k ≡ true) → x ≡ k
      same (inl z) = absurd (n (sym (eqb-true test_name k z)))
      same (inr z) = eqb-true x k z

  gated-has : (x : ℕ) → free (gated G x) test_name ≡ true
  gated-has x = gated-free x test_name

  row-gated : (f : Names) → Small f → Same (count_g (row (gated G) (members f))) (gates (1 * length (members f)) ⊕ copies (length (members f) - 1))
  row-gated f s =
      count-row test_name (gated G) (omega arith) gated-has 1 (members f) (different-members f) (gated-shares f) (λ x m. gated-count x (members-below f s x m))

  module _ (f : Names) (a : Graph) (s : Small f) (e : Has a f) where
    none_left : (k : ℕ) → common (free (row (gated G) (members f))) (without (free a) (member_of (members f))) k ≡ false
    none_left k = go (f k) refl (free (row (gated G) (members f)) k)
      where
        left : (b : Bool) → f k ≡ b → free a k && not (member_of (members f) k) ≡ false
        left true p = gone (free a k) (member_of (members f) k) (member-members f s k ∙ p)
        left false p = unseen (free a k) (not (member_of (members f) k)) (e k ∙ p)

        go : (b : Bool) → f k ≡ b → (c : Bool) → c && (free a k && not (member_of (members f) k)) ≡ false
        go b p true = left b p
        go b p false = refl

    pub arm-count : Same (count_g (arm G f a)) (gates (size f) ⊕ copies (size f - 1) ⊕ count_g a)
    unfolding count_g arm
    arm-count =
        let z = total-none (common (free (row (gated G) (members f))) (without (free a) (member_of (members f)))) none_left in
        let r = row-gated f s in
        let l = length-members f in
        (sums (size f) (length (members f)) _ _ _ l z r.0, sums-links (size f) (length (members f)) _ _ _ l z r.1)
      where
        sums : (n m t r c : ℕ) → m ≡ n → t ≡ 0 → r ≡ 1 * m + (m - 1) → t + (r + c) ≡ n + ((n - 1) + c)
        sums n m t r c p q w = omega arith

        sums-links : (n m t r c : ℕ) → m ≡ n → t ≡ 0 → r ≡ 1 * m + 2 * (m - 1) → 2 * t + (r + c) ≡ n + (2 * (n - 1) + c)
        sums-links n m t r c p q w = omega arith

    -- the arm uses the test's output where it has names
    pub arm-uses : bit (free (arm G f a) test_name) + (size f - 1) ≡ size f
    unfolding arm free
    arm-uses = go (members f) refl
      where
        inside : free a test_name && not (member_of (members f) test_name) ≡ false
        inside = unseen (free a test_name) (not (member_of (members f) test_name)) (e test_name ∙ s test_name (omega arith))

        head_in : (x : ℕ) (xs : List ℕ) → member_of (x ∷ xs) x ≡ true
        head_in x xs = or_left (eqb x x) (member_of xs x) (eq-eqb x x refl)

        go : (xs : List ℕ) → members f ≡ xs → bit (free (row (gated G) (members f)) test_name || (free a test_name && not (member_of (members f) test_name))) + (size f - 1) ≡ size f
        go [] p =
            let n : size f ≡ 0 = sym (length-members f) ∙ ap length p in
            let z : free (row (gated G) (members f)) test_name ≡ false = ap (λ (w : List ℕ). free (row (gated G) w) test_name) p in
            omega (arith, n, ap bit (or-false (free (row (gated G) (members f)) test_name) (free a test_name && not (member_of (members f) test_name)) z inside))
        go (x ∷ xs) p =
            let n : size f ≡ suc (length xs) = sym (length-members f) ∙ ap length p in
            let z : free (row (gated G) (members f)) test_name ≡ true = row_has (gated G) (members f) test_name x (ap (λ (w : List ℕ). member_of w x) p ∙ head_in x xs) (gated-has x) in
            omega (arith, n, ap bit (or_left (free (row (gated G) (members f)) test_name) (free a test_name && not (member_of (members f) test_name)) z))

-- ---- the if
-- copies for the test's output: one where an arm has names, and one less than the arm's gates
sum-choice : (o o' a₂ a₃ f g ut uf cT cF ct ca cb cj s : ℕ) → o ≡ o' → a₂ ≡ s + ut → a₃ ≡ 0 + uf → ut + (f - 1) ≡ f → uf + (g - 1) ≡ g
    → cT ≡ f + ((f - 1) + ca) → cF ≡ g + ((g - 1) + cb)
    → o + (ct + (a₂ + (cT + (a₃ + (cF + cj))))) ≡ (o' + s) + ((f + g) + ((f + g) + (ct + (ca + (cb + cj)))))
sum-choice o o' a₂ a₃ f g ut uf cT cF ct ca cb cj s n p q r t u v = omega arith

sum-choice-links : (o o' a₂ a₃ f g ut uf cT cF ct ca cb cj s : ℕ) → o ≡ o' → a₂ ≡ s + ut → a₃ ≡ 0 + uf → ut + (f - 1) ≡ f → uf + (g - 1) ≡ g
    → cT ≡ f + (2 * (f - 1) + ca) → cF ≡ g + (2 * (g - 1) + cb)
    → 2 * o + (ct + (2 * a₂ + (cT + (2 * a₃ + (cF + cj))))) ≡ 2 * (o' + s) + ((f + g) + (2 * (f + g) + (ct + (ca + (cb + cj)))))
sum-choice-links o o' a₂ a₃ f g ut uf cT cF ct ca cb cj s n p q r t u v = omega arith

module _ (t : Graph) (ns : List ℕ) (f : Names) (a : Graph) (ms : List ℕ) (g : Names) (b j : Graph)
    (st : Small (free t)) (sf : Small f) (sg : Small g) (ea : Has a f) (eb : Has b g) (fn : From 34 ns) (fm : From 34 ms)
    (jo : Joining t ns f a ms g b j) (used : free j test_name ≡ true) where
  not_test : (k : ℕ) → k < 33 → k ≡ test_name → ⊥
  not_test k h e = omega arith

  behind_test : (k : ℕ) → 34 ≤ k → k ≡ test_name → ⊥
  behind_test k h e = omega arith

  below_names : (k : ℕ) → k < 33 → k < 34
  below_names k h = omega arith

  abbrev second : Graph
  second = bind ms (arm F g b) j

  abbrev inner : Graph
  inner = bind ns (arm T f a) second

  join-lacks : (k : ℕ) → k < 33 → free j k ≡ false
  join-lacks k h = jo k (not_test k h) (fn k (below_names k h)) (fm k (below_names k h))

  second-free : (k : ℕ) → k < 33 → free second k ≡ g k
  unfolding free
  second-free k h =
      ap₂ ◌||◌ (arm-free F g b sg eb k (not_test k h)) (unseen (free j k) (not (member_of ms k)) (join-lacks k h)) ∙ or-none (g k)

  second-test : free second test_name ≡ true
  unfolding free
  second-test = or_right (free (arm F g b) test_name) (free j test_name && not (member_of ms test_name)) (kept (free j test_name) (member_of ms test_name) (fm test_name (omega arith)) ∙ used)

  inner-free : (k : ℕ) → k < 33 → free inner k ≡ f k || g k
  unfolding free
  inner-free k h =
      ap₂ ◌||◌ (arm-free T f a sf ea k (not_test k h)) (kept (free second k) (member_of ns k) (fn k (below_names k h)) ∙ second-free k h)

  -- test and arms
  outer-names : (k : ℕ) → common (free t) (without (free inner) (member_of (test_name ∷ []))) k ≡ common (free t) (union f g) k
  unfolding member_of
  outer-names k = go (ltb k 33) refl
    where
      go : (c : Bool) → ltb k 33 ≡ c → free t k && (free inner k && not (eqb test_name k || false)) ≡ free t k && (f k || g k)
      go true p =
          let h : k < 33 = ltb-true k 33 p in
          ap (λ (z : Bool). free t k && z)
          (kept (free inner k) (eqb test_name k || false) (or-false (eqb test_name k) false (ne_eqb test_name k (λ z. not_test k h (sym z))) refl) ∙ inner-free k h)
      go false p =
          let e : free t k ≡ false = st k (ltb-false k 33 p) in
          unseen (free t k) (free inner k && not (eqb test_name k || false)) e ∙ sym (unseen (free t k) (f k || g k) e)

  small-common : Small (common (free t) (union f g))
  small-common k h = unseen (free t k) (f k || g k) (st k h)

  -- the arms
  abbrev arms : Names
  arms = common (free (arm T f a)) (without (free second) (member_of ns))

  arms-below : (k : ℕ) → k < 33 → arms k ≡ common f g k
  arms-below k h =
      ap₂ ◌&&◌ (arm-free T f a sf ea k (not_test k h)) (kept (free second k) (member_of ns k) (fn k (below_names k h)) ∙ second-free k h)

  and-true : (c : Bool) → c && true ≡ c
  and-true true = refl
  and-true false = refl

  arms-test : arms test_name ≡ free (arm T f a) test_name
  arms-test =
      ap (λ (z : Bool). free (arm T f a) test_name && z) (kept (free second test_name) (member_of ns test_name) (fn test_name (omega arith)) ∙ second-test)
      ∙ and-true (free (arm T f a) test_name)

  arms-behind : (k : ℕ) → 34 ≤ k → arms k ≡ false
  arms-behind k h =
      unseen (free (arm T f a) k) (free second k && not (member_of ns k)) (arm-free T f a sf ea k (behind_test k h) ∙ sf k (omega arith))

  -- the second arm and what joins them
  abbrev ends : Names
  ends = common (free (arm F g b)) (without (free j) (member_of ms))

  ends-below : (k : ℕ) → k < 33 → ends k ≡ noNames k
  ends-below k h = ap (λ (z : Bool). free (arm F g b) k && z) (unseen (free j k) (not (member_of ms k)) (join-lacks k h)) ∙ none (free (arm F g b) k)
    where
      none : (c : Bool) → c && false ≡ false
      none true = refl
      none false = refl

  ends-test : ends test_name ≡ free (arm F g b) test_name
  ends-test =
      ap (λ (z : Bool). free (arm F g b) test_name && z) (kept (free j test_name) (member_of ms test_name) (fm test_name (omega arith)) ∙ used)
      ∙ and-true (free (arm F g b) test_name)

  ends-behind : (k : ℕ) → 34 ≤ k → ends k ≡ false
  ends-behind k h =
      unseen (free (arm F g b) k) (free j k && not (member_of ms k)) (arm-free F g b sg eb k (behind_test k h) ∙ sg k (omega arith))

  pub choice-count : Same (count_g (choice t ns f a ms g b j))
      (copies (size (common (free t) (union f g)) + size (common f g)) ⊕ gates (size f + size g) ⊕ copies (size f + size g) ⊕ count_g t ⊕ count_g a ⊕ count_g b ⊕ count_g j)
  unfolding count_g gate_outputs
  choice-count =
      let o = total_size (common (free t) (without (free inner) (member_of (test_name ∷ [])))) (common (free t) (union f g)) outer-names small-common in
      let p = total-test arms (common f g) (free (arm T f a) test_name) arms-below arms-test arms-behind in
      let q = total-test ends noNames (free (arm F g b) test_name) ends-below ends-test ends-behind in
      let z : size noNames ≡ 0 = size-empty noNames (λ k h. refl) in
      let x = arm-count T refl f a sf ea in
      let y = arm-count F refl g b sg eb in
      let u = arm-uses T refl f a sf ea in
      let v = arm-uses F refl g b sg eb in
      let q' = q ∙ ap (λ (k : ℕ). k + bit (free (arm F g b) test_name)) z in (
        sum-choice _ _ _ _ (size f) (size g) _ _ _ _ _ _ _ _ _ o p q' u v x.0 y.0,
        sum-choice-links _ _ _ _ (size f) (size g) _ _ _ _ _ _ _ _ _ o p q' u v x.1 y.1,
      )
