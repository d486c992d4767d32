-- What rows of gates and wires yield: one value after another, in no round. Rounds are counted with an equation, so that callers need not write
-- their sums. Assumes nothing of the formula.
use Rattle.std.specs.Prelude.{ℕ, ◌+◌, ◌<◌, ◌≡◌, refl, Bool, length, get_or, eqb}
use Rattle.std.proofs.Common.{sym, ap, ◌∙◌, subst, eq-eqb, arith}
use Rattle.std.proofs.Math.Bool.{true, false}
use mathlib.Core.List.{List, [], ◌∷◌, ◌++◌, map}
use Rattle.std.proofs.Math.Option.{Option, none, some}
use Rattle.value.specs.declared.Value.{Value}
use Rattle.graph.specs.Assembly.{Graph, wire, beside, bind, gate, Gate, M, E, member_of, up_from}
use Rattle.graph.specs.Yields.{Values, Answer, YieldsIn, Sequel, Beside, Gated, Fires, bound}
use Rattle.graph.specs.Translation.{test_name, row, gated, merged, excepted, merge_row, except_row, straight, copied}
use Rattle.theory_yields.proofs.Naming.{or_left, or_right, up_from-holds}
use Rattle.theory_yields.proofs.Lookups.{by_place}

-- ---- one part after another, and side by side
pub in-turn : (cut : Option ℕ) (ns : List ℕ) (x y : Graph) (ρ : Values) (c d e : ℕ) (vs : List (Option Value)) (a : Answer) → c + d ≡ e
    → YieldsIn cut x ρ c (some vs) → YieldsIn cut y (bound ns vs ρ) d a → YieldsIn cut (bind ns x y) ρ e a
in-turn cut ns x y ρ c d e vs a s p q = subst (λ n. YieldsIn cut (bind ns x y) ρ n a) s (Sequel.goes_on c d vs a p q)

pub side_by_side : (cut : Option ℕ) (x y : Graph) (ρ : Values) (c d e : ℕ) (vs ws : List (Option Value)) → c + d ≡ e
    → YieldsIn cut x ρ c (some vs) → YieldsIn cut y ρ d (some ws) → YieldsIn cut (beside x y) ρ e (some (vs ++ ws))
side_by_side cut x y ρ c d e vs ws s p q = subst (λ n. YieldsIn cut (beside x y) ρ n (some (vs ++ ws))) s (Beside.goes_on c d vs (some ws) p q)

pub second-stops : (cut : Option ℕ) (x y : Graph) (ρ : Values) (c d e : ℕ) (vs : List (Option Value)) → c + d ≡ e
    → YieldsIn cut x ρ c (some vs) → YieldsIn cut y ρ d none → YieldsIn cut (beside x y) ρ e none
second-stops cut x y ρ c d e vs s p q = subst (λ n. YieldsIn cut (beside x y) ρ n none) s (Beside.goes_on c d vs none p q)

pub wire-yields : (cut : Option ℕ) (x : ℕ) (ρ : Values) (v : Option Value) → ρ x ≡ v → YieldsIn cut (wire x) ρ 0 (some (v ∷ []))
wire-yields cut x ρ v e = (refl, ap (λ (u : Option Value). some (u ∷ [])) (sym e))

-- ---- gates on names
module _ (cut : Option ℕ) (ρ : Values) where
  pub gated-yields : (G : Gate) (x : ℕ) (ws : List (Option Value)) → Fires G (ρ test_name ∷ ρ x ∷ []) ws → YieldsIn cut (gated G x) ρ 0 (some ws)
  gated-yields G x ws h =
      Gated.ends 0 (ρ test_name ∷ ρ x ∷ []) ws
      (Beside.goes_on 0 0 (ρ test_name ∷ []) (some (ρ x ∷ [])) (refl, refl) (refl, refl)) h

  pub two-yield : (G : Gate) (x y : ℕ) (ws : List (Option Value)) → Fires G (ρ x ∷ ρ y ∷ []) ws
      → YieldsIn cut (gate G (beside (wire x) (wire y))) ρ 0 (some ws)
  two-yield G x y ws h =
      Gated.ends 0 (ρ x ∷ ρ y ∷ []) ws (Beside.goes_on 0 0 (ρ x ∷ []) (some (ρ y ∷ [])) (refl, refl) (refl, refl)) h

  pub three-yield : (G : Gate) (x y z : ℕ) (ws : List (Option Value)) → Fires G (ρ x ∷ ρ y ∷ ρ z ∷ []) ws
      → YieldsIn cut (gate G (beside (wire x) (beside (wire y) (wire z)))) ρ 0 (some ws)
  three-yield G x y z ws h =
      Gated.ends 0 (ρ x ∷ ρ y ∷ ρ z ∷ []) ws
      (Beside.goes_on 0 0 (ρ x ∷ []) (some (ρ y ∷ ρ z ∷ [])) (refl, refl)
      (Beside.goes_on 0 0 (ρ y ∷ []) (some (ρ z ∷ [])) (refl, refl) (refl, refl)))
      h

  -- ---- rows
  pub row-yields : (f : ℕ → Graph) (h : ℕ → Option Value) (ns : List ℕ)
      → ((n : ℕ) → member_of ns n ≡ true → YieldsIn cut (f n) ρ 0 (some (h n ∷ []))) → YieldsIn cut (row f ns) ρ 0 (some (map h ns))
  unfolding row member_of
  row-yields f h [] p = (refl, refl)
  row-yields f h (n ∷ ns) p =
      Beside.goes_on 0 0 (h n ∷ []) (some (map h ns)) (p n (or_left (eqb n n) (member_of ns n) (eq-eqb n n refl)))
      (row-yields f h ns (λ m i. p m (or_right (eqb n m) (member_of ns m) i)))

  up-yields : (f : ℕ → Graph) (w : ℕ) (vs : List (Option Value)) → length vs ≡ w
      → ((i : ℕ) → i < w → YieldsIn cut (f i) ρ 0 (some (get_or vs i none ∷ []))) → YieldsIn cut (row f (up_from 0 w)) ρ 0 (some vs)
  up-yields f w vs e p =
      subst (λ (us : List (Option Value)). YieldsIn cut (row f (up_from 0 w)) ρ 0 (some us))
      (ap (λ (n : ℕ). map (λ i. get_or vs i none) (up_from 0 n)) (sym e) ∙ by_place vs 0 (λ i. get_or vs i none) (λ i l. same i))
      (row-yields f (λ i. get_or vs i none) (up_from 0 w) (λ i m. p i (omega (arith, up_from-holds 0 w i m))))
    where
      same : (i : ℕ) → get_or vs (0 + i) none ≡ get_or vs i none
      same i = let z : 0 + i ≡ i = omega arith in ap (λ (n : ℕ). get_or vs n none) z

  pub merge-yields : (c : ℕ) (s : Bool → ℕ) (w : ℕ) (vs : List (Option Value)) → length vs ≡ w
      → ((i : ℕ) → i < w → Fires M (ρ c ∷ ρ (s true + i) ∷ ρ (s false + i) ∷ []) (get_or vs i none ∷ []))
      → YieldsIn cut (merge_row c s w) ρ 0 (some vs)
  unfolding merge_row
  merge-yields c s w vs e p =
      up-yields (merged c s) w vs e (λ i l. three-yield M c (s true + i) (s false + i) (get_or vs i none ∷ []) (p i l))

  pub except-yields : (c s w : ℕ) (vs : List (Option Value)) → length vs ≡ w
      → ((i : ℕ) → i < w → Fires E (ρ c ∷ ρ (s + i) ∷ []) (get_or vs i none ∷ [])) → YieldsIn cut (except_row c s w) ρ 0 (some vs)
  unfolding except_row
  except-yields c s w vs e p = up-yields (excepted c s) w vs e (λ i l. two-yield E c (s + i) (get_or vs i none ∷ []) (p i l))

  pub straight-yields : (s w : ℕ) (vs : List (Option Value)) → length vs ≡ w → ((i : ℕ) → i < w → ρ (s + i) ≡ get_or vs i none)
      → YieldsIn cut (straight s w) ρ 0 (some vs)
  unfolding straight
  straight-yields s w vs e p = up-yields (λ i. wire (s + i)) w vs e (λ i l. wire-yields cut (s + i) ρ (get_or vs i none) (p i l))

  pub copied-yields : (c w : ℕ) (vs : List (Option Value)) → length vs ≡ w → ((i : ℕ) → i < w → ρ c ≡ get_or vs i none)
      → YieldsIn cut (copied c w) ρ 0 (some vs)
  unfolding copied
  copied-yields c w vs e p = up-yields (λ i. wire c) w vs e (λ i l. wire-yields cut c ρ (get_or vs i none) (p i l))
