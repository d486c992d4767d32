-- The values that names have once others are bound (graph/specs/Yields: `bound`), and lists of values that are all there or all absent.
-- Assumes nothing.
use Prim.Native.Nat.{ℕ, zero, suc, ◌+◌, ◌<◌}
use Rattle.std.specs.Prelude.{◌≡◌, Bool, length, get_or, replicate}
use Rattle.std.proofs.Math.Path.{refl, ap}
use Rattle.std.proofs.Common.{sym, ap₂, ◌∙◌, eqb-true, eq-eqb, ne_eqb}
use Rattle.std.proofs.Math.Bool.{true, false, cond}
use Rattle.std.proofs.lemmas.Bool.{false≢true}
use mathlib.Core.List.{List, [], ◌∷◌, ◌++◌, map}
use Rattle.std.proofs.Math.Option.{Option, none, some}
use Rattle.std.proofs.lemmas.List.{length-replicate, replicate-append-replicate}
use Rattle.std.proofs.Math.Dec.{eqb}
use native.Mathlib.Omega.{arith}
use Rattle.value.specs.declared.Value.{Value}
use Rattle.value.specs.Senses.{err}
use Rattle.graph.specs.Assembly.{member_of, up_from}
use Rattle.graph.specs.Yields.{Values, absent, present, bound}
use Rattle.theory_yields.proofs.Naming.{or-true, or-neither, or_left, or_right}

-- ---- values that are there
pub length-present : (vs : List Value) → length (present vs) ≡ length vs
length-present [] = refl
length-present (v ∷ vs) = ap suc (length-present vs)

pub present-append : (vs ws : List Value) → present (vs ++ ws) ≡ present vs ++ present ws
present-append [] ws = refl
present-append (v ∷ vs) ws = ap {B = List (Option Value)} (λ r. some v ∷ r) (present-append vs ws)

pub present-at : (vs : List Value) (i : ℕ) → i < length vs → get_or (present vs) i none ≡ some (get_or vs i err)
present-at [] i h = absurd (omega arith)
present-at (v ∷ vs) zero h = refl
present-at (v ∷ vs) (suc i) h = present-at vs i (omega arith)

pub present-replicate : (n : ℕ) (v : Value) → present (replicate n v) ≡ replicate n (some v)
present-replicate zero v = refl
present-replicate (suc n) v = ap {B = List (Option Value)} (λ r. some v ∷ r) (present-replicate n v)

-- ---- values that are absent
pub length-absent : (n : ℕ) → length (absent n) ≡ n
length-absent n = length-replicate n none

pub absent-append : (m n : ℕ) → absent m ++ absent n ≡ absent (m + n)
absent-append m n = replicate-append-replicate m n none

pub absent-at : (n i : ℕ) → get_or (absent n) i none ≡ none
absent-at zero i = refl
absent-at (suc n) zero = refl
absent-at (suc n) (suc i) = absent-at n i

pub absent-map : (ns : List ℕ) (h : ℕ → Option Value) → ((n : ℕ) → member_of ns n ≡ true → h n ≡ none) → map h ns ≡ absent (length ns)
unfolding member_of
absent-map [] h e = refl
absent-map (n ∷ ns) h e =
    ap₂ {C = List (Option Value)} (λ v r. v ∷ r) (e n (or_left (eqb n n) (member_of ns n) (eq-eqb n n refl)))
    (absent-map ns h (λ m i. e m (or_right (eqb n m) (member_of ns m) i)))

-- ---- a list by its places
pub by_place : (vs : List (Option Value)) (j : ℕ) (h : ℕ → Option Value) → ((i : ℕ) → i < length vs → h (j + i) ≡ get_or vs i none)
    → map h (up_from j (length vs)) ≡ vs
unfolding up_from
by_place [] j h e = refl
by_place (v ∷ vs) j h e =
    let z : j + 0 ≡ j = omega arith in
    ap₂ {C = List (Option Value)} (λ u r. u ∷ r) (ap h (sym z) ∙ e 0 (omega arith))
    (by_place vs (suc j) h (λ i l. next i ∙ e (suc i) (omega arith)))
  where
    next : (i : ℕ) → h (suc j + i) ≡ h (j + suc i)
    next i = let z : suc j + i ≡ j + suc i = omega arith in ap h z

-- ---- what a name has
module _ (ρ : Values) where
  pub bound-other : (ns : List ℕ) (vs : List (Option Value)) (k : ℕ) → member_of ns k ≡ false → bound ns vs ρ k ≡ ρ k
  unfolding bound member_of
  bound-other [] vs k h = refl
  bound-other (n ∷ ns) [] k h = refl
  bound-other (n ∷ ns) (v ∷ vs) k h =
      let p : (eqb n k ≡ false) × (member_of ns k ≡ false) = or-neither (eqb n k) (member_of ns k) h in
      ap (λ (b : Bool). cond b v (bound ns vs ρ k)) p.0 ∙ bound-other ns vs k p.1

  pub bound-absent : (ns : List ℕ) (k : ℕ) → member_of ns k ≡ true → bound ns (absent (length ns)) ρ k ≡ none
  unfolding bound member_of
  bound-absent [] k h = absurd (false≢true h)
  bound-absent (n ∷ ns) k h = go (eqb n k) refl (λ i. bound-absent ns k i)
    where
      go : (b : Bool) → eqb n k ≡ b → (member_of ns k ≡ true → bound ns (absent (length ns)) ρ k ≡ none)
          → cond b none (bound ns (absent (length ns)) ρ k) ≡ none
      go true e ih = refl
      go false e ih = ih (or-true (eqb n k) (member_of ns k) h e)

  -- bound to what it had
  pub bound-self : (ns : List ℕ) (k : ℕ) → bound ns (map ρ ns) ρ k ≡ ρ k
  unfolding bound
  bound-self [] k = refl
  bound-self (n ∷ ns) k = go (eqb n k) refl (bound-self ns k)
    where
      go : (b : Bool) → eqb n k ≡ b → bound ns (map ρ ns) ρ k ≡ ρ k → cond b (ρ n) (bound ns (map ρ ns) ρ k) ≡ ρ k
      go true e ih = ap ρ (eqb-true n k e)
      go false e ih = ih

  pub bound-append : (ns : List ℕ) (vs : List (Option Value)) (ms : List ℕ) (ws : List (Option Value)) (k : ℕ)
      → length vs ≡ length ns → bound (ns ++ ms) (vs ++ ws) ρ k ≡ bound ns vs (bound ms ws ρ) k
  unfolding bound
  bound-append [] [] ms ws k h = refl
  bound-append [] (v ∷ vs) ms ws k h = absurd (omega arith)
  bound-append (n ∷ ns) [] ms ws k h = absurd (omega arith)
  bound-append (n ∷ ns) (v ∷ vs) ms ws k h = ap (λ (r : Option Value). cond (eqb n k) v r) (bound-append ns vs ms ws k (omega arith))

  -- the i-th of a stretch of names
  pub bound-up : (a b : ℕ) (vs : List (Option Value)) (i : ℕ) → length vs ≡ b → i < b → bound (up_from a b) vs ρ (a + i) ≡ get_or vs i none
  unfolding bound up_from
  bound-up a zero vs i h l = absurd (omega arith)
  bound-up a (suc b) [] i h l = absurd (omega arith)
  bound-up a (suc b) (v ∷ vs) zero h l = ap (λ (t : Bool). cond t v (bound (up_from (suc a) b) vs ρ (a + 0))) (eq-eqb a (a + 0) (omega arith))
  bound-up a (suc b) (v ∷ vs) (suc i) h l =
      let z : a + suc i ≡ suc a + i = omega arith in
      ap (λ (t : Bool). cond t v (bound (up_from (suc a) b) vs ρ (a + suc i))) (ne_eqb a (a + suc i) (λ e. omega arith))
      ∙ ap (bound (up_from (suc a) b) vs ρ) z
      ∙ bound-up (suc a) b vs i (omega arith) (omega arith)
