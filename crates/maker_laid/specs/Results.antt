-- The results of two arms, joined from arrays of links: by a row of M or E gates, passed straight, or copied from one link (graph/specs/Translation:
-- merge_row, except_row, straight, copied). Document 01, "The graph". Assumes widths of at most 16.
use Prim.Native.Nat.{ℕ, zero, suc, ◌+◌, ◌-◌, ◌*◌, ◌≤◌, ◌<◌}
use Rattle.std.specs.Prelude.{◌≡◌, refl, Bool, ◌||◌, List, ◌∷◌, map, take, drop, ltb}
use Rattle.std.proofs.Math.Path.{sym, ap, subst}
use Rattle.std.proofs.Common.{ap₂, ◌∙◌, get_or-take}
use Rattle.std.proofs.Math.Bool.{true, false}
use Rattle.std.proofs.Math.ListN.{length, get_or}
use Rattle.std.proofs.Math.Dec.{eqb}
use borrow.Author.Tests.{eqb-true, ne_eqb, lt-ltb}
use native.Mathlib.Omega.{arith}
use Rattle.machine_layout.specs.Layout.{no_link}
use Rattle.names.specs.Names.{one}
use Rattle.theory_yields.proofs.Naming.{or-false, length-up_from}
use Rattle.theory_yields.specs.Joins.{join_i, join_r}
use Rattle.graph.specs.Assembly.{Graph, wire, E, Env, up_from, chain, chain_ends}
use Rattle.graph.specs.Translation.{iter_name, iterated_name, returned_name, row, merged, excepted, merge_row, except_row, straight, copied}
use Rattle.maker_laid.specs.Encode.{encoded, written}
use Rattle.maker_laid.specs.Emitted.{row_records, row_outputs, drop-cons}
use Rattle.maker_laid.specs.Laid.{Laid, laid-nothing}
use Rattle.maker_laid.specs.Sharing.{Lone, lone-second, lone-third}
use Rattle.maker_laid.specs.Rows.{Separate, laid-row}
use Rattle.maker_laid.specs.GateRows.{two-controlled, three-controlled, two-E, separate-up, holds-up, holds-none, laid-straight, laid-copied}

-- The names from s on have the first w links of an array.
abbrev pub Reads : Env → ℕ → ℕ → List ℕ → Type 0
Reads env s w xs = (i : ℕ) → i < w → env (s + i) ≡ get_or xs i 0

module _ (c : ℕ) (lone : Lone c) (s : Bool → ℕ) (far : s true + 16 ≤ s false) (away : (k : ℕ) → s true ≤ k → k < s false + 16 → c ≡ k → ⊥) where
  merge-separate : (w : ℕ) → w ≤ 16 → Separate c (λ i k. eqb (s true + i) k || eqb (s false + i) k) (up_from 0 w)
  merge-separate w h =
      separate-up c (λ i k. eqb (s true + i) k || eqb (s false + i) k) 0 w
      (λ i p q.
      or-false _ _ (ne_eqb (s true + i) c (λ (e : s true + i ≡ c). away (s true + i) (omega arith) (omega arith) (sym e)))
      (ne_eqb (s false + i) c (λ (e : s false + i ≡ c). away (s false + i) (omega arith) (omega arith) (sym e)))
      )
      (λ i j k p q r e. go i j k q r (eqb (s true + i) k) refl e)
    where
      go : (i j k : ℕ) → i < j → j < 0 + w → (t : Bool) → eqb (s true + i) k ≡ t → t || eqb (s false + i) k ≡ true → eqb (s true + j) k || eqb (s false + j) k ≡ false
      go i j k p q true e x =
          let z : s true + i ≡ k = eqb-true (s true + i) k e in
          or-false _ _ (ne_eqb (s true + j) k (λ (y : s true + j ≡ k). omega arith)) (ne_eqb (s false + j) k (λ (y : s false + j ≡ k). omega arith))
      go i j k p q false e x =
          let z : s false + i ≡ k = eqb-true (s false + i) k x in
          or-false _ _ (ne_eqb (s true + j) k (λ (y : s true + j ≡ k). omega arith)) (ne_eqb (s false + j) k (λ (y : s false + j ≡ k). omega arith))

  pub merge-laid : (w : ℕ) → w ≤ 16 → (n m : ℕ) (env : Env) (mem xs ys : List ℕ) → Reads env (s true) w xs → Reads env (s false) w ys
      → Laid (merge_row c s w) n m env mem (written mem m (row_records 16 (env c) n xs ys 0 w)) (row_outputs n w) (n + (3 * w - 2)) (m + (2 * w - 1))
  unfolding merge_row
  merge-laid w h n m env mem xs ys p q =
      subst
      (λ (k : ℕ). Laid (row (merged c s) (up_from 0 w)) n m env mem (written mem m (row_records 16 (env c) n xs ys 0 k)) (row_outputs n k) (n + (3 * k - 2)) (m + (2 * k - 1)))
      (length-up_from 0 w)
      (laid-row (merged c s) c 16 lone (λ e i. e (s true + i)) (λ e i. e (s false + i)) (λ i k. eqb (s true + i) k || eqb (s false + i) k)
      (three-controlled c (λ i. s true + i) (λ i. s false + i) (λ i e. omega arith)) xs ys (up_from 0 w) (merge-separate w h) 0 n m env mem
      (holds-up (λ e i. e (s true + i)) env xs 0 0 w (λ i l. zero-first (λ k. get_or xs k 0) i ∙ sym (p i l) ∙ sym (zero-first (λ k. env (s true + k)) i)))
      (holds-up (λ e i. e (s false + i)) env ys 0 0 w (λ i l. zero-first (λ k. get_or ys k 0) i ∙ sym (q i l) ∙ sym (zero-first (λ k. env (s false + k)) i))))
    where
      zero-first : (f : ℕ → ℕ) (i : ℕ) → f (0 + i) ≡ f i
      zero-first f i = let z : 0 + i ≡ i = omega arith in ap f z

module _ (c : ℕ) (lone : Lone c) (s : ℕ) (away : (k : ℕ) → s ≤ k → k < s + 16 → c ≡ k → ⊥) where
  pub except-laid : (w : ℕ) → w ≤ 16 → (n m : ℕ) (env : Env) (mem xs none : List ℕ) → Reads env s w xs → ((i : ℕ) → i < 33 → get_or none i 0 ≡ no_link)
      → Laid (except_row c s w) n m env mem (written mem m (row_records 17 (env c) n xs none 0 w)) (row_outputs n w) (n + (3 * w - 2)) (m + (2 * w - 1))
  unfolding except_row
  except-laid w h n m env mem xs none p q =
      subst
      (λ (k : ℕ). Laid (row (excepted c s) (up_from 0 w)) n m env mem (written mem m (row_records 17 (env c) n xs none 0 k)) (row_outputs n k) (n + (3 * k - 2)) (m + (2 * k - 1)))
      (length-up_from 0 w)
      (laid-row (excepted c s) c 17 lone (λ e i. e (s + i)) (λ e i. no_link) (λ i. one (s + i)) (two-controlled c (λ i. s + i) E 17 two-E) xs none (up_from 0 w)
      (separate-up c (λ i. one (s + i)) 0 w
      (λ i x y. ne_eqb (s + i) c (λ (e : s + i ≡ c). away (s + i) (omega arith) (omega arith) (sym e)))
      (λ i j k x y z e. let t : s + i ≡ k = eqb-true (s + i) k e in ne_eqb (s + j) k (λ (u : s + j ≡ k). omega arith)))
      0 n m env mem
      (holds-up (λ e i. e (s + i)) env xs 0 0 w (λ i l. zero-first (λ k. get_or xs k 0) i ∙ sym (p i l) ∙ sym (zero-first (λ k. env (s + k)) i)))
      (holds-none env none 0 (up_from 0 w) q (let z : length (up_from 0 w) ≡ w = length-up_from 0 w in omega arith)))
    where
      zero-first : (f : ℕ → ℕ) (i : ℕ) → f (0 + i) ≡ f i
      zero-first f i = let z : 0 + i ≡ i = omega arith in ap f z

-- The links of names from s + z on, as a part of an array.
map-reads : (env : Env) (s z w : ℕ) (xs : List ℕ) → z + w ≤ length xs → ((i : ℕ) → i < w → env (s + (z + i)) ≡ get_or xs (z + i) 0)
    → map (λ i. env (s + i)) (up_from z w) ≡ take w (drop z xs)
unfolding up_from
map-reads env s z zero xs l h = refl
map-reads env s z (suc w) xs l h =
    let u : z + 0 ≡ z = omega arith in
    let d : get_or xs z 0 ∷ drop (z + 1) xs ≡ drop z xs = sym (drop-cons xs z (omega arith)) in
    let v : suc z ≡ z + 1 = omega arith in
    ap₂ (λ (x : ℕ) (r : List ℕ). x ∷ r) ((ap (λ (k : ℕ). env (s + k)) (sym u) ∙ h 0 (omega arith) ∙ ap (λ (k : ℕ). get_or xs k 0) u))
    (map-reads env s (suc z) w xs (omega arith) (λ i p. next i ∙ h (suc i) (omega arith) ∙ sym (same i)) ∙ ap (λ (k : ℕ). take w (drop k xs)) v)
    ∙ ap (take (suc w)) d
  where
    next : (i : ℕ) → env (s + (suc z + i)) ≡ env (s + (z + suc i))
    next i = let e : suc z + i ≡ z + suc i = omega arith in ap (λ (k : ℕ). env (s + k)) e

    same : (i : ℕ) → get_or xs (suc z + i) 0 ≡ get_or xs (z + suc i) 0
    same i = let e : suc z + i ≡ z + suc i = omega arith in ap (λ (k : ℕ). get_or xs k 0) e

pub straight-laid : (s w : ℕ) (n m : ℕ) (env : Env) (mem xs : List ℕ) → w ≤ length xs → Reads env s w xs → Laid (straight s w) n m env mem mem (take w xs) n m
unfolding straight
straight-laid s w n m env mem xs l p =
    subst (λ (o : List ℕ). Laid (row (λ i. wire (s + i)) (up_from 0 w)) n m env mem mem o n m)
    (map-reads env s 0 w xs (omega arith) (λ i h. let e : 0 + i ≡ i = omega arith in rw e (p i h)))
    (laid-straight s 0 w n m env mem)

pub copied-laid : (c : ℕ) → Lone c → (w n m : ℕ) (env : Env) (mem : List ℕ)
    → Laid (copied c w) n m env mem (written mem m (encoded (chain (env c) n w))) (chain_ends (env c) n w) (n + 2 * (w - 1)) (m + (w - 1))
unfolding copied
copied-laid c l w n m env mem = laid-copied c l 0 w n m env mem

-- ---- by how many results each arm has

-- a row of gates that was written, with the outputs and the numbers that the code gave
laid_as : (G : Graph) (n m : ℕ) (env : Env) (mem mem₁ mem₂ o₁ o₂ : List ℕ) (n₁ n₂ m₁ m₂ : ℕ) → mem₂ ≡ mem₁ → o₂ ≡ o₁ → n₂ ≡ n₁ → m₂ ≡ m₁
    → Laid G n m env mem mem₁ o₁ n₁ m₁ → Laid G n m env mem mem₂ o₂ n₂ m₂
laid_as G n m env mem mem₁ mem₂ o₁ o₂ n₁ n₂ m₁ m₂ p q r s l = rw (p, q, r, s) l

pub none_is : (u : ℕ) → u ≡ 0 → ltb 0 u ≡ false
none_is u z = rw z refl

pub some_is : (u : ℕ) → (u ≡ 0 → ⊥) → ltb 0 u ≡ true
some_is u f = lt-ltb 0 u (positive u f)
  where
    positive : (v : ℕ) → (v ≡ 0 → ⊥) → 0 < v
    positive zero g = absurd (g refl)
    positive (suc v) g = omega arith

module _ (n m : ℕ) (env : Env) (mem mem' xs ys outs : List ℕ) (control i j : ℕ) (e : (i ≡ 0 → ⊥) → (j ≡ 0 → ⊥) → env 101 ≡ control) (p : Reads env 35 i xs) (q : Reads env 68 j ys) where
  iterated-arms : (b d : Bool) → ltb 0 i ≡ b → ltb 0 j ≡ d → join_i b d i j ≡ join_i (ltb 0 i) (ltb 0 j) i j
  iterated-arms b d x y = ap₂ (λ (s t : Bool). join_i s t i j) (sym x) (sym y)

  pub iterated-neither : i ≡ 0 → j ≡ 0 → Laid (join_i (ltb 0 i) (ltb 0 j) i j) n m env mem mem (take j ys) n m
  iterated-neither x y =
      subst (λ (G : Graph). Laid G n m env mem mem (take j ys) n m) (iterated-arms false false (none_is i x) (none_is j y)) (rw y (laid-nothing n m env mem))

  pub iterated-second-only : i ≡ 0 → j ≤ length ys → Laid (join_i (ltb 0 i) (ltb 0 j) i j) n m env mem mem (take j ys) n m
  iterated-second-only x h = go j refl
    where
      go : (k : ℕ) → j ≡ k → Laid (join_i (ltb 0 i) (ltb 0 j) i j) n m env mem mem (take j ys) n m
      go zero z = iterated-neither x z
      go (suc k) z =
          subst (λ (G : Graph). Laid G n m env mem mem (take j ys) n m) (iterated-arms false true (none_is i x) (some_is j (λ (y : j ≡ 0). omega arith)))
          (straight-laid 68 j n m env mem ys h q)

  pub iterated-first-only : (i ≡ 0 → ⊥) → j ≡ 0 → i ≤ length xs → Laid (join_i (ltb 0 i) (ltb 0 j) i j) n m env mem mem (take i xs) n m
  iterated-first-only f z h =
      subst (λ (G : Graph). Laid G n m env mem mem (take i xs) n m) (iterated-arms true false (some_is i f) (none_is j z)) (straight-laid 35 i n m env mem xs h p)

  pub iterated-merged : (i ≡ 0 → ⊥) → (j ≡ 0 → ⊥) → i ≡ j → i ≤ 16 → (k n' m' : ℕ) → mem' ≡ written mem m (row_records 16 control n xs ys 0 i) → take i outs ≡ row_outputs n i
      → k ≡ i → n' ≡ n + (3 * i - 2) → m' ≡ m + (2 * i - 1) → Laid (join_i (ltb 0 i) (ltb 0 j) i j) n m env mem mem' (take k outs) n' m'
  iterated-merged f g s h k n' m' a b c d o =
      subst (λ (G : Graph). Laid G n m env mem mem' (take k outs) n' m') (iterated-arms true true (some_is i f) (some_is j g))
      (laid_as (merge_row 101 iterated_name i) n m env mem (written mem m (row_records 16 (env 101) n xs ys 0 i)) mem' (row_outputs n i) (take k outs) (n + (3 * i - 2)) n' (m + (2 * i - 1)) m'
      (a ∙ ap (λ (x : ℕ). written mem m (row_records 16 x n xs ys 0 i)) (sym (e f g))) (ap (λ (x : ℕ). take x outs) c ∙ b) d o
      (merge-laid 101 lone-second iterated_name (omega arith) (λ z x y t. omega arith) i h n m env mem xs ys p (λ z x. q z (omega arith))))

module _ (n m : ℕ) (env : Env) (mem mem' xs ys none outs : List ℕ) (control i j w : ℕ) (e : env 102 ≡ control) (p : Reads env 51 i xs) (q : Reads env 84 j ys)
    (h : w ≤ 16) (blank : (z : ℕ) → z < 33 → get_or none z 0 ≡ no_link) (k n' m' : ℕ) (c : k ≡ w)
  where
    arms : (b d : Bool) → (i j : ℕ) → ltb 0 i ≡ b → ltb 0 j ≡ d → join_r b d w ≡ join_r (ltb 0 i) (ltb 0 j) w
    arms b d i j x y = ap₂ (λ (s t : Bool). join_r s t w) (sym x) (sym y)

    pub returned-neither : i ≡ 0 → j ≡ 0 → mem' ≡ written mem m (encoded (chain control n w)) → take w outs ≡ chain_ends control n w → n' ≡ n + 2 * (w - 1) → m' ≡ m + (w - 1)
        → Laid (join_r (ltb 0 i) (ltb 0 j) w) n m env mem mem' (take k outs) n' m'
    returned-neither x y a b d o =
        subst (λ (G : Graph). Laid G n m env mem mem' (take k outs) n' m') (arms false false i j (none_is i x) (none_is j y))
        (laid_as (copied 102 w) n m env mem (written mem m (encoded (chain (env 102) n w))) mem' (chain_ends (env 102) n w) (take k outs) (n + 2 * (w - 1)) n' (m + (w - 1)) m'
        (a ∙ ap (λ (z : ℕ). written mem m (encoded (chain z n w))) (sym e)) (ap (λ (z : ℕ). take z outs) c ∙ b ∙ ap (λ (z : ℕ). chain_ends z n w) (sym e)) d o
        (copied-laid 102 lone-third w n m env mem))

    pub returned-second : i ≡ 0 → (j ≡ 0 → ⊥) → j ≡ w → mem' ≡ written mem m (row_records 17 control n ys none 0 w) → take w outs ≡ row_outputs n w → n' ≡ n + (3 * w - 2) → m' ≡ m + (2 * w - 1)
        → Laid (join_r (ltb 0 i) (ltb 0 j) w) n m env mem mem' (take k outs) n' m'
    returned-second x y s a b d o =
        subst (λ (G : Graph). Laid G n m env mem mem' (take k outs) n' m') (arms false true i j (none_is i x) (some_is j y))
        (laid_as (except_row 102 84 w) n m env mem (written mem m (row_records 17 (env 102) n ys none 0 w)) mem' (row_outputs n w) (take k outs) (n + (3 * w - 2)) n' (m + (2 * w - 1)) m'
        (a ∙ ap (λ (z : ℕ). written mem m (row_records 17 z n ys none 0 w)) (sym e)) (ap (λ (z : ℕ). take z outs) c ∙ b) d o
        (except-laid 102 lone-third 84 (λ z t u v. omega arith) w h n m env mem ys none (λ z t. q z (omega arith)) blank))

    pub returned-first : (i ≡ 0 → ⊥) → j ≡ 0 → i ≡ w → mem' ≡ written mem m (row_records 17 control n xs none 0 w) → take w outs ≡ row_outputs n w → n' ≡ n + (3 * w - 2) → m' ≡ m + (2 * w - 1)
        → Laid (join_r (ltb 0 i) (ltb 0 j) w) n m env mem mem' (take k outs) n' m'
    returned-first x y s a b d o =
        subst (λ (G : Graph). Laid G n m env mem mem' (take k outs) n' m') (arms true false i j (some_is i x) (none_is j y))
        (laid_as (except_row 102 51 w) n m env mem (written mem m (row_records 17 (env 102) n xs none 0 w)) mem' (row_outputs n w) (take k outs) (n + (3 * w - 2)) n' (m + (2 * w - 1)) m'
        (a ∙ ap (λ (z : ℕ). written mem m (row_records 17 z n xs none 0 w)) (sym e)) (ap (λ (z : ℕ). take z outs) c ∙ b) d o
        (except-laid 102 lone-third 51 (λ z t u v. omega arith) w h n m env mem xs none (λ z t. p z (omega arith)) blank))

    pub returned-both : (i ≡ 0 → ⊥) → (j ≡ 0 → ⊥) → i ≡ w → j ≡ w → mem' ≡ written mem m (row_records 16 control n xs ys 0 w) → take w outs ≡ row_outputs n w → n' ≡ n + (3 * w - 2) → m' ≡ m + (2 * w - 1)
        → Laid (join_r (ltb 0 i) (ltb 0 j) w) n m env mem mem' (take k outs) n' m'
    returned-both x y s t a b d o =
        subst (λ (G : Graph). Laid G n m env mem mem' (take k outs) n' m') (arms true true i j (some_is i x) (some_is j y))
        (laid_as (merge_row 102 returned_name w) n m env mem (written mem m (row_records 16 (env 102) n xs ys 0 w)) mem' (row_outputs n w) (take k outs) (n + (3 * w - 2)) n' (m + (2 * w - 1)) m'
        (a ∙ ap (λ (z : ℕ). written mem m (row_records 16 z n xs ys 0 w)) (sym e)) (ap (λ (z : ℕ). take z outs) c ∙ b) d o
        (merge-laid 102 lone-third returned_name (omega arith) (λ z x y t. omega arith) w h n m env mem xs ys (λ z u. p z (omega arith)) (λ z u. q z (omega arith))))

pub reads_same : (env : Env) (s w : ℕ) (xs ys : List ℕ) → take w xs ≡ take w ys → Reads env s w ys → Reads env s w xs
reads_same env s w xs ys e h i l = h i l ∙ sym (get_or-take w ys i 0 l) ∙ sym (ap (λ (zs : List ℕ). get_or zs i 0) e) ∙ get_or-take w xs i 0 l

-- The names of an arm of a body's if have the arm's results: iter?, i iterated results, r returned results.
pub record ArmLinks (env : Env) (side : Bool) (it : ℕ) (is : List ℕ) (i : ℕ) (rs : List ℕ) (r : ℕ) : Type 0 where
  pub iter? : env (iter_name side) ≡ it
  pub iterated : Reads env (iterated_name side) i is
  pub returned : Reads env (returned_name side) r rs
