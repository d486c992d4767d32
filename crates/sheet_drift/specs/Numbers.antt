-- Tolerances and numbers as four bytes each, lowest first (sheet_movement's specs/Moves): the steps of the code that reads and writes them, and that
-- what is written is read again. Assumes nothing.
use Prim.Native.Nat.{ℕ, zero, suc, ◌+◌, ◌*◌, ◌-◌, ◌/◌, ◌%◌, ◌≤◌, ◌<◌}
use Rattle.std.specs.Prelude.{◌≡◌, Bool, true, false, ◌&&◌, List, [], ◌∷◌, ◌++◌, eqb, ltb, length, get_or, set, take}
use Rattle.std.proofs.Math.Path.{refl, ap, fun_ext}
use Rattle.std.proofs.Common.{sym, ◌∙◌, length-set, take-suc, length-take-le, get_or-set_same, get_or-set_other, add-one, leb-true, ltb-true, ltb-false, eqb-true, eq-eqb, ne_eqb}
use Rattle.std.proofs.Math.Dec.{leb}
use Rattle.std.proofs.Math.ListN.{get_or-eq_default}
use Rattle.std.proofs.lemmas.List.Edits.{sets}
use native.Mathlib.Omega.{arith}
use Rattle.std.proofs.lemmas.Bool.{eqb-false}
use Rattle.names.specs.Names.{below, mask}
use Rattle.names.proofs.Sets.{mask-has, below-mono, below-cong}
use Rattle.formula.specs.Tree.{Exp}
use Rattle.formula.proofs.TreeLaws.{and-true}
use Rattle.formula.specs.Free.{free_e, inputs_of}
use Rattle.eval_words.specs.Inputs.{set_in, inputs-below}
use Rattle.sheet_movement.specs.Moves.{Moves, all_within, number_at, numbers_from, tolerances_well, input_moves, number_bytes}
use Rattle.sheet_movement.proofs.Numbers.{length-number-bytes}
use Rattle.sheet_drift.specs.Stores.{sets-append}

-- The numbers that an array holds, as those of identifiers.
unfoldable pub moves_in : List ℕ → Moves
moves_in l k = get_or l k 0

-- ---- tolerances

-- A number behind the last byte.
number_past : (s : List ℕ) (at : ℕ) → length s ≤ at → number_at s at ≡ 0
unfolding number_at
number_past s at h =
    rw (
      get_or-eq_default s 0 {n = at} h,
      get_or-eq_default s 0 {n = at + 1} (omega arith),
      get_or-eq_default s 0 {n = at + 2} (omega arith),
      get_or-eq_default s 0 {n = at + 3} (omega arith),
    ) refl

-- What is left to test from tolerance i on.
abbrev pub within_from : ℕ → List ℕ → ℕ → Bool
within_from n s i = all_within (numbers_from (n - i) (4 * i) s)

module _ (n : ℕ) (s : List ℕ) where
  pub other-count : (length s ≡ 4 * n → ⊥) → tolerances_well n s ≡ false
  unfolding tolerances_well
  other-count h = rw (ne_eqb (length s) (4 * n) h) refl

  pub well-start : length s ≡ 4 * n → tolerances_well n s ≡ within_from n s 0
  unfolding tolerances_well
  well-start h =
      let e : n ≡ n - 0 = omega arith in
      rw (eq-eqb (length s) (4 * n) h) (ap (λ (m : ℕ). all_within (numbers_from m 0 s)) e)

  pub well-step : (i : ℕ) → i < n → within_from n s i ≡ leb (number_at s (4 * i)) 2147483647 && within_from n s (i + 1)
  unfolding numbers_from
  well-step i h =
      let e : n - i ≡ suc (n - (i + 1)) = omega arith in
      let next : 4 * i + 4 ≡ 4 * (i + 1) = omega arith in
      ap (λ (m : ℕ). all_within (numbers_from m (4 * i) s)) e
      ∙ ap (λ (at : ℕ). leb (number_at s (4 * i)) 2147483647 && all_within (numbers_from (n - (i + 1)) at s)) next

  pub well-end : (i : ℕ) → n ≤ i → within_from n s i ≡ true
  unfolding numbers_from
  well-end i h =
      let z : n - i ≡ 0 = omega arith in
      ap (λ (m : ℕ). all_within (numbers_from m (4 * i) s)) z

-- Each of some numbers in range is.
each_within : (n at : ℕ) (s : List ℕ) → all_within (numbers_from n at s) ≡ true → (j : ℕ) → j < n → number_at s (at + 4 * j) ≤ 2147483647
unfolding numbers_from
each_within zero at s h j l = absurd (omega arith)
each_within (suc n) at s h zero l =
    let z : at + 4 * 0 ≡ at = omega arith in
    rw z (leb-true (number_at s at) 2147483647 (and-true (leb (number_at s at) 2147483647) (all_within (numbers_from n (at + 4) s)) h).0)
each_within (suc n) at s h (suc j) l =
    let e : at + 4 * suc j ≡ at + 4 + 4 * j = omega arith in
    rw e (each_within n (at + 4) s (and-true (leb (number_at s at) 2147483647) (all_within (numbers_from n (at + 4) s)) h).1 j (omega arith))

module _ (n : ℕ) (s : List ℕ) (h : tolerances_well n s ≡ true) where
  well-parts : (length s ≡ 4 * n) × (all_within (numbers_from n 0 s) ≡ true)
  unfolding tolerances_well
  well-parts =
      let p = and-true (eqb (length s) (4 * n)) (all_within (numbers_from n 0 s)) h in
      (eqb-true (length s) (4 * n) p.0, p.1)

  -- Tolerance j is in range; behind the last it is 0.
  well-past : (j : ℕ) → n ≤ j → number_at s (4 * j) ≡ 0
  well-past j l = number_past s (4 * j) (omega (arith, well-parts.0))

  well-each : (j : ℕ) → number_at s (4 * j) ≤ 2147483647
  well-each j = go (ltb j n) refl
    where
      go : (b : Bool) → ltb j n ≡ b → number_at s (4 * j) ≤ 2147483647
      go true p =
          let z : 4 * j ≡ 0 + 4 * j = omega arith in
          rw z (each_within n 0 s well-parts.1 j (ltb-true j n p))
      go false p = omega (arith, well-past j (ltb-false j n p))

-- ---- the environment of the inputs

-- The first k numbers of an environment that gives the members of m, rising, the tolerances in their order.
pub record InOrder (s : List ℕ) (m : ℕ) (env : List ℕ) (k : ℕ) : Type 0 where
  pub long : length env ≡ 32
  pub given : (j : ℕ) → j < k → get_or env j 0 ≡ number_at s (4 * below (set_in m) j)

pub order-none : (s : List ℕ) (m : ℕ) (env : List ℕ) → length env ≡ 32 → InOrder s m env 0
order-none s m env l = record { long = l; given = λ j i. absurd (omega arith) }

pub order-more : (s : List ℕ) (m : ℕ) (env : List ℕ) (k i d : ℕ) → k < 32 → i ≡ below (set_in m) k → d ≡ number_at s (4 * i)
    → InOrder s m env k → InOrder s m (set env k d) (k + 1)
order-more s m env k i d l e f h =
    record {
      long = length-set env k d ∙ h.long;
      given = λ j u. go j u (eqb j k) refl;
    }
  where
    go : (j : ℕ) → j < k + 1 → (b : Bool) → eqb j k ≡ b → get_or (set env k d) j 0 ≡ number_at s (4 * below (set_in m) j)
    go j u true p =
        let q : j ≡ k = eqb-true j k p in
        rw q (get_or-set_same env k d 0 (omega (arith, h.long)) ∙ f ∙ ap (λ (z : ℕ). number_at s (4 * z)) e)
    go j u false p =
        let q : j ≡ k → ⊥ = eqb-false j k p in
        get_or-set_other env k j d 0 q ∙ h.given j (omega (arith, q))

-- It is the environment of a formula's inputs, and no number passes the greatest.
module _ (x : Exp) (s env : List ℕ) (m n : ℕ) (masked : m ≡ mask (free_e x)) (count : n ≡ length (inputs_of x)) (w : tolerances_well n s ≡ true)
    (h : InOrder s m env 32) where
  pub order-inputs : moves_in env ≡ input_moves (free_e x) s
  unfolding moves_in input_moves
  order-inputs = fun_ext (λ j. go j (ltb j 32) refl)
    where
      member : (i : ℕ) → i < 32 → set_in m i ≡ free_e x i
      member i l = ap (λ (z : ℕ). set_in z i) masked ∙ mask-has (free_e x) i (omega arith)

      go : (j : ℕ) (b : Bool) → ltb j 32 ≡ b → get_or env j 0 ≡ number_at s (4 * below (free_e x) j)
      go j true p =
          let l : j < 32 = ltb-true j 32 p in
          h.given j l ∙ ap (λ (i : ℕ). number_at s (4 * i)) (below-cong (set_in m) (free_e x) j (λ i u. member i (omega arith)))
      go j false p =
          let l : 32 ≤ j = ltb-false j 32 p in
          get_or-eq_default env 0 (omega (arith, h.long))
          ∙ sym (well-past n s w (below (free_e x) j) (omega (arith, count, inputs-below x, below-mono (free_e x) 32 j l)))

  pub order-within : (k : ℕ) → moves_in env k ≤ 2147483647
  unfolding input_moves
  order-within k = rw order-inputs (well-each n s w (below (free_e x) k))

-- ---- numbers written

bytes-append : (ds es : List ℕ) → number_bytes (ds ++ es) ≡ number_bytes ds ++ number_bytes es
unfolding number_bytes
bytes-append [] es = refl
bytes-append (d ∷ ds) es =
    ap (λ (l : List ℕ). d % 256 ∷ d / 256 % 256 ∷ d / 65536 % 256 ∷ d / 16777216 % 256 ∷ l) (bytes-append ds es)

-- One number.
pub number_put : (l : List ℕ) (at d : ℕ)
    → set (set (set (set l at (d % 256)) (at + 1) (d / 256 % 256)) (at + 2) (d / 65536 % 256)) (at + 3) (d / 16777216 % 256)
    ≡ sets l at (number_bytes (d ∷ []))
unfolding number_bytes
number_put l at d =
    let p : at + 1 ≡ suc at = omega arith in
    let q : at + 2 ≡ suc (suc at) = omega arith in
    let r : at + 3 ≡ suc (suc (suc at)) = omega arith in
    rw (p, q, r) refl

pub numbers-none : (l ns : List ℕ) → l ≡ sets l 0 (number_bytes (take 0 ns))
unfolding number_bytes
numbers-none l ns = refl

-- The next number is written behind the first i.
pub numbers_more : (l ns : List ℕ) (i : ℕ) → i < length ns
    → sets (sets l 0 (number_bytes (take i ns))) (4 * i) (number_bytes (get_or ns i 0 ∷ [])) ≡ sets l 0 (number_bytes (take (i + 1) ns))
numbers_more l ns i h =
    let n : length (number_bytes (take i ns)) ≡ 4 * i = length-number-bytes (take i ns) ∙ ap (λ (k : ℕ). 4 * k) (length-take-le i ns (omega arith)) in
    let z : 0 + length (number_bytes (take i ns)) ≡ 4 * i = omega (arith, n) in
    sym (ap (λ (k : ℕ). sets l 0 (number_bytes (take k ns))) (add-one i)
    ∙ ap (λ (xs : List ℕ). sets l 0 (number_bytes xs)) (take-suc ns i 0 h)
    ∙ ap (sets l 0) (bytes-append (take i ns) (get_or ns i 0 ∷ []))
    ∙ sets-append l 0 (number_bytes (take i ns)) (number_bytes (get_or ns i 0 ∷ []))
    ∙ ap (λ (k : ℕ). sets (sets l 0 (number_bytes (take i ns))) k (number_bytes (get_or ns i 0 ∷ []))) z)
