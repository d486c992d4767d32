-- The sets of a log's list, one after the other, as the code tests them, and set by set. Assumes nothing.
use Prim.Native.Nat.{ℕ, zero, suc, ◌+◌, ◌*◌, ◌-◌, ◌≤◌, ◌<◌}
use Rattle.std.specs.Prelude.{◌≡◌, refl, true, false, ◌&&◌, length, get_or, take, drop}
use Rattle.std.proofs.Common.{sym, ◌∙◌, mul-zero, mul-suc, zero-mul, length-take, length-drop, take_all, drop-drop}
use Rattle.std.proofs.Math.Path.{ap}
use mathlib.Core.List.{List, [], ◌∷◌}
use native.Mathlib.Omega.{arith}
use Rattle.value_sets.specs.Sets.{values_from, set_values, set_ok}
use Rattle.value_sets.proofs.Sets.{set-short, set-length}
use Rattle.formula.proofs.TreeLaws.{and-true}
use Rattle.machine_tray.specs.Tray.{cut}
use Rattle.machine_log.specs.Checked.{set_list, set_in, all_sets}

-- ---- the test

no-values : (n : ℕ) (sets : List ℕ) → all_sets [] (cut n 0 sets) ≡ true
unfolding all_sets cut set_ok set_values values_from
no-values zero sets = refl
no-values (suc n) sets = no-values n sets

-- Sets of no bytes are all good.
pub none-asked : (kinds sets : List ℕ) (number : ℕ) → length kinds ≡ 0 → true ≡ all_sets kinds (set_list kinds sets number)
unfolding set_list
none-asked [] sets number e = sym (no-values number sets)
none-asked (k ∷ kinds) sets number e = absurd (omega arith)

module _ (kinds sets : List ℕ) (number : ℕ) where
  abbrev size : ℕ
  size = 5 * length kinds

  -- The sets from a place on, after the first c, are good exactly where all are.
  abbrev pub Tested : ℕ → ℕ → Type 0
  Tested at c = (c ≤ number) × (all_sets kinds (cut (number - c) size (drop at sets)) ≡ all_sets kinds (set_list kinds sets number))

  pub tested-first : Tested 0 0
  unfolding set_list
  tested-first = let z : number - 0 ≡ number = omega arith in (omega arith, rw z refl)

  module _ (at c : ℕ) (t : Tested at c) where
    pub tested-last : number ≤ c → true ≡ all_sets kinds (set_list kinds sets number)
    unfolding all_sets cut
    tested-last h = let z : number - c ≡ 0 = omega arith in rw z at t.1

    module _ (h : c < number) where
      next : (set_ok kinds (take size (drop at sets)) && all_sets kinds (cut (number - (c + 1)) size (drop (at + size) sets))) ≡ all_sets kinds (set_list kinds sets number)
      unfolding all_sets cut
      next =
          let z : number - c ≡ suc (number - (c + 1)) = omega arith in
          ap (λ (s : List ℕ). set_ok kinds (take size (drop at sets)) && all_sets kinds (cut (number - (c + 1)) size s)) (sym (drop-drop size at sets)) ∙ (rw z at t.1)

      pub tested-bad : set_ok kinds (take size (drop at sets)) ≡ false → false ≡ all_sets kinds (set_list kinds sets number)
      tested-bad e = rw e at next

      -- a set cut short
      pub tested-short : length sets - at < size → false ≡ all_sets kinds (set_list kinds sets number)
      tested-short l =
          let d = length-drop at sets in
          let w : length (take size (drop at sets)) ≡ length sets - at = ap length (take_all size (drop at sets) (omega (arith, d))) ∙ d in
          tested-bad (set-short kinds (take size (drop at sets)) (λ e. omega arith))

      pub tested-next : set_ok kinds (take size (drop at sets)) ≡ true → Tested (at + size) (c + 1)
      tested-next e = (omega arith, rw e at next)

-- ---- set by set

-- Set n of sets of so many bytes, counted from 1, as it lies in the lent bytes.
abbrev pub set_at : ℕ → List ℕ → ℕ → List ℕ
set_at size sets n = take size (drop (size * (n - 1)) sets)

cut_at : (number k i : ℕ) (s : List ℕ) → i < number → get_or (cut number k s) i [] ≡ take k (drop (k * i) s)
unfolding cut
cut_at zero k i s h = absurd (omega arith)
cut_at (suc n) k zero s h = rw (mul-zero k) refl
cut_at (suc n) k (suc i) s h =
    let w : k + k * i ≡ k * suc i = omega (arith, mul-suc k i) in
    cut_at n k i (drop k s) (omega arith) ∙ ap (take k) (drop-drop (k * i) k s ∙ ap (λ (x : ℕ). drop x s) w)

pub set-in : (kinds sets : List ℕ) (number n : ℕ) → 1 ≤ n → n ≤ number → set_in (set_list kinds sets number) n ≡ set_at (5 * length kinds) sets n
unfolding set_list
set-in kinds sets number n h l = cut_at number (5 * length kinds) (n - 1) sets (omega arith)

each-good : (kinds : List ℕ) (number k i : ℕ) (s : List ℕ) → all_sets kinds (cut number k s) ≡ true → i < number → set_ok kinds (take k (drop (k * i) s)) ≡ true
unfolding all_sets cut
each-good kinds zero k i s e h = absurd (omega arith)
each-good kinds (suc n) k zero s e h = rw (mul-zero k) (and-true (set_ok kinds (take k s)) (all_sets kinds (cut n k (drop k s))) e).0
each-good kinds (suc n) k (suc i) s e h =
    let w : k + k * i ≡ k * suc i = omega (arith, mul-suc k i) in
    ap (λ (l : List ℕ). set_ok kinds (take k l)) (sym (drop-drop (k * i) k s ∙ ap (λ (x : ℕ). drop x s) w))
    ∙ each-good kinds n k i (drop k s) (and-true (set_ok kinds (take k s)) (all_sets kinds (cut n k (drop k s))) e).1 (omega arith)

lent-long : (k i : ℕ) (s : List ℕ) → length (take k (drop (k * i) s)) ≡ k → k * suc i ≤ length s
lent-long zero i s e = omega (arith, zero-mul (suc i))
lent-long (suc k) i s e = omega (arith, length-take (suc k) (drop (suc k * i) s), length-drop (suc k * i) s, mul-suc (suc k) i)

-- Good sets are wholly lent.
pub set-lent : (kinds sets : List ℕ) (number n : ℕ) → all_sets kinds (set_list kinds sets number) ≡ true → 1 ≤ n → n ≤ number → 5 * length kinds * n ≤ length sets
unfolding set_list
set-lent kinds sets number zero e h l = absurd (omega arith)
set-lent kinds sets number (suc i) e h l =
    let k = 5 * length kinds in
    lent-long k i sets (set-length kinds (take k (drop (k * i) sets)) (each-good kinds number k i sets e (omega arith)))
