-- Marks as bits: the mark of operator x is bit x % 64 of word x / 64 (1: it may be able, 0: it is not). Waking sets one bit, putting to sleep
-- clears one, and no other mark changes; a word's first mark is found by trailing zeros. Assumes nothing.
use Rattle.std.specs.Prelude.{ℕ, zero, suc, ◌+◌, ◌-◌, ◌*◌, ◌/◌, ◌%◌, ◌^◌, ◌≤◌, ◌<◌, min, max, ◌≡◌, ◌≢◌, List, length, set, replicate}
use Rattle.std.proofs.Math.Path.{refl, ap}
use Rattle.std.proofs.Common.{sym, ◌∙◌, arith, pow-suc, shr-shr, shl_exact, get_or-set_other}
use Rattle.std.proofs.Math.Decide.{ℕ_discrete, dec_lt}
use Rattle.std.specs.Int.Bits.{bit_and, bit_or, and_step, or_step}
use Rattle.std.proofs.lemmas.Nat.{and_le_l}
use Rattle.std.specs.Int.Count.{count_trailing_zeros, under}
use Rattle.std.proofs.Math.Pow.{pow-lt}
use Rattle.std.proofs.Math.ListN.{get_or}
use Rattle.std.proofs.lemmas.List.{get_or-replicate}
use Rattle.std.proofs.Math.Seq.{get_or-set_same}

unfoldable pub bit : ℕ → ℕ → ℕ
bit w k = w / 2 ^ k % 2

-- the words that hold a mark for each operator
abbrev pub mark_words : ℕ
mark_words = 16

unfoldable pub mark : List ℕ → ℕ → ℕ
mark w x = bit (get_or w (x / 64) 0) (x % 64)

-- the words with operator u marked, and with its mark taken away
unfoldable pub woken : List ℕ → ℕ → List ℕ
woken w u = set w (u / 64) (bit_or (get_or w (u / 64) 0) (2 ^ (u % 64)))

unfoldable pub slept : List ℕ → ℕ → List ℕ
slept w u = set w (u / 64) (bit_and (get_or w (u / 64) 0) ((2 ^ 64 - 1) - 2 ^ (u % 64)))

-- ---- bits of one word, lowest first

bit-zero : (w : ℕ) → bit w 0 ≡ w % 2
unfolding bit
bit-zero w = omega arith

bit-suc : (w k : ℕ) → bit w (suc k) ≡ bit (w / 2) k
unfolding bit
bit-suc w k = ap (λ (x : ℕ). x % 2) (ap (λ (j : ℕ). w / 2 ^ j) (omega arith) ∙ sym (shr-shr w 1 k))

bit-of-zero : (k : ℕ) → bit 0 k ≡ 0
bit-of-zero zero = bit-zero 0
bit-of-zero (suc k) = bit-suc 0 k ∙ bit-of-zero k

bit-beyond : (n w k : ℕ) → w < 2 ^ n → n ≤ k → bit w k ≡ 0
bit-beyond zero w k h l = let e : w ≡ 0 = omega arith in rw e (bit-of-zero k)
bit-beyond (suc n) w zero h l = absurd (omega arith)
bit-beyond (suc n) w (suc k) h l = bit-suc w k ∙ bit-beyond n (w / 2) k (omega (arith, pow-suc 2 n)) (omega arith)

last_or : (a b r : ℕ) → (r * 2 + max (a % 2) (b % 2)) % 2 ≡ max (a % 2) (b % 2)
last_or a b r = omega arith

half-or : (a b r : ℕ) → (r * 2 + max (a % 2) (b % 2)) / 2 ≡ r
half-or a b r = omega arith

bit-or : (a b k : ℕ) → bit (bit_or a b) k ≡ max (bit a k) (bit b k)
bit-or a b zero = bit-zero (bit_or a b) ∙ rw (bit-zero a, bit-zero b, or_step a b) (last_or a b (bit_or (a / 2) (b / 2)))
bit-or a b (suc k) =
    bit-suc (bit_or a b) k ∙ ap (λ (x : ℕ). bit (x / 2) k) (or_step a b) ∙ ap (λ (x : ℕ). bit x k) (half-or a b (bit_or (a / 2) (b / 2)))
    ∙ bit-or (a / 2) (b / 2) k ∙ rw (bit-suc a k, bit-suc b k) refl

last-and : (a b r : ℕ) → (r * 2 + min (a % 2) (b % 2)) % 2 ≡ min (a % 2) (b % 2)
last-and a b r = omega arith

half-and : (a b r : ℕ) → (r * 2 + min (a % 2) (b % 2)) / 2 ≡ r
half-and a b r = omega arith

bit-and : (a b k : ℕ) → bit (bit_and a b) k ≡ min (bit a k) (bit b k)
bit-and a b zero = bit-zero (bit_and a b) ∙ rw (bit-zero a, bit-zero b, and_step a b) (last-and a b (bit_and (a / 2) (b / 2)))
bit-and a b (suc k) =
    bit-suc (bit_and a b) k ∙ ap (λ (x : ℕ). bit (x / 2) k) (and_step a b) ∙ ap (λ (x : ℕ). bit x k) (half-and a b (bit_and (a / 2) (b / 2)))
    ∙ bit-and (a / 2) (b / 2) k ∙ rw (bit-suc a k, bit-suc b k) refl

bit_not : (n w k : ℕ) → w < 2 ^ n → k < n → bit ((2 ^ n - 1) - w) k ≡ 1 - bit w k
bit_not zero w k h l = absurd (omega arith)
bit_not (suc n) w zero h l = bit-zero ((2 ^ suc n - 1) - w) ∙ rw (bit-zero w) (omega (arith, pow-suc 2 n))
bit_not (suc n) w (suc k) h l =
    let e : ((2 ^ suc n - 1) - w) / 2 ≡ (2 ^ n - 1) - w / 2 = omega (arith, pow-suc 2 n) in
    bit-suc ((2 ^ suc n - 1) - w) k ∙ rw (e, bit-suc w k) (bit_not n (w / 2) k (omega (arith, pow-suc 2 n)) (omega arith))

half_pow : (j : ℕ) → 2 ^ suc j / 2 ≡ 2 ^ j
half_pow j = omega (arith, pow-suc 2 j)

bit-pow-same : (j : ℕ) → bit (2 ^ j) j ≡ 1
bit-pow-same zero = bit-zero 1
bit-pow-same (suc j) = bit-suc (2 ^ suc j) j ∙ rw (half_pow j) (bit-pow-same j)

bit-pow-other : (j k : ℕ) → k ≢ j → bit (2 ^ j) k ≡ 0
bit-pow-other zero zero n = absurd (n refl)
bit-pow-other zero (suc k) n = bit-suc 1 k ∙ bit-of-zero k
bit-pow-other (suc j) zero n = bit-zero (2 ^ suc j) ∙ omega (arith, pow-suc 2 j)
bit-pow-other (suc j) (suc k) n = bit-suc (2 ^ suc j) k ∙ rw (half_pow j) (bit-pow-other j k (λ e. n (ap suc e)))

bit_le : (w k : ℕ) → bit w k ≤ 1
unfolding bit
bit_le w k = omega arith

pub shifted_one : (i : ℕ) → i < 64 → (1 * 2 ^ i) % 2 ^ 64 ≡ 2 ^ i
shifted_one i h = shl_exact 1 i 64 (omega arith) (omega arith) ∙ omega arith

-- ---- trailing zeros

pub below-lowest : (n w k : ℕ) → k < count_trailing_zeros n w → bit w k ≡ 0
unfolding count_trailing_zeros
below-lowest zero w k h = absurd (omega arith)
below-lowest (suc n) w k h = go (w % 2) refl h k refl (below-lowest n (w / 2))
  where
    go : (d : ℕ) → w % 2 ≡ d → k < under d (count_trailing_zeros n (w / 2)) → (i : ℕ) → k ≡ i → ((j : ℕ) → j < count_trailing_zeros n (w / 2) → bit (w / 2) j ≡ 0) → bit w k ≡ 0
    go zero e l zero p ih = rw p (bit-zero w ∙ e)
    go zero e l (suc i) p ih = rw p (bit-suc w i ∙ ih i (omega arith))
    go (suc d) e l i p ih = absurd (omega arith)

pub lowest_set : (n w : ℕ) → 0 < w → w < 2 ^ n → bit w (count_trailing_zeros n w) ≡ 1
unfolding count_trailing_zeros
lowest_set zero w p h = absurd (omega arith)
lowest_set (suc n) w p h = go (w % 2) refl (λ q. lowest_set n (w / 2) q (omega (arith, pow-suc 2 n)))
  where
    go : (d : ℕ) → w % 2 ≡ d → (0 < w / 2 → bit (w / 2) (count_trailing_zeros n (w / 2)) ≡ 1) → bit w (under d (count_trailing_zeros n (w / 2))) ≡ 1
    go zero e ih = bit-suc w (count_trailing_zeros n (w / 2)) ∙ ih (omega arith)
    go (suc d) e ih = bit-zero w ∙ omega arith

pub lowest-within : (w : ℕ) → 0 < w → w < 2 ^ 64 → count_trailing_zeros 64 w < 64
lowest-within w p h = go (dec_lt (count_trailing_zeros 64 w) 64)
  where
    go : Dec (count_trailing_zeros 64 w < 64) → count_trailing_zeros 64 w < 64
    go (yes l) = l
    go (no l) = absurd (omega (arith, lowest_set 64 w p h, bit-beyond 64 w (count_trailing_zeros 64 w) h (omega arith)))

-- ---- marks

module _ (w : List ℕ) (b : ℕ) (h : b < length w) where
  pub mark-set-word : (v x : ℕ) → x / 64 ≡ b → mark (set w b v) x ≡ bit v (x % 64)
  unfolding mark
  mark-set-word v x e = rw (e, get_or-set_same w b v 0 h) refl

  pub mark-set-other : (v x : ℕ) → x / 64 ≢ b → mark (set w b v) x ≡ mark w x
  unfolding mark
  mark-set-other v x n = ap (λ (a : ℕ). bit a (x % 64)) (get_or-set_other w b (x / 64) v 0 n)

bit_kept : (u k : ℕ) → k < 64 → bit ((2 ^ 64 - 1) - 2 ^ (u % 64)) k ≡ 1 - bit (2 ^ (u % 64)) k
bit_kept u k l = bit_not 64 (2 ^ (u % 64)) k (pow-lt {i = u % 64} {j = 64} (omega arith)) l

-- a word without a mark that it has is less
pub and-less : (a u : ℕ) → bit a (u % 64) ≡ 1 → bit_and a ((2 ^ 64 - 1) - 2 ^ (u % 64)) < a
and-less a u e =
    let v = bit_and a ((2 ^ 64 - 1) - 2 ^ (u % 64)) in
    let z : bit v (u % 64) ≡ 0 = bit-and a ((2 ^ 64 - 1) - 2 ^ (u % 64)) (u % 64) ∙ rw (bit_kept u (u % 64) (omega arith), bit-pow-same (u % 64)) (omega arith) in
    let le : v ≤ a = and_le_l a ((2 ^ 64 - 1) - 2 ^ (u % 64)) in
    let ne : v ≢ a = λ q. omega (arith, rw q at z, e) in
    omega arith

module _ (w : List ℕ) (u : ℕ) (h : u / 64 < length w) where
  pub mark-woken : mark (woken w u) u ≡ 1
  unfolding woken
  mark-woken =
      let a = get_or w (u / 64) 0 in
      mark-set-word w (u / 64) h (bit_or a (2 ^ (u % 64))) u refl ∙ bit-or a (2 ^ (u % 64)) (u % 64) ∙ rw (bit-pow-same (u % 64)) (omega (arith, bit_le a (u % 64)))

  pub mark-woken-other : (x : ℕ) → x ≢ u → mark (woken w u) x ≡ mark w x
  unfolding woken mark
  mark-woken-other x n = go (ℕ_discrete (x / 64) (u / 64))
    where
      go : Dec (x / 64 ≡ u / 64) → mark (set w (u / 64) (bit_or (get_or w (u / 64) 0) (2 ^ (u % 64)))) x ≡ mark w x
      go (yes e) =
          let a = get_or w (u / 64) 0 in
          mark-set-word w (u / 64) h (bit_or a (2 ^ (u % 64))) x e ∙ bit-or a (2 ^ (u % 64)) (x % 64) ∙ rw (e, bit-pow-other (u % 64) (x % 64) (omega arith)) (omega arith)
      go (no q) = mark-set-other w (u / 64) h (bit_or (get_or w (u / 64) 0) (2 ^ (u % 64))) x q

  pub mark-slept-other : (x : ℕ) → x ≢ u → mark (slept w u) x ≡ mark w x
  unfolding slept mark
  mark-slept-other x n = go (ℕ_discrete (x / 64) (u / 64))
    where
      go : Dec (x / 64 ≡ u / 64) → mark (set w (u / 64) (bit_and (get_or w (u / 64) 0) ((2 ^ 64 - 1) - 2 ^ (u % 64)))) x ≡ mark w x
      go (yes e) =
          let a = get_or w (u / 64) 0 in
          mark-set-word w (u / 64) h (bit_and a ((2 ^ 64 - 1) - 2 ^ (u % 64))) x e ∙ bit-and a ((2 ^ 64 - 1) - 2 ^ (u % 64)) (x % 64)
          ∙ rw (e, bit_kept u (x % 64) (omega arith), bit-pow-other (u % 64) (x % 64) (omega arith)) (omega (arith, bit_le a (x % 64)))
      go (no q) = mark-set-other w (u / 64) h (bit_and (get_or w (u / 64) 0) ((2 ^ 64 - 1) - 2 ^ (u % 64))) x q

pub mark-all : (j : ℕ) → j < 1024 → mark (replicate {A = ℕ} 16 18446744073709551615) j ≡ 1
unfolding mark
mark-all j h =
    let e = bit_not 64 0 (j % 64) (omega arith) (omega arith) in
    rw (get_or-replicate {A = ℕ} 16 (j / 64) 18446744073709551615 0 (omega arith)) (e ∙ rw (bit-of-zero (j % 64)) refl)

-- words of 0 have no mark
pub mark-blank : (w : List ℕ) (x : ℕ) → get_or w (x / 64) 0 ≡ 0 → mark w x ≡ 0
unfolding mark
mark-blank w x e = rw e (bit-of-zero (x % 64))
