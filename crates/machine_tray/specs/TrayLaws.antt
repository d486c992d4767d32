-- A tray set by set, as the code goes through it. Assumes nothing.
use Rattle.std.specs.Prelude.{ℕ, zero, suc, ◌+◌, ◌-◌, ◌≤◌, ◌<◌, ◌≡◌, refl, ◌≢◌, List, length, take, drop}
use Rattle.std.proofs.Common.{sym, ap, ◌∙◌, arith, eq-eqb, ne_eqb, length-drop, drop_of_length-le, take_all, drop-drop}
use Rattle.std.proofs.Math.Decide.{ℕ_discrete}
use Rattle.machine_calls.specs.Calls.{Outcome, outcome, answers, standing, pushed}
use Rattle.machine_calls.specs.CallLaws.{pushed-refused}
use Rattle.machine_tray.specs.Tray.{set_bytes, pushed_in_turn, trayed, cut}

-- ---- one set of a tray

module _ (k : ℕ) (m s : List ℕ) (n c : ℕ) where
  abbrev one : Outcome
  one = pushed m (take k s)

  pub turn-refused : one.answer.refusal ≢ 0 → pushed_in_turn (suc n) k m s c ≡ outcome (answers one.answer.refusal c) one.mem
  unfolding pushed_in_turn
  turn-refused h = simp (ne_eqb one.answer.refusal 0 h)

  pub turn-accepted : one.answer.refusal ≡ 0 → pushed_in_turn (suc n) k m s c ≡ pushed_in_turn n k one.mem (drop k s) (suc c)
  unfolding pushed_in_turn
  turn-accepted h = simp (eq-eqb one.answer.refusal 0 h)

pub turns-over : (k : ℕ) (m s : List ℕ) (c : ℕ) → pushed_in_turn 0 k m s c ≡ outcome (answers 0 c) m
unfolding pushed_in_turn
turns-over k m s c = refl

pub length_cut : (n k : ℕ) (s : List ℕ) → length (cut n k s) ≡ n
unfolding cut
length_cut zero k s = refl
length_cut (suc n) k s = ap suc (length_cut n k (drop k s))

-- ---- the whole tray

-- 11 and 31 of the memory as lent
pub trayed-refused : (m s : List ℕ) (number : ℕ) → standing m ≢ 0 → trayed m s number ≡ outcome (answers (standing m) 0) m
unfolding trayed
trayed-refused m s number n = rw (ne_eqb (standing m) 0 n) refl

pub trayed-in-turn : (m s : List ℕ) (number : ℕ) → standing m ≡ 0 → trayed m s number ≡ pushed_in_turn number (set_bytes m) m s 0
unfolding trayed
trayed-in-turn m s number z = rw (eq-eqb (standing m) 0 z) refl

-- "a tray of none tests 11 and 31 only"
pub tray-of-none : (m s : List ℕ) → trayed m s 0 ≡ outcome (answers (standing m) 0) m
tray-of-none m s = go (ℕ_discrete (standing m) 0)
  where
    go : Dec (standing m ≡ 0) → trayed m s 0 ≡ outcome (answers (standing m) 0) m
    go (yes e) = trayed-in-turn m s 0 e ∙ turns-over (set_bytes m) m s 0 ∙ rw e refl
    go (no n) = trayed-refused m s 0 n

-- 11 and 31 are the first push's own.
pub tray-in-turn : (m s : List ℕ) (n k : ℕ) → (standing m ≡ 0 → k ≡ set_bytes m) → trayed m s (suc n) ≡ pushed_in_turn (suc n) k m s 0
tray-in-turn m s n k h = go (ℕ_discrete (standing m) 0)
  where
    go : Dec (standing m ≡ 0) → trayed m s (suc n) ≡ pushed_in_turn (suc n) k m s 0
    go (yes e) = rw (h e) (trayed-in-turn m s (suc n) e)
    go (no q) =
        let r = pushed-refused m (take k s) q in
        let i : (pushed m (take k s)).answer.refusal ≡ standing m = ap (λ (o : Outcome). o.answer.refusal) r in
        trayed-refused m s (suc n) q ∙ sym (turn-refused k m s n 0 (λ z. q (sym i ∙ z)) ∙ rw r refl)

-- ---- the loop

-- Where a set of k bytes at a place of the lent bytes ends: k bytes on, or where they end.
abbrev pub Ends : ℕ → ℕ → ℕ → ℕ → Type 0
Ends k lent at end = (at ≤ end) × (end ≤ lent) × (end ≤ at + k) × (end < at + k → end ≡ lent)

module _ (k : ℕ) (s : List ℕ) (at end : ℕ) (h : Ends k (length s) at end) where
  pub set-lent : take (end - at) (drop at s) ≡ take k (drop at s)
  set-lent = go (ℕ_discrete end (at + k))
    where
      go : Dec (end ≡ at + k) → take (end - at) (drop at s) ≡ take k (drop at s)
      go (yes e) = let z : end - at ≡ k = omega arith in rw z refl
      go (no q) =
          let e = h.3 (omega arith) in
          let l = length-drop at s in
          take_all (end - at) (drop at s) (omega arith) ∙ sym (take_all k (drop at s) (omega arith))

  pub sets-left : drop end s ≡ drop k (drop at s)
  sets-left = go (ℕ_discrete end (at + k)) ∙ sym (drop-drop k at s)
    where
      go : Dec (end ≡ at + k) → drop end s ≡ drop (at + k) s
      go (yes e) = rw e refl
      go (no q) = let e = h.3 (omega arith) in drop_of_length-le s {i = end} (omega arith) ∙ sym (drop_of_length-le s {i = at + k} (omega arith))

-- c sets have gone in: what is left of the sets, on the memory as it is, gives what the whole tray gives.
abbrev pub Underway : List ℕ → List ℕ → ℕ → ℕ → List ℕ → ℕ → ℕ → Type 0
Underway m₀ s number k m at c = (c ≤ number) × (pushed_in_turn (number - c) k m (drop at s) c ≡ trayed m₀ s number)

pub underway-first : (m s : List ℕ) (number k : ℕ) → number ≢ 0 → (standing m ≡ 0 → k ≡ set_bytes m) → Underway m s number k m 0 0
underway-first m s zero k n h = absurd (n refl)
underway-first m s (suc n) k q h = let z : suc n - 0 ≡ suc n = omega arith in (omega arith, rw z (sym (tray-in-turn m s n k h)))

module _ (m₀ s : List ℕ) (number k : ℕ) (m : List ℕ) (at c : ℕ) (u : Underway m₀ s number k m at c) where
  pub underway-last : number ≤ c → outcome (answers 0 c) m ≡ trayed m₀ s number
  underway-last h = let z : number - c ≡ 0 = omega arith in sym (turns-over k m (drop at s) c) ∙ (rw z at u.1)

  module _ (end : ℕ) (e : Ends k (length s) at end) (l : c < number) (o : Outcome) (p : o ≡ pushed m (take (end - at) (drop at s))) where
    z : number - c ≡ suc (number - (c + 1))
    z = omega arith

    same : o ≡ pushed m (take k (drop at s))
    same = p ∙ ap (pushed m) (set-lent k s at end e)

    pub underway-refused : o.answer.refusal ≢ 0 → outcome (answers o.answer.refusal c) o.mem ≡ trayed m₀ s number
    underway-refused r =
        let t = turn-refused k m (drop at s) (number - (c + 1)) c (λ x. r (ap (λ (y : Outcome). y.answer.refusal) same ∙ x)) in
        (λ i. outcome (answers (same i).answer.refusal c) (same i).mem) ∙ sym t ∙ (rw z at u.1)

    pub underway-next : o.answer.refusal ≡ 0 → Underway m₀ s number k o.mem end (c + 1)
    underway-next r =
        let t = turn-accepted k m (drop at s) (number - (c + 1)) c (sym (ap (λ (y : Outcome). y.answer.refusal) same) ∙ r) in
        let w : c + 1 ≡ suc c = omega arith in
        (omega arith, rw (sets-left k s at end e, ap (λ (y : Outcome). y.mem) same) (ap (pushed_in_turn (number - (c + 1)) k _ _) w ∙ sym t ∙ (rw z at u.1)))
