-- What a tray does, said for the reader of document 02, Job 1: "Answer and memory are the same as pushing them one by one" (`one_by_one`), the count is of the
-- sets that went in (`went-in`, `all_in`), and "the rule on unaltered memory speaks of the refused set alone" (`refused-set`). Assumes nothing.
use Rattle.std.specs.Prelude.{ℕ, zero, suc, ◌+◌, ◌≤◌, ◌≡◌, refl, Bool, true, false, ◌≢◌, eqb, ltb, take, drop}
use Rattle.std.proofs.Common.{sym, ap, ◌∙◌, arith, ne_eqb}
use mathlib.Core.List.{List, [], ◌∷◌, ◌++◌, foldl}
use Rattle.std.proofs.Math.Decide.{ℕ_discrete}
use Rattle.value.specs.Operators.{pick}
use Rattle.machine_layout.specs.Layout.{inputs_of, untaken_of, stored_kinds}
use Rattle.value_sets.specs.Sets.{set_ok}
use Rattle.machine_calls.specs.Calls.{Outcome, outcome, answers, size_in, standing, rooms_ok, pushed}
use Rattle.machine_tray.specs.Tray.{set_bytes, pushed_in_turn, trayed, cut, went_in}
use Rattle.machine_tray.specs.TrayLaws.{turn-refused, turn-accepted, turns-over, tray-of-none, tray-in-turn}

-- ---- one by one

-- A push's answer with the sets that went in, c before it.
abbrev pub counted : ℕ → Outcome → Outcome
counted c o = outcome (answers o.answer.refusal (pick (eqb o.answer.refusal 0) (suc c) c)) o.mem

-- One set more: pushed where none before it was refused.
abbrev pub next : Outcome → List ℕ → Outcome
next o set = pick (eqb o.answer.refusal 0) (counted o.answer.count (pushed o.mem set)) o

pub after-refusal : (o : Outcome) (sets : List (List ℕ)) → o.answer.refusal ≢ 0 → foldl next o sets ≡ o
after-refusal o [] h = refl
after-refusal o (s ∷ ss) h =
    let e : next o s ≡ o = simp (ne_eqb o.answer.refusal 0 h) in
    ap (λ (x : Outcome). foldl next x ss) e ∙ after-refusal o ss h

turns-one-by-one : (n k : ℕ) (m s : List ℕ) (c : ℕ) → pushed_in_turn n k m s c ≡ foldl next (outcome (answers 0 c) m) (cut n k s)
unfolding cut
turns-one-by-one zero k m s c = turns-over k m s c
turns-one-by-one (suc n) k m s c = go (ℕ_discrete o.answer.refusal 0) (turns-one-by-one n k o.mem (drop k s) (suc c))
  where
    o : Outcome
    o = pushed m (take k s)

    go : Dec (o.answer.refusal ≡ 0) → pushed_in_turn n k o.mem (drop k s) (suc c) ≡ foldl next (outcome (answers 0 (suc c)) o.mem) (cut n k (drop k s))
        → pushed_in_turn (suc n) k m s c ≡ foldl next (counted c o) (cut n k (drop k s))
    go (yes e) ih =
        let i : counted c o ≡ outcome (answers 0 (suc c)) o.mem = rw e refl in
        turn-accepted k m s n c e ∙ ih ∙ ap (λ (x : Outcome). foldl next x (cut n k (drop k s))) (sym i)
    go (no q) ih =
        let i : counted c o ≡ outcome (answers o.answer.refusal c) o.mem = simp (ne_eqb o.answer.refusal 0 q) in
        turn-refused k m s n c q ∙ sym i ∙ sym (after-refusal (counted c o) (cut n k (drop k s)) q)

-- The tray is the push of each of its sets in turn; a tray of none is `tray-of-none`'s.
pub one_by_one : (m s : List ℕ) (number : ℕ) → 1 ≤ number → trayed m s number ≡ foldl next (outcome (answers 0 0) m) (cut number (set_bytes m) s)
one_by_one m s zero h = absurd (omega arith)
one_by_one m s (suc n) h = tray-in-turn m s n (set_bytes m) (λ e. refl) ∙ turns-one-by-one (suc n) (set_bytes m) m s 0

-- ---- a refused push

-- What holds of both of two things holds of the one that a test picks.
pub either : {A : Type 0} (P : A → Type 0) (b : Bool) (x y : A) → P x → P y → P (pick b x y)
either P true x y p q = p
either P false x y p q = q

abbrev Leaves : List ℕ → Outcome → Type 0
Leaves m o = o.answer.refusal ≢ 0 → o ≡ outcome (answers o.answer.refusal 0) m

leaves : (m : List ℕ) (n : ℕ) → Leaves m (outcome (answers n 0) m)
leaves m n h = refl

-- It leaves every byte.
pub push-leaves : (m set : List ℕ) → Leaves m (pushed m set)
unfolding pushed
push-leaves m set =
    either (Leaves m) (eqb (standing m) 0) _ _
    (either (Leaves m) (set_ok (stored_kinds m) set) _ _
    (either (Leaves m) (ltb (untaken_of m) 16) _ _
    (either (Leaves m) (rooms_ok m (size_in m) (inputs_of m)) _ _
    (λ h. absurd (h refl))
    (leaves m 33))
    (leaves m 32))
    (leaves m 12))
    (leaves m (standing m))

-- ---- the sets that went in

-- Sets that lead from one memory to another, each an accepted push.
abbrev pub Pushes : List (List ℕ) → List ℕ → List ℕ → Type 0
Pushes [] m m' = m' ≡ m
Pushes (s ∷ ss) m m' = ((pushed m s).answer.refusal ≡ 0) × Pushes ss (pushed m s).mem m'

-- Of some sets the first are those that went in, and the next is refused by an outcome: its own push gives that refusal and leaves the memory.
pub record Stops (sets went : List (List ℕ)) (o : Outcome) : Type 0 where
  pub set : List ℕ
  pub behind : List (List ℕ)
  pub order : sets ≡ went ++ (set ∷ behind)
  pub alone : pushed o.mem set ≡ outcome (answers o.answer.refusal 0) o.mem

record Turned (n k : ℕ) (m s : List ℕ) (c : ℕ) (o : Outcome) : Type 0 where
  went : ℕ
  counts : o.answer.count ≡ c + went
  before : Pushes (cut went k s) m o.mem
  all : o.answer.refusal ≡ 0 → went ≡ n
  stops : o.answer.refusal ≢ 0 → Stops (cut n k s) (cut went k s) o

turned : (n k : ℕ) (m s : List ℕ) (c : ℕ) → Turned n k m s c (pushed_in_turn n k m s c)
unfolding cut pushed_in_turn
turned zero k m s c = record { went = 0; counts = omega arith; before = refl; all = λ h. refl; stops = λ h. absurd (h refl) }
turned (suc n) k m s c = go (ℕ_discrete o.answer.refusal 0) (turned n k o.mem (drop k s) (suc c))
  where
    o : Outcome
    o = pushed m (take k s)

    go : Dec (o.answer.refusal ≡ 0) → Turned n k o.mem (drop k s) (suc c) (pushed_in_turn n k o.mem (drop k s) (suc c))
        → Turned (suc n) k m s c (pushed_in_turn (suc n) k m s c)
    go (yes e) I =
        rw (turn-accepted k m s n c e)
        (record {
          went = suc I.went;
          counts = omega (arith, I.counts);
          before = (e, I.before);
          all = λ h. ap suc (I.all h);
          stops = λ h. let S = I.stops h in record { set = S.set; behind = S.behind; order = ap (λ (x : List (List ℕ)). take k s ∷ x) S.order; alone = S.alone };
        })
    go (no q) I =
        let l = push-leaves m (take k s) q in
        let i : o.mem ≡ m = ap (λ (x : Outcome). x.mem) l in
        rw (turn-refused k m s n c q)
        (record {
          went = 0;
          counts = omega arith;
          before = i;
          all = λ h. absurd (q h);
          stops = λ h. record { set = take k s; behind = cut n k (drop k s); order = refl; alone = ap (λ (x : List ℕ). pushed x (take k s)) i ∙ l ∙ ap (outcome (answers o.answer.refusal 0)) (sym i) };
        })

tray-turned : (m s : List ℕ) (n : ℕ) → Turned (suc n) (set_bytes m) m s 0 (trayed m s (suc n))
tray-turned m s n = rw (tray-in-turn m s n (set_bytes m) (λ e. refl)) (turned (suc n) (set_bytes m) m s 0)

-- As many as the answer's count, and they lead to the memory at the call's end, also beside a refusal.
pub went-in : (m s : List ℕ) (number : ℕ) → Pushes (went_in m s number) m (trayed m s number).mem
unfolding went_in cut
went-in m s zero = rw (tray-of-none m s) refl
went-in m s (suc n) =
    let T = tray-turned m s n in
    let e : (trayed m s (suc n)).answer.count ≡ T.went = omega (arith, T.counts) in
    rw e T.before

-- An accepted tray's sets all went in.
pub all_in : (m s : List ℕ) (number : ℕ) → (trayed m s number).answer.refusal ≡ 0 → (trayed m s number).answer.count ≡ number
all_in m s zero h = ap (λ (o : Outcome). o.answer.count) (tray-of-none m s)
all_in m s (suc n) h = let T = tray-turned m s n in omega (arith, T.counts, T.all h)

-- "It stops at the first that is refused .. and gives that refusal's number": a set of the tray, and its push changed nothing.
pub refused-set : (m s : List ℕ) (number : ℕ) → 1 ≤ number → (trayed m s number).answer.refusal ≢ 0
    → Stops (cut number (set_bytes m) s) (went_in m s number) (trayed m s number)
unfolding went_in
refused-set m s zero l h = absurd (omega arith)
refused-set m s (suc n) l h =
    let T = tray-turned m s n in
    let e : (trayed m s (suc n)).answer.count ≡ T.went = omega (arith, T.counts) in
    rw e (T.stops h)
