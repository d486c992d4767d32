-- Laws of specs/TrayExact.antt, and what only they need.
use Rattle.std.specs.Prelude.{ℕ, zero, suc, ◌≡◌, refl, Bool, true, false, not, ◌⊎◌, List, [], ◌∷◌, ◌++◌, take, drop}
use Rattle.std.proofs.Common.{sym, ap, ◌∙◌, inl, inr, arith}
use Rattle.std.proofs.Math.Decide.{ℕ_discrete}
use Rattle.value.specs.Operators.{pick}
use Rattle.formula.specs.declared.Refusal.TheVariants.{Memory, Altered}
use Rattle.machine_valid.specs.Valid.{valid}
use Rattle.machine_calls.specs.Calls.{Outcome, standing, pushed}
use Rattle.machine_tray.specs.Tray.{set_bytes, pushed_in_turn, trayed}
use Rattle.machine_tray.specs.TrayLaws.{turn-refused, turn-accepted, turns-over, tray-of-none, tray-in-turn}
use Rattle.refusals.specs.FirstRefusal.{Row, first-refusal, Among, numbers}
use Rattle.refusals.specs.Conditions.{short, push_table, turn_table, tray_table, push_numbers, tray_numbers}
use Rattle.refusals.proofs.Exact.{push-exact, behind-none, behind-some}
use Rattle.refusals.specs.TrayExact.{refusal_in}

-- 11, 31
standing-exact : (m : List ℕ) → standing m ≡ first-refusal (tray_table m [] 0)
unfolding standing first-refusal
standing-exact m = go (short m) (valid m)
  where
    go : (s v : Bool) → pick s 11 (pick v 0 31) ≡ first-refusal ((s, Memory) ∷ (not v, Altered) ∷ [])
    go true v = refl
    go false true = refl
    go false false = refl

-- 11, 31, 12, 32, 33 for the first set, then for the next
turn-exact : (n k : ℕ) (m sets : List ℕ) (c : ℕ) → (pushed_in_turn n k m sets c).answer.refusal ≡ first-refusal (turn_table n k m sets)
unfolding first-refusal
turn-exact zero k m sets c = ap refusal_in (turns-over k m sets c)
turn-exact (suc n) k m sets c = go (ℕ_discrete o.answer.refusal 0) (turn-exact n k o.mem (drop k sets) (suc c))
  where
    o : Outcome
    o = pushed m (take k sets)

    rest : List Row
    rest = turn_table n k o.mem (drop k sets)

    go : Dec (o.answer.refusal ≡ 0) → (pushed_in_turn n k o.mem (drop k sets) (suc c)).answer.refusal ≡ first-refusal rest
        → (pushed_in_turn (suc n) k m sets c).answer.refusal ≡ first-refusal (push_table m (take k sets) ++ rest)
    go (yes e) ih =
        ap refusal_in (turn-accepted k m sets n c e) ∙ ih ∙ sym (behind-none (push_table m (take k sets)) rest (sym (push-exact m (take k sets)) ∙ e))
    go (no q) ih =
        ap refusal_in (turn-refused k m sets n c q)
        ∙ behind-some (push_table m (take k sets)) rest o.answer.refusal (omega arith) (push-exact m (take k sets))

pub tray-exact : (m sets : List ℕ) (number : ℕ) → (trayed m sets number).answer.refusal ≡ first-refusal (tray_table m sets number)
tray-exact m sets zero = ap refusal_in (tray-of-none m sets) ∙ standing-exact m
tray-exact m sets (suc n) = ap refusal_in (tray-in-turn m sets n (set_bytes m) (λ e. refl)) ∙ turn-exact (suc n) (set_bytes m) m sets 0

-- ---- its numbers
among-either : (cs ds : List Row) (r : ℕ) → Among r (numbers (cs ++ ds)) → Among r (numbers cs) ⊎ Among r (numbers ds)
among-either [] ds r a = inr a
among-either (c ∷ cs) ds r (inl e) = inl (inl e)
among-either (c ∷ cs) ds r (inr a) = go (among-either cs ds r a)
  where
    go : Among r (numbers cs) ⊎ Among r (numbers ds) → Among r (numbers (c ∷ cs)) ⊎ Among r (numbers ds)
    go (inl b) = inl (inr b)
    go (inr b) = inr b

turn-numbers : (n k : ℕ) (m sets : List ℕ) (r : ℕ) → Among r (numbers (turn_table n k m sets)) → Among r push_numbers
turn-numbers zero k m sets r a = absurd a
turn-numbers (suc n) k m sets r a = go (among-either (push_table m (take k sets)) rest r a) (turn-numbers n k (pushed m (take k sets)).mem (drop k sets) r)
  where
    rest : List Row
    rest = turn_table n k (pushed m (take k sets)).mem (drop k sets)

    go : Among r push_numbers ⊎ Among r (numbers rest) → (Among r (numbers rest) → Among r push_numbers) → Among r push_numbers
    go (inl b) ih = b
    go (inr b) ih = ih b

pub tray-numbers : (m sets : List ℕ) (number : ℕ) (r : ℕ) → Among r (numbers (tray_table m sets number)) → Among r tray_numbers
tray-numbers m sets zero r (inl e) = inl e
tray-numbers m sets zero r (inr (inl e)) = inr (inl e)
tray-numbers m sets zero r (inr (inr h)) = elim h [ ]
tray-numbers m sets (suc n) r a = turn-numbers (suc n) (set_bytes m) m sets r a
