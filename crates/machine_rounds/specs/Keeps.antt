-- What a run by rounds keeps: the memory's length and every byte below the registers, so the capacity and the number of operators. Assumes nothing.
use Rattle.std.specs.Prelude.{ℕ, zero, suc, ◌+◌, ◌≤◌, ◌<◌, ◌≡◌, Bool, List, eqb, get_or}
use Rattle.std.proofs.Math.Path.{refl}
use Rattle.std.proofs.Common.{sym, ap, subst, ◌∙◌, arith}
use Rattle.std.proofs.Math.Bool.{true, false}
use Rattle.std.proofs.Math.Decide.{ℕ_discrete}
use Rattle.std.proofs.Math.ListN.{length}
use Rattle.value.specs.Operators.{pick}
use Rattle.value.proofs.Words.{length-stored}
use Rattle.machine_layout.specs.Layout.{links_at, number16, need, register_at, operators_of}
use Rattle.machine_firing.specs.Links.{removed_at, appended_at}
use Rattle.machine_firing.specs.LinkLaws.{length_removed, length-appended}
use Rattle.machine_firing.specs.Fire.{Plan, plan_at, moved, moved_from, performed, performed_from, able_at, fired_at, fired_from}
use Rattle.machine_runs.specs.Near.{static-fired}
use Rattle.machine_valid.specs.Figures.{valid-figures}
use Rattle.machine_calls.specs.Calls.{size_in, standing}
use Rattle.machine_calls.specs.CallLaws.{standing-good}
use Rattle.machine_rounds.specs.Rounds.{sweep, round, Rounded, rounded, rounds_from, Outcome, ended, ran_rounds}
use Rattle.machine_rounds.specs.RoundLaws.{rounds-refused, rounds-ended}

pub record Keeps (m m' : List ℕ) : Type 0 where
  pub len : length m' ≡ length m
  pub below : (at : ℕ) → at < 16640 → get_or m' at 0 ≡ get_or m at 0

keeps-all : (m : List ℕ) → Keeps m m
keeps-all m = record { len = refl; below = λ at k. refl }

keeps-both : (m x m' : List ℕ) → Keeps m x → Keeps x m' → Keeps m m'
keeps-both m x m' a b = record { len = b.len ∙ a.len; below = λ at k. b.below at k ∙ a.below at k }

-- ---- a firing

module _ (m : List ℕ) (size : ℕ) (h : need size ≤ length m) where
  length_moved : (p : Plan) → length (moved m size p) ≡ length m
  unfolding moved_from
  length_moved p =
      let r1 = length_removed m links_at size h p.in1 in
      let m1 = removed_at m size p.in1 in
      let r2 = length_removed m1 links_at size (omega (arith, r1)) p.in2 in
      let m2 = removed_at m1 size p.in2 in
      let r3 = length_removed m2 links_at size (omega (arith, r1, r2)) p.in3 in
      let m3 = removed_at m2 size p.in3 in
      let a1 = length-appended m3 links_at size (omega (arith, r1, r2, r3)) p.out1 p.word1 in
      let m4 = appended_at m3 size p.out1 p.word1 in
      let a2 = length-appended m4 links_at size (omega (arith, r1, r2, r3, a1)) p.out2 p.word2 in
      let m5 = appended_at m4 size p.out2 p.word2 in
      let a3 = length-appended m5 links_at size (omega (arith, r1, r2, r3, a1, a2)) p.out3 p.word3 in
      a3 ∙ a2 ∙ a1 ∙ r3 ∙ r2 ∙ r1

  length-performed : (i : ℕ) (p : Plan) → length (performed m size i p) ≡ length m
  unfolding performed_from
  length-performed i p = length-stored (moved m size p) (register_at i) p.register ∙ length_moved p

  length-fired : (i : ℕ) → length (fired_at m size i) ≡ length m
  unfolding fired_from
  length-fired i = go (able_at m size i)
    where
      go : (b : Bool) → length (pick b (performed m size i (plan_at m size i)) m) ≡ length m
      go true = length-performed i (plan_at m size i)
      go false = refl

  pub fired-keeps : (i : ℕ) → i < 1024 → Keeps m (fired_at m size i)
  fired-keeps i l = record { len = length-fired i; below = static-fired m links_at size (omega arith) h i l }

-- ---- rounds

pub sweep-keeps : (size k i : ℕ) (m : List ℕ) (c : ℕ) → need size ≤ length m → i + k ≤ 1024 → Keeps m (sweep size k i m c).mem
unfolding sweep
sweep-keeps size zero i m c h l = keeps-all m
sweep-keeps size (suc k) i m c h l =
    let f = fired-keeps m size h i (omega arith) in
    go (able_at m size i) f
    (sweep-keeps size k (suc i) (fired_at m size i) (c + 1) (omega (arith, f.len)) (omega arith))
    (sweep-keeps size k (suc i) m c h (omega arith))
  where
    go : (b : Bool) → Keeps m (fired_at m size i) → Keeps (fired_at m size i) (sweep size k (suc i) (fired_at m size i) (c + 1)).mem
        → Keeps m (sweep size k (suc i) m c).mem → Keeps m (pick b (sweep size k (suc i) (fired_at m size i) (c + 1)) (sweep size k (suc i) m c)).mem
    go true f F P = keeps-both m (fired_at m size i) (sweep size k (suc i) (fired_at m size i) (c + 1)).mem f F
    go false f F P = P

pub round_keeps : (size n : ℕ) (m : List ℕ) → need size ≤ length m → n ≤ 1024 → Keeps m (round size n m).mem
unfolding round
round_keeps size n m h l = sweep-keeps size n 0 m 0 h (omega arith)

pub rounds-keep : (size n b : ℕ) (m : List ℕ) (r f : ℕ) → need size ≤ length m → n ≤ 1024 → Keeps m (rounds_from size n b m r f).mem
unfolding rounds_from
rounds-keep size n zero m r f h l = keeps-all m
rounds-keep size n (suc b) m r f h l =
    let k = round_keeps size n m h l in
    go (eqb (round size n m).firings 0) (rounds_from size n b (round size n m).mem (r + 1) (f + (round size n m).firings))
    (keeps-both m (round size n m).mem (rounds_from size n b (round size n m).mem (r + 1) (f + (round size n m).firings)).mem k
    (rounds-keep size n b (round size n m).mem (r + 1) (f + (round size n m).firings) (omega (arith, k.len)) l))
  where
    go : (t : Bool) (w : Rounded) → Keeps m w.mem → Keeps m (pick t (rounded m r f) w).mem
    go true w K = keeps-all m
    go false w K = K

-- ---- the call

ended-mem : (w : Rounded) (size n : ℕ) → (ended w size n).mem ≡ w.mem
unfolding ended
ended-mem w size n = refl

pub call-keeps : (m : List ℕ) (lent : ℕ) → Keeps m (ran_rounds m lent).mem
call-keeps m lent = go (ℕ_discrete (standing m) 0)
  where
    go : Dec (standing m ≡ 0) → Keeps m (ran_rounds m lent).mem
    go (yes st) =
        let g = standing-good m st in
        let w = rounds_from (size_in m) (operators_of m) lent m 0 0 in
        let e = ap (λ (o : Outcome). o.mem) (rounds-ended m lent st) ∙ ended-mem w (size_in m) (operators_of m) in
        subst (Keeps m) (sym e) (rounds-keep (size_in m) (operators_of m) lent m 0 0 g.0 (valid-figures m g.1).operators)
    go (no n) = subst (λ (o : Outcome). Keeps m o.mem) (sym (rounds-refused m lent n)) (keeps-all m)

pub same_size : (m m' : List ℕ) → Keeps m m' → size_in m' ≡ size_in m
same_size m m' k = rw (k.below 0 (omega arith)) refl

pub same-operators : (m m' : List ℕ) → Keeps m m' → operators_of m' ≡ operators_of m
unfolding number16
same-operators m m' k = rw (k.below 1 (omega arith), k.below 2 (omega arith)) refl
