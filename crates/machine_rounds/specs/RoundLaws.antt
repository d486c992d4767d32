-- Laws of a run by rounds: a round operator by operator, the rounds one by one, their end, and what the loops that make them keep. Assumes nothing.
use Rattle.std.specs.Prelude.{ℕ, zero, suc, ◌+◌, ◌-◌, ◌*◌, ◌≤◌, ◌<◌, ◌≡◌, ◌≢◌, Bool, true, false, List, eqb, length}
use Rattle.std.proofs.Math.Path.{refl}
use Rattle.std.proofs.Common.{sym, ap, ◌∙◌, arith, add-one, le-ltb, eq-eqb, ne_eqb, eqb-true}
use Rattle.std.proofs.Math.Decide.{ℕ_discrete}
use Rattle.value.specs.Operators.{pick}
use Rattle.formula.specs.declared.Refusal.TheVariants.{Unfinished}
use Rattle.formula.specs.Refusals.{number_of}
use Rattle.machine_layout.specs.Layout.{links_at, operators_of}
use Rattle.machine_firing.specs.Fire.{able_at, fired_at}
use Rattle.machine_runs.specs.Run.{still_at, still_from}
use Rattle.machine_runs.specs.RunLaws.{Quiet, least-none, fired-idle}
use Rattle.machine_calls.specs.Calls.{size_in, standing}
use Rattle.machine_rounds.specs.Rounds.{Swept, swept, sweep, round, Rounded, rounded, rounds_from, outcome, answers, ended, ran_rounds}

-- ---- one round

-- an operator that fires at its turn, and one that does not
pub sweep-fires : (size k i : ℕ) (m : List ℕ) (c : ℕ) → 0 < k → able_at m size i ≡ true → sweep size k i m c ≡ sweep size (k - 1) (i + 1) (fired_at m size i) (c + 1)
unfolding sweep
sweep-fires size zero i m c p e = absurd (omega arith)
sweep-fires size (suc k) i m c p e = let d : suc k - 1 ≡ k = omega arith in rw (e, d, add-one i) refl

pub sweep-passes : (size k i : ℕ) (m : List ℕ) (c : ℕ) → 0 < k → able_at m size i ≡ false → sweep size k i m c ≡ sweep size (k - 1) (i + 1) m c
unfolding sweep
sweep-passes size zero i m c p e = absurd (omega arith)
sweep-passes size (suc k) i m c p e = let d : suc k - 1 ≡ k = omega arith in rw (e, d, add-one i) refl

pub sweep-none : (size i : ℕ) (m : List ℕ) (c : ℕ) → sweep size 0 i m c ≡ swept m c
unfolding sweep
sweep-none size i m c = refl

-- what a round's loop keeps
pub record Sweeping (m₀ : List ℕ) (size n : ℕ) (m : List ℕ) (c i : ℕ) : Type 0 where
  pub upto : i ≤ n
  pub each : c ≤ i
  pub same : sweep size (n - i) i m c ≡ round size n m₀
  pub len : length m ≡ length m₀

pub sweeping-start : (m₀ : List ℕ) (size n : ℕ) → Sweeping m₀ size n m₀ 0 0
unfolding round
sweeping-start m₀ size n = record { upto = omega arith; each = omega arith; same = (let e : n - 0 ≡ n = omega arith in rw e refl); len = refl }

module _ (m₀ : List ℕ) (size n : ℕ) (m : List ℕ) (c i : ℕ) (g : Sweeping m₀ size n m c i) where
  pub sweeping-fires : i < n → able_at m size i ≡ true → length (fired_at m size i) ≡ length m → Sweeping m₀ size n (fired_at m size i) (c + 1) (i + 1)
  sweeping-fires h e l =
      let b = g.each in
      let d : n - i - 1 ≡ n - (i + 1) = omega arith in
      record {
        upto = omega arith;
        each = omega arith;
        same = ap (λ (x : ℕ). sweep size x (i + 1) (fired_at m size i) (c + 1)) (sym d) ∙ sym (sweep-fires size (n - i) i m c (omega arith) e) ∙ g.same;
        len = l ∙ g.len;
      }

  pub sweeping-passes : i < n → able_at m size i ≡ false → Sweeping m₀ size n (fired_at m size i) c (i + 1)
  sweeping-passes h e =
      let b = g.each in
      let d : n - i - 1 ≡ n - (i + 1) = omega arith in
      rw (fired-idle m links_at size i e) (record {
        upto = omega arith;
        each = omega arith;
        same = ap (λ (x : ℕ). sweep size x (i + 1) m c) (sym d) ∙ sym (sweep-passes size (n - i) i m c (omega arith) e) ∙ g.same;
        len = g.len;
      })

  pub sweeping-end : n ≤ i → swept m c ≡ round size n m₀
  sweeping-end h = let u = g.upto in let z : n - i ≡ 0 = omega arith in sym (sweep-none size i m c) ∙ ap (λ (x : ℕ). sweep size x i m c) (sym z) ∙ g.same

-- ---- a round without a firing

-- a round has at most as many firings as turns
pub record Between (size k i : ℕ) (m : List ℕ) (c : ℕ) : Type 0 where
  pub from : c ≤ (sweep size k i m c).firings
  pub upto : (sweep size k i m c).firings ≤ c + k

pub sweep-between : (size k i : ℕ) (m : List ℕ) (c : ℕ) → Between size k i m c
unfolding sweep
sweep-between size zero i m c = record { from = omega arith; upto = omega arith }
sweep-between size (suc k) i m c = go (able_at m size i) refl (sweep-between size k (suc i) (fired_at m size i) (c + 1)) (sweep-between size k (suc i) m c)
  where
    go : (b : Bool) → able_at m size i ≡ b → Between size k (suc i) (fired_at m size i) (c + 1) → Between size k (suc i) m c → Between size (suc k) i m c
    go true e F P = record { from = rw e (omega (arith, F.from)); upto = rw e (omega (arith, F.upto)) }
    go false e F P = record { from = rw e (omega (arith, P.from)); upto = rw e (omega (arith, P.upto)) }

-- it leaves the memory, and no operator was able
pub record Unmoved (size k i : ℕ) (m : List ℕ) (c : ℕ) : Type 0 where
  pub mem : (sweep size k i m c).mem ≡ m
  pub quiet : (j : ℕ) → i ≤ j → j < i + k → able_at m size j ≡ false

pub sweep-unmoved : (size k i : ℕ) (m : List ℕ) (c : ℕ) → (sweep size k i m c).firings ≡ c → Unmoved size k i m c
unfolding sweep
sweep-unmoved size zero i m c = λ e. record { mem = refl; quiet = λ j a b. absurd (omega arith) }
sweep-unmoved size (suc k) i m c = go (able_at m size i) refl (sweep-between size k (suc i) (fired_at m size i) (c + 1)) (sweep-unmoved size k (suc i) m c)
  where
    go : (b : Bool) → able_at m size i ≡ b → Between size k (suc i) (fired_at m size i) (c + 1) → ((sweep size k (suc i) m c).firings ≡ c → Unmoved size k (suc i) m c)
        → (pick (able_at m size i) (sweep size k (suc i) (fired_at m size i) (c + 1)) (sweep size k (suc i) m c)).firings ≡ c → Unmoved size (suc k) i m c
    go true a F I e = absurd (omega (arith, F.from, rw a at e))
    go false a F I e =
        let u = I (rw a at e) in
        record {
          mem = rw a u.mem;
          quiet = λ j x y. later j x y (ℕ_discrete j i) u.quiet;
        }
      where
        later : (j : ℕ) → i ≤ j → j < i + suc k → Dec (j ≡ i) → ((j : ℕ) → suc i ≤ j → j < suc i + k → able_at m size j ≡ false) → able_at m size j ≡ false
        later j x y (yes p) q = ap (able_at m size) p ∙ a
        later j x y (no d) q = q j (omega arith) (omega arith)

pub round-unmoved : (size n : ℕ) (m : List ℕ) → (round size n m).firings ≡ 0 → (round size n m).mem ≡ m
unfolding round
round-unmoved size n m e = (sweep-unmoved size n 0 m 0 e).mem

pub round-quiet : (size n : ℕ) (m : List ℕ) → (round size n m).firings ≡ 0 → Quiet m size n
unfolding round
round-quiet size n m e j h = (sweep-unmoved size n 0 m 0 e).quiet j (omega arith) (omega arith)

pub quiet-still : (m : List ℕ) (size n : ℕ) → Quiet m size n → still_at m size n ≡ true
unfolding still_from
quiet-still m size n q = rw (least-none m links_at size n q, le-ltb n n (omega arith)) refl

-- ---- rounds one after another

pub rounds-step : (size n b : ℕ) (m : List ℕ) (r f : ℕ) → 0 < b → (round size n m).firings ≢ 0
    → rounds_from size n b m r f ≡ rounds_from size n (b - 1) (round size n m).mem (r + 1) (f + (round size n m).firings)
unfolding rounds_from
rounds-step size n zero m r f p e = absurd (omega arith)
rounds-step size n (suc b) m r f p e = let d : suc b - 1 ≡ b = omega arith in rw (ne_eqb (round size n m).firings 0 e, d) refl

pub rounds-end : (size n b : ℕ) (m : List ℕ) (r f : ℕ) → (round size n m).firings ≡ 0 → rounds_from size n b m r f ≡ rounded m r f
unfolding rounds_from
rounds-end size n zero m r f e = refl
rounds-end size n (suc b) m r f e = rw (eq-eqb (round size n m).firings 0 e) refl

pub rounds-zero : (size n : ℕ) (m : List ℕ) (r f : ℕ) → rounds_from size n 0 m r f ≡ rounded m r f
unfolding rounds_from
rounds-zero size n m r f = refl

-- what the rounds' loop keeps
pub record Rounding (m₀ : List ℕ) (size n b : ℕ) (m : List ℕ) (r f : ℕ) : Type 0 where
  pub done : r ≤ b
  pub most : f ≤ 1024 * r
  pub same : rounds_from size n (b - r) m r f ≡ rounds_from size n b m₀ 0 0
  pub len : length m ≡ length m₀

pub rounding-start : (m₀ : List ℕ) (size n b : ℕ) → Rounding m₀ size n b m₀ 0 0
rounding-start m₀ size n b = record { done = omega arith; most = omega arith; same = (let e : b - 0 ≡ b = omega arith in rw e refl); len = refl }

module _ (m₀ : List ℕ) (size n b : ℕ) (m : List ℕ) (r f : ℕ) (g : Rounding m₀ size n b m r f) where
  module _ (m' : List ℕ) (c : ℕ) (e : swept m' c ≡ round size n m) where
    fires : (round size n m).firings ≡ c
    fires = ap (λ (s : Swept). s.firings) (sym e)

    leads : (round size n m).mem ≡ m'
    leads = ap (λ (s : Swept). s.mem) (sym e)

    pub rounding-more : r < b → c ≢ 0 → c ≤ 1024 → length m' ≡ length m → Rounding m₀ size n b m' (r + 1) (f + c)
    rounding-more h x y l =
        let p = g.most in
        let d : b - r - 1 ≡ b - (r + 1) = omega arith in
        record {
          done = omega arith;
          most = omega arith;
          same =
              ap (λ (k : ℕ). rounds_from size n k m' (r + 1) (f + c)) (sym d)
              ∙ ap (λ (s : Swept). rounds_from size n (b - r - 1) s.mem (r + 1) (f + s.firings)) e
              ∙ sym (rounds-step size n (b - r) m r f (omega arith) (λ z. x (sym fires ∙ z)))
              ∙ g.same;
          len = l ∙ g.len;
        }

    pub rounding-end : c ≡ 0 → rounded m' r f ≡ rounds_from size n b m₀ 0 0
    rounding-end z =
        let q : (round size n m).firings ≡ 0 = fires ∙ z in
        ap (λ (x : List ℕ). rounded x r f) (sym leads ∙ round-unmoved size n m q) ∙ sym (rounds-end size n (b - r) m r f q) ∙ g.same

  pub rounding-full : b ≤ r → rounded m r f ≡ rounds_from size n b m₀ 0 0
  rounding-full h = let d = g.done in let z : b - r ≡ 0 = omega arith in sym (rounds-zero size n m r f) ∙ ap (λ (x : ℕ). rounds_from size n x m r f) (sym z) ∙ g.same

-- fewer rounds than lent: nothing can fire
pub rounds-below : (size n b : ℕ) (m : List ℕ) (r f : ℕ) → (rounds_from size n b m r f).rounds < r + b → still_at (rounds_from size n b m r f).mem size n ≡ true
unfolding rounds_from
rounds-below size n zero m r f h = absurd (omega arith)
rounds-below size n (suc b) m r f h =
    go (eqb (round size n m).firings 0) refl (rounds_from size n b (round size n m).mem (r + 1) (f + (round size n m).firings))
    (rounds-below size n b (round size n m).mem (r + 1) (f + (round size n m).firings)) h
  where
    go : (t : Bool) → eqb (round size n m).firings 0 ≡ t → (w : Rounded) → (w.rounds < r + 1 + b → still_at w.mem size n ≡ true)
        → (pick t (rounded m r f) w).rounds < r + suc b → still_at (pick t (rounded m r f) w).mem size n ≡ true
    go true e w I h = quiet-still m size n (round-quiet size n m (eqb-true (round size n m).firings 0 e))
    go false e w I h = I (omega arith)

-- ---- the call by the tests that it meets

module _ (m : List ℕ) (b : ℕ) where
  pub rounds-refused : standing m ≢ 0 → ran_rounds m b ≡ outcome (answers (standing m) 0 0) m
  unfolding ran_rounds
  rounds-refused n = simp (ne_eqb (standing m) 0 n)

  module _ (st : standing m ≡ 0) where
    pub rounds-ended : ran_rounds m b ≡ ended (rounds_from (size_in m) (operators_of m) b m 0 0) (size_in m) (operators_of m)
    unfolding ran_rounds
    rounds-ended = rw st refl

    -- its answer by what it left
    module _ (m' : List ℕ) (r f : ℕ) (e : rounded m' r f ≡ rounds_from (size_in m) (operators_of m) b m 0 0) where
      pub rounds-still : still_at m' (size_in m) (operators_of m) ≡ true → ran_rounds m b ≡ outcome (answers 0 r f) m'
      unfolding ended
      rounds-still t = rounds-ended ∙ rw (← e, t) refl

      pub rounds-unfinished : still_at m' (size_in m) (operators_of m) ≡ false → ran_rounds m b ≡ outcome (answers (number_of Unfinished) r f) m'
      unfolding ended
      rounds-unfinished t = rounds-ended ∙ rw (← e, t) refl

      pub rounds-early : r < b → ran_rounds m b ≡ outcome (answers 0 r f) m'
      rounds-early h = rounds-still (rw (← e) at (rounds-below (size_in m) (operators_of m) b m 0 0 (rw (← e) (omega arith))))
