-- A run by rounds: document 02, Job 7: "operators rising, each that is able at its turn firing once". From the lent memory and number to the answer and every lent
-- byte at its end; "36 is given when something can fire after them, the firings kept as at run's 36. The call gives its firings and its rounds, on 36 too,
-- counting only rounds in which something fired." Assumes nothing.
use Rattle.std.specs.Prelude.{ℕ, zero, suc, ◌+◌, List, eqb}
use Rattle.value.specs.Operators.{pick}
use Rattle.formula.specs.declared.Refusal.TheVariants.{Unfinished}
use Rattle.formula.specs.Refusals.{number_of}
use Rattle.machine_layout.specs.Layout.{operators_of}
use Rattle.machine_firing.specs.Fire.{able_at, fired_at}
use Rattle.machine_runs.specs.Run.{still_at}
use Rattle.machine_calls.specs.Calls.{size_in, standing}
use Rattle.machine_rounds.specs.declared.RoundsAnswer.{RoundsAnswer}

-- ---- one round

-- a memory with the firings of a round that led to it
pub record Swept : Type 0 where
  pub mem : List ℕ
  pub firings : ℕ

abbrev pub swept : List ℕ → ℕ → Swept
swept m c = record { mem = m; firings = c }

-- k operators from i on, in turn, c of them having fired before
unfoldable pub sweep : ℕ → ℕ → ℕ → List ℕ → ℕ → Swept
sweep size zero i m c = swept m c
sweep size (suc k) i m c = pick (able_at m size i) (sweep size k (suc i) (fired_at m size i) (c + 1)) (sweep size k (suc i) m c)

-- a round of n operators
unfoldable pub round : ℕ → ℕ → List ℕ → Swept
unfolding sweep
round size n m = sweep size n 0 m 0

-- ---- rounds one after another

-- a memory with the rounds and firings that led to it
pub record Rounded : Type 0 where
  pub mem : List ℕ
  pub rounds : ℕ
  pub firings : ℕ

abbrev pub rounded : List ℕ → ℕ → ℕ → Rounded
rounded m r f = record { mem = m; rounds = r; firings = f }

-- at most b rounds more; one in which nothing fires is the end and does not count
unfoldable pub rounds_from : ℕ → ℕ → ℕ → List ℕ → ℕ → ℕ → Rounded
unfolding round
rounds_from size n zero m r f = rounded m r f
rounds_from size n (suc b) m r f =
    pick (eqb (round size n m).firings 0) (rounded m r f) (rounds_from size n b (round size n m).mem (r + 1) (f + (round size n m).firings))

-- ---- the call

pub record Outcome : Type 0 where
  pub answer : RoundsAnswer
  pub mem : List ℕ

abbrev pub outcome : RoundsAnswer → List ℕ → Outcome
outcome a m = record { answer = a; mem = m }

abbrev pub answers : ℕ → ℕ → ℕ → RoundsAnswer
answers refusal rounds firings = record { refusal = refusal; rounds = rounds; firings = firings }

unfoldable pub ended : Rounded → ℕ → ℕ → Outcome
ended w size n = outcome (answers (pick (still_at w.mem size n) 0 (number_of Unfinished)) w.rounds w.firings) w.mem

-- 11, 31, 36 "when something can fire after them"
unfoldable pub ran_rounds : List ℕ → ℕ → Outcome
unfolding rounds_from ended
ran_rounds m lent =
    pick (eqb (standing m) 0)
    (ended (rounds_from (size_in m) (operators_of m) lent m 0 0) (size_in m) (operators_of m))
    (outcome (answers (standing m) 0 0) m)
