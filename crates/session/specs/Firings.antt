-- The firings of the program's runs. Document 01, "Program and readings": "It uses capacity 2 and 1,000,000 firings in all"; "36 run: something can still fire
-- after the lent firings". The runs are those of the repetitions that print (Passes). Assumes nothing.
use Rattle.std.specs.Prelude.{ℕ, zero, suc, ◌+◌, ◌-◌, ◌≤◌, ◌≡◌, List, [], ◌∷◌, eqb}
use Rattle.value.specs.Operators.{pick}
use Rattle.machine_calls.specs.Calls.{fired, ran}
use Rattle.session.specs.Passes.{feeding, pass_of, remaining_after}

-- A run: the memory before it and the firings that it is lent.
pub record LentRun : Type 0 where
  pub before : List ℕ
  pub lent : ℕ

abbrev pub lent_run : List ℕ → ℕ → LentRun
lent_run m left = record { before = m; lent = left }

-- The count that it gives.
abbrev pub count_of : LentRun → ℕ
count_of r = (ran r.before r.lent).answer.count

-- The runs of at most f repetitions, in their order.
unfoldable pub runs_made : ℕ → ℕ → List (List ℕ) → List ℕ → ℕ → List LentRun
runs_made zero n rest m left = []
runs_made (suc f) n rest m left =
    pick (eqb n 0) []
    (lent_run (feeding rest m).mem left ∷ runs_made f (remaining_after n (pass_of rest m left)) (pass_of rest m left).rest (pass_of rest m left).mem (pass_of rest m left).left)

-- Their counts together.
abbrev pub firings_of : List LentRun → ℕ
firings_of [] = 0
firings_of (r ∷ rs) = count_of r + firings_of rs

-- After the last of them some operator can fire: a fire of it would be accepted.
abbrev pub StillFires : LentRun → List LentRun → Type 0
StillFires r [] = (i : ℕ) × ((fired (ran r.before r.lent).mem i).answer.refusal ≡ 0)
StillFires r (s ∷ rs) = StillFires s rs

-- There was a run; their counts are all the firings there are, and after the last one something can still fire.
abbrev pub UsesAll : ℕ → List LentRun → Type 0
UsesAll all [] = ⊥
UsesAll all (r ∷ rs) = (firings_of (r ∷ rs) ≡ all) × StillFires r rs
