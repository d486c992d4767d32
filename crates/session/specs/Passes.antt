-- The loop of the bench program (document 01, "Program and readings"): "it pushes until refused or out of sets, runs with the firings left, takes until
-- refused, and repeats until every set is taken. After a run's 36 it takes until refused once more, and 36 prints last with row 0." What each
-- call does is machine_calls/specs/Calls. A set is the bytes that push takes. Assumes nothing.
use Rattle.std.specs.Prelude.{ℕ, zero, suc, ◌+◌, ◌-◌, List, [], ◌∷◌, ◌++◌, length, replicate, eqb}
use Rattle.value.specs.Operators.{pick}
use Rattle.machine_layout.specs.Layout.{untaken_of}
use Rattle.machine_calls.specs.Calls.{Handed, Outcome, pushed, ran, taken}
use Rattle.text.specs.Printed.{result_line, refusal_line}

-- ---- "it pushes until refused or out of sets"

pub record Fed : Type 0 where
  pub mem : List ℕ
  pub rest : List (List ℕ)

abbrev pub fed : List ℕ → List (List ℕ) → Fed
fed m ss = record { mem = m; rest = ss }

unfoldable pub feeding : List (List ℕ) → List ℕ → Fed
feeding [] m = fed m []
feeding (s ∷ ss) m = pick (eqb (pushed m s).answer.refusal 0) (feeding ss (pushed m s).mem) (fed (pushed m s).mem (s ∷ ss))

-- ---- "takes until refused"

-- Sixteen fields and a line feed: the longest line.
abbrev pub longest_line : ℕ
longest_line = 177

-- The program's room for what a repetition prints.
abbrev pub out_bytes : ℕ
out_bytes = 65536

-- What a take answers, with room for one result set.
unfoldable pub taken_from : List ℕ → Handed
taken_from m = taken m (replicate 80 0)

-- The line of a result set that was handed out; none where the take was refused.
unfoldable pub line_by : Handed → List ℕ
line_by h = pick (eqb h.answer.refusal 0) (result_line h.answer.count h.out) []

pub record Drained : Type 0 where
  pub mem : List ℕ
  pub lines : List ℕ
  pub count : ℕ

abbrev pub drained : List ℕ → List ℕ → ℕ → Drained
drained m ls n = record { mem = m; lines = ls; count = n }

abbrev pub with_line : List ℕ → Drained → Drained
with_line l d = drained d.mem (l ++ d.lines) (suc d.count)

-- At most n takes. An accepted take leaves one set less untaken, so as many as there are untaken are enough to be refused.
unfoldable pub draining : ℕ → List ℕ → Drained
unfolding taken_from line_by
draining zero m = drained m [] 0
draining (suc n) m = pick (eqb (taken_from m).answer.refusal 0) (with_line (line_by (taken_from m)) (draining n (taken_from m).mem)) (drained (taken_from m).mem [] 0)

unfoldable pub drained_of : List ℕ → Drained
unfolding draining
drained_of m = draining (untaken_of m) m

-- ---- one repetition

pub record Pass : Type 0 where
  pub mem : List ℕ
  pub rest : List (List ℕ)
  pub left : ℕ
  pub refusal : ℕ
  pub count : ℕ
  pub lines : List ℕ

abbrev pub pass_by : List (List ℕ) → ℕ → Outcome → Drained → Pass
pass_by rest left r d =
    record { mem = d.mem; rest = rest; left = left - r.answer.count; refusal = r.answer.refusal; count = d.count; lines = d.lines }

unfoldable pub pass_of : List (List ℕ) → List ℕ → ℕ → Pass
unfolding feeding drained_of
pass_of rest m left = pass_by (feeding rest m).rest left (ran (feeding rest m).mem left) (drained_of (ran (feeding rest m).mem left).mem)

-- What it prints: a line for each set taken, and a refused run's number behind them.
unfoldable pub part_of : Pass → List ℕ
part_of p = p.lines ++ pick (eqb p.refusal 0) [] (refusal_line p.refusal 0)

-- How many sets are then left to take; none after a refused run, which is the end.
unfoldable pub remaining_after : ℕ → Pass → ℕ
remaining_after n p = pick (eqb p.refusal 0) (n - p.count) 0

-- ---- "and repeats until every set is taken"

-- What the repetitions print from here on and the memory that they leave, when none is left to make: n sets are not taken yet, `rest` of them not pushed, `left`
-- firings are left. A loop without end does neither.
pub data Repeats : ℕ → List (List ℕ) → List ℕ → ℕ → List ℕ → List ℕ → Type 0 where
  none_left : (rest : List (List ℕ)) (m : List ℕ) (left : ℕ) → Repeats 0 rest m left [] m
  again : (n : ℕ) (rest : List (List ℕ)) (m : List ℕ) (left : ℕ) (out last : List ℕ)
      → Repeats (remaining_after (suc n) (pass_of rest m left)) (pass_of rest m left).rest (pass_of rest m left).mem (pass_of rest m left).left out last
      → Repeats (suc n) rest m left (part_of (pass_of rest m left) ++ out) last

-- What is printed by at most f repetitions. As many as there are sets and firings are enough (specs/Ending).
unfoldable pub passes : ℕ → ℕ → List (List ℕ) → List ℕ → ℕ → List ℕ
unfolding pass_of part_of remaining_after
passes zero n rest m left = []
passes (suc f) n rest m left =
    pick (eqb n 0) []
    (part_of (pass_of rest m left) ++ passes f (remaining_after n (pass_of rest m left)) (pass_of rest m left).rest (pass_of rest m left).mem (pass_of rest m left).left)
