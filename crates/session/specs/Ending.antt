-- The program's loop ends because demand 3 says so (Onward): what its repetitions print (Passes, `Repeats`) is what the definition prints with as many
-- repetitions as there are sets and firings, and nothing else. Assumes a loop underway from an accepted start, with sets that pass 12.
use Rattle.std.specs.Prelude.{ℕ, zero, suc, ◌+◌, ◌≤◌, ◌<◌, ◌≡◌, List, [], ◌++◌}
use Rattle.session.specs.declared.Stage.{Stage}
use Rattle.session.specs.Passes.{Repeats}
use Rattle.session.specs.Waiting.{Waiting}
use Rattle.session.specs.Onward.{Going}

-- ---- the loop ends
-- What is printed with enough repetitions, and the memory at their end.
pub record Finished (n : ℕ) (rest : List (List ℕ)) (m : List ℕ) (left : ℕ) (out : List ℕ) : Type 0 where
  pub last : List ℕ
  pub repeats : Repeats n rest m left out last

-- ---- as the code has it
-- A stage from which the loop ends: the sets that wait in the file, and the calls that led here.
pub record Proceeds (kinds file : List ℕ) (stage : Stage) (m : List ℕ) : Type 0 where
  pub rest : List (List ℕ)
  pub waits : Waiting kinds file stage.at rest
  pub going : Going stage.remaining rest m

-- The loop has made every repetition: whatever sets wait, the memory is the one that they leave.
abbrev pub RepeatsTo : List ℕ → List ℕ → Stage → List ℕ → List ℕ → Type 0
RepeatsTo kinds file stage m last =
    (rest : List (List ℕ)) → Waiting kinds file stage.at rest → (out : List ℕ) × Repeats stage.remaining rest m stage.firings out last

-- A loop that has come from one stage to another: what the repetitions from there on leave, those from the first leave.
abbrev pub ComesTo : List ℕ → List ℕ → Stage → List ℕ → Stage → List ℕ → Type 0
ComesTo kinds file stage₀ m₀ stage m = (last : List ℕ) → RepeatsTo kinds file stage m last → RepeatsTo kinds file stage₀ m₀ last

pub record ProceedsOn (kinds file : List ℕ) (stage r : Stage) (m' : List ℕ) : Type 0 where
  pub on : Proceeds kinds file r m'
  pub less : r.remaining + r.firings < stage.remaining + stage.firings
