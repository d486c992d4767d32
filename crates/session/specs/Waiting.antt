-- Where the sets that are not pushed yet stand in the file, and what one repetition of the program's loop leaves (Passes), as its contract says it. The kinds
-- are the letters of the inputs (text/specs/SetLines). Assumes nothing.
use Rattle.std.specs.Prelude.{ℕ, ◌≤◌, ◌≡◌, List, length, take, drop}
use Rattle.text.specs.SetLines.{lines_of, sets, sets_from}
use Rattle.session.specs.declared.Stage.{Stage}
use Rattle.session.specs.Passes.{feeding, Pass, pass_of, part_of, remaining_after}

-- The lines of the file from `at` on are these sets.
pub record Waiting (kinds file : List ℕ) (at : ℕ) (rest : List (List ℕ)) : Type 0 where
  pub line : ℕ
  pub lines_are : sets_from kinds line (lines_of (drop at file)) ≡ sets rest

-- Every line from `at` on is a set.
abbrev pub Waits : List ℕ → List ℕ → ℕ → Type 0
Waits kinds file at = (rest : List (List ℕ)) × Waiting kinds file at rest

-- What a feed leaves, whatever sets wait.
abbrev pub FeedsTo : List ℕ → List ℕ → ℕ → List ℕ → ℕ → List ℕ → Type 0
FeedsTo kinds file at m r m' = (rest : List (List ℕ)) → Waiting kinds file at rest → (m' ≡ (feeding rest m).mem) × Waiting kinds file r (feeding rest m).rest

-- What a repetition leaves and prints.
pub record PassedTo (kinds file : List ℕ) (rest : List (List ℕ)) (n left : ℕ) (m : List ℕ) (r : Stage) (m' out : List ℕ) : Type 0 where
  pub memory : m' ≡ (pass_of rest m left).mem
  pub waits : Waiting kinds file r.at (pass_of rest m left).rest
  pub remaining-is : r.remaining ≡ remaining_after n (pass_of rest m left)
  pub firings-are : r.firings ≡ (pass_of rest m left).left
  pub prints : take r.printed out ≡ part_of (pass_of rest m left)

abbrev pub PassesTo : List ℕ → List ℕ → Stage → List ℕ → Stage → List ℕ → List ℕ → Type 0
PassesTo kinds file stage m r m' out =
    (rest : List (List ℕ)) → Waiting kinds file stage.at rest → PassedTo kinds file rest stage.remaining stage.firings m r m' out
