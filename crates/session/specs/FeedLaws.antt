-- Laws of a feed: the sets that wait in the file, line by line, and a feed one push at a time. Assumes nothing.
use Rattle.std.specs.Prelude.{ℕ, zero, suc, ◌+◌, ◌-◌, ◌*◌, ◌≤◌, ◌<◌, ◌≡◌, refl, ◌≢◌, Bool, true, false, List, [], ◌∷◌, ◌++◌, length, take, drop}
use Rattle.value.specs.Operators.{pick}
use Rattle.machine_calls.specs.Calls.{Outcome, pushed, outcome}
use Rattle.text.specs.SetLines.{lines_of, line_at, is_set_line, field_bytes, SetFile, sets, bad_line, one_more, sets_from}
use Rattle.session.specs.Passes.{feeding}
use Rattle.session.specs.Waiting.{Waiting}

-- ---- a feed that has come to `next`
pub record FedOn (kinds s : List ℕ) (at : ℕ) (m₀ : List ℕ) (next : ℕ) (m : List ℕ) : Type 0 where
  pub on : (rest : List (List ℕ)) → Waiting kinds s at rest → (ts : List (List ℕ)) × Waiting kinds s next ts × (feeding rest m₀ ≡ feeding ts m)
