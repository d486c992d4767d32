-- An accepted push and an accepted take are steps (Stepped): on the machine of their tag a push or a take of the first machine, on every other none. Assumes a
-- memory in good standing.
use Rattle.std.specs.Prelude.{ℕ, ◌≤◌, ◌<◌, ◌≡◌, refl, true, cond, ◌≢◌, List, [], ◌∷◌, eqb, length, take as first_of}
use borrow.Author.Tests.{eqb-true, eq-eqb, ne_eqb}
use Rattle.value_sets.specs.Sets.{set_ok}
use Rattle.machine_layout.specs.Layout.{most_results, least_size, results_of, stored_kinds}
use Rattle.machine_valid.specs.Below.{and_left}
use Rattle.machine_calls.specs.Calls.{written_from}
use Rattle.machine_planes.specs.Planes.{most_tags, untaken_under, plane_at, tagged_need, plane_of}
use Rattle.machine_tags.specs.TagCalls.{tag_standing, free_tag, tag_pushed_memory, whole_result, tag_taken_memory}
use Rattle.demand.specs.MemoryCalls.{Result, result}

-- What is said under the tag f alone.
abbrev pub only_under : {A : Type 0} → ℕ → A → ℕ → List A
only_under f a t = cond (eqb f t) (a ∷ []) []

-- The result that a take under tag t hands out.
abbrev pub result_at : (m : List ℕ) (t : ℕ) (o : List ℕ) → Result
result_at m t o = result (results_of m) (first_of 80 (written_from most_results m (plane_at t) least_size (results_of m) o))
