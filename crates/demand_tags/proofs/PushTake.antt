-- Laws of specs/PushTake.antt, and what only they need.
use Rattle.std.specs.Prelude.{ℕ, ◌≤◌, ◌<◌, ◌≡◌, refl, true, ◌≢◌, List, [], ◌∷◌, eqb, length}
use Rattle.std.proofs.Common.{sym, arith}
use borrow.Author.Tests.{eqb-true, eq-eqb, ne_eqb}
use Rattle.value_sets.specs.Sets.{set_ok}
use Rattle.machine_layout.specs.Layout.{most_results, least_size, results_of, stored_kinds}
use Rattle.machine_valid.specs.Below.{and_left}
use Rattle.machine_calls.specs.Calls.{written_from}
use Rattle.machine_planes.specs.Planes.{most_tags, untaken_under, plane_at, tagged_need, plane_of}
use Rattle.machine_tags.specs.TagCalls.{tag_standing, free_tag, tag_pushed_memory, whole_result, tag_taken_memory}
use Rattle.machine_tags.proofs.PlaneStanding.{tag-standing-good}
use Rattle.machine_tags.proofs.PlanePush.{plane-pushed, pushed-tag-byte}
use Rattle.machine_tags.proofs.PlaneTake.{plane-taken, taken-tag-byte}
use Rattle.machine_tags.proofs.Changes.{push-changes, take-changes}
use Rattle.demand_tags.proofs.Plays.{plays-push, plays-take}
use Rattle.demand_tags.proofs.Stepped.{Stepped, changed-step}
use Rattle.demand_tags.specs.Stepped.{no-sets, no-results}
use Rattle.demand_tags.specs.PushTake.{only_under, result_at}

only-own : {A : Type 0} (f : ℕ) (a : A) → only_under f a f ≡ a ∷ []
only-own f a = rw (eq-eqb f f refl) refl

only-other : {A : Type 0} (f : ℕ) (a : A) (t : ℕ) → t ≢ f → only_under f a t ≡ []
only-other f a t n = rw (ne_eqb f t (λ e. n (sym e))) refl

module _ (m : List ℕ) (st : tag_standing m ≡ 0) (f : ℕ) (tag : f < most_tags) where
  long : tagged_need ≤ length m
  long = (tag-standing-good m st).0

  pub push_step : (s : List ℕ) → set_ok (stored_kinds m) s ≡ true → free_tag m f ≡ true → Stepped m (tag_pushed_memory m s f) (only_under f s) no-results
  unfolding free_tag
  push_step s set free =
      let zero-before : untaken_under m f ≡ 0 = eqb-true (untaken_under m f) 0 (and_left (eqb (untaken_under m f) 0) _ free) in
      let one-after = pushed-tag-byte m f long tag s in
      changed-step m (tag_pushed_memory m s f) f (push-changes m st f tag s) (only_under f s) no-results (only-other f s) (λ t n. refl) (rw (only-own f s) (omega arith))
      (rw (only-own f s) (plays-push (plane_of m f) s (plane_of (tag_pushed_memory m s f) f) (plane-pushed m st s set f tag free)))

  pub take_step : (o : List ℕ) → 80 ≤ length o → whole_result m f ≡ true → Stepped m (tag_taken_memory m f) no-sets (only_under f (result_at m f o))
  unfolding whole_result
  take_step o room ready =
      let one-before : untaken_under m f ≡ 1 = eqb-true (untaken_under m f) 1 (and_left (eqb (untaken_under m f) 1) _ ready) in
      let zero-after = taken-tag-byte m f long tag in
      changed-step m (tag_taken_memory m f) f (take-changes m st f tag) no-sets (only_under f (result_at m f o)) (λ t n. refl) (only-other f (result_at m f o))
      (rw (only-own f (result_at m f o)) (omega arith))
      (rw (only-own f (result_at m f o))
      (plays-take (plane_of m f) o (plane_of (tag_taken_memory m f) f) (written_from most_results m (plane_at f) least_size (results_of m) o) (results_of m) (plane-taken m st f tag o room ready)))
