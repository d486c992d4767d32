-- Each call of the machine with tags by the tests that it meets, in their order. Assumes nothing.
use Rattle.std.specs.Prelude.{ℕ, ◌≤◌, ◌<◌, ◌≡◌, ◌≢◌, Bool, true, false, List, eqb, length}
use Rattle.std.proofs.Math.Path.{refl}
use Rattle.std.proofs.Common.{◌∙◌}
use borrow.Author.Tests.{eq-eqb, ne_eqb, lt-ltb, le-ltb}
use Rattle.value_sets.specs.Sets.{set_ok}
use Rattle.formula.specs.declared.Refusal.TheVariants.{Memory, Set, NotAble, NoTag, NoTagResult}
use Rattle.machine_layout.specs.Layout.{most_results, least_size, operators_of, results_of, stored_kinds}
use Rattle.machine_valid.specs.Below.{all_below}
use Rattle.machine_calls.specs.Calls.{outcome, handed, answers, refusal, result_ready_from, result_bytes, written_from}
use Rattle.machine_planes.specs.Planes.{most_tags, plane_at, untaken_under}
use Rattle.machine_tags.specs.TagRun.{able_under, fired_under}
use Rattle.machine_tags.specs.TagCalls.{tag_standing, lowest_free, tag_pushed_memory, tag_pushed, tag_fired, whole_result, tag_taken_memory, tag_taken}

module _ (m : List ℕ) where
  pub tag-pushed-refused : (s : List ℕ) → tag_standing m ≢ 0 → tag_pushed m s ≡ outcome (answers (tag_standing m) 0) m
  unfolding tag_pushed
  tag-pushed-refused s n = simp (ne_eqb (tag_standing m) 0 n)

  pub tag-fired-refused : (i t : ℕ) → tag_standing m ≢ 0 → tag_fired m i t ≡ outcome (answers (tag_standing m) 0) m
  unfolding tag_fired
  tag-fired-refused i t n = simp (ne_eqb (tag_standing m) 0 n)

  pub tag-taken-short : (t : ℕ) (o : List ℕ) → length o < result_bytes → tag_taken m t o ≡ handed (refusal Memory) m o
  unfolding tag_taken
  tag-taken-short t o l = simp (lt-ltb (length o) result_bytes l)

  pub tag-taken-refused : (t : ℕ) (o : List ℕ) → result_bytes ≤ length o → tag_standing m ≢ 0 → tag_taken m t o ≡ handed (answers (tag_standing m) 0) m o
  unfolding tag_taken
  tag-taken-refused t o l n = simp (le-ltb (length o) result_bytes l, ne_eqb (tag_standing m) 0 n)

  module _ (st : tag_standing m ≡ 0) where
    module _ (s : List ℕ) where
      pub tag-pushed-no-set : set_ok (stored_kinds m) s ≡ false → tag_pushed m s ≡ outcome (refusal Set) m
      unfolding tag_pushed
      tag-pushed-no-set a = rw (st, a) refl

      pub tag-pushed-no-tag : set_ok (stored_kinds m) s ≡ true → most_tags ≤ lowest_free m → tag_pushed m s ≡ outcome (refusal NoTag) m
      unfolding tag_pushed
      tag-pushed-no-tag a h = rw (st, a, le-ltb (lowest_free m) most_tags h) refl

      pub tag-pushed-accepted : set_ok (stored_kinds m) s ≡ true → lowest_free m < most_tags → tag_pushed m s ≡ outcome (answers 0 (lowest_free m)) (tag_pushed_memory m s (lowest_free m))
      unfolding tag_pushed
      tag-pushed-accepted a h = rw (st, a, lt-ltb (lowest_free m) most_tags h) refl

    module _ (i t : ℕ) where
      pub tag-fired-absent : operators_of m ≤ i → tag_fired m i t ≡ outcome (refusal NotAble) m
      unfolding tag_fired
      tag-fired-absent a = rw (st, le-ltb i (operators_of m) a) refl

      module _ (a : i < operators_of m) where
        pub tag-fired-no-tag : most_tags ≤ t → tag_fired m i t ≡ outcome (refusal NotAble) m
        unfolding tag_fired
        tag-fired-no-tag h = rw (st, lt-ltb i (operators_of m) a, le-ltb t most_tags h) refl

        pub tag-fired-idle : t < most_tags → able_under m i t ≡ false → tag_fired m i t ≡ outcome (refusal NotAble) m
        unfolding tag_fired
        tag-fired-idle h b = rw (st, lt-ltb i (operators_of m) a, lt-ltb t most_tags h, b) refl

        pub tag-fired-accepted : t < most_tags → able_under m i t ≡ true → tag_fired m i t ≡ outcome (answers 0 0) (fired_under m i t)
        unfolding tag_fired
        tag-fired-accepted h b = rw (st, lt-ltb i (operators_of m) a, lt-ltb t most_tags h, b) refl

    module _ (t : ℕ) (o : List ℕ) (l : result_bytes ≤ length o) where
      pub tag-taken-no-tag : most_tags ≤ t → tag_taken m t o ≡ handed (refusal NoTagResult) m o
      unfolding tag_taken
      tag-taken-no-tag h = rw (le-ltb (length o) result_bytes l, st, le-ltb t most_tags h) refl

      module _ (h : t < most_tags) where
        pub tag-taken-none : untaken_under m t ≢ 1 → tag_taken m t o ≡ handed (refusal NoTagResult) m o
        unfolding tag_taken whole_result
        tag-taken-none n = rw (le-ltb (length o) result_bytes l, st, lt-ltb t most_tags h, ne_eqb (untaken_under m t) 1 n) refl

        pub tag-taken-empty : untaken_under m t ≡ 1 → all_below (results_of m) (result_ready_from m (plane_at t) least_size) ≡ false → tag_taken m t o ≡ handed (refusal NoTagResult) m o
        unfolding tag_taken whole_result
        tag-taken-empty a b = rw (le-ltb (length o) result_bytes l, st, lt-ltb t most_tags h, eq-eqb (untaken_under m t) 1 a, b) refl

        pub tag-taken-accepted : untaken_under m t ≡ 1 → all_below (results_of m) (result_ready_from m (plane_at t) least_size) ≡ true →
            tag_taken m t o ≡ handed (answers 0 (results_of m)) (tag_taken_memory m t) (written_from most_results m (plane_at t) least_size (results_of m) o)
        unfolding tag_taken whole_result
        tag-taken-accepted a b = rw (le-ltb (length o) result_bytes l, st, lt-ltb t most_tags h, eq-eqb (untaken_under m t) 1 a, b) refl
