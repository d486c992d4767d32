-- Laws of specs/Tested.antt, and what only they need.
use Rattle.std.specs.Prelude.{ℕ, ◌≤◌, ◌<◌, ◌≡◌, ◌≢◌, Bool, List, length}
use Rattle.std.proofs.Math.Path.{refl}
use Rattle.std.proofs.Common.{ap, arith}
use Rattle.std.proofs.Math.Bool.{true, false}
use borrow.Author.Tests.{ltb-true, ltb-false, lt-ltb, le-ltb}
use Rattle.std.proofs.Math.Dec.{ltb}
use Rattle.formula.specs.declared.Refusal.TheVariants.{Memory, Altered, NotAble}
use Rattle.formula.specs.Refusals.{number_of}
use Rattle.value_sets.specs.Sets.{set_ok}
use Rattle.machine_layout.specs.Layout.{operators_of, stored_kinds}
use Rattle.machine_runs.specs.Run.{Ran}
use Rattle.machine_calls.specs.Calls.{Outcome, outcome, handed, answers, refusal}
use Rattle.machine_planes.specs.Planes.{most_tags, tagged_need}
use Rattle.machine_tags.specs.TagRun.{able_under, fired_under, tag_runs, tag_still}
use Rattle.machine_tags.specs.TagCalls.{tag_standing, lowest_free, tag_pushed_memory, tag_pushed, tag_fired, tag_ended, tag_ran, whole_result, tag_taken}
use Rattle.demand_tags.specs.Tested.{PushCase, no-set, none_free, went-in, FireCase, not-able, able, TakeCase, no_room, not-whole, whole, ended}

-- ---- 11: a memory that is too short
module _ (m : List ℕ) (short : length m < tagged_need) where
  short-standing : tag_standing m ≡ number_of Memory
  unfolding tag_standing
  short-standing = rw (lt-ltb (length m) tagged_need short) refl

  pub push-short : (s : List ℕ) → tag_pushed m s ≡ outcome (refusal Memory) m
  unfolding tag_pushed
  push-short s = rw short-standing refl

  pub fire-short : (i t : ℕ) → tag_fired m i t ≡ outcome (refusal Memory) m
  unfolding tag_fired
  fire-short i t = rw short-standing refl

  pub run_short : (firings : ℕ) → tag_ran m firings ≡ outcome (refusal Memory) m
  unfolding tag_ran
  run_short firings = rw short-standing refl

  pub take_short : (t : ℕ) (o : List ℕ) → tag_taken m t o ≡ handed (refusal Memory) m o
  unfolding tag_taken
  take_short t o = go (ltb (length o) 80) refl
    where
      go : (b : Bool) → ltb (length o) 80 ≡ b → tag_taken m t o ≡ handed (refusal Memory) m o
      go true e = rw e refl
      go false e = rw (e, short-standing) refl

module _ (m : List ℕ) (st : tag_standing m ≡ 0) where
  pub push_case : (s : List ℕ) → PushCase m s
  unfolding tag_pushed
  push_case s = go (set_ok (stored_kinds m) s) refl (ltb (lowest_free m) most_tags) refl
    where
      go : (a : Bool) → set_ok (stored_kinds m) s ≡ a → (b : Bool) → ltb (lowest_free m) most_tags ≡ b → PushCase m s
      go false p b q = no-set (rw (st, p) refl)
      go true p false q = none_free (ltb-false (lowest_free m) most_tags q) (rw (st, p, q) refl)
      go true p true q = went-in p (ltb-true (lowest_free m) most_tags q) (rw (st, p, q) refl)

  pub fire-case : (i t : ℕ) → FireCase m i t
  unfolding tag_fired
  fire-case i t = go (ltb i (operators_of m)) refl (ltb t most_tags) refl (able_under m i t) refl
    where
      go : (a : Bool) → ltb i (operators_of m) ≡ a → (b : Bool) → ltb t most_tags ≡ b → (c : Bool) → able_under m i t ≡ c → FireCase m i t
      go false p b q c r = not-able (rw (st, p) refl)
      go true p false q c r = not-able (rw (st, p, q) refl)
      go true p true q false r = not-able (rw (st, p, q, r) refl)
      go true p true q true r = able (ltb-true i (operators_of m) p) (ltb-true t most_tags q) r (rw (st, p, q, r) refl)

  pub take-case : (t : ℕ) (o : List ℕ) → TakeCase m t o
  unfolding tag_taken
  take-case t o = go (ltb (length o) 80) refl (ltb t most_tags) refl (whole_result m t) refl
    where
      go : (a : Bool) → ltb (length o) 80 ≡ a → (b : Bool) → ltb t most_tags ≡ b → (c : Bool) → whole_result m t ≡ c → TakeCase m t o
      go true p b q c r = no_room (rw p refl)
      go false p false q c r = not-whole (rw (p, st, q) refl)
      go false p true q false r = not-whole (rw (p, st, q, r) refl)
      go false p true q true r = whole (ltb-false (length o) 80 p) (ltb-true t most_tags q) r (rw (p, st, q, r) refl)

  -- where the set, a free tag, the operator, the tag and the room are there
  pub push-made : (s : List ℕ) → set_ok (stored_kinds m) s ≡ true → lowest_free m < most_tags
      → tag_pushed m s ≡ outcome (answers 0 (lowest_free m)) (tag_pushed_memory m s (lowest_free m))
  unfolding tag_pushed
  push-made s p q = rw (st, p, lt-ltb (lowest_free m) most_tags q) refl

  pub fire-made : (i t : ℕ) → i < operators_of m → t < most_tags → able_under m i t ≡ true → tag_fired m i t ≡ outcome (answers 0 0) (fired_under m i t)
  unfolding tag_fired
  fire-made i t p q r = rw (st, lt-ltb i (operators_of m) p, lt-ltb t most_tags q, r) refl

  -- 34 of an operator that is there, under a tag, says that it is not able.
  pub fire-idle : (i t : ℕ) → i < operators_of m → t < most_tags → (tag_fired m i t).answer.refusal ≡ number_of NotAble → able_under m i t ≡ false
  fire-idle i t p q z = go (able_under m i t) refl
    where
      go : (a : Bool) → able_under m i t ≡ a → a ≡ false
      go false e = refl
      go true e = absurd (omega (arith, ap (λ (o : Outcome). o.answer.refusal) (fire-made i t p q e), z))

  pub take-made : (t : ℕ) (o : List ℕ) → 80 ≤ length o → t < most_tags → whole_result m t ≡ true → (tag_taken m t o).answer.refusal ≡ 0
  unfolding tag_taken
  take-made t o p q r = rw (le-ltb (length o) 80 p, st, lt-ltb t most_tags q, r) refl

  -- Every run makes its firings: 0, or 36 where something can still fire.
  pub run-made : (firings : ℕ) → ((tag_ran m firings).mem ≡ (tag_runs (operators_of m) firings m 0).mem)
      × ((tag_ran m firings).answer.count ≡ (tag_runs (operators_of m) firings m 0).count) × ((tag_ran m firings).answer.refusal ≢ number_of Altered)
  unfolding tag_ran tag_ended
  run-made firings = rw st (go (tag_still (tag_runs (operators_of m) firings m 0).mem (operators_of m)) (tag_runs (operators_of m) firings m 0))
    where
      go : (b : Bool) (r : Ran) → ((ended b r).mem ≡ r.mem) × ((ended b r).answer.count ≡ r.count) × ((ended b r).answer.refusal ≢ number_of Altered)
      go true r = (refl, refl, omega arith)
      go false r = (refl, refl, omega arith)
