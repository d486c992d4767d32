-- The run of the machine with tags by what it left, as TagCallLaws.antt has the other calls. Assumes nothing.
use Rattle.std.specs.Prelude.{ℕ, ◌<◌, ◌≡◌, ◌≢◌, true, false, List}
use Rattle.std.proofs.Math.Path.{refl}
use Rattle.std.proofs.Common.{◌∙◌, arith, ne_eqb}
use Rattle.formula.specs.declared.Refusal.TheVariants.{Unfinished}
use Rattle.formula.specs.Refusals.{number_of}
use Rattle.machine_layout.specs.Layout.{operators_of}
use Rattle.machine_runs.specs.Run.{ran}
use Rattle.machine_calls.specs.Calls.{outcome, answers}
use Rattle.machine_tags.specs.TagRun.{tag_runs, tag_still}
use Rattle.machine_tags.specs.TagCalls.{tag_standing, tag_ended, tag_ran}
use Rattle.machine_tag_runs.specs.TagRunLaws.{tag-runs-below}

module _ (m : List ℕ) (b : ℕ) where
  pub tag-ran-refused : tag_standing m ≢ 0 → tag_ran m b ≡ outcome (answers (tag_standing m) 0) m
  unfolding tag_ran
  tag-ran-refused n = simp (ne_eqb (tag_standing m) 0 n)

  module _ (st : tag_standing m ≡ 0) where
    tag-ran-ended : tag_ran m b ≡ tag_ended (tag_runs (operators_of m) b m 0) (operators_of m)
    unfolding tag_ran
    tag-ran-ended = rw st refl

    module _ (c : ℕ) (m' : List ℕ) (e : ran m' c ≡ tag_runs (operators_of m) b m 0) where
      pub tag-ran-still : tag_still m' (operators_of m) ≡ true → tag_ran m b ≡ outcome (answers 0 c) m'
      unfolding tag_ended
      tag-ran-still t = tag-ran-ended ∙ rw (← e, t) refl

      pub tag-ran-unfinished : tag_still m' (operators_of m) ≡ false → tag_ran m b ≡ outcome (answers (number_of Unfinished) c) m'
      unfolding tag_ended
      tag-ran-unfinished t = tag-ran-ended ∙ rw (← e, t) refl

      -- fewer firings than lent: nothing can fire
      pub tag-ran-early : c < b → tag_ran m b ≡ outcome (answers 0 c) m'
      tag-ran-early h = tag-ran-still (rw (← e) at (tag-runs-below (operators_of m) b m 0 (rw (← e) (omega arith))))
