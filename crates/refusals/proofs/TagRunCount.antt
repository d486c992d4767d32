-- Laws of specs/TagRunCount.antt, and what only they need.
use Rattle.std.specs.Prelude.{ℕ, zero, suc, ◌+◌, ◌-◌, ◌*◌, ◌≤◌, ◌<◌, ◌≡◌, Bool, List, ltb}
use Rattle.std.proofs.Math.Path.{refl}
use Rattle.std.proofs.Common.{sym, ap, ◌∙◌, arith, ltb-true}
use Rattle.std.proofs.Math.Bool.{true, false}
use Rattle.std.proofs.lemmas.Bool.{false≢true}
use Rattle.std.proofs.Math.Decide.{ℕ_discrete}
use Rattle.value.specs.Operators.{pick}
use Rattle.machine_layout.specs.Layout.{operators_of}
use Rattle.machine_runs.specs.Run.{Ran, ran}
use Rattle.machine_planes.specs.Planes.{most_tags}
use Rattle.machine_tags.specs.Least.{NoneBelow}
use Rattle.machine_tags.specs.TagRun.{able_under, fired_under, lowest_tag, least_operator, tag_runs, tag_still}
use Rattle.machine_tags.proofs.RunSteps.{lowest-tag-says, lowest-operator-says, tagged-able, tagged-idle, tag-still-says}
use Rattle.machine_tag_runs.specs.TagRunLaws.{QuietBelow, runs-step, runs-end, runs-zero}
use Rattle.machine_tags.specs.TagCalls.{tag_standing, tag_ended, tag_ran}
use Rattle.refusals.specs.TagRunCount.{NoneFires, TagFirings, TagCounted, TagRunCounts}

below-least : (m : List ℕ) (n : ℕ) → NoneFires m (least_operator m n)
below-least m n j u h k = tagged-idle m j ((lowest-operator-says m n).none j h) u k

tag-counted : (n b : ℕ) (m : List ℕ) (c : ℕ) → TagCounted n b m (tag_runs n b m c) c
unfolding tag_runs tag_still
tag-counted n zero m c = record { made = 0; counts = omega arith; lent = omega arith; between = refl; below = λ h. absurd (omega arith) }
tag-counted n (suc b) m c =
    go (ltb (least_operator m n) n) refl (tag-counted n b (fired_under m (least_operator m n) (lowest_tag m (least_operator m n))) (c + 1))
  where
    after : List ℕ
    after = fired_under m (least_operator m n) (lowest_tag m (least_operator m n))

    go : (t : Bool) → ltb (least_operator m n) n ≡ t → TagCounted n b after (tag_runs n b after (c + 1)) (c + 1)
        → TagCounted n (suc b) m (pick t (tag_runs n b after (c + 1)) (ran m c)) c
    go true e I =
        let i = least_operator m n in
        let l = ltb-true (least_operator m n) n e in
        let p = tagged-able m i ((lowest-operator-says m n).passes l) in
        record {
          made = suc I.made;
          counts = omega (arith, I.counts);
          lent = omega (arith, I.lent);
          between = (i, lowest_tag m i, l, p.0, p.1, below-least m n, (lowest-tag-says m i).none, I.between);
          below = λ h. I.below (omega arith);
        }
    go false e I = record { made = 0; counts = omega arith; lent = omega arith; between = refl; below = λ h. rw e refl }

-- no other count and no other memory: the pairs of an operator and a tag stand in the order in which a run picks them
quiet-pairs : (m : List ℕ) (i t : ℕ) → NoneFires m i → NoneBelow (able_under m i) t → t < most_tags → QuietBelow m (16 * i + t)
quiet-pairs m i t before lower tag j u few h = go (ℕ_discrete j i)
  where
    go : Dec (j ≡ i) → able_under m j u ≡ false
    go (yes p) = rw p (lower u (omega arith))
    go (no q) = before j u (omega arith) few

quiet-operators : (m : List ℕ) (n : ℕ) → tag_still m n ≡ true → QuietBelow m (16 * n)
quiet-operators m n still j u few h = tag-still-says m n still j u (omega arith) few

tag-only : (n b k : ℕ) (m m' : List ℕ) (c : ℕ) → k ≤ b → TagFirings n k m m' → (k < b → tag_still m' n ≡ true) → tag_runs n b m c ≡ ran m' (c + k)
tag-only n b zero m m' c l f s = go (ℕ_discrete b 0)
  where
    z : c + 0 ≡ c
    z = omega arith

    go : Dec (b ≡ 0) → tag_runs n b m c ≡ ran m' (c + 0)
    go (yes p) = rw (p, f, z) (runs-zero n m c)
    go (no q) = rw (f, z) (runs-end n b m c (quiet-operators m n (rw f at (s (omega arith)))))
tag-only n b (suc k) m m' c l (i, t, few, tag, able, before, lower, more) s =
    let z : c + suc k ≡ c + 1 + k = omega arith in
    runs-step n b m c i t (omega arith) few tag (quiet-pairs m i t before lower tag) able
    ∙ tag-only n (b - 1) k (fired_under m i t) m' (c + 1) (omega arith) more (λ h. s (omega arith))
    ∙ ap (ran m') (sym z)

module _ (m : List ℕ) (firings : ℕ) (st : tag_standing m ≡ 0) where
  abbrev R : Ran
  R = tag_runs (operators_of m) firings m 0

  pub tag-run-is : (b : Bool) → tag_still R.mem (operators_of m) ≡ b
      → ((tag_ran m firings).answer.count ≡ R.count) × ((tag_ran m firings).mem ≡ R.mem) × ((tag_ran m firings).answer.refusal ≡ pick b 0 36)
  unfolding tag_ran tag_ended
  tag-run-is true e = rw (st, e) (refl, refl, refl)
  tag-run-is false e = rw (st, e) (refl, refl, refl)

  pub tag-run-counts : TagRunCounts m firings
  tag-run-counts = go (tag_still R.mem (operators_of m)) refl (ℕ_discrete R.count firings)
    where
      C : TagCounted (operators_of m) firings m R 0
      C = tag-counted (operators_of m) firings m 0

      go : (b : Bool) → tag_still R.mem (operators_of m) ≡ b → Dec (R.count ≡ firings) → TagRunCounts m firings
      go b e d =
          let i = tag-run-is b e in
          let z : (tag_ran m firings).answer.count ≡ C.made = omega (arith, i.0, C.counts) in
          let s : tag_still (tag_ran m firings).mem (operators_of m) ≡ b = ap (λ (x : List ℕ). tag_still x (operators_of m)) i.1 ∙ e in
          record {
            lent = omega (arith, z, C.lent);
            between = rw (z, i.1) C.between;
            below = λ h. ap (λ (x : List ℕ). tag_still x (operators_of m)) i.1 ∙ C.below (omega (arith, z));
            unfinished = λ h. full b e s (sym i.2 ∙ h) d i.0;
            accepted = λ h. done b s (sym i.2 ∙ h);
          }
        where
          full : (b : Bool) → tag_still R.mem (operators_of m) ≡ b → tag_still (tag_ran m firings).mem (operators_of m) ≡ b
              → ◌≡◌ {A = ℕ} (pick b 0 36) 36 → Dec (R.count ≡ firings) → (tag_ran m firings).answer.count ≡ R.count
              → ((tag_ran m firings).answer.count ≡ firings) × (tag_still (tag_ran m firings).mem (operators_of m) ≡ false)
          full true e s h d c = absurd (omega arith)
          full false e s h (yes p) c = (c ∙ p, s)
          full false e s h (no q) c = absurd (false≢true (sym e ∙ C.below (omega (arith, C.counts, C.lent))))

          done : (b : Bool) → tag_still (tag_ran m firings).mem (operators_of m) ≡ b → ◌≡◌ {A = ℕ} (pick b 0 36) 0
              → tag_still (tag_ran m firings).mem (operators_of m) ≡ true
          done true s h = s
          done false s h = absurd (omega arith)

  -- No other count and no other memory is a run's: k firings up to the lent number, fewer only where nothing can fire.
  pub tag-run-only : (k : ℕ) (m' : List ℕ) → k ≤ firings → TagFirings (operators_of m) k m m'
      → (k < firings → tag_still m' (operators_of m) ≡ true) → ((tag_ran m firings).answer.count ≡ k) × ((tag_ran m firings).mem ≡ m')
  tag-run-only k m' l f s =
      let o = tag-only (operators_of m) firings k m m' 0 l f s in
      let i = tag-run-is (tag_still R.mem (operators_of m)) refl in
      let z : 0 + k ≡ k = omega arith in
      (i.0 ∙ ap (λ (r : Ran). r.count) o ∙ z, i.1 ∙ ap (λ (r : Ran). r.mem) o)
