-- Which tags have a whole result (document 02, Job 12): OutOfOrder's `whole-exactly`, and that a take is accepted wherever the tag's own machine would hand out a result. Assumes
-- what a start leaves (Begins).
use Rattle.std.specs.Prelude.{ℕ, ◌+◌, ◌≤◌, ◌<◌, ◌≡◌, refl, ◌↔◌, Bool, true, false, List, eqb, length, take as first_of, replicate}
use Rattle.std.proofs.Common.{sym, ◌∙◌, arith}
use Rattle.std.proofs.Math.Path.{ap}
use borrow.Author.Tests.{eqb-true, eq-eqb}
use Rattle.std.proofs.lemmas.List.{length-replicate}
use Rattle.machine_layout.specs.Layout.{results_of, least_size}
use Rattle.machine_valid.specs.Below.{and_left, and_right, and_both, below_at, below_all}
use Rattle.machine_calls.specs.Calls.{Handed, taken, result_ready_from}
use Rattle.machine_planes.specs.Planes.{most_tags, plane_at, untaken_under, tagged_need, plane_of}
use Rattle.machine_tags.specs.TagCalls.{tag_standing, whole_result, tag_taken}
use Rattle.machine_tags.proofs.PlaneTake.{plane-taken, plane-not-taken}
use Rattle.demand_tags.specs.TagLists.{Call, take, answer_of, memory_after_all, sets_under, results_under}
use Rattle.demand_tags.proofs.LentPlanes.{plane-lent}
use Rattle.demand_tags.specs.Benched.{Benched}
use Rattle.demand_tags.proofs.Benched.{bench-stands, bench-lent}
use Rattle.demand_tags.proofs.Tested.{take-made, take-case}
use Rattle.demand_tags.specs.Tested.{TakeCase, no_room, not-whole, whole}
use Rattle.demand_tags.specs.Begins.{Begins}
use Rattle.demand_tags.proofs.UnderTags.{benched, untaken-under}

module _ (sheet line start : List ℕ) (b : Begins sheet line start) (calls : List Call) (t : ℕ) (tag : t < most_tags) where
  abbrev now : List ℕ
  now = memory_after_all calls start

  B : Benched sheet line now
  B = benched sheet line start b calls

  st : tag_standing now ≡ 0
  st = bench-stands sheet line b.admissible now B

  -- ---- as lent
  good : (lent : ℕ) → tagged_need ≤ lent → tag_standing (first_of lent now) ≡ 0
  good lent enough = bench-stands sheet line b.admissible (first_of lent now) (bench-lent sheet line b.admissible now B lent enough)

  -- A whole result in one of two memories of which the tag's machine is the same is one in the other.
  whole_same : (m n : List ℕ) → tag_standing m ≡ 0 → tag_standing n ≡ 0 → plane_of m t ≡ plane_of n t → whole_result m t ≡ true → whole_result n t ≡ true
  whole_same m n sm sn e w = go (whole_result n t) refl
    where
      out : List ℕ
      out = replicate 80 0

      room : 80 ≤ length out
      room = omega (arith, length-replicate {A = ℕ} 80 0)

      go : (a : Bool) → whole_result n t ≡ a → a ≡ true
      go true f = refl
      go false f =
          let accepted = ap (λ (h : Handed). h.answer.refusal) (plane-taken m sm t tag out room w) in
          let refused = plane-not-taken n sn t tag out room f in
          let same : (taken (plane_of m t) out).answer.refusal ≡ (taken (plane_of n t) out).answer.refusal = ap (λ (x : List ℕ). (taken x out).answer.refusal) e in
          absurd (omega (arith, accepted, refused, same))

  -- ---- what a take asks
  abbrev Whole : Type 0
  Whole = (length (sets_under t calls start) ≡ length (results_under t calls start) + 1) × ((j : ℕ) → j < results_of now → result_ready_from now (plane_at t) least_size j ≡ true)

  whole_says : whole_result now t ≡ true → Whole
  unfolding whole_result
  whole_says w =
      let byte = eqb-true (untaken_under now t) 1 (and_left (eqb (untaken_under now t) 1) _ w) in (
        omega (arith, untaken-under sheet line start b calls t tag),
        below_at (results_of now) _ (and_right (eqb (untaken_under now t) 1) _ w),
      )

  says-whole : Whole → whole_result now t ≡ true
  unfolding whole_result
  says-whole w =
      and_both (eq-eqb (untaken_under now t) 1 (omega (arith, untaken-under sheet line start b calls t tag, w.0))) (below_all (results_of now) _ w.1)

  -- ---- a take
  module _ (lent : ℕ) (out : List ℕ) (enough : tagged_need ≤ lent) (room : 80 ≤ length out) where
    taken-whole : (answer_of (take lent t out) now).refusal ≡ 0 → whole_result now t ≡ true
    unfolding answer_of
    taken-whole z = go (take-case (first_of lent now) (good lent enough) t out)
      where
        answered : (h : Handed) → tag_taken (first_of lent now) t out ≡ h → h.answer.refusal ≡ 0
        answered h e = ap (λ (x : Handed). x.answer.refusal) (sym e) ∙ z

        go : TakeCase (first_of lent now) t out → whole_result now t ≡ true
        go (no_room e) = absurd (omega (arith, answered _ e))
        go (not-whole e) = absurd (omega (arith, answered _ e))
        go (whole p q r e) = whole_same (first_of lent now) now (good lent enough) st (plane-lent now B.long lent enough t tag) r

    whole-taken : whole_result now t ≡ true → (answer_of (take lent t out) now).refusal ≡ 0
    unfolding answer_of
    whole-taken w =
        take-made (first_of lent now) (good lent enough) t out room tag
        (whole_same now (first_of lent now) st (good lent enough) (sym (plane-lent now B.long lent enough t tag)) w)

    pub whole-exactly : ((answer_of (take lent t out) now).refusal ≡ 0) ↔ Whole
    whole-exactly = (λ z. whole_says (taken-whole z), λ w. whole-taken (says-whole w))

    -- Where the tag's machine would hand out a result, so does the machine with tags.
    pub handed : ((o : List ℕ) → 80 ≤ length o → (taken (plane_of now t) o).answer.refusal ≡ 0) → (answer_of (take lent t out) now).refusal ≡ 0
    handed f = whole-taken (go (whole_result now t) refl)
      where
        go : (a : Bool) → whole_result now t ≡ a → a ≡ true
        go true e = refl
        go false e = absurd (omega (arith, plane-not-taken now st t tag out room e, f out room))
