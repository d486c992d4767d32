-- Which tags are free (document 02, Job 12): OutOfOrder's `lowest`, `none_free` and `free-exactly`. Assumes what a start leaves (Begins).
use Rattle.std.specs.Prelude.{ℕ, ◌≤◌, ◌<◌, ◌≡◌, ◌↔◌, ◌≢◌, true, false, List, eqb, length, take as first_of}
use Rattle.std.proofs.Common.{sym, ◌∙◌, arith, length-take}
use Rattle.std.proofs.Math.Path.{ap}
use Rattle.std.proofs.lemmas.Bool.{false≢true}
use Rattle.std.proofs.Math.Decide.{dec_lt}
use borrow.Author.Tests.{eqb-true, eq-eqb}
use Rattle.formula.specs.declared.Refusal.TheVariants.{Set, NoTag}
use Rattle.formula.specs.Refusals.{number_of}
use Rattle.formula.specs.Acceptance.{Admissible}
use Rattle.machine_queue.specs.Stretch.{waiting}
use Rattle.machine_layout.specs.Layout.{links_of, least_size}
use Rattle.machine_firing.specs.LinkLaws.{link_part_from}
use Rattle.machine_valid.specs.Below.{and_left, and_right, and_both, below_at, below_all}
use Rattle.machine_calls.specs.declared.Answer.{Answer}
use Rattle.machine_calls.specs.Calls.{Outcome}
use Rattle.machine_planes.specs.Planes.{most_tags, plane_at, untaken_under, tagged_need}
use Rattle.machine_tags.specs.Least.{Least}
use Rattle.machine_tags.proofs.Least.{least-says}
use Rattle.machine_tags.specs.TagCalls.{empty_link, free_tag, lowest_free, tag_pushed}
use Rattle.demand_tags.specs.TagLists.{Call, push, answer_of, memory_after_all, sets_under, results_under}
use Rattle.demand_tags.proofs.LentPlanes.{plane-lent, free-rests}
use Rattle.demand_tags.specs.LentPlanes.{restful}
use Rattle.demand_tags.specs.Benched.{Benched}
use Rattle.demand_tags.proofs.Benched.{few-links, bench-stands, bench-lent}
use Rattle.demand_tags.proofs.Tested.{push-short, push_case}
use Rattle.demand_tags.specs.Tested.{PushCase, no-set, none_free, went-in}
use Rattle.demand_tags.specs.Begins.{Begins}
use Rattle.demand_tags.proofs.UnderTags.{untaken-under}

lowest-says : (m : List ℕ) → Least (free_tag m) most_tags (lowest_free m)
unfolding lowest_free
lowest-says m = least-says (free_tag m) most_tags

-- ---- a push
module _ (sheet line : List ℕ) (ok : Admissible sheet) (m : List ℕ) (B : Benched sheet line m) (lent : ℕ) where
  abbrev lentPart : List ℕ
  lentPart = first_of lent m

  -- What is free in what is lent is free in the whole.
  free-lent : tagged_need ≤ lent → (t : ℕ) → t < most_tags → free_tag lentPart t ≡ free_tag m t
  free-lent l t h =
      let L = bench-lent sheet line ok m B lent l in
      free-rests lentPart L.long (few-links sheet line ok lentPart L) t h
      ∙ ap restful (plane-lent m B.long lent l t h)
      ∙ sym (free-rests m B.long (few-links sheet line ok m B) t h)

  abbrev Lowest : ℕ → Type 0
  Lowest t = (t < most_tags) × (free_tag m t ≡ true) × ((u : ℕ) → u < t → free_tag m u ≡ false)

  module _ (set : List ℕ) where
    answered : (o : Outcome) → tag_pushed lentPart set ≡ o → answer_of (push lent set) m ≡ o.answer
    unfolding answer_of
    answered o e = ap (λ (x : Outcome). x.answer) e

    pub lowest-free : (answer_of (push lent set) m).refusal ≡ 0 → Lowest (answer_of (push lent set) m).count
    lowest-free z = go (dec_lt lent tagged_need)
      where
        tested : tagged_need ≤ lent → PushCase lentPart set → Lowest (answer_of (push lent set) m).count
        tested l (no-set e) = absurd (omega (arith, ap (λ (a : Answer). a.refusal) (answered _ e), z))
        tested l (none_free p e) = absurd (omega (arith, ap (λ (a : Answer). a.refusal) (answered _ e), z))
        tested l (went-in p below e) =
            let s = lowest-says lentPart in
            rw (answered _ e) (
              below,
              sym (free-lent l (lowest_free lentPart) below) ∙ s.passes below,
              λ u under. sym (free-lent l u (omega arith)) ∙ s.none u under,
            )

        go : Dec (lent < tagged_need) → Lowest (answer_of (push lent set) m).count
        go (yes l) = absurd (omega (arith, ap (λ (a : Answer). a.refusal) (answered _ (push-short lentPart (omega (arith, length-take lent m)) set)), z))
        go (no l) = tested (omega arith) (push_case lentPart (bench-stands sheet line ok lentPart (bench-lent sheet line ok m B lent (omega arith))) set)

    pub none-is-free : tagged_need ≤ lent → (answer_of (push lent set) m).refusal ≢ number_of Set
        → ((answer_of (push lent set) m).refusal ≡ number_of NoTag) ↔ ((t : ℕ) → t < most_tags → free_tag m t ≡ false)
    none-is-free l fits = go (push_case lentPart (bench-stands sheet line ok lentPart (bench-lent sheet line ok m B lent l)) set)
      where
        says : (o : Outcome) → tag_pushed lentPart set ≡ o → (answer_of (push lent set) m).refusal ≡ o.answer.refusal
        says o e = ap (λ (a : Answer). a.refusal) (answered o e)

        go : PushCase lentPart set → ((answer_of (push lent set) m).refusal ≡ number_of NoTag) ↔ ((t : ℕ) → t < most_tags → free_tag m t ≡ false)
        go (no-set e) = absurd (fits (says _ e))
        go (none_free p e) = (λ z t h. sym (free-lent l t h) ∙ (lowest-says lentPart).none t (omega arith), λ none. says _ e)
        go (went-in p below e) = (
          λ z. absurd (omega (arith, says _ e, z)),
          λ none. absurd (false≢true (sym (none (lowest_free lentPart) below) ∙ sym (free-lent l (lowest_free lentPart) below) ∙ (lowest-says lentPart).passes below)),
        )

-- ---- behind a list of calls
module _ (sheet line start : List ℕ) (b : Begins sheet line start) (calls : List Call) (t : ℕ) (h : t < most_tags) where
  abbrev now : List ℕ
  now = memory_after_all calls start

  -- Its result is taken and no token with it is left on any link.
  abbrev Left : Type 0
  Left = (length (results_under t calls start) ≡ length (sets_under t calls start))
      × ((l : ℕ) → l < links_of now → waiting (link_part_from now (plane_at t) least_size l) ≡ 0)

  free-left : free_tag now t ≡ true → Left
  unfolding free_tag empty_link
  free-left e =
      let byte = eqb-true (untaken_under now t) 0 (and_left (eqb (untaken_under now t) 0) _ e) in
      let bare = and_right (eqb (untaken_under now t) 0) _ e in (
        omega (arith, untaken-under sheet line start b calls t h),
        λ l k. eqb-true (waiting (link_part_from now (plane_at t) least_size l)) 0 (below_at (links_of now) _ bare l k),
      )

  pub left-free : Left → free_tag now t ≡ true
  unfolding free_tag empty_link
  left-free e =
      and_both (eq-eqb (untaken_under now t) 0 (omega (arith, untaken-under sheet line start b calls t h, e.0)))
      (below_all (links_of now) _ (λ l k. eq-eqb (waiting (link_part_from now (plane_at t) least_size l)) 0 (e.1 l k)))

  pub free-exactly : (free_tag now t ≡ true) ↔ Left
  free-exactly = (free-left, left-free)
