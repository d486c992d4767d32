-- A take under a tag (TagCalls' tag_taken_memory) is the first machine's on the tag's machine: accepted where the tag has its whole result, else refused with 35; and it leaves every
-- other tag's machine. Assumes a memory in good standing, a tag, and room for the result set.
use Prim.Native.Nat.{ℕ, zero, suc, ◌+◌, ◌*◌, ◌≤◌, ◌<◌}
use Rattle.std.specs.Prelude.{◌≡◌, ◌≢◌, Bool, ◌&&◌, ltb, length, get_or}
use Rattle.std.proofs.Math.Path.{refl, sym, ap, ap₂}
use Rattle.std.proofs.Common.{◌∙◌}
use Rattle.std.proofs.Math.Bool.{true, false, not}
use mathlib.Core.List.{List}
use native.Mathlib.Omega.{arith}
use borrow.Author.Tests.{eqb-true, eqb-false}
use Rattle.std.proofs.Math.Dec.{eqb}
use Rattle.std.proofs.Math.ListN.{set, length-set}
use Rattle.std.proofs.Math.Seq.{get_or-set_same, get_or-set_other}
use Rattle.value.specs.Operators.{pick}
use Rattle.value.specs.Bytes.{word_of, stored}
use Rattle.network.specs.Values.{err-value}
use Rattle.formula.specs.declared.Refusal.TheVariants.{NoResult}
use Rattle.formula.specs.Refusals.{number_of}
use Rattle.machine_layout.specs.Layout.{untaken_at, links_at, least_size, most_results, results_of, untaken_of, result_link}
use Rattle.machine_firing.specs.Links.{head_from, removed_from}
use Rattle.machine_valid.specs.Below.{all_below, and_left, and_right}
use Rattle.machine_calls.specs.Calls.{Handed, handed, answers, refusal, size_in, result_ready_from, result_ready, result_word_from, result_word, written_from, written, emptied_from, emptied, taken_memory, taken}
use Rattle.machine_calls.specs.CallLaws.{emptied-keeps, taken_none, taken-empty, taken-accepted}
use Rattle.machine_planes.specs.Planes.{most_tags, tags_at, untaken_under, plane_at, tagged_need, plane_of}
use Rattle.machine_planes.proofs.PlaneBytes.{plane-untaken, plane-results, plane-result-link}
use Rattle.machine_planes.proofs.PlaneFirings.{plane-head, plane-removed, plane-tag}
use Rattle.machine_planes.proofs.PlaneOthers.{beside-removed, beside-tag, tag-removed}
use Rattle.machine_tags.specs.TagCalls.{tag_standing, whole_result, tag_taken_memory}
use Rattle.machine_tags.proofs.PlaneStanding.{below-same, tag-standing-good, tag-counts, tag-byte-small, plane-size, plane-stands}

-- ---- a take on links, whatever the memory holds
module _ (m : List ℕ) (t : ℕ) (long : tagged_need ≤ length m) (tag : t < most_tags) where
  plane-result-head : (j : ℕ) → j < most_results → head_from (plane_of m t) links_at least_size (result_link (plane_of m t) j) ≡ head_from m (plane_at t) least_size (result_link m j)
  plane-result-head j h = ap (head_from (plane_of m t) links_at least_size) (plane-result-link m t long tag j h) ∙ sym (plane-head m t long tag (result_link m j))

  plane-result-ready : (j : ℕ) → j < most_results → result_ready (plane_of m t) least_size j ≡ result_ready_from m (plane_at t) least_size j
  unfolding result_ready_from
  plane-result-ready j h = ap (λ (w : ℕ). not (eqb w 0)) (plane-result-head j h)

  plane-result-word : (k j : ℕ) → j < most_results → result_word (plane_of m t) least_size k j ≡ result_word_from m (plane_at t) least_size k j
  unfolding result_word_from
  plane-result-word k j h = ap (λ (w : ℕ). pick (ltb j k) w (word_of err-value)) (plane-result-head j h)

  pub plane-written : (k : ℕ) (o : List ℕ) (j : ℕ) → j ≤ most_results → written j (plane_of m t) least_size k o ≡ written_from j m (plane_at t) least_size k o
  unfolding written_from
  plane-written k o zero h = refl
  plane-written k o (suc j) h = ap₂ (λ (x : List ℕ) (w : ℕ). stored x (5 * j) w) (plane-written k o j (omega arith)) (plane-result-word k j (omega arith))

  emptied-long : (j : ℕ) → tagged_need ≤ length (emptied_from j m (plane_at t) least_size)
  emptied-long j = omega (arith, (emptied-keeps m (plane_at t) least_size (omega arith) (omega arith) j).size)

  pub plane-emptied : (j : ℕ) → j ≤ most_results → plane_of (emptied_from j m (plane_at t) least_size) t ≡ emptied j (plane_of m t) least_size
  unfolding emptied_from
  plane-emptied zero h = refl
  plane-emptied (suc j) h =
      plane-removed (emptied_from j m (plane_at t) least_size) t (emptied-long j) tag (result_link m j)
      ∙ ap₂ (λ (x : List ℕ) (l : ℕ). removed_from x links_at least_size l) (plane-emptied j (omega arith)) (sym (plane-result-link m t long tag j (omega arith)))

  tag-emptied : (j u : ℕ) → untaken_under (emptied_from j m (plane_at t) least_size) u ≡ untaken_under m u
  unfolding emptied_from
  tag-emptied zero u = refl
  tag-emptied (suc j) u = tag-removed (emptied_from j m (plane_at t) least_size) t (emptied-long j) tag (result_link m j) u ∙ tag-emptied j u

  pub taken-tag-length : length (tag_taken_memory m t) ≡ length m
  unfolding tag_taken_memory
  taken-tag-length = length-set (emptied_from (results_of m) m (plane_at t) least_size) (tags_at + t) _ ∙ (emptied-keeps m (plane_at t) least_size (omega arith) (omega arith) (results_of m)).size

  pub taken-tag-low : (at : ℕ) → at < links_at → get_or (tag_taken_memory m t) at 0 ≡ get_or m at 0
  unfolding tag_taken_memory
  taken-tag-low at h =
      get_or-set_other (emptied_from (results_of m) m (plane_at t) least_size) (tags_at + t) at _ 0 (omega arith)
      ∙ (emptied-keeps m (plane_at t) least_size (omega arith) (omega arith) (results_of m)).low at h

  pub taken-tag-byte : untaken_under (tag_taken_memory m t) t ≡ 0
  unfolding tag_taken_memory
  taken-tag-byte = get_or-set_same (emptied_from (results_of m) m (plane_at t) least_size) (tags_at + t) 0 0 (omega (arith, emptied-long (results_of m)))

  pub taken-tag-others : (u : ℕ) → u ≢ t → untaken_under (tag_taken_memory m t) u ≡ untaken_under m u
  unfolding tag_taken_memory
  taken-tag-others u other = get_or-set_other (emptied_from (results_of m) m (plane_at t) least_size) (tags_at + t) (tags_at + u) _ 0 (omega arith) ∙ tag-emptied (results_of m) u

  module _ (u : ℕ) (tag' : u < most_tags) (other : u ≢ t) where
    beside-emptied : (j : ℕ) → plane_of (emptied_from j m (plane_at t) least_size) u ≡ plane_of m u
    unfolding emptied_from
    beside-emptied zero = refl
    beside-emptied (suc j) = beside-removed t u tag tag' other (emptied_from j m (plane_at t) least_size) (emptied-long j) (result_link m j) ∙ beside-emptied j

    pub beside-taken-links : plane_of (tag_taken_memory m t) u ≡ plane_of m u
    unfolding tag_taken_memory
    beside-taken-links = beside-tag t u tag tag' other (emptied_from (results_of m) m (plane_at t) least_size) (emptied-long (results_of m)) _ ∙ beside-emptied (results_of m)

-- ---- the take
module _ (m : List ℕ) (st : tag_standing m ≡ 0) (t : ℕ) (tag : t < most_tags) where
  pub beside-taken : (u : ℕ) → u < most_tags → u ≢ t → plane_of (tag_taken_memory m t) u ≡ plane_of m u
  beside-taken = beside-taken-links m t (tag-standing-good m st).0 tag

  long : tagged_need ≤ length m
  long = (tag-standing-good m st).0

  plane-ready-all : all_below (results_of (plane_of m t)) (result_ready (plane_of m t) (size_in (plane_of m t))) ≡ all_below (results_of m) (result_ready_from m (plane_at t) least_size)
  plane-ready-all =
      let c = tag-counts m st in
      rw (plane-size m t long tag, plane-results m t long tag)
      (below-same (results_of m) (result_ready (plane_of m t) least_size) (result_ready_from m (plane_at t) least_size) (λ j h. plane-result-ready m t long tag j (omega arith)))

  module _ (o : List ℕ) (room : 80 ≤ length o) where
    pub plane-taken : whole_result m t ≡ true → taken (plane_of m t) o
        ≡ handed (answers 0 (results_of m)) (plane_of (tag_taken_memory m t) t) (written_from most_results m (plane_at t) least_size (results_of m) o)
    unfolding whole_result tag_taken_memory taken_memory
    plane-taken whole =
        let c = tag-counts m st in
        let size = plane-size m t long tag in
        let count = plane-results m t long tag in
        let one = plane-untaken m t long tag ∙ eqb-true (untaken_under m t) 1 (and_left (eqb (untaken_under m t) 1) _ whole) in
        taken-accepted (plane_of m t) (plane-stands m st t tag) o room (rw one refl) (plane-ready-all ∙ and_right (eqb (untaken_under m t) 1) _ whole)
        ∙ rw (size, count, one) refl
        ∙ ap₂ (λ (x y : List ℕ). handed (answers 0 (results_of m)) x y)
        (ap (λ (x : List ℕ). set x untaken_at 0) (sym (plane-emptied m t long tag (results_of m) c.results16))
        ∙ sym (plane-tag (emptied_from (results_of m) m (plane_at t) least_size) t (emptied-long m t long tag (results_of m)) tag 0))
        (plane-written m t long tag (results_of m) o most_results (omega arith))

    pub plane-not-handed : whole_result m t ≡ false → taken (plane_of m t) o ≡ handed (refusal NoResult) (plane_of m t) o
    unfolding whole_result
    plane-not-handed part = go (eqb (untaken_under m t) 1) refl part
      where
        go : (b : Bool) → eqb (untaken_under m t) 1 ≡ b → b && all_below (results_of m) (result_ready_from m (plane_at t) least_size) ≡ false → taken (plane_of m t) o ≡ handed (refusal NoResult) (plane_of m t) o
        go true p e =
            let one = plane-untaken m t long tag ∙ eqb-true (untaken_under m t) 1 p in
            taken-empty (plane_of m t) (plane-stands m st t tag) o room (rw one refl) (plane-ready-all ∙ e)
        go false p e =
            let w = tag-byte-small m st t tag in
            let n = eqb-false (untaken_under m t) 1 p in
            let none : untaken_of (plane_of m t) ≡ 0 = plane-untaken m t long tag ∙ omega arith in
            taken_none (plane_of m t) (plane-stands m st t tag) o room (rw none refl)

    pub plane-not-taken : whole_result m t ≡ false → (taken (plane_of m t) o).answer.refusal ≡ number_of NoResult
    plane-not-taken part = ap (λ (h : Handed). h.answer.refusal) (plane-not-handed part)
