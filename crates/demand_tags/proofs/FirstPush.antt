-- At the start every tag is free, and the first set that is pushed and can be read gets tag 0. Assumes what a start leaves (Begins).
use Rattle.std.specs.Prelude.{ℕ, ◌<◌, ◌≡◌, true, length}
use Rattle.std.proofs.Math.Path.{refl, ap}
use Rattle.std.proofs.Common.{sym, ◌∙◌, arith}
use mathlib.Core.List.{List, [], ◌∷◌}
use Rattle.std.proofs.Math.Seq.{take-length}
use Rattle.value_sets.specs.Sets.{set_ok}
use Rattle.formula.specs.Tree.{formula_of}
use Rattle.formula.specs.Faults.{letters_of}
use Rattle.machine_queue.specs.Stretch.{waiting}
use Rattle.machine_layout.specs.Layout.{links_of, inputs_of, least_size, stored_kinds}
use Rattle.machine_firing.specs.LinkLaws.{link_part}
use Rattle.machine_calls.specs.Calls.{Outcome, answers}
use Rattle.machine_planes.specs.Planes.{most_tags, plane_of}
use Rattle.machine_planes.proofs.PlaneBytes.{plane-link-count, plane-link, plane-inputs, plane-kinds}
use Rattle.machine_tags.proofs.Least.{least_at}
use Rattle.machine_tags.specs.TagCalls.{free_tag, lowest_free, tag_pushed}
use Rattle.demand_begin.proofs.MadeSound.{made-sound}
use Rattle.demand.specs.MemoryCalls.{accepted}
use Rattle.demand_tags.specs.TagLists.{push, answer_of, memory_after_all, set_under, sets_under, results_under}
use Rattle.demand_tags.proofs.Benched.{few-links, bench-stands}
use Rattle.demand_tags.proofs.Tested.{push-made}
use Rattle.demand_tags.proofs.StartedBytes.{started-empty}
use Rattle.demand_tags.specs.Begins.{Begins}
use Rattle.demand_tags.proofs.Begins.{plane-begins, bench-begins}
use Rattle.demand_tags.proofs.FreeTags.{left-free}

module _ (sheet line start : List ℕ) (b : Begins sheet line start) where
  pub free-at-start : (t : ℕ) → t < most_tags → free_tag start t ≡ true
  unfolding memory_after_all sets_under results_under
  free-at-start t tag =
      let p = b.planes t tag in
      let H = plane-begins sheet line start b t tag in
      let few = few-links sheet line b.admissible start (bench-begins sheet line start b) in
      let n : links_of (plane_of start t) ≡ links_of start = plane-link-count start t b.long tag in
      left-free sheet line start b [] t tag (
        refl,
        λ l h.
            ap waiting (sym (plane-link start t b.long tag l (omega arith)))
            ∙ ap (λ (x : List ℕ). waiting (link_part x least_size l)) p.2
            ∙ started-empty sheet line p.0 p.1 l (omega (arith, H.links-are)),
      )

  first-tag : lowest_free start ≡ 0
  unfolding lowest_free
  first-tag = least_at (free_tag start) most_tags 0 (omega arith) (λ j h. absurd (omega arith)) (free-at-start 0 (omega arith))

  kinds-at-start : stored_kinds start ≡ letters_of (formula_of sheet) line
  kinds-at-start =
      let H = plane-begins sheet line start b 0 (omega arith) in
      let n : inputs_of (plane_of start 0) ≡ inputs_of start = plane-inputs start 0 b.long (omega arith) in
      sym (plane-kinds start 0 b.long (omega arith) (omega (arith, H.inputs_are, (made-sound sheet b.admissible).few-inputs))) ∙ H.kinds-are

  module _ (set : List ℕ) (reads : set_ok (letters_of (formula_of sheet) line) set ≡ true) where
    pub first-push : answer_of (push (length start) set) start ≡ answers 0 0
    unfolding answer_of
    first-push =
        ap (λ (m : List ℕ). (tag_pushed m set).answer) (take-length start)
        ∙ ap (λ (o : Outcome). o.answer)
        (push-made start (bench-stands sheet line b.admissible start (bench-begins sheet line start b)) set (ap (λ (k : List ℕ). set_ok k set) kinds-at-start ∙ reads) (omega (arith, first-tag)))
        ∙ ap (answers 0) first-tag

    pub first-set : sets_under 0 (push (length start) set ∷ []) start ≡ set ∷ []
    unfolding sets_under set_under accepted
    first-set = rw first-push refl
