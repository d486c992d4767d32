-- A push under a free tag (TagCalls' tag_pushed_memory) is the first machine's push on the tag's machine, where it is accepted, and leaves every other tag's machine.
-- Assumes a memory in good standing, a set as its kinds ask, and a free tag.
use Prim.Native.Nat.{ℕ, zero, suc, ◌+◌, ◌*◌, ◌≤◌, ◌<◌}
use Rattle.std.proofs.Math.Path.{◌≡◌, refl, sym, ap, ap₂}
use Rattle.std.proofs.Common.{◌∙◌}
use Rattle.std.specs.Prelude.{◌≢◌, Bool, ◌||◌, get_or}
use Rattle.std.proofs.Math.Bool.{true, false}
use mathlib.Core.List.{List}
use native.Mathlib.Omega.{arith}
use borrow.Author.Tests.{ltb-true, lt-ltb, le-leb, eqb-true}
use Rattle.std.proofs.Math.Dec.{ltb, eqb}
use Rattle.std.proofs.Math.ListN.{length, set, length-set}
use Rattle.std.proofs.Math.Seq.{get_or-set_same, get_or-set_other}
use Rattle.value.specs.Bytes.{word_of, word_at}
use Rattle.value_sets.specs.Sets.{set_ok}
use Rattle.network.specs.Values.{true-value}
use Rattle.machine_queue.specs.Stretch.{waiting, room_in}
use Rattle.machine_layout.specs.Layout.{untaken_at, trigger_at, input_links_at, links_at, least_size, need_from, no_link, most_inputs, most_links, link_from, links_of, inputs_of, trigger_of, input_link, name_at, stored_kinds, part}
use Rattle.machine_firing.specs.Parts.{part_length}
use Rattle.machine_firing.specs.Links.{room_from, room_at, appended_from}
use Rattle.machine_firing.specs.LinkLaws.{length-appended, low-appended}
use Rattle.machine_valid.specs.Below.{and_left, and_right, and_both, below_at, below_all}
use Rattle.machine_valid.specs.Valid.{input_ok}
use Rattle.machine_calls.specs.Calls.{outcome, answers, input_room, rooms_ok, entered_from, triggered_from, pushed_memory, pushed}
use Rattle.machine_calls.specs.CallLaws.{Kept, entered-keeps, pushed-accepted}
use Rattle.machine_planes.specs.Planes.{most_tags, tags_at, untaken_under, plane_at, tagged_need, plane_of}
use Rattle.machine_planes.proofs.PlaneBytes.{plane-untaken, plane-inputs, plane-trigger, plane-input-link, plane-kinds}
use Rattle.machine_planes.proofs.PlaneFirings.{plane-room, plane-appended, plane-tag}
use Rattle.machine_planes.proofs.PlaneOthers.{beside-appended, beside-tag, tag-appended}
use Rattle.machine_tags.specs.TagCalls.{tag_standing, empty_link, free_tag, tag_pushed_memory}
use Rattle.machine_tags.proofs.PlaneStanding.{tag-standing-good, tag-parts, tag-counts, plane-size, plane-stands}

-- ---- a push on links, whatever the memory holds
module _ (m : List ℕ) (t : ℕ) (long : tagged_need ≤ length m) (tag : t < most_tags) (s : List ℕ) where
  entered-long : (j : ℕ) → tagged_need ≤ length (entered_from j m (plane_at t) least_size s)
  entered-long j = omega (arith, (entered-keeps m (plane_at t) least_size (omega arith) (omega arith) s j).size)

  pub plane-entered : (j : ℕ) → j ≤ most_inputs → plane_of (entered_from j m (plane_at t) least_size s) t ≡ entered_from j (plane_of m t) links_at least_size s
  unfolding entered_from
  plane-entered zero h = refl
  plane-entered (suc j) h =
      plane-appended (entered_from j m (plane_at t) least_size s) t (entered-long j) tag (input_link m j) (word_at s (5 * j))
      ∙ ap₂ (λ (x : List ℕ) (l : ℕ). appended_from x links_at least_size l (word_at s (5 * j))) (plane-entered j (omega arith)) (sym (plane-input-link m t long tag j (omega arith)))

  pub plane-triggered : inputs_of m ≤ most_inputs → plane_of (triggered_from m (plane_at t) least_size s) t ≡ triggered_from (plane_of m t) links_at least_size s
  unfolding triggered_from
  plane-triggered h =
      plane-appended (entered_from (inputs_of m) m (plane_at t) least_size s) t (entered-long (inputs_of m)) tag (trigger_of m) (word_of true-value)
      ∙ ap (λ (x : List ℕ). appended_from x links_at least_size (trigger_of m) (word_of true-value)) (plane-entered (inputs_of m) h)
      ∙ rw (plane-inputs m t long tag, plane-trigger m t long tag) refl

  -- the length and every byte below the links
  pub triggered-keeps : Kept m (triggered_from m (plane_at t) least_size s)
  unfolding triggered_from
  triggered-keeps =
      let p = entered-keeps m (plane_at t) least_size (omega arith) (omega arith) s (inputs_of m) in
      let x = entered_from (inputs_of m) m (plane_at t) least_size s in
      let z : need_from (plane_at t) least_size ≤ length x = omega (arith, entered-long (inputs_of m)) in
      record {
        size = length-appended x (plane_at t) least_size z (trigger_of m) (word_of true-value) ∙ p.size;
        low = λ at h. low-appended x (plane_at t) least_size z (trigger_of m) (word_of true-value) at (omega arith) ∙ p.low at h;
      }

  tag-entered : (j u : ℕ) → untaken_under (entered_from j m (plane_at t) least_size s) u ≡ untaken_under m u
  unfolding entered_from
  tag-entered zero u = refl
  tag-entered (suc j) u = tag-appended (entered_from j m (plane_at t) least_size s) t (entered-long j) tag (input_link m j) (word_at s (5 * j)) u ∙ tag-entered j u

  tag-triggered : (u : ℕ) → untaken_under (triggered_from m (plane_at t) least_size s) u ≡ untaken_under m u
  unfolding triggered_from
  tag-triggered u =
      tag-appended (entered_from (inputs_of m) m (plane_at t) least_size s) t (entered-long (inputs_of m)) tag (trigger_of m) (word_of true-value) u ∙ tag-entered (inputs_of m) u

  pub pushed-tag-length : length (tag_pushed_memory m s t) ≡ length m
  unfolding tag_pushed_memory
  pushed-tag-length = length-set (triggered_from m (plane_at t) least_size s) (tags_at + t) _ ∙ triggered-keeps.size

  pub pushed-tag-low : (at : ℕ) → at < links_at → get_or (tag_pushed_memory m s t) at 0 ≡ get_or m at 0
  unfolding tag_pushed_memory
  pushed-tag-low at h = get_or-set_other (triggered_from m (plane_at t) least_size s) (tags_at + t) at _ 0 (omega arith) ∙ triggered-keeps.low at h

  pub pushed-tag-byte : untaken_under (tag_pushed_memory m s t) t ≡ 1
  unfolding tag_pushed_memory
  pushed-tag-byte = get_or-set_same (triggered_from m (plane_at t) least_size s) (tags_at + t) 1 0 (omega (arith, triggered-keeps.size))

  pub pushed-tag-others : (u : ℕ) → u ≢ t → untaken_under (tag_pushed_memory m s t) u ≡ untaken_under m u
  unfolding tag_pushed_memory
  pushed-tag-others u other = get_or-set_other (triggered_from m (plane_at t) least_size s) (tags_at + t) (tags_at + u) _ 0 (omega arith) ∙ tag-triggered u

  module _ (u : ℕ) (tag' : u < most_tags) (other : u ≢ t) where
    beside-entered : (j : ℕ) → plane_of (entered_from j m (plane_at t) least_size s) u ≡ plane_of m u
    unfolding entered_from
    beside-entered zero = refl
    beside-entered (suc j) =
        beside-appended t u tag tag' other (entered_from j m (plane_at t) least_size s) (entered-long j) (input_link m j) (word_at s (5 * j)) ∙ beside-entered j

    pub beside-pushed-links : plane_of (tag_pushed_memory m s t) u ≡ plane_of m u
    unfolding tag_pushed_memory triggered_from
    beside-pushed-links =
        beside-tag t u tag tag' other (triggered_from m (plane_at t) least_size s) (omega (arith, triggered-keeps.size)) _
        ∙ beside-appended t u tag tag' other (entered_from (inputs_of m) m (plane_at t) least_size s) (entered-long (inputs_of m)) (trigger_of m) (word_of true-value)
        ∙ beside-entered (inputs_of m)

-- ---- a free tag has room
module _ (m : List ℕ) (st : tag_standing m ≡ 0) (t : ℕ) (tag : t < most_tags) where
  free-byte : free_tag m t ≡ true → untaken_under m t ≡ 0
  unfolding free_tag
  free-byte free = eqb-true (untaken_under m t) 0 (and_left (eqb (untaken_under m t) 0) _ free)

  free-empty : free_tag m t ≡ true → (l : ℕ) → l < links_of m → waiting (part m (link_from (plane_at t) least_size l) least_size) ≡ 0
  unfolding free_tag empty_link
  free-empty free l h = eqb-true _ 0 (below_at (links_of m) (empty_link m t) (and_right (eqb (untaken_under m t) 0) _ free) l h)

  empty-room : (l : ℕ) → l < most_links → waiting (part m (link_from (plane_at t) least_size l) least_size) ≡ 0 → room_from m (plane_at t) least_size l ≡ true
  unfolding room_from room_in
  empty-room l h e =
      let q = part m (link_from (plane_at t) least_size l) least_size in
      let long = (tag-standing-good m st).0 in
      let k = part_length m (link_from (plane_at t) least_size l) least_size (omega arith) in
      rw (lt-ltb l most_links h, le-leb (5 * waiting q + 6) (length q) (omega arith)) refl

  module _ (free : free_tag m t ≡ true) where
    link-room : (l : ℕ) → l < links_of m → room_from m (plane_at t) least_size l ≡ true
    link-room l h = empty-room l (omega (arith, (tag-counts m st).links)) (free-empty free l h)

    trigger-room : room_from m (plane_at t) least_size (trigger_of m) ≡ true
    unfolding room_from
    trigger-room = go (ltb (trigger_of m) (links_of m)) refl (eqb (trigger_of m) no_link) refl (tag-counts m st).trigger
      where
        go : (a : Bool) → ltb (trigger_of m) (links_of m) ≡ a → (b : Bool) → eqb (trigger_of m) no_link ≡ b → a || b ≡ true → room_from m (plane_at t) least_size (trigger_of m) ≡ true
        go true p b q e = link-room (trigger_of m) (ltb-true (trigger_of m) (links_of m) p)
        go false p true q e = rw (eqb-true (trigger_of m) no_link q) refl
        go false p false q e = absurd (let z : ◌≡◌ {A = ℕ} 0 1 = cc in omega arith)

    input-room : (j : ℕ) → j < inputs_of m → room_from m (plane_at t) least_size (input_link m j) ≡ true
    unfolding input_ok name_at
    input-room j h =
        let ok = below_at (inputs_of m + 1) (input_ok m) (tag-parts m st).inputs (j + 1) (omega arith) in
        let same : trigger_at + 2 * (j + 1) ≡ input_links_at + 2 * j = omega arith in
        link-room (input_link m j) (named (ltb (name_at m trigger_at (j + 1)) (links_of m)) refl (and_left (ltb (name_at m trigger_at (j + 1)) (links_of m) || eqb (j + 1) 0) _ ok) same)
      where
        named : (b : Bool) → ltb (name_at m trigger_at (j + 1)) (links_of m) ≡ b → b || eqb (j + 1) 0 ≡ true → trigger_at + 2 * (j + 1) ≡ input_links_at + 2 * j → input_link m j < links_of m
        named true p e same = rw same at (ltb-true (name_at m trigger_at (j + 1)) (links_of m) p)
        named false p e same = absurd (omega (arith, eqb-true (j + 1) 0 e))

    rooms : rooms_ok (plane_of m t) least_size (inputs_of m) ≡ true
    unfolding rooms_ok input_room
    rooms =
        let long = (tag-standing-good m st).0 in
        let c = tag-counts m st in
        and_both (ap (room_at (plane_of m t) least_size) (plane-trigger m t long tag) ∙ sym (plane-room m t long tag (trigger_of m)) ∙ trigger-room)
        (below_all (inputs_of m) (input_room (plane_of m t) least_size) (λ j h.
        ap (room_at (plane_of m t) least_size) (plane-input-link m t long tag j (omega arith)) ∙ sym (plane-room m t long tag (input_link m j)) ∙ input-room j h))

-- ---- the push
module _ (m : List ℕ) (st : tag_standing m ≡ 0) (s : List ℕ) (ok : set_ok (stored_kinds m) s ≡ true) (t : ℕ) (tag : t < most_tags) (free : free_tag m t ≡ true) where
  pub plane-pushed : pushed (plane_of m t) s ≡ outcome (answers 0 0) (plane_of (tag_pushed_memory m s t) t)
  unfolding tag_pushed_memory pushed_memory
  plane-pushed =
      let long = (tag-standing-good m st).0 in
      let c = tag-counts m st in
      let size = plane-size m t long tag in
      let none = plane-untaken m t long tag ∙ free-byte m st t tag free in
      pushed-accepted (plane_of m t) (plane-stands m st t tag) s (rw (plane-kinds m t long tag (omega arith)) ok) (rw none refl)
      (rw (size, plane-inputs m t long tag) (rooms m st t tag free))
      ∙ ap (outcome (answers 0 0)) (rw (size, none) refl
      ∙ ap (λ (x : List ℕ). set x untaken_at 1) (sym (plane-triggered m t long tag s c.inputs))
      ∙ sym (plane-tag (triggered_from m (plane_at t) least_size s) t (omega (arith, (triggered-keeps m t long tag s).size)) tag 1))

  pub beside-pushed : (u : ℕ) → u < most_tags → u ≢ t → plane_of (tag_pushed_memory m s t) u ≡ plane_of m u
  beside-pushed = beside-pushed-links m t (tag-standing-good m st).0 tag s
