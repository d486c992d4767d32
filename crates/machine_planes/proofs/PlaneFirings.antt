-- A call under a tag is the machine's own call on the tag's machine (`plane_of`): what it reads of a link, whether an operator can fire, and what a firing writes.
-- Assumes that the memory has its planes and that the tag is one; it may hold anything.
use Rattle.std.specs.Prelude.{ℕ, suc, ◌+◌, ◌*◌, ◌≤◌, ◌<◌, ◌≡◌, Bool, ltb, length, take, set}
use Rattle.std.proofs.Math.Path.{refl, ap, ap₂}
use Rattle.std.proofs.Common.{sym, ◌∙◌, arith, ltb-true, length-set, set-set, get_or-set_same, get_or-set_other}
use Rattle.std.proofs.Math.Bool.{true, false}
use mathlib.Core.List.{List, [], ◌∷◌, ◌++◌}
use Rattle.std.proofs.lemmas.List.Edits.{sets}
use Rattle.std.proofs.Math.Seq.{take-set-lt}
use Rattle.std.proofs.lemmas.List.{take-set-le, set_comm, set-append_left}
use Rattle.value.specs.Operators.{pick}
use Rattle.value.specs.Bytes.{stored, word_bytes, decoded, value_of}
use Rattle.machine_queue.specs.Stretch.{head_of, room_in, removed, appended}
use Rattle.machine_layout.specs.Layout.{capacity_at, untaken_at, most_operators, most_links, links_at, least_size, link_at, link_from, register_at, port_of, part, put}
use Rattle.machine_firing.specs.Links.{head_from, head_at, token_from, token_at, room_from, room_at, on_link_from, on_link, removed_from, removed_at, appended_from, appended_at}
use Rattle.machine_firing.specs.Parts.{length-put, part-put-below, part_length, part-set-below}
use Rattle.machine_firing.specs.LinkLaws.{Keeps, length-on, keeps-removed, keeps-appended}
use Rattle.machine_firing.specs.Fire.{Plan, planned, decision_from, decision_at, plan_from, plan_at, ready_from, ready_for, moved_from, moved, performed_from, performed, able_from, able_at, fired_from, fired_at}
use Rattle.machine_planes.specs.Planes.{most_tags, tags_at, untaken_under, plane_bytes, plane_at, tagged_need, plane_of}
use Rattle.machine_planes.proofs.PlaneBytes.{put-behind, put-inside, get_d-put-above, part-set-above, headed-length, plane-split, plane-kind, plane-port, plane-register, plane-link}
use Rattle.machine_planes.specs.PlaneBytes.{headed}

-- ---- what is read under a tag
module _ (m : List ℕ) (t : ℕ) (long : tagged_need ≤ length m) (tag : t < most_tags) where
  -- whatever is read of a link's stretch, with another answer where the number is no link
  read : {A : Type 0} (f : List ℕ → A) (none : A) (l : ℕ) →
      pick (ltb l most_links) (f (part m (link_from (plane_at t) least_size l) least_size)) none ≡ pick (ltb l most_links) (f (part (plane_of m t) (link_at least_size l) least_size)) none
  read f none l = go (ltb l most_links) refl
    where
      go : (b : Bool) → ltb l most_links ≡ b →
          pick b (f (part m (link_from (plane_at t) least_size l) least_size)) none ≡ pick b (f (part (plane_of m t) (link_at least_size l) least_size)) none
      go true e = ap f (sym (plane-link m t long tag l (ltb-true l most_links e)))
      go false e = refl

  pub plane-head : (l : ℕ) → head_from m (plane_at t) least_size l ≡ head_at (plane_of m t) least_size l
  unfolding head_from
  plane-head l = read head_of 0 l

  pub plane-token : (l : ℕ) → token_from m (plane_at t) least_size l ≡ token_at (plane_of m t) least_size l
  unfolding token_from
  plane-token l = ap (λ (w : ℕ). decoded (value_of w)) (plane-head l)

  pub plane-room : (l : ℕ) → room_from m (plane_at t) least_size l ≡ room_at (plane_of m t) least_size l
  unfolding room_from
  plane-room l = read room_in true l

  pub plane-ready : (p : Plan) → ready_from m (plane_at t) least_size p ≡ ready_for (plane_of m t) least_size p
  unfolding ready_from
  plane-ready p = rw (plane-room p.out1, plane-room p.out2, plane-room p.out3) refl

  module _ (i : ℕ) (few : i < most_operators) where
    pub plane-decision : decision_from m (plane_at t) least_size i ≡ decision_at (plane_of m t) least_size i
    unfolding decision_from
    plane-decision =
        rw (
          plane-kind m t long tag i few,
          plane-port m t long tag i few 0 (omega arith),
          plane-port m t long tag i few 1 (omega arith),
          plane-port m t long tag i few 2 (omega arith),
          plane-register m t long tag i few,
          plane-token (port_of m i 0),
          plane-token (port_of m i 1),
          plane-token (port_of m i 2),
        ) refl

    pub plane-plan : plan_from m (plane_at t) least_size i ≡ plan_at (plane_of m t) least_size i
    unfolding plan_from planned
    plane-plan =
        rw (
          plane-decision,
          plane-port m t long tag i few 0 (omega arith),
          plane-port m t long tag i few 1 (omega arith),
          plane-port m t long tag i few 2 (omega arith),
          plane-port m t long tag i few 3 (omega arith),
          plane-port m t long tag i few 4 (omega arith),
          plane-port m t long tag i few 5 (omega arith),
        ) refl

    pub plane-able : able_from m (plane_at t) least_size i ≡ able_at (plane_of m t) least_size i
    unfolding able_from
    plane-able = plane-ready (plan_from m (plane_at t) least_size i) ∙ ap (ready_for (plane_of m t) least_size) plane-plan

-- ---- what is written under a tag: a link, a byte that stands once, and the tag's byte
headed-set : (x : List ℕ) (b i v : ℕ) → untaken_at < i → headed (set x i v) b ≡ set (headed x b) i v
headed-set x b i v h = ap (λ (y : List ℕ). set y untaken_at b) (set_comm x i capacity_at v 1 (omega arith)) ∙ set_comm (set x capacity_at 1) i untaken_at v b (omega arith)

module _ (m : List ℕ) (t : ℕ) (long : tagged_need ≤ length m) (tag : t < most_tags) where
  -- the bytes of the tags lie behind the planes
  pub tag-put : (b s : ℕ) (ys : List ℕ) → length ys ≡ s → b + s ≤ plane_bytes → (u : ℕ) → untaken_under (put m (plane_at t + b) s ys) u ≡ untaken_under m u
  tag-put b s ys e h u = get_d-put-above m (plane_at t + b) s ys (omega arith) e _ (omega arith)

  pub plane-put : (b s : ℕ) (ys : List ℕ) → length ys ≡ s → b + s ≤ plane_bytes → plane_of (put m (plane_at t + b) s ys) t ≡ put (plane_of m t) (links_at + b) s ys
  plane-put b s ys e h =
      let k = length-put m (plane_at t + b) s ys (omega arith) e in
      plane-split (put m (plane_at t + b) s ys) t (omega arith) tag
      ∙ ap (λ (c : ℕ). headed (take links_at (put m (plane_at t + b) s ys)) c ++ part (put m (plane_at t + b) s ys) (plane_at t) plane_bytes) (tag-put b s ys e h t)
      ∙ ap₂ (λ (x y : List ℕ). headed x (untaken_under m t) ++ y) (part-put-below m (plane_at t + b) s ys (omega arith) e 0 links_at (omega arith))
      (put-inside m (plane_at t) plane_bytes (omega arith) b s h ys e)
      ∙ sym (put-behind (headed (take links_at m) (untaken_under m t)) (part m (plane_at t) plane_bytes) b s ys links_at (headed-length m t long tag))
      ∙ ap (λ (x : List ℕ). put x (links_at + b) s ys) (sym (plane-split m t long tag))

  pub plane-on : (l : ℕ) (f : List ℕ → List ℕ) → Keeps f → plane_of (on_link_from m (plane_at t) least_size l f) t ≡ on_link (plane_of m t) least_size l f
  plane-on l f keeps = go (ltb l most_links) refl
    where
      go : (b : Bool) → ltb l most_links ≡ b →
          plane_of (pick b (put m (link_from (plane_at t) least_size l) least_size (f (part m (link_from (plane_at t) least_size l) least_size))) m) t
          ≡ pick b (put (plane_of m t) (link_at least_size l) least_size (f (part (plane_of m t) (link_at least_size l) least_size))) (plane_of m t)
      go true e =
          let h = ltb-true l most_links e in
          let q = part m (link_from (plane_at t) least_size l) least_size in
          plane-put (l * least_size) least_size (f q) (keeps q ∙ part_length m (link_from (plane_at t) least_size l) least_size (omega arith)) (omega arith)
          ∙ ap (λ (x : List ℕ). put (plane_of m t) (link_at least_size l) least_size (f x)) (sym (plane-link m t long tag l h))
      go false e = refl

  pub plane-removed : (l : ℕ) → plane_of (removed_from m (plane_at t) least_size l) t ≡ removed_at (plane_of m t) least_size l
  unfolding removed_from
  plane-removed l = plane-on l removed keeps-removed

  pub plane-appended : (l w : ℕ) → plane_of (appended_from m (plane_at t) least_size l w) t ≡ appended_at (plane_of m t) least_size l w
  unfolding appended_from
  plane-appended l w = plane-on l (λ q. appended q w) (keeps-appended w)

  pub plane-set : (i v : ℕ) → untaken_at < i → i < links_at → plane_of (set m i v) t ≡ set (plane_of m t) i v
  plane-set i v h k =
      let e = length-set m i v in
      let w = headed-length m t long tag in
      plane-split (set m i v) t (omega arith) tag
      ∙ ap (λ (c : ℕ). headed (take links_at (set m i v)) c ++ part (set m i v) (plane_at t) plane_bytes) (get_or-set_other m i _ v 0 (omega arith))
      ∙ ap₂ (λ (x y : List ℕ). headed x (untaken_under m t) ++ y) (take-set-lt links_at m i v k) (part-set-below m i v (plane_at t) plane_bytes (omega arith))
      ∙ ap (λ (x : List ℕ). x ++ part m (plane_at t) plane_bytes) (headed-set (take links_at m) (untaken_under m t) i v h)
      ∙ sym (set-append_left (headed (take links_at m) (untaken_under m t)) (part m (plane_at t) plane_bytes) i v (omega arith))
      ∙ ap (λ (x : List ℕ). set x i v) (sym (plane-split m t long tag))

  -- of a byte set behind the planes a tag's machine sees what it makes of the tag's byte
  pub plane-beyond : (i v : ℕ) → tags_at ≤ i → plane_of (set m i v) t ≡ headed (take links_at m) (untaken_under (set m i v) t) ++ part m (plane_at t) plane_bytes
  plane-beyond i v h =
      let e = length-set m i v in
      plane-split (set m i v) t (omega arith) tag
      ∙ ap₂ (λ (x y : List ℕ). headed x (untaken_under (set m i v) t) ++ y) (take-set-le links_at m i v (omega arith)) (part-set-above m i v (plane_at t) plane_bytes (omega arith))

  pub plane-tag : (v : ℕ) → plane_of (set m (tags_at + t) v) t ≡ set (plane_of m t) untaken_at v
  plane-tag v =
      let w = headed-length m t long tag in
      plane-beyond (tags_at + t) v (omega arith)
      ∙ ap (λ (c : ℕ). headed (take links_at m) c ++ part m (plane_at t) plane_bytes) (get_or-set_same m (tags_at + t) v 0 (omega arith))
      ∙ ap (λ (x : List ℕ). x ++ part m (plane_at t) plane_bytes) (sym (set-set (set (take links_at m) capacity_at 1) untaken_at (untaken_under m t) v))
      ∙ sym (set-append_left (headed (take links_at m) (untaken_under m t)) (part m (plane_at t) plane_bytes) untaken_at v (omega arith))
      ∙ ap (λ (x : List ℕ). set x untaken_at v) (sym (plane-split m t long tag))

plane-sets : (vs m : List ℕ) (t at : ℕ) → tagged_need ≤ length m → t < most_tags → untaken_at < at → at + length vs ≤ links_at → plane_of (sets m at vs) t ≡ sets (plane_of m t) at vs
plane-sets [] m t at long tag h k = refl
plane-sets (v ∷ vs) m t at long tag h k =
    let e = length-set m at v in
    plane-sets vs (set m at v) t (suc at) (omega arith) tag (omega arith) (omega arith)
    ∙ ap (λ (x : List ℕ). sets x (suc at) vs) (plane-set m t long tag at v h (omega arith))

pub plane-stored : (m : List ℕ) (t at w : ℕ) → tagged_need ≤ length m → t < most_tags → untaken_at < at → at + 5 ≤ links_at → plane_of (stored m at w) t ≡ stored (plane_of m t) at w
unfolding stored word_bytes
plane-stored m t at w long tag h k = plane-sets (word_bytes w) m t at long tag h k

-- ---- a firing
-- what every change of a link keeps, of one memory and another, a firing's moves keep
module _ (Q : List ℕ → List ℕ → Type 0) (a b size : ℕ)
    (step : (m n : List ℕ) (l : ℕ) (f : List ℕ → List ℕ) → Keeps f → Q m n → Q (on_link_from m a size l f) (on_link_from n b size l f)) where
  without : (m n : List ℕ) (l : ℕ) → Q m n → Q (removed_from m a size l) (removed_from n b size l)
  unfolding removed_from
  without m n l q = step m n l removed keeps-removed q

  with-one : (m n : List ℕ) (l w : ℕ) → Q m n → Q (appended_from m a size l w) (appended_from n b size l w)
  unfolding appended_from
  with-one m n l w q = step m n l (λ x. appended x w) (keeps-appended w) q

  pub by-moves : (p : Plan) (m n : List ℕ) → Q m n → Q (moved_from m a size p) (moved_from n b size p)
  unfolding moved_from
  by-moves p m n q =
      with-one _ _ p.out3 p.word3 (with-one _ _ p.out2 p.word2 (with-one _ _ p.out1 p.word1
      (without _ _ p.in3 (without _ _ p.in2 (without m n p.in1 q)))))

module _ (t : ℕ) (tag : t < most_tags) where
  -- a memory, and a machine's that is the tag's
  abbrev Under : List ℕ → List ℕ → Type 0
  Under m p = (tagged_need ≤ length m) × (plane_of m t ≡ p)

  under-on : (m p : List ℕ) (l : ℕ) (f : List ℕ → List ℕ) → Keeps f → Under m p → Under (on_link_from m (plane_at t) least_size l f) (on_link p least_size l f)
  under-on m p l f keeps u =
      let long = u.0 in (
        omega (arith, length-on m (plane_at t) least_size (omega arith) l f keeps),
        plane-on m t long tag l f keeps ∙ ap (λ (x : List ℕ). on_link x least_size l f) u.1,
      )

module _ (m : List ℕ) (t : ℕ) (long : tagged_need ≤ length m) (tag : t < most_tags) where
  under_moved : (p : Plan) → Under t tag (moved_from m (plane_at t) least_size p) (moved (plane_of m t) least_size p)
  under_moved p = by-moves (Under t tag) (plane_at t) links_at least_size (under-on t tag) p m (plane_of m t) (long, refl)

  pub plane-moved : (p : Plan) → plane_of (moved_from m (plane_at t) least_size p) t ≡ moved (plane_of m t) least_size p
  plane-moved p = (under_moved p).1

  module _ (i : ℕ) (few : i < most_operators) where
    pub plane-performed : (p : Plan) → plane_of (performed_from m (plane_at t) least_size i p) t ≡ performed (plane_of m t) least_size i p
    unfolding performed_from
    plane-performed p =
        plane-stored (moved_from m (plane_at t) least_size p) t (register_at i) p.register (under_moved p).0 tag (omega arith) (omega arith)
        ∙ ap (λ (x : List ℕ). stored x (register_at i) p.register) (plane-moved p)

    pub plane-fired : plane_of (fired_from m (plane_at t) least_size i) t ≡ fired_at (plane_of m t) least_size i
    unfolding fired_from
    plane-fired =
        go (able_from m (plane_at t) least_size i)
        ∙ ap₂ (λ (b : Bool) (p : Plan). pick b (performed (plane_of m t) least_size i p) (plane_of m t)) (plane-able m t long tag i few) (plane-plan m t long tag i few)
      where
        go : (b : Bool) → plane_of (pick b (performed_from m (plane_at t) least_size i (plan_from m (plane_at t) least_size i)) m) t
            ≡ pick b (performed (plane_of m t) least_size i (plan_from m (plane_at t) least_size i)) (plane_of m t)
        go true = plane-performed (plan_from m (plane_at t) least_size i)
        go false = refl
