-- The machine of each tag, just started, is a machine started at capacity 1 (machine_start/specs/Start): what is known of such a machine holds of every tag's.
-- Assumes an accepted start.
use Rattle.std.specs.Prelude.{ℕ, ◌+◌, ◌-◌, ◌*◌, ◌≤◌, ◌<◌, ◌≡◌, refl, ◌≢◌, ◌⊎◌, List, get_or, take, drop, set}
use Rattle.std.proofs.Math.Path.{sym}
use Rattle.std.proofs.Common.{ap, ap₂, ◌∙◌, inl, inr, arith, length-set, get_or-append-add, get_or-take, get_or-drop, get_or-set_other}
use Rattle.std.proofs.Math.Decide.{ℕ_discrete, dec_lt}
use Rattle.std.proofs.Math.ListN.{length}
use Rattle.std.proofs.lemmas.List.{length-map}
use Rattle.std.proofs.Math.Seq.{ext_get_or}
use Rattle.formula.specs.Tree.{formula_of}
use Rattle.formula.specs.Faults.{letters_of}
use Rattle.machine_layout.specs.Layout.{capacity_at, untaken_at, most_inputs, most_results, most_operators, most_links, links_at, least_size, link_from, need, part}
use Rattle.graph.specs.Translation.{Made, made_of}
use Rattle.maker_laid.specs.Encode.{encode, encoded, written, length-written}
use Rattle.theory_verdicts.proofs.Admitting.{accepted-admitted}
use Rattle.theory_verdicts.proofs.Verdicts.{accepted-graph}
use Rattle.machine_start.specs.Start.{Begun, headed, emptied, started_memory, started}
use Rattle.machine_start.specs.StartLaws.{start-accepts, accepted-start}
use Rattle.machine_start.specs.ReadBack.{length-emptied, emptied-kept, emptied-read}
use Rattle.machine_start.specs.HeaderLaws.{length-headed, headed-capacity, headed-untaken}
use Rattle.machine_start.specs.Completed.{made-inputs, made-results}
use Rattle.machine_start.specs.Letters.{letters-count}
use Rattle.machine_planes.specs.Planes.{most_tags, plane_bytes, plane_at, untaken_under, tagged_need, plane_of}
use Rattle.machine_planes.specs.PlaneBytes.{headed as topped}
use Rattle.machine_planes.proofs.PlaneBytes.{headed-length, plane-split, plane-length, plane-byte, plane-capacity, plane-untaken}
use Rattle.machine_tags.specs.TagValid.{tag_mark}
use Rattle.machine_tag_start.specs.TagStart.{emptied_tags, tag_started_memory, tag_started}
use Rattle.machine_tag_start.specs.TagStartLaws.{AcceptedTagStart}
use Rattle.machine_tag_start.specs.EmptiedTags.{Counts, counts-or-not, emptied-from-missed, length-emptied-tags, emptied-tags-missed, emptied-tags-read, emptied-tags-byte}
use Rattle.machine_tag_start.specs.SameBytes.{Same, same-written, same-headed}

-- a byte of a tag's links
pub plane-link-byte : (m : List ℕ) (t x : ℕ) → tagged_need ≤ length m → t < most_tags → x < plane_bytes → get_or (plane_of m t) (links_at + x) 0 ≡ get_or m (plane_at t + x) 0
plane-link-byte m t x long tag h =
    let top = topped (take links_at m) (untaken_under m t) in
    let links = part m (plane_at t) plane_bytes in
    let e : links_at + x ≡ length top + x = ap (λ (k : ℕ). k + x) (sym (headed-length m t long tag)) in
    ap₂ (λ (y : List ℕ) (k : ℕ). get_or y k 0) (plane-split m t long tag) e
    ∙ get_or-append-add top links x 0
    ∙ get_or-take plane_bytes (drop (plane_at t) m) x 0 h
    ∙ get_or-drop (plane_at t) m x 0

module _ (g : Made) (kinds m : List ℕ) (t : ℕ) (long : tagged_need ≤ length m) (tag : t < most_tags)
    (few : length g.operators ≤ most_operators) (low : g.links ≤ most_links) (ins : g.inputs ≤ most_inputs) (outs : length g.results ≤ most_results)
    (letters : length kinds ≤ most_inputs) where
  abbrev Headed : List ℕ → List ℕ
  Headed x = headed g kinds 1 (written x 0 (encoded g.operators))

  abbrev Marked : List ℕ
  Marked = set (emptied g.links least_size (Headed m)) capacity_at tag_mark

  abbrev Tagged : List ℕ
  Tagged = emptied_tags most_tags g.links Marked

  abbrev Plain : List ℕ
  Plain = emptied g.links least_size (Headed (plane_of m t))

  own-length : length (plane_of m t) ≡ need least_size
  own-length = plane-length m t long tag

  length-operated : (x : List ℕ) → length (written x 0 (encoded g.operators)) ≡ length x
  length-operated x = length-written (encoded g.operators) x 0

  length-top : (x : List ℕ) → need least_size ≤ length x → length (Headed x) ≡ length x
  length-top x h = length-headed g kinds 1 (written x 0 (encoded g.operators)) (omega (arith, length-operated x)) ∙ length-operated x

  length_marked : length Marked ≡ length m
  length_marked = length-set (emptied g.links least_size (Headed m)) capacity_at tag_mark ∙ length-emptied g.links least_size (Headed m) ∙ length-top m (omega arith)

  length-tagged : length Tagged ≡ length m
  length-tagged = length-emptied-tags g.links Marked most_tags ∙ length_marked

  length-plain : length Plain ≡ need least_size
  length-plain = length-emptied g.links least_size (Headed (plane_of m t)) ∙ length-top (plane_of m t) (omega (arith, own-length)) ∙ own-length

  room : 138 ≤ length (written (plane_of m t) 0 (encoded g.operators))
  room = omega (arith, length-operated (plane_of m t), own-length)

  same-top : (a b : ℕ) → (a ≡ b) ⊎ ((links_at ≤ a) × (links_at ≤ b)) → Same a b m (plane_of m t) → get_or (Headed m) a 0 ≡ get_or (Headed (plane_of m t)) b 0
  same-top a b p s =
      (same-headed a b p g kinds 1 _ _ ins outs letters
      (same-written a b p (encoded g.operators) m (plane_of m t) 0 (omega (arith, length-map g.operators encode)) s)).2

  -- ---- below the links

  below : (i : ℕ) → i < links_at → i ≢ capacity_at → i ≢ untaken_at → get_or (plane_of Tagged t) i 0 ≡ get_or Plain i 0
  below i h p q =
      plane-byte Tagged t (omega (arith, length-tagged)) tag i h p q
      ∙ emptied-tags-missed g.links Marked most_tags i (omega arith) (λ u l a b. omega arith)
      ∙ get_or-set_other (emptied g.links least_size (Headed m)) capacity_at i tag_mark 0 p
      ∙ emptied-kept g.links least_size (Headed m) i h
      ∙ same-top i i (inl refl) (omega arith, omega (arith, own-length), sym (plane-byte m t long tag i h p q))
      ∙ sym (emptied-kept g.links least_size (Headed (plane_of m t)) i h)

  at-capacity : get_or (plane_of Tagged t) capacity_at 0 ≡ get_or Plain capacity_at 0
  at-capacity =
      plane-capacity Tagged t (omega (arith, length-tagged)) tag
      ∙ sym (emptied-kept g.links least_size (Headed (plane_of m t)) capacity_at (omega arith) ∙ headed-capacity g kinds 1 (written (plane_of m t) 0 (encoded g.operators)) room)

  at-untaken : get_or (plane_of Tagged t) untaken_at 0 ≡ get_or Plain untaken_at 0
  at-untaken =
      plane-untaken Tagged t (omega (arith, length-tagged)) tag
      ∙ emptied-tags-byte g.links Marked low (omega (arith, length_marked)) most_tags t (omega arith) tag
      ∙ sym (emptied-kept g.links least_size (Headed (plane_of m t)) untaken_at (omega arith) ∙ headed-untaken g kinds 1 (written (plane_of m t) 0 (encoded g.operators)) room)

  -- ---- the links

  on-links : (x : ℕ) → x < plane_bytes → get_or (plane_of Tagged t) (links_at + x) 0 ≡ get_or Plain (links_at + x) 0
  on-links x h = plane-link-byte Tagged t x (omega (arith, length-tagged)) tag h ∙ go (counts-or-not g.links least_size x)
    where
      go : Counts g.links least_size x ⊎ (Counts g.links least_size x → ⊥) → get_or Tagged (plane_at t + x) 0 ≡ get_or Plain (links_at + x) 0
      go (inl c) =
          let l = c.0 in
          let e : x ≡ l * least_size = c.2 in
          rw e (emptied-tags-read g.links Marked low (omega (arith, length_marked)) most_tags t l (omega arith) tag c.1
          ∙ sym (emptied-read g.links least_size (Headed (plane_of m t)) l (omega arith) c.1 (omega (arith, length-top (plane_of m t) (omega (arith, own-length)), own-length))))
      go (inr n) =
          emptied-tags-missed g.links Marked most_tags (plane_at t + x) (omega arith) (λ u l a b. other u l a b)
          ∙ get_or-set_other (emptied g.links least_size (Headed m)) capacity_at (plane_at t + x) tag_mark 0 (omega arith)
          ∙ emptied-from-missed g.links links_at least_size (Headed m) (plane_at t + x) (λ l b. other 0 l (omega arith) b)
          ∙ same-top (plane_at t + x) (links_at + x) (inr (omega arith, omega arith))
          (omega arith, omega (arith, own-length), sym (plane-link-byte m t x long tag h))
          ∙ sym (emptied-from-missed g.links links_at least_size (Headed (plane_of m t)) (links_at + x) (λ l b e. n (l, b, (omega arith))))
        where
          other : (u l : ℕ) → u < most_tags → l < g.links → plane_at t + x ≢ link_from (plane_at u) least_size l
          other u l a b e = at (ℕ_discrete t u)
            where
              at : Dec (t ≡ u) → ⊥
              at (yes f) = n (l, b, (omega arith))
              at (no d) = omega arith

  pub plane-tagged : plane_of (tag_started_memory g kinds m) t ≡ started_memory g kinds 1 (plane_of m t)
  unfolding tag_started_memory started_memory
  plane-tagged = ext_get_or 0 (plane_of Tagged t) Plain (whole ∙ sym length-plain) (λ i h. byte i (dec_lt i links_at) h)
    where
      whole : length (plane_of Tagged t) ≡ need least_size
      whole = plane-length Tagged t (omega (arith, length-tagged)) tag

      byte : (i : ℕ) → Dec (i < links_at) → i < length (plane_of Tagged t) → get_or (plane_of Tagged t) i 0 ≡ get_or Plain i 0
      byte i (yes h) b = go (ℕ_discrete i capacity_at) (ℕ_discrete i untaken_at)
        where
          go : Dec (i ≡ capacity_at) → Dec (i ≡ untaken_at) → get_or (plane_of Tagged t) i 0 ≡ get_or Plain i 0
          go (yes e) d = rw e at-capacity
          go (no p) (yes e) = rw e at-untaken
          go (no p) (no q) = below i h p q
      byte i (no h) b =
          let e : i ≡ links_at + (i - links_at) = omega arith in
          rw e (on-links (i - links_at) (omega (arith, whole)))

-- "Capacity here is one token a tag on each link": each tag's machine is a first machine started at capacity 1 for the same sheet.
pub record PlaneStarted (s line m : List ℕ) (t : ℕ) : Type 0 where
  pub accepted : (started s line 1 (plane_of m t)).answer.refusal ≡ 0
  pub plane : plane_of (tag_started s line m).mem t ≡ (started s line 1 (plane_of m t)).mem

pub plane-started : (s line m : List ℕ) → AcceptedTagStart s line m → (t : ℕ) → t < most_tags → PlaneStarted s line m t
plane-started s line m A t tag =
    let g = made_of (formula_of s) in
    let kinds = letters_of (formula_of s) line in
    let own = plane-length m t A.long tag in
    let accepts = start-accepts s line 1 (plane_of m t) A.passed (omega arith) (omega arith) (omega arith) in
    let bounds = accepted-graph s A.admissible in
    let inputs = made-inputs (formula_of s) in
    record {
      accepted = accepts;
      plane =
          ap (λ (b : Begun). plane_of b.mem t) A.whole
          ∙ plane-tagged g kinds m t A.long tag bounds.0 bounds.1 inputs (made-results (formula_of s) (accepted-admitted s A.admissible))
          (omega (arith, letters-count s line A.kinded, inputs))
          ∙ sym (ap (λ (b : Begun). b.mem) (accepted-start s line 1 (plane_of m t) accepts).whole);
    }
