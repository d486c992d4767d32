-- What the planes and the bytes of the tags hold once their links are emptied, and that all other bytes are as they were. Assumes sixteen tags and links that a plane has.
use Prim.Native.Nat.{ℕ, zero, suc, ◌+◌, ◌*◌, ◌≤◌, ◌<◌}
use Rattle.std.specs.Prelude.{◌≡◌, ◌≢◌, ◌⊎◌, List, set}
use Rattle.std.proofs.Math.Path.{refl}
use Rattle.std.proofs.Common.{ap, ◌∙◌, inl, inr, arith, get_or-set_same}
use Rattle.std.proofs.Math.Decide.{ℕ_discrete}
use Rattle.std.proofs.Math.ListN.{length, get_or, length-set}
use Rattle.std.proofs.Math.Seq.{get_or-set_other}
use Rattle.machine_layout.specs.Layout.{most_links, least_size, link_from}
use Rattle.machine_start.specs.Start.{cleared_from}
use Rattle.machine_start.specs.ReadBack.{length-emptied-from, emptied-from-read}
use Rattle.machine_planes.specs.Planes.{most_tags, plane_at, tags_at, tagged_need}
use Rattle.machine_tag_start.specs.TagStart.{emptied_tags}

-- ---- the links of one plane

-- A place is that of a count among k of them, or of none.
abbrev pub Counts : ℕ → ℕ → ℕ → Type 0
Counts k size x = (l : ℕ) × (l < k) × (x ≡ l * size)

pub counts-or-not : (k size x : ℕ) → Counts k size x ⊎ (Counts k size x → ⊥)
counts-or-not zero size x = inr (λ c. let h = c.1 in omega arith)
counts-or-not (suc k) size x = go (counts-or-not k size x) (ℕ_discrete x (k * size))
  where
    go : Counts k size x ⊎ (Counts k size x → ⊥) → Dec (x ≡ k * size) → Counts (suc k) size x ⊎ (Counts (suc k) size x → ⊥)
    go (inl c) d = let h = c.1 in inl (c.0, (omega arith), c.2)
    go (inr n) (yes e) = inl (k, (omega arith), e)
    go (inr n) (no d) = inr (λ c. last c (ℕ_discrete c.0 k))
      where
        last : (c : Counts (suc k) size x) → Dec (c.0 ≡ k) → ⊥
        last c (yes e) = d (c.2 ∙ ap (λ (l : ℕ). l * size) e)
        last c (no q) = let h = c.1 in n (c.0, (omega arith), c.2)

pub emptied-from-missed : (k base size : ℕ) (m : List ℕ) (at : ℕ) → ((l : ℕ) → l < k → at ≢ link_from base size l) → get_or (cleared_from k base size m) at 0 ≡ get_or m at 0
unfolding cleared_from
emptied-from-missed zero base size m at miss = refl
emptied-from-missed (suc k) base size m at miss =
    get_or-set_other (cleared_from k base size m) (link_from base size k) at 0 0 (miss k (omega arith))
    ∙ emptied-from-missed k base size m at (λ l h. miss l (omega arith))

-- ---- of every tag

module _ (k : ℕ) (m : List ℕ) where
  abbrev plane : ℕ → List ℕ
  plane t = cleared_from k (plane_at t) least_size (emptied_tags t k m)

  pub length-emptied-tags : (n : ℕ) → length (emptied_tags n k m) ≡ length m
  unfolding emptied_tags
  length-emptied-tags zero = refl
  length-emptied-tags (suc t) = length-set (plane t) (tags_at + t) 0 ∙ length-emptied-from (plane_at t) k least_size (emptied_tags t k m) ∙ length-emptied-tags t

  pub emptied-tags-missed : (n at : ℕ) → at < tags_at → ((t l : ℕ) → t < n → l < k → at ≢ link_from (plane_at t) least_size l) → get_or (emptied_tags n k m) at 0 ≡ get_or m at 0
  unfolding emptied_tags
  emptied-tags-missed zero at h miss = refl
  emptied-tags-missed (suc t) at h miss =
      get_or-set_other (plane t) (tags_at + t) at 0 0 (omega arith)
      ∙ emptied-from-missed k (plane_at t) least_size (emptied_tags t k m) at (λ l b. miss t l (omega arith) b)
      ∙ emptied-tags-missed t at h (λ u l a b. miss u l (omega arith) b)

  module _ (few : k ≤ most_links) (long : tagged_need ≤ length m) where
    pub emptied-tags-read : (n t l : ℕ) → n ≤ most_tags → t < n → l < k → get_or (emptied_tags n k m) (link_from (plane_at t) least_size l) 0 ≡ 0
    unfolding emptied_tags
    emptied-tags-read zero t l a h b = absurd (omega arith)
    emptied-tags-read (suc u) t l a h b =
        get_or-set_other (plane u) (tags_at + u) (link_from (plane_at t) least_size l) 0 0 (omega arith)
        ∙ go (ℕ_discrete t u) (λ p. emptied-tags-read u t l (omega arith) p b)
      where
        go : Dec (t ≡ u) → (t < u → get_or (emptied_tags u k m) (link_from (plane_at t) least_size l) 0 ≡ 0) → get_or (plane u) (link_from (plane_at t) least_size l) 0 ≡ 0
        go (yes e) ih =
            rw e (emptied-from-read (plane_at u) k least_size (emptied_tags u k m) l (omega arith) b (omega (arith, length-emptied-tags u)))
        go (no d) ih =
            emptied-from-missed k (plane_at u) least_size (emptied_tags u k m) (link_from (plane_at t) least_size l) (λ j c. omega arith) ∙ ih (omega arith)

    pub emptied-tags-byte : (n t : ℕ) → n ≤ most_tags → t < n → get_or (emptied_tags n k m) (tags_at + t) 0 ≡ 0
    unfolding emptied_tags
    emptied-tags-byte zero t a h = absurd (omega arith)
    emptied-tags-byte (suc u) t a h = go (ℕ_discrete t u) (λ p. emptied-tags-byte u t (omega arith) p)
      where
        inside : tags_at + u < length (plane u)
        inside = omega (arith, length-emptied-from (plane_at u) k least_size (emptied_tags u k m), length-emptied-tags u)

        go : Dec (t ≡ u) → (t < u → get_or (emptied_tags u k m) (tags_at + t) 0 ≡ 0) → get_or (set (plane u) (tags_at + u) 0) (tags_at + t) 0 ≡ 0
        go (yes e) ih = rw e (get_or-set_same (plane u) (tags_at + u) 0 0 inside)
        go (no d) ih =
            get_or-set_other (plane u) (tags_at + u) (tags_at + t) 0 0 (omega arith)
            ∙ emptied-from-missed k (plane_at u) least_size (emptied_tags u k m) (tags_at + t) (λ j c. omega arith)
            ∙ ih (omega arith)
