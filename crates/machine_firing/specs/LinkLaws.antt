-- What a change of one link, or of one register, leaves as it was. Stated once over the change of a link (`on_link_from` with any function that keeps
-- the stretch's length); taking and adding a token are two such. Assumes that the memory is as long as its links need.
use Rattle.std.specs.Prelude.{ℕ, suc, ◌+◌, ◌≤◌, ◌<◌, ◌≡◌, refl, ◌≢◌, ◌⊎◌, Bool, true, false, List, ltb, length, get_or, take}
use Rattle.std.proofs.Common.{ap, ◌∙◌, ⊎_elim, arith, ltb-true, lt-ltb, drop-set-lt}
use Rattle.std.proofs.Math.Decide.{dec_lt}
use Rattle.value.specs.Operators.{pick}
use Rattle.value.specs.Bytes.{stored, word_bytes}
use Rattle.value.proofs.Words.{byte-before, byte-after}
use Rattle.machine_queue.specs.Stretch.{removed, appended}
use Rattle.machine_queue.specs.StretchLaws.{appended-length, removed-length}
use Rattle.machine_layout.specs.Layout.{links_at, part, put, need_from, link_from}
use Rattle.machine_layout.specs.Fits.{apart, stretch-fits}
use Rattle.machine_firing.specs.Parts.{length-put, get_d-put-below, part-put-same, part-put-above, part-put-below, part_length}
use Rattle.machine_firing.specs.Links.{on_link_from, removed_from, appended_from}

abbrev pub link_part_from : List ℕ → ℕ → ℕ → ℕ → List ℕ
link_part_from m base size l = part m (link_from base size l) size

abbrev pub link_part : List ℕ → ℕ → ℕ → List ℕ
link_part m size l = link_part_from m links_at size l

-- a change that keeps the length
abbrev pub Keeps : (List ℕ → List ℕ) → Type 0
Keeps f = (q : List ℕ) → length (f q) ≡ length q

module _ (m : List ℕ) (base size : ℕ) (h : need_from base size ≤ length m) (l : ℕ) (f : List ℕ → List ℕ) (kf : Keeps f) where
  same_size : l < 3105 → length (f (link_part_from m base size l)) ≡ size
  same_size lt = let a = stretch-fits base size l lt in kf (link_part_from m base size l) ∙ part_length m (link_from base size l) size (omega arith)

  pub length-on : length (on_link_from m base size l f) ≡ length m
  length-on = go (ltb l 3105) refl
    where
      go : (b : Bool) → ltb l 3105 ≡ b → length (pick b (put m (link_from base size l) size (f (link_part_from m base size l))) m) ≡ length m
      go true e =
          let lt = ltb-true l 3105 e in
          let a = stretch-fits base size l lt in
          length-put m (link_from base size l) size (f (link_part_from m base size l)) (omega arith) (same_size lt)
      go false e = refl

  -- every byte below the links is as it was
  pub low-on : (at : ℕ) → at < base → get_or (on_link_from m base size l f) at 0 ≡ get_or m at 0
  low-on at q = go (ltb l 3105) refl
    where
      go : (b : Bool) → ltb l 3105 ≡ b → get_or (pick b (put m (link_from base size l) size (f (link_part_from m base size l))) m) at 0 ≡ get_or m at 0
      go true e =
          let lt = ltb-true l 3105 e in
          let a = stretch-fits base size l lt in
          get_d-put-below m (link_from base size l) size (f (link_part_from m base size l)) (omega arith) (same_size lt) at (omega arith)
      go false e = refl

  pub same-on : l < 3105 → link_part_from (on_link_from m base size l f) base size l ≡ f (link_part_from m base size l)
  same-on lt =
      let a = stretch-fits base size l lt in
      simp (lt-ltb l 3105 lt) (part-put-same m (link_from base size l) size (f (link_part_from m base size l)) (omega arith) (same_size lt))

  -- every other link is as it was
  pub other-on : (k : ℕ) → k ≢ l → link_part_from (on_link_from m base size l f) base size k ≡ link_part_from m base size k
  other-on k ne = go (ltb l 3105) refl
    where
      side : (lt : l < 3105) → Dec (k < l) → link_part_from (put m (link_from base size l) size (f (link_part_from m base size l))) base size k ≡ link_part_from m base size k
      side lt (yes p) =
          let a = stretch-fits base size l lt in
          let b = apart size k l p in
          part-put-below m (link_from base size l) size (f (link_part_from m base size l)) (omega arith) (same_size lt) (link_from base size k) size (omega arith)
      side lt (no n) =
          let a = stretch-fits base size l lt in
          let p : l < k = omega arith in
          let b = apart size l k p in
          part-put-above m (link_from base size l) size (f (link_part_from m base size l)) (omega arith) (same_size lt) (link_from base size k) size (omega arith)

      go : (b : Bool) → ltb l 3105 ≡ b → link_part_from (pick b (put m (link_from base size l) size (f (link_part_from m base size l))) m) base size k ≡ link_part_from m base size k
      go true e = side (ltb-true l 3105 e) (dec_lt k l)
      go false e = refl

-- ---- a word stored below the links

pub part-stored : (m : List ℕ) (at w b s : ℕ) → at + 5 ≤ b → part (stored m at w) b s ≡ part m b s
unfolding stored word_bytes
part-stored m at w b s h =
    let h0 : at < b = omega arith in
    let h1 : suc at < b = omega arith in
    let h2 : suc (suc at) < b = omega arith in
    let h3 : suc (suc (suc at)) < b = omega arith in
    let h4 : suc (suc (suc (suc at))) < b = omega arith in
    ap (take s) (simp (drop-set-lt, h0, h1, h2, h3, h4))

pub byte-kept : (m : List ℕ) (at w i : ℕ) → ((i < at) ⊎ (at + 5 ≤ i)) → get_or (stored m at w) i 0 ≡ get_or m i 0
byte-kept m at w i o = ⊎_elim (λ (x : i < at). byte-before m at w i x) (λ (x : at + 5 ≤ i). byte-after m at w i x) o

-- ---- taking and adding a token keep the length

pub keeps-appended : (w : ℕ) → Keeps (λ q. appended q w)
keeps-appended w q = appended-length q w

pub keeps-removed : Keeps removed
keeps-removed = removed-length

module _ (m : List ℕ) (base size : ℕ) (h : need_from base size ≤ length m) (l : ℕ) where
  pub length_removed : length (removed_from m base size l) ≡ length m
  unfolding removed_from
  length_removed = length-on m base size h l removed keeps-removed

  pub low-removed : (at : ℕ) → at < base → get_or (removed_from m base size l) at 0 ≡ get_or m at 0
  unfolding removed_from
  low-removed = low-on m base size h l removed keeps-removed

  pub length-appended : (w : ℕ) → length (appended_from m base size l w) ≡ length m
  unfolding appended_from
  length-appended w = length-on m base size h l (λ q. appended q w) (keeps-appended w)

  pub low-appended : (w at : ℕ) → at < base → get_or (appended_from m base size l w) at 0 ≡ get_or m at 0
  unfolding appended_from
  low-appended w = low-on m base size h l (λ q. appended q w) (keeps-appended w)
