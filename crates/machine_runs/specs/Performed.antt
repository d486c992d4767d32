-- A plan carried out (machine_firing/specs/Fire, `performed_from`), at one place of the memory: the bytes below the registers and the other registers are as they
-- were; a link that it only gives to keeps its first token, and one that it only takes from keeps whether there is room. Assumes that the memory is as
-- long as its links need and that they begin behind the registers.
use Rattle.std.specs.Prelude.{ℕ, ◌+◌, ◌*◌, ◌≤◌, ◌<◌, ◌≡◌, ◌≢◌, ◌⊎◌, List, length, get_or}
use Rattle.std.proofs.Math.Path.{refl}
use Rattle.std.proofs.Common.{sym, ap, subst, ◌∙◌, inl, inr, arith}
use Rattle.std.proofs.Math.Decide.{ℕ_discrete, dec_lt}
use Rattle.value.specs.Bytes.{word_at, stored}
use Rattle.value.proofs.Words.{word-stored}
use Rattle.machine_queue.specs.Stretch.{waiting, removed, appended, head_of, room_in}
use Rattle.machine_queue.specs.StretchLaws.{appended-head, removed-room}
use Rattle.machine_layout.specs.Layout.{links_at, register_at, link_from, need_from}
use Rattle.machine_layout.specs.Fits.{stretch-fits}
use Rattle.machine_firing.specs.Parts.{part_length}
use Rattle.machine_firing.specs.Links.{on_link_from, removed_from, appended_from}
use Rattle.machine_firing.specs.Fire.{Plan, performed_from}
use Rattle.machine_firing.specs.LinkLaws.{link_part_from, Keeps, length-on, low-on, same-on, other-on, part-stored, byte-kept, keeps-appended, keeps-removed}

-- a link among three, and at most once among them
abbrev pub Among : ℕ → ℕ → ℕ → ℕ → Type 0
Among l x y z = (l ≡ x) ⊎ ((l ≡ y) ⊎ (l ≡ z))

abbrev pub Single : ℕ → ℕ → ℕ → ℕ → Type 0
Single l x y z = (l ≡ x → l ≢ y) × (l ≡ x → l ≢ z) × (l ≡ y → l ≢ z)

-- ---- three changes of links, one after the other

module _ (m : List ℕ) (base size : ℕ) (h : need_from base size ≤ length m) (x : ℕ) (f : List ℕ → List ℕ) (kf : Keeps f) where
  long-on : need_from base size ≤ length (on_link_from m base size x f)
  long-on = let e = length-on m base size h x f kf in omega arith

  -- a link after a change of x, by whether it is x
  by-link : (l : ℕ) → l < 3105 → (P : List ℕ → Type 0) → (l ≢ x → P (link_part_from m base size l)) → (l ≡ x → P (f (link_part_from m base size l))) → P (link_part_from (on_link_from m base size x f) base size l)
  by-link l lt P other same = go (ℕ_discrete l x)
    where
      go : Dec (l ≡ x) → P (link_part_from (on_link_from m base size x f) base size l)
      go (yes e) = subst (λ (y : ℕ). P (link_part_from (on_link_from m base size y f) base size l)) e (subst P (sym (same-on m base size h l f kf lt)) (same e))
      go (no ne) = subst P (sym (other-on m base size h x f kf l ne)) (other ne)

module _ (step : ℕ → List ℕ → List ℕ) (keeps : (w : ℕ) → Keeps (step w)) (m : List ℕ) (base size : ℕ) (h : need_from base size ≤ length m) (x1 w1 x2 w2 x3 w3 : ℕ) where
  abbrev m1 : List ℕ
  m1 = on_link_from m base size x1 (step w1)

  abbrev m2 : List ℕ
  m2 = on_link_from m1 base size x2 (step w2)

  abbrev m3 : List ℕ
  m3 = on_link_from m2 base size x3 (step w3)

  h1 : need_from base size ≤ length m1
  h1 = long-on m base size h x1 (step w1) (keeps w1)

  h2 : need_from base size ≤ length m2
  h2 = long-on m1 base size h1 x2 (step w2) (keeps w2)

  long-thrice : need_from base size ≤ length m3
  long-thrice = long-on m2 base size h2 x3 (step w3) (keeps w3)

  low-thrice : (at : ℕ) → at < base → get_or m3 at 0 ≡ get_or m at 0
  low-thrice at k = low-on m2 base size h2 x3 (step w3) (keeps w3) at k ∙ low-on m1 base size h1 x2 (step w2) (keeps w2) at k ∙ low-on m base size h x1 (step w1) (keeps w1) at k

  -- a link that is changed at most once
  by-thrice : (l : ℕ) → l < 3105 → Single l x1 x2 x3 → (P : List ℕ → Type 0) → P (link_part_from m base size l) →
      ((w : ℕ) → Among l x1 x2 x3 → P (step w (link_part_from m base size l))) → P (link_part_from m3 base size l)
  by-thrice l lt s P none some =
      by-link m2 base size h2 x3 (step w3) (keeps w3) l lt P
      (λ n3. by-link m1 base size h1 x2 (step w2) (keeps w2) l lt P
      (λ n2. by-link m base size h x1 (step w1) (keeps w1) l lt P (λ n1. none) (λ e1. some w1 (inl e1)))
      (λ e2. by-link m base size h x1 (step w1) (keeps w1) l lt (λ r. P (step w2 r)) (λ n1. some w2 (inr (inl e2))) (λ e1. absurd (s.0 e1 e2))))
      (λ e3. by-link m1 base size h1 x2 (step w2) (keeps w2) l lt (λ r. P (step w3 r))
      (λ n2. by-link m base size h x1 (step w1) (keeps w1) l lt (λ r. P (step w3 r)) (λ n1. some w3 (inr (inr e3))) (λ e1. absurd (s.1 e1 e3)))
      (λ e2. absurd (s.2 e2 e3)))

  -- one that is not changed
  off-thrice : (l : ℕ) → (Among l x1 x2 x3 → ⊥) → link_part_from m3 base size l ≡ link_part_from m base size l
  off-thrice l n =
      other-on m2 base size h2 x3 (step w3) (keeps w3) l (λ e. n (inr (inr e)))
      ∙ other-on m1 base size h1 x2 (step w2) (keeps w2) l (λ e. n (inr (inl e)))
      ∙ other-on m base size h x1 (step w1) (keeps w1) l (λ e. n (inl e))

abbrev taking : ℕ → List ℕ → List ℕ
taking w q = removed q

keeps-taking : (w : ℕ) → Keeps (taking w)
keeps-taking w = keeps-removed

abbrev giving : ℕ → List ℕ → List ℕ
giving w q = appended q w

-- ---- a plan

word-cong : (p q : List ℕ) (at : ℕ) → ((x : ℕ) → x < 5 → get_or p (at + x) 0 ≡ get_or q (at + x) 0) → word_at p at ≡ word_at q at
unfolding word_at
word-cong p q at h =
    let z : at + 0 ≡ at = omega arith in
    rw (rw z at (h 0 (omega arith)), h 1 (omega arith), h 2 (omega arith), h 3 (omega arith), h 4 (omega arith)) refl

module _ (m : List ℕ) (base size : ℕ) (behind : links_at ≤ base) (h : need_from base size ≤ length m) (i : ℕ) (small : i < 1024) (p : Plan) where
  -- the memory with the tokens taken, and with those given
  abbrev drawn : List ℕ
  drawn = m3 taking keeps-taking m base size h p.in1 0 p.in2 0 p.in3 0

  long-drawn : need_from base size ≤ length drawn
  long-drawn = long-thrice taking keeps-taking m base size h p.in1 0 p.in2 0 p.in3 0

  abbrev sent : List ℕ
  sent = m3 giving keeps-appended drawn base size long-drawn p.out1 p.word1 p.out2 p.word2 p.out3 p.word3

  long-sent : need_from base size ≤ length sent
  long-sent = long-thrice giving keeps-appended drawn base size long-drawn p.out1 p.word1 p.out2 p.word2 p.out3 p.word3

  performed-is : performed_from m base size i p ≡ stored sent (register_at i) p.register
  unfolding performed_from removed_from appended_from
  performed-is = refl

  -- ---- below the links

  pub low-performed : (at : ℕ) → at < base → ((at < register_at i) ⊎ (register_at i + 5 ≤ at)) → get_or (performed_from m base size i p) at 0 ≡ get_or m at 0
  low-performed at k o =
      ap (λ (n : List ℕ). get_or n at 0) performed-is
      ∙ byte-kept sent (register_at i) p.register at o
      ∙ low-thrice giving keeps-appended drawn base size long-drawn p.out1 p.word1 p.out2 p.word2 p.out3 p.word3 at k
      ∙ low-thrice taking keeps-taking m base size h p.in1 0 p.in2 0 p.in3 0 at k

  pub other-register : (j : ℕ) → j < 1024 → j ≢ i → word_at (performed_from m base size i p) (register_at j) ≡ word_at m (register_at j)
  other-register j k ne =
      word-cong (performed_from m base size i p) m (register_at j) (λ x l5. low-performed (register_at j + x) (omega arith) (side x l5 (dec_lt j i)))
    where
      side : (x : ℕ) → x < 5 → Dec (j < i) → ((register_at j + x < register_at i) ⊎ (register_at i + 5 ≤ register_at j + x))
      side x q (yes r) = inl (omega arith)
      side x q (no r) = inr (omega arith)

  pub own-register : p.register < 1099511627776 → word_at (performed_from m base size i p) (register_at i) ≡ p.register
  own-register b =
      let e = long-sent in
      ap (λ (n : List ℕ). word_at n (register_at i)) performed-is ∙ word-stored sent (register_at i) p.register (omega arith) b

  -- ---- at a link

  part-performed : (l : ℕ) → link_part_from (performed_from m base size i p) base size l ≡ link_part_from sent base size l
  part-performed l = ap (λ (n : List ℕ). link_part_from n base size l) performed-is ∙ part-stored sent (register_at i) p.register (link_from base size l) size (omega arith)

  -- nothing taken, at most one token given
  pub head-performed : (l : ℕ) → l < 3105 → (Among l p.in1 p.in2 p.in3 → ⊥) → Single l p.out1 p.out2 p.out3 →
      (Among l p.out1 p.out2 p.out3 → waiting (link_part_from (performed_from m base size i p) base size l) ≢ 1) →
      head_of (link_part_from (performed_from m base size i p) base size l) ≡ head_of (link_part_from m base size l)
  head-performed l lt ins outs =
      subst Q (sym (part-performed l))
      (by-thrice giving keeps-appended drawn base size long-drawn p.out1 p.word1 p.out2 p.word2 p.out3 p.word3 l lt outs Q (λ u. before)
      (λ w e u. appended-head (link_part_from drawn base size l) w (u e) ∙ before))
    where
      Q : List ℕ → Type 0
      Q r = (Among l p.out1 p.out2 p.out3 → waiting r ≢ 1) → head_of r ≡ head_of (link_part_from m base size l)

      before : head_of (link_part_from drawn base size l) ≡ head_of (link_part_from m base size l)
      before = ap head_of (off-thrice taking keeps-taking m base size h p.in1 0 p.in2 0 p.in3 0 l ins)

  -- nothing given, at most one token taken
  pub room-performed : (l : ℕ) → l < 3105 → (Among l p.out1 p.out2 p.out3 → ⊥) → Single l p.in1 p.in2 p.in3 →
      (Among l p.in1 p.in2 p.in3 → 5 * waiting (link_part_from (performed_from m base size i p) base size l) + 11 ≤ size) →
      room_in (link_part_from (performed_from m base size i p) base size l) ≡ room_in (link_part_from m base size l)
  room-performed l lt outs ins =
      subst Q (sym (part-performed l ∙ after))
      (by-thrice taking keeps-taking m base size h p.in1 0 p.in2 0 p.in3 0 l lt ins Q (λ u. refl) (λ w e u. less (u e)))
    where
      Q : List ℕ → Type 0
      Q r = (Among l p.in1 p.in2 p.in3 → 5 * waiting r + 11 ≤ size) → room_in r ≡ room_in (link_part_from m base size l)

      after : link_part_from sent base size l ≡ link_part_from drawn base size l
      after = off-thrice giving keeps-appended drawn base size long-drawn p.out1 p.word1 p.out2 p.word2 p.out3 p.word3 l outs

      less : 5 * waiting (removed (link_part_from m base size l)) + 11 ≤ size → room_in (removed (link_part_from m base size l)) ≡ room_in (link_part_from m base size l)
      less k =
          let a = stretch-fits base size l lt in
          let e : length (link_part_from m base size l) ≡ size = part_length m (link_from base size l) size (omega arith) in
          removed-room (link_part_from m base size l) (omega arith)
