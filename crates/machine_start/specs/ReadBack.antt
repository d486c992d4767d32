-- What is read from a memory into which start wrote: figures of two bytes, bytes in a row, names in a row, empty links; and that all other bytes are as they
-- were (document 01: a contract "on its answer and every lent byte at its end"). Assumes that what is written lies in the memory.
use Prim.Native.Nat.{ℕ, zero, suc, ◌+◌, ◌*◌, ◌/◌, ◌%◌, ◌≤◌, ◌<◌}
use Rattle.std.specs.Prelude.{◌≡◌, ◌⊎◌, List, [], ◌∷◌, ◌++◌, length, set, take, drop}
use Rattle.std.proofs.Math.Path.{refl}
use Rattle.std.proofs.Common.{sym, ap, ap₂, ◌∙◌, inl, inr, append_assoc, arith, take_at, drop_at, length-take-le, get_or-set_same}
use Rattle.std.proofs.Math.Decide.{ℕ_discrete}
use Rattle.std.proofs.Math.ListN.{get_or, length-set}
use Rattle.std.proofs.lemmas.List.Edits.{sets, sets-eq}
use Rattle.std.proofs.Math.Seq.{get_or-set_other}
use Rattle.machine_layout.specs.Layout.{number16, stored16, name_at, links_at, link_from, link_at, part}
use Rattle.machine_layout.specs.Fits.{apart}
use Rattle.machine_start.specs.Start.{named, cleared_from, emptied}

-- A place before or behind a stretch of n bytes.
abbrev pub Beside : ℕ → ℕ → ℕ → Type 0
Beside at n i = (i < at) ⊎ (at + n ≤ i)

-- ---- a figure of two bytes

pub length-figure : (m : List ℕ) (at x : ℕ) → length (stored16 m at x) ≡ length m
unfolding stored16
length-figure m at x = length-set (set m at (x % 256)) (at + 1) (x / 256) ∙ length-set m at (x % 256)

pub figure-kept : (m : List ℕ) (at x i : ℕ) → Beside at 2 i → get_or (stored16 m at x) i 0 ≡ get_or m i 0
unfolding stored16
figure-kept m at x i o =
    get_or-set_other (set m at (x % 256)) (at + 1) i (x / 256) 0 (λ e. other e o) ∙ get_or-set_other m at i (x % 256) 0 (λ e. same e o)
  where
    other : i ≡ at + 1 → Beside at 2 i → ⊥
    other e (inl p) = omega arith
    other e (inr p) = omega arith

    same : i ≡ at → Beside at 2 i → ⊥
    same e (inl p) = omega arith
    same e (inr p) = omega arith

pub figure-read : (m : List ℕ) (at x : ℕ) → at + 2 ≤ length m → x < 65536 → number16 (stored16 m at x) at ≡ x
unfolding stored16 number16
figure-read m at x h k =
    let low : get_or (set (set m at (x % 256)) (at + 1) (x / 256)) at 0 ≡ x % 256 =
    get_or-set_other (set m at (x % 256)) (at + 1) at (x / 256) 0 (λ e. omega arith) ∙ get_or-set_same m at (x % 256) 0 (omega arith)
    in
    let high : get_or (set (set m at (x % 256)) (at + 1) (x / 256)) (at + 1) 0 ≡ x / 256 =
    get_or-set_same (set m at (x % 256)) (at + 1) (x / 256) 0 (omega (arith, length-set m at (x % 256)))
    in
    ap₂ (λ (a b : ℕ). a + 256 * b) low high ∙ omega arith

pub number-kept : (m k : List ℕ) (at : ℕ) → get_or k at 0 ≡ get_or m at 0 → get_or k (at + 1) 0 ≡ get_or m (at + 1) 0 → number16 k at ≡ number16 m at
unfolding number16
number-kept m k at a b = ap₂ (λ (x y : ℕ). x + 256 * y) a b

-- ---- bytes in a row

pub row_kept : (vs m : List ℕ) (at i : ℕ) → Beside at (length vs) i → get_or (sets m at vs) i 0 ≡ get_or m i 0
row_kept [] m at i o = refl
row_kept (v ∷ vs) m at i o = row_kept vs (set m at v) (suc at) i (onward o) ∙ get_or-set_other m at i v 0 (λ e. differs e o)
  where
    onward : Beside at (suc (length vs)) i → Beside (suc at) (length vs) i
    onward (inl p) = inl (omega arith)
    onward (inr p) = inr (omega arith)

    differs : i ≡ at → Beside at (suc (length vs)) i → ⊥
    differs e (inl p) = omega arith
    differs e (inr p) = omega arith

pub row_read : (vs m : List ℕ) (at j : ℕ) → at + length vs ≤ length m → j < length vs → get_or (sets m at vs) (at + j) 0 ≡ get_or vs j 0
row_read [] m at j h k = absurd (omega arith)
row_read (v ∷ vs) m at zero h k =
    let e : at + 0 ≡ at = omega arith in
    rw e (row_kept vs (set m at v) (suc at) at (inl (omega arith)) ∙ get_or-set_same m at v 0 (omega arith))
row_read (v ∷ vs) m at (suc j) h k =
    let e : at + suc j ≡ suc at + j = omega arith in
    rw e (row_read vs (set m at v) (suc at) j (omega (arith, length-set m at v)) (omega arith))

pub row-part : (vs m : List ℕ) (at : ℕ) → at + length vs ≤ length m → part (sets m at vs) at (length vs) ≡ vs
row-part vs m at h =
    ap (λ (k : List ℕ). part k at (length vs)) (sets-eq vs m at h ∙ append_assoc (take at m) vs (drop (at + length vs) m))
    ∙ ap (take (length vs)) (drop_at (take at m) (vs ++ drop (at + length vs) m) at (length-take-le at m (omega arith)))
    ∙ take_at vs (drop (at + length vs) m) (length vs) refl

-- ---- names in a row

pub length-named : (k : ℕ) (m : List ℕ) (at : ℕ) (ls : List ℕ) → length (named k m at ls) ≡ length m
unfolding named
length-named zero m at ls = refl
length-named (suc k) m at ls = length-figure (named k m at ls) (at + 2 * k) (get_or ls k 0) ∙ length-named k m at ls

pub named-kept : (k : ℕ) (m : List ℕ) (at : ℕ) (ls : List ℕ) (i : ℕ) → Beside at (2 * k) i → get_or (named k m at ls) i 0 ≡ get_or m i 0
unfolding named
named-kept zero m at ls i o = refl
named-kept (suc k) m at ls i o = figure-kept (named k m at ls) (at + 2 * k) (get_or ls k 0) i (last o) ∙ named-kept k m at ls i (before o)
  where
    last : Beside at (2 * suc k) i → Beside (at + 2 * k) 2 i
    last (inl p) = inl (omega arith)
    last (inr p) = inr (omega arith)

    before : Beside at (2 * suc k) i → Beside at (2 * k) i
    before (inl p) = inl p
    before (inr p) = inr (omega arith)

pub named-read : (k : ℕ) (m : List ℕ) (at : ℕ) (ls : List ℕ) → at + 2 * k ≤ length m → (j : ℕ) → j < k → get_or ls j 0 < 65536 → name_at (named k m at ls) at j ≡ get_or ls j 0
unfolding named name_at
named-read zero m at ls h j l s = absurd (omega arith)
named-read (suc k) m at ls h j l s = go (ℕ_discrete j k) (λ p. named-read k m at ls (omega arith) j p s)
  where
    inside : at + 2 * k + 2 ≤ length (named k m at ls)
    inside = omega (arith, length-named k m at ls)

    go : Dec (j ≡ k) → (j < k → number16 (named k m at ls) (at + 2 * j) ≡ get_or ls j 0)
        → number16 (stored16 (named k m at ls) (at + 2 * k) (get_or ls k 0)) (at + 2 * j) ≡ get_or ls j 0
    go (yes e) ih = rw e (figure-read (named k m at ls) (at + 2 * k) (get_or ls k 0) inside (rw e at s))
    go (no e) ih =
        number-kept (named k m at ls) (stored16 (named k m at ls) (at + 2 * k) (get_or ls k 0)) (at + 2 * j)
        (figure-kept (named k m at ls) (at + 2 * k) (get_or ls k 0) (at + 2 * j) (inl (omega arith)))
        (figure-kept (named k m at ls) (at + 2 * k) (get_or ls k 0) (at + 2 * j + 1) (inl (omega arith)))
        ∙ ih (omega arith)

-- ---- empty links

module _ (base : ℕ) where
  pub length-emptied-from : (k size : ℕ) (m : List ℕ) → length (cleared_from k base size m) ≡ length m
  unfolding cleared_from
  length-emptied-from zero size m = refl
  length-emptied-from (suc k) size m = length-set (cleared_from k base size m) (link_from base size k) 0 ∙ length-emptied-from k size m

  pub emptied-from-kept : (k size : ℕ) (m : List ℕ) (i : ℕ) → i < base → get_or (cleared_from k base size m) i 0 ≡ get_or m i 0
  unfolding cleared_from
  emptied-from-kept zero size m i h = refl
  emptied-from-kept (suc k) size m i h = get_or-set_other (cleared_from k base size m) (link_from base size k) i 0 0 (λ e. omega arith) ∙ emptied-from-kept k size m i h

  pub emptied-from-read : (k size : ℕ) (m : List ℕ) (l : ℕ) → 1 ≤ size → l < k → link_from base size l < length m → get_or (cleared_from k base size m) (link_from base size l) 0 ≡ 0
  unfolding cleared_from
  emptied-from-read zero size m l h p b = absurd (omega arith)
  emptied-from-read (suc k) size m l h p b = go (ℕ_discrete l k) (λ q. emptied-from-read k size m l h q b)
    where
      go : Dec (l ≡ k) → (l < k → get_or (cleared_from k base size m) (link_from base size l) 0 ≡ 0)
          → get_or (set (cleared_from k base size m) (link_from base size k) 0) (link_from base size l) 0 ≡ 0
      go (yes e) ih = rw (sym e) (get_or-set_same (cleared_from l base size m) (link_from base size l) 0 0 (omega (arith, length-emptied-from l size m)))
      go (no e) ih =
          get_or-set_other (cleared_from k base size m) (link_from base size k) (link_from base size l) 0 0 (λ z. let a = apart size l k (omega arith) in omega arith)
          ∙ ih (omega arith)

-- of a machine's own links
pub length-emptied : (k size : ℕ) (m : List ℕ) → length (emptied k size m) ≡ length m
length-emptied = length-emptied-from links_at

pub emptied-kept : (k size : ℕ) (m : List ℕ) (i : ℕ) → i < 21760 → get_or (emptied k size m) i 0 ≡ get_or m i 0
emptied-kept = emptied-from-kept links_at

pub emptied-read : (k size : ℕ) (m : List ℕ) (l : ℕ) → 1 ≤ size → l < k → link_at size l < length m → get_or (emptied k size m) (link_at size l) 0 ≡ 0
emptied-read = emptied-from-read links_at
