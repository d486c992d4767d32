-- A memory with one part replaced: what is read elsewhere is as it was. Assumes that the part lies in the memory.
use Rattle.std.specs.Prelude.{ℕ, ◌+◌, ◌-◌, ◌*◌, ◌≤◌, ◌<◌, ◌≡◌, refl, List, [], ◌∷◌, ◌++◌, length, get_or, take, drop, set}
use Rattle.std.proofs.Common.{sym, ap, ◌∙◌, append_assoc, arith, length-append, length-take, length-drop, length-set, take-append-drop, length-take-le, take_at, drop_at, get_or-take, get_or-drop, drop-drop, get_or-set_other, drop-set-lt}
use Rattle.std.proofs.Math.ListN.{get_or-append}
use Rattle.std.proofs.lemmas.List.{take-append-le, drop-append-le, take-set-le}
use Rattle.machine_layout.specs.Layout.{part, put}

module _ (m : List ℕ) (base size : ℕ) (ys : List ℕ) (h : base + size ≤ length m) (k : length ys ≡ size) where
  tk : length (take base m) ≡ base
  tk = length-take-le base m (omega arith)

  pub length-put : length (put m base size ys) ≡ length m
  length-put = simp (length-append, length-drop, tk, k) (omega arith)

  pub get_d-put-below : (at : ℕ) → at < base → get_or (put m base size ys) at 0 ≡ get_or m at 0
  get_d-put-below at q =
      let t = tk in
      get_or-append (take base m) (ys ++ drop (base + size) m) 0 at (omega arith) ∙ get_or-take base m at 0 q

  pub part-put-same : part (put m base size ys) base size ≡ ys
  part-put-same = ap (take size) (drop_at (take base m) (ys ++ drop (base + size) m) base tk) ∙ take_at ys (drop (base + size) m) size k

  after : drop (base + size) (put m base size ys) ≡ drop (base + size) m
  after =
      let t = tk in
      ap (drop (base + size)) (sym (append_assoc (take base m) ys (drop (base + size) m)))
      ∙ drop_at (take base m ++ ys) (drop (base + size) m) (base + size) (simp (length-append, tk, k))

  pub drop-put-above : (b : ℕ) → base + size ≤ b → drop b (put m base size ys) ≡ drop b m
  drop-put-above b q =
      let e : b ≡ base + size + (b - (base + size)) = omega arith in
      rw e (sym (drop-drop (b - (base + size)) (base + size) (put m base size ys)) ∙ ap (drop (b - (base + size))) after ∙ drop-drop (b - (base + size)) (base + size) m)

  pub part-put-above : (b s : ℕ) → base + size ≤ b → part (put m base size ys) b s ≡ part m b s
  part-put-above b s q = ap (take s) (drop-put-above b q)

  front : (b s : ℕ) → b + s ≤ base → (r : List ℕ) → part (take base m ++ r) b s ≡ part (take base m) b s
  front b s q r =
      let l = tk in
      let d : length (drop b (take base m)) ≡ length (take base m) - b = length-drop b (take base m) in
      ap (take s) (drop-append-le b (take base m) r (omega arith)) ∙ take-append-le s (drop b (take base m)) r (omega arith)

  pub part-put-below : (b s : ℕ) → b + s ≤ base → part (put m base size ys) b s ≡ part m b s
  part-put-below b s q =
      front b s q (ys ++ drop (base + size) m) ∙ sym (front b s q (drop base m)) ∙ ap (λ (l : List ℕ). part l b s) (take-append-drop base m)

pub part_length : (m : List ℕ) (base size : ℕ) → base + size ≤ length m → length (part m base size) ≡ size
part_length m base size h = let d : length (drop base m) ≡ length m - base = length-drop base m in length-take-le size (drop base m) (omega arith)

-- one byte set
pub part-set-below : (m : List ℕ) (i v b s : ℕ) → i < b → part (set m i v) b s ≡ part m b s
part-set-below m i v b s h = ap (take s) (drop-set-lt b m i v h)
