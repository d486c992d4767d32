-- Laws of specs/PlaneBytes.antt, and what only they need.
use Rattle.std.specs.Prelude.{ℕ, ◌+◌, ◌-◌, ◌*◌, ◌≤◌, ◌<◌, ◌≡◌, ◌≢◌, take, drop}
use Rattle.std.proofs.Math.Path.{refl, ap, ap₂}
use Rattle.std.proofs.Common.{sym, ◌∙◌, arith, add_assoc, length-append, length-drop, take-append-drop, length-take-le, take_at, drop_at, drop-drop, get_or-take, get_or-drop, get_or-set_same, get_or-set_other}
use mathlib.Core.List.{List, ◌++◌, append_assoc}
use Rattle.std.proofs.Math.ListN.{length, get_or, set, length-set, get_or-append}
use Rattle.std.proofs.lemmas.List.{take-append-le, drop-append-le, take-set-le, drop-set-add}
use Rattle.std.proofs.Math.Seq.{take-append-add, drop-append-add, set-append_left}
use Rattle.value.specs.Bytes.{word_at}
use Rattle.machine_layout.specs.Layout.{capacity_at, operator_count_at, link_count_at, input_count_at, result_count_at, untaken_at, trigger_at, input_links_at, result_links_at, input_kinds_at, capacity_byte, operators_of, links_of, inputs_of, results_of, untaken_of, trigger_of, input_link, result_link, stored_kinds, most_inputs, most_results, most_operators, most_links, links_at, least_size, link_at, link_from, need, number16, name_at, operator_at, ports_at, port_of, kind_byte, register_at, part, put}
use Rattle.machine_firing.specs.Parts.{length-put, drop-put-above, part_length, part-set-below}
use Rattle.machine_firing.specs.Fire.{register_of}
use Rattle.machine_planes.specs.Planes.{most_tags, untaken_under, plane_bytes, plane_at, tagged_need, plane_of}
use Rattle.machine_planes.specs.PlaneBytes.{headed}

-- ---- two lists behind each other: a part read or replaced in one of them
module _ (x y : List ℕ) (b s : ℕ) where
  pub part-before : b + s ≤ length x → part (x ++ y) b s ≡ part x b s
  part-before h =
      let d : length (drop b x) ≡ length x - b = length-drop b x in
      ap (take s) (drop-append-le b x y (omega arith)) ∙ take-append-le s (drop b x) y (omega arith)

  pub part-behind : (n : ℕ) → length x ≡ n → part (x ++ y) (n + b) s ≡ part y b s
  part-behind n e = ap (λ (k : ℕ). part (x ++ y) (k + b) s) (sym e) ∙ ap (take s) (drop-append-add x y b)

  pub put-before : (ys : List ℕ) → b + s ≤ length x → put (x ++ y) b s ys ≡ put x b s ys ++ y
  put-before ys h =
      ap₂ (λ (p q : List ℕ). p ++ (ys ++ q)) (take-append-le b x y (omega arith)) (drop-append-le (b + s) x y h)
      ∙ ap (λ (q : List ℕ). take b x ++ q) (sym (append_assoc ys (drop (b + s) x) y))
      ∙ sym (append_assoc (take b x) (ys ++ drop (b + s) x) y)

  pub put-behind : (ys : List ℕ) (n : ℕ) → length x ≡ n → put (x ++ y) (n + b) s ys ≡ x ++ put y b s ys
  put-behind ys n e =
      ap (λ (k : ℕ). put (x ++ y) (k + b) s ys) (sym e)
      ∙ ap₂ (λ (p q : List ℕ). p ++ (ys ++ q)) (take-append-add x y b)
      (ap (λ (k : ℕ). drop k (x ++ y)) (add_assoc (length x) b s) ∙ drop-append-add x y (b + s))
      ∙ append_assoc x (take b y) (ys ++ drop (b + s) y)

-- ---- a part within a part
module _ (m : List ℕ) (a n : ℕ) (h : a + n ≤ length m) (b s : ℕ) (k : b + s ≤ n) where
  pub part-inside : part (part m a n) b s ≡ part m (a + b) s
  part-inside =
      let w : length (part m a n) ≡ n = part_length m a n h in
      sym (part-before (take n (drop a m)) (drop n (drop a m)) b s (omega arith))
      ∙ ap (λ (l : List ℕ). part l b s) (take-append-drop n (drop a m))
      ∙ ap (take s) (drop-drop b a m)

  pub put-inside : (ys : List ℕ) → length ys ≡ s → part (put m (a + b) s ys) a n ≡ put (part m a n) b s ys
  put-inside ys e =
      let w : length (part m a n) ≡ n = part_length m a n h in
      let t : length (take a m) ≡ a = length-take-le a m (omega arith) in
      ap (λ (l : List ℕ). part (put l (a + b) s ys) a n) (sym (take-append-drop a m))
      ∙ ap (λ (l : List ℕ). part l a n) (put-behind (take a m) (drop a m) b s ys a t)
      ∙ ap (take n) (drop_at (take a m) (put (drop a m) b s ys) a t)
      ∙ ap (λ (l : List ℕ). take n (put l b s ys)) (sym (take-append-drop n (drop a m)))
      ∙ ap (take n) (put-before (take n (drop a m)) (drop n (drop a m)) b s ys (omega arith))
      ∙ take_at (put (part m a n) b s ys) (drop n (drop a m)) n (length-put (part m a n) b s ys (omega arith) e ∙ w)

-- ---- what lies behind a part that is replaced, and before a byte that is set
pub get_d-put-above : (m : List ℕ) (a s : ℕ) (ys : List ℕ) → a + s ≤ length m → length ys ≡ s → (at : ℕ) → a + s ≤ at → get_or (put m a s ys) at 0 ≡ get_or m at 0
get_d-put-above m a s ys h e at k =
    let q : at ≡ a + s + (at - (a + s)) = omega arith in
    rw q (sym (get_or-drop (a + s) (put m a s ys) (at - (a + s)) 0)
    ∙ ap (λ (l : List ℕ). get_or l (at - (a + s)) 0) (drop-put-above m a s ys h e (a + s) (omega arith))
    ∙ get_or-drop (a + s) m (at - (a + s)) 0)

pub part-set-above : (m : List ℕ) (i v b s : ℕ) → b + s ≤ i → part (set m i v) b s ≡ part m b s
part-set-above m i v b s h =
    let q : i ≡ b + (i - b) = omega arith in
    ap (λ (j : ℕ). part (set m j v) b s) q ∙ ap (take s) (drop-set-add b m (i - b) v) ∙ take-set-le s (drop b m) (i - b) v (omega arith)

module _ (m : List ℕ) (t : ℕ) (long : tagged_need ≤ length m) (tag : t < most_tags) where
  low-length : length (take links_at m) ≡ links_at
  low-length = length-take-le links_at m (omega arith)

  pub headed-length : length (headed (take links_at m) (untaken_under m t)) ≡ links_at
  headed-length = simp length-set low-length

  links-length : length (part m (plane_at t) plane_bytes) ≡ plane_bytes
  links-length = part_length m (plane_at t) plane_bytes (omega arith)

  pub plane-split : plane_of m t ≡ headed (take links_at m) (untaken_under m t) ++ part m (plane_at t) plane_bytes
  unfolding plane_of
  plane-split =
      let l = low-length in
      let k : length (set (take links_at m) capacity_at 1) ≡ links_at = simp length-set l in
      ap (λ (x : List ℕ). set x untaken_at (untaken_under m t)) (set-append_left (take links_at m) (part m (plane_at t) plane_bytes) capacity_at 1 (omega arith))
      ∙ set-append_left (set (take links_at m) capacity_at 1) (part m (plane_at t) plane_bytes) untaken_at (untaken_under m t) (omega arith)

  pub plane-length : length (plane_of m t) ≡ need least_size
  plane-length = ap length plane-split ∙ length-append (headed (take links_at m) (untaken_under m t)) (part m (plane_at t) plane_bytes) ∙ ap₂ ◌+◌ headed-length links-length

  -- ---- bytes below the links
  low_byte : (at : ℕ) → at < links_at → get_or (plane_of m t) at 0 ≡ get_or (headed (take links_at m) (untaken_under m t)) at 0
  low_byte at h =
      let k = headed-length in
      ap (λ (l : List ℕ). get_or l at 0) plane-split ∙ get_or-append (headed (take links_at m) (untaken_under m t)) (part m (plane_at t) plane_bytes) 0 at (omega arith)

  pub plane-byte : (at : ℕ) → at < links_at → at ≢ capacity_at → at ≢ untaken_at → get_or (plane_of m t) at 0 ≡ get_or m at 0
  plane-byte at h p q =
      low_byte at h
      ∙ get_or-set_other (set (take links_at m) capacity_at 1) untaken_at at (untaken_under m t) 0 q
      ∙ get_or-set_other (take links_at m) capacity_at at 1 0 p
      ∙ get_or-take links_at m at 0 h

  pub plane-capacity : capacity_byte (plane_of m t) ≡ 1
  plane-capacity =
      let l = low-length in
      low_byte capacity_at (omega arith)
      ∙ get_or-set_other (set (take links_at m) capacity_at 1) untaken_at capacity_at (untaken_under m t) 0 (omega arith)
      ∙ get_or-set_same (take links_at m) capacity_at 1 0 (omega arith)

  pub plane-untaken : untaken_of (plane_of m t) ≡ untaken_under m t
  plane-untaken =
      let l : length (set (take links_at m) capacity_at 1) ≡ links_at = simp length-set low-length in
      low_byte untaken_at (omega arith)
      ∙ get_or-set_same (set (take links_at m) capacity_at 1) untaken_at (untaken_under m t) 0 (omega arith)

  -- behind the sets untaken, a part
  pub plane-part : (b s : ℕ) → untaken_at < b → b + s ≤ links_at → part (plane_of m t) b s ≡ part m b s
  plane-part b s h k =
      let l = low-length in
      let e = headed-length in
      ap (λ (x : List ℕ). part x b s) plane-split
      ∙ part-before (headed (take links_at m) (untaken_under m t)) (part m (plane_at t) plane_bytes) b s (omega arith)
      ∙ part-set-below (set (take links_at m) capacity_at 1) untaken_at (untaken_under m t) b s h
      ∙ part-set-below (take links_at m) capacity_at 1 b s (omega arith)
      ∙ sym (part-before (take links_at m) (drop links_at m) b s (omega arith))
      ∙ ap (λ (x : List ℕ). part x b s) (take-append-drop links_at m)

  -- ---- figures, names and words
  pub plane-number : (at : ℕ) → at ≢ capacity_at → at ≢ untaken_at → at + 1 ≢ untaken_at → at + 2 ≤ links_at → number16 (plane_of m t) at ≡ number16 m at
  unfolding number16
  plane-number at p q r h = ap₂ (λ (x y : ℕ). x + 256 * y) (plane-byte at (omega arith) p q) (plane-byte (at + 1) (omega arith) (omega arith) r)

  pub plane-name : (at j : ℕ) → untaken_at < at → at + 2 * j + 2 ≤ links_at → name_at (plane_of m t) at j ≡ name_at m at j
  unfolding name_at
  plane-name at j h k = plane-number (at + 2 * j) (omega arith) (omega arith) (omega arith) k

  pub plane-word : (at : ℕ) → untaken_at < at → at + 5 ≤ links_at → word_at (plane_of m t) at ≡ word_at m at
  unfolding word_at
  plane-word at h k =
      let b : (i : ℕ) → untaken_at < i → i < links_at → get_or (plane_of m t) i 0 ≡ get_or m i 0 = λ i p q. plane-byte i q (omega arith) (omega arith) in
      rw (b at h (omega arith), b (at + 1) (omega arith) (omega arith), b (at + 2) (omega arith) (omega arith), b (at + 3) (omega arith) (omega arith), b (at + 4) (omega arith) (omega arith)) refl

  -- ---- the header
  pub plane-operators : operators_of (plane_of m t) ≡ operators_of m
  plane-operators = plane-number operator_count_at (omega arith) (omega arith) (omega arith) (omega arith)

  pub plane-link-count : links_of (plane_of m t) ≡ links_of m
  plane-link-count = plane-number link_count_at (omega arith) (omega arith) (omega arith) (omega arith)

  pub plane-inputs : inputs_of (plane_of m t) ≡ inputs_of m
  plane-inputs = plane-byte input_count_at (omega arith) (omega arith) (omega arith)

  pub plane-results : results_of (plane_of m t) ≡ results_of m
  plane-results = plane-byte result_count_at (omega arith) (omega arith) (omega arith)

  pub plane-trigger : trigger_of (plane_of m t) ≡ trigger_of m
  plane-trigger = plane-number trigger_at (omega arith) (omega arith) (omega arith) (omega arith)

  pub plane-input-link : (j : ℕ) → j < most_inputs → input_link (plane_of m t) j ≡ input_link m j
  plane-input-link j h = plane-name input_links_at j (omega arith) (omega arith)

  pub plane-result-link : (j : ℕ) → j < most_results → result_link (plane_of m t) j ≡ result_link m j
  plane-result-link j h = plane-name result_links_at j (omega arith) (omega arith)

  pub plane-kinds : input_kinds_at + inputs_of m ≤ links_at → stored_kinds (plane_of m t) ≡ stored_kinds m
  plane-kinds h = ap (part (plane_of m t) input_kinds_at) plane-inputs ∙ plane-part input_kinds_at (inputs_of m) (omega arith) (omega arith)

  -- ---- an operator
  module _ (i : ℕ) (few : i < most_operators) where
    pub plane-kind : kind_byte (plane_of m t) i ≡ kind_byte m i
    plane-kind = plane-byte (operator_at i) (omega arith) (omega arith) (omega arith)

    pub plane-port : (p : ℕ) → p < 6 → port_of (plane_of m t) i p ≡ port_of m i p
    plane-port p h = plane-name (operator_at i + ports_at) p (omega arith) (omega arith)

    pub plane-register : register_of (plane_of m t) i ≡ register_of m i
    unfolding register_of
    plane-register = rw (plane-word (register_at i) (omega arith) (omega arith)) refl

  -- ---- the links
  pub plane-links : (b s : ℕ) → b + s ≤ plane_bytes → part (plane_of m t) (links_at + b) s ≡ part m (plane_at t + b) s
  plane-links b s h =
      ap (λ (x : List ℕ). part x (links_at + b) s) plane-split
      ∙ part-behind (headed (take links_at m) (untaken_under m t)) (part m (plane_at t) plane_bytes) b s links_at headed-length
      ∙ part-inside m (plane_at t) plane_bytes (omega arith) b s h

  pub plane-link : (l : ℕ) → l < most_links → part (plane_of m t) (link_at least_size l) least_size ≡ part m (link_from (plane_at t) least_size l) least_size
  plane-link l h = plane-links (l * least_size) least_size (omega arith)
