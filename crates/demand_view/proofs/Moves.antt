-- A standing memory's links, one at a time: its first token, whether it has room, and the memory after one token was added or taken away
-- (machine_firing/specs/Links), which stands with the links of network/specs/Net's `append` and `pop`. Firing, push and take are made of these.
-- Assumes a link of the graph.
use Prim.Native.Nat.{ℕ, ◌+◌, ◌*◌, ◌≤◌, ◌<◌}
use Rattle.std.specs.Prelude.{◌≡◌, ◌≢◌, ltb, length}
use Rattle.std.proofs.Math.Path.{refl}
use Rattle.std.proofs.Common.{sym, subst, arith, lt-ltb}
use mathlib.Core.List.{List, [], ◌∷◌}
use Rattle.std.proofs.Math.Decide.{ℕ_discrete}
use Rattle.value.specs.declared.Value.{Value}
use Rattle.value.specs.Bytes.{InRange, word_of}
use Rattle.network.specs.Net.{Token, val, Links, tail, pop, append}
use Rattle.network.proofs.Net.{pop-same, pop-other, append-same, append-other}
use Rattle.machine_queue.specs.Stretch.{appended, removed}
use Rattle.machine_layout.specs.Layout.{links_at, link_at, size_of}
use Rattle.machine_layout.specs.Fits.{stretch-fits}
use Rattle.machine_firing.specs.Parts.{part_length}
use Rattle.machine_firing.specs.Links.{head_at, head_from, room_at, room_from, removed_at, removed_from, appended_at, appended_from}
use Rattle.machine_firing.specs.LinkLaws.{link_part, keeps-appended, keeps-removed, same-on, other-on, length_removed, low-removed, length-appended, low-appended}
use Rattle.graph.specs.Translation.{Made}
use Rattle.demand_view.specs.Sound.{Sound}
use Rattle.demand_view.specs.Stands.{Waits, Stands}
use Rattle.demand_view.proofs.Waits.{waits-room, waits-none, waits-head, waits-value, waits-appended, waits-removed}
use Rattle.demand_view.proofs.Frame.{stands-links}

module _ (g : Made) (S : Sound g) (kinds : List ℕ) (capacity : ℕ) (m : List ℕ) (q : Links) (H : Stands g kinds capacity m q) (l : ℕ) (below : l < g.links) where
  abbrev size : ℕ
  size = size_of capacity

  is-link : l < 3105
  is-link = omega (arith, S.few-links)

  stretch-length : length (link_part m size l) ≡ 5 * capacity + 1
  stretch-length = part_length m (link_at size l) size (omega (arith, stretch-fits links_at size l is-link, H.long))

  waiting-there : (ts : List Token) → q l ≡ ts → Waits capacity (link_part m size l) ts
  waiting-there ts e = subst (Waits capacity (link_part m size l)) e (H.waits l below)

  pub stands-head : (v : Value) (ts : List Token) → q l ≡ val v ∷ ts → head_at m size l ≡ word_of v
  unfolding head_from
  stands-head v ts e = simp (lt-ltb l 3105 is-link) (waits-head capacity (link_part m size l) stretch-length v ts (waiting-there (val v ∷ ts) e))

  pub stands-none : q l ≡ [] → head_at m size l ≡ 0
  unfolding head_from
  stands-none e = simp (lt-ltb l 3105 is-link) (waits-none capacity (link_part m size l) stretch-length (waiting-there [] e))

  -- what waits is a value in its range
  pub stands-value : (t : Token) (ts : List Token) → q l ≡ t ∷ ts → (v : Value) × InRange v × (t ≡ val v)
  stands-value t ts e = waits-value capacity (link_part m size l) stretch-length t ts (waiting-there (t ∷ ts) e)

  pub stands-room : room_at m size l ≡ ltb (length (q l)) capacity
  unfolding room_from
  stands-room = simp (lt-ltb l 3105 is-link) (waits-room capacity (link_part m size l) stretch-length (q l) (H.waits l below))

  -- ---- one link changed
  module _ (f : List ℕ → List ℕ) (n : List ℕ) (r : Links)
      (same : link_part n size l ≡ f (link_part m size l)) (others : (k : ℕ) → k ≢ l → link_part n size k ≡ link_part m size k)
      (elsewhere : (k : ℕ) → k ≢ l → r k ≡ q k) (there : Waits capacity (f (link_part m size l)) (r l)) where
    waits-each : (k : ℕ) → k < g.links → Waits capacity (link_part n size k) (r k)
    waits-each k h = go (ℕ_discrete k l)
      where
        go : Dec (k ≡ l) → Waits capacity (link_part n size k) (r k)
        go (yes e) = subst (λ j. Waits capacity (link_part n size j) (r j)) (sym e) (subst (λ s. Waits capacity s (r l)) (sym same) there)
        go (no ne) =
            subst (λ s. Waits capacity s (r k)) (sym (others k ne)) (subst (Waits capacity (link_part m size k)) (sym (elsewhere k ne)) (H.waits k h))

  beyond : (r : Links) → ((k : ℕ) → k ≢ l → r k ≡ q k) → (k : ℕ) → g.links ≤ k → r k ≡ q k
  beyond r e k h = e k (let ne : k ≢ l = omega arith in ne)

  pub stands-append : (v : Value) → length (q l) < capacity → InRange v → Stands g kinds capacity (appended_at m size l (word_of v)) (append l (val v) q)
  unfolding appended_from
  stands-append v room fine =
      stands-links g S kinds capacity m q H (appended_at m size l (word_of v)) (append l (val v) q)
      (length-appended m links_at size H.long l (word_of v))
      (low-appended m links_at size H.long l (word_of v))
      (beyond (append l (val v) q) other)
      (waits-each f (appended_at m size l (word_of v)) (append l (val v) q)
      (same-on m links_at size H.long l f (keeps-appended (word_of v)) is-link)
      (other-on m links_at size H.long l f (keeps-appended (word_of v)))
      other
      (subst (Waits capacity (appended (link_part m size l) (word_of v))) (sym (append-same l (val v) q))
      (waits-appended capacity (link_part m size l) stretch-length (q l) (H.waits l below) room v fine)))
    where
      f : List ℕ → List ℕ
      f = λ s. appended s (word_of v)

      other : (k : ℕ) → k ≢ l → append l (val v) q k ≡ q k
      other k ne = append-other l k (val v) q ne

  pub stands-remove : 0 < length (q l) → Stands g kinds capacity (removed_at m size l) (pop l q)
  unfolding removed_from
  stands-remove some-wait =
      stands-links g S kinds capacity m q H (removed_at m size l) (pop l q)
      (length_removed m links_at size H.long l)
      (low-removed m links_at size H.long l)
      (beyond (pop l q) other)
      (waits-each removed (removed_at m size l) (pop l q)
      (same-on m links_at size H.long l removed keeps-removed is-link)
      (other-on m links_at size H.long l removed keeps-removed)
      other
      (subst (Waits capacity (removed (link_part m size l))) (sym (pop-same l q)) (go (q l) refl some-wait)))
    where
      other : (k : ℕ) → k ≢ l → pop l q k ≡ q k
      other k ne = pop-other l k q ne

      go : (ts : List Token) → q l ≡ ts → 0 < length ts → Waits capacity (removed (link_part m size l)) (tail ts)
      go [] e h = absurd (omega arith)
      go (t ∷ ts) e h = waits-removed capacity (link_part m size l) stretch-length t ts (waiting-there (t ∷ ts) e)
