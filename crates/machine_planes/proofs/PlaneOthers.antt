-- Laws of specs/PlaneOthers.antt, and what only they need.
use Rattle.std.specs.Prelude.{ℕ, suc, ◌+◌, ◌*◌, ◌/◌, ◌%◌, ◌≤◌, ◌<◌, ◌≡◌, ◌≢◌, ◌⊎◌, Bool, ◌&&◌, leb, ltb, eqb, take, set}
use Rattle.std.proofs.Math.Path.{refl, sym, ap}
use Rattle.std.proofs.Common.{ap₂, ◌∙◌, inl, inr, ⊎_elim, arith, ltb-true, ne_eqb, get_or-set_other}
use Rattle.std.proofs.Math.Bool.{true, false}
use mathlib.Core.List.{List, [], ◌∷◌, ◌++◌}
use Rattle.std.proofs.Math.Option.{Option, none, some}
use Rattle.std.proofs.Math.Decide.{dec_lt}
use Rattle.std.proofs.Math.ListN.{length, get_or}
use Rattle.std.proofs.lemmas.List.Edits.{sets}
use Rattle.std.proofs.lemmas.List.{set-get_or}
use Rattle.std.specs.Prelude as std
use Rattle.value.specs.declared.Value.{Value}
use Rattle.value.specs.Operators.{pick}
use Rattle.value.specs.Bytes.{decoded, word_or, word_bytes, word_at, stored}
use Rattle.value.proofs.Words.{length-stored}
use Rattle.network.specs.Rules.{Kind, constant, copy, operator, T-gate, F-gate, M-gate, E-gate, IC-gate, FM-gate, FS-gate, Input, Firing, takes, gives, never, rule}
use Rattle.network.specs.Decide.{Taken, untouched, also, with-head, decided}
use Rattle.network.specs.Fill.{Gives}
use Rattle.network.proofs.Fill.{register-kept}
use Rattle.machine_queue.specs.Stretch.{removed, appended}
use Rattle.machine_gates.specs.Decide.{optional, heads, told, ruled, decide_at}
use Rattle.machine_gates.proofs.Decide.{read_back}
use Rattle.machine_gates.specs.GateLaws.{Leaves}
use Rattle.machine_gates.proofs.GateLaws.{idle-leaves}
use Rattle.machine_layout.specs.Kinds.{byte_of, kind_of}
use Rattle.machine_layout.specs.Layout.{most_operators, most_links, registers_at, links_at, least_size, need_from, link_from, kind_byte, register_at, part, put}
use Rattle.machine_layout.specs.Fits.{stretch-fits}
use Rattle.machine_firing.specs.Links.{on_link_from, removed_from, appended_from}
use Rattle.machine_firing.specs.Parts.{length-put, part-put-below, part-put-above, part_length}
use Rattle.machine_firing.specs.LinkLaws.{Keeps, length-on, low-on, byte-kept, keeps-removed, keeps-appended}
use Rattle.machine_firing.specs.Fire.{Plan, planned, register_of, decision_from, plan_from, ready_from, moved_from, performed_from, able_from, fired_from}
use Rattle.machine_planes.specs.Planes.{most_tags, tags_at, untaken_under, plane_bytes, plane_at, tagged_need, plane_of}
use Rattle.machine_planes.proofs.PlaneBytes.{get_d-put-above, plane-split}
use Rattle.machine_planes.specs.PlaneBytes.{headed}
use Rattle.machine_planes.proofs.PlaneFirings.{tag-put, plane-beyond, plane-stored, by-moves}
use Rattle.machine_planes.specs.PlaneOthers.{Forgets}

-- ---- another tag's machine
module _ (t u : ℕ) (tag : t < most_tags) (tag' : u < most_tags) (other : u ≢ t) where
  module _ (m : List ℕ) (long : tagged_need ≤ length m) where
    beside-part : (b s : ℕ) (ys : List ℕ) → length ys ≡ s → b + s ≤ plane_bytes → part (put m (plane_at t + b) s ys) (plane_at u) plane_bytes ≡ part m (plane_at u) plane_bytes
    beside-part b s ys e h = go (dec_lt u t)
      where
        go : Dec (u < t) → part (put m (plane_at t + b) s ys) (plane_at u) plane_bytes ≡ part m (plane_at u) plane_bytes
        go (yes p) = part-put-below m (plane_at t + b) s ys (omega arith) e (plane_at u) plane_bytes (omega arith)
        go (no p) = let q : t < u = omega arith in part-put-above m (plane_at t + b) s ys (omega arith) e (plane_at u) plane_bytes (omega arith)

    pub beside-put : (b s : ℕ) (ys : List ℕ) → length ys ≡ s → b + s ≤ plane_bytes → plane_of (put m (plane_at t + b) s ys) u ≡ plane_of m u
    beside-put b s ys e h =
        let k = length-put m (plane_at t + b) s ys (omega arith) e in
        plane-split (put m (plane_at t + b) s ys) u (omega arith) tag'
        ∙ ap (λ (c : ℕ). headed (take links_at (put m (plane_at t + b) s ys)) c ++ part (put m (plane_at t + b) s ys) (plane_at u) plane_bytes) (tag-put m t long tag b s ys e h u)
        ∙ ap₂ (λ (x y : List ℕ). headed x (untaken_under m u) ++ y) (part-put-below m (plane_at t + b) s ys (omega arith) e 0 links_at (omega arith)) (beside-part b s ys e h)
        ∙ sym (plane-split m u long tag')

    -- the tag's own byte
    pub beside-tag : (v : ℕ) → plane_of (set m (tags_at + t) v) u ≡ plane_of m u
    beside-tag v =
        plane-beyond m u long tag' (tags_at + t) v (omega arith)
        ∙ ap (λ (c : ℕ). headed (take links_at m) c ++ part m (plane_at u) plane_bytes) (get_or-set_other m (tags_at + t) _ v 0 (omega arith))
        ∙ sym (plane-split m u long tag')

    pub beside-on : (l : ℕ) (f : List ℕ → List ℕ) → Keeps f → plane_of (on_link_from m (plane_at t) least_size l f) u ≡ plane_of m u
    beside-on l f keeps = go (ltb l most_links) refl
      where
        go : (b : Bool) → ltb l most_links ≡ b → plane_of (pick b (put m (link_from (plane_at t) least_size l) least_size (f (part m (link_from (plane_at t) least_size l) least_size))) m) u ≡ plane_of m u
        go true e =
            let h = ltb-true l most_links e in
            let q = part m (link_from (plane_at t) least_size l) least_size in
            beside-put (l * least_size) least_size (f q) (keeps q ∙ part_length m (link_from (plane_at t) least_size l) least_size (omega arith)) (omega arith)
        go false e = refl

    pub beside-removed : (l : ℕ) → plane_of (removed_from m (plane_at t) least_size l) u ≡ plane_of m u
    unfolding removed_from
    beside-removed l = beside-on l removed keeps-removed

    pub beside-appended : (l w : ℕ) → plane_of (appended_from m (plane_at t) least_size l w) u ≡ plane_of m u
    unfolding appended_from
    beside-appended l w = beside-on l (λ q. appended q w) (keeps-appended w)

  module _ (m : List ℕ) (long : tagged_need ≤ length m) where
    -- of the second memory nothing is asked
    abbrev Beside : List ℕ → List ℕ → Type 0
    Beside x y = (tagged_need ≤ length x) × (plane_of x u ≡ plane_of m u)

    on-beside : (x y : List ℕ) (l : ℕ) (f : List ℕ → List ℕ) → Keeps f → Beside x y → Beside (on_link_from x (plane_at t) least_size l f) (on_link_from y (plane_at t) least_size l f)
    on-beside x y l f keeps b =
        let long' = b.0 in
        (omega (arith, length-on x (plane_at t) least_size (omega arith) l f keeps), beside-on x long' l f keeps ∙ b.1)

    moved-beside : (p : Plan) → Beside (moved_from m (plane_at t) least_size p) (moved_from m (plane_at t) least_size p)
    moved-beside p = by-moves Beside (plane_at t) (plane_at t) least_size on-beside p m m (long, refl)

    module _ (i : ℕ) (few : i < most_operators) where
      -- what is left of a firing is the register
      pub beside-performed : (p : Plan) → plane_of (performed_from m (plane_at t) least_size i p) u ≡ stored (plane_of m u) (register_at i) p.register
      unfolding performed_from
      beside-performed p =
          plane-stored (moved_from m (plane_at t) least_size p) u (register_at i) p.register (moved-beside p).0 tag' (omega arith) (omega arith)
          ∙ ap (λ (x : List ℕ). stored x (register_at i) p.register) (moved-beside p).1

      -- nothing, where the word stored is the one that was there
      pub beside-fired : (able_from m (plane_at t) least_size i ≡ true → stored m (register_at i) (plan_from m (plane_at t) least_size i).register ≡ m) →
          plane_of (fired_from m (plane_at t) least_size i) u ≡ plane_of m u
      unfolding fired_from
      beside-fired kept = go (able_from m (plane_at t) least_size i) refl
        where
          go : (b : Bool) → able_from m (plane_at t) least_size i ≡ b → plane_of (pick b (performed_from m (plane_at t) least_size i (plan_from m (plane_at t) least_size i)) m) u ≡ plane_of m u
          go true e =
              beside-performed (plan_from m (plane_at t) least_size i)
              ∙ sym (plane-stored m u (register_at i) (plan_from m (plane_at t) least_size i).register long tag' (omega arith) (omega arith))
              ∙ ap (λ (x : List ℕ). plane_of x u) (kept e)
          go false e = refl

-- ---- the length, and every byte below the registers or behind the links, whatever the byte where the links begin
module _ (m : List ℕ) (base size : ℕ) (h : need_from base size ≤ length m) where
  behind-on : (l : ℕ) (f : List ℕ → List ℕ) → Keeps f → (at : ℕ) → need_from base size ≤ at → get_or (on_link_from m base size l f) at 0 ≡ get_or m at 0
  behind-on l f keeps at q = go (ltb l most_links) refl
    where
      go : (b : Bool) → ltb l most_links ≡ b → get_or (pick b (put m (link_from base size l) size (f (part m (link_from base size l) size))) m) at 0 ≡ get_or m at 0
      go true e =
          let a = stretch-fits base size l (ltb-true l most_links e) in
          let x = part m (link_from base size l) size in
          get_d-put-above m (link_from base size l) size (f x) (omega arith) (keeps x ∙ part_length m (link_from base size l) size (omega arith)) at (omega arith)
      go false e = refl

  pub removed-behind : (l at : ℕ) → need_from base size ≤ at → get_or (removed_from m base size l) at 0 ≡ get_or m at 0
  unfolding removed_from
  removed-behind l = behind-on l removed keeps-removed

  pub appended-behind : (l w at : ℕ) → need_from base size ≤ at → get_or (appended_from m base size l w) at 0 ≡ get_or m at 0
  unfolding appended_from
  appended-behind l w = behind-on l (λ q. appended q w) (keeps-appended w)

module _ (m : List ℕ) (base size : ℕ) (h : need_from base size ≤ length m) where
  abbrev Outside : ℕ → Type 0
  Outside at = (at < base) ⊎ (need_from base size ≤ at)

  abbrev Kept : List ℕ → List ℕ → Type 0
  Kept x y = (length x ≡ length m) × ((at : ℕ) → Outside at → get_or x at 0 ≡ get_or m at 0)

  on-kept : (x y : List ℕ) (l : ℕ) (f : List ℕ → List ℕ) → Keeps f → Kept x y → Kept (on_link_from x base size l f) (on_link_from y base size l f)
  on-kept x y l f keeps w =
      let e = w.0 in
      let k : need_from base size ≤ length x = omega arith in
      (length-on x base size k l f keeps ∙ e, λ at q. ⊎_elim (low-on x base size k l f keeps at) (behind-on x base size k l f keeps at) q ∙ w.1 at q)

  moved-kept : (p : Plan) → Kept (moved_from m base size p) (moved_from m base size p)
  moved-kept p = by-moves Kept base base size on-kept p m m (refl, λ at q. refl)

  performed-length : (i : ℕ) (p : Plan) → length (performed_from m base size i p) ≡ length m
  unfolding performed_from
  performed-length i p = length-stored (moved_from m base size p) (register_at i) p.register ∙ (moved-kept p).0

  performed-byte : (i : ℕ) (p : Plan) (at : ℕ) → Outside at → (at < register_at i) ⊎ (register_at i + 5 ≤ at) → get_or (performed_from m base size i p) at 0 ≡ get_or m at 0
  unfolding performed_from
  performed-byte i p at q k = byte-kept (moved_from m base size p) (register_at i) p.register at k ∙ (moved-kept p).1 at q

  pub fired-length : (i : ℕ) → length (fired_from m base size i) ≡ length m
  unfolding fired_from
  fired-length i = go (able_from m base size i)
    where
      go : (b : Bool) → length (pick b (performed_from m base size i (plan_from m base size i)) m) ≡ length m
      go true = performed-length i (plan_from m base size i)
      go false = refl

  fired-byte : (i at : ℕ) → Outside at → (at < register_at i) ⊎ (register_at i + 5 ≤ at) → get_or (fired_from m base size i) at 0 ≡ get_or m at 0
  unfolding fired_from
  fired-byte i at q k = go (able_from m base size i)
    where
      go : (b : Bool) → get_or (pick b (performed_from m base size i (plan_from m base size i)) m) at 0 ≡ get_or m at 0
      go true = performed-byte i (plan_from m base size i) at q k
      go false = refl

  pub fired-low : registers_at ≤ base → (i at : ℕ) → at < registers_at → get_or (fired_from m base size i) at 0 ≡ get_or m at 0
  fired-low above i at q = fired-byte i at (inl (omega arith)) (inl (omega arith))

  pub fired-behind : links_at ≤ base → (i at : ℕ) → i < most_operators → need_from base size ≤ at → get_or (fired_from m base size i) at 0 ≡ get_or m at 0
  fired-behind above i at few q = fired-byte i at (inr q) (inr (omega arith))

-- ---- the bytes of the tags
module _ (m : List ℕ) (t : ℕ) (long : tagged_need ≤ length m) (tag : t < most_tags) where
  pub tag-removed : (l u : ℕ) → untaken_under (removed_from m (plane_at t) least_size l) u ≡ untaken_under m u
  tag-removed l u = removed-behind m (plane_at t) least_size (omega arith) l _ (omega arith)

  pub tag-appended : (l w u : ℕ) → untaken_under (appended_from m (plane_at t) least_size l w) u ≡ untaken_under m u
  tag-appended l w u = appended-behind m (plane_at t) least_size (omega arith) l w _ (omega arith)

  pub tag-fired : (i : ℕ) → i < most_operators → (u : ℕ) → untaken_under (fired_from m (plane_at t) least_size i) u ≡ untaken_under m u
  tag-fired i few u = fired-behind m (plane_at t) least_size (omega arith) (omega arith) i _ few (omega arith)

-- ---- an operator that does not remember
-- a rule that leaves its register, decided
rule-leaves : (g : std.Option Value) (f : Firing) (t : Taken) (hs : Input → Option Value) → Gives (λ h. h ≡ optional g) f → Leaves g (told (decided t f hs))
rule-leaves g (takes i k) t hs s = go (λ v. rule-leaves g (k v) (also i t) hs (s v)) (hs i)
  where
    go : ((v : Value) → Leaves g (told (decided (also i t) (k v) hs))) → (o : Option Value) → Leaves g (told (with-head o (λ v. decided (also i t) (k v) hs)))
    go ih none = idle-leaves g
    go ih (some v) = ih v
rule-leaves g (gives a b c r) t hs s = λ e. ap decoded s ∙ read_back g
rule-leaves g never t hs s = idle-leaves g

-- the bytes below FM's are those of the kinds that do not remember
forgets : (kind : ℕ) → kind < byte_of FM-gate → Forgets (kind_of kind)
unfolding kind_of
forgets kind h =
    rw (ne_eqb kind (byte_of FM-gate) (omega arith), ne_eqb kind (byte_of FS-gate) (omega arith))
    (or (leb 1 kind && leb kind 11) (some (operator kind)) _ refl
    (or (eqb kind (byte_of constant)) (some constant) _ refl
    (or (eqb kind (byte_of copy)) (some copy) _ refl
    (or (eqb kind (byte_of T-gate)) (some T-gate) _ refl
    (or (eqb kind (byte_of F-gate)) (some F-gate) _ refl
    (or (eqb kind (byte_of M-gate)) (some M-gate) _ refl
    (or (eqb kind (byte_of E-gate)) (some E-gate) _ refl
    (or (eqb kind (byte_of IC-gate)) (some IC-gate) none refl tt))))))))
  where
    or : (b : Bool) (x y : Option Kind) → Forgets x → Forgets y → Forgets (pick b x y)
    or true x y p q = p
    or false x y p q = q

decision-leaves : (kind : ℕ) (a b c g : std.Option Value) → kind < byte_of FM-gate → Leaves g (decide_at kind a b c g)
unfolding decide_at
decision-leaves kind a b c g h = go (kind_of kind) (forgets kind h)
  where
    go : (o : Option Kind) → Forgets o → Leaves g (told (ruled o a b c g))
    go none f = idle-leaves g
    go (some k) f = rule-leaves g (rule k (optional g)) untouched (heads a b c) (register-kept k (optional g) f)

lowest : (x a r : ℕ) → a < 256 → x ≡ a + 256 * r → x % 256 ≡ a
lowest x a r h e = omega arith

word-bytes : (a b c d e : ℕ) → a < 256 → b < 256 → c < 256 → d < 256 → e < 256 →
    word_bytes (a + 256 * b + 65536 * c + 16777216 * d + 4294967296 * e) ≡ a ∷ b ∷ c ∷ d ∷ e ∷ []
unfolding word_bytes
word-bytes a b c d e p q r s t =
    let w = a + 256 * b + 65536 * c + 16777216 * d + 4294967296 * e in
    let e0 : w % 256 ≡ a = omega arith in
    let e1 : w / 256 % 256 ≡ b = lowest (w / 256) b (c + 256 * d + 65536 * e) q (omega arith) in
    let e2 : w / 65536 % 256 ≡ c = lowest (w / 65536) c (d + 256 * e) r (omega arith) in
    let e3 : w / 16777216 % 256 ≡ d = lowest (w / 16777216) d e s (omega arith) in
    let e4 : w / 4294967296 % 256 ≡ e = lowest (w / 4294967296) e 0 t (omega arith) in
    rw (e0, e1, e2, e3, e4) refl

-- the word that stands there stored again
stored_same : (m : List ℕ) (at : ℕ) → ((j : ℕ) → j < 5 → get_or m (at + j) 0 < 256) → stored m at (word_at m at) ≡ m
unfolding stored word_at
stored_same m at small =
    let p0 : at + 0 ≡ at = omega arith in
    let first : get_or m at 0 < 256 = rw p0 at (small 0 (omega arith)) in
    let p1 : at + 1 ≡ suc at = omega arith in
    let p2 : at + 2 ≡ suc (suc at) = omega arith in
    let p3 : at + 3 ≡ suc (suc (suc at)) = omega arith in
    let p4 : at + 4 ≡ suc (suc (suc (suc at))) = omega arith in
    ap (sets m at) (word-bytes (get_or m at 0) (get_or m (at + 1) 0) (get_or m (at + 2) 0) (get_or m (at + 3) 0) (get_or m (at + 4) 0) first (small 1 (omega arith)) (small 2 (omega arith)) (small 3 (omega arith)) (small 4 (omega arith)))
    ∙ rw (p1, p2, p3, p4) (simp set-get_or)

-- What `beside-fired` asks: the kind is none that remembers, and the register holds a value or nothing, in five bytes.
pub register-bytes-stay : (m : List ℕ) (base size i : ℕ) → ((j : ℕ) → j < 5 → get_or m (register_at i + j) 0 < 256) → kind_byte m i < byte_of FM-gate → word_or (register_of m i) ≡ word_at m (register_at i) →
    able_from m base size i ≡ true → stored m (register_at i) (plan_from m base size i).register ≡ m
unfolding able_from ready_from plan_from planned decision_from
register-bytes-stay m base size i small kind holds able =
    ap (λ (g : std.Option Value). stored m (register_at i) (word_or g)) (decision-leaves (kind_byte m i) _ _ _ (register_of m i) kind (first-true _ _ able))
    ∙ ap (stored m (register_at i)) holds
    ∙ stored_same m (register_at i) small
  where
    first-true : (x y : Bool) → x && y ≡ true → x ≡ true
    first-true true y e = refl
    first-true false y e = e

-- In a memory of bytes they are such.
pub register-stays : (m : List ℕ) (base size i : ℕ) → ((j : ℕ) → get_or m j 0 < 256) → kind_byte m i < byte_of FM-gate → word_or (register_of m i) ≡ word_at m (register_at i) →
    able_from m base size i ≡ true → stored m (register_at i) (plan_from m base size i).register ≡ m
register-stays m base size i small = register-bytes-stay m base size i (λ j l. small (register_at i + j))
