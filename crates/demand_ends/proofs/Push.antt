-- Push on the machine's memory (machine_calls/specs/Calls: pushed) is push on the links (theory_verdicts/specs/Running: push_of): it is accepted when push can be made on
-- the links that the memory holds, and then only, and the memory that it leaves holds the links after it. Document 01, "Push gives one value to each
-- input link, and one trigger if that link exists"; 32 "sixteen sets untaken", 33 "an input link, or the trigger's link where it exists, full".
-- Assumes a standing machine of a sound graph, at a capacity of 1 to 16, and a set that passes 12.
use Prim.Native.Nat.{ℕ, zero, suc, ◌+◌, ◌≤◌, ◌<◌}
use Rattle.std.specs.Prelude.{◌≡◌, Bool, cond, ◌&&◌, ltb, get_or, set}
use Rattle.std.proofs.Math.Path.{refl, sym, ap, subst}
use Rattle.std.proofs.Common.{ap₂, ◌∙◌}
use Rattle.std.proofs.Math.Bool.{true, false}
use mathlib.Core.List.{List, [], ◌∷◌}
use native.Mathlib.Omega.{arith}
use Rattle.std.proofs.Math.Decide.{dec_lt}
use borrow.Author.Tests.{ltb-true, lt-ltb}
use Rattle.std.proofs.Math.ListN.{length, length-append}
use Rattle.names.specs.Names.{bit}
use Rattle.value.specs.declared.Value.{Value}
use Rattle.value.specs.Bytes.{word_of}
use Rattle.value.specs.Senses.{err}
use Rattle.network.specs.Values.{true-value}
use Rattle.network.specs.Net.{val, Links, append, Able, act}
use Rattle.network.proofs.Net.{append-same, append-other}
use Rattle.machine_layout.specs.Layout.{inputs_of, untaken_of, no_link, trigger_of, size_of, stored_kinds}
use Rattle.machine_firing.specs.Links.{room_at, room_from, appended_at, appended_from}
use Rattle.machine_valid.specs.Below.{all_below, and_left, and_right, and_both, below_at, below_all}
use Rattle.graph.specs.Translation.{Made}
use Rattle.theory_verdicts.specs.Owed.{credit_link}
use Rattle.theory_verdicts.specs.Running.{places}
use Rattle.machine_calls.specs.Calls.{outcome, answers, size_in, standing, input_room, rooms_ok, entered_from, entered, triggered_from, triggered, pushed_memory, pushed}
use Rattle.value_sets.specs.Sets.{set_ok, IsSet}
use Rattle.value_sets.proofs.Sets.{values-pass}
use Rattle.machine_calls.specs.CallLaws.{pushed-accepted}
use Rattle.demand_view.specs.Sound.{Sound}
use Rattle.demand_view.proofs.FireCall.{stands-size}
use Rattle.demand_view.specs.Stands.{Stands}
use Rattle.demand_view.proofs.Moves.{stands-room, stands-append}
use Rattle.demand_ends.specs.PushLinks.{push_into, given, cued}
use Rattle.demand_ends.proofs.PushLinks.{given-other, cued-other, push-acts, push-room, room-push}
use Rattle.demand_ends.proofs.Credit.{stands-untaken}

-- A link that does not exist always has room, and nothing happens to it.
no-link-room : (m : List ℕ) (size : ℕ) → room_at m size no_link ≡ true
unfolding room_from
no-link-room m size = refl

no-link-appended : (m : List ℕ) (size w : ℕ) → appended_at m size no_link w ≡ m
unfolding appended_from
no-link-appended m size w = refl

module _ (g : Made) (S : Sound g) (kinds : List ℕ) (capacity : ℕ) (low : 1 ≤ capacity) (high : capacity ≤ 16) (m : List ℕ) (q : Links) (H : Stands g kinds capacity m q) where
  abbrev size : ℕ
  size = size_of capacity

  near : g.inputs + bit g.triggered ≤ credit_link
  near = omega (arith, S.names-below, S.few-links)

  trigger-at : (b : Bool) → g.triggered ≡ b → trigger_of m ≡ cond b g.inputs no_link
  trigger-at b e = H.trigger-is ∙ ap (λ (c : Bool). cond c g.inputs no_link) e

  trigger-below : g.triggered ≡ true → g.inputs < g.links
  trigger-below e =
      let z : g.inputs + bit true ≤ g.links = subst (λ (b : Bool). g.inputs + bit b ≤ g.links) e S.names-below in
      omega arith

  input-below : (j : ℕ) → j < g.inputs → j < g.links
  input-below j h = omega (arith, S.names-below)

  -- ---- room
  abbrev Free : Type 0
  Free = (l : ℕ) → l < g.inputs + bit g.triggered → length (q l) < capacity

  rooms-free : rooms_ok m size g.inputs ≡ true → Free
  unfolding rooms_ok input_room
  rooms-free h l k = go g.triggered refl (dec_lt l g.inputs) k
    where
      go : (b : Bool) → g.triggered ≡ b → Dec (l < g.inputs) → l < g.inputs + bit b → length (q l) < capacity
      go b e (yes p) i =
          ltb-true (length (q l)) capacity
          (sym (stands-room g S kinds capacity m q H l (input-below l p)) ∙ ap (room_at m size) (sym (H.input-links l p))
          ∙ below_at g.inputs (input_room m size) (and_right (room_at m size (trigger_of m)) (all_below g.inputs (input_room m size)) h) l p)
      go true e (no p) i =
          let z : l ≡ g.inputs = omega arith in
          ltb-true (length (q l)) capacity
          (sym (stands-room g S kinds capacity m q H l (rw z (trigger-below e))) ∙ ap (room_at m size) (z ∙ sym (trigger-at true e))
          ∙ and_left (room_at m size (trigger_of m)) (all_below g.inputs (input_room m size)) h)
      go false e (no p) i = absurd (omega arith)

  free-rooms : Free → rooms_ok m size g.inputs ≡ true
  unfolding rooms_ok input_room
  free-rooms f = and_both (cue g.triggered refl f) (below_all g.inputs (input_room m size) each)
    where
      cue : (b : Bool) → g.triggered ≡ b → ((l : ℕ) → l < g.inputs + bit b → length (q l) < capacity) → room_at m size (trigger_of m) ≡ true
      cue true e h =
          ap (room_at m size) (trigger-at true e) ∙ stands-room g S kinds capacity m q H g.inputs (trigger-below e)
          ∙ lt-ltb (length (q g.inputs)) capacity (h g.inputs (omega arith))
      cue false e h = ap (room_at m size) (trigger-at false e) ∙ no-link-room m size

      each : (j : ℕ) → j < g.inputs → input_room m size j ≡ true
      each j l =
          ap (room_at m size) (H.input-links j l) ∙ stands-room g S kinds capacity m q H j (input-below j l)
          ∙ lt-ltb (length (q j)) capacity (f j (omega arith))

  module _ (s : List ℕ) (v : List Value) (I : IsSet kinds s v) where
    whole : length v ≡ g.inputs
    whole = I.count ∙ H.kinds-count

    in-kinds : (j : ℕ) → j < g.inputs → j < length kinds
    in-kinds j h = omega (arith, H.kinds-count)

    -- ---- ACCEPTED: as push can be made on the links
    pub tests-push : ltb (untaken_of m) 16 && rooms_ok m size g.inputs ≡ true → Able (places capacity) (push_into g v) q
    tests-push h =
        let u : untaken_of m < 16 = ltb-true (untaken_of m) 16 (and_left (ltb (untaken_of m) 16) (rooms_ok m size g.inputs) h) in
        room-push g v q whole near capacity (omega (arith, H.untaken-is)) (rooms-free (and_right (ltb (untaken_of m) 16) (rooms_ok m size g.inputs) h))

    pub push-tests : Able (places capacity) (push_into g v) q → ltb (untaken_of m) 16 && rooms_ok m size g.inputs ≡ true
    push-tests a =
        let r = push-room g v q whole near capacity a in
        and_both (lt-ltb (untaken_of m) 16 (omega (arith, H.untaken-is, r.0))) (free-rooms r.1)

    -- ---- the memory that push leaves
    module _ (a : Able (places capacity) (push_into g v) q) where
      room : (length (q credit_link) < 16) × Free
      room = push-room g v q whole near capacity a

      -- the first values of the set
      stands-entered : (j : ℕ) → j ≤ g.inputs → Stands g kinds capacity (entered j m size s) (given j v q)
      unfolding entered_from
      stands-entered zero h = H
      stands-entered (suc j) h =
          subst (λ (n : List ℕ). Stands g kinds capacity n (append j (val (get_or v j err)) (given j v q)))
          (ap₂ (λ (l w : ℕ). appended_at (entered j m size s) size l w) (sym (H.input-links j h)) (sym (I.words j (in-kinds j h))))
          (stands-append g S kinds capacity (entered j m size s) (given j v q) (stands-entered j (omega arith)) j (input-below j h) (get_or v j err)
          (rw (given-other j v q j (omega arith)) (room.1 j (omega arith))) (I.ranged j (in-kinds j h)))

      abbrev entering : List ℕ
      entering = entered g.inputs m size s

      abbrev given-links : Links
      given-links = given g.inputs v q

      -- and the trigger
      stands-cued : (b : Bool) → g.triggered ≡ b → Stands g kinds capacity (appended_at entering size (trigger_of m) (word_of true-value)) (cued b g.inputs given-links)
      stands-cued true e =
          subst (λ (l : ℕ). Stands g kinds capacity (appended_at entering size l (word_of true-value)) (append g.inputs (val true-value) given-links)) (sym (trigger-at true e))
          (stands-append g S kinds capacity entering given-links (stands-entered g.inputs (omega arith)) g.inputs (trigger-below e) true-value
          (rw (given-other g.inputs v q g.inputs (omega arith)) (room.1 g.inputs (rw e (omega arith)))) tt)
      stands-cued false e =
          subst (λ (n : List ℕ). Stands g kinds capacity n given-links)
          (sym (ap (λ (l : ℕ). appended_at entering size l (word_of true-value)) (trigger-at false e) ∙ no-link-appended entering size (word_of true-value)))
          (stands-entered g.inputs (omega arith))

      abbrev cued-links : Links
      cued-links = cued g.triggered g.inputs given-links

      stands-triggered : Stands g kinds capacity (triggered m s) cued-links
      unfolding triggered_from
      stands-triggered =
          rw (stands-size g S kinds capacity low high m q H, H.inputs_are) (stands-cued g.triggered refl)

      credit-kept : cued-links credit_link ≡ q credit_link
      credit-kept =
          cued-other g.triggered g.inputs given-links credit_link (omega (arith, S.few-inputs)) ∙ given-other g.inputs v q credit_link (omega (arith, near))

      -- AND ITS LINKS are those after push.
      pub stands-pushed : Stands g kinds capacity (pushed_memory m s) (act (push_into g v) q)
      unfolding pushed_memory
      stands-pushed =
          subst (Stands g kinds capacity (set (triggered m s) 7 (untaken_of m + 1))) (sym (push-acts g v q whole near))
          (stands-untaken g S kinds capacity (triggered m s) cued-links stands-triggered (untaken_of m + 1) (append credit_link (val true-value) cued-links)
          (λ l ne. append-other credit_link l (val true-value) cued-links ne)
          (ap length (append-same credit_link (val true-value) cued-links) ∙ length-append (cued-links credit_link) (val true-value ∷ [])
          ∙ ap (λ (n : ℕ). n + 1) (ap length credit-kept ∙ sym H.untaken-is))
          (omega (arith, H.untaken-is, room.0)))

    -- ---- the call
    module _ (st : standing m ≡ 0) where
      set-good : set_ok (stored_kinds m) s ≡ true
      set-good = rw H.kinds-are (values-pass kinds s v I.values)

      rooms_in : (b : Bool) → rooms_ok m size g.inputs ≡ b → rooms_ok m (size_in m) (inputs_of m) ≡ b
      rooms_in b e = rw (stands-size g S kinds capacity low high m q H, H.inputs_are) e

      pub push-accepted : Able (places capacity) (push_into g v) q → pushed m s ≡ outcome (answers 0 0) (pushed_memory m s)
      push-accepted a =
          let t = push-tests a in
          pushed-accepted m st s set-good (and_left (ltb (untaken_of m) 16) (rooms_ok m size g.inputs) t)
          (rooms_in true (and_right (ltb (untaken_of m) 16) (rooms_ok m size g.inputs) t))
