-- Laws of specs/Emitting.antt, and what only they need.
use Rattle.std.specs.Prelude.{ℕ, ◌≤◌, ◌<◌, ◌≡◌, refl, ◌≢◌, Bool, true, false, List, [], ◌∷◌, ◌++◌, length}
use Rattle.std.proofs.Common.{sym, subst, ◌∙◌, arith}
use Rattle.std.proofs.Math.Path.{ap}
use Rattle.std.proofs.Math.Logic.{ite, if_neg}
use Rattle.std.proofs.Math.Option.{Option, none, some}
use Rattle.std.proofs.Math.Decide.{ℕ_discrete}
use Rattle.value.specs.declared.Value.{Value}
use Rattle.network.specs.Rules.{Kind, Register, Input, first, second, third}
use Rattle.network.specs.Net.{Token, val, Links, tail, pop, append, Room, appends}
use Rattle.network.proofs.Net.{pop-same, pop-other, append-other}
use Rattle.network.specs.Fill.{Ports, input, register-token, emission, emissions, remembering, kept}
use Rattle.network.specs.Decide.{Taken, Decision}
use Rattle.network.specs.Firing.{pop-if, gone, Holds, Own-register, unregistered, carried, Room-for}
use Rattle.network.proofs.Firing.{pop-if-other}
use Rattle.network.specs.FiringLinks.{Output, output1, output2, output3, output, Own-links}
use Rattle.network.proofs.FiringLinks.{appends-app}
use Rattle.network.specs.Ends.{capacities}
use Rattle.demand_view.specs.Emitting.{given_out, Place}

-- ---- links that are not touched
pub gone-other : (p : Ports) (q : Links) (t : Taken) (l : ℕ) → ((i : Input) → input p i ≢ l) → gone t p q l ≡ q l
gone-other p q t l h =
    pop-if-other t.take3 p.in3 l (pop-if t.take2 p.in2 (pop-if t.take1 p.in1 q)) (λ e s. h third (sym s))
    ∙ pop-if-other t.take2 p.in2 l (pop-if t.take1 p.in1 q) (λ e s. h second (sym s))
    ∙ pop-if-other t.take1 p.in1 l q (λ e s. h first (sym s))

pub emission-other : (x : Option ℕ) (v : Option Value) (q : Links) (l : ℕ) → x ≢ some l → appends (emission x v) q l ≡ q l
emission-other none v q l h = refl
emission-other (some m) none q l h = refl
emission-other (some m) (some v) q l h = append-other m l (val v) q (λ e. h (ap some (sym e)))

unregistered-other : (b : Bool) (p : Ports) (q : Links) (l : ℕ) → l ≢ p.register → unregistered b p q l ≡ q l
unregistered-other true p q l h = pop-other p.register l q h
unregistered-other false p q l h = refl

kept-other : (b : Bool) (p : Ports) (g : Register) (q : Links) (l : ℕ) → l ≢ p.register → appends (kept b p g) q l ≡ q l
kept-other true p g q l h = append-other p.register l (register-token g) q h
kept-other false p g q l h = refl

-- ---- each change looks at one link alone
module _ (q r : Links) (l : ℕ) (e : q l ≡ r l) where
  pop-at : (k : ℕ) → pop k q l ≡ pop k r l
  unfolding pop
  pop-at k = ap (λ ts. ite (ℕ_discrete l k) (tail ts) ts) e

  append_at : (k : ℕ) (t : Token) → append k t q l ≡ append k t r l
  unfolding append
  append_at k t = ap (λ ts. ite (ℕ_discrete l k) (ts ++ (t ∷ [])) ts) e

  pop-if-at : (b : Bool) (k : ℕ) → pop-if b k q l ≡ pop-if b k r l
  pop-if-at true k = pop-at k
  pop-if-at false k = e

pub appends-at : (es : List (ℕ × Token)) (q r : Links) (l : ℕ) → q l ≡ r l → appends es q l ≡ appends es r l
appends-at [] q r l e = e
appends-at (x ∷ es) q r l e = appends-at es (append x.0 x.1 q) (append x.0 x.1 r) l (append_at q r l e x.0 x.1)

pub gone_at : (t : Taken) (p : Ports) (q r : Links) (l : ℕ) → q l ≡ r l → gone t p q l ≡ gone t p r l
gone_at t p q r l e =
    let a = pop-if-at q r l e t.take1 p.in1 in
    let b = pop-if-at (pop-if t.take1 p.in1 q) (pop-if t.take1 p.in1 r) l a t.take2 p.in2 in
    pop-if-at (pop-if t.take2 p.in2 (pop-if t.take1 p.in1 q)) (pop-if t.take2 p.in2 (pop-if t.take1 p.in1 r)) l b t.take3 p.in3

pub emissions-are : (p : Ports) (d : Decision) (q : Links) → appends (emissions p d.give1 d.give2 d.give3) q ≡ given_out p d q
emissions-are p d q =
    appends-app (emission p.out1 d.give1) (emission p.out2 d.give2 ++ emission p.out3 d.give3) q
    ∙ appends-app (emission p.out2 d.give2) (emission p.out3 d.give3) (appends (emission p.out1 d.give1) q)

-- Beside its register link a firing leaves what taking and giving leave.
pub carried-beside : (k : Kind) (p : Ports) (q : Links) (d : Decision) (l : ℕ) → l ≢ p.register →
    carried k p q d l ≡ given_out p d (gone d.taken p q) l
carried-beside k p q d l ne =
    ap (λ (z : Links). z l) (appends-app es (kept b p d.register) (gone d.taken p (unregistered b p q)))
    ∙ kept-other b p d.register (appends es (gone d.taken p (unregistered b p q))) l ne
    ∙ appends-at es (gone d.taken p (unregistered b p q)) (gone d.taken p q) l
    (gone_at d.taken p (unregistered b p q) q l (unregistered-other b p q l ne))
    ∙ ap (λ (z : Links). z l) (emissions-are p d (gone d.taken p q))
  where
    b : Bool
    b = remembering k

    es : List (ℕ × Token)
    es = emissions p d.give1 d.give2 d.give3

-- ---- room
room-both : (cap : ℕ → ℕ) (xs ys : List (ℕ × Token)) (q : Links) → Room cap xs q → Room cap ys (appends xs q) → Room cap (xs ++ ys) q
room-both cap [] ys q a b = b
room-both cap (x ∷ xs) ys q a b = (a.0, room-both cap xs ys (append x.0 x.1 q) a.1 b)

room-first : (cap : ℕ → ℕ) (xs ys : List (ℕ × Token)) (q : Links) → Room cap (xs ++ ys) q → Room cap xs q
room-first cap [] ys q r = tt
room-first cap (x ∷ xs) ys q r = (r.0, room-first cap xs ys (append x.0 x.1 q) r.1)

room-second : (cap : ℕ → ℕ) (xs ys : List (ℕ × Token)) (q : Links) → Room cap (xs ++ ys) q → Room cap ys (appends xs q)
room-second cap [] ys q r = r
room-second cap (x ∷ xs) ys q r = room-second cap xs ys (append x.0 x.1 q) r.1

pub place_same : (capacity : ℕ) (x : Option ℕ) (v : Option Value) (q r : Links) → ((l : ℕ) → x ≡ some l → r l ≡ q l) → Place capacity x v q → Place capacity x v r
place_same capacity none v q r e h = tt
place_same capacity (some l) none q r e h = tt
place_same capacity (some l) (some v) q r e h = rw (e l refl) h

-- a link that has the capacity of start
pub capacity-at : (credit capacity l : ℕ) → l ≢ credit → capacities credit capacity l ≡ capacity
unfolding capacities
capacity-at credit capacity l ne = if_neg (ℕ_discrete l credit) ne 16 capacity

module _ (credit capacity : ℕ) (k : Kind) (p : Ports) (q : Links) (own : Own-links k p q) (d : Decision) where
  abbrev cap : ℕ → ℕ
  cap = capacities credit capacity

  -- all outputs have the capacity of start
  abbrev Not-credit : Type 0
  Not-credit = (x : Output) (l : ℕ) → output p x ≡ some l → l ≢ credit

  place-room : (x : Option ℕ) (v : Option Value) (r : Links) → ((l : ℕ) → x ≡ some l → l ≢ credit) → Place capacity x v r → Room cap (emission x v) r
  place-room none v r n h = tt
  place-room (some l) none r n h = tt
  place-room (some l) (some v) r n h = let e = capacity-at credit capacity l (n l refl) in (rw e h, tt)

  room-place : (x : Option ℕ) (v : Option Value) (r : Links) → ((l : ℕ) → x ≡ some l → l ≢ credit) → Room cap (emission x v) r → Place capacity x v r
  room-place none v r n h = tt
  room-place (some l) none r n h = tt
  room-place (some l) (some v) r n h = let e = capacity-at credit capacity l (n l refl) in subst (λ c. length (r l) < c) e h.0

  abbrev before : Links
  before = gone d.taken p (unregistered (remembering k) p q)

  abbrev one : Links
  one = appends (emission p.out1 d.give1) before

  abbrev two : Links
  two = appends (emission p.out2 d.give2) one

  not_register : (x : Output) (l : ℕ) → output p x ≡ some l → (b : Bool) → remembering k ≡ b → unregistered b p q l ≡ q l
  not_register x l e true r = pop-other p.register l q (λ s. own.output-no-register x r (e ∙ ap some s))
  not_register x l e false r = refl

  before-output : (x : Output) (l : ℕ) → output p x ≡ some l → before l ≡ q l
  before-output x l e =
      gone-other p (unregistered (remembering k) p q) d.taken l (λ i s. own.output-no-input x i (e ∙ ap some (sym s)))
      ∙ not_register x l e (remembering k) refl

  one-output : (l : ℕ) → p.out2 ≡ some l → one l ≡ q l
  one-output l e = emission-other p.out1 d.give1 before l (λ s. own.outputs12 l s e) ∙ before-output output2 l e

  two-output : (l : ℕ) → p.out3 ≡ some l → two l ≡ q l
  two-output l e =
      emission-other p.out2 d.give2 one l (λ s. own.outputs23 l s e)
      ∙ emission-other p.out1 d.give1 before l (λ s. own.outputs13 l s e)
      ∙ before-output output3 l e

  -- the register link is empty when the register goes back
  register-room : 1 ≤ capacity → p.register ≢ credit → (b : Bool) → remembering k ≡ b → (g : Register) → Holds b p q g → (r : Links) →
      r p.register ≡ unregistered b p q p.register → Room cap (kept b p d.register) r
  register-room c n true e g h r s =
      let z = capacity-at credit capacity p.register n in
      let y : r p.register ≡ [] = s ∙ pop-same p.register q ∙ ap tail h in
      (rw (z, y) (omega arith), tt)
  register-room c n false e g h r s = tt

  register-left : (b : Bool) → remembering k ≡ b → (r : Links) → b ≡ true → appends (emissions p d.give1 d.give2 d.give3) r p.register ≡ r p.register
  register-left b e r t =
      ap (λ (z : Links). z p.register) (emissions-are p d r)
      ∙ emission-other p.out3 d.give3 (appends (emission p.out2 d.give2) (appends (emission p.out1 d.give1) r)) p.register (own.output-no-register output3 (e ∙ t))
      ∙ emission-other p.out2 d.give2 (appends (emission p.out1 d.give1) r) p.register (own.output-no-register output2 (e ∙ t))
      ∙ emission-other p.out1 d.give1 r p.register (own.output-no-register output1 (e ∙ t))

  module _ (n : Not-credit) where
    -- ROOM FOR A DECISION is a free place on each link that gets a token.
    pub room-places : Room-for cap k p q d →
        Place capacity p.out1 d.give1 q × Place capacity p.out2 d.give2 q × Place capacity p.out3 d.give3 q
    room-places r =
        let a = room-first cap (emissions p d.give1 d.give2 d.give3) (kept (remembering k) p d.register) before r in
        let rest = room-second cap (emission p.out1 d.give1) (emission p.out2 d.give2 ++ emission p.out3 d.give3) before a in (
          place_same capacity p.out1 d.give1 before q (λ l e. sym (before-output output1 l e))
              (room-place p.out1 d.give1 before (n output1)
              (room-first cap (emission p.out1 d.give1) (emission p.out2 d.give2 ++ emission p.out3 d.give3) before a)),
          place_same capacity p.out2 d.give2 one q (λ l e. sym (one-output l e))
              (room-place p.out2 d.give2 one (n output2) (room-first cap (emission p.out2 d.give2) (emission p.out3 d.give3) one rest)),
          place_same capacity p.out3 d.give3 two q (λ l e. sym (two-output l e))
              (room-place p.out3 d.give3 two (n output3) (room-second cap (emission p.out2 d.give2) (emission p.out3 d.give3) one rest)),
        )

    pub places-room : 1 ≤ capacity → p.register ≢ credit → (g : Register) → Holds (remembering k) p q g → Place capacity p.out1 d.give1 q →
        Place capacity p.out2 d.give2 q → Place capacity p.out3 d.give3 q → Room-for cap k p q d
    places-room c nr g h a b e =
        room-both cap (emissions p d.give1 d.give2 d.give3) (kept (remembering k) p d.register) before
        (room-both cap (emission p.out1 d.give1) (emission p.out2 d.give2 ++ emission p.out3 d.give3) before
        (place-room p.out1 d.give1 before (n output1) (place_same capacity p.out1 d.give1 q before (before-output output1) a))
        (room-both cap (emission p.out2 d.give2) (emission p.out3 d.give3) one
        (place-room p.out2 d.give2 one (n output2) (place_same capacity p.out2 d.give2 q one one-output b))
        (place-room p.out3 d.give3 two (n output3) (place_same capacity p.out3 d.give3 q two two-output e))))
        (last (remembering k) refl own.register-no-input h)
      where
        last : (b : Bool) → remembering k ≡ b → Own-register b p → Holds b p q g →
            Room cap (kept b p d.register) (appends (emissions p d.give1 d.give2 d.give3) (gone d.taken p (unregistered b p q)))
        last true r w h =
            register-room c nr true r g h (appends (emissions p d.give1 d.give2 d.give3) (gone d.taken p (unregistered true p q)))
            (register-left true r (gone d.taken p (unregistered true p q)) refl ∙ gone-other p (unregistered true p q) d.taken p.register w)
        last false r w h = tt
