-- Laws of specs/Commute.antt, and what only they need.
use Rattle.std.specs.Prelude.{ℕ, ◌<◌, ◌≡◌, refl, ◌≢◌, List, [], ◌∷◌, length}
use Rattle.std.proofs.Common.{sym, ◌∙◌, ap, arith}
use Rattle.std.proofs.Math.Logic.{Ne-symm}
use Rattle.theory_schedule.proofs.Schedules.{Diamond}
use Rattle.network.specs.Net.{Token, Demand, ask, fire, halt, Room, Able, appends, act, label, Links, head, pop, append}
use Rattle.network.proofs.Net.{pop-other, append-other, pop-pop, pop-append, append-append, pop-shortens, append-lengthens, head-append}
use Rattle.network.specs.Commute.{Never-asks, Not-among, Never-emits, Free-emissions, Free}

module _ (cap : ℕ → ℕ) where
  -- A link that the firing does not take from loses its head: it stays able, does and hands out the same.
  room-pop : (es : List (ℕ × Token)) (l : ℕ) (q : Links) → 0 < length (q l) → Room cap es q → Room cap es (pop l q)
  room-pop [] l q h o = tt
  room-pop (e ∷ es) l q h o = (
    omega (arith, pop-shortens l e.0 q),
    rw (← pop-append l e.0 e.1 q h)
        (room-pop es l (append e.0 e.1 q) (omega (arith, append-lengthens e.0 l e.1 q)) o.1),
  )

  appends-pop : (es : List (ℕ × Token)) (l : ℕ) (q : Links) → 0 < length (q l) → appends es (pop l q) ≡ pop l (appends es q)
  appends-pop [] l q h = refl
  appends-pop (e ∷ es) l q h =
      ap (appends es) (sym (pop-append l e.0 e.1 q h))
      ∙ appends-pop es l (append e.0 e.1 q) (omega (arith, append-lengthens e.0 l e.1 q))

  still : (l m : ℕ) (q : Links) → m ≢ l → 0 < length (q l) → 0 < length (pop m q l)
  still l m q ne h = rw (pop-other m l q (Ne-symm ne)) h

  able-pop : (d : Demand) (l : ℕ) (q : Links) → Never-asks d l → 0 < length (q l) → Able cap d q → Able cap d (pop l q)
  able-pop (ask m k) l q na h o =
      rw (pop-other l m q na.0, pop-pop m l q)
      (o.0, able-pop (k (head (q m))) l (pop m q) (na.1 (head (q m))) (still l m q na.0 h) o.1)
  able-pop (fire es r) l q na h o = room-pop es l q h o
  able-pop halt l q na h o = absurd o

  act-pop : (d : Demand) (l : ℕ) (q : Links) → Never-asks d l → 0 < length (q l) → act d (pop l q) ≡ pop l (act d q)
  act-pop (ask m k) l q na h =
      ap (λ x. act (k (head x)) (pop m (pop l q))) (pop-other l m q na.0)
      ∙ ap (act (k (head (q m)))) (pop-pop m l q)
      ∙ act-pop (k (head (q m))) l (pop m q) (na.1 (head (q m))) (still l m q na.0 h)
  act-pop (fire es r) l q na h = appends-pop es l q h
  act-pop halt l q na h = refl

  label-pop : (d : Demand) (l : ℕ) (q : Links) → Never-asks d l → 0 < length (q l) → label d (pop l q) ≡ label d q
  label-pop (ask m k) l q na h =
      ap (λ x. label (k (head x)) (pop m (pop l q))) (pop-other l m q na.0)
      ∙ ap (label (k (head (q m)))) (pop-pop m l q)
      ∙ label-pop (k (head (q m))) l (pop m q) (na.1 (head (q m))) (still l m q na.0 h)
  label-pop (fire es r) l q na h = refl
  label-pop halt l q na h = refl

  -- A link that the firing does not put onto gains a token: likewise.
  room-append : (es : List (ℕ × Token)) (l : ℕ) (t : Token) (q : Links) → Not-among es l → Room cap es q → Room cap es (append l t q)
  room-append [] l t q np o = tt
  room-append (e ∷ es) l t q np o =
      rw (append-other l e.0 t q np.0, append-append e.0 l e.1 t q np.0)
      (o.0, room-append es l t (append e.0 e.1 q) np.1 o.1)

  appends-append : (es : List (ℕ × Token)) (l : ℕ) (t : Token) (q : Links) → Not-among es l → appends es (append l t q) ≡ append l t (appends es q)
  appends-append [] l t q np = refl
  appends-append (e ∷ es) l t q np =
      ap (appends es) (append-append e.0 l e.1 t q np.0) ∙ appends-append es l t (append e.0 e.1 q) np.1

  able-append : (d : Demand) (l : ℕ) (t : Token) (q : Links) → Never-emits d l → Able cap d q → Able cap d (append l t q)
  able-append (ask m k) l t q np o = (
    omega (arith, append-lengthens l m t q),
    rw (head-append l m t q o.0, pop-append m l t q o.0)
        (able-append (k (head (q m))) l t (pop m q) (np (head (q m))) o.1),
  )
  able-append (fire es r) l t q np o = room-append es l t q np o
  able-append halt l t q np o = absurd o

  act-append : (d : Demand) (l : ℕ) (t : Token) (q : Links) → Never-emits d l → Able cap d q → act d (append l t q) ≡ append l t (act d q)
  act-append (ask m k) l t q np o =
      ap (λ x. act (k x) (pop m (append l t q))) (head-append l m t q o.0)
      ∙ ap (act (k (head (q m)))) (pop-append m l t q o.0)
      ∙ act-append (k (head (q m))) l t (pop m q) (np (head (q m))) o.1
  act-append (fire es r) l t q np o = appends-append es l t q np
  act-append halt l t q np o = absurd o

  label-append : (d : Demand) (l : ℕ) (t : Token) (q : Links) → Never-emits d l → Able cap d q → label d (append l t q) ≡ label d q
  label-append (ask m k) l t q np o =
      ap (λ x. label (k x) (pop m (append l t q))) (head-append l m t q o.0)
      ∙ ap (label (k (head (q m)))) (pop-append m l t q o.0)
      ∙ label-append (k (head (q m))) l t (pop m q) (np (head (q m))) o.1
  label-append (fire es r) l t q np o = refl
  label-append halt l t q np o = absurd o

  -- A firing leaves the head of a link that it does not take from.
  head-appends : (es : List (ℕ × Token)) (l : ℕ) (q : Links) → 0 < length (q l) → head (appends es q l) ≡ head (q l)
  head-appends [] l q h = refl
  head-appends (e ∷ es) l q h = head-appends es l (append e.0 e.1 q) (omega (arith, append-lengthens e.0 l e.1 q)) ∙ head-append e.0 l e.1 q h

  head-act : (d : Demand) (l : ℕ) (q : Links) → Never-asks d l → 0 < length (q l) → head (act d q l) ≡ head (q l)
  head-act (ask m k) l q na h =
      head-act (k (head (q m))) l (pop m q) (na.1 (head (q m))) (still l m q na.0 h) ∙ ap head (pop-other m l q (Ne-symm na.0))
  head-act (fire es r) l q na h = head-appends es l q h
  head-act halt l q na h = refl

-- Two firings free of one another.
module _ (cap : ℕ → ℕ) where
  appends-stay : (es : List (ℕ × Token)) (e : Demand) (q : Links) → Free-emissions es e → Able cap e q → Able cap e (appends es q)
  appends-stay [] e q fr o = o
  appends-stay (x ∷ es) e q fr o =
      appends-stay es e (append x.0 x.1 q) fr.1 (able-append cap e x.0 x.1 q fr.0 o)

  pub stays : (d e : Demand) (q : Links) → Free d e → Able cap d q → Able cap e q → Able cap e (act d q)
  stays (ask l k) e q fr od oe =
      stays (k (head (q l))) e (pop l q) (fr.1 (head (q l))) od.1 (able-pop cap e l q fr.0 od.0 oe)
  stays (fire es r) e q fr od oe = appends-stay es e q fr oe
  stays halt e q fr od oe = absurd od

  appends-meet : (es : List (ℕ × Token)) (e : Demand) (q : Links) → Free-emissions es e → Able cap e q → act e (appends es q) ≡ appends es (act e q)
  appends-meet [] e q fr o = refl
  appends-meet (x ∷ es) e q fr o =
      appends-meet es e (append x.0 x.1 q) fr.1 (able-append cap e x.0 x.1 q fr.0 o)
      ∙ ap (appends es) (act-append cap e x.0 x.1 q fr.0 o)

  pub meets : (d e : Demand) (q : Links) → Free d e → Able cap d q → Able cap e q → act e (act d q) ≡ act d (act e q)
  meets (ask l k) e q fr od oe =
      meets (k (head (q l))) e (pop l q) (fr.1 (head (q l))) od.1 (able-pop cap e l q fr.0 od.0 oe)
      ∙ ap (act (k (head (q l)))) (act-pop cap e l q fr.0 od.0)
      ∙ ap (λ x. act (k x) (pop l (act e q))) (sym (head-act cap e l q fr.0 od.0))
  meets (fire es r) e q fr od oe = appends-meet es e q fr oe
  meets halt e q fr od oe = absurd od

  appends-label : (es : List (ℕ × Token)) (e : Demand) (q : Links) → Free-emissions es e → Able cap e q → label e (appends es q) ≡ label e q
  appends-label [] e q fr o = refl
  appends-label (x ∷ es) e q fr o =
      appends-label es e (append x.0 x.1 q) fr.1 (able-append cap e x.0 x.1 q fr.0 o)
      ∙ label-append cap e x.0 x.1 q fr.0 o

  pub same-label : (d e : Demand) (q : Links) → Free d e → Able cap d q → Able cap e q → label e (act d q) ≡ label e q
  same-label (ask l k) e q fr od oe =
      same-label (k (head (q l))) e (pop l q) (fr.1 (head (q l))) od.1 (able-pop cap e l q fr.0 od.0 oe)
      ∙ label-pop cap e l q fr.0 od.0
  same-label (fire es r) e q fr od oe = appends-label es e q fr oe
  same-label halt e q fr od oe = absurd od

-- The network as a transition system: its events are the operators' numbers.
module _ (net : ℕ → Demand) (cap : ℕ → ℕ) where
  abbrev pub enabled : ℕ → Links → Type 0
  enabled a q = Able cap (net a) q

  abbrev pub next : ℕ → Links → Links
  next a q = act (net a) q

  abbrev pub output : ℕ → Links → List Token
  output a q = label (net a) q

  pub diamond : ((a b : ℕ) → a ≢ b → Free (net a) (net b)) → Diamond enabled next output
  diamond free =
      record {
        stays = λ a b q ne ha hb. stays cap (net a) (net b) q (free a b ne) ha hb;
        meets = λ a b q ne ha hb. meets cap (net a) (net b) q (free a b ne) ha hb;
      }
