-- Laws of specs/Poisoned.antt, and what only they need.
use Rattle.std.specs.Prelude.{ℕ, ◌<◌, ◌+◌, ◌-◌, ◌≡◌, ◌≢◌, ◌⊎◌, List, [], ◌∷◌, length}
use Rattle.std.proofs.Math.Path.{refl, ap}
use Rattle.std.proofs.Common.{sym, ◌∙◌, subst, inl, inr}
use Rattle.std.proofs.Math.Logic.{ite, Ne-symm}
use Rattle.std.proofs.Math.Decide.{dec_lt, ℕ_discrete}
use native.Mathlib.Omega.{arith}
use Rattle.theory_schedule.proofs.Schedules.{Possible}
use Rattle.theory_schedule.specs.Schedules.{reached}
use Rattle.theory_schedule.proofs.Twins.{Part-diamond}
use Rattle.network.specs.Net.{Token, Demand, ask, fire, halt, Links, head, tail, pop, append, Able, appends, act}
use Rattle.network.proofs.Net.{append-other}
use Rattle.network.specs.Commute.{Never-asks, Not-among, Never-emits, Free-emissions, Free}
use Rattle.network.proofs.Commute.{enabled, next, output, stays, meets, same-label}
use Rattle.network.specs.Poisoned.{poisons, poisoned}

-- It uses the links that the operator uses.
pub asks-poisoned : (d : Demand) (l : ℕ) → Never-asks d l → Never-asks (poisoned d) l
asks-poisoned (ask m k) l n = (n.0, λ t. asks-poisoned (k t) l (n.1 t))
asks-poisoned (fire es r) l n = tt
asks-poisoned halt l n = tt

among-poisons : (es : List (ℕ × Token)) (l : ℕ) → Not-among es l → Not-among (poisons es) l
among-poisons [] l n = tt
among-poisons (e ∷ es) l n = (n.0, among-poisons es l n.1)

pub emits-poisoned : (d : Demand) (l : ℕ) → Never-emits d l → Never-emits (poisoned d) l
emits-poisoned (ask m k) l n = λ t. emits-poisoned (k t) l (n t)
emits-poisoned (fire es r) l n = among-poisons es l n
emits-poisoned halt l n = tt

free-emissions-to : (es : List (ℕ × Token)) (e : Demand) → Free-emissions es e → Free-emissions es (poisoned e)
free-emissions-to [] e f = tt
free-emissions-to (x ∷ es) e f = (emits-poisoned e x.0 f.0, free-emissions-to es e f.1)

free-to : (d e : Demand) → Free d e → Free d (poisoned e)
free-to (ask l k) e f = (asks-poisoned e l f.0, λ t. free-to (k t) e (f.1 t))
free-to (fire es r) e f = free-emissions-to es e f
free-to halt e f = tt

free-emissions-from : (es : List (ℕ × Token)) (e : Demand) → Free-emissions es e → Free-emissions (poisons es) e
free-emissions-from [] e f = tt
free-emissions-from (x ∷ es) e f = (f.0, free-emissions-from es e f.1)

free-from : (d e : Demand) → Free d e → Free (poisoned d) e
free-from (ask l k) e f = (f.0, λ t. free-from (k t) e (f.1 t))
free-from (fire es r) e f = free-emissions-from es e f
free-from halt e f = tt

-- The twin of operator a has the number T + a.
module _ (net : ℕ → Demand) (T : ℕ) where
  unfoldable pub plain : ℕ → ℕ
  plain a = ite (dec_lt a T) a (a - T)

  unfoldable pub twinned : ℕ → Demand
  twinned a = ite (dec_lt a T) (net a) (poisoned (net (a - T)))

  own : (a : ℕ) → 0 < T → plain a ≡ a → twinned a ≡ net a
  unfolding plain twinned
  own a h e = go (dec_lt a T) e
    where
      go : (d : Dec (a < T)) → ite d a (a - T) ≡ a → ite d (net a) (poisoned (net (a - T))) ≡ net a
      go (yes p) e = refl
      go (no n) e = absurd (omega arith)

  -- Only p and its twin put onto a link onto which only p puts, and a twin begins with the link with which its operator begins.
  pub twinned-puts : (p l : ℕ) → ((e : ℕ) → p ≢ e → Never-emits (net e) l) → (e : ℕ) → p ≢ plain e → Never-emits (twinned e) l
  unfolding plain twinned
  twinned-puts p l one e ne = go (dec_lt e T) ne
    where
      go : (d : Dec (e < T)) → p ≢ ite d e (e - T) → Never-emits (ite d (net e) (poisoned (net (e - T)))) l
      go (yes x) n = one e n
      go (no x) n = emits-poisoned (net (e - T)) l (one (e - T) n)

  pub twinned-asks : (b l : ℕ) (k : Token → Demand) → net b ≡ ask l k → (e : ℕ) → b ≡ plain e → (k' : Token → Demand) × (twinned e ≡ ask l k')
  unfolding plain twinned
  twinned-asks b l k h e z = go (dec_lt e T) z
    where
      go : (d : Dec (e < T)) → b ≡ ite d e (e - T) → (k' : Token → Demand) × (ite d (net e) (poisoned (net (e - T))) ≡ ask l k')
      go (yes x) z = (k, ap net (sym z) ∙ h)
      go (no x) z = (λ t. poisoned (k t), ap poisoned (ap net (sym z) ∙ h))

  -- The twin of an operator.
  pub twin-at : (a : ℕ) → (twinned (T + a) ≡ poisoned (net a)) × (plain (T + a) ≡ a)
  unfolding plain twinned
  twin-at a = go (dec_lt (T + a) T)
    where
      back : T + a - T ≡ a
      back = omega arith

      go : (d : Dec (T + a < T)) → (ite d (net (T + a)) (poisoned (net (T + a - T))) ≡ poisoned (net a)) × (ite d (T + a) (T + a - T) ≡ a)
      go (yes x) = absurd (omega arith)
      go (no x) = (ap (λ b. poisoned (net b)) back, back)

  -- An operator itself.
  pub own_at : (a : ℕ) → a < T → (twinned a ≡ net a) × (plain a ≡ a)
  unfolding plain twinned
  own_at a lt = go (dec_lt a T)
    where
      go : (d : Dec (a < T)) → (ite d (net a) (poisoned (net (a - T))) ≡ net a) × (ite d a (a - T) ≡ a)
      go (yes x) = (refl, refl)
      go (no x) = absurd (x lt)

  module _ (pos : 0 < T) (free : (a b : ℕ) → a ≢ b → Free (net a) (net b)) where
    apart : (a b : ℕ) → plain a ≡ a → a ≢ plain b → Free (twinned a) (twinned b) × Free (twinned b) (twinned a)
    unfolding plain twinned
    apart a b e ne = rw (own a pos e) (go (dec_lt b T) ne)
      where
        go : (d : Dec (b < T)) → a ≢ ite d b (b - T) → Free (net a) (ite d (net b) (poisoned (net (b - T)))) × Free (ite d (net b) (poisoned (net (b - T)))) (net a)
        go (yes p) n = (free a b n, free b a (Ne-symm n))
        go (no p) n = (free-to (net a) (net (b - T)) (free a (b - T) n), free-from (net (b - T)) (net a) (free (b - T) a (Ne-symm n)))

    pub part-diamond : (cap : ℕ → ℕ) → Part-diamond plain (enabled twinned cap) (next twinned cap) (output twinned cap)
    part-diamond cap =
        record {
          stays = λ a b q e ne ha hb. let f = apart a b e ne in (stays cap (twinned a) (twinned b) q f.0 ha hb, stays cap (twinned b) (twinned a) q f.1 hb ha);
          meets = λ a b q e ne ha hb. meets cap (twinned a) (twinned b) q (apart a b e ne).0 ha hb;
          same = λ a b q e ne ha hb. let f = apart a b e ne in (same-label cap (twinned a) (twinned b) q f.0 ha hb, same-label cap (twinned b) (twinned a) q f.1 hb ha);
        }

-- A link that nobody puts onto stays empty, and whoever begins with it does not fire.
pop-dry : (m l : ℕ) (q : Links) → q l ≡ [] → pop m q l ≡ []
unfolding pop
pop-dry m l q e = go (ℕ_discrete l m)
  where
    go : (d : Dec (l ≡ m)) → ite d (tail (q l)) (q l) ≡ []
    go (yes z) = ap tail e
    go (no z) = e

appends-dry : (es : List (ℕ × Token)) (l : ℕ) (q : Links) → Not-among es l → q l ≡ [] → appends es q l ≡ []
appends-dry [] l q n e = e
appends-dry (x ∷ es) l q n e = appends-dry es l (append x.0 x.1 q) n.1 (append-other x.0 l x.1 q (Ne-symm n.0) ∙ e)

pub act-dry : (d : Demand) (l : ℕ) (q : Links) → Never-emits d l → q l ≡ [] → act d q l ≡ []
act-dry (ask m k) l q n e = act-dry (k (head (q m))) l (pop m q) (n (head (q m))) (pop-dry m l q e)
act-dry (fire es r) l q n e = appends-dry es l q n e
act-dry halt l q n e = e

module _ (net : ℕ → Demand) (cap : ℕ → ℕ) (plain : ℕ → ℕ) where
  -- An event of operator p is in the list.
  abbrev pub Made-by : ℕ → List ℕ → Type 0
  Made-by p [] = ⊥
  Made-by p (b ∷ w) = (p ≡ plain b) ⊎ Made-by p w

  -- Where only p puts onto l, and l comes from empty to not empty, p has fired.
  pub fed : (p l : ℕ) → ((e : ℕ) → p ≢ plain e → Never-emits (net e) l) → (w : List ℕ) (q : Links) → Possible (enabled net cap) (next net cap) (output net cap) w q →
      q l ≡ [] → reached (enabled net cap) (next net cap) (output net cap) w q l ≢ [] → Made-by p w
  fed p l one [] q r e n = absurd (n e)
  fed p l one (b ∷ w) q r e n = go (λ z. fed p l one w (act (net b) q) r.1 z n) (ℕ_discrete p (plain b))
    where
      go : (act (net b) q l ≡ [] → Made-by p w) → Dec (p ≡ plain b) → (p ≡ plain b) ⊎ Made-by p w
      go ih (yes z) = inl z
      go ih (no z) = inr (ih (act-dry (net b) l q (one b z) e))

  -- Where only p puts onto l, which is empty, and an operator that begins with l has fired, p has fired.
  pub fed-before : (p l c : ℕ) → ((e : ℕ) → p ≢ plain e → Never-emits (net e) l) → ((e : ℕ) → c ≡ plain e → (k : Token → Demand) × (net e ≡ ask l k)) →
      (w : List ℕ) (q : Links) → Possible (enabled net cap) (next net cap) (output net cap) w q → q l ≡ [] → Made-by c w → Made-by p w
  fed-before p l c one asks [] q r e m = absurd m
  fed-before p l c one asks (b ∷ w) q r e m = go (λ z y. fed-before p l c one asks w (act (net b) q) r.1 z y) (ℕ_discrete p (plain b)) m
    where
      never : c ≡ plain b → ⊥
      never z =
          let k = asks b z in
          let o : Able cap (ask l k.0) q = subst (λ d. Able cap d q) k.1 r.0 in
          omega (arith, o.0, ap length e)

      go : (act (net b) q l ≡ [] → Made-by c w → Made-by p w) → Dec (p ≡ plain b) → (c ≡ plain b) ⊎ Made-by c w → (p ≡ plain b) ⊎ Made-by p w
      go ih (yes z) y = inl z
      go ih (no z) (inl y) = absurd (never y)
      go ih (no z) (inr y) = inr (ih (act-dry (net b) l q (one b z) e) y)
