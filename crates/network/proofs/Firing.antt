-- Laws of specs/Firing.antt, and what only they need.
use Rattle.std.specs.Prelude.{ℕ, ◌<◌, ◌≤◌, ◌≡◌, refl, ◌≢◌, Bool, true, false, List, [], ◌∷◌, length}
use Rattle.std.proofs.Common.{sym, ◌∙◌, ap, ap₂, subst, arith}
use Rattle.std.proofs.Math.Path.{fun_ext}
use Rattle.std.proofs.lemmas.Bool.{false≢true}
use Rattle.std.proofs.Math.Option.{Option, none, some}
use Rattle.value.specs.declared.Value.{Value}
use Rattle.network.specs.Rules.{Kind, Register, Firing, takes, gives, never, Input, first, second, third, rule}
use Rattle.network.specs.Net.{Token, Links, head, pop, Able, act}
use Rattle.network.proofs.Net.{pop-other, pop-pop, pop-shortens}
use Rattle.network.specs.Fill.{Ports, input, value-of, register_of, register-token, wire, remembering, kept, filled, fill}
use Rattle.network.specs.Decide.{Taken, untouched, is-taken, also, Decision, with-head, decided, decide, Once}
use Rattle.network.proofs.Decide.{rule-once}
use Rattle.network.specs.Firing.{pop-if, gone, first-token, heads, Apart, performed, Roomy, Took, Is-some, Holds, Own-register, unregistered, carried, Room-for}

pub pop-if-other : (b : Bool) (l j : ℕ) (q : Links) → (b ≡ true → j ≢ l) → pop-if b l q j ≡ q j
pop-if-other true l j q h = pop-other l j q (h refl)
pop-if-other false l j q h = refl

pop-if-pop : (b : Bool) (l m : ℕ) (q : Links) → pop l (pop-if b m q) ≡ pop-if b m (pop l q)
pop-if-pop true l m q = pop-pop l m q
pop-if-pop false l m q = refl

pop-if-shortens : (b : Bool) (l j : ℕ) (q : Links) → length (pop-if b l q j) ≤ length (q j)
pop-if-shortens true l j q = pop-shortens l j q
pop-if-shortens false l j q = omega arith

pub none-is-not-some : {A : Type 0} (x : A) → none ≡ some x → ⊥
none-is-not-some x e = subst Is-some (sym e) tt

or_else : {A : Type 0} → A → Option A → A
or_else x none = x
or_else x (some y) = y

pub some_same : {A : Type 0} (x y : A) → some x ≡ some y → x ≡ y
unfolding or_else
some_same x y e = ap (or_else x) e

-- the flag of an input that is not taken is not set
unset : {A : Type 0} (b : Bool) → b ≡ false → b ≡ true → A
unset b e f = absurd (false≢true (sym e ∙ f))

module _ (p : Ports) (q : Links) where
  pub took-also : (i : Input) (t : Taken) → Took p q t → 0 < length (q (input p i)) → Took p q (also i t)
  took-also first t k h = (λ e. h, k.1, k.2)
  took-also second t k h = (k.0, λ e. h, k.2)
  took-also third t k h = (k.0, k.1, λ e. h)

  pub gone-shortens : (t : Taken) (j : ℕ) → length (gone t p q j) ≤ length (q j)
  gone-shortens t j =
      let a = pop-if-shortens t.take1 p.in1 j q in
      let b = pop-if-shortens t.take2 p.in2 j (pop-if t.take1 p.in1 q) in
      let c = pop-if-shortens t.take3 p.in3 j (pop-if t.take2 p.in2 (pop-if t.take1 p.in1 q)) in
      omega arith

module _ (keep : Register → List (ℕ × Token)) (p : Ports) (q : Links) (ap! : Apart p q) where
  -- An input not yet taken is as it was.
  gone-head : (i : Input) (t : Taken) → is-taken t i ≡ false → Took p q t → 0 < length (q (input p i)) → gone t p q (input p i) ≡ q (input p i)
  gone-head first t f k h =
      pop-if-other t.take3 p.in3 p.in1 (pop-if t.take2 p.in2 (pop-if t.take1 p.in1 q)) (λ e. ap!.apart13 h (k.2 e))
      ∙ pop-if-other t.take2 p.in2 p.in1 (pop-if t.take1 p.in1 q) (λ e. ap!.apart12 h (k.1 e))
      ∙ pop-if-other t.take1 p.in1 p.in1 q (unset t.take1 f)
  gone-head second t f k h =
      pop-if-other t.take3 p.in3 p.in2 (pop-if t.take2 p.in2 (pop-if t.take1 p.in1 q)) (λ e. ap!.apart23 h (k.2 e))
      ∙ pop-if-other t.take2 p.in2 p.in2 (pop-if t.take1 p.in1 q) (unset t.take2 f)
      ∙ pop-if-other t.take1 p.in1 p.in2 q (λ e s. ap!.apart12 (k.0 e) h (sym s))
  gone-head third t f k h =
      pop-if-other t.take3 p.in3 p.in3 (pop-if t.take2 p.in2 (pop-if t.take1 p.in1 q)) (unset t.take3 f)
      ∙ pop-if-other t.take2 p.in2 p.in3 (pop-if t.take1 p.in1 q) (λ e s. ap!.apart23 (k.1 e) h (sym s))
      ∙ pop-if-other t.take1 p.in1 p.in3 q (λ e s. ap!.apart13 (k.0 e) h (sym s))

  -- To take it now is to have taken it also.
  gone-also : (i : Input) (t : Taken) → is-taken t i ≡ false → pop (input p i) (gone t p q) ≡ gone (also i t) p q
  gone-also first t f =
      rw f (pop-if-pop t.take3 p.in1 p.in3 (pop-if t.take2 p.in2 q)
      ∙ ap (pop-if t.take3 p.in3) (pop-if-pop t.take2 p.in1 p.in2 q))
  gone-also second t f = rw f (pop-if-pop t.take3 p.in2 p.in3 (pop-if t.take1 p.in1 q))
  gone-also third t f = rw f refl

  -- what a firing finds on an input on which `x` waits first
  finds : (i : Input) (t : Taken) (x : Token) (ts : List Token) → is-taken t i ≡ false → Took p q t → q (input p i) ≡ x ∷ ts →
      value-of (head (gone t p q (input p i))) ≡ value-of x
  finds i t x ts f k e = ap (λ (z : List Token). value-of (head z)) (gone-head i t f k (rw e (omega arith)) ∙ e)

  pub act-decided : (f : Firing) (t : Taken) (d : Decision) → Once t f → Took p q t → decided t f (heads p q) ≡ some d →
      act (wire keep p f) (gone t p q) ≡ performed keep p q d
  act-decided (takes i k) t d o tk = go (λ v. act-decided (k v) (also i t) d (o.1 v)) (q (input p i)) refl
    where
      go : ((v : Value) → Took p q (also i t) → decided (also i t) (k v) (heads p q) ≡ some d → act (wire keep p (k v)) (gone (also i t) p q) ≡ performed keep p q d) →
          (ts : List Token) → q (input p i) ≡ ts → with-head (first-token ts) (λ v. decided (also i t) (k v) (heads p q)) ≡ some d →
          act (wire keep p (k (value-of (head (gone t p q (input p i)))))) (pop (input p i) (gone t p q)) ≡ performed keep p q d
      go ih [] w e = absurd (none-is-not-some d e)
      go ih (x ∷ ts) w e =
          ap₂ (λ (v : Value) (r : Links). act (wire keep p (k v)) r) (finds i t x ts o.0 tk w) (gone-also i t o.0)
          ∙ ih (value-of x) (took-also p q i t tk (rw w (omega arith))) e
  act-decided (gives a b c g) t d o tk =
      λ e. ap (performed keep p q) (some_same (record { taken = t; give1 = a; give2 = b; give3 = c; register = g }) d e)
  act-decided never t d o tk = λ e. absurd (none-is-not-some d e)

  module _ (cap : ℕ → ℕ) where
    -- Able: there is a decision, and room for what it gives.
    pub able-decided : (f : Firing) (t : Taken) → Once t f → Took p q t → Able cap (wire keep p f) (gone t p q) →
        (d : Decision) × (decided t f (heads p q) ≡ some d) × Roomy cap keep p q d
    able-decided (takes i k) t o tk = go (λ v. able-decided (k v) (also i t) (o.1 v)) (q (input p i)) refl
      where
        go : ((v : Value) → Took p q (also i t) → Able cap (wire keep p (k v)) (gone (also i t) p q) →
            (d : Decision) × (decided (also i t) (k v) (heads p q) ≡ some d) × Roomy cap keep p q d) → (ts : List Token) → q (input p i) ≡ ts →
            (0 < length (gone t p q (input p i))) × Able cap (wire keep p (k (value-of (head (gone t p q (input p i)))))) (pop (input p i) (gone t p q)) →
            (d : Decision) × (with-head (first-token ts) (λ v. decided (also i t) (k v) (heads p q)) ≡ some d) × Roomy cap keep p q d
        go ih [] w a = absurd (omega (arith, gone-shortens p q t (input p i), ap length w))
        go ih (x ∷ ts) w a =
            ih (value-of x) (took-also p q i t tk (rw w (omega arith)))
            (subst (λ r. Able cap (wire keep p (k (value-of x))) r) (gone-also i t o.0)
            (subst (λ v. Able cap (wire keep p (k v)) (pop (input p i) (gone t p q))) (finds i t x ts o.0 tk w) a.1))
    able-decided (gives a b c g) t o tk = λ r. (record { taken = t; give1 = a; give2 = b; give3 = c; register = g }, refl, r)
    able-decided never t o tk = λ r. absurd r

    pub decided-able : (f : Firing) (t : Taken) (d : Decision) → Once t f → Took p q t → decided t f (heads p q) ≡ some d → Roomy cap keep p q d →
        Able cap (wire keep p f) (gone t p q)
    decided-able (takes i k) t d o tk = go (λ v. decided-able (k v) (also i t) d (o.1 v)) (q (input p i)) refl
      where
        go : ((v : Value) → Took p q (also i t) → decided (also i t) (k v) (heads p q) ≡ some d → Roomy cap keep p q d → Able cap (wire keep p (k v)) (gone (also i t) p q)) →
            (ts : List Token) → q (input p i) ≡ ts → with-head (first-token ts) (λ v. decided (also i t) (k v) (heads p q)) ≡ some d → Roomy cap keep p q d →
            (0 < length (gone t p q (input p i))) × Able cap (wire keep p (k (value-of (head (gone t p q (input p i)))))) (pop (input p i) (gone t p q))
        go ih [] w e r = absurd (none-is-not-some d e)
        go ih (x ∷ ts) w e r =
            let h : 0 < length (q (input p i)) = rw w (omega arith) in (
              rw (gone-head i t o.0 tk h) h,
              subst (λ v. Able cap (wire keep p (k v)) (pop (input p i) (gone t p q))) (sym (finds i t x ts o.0 tk w))
                  (subst (λ r. Able cap (wire keep p (k (value-of x))) r) (sym (gone-also i t o.0))
                  (ih (value-of x) (took-also p q i t tk h) e r)),
            )
    decided-able (gives a b c g) t d o tk =
        λ e r. subst (Roomy cap keep p q) (sym (some_same (record { taken = t; give1 = a; give2 = b; give3 = c; register = g }) d e)) r
    decided-able never t d o tk = λ e r. absurd (none-is-not-some d e)

register-read : (g : Register) → register_of (register-token g) ≡ g
register-read none = refl
register-read (some v) = refl

apart-popped : (p : Ports) (q : Links) (l : ℕ) → Apart p q → Apart p (pop l q)
apart-popped p q l a =
    record {
      apart12 = λ h k. a.apart12 (waits p.in1 h) (waits p.in2 k);
      apart13 = λ h k. a.apart13 (waits p.in1 h) (waits p.in3 k);
      apart23 = λ h k. a.apart23 (waits p.in2 h) (waits p.in3 k);
    }
  where
    waits : (j : ℕ) → 0 < length (pop l q j) → 0 < length (q j)
    waits j h = omega (arith, pop-shortens l j q)

pub apart-unregistered : (b : Bool) (p : Ports) (q : Links) → Apart p q → Apart p (unregistered b p q)
apart-unregistered true p q a = apart-popped p q p.register a
apart-unregistered false p q a = a

pub heads-unregistered : (b : Bool) (p : Ports) (q : Links) → Own-register b p → heads p (unregistered b p q) ≡ heads p q
heads-unregistered true p q o = fun_ext (λ i. ap first-token (pop-other p.register (input p i) q (o i)))
heads-unregistered false p q o = refl

-- nothing taken yet
pub none-took : (p : Ports) (q : Links) → Took p q untouched
none-took p q = (λ e. unset false refl e, λ e. unset false refl e, λ e. unset false refl e)

module _ (k : Kind) (p : Ports) (q : Links) (g : Register) (a : Apart p q) (own : Own-register (remembering k) p) (h : Holds (remembering k) p q g) where
  abbrev b : Bool
  b = remembering k

  abbrev rest : Links
  rest = unregistered b p q

  apart-rest : Apart p rest
  apart-rest = apart-unregistered b p q a

  -- the firing with its register read
  opened : (b : Bool) → Holds b p q g → act (filled b k p) q ≡ act (wire (kept b p) p (rule k g)) (unregistered b p q)
  opened true e =
      ap (λ (r : Register). act (wire (kept true p) p (rule k r)) (pop p.register q)) (ap (λ (z : List Token). register_of (head z)) e ∙ register-read g)
  opened false e = ap (λ (r : Register). act (wire (kept false p) p (rule k r)) q) e

  -- WHAT IS POPPED AND WHAT IS APPENDED: the firing of the kind on its links is the decision carried out.
  pub fill-acts : (d : Decision) → decide k g (heads p q) ≡ some d → act (fill k p) q ≡ carried k p q d
  fill-acts d e =
      opened b h
      ∙ act-decided (kept b p) p rest apart-rest (rule k g) untouched d (rule-once k g) (none-took p rest)
      (ap (decide k g) (heads-unregistered b p q own) ∙ e)

  module _ (cap : ℕ → ℕ) where
    opens : (b : Bool) → Holds b p q g → Able cap (filled b k p) q → Able cap (wire (kept b p) p (rule k g)) (unregistered b p q)
    opens true e z =
        subst (λ r. Able cap (wire (kept true p) p (rule k r)) (pop p.register q)) (ap (λ (z : List Token). register_of (head z)) e ∙ register-read g) z.1
    opens false e z = subst (λ r. Able cap (wire (kept false p) p (rule k r)) q) e z

    shuts : (b : Bool) → Holds b p q g → Able cap (wire (kept b p) p (rule k g)) (unregistered b p q) → Able cap (filled b k p) q
    shuts true e z = (
      rw e (omega arith),
      subst (λ r. Able cap (wire (kept true p) p (rule k r)) (pop p.register q)) (sym (ap (λ (z : List Token). register_of (head z)) e ∙ register-read g)) z,
    )
    shuts false e z = subst (λ r. Able cap (wire (kept false p) p (rule k r)) q) (sym e) z

    -- ABLE: the decision is there and has room, no more and no less.
    pub fill-able : Able cap (fill k p) q → (d : Decision) × (decide k g (heads p q) ≡ some d) × Room-for cap k p q d
    fill-able z =
        subst (λ hs. (d : Decision) × (decide k g hs ≡ some d) × Room-for cap k p q d) (heads-unregistered b p q own)
        (able-decided (kept b p) p rest apart-rest cap (rule k g) untouched (rule-once k g) (none-took p rest) (opens b h z))

    pub able-fill : (d : Decision) → decide k g (heads p q) ≡ some d → Room-for cap k p q d → Able cap (fill k p) q
    able-fill d e r =
        shuts b h
        (decided-able (kept b p) p rest apart-rest cap (rule k g) untouched d (rule-once k g) (none-took p rest)
        (ap (decide k g) (heads-unregistered b p q own) ∙ e) r)
