-- Laws of specs/FiringLinks.antt, and what only they need.
use Rattle.std.specs.Prelude.{ℕ, ◌<◌, ◌≤◌, ◌+◌, ◌≡◌, refl, ◌≢◌, Bool, true, false, List, [], ◌∷◌, ◌++◌, length}
use Rattle.std.proofs.Common.{sym, ◌∙◌, ap, subst, append-nil, length-append, arith}
use Rattle.std.proofs.Math.Logic.{ite}
use Rattle.std.proofs.lemmas.Bool.{false≢true}
use Rattle.std.proofs.Math.Option.{Option, none, some}
use Rattle.std.proofs.Math.Decide.{ℕ_discrete}
use Rattle.value.specs.declared.Value.{Value}
use Rattle.network.specs.Rules.{Kind, Register, Firing, takes, gives, never, Input, first, second, third, rule}
use Rattle.network.specs.Net.{Token, val, Links, tail, pop, append, Room, appends}
use Rattle.network.proofs.Net.{pop-same, pop-other, append-same, append-other}
use Rattle.network.specs.Fill.{Ports, input, value-of, register-token, emission, emissions, remembering, kept, Gives}
use Rattle.network.proofs.Fill.{register-kept}
use Rattle.network.specs.Decide.{Taken, untouched, is-taken, also, Decision, with-head, decided, decide}
use Rattle.network.specs.Firing.{pop-if, gone, first-token, heads, Apart, performed, Took, Holds, Own-register, unregistered, carried}
use Rattle.network.proofs.Firing.{pop-if-other, none-is-not-some, some_same, took-also, gone-shortens, apart-unregistered, heads-unregistered, none-took}
use Rattle.network.specs.FiringLinks.{Output, output1, output2, output3, output, given, without, tokens, Own-links, Elsewhere}

tail-without : (ts : List Token) → tail ts ≡ without true ts
tail-without [] = refl
tail-without (t ∷ ts) = refl

without-none : (b : Bool) → without b [] ≡ []
without-none true = refl
without-none false = refl

none_left : (ts : List Token) → length ts ≤ 0 → ts ≡ []
none_left [] h = refl
none_left (t ∷ ts) h = absurd (omega arith)

pop-if-same : (b : Bool) (l : ℕ) (q : Links) → pop-if b l q l ≡ without b (q l)
pop-if-same true l q = pop-same l q ∙ tail-without (q l)
pop-if-same false l q = refl

-- what is appended on a link
pub appends-app : (xs ys : List (ℕ × Token)) (q : Links) → appends (xs ++ ys) q ≡ appends ys (appends xs q)
appends-app [] ys q = refl
appends-app (e ∷ xs) ys q = appends-app xs ys (append e.0 e.1 q)

emission-off : (o : Option ℕ) (v : Option Value) (q : Links) (l : ℕ) → o ≢ some l → appends (emission o v) q l ≡ q l
emission-off none v q l h = refl
emission-off (some m) none q l h = refl
emission-off (some m) (some v) q l h = append-other m l (val v) q (λ e. h (ap some (sym e)))

emission-on : (l : ℕ) (v : Option Value) (q : Links) → appends (emission (some l) v) q l ≡ q l ++ tokens v
emission-on l none q = sym (append-nil (q l))
emission-on l (some v) q = append-same l (val v) q

emission-at : (o : Option ℕ) (v : Option Value) (q : Links) (l : ℕ) → o ≡ some l → appends (emission o v) q l ≡ q l ++ tokens v
emission-at o v q l e = subst (λ z. appends (emission z v) q l ≡ q l ++ tokens v) (sym e) (emission-on l v q)

-- Everything that is emitted has room where the capacities are large enough.
append-by-one : (l j : ℕ) (t : Token) (q : Links) → length (append l t q j) ≤ length (q j) + 1
unfolding append
append-by-one l j t q = go (q j) (ℕ_discrete j l)
  where
    go : (xs : List Token) (d : Dec (j ≡ l)) → length (ite d (xs ++ (t ∷ [])) xs) ≤ length xs + 1
    go xs (yes e) = simp length-append (omega arith)
    go xs (no n) = omega arith

pub room-enough : (cap : ℕ → ℕ) (es : List (ℕ × Token)) (q : Links) → ((l : ℕ) → length (q l) + length es ≤ cap l) → Room cap es q
room-enough cap [] q h = tt
room-enough cap (e ∷ es) q h = (
  omega (arith, h e.0),
  room-enough cap es (append e.0 e.1 q) (λ l. omega (arith, h l, append-by-one e.0 l e.1 q)),
)

-- The inputs of a decision were waited on, and it leaves the register that its rule gives.
pub decided-took : (p : Ports) (q : Links) (f : Firing) (t : Taken) (d : Decision) → Took p q t → decided t f (heads p q) ≡ some d →
    Took p q d.taken
decided-took p q (takes i k) t d tk = go (λ v. decided-took p q (k v) (also i t) d) (q (input p i)) refl
  where
    go : ((v : Value) → Took p q (also i t) → decided (also i t) (k v) (heads p q) ≡ some d → Took p q d.taken) → (ts : List Token) →
        q (input p i) ≡ ts → with-head (first-token ts) (λ v. decided (also i t) (k v) (heads p q)) ≡ some d → Took p q d.taken
    go ih [] w e = absurd (none-is-not-some d e)
    go ih (x ∷ ts) w e = ih (value-of x) (took-also p q i t tk (rw w (omega arith))) e
decided-took p q (gives a b c g) t d tk =
    λ e. subst (λ z. Took p q z.taken) (some_same (record { taken = t; give1 = a; give2 = b; give3 = c; register = g }) d e) tk
decided-took p q never t d tk = λ e. absurd (none-is-not-some d e)

decided-register : (P : Register → Type 0) (f : Firing) (t : Taken) (hs : Input → Option Value) (d : Decision) → Gives P f →
    decided t f hs ≡ some d → P d.register
decided-register P (takes i k) t hs d g = go (λ v. decided-register P (k v) (also i t) hs d (g v)) (hs i)
  where
    go : ((v : Value) → decided (also i t) (k v) hs ≡ some d → P d.register) → (o : Option Value) →
        with-head o (λ v. decided (also i t) (k v) hs) ≡ some d → P d.register
    go ih none e = absurd (none-is-not-some d e)
    go ih (some v) e = ih v e
decided-register P (gives a b c r) t hs d g =
    λ e. subst (λ z. P z.register) (some_same (record { taken = t; give1 = a; give2 = b; give3 = c; register = r }) d e) g
decided-register P never t hs d g = λ e. absurd (none-is-not-some d e)

-- The links without the tokens taken: an input loses its token, another link nothing.
module _ (p : Ports) (q : Links) (a : Apart p q) (t : Taken) (k : Took p q t) where
  abbrev one : Links
  one = pop-if t.take1 p.in1 q

  abbrev two : Links
  two = pop-if t.take2 p.in2 one

  gone-waiting : (i : Input) → 0 < length (q (input p i)) → gone t p q (input p i) ≡ without (is-taken t i) (q (input p i))
  gone-waiting first h =
      pop-if-other t.take3 p.in3 p.in1 two (λ e. a.apart13 h (k.2 e))
      ∙ pop-if-other t.take2 p.in2 p.in1 one (λ e. a.apart12 h (k.1 e))
      ∙ pop-if-same t.take1 p.in1 q
  gone-waiting second h =
      pop-if-other t.take3 p.in3 p.in2 two (λ e. a.apart23 h (k.2 e))
      ∙ pop-if-same t.take2 p.in2 one
      ∙ ap (without t.take2) (pop-if-other t.take1 p.in1 p.in2 q (λ e s. a.apart12 (k.0 e) h (sym s)))
  gone-waiting third h =
      pop-if-same t.take3 p.in3 two
      ∙ ap (without t.take3)
      (pop-if-other t.take2 p.in2 p.in3 one (λ e s. a.apart23 (k.1 e) h (sym s))
      ∙ pop-if-other t.take1 p.in1 p.in3 q (λ e s. a.apart13 (k.0 e) h (sym s)))

  gone-input : (i : Input) → gone t p q (input p i) ≡ without (is-taken t i) (q (input p i))
  gone-input i = go (q (input p i)) refl
    where
      go : (ts : List Token) → q (input p i) ≡ ts → gone t p q (input p i) ≡ without (is-taken t i) (q (input p i))
      go [] e =
          none_left (gone t p q (input p i)) (omega (arith, gone-shortens p q t (input p i), ap length e))
          ∙ sym (ap (without (is-taken t i)) e ∙ without-none (is-taken t i))
      go (x ∷ ts) e = gone-waiting i (rw e (omega arith))

gone-other : (p : Ports) (q : Links) (t : Taken) (l : ℕ) → ((i : Input) → input p i ≢ l) → gone t p q l ≡ q l
gone-other p q t l h =
    pop-if-other t.take3 p.in3 l (pop-if t.take2 p.in2 (pop-if t.take1 p.in1 q)) (λ e s. h third (sym s))
    ∙ pop-if-other t.take2 p.in2 l (pop-if t.take1 p.in1 q) (λ e s. h second (sym s))
    ∙ pop-if-other t.take1 p.in1 l q (λ e s. h first (sym s))

unregistered-other : (b : Bool) (p : Ports) (q : Links) (l : ℕ) → (b ≡ true → p.register ≢ l) → unregistered b p q l ≡ q l
unregistered-other true p q l h = pop-other p.register l q (λ e. h refl (sym e))
unregistered-other false p q l h = refl

kept-other : (b : Bool) (p : Ports) (g : Register) (q : Links) (l : ℕ) → (b ≡ true → p.register ≢ l) → appends (kept b p g) q l ≡ q l
kept-other true p g q l h = append-other p.register l (register-token g) q (λ e. h refl (sym e))
kept-other false p g q l h = refl

-- the values given, output by output, and then the register
emitted : (p : Ports) (a b c : Option Value) (ks : List (ℕ × Token)) (q : Links) →
    appends (emissions p a b c ++ ks) q ≡ appends ks (appends (emission p.out3 c) (appends (emission p.out2 b) (appends (emission p.out1 a) q)))
emitted p a b c ks q =
    appends-app (emissions p a b c) ks q
    ∙ ap (appends ks)
    (appends-app (emission p.out1 a) (emission p.out2 b ++ emission p.out3 c) q
    ∙ appends-app (emission p.out2 b) (emission p.out3 c) (appends (emission p.out1 a) q))

own : (b : Bool) (p : Ports) → Own-register b p → (i : Input) → b ≡ true → p.register ≢ input p i
own true p o i e s = o i (sym s)
own false p o i e s = false≢true e

-- no value is given on a link that is no output
not-given : (p : Ports) (d : Decision) (q : Links) (l : ℕ) → ((x : Output) → output p x ≢ some l) →
    appends (emission p.out3 d.give3) (appends (emission p.out2 d.give2) (appends (emission p.out1 d.give1) q)) l ≡ q l
not-given p d q l h =
    emission-off p.out3 d.give3 (appends (emission p.out2 d.give2) (appends (emission p.out1 d.give1) q)) l (h output3)
    ∙ emission-off p.out2 d.give2 (appends (emission p.out1 d.give1) q) l (h output2)
    ∙ emission-off p.out1 d.give1 q l (h output1)

module _ (k : Kind) (p : Ports) (q : Links) (g : Register) (o : Own-links k p q) (d : Decision) (e : decide k g (heads p q) ≡ some d) where
  abbrev b : Bool
  b = remembering k

  abbrev rest : Links
  rest = unregistered b p q

  abbrev taken_out : Links
  taken_out = gone d.taken p rest

  abbrev after1 : Links
  after1 = appends (emission p.out1 d.give1) taken_out

  abbrev after2 : Links
  after2 = appends (emission p.out2 d.give2) after1

  abbrev after3 : Links
  after3 = appends (emission p.out3 d.give3) after2

  finally : (l : ℕ) → carried k p q d l ≡ appends (kept b p d.register) after3 l
  finally l = ap (λ (z : Links). z l) (emitted p d.give1 d.give2 d.give3 (kept b p d.register) taken_out)

  took : Took p rest d.taken
  took =
      decided-took p rest (rule k g) untouched d (none-took p rest) (ap (decide k g) (heads-unregistered b p q o.register-no-input) ∙ e)

  pub input-after : (i : Input) → carried k p q d (input p i) ≡ without (is-taken d.taken i) (q (input p i))
  input-after i =
      finally (input p i)
      ∙ kept-other b p d.register after3 (input p i) (own b p o.register-no-input i)
      ∙ not-given p d taken_out (input p i) (λ x. o.output-no-input x i)
      ∙ gone-input p rest (apart-unregistered b p q o.inputs_apart) d.taken took i
      ∙ ap (without (is-taken d.taken i)) (unregistered-other b p q (input p i) (own b p o.register-no-input i))

  -- the link of an output before anything is given
  output-before : (x : Output) (l : ℕ) → output p x ≡ some l → taken_out l ≡ q l
  output-before x l f =
      gone-other p rest d.taken l (λ i s. o.output-no-input x i (f ∙ ap some (sym s)))
      ∙ unregistered-other b p q l (λ r s. o.output-no-register x r (f ∙ ap some (sym s)))

  given-at : (x : Output) (l : ℕ) → output p x ≡ some l → after3 l ≡ taken_out l ++ tokens (given d x)
  given-at output1 l f =
      emission-off p.out3 d.give3 after2 l (o.outputs13 l f)
      ∙ emission-off p.out2 d.give2 after1 l (o.outputs12 l f)
      ∙ emission-at p.out1 d.give1 taken_out l f
  given-at output2 l f =
      emission-off p.out3 d.give3 after2 l (o.outputs23 l f)
      ∙ emission-at p.out2 d.give2 after1 l f
      ∙ ap (λ ts. ts ++ tokens d.give2) (emission-off p.out1 d.give1 taken_out l (λ s. o.outputs12 l s f))
  given-at output3 l f =
      emission-at p.out3 d.give3 after2 l f
      ∙ ap (λ ts. ts ++ tokens d.give3)
      (emission-off p.out2 d.give2 after1 l (λ s. o.outputs23 l s f)
      ∙ emission-off p.out1 d.give1 taken_out l (λ s. o.outputs13 l s f))

  pub output-after : (x : Output) (l : ℕ) → output p x ≡ some l → carried k p q d l ≡ q l ++ tokens (given d x)
  output-after x l f =
      finally l
      ∙ kept-other b p d.register after3 l (λ r s. o.output-no-register x r (f ∙ ap some (sym s)))
      ∙ given-at x l f
      ∙ ap (λ ts. ts ++ tokens (given d x)) (output-before x l f)

  pub elsewhere-after : (l : ℕ) → Elsewhere k p l → carried k p q d l ≡ q l
  elsewhere-after l w =
      finally l
      ∙ kept-other b p d.register after3 l w.no_register
      ∙ not-given p d taken_out l w.no_output
      ∙ gone-other p rest d.taken l w.no-input
      ∙ unregistered-other b p q l w.no_register

  pub register-after : Holds (remembering k) p q g → Holds (remembering k) p (carried k p q d) d.register
  register-after = go (remembering k) refl o.register-no-input
    where
      go : (b : Bool) → remembering k ≡ b → Own-register b p → Holds b p q g → Holds b p (performed (kept b p) p (unregistered b p q) d) d.register
      go true r w h =
          ap (λ (z : Links). z p.register)
          (emitted p d.give1 d.give2 d.give3 (kept true p d.register) (gone d.taken p (pop p.register q)))
          ∙ append-same p.register (register-token d.register)
          (appends (emission p.out3 d.give3)
          (appends (emission p.out2 d.give2) (appends (emission p.out1 d.give1) (gone d.taken p (pop p.register q)))))
          ∙ ap (λ ts. ts ++ (register-token d.register ∷ []))
          (not-given p d (gone d.taken p (pop p.register q)) p.register (λ x. o.output-no-register x r)
          ∙ gone-other p (pop p.register q) d.taken p.register w
          ∙ pop-same p.register q
          ∙ ap tail h)
      go false r w h = h ∙ sym (decided-register (λ z. z ≡ g) (rule k g) untouched (heads p q) d (register-kept k g r) e)
