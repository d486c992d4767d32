-- Laws of specs/GateFiring.antt, and what only they need.
use Rattle.std.specs.Prelude.{ℕ, ◌≤◌, ◌<◌, ◌≡◌, refl, Bool, false, length}
use Rattle.std.proofs.Common.{sym, ◌∙◌, subst, inl, inr, arith}
use Rattle.std.proofs.Math.Path.{ap, fun_ext}
use mathlib.Core.List.{List, [], ◌∷◌, ◌++◌}
use Rattle.std.proofs.Math.Option.{Option, none, some}
use Rattle.std.proofs.Math.Decide.{ℕ_discrete}
use Rattle.value.specs.declared.Value.{Value}
use Rattle.network.specs.Rules.{Kind, Input, first, second, third, Register}
use Rattle.network.specs.Net.{Token, val, Links, append, Room, Able, appends, act}
use Rattle.network.proofs.Net.{append-same, append-other}
use Rattle.network.specs.Fill.{Ports, emission, remembering, kept, fill}
use Rattle.network.specs.Decide.{Decision, decide}
use Rattle.network.specs.Firing.{first-token, pop-if, gone, heads, Apart, performed, Roomy, Holds, Own-register, unregistered}
use Rattle.network.proofs.Firing.{fill-acts, able-fill}
use Rattle.network.specs.Uses.{In}
use Rattle.theory_pieces.specs.Load.{set_link}
use Rattle.theory_pieces.proofs.Load.{set_same, set_other, set-ext}
use Rattle.theory_pieces.specs.Goes.{Net, one_place}
use Rattle.theory_pieces.proofs.Goes.{Steps}
use Rattle.theory_pieces.proofs.Gate.{pop-set}
use Rattle.theory_pieces.specs.Sets.{Different}
use Rattle.graph.specs.Assembly.{made, nth}
use Rattle.graph.specs.Yields.{waiting, is_there, TakesAll}
use Rattle.theory_reference.specs.Plugged.{nowhere, ports_of}
use Rattle.theory_reference.proofs.Plugged.{Somewhere}
use Rattle.theory_reference.specs.Plan.{tokens, Hold}
use Rattle.theory_reference.specs.GateFiring.{emptied, Shape, without-inputs, one_input, two-inputs, three-inputs, laid_on, Free-port}

pub emptied-there : (ls : List ℕ) (q : Links) (l : ℕ) → (In l ls → ⊥) → emptied ls q l ≡ q l
emptied-there [] q l n = refl
emptied-there (k ∷ ls) q l n = emptied-there ls (set_link k [] q) l (λ i. n (inr i)) ∙ set_other k l [] q (λ e. n (inl e))

emptied-keeps : (ls : List ℕ) (q : Links) (l : ℕ) → q l ≡ [] → emptied ls q l ≡ []
emptied-keeps [] q l e = e
emptied-keeps (k ∷ ls) q l e = emptied-keeps ls (set_link k [] q) l (go (ℕ_discrete l k))
  where
    go : Dec (l ≡ k) → set_link k [] q l ≡ []
    go (yes z) = ap (set_link k [] q) z ∙ set_same k [] q
    go (no z) = set_other k l [] q z ∙ e

pub emptied-here : (ls : List ℕ) (q : Links) (l : ℕ) → In l ls → emptied ls q l ≡ []
emptied-here [] q l i = absurd i
emptied-here (k ∷ ls) q l (inl e) = emptied-keeps ls (set_link k [] q) l (ap (set_link k [] q) e ∙ set_same k [] q)
emptied-here (k ∷ ls) q l (inr i) = emptied-here ls (set_link k [] q) l i

-- A token that waits is taken; where none waits nothing is.
take-one : (v : Option Value) (l : ℕ) (q : Links) (b : Bool) → q l ≡ tokens v → b ≡ is_there v → pop-if b l q ≡ set_link l [] q
take-one none l q b e h = ap (λ z. pop-if z l q) h ∙ sym (set-ext l [] q q e (λ j ne. refl))
take-one (some v) l q b e h = ap (λ z. pop-if z l q) h ∙ pop-set l q (val v) e

take_none : (l : ℕ) (q : Links) (b : Bool) → b ≡ false → pop-if b l q ≡ q
take_none l q b h = ap (λ z. pop-if z l q) h

shape : (ins : List ℕ) (vs : List (Option Value)) (q : Links) → length ins ≤ 3 → Hold ins vs q → Shape ins vs
shape [] [] q le h = without-inputs
shape [] (x ∷ vs) q le h = absurd h
shape (a ∷ ins) [] q le h = absurd h
shape (a ∷ []) (x ∷ []) q le h = one_input a x
shape (a ∷ []) (x ∷ y ∷ vs) q le h = absurd h.1
shape (a ∷ b ∷ ins) (x ∷ []) q le h = absurd h.1
shape (a ∷ b ∷ []) (x ∷ y ∷ []) q le h = two-inputs a b x y
shape (a ∷ b ∷ []) (x ∷ y ∷ z ∷ vs) q le h = absurd h.1.1
shape (a ∷ b ∷ c ∷ ins) (x ∷ y ∷ []) q le h = absurd h.1.1
shape (a ∷ b ∷ c ∷ []) (x ∷ y ∷ z ∷ []) q le h = three-inputs a b c x y z
shape (a ∷ b ∷ c ∷ []) (x ∷ y ∷ z ∷ w ∷ vs) q le h = absurd h.1.1.1
shape (a ∷ b ∷ c ∷ d ∷ ins) (x ∷ y ∷ z ∷ vs) q le h = absurd (omega arith)

head-is : (x : Option Value) (ts : List Token) → ts ≡ tokens x → first-token ts ≡ x
head-is none ts e = ap first-token e
head-is (some v) ts e = ap first-token e

module _ (k : Kind) (g : Register) (o₁ o₂ o₃ : Option ℕ) where
  abbrev ports : List ℕ → Ports
  ports ins = ports_of (made k g ins o₁ o₂ o₃)

  -- What waits on the ports is what lies on the inputs.
  heads-are : {ins : List ℕ} {vs : List (Option Value)} (q : Links) → Shape ins vs → Hold ins vs q → q nowhere ≡ [] → (i : Input) → heads (ports ins) q i ≡ waiting vs i
  unfolding nth
  heads-are q without-inputs h v first = head-is none (q nowhere) v
  heads-are q without-inputs h v second = head-is none (q nowhere) v
  heads-are q without-inputs h v third = head-is none (q nowhere) v
  heads-are q (one_input a x) h v first = head-is x (q a) h.0
  heads-are q (one_input a x) h v second = head-is none (q nowhere) v
  heads-are q (one_input a x) h v third = head-is none (q nowhere) v
  heads-are q (two-inputs a b x y) h v first = head-is x (q a) h.0
  heads-are q (two-inputs a b x y) h v second = head-is y (q b) h.1.0
  heads-are q (two-inputs a b x y) h v third = head-is none (q nowhere) v
  heads-are q (three-inputs a b c x y z) h v first = head-is x (q a) h.0
  heads-are q (three-inputs a b c x y z) h v second = head-is y (q b) h.1.0
  heads-are q (three-inputs a b c x y z) h v third = head-is z (q c) h.1.1.0

  -- The tokens taken are all that wait.
  gone-is : {ins : List ℕ} {vs : List (Option Value)} (q : Links) (d : Decision) → Shape ins vs → Hold ins vs q → Different ins → TakesAll vs d → gone d.taken (ports ins) q ≡ emptied ins q
  unfolding nth
  gone-is q d without-inputs h n t =
      take_none nowhere (pop-if d.taken.take2 nowhere (pop-if d.taken.take1 nowhere q)) d.taken.take3 t.data3
      ∙ take_none nowhere (pop-if d.taken.take1 nowhere q) d.taken.take2 t.data2 ∙ take_none nowhere q d.taken.take1 t.control
  gone-is q d (one_input a x) h n t =
      take_none nowhere (pop-if d.taken.take2 nowhere (pop-if d.taken.take1 a q)) d.taken.take3 t.data3
      ∙ take_none nowhere (pop-if d.taken.take1 a q) d.taken.take2 t.data2 ∙ take-one x a q d.taken.take1 h.0 t.control
  gone-is q d (two-inputs a b x y) h n t =
      take_none nowhere (pop-if d.taken.take2 b (pop-if d.taken.take1 a q)) d.taken.take3 t.data3
      ∙ ap (pop-if d.taken.take2 b) (take-one x a q d.taken.take1 h.0 t.control)
      ∙ take-one y b (set_link a [] q) d.taken.take2 (set_other a b [] q (λ e. n.0 (inl (sym e))) ∙ h.1.0) t.data2
  gone-is q d (three-inputs a b c x y z) h n t =
      ap (λ r. pop-if d.taken.take3 c (pop-if d.taken.take2 b r)) (take-one x a q d.taken.take1 h.0 t.control)
      ∙ ap (pop-if d.taken.take3 c) (take-one y b (set_link a [] q) d.taken.take2 (set_other a b [] q (λ e. n.0 (inl (sym e))) ∙ h.1.0) t.data2)
      ∙ take-one z c (set_link b [] (set_link a [] q)) d.taken.take3
      (set_other b c [] (set_link a [] q) (λ e. n.1.0 (inl (sym e))) ∙ set_other a c [] q (λ e. n.0 (inr (inl (sym e)))) ∙ h.1.1.0) t.data3

  -- nothing waits on an absent input
  dry : (q : Links) → q nowhere ≡ [] → 0 < length (q nowhere) → ⊥
  dry q v h = let e : length (q nowhere) ≡ 0 = ap length v in omega arith

  apart : {ins : List ℕ} {vs : List (Option Value)} (q : Links) → Shape ins vs → Different ins → q nowhere ≡ [] → Apart (ports ins) q
  unfolding nth
  apart q without-inputs n v = record { apart12 = λ h j. absurd (dry q v h); apart13 = λ h j. absurd (dry q v h); apart23 = λ h j. absurd (dry q v h) }
  apart q (one_input a x) n v = record { apart12 = λ h j. absurd (dry q v j); apart13 = λ h j. absurd (dry q v j); apart23 = λ h j. absurd (dry q v j) }
  apart q (two-inputs a b x y) n v = record { apart12 = λ h j e. n.0 (inl e); apart13 = λ h j. absurd (dry q v j); apart23 = λ h j. absurd (dry q v j) }
  apart q (three-inputs a b c x y z) n v =
      record { apart12 = λ h j e. n.0 (inl e); apart13 = λ h j e. n.0 (inr (inl e)); apart23 = λ h j e. n.1.0 (inl e) }

emission-does : (o : Option ℕ) (v : Option Value) (q : Links) → Free-port o q → Room one_place (emission o v) q × (appends (emission o v) q ≡ laid_on o v q)
emission-does none v q e = (tt, refl)
emission-does (some l) none q e = (tt, sym (set-ext l [] q q e (λ j ne. refl)))
emission-does (some l) (some v) q e =
    ((rw e (omega arith), tt), sym (set-ext l (val v ∷ []) q (append l (val v) q) (append-same l (val v) q ∙ ap (λ z. z ++ (val v ∷ [])) e) (λ j ne. sym (append-other l j (val v) q ne))))

appends-app : (xs ys : List (ℕ × Token)) (q : Links) → appends (xs ++ ys) q ≡ appends ys (appends xs q)
appends-app [] ys q = refl
appends-app (x ∷ xs) ys q = appends-app xs ys (append x.0 x.1 q)

room-app : (xs ys : List (ℕ × Token)) (q : Links) → Room one_place xs q → Room one_place ys (appends xs q) → Room one_place (xs ++ ys) q
room-app [] ys q r t = t
room-app (x ∷ xs) ys q r t = (r.0, room-app xs ys (append x.0 x.1 q) r.1 t)

both-do : (xs ys : List (ℕ × Token)) (q q₁ q₂ : Links) → Room one_place xs q × (appends xs q ≡ q₁) → Room one_place ys q₁ × (appends ys q₁ ≡ q₂) → Room one_place (xs ++ ys) q × (appends (xs ++ ys) q ≡ q₂)
both-do xs ys q q₁ q₂ a b = (room-app xs ys q a.0 (subst (Room one_place ys) (sym a.1) b.0), appends-app xs ys q ∙ ap (appends ys) a.1 ∙ b.1)

module _ (net : Net) where
  pub gate-fires : (k : Kind) (g : Register) (o₁ o₂ o₃ : Option ℕ) (ins : List ℕ) (vs : List (Option Value)) (d : Decision) (s : Links) → remembering k ≡ false →
      Somewhere net (made k g ins o₁ o₂ o₃) → length ins ≤ 3 → Hold ins vs s → Different ins → s nowhere ≡ [] → decide k g (waiting vs) ≡ some d → TakesAll vs d →
      Free-port o₁ (emptied ins s) → Free-port o₂ (laid_on o₁ d.give1 (emptied ins s)) → Free-port o₃ (laid_on o₂ d.give2 (laid_on o₁ d.give1 (emptied ins s))) →
      Steps net s 1 (laid_on o₃ d.give3 (laid_on o₂ d.give2 (laid_on o₁ d.give1 (emptied ins s))))
  gate-fires k g o₁ o₂ o₃ ins vs d s plain (a, at, fi) le h n v e t f₁ f₂ f₃ =
      record {
        w = a ∷ [];
        runs = (subst (λ z. Able one_place z s) (sym at) able, tt);
        ends = ap (λ z. act z s) at ∙ acts;
        many = omega arith;
        fine = fi;
      }
    where
      p : Ports
      p = ports k g o₁ o₂ o₃ ins

      S : Shape ins vs
      S = shape ins vs s le h

      A : Apart p s
      A = apart k g o₁ o₂ o₃ s S n v

      own : Own-register (remembering k) p
      own = subst (λ b. Own-register b p) (sym plain) tt

      holds : Holds (remembering k) p s g
      holds = subst (λ b. Holds b p s g) (sym plain) refl

      decided : decide k g (heads p s) ≡ some d
      decided = ap (decide k g) (fun_ext (heads-are k g o₁ o₂ o₃ s S h v)) ∙ e

      r : Links
      r = emptied ins s

      taken : gone d.taken p s ≡ r
      taken = gone-is k g o₁ o₂ o₃ s d S h n t

      es : List (ℕ × Token)
      es = emission o₁ d.give1 ++ (emission o₂ d.give2 ++ emission o₃ d.give3)

      does : Room one_place (es ++ []) r × (appends (es ++ []) r ≡ laid_on o₃ d.give3 (laid_on o₂ d.give2 (laid_on o₁ d.give1 r)))
      does =
          both-do es [] r (laid_on o₃ d.give3 (laid_on o₂ d.give2 (laid_on o₁ d.give1 r))) (laid_on o₃ d.give3 (laid_on o₂ d.give2 (laid_on o₁ d.give1 r)))
          (both-do (emission o₁ d.give1) (emission o₂ d.give2 ++ emission o₃ d.give3) r (laid_on o₁ d.give1 r) (laid_on o₃ d.give3 (laid_on o₂ d.give2 (laid_on o₁ d.give1 r)))
          (emission-does o₁ d.give1 r f₁)
          (both-do (emission o₂ d.give2) (emission o₃ d.give3) (laid_on o₁ d.give1 r) (laid_on o₂ d.give2 (laid_on o₁ d.give1 r))
          (laid_on o₃ d.give3 (laid_on o₂ d.give2 (laid_on o₁ d.give1 r))) (emission-does o₂ d.give2 (laid_on o₁ d.give1 r) f₂)
          (emission-does o₃ d.give3 (laid_on o₂ d.give2 (laid_on o₁ d.give1 r)) f₃)))
          (tt, refl)

      able : Able one_place (fill k p) s
      able =
          able-fill k p s g A own holds one_place d decided
          (subst (λ b. Roomy one_place (kept b p) p (unregistered b p s) d) (sym plain) (subst (Room one_place (es ++ [])) (sym taken) does.0))

      acts : act (fill k p) s ≡ laid_on o₃ d.give3 (laid_on o₂ d.give2 (laid_on o₁ d.give1 (emptied ins s)))
      acts =
          fill-acts k p s g A own holds d decided ∙ ap (λ b. performed (kept b p) p (unregistered b p s) d) plain ∙ ap (appends (es ++ [])) taken ∙ does.1
