-- Laws of specs/Uses.antt, and what only they need.
use Rattle.std.specs.Prelude.{ℕ, ◌≡◌, refl, ◌≢◌, ◌⊎◌, Bool, true, false, List, [], ◌∷◌, ◌++◌}
use Rattle.std.proofs.Math.Path.{sym}
use Rattle.std.proofs.Common.{◌∙◌, subst, inl, inr}
use Rattle.std.proofs.Math.Logic.{ite}
use Rattle.std.proofs.Math.Option.{Option, none, some}
use Rattle.std.proofs.Math.Decide.{ℕ_discrete}
use Rattle.value.specs.declared.Value.{Value}
use Rattle.value.specs.declared.Sense.{Sense}
use Rattle.value.specs.declared.Sense.TheVariants.{True, False, Neither}
use Rattle.value.specs.Senses.{sense}
use Rattle.network.specs.Values.{true-value, one-operand}
use Rattle.network.specs.Rules.{Kind, constant, copy, operator, T-gate, F-gate, M-gate, E-gate, IC-gate, FM-gate, FS-gate, Register, Firing, takes, gives, never, first, T-rule, F-rule, M-rule, E-rule, chosen, as-truth, IC-table, fired, FS-rule, operator-rule, rule}
use Rattle.network.specs.Net.{Token, val, Demand, ask, fire}
use Rattle.network.specs.Wired.{Emits-in, Uses}
use Rattle.network.proofs.Wired.{free_of}
use Rattle.network.specs.Fill.{Ports, value-of, register_of, register-token, emission, emissions, wire, remembering, kept, filled, fill}
use Rattle.network.specs.Ends.{draw, collect, push-demand, take-demand}
use Rattle.network.proofs.Ends.{machine}
use Rattle.network.specs.Commute.{Free}
use Rattle.network.specs.Uses.{operand-inputs, inputs, Within, Takes-from, Puts-onto, In}

T-within : (g : Register) (s : Sense) → Within 2 (T-rule g s)
T-within g True = (refl, λ v. tt)
T-within g False = (refl, λ v. tt)
T-within g Neither = (refl, λ v. tt)

F-within : (g : Register) (s : Sense) → Within 2 (F-rule g s)
F-within g True = (refl, λ v. tt)
F-within g False = (refl, λ v. tt)
F-within g Neither = (refl, λ v. tt)

M-within : (g : Register) (s : Sense) → Within 3 (M-rule g s)
M-within g True = (refl, λ v. tt)
M-within g False = (refl, λ v. tt)
M-within g Neither = tt

E-within : (g : Register) (s : Sense) → Within 2 (E-rule g s)
E-within g True = (refl, λ v. tt)
E-within g False = (refl, λ v. tt)
E-within g Neither = tt

table-within : (g : Register) (c : Sense) (i : Bool) → Within 3 (IC-table g c i)
table-within g True true = tt
table-within g True false = tt
table-within g False true = tt
table-within g False false = tt
table-within g Neither i = tt

IC-within : (g : Register) (s : Sense) → Within 3 (chosen s (IC-table g s))
IC-within g True = (refl, λ v. table-within g True (as-truth (sense v)))
IC-within g False = (refl, λ v. table-within g False (as-truth (sense v)))
IC-within g Neither = tt

FS-within : (r : Value) (s : Sense) → Within 2 (FS-rule r s)
FS-within r True = tt
FS-within r False = (refl, λ v. tt)
FS-within r Neither = (refl, λ v. tt)

operator-within : (b : Bool) (code : ℕ) (g : Register) → Within (operand-inputs b) (takes first (operator-rule b code g))
operator-within true code g = (refl, λ v. tt)
operator-within false code g = (refl, λ v. (refl, λ w. tt))

pub rule-within : (k : Kind) (g : Register) → Within (inputs k) (rule k g)
rule-within constant none = tt
rule-within constant (some v) = (refl, λ t. tt)
rule-within copy g = (refl, λ v. tt)
rule-within (operator code) g = operator-within (one-operand code) code g
rule-within T-gate g = (refl, λ c. T-within g (sense c))
rule-within F-gate g = (refl, λ c. F-within g (sense c))
rule-within M-gate g = (refl, λ c. M-within g (sense c))
rule-within E-gate g = (refl, λ c. E-within g (sense c))
rule-within IC-gate g = (refl, λ c. IC-within g (sense c))
rule-within FM-gate none = (refl, λ v. tt)
rule-within FM-gate (some r) = (refl, λ c. M-within fired (sense c))
rule-within FS-gate none = (refl, λ v. tt)
rule-within FS-gate (some r) = (refl, λ c. FS-within r (sense c))

emits-app : (W : ℕ → Type 0) (xs ys : List (ℕ × Token)) → Emits-in W xs → Emits-in W ys → Emits-in W (xs ++ ys)
emits-app W [] ys x y = y
emits-app W (e ∷ xs) ys x y = (x.0, emits-app W xs ys x.1 y)

emission-in : (W : ℕ → Type 0) (o : Option ℕ) (v : Option Value) → ((l : ℕ) → o ≡ some l → W l) → Emits-in W (emission o v)
emission-in W none v h = tt
emission-in W (some l) none h = tt
emission-in W (some l) (some v) h = (h l refl, tt)

module _ (k : Kind) (p : Ports) where
  emissions-in : (a b c : Option Value) → Emits-in (Puts-onto k p) (emissions p a b c)
  emissions-in a b c =
      emits-app (Puts-onto k p) (emission p.out1 a) (emission p.out2 b ++ emission p.out3 c)
      (emission-in (Puts-onto k p) p.out1 a (λ l e. inl e))
      (emits-app (Puts-onto k p) (emission p.out2 b) (emission p.out3 c)
      (emission-in (Puts-onto k p) p.out2 b (λ l e. inr (inl e)))
      (emission-in (Puts-onto k p) p.out3 c (λ l e. inr (inr (inl e)))))

  wire-uses : (b : Bool) → remembering k ≡ b → (f : Firing) → Within (inputs k) f → Uses (Takes-from k p) (Puts-onto k p) (wire (kept b p) p f)
  wire-uses b e (takes i c) w = (inl (i, w.0, refl), λ t. wire-uses b e (c (value-of t)) (w.1 (value-of t)))
  wire-uses true e (gives x y z g) w =
      emits-app (Puts-onto k p) (emissions p x y z) ((p.register, register-token g) ∷ []) (emissions-in x y z) (inr (inr (inr (e, refl))), tt)
  wire-uses false e (gives x y z g) w = emits-app (Puts-onto k p) (emissions p x y z) [] (emissions-in x y z) tt
  wire-uses b e never w = tt

  pub fill-uses : Uses (Takes-from k p) (Puts-onto k p) (fill k p)
  fill-uses = go (remembering k) refl
    where
      go : (b : Bool) → remembering k ≡ b → Uses (Takes-from k p) (Puts-onto k p) (filled b k p)
      go true e = (inr (e, refl), λ t. wire-uses true e (rule k (register_of t)) (rule-within k (register_of t)))
      go false e = wire-uses false e (rule k p.held) (rule-within k p.held)

module _ (source credit : ℕ) where
  draw-uses : (W : ℕ → Type 0) (ins : List ℕ) (k : List (ℕ × Token) → Demand) → ((l : ℕ) → In l ins → W l) →
      ((es : List (ℕ × Token)) → Emits-in W es → Uses (λ l. l ≡ source) W (k es)) → Uses (λ l. l ≡ source) W (draw source ins k)
  draw-uses W [] k h u = u [] tt
  draw-uses W (i ∷ ins) k h u =
      (refl, λ t. draw-uses W ins (λ es. k ((i, t) ∷ es)) (λ l m. h l (inr m)) (λ es e. u ((i, t) ∷ es) (h i (inl refl), e)))

  -- Push takes from the source alone and puts onto the credit link and the inputs.
  pub push-uses : (ins : List ℕ) → Uses (λ l. l ≡ source) (λ l. (l ≡ credit) ⊎ In l ins) (push-demand source credit ins)
  push-uses ins =
      draw-uses (λ l. (l ≡ credit) ⊎ In l ins) ins (λ es. fire ((credit, val true-value) ∷ es) []) (λ l m. inr m) (λ es e. (inl refl, e))

  collect-uses : (R W : ℕ → Type 0) (outs : List ℕ) (k : List Token → Demand) → ((l : ℕ) → In l outs → R l) →
      ((ts : List Token) → Uses R W (k ts)) → Uses R W (collect outs k)
  collect-uses R W [] k h u = u []
  collect-uses R W (o ∷ outs) k h u = (h o (inl refl), λ t. collect-uses R W outs (λ ts. k (t ∷ ts)) (λ l m. h l (inr m)) (λ ts. u (t ∷ ts)))

  -- Take takes from the results and the credit link and puts onto none.
  pub take-uses : (outs : List ℕ) → Uses (λ l. (l ≡ credit) ⊎ In l outs) (λ l. ⊥) (take-demand credit outs)
  take-uses outs =
      collect-uses (λ l. (l ≡ credit) ⊎ In l outs) (λ l. ⊥) outs (λ ts. ask credit (λ u. fire [] ts)) (λ l m. inr m) (λ ts. (inl refl, λ u. tt))

-- The machine (Ends.antt): if each link of the graph has one taker and one putter in it, the graph takes nothing from the results, the source and
-- the credit link and puts nothing onto the inputs and the credit link, then any two of its operators, push and take included, are free of one
-- another, so that the diamond holds (Commute.antt).
module _ (graph : ℕ → Demand) (push take source credit : ℕ) (ins outs : List ℕ) (R W : ℕ → ℕ → Type 0) where
  pub record Apart-ends : Type 0 where
    pub graph-uses : (a : ℕ) → Uses (R a) (W a) (graph a)
    pub one-taker : (a b l : ℕ) → R a l → R b l → a ≡ b
    pub one-putter : (a b l : ℕ) → W a l → W b l → a ≡ b
    pub takes-no-result : (a l : ℕ) → R a l → In l outs → ⊥
    pub takes-no-source : (a : ℕ) → R a source → ⊥
    pub takes-no-credit : (a : ℕ) → R a credit → ⊥
    pub puts-no-input : (a l : ℕ) → W a l → In l ins → ⊥
    pub puts-no-credit : (a : ℕ) → W a credit → ⊥
    pub source-no-result : In source outs → ⊥
    pub source-no-credit : source ≢ credit

  module _ (E : Apart-ends) where
    abbrev Push : Demand
    Push = push-demand source credit ins

    abbrev Take : Demand
    Take = take-demand credit outs

    abbrev push-R : ℕ → Type 0
    push-R l = l ≡ source

    abbrev push-W : ℕ → Type 0
    push-W l = (l ≡ credit) ⊎ In l ins

    abbrev take-R : ℕ → Type 0
    take-R l = (l ≡ credit) ⊎ In l outs

    abbrev take-W : ℕ → Type 0
    take-W l = ⊥

    push-take : (l : ℕ) → push-R l → take-R l → ⊥
    push-take l e (inl c) = E.source-no-credit (sym e ∙ c)
    push-take l e (inr o) = E.source-no-result (subst (λ z. In z outs) e o)

    push-graph-R : (a l : ℕ) → push-R l → R a l → ⊥
    push-graph-R a l e r = E.takes-no-source a (subst (R a) e r)

    push-graph-W : (a l : ℕ) → push-W l → W a l → ⊥
    push-graph-W a l (inl e) w = E.puts-no-credit a (subst (W a) e w)
    push-graph-W a l (inr i) w = E.puts-no-input a l w i

    take-graph-R : (a l : ℕ) → take-R l → R a l → ⊥
    take-graph-R a l (inl e) r = E.takes-no-credit a (subst (R a) e r)
    take-graph-R a l (inr o) r = E.takes-no-result a l r o

    both-graph : (a b : ℕ) → a ≢ b → Free (graph a) (graph b)
    both-graph a b ne =
        free_of (R a) (W a) (R b) (W b) (λ l x y. ne (E.one-taker a b l x y)) (λ l x y. ne (E.one-putter a b l x y)) (graph b) (E.graph-uses b) (graph a)
        (E.graph-uses a)

    pub machine-free : (a b : ℕ) → a ≢ b → Free (machine graph push take source credit ins outs a) (machine graph push take source credit ins outs b)
    unfolding machine
    machine-free a b ne = go (ℕ_discrete a push) (ℕ_discrete a take) (ℕ_discrete b push) (ℕ_discrete b take)
      where
        go : (p : Dec (a ≡ push)) (q : Dec (a ≡ take)) (r : Dec (b ≡ push)) (s : Dec (b ≡ take)) →
            Free (ite p Push (ite q Take (graph a))) (ite r Push (ite s Take (graph b)))
        go (yes p) q (yes r) s = absurd (ne (p ∙ sym r))
        go (yes p) q (no r) (yes s) =
            free_of push-R push-W take-R take-W push-take (λ l w z. z) Take (take-uses source credit outs) Push (push-uses source credit ins)
        go (yes p) q (no r) (no s) =
            free_of push-R push-W (R b) (W b) (push-graph-R b) (push-graph-W b) (graph b) (E.graph-uses b) Push (push-uses source credit ins)
        go (no p) (yes q) (yes r) s =
            free_of take-R take-W push-R push-W (λ l x y. push-take l y x) (λ l z w. z) Push (push-uses source credit ins) Take (take-uses source credit outs)
        go (no p) (yes q) (no r) (yes s) = absurd (ne (q ∙ sym s))
        go (no p) (yes q) (no r) (no s) =
            free_of take-R take-W (R b) (W b) (take-graph-R b) (λ l z w. z) (graph b) (E.graph-uses b) Take (take-uses source credit outs)
        go (no p) (no q) (yes r) s =
            free_of (R a) (W a) push-R push-W (λ l x y. push-graph-R a l y x) (λ l x y. push-graph-W a l y x) Push (push-uses source credit ins) (graph a)
            (E.graph-uses a)
        go (no p) (no q) (no r) (yes s) =
            free_of (R a) (W a) take-R take-W (λ l x y. take-graph-R a l y x) (λ l w z. z) Take (take-uses source credit outs) (graph a) (E.graph-uses a)
        go (no p) (no q) (no r) (no s) = both-graph a b ne
