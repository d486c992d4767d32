-- Laws of specs/Keeps.antt, and what only they need.
use Rattle.std.specs.Prelude.{ℕ, ◌<◌, ◌≡◌, refl, ◌⊎◌, Bool, true, false, List, [], ◌∷◌, ◌++◌, length}
use Rattle.std.proofs.Common.{sym, ap, subst, inl, inr, arith}
use Rattle.std.proofs.Math.Logic.{ite}
use Rattle.std.proofs.lemmas.Bool.{false≢true}
use Rattle.std.proofs.Math.Option.{Option, none, some}
use Rattle.std.proofs.Math.Decide.{ℕ_discrete}
use Rattle.value.specs.declared.Value.{Value}
use Rattle.value.specs.declared.Sense.{Sense}
use Rattle.value.specs.declared.Sense.TheVariants.{True, False, Neither}
use Rattle.value.specs.declared.ValueKind.{ValueKind}
use Rattle.value.specs.declared.ValueKind.TheVariants.{Truth as truth-kind}
use Rattle.value.specs.Senses.{sense}
use Rattle.value.specs.Kinds.{suits, given, gives-its-kind}
use Rattle.network.specs.Values.{err-value, one-operand, apply}
use Rattle.network.specs.Rules.{Kind, constant, copy, operator, T-gate, F-gate, M-gate, E-gate, IC-gate, FM-gate, FS-gate, Register, Firing, takes, gives, never, T-rule, F-rule, M-rule, E-rule, chosen, as-truth, IC-table, fired, FS-rule, operator-rule, rule}
use Rattle.network.specs.Net.{Token, val, mark, Links, head, tail, pop, append, Able, appends, act}
use Rattle.network.specs.Fill.{Ports, input, value-of, register_of, register-token, emission, emissions, wire, remembering, kept, filled, fill}
use Rattle.theory_claims.specs.Claims.{Claim, of-kind, only-err, Meets, Under, truths, Sides, Given, Onto, Merges, Third, Fits, Claims, claimed, sides}
use Rattle.theory_claims.proofs.Claims.{err-only}
use Rattle.theory_claims.specs.Keeps.{Waiting, Clean, Takes, Wanted}

waiting-under : (P Q : Value → Type 0) (ts : List Token) → ((v : Value) → P v → Q v) → Waiting P ts → Waiting Q ts
waiting-under P Q [] u h = tt
waiting-under P Q (t ∷ ts) u h = (u (value-of t) h.0, waiting-under P Q ts u h.1)

waiting-snoc : (P : Value → Type 0) (ts : List Token) (t : Token) → Waiting P ts → P (value-of t) → Waiting P (ts ++ (t ∷ []))
waiting-snoc P [] t h p = (p, tt)
waiting-snoc P (u ∷ ts) t h p = (h.0, waiting-snoc P ts t h.1 p)

waiting-tail : (P : Value → Type 0) (ts : List Token) → Waiting P ts → Waiting P (tail ts)
waiting-tail P [] h = tt
waiting-tail P (t ∷ ts) h = h.1

pub waiting-head : (P : Value → Type 0) (ts : List Token) → 0 < length ts → Waiting P ts → P (value-of (head ts))
waiting-head P [] l h = absurd (omega arith)
waiting-head P (t ∷ ts) l h = h.0

-- ---- outputs
onto-given : (c : Claim) (o : Option Claim) (v : Value) → Onto c o → Meets c v → Given o (some v)
onto-given c none v u m = tt
onto-given c (some d) v u m = u v m

absent-given : (o : Option Claim) → Given o none
absent-given none = tt
absent-given (some d) = tt

-- A token is taken.
pub pop-keeps : (K : Claims) (q : Links) (l : ℕ) → Clean K q → Clean K (pop l q)
unfolding pop
pop-keeps K q l h j = go (ℕ_discrete j l)
  where
    go : (d : Dec (j ≡ l)) → Waiting (Meets (K j)) (ite d (tail (q j)) (q j))
    go (yes p) = waiting-tail (Meets (K j)) (q j) (h j)
    go (no n) = h j

-- A token is put that meets the claim.
pub append-keeps : (K : Claims) (q : Links) (l : ℕ) (t : Token) → Meets (K l) (value-of t) → Clean K q → Clean K (append l t q)
unfolding append
append-keeps K q l t m h j = go (ℕ_discrete j l)
  where
    go : (d : Dec (j ≡ l)) → Waiting (Meets (K j)) (ite d (q j ++ (t ∷ [])) (q j))
    go (yes p) = waiting-snoc (Meets (K j)) (q j) t (h j) (subst (λ (i : ℕ). Meets (K i) (value-of t)) (sym p) m)
    go (no n) = h j

module _ (K : Claims) where
  -- What is put meets the claims.
  abbrev pub Fine : List (ℕ × Token) → Type 0
  Fine [] = Unit {0}
  Fine (e ∷ es) = Meets (K e.0) (value-of e.1) × Fine es

  fine-append : (es fs : List (ℕ × Token)) → Fine es → Fine fs → Fine (es ++ fs)
  fine-append [] fs p q = q
  fine-append (e ∷ es) fs p q = (p.0, fine-append es fs p.1 q)

  pub appends-keep : (es : List (ℕ × Token)) (q : Links) → Fine es → Clean K q → Clean K (appends es q)
  appends-keep [] q f h = h
  appends-keep (e ∷ es) q f h = appends-keep es (append e.0 e.1 q) f.1 (append-keeps K q e.0 e.1 f.0 h)

  fine-emission : (o : Option ℕ) (a : Option Value) → Given (claimed K o) a → Fine (emission o a)
  fine-emission none a h = tt
  fine-emission (some l) none h = tt
  fine-emission (some l) (some v) h = (h, tt)

  module _ (p : Ports) where
    -- A register that is a link meets that link's claim.
    abbrev Stores : Bool → Register → Type 0
    Stores true g = Meets (K p.register) (value-of (register-token g))
    Stores false g = Unit {0}

    -- A firing that takes what meets the claims gives what meets them.
    abbrev Safe : Bool → Firing → Type 0
    Safe b (takes i k) = (v : Value) → Meets (K (input p i)) v → Safe b (k v)
    Safe b (gives x y z g) = Given (claimed K p.out1) x × Given (claimed K p.out2) y × Given (claimed K p.out3) z × Stores b g
    Safe b never = Unit {0}

    fine-kept : (b : Bool) (g : Register) → Stores b g → Fine (kept b p g)
    fine-kept true g h = (h, tt)
    fine-kept false g h = tt

    safe-keeps : (b : Bool) (cap : ℕ → ℕ) (f : Firing) → Safe b f → (q : Links) → Clean K q → Able cap (wire (kept b p) p f) q → Clean K (act (wire (kept b p) p f) q)
    safe-keeps b cap (takes i k) s q h a =
        let l : ℕ = input p i in
        let v : Value = value-of (head (q l)) in
        safe-keeps b cap (k v) (s v (waiting-head (Meets (K l)) (q l) a.0 (h l))) (pop l q) (pop-keeps K q l h) a.1
    safe-keeps b cap (gives x y z g) s q h a =
        appends-keep (emissions p x y z ++ kept b p g) q
        (fine-append (emissions p x y z) (kept b p g)
        (fine-append (emission p.out1 x) (emission p.out2 y ++ emission p.out3 z) (fine-emission p.out1 x s.0)
        (fine-append (emission p.out2 y) (emission p.out3 z) (fine-emission p.out2 y s.1) (fine-emission p.out3 z s.2)))
        (fine-kept b g s.3)) h
    safe-keeps b cap never s q h a = h

    -- ---- gate by gate
    passing : (b : Bool) (v : Value) (g : Register) → Given (claimed K p.out1) (some v) → Stores b g → Safe b (gives (some v) none none g)
    passing b v g h r = (h, absent-given (claimed K p.out2), absent-given (claimed K p.out3), r)

    dropping : (b : Bool) (g : Register) → Stores b g → Safe b (gives none none none g)
    dropping b g r = (absent-given (claimed K p.out1), absent-given (claimed K p.out2), absent-given (claimed K p.out3), r)

    data-passes : (g : Register) (v : Value) → Onto (K p.in2) (claimed K p.out1) → Meets (K p.in2) v → Safe false (gives (some v) none none g)
    data-passes g v u m = passing false v g (onto-given (K p.in2) (claimed K p.out1) v u m) tt

    T-safe : (g : Register) (s : Sense) → Onto (K p.in2) (claimed K p.out1) → Safe false (T-rule g s)
    T-safe g True u = λ v. data-passes g v u
    T-safe g False u = λ v m. dropping false g tt
    T-safe g Neither u = λ v m. dropping false g tt

    F-safe : (g : Register) (s : Sense) → Onto (K p.in2) (claimed K p.out1) → Safe false (F-rule g s)
    F-safe g True u = λ v m. dropping false g tt
    F-safe g False u = λ v. data-passes g v u
    F-safe g Neither u = λ v m. dropping false g tt

    M-safe : (b : Bool) (g : Register) (s : Sense) → Merges (sides K p) → Stores b g → Safe b (M-rule g s)
    M-safe b g True t r = λ v m. passing b v g (onto-given (K p.in2) (claimed K p.out1) v t.1 m) r
    M-safe b g False t r = λ v m. passing b v g (onto-given (K p.in3) (claimed K p.out1) v t.2 m) r
    M-safe b g Neither t r = passing b err-value g t.3 r

    E-safe : (g : Register) (s : Sense) → Fits E-gate (sides K p) → Safe false (E-rule g s)
    E-safe g True t = λ v. data-passes g v t.1
    E-safe g False t = λ v. data-passes g v t.1
    E-safe g Neither t = passing false err-value g t.2 tt

    FS-safe : (r : Value) (s : Sense) → Fits FS-gate (sides K p) → Meets (K p.register) r → Safe true (FS-rule r s)
    FS-safe r True t m = passing true r (some r) (onto-given (K p.register) (claimed K p.out1) r t.3 m) m
    FS-safe r False t m = λ v n. passing true v (some v) (onto-given (K p.in2) (claimed K p.out1) v t.1 n) (t.2 v n)
    FS-safe r Neither t m = λ v n. passing true v (some v) (onto-given (K p.in2) (claimed K p.out1) v t.1 n) (t.2 v n)

    operator-safe : (b : Bool) (code : ℕ) (g : Register) (a : Value) → one-operand code ≡ b → Fits (operator code) (sides K p) → Meets (K p.in1) a
        → Safe false (operator-rule b code g a)
    operator-safe true code g a e t m =
        passing false (apply code a err-value) g
        (onto-given (of-kind (given code (t.0 ∷ []))) (claimed K p.out1) _ t.1.3 (gives-its-kind code t.0 a err-value (t.1.1 a m) refl)) tt
    operator-safe false code g a e t m = λ b n.
        passing false (apply code a b) g
        (onto-given (of-kind (given code (t.0 ∷ []))) (claimed K p.out1) _ t.1.3 (gives-its-kind code t.0 a b (t.1.1 a m) (t.1.2 e b n))) tt

    -- The third output of IC has a token only where a truth or err may stand on it, or where the chosen iter? is not true.
    abbrev Unless : Bool → Type 0
    Unless i = Onto truths (claimed K p.out3) ⊎ (i ≡ true)

    third-given : (v : Value) → suits truth-kind v ≡ true → Unless false → Given (claimed K p.out3) (some v)
    third-given v m (inl u) = onto-given truths (claimed K p.out3) v u m
    third-given v m (inr e) = absurd (false≢true e)

    table-safe : (g : Register) (s : Sense) (i : Bool) → Fits IC-gate (sides K p) → Unless i → Given (claimed K p.out3) (some err-value) → Safe false (IC-table g s i)
    table-safe g True true t e z =
        (onto-given truths (claimed K p.out1) _ t.3 refl, onto-given truths (claimed K p.out2) _ t.4 refl, absent-given (claimed K p.out3), tt)
    table-safe g True false t e z =
        (onto-given truths (claimed K p.out1) _ t.3 refl, absent-given (claimed K p.out2), third-given _ refl e, tt)
    table-safe g False true t e z =
        (onto-given truths (claimed K p.out1) _ t.3 refl, onto-given truths (claimed K p.out2) _ t.4 refl, absent-given (claimed K p.out3), tt)
    table-safe g False false t e z =
        (onto-given truths (claimed K p.out1) _ t.3 refl, absent-given (claimed K p.out2), third-given _ refl e, tt)
    table-safe g Neither i t e z = (onto-given truths (claimed K p.out1) _ t.3 refl, absent-given (claimed K p.out2), z, tt)

    third-err : Third (sides K p) → Given (claimed K p.out3) (some err-value)
    third-err (inl u) = onto-given truths (claimed K p.out3) err-value u refl
    third-err (inr h) = onto-given only-err (claimed K p.out3) err-value h.2 err-only

    third-second : Third (sides K p) → (v : Value) → Meets (K p.in2) v → Unless (as-truth (sense v))
    third-second (inl u) v m = inl u
    third-second (inr h) v m = inr (ap (λ (w : Value). as-truth (sense w)) (h.0 v m))

    third-third : Third (sides K p) → (v : Value) → Meets (K p.in3) v → Unless (as-truth (sense v))
    third-third (inl u) v m = inl u
    third-third (inr h) v m = inr (ap (λ (w : Value). as-truth (sense w)) (h.1 v m))

    IC-safe : (g : Register) (s : Sense) → Fits IC-gate (sides K p) → Safe false (chosen s (IC-table g s))
    IC-safe g True t = λ v m. table-safe g True (as-truth (sense v)) t (third-second t.5 v m) (third-err t.5)
    IC-safe g False t = λ v m. table-safe g False (as-truth (sense v)) t (third-third t.5 v m) (third-err t.5)
    IC-safe g Neither t =
        (onto-given truths (claimed K p.out1) _ t.3 refl, absent-given (claimed K p.out2), third-err t.5, tt)

    -- The firing of a kind, with the register it holds.
    rule-safe : (k : Kind) (g : Register) → Fits k (sides K p) → (remembering k ≡ false → p.held ≡ g) → Stores (remembering k) g → Safe (remembering k) (rule k g)
    rule-safe constant none t e r = tt
    rule-safe constant (some v) t e r = λ c m. passing false v (some v) (subst (Given (claimed K p.out1)) (e refl) t) tt
    rule-safe copy g t e r =
        λ v m. (onto-given (K p.in1) (claimed K p.out1) v t.0 m, onto-given (K p.in1) (claimed K p.out2) v t.1 m, absent-given (claimed K p.out3), tt)
    rule-safe (operator code) g t e r = λ a m. operator-safe (one-operand code) code g a refl t m
    rule-safe T-gate g t e r = λ c m. T-safe g (sense c) t.1
    rule-safe F-gate g t e r = λ c m. F-safe g (sense c) t.1
    rule-safe M-gate g t e r = λ c m. M-safe false g (sense c) t tt
    rule-safe E-gate g t e r = λ c m. E-safe g (sense c) t
    rule-safe IC-gate g t e r = λ c m. IC-safe g (sense c) t
    rule-safe FM-gate none t e r = λ v m. passing true v fired (onto-given (K p.in3) (claimed K p.out1) v t.0.2 m) t.1
    rule-safe FM-gate (some w) t e r = λ c m. M-safe true fired (sense c) t.0 t.1
    rule-safe FS-gate none t e r = λ v m. passing true v (some v) (onto-given (K p.in2) (claimed K p.out1) v t.1 m) (t.2 v m)
    rule-safe FS-gate (some w) t e r = λ c m. FS-safe w (sense c) t r

    stored : (t : Token) → Meets (K p.register) (value-of t) → Meets (K p.register) (value-of (register-token (register_of t)))
    stored (val v) h = h
    stored mark h = h

    -- ONE FIRING: where every waiting token meets its link's claim, it is so afterwards.
    pub firing-keeps : (cap : ℕ → ℕ) (k : Kind) → Fits k (sides K p) → (q : Links) → Clean K q → Able cap (fill k p) q → Clean K (act (fill k p) q)
    firing-keeps cap k t q h a = go (remembering k) refl a (rule-safe k)
      where
        go : (b : Bool) → remembering k ≡ b → Able cap (filled b k p) q
            → ((g : Register) → Fits k (sides K p) → (b ≡ false → p.held ≡ g) → Stores b g → Safe b (rule k g)) → Clean K (act (filled b k p) q)
        go true e a s =
            let u : Token = head (q p.register) in
            safe-keeps true cap (rule k (register_of u))
            (s (register_of u) t (λ z. absurd (false≢true (sym z))) (stored u (waiting-head (Meets (K p.register)) (q p.register) a.0 (h p.register))))
            (pop p.register q) (pop-keeps K q p.register h) a.1
        go false e a s = safe-keeps false cap (rule k p.held) (s p.held t (λ z. refl) tt) q h a

module _ (s : Sides) where
  -- The kind of an operator's operands, by the claims of its links alone.
  abbrev pub operandKind : (g : Kind) → Fits g s → ValueKind
  operandKind constant t = truth-kind
  operandKind copy t = truth-kind
  operandKind (operator code) t = t.0
  operandKind T-gate t = truth-kind
  operandKind F-gate t = truth-kind
  operandKind M-gate t = truth-kind
  operandKind E-gate t = truth-kind
  operandKind IC-gate t = truth-kind
  operandKind FM-gate t = truth-kind
  operandKind FS-gate t = truth-kind

  pub operand-kind-taken : (g : Kind) (t : Fits g s) → Takes g (operandKind g t)
  operand-kind-taken constant t = tt
  operand-kind-taken copy t = tt
  operand-kind-taken (operator code) t = t.1.0
  operand-kind-taken T-gate t = tt
  operand-kind-taken F-gate t = tt
  operand-kind-taken M-gate t = tt
  operand-kind-taken E-gate t = tt
  operand-kind-taken IC-gate t = tt
  operand-kind-taken FM-gate t = tt
  operand-kind-taken FS-gate t = tt

module _ (K : Claims) (q : Links) (h : Clean K q) where
  wanting : (k : ValueKind) (l : ℕ) → Under (K l) (of-kind k) → Waiting (λ v. suits k v ≡ true) (q l)
  wanting k l u = waiting-under (Meets (K l)) (λ v. suits k v ≡ true) (q l) u (h l)

  pub no-wrong-kind : (g : Kind) (p : Ports) (t : Fits g (sides K p)) → Wanted g (operandKind (sides K p) g t) p q
  no-wrong-kind constant p t = tt
  no-wrong-kind copy p t = tt
  no-wrong-kind (operator code) p t = (wanting t.0 p.in1 t.1.1, λ e. wanting t.0 p.in2 (t.1.2 e))
  no-wrong-kind T-gate p t = wanting truth-kind p.in1 t.0
  no-wrong-kind F-gate p t = wanting truth-kind p.in1 t.0
  no-wrong-kind M-gate p t = wanting truth-kind p.in1 t.0
  no-wrong-kind E-gate p t = wanting truth-kind p.in1 t.0
  no-wrong-kind IC-gate p t = (wanting truth-kind p.in1 t.0, wanting truth-kind p.in2 t.1, wanting truth-kind p.in3 t.2)
  no-wrong-kind FM-gate p t = wanting truth-kind p.in1 t.0.0
  no-wrong-kind FS-gate p t = wanting truth-kind p.in1 t.0
