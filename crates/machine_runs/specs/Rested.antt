-- After a firing an operator is not able while nothing waits on its first input: each kind takes from it first, but for FM and FS before their first
-- firing, and a firing leaves them a value in their register. Assumes that the memory is as long as its links need and that they begin behind the registers.
use Rattle.std.specs.Prelude.{ℕ, ◌≤◌, ◌<◌, ◌≡◌, Bool, true, false, ◌&&◌, List, length, Some, None}
use Rattle.std.proofs.Math.Path.{refl, ap}
use Rattle.std.proofs.Common.{sym, subst, ◌∙◌, arith}
use Rattle.std.proofs.lemmas.Bool.{false≢true}
use Rattle.std.proofs.Math.Option.{Option, some, none, some-injective, none-ne-some}
use Rattle.std.specs.Prelude as std
use borrow.Author.Tests.{lt-ltb}
use Rattle.value.specs.declared.Value.{Value}
use Rattle.value.specs.Bytes.{InRange, word_or, decoded, value_of, word_at}
use Rattle.value.proofs.Words.{value-of-word, value-in-range, no_value, word_lt}
use Rattle.value.specs.declared.Sense.{Sense}
use Rattle.value.specs.declared.Sense.TheVariants.{True, False, Neither}
use Rattle.value.specs.Senses.{sense}
use Rattle.network.specs.Rules.{Kind, constant, copy, operator, T-gate, F-gate, M-gate, E-gate, IC-gate, FM-gate, FS-gate, Input, first, second, third, Register, Firing, takes, gives, never, M-rule, fired, FS-rule, rule}
use Rattle.network.specs.Decide.{Taken, untouched, also, Decision, with-head, decided}
use Rattle.machine_queue.specs.Stretch.{waiting, head_of}
use Rattle.machine_layout.specs.Layout.{links_at, operator_at, kind_byte, register_at, need_from}
use Rattle.machine_layout.specs.Kinds.{kind_of}
use Rattle.machine_gates.specs.Decide.{optional, heads, idle, told, ruled, decide_at}
use Rattle.machine_firing.specs.Links.{head_from, token_from}
use Rattle.machine_firing.specs.LinkLaws.{link_part_from}
use Rattle.machine_firing.specs.Fire.{planned, register_of, decision_from, plan_from, ready_from, performed_from, able_from, fired_from}
use Rattle.machine_runs.specs.Performed.{own-register}
use Rattle.machine_runs.specs.Near.{name, static-fired, port-fired}

-- ---- the table of rules

-- the first input comes first, or there is no firing
abbrev Waits : Firing → Type 0
Waits (takes first k) = Unit {0}
Waits (takes second k) = ⊥
Waits (takes third k) = ⊥
Waits (gives a b c g) = ⊥
Waits never = Unit {0}

waits-none : (f : Firing) (t : Taken) (hs : Input → Option Value) → Waits f → hs first ≡ none → decided t f hs ≡ none
waits-none (takes first k) t hs w e = rw e refl
waits-none (takes second k) t hs w e = absurd w
waits-none (takes third k) t hs w e = absurd w
waits-none (gives a b c g) t hs w e = absurd w
waits-none never t hs w e = refl

abbrev Ranged : Option Value → Type 0
Ranged (some v) = InRange v
Ranged none = Unit {0}

-- what is read where g was written: a value in its range is read back
abbrev Reads : Register → Register → Type 0
Reads (some v) r = InRange v → r ≡ some v
Reads none r = Unit {0}

-- however the firing ends, an operator of the kind waits for its first input next
abbrev Rests : Kind → Firing → Type 0
Rests k (takes i f) = (v : Value) → InRange v → Rests k (f v)
Rests k (gives a b c g) = (r : Register) → Reads g r → Waits (rule k r)
Rests k never = Unit {0}

always : (k : Kind) → ((r : Register) → Waits (rule k r)) → (f : Firing) → Rests k f
always k w (takes i f) = λ v h. always k w (f v)
always k w (gives a b c g) = λ r h. w r
always k w never = tt

constant-waits : (r : Register) → Waits (rule constant r)
constant-waits (some v) = tt
constant-waits none = tt

M-rests : (s : Sense) → Rests FM-gate (M-rule fired s)
M-rests True = λ v b r q. rw (q tt) tt
M-rests False = λ v b r q. rw (q tt) tt
M-rests Neither = λ r q. rw (q tt) tt

FS-rests : (x : Value) → InRange x → (s : Sense) → Rests FS-gate (FS-rule x s)
FS-rests x h True = λ r q. rw (q h) tt
FS-rests x h False = λ v b r q. rw (q b) tt
FS-rests x h Neither = λ v b r q. rw (q b) tt

rule-rests : (k : Kind) (g : Register) → Ranged g → Rests k (rule k g)
rule-rests constant g h = always constant constant-waits (rule constant g)
rule-rests copy g h = always copy (λ r. tt) (rule copy g)
rule-rests (operator code) g h = always (operator code) (λ r. tt) (rule (operator code) g)
rule-rests T-gate g h = always T-gate (λ r. tt) (rule T-gate g)
rule-rests F-gate g h = always F-gate (λ r. tt) (rule F-gate g)
rule-rests M-gate g h = always M-gate (λ r. tt) (rule M-gate g)
rule-rests E-gate g h = always E-gate (λ r. tt) (rule E-gate g)
rule-rests IC-gate g h = always IC-gate (λ r. tt) (rule IC-gate g)
rule-rests FM-gate none h = λ v b r q. rw (q tt) tt
rule-rests FM-gate (some x) h = λ c b. M-rests (sense c)
rule-rests FS-gate none h = λ v b r q. rw (q b) tt
rule-rests FS-gate (some x) h = λ c b. FS-rests x h (sense c)

module _ (k : Kind) (hs : Input → Option Value) (ranged : (i : Input) → Ranged (hs i)) (d : Decision) (r : Register) (q : Reads d.register r) where
  next-waits : (f : Firing) (t : Taken) → Rests k f → decided t f hs ≡ some d → Waits (rule k r)
  next-waits (takes i f) t rs e = go (hs i) (ranged i) (λ v b. next-waits (f v) (also i t) (rs v b)) e
    where
      go : (o : Option Value) → Ranged o → ((v : Value) → InRange v → decided (also i t) (f v) hs ≡ some d → Waits (rule k r)) →
          with-head o (λ v. decided (also i t) (f v) hs) ≡ some d → Waits (rule k r)
      go (some v) b on e = on v b e
      go none b on e = absurd (none-ne-some d e)
  next-waits (gives a b c g) t rs e = rs r (subst (λ (x : Decision). Reads x.register r) (sym (some-injective _ d e)) q)
  next-waits never t rs e = absurd (none-ne-some d e)

-- ---- the machine's decision

module _ (a b c g : std.Option Value) (ra : Ranged (optional a)) (rb : Ranged (optional b)) (rc : Ranged (optional c)) (rg : Ranged (optional g)) (b' c' g' : std.Option Value) where
  ranged : (i : Input) → Ranged (heads a b c i)
  ranged first = ra
  ranged second = rb
  ranged third = rc

  ruled-rests : (kind : Option Kind) → (told (ruled kind a b c g)).able ≡ true → Reads (optional (told (ruled kind a b c g)).register) (optional g') →
      ruled kind None b' c' g' ≡ none
  ruled-rests none = λ e q. refl
  ruled-rests (some k) = go (decided untouched (rule k (optional g)) (heads a b c)) refl
    where
      go : (o : Option Decision) → decided untouched (rule k (optional g)) (heads a b c) ≡ o → (told o).able ≡ true → Reads (optional (told o).register) (optional g') →
          decided untouched (rule k (optional g')) (heads None b' c') ≡ none
      go none p e q = absurd (false≢true e)
      go (some d) p e q =
          waits-none (rule k (optional g')) untouched (heads None b' c')
          (next-waits k (heads a b c) ranged d (optional g') (reads d.register q) (rule k (optional g)) untouched (rule-rests k (optional g) rg) p) refl
        where
          reads : (x : Register) → Reads (optional (decoded x)) (optional g') → Reads x (optional g')
          reads (some v) q = q
          reads none q = tt

  decide-rests : (kind : ℕ) → (decide_at kind a b c g).able ≡ true → Reads (optional (decide_at kind a b c g).register) (optional g') → decide_at kind None b' c' g' ≡ idle
  unfolding decide_at
  decide-rests kind e q = ap told (ruled-rests (kind_of kind) e q)

-- ---- the memory

word-ranged : (w : ℕ) → Ranged (optional (decoded (value_of w)))
word-ranged w = go (value_of w) refl
  where
    go : (o : Option Value) → value_of w ≡ o → Ranged (optional (decoded o))
    go (some v) e = value-in-range w v e
    go none e = tt

left : (a b : Bool) → a && b ≡ true → a ≡ true
left true b e = refl
left false b e = e

module _ (m : List ℕ) (base size : ℕ) (behind : links_at ≤ base) (h : need_from base size ≤ length m) (i : ℕ) (small : i < 1024) (able : able_from m base size i ≡ true) where
  abbrev m' : List ℕ
  m' = fired_from m base size i

  decision-able : (decision_from m base size i).able ≡ true
  unfolding able_from ready_from plan_from planned
  decision-able = left (decision_from m base size i).able _ able

  token-ranged : (l : ℕ) → Ranged (optional (token_from m base size l))
  unfolding token_from
  token-ranged l = word-ranged (head_from m base size l)

  register-ranged : Ranged (optional (register_of m i))
  unfolding register_of
  register-ranged = word-ranged (word_at m (register_at i))

  register-is : (plan_from m base size i).register ≡ word_or (decision_from m base size i).register
  unfolding plan_from planned
  register-is = refl

  register-read : Reads (optional (decision_from m base size i).register) (optional (register_of m' i))
  unfolding fired_from register_of
  register-read = rw able (go (decision_from m base size i).register register-is)
    where
      go : (x : std.Option Value) → (plan_from m base size i).register ≡ word_or x → Reads (optional x) (optional (decoded (value_of (word_at (performed_from m base size i (plan_from m base size i)) (register_at i)))))
      go (Some v) e = λ b.
          let s = own-register m base size behind h i small (plan_from m base size i) (rw e (word_lt v b)) in
          rw (s ∙ e, value-of-word v b) refl
      go None e = tt

  module _ (lt : name m i 0 < 3105) (empty : waiting (link_part_from m' base size (name m i 0)) ≡ 0) where
    token-none : token_from m' base size (name m' i 0) ≡ None
    unfolding token_from head_from head_of
    token-none = rw (port-fired m base size behind h i small i 0 small (omega arith), lt-ltb (name m i 0) 3105 lt, empty, no_value) refl

    decision-idle : decision_from m' base size i ≡ idle
    unfolding decision_from
    decision-idle =
        rw (token-none, static-fired m base size behind h i small (operator_at i) (omega arith))
        (decide-rests _ _ _ _ (token-ranged (name m i 0)) (token-ranged (name m i 1)) (token-ranged (name m i 2)) register-ranged _ _ _ (kind_byte m i) decision-able register-read)

    pub rested : able_from m' base size i ≡ false
    unfolding able_from ready_from plan_from planned
    rested = rw decision-idle refl
