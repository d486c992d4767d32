-- Laws of specs/RightKinds.antt, and what only they need.
use Rattle.std.specs.Prelude.{ℕ, zero, suc, ◌+◌, ◌*◌, ◌≤◌, ◌<◌, ◌≡◌, refl, Bool, true, false, List, [], ◌∷◌, ◌++◌, map, length, get_or}
use Rattle.std.proofs.Common.{sym, ap, subst, arith}
use Rattle.std.proofs.Math.Option.{some, none, some-injective, none-ne-some}
use Rattle.value.specs.declared.Value.{Value}
use Rattle.value.specs.declared.ValueKind.{ValueKind}
use Rattle.value.specs.declared.ValueKind.TheVariants.{Truth as truth-kind}
use Rattle.value.specs.Operators.{pick}
use Rattle.value.specs.Bytes.{word_of, word_at}
use Rattle.value.specs.Kinds.{suits}
use Rattle.network.specs.Values.{one-operand}
use Rattle.network.specs.Rules.{Kind, constant, copy, operator, T-gate, F-gate, M-gate, E-gate, IC-gate, FM-gate, FS-gate}
use Rattle.network.specs.Net.{Token, val, mark, Links}
use Rattle.network.specs.Fill.{value-of}
use Rattle.formula.specs.Tree.{Exp, formula_of}
use Rattle.formula.specs.Free.{free_e}
use Rattle.formula.specs.Faults.{input_kinds, letters_of}
use Rattle.formula.specs.Kinds.{kinds_e}
use Rattle.formula.specs.Acceptance.{Admissible, Kinded}
use Rattle.machine_queue.specs.Stretch.{waiting}
use Rattle.machine_layout.specs.Layout.{links_of, port_of, size_of}
use Rattle.machine_firing.specs.LinkLaws.{link_part}
use Rattle.graph.specs.Assembly.{Operator}
use Rattle.graph.specs.Translation.{made_of}
use Rattle.theory_kinds.specs.KindLaws.{Suited-list}
use Rattle.theory_kinds.proofs.Inputs.{read-suits, kinds_kept_lem}
use Rattle.theory_reference.specs.Plugged.{ports_of, link-of, Each}
use Rattle.theory_verdicts.specs.ResultSets.{values_in}
use Rattle.theory_verdicts.specs.Running as Abstract
use Rattle.theory_verdicts.specs.Running.{start_of}
use Rattle.theory_claims.specs.Keeps.{Waiting, Takes, Wanted}
use Rattle.theory_claims.specs.Runs.{Tokens-of-kinds, Results-of-kinds, Of-one-kind}
use Rattle.theory_claims.specs.Sheets.{All-suit}
use Rattle.theory_claims.proofs.Sheets.{sheet-never-a-wrong-kind, sheet-results-of-kinds}
use Rattle.demand_view.specs.Sound.{Ith}
use Rattle.demand_view.specs.Stands.{Waits, Recorded, Stands}
use Rattle.machine_start.specs.Start.{started}
use Rattle.machine_start.specs.StartLaws.{AcceptedStart, accepted-start}
use Rattle.demand_begin.proofs.MadeSound.{made-sound}
use Rattle.demand_begin.proofs.Lent.{stands-behind}
use Rattle.demand_begin.proofs.StartedStands.{accepted-stands}
use Rattle.demand.specs.MemoryCalls.{Call, Result, result, memory_after_all, sets_pushed, results_taken}
use Rattle.demand.proofs.Agreed.{calls-agree}
use Rattle.demand.proofs.Followed.{EachRead, Follows}
use Rattle.demand.specs.Followed.{shown_tokens}
use Rattle.demand.proofs.OnMemory.{F as bytes-follow}
use Rattle.demand_kinds.specs.RightKinds.{wanted_at, WaitsOf, Rightly, OfKinds, link_in}

-- ---- tokens on the links, words in the memory
waiting-at : (P : Value → Type 0) (ts : List Token) → Waiting P ts → (j : ℕ) → j < length ts → P (value-of (get_or ts j mark))
waiting-at P [] h j l = absurd (omega arith)
waiting-at P (t ∷ ts) h zero l = h.0
waiting-at P (t ∷ ts) h (suc j) l = waiting-at P ts h.1 j (omega arith)

waits-of : (k : ValueKind) (capacity : ℕ) (s : List ℕ) (ts : List Token) → Waits capacity s ts → Waiting (λ v. suits k v ≡ true) ts → WaitsOf k s
waits-of k capacity s ts w h = record { each = one }
  where
    one : (j : ℕ) → j < waiting s → (v : Value) × (word_at s (5 * j + 1) ≡ word_of v) × (suits k v ≡ true)
    one j l =
        let i : j < length ts = omega (arith, w.counted) in
        let e = w.each j i in
        (e.0, e.3, subst (λ (t : Token). suits k (value-of t) ≡ true) e.2 (waiting-at (λ v. suits k v ≡ true) ts h j i))

module _ (o : Operator) (a : ValueKind) (q : Links) where
  wanted-waits : (kind : Kind) → Wanted kind a (ports_of o) q → (p : ℕ) (k : ValueKind) → wanted_at kind a p ≡ some k → Waiting (λ v. suits k v ≡ true) (q (link_in o p))
  wanted-waits = go
    where
      same : (b k : ValueKind) (l : ℕ) → some b ≡ some k → Waiting (λ v. suits b v ≡ true) (q l) → Waiting (λ v. suits k v ≡ true) (q l)
      same b k l e h = subst (λ (z : ValueKind). Waiting (λ v. suits z v ≡ true) (q l)) (some-injective b k e) h

      two : (code : ℕ) (b : Bool) (k : ValueKind) → one-operand code ≡ b → (one-operand code ≡ false → Waiting (λ v. suits a v ≡ true) (q (link-of o.in2)))
          → pick b none (some a) ≡ some k → Waiting (λ v. suits k v ≡ true) (q (link-of o.in2))
      two code true k b h e = absurd (none-ne-some k e)
      two code false k b h e = same a k (link-of o.in2) e (h b)

      go : (kind : Kind) → Wanted kind a (ports_of o) q → (p : ℕ) (k : ValueKind) → wanted_at kind a p ≡ some k → Waiting (λ v. suits k v ≡ true) (q (link_in o p))
      go (operator code) h zero k e = same a k (link-of o.in1) e h.0
      go (operator code) h (suc zero) k e = two code (one-operand code) k refl h.1 e
      go (operator code) h (suc (suc p)) k e = absurd (none-ne-some k e)
      go constant h p k e = absurd (none-ne-some k e)
      go copy h p k e = absurd (none-ne-some k e)
      go IC-gate h zero k e = same truth-kind k (link-of o.in1) e h.0
      go IC-gate h (suc zero) k e = same truth-kind k (link-of o.in2) e h.1
      go IC-gate h (suc (suc zero)) k e = same truth-kind k (link-of o.in3) e h.2
      go IC-gate h (suc (suc (suc p))) k e = absurd (none-ne-some k e)
      go T-gate h zero k e = same truth-kind k (link-of o.in1) e h
      go T-gate h (suc p) k e = absurd (none-ne-some k e)
      go F-gate h zero k e = same truth-kind k (link-of o.in1) e h
      go F-gate h (suc p) k e = absurd (none-ne-some k e)
      go M-gate h zero k e = same truth-kind k (link-of o.in1) e h
      go M-gate h (suc p) k e = absurd (none-ne-some k e)
      go E-gate h zero k e = same truth-kind k (link-of o.in1) e h
      go E-gate h (suc p) k e = absurd (none-ne-some k e)
      go FM-gate h zero k e = same truth-kind k (link-of o.in1) e h
      go FM-gate h (suc p) k e = absurd (none-ne-some k e)
      go FS-gate h zero k e = same truth-kind k (link-of o.in1) e h
      go FS-gate h (suc p) k e = absurd (none-ne-some k e)

-- No operator has more than three inputs.
none-behind : (kind : Kind) (a : ValueKind) (p : ℕ) (k : ValueKind) → wanted_at kind a (suc (suc (suc p))) ≡ some k → ⊥
none-behind (operator code) a p k e = none-ne-some k e
none-behind constant a p k e = none-ne-some k e
none-behind copy a p k e = none-ne-some k e
none-behind IC-gate a p k e = none-ne-some k e
none-behind T-gate a p k e = none-ne-some k e
none-behind F-gate a p k e = none-ne-some k e
none-behind M-gate a p k e = none-ne-some k e
none-behind E-gate a p k e = none-ne-some k e
none-behind FM-gate a p k e = none-ne-some k e
none-behind FS-gate a p k e = none-ne-some k e

each-ith : (P : Operator → Type 0) (os : List Operator) → Each P os → (i : ℕ) (o : Operator) → Ith os i o → P o
each-ith P [] h i o m = absurd m
each-ith P (x ∷ os) h zero o m = subst P m h.0
each-ith P (x ∷ os) h (suc i) o m = each-ith P os h.1 i o m

-- ---- results
tokens-suited : (ts : List Token) (ks : List ValueKind) → Tokens-of-kinds ts ks → Suited-list (values_in ts) ks
tokens-suited [] [] h = tt
tokens-suited [] (k ∷ ks) h = absurd h
tokens-suited (t ∷ ts) [] h = absurd h
tokens-suited (val v ∷ ts) (k ∷ ks) h = (h.0, tokens-suited ts ks h.1)
tokens-suited (mark ∷ ts) (k ∷ ks) h = (h.0, tokens-suited ts ks h.1)

results_at : (tss : List (List Token)) (ks : List ValueKind) → Results-of-kinds tss ks → (n : ℕ) → n < length tss → OfKinds ks (get_or (map shown_tokens tss) n (result 0 []))
results_at [] ks h n l = absurd (omega arith)
results_at (ts ∷ tss) ks h zero l = record { values = values_in ts; bytes = refl; suit = tokens-suited ts ks h.0 }
results_at (ts ∷ tss) ks h (suc n) l = results_at tss ks h.1 n (omega arith)

length-shown : (tss : List (List Token)) → length (map shown_tokens tss) ≡ length tss
length-shown [] = refl
length-shown (ts ∷ tss) = ap suc (length-shown tss)

-- ---- an admissible sheet that passes 18 with its line
module _ (sheet line : List ℕ) (ok : Admissible sheet) (told : Kinded sheet line) where
  abbrev x : Exp
  x = formula_of sheet

  abbrev kinds : List ℕ
  kinds = letters_of (formula_of sheet) line

  abbrev resultKinds : List ValueKind
  resultKinds = kinds_e x (input_kinds (free_e x) line)

  -- The kind of an operator's operands, before any capacity, memory or call.
  of-one-kind : (i : ℕ) (o : Operator) → Ith (made_of x).operators i o → Of-one-kind x (All-suit line) o
  of-one-kind = each-ith (Of-one-kind x (All-suit line)) (made_of x).operators (sheet-never-a-wrong-kind sheet line ok (kinds_kept_lem sheet line told))

  -- After any list of calls, from a memory in which the machine stands as started.
  module _ (capacity : ℕ) (low : 1 ≤ capacity) (high : capacity ≤ 16) (start : List ℕ) (H : Stands (made_of x) kinds capacity start (start_of x)) (calls : List Call) where
    abbrev now : List ℕ
    now = memory_after_all calls start

    followed : Follows x kinds capacity (start_of x) now (sets_pushed calls start) (results_taken calls start)
    followed = bytes-follow sheet line ok told capacity low high (calls-agree sheet ok kinds capacity low high) start H calls

    all-suit : (sets : List (List ℕ)) (vss : List (List Value)) → EachRead x kinds capacity sets vss → All-suit line vss
    all-suit [] [] r = tt
    all-suit [] (v ∷ vss) r = absurd r
    all-suit (s ∷ sets) [] r = absurd r
    all-suit (s ∷ sets) (v ∷ vss) r = (read-suits x line s v r.0, all-suit sets vss r.1)

    sets-suit : All-suit line (Abstract.pushed x capacity followed.calls)
    sets-suit = all-suit (sets_pushed calls start) (Abstract.pushed x capacity followed.calls) followed.reads

    rightly-from : (i : ℕ) (o : Operator) (m : Ith (made_of x).operators i o) → Rightly now capacity i o (of-one-kind i o m).0
    rightly-from i o m = record { recorded = R; inputs = inputs }
      where
        a : ValueKind
        a = (of-one-kind i o m).0

        links : Links
        links = Abstract.standing x capacity followed.calls

        R : Recorded now i o
        R = followed.stands.recorded i o m

        named : (p : ℕ) (k : ValueKind) → wanted_at o.kind a p ≡ some k → port_of now i p ≡ link_in o p
        named zero k e = R.in1
        named (suc zero) k e = R.in2
        named (suc (suc zero)) k e = R.in3
        named (suc (suc (suc p))) k e = absurd (none-behind o.kind a p k e)

        inputs : (p : ℕ) (k : ValueKind) → wanted_at o.kind a p ≡ some k → port_of now i p < links_of now → WaitsOf k (link_part now (size_of capacity) (port_of now i p))
        inputs p k e l =
            let n = named p k e in
            subst (λ (b : ℕ). WaitsOf k (link_part now (size_of capacity) b)) (sym n)
            (waits-of k capacity (link_part now (size_of capacity) (link_in o p)) (links (link_in o p))
            (followed.stands.waits (link_in o p) (omega (arith, l, n, followed.stands.links-are)))
            (wanted-waits o a links o.kind ((of-one-kind i o m).2 capacity followed.calls sets-suit) p k e))

    of-kind-from : (n : ℕ) → n < length (results_taken calls start) → OfKinds resultKinds (get_or (results_taken calls start) n (result 0 []))
    of-kind-from n l =
        let tss = Abstract.taken x capacity followed.calls in
        let e : results_taken calls start ≡ map shown_tokens tss = followed.shows in
        subst (λ (rs : List Result). OfKinds resultKinds (get_or rs n (result 0 []))) (sym e)
        (results_at tss resultKinds (sheet-results-of-kinds sheet line ok (kinds_kept_lem sheet line told) capacity followed.calls sets-suit) n
        (omega (arith, ap length e, length-shown tss)))

-- ---- from an accepted start, with any bytes behind what it was lent
module _ (sheet line : List ℕ) (capacity : ℕ) (memory : List ℕ) (h : (started sheet line capacity memory).answer.refusal ≡ 0) (rest : List ℕ) where
  abbrev begun : List ℕ
  begun = (started sheet line capacity memory).mem ++ rest

  accepted : AcceptedStart sheet line capacity memory
  accepted = accepted-start sheet line capacity memory h

  stands : Stands (made_of (formula_of sheet)) (letters_of (formula_of sheet) line) capacity begun (start_of (formula_of sheet))
  stands =
      stands-behind (made_of (formula_of sheet)) (made-sound sheet accepted.admissible) (letters_of (formula_of sheet) line) capacity (started sheet line capacity memory).mem
      (start_of (formula_of sheet)) (accepted-stands sheet line capacity memory h) rest

  -- EVERY RESULT TAKEN IS OF ITS KINDS, those of the formula's values under the line's.
  pub taken-of-kind : (calls : List Call) (n : ℕ) → n < length (results_taken calls begun)
      → OfKinds (kinds_e (formula_of sheet) (input_kinds (free_e (formula_of sheet)) line)) (get_or (results_taken calls begun) n (result 0 []))
  taken-of-kind = of-kind-from sheet line accepted.admissible accepted.kinded capacity accepted.some accepted.most begun stands

-- NO WRONG KIND BEFORE ANY OPERATOR of the machine. The kind k is there before the capacity, the memory and the calls: sheet and line alone tell it.
-- A run of n firings is among the calls, so between the firings of a run too. `Admissible` and `Kinded` are what every accepted start has
-- (`accepted-start`).
pub never-a-wrong-kind : (sheet line : List ℕ) → Admissible sheet → Kinded sheet line → (i : ℕ) (o : Operator) → Ith (made_of (formula_of sheet)).operators i o
    → (k : ValueKind) × Takes o.kind k
    × ((capacity : ℕ) (memory : List ℕ) → (started sheet line capacity memory).answer.refusal ≡ 0 → (rest : List ℕ) (calls : List Call)
    → Rightly (memory_after_all calls ((started sheet line capacity memory).mem ++ rest)) capacity i o k)
never-a-wrong-kind sheet line ok told i o m =
    let one = of-one-kind sheet line ok told i o m in (
      one.0,
      one.1,
      λ capacity memory h rest calls.
          let begun = accepted-start sheet line capacity memory h in
          rightly-from sheet line ok told capacity begun.some begun.most ((started sheet line capacity memory).mem ++ rest)
          (stands sheet line capacity memory h rest) calls i o m,
    )
