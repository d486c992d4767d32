-- Laws of specs/StartedStands.antt, and what only they need.
use Rattle.std.specs.Prelude.{ℕ, ◌+◌, ◌≤◌, ◌<◌, ◌≡◌, refl, Bool, true, false, List, [], ◌∷◌, ◌++◌, length, get_or, drop}
use Rattle.std.proofs.Common.{sym, ap, ◌∙◌, subst, arith, get_or-take, get_or-drop}
use Rattle.std.proofs.lemmas.Bool.{false≢true}
use Rattle.std.proofs.Math.Option.{Option, none, some}
use Rattle.value.specs.Kinds.{is_letter}
use Rattle.value.proofs.Words.{word_lt}
use Rattle.formula.specs.Tree.{formula_of}
use Rattle.formula.specs.Faults.{letters_of}
use Rattle.formula.specs.Acceptance.{Admissible, Kinded}
use Rattle.network.specs.Rules.{Kind, constant, copy, operator, T-gate, F-gate, M-gate, E-gate, IC-gate, FM-gate, FS-gate, Register}
use Rattle.network.specs.Net.{Token, mark, Links}
use Rattle.network.specs.Fill.{remembering, register-token}
use Rattle.network.specs.Firing.{Holds}
use Rattle.network.specs.Uses.{In}
use Rattle.theory_pieces.specs.Load.{put, On}
use Rattle.theory_pieces.proofs.Load.{put-off}
use Rattle.machine_queue.specs.Stretch.{waiting}
use Rattle.machine_layout.specs.Layout.{links_at, input_kinds_at, inputs_of, operator_at, register_at, size_of, link_at, need, part, stored_kinds}
use Rattle.machine_layout.specs.Fits.{stretch-fits}
use Rattle.machine_firing.specs.LinkLaws.{link_part}
use Rattle.graph.specs.Assembly.{Operator}
use Rattle.graph.specs.Translation.{Made, made_of}
use Rattle.theory_reference.specs.Plugged.{nowhere, registers, link-of, ports_of}
use Rattle.theory_reference.specs.Marks.{register_of, marks, Remembers-in}
use Rattle.theory_reference.proofs.Marks.{marks-hold, marks-in, each-marked}
use Rattle.theory_wiring.specs.Links.{optional, output_links}
use Rattle.theory_wiring.specs.Ports.{Ported}
use Rattle.theory_verdicts.specs.Owed.{credit_link}
use Rattle.theory_verdicts.specs.Running.{start_of}
use Rattle.maker_laid.specs.Encode.{held_of, encode, encoded, written, length-written}
use Rattle.maker_laid.specs.Encode.{port_of as portWritten}
use Rattle.machine_start.specs.Start.{Begun, headed, emptied, started_memory, started}
use Rattle.machine_start.specs.StartLaws.{accepted-start}
use Rattle.machine_start.specs.ReadBack.{length-emptied, emptied-kept, emptied-read}
use Rattle.machine_start.specs.HeaderLaws.{Fits, length-headed, headed-kept, headed-capacity, headed-operators, headed-links, headed-inputs, headed-results, headed-untaken, headed-trigger, headed-input, headed-result, headed-kinds}
use Rattle.machine_start.specs.Letters.{letters-count, letters-each}
use Rattle.demand_view.specs.Sound.{Ith, HeldOf, Sound}
use Rattle.demand_view.specs.Stands.{Waits, Recorded, word_in, Fine, Registered, Stands}
use Rattle.demand_begin.proofs.Positions.{each-ith, ith-each, ith-inside, ith-outputs, in-first, in-optional, in-get_d}
use Rattle.demand_begin.proofs.MadeSound.{made-sound}
use Rattle.demand_begin.proofs.Lent.{agree-number, agree-name, agree-part}
use Rattle.demand_begin.specs.WrittenRecords.{Holds-record, Same-operator}
use Rattle.demand_begin.proofs.WrittenRecords.{record-kept, written_read}
use Rattle.demand_begin.specs.StartedStands.{Marked}

-- ---- registers at the start
held-fine : (k : Kind) (r : Register) → HeldOf k r → Fine r
held-fine constant none h = absurd h
held-fine constant (some v) h = h.0
held-fine copy r h = subst Fine (sym h) tt
held-fine (operator code) r h = subst Fine (sym h) tt
held-fine T-gate r h = subst Fine (sym h) tt
held-fine F-gate r h = subst Fine (sym h) tt
held-fine M-gate r h = subst Fine (sym h) tt
held-fine E-gate r h = subst Fine (sym h) tt
held-fine IC-gate r h = subst Fine (sym h) tt
held-fine FM-gate r h = subst Fine (sym h) tt
held-fine FS-gate r h = subst Fine (sym h) tt

remembering-none : (k : Kind) (r : Register) → HeldOf k r → remembering k ≡ true → r ≡ none
remembering-none constant r h e = absurd (false≢true e)
remembering-none copy r h e = h
remembering-none (operator code) r h e = h
remembering-none T-gate r h e = h
remembering-none F-gate r h e = h
remembering-none M-gate r h e = h
remembering-none E-gate r h e = h
remembering-none IC-gate r h e = h
remembering-none FM-gate r h e = h
remembering-none FS-gate r h e = h

held_word : (r : Register) → held_of r ≡ word_in r
held_word none = refl
held_word (some v) = refl

word_small : (r : Register) → Fine r → held_of r < 1099511627776
word_small none h = omega arith
word_small (some v) h = word_lt v h

port-is : (p : Option ℕ) → portWritten p ≡ link-of p
port-is none = refl
port-is (some l) = refl

module _ (g : Made) (S : Sound g) where
  -- no token waits; FM and FS are marked as not yet fired
  abbrev pub empty : Links
  empty = put (marks g.operators) (λ l. [])

  marked-register : (i : ℕ) (o : Operator) → Ith g.operators i o → Marked (register_of o)
  marked-register i o at =
      let e = (each-ith Ported g.operators S.wired.all-ported i o at).emits in
      let n : In e.0 (output_links o) = in-first e.0 (optional o.out1) (optional o.out2 ++ optional o.out3) (in-optional e.0 o.out1 e.1) in
      let b : e.0 < g.links = (S.wired.puts-below i e.0 (subst (In e.0) (sym (ith-outputs g.operators i o at)) n)).1 in
      subst (λ (p : Option ℕ). Marked (registers + link-of p)) (sym e.1) (above e.0 g.links b S.few-links)
    where
      above : (l n : ℕ) → l < n → n ≤ 3105 → Marked (registers + l)
      above l n p q = (omega arith, omega arith)

  unmarked : (l : ℕ) → (Marked l → ⊥) → empty l ≡ []
  unmarked l n =
      put-off l (marks g.operators) (λ k. [])
      (λ on. n (marks-in Marked g.operators (ith-each (Remembers-in Marked) g.operators (λ i o at e. marked-register i o at)) l on))

  at_mark : (i : ℕ) (o : Operator) → Ith g.operators i o → remembering o.kind ≡ true → empty (register_of o) ≡ mark ∷ []
  at_mark i o at e =
      let marked : ℕ → Type 0 = λ l. On l (marks g.operators) in
      marks-hold g.operators (λ k. []) (register_of o)
      (each-ith (Remembers-in marked) g.operators (each-marked marked g.operators (λ l on. on)) i o at e)

  module _ (kinds : List ℕ) (count : length kinds ≡ g.inputs) (letters : (j : ℕ) → j < g.inputs → is_letter (get_or kinds j 0) ≡ true)
      (capacity : ℕ) (m : List ℕ) (long : need (size_of capacity) ≤ length m) where
    abbrev operated : List ℕ
    operated = written m 0 (encoded g.operators)

    abbrev headered : List ℕ
    headered = headed g kinds capacity operated

    abbrev memory : List ℕ
    memory = emptied g.links (size_of capacity) headered

    fits : Fits g
    fits =
        record {
          operators = S.few-operators;
          links = S.few-links;
          inputs = S.few-inputs;
          results = S.few-results;
          names = λ j h. let b = S.wired.results-below (get_or g.results j 0) (in-get_d j g.results h) in omega (arith, S.few-links);
        }

    length-operated : length operated ≡ length m
    length-operated = length-written (encoded g.operators) m 0

    room : 138 ≤ length operated
    room = omega (arith, length-operated)

    length-header : length headered ≡ length m
    length-header = length-headed g kinds capacity operated room ∙ length-operated

    pub length-started : length memory ≡ length m
    length-started = length-emptied g.links (size_of capacity) headered ∙ length-header

    below-links : (i : ℕ) → i < 21760 → get_or memory i 0 ≡ get_or headered i 0
    below-links i h = emptied-kept g.links (size_of capacity) headered i h

    behind-header : (i : ℕ) → 138 ≤ i → i < 21760 → get_or memory i 0 ≡ get_or operated i 0
    behind-header i l h = below-links i h ∙ headed-kept g kinds capacity operated room fits count i l

    -- ---- operators
    module _ (i : ℕ) (o : Operator) (at : Ith g.operators i o) where
      inside : i < 1024
      inside = let a = ith-inside g.operators i o at in omega (arith, S.few-operators)

      same : Same-operator operated memory i
      same =
          let h = inside in
          record {
            record-bytes = λ j l. behind-header (operator_at i + j) (omega arith) (omega arith);
            register-bytes = λ j l. behind-header (register_at i + j) (omega arith) (omega arith);
          }

      small : (j : ℕ) (y : Operator) → Ith g.operators j y → held_of y.held < 1099511627776
      small j y e = word_small y.held (held-fine y.kind y.held (S.formed j y e).held)

      written-there : Holds-record memory i (encode o)
      written-there =
          let z : 0 + i ≡ i = omega arith in
          let w = written_read g.operators m 0 (omega (arith, S.few-operators)) (omega arith) small i o at in
          record-kept operated memory i same (encode o) (subst (λ (k : ℕ). Holds-record operated k (encode o)) z w)

      recorded-there : Recorded memory i o
      recorded-there =
          let h = written-there in
          record {
            kind = h.kind;
            in1 = h.in1 ∙ port-is o.in1;
            in2 = h.in2 ∙ port-is o.in2;
            in3 = h.in3 ∙ port-is o.in3;
            out1 = h.out1 ∙ port-is o.out1;
            out2 = h.out2 ∙ port-is o.out2;
            out3 = h.out3 ∙ port-is o.out3;
          }

      registered-there : Registered memory empty i o
      registered-there =
          let f = (S.formed i o at).held in
          record {
            register = o.held;
            fine = held-fine o.kind o.held f;
            word = written-there.word ∙ held_word o.held;
            held = go (remembering o.kind) refl;
          }
        where
          go : (b : Bool) → remembering o.kind ≡ b → Holds b (ports_of o) empty o.held
          go true e =
              at_mark i o at e
              ∙ ap (λ (r : Register). register-token r ∷ []) (sym (remembering-none o.kind o.held (S.formed i o at).held e))
          go false e = refl

    -- ---- links
    waits_there : (l : ℕ) → l < g.links → Waits capacity (link_part memory (size_of capacity) l) (empty l)
    waits_there l h =
        let none-waits : empty l ≡ [] = unmarked l (λ k. omega (arith, S.few-links, k)) in
        let f = stretch-fits links_at (size_of capacity) l (omega (arith, S.few-links)) in
        let z : link_at (size_of capacity) l + 0 ≡ link_at (size_of capacity) l = omega arith in
        let size_is : length headered ≡ length m = length-header in
        let count : waiting (link_part memory (size_of capacity) l) ≡ 0 =
        get_or-take (size_of capacity) (drop (link_at (size_of capacity) l) memory) 0 0 (omega arith)
        ∙ get_or-drop (link_at (size_of capacity) l) memory 0 0 ∙ ap (λ (k : ℕ). get_or memory k 0) z
        ∙ emptied-read g.links (size_of capacity) headered l (omega arith) h (omega arith)
        in
        subst (Waits capacity (link_part memory (size_of capacity) l)) (sym none-waits)
        (record { counted = count; fits = omega arith; each = λ j k. absurd (omega arith) })

    -- ---- the whole
    kinds-there : stored_kinds memory ≡ kinds
    kinds-there =
        let n : inputs_of headered ≡ g.inputs = headed-inputs g kinds capacity operated room in
        ap (part memory input_kinds_at) (below-links 5 (omega arith))
        ∙ agree-part 21760 headered memory below-links input_kinds_at (inputs_of headered) (omega (arith, n, S.few-inputs)) (omega (arith, n, S.few-inputs, length-header))
        (omega (arith, n, S.few-inputs, length-started))
        ∙ headed-kinds g kinds capacity operated room fits count

    stands : Stands g kinds capacity memory empty
    stands =
        let credit : empty credit_link ≡ [] = unmarked credit_link (λ k. omega (arith, k)) in
        let none-untaken : length (empty credit_link) ≡ 0 = ap (λ (ts : List Token). length ts) credit in
        record {
          long = omega (arith, length-started);
          capacity-is = below-links 0 (omega arith) ∙ headed-capacity g kinds capacity operated room;
          operators-are = agree-number 21760 headered memory below-links 1 (omega arith) ∙ headed-operators g kinds capacity operated room;
          links-are = agree-number 21760 headered memory below-links 3 (omega arith) ∙ headed-links g kinds capacity operated room;
          inputs_are = below-links 5 (omega arith) ∙ headed-inputs g kinds capacity operated room;
          kinds-are = kinds-there;
          kinds-count = count;
          kinds-letters = letters;
          results-are = below-links 6 (omega arith) ∙ headed-results g kinds capacity operated room;
          untaken-is = below-links 7 (omega arith) ∙ headed-untaken g kinds capacity operated room ∙ sym none-untaken;
          untaken-few = omega (arith, none-untaken);
          trigger-is = agree-number 21760 headered memory below-links 8 (omega arith) ∙ headed-trigger g kinds capacity operated room;
          input-links = λ j h. agree-name 21760 headered memory below-links 10 j (omega (arith, S.few-inputs)) ∙ headed-input g kinds capacity operated room fits count j h;
          result-links = λ j h. agree-name 21760 headered memory below-links 74 j (omega (arith, S.few-results)) ∙ headed-result g kinds capacity operated room fits count j h;
          recorded = recorded-there;
          registered = registered-there;
          waits = waits_there;
          nowhere-empty = unmarked nowhere (λ k. omega (arith, k));
        }

-- Start's memory of an accepted sheet holds its machine, empty, with the letters of its kinds line.
pub started-stands : (s line : List ℕ) → Admissible s → Kinded s line → (capacity : ℕ) → 1 ≤ capacity → capacity ≤ 16 → (m : List ℕ) → need (size_of capacity) ≤ length m
    → Stands (made_of (formula_of s)) (letters_of (formula_of s) line) capacity (started_memory (made_of (formula_of s)) (letters_of (formula_of s) line) capacity m) (start_of (formula_of s))
unfolding started_memory
started-stands s line accepted kinded capacity low high m long =
    stands (made_of (formula_of s)) (made-sound s accepted) (letters_of (formula_of s) line) (letters-count s line kinded) (letters-each s line kinded) capacity m long

-- So does the memory of every start that gave no refusal.
pub accepted-stands : (s line : List ℕ) (capacity : ℕ) (m : List ℕ) → (started s line capacity m).answer.refusal ≡ 0
    → Stands (made_of (formula_of s)) (letters_of (formula_of s) line) capacity (started s line capacity m).mem (start_of (formula_of s))
accepted-stands s line capacity m e =
    let a = accepted-start s line capacity m e in
    subst (λ (b : Begun). Stands (made_of (formula_of s)) (letters_of (formula_of s) line) capacity b.mem (start_of (formula_of s))) (sym a.whole)
    (started-stands s line a.admissible a.kinded capacity a.some a.most m a.long)
