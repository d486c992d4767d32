-- Laws of specs/StartedBytes.antt, and what only they need.
use Rattle.std.specs.Prelude.{ℕ, zero, suc, ◌+◌, ◌≤◌, ◌<◌, ◌≡◌, List, [], ◌∷◌, length, get_or, drop}
use Rattle.std.proofs.Common.{sym, ap, ◌∙◌, subst, inl, inr, arith, get_or-take, get_or-drop}
use Rattle.std.proofs.lemmas.List.{length-map}
use Rattle.std.proofs.Math.Seq.{length-sets}
use Rattle.value.specs.Bytes.{word_bytes, stored}
use Rattle.formula.specs.Tree.{formula_of}
use Rattle.formula.specs.Faults.{letters_of}
use Rattle.graph.specs.Translation.{Made, made_of}
use Rattle.machine_queue.specs.Stretch.{waiting}
use Rattle.machine_layout.specs.Layout.{operator_at, register_at, links_at, least_size, link_at, most_operators}
use Rattle.machine_layout.specs.Record.{record_bytes, recorded, placed}
use Rattle.machine_layout.specs.declared.Operator.{Operator as Record}
use Rattle.maker_laid.specs.Encode.{encode, encoded, written, length-placed, length-written}
use Rattle.machine_firing.specs.LinkLaws.{link_part}
use Rattle.machine_start.specs.Start.{Begun, headed, emptied, started_memory, started}
use Rattle.machine_start.specs.StartLaws.{accepted-start}
use Rattle.machine_start.specs.ReadBack.{row_read, emptied-kept, emptied-read}
use Rattle.machine_start.specs.HeaderLaws.{Fits, length-headed, headed-kept}
use Rattle.machine_start.specs.Letters.{letters-count}
use Rattle.demand_view.specs.Sound.{Sound}
use Rattle.demand_begin.proofs.Positions.{in-get_d}
use Rattle.demand_begin.proofs.MadeSound.{made-sound}
use Rattle.demand_begin.proofs.WrittenRecords.{written-kept}
use Rattle.demand_tags.specs.StartedBytes.{SmallRegister}

word-byte-small : (w j : ℕ) → j < 5 → get_or (word_bytes w) j 0 < 256
unfolding word_bytes
word-byte-small w zero h = omega arith
word-byte-small w (suc zero) h = omega arith
word-byte-small w (suc (suc zero)) h = omega arith
word-byte-small w (suc (suc (suc zero))) h = omega arith
word-byte-small w (suc (suc (suc (suc zero)))) h = omega arith
word-byte-small w (suc (suc (suc (suc (suc j))))) h = absurd (omega arith)

placed-small : (m : List ℕ) (i : ℕ) (r : Record) → i < most_operators → links_at ≤ length m → SmallRegister (placed m i r) i
unfolding placed recorded stored word_bytes
placed-small m i r few long j h =
    let e : length (recorded m (operator_at i) r) ≡ length m = length-sets m (operator_at i) (record_bytes r) in
    rw (row_read (word_bytes r.register) (recorded m (operator_at i) r) (register_at i) j (omega arith) h) (word-byte-small r.register j h)

written_small : (rs : List Record) (m : List ℕ) (n : ℕ) → n + length rs ≤ most_operators → links_at ≤ length m → (i : ℕ) → i < length rs → SmallRegister (written m n rs) (n + i)
unfolding written
written_small [] m n few long i l = absurd (omega arith)
written_small (r ∷ rs) m n few long zero l =
    let z : n + 0 ≡ n = omega arith in
    rw z (λ j h.
    rw (written-kept rs (placed m n r) (suc n) most_operators (register_at n + j) (omega arith) (record { records = inr (omega arith); registers = inl (omega arith) }))
    (placed-small m n r (omega arith) long j h))
written_small (r ∷ rs) m n few long (suc i) l =
    let z : n + suc i ≡ suc n + i = omega arith in
    rw z (written_small rs (placed m n r) (suc n) (omega arith) (omega (arith, length-placed m n r)) i (omega arith))

graph-fits : (g : Made) → Sound g → Fits g
graph-fits g S =
    record {
      operators = S.few-operators;
      links = S.few-links;
      inputs = S.few-inputs;
      results = S.few-results;
      names = λ j h. let b = S.wired.results-below (get_or g.results j 0) (in-get_d j g.results h) in omega (arith, S.few-links);
    }

pub started-small : (s line lent : List ℕ) → (started s line 1 lent).answer.refusal ≡ 0 → (i : ℕ) → i < length (made_of (formula_of s)).operators
    → SmallRegister (started s line 1 lent).mem i
unfolding started_memory
started-small s line lent h i l =
    let a = accepted-start s line 1 lent h in
    let g = made_of (formula_of s) in
    let S = made-sound s a.admissible in
    let kinds = letters_of (formula_of s) line in
    let operated = written lent 0 (encoded g.operators) in
    let size : length operated ≡ length lent = length-written (encoded g.operators) lent 0 in
    let count : length (encoded g.operators) ≡ length g.operators = length-map g.operators encode in
    let z : 0 + i ≡ i = omega arith in
    subst (λ (b : Begun). SmallRegister b.mem i) (sym a.whole)
    (λ j k.
    rw (
      emptied-kept g.links 6 (headed g kinds 1 operated) (register_at i + j) (omega (arith, S.few-operators)),
      headed-kept g kinds 1 operated (omega (arith, size, a.long)) (graph-fits g S) (letters-count s line a.kinded) (register_at i + j) (omega arith),
    )
    (rw z at (written_small (encoded g.operators) lent 0 (omega (arith, S.few-operators)) (omega (arith, a.long)) i (omega arith)) j k))

pub started-empty : (s line lent : List ℕ) → (started s line 1 lent).answer.refusal ≡ 0 → (l : ℕ) → l < (made_of (formula_of s)).links
    → waiting (link_part (started s line 1 lent).mem least_size l) ≡ 0
unfolding started_memory
started-empty s line lent h l below =
    let a = accepted-start s line 1 lent h in
    let g = made_of (formula_of s) in
    let operated = written lent 0 (encoded g.operators) in
    let header = headed g (letters_of (formula_of s) line) 1 operated in
    let size : length operated ≡ length lent = length-written (encoded g.operators) lent 0 in
    let memory = emptied g.links least_size header in
    let z : link_at least_size l + 0 ≡ link_at least_size l = omega arith in
    ap (λ (b : Begun). waiting (link_part b.mem least_size l)) a.whole
    ∙ get_or-take least_size (drop (link_at least_size l) memory) 0 0 (omega arith)
    ∙ get_or-drop (link_at least_size l) memory 0 0
    ∙ ap (λ (k : ℕ). get_or memory k 0) z
    ∙ emptied-read g.links least_size header l (omega arith) below
    (omega (arith, length-headed g (letters_of (formula_of s) line) 1 operated (omega (arith, size, a.long)), size, a.long, (made-sound s a.admissible).few-links))
