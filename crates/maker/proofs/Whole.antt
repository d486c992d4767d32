-- What making the whole graph needs and gives (src/lib): the formula's row, with the links of its free names, is the translation's graph.
use Prim.Native.Nat.{ℕ, zero, suc, ◌+◌, ◌-◌, ◌/◌, ◌%◌, ◌^◌, ◌≤◌, ◌<◌}
use mathlib.Core.Path.{◌≡◌, refl, sym, ap, ap₂, ◌∙◌, subst}
use mathlib.Core.Bool.{Bool, false, cond}
use mathlib.Core.List.{List, ◌∷◌, ◌++◌}
use lib.ListN.{length, get_or, take, set, replicate}
use lib.Seq.{length-take-le}
use lib.Bits.{bit_and}
use lib.Dec.{eqb}
use native.Mathlib.Omega.{arith}
use Rattle.machine_layout.specs.Layout.{most_links}
use Rattle.names.specs.Names.{trigger, one, without, mask, size, size_from, below, names_in}
use Rattle.names.proofs.Sets.{known-minus, known-has, mask_one, size-le}
use Rattle.names.proofs.Counts.{size_from-le, size_from-cong}
use Rattle.formula.specs.Sheet.{shape_at}
use Rattle.formula.specs.Tree.{Exp, exp_of}
use Rattle.formula.specs.Widths.{width}
use Rattle.formula.specs.Free.{free_e, inputs_of}
use Rattle.theory_yields.proofs.BodyWidths.{not-too-wide}
use Rattle.graph.specs.Assembly.{up_from, operators_of}
use Rattle.graph.specs.Translation.{graph_e, port_of, made_of}
use Rattle.theory_wiring.proofs.MadeGraph.{trigger-link}
use Rattle.maker_laid.specs.Environments.{Agrees}
use Rattle.maker_laid.specs.Masked.{list_of, Mask, list-is, list_length}
use Rattle.maker_laid.specs.Counts.{operator_count, operators-length}
use Rattle.maker_laid.specs.Laid.{Laid}
use Rattle.maker_laid.specs.Nodes.{Kids, Ready, free_in}
use Rattle.maker_joins.specs.declared.Emitted.{Emitted}
use Rattle.maker.specs.Making.{Makeable, making_of, making_in, padded}
use Rattle.maker_parts.specs.Room.{Room}
use Rattle.maker_parts.specs.Parts.{Numbered}
use Rattle.maker_rows.specs.Rows.{Part}
use Rattle.maker_rows.proofs.Splits.{counted-E, long_of, fit-in}

-- ---- arrays filled from the front

rising-turn : (v a i j : ℕ) → set (up_from a i ++ replicate (suc j) v) i (a + i) ≡ up_from a (suc i) ++ replicate j v
unfolding up_from
rising-turn v a zero j = let z : a + 0 ≡ a = omega arith in ap (λ (k : ℕ). k ∷ replicate j v) z
rising-turn v a (suc i) j =
    let z : a + suc i ≡ suc a + i = omega arith in
    ap (λ (xs : List ℕ). a ∷ xs) (ap (set (up_from (suc a) i ++ replicate (suc j) v) i) z ∙ rising-turn v (suc a) i j)

pub rising-again : (k i : ℕ) (links : List ℕ) → i < k → k ≤ 32 → links ≡ up_from 0 i ++ replicate (32 - i) 65535 → set links i i ≡ up_from 0 (i + 1) ++ replicate (32 - (i + 1)) 65535
rising-again k i links h l e =
    let z : 32 - i ≡ suc (32 - (i + 1)) = omega arith in
    let y : i + 1 ≡ suc i = omega arith in
    ap₂ (λ (xs : List ℕ) (c : ℕ). set xs i c) (e ∙ ap (λ (c : ℕ). up_from 0 i ++ replicate c 65535) z) (omega arith) ∙ rising-turn 65535 0 i (32 - (i + 1))
    ∙ ap (λ (c : ℕ). up_from 0 c ++ replicate (32 - (i + 1)) 65535) (sym y)

length_up : (a k : ℕ) → length (up_from a k) ≡ k
unfolding up_from
length_up a zero = refl
length_up a (suc k) = ap suc (length_up (suc a) k)

pub rising-end : (k i : ℕ) (links : List ℕ) → i ≤ k → k ≤ i → links ≡ up_from 0 i ++ replicate (32 - i) 65535 → links ≡ padded 32 (up_from 0 k)
rising-end k i links h l e =
    let z : i ≡ k = omega arith in
    e ∙ ap (λ (c : ℕ). up_from 0 c ++ replicate (32 - c) 65535) z ∙ ap (λ (c : ℕ). up_from 0 k ++ replicate (32 - c) 65535) (sym (length_up 0 k))

-- ---- the whole

module _ (t masks widths : List ℕ) (n : ℕ) (H : Makeable t n masks widths) where
  abbrev formula : Exp
  formula = exp_of t n

  pub make-inside : (1 ≤ n) × (n ≤ length masks)
  make-inside = (H.some, omega (arith, H.rows, H.read.masks-long))

  high : n ≤ H.read.rows
  high = omega (arith, H.rows)

  pub make-ready : Ready t masks widths false 0 n
  make-ready =
      record {
        read = H.read;
        low = H.some;
        high = high;
        kids = subst (λ (b : Bool). Kids H.read.place b (shape_at t n)) H.place (H.read.kids n H.some high);
        fits = H.admitted;
      }

  make-mask : get_or masks (n - 1) 0 ≡ mask (free_e formula)
  make-mask = H.read.masked n H.some high ∙ ap (λ (b : Bool). mask (free_in b t n)) H.place

  module _ (v : ℕ) (ev : v ≡ get_or masks (n - 1) 0) where
    is : v ≡ mask (free_e formula)
    is = ev ∙ make-mask

    pub free-mask : Mask v
    free-mask = record { set = free_e formula; is = is }

    pub names-counted : (k : ℕ) → k ≡ length (list_of v) → k ≡ size (free_e formula)
    names-counted k e = e ∙ list_length v (free_e formula) is

    pub make-room : (k : ℕ) → k ≡ length (list_of v) → Room k 0 (operator_count (graph_e formula))
    unfolding made_of
    make-room k e =
        let c : length (operators_of (graph_e formula) (size (free_e formula)) (port_of formula)) ≡ operator_count (graph_e formula) =
        operators-length (graph_e formula) (size (free_e formula)) (port_of formula)
        in
        let s : size (free_e formula) ≤ 33 = size-le (free_e formula) in
        let f : length (operators_of (graph_e formula) (size (free_e formula)) (port_of formula)) ≤ 1024 = H.few in
        let z : k ≡ size (free_e formula) = names-counted k e in
        (omega arith, omega arith)

    -- the inputs are the names without the trigger
    module _ (u : ℕ) (eu : u ≡ bit_and v ((2 ^ 64 - 1) - 4294967296)) where
      input-mask : u ≡ mask (without (free_e formula) (one trigger))
      input-mask = eu ∙ known-minus v 4294967296 (free_e formula) (one trigger) is (sym (mask_one 32 (omega arith)))

      pub inputs-mask : Mask u
      inputs-mask = record { set = without (free_e formula) (one trigger); is = input-mask }

      pub inputs-counted : (k : ℕ) → k ≡ length (list_of u) → k ≡ length (inputs_of formula)
      unfolding inputs_of
      inputs-counted k e = e ∙ ap (length {A = ℕ}) (list-is u (without (free_e formula) (one trigger)) input-mask)

      pub inputs-few : (k : ℕ) → k ≡ length (list_of u) → k ≤ 32
      unfolding port_of below
      inputs-few k e =
          let a : port_of formula trigger ≡ length (inputs_of formula) = trigger-link formula in
          let b : size_from 32 (free_e formula) ≤ 32 = size_from-le 32 (free_e formula) in
          let c : k ≡ length (inputs_of formula) = inputs-counted k e in
          let d : port_of formula trigger ≡ size_from 32 (free_e formula) = refl in
          omega arith

    pub triggered : (b : Bool) → b ≡ eqb (v / 2 ^ 32 % 2) 1 → b ≡ free_e formula trigger
    triggered b e = e ∙ known-has v (free_e formula) is 32 (omega arith)

    same-links : (env : List ℕ) → Numbered v 0 env → Agrees (port_of formula) env
    unfolding port_of below names_in
    same-links env h z l =
        size_from-cong z (free_e formula) (names_in v) (λ i q. sym (known-has v (free_e formula) is i (omega arith))) ∙ sym (h z l ∙ omega arith)

    module _ (k : ℕ) (ek : k ≡ length (list_of v)) (env mem mem' : List ℕ) (x : Emitted) (he : Numbered v 0 env) (d : Part false 0 t n k 0 env mem mem' x) where
      pub few-results-made : x.count ≤ 16
      few-results-made =
          let c : x.count ≡ width formula = counted-E 0 t n k 0 env mem mem' x H.admitted d.done in
          let w : width formula ≤ 16 = not-too-wide formula H.admitted in
          omega arith

      laid : Laid (graph_e formula) (size (free_e formula)) 0 (port_of formula) mem mem' (take x.count x.outs) x.next.link x.next.operator
      laid =
          subst (λ (z : ℕ). Laid (graph_e formula) z 0 (port_of formula) mem mem' (take x.count x.outs) x.next.link x.next.operator) (names-counted k ek)
          (d.done.laid (port_of formula) (same-links env he))

      pub made-memory : mem' ≡ making_in mem formula
      unfolding made_of
      made-memory = laid.memory

      results-are : take x.count x.outs ≡ (made_of formula).results
      unfolding made_of
      results-are = laid.gives

      links-are : x.next.link ≡ (made_of formula).links
      unfolding made_of
      links-are = laid.links

      pub low-links : x.next.link ≤ most_links
      low-links = let e : x.next.link ≡ (made_of formula).links = links-are in let l : (made_of formula).links ≤ most_links = H.low in omega arith

      operators-are : x.next.operator ≡ length (made_of formula).operators
      unfolding made_of
      operators-are = laid.operators ∙ omega arith

      inputs_are : (i : ℕ) → i ≡ length (inputs_of formula) → i ≡ (made_of formula).inputs
      unfolding made_of
      inputs_are i e = e

      triggered-is : (b : Bool) → b ≡ free_e formula trigger → b ≡ (made_of formula).triggered
      unfolding made_of
      triggered-is b e = e

      many : x.count ≡ length (made_of formula).results
      many =
          sym (length-take-le x.count x.outs (long_of (graph_e formula) k 0 env mem mem' x.outs x.count x.next.link x.next.operator (fit-in false 0 t n H.admitted) d.done))
          ∙ ap (length {A = ℕ}) results-are

      pub made-answer : (i tr : ℕ) (b : Bool) (is rs : List ℕ) → i ≡ length (inputs_of formula) → b ≡ free_e formula trigger → tr ≡ cond b i 65535 → is ≡ padded 32 (up_from 0 i)
          → rs ≡ padded 16 (take x.count x.outs)
          → record { operators = x.next.operator; links = x.next.link; trigger = tr; inputs = i; input_links = is; results = x.count; result_links = rs } ≡ making_of formula
      made-answer i tr b is rs ei eb et ea er j =
          record {
            operators = operators-are j;
            links = links-are j;
            trigger = (et ∙ ap₂ (λ (c : Bool) (k : ℕ). cond c k 65535) (triggered-is b eb) (inputs_are i ei)) j;
            inputs = inputs_are i ei j;
            input_links = (ea ∙ ap (λ (k : ℕ). padded 32 (up_from 0 k)) (inputs_are i ei)) j;
            results = many j;
            result_links = (er ∙ ap (padded 16) results-are) j;
          }
