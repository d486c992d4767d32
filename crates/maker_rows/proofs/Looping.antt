-- What the loop of src/lib needs and gives: its start, its body on links of its own, and the ring (maker_laid/specs/DoneFor). Assumes of a row what
-- maker_laid/specs/Nodes says of it.
use Prim.Native.Nat.{ℕ, suc, ◌+◌, ◌-◌, ◌*◌, ◌^◌, ◌≤◌}
use mathlib.Core.Path.{◌≡◌, refl, sym, ap, ◌∙◌, subst}
use mathlib.Core.Bool.{true, false, false≢true}
use mathlib.Core.List.{List}
use lib.ListN.{length, get_or}
use lib.Bits.{bit_and}
use native.Mathlib.Omega.{arith}
use Rattle.names.specs.Names.{Names, common, without, mask}
use Rattle.names.proofs.Sets.{mask-range, mask-cong}
use Rattle.formula.specs.declared.Shape.TheVariants.{For}
use Rattle.formula.specs.Sheet.{shape_at}
use Rattle.formula.specs.Tree.{for_e, exp_of, body_of}
use Rattle.formula.specs.Widths.{returned}
use Rattle.formula.specs.Free.{free_e, free_b}
use Rattle.formula.specs.Admitted.{AdmittedE}
use Rattle.meaning.proofs.WidthLaws.{for-fits}
use Rattle.theory_yields.specs.Naming.{Small}
use Rattle.theory_yields.proofs.BodyWidths.{iterated-16, returned-outputs-le}
use Rattle.theory_yields.specs.BodyWidths.{returned_outputs}
use Rattle.graph.specs.Assembly.{Graph, loop, free, member_of, up_from, total, links_of}
use Rattle.graph.specs.Translation.{graph_e, graph_b}
use Rattle.sheet_tables.specs.Masks.{outside}
use Rattle.maker_laid.specs.Masked.{list_of, list-is}
use Rattle.maker_laid.specs.Environments.{listed_small}
use Rattle.maker_laid.specs.Laid.{listed-length}
use Rattle.maker_laid.specs.Counts.{operator_count}
use Rattle.maker_laid.specs.Nodes.{graph_in, some_in, Ready, Child, at-for}
use Rattle.maker_laid.specs.Done.{Done, Forked, done-as, done-links, done-operators}
use Rattle.maker_laid.specs.DoneFor.{done-loop}
use Rattle.maker_joins.specs.declared.Emitted.{Emitted}
use Rattle.maker_parts.specs.Room.{Room, three-links}
use Rattle.maker_parts.specs.Parts.{Gives, Numbered, Closed}
use Rattle.maker_rows.specs.Rows.{Part}
use Rattle.maker_rows.proofs.Splits.{Split, split-loop, child-has, child-small, counted-E, counted-B, some-listed}

module _ (t masks widths : List ℕ) (r a b c d : ℕ) (Y : Ready t masks widths false 0 r) (e : shape_at t r ≡ For a b c d) where
  -- the loop's returned width
  abbrev pub W : ℕ
  W = returned (body_of t d)

  pub for-first : Child t masks widths false 0 r c
  for-first = (at-for t masks widths 0 r Y a b c d e).2

  body-child : Child t masks widths true W r d
  body-child = (at-for t masks widths 0 r Y a b c d e).3

  pub body-read : Child t masks widths true W r d
  body-read = body-child

  -- the width that the code reads
  pub for-second : (w : ℕ) → w ≡ get_or widths (d - 1) 0 → Child t masks widths true w r d
  for-second w ew = subst (λ (z : ℕ). Child t masks widths true z r d) (sym (ew ∙ (at-for t masks widths 0 r Y a b c d e).4)) body-child

  admitted : AdmittedE (for_e a b (exp_of t c) (body_of t d))
  admitted = (at-for t masks widths 0 r Y a b c d e).1

  pub for-low : a + b ≤ 32
  for-low = admitted.1.1

  abbrev Md : ℕ
  Md = get_or masks (d - 1) 0

  abbrev A : Graph
  A = graph_e (exp_of t c)

  abbrev B : Graph
  B = graph_b W (body_of t d)

  abbrev both : ℕ
  both = bit_and (get_or masks (c - 1) 0) (outside Md a b)

  body_is : Md ≡ mask (free B)
  body_is = body-child.masked ∙ mask-cong (free_b (body_of t d)) (free B) (λ i _. sym (child-has t masks widths true W r d body-child i))

  body-small : Small (free B)
  body-small i l = child-has t masks widths true W r d body-child i ∙ child-small t masks widths true W r d body-child i l

  body-names : length (list_of Md) ≡ total (free B)
  body-names = ap (length {A = ℕ}) (list-is Md (free B) body_is ∙ sym (listed_small (free B) body-small)) ∙ listed-length (free B)

  pub body-some : 1 ≤ length (list_of Md)
  body-some =
      let s = some_in true W t d body-child.ready.fits in
      some-listed Md (free_b (body_of t d)) body-child.masked s.0 s.1 (child-small t masks widths true W r d body-child)

  abbrev pub behindStart : ℕ
  behindStart = operator_count B + ((total (free B) - 1) + total (free B))

  abbrev loopNames : Names
  loopNames = common (free A) (without (free B) (member_of (up_from a b)))

  pub for-split : (n m : ℕ) → Room n m (operator_count (graph_in false 0 t r)) → Split A loopNames both behindStart n m
  for-split n m room =
      split-loop A B (free_e (exp_of t c)) (free_b (body_of t d)) (child-has t masks widths false 0 r c for-first) (child-has t masks widths true W r d body-child)
      (child-small t masks widths false 0 r c for-first) (get_or masks (c - 1) 0) Md for-first.masked body-child.masked a b for-low (operator_count (graph_in false 0 t r)) n m room
      (ap operator_count (at-for t masks widths 0 r Y a b c d e).0)

  pub room-start : (n m : ℕ) → Room n m behindStart → n ≤ 3105
  room-start n m room = omega (arith, room.1)

  -- room for the body, whose names' links come first
  pub room-body : (w n m k : ℕ) → w ≡ get_or widths (d - 1) 0 → k ≡ length (list_of Md) → Room n m behindStart → (n ≤ 3105) × Room (n + k) m (operator_count (graph_in true w t d))
  room-body w n m k ew ek room =
      subst (λ (z : ℕ). (n ≤ 3105) × Room (n + k) m (operator_count (graph_b z (body_of t d)))) (sym (ew ∙ (at-for t masks widths 0 r Y a b c d e).4))
      (numbers (operator_count B) (total (free B)) n m k (ek ∙ body-names) (let s : 1 ≤ length (list_of Md) = body-some in omega (arith, body-names)) room)
    where
      numbers : (q s n m k : ℕ) → k ≡ s → 1 ≤ s → Room n m (q + ((s - 1) + s)) → (n ≤ 3105) × Room (n + k) m q
      numbers q s n m k u v h = (omega (arith, h.1), (omega (arith, h.0), omega (arith, h.1)))

  module _ (w n m k : ℕ) (en mem mem' : List ℕ) (y : Emitted) (ew : w ≡ get_or widths (d - 1) 0) (ek : k ≡ length (list_of Md)) (dy : Part true w t d (n + k) m en mem mem' y) where
    body-done : Gives B (n + k) m en mem mem' y
    body-done = subst (λ (z : ℕ). Gives (graph_b z (body_of t d)) (n + k) m en mem mem' y) (ew ∙ (at-for t masks widths 0 r Y a b c d e).4) dy.done

    body-count : y.count ≡ suc (b + returned_outputs W (body_of t d))
    body-count =
        counted-B W t d (n + k) m en mem mem' y body-child.ready.fits body-done
        ∙ ap (λ (z : ℕ). suc (z + returned_outputs W (body_of t d))) (for-fits a b (exp_of t c) (body_of t d) admitted.0.0).1

    -- what closing the loop needs
    pub room-ring : Room n m behindStart → ((1 + b ≤ y.count) × (y.count ≤ 33)) × (y.next.operator + (2 * length (list_of Md) - 1) ≤ 1024) × (y.next.link ≤ 3105)
    room-ring room =
        numbers (operator_count B) (total (free B)) (links_of B) n m k y.next.link y.next.operator y.count (returned_outputs W (body_of t d)) (length (list_of Md)) (ek ∙ body-names) body-names body-some
        room (done-links B (n + k) m en mem mem' y.outs y.count y.next.link y.next.operator body-done)
        (done-operators B (n + k) m en mem mem' y.outs y.count y.next.link y.next.operator body-done) (three-links B) body-count
        (subst (λ (z : ℕ). z ≤ 16) (for-fits a b (exp_of t c) (body_of t d) admitted.0.0).1 (iterated-16 (body_of t d) admitted.3))
        (omega (arith, returned-outputs-le W (body_of t d), body-child.ready.fits.1.at_most))
      where
        numbers : (q s L n m k l o c R len : ℕ) → k ≡ s → len ≡ s → 1 ≤ len → Room n m (q + ((s - 1) + s)) → l ≡ n + k + L → o ≡ m + q → L ≤ 3 * q → c ≡ suc (b + R) → b ≤ 16 → R ≤ 16
            → ((1 + b ≤ c) × (c ≤ 33)) × (o + (2 * len - 1) ≤ 1024) × (l ≤ 3105)
        numbers q s L n m k l o c R len ek el h room f g i j u v =
            ((omega arith, omega arith), omega (arith, room.0), omega (arith, room.1))

    pub for-part : (n₀ m₀ n₁ m₁ ids : ℕ) (e₀ mem₀ mem₁ mem₅ first second : List ℕ) (x z : Emitted) → length e₀ ≡ 33 → Room n₀ m₀ (operator_count (graph_in false 0 t r))
        → Forked both n₀ m₀ e₀ mem₀ mem₁ first second n₁ m₁ → Part false 0 t c n₁ m₁ first mem₁ mem x → n ≡ x.next.link → m ≡ x.next.operator → Numbered Md n en
        → Closed Md a b e₀ second en mem' mem₅ x y z → Part false 0 t r n₀ m₀ e₀ mem₀ mem₅ z
    for-part n₀ m₀ n₁ m₁ ids e₀ mem₀ mem₁ mem₅ first second x z len room F dx en' em hn h =
        record {
          done =
              done-as (loop (up_from a b) A B) (graph_in false 0 t r) n₀ m₀ e₀ mem₀ mem₅ z.outs z.count z.next.link z.next.operator (at-for t masks widths 0 r Y a b c d e).0
              (done-loop a b A B both Md (2 ^ a * (2 ^ b - 1)) n₀ m₀ e₀ mem₀ mem₁ mem mem' h.middle mem₅ first second en x.outs y.outs h.controls h.again h.iterated h.started
              z.outs n₁ m₁ n m y.next.link y.next.operator x.count y.count z.count z.next.link (y.next.operator + (length (list_of Md) - 1)) z.next.operator len for-low
              (for-split n₀ m₀ room).small (for-split n₀ m₀ room).is F
              (subst (λ (i : ℕ). Done A n₁ m₁ first mem₁ mem x.outs x.count i m) (sym en')
              (subst (λ (i : ℕ). Done A n₁ m₁ first mem₁ mem x.outs x.count x.next.link i) (sym em) dx.done))
              (counted-E 0 t c n₁ m₁ first mem₁ mem x for-first.ready.fits dx.done ∙ (for-fits a b (exp_of t c) (body_of t d) admitted.0.0).0)
              body-small body_is (sym (mask-range a b (omega (arith, for-low)))) hn
              (subst (λ (i : ℕ). Done B (n + i) m en mem mem' y.outs y.count y.next.link y.next.operator) ek body-done) (omega (arith, body-count)) h.chained h.ends refl h.taken
              h.iterated-is h.started-is h.ringed h.count h.outs h.links h.operators);
          iterates = λ q. absurd (false≢true q);
        }
