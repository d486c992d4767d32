-- What each function of src/lib needs and gives, by the kind of its row: pairs, lets, bodies that end, and rows of one operator. Assumes of a row
-- what maker_laid/specs/Nodes says of it.
use Prim.Native.Nat.{ℕ, ◌+◌, ◌-◌, ◌*◌, ◌^◌, ◌≤◌, ◌<◌}
use mathlib.Core.Path.{◌≡◌, refl, sym, ap, ◌∙◌, subst}
use mathlib.Core.Bool.{Bool, true, false, cond, ◌||◌, false≢true}
use mathlib.Core.List.{List, ◌++◌}
use lib.ListN.{length, get_or, take}
use lib.Bits.{bit_and}
use native.Mathlib.Omega.{arith}
use lib.Dec.{eqb}
use Rattle.value.specs.declared.Value.{Value}
use Rattle.value.specs.declared.Value.TheVariants.{Truth as truth-value}
use Rattle.value.specs.Operators.{operands, pick}
use Rattle.names.specs.Names.{Names, trigger, one, common, without, range, mask}
use Rattle.names.proofs.Sets.{mask_one, known-union, known-minus, mask-range}
use Rattle.formula.specs.declared.Shape.{Shape}
use Rattle.formula.specs.declared.Shape.TheVariants.{Identifier, Constant, Pair, Operator, Let, If, For, Iter}
use Rattle.formula.specs.Constants.{constant_value}
use Rattle.formula.specs.Sheet.{shape_at, named_in}
use Rattle.formula.specs.Ways.{way_of}
use Rattle.formula.specs.Tree.{Exp, exp_of, body_of, exp_node, body_node}
use Rattle.formula.specs.TreeLaws.{AllBetween}
use Rattle.formula.proofs.TreeLaws.{exp-as, body-as, between-as}
use Rattle.formula.specs.Widths.{width, iterated}
use Rattle.formula.specs.Free.{free_e, free_b}
use Rattle.meaning.proofs.WidthLaws.{operator-fits}
use Rattle.theory_yields.specs.Choice.{Has}
use Rattle.theory_yields.proofs.FreeNames.{free-E, small-trigger}
use Rattle.theory_yields.proofs.BodyWidths.{not-too-wide}
use Rattle.graph.specs.Yields.{output_count}
use Rattle.graph.specs.Assembly.{Graph, beside, bind, gate, oper, free, member_of, up_from, gate_outputs}
use Rattle.graph.specs.Translation.{graph_e, graph_b, constant_of}
use Rattle.sheet_tables.specs.Masks.{plain_mask, outside, Ranged}
use Rattle.maker_laid.specs.Masked.{list_of}
use Rattle.maker_laid.specs.Emitted.{assigned}
use Rattle.maker_laid.specs.Counts.{operator_count}
use Rattle.maker_laid.specs.Nodes.{graph_in, free_in, Ready, Child, Ends, at-identifier, at_constant, at_pair, at-operator, at-let, at-iteration, at-end, at-for}
use Rattle.maker_laid.specs.Done.{Done, Forked, done-as, done-beside, done-let}
use Rattle.maker_joins.specs.declared.Emitted.{Emitted}
use Rattle.formula.specs.declared.Way.{Way}
use Rattle.formula.specs.declared.Way.TheVariants.{Let as let-way, If as if-way, Iter as iter-way, End}
use Rattle.maker_parts.specs.Room.{Room, room_of, room-less, room-behind}
use Rattle.maker_parts.specs.Ranges.{list-range}
use Rattle.maker_parts.specs.Parts.{Gives, Applied, done-applied}
use Rattle.maker_rows.specs.Rows.{Part, Ended, end_graph}
use Rattle.maker_rows.proofs.Splits.{Split, split-beside, split-bind, child-has, child-small, counted-E, fit-in, long_of}

-- ---- the row behind a way

abbrev Shaped : List ℕ → List ℕ → List ℕ → Shape → Way → Type 0
Shaped t masks widths s (let-way a b c d) = s ≡ Let a b c d
Shaped t masks widths s (if-way a b c) = s ≡ If a b c
Shaped t masks widths s (iter-way a) = s ≡ Iter a
Shaped t masks widths s End = Ends t masks widths s

shaped : (t masks widths : List ℕ) (s : Shape) → Shaped t masks widths s (way_of s)
shaped t masks widths (Identifier a) = tt
shaped t masks widths (Constant k a) = tt
shaped t masks widths (Pair a b) = tt
shaped t masks widths (Operator a b) = tt
shaped t masks widths (Let a b c d) = refl
shaped t masks widths (If a b c) = refl
shaped t masks widths (For a b c d) = tt
shaped t masks widths (Iter a) = refl

pub shaped-as : (t masks widths : List ℕ) (s : Shape) (w : Way) → w ≡ way_of s → Shaped t masks widths s w
shaped-as t masks widths s w e = subst (Shaped t masks widths s) (sym e) (shaped t masks widths s)

-- ---- the measure

pub by_place : (p : Bool) → (2 ≤ cond p 4 2) × (cond p 4 2 ≤ 4)
by_place true = (omega arith, omega arith)
by_place false = (omega arith, omega arith)

module _ (t masks widths : List ℕ) where
  pub row_inside : (p : Bool) (w r : ℕ) → Ready t masks widths p w r → (1 ≤ r) × (5 * r ≤ length t) × (r ≤ length masks) × (r ≤ length widths)
  row_inside p w r Y = (
    Y.low,
    omega (arith, Y.high, Y.read.long),
    omega (arith, Y.high, Y.read.masks-long),
    omega (arith, Y.high, Y.read.widths-long),
  )

  -- ---- pairs

  module _ (r a b : ℕ) (Y : Ready t masks widths false 0 r) (e : shape_at t r ≡ Pair a b) where
    pub pair-first : Child t masks widths false 0 r a
    pair-first = (at_pair t masks widths 0 r Y a b e).2

    pub pair-second : Child t masks widths false 0 r b
    pair-second = (at_pair t masks widths 0 r Y a b e).3

    abbrev pairNames : Names
    pairNames = common (free (graph_e (exp_of t a))) (free (graph_e (exp_of t b)))

    pub pair-split : (n m : ℕ) → Room n m (operator_count (graph_in false 0 t r))
        → Split (graph_e (exp_of t a)) pairNames (bit_and (get_or masks (a - 1) 0) (get_or masks (b - 1) 0)) (operator_count (graph_e (exp_of t b))) n m
    pair-split n m room =
        split-beside (graph_e (exp_of t a)) (graph_e (exp_of t b)) (free_e (exp_of t a)) (free_e (exp_of t b)) (child-has t masks widths false 0 r a pair-first)
        (child-has t masks widths false 0 r b pair-second) (child-small t masks widths false 0 r a pair-first) (get_or masks (a - 1) 0) (get_or masks (b - 1) 0)
        pair-first.masked pair-second.masked (operator_count (graph_in false 0 t r)) n m room (ap operator_count (at_pair t masks widths 0 r Y a b e).0)

    pub pair-part : (n m : ℕ) (en mem mem₁ mem₂ mem₃ first second outs : List ℕ) (n₁ m₁ : ℕ) (x y : Emitted) → length en ≡ 33
        → Room n m (operator_count (graph_in false 0 t r))
        → Forked (bit_and (get_or masks (a - 1) 0) (get_or masks (b - 1) 0)) n m en mem mem₁ first second n₁ m₁
        → Part false 0 t a n₁ m₁ first mem₁ mem₂ x → Part false 0 t b x.next.link x.next.operator second mem₂ mem₃ y
        → take (x.count + y.count) outs ≡ take x.count x.outs ++ take y.count y.outs
        → Done (graph_in false 0 t r) n m en mem mem₃ outs (x.count + y.count) y.next.link y.next.operator
    pair-part n m en mem mem₁ mem₂ mem₃ first second outs n₁ m₁ x y len room F dx dy eo =
        done-as (beside (graph_e (exp_of t a)) (graph_e (exp_of t b))) (graph_in false 0 t r) n m en mem mem₃ outs (x.count + y.count) y.next.link y.next.operator
        (at_pair t masks widths 0 r Y a b e).0
        (done-beside (graph_e (exp_of t a)) (graph_e (exp_of t b)) (bit_and (get_or masks (a - 1) 0) (get_or masks (b - 1) 0)) n m en mem mem₁ mem₂ mem₃ first second x.outs y.outs outs
        n₁ m₁ x.next.link x.next.operator y.next.link y.next.operator x.count y.count (x.count + y.count) len (pair-split n m room).small (pair-split n m room).is F dx.done dy.done
        refl eo)

  -- ---- lets

  module _ (p : Bool) (w r a b c d : ℕ) (Y : Ready t masks widths p w r) (e : shape_at t r ≡ Let a b c d) where
    pub let-first : Child t masks widths false 0 r c
    let-first = (at-let t masks widths p w r Y a b c d e).3

    pub let-second : Child t masks widths p w r d
    let-second = (at-let t masks widths p w r Y a b c d e).4

    pub let-low : a + b ≤ 32
    let-low = (at-let t masks widths p w r Y a b c d e).1.1

    abbrev letMask : ℕ
    letMask = bit_and (get_or masks (c - 1) 0) (outside (get_or masks (d - 1) 0) a b)

    abbrev letNames : Names
    letNames = common (free (graph_e (exp_of t c))) (without (free (graph_in p w t d)) (member_of (up_from a b)))

    pub let-split : (n m : ℕ) → Room n m (operator_count (graph_in p w t r)) → Split (graph_e (exp_of t c)) letNames letMask (operator_count (graph_in p w t d)) n m
    let-split n m room =
        split-bind (graph_e (exp_of t c)) (graph_in p w t d) (free_e (exp_of t c)) (free_in p t d) (child-has t masks widths false 0 r c let-first)
        (child-has t masks widths p w r d let-second) (child-small t masks widths false 0 r c let-first) (get_or masks (c - 1) 0) (get_or masks (d - 1) 0)
        let-first.masked let-second.masked a b let-low (operator_count (graph_in p w t r)) n m room (ap operator_count (at-let t masks widths p w r Y a b c d e).0)

    let-iterated : iterated (body_of t r) ≡ iterated (body_of t d)
    unfolding body_node iterated
    let-iterated = ap iterated (body-as t Y.read.rows Y.read.named r Y.low Y.high (Let a b c d) e)

    pub let-part : (n m ids : ℕ) (en mem mem₁ mem₂ mem₃ first second inner : List ℕ) (n₁ m₁ : ℕ) (x y : Emitted) → length en ≡ 33 → length second ≡ 33
        → Room n m (operator_count (graph_in p w t r)) → Forked letMask n m en mem mem₁ first second n₁ m₁ → Part false 0 t c n₁ m₁ first mem₁ mem₂ x
        → ids ≡ 2 ^ a * (2 ^ b - 1) → inner ≡ assigned (list_of ids) x.outs second → Part p w t d x.next.link x.next.operator inner mem₂ mem₃ y
        → Part p w t r n m en mem mem₃ y
    let-part n m ids en mem mem₁ mem₂ mem₃ first second inner n₁ m₁ x y len len₂ room F dx ei eg dy =
        record {
          done =
              done-as (bind (up_from a b) (graph_e (exp_of t c)) (graph_in p w t d)) (graph_in p w t r) n m en mem mem₃ y.outs y.count y.next.link y.next.operator
              (at-let t masks widths p w r Y a b c d e).0
              (done-let a b (graph_e (exp_of t c)) (graph_in p w t d) letMask n m en mem mem₁ mem₂ mem₃ first second inner x.outs y.outs n₁ m₁ x.next.link x.next.operator y.next.link y.next.operator
              x.count y.count len len₂ let-low (let-split n m room).small (let-split n m room).is F dx.done
              (counted-E 0 t c n₁ m₁ first mem₁ mem₂ x let-first.ready.fits dx.done ∙ (at-let t masks widths p w r Y a b c d e).2)
              (eg ∙ ap (λ (xs : List ℕ). assigned xs x.outs second) (list-range a b ids (omega (arith, let-low)) ei)) dy.done);
          iterates = λ q. dy.iterates q ∙ sym let-iterated;
        }

  -- ---- a body that ends

  module _ (b : Bool) (k : ℕ) (Y : Ready t masks widths false 0 k) (u : ℕ) (eu : u ≡ mask (free_e (exp_of t k))) where
    abbrev endNames : Names
    endNames = common (free (constant_of (truth-value b))) (free (graph_e (exp_of t k)))

    constant-has : Has (constant_of (truth-value b)) (one trigger)
    unfolding free
    constant-has i = refl

    pub end-split : (n m : ℕ) → Room n m (operator_count (end_graph b t k))
        → Split (constant_of (truth-value b)) endNames (bit_and 4294967296 u) (operator_count (graph_e (exp_of t k))) n m
    end-split n m room =
        split-beside (constant_of (truth-value b)) (graph_e (exp_of t k)) (one trigger) (free_e (exp_of t k)) constant-has (free-E (exp_of t k) Y.fits) small-trigger 4294967296 u
        (sym (mask_one 32 (omega arith))) eu (operator_count (end_graph b t k)) n m room refl

    pub end-part : (n m i : ℕ) (en mem mem₁ mem₂ mem₃ first second outs : List ℕ) (n₁ m₁ : ℕ) (x y : Emitted) → length en ≡ 33
        → Room n m (operator_count (end_graph b t k)) → Forked (bit_and 4294967296 u) n m en mem mem₁ first second n₁ m₁
        → Gives (constant_of (truth-value b)) n₁ m₁ first mem₁ mem₂ x → Part false 0 t k x.next.link x.next.operator second mem₂ mem₃ y
        → take (1 + y.count) outs ≡ take 1 x.outs ++ take y.count y.outs → i ≡ cond b y.count 0
        → Ended b t k n m en mem mem₃ (record { outs = outs; count = 1 + y.count; iterated = i; next = y.next })
    unfolding output_count gate_outputs
    end-part n m i en mem mem₁ mem₂ mem₃ first second outs n₁ m₁ x y len room F dx dy eo ei =
        record {
          done =
              done-beside (constant_of (truth-value b)) (graph_e (exp_of t k)) (bit_and 4294967296 u) n m en mem mem₁ mem₂ mem₃ first second x.outs y.outs outs n₁ m₁ x.next.link x.next.operator
              y.next.link y.next.operator x.count y.count (1 + y.count) len (end-split n m room).small (end-split n m room).is F dx dy.done
              (ap (λ (z : ℕ). z + y.count) (sym dx.counted)) (eo ∙ ap (λ (z : ℕ). take z x.outs ++ take y.count y.outs) (sym dx.counted));
          iterates = ei ∙ ap (λ (z : ℕ). cond b z 0) (counted-E 0 t k x.next.link x.next.operator second mem₂ mem₃ y Y.fits dy.done);
        }

  pub end-constant-room : (b : Bool) (n m : ℕ) → Room n m (operator_count (constant_of (truth-value b))) → Room n m 1
  unfolding operator_count
  end-constant-room b n m r = r

  -- ---- a body's row as an ending

  module _ (w r : ℕ) (Y : Ready t masks widths true w r) where
    module _ (a : ℕ) (e : shape_at t r ≡ Iter a) where
      pub iter-child : Child t masks widths false 0 r a
      iter-child = (at-iteration t masks widths w r Y a e).1

      iter-graph : graph_in true w t r ≡ end_graph true t a
      unfolding graph_b
      iter-graph = ap (graph_b w) (at-iteration t masks widths w r Y a e).0

      pub iter-room : (n m : ℕ) → Room n m (operator_count (graph_in true w t r)) → Room n m (operator_count (end_graph true t a))
      iter-room n m room = room_of n m _ _ (ap operator_count iter-graph) room

      pub iter-part : (n m : ℕ) (en mem mem' : List ℕ) (x : Emitted) → Ended true t a n m en mem mem' x → Part true w t r n m en mem mem' x
      unfolding iterated
      iter-part n m en mem mem' x d =
          record {
            done = done-as (end_graph true t a) (graph_in true w t r) n m en mem mem' x.outs x.count x.next.link x.next.operator iter-graph d.done;
            iterates = λ q. d.iterates ∙ sym (ap iterated (at-iteration t masks widths w r Y a e).0);
          }

    module _ (h : Ends t masks widths (shape_at t r)) where
      pub return-ready : Ready t masks widths false 0 r
      return-ready = (at-end t masks widths w r Y h).1

      return-graph : graph_in true w t r ≡ end_graph false t r
      unfolding graph_b
      return-graph = ap (graph_b w) (at-end t masks widths w r Y h).0

      pub return-room : (n m : ℕ) → Room n m (operator_count (graph_in true w t r)) → Room n m (operator_count (end_graph false t r))
      return-room n m room = room_of n m _ _ (ap operator_count return-graph) room

      pub return-part : (n m : ℕ) (en mem mem' : List ℕ) (x : Emitted) → Ended false t r n m en mem mem' x → Part true w t r n m en mem mem' x
      unfolding iterated
      return-part n m en mem mem' x d =
          record {
            done = done-as (end_graph false t r) (graph_in true w t r) n m en mem mem' x.outs x.count x.next.link x.next.operator return-graph d.done;
            iterates = λ q. d.iterates ∙ sym (ap iterated (at-end t masks widths w r Y h).0);
          }

  -- ---- a part of an expression, by its graph

  pub part-E : (r n m : ℕ) (en mem mem' : List ℕ) (x : Emitted) (G : Graph) → graph_e (exp_of t r) ≡ G → Gives G n m en mem mem' x → Part false 0 t r n m en mem mem' x
  part-E r n m en mem mem' x G e d =
      record {
        done = done-as G (graph_e (exp_of t r)) n m en mem mem' x.outs x.count x.next.link x.next.operator e d;
        iterates = λ q. absurd (false≢true q);
      }

  pub room-E : (r n m : ℕ) (G : Graph) → graph_e (exp_of t r) ≡ G → Room n m (operator_count (graph_e (exp_of t r))) → Room n m (operator_count G)
  room-E r n m G e room = room_of n m _ _ (ap operator_count e) room

  pub few-results : (r n m : ℕ) (en mem mem' : List ℕ) (x : Emitted) → Ready t masks widths false 0 r → Part false 0 t r n m en mem mem' x → x.count ≤ 16
  few-results r n m en mem mem' x Y d =
      let c : x.count ≡ width (exp_of t r) = counted-E 0 t r n m en mem mem' x Y.fits d.done in
      let k : width (exp_of t r) ≤ 16 = not-too-wide (exp_of t r) Y.fits in
      omega arith

  -- ---- rows of one operator, and names

  module _ (r : ℕ) (Y : Ready t masks widths false 0 r) where
    pub constant-part : (k a : ℕ) → shape_at t r ≡ Constant k a → (v : Value) → v ≡ constant_value k a → (n m : ℕ) (en mem mem' : List ℕ) (x : Emitted) → Gives (constant_of v) n m en mem mem' x
        → Part false 0 t r n m en mem mem' x
    unfolding graph_e
    constant-part k a e v ev n m en mem mem' x d =
        part-E r n m en mem mem' x (constant_of v) ((at_constant t masks widths 0 r Y k a e).0 ∙ ap constant_of (sym ev)) d

    constant-count : (v : Value) → operator_count (constant_of v) ≡ 1
    unfolding operator_count
    constant-count v = refl

    pub constant-room : (k a : ℕ) → shape_at t r ≡ Constant k a → (n m : ℕ) → Room n m (operator_count (graph_in false 0 t r)) → Room n m 1
    unfolding graph_e
    constant-room k a e n m room = room_of n m 1 _ (ap operator_count (at_constant t masks widths 0 r Y k a e).0 ∙ constant-count (constant_value k a)) room

    module _ (code b : ℕ) (e : shape_at t r ≡ Operator code b) where
      pub operator-child : Child t masks widths false 0 r b
      operator-child = (at-operator t masks widths 0 r Y code b e).2

      operator-count : operator_count (graph_in false 0 t r) ≡ operator_count (graph_e (exp_of t b)) + 1
      unfolding operator_count
      operator-count = ap operator_count (at-operator t masks widths 0 r Y code b e).0

      pub operator-room : (n m : ℕ) → Room n m (operator_count (graph_in false 0 t r)) → Room n m (operator_count (graph_in false 0 t b))
      operator-room n m room = room-less n m _ (operator_count (graph_e (exp_of t b)) + 1) (omega arith) (room_of n m _ _ operator-count room)

      one-or-two : (k : ℕ) → (1 ≤ operands k) × (operands k ≤ 2)
      unfolding operands
      one-or-two k = go (eqb k 10 || eqb k 11)
        where
          go : (b : Bool) → (1 ≤ pick b 1 2) × (pick b 1 2 ≤ 2)
          go true = (omega arith, omega arith)
          go false = (omega arith, omega arith)

      pub operator-needs : (n m : ℕ) (en mem mem' : List ℕ) (x : Emitted) → Room n m (operator_count (graph_in false 0 t r)) → Part false 0 t b n m en mem mem' x
          → (code < 256) × ((1 ≤ x.count) × (x.count ≤ 2)) × (x.count ≤ length x.outs) × Room x.next.link x.next.operator 1
      operator-needs n m en mem mem' x room d =
          let h = (at-operator t masks widths 0 r Y code b e).1 in
          let c : x.count ≡ operands code = counted-E 0 t b n m en mem mem' x operator-child.ready.fits d.done ∙ operator-fits code (exp_of t b) h.0.0 in
          let o : (1 ≤ operands code) × (operands code ≤ 2) = one-or-two code in (
            omega (arith, h.1.1),
            (omega (arith, o.0), omega (arith, o.1)),
            long_of (graph_e (exp_of t b)) n m en mem mem' x.outs x.count x.next.link x.next.operator (fit-in false 0 t b operator-child.ready.fits) d.done,
            room-behind (graph_e (exp_of t b)) n m en mem mem' x.outs x.count x.next.link x.next.operator 1 d.done (room_of n m _ _ operator-count room),
          )

      pub operator-part : (n m : ℕ) (en mem mem₁ mem₂ : List ℕ) (x y : Emitted) → Part false 0 t b n m en mem mem₁ x → Applied code mem₁ mem₂ x y → Part false 0 t r n m en mem mem₂ y
      operator-part n m en mem mem₁ mem₂ x y d p =
          part-E r n m en mem mem₂ y (gate (oper code) (graph_e (exp_of t b))) (at-operator t masks widths 0 r Y code b e).0 (done-applied code (graph_e (exp_of t b)) n m en mem mem₁ mem₂ x y d.done p)

    -- ---- the mask of a row that ends a body

    module _ (h : Ends t masks widths (shape_at t r)) where
      pub plain-between : AllBetween r (named_in (shape_at t r))
      plain-between = between-as t Y.read.rows Y.read.named r Y.low Y.high (shape_at t r) refl

      pub plain-ranged : Ranged (shape_at t r)
      plain-ranged = go (shape_at t r) refl h
        where
          go : (s : Shape) → shape_at t r ≡ s → Ends t masks widths s → Ranged s
          go (Identifier a) e i = (at-identifier t masks widths 0 r Y a e).1
          go (Constant k a) e i = tt
          go (Pair a b) e i = tt
          go (Operator a b) e i = tt
          go (Let a b c d) e i = absurd i
          go (If a b c) e i = absurd i
          go (For a b c d) e i = (at-for t masks widths 0 r Y a b c d e).1.1.1
          go (Iter a) e i = absurd i

      pub plain-mask-is : plain_mask (λ k. get_or masks (k - 1) 0) (shape_at t r) ≡ mask (free_e (exp_of t r))
      unfolding plain_mask exp_node free_e
      plain-mask-is =
          go (shape_at t r) refl h ∙ ap (λ (x : Exp). mask (free_e x)) (sym (exp-as t Y.read.rows Y.read.named r Y.low Y.high (shape_at t r) refl))
        where
          go : (s : Shape) → shape_at t r ≡ s → Ends t masks widths s → plain_mask (λ k. get_or masks (k - 1) 0) s ≡ mask (free_e (exp_node (exp_of t) (body_of t) s))
          go (Identifier a) e i = sym (mask_one a (let l : a < 32 = (at-identifier t masks widths 0 r Y a e).1 in omega arith))
          go (Constant k a) e i = sym (mask_one 32 (omega arith))
          go (Pair a b) e i =
              known-union _ _ (free_e (exp_of t a)) (free_e (exp_of t b)) (at_pair t masks widths 0 r Y a b e).2.masked (at_pair t masks widths 0 r Y a b e).3.masked
          go (Operator a b) e i = (at-operator t masks widths 0 r Y a b e).2.masked
          go (Let a b c d) e i = absurd i
          go (If a b c) e i = absurd i
          go (For a b c d) e i =
              known-union _ _ (free_e (exp_of t c)) (without (free_b (body_of t d)) (range a b)) (at-for t masks widths 0 r Y a b c d e).2.masked
              (known-minus _ (2 ^ a * (2 ^ b - 1)) (free_b (body_of t d)) (range a b) (at-for t masks widths 0 r Y a b c d e).3.masked
              (sym (mask-range a b (let l : a + b ≤ 32 = (at-for t masks widths 0 r Y a b c d e).1.1.1 in omega arith))))
          go (Iter a) e i = absurd i

  -- an expression's row asks nothing of the loop's width
  pub as-expression : (w r : ℕ) → Ready t masks widths false w r → Ready t masks widths false 0 r
  as-expression w r Y = record { read = Y.read; low = Y.low; high = Y.high; kids = Y.kids; fits = Y.fits }
