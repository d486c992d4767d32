-- What the if of src/lib needs and gives, in both places: the copies for the arms, both arms behind their gates, and the joins (maker_laid/specs/DoneIf).
-- Assumes of a row what maker_laid/specs/Nodes says of it.
use Prim.Native.Nat.{ℕ, ◌+◌, ◌-◌, ◌*◌, ◌≤◌, ◌<◌}
use mathlib.Core.Path.{◌≡◌, sym, ap, ◌∙◌, subst}
use mathlib.Core.Bool.{Bool, true, false, ◌&&◌, ◌||◌}
use mathlib.Core.List.{List, [], ◌∷◌}
use lib.ListN.{length, get_or}
use lib.Bits.{bit_and, bit_or}
use borrow.Author.Tests.{ne_eqb}
use native.Mathlib.Omega.{arith}
use Rattle.machine_layout.specs.Record.{placed}
use Rattle.names.specs.Names.{Names, union, common, without, mask, size}
use Rattle.names.proofs.Sets.{mask-cong, known-union, known-common}
use Rattle.formula.specs.declared.Shape.TheVariants.{If}
use Rattle.formula.specs.Sheet.{shape_at}
use Rattle.formula.specs.Tree.{if_b, exp_of, body_of, body_node}
use Rattle.formula.proofs.TreeLaws.{body-as}
use Rattle.formula.specs.Widths.{width, iterated}
use Rattle.formula.specs.Free.{free_e}
use Rattle.theory_yields.specs.Naming.{Small, Apart}
use Rattle.theory_yields.proofs.Naming.{different-up_from, up_from-holds, below-up_from}
use Rattle.theory_yields.specs.Choice.{From}
use Rattle.theory_yields.proofs.Choice.{or-none}
use Rattle.theory_yields.proofs.FreeNames.{merge-joins, results-from-test}
use Rattle.theory_yields.proofs.Joins.{merge-control}
use Rattle.theory_yields.proofs.BodyWidths.{wide_enough, not-too-wide}
use Rattle.theory_yields.proofs.ArmNames.{arm-from-test, arm-different, arms-apart, narrow, joined-lacks, joined-test}
use Rattle.graph.specs.Fit.{Different}
use Rattle.graph.specs.Assembly.{Graph, T, free, member_of}
use Rattle.graph.specs.Translation.{graph_e, test_name, returned_name, arm}
use Rattle.theory_wiring.proofs.ChoiceCounts.{choice-count}
use Rattle.maker_laid.specs.Masked.{list_of, Mask, list_length}
use Rattle.maker_laid.specs.Emitted.{copy_record}
use Rattle.maker_laid.specs.Counts.{operator_count}
use Rattle.maker_laid.specs.Nodes.{graph_in, free_in, some_in, Ready, Child, ArmsFit, sideNames, join_of, choice_of, at-if}
use Rattle.maker_laid.specs.Choices.{Parts, armsPart, lastPart, arms-free, arms-share}
use Rattle.maker_laid.specs.Done.{Done, Forked, done-as}
use Rattle.maker_laid.specs.DoneIf.{done-choice}
use Rattle.maker_joins.specs.declared.Emitted.{Emitted}
use Rattle.maker_parts.specs.Room.{Room, room-less, room_of, room-forked, count_same}
use Rattle.maker_parts.specs.Parts.{JoinNeeds, JoinGives}
use Rattle.maker_rows.specs.Rows.{Part, Armed}
use Rattle.maker_rows.proofs.Splits.{Split, child-has, child-small, counted-E, long_of, fit-in, some-listed}
use Rattle.maker_rows.proofs.Joining.{ArmCounts, arm-counts, join-needs, join-laid, join-count, join-iterates, test-one, names-first, names-second}

-- ---- an if in its place

module _ (t masks widths : List ℕ) (p : Bool) (w r a b c : ℕ) (Y : Ready t masks widths p w r) (e : shape_at t r ≡ If a b c) where
  pub if-test : Child t masks widths false 0 r a
  if-test = (at-if t masks widths p w r Y a b c e).2

  pub if-first : Child t masks widths p w r b
  if-first = (at-if t masks widths p w r Y a b c e).3

  pub if-second : Child t masks widths p w r c
  if-second = (at-if t masks widths p w r Y a b c e).4

  abbrev TG : Graph
  TG = graph_e (exp_of t a)

  abbrev NS : List ℕ
  NS = sideNames t masks widths p true w b c

  abbrev MS : List ℕ
  MS = sideNames t masks widths p false w b c

  abbrev JG : Graph
  JG = join_of t masks widths p w b c

  abbrev Ma : ℕ
  Ma = get_or masks (a - 1) 0

  abbrev Mb : ℕ
  Mb = get_or masks (b - 1) 0

  abbrev Mc : ℕ
  Mc = get_or masks (c - 1) 0

  from_first : (q : Bool) → ArmsFit t masks widths q w a b c → From 34 (sideNames t masks widths q true w b c)
  from_first false h = results-from-test true (width (exp_of t b))
  from_first true h = arm-from-test true w (body_of t b)

  from_second : (q : Bool) → ArmsFit t masks widths q w a b c → From 34 (sideNames t masks widths q false w b c)
  from_second false h = results-from-test false (width (exp_of t b))
  from_second true h = arm-from-test false w (body_of t c)

  joins-only : (q : Bool) → ArmsFit t masks widths q w a b c → (k : ℕ) → (k ≡ test_name → ⊥) → member_of (sideNames t masks widths q true w b c) k ≡ false
      → member_of (sideNames t masks widths q false w b c) k ≡ false → free (join_of t masks widths q w b c) k ≡ false
  joins-only false h = merge-joins (width (exp_of t b))
  joins-only true h = joined-lacks w (exp_of t a) (body_of t b) (body_of t c) h.0

  joins-test : (q : Bool) → ArmsFit t masks widths q w a b c → free (join_of t masks widths q w b c) test_name ≡ true
  joins-test false h = merge-control test_name returned_name (width (exp_of t b)) (wide_enough (exp_of t b) h.2)
  joins-test true h = joined-test w (exp_of t a) (body_of t b) (body_of t c) h.0

  different-first : (q : Bool) → ArmsFit t masks widths q w a b c → Different (sideNames t masks widths q true w b c)
  different-first false h = different-up_from 51 (width (exp_of t b)) (let z : width (exp_of t b) ≤ 16 = not-too-wide (exp_of t b) h.2 in omega arith)
  different-first true h = arm-different true w (body_of t b) (narrow w (body_of t b) h.0.2 h.1.at_most)

  different-second : (q : Bool) → ArmsFit t masks widths q w a b c → Different (sideNames t masks widths q false w b c)
  different-second false h = different-up_from 84 (width (exp_of t b)) (let z : width (exp_of t b) ≤ 16 = not-too-wide (exp_of t b) h.2 in omega arith)
  different-second true h = arm-different false w (body_of t c) (narrow w (body_of t c) h.0.3 h.1.at_most)

  sides_apart : (q : Bool) → ArmsFit t masks widths q w a b c → Apart (sideNames t masks widths q true w b c) (sideNames t masks widths q false w b c)
  sides_apart false h k i =
      let z : width (exp_of t b) ≤ 16 = not-too-wide (exp_of t b) h.2 in
      let u : (51 ≤ k) × (k < 51 + width (exp_of t b)) = up_from-holds 51 (width (exp_of t b)) k i in
      below-up_from 84 (width (exp_of t b)) k (omega (arith, u.1))
  sides_apart true h k i = arms-apart w (body_of t b) (body_of t c) (narrow w (body_of t b) h.0.2 h.1.at_most) k i

  fit : ArmsFit t masks widths p w a b c
  fit = (at-if t masks widths p w r Y a b c e).1

  P : Parts NS (free_in p t b) (graph_in p w t b) MS (free_in p t c) (graph_in p w t c) JG
  P =
      record {
        small-f = child-small t masks widths p w r b if-first;
        small-g = child-small t masks widths p w r c if-second;
        has-f = child-has t masks widths p w r b if-first;
        has-g = child-has t masks widths p w r c if-second;
        some-f = (some_in p w t b if-first.ready.fits).0;
        in_f = (some_in p w t b if-first.ready.fits).1;
        some-g = (some_in p w t c if-second.ready.fits).0;
        in_g = (some_in p w t c if-second.ready.fits).1;
        from-ns = from_first p fit;
        from-ms = from_second p fit;
        joins = joins-only p fit;
        tests = joins-test p fit;
      }

  abbrev X : Names
  X = without (free (armsPart NS (free_in p t b) (graph_in p w t b) MS (free_in p t c) (graph_in p w t c) JG)) (member_of (test_name ∷ []))

  -- the masks of the names shared
  test-shares : bit_and Ma (bit_or Mb Mc) ≡ mask (common (free TG) (union (free_in p t b) (free_in p t c)))
  test-shares =
      known-common Ma (bit_or Mb Mc) (free_e (exp_of t a)) (union (free_in p t b) (free_in p t c)) if-test.masked
      (known-union Mb Mc (free_in p t b) (free_in p t c) if-first.masked if-second.masked)
      ∙ mask-cong (common (free_e (exp_of t a)) (union (free_in p t b) (free_in p t c))) (common (free TG) (union (free_in p t b) (free_in p t c)))
      (λ i _. ap (λ (z : Bool). z && union (free_in p t b) (free_in p t c) i) (sym (child-has t masks widths false 0 r a if-test i)))

  test-is : bit_and Ma (bit_or Mb Mc) ≡ mask (common (free TG) X)
  test-is =
      test-shares
      ∙ mask-cong (common (free TG) (union (free_in p t b) (free_in p t c))) (common (free TG) X)
      (λ i _. ap (λ (z : Bool). free TG i && z) (sym (arms-free NS (free_in p t b) (graph_in p w t b) MS (free_in p t c) (graph_in p w t c) JG P i)))

  test-small : Small (common (free TG) X)
  test-small i l = ap (λ (z : Bool). z && X i) (child-has t masks widths false 0 r a if-test i ∙ child-small t masks widths false 0 r a if-test i l)

  arms-shares : bit_and Mb Mc ≡ mask (common (free_in p t b) (free_in p t c))
  arms-shares = known-common Mb Mc (free_in p t b) (free_in p t c) if-first.masked if-second.masked

  abbrev Both : Names
  Both = common (free (arm T (free_in p t b) (graph_in p w t b)))
      (without (free (lastPart NS (free_in p t b) (graph_in p w t b) MS (free_in p t c) (graph_in p w t c) JG)) (member_of NS))

  arms-is : bit_and Mb Mc ≡ mask Both
  arms-is =
      arms-shares
      ∙ mask-cong (common (free_in p t b) (free_in p t c)) Both
      (λ i l.
      sym (arms-share NS (free_in p t b) (graph_in p w t b) MS (free_in p t c) (graph_in p w t c) JG P i
      ∙ ap (λ (z : Bool). common (free_in p t b) (free_in p t c) i || z) (ne_eqb test_name i (λ (z : test_name ≡ i). omega arith))
      ∙ or-none (common (free_in p t b) (free_in p t c) i)))

  -- ---- the room

  abbrev pub behindFirst : ℕ
  behindFirst = 1 + ((2 * length (list_of Mc) - 1 + operator_count (graph_in p w t c)) + operator_count JG)

  abbrev pub behindTest : ℕ
  behindTest = length (list_of (bit_and Mb Mc)) + (1 + ((2 * length (list_of Mb) - 1 + operator_count (graph_in p w t b)) + behindFirst))

  some-names : (k : ℕ) (f : Names) → k ≡ mask f → (x : ℕ) → f x ≡ true → Small f → 1 ≤ length (list_of k)
  some-names k f is x i s = some-listed k f is x i s

  pub first_some : 1 ≤ length (list_of Mb)
  first_some = some-names Mb (free_in p t b) if-first.masked P.some-f P.in_f P.small-f

  pub second-some : 1 ≤ length (list_of Mc)
  second-some = some-names Mc (free_in p t c) if-second.masked P.some-g P.in_g P.small-g

  sums : (q s₁ s₂ f g u x y z : ℕ) → 1 ≤ f → 1 ≤ g → q ≡ s₁ + s₂ + (f + g + (f + g + (u + (x + (y + z))))) → q ≡ s₁ + (u + (s₂ + (1 + ((2 * f - 1 + x) + (1 + ((2 * g - 1 + y) + z))))))
  sums q s₁ s₂ f g u x y z l h e = omega arith

  counts : operator_count (graph_in p w t r) ≡ length (list_of (bit_and Ma (bit_or Mb Mc))) + (operator_count TG + behindTest)
  counts =
      sums _ (length (list_of (bit_and Ma (bit_or Mb Mc)))) (length (list_of (bit_and Mb Mc))) (length (list_of Mb)) (length (list_of Mc)) (operator_count TG) (operator_count (graph_in p w t b))
      (operator_count (graph_in p w t c)) (operator_count JG) first_some second-some
      (ap operator_count (at-if t masks widths p w r Y a b c e).0 ∙ sym (count_same (choice_of t masks widths p w a b c))
      ∙ (choice-count TG NS (free_in p t b) (graph_in p w t b) MS (free_in p t c) (graph_in p w t c) JG
      (λ i l. child-has t masks widths false 0 r a if-test i ∙ child-small t masks widths false 0 r a if-test i l) P.small-f P.small-g P.has-f P.has-g P.from-ns P.from-ms
      P.joins P.tests).0
      ∙ (λ i. sizes₁ i + sizes₂ i + (sizes_b i + sizes_c i + (sizes_b i + sizes_c i + (count_same TG i + (count_same (graph_in p w t b) i + (count_same (graph_in p w t c) i + count_same JG i)))))))
    where
      sizes₁ : size (common (free TG) (union (free_in p t b) (free_in p t c))) ≡ length (list_of (bit_and Ma (bit_or Mb Mc)))
      sizes₁ = sym (list_length (bit_and Ma (bit_or Mb Mc)) (common (free TG) (union (free_in p t b) (free_in p t c))) test-shares)

      sizes₂ : size (common (free_in p t b) (free_in p t c)) ≡ length (list_of (bit_and Mb Mc))
      sizes₂ = sym (list_length (bit_and Mb Mc) (common (free_in p t b) (free_in p t c)) arms-shares)

      sizes_b : size (free_in p t b) ≡ length (list_of Mb)
      sizes_b = sym (list_length Mb (free_in p t b) if-first.masked)

      sizes_c : size (free_in p t c) ≡ length (list_of Mc)
      sizes_c = sym (list_length Mc (free_in p t c) if-second.masked)

  pub if-split : (n m : ℕ) → Room n m (operator_count (graph_in p w t r)) → Split TG (common (free TG) X) (bit_and Ma (bit_or Mb Mc)) behindTest n m
  if-split n m room = record { is = test-is; small = test-small; room = room_of n m _ _ counts room }

  pub arms-mask : (v : ℕ) → v ≡ bit_and Mb Mc → Mask v
  arms-mask v q = record { set = common (free_in p t b) (free_in p t c); is = q ∙ arms-shares }

  pub arms-room : (v n m : ℕ) → v ≡ bit_and Mb Mc → Room n m behindTest → Room n m (length (list_of v))
  arms-room v n m q room = subst (λ (z : ℕ). Room n m (length (list_of z))) (sym q) (room-less n m _ behindTest (omega arith) room)

  pub room-first : (en mem mem₁ first second : List ℕ) (n m n₁ m₁ : ℕ) → Room n m behindTest → Forked (bit_and Mb Mc) n m en mem mem₁ first second n₁ m₁
      → (m₁ < 1024) × (n₁ ≤ 3000 + 105) × Room (n₁ + 2) (m₁ + 1) (2 * length (list_of Mb) - 1 + operator_count (graph_in p w t b))
      × (m₁ + 1 + (2 * length (list_of Mb) - 1 + operator_count (graph_in p w t b) + behindFirst) ≤ 1024)
      × (n₁ + 2 + 3 * (2 * length (list_of Mb) - 1 + operator_count (graph_in p w t b) + behindFirst) ≤ 3105)
  room-first en mem mem₁ first second n m n₁ m₁ room F =
      numbers (2 * length (list_of Mb) - 1 + operator_count (graph_in p w t b)) behindFirst n₁ m₁
      (room-forked (bit_and Mb Mc) n m en mem mem₁ first second n₁ m₁ (1 + ((2 * length (list_of Mb) - 1 + operator_count (graph_in p w t b)) + behindFirst)) F room)
    where
      numbers : (x y i j : ℕ) → Room i j (1 + (x + y)) → (j < 1024) × (i ≤ 3000 + 105) × Room (i + 2) (j + 1) x × (j + 1 + (x + y) ≤ 1024) × (i + 2 + 3 * (x + y) ≤ 3105)
      numbers x y i j k = (omega (arith, k.0), omega (arith, k.1), (omega (arith, k.0), omega (arith, k.1)), omega (arith, k.0), omega (arith, k.1))

  -- behind an arm
  pub room-between : (n m n₁ m₁ x : ℕ) → m + (x + behindFirst) ≤ 1024 → n + 3 * (x + behindFirst) ≤ 3105 → m₁ ≡ m + x → n₁ ≤ n + 3 * x
      → (m₁ < 1024) × (n₁ ≤ 3000 + 105) × Room (n₁ + 2) (m₁ + 1) (2 * length (list_of Mc) - 1 + operator_count (graph_in p w t c))
      × (m₁ + 1 + (2 * length (list_of Mc) - 1 + operator_count (graph_in p w t c) + operator_count JG) ≤ 1024)
      × (n₁ + 2 + 3 * (2 * length (list_of Mc) - 1 + operator_count (graph_in p w t c) + operator_count JG) ≤ 3105)
  room-between n m n₁ m₁ x h k e l = numbers (2 * length (list_of Mc) - 1 + operator_count (graph_in p w t c)) (operator_count JG) n m n₁ m₁ x h k e l
    where
      numbers : (y j n m n₁ m₁ x : ℕ) → m + (x + (1 + (y + j))) ≤ 1024 → n + 3 * (x + (1 + (y + j))) ≤ 3105 → m₁ ≡ m + x → n₁ ≤ n + 3 * x
          → (m₁ < 1024) × (n₁ ≤ 3000 + 105) × Room (n₁ + 2) (m₁ + 1) y × (m₁ + 1 + (y + j) ≤ 1024) × (n₁ + 2 + 3 * (y + j) ≤ 3105)
      numbers y j n m n₁ m₁ x h k e l = (omega arith, omega arith, (omega arith, omega arith), omega arith, omega arith)

  pub room-joins : (n m n₁ m₁ x : ℕ) → m + (x + operator_count JG) ≤ 1024 → n + 3 * (x + operator_count JG) ≤ 3105 → m₁ ≡ m + x → n₁ ≤ n + 3 * x
      → Room n₁ m₁ (operator_count JG)
  room-joins n m n₁ m₁ x h k e l = numbers (operator_count JG) n m n₁ m₁ x h k e l
    where
      numbers : (j n m n₁ m₁ x : ℕ) → m + (x + j) ≤ 1024 → n + 3 * (x + j) ≤ 3105 → m₁ ≡ m + x → n₁ ≤ n + 3 * x → Room n₁ m₁ j
      numbers j n m n₁ m₁ x h k e l = (omega arith, omega arith)

-- ---- the whole if

module _ (t masks widths : List ℕ) (p : Bool) (w r a b c : ℕ) (Y : Ready t masks widths p w r) (e : shape_at t r ≡ If a b c) where
  pub first-counts : (control n m : ℕ) (en mem mem' : List ℕ) (x : Emitted) → Armed true p w t masks b control n m en mem mem' x → ArmCounts p w t b x
  first-counts control n m en mem mem' x h = arm-counts p w t b x (if-first t masks widths p w r a b c Y e).ready.fits h.iterates h.armed.counted

  pub second-counts : (control n m : ℕ) (en mem mem' : List ℕ) (x : Emitted) → Armed false p w t masks c control n m en mem mem' x → ArmCounts p w t c x
  second-counts control n m en mem mem' x h = arm-counts p w t c x (if-second t masks widths p w r a b c Y e).ready.fits h.iterates h.armed.counted

  pub if-needs : (c₁ n₁ m₁ c₂ n₂ m₂ n m : ℕ) (e₁ mem₁ mem₁' e₂ mem₂ mem₂' : List ℕ) (x y : Emitted) → Armed true p w t masks b c₁ n₁ m₁ e₁ mem₁ mem₁' x
      → Armed false p w t masks c c₂ n₂ m₂ e₂ mem₂ mem₂' y → Room n m (operator_count (join_of t masks widths p w b c)) → JoinNeeds p w n m x y
  if-needs c₁ n₁ m₁ c₂ n₂ m₂ n m e₁ mem₁ mem₁' e₂ mem₂ mem₂' x y hx hy room =
      join-needs t masks widths w a b c p (fit t masks widths p w r a b c Y e) n m x y (first-counts c₁ n₁ m₁ e₁ mem₁ mem₁' x hx) (second-counts c₂ n₂ m₂ e₂ mem₂ mem₂' y hy) room

  if-iterated : iterated (body_of t r) ≡ iterated (if_b (exp_of t a) (body_of t b) (body_of t c))
  unfolding body_node
  if-iterated = ap iterated (body-as t Y.read.rows Y.read.named r Y.low Y.high (If a b c) e)

  pub if-part : (n m : ℕ) (en mem mem₁ mem₂ mem₃ mem₄ mem₅ mem₆ mem₇ mem₈ first second left right : List ℕ) (n₁ m₁ n₃ m₃ : ℕ) (x y z v : Emitted) → length en ≡ 33 → length second ≡ 33
      → Room n m (operator_count (graph_in p w t r))
      → Forked (bit_and (get_or masks (a - 1) 0) (bit_or (get_or masks (b - 1) 0) (get_or masks (c - 1) 0))) n m en mem mem₁ first second n₁ m₁ → Part false 0 t a n₁ m₁ first mem₁ mem₂ x
      → Forked (bit_and (get_or masks (b - 1) 0) (get_or masks (c - 1) 0)) x.next.link x.next.operator second mem₂ mem₃ left right n₃ m₃
      → mem₄ ≡ placed mem₃ m₃ (copy_record (get_or x.outs 0 0) n₃ (n₃ + 1)) → Armed true p w t masks b n₃ (n₃ + 2) (m₃ + 1) left mem₄ mem₅ y
      → mem₆ ≡ placed mem₅ y.next.operator (copy_record (n₃ + 1) y.next.link (y.next.link + 1))
      → Armed false p w t masks c y.next.link (y.next.link + 2) (y.next.operator + 1) right mem₆ mem₇ z → JoinGives p w (y.next.link + 1) z.next.link z.next.operator mem₇ mem₈ y z v
      → Part p w t r n m en mem mem₈ v
  if-part n m en mem mem₁ mem₂ mem₃ mem₄ mem₅ mem₆ mem₇ mem₈ first second left right n₁ m₁ n₃ m₃ x y z v len len₂ room F dx F₂ h₄ ay h₆ az g =
      record {
        done =
            done-as (choice_of t masks widths p w a b c) (graph_in p w t r) n m en mem mem₈ v.outs v.count v.next.link v.next.operator (at-if t masks widths p w r Y a b c e).0
            (done-choice (graph_e (exp_of t a)) (sideNames t masks widths p true w b c) (free_in p t b) (graph_in p w t b) (sideNames t masks widths p false w b c) (free_in p t c) (graph_in p w t c)
            (join_of t masks widths p w b c) (P t masks widths p w r a b c Y e) (different-first t masks widths p w r a b c Y e p fits) (different-second t masks widths p w r a b c Y e p fits)
            (sides_apart t masks widths p w r a b c Y e p fits) (bit_and (get_or masks (a - 1) 0) (bit_or (get_or masks (b - 1) 0) (get_or masks (c - 1) 0)))
            (bit_and (get_or masks (b - 1) 0) (get_or masks (c - 1) 0)) n m en mem mem₁ mem₂ mem₃ mem₄ mem₅ mem₆ mem₇ mem₈ first second left right x.outs y.outs z.outs v.outs
            n₁ m₁ x.next.link x.next.operator n₃ m₃ y.next.link y.next.operator z.next.link z.next.operator v.next.link v.next.operator y.count z.count v.count len len₂
            (test-small t masks widths p w r a b c Y e) (test-is t masks widths p w r a b c Y e) (arms-is t masks widths p w r a b c Y e) F
            (subst (λ (k : ℕ). Done (graph_e (exp_of t a)) n₁ m₁ first mem₁ mem₂ x.outs k x.next.link x.next.operator) one dx.done)
            (let l : x.count ≤ length x.outs = long_of (graph_e (exp_of t a)) n₁ m₁ first mem₁ mem₂ x.outs x.count x.next.link x.next.operator (fit-in false 0 t a (if-test t masks widths p w r a b c Y e).ready.fits) dx.done in omega (arith, one))
            F₂ h₄ ay.armed (names-first t masks widths w a b c p fits y cy) ay.long h₆ az.armed (names-second t masks widths w a b c p fits z cz) az.long
            (join-laid t masks widths w a b c p fits (y.next.link + 1) z.next.link z.next.operator mem₇ mem₈ y z v cy cz g)
            (join-count t masks widths w a b c p fits (y.next.link + 1) z.next.link z.next.operator mem₇ mem₈ y z v cy cz g));
        iterates = λ q. join-iterates t masks widths w a b c p fits (y.next.link + 1) z.next.link z.next.operator mem₇ mem₈ y z v cy cz g q ∙ sym if-iterated;
      }
    where
      fits : ArmsFit t masks widths p w a b c
      fits = fit t masks widths p w r a b c Y e

      one : x.count ≡ 1
      one = counted-E 0 t a n₁ m₁ first mem₁ mem₂ x (if-test t masks widths p w r a b c Y e).ready.fits dx.done ∙ test-one t masks widths w a b c p fits

      cy : ArmCounts p w t b y
      cy = first-counts n₃ (n₃ + 2) (m₃ + 1) left mem₄ mem₅ y ay

      cz : ArmCounts p w t c z
      cz = second-counts y.next.link (y.next.link + 2) (y.next.operator + 1) right mem₆ mem₇ z az
