-- The joins of an if, from what maker_parts wrote and gave for both arms, in both places (maker_laid/specs/Joined; graph/specs/Translation: merge_row, joined).
-- Assumes of the arms what an admitted formula gives.
use Prim.Native.Nat.{ℕ, zero, suc, ◌+◌, ◌-◌, ◌*◌, ◌≤◌, ◌<◌}
use mathlib.Core.Path.{◌≡◌, refl, sym, ap, ap₂, ◌∙◌, subst}
use mathlib.Core.Bool.{Bool, true, false, cond, false≢true}
use mathlib.Core.List.{List, [], ◌∷◌, ◌++◌}
use lib.ListN.{length, get_or, take, drop}
use lib.Dec.{ltb}
use borrow.Author.Tests.{ne_eqb, lt-ltb}
use native.Mathlib.Omega.{arith}
use Rattle.formula.specs.Tree.{Body, if_e, if_b, exp_of, body_of}
use Rattle.formula.specs.Widths.{width, iterated, either}
use Rattle.formula.specs.Count.{returns, iterates}
use Rattle.formula.specs.Admitted.{AdmittedB}
use Rattle.meaning.proofs.WidthLaws.{if-fits, if-fits-B}
use Rattle.theory_yields.proofs.Naming.{length-up_from}
use Rattle.theory_yields.proofs.BodyWidths.{wide_enough, not-too-wide, iterated-16, iterated-some, iterated-none, iterates-some, iterated-both, iterated-outputs, returned-outputs, returned-outputs-none, returned-outputs-le}
use Rattle.theory_yields.specs.BodyWidths.{iterated_outputs, returned_outputs}
use Rattle.theory_yields.proofs.ArmNames.{arm-names, length-arm-names}
use Rattle.theory_yields.specs.ArmNames.{iterated_names, returned_names}
use Rattle.theory_yields.proofs.FitGraphs.{count-E, count-B}
use Rattle.graph.specs.Yields.{output_count}
use Rattle.graph.specs.Assembly.{Graph, Env, up_from}
use Rattle.graph.specs.Translation.{graph_e, graph_b, test_name, iter_name, iterated_name, returned_name, arm_names, merge_row, joined}
use Rattle.maker_laid.specs.Counts.{operator_count, merge-count}
use Rattle.maker_laid.specs.Laid.{Laid}
use Rattle.maker_laid.specs.Nodes.{graph_in, FitsIn, ArmsFit, sideNames, join_of}
use Rattle.maker_laid.specs.Joined.{join_graph, joined_is}
use Rattle.maker_laid.specs.Results.{Reads}
use Rattle.maker_laid.specs.DoneIf.{NamesHave}
use Rattle.maker_joins.specs.declared.Emitted.{Emitted}
use Rattle.maker_parts.specs.Room.{Room, room_of}
use Rattle.maker_parts.specs.Parts.{JoinNeeds, JoinGives, BodyArms, back_of, join_of as joinBy}

-- ---- places of a list

up_at : (s k i : ℕ) → i < k → get_or (up_from s k) i 0 ≡ s + i
unfolding up_from
up_at s zero i l = absurd (omega arith)
up_at s (suc k) zero l = omega arith
up_at s (suc k) (suc i) l = let h : get_or (up_from (suc s) k) i 0 ≡ suc s + i = up_at (suc s) k i (omega arith) in h ∙ omega arith

front_at : (xs ys : List ℕ) (i : ℕ) → i < length xs → get_or (xs ++ ys) i 0 ≡ get_or xs i 0
front_at [] ys i l = absurd (omega arith)
front_at (x ∷ xs) ys zero l = refl
front_at (x ∷ xs) ys (suc i) l = front_at xs ys i (omega arith)

back_at : (xs ys : List ℕ) (k i : ℕ) → length xs ≡ k → get_or (xs ++ ys) (k + i) 0 ≡ get_or ys i 0
back_at [] ys k i e = ap (λ (z : ℕ). get_or ys z 0) (omega arith)
back_at (x ∷ xs) ys zero i e = absurd (omega arith)
back_at (x ∷ xs) ys (suc k) i e = let z : suc k + i ≡ suc (k + i) = omega arith in rw z (back_at xs ys k i (omega arith))

drop_at : (xs : List ℕ) (k i : ℕ) → get_or (drop k xs) i 0 ≡ get_or xs (k + i) 0
drop_at xs zero i = ap (λ (z : ℕ). get_or xs z 0) (omega arith)
drop_at [] (suc k) i = refl
drop_at (x ∷ xs) (suc k) i = let z : suc k + i ≡ suc (k + i) = omega arith in rw z (drop_at xs k i)

-- ---- names that have an array's links

reads_up : (ε : Env) (s k : ℕ) (ls : List ℕ) → NamesHave ε (up_from s k) ls → Reads ε s k ls
reads_up ε s k ls h i l = ap ε (sym (up_at s k i l)) ∙ h i (let z : length (up_from s k) ≡ k = length-up_from s k in omega arith)

module _ (ε : Env) (side : Bool) (w : ℕ) (x : Body) (ls : List ℕ) (h : NamesHave ε (arm_names side w x) ls) where
  I : ℕ
  I = iterated_outputs x

  R : ℕ
  R = returned_outputs w x

  length-I : length (iterated_names side x) ≡ I
  unfolding I
  length-I = length-up_from (iterated_name side) (iterated_outputs x)

  have : (i : ℕ) → i < suc (I + R) → ε (get_or (iter_name side ∷ (iterated_names side x ++ returned_names side w x)) i 0) ≡ get_or ls i 0
  unfolding I R
  have i l = ap (λ (ns : List ℕ). ε (get_or ns i 0)) (sym (arm-names side w x)) ∙ h i (let z : length (arm_names side w x) ≡ suc (iterated_outputs x + returned_outputs w x) = length-arm-names side w x in omega arith)

  pub arm-iter : ε (iter_name side) ≡ get_or ls 0 0
  arm-iter = have 0 (omega arith)

  pub arm-iterated : (k : ℕ) → k ≡ iterated_outputs x → Reads ε (iterated_name side) k (drop 1 ls)
  unfolding I
  arm-iterated k e i l =
      ap ε (sym (front_at (iterated_names side x) (returned_names side w x) i (let z : length (iterated_names side x) ≡ I = length-I in omega arith) ∙ up_at (iterated_name side) (iterated_outputs x) i (omega arith)))
      ∙ have (suc i) (omega arith) ∙ ap (λ (z : ℕ). get_or ls z 0) (omega arith) ∙ sym (drop_at ls 1 i)

  pub arm-returned : (k j : ℕ) → k ≡ iterated_outputs x → j ≡ returned_outputs w x → Reads ε (returned_name side) j (drop (1 + k) ls)
  unfolding I R
  arm-returned k j e f i l =
      ap ε (sym (back_at (iterated_names side x) (returned_names side w x) k i (length-I ∙ sym e) ∙ up_at (returned_name side) (returned_outputs w x) i (omega arith)))
      ∙ have (suc (k + i)) (omega arith) ∙ ap (λ (z : ℕ). get_or ls z 0) (omega arith) ∙ sym (drop_at ls (1 + k) i)

-- ---- widths of arms

iterates-is : (y : Body) → AdmittedB y → ltb 0 (iterated y) ≡ iterates y
iterates-is y h = go (iterates y) refl
  where
    go : (b : Bool) → iterates y ≡ b → ltb 0 (iterated y) ≡ b
    go true e = lt-ltb 0 (iterated y) (let z : 1 ≤ iterated y = iterated-some y h e in omega arith)
    go false e = ap (ltb 0) (iterated-none y e)

returns_is : (w : ℕ) (y : Body) → 1 ≤ w → ltb 0 (returned_outputs w y) ≡ returns y
returns_is w y h = go (returns y) refl
  where
    go : (b : Bool) → returns y ≡ b → ltb 0 (returned_outputs w y) ≡ b
    go true e = ap (ltb 0) (returned-outputs w y e) ∙ lt-ltb 0 w (omega arith)
    go false e = ap (ltb 0) (returned-outputs-none w y e)

returns-w : (w : ℕ) (y : Body) → 0 < returned_outputs w y → returned_outputs w y ≡ w
returns-w w y h = go (returns y) refl
  where
    go : (b : Bool) → returns y ≡ b → returned_outputs w y ≡ w
    go true e = returned-outputs w y e
    go false e = absurd (let z : returned_outputs w y ≡ 0 = returned-outputs-none w y e in omega arith)

either_is : (i j : ℕ) → cond (ltb 0 i) i j ≡ either i j
either_is zero j = refl
either_is (suc i) j = ap (λ (b : Bool). cond b (suc i) j) (lt-ltb 0 (suc i) (omega arith)) ∙ sym (ap (λ (b : Bool). cond b j (suc i)) (ne_eqb (suc i) 0 (λ z. omega arith)))

-- ---- the joins

-- what both arms gave, in an expression place and in a body place
abbrev pub ArmCounts : Bool → ℕ → List ℕ → ℕ → Emitted → Type 0
ArmCounts false w t k x = x.count ≡ width (exp_of t k)
ArmCounts true w t k x = (x.iterated ≡ iterated (body_of t k)) × (x.count ≡ suc (iterated (body_of t k) + returned_outputs w (body_of t k)))

pub arm-counts : (p : Bool) (w : ℕ) (t : List ℕ) (k : ℕ) (x : Emitted) → FitsIn p w t k → (p ≡ true → x.iterated ≡ iterated (body_of t k)) → x.count ≡ output_count (graph_in p w t k)
    → ArmCounts p w t k x
arm-counts false w t k x h i c = c ∙ count-E (exp_of t k) h
arm-counts true w t k x h i c = (
  i refl,
  c ∙ count-B w (body_of t k) h.0 h.1 ∙ ap (λ (j : ℕ). suc (j + returned_outputs w (body_of t k))) (iterated-outputs (body_of t k)),
)

module _ (t masks widths : List ℕ) (w a b c : ℕ) where
  abbrev pub Fits : Bool → Type 0
  Fits q = ArmsFit t masks widths q w a b c

  back_is : (k : ℕ) (x : Emitted) → ArmCounts true w t k x → back_of x ≡ returned_outputs w (body_of t k)
  back_is k x h = numbers x.count x.iterated (iterated (body_of t k)) (returned_outputs w (body_of t k)) h.1 h.0
    where
      numbers : (c i j q : ℕ) → c ≡ suc (j + q) → i ≡ j → c - (1 + i) ≡ q
      numbers c i j q u v = omega arith

  same-joins : Fits true → (x y : Emitted) → ArmCounts true w t b x → ArmCounts true w t c y → joinBy w x y ≡ joined w (body_of t b) (body_of t c)
  same-joins h x y u v =
      (λ i.
      join_graph (first i) (second i) (third i) (fourth i) (u.0 i) (v.0 i) w)
      ∙ sym (joined_is w (body_of t b) (body_of t c))
    where
      first : ltb 0 x.iterated ≡ iterates (body_of t b)
      first = ap (ltb 0) u.0 ∙ iterates-is (body_of t b) h.0.2

      second : ltb 0 y.iterated ≡ iterates (body_of t c)
      second = ap (ltb 0) v.0 ∙ iterates-is (body_of t c) h.0.3

      third : ltb 0 (back_of x) ≡ returns (body_of t b)
      third = ap (ltb 0) (back_is b x u) ∙ returns_is w (body_of t b) h.1.some-width

      fourth : ltb 0 (back_of y) ≡ returns (body_of t c)
      fourth = ap (ltb 0) (back_is c y v) ∙ returns_is w (body_of t c) h.1.some-width

  body-arms : Fits true → (n m : ℕ) (x y : Emitted) → ArmCounts true w t b x → ArmCounts true w t c y → Room n m (operator_count (joined w (body_of t b) (body_of t c))) → BodyArms w n m x y
  body-arms h n m x y u v room =
      record {
        first = sizes x.count x.iterated (iterated (body_of t b)) (returned_outputs w (body_of t b)) u.1 u.0 (iterated-16 (body_of t b) h.0.2) (small (body_of t b));
        second = sizes y.count y.iterated (iterated (body_of t c)) (returned_outputs w (body_of t c)) v.1 v.0 (iterated-16 (body_of t c) h.0.3) (small (body_of t c));
        width = (h.1.some-width, h.1.at_most);
        narrow = (subst (λ (z : ℕ). z ≤ 16) (sym u.0) (iterated-16 (body_of t b) h.0.2), subst (λ (z : ℕ). z ≤ 16) (sym v.0) (iterated-16 (body_of t c) h.0.3));
        iterate = λ i j. u.0 ∙ iterated-both (exp_of t a) (body_of t b) (body_of t c) h.0 (iterates-some (body_of t b) (omega (arith, u.0))) (iterates-some (body_of t c) (omega (arith, v.0))) ∙ sym v.0;
        returns = λ i. back_is b x u ∙ returns-w w (body_of t b) (subst (λ (z : ℕ). 0 < z) (back_is b x u) i);
        returns' = λ i. back_is c y v ∙ returns-w w (body_of t c) (subst (λ (z : ℕ). 0 < z) (back_is c y v) i);
        room = room_of n m _ _ (ap operator_count (sym (same-joins h x y u v))) room;
      }
    where
      small : (z : Body) → returned_outputs w z ≤ 16
      small z = omega (arith, returned-outputs-le w z, h.1.at_most)

      sizes : (c i j q : ℕ) → c ≡ suc (j + q) → i ≡ j → j ≤ 16 → q ≤ 16 → (1 + i ≤ c) × (c ≤ 33)
      sizes c i j q e f k l = (omega arith, omega arith)

  pub join-needs : (q : Bool) → Fits q → (n m : ℕ) (x y : Emitted) → ArmCounts q w t b x → ArmCounts q w t c y → Room n m (operator_count (join_of t masks widths q w b c))
      → JoinNeeds q w n m x y
  join-needs false h n m x y u v room =
      let l : 1 ≤ width (exp_of t b) = wide_enough (exp_of t b) h.2 in
      let k : width (exp_of t b) ≤ 16 = not-too-wide (exp_of t b) h.2 in (
        (omega (arith, u), omega (arith, u)),
        room_of n m _ _ ((merge-count (width (exp_of t b)) k).2 ∙ ap (λ (z : ℕ). 2 * z - 1) (sym u)) room,
      )
  join-needs true h n m x y u v room = body-arms h n m x y u v room

  -- the joins laid out for the names of both arms
  pub join-laid : (q : Bool) → Fits q → (test n m : ℕ) (mem mem' : List ℕ) (x y z : Emitted) → ArmCounts q w t b x → ArmCounts q w t c y → JoinGives q w test n m mem mem' x y z
      → (ε : Env) → ε test_name ≡ test → NamesHave ε (sideNames t masks widths q true w b c) x.outs → NamesHave ε (sideNames t masks widths q false w b c) y.outs
      → Laid (join_of t masks widths q w b c) n m ε mem mem' (take z.count z.outs) z.next.link z.next.operator
  join-laid false h test n m mem mem' x y z u v g ε et hx hy =
      subst (λ (k : ℕ). Laid (merge_row test_name returned_name k) n m ε mem mem' (take z.count z.outs) z.next.link z.next.operator) u
      (g.1 ε et (subst (λ (k : ℕ). Reads ε 51 k x.outs) (sym u) (reads_up ε 51 (width (exp_of t b)) x.outs hx))
      (subst (λ (k : ℕ). Reads ε 84 k y.outs) (sym u) (reads_up ε 84 (width (exp_of t b)) y.outs hy)))
  join-laid true h test n m mem mem' x y z u v g ε et hx hy =
      subst (λ (G : Graph). Laid G n m ε mem mem' (take z.count z.outs) z.next.link z.next.operator) (same-joins h x y u v)
      (g.2 ε et
      (record {
        iter? = arm-iter ε true w (body_of t b) x.outs hx;
        iterated = arm-iterated ε true w (body_of t b) x.outs hx x.iterated (u.0 ∙ sym (iterated-outputs (body_of t b)));
        returned = arm-returned ε true w (body_of t b) x.outs hx x.iterated (back_of x) (u.0 ∙ sym (iterated-outputs (body_of t b))) (back_is b x u);
      })
      (record {
        iter? = arm-iter ε false w (body_of t c) y.outs hy;
        iterated = arm-iterated ε false w (body_of t c) y.outs hy y.iterated (v.0 ∙ sym (iterated-outputs (body_of t c)));
        returned = arm-returned ε false w (body_of t c) y.outs hy y.iterated (back_of y) (v.0 ∙ sym (iterated-outputs (body_of t c))) (back_is c y v);
      }))

  joined-iterated : Fits true → (test n m : ℕ) (mem mem' : List ℕ) (x y z : Emitted) → ArmCounts true w t b x → ArmCounts true w t c y → JoinGives true w test n m mem mem' x y z
      → z.iterated ≡ iterated (if_b (exp_of t a) (body_of t b) (body_of t c))
  unfolding iterated
  joined-iterated h test n m mem mem' x y z u v g =
      g.0 ∙ ap₂ (λ (i j : ℕ). cond (ltb 0 i) i j) u.0 v.0 ∙ either_is (iterated (body_of t b)) (iterated (body_of t c))

  pub join-count : (q : Bool) → Fits q → (test n m : ℕ) (mem mem' : List ℕ) (x y z : Emitted) → ArmCounts q w t b x → ArmCounts q w t c y → JoinGives q w test n m mem mem' x y z
      → z.count ≡ output_count (join_of t masks widths q w b c)
  unfolding output_count graph_e graph_b width returns
  join-count false h test n m mem mem' x y z u v g = g.0 ∙ u ∙ sym (count-E (if_e (exp_of t a) (exp_of t b) (exp_of t c)) h)
  join-count true h test n m mem mem' x y z u v g =
      let i : z.iterated ≡ iterated (if_b (exp_of t a) (body_of t b) (body_of t c)) = joined-iterated h test n m mem mem' x y z u v g in
      let k : output_count (graph_b w (if_b (exp_of t a) (body_of t b) (body_of t c))) ≡ suc (iterated_outputs (if_b (exp_of t a) (body_of t b) (body_of t c)) + returned_outputs w (if_b (exp_of t a) (body_of t b) (body_of t c))) =
      count-B w (if_b (exp_of t a) (body_of t b) (body_of t c)) h.0 h.1
      in
      let j : iterated_outputs (if_b (exp_of t a) (body_of t b) (body_of t c)) ≡ iterated (if_b (exp_of t a) (body_of t b) (body_of t c)) = iterated-outputs (if_b (exp_of t a) (body_of t b) (body_of t c)) in
      let l : returned_outputs w (if_b (exp_of t a) (body_of t b) (body_of t c)) ≡ w = returned-outputs w (if_b (exp_of t a) (body_of t b) (body_of t c)) refl in
      numbers z.count z.iterated _ _ _ _ g.1 i k j l
    where
      numbers : (c i I o O R : ℕ) → c ≡ 1 + i + w → i ≡ I → o ≡ suc (O + R) → O ≡ I → R ≡ w → c ≡ o
      numbers c i I o O R p q r s u = omega arith

  pub join-iterates : (q : Bool) → Fits q → (test n m : ℕ) (mem mem' : List ℕ) (x y z : Emitted) → ArmCounts q w t b x → ArmCounts q w t c y → JoinGives q w test n m mem mem' x y z
      → q ≡ true → z.iterated ≡ iterated (if_b (exp_of t a) (body_of t b) (body_of t c))
  join-iterates false h test n m mem mem' x y z u v g e = absurd (false≢true e)
  join-iterates true h test n m mem mem' x y z u v g e = joined-iterated h test n m mem mem' x y z u v g

  pub test-one : (q : Bool) → Fits q → width (exp_of t a) ≡ 1
  test-one false h = (if-fits (exp_of t a) (exp_of t b) (exp_of t c) h.0.0).0
  test-one true h = (if-fits-B (exp_of t a) (body_of t b) (body_of t c) h.0.0.0).0

  pub names-first : (q : Bool) → Fits q → (x : Emitted) → ArmCounts q w t b x → x.count ≡ length (sideNames t masks widths q true w b c)
  names-first false h x u = u ∙ sym (length-up_from 51 (width (exp_of t b)))
  names-first true h x u =
      u.1 ∙ ap (λ (z : ℕ). suc (z + returned_outputs w (body_of t b))) (sym (iterated-outputs (body_of t b))) ∙ sym (length-arm-names true w (body_of t b))

  pub names-second : (q : Bool) → Fits q → (x : Emitted) → ArmCounts q w t c x → x.count ≡ length (sideNames t masks widths q false w b c)
  names-second false h x u = u ∙ sym (if-fits (exp_of t a) (exp_of t b) (exp_of t c) h.0.0).1 ∙ sym (length-up_from 84 (width (exp_of t b)))
  names-second true h x u =
      u.1 ∙ ap (λ (z : ℕ). suc (z + returned_outputs w (body_of t c))) (sym (iterated-outputs (body_of t c))) ∙ sym (length-arm-names false w (body_of t c))
