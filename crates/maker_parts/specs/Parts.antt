-- What the functions of src/lib write and give: one record a function, whose fields are what the laws of maker_laid (Done, DoneIf, DoneFor) ask for.
-- Document 01, "The graph". Assumes nothing.
use Rattle.std.specs.Prelude.{ℕ, zero, suc, ◌+◌, ◌-◌, ◌*◌, ◌^◌, ◌≤◌, ◌<◌, ◌≡◌, refl, Bool, true, false, cond, List, [], ◌∷◌, map, length, get_or, take, drop, ltb}
use Rattle.std.proofs.Common.{sym, ap, ap₂, ◌∙◌, subst, arith}
use Rattle.value.specs.declared.Value.{Value}
use Rattle.value.specs.Bytes.{word_of}
use Rattle.machine_layout.specs.Layout.{most_operators, most_links, no_link}
use Rattle.machine_layout.specs.Record.{placed}
use Rattle.machine_layout.specs.declared.Operator.{Operator as Record}
use Rattle.names.specs.Names.{Names, mask, size_from, names_in}
use Rattle.theory_yields.specs.Naming.{Small}
use Rattle.theory_yields.specs.Choice.{Has}
use Rattle.graph.specs.Assembly.{Graph, wire, gate, Gate, const, oper, T, F, Env, gate_outputs, gate_of, nth, up_from, chain, chain_ends, ring}
use Rattle.graph.specs.Translation.{constant_of, test_name, iterated_name, returned_name, merge_row}
use Rattle.maker_laid.specs.Encode.{encode, encoded, written}
use Rattle.maker_laid.specs.Emitted.{link_in, assigned, row_records, row_outputs, gate_record}
use Rattle.maker_laid.specs.Masked.{list_of}
use Rattle.maker_laid.specs.Counts.{operator_count}
use Rattle.maker_laid.specs.Laid.{Laid}
use Rattle.maker_laid.specs.GateRows.{Two, two-T, two-F}
use Rattle.maker_laid.specs.Done.{Done, done-gate, done-wire}
use Rattle.maker_laid.specs.DoneIf.{ArmDone, done-arm}
use Rattle.maker_laid.specs.Results.{Reads, ArmLinks, reads_same, merge-laid}
use Rattle.maker_laid.specs.Sharing.{lone-test}
use Rattle.maker_laid.specs.Joined.{join_graph}
use Rattle.maker_joins.specs.declared.Emitted.{Emitted}
use Rattle.maker_joins.specs.declared.Arm.{Arm}
use Rattle.maker_parts.specs.Room.{Room}

-- A graph as the code has written it, by what the code gave.
abbrev pub Gives : Graph → ℕ → ℕ → List ℕ → List ℕ → List ℕ → Emitted → Type 0
Gives G n m e mem mem' x = Done G n m e mem mem' x.outs x.count x.next.link x.next.operator

-- ---- constants and operators

-- "A constant takes one trigger"
abbrev pub constant_record : ℕ → ℕ → Value → Record
constant_record trigger n v =
    record { kind = 12; in1 = trigger; in2 = no_link; in3 = no_link; out1 = n; out2 = no_link; out3 = no_link; register = word_of v }

pub constant-encoded : (l n : ℕ) (v : Value) → encode (gate_of (const v) (l ∷ []) n) ≡ constant_record l n v
unfolding gate_of nth
constant-encoded l n v = refl

pub done-constant : (v : Value) (n m : ℕ) (e mem mem' outs : List ℕ) → mem' ≡ placed mem m (constant_record (get_or e 32 0) n v) → get_or outs 0 0 ≡ n → 1 ≤ length outs
    → Done (constant_of v) n m e mem mem' outs 1 (n + 1) (m + 1)
unfolding gate_outputs
done-constant v n m e mem mem' outs h o l =
    done-gate (const v) (wire 32) n m e mem mem mem' (get_or e 32 0 ∷ []) outs n m 1 1 (n + 1) (m + 1)
    (done-wire 32 n m e mem (get_or e 32 0 ∷ []) (omega arith) refl (omega arith))
    (h ∙ ap (placed mem m) (sym (constant-encoded (get_or e 32 0) n v))) refl refl o l refl refl

-- the second operand's link, where there is one
abbrev pub second_of : ℕ → List ℕ → ℕ
second_of count outs = cond (ltb 1 count) (get_or outs 1 0) no_link

pub operator-encoded : (c n count : ℕ) (outs : List ℕ) → 1 ≤ count → count ≤ 2 → count ≤ length outs
    → encode (gate_of (oper c) (take count outs) n) ≡ gate_record c (get_or outs 0 0) (second_of count outs) no_link n
unfolding gate_of nth
operator-encoded c n zero outs p q l = absurd (omega arith)
operator-encoded c n (suc zero) [] p q l = absurd (omega arith)
operator-encoded c n (suc zero) (x ∷ xs) p q l = refl
operator-encoded c n (suc (suc zero)) [] p q l = absurd (omega arith)
operator-encoded c n (suc (suc zero)) (x ∷ []) p q l = absurd (omega arith)
operator-encoded c n (suc (suc zero)) (x ∷ y ∷ xs) p q l = refl
operator-encoded c n (suc (suc (suc k))) outs p q l = absurd (omega arith)

-- An operator behind its operands x.
pub record Applied (code : ℕ) (mem mem' : List ℕ) (x y : Emitted) : Type 0 where
  pub memory : mem' ≡ placed mem x.next.operator (encode (gate_of (oper code) (take x.count x.outs) x.next.link))
  pub count : y.count ≡ 1
  pub link : get_or y.outs 0 0 ≡ x.next.link
  pub long : 1 ≤ length y.outs
  pub links : y.next.link ≡ x.next.link + 1
  pub operators : y.next.operator ≡ x.next.operator + 1

pub done-applied : (code : ℕ) (a : Graph) (n m : ℕ) (e mem mem₁ mem₂ : List ℕ) (x y : Emitted) → Gives a n m e mem mem₁ x → Applied code mem₁ mem₂ x y
    → Gives (gate (oper code) a) n m e mem mem₂ y
unfolding gate_outputs
done-applied code a n m e mem mem₁ mem₂ x y d p =
    done-gate (oper code) a n m e mem mem₁ mem₂ x.outs y.outs x.next.link x.next.operator x.count y.count y.next.link y.next.operator d p.memory refl p.count
    p.link p.long p.links p.operators

-- ---- an arm's gates

-- "a T gate on each free name of arm b and an F gate on each of arm c"
abbrev pub side_gate : Bool → Gate
side_gate true = T
side_gate false = F

abbrev pub side_kind : Bool → ℕ
side_kind true = 14
side_kind false = 15

pub two-side : (side : Bool) → Two (side_gate side) (side_kind side)
two-side true = two-T
two-side false = two-F

-- A gate on each name of a mask, and the names' links behind them.
pub record Gated (kind k control n m : ℕ) (e mem mem₁ inner : List ℕ) (n₁ m₁ : ℕ) : Type 0 where
  pub names : List ℕ
  pub none : List ℕ
  pub outs : List ℕ
  pub gathered : take (length (list_of k)) names ≡ map (link_in e) (list_of k)
  pub nowhere : (i : ℕ) → i < 33 → get_or none i 0 ≡ no_link
  pub memory : mem₁ ≡ written mem m (row_records kind control n names none 0 (length (list_of k)))
  pub gives : take (length (list_of k)) outs ≡ row_outputs n (length (list_of k))
  pub links : n₁ ≡ n + (3 * length (list_of k) - 2)
  pub operators : m₁ ≡ m + (2 * length (list_of k) - 1)
  pub behind : inner ≡ assigned (list_of k) outs e

pub arm_done : (side : Bool) (f : Names) (a : Graph) → Small f → Has a f → (k control n m : ℕ) (e mem mem₁ mem₂ inner o₂ : List ℕ) (n₁ m₁ n₂ m₂ count : ℕ)
    → length e ≡ 33 → k ≡ mask f → length (list_of k) ≤ 33 → Gated (side_kind side) k control n m e mem mem₁ inner n₁ m₁ → Done a n₁ m₁ inner mem₁ mem₂ o₂ count n₂ m₂
    → ArmDone (side_gate side) f a control n m e mem mem₂ o₂ count n₂ m₂
arm_done side f a s h k control n m e mem mem₁ mem₂ inner o₂ n₁ m₁ n₂ m₂ count len is short g d =
    done-arm (side_gate side) (side_kind side) (two-side side) f a s h k control n m e mem mem₁ mem₂ g.names g.none inner g.outs o₂ n₁ m₁ n₂ m₂ count len is g.gathered
    g.nowhere short g.memory g.gives g.links g.operators g.behind d

-- ---- the joins of an if

-- how many returned results a part of a body gave
abbrev pub back_of : Emitted → ℕ
back_of x = x.count - (1 + x.iterated)

abbrev pub join_of : ℕ → Emitted → Emitted → Graph
join_of w x y = join_graph (ltb 0 x.iterated) (ltb 0 y.iterated) (ltb 0 (back_of x)) (ltb 0 (back_of y)) x.iterated y.iterated w

pub record BodyArms (w n m : ℕ) (x y : Emitted) : Type 0 where
  pub first : (1 + x.iterated ≤ x.count) × (x.count ≤ 33)
  pub second : (1 + y.iterated ≤ y.count) × (y.count ≤ 33)
  pub width : (1 ≤ w) × (w ≤ 16)
  pub narrow : (x.iterated ≤ 16) × (y.iterated ≤ 16)
  pub iterate : 0 < x.iterated → 0 < y.iterated → x.iterated ≡ y.iterated
  pub returns : 0 < back_of x → back_of x ≡ w
  pub returns' : 0 < back_of y → back_of y ≡ w
  pub room : Room n m (operator_count (join_of w x y))

abbrev pub JoinNeeds : Bool → ℕ → ℕ → ℕ → Emitted → Emitted → Type 0
JoinNeeds false w n m x y = ((1 ≤ x.count) × (x.count ≤ 16)) × Room n m (2 * x.count - 1)
JoinNeeds true w n m x y = BodyArms w n m x y

-- an arm's results have the links that it gave
abbrev pub ArmHas : Env → Bool → Emitted → Type 0
ArmHas ε side x = ArmLinks ε side (get_or x.outs 0 0) (drop 1 x.outs) x.iterated (drop (1 + x.iterated) x.outs) (back_of x)

abbrev pub JoinGives : Bool → ℕ → ℕ → ℕ → ℕ → List ℕ → List ℕ → Emitted → Emitted → Emitted → Type 0
JoinGives false w test n m mem mem' x y z =
    (z.count ≡ x.count)
    × ((ε : Env) → ε test_name ≡ test → Reads ε (returned_name true) x.count x.outs → Reads ε (returned_name false) x.count y.outs
    → Laid (merge_row test_name returned_name x.count) n m ε mem mem' (take z.count z.outs) z.next.link z.next.operator)
JoinGives true w test n m mem mem' x y z =
    (z.iterated ≡ cond (ltb 0 x.iterated) x.iterated y.iterated) × (z.count ≡ 1 + z.iterated + w)
    × ((ε : Env) → ε test_name ≡ test → ArmHas ε true x → ArmHas ε false y → Laid (join_of w x y) n m ε mem mem' (take z.count z.outs) z.next.link z.next.operator)

-- M gates on the results of an expression's if, as src/lib writes them
pub merge-gives : (x y z : Emitted) (test n m : ℕ) (mem mem' outs : List ℕ) → x.count ≤ 16 → mem' ≡ written mem m (row_records 16 test n x.outs y.outs 0 x.count)
    → take x.count outs ≡ row_outputs n x.count → z.outs ≡ outs → z.count ≡ x.count → z.next.link ≡ n + (3 * x.count - 2) → z.next.operator ≡ m + (2 * x.count - 1)
    → JoinGives false 0 test n m mem mem' x y z
merge-gives x y z test n m mem mem' outs h hm ho eo ec el em = (
  ec,
  λ ε e p q.
      let l = merge-laid test_name lone-test returned_name (omega arith) (λ k u v t. omega arith) x.count h n m ε mem x.outs y.outs p q in
      let a : mem' ≡ written mem m (row_records 16 (ε test_name) n x.outs y.outs 0 x.count) =
      hm ∙ ap (λ (c : ℕ). written mem m (row_records 16 c n x.outs y.outs 0 x.count)) (sym e)
      in
      let b : take z.count z.outs ≡ row_outputs n x.count = ap₂ (λ (c : ℕ) (os : List ℕ). take c os) ec eo ∙ ho in
      rw (a, b, el, em) l,
)

-- what results_of gives of a part of a body
abbrev pub ArmOf : Emitted → Arm → Type 0
ArmOf x a =
    (a.iter ≡ get_or x.outs 0 0) × (a.iterated.len ≡ x.iterated) × (take x.iterated a.iterated.at ≡ take x.iterated (drop 1 x.outs)) × (a.returned.len ≡ back_of x)
    × (take (back_of x) a.returned.at ≡ take (back_of x) (drop (1 + x.iterated) x.outs))

arm-has : (ε : Env) (side : Bool) (x : Emitted) (a : Arm) → ArmOf x a → ArmHas ε side x → ArmLinks ε side a.iter a.iterated.at a.iterated.len a.returned.at a.returned.len
arm-has ε side x a o h =
    record {
      iter? = h.iter? ∙ sym o.0;
      iterated =
          subst (λ (k : ℕ). Reads ε (iterated_name side) k a.iterated.at) (sym o.1)
          (reads_same ε (iterated_name side) x.iterated a.iterated.at (drop 1 x.outs) o.2 h.iterated);
      returned =
          subst (λ (k : ℕ). Reads ε (returned_name side) k a.returned.at) (sym o.3)
          (reads_same ε (returned_name side) (back_of x) a.returned.at (drop (1 + x.iterated) x.outs) o.4 h.returned);
    }

same-join : (w : ℕ) (x y : Emitted) (a b : Arm) → ArmOf x a → ArmOf y b
    → join_graph (ltb 0 a.iterated.len) (ltb 0 b.iterated.len) (ltb 0 a.returned.len) (ltb 0 b.returned.len) a.iterated.len b.iterated.len w ≡ join_of w x y
same-join w x y a b o p i =
    join_graph (ltb 0 (o.1 i)) (ltb 0 (p.1 i)) (ltb 0 (o.3 i)) (ltb 0 (p.3 i)) (o.1 i) (p.1 i) w

pub body-needs : (w n m : ℕ) (x y : Emitted) (a b : Arm) → BodyArms w n m x y → ArmOf x a → ArmOf y b
    → ((1 ≤ w) × (w ≤ 16)) × ((a.iterated.len ≤ 16) × (b.iterated.len ≤ 16)) × (0 < a.iterated.len → 0 < b.iterated.len → a.iterated.len ≡ b.iterated.len) × (0 < a.returned.len → a.returned.len ≡ w) × (0 < b.returned.len → b.returned.len ≡ w)
    × (m + operator_count (join_graph (ltb 0 a.iterated.len) (ltb 0 b.iterated.len) (ltb 0 a.returned.len) (ltb 0 b.returned.len) a.iterated.len b.iterated.len w) ≤ most_operators) × (n ≤ most_links)
body-needs w n m x y a b h o p = (
  h.width,
  (rw o.1 h.narrow.0, rw p.1 h.narrow.1),
  rw (o.1, p.1) h.iterate,
  rw o.3 h.returns,
  rw p.3 h.returns',
  rw (same-join w x y a b o p) h.room.0,
  (let z : n + 3 * operator_count (join_of w x y) ≤ most_links = h.room.1 in omega arith),
)

pub body-gives : (w test n m : ℕ) (x y z : Emitted) (a b : Arm) (mem mem' : List ℕ) → ArmOf x a → ArmOf y b → z.iterated ≡ cond (ltb 0 a.iterated.len) a.iterated.len b.iterated.len
    → z.count ≡ 1 + z.iterated + w
    → ((ε : Env) → ε test_name ≡ test → ArmLinks ε true a.iter a.iterated.at a.iterated.len a.returned.at a.returned.len → ArmLinks ε false b.iter b.iterated.at b.iterated.len b.returned.at b.returned.len
    → Laid (join_graph (ltb 0 a.iterated.len) (ltb 0 b.iterated.len) (ltb 0 a.returned.len) (ltb 0 b.returned.len) a.iterated.len b.iterated.len w) n m ε mem mem' (take z.count z.outs) z.next.link z.next.operator)
    → JoinGives true w test n m mem mem' x y z
body-gives w test n m x y z a b mem mem' o p ei ec l = (
  ei ∙ ap₂ (λ (i j : ℕ). cond (ltb 0 i) i j) o.1 p.1,
  ec,
  λ ε e hx hy.
      subst (λ (G : Graph). Laid G n m ε mem mem' (take z.count z.outs) z.next.link z.next.operator) (same-join w x y a b o p)
      (l ε e (arm-has ε true x a o hx) (arm-has ε false y b p hy)),
)

-- ---- the ring of a loop

-- Each of the 33 places has the link n and as many more as there are names below it.
abbrev pub Numbered : ℕ → ℕ → List ℕ → Type 0
Numbered k n inner = (z : ℕ) → z < 33 → get_or inner z 0 ≡ n + size_from z (names_in k)

-- The chain of copies of iter? and the FM and FS gates behind a loop's start x and body y; the body has the names of the mask k.
pub record Closed (k a b : ℕ) (e own inner mem mem' : List ℕ) (x y z : Emitted) : Type 0 where
  pub middle : List ℕ
  pub controls : List ℕ
  pub again : List ℕ
  pub iterated : List ℕ
  pub started : List ℕ
  pub chained : middle ≡ written mem y.next.operator (encoded (chain (get_or y.outs 0 0) y.next.link (length (list_of k))))
  pub ends : take (length (list_of k)) controls ≡ chain_ends (get_or y.outs 0 0) y.next.link (length (list_of k))
  pub taken : take b again ≡ take b (drop 1 y.outs)
  pub iterated-is : iterated ≡ assigned (up_from a b) again e
  pub started-is : started ≡ assigned (up_from a b) x.outs e
  pub ringed : mem'
      ≡ written middle (y.next.operator + (length (list_of k) - 1))
      (encoded (ring (list_of k) (names_in (2 ^ a * (2 ^ b - 1))) controls (link_in iterated) (link_in started) (link_in own) (link_in inner)))
  pub count : z.count ≡ y.count - (1 + b)
  pub outs : take z.count z.outs ≡ take z.count (drop (1 + b) y.outs)
  pub links : z.next.link ≡ y.next.link + 2 * (length (list_of k) - 1)
  pub operators : z.next.operator ≡ y.next.operator + (length (list_of k) - 1) + length (list_of k)
