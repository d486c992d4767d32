-- Two parts of a row, written one behind the other: the mask of the names that both use, and the room for each. Rows by their place: how many
-- results they give. Assumes of the parts what an admitted formula gives.
use Prim.Native.Nat.{ℕ, zero, suc, ◌+◌, ◌-◌, ◌*◌, ◌^◌, ◌≤◌, ◌<◌}
use mathlib.Core.Path.{◌≡◌, refl, sym, ap, ap₂, ◌∙◌, subst}
use mathlib.Core.Bool.{Bool, true, false, not, ◌&&◌, false≢true}
use mathlib.Core.List.{List, [], ◌∷◌}
use lib.ListN.{length, get_or, take, set, length-set}
use lib.Bits.{bit_and}
use native.Mathlib.Omega.{arith}
use Rattle.names.specs.Names.{Names, common, without, range, mask, size, below}
use Rattle.names.proofs.Sets.{mask-cong, known-common, known-minus, mask-range, below-lt}
use lib.Dec.{ltb}
use borrow.Author.Tests.{ltb-true, ltb-false}
use Rattle.formula.specs.Tree.{exp_of, body_of}
use Rattle.formula.specs.Widths.{width, iterated}
use Rattle.theory_yields.specs.Naming.{Small}
use Rattle.theory_yields.proofs.Naming.{member-up_from}
use Rattle.theory_yields.specs.Choice.{Has}
use Rattle.theory_yields.proofs.Choice.{unseen}
use Rattle.theory_yields.proofs.FitGraphs.{fit-E, fit-B, count-E, count-B}
use Rattle.theory_yields.specs.BodyWidths.{returned_outputs}
use Rattle.theory_yields.proofs.BodyWidths.{iterated-outputs}
use Rattle.graph.specs.Fit.{Fit}
use Rattle.graph.specs.Assembly.{Graph, beside, bind, loop, free, member_of, up_from, total, links_of}
use Rattle.theory_wiring.proofs.Conservation.{length-outputs}
use Rattle.sheet_tables.specs.Masks.{outside}
use Rattle.maker_laid.specs.Masked.{list_of, Mask, mask-short, list_length}
use Rattle.maker_laid.specs.Emitted.{link_in, dealt}
use Rattle.maker_laid.specs.Counts.{operator_count}
use Rattle.maker_laid.specs.Nodes.{graph_in, free_in, FitsIn, has_in, small-in, some_in, Child}
use Rattle.maker_laid.specs.Done.{Done, Forked, fork-room, done-links, done-operators}
use Rattle.maker_joins.specs.declared.Emitted.{Emitted}
use Rattle.maker_parts.specs.Room.{Room, room-less, room_of, room-behind, room-forked, three-links}
use Rattle.maker_parts.specs.Parts.{Gives, Gated, side_kind, arm_done}
use Rattle.maker_rows.specs.Rows.{Part, Armed}

-- ---- a part, and the rest behind it, once the names of a mask are forked

pub record Split (A : Graph) (h : Names) (k rest n m : ℕ) : Type 0 where
  pub is : k ≡ mask h
  pub small : Small h
  pub room : Room n m (length (list_of k) + (operator_count A + rest))

module _ (A : Graph) (h : Names) (k rest n m : ℕ) (S : Split A h k rest n m) where
  pub split-mask : Mask k
  split-mask = record { set = h; is = S.is }

  pub split-fork : Room n m (length (list_of k))
  split-fork = room-less n m (length (list_of k)) (length (list_of k) + (operator_count A + rest)) (omega arith) S.room

  pub split-first : (e mem mem₁ first second : List ℕ) (n₁ m₁ : ℕ) → Forked k n m e mem mem₁ first second n₁ m₁ → Room n₁ m₁ (operator_count A)
  split-first e mem mem₁ first second n₁ m₁ F =
      room-less n₁ m₁ (operator_count A) (operator_count A + rest) (omega arith) (room-forked k n m e mem mem₁ first second n₁ m₁ (operator_count A + rest) F S.room)

  pub split-second : (e mem mem₁ mem₂ first second : List ℕ) (n₁ m₁ : ℕ) (x : Emitted) → Forked k n m e mem mem₁ first second n₁ m₁ → Gives A n₁ m₁ first mem₁ mem₂ x
      → Room x.next.link x.next.operator rest
  split-second e mem mem₁ mem₂ first second n₁ m₁ x F d =
      room-behind A n₁ m₁ first mem₁ mem₂ x.outs x.count x.next.link x.next.operator rest d
      (room-forked k n m e mem mem₁ first second n₁ m₁ (operator_count A + rest) F S.room)

-- ---- the names that two parts share

module _ (A B : Graph) (f g : Names) (ha : Has A f) (hb : Has B g) (sf : Small f) (u v : ℕ) (eu : u ≡ mask f) (ev : v ≡ mask g) where
  shared-is : bit_and u v ≡ mask (common (free A) (free B))
  shared-is = known-common u v f g eu ev ∙ mask-cong (common f g) (common (free A) (free B)) (λ i _. ap₂ ◌&&◌ (sym (ha i)) (sym (hb i)))

  shared-small : Small (common (free A) (free B))
  shared-small i l = unseen (free A i) (free B i) (ha i ∙ sf i l)

  pub split-beside : (q n m : ℕ) → Room n m q → q ≡ operator_count (beside A B) → Split A (common (free A) (free B)) (bit_and u v) (operator_count B) n m
  unfolding operator_count
  split-beside q n m r e =
      record {
        is = shared-is;
        small = shared-small;
        room = room_of n m _ q (e ∙ ap (λ (j : ℕ). j + (operator_count A + operator_count B)) (sym (fork-room (free A) (free B) (bit_and u v) shared-small shared-is))) r;
      }

  -- identifiers a to a + b - 1 bound in the second part
  module _ (a b : ℕ) (h : a + b ≤ 32) where
    abbrev rest : Names
    rest = without (free B) (member_of (up_from a b))

    bound-is : bit_and u (outside v a b) ≡ mask (common (free A) rest)
    bound-is =
        known-common u (outside v a b) f (without g (range a b)) eu (known-minus v (2 ^ a * (2 ^ b - 1)) g (range a b) ev (sym (mask-range a b (omega arith))))
        ∙ mask-cong (common f (without g (range a b))) (common (free A) rest)
        (λ i _. ap₂ ◌&&◌ (sym (ha i)) (ap₂ (λ (x y : Bool). x && not y) (sym (hb i)) (sym (member-up_from a b i))))

    bound-small : Small (common (free A) rest)
    bound-small i l = unseen (free A i) (rest i) (ha i ∙ sf i l)

    bound-count : length (list_of (bit_and u (outside v a b))) ≡ total (common (free A) rest)
    bound-count = fork-room (free A) rest (bit_and u (outside v a b)) bound-small bound-is

    pub split-bind : (q n m : ℕ) → Room n m q → q ≡ operator_count (bind (up_from a b) A B)
        → Split A (common (free A) (without (free B) (member_of (up_from a b)))) (bit_and u (outside v a b)) (operator_count B) n m
    unfolding operator_count
    split-bind q n m r e =
        record {
          is = bound-is;
          small = bound-small;
          room = room_of n m _ q (e ∙ ap (λ (j : ℕ). j + (operator_count A + operator_count B)) (sym bound-count)) r;
        }

    pub split-loop : (q n m : ℕ) → Room n m q → q ≡ operator_count (loop (up_from a b) A B)
        → Split A (common (free A) (without (free B) (member_of (up_from a b)))) (bit_and u (outside v a b)) (operator_count B + ((total (free B) - 1) + total (free B))) n m
    unfolding operator_count
    split-loop q n m r e =
        record {
          is = bound-is;
          small = bound-small;
          room = room_of n m _ q (e ∙ ap (λ (j : ℕ). j + (operator_count A + (operator_count B + ((total (free B) - 1) + total (free B))))) (sym bound-count)) r;
        }

-- ---- how many results

take_long : (c : ℕ) (l : List ℕ) → length (take c l) ≡ c → c ≤ length l
take_long zero l e = omega arith
take_long (suc c) [] e = absurd (omega arith)
take_long (suc c) (x ∷ l) e = let h : c ≤ length l = take_long c l (omega arith) in omega arith

pub long_of : (G : Graph) (n m : ℕ) (e mem mem' outs : List ℕ) (count links operators : ℕ) → Fit G → Done G n m e mem mem' outs count links operators → count ≤ length outs
long_of G n m e mem mem' outs count links operators f d =
    take_long count outs
    (ap (length {A = ℕ}) (d.laid (link_in e) (λ x h. refl)).gives ∙ length-outputs G n (link_in e) f ∙ sym d.counted)

pub fit-in : (p : Bool) (w : ℕ) (t : List ℕ) (r : ℕ) → FitsIn p w t r → Fit (graph_in p w t r)
fit-in false w t r h = fit-E (exp_of t r) h
fit-in true w t r h = fit-B w (body_of t r) h.0 h.1

-- An expression gives as many results as it is wide.
pub counted-E : (w : ℕ) (t : List ℕ) (r n m : ℕ) (e mem mem' : List ℕ) (x : Emitted) → FitsIn false w t r → Gives (graph_in false w t r) n m e mem mem' x → x.count ≡ width (exp_of t r)
counted-E w t r n m e mem mem' x h d = d.counted ∙ count-E (exp_of t r) h

-- A body gives iter?, the iterated and the returned results.
pub counted-B : (w : ℕ) (t : List ℕ) (r n m : ℕ) (e mem mem' : List ℕ) (x : Emitted) → FitsIn true w t r → Gives (graph_in true w t r) n m e mem mem' x
    → x.count ≡ suc (iterated (body_of t r) + returned_outputs w (body_of t r))
counted-B w t r n m e mem mem' x h d =
    d.counted ∙ count-B w (body_of t r) h.0 h.1 ∙ ap (λ (k : ℕ). suc (k + returned_outputs w (body_of t r))) (iterated-outputs (body_of t r))

-- ---- a row named by another

module _ (t masks widths : List ℕ) (p : Bool) (w r k : ℕ) (C : Child t masks widths p w r k) where
  pub child-has : Has (graph_in p w t k) (free_in p t k)
  child-has = has_in p w t k C.ready.fits

  pub child-small : Small (free_in p t k)
  child-small = small-in p w t k C.ready.fits

  pub child-mask : Mask (get_or masks (k - 1) 0)
  child-mask = record { set = free_in p t k; is = C.masked }

  pub child-alone : Child t masks widths p w (k + 1) k
  child-alone = record { ready = C.ready; masked = C.masked; less = omega arith; in-masks = C.in-masks; in-widths = C.in-widths }

-- ---- a mask with a name

pub some-listed : (k : ℕ) (f : Names) → k ≡ mask f → (x : ℕ) → f x ≡ true → Small f → 1 ≤ length (list_of k)
some-listed k f is x i s = go (ltb x 33) refl
  where
    go : (b : Bool) → ltb x 33 ≡ b → 1 ≤ length (list_of k)
    go true e =
        let z : length (list_of k) ≡ size f = list_length k f is in
        let l : below f x < size f = below-lt f x (ltb-true x 33 e) i in
        omega arith
    go false e = absurd (false≢true (sym (s x (ltb-false x 33 e)) ∙ i))

-- ---- arrays keep their length

dealt-long : (step : ℕ) (xs : List ℕ) (n : ℕ) (e : List ℕ) → length (dealt step xs n e) ≡ length e
unfolding dealt
dealt-long step [] n e = refl
dealt-long step (x ∷ xs) n e = dealt-long step xs (n + step) (set e x n) ∙ length-set e x n

pub forked-long : (k n m : ℕ) (e mem mem₁ first second : List ℕ) (n₁ m₁ : ℕ) → Forked k n m e mem mem₁ first second n₁ m₁ → length e ≡ 33 → length second ≡ 33
forked-long k n m e mem mem₁ first second n₁ m₁ F h = ap (length {A = ℕ}) F.second_is ∙ dealt-long 2 (list_of k) (n + 1) e ∙ h

-- ---- an arm

module _ (t masks widths : List ℕ) (p : Bool) (w k : ℕ) (C : Child t masks widths p w (k + 1) k) where
  abbrev M : ℕ
  M = get_or masks (k - 1) 0

  arm-some : 1 ≤ length (list_of M)
  arm-some =
      let s = some_in p w t k C.ready.fits in
      some-listed M (free_in p t k) C.masked s.0 s.1 (small-in p w t k C.ready.fits)

  pub arm-needs : (v n m q : ℕ) → v ≡ get_or masks (k - 1) 0 → Room n m (2 * length (list_of (get_or masks (k - 1) 0)) - 1 + q)
      → Mask v × (1 ≤ length (list_of v)) × Room n m (2 * length (list_of v) - 1)
  arm-needs v n m q e room =
      rw e
      (record { set = free_in p t k; is = C.masked }, arm-some, room-less n m (2 * length (list_of M) - 1) (2 * length (list_of M) - 1 + q) (omega arith) room)

  pub arm-behind : (side : Bool) (v control n m n₁ m₁ q : ℕ) (e mem mem₁ inner : List ℕ) → v ≡ get_or masks (k - 1) 0 → Gated (side_kind side) v control n m e mem mem₁ inner n₁ m₁
      → Room n m (2 * length (list_of (get_or masks (k - 1) 0)) - 1 + q) → Room n₁ m₁ q
  arm-behind side v control n m n₁ m₁ q e mem mem₁ inner ev g room =
      numbers n m n₁ m₁ q (length (list_of M)) arm-some (g.links ∙ ap (λ (z : ℕ). n + (3 * length (list_of z) - 2)) ev) (g.operators ∙ ap (λ (z : ℕ). m + (2 * length (list_of z) - 1)) ev) room
    where
      numbers : (n m n₁ m₁ q l : ℕ) → 1 ≤ l → n₁ ≡ n + (3 * l - 2) → m₁ ≡ m + (2 * l - 1) → Room n m (2 * l - 1 + q) → Room n₁ m₁ q
      numbers n m n₁ m₁ q l h i j r = (omega (arith, r.0), omega (arith, r.1))

  pub arm-part : (side : Bool) (v control n m n₁ m₁ : ℕ) (e mem mem₁ mem₂ inner : List ℕ) (x : Emitted) → length e ≡ 33 → v ≡ get_or masks (k - 1) 0
      → Gated (side_kind side) v control n m e mem mem₁ inner n₁ m₁ → Part p w t k n₁ m₁ inner mem₁ mem₂ x → Armed side p w t masks k control n m e mem mem₂ x
  arm-part side v control n m n₁ m₁ e mem mem₁ mem₂ inner x len ev g d =
      record {
        armed =
            arm_done side (free_in p t k) (graph_in p w t k) (small-in p w t k C.ready.fits) (has_in p w t k C.ready.fits) v control n m e mem mem₁ mem₂ inner x.outs n₁ m₁ x.next.link x.next.operator
            x.count len (ev ∙ C.masked) (mask-short v (record { set = free_in p t k; is = ev ∙ C.masked })) g d.done;
        iterates = d.iterates;
        long = long_of (graph_in p w t k) n₁ m₁ inner mem₁ mem₂ x.outs x.count x.next.link x.next.operator (fit-in p w t k C.ready.fits) d.done;
        operators = done-operators (graph_in p w t k) n₁ m₁ inner mem₁ mem₂ x.outs x.count x.next.link x.next.operator d.done ∙ sums m m₁ (length (list_of M)) (operator_count (graph_in p w t k)) (g.operators ∙ ap (λ (z : ℕ). m + (2 * length (list_of z) - 1)) ev);
        links =
            few n n₁ x.next.link (length (list_of M)) (links_of (graph_in p w t k)) (operator_count (graph_in p w t k)) arm-some (g.links ∙ ap (λ (z : ℕ). n + (3 * length (list_of z) - 2)) ev)
            (done-links (graph_in p w t k) n₁ m₁ inner mem₁ mem₂ x.outs x.count x.next.link x.next.operator d.done) (three-links (graph_in p w t k));
      }
    where
      sums : (m m₁ l q : ℕ) → m₁ ≡ m + (2 * l - 1) → m₁ + q ≡ m + (2 * l - 1 + q)
      sums m m₁ l q h = omega arith

      few : (n n₁ i l j q : ℕ) → 1 ≤ l → n₁ ≡ n + (3 * l - 2) → i ≡ n₁ + j → j ≤ 3 * q → i ≤ n + 3 * (2 * l - 1 + q)
      few n n₁ i l j q h u v b = omega arith

-- ---- masks as the code has read them

pub split-needs : (A : Graph) (h : Names) (k rest n m : ℕ) → Split A h k rest n m → (v : ℕ) → v ≡ k → Mask v × Room n m (length (list_of v))
split-needs A h k rest n m S v e = rw e (split-mask A h k rest n m S, split-fork A h k rest n m S)

pub fork-same : (v k n m : ℕ) (e mem mem₁ first second : List ℕ) (n₁ m₁ : ℕ) → v ≡ k → Forked v n m e mem mem₁ first second n₁ m₁ → Forked k n m e mem mem₁ first second n₁ m₁
fork-same v k n m e mem mem₁ first second n₁ m₁ p F = subst (λ (z : ℕ). Forked z n m e mem mem₁ first second n₁ m₁) p F
