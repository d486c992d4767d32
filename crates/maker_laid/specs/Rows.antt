-- Rows of gates with one control, of wires and of copies (graph/specs/Translation: gated, merged, excepted, straight, copied), laid out as the code
-- does it: each gate but the last takes its control from a copy. Document 01, "The graph": "a T gate on each free name of arm b and an F gate
-- on each of arm c, an expression if also an M gate on each result". Assumes nothing.
use Rattle.std.specs.Prelude.{ℕ, suc, ◌+◌, ◌-◌, ◌*◌, ◌≡◌, Bool, ◌&&◌, ◌||◌, length, get_or}
use Rattle.std.proofs.Math.Path.{refl, sym, ap, ap₂}
use Rattle.std.proofs.Common.{◌∙◌, subst}
use Rattle.std.proofs.Math.Bool.{true, false}
use Rattle.std.proofs.lemmas.Bool.{false≢true}
use mathlib.Core.List.{List, [], ◌∷◌, ◌++◌}
use Rattle.std.proofs.Math.Dec.{eqb}
use borrow.Author.Tests.{eqb-true, eq-eqb, ne_eqb}
use native.Mathlib.Omega.{arith}
use Rattle.machine_layout.specs.Record.{placed}
use Rattle.machine_layout.specs.declared.Operator.{Operator as Record}
use Rattle.names.specs.Names.{Names}
use Rattle.theory_yields.proofs.Naming.{or_left, or_right, or-false}
use Rattle.theory_yields.proofs.Choice.{row-lacks, row_has, unseen}
use Rattle.graph.specs.Assembly.{Graph, wire, nothing, beside, Env, free, member_of, first_use, second_use}
use Rattle.graph.specs.Translation.{row}
use Rattle.maker_laid.specs.Encode.{written, written_none, written_one, written-more}
use Rattle.maker_laid.specs.Emitted.{copy_record, gate_record, row_records, row_outputs, row-none, row_last, row_more, outputs-none, outputs-last, outputs-more}
use Rattle.maker_laid.specs.Laid.{Laid, laid-wire, laid-nothing, laid_beside}
use Rattle.maker_laid.specs.Sharing.{copied_none, first-none, second_none, Lone, copied-one, first_one, second-one, first-other, second-other}

-- ---- parts that share nothing

module _ (a b : Graph) (h : (x : ℕ) → free a x && free b x ≡ false) (n m : ℕ) (env : Env) (mem mem₁ mem₂ o₁ o₂ : List ℕ) (n₁ m₁ n₂ m₂ : ℕ) where
  pub laid-apart : Laid a n m env mem mem₁ o₁ n₁ m₁ → Laid b n₁ m₁ env mem₁ mem₂ o₂ n₂ m₂ → Laid (beside a b) n m env mem mem₂ (o₁ ++ o₂) n₂ m₂
  laid-apart la lb =
      laid_beside a b n m env mem mem mem₁ mem₂ o₁ o₂ n m n₁ m₁ n₂ m₂ (copied_none (free a) (free b) h n env m mem)
      (subst (λ (e : Env). Laid a n m e mem mem₁ o₁ n₁ m₁) (sym (first-none (free a) (free b) h n env)) la)
      (subst (λ (e : Env). Laid b n₁ m₁ e mem₁ mem₂ o₂ n₂ m₂) (sym (second_none (free a) (free b) h n env)) lb)

differ : (c d x : ℕ) → (c ≡ d → ⊥) → eqb c x && eqb d x ≡ false
differ c d x h = go (eqb c x) refl
  where
    go : (b : Bool) → eqb c x ≡ b → b && eqb d x ≡ false
    go true p = ne_eqb d x (λ (q : d ≡ x). h (eqb-true c x p ∙ sym q))
    go false p = refl

module _ (n m : ℕ) (env : Env) (mem : List ℕ) where
  pub two-wires : (c d : ℕ) → (c ≡ d → ⊥) → Laid (beside (wire c) (wire d)) n m env mem mem (env c ∷ env d ∷ []) n m
  unfolding free
  two-wires c d h =
      laid-apart (wire c) (wire d) (λ x. differ c d x h) n m env mem mem mem (env c ∷ []) (env d ∷ []) n m n m (laid-wire n m env mem c) (laid-wire n m env mem d)

  pub three-wires : (c d e : ℕ) → (c ≡ d → ⊥) → (c ≡ e → ⊥) → (d ≡ e → ⊥)
      → Laid (beside (wire c) (beside (wire d) (wire e))) n m env mem mem (env c ∷ env d ∷ env e ∷ []) n m
  unfolding free
  three-wires c d e h k l =
      laid-apart (wire c) (beside (wire d) (wire e)) apart n m env mem mem mem (env c ∷ []) (env d ∷ env e ∷ []) n m n m (laid-wire n m env mem c) (two-wires d e l)
    where
      apart : (x : ℕ) → eqb c x && (eqb d x || eqb e x) ≡ false
      apart x = go (eqb c x) refl
        where
          go : (b : Bool) → eqb c x ≡ b → b && (eqb d x || eqb e x) ≡ false
          go true p =
              or-false (eqb d x) (eqb e x) (ne_eqb d x (λ (q : d ≡ x). h (eqb-true c x p ∙ sym q)))
              (ne_eqb e x (λ (q : e ≡ x). k (eqb-true c x p ∙ sym q)))
          go false p = refl

-- ---- a row of gates

-- What a row needs of its gates: each takes the control c and the names of a set of its own.
pub record Controlled (f : ℕ → Graph) (c kind : ℕ) (first second : Env → ℕ → ℕ) (own : ℕ → Names) : Type 0 where
  pub uses : (i k : ℕ) → free (f i) k ≡ eqb c k || own i k
  pub lays : (i : ℕ) → own i c ≡ false → (n m : ℕ) (env : Env) (mem : List ℕ)
      → Laid (f i) n m env mem (placed mem m (gate_record kind (env c) (first env i) (second env i) n)) (n ∷ []) (n + 1) (m + 1)
  pub reads : (i : ℕ) (env env' : Env) → own i c ≡ false → ((x : ℕ) → (c ≡ x → ⊥) → env x ≡ env' x)
      → (first env i ≡ first env' i) × (second env i ≡ second env' i)

-- The gates of a row take different names, and none of them is the control.
abbrev pub Separate : ℕ → (ℕ → Names) → List ℕ → Type 0
Separate c own [] = Unit {0}
Separate c own (x ∷ xs) = (own x c ≡ false) × ((y : ℕ) → member_of xs y ≡ true → (k : ℕ) → own x k ≡ true → own y k ≡ false) × Separate c own xs

-- The arrays hold the data of the gates, from place j on.
abbrev pub Holds : (Env → ℕ → ℕ) → Env → List ℕ → ℕ → List ℕ → Type 0
Holds first env a j [] = Unit {0}
Holds first env a j (x ∷ xs) = (get_or a j 0 ≡ first env x) × Holds first env a (j + 1) xs

module _ (f : ℕ → Graph) (c kind : ℕ) (lone : Lone c) (first second : Env → ℕ → ℕ) (own : ℕ → Names) (C : Controlled f c kind first second own) (a b : List ℕ) where
  common-control : (x y : ℕ) (ys : List ℕ) → Separate c own (x ∷ y ∷ ys) → (k : ℕ) → free (f x) k && free (row f (y ∷ ys)) k ≡ eqb c k
  unfolding member_of
  common-control x y ys s k = go (eqb c k) refl
    where
      go : (t : Bool) → eqb c k ≡ t → free (f x) k && free (row f (y ∷ ys)) k ≡ t
      go true p =
          let z : c ≡ k = eqb-true c k p in
          let l : free (f x) k ≡ true = C.uses x k ∙ or_left (eqb c k) (own x k) p in
          let r : free (row f (y ∷ ys)) k ≡ true =
          row_has f (y ∷ ys) k y (or_left (eqb y y) (member_of ys y) (eq-eqb y y refl)) (C.uses y k ∙ or_left (eqb c k) (own y k) p)
          in rw (l, r) refl
      go false p = part (own x k) refl
        where
          part : (t : Bool) → own x k ≡ t → free (f x) k && free (row f (y ∷ ys)) k ≡ false
          part false q = unseen (free (f x) k) (free (row f (y ∷ ys)) k) (C.uses x k ∙ or-false (eqb c k) (own x k) p q)
          part true q =
              let r : free (row f (y ∷ ys)) k ≡ false =
              row-lacks f (y ∷ ys) k (λ z i. C.uses z k ∙ or-false (eqb c k) (own z k) p (s.1 z i k q))
              in rw r (and_none (free (f x) k))
            where
              and_none : (t : Bool) → t && false ≡ false
              and_none true = refl
              and_none false = refl

  holds_same : (g : Env → ℕ → ℕ) (d : List ℕ) (env env' : Env) (xs : List ℕ) (j : ℕ) → ((x : ℕ) → member_of xs x ≡ true → g env x ≡ g env' x)
      → Holds g env d j xs → Holds g env' d j xs
  unfolding member_of
  holds_same g d env env' [] j h p = tt
  holds_same g d env env' (x ∷ xs) j h p = (
    p.0 ∙ h x (or_left (eqb x x) (member_of xs x) (eq-eqb x x refl)),
    holds_same g d env env' xs (j + 1) (λ y i. h y (or_right (eqb x y) (member_of xs y) i)) p.1,
  )

  separate-in : (xs : List ℕ) → Separate c own xs → (x : ℕ) → member_of xs x ≡ true → own x c ≡ false
  unfolding member_of
  separate-in [] s x h = absurd (false≢true h)
  separate-in (y ∷ ys) s x h = go (eqb y x) refl h (λ i. separate-in ys s.2 x i)
    where
      go : (t : Bool) → eqb y x ≡ t → t || member_of ys x ≡ true → (member_of ys x ≡ true → own x c ≡ false) → own x c ≡ false
      go true p i ih = ap (λ (z : ℕ). own z c) (sym (eqb-true y x p)) ∙ s.0
      go false p i ih = ih i

  pub laid-row : (xs : List ℕ) → Separate c own xs → (j n m : ℕ) (env : Env) (mem : List ℕ) → Holds first env a j xs → Holds second env b j xs
      → Laid (row f xs) n m env mem (written mem m (row_records kind (env c) n a b j (length xs))) (row_outputs n (length xs))
      (n + (3 * length xs - 2)) (m + (2 * length xs - 1))
  unfolding row free
  laid-row [] s j n m env mem p q =
      let l = laid-nothing n m env mem in
      let y : n + (3 * 0 - 2) ≡ n = omega arith in
      let z : m + (2 * 0 - 1) ≡ m = omega arith in
      rw (row-none kind (env c) n a b j, written_none mem m, outputs-none n, y, z) l
  laid-row (x ∷ []) s j n m env mem p q =
      let y : n + (3 * 1 - 2) ≡ n + 1 = omega arith in
      let z : m + (2 * 1 - 1) ≡ m + 1 = omega arith in
      let r : written mem m (row_records kind (env c) n a b j 1) ≡ placed mem m (gate_record kind (env c) (first env x) (second env x) n) =
      ap (written mem m) (row_last kind (env c) n a b j) ∙ written_one mem m (gate_record kind (env c) (get_or a j 0) (get_or b j 0) n)
      ∙ ap₂ (λ (u v : ℕ). placed mem m (gate_record kind (env c) u v n)) p.0 q.0
      in
      let l = C.lays x s.0 n m env mem in
      rw (r, outputs-last n, y, z)
      (laid-apart (f x) nothing (λ k. lacks (free (f x) k)) n m env mem (placed mem m (gate_record kind (env c) (first env x) (second env x) n))
      (placed mem m (gate_record kind (env c) (first env x) (second env x) n)) (n ∷ []) [] (n + 1) (m + 1) (n + 1) (m + 1) l
      (laid-nothing (n + 1) (m + 1) env (placed mem m (gate_record kind (env c) (first env x) (second env x) n))))
    where
      lacks : (t : Bool) → t && false ≡ false
      lacks true = refl
      lacks false = refl
  laid-row (x ∷ y ∷ ys) s j n m env mem p q = go (laid-row (y ∷ ys) s.2 (j + 1) (n + 3) (m + 2) e₂ mem₂ kept-first kept_second)
    where
      left : Names
      left = free (f x)

      right : Names
      right = free (row f (y ∷ ys))

      meet : (k : ℕ) → left k && right k ≡ eqb c k
      meet = common-control x y ys s

      e₁ : Env
      e₁ = first_use left right n env

      e₂ : Env
      e₂ = second_use left right n env

      others-first : (z : ℕ) → (c ≡ z → ⊥) → env z ≡ e₁ z
      others-first z d = sym (first-other left right c lone meet n env z d)

      others-second : (z : ℕ) → (c ≡ z → ⊥) → env z ≡ e₂ z
      others-second z d = sym (second-other left right c lone meet n env z d)

      mem₁ : List ℕ
      mem₁ = placed mem m (copy_record (env c) n (n + 1))

      mem₂ : List ℕ
      mem₂ = placed mem₁ (m + 1) (gate_record kind (e₁ c) (first e₁ x) (second e₁ x) (n + 2))

      kept-first : Holds first e₂ a (j + 1) (y ∷ ys)
      kept-first = holds_same first a env e₂ (y ∷ ys) (j + 1) (λ z i. (C.reads z env e₂ (separate-in (y ∷ ys) s.2 z i) others-second).0) p.1

      kept_second : Holds second e₂ b (j + 1) (y ∷ ys)
      kept_second = holds_same second b env e₂ (y ∷ ys) (j + 1) (λ z i. (C.reads z env e₂ (separate-in (y ∷ ys) s.2 z i) others-second).1) q.1

      data-first : get_or a j 0 ≡ first e₁ x
      data-first = p.0 ∙ (C.reads x env e₁ s.0 others-first).0

      data-second : get_or b j 0 ≡ second e₁ x
      data-second = q.0 ∙ (C.reads x env e₁ s.0 others-first).1

      now-one : suc m ≡ m + 1
      now-one = omega arith

      now-two : suc (suc m) ≡ m + 2
      now-two = omega arith

      more : ℕ → ℕ → List Record
      more z k = row_records kind z (n + 3) a b (j + 1) k

      all-written : written mem m (row_records kind (env c) n a b j (suc (suc (length ys)))) ≡ written mem₂ (m + 2) (more (e₂ c) (suc (length ys)))
      all-written =
          let d : suc (suc (length ys)) - 1 ≡ suc (length ys) = omega arith in
          ap (written mem m) (row_more kind (env c) n a b j (suc (suc (length ys))) (omega arith) ∙ ap (λ (k : ℕ). copy_record (env c) n (n + 1) ∷ gate_record kind n (get_or a j 0) (get_or b j 0) (n + 2) ∷ more (n + 1) k) d)
          ∙ written-more mem m (copy_record (env c) n (n + 1)) (gate_record kind n (get_or a j 0) (get_or b j 0) (n + 2) ∷ more (n + 1) (suc (length ys)))
          ∙ written-more mem₁ (suc m) (gate_record kind n (get_or a j 0) (get_or b j 0) (n + 2)) (more (n + 1) (suc (length ys)))
          ∙ (λ i. written (placed mem₁ (now-one i) (gate_record kind (sym (first_one left right c lone meet n env) i) (data-first i) (data-second i) (n + 2))) (now-two i) (more (sym (second-one left right c lone meet n env) i) (suc (length ys))))

      outs : row_outputs n (suc (suc (length ys))) ≡ ((n + 2) ∷ []) ++ row_outputs (n + 3) (suc (length ys))
      outs =
          let d : suc (suc (length ys)) - 1 ≡ suc (length ys) = omega arith in
          outputs-more n (suc (suc (length ys))) (omega arith) ∙ ap (λ (k : ℕ). (n + 2) ∷ row_outputs (n + 3) k) d

      links : n + (3 * suc (suc (length ys)) - 2) ≡ n + 3 + (3 * suc (length ys) - 2)
      links = omega arith

      operators : m + (2 * suc (suc (length ys)) - 1) ≡ m + 2 + (2 * suc (length ys) - 1)
      operators = omega arith

      go : Laid (row f (y ∷ ys)) (n + 3) (m + 2) e₂ mem₂ (written mem₂ (m + 2) (more (e₂ c) (suc (length ys)))) (row_outputs (n + 3) (suc (length ys)))
          (n + 3 + (3 * suc (length ys) - 2)) (m + 2 + (2 * suc (length ys) - 1))
          → Laid (beside (f x) (row f (y ∷ ys))) n m env mem (written mem m (row_records kind (env c) n a b j (suc (suc (length ys)))))
          (row_outputs n (suc (suc (length ys)))) (n + (3 * suc (suc (length ys)) - 2)) (m + (2 * suc (suc (length ys)) - 1))
      go ih =
          let u : n + 2 + 1 ≡ n + 3 = omega arith in
          let v : m + 1 + 1 ≡ m + 2 = omega arith in
          let l : Laid (f x) (n + 2) (m + 1) e₁ mem₁ mem₂ ((n + 2) ∷ []) (n + 3) (m + 2) = rw (sym u, sym v) (C.lays x s.0 (n + 2) (m + 1) e₁ mem₁) in
          rw (all-written, outs, links, operators)
          (laid_beside (f x) (row f (y ∷ ys)) n m env mem mem₁ mem₂ (written mem₂ (m + 2) (more (e₂ c) (suc (length ys)))) ((n + 2) ∷ [])
          (row_outputs (n + 3) (suc (length ys))) (n + 2) (m + 1) (n + 3) (m + 2) (n + 3 + (3 * suc (length ys) - 2)) (m + 2 + (2 * suc (length ys) - 1))
          (copied-one left right c lone meet n env m mem mem₁ refl) l ih)
