-- What joins the arms of a body's if, laid out (graph/specs/Translation: joined): one IC gate, the iterated results, the returned results. Document 01,
-- "The graph": "A body if joins these by one IC gate. Its iterated results join by M on the second IC output where both arms iterate, else pass
-- straight. Its returned results .. join by M on the third output where both arms return, by E where one does; where neither does, each is a
-- copy of that third output." The parts share no name. Assumes widths of at most 16.
use Prim.Native.Nat.{ℕ, suc, ◌+◌, ◌-◌, ◌≤◌, ◌<◌}
use Rattle.std.specs.Prelude.{◌≡◌, cond, not, ◌&&◌, ◌||◌, List, [], ◌∷◌, ◌++◌}
use Rattle.std.proofs.Math.Path.{refl}
use Rattle.std.proofs.Common.{sym, ap, ◌∙◌, subst}
use Rattle.std.proofs.Math.Bool.{Bool, true, false}
use Rattle.std.proofs.Math.Dec.{eqb}
use borrow.Author.Tests.{eqb-true, eqb-false, ne_eqb}
use native.Mathlib.Omega.{arith}
use Rattle.machine_layout.specs.Layout.{no_link}
use Rattle.machine_layout.specs.Record.{placed}
use Rattle.machine_layout.specs.declared.Operator.{Operator as Record}
use Rattle.theory_yields.proofs.ArmNames.{join-from}
use Rattle.maker_laid.specs.Environments.{named_other}
use Rattle.theory_yields.proofs.Naming.{or-false, below-up_from, above-up_from, up_from-holds}
use Rattle.theory_yields.specs.Joins.{join_i, join_r}
use Rattle.theory_yields.proofs.Joins.{merge-lacks, except-lacks, straight-lacks, copied-lacks}
use Rattle.graph.specs.Assembly.{Graph, wire, nothing, beside, bind, gate, IC, Env, free, member_of, gate_outputs, gate_of, nth, up_from, named}
use Rattle.graph.specs.Translation.{test_name, iter_name, iterated_name, returned_name, join_name, join_names, joined, iterated_join, returned_join}
use Rattle.formula.specs.Tree.{Body}
use Rattle.formula.specs.Widths.{iterated}
use Rattle.formula.specs.Count.{iterates, returns}
use Rattle.maker_laid.specs.Encode.{encode}
use Rattle.maker_laid.specs.Laid.{Laid, laid-wire, laid-gate}
use Rattle.maker_laid.specs.Rows.{laid-apart, three-wires}
use Rattle.maker_laid.specs.Choices.{bind-apart}

abbrev pub ic_record : ℕ → ℕ → ℕ → ℕ → ℕ → ℕ → Record
ic_record t x y a b c = record { kind = 18; in1 = t; in2 = x; in3 = y; out1 = a; out2 = b; out3 = c; register = 0 }

-- by whether each arm iterates and returns, and by their widths
abbrev pub join_graph : Bool → Bool → Bool → Bool → ℕ → ℕ → ℕ → Graph
join_graph b c d e m n w =
    bind (join_names (b && c)) (gate (IC (b && c)) (beside (wire test_name) (beside (wire (iter_name true)) (wire (iter_name false)))))
    (beside (wire join_name) (beside (join_i b c m n) (join_r d e w)))

-- ---- which names the joins lack

free-nothing : (k : ℕ) → free nothing k ≡ false
unfolding free
free-nothing k = refl

module _ (b c : Bool) (m n k : ℕ) where
  iterated-lacks : (k ≡ 101 → ⊥) → member_of (up_from 35 m) k ≡ false → member_of (up_from 68 m) k ≡ false → member_of (up_from 68 n) k ≡ false
      → free (join_i b c m n) k ≡ false
  iterated-lacks h p q r = go b c
    where
      go : (b c : Bool) → free (join_i b c m n) k ≡ false
      go true true = merge-lacks 101 iterated_name m k h p q
      go true false = straight-lacks 35 m k p
      go false true = straight-lacks 68 n k r
      go false false = free-nothing k

returned-lacks : (d e : Bool) (w k : ℕ) → (k ≡ 102 → ⊥) → member_of (up_from 51 w) k ≡ false → member_of (up_from 84 w) k ≡ false → free (join_r d e w) k ≡ false
returned-lacks true true w k h p q = merge-lacks 102 returned_name w k h p q
returned-lacks true false w k h p q = except-lacks 102 51 w k h p
returned-lacks false true w k h p q = except-lacks 102 84 w k h q
returned-lacks false false w k h p q = copied-lacks 102 w k h

module _ (b c d e : Bool) (m n w : ℕ) (hm : m ≤ 16) (hn : n ≤ 16) (hw : w ≤ 16) where
  -- the iterated results and the returned results share no name
  pub joins-apart : (k : ℕ) → free (join_i b c m n) k && free (join_r d e w) k ≡ false
  joins-apart k = go (eqb 102 k) refl (member_of (up_from 51 w) k) refl (member_of (up_from 84 w) k) refl
    where
      no-iterated : (k ≡ 101 → ⊥) → member_of (up_from 35 m) k ≡ false → member_of (up_from 68 m) k ≡ false → member_of (up_from 68 n) k ≡ false
          → free (join_i b c m n) k && free (join_r d e w) k ≡ false
      no-iterated h p q r = ap (λ (t : Bool). t && free (join_r d e w) k) (iterated-lacks b c m n k h p q r)

      none : (t : Bool) → t && false ≡ false
      none true = refl
      none false = refl

      go : (t : Bool) → eqb 102 k ≡ t → (u : Bool) → member_of (up_from 51 w) k ≡ u → (v : Bool) → member_of (up_from 84 w) k ≡ v
          → free (join_i b c m n) k && free (join_r d e w) k ≡ false
      go true p u q v r =
          let z : 102 ≡ k = eqb-true 102 k p in
          no-iterated (λ (y : k ≡ 101). omega arith) (above-up_from 35 m k (omega arith)) (above-up_from 68 m k (omega arith)) (above-up_from 68 n k (omega arith))
      go false p true q v r =
          let z : (51 ≤ k) × (k < 51 + w) = up_from-holds 51 w k q in
          no-iterated (λ (y : k ≡ 101). omega arith) (above-up_from 35 m k (omega arith)) (below-up_from 68 m k (omega arith)) (below-up_from 68 n k (omega arith))
      go false p false q true r =
          let z : (84 ≤ k) × (k < 84 + w) = up_from-holds 84 w k r in
          no-iterated (λ (y : k ≡ 101). omega arith) (above-up_from 35 m k (omega arith)) (above-up_from 68 m k (omega arith)) (above-up_from 68 n k (omega arith))
      go false p false q false r =
          ap (λ (t : Bool). free (join_i b c m n) k && t) (returned-lacks d e w k (λ (z : k ≡ 102). eqb-false 102 k p (sym z)) q r) ∙ none (free (join_i b c m n) k)

  -- neither has a name below 35, name 67 or name 100
  joins-lack : (k : ℕ) → (k < 35) → free (join_i b c m n) k || free (join_r d e w) k ≡ false
  joins-lack k l =
      or-false _ _
      (iterated-lacks b c m n k (λ (y : k ≡ 101). omega arith) (below-up_from 35 m k (omega arith)) (below-up_from 68 m k (omega arith)) (below-up_from 68 n k (omega arith)))
      (returned-lacks d e w k (λ (y : k ≡ 102). omega arith) (below-up_from 51 w k (omega arith)) (below-up_from 84 w k (omega arith)))

  joins-lack-67 : free (join_i b c m n) 67 || free (join_r d e w) 67 ≡ false
  joins-lack-67 =
      or-false _ _
      (iterated-lacks b c m n 67 (λ (y : 67 ≡ 101). omega arith) (above-up_from 35 m 67 (omega arith)) (below-up_from 68 m 67 (omega arith)) (below-up_from 68 n 67 (omega arith)))
      (returned-lacks d e w 67 (λ (y : 67 ≡ 102). omega arith) (above-up_from 51 w 67 (omega arith)) (below-up_from 84 w 67 (omega arith)))

  joins-lack-100 : free (join_i b c m n) 100 || free (join_r d e w) 100 ≡ false
  joins-lack-100 =
      or-false _ _
      (iterated-lacks b c m n 100 (λ (y : 100 ≡ 101). omega arith) (above-up_from 35 m 100 (omega arith)) (above-up_from 68 m 100 (omega arith)) (above-up_from 68 n 100 (omega arith)))
      (returned-lacks d e w 100 (λ (y : 100 ≡ 102). omega arith) (above-up_from 51 w 100 (omega arith)) (above-up_from 84 w 100 (omega arith)))

  abbrev pub resultsPart : Graph
  resultsPart = beside (join_i b c m n) (join_r d e w)

  abbrev pub tests : Graph
  tests = beside (wire 33) (beside (wire 34) (wire 67))

  pub first-apart : (k : ℕ) → free (wire 100) k && free resultsPart k ≡ false
  unfolding free
  first-apart k = go (eqb 100 k) refl
    where
      go : (t : Bool) → eqb 100 k ≡ t → t && (free (join_i b c m n) k || free (join_r d e w) k) ≡ false
      go true p = let z : 100 ≡ k = eqb-true 100 k p in rw (sym z) joins-lack-100
      go false p = refl

  pub gate-apart : (ns : List ℕ) (k : ℕ) → free (gate (IC (b && c)) tests) k && (free (beside (wire 100) resultsPart) k && not (member_of ns k)) ≡ false
  unfolding free
  gate-apart ns k = go (eqb 33 k) refl (eqb 34 k) refl (eqb 67 k) refl
    where
      rest : Bool
      rest = eqb 100 k || (free (join_i b c m n) k || free (join_r d e w) k)

      lacking : eqb 100 k ≡ false → free (join_i b c m n) k || free (join_r d e w) k ≡ false → rest && not (member_of ns k) ≡ false
      lacking p q = ap (λ (t : Bool). t && not (member_of ns k)) (or-false _ _ p q)

      go : (t : Bool) → eqb 33 k ≡ t → (u : Bool) → eqb 34 k ≡ u → (v : Bool) → eqb 67 k ≡ v → (t || (u || v)) && (rest && not (member_of ns k)) ≡ false
      go true p u q v r =
          let z : 33 ≡ k = eqb-true 33 k p in
          lacking (ne_eqb 100 k (λ (y : 100 ≡ k). omega arith)) (joins-lack k (omega arith))
      go false p true q v r =
          let z : 34 ≡ k = eqb-true 34 k q in
          lacking (ne_eqb 100 k (λ (y : 100 ≡ k). omega arith)) (joins-lack k (omega arith))
      go false p false q true r =
          let z : 67 ≡ k = eqb-true 67 k r in
          lacking (ne_eqb 100 k (λ (y : 100 ≡ k). omega arith)) (ap (λ (x : ℕ). free (join_i b c m n) x || free (join_r d e w) x) (sym z) ∙ joins-lack-67)
      go false p false q false r = refl

  -- ---- the whole

  abbrev pub joinedBy : Graph
  joinedBy = bind (join_names (b && c)) (gate (IC (b && c)) tests) (beside (wire 100) resultsPart)

  -- the environment behind the gate
  abbrev pub behind : ℕ → Env → Env
  behind at env = named (join_names (b && c)) (up_from at (gate_outputs (IC (b && c)))) env

  behind-first : (at : ℕ) (env : Env) → behind at env 100 ≡ at
  unfolding join_names up_from named gate_outputs
  behind-first at env = go (b && c)
    where
      go : (t : Bool) → named (join_names t) (up_from at (gate_outputs (IC t))) env 100 ≡ at
      go true = refl
      go false = refl

  pub laid-joined : (at op : ℕ) (env : Env) (mem mem₁ mem₂ mem₃ o₁ o₂ : List ℕ) (n₂ m₂ n₃ m₃ : ℕ)
      → mem₁ ≡ placed mem op (encode (gate_of (IC (b && c)) (env 33 ∷ env 34 ∷ env 67 ∷ []) at))
      → Laid (join_i b c m n) (at + gate_outputs (IC (b && c))) (op + 1) (behind at env) mem₁ mem₂ o₁ n₂ m₂
      → Laid (join_r d e w) n₂ m₂ (behind at env) mem₂ mem₃ o₂ n₃ m₃ → Laid joinedBy at op env mem mem₃ (at ∷ (o₁ ++ o₂)) n₃ m₃
  laid-joined at op env mem mem₁ mem₂ mem₃ o₁ o₂ n₂ m₂ n₃ m₃ h li lr =
      let g = IC (b && c) in
      let lg = laid-gate g tests at op env mem mem mem₁ (env 33 ∷ env 34 ∷ env 67 ∷ []) at op
      (three-wires at op env mem 33 34 67 (λ (y : 33 ≡ 34). omega arith) (λ (y : 33 ≡ 67). omega arith) (λ (y : 34 ≡ 67). omega arith)) h
      in
      let l = bind-apart (join_names (b && c)) (gate g tests) (beside (wire 100) resultsPart) (gate-apart (join_names (b && c))) at op env mem mem₁ mem₃ (up_from at (gate_outputs g))
      ((behind at env 100 ∷ []) ++ (o₁ ++ o₂)) (at + gate_outputs g) (op + 1) n₃ m₃ lg
      (laid-apart (wire 100) resultsPart first-apart (at + gate_outputs g) (op + 1) (behind at env) mem₁ mem₁ mem₃ (behind at env 100 ∷ []) (o₁ ++ o₂) (at + gate_outputs g) (op + 1) n₃ m₃
      (laid-wire (at + gate_outputs g) (op + 1) (behind at env) mem₁ 100)
      (laid-apart (join_i b c m n) (join_r d e w) joins-apart (at + gate_outputs g) (op + 1) (behind at env) mem₁ mem₂ mem₃ o₁ o₂ n₂ m₂ n₃ m₃ li lr))
      in
      subst (λ (x : ℕ). Laid joinedBy at op env mem mem₃ (x ∷ (o₁ ++ o₂)) n₃ m₃) (behind-first at env) l

pub joined_is : (w : ℕ) (x y : Body) → joined w x y ≡ join_graph (iterates x) (iterates y) (returns x) (returns y) (iterated x) (iterated y) w
unfolding joined iterated_join returned_join
joined_is w x y = refl

-- ---- the environment behind the gate

module _ (both : Bool) (at : ℕ) (env : Env) where
  pub behind-second : both ≡ true → named (join_names both) (up_from at (gate_outputs (IC both))) env 101 ≡ at + 1
  unfolding join_names up_from named gate_outputs
  behind-second e = let z : suc at ≡ at + 1 = omega arith in rw e z

  pub behind-third : named (join_names both) (up_from at (gate_outputs (IC both))) env 102 ≡ at + gate_outputs (IC both) - 1
  unfolding join_names up_from named gate_outputs
  behind-third = go both
    where
      go : (t : Bool) → named (join_names t) (up_from at (gate_outputs (IC t))) env 102 ≡ at + gate_outputs (IC t) - 1
      go true = let z : suc (suc at) ≡ at + 3 - 1 = omega arith in z
      go false = let z : suc at ≡ at + 2 - 1 = omega arith in z

  pub behind-low : (k : ℕ) → k < 100 → named (join_names both) (up_from at (gate_outputs (IC both))) env k ≡ env k
  behind-low k h = named_other (join_names both) (up_from at (gate_outputs (IC both))) env k (join-from both k h)

-- ---- the record of the gate

IC-encodes : (both : Bool) (t x y n : ℕ) → encode (gate_of (IC both) (t ∷ x ∷ y ∷ []) n)
    ≡ cond both (ic_record t x y n (n + 1) (n + 2)) (ic_record t x y n no_link (n + 1))
unfolding gate_of nth
IC-encodes true t x y n = refl
IC-encodes false t x y n = refl

pub IC-outputs : (both : Bool) → gate_outputs (IC both) ≡ cond both 3 2
unfolding gate_outputs
IC-outputs both = refl

pub IC-three : (both : Bool) → both ≡ true → (t x y n : ℕ) → encode (gate_of (IC both) (t ∷ x ∷ y ∷ []) n) ≡ ic_record t x y n (n + 1) (n + 2)
IC-three both e t x y n = IC-encodes both t x y n ∙ ap (λ (b : Bool). cond b (ic_record t x y n (n + 1) (n + 2)) (ic_record t x y n no_link (n + 1))) e

pub IC-two : (both : Bool) → both ≡ false → (t x y n : ℕ) → encode (gate_of (IC both) (t ∷ x ∷ y ∷ []) n) ≡ ic_record t x y n no_link (n + 1)
IC-two both e t x y n = IC-encodes both t x y n ∙ ap (λ (b : Bool). cond b (ic_record t x y n (n + 1) (n + 2)) (ic_record t x y n no_link (n + 1))) e

-- ---- the joins from what the code wrote

module _ (b c d e : Bool) (m n w : ℕ) (hm : m ≤ 16) (hn : n ≤ 16) (hw : w ≤ 16) where
  -- `xs`, `ys` are the iterated, `xt`, `yt` the returned results; o₁ and o₂ what the joins gave
  pub joined-from : (at op second third k : ℕ) (env : Env) (mem mem₁ mem₂ mem₃ o₁ o₂ outs : List ℕ) (n₂ m₂ n₃ m₃ x y t : ℕ) → env 33 ≡ t → env 34 ≡ x → env 67 ≡ y
      → mem₁ ≡ placed mem op (encode (gate_of (IC (b && c)) (t ∷ x ∷ y ∷ []) at)) → k ≡ at + gate_outputs (IC (b && c))
      → Laid (join_i b c m n) k (op + 1) (named (join_names (b && c)) (up_from at (gate_outputs (IC (b && c)))) env) mem₁ mem₂ o₁ n₂ m₂
      → Laid (join_r d e w) n₂ m₂ (named (join_names (b && c)) (up_from at (gate_outputs (IC (b && c)))) env) mem₂ mem₃ o₂ n₃ m₃
      → outs ≡ at ∷ (o₁ ++ o₂) → Laid (join_graph b c d e m n w) at op env mem mem₃ outs n₃ m₃
  joined-from at op second third k env mem mem₁ mem₂ mem₃ o₁ o₂ outs n₂ m₂ n₃ m₃ x y t p q r h s li lr o =
      subst (λ (z : List ℕ). Laid (join_graph b c d e m n w) at op env mem mem₃ z n₃ m₃) (sym o)
      (laid-joined b c d e m n w hm hn hw at op env mem mem₁ mem₂ mem₃ o₁ o₂ n₂ m₂ n₃ m₃
      (h ∙ ap (placed mem op) (λ i. encode (gate_of (IC (b && c)) (sym p i ∷ sym q i ∷ sym r i ∷ []) at)))
      (subst (λ (z : ℕ). Laid (join_i b c m n) z (op + 1) (named (join_names (b && c)) (up_from at (gate_outputs (IC (b && c)))) env) mem₁ mem₂ o₁ n₂ m₂) s li) lr)
