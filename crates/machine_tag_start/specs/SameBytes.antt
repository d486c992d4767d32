-- Start writes the same below the links of two memories: a byte that both have alike, in one place or behind where the links begin, stays so. Assumes that what start
-- writes lies below the links.
use Prim.Native.Nat.{ℕ, zero, suc, ◌+◌, ◌*◌, ◌/◌, ◌%◌, ◌≤◌, ◌<◌}
use Rattle.std.specs.Prelude.{◌≡◌, ◌⊎◌, cond, length, set}
use Rattle.std.proofs.Common.{sym, ◌∙◌, inl, inr, arith, length-set, get_or-set_same, get_or-set_other}
use mathlib.Core.List.{List, [], ◌∷◌}
use Rattle.std.proofs.Math.Decide.{ℕ_discrete}
use Rattle.std.proofs.Math.ListN.{get_or}
use Rattle.std.proofs.lemmas.List.Edits.{sets}
use Rattle.value.specs.Bytes.{word_bytes, stored}
use Rattle.machine_layout.specs.Layout.{input_kinds_at, most_inputs, most_results, most_operators, links_at, no_link, operator_at, register_at, stored16}
use Rattle.machine_layout.specs.Record.{record_bytes, recorded, placed}
use Rattle.machine_layout.specs.declared.Operator.{Operator as Record}
use Rattle.graph.specs.Assembly.{up_from}
use Rattle.graph.specs.Translation.{Made}
use Rattle.maker_laid.specs.Encode.{written}
use Rattle.machine_start.specs.Start.{figure_bytes, figured, named, lettered, headed}

-- Byte a of one memory is byte b of another.
abbrev pub Same : ℕ → ℕ → List ℕ → List ℕ → Type 0
Same a b m n = (a < length m) × (b < length n) × (get_or m a 0 ≡ get_or n b 0)

module _ (a b : ℕ) (paired : (a ≡ b) ⊎ ((links_at ≤ a) × (links_at ≤ b))) where
  same_set : (m n : List ℕ) (j v : ℕ) → j < links_at → Same a b m n → Same a b (set m j v) (set n j v)
  same_set m n j v h s =
      let p = length-set m j v in
      let q = length-set n j v in
      let i = s.0 in
      let k = s.1 in
      (omega arith, omega arith, go paired (ℕ_discrete a j))
    where
      go : (a ≡ b) ⊎ ((links_at ≤ a) × (links_at ≤ b)) → Dec (a ≡ j) → get_or (set m j v) a 0 ≡ get_or (set n j v) b 0
      go (inl e) (yes f) =
          let w : b ≡ j = sym e ∙ f in
          let i = s.0 in
          let k = s.1 in
          rw (f, w) (get_or-set_same m j v 0 (omega arith) ∙ sym (get_or-set_same n j v 0 (omega arith)))
      go (inl e) (no d) = get_or-set_other m j a v 0 d ∙ s.2 ∙ sym (get_or-set_other n j b v 0 (λ f. d (e ∙ f)))
      go (inr w) d =
          let y = w.0 in
          let z = w.1 in
          get_or-set_other m j a v 0 (λ e. omega arith) ∙ s.2 ∙ sym (get_or-set_other n j b v 0 (λ e. omega arith))

  same-sets : (vs m n : List ℕ) (at : ℕ) → at + length vs ≤ links_at → Same a b m n → Same a b (sets m at vs) (sets n at vs)
  same-sets [] m n at h s = s
  same-sets (v ∷ vs) m n at h s = same-sets vs (set m at v) (set n at v) (suc at) (omega arith) (same_set m n at v (omega arith) s)

  same-named : (k : ℕ) (m n : List ℕ) (at : ℕ) (ls : List ℕ) → at + 2 * k ≤ links_at → Same a b m n → Same a b (named k m at ls) (named k n at ls)
  unfolding named stored16
  same-named zero m n at ls h s = s
  same-named (suc k) m n at ls h s =
      let l = get_or ls k 0 in
      let p = named k m at ls in
      let q = named k n at ls in
      same_set (set p (at + 2 * k) (l % 256)) (set q (at + 2 * k) (l % 256)) (at + 2 * k + 1) (l / 256) (omega arith)
      (same_set p q (at + 2 * k) (l % 256) (omega arith) (same-named k m n at ls (omega arith) s))

  same-placed : (m n : List ℕ) (i : ℕ) (o : Record) → i < most_operators → Same a b m n → Same a b (placed m i o) (placed n i o)
  unfolding placed recorded stored record_bytes word_bytes
  same-placed m n i o h s =
      same-sets (word_bytes o.register) (sets m (operator_at i) (record_bytes o)) (sets n (operator_at i) (record_bytes o)) (register_at i) (omega arith)
      (same-sets (record_bytes o) m n (operator_at i) (omega arith) s)

  pub same-written : (os : List Record) (m n : List ℕ) (i : ℕ) → i + length os ≤ most_operators → Same a b m n → Same a b (written m i os) (written n i os)
  unfolding written
  same-written [] m n i h s = s
  same-written (o ∷ os) m n i h s = same-written os (placed m i o) (placed n i o) (suc i) (omega arith) (same-placed m n i o (omega arith) s)

  pub same-headed : (g : Made) (kinds : List ℕ) (capacity : ℕ) (m n : List ℕ) → g.inputs ≤ most_inputs → length g.results ≤ most_results → length kinds ≤ most_inputs
      → Same a b m n → Same a b (headed g kinds capacity m) (headed g kinds capacity n)
  unfolding headed lettered figured figure_bytes
  same-headed g kinds capacity m n x y z s =
      let bytes = figure_bytes capacity (length g.operators) g.links g.inputs (length g.results) (cond g.triggered g.inputs no_link) in
      same-sets kinds _ _ input_kinds_at (omega arith)
      (same-named (length g.results) _ _ 74 g.results (omega arith)
      (same-named g.inputs _ _ 10 (up_from 0 g.inputs) (omega arith)
      (same-sets bytes m n 0 (omega arith) s)))
