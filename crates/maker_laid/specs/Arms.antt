-- The arms of a body's if joined, from what the emitters wrote and gave (graph/specs/Translation: joined). Assumes widths of at most 16.
use Rattle.std.specs.Prelude.{ℕ, zero, suc, ◌+◌, ◌-◌, ◌≤◌, ◌<◌, ◌≡◌, Bool, true, false, cond, ◌&&◌, List, [], ◌∷◌, ◌++◌}
use Rattle.std.proofs.Common.{sym, ap₂, ◌∙◌, arith}
use Rattle.std.proofs.Math.Path.{ap}
use Rattle.std.proofs.Math.Dec.{ltb}
use Rattle.machine_layout.specs.Record.{placed}
use Rattle.machine_layout.specs.declared.Operator.{Operator as Record}
use Rattle.theory_yields.specs.Joins.{join_i, join_r}
use Rattle.graph.specs.Assembly.{IC, Env, gate_outputs, gate_of, up_from, named}
use Rattle.graph.specs.Translation.{join_names}
use Rattle.maker_laid.specs.Encode.{encode}
use Rattle.maker_laid.specs.Laid.{Laid}
use Rattle.maker_laid.specs.Joined.{join_graph, joined-from, behind-second, behind-third, behind-low, IC-outputs}
use Rattle.maker_laid.specs.Results.{Reads, ArmLinks, some_is}

-- i and j iterated, p and q returned results of the arms
module _ (i j p q w at op : ℕ) (hi : i ≤ 16) (hj : j ≤ 16) (hp : p ≤ 16) (hq : q ≤ 16) (hw : w ≤ 16) (both : Bool) (gates : ℕ)
    (eb : both ≡ ltb 0 i && ltb 0 j) (eg : gates ≡ cond both 3 2) (env : Env)
  where
    -- behind the IC gate
    inner : Env
    inner = named (join_names (ltb 0 i && ltb 0 j)) (up_from at (gate_outputs (IC (ltb 0 i && ltb 0 j)))) env

    low : (k : ℕ) → k < 100 → inner k ≡ env k
    unfolding inner
    low k h = behind-low (ltb 0 i && ltb 0 j) at env k h

    reads-still : (s k : ℕ) (ls : List ℕ) → s + k ≤ 100 → Reads env s k ls → Reads inner s k ls
    reads-still s k ls h r z l = low (s + z) (omega arith) ∙ r z l

    counted : gates ≡ gate_outputs (IC (ltb 0 i && ltb 0 j))
    counted = eg ∙ ap (λ (b : Bool). cond b 3 2) eb ∙ sym (IC-outputs (ltb 0 i && ltb 0 j))

    pub arms-laid : (mem mem₁ mem₂ mem₃ xs ys xt yt o₁ o₂ outs : List ℕ) (o : Record) (n₂ m₂ n₃ m₃ x y t : ℕ) → mem₁ ≡ placed mem op o
        → o ≡ encode (gate_of (IC both) (t ∷ x ∷ y ∷ []) at)
        → ((e : Env) → ((i ≡ 0 → ⊥) → (j ≡ 0 → ⊥) → e 101 ≡ at + 1) → Reads e 35 i xs → Reads e 68 j ys
        → Laid (join_i (ltb 0 i) (ltb 0 j) i j) (at + gates) (op + 1) e mem₁ mem₂ o₁ n₂ m₂)
        → ((e : Env) → e 102 ≡ at + gates - 1 → Reads e 51 p xt → Reads e 84 q yt → Laid (join_r (ltb 0 p) (ltb 0 q) w) n₂ m₂ e mem₂ mem₃ o₂ n₃ m₃)
        → outs ≡ at ∷ (o₁ ++ o₂) → env 33 ≡ t → ArmLinks env true x xs i xt p → ArmLinks env false y ys j yt q
        → Laid (join_graph (ltb 0 i) (ltb 0 j) (ltb 0 p) (ltb 0 q) i j w) at op env mem mem₃ outs n₃ m₃
    unfolding inner
    arms-laid mem mem₁ mem₂ mem₃ xs ys xt yt o₁ o₂ outs o n₂ m₂ n₃ m₃ x y t h k li lr e et ax ay =
        joined-from (ltb 0 i) (ltb 0 j) (ltb 0 p) (ltb 0 q) i j w hi hj hw at op 0 0 (at + gates) env mem mem₁ mem₂ mem₃ o₁ o₂ outs n₂ m₂ n₃ m₃ x y t et
        ax.iter? ay.iter? (h ∙ ap (placed mem op) (k ∙ ap (λ (b : Bool). encode (gate_of (IC b) (t ∷ x ∷ y ∷ []) at)) eb)) (ap (λ (z : ℕ). at + z) counted)
        (li inner second-link (reads-still 35 i xs (omega arith) ax.iterated) (reads-still 68 j ys (omega arith) ay.iterated))
        (lr inner (behind-third (ltb 0 i && ltb 0 j) at env ∙ ap (λ (z : ℕ). at + z - 1) (sym counted)) (reads-still 51 p xt (omega arith) ax.returned)
        (reads-still 84 q yt (omega arith) ay.returned)) e
      where
        second-link : (i ≡ 0 → ⊥) → (j ≡ 0 → ⊥) → inner 101 ≡ at + 1
        second-link f g = behind-second (ltb 0 i && ltb 0 j) at env (ap₂ (λ (a b : Bool). a && b) (some_is i f) (some_is j g))

-- A number that is w where it is not 0.
pub at_most : (r w : ℕ) → (0 < r → r ≡ w) → w ≤ 16 → r ≤ 16
at_most zero w h k = omega arith
at_most (suc r) w h k = let e : suc r ≡ w = h (omega arith) in omega arith
