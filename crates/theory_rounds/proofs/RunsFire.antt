-- Laws of specs/RunsFire.antt, and what only they need.
use Rattle.std.specs.Prelude.{ℕ, suc, ◌+◌, ◌≤◌, ◌<◌, ◌≡◌, refl, ◌≢◌, ◌⊎◌}
use Rattle.std.proofs.Common.{sym, ◌∙◌, ap, subst, length-append, arith}
use Rattle.std.proofs.Math.Logic.{ite, if_pos, inl, inr}
use mathlib.Core.List.{List, [], ◌∷◌, ◌++◌, map}
use Rattle.std.proofs.Math.Option.{none}
use Rattle.std.proofs.Math.ListN.{length}
use Rattle.std.proofs.Math.Decide.{ℕ_discrete, dec_lt}
use Rattle.theory_schedule.specs.Schedules.{remaining}
use Rattle.theory_schedule.proofs.Schedules.{Possible}
use Rattle.theory_schedule.specs.Counts.{count}
use Rattle.theory_schedule.proofs.Counts.{count-remaining, length-remaining}
use Rattle.theory_schedule.proofs.Progress.{still-covers, still-counts-equal, still-same-state}
use Rattle.network.specs.Net.{Links, Able, act}
use Rattle.network.specs.Commute.{Free}
use Rattle.network.proofs.Commute.{enabled, next, output, diamond}
use Rattle.theory_pieces.specs.Tape.{Step, pushing, firing, taking}
use Rattle.formula.specs.Tree.{Exp}
use Rattle.theory_verdicts.specs.Running.{places, operator_at, dec_able, runs, after_steps, accept, run_steps, steps_of, steps_from}
use Rattle.theory_verdicts.proofs.RunningLaws.{Made-in-turn, calls-made}
use Rattle.theory_verdicts.proofs.RunLaws.{run-below-lent}
use Rattle.theory_rounds.specs.InTurn.{times}
use Rattle.theory_rounds.proofs.TurnLaws.{graph, leads, after-append, runs-fire}
use Rattle.theory_rounds.specs.TurnLaws.{Only-firings}
use Rattle.theory_rounds.specs.RunsFire.{total, operators-of}

pub refused-cannot : {A : Type 0} (s : Step) (d : Dec A) → accept d s ≡ [] → A → ⊥
refused-cannot s (yes p) e a = let z : ◌≡◌ {A = ℕ} 1 0 = ap length e in omega arith
refused-cannot s (no n) e a = n a

module _ (x : Exp) (capacity : ℕ) where
  abbrev pub Fires : List ℕ → Links → Type 0
  Fires = Possible (enabled (graph x capacity) (places capacity)) (next (graph x capacity) (places capacity)) (output (graph x capacity) (places capacity))

  abbrev pub Quiet : Links → Type 0
  Quiet q = (a : ℕ) → Able (places capacity) (operator_at x a) q → ⊥

  pub firings-possible : (w : List Step) (q : Links) → Only-firings w → Made-in-turn x capacity w q → Fires (operators-of w) q
  firings-possible [] q f a = tt
  firings-possible (pushing v ∷ w) q f a = absurd f
  firings-possible (firing b ∷ w) q f a = (a.0, firings-possible w (act (operator_at x b) q) f a.1)
  firings-possible (taking ∷ w) q f a = absurd f

  pub firings-lead : (w : List Step) (q : Links) → Only-firings w → after_steps x w q ≡ leads x capacity (operators-of w) q
  firings-lead [] q f = refl
  firings-lead (pushing v ∷ w) q f = absurd f
  firings-lead (firing b ∷ w) q f = firings-lead w (act (operator_at x b) q) f
  firings-lead (taking ∷ w) q f = absurd f

  firings-length : (w : List Step) → Only-firings w → length (operators-of w) ≡ length w
  firings-length [] f = refl
  firings-length (pushing v ∷ w) f = absurd f
  firings-length (firing b ∷ w) f = ap suc (firings-length w f)
  firings-length (taking ∷ w) f = absurd f

  firings-times : (i : ℕ) (w : List Step) → Only-firings w → times i w ≡ count i (operators-of w)
  firings-times i [] f = refl
  firings-times i (pushing v ∷ w) f = absurd f
  firings-times i (firing b ∷ w) f = ap (λ (z : ℕ). ite (ℕ_discrete i b) (suc z) z) (firings-times i w f)
  firings-times i (taking ∷ w) f = absurd f

  -- ---- as long as lent, or up to where nothing can fire
  run-whole : (n : ℕ) (q : Links) → (n ≤ length (run_steps x capacity n q)) ⊎ Quiet (after_steps x (run_steps x capacity n q) q)
  unfolding steps_of
  run-whole n q = go (dec_lt (length (run_steps x capacity n q)) n)
    where
      go : Dec (length (run_steps x capacity n q) < n) → (n ≤ length (run_steps x capacity n q)) ⊎ Quiet (after_steps x (run_steps x capacity n q) q)
      go (yes l) =
          inr (λ b. refused-cannot (firing b) (dec_able (places capacity) (operator_at x b) (after_steps x (run_steps x capacity n q) q)) (run-below-lent x capacity n q l b))
      go (no l) = inl (omega arith)

  -- nothing fires where nothing can
  none_made : (w : List Step) (q : Links) → Quiet q → Only-firings w → Made-in-turn x capacity w q → Quiet (after_steps x w q)
  none_made [] q h f a = h
  none_made (pushing v ∷ w) q h f a = absurd f
  none_made (firing b ∷ w) q h f a = absurd (h b a.0)
  none_made (taking ∷ w) q h f a = absurd f

  runs-whole : (ns : List ℕ) (q : Links)
      → (total ns ≤ length (steps_from x capacity (map runs ns) q)) ⊎ Quiet (after_steps x (steps_from x capacity (map runs ns) q) q)
  unfolding steps_from steps_of
  runs-whole [] q = inl (omega arith)
  runs-whole (n ∷ ns) q = go (run-whole n q) (runs-whole ns (after_steps x (run_steps x capacity n q) q))
    where
      w : List Step
      w = run_steps x capacity n q

      u : List Step
      u = steps_from x capacity (map runs ns) (after_steps x w q)

      both : after_steps x (w ++ u) q ≡ after_steps x u (after_steps x w q)
      both = after-append x capacity w u q

      go : (n ≤ length w) ⊎ Quiet (after_steps x w q) → (total ns ≤ length u) ⊎ Quiet (after_steps x u (after_steps x w q))
          → (n + total ns ≤ length (w ++ u)) ⊎ Quiet (after_steps x (w ++ u) q)
      go (inl a) (inl b) = inl (omega (arith, length-append w u))
      go (inl a) (inr b) = inr (subst Quiet (sym both) b)
      go (inr a) o =
          inr (subst Quiet (sym both)
          (none_made u (after_steps x w q) a (runs-fire x capacity ns (after_steps x w q)) (calls-made x capacity (map runs ns) (after_steps x w q))))

  -- ---- against a list of firings that ends where nothing can fire
  module _ (free : (a b : ℕ) → a ≢ b → Free (graph x capacity a) (graph x capacity b)) (work : List ℕ) (q : Links) (possible : Fires work q) (quiet : Quiet (leads x capacity work q)) where
    -- No firings are more.
    at_most : (u : List ℕ) → Fires u q → length u ≤ length work
    at_most u r =
        omega (arith, length-remaining work u, none (remaining work u) (λ e. omega (arith, count-remaining e work u, covers e)))
      where
        covers : (e : ℕ) → count e u ≤ count e work
        covers =
            still-covers (enabled (graph x capacity) (places capacity)) (next (graph x capacity) (places capacity)) (output (graph x capacity) (places capacity))
            (diamond (graph x capacity) (places capacity) free) work u q possible r quiet

        none : (w : List ℕ) → ((e : ℕ) → count e w ≡ 0) → length w ≡ 0
        none [] h = refl
        none (a ∷ w) h = absurd (omega (arith, h a, head-counts a w))
          where
            head-counts : (a : ℕ) (w : List ℕ) → 0 < count a (a ∷ w)
            head-counts a w = rw (if_pos (ℕ_discrete a a) refl (suc (count a w)) (count a w)) (omega arith)

    pub runs-settle : (ns : List ℕ) → length work < total ns → Quiet (after_steps x (steps_from x capacity (map runs ns) q) q)
    runs-settle ns l = go (runs-whole ns q)
      where
        w : List Step
        w = steps_from x capacity (map runs ns) q

        go : (total ns ≤ length w) ⊎ Quiet (after_steps x w q) → Quiet (after_steps x w q)
        go (inl z) =
            absurd (omega (
              arith,
              at_most (operators-of w) (firings-possible w q (runs-fire x capacity ns q) (calls-made x capacity (map runs ns) q)),
              firings-length w (runs-fire x capacity ns q),
            ))
        go (inr z) = z

    -- The runs lead where the firings lead.
    pub runs_lead : (ns : List ℕ) → length work < total ns → after_steps x (steps_from x capacity (map runs ns) q) q ≡ leads x capacity work q
    runs_lead ns l =
        firings-lead w q (runs-fire x capacity ns q)
        ∙ still-same-state (enabled (graph x capacity) (places capacity)) (next (graph x capacity) (places capacity)) (output (graph x capacity) (places capacity))
        (diamond (graph x capacity) (places capacity) free) (operators-of w) work q
        (firings-possible w q (runs-fire x capacity ns q) (calls-made x capacity (map runs ns) q)) possible
        (subst Quiet (firings-lead w q (runs-fire x capacity ns q)) (runs-settle ns l)) quiet
      where
        w : List Step
        w = steps_from x capacity (map runs ns) q

    -- And each operator fires as often.
    pub runs-times : (ns : List ℕ) → length work < total ns → (i : ℕ) → times i (steps_from x capacity (map runs ns) q) ≡ count i work
    runs-times ns l i =
        firings-times i w (runs-fire x capacity ns q)
        ∙ still-counts-equal (enabled (graph x capacity) (places capacity)) (next (graph x capacity) (places capacity)) (output (graph x capacity) (places capacity))
        (diamond (graph x capacity) (places capacity) free) (operators-of w) work q
        (firings-possible w q (runs-fire x capacity ns q) (calls-made x capacity (map runs ns) q)) possible
        (subst Quiet (firings-lead w q (runs-fire x capacity ns q)) (runs-settle ns l)) quiet i
      where
        w : List Step
        w = steps_from x capacity (map runs ns) q
