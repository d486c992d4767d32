-- Laws of specs/Ending.antt, and what only they need.
use Rattle.std.specs.Prelude.{ℕ, zero, suc, ◌+◌, ◌≤◌, ◌<◌, ◌≡◌, List, [], ◌++◌}
use Rattle.std.proofs.Math.Path.{refl}
use Rattle.std.proofs.Common.{sym, subst, arith, ne_eqb}
use Rattle.session.specs.declared.Stage.{Stage}
use Rattle.session.specs.Passes.{Pass, pass_of, part_of, remaining_after, Repeats, none_left, again, passes}
use Rattle.session.specs.Waiting.{PassesTo}
use Rattle.session.specs.Onward.{Going}
use Rattle.session.proofs.Onward.{goes_on}
use Rattle.session.specs.Ending.{Finished, Proceeds, RepeatsTo, ComesTo, ProceedsOn}

-- ---- one repetition of the definition
module _ (f : ℕ) (rest : List (List ℕ)) (m : List ℕ) (left : ℕ) where
  abbrev p : Pass
  p = pass_of rest m left

  pub passes_over : passes (suc f) 0 rest m left ≡ []
  unfolding passes
  passes_over = refl

  pub passes-again : (n : ℕ)
      → passes (suc f) (suc n) rest m left ≡ part_of p ++ passes f (remaining_after (suc n) p) p.rest p.mem p.left
  unfolding passes
  passes-again n = rw (ne_eqb (suc n) 0 (λ e. omega (arith, e))) refl

pub passes-end : (f n : ℕ) (rest : List (List ℕ)) (m : List ℕ) (left : ℕ) → Going n rest m → n + left ≤ f → Finished n rest m left (passes f n rest m left)
unfolding passes
passes-end zero zero rest m left g h = record { last = m; repeats = none_left rest m left }
passes-end zero (suc n) rest m left g h = absurd (omega arith)
passes-end (suc f) zero rest m left g h = subst (Finished 0 rest m left) (sym (passes_over f rest m left)) (record { last = m; repeats = none_left rest m left })
passes-end (suc f) (suc n) rest m left g h =
    let o = goes_on (suc n) rest m left g (omega arith) in
    let q = pass_of rest m left in
    let e = passes-end f (remaining_after (suc n) q) q.rest q.mem q.left o.going (omega (arith, o.less)) in
    subst (Finished (suc n) rest m left) (sym (passes-again f rest m left n))
    (record {
      last = e.last;
      repeats = again n rest m left (passes f (remaining_after (suc n) q) q.rest q.mem q.left) e.last e.repeats;
    })

pub proceeds-on : (kinds file : List ℕ) (stage : Stage) (m : List ℕ) (r : Stage) (m' out : List ℕ) → Proceeds kinds file stage m → 0 < stage.remaining
    → PassesTo kinds file stage m r m' out → ProceedsOn kinds file stage r m'
proceeds-on kinds file stage m r m' out p h f =
    let t = f p.rest p.waits in
    let o = goes_on stage.remaining p.rest m stage.firings p.going h in
    let a = pass_of p.rest m stage.firings in
    record {
      on = record {
        rest = a.rest;
        waits = t.waits;
        going =
            subst (λ (k : ℕ). Going k a.rest m') (sym t.remaining-is)
            (subst (Going (remaining_after stage.remaining a) a.rest) (sym t.memory) o.going);
      };
      less = omega (arith, o.less, t.remaining-is, t.firings-are);
    }

-- A stage with a set left, one repetition on.
repeats-on : (n : ℕ) (rest : List (List ℕ)) (m : List ℕ) (left : ℕ) (out last : List ℕ) → 0 < n
    → Repeats (remaining_after n (pass_of rest m left)) (pass_of rest m left).rest (pass_of rest m left).mem (pass_of rest m left).left out last
    → Repeats n rest m left (part_of (pass_of rest m left) ++ out) last
repeats-on zero rest m left out last h r = absurd (omega arith)
repeats-on (suc n) rest m left out last h r = again n rest m left out last r

pub comes-on : (kinds file : List ℕ) (stage₀ : Stage) (m₀ : List ℕ) (stage : Stage) (m : List ℕ) (r : Stage) (m' out : List ℕ) → 0 < stage.remaining
    → PassesTo kinds file stage m r m' out → ComesTo kinds file stage₀ m₀ stage m → ComesTo kinds file stage₀ m₀ r m'
comes-on kinds file stage₀ m₀ stage m r m' out h f c last t =
    c last
    (λ rest w.
    let p = f rest w in
    let a = pass_of rest m stage.firings in
    let e = t a.rest p.waits in
    let g : Repeats (remaining_after stage.remaining a) a.rest a.mem a.left e.0 last
    = rw (sym p.remaining-is, sym p.memory, sym p.firings-are) e.1 in
    (part_of a ++ e.0, repeats-on stage.remaining rest m stage.firings e.0 last h g))

pub comes-to-end : (kinds file : List ℕ) (stage₀ : Stage) (m₀ : List ℕ) (stage : Stage) (m : List ℕ) → stage.remaining ≡ 0
    → ComesTo kinds file stage₀ m₀ stage m → RepeatsTo kinds file stage₀ m₀ m
comes-to-end kinds file stage₀ m₀ stage m e c =
    c m (λ rest w. ([], subst (λ (n : ℕ). Repeats n rest m stage.firings [] m) (sym e) (none_left rest m stage.firings)))
