-- Laws of specs/Stepped.antt, and what only they need.
use Rattle.std.specs.Prelude.{ℕ, ◌+◌, ◌≤◌, ◌<◌, ◌≡◌, refl, ◌≢◌, List, [], ◌++◌, length, get_or, take, drop}
use Rattle.std.proofs.Common.{sym, ap, subst, ◌∙◌, arith, length-take, length-append, take-append-drop, get_or-take}
use Rattle.std.proofs.Math.Decide.{ℕ_discrete}
use Rattle.std.proofs.Math.ListN.{get_or-append}
use Rattle.network.specs.Net.{Links}
use Rattle.formula.specs.Tree.{formula_of}
use Rattle.formula.specs.Faults.{letters_of}
use Rattle.formula.specs.Acceptance.{Admissible}
use Rattle.machine_layout.specs.Layout.{links_at}
use Rattle.machine_planes.specs.Planes.{most_tags, tags_at, untaken_under, tagged_need, plane_of}
use Rattle.machine_tags.specs.Changes.{Changed}
use Rattle.demand_begin.proofs.Lent.{Agree}
use Rattle.demand.specs.MemoryCalls.{Result}
use Rattle.demand.proofs.Agreed.{calls-agree}
use Rattle.demand.proofs.FollowAll.{calls-follow}
use Rattle.demand_tags.specs.Plays.{Plays}
use Rattle.demand_tags.proofs.Plays.{plays-none, plays-then}
use Rattle.demand_tags.proofs.LentPlanes.{plane-lent, plane-behind}
use Rattle.demand_tags.specs.Benched.{StandsOne, Benched}
use Rattle.demand_tags.proofs.Benched.{bench-kept}
use Rattle.demand_tags.specs.Stepped.{no-sets, no-results}

pub record Stepped (m m' : List ℕ) (sets : ℕ → List (List ℕ)) (results : ℕ → List Result) : Type 0 where
  pub as_long : length m' ≡ length m
  pub low : Agree links_at m m'
  pub counts : (t : ℕ) → t < most_tags → length (sets t) + untaken_under m t ≡ length (results t) + untaken_under m' t
  pub bytes : (t : ℕ) → t < most_tags → untaken_under m t ≤ 1 → untaken_under m' t ≤ 1
  pub plays : (t : ℕ) → t < most_tags → Plays (plane_of m t) (plane_of m' t) (sets t) (results t)

pub step-none : (m : List ℕ) → Stepped m m no-sets no-results
step-none m = record { as_long = refl; low = λ i h. refl; counts = λ t h. refl; bytes = λ t h b. b; plays = λ t h. plays-none (plane_of m t) }

pub step_then : (m m' m'' : List ℕ) (s s' : ℕ → List (List ℕ)) (r r' : ℕ → List Result) → Stepped m m' s r → Stepped m' m'' s' r' → Stepped m m'' (λ t. s t ++ s' t) (λ t. r t ++ r' t)
step_then m m' m'' s s' r r' a b =
    record {
      as_long = b.as_long ∙ a.as_long;
      low = λ i h. b.low i h ∙ a.low i h;
      counts = λ t h. omega (arith, a.counts t h, b.counts t h, length-append (s t) (s' t), length-append (r t) (r' t));
      bytes = λ t h l. b.bytes t h (a.bytes t h l);
      plays = λ t h. plays-then (plane_of m t) (plane_of m' t) (plane_of m'' t) (s t) (s' t) (r t) (r' t) (a.plays t h) (b.plays t h);
    }

-- A call under the tag f (machine_tags/specs/Changes `Changed`) is a step, by what it does to the machine of its tag and to the tag's byte.
pub changed-step : (m m' : List ℕ) (f : ℕ) → Changed f m m' → (s : ℕ → List (List ℕ)) (r : ℕ → List Result)
    → ((t : ℕ) → t ≢ f → s t ≡ []) → ((t : ℕ) → t ≢ f → r t ≡ []) → length (s f) + untaken_under m f ≡ length (r f) + untaken_under m' f
    → Plays (plane_of m f) (plane_of m' f) (s f) (r f) → Stepped m m' s r
changed-step m m' f c s r no-set no_result counted played =
    record {
      as_long = c.size;
      low = c.low;
      counts = λ t h. count t (ℕ_discrete t f);
      bytes = λ t h l. byte t l (ℕ_discrete t f);
      plays = λ t h. play t h (ℕ_discrete t f);
    }
  where
    count : (t : ℕ) → Dec (t ≡ f) → length (s t) + untaken_under m t ≡ length (r t) + untaken_under m' t
    count t (yes e) = rw e counted
    count t (no n) = rw (no-set t n, no_result t n, c.bytes t n) refl

    byte : (t : ℕ) → untaken_under m t ≤ 1 → Dec (t ≡ f) → untaken_under m' t ≤ 1
    byte t l (yes e) = rw e c.byte
    byte t l (no n) = rw (c.bytes t n) l

    play : (t : ℕ) → t < most_tags → Dec (t ≡ f) → Plays (plane_of m t) (plane_of m' t) (s t) (r t)
    play t h (yes e) = rw e played
    play t h (no n) = rw (no-set t n, no_result t n, c.beside t h n) (plays-none (plane_of m t))

-- A step of what a call is lent of a memory, which is as much as the machine needs, is one of the whole.
pub step-lent : (m : List ℕ) (n : ℕ) → tagged_need ≤ length m → tagged_need ≤ n → (k : List ℕ) (s : ℕ → List (List ℕ)) (r : ℕ → List Result)
    → Stepped (take n m) k s r → Stepped m (k ++ drop n m) s r
step-lent m n long h k s r a =
    let l : tagged_need ≤ length (take n m) = omega (arith, length-take n m) in
    let l' : tagged_need ≤ length k = omega (arith, a.as_long) in
    let before : (i : ℕ) → i < tagged_need → get_or (take n m) i 0 ≡ get_or m i 0 = λ i p. get_or-take n m i 0 (omega arith) in
    let after : (i : ℕ) → i < tagged_need → get_or (k ++ drop n m) i 0 ≡ get_or k i 0 = λ i p. get_or-append k (drop n m) 0 i (omega arith) in
    record {
      as_long = length-append k (drop n m) ∙ ap (λ (z : ℕ). z + length (drop n m)) a.as_long ∙ sym (length-append (take n m) (drop n m)) ∙ ap length (take-append-drop n m);
      low = λ i p. after i (omega arith) ∙ a.low i p ∙ before i (omega arith);
      counts = λ t p. omega (arith, a.counts t p, before (tags_at + t) (omega arith), after (tags_at + t) (omega arith));
      bytes = λ t p b.
          let e = before (tags_at + t) (omega arith) in
          let f = after (tags_at + t) (omega arith) in
          omega (arith, a.bytes t p (omega arith));
      plays = λ t p.
          subst (λ (x : List ℕ). Plays x (plane_of (k ++ drop n m) t) (s t) (r t)) (plane-lent m long n h t p)
          (subst (λ (x : List ℕ). Plays (plane_of (take n m) t) x (s t) (r t)) (sym (plane-behind k (drop n m) l' t p)) (a.plays t p));
    }

-- ---- where a step leads
module _ (sheet line : List ℕ) (ok : Admissible sheet) where
  -- Calls of the first machine leave the sheet's machine standing.
  pub plays-stand : (p p' : List ℕ) (s : List (List ℕ)) (r : List Result) → Plays p p' s r → (q : Links) → StandsOne sheet line p q → (q' : Links) × StandsOne sheet line p' q'
  plays-stand p p' s r P q H =
      let x = formula_of sheet in
      let kinds = letters_of x line in
      let F = calls-follow x kinds 1 (omega arith) (omega arith) (calls-agree sheet ok kinds 1 (omega arith) (omega arith)) P.calls p q H in
      subst (λ (y : List ℕ). (q' : Links) × StandsOne sheet line y q') P.ends (_, F.stands)

  pub bench-stepped : (m m' : List ℕ) (s : ℕ → List (List ℕ)) (r : ℕ → List Result) → Benched sheet line m → Stepped m m' s r → Benched sheet line m'
  bench-stepped m m' s r B a =
      bench-kept sheet line ok m m' B (omega (arith, a.as_long, B.long)) a.low (λ t h. a.bytes t h (B.bytes t h))
      (λ t h. let H = B.planes t h in plays-stand (plane_of m t) (plane_of m' t) (s t) (r t) (a.plays t h) H.0 H.1)
