-- Laws of specs/Benched.antt, and what only they need.
use Rattle.std.specs.Prelude.{ℕ, ◌+◌, ◌≤◌, ◌<◌, ◌≡◌, List, length, take}
use Rattle.std.proofs.Common.{sym, ◌∙◌, arith, length-take, get_or-take}
use borrow.Author.Tests.{le-leb}
use Rattle.network.specs.Net.{Links}
use Rattle.formula.specs.Tree.{formula_of}
use Rattle.formula.specs.Faults.{letters_of}
use Rattle.formula.specs.Acceptance.{Admissible}
use Rattle.graph.specs.Translation.{made_of}
use Rattle.machine_layout.specs.Layout.{operators_of, links_of, operator_count_at, links_at, most_operators, most_links, register_at, operator_at}
use Rattle.machine_planes.specs.Planes.{most_tags, tags_at, untaken_under, tagged_need, plane_of}
use Rattle.machine_planes.proofs.PlaneBytes.{plane-operators, plane-link-count}
use Rattle.machine_tags.specs.TagValid.{plain_kind, untaken_under_ok}
use Rattle.machine_tags.specs.TagCalls.{tag_standing}
use Rattle.machine_tags.proofs.PlaneStanding.{planes-stand}
use Rattle.demand_begin.proofs.MadeSound.{made-sound}
use Rattle.demand_begin.proofs.Lent.{Agree, agree-number}
use Rattle.demand.proofs.Agreed.{calls-agree}
use Rattle.demand_tags.proofs.LentPlanes.{plane-agrees}
use Rattle.demand_tags.specs.Benched.{StandsOne, Benched}

module _ (sheet line : List ℕ) (ok : Admissible sheet) where
  -- It has the operators of the graph.
  pub bench-operators : (m : List ℕ) → Benched sheet line m → operators_of m ≡ length (made_of (formula_of sheet)).operators
  bench-operators m B = sym (plane-operators m 0 B.long (omega arith)) ∙ (B.planes 0 (omega arith)).1.operators-are

  pub few-operators : (m : List ℕ) → Benched sheet line m → operators_of m ≤ most_operators
  few-operators m B = omega (arith, bench-operators m B, (made-sound sheet ok).few-operators)

  pub few-links : (m : List ℕ) → Benched sheet line m → links_of m ≤ most_links
  few-links m B =
      let H = (B.planes 0 (omega arith)).1 in
      let e : links_of (plane_of m 0) ≡ links_of m = plane-link-count m 0 B.long (omega arith) in
      omega (arith, H.links-are, (made-sound sheet ok).few-links)

  -- 31 is not given.
  pub bench-stands : (m : List ℕ) → Benched sheet line m → tag_standing m ≡ 0
  unfolding untaken_under_ok
  bench-stands m B =
      planes-stand m B.long B.mark B.none-untaken B.plain (λ t h. le-leb (untaken_under m t) 1 (B.bytes t h))
      (λ t h. let s = B.planes t h in (calls-agree sheet ok (letters_of (formula_of sheet) line) 1 (omega arith) (omega arith)).good (plane_of m t) s.0 s.1)

  -- A memory with the same bytes below the links is one too, if its tags' machines stand and its tags' bytes are such.
  pub bench-kept : (m k : List ℕ) → Benched sheet line m → tagged_need ≤ length k → Agree links_at m k → ((t : ℕ) → t < most_tags → untaken_under k t ≤ 1)
      → ((t : ℕ) → t < most_tags → (q : Links) × StandsOne sheet line (plane_of k t) q) → Benched sheet line k
  unfolding plain_kind
  bench-kept m k B long same bytes planes =
      let n : operators_of k ≡ operators_of m = agree-number links_at m k same operator_count_at (omega arith) in
      let few = few-operators m B in
      record {
        long = long;
        mark = same 0 (omega arith) ∙ B.mark;
        none-untaken = same 7 (omega arith) ∙ B.none-untaken;
        plain = λ i h. rw (same (operator_at i) (omega arith)) (B.plain i (omega arith));
        registers = λ i h j l. rw (same (register_at i + j) (omega arith)) (B.registers i (omega arith) j l);
        bytes = bytes;
        planes = planes;
      }

  -- lent in part, but no less than is needed
  pub bench-lent : (m : List ℕ) → Benched sheet line m → (n : ℕ) → tagged_need ≤ n → Benched sheet line (take n m)
  bench-lent m B n h =
      let long : tagged_need ≤ length (take n m) = omega (arith, length-take n m, B.long) in
      let same : Agree tagged_need m (take n m) = λ i l. get_or-take n m i 0 (omega arith) in
      bench-kept m (take n m) B long (λ i l. same i (omega arith)) (λ t l. rw (same (tags_at + t) (omega arith)) (B.bytes t l))
      (λ t l. rw (plane-agrees m (take n m) B.long long same t l) (B.planes t l))
