-- Laws of specs/FiredLinks.antt, and what only they need.
use Rattle.std.specs.Prelude.{ℕ, ◌+◌, ◌≤◌, ◌<◌, ◌≡◌, ◌≢◌, Bool, false, ◌&&◌, ◌||◌, not, List, [], ◌∷◌, ◌++◌, eqb, ltb, length}
use Rattle.std.proofs.Math.Path.{refl}
use Rattle.std.proofs.Common.{sym, ap, ◌∙◌, arith, eqb-true, ltb-true}
use Rattle.std.proofs.Math.Bool.{true}
use Rattle.std.proofs.lemmas.Bool.{false≢true, eqb-false}
use Rattle.std.proofs.Math.Decide.{dec_lt}
use Rattle.value.specs.Operators.{pick}
use Rattle.value.specs.Bytes.{word_or, word_at, stored}
use Rattle.machine_queue.specs.Stretch.{appended, removed}
use Rattle.formula.specs.declared.Refusal.TheVariants.{NotAble}
use Rattle.machine_layout.specs.Layout.{links_at, capacity_byte, operators_of, links_of, inputs_of, results_of, no_link, name_at, operator_at, kind_byte, port_of, register_at, size_of, link_at, need}
use Rattle.machine_gates.specs.Decide.{Decided, is_absent}
use Rattle.machine_firing.specs.Links.{on_link, removed_from, appended_from}
use Rattle.machine_firing.specs.LinkLaws.{link_part, Keeps, keeps-removed, keeps-appended, length-on, same-on, other-on, part-stored}
use Rattle.machine_firing.specs.Fire.{taken, given, planned, decision_at, plan_from, ready_from, performed_from, able_at, able_from, fired_at, fired_from}
use Rattle.machine_valid.specs.Below.{all_below, and_left, and_right, below_at}
use Rattle.machine_valid.specs.Valid.{figures_ok, unlike, unlike_at, fresh_at, result_ok, input_ok, letter_ok, named_ok, port_ok, kind_ok, register_ok, operator_ok, link_ok, valid}
use Rattle.machine_valid.specs.Figures.{valid-figures}
use Rattle.machine_calls.specs.Calls.{outcome, answers, refusal, size_in, standing, fired}
use Rattle.machine_calls.specs.CallLaws.{standing-good}
use Rattle.refusals.specs.FiredLinks.{Changes, AllKeep, Off, FiredLinks}

abbrev changed : ℕ → Changes → List ℕ → List ℕ
changed size [] m = m
changed size (c ∷ cs) m = changed size cs (on_link m size c.0 c.1)

untouched : (size : ℕ) (m : List ℕ) → need size ≤ length m → (cs : Changes) → AllKeep cs → (l : ℕ) → Off l cs → link_part (changed size cs m) size l ≡ link_part m size l
untouched size m h [] k l o = refl
untouched size m h (c ∷ cs) k l o =
    untouched size (on_link m size c.0 c.1) (omega (arith, length-on m links_at size h c.0 c.1 k.0)) cs k.1 l o.1
    ∙ other-on m links_at size h c.0 c.1 k.0 l o.0

once : (size : ℕ) (m : List ℕ) → need size ≤ length m → (xs : Changes) → AllKeep xs → (f : List ℕ → List ℕ) → Keeps f → (ys : Changes) → AllKeep ys
    → (l : ℕ) → l < 3105 → Off l xs → Off l ys → link_part (changed size (xs ++ ((l, f) ∷ ys)) m) size l ≡ f (link_part m size l)
once size m h [] kx f kf ys ky l b ox oy =
    untouched size (on_link m size l f) (omega (arith, length-on m links_at size h l f kf)) ys ky l oy ∙ same-on m links_at size h l f kf b
once size m h (c ∷ xs) kx f kf ys ky l b ox oy =
    once size (on_link m size c.0 c.1) (omega (arith, length-on m links_at size h c.0 c.1 kx.0)) xs kx.1 f kf ys ky l b ox.1 oy
    ∙ ap f (other-on m links_at size h c.0 c.1 kx.0 l ox.0)

-- a change that is made or not
off-both : (l : ℕ) (xs ys : Changes) (c : ℕ × (List ℕ → List ℕ)) → Off l xs → l ≢ c.0 → Off l ys → Off l (xs ++ (c ∷ ys))
off-both l [] ys c a b d = (b, d)
off-both l (x ∷ xs) ys c a b d = (a.0, off-both l xs ys c a.1 b d)

keep-both : (xs ys : Changes) (c : ℕ × (List ℕ → List ℕ)) → AllKeep xs → Keeps c.1 → AllKeep ys → AllKeep (xs ++ (c ∷ ys))
keep-both [] ys c a b d = (b, d)
keep-both (x ∷ xs) ys c a b d = (a.0, keep-both xs ys c a.1 b d)

module _ (size : ℕ) (m : List ℕ) (h : need size ≤ length m) (xs : Changes) (kx : AllKeep xs) (f : List ℕ → List ℕ) (kf : Keeps f) (ys : Changes) (ky : AllKeep ys)
    (l : ℕ) (b : l < 3105) (ox : Off l xs) (oy : Off l ys) where
  past : l ≢ no_link
  past = omega arith

  where-made : (made : Bool) → link_part (changed size (xs ++ ((pick made l no_link, f) ∷ ys)) m) size l ≡ pick made (f (link_part m size l)) (link_part m size l)
  where-made true = once size m h xs kx f kf ys ky l b ox oy
  where-made false = untouched size m h (xs ++ ((no_link, f) ∷ ys)) (keep-both xs ys (no_link, f) kx kf ky) l (off-both l xs ys (no_link, f) ox past oy)

  where-not : (absent : Bool) → link_part (changed size (xs ++ ((pick absent no_link l, f) ∷ ys)) m) size l ≡ pick absent (link_part m size l) (f (link_part m size l))
  where-not false = once size m h xs kx f kf ys ky l b ox oy
  where-not true = untouched size m h (xs ++ ((no_link, f) ∷ ys)) (keep-both xs ys (no_link, f) kx kf ky) l (off-both l xs ys (no_link, f) ox past oy)

off-taken : (l x : ℕ) → l < 3105 → l ≢ x → (b : Bool) → l ≢ pick b x no_link
off-taken l x h ne true = ne
off-taken l x h ne false = omega arith

off-given : (l x : ℕ) → l < 3105 → l ≢ x → (b : Bool) → l ≢ pick b no_link x
off-given l x h ne true = omega arith
off-given l x h ne false = ne

-- ---- 31: no link twice by one operator
unlike-says : (x y : ℕ) → unlike x y ≡ true → x < 3105 → x ≢ y
unfolding unlike
unlike-says x y t h e = go (eqb x y) refl (eqb x no_link) refl t
  where
    go : (a : Bool) → eqb x y ≡ a → (b : Bool) → eqb x no_link ≡ b → not a || b ≡ true → ⊥
    go false p b q r = eqb-false x y p e
    go true p false q r = false≢true r
    go true p true q r = let z = eqb-true x no_link q in omega arith

module _ (m : List ℕ) (i : ℕ) (good : valid m ≡ true) (there : i < operators_of m) where
  named : (p : ℕ) → p < 6 → fresh_at m (operator_at i + 2) p ≡ true
  unfolding valid operator_ok named_ok
  named p h =
      let kind = kind_byte m i in
      let operators = all_below (operators_of m) (operator_ok m) in
      let rest = all_below (links_of m) (link_ok m (size_of (capacity_byte m))) && (all_below (inputs_of m + 1) (input_ok m) && (all_below (inputs_of m) (letter_ok m) && all_below (results_of m) (result_ok m 74))) in
      let o : operator_ok m i ≡ true = below_at (operators_of m) (operator_ok m) (and_left operators rest (and_right (figures_ok m) (operators && rest) good)) i there in
      let names = all_below 6 (named_ok m (operator_at i + 2) kind) in
      let registered = register_ok kind (word_at m (register_at i)) in
      let n = below_at 6 (named_ok m (operator_at i + 2) kind) (and_left names registered (and_right (kind_ok kind) (names && registered) o)) p h in
      and_right (port_ok kind (links_of m) p (name_at m (operator_at i + 2) p)) (fresh_at m (operator_at i + 2) p) n

  earlier : (p q : ℕ) → p < 6 → q < p → unlike (port_of m i p) (port_of m i q) ≡ true
  unfolding fresh_at unlike_at
  earlier p q h l = below_at p (unlike_at m (operator_at i + 2) p) (named p h) q l

  apart : (p q : ℕ) → p < 6 → q < 6 → p ≢ q → port_of m i p < 3105 → port_of m i p ≢ port_of m i q
  apart p q h k ne b e = go (dec_lt q p)
    where
      go : Dec (q < p) → ⊥
      go (yes l) = unlike-says (port_of m i p) (port_of m i q) (earlier p q h l) b e
      go (no l) = unlike-says (port_of m i q) (port_of m i p) (earlier q p k (omega arith)) (omega (arith, e)) (sym e)

module _ (m : List ℕ) (i : ℕ) (st : standing m ≡ 0) (there : i < operators_of m) (can : able_at m (size_in m) i ≡ true) where
  abbrev size : ℕ
  size = size_in m

  abbrev d : Decided
  d = decision_at m size i

  long : need size ≤ length m
  long = (standing-good m st).0

  good : valid m ≡ true
  good = (standing-good m st).1

  abbrev takes1 : ℕ × (List ℕ → List ℕ)
  takes1 = (pick d.take1 (port_of m i 0) no_link, removed)

  abbrev takes2 : ℕ × (List ℕ → List ℕ)
  takes2 = (pick d.take2 (port_of m i 1) no_link, removed)

  abbrev takes3 : ℕ × (List ℕ → List ℕ)
  takes3 = (pick d.take3 (port_of m i 2) no_link, removed)

  abbrev gives1 : ℕ × (List ℕ → List ℕ)
  gives1 = (pick (is_absent d.give1) no_link (port_of m i 3), λ s. appended s (word_or d.give1))

  abbrev gives2 : ℕ × (List ℕ → List ℕ)
  gives2 = (pick (is_absent d.give2) no_link (port_of m i 4), λ s. appended s (word_or d.give2))

  abbrev gives3 : ℕ × (List ℕ → List ℕ)
  gives3 = (pick (is_absent d.give3) no_link (port_of m i 5), λ s. appended s (word_or d.give3))

  fired-is : fired_at m size i ≡ stored (changed size (takes1 ∷ takes2 ∷ takes3 ∷ gives1 ∷ gives2 ∷ gives3 ∷ []) m) (register_at i) (word_or d.register)
  unfolding fired_from performed_from plan_from planned taken given removed_from appended_from
  fired-is = rw can refl

  below : i < 1024
  below = let F = valid-figures m good in omega (arith, F.operators)

  -- the register lies below the links
  behind : (l : ℕ) → link_part (fired_at m size i) size l ≡ link_part (changed size (takes1 ∷ takes2 ∷ takes3 ∷ gives1 ∷ gives2 ∷ gives3 ∷ []) m) size l
  behind l =
      ap (λ (n : List ℕ). link_part n size l) fired-is
      ∙ part-stored (changed size (takes1 ∷ takes2 ∷ takes3 ∷ gives1 ∷ gives2 ∷ gives3 ∷ []) m) (register_at i) (word_or d.register) (link_at size l) size (omega (arith, below))

  module _ (l : ℕ) (b : l < 3105) where
    off1 : l ≢ port_of m i 0 → l ≢ takes1.0
    off1 ne = off-taken l (port_of m i 0) b ne d.take1

    off2 : l ≢ port_of m i 1 → l ≢ takes2.0
    off2 ne = off-taken l (port_of m i 1) b ne d.take2

    off3 : l ≢ port_of m i 2 → l ≢ takes3.0
    off3 ne = off-taken l (port_of m i 2) b ne d.take3

    off4 : l ≢ port_of m i 3 → l ≢ gives1.0
    off4 ne = off-given l (port_of m i 3) b ne (is_absent d.give1)

    off5 : l ≢ port_of m i 4 → l ≢ gives2.0
    off5 ne = off-given l (port_of m i 4) b ne (is_absent d.give2)

    off6 : l ≢ port_of m i 5 → l ≢ gives3.0
    off6 ne = off-given l (port_of m i 5) b ne (is_absent d.give3)

  able-decided : d.able ≡ true
  unfolding able_from ready_from plan_from planned
  able-decided = and_left d.able _ can

  k1 : Keeps removed
  k1 = keeps-removed

  k4 : Keeps (λ s. appended s (word_or d.give1))
  k4 = keeps-appended (word_or d.give1)

  k5 : Keeps (λ s. appended s (word_or d.give2))
  k5 = keeps-appended (word_or d.give2)

  k6 : Keeps (λ s. appended s (word_or d.give3))
  k6 = keeps-appended (word_or d.give3)

  other : (p q : ℕ) → p < 6 → q < 6 → p ≢ q → port_of m i p < 3105 → port_of m i p ≢ port_of m i q
  other = apart m i good there

  pub firing-links : FiredLinks m i (fired_at m (size_in m) i)
  firing-links =
      record {
        able = able-decided;
        input1 = λ b. behind (port_of m i 0)
            ∙ where-made size m long [] tt removed k1 (takes2 ∷ takes3 ∷ gives1 ∷ gives2 ∷ gives3 ∷ []) (k1, (k1, (k4, (k5, (k6, tt))))) (port_of m i 0) b tt (
              off2 (port_of m i 0) b (other 0 1 (omega arith) (omega arith) (omega arith) b),
              (
                off3 (port_of m i 0) b (other 0 2 (omega arith) (omega arith) (omega arith) b),
                (
                  off4 (port_of m i 0) b (other 0 3 (omega arith) (omega arith) (omega arith) b),
                  (
                    off5 (port_of m i 0) b (other 0 4 (omega arith) (omega arith) (omega arith) b),
                    (off6 (port_of m i 0) b (other 0 5 (omega arith) (omega arith) (omega arith) b), tt),
                  ),
                ),
              ),
            ) d.take1;
        input2 = λ b. behind (port_of m i 1)
            ∙ where-made size m long (takes1 ∷ []) (k1, tt) removed k1 (takes3 ∷ gives1 ∷ gives2 ∷ gives3 ∷ []) (k1, (k4, (k5, (k6, tt)))) (port_of m i 1) b
            (off1 (port_of m i 1) b (other 1 0 (omega arith) (omega arith) (omega arith) b), tt) (
              off3 (port_of m i 1) b (other 1 2 (omega arith) (omega arith) (omega arith) b),
              (
                off4 (port_of m i 1) b (other 1 3 (omega arith) (omega arith) (omega arith) b),
                (off5 (port_of m i 1) b (other 1 4 (omega arith) (omega arith) (omega arith) b), (off6 (port_of m i 1) b (other 1 5 (omega arith) (omega arith) (omega arith) b), tt)),
              ),
            ) d.take2;
        input3 = λ b. behind (port_of m i 2)
            ∙ where-made size m long (takes1 ∷ takes2 ∷ []) (k1, (k1, tt)) removed k1 (gives1 ∷ gives2 ∷ gives3 ∷ []) (k4, (k5, (k6, tt))) (port_of m i 2) b
            (off1 (port_of m i 2) b (other 2 0 (omega arith) (omega arith) (omega arith) b), (off2 (port_of m i 2) b (other 2 1 (omega arith) (omega arith) (omega arith) b), tt)) (
              off4 (port_of m i 2) b (other 2 3 (omega arith) (omega arith) (omega arith) b),
              (
                off5 (port_of m i 2) b (other 2 4 (omega arith) (omega arith) (omega arith) b),
                (off6 (port_of m i 2) b (other 2 5 (omega arith) (omega arith) (omega arith) b), tt),
              ),
            ) d.take3;
        output1 = λ b. behind (port_of m i 3)
            ∙ where-not size m long (takes1 ∷ takes2 ∷ takes3 ∷ []) (k1, (k1, (k1, tt))) (λ s. appended s (word_or d.give1)) k4 (gives2 ∷ gives3 ∷ []) (k5, (k6, tt)) (port_of m i 3) b (
              off1 (port_of m i 3) b (other 3 0 (omega arith) (omega arith) (omega arith) b),
              (
                off2 (port_of m i 3) b (other 3 1 (omega arith) (omega arith) (omega arith) b),
                (off3 (port_of m i 3) b (other 3 2 (omega arith) (omega arith) (omega arith) b), tt),
              ),
            )
            (off5 (port_of m i 3) b (other 3 4 (omega arith) (omega arith) (omega arith) b), (off6 (port_of m i 3) b (other 3 5 (omega arith) (omega arith) (omega arith) b), tt))
            (is_absent d.give1);
        output2 = λ b. behind (port_of m i 4)
            ∙ where-not size m long (takes1 ∷ takes2 ∷ takes3 ∷ gives1 ∷ []) (k1, (k1, (k1, (k4, tt)))) (λ s. appended s (word_or d.give2)) k5 (gives3 ∷ []) (k6, tt) (port_of m i 4) b (
              off1 (port_of m i 4) b (other 4 0 (omega arith) (omega arith) (omega arith) b),
              (
                off2 (port_of m i 4) b (other 4 1 (omega arith) (omega arith) (omega arith) b),
                (off3 (port_of m i 4) b (other 4 2 (omega arith) (omega arith) (omega arith) b), (off4 (port_of m i 4) b (other 4 3 (omega arith) (omega arith) (omega arith) b), tt)),
              ),
            )
            (off6 (port_of m i 4) b (other 4 5 (omega arith) (omega arith) (omega arith) b), tt) (is_absent d.give2);
        output3 = λ b. behind (port_of m i 5)
            ∙ where-not size m long (takes1 ∷ takes2 ∷ takes3 ∷ gives1 ∷ gives2 ∷ []) (k1, (k1, (k1, (k4, (k5, tt))))) (λ s. appended s (word_or d.give3)) k6 [] tt (port_of m i 5) b (
              off1 (port_of m i 5) b (other 5 0 (omega arith) (omega arith) (omega arith) b),
              (
                off2 (port_of m i 5) b (other 5 1 (omega arith) (omega arith) (omega arith) b),
                (
                  off3 (port_of m i 5) b (other 5 2 (omega arith) (omega arith) (omega arith) b),
                  (
                    off4 (port_of m i 5) b (other 5 3 (omega arith) (omega arith) (omega arith) b),
                    (off5 (port_of m i 5) b (other 5 4 (omega arith) (omega arith) (omega arith) b), tt),
                  ),
                ),
              ),
            ) tt (is_absent d.give3);
        elsewhere = λ l b ne. behind l
            ∙ untouched size m long (takes1 ∷ takes2 ∷ takes3 ∷ gives1 ∷ gives2 ∷ gives3 ∷ []) (k1, (k1, (k1, (k4, (k5, (k6, tt)))))) l
            (off1 l b (ne 0 (omega arith)), (off2 l b (ne 1 (omega arith)), (off3 l b (ne 2 (omega arith)), (off4 l b (ne 3 (omega arith)), (off5 l b (ne 4 (omega arith)), (off6 l b (ne 5 (omega arith)), tt))))));
      }

-- AN ACCEPTED FIRE, whatever the memory: it gets neither 11 nor 31, so it is in good standing.
pub fire-links : (m : List ℕ) (i : ℕ) → (fired m i).answer.refusal ≡ 0 → FiredLinks m i (fired m i).mem
unfolding fired
fire-links m i = go (eqb (standing m) 0) refl (ltb i (operators_of m)) refl (able_at m (size_in m) i) refl
  where
    go : (a : Bool) → eqb (standing m) 0 ≡ a → (b : Bool) → ltb i (operators_of m) ≡ b → (c : Bool) → able_at m (size_in m) i ≡ c
        → (pick a (pick (b && c) (outcome (answers 0 0) (fired_at m (size_in m) i)) (outcome (refusal NotAble) m)) (outcome (answers (standing m) 0) m)).answer.refusal ≡ 0
        → FiredLinks m i (pick a (pick (b && c) (outcome (answers 0 0) (fired_at m (size_in m) i)) (outcome (refusal NotAble) m)) (outcome (answers (standing m) 0) m)).mem
    go false e b f c t z = absurd (eqb-false (standing m) 0 e z)
    go true e false f c t z = absurd (omega arith)
    go true e true f false t z = absurd (omega arith)
    go true e true f true t z = firing-links m i (eqb-true (standing m) 0 e) (ltb-true i (operators_of m) f) t
