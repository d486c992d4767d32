-- Laws of specs/Branches.antt, and what only they need.
use Rattle.std.specs.Prelude.{ℕ, ◌<◌, ◌≡◌, refl, Bool, true, false, List, [], ◌∷◌, map, length, ltb}
use Rattle.std.proofs.Common.{sym, ◌∙◌, subst, ltb-true, ltb-false, arith}
use Rattle.std.proofs.Math.Path.{fun_ext}
use Rattle.std.proofs.lemmas.Bool.{false≢true}
use Rattle.std.proofs.Math.Option.{Option, none, some}
use Rattle.value.specs.declared.Value.{Value}
use Rattle.value.specs.declared.Sense.{Sense}
use Rattle.value.specs.declared.Sense.TheVariants.{True, False, Neither}
use Rattle.value.specs.Senses.{sense}
use Rattle.names.specs.Names.{Names, members}
use Rattle.graph.specs.Assembly.{Graph, bind, Gate, T, F, free}
use Rattle.graph.specs.Yields.{Values, Answer, absent, bound, output_count, YieldsIn, Sequel, Fires}
use Rattle.graph.specs.Fit.{Fit}
use Rattle.graph.specs.Translation.{test_name, row, gated, arm}
use Rattle.theory_yields.specs.Naming.{Small}
use Rattle.theory_yields.proofs.Naming.{member-members}
use Rattle.theory_yields.specs.Choice.{Has}
use Rattle.theory_yields.specs.FitParts.{Arms}
use Rattle.theory_yields.proofs.Gates.{T-passes, T-drops, F-passes, F-drops, differ}
use Rattle.theory_yields.proofs.Lookups.{absent-map, bound-self, bound-other}
use Rattle.theory_yields.proofs.Absence.{nothing_bound, absence}
use Rattle.theory_yields.proofs.Rows.{in-turn, gated-yields, row-yields}
use Rattle.theory_yields.specs.Branches.{AllAt}

-- ---- one arm
-- The gates let all names through.
pub arm-passes : (cut : Option ℕ) (G : Gate) (f : Names) (a : Graph) (ρ : Values) (c : ℕ) (z : Answer) → Small f
    → ((k : ℕ) → f k ≡ true → Fires G (ρ test_name ∷ ρ k ∷ []) (ρ k ∷ [])) → YieldsIn cut a ρ c z → YieldsIn cut (arm G f a) ρ c z
unfolding arm
arm-passes cut G f a ρ c z s p y =
    in-turn cut (members f) (row (gated G) (members f)) a ρ 0 c c (map ρ (members f)) z (omega arith)
    (row-yields cut ρ (gated G) ρ (members f) (λ k m. gated-yields cut ρ G k (ρ k ∷ []) (p k (sym (member-members f s k) ∙ m))))
    (subst (λ (σ : Values). YieldsIn cut a σ c z) (sym (fun_ext (λ k. bound-self ρ (members f) k))) y)

-- The gates absorb all names.
pub arm-absorbs : (cut : Option ℕ) (G : Gate) (f : Names) (a : Graph) (ρ : Values) → Small f → Has a f → Fit a
    → ((k : ℕ) → f k ≡ true → Fires G (ρ test_name ∷ ρ k ∷ []) (none ∷ [])) → YieldsIn cut (arm G f a) ρ 0 (some (absent (output_count a)))
unfolding arm
arm-absorbs cut G f a ρ s e h p =
    in-turn cut (members f) (row (gated G) (members f)) a ρ 0 0 0 (absent (length (members f))) (some (absent (output_count a))) refl
    (subst (λ (vs : List (Option Value)). YieldsIn cut (row (gated G) (members f)) ρ 0 (some vs)) (absent-map (members f) (λ k. none) (λ k m. refl))
    (row-yields cut ρ (gated G) (λ k. none) (members f) (λ k m. gated-yields cut ρ G k (none ∷ []) (p k (sym (member-members f s k) ∙ m)))))
    (absence cut a h (bound (members f) (absent (length (members f))) ρ)
    (nothing_bound (members f) (free a) ρ
    (λ k q m. absurd (false≢true (sym m ∙ member-members f s k ∙ sym (e k) ∙ q)))))

-- ---- T and F on a name that has a value
module _ (ρ : Values) (c : Value) (at_test : ρ test_name ≡ some c) where
  here : (G : Gate) (k : ℕ) (v : Value) (w : Option Value) → ρ k ≡ some v → Fires G (some c ∷ some v ∷ []) (w ∷ [])
      → Fires G (ρ test_name ∷ ρ k ∷ []) (w ∷ [])
  here G k v w e h = rw (at_test, e) h

  T-through : (f : Names) → AllAt f ρ → sense c ≡ True → (k : ℕ) → f k ≡ true → Fires T (ρ test_name ∷ ρ k ∷ []) (ρ k ∷ [])
  T-through f a s k h =
      let v = a k h in
      subst (λ (w : Option Value). Fires T (ρ test_name ∷ ρ k ∷ []) (w ∷ [])) (sym v.1) (here T k v.0 (some v.0) v.1 (T-passes c v.0 s))

  F-through : (f : Names) → AllAt f ρ → sense c ≡ False → (k : ℕ) → f k ≡ true → Fires F (ρ test_name ∷ ρ k ∷ []) (ρ k ∷ [])
  F-through f a s k h =
      let v = a k h in
      subst (λ (w : Option Value). Fires F (ρ test_name ∷ ρ k ∷ []) (w ∷ [])) (sym v.1) (here F k v.0 (some v.0) v.1 (F-passes c v.0 s))

  T-away : (f : Names) → AllAt f ρ → (s : Sense) → sense c ≡ s → (s ≡ True → ⊥) → (k : ℕ) → f k ≡ true
      → Fires T (ρ test_name ∷ ρ k ∷ []) (none ∷ [])
  T-away f a s e n k h = let v = a k h in here T k v.0 none v.1 (T-drops c v.0 s e n)

  F-away : (f : Names) → AllAt f ρ → (s : Sense) → sense c ≡ s → (s ≡ False → ⊥) → (k : ℕ) → f k ≡ true
      → Fires F (ρ test_name ∷ ρ k ∷ []) (none ∷ [])
  F-away f a s e n k h = let v = a k h in here F k v.0 none v.1 (F-drops c v.0 s e n)

-- ---- both arms
module _ (ns : List ℕ) (f : Names) (a : Graph) (ms : List ℕ) (g : Names) (b j : Graph) (A : Arms ns f a ms g b) where
  abbrev pub behind : Graph
  behind = bind ns (arm T f a) (bind ms (arm F g b) j)

  module _ (cut : Option ℕ) (ρ : Values) (c : Value) (at_test : ρ test_name ≡ some c) (all-f : AllAt f ρ) (all-g : AllAt g ρ) where
    -- binding the first arm's outputs leaves the test and the names of the second arm
    still-test : (xs : List (Option Value)) → bound ns xs ρ test_name ≡ some c
    still-test xs = bound-other ρ ns xs test_name (A.from-n test_name (omega arith)) ∙ at_test

    still-all : (xs : List (Option Value)) → AllAt g (bound ns xs ρ)
    still-all xs k h = let v = all-g k h in (v.0, bound-other ρ ns xs k (A.from-n k (low k h)) ∙ v.1)
      where
        low : (k : ℕ) → g k ≡ true → k < 34
        low k h = go (ltb k 33) refl
          where
            go : (s : Bool) → ltb k 33 ≡ s → k < 34
            go true e = omega (arith, ltb-true k 33 e)
            go false e = absurd (false≢true (sym (A.small-g k (ltb-false k 33 e)) ∙ h))

    first-absorbs : (s : Sense) → sense c ≡ s → (s ≡ True → ⊥) → YieldsIn cut (arm T f a) ρ 0 (some (absent (length ns)))
    first-absorbs s e n =
        subst (λ m. YieldsIn cut (arm T f a) ρ 0 (some (absent m))) A.count-a
        (arm-absorbs cut T f a ρ A.small-f A.has-f A.fit-a (T-away ρ c at_test f all-f s e n))

    second-absorbs : (xs : List (Option Value)) (s : Sense) → sense c ≡ s → (s ≡ False → ⊥)
        → YieldsIn cut (arm F g b) (bound ns xs ρ) 0 (some (absent (length ms)))
    second-absorbs xs s e n =
        subst (λ m. YieldsIn cut (arm F g b) (bound ns xs ρ) 0 (some (absent m))) A.count-b
        (arm-absorbs cut F g b (bound ns xs ρ) A.small-g A.has-g A.fit-b (F-away (bound ns xs ρ) c (still-test xs) g (still-all xs) s e n))

    pub chosen-true : sense c ≡ True → (n : ℕ) (xs zs : List (Option Value)) → YieldsIn cut a ρ n (some xs)
        → YieldsIn cut j (bound ms (absent (length ms)) (bound ns xs ρ)) 0 (some zs) → YieldsIn cut behind ρ n (some zs)
    chosen-true e n xs zs p q =
        in-turn cut ns (arm T f a) (bind ms (arm F g b) j) ρ n 0 n xs (some zs) (omega arith)
        (arm-passes cut T f a ρ n (some xs) A.small-f (T-through ρ c at_test f all-f e) p)
        (in-turn cut ms (arm F g b) j (bound ns xs ρ) 0 0 0 (absent (length ms)) (some zs) refl
        (second-absorbs xs True e (differ True False (λ z. omega arith))) q)

    pub chosen-true-stops : sense c ≡ True → (n : ℕ) → YieldsIn cut a ρ n none → YieldsIn cut behind ρ n none
    chosen-true-stops e n p = Sequel.stops n (arm-passes cut T f a ρ n none A.small-f (T-through ρ c at_test f all-f e) p)

    pub chosen-false : sense c ≡ False → (n : ℕ) (ys zs : List (Option Value)) → YieldsIn cut b (bound ns (absent (length ns)) ρ) n (some ys)
        → YieldsIn cut j (bound ms ys (bound ns (absent (length ns)) ρ)) 0 (some zs) → YieldsIn cut behind ρ n (some zs)
    chosen-false e n ys zs p q =
        in-turn cut ns (arm T f a) (bind ms (arm F g b) j) ρ 0 n n (absent (length ns)) (some zs) (omega arith)
        (first-absorbs False e (differ False True (λ z. omega arith)))
        (in-turn cut ms (arm F g b) j (bound ns (absent (length ns)) ρ) n 0 n ys (some zs) (omega arith)
        (arm-passes cut F g b (bound ns (absent (length ns)) ρ) n (some ys) A.small-g
        (F-through (bound ns (absent (length ns)) ρ) c (still-test (absent (length ns))) g (still-all (absent (length ns))) e) p)
        q)

    pub chosen-false-stops : sense c ≡ False → (n : ℕ) → YieldsIn cut b (bound ns (absent (length ns)) ρ) n none → YieldsIn cut behind ρ n none
    chosen-false-stops e n p =
        in-turn cut ns (arm T f a) (bind ms (arm F g b) j) ρ 0 n n (absent (length ns)) none (omega arith)
        (first-absorbs False e (differ False True (λ z. omega arith)))
        (Sequel.stops n
        (arm-passes cut F g b (bound ns (absent (length ns)) ρ) n none A.small-g
        (F-through (bound ns (absent (length ns)) ρ) c (still-test (absent (length ns))) g (still-all (absent (length ns))) e) p))

    pub chosen-neither : sense c ≡ Neither → (zs : List (Option Value))
        → YieldsIn cut j (bound ms (absent (length ms)) (bound ns (absent (length ns)) ρ)) 0 (some zs) → YieldsIn cut behind ρ 0 (some zs)
    chosen-neither e zs q =
        in-turn cut ns (arm T f a) (bind ms (arm F g b) j) ρ 0 0 0 (absent (length ns)) (some zs) refl
        (first-absorbs Neither e (differ Neither True (λ z. omega arith)))
        (in-turn cut ms (arm F g b) j (bound ns (absent (length ns)) ρ) 0 0 0 (absent (length ms)) (some zs) refl
        (second-absorbs (absent (length ns)) Neither e (differ Neither False (λ z. omega arith))) q)
