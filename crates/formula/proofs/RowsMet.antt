-- Laws of specs/RowsMet.antt, and what only they need.
use Prim.Native.Nat.{ℕ, zero, suc, ◌+◌, ◌≤◌, ◌<◌}
use Rattle.std.specs.Prelude.{◌≡◌, ◌↔◌, ◌⊎◌, true, cond, eqb, Err}
use Rattle.std.proofs.Math.Path.{refl, sym, ap}
use Rattle.std.proofs.Common.{subst, ◌∙◌, inl, inr, eq-eqb, ne_eqb, arith}
use Rattle.std.proofs.Math.Bool.{Bool, false}
use mathlib.Core.List.{List, [], ◌∷◌, ◌++◌, map, append-nil}
use Rattle.std.proofs.Math.Decide.{ℕ_discrete}
use Rattle.formula.specs.declared.Shape.{Shape}
use Rattle.formula.specs.declared.Shape.TheVariants.{Identifier, Constant, Pair, Operator, Let, If, For, Iter}
use Rattle.formula.specs.Sheet.{shape_at, named_in}
use Rattle.formula.specs.Places.{is_in_body, places_of, node_in}
use Rattle.formula.specs.Kinds.{Kinds, Rule}
use Rattle.formula.specs.Faults.{faults_below, own_fault, faults_in, lowest_of, kind_check}
use Rattle.formula.specs.Tests.{occurrences}
use Rattle.formula.specs.TreeLaws.{AllBetween, Named}
use Rattle.formula.specs.FaultRows.{Among, Given}
use Rattle.formula.proofs.FaultRows.{lowest-given}
use Rattle.formula.specs.FaultLaws.{faults_at}
use Rattle.formula.proofs.FaultLaws.{faults-as}
use Rattle.formula.specs.PlaceLaws.{Sound, field_places, Namer}
use Rattle.formula.proofs.PlaceLaws.{places-named, named-once, only-namer, namer, last-place}
use Rattle.formula.specs.RowsMet.{Placed, named_at, Met, the-formula, below, Somewhere, Broken, LowestBroken}

-- ---- lists
among-parts : {A : Type 0} (x : A) (l m : List A) → Among x (l ++ m) → Among x l ⊎ Among x m
among-parts x [] m h = inr h
among-parts x (y ∷ l) m (inl e) = inl (inl e)
among-parts x (y ∷ l) m (inr h) = go (among-parts x l m h)
  where
    go : Among x l ⊎ Among x m → ((x ≡ y) ⊎ Among x l) ⊎ Among x m
    go (inl a) = inl (inr a)
    go (inr a) = inr a

among_first : {A : Type 0} (x : A) (l m : List A) → Among x l → Among x (l ++ m)
among_first x [] m h = absurd h
among_first x (y ∷ l) m (inl e) = inl e
among_first x (y ∷ l) m (inr h) = inr (among_first x l m h)

among_second : {A : Type 0} (x : A) (l m : List A) → Among x m → Among x (l ++ m)
among_second x [] m h = h
among_second x (y ∷ l) m h = inr (among_second x l m h)

-- ---- the rows that a row names
-- They are those of test 5, in the places of tests 7 to 9.
rows-listed : (t : List ℕ) (b : Bool) (ks : Kinds) (s : Shape) → map (λ p. p.row) (named_at t b ks s) ≡ named_in s
unfolding named_at named_in
rows-listed t b ks (Identifier i) = refl
rows-listed t b ks (Constant k i) = refl
rows-listed t b ks (Pair x y) = refl
rows-listed t b ks (Operator k x) = refl
rows-listed t b ks (Let i k x y) = refl
rows-listed t b ks (If x y z) = refl
rows-listed t b ks (For i k x y) = refl
rows-listed t b ks (Iter x) = refl

places-listed : (t : List ℕ) (b : Bool) (ks : Kinds) (s : Shape) → map (λ p. p.body) (named_at t b ks s) ≡ field_places b s
unfolding named_at field_places
places-listed t b ks (Identifier i) = refl
places-listed t b ks (Constant k i) = refl
places-listed t b ks (Pair x y) = refl
places-listed t b ks (Operator k x) = refl
places-listed t b ks (Let i k x y) = refl
places-listed t b ks (If x y z) = refl
places-listed t b ks (For i k x y) = refl
places-listed t b ks (Iter x) = refl

-- The rows at fault below a row are those at the rows that it names.
module _ (F : Bool → Kinds → ℕ → List ℕ) where
  abbrev at : Placed → List ℕ
  at p = F p.body p.kinds p.row

  abbrev gathered : List Placed → List ℕ
  gathered [] = []
  gathered (p ∷ ps) = at p ++ gathered ps

  below-gathered : (t : List ℕ) (b : Bool) (ks : Kinds) (s : Shape) → faults_below F t b ks s ≡ gathered (named_at t b ks s)
  unfolding faults_below named_at
  below-gathered t b ks (Identifier i) = refl
  below-gathered t b ks (Constant k i) = refl
  below-gathered t b ks (Pair x y) = ap (λ (l : List ℕ). F false ks x ++ l) (sym (append-nil _))
  below-gathered t b ks (Operator k x) = sym (append-nil _)
  below-gathered t b ks (Let i k x y) = ap (λ (l : List ℕ). F false ks x ++ l) (sym (append-nil _))
  below-gathered t b ks (If x y z) = ap (λ (l : List ℕ). F false ks x ++ (F b ks y ++ l)) (sym (append-nil _))
  below-gathered t b ks (For i k x y) = ap (λ (l : List ℕ). F false ks x ++ l) (sym (append-nil _))
  below-gathered t b ks (Iter x) = sym (append-nil _)

  gathered-from : (r : ℕ) (ps : List Placed) → Among r (gathered ps) → (p : Placed) × Among p ps × Among r (at p)
  gathered-from r [] h = absurd h
  gathered-from r (p ∷ ps) h = go (among-parts r (at p) (gathered ps) h) (gathered-from r ps)
    where
      go : Among r (at p) ⊎ Among r (gathered ps) → (Among r (gathered ps) → (q : Placed) × Among q ps × Among r (at q))
          → (q : Placed) × ((q ≡ p) ⊎ Among q ps) × Among r (at q)
      go (inl a) ih = (p, inl refl, a)
      go (inr a) ih = let f = ih a in (f.0, inr f.1, f.2)

  from-gathered : (r : ℕ) (ps : List Placed) (p : Placed) → Among p ps → Among r (at p) → Among r (gathered ps)
  from-gathered r [] p h a = absurd h
  from-gathered r (q ∷ ps) p (inl e) a = among_first r (at q) (gathered ps) (subst (λ (z : Placed). Among r (at z)) e a)
  from-gathered r (q ∷ ps) p (inr h) a = among_second r (at q) (gathered ps) (from-gathered r ps p h a)

each-between : (r : ℕ) (ps : List Placed) → AllBetween r (map (λ p. p.row) ps) → (p : Placed) → Among p ps → (1 ≤ p.row) × (p.row < r)
each-between r [] h p a = absurd a
each-between r (q ∷ ps) h p (inl e) = subst (λ (z : Placed). (1 ≤ z.row) × (z.row < r)) (sym e) h.0
each-between r (q ∷ ps) h p (inr a) = each-between r ps h.1 p a

-- ---- the rows at fault are the rows met that break the rule
module _ (t : List ℕ) (n : ℕ) (kinds : Kinds) where
  from-faults : (rule : Rule) (depth r : ℕ) (b : Bool) (ks : Kinds) → Met t n kinds r b ks → (x : ℕ) → Among x (faults_in rule depth t b ks r)
      → Broken rule t n kinds x
  unfolding faults_in
  from-faults rule zero r b ks m x h = absurd h
  from-faults rule (suc depth) r b ks m x h =
      go (from-faults rule depth) (among-parts x (own_fault r (rule (node_in b t r) ks)) (faults_below F t b ks (shape_at t r)) h)
    where
      F : Bool → Kinds → ℕ → List ℕ
      F c ls k = faults_in rule depth t c ls k

      own : (kept : Bool) → rule (node_in b t r) ks ≡ kept → Among x (own_fault r kept) → Broken rule t n kinds x
      own true e a = absurd a
      own false e (inl q) = subst (Broken rule t n kinds) (sym q) (b, ks, m, e)
      own false e (inr a) = absurd a

      go : ((k : ℕ) (c : Bool) (ls : Kinds) → Met t n kinds k c ls → (y : ℕ) → Among y (F c ls k) → Broken rule t n kinds y)
          → Among x (own_fault r (rule (node_in b t r) ks)) ⊎ Among x (faults_below F t b ks (shape_at t r)) → Broken rule t n kinds x
      go ih (inl a) = own (rule (node_in b t r) ks) refl a
      go ih (inr a) =
          let f = gathered-from F x (named_at t b ks (shape_at t r)) (subst (Among x) (below-gathered F t b ks (shape_at t r)) a) in
          ih f.0.row f.0.body f.0.kinds (below r b ks m f.0 f.1) x f.2

  module _ (ok : Named t n) (some : 1 ≤ n) where
    -- They are rows of the sheet.
    pub met-row : (r : ℕ) (b : Bool) (ks : Kinds) → Met t n kinds r b ks → (1 ≤ r) × (r ≤ n)
    met-row r b ks the-formula = (some, omega arith)
    met-row r b ks (below k c ls m p a) =
        let i = met-row k c ls m in
        let j = each-between k (named_at t c ls (shape_at t k)) (subst (AllBetween k) (sym (rows-listed t c ls (shape_at t k))) (ok.names k i.0 i.1)) p a in
        (j.0, omega (arith, i.1, j.1))

    module _ (rule : Rule) where
      into-faults : (r : ℕ) (b : Bool) (ks : Kinds) → Met t n kinds r b ks → (x : ℕ) → Among x (faults_at rule t b ks r) → Among x (faults_at rule t false kinds n)
      into-faults r b ks the-formula x h = h
      into-faults r b ks (below k c ls m p a) x h =
          let i = met-row k c ls m in
          let e = faults-as rule t n ok k i.0 i.1 c ls (shape_at t k) refl ∙ ap (λ (l : List ℕ). own_fault k (rule (node_in c t k) ls) ++ l) (below-gathered (faults_at rule t) t c ls (shape_at t k)) in
          into-faults k c ls m x
          (subst (Among x) (sym e) (among_second x (own_fault k (rule (node_in c t k) ls)) _ (from-gathered (faults_at rule t) x (named_at t c ls (shape_at t k)) p a h)))

      own-fault : (r : ℕ) (b : Bool) (ks : Kinds) → (1 ≤ r) × (r ≤ n) → rule (node_in b t r) ks ≡ false → Among r (faults_at rule t b ks r)
      own-fault r b ks i e =
          let f = faults-as rule t n ok r i.0 i.1 b ks (shape_at t r) refl ∙ ap (λ (z : Bool). own_fault r z ++ faults_below (faults_at rule t) t b ks (shape_at t r)) e in
          subst (Among r) (sym f) (inl refl)

      -- The rows at fault are those that break the rule where they stand.
      pub broken-iff : (r : ℕ) → Among r (faults_in rule n t false kinds n) ↔ Broken rule t n kinds r
      broken-iff r = (
        from-faults rule n n false kinds the-formula r,
        λ f. into-faults r f.0 f.1 f.2 r (own-fault r f.0 f.1 (met-row r f.0 f.1 f.2) f.3),
      )

-- A row is given where there is one.
some-row : (rule : Rule) (t : List ℕ) (n : ℕ) (kinds : Kinds) (row : ℕ) → kind_check rule t n kinds ≡ Err row → 1 ≤ n
unfolding kind_check faults_in lowest_of
some-row rule t zero kinds row h = absurd (let z : ◌≡◌ {A = ℕ} 0 1 = cc h in omega arith)
some-row rule t (suc n) kinds row h = omega arith

-- Of 18 the lowest row that breaks the rule where it stands is given.
pub lowest-broken : (rule : Rule) (t : List ℕ) (n : ℕ) → Named t n → (kinds : Kinds) (row : ℕ) → kind_check rule t n kinds ≡ Err row
    → LowestBroken rule t n kinds row
unfolding kind_check
lowest-broken rule t n ok kinds row h = record { first = i.0; last = i.1; fault = f; lower = kept }
  where
    some : 1 ≤ n
    some = some-row rule t n kinds row h

    g : Given row (faults_in rule n t false kinds n)
    g = lowest-given (faults_in rule n t false kinds n) row h

    f : Broken rule t n kinds row
    f = (broken-iff t n kinds ok some rule row).0 g.0

    i : (1 ≤ row) × (row ≤ n)
    i = met-row t n kinds ok some row f.0 f.1 f.2

    kept : (j : ℕ) → j < row → (b : Bool) (ks : Kinds) → Met t n kinds j b ks → rule (node_in b t j) ks ≡ true
    kept j l b ks m = by (rule (node_in b t j) ks) refl
      where
        by : (z : Bool) → rule (node_in b t j) ks ≡ z → z ≡ true
        by true e = refl
        by false e = absurd (omega (arith, g.1 j ((broken-iff t n kinds ok some rule j).1 (b, ks, m, e))))

-- ---- each row is met, in one place with the same kinds
row-among : (x : ℕ) (ps : List Placed) → 1 ≤ occurrences x (map (λ p. p.row) ps) → (p : Placed) × Among p ps × (p.row ≡ x)
unfolding occurrences
row-among x [] h = absurd (omega arith)
row-among x (q ∷ ps) h = go (ℕ_discrete q.row x) (row-among x ps)
  where
    go : Dec (q.row ≡ x) → (1 ≤ occurrences x (map (λ p. p.row) ps) → (p : Placed) × Among p ps × (p.row ≡ x))
        → (p : Placed) × ((p ≡ q) ⊎ Among p ps) × (p.row ≡ x)
    go (yes e) later = (q, inl refl, e)
    go (no e) later =
        let z : cond {A = ℕ} (eqb q.row x) 1 0 ≡ 0 = rw (ne_eqb q.row x e) refl in
        let f = later (omega arith) in
        (f.0, inr f.1, f.2)

among-counted : (x : ℕ) (ps : List Placed) (p : Placed) → Among p ps → p.row ≡ x → 1 ≤ occurrences x (map (λ q. q.row) ps)
unfolding occurrences
among-counted x [] p a e = absurd a
among-counted x (q ∷ ps) p (inl f) e =
    let z : cond {A = ℕ} (eqb q.row x) 1 0 ≡ 1 = rw (eq-eqb q.row x (ap (λ (y : Placed). y.row) (sym f) ∙ e)) refl in
    omega arith
among-counted x (q ∷ ps) p (inr a) e = let i = among-counted x ps p a e in omega arith

once-among : (x : ℕ) (ps : List Placed) → occurrences x (map (λ p. p.row) ps) ≤ 1 → (p q : Placed) → Among p ps → Among q ps → p.row ≡ x → q.row ≡ x
    → p ≡ q
unfolding occurrences
once-among x [] h p q a c e f = absurd a
once-among x (y ∷ ps) h p q (inl a) (inl c) e f = a ∙ sym c
once-among x (y ∷ ps) h p q (inl a) (inr c) e f =
    let z : cond {A = ℕ} (eqb y.row x) 1 0 ≡ 1 = rw (eq-eqb y.row x (ap (λ (w : Placed). w.row) (sym a) ∙ e)) refl in
    absurd (let i = among-counted x ps q c f in omega arith)
once-among x (y ∷ ps) h p q (inr a) (inl c) e f =
    let z : cond {A = ℕ} (eqb y.row x) 1 0 ≡ 1 = rw (eq-eqb y.row x (ap (λ (w : Placed). w.row) (sym c) ∙ f)) refl in
    absurd (let i = among-counted x ps p a e in omega arith)
once-among x (y ∷ ps) h p q (inr a) (inr c) e f = once-among x ps (omega arith) p q a c e f

place-among : (f : ℕ → Bool) (ps : List Placed) → map f (map (λ p. p.row) ps) ≡ map (λ p. p.body) ps → (p : Placed) → Among p ps → f p.row ≡ p.body
place-among f [] h p a = absurd a
place-among f (q ∷ ps) h p (inl e) = subst (λ (z : Placed). f z.row ≡ z.body) (sym e) (cc h)
place-among f (q ∷ ps) h p (inr a) = place-among f ps (cc h) p a

module _ (t : List ℕ) (n : ℕ) (kinds : Kinds) (ok : Sound t n) (some : 1 ≤ n) where
  at_last : (r : ℕ) → r ≡ n → Somewhere t n kinds r
  at_last r e = subst (Somewhere t n kinds) (sym e) (false, kinds, the-formula)

  -- A row stands where the row that names it has it.
  by-namer : (r : ℕ) (w : Namer t n r) → Somewhere t n kinds w.row → Somewhere t n kinds r
  by-namer r w (b, ks, m) =
      let f = row-among r (named_at t b ks (shape_at t w.row)) (subst (λ (l : List ℕ). 1 ≤ occurrences r l) (sym (rows-listed t b ks (shape_at t w.row))) w.names) in
      subst (Somewhere t n kinds) f.2 (f.0.body, f.0.kinds, below w.row b ks m f.0 f.1)

  met-down : (d r : ℕ) → 1 ≤ r → r ≤ n → n ≤ r + d → Somewhere t n kinds r
  met-down zero r l u h = at_last r (omega arith)
  met-down (suc d) r l u h = go (met-down d) (ℕ_discrete r n)
    where
      go : ((k : ℕ) → 1 ≤ k → k ≤ n → n ≤ k + d → Somewhere t n kinds k) → Dec (r ≡ n) → Somewhere t n kinds r
      go ih (yes e) = at_last r e
      go ih (no e) =
          let w = namer t n ok r l (omega arith) in
          by-namer r w (ih w.row (omega (arith, w.later)) w.inside (omega (arith, w.later)))

  -- Each row stands somewhere,
  pub each-met : (r : ℕ) → 1 ≤ r → r ≤ n → Somewhere t n kinds r
  each-met r l u = met-down n r l u (omega arith)

  -- in the place of tests 7 to 9,
  pub met-place : (r : ℕ) (b : Bool) (ks : Kinds) → Met t n kinds r b ks → b ≡ is_in_body (places_of t n) r
  met-place r b ks the-formula = sym (last-place t n ok.named some)
  met-place r b ks (below k c ls m p a) =
      let i = met-row t n kinds ok.named some k c ls m in
      sym (place-among (λ x. is_in_body (places_of t n) x) (named_at t c ls (shape_at t k))
      (ap (map (λ x. is_in_body (places_of t n) x)) (rows-listed t c ls (shape_at t k)) ∙ places-named t n ok k i.0 i.1
      ∙ ap (λ (z : Bool). field_places z (shape_at t k)) (sym (met-place k c ls m)) ∙ sym (places-listed t c ls (shape_at t k)))
      p a)

  named_by : (k : ℕ) (c : Bool) (ls : Kinds) → Met t n kinds k c ls → (p : Placed) → Among p (named_at t c ls (shape_at t k))
      → (1 ≤ k) × (k ≤ n) × (1 ≤ p.row) × (p.row < k) × (1 ≤ occurrences p.row (named_in (shape_at t k)))
  named_by k c ls m p a =
      let i = met-row t n kinds ok.named some k c ls m in
      let e = rows-listed t c ls (shape_at t k) in
      let j = each-between k (named_at t c ls (shape_at t k)) (subst (AllBetween k) (sym e) (ok.named.names k i.0 i.1)) p a in
      (i.0, i.1, j.0, j.1, subst (λ (l : List ℕ). 1 ≤ occurrences p.row l) e (among-counted p.row (named_at t c ls (shape_at t k)) p a refl))

  -- and nowhere else: two meetings of a row have the same namer, which names it once.
  pub met-once : (r s : ℕ) (b c : Bool) (ks ls : Kinds) → r ≡ s → Met t n kinds r b ks → Met t n kinds s c ls → (b ≡ c) × (ks ≡ ls)
  met-once r s b c ks ls e the-formula the-formula = (refl, refl)
  met-once r s b c ks ls e the-formula (below k d ms m p a) = absurd (let i = named_by k d ms m p a in omega (arith, i.1, i.3))
  met-once r s b c ks ls e (below k d ms m p a) the-formula = absurd (let i = named_by k d ms m p a in omega (arith, i.1, i.3))
  met-once r s b c ks ls e (below k d ms m p a) (below j f os o q g) = go (ℕ_discrete k j) (λ (x : k ≡ j). met-once k j d f ms os x m o)
    where
      i : (1 ≤ k) × (k ≤ n) × (1 ≤ p.row) × (p.row < k) × (1 ≤ occurrences p.row (named_in (shape_at t k)))
      i = named_by k d ms m p a

      h : (1 ≤ j) × (j ≤ n) × (1 ≤ q.row) × (q.row < j) × (1 ≤ occurrences q.row (named_in (shape_at t j)))
      h = named_by j f os o q g

      single : occurrences p.row (map (λ z. z.row) (named_at t d ms (shape_at t k))) ≡ 1
      single = ap (λ (l : List ℕ). occurrences p.row l) (rows-listed t d ms (shape_at t k)) ∙ named-once t n ok k i.0 i.1 p.row i.2 i.3 i.4

      alike : k ≡ j → (d ≡ f) × (ms ≡ os) → Among q (named_at t d ms (shape_at t k))
      alike x y =
          subst (λ (z : Bool). Among q (named_at t z ms (shape_at t k))) (sym y.0)
          (subst (λ (z : Kinds). Among q (named_at t f z (shape_at t k))) (sym y.1)
          (subst (λ (z : ℕ). Among q (named_at t f os (shape_at t z))) (sym x) g))

      go : Dec (k ≡ j) → (k ≡ j → (d ≡ f) × (ms ≡ os)) → (p.body ≡ q.body) × (p.kinds ≡ q.kinds)
      go (yes x) ih =
          let same = once-among p.row (named_at t d ms (shape_at t k)) (omega (arith, single)) p q a (alike x (ih x)) refl (sym e) in
          (ap (λ (z : Placed). z.body) same, ap (λ (z : Placed). z.kinds) same)
      go (no x) ih =
          absurd (let z = only-namer t n ok k i.0 i.1 p.row i.2 i.3 i.4 j h.0 h.1 (λ (w : j ≡ k). x (sym w)) in
          let y = subst (λ (w : ℕ). 1 ≤ occurrences w (named_in (shape_at t j))) (sym e) h.4 in
          omega (arith, z, y))
