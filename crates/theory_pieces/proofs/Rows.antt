-- Laws of specs/Rows.antt, and what only they need.
use Rattle.std.specs.Prelude.{ℕ, suc, ◌+◌, ◌≡◌, ◌⊎◌, List, [], ◌∷◌, ◌++◌, length}
use Rattle.std.proofs.Common.{sym, ◌∙◌, subst, inl, inr, ⊎_elim, arith}
use Rattle.std.proofs.Math.Decide.{ℕ_discrete}
use Rattle.network.specs.Uses.{In}
use Rattle.theory_pieces.specs.Load.{Load, put, On, Off, Within, cat}
use Rattle.theory_pieces.proofs.Load.{put-app, put-swap, put-clear, on-app}
use Rattle.theory_pieces.specs.Goes.{Net}
use Rattle.theory_pieces.proofs.Goes.{Steps, Goes, go-stay, go-then, go-wide, go-by}
use Rattle.theory_pieces.specs.Rows.{join}

pub in-front : (l : ℕ) (xs ys : List ℕ) → In l xs → In l (xs ++ ys)
in-front l [] ys o = absurd o
in-front l (x ∷ xs) ys (inl e) = inl e
in-front l (x ∷ xs) ys (inr o) = inr (in-front l xs ys o)

pub in-back : (l : ℕ) (xs ys : List ℕ) → In l ys → In l (xs ++ ys)
in-back l [] ys o = o
in-back l (x ∷ xs) ys o = inr (in-back l xs ys o)

pub in_app : (l : ℕ) (xs ys : List ℕ) → In l (xs ++ ys) → In l xs ⊎ In l ys
in_app l [] ys o = inr o
in_app l (x ∷ xs) ys (inl e) = inl (inl e)
in_app l (x ∷ xs) ys (inr o) = ⊎_elim (λ (p : In l xs). inl (inr p)) (λ (p : In l ys). inr p) (in_app l xs ys o)

pub dec-in : (l : ℕ) (xs : List ℕ) → Dec (In l xs)
dec-in l [] = no (λ o. o)
dec-in l (x ∷ xs) = go (ℕ_discrete l x) (dec-in l xs)
  where
    go : Dec (l ≡ x) → Dec (In l xs) → Dec ((l ≡ x) ⊎ In l xs)
    go (yes p) d = yes (inl p)
    go (no n) (yes p) = yes (inr p)
    go (no n) (no m) = no (λ o. ⊎_elim n m o)

module _ (net : Net) where
  pub go_left : (D : ℕ → Type 0) (xs ys zs : Load) (c : ℕ) → Off zs D → Within xs D → Within ys D → Goes net D xs c ys → Goes net D (zs ++ xs) c (zs ++ ys)
  go_left D xs ys zs c off wx wy f b cl =
      let e : put (zs ++ xs) b ≡ put xs (put zs b) = put-app zs xs b ∙ put-swap zs xs b (λ l o o'. off l o (wx l o')) in
      let e' : put (zs ++ ys) b ≡ put ys (put zs b) = put-app zs ys b ∙ put-swap zs ys b (λ l o o'. off l o (wy l o')) in
      subst (λ q. Steps net q c (put (zs ++ ys) b)) (sym e) (subst (λ q. Steps net (put xs (put zs b)) c q) (sym e') (f (put zs b) (put-clear zs D b off cl)))

  -- A row: each gate keeps to its links, and no two share one.
  abbrev pub Row : List (List ℕ) → List Load → List Load → Type 0
  Row [] [] [] = Unit {0}
  Row [] [] (y ∷ ys) = ⊥
  Row [] (x ∷ xs) ys = ⊥
  Row (e ∷ es) [] ys = ⊥
  Row (e ∷ es) (x ∷ xs) [] = ⊥
  Row (e ∷ es) (x ∷ xs) (y ∷ ys) =
      Goes net (λ l. In l e) x 1 y × Within x (λ l. In l e) × Within y (λ l. In l e) × ((l : ℕ) → In l e → In l (join es) → ⊥) × Row es xs ys

  within-l : (es : List (List ℕ)) (xs ys : List Load) → Row es xs ys → Within (cat xs) (λ l. In l (join es))
  within-l [] [] [] r l o = o
  within-l [] [] (y ∷ ys) r l o = absurd r
  within-l [] (x ∷ xs) ys r l o = absurd r
  within-l (e ∷ es) [] ys r l o = absurd r
  within-l (e ∷ es) (x ∷ xs) [] r l o = absurd r
  within-l (e ∷ es) (x ∷ xs) (y ∷ ys) r l o =
      ⊎_elim (λ (p : On l x). in-front l e (join es) (r.1 l p)) (λ (p : On l (cat xs)). in-back l e (join es) (within-l es xs ys r.4 l p)) (on-app l x (cat xs) o)

  within-r : (es : List (List ℕ)) (xs ys : List Load) → Row es xs ys → Within (cat ys) (λ l. In l (join es))
  within-r [] [] [] r l o = o
  within-r [] [] (y ∷ ys) r l o = absurd r
  within-r [] (x ∷ xs) ys r l o = absurd r
  within-r (e ∷ es) [] ys r l o = absurd r
  within-r (e ∷ es) (x ∷ xs) [] r l o = absurd r
  within-r (e ∷ es) (x ∷ xs) (y ∷ ys) r l o =
      ⊎_elim (λ (p : On l y). in-front l e (join es) (r.2 l p)) (λ (p : On l (cat ys)). in-back l e (join es) (within-r es xs ys r.4 l p)) (on-app l y (cat ys) o)

  pub row : (es : List (List ℕ)) (xs ys : List Load) → Row es xs ys → Goes net (λ l. In l (join es)) (cat xs) (length es) (cat ys)
  row [] [] [] r = go-stay net (λ l. In l []) []
  row [] [] (y ∷ ys) r = absurd r
  row [] (x ∷ xs) ys r = absurd r
  row (e ∷ es) [] ys r = absurd r
  row (e ∷ es) (x ∷ xs) [] r = absurd r
  row (e ∷ es) (x ∷ xs) (y ∷ ys) r =
      let k : 1 + length es ≡ suc (length es) = omega arith in
      subst (λ c. Goes net (λ l. In l (e ++ join es)) (x ++ cat xs) c (y ++ cat ys)) k
      (go-then net (λ l. In l (e ++ join es)) (x ++ cat xs) (y ++ cat xs) (y ++ cat ys) 1 (length es)
      (go-wide net (λ l. In l e) (λ l. In l (e ++ join es)) (x ++ cat xs) (y ++ cat xs) 1 (λ l i. in-front l e (join es) i)
      (go-by net (λ l. In l e) x y (cat xs) 1 (λ l o i. r.3 l i (within-l es xs ys r.4 l o)) r.0))
      (go-wide net (λ l. In l (join es)) (λ l. In l (e ++ join es)) (y ++ cat xs) (y ++ cat ys) (length es) (λ l i. in-back l e (join es) i)
      (go_left (λ l. In l (join es)) (cat xs) (cat ys) y (length es) (λ l o i. r.3 l (r.2 l o) i) (within-l es xs ys r.4) (within-r es xs ys r.4)
      (row es xs ys r.4))))
