-- Laws of specs/Gate.antt, and what only they need.
use Rattle.std.specs.Prelude.{ℕ, zero, suc, ◌≡◌, refl, ◌≢◌, ◌⊎◌, List, [], ◌∷◌, ◌++◌}
use Rattle.std.proofs.Common.{sym, ◌∙◌, ap, subst, inl, inr, ⊎_elim, arith}
use Rattle.std.proofs.Math.Option.{Option}
use Rattle.network.specs.Net.{Token, Demand, ask, fire, halt, Links, head, tail, pop, append, Room, Able, appends, act}
use Rattle.network.proofs.Net.{pop-same, pop-other, append-same, append-other}
use Rattle.theory_pieces.specs.Load.{Load, opt, set_link, put, On}
use Rattle.theory_pieces.proofs.Load.{set_same, set_other, set-ext, put-set, put-nones}
use Rattle.theory_pieces.specs.Goes.{one_place}
use Rattle.theory_pieces.specs.Gate.{Holds-at, emptied-at, Distinct, emitted, Consumes}

pub distinct-two : (x y : ℕ × Option Token) → x.0 ≢ y.0 → Distinct (x ∷ y ∷ [])
distinct-two x y ne = (λ o. ⊎_elim ne (λ (z : ⊥). z) o, (λ o. o, tt))

pub distinct-three : (x y z : ℕ × Option Token) → x.0 ≢ y.0 → x.0 ≢ z.0 → y.0 ≢ z.0 → Distinct (x ∷ y ∷ z ∷ [])
distinct-three x y z xy xz yz = (λ o. none_alike o, distinct-two y z yz)
  where
    none_alike : (x.0 ≡ y.0) ⊎ ((x.0 ≡ z.0) ⊎ ⊥) → ⊥
    none_alike (inl e) = xy e
    none_alike (inr (inl e)) = xz e
    none_alike (inr (inr e)) = e

at_on : (p : ℕ) (xs : Load) (l : ℕ) (t : Token) → Holds-at p xs l t → On l xs
at_on p [] l t a = absurd a
at_on zero (x ∷ xs) l t a = inl (sym a.0)
at_on (suc p) (x ∷ xs) l t a = inr (at_on p xs l t a)

on-emptied : (p : ℕ) (xs : Load) (l : ℕ) → On l (emptied-at p xs) → On l xs
on-emptied zero [] l o = o
on-emptied (suc p) [] l o = o
on-emptied zero (x ∷ xs) l o = o
on-emptied (suc p) (x ∷ xs) l (inl e) = inl e
on-emptied (suc p) (x ∷ xs) l (inr o) = inr (on-emptied p xs l o)

distinct-emptied : (p : ℕ) (xs : Load) → Distinct xs → Distinct (emptied-at p xs)
distinct-emptied zero [] d = tt
distinct-emptied (suc p) [] d = tt
distinct-emptied zero (x ∷ xs) d = d
distinct-emptied (suc p) (x ∷ xs) d = (λ o. d.0 (on-emptied p xs x.0 o), distinct-emptied p xs d.1)

put-at : (p : ℕ) (xs : Load) (b : Links) (l : ℕ) (t : Token) → Distinct xs → Holds-at p xs l t → put xs b l ≡ t ∷ []
put-at p [] b l t d a = absurd a
put-at zero (x ∷ xs) b l t d a =
    ap (λ z. set_link x.0 (opt x.1) (put xs b) z) (sym a.0) ∙ set_same x.0 (opt x.1) (put xs b) ∙ ap opt a.1
put-at (suc p) (x ∷ xs) b l t d a =
    set_other x.0 l (opt x.1) (put xs b) (λ e. d.0 (subst (λ z. On z xs) e (at_on p xs l t a))) ∙ put-at p xs b l t d.1 a

pub pop-set : (l : ℕ) (q : Links) (t : Token) → q l ≡ t ∷ [] → pop l q ≡ set_link l [] q
pop-set l q t e = sym (set-ext l [] q (pop l q) (pop-same l q ∙ ap tail e) (λ j ne. sym (pop-other l j q ne)))

push-set : (l : ℕ) (q : Links) (t : Token) → q l ≡ [] → append l t q ≡ set_link l (t ∷ []) q
push-set l q t e = sym (set-ext l (t ∷ []) q (append l t q) (append-same l t q ∙ ap (λ z. z ++ (t ∷ [])) e) (λ j ne. sym (append-other l j t q ne)))

set-set : (l : ℕ) (x y : List Token) (q : Links) → set_link l x (set_link l y q) ≡ set_link l x q
set-set l x y q =
    set-ext l x (set_link l y q) (set_link l x q) (set_same l x q) (λ j ne. set_other l j y q ne ∙ sym (set_other l j x q ne))

set-emptied : (p : ℕ) (xs : Load) (b : Links) (l : ℕ) (t : Token) → Distinct xs → Holds-at p xs l t → set_link l [] (put xs b) ≡ put (emptied-at p xs) b
set-emptied p [] b l t d a = absurd a
set-emptied zero (x ∷ xs) b l t d a =
    ap (λ z. set_link z [] (set_link x.0 (opt x.1) (put xs b))) (sym a.0) ∙ set-set x.0 [] (opt x.1) (put xs b)
set-emptied (suc p) (x ∷ xs) b l t d a =
    put-set l [] (x ∷ []) (put xs b) (λ o. ⊎_elim (λ (e : l ≡ x.0). d.0 (subst (λ z. On z xs) e (at_on p xs l t a))) (λ (e : ⊥). e) o)
    ∙ ap (set_link x.0 (opt x.1)) (set-emptied p xs b l t d.1 a)

pop-emptied : (p : ℕ) (xs : Load) (b : Links) (l : ℕ) (t : Token) → Distinct xs → Holds-at p xs l t → pop l (put xs b) ≡ put (emptied-at p xs) b
pop-emptied p xs b l t d a = pop-set l (put xs b) t (put-at p xs b l t d a) ∙ set-emptied p xs b l t d a

-- emitting
pub emits : (es : List (ℕ × Token)) (b : Links) → Distinct (emitted es) → ((l : ℕ) → On l (emitted es) → b l ≡ []) → Room one_place es b × (appends es b ≡ put (emitted es) b)
emits [] b d c = (tt, refl)
emits (e ∷ es) b d c =
    let s : append e.0 e.1 b ≡ set_link e.0 (e.1 ∷ []) b = push-set e.0 b e.1 (c e.0 (inl refl)) in
    let h = emits es (set_link e.0 (e.1 ∷ []) b) d.1 (λ l o. set_other e.0 l (e.1 ∷ []) b (λ z. d.0 (subst (λ k. On k (emitted es)) z o)) ∙ c l (inr o)) in (
      (rw (c e.0 (inl refl)) (omega arith), subst (λ q. Room one_place es q) (sym s) h.0),
      ap (appends es) s ∙ h.1 ∙ sym (put-set e.0 (e.1 ∷ []) (emitted es) b d.0),
    )

pub consumes-does : (d : Demand) (xs : Load) (es : List (ℕ × Token)) (b : Links) → Consumes d xs es → Distinct xs → Distinct (emitted es) →
    ((l : ℕ) → On l xs → b l ≡ []) → ((l : ℕ) → On l (emitted es) → b l ≡ []) → Able one_place d (put xs b) × (act d (put xs b) ≡ put (emitted es) b)
consumes-does halt xs es b e dx de cx ce = absurd e
consumes-does (fire fs o) xs es b (n, e) dx de cx ce =
    let z : put xs b ≡ b = put-nones xs b n cx in
    let h = emits es b de ce in
    (subst (λ q. Room one_place fs q) (sym z) (subst (λ u. Room one_place u b) (sym e) h.0), ap (appends fs) z ∙ ap (λ u. appends u b) e ∙ h.1)
consumes-does (ask l k) xs es b (p, t, a, e) dx de cx ce =
    let v : put xs b l ≡ t ∷ [] = put-at p xs b l t dx a in
    let s : pop l (put xs b) ≡ put (emptied-at p xs) b = pop-emptied p xs b l t dx a in
    let h = consumes-does (k t) (emptied-at p xs) es b e (distinct-emptied p xs dx) de (λ j o. cx j (on-emptied p xs j o)) ce in
    let g : head (put xs b l) ≡ t = ap head v in (
      (rw v (omega arith), subst (λ u. Able one_place (k u) (pop l (put xs b))) (sym g) (subst (λ q. Able one_place (k t) q) (sym s) h.0)),
      ap (λ u. act (k u) (pop l (put xs b))) g ∙ ap (act (k t)) s ∙ h.1,
    )
