-- The gates of a loop round its body, laid out: behind the links of the gates' outputs, one for each name of the body, lie the body's
-- own and those of the copies of iter?. The body's outputs are iter?, the iterated and the returned values, all its own links.
use Rattle.std.specs.Prelude.{ℕ, ◌+◌, ◌-◌, ◌≤◌, ◌<◌, ◌≡◌, refl, ◌⊎◌, true, List, [], ◌∷◌, ◌++◌, length, get_or}
use Rattle.std.proofs.Common.{sym, ◌∙◌, ap, subst, inl, inr, arith}
use Rattle.std.proofs.Math.Decide.{dec_lt}
use Rattle.names.specs.Names.{Names}
use Rattle.network.specs.Uses.{In}
use Rattle.theory_pieces.proofs.Rows.{in-front, in-back}
use Rattle.theory_pieces.specs.Sets.{Different}
use Rattle.graph.specs.Assembly.{Env, name_count, member_of, named, spread, rank, total, chain_ends, chain_links}
use Rattle.graph.specs.Fit.{Different as DifferentNames}
use Rattle.theory_reference.proofs.NameSets.{rank-total, rank-differs, rank-onto}
use Rattle.theory_reference.specs.Plugged.{nowhere, registers}
use Rattle.theory_reference.specs.Plan.{Between, Plan, Own, Register, Port, Control, Outside, Envs, Sound}
use Rattle.theory_reference.proofs.Copies.{end-in, end-at, end-own, ends-differ}
use Rattle.theory_reference.proofs.Binding.{named_in, named-differ, named-onto}

pub spread-is : (h : Names) (o x : ℕ) → spread h o x ≡ o + rank h x
unfolding spread
spread-is h o x = refl

pub spread-envs : (h : Names) (o : ℕ) → ((x : ℕ) → h x ≡ true → x < name_count) → Envs h (spread h o) (o + total h)
spread-envs h o small =
    record {
      below = λ x e. let a = rank-total h x e (small x e) in let b = spread-is h o x in omega arith;
      differ = λ x y a b e. let p = spread-is h o x in let q = spread-is h o y in rank-differs h x y a b (omega arith);
      small = small;
    }

pub different-front : (xs ys : List ℕ) → Different (xs ++ ys) → Different xs
different-front [] ys d = tt
different-front (x ∷ xs) ys d = (λ i. d.0 (in-front x xs ys i), different-front xs ys d.1)

pub different-back : (xs ys : List ℕ) → Different (xs ++ ys) → Different ys
different-back [] ys d = d
different-back (x ∷ xs) ys d = different-back xs ys d.1

-- ns are the loop's identifiers, h the names of its body, env their links outside; o is the first own link, kb the number of the
-- body's links, it, is and rs its outputs.
module _ (ns : List ℕ) (h : Names) (o kb it : ℕ) (is rs : List ℕ) (RB : ℕ → ℕ → Type 0) (env : Env) where
  abbrev pub users : ℕ
  users = total h

  abbrev pub inner : Env
  inner = spread h o

  -- where the copies of iter? begin
  abbrev pub copies : ℕ
  copies = o + users + kb

  abbrev pub ends : List ℕ
  ends = chain_ends it copies users

  abbrev pub control : Env
  control x = get_or ends (rank h x) 0

  abbrev pub iterated : Env
  iterated = named ns is env

  abbrev pub Body : Plan
  Body = record { names = h; start = o + users; size = kb; env = inner; outs = it ∷ (is ++ rs); Ring = RB }

  abbrev pub Gate-ring : ℕ → ℕ → Type 0
  Gate-ring c r = (x : ℕ) × (h x ≡ true) × (c ≡ control x) × (r ≡ registers + inner x)

  abbrev pub Core : Plan
  Core =
      record {
        names = h;
        start = o;
        size = users + (kb + chain_links users);
        env = env;
        outs = rs;
        Ring = λ c r. RB c r ⊎ Gate-ring c r;
      }

  -- What is known of the layout.
  pub record Laid_out : Type 0 where
    pub envs : Envs h env o
    pub fits : o + (users + (kb + chain_links users)) ≤ nowhere
    pub body : Sound Body
    pub inside : (l : ℕ) → In l (it ∷ (is ++ rs)) → Own Body l
    pub two : 2 ≤ users
    pub many : length is ≡ length ns
    pub names-differ : DifferentNames ns
    pub used : (x : ℕ) → member_of ns x ≡ true → h x ≡ true

  module _ (K : Laid_out) where
    small : (x : ℕ) → h x ≡ true → x < name_count
    small x e = K.envs.small x e

    pub inner-between : (x : ℕ) → h x ≡ true → Between o users (inner x)
    inner-between x e = let a = rank-total h x e (small x e) in let b = spread-is h o x in (omega arith, omega arith)

    pub inner-differ : (x y : ℕ) → h x ≡ true → h y ≡ true → inner x ≡ inner y → x ≡ y
    inner-differ x y a b e = (spread-envs h o small).differ x y a b e

    pub control-in : (x : ℕ) → h x ≡ true → In (control x) ends
    control-in x e = end-in users it copies (rank h x) (rank-total h x e (small x e))

    pub end-copies : (l : ℕ) → In l ends → Between copies (chain_links users) l
    end-copies l i = end-own users it copies l K.two i

    pub control-between : (x : ℕ) → h x ≡ true → Between copies (chain_links users) (control x)
    control-between x e = end-copies (control x) (control-in x e)

    pub iter-low : it < copies
    iter-low = let b = K.inside it (inl refl) in omega arith

    pub control-differ : (x y : ℕ) → h x ≡ true → h y ≡ true → control x ≡ control y → x ≡ y
    control-differ x y a b e =
        rank-differs h x y a b (ends-differ users it copies (rank h x) (rank h y) iter-low (rank-total h x a (small x a)) (rank-total h y b (small y b)) e)

    pub control-onto : (l : ℕ) → In l ends → (x : ℕ) × (h x ≡ true) × (l ≡ control x)
    control-onto l i =
        let e = end-at users it copies l i in
        let m = rank-onto h e.0 e.1 in
        (m.0, m.2, e.2 ∙ ap (λ k. get_or ends k 0) (sym m.3))

    pub is-in : (l : ℕ) → In l is → In l (it ∷ (is ++ rs))
    is-in l i = inr (in-front l is rs i)

    pub rs-in : (l : ℕ) → In l rs → In l (it ∷ (is ++ rs))
    rs-in l i = inr (in-back l is rs i)

    pub iterated-in : (x : ℕ) → member_of ns x ≡ true → In (iterated x) is
    iterated-in x e = let q = K.many in named_in ns is env x (omega arith) e

    pub iterated-own : (x : ℕ) → member_of ns x ≡ true → Own Body (iterated x)
    iterated-own x e = K.inside (iterated x) (is-in (iterated x) (iterated-in x e))

    pub iterated-differ : (x y : ℕ) → member_of ns x ≡ true → member_of ns y ≡ true → iterated x ≡ iterated y → x ≡ y
    iterated-differ x y a b e = let q = K.many in named-differ ns is env x y (omega arith) (different-front is rs K.body.outs-differ.1) a b e

    pub iterated-onto : (l : ℕ) → In l is → (x : ℕ) × (member_of ns x ≡ true) × (l ≡ iterated x)
    iterated-onto l i = named-onto ns is env l K.many K.names-differ i

    -- The controls of the core are those of the body and the ends of the chain.
    pub body-control : (l : ℕ) → Own Body l → (Control Body l → ⊥) → Control Core l → ⊥
    body-control l b n (r, inl k) = n (r, k)
    body-control l b n (r, inr (x, e, z, w)) = let q = control-between x e in omega arith

    pub inner-control : (l : ℕ) → Between o users l → Control Core l → ⊥
    inner-control l b (r, inl k) = let q = K.body.ring-own l r k in omega arith
    inner-control l b (r, inr (x, e, z, w)) = let q = control-between x e in omega arith

    pub copies-control : (l : ℕ) → Between copies (chain_links users) l → (In l ends → ⊥) → Control Core l → ⊥
    copies-control l b n (r, inl k) = let q = K.body.ring-own l r k in omega arith
    copies-control l b n (r, inr (x, e, z, w)) = n (subst (λ j. In j ends) (sym z) (control-in x e))

    pub own-cases : (l : ℕ) → Own Core l → Between o users l ⊎ (Own Body l ⊎ Between copies (chain_links users) l)
    own-cases l b = go (dec_lt l (o + users)) (dec_lt l (o + users + kb))
      where
        go : Dec (l < o + users) → Dec (l < o + users + kb) → Between o users l ⊎ (Own Body l ⊎ Between copies (chain_links users) l)
        go (yes p) d = inl (omega arith, omega arith)
        go (no p) (yes q) = inr (inl (omega arith, omega arith))
        go (no p) (no q) = inr (inr (omega arith, omega arith))

    -- Every link between the gates and the body is a gate's output.
    pub inner-onto : (l : ℕ) → Between o users l → Port Body l
    inner-onto l b =
        let m = rank-onto h (l - o) (omega arith) in
        let e = spread-is h o m.0 in
        let r = m.3 in
        (m.0, m.2, omega arith)

    pub core-sound : Sound Core
    core-sound =
        record {
          envs = K.envs;
          fits = K.fits;
          outs-zone = λ l i. let b = K.inside l (rs-in l i) in inl (omega arith, omega arith);
          outs-differ = different-back is rs K.body.outs-differ.1;
          ring-own = own;
          ring-off = off;
        }
      where
        own : (c r : ℕ) → RB c r ⊎ Gate-ring c r → Own Core c × Register Core r
        own c r (inl k) = let q = K.body.ring-own c r k in ((omega arith, omega arith), (omega arith, omega arith))
        own c r (inr (x, e, z, w)) = let q = control-between x e in let p = inner-between x e in ((omega arith, omega arith), (omega arith, omega arith))

        off : (c r : ℕ) → RB c r ⊎ Gate-ring c r → In c rs → ⊥
        off c r (inl k) i = K.body.ring-off c r k (rs-in c i)
        off c r (inr (x, e, z, w)) i = let q = control-between x e in let p = K.inside c (rs-in c i) in omega arith

    -- What lies outside the body: the copies' links, the registers of the gates, the absent link, and all that is outside the core.
    port-low : (l : ℕ) → Port Body l → Between o users l
    port-low l (x, e, z) = let b = inner-between x e in (omega arith, omega arith)

    pub copies-outside : (l : ℕ) → Between copies (chain_links users) l → Outside Body l
    copies-outside l b =
        let f = K.fits in
        record { not_own = λ a. omega arith; not_register = λ a. omega arith; not-port = λ p. let q = port-low l p in omega arith }

    pub register-outside : (x l : ℕ) → h x ≡ true → l ≡ registers + inner x → Outside Body l
    register-outside x l e z =
        let f = K.fits in
        let b = inner-between x e in
        record { not_own = λ a. omega arith; not_register = λ a. omega arith; not-port = λ p. let q = port-low l p in omega arith }

    pub nowhere-outside : Outside Body nowhere
    nowhere-outside =
        let f = K.fits in
        record { not_own = λ a. omega arith; not_register = λ a. omega arith; not-port = λ p. let q = port-low nowhere p in omega arith }

    pub core-outside : (l : ℕ) → (Own Core l → ⊥) → (Register Core l → ⊥) → Outside Body l
    core-outside l p q =
        record {
          not_own = λ a. p (omega arith, omega arith);
          not_register = λ a. q (omega arith, omega arith);
          not-port = λ z. let b = port-low l z in p (omega arith, omega arith);
        }
