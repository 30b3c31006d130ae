-- A course that was played comes with the exchanges that the side made, and fed with exactly these it ends the same.
use Rattle.std.proofs.Common.{◌≡◌, ℕ, ◌+◌, Bool, true, false, cond, List, [], ◌∷◌, ◌++◌, length, Ok, Err, Result, sym, refl, ap, ◌∙◌, subst, arith, length-append, Option}
use Rattle.std.proofs.lemmas.Bool.{cond-true, and_from}
use Rattle.bus.specs.declared.exchange.Request.{Request}
use Rattle.bus.specs.declared.exchange.Gone.{Gone}
use Rattle.bus.specs.declared.exchange.Exchange.{Exchange}
use Rattle.bus.specs.Memory.{Memory}
use Rattle.bus.specs.Exchanges.{all_lawful}
use Rattle.bus.specs.Courses.{Act, done, asks, looks, puts, puts_byte, bind, Meaning, Becoming, Plays, Goes, Played}
use Rattle.bus.specs.Feeds.{Out, gone, answers, onto, feed, lost?, Made, Fed, same}
use Rattle.bus.proofs.Requests.{no_bool, same_refl, lawful_on}

-- the same end, with more exchanges left
unfoldable pub ext : {X : Type 0} → List Exchange → Out X → Out X
ext w z = (z.0, z.1, z.2, z.3 ++ w)

pub out : {X : Type 0} {r r2 : Result X Gone} {m m2 : Memory} {v v2 : ℕ} {t t2 : List Exchange} → r ≡ r2 → m ≡ m2 → v ≡ v2 → t ≡ t2 → ◌≡◌ {A = Out X} (r, m, v, t) (r2, m2, v2, t2)
out a b c d = λ i. (a i, b i, c i, d i)

more_answers : (q : Request) (m : Memory) (v : ℕ) (t w : List Exchange) → lost? (answers q m v t).0 ≡ false → answers q m v (t ++ w) ≡ ext w (answers q m v t)
unfolding ext
more_answers q m v [] w h = no_bool h
more_answers q m v (e ∷ t) w h = go (same e.request q) h
  where
    go : (b : Bool) → lost? (cond {A = Out (Option ℕ)} b (Ok e.reply, m, v + 1, t) (Err gone, m, v, e ∷ t)).0 ≡ false
        → cond {A = Out (Option ℕ)} b (Ok e.reply, m, v + 1, t ++ w) (Err gone, m, v, e ∷ (t ++ w)) ≡ ext w (cond {A = Out (Option ℕ)} b (Ok e.reply, m, v + 1, t) (Err gone, m, v, e ∷ t))
    go true k = refl
    go false k = no_bool k

more_onto : {X Y : Type 0} (F : X → Memory → ℕ → List Exchange → Out Y) (w : List Exchange)
    → ((y : X) (m : Memory) (v : ℕ) (t : List Exchange) → lost? (F y m v t).0 ≡ false → F y m v (t ++ w) ≡ ext w (F y m v t))
    → (z : Out X) (r : Result X Gone) (m : Memory) (v : ℕ) (t : List Exchange)
    → (lost? r ≡ false → z ≡ (r, m, v, t ++ w))
    → lost? (onto F r m v t).0 ≡ false → onto F z.0 z.1 z.2 z.3 ≡ ext w (onto F r m v t)
more_onto F w f z (Ok y) m v t i h = ap (λ z. onto F z.0 z.1 z.2 z.3) (i refl) ∙ f y m v t h
more_onto F w f z (Err g) m v t i h = no_bool h

-- more exchanges behind those that sufficed change nothing
pub more : {X : Type 0} (p : Act X) (m : Memory) (v : ℕ) (t w : List Exchange) → lost? (feed p m v t).0 ≡ false → feed p m v (t ++ w) ≡ ext w (feed p m v t)
unfolding ext
more (done x) m v t w h = refl
more (asks q) m v t w h = more_answers q m v t w h
more (looks at) m v t w h = refl
more (puts at x) m v t w h = refl
more (puts_byte at x) m v t w h = refl
more (bind p f) m v t w h =
    more_onto (λ y. feed (f y)) w (λ y m v t h. more (f y) m v t w h) (feed p m v (t ++ w)) (feed p m v t).0 (feed p m v t).1 (feed p m v t).2 (feed p m v t).3
    (λ l. more p m v t w l) h

-- exchanges made after exchanges made
pub made_on : {S : Type 0} (means : Meaning S) (becomes : Becoming S) (l : Bool)
    (es fs : List Exchange) (s t u : S) → Made means becomes s es false t → Made means becomes t fs l u → Made means becomes s (es ++ fs) l u
made_on means becomes l [] fs s t u e k = let P : _ → Type 0 = λ v. Made means becomes v fs l u in subst P (sym e) k
made_on means becomes l (e ∷ es) fs s t u h k = (h.0, (h.1.0, (h.1.1.0, made_on means becomes l es fs h.1.0 t u h.1.1.1 k)))

-- some lawful exchanges, which the side made, and with which the course ends so
abbrev pub Has : {S X : Type 0} → Meaning S → Becoming S → Act X → Memory → S → Result X Gone → Memory → S → Type 0
Has means becomes p m s r k u = (es : List Exchange) × (Made means becomes s es (lost? r) u × Fed p m es r k × (all_lawful es ≡ true))

has_bind : {S X Y : Type 0} (means : Meaning S) (becomes : Becoming S) (p : Act X) (f : X → Act Y)
    (m : Memory) (s : S) (x : Result X Gone) (l : Memory) (t : S) (r : Result Y Gone) (k : Memory) (u : S)
    → Has means becomes p m s x l t
    → ((y : X) → Plays means becomes (f y) l t r k u → Has means becomes (f y) l t r k u)
    → Goes (λ y. Plays means becomes (f y)) x l t r k u → Has means becomes (bind p f) m s r k u
unfolding ext
has_bind means becomes p f m s (Ok y) l t r k u i j g =
    let o = j y g in
    let es = i.0 in
    let fs = o.0 in
    let F : _ → Memory → ℕ → List Exchange → Out _ = λ y. feed (f y) in (
      es ++ fs,
      (
        made_on means becomes (lost? r) es fs s t u i.1.0 o.1.0,
        λ v. let e : feed p m v (es ++ fs) ≡ (Ok y, l, v + length es, fs) =
            more p m v es fs (ap (λ z. lost? z.0) (i.1.1 v)) ∙ ap (ext fs) (i.1.1 v) in
            ap (λ z. onto F z.0 z.1 z.2 z.3) e ∙ (o.1.1 (v + length es) ∙ out refl refl (omega (arith, length-append es fs)) refl),
        lawful_on es fs i.1.2 o.1.2,
      ),
    )
has_bind means becomes p f m s (Err h) l t r k u i j g =
    let es = i.0 in
    let F : _ → Memory → ℕ → List Exchange → Out _ = λ y. feed (f y) in
    let P : _ → Type 0 = λ z. Made means becomes s es (lost? z) u in
    let Q : _ → Type 0 = λ w. Made means becomes s es true w in (
      es,
      (
        subst P (sym g.0) (subst Q g.2 i.1.0),
        λ v. ap (λ z. onto F z.0 z.1 z.2 z.3) (i.1.1 v) ∙ out (sym g.0) g.1 refl refl,
        i.1.2,
      ),
    )

has : {S X : Type 0} (means : Meaning S) (becomes : Becoming S)
    (p : Act X) (m : Memory) (s : S) (r : Result X Gone) (k : Memory) (u : S) → Plays means becomes p m s r k u → Has means becomes p m s r k u
has means becomes (done x) m s (Ok y) k u h = ([], (h.2, λ v. out (sym h.0) h.1 (omega arith) refl, refl))
has means becomes (done x) m s (Err g) k u h = no_bool (ap lost? h.0)
has means becomes (asks q) m s (Ok y) k u h = (record { request = q; reply = y } ∷ [], ((sym h.0, (u, (h.2, refl))), λ v. cond-true (same q q) _ _ (same_refl q) ∙ out refl h.1 refl refl, and_from _ _ (and_from _ _ h.3 h.4) refl))
has means becomes (asks q) m s (Err g) k u h = ([], ((q, (sym h.0, h.2)), λ v. out refl h.1 (omega arith) refl, refl))
has means becomes (looks at) m s (Ok y) k u h = ([], (h.2, λ v. out (sym h.0) h.1 (omega arith) refl, refl))
has means becomes (looks at) m s (Err g) k u h = no_bool (ap lost? h.0)
has means becomes (puts at w) m s (Ok y) k u h = ([], (h.2, λ v. out (sym h.0) (sym h.1) (omega arith) refl, refl))
has means becomes (puts at w) m s (Err g) k u h = no_bool (ap lost? h.0)
has means becomes (puts_byte at w) m s (Ok y) k u h = ([], (h.2, λ v. out (sym h.0) (sym h.1) (omega arith) refl, refl))
has means becomes (puts_byte at w) m s (Err g) k u h = no_bool (ap lost? h.0)
has means becomes (bind p f) m s r k u h =
    has_bind means becomes p f m s h.0 h.1.0 h.1.1.0 r k u (has means becomes p m s h.0 h.1.0 h.1.1.0 h.1.1.1.0)
    (λ y g. has means becomes (f y) h.1.0 h.1.1.0 r k u g) h.1.1.1.1

-- a course that was played has its exchanges: fed with exactly these it ends the same
pub played_has : {S X : Type 0} {means : Meaning S} {becomes : Becoming S} {p : Act X} {m : Memory} {s : S} {r : Result X Gone} {k : Memory} {u : S}
    → Played means becomes p m s r k u → Has means becomes p m s r k u
played_has {means = means} {becomes = becomes} {p = p} {m = m} {s = s} {r = r} {k = k} {u = u} h = has means becomes p m s r k u h.by

-- a course ends in one way under the same exchanges
pub one_end : {X : Type 0} (p : Act X) (m : Memory) (es : List Exchange) (r r2 : Result X Gone) (k k2 : Memory) → Fed p m es r k → Fed p m es r2 k2 → (r ≡ r2) × (k ≡ k2)
one_end p m es r r2 k k2 a b = let e = sym (a 0) ∙ b 0 in (ap (λ z. z.0) e, ap (λ z. z.1) e)
