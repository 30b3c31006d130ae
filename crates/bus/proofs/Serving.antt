-- A course played over a side that answers from a list of exchanges is fed from that list.
use Rattle.std.proofs.Common.{◌≡◌, ℕ, List, Ok, Err, Result, sym, refl, ap, ◌∙◌}
use Rattle.bus.specs.declared.exchange.Request.{Request}
use Rattle.bus.specs.declared.exchange.Gone.{Gone}
use Rattle.bus.specs.declared.exchange.Exchange.{Exchange}
use Rattle.bus.specs.Memory.{Memory}
use Rattle.bus.specs.Courses.{Act, done, asks, looks, puts, puts_byte, bind, Meaning, Becoming, Plays, Goes, Played}
use Rattle.bus.specs.Feeds.{Out, answers, onto, feed}
use Rattle.bus.proofs.Feeding.{out}

module _ {S : Type 0} (means : Meaning S) (becomes : Becoming S) where
  module _ {K : Type 0} (g : S → K) (stays : (s : S) (q : Request) (u : S) → becomes s q u → g u ≡ g s) where
    keeps_bind : {X Y : Type 0} (f : X → Act Y) (x : Result X Gone) (l : Memory) (t : S) (r : Result Y Gone) (k : Memory) (u : S)
        → ((y : X) → Plays means becomes (f y) l t r k u → g u ≡ g t) → Goes (λ y. Plays means becomes (f y)) x l t r k u → g u ≡ g t
    keeps_bind f (Ok y) l t r k u j h = j y h
    keeps_bind f (Err e) l t r k u j h = ap g (sym h.2)

    keeps : {X : Type 0} (p : Act X) (m : Memory) (s : S) (r : Result X Gone) (k : Memory) (u : S) → Plays means becomes p m s r k u → g u ≡ g s
    keeps (done x) m s r k u h = ap g (sym h.2)
    keeps (asks q) m s r k u h = stays s q u h.2
    keeps (looks at) m s r k u h = ap g (sym h.2)
    keeps (puts at w) m s r k u h = ap g (sym h.2)
    keeps (puts_byte at b) m s r k u h = ap g (sym h.2)
    keeps (bind p f) m s r k u h =
        keeps_bind f h.0 h.1.0 h.1.1.0 r k u (λ y i. keeps (f y) h.1.0 h.1.1.0 r k u i) h.1.1.1.1
        ∙ keeps p m s h.0 h.1.0 h.1.1.0 h.1.1.1.0

    -- what no request changes, no course changes
    pub played_keeps : {X : Type 0} {p : Act X} {m : Memory} {s : S} {r : Result X Gone} {k : Memory} {u : S} → Played means becomes p m s r k u → g u ≡ g s
    played_keeps {p = p} {m = m} {s = s} {r = r} {k = k} {u = u} h = keeps p m s r k u h.by

  -- used: how many exchanges were used; left: those that are left
  module _ (used : S → ℕ) (left : S → List Exchange)
      (serves : (m : Memory) (s : S) (q : Request) (u : S) → becomes s q u → answers q m (used s) (left s) ≡ (means s q, m, used u, left u)) where
    abbrev Fits : {X : Type 0} → Act X → Memory → S → Result X Gone → Memory → S → Type 0
    Fits p m s r k u = feed p m (used s) (left s) ≡ (r, k, used u, left u)

    here : {X : Type 0} (r r2 : Result X Gone) (m k : Memory) (s u : S) → r2 ≡ r → m ≡ k → s ≡ u → ◌≡◌ {A = Out X} (r, m, used s, left s) (r2, k, used u, left u)
    here r r2 m k s u a b e = out (sym a) b (ap used e) (ap left e)

    fits_bind : {X Y : Type 0} (p : Act X) (f : X → Act Y) (m : Memory) (s : S) (x : Result X Gone) (l : Memory) (t : S) (r : Result Y Gone) (k : Memory) (u : S)
        → Fits p m s x l t → ((y : X) → Plays means becomes (f y) l t r k u → Fits (f y) l t r k u) → Goes (λ y. Plays means becomes (f y)) x l t r k u → Fits (bind p f) m s r k u
    fits_bind {X} {Y} p f m s (Ok y) l t r k u i j g =
        let O : Out X → Out Y = λ z. onto (λ y. feed (f y)) z.0 z.1 z.2 z.3 in
        ap O i ∙ j y g
    fits_bind {X} {Y} p f m s (Err h) l t r k u i j g =
        let O : Out X → Out Y = λ z. onto (λ y. feed (f y)) z.0 z.1 z.2 z.3 in
        ap O i ∙ here (Err h) r l k t u g.0 g.1 g.2

    fits : {X : Type 0} (p : Act X) (m : Memory) (s : S) (r : Result X Gone) (k : Memory) (u : S) → Plays means becomes p m s r k u → Fits p m s r k u
    fits (done x) m s r k u h = here (Ok x) r m k s u h.0 h.1 h.2
    fits (asks q) m s r k u h = serves m s q u h.2 ∙ out (sym h.0) h.1 refl refl
    fits (looks at) m s r k u h = here _ r m k s u h.0 h.1 h.2
    fits (puts at w) m s r k u h = here _ r _ k s u h.0 (sym h.1) h.2
    fits (puts_byte at b) m s r k u h = here _ r _ k s u h.0 (sym h.1) h.2
    fits (bind p f) m s r k u h =
        fits_bind p f m s h.0 h.1.0 h.1.1.0 r k u (fits p m s h.0 h.1.0 h.1.1.0 h.1.1.1.0) (λ y g. fits (f y) h.1.0 h.1.1.0 r k u g) h.1.1.1.1

    -- a course played over such a side is fed from the exchanges that are left
    pub played_fed : {X : Type 0} {p : Act X} {m : Memory} {s : S} {r : Result X Gone} {k : Memory} {u : S}
        → Played means becomes p m s r k u → feed p m (used s) (left s) ≡ (r, k, used u, left u)
    played_fed {p = p} {m = m} {s = s} {r = r} {k = k} {u = u} h = fits p m s r k u h.by
