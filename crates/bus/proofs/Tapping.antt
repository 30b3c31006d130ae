-- A course played over a tap is played over the side below it, and the notes are its exchanges.
use Rattle.std.proofs.Common.{◌≡◌, ◌≤◌, Bool, true, false, List, [], ◌∷◌, length, Ok, Err, Result, sym, ap, ◌∙◌, subst}
use Rattle.bus.specs.declared.exchange.Gone.{Gone}
use Rattle.bus.specs.declared.exchange.Exchange.{Exchange}
use Rattle.bus.specs.Memory.{Memory}
use Rattle.bus.specs.Exchanges.{all_lawful}
use Rattle.bus.specs.Courses.{Act, done, asks, looks, puts, puts_byte, bind, Meaning, Becoming, Plays, Goes, Played}
use Rattle.bus.specs.Feeds.{lost?, Made, Fed, AtMost}
use Rattle.bus.specs.Taps.{noting, all_noted}
use Rattle.bus.proofs.Feeding.{played_has}
use Rattle.bus.proofs.Bounds.{fed_within}
use Rattle.bus.proofs.Noting.{all_noted_whole}

-- what a tap says of its next state: inner is the side below it, notes what it has noted, nm the name of its reference
abbrev pub Through : {S T N : Type 0} → Meaning S → Becoming S → (T → S) → (T → List Exchange) → (T → N) → Becoming T
Through means becomes inner notes nm t q u = becomes (inner t) q (inner u) × (notes u ≡ noting (notes t) q (means (inner t) q)) × (nm u ≡ nm t)

-- exchanges made through a tap were made by the side, and are noted
pub under : {S T N : Type 0} (means : Meaning S) (becomes : Becoming S) (inner : T → S) (notes : T → List Exchange) (nm : T → N)
    (es : List Exchange) (l : Bool) (t u : T)
    → Made (λ t. means (inner t)) (Through means becomes inner notes nm) t es l u
    → Made means becomes (inner t) es l (inner u) × (notes u ≡ all_noted (notes t) es) × (nm u ≡ nm t)
under means becomes inner notes nm [] false t u e = (ap inner e, sym (ap notes e), sym (ap nm e))
under means becomes inner notes nm [] true t u h = ((h.0, (h.1.0, h.1.1.0)), h.1.1.1 ∙ ap (noting (notes t) h.0) h.1.0, h.1.1.2)
under means becomes inner notes nm (e ∷ es) l t u h =
    let k = under means becomes inner notes nm es l h.1.0 u h.1.1.1 in (
      (h.0, (inner h.1.0, (h.1.1.0.0, k.0))),
      k.1 ∙ ap (λ n. all_noted n es) (h.1.1.0.1 ∙ ap (noting (notes t) e.request) h.0),
      k.2 ∙ h.1.1.0.2,
    )

module _ {S T N : Type 0} (means : Meaning S) (becomes : Becoming S) (inner : T → S) (notes : T → List Exchange) (nm : T → N) where
  abbrev TapMeans : Meaning T
  TapMeans t = means (inner t)

  abbrev TapBecomes : Becoming T
  TapBecomes = Through means becomes inner notes nm

  below_bind : {X Y : Type 0} (p : Act X) (f : X → Act Y) (m : Memory) (t : T) (x : Result X Gone) (m1 : Memory) (t1 : T) (r : Result Y Gone) (k : Memory) (u : T)
      → Plays means becomes p m (inner t) x m1 (inner t1)
      → ((y : X) → Plays TapMeans TapBecomes (f y) m1 t1 r k u → Plays means becomes (f y) m1 (inner t1) r k (inner u))
      → Goes (λ y. Plays TapMeans TapBecomes (f y)) x m1 t1 r k u → Plays means becomes (bind p f) m (inner t) r k (inner u)
  below_bind p f m t (Ok y) m1 t1 r k u i j g = (Ok y, (m1, (inner t1, (i, j y g))))
  below_bind p f m t (Err e) m1 t1 r k u i j g = (Err e, (m1, (inner t1, (i, (g.0, g.1, ap inner g.2)))))

  below : {X : Type 0} (p : Act X) (m : Memory) (t : T) (r : Result X Gone) (k : Memory) (u : T)
      → Plays TapMeans TapBecomes p m t r k u → Plays means becomes p m (inner t) r k (inner u)
  below (done x) m t r k u h = (h.0, h.1, ap inner h.2)
  below (asks q) m t r k u h = (h.0, h.1, h.2.0, h.3, h.4)
  below (looks at) m t r k u h = (h.0, h.1, ap inner h.2)
  below (puts at w) m t r k u h = (h.0, h.1, ap inner h.2)
  below (puts_byte at b) m t r k u h = (h.0, h.1, ap inner h.2)
  below (bind p f) m t r k u h =
      below_bind p f m t h.0 h.1.0 h.1.1.0 r k u (below p m t h.0 h.1.0 h.1.1.0 h.1.1.1.0) (λ y g. below (f y) h.1.0 h.1.1.0 r k u g) h.1.1.1.1

  -- a course played over a tap is played over the side below it
  pub played_below : {X : Type 0} {p : Act X} {m : Memory} {t : T} {r : Result X Gone} {k : Memory} {u : T}
      → Played TapMeans TapBecomes p m t r k u → Played means becomes p m (inner t) r k (inner u)
  played_below {p = p} {m = m} {t = t} {r = r} {k = k} {u = u} h = record { by = below p m t r k u h.by }

  -- a course of at most eleven exchanges, played over a tap that had noted nothing, has just the notes for its exchanges
  pub played_noted : {X : Type 0} {p : Act X} {m : Memory} {t : T} {r : Result X Gone} {k : Memory} {u : T}
      → AtMost 11 p → notes t ≡ [] → Played TapMeans TapBecomes p m t r k u
      → Made means becomes (inner t) (notes u) (lost? r) (inner u) × Fed p m (notes u) r k × (all_lawful (notes u) ≡ true) × (nm u ≡ nm t) × (length (notes u) ≤ 11)
  played_noted {p = p} {m = m} {t = t} {r = r} {k = k} {u = u} a z h =
      let d = played_has h in
      let l = under means becomes inner notes nm d.0 (lost? r) t u d.1.0 in
      let w : length d.0 ≤ 11 = fed_within m d.0 r k a d.1.1 in
      let e : d.0 ≡ notes u = sym (l.1 ∙ (ap (λ n. all_noted n d.0) z ∙ all_noted_whole d.0 w)) in
      let P : List Exchange → Type 0 = λ es. Made means becomes (inner t) es (lost? r) (inner u) × Fed p m es r k × (all_lawful es ≡ true) × (nm u ≡ nm t) × (length es ≤ 11) in
      subst P e (l.0, d.1.1, d.1.2, l.2, w)
