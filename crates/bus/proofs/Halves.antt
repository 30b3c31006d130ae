-- A word or a byte written into the bytes of open words changes one word.
use Rattle.std.proofs.Common.{◌≡◌, ℕ, ◌+◌, ◌*◌, ◌/◌, ◌%◌, ◌<◌, Bool, true, false, cond, eqb, ltb, ◌≢◌, List, length, get_or, set, Some, Option, sym, refl, ap, ◌∙◌, arith, length-set, get_or-set_other, get_or-set_same}
use mathlib.Core.Path.{fun_ext}
use Rattle.std.proofs.lemmas.Bool.{cond-true, cond-false, ltb-true, ltb-false, eqb-true, eqb-false, ne_eqb, lt-ltb}
use Rattle.bus.specs.Memory.{silent, opened, Memory, replaced, with_half, write, write_byte}
use Rattle.bus.specs.Boards.{word_at, whole, held, put, with_word}

-- the word whose low or high half was written
low_written : (xs : List ℕ) (n b : ℕ) → 2 * n + 1 < length xs → get_or xs (2 * n) 0 < 256 → word_at (set xs (2 * n) b) n ≡ word_at xs n / 256 * 256 + b
low_written xs n b l h =
    let s = get_or-set_same xs (2 * n) b 0 (omega arith) in
    let o = get_or-set_other xs (2 * n) (2 * n + 1) b 0 (omega arith) in
    omega (arith, s, o)

high_written : (xs : List ℕ) (n b : ℕ) → 2 * n + 1 < length xs → get_or xs (2 * n) 0 < 256 → word_at (set xs (2 * n + 1) b) n ≡ b * 256 + word_at xs n % 256
high_written xs n b l h =
    let s = get_or-set_same xs (2 * n + 1) b 0 l in
    let o = get_or-set_other xs (2 * n + 1) (2 * n) b 0 (omega arith) in
    omega (arith, s, o)

half_written : (xs : List ℕ) (at b : ℕ) → 2 * (at / 2) + 1 < length xs → get_or xs (2 * (at / 2)) 0 < 256 → word_at (set xs at b) (at / 2) ≡ with_half at b (word_at xs (at / 2))
half_written xs at b l h = go (eqb (at % 2) 0) refl
  where
    n : ℕ
    n = at / 2

    go : (e : Bool) → eqb (at % 2) 0 ≡ e → word_at (set xs at b) (at / 2) ≡ cond e (word_at xs (at / 2) / 256 * 256 + b) (b * 256 + word_at xs (at / 2) % 256)
    go true e = let k : at ≡ 2 * (at / 2) = omega (arith, eqb-true (at % 2) 0 e) in ap (λ i. word_at (set xs i b) (at / 2)) k ∙ low_written xs (at / 2) b l h
    go false e = let k : at ≡ 2 * (at / 2) + 1 = omega (arith, eqb-false (at % 2) 0 e) in ap (λ i. word_at (set xs i b) (at / 2)) k ∙ high_written xs (at / 2) b l h

-- other words stay
others_stay : (xs : List ℕ) (at b k : ℕ) → k ≢ at / 2 → word_at (set xs at b) k ≡ word_at xs k
others_stay xs at b k ne =
    let o = get_or-set_other xs at (2 * k) b 0 (omega (arith, ne)) in
    let p = get_or-set_other xs at (2 * k + 1) b 0 (omega (arith, ne)) in
    omega (arith, o, p)

-- places of open bytes after a byte is written among them
pub byte_held : (xs : List ℕ) (at b : ℕ) → whole xs (at / 2) ≡ true → get_or xs (2 * (at / 2)) 0 < 256
    → (k : ℕ) → held opened (set xs at b) k ≡ cond (eqb k (at / 2)) (opened (with_half at b (word_at xs (at / 2)))) (held opened xs k)
byte_held xs at b w h k = ap (λ l. cond (ltb (2 * k + 1) l) (opened (word_at (set xs at b) k)) silent) (length-set xs at b) ∙ go (eqb k (at / 2)) refl
  where
    go : (e : Bool) → eqb k (at / 2) ≡ e
        → cond (whole xs k) (opened (word_at (set xs at b) k)) silent ≡ cond e (opened (with_half at b (word_at xs (at / 2)))) (held opened xs k)
    go true e =
        let i : k ≡ at / 2 = eqb-true k (at / 2) e in
        ap (λ j. cond (whole xs j) (opened (word_at (set xs at b) j)) silent) i
        ∙ (cond-true _ _ _ w ∙ ap opened (half_written xs at b (ltb-true _ _ w) h))
    go false e = ap (λ v. cond (whole xs k) (opened v) silent) (others_stay xs at b k (eqb-false k (at / 2) e))

-- places of open bytes after a word is written among them
low_high : (xs : List ℕ) (n w : ℕ) → 2 * n + 1 < length xs → word_at (with_word xs n w) n ≡ w
low_high xs n w l =
    let s = get_or-set_same (set xs (2 * n) (w % 256)) (2 * n + 1) (w / 256) 0 (omega (arith, length-set xs (2 * n) (w % 256))) in
    let o = get_or-set_other (set xs (2 * n) (w % 256)) (2 * n + 1) (2 * n) (w / 256) 0 (omega arith) in
    let t = get_or-set_same xs (2 * n) (w % 256) 0 (omega arith) in
    omega (arith, s, o, t)

pub word_held : (xs : List ℕ) (n w : ℕ) → whole xs n ≡ true
    → (k : ℕ) → held opened (with_word xs n w) k ≡ cond (eqb k n) (opened w) (held opened xs k)
word_held xs n w h k =
    ap (λ l. cond (ltb (2 * k + 1) l) (opened (word_at (with_word xs n w) k)) silent) (length-set (set xs (2 * n) (w % 256)) (2 * n + 1) (w / 256) ∙ length-set xs (2 * n) (w % 256))
    ∙ go (eqb k n) refl
  where
    go : (e : Bool) → eqb k n ≡ e → cond (whole xs k) (opened (word_at (with_word xs n w) k)) silent ≡ cond e (opened w) (held opened xs k)
    go true e =
        ap (λ j. cond (whole xs j) (opened (word_at (with_word xs n w) j)) silent) (eqb-true k n e)
        ∙ (cond-true _ _ _ h ∙ ap opened (low_high xs n w (ltb-true _ _ h)))
    go false e =
        let ne = eqb-false k n e in
        ap (λ v. cond (whole xs k) (opened v) silent)
        (others_stay (set xs (2 * n) (w % 256)) (2 * n + 1) (w / 256) k (λ i. ne (omega (arith, i))) ∙ others_stay xs (2 * n) (w % 256) k (λ i. ne (omega (arith, i))))

-- open bytes below a word number, and any memory from there on
abbrev pub Opening : ℕ → Memory → List ℕ → Memory
Opening limit rest xs = λ k. cond (ltb k limit) (held opened xs k) (rest k)

-- what a write among the open bytes answers and leaves, if it changes one word there by f
held_put : (limit : ℕ) (rest : Memory) (xs ys zs : List ℕ) (r : Option Unit) (n : ℕ) (f : ℕ → ℕ) → n < limit
    → ◌≡◌ {A = Option Unit × List ℕ} (r, ys) (put (whole xs n) zs xs)
    → (whole xs n ≡ true → (k : ℕ) → held opened zs k ≡ cond (eqb k n) (opened (f (word_at xs n))) (held opened xs k))
    → ◌≡◌ {A = Option Unit × Memory} (r, Opening limit rest ys) (replaced (Opening limit rest xs n) f (Opening limit rest xs) n)
held_put limit rest xs ys zs r n f l e h = go (whole xs n) refl e
  where
    here : Opening limit rest xs n ≡ held opened xs n
    here = cond-true _ _ _ (lt-ltb n limit l)

    each : whole xs n ≡ true → (k : ℕ) → Opening limit rest zs k ≡ cond (eqb k n) (opened (f (word_at xs n))) (Opening limit rest xs k)
    each w k = at_k (ltb k limit) refl
      where
        at_k : (t : Bool) → ltb k limit ≡ t → cond t (held opened zs k) (rest k) ≡ cond (eqb k n) (opened (f (word_at xs n))) (cond t (held opened xs k) (rest k))
        at_k true q = h w k
        at_k false q =
            let ne : eqb k n ≡ false = ne_eqb k n (λ i. omega (arith, i, ltb-false k limit q)) in
            sym (cond-false _ _ _ ne)

    go : (t : Bool) → whole xs n ≡ t → ◌≡◌ {A = Option Unit × List ℕ} (r, ys) (put t zs xs)
        → ◌≡◌ {A = Option Unit × Memory} (r, Opening limit rest ys) (replaced (Opening limit rest xs n) f (Opening limit rest xs) n)
    go true w e =
        ap (λ z. (z.0, Opening limit rest z.1)) e
        ∙ ((λ i. (Some tt, fun_ext (each w) i)) ∙ sym (ap (λ p. replaced p f (Opening limit rest xs) n) (here ∙ cond-true _ _ _ w)))
    go false w e =
        ap (λ z. (z.0, Opening limit rest z.1)) e ∙ sym (ap (λ p. replaced p f (Opening limit rest xs) n) (here ∙ cond-false _ _ _ w))

-- a word written among the open bytes
pub word_put : (limit : ℕ) (rest : Memory) (xs ys : List ℕ) (r : Option Unit) (at w : ℕ) → at / 2 < limit
    → ◌≡◌ {A = Option Unit × List ℕ} (r, ys) (put (whole xs (at / 2)) (with_word xs (at / 2) w) xs)
    → ◌≡◌ {A = Option Unit × Memory} (r, Opening limit rest ys) (write (Opening limit rest xs) at w)
word_put limit rest xs ys r at w l e = held_put limit rest xs ys _ r (at / 2) (λ old. w) l e (word_held xs (at / 2) w)

-- a byte written among the open bytes
pub byte_put : (limit : ℕ) (rest : Memory) (xs ys : List ℕ) (r : Option Unit) (at b : ℕ) → at / 2 < limit
    → ◌≡◌ {A = Option Unit × List ℕ} (r, ys) (put (whole xs (at / 2)) (set xs at b) xs)
    → (whole xs (at / 2) ≡ true → (get_or xs (2 * (at / 2)) 0 < 256) × (get_or xs (2 * (at / 2) + 1) 0 < 256))
    → ◌≡◌ {A = Option Unit × Memory} (r, Opening limit rest ys) (write_byte (Opening limit rest xs) at b)
byte_put limit rest xs ys r at b l e h = held_put limit rest xs ys _ r (at / 2) (with_half at b) l e (λ w. byte_held xs at b w (h w).0)
