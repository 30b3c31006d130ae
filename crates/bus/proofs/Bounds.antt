-- How many exchanges a course uses at most: its parts' bounds add up.
use Rattle.std.proofs.Common.{◌≡◌, ℕ, ◌+◌, ◌≤◌, Bool, true, false, cond, ltb, List, [], ◌∷◌, length, Some, None, Ok, Err, Option, Result, ap, arith}
use Rattle.bus.specs.declared.exchange.Request.{Request}
use Rattle.bus.specs.declared.exchange.Gone.{Gone}
use Rattle.bus.specs.declared.exchange.Exchange.{Exchange}
use Rattle.bus.specs.Memory.{Memory}
use Rattle.bus.specs.Courses.{Act, done, asks, looks, puts, puts_byte, bind}
use Rattle.bus.specs.Feeds.{Out, gone, answers, onto, feed, Fed, AtMost, same}
use Rattle.bus.specs.Accesses.{loads, stores, stores_byte}

pub at_done : {X : Type 0} (x : X) (n : ℕ) → AtMost n (done x)
at_done x n = record { within = λ m v t. omega arith }

pub at_looks : (at : ℕ) (n : ℕ) → AtMost n (looks at)
at_looks at n = record { within = λ m v t. omega arith }

pub at_puts : (at w : ℕ) (n : ℕ) → AtMost n (puts at w)
at_puts at w n = record { within = λ m v t. omega arith }

pub at_puts_byte : (at b : ℕ) (n : ℕ) → AtMost n (puts_byte at b)
at_puts_byte at b n = record { within = λ m v t. omega arith }

one_answer : (q : Request) (m : Memory) (v : ℕ) (t : List Exchange) → (answers q m v t).2 ≤ v + 1
one_answer q m v [] = omega arith
one_answer q m v (e ∷ t) = go (same e.request q)
  where
    go : (b : Bool) → (cond {A = Out (Option ℕ)} b (Ok e.reply, m, v + 1, t) (Err gone, m, v, e ∷ t)).2 ≤ v + 1
    go true = omega arith
    go false = omega arith

pub at_asks : (q : Request) → AtMost 1 (asks q)
at_asks q = record { within = one_answer q }

sum-onto : {X Y : Type 0} (f : X → Act Y) (v i j : ℕ) → ((y : X) → AtMost j (f y)) → (r : Result X Gone) (l : Memory) (w : ℕ) (u : List Exchange) → w ≤ v + i → (onto (λ y. feed (f y)) r l w u).2 ≤ v + (i + j)
sum-onto f v i j k (Ok y) l w u a = omega (arith, (k y).within l w u)
sum-onto f v i j k (Err g) l w u a = omega arith

pub at_bind : {X Y : Type 0} {p : Act X} {f : X → Act Y} (i j : ℕ) → AtMost i p → ((y : X) → AtMost j (f y)) → AtMost (i + j) (bind p f)
at_bind {p = p} {f = f} i j h k = record { within = λ m v t. sum-onto f v i j k (feed p m v t).0 (feed p m v t).1 (feed p m v t).2 (feed p m v t).3 (h.within m v t) }

pub at_cond : {X : Type 0} (b : Bool) {p q : Act X} {n : ℕ} → AtMost n p → AtMost n q → AtMost n (cond b p q)
at_cond true h k = h
at_cond false h k = k

pub at_option : {X Y : Type 0} {p : Act Y} {f : X → Act Y} {n : ℕ} → AtMost n p → ((x : X) → AtMost n (f x)) → (o : Option X) → AtMost n (elim o [ None ↦ p | Some x ↦ f x ])
at_option h k None = h
at_option h k (Some x) = k x

pub at_less : {X : Type 0} {p : Act X} (i j : ℕ) → i ≤ j → AtMost i p → AtMost j p
at_less i j l h = record { within = λ m v t. omega (arith, h.within m v t) }

pub at_loads : (at : ℕ) → AtMost 1 (loads at)
at_loads at = at_cond (ltb at 65408) (at_looks at 1) (at_asks _)

pub at_stores : (at w : ℕ) → AtMost 1 (stores at w)
at_stores at w = at_cond (ltb at 65408) (at_puts at w 1) (at_bind 1 0 (at_asks _) (λ y. at_done _ 0))

pub at_stores_byte : (at b : ℕ) → AtMost 1 (stores_byte at b)
at_stores_byte at b = at_cond (ltb at 65408) (at_puts_byte at b 1) (at_bind 1 0 (at_asks _) (λ y. at_done _ 0))

-- exchanges that a course was fed with exactly are at most so many
pub fed_within : {X : Type 0} {n : ℕ} {p : Act X} (m : Memory) (es : List Exchange) (r : Result X Gone) (k : Memory) → AtMost n p → Fed p m es r k → length es ≤ n
fed_within {n = n} {p = p} m es r k h f =
    let w : (feed p m 0 es).2 ≤ 0 + n = h.within m 0 es in
    let q : (feed p m 0 es).2 ≡ 0 + length es = ap (λ x. x.2) (f 0) in omega arith
