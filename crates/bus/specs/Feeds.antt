-- Courses whose requests are answered from a list of exchanges, and what exchanges a side has made.
use Rattle.std.specs.Prelude.{◌≡◌, ℕ, ◌+◌, ◌≤◌, Bool, true, false, cond, ◌&&◌, List, [], ◌∷◌, length, Ok, Err, Result, ◌==◌, Option}
use Rattle.bus.specs.declared.exchange.Request.{Request}
use Rattle.bus.specs.declared.exchange.Request.TheVariants.{Read, Write, WriteByte, Lines, Vector, Init}
use Rattle.bus.specs.declared.exchange.Gone.{Gone}
use Rattle.bus.specs.declared.exchange.Exchange.{Exchange}
use Rattle.bus.specs.Memory.{Memory, read, write, write_byte}
use Rattle.bus.specs.Courses.{Act, done, asks, looks, puts, puts_byte, bind, Meaning, Becoming}

abbrev pub gone : Gone
gone = record {}

-- The place of a request's kind among the six, and the numbers that it sends.
abbrev pub kind : Request → ℕ
kind (Read at) = 1
kind (Write at w) = 2
kind (WriteByte at b) = 3
kind Lines = 4
kind Vector = 5
kind Init = 6

abbrev pub address : Request → ℕ
address (Read at) = at
address (Write at w) = at
address (WriteByte at b) = at
address Lines = 0
address Vector = 0
address Init = 0

abbrev pub sent : Request → ℕ
sent (Read at) = 0
sent (Write at w) = w
sent (WriteByte at b) = b
sent Lines = 0
sent Vector = 0
sent Init = 0

-- The same request: equal in kind, address and what is sent.
abbrev pub same : Request → Request → Bool
same q p = kind q == kind p && address q == address p && sent q == sent p

-- The end of a course, the memory, how many exchanges were used by then, and those that are left.
abbrev pub Out : Type 0 → Type 0
Out X = Result X Gone × Memory × ℕ × List Exchange

-- The next exchange answers the request if it fits; otherwise the side is gone.
abbrev pub answers : Request → Memory → ℕ → List Exchange → Out (Option ℕ)
answers q m used [] = (Err gone, m, used, [])
answers q m used (e ∷ es) = cond (same e.request q) (Ok e.reply, m, used + 1, es) (Err gone, m, used, e ∷ es)

abbrev pub onto : {X Y : Type 0} → (X → Memory → ℕ → List Exchange → Out Y) → Result X Gone → Memory → ℕ → List Exchange → Out Y
onto F (Ok x) m used es = F x m used es
onto F (Err g) m used es = (Err g, m, used, es)

-- A course fed with a list of exchanges: its one end.
abbrev pub feed : {X : Type 0} → Act X → Memory → ℕ → List Exchange → Out X
feed (done x) m used es = (Ok x, m, used, es)
feed (asks q) m used es = answers q m used es
feed (looks at) m used es = (Ok (read m at), m, used, es)
feed (puts at w) m used es = (Ok (write m at w).0, (write m at w).1, used, es)
feed (puts_byte at b) m used es = (Ok (write_byte m at b).0, (write_byte m at b).1, used, es)
feed (bind p f) m used es = onto (λ y. feed (f y)) (feed p m used es).0 (feed p m used es).1 (feed p m used es).2 (feed p m used es).3

-- Fed with exactly these exchanges the course ends so, whatever was used before.
abbrev pub Fed : {X : Type 0} → Act X → Memory → List Exchange → Result X Gone → Memory → Type 0
Fed p m es r m2 = (used : ℕ) → feed p m used es ≡ (r, m2, used + length es, [])

-- Whether a course found the side gone.
abbrev pub lost? : {X : Type 0} → Result X Gone → Bool
lost? (Ok x) = false
lost? (Err g) = true

-- From s the side made the exchanges es one by one, was then found gone if lost, and came to s2.
abbrev pub Made : {S : Type 0} → Meaning S → Becoming S → S → List Exchange → Bool → S → Type 0
Made means becomes s [] false s2 = s ≡ s2
Made means becomes s [] true s2 = (q : Request) × ((means s q ≡ Err gone) × becomes s q s2)
Made means becomes s (e ∷ es) lost s2 = (means s e.request ≡ Ok e.reply) × ((s1 : _) × (becomes s e.request s1 × Made means becomes s1 es lost s2))

-- The course uses at most n exchanges, whatever it is fed with.
pub record AtMost {X : Type 0} (n : ℕ) (p : Act X) : Type 0 where
  pub within : (m : Memory) (used : ℕ) (es : List Exchange) → (feed p m used es).2 ≤ used + n
