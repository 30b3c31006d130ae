-- Courses: what an operation asks of a board and a cabinet side, and how it goes on from each answer.
use Rattle.std.specs.Prelude.{◌≡◌, ℕ, true, Ok, Err, Option, Result}
use Rattle.bus.specs.declared.exchange.Request.{Request}
use Rattle.bus.specs.declared.exchange.Gone.{Gone}
use Rattle.bus.specs.Memory.{Memory, read, write, write_byte}
use Rattle.bus.specs.Exchanges.{lawful_request, lawful_answer}

-- A course ends with a value, asks the cabinet side, looks at a word of the board, puts a word or a byte there, or
-- goes on from what a first course ended with. A request that finds the side gone ends the whole course.
pub data Act : Type 0 → Type 1 where
  done : {X : Type 0} → X → Act X
  asks : Request → Act (Option ℕ)
  looks : ℕ → Act (Option ℕ)
  puts : ℕ → ℕ → Act (Option Unit)
  puts_byte : ℕ → ℕ → Act (Option Unit)
  bind : {X Y : Type 0} → Act X → (X → Act Y) → Act Y

-- What a cabinet side in each of its states would answer.
abbrev pub Meaning : Type 0 → Type 0
Meaning S = S → Request → Result (Option ℕ) Gone

-- What a cabinet side says of its next state.
abbrev pub Becoming : Type 0 → Type 1
Becoming S = S → Request → S → Type 0

-- How a course goes on from its first part; a loss is final, and leaves memory and side as they are.
abbrev pub Goes : {S X Y : Type 0} → (X → Memory → S → Result Y Gone → Memory → S → Type 0) → Result X Gone → Memory → S → Result Y Gone → Memory → S → Type 0
Goes F (Ok x) m s r m2 s2 = F x m s r m2 s2
Goes F (Err g) m s r m2 s2 = (r ≡ Err g) × (m ≡ m2) × (s ≡ s2)

-- Played from a memory m and a side s, the course ends with r, memory m2 and side s2; each request is lawful, and so is its answer.
abbrev pub Plays : {S X : Type 0} → Meaning S → Becoming S → Act X → Memory → S → Result X Gone → Memory → S → Type 0
Plays means becomes (done x) m s r m2 s2 = (r ≡ Ok x) × (m ≡ m2) × (s ≡ s2)
Plays means becomes (asks q) m s r m2 s2 = (r ≡ means s q) × (m ≡ m2) × becomes s q s2 × (lawful_request q ≡ true) × (lawful_answer q r ≡ true)
Plays means becomes (looks at) m s r m2 s2 = (r ≡ Ok (read m at)) × (m ≡ m2) × (s ≡ s2)
Plays means becomes (puts at w) m s r m2 s2 = (r ≡ Ok (write m at w).0) × (m2 ≡ (write m at w).1) × (s ≡ s2)
Plays means becomes (puts_byte at b) m s r m2 s2 = (r ≡ Ok (write_byte m at b).0) × (m2 ≡ (write_byte m at b).1) × (s ≡ s2)
Plays means becomes (bind p f) m s r m2 s2 = (x : _) × ((m1 : Memory) × ((s1 : _) × (Plays means becomes p m s x m1 s1 × Goes (λ y. Plays means becomes (f y)) x m1 s1 r m2 s2)))

-- The same as a record, from which a proof can tell the course and the states.
pub record Played {S X : Type 0} (means : Meaning S) (becomes : Becoming S) (p : Act X) (m : Memory) (s : S) (r : Result X Gone) (m2 : Memory) (s2 : S) : Type 0 where
  pub by : Plays means becomes p m s r m2 s2
