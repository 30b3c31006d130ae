-- Accesses at an address: the board's below the cabinet page, the cabinet side's on it.
use Rattle.std.specs.Prelude.{ℕ, ◌-◌, ◌%◌, cond, Some, None, Option, nat_lt}
use Rattle.bus.specs.declared.exchange.Request.TheVariants.{Read, Write, WriteByte}
use Rattle.bus.specs.Courses.{Act, done, asks, looks, puts, puts_byte, bind}

-- A reply as a write takes it: nothing where it timed out.
abbrev pub taken : Option ℕ → Option Unit
taken (Some w) = Some tt
taken None = None

-- A word access at an odd address reaches the even one below.
abbrev pub loads : ℕ → Act (Option ℕ)
loads at = cond (nat_lt at 65408) (looks at) (asks (Read (at - at % 2)))

abbrev pub stores : ℕ → ℕ → Act (Option Unit)
stores at w = cond (nat_lt at 65408) (puts at w) (bind (asks (Write (at - at % 2) w)) (λ a. done (taken a)))

abbrev pub stores_byte : ℕ → ℕ → Act (Option Unit)
stores_byte at b = cond (nat_lt at 65408) (puts_byte at b) (bind (asks (WriteByte at b)) (λ a. done (taken a)))
