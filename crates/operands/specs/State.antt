-- The parts of the processor's state, and word arithmetic on them.
use Rattle.std.specs.Prelude.{ℕ, ◌+◌, ◌-◌, ◌%◌, Bool, Ok, Err, Result, slice_index, slice_set}
use Rattle.bus.specs.declared.exchange.Gone.{Gone}
use Rattle.bus.specs.Courses.{Act, done, bind}
use Rattle.isa.specs.declared.operand.Register.{Register}
use Rattle.isa.specs.declared.operand.Register.TheVariants.{R0, R1, R2, R3, R4, R5, Sp, Pc}
use Rattle.operands.specs.declared.state.Life.{Life}
use Rattle.operands.specs.declared.state.Requests.{Requests}
use Rattle.operands.specs.declared.state.Processor.{Processor}

-- A word sum, and a word difference, wrap.
abbrev pub sum : ℕ → ℕ → ℕ
sum a b = (a + b) % 65536

abbrev pub difference : ℕ → ℕ → ℕ
difference a b = (a + (65536 - b)) % 65536

-- The digit of a register.
abbrev pub digit : Register → ℕ
digit R0 = 0
digit R1 = 1
digit R2 = 2
digit R3 = 3
digit R4 = 4
digit R5 = 5
digit Sp = 6
digit Pc = 7

-- What a register holds.
abbrev pub register : Processor → Register → ℕ
register p r = slice_index p.registers (digit r)

-- The state with another word in a register, and with another status word.
abbrev pub with_register : Processor → Register → ℕ → Processor
with_register p r w = record p { registers = slice_set p.registers (digit r) w }

abbrev pub with_psw : Processor → ℕ → Processor
with_psw p w = record p { psw = w }

-- The state with another life, with the waiting mark set or cleared, and with other requests.
abbrev pub with_life : Processor → Life → Processor
with_life p l = record p { life = l }

abbrev pub with_waiting : Processor → Bool → Processor
with_waiting p b = record p { waiting = b }

abbrev pub with_requests : Processor → Requests → Processor
with_requests p q = record p { requests = q }

-- A course's end beside the processor's state that it leaves.
abbrev pub beside : {X : Type 0} → Result X Gone → Processor → Result (X × Processor) Gone
beside (Ok x) p = Ok (x, p)
beside (Err g) p = Err g

-- The course, after which the processor's state is p.
abbrev pub leaving : {X : Type 0} → Processor → Act X → Act (X × Processor)
leaving p course = bind course (λ x. done (x, p))
