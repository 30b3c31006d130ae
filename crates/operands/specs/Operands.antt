-- Operands by the eight modes: where one lies, what it holds, and writing it.
use Rattle.std.specs.Prelude.{ℕ, ◌+◌, ◌*◌, ◌/◌, ◌%◌, cond, Some, None, Option, ◌==◌}
use Rattle.isa.specs.declared.operand.Register.{Register}
use Rattle.isa.specs.declared.operand.Register.TheVariants.{R0, R1, R2, R3, R4, R5, Sp, Pc}
use Rattle.isa.specs.declared.operand.Operand.{Operand}
use Rattle.isa.specs.declared.operand.Operand.TheVariants.{Direct, Deferred, Increment, IncrementDeferred, Decrement, DecrementDeferred, Index, IndexDeferred}
use Rattle.isa.specs.declared.instruction.Size.{Size}
use Rattle.isa.specs.declared.instruction.Size.TheVariants.{Word, Byte}
use Rattle.bus.specs.Accesses.{loads, stores, stores_byte}
use Rattle.bus.specs.Courses.{Act, done, bind}
use Rattle.operands.specs.declared.state.Processor.{Processor}
use Rattle.operands.specs.declared.operand.Location.{Location}
use Rattle.operands.specs.declared.operand.Location.TheVariants.{InRegister, InMemory}
use Rattle.operands.specs.State.{register, with_register, sum, difference, leaving}

-- The word that a register points to, which rises past it as its address is sent.
abbrev pub reads_past : Register → Processor → Act (Option ℕ × Processor)
reads_past r p = leaving (with_register p r (sum (register p r) 2)) (loads (register p r))

-- A word is fetched at PC, which rises past it as its address is sent.
unfoldable pub fetches : Processor → Act (Option ℕ × Processor)
fetches p = reads_past Pc p

-- Modes 2 and 4 move a register by 2, or by 1 for byte operations on R0 to R5.
abbrev pub stride : Size → Register → ℕ
stride Word r = 2
stride Byte R0 = 1
stride Byte R1 = 1
stride Byte R2 = 1
stride Byte R3 = 1
stride Byte R4 = 1
stride Byte R5 = 1
stride Byte Sp = 2
stride Byte Pc = 2

-- A pointer is an operand's address.
abbrev pub in_memory : Option ℕ → Option Location
in_memory None = None
in_memory (Some at) = Some (InMemory at)

unfoldable pub points : ℕ → Act (Option Location)
points at = bind (loads at) (λ a. done (in_memory a))

-- The next word, and to it the register as it then is.
unfoldable pub indexes : Register → Processor → Act (Option ℕ × Processor)
indexes r p = bind (fetches p) (λ z. elim z.0 [
  | None ↦ done (None, z.1)
  | Some x ↦ done (Some (sum x (register z.1 r)), z.1)
])

-- That sum as a pointer.
unfoldable pub index_points : Register → Processor → Act (Option Location × Processor)
index_points r p = bind (indexes r p) (λ z. elim z.0 [
  | None ↦ done (None, z.1)
  | Some at ↦ leaving z.1 (points at)
])

-- Where an operand lies, by its mode; registers change as an address is sent, answered or not.
unfoldable pub locates : Size → Operand → Processor → Act (Option Location × Processor)
locates s (Direct r) p = done (Some (InRegister r), p)
locates s (Deferred r) p = done (Some (InMemory (register p r)), p)
locates s (Increment r) p = done (Some (InMemory (register p r)), with_register p r (sum (register p r) (stride s r)))
locates s (IncrementDeferred r) p = leaving (with_register p r (sum (register p r) 2)) (points (register p r))
locates s (Decrement r) p =
    let at = difference (register p r) (stride s r) in
    done (Some (InMemory at), with_register p r at)
locates s (DecrementDeferred r) p =
    let at = difference (register p r) 2 in
    leaving (with_register p r at) (points at)
locates s (Index r) p = bind (indexes r p) (λ z. done (in_memory z.0, z.1))
locates s (IndexDeferred r) p = index_points r p

-- A byte is a half of its word, the low one at an even address.
abbrev pub half : ℕ → ℕ → ℕ
half at w = cond (at % 2 == 0) (w % 256) (w / 256)

unfoldable pub loads_byte : ℕ → Act (Option ℕ)
loads_byte at = bind (loads at) (λ w. elim w [
  | None ↦ done None
  | Some w ↦ done (Some (half at w))
])

-- What an operand holds.
unfoldable pub takes : Size → Location → Processor → Act (Option ℕ)
takes Word (InRegister r) p = done (Some (register p r))
takes Byte (InRegister r) p = done (Some (register p r % 256))
takes Word (InMemory at) p = loads at
takes Byte (InMemory at) p = loads_byte at

-- An operand is written; a byte changes a register's low half.
unfoldable pub gives : Size → Location → ℕ → Processor → Act (Option Unit × Processor)
gives Word (InRegister r) v p = done (Some tt, with_register p r v)
gives Byte (InRegister r) v p = done (Some tt, with_register p r (register p r / 256 * 256 + v % 256))
gives Word (InMemory at) v p = leaving p (stores at v)
gives Byte (InMemory at) v p = leaving p (stores_byte at (v % 256))
