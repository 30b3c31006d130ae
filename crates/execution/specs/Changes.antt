-- Operations on operands: what is made of a destination, and in which order it is read, flagged and written.
use Rattle.std.specs.Prelude.{ℕ, Some, None, Option}
use Rattle.isa.specs.declared.operand.Operand.{Operand}
use Rattle.isa.specs.declared.instruction.Size.{Size}
use Rattle.isa.specs.declared.instruction.Size.TheVariants.{Word, Byte}
use Rattle.isa.specs.declared.instruction.DoubleOperation.{DoubleOperation}
use Rattle.isa.specs.declared.instruction.DoubleOperation.TheVariants.{Mov, Cmp, Bit, Bic, Bis}
use Rattle.bus.specs.Courses.{Act, done, bind}
use Rattle.arithmetic.specs.declared.outcome.Outcome.{Outcome}
use Rattle.arithmetic.specs.Singles.{single_outcome}
use Rattle.arithmetic.specs.Doubles.{double_outcome}
use Rattle.arithmetic.specs.Words.{add_outcome, subtract_outcome, exclusive_or_outcome, swap_outcome, extend_outcome}
use Rattle.arithmetic.specs.Status.{flags_of, with_flags, with_low_byte}
use Rattle.arithmetic.specs.Widths.{spread}
use Rattle.operands.specs.declared.state.Processor.{Processor}
use Rattle.operands.specs.declared.operand.Location.{Location}
use Rattle.operands.specs.declared.operand.Location.TheVariants.{InRegister, InMemory}
use Rattle.operands.specs.State.{with_register, with_psw, leaving}
use Rattle.operands.specs.Operands.{locates, takes, gives}
use Rattle.execution.specs.declared.change.Change.{Change}
use Rattle.execution.specs.declared.change.Change.TheVariants.{Single, Double, Sum as SumOf, ExclusiveOr, SwapBytes, SignExtend}
use Rattle.execution.specs.declared.change.Sum.{Sum}
use Rattle.execution.specs.declared.change.Sum.TheVariants.{Add, Subtract}
use Rattle.execution.specs.declared.change.Reach.{Reach}
use Rattle.execution.specs.declared.change.Reach.TheVariants.{LowHalf, Whole}
use Rattle.execution.specs.declared.ending.Ending.{Ending}
use Rattle.execution.specs.declared.ending.Ending.TheVariants.{Completed, TimedOut}

-- The size of the destination.
abbrev pub size : Change → Size
size (Single o s) = s
size (Double o s x) = s
size (SumOf o x) = Word
size (ExclusiveOr x) = Word
size SwapBytes = Word
size SignExtend = Word

-- What an instruction makes of its destination's old value and of the status word.
unfoldable pub outcome : Change → ℕ → ℕ → Outcome
outcome (Single o s) d psw = single_outcome o s d (flags_of psw)
outcome (Double o s x) d psw = double_outcome o s x d (flags_of psw)
outcome (SumOf Add x) d psw = add_outcome x d
outcome (SumOf Subtract x) d psw = subtract_outcome x d
outcome (ExclusiveOr x) d psw = exclusive_or_outcome x d (flags_of psw)
outcome SwapBytes d psw = swap_outcome d
outcome SignExtend d psw = extend_outcome (flags_of psw)

-- What was written completes the instruction, unless it timed out.
abbrev pub written : Act (Option Unit × Processor) → Act (Ending × Processor)
written course = bind course (λ z. elim z.0 [
  | None ↦ done (TimedOut, z.1)
  | Some u ↦ done (Completed, z.1)
])

-- The result is written; a byte reaches a register's low half, or by its sign the whole of it.
unfoldable pub puts : Reach → Size → Location → ℕ → Processor → Act (Ending × Processor)
puts Whole Byte (InRegister r) v p = done (Completed, with_register p r (spread v))
puts Whole Byte (InMemory at) v p = written (gives Byte (InMemory at) v p)
puts Whole Word at v p = written (gives Word at v p)
puts LowHalf s at v p = written (gives s at v p)

-- The flags are set, before the result, where there is one, is written.
abbrev pub flagged : Outcome → Processor → Processor
flagged o p = with_psw p (with_flags p.psw o.flags)

unfoldable pub concludes : Reach → Size → Location → Outcome → Processor → Act (Ending × Processor)
concludes reach s at o p = elim o.value [
  | None ↦ done (Completed, flagged o p)
  | Some r ↦ puts reach s at r (flagged o p)
]

-- A destination that is found is read, and then written where the operation has a result: CMP, BIT and TST have none.
unfoldable pub alters : Change → Location → Processor → Act (Ending × Processor)
alters c at p = bind (takes (size c) at p) (λ v. elim v [
  | None ↦ done (TimedOut, p)
  | Some d ↦ concludes LowHalf (size c) at (outcome c d p.psw) p
])

unfoldable pub changes : Change → Operand → Processor → Act (Ending × Processor)
changes c d p = bind (locates (size c) d p) (λ z. elim z.0 [
  | None ↦ done (TimedOut, z.1)
  | Some at ↦ alters c at z.1
])

-- MOV and MFPS only write; as bytes they spread the sign over a whole register.
unfoldable pub overwrites : Size → Outcome → Operand → Processor → Act (Ending × Processor)
overwrites s o d p = bind (locates s d p) (λ z. elim z.0 [
  | None ↦ done (TimedOut, z.1)
  | Some at ↦ concludes Whole s at o z.1
])

-- A source is found and read.
unfoldable pub reads : Size → Operand → Processor → Act (Option ℕ × Processor)
reads s x p = bind (locates s x p) (λ z. elim z.0 [
  | None ↦ done (None, z.1)
  | Some at ↦ leaving z.1 (takes s at z.1)
])

-- The source, once read, and the destination.
abbrev pub combines : DoubleOperation → Size → ℕ → Operand → Processor → Act (Ending × Processor)
combines Mov s x d p = overwrites s (double_outcome Mov s x 0 (flags_of p.psw)) d p
combines Cmp s x d p = changes (Double Cmp s x) d p
combines Bit s x d p = changes (Double Bit s x) d p
combines Bic s x d p = changes (Double Bic s x) d p
combines Bis s x d p = changes (Double Bis s x) d p

-- The source is read before the destination's address is formed.
unfoldable pub doubles : DoubleOperation → Size → Operand → Operand → Processor → Act (Ending × Processor)
doubles o s x d p = bind (reads s x p) (λ z. elim z.0 [
  | None ↦ done (TimedOut, z.1)
  | Some v ↦ combines o s v d z.1
])

unfoldable pub sums : Sum → Operand → Operand → Processor → Act (Ending × Processor)
sums o x d p = bind (reads Word x p) (λ z. elim z.0 [
  | None ↦ done (TimedOut, z.1)
  | Some v ↦ changes (SumOf o v) d z.1
])

-- MTPS only reads: the byte replaces the status word's low byte.
unfoldable pub loads_status : Operand → Processor → Act (Ending × Processor)
loads_status x p = bind (reads Byte x p) (λ z. elim z.0 [
  | None ↦ done (TimedOut, z.1)
  | Some v ↦ done (Completed, with_psw z.1 (with_low_byte z.1.psw v))
])
