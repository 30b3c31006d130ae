-- Instructions that set PC: branches, jumps, calls and returns.
use Rattle.std.specs.Prelude.{ℕ, ◌*◌, cond, ℤ, Some, None, ◌==◌}
use Rattle.isa.specs.declared.operand.Register.{Register}
use Rattle.isa.specs.declared.operand.Register.TheVariants.{R5, Sp, Pc}
use Rattle.isa.specs.declared.operand.Operand.{Operand}
use Rattle.isa.specs.declared.instruction.Size.TheVariants.{Word}
use Rattle.isa.specs.declared.instruction.Condition.{Condition}
use Rattle.bus.specs.Courses.{Act, done, bind}
use Rattle.arithmetic.specs.Branches.{branches}
use Rattle.arithmetic.specs.Status.{flags_of}
use Rattle.arithmetic.specs.Widths.{branch_distance}
use Rattle.operands.specs.declared.state.Processor.{Processor}
use Rattle.operands.specs.declared.operand.Location.{Location}
use Rattle.operands.specs.declared.operand.Location.TheVariants.{InRegister, InMemory}
use Rattle.operands.specs.State.{register, with_register, with_psw, sum, difference}
use Rattle.operands.specs.Operands.{locates}
use Rattle.execution.specs.declared.ending.Ending.{Ending}
use Rattle.execution.specs.declared.ending.Ending.TheVariants.{Completed, TimedOut, Trapped}
use Rattle.execution.specs.declared.ending.Trap.TheVariants.{JumpToRegister}
use Rattle.execution.specs.Stack.{lowered, pushes, pops}

-- A taken branch adds twice its offset to PC.
abbrev pub branched : Condition → ℤ → Processor → Processor
branched c offset p =
    cond (branches c (flags_of p.psw)) (with_register p Pc (sum (register p Pc) (branch_distance offset))) p

-- SOB lowers a register, and goes back twice its number unless the register is then 0.
abbrev pub counted : Register → Processor → Processor
counted r p = with_register p r (difference (register p r) 1)

abbrev pub looped : Register → ℕ → Processor → Processor
looped r n p =
    cond (register (counted r p) r == 0) (counted r p)
    (with_register (counted r p) Pc (difference (register (counted r p) Pc) (2 * n)))

-- A jump takes an address alone, and has none in a register.
abbrev pub jumped : Location → Processor → Ending × Processor
jumped (InRegister r) p = (Trapped JumpToRegister, p)
jumped (InMemory at) p = (Completed, with_register p Pc at)

unfoldable pub jumps : Operand → Processor → Act (Ending × Processor)
jumps d p = bind (locates Word d p) (λ z. elim z.0 [
  | None ↦ done (TimedOut, z.1)
  | Some at ↦ done (jumped at z.1)
])

-- A call pushes the register, SP as already lowered, sets it to PC, and jumps.
unfoldable pub links : Register → ℕ → Processor → Act (Ending × Processor)
links r at p = bind (pushes (register (lowered p) r) p) (λ z. elim z.0 [
  | None ↦ done (TimedOut, z.1)
  | Some u ↦ done (Completed, with_register (with_register z.1 r (register z.1 Pc)) Pc at)
])

unfoldable pub calls_at : Register → Location → Processor → Act (Ending × Processor)
calls_at r (InRegister d) p = done (Trapped JumpToRegister, p)
calls_at r (InMemory at) p = links r at p

unfoldable pub calls : Register → Operand → Processor → Act (Ending × Processor)
calls r d p = bind (locates Word d p) (λ z. elim z.0 [
  | None ↦ done (TimedOut, z.1)
  | Some at ↦ calls_at r at z.1
])

-- A register is popped.
unfoldable pub pops_into : Register → Processor → Act (Ending × Processor)
pops_into r p = bind (pops p) (λ z. elim z.0 [
  | None ↦ done (TimedOut, z.1)
  | Some w ↦ done (Completed, with_register z.1 r w)
])

-- RTS: PC from the register, which is then popped.
abbrev pub leaves : Register → Processor → Act (Ending × Processor)
leaves r p = pops_into r (with_register p Pc (register p r))

-- MARK: SP is PC and twice the number, PC is R5, and R5 is popped.
abbrev pub marked : ℕ → Processor → Processor
marked n p = with_register (with_register p Sp (sum (register p Pc) (2 * n))) Pc (register p R5)

abbrev pub marks : ℕ → Processor → Act (Ending × Processor)
marks n p = pops_into R5 (marked n p)

-- RTI and RTT pop PC, and then the status word.
unfoldable pub pops_status : Ending → Processor → Act (Ending × Processor)
pops_status e p = bind (pops p) (λ z. elim z.0 [
  | None ↦ done (TimedOut, z.1)
  | Some w ↦ done (e, with_psw z.1 w)
])

unfoldable pub restores : Ending → Processor → Act (Ending × Processor)
restores e p = bind (pops p) (λ z. elim z.0 [
  | None ↦ done (TimedOut, z.1)
  | Some w ↦ pops_status e (with_register z.1 Pc w)
])
