-- Entering a vector.
use Rattle.std.specs.Prelude.{ℕ, false, Some, None}
use Rattle.isa.specs.declared.operand.Register.TheVariants.{Pc}
use Rattle.bus.specs.Accesses.{loads}
use Rattle.bus.specs.Courses.{Act, done, bind}
use Rattle.operands.specs.declared.state.Life.TheVariants.{Dead}
use Rattle.operands.specs.declared.state.Processor.{Processor}
use Rattle.operands.specs.State.{register, with_register, with_psw, with_life, sum}
use Rattle.execution.specs.Stack.{pushes}
use Rattle.processor.specs.declared.answer.Answer.{Answer}
use Rattle.processor.specs.declared.answer.Answer.TheVariants.{Entered, Dead as Died}

-- The state with both marks cleared.
abbrev pub unmarked : Processor → Processor
unmarked p = record p { trace = false; waiting = false }

-- A time-out while entering makes the processor dead.
abbrev pub dies : Processor → Act (Answer × Processor)
dies p = done (Died, with_life p Dead)

-- PSW is loaded from the word after the vector's.
unfoldable pub loads_psw : ℕ → Processor → Act (Answer × Processor)
loads_psw vector p = bind (loads (sum vector 2)) (λ w. elim w [
  | None ↦ dies p
  | Some s ↦ done (Entered, with_psw p s)
])

-- PC is loaded from the vector.
unfoldable pub loads_pc : ℕ → Processor → Act (Answer × Processor)
loads_pc vector p = bind (loads vector) (λ w. elim w [
  | None ↦ dies p
  | Some a ↦ loads_psw vector (with_register p Pc a)
])

-- PC is pushed.
unfoldable pub pushes_pc : ℕ → Processor → Act (Answer × Processor)
pushes_pc vector p = bind (pushes (register p Pc) p) (λ z. elim z.0 [
  | None ↦ dies z.1
  | Some u ↦ loads_pc vector z.1
])

-- Both marks are cleared, PSW and PC are pushed, and loaded anew.
unfoldable pub enters : ℕ → Processor → Act (Answer × Processor)
enters vector p = bind (pushes p.psw (unmarked p)) (λ z. elim z.0 [
  | None ↦ dies z.1
  | Some u ↦ pushes_pc vector z.1
])
