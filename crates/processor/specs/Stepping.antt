-- One step.
use Rattle.std.specs.Prelude.{ℕ, ◌*◌, ◌/◌, Bool, true, false, Some, None, Option}
use Rattle.isa.specs.Reading.{reading}
use Rattle.bus.specs.declared.exchange.Request.TheVariants.{Lines, Vector}
use Rattle.bus.specs.Courses.{Act, done, asks, bind}
use Rattle.operands.specs.declared.state.Life.{Life}
use Rattle.operands.specs.declared.state.Life.TheVariants.{Running, Halted, Dead, Ended}
use Rattle.operands.specs.declared.state.Processor.{Processor}
use Rattle.operands.specs.State.{with_requests}
use Rattle.operands.specs.Operands.{fetches}
use Rattle.execution.specs.declared.ending.Ending.{Ending}
use Rattle.execution.specs.declared.ending.Ending.TheVariants.{Completed, ReturnedFromTrace, Halted as Halts, TimedOut as AccessTimedOut, Trapped}
use Rattle.execution.specs.declared.ending.Trap as traps
use Rattle.execution.specs.declared.ending.Trap.TheVariants.{Reserved, JumpToRegister, Bpt, Iot, Emt, Trap}
use Rattle.execution.specs.Executes.{executes}
use Rattle.processor.specs.declared.answer.Answer.{Answer}
use Rattle.processor.specs.declared.answer.Answer.TheVariants.{WentOn, Waiting, Halted as Stopped, Idle}
use Rattle.processor.specs.declared.sample.Accepted.{Accepted}
use Rattle.processor.specs.declared.sample.Accepted.TheVariants.{Aclo, Irq2, Irq3, Virq}
use Rattle.processor.specs.Entering.{enters, dies}
use Rattle.processor.specs.Sampling.{lines_of, sampled, accepted, traces}

-- The vectors of the traps.
abbrev pub vector : traps.Trap → ℕ
vector Reserved = 0o10
vector JumpToRegister = 0o4
vector Bpt = 0o14
vector Iot = 0o20
vector Emt = 0o30
vector Trap = 0o34

-- The trace mark becomes T.
abbrev pub traced : Processor → Processor
traced p = record p { trace = traces p.psw }

-- How a step goes on from the end of its instruction; an access that timed out enters 4.
unfoldable pub concludes : Ending → Processor → Act (Answer × Processor)
concludes Completed p = done (WentOn, traced p)
concludes ReturnedFromTrace p = done (WentOn, p)
concludes Halts p = done (Stopped, traced p)
concludes AccessTimedOut p = enters 0o4 p
concludes (Trapped trap) p = enters (vector trap) p

-- A word is executed.
unfoldable pub performs : ℕ → Processor → Act (Answer × Processor)
performs w p = bind (executes (reading w) p) (λ z. concludes z.0 z.1)

-- A word is fetched and executed.
unfoldable pub advances : Processor → Act (Answer × Processor)
advances p = bind (fetches p) (λ z. elim z.0 [
  | None ↦ enters 0o4 z.1
  | Some w ↦ performs w z.1
])

-- VIRQ's vector is asked for; its two low bits are cleared. Nothing is entered where the request times out.
unfoldable pub enters_asked : Processor → Act (Answer × Processor)
enters_asked p = bind (asks Vector) (λ a. elim a [
  | Some w ↦ enters (w / 4 * 4) p
  | None ↦ dies p
])

-- An accepted request is cleared and entered.
unfoldable pub accepts : Accepted → Processor → Act (Answer × Processor)
accepts Aclo p = enters 0o24 (with_requests p (record p.requests { aclo = false }))
accepts Irq2 p = enters 0o100 (with_requests p (record p.requests { irq2 = false }))
accepts Irq3 p = enters 0o270 (with_requests p (record p.requests { irq3 = false }))
accepts Virq p = enters_asked p

-- The first that applies: trace, an accepted request, waiting on, executing. One that does not run is idle.
abbrev pub branch : Life → Bool → Bool → Option Accepted → Processor → Act (Answer × Processor)
branch Running true waiting a p = enters 0o14 p
branch Running false waiting (Some a) p = accepts a p
branch Running false true None p = done (Waiting, p)
branch Running false false None p = advances p
branch Halted trace waiting a p = done (Idle, p)
branch Dead trace waiting a p = done (Idle, p)
branch Ended trace waiting a p = done (Idle, p)

unfoldable pub chooses : Processor → Act (Answer × Processor)
chooses p = branch p.life p.trace p.waiting (accepted p) p

-- Lines are sampled, and the first that applies is done.
unfoldable pub steps : Processor → Act (Answer × Processor)
steps p = bind (asks Lines) (λ a. chooses (sampled (lines_of a) p))
