-- What each instruction does, group by group of the instruction table.
use Rattle.std.specs.Prelude.{true, false}
use Rattle.isa.specs.declared.instruction.Size.TheVariants.{Byte}
use Rattle.isa.specs.declared.instruction.Control.{Control}
use Rattle.isa.specs.declared.instruction.Control.TheVariants.{Halt, Wait, Rti, Bpt, Iot, Reset, Rtt}
use Rattle.isa.specs.declared.instruction.FlagChange.{FlagChange}
use Rattle.isa.specs.declared.flags.Flags.{Flags}
use Rattle.isa.specs.declared.instruction.Instruction.{Instruction}
use Rattle.isa.specs.declared.instruction.Instruction.TheVariants as word
use Rattle.bus.specs.declared.exchange.Request.TheVariants.{Init}
use Rattle.bus.specs.Courses.{Act, done, asks, bind}
use Rattle.arithmetic.specs.Status.{flags_of, with_flags, changed_flags, from_status_outcome}
use Rattle.operands.specs.declared.state.Life.TheVariants.{Halted}
use Rattle.operands.specs.declared.state.Processor.{Processor}
use Rattle.operands.specs.State.{register, with_psw, with_life, with_waiting, with_requests}
use Rattle.execution.specs.declared.change.Change.TheVariants.{Single, ExclusiveOr, SwapBytes, SignExtend}
use Rattle.execution.specs.declared.change.Sum.TheVariants.{Add, Subtract}
use Rattle.execution.specs.declared.ending.Ending.{Ending}
use Rattle.execution.specs.declared.ending.Ending.TheVariants.{Completed, ReturnedFromTrace, Halted as Halts, Trapped}
use Rattle.execution.specs.declared.ending.Trap.TheVariants as traps
use Rattle.execution.specs.Changes.{changes, overwrites, doubles, sums, loads_status}
use Rattle.execution.specs.Transfers.{branched, looped, jumps, calls, leaves, marks, restores}

-- RESET asks INIT and drops the requests of IRQ2 and IRQ3.
abbrev pub dropped : Processor → Processor
dropped p = with_requests p (record p.requests { irq2 = false; irq3 = false })

unfoldable pub resets : Processor → Act (Ending × Processor)
resets p = bind (asks Init) (λ a. done (Completed, dropped p))

-- The words with no field.
unfoldable pub controls : Control → Processor → Act (Ending × Processor)
controls Halt p = done (Halts, with_life p Halted)
controls Wait p = done (Completed, with_waiting p true)
controls Rti p = restores Completed p
controls Bpt p = done (Trapped traps.Bpt, p)
controls Iot p = done (Trapped traps.Iot, p)
controls Reset p = resets p
controls Rtt p = restores ReturnedFromTrace p

-- The flag words clear or set the flags of their mask.
abbrev pub reflagged : FlagChange → Flags → Processor → Processor
reflagged change mask p = with_psw p (with_flags p.psw (changed_flags change mask (flags_of p.psw)))

unfoldable pub executes : Instruction → Processor → Act (Ending × Processor)
executes (word.Control c) p = controls c p
executes (word.Jump d) p = jumps d p
executes (word.Return r) p = leaves r p
executes (word.Flags change mask) p = done (Completed, reflagged change mask p)
executes (word.SwapBytes d) p = changes SwapBytes d p
executes (word.Branch c offset) p = done (Completed, branched c offset p)
executes (word.Call r d) p = calls r d p
executes (word.Single s o d) p = changes (Single o s) d p
executes (word.Mark n) p = marks n p
executes (word.SignExtend d) p = changes SignExtend d p
executes (word.ToStatus x) p = loads_status x p
executes (word.FromStatus d) p = overwrites Byte (from_status_outcome p.psw) d p
executes (word.Double s o x d) p = doubles o s x d p
executes (word.Add x d) p = sums Add x d p
executes (word.Subtract x d) p = sums Subtract x d p
executes (word.ExclusiveOr r d) p = changes (ExclusiveOr (register p r)) d p
executes (word.Loop r n) p = done (Completed, looped r n p)
executes (word.Emulate n) p = done (Trapped traps.Emt, p)
executes (word.Trap n) p = done (Trapped traps.Trap, p)
executes (word.Reserved w) p = done (Trapped traps.Reserved, p)
