-- Instructions that ask nothing of board or cabinet side.
use Rattle.std.specs.Prelude.{◌≡◌, ℕ, Bool, true, false, ◌&&◌, List, Ok}
use Rattle.isa.specs.declared.operand.Operand.{Operand}
use Rattle.isa.specs.declared.operand.Operand.TheVariants.{Direct, Deferred, Increment, IncrementDeferred, Decrement, DecrementDeferred, Index, IndexDeferred}
use Rattle.isa.specs.declared.instruction.Instruction.{Instruction}
use Rattle.isa.specs.declared.instruction.Instruction.TheVariants as word
use Rattle.bus.specs.declared.exchange.Exchange.{Exchange}
use Rattle.bus.specs.Memory.{Memory}
use Rattle.bus.specs.Courses.{Act}
use Rattle.bus.specs.Feeds.{feed}
use Rattle.operands.specs.declared.state.Processor.{Processor}
use Rattle.execution.specs.Executes.{executes}

-- Mode 0.
abbrev pub direct : Operand → Bool
direct (Direct r) = true
direct (Deferred r) = false
direct (Increment r) = false
direct (IncrementDeferred r) = false
direct (Decrement r) = false
direct (DecrementDeferred r) = false
direct (Index r) = false
direct (IndexDeferred r) = false

-- Flag words, branches and SOB, traps, and the operations whose operands all have mode 0.
abbrev pub in_registers : Instruction → Bool
in_registers (word.Control c) = false
in_registers (word.Jump d) = false
in_registers (word.Return r) = false
in_registers (word.Flags change mask) = true
in_registers (word.SwapBytes d) = direct d
in_registers (word.Branch c offset) = true
in_registers (word.Call r d) = false
in_registers (word.Single s o d) = direct d
in_registers (word.Mark n) = false
in_registers (word.SignExtend d) = direct d
in_registers (word.ToStatus x) = direct x
in_registers (word.FromStatus d) = direct d
in_registers (word.Double s o x d) = direct x && direct d
in_registers (word.Add x d) = direct x && direct d
in_registers (word.Subtract x d) = direct x && direct d
in_registers (word.ExclusiveOr r d) = direct d
in_registers (word.Loop r n) = true
in_registers (word.Emulate n) = true
in_registers (word.Trap n) = true
in_registers (word.Reserved w) = true

-- The course comes to its end with no exchange, and leaves memory as it is.
pub record StaysInside {X : Type 0} (p : Act X) : Type 0 where
  pub ends : (m : Memory) (used : ℕ) (es : List Exchange) → (x : X) × (feed p m used es ≡ (Ok x, m, used, es))

-- Such an instruction is never lost, changes no memory and uses no exchange.
pub record RegisterWords : Type 0 where
  pub stay_inside : (i : Instruction) → in_registers i ≡ true → (p : Processor) → StaysInside (executes i p)
