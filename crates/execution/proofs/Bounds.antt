-- How many exchanges an instruction takes at most: three for a source, four for a destination.
use Rattle.std.proofs.Common.{ℕ, Option, lit≤}
use Rattle.isa.specs.declared.operand.Register.{Register}
use Rattle.isa.specs.declared.operand.Operand.{Operand}
use Rattle.isa.specs.declared.instruction.Size.{Size}
use Rattle.isa.specs.declared.instruction.Size.TheVariants.{Word, Byte}
use Rattle.isa.specs.declared.instruction.Control.{Control}
use Rattle.isa.specs.declared.instruction.Control.TheVariants.{Halt, Wait, Rti, Bpt, Iot, Reset, Rtt}
use Rattle.isa.specs.declared.instruction.DoubleOperation.{DoubleOperation}
use Rattle.isa.specs.declared.instruction.DoubleOperation.TheVariants.{Mov, Cmp, Bit, Bic, Bis}
use Rattle.isa.specs.declared.instruction.Instruction.{Instruction}
use Rattle.isa.specs.declared.instruction.Instruction.TheVariants as word
use Rattle.bus.specs.declared.exchange.Request.TheVariants.{Init}
use Rattle.bus.specs.Courses.{Act}
use Rattle.bus.specs.Feeds.{AtMost}
use Rattle.bus.proofs.Bounds.{at_done, at_bind, at_option, at_less, at_loads, at_stores, at_asks}
use Rattle.arithmetic.specs.declared.outcome.Outcome.{Outcome}
use Rattle.operands.specs.declared.state.Processor.{Processor}
use Rattle.operands.specs.declared.operand.Location.{Location}
use Rattle.operands.specs.declared.operand.Location.TheVariants.{InRegister, InMemory}
use Rattle.operands.proofs.Bounds.{at_leaving, at_locates, at_takes, at_gives}
use Rattle.execution.specs.declared.change.Change.{Change}
use Rattle.execution.specs.declared.change.Sum.{Sum}
use Rattle.execution.specs.declared.change.Reach.{Reach}
use Rattle.execution.specs.declared.change.Reach.TheVariants.{LowHalf, Whole}
use Rattle.execution.specs.declared.ending.Ending.{Ending}
use Rattle.execution.specs.Changes.{size, written, puts, concludes, alters, changes, overwrites, reads, combines, doubles, sums, loads_status}
use Rattle.execution.specs.Stack.{pushes, pops}
use Rattle.execution.specs.Transfers.{jumps, links, calls_at, calls, pops_into, pops_status, restores}
use Rattle.execution.specs.Executes.{resets, controls, executes}

at_written : {course : Act (Option Unit × Processor)} → AtMost 1 course → AtMost 1 (written course)
at_written h = at_bind 1 0 h (λ z. at_option (at_done _ 0) (λ u. at_done _ 0) z.0)

at_puts : (reach : Reach) (s : Size) (at : Location) (v : ℕ) (p : Processor) → AtMost 1 (puts reach s at v p)
unfolding puts
at_puts Whole Byte (InRegister r) v p = at_done _ 1
at_puts Whole Byte (InMemory at) v p = at_written (at_gives Byte (InMemory at) v p)
at_puts Whole Word at v p = at_written (at_gives Word at v p)
at_puts LowHalf s at v p = at_written (at_gives s at v p)

at_concludes : (reach : Reach) (s : Size) (at : Location) (o : Outcome) (p : Processor) → AtMost 1 (concludes reach s at o p)
unfolding concludes
at_concludes reach s at o p = at_option (at_done _ 1) (λ r. at_puts reach s at r _) o.value

at_alters : (c : Change) (at : Location) (p : Processor) → AtMost 2 (alters c at p)
unfolding alters
at_alters c at p = at_bind 1 1 (at_takes (size c) at p) (λ v. at_option (at_done _ 1) (λ d. at_concludes LowHalf _ at _ p) v)

at_changes : (c : Change) (d : Operand) (p : Processor) → AtMost 4 (changes c d p)
unfolding changes
at_changes c d p = at_bind 2 2 (at_locates (size c) d p) (λ z. at_option (at_done _ 2) (λ at. at_alters c at z.1) z.0)

at_overwrites : (s : Size) (o : Outcome) (d : Operand) (p : Processor) → AtMost 3 (overwrites s o d p)
unfolding overwrites
at_overwrites s o d p = at_bind 2 1 (at_locates s d p) (λ z. at_option (at_done _ 1) (λ at. at_concludes Whole s at o z.1) z.0)

at_reads : (s : Size) (x : Operand) (p : Processor) → AtMost 3 (reads s x p)
unfolding reads
at_reads s x p = at_bind 2 1 (at_locates s x p) (λ z. at_option (at_done _ 1) (λ at. at_leaving z.1 (at_takes s at z.1)) z.0)

at_combines : (o : DoubleOperation) (s : Size) (x : ℕ) (d : Operand) (p : Processor) → AtMost 4 (combines o s x d p)
at_combines Mov s x d p = at_less 3 4 (lit≤ tt) (at_overwrites s _ d p)
at_combines Cmp s x d p = at_changes _ d p
at_combines Bit s x d p = at_changes _ d p
at_combines Bic s x d p = at_changes _ d p
at_combines Bis s x d p = at_changes _ d p

at_doubles : (o : DoubleOperation) (s : Size) (x d : Operand) (p : Processor) → AtMost 7 (doubles o s x d p)
unfolding doubles
at_doubles o s x d p = at_bind 3 4 (at_reads s x p) (λ z. at_option (at_done _ 4) (λ v. at_combines o s v d z.1) z.0)

at_sums : (o : Sum) (x d : Operand) (p : Processor) → AtMost 7 (sums o x d p)
unfolding sums
at_sums o x d p = at_bind 3 4 (at_reads Word x p) (λ z. at_option (at_done _ 4) (λ v. at_changes _ d z.1) z.0)

at_loads_status : (x : Operand) (p : Processor) → AtMost 3 (loads_status x p)
unfolding loads_status
at_loads_status x p = at_bind 3 0 (at_reads Byte x p) (λ z. at_option (at_done _ 0) (λ v. at_done _ 0) z.0)

pub at_pushes : (w : ℕ) (p : Processor) → AtMost 1 (pushes w p)
unfolding pushes
at_pushes w p = at_leaving _ (at_stores _ w)

at_pops : (p : Processor) → AtMost 1 (pops p)
unfolding pops
at_pops p = at_leaving _ (at_loads _)

at_jumps : (d : Operand) (p : Processor) → AtMost 2 (jumps d p)
unfolding jumps
at_jumps d p = at_bind 2 0 (at_locates Word d p) (λ z. at_option (at_done _ 0) (λ at. at_done _ 0) z.0)

at_links : (r : Register) (at : ℕ) (p : Processor) → AtMost 1 (links r at p)
unfolding links
at_links r at p = at_bind 1 0 (at_pushes _ p) (λ z. at_option (at_done _ 0) (λ u. at_done _ 0) z.0)

at_calls_at : (r : Register) (at : Location) (p : Processor) → AtMost 1 (calls_at r at p)
unfolding calls_at
at_calls_at r (InRegister d) p = at_done _ 1
at_calls_at r (InMemory at) p = at_links r at p

at_calls : (r : Register) (d : Operand) (p : Processor) → AtMost 3 (calls r d p)
unfolding calls
at_calls r d p = at_bind 2 1 (at_locates Word d p) (λ z. at_option (at_done _ 1) (λ at. at_calls_at r at z.1) z.0)

at_pops_into : (r : Register) (p : Processor) → AtMost 1 (pops_into r p)
unfolding pops_into
at_pops_into r p = at_bind 1 0 (at_pops p) (λ z. at_option (at_done _ 0) (λ w. at_done _ 0) z.0)

at_pops_status : (e : Ending) (p : Processor) → AtMost 1 (pops_status e p)
unfolding pops_status
at_pops_status e p = at_bind 1 0 (at_pops p) (λ z. at_option (at_done _ 0) (λ w. at_done _ 0) z.0)

at_restores : (e : Ending) (p : Processor) → AtMost 2 (restores e p)
unfolding restores
at_restores e p = at_bind 1 1 (at_pops p) (λ z. at_option (at_done _ 1) (λ w. at_pops_status e _) z.0)

at_resets : (p : Processor) → AtMost 1 (resets p)
unfolding resets
at_resets p = at_bind 1 0 (at_asks Init) (λ a. at_done _ 0)

at_controls : (c : Control) (p : Processor) → AtMost 2 (controls c p)
unfolding controls
at_controls Halt p = at_done _ 2
at_controls Wait p = at_done _ 2
at_controls Rti p = at_restores _ p
at_controls Bpt p = at_done _ 2
at_controls Iot p = at_done _ 2
at_controls Reset p = at_less 1 2 (lit≤ tt) (at_resets p)
at_controls Rtt p = at_restores _ p

pub at_executes : (i : Instruction) (p : Processor) → AtMost 7 (executes i p)
unfolding executes
at_executes (word.Control c) p = at_less 2 7 (lit≤ tt) (at_controls c p)
at_executes (word.Jump d) p = at_less 2 7 (lit≤ tt) (at_jumps d p)
at_executes (word.Return r) p = at_less 1 7 (lit≤ tt) (at_pops_into r _)
at_executes (word.Flags change mask) p = at_done _ 7
at_executes (word.SwapBytes d) p = at_less 4 7 (lit≤ tt) (at_changes _ d p)
at_executes (word.Branch c offset) p = at_done _ 7
at_executes (word.Call r d) p = at_less 3 7 (lit≤ tt) (at_calls r d p)
at_executes (word.Single s o d) p = at_less 4 7 (lit≤ tt) (at_changes _ d p)
at_executes (word.Mark n) p = at_less 1 7 (lit≤ tt) (at_pops_into _ _)
at_executes (word.SignExtend d) p = at_less 4 7 (lit≤ tt) (at_changes _ d p)
at_executes (word.ToStatus x) p = at_less 3 7 (lit≤ tt) (at_loads_status x p)
at_executes (word.FromStatus d) p = at_less 3 7 (lit≤ tt) (at_overwrites _ _ d p)
at_executes (word.Double s o x d) p = at_doubles o s x d p
at_executes (word.Add x d) p = at_sums _ x d p
at_executes (word.Subtract x d) p = at_sums _ x d p
at_executes (word.ExclusiveOr r d) p = at_less 4 7 (lit≤ tt) (at_changes _ d p)
at_executes (word.Loop r n) p = at_done _ 7
at_executes (word.Emulate n) p = at_done _ 7
at_executes (word.Trap n) p = at_done _ 7
at_executes (word.Reserved w) p = at_done _ 7
