-- How many exchanges an operand takes at most.
use Rattle.std.proofs.Common.{ℕ, ◌+◌, arith, lit≤}
use Rattle.isa.specs.declared.operand.Register.{Register}
use Rattle.isa.specs.declared.operand.Operand.{Operand}
use Rattle.isa.specs.declared.operand.Operand.TheVariants.{Direct, Deferred, Increment, IncrementDeferred, Decrement, DecrementDeferred, Index, IndexDeferred}
use Rattle.isa.specs.declared.instruction.Size.{Size}
use Rattle.isa.specs.declared.instruction.Size.TheVariants.{Word, Byte}
use Rattle.bus.specs.Courses.{Act}
use Rattle.bus.specs.Feeds.{AtMost}
use Rattle.bus.proofs.Bounds.{at_done, at_bind, at_option, at_less, at_loads, at_stores, at_stores_byte}
use Rattle.operands.specs.declared.state.Processor.{Processor}
use Rattle.operands.specs.declared.operand.Location.{Location}
use Rattle.operands.specs.declared.operand.Location.TheVariants.{InRegister, InMemory}
use Rattle.operands.specs.State.{leaving}
use Rattle.operands.specs.Operands.{fetches, points, indexes, index_points, locates, loads_byte, takes, gives}

pub at_leaving : {X : Type 0} {course : Act X} {n : ℕ} (p : Processor) → AtMost n course → AtMost n (leaving p course)
at_leaving {n = n} p h = at_less (n + 0) n (omega arith) (at_bind n 0 h (λ x. at_done _ 0))

pub at_fetches : (p : Processor) → AtMost 1 (fetches p)
unfolding fetches
at_fetches p = at_leaving _ (at_loads _)

at_points : (at : ℕ) → AtMost 1 (points at)
unfolding points
at_points at = at_bind 1 0 (at_loads at) (λ a. at_done _ 0)

at_indexes : (r : Register) (p : Processor) → AtMost 1 (indexes r p)
unfolding indexes
at_indexes r p = at_bind 1 0 (at_fetches p) (λ z. at_option (at_done _ 0) (λ x. at_done _ 0) z.0)

at_index_points : (r : Register) (p : Processor) → AtMost 2 (index_points r p)
unfolding index_points
at_index_points r p = at_bind 1 1 (at_indexes r p) (λ z. at_option (at_done _ 1) (λ at. at_leaving z.1 (at_points at)) z.0)

pub at_locates : (s : Size) (x : Operand) (p : Processor) → AtMost 2 (locates s x p)
unfolding locates
at_locates s (Direct r) p = at_done _ 2
at_locates s (Deferred r) p = at_done _ 2
at_locates s (Increment r) p = at_done _ 2
at_locates s (IncrementDeferred r) p = at_less 1 2 (lit≤ tt) (at_leaving _ (at_points _))
at_locates s (Decrement r) p = at_done _ 2
at_locates s (DecrementDeferred r) p = at_less 1 2 (lit≤ tt) (at_leaving _ (at_points _))
at_locates s (Index r) p = at_less 1 2 (lit≤ tt) (at_bind 1 0 (at_indexes r p) (λ z. at_done _ 0))
at_locates s (IndexDeferred r) p = at_index_points r p

at_loads_byte : (at : ℕ) → AtMost 1 (loads_byte at)
unfolding loads_byte
at_loads_byte at = at_bind 1 0 (at_loads at) (λ w. at_option (at_done _ 0) (λ x. at_done _ 0) w)

pub at_takes : (s : Size) (at : Location) (p : Processor) → AtMost 1 (takes s at p)
unfolding takes
at_takes Word (InRegister r) p = at_done _ 1
at_takes Byte (InRegister r) p = at_done _ 1
at_takes Word (InMemory at) p = at_loads at
at_takes Byte (InMemory at) p = at_loads_byte at

pub at_gives : (s : Size) (at : Location) (v : ℕ) (p : Processor) → AtMost 1 (gives s at v p)
unfolding gives
at_gives Word (InRegister r) v p = at_done _ 1
at_gives Byte (InRegister r) v p = at_done _ 1
at_gives Word (InMemory at) v p = at_leaving p (at_stores at v)
at_gives Byte (InMemory at) v p = at_leaving p (at_stores_byte at _)
