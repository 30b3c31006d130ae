-- A restart or a step makes at most eleven exchanges.
use Rattle.std.proofs.Common.{◌≡◌, ℕ, ◌+◌, Bool, true, false, ltb, Some, None, Option, refl, lit≤}
use Rattle.isa.specs.Reading.{reading}
use Rattle.bus.specs.declared.exchange.Request.TheVariants.{Lines, Vector, Init}
use Rattle.bus.specs.Accesses.{loads}
use Rattle.bus.specs.Feeds.{AtMost}
use Rattle.bus.proofs.Bounds.{at_done, at_looks, at_bind, at_option, at_less, at_loads, at_asks}
use Rattle.operands.specs.declared.state.Life.{Life}
use Rattle.operands.specs.declared.state.Life.TheVariants.{Running, Halted, Dead, Ended}
use Rattle.operands.specs.declared.state.Processor.{Processor}
use Rattle.operands.specs.State.{sum}
use Rattle.operands.proofs.Bounds.{at_fetches}
use Rattle.execution.specs.declared.ending.Ending.{Ending}
use Rattle.execution.specs.declared.ending.Ending.TheVariants.{Completed, ReturnedFromTrace, Halted as Halts, TimedOut as AccessTimedOut, Trapped}
use Rattle.execution.specs.declared.ending.Trap.TheVariants.{Reserved, JumpToRegister, Bpt, Iot, Emt, Trap}
use Rattle.execution.proofs.Bounds.{at_pushes, at_executes}
use Rattle.processor.specs.declared.bench.Job.{Job}
use Rattle.processor.specs.declared.bench.Job.TheVariants.{Restart, Step}
use Rattle.processor.specs.declared.sample.Accepted.{Accepted}
use Rattle.processor.specs.declared.sample.Accepted.TheVariants.{Aclo, Irq2, Irq3, Virq}
use Rattle.processor.specs.Entering.{loads_psw, loads_pc, pushes_pc, enters}
use Rattle.processor.specs.Sampling.{accepted}
use Rattle.processor.specs.Stepping.{concludes, performs, advances, enters_asked, accepts, branch, chooses, steps}
use Rattle.processor.specs.Jobs.{restarts, courses}

-- entering through a vector whose two words take at most i and j exchanges
module _ (v i j : ℕ) (pc : AtMost i (loads v)) (psw : AtMost j (loads (sum v 2))) where
  at_loads_psw : (p : Processor) → AtMost (j + 0) (loads_psw v p)
  unfolding loads_psw
  at_loads_psw p = at_bind j 0 psw (λ w. at_option (at_done _ 0) (λ s. at_done _ 0) w)

  at_loads_pc : (p : Processor) → AtMost (i + (j + 0)) (loads_pc v p)
  unfolding loads_pc
  at_loads_pc p = at_bind i (j + 0) pc (λ w. at_option (at_done _ _) (λ a. at_loads_psw _) w)

  at_pushes_pc : (p : Processor) → AtMost (1 + (i + (j + 0))) (pushes_pc v p)
  unfolding pushes_pc
  at_pushes_pc p = at_bind 1 _ (at_pushes _ p) (λ z. at_option (at_done _ _) (λ u. at_loads_pc _) z.0)

  at_enters : (p : Processor) → AtMost (1 + (1 + (i + (j + 0)))) (enters v p)
  unfolding enters
  at_enters p = at_bind 1 _ (at_pushes _ _) (λ z. at_option (at_done _ _) (λ u. at_pushes_pc _) z.0)

-- a vector below the page is read from the board
at_board : (v : ℕ) → ltb v 65408 ≡ true → AtMost 0 (loads v)
at_board v h = rw h (at_looks v 0)

at_enters_low : (v : ℕ) → ltb v 65408 ≡ true → ltb (sum v 2) 65408 ≡ true → (p : Processor) → AtMost 2 (enters v p)
at_enters_low v h k p = at_enters v 0 0 (at_board v h) (at_board (sum v 2) k) p

at_concludes : (e : Ending) (p : Processor) → AtMost 2 (concludes e p)
unfolding concludes
at_concludes Completed p = at_done _ 2
at_concludes ReturnedFromTrace p = at_done _ 2
at_concludes Halts p = at_done _ 2
at_concludes AccessTimedOut p = at_enters_low 0o4 refl refl p
at_concludes (Trapped Reserved) p = at_enters_low 0o10 refl refl p
at_concludes (Trapped JumpToRegister) p = at_enters_low 0o4 refl refl p
at_concludes (Trapped Bpt) p = at_enters_low 0o14 refl refl p
at_concludes (Trapped Iot) p = at_enters_low 0o20 refl refl p
at_concludes (Trapped Emt) p = at_enters_low 0o30 refl refl p
at_concludes (Trapped Trap) p = at_enters_low 0o34 refl refl p

at_performs : (w : ℕ) (p : Processor) → AtMost 9 (performs w p)
unfolding performs
at_performs w p = at_bind 7 2 (at_executes (reading w) p) (λ z. at_concludes z.0 z.1)

at_advances : (p : Processor) → AtMost 10 (advances p)
unfolding advances
at_advances p =
    at_bind 1 9 (at_fetches p)
    (λ z. at_option (at_less 2 9 (lit≤ tt) (at_enters_low 0o4 refl refl z.1)) (λ w. at_performs w z.1) z.0)

at_enters_asked : (p : Processor) → AtMost 5 (enters_asked p)
unfolding enters_asked
at_enters_asked p =
    at_bind 1 4 (at_asks Vector) (elim [ Some w ↦ at_enters _ 1 1 (at_loads _) (at_loads _) p | None ↦ at_done _ 4 ])

at_accepts : (a : Accepted) (p : Processor) → AtMost 5 (accepts a p)
unfolding accepts
at_accepts Aclo p = at_less 2 5 (lit≤ tt) (at_enters_low 0o24 refl refl _)
at_accepts Irq2 p = at_less 2 5 (lit≤ tt) (at_enters_low 0o100 refl refl _)
at_accepts Irq3 p = at_less 2 5 (lit≤ tt) (at_enters_low 0o270 refl refl _)
at_accepts Virq p = at_enters_asked p

at_branch : (l : Life) (t w : Bool) (a : Option Accepted) (p : Processor) → AtMost 10 (branch l t w a p)
at_branch Running true w a p = at_less 2 10 (lit≤ tt) (at_enters_low 0o14 refl refl p)
at_branch Running false w (Some a) p = at_less 5 10 (lit≤ tt) (at_accepts a p)
at_branch Running false true None p = at_done _ 10
at_branch Running false false None p = at_advances p
at_branch Halted t w a p = at_done _ 10
at_branch Dead t w a p = at_done _ 10
at_branch Ended t w a p = at_done _ 10

at_chooses : (p : Processor) → AtMost 10 (chooses p)
unfolding chooses
at_chooses p = at_branch p.life p.trace p.waiting (accepted p) p

at_steps : (p : Processor) → AtMost 11 (steps p)
unfolding steps
at_steps p = at_bind 1 10 (at_asks Lines) (λ a. at_chooses _)

at_restarts : (pc psw : ℕ) → AtMost 1 (restarts pc psw)
unfolding restarts
at_restarts pc psw = at_bind 1 0 (at_asks Init) (λ a. at_done _ 0)

pub at_courses : (j : Job) (p : Processor) → AtMost 11 (courses j p)
at_courses (Restart pc psw) p = at_less 1 11 (lit≤ tt) (at_restarts pc psw)
at_courses Step p = at_steps p
