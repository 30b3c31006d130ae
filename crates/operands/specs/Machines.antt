-- What a machine makes of a course: its processor's next step, played on its board and its side.
use Rattle.std.specs.Prelude.{◌≡◌, Result}
use Rattle.bus.specs.declared.board.Board
use Rattle.bus.specs.declared.cabinet.Cabinet
use Rattle.bus.specs.declared.exchange.Gone.{Gone}
use Rattle.bus.specs.Courses.{Act, Plays}
use Rattle.operands.specs.declared.state.Processor.{Processor}
use Rattle.operands.specs.declared.machine.Machine.{Machine}

-- The processor, the board and the side are still those that were lent.
abbrev pub SameLoans : {B C : Type 0} → Machine B C → Machine B C → Type 0
SameLoans m n =
    (n.processor.ghost_name ≡ m.processor.ghost_name) × (n.board.ghost_name ≡ m.board.ghost_name) × (n.side.ghost_name ≡ m.side.ghost_name)

-- From the machine m the course of its processor ended with this, and left the machine n, with the same loans.
pub record Ran {B C X : Type 0} (make : Board.Ghosts B) (kind : Cabinet.Ghosts C) (course : Processor → Act X) (m : Machine B C) (end : Result X Gone) (n : Machine B C) : Type 0 where
  pub by : Plays kind.meaning kind.becomes (course m.processor.now) (make.meaning m.board.now) m.side.now end (make.meaning n.board.now) n.side.now
  pub lent : SameLoans m n
