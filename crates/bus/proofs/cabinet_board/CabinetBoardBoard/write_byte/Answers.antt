use Rattle.std.proofs.Common.{arith}
use Rattle.bus.specs.Boards.{above_ram}
use Rattle.bus.proofs.Halves.{byte_put}
use Rattle.bus.proofs.cabinet_board.CabinetBoardBoard.write_byte.Goals as goal

pub returns-then-at-lt-ROM-clause-meant : goal.returns-then-at-lt-ROM-clause-meant
returns-then-at-lt-ROM-clause-meant c = byte_put 16384 (above_ram c.args.self.now.rom.now) c.args.self.now.ram.now _ _ c.args.at c.args.byte (omega arith) c.put_byte.ensures.bytes c.put_byte.ensures.halves
