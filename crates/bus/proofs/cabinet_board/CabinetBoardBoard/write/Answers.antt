use Rattle.std.proofs.Common.{arith}
use Rattle.bus.specs.Boards.{above_ram}
use Rattle.bus.proofs.Halves.{word_put}
use Rattle.bus.proofs.cabinet_board.CabinetBoardBoard.write.Goals as goal

pub returns-then-at-lt-ROM-clause-meant : goal.returns-then-at-lt-ROM-clause-meant
returns-then-at-lt-ROM-clause-meant c = word_put 16384 (above_ram c.args.self.now.rom.now) c.args.self.now.ram.now _ _ c.args.at c.args.word (omega arith) c.put_word.ensures
