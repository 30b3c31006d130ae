use Rattle.std.proofs.Common.{arith}
use Rattle.bus.specs.Memory.{silent}
use Rattle.bus.proofs.Halves.{byte_put}
use Rattle.bus.proofs.flat.FlatBoardBoard.write_byte.Goals as goal

pub returns-then-at-lt-PAGE-clause-meant : goal.returns-then-at-lt-PAGE-clause-meant
returns-then-at-lt-PAGE-clause-meant c = byte_put 32704 (λ k. silent) c.args.self.now.bytes.now _ _ c.args.at c.args.byte (omega arith) c.put_byte.ensures.bytes c.put_byte.ensures.halves
