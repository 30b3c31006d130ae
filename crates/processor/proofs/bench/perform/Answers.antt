use Rattle.std.proofs.Common.{rules}
use Rattle.processor.proofs.Performing.{performed}
use Rattle.processor.proofs.bench.perform.Goals as goal

pub returns-in_err-answer : goal.returns-in_err-answer
returns-in_err-answer g c = let h = performed c.args.job c.args.bench.now.processor _ c.in_err-answer.ensures in search rules

pub returns : goal.returns
returns g c =
    let h = performed c.args.job c.args.bench.now.processor _ c.in_ok-answer.ensures in
    rw c.settle.ensures (search rules)
