use Rattle.std.proofs.Common.{rules}
use Rattle.std.proofs.lemmas.Bool.Decides.{same_from_decides}
use Rattle.operands.specs.SamenessLaws.{same_state_Decides}
use Rattle.operands.proofs.state.ProcessorPartialEq.eq.Goals as goal

pub returns-then-eq-2-clause-answer : goal.returns-then-eq-2-clause-answer
returns-then-eq-2-clause-answer c = same_from_decides _ _ (search rules) (same_state_Decides c.args.self.now c.args.other.now)

pub returns-else-eq-2-clause-answer : goal.returns-else-eq-2-clause-answer
returns-else-eq-2-clause-answer c = same_from_decides _ _ (search rules) (same_state_Decides c.args.self.now c.args.other.now)
