use Rattle.processor.proofs.JobLaws.{determined}
use Rattle.processor.proofs.laws.ends_agree.Goals as goal

pub returns : goal.returns
returns g c = determined _ _ _ _
