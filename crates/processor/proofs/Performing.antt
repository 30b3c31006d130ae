-- A job's course that was played over a side has its exchanges: from exactly these it comes to the same.
use Rattle.std.proofs.Common.{◌≡◌, Bool, Ok, Err, Result, refl, ap, subst}
use Rattle.bus.specs.declared.exchange.Gone.{Gone}
use Rattle.bus.specs.Memory.{Memory}
use Rattle.bus.specs.Courses.{Meaning, Becoming, Played}
use Rattle.bus.specs.Feeds.{lost?, Made}
use Rattle.bus.proofs.Feeding.{played_has}
use Rattle.bus.proofs.Bounds.{fed_within}
use Rattle.operands.specs.declared.state.Processor.{Processor}
use Rattle.processor.specs.declared.answer.Answer.{Answer}
use Rattle.processor.specs.declared.bench.Job.{Job}
use Rattle.processor.specs.Jobs.{courses, settled, closes, does, Performed}
use Rattle.processor.proofs.Bounds.{at_courses}

lost_settled : (p : Processor) (z : Result (Answer × Processor) Gone) → lost? z ≡ lost? (settled p z).0
lost_settled p (Ok x) = refl
lost_settled p (Err g) = refl

pub performed : {S : Type 0} {means : Meaning S} {becomes : Becoming S} (j : Job) (p : Processor) {m : Memory} {s : S} (z : Result (Answer × Processor) Gone) {m2 : Memory} {s2 : S}
    → Played means becomes (courses j p) m s z m2 s2 → Performed means becomes j p m s (settled p z).0 (settled p z).1 m2 s2
unfolding does
performed {means = means} {becomes = becomes} j p {s = s} z {s2 = s2} h =
    let d = played_has h in
    let P : Bool → Type 0 = λ l. Made means becomes s d.0 l s2 in
    record {
      exchanges = d.0;
      made = subst P (lost_settled p z) d.1.0;
      comes = λ used. ap (closes p) (d.1.1 used);
      few = fed_within _ d.0 _ _ (at_courses j p) d.1.1;
      lawful = d.1.2;
    }
