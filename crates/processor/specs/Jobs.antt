-- Restarting and stepping, whole: what a job answers and leaves.
use Rattle.std.specs.Prelude.{◌≡◌, ℕ, ◌+◌, ◌≤◌, true, false, List, [], ◌∷◌, length, Ok, Err, Result}
use Rattle.bus.specs.declared.exchange.Request.TheVariants.{Init}
use Rattle.bus.specs.declared.exchange.Gone.{Gone}
use Rattle.bus.specs.declared.exchange.Exchange.{Exchange}
use Rattle.bus.specs.Memory.{Memory}
use Rattle.bus.specs.Exchanges.{all_lawful}
use Rattle.bus.specs.Courses.{Act, done, asks, bind, Meaning, Becoming, Played}
use Rattle.bus.specs.Feeds.{Out, feed, lost?, Made}
use Rattle.operands.specs.declared.state.Life.TheVariants.{Running, Halted, Ended}
use Rattle.operands.specs.declared.state.Processor.{Processor}
use Rattle.operands.specs.State.{with_life}
use Rattle.processor.specs.declared.answer.Answer.{Answer}
use Rattle.processor.specs.declared.answer.Answer.TheVariants.{WentOn}
use Rattle.processor.specs.declared.bench.Job.{Job}
use Rattle.processor.specs.declared.bench.Job.TheVariants.{Restart, Step}
use Rattle.processor.specs.Stepping.{steps}

-- All zero but for PC, PSW and life.
abbrev pub cleared : ℕ → ℕ → Processor
cleared pc psw = record {
  registers = 0 ∷ 0 ∷ 0 ∷ 0 ∷ 0 ∷ 0 ∷ 0 ∷ pc ∷ [];
  psw = psw;
  lines = record { aclo = false; irq2 = false; irq3 = false; virq = false };
  requests = record { aclo = false; irq2 = false; irq3 = false };
  trace = false;
  waiting = false;
  life = Running;
}

-- A new processor is halted, and all zero.
abbrev pub new : Processor
new = with_life (cleared 0 0) Halted

-- A restart takes PC and PSW, clears the rest, asks INIT, and runs.
unfoldable pub restarts : ℕ → ℕ → Act (Answer × Processor)
restarts pc psw = bind (asks Init) (λ a. done (WentOn, cleared pc psw))

abbrev pub courses : Job → Processor → Act (Answer × Processor)
courses (Restart pc psw) p = restarts pc psw
courses Step p = steps p

-- Where the side is gone the processor is as before the job, with life ended.
abbrev pub settled : Processor → Result (Answer × Processor) Gone → Result Answer Gone × Processor
settled p (Ok z) = (Ok z.0, z.1)
settled p (Err g) = (Err g, with_life p Ended)

-- A processor with its memory, and exchanges from which its requests are answered: how many are used, and which are left.
pub record Standing : Type 0 where
  pub processor : Processor
  pub memory : Memory
  pub used : ℕ
  pub rest : List Exchange

abbrev pub standing : Processor → Memory → ℕ → List Exchange → Standing
standing p m used es = record { processor = p; memory = m; used = used; rest = es }

abbrev pub closes : Processor → Out (Answer × Processor) → Result Answer Gone × Standing
closes p z = ((settled p z.0).0, standing (settled p z.0).1 z.1 z.2 z.3)

-- What a job answers and comes to.
unfoldable pub does : Job → Standing → Result Answer Gone × Standing
does j s = closes s.processor (feed (courses j s.processor) s.memory s.used s.rest)

-- A job over any side, request by request: its course was played there, and settled.
pub record Carried {S : Type 0} (means : Meaning S) (becomes : Becoming S) (j : Job) (p : Processor) (m : Memory) (s : S) (r : Result Answer Gone) (p2 : Processor) (m2 : Memory) (s2 : S) : Type 0 where
  pub end : Result (Answer × Processor) Gone
  pub played : Played means becomes (courses j p) m s end m2 s2
  pub settles : (r, p2) ≡ settled p end

-- A job over any side: the side made some lawful exchanges one by one, at most eleven, and was then found gone where the
-- answer says so; from exactly these exchanges the job comes to this answer, processor and memory.
pub record Performed {S : Type 0} (means : Meaning S) (becomes : Becoming S) (j : Job) (p : Processor) (m : Memory) (s : S) (r : Result Answer Gone) (p2 : Processor) (m2 : Memory) (s2 : S) : Type 0 where
  pub exchanges : List Exchange
  pub made : Made means becomes s exchanges (lost? r) s2
  pub comes : (used : ℕ) → does j (standing p m used exchanges) ≡ (r, standing p2 m2 (used + length exchanges) [])
  pub few : length exchanges ≤ 11
  pub lawful : all_lawful exchanges ≡ true
