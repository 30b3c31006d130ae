-- What users of a restart or a step can rely on.
use Rattle.std.specs.Prelude.{◌≡◌, ℕ, ◌+◌, ◌≤◌, true, false, List, [], ◌∷◌, Some, None, Ok, Err, Option, Result, ◌≢◌}
use Rattle.bus.specs.declared.exchange.Request.TheVariants.{Lines}
use Rattle.bus.specs.declared.exchange.Gone.{Gone}
use Rattle.bus.specs.declared.exchange.Exchange.{Exchange}
use Rattle.bus.specs.Memory.{Memory}
use Rattle.bus.specs.Courses.{Meaning, Becoming}
use Rattle.bus.specs.Feeds.{gone, feed}
use Rattle.operands.specs.declared.state.Life.TheVariants.{Running, Ended}
use Rattle.operands.specs.declared.state.Processor.{Processor}
use Rattle.operands.specs.State.{with_life}
use Rattle.processor.specs.declared.answer.Answer.{Answer}
use Rattle.processor.specs.declared.answer.Answer.TheVariants.{Idle}
use Rattle.processor.specs.declared.bench.Job.{Job}
use Rattle.processor.specs.declared.bench.Job.TheVariants.{Step}
use Rattle.processor.specs.declared.sample.Accepted.{Accepted}
use Rattle.processor.specs.declared.sample.Accepted.TheVariants.{Aclo, Irq2, Irq3, Virq}
use Rattle.processor.specs.Entering.{enters}
use Rattle.processor.specs.Sampling.{lines_of, masks, accepted}
use Rattle.processor.specs.Stepping.{chooses}
use Rattle.processor.specs.Jobs.{Standing, standing, does, Performed}

-- A job over two sides, from the same processor and memory and with the same exchanges, comes to the same answer, processor and memory.
abbrev pub Determined : {S T : Type 0} → Meaning S → Becoming S → Meaning T → Becoming T → Type 0
Determined {S} {T} means becomes means2 becomes2 =
    (j : Job) (p : Processor) (m : Memory) (s s2 : S) (t t2 : T) (r r2 : Result Answer Gone) (q q2 : Processor) (n n2 : Memory)
    → (a : Performed means becomes j p m s r q n s2) (b : Performed means2 becomes2 j p m t r2 q2 n2 t2)
    → a.exchanges ≡ b.exchanges → (r ≡ r2) × (q ≡ q2) × (n ≡ n2)

-- A job that finds its side gone leaves the processor as before, with life ended.
pub record Loss : Type 0 where
  pub as_before : (j : Job) (s : Standing) (g : Gone) → (does j s).0 ≡ Err g → (does j s).1.processor ≡ with_life s.processor Ended

-- A job uses at most eleven exchanges, whatever it is fed with, and gives none back.
pub record Few : Type 0 where
  pub at_most_eleven : (j : Job) (s : Standing) → (does j s).1.used ≤ s.used + 11
  pub none_back : (j : Job) (s : Standing) → s.used ≤ (does j s).1.used

-- A step asks for the lines before anything else.
pub record LinesFirst : Type 0 where
  -- with no exchange, or with another request's, it is lost, and nothing is used or written
  pub lost_without : (p : Processor) (m : Memory) (used : ℕ) → does Step (standing p m used []) ≡ (Err gone, standing (with_life p Ended) m used [])
  pub lost_with_another : (p : Processor) (m : Memory) (used : ℕ) (e : Exchange) (es : List Exchange)
      → (e.request ≢ Lines) → does Step (standing p m used (e ∷ es)) ≡ (Err gone, standing (with_life p Ended) m used (e ∷ es))
  -- with the lines it uses them
  pub used_with_lines : (p : Processor) (m : Memory) (used : ℕ) (lines : Option ℕ) (es : List Exchange)
      → used + 1 ≤ (does Step (standing p m used (record { request = Lines; reply = lines } ∷ es))).1.used

-- Processors that are alike but for lines and requests.
pub record AlikeButForLines (p q : Processor) : Type 0 where
  pub registers : p.registers ≡ q.registers
  pub psw : p.psw ≡ q.psw
  pub trace : p.trace ≡ q.trace
  pub waiting : p.waiting ≡ q.waiting
  pub life : p.life ≡ q.life

-- A step of a processor that does not run takes note of the lines, and does nothing else.
pub record Idleness : Type 0 where
  pub idle : (p : Processor) (m : Memory) (used : ℕ) (lines : Option ℕ) (es : List Exchange) → (p.life ≢ Running)
      → (q : Processor)
      × ((does Step (standing p m used (record { request = Lines; reply = lines } ∷ es)) ≡ (Ok Idle, standing q m (used + 1) es))
      × (q.lines ≡ lines_of lines)
      × AlikeButForLines p q)

-- When each request is the one accepted: none with a request before it, and with P set ACLO alone.
abbrev pub Accepts : Processor → Option Accepted → Type 0
Accepts p (Some Aclo) = p.requests.aclo ≡ true
Accepts p (Some Irq2) = (p.requests.aclo ≡ false) × (masks p.psw ≡ false) × (p.requests.irq2 ≡ true)
Accepts p (Some Irq3) = (p.requests.aclo ≡ false) × (masks p.psw ≡ false) × (p.requests.irq2 ≡ false) × (p.requests.irq3 ≡ true)
Accepts p (Some Virq) =
    (p.requests.aclo ≡ false) × (masks p.psw ≡ false) × (p.requests.irq2 ≡ false) × (p.requests.irq3 ≡ false) × (p.lines.virq ≡ true)
Accepts p None =
    (p.requests.aclo ≡ false)
    × (masks p.psw ≡ false → (p.requests.irq2 ≡ false) × (p.requests.irq3 ≡ false) × (p.lines.virq ≡ false))

-- What comes before what in a step.
pub record Order : Type 0 where
  -- a running processor with the trace mark enters 14, whatever is requested, waiting or not
  pub trace_first : (p : Processor) (m : Memory) (used : ℕ) (es : List Exchange) → p.life ≡ Running → p.trace ≡ true
      → feed (chooses p) m used es ≡ feed (enters 0o14 p) m used es
  -- ACLO comes before IRQ2, IRQ2 before IRQ3, IRQ3 before VIRQ, and P keeps out all but ACLO
  pub requests : (p : Processor) (a : Option Accepted) → a ≡ accepted p → Accepts p a
