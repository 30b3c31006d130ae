-- The laws of a job.
use Rattle.std.proofs.Common.{◌≡◌, ℕ, ◌+◌, ◌≤◌, Bool, true, false, cond, List, [], ◌∷◌, Some, None, Ok, Err, Option, Result, sym, refl, ap, ◌∙◌, subst, arith}
use Rattle.bus.specs.declared.exchange.Request.{Request}
use Rattle.bus.specs.declared.exchange.Request.TheVariants.{Read, Write, WriteByte, Lines, Vector, Init}
use Rattle.bus.specs.declared.exchange.Gone.{Gone}
use Rattle.bus.specs.declared.exchange.Exchange.{Exchange}
use Rattle.bus.specs.Memory.{Memory}
use Rattle.bus.specs.Courses.{Act, done, asks, looks, puts, puts_byte, bind, Meaning, Becoming}
use Rattle.bus.specs.Feeds.{Out, gone, answers, onto, feed, lost?, same}
use Rattle.bus.proofs.Requests.{no_bool}
use Rattle.operands.specs.declared.state.Life.{Life}
use Rattle.operands.specs.declared.state.Life.TheVariants.{Running, Halted, Dead, Ended}
use Rattle.operands.specs.declared.state.Processor.{Processor}
use Rattle.operands.specs.State.{with_life}
use Rattle.processor.specs.declared.answer.Answer.{Answer}
use Rattle.processor.specs.declared.answer.Answer.TheVariants.{Idle}
use Rattle.processor.specs.declared.bench.Job.TheVariants.{Step}
use Rattle.processor.specs.declared.sample.Accepted.{Accepted}
use Rattle.processor.specs.declared.sample.Accepted.TheVariants.{Aclo, Irq2, Irq3, Virq}
use Rattle.processor.specs.Entering.{enters}
use Rattle.processor.specs.Sampling.{masks, accepted, lines_of, sampled}
use Rattle.processor.specs.Stepping.{branch, chooses, steps}
use Rattle.processor.specs.Jobs.{standing, courses, settled, closes, does}
use Rattle.processor.specs.Laws.{Determined, Loss, Few, LinesFirst, Idleness, Accepts, Order}
use Rattle.processor.proofs.Bounds.{at_courses}

-- the same exchanges give the same end
pub determined : {S T : Type 0} (means : Meaning S) (becomes : Becoming S) (means2 : Meaning T) (becomes2 : Becoming T) → Determined means becomes means2 becomes2
determined means becomes means2 becomes2 j p m s s2 t t2 r r2 q q2 n n2 a b e =
    let ends = sym (a.comes 0) ∙ (ap (λ es. does j (standing p m 0 es)) e ∙ b.comes 0) in
    (ap (λ z. z.0) ends, ap (λ z. z.1.processor) ends, ap (λ z. z.1.memory) ends)

-- a lost end leaves the processor of before
lost_settles : (p : Processor) (z : Result (Answer × Processor) Gone) (g : Gone) → (settled p z).0 ≡ Err g → (settled p z).1 ≡ with_life p Ended
lost_settles p (Ok z) g h = no_bool (sym (ap lost? h))
lost_settles p (Err g2) g h = refl

pub loss : Loss
unfolding does
loss = record { as_before = λ j s g h. lost_settles s.processor (feed (courses j s.processor) s.memory s.used s.rest).0 g h }

-- a course gives no exchange back
grows_answers : (q : Request) (m : Memory) (v : ℕ) (t : List Exchange) → v ≤ (answers q m v t).2
grows_answers q m v [] = omega arith
grows_answers q m v (e ∷ t) = go (same e.request q)
  where
    go : (b : Bool) → v ≤ (cond {A = Out (Option ℕ)} b (Ok e.reply, m, v + 1, t) (Err gone, m, v, e ∷ t)).2
    go true = omega arith
    go false = omega arith

grows_onto : {X Y : Type 0} (F : X → Memory → ℕ → List Exchange → Out Y) (v : ℕ)
    → ((y : X) (m : Memory) (w : ℕ) (t : List Exchange) → w ≤ (F y m w t).2)
    → (r : Result X Gone) (m : Memory) (w : ℕ) (t : List Exchange) → v ≤ w → v ≤ (onto F r m w t).2
grows_onto F v k (Ok y) m w t h = omega (arith, k y m w t)
grows_onto F v k (Err g) m w t h = h

grows : {X : Type 0} (p : Act X) (m : Memory) (v : ℕ) (t : List Exchange) → v ≤ (feed p m v t).2
grows (done x) m v t = omega arith
grows (asks q) m v t = grows_answers q m v t
grows (looks at) m v t = omega arith
grows (puts at w) m v t = omega arith
grows (puts_byte at w) m v t = omega arith
grows (bind p f) m v t =
    grows_onto (λ y. feed (f y)) v (λ y m w t. grows (f y) m w t) (feed p m v t).0 (feed p m v t).1 (feed p m v t).2 (feed p m v t).3 (grows p m v t)

pub few : Few
unfolding does
few =
    record {
      at_most_eleven = λ j s. (at_courses j s.processor).within s.memory s.used s.rest;
      none_back = λ j s. grows (courses j s.processor) s.memory s.used s.rest;
    }

-- only the request for the lines is the same as it
not_lines : (q : Request) → (q ≡ Lines → ⊥) → same q Lines ≡ false
not_lines (Read at) h = refl
not_lines (Write at w) h = refl
not_lines (WriteByte at b) h = refl
not_lines Lines h = absurd (h refl)
not_lines Vector h = refl
not_lines Init h = refl

first_other : (p : Processor) (m : Memory) (used : ℕ) (e : Exchange) (es : List Exchange)
    → same e.request Lines ≡ false → does Step (standing p m used (e ∷ es)) ≡ (Err gone, standing (with_life p Ended) m used (e ∷ es))
unfolding does steps
first_other p m used e es h =
    ap (λ b. closes p (onto (λ y. feed (chooses (sampled (lines_of y) p))) (c b).0 (c b).1 (c b).2 (c b).3)) h
  where
    c : Bool → Out (Option ℕ)
    c b = cond b (Ok e.reply, m, used + 1, es) (Err gone, m, used, e ∷ es)

pub lines_first : LinesFirst
unfolding does steps
lines_first =
    record {
      lost_without = λ p m used. refl;
      lost_with_another = λ p m used e es h. first_other p m used e es (not_lines e.request h);
      used_with_lines = λ p m used lines es. grows (chooses (sampled (lines_of lines) p)) m (used + 1) es;
    }

-- a processor that does not run is idle
idle_branch : (l : Life) (t w : Bool) (a : Option Accepted) (p : Processor) (m : Memory) (v : ℕ) (es : List Exchange)
    → (l ≡ Running → ⊥) → feed (branch l t w a p) m v es ≡ (Ok (Idle, p), m, v, es)
idle_branch Running t w a p m v es h = absurd (h refl)
idle_branch Halted t w a p m v es h = refl
idle_branch Dead t w a p m v es h = refl
idle_branch Ended t w a p m v es h = refl

pub idleness : Idleness
unfolding does steps chooses
idleness =
    record {
      idle = λ p m used lines es h.
          let q = sampled (lines_of lines) p in
          (q, (ap (closes p) (idle_branch p.life p.trace p.waiting (accepted q) q m (used + 1) es h), refl, record { registers = refl; psw = refl; trace = refl; waiting = refl; life = refl }));
    }

-- the branch of a traced processor
trace_branch : (l : Life) (t w : Bool) (a : Option Accepted) (p : Processor) (m : Memory) (v : ℕ) (es : List Exchange)
    → l ≡ Running → t ≡ true → feed (branch l t w a p) m v es ≡ feed (enters 0o14 p) m v es
trace_branch l t w a p m v es h k = ap (λ l. feed (branch l t w a p) m v es) h ∙ ap (λ t. feed (branch Running t w a p) m v es) k

-- each request with what it comes after
in_order : (aclo mask irq2 irq3 virq : Bool) → (P : Option Accepted → Type 0)
    → (aclo ≡ true → P (Some Aclo))
    → (aclo ≡ false → mask ≡ true → P None)
    → (aclo ≡ false → mask ≡ false → irq2 ≡ true → P (Some Irq2))
    → (aclo ≡ false → mask ≡ false → irq2 ≡ false → irq3 ≡ true → P (Some Irq3))
    → (aclo ≡ false → mask ≡ false → irq2 ≡ false → irq3 ≡ false → virq ≡ true → P (Some Virq))
    → (aclo ≡ false → mask ≡ false → irq2 ≡ false → irq3 ≡ false → virq ≡ false → P None)
    → P (cond aclo (Some Aclo) (cond mask None (cond irq2 (Some Irq2) (cond irq3 (Some Irq3) (cond virq (Some Virq) None)))))
in_order true mask irq2 irq3 virq P a b c d e f = a refl
in_order false true irq2 irq3 virq P a b c d e f = b refl refl
in_order false false true irq3 virq P a b c d e f = c refl refl refl
in_order false false false true virq P a b c d e f = d refl refl refl refl
in_order false false false false true P a b c d e f = e refl refl refl refl refl
in_order false false false false false P a b c d e f = f refl refl refl refl refl

accepts_first : (p : Processor) → Accepts p (accepted p)
accepts_first p =
    in_order p.requests.aclo (masks p.psw) p.requests.irq2 p.requests.irq3 p.lines.virq (Accepts p)
    (λ a. a) (λ a m. (a, λ k. no_bool (sym m ∙ k))) (λ a m c. (a, m, c)) (λ a m c d. (a, m, c, d)) (λ a m c d e. (a, m, c, d, e)) (λ a m c d e. (a, λ k. (c, d, e)))

pub order : Order
unfolding chooses
order =
    record {
      trace_first = λ p m used es h k. trace_branch p.life p.trace p.waiting (accepted p) p m used es h k;
      requests = λ p a h. subst (Accepts p) (sym h) (accepts_first p);
    }
