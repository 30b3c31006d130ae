-- Replays of captures that begin alike show the same until the first record that differs is asked for.
use Rattle.std.proofs.Common.{◌≡◌, ℕ, zero, suc, ◌+◌, ◌≤◌, Bool, true, false, cond, List, [], ◌∷◌, ◌++◌, length, take, drop, Some, None, Ok, Err, Option, Result, sym, refl, ap, ◌∙◌, subst, inl, inr, arith, take-append-drop, length-take}
use lib.Seq.{take-append-le}
use Rattle.bus.specs.declared.exchange.Request.{Request}
use Rattle.bus.specs.declared.exchange.Gone.{Gone}
use Rattle.bus.specs.declared.exchange.Exchange.{Exchange}
use Rattle.bus.specs.Memory.{Memory, read, write, write_byte}
use Rattle.bus.specs.Courses.{Act, done, asks, looks, puts, puts_byte, bind}
use Rattle.bus.specs.Feeds.{Out, feed, answers, onto, gone, same}
use Rattle.operands.specs.declared.state.Processor.{Processor}
use Rattle.processor.specs.declared.answer.Answer.{Answer}
use Rattle.processor.specs.declared.bench.Job.{Job}
use Rattle.processor.specs.declared.bench.Job.TheVariants.{Restart, Step}
use Rattle.processor.specs.Jobs.{Standing, standing, courses, settled, closes, does}
use Rattle.station.specs.declared.call.Refusal.{Refusal}
use Rattle.station.specs.declared.call.Refusal.TheVariants.{SideGone}
use Rattle.station.specs.declared.call.End.TheVariants.{AllSteps, Halted as EndHalted, Dead as EndDead, SideGone as EndSideGone}
use Rattle.station.specs.declared.call.Run.{Run}
use Rattle.station.specs.declared.call.Call.{Call}
use Rattle.station.specs.declared.call.Call.TheVariants.{Restart as CallRestart, Step as CallStep, Run as CallRun}
use Rattle.station.specs.declared.call.Said.{Said}
use Rattle.station.specs.declared.call.Said.TheVariants.{OfJob, OfRun}
use Rattle.station.specs.declared.call.Pace.{Pace}
use Rattle.station.specs.declared.call.Pace.TheVariants.{On, Halted as PaceHalted, Dead as PaceDead}
use Rattle.station.specs.Stations.{tells, jobs, unless, runs, pace, paced, onward, always, asked_step, asked_restart, asked_run, plays}
use Rattle.station.specs.Agreement.{view_of, replays, new_replay, AsksOn, Asks, AsksJob, AsksPaced, AsksNext, AsksRun, AsksUnless, AsksCall, AsksIn}

-- Two outcomes that differ only in what lies from record k on
record Twin {X : Type 0} (k : ℕ) (a b : List Exchange) (z z2 : Out X) : Type 0 where
  end : Result X Gone
  mem : Memory
  at : ℕ
  common : List Exchange
  left : z ≡ (end, mem, at, common ++ a)
  right : z2 ≡ (end, mem, at, common ++ b)
  upto : at + length common ≡ k

module _ (k : ℕ) (a b : List Exchange) where
  twin_answers : (q : Request) (n : Memory) (v : ℕ) (c : List Exchange) → v + length c ≡ k → (v ≡ k → ⊥) → Twin k a b (answers q n v (c ++ a)) (answers q n v (c ++ b))
  twin_answers q n v [] e h = absurd (h (omega arith))
  twin_answers q n v (x ∷ c) e h = go (same x.request q)
    where
      go : (t : Bool) → Twin k a b (cond {A = Out (Option ℕ)} t (Ok x.reply, n, v + 1, c ++ a) (Err gone, n, v, x ∷ (c ++ a))) (cond {A = Out (Option ℕ)} t (Ok x.reply, n, v + 1, c ++ b) (Err gone, n, v, x ∷ (c ++ b)))
      go true = record { end = Ok x.reply; mem = n; at = v + 1; common = c; left = refl; right = refl; upto = omega arith }
      go false = record { end = Err gone; mem = n; at = v; common = x ∷ c; left = refl; right = refl; upto = e }

  twin_onto : {X Y : Type 0} (F : X → Memory → ℕ → List Exchange → Out Y) (G : X → Memory → ℕ → List Exchange → Type 0) (z z2 : Out X)
      → ((y : X) (n : Memory) (v : ℕ) (c : List Exchange) → v + length c ≡ k → (G y n v (c ++ a) → ⊥) → Twin k a b (F y n v (c ++ a)) (F y n v (c ++ b)))
      → (r : Result X Gone) (n : Memory) (v : ℕ) (c : List Exchange) → z ≡ (r, n, v, c ++ a) → z2 ≡ (r, n, v, c ++ b) → v + length c ≡ k
      → (AsksOn G z.0 z.1 z.2 z.3 → ⊥)
      → Twin k a b (onto F z.0 z.1 z.2 z.3) (onto F z2.0 z2.1 z2.2 z2.3)
  twin_onto {X} {Y} F G z z2 f (Ok y) n v c l r u h =
      let P : Out X → Type 0 = λ z. AsksOn G z.0 z.1 z.2 z.3 in
      let i = f y n v c u (λ q. h (subst P (sym l) q)) in
      let O : Out X → Out Y = λ z. onto F z.0 z.1 z.2 z.3 in
      record { end = i.end; mem = i.mem; at = i.at; common = i.common; left = ap O l ∙ i.left; right = ap O r ∙ i.right; upto = i.upto }
  twin_onto {X} {Y} F G z z2 f (Err g) n v c l r u h =
      let O : Out X → Out Y = λ z. onto F z.0 z.1 z.2 z.3 in
      record { end = Err g; mem = n; at = v; common = c; left = ap O l; right = ap O r; upto = u }

  twin_feed : {X : Type 0} (p : Act X) (n : Memory) (v : ℕ) (c : List Exchange) → v + length c ≡ k → (Asks k p n v (c ++ a) → ⊥) → Twin k a b (feed p n v (c ++ a)) (feed p n v (c ++ b))
  twin_feed (done x) n v c u h = record { end = Ok x; mem = n; at = v; common = c; left = refl; right = refl; upto = u }
  twin_feed (asks q) n v c u h = twin_answers q n v c u h
  twin_feed (looks at) n v c u h = record { end = Ok (read n at); mem = n; at = v; common = c; left = refl; right = refl; upto = u }
  twin_feed (puts at w) n v c u h = record { end = Ok (write n at w).0; mem = (write n at w).1; at = v; common = c; left = refl; right = refl; upto = u }
  twin_feed (puts_byte at w) n v c u h = record { end = Ok (write_byte n at w).0; mem = (write_byte n at w).1; at = v; common = c; left = refl; right = refl; upto = u }
  twin_feed (bind p f) n v c u h =
      let i = twin_feed p n v c u (λ q. h (inl q)) in
      twin_onto (λ y. feed (f y)) (λ y. Asks k (f y)) (feed p n v (c ++ a)) (feed p n v (c ++ b)) (λ y n v c u h. twin_feed (f y) n v c u h)
      i.end i.mem i.at i.common i.left i.right i.upto (λ q. h (inr q))

record Both {A : Type 0} (k : ℕ) (a b : List Exchange) (z z2 : A × Standing) : Type 0 where
  end : A
  pro : Processor
  mem : Memory
  at : ℕ
  common : List Exchange
  left : z ≡ (end, standing pro mem at (common ++ a))
  right : z2 ≡ (end, standing pro mem at (common ++ b))
  upto : at + length common ≡ k

module _ (k : ℕ) (a b : List Exchange) where
  both_does : (j : Job) (p : Processor) (n : Memory) (v : ℕ) (c : List Exchange) → v + length c ≡ k → (AsksJob k j (standing p n v (c ++ a)) → ⊥)
      → Both k a b (does j (standing p n v (c ++ a))) (does j (standing p n v (c ++ b)))
  unfolding does
  both_does j p n v c u h =
      let i = twin_feed k a b (courses j p) n v c u h in
      record { end = (settled p i.end).0; pro = (settled p i.end).1; mem = i.mem; at = i.at; common = i.common; left = ap (closes p) i.left; right = ap (closes p) i.right; upto = i.upto }

  both_tells : (z z2 : Result Answer Gone × Standing) (r : Result Answer Gone) (p : Processor) (n : Memory) (v : ℕ) (c : List Exchange)
      → z ≡ (r, standing p n v (c ++ a)) → z2 ≡ (r, standing p n v (c ++ b)) → v + length c ≡ k → Both k a b (tells z.0 z.1) (tells z2.0 z2.1)
  both_tells z z2 (Ok x) p n v c l r u = record { end = Ok x; pro = p; mem = n; at = v; common = c; left = ap (λ z. tells z.0 z.1) l; right = ap (λ z. tells z.0 z.1) r; upto = u }
  both_tells z z2 (Err g) p n v c l r u = record { end = Err (SideGone v); pro = p; mem = n; at = v; common = c; left = ap (λ z. tells z.0 z.1) l; right = ap (λ z. tells z.0 z.1) r; upto = u }

  both_jobs : (j : Job) (p : Processor) (n : Memory) (v : ℕ) (c : List Exchange) → v + length c ≡ k → (AsksJob k j (standing p n v (c ++ a)) → ⊥)
      → Both k a b (jobs always j (standing p n v (c ++ a))) (jobs always j (standing p n v (c ++ b)))
  both_jobs j p n v c u h =
      let i = both_does j p n v c u h in
      both_tells (does j (standing p n v (c ++ a))) (does j (standing p n v (c ++ b))) i.end i.pro i.mem i.at i.common i.left i.right i.upto

  both_unless : {X : Type 0} (o : Option Refusal) (P : Type 0) (z z2 : Result X Refusal × Standing) (p : Processor) (n : Memory) (v : ℕ) (c : List Exchange) → v + length c ≡ k
      → ((P → ⊥) → Both k a b z z2) → (AsksUnless o P → ⊥) → Both k a b (unless o z (standing p n v (c ++ a))) (unless o z2 (standing p n v (c ++ b)))
  both_unless None P z z2 p n v c u f h = f h
  both_unless (Some e) P z z2 p n v c u f h = record { end = Err e; pro = p; mem = n; at = v; common = c; left = refl; right = refl; upto = u }

  both_paced : (F : Standing → Run × Standing) (G : Standing → Type 0) (i : ℕ)
      → ((p : Processor) (n : Memory) (v : ℕ) (c : List Exchange) → v + length c ≡ k → (G (standing p n v (c ++ a)) → ⊥) → Both k a b (F (standing p n v (c ++ a))) (F (standing p n v (c ++ b))))
      → (x : Pace) (p : Processor) (n : Memory) (v : ℕ) (c : List Exchange) → v + length c ≡ k → (AsksPaced G x (standing p n v (c ++ a)) → ⊥)
      → Both k a b (paced F i x (standing p n v (c ++ a))) (paced F i x (standing p n v (c ++ b)))
  both_paced F G i f On p n v c u h = f p n v c u h
  both_paced F G i f PaceHalted p n v c u h = record { end = record { steps = i + 1; end = EndHalted }; pro = p; mem = n; at = v; common = c; left = refl; right = refl; upto = u }
  both_paced F G i f PaceDead p n v c u h = record { end = record { steps = i + 1; end = EndDead }; pro = p; mem = n; at = v; common = c; left = refl; right = refl; upto = u }

  both_onward : (F : Standing → Run × Standing) (G : Standing → Type 0) (i : ℕ) (z z2 : Result Answer Gone × Standing)
      → ((p : Processor) (n : Memory) (v : ℕ) (c : List Exchange) → v + length c ≡ k → (G (standing p n v (c ++ a)) → ⊥) → Both k a b (F (standing p n v (c ++ a))) (F (standing p n v (c ++ b))))
      → (r : Result Answer Gone) (p : Processor) (n : Memory) (v : ℕ) (c : List Exchange)
      → z ≡ (r, standing p n v (c ++ a)) → z2 ≡ (r, standing p n v (c ++ b)) → v + length c ≡ k → (AsksNext G z.0 z.1 → ⊥)
      → Both k a b (onward F i z.0 z.1) (onward F i z2.0 z2.1)
  both_onward F G i z z2 f (Ok x) p n v c l r u h =
      let P : Result Answer Gone × Standing → Type 0 = λ z. AsksNext G z.0 z.1 in
      let O : Result Answer Gone × Standing → Run × Standing = λ z. onward F i z.0 z.1 in
      let d = both_paced F G i f (pace x) p n v c u (λ q. h (subst P (sym l) q)) in
      record { end = d.end; pro = d.pro; mem = d.mem; at = d.at; common = d.common; left = ap O l ∙ d.left; right = ap O r ∙ d.right; upto = d.upto }
  both_onward F G i z z2 f (Err g) p n v c l r u h =
      let O : Result Answer Gone × Standing → Run × Standing = λ z. onward F i z.0 z.1 in
      record { end = record { steps = i; end = EndSideGone v }; pro = p; mem = n; at = v; common = c; left = ap O l; right = ap O r; upto = u }

  both_runs : (m i : ℕ) (p : Processor) (n : Memory) (v : ℕ) (c : List Exchange) → v + length c ≡ k → (AsksRun k m (standing p n v (c ++ a)) → ⊥)
      → Both k a b (runs always m i (standing p n v (c ++ a))) (runs always m i (standing p n v (c ++ b)))
  both_runs zero i p n v c u h = record { end = record { steps = i; end = AllSteps }; pro = p; mem = n; at = v; common = c; left = refl; right = refl; upto = u }
  both_runs (suc m) i p n v c u h =
      let d = both_does Step p n v c u (λ q. h (inl q)) in
      both_onward (λ t. runs always m (i + 1) t) (λ t. AsksRun k m t) i (does Step (standing p n v (c ++ a))) (does Step (standing p n v (c ++ b))) (λ p n v c u h. both_runs m (i + 1) p n v c u h)
      d.end d.pro d.mem d.at d.common d.left d.right d.upto (λ q. h (inr q))

  both_map : {A B : Type 0} (f : A → B) (z z2 : A × Standing) → Both k a b z z2 → Both {A = B} k a b (f z.0, z.1) (f z2.0, z2.1)
  both_map f z z2 d = record { end = f d.end; pro = d.pro; mem = d.mem; at = d.at; common = d.common; left = ap (λ z. (f z.0, z.1)) d.left; right = ap (λ z. (f z.0, z.1)) d.right; upto = d.upto }

  both_plays : (c : Call) (p : Processor) (n : Memory) (v : ℕ) (t : List Exchange) → v + length t ≡ k → (AsksCall k c (standing p n v (t ++ a)) → ⊥)
      → Both k a b (plays always c (standing p n v (t ++ a))) (plays always c (standing p n v (t ++ b)))
  both_plays (CallRestart pc psw) p n v t u h = both_map OfJob _ _ (both_unless (asked_restart p.life) (AsksJob k (Restart pc psw) (standing p n v (t ++ a))) (jobs always (Restart pc psw) (standing p n v (t ++ a))) (jobs always (Restart pc psw) (standing p n v (t ++ b))) p n v t u (both_jobs (Restart pc psw) p n v t u) h)
  both_plays CallStep p n v t u h = both_map OfJob _ _ (both_unless (asked_step p.life) (AsksJob k Step (standing p n v (t ++ a))) (jobs always Step (standing p n v (t ++ a))) (jobs always Step (standing p n v (t ++ b))) p n v t u (both_jobs Step p n v t u) h)
  both_plays (CallRun m) p n v t u h = both_map OfRun _ _ (both_unless (asked_run m p.life) (AsksRun k m (standing p n v (t ++ a))) (Ok (runs always m 0 (standing p n v (t ++ a))).0, (runs always m 0 (standing p n v (t ++ a))).1) (Ok (runs always m 0 (standing p n v (t ++ b))).0, (runs always m 0 (standing p n v (t ++ b))).1) p n v t u
      (λ h. both_map Ok (runs always m 0 (standing p n v (t ++ a))) (runs always m 0 (standing p n v (t ++ b))) (both_runs m 0 p n v t u h)) h)

  both_replay : (tape tape2 : List Exchange) → ((v : ℕ) → v ≤ k → take v tape ≡ take v tape2) → (cs : List Call) (p : Processor) (n : Memory) (v : ℕ) (t : List Exchange) → v + length t ≡ k
      → (AsksIn k (standing p n v (t ++ a)) cs → ⊥) → replays tape (standing p n v (t ++ a)) cs ≡ replays tape2 (standing p n v (t ++ b)) cs
  both_replay tape tape2 w [] p n v t u h = refl
  both_replay tape tape2 w (c ∷ cs) p n v t u h =
      let d = both_plays c p n v t u (λ q. h (inl q)) in
      let P : Said × Standing → Type 0 = λ z. AsksIn k z.1 cs in
      let i = both_replay tape tape2 w cs d.pro d.mem d.at d.common d.upto (λ q. h (inr (subst P (sym d.left) q))) in
      let le : d.at ≤ k = omega (arith, d.upto) in
      ap (λ z. view_of tape z ∷ replays tape z.1 cs) d.left
      ∙ (ap (λ x. record { said = d.end; shown = record { processor = d.pro; memory = d.mem; records = x } } ∷ replays tape (standing d.pro d.mem d.at (d.common ++ a)) cs) (w d.at le)
      ∙ (ap (λ x. record { said = d.end; shown = record { processor = d.pro; memory = d.mem; records = take d.at tape2 } } ∷ x) i
      ∙ sym (ap (λ z. view_of tape2 z ∷ replays tape2 z.1 cs) d.right)))

pub causally : (k : ℕ) (tape tape2 : List Exchange) → k ≤ length tape → take k tape ≡ take k tape2
    → (m : Memory) (cs : List Call) → (AsksIn k (new_replay m tape) cs → ⊥) → (AsksIn k (new_replay m tape2) cs → ⊥)
    → replays tape (new_replay m tape) cs ≡ replays tape2 (new_replay m tape2) cs
causally k tape tape2 l front m cs q q2 =
    let a = drop k tape in
    let b = drop k tape2 in
    let t = take k tape in
    let ea : t ++ a ≡ tape = take-append-drop k tape in
    let eb : t ++ b ≡ tape2 = ap (λ x. x ++ b) front ∙ take-append-drop k tape2 in
    let len : length t ≡ k = length-take k tape ∙ omega arith in
    let w : (v : ℕ) → v ≤ k → take v tape ≡ take v tape2 = λ v le.
    ap (take v) (sym ea) ∙ (take-append-le v t a (omega arith) ∙ (sym (take-append-le v t b (omega arith)) ∙ ap (take v) eb)) in
    let P : List Exchange → Type 0 = λ x. AsksIn k (new_replay m x) cs in
    ap (λ x. replays tape (new_replay m x) cs) (sym ea)
    ∙ (both_replay k a b tape tape2 w cs _ m 0 t (omega arith) (λ p. q (subst P ea p))
    ∙ ap (λ x. replays tape2 (new_replay m x) cs) eb)
