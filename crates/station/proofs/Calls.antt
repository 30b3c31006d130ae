-- Calls of a rig, from the job up: with exactly the exchanges that were made a station does the same. Nothing cites the last of
-- these yet: rig and replay, which are to come, will.
use Rattle.std.proofs.Common.{◌≡◌, ℕ, suc, ◌+◌, ◌-◌, ◌<◌, ◌≤◌, Bool, true, false, List, [], ◌++◌, length, Some, None, Ok, Err, Option, Result, sym, refl, ap, ◌∙◌, append_assoc, append-nil, arith}
use Rattle.std.proofs.lemmas.Bool.{cond-true, cond-false}
use Rattle.bus.specs.declared.exchange.Gone.{Gone}
use Rattle.bus.specs.declared.exchange.Exchange.{Exchange}
use Rattle.bus.specs.Feeds.{Out, feed, lost?}
use Rattle.operands.specs.declared.state.Life.{Life}
use Rattle.operands.specs.declared.state.Life.TheVariants.{Running, Halted, Dead, Ended}
use Rattle.operands.specs.declared.state.Processor.{Processor}
use Rattle.processor.specs.declared.answer.Answer.{Answer}
use Rattle.processor.specs.declared.bench.Job.{Job}
use Rattle.processor.specs.declared.bench.Job.TheVariants.{Step}
use Rattle.processor.specs.Jobs.{Standing, courses, settled, closes, does}
use Rattle.station.specs.declared.call.Refusal.{Refusal}
use Rattle.station.specs.declared.call.Refusal.TheVariants.{NoPlace, SideGone}
use Rattle.station.specs.declared.call.End.TheVariants.{AllSteps, NoPlace as EndNoPlace}
use Rattle.station.specs.declared.call.Run.{Run}
use Rattle.station.specs.declared.call.Pace.TheVariants.{On}
use Rattle.station.specs.Stations.{Kept, station, Took, tells, jobs, unless, runs, pace, paced, onward, unread, lost_job, asked_step, asked_restart}
use Rattle.bus.proofs.Feeding.{more, ext}

-- a job that was refused for want of place, that was answered, that was lost
pub job_full : (place : ℕ → Bool) (j : Job) (s : Kept) → place (length s.records) ≡ false → Took (jobs place j) [] s (Err NoPlace) s
job_full place j s h = record { as_played = cond-false _ _ _ h; kept = sym (append-nil _) }

pub job_done : (place : ℕ → Bool) (j : Job) (rs : List Exchange) (s s2 : Kept) (a : Answer) → place (length s.records) ≡ true → Took (does j) rs s (Ok a) s2 → Took (jobs place j) rs s (Ok a) s2
job_done place j rs s s2 a h d = record { as_played = cond-true _ _ _ h ∙ ap (λ x. tells x.0 x.1) d.as_played; kept = d.kept }

pub job_lost : (place : ℕ → Bool) (j : Job) (rs : List Exchange) (s s2 : Kept) (g : Gone) → place (length s.records) ≡ true → Took (does j) rs s (Err g) s2 → Took (jobs place j) rs s (Err (SideGone (length s2.records))) s2
job_lost place j rs s s2 g h d = record { as_played = cond-true _ _ _ h ∙ ap (λ x. tells x.0 x.1) d.as_played; kept = d.kept }

pub asked : {X : Type 0} (f : Standing → Result X Refusal × Standing) (q : Life → Option Refusal) (rs : List Exchange) (s s2 : Kept) (a : Result X Refusal)
    → None ≡ q s.processor.life → Took f rs s a s2 → Took (λ x. unless (q x.processor.life) (f x) x) rs s a s2
asked f q rs s s2 a e d = record { as_played = ap (λ o. unless o (f (station s rs)) (station s rs)) (sym e) ∙ d.as_played; kept = d.kept }

pub refused : {X : Type 0} (f : Standing → Result X Refusal × Standing) (q : Life → Option Refusal) (s : Kept) (r : Refusal)
    → Some r ≡ q s.processor.life → Took (λ x. unless (q x.processor.life) (f x) x) [] s (Err r) s
refused f q s r e = record { as_played = ap (λ o. unless o (f (station s [])) (station s [])) (sym e); kept = sym (append-nil _) }

-- more records behind those that sufficed for a job change nothing
lost_closes : (p : Processor) (z : Out (Answer × Processor)) → lost? (closes p z).0 ≡ false → lost? z.0 ≡ false
lost_closes p z h = go z.0 h
  where
    go : (r : Result (Answer × Processor) Gone) → lost? (settled p r).0 ≡ false → lost? r ≡ false
    go (Ok x) h = refl
    go (Err g) h = h

pub did_more : (j : Job) (s : Standing) (t : List Exchange) → lost? (does j s).0 ≡ false → does j (unread t s) ≡ ((does j s).0, unread t (does j s).1)
unfolding ext does
did_more j s t h = ap (closes s.processor) (more (courses j s.processor) s.memory s.used s.rest t (lost_closes s.processor (feed (courses j s.processor) s.memory s.used s.rest) h))

-- Runs: the records so far have brought the run from s0 to s, with so many steps made
pub record Underway (place : ℕ → Bool) (n : ℕ) (s0 : Kept) (rs : List Exchange) (k : ℕ) (s : Kept) : Type 0 where
  pub so_far : (t : List Exchange) → runs place n 0 (station s0 (rs ++ t)) ≡ runs place (n - k) k (station s t)
  pub kept : s.records ≡ s0.records ++ rs

pub set_out : (place : ℕ → Bool) (n : ℕ) (s : Kept) → Underway place n s [] 0 s
set_out place n s = record { so_far = λ t. let e : n ≡ n - 0 = omega arith in ap (λ m. runs place m 0 (station s t)) e; kept = sym (append-nil _) }

one_step : (place : ℕ → Bool) (m k : ℕ) (s : Kept) (t : List Exchange) (r : Result Answer Gone) (s2 : Standing) → place (length s.records) ≡ true → does Step (station s t) ≡ (r, s2)
    → runs place (suc m) k (station s t) ≡ onward (λ u. runs place m (k + 1) u) k r s2
one_step place m k s t r s2 h e = cond-true _ _ _ h ∙ ap (λ x. onward (λ u. runs place m (k + 1) u) k x.0 x.1) e

pub one_more : (place : ℕ → Bool) (n : ℕ) (s0 : Kept) (rs : List Exchange) (k : ℕ) (s : Kept) (qs : List Exchange) (s2 : Kept) → k < n → Underway place n s0 rs k s → place (length s.records) ≡ true
    → (a : Answer) → Took (does Step) qs s (Ok a) s2 → On ≡ pace a → Underway place n s0 (rs ++ qs) (k + 1) s2
one_more place n s0 rs k s qs s2 lt w h a d on = record {
  so_far = λ t.
      let e : n - k ≡ suc (n - (k + 1)) = omega arith in
      let f : does Step (station s (qs ++ t)) ≡ (Ok a, station s2 t) =
      did_more Step (station s qs) t (ap (λ x. lost? x.0) d.as_played) ∙ ap (λ x. (x.0, unread t x.1)) d.as_played in
      ap (λ x. runs place n 0 (station s0 x)) (append_assoc rs qs t) ∙ (w.so_far (qs ++ t) ∙ (ap (λ m. runs place m k (station s (qs ++ t))) e ∙ (one_step place (n - (k + 1)) k s (qs ++ t) (Ok a) (station s2 t) h f ∙ ap (λ x. paced (λ u. runs place (n - (k + 1)) (k + 1) u) k x (station s2 t)) (sym on))));
  kept = d.kept ∙ (ap (λ x. x ++ qs) w.kept ∙ append_assoc s0.records rs qs);
}

pub run_end : (place : ℕ → Bool) (n : ℕ) (s0 : Kept) (rs : List Exchange) (k : ℕ) (s : Kept) (qs : List Exchange) (s2 : Kept) (r : Result Answer Gone) (a : Run) → k < n → Underway place n s0 rs k s → place (length s.records) ≡ true
    → Took (does Step) qs s r s2 → ((F : Standing → Run × Standing) → onward F k r (station s2 []) ≡ (a, station s2 [])) → Took (runs place n 0) (rs ++ qs) s0 a s2
run_end place n s0 rs k s qs s2 r a lt w h d o = record {
  as_played =
      let e : n - k ≡ suc (n - (k + 1)) = omega arith in
      w.so_far qs ∙ (ap (λ m. runs place m k (station s qs)) e ∙ (one_step place (n - (k + 1)) k s qs r (station s2 []) h d.as_played ∙ o _));
  kept = d.kept ∙ (ap (λ x. x ++ qs) w.kept ∙ append_assoc s0.records rs qs);
}

pub run_full : (place : ℕ → Bool) (n : ℕ) (s0 : Kept) (rs : List Exchange) (k : ℕ) (s : Kept) → k < n → Underway place n s0 rs k s → place (length s.records) ≡ false → Took (runs place n 0) rs s0 (record { steps = k; end = EndNoPlace }) s
run_full place n s0 rs k s lt w h = record {
  as_played =
      let e : n - k ≡ suc (n - (k + 1)) = omega arith in
      ap (λ x. runs place n 0 (station s0 x)) (sym (append-nil rs)) ∙ (w.so_far [] ∙ (ap (λ m. runs place m k (station s [])) e ∙ cond-false _ _ _ h));
  kept = w.kept;
}

pub run_all : (place : ℕ → Bool) (n : ℕ) (s0 : Kept) (rs : List Exchange) (k : ℕ) (s : Kept) → n ≤ k → Underway place n s0 rs k s → Took (runs place n 0) rs s0 (record { steps = k; end = AllSteps }) s
run_all place n s0 rs k s le w = record {
  as_played =
      let e : n - k ≡ 0 = omega arith in
      ap (λ x. runs place n 0 (station s0 x)) (sym (append-nil rs)) ∙ (w.so_far [] ∙ ap (λ m. runs place m k (station s [])) e);
  kept = w.kept;
}

-- the same with another answer made of each
pub took_map : {A B : Type 0} (g : A → B) (f : Standing → A × Standing) (rs : List Exchange) (s s2 : Kept) (a : A) → Took f rs s a s2 → Took (λ x. (g (f x).0, (f x).1)) rs s (g a) s2
took_map g f rs s s2 a d = record { as_played = ap (λ x. (g x.0, x.1)) d.as_played; kept = d.kept }

lost_of : Option Refusal → Bool
lost_of None = false
lost_of (Some r) = lost_job (Err r)

keeps_step : (l : Life) → lost_of (asked_step l) ≡ false
unfolding lost_of
keeps_step Running = refl
keeps_step Halted = refl
keeps_step Dead = refl
keeps_step Ended = refl

pub not_lost_step : (l : Life) (r : Refusal) → Some r ≡ asked_step l → lost_job (Err r) ≡ false
unfolding lost_of
not_lost_step l r e = ap lost_of e ∙ keeps_step l

keeps_restart : (l : Life) → lost_of (asked_restart l) ≡ false
unfolding lost_of
keeps_restart Running = refl
keeps_restart Halted = refl
keeps_restart Dead = refl
keeps_restart Ended = refl

pub not_lost_restart : (l : Life) (r : Refusal) → Some r ≡ asked_restart l → lost_job (Err r) ≡ false
unfolding lost_of
not_lost_restart l r e = ap lost_of e ∙ keeps_restart l
