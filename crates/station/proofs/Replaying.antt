-- A replay of what a rig recorded shows what the rig showed.
use Rattle.std.proofs.Common.{◌≡◌, ℕ, zero, suc, ◌+◌, Bool, true, false, cond, List, [], ◌∷◌, ◌++◌, length, take, Some, None, Ok, Err, Option, Result, sym, refl, ap, ◌∙◌, append_assoc, append-nil}
use mathlib.Core.List.{append_cancel_left}
use lib.Seq.{take-append_seam}
use Rattle.bus.specs.declared.exchange.Gone.{Gone}
use Rattle.bus.specs.declared.exchange.Exchange.{Exchange}
use Rattle.bus.specs.Exchanges.{all_lawful}
use Rattle.bus.specs.Feeds.{feed, lost?}
use Rattle.operands.specs.declared.state.Life.TheVariants.{Ended}
use Rattle.operands.specs.declared.state.Processor.{Processor}
use Rattle.processor.specs.declared.answer.Answer.{Answer}
use Rattle.processor.specs.declared.bench.Job.{Job}
use Rattle.processor.specs.declared.bench.Job.TheVariants.{Restart, Step}
use Rattle.processor.specs.Jobs.{Standing, courses, settled, does}
use Rattle.station.specs.declared.call.Refusal.{Refusal}
use Rattle.station.specs.declared.call.Refusal.TheVariants.{StepCount, HasEnded, NoPlace}
use Rattle.station.specs.declared.call.End.TheVariants.{NoPlace as EndNoPlace}
use Rattle.station.specs.declared.call.Run.{Run}
use Rattle.station.specs.declared.call.Call.{Call}
use Rattle.station.specs.declared.call.Call.TheVariants.{Restart as CallRestart, Step as CallStep, Run as CallRun}
use Rattle.station.specs.declared.call.Said.{Said}
use Rattle.station.specs.declared.call.Said.TheVariants.{OfJob, OfRun}
use Rattle.station.specs.declared.call.Pace.{Pace}
use Rattle.station.specs.declared.call.Pace.TheVariants.{On, Halted as PaceHalted, Dead as PaceDead}
use Rattle.station.specs.Stations.{Kept, station, Took, tells, jobs, unless, runs, pace, paced, onward, room, always, unread, lost_job, lost_end, lost_run, lost_said, asked_step, asked_restart, asked_run, plays}
use Rattle.station.specs.Agreement.{View, Recording, view_of, replays, full_job, full_end, full_run, full_said, until_full}
use Rattle.bus.proofs.Requests.{no_bool, lawful_on}
use Rattle.station.proofs.Calls.{did_more, not_lost_step, not_lost_restart}

-- 1. More records behind those that sufficed
tells_more : (r : Result Answer Gone) (s : Standing) (t : List Exchange) → lost_job (tells r s).0 ≡ false → tells r (unread t s) ≡ ((tells r s).0, unread t (tells r s).1)
tells_more (Ok a) s t h = refl
tells_more (Err g) s t h = no_bool h

told_not_lost : (r : Result Answer Gone) (s : Standing) → lost_job (tells r s).0 ≡ false → lost? r ≡ false
told_not_lost (Ok a) s h = refl
told_not_lost (Err g) s h = no_bool h

jobs_more : (place : ℕ → Bool) (j : Job) (s : Standing) (t : List Exchange) → lost_job (jobs place j s).0 ≡ false → jobs place j (unread t s) ≡ ((jobs place j s).0, unread t (jobs place j s).1)
jobs_more place j s t h = go (place s.used) h
  where
    Y : Standing → Result Answer Refusal × Standing
    Y s = tells (does j s).0 (does j s).1

    N : Standing → Result Answer Refusal × Standing
    N s = (Err NoPlace, s)

    go : (b : Bool) → lost_job (cond b (Y s) (N s)).0 ≡ false → cond b (Y (unread t s)) (N (unread t s)) ≡ ((cond b (Y s) (N s)).0, unread t (cond b (Y s) (N s)).1)
    go true k = ap (λ x. tells x.0 x.1) (did_more j s t (told_not_lost (does j s).0 (does j s).1 k)) ∙ tells_more (does j s).0 (does j s).1 t k
    go false k = refl

unless_more : {X : Type 0} (L : Result X Refusal → Bool) (o : Option Refusal) (z z2 : Result X Refusal × Standing) (s : Standing) (t : List Exchange)
    → (L z.0 ≡ false → z2 ≡ (z.0, unread t z.1)) → L (unless o z s).0 ≡ false → unless o z2 (unread t s) ≡ ((unless o z s).0, unread t (unless o z s).1)
unless_more L None z z2 s t f h = f h
unless_more L (Some e) z z2 s t f h = refl

paced_more : (F : Standing → Run × Standing) (k : ℕ) (t : List Exchange) → ((s : Standing) → lost_end (F s).0.end ≡ false → F (unread t s) ≡ ((F s).0, unread t (F s).1))
    → (x : Pace) (s : Standing) → lost_end (paced F k x s).0.end ≡ false → paced F k x (unread t s) ≡ ((paced F k x s).0, unread t (paced F k x s).1)
paced_more F k t f On s h = f s h
paced_more F k t f PaceHalted s h = refl
paced_more F k t f PaceDead s h = refl

onward_more : (F : Standing → Run × Standing) (k : ℕ) (t : List Exchange) → ((s : Standing) → lost_end (F s).0.end ≡ false → F (unread t s) ≡ ((F s).0, unread t (F s).1))
    → (r : Result Answer Gone) (s : Standing) → lost_end (onward F k r s).0.end ≡ false → onward F k r (unread t s) ≡ ((onward F k r s).0, unread t (onward F k r s).1)
onward_more F k t f (Ok a) s h = paced_more F k t f (pace a) s h
onward_more F k t f (Err g) s h = no_bool h

onward_not_lost : (F : Standing → Run × Standing) (k : ℕ) (r : Result Answer Gone) (s : Standing) → lost_end (onward F k r s).0.end ≡ false → lost? r ≡ false
onward_not_lost F k (Ok a) s h = refl
onward_not_lost F k (Err g) s h = no_bool h

runs_step : (place : ℕ → Bool) (F : Standing → Run × Standing) (k : ℕ) (s : Standing) (t : List Exchange) (b : Bool) → ((s : Standing) → lost_end (F s).0.end ≡ false → F (unread t s) ≡ ((F s).0, unread t (F s).1))
    → lost_end (cond {A = Run × Standing} b (onward F k (does Step s).0 (does Step s).1) (record { steps = k; end = EndNoPlace }, s)).0.end ≡ false
    → cond {A = Run × Standing} b (onward F k (does Step (unread t s)).0 (does Step (unread t s)).1) (record { steps = k; end = EndNoPlace }, unread t s)
    ≡ ((cond {A = Run × Standing} b (onward F k (does Step s).0 (does Step s).1) (record { steps = k; end = EndNoPlace }, s)).0, unread t (cond {A = Run × Standing} b (onward F k (does Step s).0 (does Step s).1) (record { steps = k; end = EndNoPlace }, s)).1)
runs_step place F k s t true f h = ap (λ x. onward F k x.0 x.1) (did_more Step s t (onward_not_lost F k (does Step s).0 (does Step s).1 h)) ∙ onward_more F k t f (does Step s).0 (does Step s).1 h
runs_step place F k s t false f h = refl

runs_more : (place : ℕ → Bool) (n k : ℕ) (s : Standing) (t : List Exchange) → lost_end (runs place n k s).0.end ≡ false → runs place n k (unread t s) ≡ ((runs place n k s).0, unread t (runs place n k s).1)
runs_more place zero k s t h = refl
runs_more place (suc n) k s t h = runs_step place (λ u. runs place n (k + 1) u) k s t (place s.used) (λ s h. runs_more place n (k + 1) s t h) h

pub plays_more : (place : ℕ → Bool) (c : Call) (s : Standing) (t : List Exchange) → lost_said (plays place c s).0 ≡ false → plays place c (unread t s) ≡ ((plays place c s).0, unread t (plays place c s).1)
plays_more place (CallRestart pc psw) s t h = ap (λ x. (OfJob x.0, x.1)) (unless_more lost_job (asked_restart s.processor.life) (jobs place (Restart pc psw) s) (jobs place (Restart pc psw) (unread t s)) s t (jobs_more place (Restart pc psw) s t) h)
plays_more place CallStep s t h = ap (λ x. (OfJob x.0, x.1)) (unless_more lost_job (asked_step s.processor.life) (jobs place Step s) (jobs place Step (unread t s)) s t (jobs_more place Step s t) h)
plays_more place (CallRun n) s t h = ap (λ x. (OfRun x.0, x.1)) (unless_more lost_run (asked_run n s.processor.life) (Ok (runs place n 0 s).0, (runs place n 0 s).1) (Ok (runs place n 0 (unread t s)).0, (runs place n 0 (unread t s)).1) s t (λ h. ap (λ x. (Ok x.0, x.1)) (runs_more place n 0 s t h)) h)

-- 2. A call that finds the capture not full is a replay's
jobs_same : (place : ℕ → Bool) (j : Job) (s : Standing) → full_job (jobs place j s).0 ≡ false → jobs always j s ≡ jobs place j s
jobs_same place j s h = go (place s.used) h
  where
    Y : Result Answer Refusal × Standing
    Y = tells (does j s).0 (does j s).1

    go : (b : Bool) → full_job (cond b Y (Err NoPlace, s)).0 ≡ false → Y ≡ cond b Y (Err NoPlace, s)
    go true k = refl
    go false k = no_bool k

unless_same : {X : Type 0} (L : Result X Refusal → Bool) (o : Option Refusal) (z z2 : Result X Refusal × Standing) (s : Standing)
    → (L z.0 ≡ false → z2 ≡ z) → L (unless o z s).0 ≡ false → unless o z2 s ≡ unless o z s
unless_same L None z z2 s f h = f h
unless_same L (Some e) z z2 s f h = refl

paced_same : (F G : Standing → Run × Standing) (k : ℕ) → ((s : Standing) → full_end (F s).0.end ≡ false → G s ≡ F s)
    → (x : Pace) (s : Standing) → full_end (paced F k x s).0.end ≡ false → paced G k x s ≡ paced F k x s
paced_same F G k f On s h = f s h
paced_same F G k f PaceHalted s h = refl
paced_same F G k f PaceDead s h = refl

onward_same : (F G : Standing → Run × Standing) (k : ℕ) → ((s : Standing) → full_end (F s).0.end ≡ false → G s ≡ F s)
    → (r : Result Answer Gone) (s : Standing) → full_end (onward F k r s).0.end ≡ false → onward G k r s ≡ onward F k r s
onward_same F G k f (Ok a) s h = paced_same F G k f (pace a) s h
onward_same F G k f (Err g) s h = refl

runs_same : (place : ℕ → Bool) (n k : ℕ) (s : Standing) → full_end (runs place n k s).0.end ≡ false → runs always n k s ≡ runs place n k s
runs_same place zero k s h = refl
runs_same place (suc n) k s h = go (place s.used) (λ s h. runs_same place n (k + 1) s h) h
  where
    Y : (Standing → Run × Standing) → Run × Standing
    Y F = onward F k (does Step s).0 (does Step s).1

    go : (b : Bool) → ((s : Standing) → full_end (runs place n (k + 1) s).0.end ≡ false → runs always n (k + 1) s ≡ runs place n (k + 1) s)
        → full_end (cond b (Y (λ t. runs place n (k + 1) t)) (record { steps = k; end = EndNoPlace }, s)).0.end ≡ false
        → Y (λ t. runs always n (k + 1) t) ≡ cond b (Y (λ t. runs place n (k + 1) t)) (record { steps = k; end = EndNoPlace }, s)
    go true f h = onward_same (λ t. runs place n (k + 1) t) (λ t. runs always n (k + 1) t) k f (does Step s).0 (does Step s).1 h
    go false f h = no_bool h

pub plays_same : (place : ℕ → Bool) (c : Call) (s : Standing) → full_said (plays place c s).0 ≡ false → plays always c s ≡ plays place c s
plays_same place (CallRestart pc psw) s h = ap (λ x. (OfJob x.0, x.1)) (unless_same full_job (asked_restart s.processor.life) (jobs place (Restart pc psw) s) (jobs always (Restart pc psw) s) s (jobs_same place (Restart pc psw) s) h)
plays_same place CallStep s h = ap (λ x. (OfJob x.0, x.1)) (unless_same full_job (asked_step s.processor.life) (jobs place Step s) (jobs always Step s) s (jobs_same place Step s) h)
plays_same place (CallRun n) s h = ap (λ x. (OfRun x.0, x.1)) (unless_same full_run (asked_run n s.processor.life) (Ok (runs place n 0 s).0, (runs place n 0 s).1) (Ok (runs always n 0 s).0, (runs always n 0 s).1) s (λ h. ap (λ x. (Ok x.0, x.1)) (runs_same place n 0 s h)) h)

-- 3. A call that was lost leaves the station ended
does_lost : (p : Processor) (z : Result (Answer × Processor) Gone) → lost? (settled p z).0 ≡ true → (settled p z).1.life ≡ Ended
does_lost p (Ok x) h = no_bool (sym h)
does_lost p (Err g) h = refl

tells_lost : (r : Result Answer Gone) (s : Standing) → lost_job (tells r s).0 ≡ true → (lost? r ≡ true) × ((tells r s).1 ≡ s)
tells_lost (Ok a) s h = no_bool (sym h)
tells_lost (Err g) s h = (refl, refl)

job_ends : (j : Job) (s : Standing) → lost? (does j s).0 ≡ true → (does j s).1.processor.life ≡ Ended
unfolding does
job_ends j s h = does_lost s.processor (feed (courses j s.processor) s.memory s.used s.rest).0 h

jobs_lost : (place : ℕ → Bool) (j : Job) (s : Standing) → lost_job (jobs place j s).0 ≡ true → (jobs place j s).1.processor.life ≡ Ended
jobs_lost place j s h = go (place s.used) h
  where
    Y : Result Answer Refusal × Standing
    Y = tells (does j s).0 (does j s).1

    go : (b : Bool) → lost_job (cond b Y (Err NoPlace, s)).0 ≡ true → (cond b Y (Err NoPlace, s)).1.processor.life ≡ Ended
    go true k = let e = tells_lost (does j s).0 (does j s).1 k in ap (λ x. x.processor.life) e.1 ∙ job_ends j s e.0
    go false k = no_bool (sym k)

paced_lost : (F : Standing → Run × Standing) (k : ℕ) → ((s : Standing) → lost_end (F s).0.end ≡ true → (F s).1.processor.life ≡ Ended)
    → (x : Pace) (s : Standing) → lost_end (paced F k x s).0.end ≡ true → (paced F k x s).1.processor.life ≡ Ended
paced_lost F k f On s h = f s h
paced_lost F k f PaceHalted s h = no_bool (sym h)
paced_lost F k f PaceDead s h = no_bool (sym h)

onward_lost : (F : Standing → Run × Standing) (k : ℕ) → ((s : Standing) → lost_end (F s).0.end ≡ true → (F s).1.processor.life ≡ Ended)
    → (r : Result Answer Gone) (s : Standing) → (lost? r ≡ true → s.processor.life ≡ Ended) → lost_end (onward F k r s).0.end ≡ true → (onward F k r s).1.processor.life ≡ Ended
onward_lost F k f (Ok a) s e h = paced_lost F k f (pace a) s h
onward_lost F k f (Err g) s e h = e refl

runs_lost : (place : ℕ → Bool) (n k : ℕ) (s : Standing) → lost_end (runs place n k s).0.end ≡ true → (runs place n k s).1.processor.life ≡ Ended
runs_lost place zero k s h = no_bool (sym h)
runs_lost place (suc n) k s h = go (place s.used) (λ s h. runs_lost place n (k + 1) s h) h
  where
    Y : Run × Standing
    Y = onward (λ t. runs place n (k + 1) t) k (does Step s).0 (does Step s).1

    go : (b : Bool) → ((s : Standing) → lost_end (runs place n (k + 1) s).0.end ≡ true → (runs place n (k + 1) s).1.processor.life ≡ Ended)
        → lost_end (cond b Y (record { steps = k; end = EndNoPlace }, s)).0.end ≡ true → (cond b Y (record { steps = k; end = EndNoPlace }, s)).1.processor.life ≡ Ended
    go true f h = onward_lost (λ t. runs place n (k + 1) t) k f (does Step s).0 (does Step s).1 (job_ends Step s) h
    go false f h = no_bool (sym h)

unless_lost : {X : Type 0} (L : Result X Refusal → Bool) (o : Option Refusal) (z : Result X Refusal × Standing) (s : Standing)
    → (L z.0 ≡ true → z.1.processor.life ≡ Ended) → ((e : Refusal) → Some e ≡ o → L (Err e) ≡ false) → L (unless o z s).0 ≡ true → (unless o z s).1.processor.life ≡ Ended
unless_lost L None z s f q h = f h
unless_lost L (Some e) z s f q h = no_bool (sym h ∙ q e refl)

plays_lost : (place : ℕ → Bool) (c : Call) (s : Standing) → lost_said (plays place c s).0 ≡ true → (plays place c s).1.processor.life ≡ Ended
plays_lost place (CallRestart pc psw) s h = unless_lost lost_job (asked_restart s.processor.life) (jobs place (Restart pc psw) s) s (jobs_lost place (Restart pc psw) s) (λ e q. not_lost_restart s.processor.life e q) h
plays_lost place CallStep s h = unless_lost lost_job (asked_step s.processor.life) (jobs place Step s) s (jobs_lost place Step s) (λ e q. not_lost_step s.processor.life e q) h
plays_lost place (CallRun n) s h = unless_lost lost_run (asked_run n s.processor.life) (Ok (runs place n 0 s).0, (runs place n 0 s).1) s (runs_lost place n 0 s) (λ e q. refl) h

-- 4. An ended station does nothing
run_stays : (b : Bool) (z : Result Run Refusal × Standing) (s : Standing) → (unless (cond b (Some HasEnded) (Some StepCount)) z s).1 ≡ s
run_stays true z s = refl
run_stays false z s = refl

plays_ended : (place : ℕ → Bool) (c : Call) (s : Standing) → s.processor.life ≡ Ended → (plays place c s).1 ≡ s
plays_ended place (CallRestart pc psw) s h = ap (λ l. (unless (asked_restart l) (jobs place (Restart pc psw) s) s).1) h
plays_ended place CallStep s h = ap (λ l. (unless (asked_step l) (jobs place Step s) s).1) h
plays_ended place (CallRun n) s h = ap (λ l. (unless (asked_run n l) (Ok (runs place n 0 s).0, (runs place n 0 s).1) s).1) h ∙ run_stays _ _ s

-- 5. What a rig has written stays written; an ended rig writes nothing
grows : (ps : ℕ) (s : Kept) (cs : List Call) (vs : List View) (s2 : Kept) → Recording ps s cs vs s2 → (fs : List Exchange) × (s2.records ≡ s.records ++ fs)
grows ps s [] [] s2 e = ([], ap (λ x. x.records) (sym e) ∙ sym (append-nil s.records))
grows ps s [] (v ∷ vs) s2 e = absurd e
grows ps s (c ∷ cs) [] s2 e = absurd e
grows ps s (c ∷ cs) (v ∷ vs) s2 e =
    let i = grows ps v.shown cs vs s2 e.1 in
    (e.0.0 ++ i.0, i.1 ∙ (ap (λ x. x ++ i.0) e.0.1.0.kept ∙ append_assoc s.records e.0.0 i.0))

idle : (ps : ℕ) (s : Kept) (cs : List Call) (vs : List View) (s2 : Kept) → s.processor.life ≡ Ended → Recording ps s cs vs s2 → s2.records ≡ s.records
idle ps s [] [] s2 h e = ap (λ x. x.records) (sym e)
idle ps s [] (v ∷ vs) s2 h e = absurd e
idle ps s (c ∷ cs) [] s2 h e = absurd e
idle ps s (c ∷ cs) (v ∷ vs) s2 h e =
    let stays : station s e.0.0 ≡ station v.shown [] = sym (plays_ended (room ps) c (station s e.0.0) h) ∙ ap (λ x. x.1) e.0.1.0.as_played in
    let none : e.0.0 ≡ [] = ap (λ x. x.rest) stays in
    idle ps v.shown cs vs s2 (ap (λ x. x.processor.life) (sym stays) ∙ h) e.1
    ∙ (e.0.1.0.kept ∙ (ap (λ x. s.records ++ x) none ∙ append-nil s.records))

-- 6. One call of a replay over the records of the rig and what came later
one_call : (place : ℕ → Bool) (c : Call) (s : Kept) (rs : List Exchange) (a : Said) (s1 : Kept) (fs : List Exchange) → Took (plays place c) rs s a s1 → full_said a ≡ false
    → (s1.processor.life ≡ Ended → fs ≡ []) → plays always c (station s (rs ++ fs)) ≡ (a, station s1 fs)
one_call place c s rs a s1 fs d nf idle = go (lost_said a) refl
  where
    same : plays always c (station s rs) ≡ (a, station s1 [])
    same = plays_same place c (station s rs) (ap (λ x. full_said x.0) d.as_played ∙ nf) ∙ d.as_played

    go : (b : Bool) → lost_said a ≡ b → plays always c (station s (rs ++ fs)) ≡ (a, station s1 fs)
    go true l =
        let ends : s1.processor.life ≡ Ended = ap (λ x. x.1.processor.life) (sym d.as_played) ∙ plays_lost place c (station s rs) (ap (λ x. lost_said x.0) d.as_played ∙ l) in
        let none : fs ≡ [] = idle ends in
        ap (λ x. plays always c (station s x)) (ap (λ x. rs ++ x) none ∙ append-nil rs) ∙ (same ∙ ap (λ x. (a, station s1 x)) (sym none))
    go false l = plays_more always c (station s rs) fs (ap (λ x. lost_said x.0) same ∙ l) ∙ ap (λ x. (x.0, unread fs x.1)) same

-- 7. All calls
pub follows : (ps : ℕ) (tape : List Exchange) (s : Kept) (fs : List Exchange) (cs : List Call) (vs : List View) (s2 : Kept) → s2.records ≡ tape → tape ≡ s.records ++ fs
    → Recording ps s cs vs s2 → (later : List View) × (replays tape (station s fs) cs ≡ until_full vs ++ later)
follows ps tape s fs [] [] s2 t f e = ([], refl)
follows ps tape s fs [] (v ∷ vs) s2 t f e = absurd e
follows ps tape s fs (c ∷ cs) [] s2 t f e = absurd e
follows ps tape s fs (c ∷ cs) (v ∷ vs) s2 t f e = go (full_said v.said) refl
    (λ gs q. follows ps tape v.shown gs cs vs s2 t q e.1)
  where
    all : List View
    all = replays tape (station s fs) (c ∷ cs)

    go : (b : Bool) → full_said v.said ≡ b → ((gs : List Exchange) → tape ≡ v.shown.records ++ gs → (later : List View) × (replays tape (station v.shown gs) cs ≡ until_full vs ++ later))
        → (later : List View) × (all ≡ cond b [] (v ∷ until_full vs) ++ later)
    go true l i = (all, refl)
    go false l i =
        let rs = e.0.0 in
        let g = grows ps v.shown cs vs s2 e.1 in
        let gs = g.0 in
        let q : tape ≡ v.shown.records ++ gs = sym t ∙ g.1 in
        let cut : fs ≡ rs ++ gs = append_cancel_left s.records fs (rs ++ gs) (sym f ∙ (q ∙ (ap (λ x. x ++ gs) e.0.1.0.kept ∙ append_assoc s.records rs gs))) in
        let nothing : v.shown.processor.life ≡ Ended → gs ≡ [] = λ h. append_cancel_left v.shown.records gs [] (sym q ∙ (sym t ∙ (idle ps v.shown cs vs s2 h e.1 ∙ sym (append-nil v.shown.records)))) in
        let one : plays always c (station s fs) ≡ (v.said, station v.shown gs) = ap (λ x. plays always c (station s x)) cut ∙ one_call (room ps) c s rs v.said v.shown gs e.0.1.0 l nothing in
        let seen : take (length v.shown.records) tape ≡ v.shown.records = ap (λ x. take (length v.shown.records) x) q ∙ take-append_seam v.shown.records gs in
        let k = i gs q in (
          k.0,
          ap (λ x. view_of tape x ∷ replays tape x.1 cs) one
              ∙ (ap (λ x. record { said = v.said; shown = record { processor = v.shown.processor; memory = v.shown.memory; records = x } } ∷ replays tape (station v.shown gs) cs) seen
              ∙ ap (λ x. v ∷ x) k.1),
        )

pub recorded_lawful : (ps : ℕ) (s : Kept) (cs : List Call) (vs : List View) (s2 : Kept) → all_lawful s.records ≡ true → Recording ps s cs vs s2 → all_lawful s2.records ≡ true
recorded_lawful ps s [] [] s2 h e = ap (λ x. all_lawful x.records) (sym e) ∙ h
recorded_lawful ps s [] (v ∷ vs) s2 h e = absurd e
recorded_lawful ps s (c ∷ cs) [] s2 h e = absurd e
recorded_lawful ps s (c ∷ cs) (v ∷ vs) s2 h e =
    recorded_lawful ps v.shown cs vs s2 (ap all_lawful e.0.1.0.kept ∙ lawful_on s.records e.0.0 h e.0.1.1) e.1
