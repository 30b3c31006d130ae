-- Stations: what a call answers and leaves, its cabinet requests answered from a list of exchanges.
use Rattle.std.specs.Prelude.{◌≡◌, ℕ, zero, suc, ◌+◌, Bool, true, false, cond, ◌&&◌, List, [], ◌++◌, length, Some, None, Ok, Err, Option, Result, nat_le, nat_lt}
use Rattle.bus.specs.declared.exchange.Gone.{Gone}
use Rattle.bus.specs.declared.exchange.Exchange.{Exchange}
use Rattle.bus.specs.Memory.{Memory}
use Rattle.bus.specs.Courses.{Meaning, Becoming}
use Rattle.bus.specs.Exchanges.{all_lawful}
use Rattle.bus.specs.Feeds.{Made}
use Rattle.operands.specs.declared.state.Life.{Life}
use Rattle.operands.specs.declared.state.Life.TheVariants.{Running, Halted, Dead, Ended}
use Rattle.operands.specs.declared.state.Processor.{Processor}
use Rattle.processor.specs.declared.answer.Answer.{Answer}
use Rattle.processor.specs.declared.answer.Answer.TheVariants.{WentOn, Entered, Waiting, Halted as AnswerHalted, Dead as AnswerDead, Idle}
use Rattle.processor.specs.declared.bench.Job.{Job}
use Rattle.processor.specs.declared.bench.Job.TheVariants.{Restart, Step}
use Rattle.processor.specs.Jobs.{Standing, standing, does}
use Rattle.station.specs.declared.call.Refusal.{Refusal}
use Rattle.station.specs.declared.call.Refusal.TheVariants.{StepCount, HasEnded, NotRunning, NoPlace, SideGone}
use Rattle.station.specs.declared.call.End.{End}
use Rattle.station.specs.declared.call.End.TheVariants.{AllSteps, Halted as EndHalted, Dead as EndDead, NoPlace as EndNoPlace, SideGone as EndSideGone}
use Rattle.station.specs.declared.call.Run.{Run}
use Rattle.station.specs.declared.call.Call.{Call}
use Rattle.station.specs.declared.call.Call.TheVariants.{Restart as CallRestart, Step as CallStep, Run as CallRun}
use Rattle.station.specs.declared.call.Said.{Said}
use Rattle.station.specs.declared.call.Said.TheVariants.{OfJob, OfRun}
use Rattle.station.specs.declared.call.Pace.{Pace}
use Rattle.station.specs.declared.call.Pace.TheVariants.{On, Halted as PaceHalted, Dead as PaceDead}

-- The questions that look at the processor alone: not ended (11), running (12); before them, 1 to 10,000 steps (10).
abbrev pub asked_restart : Life → Option Refusal
asked_restart Running = None
asked_restart Halted = None
asked_restart Dead = None
asked_restart Ended = Some HasEnded

abbrev pub asked_step : Life → Option Refusal
asked_step Running = None
asked_step Halted = Some NotRunning
asked_step Dead = Some NotRunning
asked_step Ended = Some HasEnded

abbrev pub asked_run : ℕ → Life → Option Refusal
asked_run n life = cond (nat_lt 0 n && nat_le n 10000) (asked_step life) (Some StepCount)

-- A refused call changes nothing.
abbrev pub unless : {X : Type 0} → Option Refusal → Result X Refusal × Standing → Standing → Result X Refusal × Standing
unless None z s = z
unless (Some e) z s = (Err e, s)

-- A job whose side is gone is refused with the count of records made or used (14).
abbrev pub tells : Result Answer Gone → Standing → Result Answer Refusal × Standing
tells (Ok a) s = (Ok a, s)
tells (Err g) s = (Err (SideGone s.used), s)

-- A job of a station that has place for it; place goes by the count of records (13).
abbrev pub jobs : (ℕ → Bool) → Job → Standing → Result Answer Refusal × Standing
jobs place j s = cond (place s.used) (tells (does j s).0 (does j s).1) (Err NoPlace, s)

-- A run ends early when halted or dead.
abbrev pub pace : Answer → Pace
pace WentOn = On
pace Entered = On
pace Waiting = On
pace AnswerHalted = PaceHalted
pace AnswerDead = PaceDead
pace Idle = On

abbrev pub paced : (Standing → Run × Standing) → ℕ → Pace → Standing → Run × Standing
paced further k On s = further s
paced further k PaceHalted s = (record { steps = k + 1; end = EndHalted }, s)
paced further k PaceDead s = (record { steps = k + 1; end = EndDead }, s)

abbrev pub onward : (Standing → Run × Standing) → ℕ → Result Answer Gone → Standing → Run × Standing
onward further k (Ok a) s = paced further k (pace a) s
onward further k (Err g) s = (record { steps = k; end = EndSideGone s.used }, s)

-- Up to n more steps, after k that were answered.
abbrev pub runs : (ℕ → Bool) → ℕ → ℕ → Standing → Run × Standing
runs place zero k s = (record { steps = k; end = AllSteps }, s)
runs place (suc n) k s =
    cond (place s.used) (onward (λ t. runs place n (k + 1) t) k (does Step s).0 (does Step s).1) (record { steps = k; end = EndNoPlace }, s)

abbrev pub play_restart : (ℕ → Bool) → ℕ → ℕ → Standing → Result Answer Refusal × Standing
play_restart place pc psw s = unless (asked_restart s.processor.life) (jobs place (Restart pc psw) s) s

abbrev pub play_step : (ℕ → Bool) → Standing → Result Answer Refusal × Standing
play_step place s = unless (asked_step s.processor.life) (jobs place Step s) s

abbrev pub play_run : (ℕ → Bool) → ℕ → Standing → Result Run Refusal × Standing
play_run place n s = unless (asked_run n s.processor.life) (Ok (runs place n 0 s).0, (runs place n 0 s).1) s

-- What a call answers and leaves.
abbrev pub plays : (ℕ → Bool) → Call → Standing → Said × Standing
plays place (CallRestart pc psw) s = (OfJob (play_restart place pc psw s).0, (play_restart place pc psw s).1)
plays place CallStep s = (OfJob (play_step place s).0, (play_step place s).1)
plays place (CallRun n) s = (OfRun (play_run place n s).0, (play_run place n s).1)

-- A replay always has place; a rig while eleven more records fit.
abbrev pub always : ℕ → Bool
always used = true

abbrev pub room : ℕ → ℕ → Bool
room places used = nat_le (used + 11) places

-- Processor, memory, and the exchanges recorded or used so far.
pub record Kept : Type 0 where
  pub processor : Processor
  pub memory : Memory
  pub records : List Exchange

-- A station at s, with exchanges rs to come.
abbrev pub station : Kept → List Exchange → Standing
station s rs = standing s.processor s.memory (length s.records) rs

-- More exchanges behind those to come.
abbrev pub unread : List Exchange → Standing → Standing
unread t s = standing s.processor s.memory s.used (s.rest ++ t)

-- A rig's call that made the exchanges rs does what a station does that is given exactly these, and keeps them.
pub record Took {A : Type 0} (f : Standing → A × Standing) (rs : List Exchange) (s : Kept) (a : A) (s2 : Kept) : Type 0 where
  pub as_played : f (station s rs) ≡ (a, station s2 [])
  pub kept : s2.records ≡ s.records ++ rs

-- Whether an answer says that the side was found gone.
abbrev pub lost_job : Result Answer Refusal → Bool
lost_job (Ok a) = false
lost_job (Err StepCount) = false
lost_job (Err HasEnded) = false
lost_job (Err NotRunning) = false
lost_job (Err NoPlace) = false
lost_job (Err (SideGone n)) = true

abbrev pub lost_end : End → Bool
lost_end AllSteps = false
lost_end EndHalted = false
lost_end EndDead = false
lost_end EndNoPlace = false
lost_end (EndSideGone n) = true

abbrev pub lost_run : Result Run Refusal → Bool
lost_run (Ok a) = lost_end a.end
lost_run (Err e) = false

abbrev pub lost_said : Said → Bool
lost_said (OfJob r) = lost_job r
lost_said (OfRun r) = lost_run r

-- A rig's call over a side: the side made some lawful exchanges, and was then found gone where the answer says so; with
-- exactly these the call comes to this answer and state, and they are recorded.
pub record Rigged {S A : Type 0} (means : Meaning S) (becomes : Becoming S) (f : Standing → A × Standing) (s : Kept) (t : S) (a : A) (lost : Bool) (s2 : Kept) (u : S) : Type 0 where
  pub exchanges : List Exchange
  pub took : Took f exchanges s a s2
  pub made : Made means becomes t exchanges lost u
  pub lawful : all_lawful exchanges ≡ true
