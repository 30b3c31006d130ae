-- The agreement of replay and recording.
use Rattle.std.specs.Prelude.{◌≡◌, ℕ, zero, suc, ◌<◌, ◌≤◌, Bool, true, false, cond, ◌⊎◌, List, [], ◌∷◌, ◌++◌, map, length, take, Some, None, Ok, Err, Option, Result, slice_index_or}
use Rattle.bus.specs.declared.exchange.Gone.{Gone}
use Rattle.bus.specs.declared.exchange.Exchange.{Exchange}
use Rattle.bus.specs.Memory.{Memory}
use Rattle.bus.specs.Courses.{Act, done, asks, looks, puts, puts_byte, bind}
use Rattle.bus.specs.Exchanges.{all_lawful}
use Rattle.bus.specs.Feeds.{feed}
use Rattle.processor.specs.declared.answer.Answer.{Answer}
use Rattle.processor.specs.declared.bench.Job.{Job}
use Rattle.processor.specs.declared.bench.Job.TheVariants.{Restart, Step}
use Rattle.processor.specs.Jobs.{Standing, standing, courses, does, new}
use Rattle.capture.specs.Records.{Plain, Entry, plain_of, entry}
use Rattle.capture.specs.Exchanges.{exchange_of, record_of}
use Rattle.capture.specs.Checking.{read_capture, entries}
use Rattle.recorder.specs.Recording.{header_allowed, added_by, laid, places}
use Rattle.station.specs.declared.call.Refusal.{Refusal}
use Rattle.station.specs.declared.call.Refusal.TheVariants.{StepCount, HasEnded, NotRunning, NoPlace, SideGone}
use Rattle.station.specs.declared.call.End.{End}
use Rattle.station.specs.declared.call.End.TheVariants.{AllSteps, Halted as EndHalted, Dead as EndDead, NoPlace as EndNoPlace, SideGone as EndSideGone}
use Rattle.station.specs.declared.call.Run.{Run}
use Rattle.station.specs.declared.call.Call.{Call}
use Rattle.station.specs.declared.call.Call.TheVariants.{Restart as CallRestart, Step as CallStep, Run as CallRun}
use Rattle.station.specs.declared.call.Said.{Said}
use Rattle.station.specs.declared.call.Said.TheVariants.{OfJob, OfRun}
use Rattle.station.specs.declared.call.Pace.{Pace}
use Rattle.station.specs.declared.call.Pace.TheVariants.{On, Halted as PaceHalted, Dead as PaceDead}
use Rattle.station.specs.Stations.{Kept, Took, always, room, plays, pace, asked_restart, asked_step, asked_run}

-- What a station shows after a call: its answer, and processor, memory and the exchanges recorded or used so far.
pub record View : Type 0 where
  pub said : Said
  pub shown : Kept

-- New stations are halted, all zero.
abbrev pub new_rig : Memory → Kept
new_rig m = record { processor = new; memory = m; records = [] }

abbrev pub new_replay : Memory → List Exchange → Standing
new_replay m tape = standing new m 0 tape

-- A rig at s with place for so many records, given the calls, showed the views and came to s2; each call may have met another
-- side, which answered in any way.
abbrev pub Recording : ℕ → Kept → List Call → List View → Kept → Type 0
Recording places s [] [] s2 = s ≡ s2
Recording places s [] (v ∷ vs) s2 = ⊥
Recording places s (c ∷ cs) [] s2 = ⊥
Recording places s (c ∷ cs) (v ∷ vs) s2 =
    ((rs : List Exchange) × (Took (plays (room places) c) rs s v.said v.shown × (all_lawful rs ≡ true))) × Recording places v.shown cs vs s2

-- What a replay of these exchanges shows.
abbrev pub view_of : List Exchange → Said × Standing → View
view_of tape z = record { said = z.0; shown = record { processor = z.1.processor; memory = z.1.memory; records = take z.1.used tape } }

abbrev pub replays : List Exchange → Standing → List Call → List View
replays tape s [] = []
replays tape s (c ∷ cs) = view_of tape (plays always c s) ∷ replays tape (plays always c s).1 cs

-- The exchanges of a checked capture.
abbrev pub tape_of : List Entry → List Exchange
tape_of es = map (λ e. exchange_of (plain_of e)) es

-- The views of a new replay of a capture's bytes, over a board that means m.
abbrev pub replay_of : List ℕ → Memory → List Call → List View
replay_of bytes m cs =
    let tape = tape_of (entries (read_capture bytes)) in
    replays tape (new_replay m tape) cs

-- Whether an answer says that the capture was found full.
abbrev pub full_job : Result Answer Refusal → Bool
full_job (Ok a) = false
full_job (Err StepCount) = false
full_job (Err HasEnded) = false
full_job (Err NotRunning) = false
full_job (Err NoPlace) = true
full_job (Err (SideGone n)) = false

abbrev pub full_end : End → Bool
full_end AllSteps = false
full_end EndHalted = false
full_end EndDead = false
full_end EndNoPlace = true
full_end (EndSideGone n) = false

abbrev pub full_run : Result Run Refusal → Bool
full_run (Ok a) = full_end a.end
full_run (Err e) = false

abbrev pub full_said : Said → Bool
full_said (OfJob r) = full_job r
full_said (OfRun r) = full_run r

-- The views before the first call that found the capture full.
abbrev pub until_full : List View → List View
until_full [] = []
until_full (v ∷ vs) = cond (full_said v.said) [] (v ∷ until_full vs)

-- A course makes a cabinet request with k records used.
abbrev pub AsksOn : {X : Type 0} → (X → Memory → ℕ → List Exchange → Type 0) → Result X Gone → Memory → ℕ → List Exchange → Type 0
AsksOn F (Ok y) n v t = F y n v t
AsksOn F (Err g) n v t = ⊥

abbrev pub Asks : {X : Type 0} → ℕ → Act X → Memory → ℕ → List Exchange → Type 0
Asks k (done x) n v t = ⊥
Asks k (asks q) n v t = v ≡ k
Asks k (looks at) n v t = ⊥
Asks k (puts at w) n v t = ⊥
Asks k (puts_byte at b) n v t = ⊥
Asks k (bind p f) n v t = Asks k p n v t ⊎ AsksOn (λ y. Asks k (f y)) (feed p n v t).0 (feed p n v t).1 (feed p n v t).2 (feed p n v t).3

abbrev pub AsksJob : ℕ → Job → Standing → Type 0
AsksJob k j s = Asks k (courses j s.processor) s.memory s.used s.rest

abbrev pub AsksPaced : (Standing → Type 0) → Pace → Standing → Type 0
AsksPaced F On s = F s
AsksPaced F PaceHalted s = ⊥
AsksPaced F PaceDead s = ⊥

abbrev pub AsksNext : (Standing → Type 0) → Result Answer Gone → Standing → Type 0
AsksNext F (Ok a) s = AsksPaced F (pace a) s
AsksNext F (Err g) s = ⊥

abbrev pub AsksRun : ℕ → ℕ → Standing → Type 0
AsksRun k zero s = ⊥
AsksRun k (suc n) s = AsksJob k Step s ⊎ AsksNext (λ t. AsksRun k n t) (does Step s).0 (does Step s).1

abbrev pub AsksUnless : Option Refusal → Type 0 → Type 0
AsksUnless None P = P
AsksUnless (Some e) P = ⊥

abbrev pub AsksCall : ℕ → Call → Standing → Type 0
AsksCall k (CallRestart pc psw) s = AsksUnless (asked_restart s.processor.life) (AsksJob k (Restart pc psw) s)
AsksCall k CallStep s = AsksUnless (asked_step s.processor.life) (AsksJob k Step s)
AsksCall k (CallRun n) s = AsksUnless (asked_run n s.processor.life) (AsksRun k n s)

-- One of the calls asks for record k + 1.
abbrev pub AsksIn : ℕ → Standing → List Call → Type 0
AsksIn k s [] = ⊥
AsksIn k s (c ∷ cs) = AsksCall k c s ⊎ AsksIn k (plays always c s).1 cs

-- The records of checked captures, as they are compared.
abbrev pub records_of : List ℕ → List Plain
records_of bytes = map plain_of (entries (read_capture bytes))

-- What a rig that was opened with so many blocks, this header length and number leaves when it is closed.
abbrev pub closed_bytes : ℕ → ℕ → ℕ → Kept → List ℕ
closed_bytes h number blocks s = laid h number blocks (map record_of s.records)

pub record Agreement : Type 0 where
  -- The bytes of a closed rig pass the check, and a new replay of them over a board that begins alike shows what the rig
  -- showed, after each call before the first that found the capture full.
  pub faithful : (h number blocks : ℕ) → header_allowed h ≡ true → 0 < blocks → blocks ≤ 4096
      → (m : Memory) (cs : List Call) (vs : List View) (closed : Kept) → Recording (places h blocks) (new_rig m) cs vs closed
      → (read_capture (closed_bytes h number blocks closed) ≡ Ok (map (entry (added_by h number)) (map record_of closed.records)))
      × ((later : List View) × (replay_of (closed_bytes h number blocks closed) m cs ≡ until_full vs ++ later))
  -- Captures with as many records, equal one by one, replay alike.
  pub settled_by_records : (one other : List ℕ) → length (records_of one) ≡ length (records_of other)
      → ((i : ℕ) (d : Plain) → i < length (records_of one) → slice_index_or (records_of one) i d ≡ slice_index_or (records_of other) i d)
      → (m : Memory) (cs : List Call) → replay_of one m cs ≡ replay_of other m cs
  -- Captures whose first k records are equal replay alike as long as neither asks for record k + 1.
  pub causal : (k : ℕ) (one other : List ℕ) → k ≤ length (records_of one) → k ≤ length (records_of other)
      → ((i : ℕ) (d : Plain) → i < k → slice_index_or (records_of one) i d ≡ slice_index_or (records_of other) i d)
      → (m : Memory) (cs : List Call)
      → (AsksIn k (new_replay m (tape_of (entries (read_capture one)))) cs → ⊥)
      → (AsksIn k (new_replay m (tape_of (entries (read_capture other)))) cs → ⊥)
      → replay_of one m cs ≡ replay_of other m cs
