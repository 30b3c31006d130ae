-- The agreement of replay and recording, over bytes.
use Rattle.std.proofs.Common.{◌≡◌, ℕ, zero, suc, ◌+◌, ◌*◌, ◌/◌, ◌<◌, ◌≤◌, Bool, true, false, cond, eqb, List, [], ◌∷◌, map, length, get_or, take, Some, None, Ok, Err, Option, Result, sym, refl, ap, ◌∙◌, subst, arith, lit≤}
use Rattle.std.proofs.lemmas.Bool.{leb-true, and_parts, false≢true}
use Rattle.std.proofs.lemmas.List.{length-map, take-map, length-take-le, get_or-take, same_lists}
use Rattle.std.proofs.lemmas.Bool.Decides.{nat_tests as ways}
use Rattle.bus.specs.declared.exchange.Request.{Request}
use Rattle.bus.specs.declared.exchange.Request.TheVariants.{Read, Write, WriteByte, Lines, Vector, Init}
use Rattle.bus.specs.declared.exchange.Gone.{Gone}
use Rattle.bus.specs.declared.exchange.Exchange.{Exchange}
use Rattle.bus.specs.Exchanges.{lawful_exchange, all_lawful}
use Rattle.processor.specs.declared.answer.Answer.{Answer}
use Rattle.processor.specs.declared.bench.Job.{Job}
use Rattle.processor.specs.declared.bench.Job.TheVariants.{Restart, Step}
use Rattle.processor.specs.Jobs.{Standing, does}
use Rattle.processor.proofs.Bounds.{at_courses}
use Rattle.capture.specs.Records.{Plain, Entry, plain_of, entry}
use Rattle.capture.specs.Lawful.{writable, all_writable}
use Rattle.capture.specs.Exchanges.{exchange, exchange_of, record_of}
use Rattle.capture.specs.Checking.{read_capture, entries}
use Rattle.capture.specs.Words.{word_bytes}
use Rattle.capture.specs.Layout.{per_block}
use Rattle.capture.proofs.Matching.{written}
use Rattle.capture.proofs.Rounds.{layout_reads_back}
use Rattle.recorder.specs.Recording.{added_by, places}
use Rattle.recorder.proofs.Packing.{added_size}
use Rattle.station.specs.declared.call.Refusal.{Refusal}
use Rattle.station.specs.declared.call.Refusal.TheVariants.{NoPlace}
use Rattle.station.specs.declared.call.End.TheVariants.{NoPlace as EndNoPlace}
use Rattle.station.specs.declared.call.Run.{Run}
use Rattle.station.specs.declared.call.Call.{Call}
use Rattle.station.specs.declared.call.Call.TheVariants.{Restart as CallRestart, Step as CallStep, Run as CallRun}
use Rattle.station.specs.declared.call.Pace.{Pace}
use Rattle.station.specs.declared.call.Pace.TheVariants.{On, Halted as PaceHalted, Dead as PaceDead}
use Rattle.station.specs.Stations.{Kept, station, tells, jobs, unless, runs, pace, paced, onward, room, plays, asked_restart, asked_step, asked_run}
use Rattle.station.specs.Agreement.{Agreement, View, Recording, new_rig, new_replay, replays, tape_of, records_of, closed_bytes}
use Rattle.station.proofs.Replaying.{follows, recorded_lawful}
use Rattle.station.proofs.Twins.{causally}

-- 1. A rig never records more than there is place for.
used_few : (j : Job) (s : Standing) → (does j s).1.used ≤ s.used + 11
unfolding does
used_few j s = (at_courses j s.processor).within s.memory s.used s.rest

module _ (ps : ℕ) where
  tells_within : (r : Result Answer Gone) (s : Standing) → s.used ≤ ps → (tells r s).1.used ≤ ps
  tells_within (Ok a) s h = h
  tells_within (Err g) s h = h

  jobs_within : (j : Job) (s : Standing) → s.used ≤ ps → (jobs (room ps) j s).1.used ≤ ps
  jobs_within j s h = go (room ps s.used) refl
    where
      go : (b : Bool) → room ps s.used ≡ b → (cond {A = Result Answer Refusal × Standing} b (tells (does j s).0 (does j s).1) (Err NoPlace, s)).1.used ≤ ps
      go true e =
          let k : s.used + 11 ≤ ps = leb-true (s.used + 11) ps e in
          tells_within (does j s).0 (does j s).1 (omega (arith, used_few j s))
      go false e = h

  paced_within : (F : Standing → Run × Standing) (k : ℕ) → ((s : Standing) → s.used ≤ ps → (F s).1.used ≤ ps)
      → (x : Pace) (s : Standing) → s.used ≤ ps → (paced F k x s).1.used ≤ ps
  paced_within F k f On s h = f s h
  paced_within F k f PaceHalted s h = h
  paced_within F k f PaceDead s h = h

  onward_within : (F : Standing → Run × Standing) (k : ℕ) → ((s : Standing) → s.used ≤ ps → (F s).1.used ≤ ps)
      → (r : Result Answer Gone) (s : Standing) → s.used ≤ ps → (onward F k r s).1.used ≤ ps
  onward_within F k f (Ok a) s h = paced_within F k f (pace a) s h
  onward_within F k f (Err g) s h = h

  runs_within : (n k : ℕ) (s : Standing) → s.used ≤ ps → (runs (room ps) n k s).1.used ≤ ps
  runs_within zero k s h = h
  runs_within (suc n) k s h = go (room ps s.used) refl (λ t h. runs_within n (k + 1) t h)
    where
      Y : Run × Standing
      Y = onward (λ t. runs (room ps) n (k + 1) t) k (does Step s).0 (does Step s).1

      N : Run × Standing
      N = (record { steps = k; end = EndNoPlace }, s)

      go : (b : Bool) → room ps s.used ≡ b → ((t : Standing) → t.used ≤ ps → (runs (room ps) n (k + 1) t).1.used ≤ ps) → (cond b Y N).1.used ≤ ps
      go true e f =
          let k2 : s.used + 11 ≤ ps = leb-true (s.used + 11) ps e in
          onward_within (λ t. runs (room ps) n (k + 1) t) k f (does Step s).0 (does Step s).1 (omega (arith, used_few Step s))
      go false e f = h

  unless_within : {X : Type 0} (o : Option Refusal) (z : Result X Refusal × Standing) (s : Standing) → s.used ≤ ps → z.1.used ≤ ps → (unless o z s).1.used ≤ ps
  unless_within None z s h k = k
  unless_within (Some e) z s h k = h

  plays_within : (c : Call) (s : Standing) → s.used ≤ ps → (plays (room ps) c s).1.used ≤ ps
  plays_within (CallRestart pc psw) s h = unless_within (asked_restart s.processor.life) (jobs (room ps) (Restart pc psw) s) s h (jobs_within (Restart pc psw) s h)
  plays_within CallStep s h = unless_within (asked_step s.processor.life) (jobs (room ps) Step s) s h (jobs_within Step s h)
  plays_within (CallRun n) s h = unless_within {X = Run} (asked_run n s.processor.life) (Ok (runs (room ps) n 0 s).0, (runs (room ps) n 0 s).1) s h (runs_within n 0 s h)

  pub recorded_within : (s : Kept) (cs : List Call) (vs : List View) (s2 : Kept) → length s.records ≤ ps → Recording ps s cs vs s2 → length s2.records ≤ ps
  recorded_within s [] [] s2 h e = let P : Kept → Type 0 = λ x. length x.records ≤ ps in subst P e h
  recorded_within s [] (v ∷ vs) s2 h e = absurd e
  recorded_within s (c ∷ cs) [] s2 h e = absurd e
  recorded_within s (c ∷ cs) (v ∷ vs) s2 h e =
      let t = e.0.1.0.as_played in
      let q : (plays (room ps) c (station s e.0.0)).1.used ≡ length v.shown.records = ap (λ z. z.1.used) t in
      let w = plays_within c (station s e.0.0) h in
      recorded_within v.shown cs vs s2 (omega (arith, q, w)) e.1

-- 2. A lawful exchange is a record that can be written, and is read back.
record KeptWhole (e : Exchange) : Type 0 where
  can : writable (record_of e) ≡ true
  back : exchange_of (record_of e) ≡ e

kept_whole : (q : Request) (r : Option ℕ) → lawful_exchange (exchange q r) ≡ true → KeptWhole (exchange q r)
kept_whole (Read a) (Some w) h = record { can = grind (arith, ways); back = refl }
kept_whole (Read a) None h = record { can = grind (arith, ways); back = refl }
kept_whole (Write a w) (Some v) h = record { can = grind (arith, ways); back = (written (Write a w) (Some v) (grind (arith, ways))).same }
kept_whole (Write a w) None h = record { can = grind (arith, ways); back = refl }
kept_whole (WriteByte a b) (Some v) h = record { can = grind (arith, ways); back = (written (WriteByte a b) (Some v) (grind (arith, ways))).same }
kept_whole (WriteByte a b) None h = record { can = grind (arith, ways); back = refl }
kept_whole Lines (Some w) h = record { can = grind (arith, ways); back = refl }
kept_whole Lines None h = absurd (false≢true h)
kept_whole Vector (Some w) h = record { can = grind (arith, ways); back = refl }
kept_whole Vector None h = record { can = refl; back = refl }
kept_whole Init (Some w) h = record { can = refl; back = (written Init (Some w) h).same }
kept_whole Init None h = absurd (false≢true h)

all_writable_lem : (es : List Exchange) → all_lawful es ≡ true → all_writable (map record_of es) ≡ true
all_writable_lem [] h = refl
all_writable_lem (e ∷ es) h =
    let p = and_parts (lawful_exchange e) (all_lawful es) h in
    let k = kept_whole e.request e.reply p.0 in
    rw k.can (all_writable_lem es p.1)

read_back : (x : List ℕ) (es : List Exchange) → all_lawful es ≡ true → tape_of (map (entry x) (map record_of es)) ≡ es
read_back x [] h = refl
read_back x (e ∷ es) h =
    let p = and_parts (lawful_exchange e) (all_lawful es) h in
    let k = kept_whole e.request e.reply p.0 in
    let i = read_back x es p.1 in
    λ j. k.back j ∷ i j

-- 3. Captures with equal records.
tape_is : (es : List Entry) → tape_of es ≡ map exchange_of (map plain_of es)
tape_is [] = refl
tape_is (e ∷ es) = ap (λ t. exchange_of (plain_of e) ∷ t) (tape_is es)

same_front : (m : ℕ) (s t : List Plain) → m ≤ length s → m ≤ length t → ((i : ℕ) (d : Plain) → i < m → get_or s i d ≡ get_or t i d) → take m s ≡ take m t
same_front m s t a b h =
    same_lists (take m s) (take m t) (length-take-le m s a ∙ sym (length-take-le m t b))
    (λ i d l. let k : i < m = omega (arith, l, length-take-le m s a) in get_or-take m s i d k ∙ (h i d k ∙ sym (get_or-take m t i d k)))

pub agreement : Agreement
agreement = record {
  faithful = λ h number blocks allowed some most m cs vs closed r.
      let x = added_by h number in
      let ok = recorded_lawful (places h blocks) (new_rig m) cs vs closed refl r in
      let few = recorded_within (places h blocks) (new_rig m) cs vs closed (omega arith) r in
      let size = added_size h number allowed in
      let per : per_block x * blocks ≡ places h blocks = ap (λ n. 506 / n * blocks) (sym size) in
      let short : length x ≤ 28 = short_added h number in
      let reads = layout_reads_back x blocks (map record_of closed.records) short some most (omega (arith, few, per, length-map closed.records record_of)) (all_writable_lem closed.records ok) in
      let tape : tape_of (entries (read_capture (closed_bytes h number blocks closed))) ≡ closed.records = ap (λ a. tape_of (entries a)) reads ∙ read_back x closed.records ok in
      let f = follows (places h blocks) closed.records (new_rig m) closed.records cs vs closed refl refl r in
      (reads, (f.0, ap (λ t. replays t (new_replay m t) cs) tape ∙ f.1));
  settled_by_records = λ one other l h m cs.
      let e : tape_of (entries (read_capture one)) ≡ tape_of (entries (read_capture other)) =
      tape_is (entries (read_capture one)) ∙ (ap (map exchange_of) (same_lists (records_of one) (records_of other) l h) ∙ sym (tape_is (entries (read_capture other)))) in
      ap (λ t. replays t (new_replay m t) cs) e;
  causal = λ k one other l l2 h m cs q q2.
      let es = entries (read_capture one) in
      let fs = entries (read_capture other) in
      let front : take k (tape_of es) ≡ take k (tape_of fs) =
      ap (take k) (tape_is es) ∙ (take-map exchange_of k (map plain_of es)
      ∙ (ap (map exchange_of) (same_front k (map plain_of es) (map plain_of fs) l l2 h)
      ∙ (sym (take-map exchange_of k (map plain_of fs)) ∙ ap (take k) (sym (tape_is fs))))) in
      let long : k ≤ length (tape_of es) = omega (arith, l, length-map es (λ e. exchange_of (plain_of e)), length-map es plain_of) in
      causally k (tape_of es) (tape_of fs) long front m cs q q2;
}
  where
    short_added : (h number : ℕ) → length (added_by h number) ≤ 28
    short_added h number = go (eqb h 6)
      where
        go : (b : Bool) → length (cond b (word_bytes number) []) ≤ 28
        go true = lit≤ tt
        go false = lit≤ tt
