use Rattle.std.proofs.Common.{◌≡◌, ℕ, ◌+◌, ◌<◌, true, List, length, take, sym, refl, ap, ◌∙◌, arith, rules}
use Rattle.capture.specs.Records.{entry, written}
use Rattle.capture.specs.Lawful.{writable}
use Rattle.capture.specs.Exchanges.{record_of, exchange_is_lawful}
use Rattle.capture.specs.Layout.{stamped}
use Rattle.bus.specs.declared.exchange.Exchange.{Exchange}
use Rattle.capture.proofs.Matching.{written as record-kept}
use Rattle.capture.proofs.Rounds.{length-record, writable_since}
use Rattle.recorder.specs.declared.recorder.Recorder.{Recorder}
use Rattle.recorder.specs.Recording.{added_by}
use Rattle.recorder.specs.Noting.{noted}
use Rattle.recorder.proofs.Packing.{more, More, added_size}
use Rattle.recorder.proofs.recorder.Recorder.note.Goals as goal
use Rattle.recorder.proofs.recorder.Recorder.note.Goals.{After-note}

-- the bytes of a record, and how many they are
record Bytes (r : Recorder) (e : Exchange) (rec : List ℕ) : Type 0 where
  pub stamped : rec ≡ stamped (added_by r.header r.number) (record_of e)
  pub size : length rec ≡ r.header + 4

bytes_of_record : (r : Recorder) (e : Exchange) (size : ℕ) (bytes : List ℕ) → size ≡ r.header + 4 → take (r.header + 4) bytes ≡ stamped (added_by r.header r.number) (record_of e) → Bytes r e (take size bytes)
bytes_of_record r e size bytes h b =
    let s = ap (λ (n : ℕ). take n bytes) h ∙ b in
    record { stamped = s; size = ap length s ∙ (length-record (written 0 (entry (added_by r.header r.number) (record_of e))) ∙ sym (added_size r.header r.number r.allowed)) }

grown : (c : goal.After-note)
    → More c.args.self.now.header c.args.self.now.number c.args.self.now.blocks c.args.self.now.sheets.count c.args.self.now.sheets.buffer.now (record_of c.args.exchange) c.note.new.self.buffer.now
grown c =
    let s = c.args.self.now in
    let e = c.args.exchange in
    let w : (record_of e).word < 65536 = search rules in
    let l : exchange_is_lawful e ≡ true = sym c.lawful.ensures ∙ c.if-not-lawful.false in
    let p : writable (record_of e) ≡ true = writable_since (record_of e) (record-kept e.request e.reply l).lawful w in
    let rec : List ℕ = take c.record_size-size.result c.record_bytes-bytes.result in
    let b = bytes_of_record s e c.record_size-size.result c.record_bytes-bytes.result c.record_size-size.ensures c.record_bytes-bytes.ensures in
    more s.header s.number s.blocks s.sheets.count s.sheets.buffer.now (record_of e) rec c.note.new.self.buffer.now s.allowed s.most s.many s.sound s.stands p b.stamped (omega (arith, c.places.ensures))
    (c.note.ensures.bytes
    ∙ (ap (λ (n : ℕ). noted n c.per_block-n.result s.sheets.count rec s.sheets.buffer.now) b.size
    ∙ ap (λ (n : ℕ). noted (s.header + 4) n s.sheets.count rec s.sheets.buffer.now) c.per_block-n.ensures))

pub invariant_of-self : goal.invariant_of-self
invariant_of-self c =
    let s = c.args.self.now in
    let m = grown c in
    record {
      allowed = s.allowed;
      most = s.most;
      whole = m.whole;
      place = omega (arith, c.note.ensures.count, c.places.ensures);
      many = m.many ∙ sym c.note.ensures.count;
      sound = m.sound;
      stands = m.stands;
    }

pub returns : goal.returns
returns c =
    let m = grown (goal.at.returns c).After-note in
    record { answer = search rules; made = m.made; bytes = m.stands; header = refl; number = refl; blocks = refl }
