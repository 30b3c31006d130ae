use Rattle.std.proofs.Common.{arith}
use Rattle.recorder.proofs.Packing.{closed_read, closed_sums}
use Rattle.recorder.proofs.recorder.Recorder.close.Goals as goal

pub returns : goal.returns
returns c =
    let s = c.args.self in
    let r = closed_read s.header s.number s.blocks s.sheets.buffer.now s.allowed s.most s.whole (omega (arith, s.many, s.place)) s.sound s.stands in
    record { bytes = s.stands; check = r; sums = closed_sums s.header s.number s.blocks s.sheets.buffer.now _ s.whole r }
