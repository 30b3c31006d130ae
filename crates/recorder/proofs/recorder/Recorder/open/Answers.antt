use Rattle.std.proofs.Common.{◌≡◌, ◌/◌, ◌≤◌, true, length, ap, rules}
use Rattle.capture.specs.Lawful.{all_writable}
use Rattle.recorder.specs.Recording.{header_allowed}
use Rattle.recorder.proofs.Packing.{new}
use Rattle.recorder.proofs.recorder.Recorder.open.Goals as goal

pub invariant_of-result-2 : goal.invariant_of-result-2
invariant_of-result-2 c =
    let l : header_allowed c.args.header ≡ true = search rules in
    let k : length c.args.buffer.now / 512 ≤ 4096 = search rules in
    let m = new c.args.header c.args.number (length c.args.buffer.now / 512) c.fill_empty.new.buffer l k c.fill_empty.ensures in
    record {
      allowed = l;
      most = k;
      whole = search rules;
      place = search rules;
      many = ap length m.made;
      sound = ap all_writable m.made;
      stands = m.stands;
    }
