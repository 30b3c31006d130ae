use Rattle.std.proofs.Common.{◌*◌, ◌/◌, ◌%◌, length, refl, ◌∙◌, arith}
use Rattle.recorder.proofs.Packing.{place_fits, note_is}
use Rattle.recorder.proofs.recorder.Sheets.note.Goals as goal

pub returns : goal.returns
returns c =
    let s = c.args.self.now in
    let m = s.count / c.args.n in
    let k = length c.args.rec.now * (s.count % c.args.n) in
    record {
      bytes = note_is (512 * m) m k s.buffer.now c.args.rec.now _ (omega (arith, place_fits (length c.args.rec.now) c.args.n s.count c.requires.many c.requires.fit)) (c.copy_from_slice.ensures.after ∙ c.write_block.ensures);
      count = refl;
    }
