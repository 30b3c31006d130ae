use Rattle.std.proofs.Common.{string_bytes}
use Rattle.inspection.proofs.Writing.{digits_more}
use Rattle.inspection.proofs.line.push_bytes.Goals as goal

pub loop-byte-preserved : goal.loop-byte-preserved
loop-byte-preserved c =
    let xs = c.args.bytes.now in
    let i = c.loop-byte.byte-index in
    digits_more (string_bytes c.args.line.now) xs (string_bytes c.loop-byte.line) (string_bytes c.push_ascii.new.line) _ i c.loop-byte-test.true c.loop-byte.invariant
    c.in_ok-push_ascii.ensures c.hex.ensures
