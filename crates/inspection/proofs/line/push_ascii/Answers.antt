use Rattle.std.proofs.Common.{string_bytes}
use Rattle.inspection.proofs.Writing.{byte_more}
use Rattle.inspection.proofs.line.push_ascii.Goals as goal

pub loop-byte-preserved : goal.loop-byte-preserved
loop-byte-preserved c =
    let xs = c.args.bytes.now in
    let i = c.loop-byte.byte-index in
    byte_more (string_bytes c.args.line.now) xs (string_bytes c.loop-byte.line) (string_bytes c.push.new.self) _ i c.loop-byte-test.true c.loop-byte.invariant
    c.in_ok-push.ensures.bytes (c.in_ok-push.ensures.ascii (c.requires i c.loop-byte-test.true))
