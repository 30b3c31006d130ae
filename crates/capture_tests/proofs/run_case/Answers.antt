use Rattle.std.proofs.Common.{length, ap, inl, arith}
use Rattle.capture.proofs.Feeding.{short}
use Rattle.capture_tests.proofs.run_case.Goals as goal

pub count-records-requires-clause-fits : goal.count-records-requires-clause-fits
count-records-requires-clause-fits c = inl (omega (arith, short c.as_slice-bytes.result.now, ap length c.check-in-Ok.ensures.left))
