use Rattle.std.proofs.Common.{◌≡◌, ◌+◌, ◌-◌, ◌≤◌, length, drop, get_or, is_err, sym, ap, ◌∙◌, arith, rules, length-drop}
use Rattle.std.proofs.lemmas.Bool.{cond-false}
use Rattle.std.proofs.lemmas.List.{take_rest}
use Rattle.inspection.specs.Places.{record_from}
use Rattle.inspection.proofs.Finding.{record_first}
use Rattle.capture.specs.Checking.{one_read, verdict}
use Rattle.inspection.proofs.place.refused_record.Goals as goal

pub loop-rest-preserved : goal.loop-rest-preserved
loop-rest-preserved c =
    let xs = c.loop-rest.rest.now in
    let all = c.args.bytes.now in
    let n = get_or xs 0 0 + 4 in
    let m : n ≤ length xs = search rules in
    let l = length-drop n xs in
    let p : (4 + (length all - length xs)) + n ≡ 4 + (length all - length (drop n xs)) = omega (arith, c.loop-rest.invariant.within) in
    let t = ap is_err (sym c.check_record.ensures) ∙ c.if-is_ok.ensures.negation in
    rw (take_rest xs n)
    (record {
      found = ap (λ j. record_from j 0 (drop n xs)) (sym p) ∙ (sym (cond-false (is_err (verdict (one_read xs))) (4 + (length all - length xs)) _ t) ∙ (sym (record_first (4 + (length all - length xs)) xs (omega arith)) ∙ c.loop-rest.invariant.found));
      within = omega (arith, c.loop-rest.invariant.within);
    })
