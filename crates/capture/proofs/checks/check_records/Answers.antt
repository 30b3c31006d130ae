use Rattle.std.proofs.Common.{◌+◌, [], get_or, drop, Ok, Result, sym, ap, ◌∙◌, arith}
use Rattle.std.proofs.lemmas.List.{take_rest}
use Rattle.std.proofs.lemmas.Result.{err_from_is_err_and}
use Rattle.capture.specs.declared.refusal.Refusal.{Refusal}
use Rattle.capture.specs.Checking.{read_then, verdict}
use Rattle.capture.proofs.Walks.{verdict_first, seq}
use Rattle.capture.proofs.checks.check_records.Goals as goal

pub returns-in_err-check_record : goal.returns-in_err-check_record
returns-in_err-check_record c =
    let xs = c.loop-rest.rest.now in
    let after : Result Unit Refusal = verdict (read_then 0 (drop (get_or xs 0 0 + 4) xs) (Ok [])) in
    let p = err_from_is_err_and c.from_residual.result c.from_residual.ensures.1 in
    rw (p.1, p.2)
    (ap (λ (r : Result Unit Refusal). seq r after) c.in_err-check_record.ensures ∙ (sym (verdict_first xs (Ok []) (omega arith)) ∙ c.loop-rest.invariant))

pub loop-rest-preserved : goal.loop-rest-preserved
loop-rest-preserved c =
    let xs = c.loop-rest.rest.now in
    let n = get_or xs 0 0 + 4 in
    let after : Result Unit Refusal = verdict (read_then 0 (drop n xs) (Ok [])) in
    rw (take_rest xs n) (ap (λ (r : Result Unit Refusal). seq r after) c.in_ok-check_record.ensures ∙ (sym (verdict_first xs (Ok []) (omega arith)) ∙ c.loop-rest.invariant))
