use Rattle.capture.proofs.Feeding.{all_lawful, capture_adds_up}
use Rattle.capture.proofs.Rounds.{sheets_read_back, only_records_count, layout_reads_back}
use Rattle.capture.proofs.laws.captures_read_back.Goals as goal

pub returns : goal.returns
returns c = record { sheets = sheets_read_back; records = only_records_count; layout = layout_reads_back; lawful = all_lawful; sums = capture_adds_up }
