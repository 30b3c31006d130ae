use Rattle.bus.proofs.Flatness.{all_open, page_silent, begin_alike, last_bytes_stay, last_bytes_stay_bytes}
use Rattle.bus.proofs.laws.flat_boards_are_open.Goals as goal

pub returns : goal.returns
returns c = record { all_open = all_open; page_silent = page_silent; begin_alike = begin_alike; last_bytes_stay = last_bytes_stay; last_bytes_stay_bytes = last_bytes_stay_bytes }
