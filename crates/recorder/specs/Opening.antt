-- What is asked before a recorder is opened.
use Rattle.std.specs.Prelude.{ℕ, cond, Ok, Err, Result}
use Rattle.recorder.specs.declared.opening.Refusal.{Refusal}
use Rattle.recorder.specs.declared.opening.Refusal.TheVariants.{Blocks, Header}
use Rattle.capture.specs.Checking.{whole_blocks}
use Rattle.recorder.specs.Recording.{header_allowed}

-- 1 to 4,096 whole blocks; then header length 4 or 6
abbrev pub opening : ℕ → ℕ → Result Unit Refusal
opening len h = cond (whole_blocks len) (cond (header_allowed h) (Ok tt) (Err Header)) (Err Blocks)

-- the number of each refusal
abbrev pub opening_number : Refusal → ℕ
opening_number Blocks = 3
opening_number Header = 4
