-- Worked blocks.
use Rattle.std.specs.Prelude.{◌≡◌, [], ◌∷◌, ◌++◌, drop, Ok, Err}
use Rattle.capture.specs.declared.refusal.Refusal.TheVariants.{Fields}
use Rattle.capture.specs.Records.{plain, entry}
use Rattle.capture.specs.Blocks.{block_bytes}
use Rattle.capture.specs.Layout.{stamped}
use Rattle.capture.specs.Checking.{read_capture}

-- the last two bytes of a block with one record of lines, of an empty block 3, and of INIT and lines; what is read in the
-- last; and lines of five bits, which are refused
pub record WorkedBlocks : Type 0 where
  pub lines : drop 510 (block_bytes 0 (stamped [] (plain 4 1 0 0))) ≡ 0xF3 ∷ 0xFB ∷ []
  pub empty : drop 510 (block_bytes 3 []) ≡ 0xFD ∷ 0xFF ∷ []
  pub two : drop 510 (block_bytes 0 (stamped [] (plain 6 1 0 0) ++ stamped [] (plain 4 1 0 0))) ≡ 0xE6 ∷ 0xF5 ∷ []
  pub read : read_capture (block_bytes 0 (stamped [] (plain 6 1 0 0) ++ stamped [] (plain 4 1 0 0))) ≡ Ok (entry [] (plain 6 1 0 0) ∷ entry [] (plain 4 1 0 0) ∷ [])
  pub fifth : read_capture (block_bytes 0 (stamped [] (plain 4 1 0 0o20))) ≡ Err Fields
