-- What noting an exchange does.
use Rattle.std.specs.Prelude.{ℕ, zero, suc, ◌+◌, ◌*◌, ◌/◌, ◌%◌, cond, List, [], ◌++◌, take, drop, Ok, Err, Result, nat_lt}
use Rattle.bus.specs.declared.exchange.Exchange.{Exchange}
use Rattle.recorder.specs.declared.noting.NotNoted.{NotNoted}
use Rattle.recorder.specs.declared.noting.NotNoted.TheVariants.{Unlawful, Full}
use Rattle.capture.specs.Exchanges.{exchange_is_lawful}
use Rattle.capture.specs.Blocks.{block_bytes}

-- with so many records made of so many that have place
abbrev pub noting_answer : Exchange → ℕ → ℕ → Result Unit NotNoted
noting_answer e made places = cond (exchange_is_lawful e) (cond (nat_lt made places) (Ok tt) (Err Full)) (Err Unlawful)

-- a buffer with one block replaced
abbrev pub edited : (List ℕ → List ℕ) → ℕ → List ℕ → List ℕ
edited f at buffer = take at buffer ++ (f (take 512 (drop at buffer)) ++ drop (at + 512) buffer)

-- record number c, of n in a block, put in its place: block c / n, behind c % n others
abbrev pub noted : ℕ → ℕ → ℕ → List ℕ → List ℕ → List ℕ
noted size n c rec buffer = edited (λ block. block_bytes (c / n) (take (size * (c % n)) (drop 4 block) ++ rec)) (512 * (c / n)) buffer

-- k empty blocks from number b on
abbrev pub empty_blocks : ℕ → ℕ → List ℕ
empty_blocks b zero = []
empty_blocks b (suc k) = block_bytes b [] ++ empty_blocks (b + 1) k
