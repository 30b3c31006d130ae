-- What users of boards can rely on.
use Rattle.std.specs.Prelude.{◌≡◌, ℕ, ◌+◌, ◌*◌, ◌/◌, ◌<◌, ◌≤◌, List, length, drop, Some, None, ◌≢◌, slice_index}
use Rattle.bus.specs.Memory.{silent, fixed, opened, Memory, read, write, write_byte, with_half}
use Rattle.bus.specs.Boards.{word_at, flat, cabinet_board, with_word, with_byte}
use Rattle.bus.specs.Feeds.{AtMost}
use Rattle.bus.specs.Accesses.{loads, stores, stores_byte}

-- Every board
pub record Writes : Type 0 where
  -- what was written is read
  pub word_read_back : (m : Memory) (at w : ℕ) → (write m at w).0 ≡ Some tt → read (write m at w).1 at ≡ Some w
  pub byte_read_back : (m : Memory) (at b old : ℕ) → (write_byte m at b).0 ≡ Some tt → read m at ≡ Some old → read (write_byte m at b).1 at ≡ Some (with_half at b old)
  -- other words stay
  pub others_stay : (m : Memory) (at w n : ℕ) → (n ≢ at / 2) → (write m at w).1 n ≡ m n
  pub others_stay_bytes : (m : Memory) (at b n : ℕ) → (n ≢ at / 2) → (write_byte m at b).1 n ≡ m n
  -- a write that times out changes nothing
  pub time_out_stays : (m : Memory) (at w : ℕ) → (write m at w).0 ≡ None → (write m at w).1 ≡ m
  pub time_out_stays_bytes : (m : Memory) (at b : ℕ) → (write_byte m at b).0 ≡ None → (write_byte m at b).1 ≡ m

-- The flat board
pub record Flat : Type 0 where
  -- of 65,536 bytes every word below the cabinet page is open, and the page is silent
  pub all_open : (bytes : List ℕ) → length bytes ≡ 65536 → (n : ℕ) → n < 32704 → flat bytes n ≡ opened (word_at bytes n)
  pub page_silent : (bytes : List ℕ) (n : ℕ) → 32704 ≤ n → flat bytes n ≡ silent
  -- boards over equal bytes begin alike, whatever the last 128 are
  pub begin_alike : (bytes others : List ℕ) → length bytes ≡ length others → ((i : ℕ) → i < 65408 → slice_index bytes i ≡ slice_index others i) → flat bytes ≡ flat others
  -- no write below the page touches the last 128 bytes
  pub last_bytes_stay : (bytes : List ℕ) (at w : ℕ) → at < 65408 → drop 65408 (with_word bytes (at / 2) w) ≡ drop 65408 bytes
  pub last_bytes_stay_bytes : (bytes : List ℕ) (at b : ℕ) → at < 65408 → drop 65408 (with_byte bytes at b) ≡ drop 65408 bytes

-- The cabinet board
pub record RamAndRom : Type 0 where
  -- RAM is open, and silent from its end to 077777
  pub ram_open : (ram rom : List ℕ) (n : ℕ) → n < 16384 → 2 * n + 1 < length ram → cabinet_board ram rom n ≡ opened (word_at ram n)
  pub ram_ends : (ram rom : List ℕ) (n : ℕ) → n < 16384 → length ram ≤ 2 * n + 1 → cabinet_board ram rom n ≡ silent
  -- ROM is fixed from 100000, and silent from its end on
  pub rom_fixed : (ram rom : List ℕ) (n : ℕ) → 16384 + n < 32704 → 2 * n + 1 < length rom → cabinet_board ram rom (16384 + n) ≡ fixed (word_at rom n)
  pub rom_ends : (ram rom : List ℕ) (n : ℕ) → length rom ≤ 2 * n + 1 → cabinet_board ram rom (16384 + n) ≡ silent
  pub page_silent : (ram rom : List ℕ) (n : ℕ) → 32704 ≤ n → cabinet_board ram rom n ≡ silent

-- An access makes at most one exchange with the cabinet side.
pub record OneExchange : Type 0 where
  pub of_load : (at : ℕ) → AtMost 1 (loads at)
  pub of_store : (at w : ℕ) → AtMost 1 (stores at w)
  pub of_store_byte : (at b : ℕ) → AtMost 1 (stores_byte at b)
