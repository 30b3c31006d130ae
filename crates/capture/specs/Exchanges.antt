-- Exchanges and records: a lawful exchange is one lawful record, and a lawful record one lawful exchange.
use Rattle.std.specs.Prelude.{◌≡◌, ℕ, Bool, true, false, cond, List, [], ◌∷◌, Ok, Err, Result, ◌==◌, nat_le, nat_lt, Option, Some, None}
use Rattle.bus.specs.declared.exchange.Request.{Request}
use Rattle.bus.specs.declared.exchange.Request.TheVariants.{Read, Write, WriteByte, Lines, Vector, Init}
use Rattle.bus.specs.declared.exchange.Gone.{Gone}
use Rattle.bus.specs.declared.exchange.Exchange.{Exchange}
use Rattle.capture.specs.Words.{both}
use Rattle.capture.specs.Records.{Plain, plain}
use Rattle.capture.specs.Lawful.{is_on_page, even, lawful}

-- an exchange from request and reply
abbrev pub exchange : Request → Option ℕ → Exchange
exchange q r = record { request = q; reply = r }

-- kinds, in the order of the six requests
abbrev pub kind_of : Request → ℕ
kind_of (Read a) = 1
kind_of (Write a w) = 2
kind_of (WriteByte a b) = 3
kind_of Lines = 4
kind_of Vector = 5
kind_of Init = 6

-- the address asked for, 0 where there is none
abbrev pub address_of : Request → ℕ
address_of (Read a) = a
address_of (Write a w) = a
address_of (WriteByte a b) = a
address_of Lines = 0
address_of Vector = 0
address_of Init = 0

-- the word or byte sent, 0 where there is none
abbrev pub sent_by : Request → ℕ
sent_by (Read a) = 0
sent_by (Write a w) = w
sent_by (WriteByte a b) = b
sent_by Lines = 0
sent_by Vector = 0
sent_by Init = 0

-- 1 answered, 0 timed out
abbrev pub mark_of : Option ℕ → ℕ
mark_of (Some w) = 1
mark_of None = 0

-- the word answered, else 0
abbrev pub answered_word : Option ℕ → ℕ
answered_word (Some w) = w
answered_word None = 0

-- the word sent or answered, else 0
abbrev pub word_of : Request → Option ℕ → ℕ
word_of (Read a) r = answered_word r
word_of (Write a w) r = w
word_of (WriteByte a b) r = b
word_of Lines r = answered_word r
word_of Vector r = answered_word r
word_of Init r = 0

-- the record of an exchange
abbrev pub record_of : Exchange → Plain
record_of e = plain (kind_of e.request) (mark_of e.reply) (address_of e.request) (word_of e.request e.reply)

-- a mark and a word as a reply
abbrev pub reply_with : ℕ → ℕ → Option ℕ
reply_with m w = cond (m == 1) (Some w) None

-- the exchange of a record: a write and INIT are answered with 0
abbrev pub exchange_with : ℕ → ℕ → ℕ → ℕ → Exchange
exchange_with k m a w =
    cond (k == 1) (exchange (Read a) (reply_with m w))
    (cond (k == 2) (exchange (Write a w) (reply_with m 0))
    (cond (k == 3) (exchange (WriteByte a w) (reply_with m 0))
    (cond (k == 4) (exchange Lines (reply_with m w))
    (cond (k == 5) (exchange Vector (reply_with m w))
    (exchange Init (reply_with m 0))))))

-- the same of a record
abbrev pub exchange_of : Plain → Exchange
exchange_of p = exchange_with p.kind p.mark p.address p.word

-- answered with 0, or timed out
abbrev pub no_word : Option ℕ → Bool
no_word r = answered_word r == 0

-- answered with at most the four lines
abbrev pub four_lines : Option ℕ → Bool
four_lines (Some w) = nat_le w 0o17
four_lines None = false

-- answered with 0
abbrev pub plainly_answered : Option ℕ → Bool
plainly_answered (Some w) = w == 0
plainly_answered None = false

-- which exchanges there can be: words at even addresses of the page, bytes anywhere on it; writes and INIT are answered with no
-- word; lines and INIT never time out
abbrev pub reply_is_lawful : Request → Option ℕ → Bool
reply_is_lawful (Read a) r = both (is_on_page a) (even a)
reply_is_lawful (Write a w) r = both (both (is_on_page a) (even a)) (no_word r)
reply_is_lawful (WriteByte a b) r = both (both (is_on_page a) (nat_lt b 256)) (no_word r)
reply_is_lawful Lines r = four_lines r
reply_is_lawful Vector r = true
reply_is_lawful Init r = plainly_answered r

-- a lawful reply to its request
abbrev pub exchange_is_lawful : Exchange → Bool
exchange_is_lawful e = reply_is_lawful e.request e.reply

-- one request is another: kind, address and, for writes, word or byte
abbrev pub same_request : Request → Request → Bool
same_request q r = both (kind_of q == kind_of r) (both (address_of q == address_of r) (sent_by q == sent_by r))

-- what a request gets that finds the side gone
abbrev pub gone : Gone
gone = record {}

-- the next exchange answers if its request is the one asked
abbrev pub answers : Request → List Exchange → Result (Option ℕ) Gone
answers q [] = Err gone
answers q (e ∷ es) = cond (same_request e.request q) (Ok e.reply) (Err gone)

-- and is used up by that
abbrev pub leaves : Request → List Exchange → List Exchange
leaves q [] = []
leaves q (e ∷ es) = cond (same_request e.request q) es (e ∷ es)

-- a lawful reply to the request, or none
abbrev pub answer_is_lawful : Request → Result (Option ℕ) Gone → Bool
answer_is_lawful q (Ok r) = reply_is_lawful q r
answer_is_lawful q (Err g) = true

-- what is kept when an exchange is written as a record
pub record KeptByRecord (e : Exchange) : Type 0 where
  pub lawful : lawful (record_of e) ≡ true
  pub same : exchange_of (record_of e) ≡ e

-- what is kept when a record is read as an exchange
pub record KeptByExchange (p : Plain) : Type 0 where
  pub lawful : exchange_is_lawful (exchange_of p) ≡ true
  pub same : record_of (exchange_of p) ≡ p

-- lawful exchanges and lawful records stand one for one
pub record ExchangesAreRecords : Type 0 where
  pub written : (e : Exchange) → exchange_is_lawful e ≡ true → KeptByRecord e
  pub read : (p : Plain) → lawful p ≡ true → KeptByExchange p
