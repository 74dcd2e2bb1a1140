-- Defines which reply of the server a line is, and how a client reads it from left to right.
-- Used by: src/conversation.rt, src/replies.rt, mw_client_c. It must match `specs/Replies` of mw_line.
use Rattle.std.specs.Prelude.{◌≡◌, ℕ, ◌<◌, ◌≤◌, ◌==◌, ◌&&◌, List, length, codes, nat_le, nat_lt, bytes_eq, if◌then◌else◌, Option, Some, None}
use Rattle.mw_words.specs.declared.limits.TheConstants.{MAX_VALUE, MAX_WORDS}
use Rattle.mw_words.specs.declared.replies.Reply.TheVariants as reply
use Rattle.mw_line.specs.declared.replies.ErrCode.{ErrCode}
use Rattle.mw_line.specs.declared.replies.ErrCode.TheVariants as fault
use Rattle.mw_line.specs.declared.replies.Say.{Say}
use Rattle.mw_line.specs.declared.replies.Say.TheVariants as say
use Rattle.mw_line.specs.Replies.{words_of}
use Rattle.mw_line.specs.LineReader.{◌>>=◌, narrow, behind, number_at}

-- A reply keeps the limits of the protocol: a tenant has 1 to MAX_WORDS words, an address is one that a tenant can
-- have, and a value is one of a word.
abbrev pub IsReply : Say → Type 0
IsReply (say.Ok words) = (1 ≤ words) × (words ≤ MAX_WORDS)
IsReply (say.Store (reply.Val value)) = value ≤ MAX_VALUE
IsReply (say.Store (reply.No addr value)) = (addr < MAX_WORDS) × (value ≤ MAX_VALUE)
IsReply (say.Store reply.Yes) = Unit {0}
IsReply (say.Store reply.Busy) = Unit {0}
IsReply (say.Store reply.Fault) = Unit {0}
IsReply (say.Store reply.Worn) = Unit {0}
IsReply say.OkAdmin = Unit {0}
IsReply say.Bye = Unit {0}
IsReply (say.Err wrong) = Unit {0}

-- the line, without its line feed, is the text of this reply
abbrev pub Says : Say → List ℕ → Type 0
Says s line = IsReply s × (line ≡ words_of s)

-- ---- Reading a line from left to right. The reader's steps cite this part; for everyone else `Says` alone counts.

-- the number that is the whole of the bytes
unfoldable pub number_of : List ℕ → Option ℕ
number_of bytes = do
  number ← number_at narrow.value bytes
  if length number.1 == 0 then Some number.0 else None

-- for whom a session speaks: a tenant with so many words, or, if there is no number, the administrator
abbrev pub bound_to : Option ℕ → List ℕ → Option Say
bound_to (Some words) bytes = if nat_le 1 words && nat_le words MAX_WORDS then Some (say.Ok words) else None
bound_to None bytes = if bytes_eq bytes (codes "ADMIN") then Some say.OkAdmin else None

unfoldable pub bound_read : List ℕ → Option Say
bound_read bytes = bound_to (number_of bytes) bytes

-- the value of a word
unfoldable pub value_read : List ℕ → Option Say
value_read bytes = do
  value ← number_of bytes
  if nat_le value MAX_VALUE then Some (say.Store (reply.Val value)) else None

-- an address and the value there
unfoldable pub miss_read : List ℕ → Option Say
miss_read bytes = do
  addr ← number_at narrow.addr bytes
  rest ← behind (codes " ") addr.1
  value ← number_of rest
  if nat_lt addr.0 MAX_WORDS && nat_le value MAX_VALUE then Some (say.Store (reply.No addr.0 value)) else None

-- the error with this number
unfoldable pub fault_numbered : ℕ → Option ErrCode
fault_numbered n =
    if n == 1 then Some fault.LineTooLong
    else (if n == 2 then Some fault.NotACommand
    else (if n == 3 then Some fault.NotBound
    else (if n == 4 then Some fault.AlreadyBound
    else (if n == 5 then Some fault.NoSuchTenant
    else (if n == 6 then Some fault.AddressRange
    else (if n == 7 then Some fault.AddressOrder
    else (if n == 8 then Some fault.TooManyEntries
    else (if n == 9 then Some fault.ValueRange
    else (if n == 10 then Some fault.WrongSession
    else None)))))))))

-- why a line is refused
unfoldable pub fault_read : List ℕ → Option Say
fault_read bytes = do
  number ← number_of bytes
  wrong ← fault_numbered number
  Some (say.Err wrong)

-- a reply that is one word
unfoldable pub plain_read : List ℕ → Option Say
plain_read line =
    if bytes_eq line (codes "YES") then Some (say.Store reply.Yes)
    else (if bytes_eq line (codes "BUSY") then Some (say.Store reply.Busy)
    else (if bytes_eq line (codes "FAULT") then Some (say.Store reply.Fault)
    else (if bytes_eq line (codes "WORN") then Some (say.Store reply.Worn)
    else (if bytes_eq line (codes "BYE") then Some say.Bye
    else None))))

-- what is read after a given text; if the line doesn't begin with that text, the other reading
abbrev pub read_behind : Option (List ℕ) → (List ℕ → Option Say) → Option Say → Option Say
read_behind (Some rest) read other = read rest
read_behind None read other = other

-- the first of the two that is a reply
abbrev pub or_else : Option Say → Option Say → Option Say
or_else (Some s) other = Some s
or_else None other = other

-- the reply that a line is, if it is one
unfoldable pub reading : List ℕ → Option Say
reading line =
    or_else (plain_read line)
    (read_behind (behind (codes "VAL ") line) value_read
    (read_behind (behind (codes "NO ") line) miss_read
    (read_behind (behind (codes "OK ") line) bound_read
    (read_behind (behind (codes "ERR ") line) fault_read
    None))))
