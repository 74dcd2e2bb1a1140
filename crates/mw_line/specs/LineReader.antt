-- Defines how a line is read from left to right, by a reader that may see a large number as a smaller one.
-- Used by: mw_config, mw_schedule, mw_client, changes.rt, numbers.rt, requests.rt. It may change with the readers that cite
-- it, as long as these keep their contracts (of read_line: Grammar, Limits).
use Rattle.std.specs.Prelude.{◌≡◌, ℕ, zero, suc, ◌+◌, ◌-◌, ◌*◌, ◌^◌, ◌==◌, min, List, [], ◌∷◌, length, if◌then◌else◌, codes, Option, Some, None, Result, Err, bytes_eq}
use Rattle.mw_words.specs.declared.jobs.Entry.{Entry}
use Rattle.mw_words.specs.Name.{is_name, is_digit}
use Rattle.mw_line.specs.declared.requests.LineFault.{LineFault}
use Rattle.mw_line.specs.declared.requests.LineFault.TheVariants.{NotACommand}
use Rattle.mw_line.specs.declared.requests.Request.{Request}
use Rattle.mw_line.specs.Grammar.{Command, Tenant, Admin, Get, Cas, Report, Quit}
use Rattle.mw_line.specs.Limits.{Answers}

-- what `f` gives of what was read; none if nothing was read
infixl 10 ◌>>=◌
abbrev pub ◌>>=◌ : {A B : Type 0} → Option A → (A → Option B) → Option B
(Some x) >>= f = f x
None >>= f = None

-- what a function returned, seen by `view`, is what reading gives
abbrev pub Gives : {X Y : Type 0} → (X → Y) → Option X → Option Y → Type 0
Gives view (Some x) read = read ≡ Some (view x)
Gives view None read = read ≡ None

-- how a reader sees addresses and values
pub record Sight : Type 0 where
  pub addr : ℕ → ℕ
  pub value : ℕ → ℕ

-- as they are
abbrev pub plain : Sight
plain = record { addr = λ n. n; value = λ n. n }

-- addresses in 16 bits, values in 64; a larger number is seen as the greatest
abbrev pub narrow : Sight
narrow = record { addr = λ n. min n (2 ^ 16 - 1); value = λ n. min n (2 ^ 64 - 1) }

-- the bytes after a text, if they begin with it
abbrev pub behind : List ℕ → List ℕ → Option (List ℕ)
behind [] bytes = Some bytes
behind (t ∷ text) [] = None
behind (t ∷ text) (b ∷ bytes) = if b == t then behind text bytes else None

-- the bytes before the first `end`, and those after it
abbrev pub field_at : ℕ → List ℕ → Option (List ℕ × List ℕ)
field_at end [] = None
field_at end (b ∷ bytes) = if b == end then Some ([], bytes) else (field_at end bytes >>= λ r. Some (b ∷ r.0, r.1))

-- the number that the digits at the front make when they follow the digits of n, and the bytes after them
abbrev pub digits_at : ℕ → List ℕ → ℕ × List ℕ
digits_at n [] = (n, [])
digits_at n (b ∷ bytes) = if is_digit b then digits_at (n * 10 + (b - 48)) bytes else (n, b ∷ bytes)

-- what was read, with the number as a reader sees it
abbrev pub seen : (ℕ → ℕ) → ℕ × List ℕ → ℕ × List ℕ
seen see read = (see read.0, read.1)

-- a number at the front, and the bytes after it; a 0 at the front is a number of its own
unfoldable pub number_at : (ℕ → ℕ) → List ℕ → Option (ℕ × List ℕ)
number_at see [] = None
number_at see (b ∷ bytes) =
    if b == 48 then Some (see 0, bytes)
    else (if is_digit b then Some (seen see (digits_at 0 (b ∷ bytes))) else None)

-- three numbers with colons between them, and the bytes after them
unfoldable pub entry_at : Sight → List ℕ → Option (Entry × List ℕ)
entry_at sight bytes = do
  addr ← number_at sight.addr bytes
  second ← behind (codes ":") addr.1
  expected ← number_at sight.value second
  third ← behind (codes ":") expected.1
  new ← number_at sight.value third
  Some (record { addr = addr.0; expected = expected.0; new = new.0 }, new.1)

-- entries to the end of the bytes, each with a space before it, if there are at most so many
unfoldable pub entries_of : Sight → ℕ → List ℕ → Option (List Entry)
entries_of sight zero bytes = if length bytes == 0 then Some [] else None
entries_of sight (suc k) bytes = if length bytes == 0 then Some [] else (do
  first ← behind (codes " ") bytes
  entry ← entry_at sight first
  others ← entries_of sight k entry.1
  Some (entry.0 ∷ others))

-- a number that is all of the bytes
unfoldable pub get_of : Sight → List ℕ → Option Command
get_of sight bytes = do
  addr ← number_at sight.addr bytes
  if length addr.1 == 0 then Some (Get addr.0) else None

-- one entry or more that are all of the bytes
unfoldable pub cas_of : Sight → List ℕ → Option Command
cas_of sight bytes = if length bytes == 0 then None else (do
  entries ← entries_of sight (length bytes) bytes
  Some (Cas entries))

-- a tenant's name that is all of the bytes
unfoldable pub tenant_of : List ℕ → Option Command
tenant_of bytes = if is_name bytes then Some (Tenant bytes) else None

-- a command of one word
unfoldable pub word_of : List ℕ → Option Command
word_of bytes =
    if bytes_eq bytes (codes "ADMIN") then Some Admin
    else (if bytes_eq bytes (codes "REPORT") then Some Report
    else (if bytes_eq bytes (codes "QUIT") then Some Quit
    else None))

-- what `read` reads after a text; `other` if the bytes don't begin with the text
abbrev pub read_behind : Option (List ℕ) → (List ℕ → Option Command) → Option Command → Option Command
read_behind (Some rest) read other = read rest
read_behind None read other = other

-- the command of a line, if it says one
unfoldable pub reading : Sight → List ℕ → Option Command
reading sight line =
    read_behind (behind (codes "TENANT ") line) tenant_of
    (read_behind (behind (codes "GET ") line) (get_of sight)
    (read_behind (behind (codes "CAS") line) (cas_of sight)
    (word_of line)))

-- the answer after this was read
abbrev pub Answered : Option Command → Result Request LineFault → Type 0
Answered None answer = answer ≡ Err NotACommand
Answered (Some c) answer = Answers c answer
