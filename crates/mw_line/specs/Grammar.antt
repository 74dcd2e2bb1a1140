-- Defines the protocol's grammar: which bytes are a line of a client, and which command each line says. Limits has its
-- limits.
-- Used by: mw_session, mw_client, mw_client_c, changes.rt, laws.rt, requests.rt. A change here changes the protocol:
-- docs/PROTOCOL, mw_session and the clients.
use Rattle.std.specs.Prelude.{◌≡◌, ℕ, ◌<◌, List, ◌++◌, length, codes, flat_map, IsTrue}
use Rattle.mw_words.specs.declared.jobs.Entry.{Entry}
use Rattle.mw_words.specs.Name.{is_name}
use Rattle.mw_line.specs.Number.{numeral}

-- What a line may say. Here numbers may have any size, also those of an entry, and a change any number of entries.
pub data Command : Type 0 where
  Tenant : List ℕ → Command
  Admin : Command
  Get : ℕ → Command
  Cas : List Entry → Command
  Report : Command
  Quit : Command

-- the text of an entry: address, expected value and new value, with colons between them
abbrev pub entry_text : Entry → List ℕ
entry_text e = numeral e.addr ++ codes ":" ++ numeral e.expected ++ codes ":" ++ numeral e.new

-- an entry's text with a space before it
abbrev pub spaced : Entry → List ℕ
spaced e = codes " " ++ entry_text e

-- the one text of a command
abbrev pub spelling : Command → List ℕ
spelling (Tenant name) = codes "TENANT " ++ name
spelling Admin = codes "ADMIN"
spelling (Get addr) = codes "GET " ++ numeral addr
spelling (Cas entries) = codes "CAS" ++ flat_map spaced entries
spelling Report = codes "REPORT"
spelling Quit = codes "QUIT"

-- a tenant's name is a name, and a change has at least one entry
abbrev pub IsCommand : Command → Type 0
IsCommand (Tenant name) = IsTrue (is_name name)
IsCommand Admin = Unit {0}
IsCommand (Get addr) = Unit {0}
IsCommand (Cas entries) = 0 < length entries
IsCommand Report = Unit {0}
IsCommand Quit = Unit {0}

-- the line says this command
abbrev pub Spells : Command → List ℕ → Type 0
Spells c line = IsCommand c × (line ≡ spelling c)
