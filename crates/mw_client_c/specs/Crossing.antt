-- Defines what a program in C gets: when the line of a command was written for it, and how a reply is shown to it.
-- Used by: src/lib.rt. Change it with clients/c/proved.h.
use Rattle.std.specs.Prelude.{◌≡◌, ℕ, ◌++◌, Bool, true, false, List, length, codes, take, nat_le, nat_lt, Option, Some, None}
use Rattle.mw_words.specs.declared.limits.TheConstants.{MAX_WORDS}
use Rattle.mw_words.specs.declared.jobs.Entry.{Entry}
use Rattle.mw_words.specs.declared.replies.Reply.{Reply}
use Rattle.mw_words.specs.declared.replies.Reply.TheVariants as reply
use Rattle.mw_line.specs.declared.replies.Say.{Say}
use Rattle.mw_line.specs.declared.replies.Say.TheVariants as say
use Rattle.mw_line.specs.Grammar.{Command, spelling}
use Rattle.mw_line.specs.Replies.{number_of}
use Rattle.mw_client_c.specs.declared.shapes.LineEntry.{LineEntry}
use Rattle.mw_client_c.specs.declared.shapes.LineReply.{LineReply}

-- the text of a command with its line feed
abbrev pub line_of : Command → List ℕ
line_of c = spelling c ++ codes "\n"

-- if there is room: the first `count` bytes are the line
abbrev pub IsPut : Bool → List ℕ → List ℕ → ℕ → Type 0
IsPut true line new count = (count ≡ length line) × (take count new ≡ line)
IsPut false line new count = count ≡ 0

-- the command's line was written, if there is room for it; else the count is 0
abbrev pub IsWritten : Command → List ℕ → List ℕ → ℕ → Type 0
IsWritten c old new count = IsPut (nat_le (length (line_of c)) (length old)) (line_of c) new count

-- if this may be asked, its line was written; else the count is 0
abbrev pub IsWrittenIf : Bool → Command → List ℕ → List ℕ → ℕ → Type 0
IsWrittenIf true c old new count = IsWritten c old new count
IsWrittenIf false c old new count = count ≡ 0

-- some tenant can have a word there
abbrev pub is_address : ℕ → Bool
is_address address = nat_lt address MAX_WORDS

-- the entry that C means
abbrev pub entry_of : LineEntry → Entry
entry_of e = record { addr = e.address; expected = e.expected; new = e.value }

abbrev pub reply_of : ℕ → ℕ → ℕ → LineReply
reply_of kind address number = record { kind = kind; address = address; number = number }

-- a reply of the store
abbrev pub shown_reply : Reply → LineReply
shown_reply (reply.Val value) = record { kind = 5; address = 0; number = value }
shown_reply reply.Yes = record { kind = 6; address = 0; number = 0 }
shown_reply (reply.No address value) = record { kind = 7; address = address; number = value }
shown_reply reply.Busy = record { kind = 8; address = 0; number = 0 }
shown_reply reply.Fault = record { kind = 9; address = 0; number = 0 }
shown_reply reply.Worn = record { kind = 10; address = 0; number = 0 }

-- a reply as C sees it: each has another kind
abbrev pub shown : Say → LineReply
shown (say.Ok words) = record { kind = 1; address = 0; number = words }
shown say.OkAdmin = record { kind = 2; address = 0; number = 0 }
shown say.Bye = record { kind = 3; address = 0; number = 0 }
shown (say.Err fault) = record { kind = 4; address = 0; number = number_of fault }
shown (say.Store it) = shown_reply it

-- no reply
abbrev pub nothing : LineReply
nothing = record { kind = 0; address = 0; number = 0 }

abbrev pub told : Option Say → LineReply
told (Some said) = shown said
told None = nothing
