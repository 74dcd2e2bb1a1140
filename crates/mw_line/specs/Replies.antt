-- Defines the text of each line that the server says, with the line feed that ends it.
-- Used by: mw_session, mw_client, mw_client_c, mwreplay, replies.rt. A change here changes the protocol: docs/PROTOCOL and
-- the clients.
use Rattle.std.specs.Prelude.{ℕ, List, ◌++◌, codes, decimal}
use Rattle.mw_words.specs.declared.replies.Reply.{Reply}
use Rattle.mw_words.specs.declared.replies.Reply.TheVariants as reply
use Rattle.mw_line.specs.declared.requests.LineFault.{LineFault}
use Rattle.mw_line.specs.declared.requests.LineFault.TheVariants as line_fault
use Rattle.mw_line.specs.declared.replies.ErrCode.{ErrCode}
use Rattle.mw_line.specs.declared.replies.ErrCode.TheVariants as fault
use Rattle.mw_line.specs.declared.replies.Say.{Say}
use Rattle.mw_line.specs.declared.replies.Say.TheVariants as say

-- the fault of a line, among all faults that an answer may tell
abbrev pub fault_of : LineFault → ErrCode
fault_of line_fault.NotACommand = fault.NotACommand
fault_of line_fault.AddressRange = fault.AddressRange
fault_of line_fault.AddressOrder = fault.AddressOrder
fault_of line_fault.TooManyEntries = fault.TooManyEntries
fault_of line_fault.ValueRange = fault.ValueRange

-- the number of a fault
abbrev pub number_of : ErrCode → ℕ
number_of fault.LineTooLong = 1
number_of fault.NotACommand = 2
number_of fault.NotBound = 3
number_of fault.AlreadyBound = 4
number_of fault.NoSuchTenant = 5
number_of fault.AddressRange = 6
number_of fault.AddressOrder = 7
number_of fault.TooManyEntries = 8
number_of fault.ValueRange = 9
number_of fault.WrongSession = 10

-- the text of the reply to a job
abbrev pub reply_text : Reply → List ℕ
reply_text (reply.Val value) = codes "VAL " ++ decimal value
reply_text reply.Yes = codes "YES"
reply_text (reply.No addr value) = codes "NO " ++ decimal addr ++ codes " " ++ decimal value
reply_text reply.Busy = codes "BUSY"
reply_text reply.Fault = codes "FAULT"
reply_text reply.Worn = codes "WORN"

-- a line without its line feed
abbrev pub words_of : Say → List ℕ
words_of (say.Ok words) = codes "OK " ++ decimal words
words_of say.OkAdmin = codes "OK ADMIN"
words_of (say.Store reply) = reply_text reply
words_of say.Bye = codes "BYE"
words_of (say.Err fault) = codes "ERR " ++ decimal (number_of fault)

-- a line with its line feed
abbrev pub text_of : Say → List ℕ
text_of s = words_of s ++ codes "\n"
