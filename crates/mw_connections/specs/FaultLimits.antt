-- Defines after which reply a session reads no further line, if its client may make so many faults only.
-- Used by: fault_limit.rt. A change here changes when a client is sent away that speaks another protocol.
use Rattle.std.specs.Prelude.{◌≡◌, ℕ, ◌+◌, ◌-◌, ◌==◌, ◌≤◌, Bool, zero, suc, not, List, length, take, ⊤, codes, nat_eq, Option, Some, None, Result, IfOk, IsErr, if◌then◌else◌}
use Rattle.std.specs.List.{prefix_len, starts_with}
use Rattle.std.specs.Option.{option_map}
use Rattle.std.specs.declared.io.Error.{Error}
use Rattle.mw_frame.specs.Lines.{line_feed}
use Rattle.mw_session.specs.PeerCalls.{PeerCall, Reads, Writes, EndsWriting}

-- how many bytes are before the first line feed; all of them if there is none
abbrev pub text_len : List ℕ → ℕ
text_len bytes = prefix_len (λ b. not (b == line_feed)) bytes

-- at most the last byte is a line feed
abbrev pub HasOneEnd : List ℕ → Type 0
HasOneEnd bytes = length bytes ≤ text_len bytes + 1

-- a reply that tells a line's fault
abbrev pub tells_fault : List ℕ → Bool
tells_fault text = starts_with nat_eq text (codes "ERR")

-- how many faults may be told after one more; None: any number
abbrev pub one_less : Option ℕ → Option ℕ
one_less left = option_map (λ count. count - 1) left

-- What a read may give while so many faults may be told. After the last one it fails; before, it gives one line's end at most.
abbrev pub MayRead : Option ℕ → Result ℕ Error → List ℕ → Type 0
MayRead None outcome piece = ⊤
MayRead (Some zero) outcome piece = IsErr outcome
MayRead (Some (suc left)) outcome piece = IfOk outcome (λ count. HasOneEnd (take count piece))

-- A call of the stream, by how many faults could be told before and may be told after it. A write of a reply that tells a fault
-- takes one off. After the end of the writing nothing is limited.
abbrev pub IsCallOfLimited : Option ℕ → PeerCall → Option ℕ → Type 0
IsCallOfLimited left (Reads piece outcome) new_left = MayRead left outcome piece × (new_left ≡ left)
IsCallOfLimited left (Writes text outcome) new_left = new_left ≡ (if tells_fault text then one_less left else left)
IsCallOfLimited left (EndsWriting outcome) new_left = new_left ≡ None
