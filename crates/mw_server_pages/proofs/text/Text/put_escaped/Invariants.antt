-- Loop invariants of `put_escaped` (src/text.rt).
use Rattle.std.proofs.Common.{◌≡◌, ◌+◌, ◌*◌, ◌≤◌, ◌++◌, length, take, flat_map}
use Rattle.mw_server_pages.specs.Escapes.{escape}
use Rattle.mw_server_pages.proofs.text.Text.put_escaped.Given as goal

-- the bytes so far are put
abbrev pub invariant-loop-byte : goal.invariant-loop-byte
invariant-loop-byte l = record {
  put : l.self.bytes.items ≡ l.initial.self.bytes.items ++ flat_map escape (take l.byte-index l.bytes);
  room : length l.self.bytes.items ≤ length l.initial.self.bytes.items + l.byte-index * 6;
}
