-- Loop invariants of `put_entries` (src/requests.rt).
use Rattle.std.proofs.Common.{◌≡◌, ◌+◌, ◌≤◌, ◌*◌, ◌++◌, drop, flat_map, length}
use Rattle.mw_line.specs.Grammar.{spaced}
use Rattle.mw_client.specs.declared.requests.TheConstants.{COMMAND, MAX_ENTRY}
use Rattle.mw_client.proofs.requests.put_entries.Given as goal

-- the text so far and the entries that are left make the text from before and all entries
abbrev pub invariant-loop-entry : goal.invariant-loop-entry
invariant-loop-entry l = record {
  entries : l.text.items ++ flat_map spaced (drop l.entry-index l.entries) ≡ l.initial.text.items ++ flat_map spaced l.entries;
  room : length l.text.items ≤ COMMAND + MAX_ENTRY * l.entry-index;
}
