-- Loop invariants of `receive_from` (src/receiving.rt).
use Rattle.std.proofs.Common.{◌≡◌, ◌<◌, ◌≤◌, length}
use Rattle.mw_session.specs.KnownStreams.{reads_of, writes_of}
use Rattle.mw_session.specs.StreamRecords.{with_read}
use Rattle.mw_http.specs.declared.hearing.TheConstants.{MAX_HEAD}
use Rattle.mw_http.specs.Hearing.{NeedMore}
use Rattle.mw_http.proofs.receiving.receive_from.Given as goal

-- at least a byte was read in each turn, all are kept, and there is no head yet
abbrev pub invariant-loop : goal.invariant-loop
invariant-loop g l = record {
  long : l.counter ≤ length l.bytes.items;
  short : length l.bytes.items < MAX_HEAD;
  read : reads_of l.stream ≡ with_read (reads_of l.initial.stream) l.bytes.items;
  more : NeedMore l.bytes.items;
  writes : writes_of l.stream ≡ writes_of l.initial.stream;
}
