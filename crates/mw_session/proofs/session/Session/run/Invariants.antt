-- Loop invariants of `Session::run` (src/session.rt).
use Rattle.mw_session.specs.KnownStreams.{IsTied, reads_of, writes_of}
use Rattle.mw_session.specs.RecordedCalls.{HasMade}
use Rattle.mw_session.specs.ServiceCalls.{AreAnswered, IsServed}
use Rattle.mw_session.specs.UnderWay.{UnderWay}
use Rattle.mw_session.proofs.session.Session.run.Given as goal

-- all lines that have come were answered
abbrev pub invariant-loop : goal.invariant-loop
invariant-loop g l =
    let T = g.T.PeerStream in
    let s = g.S.Service in
    record {
      way : UnderWay (reads_of l.initial.stream) (reads_of l.stream) (writes_of l.initial.stream) (writes_of l.stream) (AreAnswered s.answered l.initial.service l.service)
          l.session.feed l.session.bound l.session.written;
      tied : IsTied T.remaining T.contents l.initial.stream l.stream;
      made : HasMade T.called l.initial.stream l.stream;
      served : IsServed (s.has_words l.service) l.session.bound;
    }
