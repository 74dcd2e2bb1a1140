-- Loop invariants of `Session::answer_all` (src/session.rt).
use Rattle.std.proofs.Common.{◌≡◌, length}
use Rattle.mw_frame.specs.Stream.{lines_of}
use Rattle.mw_session.specs.KnownStreams.{IsTied, reads_of, writes_of}
use Rattle.mw_session.specs.RecordedCalls.{HasMade}
use Rattle.mw_session.specs.SessionParts.{Spoken}
use Rattle.mw_session.specs.ServiceCalls.{AreAnswered, IsServed}
use Rattle.mw_session.proofs.session.Session.answer_all.Given as goal

-- the lines so far were answered
abbrev pub invariant-loop-step : goal.invariant-loop-step
invariant-loop-step g l =
    let T = g.T.PeerStream in
    let s = g.S.Service in
    record {
      spoken : Spoken (writes_of l.initial.stream) (writes_of l.stream) (AreAnswered s.answered l.initial.service l.service)
          l.initial.self.written l.self.written l.initial.self.feed l.self.feed l.initial.self.bound l.self.bound;
      reads : reads_of l.stream ≡ reads_of l.initial.stream;
      tied : IsTied T.remaining T.contents l.initial.stream l.stream;
      made : HasMade T.called l.initial.stream l.stream;
      served : IsServed (s.has_words l.service) l.self.bound;
    }

abbrev pub decreases-loop-step : goal.decreases-loop-step
decreases-loop-step g l = length (lines_of l.self.feed)
