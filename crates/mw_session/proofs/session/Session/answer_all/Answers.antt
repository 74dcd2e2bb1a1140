-- Goals of `Session::answer_all` (src/session.rt).
use Rattle.std.proofs.Common.{refl, sym, subst, ◌∙◌, [], ◌∷◌, ◌++◌}
use Rattle.mw_session.specs.KnownStreams.{inner_of, reads_of, writes_of}
use Rattle.mw_session.specs.SessionParts.{Gives}
use Rattle.mw_session.specs.ServiceCalls.{AreAnswered}
use Rattle.mw_session.proofs.Agreements.{agree_nothing, tied_then}
use Rattle.mw_session.proofs.CallsMade.{made_nothing, made_then}
use Rattle.mw_session.proofs.LineJudgments.{not_ok, turned_ok}
use Rattle.mw_session.proofs.StepOutputs.{asked_nothing, asked_then}
use Rattle.mw_session.proofs.AnsweredLines.{fewer_lines, gives_then, spoken_more, spoken_nothing, turned_then}
use Rattle.mw_session.proofs.session.Session.answer_all.Goals as goal

pub loop-step-init : goal.loop-step-init
loop-step-init g c =
    let s = g.S.Service in
    let T = g.T.PeerStream in
    let old = c.args.self.now in
    let stream = c.args.stream.now in
    let now = c.args.service.now in
    record {
      spoken = spoken_nothing (writes_of c.args.stream.now) (AreAnswered s.answered now now) old.written old.feed old.bound (asked_nothing s.answered now);
      reads = refl;
      tied = agree_nothing (T.remaining (inner_of stream)) (T.contents (inner_of stream)) (reads_of stream) (writes_of stream);
      made = made_nothing T.called stream;
      served = c.requires;
    }

pub loop-step-smaller : goal.loop-step-smaller
loop-step-smaller g c =
    let old = c.loop-step.self.feed in
    let taken = c.in-Some.ensures.takes in
    let line = taken.0 in
    fewer_lines old c.answer-answered.new.self.feed line (subst (λ f. Gives old (line ∷ []) f) (sym c.answer-answered.ensures.feed) taken.1)

pub loop-step-preserved : goal.loop-step-preserved
loop-step-preserved g c =
    let T = g.T.PeerStream in
    let s = g.S.Service in
    let first = c.args.self.now in
    let old = c.loop-step.self in
    let taken = c.in-Some.ensures.takes in
    let line = taken.0 in
    let a = c.answer-answered in
    let start = c.args.service.now in
    let middle = c.loop-step.service in
    let end = a.new.service in
    record {
      spoken = spoken_more (writes_of c.args.stream.now) (writes_of c.loop-step.stream) (writes_of a.new.stream)
          (AreAnswered s.answered start middle) (AreAnswered s.answered middle end) (AreAnswered s.answered start end)
          (asked_then s.answered start middle end)
          first.written old.written a.new.self.written first.feed old.feed a.new.self.feed line first.bound old.bound a.new.self.bound
          c.loop-step.invariant.spoken
          (subst (λ f. Gives old.feed (line ∷ []) f) (sym a.ensures.feed) taken.1)
          (turned_ok (writes_of c.loop-step.stream) (writes_of a.new.stream) old.written a.new.self.written (AreAnswered s.answered middle end) (line ∷ []) old.bound a.new.self.bound a.result
          (sym c.is_err.ensures.value ∙ c.if-is_err.false) (a.ensures.turned line taken.2));
      reads = a.ensures.reads ∙ c.loop-step.invariant.reads;
      tied = tied_then T.remaining T.contents c.args.stream.now c.loop-step.stream a.new.stream c.loop-step.invariant.tied a.ensures.tied;
      made = made_then T.called c.args.stream.now c.loop-step.stream a.new.stream c.loop-step.invariant.made a.ensures.made;
      served = a.ensures.served;
    }

pub returns-then-is_err-clause-turned : goal.returns-then-is_err-clause-turned
returns-then-is_err-clause-turned g c =
    let s = g.S.Service in
    let first = c.args.self.now in
    let old = c.loop-step.self in
    let taken = c.in-Some.ensures.takes in
    let line = taken.0 in
    let a = c.answer-answered in
    let start = c.args.service.now in
    let middle = c.loop-step.service in
    let end = a.new.service in
    let so_far = c.loop-step.invariant.spoken in (
      so_far.lines ++ line ∷ [],
      gives_then first.feed old.feed a.new.self.feed so_far.lines (line ∷ []) so_far.gives
          (subst (λ f. Gives old.feed (line ∷ []) f) (sym a.ensures.feed) taken.1),
      turned_then (writes_of c.args.stream.now) (writes_of c.loop-step.stream) (writes_of a.new.stream)
          (AreAnswered s.answered start middle) (AreAnswered s.answered middle end) (AreAnswered s.answered start end)
          (asked_then s.answered start middle end)
          first.written old.written a.new.self.written so_far.lines (line ∷ []) first.bound old.bound a.new.self.bound a.result so_far.talked (a.ensures.turned line taken.2),
    )

pub returns-clause-all : goal.returns-clause-all
returns-clause-all g c = c.in_default.ensures.takes.1

pub returns-then-is_err-clause-tied : goal.returns-then-is_err-clause-tied
returns-then-is_err-clause-tied g c =
    let T = g.T.PeerStream in
    let a = c.answer-answered in
    tied_then T.remaining T.contents c.args.stream.now c.loop-step.stream a.new.stream c.loop-step.invariant.tied a.ensures.tied

pub returns-then-is_err-clause-made : goal.returns-then-is_err-clause-made
returns-then-is_err-clause-made g c =
    let T = g.T.PeerStream in
    let a = c.answer-answered in
    made_then T.called c.args.stream.now c.loop-step.stream a.new.stream c.loop-step.invariant.made a.ensures.made

pub returns-then-is_err-clause-all : goal.returns-then-is_err-clause-all
returns-then-is_err-clause-all g c = not_ok c.answer-answered.result _ (sym c.is_err.ensures.value ∙ c.if-is_err.true)

pub returns-then-is_err-clause-served : goal.returns-then-is_err-clause-served
returns-then-is_err-clause-served g c = not_ok c.answer-answered.result _ (sym c.is_err.ensures.value ∙ c.if-is_err.true)
