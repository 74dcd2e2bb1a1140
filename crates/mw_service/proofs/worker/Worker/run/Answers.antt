-- Goals of `Worker::run` (src/worker.rt).
use Rattle.mw_service.specs.Served.{Answers}
use Rattle.mw_service.proofs.Sessions.{part_goes, told_otherwise}
use Rattle.mw_session.specs.KnownStreams.{reads_of, writes_of}
use Rattle.mw_session.specs.Transitions.{GoesThrough}
use Rattle.mw_service.proofs.worker.Worker.run.Goals as goal

pub returns-clause-session : goal.returns-clause-session
returns-clause-session g c =
    let answers = Answers g.J.EngineBrand.identity in
    let old = c.args.self.now in
    let new = c.run.new.service in
    let stream = c.args.stream.now in
    let after = c.run.new.stream in
    told_otherwise (reads_of stream) (reads_of after) (writes_of stream) (writes_of after)
    (λ calls. GoesThrough (λ before call later. answers before.pass call later.pass) old calls new) (λ calls. GoesThrough answers old.pass calls new.pass) c.run.result
    (λ calls goes. part_goes (λ worker. worker.pass) answers old calls new goes) c.run.ensures.holds
