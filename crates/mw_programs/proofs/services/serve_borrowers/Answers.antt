-- Goals of `serve_borrowers` (src/services.rt).
use Rattle.mw_service.proofs.Sessions.{part_goes}
use Rattle.mw_service.specs.EngineAnswers.{AnswersOwn}
use Rattle.mw_programs.proofs.services.serve_borrowers.Goals as goal

-- each borrower borrows passes of the engine
pub serve_clients-requires-clause-keeps : goal.serve_clients-requires-clause-keeps
serve_clients-requires-clause-keeps g c κs within old new calls answered =
    c.requires.promise.borrowers calls (record {
      old = record { note = old.service.note; tokens = old.service.own.seat.me.0.tokens };
      new = record { note = new.service.note; tokens = new.service.own.seat.me.0.tokens };
      answered = part_goes (λ it. record { note = it.service.note; tokens = it.service.own.seat.me.0.tokens }) (AnswersOwn g.J.EngineBrand.identity) old calls new answered;
    })
