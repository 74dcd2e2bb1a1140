-- Goals of `serve_all_clients` (src/services.rt).
use Rattle.mw_server_pages.proofs.GivenPages.{answers_seen, gives_seen}
use Rattle.mw_service.proofs.Sessions.{part_goes}
use Rattle.mw_service.specs.EngineAnswers.{Answers}
use Rattle.mw_programs.specs.Copies.{IsCopyOf}
use Rattle.mw_programs.specs.Promised.{ShowsOne}
use Rattle.mw_programs.proofs.services.serve_all_clients.Goals as goal

-- each worker has a pass of the engine
pub serve_clients-requires-clause-keeps : goal.serve_clients-requires-clause-keeps
serve_clients-requires-clause-keeps g c κs within old new calls answered =
    c.requires.promise.workers calls (record { old = old.service.pass; new = new.service.pass; own = old.service.own; answered = part_goes (λ it. it.service.pass) (Answers g.J.EngineBrand.identity) old calls new answered })

-- the pages are of the engine
pub serve_clients-requires-clause-pages : goal.serve_clients-requires-clause-pages
serve_clients-requires-clause-pages g c κs within old new calls answered =
    c.requires.promise.pages old.service.pass new.service.pass calls old.service.own
    (answers_seen (λ it. it.service.pass) _ (ShowsOne g.D.Disk.facts g.J.EngineBrand.identity)
    (λ before call after gives. (before.version.items, gives_seen (λ it. it.pass) _ (Answers g.J.EngineBrand.identity) (λ a b c its. its) (IsCopyOf g.D.Disk.facts g.J.EngineBrand.identity) before.version.items before.service after.service before.files after.files call gives))
    old new calls answered)

pub serve_borrowers-requires-clause-pages : goal.serve_borrowers-requires-clause-pages
serve_borrowers-requires-clause-pages g c κs within old new calls answered =
    c.requires.promise.pages old.service.pass new.service.pass calls old.service.own
    (answers_seen (λ it. it.service.pass) _ (ShowsOne g.D.Disk.facts g.J.EngineBrand.identity)
    (λ before call after gives. (before.version.items, gives_seen (λ it. it.pass) _ (Answers g.J.EngineBrand.identity) (λ a b c its. its) (IsCopyOf g.D.Disk.facts g.J.EngineBrand.identity) before.version.items before.service after.service before.files after.files call gives))
    old new calls answered)
