-- Goals of `serve` (src/serving.rt).
use Rattle.mw_serving_tests.proofs.serving.serve.Goals as goal

-- any service keeps a promise of anything
pub serve_all-requires-clause-keeps : goal.serve_all-requires-clause-keeps
serve_all-requires-clause-keeps g c κs within old new calls answered = c.requires.anything calls
