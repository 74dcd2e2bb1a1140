-- Proves the law `runs_have_world_facts`.
use Rattle.mw_law_store.proofs.WorldFactLaws.{events_keep_world_facts, runs_have_world_facts}
use Rattle.mw_law_store.proofs.laws.runs_have_world_facts.Goals as goal

pub returns-clause-keep : goal.returns-clause-keep
returns-clause-keep c = events_keep_world_facts

pub returns-clause-runs : goal.returns-clause-runs
returns-clause-runs c = runs_have_world_facts
