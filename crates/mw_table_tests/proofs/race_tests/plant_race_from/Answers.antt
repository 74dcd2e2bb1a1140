-- Goals of `plant_race_from` (src/race_tests.rt). A call of a generic function asks them for all lifetimes.
use Rattle.std.specs.Prelude.{◌≤◌}
use Rattle.std.proofs.Common.{ap, subst, sym, ◌∙◌}
use Rattle.mw_world.specs.Definition.State.{tenant_at, tenants_of}
use Rattle.mw_core.specs.FromTable.{Basis, opening_at}
use Rattle.mw_table_tests.proofs.race_tests.plant_race_from.Goals as goal

-- the table's pool is the world's
pub plants_race-ends-requires-clause-pool : goal.plants_race-ends-requires-clause-pool
plants_race-ends-requires-clause-pool g c = λ κs lives. ap (λ (basis : Basis). basis.config.pool) c.in_ok-core.ensures.world ∙ c.requires.pool

-- tenant 0 has as many words as in the world
pub plants_race-ends-requires-clause-words : goal.plants_race-ends-requires-clause-words
plants_race-ends-requires-clause-words g c = λ κs lives. ap (λ (basis : Basis). (tenant_at basis.config 0).words) c.in_ok-core.ensures.world ∙ c.requires.words

-- worker 2's idle pass may read
pub plants_race-ends-requires-clause-may : goal.plants_race-ends-requires-clause-may
plants_race-ends-requires-clause-may g c = λ κs lives.
    let same = c.in_ok-core.ensures.world in
    record {
      own = c.in_ok-reader.ensures.own;
      worker = c.in_ok-reader.ensures.worker;
      idle = c.in_ok-reader.ensures.idle;
      tenants = subst (λ (basis : Basis). 1 ≤ tenants_of basis.config) (sym same) c.requires.tenants;
      words = ap (λ (basis : Basis). (tenant_at basis.config 0).words) same ∙ c.requires.words;
      quota_is = ap (λ (basis : Basis). (opening_at basis.openings 0).quota) same ∙ sym (c.quota_of.ensures c.in_ok-core.run'.events);
      pool = ap (λ (basis : Basis). basis.config.pool) same ∙ c.requires.pool;
    }
