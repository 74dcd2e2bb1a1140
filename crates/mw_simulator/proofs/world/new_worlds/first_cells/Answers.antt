-- Goals of `first_cells` (src/world/new_worlds.rt).
use Rattle.std.proofs.Common.{ℕ, List, Bool, subst, sym}
use Rattle.std.proofs.lemmas.Result.{IfOk-weaker}
use Rattle.mw_world.specs.Definition.State as spec
use Rattle.mw_world_memory.specs.Bits.{Bits}
use Rattle.mw_world_memory.specs.Openings.{AreOpenings, Gave}
use Rattle.mw_simulator.specs.Starts.{HaveWords}
use Rattle.mw_world_memory.specs.BitsMatch.{BitsMatch}
use Rattle.mw_simulator.proofs.FirstWorlds.{all_gave, are_openings}
use Rattle.mw_simulator.proofs.world.new_worlds.first_cells.Goals as goal

pub new-requires-clause-openings : goal.new-requires-clause-openings
new-requires-clause-openings c =
    subst (AreOpenings c.args.config.now) (sym c.deref.ensures.value)
    (are_openings c.args.tenant_states.now c.in_ok-openings.openings.items c.in_ok-openings.ensures c.args.config.now c.requires.tenant_states)

pub returns-clause-tie : goal.returns-clause-tie
returns-clause-tie c =
    let config = c.args.config.now in
    let tenant_states = c.args.tenant_states.now in
    let openings = c.in_ok-openings.openings.items in
    let P : Bits → Type 0 = λ cells. (words : ℕ → List ℕ) (is_up : ℕ → Bool) → Gave c.deref.result.now words is_up → BitsMatch cells (spec.first_cells config words is_up) in
    let Q : Bits → Type 0 = λ cells. (words : ℕ → List ℕ) (is_up : ℕ → Bool) → HaveWords tenant_states words is_up → BitsMatch cells (spec.first_cells config words is_up) in
    IfOk-weaker c.new.result P Q
    (λ cells ties words is_up have. ties words is_up
    (subst (λ given. Gave given words is_up) (sym c.deref.ensures.value) (all_gave tenant_states openings c.in_ok-openings.ensures words is_up have)))
    c.new.ensures.tie
