-- Goals of `TenantFile::cancel` (src/tenant_file.rt).
use Rattle.std.proofs.Common.{refl, arith}
use Rattle.mw_file.specs.declared.place_states.Stage.TheVariants.{Prepared}
use Rattle.mw_file.proofs.Places.{state_at, state_there, staged_as}
use Rattle.mw_file.proofs.Safety.{safe_given_up}
use Rattle.mw_file.proofs.tenant_file.TenantFile.cancel.Goals as goal

pub index_mut-requires : goal.index_mut-requires
index_mut-requires g c =
    let there = state_there c.args.self.now.states.items c.args.place.0 Prepared c.requires (λ e. cc) in
    omega (arith, there)

pub returns-clause-staged : goal.returns-clause-staged
returns-clause-staged g c =
    let at = state_at c.args.self.now.states.items c.args.place.0 c.index_mut.result.now Prepared c.index_mut.ensures.value c.requires (λ e. cc) in
    staged_as c.args.self.now.states.items c.args.place.0 c.index_mut.result.now _ at refl

pub returns-clause-safe : goal.returns-clause-safe
returns-clause-safe g c honest contents doubt was =
    let states = c.args.self.now.states.items in
    let place = c.args.place.0 in
    let at = state_at states place c.index_mut.result.now Prepared c.index_mut.ensures.value c.requires (λ e. cc) in
    let there = state_there states place Prepared c.requires (λ e. cc) in
    safe_given_up g.D.Disk.facts c.args.self.now _ place contents doubt refl refl refl refl there c.requires (staged_as states place c.index_mut.result.now _ at refl) was
