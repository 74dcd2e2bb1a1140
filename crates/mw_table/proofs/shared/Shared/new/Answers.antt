-- Goals of `Shared::new` (src/at_start.rt).
use Rattle.std.proofs.Common.{ℕ, List, Vec, [], ap, sym, subst, ◌∙◌}
use Rattle.std.specs.declared.alloc.Global.{Global}
use Rattle.atomic_table.specs.Table.{opening}
use Rattle.mw_actor.specs.ActorState.{ActorState}
use Rattle.mw_world.specs.declared.config.Config.{Config}
use Rattle.mw_world.specs.Definition.State.{idle_worker_state}
use Rattle.mw_rule.specs.Splits.{maker}
use Rattle.mw_rule.specs.Rule.{TableInvariant, BitsMatch}
use Rattle.mw_table.specs.declared.origin.FileOpening.{FileOpening}
use Rattle.mw_table.specs.TableAtStart.{StartedWith, basis_of_start, openings_given, world_given}
use Rattle.mw_table.proofs.TableAtStartLaws.{fresh_table}
use Rattle.std.specs.Prelude.{length, Some}
use Rattle.mw_table.proofs.shared.Shared.new.Goals as goal

-- the rule of a table that these begin with
abbrev IsTied : List ℕ → Config → List FileOpening → Type 0
IsTied words config found = TableInvariant config (StartedWith config found) (opening {S = ActorState} words [] (maker config (openings_given config.tenants.items found) (Some (basis_of_start config found).known_run) (λ worker. idle_worker_state) (basis_of_start config found).files))

pub open-requires-clause-tied : goal.open-requires-clause-tied
open-requires-clause-tied c =
    let config = c.args.config.now in
    let found = c.args.openings.now.items in
    let words = c.deref-2.result.now in
    let same = c.deref-2.ensures.value in
    let ties : BitsMatch config (world_given config found).cells words =
    subst (λ (bits : List ℕ). BitsMatch config (world_given config found).cells bits) (sym same)
    (subst (λ (some : List FileOpening). BitsMatch config (world_given config some).cells c.in_ok-words.words.items) c.deref.ensures.value c.in_ok-words.ensures.ties) in
    subst (λ (one : Config). IsTied words one c.of-2.result.value.items) (sym c.of.ensures)
    (subst (λ (some : Vec FileOpening Global). IsTied words config some.items) (sym c.of-2.ensures)
    (fresh_table config found words c.requires.config c.requires.start (ap length same ∙ c.in_ok-words.ensures.long) ties))
