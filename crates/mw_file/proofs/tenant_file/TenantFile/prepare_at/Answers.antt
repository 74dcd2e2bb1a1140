-- Goals of `TenantFile::prepare_at` (src/tenant_file.rt).
use Rattle.std.proofs.Common.{List, ap, sym, ◌∙◌, subst, ◌+◌, ℕ, length}
use Rattle.mw_words.specs.Change.{is_change}
use Rattle.mw_record.specs.Layout.{pairs_of}
use Rattle.mw_record.specs.Records.{Pairs}
use Rattle.mw_file.specs.declared.new_changes.NewChange.{NewChange}
use Rattle.mw_file.specs.declared.place_states.Stage.TheVariants.{Prepared}
use Rattle.mw_file.specs.NewChanges.{ArePrepared, MayPrepare}
use Rattle.mw_file.specs.PlaceStates.{IsStaged}
use Rattle.mw_file.proofs.NewPlaces.{may_prepare_one, prepared_alone}
use Rattle.mw_file.proofs.RollLoop.{on_ok}
use Rattle.mw_file.specs.File.{Ends}
use Rattle.mw_file.proofs.tenant_file.TenantFile.prepare_at.Goals as goal

pub prepare_all-requires : goal.prepare_all-requires
prepare_all-requires g c =
    let file = c.args.self.now in
    let change : NewChange = record { place = c.args.place; entries = c.copy_of.result } in
    subst (λ (l : List NewChange). MayPrepare file.words file.states.items l) (sym c.from_ref.ensures.value)
    (may_prepare_one file.words file.states.items change c.requires.there c.requires.free (ap (λ e. is_change file.words e.items) c.copy_of.ensures ∙ c.requires.formed))

pub returns-clause-staged : goal.returns-clause-staged
returns-clause-staged g c =
    let old = c.args.self.now.states.items in
    let new = c.prepare_all.new.self.states.items in
    let change : NewChange = record { place = c.args.place; entries = c.copy_of.result } in
    on_ok _ _ c.prepare_all.result (λ are.
    subst (λ (w : Pairs). IsStaged old new c.args.place.0 Prepared w) (ap (λ e. pairs_of e.items) c.copy_of.ensures)
    (prepared_alone old new change (subst (λ (l : List NewChange). ArePrepared old new l) c.from_ref.ensures.value are))) c.prepare_all.ensures.staged

pub returns-clause-ends : goal.returns-clause-ends
returns-clause-ends g c =
    subst (λ (n : ℕ). Ends g.D.Disk.facts n c.args.self.now c.prepare_all.new.self c.prepare_all.result) (ap (λ changes. length changes + 1) c.from_ref.ensures.value) c.prepare_all.ensures.ends
