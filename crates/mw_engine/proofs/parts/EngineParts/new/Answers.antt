-- Goals of `EngineParts::new` (src/new_parts.rt).
use Rattle.std.specs.Prelude.{All, List, length, map}
use Rattle.std.proofs.Common.{sym, ap, subst, ◌∙◌}
use Rattle.std.proofs.lemmas.List.{length-map}
use Rattle.mw_world.specs.declared.config.Tenant.{Tenant}
use Rattle.mw_world.specs.Definition.State.{IsStart, TenantStart}
use Rattle.mw_core.specs.FromTable.{AreOpened, IsDealt, Shared, basis_of, basis_of_start, opening_at, openings_given}
use Rattle.mw_engine.specs.DisksAtStart.{disk_read}
use Rattle.mw_engine.specs.OpenedFiles.{HaveFewPlaces, places_found, tenant_read}
use Rattle.mw_engine.proofs.Configured.{configured, starts_so, world_is}
use Rattle.mw_engine.proofs.PartsAgree.{a_book_each, a_file_pass_each, books_agree, config_is, lines_agree, new_passes, openings_are, places_agree}
use Rattle.mw_engine.proofs.OpenedParts.{few_all, files_are, given_all, made_counts}
use Rattle.mw_engine.proofs.parts.EngineParts.new.Goals as goal

pub new-requires-clause-config : goal.new-requires-clause-config
new-requires-clause-config g c =
    let config = c.config_of-config in
    configured config.result c.args.lines.now c.args.pool c.args.workers config.ensures.tenants config.ensures.pool config.ensures.workers config.ensures.seq c.requires.pool c.requires.workers
    c.requires.permitted

pub new-requires-clause-one_each : goal.new-requires-clause-one_each
new-requires-clause-one_each g c =
    let lines = c.args.lines.now in
    let made = c.in_ok-openings.ensures in
    (made_counts g.D.Disk.facts lines c.args.files.items c.in_ok-openings.openings.items c.in_ok-openings.books.items made).0
    ∙ sym (ap length c.config_of-config.ensures.tenants ∙ length-map lines tenant_read)

pub new-requires-clause-start : goal.new-requires-clause-start
new-requires-clause-start g c =
    let lines = c.args.lines.now in
    let files = c.args.files.items in
    let config = c.config_of-config in
    let openings = c.in_ok-openings.openings.items in
    let given = ap (λ (all : List Tenant). openings_given all openings) config.ensures.tenants
    ∙ given_all g.D.Disk.facts lines files openings c.in_ok-openings.books.items c.in_ok-openings.ensures in
    subst (λ (all : List TenantStart). IsStart config.result (opening_at all)) (sym given)
    (starts_so g.D.Disk.facts config.result lines files c.args.pool config.ensures.tenants config.ensures.pool c.requires.fit c.requires.permitted)

pub listed-requires : goal.listed-requires
listed-requires g c =
    let lines = c.args.lines.now in
    let openings = c.in_ok-openings.openings.items in
    record {
      few = c.requires.permitted.count;
      one_each = ap length c.deref.ensures.value ∙ (made_counts g.D.Disk.facts lines c.args.files.items openings c.in_ok-openings.books.items c.in_ok-openings.ensures).0;
      few_places = subst HaveFewPlaces (sym c.deref.ensures.value) (few_all g.D.Disk.facts lines c.args.files.items openings c.in_ok-openings.books.items c.in_ok-openings.ensures);
    }

pub invariant_of-words : goal.invariant_of-words
invariant_of-words g c =
    let lines = c.args.lines.now in
    let config = c.config_of-config in
    let openings = c.in_ok-openings.openings.items in
    let shared = c.new-2.result.shared in
    let basis = ap (λ (one : Shared). basis_of one.table.shared.key) c.new-2.ensures ∙ c.in_ok-shared.ensures.table in
    record {
      agrees = lines_agree g.D.Disk.facts shared config.result lines c.args.files.items openings c.in_ok-openings.books.items c.listed.result.items c.args.pool basis config.ensures.tenants config.ensures.pool
          c.requires.fit c.in_ok-openings.ensures c.listed.ensures.lines;
      places_are = places_agree g.D.Disk.facts shared config.result lines c.args.files.items openings c.in_ok-openings.books.items c.listed.result.items c.args.pool basis config.ensures.tenants config.ensures.pool
          c.requires.fit c.in_ok-openings.ensures c.listed.ensures.lines
          (c.listed.ensures.places ∙ ap (map places_found) c.deref.ensures.value);
      few_places = c.listed.ensures.few_places;
    }

pub invariant_of-parts : goal.invariant_of-parts
invariant_of-parts g c =
    let lines = c.args.lines.now in
    let config = c.config_of-config in
    let openings = c.in_ok-openings.openings.items in
    let books = c.in_ok-openings.books.items in
    let file_passes = c.in_ok-shared.file_passes.items in
    let shared = c.new-2.result.shared in
    let basis = ap (λ (one : Shared). basis_of one.table.shared.key) c.new-2.ensures ∙ c.in_ok-shared.ensures.table in
    let opened = subst (λ (one : Shared). AreOpened one (basis_of_start config.result openings) file_passes) (sym c.new-2.ensures) c.in_ok-shared.ensures.file_passes in
    record {
      kept = books_agree g.D.Disk.facts shared config.result lines c.args.files.items openings books c.listed.result.items c.args.pool basis config.ensures.tenants config.ensures.pool
          c.requires.fit c.in_ok-openings.ensures c.listed.ensures.lines file_passes opened;
      a_book_each = a_book_each g.D.Disk.facts shared config.result lines c.args.files.items openings books c.listed.result.items c.args.pool basis config.ensures.tenants config.ensures.pool
          c.requires.fit c.in_ok-openings.ensures c.listed.ensures.lines;
      a_file_pass_each = a_file_pass_each g.D.Disk.facts shared config.result lines c.args.files.items openings books c.listed.result.items c.args.pool basis config.ensures.tenants config.ensures.pool
          c.requires.fit c.in_ok-openings.ensures c.listed.ensures.lines file_passes opened;
    }

pub returns-clause-start : goal.returns-clause-start
returns-clause-start g c =
    let lines = c.args.lines.now in
    let config = c.config_of-config in
    let basis = ap (λ (one : Shared). basis_of one.table.shared.key) c.new-2.ensures ∙ c.in_ok-shared.ensures.table in
    openings_are g.D.Disk.facts c.new-2.result.shared config.result lines c.args.files.items c.in_ok-openings.openings.items c.in_ok-openings.books.items c.listed.result.items c.args.pool basis
    config.ensures.tenants config.ensures.pool c.requires.fit c.in_ok-openings.ensures c.listed.ensures.lines

pub returns-clause-passes : goal.returns-clause-passes
returns-clause-passes g c =
    let lines = c.args.lines.now in
    let config = c.config_of-config in
    let openings = c.in_ok-openings.openings.items in
    let basis = ap (λ (one : Shared). basis_of one.table.shared.key) c.new-2.ensures ∙ c.in_ok-shared.ensures.table in
    new_passes g.D.Disk.facts c.new-2.result.shared config.result lines c.args.files.items openings c.in_ok-openings.books.items c.listed.result.items c.args.pool basis
    config.ensures.tenants config.ensures.pool c.requires.fit c.in_ok-openings.ensures c.listed.ensures.lines c.in_ok-shared.passes.items
    (subst (λ (one : Shared). All (IsDealt one (basis_of_start config.result openings)) c.in_ok-shared.passes.items) (sym c.new-2.ensures) c.in_ok-shared.ensures.passes)

pub returns-clause-config : goal.returns-clause-config
returns-clause-config g c =
    let lines = c.args.lines.now in
    let config = c.config_of-config in
    let basis = ap (λ (one : Shared). basis_of one.table.shared.key) c.new-2.ensures ∙ c.in_ok-shared.ensures.table in
    config_is g.D.Disk.facts c.new-2.result.shared config.result lines c.args.files.items c.in_ok-openings.openings.items c.in_ok-openings.books.items c.listed.result.items c.args.pool basis
    config.ensures.tenants config.ensures.pool c.requires.fit c.in_ok-openings.ensures c.listed.ensures.lines
    ∙ world_is config.result lines c.args.pool c.args.workers config.ensures.tenants config.ensures.pool config.ensures.workers config.ensures.seq

pub returns-clause-files : goal.returns-clause-files
returns-clause-files g c = files_are g.D.Disk.facts c.args.lines.now c.args.files.items c.in_ok-openings.openings.items c.in_ok-openings.books.items c.in_ok-openings.ensures

pub returns-clause-disks : goal.returns-clause-disks
returns-clause-disks g c =
    ap (map (disk_read g.D.Disk.facts)) (files_are g.D.Disk.facts c.args.lines.now c.args.files.items c.in_ok-openings.openings.items c.in_ok-openings.books.items c.in_ok-openings.ensures)
