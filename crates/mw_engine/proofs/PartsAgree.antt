-- When an engine's parts are made, its lines, table, passes, books and file passes agree with each other.
-- Used by: EngineParts::new.
use Rattle.std.specs.Prelude.{◌≡◌, ◌<◌, ℕ, All, List, [], ◌∷◌, length, map, is_some, not, slice_get, Option, Some, Vec}
use Rattle.std.specs.declared.alloc.Global.{Global}
use Rattle.std.proofs.Common.{refl, sym, ap, subst, ◌∙◌, inl}
use Rattle.std.proofs.lemmas.List.{length-map}
use Rattle.mw_disk.specs.Facts.{Facts}
use Rattle.mw_file.specs.declared.tenant_file.TenantFile.{TenantFile}
use Rattle.mw_config.specs.declared.lines.TenantLine.{TenantLine}
use Rattle.mw_world.specs.declared.config.Config.{Config}
use Rattle.mw_world.specs.declared.config.Tenant.{Tenant}
use Rattle.mw_world.specs.Definition.State.{TenantStart, tenants_of}
use Rattle.mw_book.specs.declared.book.Book.{Book}
use Rattle.mw_core.specs.FromTable.{AreOpened, Basis, FileOpening, FilePass, FileToken, IsDealt, Pass, Shared, View, basis_of, basis_of_start, config_of, known_run_of, file_among, file_kept, numbers, opening_at, openings_given, openings_of, file_token_opened}
use Rattle.mw_core.specs.Books.{Agrees}
use Rattle.mw_engine.specs.declared.tenant_line.Listed.{Listed}
use Rattle.mw_engine.specs.LinesOfWorld.{Agrees as AgreesWithWorld, line_given, places_told}
use Rattle.mw_engine.specs.Brand.{identity_on}
use Rattle.mw_engine.specs.CallsSinceStart.{IsLeftInRun, token_given}
use Rattle.mw_engine.specs.DisksAtStart.{IsOnItsDisk, disk_read, disks_in}
use Rattle.mw_engine.specs.GuardedFile.{AreKept}
use Rattle.mw_engine.specs.Lines.{line_of, places_of}
use Rattle.mw_engine.specs.OpenedFiles.{AreMadeOf, FitLines, line_read, openings_read, places_found, tenant_read}
use Rattle.mw_engine.specs.Passes.{IsNew}
use Rattle.mw_engine.proofs.Configured.{line_is}
use Rattle.mw_engine.proofs.AgreementForms.{agrees_once}
use Rattle.mw_engine.proofs.DisksOfFiles.{begins_on_disk, disk_there}
use Rattle.mw_engine.proofs.OpenedParts.{AgreesWith, agrees_at, given_all, made_counts, places_all}

-- the number of the next attempt of the first of these workers
abbrev second_of : List (ℕ × ℕ) → ℕ
second_of [] = 0
second_of (one ∷ rest) = one.1

module _ {D : Type 0} (facts : D → Facts) (shared : Shared) (config : Config) (lines : List TenantLine) (files : List (Option (TenantFile D × Vec ℕ Global))) (openings : List FileOpening) (books : List (Book D))
    (kept : List Listed) (pool : ℕ) (basis : basis_of shared.table.shared.key ≡ basis_of_start config openings) (tenants : config.tenants.items ≡ map tenant_read lines) (is_pool : config.pool ≡ pool)
    (fit : FitLines facts lines files) (made : AreMadeOf facts lines files openings books) (listed : map line_of kept ≡ map line_read lines) where
  pub config_is : config_of shared.table.shared.key ≡ config
  config_is = ap (λ (b : Basis). b.config) basis

  given_is : openings_given config.tenants.items openings ≡ openings_read lines files
  given_is = ap (λ (all : List Tenant). openings_given all openings) tenants ∙ given_all facts lines files openings books made

  -- what the start gave
  pub openings_are : openings_of shared.table.shared.key ≡ openings_read lines files
  openings_are = ap (λ (b : Basis). b.openings) basis ∙ given_is

  -- the engine keeps as many places of each file as the start gave
  pub places_agree : map places_of kept ≡ map places_found openings → map places_of kept ≡ map places_told (openings_of shared.table.shared.key)
  places_agree kept_so = kept_so ∙ (places_all facts lines files openings books made ∙ ap (map places_told) (sym openings_are))

  as_many : length kept ≡ length lines
  as_many = sym (length-map kept line_of) ∙ (ap length listed ∙ length-map lines line_read)

  tenants_are : tenants_of config ≡ length lines
  tenants_are = ap length tenants ∙ length-map lines tenant_read

  -- the lines agree with the world
  pub lines_agree : AgreesWithWorld shared.table.shared.key (map line_of kept) pool
  lines_agree = record {
    count = ap length listed ∙ (length-map lines line_read ∙ (sym tenants_are ∙ ap tenants_of (sym config_is)));
    each = λ tenant low.
        ap (λ all. slice_get all tenant) listed
        ∙ (line_is facts config lines files tenant tenants fit (subst (λ (n : ℕ). tenant < n) (ap length listed ∙ length-map lines line_read) low)
        ∙ (λ i. Some (line_given (sym config_is i) (sym openings_are i) tenant)));
    slots = sym is_pool ∙ ap (λ (c : Config). c.pool) (sym config_is);
  }

  -- the passes are new
  new_pass : (pass : Pass) → IsDealt shared (basis_of_start config openings) pass → IsNew (identity_on shared (map line_of kept) (disks_in facts books)) pass
  new_pass pass dealt = record {
    own = record {
      table = dealt.own.table;
      config = dealt.own.config;
      openings = dealt.own.openings;
      there = subst (λ (c : Config). pass.worker < c.workers) (sym config_is) dealt.there;
      free = ap (λ (view : View). view.files) dealt.view;
    };
    idle = dealt.idle;
    attempt = ap second_of (sym pass.numbered ∙ ap numbers dealt.view);
    nothing_seen = ap (λ (view : View). view.seen) dealt.view;
    nothing_noted = ap (λ (view : View). view.mine) dealt.view;
    begun = ap (λ (view : View). view.known_run) dealt.view ∙ ap (λ (b : Basis). Some (known_run_of b.config (opening_at b.openings) [] [])) (sym basis);
  }

  pub new_passes : (passes : List Pass) → All (IsDealt shared (basis_of_start config openings)) passes → All (IsNew (identity_on shared (map line_of kept) (disks_in facts books))) passes
  new_passes passes all = λ index other low. new_pass _ (all index other low)

  -- there are as many books and file passes as lines
  pub a_book_each : length books ≡ length kept
  a_book_each = (made_counts facts lines files openings books made).1 ∙ sym as_many

  module _ (file_passes : List FilePass) (opened : AreOpened shared (basis_of_start config openings) file_passes) where
    pub a_file_pass_each : length file_passes ≡ length kept
    a_file_pass_each = opened.count ∙ (tenants_are ∙ sym as_many)

    -- The file of a book that agrees with what the start gave has not failed, and is on its disk. It has the words that the start gave.
    on_disk : (view : View) (tenant : ℕ) (book : Book D) → slice_get books tenant ≡ Some book → AgreesWith facts (opening_at (openings_read lines files) tenant) book tenant config.pool
        → IsOnItsDisk facts (IsLeftInRun facts (identity_on shared (map line_of kept) (disks_in facts books)) view tenant) (disks_in facts books) tenant book.held
    on_disk view tenant book at_book both =
        let given = opening_at (openings_read lines files) tenant in
        begins_on_disk facts (IsLeftInRun facts (identity_on shared (map line_of kept) (disks_in facts books)) view tenant) books tenant book given.words []
        (λ image words. inl (words ∙ ap (λ (all : List TenantStart). Some (opening_at all tenant).words) (sym openings_are))) at_book
        (λ file is. sym both.0.shows.same_failed ∙ ap not (sym both.1 ∙ ap is_some is)) both.0.shows.stands

    -- each file pass is its tenant's, and the book agrees with it
    pub books_agree : AreKept facts (identity_on shared (map line_of kept) (disks_in facts books)) books file_passes
    books_agree = λ tenant book file_pass at_book at_file_pass.
        let one = opened.each tenant file_pass at_file_pass in
        let os = openings_read lines files in
        let both : AgreesWith facts (opening_at os tenant) book tenant config.pool = agrees_at facts lines files openings books tenant tenant config.pool book made at_book in
        let first = both.0 in
        let told : file_kept file_pass ≡ file_token_opened tenant (opening_at os tenant).quota config.pool (opening_at os tenant).words (not (opening_at os tenant).is_up) =
        ap (λ (view : View). file_among view.files) one.view
        ∙ ap (λ (given : List TenantStart). file_token_opened tenant (opening_at given tenant).quota config.pool (opening_at given tenant).words (not (opening_at given tenant).is_up)) given_is in (
          one.whose,
          record {
            own = one.own.table;
            config = one.own.config;
            openings = one.own.openings;
            opened = both.1 ∙ (λ i. (opening_at (sym openings_are i) (sym one.whose i)).is_up);
            its_disk = subst (λ (n : ℕ). IsOnItsDisk facts (IsLeftInRun facts (identity_on shared (map line_of kept) (disks_in facts books)) file_pass.seat.me.0 n) (disks_in facts books) n book.held) (sym one.whose)
                (on_disk file_pass.seat.me.0 tenant book at_book both);
            its_uses = ∣ record {
              first = book;
              on = subst (λ (n : ℕ). slice_get (disks_in facts books) n ≡ Some (disk_read facts book.held)) (sym one.whose) (disk_there facts books tenant book at_book);
              count = 0;
              uses = (refl, told ∙ (λ i. token_given (sym one.whose i) (sym config_is i).pool (opening_at (sym openings_are i) (sym one.whose i))));
            } ∣₁;
            agrees = agrees_once facts book (file_kept file_pass) (opening_at (openings_of shared.table.shared.key) file_pass.tenant).quota (config_of shared.table.shared.key).pool (subst (λ (file_passes : FileToken). Agrees facts book file_passes (opening_at (openings_of shared.table.shared.key) file_pass.tenant).quota (config_of shared.table.shared.key).pool) (sym told)
                (subst (λ (n : ℕ). Agrees facts book (file_token_opened tenant (opening_at os tenant).quota config.pool (opening_at os tenant).words (not (opening_at os tenant).is_up))
                (opening_at (openings_of shared.table.shared.key) n).quota (config_of shared.table.shared.key).pool) (sym one.whose)
                (subst (λ (given : List TenantStart). Agrees facts book (file_token_opened tenant (opening_at os tenant).quota config.pool (opening_at os tenant).words (not (opening_at os tenant).is_up))
                (opening_at given tenant).quota (config_of shared.table.shared.key).pool) (sym openings_are)
                (subst (λ (c : Config). Agrees facts book (file_token_opened tenant (opening_at os tenant).quota config.pool (opening_at os tenant).words (not (opening_at os tenant).is_up))
                (opening_at os tenant).quota c.pool) (sym config_is) first))));
          },
        )
