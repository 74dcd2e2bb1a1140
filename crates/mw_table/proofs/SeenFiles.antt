-- A pass that took a file and loaded a word has seen all changes that were sealed in the file. Used by: Shared::confirm_with.
use Rattle.std.specs.Prelude.{ℕ, ◌≡◌, ◌<◌, [], ◌∷◌, ◌++◌, List, None}
use Rattle.std.proofs.Common.{sym, ap, subst, ◌∙◌}
use Rattle.mw_world.specs.declared.config.Config.{Config}
use Rattle.mw_world.specs.Definition.State.{TenantStart, tenants_of}
use Rattle.mw_rule.specs.declared.views.HeldFile.{HeldFile}
use Rattle.mw_rule.specs.declared.views.View.{View}
use Rattle.mw_rule.specs.Calls.FileTokens.{TellsFile, file_told}
use Rattle.mw_rule.specs.FromLaws.{put_sealed}
use Rattle.mw_rule.specs.Prefixes.{seen_at}
use Rattle.mw_rule.specs.Rule.{Each, HoldsFile, words_given}
use Rattle.mw_rule.specs.Splits.{takes_files, without_file}
use Rattle.mw_rule.specs.Steps.{LearnsPlainLoad}
use Rattle.mw_rule.specs.WordActions.{WentOn}
use Rattle.mw_rule.proofs.FilesOfSeen.{files_are_of_seen}
use Rattle.mw_table.specs.declared.file_pass.FilePass.{FilePass}
use Rattle.mw_table.specs.FileCalls.{IsSoOfWorld, file_kept}
use Rattle.mw_table.specs.SeenFiles.{SeesFile}
use Rattle.mw_table.proofs.TakenFiles.{file_pass_is, file_pass_its}

module _ (view : View) (file_pass : FilePass) (bits : ℕ) (looked : View) (free : view.files ≡ []) (load : LearnsPlainLoad 0 bits (takes_files view file_pass.seat.me.0) looked) where
  abbrev held : HeldFile
  held = record { file = file_kept file_pass; found = None }

  took_is : (takes_files view file_pass.seat.me.0).files ≡ held ∷ []
  took_is = λ i. free i ++ file_pass_is file_pass i

  pub sees_file : SeesFile file_pass view (without_file looked)
  sees_file =
      let same = load.same_files ∙ took_is in
      let words = subst (Each (λ (one : HeldFile). (file_told one.file).contents ≡ put_sealed (words_given looked one.file.tenant) (seen_at looked.seen one.file.tenant))) same (files_are_of_seen looked 0 bits load.stood) in
      let holds = subst (Each (HoldsFile looked.config load.stood.state)) same load.stood.files in
      let its = file_pass_its file_pass in
      let there = subst (λ (tenant : ℕ). tenant < tenants_of looked.config) its holds.0.there in
      let state = load.stood.state in
      record {
        keeps = record { same_config = load.goes_on.same_config; same_openings = load.goes_on.same_openings; seen = load.goes_on.seen; known_run = load.goes_on.known_run };
        follows = load.learned_run;
        same_token = load.same_token;
        same_mine = load.same_mine;
        right = record { changes = load.right.changes; mine = load.right.mine; once = load.right.once; own = load.right.own; alone = load.right.alone };
        openings = load.stood.openings;
        events = load.stood.events;
        state = state;
        played = load.stood.played;
        there = there;
        tells = subst (λ (tenant : ℕ). TellsFile (state.tenant_states tenant).quota looked.config.pool (file_kept file_pass) (state.tenant_states tenant).file) its holds.0.tells;
        gave = load.stood.gave file_pass.tenant there;
        all = load.stood.seen file_pass.tenant there;
        contents = subst (λ (tenant : ℕ). (file_kept file_pass).contents ≡ put_sealed (words_given looked tenant) (seen_at looked.seen tenant)) its words.0;
      }

  pub so_with : (config : Config) (given : List TenantStart) → view.config ≡ config → view.openings ≡ given → WentOn [] (takes_files view file_pass.seat.me.0) looked
      → IsSoOfWorld config given file_pass.seat.me.0.known_run file_pass.tenant (file_kept file_pass)
  so_with config given same also went =
      let known = file_pass.seat.me.0.known_run in
      let holds = subst (Each (HoldsFile view.config went.state)) took_is went.knew.files in
      let so : IsSoOfWorld view.config view.openings known (file_kept file_pass).tenant (file_kept file_pass) = record {
        openings = went.openings;
        before = went.before;
        events = went.events;
        state = went.state;
        played = went.played;
        goes_on = went.follows.told;
        gave = went.knew.gave;
        there = holds.0.there;
        tells = holds.0.tells;
      } in
      subst (λ (c : Config). IsSoOfWorld c given known file_pass.tenant (file_kept file_pass)) same
      (subst (λ (all : List TenantStart). IsSoOfWorld view.config all known file_pass.tenant (file_kept file_pass)) also
      (subst (λ (n : ℕ). IsSoOfWorld view.config view.openings known n (file_kept file_pass)) (file_pass_its file_pass) so))
