-- What a call in a run leaves of a tenant's file is the words of the start with whole changes put over them.
-- Used by: locks_leave_whole_changes (src/durable_laws.rt).
use Rattle.std.specs.Prelude.{ℕ, ◌≡◌, ◌⊎◌, ◌++◌, List, [], ◌∷◌, Option, Some}
use Rattle.std.proofs.Common.{refl, sym, ap, subst, ◌∙◌, inl, inr}
use Rattle.std.proofs.Math.Logic.{∥∥₁_map}
use Rattle.mw_words.specs.Change.{put}
use Rattle.mw_disk.specs.Facts.{Facts}
use Rattle.mw_record.specs.Damages.{file_words}
use Rattle.mw_world.specs.declared.config.Config.{Config}
use Rattle.mw_world.specs.Definition.State.{TenantStart}
use Rattle.mw_rule.specs.FromLaws.{sealed_of}
use Rattle.mw_rule.specs.KnownRuns.{ExtendsKnownRun, KnownRun, known_run_of}
use Rattle.mw_rule.specs.Prefixes.{opening_at}
use Rattle.mw_rule.specs.Rule.{Each, HoldsFile}
use Rattle.mw_rule.specs.declared.views.View.{View}
use Rattle.mw_rule.proofs.KnownRunLaws.{on_again, on_with_more, stays}
use Rattle.mw_core.specs.FileCalls.{event_of, stake_by}
use Rattle.mw_engine.specs.Brand.{Identity}
use Rattle.mw_engine.specs.CallsSinceStart.{IsLeftByCall, IsLeftInRun}
use Rattle.mw_law_threads.specs.Durable.Locks.{HasChangesOfRun, LocksLeaveWholeChanges}
use Rattle.mw_law_threads.proofs.Durable.DurableLaws.{contents_by, sealed_of_view}
use Rattle.mw_law_threads.proofs.Durable.Stakes.{stake_is_asked}

module _ {D : Type 0} (facts : D → Facts) (identity : Identity) (view : View) (tenant : ℕ) where
  module _ (image : List ℕ) (left : IsLeftByCall facts identity view tenant image) where
    -- what the pass knew just before the call's event, and the run up to it
    by_call : HasChangesOfRun identity.config identity.openings view.known_run tenant image
    unfolding sealed_of_view
    by_call =
        let call = left.call in
        let token = left.token in
        let once = call.once in
        let event = once.event.event in
        let went = event.went_on in
        let knew = event.with_file in
        let holds = subst (Each (HoldsFile knew.config went.state)) event.has went.knew.files in
        let there = holds.0.there in
        let sealed = sealed_of went.openings went.state token.tenant in
        let more = stake_by once.end once.called token in
        let stake = stake_is_asked knew.config went.openings (went.before ++ went.events) went.state token.tenant went.played there (went.state.tenant_states token.tenant).quota knew.config.pool token holds.0.tells once.end once.called in
        let are = sealed_of_view knew.config went.openings went.before went.events went.state knew token.tenant went.played went.follows.known went.knew there more went.no_starts stake in
        let words = sym holds.0.tells.contents ∙ contents_by knew.config went.openings went.before went.events went.state knew token.tenant went.played went.follows.known went.knew there in
        let last = event_of call.old.worker once.end ∷ [] in
        let run : Option KnownRun = Some (known_run_of knew.config went.openings went.before went.events) in
        let known : call.new.seat.me.0.known_run ≡ Some (known_run_of knew.config went.openings went.before (went.events ++ last)) = ap (λ (one : View). one.known_run) once.event.left ∙ went.known_run in
        let until : ExtendsKnownRun run view.known_run =
        on_again run call.new.seat.me.0.known_run view.known_run
        (subst (λ (one : Option KnownRun). ExtendsKnownRun run one) (sym known) (on_with_more knew.config run went.openings went.before went.events last (stays run))) call.in_run in
        let here : HasChangesOfRun knew.config knew.openings view.known_run token.tenant image = record {
          sealed = sealed;
          more = more;
          are = record {
            openings = went.openings;
            before = went.before;
            events = went.events;
            state = went.state;
            played = went.played;
            no_starts = went.no_starts;
            goes_on = tt;
            gave = went.knew.gave token.tenant there;
            are = refl;
            first = record { rest = sealed; parted = refl };
            right = are.right;
            asked = are.asked;
            wholly = are.wholly;
            at_stake = stake;
          };
          began = until;
          words_are = subst (λ (ones : List ℕ). (file_words image ≡ Some ones) ⊎ (file_words image ≡ Some (put ones more))) words left.words_are;
        } in
        subst (λ (n : ℕ). HasChangesOfRun identity.config identity.openings view.known_run n image) (once.its ∙ call.its)
        (subst (λ (given : List TenantStart). HasChangesOfRun identity.config given view.known_run token.tenant image) (event.keeps.same_openings ∙ call.own.openings)
        (subst (λ (config : Config). HasChangesOfRun config knew.openings view.known_run token.tenant image) (event.keeps.same_config ∙ call.own.config) here))

  in_run : (image : List ℕ) → IsLeftInRun facts identity view tenant image → (file_words image ≡ Some (opening_at identity.openings tenant).words) ⊎ HasChangesOfRun identity.config identity.openings view.known_run tenant image
  in_run image (inl start) = inl start
  in_run image (inr left) = inr (by_call image left)

pub locks_leave_whole_changes : {D : Type 0} (facts : D → Facts) → LocksLeaveWholeChanges facts
locks_leave_whole_changes facts identity book file_pass kept start file at held honest moment image low high left =
    ∥∥₁_map ((kept.its_disk start file at held honest).left moment image low high left) (in_run facts identity file_pass.seat.me.0 file_pass.tenant image)
