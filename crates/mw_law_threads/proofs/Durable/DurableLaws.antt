-- A crash leaves of a tenant's file the words of the latest start with whole changes put over them. That of a YES is one of
-- these; any other is there wholly or not at all.
-- Used by: src/durable_laws.rt.
use Rattle.std.specs.Prelude.{ℕ, zero, suc, ◌≡◌, ◌<◌, ◌++◌, List, [], ◌∷◌, length, map, slice_get, Option, Some, None}
use Rattle.std.proofs.Common.{refl, sym, ap, subst, ◌∙◌, inl, inr, append_assoc}
use Rattle.std.proofs.lemmas.List.{ext_get_or}
use Rattle.std.proofs.lemmas.Option.{none-some}
use Rattle.atomic_table.specs.Table.{State as Table}
use Rattle.mw_actor.specs.ActorState.{ActorState}
use mathlib.Core.Option.{some}
use lib.ListN.{get_elem?}
use Rattle.mw_words.specs.declared.jobs.Entry.{Entry}
use Rattle.mw_words.specs.declared.jobs.Job.{Job}
use Rattle.mw_words.specs.declared.replies.Reply.{Reply}
use Rattle.mw_words.specs.declared.replies.Reply.TheVariants.{Yes as SaysYes}
use Rattle.mw_lone.specs.Store.{entries_of}
use Rattle.mw_look.specs.declared.steps.Call.{Call}
use Rattle.mw_look.specs.declared.steps.Call.TheVariants.{Prepare as PrepareCall, Seal as SealCall, Settle as SettleCall, Cancel as CancelCall}
use Rattle.mw_disk.specs.Facts.{Facts}
use Rattle.mw_record.specs.Layout.{pairs_of}
use Rattle.mw_file.specs.declared.tenant_file.TenantFile.{TenantFile}
use Rattle.mw_file.specs.File.{disk_of, states_of}
use Rattle.mw_file.specs.RecoveryInvariant.{IsBeforeOrAfter}
use Rattle.mw_world.specs.declared.config.Config.{Config}
use Rattle.mw_world.specs.Claim.Headline.{IsExecution}
use Rattle.mw_world.specs.Definition.Calls.{Called as CallOn}
use Rattle.mw_world.specs.Definition.Events.{WorldEvent}
use Rattle.mw_world.specs.Definition.State.{State, TenantStart, tenants_of}
use Rattle.mw_law_store.specs.History.{IsNoStart}
use Rattle.mw_law_threads.specs.Whole.WholeChanges.{IsAskedChange, IsAskedFor, IsWholeChange}
use Rattle.mw_law_threads.proofs.Whole.WholeChangeLaws.{requests_ask_for_one_change, sealed_changes_are_whole}
use Rattle.mw_rule.specs.Calls.CallsByToken.{file_token_by}
use Rattle.mw_rule.specs.Calls.FileTokens.{file_token_filed}
use Rattle.mw_rule.specs.FromLaws.{AreNoStarts, IsBeginning, SealedChange, put_sealed, sealed_of}
use Rattle.mw_rule.proofs.FromLaws.{sealed_are_right}
use Rattle.mw_rule.specs.KnownRuns.{KnownRun, ExtendsKnownRun, known_run_of}
use Rattle.mw_rule.specs.Prefixes.{opening_at, seen_at}
use Rattle.mw_rule.specs.Rule.{AreRight, Each, Fits, HoldsFile, IsFinished, IsLive, IsSpent, TableInvariant, words_given}
use Rattle.mw_rule.specs.Splits.{without_file}
use Rattle.mw_rule.specs.Steps.{ExtendsView, finished_as}
use Rattle.mw_rule.specs.declared.views.FoundStatus.{FoundStatus}
use Rattle.mw_rule.specs.declared.views.HeldFile.{HeldFile}
use Rattle.mw_rule.specs.declared.views.View.{View}
use Rattle.mw_rule.proofs.KnownRunLaws.{on_again, stays}
use Rattle.mw_rule.proofs.WholeCallLaws.{keeps_on, keeps_so}
use Rattle.mw_rule.proofs.WorkerStretches.{no_starts_on}
use Rattle.mw_table.specs.HeldFiles.{file_among, tenant_held}
use Rattle.mw_book.specs.declared.book.Book.{Book}
use Rattle.mw_book.specs.declared.waiting.Waiting.{Waiting}
use Rattle.mw_book.specs.Crashes.{LeavesEither}
use Rattle.mw_book.specs.OpenFile.{FileRecoversTo, OnDisk, disk_in}
use Rattle.mw_book.proofs.RepresentedFiles.{leaves_either, untouched}
use Rattle.mw_core.specs.FromTable.{FileToken, Pass, file_kept}
use Rattle.mw_table.specs.FromRule.{End, FindsFault, GoesWell, MeetsFault, Skips}
use Rattle.mw_core.specs.FileCalls.{FilesOnce, event_of, held_as, stake_by}
use Rattle.mw_core.proofs.FromTable.{each_last}
use Rattle.mw_engine.specs.FromBelow.{HeldIsOnlyRead, IsOnlyRead}
use Rattle.mw_engine.specs.History.{IsAnswered}
use Rattle.mw_engine.proofs.AgreementForms.{agrees_of}
use Rattle.mw_law_threads.specs.Durable.CrashMoments.{AfterTheEvent, AtRest, BeforeDeviceCalls, BeforeTheEvent, CrashMoment, InACopy, IsAtRest, IsHeld, first_disk, last_disk, stake_at, token_at}
use Rattle.mw_law_threads.specs.Durable.Durable.{AreSealed, AreSealedIn, CallsKeepChanges, CallsLeaveWholeChanges, CallsLeaveWhollyOrNot, LeavesChangeOfRun, LeavesChangesOfRun, LeavesWholeChanges, LeavesWhollyOrNot, LeavesWhollyOrNotInRun, LeavesWithChange, at_stake_in, MomentsLeaveWholeChanges}
use Rattle.mw_law_threads.proofs.Durable.AskedRequests.{request_asked}
use Rattle.mw_law_threads.proofs.Durable.Stakes.{doubt_is_asked, doubt_is_pending, stake_is_asked}
use Rattle.mw_law_threads.proofs.History.KnownMoments.{now_config, same_config, seen_first, table_run}
use Rattle.mw_law_threads.specs.History.AnswersInOneRun.{IsKnownAt}

-- Prefixes.

pub prefix_on : (first between last : List SealedChange) → IsBeginning first between → IsBeginning between last → IsBeginning first last
prefix_on first between last one two = record {
  rest = one.rest ++ two.rest;
  parted = two.parted ∙ (ap (λ (all : List SealedChange). all ++ two.rest) one.parted ∙ append_assoc first one.rest two.rest);
}

got_append : (ones more : List SealedChange) (place : ℕ) (one : SealedChange) → slice_get ones place ≡ Some one → slice_get (ones ++ more) place ≡ Some one
got_append [] more place one is = absurd (none-some one is)
got_append (x ∷ ones) more zero one is = is
got_append (x ∷ ones) more (suc place) one is = got_append ones more place one is

-- a change that was seen is at the same place among all
pub got_on : (first all : List SealedChange) (place : ℕ) (one : SealedChange) → IsBeginning first all → slice_get first place ≡ Some one → slice_get all place ≡ Some one
got_on first all place one begins at = ap (λ (ones : List SealedChange). slice_get ones place) begins.parted ∙ got_append first begins.rest place one at

-- What a view that fits a run knows of a tenant's sealed changes.
module _ (config : Config) (openings : ℕ → TenantStart) (before events : List WorldEvent) (state : State) (view : View) (tenant : ℕ) (played : IsExecution config openings (before ++ events) state)
    (known : ExtendsKnownRun view.known_run (Some (known_run_of config openings before events))) (fits : Fits config openings state events view) (there : tenant < tenants_of config) where
  unfoldable pub sealed_of_view : (more : List Entry) → AreNoStarts events → IsAskedChange state tenant more → AreSealed view tenant more (sealed_of openings state tenant)
  sealed_of_view more none stake =
      let right = sealed_are_right config openings (before ++ events) state tenant played there in
      record {
        openings = openings;
        before = before;
        events = events;
        state = state;
        played = subst (λ (one : Config). IsExecution one openings (before ++ events) state) (sym fits.same_config) played;
        no_starts = none;
        goes_on = subst (λ (one : Config). ExtendsKnownRun view.known_run (Some (known_run_of one openings before events))) (sym fits.same_config) known;
        gave = fits.gave tenant there;
        are = λ i. sealed_of openings state tenant;
        first = fits.seen tenant there;
        right = subst (λ (words : List ℕ). AreRight words (sealed_of openings state tenant)) (fits.gave tenant there).words (record { fit = right.fit; once = right.once });
        asked = sealed_changes_are_whole config openings (before ++ events) state tenant played there;
        wholly = λ request place entries one its at same. requests_ask_for_one_change config openings (before ++ events) state tenant request one.entries entries played there
            (subst (λ (n : ℕ). IsAskedFor state tenant n one.entries) same (sealed_changes_are_whole config openings (before ++ events) state tenant played there place one at)) its;
        at_stake = stake;
      }

  pub contents_by : (state.tenant_states tenant).file.contents ≡ put_sealed (words_given view tenant) (sealed_of openings state tenant)
  contents_by =
      let right = sealed_are_right config openings (before ++ events) state tenant played there in
      sym right.all ∙ ap (λ (words : List ℕ). put_sealed words (sealed_of openings state tenant)) (fits.gave tenant there).words

-- what a later view knows of the sealed changes, an earlier one does
sealed_for : (old new : View) (tenant : ℕ) (more : List Entry) (sealed : List SealedChange) → ExtendsView old new → tenant < tenants_of old.config → AreSealed new tenant more sealed → AreSealed old tenant more sealed
sealed_for old new tenant more sealed goes there are =
    subst (λ (given : List TenantStart). AreSealedIn old.config given old.known_run (seen_at old.seen tenant) tenant more sealed) goes.same_openings
    (subst (λ (one : Config). AreSealedIn one new.openings old.known_run (seen_at old.seen tenant) tenant more sealed) goes.same_config (record {
      openings = are.openings;
      before = are.before;
      events = are.events;
      state = are.state;
      played = are.played;
      no_starts = are.no_starts;
      goes_on = on_again old.known_run new.known_run (Some (known_run_of new.config are.openings are.before are.events)) goes.known_run are.goes_on;
      gave = are.gave;
      are = are.are;
      first = prefix_on (seen_at old.seen tenant) (seen_at new.seen tenant) sealed (goes.seen tenant there) are.first;
      right = are.right;
      asked = are.asked;
      wholly = are.wholly;
      at_stake = are.at_stake;
    }))

-- the tenant of a request that was answered is one of the world's
pub tenant_of : (first now : View) (tenant : ℕ) (job : Job) (reply : Reply) → IsAnswered first now tenant job reply → tenant < tenants_of now.config
tenant_of first now tenant job reply answered =
    (each_last (IsFinished now) first.mine (finished_as answered.token tenant job reply answered.answered.place) (subst (Each (IsFinished now)) answered.answered.noted answered.right.mine)).there

-- The one file of a view.
record OfOne (files : List HeldFile) : Type 0 where
  found : Option FoundStatus
  only : files ≡ held_as (file_among files) found ∷ []

of_one : (files : List HeldFile) (tenant : ℕ) → map tenant_held files ≡ tenant ∷ [] → OfOne files
of_one [] tenant its = absurd (cc)
of_one (held ∷ []) tenant its = record { found = held.found; only = refl }
of_one (held ∷ more ∷ rest) tenant its = absurd (cc)

same_tenant : (files : List HeldFile) (tenant : ℕ) → map tenant_held files ≡ tenant ∷ [] → (file_among files).tenant ≡ tenant
same_tenant [] tenant its = absurd (cc)
same_tenant (held ∷ rest) tenant its = cc

-- a call on a file is no start
no_start : (worker : ℕ) (end : End) → IsNoStart (event_of worker end)
no_start worker GoesWell = tt
no_start worker (MeetsFault number) = tt
no_start worker Skips = tt
no_start worker FindsFault = tt

-- a call leaves the token its tenant
filed_tenant : (call : Call) (token : FileToken) (slot place : ℕ) (entries : List Entry) → (file_token_filed call token slot place entries).tenant ≡ token.tenant
filed_tenant PrepareCall token slot place entries = refl
filed_tenant SealCall token slot place entries = refl
filed_tenant SettleCall token slot place entries = refl
filed_tenant CancelCall token slot place entries = refl

called_tenant : (end : End) (token : FileToken) (actor : ActorState) (called : CallOn) → (file_token_by end token actor called).tenant ≡ token.tenant
called_tenant GoesWell token actor called = filed_tenant called.call token _ _ _
called_tenant (MeetsFault number) token actor called = refl
called_tenant Skips token actor called = refl
called_tenant FindsFault token actor called = refl

module _ {D : Type 0} (facts : D → Facts) where
  calls_whole : CallsLeaveWholeChanges facts
  calls_whole identity old new actor next files = (during, after)
    where
      token : FileToken
      token = file_kept files.file_pass

      kept : FileToken
      kept = file_kept files.returned

      now : View
      now = old.seat.me.0

      during_at : LeavesWholeChanges facts now token.tenant (at_stake_in facts files) (disk_in files.before.held) (disk_in files.after.held)
      during_at =
          let event = files.once.event.event in
          let went = event.went_on in
          let view = event.with_file in
          let holds = subst (Each (HoldsFile view.config went.state)) event.has went.knew.files in
          let there = holds.0.there in
          let sealed = sealed_of went.openings went.state token.tenant in
          let stake = stake_is_asked view.config went.openings (went.before ++ went.events) went.state token.tenant went.played there (went.state.tenant_states token.tenant).quota view.config.pool token holds.0.tells files.once.end files.once.called in
          let are = sealed_of_view view.config went.openings went.before went.events went.state view token.tenant went.played went.follows.known went.knew there (at_stake_in facts files) went.no_starts stake in
          let words = contents_by view.config went.openings went.before went.events went.state view token.tenant went.played went.follows.known went.knew there in
          let same = sym holds.0.tells.contents ∙ (words ∙ ap (λ (given : List TenantStart). put_sealed (opening_at given token.tenant).words sealed) event.keeps.same_openings) in
          record {
            sealed = sealed;
            are = sealed_for now view token.tenant (at_stake_in facts files) sealed event.keeps (subst (λ (one : Config). token.tenant < tenants_of one) event.keeps.same_config there) are;
            leaves = subst (λ (ones : List ℕ). OnDisk facts (LeavesEither ones (stake_by files.once.end files.once.called token)) (disk_in files.before.held) (disk_in files.after.held)) same files.once.safe;
          }

      during : LeavesWholeChanges facts now actor.tenant (at_stake_in facts files) (disk_in files.before.held) (disk_in files.after.held)
      during = subst (λ (n : ℕ). LeavesWholeChanges facts now n (at_stake_in facts files) (disk_in files.before.held) (disk_in files.after.held)) files.once.its during_at

      rests : OnDisk facts (LeavesEither kept.contents kept.doubt) (disk_in files.after.held) (disk_in files.after.held)
      rests = untouched facts files.after.held kept.contents kept.doubt files.once.agrees.shows.stands

      after_at : LeavesWholeChanges facts (without_file files.once.event.last) kept.tenant kept.doubt (disk_in files.after.held) (disk_in files.after.held)
      after_at =
          let last = files.once.event.last in
          let went = files.once.event.event.went_on in
          let config = files.once.event.event.with_file.config in
          let holds = subst (Each (HoldsFile config went.next)) files.once.event.has went.knows.files in
          let there = holds.0.there in
          let known = subst (λ (one : Option KnownRun). ExtendsKnownRun last.known_run one) went.known_run (stays last.known_run) in
          let more = event_of old.worker files.once.end ∷ [] in
          let stake = doubt_is_asked config went.openings (went.before ++ (went.events ++ more)) went.next kept.tenant went.goes_on there (went.next.tenant_states kept.tenant).quota config.pool kept holds.0.tells in
          let none = no_starts_on went.events more went.no_starts (no_start old.worker files.once.end, tt) in
          let are = sealed_of_view config went.openings went.before (went.events ++ more) went.next last kept.tenant went.goes_on known went.knows there kept.doubt none stake in
          let words = contents_by config went.openings went.before (went.events ++ more) went.next last kept.tenant went.goes_on known went.knows there in
          let same = sym holds.0.tells.contents ∙ words in
          record {
            sealed = sealed_of went.openings went.next kept.tenant;
            are = are;
            leaves = subst (λ (ones : List ℕ). OnDisk facts (LeavesEither ones kept.doubt) (disk_in files.after.held) (disk_in files.after.held)) same rests;
          }

      its_still : kept.tenant ≡ actor.tenant
      its_still = same_tenant files.returned.seat.me.0.files files.returned.tenant files.returned.its ∙ files.its_still

      after : LeavesWholeChanges facts new.seat.me.0 actor.tenant kept.doubt (disk_in files.after.held) (disk_in files.after.held)
      after = subst (λ (one : View). LeavesWholeChanges facts one actor.tenant kept.doubt (disk_in files.after.held) (disk_in files.after.held)) (sym files.once.event.left)
          (subst (λ (n : ℕ). LeavesWholeChanges facts (without_file files.once.event.last) n kept.doubt (disk_in files.after.held) (disk_in files.after.held)) its_still after_at)

  pub calls_leave_whole_changes : CallsLeaveWholeChanges facts
  calls_leave_whole_changes = calls_whole

  -- a change that was answered YES is among the sealed ones
  with_change : (first now view : View) (tenant : ℕ) (job : Job) (more : List Entry) (old new : Option D) (answered : IsAnswered first now tenant job SaysYes)
      → (whole : LeavesWholeChanges facts view tenant more old new) → IsBeginning (seen_at now.seen tenant) whole.sealed
      → LeavesWithChange facts view tenant answered.token.request (entries_of job) answered.answered.place more old new
  with_change first now view tenant job more old new answered whole seen = record {
    whole = whole;
    has = got_on (seen_at now.seen tenant) whole.sealed answered.answered.place _ seen answered.answered.right;
  }

  -- while a file is only read, a crash leaves what it left before
  only_read : (old new : Option (TenantFile D)) (words : List ℕ) (doubt : List Entry) → HeldIsOnlyRead facts old new → FileRecoversTo facts old words (pairs_of doubt)
      → OnDisk facts (LeavesEither words doubt) (disk_in old) (disk_in new)
  only_read None None words doubt read stands = tt
  only_read None (Some now) words doubt read stands = absurd read
  only_read (Some held) None words doubt read stands = absurd read
  only_read (Some held) (Some now) words doubt read stands = λ honest.
      let touched = read.touched honest in
      leaves_either (facts (disk_of held)) (facts (disk_of now)) (length (states_of held)) words doubt (record {
        later = touched.later;
        each = λ image left.
            let before = touched.each left.0 image left.1 left.2 left.3 in
            let same : image ≡ before.0 = ext_get_or 0 image before.0 before.2.size (λ k low. before.2.outside k (λ nowhere. nowhere)) in
            subst (IsBeforeOrAfter (length (states_of held)) words (pairs_of doubt)) (sym same) ((stands honest).left before.0 before.1);
      })

  -- At a moment of the table at which one thread has this token.
  module _ (config : Config) (begun : (ℕ → TenantStart) → List WorldEvent → Type 0) (s : Table ActorState View) (id : ℕ) (view : View) (tied : TableInvariant config begun s)
      (at : get_elem? s.views id ≡ some view) (live : IsLive view) (token : FileToken) (held : IsHeld s token) where
    never : (one : View) → IsSpent one → IsLive one → ⊥
    never one spent (inl alive) = let e = spent.flag in cc
    never one spent (inr (first, rest, are)) = let e = spent.no_tokens in cc

    -- what the rule ties to the model
    pub so : HoldsFile config tied.state (held_as token held.found)
    so = elim (tied.fits held.id held.view held.at) [
      | inl spent ↦ absurd (never held.view spent held.live)
      | inr has ↦ (subst (Each (HoldsFile config tied.state)) held.has has.files).0
    ]

    pub of_view : Fits config tied.past.openings tied.state tied.events view
    of_view = elim (tied.fits id view at) [ inl spent ↦ absurd (never view spent live) | inr fits ↦ fits ]

    -- whatever leaves the words that the token tells, or these with one change more, leaves whole changes
    whole_at : (tenant : ℕ) → token.tenant ≡ tenant → (more : List Entry) (first last : Option D) → IsAskedChange tied.state token.tenant more → OnDisk facts (LeavesEither token.contents more) first last
        → LeavesChangesOfRun facts config begun tied view tenant more first last
    unfolding sealed_of_view
    whole_at tenant its more first last stake leaves =
        let past = tied.past in
        let known = (tied.known id view at).known in
        let words = contents_by config past.openings past.before tied.events tied.state view token.tenant past.played known of_view so.there in
        let here : LeavesWholeChanges facts view token.tenant more first last = record {
          sealed = sealed_of past.openings tied.state token.tenant;
          are = sealed_of_view config past.openings past.before tied.events tied.state view token.tenant past.played known of_view so.there more past.no_starts stake;
          leaves = subst (λ (ones : List ℕ). OnDisk facts (LeavesEither ones more) first last) (sym so.tells.contents ∙ words) leaves;
        } in
        subst (λ (n : ℕ). LeavesChangesOfRun facts config begun tied view n more first last) its (here, (refl, refl, refl, refl))

    pending : (tenant : ℕ) → token.tenant ≡ tenant → IsWholeChange tied.past.openings tied.state tenant token.doubt
    pending tenant its = subst (λ (n : ℕ). IsWholeChange tied.past.openings tied.state n token.doubt) its
        (doubt_is_pending config tied.past.openings (tied.past.before ++ tied.events) tied.state token.tenant tied.past.played so.there (tied.state.tenant_states token.tenant).quota config.pool token so.tells)

    abbrev WholeAt : ℕ → List Entry → Option D → Option D → Type 0
    WholeAt tenant more first last = LeavesChangesOfRun facts config begun tied view tenant more first last × IsWholeChange tied.past.openings tied.state tenant token.doubt

    -- with the change in doubt at stake
    doubtful : (tenant : ℕ) → token.tenant ≡ tenant → (first last : Option D) → OnDisk facts (LeavesEither token.contents token.doubt) first last → WholeAt tenant token.doubt first last
    doubtful tenant its first last leaves = (
      whole_at tenant its token.doubt first last
          (doubt_is_asked config tied.past.openings (tied.past.before ++ tied.events) tied.state token.tenant tied.past.played so.there (tied.state.tenant_states token.tenant).quota config.pool token so.tells)
          leaves,
      pending tenant its,
    )

    in_doubt : (tenant : ℕ) → token.tenant ≡ tenant → (book : Book D) → FileRecoversTo facts book.held token.contents (pairs_of token.doubt) → WholeAt tenant token.doubt (disk_in book.held) (disk_in book.held)
    in_doubt tenant its book stands = doubtful tenant its (disk_in book.held) (disk_in book.held) (untouched facts book.held token.contents token.doubt stands)

    -- also in a copy
    in_a_copy : (tenant : ℕ) → token.tenant ≡ tenant → (book after : Book D) → IsOnlyRead facts book after → FileRecoversTo facts book.held token.contents (pairs_of token.doubt)
        → WholeAt tenant token.doubt (disk_in book.held) (disk_in after.held)
    in_a_copy tenant its book after read stands = doubtful tenant its (disk_in book.held) (disk_in after.held) (only_read book.held after.held token.contents token.doubt read.held stands)

    -- with the one of a call
    in_a_call : (tenant : ℕ) → token.tenant ≡ tenant → (before after : Book D) (old new : Pass) (actor next : ActorState) (kept : FileToken) (waiting : List Waiting) (once : FilesOnce facts waiting old new actor next before after token kept)
        → WholeAt tenant (stake_by once.end once.called token) (disk_in before.held) (disk_in after.held)
    in_a_call tenant its before after old new actor next kept waiting once = (
      whole_at tenant its (stake_by once.end once.called token) (disk_in before.held) (disk_in after.held)
          (stake_is_asked config tied.past.openings (tied.past.before ++ tied.events) tied.state token.tenant tied.past.played so.there (tied.state.tenant_states token.tenant).quota config.pool token so.tells once.end once.called)
          once.safe,
      pending tenant its,
    )

  -- the thread of the file pass has the token
  held_at_rest : (s : Table ActorState View) (tenant : ℕ) (rest : IsAtRest facts s tenant) → IsHeld s (file_kept rest.file_pass)
  held_at_rest s tenant rest =
      let one = of_one rest.file_pass.seat.me.0.files rest.file_pass.tenant rest.file_pass.its in
      record { id = rest.id; view = rest.file_pass.seat.me.0; at = rest.at; live = inl rest.file_pass.live; found = one.found; has = one.only }

  module _ {s : Table ActorState View} {tenant : ℕ} where
    -- the thread that has the token at the moment of a crash
    pub held_at : (crash : CrashMoment facts s tenant) → IsHeld s (token_at facts crash)
    held_at (AtRest rest) = held_at_rest s tenant rest
    held_at (BeforeDeviceCalls call held) = held
    held_at (BeforeTheEvent call held) = held
    held_at (AfterTheEvent call held) = held
    held_at (InACopy rest after read) = held_at_rest s tenant rest

    -- which is the tenant's
    pub its_tenant : (crash : CrashMoment facts s tenant) → (token_at facts crash).tenant ≡ tenant
    its_tenant (AtRest rest) = same_tenant rest.file_pass.seat.me.0.files rest.file_pass.tenant rest.file_pass.its ∙ rest.its
    its_tenant (InACopy rest after read) = same_tenant rest.file_pass.seat.me.0.files rest.file_pass.tenant rest.file_pass.its ∙ rest.its
    its_tenant (BeforeDeviceCalls call held) = call.once.its ∙ call.its
    its_tenant (BeforeTheEvent call held) = call.once.its ∙ call.its
    its_tenant (AfterTheEvent call held) = ap (λ (one : FileToken). one.tenant) call.once.kept_is ∙ (called_tenant call.once.end call.token call.actor call.once.called ∙ (call.once.its ∙ call.its))

  pub moments_leave_whole_changes : (config : Config) (begun : (ℕ → TenantStart) → List WorldEvent → Type 0) → MomentsLeaveWholeChanges facts config begun
  moments_leave_whole_changes config begun s id tenant view tied (AtRest rest) at live =
      in_doubt config begun s id view tied at live (file_kept rest.file_pass) (held_at_rest s tenant rest) tenant (its_tenant {s = s} (AtRest rest)) rest.book
      (agrees_of facts rest.book (file_kept rest.file_pass) (opening_at rest.identity.openings rest.file_pass.tenant).quota rest.identity.config.pool rest.kept.agrees).shows.stands
  moments_leave_whole_changes config begun s id tenant view tied (BeforeDeviceCalls call held) at live =
      in_doubt config begun s id view tied at live call.token held tenant (its_tenant (BeforeDeviceCalls call held)) call.before call.once.agreed.shows.stands
  moments_leave_whole_changes config begun s id tenant view tied (BeforeTheEvent call held) at live =
      in_a_call config begun s id view tied at live call.token held tenant (its_tenant (BeforeTheEvent call held)) call.before call.after call.old call.new call.actor call.next call.kept call.waiting call.once
  moments_leave_whole_changes config begun s id tenant view tied (AfterTheEvent call held) at live =
      in_doubt config begun s id view tied at live call.kept held tenant (its_tenant (AfterTheEvent call held)) call.after call.once.agrees.shows.stands
  moments_leave_whole_changes config begun s id tenant view tied (InACopy rest after read) at live =
      in_a_copy config begun s id view tied at live (file_kept rest.file_pass) (held_at_rest s tenant rest) tenant (its_tenant {s = s} (InACopy rest after read)) rest.book after read
      (agrees_of facts rest.book (file_kept rest.file_pass) (opening_at rest.identity.openings rest.file_pass.tenant).quota rest.identity.config.pool rest.kept.agrees).shows.stands

  pub calls_keep_changes : CallsKeepChanges facts
  calls_keep_changes identity first now job old new actor next answered goes files =
      let whole = calls_whole identity old new actor next files in
      let before = goes.seen actor.tenant low in
      let learned = files.once.filed.files.goes_on.seen actor.tenant (subst (λ (one : Config). actor.tenant < tenants_of one) (sym goes.same_config) low) in (
        with_change first now old.seat.me.0 actor.tenant job (at_stake_in facts files) (disk_in files.before.held) (disk_in files.after.held) answered whole.0
            (prefix_on (seen_at now.seen actor.tenant) (seen_at old.seat.me.0.seen actor.tenant) whole.0.sealed before whole.0.are.first),
        with_change first now new.seat.me.0 actor.tenant job (file_kept files.returned).doubt (disk_in files.after.held) (disk_in files.after.held) answered whole.1
            (prefix_on (seen_at now.seen actor.tenant) (seen_at new.seat.me.0.seen actor.tenant) whole.1.sealed
            (prefix_on (seen_at now.seen actor.tenant) (seen_at old.seat.me.0.seen actor.tenant) (seen_at new.seat.me.0.seen actor.tenant) before learned) whole.1.are.first),
      )
    where
      low : actor.tenant < tenants_of now.config
      low = tenant_of first now actor.tenant job SaysYes answered

  -- What is known at the moment of a crash is the beginning of the changes, and of the run, that the crash leaves.
  module _ (config : Config) (begun : (ℕ → TenantStart) → List WorldEvent → Type 0) (s : Table ActorState View) (tied : TableInvariant config begun s) (now : View) (known : IsKnownAt s now)
      (tenant : ℕ) (more : List Entry) (old new : Option D) (left : LeavesChangesOfRun facts config begun tied known.view tenant more old new) where
    first_left : tenant < tenants_of now.config → IsBeginning (seen_at now.seen tenant) left.0.sealed
    first_left low =
        let openings = sym left.1.0 in
        let state = sym left.1.3 in
        let same : sealed_of tied.past.openings tied.state tenant ≡ sealed_of left.0.are.openings left.0.are.state tenant = λ i. sealed_of (openings i) (state i) tenant in
        subst (IsBeginning (seen_at now.seen tenant)) (same ∙ left.0.are.are) (seen_first config begun s tied now known tenant low)

    run_left : ExtendsKnownRun now.known_run (Some (known_run_of known.view.config left.0.are.openings left.0.are.before left.0.are.events))
    run_left =
        let its = sym (same_config config begun s tied now known ∙ now_config config begun s tied now known) in
        let openings = sym left.1.0 in
        let before = sym left.1.1 in
        let events = sym left.1.2 in
        let same : known_run_of config tied.past.openings tied.past.before tied.events ≡ known_run_of known.view.config left.0.are.openings left.0.are.before left.0.are.events =
        λ i. known_run_of (its i) (openings i) (before i) (events i) in
        subst (λ (one : KnownRun). ExtendsKnownRun now.known_run (Some one)) same (table_run config begun s tied now known)

  -- If a thread knows by then that a pass was answered YES for that tenant, the change is among the words.
  pub moments_keep_changes : (config : Config) (begun : (ℕ → TenantStart) → List WorldEvent → Type 0) (s : Table ActorState View) (tenant : ℕ) (first now : View) (job : Job)
      (tied : TableInvariant config begun s) (crash : CrashMoment facts s tenant) (known : IsKnownAt s now) (answered : IsAnswered first now tenant job SaysYes)
      → LeavesChangeOfRun facts config begun tied known.view tenant answered.token.request (entries_of job) answered.answered.place (stake_at facts crash) (first_disk facts crash) (last_disk facts crash)
  unfolding with_change
  moments_keep_changes config begun s tenant first now job tied crash known answered =
      let left = (moments_leave_whole_changes config begun s known.id tenant known.view tied crash known.at known.live).0 in
      let seen = first_left config begun s tied now known tenant (stake_at facts crash) (first_disk facts crash) (last_disk facts crash) left (tenant_of first now tenant job SaysYes answered) in
      (with_change first now known.view tenant job (stake_at facts crash) (first_disk facts crash) (last_disk facts crash) answered left.0 seen, left.1)

  -- the change of a request that was answered is among whole changes wholly or not at all
  wholly : (first now view : View) (tenant : ℕ) (job : Job) (reply : Reply) (more : List Entry) (old new : Option D) (answered : IsAnswered first now tenant job reply) → view.config ≡ now.config
      → (whole : LeavesWholeChanges facts view tenant more old new) → ExtendsKnownRun now.known_run (Some (known_run_of view.config whole.are.openings whole.are.before whole.are.events))
      → LeavesWhollyOrNot facts view tenant answered.token.request (entries_of job) more old new
  wholly first now view tenant job reply more old new answered its whole known = record {
    whole = whole;
    asked = asked;
    sealed_wholly = λ place one at same. are.wholly answered.token.request place (entries_of job) one asked at same;
    at_stake_wholly = elim are.at_stake [
      | inl none ↦ inl none
      | inr owned ↦ inr (owned.0, owned.1, λ same. once owned.0 same owned.1)
    ];
  }
    where
      are : AreSealed view tenant more whole.sealed
      are = whole.are

      low : tenant < tenants_of view.config
      low = subst (λ (one : Config). tenant < tenants_of one) (sym its) (tenant_of first now tenant job reply answered)

      asked : IsAskedFor are.state tenant answered.token.request (entries_of job)
      asked = request_asked view.config are.openings are.before are.events are.state are.played are.no_starts first now known answered.token.worker tenant answered.token.request job low answered.run.arrival

      once : (owner : ℕ) → owner ≡ answered.token.request → IsAskedFor are.state tenant owner more → more ≡ entries_of job
      once owner same its = requests_ask_for_one_change view.config are.openings (are.before ++ are.events) are.state tenant answered.token.request more (entries_of job) are.played low
          (subst (λ (n : ℕ). IsAskedFor are.state tenant n more) same its) asked

  -- the same by a view that goes on from what was known
  wholly_then : (first now view : View) (tenant : ℕ) (job : Job) (reply : Reply) (more : List Entry) (old new : Option D) (answered : IsAnswered first now tenant job reply) → ExtendsView now view
      → LeavesWholeChanges facts view tenant more old new → LeavesWhollyOrNot facts view tenant answered.token.request (entries_of job) more old new
  wholly_then first now view tenant job reply more old new answered goes whole =
      wholly first now view tenant job reply more old new answered goes.same_config whole
      (on_again now.known_run view.known_run (Some (known_run_of view.config whole.are.openings whole.are.before whole.are.events)) goes.known_run whole.are.goes_on)

  pub calls_leave_wholly_or_not : CallsLeaveWhollyOrNot facts
  calls_leave_wholly_or_not identity first now job reply old new actor next answered goes files =
      let whole = calls_whole identity old new actor next files in (
        wholly_then first now old.seat.me.0 actor.tenant job reply (at_stake_in facts files) (disk_in files.before.held) (disk_in files.after.held) answered goes whole.0,
        wholly_then first now new.seat.me.0 actor.tenant job reply (file_kept files.returned).doubt (disk_in files.after.held) (disk_in files.after.held) answered
            (keeps_on now old.seat.me.0 new.seat.me.0 goes (keeps_so old.seat.me.0 new.seat.me.0 files.once.filed.files.goes_on)) whole.1,
      )

  -- If a thread knows by then that it was answered, with any reply, also FAULT, the change of that request is there wholly or not at all.
  pub moments_leave_wholly_or_not : (config : Config) (begun : (ℕ → TenantStart) → List WorldEvent → Type 0) (s : Table ActorState View) (tenant : ℕ) (first now : View) (job : Job) (reply : Reply)
      (tied : TableInvariant config begun s) (crash : CrashMoment facts s tenant) (known : IsKnownAt s now) (answered : IsAnswered first now tenant job reply)
      → LeavesWhollyOrNotInRun facts config begun tied known.view tenant answered.token.request (entries_of job) (stake_at facts crash) (first_disk facts crash) (last_disk facts crash)
  unfolding wholly
  moments_leave_wholly_or_not config begun s tenant first now job reply tied crash known answered =
      let left = (moments_leave_whole_changes config begun s known.id tenant known.view tied crash known.at known.live).0 in
      let run = run_left config begun s tied now known tenant (stake_at facts crash) (first_disk facts crash) (last_disk facts crash) left in
      (wholly first now known.view tenant job reply (stake_at facts crash) (first_disk facts crash) (last_disk facts crash) answered (same_config config begun s tied now known) left.0 run, left.1)
