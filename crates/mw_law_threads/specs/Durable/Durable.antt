-- Defines what a crash may leave of a tenant's file: words that come from whole changes, each just what one request asked
-- for. A change that was answered YES is one of these. One that was answered FAULT or nothing is there wholly or not at all.
-- Used by: src/durable_laws.rt.
use Rattle.std.specs.Prelude.{ℕ, ◌≡◌, ◌⊎◌, ◌++◌, List, [], slice_get, Option, Some}
use mathlib.Core.Option.{some}
use lib.ListN.{get_elem?}
use Rattle.atomic_table.specs.Table.{State as Table}
use Rattle.mw_words.specs.declared.jobs.Entry.{Entry}
use Rattle.mw_words.specs.declared.jobs.Job.{Job}
use Rattle.mw_words.specs.declared.replies.Reply.{Reply}
use Rattle.mw_words.specs.declared.replies.Reply.TheVariants.{Yes as SaysYes}
use Rattle.mw_lone.specs.Store.{entries_of}
use Rattle.mw_actor.specs.ActorState.{ActorState}
use Rattle.mw_disk.specs.Facts.{Facts}
use Rattle.mw_world.specs.declared.config.Config.{Config}
use Rattle.mw_world.specs.Claim.Headline.{IsExecution}
use Rattle.mw_world.specs.Definition.Events.{WorldEvent}
use Rattle.mw_world.specs.Definition.State.{State, TenantStart}
use Rattle.mw_law_threads.specs.Whole.WholeChanges.{IsAskedChange, IsAskedFor, IsWholeChange}
use Rattle.mw_rule.specs.FromLaws.{AreNoStarts, IsBeginning, SealedChange, put_sealed, sealed_of}
use Rattle.mw_rule.specs.KnownRuns.{KnownRun, ExtendsKnownRun, known_run_of}
use Rattle.mw_rule.specs.Prefixes.{Gave, opening_at, seen_at}
use Rattle.mw_rule.specs.Rule.{AreRight, IsLive, TableInvariant, words_given}
use Rattle.mw_rule.specs.Steps.{ExtendsView}
use Rattle.mw_rule.specs.declared.views.View.{View}
use Rattle.mw_book.specs.Crashes.{LeavesEither}
use Rattle.mw_book.specs.OpenFile.{OnDisk, disk_in}
use Rattle.mw_core.specs.FileCalls.{stake_by}
use Rattle.mw_core.specs.FromTable.{Pass, file_kept}
use Rattle.mw_engine.specs.Brand.{Identity}
use Rattle.mw_engine.specs.FileCalls.{FilesOne}
use Rattle.mw_engine.specs.History.{IsAnswered}
use Rattle.mw_law_threads.specs.Durable.CrashMoments.{CrashMoment, first_disk, last_disk, stake_at, token_at}

-- Exactly these changes of the tenant were sealed since the latest start, in this order, in one run of the world. The run goes on
-- from the known one. Its latest start gave the tenant what is known. The changes that were seen come first. Each change fits the
-- words after those before it, and no request has two. Each is just what its own request asked for, whoever asked. One change more is
-- at stake: it is empty, or just what one request asked for.
pub record AreSealedIn (config : Config) (given : List TenantStart) (known : Option KnownRun) (seen : List SealedChange) (tenant : ℕ) (more : List Entry) (sealed : List SealedChange) : Type 0 where
  pub openings : ℕ → TenantStart
  pub before : List WorldEvent
  pub events : List WorldEvent
  pub state : State
  pub played : IsExecution config openings (before ++ events) state
  pub no_starts : AreNoStarts events
  pub goes_on : ExtendsKnownRun known (Some (known_run_of config openings before events))
  pub gave : Gave openings state tenant (opening_at given tenant)
  pub are : sealed_of openings state tenant ≡ sealed
  pub first : IsBeginning seen sealed
  pub right : AreRight (opening_at given tenant).words sealed
  pub asked : (place : ℕ) (one : SealedChange) → slice_get sealed place ≡ Some one → IsAskedFor state tenant one.request one.entries
  pub wholly : (request place : ℕ) (entries : List Entry) (one : SealedChange) → IsAskedFor state tenant request entries → slice_get sealed place ≡ Some one → one.request ≡ request → one.entries ≡ entries
  pub at_stake : IsAskedChange state tenant more

-- The same by what a thread knows.
abbrev pub AreSealed : View → ℕ → List Entry → List SealedChange → Type 0
AreSealed view tenant more sealed = AreSealedIn view.config view.openings view.known_run (seen_at view.seen tenant) tenant more sealed

module _ {D : Type 0} (facts : D → Facts) where
  -- Of an honest disk, a crash at any moment between these two leaves a file of whole changes. Its words are those that the latest
  -- start gave the tenant, with all the sealed changes put over them, or these with this one more put over them.
  pub record LeavesWholeChanges (view : View) (tenant : ℕ) (more : List Entry) (old new : Option D) : Type 0 where
    pub sealed : List SealedChange
    pub are : AreSealed view tenant more sealed
    pub leaves : OnDisk facts (LeavesEither (put_sealed (words_given view tenant) sealed) more) old new

  -- A crash leaves whole changes, and the change of this request with these entries is the sealed one with this index, from 0.
  pub record LeavesWithChange (view : View) (tenant request : ℕ) (entries : List Entry) (place : ℕ) (more : List Entry) (old new : Option D) : Type 0 where
    pub whole : LeavesWholeChanges view tenant more old new
    pub has : slice_get whole.sealed place ≡ Some (record { request = request; entries = entries })

  -- A crash leaves whole changes, and this request asked for a change with just these entries. Whatever of it is there is the whole of
  -- it: a sealed change with its number has just these entries. So has the one at stake, if this request is its owner.
  pub record LeavesWhollyOrNot (view : View) (tenant request : ℕ) (entries : List Entry) (more : List Entry) (old new : Option D) : Type 0 where
    pub whole : LeavesWholeChanges view tenant more old new
    pub asked : IsAskedFor whole.are.state tenant request entries
    pub sealed_wholly : (place : ℕ) (one : SealedChange) → slice_get whole.sealed place ≡ Some one → one.request ≡ request → one.entries ≡ entries
    pub at_stake_wholly : (more ≡ []) ⊎ ((owner : ℕ) × IsAskedFor whole.are.state tenant owner more × (owner ≡ request → more ≡ entries))

  -- The change at stake in a call: the one that the call seals or, if it seals none, the one in doubt.
  abbrev pub at_stake_in : {identity : Identity} {old new : Pass} {actor next : ActorState} → FilesOne facts identity old new actor next → List Entry
  at_stake_in files = stake_by files.once.end files.once.called (file_kept files.file_pass)

  -- A call on a tenant's file leaves whole changes: at each moment since it began, and at rest after it.
  abbrev pub CallsLeaveWholeChanges : Type 0
  CallsLeaveWholeChanges = (identity : Identity) (old new : Pass) (actor next : ActorState) (files : FilesOne facts identity old new actor next)
      → LeavesWholeChanges old.seat.me.0 actor.tenant (at_stake_in files) (disk_in files.before.held) (disk_in files.after.held)
      × LeavesWholeChanges new.seat.me.0 actor.tenant (file_kept files.returned).doubt (disk_in files.after.held) (disk_in files.after.held)

  -- A pass was answered YES, and its knowledge has only grown since. A call that it makes on that tenant's file leaves the change of
  -- that request among the words: at each moment since the call began, and at rest after it.
  abbrev pub CallsKeepChanges : Type 0
  CallsKeepChanges = (identity : Identity) (first now : View) (job : Job) (old new : Pass) (actor next : ActorState) (answered : IsAnswered first now actor.tenant job SaysYes)
      → ExtendsView now old.seat.me.0 → (files : FilesOne facts identity old new actor next)
      → LeavesWithChange old.seat.me.0 actor.tenant answered.token.request (entries_of job) answered.answered.place (at_stake_in files) (disk_in files.before.held) (disk_in files.after.held)
      × LeavesWithChange new.seat.me.0 actor.tenant answered.token.request (entries_of job) answered.answered.place (file_kept files.returned).doubt (disk_in files.after.held) (disk_in files.after.held)

  -- A pass was answered, with any reply, also FAULT, and its knowledge has only grown since. A call that it makes on that tenant's file
  -- leaves the change of that request wholly or not at all: at each moment since the call began, and at rest after it.
  abbrev pub CallsLeaveWhollyOrNot : Type 0
  CallsLeaveWhollyOrNot = (identity : Identity) (first now : View) (job : Job) (reply : Reply) (old new : Pass) (actor next : ActorState) (answered : IsAnswered first now actor.tenant job reply)
      → ExtendsView now old.seat.me.0 → (files : FilesOne facts identity old new actor next)
      → LeavesWhollyOrNot old.seat.me.0 actor.tenant answered.token.request (entries_of job) (at_stake_in files) (disk_in files.before.held) (disk_in files.after.held)
      × LeavesWhollyOrNot new.seat.me.0 actor.tenant answered.token.request (entries_of job) (file_kept files.returned).doubt (disk_in files.after.held) (disk_in files.after.held)

  module _ (config : Config) (begun : (ℕ → TenantStart) → List WorldEvent → Type 0) where
    -- The changes are those of the run that ties the shared words to the model. It is the run of `IsOneHistory` in
    -- mw_law_threads.
    abbrev pub AreOfRun : {s : Table ActorState View} → TableInvariant config begun s → {view : View} {tenant : ℕ} {more : List Entry} {old new : Option D} → LeavesWholeChanges view tenant more old new → Type 0
    AreOfRun tied whole = (whole.are.openings ≡ tied.past.openings) × (whole.are.before ≡ tied.past.before) × (whole.are.events ≡ tied.events) × (whole.are.state ≡ tied.state)

    -- A crash leaves whole changes, which are those of this run.
    abbrev pub LeavesChangesOfRun : {s : Table ActorState View} → TableInvariant config begun s → View → ℕ → List Entry → Option D → Option D → Type 0
    LeavesChangesOfRun tied view tenant more old new = (whole : LeavesWholeChanges view tenant more old new) × AreOfRun tied whole

    -- the same, with the change of this request
    abbrev pub LeavesChangeOfRun : {s : Table ActorState View} → TableInvariant config begun s → View → ℕ → ℕ → List Entry → ℕ → List Entry → Option D → Option D → Type 0
    LeavesChangeOfRun tied view tenant request entries place more old new = (left : LeavesWithChange view tenant request entries place more old new) × AreOfRun tied left.whole

    -- the same, with the change of this request wholly or not at all
    abbrev pub LeavesWhollyOrNotInRun : {s : Table ActorState View} → TableInvariant config begun s → View → ℕ → ℕ → List Entry → List Entry → Option D → Option D → Type 0
    LeavesWhollyOrNotInRun tied view tenant request entries more old new = (left : LeavesWhollyOrNot view tenant request entries more old new) × AreOfRun tied left.whole

    -- The table is under the rule, by this run. One thread of it has this live view. A crash at this moment leaves whole changes, those
    -- of the run. No change of the request is sealed whose change is in doubt then.
    abbrev pub MomentsLeaveWholeChanges : Type 0
    MomentsLeaveWholeChanges = (s : Table ActorState View) (id tenant : ℕ) (view : View) (tied : TableInvariant config begun s) (crash : CrashMoment facts s tenant)
        → get_elem? s.views id ≡ some view → IsLive view
        → LeavesChangesOfRun tied view tenant (stake_at facts crash) (first_disk facts crash) (last_disk facts crash)
        × IsWholeChange tied.past.openings tied.state tenant (token_at facts crash).doubt
