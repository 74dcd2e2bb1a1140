-- Each single fact that a request may know stays true over a worker's steps that keep the request's own (`KeepsOwn`): its
-- pin, its draft, its worker's row and next attempt number. Used by: Stability, Acquisition, Releases, among others.
use Rattle.std.specs.Prelude.{ℕ, ◌≡◌, ◌≢◌, ◌≤◌, ◌⊎◌, List, length, is_some}
use Rattle.std.proofs.Common.{refl, sym, ap, subst, ◌∙◌, inl, inr, arith}
use Rattle.mw_words.specs.declared.replies.Reply.{Reply}
use Rattle.mw_words.specs.declared.rows.Row.{Row}
use Rattle.mw_words.specs.declared.jobs.Entry.{Entry}
use Rattle.mw_words.specs.declared.statuses.Status.{Status}
use Rattle.mw_words.specs.declared.statuses.Status.TheVariants.{Draft, Open, YesDirty, Yes, No, DoneYes, DoneNo}
use Rattle.mw_look.specs.declared.points.Trail.{Trail}
use Rattle.mw_look.specs.declared.points.Trail.TheVariants.{Held as ByHeld, Planted as ByPlanted}
use Rattle.mw_actor.specs.declared.points.Attempt.{Attempt}
use Rattle.mw_actor.specs.declared.points.After.{After}
use Rattle.mw_actor.specs.declared.points.After.TheVariants.{Work, GiveUp as ThenGiveUp, Reply as ThenReply}
use Rattle.mw_actor.specs.declared.points.Slot.{Slot}
use Rattle.mw_actor.specs.declared.points.Sweep.{Sweep}
use Rattle.mw_actor.specs.declared.points.Sweep.TheVariants.{Yes as SweepYes, DoneYes as SweepDoneYes, No as SweepNo, DoneNo as SweepDoneNo}
use Rattle.mw_actor.specs.declared.points.Task.{Task}
use Rattle.mw_actor.specs.ActorState.{ActorState, own_entries, entry_at}
use Rattle.mw_world.specs.Definition.History.{entry_for}
use Rattle.mw_world.specs.Claim.Invariant.{IsEntryOf, IsRefused}
use Rattle.mw_world.specs.Claim.Obligations.{IsEntryAt}
use Rattle.mw_world.specs.Definition.State.{State}
use Rattle.mw_law_runs.specs.Moves.Guards.{IsLive}
use Rattle.mw_law_runs.specs.Moves.Rely.{Rely, SameSlot}
use Rattle.mw_law_runs.specs.Knowledge.OwnKnowledge.{KeepsOwn, KeepsPins}
use Rattle.mw_law_runs.specs.Knowledge.Facts.{IsKnown, MayBeMet, IsOwn, IsDrafted, IsReadied, IsWritten, IsWriting, IsAtWork, WorksOn, AtEntry, AreFirstOf, HasRead, HoldsUpTo, AreHeldNoMore, IsDecidedAs, IsSweptUpTo, Sweeps, IsOver, IsGiven, IsAnothers, IsForChange, HasRow, CameBy, Follows, EndsWith}

-- a refused change stays refused
refused_as : (one other : Status) → ((entry value : ℕ) → one ≡ No entry value → (other ≡ No entry value) ⊎ (other ≡ DoneNo entry value))
    → ((entry value : ℕ) → one ≡ DoneNo entry value → other ≡ DoneNo entry value) → IsRefused one → IsRefused other
refused_as Draft other goes stays is = absurd is
refused_as Open other goes stays is = absurd is
refused_as YesDirty other goes stays is = absurd is
refused_as Yes other goes stays is = absurd is
refused_as DoneYes other goes stays is = absurd is
refused_as (No entry value) other goes stays is = either (goes entry value refl)
  where
    either : (other ≡ No entry value) ⊎ (other ≡ DoneNo entry value) → IsRefused other
    either (inl e) = subst IsRefused (sym e) tt
    either (inr e) = subst IsRefused (sym e) tt
refused_as (DoneNo entry value) other goes stays is = subst IsRefused (sym (stays entry value refl)) tt

-- a draft was one before, if nothing becomes a draft that was none
draft_as : (one other : Status) → (one ≢ Draft → other ≢ Draft) → other ≡ Draft → one ≡ Draft
draft_as Draft other goes is = refl
draft_as one other goes is = absurd (goes (λ e. cc) is)

-- the reply of a change that is done with stays its reply
over_as : (actor : ActorState) (one other : Status) (reply : Reply) → (one ≡ DoneYes → other ≡ DoneYes) → ((entry value : ℕ) → one ≡ DoneNo entry value → other ≡ DoneNo entry value)
    → IsOver actor one reply → IsOver actor other reply
over_as actor Draft other reply done canceled is = absurd is
over_as actor Open other reply done canceled is = absurd is
over_as actor YesDirty other reply done canceled is = absurd is
over_as actor Yes other reply done canceled is = absurd is
over_as actor (No entry value) other reply done canceled is = absurd is
over_as actor DoneYes other reply done canceled is = subst (λ (fate : Status). IsOver actor fate reply) (sym (done refl)) is
over_as actor (DoneNo entry value) other reply done canceled is = subst (λ (fate : Status). IsOver actor fate reply) (sym (canceled entry value refl)) is

module _ (by : ℕ) (old new : State) (later : Rely by old new) where
  pub known_stays : (tenant : ℕ) (change : Slot) → IsKnown old tenant change → IsKnown new tenant change
  known_stays tenant change known =
      let birth = later.births change.slot change.seq known.is_claimed in
      record { is_claimed = birth.is_claimed; same_tenant = birth.tenant ∙ known.same_tenant; ready = later.ready change.slot change.seq known.ready }

  pub met_stays : (tenant : ℕ) (other : Slot) → MayBeMet old tenant other → MayBeMet new tenant other
  met_stays tenant other met = record {
    reached = omega (arith, met.reached, later.seqs other.slot);
    known = λ same. known_stays tenant other (met.known (omega (arith, same, met.reached, later.seqs other.slot)));
  }

  pub reached_stays : (other : Slot) → other.seq ≤ (old.cells.gates other.slot).seq → other.seq ≤ (new.cells.gates other.slot).seq
  reached_stays other reached = omega (arith, reached, later.seqs other.slot)

  -- the change of an entry stays, and so does what is known of its words
  same_change : (tenant : ℕ) (target : Slot) → IsKnown old tenant target → new.history.change target.slot target.seq ≡ old.history.change target.slot target.seq
  same_change tenant target known = (later.births target.slot target.seq known.is_claimed).change

  pub holds_stay : (tenant : ℕ) (target : Slot) (entries : ℕ) → IsKnown old tenant target → HoldsUpTo old target entries → HoldsUpTo new target entries
  holds_stay tenant target entries known holds is_open index within =
      let addr = (entry_at (old.history.change target.slot target.seq) index).addr in
      ap (λ (change : List Entry). new.history.phase target.slot target.seq (entry_at change index).addr) (same_change tenant target known)
      ∙ later.acquired target.slot target.seq addr known.ready is_open (holds (later.was_open target.slot target.seq known.ready is_open) index within)

  pub let_go_stays : (tenant : ℕ) (target : Slot) (entries : ℕ) → IsKnown old tenant target → AreHeldNoMore old target entries → AreHeldNoMore new target entries
  let_go_stays tenant target entries known were = record {
    touched = λ index within is. later.touched target.slot target.seq (entry_at (old.history.change target.slot target.seq) index).addr (were.touched index within) (sym (there index) ∙ is);
    held_no_more = λ index within is. were.held_no_more index within
        (later.was_acquired target.slot target.seq (entry_at (old.history.change target.slot target.seq) index).addr (were.touched index within) (sym (there index) ∙ is));
  }
    where
      there : (index : ℕ) → new.history.phase target.slot target.seq (entry_at (new.history.change target.slot target.seq) index).addr
          ≡ new.history.phase target.slot target.seq (entry_at (old.history.change target.slot target.seq) index).addr
      there index = ap (λ (change : List Entry). new.history.phase target.slot target.seq (entry_at change index).addr) (same_change tenant target known)

  pub decided_stays : (target : Slot) (sweep : Sweep) → IsDecidedAs (old.history.fate target.slot target.seq) sweep → IsDecidedAs (new.history.fate target.slot target.seq) sweep
  decided_stays target SweepYes (inl is) = later.sealed target.slot target.seq is
  decided_stays target SweepYes (inr is) = inr (later.done target.slot target.seq is)
  decided_stays target SweepDoneYes is = later.done target.slot target.seq is
  decided_stays target SweepNo is =
      refused_as (old.history.fate target.slot target.seq) (new.history.fate target.slot target.seq) (later.refused target.slot target.seq) (later.canceled target.slot target.seq) is
  decided_stays target (SweepDoneNo entry value) is = later.canceled target.slot target.seq entry value is

  pub swept_stays : (tenant : ℕ) (target : Slot) (sweep : Sweep) (entry : ℕ) → IsKnown old tenant target → IsSweptUpTo old target sweep entry → IsSweptUpTo new target sweep entry
  swept_stays tenant target SweepYes entry known swept = let_go_stays tenant target entry known swept
  swept_stays tenant target SweepDoneYes entry known swept = tt
  swept_stays tenant target SweepNo entry known swept = tt
  swept_stays tenant target (SweepDoneNo index value) entry known swept = tt

  pub over_stays : (actor : ActorState) (slot : Slot) (reply : Reply) → IsOver actor (old.history.fate slot.slot slot.seq) reply → IsOver actor (new.history.fate slot.slot slot.seq) reply
  over_stays actor slot reply is =
      over_as actor (old.history.fate slot.slot slot.seq) (new.history.fate slot.slot slot.seq) reply (later.done slot.slot slot.seq) (later.canceled slot.slot slot.seq) is

  -- attempts
  pub given_stays : (attempt : Attempt) → IsGiven old attempt → IsGiven new attempt
  given_stays attempt given = omega (arith, given, later.attempts attempt.worker)

  pub for_change_stays : (tenant address : ℕ) (attempt : Attempt) (change : Slot) → IsForChange old tenant address attempt change → IsForChange new tenant address attempt change
  for_change_stays tenant address attempt change is = record {
    given = given_stays attempt is.given;
    slot = λ stands. let before = later.stood tenant address attempt.worker attempt.number is.given stands in ap (λ (row : Row). row.slot) (sym before.row) ∙ is.slot before.word;
    seq = λ stands. let before = later.stood tenant address attempt.worker attempt.number is.given stands in ap (λ (row : Row). row.seq) (sym before.row) ∙ is.seq before.word;
  }

  pub row_stays : (tenant address worker number : ℕ) (row : Row) → HasRow old tenant address worker number row → HasRow new tenant address worker number row
  row_stays tenant address worker number row has_row = record {
    given = omega (arith, has_row.given, later.attempts worker);
    row = λ stands. let before = later.stood tenant address worker number has_row.given stands in sym before.row ∙ has_row.row before.word;
  }

  -- reads
  pub came_stays : (tenant address : ℕ) (trail : Trail) → CameBy old tenant address trail → CameBy new tenant address trail
  came_stays tenant address (ByHeld slot seq) came = record {
    known = known_stays tenant (record { slot = slot; seq = seq }) came.known;
    entry = ap (λ (change : List Entry). is_some (entry_for change address)) (same_change tenant (record { slot = slot; seq = seq }) came.known) ∙ came.entry;
    touched = later.touched slot seq address came.touched;
  }
  came_stays tenant address (ByPlanted worker number row) came = record {
    known = known_stays tenant (record { slot = row.slot; seq = row.seq }) came.known;
    entry = subst (λ (change : List Entry). IsEntryAt change row.entry address) (sym (same_change tenant (record { slot = row.slot; seq = row.seq }) came.known)) came.entry;
    row = row_stays tenant address worker number row came.row;
  }

  -- a request's own change, and its target
  module _ (actor : ActorState) (pins : KeepsPins old new actor) where
    pub own_stays : (own : Slot) → IsOwn old actor own → IsOwn new actor own
    own_stays own is =
        let birth = later.births own.slot own.seq is.is_claimed in
        record {
          is_claimed = birth.is_claimed;
          same_tenant = birth.tenant ∙ is.same_tenant;
          same_worker = birth.owner ∙ is.same_worker;
          same_entries = birth.change ∙ is.same_entries;
          stays_not = pins own is ∙ is.stays_not;
        }

    pub readied_stays : (own : Slot) → IsReadied old actor own → IsReadied new actor own
    readied_stays own is = record { own = own_stays own is.own; ready = later.ready own.slot own.seq is.ready }

    pub work_stays : (task : Task) → IsAtWork old actor task → IsAtWork new actor task
    work_stays task is = record { own = readied_stays task.own is.own; target = known_stays actor.tenant task.target is.target }

    pub works_stays : (task : Task) → WorksOn old actor task → WorksOn new actor task
    works_stays task is = record { at_work = work_stays task is.at_work; entries = is.entries ∙ sym (same_change actor.tenant task.target is.at_work.target) }

    pub at_stays : (task : Task) (entry : ℕ) → AtEntry old actor task entry → AtEntry new actor task entry
    at_stays task entry is = record { works = works_stays task is.works; within = is.within }

    pub read_stays : (task : Task) (count : ℕ) → HasRead old actor task count → HasRead new actor task count
    read_stays task count is =
        let same = same_change actor.tenant task.target is.at_work.target in
        record {
          at_work = work_stays task is.at_work;
          not_alone = is.not_alone;
          all = is.all ∙ ap (λ (change : List Entry). length change) (sym same);
          shorter = is.shorter;
          first = subst (λ (change : List Entry). AreFirstOf actor.others change) (sym same) is.first;
        }

    pub next_stays : (task : Task) → IsAtWork old actor task
        → entry_at (old.history.change task.target.slot task.target.seq) (length actor.others) ≡ entry_at (new.history.change task.target.slot task.target.seq) (length actor.others)
    next_stays task is = ap (λ (change : List Entry). entry_at change (length actor.others)) (sym (same_change actor.tenant task.target is.target))

    pub sweeps_stays : (task : Task) (sweep : Sweep) (entry : ℕ) → Sweeps old actor task sweep entry → Sweeps new actor task sweep entry
    sweeps_stays task sweep entry is = record {
      at = at_stays task entry is.at;
      decided = decided_stays task.target sweep is.decided;
      swept = swept_stays actor.tenant task.target sweep entry is.at.works.at_work.target is.swept;
    }

    pub anothers_stays : (attempt : Attempt) → IsAnothers old actor attempt → IsAnothers new actor attempt
    anothers_stays attempt is = record { given = given_stays attempt is.given; apart = is.apart }

    pub follows_stays : (onward : After) → Follows old actor onward → Follows new actor onward
    follows_stays (Work task) is = work_stays task is
    follows_stays (ThenGiveUp own undecided) is = readied_stays own is
    follows_stays (ThenReply reply) is = tt

    pub ends_stays : (slot : Slot) (onward : After) → EndsWith old actor slot onward → EndsWith new actor slot onward
    ends_stays slot (Work task) is = tt
    ends_stays slot (ThenGiveUp own undecided) is = tt
    ends_stays slot (ThenReply reply) is = (readied_stays slot is.0, over_stays actor slot reply is.1)

  -- a request's draft, and the contents of its slot
  module _ (actor : ActorState) (keeps : KeepsOwn old new actor) where
    pub drafted_stays : (own : Slot) → IsDrafted old actor own → IsDrafted new actor own
    drafted_stays own is = record { own = own_stays actor keeps.pins own is.own; draft = keeps.drafts own is }

    -- a draft's slot says that it is a draft, if it said so before
    pub draft_told : (own : Slot) → IsOwn old actor own → IsLive old own → IsLive new own → (old.history.fate own.slot own.seq ≡ Draft → old.cells.statuses own.slot ≡ Draft)
        → new.history.fate own.slot own.seq ≡ Draft → new.cells.statuses own.slot ≡ Draft
    draft_told own is live stays told draft =
        let was = draft_as (old.history.fate own.slot own.seq) (new.history.fate own.slot own.seq) (later.ready own.slot own.seq) draft in
        (keeps.filled own (record { own = is; draft = was }) live stays).status ∙ told was

    entry_same : (slot index : ℕ) (entry : Entry) → SameSlot old new slot → IsEntryOf old.cells slot index entry → IsEntryOf new.cells slot index entry
    entry_same slot index entry same is = record { addr = same.addrs index ∙ is.addr; expected = same.expecteds index ∙ is.expected; new = same.new_values index ∙ is.new }

    pub written_stays : (own : Slot) (entries : ℕ) → IsLive old own → IsLive new own → IsWritten old actor own entries → IsWritten new actor own entries
    written_stays own entries live stays is =
        let same = keeps.filled own is.drafted live stays in
        record {
          drafted = drafted_stays own is.drafted;
          status = same.status ∙ is.status;
          count = same.count ∙ is.count;
          entries = λ index within. entry_same own.slot index (entry_at (own_entries actor) index) same (is.entries index within);
        }

    pub writing_stays : (own : Slot) (entry : ℕ) → IsLive old own → IsLive new own → IsWriting old actor own entry → IsWriting new actor own entry
    writing_stays own entry live stays is = record { written = written_stays own entry live stays is.written; within = is.within }
