-- All that a request knows at its point stays true over any worker's steps, if its pinned slots stay taken and its own
-- (`KeepsOwn`) is kept; other workers' steps keep that (`others_keep_own`).
-- Used by: facts_stay.
use Rattle.std.specs.Prelude.{ℕ, ◌≡◌, ◌≢◌, true, length}
use Rattle.std.proofs.Common.{ap, subst, ◌∙◌, sym}
use Rattle.mw_words.specs.declared.jobs.Entry.{Entry}
use Rattle.mw_words.specs.declared.statuses.Status.TheVariants.{Draft}
use Rattle.mw_look.specs.declared.points.Point.{Point as ReadPoint}
use Rattle.mw_look.specs.declared.points.Point.TheVariants.{ReadRow, ConfirmWord as ConfirmTrail, ReadGate, Pin as PinOfRead, ReadStatus, FindEntry, ReadExpected as ReadExpectedOfRead, ReadNew as ReadNewOfRead, RecheckWord, Unpin as UnpinOfRead, FreeSlot as FreeOfRead}
use Rattle.mw_look.specs.declared.points.Trail.TheVariants.{Held as ByHeld, Planted as ByPlanted}
use Rattle.mw_actor.specs.declared.points.Point.{Point}
use Rattle.mw_actor.specs.declared.points.Point.TheVariants.{Read, FillStatus, FillCount, FillAddr, FillExpected, FillNew, Prepare, ReadTargetStatus, Inspect, AnnounceRow, Plant, ReadOtherRow, ConfirmAttempt, ReadDirtyGate, ConfirmDirty, DecideYes, DecideNo, CheckThenResolve, Resolve, ReadOtherGate, PinOther, ReadCount, ReadAddr, ReadExpected, ReadNew, Seal, SweepWord, Release, Clean, SweepRow, SweepConfirm, SweepResolve, Settle, Cancel, Unpin, FreeSlot, LowerDoor, GiveUp}
use Rattle.mw_actor.specs.declared.points.Slot.{Slot}
use Rattle.mw_actor.specs.declared.points.Sweep.TheVariants.{Yes as SweepYes, No as SweepNo, DoneYes as SweepDoneYes}
use Rattle.mw_actor.specs.ActorState.{ActorState, own_entries, entries_of, entry_of}
use Rattle.mw_world.specs.Definition.State.{State}
use Rattle.mw_law_runs.specs.Moves.Guards.{IsLive}
use Rattle.mw_law_runs.specs.Moves.Rely.{Rely, SameSlot}
use Rattle.mw_law_runs.specs.Knowledge.Facts.{IsOwn, IsDrafted}
use Rattle.mw_law_runs.specs.Knowledge.OwnKnowledge.{KeepsOwn}
use Rattle.mw_law_runs.specs.Knowledge.Laws.{FactsStay, OthersKeepOwn}
use Rattle.mw_law_runs.specs.Knowledge.Live.{AreLive}
use Rattle.mw_law_runs.specs.Knowledge.Points.{ReadKnows, KnowsAt, without_point}
use Rattle.mw_law_runs.proofs.Knowledge.StayingFacts.{known_stays, met_stays, reached_stays, holds_stay, decided_stays, swept_stays, given_stays, for_change_stays, row_stays, came_stays, own_stays, drafted_stays, draft_told, written_stays, writing_stays, work_stays, works_stays, at_stays, read_stays, next_stays, sweeps_stays, anothers_stays, follows_stays, ends_stays}

module _ (by : ℕ) (old new : State) (later : Rely by old new) where
  read_facts_stay : (tenant address : ℕ) (point : ReadPoint) → ReadKnows old tenant address point → ReadKnows new tenant address point
  read_facts_stay tenant address (ReadRow worker number) knows = given_stays by old new later (record { worker = worker; number = number }) knows
  read_facts_stay tenant address (ConfirmTrail (ByHeld slot seq)) knows = knows
  read_facts_stay tenant address (ConfirmTrail (ByPlanted worker number row)) knows = row_stays by old new later tenant address worker number row knows
  read_facts_stay tenant address (ReadGate trail) knows = came_stays by old new later tenant address trail knows
  read_facts_stay tenant address (PinOfRead trail from to) knows = came_stays by old new later tenant address trail knows
  read_facts_stay tenant address (ReadStatus trail) knows = came_stays by old new later tenant address trail knows
  read_facts_stay tenant address (FindEntry trail status entry) knows = came_stays by old new later tenant address trail knows
  read_facts_stay tenant address (ReadExpectedOfRead trail status entry) knows = came_stays by old new later tenant address trail knows
  read_facts_stay tenant address (ReadNewOfRead trail status entry expected) knows = came_stays by old new later tenant address trail knows
  read_facts_stay tenant address (RecheckWord trail status expected value) knows = came_stays by old new later tenant address trail knows
  read_facts_stay tenant address (UnpinOfRead slot seq onward) knows = known_stays by old new later tenant (record { slot = slot; seq = seq }) knows
  read_facts_stay tenant address (FreeOfRead slot seq onward) knows = known_stays by old new later tenant (record { slot = slot; seq = seq }) knows
  read_facts_stay tenant address point knows = tt

  module _ (actor : ActorState) (keeps : KeepsOwn old new actor) where
    at_point : (point : Point) → AreLive old point → AreLive new point → KnowsAt old actor point → KnowsAt new actor point
    at_point (Read look) live stays knows = read_facts_stay look.tenant look.address look.point knows
    at_point (FillStatus own) live stays knows = drafted_stays by old new later actor keeps own knows
    at_point (FillCount own) live stays knows =
        (drafted_stays by old new later actor keeps own knows.0, (keeps.filled own knows.0 live stays).status ∙ knows.1)
    at_point (FillAddr own entry) live stays knows = writing_stays by old new later actor keeps own entry live stays knows
    at_point (FillExpected own entry) live stays knows =
        let drafted = knows.0.written.drafted in
        (writing_stays by old new later actor keeps own entry live stays knows.0, (keeps.filled own drafted live stays).addrs entry ∙ knows.1)
    at_point (FillNew own entry) live stays knows =
        let drafted = knows.0.written.drafted in
        let same = keeps.filled own drafted live stays in
        (writing_stays by old new later actor keeps own entry live stays knows.0, same.addrs entry ∙ knows.1, same.expecteds entry ∙ knows.2)
    at_point (Prepare own) live stays knows = written_stays by old new later actor keeps own (length (own_entries actor)) live stays knows
    at_point (ReadTargetStatus task) live stays knows = works_stays by old new later actor keeps.pins task knows
    at_point (Inspect task entry) live stays knows =
        (at_stays by old new later actor keeps.pins task entry knows.0, holds_stay by old new later actor.tenant task.target entry knows.0.works.at_work.target knows.1)
    at_point (AnnounceRow task entry number) live stays knows = (at_stays by old new later actor keeps.pins task entry knows.0, keeps.attempt ∙ knows.1)
    at_point (Plant task entry number) live stays knows =
        (at_stays by old new later actor keeps.pins task entry knows.0, keeps.attempt ∙ knows.1, keeps.row ∙ knows.2)
    at_point (ReadOtherRow task entry attempt) live stays knows = (at_stays by old new later actor keeps.pins task entry knows.0, anothers_stays by old new later actor keeps.pins attempt knows.1)
    at_point (ConfirmAttempt task entry attempt other) live stays knows = (
      at_stays by old new later actor keeps.pins task entry knows.0,
      anothers_stays by old new later actor keeps.pins attempt knows.1,
      for_change_stays by old new later actor.tenant (entry_of actor task entry).addr attempt other knows.2,
    )
    at_point (ReadDirtyGate task entry slot value) live stays knows = at_stays by old new later actor keeps.pins task entry knows
    at_point (ConfirmDirty task entry other value) live stays knows = (at_stays by old new later actor keeps.pins task entry knows.0, reached_stays by old new later other knows.1)
    at_point (DecideYes task) live stays knows =
        (works_stays by old new later actor keeps.pins task knows.0, holds_stay by old new later actor.tenant task.target (length (entries_of actor task)) knows.0.at_work.target knows.1)
    at_point (DecideNo task entry value) live stays knows = (at_stays by old new later actor keeps.pins task entry knows.0, knows.1)
    at_point (CheckThenResolve task entry attempt) live stays knows =
        (at_stays by old new later actor keeps.pins task entry knows.0, for_change_stays by old new later actor.tenant (entry_of actor task entry).addr attempt task.target knows.1)
    at_point (Resolve task entry attempt was_open) live stays knows =
        (at_stays by old new later actor keeps.pins task entry knows.0, for_change_stays by old new later actor.tenant (entry_of actor task entry).addr attempt task.target knows.1)
    at_point (ReadOtherGate task other) live stays knows = (works_stays by old new later actor keeps.pins task knows.0, met_stays by old new later actor.tenant other knows.1)
    at_point (PinOther task other from to) live stays knows = (works_stays by old new later actor keeps.pins task knows.0, met_stays by old new later actor.tenant other knows.1)
    at_point (ReadCount task) live stays knows = (work_stays by old new later actor keeps.pins task knows.0, knows.1)
    at_point (ReadAddr task count) live stays knows = read_stays by old new later actor keeps.pins task count knows
    at_point (ReadExpected task count addr) live stays knows =
        (read_stays by old new later actor keeps.pins task count knows.0, knows.1 ∙ ap (λ (entry : Entry). entry.addr) (next_stays by old new later actor keeps.pins task knows.0.at_work))
    at_point (ReadNew task count addr expected) live stays knows =
        let next = next_stays by old new later actor keeps.pins task knows.0.at_work in
        (read_stays by old new later actor keeps.pins task count knows.0, knows.1 ∙ ap (λ (entry : Entry). entry.addr) next, knows.2 ∙ ap (λ (entry : Entry). entry.expected) next)
    at_point (Seal task) live stays knows = (works_stays by old new later actor keeps.pins task knows.0, later.is_made task.target.slot task.target.seq knows.1)
    at_point (SweepWord task sweep entry) live stays knows = sweeps_stays by old new later actor keeps.pins task sweep entry knows
    at_point (Release task sweep entry) live stays knows = (sweeps_stays by old new later actor keeps.pins task sweep entry knows.0, knows.1)
    at_point (Clean task entry value) live stays knows = (sweeps_stays by old new later actor keeps.pins task SweepDoneYes entry knows.0, knows.1)
    at_point (SweepRow task sweep entry attempt) live stays knows =
        (sweeps_stays by old new later actor keeps.pins task sweep entry knows.0, knows.1, given_stays by old new later attempt knows.2)
    at_point (SweepConfirm task sweep entry attempt other) live stays knows = (
      sweeps_stays by old new later actor keeps.pins task sweep entry knows.0,
      knows.1,
      for_change_stays by old new later actor.tenant (entry_of actor task entry).addr attempt other knows.2,
    )
    at_point (SweepResolve task sweep entry attempt) live stays knows = (
      sweeps_stays by old new later actor keeps.pins task sweep entry knows.0,
      knows.1,
      for_change_stays by old new later actor.tenant (entry_of actor task entry).addr attempt task.target knows.2,
    )
    at_point (Settle task) live stays knows = (
      works_stays by old new later actor keeps.pins task knows.0,
      decided_stays by old new later task.target SweepYes knows.1,
      swept_stays by old new later actor.tenant task.target SweepYes (length (entries_of actor task)) knows.0.at_work.target knows.2,
    )
    at_point (Cancel task) live stays knows = (works_stays by old new later actor keeps.pins task knows.0, decided_stays by old new later task.target SweepNo knows.1)
    at_point (Unpin slot onward) live stays knows =
        (known_stays by old new later actor.tenant slot knows.0, follows_stays by old new later actor keeps.pins onward knows.1, ends_stays by old new later actor keeps.pins slot onward knows.2)
    at_point (FreeSlot slot onward) live stays knows = (known_stays by old new later actor.tenant slot knows.0, follows_stays by old new later actor keeps.pins onward knows.1)
    at_point (LowerDoor onward) live stays knows = follows_stays by old new later actor keeps.pins onward knows
    at_point (GiveUp own undecided) live stays knows = (own_stays by old new later actor keeps.pins own knows.0, draft_told by old new later actor keeps own knows.0 live stays knows.1)
    at_point point live stays knows = tt

pub facts_stay : FactsStay
facts_stay by old new actor point later keeps live stays knows = at_point by old new later (without_point actor) keeps point live stays knows

module _ (by : ℕ) (old new : State) (actor : ActorState) (apart : actor.worker ≢ by) (later : Rely by old new) where
  not_by : (own : Slot) → IsOwn old actor own → old.history.owner own.slot own.seq ≢ by
  not_by own is same = apart (sym is.same_worker ∙ same)

  -- the contents of a draft's slot stay
  same_slot_of : (own : Slot) → IsDrafted old actor own → IsLive old own → IsLive new own → SameSlot old new own.slot
  same_slot_of own is live stays =
      let at = sym live.seq in
      later.filled own.slot live.taken
      (subst (λ (seq : ℕ). old.history.is_claimed own.slot seq ≡ true) at is.own.is_claimed)
      (subst (λ (seq : ℕ). old.history.owner own.slot seq ≢ by) at (not_by own is.own))
      (subst (λ (seq : ℕ). old.history.fate own.slot seq ≡ Draft) at is.draft)
      (stays.seq ∙ at)

pub others_keep_own : OthersKeepOwn
others_keep_own by old new actor apart later = record {
  pins = λ own is. later.stays_not own.slot own.seq is.is_claimed (not_by by old new actor apart later own is);
  drafts = λ own is. later.drafts own.slot own.seq is.own.is_claimed (not_by by old new actor apart later own is.own) is.draft;
  filled = same_slot_of by old new actor apart later;
  attempt = later.own_attempts actor.worker apart;
  row = later.rows actor.worker apart;
}
