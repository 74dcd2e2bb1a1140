-- A step of a request keeps each held or written word's releaser: the request that will release or clean the word.
-- Used by: steps_keep_releasers.
use Rattle.std.specs.Prelude.{ℕ, ◌≡◌, ◌≢◌, ◌≤◌, ◌⊎◌, true, Some}
use Rattle.std.proofs.Common.{refl, sym, ap, subst, ◌∙◌, inl, inr}
use Rattle.std.proofs.lemmas.Bool.{cases_eq}
use Rattle.mw_words.specs.declared.replies.Reply.{Reply}
use Rattle.mw_words.specs.declared.statuses.Status.{Status}
use Rattle.mw_words.specs.declared.statuses.Status.TheVariants.{Draft, Open, YesDirty, Yes, No, DoneYes, DoneNo}
use Rattle.mw_words.specs.declared.words.Word.TheVariants.{Held, Dirty}
use Rattle.mw_look.specs.declared.observations.Observation.{Observation}
use Rattle.mw_actor.specs.declared.points.After.TheVariants.{Work, GiveUp as ThenGiveUp, Reply as ThenReply}
use Rattle.mw_actor.specs.declared.points.Point.{Point}
use Rattle.mw_actor.specs.declared.points.Point.TheVariants.{ReadTargetStatus, DecideYes, DecideNo, AnnounceRow, Plant, CheckThenResolve, Resolve, ReadCount, ReadAddr, ReadExpected, ReadNew, SweepWord, Release, SweepRow, SweepConfirm, SweepResolve, Cancel, Unpin, GiveUp}
use Rattle.mw_actor.specs.declared.points.Slot.{Slot}
use Rattle.mw_actor.specs.declared.points.Task.{Task}
use Rattle.mw_actor.specs.ActorState.{ActorState}
use Rattle.mw_actor.specs.Asks.{asks, asks_at}
use Rattle.mw_world.specs.declared.config.Config.{Config}
use Rattle.mw_world.specs.Definition.Counts.{pins_held}
use Rattle.mw_world.specs.Claim.Invariant.{IsRefused, IsHeldFor, IsWrittenBy}
use Rattle.mw_world.specs.Claim.Obligations.{WillReleaseAt, WillRelease, HasReleaser, CleansAt}
use Rattle.mw_world.specs.Definition.History.{has}
use Rattle.mw_world.specs.Definition.State.{State}
use Rattle.mw_world.specs.Definition.Turns.{next_attempt}
use Rattle.mw_law_runs.specs.Knowledge.Informed.{IsInformed, ChangesNoWord, ChangesAWord}
use Rattle.mw_law_runs.specs.Knowledge.Points.{Knows}
use Rattle.mw_law_runs.specs.Knowledge.NextState.{told, world_told}
use Rattle.mw_law_runs.specs.Moves.Guards.{Guards}
use Rattle.mw_law_runs.specs.Moves.Memory.{Memory}
use Rattle.mw_law_runs.specs.Moves.Rely.{Rely}
use Rattle.mw_law_runs.specs.Moves.StepMoves.{moves_told}
use Rattle.mw_law_runs.proofs.Moves.MovesKeepMemory.{moves_keep}
use Rattle.mw_law_runs.proofs.Moves.Relied.{others_rely_on_all}
use Rattle.mw_law_runs.proofs.Moves.Shared.{is_shared}
use Rattle.mw_law_runs.specs.ObligationLaws.{StepsKeepReleasers}
use Rattle.mw_law_runs.specs.Obligations.{IsUnfinished, own_of, IsOwnerOf, IsCleanerOf, WordsHaveReleasers, HaveTheirRequests, OneStepped}
use Rattle.mw_law_runs.proofs.Obligations.Apart.{not_both, canceled_undone, done_undone}
use Rattle.mw_law_runs.proofs.Obligations.StepEffects.{WasTaken, IsClaimed, Turns, Inks, StepsOn}
use Rattle.mw_law_runs.proofs.Obligations.Cleaners.{not_over, knows_cleans, writes_cleans, cleans_on}
use Rattle.mw_law_runs.proofs.Obligations.OwnChanges.{own_known}
use Rattle.mw_law_runs.proofs.Obligations.Owners.{own_goes_on}
use Rattle.mw_law_runs.proofs.Obligations.Pins.{some_same, target_pinned, own_pinned}
use Rattle.mw_law_runs.proofs.Obligations.RefusedChanges.{will_release_on}
use Rattle.mw_law_runs.proofs.Obligations.StepEffectsByPoint.{steps_on, gives_up_left}

-- A request that will release a word of a change holds a pin of the change's slot.
target_held : (task : Task) (change : Slot) → task.target ≡ change → 1 ≤ pins_held change.slot (ReadTargetStatus task)
target_held task change is = target_pinned task change.slot (ap (λ (one : Slot). one.slot) is)

pub will_release_pinned : (actor : ActorState) (change : Slot) (address : ℕ) (point : Point) → WillReleaseAt actor change address point → 1 ≤ pins_held change.slot point
will_release_pinned actor change address (ReadTargetStatus task) is = target_held task change is
will_release_pinned actor change address (DecideYes task) is = target_held task change is
will_release_pinned actor change address (DecideNo task entry value) is = target_held task change is
will_release_pinned actor change address (AnnounceRow task entry number) is = target_held task change is
will_release_pinned actor change address (Plant task entry number) is = target_held task change is
will_release_pinned actor change address (CheckThenResolve task entry attempt) is = target_held task change is
will_release_pinned actor change address (Resolve task entry attempt was_open) is = target_held task change is
will_release_pinned actor change address (ReadCount task) is = target_held task change is
will_release_pinned actor change address (ReadAddr task count) is = target_held task change is
will_release_pinned actor change address (ReadExpected task count addr) is = target_held task change is
will_release_pinned actor change address (ReadNew task count addr expected) is = target_held task change is
will_release_pinned actor change address (Cancel task) is = target_held task change is
will_release_pinned actor change address (SweepWord task sweep entry) will_release = target_held task change will_release.0
will_release_pinned actor change address (Release task sweep entry) will_release = target_held task change will_release.0
will_release_pinned actor change address (SweepRow task sweep entry attempt) will_release = target_held task change will_release.0
will_release_pinned actor change address (SweepConfirm task sweep entry attempt other) will_release = target_held task change will_release.0
will_release_pinned actor change address (SweepResolve task sweep entry attempt) will_release = target_held task change will_release.0
will_release_pinned actor change address point will_release = absurd will_release

-- What isn't done with after the step wasn't before it.
pub was_undone : (one other : Status) → (one ≡ DoneYes → other ≡ DoneYes) → ((entry value : ℕ) → one ≡ No entry value → (other ≡ No entry value) ⊎ (other ≡ DoneNo entry value))
    → ((entry value : ℕ) → one ≡ DoneNo entry value → other ≡ DoneNo entry value) → IsUnfinished other → IsUnfinished one
was_undone Draft other done refused canceled undone = tt
was_undone Open other done refused canceled undone = tt
was_undone YesDirty other done refused canceled undone = tt
was_undone Yes other done refused canceled undone = tt
was_undone (No entry value) other done refused canceled undone = tt
was_undone DoneYes other done refused canceled undone = done_undone (subst IsUnfinished (done refl) undone)
was_undone (DoneNo entry value) other done refused canceled undone = canceled_undone entry value (subst IsUnfinished (canceled entry value refl) undone)

abbrev change_of : ℕ → ℕ → Slot
change_of slot seq = record { slot = slot; seq = seq }

same_change_of : (slot : Slot) (place seq : ℕ) → slot.slot ≡ place → slot.seq ≡ seq → slot ≡ record { slot = place; seq = seq }
same_change_of slot place seq one two = ap (λ (n : ℕ). change_of n slot.seq) one ∙ ap (λ (n : ℕ). change_of place n) two

module _ (config : Config) (old : State) (actor : ActorState) where
  -- A request's own change is still its own after its step, or the request has left its pin behind.
  pub own_on : (point : Point) (observation : Observation) (own : Slot) → let me = record actor { point = point } in
      own_of point ≡ Some own → ((slot : Slot) (reply : Reply) → point ≡ Unpin slot (ThenReply reply) → ⊥)
      → (own_of (told old me observation).point ≡ Some own) ⊎ ((world_told old me observation).history.stays own.slot own.seq ≡ true)
  own_on (GiveUp one undecided) observation own mine more =
      inr (subst (λ (which : Slot). (world_told old (record actor { point = GiveUp one undecided }) observation).history.stays which.slot which.seq ≡ true) (some_same one own mine)
      (gives_up_left config old actor one undecided observation))
  own_on (Unpin slot (Work task)) observation own mine more =
      inl (own_goes_on own (record actor { point = Unpin slot (Work task) }) (old.worker_states actor.worker).attempt (Unpin slot (Work task)) observation tt mine)
  own_on (Unpin slot (ThenGiveUp one undecided)) observation own mine more =
      inl (own_goes_on own (record actor { point = Unpin slot (ThenGiveUp one undecided) }) (old.worker_states actor.worker).attempt (Unpin slot (ThenGiveUp one undecided)) observation tt mine)
  own_on (Unpin slot (ThenReply reply)) observation own mine more = absurd (more slot reply refl)
  own_on point observation own mine more = inl (own_goes_on own (record actor { point = point }) (next_attempt point (old.worker_states actor.worker).attempt) point observation tt mine)

  -- And the request will clean a word that the change has written.
  module _ (own : Slot) (address value : ℕ) (written : IsWrittenBy old actor.tenant address value own.slot own.seq) (word : old.cells.words actor.tenant address ≡ Dirty own.slot value) where
    cleaner_on : (point : Point) (observation : Observation) → let me = record actor { point = point } in IsInformed config old me
        → ChangesNoWord old.cells (asks_at me point) observation ⊎ ChangesAWord old.cells (asks_at me point) observation
        → (world_told old me observation).cells.words actor.tenant address ≡ Dirty own.slot value
        → own_of point ≡ Some own → CleansAt me address point
        → CleansAt (told old me observation) address (told old me observation).point ⊎ ((world_told old me observation).history.stays own.slot own.seq ≡ true)
    cleaner_on (GiveUp one undecided) observation informed how still mine cleans =
        inr (subst (λ (which : Slot). (world_told old (record actor { point = GiveUp one undecided }) observation).history.stays which.slot which.seq ≡ true) (some_same one own mine)
        (gives_up_left config old actor one undecided observation))
    cleaner_on (Unpin slot onward) observation informed how still mine cleans =
        inl (cleans_on config old actor own address value word written.made written.new_value written.change.entry (Unpin slot onward) observation informed how still mine cleans cleans)
    cleaner_on point observation informed how still mine cleans =
        inl (cleans_on config old actor own address value word written.made written.new_value written.change.entry point observation informed how still mine tt cleans)

-- What a step of a request does that matters to releasers: what it does to memory, that its request still will release and clean what it would
-- before, and that its own change is the same.
pub record StepsWell (config : Config) (old after : State) (me next : ActorState) : Type 0 where
  pub tenant : next.tenant ≡ me.tenant
  pub later : Rely me.worker old after
  pub memory_after : Memory config after
  pub steps : StepsOn old after me me.point next.point
  pub owns : (own : Slot) → own_of me.point ≡ Some own → ((slot : Slot) (reply : Reply) → me.point ≡ Unpin slot (ThenReply reply) → ⊥)
      → (own_of next.point ≡ Some own) ⊎ (after.history.stays own.slot own.seq ≡ true)
  pub will_release : (change : Slot) (address : ℕ) → old.cells.words me.tenant address ≡ Held change.slot change.seq → IsRefused (old.history.fate change.slot change.seq)
      → has old.history change.slot change.seq address ≡ true → after.cells.words me.tenant address ≡ Held change.slot change.seq → WillReleaseAt me change address me.point
      → WillReleaseAt next change address next.point
  pub cleans : (own : Slot) (address value : ℕ) → IsWrittenBy old me.tenant address value own.slot own.seq → old.cells.words me.tenant address ≡ Dirty own.slot value
      → after.cells.words me.tenant address ≡ Dirty own.slot value → own_of me.point ≡ Some own → CleansAt me address me.point
      → CleansAt next address next.point ⊎ (after.history.stays own.slot own.seq ≡ true)
  pub writes : (tenant address slot : ℕ) → Inks old me.point tenant address slot → CleansAt next address next.point

module _ (config : Config) (old new after : State) (me next : ActorState) where
  -- the world after the step, with its workers and tenants
  abbrev seen : State
  seen = record after { worker_states = new.worker_states; tenant_states = new.tenant_states }

  module _ (seated : HaveTheirRequests config old) (releasers : WordsHaveReleasers old) (is : (old.worker_states me.worker).actor ≡ Some me) (well : StepsWell config old after me next)
      (one : OneStepped old new me.worker next) where
    informed : IsInformed config old me
    informed = (seated me.worker me is).informed

    memory : Memory config old
    memory = informed.memory

    later : Rely me.worker old after
    later = well.later

    memory_after : Memory config after
    memory_after = well.memory_after

    steps : StepsOn old after me me.point next.point
    steps = well.steps

    is_me : (worker : ℕ) (request : ActorState) → (old.worker_states worker).actor ≡ Some request → worker ≡ me.worker → request ≡ me
    is_me worker request its same = some_same request me (sym its ∙ ap (λ (n : ℕ). (old.worker_states n).actor) same ∙ is)

    -- what was claimed was claimed by the same worker
    claimed : (slot seq : ℕ) → (old.cells.gates slot).taken ≡ true → (old.cells.gates slot).seq ≡ seq → old.history.is_claimed slot seq ≡ true
    claimed slot seq taken number = subst (λ (n : ℕ). old.history.is_claimed slot n ≡ true) number (memory.claims.claimed slot taken)

    same_owner : (slot seq : ℕ) → (old.cells.gates slot).taken ≡ true → (old.cells.gates slot).seq ≡ seq → after.history.owner slot seq ≡ old.history.owner slot seq
    same_owner slot seq taken number = (later.births slot seq (claimed slot seq taken number)).owner

    -- a slot that was taken is taken under the same number
    number_stays : (slot : ℕ) → (old.cells.gates slot).taken ≡ true → (after.cells.gates slot).taken ≡ true → (old.cells.gates slot).seq ≡ (after.cells.gates slot).seq
    number_stays slot was taken = either (steps.gates slot taken)
      where
        either : WasTaken old slot (after.cells.gates slot).seq ⊎ IsClaimed old after me.worker next.point slot (after.cells.gates slot).seq
            → (old.cells.gates slot).seq ≡ (after.cells.gates slot).seq
        either (inl before) = before.number
        either (inr claimed) = not_both (old.cells.gates slot).taken was claimed.was_free

    -- A request that turns to the status of a change will release the words held for it.
    turned_will_release : (tenant address slot seq : ℕ) → Turns next.point slot seq → me.tenant ≡ tenant → HasReleaser seen tenant address slot seq
    turned_will_release tenant address slot seq turns same_tenant = record {
      worker = me.worker;
      actor = next;
      is = one.goes_on;
      same_tenant = well.tenant ∙ same_tenant;
      pin = subst (λ (p : Point). 1 ≤ pins_held slot p) (sym turns.goes) (target_pinned turns.task slot turns.target_slot);
      will_release = subst (λ (p : Point). WillReleaseAt next (record { slot = slot; seq = seq }) address p) (sym turns.goes) (same_change_of turns.task.target slot seq turns.target_slot turns.target_seq);
    }

    own_will_release : (tenant address slot seq : ℕ) → old.cells.words tenant address ≡ Held slot seq → after.cells.words tenant address ≡ Held slot seq
        → IsRefused (old.history.fate slot seq) → me.tenant ≡ tenant → WillRelease me slot seq address → HasReleaser seen tenant address slot seq
    own_will_release tenant address slot seq was still refused same_tenant will_release = record {
      worker = me.worker;
      actor = next;
      is = one.goes_on;
      same_tenant = well.tenant ∙ same_tenant;
      pin = will_release_pinned next (record { slot = slot; seq = seq }) address next.point goes_on;
      will_release = goes_on;
    }
      where
        goes_on : WillReleaseAt next (record { slot = slot; seq = seq }) address next.point
        goes_on =
            well.will_release (record { slot = slot; seq = seq }) address (ap (λ (n : ℕ). old.cells.words n address) same_tenant ∙ was) refused
            (memory.references.held tenant address slot seq was).change.entry (ap (λ (n : ℕ). after.cells.words n address) same_tenant ∙ still) will_release

    refused_before : (tenant address slot seq : ℕ) → old.cells.words tenant address ≡ Held slot seq → after.cells.words tenant address ≡ Held slot seq
        → IsRefused (old.history.fate slot seq) → HasReleaser old tenant address slot seq → HasReleaser seen tenant address slot seq
    refused_before tenant address slot seq was still refused will_release = elim (cases_eq will_release.worker me.worker) [
      | inl same ↦
          let mine = is_me will_release.worker will_release.actor will_release.is same in
          own_will_release tenant address slot seq was still refused (sym (ap (λ (a : ActorState). a.tenant) mine) ∙ will_release.same_tenant) (subst (λ (a : ActorState). WillRelease a slot seq address) mine will_release.will_release)
      | inr apart ↦ record {
        worker = will_release.worker;
        actor = will_release.actor;
        is = one.others will_release.worker apart ∙ will_release.is;
        same_tenant = will_release.same_tenant;
        pin = will_release.pin;
        will_release = will_release.will_release;
      }
    ]

    refused_stay : (tenant address slot seq : ℕ) → after.cells.words tenant address ≡ Held slot seq → IsRefused (after.history.fate slot seq) → HasReleaser seen tenant address slot seq
    refused_stay tenant address slot seq still refused = by_word (steps.held tenant address slot seq still)
      where
        by_fate : old.cells.words tenant address ≡ Held slot seq → IsRefused (old.history.fate slot seq) ⊎ (Turns next.point slot seq × (old.history.tenant slot seq ≡ me.tenant))
            → HasReleaser seen tenant address slot seq
        by_fate was (inl before) = refused_before tenant address slot seq was still before (releasers.refused tenant address slot seq was before)
        by_fate was (inr turns) = turned_will_release tenant address slot seq turns.0 (sym turns.1 ∙ (memory.references.held tenant address slot seq was).change.same_tenant)

        by_word : (old.cells.words tenant address ≡ Held slot seq) ⊎ (Turns next.point slot seq × (me.tenant ≡ tenant)) → HasReleaser seen tenant address slot seq
        by_word (inl was) = by_fate was (steps.refused slot seq refused)
        by_word (inr turns) = turned_will_release tenant address slot seq turns.0 turns.1

    -- An owner stays, or has left its pin behind.
    abbrev Stays : ℕ → ℕ → Type 0
    Stays slot seq = after.history.stays slot seq ≡ true

    other_owner : (slot seq : ℕ) → after.history.owner slot seq ≡ old.history.owner slot seq → (owner : IsOwnerOf old slot seq) → old.history.owner slot seq ≢ me.worker → IsOwnerOf seen slot seq
    other_owner slot seq same owner apart = record {
      actor = owner.actor;
      is = ap (λ (n : ℕ). (new.worker_states n).actor) same ∙ one.others (old.history.owner slot seq) apart ∙ owner.is;
      own = owner.own;
      pin = owner.pin;
    }

    own_owner : (slot seq : ℕ) → after.history.owner slot seq ≡ me.worker → own_of next.point ≡ Some (record { slot = slot; seq = seq }) → IsOwnerOf seen slot seq
    own_owner slot seq same own = record {
      actor = next;
      is = ap (λ (n : ℕ). (new.worker_states n).actor) same ∙ one.goes_on;
      own = own;
      pin = own_pinned next.point (record { slot = slot; seq = seq }) own;
    }

    -- the request's own change, which isn't done with
    undone_own : (slot seq : ℕ) → IsUnfinished (old.history.fate slot seq) → (owner : IsOwnerOf old slot seq) → owner.actor ≡ me
        → (own_of next.point ≡ Some (record { slot = slot; seq = seq })) ⊎ Stays slot seq
    undone_own slot seq undone owner is_mine = well.owns (record { slot = slot; seq = seq }) mine not_yet
      where
        mine : own_of me.point ≡ Some (record { slot = slot; seq = seq })
        mine = subst (λ (a : ActorState). own_of a.point ≡ Some (record { slot = slot; seq = seq })) is_mine owner.own

        not_yet : (given : Slot) (reply : Reply) → me.point ≡ Unpin given (ThenReply reply) → ⊥
        not_yet given reply at =
            not_over old me (record { slot = slot; seq = seq }) undone 0 given reply (subst (λ (p : Point). Knows old me p) at informed.knows)
            (subst (λ (p : Point). own_of p ≡ Some (record { slot = slot; seq = seq })) at mine)

    undone_owner : (slot seq : ℕ) → after.history.owner slot seq ≡ old.history.owner slot seq → IsUnfinished (old.history.fate slot seq) → IsOwnerOf old slot seq
        → IsOwnerOf seen slot seq ⊎ Stays slot seq
    undone_owner slot seq same undone owner = elim (cases_eq (old.history.owner slot seq) me.worker) [
      | inl own ↦ by_own own (undone_own slot seq undone owner (is_me (old.history.owner slot seq) owner.actor owner.is own))
      | inr apart ↦ inl (other_owner slot seq same owner apart)
    ]
      where
        by_own : old.history.owner slot seq ≡ me.worker → (own_of next.point ≡ Some (record { slot = slot; seq = seq })) ⊎ Stays slot seq → IsOwnerOf seen slot seq ⊎ Stays slot seq
        by_own own (inl goes_on) = inl (own_owner slot seq (same ∙ own) goes_on)
        by_own own (inr left) = inr left

    undone_at : (slot seq : ℕ) → (old.cells.gates slot).taken ≡ true → (old.cells.gates slot).seq ≡ seq → IsUnfinished (old.history.fate slot seq)
        → IsOwnerOf old slot seq ⊎ (old.history.stays slot seq ≡ true)
    undone_at slot seq taken number undone =
        subst (λ (n : ℕ). IsOwnerOf old slot n ⊎ (old.history.stays slot n ≡ true)) number
        (releasers.unfinished slot taken (subst (λ (n : ℕ). IsUnfinished (old.history.fate slot n)) (sym number) undone))

    undone_on : (slot seq : ℕ) → (old.cells.gates slot).taken ≡ true → (old.cells.gates slot).seq ≡ seq → IsUnfinished (old.history.fate slot seq) → IsOwnerOf seen slot seq ⊎ Stays slot seq
    undone_on slot seq taken number undone = either (undone_at slot seq taken number undone)
      where
        either : IsOwnerOf old slot seq ⊎ (old.history.stays slot seq ≡ true) → IsOwnerOf seen slot seq ⊎ Stays slot seq
        either (inl owner) = undone_owner slot seq (same_owner slot seq taken number) undone owner
        either (inr stays) = inr (later.stays slot seq stays)

    undone_stay : (slot : ℕ) → (after.cells.gates slot).taken ≡ true → IsUnfinished (after.history.fate slot (after.cells.gates slot).seq)
        → IsOwnerOf seen slot (after.cells.gates slot).seq ⊎ Stays slot (after.cells.gates slot).seq
    undone_stay slot taken undone = by_gate (steps.gates slot taken)
      where
        by_gate : WasTaken old slot (after.cells.gates slot).seq ⊎ IsClaimed old after me.worker next.point slot (after.cells.gates slot).seq
            → IsOwnerOf seen slot (after.cells.gates slot).seq ⊎ Stays slot (after.cells.gates slot).seq
        by_gate (inl before) =
            let number = (after.cells.gates slot).seq in
            undone_on slot number before.was before.number
            (was_undone (old.history.fate slot number) (after.history.fate slot number) (later.done slot number) (later.refused slot number) (later.canceled slot number) undone)
        by_gate (inr claimed) = inl (own_owner slot (after.cells.gates slot).seq claimed.owner claimed.own)

    -- A cleaner stays, or has left its pin behind.
    cleaner_stays : (tenant address slot value seq : ℕ) → old.cells.words tenant address ≡ Dirty slot value → after.cells.words tenant address ≡ Dirty slot value
        → IsWrittenBy old tenant address value slot seq → IsCleanerOf old address slot seq → IsCleanerOf seen address slot seq ⊎ Stays slot seq
    unfolding own_owner other_owner
    cleaner_stays tenant address slot value seq was still written cleaner = elim (cases_eq (old.history.owner slot seq) me.worker) [
      | inl own ↦ by_me own (is_me (old.history.owner slot seq) cleaner.owner.actor cleaner.owner.is own)
      | inr apart ↦ inl (record { owner = other_owner slot seq same cleaner.owner apart; cleans = cleaner.cleans })
    ]
      where
        same : after.history.owner slot seq ≡ old.history.owner slot seq
        same = same_owner slot seq written.pinned.0.0 written.pinned.1

        by_me : old.history.owner slot seq ≡ me.worker → cleaner.owner.actor ≡ me → IsCleanerOf seen address slot seq ⊎ Stays slot seq
        by_me own mine = both (well.owns (record { slot = slot; seq = seq }) is_own not_yet)
            (well.cleans (record { slot = slot; seq = seq }) address value written_here was_here still_here is_own cleans)
          where
            is_own : own_of me.point ≡ Some (record { slot = slot; seq = seq })
            is_own = subst (λ (a : ActorState). own_of a.point ≡ Some (record { slot = slot; seq = seq })) mine cleaner.owner.own

            cleans : CleansAt me address me.point
            cleans = subst (λ (a : ActorState). CleansAt a address a.point) mine cleaner.cleans

            not_yet : (given : Slot) (reply : Reply) → me.point ≡ Unpin given (ThenReply reply) → ⊥
            not_yet given reply at = subst (λ (p : Point). CleansAt me address p) at cleans

            same_tenant : tenant ≡ me.tenant
            same_tenant = sym written.change.same_tenant ∙ (own_known old me (record { slot = slot; seq = seq }) me.point informed.knows is_own).same_tenant

            written_here : IsWrittenBy old me.tenant address value slot seq
            written_here = subst (λ (n : ℕ). IsWrittenBy old n address value slot seq) same_tenant written

            was_here : old.cells.words me.tenant address ≡ Dirty slot value
            was_here = subst (λ (n : ℕ). old.cells.words n address ≡ Dirty slot value) same_tenant was

            still_here : after.cells.words me.tenant address ≡ Dirty slot value
            still_here = subst (λ (n : ℕ). after.cells.words n address ≡ Dirty slot value) same_tenant still

            both : (own_of next.point ≡ Some (record { slot = slot; seq = seq })) ⊎ Stays slot seq → CleansAt next address next.point ⊎ Stays slot seq → IsCleanerOf seen address slot seq ⊎ Stays slot seq
            both (inl owns) (inl goes_on) = inl (record { owner = own_owner slot seq (same ∙ own) owns; cleans = goes_on })
            both (inr left) any = inr left
            both any (inr left) = inr left

    dirty_before : (tenant address slot value : ℕ) → old.cells.words tenant address ≡ Dirty slot value → after.cells.words tenant address ≡ Dirty slot value
        → IsCleanerOf seen address slot (after.cells.gates slot).seq ⊎ Stays slot (after.cells.gates slot).seq
    dirty_before tenant address slot value was still =
        subst (λ (n : ℕ). IsCleanerOf seen address slot n ⊎ Stays slot n) (number_stays slot written.pinned.0.0 (memory_after.references.dirty tenant address slot value still).pinned.0.0)
        (either (releasers.dirty tenant address slot value was))
      where
        written : IsWrittenBy old tenant address value slot (old.cells.gates slot).seq
        written = memory.references.dirty tenant address slot value was

        either : IsCleanerOf old address slot (old.cells.gates slot).seq ⊎ (old.history.stays slot (old.cells.gates slot).seq ≡ true)
            → IsCleanerOf seen address slot (old.cells.gates slot).seq ⊎ Stays slot (old.cells.gates slot).seq
        either (inl cleaner) = cleaner_stays tenant address slot value (old.cells.gates slot).seq was still written cleaner
        either (inr stays) = inr (later.stays slot (old.cells.gates slot).seq stays)

    -- A word that the request has written just now will be cleaned by the worker of the change.
    module _ (tenant address slot : ℕ) (inks : Inks old me.point tenant address slot) where
      held : IsHeldFor old tenant address inks.task.target.slot inks.task.target.seq
      held = memory.references.held tenant address inks.task.target.slot inks.task.target.seq inks.word

      undone : IsUnfinished (old.history.fate inks.task.target.slot inks.task.target.seq)
      undone = subst IsUnfinished (sym inks.made) tt

      writes : CleansAt next address next.point
      writes = well.writes tenant address slot inks

      write_new_owner : IsOwnerOf old inks.task.target.slot inks.task.target.seq
          → IsCleanerOf seen address inks.task.target.slot inks.task.target.seq ⊎ Stays inks.task.target.slot inks.task.target.seq
      unfolding own_owner other_owner
      write_new_owner owner = elim (cases_eq (old.history.owner inks.task.target.slot inks.task.target.seq) me.worker) [
        | inl own ↦
            by_own own (undone_own inks.task.target.slot inks.task.target.seq undone owner
            (is_me (old.history.owner inks.task.target.slot inks.task.target.seq) owner.actor owner.is own))
        | inr apart ↦ inl (record {
          owner = other_owner inks.task.target.slot inks.task.target.seq same owner apart;
          cleans = knows_cleans old owner.actor (record { slot = inks.task.target.slot; seq = inks.task.target.seq }) undone address owner.actor.point
              (seated (old.history.owner inks.task.target.slot inks.task.target.seq) owner.actor owner.is).informed.knows owner.own;
        })
      ]
        where
          same : after.history.owner inks.task.target.slot inks.task.target.seq ≡ old.history.owner inks.task.target.slot inks.task.target.seq
          same = same_owner inks.task.target.slot inks.task.target.seq held.pinned.0.0 held.pinned.1

          by_own : old.history.owner inks.task.target.slot inks.task.target.seq ≡ me.worker
              → (own_of next.point ≡ Some (record { slot = inks.task.target.slot; seq = inks.task.target.seq })) ⊎ Stays inks.task.target.slot inks.task.target.seq
              → IsCleanerOf seen address inks.task.target.slot inks.task.target.seq ⊎ Stays inks.task.target.slot inks.task.target.seq
          by_own own (inl owns) = inl (record { owner = own_owner inks.task.target.slot inks.task.target.seq (same ∙ own) owns; cleans = writes })
          by_own own (inr left) = inr left

      write_new_cleaner : IsCleanerOf seen address inks.task.target.slot inks.task.target.seq ⊎ Stays inks.task.target.slot inks.task.target.seq
      write_new_cleaner = either (undone_at inks.task.target.slot inks.task.target.seq held.pinned.0.0 held.pinned.1 undone)
        where
          either : IsOwnerOf old inks.task.target.slot inks.task.target.seq ⊎ (old.history.stays inks.task.target.slot inks.task.target.seq ≡ true)
              → IsCleanerOf seen address inks.task.target.slot inks.task.target.seq ⊎ Stays inks.task.target.slot inks.task.target.seq
          either (inl owner) = write_new_owner owner
          either (inr stays) = inr (later.stays inks.task.target.slot inks.task.target.seq stays)

      write_new_cleans : (after.cells.gates slot).taken ≡ true → IsCleanerOf seen address slot (after.cells.gates slot).seq ⊎ Stays slot (after.cells.gates slot).seq
      write_new_cleans taken =
          subst (λ (n : ℕ). IsCleanerOf seen address n (after.cells.gates n).seq ⊎ Stays n (after.cells.gates n).seq) inks.target_slot
          (subst (λ (n : ℕ). IsCleanerOf seen address inks.task.target.slot n ⊎ Stays inks.task.target.slot n) number write_new_cleaner)
        where
          number : inks.task.target.seq ≡ (after.cells.gates inks.task.target.slot).seq
          number =
              sym held.pinned.1
              ∙ number_stays inks.task.target.slot held.pinned.0.0 (subst (λ (n : ℕ). (after.cells.gates n).taken ≡ true) (sym inks.target_slot) taken)

    dirty_stay : (tenant address slot value : ℕ) → after.cells.words tenant address ≡ Dirty slot value
        → IsCleanerOf seen address slot (after.cells.gates slot).seq ⊎ Stays slot (after.cells.gates slot).seq
    dirty_stay tenant address slot value still = either (steps.dirty tenant address slot value still)
      where
        either : (old.cells.words tenant address ≡ Dirty slot value) ⊎ Inks old me.point tenant address slot
            → IsCleanerOf seen address slot (after.cells.gates slot).seq ⊎ Stays slot (after.cells.gates slot).seq
        either (inl was) = dirty_before tenant address slot value was still
        either (inr inks) = write_new_cleans tenant address slot inks (memory_after.references.dirty tenant address slot value still).pinned.0.0

    pub words_stay : WordsHaveReleasers seen
    words_stay = record { refused = refused_stay; unfinished = undone_stay; dirty = dirty_stay }

-- A step that is no call on a file does so.
turn_well : (config : Config) (old : State) (actor : ActorState) (observation : Observation) → IsInformed config old actor → ChangesNoWord old.cells (asks actor) observation ⊎ ChangesAWord old.cells (asks actor) observation
    → Guards config old actor.worker (moves_told old actor.worker actor observation) → StepsWell config old (world_told old actor observation) actor (told old actor observation)
turn_well config old actor observation informed how guards = record {
  tenant = refl;
  later = others_rely_on_all config old actor.worker (moves_told old actor.worker actor observation) guards informed.memory;
  memory_after = moves_keep config old actor.worker (moves_told old actor.worker actor observation) guards informed.memory;
  steps = steps_on config old actor actor.point observation informed.knows guards;
  owns = λ own mine more. own_on config old actor actor.point observation own mine more;
  will_release = λ change address was refused entry still releasing. will_release_on config old actor change address was refused entry actor.point observation informed how still releasing;
  cleans = λ own address value written was still mine cleaning. cleaner_on config old actor own address value written was actor.point observation informed how still mine cleaning;
  writes = λ tenant address slot inks.
      subst (λ (p : Point). CleansAt (told old (record actor { point = p }) observation) address (told old (record actor { point = p }) observation).point) (sym inks.releases)
      (writes_cleans old actor address inks.task inks.entry observation);
}

pub steps_keep_releasers : StepsKeepReleasers
steps_keep_releasers config old new worker actor observation stand points seated releasers is how guards same one =
    subst (λ (by : ℕ). (old.worker_states by).actor ≡ Some actor → Guards config old by (moves_told old by actor observation) → OneStepped old new by (told old actor observation) → WordsHaveReleasers new)
    (seated worker actor is).same_worker
    (λ at its stepped. is_shared new (world_told old actor observation) same (λ (state : State). WordsHaveReleasers state)
    (words_stay config old new (world_told old actor observation) actor (told old actor observation) seated releasers at
    (turn_well config old actor observation (seated actor.worker actor at).informed how its) stepped))
    is guards one
