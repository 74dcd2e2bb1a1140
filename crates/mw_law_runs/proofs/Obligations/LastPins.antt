-- When a request takes back the last pin of a slot, no word refers to the slot. The reason: whoever will release such a word
-- holds a pin too.
-- Used by: last_pins_are_free, mw_law_store.
use Rattle.std.specs.Prelude.{ℕ, ◌≡◌, ◌≢◌, ◌<◌, ◌≤◌, ◌⊎◌, ◌+◌, ◌==◌, Bool, true, false, if◌then◌else◌, Option, Some, None}
use Rattle.std.proofs.Common.{refl, sym, ap, subst, ◌∙◌, inl, inr, arith}
use Rattle.std.proofs.lemmas.Bool.{cases_eq}
use Rattle.std.proofs.lemmas.Bool.Decides.{nat_tests}
use Rattle.mw_words.specs.declared.replies.Reply.{Reply}
use Rattle.mw_words.specs.declared.statuses.Status.{Status}
use Rattle.mw_words.specs.declared.statuses.Status.TheVariants.{Draft, Open, YesDirty, Yes, No, DoneYes, DoneNo}
use Rattle.mw_words.specs.declared.words.Word.TheVariants.{Planted, Held, Dirty}
use Rattle.mw_look.specs.Program.{Reading}
use Rattle.mw_look.specs.Runs.{if_same}
use Rattle.mw_look.specs.declared.points.Point.{Point as ReadPoint}
use Rattle.mw_look.specs.declared.points.Point.TheVariants.{Unpin as UnpinOfRead}
use Rattle.mw_actor.specs.declared.points.After.{After}
use Rattle.mw_actor.specs.declared.points.After.TheVariants.{Work, GiveUp as ThenGiveUp, Reply as ThenReply}
use Rattle.mw_actor.specs.declared.points.Point.{Point}
use Rattle.mw_actor.specs.declared.points.Point.TheVariants.{Read, CheckThenResolve, Resolve, Unpin}
use Rattle.mw_actor.specs.declared.points.Slot.{Slot}
use Rattle.mw_actor.specs.ActorState.{ActorState, entry_of}
use Rattle.mw_actor.specs.Balance.{task_pins}
use Rattle.mw_world.specs.declared.config.Config.{Config}
use Rattle.mw_world.specs.Definition.Counts.{pins_held, over_workers}
use Rattle.mw_world.specs.Definition.History.{NoAttempt, AttemptIn, standing_at}
use Rattle.mw_world.specs.Claim.Invariant.{IsRefused, IsHeldFor}
use Rattle.mw_world.specs.Claim.Obligations.{WillRelease, HasReleaser, GoesOn, CleansAt}
use Rattle.mw_world.specs.Definition.State.{State}
use Rattle.mw_law_runs.proofs.Counts.Sums.{over_at, over_two, of_actor}
use Rattle.mw_law_runs.specs.Counts.CountInvariant.{CountsStand}
use Rattle.mw_law_runs.specs.Knowledge.Facts.{IsOver}
use Rattle.mw_law_runs.specs.Knowledge.LastPins.{IsFreeOfWords, MayLeave, ReadMayLeave}
use Rattle.mw_law_runs.specs.Knowledge.Points.{Knows, without_point}
use Rattle.mw_law_runs.specs.Moves.Guards.{NoWordRefers}
use Rattle.mw_law_runs.specs.Moves.Memory.{Memory}
use Rattle.mw_law_runs.specs.Moves.Steps.{PointsAreTold}
use Rattle.mw_law_runs.specs.ObligationLaws.{LastPinsAreFree}
use Rattle.mw_law_runs.specs.Obligations.{IsUnfinished, own_of, own_leaving, IsOwnerOf, IsCleanerOf, WordsHaveReleasers, HasItsRequest, HaveTheirRequests}
use Rattle.mw_law_runs.proofs.Obligations.Apart.{not_both, canceled_undone, done_undone}
use Rattle.mw_law_runs.proofs.Obligations.Pins.{some_same, none_some, counted_once, own_in_task, own_counted, target_pinned}

-- if a request holds the only pin, none was left behind
none_stayed : (stays : Bool) (pins held : ℕ) → pins ≡ held + (if stays then 1 else 0) → pins ≡ 1 → 1 ≤ held → stays ≡ false
none_stayed true pins held is one some = absurd (omega (arith, is, one, some))
none_stayed false pins held is one some = refl

at_rest : (tenant address number : ℕ) → AttemptIn tenant address number ≡ NoAttempt → ⊥
at_rest tenant address number is = cc

-- a worker's own attempt is this one
own_is : (b : Bool) (one_tenant one_address one_number tenant address number : ℕ) → (if b then AttemptIn one_tenant one_address one_number else NoAttempt) ≡ AttemptIn tenant address number
    → (b ≡ true) × (one_tenant ≡ tenant) × (one_address ≡ address) × (one_number ≡ number)
own_is true one_tenant one_address one_number tenant address number is = (refl, cc, cc, cc)
own_is false one_tenant one_address one_number tenant address number is = absurd (at_rest tenant address number (sym is))

same_number : (one other : ℕ) → (one == other) ≡ true → one ≡ other
same_number one other is = grind (arith, nat_tests, is)

-- The slot is the one that the attempt's row names.
named : (state : State) (request : ActorState) (attempt_worker attempt_number target_slot one_address tenant address other number slot : ℕ)
    → (state.cells.words request.tenant one_address ≡ Planted attempt_worker attempt_number → (state.cells.rows attempt_worker).slot ≡ target_slot)
    → (attempt_worker == request.worker) ≡ true → request.tenant ≡ tenant → one_address ≡ address → attempt_number ≡ number → request.worker ≡ other
    → state.cells.words tenant address ≡ Planted other number → (state.cells.rows other).slot ≡ slot → target_slot ≡ slot
named state request attempt_worker attempt_number target_slot one_address tenant address other number slot names own same_tenant same_address same same_worker stands row =
    sym (names there) ∙ ap (λ (worker : ℕ). (state.cells.rows worker).slot) by_other ∙ row
  where
    by_other : attempt_worker ≡ other
    by_other = same_number attempt_worker request.worker own ∙ same_worker

    there : state.cells.words request.tenant one_address ≡ Planted attempt_worker attempt_number
    there =
        ap (λ (t : ℕ). state.cells.words t one_address) same_tenant ∙ ap (λ (a : ℕ). state.cells.words tenant a) same_address ∙ stands
        ∙ ap (λ (w : ℕ). Planted w number) (sym by_other) ∙ ap (λ (n : ℕ). Planted attempt_worker n) (sym same)

-- A request whose attempt is in a word holds a pin of the slot that its worker's row names.
attempt_pinned : (state : State) (request : ActorState) (point : Point) (tenant address other number slot : ℕ) → Knows state request point
    → standing_at request point ≡ AttemptIn tenant address number → request.worker ≡ other → state.cells.words tenant address ≡ Planted other number
    → (state.cells.rows other).slot ≡ slot → 1 ≤ pins_held slot point
attempt_pinned state request (CheckThenResolve task entry attempt) tenant address other number slot knows stood same_worker stands row =
    let are = own_is (attempt.worker == request.worker) request.tenant (entry_of request task entry).addr attempt.number tenant address number stood in
    target_pinned task slot (named state request attempt.worker attempt.number task.target.slot (entry_of request task entry).addr tenant address other number slot knows.1.slot are.0 are.1 are.2 are.3 same_worker stands row)
attempt_pinned state request (Resolve task entry attempt was_open) tenant address other number slot knows stood same_worker stands row =
    let are = own_is (attempt.worker == request.worker) request.tenant (entry_of request task entry).addr attempt.number tenant address number stood in
    target_pinned task slot (named state request attempt.worker attempt.number task.target.slot (entry_of request task entry).addr tenant address other number slot knows.1.slot are.0 are.1 are.2 are.3 same_worker stands row)
attempt_pinned state request point tenant address other number slot knows stood same_worker stands row = absurd (at_rest tenant address number (sym stood))

-- A request that holds the last pin of a slot is the only one at the slot.
module _ (config : Config) (state : State) (worker : ℕ) (actor : ActorState) (stand : CountsStand config state) (told : PointsAreTold state) (seated : HaveTheirRequests config state)
    (releasers : WordsHaveReleasers state) (is : (state.worker_states worker).actor ≡ Some actor) (slot : ℕ) (some : 1 ≤ pins_held slot actor.point) (one : (state.cells.gates slot).pins ≡ 1) where
  memory : Memory config state
  memory = (seated worker actor is).informed.memory

  low : worker < config.workers
  low = (stand.worker_states worker actor is).there

  own_share : pins_held slot actor.point ≤ over_workers (λ a. pins_held slot a.point) state.worker_states config.workers
  own_share = omega (arith, over_at (λ a. pins_held slot a.point) state.worker_states worker config.workers low, of_actor (λ a. pins_held slot a.point) (state.worker_states worker) actor is)

  stays_not : state.history.stays slot (state.cells.gates slot).seq ≡ false
  stays_not =
      none_stayed (state.history.stays slot (state.cells.gates slot).seq) (state.cells.gates slot).pins (over_workers (λ a. pins_held slot a.point) state.worker_states config.workers)
      (stand.counts.pins slot) one (omega (arith, some, own_share))

  holds_one : pins_held slot actor.point ≤ 1
  holds_one = omega (arith, one, own_share, stand.counts.pins slot)

  alone : (other : ℕ) (request : ActorState) → (state.worker_states other).actor ≡ Some request → 1 ≤ pins_held slot request.point → other ≡ worker
  alone other request its holds = elim (cases_eq other worker) [
    | inl e ↦ e
    | inr apart ↦
        absurd (omega (
          arith,
          some,
          holds,
          one,
          stand.counts.pins slot,
          over_two (λ a. pins_held slot a.point) state.worker_states other worker config.workers (stand.worker_states other request its).there low apart,
          of_actor (λ a. pins_held slot a.point) (state.worker_states other) request its,
          of_actor (λ a. pins_held slot a.point) (state.worker_states worker) actor is,
        ))
  ]

  -- whoever holds a pin of the slot is this request
  is_this : (other : ℕ) (request : ActorState) → (state.worker_states other).actor ≡ Some request → 1 ≤ pins_held slot request.point → request ≡ actor
  is_this other request its holds = some_same request actor (sym its ∙ ap (λ (by : ℕ). (state.worker_states by).actor) (alone other request its holds) ∙ is)

  -- At its point the request will release no word that refers to the slot.
  module _ (rests : standing_at actor actor.point ≡ NoAttempt) (will_release_not : (seq address : ℕ) → WillRelease actor slot seq address → ⊥)
      (owns_not : (seq : ℕ) → own_of actor.point ≡ Some (record { slot = slot; seq = seq }) → IsUnfinished (state.history.fate slot seq) → ⊥)
      (cleans_not : (seq address : ℕ) → own_of actor.point ≡ Some (record { slot = slot; seq = seq }) → CleansAt actor address actor.point → ⊥) where
    no_attempt : (tenant address other number : ℕ) → state.cells.words tenant address ≡ Planted other number → (state.cells.rows other).slot ≢ slot
    no_attempt tenant address other number stands row = by_worker_state (state.worker_states other).actor refl
      where
        standing : state.history.standing other ≡ AttemptIn tenant address number
        standing = (memory.references.planted tenant address other number stands).stands

        by_worker_state : (worker_state : Option ActorState) → (state.worker_states other).actor ≡ worker_state → ⊥
        by_worker_state None idle = at_rest tenant address number (sym standing ∙ (told.idle other idle).0)
        by_worker_state (Some request) its = at_rest tenant address number (sym stood ∙ ap (λ (a : ActorState). standing_at a a.point) same ∙ rests)
          where
            worker_state : HasItsRequest config state other request
            worker_state = seated other request its

            stood : standing_at request request.point ≡ AttemptIn tenant address number
            stood = sym (told.standing other request its) ∙ standing

            same : request ≡ actor
            same = is_this other request its (attempt_pinned state request request.point tenant address other number slot worker_state.informed.knows stood worker_state.same_worker stands row)

    no_owner : IsOwnerOf state slot (state.cells.gates slot).seq → IsUnfinished (state.history.fate slot (state.cells.gates slot).seq) → ⊥
    no_owner owner undone =
        let seq = (state.cells.gates slot).seq in
        let same = is_this (state.history.owner slot seq) owner.actor owner.is owner.pin in
        owns_not seq (subst (λ (a : ActorState). own_of a.point ≡ Some (record { slot = slot; seq = seq })) same owner.own) undone

    none_undone : (state.cells.gates slot).taken ≡ true → IsUnfinished (state.history.fate slot (state.cells.gates slot).seq) → ⊥
    none_undone taken undone = by_owner (releasers.unfinished slot taken undone)
      where
        by_owner : IsOwnerOf state slot (state.cells.gates slot).seq ⊎ (state.history.stays slot (state.cells.gates slot).seq ≡ true) → ⊥
        by_owner (inl owner) = no_owner owner undone
        by_owner (inr stays) = not_both (state.history.stays slot (state.cells.gates slot).seq) stays stays_not

    none_refused : (tenant address seq : ℕ) → HasReleaser state tenant address slot seq → ⊥
    none_refused tenant address seq releasers = will_release_not seq address (subst (λ (a : ActorState). WillRelease a slot seq address) (is_this releasers.worker releasers.actor releasers.is releasers.pin) releasers.will_release)

    no_held : (tenant address seq : ℕ) → state.cells.words tenant address ≢ Held slot seq
    no_held tenant address seq is_held = by_fate (state.history.fate slot seq) refl
      where
        found : IsHeldFor state tenant address slot seq
        found = memory.references.held tenant address slot seq is_held

        undone_not : IsUnfinished (state.history.fate slot seq) → ⊥
        undone_not undone = none_undone found.pinned.0.0 (subst (λ (n : ℕ). IsUnfinished (state.history.fate slot n)) (sym found.pinned.1) undone)

        refused_not : IsRefused (state.history.fate slot seq) → ⊥
        refused_not refused = none_refused tenant address seq (releasers.refused tenant address slot seq is_held refused)

        by_fate : (fate : Status) → state.history.fate slot seq ≡ fate → ⊥
        by_fate Draft e = undone_not (subst IsUnfinished (sym e) tt)
        by_fate Open e = undone_not (subst IsUnfinished (sym e) tt)
        by_fate YesDirty e = undone_not (subst IsUnfinished (sym e) tt)
        by_fate Yes e = undone_not (subst IsUnfinished (sym e) tt)
        by_fate DoneYes e = found.not_done e
        by_fate (No entry value) e = refused_not (subst IsRefused (sym e) tt)
        by_fate (DoneNo entry value) e = refused_not (subst IsRefused (sym e) tt)

    no_dirty : (tenant address value : ℕ) → state.cells.words tenant address ≢ Dirty slot value
    no_dirty tenant address value is_dirty = by_cleaner (releasers.dirty tenant address slot value is_dirty)
      where
        by_cleaner : IsCleanerOf state address slot (state.cells.gates slot).seq ⊎ (state.history.stays slot (state.cells.gates slot).seq ≡ true) → ⊥
        by_cleaner (inl cleaner) =
            let seq = (state.cells.gates slot).seq in
            let owner = cleaner.owner in
            let same = is_this (state.history.owner slot seq) owner.actor owner.is owner.pin in
            cleans_not seq address (subst (λ (a : ActorState). own_of a.point ≡ Some (record { slot = slot; seq = seq })) same owner.own)
            (subst (λ (a : ActorState). CleansAt a address a.point) same cleaner.cleans)
        by_cleaner (inr stays) = not_both (state.history.stays slot (state.cells.gates slot).seq) stays stays_not

    none_refers : NoWordRefers state slot
    none_refers = record { held = no_held; dirty = no_dirty; planted = no_attempt }

-- a change that is done with isn't unfinished
pub over_done : (actor : ActorState) (fate : Status) (reply : Reply) → IsOver actor fate reply → IsUnfinished fate → ⊥
over_done actor Draft reply over undone = over
over_done actor Open reply over undone = over
over_done actor YesDirty reply over undone = over
over_done actor Yes reply over undone = over
over_done actor (No entry value) reply over undone = over
over_done actor DoneYes reply over undone = done_undone undone
over_done actor (DoneNo entry value) reply over undone = canceled_undone entry value undone

module _ (config : Config) (state : State) (worker : ℕ) (stand : CountsStand config state) (told : PointsAreTold state) (seated : HaveTheirRequests config state) (releasers : WordsHaveReleasers state) where
  -- a change takes a pin back
  module _ (base : ActorState) (given : Slot) (onward : After) (is : (state.worker_states worker).actor ≡ Some (record base { point = Unpin given onward })) (one : (state.cells.gates given.slot).pins ≡ 1) where
    some : 1 ≤ pins_held given.slot (Unpin given onward)
    some = omega (arith, counted_once given.slot given.slot refl)

    only_one : (others : ℕ) → pins_held given.slot (Unpin given onward) ≡ 1 + others → 1 ≤ others → ⊥
    only_one others counts more = omega (arith, counts, more, holds_one config state worker (record base { point = Unpin given onward }) stand told seated releasers is given.slot some one)

    own_over : (seq : ℕ) → Some given ≡ Some (record { slot = given.slot; seq = seq }) → (reply : Reply)
        → IsOver (without_point base) (state.history.fate given.slot given.seq) reply → IsUnfinished (state.history.fate given.slot seq) → ⊥
    own_over seq own reply over undone =
        over_done (without_point base) (state.history.fate given.slot given.seq) reply over
        (subst (λ (n : ℕ). IsUnfinished (state.history.fate given.slot n)) (sym (ap (λ (found : Slot). found.seq) (some_same given (record { slot = given.slot; seq = seq }) own))) undone)

  at_onward : (base : ActorState) (given : Slot) (onward : After) (is : (state.worker_states worker).actor ≡ Some (record base { point = Unpin given onward })) (one : (state.cells.gates given.slot).pins ≡ 1)
      → (seq : ℕ) → own_leaving given onward ≡ Some (record { slot = given.slot; seq = seq }) → IsUnfinished (state.history.fate given.slot seq) ⊎ GoesOn onward → ⊥
  at_onward base given (Work task) is one seq own undone =
      only_one base given (Work task) is one (task_pins given.slot task) (omega (arith, counted_once given.slot given.slot refl)) (own_in_task task (record { slot = given.slot; seq = seq }) own)
  at_onward base given (ThenGiveUp mine undecided) is one seq own undone =
      only_one base given (ThenGiveUp mine undecided) is one (if_same mine.slot given.slot) (omega (arith, counted_once given.slot given.slot refl))
      (omega (arith, own_counted mine (record { slot = given.slot; seq = seq }) own))
  at_onward base given (ThenReply reply) is one seq own (inl undone) =
      own_over base given (ThenReply reply) is one seq own reply (seated worker (record base { point = Unpin given (ThenReply reply) }) is).informed.knows.2.1 undone
  at_onward base given (ThenReply reply) is one seq own (inr goes_on) = goes_on

  at_unpin : (base : ActorState) (given : Slot) (onward : After) → (state.worker_states worker).actor ≡ Some (record base { point = Unpin given onward }) → IsFreeOfWords state given.slot
  at_unpin base given onward is one =
      none_refers config state worker (record base { point = Unpin given onward }) stand told seated releasers is given.slot (some base given onward is one) one refl (λ seq address will_release. will_release)
      (λ seq own undone. at_onward base given onward is one seq own (inl undone)) (λ seq address own cleans. at_onward base given onward is one seq own (inr cleans))

  -- a read takes its pin back
  at_read : (base : ActorState) (look : Reading) (point : ReadPoint) → (state.worker_states worker).actor ≡ Some (record base { point = Read (record look { point = point }) }) → ReadMayLeave state point
  at_read base look (UnpinOfRead slot seq onward) is =
      λ one. none_refers config state worker (record base { point = Read (record look { point = UnpinOfRead slot seq onward }) }) stand told seated releasers is slot
      (omega (arith, counted_once slot slot refl)) one refl (λ number address will_release. will_release)
      (λ number own undone. none_some (record { slot = slot; seq = number }) own) (λ number address own cleans. none_some (record { slot = slot; seq = number }) own)
  at_read base look point is = tt

  at_point : (base : ActorState) (point : Point) → (state.worker_states worker).actor ≡ Some (record base { point = point }) → MayLeave state point
  at_point base (Read look) is = at_read base look look.point is
  at_point base (Unpin given onward) is = at_unpin base given onward is
  at_point base point is = tt

pub last_pins_are_free : LastPinsAreFree
last_pins_are_free config state worker actor stand told seated releasers is = at_point config state worker stand told seated releasers actor actor.point is
