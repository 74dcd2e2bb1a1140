-- A call on a file that succeeds keeps `HasFiles`: the shared words agree with the tenants' files. Used by: CallFiles.
use Rattle.std.specs.Prelude.{ℕ, ◌≡◌, ◌≢◌, ◌<◌, ◌⊎◌, ◌==◌, ◌&&◌, Bool, true, false, if◌then◌else◌, List, length, is_some, Option, Some, None}
use Rattle.std.specs.Option.{option_map_or}
use Rattle.std.proofs.Common.{refl, sym, ap, subst, ◌∙◌, inl, inr, arith}
use Rattle.std.proofs.lemmas.Bool.Decides.{nat_tests}
use Rattle.mw_words.specs.declared.jobs.Entry.{Entry}
use Rattle.mw_words.specs.declared.statuses.Status.{Status}
use Rattle.mw_words.specs.declared.statuses.Status.TheVariants.{Open, Yes, No, DoneYes, DoneNo}
use Rattle.mw_words.specs.Change.{is_change, put, rises_from, word_at}
use Rattle.mw_look.specs.declared.steps.Call.TheVariants.{Prepare as PrepareCall, Seal as SealCall, Settle as SettleCall, Cancel as CancelCall}
use Rattle.mw_actor.specs.declared.points.Slot.{Slot}
use Rattle.mw_actor.specs.ActorState.{ActorState, own_entries}
use Rattle.mw_world.specs.Files.State.{File, Place, Empty, Prepared, Sealed, is_empty, entries_in, entries_at, prepared, emptied}
use Rattle.mw_world.specs.Maps.{upd, upd_two}
use Rattle.mw_world.specs.declared.config.Config.{Config}
use Rattle.mw_world.specs.Claim.Invariant.{placed}
use Rattle.mw_world.specs.Definition.Calls.{goes_well}
use Rattle.mw_world.specs.Definition.History.{entry_for, has, new}
use Rattle.mw_world.specs.Definition.Logical.{logical}
use Rattle.mw_world.specs.Definition.State.{State, TenantState, tenant_at, tenants_of}
use Rattle.mw_world.specs.Definition.Turns.{moved}
use Rattle.mw_law_runs.specs.Moves.Guards.{IsLive, MayPrepare, MaySeal, MaySettle, MayCancel}
use Rattle.mw_law_runs.specs.Moves.Memory.{Memory}
use Rattle.mw_law_runs.specs.Moves.Moves.{Prepare, Settle, Cancel}
use Rattle.mw_law_runs.proofs.Moves.ValuesOverMoves.{moves_keep_values, seals_put_values}
use Rattle.mw_law_runs.proofs.Knowledge.Updates.Preservation.{upd_here, upd_else}
use Rattle.mw_law_runs.proofs.Numbers.{same_or_other}
use Rattle.mw_law_store.specs.Files.Files.{places_in, places_of}
use Rattle.mw_law_store.proofs.Files.Filed.{due_kept, due_set, emptied_agrees, prepared_agrees, put_at, sealed_agrees}
use Rattle.mw_law_store.proofs.Files.PlacesBySlot.{ArePlaced, changes, empties, prepares}
use Rattle.mw_law_store.proofs.Files.StepsLeaveFiles.{tenant_state_as, agrees_same, filed_same}
use Rattle.mw_law_store.proofs.Files.Tenants.{Agrees, AreFiled, IsFiled, due, due_of}

-- a file is the same in a world and in the tenant's state there
pub filed_at : (config : Config) (next : State) (tenant : ℕ) (tenant_state : TenantState) → next.tenant_states tenant ≡ tenant_state
    → Agrees (tenant_at config tenant).words (next.cells.doors tenant).fault tenant_state.is_up (logical next.cells tenant) tenant_state.file
    → ArePlaced (places_in config tenant tenant_state) (due next tenant) tenant_state.file → IsFiled config next tenant
filed_at config next tenant tenant_state is agrees places = record {
  agrees = subst (λ (one : TenantState). Agrees (tenant_at config tenant).words (next.cells.doors tenant).fault one.is_up (logical next.cells tenant) one.file) (sym is) agrees;
  places = subst (λ (one : TenantState). ArePlaced (places_in config tenant one) (due next tenant) one.file) (sym is) places;
}

pub either_tenant : (config : Config) (next : State) (tenant : ℕ) → IsFiled config next tenant → ((other : ℕ) → other ≢ tenant → other < tenants_of config → IsFiled config next other) → AreFiled config next
either_tenant config next tenant here there other low = by_tenant (same_or_other other tenant)
  where
    by_tenant : (other ≡ tenant) ⊎ (other ≢ tenant) → IsFiled config next other
    by_tenant (inl same) = subst (IsFiled config next) (sym same) here
    by_tenant (inr apart) = there other apart low

-- A request's call gives the change of a slot another status; the change is in the file of the request's tenant.
module _ (config : Config) (state : State) (actor : ActorState) (filed : AreFiled config state) (change : Slot) (live : IsLive state change)
    (its : state.history.tenant change.slot change.seq ≡ actor.tenant) where
  -- the place that is due to the slot
  pub due_live : due state actor.tenant change.slot ≡ placed (state.history.fate change.slot change.seq) (state.history.change change.slot change.seq)
  due_live = grind (arith, nat_tests, live.taken, live.seq, its)

  module _ (to : Status) (next : State) (tenant_state : TenantState)
      (dues : (tenant slot : ℕ) → due next tenant slot
      ≡ due_of (state.cells.gates slot) (state.history.tenant slot (state.cells.gates slot).seq) (upd_two state.history.fate change.slot change.seq to slot (state.cells.gates slot).seq)
      (state.history.change slot (state.cells.gates slot).seq) tenant)
      (faults : (tenant : ℕ) → (next.cells.doors tenant).fault ≡ (state.cells.doors tenant).fault)
      (tenant_states : (tenant : ℕ) → next.tenant_states tenant ≡ upd state.tenant_states actor.tenant tenant_state tenant)
      (values : (tenant address : ℕ) → tenant ≢ actor.tenant → logical next.cells tenant address ≡ logical state.cells tenant address) where
    -- another place is due to the slot alone
    pub sets : (slot : ℕ) → due next actor.tenant slot ≡ upd (due state actor.tenant) change.slot (placed to (state.history.change change.slot change.seq)) slot
    sets slot = dues actor.tenant slot
        ∙ due_set state.cells.gates state.history.tenant state.history.fate state.history.change actor.tenant change.slot change.seq to slot live.taken live.seq its

    pub good_filed : tenant_state.is_up ≡ (state.tenant_states actor.tenant).is_up
        → Agrees (tenant_at config actor.tenant).words (state.cells.doors actor.tenant).fault (state.tenant_states actor.tenant).is_up (logical next.cells actor.tenant) tenant_state.file
        → ArePlaced (places_in config actor.tenant tenant_state) (due next actor.tenant) tenant_state.file → AreFiled config next
    good_filed up agrees places =
        either_tenant config next actor.tenant
        (filed_at config next actor.tenant tenant_state (tenant_states actor.tenant ∙ upd_here state.tenant_states actor.tenant tenant_state)
        (agrees_same (tenant_at config actor.tenant).words (state.cells.doors actor.tenant).fault (next.cells.doors actor.tenant).fault (state.tenant_states actor.tenant).is_up tenant_state.is_up
        (logical next.cells actor.tenant) (logical next.cells actor.tenant) tenant_state.file (faults actor.tenant) up (λ address. refl) agrees) places)
        (λ other apart low. filed_same config state next other (λ slot. dues other slot ∙ kept other slot apart) (faults other) (λ address. values other address apart)
        (tenant_state_as config other (next.tenant_states other) (state.tenant_states other) (tenant_states other ∙ upd_else state.tenant_states actor.tenant other tenant_state apart)) (filed other low))
      where
        kept : (other slot : ℕ) → other ≢ actor.tenant
            → due_of (state.cells.gates slot) (state.history.tenant slot (state.cells.gates slot).seq) (upd_two state.history.fate change.slot change.seq to slot (state.cells.gates slot).seq)
            (state.history.change slot (state.cells.gates slot).seq) other ≡ due state other slot
        kept other slot apart =
            due_kept state.cells.gates state.history.tenant state.history.fate state.history.change other change.slot change.seq to slot (λ same. apart (sym same ∙ its))

-- the value that a change gives a word if it has an entry of it, else the old one
seal_value : (b : Bool) (found : Option Entry) (value : ℕ) → b ≡ true
    → (if b && is_some found then option_map_or (λ (entry : Entry). entry.new) found 0 else value) ≡ option_map_or (λ (entry : Entry). entry.new) found value
seal_value true None value is = refl
seal_value true (Some entry) value is = refl
seal_value false found value is = absurd (grind (arith, is))

addresses_rise : (words : ℕ) (entries : List Entry) → is_change words entries ≡ true → rises_from 0 entries ≡ true
addresses_rise words entries is = grind (arith, nat_tests, is)

prepared_entries : (place : Place) (entries : List Entry) → place ≡ Prepared entries → entries_in place ≡ entries
prepared_entries place entries is = ap entries_in is

module _ (config : Config) (state : State) (actor : ActorState) (filed : AreFiled config state) (memory : Memory config state) (low : actor.tenant < tenants_of config)
    (change : Slot) (live : IsLive state change) (its : state.history.tenant change.slot change.seq ≡ actor.tenant) where
  abbrev file : File
  file = (state.tenant_states actor.tenant).file

  abbrev entries : List Entry
  entries = state.history.change change.slot change.seq

  -- a change is prepared in a place that is empty
  pub prepare_filed : (status : Status) (place : ℕ) → MayPrepare state actor.worker change → entries ≡ own_entries actor → place < places_of config state actor.tenant → is_empty (file.places place) ≡ true
      → AreFiled config (moved state actor.worker actor (goes_well state actor change file PrepareCall status place))
  prepare_filed status place may same within empty =
      let next = moved state actor.worker actor (goes_well state actor change file PrepareCall status place) in
      let now : (tenant address : ℕ) → logical next.cells tenant address ≡ logical state.cells tenant address =
      λ tenant address. moves_keep_values config state actor.worker (Prepare change) tenant address refl may memory in
      good_filed config state actor filed change live its Open next _ (λ tenant slot. refl) (λ tenant. refl) (λ tenant. refl) (λ tenant address apart. now tenant address) refl
      (agrees_same (tenant_at config actor.tenant).words (state.cells.doors actor.tenant).fault (state.cells.doors actor.tenant).fault (state.tenant_states actor.tenant).is_up (state.tenant_states actor.tenant).is_up
      (logical state.cells actor.tenant) (logical next.cells actor.tenant) (prepared file change.slot place (own_entries actor)) refl refl (now actor.tenant)
      (prepared_agrees (tenant_at config actor.tenant).words (state.cells.doors actor.tenant).fault (state.tenant_states actor.tenant).is_up (logical state.cells actor.tenant) file (filed actor.tenant low).agrees change.slot place (own_entries actor)))
      (prepares (places_of config state actor.tenant) (due state actor.tenant) (due next actor.tenant) file (filed actor.tenant low).places change.slot place (own_entries actor)
      (ap is_empty (due_live config state actor filed change live its ∙ ap (λ (one : Status). placed one entries) may.draft)) within empty
      (λ slot. subst (λ (those : List Entry). due next actor.tenant slot ≡ upd (due state actor.tenant) change.slot (Prepared those) slot) same
      (sets config state actor filed change live its Open next _ (λ tenant slot. refl) (λ tenant. refl) (λ tenant. refl) (λ tenant address apart. now tenant address) slot)))

  -- a made change, or a refused one, leaves the file
  module _ (fate to : Status) (is : state.history.fate change.slot change.seq ≡ fate) (there : is_empty (placed fate entries) ≡ false) (out : placed to entries ≡ Empty) where
    in_use : is_empty (due state actor.tenant change.slot) ≡ false
    in_use = ap is_empty (due_live config state actor filed change live its ∙ ap (λ (one : Status). placed one entries) is) ∙ there

    out_filed : (next : State) (tenant_state : TenantState)
        → ((tenant slot : ℕ) → due next tenant slot
        ≡ due_of (state.cells.gates slot) (state.history.tenant slot (state.cells.gates slot).seq) (upd_two state.history.fate change.slot change.seq to slot (state.cells.gates slot).seq)
        (state.history.change slot (state.cells.gates slot).seq) tenant)
        → ((tenant : ℕ) → (next.cells.doors tenant).fault ≡ (state.cells.doors tenant).fault) → ((tenant : ℕ) → next.tenant_states tenant ≡ upd state.tenant_states actor.tenant tenant_state tenant)
        → ((tenant address : ℕ) → logical next.cells tenant address ≡ logical state.cells tenant address) → tenant_state.is_up ≡ (state.tenant_states actor.tenant).is_up
        → places_in config actor.tenant tenant_state ≡ places_of config state actor.tenant → tenant_state.file ≡ emptied file (file.place_of change.slot) → AreFiled config next
    out_filed next tenant_state dues faults tenant_states values up as_many after =
        good_filed config state actor filed change live its to next tenant_state dues faults tenant_states (λ tenant address apart. values tenant address) up
        (subst (λ (one : File). Agrees (tenant_at config actor.tenant).words (state.cells.doors actor.tenant).fault (state.tenant_states actor.tenant).is_up (logical next.cells actor.tenant) one) (sym after)
        (agrees_same (tenant_at config actor.tenant).words (state.cells.doors actor.tenant).fault (state.cells.doors actor.tenant).fault (state.tenant_states actor.tenant).is_up (state.tenant_states actor.tenant).is_up
        (logical state.cells actor.tenant) (logical next.cells actor.tenant) (emptied file (file.place_of change.slot)) refl refl (values actor.tenant)
        (emptied_agrees (tenant_at config actor.tenant).words (state.cells.doors actor.tenant).fault (state.tenant_states actor.tenant).is_up (logical state.cells actor.tenant) file (filed actor.tenant low).agrees (file.place_of change.slot))))
        (subst (λ (places : ℕ). ArePlaced places (due next actor.tenant) tenant_state.file) (sym as_many)
        (subst (λ (one : File). ArePlaced (places_of config state actor.tenant) (due next actor.tenant) one) (sym after)
        (empties (places_of config state actor.tenant) (due state actor.tenant) (due next actor.tenant) file (filed actor.tenant low).places change.slot (file.place_of change.slot) in_use refl
        (λ slot. subst (λ (place : Place). due next actor.tenant slot ≡ upd (due state actor.tenant) change.slot place slot) out
        (sets config state actor filed change live its to next tenant_state dues faults tenant_states (λ tenant address apart. values tenant address) slot)))))

  pub settle_filed : (status : Status) → MaySettle state change
      → AreFiled config (moved state actor.worker actor (goes_well state actor change file SettleCall status (file.place_of change.slot)))
  settle_filed status may =
      let next = moved state actor.worker actor (goes_well state actor change file SettleCall status (file.place_of change.slot)) in
      out_filed Yes DoneYes may.is_made refl refl next _ (λ tenant slot. refl) (λ tenant. refl) (λ tenant. refl)
      (λ tenant address. moves_keep_values config state actor.worker (Settle change) tenant address refl may memory) refl refl refl

  pub cancel_filed : (entry value : ℕ) → MayCancel state change entry value
      → AreFiled config (moved state actor.worker actor (goes_well state actor change file CancelCall (No entry value) (file.place_of change.slot)))
  cancel_filed entry value may =
      let next = moved state actor.worker actor (goes_well state actor change file CancelCall (No entry value) (file.place_of change.slot)) in
      out_filed (No entry value) (DoneNo entry value) may.refused refl refl next _ (λ tenant slot. refl) (λ tenant. refl) (λ tenant. refl)
      (λ tenant address. moves_keep_values config state actor.worker (Cancel change entry value) tenant address refl may memory) refl refl refl

  -- a change is sealed
  module _ (status : Status) (may : MaySeal state change) where
    abbrev after : State
    after = moved state actor.worker actor (goes_well state actor change file SealCall status (file.place_of change.slot))

    prepared_there : due state actor.tenant change.slot ≡ Prepared entries
    prepared_there = due_live config state actor filed change live its ∙ ap (λ (one : Status). placed one entries) may.decided

    entries_there : entries_at file (file.place_of change.slot) ≡ entries
    entries_there = prepared_entries (file.places (file.place_of change.slot)) entries ((filed actor.tenant low).places.there change.slot (ap is_empty prepared_there) ∙ prepared_there)

    is_formed : is_change (tenant_at config actor.tenant).words entries ≡ true
    is_formed =
        subst (λ (tenant : ℕ). is_change (tenant_at config tenant).words entries ≡ true) its
        (memory.claims.formed change.slot change.seq (subst (λ (seq : ℕ). state.history.is_claimed change.slot seq ≡ true) live.seq (memory.claims.claimed change.slot live.taken))).1

    others_kept : (tenant address : ℕ) → tenant ≢ actor.tenant → logical after.cells tenant address ≡ logical state.cells tenant address
    others_kept tenant address apart =
        seals_put_values config state actor.worker change tenant address may memory
        ∙ others (state.history.tenant change.slot change.seq == tenant) (has state.history change.slot change.seq address) (grind (arith, nat_tests, apart, its))
      where
        others : (one two : Bool) → one ≡ false
            → (if one && two then new state.history change.slot change.seq address else logical state.cells tenant address) ≡ logical state.cells tenant address
        others one two is = grind (arith, is)

    puts : (address : ℕ) → address < length file.contents → logical state.cells actor.tenant address ≡ word_at file.contents address
        → logical after.cells actor.tenant address ≡ word_at (put file.contents (entries_at file (file.place_of change.slot))) address
    puts address within was =
        seals_put_values config state actor.worker change actor.tenant address may memory
        ∙ seal_value (state.history.tenant change.slot change.seq == actor.tenant) (entry_for entries address) (logical state.cells actor.tenant address) (grind (arith, nat_tests, its))
        ∙ ap (λ (value : ℕ). option_map_or (λ (entry : Entry). entry.new) (entry_for entries address) value) was
        ∙ sym (put_at entries 0 file.contents address (addresses_rise (tenant_at config actor.tenant).words entries is_formed) within)
        ∙ ap (λ (those : List Entry). word_at (put file.contents those) address) (sym entries_there)

    pub seal_filed : AreFiled config after
    seal_filed =
        let agrees = (filed actor.tenant low).agrees in
        let place = file.place_of change.slot in
        good_filed config state actor filed change live its Yes after _ (λ tenant slot. refl) (λ tenant. refl) (λ tenant. refl) others_kept refl
        (sealed_agrees (tenant_at config actor.tenant).words (state.cells.doors actor.tenant).fault (state.tenant_states actor.tenant).is_up (logical state.cells actor.tenant) file agrees place
        (logical after.cells actor.tenant) (λ up address within was. puts address (subst (λ (many : ℕ). address < many) (sym agrees.long) within) was))
        (changes (places_of config state actor.tenant) (due state actor.tenant) (due after actor.tenant) file (filed actor.tenant low).places change.slot (put file.contents (entries_at file place)) place
        (Sealed (entries_at file place)) (ap is_empty prepared_there) refl refl
        (λ slot. subst (λ (those : List Entry). due after actor.tenant slot ≡ upd (due state actor.tenant) change.slot (Sealed those) slot) (sym entries_there)
        (sets config state actor filed change live its Yes after _ (λ tenant slot. refl) (λ tenant. refl) (λ tenant. refl) others_kept slot)))
