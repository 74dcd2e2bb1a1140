-- If a request has come to a call on its file, the file can make the call.
-- Used by: calls_can_be_made, starts_find_words, mw_rule.
use Rattle.std.specs.Prelude.{ℕ, zero, suc, ◌≡◌, ◌<◌, ◌&&◌, not, Bool, true, false, if◌then◌else◌, nat_lt, List, length, bytes_eq, Some}
use Rattle.std.proofs.Common.{refl, sym, ap, subst, ◌∙◌, inl, inr, arith}
use Rattle.std.proofs.lemmas.Bool.Decides.{nat_tests}
use Rattle.std.proofs.lemmas.Slice.Eq.{bytes_eq-Decides}
use Rattle.mw_words.specs.declared.jobs.Entry.{Entry}
use Rattle.mw_words.specs.declared.statuses.Status.{Status}
use Rattle.mw_words.specs.declared.statuses.Status.TheVariants.{YesDirty, Yes, No}
use Rattle.mw_words.specs.Change.{is_change, put}
use Rattle.mw_look.specs.declared.steps.Call.TheVariants.{Prepare as PrepareCall, Seal as SealCall, Settle as SettleCall, Cancel as CancelCall}
use Rattle.mw_actor.specs.declared.points.Point.{Point}
use Rattle.mw_actor.specs.declared.points.Point.TheVariants.{Prepare, Seal, Settle, Cancel}
use Rattle.mw_actor.specs.declared.points.Slot.{Slot}
use Rattle.mw_actor.specs.declared.points.Task.{Task}
use Rattle.mw_actor.specs.ActorState.{ActorState, own_entries}
use Rattle.mw_world.specs.declared.outcomes.Outcome.TheVariants.{Good}
use Rattle.mw_world.specs.Files.State.{File, entries_at, entries_in, is_apart, is_empty, is_prepared, is_sealed, share_a_word}
use Rattle.mw_world.specs.declared.config.Config.{Config}
use Rattle.mw_world.specs.Claim.Headline.{CanBeMade}
use Rattle.mw_world.specs.Claim.Invariant.{placed}
use Rattle.mw_world.specs.Definition.Calls.{Called, called_at, can_be_made, place_for, starts_from}
use Rattle.mw_world.specs.Definition.Extent.{has_slot}
use Rattle.mw_world.specs.Definition.Restarts.{doubt_then, is_sealed_then, may_find, under_way}
use Rattle.mw_world.specs.Definition.State.{State, tenant_at}
use Rattle.mw_law_runs.specs.Knowledge.Informed.{IsInformed}
use Rattle.mw_law_runs.proofs.Knowledge.Calls.CallGuards.{cancels, seal_guards, settle_guards}
use Rattle.mw_law_runs.specs.Moves.Guards.{IsLive, MayCancel, MaySeal, MaySettle}
use Rattle.mw_law_runs.specs.Moves.Memory.{Memory}
use Rattle.mw_law_runs.specs.RunInvariant.{IsSound}
use Rattle.mw_law_runs.proofs.Obligations.Pins.{some_same, none_some}
use Rattle.mw_law_runs.proofs.RequestsInWorlds.{have_their_requests}
use Rattle.mw_law_store.specs.Files.Enabled.{CallsCanBeMade, StartsFindWords}
use Rattle.mw_law_store.specs.Files.Files.{HasFiles, places_of}
use Rattle.mw_law_store.proofs.Files.Apart.{two_apart}
use Rattle.mw_law_store.proofs.Files.Room.{outside_leaves_room}
use Rattle.mw_law_store.proofs.Files.Tenants.{IsFiled, are_filed, due, made_at}

-- A start.

same_bytes : (words : List ℕ) → bytes_eq words words ≡ true
same_bytes words = grind (arith, bytes_eq-Decides words words)

found_so : (is_sealed : Bool) (before : List ℕ) (doubt : List Entry) → may_find is_sealed before doubt (if is_sealed then put before doubt else before) ≡ true
found_so true before doubt = same_bytes (put before doubt)
found_so false before doubt = grind (arith, same_bytes before)

pub starts_find_words : StartsFindWords
starts_find_words config state tenant interrupted =
    let file = (state.tenant_states tenant).file in
    let call = under_way config state interrupted in
    record {
      words = if is_sealed_then call then put file.contents (doubt_then file call) else file.contents;
      found = found_so (is_sealed_then call) file.contents (doubt_then file call);
    }

-- A call.

below : (n limit : ℕ) → n < limit → nat_lt n limit ≡ true
below n limit low = grind (arith, nat_tests, low)

both : (one two : Bool) → one ≡ true → two ≡ true → (one && two) ≡ true
both one two here there = grind (arith, here, there)

all_three : (one two three : Bool) → one ≡ true → two ≡ true → three ≡ true → (one && two && three) ≡ true
all_three one two three here there last = grind (arith, here, there, last)

not_and : (one two : Bool) → (one ≡ true → two ≡ false) → not (one && two) ≡ true
not_and true two is = grind (arith, is refl)
not_and false two is = refl

module _ (config : Config) (state : State) (actor : ActorState) (memory : Memory config state) (filed : IsFiled config state actor.tenant) (change : Slot) (live : IsLive state change)
    (its : state.history.tenant change.slot change.seq ≡ actor.tenant) where
  abbrev file : File
  file = (state.tenant_states actor.tenant).file

  abbrev entries : List Entry
  entries = state.history.change change.slot change.seq

  pub slot_there : has_slot config change.slot ≡ true
  slot_there = below change.slot config.pool (memory.claims.there change.slot live.taken)

  due_is : due state actor.tenant change.slot ≡ placed (state.history.fate change.slot change.seq) entries
  due_is = grind (arith, nat_tests, live.taken, live.seq, its)

  -- the place of the change is as its status tells
  module _ (fate : Status) (is : state.history.fate change.slot change.seq ≡ fate) (some : is_empty (placed fate entries) ≡ false) where
    placed_so : due state actor.tenant change.slot ≡ placed fate entries
    placed_so = due_is ∙ ap (λ (one : Status). placed one entries) is

    pub stands : file.places (file.place_of change.slot) ≡ placed fate entries
    stands = filed.places.there change.slot (ap is_empty placed_so ∙ some) ∙ placed_so

    pub place_there : nat_lt (file.place_of change.slot) (places_of config state actor.tenant) ≡ true
    place_there = below (file.place_of change.slot) (places_of config state actor.tenant) (filed.places.within change.slot (ap is_empty placed_so ∙ some))

  -- a change that will be sealed has no word in common with a sealed one
  one_apart : state.history.fate change.slot change.seq ≡ YesDirty → (place : ℕ) → is_sealed (file.places place) ≡ true → share_a_word entries (entries_at file place) ≡ false
  one_apart decided place sealed =
      let at = made_at config state memory actor.tenant place filed sealed in
      subst (λ (those : List Entry). share_a_word entries those ≡ false) (sym at.entries)
      (two_apart config state memory change.slot change.seq at.slot (state.cells.gates at.slot).seq
      (λ same. differ (sym decided ∙ ap (λ (seq : ℕ). state.history.fate change.slot seq) (sym live.seq) ∙ ap (λ (slot : ℕ). state.history.fate slot (state.cells.gates slot).seq) same ∙ at.is_made))
      (its ∙ sym at.same_tenant) (inl decided) (inr at.is_made))
    where
      differ : YesDirty ≡ Yes → ⊥
      differ e = cc

  all_apart : state.history.fate change.slot change.seq ≡ YesDirty → (those : List Entry) → those ≡ entries → (many : ℕ) → is_apart file those many ≡ true
  all_apart decided those same zero = refl
  all_apart decided those same (suc place) =
      both (is_apart file those place) (not (is_sealed (file.places place) && share_a_word those (entries_at file place))) (all_apart decided those same place)
      (not_and (is_sealed (file.places place)) (share_a_word those (entries_at file place))
      (λ sealed. subst (λ (one : List Entry). share_a_word one (entries_at file place) ≡ false) (sym same) (one_apart decided place sealed)))

  pub may_seal : MaySeal state change → can_be_made SealCall file (places_of config state actor.tenant) (file.place_of change.slot) (own_entries actor) ≡ true
  may_seal may =
      let there = stands YesDirty may.decided refl in
      all_three (nat_lt (file.place_of change.slot) (places_of config state actor.tenant)) (is_prepared (file.places (file.place_of change.slot)))
      (is_apart file (entries_at file (file.place_of change.slot)) (places_of config state actor.tenant))
      (place_there YesDirty may.decided refl) (ap is_prepared there)
      (all_apart may.decided (entries_at file (file.place_of change.slot)) (ap entries_in there) (places_of config state actor.tenant))

  pub may_settle : MaySettle state change → can_be_made SettleCall file (places_of config state actor.tenant) (file.place_of change.slot) (own_entries actor) ≡ true
  may_settle may =
      both (nat_lt (file.place_of change.slot) (places_of config state actor.tenant)) (is_sealed (file.places (file.place_of change.slot)))
      (place_there Yes may.is_made refl) (ap is_sealed (stands Yes may.is_made refl))

  pub may_cancel : (entry value : ℕ) → MayCancel state change entry value
      → can_be_made CancelCall file (places_of config state actor.tenant) (file.place_of change.slot) (own_entries actor) ≡ true
  may_cancel entry value may =
      both (nat_lt (file.place_of change.slot) (places_of config state actor.tenant)) (is_prepared (file.places (file.place_of change.slot)))
      (place_there (No entry value) may.refused refl) (ap is_prepared (stands (No entry value) may.refused refl))

module _ (config : Config) (state : State) (actor : ActorState) (sound : IsSound config state) (has : HasFiles config state) where
  at_cancel : (task : Task) (status : Status) → let me = record actor { point = Cancel task } in IsInformed config state me → state.cells.statuses task.target.slot ≡ status
      → starts_from CancelCall status ≡ true
      → can_be_made CancelCall (state.tenant_states actor.tenant).file (places_of config state actor.tenant) ((state.tenant_states actor.tenant).file.place_of task.target.slot) (own_entries actor) ≡ true
  at_cancel task (No entry value) informed stands starts =
      may_cancel config state actor sound.memory (are_filed config state has actor.tenant informed.worker_state.tenant) task.target informed.live.1 informed.knows.0.at_work.target.same_tenant entry value
      (cancels config state actor task (No entry value) informed stands).0
  at_cancel task status informed stands starts = absurd (not_so starts)
    where
      not_so : false ≡ true → ⊥
      not_so e = cc

  at_prepare : (own : Slot) → let me = record actor { point = Prepare own } in IsInformed config state me
      → can_be_made PrepareCall (state.tenant_states actor.tenant).file (places_of config state actor.tenant) (place_for PrepareCall (state.tenant_states actor.tenant).file (places_of config state actor.tenant) own.slot) (own_entries actor)
      ≡ true
  at_prepare own informed =
      let tenant = actor.tenant in
      let file = (state.tenant_states tenant).file in
      let places = places_of config state tenant in
      let drafted = informed.knows.drafted in
      let own_change = drafted.own.same_entries in
      let its = informed.knows.drafted.own.same_tenant in
      let formed : is_change (tenant_at config tenant).words (own_entries actor) ≡ true =
      subst (λ (one : ℕ). is_change (tenant_at config one).words (own_entries actor) ≡ true) its
      (subst (λ (those : List Entry). is_change (tenant_at config (state.history.tenant own.slot own.seq)).words those ≡ true) own_change
      (sound.memory.claims.formed own.slot own.seq drafted.own.is_claimed).1) in
      both (is_change (length file.contents) (own_entries actor)) (nat_lt (place_for PrepareCall file places own.slot) places)
      (subst (λ (many : ℕ). is_change many (own_entries actor) ≡ true) (sym (has.told tenant informed.worker_state.tenant).long) formed)
      (below (place_for PrepareCall file places own.slot) places
      (outside_leaves_room config state tenant own.slot sound has informed.worker_state.tenant
      (record {
        taken = informed.live.taken;
        same_tenant = ap (λ (seq : ℕ). state.history.tenant own.slot seq) informed.live.seq ∙ its;
        outside = grind (arith, informed.live.seq, drafted.draft);
      })).within)

  at_point : (point : Point) (called : Called) → let me = record actor { point = point } in IsInformed config state me → called_at point ≡ Some called
      → CanBeMade config state me called (state.tenant_states actor.tenant).file (places_of config state actor.tenant)
  at_point (Prepare own) called informed is =
      let me = record actor { point = Prepare own } in
      subst (λ (one : Called). CanBeMade config state me one (state.tenant_states actor.tenant).file (places_of config state actor.tenant)) (some_same (record { call = PrepareCall; change = own }) called is)
      (record {
        slot = below own.slot config.pool (sound.memory.claims.there own.slot informed.live.taken);
        call = λ starts fine. at_prepare own informed;
      })
  at_point (Seal task) called informed is =
      let me = record actor { point = Seal task } in
      subst (λ (one : Called). CanBeMade config state me one (state.tenant_states actor.tenant).file (places_of config state actor.tenant)) (some_same (record { call = SealCall; change = task.target }) called is)
      (record {
        slot = below task.target.slot config.pool (sound.memory.claims.there task.target.slot informed.live.1.taken);
        call = λ starts fine.
            may_seal config state actor sound.memory (are_filed config state has actor.tenant informed.worker_state.tenant) task.target informed.live.1 informed.knows.0.at_work.target.same_tenant
            (seal_guards config state actor task informed true false Good starts).0;
      })
  at_point (Settle task) called informed is =
      let me = record actor { point = Settle task } in
      subst (λ (one : Called). CanBeMade config state me one (state.tenant_states actor.tenant).file (places_of config state actor.tenant)) (some_same (record { call = SettleCall; change = task.target }) called is)
      (record {
        slot = below task.target.slot config.pool (sound.memory.claims.there task.target.slot informed.live.1.taken);
        call = λ starts fine.
            may_settle config state actor sound.memory (are_filed config state has actor.tenant informed.worker_state.tenant) task.target informed.live.1 informed.knows.0.at_work.target.same_tenant
            (settle_guards config state actor task informed true false Good starts).0;
      })
  at_point (Cancel task) called informed is =
      let me = record actor { point = Cancel task } in
      subst (λ (one : Called). CanBeMade config state me one (state.tenant_states actor.tenant).file (places_of config state actor.tenant)) (some_same (record { call = CancelCall; change = task.target }) called is)
      (record {
        slot = below task.target.slot config.pool (sound.memory.claims.there task.target.slot informed.live.1.taken);
        call = λ starts fine. at_cancel task (state.cells.statuses task.target.slot) informed refl starts;
      })
  at_point point called informed is = absurd (none_some called is)

pub calls_can_be_made : CallsCanBeMade
calls_can_be_made config state worker actor called sound has sits is = at_point config state actor sound has actor.point called (have_their_requests config state sound worker actor sits).informed is
