-- The table's rule allows each step of a call on a tenant's file, and what such a step adds to the run is the call's event.
-- Used by: Shared::find_status, end_call, fault.
use Rattle.std.specs.Prelude.{ℕ, ◌≡◌, ◌==◌, ◌^◌, Bool, true, false, cond, List, [], ◌∷◌, map, Option, Some, None}
use Rattle.std.specs.Int.Bits.{bit_or}
use Rattle.std.proofs.Common.{refl, sym, ap, subst, ◌∙◌}
use prog.Atomic.{either}
use Rattle.atomic_table.specs.Table.{Allows, Me}
use Rattle.mw_words.specs.declared.places.At.{At}
use Rattle.mw_words.specs.declared.places.At.TheVariants.{Door as AtDoor, Status as AtStatus}
use Rattle.mw_words.specs.declared.statuses.Status.{Status}
use Rattle.mw_words.specs.Patterns.{packed_status, unpacked_status}
use Rattle.mw_look.specs.declared.steps.Call.{Call}
use Rattle.mw_look.specs.declared.steps.Call.TheVariants.{Prepare as PrepareCall, Seal as SealCall, Settle as SettleCall, Cancel as CancelCall}
use Rattle.mw_actor.specs.ActorState.{ActorState}
use Rattle.mw_world.specs.declared.outcomes.Outcome.TheVariants.{Good}
use Rattle.mw_world.specs.declared.config.Config.{Config}
use Rattle.mw_world.specs.Definition.Calls.{Called, called_at, starts_from, status_after}
use Rattle.mw_world.specs.Definition.Extent.{has_place}
use Rattle.mw_world.specs.Definition.Events.{WorldEvent, File as FileEvent}
use Rattle.mw_world.specs.Definition.State.{TenantStart}
use Rattle.mw_rule.specs.Calls.CallEnds.{kind_of}
use Rattle.mw_rule.specs.declared.file_token.FileToken.{FileToken}
use Rattle.mw_rule.specs.declared.views.HeldFile.{HeldFile}
use Rattle.mw_rule.specs.declared.views.WorkerToken.{WorkerToken}
use Rattle.mw_rule.specs.declared.views.View.{View}
use Rattle.mw_rule.specs.Steps.{ExtendsWithLearned}
use Rattle.mw_rule.specs.RunEvents.{events_loaded, starts_by}
use Rattle.mw_rule.specs.FileCalls.{Calls, Loaded, LoadedAs, LearnsFileCall, broken_so, fails, filed_so, went, went_as}
use Rattle.mw_rule.specs.Layout.{index_of}
use Rattle.mw_rule.specs.WordActions.{Breaks, Exchanges, FindsFault, Loads, WordAction, WentOn, events_by, index_by, bits_left, told_by}
use Rattle.mw_rule.specs.Ways.{made_by_way, way_of}
use Rattle.mw_rule.proofs.AnyNumber.{any_number}
use Rattle.mw_rule.proofs.WordActionLaws.{moves_are_allowed}
use Rattle.mw_table.specs.declared.shared.Pass.{Pass}
use Rattle.mw_table.specs.declared.shared.Shared.{Shared}
use Rattle.mw_table.specs.FileCalls.{EndsInFault, EndsWell, FindsStatus, AddsCallEvent, AddsFaultEvent, AddsLoadEvent, HasFailed, IsAtFile, MayExchange, MayFault, MayFind, faulted_so}
use Rattle.mw_table.specs.Numbers.{number_of, numbers}
use Rattle.mw_table.specs.Origins.{begun_of, config_of}
use Rattle.mw_table.specs.Passes.{IsOf}
use Rattle.mw_table.specs.Idleness.{IsIdle}
use Rattle.mw_table.proofs.StepRequirements.{Asks, allows_so, in_table, rule_of}
use Rattle.mw_table.proofs.IdlePasses.{none_carried, some_none}

-- A thread's request is at one call alone.
abbrev first_token : WorkerToken → List WorkerToken → WorkerToken
first_token other [] = other
first_token other (one ∷ rest) = one

abbrev first_held : HeldFile → List HeldFile → HeldFile
first_held other [] = other
first_held other (one ∷ rest) = one

abbrev actor_in : ActorState → Option ActorState → ActorState
actor_in other None = other
actor_in other (Some one) = one

abbrev called_in : Called → Option Called → Called
called_in other None = other
called_in other (Some one) = one

module _ (view : View) (worker_of : ℕ) (actor_of : ActorState) (called_of : Called) (held_of : HeldFile) (of : Calls view worker_of actor_of called_of held_of) (worker : ℕ) (actor : ActorState) (called : Called) (held : HeldFile)
    (by : Calls view worker actor called held) where
  same_token : of.token ≡ by.token
  same_token = ap (first_token of.token) (sym of.has.only ∙ by.has.only)

  same_worker : worker_of ≡ worker
  same_worker = sym of.has.own ∙ (ap (λ (token : WorkerToken). token.worker) same_token ∙ by.has.own)

  same_actor : actor_of ≡ actor
  same_actor = ap (actor_in actor_of) (sym of.carries ∙ (ap (λ (token : WorkerToken). token.actor) same_token ∙ by.carries))

  same_called : called_of ≡ called
  same_called = ap (called_in called_of) (sym of.comes_to ∙ (ap (λ (one : ActorState). called_at one.point) same_actor ∙ by.comes_to))

  same_held : held_of ≡ held
  same_held = ap (first_held held_of) (sym of.only ∙ by.only)

  pub one_call : (P : ℕ → ActorState → Called → HeldFile → Type 0) → P worker_of actor_of called_of held_of → P worker actor called held
  one_call P so =
      subst (λ (one : ℕ). P one actor called held) same_worker
      (subst (λ (one : ActorState). P worker_of one called held) same_actor
      (subst (λ (one : Called). P worker_of actor_of one held) same_called
      (subst (λ (one : HeldFile). P worker_of actor_of called_of one) same_held so)))

true-false : true ≡ false → ⊥
true-false is = cc

-- What the rule allows the call's steps to make.
exchange_makes : (call : Call) (from to bits : ℕ) → made_by_way (way_of (kind_of call)) from to bits ≡ cond (bits == from) to bits
exchange_makes PrepareCall from to bits = refl
exchange_makes SealCall from to bits = refl
exchange_makes SettleCall from to bits = refl
exchange_makes CancelCall from to bits = refl

module _ (shared : Shared) (pass : Pass) (own : IsOf shared pass) where
  abbrev me : Me ActorState View
  me = pass.seat.me

  abbrev slots : ℕ
  slots = shared.table.shared.table_id.slots

  abbrev config : Config
  config = config_of shared.table.shared.key

  abbrev begun : (ℕ → TenantStart) → List WorldEvent → Type 0
  begun = begun_of shared.table.shared.key

  -- stated for whichever call it is
  asks_so : (at : At) (other : At) (index : ℕ) (make : ℕ → ℕ) (one tells : ℕ → Me ActorState View → Type 0) → has_place me.0.config at ≡ true → at ≡ other → index ≡ index_of shared.pool other
      → ((bits : ℕ) (next : Me ActorState View) → one bits next → tells bits next) → Allows (rule_of shared) slots pass.seat.id me (index_of config.pool at) make one → Asks shared pass index make tells
  asks_so at other index make one tells there same is says allows =
      let placed = in_table shared pass at index own there (is ∙ ap (index_of shared.pool) (sym same)) in (
        own.table,
        placed.0,
        allows_so (rule_of shared) slots pass.seat.id me index make one tells says (subst (λ (k : ℕ). Allows (rule_of shared) slots pass.seat.id me k make one) placed.1 allows),
      )

  -- what is learned of one call is learned of whichever the request is at
  told_so : (at : IsAtFile pass) (P Q : ℕ → ActorState → Called → HeldFile → Type 0) → P pass.worker at.actor at.called at.held × Q pass.worker at.actor at.called at.held
      → ((worker : ℕ) (actor : ActorState) (called : Called) (held : HeldFile) → Calls me.0 worker actor called held → P worker actor called held)
      × ((worker : ℕ) (actor : ActorState) (called : Called) (held : HeldFile) → Calls me.0 worker actor called held → Q worker actor called held)
  told_so at P Q so = (
    λ worker actor called held by. one_call me.0 pass.worker at.actor at.called at.held at.calls worker actor called held by P so.0,
    λ worker actor called held by. one_call me.0 pass.worker at.actor at.called at.held at.calls worker actor called held by Q so.1,
  )

  allowed : (move : WordAction me.0) (make : ℕ → ℕ) → ((bits : ℕ) → make bits ≡ bits_left me.0 move bits)
      → Allows (rule_of shared) slots pass.seat.id me (index_by config me.0 move) make (λ bits next. told_by me.0 move bits next.0 × WentOn (events_by me.0 move bits) me.0 next.0)
  allowed move make makes = moves_are_allowed config begun slots pass.seat.id me move make makes

  pub find_asks : (slot index : ℕ) → MayFind pass slot → index ≡ index_of shared.pool (AtStatus slot)
      → Asks shared pass index (λ bits. bits) (λ bits next. FindsStatus bits me.0 next.0 × AddsLoadEvent bits me.0 next.0)
  find_asks slot index may is =
      let at = may.at_file in
      let move : WordAction me.0 = Loads pass.worker at.actor at.called at.held at.calls in
      asks_so (AtStatus at.called.change.slot) (AtStatus slot) index (λ bits. bits) (λ bits next. told_by me.0 move bits next.0 × WentOn (events_by me.0 move bits) me.0 next.0)
      (λ bits next. FindsStatus bits me.0 next.0 × AddsLoadEvent bits me.0 next.0) at.words.status (ap (λ (n : ℕ). AtStatus n) may.is_slot) is
      (λ bits next so.
      told_so at (λ w a d h. Loaded w a d h bits me.0 next.0) (λ w a d h. WentOn (events_loaded (starts_by d.call (unpacked_status bits)) w) me.0 next.0) so)
      (allowed move (λ bits. bits) (λ bits. refl))

  pub end_asks : (call : Call) (slot : ℕ) (status : Status) (from to index : ℕ) → MayExchange pass call slot status → index ≡ index_of shared.pool (AtStatus slot) → from ≡ packed_status status
      → to ≡ packed_status (status_after call status)
      → Asks shared pass index (λ bits. either (bits == from) to bits) (λ bits next. EndsWell me.0 next.0 × AddsCallEvent me.0 next.0)
  end_asks call slot status from to index may is from_is to_is =
      let at = may.at_file in
      let after : to ≡ packed_status (status_after at.called.call status) = to_is ∙ ap (λ (one : Call). packed_status (status_after one status)) (sym may.is_call) in
      let move : WordAction me.0 = Exchanges pass.worker at.actor at.called at.held status at.calls may.found may.sound in
      asks_so (AtStatus at.called.change.slot) (AtStatus slot) index (λ bits. either (bits == from) to bits)
      (λ bits next. told_by me.0 move bits next.0 × WentOn (events_by me.0 move bits) me.0 next.0) (λ bits next. EndsWell me.0 next.0 × AddsCallEvent me.0 next.0)
      at.words.status (ap (λ (n : ℕ). AtStatus n) may.is_slot) is
      (λ bits next so.
      told_so at (λ w a d h. LearnsFileCall true h (filed_so me.0 a d h) me.0 next.0) (λ w a d h. WentOn (FileEvent w Good ∷ []) me.0 next.0) (so.0.1, so.1))
      (allowed move (λ bits. either (bits == from) to bits)
      (λ bits. (λ i. either (bits == from_is i) (after i) bits) ∙ sym (exchange_makes at.called.call (packed_status status) (packed_status (status_after at.called.call status)) bits)))

  -- whether the file had failed before or not
  fault_at : (tenant index : ℕ) → MayFault pass tenant → index ≡ index_of shared.pool (AtDoor tenant) → (move : WordAction me.0) → index_by config me.0 move ≡ index_of config.pool (AtDoor tenant)
      → ((bits : ℕ) → bit_or bits (2 ^ 63) ≡ bits_left me.0 move bits)
      → ((bits : ℕ) (next : View) → told_by me.0 move bits next × WentOn (events_by me.0 move bits) me.0 next → EndsInFault me.0 next × AddsFaultEvent me.0 next)
      → Asks shared pass index (λ bits. bit_or bits (2 ^ 63)) (λ bits next. EndsInFault me.0 next.0 × AddsFaultEvent me.0 next.0)
  fault_at tenant index may is move there makes says =
      let at = may.at_file in
      asks_so (AtDoor tenant) (AtDoor tenant) index (λ bits. bit_or bits (2 ^ 63)) (λ bits next. told_by me.0 move bits next.0 × WentOn (events_by me.0 move bits) me.0 next.0)
      (λ bits next. EndsInFault me.0 next.0 × AddsFaultEvent me.0 next.0) (subst (λ (n : ℕ). has_place me.0.config (AtDoor n) ≡ true) may.is_tenant at.words.door) refl is
      (λ bits next so. says bits next.0 so)
      (subst (λ (k : ℕ). Allows (rule_of shared) slots pass.seat.id me k (λ bits. bit_or bits (2 ^ 63)) (λ bits next. told_by me.0 move bits next.0 × WentOn (events_by me.0 move bits) me.0 next.0)) there
      (allowed move (λ bits. bit_or bits (2 ^ 63)) makes))

  pub fault_asks : (tenant index : ℕ) → MayFault pass tenant → index ≡ index_of shared.pool (AtDoor tenant)
      → Asks shared pass index (λ bits. bit_or bits (2 ^ 63)) (λ bits next. EndsInFault me.0 next.0 × AddsFaultEvent me.0 next.0)
  fault_asks tenant index may is = by_file (fails me.0 may.at_file.called may.at_file.held) refl
    where
      by_file : (failed : Bool) → fails me.0 may.at_file.called may.at_file.held ≡ failed
          → Asks shared pass index (λ bits. bit_or bits (2 ^ 63)) (λ bits next. EndsInFault me.0 next.0 × AddsFaultEvent me.0 next.0)
      by_file true failed =
          let at = may.at_file in
          fault_at tenant index may is (FindsFault pass.worker at.actor at.called at.held may.status at.calls may.found failed) (ap (λ (n : ℕ). index_of config.pool (AtDoor n)) may.is_tenant) (λ bits. refl)
          (λ bits next so.
          told_so at (λ w a d h. LearnsFileCall false h (faulted_so me.0 d h) me.0 next) (λ w a d h. HasFailed w d h me.0 next) (
            subst (λ (test : Bool). LearnsFileCall false at.held (cond test at.held.file (broken_so me.0 at.called at.held)) me.0 next) (sym failed) so.0,
            record { before = λ again. so.1; now = λ sound. absurd (true-false (sym failed ∙ sound)) },
          ))
      by_file false sound =
          let at = may.at_file in
          let which = may.failed sound in
          fault_at tenant index may is (Breaks pass.worker which.0 at.actor at.called at.held may.status at.calls may.found sound which.1) (ap (λ (n : ℕ). index_of config.pool (AtDoor n)) may.is_tenant) (λ bits. refl)
          (λ bits next so.
          told_so at (λ w a d h. LearnsFileCall false h (faulted_so me.0 d h) me.0 next) (λ w a d h. HasFailed w d h me.0 next) (
            subst (λ (test : Bool). LearnsFileCall false at.held (cond test at.held.file (broken_so me.0 at.called at.held)) me.0 next) (sym sound) so.0,
            record {
              before = λ failed. absurd (true-false (sym failed ∙ sound));
              now = λ again number is_one. any_number me.0 next pass.worker at.actor at.called at.held at.calls may.status may.found sound which.0 so.1 number which.1 is_one;
            },
          ))

-- What of a pass stays the same over these steps.
went_number : (well : Bool) (token : WorkerToken) (found : Option ActorState) → number_of (went_as well token found) ≡ number_of token
went_number well token None = refl
went_number well token (Some actor) = refl

busy_at_call : (view : View) (worker : ℕ) (actor : ActorState) (called : Called) (held : HeldFile) → Calls view worker actor called held → IsIdle view → ⊥
busy_at_call view worker actor called held by rests = some_none actor (sym by.carries ∙ none_carried view worker by.token by.has rests)

module _ (view : View) (worker : ℕ) (actor : ActorState) (called : Called) (held : HeldFile) (by : Calls view worker actor called held) (new : View) where
  went_numbers : (well : Bool) (after : FileToken) → LearnsFileCall well held after view new → numbers new ≡ numbers view
  went_numbers well after is =
      ap (map number_of) (is.token ∙ ap (map (went well)) by.has.only)
      ∙ (ap (λ (n : ℕ × ℕ). n ∷ []) (went_number well by.token by.token.actor) ∙ sym (ap (map number_of) by.has.only))

  loaded_as : (starts : Bool) (status : Status) → LoadedAs starts worker actor called held status view new → ExtendsWithLearned view new × (numbers new ≡ numbers view)
  loaded_as true status is = (is.files.goes_on, ap (map number_of) is.same_token)
  loaded_as false status is = (is.files.goes_on, went_numbers true held.file is)

-- After each of these steps a pass has the same number, and what it had seen is a prefix of what it has seen.
abbrev StaysNumbered : View → View → Type 0
StaysNumbered old new = ExtendsWithLearned old new × (numbers new ≡ numbers old)

pub find_stays : (pass : Pass) (bits : ℕ) (new : View) → IsAtFile pass → FindsStatus bits pass.seat.me.0 new → StaysNumbered pass.seat.me.0 new
find_stays pass bits new at finds =
    let loaded = finds pass.worker at.actor at.called at.held at.calls in
    loaded_as pass.seat.me.0 pass.worker at.actor at.called at.held at.calls new (starts_from at.called.call loaded.status) loaded.status loaded.loaded

pub end_stays : (pass : Pass) (new : View) → IsAtFile pass → EndsWell pass.seat.me.0 new → StaysNumbered pass.seat.me.0 new
end_stays pass new at ends =
    let is = ends pass.worker at.actor at.called at.held at.calls in
    (is.files.goes_on, went_numbers pass.seat.me.0 pass.worker at.actor at.called at.held at.calls new true (filed_so pass.seat.me.0 at.actor at.called at.held) is)

pub fault_stays : (pass : Pass) (new : View) → IsAtFile pass → EndsInFault pass.seat.me.0 new → StaysNumbered pass.seat.me.0 new
fault_stays pass new at meets =
    let is = meets pass.worker at.actor at.called at.held at.calls in
    (is.files.goes_on, went_numbers pass.seat.me.0 pass.worker at.actor at.called at.held at.calls new false (faulted_so pass.seat.me.0 at.called at.held) is)

pub busy_at_file : (pass : Pass) → IsAtFile pass → IsIdle pass.seat.me.0 → ⊥
busy_at_file pass at rests = busy_at_call pass.seat.me.0 pass.worker at.actor at.called at.held at.calls rests
