-- A pass that has taken its file meets what each step of the call requires, from the load of the change's status on.
-- Used by: Core::make_call.
use Rattle.std.specs.Prelude.{ℕ, ◌≡◌, ◌≢◌, ◌≤◌, ◌⊎◌, Bool, true, false, List, [], ◌∷◌, Option, Some, None}
use Rattle.std.proofs.Common.{sym, ap, subst, ◌∙◌, inl, inr}
use Rattle.mw_words.specs.declared.limits.TheConstants.{MAX_POOL}
use Rattle.mw_words.specs.declared.jobs.Entry.{Entry}
use Rattle.mw_words.specs.declared.statuses.Status.{Status}
use Rattle.mw_words.specs.Patterns.{unpacked_status}
use Rattle.mw_look.specs.declared.steps.Call.{Call}
use Rattle.mw_look.specs.declared.steps.Op.TheVariants.{File as FileCall}
use Rattle.mw_look.specs.Steps.{op_of}
use Rattle.mw_actor.specs.ActorState.{ActorState, own_entries}
use Rattle.mw_actor.specs.Asks.{asks}
use Rattle.mw_disk.specs.Facts.{Facts}
use Rattle.mw_world.specs.declared.outcomes.Outcome.TheVariants.{Good}
use Rattle.mw_world.specs.Files.State.{File}
use Rattle.mw_world.specs.Definition.Calls.{Called as CallOn, called_at, starts_from}
use Rattle.mw_world.specs.Definition.Events.{File as FileEvent}
use Rattle.mw_book.specs.declared.answers.Filed.{Filed}
use Rattle.mw_book.specs.declared.answers.Filed.TheVariants.{Made, Broken, Untouched}
use Rattle.mw_book.specs.declared.book.Book.{Book}
use Rattle.mw_book.specs.declared.waiting.Waiting.{Waiting}
use Rattle.mw_book.specs.Crashes.{IsCrashSafe}
use Rattle.mw_book.specs.Ends.{Ends}
use Rattle.mw_book.specs.Permits.{MayCall}
use Rattle.mw_book.specs.Representation.{Represents}
use Rattle.mw_table.specs.FromRule.{Calls, FoundStatus, IsReadyAt, Loaded, LoadedAs, Starts, WentOn, events_loaded, fails, file_told, starts_by}
use Rattle.mw_table.proofs.FromRule.{requests_go_on_from_calls}
use Rattle.mw_table.specs.declared.shared.Pass.{Pass}
use Rattle.mw_table.specs.CarriedRequest.{IsCarried}
use Rattle.mw_table.specs.FileCalls.{EndsInFault, EndsWell, FindsStatus, AddsCallEvent, AddsFaultEvent, AddsLoadEvent, HasFailed, IsAtFile, MayExchange, MayFault, MayFind}
use Rattle.mw_table.specs.HeldFiles.{HasFile}
use Rattle.mw_table.specs.Meet.{IsSamePass}
use Rattle.mw_table.proofs.RequestsOverCalls.{calls_so, carried_so}
use Rattle.mw_core.specs.Books.{AgreesHeld}
use Rattle.mw_core.specs.FileCalls.{AreTaken, MakesCall}
use Rattle.mw_core.proofs.MadeCalls.{agrees_first, book_takes, call_failed, ends_here, found_by, loaded_starts, made_badly, made_skips, made_well, safe_here, same_call, same_slot, skips_agrees, some_call}

-- one of two answers is not the third
pub not_made : (answer : Filed) → (answer ≡ Broken) ⊎ (answer ≡ Untouched) → answer ≢ Made
not_made answer (inl is) same = absurd (let e : Broken ≡ Made = sym is ∙ same in cc)
not_made answer (inr is) same = absurd (let e : Untouched ≡ Made = sym is ∙ same in cc)

abbrev found_as : Status → ℕ → Option FoundStatus
found_as status worker = Some (record { worker = worker; status = status })

-- the words that the call's end may use are there
words_so : (pass : Pass) (actor : ActorState) (called : CallOn) → IsCarried pass actor → called_at actor.point ≡ Some called → IsReadyAt pass.seat.me.0.config actor (Some called)
words_so pass actor called carried comes = subst (IsReadyAt pass.seat.me.0.config actor) comes (carried.ready (requests_go_on_from_calls actor called comes).unreplied)

module _ {D : Type 0} (facts : D → Facts) (old between : Pass) (actor : ActorState) (book : Book D) (call : Call) (slot : ℕ) (none : called_at actor.point ≢ None) (carried : IsCarried old actor)
    (has : HasFile old.seat.me.0 actor.tenant) (agrees : AgreesHeld facts book old.seat.me.0 actor.tenant) (is : op_of (asks actor) ≡ FileCall call slot) where
  abbrev called : CallOn
  called = (some_call (called_at actor.point) none).0

  comes : called_at actor.point ≡ Some called
  comes = (some_call (called_at actor.point) none).1

  calls : Calls old.seat.me.0 old.worker actor called has.held
  calls = calls_so old actor called has.held carried comes has.only has.its

  words : IsReadyAt old.seat.me.0.config actor (Some called)
  words = words_so old actor called carried comes

  abbrev at_file : IsAtFile old
  at_file = record { actor = actor; called = called; held = has.held; calls = calls; words = words }

  call_is : called.call ≡ call
  call_is = same_call actor called call slot comes is

  slot_is : called.change.slot ≡ slot
  slot_is = same_slot actor called call slot comes is

  pub may_find : MayFind old slot
  may_find = record { at_file = at_file; is_slot = slot_is }

  module _ (bits : ℕ) (found : FindsStatus bits old.seat.me.0 between.seat.me.0) where
    loaded : Loaded old.worker actor called has.held bits old.seat.me.0 between.seat.me.0
    loaded = found old.worker actor called has.held calls

    -- the bits are those of a status
    pub readable : unpacked_status bits ≢ None
    readable nothing = absurd (let e : Some loaded.status ≡ None = sym loaded.read ∙ nothing in cc)

    module _ (status : Status) (read : unpacked_status bits ≡ Some status) where
      as_loaded : (starts : Bool) → starts_from call status ≡ starts → LoadedAs starts old.worker actor called has.held status old.seat.me.0 between.seat.me.0
      as_loaded starts test =
          loaded_starts old.worker actor called has.held bits status old.seat.me.0 between.seat.me.0 loaded read starts (ap (λ (one : Call). starts_from one status) call_is ∙ test)

      -- The call doesn't start.
      pub skipped : (waiting : List Waiting) → starts_from call status ≡ false → AddsLoadEvent bits old.seat.me.0 between.seat.me.0 → MakesCall facts waiting old.worker old.seat.me.0 between.seat.me.0 actor book book true
      skipped waiting test event =
          let starts_not = ap (λ (one : Call). starts_from one status) call_is ∙ test in
          made_skips facts waiting old.worker old.seat.me.0 between.seat.me.0 actor called has.held book status comes has.only has.idle agrees starts_not (as_loaded false test)
          (subst (λ (starts : Bool). WentOn (events_loaded starts old.worker) old.seat.me.0 between.seat.me.0) (ap (starts_by called.call) read ∙ starts_not) (event old.worker actor called has.held calls))

      pub skipped_agrees : starts_from call status ≡ false → AgreesHeld facts book between.seat.me.0 actor.tenant
      skipped_agrees test = skips_agrees facts old.seat.me.0 between.seat.me.0 actor.tenant has.held book has.only (as_loaded false test) agrees

      -- The call starts.
      module _ (same : IsSamePass old between) (test : starts_from call status ≡ true) where
        starts : Starts old.worker actor called has.held status old.seat.me.0 between.seat.me.0
        starts = as_loaded true test

        starts_here : starts_from called.call status ≡ true
        starts_here = ap (λ (one : Call). starts_from one status) call_is ∙ test

        carried_then : IsCarried between actor
        carried_then = carried_so old between actor same starts.same_token starts.files.goes_on.same_config carried

        calls_then : Calls between.seat.me.0 between.worker actor called (found_by has.held old.worker status)
        calls_then = calls_so between actor called (found_by has.held old.worker status) carried_then comes starts.keeps has.its

        words_then : IsReadyAt between.seat.me.0.config actor (Some called)
        words_then = words_so between actor called carried_then comes

        abbrev at_file_then : IsAtFile between
        at_file_then = record { actor = actor; called = called; held = found_by has.held old.worker status; calls = calls_then; words = words_then }

        found_then : found_as status old.worker ≡ found_as status between.worker
        found_then = ap (found_as status) (sym same.same_worker)

        pub may_call : (entries : List Entry) → old.seat.me.0.config.pool ≤ MAX_POOL → AreTaken call entries (own_entries actor) → MayCall book call slot entries
        may_call entries few given =
            book_takes facts old.seat.me.0 between.seat.me.0 actor called has.held book status old.worker comes has.only has.its words.slot agrees starts_here starts call slot entries few call_is slot_is given

        -- The book has answered.
        module _ (waiting : List Waiting) (after : Book D) (entries : List Entry) (given : AreTaken call entries (own_entries actor)) (answer : Filed) (as_before : after.places ≡ book.places)
            (told : (file : File) → Represents facts book file → Ends facts call slot entries waiting file book after answer) (moments : IsCrashSafe facts call slot book after answer) where
          safe : IsCrashSafe facts called.call called.change.slot book after answer
          safe =
              safe_here facts old.seat.me.0 between.seat.me.0 actor called has.held book status old.worker comes has.only has.its words.slot agrees starts_here starts after call slot answer call_is slot_is moments

          ends : Ends facts called.call called.change.slot (own_entries actor) waiting (file_told has.held.file) book after answer
          ends =
              ends_here facts old.seat.me.0 between.seat.me.0 actor called has.held book status old.worker comes has.only has.its words.slot agrees starts_here starts waiting after call slot entries answer call_is slot_is given
              (told (file_told has.held.file) (agrees_first facts old.seat.me.0 actor.tenant has.held book has.only agrees).shows)

          sound_so : (one : Filed) → one ≡ Made → Ends facts called.call called.change.slot (own_entries actor) waiting (file_told has.held.file) book after one
              → fails between.seat.me.0 called (found_by has.held old.worker status) ≡ false
          sound_so Made it_is how = how.began
          sound_so Broken it_is how = how.began
          sound_so Untouched it_is how = absurd (let e : Untouched ≡ Made = it_is in cc)

          pub may_end : answer ≡ Made → MayExchange between call slot status
          may_end it_is = record {
            at_file = at_file_then;
            is_call = call_is;
            is_slot = slot_is;
            found = found_then;
            sound = sound_so answer it_is ends;
            in_range = starts.in_range;
          }

          pub may_fault : (tenant : ℕ) → tenant ≡ actor.tenant → answer ≢ Made → MayFault between tenant
          may_fault tenant its other = record {
            at_file = at_file_then;
            is_tenant = sym its;
            status = status;
            found = found_then;
            failed = call_failed facts old.seat.me.0 between.seat.me.0 actor called has.held book status old.worker comes has.only has.its words.slot agrees starts_here starts waiting after answer other ends;
          }

          pub ended_well : (last : Pass) → answer ≡ Made → EndsWell between.seat.me.0 last.seat.me.0 → AddsCallEvent between.seat.me.0 last.seat.me.0
              → MakesCall facts waiting old.worker old.seat.me.0 last.seat.me.0 actor book after true × AgreesHeld facts after last.seat.me.0 actor.tenant
          ended_well last it_is went event =
              made_well facts old.seat.me.0 between.seat.me.0 actor called has.held book status old.worker comes has.only has.its words.slot agrees starts_here starts waiting after last.seat.me.0 as_before answer it_is ends safe
              (went between.worker actor called (found_by has.held old.worker status) calls_then)
              (subst (λ (worker : ℕ). WentOn (FileEvent worker Good ∷ []) between.seat.me.0 last.seat.me.0) same.same_worker (event between.worker actor called (found_by has.held old.worker status) calls_then))

          pub ended_badly : (last : Pass) → answer ≢ Made → EndsInFault between.seat.me.0 last.seat.me.0 → AddsFaultEvent between.seat.me.0 last.seat.me.0
              → MakesCall facts waiting old.worker old.seat.me.0 last.seat.me.0 actor book after false × AgreesHeld facts after last.seat.me.0 actor.tenant
          ended_badly last other went event =
              made_badly facts old.seat.me.0 between.seat.me.0 actor called has.held book status old.worker comes has.only has.its words.slot agrees starts_here starts waiting after last.seat.me.0 as_before answer other ends safe
              (went between.worker actor called (found_by has.held old.worker status) calls_then)
              (subst (λ (worker : ℕ). HasFailed worker called (found_by has.held old.worker status) between.seat.me.0 last.seat.me.0) same.same_worker
              (event between.worker actor called (found_by has.held old.worker status) calls_then))
