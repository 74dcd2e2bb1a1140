-- How a call on a file ends (its step on a shared word) follows from the answer of the book on which it was made.
-- Used by: CalledFiles, StepEnds.
use Rattle.std.specs.Prelude.{◌+◌, ℕ, ◌≡◌, ◌≢◌, ◌<◌, ◌≤◌, Bool, true, false, nat_lt, List, [], ◌∷◌, length, Option, Some, None}
use Rattle.std.proofs.Common.{refl, sym, ap, subst, ◌∙◌, arith}
use Rattle.std.proofs.lemmas.Bool.{cond-false, cond-true, ltb-true}
use Rattle.std.proofs.lemmas.Option.{same_Some}
use Rattle.mw_words.specs.declared.limits.TheConstants.{MAX_POOL}
use Rattle.mw_words.specs.declared.jobs.Entry.{Entry}
use Rattle.mw_words.specs.declared.statuses.Status.{Status}
use Rattle.mw_words.specs.Patterns.{unpacked_status}
use Rattle.mw_look.specs.declared.steps.Call.{Call}
use Rattle.mw_look.specs.declared.steps.Call.TheVariants.{Prepare as PrepareCall, Seal as SealCall, Settle as SettleCall, Cancel as CancelCall}
use Rattle.mw_look.specs.declared.steps.Op.{Op}
use Rattle.mw_look.specs.declared.steps.Op.TheVariants.{File as FileCall}
use Rattle.mw_look.specs.Steps.{op_of}
use Rattle.mw_actor.specs.ActorState.{ActorState, own_entries}
use Rattle.mw_actor.specs.Asks.{asks}
use Rattle.mw_disk.specs.Facts.{Facts}
use Rattle.mw_world.specs.declared.outcomes.Outcome.TheVariants.{Good}
use Rattle.mw_world.specs.Files.Calls.{device_calls, doubt_of, filed, is_made, place_for}
use Rattle.mw_world.specs.Files.Crashes.{at_stake}
use Rattle.mw_world.specs.Files.State.{File, entries_at}
use Rattle.mw_world.specs.Definition.Calls.{Called as CallOn, called_at, starts_from}
use Rattle.mw_world.specs.Definition.Events.{File as FileEvent}
use Rattle.mw_book.specs.declared.answers.Filed.{Filed}
use Rattle.mw_book.specs.declared.answers.Filed.TheVariants.{Made, Broken, Untouched}
use Rattle.mw_book.specs.declared.book.Book.{Book}
use Rattle.mw_book.specs.declared.waiting.Waiting.{Waiting}
use Rattle.mw_book.specs.Crashes.{IsCrashSafe, LeavesEither}
use Rattle.mw_book.specs.Ends.{Ends, FailedAt, WasBroken, calls_on}
use Rattle.mw_book.specs.RecordsAhead.{written_by}
use Rattle.mw_disk.specs.Runs.{Good as GoodRun, Bad as BadRun}
use Rattle.mw_book.specs.OpenFile.{OnDisk, disk_in}
use Rattle.mw_book.specs.Permits.{MayCall}
use Rattle.mw_book.specs.Representation.{Represents}
use Rattle.mw_book.proofs.RepresentedFiles.{untouched}
use Rattle.mw_table.specs.FromRule.{End, FileToken, FindsFault, FoundStatus, GoesWell, HeldFile, ExtendsKnownRun, Loaded, LoadedAs, MayEnd, MeetsFault, Skips, Starts, View, LearnsFileCall, WentOn, broken_so, fails, file_told, filed_so, opening_at, place_held, file_token_broken, file_token_by, file_token_filed, went_well}
use Rattle.mw_table.proofs.FromRule.{keeps_all, keeps_so, on_again, requests_go_on_from_calls, told_on}
use Rattle.mw_table.specs.FileCalls.{HasFailed, faulted_so}
use Rattle.mw_table.specs.HeldFiles.{file_among}
use Rattle.mw_core.specs.Books.{Agrees, AgreesHeld, file_token_answered}
use Rattle.mw_core.specs.FileCalls.{AreTaken, EndsThere, IsOneEvent, MakesCall, StaysSafe, event_of, found_for, held_as}
use Rattle.mw_core.proofs.Agreement.{books_follow_file_tokens, books_take_calls}
use Rattle.mw_core.proofs.WholeCalls.{went_since}

-- a call that is not none is one
pub some_call : (called : Option CallOn) → called ≢ None → (call : CallOn) × (called ≡ Some call)
some_call None none = absurd (none refl)
some_call (Some call) none = (call, refl)

-- The step that a request asks for at a call is that call.
abbrev call_in : Op → Call
call_in (FileCall call slot) = call
call_in op = PrepareCall

abbrev slot_in : Op → ℕ
slot_in (FileCall call slot) = slot
slot_in op = 0

asked_so : (actor : ActorState) (called : CallOn) → called_at actor.point ≡ Some called → op_of (asks actor) ≡ FileCall called.call called.change.slot
asked_so actor called comes = ap op_of (requests_go_on_from_calls actor called comes).asked

pub same_call : (actor : ActorState) (called : CallOn) (call : Call) (slot : ℕ) → called_at actor.point ≡ Some called → op_of (asks actor) ≡ FileCall call slot → called.call ≡ call
same_call actor called call slot comes is = ap call_in (sym (asked_so actor called comes) ∙ is)

pub same_slot : (actor : ActorState) (called : CallOn) (call : Call) (slot : ℕ) → called_at actor.point ≡ Some called → op_of (asks actor) ≡ FileCall call slot → called.change.slot ≡ slot
same_slot actor called call slot comes is = ap slot_in (sym (asked_so actor called comes) ∙ is)

-- The status that was found is the one that the load gives.
pub loaded_starts : (worker : ℕ) (actor : ActorState) (called : CallOn) (held : HeldFile) (bits : ℕ) (status : Status) (old new : View) → Loaded worker actor called held bits old new
    → unpacked_status bits ≡ Some status → (starts : Bool) → starts_from called.call status ≡ starts → LoadedAs starts worker actor called held status old new
loaded_starts worker actor called held bits status old new loaded is starts test =
    let same = same_Some loaded.status status (sym loaded.read ∙ is) in
    subst (λ (b : Bool). LoadedAs b worker actor called held status old new) test
    (subst (λ (one : Status). LoadedAs (starts_from called.call one) worker actor called held one old new) same loaded.loaded)

-- what is known of the file, with the status that was found
abbrev pub found_by : HeldFile → ℕ → Status → HeldFile
found_by held worker status = record held { found = Some (record { worker = worker; status = status }) }

-- the book agrees with the one file that the thread has
pub agrees_first : {D : Type 0} (facts : D → Facts) (view : View) (tenant : ℕ) (held : HeldFile) (book : Book D) → view.files ≡ held ∷ [] → AgreesHeld facts book view tenant
    → Agrees facts book held.file (opening_at view.openings tenant).quota view.config.pool
agrees_first facts view tenant held book only agrees = subst (λ (file_token : FileToken). Agrees facts book file_token (opening_at view.openings tenant).quota view.config.pool) (ap file_among only) agrees

-- A call that doesn't start.
pub made_skips : {D : Type 0} (facts : D → Facts) (waiting : List Waiting) (worker : ℕ) (old new : View) (actor : ActorState) (called : CallOn) (held : HeldFile) (book : Book D) (status : Status) → called_at actor.point ≡ Some called
    → old.files ≡ held ∷ [] → held.found ≡ None → AgreesHeld facts book old actor.tenant → starts_from called.call status ≡ false → LearnsFileCall true held held.file old new
    → WentOn (FileEvent worker Good ∷ []) old new → MakesCall facts waiting worker old new actor book book true
made_skips facts waiting worker old new actor called held book status comes only idle agrees test went event = record {
  called = called;
  comes_to = comes;
  status = status;
  end = Skips;
  may = test;
  there = refl;
  safe = untouched facts book.held (file_among old.files).contents (file_among old.files).doubt agrees.shows.stands;
  well_is = refl;
  held = held;
  went = subst (λ (file_token : FileToken). LearnsFileCall true held file_token old new) (sym (ap file_among only)) went;
  follows = told_on (FileEvent worker Good ∷ []) old new event;
  event = record {
    with_file = old;
    keeps = keeps_all old;
    same_token = refl;
    same_mine = refl;
    has = only ∙ ap (λ (found : Option FoundStatus). held_as held.file found ∷ []) idle ∙ ap (λ (file_token : FileToken). held_as file_token None ∷ []) (sym (ap file_among only));
    went_on = event;
  };
}

-- it leaves book and file token as they were
pub skips_agrees : {D : Type 0} (facts : D → Facts) (old new : View) (tenant : ℕ) (held : HeldFile) (book : Book D) → old.files ≡ held ∷ [] → LearnsFileCall true held held.file old new
    → AgreesHeld facts book old tenant → AgreesHeld facts book new tenant
skips_agrees facts old new tenant held book only went agrees =
    let files : file_among new.files ≡ file_among old.files = ap file_among went.keeps ∙ sym (ap file_among only) in
    let openings = went.files.goes_on.same_openings in
    let config = went.files.goes_on.same_config in
    subst (λ (file_token : FileToken). Agrees facts book file_token (opening_at new.openings tenant).quota new.config.pool) (sym files)
    (subst (λ given. Agrees facts book (file_among old.files) (opening_at given tenant).quota new.config.pool) (sym openings)
    (subst (λ one. Agrees facts book (file_among old.files) (opening_at old.openings tenant).quota one.pool) (sym config) agrees))

-- Only a prepare depends on the entries that it is given.
may_with : {D : Type 0} (book : Book D) (call : Call) (slot : ℕ) (own entries : List Entry) → AreTaken call entries own → MayCall book call slot own → MayCall book call slot entries
may_with book PrepareCall slot own entries given may = subst (λ (one : List Entry). MayCall book PrepareCall slot one) (sym given) may
may_with book SealCall slot own entries given may = may
may_with book SettleCall slot own entries given may = may
may_with book CancelCall slot own entries given may = may

-- A call makes as many device calls for these entries as for those, if it writes the same records ahead.
as_many : {D : Type 0} (before : Book D) (call : Call) (slot : ℕ) (entries own : List Entry) (waiting : List Waiting) (there : List Entry) → calls_on before call slot entries there ≡ calls_on before call slot own there
    → written_by before call slot entries waiting ≡ written_by before call slot own waiting
    → length (written_by before call slot entries waiting) + calls_on before call slot entries there ≡ length (written_by before call slot own waiting) + calls_on before call slot own there
as_many before call slot entries own waiting there calls ahead =
    ap (λ (ws : List Waiting). length ws + calls_on before call slot entries there) ahead ∙ ap (λ (n : ℕ). length (written_by before call slot own waiting) + n) calls

ends_as : {D : Type 0} (facts : D → Facts) (call : Call) (slot : ℕ) (entries own : List Entry) (waiting : List Waiting) (file : File) (before after : Book D) (answer : Filed)
    → filed call file slot (place_for call file before.places slot) entries ≡ filed call file slot (place_for call file before.places slot) own
    → ((taken : List Entry) → calls_on before call slot entries taken ≡ calls_on before call slot own taken)
    → written_by before call slot entries waiting ≡ written_by before call slot own waiting
    → Ends facts call slot entries waiting file before after answer → Ends facts call slot own waiting file before after answer
ends_as facts call slot entries own waiting file before after Made same calls ahead ends = record {
  began = ends.began;
  made = subst (λ (n : ℕ). OnDisk facts (GoodRun n) (disk_in before.held) (disk_in after.held)) (as_many before call slot entries own waiting (entries_at file (place_for call file before.places slot)) (calls (entries_at file (place_for call file before.places slot))) ahead) ends.made;
  shows = subst (λ (one : File). Represents facts after one) same ends.shows;
}
ends_as facts call slot entries own waiting file before after Broken same calls ahead ends =
    let there : List Entry = entries_at file (place_for call file before.places slot) in
    record {
      began = ends.began;
      number = ends.number;
      within = ends.within;
      failed = subst (λ (n : ℕ). OnDisk facts (BadRun n) (disk_in before.held) (disk_in after.held)) (as_many before call slot entries own waiting there (calls there) ahead) ends.failed;
      made = λ listed.
          subst (λ (ws : List Waiting). OnDisk facts (FailedAt (length ws) (device_calls call there) ends.number) (disk_in before.held) (disk_in after.held)) ahead (ends.made (calls there ∙ listed));
      shows = ends.shows;
    }
ends_as facts call slot entries own waiting file before after Untouched same calls ahead ends = record { refused = ends.refused; same = ends.same }

ends_with : {D : Type 0} (facts : D → Facts) (call : Call) (slot : ℕ) (entries own : List Entry) (waiting : List Waiting) (file : File) (before after : Book D) (answer : Filed) → AreTaken call entries own
    → Ends facts call slot entries waiting file before after answer → Ends facts call slot own waiting file before after answer
ends_with facts PrepareCall slot entries own waiting file before after answer given ends =
    subst (λ (one : List Entry). Ends facts PrepareCall slot one waiting file before after answer) given ends
ends_with facts SealCall slot entries own waiting file before after answer given ends = ends_as facts SealCall slot entries own waiting file before after answer refl (λ taken. refl) refl ends
ends_with facts SettleCall slot entries own waiting file before after answer given ends = ends_as facts SettleCall slot entries own waiting file before after answer refl (λ taken. refl) refl ends
ends_with facts CancelCall slot entries own waiting file before after answer given ends = ends_as facts CancelCall slot entries own waiting file before after answer refl (λ taken. refl) refl ends

-- A call that starts, by a thread that has this file and no other.
module _ {D : Type 0} (facts : D → Facts) (old between : View) (actor : ActorState) (called : CallOn) (held : HeldFile) (before : Book D) (status : Status) (worker : ℕ) (comes : called_at actor.point ≡ Some called)
    (only : old.files ≡ held ∷ []) (its : held.file.tenant ≡ actor.tenant) (low : nat_lt called.change.slot old.config.pool ≡ true) (agrees : AgreesHeld facts before old actor.tenant)
    (test : starts_from called.call status ≡ true) (starts : Starts worker actor called held status old between) where
  abbrev quota : ℕ
  quota = (opening_at old.openings held.file.tenant).quota

  -- file token and book agree
  agrees_here : Agrees facts before held.file (opening_at old.openings held.file.tenant).quota old.config.pool
  agrees_here =
      subst (λ (tenant : ℕ). Agrees facts before held.file (opening_at old.openings tenant).quota old.config.pool) (sym its)
      (agrees_first facts old actor.tenant held before only agrees)

  within_pool : called.change.slot < old.config.pool
  within_pool = ltb-true called.change.slot old.config.pool low

  -- the call may be made on the book
  pub book_takes : (call : Call) (slot : ℕ) (entries : List Entry) → old.config.pool ≤ MAX_POOL → called.call ≡ call → called.change.slot ≡ slot → AreTaken call entries (own_entries actor) → MayCall before call slot entries
  book_takes call slot entries few same there given =
      may_with before call slot (own_entries actor) entries given
      (subst (λ (one : Call). MayCall before one slot (own_entries actor)) same
      (subst (λ (one : ℕ). MayCall before called.call one (own_entries actor)) there
      (books_take_calls facts before old between worker old.config.pool actor called held status agrees_here (let within = within_pool in omega (arith, within, few)) starts)))

  -- how it ended on the book, said of the token's own file
  pub ends_here : (waiting : List Waiting) (after : Book D) (call : Call) (slot : ℕ) (entries : List Entry) (answer : Filed) → called.call ≡ call → called.change.slot ≡ slot → AreTaken call entries (own_entries actor)
      → Ends facts call slot entries waiting (file_told held.file) before after answer → Ends facts called.call called.change.slot (own_entries actor) waiting (file_told held.file) before after answer
  ends_here waiting after call slot entries answer same there given ends =
      subst (λ (one : Call). Ends facts one called.change.slot (own_entries actor) waiting (file_told held.file) before after answer) (sym same)
      (subst (λ (one : ℕ). Ends facts call one (own_entries actor) waiting (file_told held.file) before after answer) (sym there)
      (ends_with facts call slot entries (own_entries actor) waiting (file_told held.file) before after answer given ends))

  -- and what a crash leaves meanwhile
  pub safe_here : (after : Book D) (call : Call) (slot : ℕ) (answer : Filed) → called.call ≡ call → called.change.slot ≡ slot → IsCrashSafe facts call slot before after answer
      → IsCrashSafe facts called.call called.change.slot before after answer
  safe_here after call slot answer same there safe =
      subst (λ (one : Call). IsCrashSafe facts one called.change.slot before after answer) (sym same) (subst (λ (one : ℕ). IsCrashSafe facts call one before after answer) (sym there) safe)

  abbrev found : HeldFile
  found = found_by held worker status

  -- The token, and the thread before and after it found the status, give the same number of places.
  same_quota : (opening_at between.openings held.file.tenant).quota ≡ (opening_at old.openings held.file.tenant).quota
  same_quota = ap (λ given. (opening_at given held.file.tenant).quota) starts.files.goes_on.same_openings

  as_long : (opening_at between.openings held.file.tenant).quota ≡ length held.file.places
  as_long = same_quota ∙ sym agrees_here.long

  abbrev file_token_at : ℕ → FileToken
  file_token_at n = file_token_filed called.call held.file called.change.slot (place_for called.call (file_told held.file) n called.change.slot) (own_entries actor)

  abbrev doubt_at : ℕ → List Entry
  doubt_at n = doubt_of called.call (entries_at (file_told held.file) (place_for called.call (file_told held.file) n called.change.slot))

  abbrev stake_at : ℕ → List Entry
  stake_at n = at_stake called.call (file_told held.file) (place_for called.call (file_told held.file) n called.change.slot)

  abbrev calls_at : ℕ → ℕ
  calls_at n = device_calls called.call (entries_at (file_told held.file) (place_for called.call (file_told held.file) n called.change.slot))

  -- The device call that failed is one that the call makes.
  one_made : (waiting : List Waiting) (after : Book D) (broken : WasBroken facts called.call called.change.slot (own_entries actor) waiting (file_told held.file) before after)
      → is_made (device_calls called.call (entries_at (file_told held.file) (place_held between called found))) broken.number ≡ true
  one_made waiting after broken = ap (λ (n : ℕ). is_made (calls_at n) broken.number) (same_quota ∙ sym agrees_here.as_many) ∙ broken.within

  -- If it failed and the file hadn't failed before, one of its device calls failed.
  pub call_failed : (waiting : List Waiting) (after : Book D) (answer : Filed) → answer ≢ Made → Ends facts called.call called.change.slot (own_entries actor) waiting (file_told held.file) before after answer
      → fails between called found ≡ false → (number : ℕ) × (is_made (device_calls called.call (entries_at (file_told held.file) (place_held between called found))) number ≡ true)
  call_failed waiting after Made other ends sound = absurd (other refl)
  call_failed waiting after Broken other ends sound = (ends.number, one_made waiting after ends)
  call_failed waiting after Untouched other ends sound = absurd (let e : true ≡ false = sym ends.refused ∙ sound in cc)

  -- After the device calls, and the step on a shared word that ends the call.
  module _ (waiting : List Waiting) (after : Book D) (last : View) (as_before : after.places ≡ before.places) where
    agrees_after : (answer : Filed) → Ends facts called.call called.change.slot (own_entries actor) waiting (file_told held.file) before after answer
        → Agrees facts after (file_token_answered called.call held.file quota called.change.slot (own_entries actor) answer) quota old.config.pool
    agrees_after answer ends =
        books_follow_file_tokens facts before after held.file quota old.config.pool called.call called.change.slot (own_entries actor) waiting answer agrees_here within_pool starts.within ends as_before

    agrees_told : (well : Bool) (file_token : FileToken) → LearnsFileCall well found file_token old last → Agrees facts after file_token (opening_at old.openings held.file.tenant).quota old.config.pool
        → AgreesHeld facts after last actor.tenant
    agrees_told well file_token went so =
        subst (λ (one : FileToken). Agrees facts after one (opening_at last.openings actor.tenant).quota last.config.pool) (sym (ap file_among went.keeps))
        (subst (λ given. Agrees facts after file_token (opening_at given actor.tenant).quota last.config.pool) (sym went.files.goes_on.same_openings)
        (subst (λ one. Agrees facts after file_token (opening_at old.openings actor.tenant).quota one.pool) (sym went.files.goes_on.same_config)
        (subst (λ (tenant : ℕ). Agrees facts after file_token (opening_at old.openings tenant).quota old.config.pool) its so)))

    -- by an event of the worker, after the status was found
    one_event : (end : End) → found_for end worker status ≡ Some (record { worker = worker; status = status }) → WentOn (event_of worker end ∷ []) between last → IsOneEvent worker end status held.file old last
    one_event end is event = record {
      with_file = between;
      keeps = keeps_so old between starts.files.goes_on;
      same_token = starts.same_token;
      same_mine = starts.files.same_mine;
      has = starts.keeps ∙ ap (λ (found_one : Option FoundStatus). held_as held.file found_one ∷ []) (sym is);
      went_on = event;
    }

    made_as : (well : Bool) (end : End) → ExtendsKnownRun between.known_run last.known_run → MayEnd end called status held.file → EndsThere facts called (own_entries actor) waiting held.file before after end
        → StaysSafe facts called held.file before after end → well ≡ went_well end → LearnsFileCall well found (file_token_by end held.file actor called) old last
        → IsOneEvent worker end status held.file old last → MakesCall facts waiting worker old last actor before after well
    made_as well end on may there safe well_is went event =
        let back : held.file ≡ file_among old.files = sym (ap file_among only) in
        record {
          called = called;
          comes_to = comes;
          status = status;
          end = end;
          may = subst (λ (file_token : FileToken). MayEnd end called status file_token) back may;
          there = subst (λ (file_token : FileToken). EndsThere facts called (own_entries actor) waiting file_token before after end) back there;
          safe = subst (λ (file_token : FileToken). StaysSafe facts called file_token before after end) back safe;
          well_is = well_is;
          held = found;
          went = subst (λ (file_token : FileToken). LearnsFileCall well found (file_token_by end file_token actor called) old last) back went;
          event = subst (λ (file_token : FileToken). IsOneEvent worker end status file_token old last) back event;
          follows = on_again old.learned_run between.known_run last.known_run starts.learned_run on;
        }

    -- the change at stake, by the places of the token
    stakes_at : OnDisk facts (LeavesEither held.file.contents (stake_at before.places)) (disk_in before.held) (disk_in after.held)
        → OnDisk facts (LeavesEither held.file.contents (stake_at (length held.file.places))) (disk_in before.held) (disk_in after.held)
    stakes_at = subst (λ (n : ℕ). OnDisk facts (LeavesEither held.file.contents (stake_at n)) (disk_in before.held) (disk_in after.held)) (agrees_here.as_many ∙ sym agrees_here.long)

    -- The exchange of the status ended it.
    pub made_well : (answer : Filed) → answer ≡ Made → Ends facts called.call called.change.slot (own_entries actor) waiting (file_told held.file) before after answer
        → IsCrashSafe facts called.call called.change.slot before after answer → LearnsFileCall true found (filed_so between actor called found) between last
        → WentOn (FileEvent worker Good ∷ []) between last → MakesCall facts waiting worker old last actor before after true × AgreesHeld facts after last actor.tenant
    made_well Made is ends moments went event =
        let since = went_since old between last worker actor called held found status true (filed_so between actor called found) starts went in (
          made_as true GoesWell went.files.goes_on.known_run (test, ends.began) ends (stakes_at (moments (file_told held.file) agrees_here.shows)) refl (subst (λ (file_token : FileToken). LearnsFileCall true found file_token old last) (ap file_token_at as_long) since)
              (one_event GoesWell refl event),
          agrees_told true (filed_so between actor called found) since
              (subst (λ (file_token : FileToken). Agrees facts after file_token quota old.config.pool) (sym (ap file_token_at same_quota)) (agrees_after Made ends)),
        )
    made_well Broken is ends moments went event = absurd (let e : Broken ≡ Made = is in cc)
    made_well Untouched is ends moments went event = absurd (let e : Untouched ≡ Made = is in cc)

    -- The fault at the door ended it.
    pub made_badly : (answer : Filed) → answer ≢ Made → Ends facts called.call called.change.slot (own_entries actor) waiting (file_told held.file) before after answer
        → IsCrashSafe facts called.call called.change.slot before after answer → LearnsFileCall false found (faulted_so between called found) between last
        → HasFailed worker called found between last → MakesCall facts waiting worker old last actor before after false × AgreesHeld facts after last actor.tenant
    made_badly Made other ends moments went event = absurd (other refl)
    made_badly Broken other ends moments went event =
        let faulted = cond-false (fails between called found) held.file (broken_so between called found) ends.began in
        let since = went_since old between last worker actor called held found status false (broken_so between called found) starts (subst (λ (file_token : FileToken). LearnsFileCall false found file_token between last) faulted went) in
        let many : before.places ≡ length held.file.places = agrees_here.as_many ∙ sym agrees_here.long in (
          made_as false (MeetsFault ends.number) went.files.goes_on.known_run (test, ends.began, ap (λ (n : ℕ). is_made (calls_at n) ends.number) (sym many) ∙ ends.within) (ends, refl) (stakes_at (moments (file_told held.file) agrees_here.shows)) refl
              (subst (λ (n : ℕ). LearnsFileCall false found (file_token_broken held.file (doubt_at n)) old last) as_long since)
              (one_event (MeetsFault ends.number) refl (event.now ends.began ends.number (one_made waiting after ends))),
          agrees_told false (broken_so between called found) since
              (subst (λ (n : ℕ). Agrees facts after (file_token_broken held.file (doubt_at n)) quota old.config.pool) (sym same_quota) (agrees_after Broken ends)),
        )
    made_badly Untouched other ends moments went event =
        let faulted = cond-true (fails between called found) held.file (broken_so between called found) ends.refused in
        let since = went_since old between last worker actor called held found status false held.file starts (subst (λ (file_token : FileToken). LearnsFileCall false found file_token between last) faulted went) in (
          made_as false FindsFault went.files.goes_on.known_run (test, ends.refused) ends (moments (file_told held.file) agrees_here.shows) refl since (one_event FindsFault refl (event.before ends.refused)),
          agrees_told false held.file since (agrees_after Untouched ends),
        )
