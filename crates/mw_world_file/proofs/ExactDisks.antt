-- A call on a simulated file makes just its own device calls, so one book, call and outcome lead to one disk, and a stop
-- leaves one image.
-- Used by: src/laws.rt, SimulatedFile::prepare, seal, settle, cancel, stop_preparing, stop_sealing, stop_settling,
-- mw_simulator.
use Rattle.std.proofs.Common.{◌≡◌, ◌≤◌, ℕ, Bool, true, false, List, [], ◌∷◌, length, get_or, Option, Some, None, Result, Ok, Err, IsSome, is_ok, is_err, refl, sym, ap, subst, ◌∙◌, inl, inr, arith}
use Rattle.std.proofs.lemmas.Bool.{cases_lt, false≢true}
use Rattle.mw_words.specs.declared.jobs.Entry.{Entry}
use Rattle.mw_look.specs.declared.steps.Call.{Call}
use Rattle.mw_look.specs.declared.steps.Call.TheVariants.{Prepare as PrepareCall, Cancel as CancelCall}
use Rattle.mw_memory_disk.specs.Crash.{Tears, unsynced}
use Rattle.mw_disk.specs.DeviceCalls.{DeviceCall, Makes}
use Rattle.mw_memory_disk.specs.Memory.{Memory, memory_facts, memory_made, NoneRefused}
use Rattle.mw_memory_disk.proofs.Determined.{same_disk, same_image}
use Rattle.mw_file.specs.declared.place_states.PlaceState.{PlaceState}
use Rattle.mw_file.specs.declared.tenant_file.TenantFile.{TenantFile}
use Rattle.mw_file.specs.declared.tenant_file.FileFault.{FileFault}
use Rattle.mw_file.specs.declared.tenant_file.FileFault.TheVariants.{Disk, Failed}
use Rattle.mw_file.specs.DeviceCalls.{prepare_calls, MadeCalls}
use Rattle.mw_file.specs.File.{disk_of, at_of, words_of, states_of, has_failed, Ends}
use Rattle.mw_file.specs.PlaceStates.{free_place}
use Rattle.mw_world_file.specs.declared.simulated_file.SimulatedFile.{SimulatedFile}
use Rattle.mw_world_file.specs.declared.cut.Cut.{Cut}
use Rattle.mw_world_file.specs.declared.device.Device.{Device}
use Rattle.mw_world_file.specs.declared.device.Device.TheVariants.{Open}
use Rattle.mw_world_file.specs.declared.faults.BookFault.{BookFault}
use Rattle.mw_world.specs.declared.outcomes.Outcome.{Outcome}
use Rattle.mw_world.specs.declared.outcomes.Outcome.TheVariants.{Good, Fail}
use Rattle.mw_world_file.specs.CallEffects.{failing}
use Rattle.mw_world_file.specs.DeviceCalls.{prepare_into, call_list_at, call_list_on, call_list, cut_list, LedBy, CameExactly}
use Rattle.mw_world_file.specs.Devices.{disk_under, IsReady}
use Rattle.mw_world_file.specs.Recovery.{IsTornImage, IsCutDisk, IsCutImage, until}
use Rattle.mw_world_file.proofs.WorkedFiles.{unfailed_open}

-- ---- one disk and one image

pub same_led : (calls : List DeviceCall) (well also : Bool) (before one other : Memory) → LedBy calls well before one → LedBy calls also before other → (well ≡ also) × (one ≡ other)
same_led [] well also before one other this that = (this.made.0 ∙ sym that.made.0, this.made.1 ∙ sym that.made.1)
same_led (call ∷ rest) well also before one other this that =
    same_disk (call ∷ rest) before one other well also this.made that.made (this.granted (omega arith)) (that.granted (omega arith))

pub one_disk : (old one other : SimulatedFile) (call : Call) (slot : ℕ) (entries : List Entry) (outcome : Outcome) → CameExactly old call slot entries outcome (Ok one)
    → CameExactly old call slot entries outcome (Ok other) → disk_under one.device ≡ disk_under other.device
one_disk old one other call slot entries Good this that = (same_led (call_list old call slot entries) true true _ _ _ this that).1
one_disk old one other call slot entries (Fail number) this that = (same_led (call_list old call slot entries) false false _ _ _ this that).1

one_stopped : (disk : Memory) (made : ℕ) (calls : List DeviceCall) (one other : Memory) → IsCutDisk disk made calls one → IsCutDisk disk made calls other → one ≡ other
one_stopped disk made calls one other this that = elim (cases_lt 0 made) [
  | inl some ↦ (same_led calls this.well that.well (until disk made) one other (this.led (omega arith)) (that.led (omega arith))).1
  | inr none ↦ let e : made ≡ 0 = omega arith in this.same e ∙ sym (that.same e)
]

pub one_image : (disk : Memory) (made : ℕ) (calls : List DeviceCall) (torn one other : List ℕ) → IsCutImage disk made calls torn one → IsCutImage disk made calls torn other → one ≡ other
one_image disk made calls torn one other this that =
    same_image (unsynced that.stopped.log) torn (length torn) (memory_facts that.stopped).reads one other
    (subst (λ (d : Memory). Tears (unsynced d.log) torn (length torn) (memory_facts d).reads one)
    (one_stopped disk made calls this.stopped that.stopped this.is_stopped that.is_stopped) this.tears) that.tears

-- ---- the device calls of a copy of the file

-- the copy has the same places, so its calls are those of the book
pub listed : (old : SimulatedFile) (held copy : TenantFile Memory) (call : Call) (slot : ℕ) (entries : List Entry) → old.device ≡ Open held → at_of copy ≡ at_of held → words_of copy ≡ words_of held
    → states_of copy ≡ states_of held → call_list_at (at_of copy) (words_of copy) (states_of copy) call (get_or old.place_of slot 0) entries ≡ call_list old call slot entries
listed old held copy call slot entries device at words states =
    let place = get_or old.place_of slot 0 in
    ap (λ (n : ℕ). call_list_at n (words_of copy) (states_of copy) call place entries) at
    ∙ (ap (λ (n : ℕ). call_list_at (at_of held) n (states_of copy) call place entries) words
    ∙ (ap (λ (ss : List PlaceState). call_list_at (at_of held) (words_of held) ss call place entries) states
    ∙ sym (ap (λ (d : Device). call_list_on d call place entries) device)))

-- there is a lowest free place if some place is free
some_place : (found : Option ℕ) → IsSome found → (place : ℕ) × (found ≡ Some place)
some_place None is = absurd (false≢true is)
some_place (Some place) is = (place, refl)

-- a prepare names its calls by the lowest free place
pub prepare_listed : {T : Type 0} (before now : TenantFile Memory) (place : ℕ) (entries : List Entry) (r : Result T FileFault) → IsSome (free_place (states_of before))
    → ((lowest : ℕ) → free_place (states_of before) ≡ Some lowest → MadeCalls memory_made (prepare_calls (at_of before) (words_of before) lowest entries) before now r)
    → MadeCalls memory_made (call_list_at (at_of before) (words_of before) (states_of before) PrepareCall place entries) before now r
prepare_listed before now place entries r room made =
    let lowest = some_place (free_place (states_of before)) room in
    subst (λ (o : Option ℕ). MadeCalls memory_made (prepare_into (at_of before) (words_of before) o entries) before now r) (sym lowest.1) (made lowest.0 lowest.1)

-- ---- the device calls of a call on the file, by its answer

pub made_well : {T : Type 0} (calls : List DeviceCall) (before now : TenantFile Memory) (r : Result T FileFault) → is_err r ≡ false → MadeCalls memory_made calls before now r
    → Makes memory_made calls true (disk_of before) (disk_of now)
made_well calls before now (Ok x) well made = made
made_well calls before now (Err fault) well made = absurd (let e : true ≡ false = well in cc)

-- the call failed, on a file that hadn't
pub made_badly : {T : Type 0} (calls : List DeviceCall) (before now : TenantFile Memory) (count : ℕ) (r : Result T FileFault) → has_failed before ≡ false → is_ok r ≡ false
    → Ends memory_facts count before now r → MadeCalls memory_made calls before now r → Makes memory_made calls false (disk_of before) (disk_of now)
made_badly calls before now count (Ok x) unfailed bad ends made = absurd (let e : true ≡ false = bad in cc)
made_badly calls before now count (Err Disk) unfailed bad ends made = made
made_badly calls before now count (Err Failed) unfailed bad ends made = absurd (let e : true ≡ false = sym ends.before ∙ unfailed in cc)

-- however the call ended
made_either : {T : Type 0} (calls : List DeviceCall) (before now : TenantFile Memory) (count : ℕ) (r : Result T FileFault) → has_failed before ≡ false
    → Ends memory_facts count before now r → MadeCalls memory_made calls before now r → (well : Bool) × Makes memory_made calls well (disk_of before) (disk_of now)
made_either calls before now count (Ok x) unfailed ends made = (true, made)
made_either calls before now count (Err Disk) unfailed ends made = (false, made)
made_either calls before now count (Err Failed) unfailed ends made = absurd (let e : true ≡ false = sym ends.before ∙ unfailed in cc)

-- a disk that was ready was refused memory never, so the count would tell
none_refused : (disk before now : Memory) → IsReady disk → before.refused ≡ disk.refused → now.refused ≡ disk.refused → NoneRefused before now
none_refused disk before now ready same granted = let none = ready.granted in record { room = omega arith; none = granted ∙ sym same }

-- ---- the new book's disk

pub exactly_well : (old new : SimulatedFile) (held before now : TenantFile Memory) (call : Call) (slot : ℕ) (entries : List Entry) (outcome : Outcome) → old.device ≡ Open held → new.device ≡ Open now
    → old.has_failed ≡ false → outcome ≡ Good → disk_of before ≡ disk_of held → at_of before ≡ at_of held → words_of before ≡ words_of held → states_of before ≡ states_of held
    → (disk_of now).refused ≡ (disk_of before).refused
    → Makes memory_made (call_list_at (at_of before) (words_of before) (states_of before) call (get_or old.place_of slot 0) entries) true (disk_of before) (disk_of now)
    → CameExactly old call slot entries outcome (Ok new)
exactly_well old new held before now call slot entries outcome is_old is_new sound well copied at words states granted made =
    let ready = subst (λ (d : Device). IsReady (disk_under d)) is_old (old.ready sound) in
    let same = ap (λ (m : Memory). m.refused) copied in
    subst (λ (o : Outcome). CameExactly old call slot entries o (Ok new)) (sym well)
    (subst (λ (d : Device). LedBy (call_list old call slot entries) true (disk_under d) (disk_under new.device)) (sym is_old)
    (subst (λ (d : Device). LedBy (call_list old call slot entries) true (disk_of held) (disk_under d)) (sym is_new)
    (subst (λ (d : Memory). LedBy (call_list old call slot entries) true d (disk_of now)) copied (record {
      made = subst (λ (l : List DeviceCall). Makes memory_made l true (disk_of before) (disk_of now)) (listed old held before call slot entries is_old at words states) made;
      granted = λ some. none_refused (disk_of held) (disk_of before) (disk_of now) ready same (granted ∙ same);
    }))))

pub exactly_badly : (old new : SimulatedFile) (held before now : TenantFile Memory) (call : Call) (slot : ℕ) (entries : List Entry) (outcome : Outcome) (number : ℕ) → old.device ≡ Open held
    → new.device ≡ Open now → old.has_failed ≡ false → outcome ≡ Fail number → disk_of before ≡ failing (disk_of held) number → at_of before ≡ at_of held → words_of before ≡ words_of held
    → states_of before ≡ states_of held → (disk_of now).refused ≡ (disk_of held).refused
    → Makes memory_made (call_list_at (at_of before) (words_of before) (states_of before) call (get_or old.place_of slot 0) entries) false (disk_of before) (disk_of now)
    → CameExactly old call slot entries outcome (Ok new)
exactly_badly old new held before now call slot entries outcome number is_old is_new sound fails copied at words states granted made =
    let ready = subst (λ (d : Device). IsReady (disk_under d)) is_old (old.ready sound) in
    let same = ap (λ (m : Memory). m.refused) copied in
    subst (λ (o : Outcome). CameExactly old call slot entries o (Ok new)) (sym fails)
    (subst (λ (d : Device). LedBy (call_list old call slot entries) false (failing (disk_under d) number) (disk_under new.device)) (sym is_old)
    (subst (λ (d : Device). LedBy (call_list old call slot entries) false (failing (disk_of held) number) (disk_under d)) (sym is_new)
    (subst (λ (d : Memory). LedBy (call_list old call slot entries) false d (disk_of now)) copied (record {
      made = subst (λ (l : List DeviceCall). Makes memory_made l false (disk_of before) (disk_of now)) (listed old held before call slot entries is_old at words states) made;
      granted = λ some. none_refused (disk_of held) (disk_of before) (disk_of now) ready same granted;
    }))))

-- a cancel leaves the disk
pub exactly_none : (old new : SimulatedFile) (held now : TenantFile Memory) (slot : ℕ) (entries : List Entry) (outcome : Outcome) → old.device ≡ Open held → new.device ≡ Open now → outcome ≡ Good
    → disk_of now ≡ disk_of held → CameExactly old CancelCall slot entries outcome (Ok new)
exactly_none old new held now slot entries outcome is_old is_new well same =
    let place = get_or old.place_of slot 0 in
    let none : call_list old CancelCall slot entries ≡ [] = ap (λ (d : Device). call_list_on d CancelCall place entries) is_old in
    subst (λ (o : Outcome). CameExactly old CancelCall slot entries o (Ok new)) (sym well)
    (subst (λ (l : List DeviceCall). LedBy l true (disk_under old.device) (disk_under new.device)) (sym none) (record {
      made = (refl, ap disk_under is_new ∙ (same ∙ sym (ap disk_under is_old)));
      granted = λ some. absurd (let e : ⊥ = omega arith in e);
    }))

-- a call under another name
pub exactly_as : (old : SimulatedFile) (call other : Call) (slot : ℕ) (entries : List Entry) (outcome : Outcome) (r : Result SimulatedFile BookFault) → call ≡ other
    → CameExactly old other slot entries outcome r → CameExactly old call slot entries outcome r
exactly_as old call other slot entries outcome r same came = subst (λ (k : Call). CameExactly old k slot entries outcome r) (sym same) came

-- ---- what a stop leaves

pub whole_image : (disk : Memory) (made : ℕ) (calls : List DeviceCall) (torn image : List ℕ) → made ≡ 0 → IsTornImage disk torn image → IsCutImage disk made calls torn image
whole_image disk made calls torn image none is = record {
  stopped = disk;
  is_stopped = record { same = λ zero. refl; well = true; led = λ some. absurd (let e : ⊥ = omega arith in e) };
  tears = is.tears;
}

pub cut_image : {T : Type 0} (old : SimulatedFile) (cut : Cut) (call : Call) (held before now : TenantFile Memory) (count : ℕ) (torn image : List ℕ) (r : Result T FileFault) → cut.call ≡ call
    → old.device ≡ Open held → old.has_failed ≡ false → 1 ≤ cut.made → disk_of before ≡ until (disk_of held) cut.made → at_of before ≡ at_of held → words_of before ≡ words_of held
    → states_of before ≡ states_of held → has_failed before ≡ has_failed held → Ends memory_facts count before now r → (disk_of now).refused ≡ (disk_of held).refused
    → MadeCalls memory_made (call_list_at (at_of before) (words_of before) (states_of before) call (get_or old.place_of cut.slot 0) cut.entries.items) before now r
    → IsTornImage (disk_of now) torn image → IsCutImage (disk_under old.device) cut.made (cut_list old (Some cut)) torn image
cut_image old cut call held before now count torn image r is_call device sound some stops at words states failed ends granted made is =
    let ready = subst (λ (d : Device). IsReady (disk_under d)) device (old.ready sound) in
    let same = ap (λ (m : Memory). m.refused) stops in
    let ran = made_either _ before now count r (failed ∙ unfailed_open old held device sound) ends made in
    let calls = listed old held before call cut.slot cut.entries.items device at words states ∙ sym (ap (λ (k : Call). call_list old k cut.slot cut.entries.items) is_call) in
    record {
      stopped = disk_of now;
      is_stopped = record {
        same = λ none. absurd (let e : ⊥ = omega arith in e);
        well = ran.0;
        led = λ any.
            subst (λ (d : Device). LedBy (cut_list old (Some cut)) ran.0 (until (disk_under d) cut.made) (disk_of now)) (sym device)
            (subst (λ (d : Memory). LedBy (cut_list old (Some cut)) ran.0 d (disk_of now)) stops (record {
              made = subst (λ (l : List DeviceCall). Makes memory_made l ran.0 (disk_of before) (disk_of now)) calls ran.1;
              granted = λ few. none_refused (disk_of held) (disk_of before) (disk_of now) ready same granted;
            }));
      };
      tears = is.tears;
    }
