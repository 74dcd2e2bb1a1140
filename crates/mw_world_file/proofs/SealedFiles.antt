-- After a seal, settle or cancel of a slot's change, the book (a simulated file) represents the file after that call.
-- Used by: SimulatedFile::seal, settle, cancel, stop_sealing, stop_settling.
use Rattle.std.proofs.Common.{◌≡◌, ℕ, ◌<◌, ◌&&◌, Bool, true, false, List, [], length, None, Result, Ok, Err, is_err, is_ok, slice_set, get_or, nat_lt, nat_le, refl, sym, ap, subst, ◌∙◌, inl, inr, arith}
use Rattle.std.specs.List.{list_all}
use Rattle.std.proofs.lemmas.List.{length-map}
use Rattle.std.proofs.lemmas.Bool.{and_parts, and_left, and_right, cases_lt, leb-true, lt-ltb, le-ltb}
use Rattle.mw_words.specs.declared.limits.TheConstants.{MAX_POOL}
use Rattle.mw_words.specs.declared.jobs.Entry.{Entry}
use Rattle.mw_words.specs.Change.{put}
use Rattle.arrayvec.specs.ArrayVec.{ArrayVec}
use Rattle.mw_look.specs.declared.steps.Call.TheVariants.{Seal as SealCall, Settle as SettleCall, Cancel as CancelCall}
use Rattle.mw_memory_disk.specs.Memory.{Memory, memory_facts}
use Rattle.mw_record.specs.Records.{Pairs, put_pairs}
use Rattle.mw_record.specs.Layout.{pairs_of}
use Rattle.mw_record.proofs.ReadAgain.{put-put_pairs}
use Rattle.mw_lone.proofs.SoundStores.{length-put}
use Rattle.mw_file.specs.declared.tenant_file.TenantFile.{TenantFile}
use Rattle.mw_file.specs.declared.tenant_file.FileFault.{FileFault}
use Rattle.mw_file.specs.declared.tenant_file.FileFault.TheVariants.{Disk, Failed}
use Rattle.mw_file.specs.File.{states_of, words_of, has_failed, Ends}
use Rattle.mw_file.specs.RecoveryInvariant.{RecoversTo, ChangeIsSealed}
use Rattle.mw_file.specs.declared.place_states.Stage.TheVariants.{Free as FreeStage, Prepared as PreparedStage, Sealed as SealedStage}
use Rattle.mw_file.specs.PlaceStates.{stage_of, writes_of_place, IsStaged, MaySeal}
use Rattle.mw_world_file.specs.declared.device.Device.TheVariants.{Open, Shut}
use Rattle.mw_world_file.specs.declared.places.Place.{Place as KeptPlace}
use Rattle.mw_world_file.specs.declared.places.Place.TheVariants.{Empty as KeptEmpty, Prepared as KeptPrepared, Sealed as KeptSealed}
use Rattle.mw_world_file.specs.declared.simulated_file.SimulatedFile.{SimulatedFile}
use Rattle.mw_world.specs.declared.outcomes.Outcome.{Outcome}
use Rattle.mw_world.specs.declared.outcomes.Outcome.TheVariants.{Good, Fail}
use Rattle.mw_world.specs.Maps.{upd}
use Rattle.mw_world.specs.Files.State.{File, Empty, Prepared, Sealed, is_empty, is_prepared, is_sealed, is_apart, entries_at, entries_in, sealed, emptied}
use Rattle.mw_world.specs.Files.Calls.{suits, device_calls}
use Rattle.mw_world.specs.Files.Stages.{stage_told}
use Rattle.mw_world_file.specs.Devices.{told, told_at, place_in, states_on, is_clear, AreKept}
use Rattle.mw_world_file.specs.Books.{Represents, HasParts, quota_of}
use Rattle.mw_world_file.specs.CallEffects.{may_end, worked, Turns}
use Rattle.mw_world_file.proofs.ApartPlaces.{may_seal, is_apart_as}
use Rattle.mw_world_file.proofs.WorkedFiles.{IsAt, place_is, told_is, told_there, kept_after, sized_open, unfailed_open, keeps_open, none_doubted, kept_open, broken_turns, done_turns, unsuited}

-- what a seal on an honest disk leaves, for each answer
sealed_well : (old now : TenantFile Memory) (w : Pairs) (r : Result (Unit {0}) FileFault) → is_err r ≡ false → ChangeIsSealed memory_facts old now w r
    → (contents : List ℕ) (doubt : Pairs) → RecoversTo memory_facts old contents doubt → RecoversTo memory_facts now (put_pairs w contents) []
sealed_well old now w (Ok x) well safe contents doubt keeps = (safe refl contents doubt keeps).after
sealed_well old now w (Err fault) well safe contents doubt keeps = absurd (cc)

sealed_badly : (old now : TenantFile Memory) (w : Pairs) (calls : ℕ) (r : Result (Unit {0}) FileFault) → is_ok r ≡ false → has_failed old ≡ false → Ends memory_facts calls old now r
    → ChangeIsSealed memory_facts old now w r → (contents : List ℕ) (doubt : Pairs) → RecoversTo memory_facts old contents doubt → RecoversTo memory_facts now contents w
sealed_badly old now w calls (Ok x) bad sound ends safe contents doubt keeps = absurd (cc)
sealed_badly old now w calls (Err Disk) bad sound ends safe contents doubt keeps = (safe refl contents doubt keeps).after
sealed_badly old now w calls (Err Failed) bad sound ends safe contents doubt keeps = absurd (let e : true ≡ false = sym ends.before ∙ sound in cc)

-- the test of all places, under other names
pub all_clear : (result : Bool) (entries others : List Entry) (places known : List KeptPlace) → result ≡ list_all (λ place. is_clear others (told place)) known → others ≡ entries → known ≡ places
    → list_all (λ place. is_clear entries (told place)) places ≡ result
all_clear result entries others places known tested same are =
    ap (λ es. list_all (λ place. is_clear es (told place)) places) (sym same) ∙ ap (λ ps. list_all (λ place. is_clear others (told place)) ps) (sym are) ∙ sym tested

-- a place that was emptied
emptied_as : (old : SimulatedFile) (slot number : ℕ) (p : KeptPlace) → IsAt old slot number p → (file : File) → Represents old file
    → emptied file (file.place_of slot) ≡ record file { contents = old.contents.items; places = upd file.places number Empty }
emptied_as old slot number p is file shows =
    ap (emptied file) (place_is old slot number p is file shows) ∙ ap (λ ws. record file { contents = ws; places = upd file.places number Empty }) shows.same_contents

-- the places of a book after one of them was emptied
pub emptied_kept : (old : SimulatedFile) (slot number : ℕ) (p : KeptPlace) → IsAt old slot number p → (held : TenantFile Memory) → old.device ≡ Open held → (before : TenantFile Memory) → states_of before ≡ states_of held
    → (now : TenantFile Memory) (w : Pairs) → IsStaged (states_of before) (states_of now) number FreeStage w → AreKept (states_of now) (slice_set old.places.items number KeptEmpty)
emptied_kept old slot number p is held device before same now w staged =
    kept_after old held device before now number KeptEmpty FreeStage w same is.within staged refl (λ busy. absurd (let e : true ≡ false = busy in cc))

-- the file has the change at the stage that the book says
pub is_sealed_in : (old : SimulatedFile) (slot number : ℕ) (entries : ArrayVec Entry) → IsAt old slot number (KeptSealed entries) → (held : TenantFile Memory) → old.device ≡ Open held → (before : TenantFile Memory)
    → states_of before ≡ states_of held → stage_of (states_of before) number ≡ SealedStage
is_sealed_in old slot number entries is held device before same = ap (λ ss. stage_of ss number) same ∙ (kept_open old held device).stages number ∙ ap (λ q. stage_told (told_at q)) is.there

pub is_prepared_in : (old : SimulatedFile) (slot number : ℕ) (entries : ArrayVec Entry) → IsAt old slot number (KeptPrepared entries) → (held : TenantFile Memory) → old.device ≡ Open held → (before : TenantFile Memory)
    → states_of before ≡ states_of held → stage_of (states_of before) number ≡ PreparedStage
is_prepared_in old slot number entries is held device before same = ap (λ ss. stage_of ss number) same ∙ (kept_open old held device).stages number ∙ ap (λ q. stage_told (told_at q)) is.there

-- a shut file has no prepared change
pub none_shut : (old : SimulatedFile) (slot number : ℕ) (entries : ArrayVec Entry) → IsAt old slot number (KeptPrepared entries) → (disk : Memory) → old.device ≡ Shut disk → ⊥
none_shut old slot number entries is disk device =
    let e : FreeStage ≡ PreparedStage = sym (ap (λ d. stage_of (states_on d) number) device) ∙ old.kept.stages number ∙ ap (λ q. stage_told (told_at q)) is.there in
    cc

-- a call that makes no device call ends well
pub ends_well : (outcome : Outcome) → may_end 0 outcome ≡ true → outcome ≡ Good
ends_well Good may = refl
ends_well (Fail n) may =
    let both = and_parts (nat_le 1 n) (nat_le n 0) may in
    absurd (let e : ⊥ = omega (arith, leb-true 1 n both.0, leb-true n 0 both.1) in e)

-- A prepared change of a slot.
module _ (old : SimulatedFile) (slot number : ℕ) (entries : ArrayVec Entry) (is : IsAt old slot number (KeptPrepared entries)) where
  -- the book's test of a seal is the file's
  pub seal_suits : (b : Bool) → list_all (λ place. is_clear entries.items (told place)) old.places.items ≡ b → (file : File) → Represents old file
      → suits SealCall file (quota_of old) (file.place_of slot) ≡ b
  seal_suits b all file shows =
      let there : file.places (file.place_of slot) ≡ Prepared entries.items = told_there old slot number (KeptPrepared entries) is file shows in
      let at : file.place_of slot ≡ number = place_is old slot number (KeptPrepared entries) is file shows in
      let lt = is.within in
      ap (λ q. nat_lt (file.place_of slot) (quota_of old) && is_prepared q && is_apart file (entries_in q) (quota_of old)) there
      ∙ ap (λ c. c && true && is_apart file entries.items (quota_of old)) (lt-ltb (file.place_of slot) (quota_of old) (omega (arith, at, lt)))
      ∙ is_apart_as file old.places.items entries.items shows.same_places b all

  pub not_apart : (others : List Entry) (outcome : Outcome) → list_all (λ place. is_clear entries.items (told place)) old.places.items ≡ false → (file : File) → Represents old file
      → worked SealCall file (quota_of old) slot others outcome ≡ None
  not_apart others outcome not file shows = unsuited SealCall file (quota_of old) slot (file.place_of slot) others outcome (seal_suits false not file shows)

  prepared_in : place_in old.places.items number ≡ Prepared entries.items
  prepared_in = ap told_at is.there

  module _ (held : TenantFile Memory) (device : old.device ≡ Open held) (before : TenantFile Memory) (same : states_of before ≡ states_of held) where
    pub may_seal_it : list_all (λ place. is_clear entries.items (told place)) old.places.items ≡ true → MaySeal (states_of before) number
    may_seal_it all = may_seal (states_of before) old.places.items number entries.items (subst (λ ss. AreKept ss old.places.items) (sym same) (kept_open old held device)) prepared_in all

    pub writes_are : writes_of_place (states_of before) number ≡ pairs_of entries.items
    writes_are = ap (λ ss. writes_of_place ss number) same ∙ (kept_open old held device).writes number (ap is_empty prepared_in) ∙ ap (λ q. pairs_of (entries_in q)) prepared_in

    -- the places of the book after the seal
    pub sealed_kept : (now : TenantFile Memory) (copy : ArrayVec Entry) → copy ≡ entries → IsStaged (states_of before) (states_of now) number SealedStage (writes_of_place (states_of before) number)
        → AreKept (states_of now) (slice_set old.places.items number (KeptSealed copy))
    sealed_kept now copy copied_as staged =
        kept_after old held device before now number (KeptSealed copy) SealedStage (writes_of_place (states_of before) number) same is.within staged refl
        (λ busy. writes_are ∙ ap (λ es. pairs_of es.items) (sym copied_as))

    -- its words after the seal
    pub sealed_sized : (now : TenantFile Memory) (words : List ℕ) → words_of now ≡ words_of before → words_of before ≡ words_of held → words ≡ put old.contents.items entries.items
        → words_of now ≡ length words
    sealed_sized now words of_now of_before are =
        of_now ∙ of_before ∙ sized_open old held device ∙ sym (ap (λ ws. length ws) are ∙ length-put old.contents.items entries.items)

    module _ (now : TenantFile Memory) (new : SimulatedFile) (others : List Entry) (outcome : Outcome) (r : Result (Unit {0}) FileFault)
        (copied : (contents : List ℕ) (doubt : Pairs) → RecoversTo memory_facts held contents doubt → RecoversTo memory_facts before contents doubt)
        (safe : ChangeIsSealed memory_facts before now (writes_of_place (states_of before) number) r)
        (all : list_all (λ place. is_clear entries.items (told place)) old.places.items ≡ true) (sound : old.has_failed ≡ false) where
      safe_as : ChangeIsSealed memory_facts before now (pairs_of entries.items) r
      safe_as = subst (λ w. ChangeIsSealed memory_facts before now w r) writes_are safe

      pub seal_broken : (number_failed : ℕ) (copy : ArrayVec Entry) → copy ≡ entries → outcome ≡ Fail number_failed → may_end 2 outcome ≡ true → is_ok r ≡ false → has_failed before ≡ false → (calls : ℕ) → Ends memory_facts calls before now r
          → HasParts new (Open now) old.contents.items old.places.items old.file_places old.place_of true copy.items → Turns old new (λ file. worked SealCall file (quota_of old) slot others outcome)
      seal_broken number_failed copy copied_as fails may bad unfailed calls ends parts =
          broken_turns old held device now new SealCall slot others outcome number_failed entries fails
          (subst (λ es. HasParts new (Open now) old.contents.items old.places.items old.file_places old.place_of true es.items) copied_as parts)
          (λ file shows. sealed_badly before now (pairs_of entries.items) calls r bad unfailed ends safe_as old.contents.items (pairs_of old.doubt.items) (copied old.contents.items (pairs_of old.doubt.items) (keeps_open old held device file shows)))
          (seal_suits true all) (λ file shows. may) (λ file shows. ap entries_in (told_there old slot number (KeptPrepared entries) is file shows))

      pub seal_done : (words : List ℕ) (copy : ArrayVec Entry) → words ≡ put old.contents.items entries.items → copy ≡ entries → outcome ≡ Good → is_err r ≡ false
          → HasParts new (Open now) words (slice_set old.places.items number (KeptSealed copy)) old.file_places old.place_of old.has_failed old.doubt.items
          → Turns old new (λ file. worked SealCall file (quota_of old) slot others outcome)
      seal_done words copy are copied_as well fine parts =
          done_turns old held device now new SealCall slot others outcome number words (KeptSealed entries) well
          (subst (λ es. HasParts new (Open now) words (slice_set old.places.items number (KeptSealed es)) old.file_places old.place_of old.has_failed old.doubt.items) copied_as parts)
          (ap (λ ws. length ws) are ∙ length-put old.contents.items entries.items) is.within keeps (seal_suits true all) after where
            keeps : (file : File) → Represents old file → RecoversTo memory_facts now words (pairs_of old.doubt.items)
            keeps file shows =
                let before_keeps = none_doubted old held device before sound copied file shows in
                let none : pairs_of old.doubt.items ≡ [] = (keeps_open old held device file shows).certain (unfailed_open old held device sound) in
                subst (λ doubt. RecoversTo memory_facts now words doubt) (sym none)
                (subst (λ ws. RecoversTo memory_facts now ws []) (sym (are ∙ put-put_pairs entries.items old.contents.items))
                (sealed_well before now (pairs_of entries.items) r fine safe_as old.contents.items [] before_keeps))

            after : (file : File) → Represents old file → sealed file (file.place_of slot) ≡ record file { contents = words; places = upd file.places number (told (KeptSealed entries)) }
            after file shows =
                let told_so : file.places number ≡ Prepared entries.items = told_is old slot number (KeptPrepared entries) is file shows in
                ap (sealed file) (place_is old slot number (KeptPrepared entries) is file shows)
                ∙ ap (λ q. record file { contents = put file.contents (entries_in q); places = upd file.places number (Sealed (entries_in q)) }) told_so
                ∙ ap (λ ws. record file { contents = put ws entries.items; places = upd file.places number (Sealed entries.items) }) shows.same_contents
                ∙ ap (λ ws. record file { contents = ws; places = upd file.places number (Sealed entries.items) }) (sym are)

  -- its place is empty after a cancel
  cancel_suits : (file : File) → Represents old file → suits CancelCall file (quota_of old) (file.place_of slot) ≡ true
  cancel_suits file shows =
      let there : file.places (file.place_of slot) ≡ Prepared entries.items = told_there old slot number (KeptPrepared entries) is file shows in
      let at : file.place_of slot ≡ number = place_is old slot number (KeptPrepared entries) is file shows in
      let lt = is.within in
      ap (λ q. nat_lt (file.place_of slot) (quota_of old) && is_prepared q) there
      ∙ ap (λ c. c && true) (lt-ltb (file.place_of slot) (quota_of old) (omega (arith, at, lt)))

  pub cancel_done : (held : TenantFile Memory) (device : old.device ≡ Open held) (now : TenantFile Memory) (new : SimulatedFile) (others : List Entry) (outcome : Outcome) → may_end 0 outcome ≡ true
      → ((contents : List ℕ) (doubt : Pairs) → RecoversTo memory_facts held contents doubt → RecoversTo memory_facts now contents doubt)
      → HasParts new (Open now) old.contents.items (slice_set old.places.items number KeptEmpty) old.file_places old.place_of old.has_failed old.doubt.items
      → Turns old new (λ file. worked CancelCall file (quota_of old) slot others outcome)
  cancel_done held device now new others outcome may stays parts =
      done_turns old held device now new CancelCall slot others outcome number old.contents.items KeptEmpty (ends_well outcome may) parts refl is.within
      (λ file shows. stays old.contents.items (pairs_of old.doubt.items) (keeps_open old held device file shows)) cancel_suits
      (λ file shows. emptied_as old slot number (KeptPrepared entries) is file shows)

-- a slot whose place has no prepared change
pub unprepared : (old : SimulatedFile) (slot : ℕ) (xs : List KeptPlace) → is_prepared (place_in xs (get_or old.place_of slot 0)) ≡ false → xs ≡ old.places.items → slot < MAX_POOL → (file : File) → Represents old file
    → suits SealCall file (quota_of old) (file.place_of slot) ≡ false
unprepared old slot xs isnt are within file shows =
    let place : ℕ = file.place_of slot in
    let apart = is_apart file (entries_at file place) (quota_of old) in
    elim (cases_lt place (quota_of old)) [
      | inl lt ↦ and_left (nat_lt place (quota_of old) && is_prepared (file.places place)) apart
          (and_right (nat_lt place (quota_of old)) (is_prepared (file.places place))
          (ap is_prepared (shows.same_places place lt ∙ ap (place_in old.places.items) (shows.same_place_of slot within) ∙ ap (λ l. place_in l (get_or old.place_of slot 0)) (sym are)) ∙ isnt))
      | inr past ↦ and_left (nat_lt place (quota_of old) && is_prepared (file.places place)) apart
          (and_left (nat_lt place (quota_of old)) (is_prepared (file.places place)) (le-ltb place (quota_of old) past))
    ]

-- a slot whose place has no sealed change
pub unsettled : (old : SimulatedFile) (slot : ℕ) (xs : List KeptPlace) → is_sealed (place_in xs (get_or old.place_of slot 0)) ≡ false → xs ≡ old.places.items → slot < MAX_POOL → (file : File) → Represents old file
    → suits SettleCall file (quota_of old) (file.place_of slot) ≡ false
unsettled old slot xs isnt are within file shows = elim (cases_lt (file.place_of slot) (quota_of old)) [
  | inl lt ↦ and_right (nat_lt (file.place_of slot) (quota_of old)) (is_sealed (file.places (file.place_of slot)))
      (ap is_sealed (shows.same_places (file.place_of slot) lt ∙ ap (place_in old.places.items) (shows.same_place_of slot within) ∙ ap (λ l. place_in l (get_or old.place_of slot 0)) (sym are)) ∙ isnt)
  | inr past ↦ and_left (nat_lt (file.place_of slot) (quota_of old)) (is_sealed (file.places (file.place_of slot))) (le-ltb (file.place_of slot) (quota_of old) past)
]

-- the same for a cancel
pub uncancelled : (old : SimulatedFile) (slot : ℕ) (xs : List KeptPlace) → is_prepared (place_in xs (get_or old.place_of slot 0)) ≡ false → xs ≡ old.places.items → slot < MAX_POOL → (file : File) → Represents old file
    → suits CancelCall file (quota_of old) (file.place_of slot) ≡ false
uncancelled old slot xs isnt are within file shows = elim (cases_lt (file.place_of slot) (quota_of old)) [
  | inl lt ↦ and_right (nat_lt (file.place_of slot) (quota_of old)) (is_prepared (file.places (file.place_of slot)))
      (ap is_prepared (shows.same_places (file.place_of slot) lt ∙ ap (place_in old.places.items) (shows.same_place_of slot within) ∙ ap (λ l. place_in l (get_or old.place_of slot 0)) (sym are)) ∙ isnt)
  | inr past ↦ and_left (nat_lt (file.place_of slot) (quota_of old)) (is_prepared (file.places (file.place_of slot))) (le-ltb (file.place_of slot) (quota_of old) past)
]

-- A sealed change of a slot.
module _ (old : SimulatedFile) (slot number : ℕ) (entries : ArrayVec Entry) (is : IsAt old slot number (KeptSealed entries)) where
  -- a copy of the file has the change's entries
  pub sealed_writes : (held : TenantFile Memory) → old.device ≡ Open held → (before : TenantFile Memory) → states_of before ≡ states_of held
      → length (writes_of_place (states_of before) number) ≡ length entries.items
  sealed_writes held device before same =
      let there : place_in old.places.items number ≡ Sealed entries.items = ap told_at is.there in
      ap (λ ss. length (writes_of_place ss number)) same
      ∙ ap length ((kept_open old held device).writes number (ap is_empty there))
      ∙ ap (λ q. length (pairs_of (entries_in q))) there
      ∙ length-map entries.items (λ e. (e.addr, e.new))

  pub settle_suits : (file : File) → Represents old file → suits SettleCall file (quota_of old) (file.place_of slot) ≡ true
  settle_suits file shows =
      let there : file.places (file.place_of slot) ≡ Sealed entries.items = told_there old slot number (KeptSealed entries) is file shows in
      let at : file.place_of slot ≡ number = place_is old slot number (KeptSealed entries) is file shows in
      let lt = is.within in
      ap (λ q. nat_lt (file.place_of slot) (quota_of old) && is_sealed q) there
      ∙ ap (λ c. c && true) (lt-ltb (file.place_of slot) (quota_of old) (omega (arith, at, lt)))

  module _ (held : TenantFile Memory) (device : old.device ≡ Open held) (now : TenantFile Memory) (new : SimulatedFile) (others : List Entry) (outcome : Outcome) (sound : old.has_failed ≡ false)
      (stays : (contents : List ℕ) (doubt : Pairs) → RecoversTo memory_facts held contents doubt → RecoversTo memory_facts now contents doubt) where
    pub settle_broken : (number_failed : ℕ) (doubt : ArrayVec Entry) → doubt.items ≡ [] → outcome ≡ Fail number_failed → may_end (device_calls SettleCall entries.items) outcome ≡ true
        → HasParts new (Open now) old.contents.items old.places.items old.file_places old.place_of true doubt.items → Turns old new (λ file. worked SettleCall file (quota_of old) slot others outcome)
    settle_broken number_failed doubt none fails may parts =
        broken_turns old held device now new SettleCall slot others outcome number_failed doubt fails parts
        (λ file shows. subst (λ es. RecoversTo memory_facts now old.contents.items (pairs_of es)) (sym none) (none_doubted old held device now sound stays file shows))
        settle_suits (λ file shows. ap (λ q. may_end (device_calls SettleCall (entries_in q)) outcome) (told_there old slot number (KeptSealed entries) is file shows) ∙ may)
        (λ file shows. sym none)

    pub settle_done : outcome ≡ Good → HasParts new (Open now) old.contents.items (slice_set old.places.items number KeptEmpty) old.file_places old.place_of old.has_failed old.doubt.items
        → Turns old new (λ file. worked SettleCall file (quota_of old) slot others outcome)
    settle_done well parts =
        done_turns old held device now new SettleCall slot others outcome number old.contents.items KeptEmpty well parts refl is.within
        (λ file shows. stays old.contents.items (pairs_of old.doubt.items) (keeps_open old held device file shows)) settle_suits
        (λ file shows. emptied_as old slot number (KeptSealed entries) is file shows)
