-- Each call on a book ends as its contract says, whether the device fails in it or not. Used by: all calls of Book.
use Rattle.std.proofs.Common.{◌≡◌, ◌≢◌, ℕ, ◌+◌, ◌==◌, ◌-◌, ◌&&◌, not, ◌∷◌, ◌++◌, ◌<◌, ◌≤◌, Bool, true, false, List, [], length, Some, None, get_or, Result, Ok, Err, is_err, slice_set, nat_le, IsTrue, refl, sym, ap, subst, ◌∙◌, inl, inr, arith}
use Rattle.std.proofs.lemmas.Bool.{and_from, cases_Bool, cases_eq, cases_lt, cond-true, cond-false, eq-eqb, le-leb, ne_eqb}
use Rattle.std.proofs.lemmas.List.{length-append}
use Rattle.std.proofs.lemmas.List.Elements.{All-push}
use Rattle.mw_words.specs.declared.limits.TheConstants.{MAX_POOL}
use Rattle.mw_words.specs.declared.jobs.Entry.{Entry}
use Rattle.mw_words.specs.Change.{put}
use Rattle.mw_look.specs.declared.steps.Call.{Call}
use Rattle.mw_look.specs.declared.steps.Call.TheVariants.{Prepare as PrepareCall, Seal as SealCall, Settle as SettleCall, Cancel as CancelCall}
use Rattle.mw_disk.specs.Facts.{Facts}
use Rattle.mw_disk.specs.Runs.{Bad, Good, Later}
use Rattle.mw_disk.proofs.RunLaws.{later_refl, was_honest, good_none}
use Rattle.mw_record.specs.Records.{Pairs, put_pairs}
use Rattle.mw_record.specs.Layout.{pairs_of}
use Rattle.mw_record.proofs.ReadAgain.{put-put_pairs}
use Rattle.mw_lone.proofs.SoundStores.{length-put}
use Rattle.mw_file.specs.declared.place_states.PlaceState.{PlaceState}
use Rattle.mw_file.specs.declared.place_states.Stage.{Stage}
use Rattle.mw_file.specs.declared.place_states.Stage.TheVariants.{Free as FreeStage, Prepared as PreparedStage, Sealed as SealedStage}
use Rattle.mw_file.specs.declared.tenant_file.TenantFile.{TenantFile}
use Rattle.mw_file.specs.declared.tenant_file.FileFault.{FileFault}
use Rattle.mw_file.specs.declared.tenant_file.FileFault.TheVariants.{Disk, Failed}
use Rattle.mw_file.specs.File.{disk_of, states_of, has_failed, WentWell, MetFault, Ends as FileEnds}
use Rattle.mw_file.specs.RecoveryInvariant.{RecoversTo, CrashSafe, ContentsStay, ChangeIsSealed}
use Rattle.mw_file.specs.PlaceStates.{is_free_stage, roll_calls, stage_of, writes_of_place, IsStaged}
use Rattle.mw_file.specs.declared.new_changes.NewChange.{NewChange}
use Rattle.mw_file.specs.NewChanges.{ArePrepared, AreSettledWith, IsNoPlaceOf, IsSealedWith}
use Rattle.mw_world.specs.Files.Calls.{fails_on, place_for, device_calls, is_made, doubt_of}
use Rattle.mw_world.specs.Files.Crashes.{at_stake}
use Rattle.mw_world.specs.Files.State.{File, Empty, Prepared, Sealed, entries_at, broken, prepared, sealed, emptied}
use Rattle.mw_world.specs.Maps.{upd}
use Rattle.mw_world.proofs.MapLaws.{set_number}
use Rattle.mw_book.specs.declared.answers.Filed.{Filed}
use Rattle.mw_book.specs.declared.answers.Filed.TheVariants.{Made, Broken, Untouched}
use Rattle.mw_book.specs.declared.book.Book.{Book}
use Rattle.mw_book.specs.declared.place_table.PlaceTable.{PlaceTable}
use Rattle.mw_book.specs.declared.waiting.Waiting.{Waiting}
use Rattle.mw_book.specs.FilePlaces.{IsPermutation, flag_of}
use Rattle.mw_book.specs.Answers.{is_refused, NoFault, OneFault}
use Rattle.mw_book.specs.ChosenPlaces.{AreAhead, AreChosen, free_within}
use Rattle.mw_book.specs.Crashes.{LeavesEither}
use Rattle.mw_book.specs.Ends.{FailedAt, calls_on, prepare_calls, settle_calls}
use Rattle.mw_book.specs.CallOutcome.{IsFiled}
use Rattle.mw_book.specs.PreparedAhead.{are_writes_of, has_written, is_for, is_written}
use Rattle.mw_book.specs.RecordsAhead.{any_below, count_below, first_ready, free_places, is_free, makes_calls, place_lost, places_left, written_by}
use Rattle.mw_book.specs.SettledAhead.{ahead_after, ahead_by_settle}
use Rattle.mw_book.specs.Permits.{HasPlace, is_vacant, vacant_place}
use Rattle.mw_book.specs.OpenFile.{states_in, disk_in, OnDisk}
use Rattle.mw_book.specs.Representation.{ArePlaced, Represents, HasParts, is_prepared_ahead, is_settled, place_at, place_in_file, stage_in_file, writes_in_file}
use Rattle.mw_book.proofs.ChosenPlaces.{front_of, last_of}
use Rattle.mw_book.proofs.FoundPlaces.{found_at, free_of, vacant_plain, vacant_so}
use Rattle.mw_book.proofs.PlacedAhead.{IsFresh, fresh_or_same, placed_beside, placed_settled}
use Rattle.mw_book.proofs.PlacesAhead.{placed_let_go}
use Rattle.mw_book.proofs.RepresentedFiles.{shows_parts, on_disk, on_same, leaves_either, untouched, failed_as, placed_in, keeps_in, certain, same_place, place_within, plain_at, writes_called}
use Rattle.mw_book.proofs.RecordsAhead.{any_same, broken_records, chosen_by, free_from_first, free_past, has_any, has_parts, lost_needed, made_records, none_by, none_needed, not_written, same_records}
use Rattle.mw_book.proofs.StagedPlaces.{placed_on, placed_as, staged_by}

-- the same fact, if the call is known by another name
pub filed_as : {D : Type 0} (facts : D → Facts) (call other : Call) (slot : ℕ) (entries : List Entry) (waiting : List Waiting) (old new : Book D) (result : Filed) → call ≡ other → IsFiled facts other slot entries waiting old new result
    → IsFiled facts call slot entries waiting old new result
filed_as facts call other slot entries waiting old new result same is = subst (λ k. IsFiled facts k slot entries waiting old new result) (sym same) is

-- a call that is not a cancel is refused exactly if the book has failed
refused_so : (call : Call) (failed : Bool) → (call ≡ CancelCall → ⊥) → is_refused call failed ≡ failed
refused_so PrepareCall failed other = refl
refused_so SealCall failed other = refl
refused_so SettleCall failed other = refl
refused_so CancelCall failed other = absurd (other refl)

-- a call that was not made settles no change ahead
same_ahead : {D : Type 0} (call : Call) (answer : Filed) (slot : ℕ) (old : Book D) → (answer ≡ Made → ⊥) → (place : ℕ) → is_settled old.table place ≡ ahead_after call slot old answer place
same_ahead PrepareCall answer slot old other place = refl
same_ahead SealCall answer slot old other place = refl
same_ahead SettleCall Made slot old other place = absurd (other refl)
same_ahead SettleCall Broken slot old other place = refl
same_ahead SettleCall Untouched slot old other place = refl
same_ahead CancelCall answer slot old other place = refl

-- a call on a file that had failed before
pub refused : {D : Type 0} (facts : D → Facts) (call : Call) (slot : ℕ) (entries : List Entry) (waiting : List Waiting) (old : Book D) → old.has_failed ≡ true → ((file : File) → fails_on call file ≡ file.has_failed)
    → (call ≡ CancelCall → ⊥) → IsFiled facts call slot entries waiting old old Untouched
refused facts call slot entries waiting old failed fails other = record {
  records = λ s es. refl;
  counts = tt;
  ahead = same_ahead call Untouched slot old (λ is. absurd (let e : Untouched ≡ Made = is in cc));
  ends = λ file shows. record { refused = fails file ∙ shows.same_failed ∙ failed; same = refl };
  answers = record { refused = refused_so call old.has_failed other ∙ failed; same = refl };
  moments = λ file shows. untouched facts old.held file.contents file.doubt shows.stands;
  later = on_same facts Later old.held later_refl;
  quiet = λ is. absurd (other is);
  words = refl;
  places = refl;
}

-- a call that answered an error on a file that hadn't failed met a fault
pub met_fault : {D T : Type 0} (facts : D → Facts) (calls : ℕ) (held now : TenantFile D) (r : Result T FileFault) → is_err r ≡ true → has_failed held ≡ false → FileEnds facts calls held now r
    → MetFault facts calls held now
met_fault facts calls held now (Ok x) bad sound ends = absurd (let e : false ≡ true = bad in cc)
met_fault facts calls held now (Err Disk) bad sound ends = ends
met_fault facts calls held now (Err Failed) bad sound ends = absurd (let e : true ≡ false = sym ends.before ∙ sound in cc)

-- what a crash after a seal leaves, by the answer of the seal
sealed_well : {D : Type 0} (facts : D → Facts) (held now : TenantFile D) (w : Pairs) (r : Result (Unit {0}) FileFault) → is_err r ≡ false → ChangeIsSealed facts held now w r
    → IsTrue (facts (disk_of held)).honest → (contents : List ℕ) (doubt : Pairs) → RecoversTo facts held contents doubt → CrashSafe facts held now contents w (put_pairs w contents) []
sealed_well facts held now w (Ok x) well safe honest contents doubt keeps = safe honest contents doubt keeps
sealed_well facts held now w (Err fault) well safe honest contents doubt keeps = absurd (let e : true ≡ false = well in cc)

sealed_badly : {D : Type 0} (facts : D → Facts) (calls : ℕ) (held now : TenantFile D) (w : Pairs) (r : Result (Unit {0}) FileFault) → is_err r ≡ true → has_failed held ≡ false → FileEnds facts calls held now r
    → ChangeIsSealed facts held now w r → IsTrue (facts (disk_of held)).honest → (contents : List ℕ) (doubt : Pairs) → RecoversTo facts held contents doubt → CrashSafe facts held now contents w contents w
sealed_badly facts calls held now w (Ok x) bad sound ends safe honest contents doubt keeps = absurd (let e : false ≡ true = bad in cc)
sealed_badly facts calls held now w (Err Disk) bad sound ends safe honest contents doubt keeps = safe honest contents doubt keeps
sealed_badly facts calls held now w (Err Failed) bad sound ends safe honest contents doubt keeps = absurd (let e : true ≡ false = sym ends.before ∙ sound in cc)

-- the world lists at least one device call for each call that makes one
listed_some : (call : Call) (entries : List Entry) → (call ≡ CancelCall → ⊥) → 1 ≤ device_calls call entries
listed_some PrepareCall entries other = omega arith
listed_some SealCall entries other = omega arith
listed_some SettleCall entries other = omega arith
listed_some CancelCall entries other = absurd (other refl)

-- the number of the call that failed is one of the run's
failed_within : (calls well : ℕ) → well < calls → is_made calls (well + 1) ≡ true
failed_within calls well fewer = and_from (nat_le 1 (well + 1)) (nat_le (well + 1) calls) (le-leb 1 (well + 1) (omega arith)) (le-leb (well + 1) calls (omega (arith, fewer)))

-- The number in the world of a device call that failed after so many others, some of which wrote records ahead: its own, if the rest of
-- the run is as long as the world lists it.
record Numbered (ahead calls listed well : ℕ) : Type 0 where
  number : ℕ
  within : is_made listed number ≡ true
  own : calls ≡ listed → well - ahead + 1 ≡ number

numbered : (ahead calls listed well : ℕ) → well < ahead + calls → 1 ≤ listed → Numbered ahead calls listed well
numbered ahead calls listed well fewer some = elim (cases_eq calls listed) [
  | inl same ↦ record { number = well - ahead + 1; within = failed_within listed (well - ahead) (omega (arith, same, fewer, some)); own = λ is. refl }
  | inr apart ↦ record { number = 1; within = failed_within listed 0 (omega (arith, some)); own = λ is. absurd (apart is) }
]

-- the place of a slot's change is not free
pub busy_in : {D : Type 0} (old : Book D) (held : TenantFile D) (slot : ℕ) (stage : Stage) → old.held ≡ Some held → stage_in_file (states_in old.held) old.table (place_at old slot) ≡ stage → is_free_stage stage ≡ false
    → is_free_stage (stage_in_file (states_of held) old.table (place_at old slot)) ≡ false
busy_in old held slot stage is_old at busy = ap (λ h. is_free_stage (stage_in_file (states_in h) old.table (place_at old slot))) (sym is_old) ∙ ap is_free_stage at ∙ busy

-- one change more
pub one_longer : (changes all : List NewChange) (own : NewChange) → all ≡ changes ++ own ∷ [] → length all + 1 ≡ length changes + 2
one_longer changes all own is_all =
    let long : length all ≡ length (changes ++ own ∷ []) = ap length is_all in
    let more : length (changes ++ own ∷ []) ≡ length changes + 1 = length-append changes (own ∷ []) in
    omega (arith, long, more)

-- the file's place of a change that was prepared ahead before is none that was chosen
ahead_nowhere : (words : ℕ) (states : List PlaceState) (table : PlaceTable) (places low : ℕ) (next : PlaceTable) (changes : List NewChange) (top : ℕ) → AreChosen words states table places low next changes top
    → IsPermutation table.file_place places → (k : ℕ) → k < places → is_prepared_ahead table k ≡ true → IsNoPlaceOf changes (place_in_file table k)
ahead_nowhere words states table places low next changes top are permuted k lt is_on = are.others (place_in_file table k) (λ j less same.
    let here : j ≡ k = permuted.apart j k less lt same in
    ap (is_prepared_ahead next) here ∙ are.kept k is_on ∙ sym (ap (is_prepared_ahead table) here ∙ is_on))

-- The old book holds one open file, and the new book holds what a call made of it.
module _ {D : Type 0} (facts : D → Facts) (old new : Book D) (held now : TenantFile D) (is_old : old.held ≡ Some held) (later : Later (facts (disk_of held)) (facts (disk_of now))) where
  -- the disk is still honest, so a fact of an honest disk may be used
  still : (contents : List ℕ) (doubt : Pairs) → (IsTrue (facts (disk_of held)).honest → RecoversTo facts now contents doubt) → IsTrue (facts (disk_of now)).honest → RecoversTo facts now contents doubt
  still contents doubt keeps honest = keeps (was_honest (facts (disk_of held)) (facts (disk_of now)) later honest)

  -- a call that may take each free place writes the records that were chosen
  as_many : (call : Call) (slot : ℕ) (entries : List Entry) (waiting : List Waiting) (next : PlaceTable) (changes : List NewChange)
      → AreAhead old.table next old.places changes (first_ready old.words (states_of held) old.table old.places slot (free_within (states_of held) old.table 0 old.places) waiting)
      → free_places old ≡ places_left old call → makes_calls old call slot entries ≡ true → length changes ≡ length (written_by old call slot entries waiting)
  as_many call slot entries waiting next changes ahead left calls =
      ahead.many
      ∙ ap length (chosen_by call slot entries waiting old held (free_within (states_of held) old.table 0 old.places) is_old
      (free_from_first (states_of held) old.table old.places ∙ ap (λ h. count_below (is_free (states_in h) old.table) old.places) (sym is_old) ∙ left) calls)

  -- A place that is vacant, and has no change that is prepared ahead, is free. Those past it are left.
  room_left : (place : ℕ) → place ≡ vacant_place (states_of held) old.table old.places → is_prepared_ahead old.table place ≡ false → HasPlace (states_of held) old.table old.places
      → (1 ≤ free_places old) × (free_within (states_of held) old.table (place + 1) old.places ≡ free_places old - 1)
  room_left place is off room =
      let used : place < old.places = (let lt = room in omega (arith, is, lt)) in
      let free : is_free (states_of held) old.table place ≡ true =
      ap (λ b. b && not (is_prepared_ahead old.table place)) (ap (is_vacant (states_of held) old.table) is ∙ vacant_so (states_of held) old.table old.places room) ∙ ap not off in
      let past = free_past (states_of held) old.table old.places place is used free in
      let all_free : free_places old ≡ count_below (is_free (states_of held) old.table) old.places = ap (λ h. count_below (is_free (states_in h) old.table) old.places) is_old in
      (omega (arith, past, all_free), omega (arith, past, all_free))

  -- a prepare leaves the vacant place to its own record, and writes those that were chosen for the others
  as_many_beside : (slot place : ℕ) (entries : List Entry) (waiting : List Waiting) (next : PlaceTable) (changes : List NewChange) → place ≡ vacant_place (states_of held) old.table old.places
      → is_prepared_ahead old.table place ≡ false → HasPlace (states_of held) old.table old.places → has_written old slot entries ≡ false
      → AreAhead old.table next old.places changes (first_ready old.words (states_of held) old.table old.places slot (free_within (states_of held) old.table (place + 1) old.places) waiting)
      → length changes ≡ length (written_by old PrepareCall slot entries waiting)
  as_many_beside slot place entries waiting next changes is off room none ahead =
      let left = (room_left place is off room).1 in
      ahead.many ∙ ap length (chosen_by PrepareCall slot entries waiting old held (free_within (states_of held) old.table (place + 1) old.places) is_old left (ap not none))

  -- a device call failed
  module _ (parts : HasParts new (Some now) old.words old.places old.place_of old.table true) (sound : old.has_failed ≡ false) (calls : ℕ) (met : MetFault facts calls held now)
      (call : Call) (slot : ℕ) (entries : List Entry) (waiting : List Waiting) (none_lost : place_lost old call slot entries ≡ old.places) (other : call ≡ CancelCall → ⊥) (fails : (file : File) → fails_on call file ≡ file.has_failed) where
    pub broke : ((entries_there : List Entry) → calls ≡ length (written_by old call slot entries waiting) + calls_on old call slot entries entries_there)
        → ((file : File) → Represents facts old file → IsTrue (facts (disk_of held)).honest → RecoversTo facts now file.contents (pairs_of (doubt_of call (entries_at file (place_for call file old.places slot)))))
        → ((file : File) → Represents facts old file → LeavesEither file.contents (at_stake call file (place_for call file old.places slot)) (facts (disk_of held)) (facts (disk_of now)))
        → IsFiled facts call slot entries waiting old new Broken
    broke many keeps leaves = record {
      counts = on_disk facts (Bad (length (written_by old call slot entries waiting) + calls_on old call slot entries entries)) old.held new.held held now is_old parts.is_held
          (subst (λ n. Bad n (facts (disk_of held)) (facts (disk_of now))) (many entries) met.made);
      records = broken_records call slot entries waiting old new none_lost (λ s es.
          has_parts new (Some now) old.words old.places old.place_of old.table true parts s es ∙ ap (λ states. any_below (is_written states old.table s es) old.places) met.states
          ∙ ap (λ h. any_below (is_written (states_in h) old.table s es) old.places) (sym is_old) ∙ sym (has_any old s es));
      ends = λ file shows.
          let place : ℕ = place_for call file old.places slot in
          let doubt : List Entry = doubt_of call (entries_at file place) in
          let ahead : ℕ = length (written_by old call slot entries waiting) in
          let own : ℕ = calls_on old call slot entries (entries_at file place) in
          let listed : ℕ = device_calls call (entries_at file place) in
          let all : calls ≡ ahead + own = many (entries_at file place) in
          let so : Numbered ahead own listed met.made.well =
          numbered ahead own listed met.made.well (let fewer = met.made.fewer in omega (arith, fewer, all)) (listed_some call (entries_at file place) other) in
          record {
            began = fails file ∙ shows.same_failed ∙ sound;
            number = so.number;
            within = so.within;
            failed = on_disk facts (Bad (ahead + own)) old.held new.held held now is_old parts.is_held (subst (λ n. Bad n (facts (disk_of held)) (facts (disk_of now))) all met.made);
            made = λ same.
                let both = subst (λ n. (failed : Bad n (facts (disk_of held)) (facts (disk_of now))) × (failed.well - ahead + 1 ≡ so.number)) (all ∙ ap (λ n. ahead + n) same) (met.made, so.own same) in
                on_disk facts (FailedAt ahead listed so.number) old.held new.held held now is_old parts.is_held (record { failed = both.0; at = both.1 });
            shows = shows_parts facts new (Some now) old.words old.places old.place_of old.table true (broken file doubt) parts (record {
              same_words = shows.same_words;
              same_places = placed_as (states_of held) (states_of now) old.table old.places file.places met.states (placed_in facts old held is_old file shows);
              same_place_of = shows.same_place_of;
              same_failed = refl;
              stands = still file.contents (pairs_of doubt) (keeps file shows);
            });
          };
      answers = record { other = other; sound = sound; failed = parts.is_failed; faults = on_disk facts OneFault old.held new.held held now is_old parts.is_held met.made.faults };
      moments = λ file shows.
          on_disk facts (LeavesEither file.contents (at_stake call file (place_for call file old.places slot))) old.held new.held held now is_old parts.is_held (leaves file shows);
      later = on_disk facts Later old.held new.held held now is_old parts.is_held later;
      quiet = λ is. absurd (other is);
      words = parts.is_words;
      places = parts.is_places;
      ahead = λ place. ap (λ table. is_settled table place) parts.is_table ∙ same_ahead call Broken slot old (λ is. absurd (let e : Broken ≡ Made = is in cc)) place;
    }

  -- a call that keeps the words and the change in doubt
  module _ (safe : ContentsStay facts held now) where
    stays : (file : File) → Represents facts old file → IsTrue (facts (disk_of held)).honest → CrashSafe facts held now file.contents (pairs_of file.doubt) file.contents (pairs_of file.doubt)
    stays file shows honest = safe honest file.contents (pairs_of file.doubt) (keeps_in facts old held is_old file shows honest)

    stays_safe : (file : File) → Represents facts old file → LeavesEither file.contents file.doubt (facts (disk_of held)) (facts (disk_of now))
    stays_safe file shows honest = leaves_either (facts (disk_of held)) (facts (disk_of now)) (length (states_of held)) file.contents file.doubt (stays file shows honest).moments

    stays_certain : old.has_failed ≡ false → (file : File) → Represents facts old file → IsTrue (facts (disk_of held)).honest → RecoversTo facts now file.contents []
    stays_certain sound file shows honest =
        subst (λ doubt. RecoversTo facts now file.contents doubt) (certain facts old held is_old file shows sound honest) (stays file shows honest).after

    -- a prepare in which the device failed
    pub prepare_broken : (slot place : ℕ) (entries : List Entry) (waiting : List Waiting) (next : PlaceTable) (changes : List NewChange) → place ≡ vacant_place (states_of held) old.table old.places
        → is_prepared_ahead old.table place ≡ false → HasPlace (states_of held) old.table old.places → has_written old slot entries ≡ false
        → AreAhead old.table next old.places changes (first_ready old.words (states_of held) old.table old.places slot (free_within (states_of held) old.table (place + 1) old.places) waiting)
        → HasParts new (Some now) old.words old.places old.place_of old.table true → old.has_failed ≡ false → MetFault facts (length changes + 2) held now → IsFiled facts PrepareCall slot entries waiting old new Broken
    prepare_broken slot place entries waiting next changes is off room none ahead parts sound met =
        let many = as_many_beside slot place entries waiting next changes is off room none ahead in
        broke parts sound (length changes + 2) met PrepareCall slot entries waiting (lost_needed old slot entries none ∙ none_needed old (room_left place is off room).0) (λ is. let e : PrepareCall ≡ CancelCall = is in cc) (λ file. refl)
        (λ there. ap (λ n. n + 2) many ∙ sym (ap (λ b. length (written_by old PrepareCall slot entries waiting) + prepare_calls b there) none)) (stays_certain sound) stays_safe

    pub prepare_made : (slot place : ℕ) (entries : List Entry) (waiting : List Waiting) (next : PlaceTable) (changes all : List NewChange) (top : ℕ) (own : NewChange) → all ≡ changes ++ own ∷ [] → place ≡ vacant_place (states_of held) old.table old.places
        → is_prepared_ahead old.table place ≡ false → has_written old slot entries ≡ false → AreChosen old.words (states_of held) old.table old.places (place + 1) next changes top
        → AreAhead old.table next old.places changes (first_ready old.words (states_of held) old.table old.places slot (free_within (states_of held) old.table (place + 1) old.places) waiting)
        → own.place.0 ≡ place_in_file old.table place → own.entries.items ≡ entries
        → HasParts new (Some now) old.words old.places (slice_set old.place_of slot place) next old.has_failed
        → old.has_failed ≡ false → slot < MAX_POOL → MAX_POOL ≤ length old.place_of → WentWell facts (length all + 1) held now
        → ArePrepared (states_of held) (states_of now) all → HasPlace (states_of held) old.table old.places
        → IsFiled facts PrepareCall slot entries waiting old new Made
    prepare_made slot place entries waiting next changes all top own is_all is off none are ahead number_is entries_are parts sound within long went_all staged_all room = record {
      records =
          let used : place < old.places = (let lt = room in omega (arith, is, lt)) in
          made_records PrepareCall slot entries waiting old new held now is_old next changes (free_within (states_of held) old.table (place + 1) old.places) ahead (room_left place is off room).1 (ap not none)
          (lost_needed old slot entries none ∙ none_needed old (room_left place is off room).0) are.same_places (front_of (λ d. writes_of_place (states_of now) d.place.0 ≡ pairs_of d.entries.items) changes own staged.writes_here)
          (λ k lt is_on. staged.writes_there (place_in_file old.table k) (All-push (λ d. d.place.0 ≢ place_in_file old.table k) changes own
          (ahead_nowhere old.words (states_of held) old.table old.places (place + 1) next changes top are old.permuted k lt is_on)
          (λ same. let here = old.permuted.apart place k used lt (sym number_is ∙ same) in let e : true ≡ false = sym is_on ∙ sym (ap (is_prepared_ahead old.table) here) ∙ off in cc)))
          (has_parts new (Some now) old.words old.places (slice_set old.place_of slot place) next old.has_failed parts);
      counts = good entries;
      ends = λ file shows.
          let placed = placed_in facts old held is_old file shows in
          let same = is ∙ found_at (states_of held) old.table old.places file placed in
          let used : place < old.places = (let lt = room in omega (arith, is, lt)) in
          record {
            began = shows.same_failed ∙ sound;
            made = good (entries_at file (place_for PrepareCall file old.places slot));
            shows = subst (λ p. Represents facts new (prepared file slot p entries)) same
                (shows_parts facts new (Some now) old.words old.places (slice_set old.place_of slot place) next old.has_failed (prepared file slot place entries) parts (record {
                  same_words = shows.same_words;
                  same_places = placed_beside old.words (states_of held) (states_of now) old.table next old.places (place + 1) changes top are old.permuted file.places placed place used PreparedStage (pairs_of entries)
                      (Prepared entries) (ap (is_settled old.table) is ∙ vacant_plain (states_of held) old.table old.places room) off refl (λ busy. refl)
                      (λ k lt fresh here. let high = (are.chosen k lt fresh.was fresh.now).high in omega (arith, high, here))
                      (λ k lt fresh. (are.chosen k lt fresh.was fresh.now).here (states_of now) (front_of (λ d. stage_of (states_of now) d.place.0 ≡ PreparedStage) changes own staged.stage_here)) (
                        ap (stage_of (states_of now)) (sym number_is) ∙ last_of (λ d. stage_of (states_of now) d.place.0 ≡ PreparedStage) changes own staged.stage_here,
                        ap (writes_of_place (states_of now)) (sym number_is) ∙ last_of (λ d. writes_of_place (states_of now) d.place.0 ≡ pairs_of d.entries.items) changes own staged.writes_here ∙ ap pairs_of entries_are,
                      )
                      (λ n other kept.
                      let nowhere : IsNoPlaceOf (changes ++ own ∷ []) n = All-push (λ d. d.place.0 ≢ n) changes own (are.others n kept) (λ is_it. other (sym is_it ∙ number_is)) in
                      (staged.stage_there n nowhere, staged.writes_there n nowhere));
                  same_place_of = set_number file.place_of old.place_of slot place MAX_POOL long within shows.same_place_of;
                  same_failed = shows.same_failed;
                  stands = still file.contents (pairs_of file.doubt) (λ honest. (stays file shows honest).after);
                }));
          };
      answers = record { began = sound; same_failed = parts.is_failed; faults = on_disk facts NoFault old.held new.held held now is_old parts.is_held went.made.faults };
      moments = λ file shows. on_disk facts (LeavesEither file.contents file.doubt) old.held new.held held now is_old parts.is_held (stays_safe file shows);
      later = on_disk facts Later old.held new.held held now is_old parts.is_held later;
      quiet = λ is. absurd (let e : PrepareCall ≡ CancelCall = is in cc);
      words = parts.is_words;
      places = parts.is_places;
      ahead = λ k. ap (λ table. is_settled table k) parts.is_table ∙ ap (λ flags. flag_of flags k) are.same_settled;
    } where
      went : WentWell facts (length changes + 2) held now
      went = subst (λ n. WentWell facts n held now) (one_longer changes all own is_all) went_all

      -- it made just its device calls
      good : (there : List Entry) → OnDisk facts (Good (length (written_by old PrepareCall slot entries waiting) + prepare_calls (has_written old slot entries) there)) (disk_in old.held) (disk_in new.held)
      good there =
          on_disk facts (Good (length (written_by old PrepareCall slot entries waiting) + prepare_calls (has_written old slot entries) there)) old.held new.held held now is_old parts.is_held
          (subst (λ n. Good n (facts (disk_of held)) (facts (disk_of now)))
          (ap (λ n. n + 2) (as_many_beside slot place entries waiting next changes is off room none ahead)
          ∙ ap (λ b. length (written_by old PrepareCall slot entries waiting) + prepare_calls b there) (sym none)) went.made)

      staged : ArePrepared (states_of held) (states_of now) (changes ++ own ∷ [])
      staged = subst (λ cs. ArePrepared (states_of held) (states_of now) cs) is_all staged_all

    -- A settle or a cancel, after which the place is empty, as the file's places and the book's flags show.
    module _ (slot : ℕ) (within : slot < MAX_POOL) (busy : is_free_stage (stage_in_file (states_of held) old.table (place_at old slot)) ≡ false) (table : PlaceTable)
        (parts : HasParts new (Some now) old.words old.places old.place_of table old.has_failed)
        (placed : (file : File) → Represents facts old file → ArePlaced (states_of now) table old.places (upd file.places (place_at old slot) Empty)) where
      emptied_shown : (file : File) → Represents facts old file → Represents facts new (emptied file (file.place_of slot))
      emptied_shown file shows =
          let place : ℕ = place_at old slot in
          subst (λ p. Represents facts new (emptied file p)) (sym (same_place facts old held is_old file shows slot within busy))
          (shows_parts facts new (Some now) old.words old.places old.place_of table old.has_failed (emptied file place) parts (record {
            same_words = shows.same_words;
            same_places = placed file shows;
            same_place_of = shows.same_place_of;
            same_failed = shows.same_failed;
            stands = still file.contents (pairs_of file.doubt) (λ honest. (stays file shows honest).after);
          }))

    pub cancel_made : (slot : ℕ) → slot < MAX_POOL → is_free_stage (stage_in_file (states_of held) old.table (place_at old slot)) ≡ false → is_prepared_ahead old.table (place_at old slot) ≡ false → (w : Pairs)
        → IsStaged (states_of held) (states_of now) (place_in_file old.table (place_at old slot)) FreeStage w → HasParts new (Some now) old.words old.places old.place_of old.table old.has_failed
        → (entries : List Entry) (waiting : List Waiting) → disk_of now ≡ disk_of held → IsFiled facts CancelCall slot entries waiting old new Made
    cancel_made slot within busy own w staged parts entries waiting same = record {
      counts = on_disk facts (Good 0) old.held new.held held now is_old parts.is_held (subst (λ d. Good 0 (facts (disk_of held)) (facts d)) (sym same) (good_none (facts (disk_of held))));
      records = same_records CancelCall slot entries waiting old new refl refl (λ s es.
          has_parts new (Some now) old.words old.places old.place_of old.table old.has_failed parts s es ∙ any_same (is_written (states_of now) old.table s es) (is_written (states_of held) old.table s es) old.places (still_written s es)
          ∙ ap (λ h. any_below (is_written (states_in h) old.table s es) old.places) (sym is_old) ∙ sym (has_any old s es));
      ends = λ file shows. record {
        began = refl;
        made = on_disk facts (Good 0) old.held new.held held now is_old parts.is_held
            (subst (λ d. Good 0 (facts (disk_of held)) (facts d)) (sym same) (good_none (facts (disk_of held))));
        shows = emptied_shown slot within busy old.table parts placed file shows;
      };
      answers = record { began = refl; same_failed = parts.is_failed; faults = on_disk facts NoFault old.held new.held held now is_old parts.is_held (ap (λ d. (facts d).faults) same) };
      moments = λ file shows. on_disk facts (LeavesEither file.contents file.doubt) old.held new.held held now is_old parts.is_held (stays_safe file shows);
      later = on_disk facts Later old.held new.held held now is_old parts.is_held later;
      quiet = λ is. ap disk_in parts.is_held ∙ ap Some same ∙ sym (ap disk_in is_old);
      words = parts.is_words;
      places = parts.is_places;
      ahead = λ place. ap (λ table. is_settled table place) parts.is_table;
    } where
      -- the file's place of the change that is cancelled is no place of another one
      elsewhere : (k : ℕ) → k < old.places → is_prepared_ahead old.table k ≡ true → place_in_file old.table k ≢ place_in_file old.table (place_at old slot)
      elsewhere k lt is_on same = elim (cases_lt (place_at old slot) old.places) [
        | inl less ↦ let here = old.permuted.apart k (place_at old slot) lt less same in let e : true ≡ false = sym is_on ∙ ap (is_prepared_ahead old.table) here ∙ own in cc
        | inr past ↦ let at = old.permuted.past (place_at old slot) past in let low = old.permuted.within k lt in let e : ⊥ = omega (arith, same, at, low, past) in e
      ]

      still_written : (s : ℕ) (es : List Entry) (k : ℕ) → k < old.places → is_written (states_of now) old.table s es k ≡ is_written (states_of held) old.table s es k
      still_written s es k lt = elim (cases_Bool (is_prepared_ahead old.table k)) [
        | inl is_on ↦ ap (λ ws. is_for (get_or old.table.ahead_for k None) s && are_writes_of ws es) (staged.writes_there (place_in_file old.table k) (elsewhere k lt is_on))
        | inr is_off ↦ not_written (states_of now) old.table s es k is_off ∙ sym (not_written (states_of held) old.table s es k is_off)
      ]

      placed : (file : File) → Represents facts old file → ArePlaced (states_of now) old.table old.places (upd file.places (place_at old slot) Empty)
      placed file shows =
          placed_on (states_of held) (stage_of (states_of now)) (writes_of_place (states_of now)) old.table old.places (place_at old slot) file.places FreeStage w (placed_in facts old held is_old file shows) old.permuted
          (staged_by (states_of held) (states_of now) (place_in_file old.table (place_at old slot)) FreeStage w staged) (place_within facts old held is_old file shows slot within busy) Empty (plain_at facts old held is_old file shows slot within busy) own refl (λ none. absurd (let e : true ≡ false = none in cc))

    -- A settle that makes device calls.
    module _ (slot : ℕ) (within : slot < MAX_POOL) (is_sealed_there : stage_in_file (states_of held) old.table (place_at old slot) ≡ SealedStage) (plain : is_settled old.table (place_at old slot) ≡ false)
        (sound : old.has_failed ≡ false) where
      many_made : roll_calls (states_of held) ≡ settle_calls (is_settled old.table (place_at old slot)) (states_in old.held)
      many_made = ap (λ h. roll_calls (states_in h)) (sym is_old) ∙ ap (λ flag. settle_calls flag (states_in old.held)) (sym plain)

      pub settle_made : (entries : List Entry) (waiting : List Waiting) (flags : List Bool) (next : PlaceTable) (changes : List NewChange) (top : ℕ) → AreChosen old.words (states_of held) old.table old.places 0 next changes top
          → AreAhead old.table next old.places changes (first_ready old.words (states_of held) old.table old.places slot (free_within (states_of held) old.table 0 old.places) waiting) → HasParts new (Some now) old.words old.places old.place_of (record next { settled = flags }) old.has_failed
          → ((place : ℕ) → flag_of flags place ≡ ahead_by_settle (states_of held) old.table (place_at old slot) place) → AreSettledWith (states_of held) (states_of now) changes
          → WentWell facts (length changes + roll_calls (states_of held)) held now → IsFiled facts SettleCall slot entries waiting old new Made
      settle_made entries waiting flags next changes top chosen ahead parts are settled went = record {
        records =
            made_records SettleCall slot entries waiting old new held now is_old next changes (free_within (states_of held) old.table 0 old.places) ahead
            (free_from_first (states_of held) old.table old.places ∙ ap (λ h. count_below (is_free (states_in h) old.table) old.places) (sym is_old)) (ap not plain) refl chosen.same_places settled.writes_here
            (λ k lt is_on. settled.writes_there (place_in_file old.table k) (ahead_nowhere old.words (states_of held) old.table old.places 0 next changes top chosen old.permuted k lt is_on))
            (has_parts new (Some now) old.words old.places old.place_of (record next { settled = flags }) old.has_failed parts);
        counts = good;
        ends = λ file shows. record {
          began = shows.same_failed ∙ sound;
          made = good;
          shows = emptied_shown slot within (ap is_free_stage is_sealed_there) (record next { settled = flags }) parts placed file shows;
        };
        answers = record { began = sound; same_failed = parts.is_failed; faults = on_disk facts NoFault old.held new.held held now is_old parts.is_held went.made.faults };
        moments = λ file shows. on_disk facts (LeavesEither file.contents file.doubt) old.held new.held held now is_old parts.is_held (stays_safe file shows);
        later = on_disk facts Later old.held new.held held now is_old parts.is_held later;
        quiet = λ is. absurd (let e : SettleCall ≡ CancelCall = is in cc);
        words = parts.is_words;
        places = parts.is_places;
        ahead = λ place. ap (λ table. is_settled table place) parts.is_table ∙ are place ∙ ap (λ h. ahead_by_settle (states_in h) old.table (place_at old slot) place) (sym is_old);
      } where
        -- it made just its device calls
        good : OnDisk facts (Good (length (written_by old SettleCall slot entries waiting) + settle_calls (is_settled old.table (place_at old slot)) (states_in old.held))) (disk_in old.held) (disk_in new.held)
        good =
            on_disk facts (Good (length (written_by old SettleCall slot entries waiting) + settle_calls (is_settled old.table (place_at old slot)) (states_in old.held))) old.held new.held held now is_old parts.is_held
            (subst (λ n. Good n (facts (disk_of held)) (facts (disk_of now)))
            (ap (λ n. n + roll_calls (states_of held)) (as_many SettleCall slot entries waiting next changes ahead refl (ap not plain)) ∙ ap (λ n. length (written_by old SettleCall slot entries waiting) + n) many_made) went.made)

        placed : (file : File) → Represents facts old file → ArePlaced (states_of now) (record next { settled = flags }) old.places (upd file.places (place_at old slot) Empty)
        placed file shows =
            placed_settled old.words (states_of held) (states_of now) old.table next old.places 0 changes top chosen old.permuted file.places (placed_in facts old held is_old file shows)
            (place_at old slot) flags is_sealed_there plain are settled

      pub settle_broken : (entries : List Entry) (waiting : List Waiting) (next : PlaceTable) (changes : List NewChange)
          → AreAhead old.table next old.places changes (first_ready old.words (states_of held) old.table old.places slot (free_within (states_of held) old.table 0 old.places) waiting)
          → HasParts new (Some now) old.words old.places old.place_of old.table true → MetFault facts (length changes + roll_calls (states_of held)) held now → IsFiled facts SettleCall slot entries waiting old new Broken
      settle_broken entries waiting next changes ahead parts met =
          broke parts sound (length changes + roll_calls (states_of held)) met SettleCall slot entries waiting refl (λ is. let e : SettleCall ≡ CancelCall = is in cc) (λ file. refl)
          (λ there. ap (λ n. n + roll_calls (states_of held)) (as_many SettleCall slot entries waiting next changes ahead refl (ap not plain)) ∙ ap (λ n. length (written_by old SettleCall slot entries waiting) + n) many_made)
          (stays_certain sound) stays_safe

  -- A seal, by its answer.
  module _ (slot : ℕ) (within : slot < MAX_POOL) (busy : is_free_stage (stage_in_file (states_of held) old.table (place_at old slot)) ≡ false) (own : is_prepared_ahead old.table (place_at old slot) ≡ false) (sound : old.has_failed ≡ false)
      (r : Result (Unit {0}) FileFault) (safe : ChangeIsSealed facts held now (writes_in_file (states_of held) old.table (place_at old slot)) r) where
    safe_as : (file : File) → Represents facts old file → ChangeIsSealed facts held now (pairs_of (entries_at file (file.place_of slot))) r
    safe_as file shows = subst (λ w. ChangeIsSealed facts held now w r) (writes_called facts old held is_old file shows slot within busy own) safe

    pub seal_broken : (entries : List Entry) (waiting : List Waiting) (next : PlaceTable) (changes : List NewChange)
        → AreAhead old.table next old.places changes (first_ready old.words (states_of held) old.table old.places slot (free_within (states_of held) old.table 0 old.places) waiting)
        → is_err r ≡ true → FileEnds facts (length changes + 2) held now r → HasParts new (Some now) old.words old.places old.place_of old.table true → IsFiled facts SealCall slot entries waiting old new Broken
    seal_broken entries waiting next changes ahead bad ends parts =
        broke parts sound (length changes + 2) (met_fault facts (length changes + 2) held now r bad (failed_as facts old held is_old ∙ sound) ends) SealCall slot entries waiting refl (λ is. let e : SealCall ≡ CancelCall = is in cc) (λ file. refl)
        (λ there. ap (λ n. n + 2) (as_many SealCall slot entries waiting next changes ahead refl refl)) (λ file shows honest. (left file shows honest).after)
        (λ file shows honest. leaves_either (facts (disk_of held)) (facts (disk_of now)) (length (states_of held)) file.contents (entries_at file (file.place_of slot)) (left file shows honest).moments) where
          left : (file : File) → Represents facts old file → IsTrue (facts (disk_of held)).honest
              → CrashSafe facts held now file.contents (pairs_of (entries_at file (file.place_of slot))) file.contents (pairs_of (entries_at file (file.place_of slot)))
          left file shows honest =
              sealed_badly facts (length changes + 2) held now (pairs_of (entries_at file (file.place_of slot))) r bad (failed_as facts old held is_old ∙ sound) ends (safe_as file shows) honest
              file.contents (pairs_of file.doubt) (keeps_in facts old held is_old file shows honest)

    pub seal_made : (entries : List Entry) (waiting : List Waiting) (next : PlaceTable) (changes : List NewChange) (top : ℕ) → AreChosen old.words (states_of held) old.table old.places 0 next changes top
        → AreAhead old.table next old.places changes (first_ready old.words (states_of held) old.table old.places slot (free_within (states_of held) old.table 0 old.places) waiting)
        → is_err r ≡ false → WentWell facts (length changes + 2) held now → stage_in_file (states_of held) old.table (place_at old slot) ≡ PreparedStage
        → IsSealedWith (states_of held) (states_of now) (place_in_file old.table (place_at old slot)) changes
        → HasParts new (Some now) old.words old.places old.place_of next old.has_failed → IsFiled facts SealCall slot entries waiting old new Made
    seal_made entries waiting next changes top are ahead well went was staged parts = record {
      records =
          made_records SealCall slot entries waiting old new held now is_old next changes (free_within (states_of held) old.table 0 old.places) ahead
          (free_from_first (states_of held) old.table old.places ∙ ap (λ h. count_below (is_free (states_in h) old.table) old.places) (sym is_old)) refl refl are.same_places staged.writes_here
          (λ k lt is_on. staged.writes_there (place_in_file old.table k) (ahead_nowhere old.words (states_of held) old.table old.places 0 next changes top are old.permuted k lt is_on))
          (has_parts new (Some now) old.words old.places old.place_of next old.has_failed parts);
      counts = good;
      ends = λ file shows. record {
        began = shows.same_failed ∙ sound;
        made = good;
        shows = shown file shows;
      };
      answers = record { began = sound; same_failed = parts.is_failed; faults = on_disk facts NoFault old.held new.held held now is_old parts.is_held went.made.faults };
      moments = λ file shows. on_disk facts (LeavesEither file.contents (entries_at file (file.place_of slot))) old.held new.held held now is_old parts.is_held
          (λ honest. leaves_either (facts (disk_of held)) (facts (disk_of now)) (length (states_of held)) file.contents (entries_at file (file.place_of slot)) (done file shows honest).moments);
      later = on_disk facts Later old.held new.held held now is_old parts.is_held later;
      quiet = λ is. absurd (let e : SealCall ≡ CancelCall = is in cc);
      words = parts.is_words;
      places = parts.is_places;
      ahead = λ k. ap (λ table. is_settled table k) parts.is_table ∙ ap (λ flags. flag_of flags k) are.same_settled;
    } where
      -- it made just its device calls
      good : OnDisk facts (Good (length (written_by old SealCall slot entries waiting) + 2)) (disk_in old.held) (disk_in new.held)
      good =
          on_disk facts (Good (length (written_by old SealCall slot entries waiting) + 2)) old.held new.held held now is_old parts.is_held
          (subst (λ n. Good n (facts (disk_of held)) (facts (disk_of now))) (ap (λ n. n + 2) (as_many SealCall slot entries waiting next changes ahead refl refl)) went.made)

      number : ℕ
      number = place_in_file old.table (place_at old slot)

      -- the place of the change that is sealed was not chosen
      away : (k : ℕ) → k < old.places → IsFresh old.table next k → k ≢ place_at old slot
      away k lt fresh same =
          let one = are.chosen k lt fresh.was fresh.now in
          let e : FreeStage ≡ PreparedStage = sym (free_of (states_of held) old.table k one.vacant fresh.was) ∙ ap (stage_in_file (states_of held) old.table) same ∙ was in
          cc

      nowhere : IsNoPlaceOf changes number
      nowhere = are.others number (λ k lt is. elim (fresh_or_same old.table next k (are.kept k)) [
        | inl same ↦ same
        | inr fresh ↦
            let one = are.chosen k lt fresh.was fresh.now in
            absurd (let e : FreeStage ≡ PreparedStage = sym (free_of (states_of held) old.table k one.vacant fresh.was) ∙ ap (stage_of (states_of held)) is ∙ was in cc)
      ])

      done : (file : File) → Represents facts old file → IsTrue (facts (disk_of held)).honest
          → CrashSafe facts held now file.contents (pairs_of (entries_at file (file.place_of slot))) (put_pairs (pairs_of (entries_at file (file.place_of slot))) file.contents) []
      done file shows honest =
          sealed_well facts held now (pairs_of (entries_at file (file.place_of slot))) r well (safe_as file shows) honest
          file.contents (pairs_of file.doubt) (keeps_in facts old held is_old file shows honest)

      stands : (file : File) (shows : Represents facts old file) → IsTrue (facts (disk_of held)).honest → RecoversTo facts now (put file.contents (entries_at file (file.place_of slot))) (pairs_of file.doubt)
      stands file shows honest =
          subst (λ doubt. RecoversTo facts now (put file.contents (entries_at file (file.place_of slot))) doubt) (sym (certain facts old held is_old file shows sound honest))
          (subst (λ words. RecoversTo facts now words []) (sym (put-put_pairs (entries_at file (file.place_of slot)) file.contents)) (done file shows honest).after)

      shown : (file : File) → Represents facts old file → Represents facts new (sealed file (file.place_of slot))
      shown file shows =
          let at = same_place facts old held is_old file shows slot within busy in
          let es : List Entry = entries_at file (file.place_of slot) in
          shows_parts facts new (Some now) old.words old.places old.place_of next old.has_failed (sealed file (file.place_of slot)) parts (record {
            same_words = length-put file.contents es ∙ shows.same_words;
            same_places = subst (λ p. ArePlaced (states_of now) next old.places (upd file.places p (Sealed es))) (sym at)
                (placed_beside old.words (states_of held) (states_of now) old.table next old.places 0 changes top are old.permuted file.places (placed_in facts old held is_old file shows) (place_at old slot)
                (place_within facts old held is_old file shows slot within busy) SealedStage (writes_in_file (states_of held) old.table (place_at old slot)) (Sealed es)
                (plain_at facts old held is_old file shows slot within busy) own refl (λ full. writes_called facts old held is_old file shows slot within busy own)
                (λ k lt fresh. away k lt fresh)
                (λ k lt fresh. (are.chosen k lt fresh.was fresh.now).here (states_of now) staged.stage_here)
                (staged.stage_there number nowhere ∙ cond-true (number == number) SealedStage (stage_of (states_of held) number) (eq-eqb number number refl), staged.writes_there number nowhere)
                (λ n other kept. (staged.stage_there n (are.others n kept) ∙ cond-false (n == number) SealedStage (stage_of (states_of held) n) (ne_eqb n number other), staged.writes_there n (are.others n kept))));
            same_place_of = shows.same_place_of;
            same_failed = shows.same_failed;
            stands = still (put file.contents es) (pairs_of file.doubt) (stands file shows);
          })

-- A settle of a change that was settled ahead: only its flag is cleared.
pub settle_ahead : {D : Type 0} (facts : D → Facts) (old new : Book D) (slot : ℕ) (entries : List Entry) (waiting : List Waiting) (flags : List Bool) → slot < MAX_POOL → old.has_failed ≡ false
    → is_settled old.table (place_at old slot) ≡ true → HasParts new old.held old.words old.places old.place_of (record old.table { settled = flags }) old.has_failed
    → ((place : ℕ) → flag_of flags place ≡ ahead_by_settle (states_in old.held) old.table (place_at old slot) place) → IsFiled facts SettleCall slot entries waiting old new Made
settle_ahead facts old new slot entries waiting flags within sound ahead parts are = record {
  counts = good;
  records = same_records SettleCall slot entries waiting old new refl (ap not ahead) (λ s es.
      has_parts new old.held old.words old.places old.place_of (record old.table { settled = flags }) old.has_failed parts s es ∙ sym (has_any old s es));
  ends = λ file shows. record {
    began = shows.same_failed ∙ sound;
    made = good;
    shows = subst (λ p. Represents facts new (emptied file p)) (sym (shows.same_place_of slot within))
        (shows_parts facts new old.held old.words old.places old.place_of (record old.table { settled = flags }) old.has_failed (emptied file (place_at old slot)) parts (record {
          same_words = shows.same_words;
          same_places = placed_let_go (states_in old.held) old.table flags old.places (place_at old slot) file.places shows.same_places ahead are;
          same_place_of = shows.same_place_of;
          same_failed = shows.same_failed;
          stands = shows.stands;
        }));
  };
  answers = record { began = sound; same_failed = parts.is_failed; faults = subst (λ h. OnDisk facts NoFault (disk_in old.held) (disk_in h)) (sym parts.is_held) (on_same facts NoFault old.held (λ f. refl)) };
  moments = λ file shows. subst (λ h. OnDisk facts (LeavesEither file.contents file.doubt) (disk_in old.held) (disk_in h)) (sym parts.is_held) (untouched facts old.held file.contents file.doubt shows.stands);
  later = subst (λ h. OnDisk facts Later (disk_in old.held) (disk_in h)) (sym parts.is_held) (on_same facts Later old.held later_refl);
  quiet = λ is. ap disk_in parts.is_held;
  words = parts.is_words;
  places = parts.is_places;
  ahead = λ place. ap (λ table. is_settled table place) parts.is_table ∙ are place;
} where
  -- it made no device call
  good : OnDisk facts (Good (length (written_by old SettleCall slot entries waiting) + settle_calls (is_settled old.table (place_at old slot)) (states_in old.held))) (disk_in old.held) (disk_in new.held)
  good =
      subst (λ n. OnDisk facts (Good n) (disk_in old.held) (disk_in new.held))
      (sym (ap (λ ws. length ws + settle_calls (is_settled old.table (place_at old slot)) (states_in old.held)) (none_by old SettleCall slot entries waiting (ap not ahead)) ∙ ap (λ flag. 0 + settle_calls flag (states_in old.held)) ahead))
      (subst (λ h. OnDisk facts (Good 0) (disk_in old.held) (disk_in h)) (sym parts.is_held) (on_same facts (Good 0) old.held good_none))
