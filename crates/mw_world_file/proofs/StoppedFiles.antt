-- What a stop leaves of a simulated file is what a start may find, as the definition of a world says.
-- Used by: SimulatedFile::stop, stop_sealing, stop_settling, stop_preparing.
use Rattle.std.proofs.Common.{◌≡◌, ℕ, ◌<◌, ◌≤◌, ◌+◌, ◌==◌, ◌&&◌, min, nat_le, not, Bool, true, false, List, [], ◌∷◌, length, Option, Some, None, Result, Ok, Err, is_err, refl, sym, ap, subst, ◌∙◌, inl, inr, arith}
use Rattle.std.specs.Str.{bytes_eq}
use Rattle.std.proofs.lemmas.Slice.Eq.{bytes_eq-Decides}
use Rattle.std.proofs.lemmas.Bool.{cases_lt, cond-true, cond-false, and_from, and_left, and_right, or_left, or_right, lt-leb, le-leb, eq-eqb, ne_eqb}
use Rattle.mw_words.specs.declared.jobs.Entry.{Entry}
use Rattle.mw_words.specs.Change.{put}
use Rattle.mw_look.specs.declared.steps.Call.{Call}
use Rattle.mw_look.specs.declared.steps.Call.TheVariants.{Prepare as PrepareCall, Seal as SealCall, Settle as SettleCall, Cancel as CancelCall}
use Rattle.mw_disk.specs.Facts.{MayLeave, most_counted}
use Rattle.mw_disk.specs.Runs.{Later, Good, Bad, LeavesOnly}
use Rattle.mw_disk.proofs.RunLaws.{later_refl, leaves_now}
use Rattle.mw_memory_disk.specs.Memory.{Memory, memory_facts, plan_of, with_stop}
use Rattle.mw_record.specs.Damages.{file_words, places_of}
use Rattle.mw_record.specs.Records.{Pairs, put_pairs}
use Rattle.mw_record.specs.Layout.{pairs_of}
use Rattle.mw_record.proofs.ReadAgain.{put-put_pairs}
use Rattle.mw_file.specs.declared.tenant_file.TenantFile.{TenantFile}
use Rattle.mw_file.specs.declared.tenant_file.FileFault.{FileFault}
use Rattle.mw_file.specs.declared.tenant_file.FileFault.TheVariants.{Disk, Failed}
use Rattle.mw_file.specs.File.{states_of, disk_of, has_failed, Ends}
use Rattle.mw_file.specs.RecoveryInvariant.{RecoversTo, IsFile, IsBeforeOrAfter, ContentsStay, ChangeIsSealed}
use Rattle.mw_world_file.specs.declared.device.Device.{Device}
use Rattle.mw_world_file.specs.declared.device.Device.TheVariants.{Open, Shut}
use Rattle.mw_world_file.specs.declared.simulated_file.SimulatedFile.{SimulatedFile}
use Rattle.mw_world_file.specs.declared.cut.Cut.{Cut}
use Rattle.mw_world_file.specs.declared.cut.Left.{Left}
use Rattle.mw_world.specs.Files.State.{File, entries_at}
use Rattle.mw_world.specs.Files.Calls.{place_for, suits, fails_on, device_calls}
use Rattle.mw_world.specs.Files.Restarts.{takes, may_find, doubt_if, is_whole_seal}
use Rattle.mw_world_file.specs.DeviceCalls.{cut_list}
use Rattle.mw_world_file.specs.Devices.{disk_under, IsReady, DeviceRecoversTo}
use Rattle.mw_world_file.specs.Books.{Represents, quota_of, places_of_file}
use Rattle.mw_world_file.specs.Recovery.{IsLeftOf, IsTornImage, IsCutImage, RanJust, until, calls_at, cut_place, cut_calls, made_of, may_be_made, doubt_left, is_sealed_left}
use Rattle.mw_world_file.specs.StoppedFiles.{IsStopped}
use Rattle.mw_world_file.proofs.ExactDisks.{whole_image}
use Rattle.mw_world_file.proofs.WorkedFiles.{places_open, keeps_open, none_doubted, unfailed_open}

same_words : (xs ys : List ℕ) → xs ≡ ys → bytes_eq xs ys ≡ true
same_words xs ys same = (bytes_eq-Decides xs ys).1 same

-- words that a start may find
found_before : (before : List ℕ) (doubt : List Entry) (words : List ℕ) → words ≡ before → may_find false before doubt words ≡ true
found_before before doubt words same = or_left (bytes_eq words before) (takes before doubt words) (same_words words before same)

found_changed : (sealed : Bool) (before : List ℕ) (doubt : List Entry) (words : List ℕ) → words ≡ put before doubt → may_find sealed before doubt words ≡ true
found_changed true before doubt words same = same_words words (put before doubt) same
found_changed false before [] words same = found_before before [] words same
found_changed false before (e ∷ doubt) words same = or_right (bytes_eq words before) (takes before (e ∷ doubt) words) (same_words words (put before (e ∷ doubt)) same)

-- bytes that are a file of words that a start may find, if the change in doubt was sealed to the end or not
pub record Finds (places : ℕ) (sealed : Bool) (before : List ℕ) (doubt : List Entry) (image : List ℕ) : Type 0 where
  pub words : List ℕ
  pub stands : IsFile places words image
  pub found : may_find sealed before doubt words ≡ true

finds_either : (places : ℕ) (before : List ℕ) (doubt : List Entry) (image : List ℕ) → IsBeforeOrAfter places before (pairs_of doubt) image → Finds places false before doubt image
finds_either places before doubt image (inl is) = record { words = before; stands = is; found = found_before before doubt before refl }
finds_either places before doubt image (inr is) = record {
  words = put before doubt;
  stands = subst (λ ws. IsFile places ws image) (sym (put-put_pairs doubt before)) is;
  found = found_changed false before doubt (put before doubt) refl;
}

-- a file of these words, or of these with a change put over them, has its places either way
either_places : (places : ℕ) (before : List ℕ) (change : Pairs) (image : List ℕ) → IsBeforeOrAfter places before change image → places_of image ≡ places
either_places places before change image (inl is) = is.places_are
either_places places before change image (inr is) = is.places_are

-- if nothing is in doubt, it has these words
either_words : (places : ℕ) (words image : List ℕ) → IsBeforeOrAfter places words [] image → file_words image ≡ Some words
either_words places words image (inl is) = is.words_are
either_words places words image (inr is) = is.words_are

-- a book in which no device call was under way
finds_device : (device : Device) (places : ℕ) (before : List ℕ) (doubt : List Entry) (image : List ℕ) → ((open_file : TenantFile Memory) → device ≡ Open open_file → length (states_of open_file) ≡ places)
    → DeviceRecoversTo device places before doubt → MayLeave (memory_facts (disk_under device)) image → Finds places false before doubt image
finds_device (Open file) places before doubt image count stands may =
    finds_either places before doubt image (subst (λ n. IsBeforeOrAfter n before (pairs_of doubt) image) (count file refl) (stands.left image may))
finds_device (Shut disk) places before doubt image count stands may = record { words = before; stands = stands.1 image may; found = found_before before doubt before refl }

finds_whole : (old : SimulatedFile) (file : File) → Represents old file → (image : List ℕ) → MayLeave (memory_facts (disk_under old.device)) image
    → Finds (places_of_file old) false old.contents.items old.doubt.items image
finds_whole old file shows image may =
    finds_device old.device (places_of_file old) old.contents.items old.doubt.items image (λ held is. places_open old held is) shows.stands may

-- what is left of a disk if no device call was made
untouched : (disk : Memory) (made : ℕ) (torn image : List ℕ) → made ≡ 0 → IsTornImage disk torn image → IsLeftOf disk made torn image
untouched disk made torn image none is = record {
  stopped = disk;
  same = λ none. refl;
  ran = λ some. absurd (omega (arith, none, some));
  later = later_refl (memory_facts disk);
  image_is = is;
}

-- what is left, if the change in doubt is known
is_left : (old : SimulatedFile) (file : File) → Represents old file → (cut : Option Cut) (torn : List ℕ) (left : Left) (sealed : Bool) → may_be_made file (quota_of old) cut ≡ true → left.doubt.items ≡ doubt_left file (quota_of old) cut
    → is_sealed_left file (quota_of old) cut ≡ sealed → Finds (places_of_file old) sealed old.contents.items left.doubt.items left.image.items
    → IsLeftOf (disk_under old.device) (made_of cut) torn left.image.items → IsCutImage (disk_under old.device) (made_of cut) (cut_list old cut) torn left.image.items → IsStopped old file cut torn left
is_left old file shows cut torn left sealed made doubt is_sealed finds of_disk exact = record {
  words = finds.words;
  is_left = record {
    made = made;
    has = finds.stands.words_are;
    found = ap (λ b. may_find b file.contents (doubt_left file (quota_of old) cut) finds.words) is_sealed
        ∙ ap (λ ws. may_find sealed ws (doubt_left file (quota_of old) cut) finds.words) shows.same_contents
        ∙ ap (λ es. may_find sealed old.contents.items es finds.words) (sym doubt) ∙ finds.found;
    left = of_disk;
    exact = exact;
  };
  room = finds.stands.places_are;
  in_doubt = doubt;
}

-- if no device call of a call was made, the call sealed no change and left none in doubt
none_sealed : (call : Call) (made calls : ℕ) → made ≡ 0 → is_whole_seal call made calls ≡ false
none_sealed PrepareCall made calls none = refl
none_sealed SealCall made calls none = ap (λ n. nat_le 1 n && (n == calls)) none
none_sealed SettleCall made calls none = refl
none_sealed CancelCall made calls none = refl

doubt_stays : (call : Call) (doubt : List Entry) (made : ℕ) (entries : List Entry) → made ≡ 0 → doubt_if call doubt made entries ≡ doubt
doubt_stays PrepareCall doubt made entries none = refl
doubt_stays SealCall doubt made entries none = cond-true (made == 0) doubt entries (eq-eqb made 0 none)
doubt_stays SettleCall doubt made entries none = refl
doubt_stays CancelCall doubt made entries none = refl

pub left_whole : (old : SimulatedFile) (torn : List ℕ) (left : Left) → left.doubt ≡ old.doubt → IsTornImage (disk_under old.device) torn left.image.items → (file : File) → Represents old file
    → IsStopped old file None torn left
left_whole old torn left same is file shows =
    is_left old file shows None torn left false refl (ap (λ d. d.items) same ∙ sym shows.same_doubt) refl
    (subst (λ d. Finds (places_of_file old) false old.contents.items d left.image.items) (sym (ap (λ d. d.items) same)) (finds_whole old file shows left.image.items is.may))
    (untouched (disk_under old.device) 0 torn left.image.items refl is) (whole_image (disk_under old.device) 0 [] torn left.image.items refl is)

pub left_before : (old : SimulatedFile) (cut : Cut) (torn : List ℕ) (left : Left) → cut.made ≡ 0 → left.doubt ≡ old.doubt → IsTornImage (disk_under old.device) torn left.image.items → (file : File)
    → Represents old file → IsStopped old file (Some cut) torn left
left_before old cut torn left none same is file shows =
    is_left old file shows (Some cut) torn left false (le-leb cut.made (cut_calls file (quota_of old) cut) (omega (arith, none)))
    (ap (λ d. d.items) same ∙ sym shows.same_doubt ∙ sym (doubt_stays cut.call file.doubt cut.made (entries_at file (cut_place file (quota_of old) cut)) none))
    (none_sealed cut.call cut.made (cut_calls file (quota_of old) cut) none)
    (subst (λ d. Finds (places_of_file old) false old.contents.items d left.image.items) (sym (ap (λ d. d.items) same)) (finds_whole old file shows left.image.items is.may))
    (untouched (disk_under old.device) cut.made torn left.image.items none is) (whole_image (disk_under old.device) cut.made (cut_list old (Some cut)) torn left.image.items none is)

-- A call was under way, with at least one device call made.
module _ (old : SimulatedFile) (cut : Cut) (call : Call) (is : cut.call ≡ call) (some : 1 ≤ cut.made) (file : File) (shows : Represents old file) where
  -- the place of the call
  abbrev place : ℕ
  place = place_for call file (quota_of old) cut.slot

  -- the place doesn't suit the call
  pub not_suited : suits call file (quota_of old) place ≡ false → may_be_made file (quota_of old) (Some cut) ≡ false
  not_suited isnt =
      let calls : cut_calls file (quota_of old) cut ≡ 0 =
      ap (λ k. calls_at k file (quota_of old) (place_for k file (quota_of old) cut.slot)) is
      ∙ cond-false (suits call file (quota_of old) place && not (fails_on call file))
      (device_calls call (entries_at file place)) 0 (and_left (suits call file (quota_of old) place) (not (fails_on call file)) isnt) in
      lt-leb cut.made (cut_calls file (quota_of old) cut) (omega (arith, calls, some))

  module _ (sound : file.has_failed ≡ false) (suit : suits call file (quota_of old) place ≡ true) where
    sound_call : (k : Call) → fails_on k file ≡ false
    sound_call PrepareCall = sound
    sound_call SealCall = sound
    sound_call SettleCall = sound
    sound_call CancelCall = refl

    as_many_calls : cut_calls file (quota_of old) cut ≡ device_calls call (entries_at file place)
    as_many_calls =
        ap (λ k. calls_at k file (quota_of old) (place_for k file (quota_of old) cut.slot)) is
        ∙ cond-true (suits call file (quota_of old) place && not (fails_on call file)) (device_calls call (entries_at file place)) 0
        (and_from (suits call file (quota_of old) place) (not (fails_on call file)) suit (ap not (sound_call call)))

    pub too_many : device_calls call (entries_at file place) < cut.made → may_be_made file (quota_of old) (Some cut) ≡ false
    too_many many = let e = as_many_calls in lt-leb cut.made (cut_calls file (quota_of old) cut) (omega (arith, e, many))

    -- what is left, by the change in doubt and whether it was sealed to the end
    pub left_cut : (torn : List ℕ) (left : Left) (sealed : Bool) → cut.made ≤ device_calls call (entries_at file place) → left.doubt.items ≡ doubt_if call file.doubt cut.made (entries_at file place)
        → is_whole_seal call cut.made (device_calls call (entries_at file place)) ≡ sealed → Finds (places_of_file old) sealed old.contents.items left.doubt.items left.image.items
        → IsLeftOf (disk_under old.device) cut.made torn left.image.items → IsCutImage (disk_under old.device) cut.made (cut_list old (Some cut)) torn left.image.items → IsStopped old file (Some cut) torn left
    left_cut torn left sealed few doubt whole finds of_disk exact =
        let e = as_many_calls in
        is_left old file shows (Some cut) torn left sealed (le-leb cut.made (cut_calls file (quota_of old) cut) (omega (arith, e, few)))
        (doubt ∙ ap (λ k. doubt_if k file.doubt cut.made (entries_at file (place_for k file (quota_of old) cut.slot))) (sym is))
        (ap (λ n. is_whole_seal cut.call cut.made n) e ∙ ap (λ k. is_whole_seal k cut.made (device_calls call (entries_at file place))) is ∙ whole)
        finds of_disk exact

-- after a device call of a seal, its change is in doubt
pub doubt_sealing : (doubt entries : List Entry) (made : ℕ) → 1 ≤ made → doubt_if SealCall doubt made entries ≡ entries
doubt_sealing doubt entries made some = cond-false (made == 0) doubt entries (ne_eqb made 0 (λ z. omega (arith, z, some)))

-- the seal came to its end if, and only if, all its device calls were made
pub part_of_seal : (made calls : ℕ) → made < calls → is_whole_seal SealCall made calls ≡ false
part_of_seal made calls fewer = and_right (nat_le 1 made) (made == calls) (ne_eqb made calls (λ e. omega (arith, e, fewer)))

pub whole_seal : (made calls : ℕ) → 1 ≤ made → made ≡ calls → is_whole_seal SealCall made calls ≡ true
whole_seal made calls some all = and_from (nat_le 1 made) (made == calls) (le-leb 1 made some) (eq-eqb made calls all)

-- A ready disk that stops after `made` device calls, and the disk after a call on the file during which memory wasn't
-- out.
module _ (disk before now : Memory) (made : ℕ) (ready : IsReady disk) (stops : before ≡ until disk made) (plan : (k : ℕ) → (memory_facts before).plan k ≡ with_stop disk made k)
    (granted : now.refused ≡ disk.refused) where
  -- the calls before the stop go well, and the next one fails
  goes : (k : ℕ) → k < made → (memory_facts before).plan k ≡ Some true
  goes k low = plan k ∙ cond-false (nat_le made k) (Some false) (plan_of disk k) (lt-leb made k low) ∙ ready.plan k

  halts : (memory_facts before).plan made ≡ Some false
  halts = plan made ∙ cond-true (nat_le made made) (Some false) (plan_of disk made) (le-leb made made (omega arith))

  -- exactly `made` device calls went well
  ran_good : (calls : ℕ) → made ≤ calls → Good calls (memory_facts before) (memory_facts now) → RanJust made (memory_facts before) (memory_facts now)
  ran_good calls few good = elim (cases_lt made calls) [
    | inl fewer ↦ absurd (good.none_doomed made fewer halts)
    | inr past ↦
        let all : calls ≡ made = omega (arith, few, past) in
        inl (subst (λ n. Good n (memory_facts before) (memory_facts now)) all good)
  ]

  ran_bad : (calls : ℕ) → Bad calls (memory_facts before) (memory_facts now) → RanJust made (memory_facts before) (memory_facts now)
  ran_bad calls bad = elim (cases_lt bad.well made) [
    | inl fewer ↦
        let e : now.refused ≡ min (before.refused + 1) most_counted = bad.spared refl (goes bad.well fewer) in
        let same : before.refused ≡ disk.refused = ap (λ m. m.refused) stops in
        let none = ready.granted in
        absurd (omega (arith, e, same, none, granted))
    | inr since ↦ elim (cases_lt made bad.well) [
      | inl past ↦ absurd (bad.none_doomed made past halts)
      | inr low ↦ let all : bad.well ≡ made = omega (arith, since, low) in inr (calls, bad, all)
    ]
  ]

-- what ran of a call on the file, for each answer
ran_call : {T : Type 0} (disk : Memory) (before now : TenantFile Memory) (made calls : ℕ) (r : Result T FileFault) → IsReady disk → disk_of before ≡ until disk made
    → ((k : ℕ) → (memory_facts (disk_of before)).plan k ≡ with_stop disk made k) → (disk_of now).refused ≡ disk.refused → made ≤ calls → has_failed before ≡ false
    → Ends memory_facts calls before now r → RanJust made (memory_facts (disk_of before)) (memory_facts (disk_of now))
ran_call disk before now made calls (Ok x) ready stops plan granted few unfailed ends = ran_good disk (disk_of before) (disk_of now) made ready stops plan granted calls few ends.made
ran_call disk before now made calls (Err Disk) ready stops plan granted few unfailed ends = ran_bad disk (disk_of before) (disk_of now) made ready stops plan granted calls ends.made
ran_call disk before now made calls (Err Failed) ready stops plan granted few unfailed ends = absurd (let e : true ≡ false = sym ends.before ∙ unfailed in cc)

-- what is left of a disk after some device calls of a call on a copy of the file, which then stopped
pub left_of : {T : Type 0} (old : SimulatedFile) (held before now : TenantFile Memory) (made calls : ℕ) (torn image : List ℕ) (r : Result T FileFault) → old.device ≡ Open held → old.has_failed ≡ false
    → 1 ≤ made → made ≤ calls → disk_of before ≡ until (disk_of held) made → ((k : ℕ) → (memory_facts (disk_of before)).plan k ≡ with_stop (disk_of held) made k)
    → has_failed before ≡ has_failed held → Ends memory_facts calls before now r → (disk_of now).refused ≡ (disk_of held).refused
    → Later (memory_facts (disk_of before)) (memory_facts (disk_of now)) → IsTornImage (disk_of now) torn image → IsLeftOf (disk_under old.device) made torn image
left_of old held before now made calls torn image r device sound some few stops plan failed ends granted later is = record {
  stopped = disk_of now;
  same = λ none. absurd (omega (arith, none, some));
  ran = λ any. subst (λ d. RanJust made (memory_facts (until (disk_under d) made)) (memory_facts (disk_of now))) (sym device) (subst (λ d. RanJust made (memory_facts d) (memory_facts (disk_of now))) stops ran);
  later = subst (λ d. Later (memory_facts (disk_under d)) (memory_facts (disk_of now))) (sym device)
      (record { later = on.later; honest = on.honest; past = on.past; kept = on.kept });
  image_is = is;
} where
  on : Later (memory_facts (until (disk_of held) made)) (memory_facts (disk_of now))
  on = subst (λ d. Later (memory_facts d) (memory_facts (disk_of now))) stops later

  ran : RanJust made (memory_facts (disk_of before)) (memory_facts (disk_of now))
  ran = ran_call (disk_of held) before now made calls r (subst (λ d. IsReady (disk_under d)) device (old.ready sound)) stops plan granted few (failed ∙ unfailed_open old held device sound) ends

-- The file on the disk that stopped.
module _ (old : SimulatedFile) (held : TenantFile Memory) (device : old.device ≡ Open held) (before now : TenantFile Memory) (same : states_of before ≡ states_of held)
    (copied : (contents : List ℕ) (doubt : Pairs) → RecoversTo memory_facts held contents doubt → RecoversTo memory_facts before contents doubt) (image : List ℕ) (may : MayLeave (memory_facts (disk_of now)) image) where
  places_before : length (states_of before) ≡ places_of_file old
  places_before = ap (λ ss. length ss) same ∙ places_open old held device

  left_either : (change : Pairs) → LeavesOnly (memory_facts (disk_of before)) (memory_facts (disk_of now)) (IsBeforeOrAfter (length (states_of before)) old.contents.items change)
      → IsBeforeOrAfter (places_of_file old) old.contents.items change image
  left_either change moments =
      subst (λ n. IsBeforeOrAfter n old.contents.items change image) places_before (leaves_now (memory_facts (disk_of before)) (memory_facts (disk_of now)) moments image may)

  -- a call that leaves the words
  pub stays_left : ContentsStay memory_facts before now → (doubt : List Entry) → doubt ≡ old.doubt.items → (file : File) → Represents old file → Finds (places_of_file old) false old.contents.items doubt image
  stays_left safe doubt same_doubt file shows =
      subst (λ es. Finds (places_of_file old) false old.contents.items es image) (sym same_doubt)
      (finds_either (places_of_file old) old.contents.items old.doubt.items image
      (left_either (pairs_of old.doubt.items) (safe refl old.contents.items (pairs_of old.doubt.items) (copied old.contents.items (pairs_of old.doubt.items) (keeps_open old held device file shows))).moments))

  module _ (sound : old.has_failed ≡ false) (entries : List Entry) (w : Pairs) (writes : w ≡ pairs_of entries) where
    -- a seal, for each answer: what a crash at any moment of it leaves
    sealing : (r : Result (Unit {0}) FileFault) → ChangeIsSealed memory_facts before now w r → has_failed before ≡ false → Ends memory_facts 2 before now r
        → (file : File) → Represents old file → IsBeforeOrAfter (places_of_file old) old.contents.items (pairs_of entries) image
    sealing (Ok x) safe unfailed ends file shows =
        subst (λ ps. IsBeforeOrAfter (places_of_file old) old.contents.items ps image) writes
        (left_either w (safe refl old.contents.items [] (none_doubted old held device before sound copied file shows)).moments)
    sealing (Err Disk) safe unfailed ends file shows =
        subst (λ ps. IsBeforeOrAfter (places_of_file old) old.contents.items ps image) writes
        (left_either w (safe refl old.contents.items [] (none_doubted old held device before sound copied file shows)).moments)
    sealing (Err Failed) safe unfailed ends file shows = absurd (let e : true ≡ false = sym ends.before ∙ unfailed in cc)

    -- a seal, however it ended
    pub sealed_left : (r : Result (Unit {0}) FileFault) → ChangeIsSealed memory_facts before now w r → has_failed before ≡ false → Ends memory_facts 2 before now r
        → (file : File) → Represents old file → Finds (places_of_file old) false old.contents.items entries image
    sealed_left r safe unfailed ends file shows = finds_either (places_of_file old) old.contents.items entries image (sealing r safe unfailed ends file shows)

    -- a seal that answered Ok
    pub sealed_whole : (r : Result (Unit {0}) FileFault) → is_err r ≡ false → ChangeIsSealed memory_facts before now w r → has_failed before ≡ false → Ends memory_facts 2 before now r
        → (file : File) → Represents old file → Finds (places_of_file old) true old.contents.items entries image
    sealed_whole (Ok y) well safe unfailed ends file shows =
        let after : RecoversTo memory_facts now (put_pairs w old.contents.items) [] = (safe refl old.contents.items [] (none_doubted old held device before sound copied file shows)).after in
        record {
          words = put old.contents.items entries;
          stands = record {
            words_are = either_words (length (states_of now)) (put_pairs w old.contents.items) image (after.left image may)
                ∙ ap (λ ps. Some (put_pairs ps old.contents.items)) writes ∙ sym (ap Some (put-put_pairs entries old.contents.items));
            places_are = either_places (places_of_file old) old.contents.items (pairs_of entries) image (sealing (Ok y) safe unfailed ends file shows);
          };
          found = found_changed true old.contents.items entries (put old.contents.items entries) refl;
        }
    sealed_whole (Err fault) well safe unfailed ends file shows = absurd (let e : true ≡ false = well in cc)
