-- An opening of a simulated file ends with a book of the opened file, or with one that failed at the named device call.
-- Used by: SimulatedFile::open.
use Rattle.std.proofs.Common.{◌≡◌, ℕ, zero, suc, ◌+◌, ◌<◌, ◌≤◌, ◌==◌, ◌&&◌, ◌||◌, ◌^◌, nat_le, nat_lt, min, Bool, true, false, if◌then◌else◌, List, [], ◌∷◌, length, take, replicate, Option, Some, None, is_none, Result, Ok, Err, IsSome, IsSomeAnd, MatchResult, refl, sym, ap, subst, ◌∙◌, inl, inr, arith}
use Rattle.std.proofs.lemmas.Bool.{cases_lt, cond-true, cond-false, and_from, and_right, and_parts, eq-eqb, eqb-true, lt-ltb, le-leb, lt-leb}
use Rattle.mw_disk.specs.Facts.{MayLeave, IsSynced, most_counted}
use Rattle.mw_memory_disk.specs.Memory.{Memory, memory_facts, scripted}
use Rattle.mw_disk.specs.Runs.{LeavesOnly, Bad as OneFailed}
use Rattle.mw_disk.proofs.RunLaws.{leaves_now, leaves_wider}
use Rattle.mw_record.specs.declared.layout.TheConstants.{MAX_FILE}
use Rattle.mw_record.specs.Damages.{damage_of, places_of, words_in, file_words}
use Rattle.mw_file.specs.declared.tenant_file.TenantFile.{TenantFile}
use Rattle.mw_file.specs.File.{disk_of, states_of}
use Rattle.mw_file.specs.RecoveryInvariant.{IsFile}
use Rattle.mw_file.specs.declared.opening.OpenFault.{OpenFault}
use Rattle.mw_file.specs.declared.opening.OpenFault.TheVariants.{Disk}
use Rattle.mw_file.specs.OpeningEnds.{IsOpened, DiskFailed, Fails, SameFile, open_calls}
use Rattle.mw_world_file.specs.declared.device.Device.TheVariants.{Open, Shut}
use Rattle.mw_world_file.specs.declared.simulated_file.SimulatedFile.{SimulatedFile}
use Rattle.mw_world_file.specs.declared.places.Place.TheVariants.{Empty as KeptEmpty}
use Rattle.mw_world_file.specs.declared.faults.BookFault.{BookFault}
use Rattle.mw_world_file.specs.declared.faults.BookFault.TheVariants.{NotEnabled, Memory as NoMemory}
use Rattle.mw_world_file.specs.Books.{Represents, HasParts, quota_of, places_of_file}
use Rattle.mw_world.specs.Files.Calls.{is_made}
use Rattle.mw_world_file.specs.Devices.{disk_under}
use Rattle.mw_world.specs.Files.State.{broken, file_of}
use Rattle.mw_world_file.specs.Openings.{CameOfBytes, OpeningRan}
use Rattle.mw_world.specs.Files.Restarts.{may_fail, opened_file}
use Rattle.mw_world_file.specs.StoppedFiles.{named, IsReopened, ReopenEnds}
use Rattle.mw_world_file.proofs.OpenedFiles.{none_there, zero_there, same_calls, opened_words, opened_places}
use Rattle.mw_world_file.proofs.WorkedFiles.{shows_parts}

-- bytes that have words have no damage, and these are the words in them
undamaged_by : (bytes words : List ℕ) (damage : Option _) → damage_of bytes ≡ damage → file_words bytes ≡ Some words → damage_of bytes ≡ None
undamaged_by bytes words None is has = is
undamaged_by bytes words (Some fault) is has =
    absurd (let e : None ≡ Some words = sym (ap (λ d. if is_none d then Some (words_in bytes) else None) is) ∙ has in cc)

pub undamaged : (bytes words : List ℕ) → file_words bytes ≡ Some words → damage_of bytes ≡ None
undamaged bytes words has = undamaged_by bytes words (damage_of bytes) refl has

pub words_found : (bytes words : List ℕ) → file_words bytes ≡ Some words → words_in bytes ≡ words
words_found bytes words has =
    let e : Some (words_in bytes) ≡ Some words = sym (ap (λ d. if is_none d then Some (words_in bytes) else None) (undamaged bytes words has)) ∙ has in
    cc

-- an opened file has as many places as its bytes say, so a quota that fits these fits the file
pub room_opened : (disk : Memory) (bytes : List ℕ) (file : TenantFile Memory) (contents : List ℕ) (quota count : ℕ) → (memory_facts disk).reads ≡ bytes → IsOpened memory_facts disk file contents → count ≡ places_of bytes
    → quota ≤ count → quota ≤ length (states_of file)
room_opened disk bytes file contents quota count reads opened counted room =
    let has : length (states_of file) ≡ places_of bytes = opened_places disk file contents opened ∙ ap places_of reads in
    omega (arith, has, counted, room)

-- the device call that a script names fails, and no other does
named_fails : (number k : ℕ) → number ≡ k + 1 → k < most_counted → scripted (number ∷ []) k ≡ Some false
named_fails number k is fits =
    cond-true ((number == k + 1 || false) && nat_lt k most_counted) (Some false) (Some true)
    (and_from (number == k + 1 || false) (nat_lt k most_counted) (ap (λ b. b || false) (eq-eqb number (k + 1) is)) (lt-ltb k most_counted fits))

fails_named : (number k : ℕ) (b : Bool) → ((number == k + 1 || false) && nat_lt k most_counted) ≡ b → (scripted (number ∷ []) k ≡ Some true → ⊥) → number ≡ k + 1
fails_named number k true is doomed = by (number == k + 1) refl (and_parts (number == k + 1 || false) (nat_lt k most_counted) is).0 where
  by : (b : Bool) → (number == k + 1) ≡ b → (number == k + 1 || false) ≡ true → number ≡ k + 1
  by true same is = eqb-true number (k + 1) same
  by false same is = absurd (let e : false ≡ true = sym (ap (λ b. b || false) same) ∙ is in cc)
fails_named number k false is doomed = absurd (doomed (cond-false ((number == k + 1 || false) && nat_lt k most_counted) (Some false) (Some true) is))

-- A new disk with bytes that are a file of these words, on which the named call must fail.
module _ (disk : Memory) (bytes words : List ℕ) (quota : ℕ) (fails_at : Option ℕ) (reads : (memory_facts disk).reads ≡ bytes) (rest : IsSynced (memory_facts disk)) (begins : (memory_facts disk).moment ≡ 0)
    (is : file_words bytes ≡ Some words)
    (plan : (k : ℕ) → (memory_facts disk).plan k ≡ scripted (named fails_at) k) where
  plan_named : (number k : ℕ) → fails_at ≡ Some number → (memory_facts disk).plan k ≡ scripted (number ∷ []) k
  plan_named number k at = plan k ∙ ap (λ f. scripted (named f) k) at

  calls_as : (image : List ℕ) → image ≡ take MAX_FILE (memory_facts disk).reads → open_calls image ≡ open_calls bytes
  calls_as image same = ap open_calls (same ∙ ap (take MAX_FILE) reads) ∙ same_calls bytes (undamaged bytes words is)

  -- an opening that went well made no call with that number
  well_made : (number : ℕ) → fails_at ≡ Some number → number < 2 ^ 64 → (file : TenantFile Memory) (contents : List ℕ) → IsOpened memory_facts disk file contents → is_made (open_calls bytes) number ≡ false
  well_made zero at fits file contents opened = refl
  well_made (suc m) at fits file contents opened = elim (cases_lt (open_calls bytes) (suc m)) [
    | inl past ↦ and_right (nat_le 1 (suc m)) (nat_le (suc m) (open_calls bytes)) (lt-leb (suc m) (open_calls bytes) past)
    | inr within ↦
        let same = calls_as opened.image (opened.seen refl) in
        absurd (opened.made.none_doomed m (omega (arith, same, within)) (plan_named (suc m) m at ∙ named_fails (suc m) m (omega arith) (omega (arith, fits))))
  ]

  -- it has the places that its bytes say
  places_told : (file : TenantFile Memory) (contents : List ℕ) → IsOpened memory_facts disk file contents → length (states_of file) ≡ places_of bytes
  places_told file contents opened = opened_places disk file contents opened ∙ ap places_of reads

  not_failed : (file : TenantFile Memory) (contents : List ℕ) → IsOpened memory_facts disk file contents → IsSomeAnd fails_at (λ number. number < 2 ^ 64) → may_fail (open_calls bytes) fails_at ≡ false
  not_failed file contents opened some = by fails_at refl some where
    by : (f : Option ℕ) → fails_at ≡ f → IsSomeAnd f (λ number. number < 2 ^ 64) → may_fail (open_calls bytes) fails_at ≡ false
    by None at some_so = absurd some_so
    by (Some number) at fits = ap (may_fail (open_calls bytes)) at ∙ well_made number at fits file contents opened

  -- the call that failed is the named one, if memory was never out
  failed_there : (number : ℕ) → fails_at ≡ Some number → (after : Memory) (failed : DiskFailed memory_facts disk after) → disk.refused ≡ 0 → after.refused ≡ 0 → number ≡ failed.made.well + 1
  failed_there number at after failed none_before none =
      let well = failed.made.well in
      fails_named number well _ refl (λ goes.
      let e : after.refused ≡ min (disk.refused + 1) most_counted = failed.made.spared refl (plan_named number well at ∙ goes) in
      omega (arith, e, none_before, none))

  -- an opening that failed, although memory was never out, made that call
  badly_made : (number : ℕ) → fails_at ≡ Some number → (after : Memory) → DiskFailed memory_facts disk after → disk.refused ≡ 0 → after.refused ≡ 0 → is_made (open_calls bytes) number ≡ true
  badly_made number at after failed none_before none =
      let well = failed.made.well in
      let fewer = failed.made.fewer in
      let within = failed.within refl in
      let same = calls_as (take MAX_FILE (memory_facts disk).reads) refl in
      let is_next : number ≡ well + 1 = failed_there number at after failed none_before none in
      and_from (nat_le 1 number) (nat_le number (open_calls bytes)) (le-leb 1 number (omega (arith, is_next))) (le-leb number (open_calls bytes) (omega (arith, is_next, fewer, within, same)))

  -- what a crash then leaves is still a file of the words, with its places
  left_file : (after : Memory) → DiskFailed memory_facts disk after → (image : List ℕ) → MayLeave (memory_facts after) image → IsFile (places_of bytes) words image
  left_file after failed image may =
      let as_before = leaves_now (memory_facts disk) (memory_facts after) (failed.unchanged refl rest).left image may in
      record { words_are = as_before.words ∙ ap file_words reads ∙ is; places_are = as_before.places ∙ ap places_of reads }

  -- a crash at any moment since the opening began left a file of the words
  same_words : (after : Memory) → LeavesOnly (memory_facts disk) (memory_facts after) (SameFile (memory_facts disk).reads)
      → LeavesOnly (memory_facts disk) (memory_facts after) (λ image. file_words image ≡ Some words)
  same_words after left = leaves_wider (memory_facts disk) (memory_facts after) (λ image as_before. as_before.words ∙ ap file_words reads ∙ is) left

  came_well : (file : TenantFile Memory) (contents : List ℕ) → IsOpened memory_facts disk file contents → fails_at ≡ None → CameOfBytes bytes words fails_at (disk_of file)
  came_well file contents opened none = record {
    first = disk;
    reads = reads;
    rest = rest;
    begins = begins;
    ran = subst (λ f. OpeningRan (open_calls bytes) f disk (disk_of file)) (sym none)
        (subst (λ n. OpeningRan n None disk (disk_of file)) (calls_as opened.image (opened.seen refl)) opened.made);
    moments = same_words (disk_of file) (opened.unchanged refl rest).left;
  }

  -- fewer calls are fewer than more
  of_more : (fewer more : ℕ) (after : Memory) → fewer ≤ more → (one : OneFailed fewer (memory_facts disk) (memory_facts after))
      → (other : OneFailed more (memory_facts disk) (memory_facts after)) × (other.well ≡ one.well)
  of_more fewer more after le one = (
    record {
      well = one.well;
      fewer = let lt = one.fewer in omega (arith, lt, le);
      honest = one.honest;
      outcomes = λ honest fits. one.outcomes honest (omega (arith, fits, le));
      faults = one.faults;
      spared = one.spared;
      none_doomed = one.none_doomed;
      plan = one.plan;
    },
    refl,
  )

  came_badly : (number : ℕ) → fails_at ≡ Some number → (after : Memory) → DiskFailed memory_facts disk after → disk.refused ≡ 0 → after.refused ≡ 0 → CameOfBytes bytes words fails_at after
  came_badly number at after failed none_before none =
      let same = calls_as (take MAX_FILE (memory_facts disk).reads) refl in
      let within = failed.within refl in
      let all = of_more failed.calls (open_calls bytes) after (omega (arith, within, same)) failed.made in
      record {
        first = disk;
        reads = reads;
        rest = rest;
        begins = begins;
        ran = subst (λ f. OpeningRan (open_calls bytes) f disk after) (sym at) (all.0, ap (λ n. n + 1) all.1 ∙ sym (failed_there number at after failed none_before none));
        moments = same_words after (failed.unchanged refl rest).left;
      }

  pub failed_so : (after : Memory) → DiskFailed memory_facts disk after → disk.refused ≡ 0 → (new : SimulatedFile) (found : List ℕ) (count slots : ℕ) → found ≡ words → count ≡ places_of bytes
      → IsSome fails_at → after.refused ≡ 0 → HasParts new (Shut after) found (replicate quota KeptEmpty) count (replicate slots 0) true [] → IsReopened bytes quota words fails_at new
  failed_so after failed none_before new found count slots are counted some none parts = by fails_at refl some where
    length_empty : (n : ℕ) → length (replicate n KeptEmpty) ≡ n
    length_empty zero = refl
    length_empty (suc n) = ap suc (length_empty n)

    by : (f : Option ℕ) → fails_at ≡ f → IsSome f → IsReopened bytes quota words fails_at new
    by None at some_so = absurd (let e : false ≡ true = some_so in cc)
    by (Some number) at some_so = record {
      fails = ap (may_fail (open_calls bytes)) at ∙ badly_made number at after failed none_before none;
      count = ap (λ ps. length ps) parts.is_places ∙ length_empty quota;
      has = parts.is_file_places ∙ counted;
      shows = subst (λ f. Represents new (opened_file words f)) (sym at)
          (shows_parts new (Shut after) found (replicate quota KeptEmpty) count (replicate slots 0) true [] (broken (file_of words) []) parts (record {
            same_contents = sym are;
            same_places = λ place lt. sym (none_there quota place);
            same_place_of = λ slot lt. sym (zero_there slots slot);
            same_failed = refl;
            same_doubt = refl;
            stands = (refl, λ image may. subst (λ n. IsFile n found image) (sym counted) (subst (λ ws. IsFile (places_of bytes) ws image) (sym are) (left_file after failed image may)));
          }));
      came = subst (λ d. CameOfBytes bytes words fails_at (disk_under d)) (sym parts.is_device) (came_badly number at after failed none_before none);
    }

  -- how an opening ends that went well, and one that failed
  pub opened_ends : (file : TenantFile Memory) (contents : List ℕ) → IsOpened memory_facts disk file contents → (r : Result SimulatedFile BookFault)
      → MatchResult r (λ book. (fails_at ≡ None) × Represents book (file_of contents) × (quota_of book ≡ quota) × (places_of_file book ≡ length (states_of file)) × (book.device ≡ Open file))
      (λ fault. fault ≡ NotEnabled → IsSomeAnd fails_at (λ number. number < 2 ^ 64))
      → ReopenEnds bytes quota words fails_at r
  opened_ends file contents opened (Ok new) ends =
      let is_read : file_words (memory_facts disk).reads ≡ Some words = ap file_words reads ∙ is in
      record {
        fails = ap (may_fail (open_calls bytes)) ends.0;
        count = ends.2;
        has = ends.3 ∙ places_told file contents opened;
        shows = subst (λ f. Represents new (opened_file words f)) (sym ends.0) (subst (λ ws. Represents new (file_of ws)) (opened_words disk file contents words opened is_read) ends.1);
        came = subst (λ d. CameOfBytes bytes words fails_at (disk_under d)) (sym ends.4) (came_well file contents opened ends.0);
      }
  opened_ends file contents opened (Err NotEnabled) ends = not_failed file contents opened (ends refl)
  opened_ends file contents opened (Err NoMemory) ends = tt

  pub shut_ends : (after : Memory) (fault : OpenFault) → fault ≡ Disk → Fails memory_facts disk fault after → disk.refused ≡ 0 → (found : List ℕ) (count slots : ℕ) → found ≡ words
      → count ≡ places_of bytes
      → (r : Result SimulatedFile BookFault)
      → MatchResult r (λ book. IsSome fails_at × (after.refused ≡ 0) × HasParts book (Shut after) found (replicate quota KeptEmpty) count (replicate slots 0) true []) (λ fault. fault ≡ NoMemory)
      → ReopenEnds bytes quota words fails_at r
  shut_ends after fault at failed none_before found count slots are counted (Ok new) ends =
      failed_so after (subst (λ f. Fails memory_facts disk f after) at failed) none_before new found count slots are counted ends.0 ends.1 ends.2
  shut_ends after fault at failed none_before found count slots are counted (Err NotEnabled) ends = absurd (let e : NotEnabled ≡ NoMemory = ends in cc)
  shut_ends after fault at failed none_before found count slots are counted (Err NoMemory) ends = tt
