-- A crash during a call on a file leaves what the call's contract says, because each of its writes does.
-- Used by: all calls of TenantFile.
use Rattle.std.proofs.Common.{◌≡◌, ◌≢◌, ℕ, ◌+◌, ◌<◌, ◌≤◌, List, [], ◌∷◌, length, drop, Some, None, true, false, IsTrue, slice_index, slice_get, refl, sym, ap, ◌∙◌, inl, inr, arith, subst}
use Rattle.mw_words.specs.declared.jobs.Entry.{Entry}
use Rattle.mw_words.specs.Change.{is_change}
use Rattle.mw_disk.specs.Facts.{Facts, MayLeave}
use Rattle.mw_disk.specs.Runs.{SameBut, Touched, Fits, LeavesOnly}
use Rattle.mw_disk.proofs.RunLaws.{touched_none, touched_wider, same_but_wider, leaves_same, leaves_now, leaves_wider}
use Rattle.mw_record.specs.declared.layout.TheConstants.{BODY_SIZE, COMMITTED}
use Rattle.mw_record.specs.declared.layout.Layout.TheVariants.{Second}
use Rattle.mw_record.specs.Layout.{place_at, patched, body, pairs_of}
use Rattle.mw_record.specs.Records.{Pairs, put_pairs, record_at}
use Rattle.mw_record.proofs.ReadBytes.{get_patched}
use Rattle.mw_record.specs.Contents.{HasWords, HasSecond}
use Rattle.mw_record.proofs.Sound.{second_file}
use Rattle.mw_file.specs.declared.place_states.PlaceState.{PlaceState}
use Rattle.mw_file.specs.declared.place_states.Stage.TheVariants.{Free, Prepared, Sealed}
use Rattle.mw_file.specs.declared.tenant_file.TenantFile.{TenantFile}
use Rattle.mw_file.specs.PlaceStates.{stage_of, writes_of_place, IsStaged, MaySeal}
use Rattle.mw_file.specs.Stores.{PlacedAs, IsWritten, Stores, IsStored, IsDurable}
use Rattle.mw_file.specs.RollForward.{Behind, InRange, CanRoll, IsRolled}
use Rattle.mw_file.specs.File.{disk_of, at_of, words_of as number_of, states_of, has_failed, IsCopy}
use Rattle.mw_file.specs.RecoveryInvariant.{IsFile, IsBeforeOrAfter, RecoversTo, CrashSafe, FirstStays}
use Rattle.mw_file.proofs.Parts.{PartStores, part_stores, part_same, byte_of, long_there, second_stays, stores_stay}
use Rattle.mw_file.proofs.Bytes.{written_same}
use Rattle.mw_file.proofs.PlaceWrites.{still_stored, record_written, others_same, seal_torn, seal_done, cancel_done}
use Rattle.mw_file.proofs.Rolled.{can_roll}
use Rattle.mw_file.proofs.SettledFiles.{settle_done, open_done, tells_one}

-- a file with a second layout is a file of its words
pub is_file : (at words places : ℕ) (contents image : List ℕ) → HasSecond at words places contents image → IsFile places contents image
is_file at words places contents image has = let is = second_file at words places contents image has in record { words_are = is.0; places_are = is.2 }

-- the same fact, if the offset, the words and the states are known by other names
pub durable_as : (f : Facts) (at at2 words words2 : ℕ) (contents contents2 : List ℕ) (states states2 : List PlaceState) → at2 ≡ at → words2 ≡ words → contents2 ≡ contents → states2 ≡ states
    → IsDurable f at words contents states → IsDurable f at2 words2 contents2 states2
durable_as f at at2 words words2 contents contents2 states states2 is_at is_words is_contents is_states durable =
    subst (λ (k : ℕ). IsDurable f k words2 contents2 states2) (sym is_at)
    (subst (λ (n : ℕ). IsDurable f at n contents2 states2) (sym is_words)
    (subst (λ (ws : List ℕ). IsDurable f at words ws states2) (sym is_contents)
    (subst (λ (ss : List PlaceState). IsDurable f at words contents ss) (sym is_states) durable)))

-- a file whose bytes match its states, on a synced disk, recovers to its words, with no change in doubt
pub keeps_well : {D : Type 0} (facts : D → Facts) (new : TenantFile D) (now : List ℕ) → length now ≡ number_of new → IsDurable (facts (disk_of new)) (at_of new) (number_of new) now (states_of new) → RecoversTo facts new now []
keeps_well facts new now count durable =
    let file : IsFile (length (states_of new)) now (facts (disk_of new)).reads = is_file (at_of new) (number_of new) (length (states_of new)) now (facts (disk_of new)).reads durable.stores.has in
    record {
      count = count;
      read = λ sound. file;
      certain = λ sound. refl;
      left = λ image left. inl (subst (IsFile (length (states_of new)) now) (sym (durable.rest image left)) file);
      inside = λ sound. durable;
    }

module _ {D : Type 0} (facts : D → Facts) (old new : TenantFile D) where
  -- a call that met a fault is safe
  pub safe_failed : (before : List ℕ) (change doubt : Pairs) → RecoversTo facts old before doubt → has_failed new ≡ true → number_of new ≡ number_of old → states_of new ≡ states_of old
      → LeavesOnly (facts (disk_of old)) (facts (disk_of new)) (IsBeforeOrAfter (length (states_of old)) before change) → CrashSafe facts old new before change before change
  safe_failed before change doubt was failed number states moments = record {
    moments = moments;
    after = record {
      count = was.count ∙ sym number;
      read = λ sound. absurd (let e : ⊥ = cc (failed, sound) in e);
      certain = λ sound. absurd (let e : ⊥ = cc (failed, sound) in e);
      left = λ image left. subst (λ (s : List PlaceState). IsBeforeOrAfter (length s) before change image) (sym states)
          (leaves_now (facts (disk_of old)) (facts (disk_of new)) moments image left);
      inside = λ sound. absurd (let e : ⊥ = cc (failed, sound) in e);
    };
  }

  -- a call that went well is safe
  pub safe_well : (before : List ℕ) (change : Pairs) (now : List ℕ) → LeavesOnly (facts (disk_of old)) (facts (disk_of new)) (IsBeforeOrAfter (length (states_of old)) before change)
      → length now ≡ number_of new → IsDurable (facts (disk_of new)) (at_of new) (number_of new) now (states_of new) → CrashSafe facts old new before change now []
  safe_well before change now moments count durable = record { moments = moments; after = keeps_well facts new now count durable }

  -- the same, if no change is in doubt under another name
  pub safe_same : (contents : List ℕ) (doubt : Pairs) → doubt ≡ [] → CrashSafe facts old new contents [] contents [] → CrashSafe facts old new contents doubt contents doubt
  safe_same contents doubt certain safe = subst (λ (d : Pairs). CrashSafe facts old new contents d contents d) (sym certain) safe

-- a call that touched nothing is safe
pub safe_untouched : {D : Type 0} (facts : D → Facts) (old : TenantFile D) (contents : List ℕ) (doubt : Pairs) → RecoversTo facts old contents doubt → CrashSafe facts old old contents doubt contents doubt
safe_untouched facts old contents doubt was = record { moments = leaves_same (facts (disk_of old)) (λ c left. was.left c left); after = was }

pub first_untouched : {D : Type 0} (facts : D → Facts) (old : TenantFile D) → FirstStays facts old old
first_untouched facts old honest contents doubt was = touched_none (λ k. at_of old ≤ k) (facts (disk_of old))

-- on a synced disk a crash leaves what a read gives
pub stored_at_rest : (f : Facts) (at words : ℕ) (contents : List ℕ) (states : List PlaceState) → IsDurable f at words contents states → IsStored f at words contents states
stored_at_rest f at words contents states durable = record {
  stores = durable.stores;
  left = λ image left. subst (λ (c : List ℕ). Stores c at words contents states) (sym (durable.rest image left)) durable.stores;
}

-- the disk has all bytes of each place of a file
pub place_fits : (f : Facts) (at words place there n : ℕ) (contents : List ℕ) (states : List PlaceState) → IsStored f at words contents states → place < length states
    → there + n ≤ at + place_at Second words (place + 1) → Fits f (there + n)
place_fits f at words place there n contents states stored lt low = record {
  reads = let l = long_there at words (length states) contents f.reads stored.stores.has in omega (arith, l, lt, low);
  left = λ c left. let l = long_there at words (length states) contents c (stored.left c left).has in omega (arith, l, lt, low);
}

-- the bytes have the record of a prepared place, and a free place is closed
placed_at : (part : List ℕ) (words : ℕ) (contents : List ℕ) (states : List PlaceState) (place : ℕ) → PartStores part words contents states → place < length states → stage_of states place ≡ Prepared
    → IsWritten part words place (writes_of_place states place)
placed_at part words contents states place stores lt is =
    subst (λ s. PlacedAs part words place s (writes_of_place states place)) is (stores.placed place lt)

closed_at : (part : List ℕ) (words : ℕ) (contents : List ℕ) (states : List PlaceState) (place : ℕ) → PartStores part words contents states → place < length states → stage_of states place ≡ Free
    → record_at Second part words place ≡ None
closed_at part words contents states place stores lt is =
    subst (λ s. PlacedAs part words place s (writes_of_place states place)) is (stores.placed place lt)

-- a range of the file that was written, as a range of its second layout
range_behind : (at there x n m : ℕ) (b c : List ℕ) → there ≡ at + x → n ≡ m → SameBut (InRange there n) b c → SameBut (Behind at (InRange x m)) b c
range_behind at there x n m b c is_there size_is same =
    same_but_wider (InRange there n) (Behind at (InRange x m)) b c
    (λ k s. record { from = omega (arith, s.from, is_there); inside = record { from = omega (arith, s.from, is_there); to = omega (arith, s.from, s.to, is_there, size_is) } }) same

pub range_alone : (at there x n : ℕ) (old new : Facts) → there ≡ at + x → Touched (InRange there n) old new → Touched (λ k. at ≤ k) old new
range_alone at there x n old new is_there touched = touched_wider (InRange there n) (λ k. at ≤ k) old new (λ k s. omega (arith, s.from, is_there)) touched

-- the writes of a prepare and of a seal, in bytes of such a file
module _ (b : List ℕ) (at words : ℕ) (contents : List ℕ) (states : List PlaceState) (place : ℕ) (was : Stores b at words contents states) (lt : place < length states) where
  part : PartStores (drop at b) words contents states
  part = part_stores b at words contents states was

  long : at + place_at Second words (length states) ≤ length b
  long = long_there at words (length states) contents b was.has

  -- a prepare wrote a record after a clear commit byte
  module _ (n : ℕ) (size_is : n ≡ BODY_SIZE) (there : ℕ) (is_there : there ≡ at + place_at Second words place + 1) (free : stage_of states place ≡ Free) (c : List ℕ) (same : SameBut (InRange there n) b c) where
    abbrev prepared : ℕ → Type 0
    prepared = InRange (place_at Second words place + 1) BODY_SIZE

    prepare_same : SameBut (Behind at prepared) b c
    prepare_same = range_behind at there (place_at Second words place + 1) n BODY_SIZE b c (omega (arith, is_there)) size_is same

    part_prepared : SameBut prepared (drop at b) (drop at c)
    part_prepared = part_same at prepared b c prepare_same

    shut : record_at Second (drop at b) words place ≡ None
    shut = closed_at (drop at b) words contents states place part lt free

    -- if it is torn in any way, the bytes match the states as before
    pub prepare_stores : Stores c at words contents states
    prepare_stores =
        stores_stay at words contents contents states states b c prepared was prepare_same
        (still_stored (drop at b) (drop at c) words contents states place part lt part_prepared shut free) refl

    -- the record of any other closed place stays
    pub prepare_others : (other : ℕ) (writes : Pairs) → other < length states → other ≢ place → IsWritten (drop at b) words other writes → IsWritten (drop at c) words other writes
    prepare_others other writes within ne written =
        written_same (drop at b) (drop at c) words other writes
        (others_same (drop at b) (drop at c) words contents states place part lt (place_at Second words place + 1) BODY_SIZE (omega arith) (omega arith) part_prepared other within ne) written

    -- if it is whole, the record is in its place
    pub prepare_written : (entries : List Entry) (block : List ℕ) → is_change words entries ≡ true → block ≡ body entries → length block ≡ n → c ≡ patched b there block
        → IsWritten (drop at c) words place (pairs_of entries)
    prepare_written entries block change is_block size bytes =
        let fits : there + n ≤ length b = omega (arith, long, lt, size_is, is_there) in
        record_written (drop at b) (drop at c) words contents states place part lt entries part_prepared shut change
        (λ k l.
        byte_of at c (place_at Second words place + 1 + k)
        ∙ ap (λ bs. slice_index bs (at + (place_at Second words place + 1 + k))) bytes
        ∙ ap (slice_index (patched b there block)) (let e : at + (place_at Second words place + 1 + k) ≡ there + k = omega (arith, is_there) in e)
        ∙ get_patched b there block k (omega (arith, fits)) (omega (arith, l, size, size_is)) ∙ ap (λ bs. slice_index bs k) is_block
        ∙ ap (slice_index (body entries)) (let e : k ≡ 0 + k = omega arith in e))

  -- a seal wrote a commit byte
  module _ (there : ℕ) (is_there : there ≡ at + place_at Second words place) (may : MaySeal states place) (c : List ℕ) (same : SameBut (InRange there 1) b c) where
    abbrev sealed : ℕ → Type 0
    sealed = InRange (place_at Second words place) 1

    seal_same : SameBut (Behind at sealed) b c
    seal_same = range_behind at there (place_at Second words place) 1 1 b c is_there refl same

    part_sealed : SameBut sealed (drop at b) (drop at c)
    part_sealed = part_same at sealed b c seal_same

    was_written : IsWritten (drop at b) words place (writes_of_place states place)
    was_written = placed_at (drop at b) words contents states place part lt may.prepared

    -- if it has any value, the file has the words before or after
    pub seal_either : IsBeforeOrAfter (length states) contents (writes_of_place states place) c
    seal_either =
        let writes : Pairs = writes_of_place states place in
        let is : (after : List ℕ) → HasWords Second words (length states) after (drop at c) → IsFile (length states) after c = λ after has.
        is_file at words (length states) after c (second_stays at words (length states) contents after b c sealed was.has seal_same has) in
        elim (seal_torn (drop at b) (drop at c) words contents states place part lt writes was_written part_sealed may refl) [
          | inl before ↦ inl (is contents before)
          | inr after ↦ inr (is (put_pairs writes contents) after)
        ]

    -- the record of any other closed place stays
    pub seal_others : (other : ℕ) (writes : Pairs) → other < length states → other ≢ place → IsWritten (drop at b) words other writes → IsWritten (drop at c) words other writes
    seal_others other writes within ne written =
        written_same (drop at b) (drop at c) words other writes
        (others_same (drop at b) (drop at c) words contents states place part lt (place_at Second words place) 1 (omega arith) (omega arith) part_sealed other within ne) written

    -- if it is set, the place is sealed
    pub seal_stores : (next : List PlaceState) → c ≡ patched b there (COMMITTED ∷ []) → IsStaged states next place Sealed (writes_of_place states place)
        → Stores c at words (put_pairs (writes_of_place states place) contents) next
    seal_stores next bytes staged =
        let fits : there + 1 ≤ length b = omega (arith, long, lt, is_there) in
        let block : List ℕ = COMMITTED ∷ [] in
        let writes : Pairs = writes_of_place states place in
        stores_stay at words contents (put_pairs writes contents) states next b c sealed was seal_same
        (seal_done (drop at b) (drop at c) words contents states place part lt writes was_written part_sealed next may refl
        (byte_of at c (place_at Second words place) ∙ ap (λ bs. slice_index bs (at + place_at Second words place)) bytes
        ∙ ap (λ k. slice_index (patched b there block) k) (let e : at + place_at Second words place ≡ there + 0 = omega (arith, is_there) in e)
        ∙ get_patched b there block 0 (omega (arith, fits)) (omega arith)) staged) staged.count

module _ (old new : Facts) (at words : ℕ) (contents : List ℕ) (states : List PlaceState) (place : ℕ) (durable : IsDurable old at words contents states) (lt : place < length states) where
  stored : PartStores (drop at old.reads) words contents states
  stored = part_stores old.reads at words contents states durable.stores

  -- a settle rolled one sealed change forward
  module _ (honest : IsTrue old.honest) (s : PlaceState) (item : slice_get states place ≡ Some s) where
    pub settle_can : CanRoll old at words (length states) place (s ∷ []) contents
    settle_can = can_roll old at words (length states) place (s ∷ []) contents honest durable.rest (omega (arith, lt)) (record {
      has = durable.stores.has;
      recorded = (tells_one (drop at old.reads) words contents states place s stored lt item).recorded;
    })

    pub settle_moments : LeavesOnly old new (HasSecond at words (length states) contents) → LeavesOnly old new (IsFile (length states) contents)
    settle_moments moments = leaves_wider old new (is_file at words (length states) contents) moments

    pub settle_durable : (next : List PlaceState) → HasSecond at words (length states) contents new.reads → IsRolled at words place (s ∷ []) old new → stage_of states place ≡ Sealed
        → IsStaged states next place Free (writes_of_place states place) → IsDurable new at words contents next
    settle_durable next has rolled sealed staged = record {
      rest = rolled.rest;
      stores = record {
        has = subst (λ (n : ℕ). HasSecond at words n contents new.reads) (sym staged.count) has;
        placed = (settle_done (drop at old.reads) (drop at new.reads) words contents states next place s (writes_of_place states place) stored lt item sealed
            (part_same at _ old.reads new.reads rolled.same) rolled.shut has.part staged).placed;
      };
    }

-- an opening rolled all open records forward, and every place is free
pub open_durable : (old new : Facts) (at words : ℕ) (contents : List ℕ) (states next : List PlaceState) → Stores old.reads at words contents states → IsRolled at words 0 states old new
    → HasSecond at words (length states) contents new.reads → length next ≡ length states → ((place : ℕ) → stage_of next place ≡ Free) → IsDurable new at words contents next
open_durable old new at words contents states next stores rolled has count free = record {
  rest = rolled.rest;
  stores = record {
    has = subst (λ (n : ℕ). HasSecond at words n contents new.reads) (sym count) has;
    placed = (open_done (drop at old.reads) (drop at new.reads) words contents states next (part_stores old.reads at words contents states stores)
        (part_same at _ old.reads new.reads rolled.same) rolled.shut has.part count free).placed;
  };
}

-- a cancel gave up a change: the bytes match the new states
pub cancel_durable : (f : Facts) (at words : ℕ) (contents : List ℕ) (states next : List PlaceState) (place : ℕ) → IsDurable f at words contents states → place < length states
    → stage_of states place ≡ Prepared → IsStaged states next place Free (writes_of_place states place) → IsDurable f at words contents next
cancel_durable f at words contents states next place durable lt is staged =
    let stored : PartStores (drop at f.reads) words contents states = part_stores f.reads at words contents states durable.stores in
    record {
      rest = durable.rest;
      stores = record {
        has = subst (λ (n : ℕ). HasSecond at words n contents f.reads) (sym staged.count) durable.stores.has;
        placed = (cancel_done (drop at f.reads) words contents states next place (writes_of_place states place) stored staged
            (placed_at (drop at f.reads) words contents states place stored lt is).shut).placed;
      };
    }

-- a cancel gives up a change without a device call, and is safe
pub safe_given_up : {D : Type 0} (facts : D → Facts) (old new : TenantFile D) (place : ℕ) (contents : List ℕ) (doubt : Pairs) → disk_of new ≡ disk_of old → at_of new ≡ at_of old → number_of new ≡ number_of old
    → has_failed new ≡ has_failed old → place < length (states_of old) → stage_of (states_of old) place ≡ Prepared
    → IsStaged (states_of old) (states_of new) place Free (writes_of_place (states_of old) place) → RecoversTo facts old contents doubt → CrashSafe facts old new contents doubt contents doubt
safe_given_up facts old new place contents doubt disk at number failed lt is staged was =
    let was_sound : has_failed new ≡ false → has_failed old ≡ false = λ sound. sym failed ∙ sound in
    record {
      moments = subst (λ d. LeavesOnly (facts (disk_of old)) (facts d) (IsBeforeOrAfter (length (states_of old)) contents doubt)) (sym disk) (safe_untouched facts old contents doubt was).moments;
      after = record {
        count = was.count ∙ sym number;
        read = λ sound. subst (λ n. IsFile n contents (facts (disk_of new)).reads) (sym staged.count)
            (subst (λ d. IsFile (length (states_of old)) contents (facts d).reads) (sym disk) (was.read (was_sound sound)));
        certain = λ sound. was.certain (was_sound sound);
        left = λ image left. subst (λ n. IsBeforeOrAfter n contents doubt image) (sym staged.count) (was.left image (subst (λ d. MayLeave (facts d) image) disk left));
        inside = λ sound.
            let durable = subst (λ d. IsDurable (facts d) (at_of old) (number_of old) contents (states_of old)) (sym disk) (was.inside (was_sound sound)) in
            let next = cancel_durable (facts (disk_of new)) (at_of old) (number_of old) contents (states_of old) (states_of new) place durable lt is staged in
            durable_as (facts (disk_of new)) (at_of old) (at_of new) (number_of old) (number_of new) contents contents (states_of new) (states_of new) at number refl refl next;
      };
    }

-- a copy recovers to what the file recovers to
pub keeps_copy : {D : Type 0} (facts : D → Facts) (old new : TenantFile D) (contents : List ℕ) (doubt : Pairs) → IsCopy old new → RecoversTo facts old contents doubt → RecoversTo facts new contents doubt
keeps_copy facts old new contents doubt copy was =
    let was_sound : has_failed new ≡ false → has_failed old ≡ false = λ sound. sym copy.failed ∙ sound in
    record {
      count = was.count ∙ sym copy.words;
      read = λ sound. subst (λ (s : List PlaceState). IsFile (length s) contents (facts (disk_of new)).reads) (sym copy.states)
          (subst (λ d. IsFile (length (states_of old)) contents (facts d).reads) (sym copy.disk) (was.read (was_sound sound)));
      certain = λ sound. was.certain (was_sound sound);
      left = λ image left. subst (λ (s : List PlaceState). IsBeforeOrAfter (length s) contents doubt image) (sym copy.states)
          (was.left image (subst (λ d. MayLeave (facts d) image) copy.disk left));
      inside = λ sound. durable_as (facts (disk_of new)) (at_of old) (at_of new) (number_of old) (number_of new) contents contents (states_of old) (states_of new) copy.at copy.words refl copy.states
          (subst (λ d. IsDurable (facts d) (at_of old) (number_of old) contents (states_of old)) (sym copy.disk) (was.inside (was_sound sound)));
    }
