-- While records are written into free places, whatever a crash leaves is a file of the same words. After them a seal or a
-- roll forward keeps its promises.
-- Used by: prepare_all, seal_with, settle_all, write_records, sync_records, sync_commit, sync_rolled.
use Rattle.std.proofs.Common.{◌≡◌, ℕ, ◌+◌, ◌<◌, ◌≤◌, Bool, true, List, [], ◌∷◌, ◌++◌, length, drop, take, get_or, IsTrue, All, refl, sym, ap, ◌∙◌, inl, arith, subst}
use Rattle.std.proofs.lemmas.List.{drop_more, drop_all}
use Rattle.std.proofs.lemmas.List.Elements.{All-more, All-take}
use Rattle.mw_words.specs.Change.{is_change}
use Rattle.mw_disk.specs.DeviceCalls.{WriteAt, Makes}
use Rattle.mw_disk.specs.Facts.{Facts, IsSynced, Called, NothingNew, TearsAt, Torn, patched}
use Rattle.mw_disk.specs.Runs.{SameBut, Touched, Fits, LeavesOnly}
use Rattle.mw_disk.proofs.MakesLaws.{Made, makes_one}
use Rattle.mw_disk.proofs.RunLaws.{touched_none, touched_trans, touched_write, touched_quiet, leaves_touched, leaves_same, leaves_more, leaves_wider}
use Rattle.mw_record.specs.declared.layout.TheConstants.{BODY_SIZE, COMMITTED}
use Rattle.mw_record.specs.declared.layout.Layout.TheVariants.{Second}
use Rattle.mw_record.specs.Layout.{place_at, body, pairs_of}
use Rattle.mw_record.specs.Records.{put_pairs}
use Rattle.mw_record.specs.Contents.{HasSecond}
use Rattle.mw_record.proofs.ReadAgain.{length_of_change}
use Rattle.mw_record.proofs.Writes.{length-body}
use Rattle.mw_file.specs.declared.new_changes.NewChange.{NewChange}
use Rattle.mw_file.specs.declared.place_states.PlaceState.{PlaceState}
use Rattle.mw_file.specs.declared.place_states.Stage.TheVariants.{Free, Prepared, Sealed}
use Rattle.mw_file.specs.PlaceStates.{stage_of, writes_of_place, IsStaged, AreFreed, MaySeal}
use Rattle.mw_file.specs.DeviceCalls.{commit_at, record_call, record_calls}
use Rattle.mw_file.specs.Stores.{IsWritten, Stores, IsStored, IsDurable}
use Rattle.mw_file.specs.NewChanges.{MayPrepare, CanPrepare, AreWritten, AreRecorded, IsDurableWith}
use Rattle.mw_file.specs.RollForward.{InRange, Nowhere, CanRoll, IsRolled}
use Rattle.mw_file.specs.RecoveryInvariant.{IsBeforeOrAfter}
use Rattle.mw_file.proofs.NewPlaces.{apart_before}
use Rattle.mw_file.proofs.Parts.{same_all}
use Rattle.mw_file.proofs.Places.{state_there}
use Rattle.mw_file.proofs.Safety.{is_file, stored_at_rest, place_fits, range_alone, prepare_stores, prepare_others, prepare_written, seal_either, seal_others, seal_stores}
use Rattle.mw_file.proofs.SharedSettles.{settle_all_can, settle_all_durable, settle_all_others}

-- the records of changes may be written on a synced disk
pub can_prepare : (f : Facts) (at words : ℕ) (contents : List ℕ) (states : List PlaceState) (changes : List NewChange) → IsTrue f.honest → IsDurable f at words contents states
    → MayPrepare words states changes → CanPrepare f at words contents states changes
can_prepare f at words contents states changes honest durable may = record {
  honest = honest;
  stored = stored_at_rest f at words contents states durable;
  may = may;
}

-- no record was written yet
pub recorded_none : (f : Facts) (at words : ℕ) (contents : List ℕ) (states : List PlaceState) → IsStored f at words contents states → AreRecorded at words contents states f f
recorded_none f at words contents states stored = record {
  stored = stored;
  moments = leaves_same f (λ c left. stored.left c left);
  alone = touched_none (λ k. at ≤ k) f;
}

-- a sync, whether it went well or not
pub recorded_quiet : (start now next : Facts) (ok : Bool) (at words : ℕ) (contents : List ℕ) (states : List PlaceState) → AreRecorded at words contents states start now
    → Called now next ok → NothingNew now next → next.reads ≡ now.reads → AreRecorded at words contents states start next
recorded_quiet start now next ok at words contents states so_far call nothing same = record {
  stored = record {
    stores = subst (λ (c : List ℕ). Stores c at words contents states) (sym same) so_far.stored.stores;
    left = λ c left. so_far.stored.left c (nothing c left);
  };
  moments = leaves_more start now next so_far.moments
      (leaves_touched Nowhere now next (touched_quiet Nowhere now next ok call nothing same)
      (λ d c left is. subst (λ (b : List ℕ). Stores b at words contents states) (sym (same_all d c is)) (so_far.stored.left d left)));
  alone = touched_trans (λ k. at ≤ k) start now next so_far.alone (touched_quiet (λ k. at ≤ k) now next ok call nothing same);
}

-- One record more is written, into a free place.
module _ (start now : Facts) (at words : ℕ) (contents : List ℕ) (states : List PlaceState) (so_far : AreRecorded at words contents states start now)
    (changes : List NewChange) (may : MayPrepare words states changes) (k : ℕ) (lt : k < length changes) (c : NewChange) (is : c ≡ get_or changes k c)
    (next : Facts) (ok : Bool) (block : List ℕ) (is_block : block ≡ body c.entries.items) (there : ℕ) (is_there : there ≡ at + place_at Second words c.place.0 + 1)
    (call : Called now next ok) (tears : TearsAt there (length block) now next) (torn : Torn there (length block) now.reads next.reads) where
  within : c.place.0 < length states
  within = subst (λ (x : NewChange). x.place.0 < length states) (sym is) (may.there k c lt)

  free : stage_of states c.place.0 ≡ Free
  free = subst (λ (x : NewChange). stage_of states x.place.0 ≡ Free) (sym is) (may.free k c lt)

  formed : is_change words c.entries.items ≡ true
  formed = subst (λ (x : NewChange). is_change words x.entries.items ≡ true) (sym is) (may.formed k c lt)

  size : length block ≡ BODY_SIZE
  size = ap length is_block ∙ length-body c.entries.items (length_of_change words c.entries.items formed)

  fits : Fits now (there + length block)
  fits = place_fits now at words c.place.0 there (length block) contents states so_far.stored within (omega (arith, is_there, size))

  touched : Touched (InRange there (length block)) now next
  touched = touched_write (InRange there (length block)) now next ok call there (length block) tears torn (λ i from to. record { from = from; to = to }) fits

  still : (b d : List ℕ) → Stores b at words contents states → SameBut (InRange there (length block)) b d → Stores d at words contents states
  still b d was same = prepare_stores b at words contents states c.place.0 was within (length block) size there is_there free d same

  pub recorded_next : AreRecorded at words contents states start next
  recorded_next = record {
    stored = record {
      stores = still now.reads next.reads so_far.stored.stores touched.seen;
      left = λ d left. let t = touched.each next.moment d touched.later.later (omega arith) left in still t.0 d (so_far.stored.left t.0 t.1) t.2;
    };
    moments = leaves_more start now next so_far.moments
        (leaves_touched (InRange there (length block)) now next touched (λ b d left same. still b d (so_far.stored.left b left) same));
    alone = touched_trans (λ i. at ≤ i) start now next so_far.alone
        (range_alone at there (place_at Second words c.place.0 + 1) (length block) now next (omega (arith, is_there)) touched);
  }

  -- it went well: the records so far are in their places, and this one too
  pub written_next : AreWritten (drop at now.reads) words (take k changes) → (there ≤ length now.reads → next.reads ≡ patched now.reads there block)
      → AreWritten (drop at next.reads) words (take (k + 1) changes)
  written_next written bytes =
      let low : there ≤ length now.reads = omega (arith, fits.reads) in
      let apart = apart_before changes k c may.apart lt is in
      let others : All (λ d. IsWritten (drop at next.reads) words d.place.0 (pairs_of d.entries.items)) (take k changes) = λ j d l.
      let other : NewChange = get_or (take k changes) j d in
      prepare_others now.reads at words contents states c.place.0 so_far.stored.stores within (length block) size there is_there free next.reads touched.seen
      other.place.0 (pairs_of other.entries.items) (All-take (λ x. x.place.0 < length states) k changes may.there j d l) (apart j d l) (written j d l) in
      let here : IsWritten (drop at next.reads) words c.place.0 (pairs_of c.entries.items) =
      prepare_written now.reads at words contents states c.place.0 so_far.stored.stores within (length block) size there is_there free next.reads touched.seen
      c.entries.items block formed is_block refl (bytes low) in
      All-more (λ d. IsWritten (drop at next.reads) words d.place.0 (pairs_of d.entries.items)) changes k c lt others
      (subst (λ (x : NewChange). IsWritten (drop at next.reads) words x.place.0 (pairs_of x.entries.items)) is here)

-- ---- the device calls of the loop

pub records_from : (at words : ℕ) (changes : List NewChange) (k : ℕ) (c : NewChange) → k < length changes → c ≡ get_or changes k c
    → record_calls at words (drop k changes) ≡ (record_call at words c ∷ []) ++ record_calls at words (drop (k + 1) changes)
records_from at words changes k c lt is =
    ap (λ (l : List NewChange). record_calls at words l) (drop_more changes k c lt)
    ∙ ap (λ (x : NewChange). record_call at words x ∷ record_calls at words (drop (k + 1) changes)) (sym is)

pub no_records : (at words : ℕ) (changes : List NewChange) (k : ℕ) → length changes ≤ k → record_calls at words (drop k changes) ≡ []
no_records at words changes k past = ap (λ (l : List NewChange). record_calls at words l) (drop_all k changes past)

-- one record was written
pub one_record : {D : Type 0} (made : Made D) (at words : ℕ) (c : NewChange) (offset : ℕ) (block : List ℕ) (well : Bool) (old new : D)
    → offset ≡ commit_at at words c.place.0 + 1 → block ≡ body c.entries.items → made (WriteAt offset block) well old new → Makes made (record_call at words c ∷ []) well old new
one_record made at words c offset block well old new is_at is_block call =
    makes_one made (record_call at words c) well old new
    (subst (λ (n : ℕ). made (WriteAt n (body c.entries.items)) well old new) is_at
    (subst (λ (l : List ℕ). made (WriteAt offset l) well old new) is_block call))

-- ---- what follows the records, from what they left

module _ (start mid new : Facts) (at words : ℕ) (contents : List ℕ) (states : List PlaceState) (ahead : List NewChange) (can : CanPrepare start at words contents states ahead)
    (so_far : AreRecorded at words contents states start mid) where
  -- a sync made them durable
  pub synced_with : (ok : Bool) → Called mid new ok → NothingNew mid new → new.reads ≡ mid.reads → IsSynced new → AreWritten (drop at mid.reads) words ahead
      → IsDurableWith new at words contents states ahead
  synced_with ok call nothing same rest written = record {
    durable = record { rest = rest; stores = (recorded_quiet start mid new ok at words contents states so_far call nothing same).stored.stores };
    written = subst (λ (c : List ℕ). AreWritten (drop at c) words ahead) (sym same) written;
  }

  -- a commit byte was written
  module _ (place : ℕ) (may : MaySeal states place) (there : ℕ) (is_there : there ≡ at + place_at Second words place) where
    sealing : place < length states
    sealing = state_there states place Prepared may.prepared (λ e. cc)

    pub commit_fits : Fits mid (there + 1)
    commit_fits = place_fits mid at words place there 1 contents states so_far.stored sealing (omega (arith, is_there))

    module _ (touched : Touched (InRange there 1) mid new) where
      pub commit_moments : LeavesOnly start new (IsBeforeOrAfter (length states) contents (writes_of_place states place))
      commit_moments =
          leaves_more start mid new (leaves_wider start mid (λ c is. inl (is_file at words (length states) contents c is.has)) so_far.moments)
          (leaves_touched (InRange there 1) mid new touched
          (λ b c left same. seal_either b at words contents states place (so_far.stored.left b left) sealing there is_there may c same))

      pub commit_alone : Touched (λ k. at ≤ k) start new
      commit_alone = touched_trans (λ k. at ≤ k) start mid new so_far.alone (range_alone at there (place_at Second words place) 1 mid new is_there touched)

      pub committed_with : (next : List PlaceState) → IsSynced new → (there ≤ length mid.reads → new.reads ≡ patched mid.reads there (COMMITTED ∷ []))
          → AreWritten (drop at mid.reads) words ahead → IsStaged states next place Sealed (writes_of_place states place)
          → IsDurableWith new at words (put_pairs (writes_of_place states place) contents) next ahead
      committed_with next rest bytes written staged = record {
        durable = record {
          rest = rest;
          stores = seal_stores mid.reads at words contents states place so_far.stored.stores sealing there is_there may new.reads touched.seen next
              (bytes (omega (arith, commit_fits.reads))) staged;
        };
        written = λ j d l.
            let other : NewChange = get_or ahead j d in
            seal_others mid.reads at words contents states place so_far.stored.stores sealing there is_there may new.reads touched.seen other.place.0 (pairs_of other.entries.items)
            (can.may.there j d l)
            (λ e. let f : Free ≡ Prepared = sym (can.may.free j d l) ∙ ap (stage_of states) e ∙ may.prepared in absurd (cc))
            (written j d l);
      }

  -- the sealed places were rolled forward
  pub roll_can : IsTrue mid.honest → CanRoll mid at words (length states) 0 states contents
  roll_can honest = settle_all_can mid at words contents states so_far.stored honest

  pub roll_moments : LeavesOnly mid new (HasSecond at words (length states) contents) → LeavesOnly start new (HasSecond at words (length states) contents)
  roll_moments moments = leaves_more start mid new (leaves_wider start mid (λ c is. is.has) so_far.moments) moments

  pub roll_alone : Touched (λ k. at ≤ k) mid new → Touched (λ k. at ≤ k) start new
  roll_alone touched = touched_trans (λ k. at ≤ k) start mid new so_far.alone touched

  pub rolled_with : (next : List PlaceState) → HasSecond at words (length states) contents new.reads → IsRolled at words 0 states mid new → AreWritten (drop at mid.reads) words ahead
      → AreFreed states next → IsDurableWith new at words contents next ahead
  rolled_with next has rolled written are = record {
    durable = settle_all_durable mid at words contents states so_far.stored new next has rolled are;
    written = λ j d l.
        let other : NewChange = get_or ahead j d in
        settle_all_others mid at words contents states so_far.stored new other.place.0 (pairs_of other.entries.items) rolled (can.may.there j d l) (can.may.free j d l) (written j d l);
  }
