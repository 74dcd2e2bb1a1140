-- If a change that was prepared ahead is given up in the lowest vacant place, the book represents the same files, and that
-- place is the lowest vacant one still.
-- Used by: Book::make_room.
use Rattle.std.proofs.Common.{◌≡◌, ◌≢◌, ℕ, ◌<◌, ◌≤◌, ◌+◌, ◌==◌, ◌&&◌, not, true, false, List, length, Some, None, is_some, get_or, slice_set, IsTrue, refl, sym, ap, subst, ◌∙◌, inl, inr, arith}
use Rattle.std.proofs.lemmas.Bool.{cases_eq, cond-true, eq-eqb, ne_eqb}
use Rattle.std.proofs.lemmas.List.{get_or-set_same, get_or-set_other}
use Rattle.mw_words.specs.declared.limits.TheConstants.{MAX_PLACES}
use Rattle.mw_words.specs.declared.jobs.Entry.{Entry}
use Rattle.mw_disk.specs.Facts.{Facts}
use Rattle.mw_record.specs.Records.{Pairs}
use Rattle.mw_record.specs.Layout.{pairs_of}
use Rattle.mw_file.specs.declared.place_states.Stage.TheVariants.{Free as FreeStage}
use Rattle.mw_file.specs.declared.tenant_file.TenantFile.{TenantFile}
use Rattle.mw_file.specs.File.{disk_of, states_of}
use Rattle.mw_file.specs.PlaceStates.{stage_of, writes_of_place, IsStaged}
use Rattle.mw_file.specs.RecoveryInvariant.{ContentsStay}
use Rattle.mw_book.specs.declared.book.Book.{Book}
use Rattle.mw_book.specs.declared.place_table.PlaceTable.{PlaceTable}
use Rattle.mw_book.specs.OpenFile.{states_in, disk_in}
use Rattle.mw_book.specs.Permits.{HasPlace, is_left, is_vacant, vacant_place}
use Rattle.mw_book.specs.PreparedAhead.{are_writes_of, has_written, is_for, is_written}
use Rattle.mw_book.specs.RecordsAhead.{any_below, count_below, free_places, has_but, is_free, place_needed}
use Rattle.mw_book.specs.Representation.{HasParts, is_prepared_ahead, is_settled, place_in_file, stage_in_file, writes_in_file}
use Rattle.mw_book.specs.SameFiles.{HasMadeRoom, RepresentsSame}
use Rattle.mw_book.proofs.CountedPlaces.{count_more, count_none}
use Rattle.mw_book.proofs.FoundPlaces.{vacant_alike, vacant_plain, vacant_so}
use Rattle.mw_book.proofs.RecordsAhead.{any_same, but_fewer, free_parts, has_parts, not_written}
use Rattle.mw_book.proofs.RepresentedFiles.{keeps_in, placed_in, shows_parts, there_held}
use Rattle.mw_book.proofs.StagedPlaces.{placed_without, staged_by}

-- the table without the change that was prepared ahead in a place
abbrev pub without : PlaceTable → ℕ → PlaceTable
without table place = record table { ahead_for = slice_set table.ahead_for place None }

module _ {D : Type 0} (facts : D → Facts) (old : Book D) (held now : TenantFile D) (is_old : old.held ≡ Some held) (place : ℕ) (w : Pairs) (is : place ≡ vacant_place (states_of held) old.table old.places)
    (room : HasPlace (states_of held) old.table old.places) (long : length old.table.ahead_for ≡ MAX_PLACES) (ahead : is_prepared_ahead old.table place ≡ true)
    (staged : IsStaged (states_of held) (states_of now) (place_in_file old.table place) FreeStage w) where
  pub low : place < old.places
  low = let lt = room in omega (arith, is, lt)

  within : place < length old.table.ahead_for
  within = let most = there_held facts old held is_old in let few = held.few in let lt = low in omega (arith, lt, most, few, long)

  gone : is_prepared_ahead (without old.table place) place ≡ false
  gone = ap is_some (get_or-set_same old.table.ahead_for place None None within)

  kept : (k : ℕ) → k ≢ place → is_prepared_ahead (without old.table place) k ≡ is_prepared_ahead old.table k
  kept k apart = ap is_some (get_or-set_other old.table.ahead_for place k None None apart)

  plain : is_settled old.table place ≡ false
  plain = ap (is_settled old.table) is ∙ vacant_plain (states_of held) old.table old.places room

  was_so : is_vacant (states_of held) old.table place ≡ true
  was_so = ap (is_vacant (states_of held) old.table) is ∙ vacant_so (states_of held) old.table old.places room

  is_so : is_vacant (states_of now) (without old.table place) place ≡ true
  is_so =
      ap (λ b. is_left b (stage_in_file (states_of now) old.table place) && not (is_settled old.table place)) gone
      ∙ ap (λ s. is_left false s && not (is_settled old.table place)) staged.stage_here ∙ ap not plain

  same_vacant : (k : ℕ) → k < old.places → is_vacant (states_of now) (without old.table place) k ≡ is_vacant (states_of held) old.table k
  same_vacant k lt = elim (cases_eq k place) [
    | inl here ↦ ap (is_vacant (states_of now) (without old.table place)) here ∙ is_so ∙ sym (ap (is_vacant (states_of held) old.table) here ∙ was_so)
    | inr apart ↦
        ap (λ b. is_left b (stage_in_file (states_of now) old.table k) && not (is_settled old.table k)) (kept k apart)
        ∙ ap (λ s. is_left (is_prepared_ahead old.table k) s && not (is_settled old.table k)) (staged.stage_there (place_in_file old.table k) (λ same. apart (old.permuted.apart k place lt low same)))
  ]

  pub still_lowest : place ≡ vacant_place (states_of now) (without old.table place) old.places
  still_lowest = is ∙ sym (vacant_alike (states_of held) (states_of now) old.table (without old.table place) 0 old.places (λ k lt. same_vacant k (omega (arith, lt))))

  pub still_room : HasPlace (states_of now) (without old.table place) old.places
  still_room = let lt = low in let at = still_lowest in omega (arith, at, lt)

  -- The same changes are prepared ahead as before, but for the one that was given up.
  module _ (slot : ℕ) (entries : List Entry) where
    one_written : (k : ℕ) → k < old.places → is_written (states_of now) (without old.table place) slot entries k ≡ (not (k == place) && is_written (states_of held) old.table slot entries k)
    one_written k lt = elim (cases_eq k place) [
      | inl here ↦
          not_written (states_of now) (without old.table place) slot entries k (ap (is_prepared_ahead (without old.table place)) here ∙ gone)
          ∙ sym (ap (λ b. not b && is_written (states_of held) old.table slot entries k) (eq-eqb k place here))
      | inr apart ↦
          ap (λ found. is_for found slot && are_writes_of (writes_in_file (states_of now) old.table k) entries) (get_or-set_other old.table.ahead_for place k None None apart)
          ∙ ap (λ ws. is_for (get_or old.table.ahead_for k None) slot && are_writes_of ws entries)
          (staged.writes_there (place_in_file old.table k) (λ same. apart (old.permuted.apart k place lt low same)))
          ∙ sym (ap (λ b. not b && is_written (states_of held) old.table slot entries k) (ne_eqb k place apart))
    ]

    given_has : any_below (is_written (states_of now) (without old.table place) slot entries) old.places ≡ any_below (λ k. not (k == place) && is_written (states_of held) old.table slot entries k) old.places
    given_has = any_same (is_written (states_of now) (without old.table place) slot entries) (λ k. not (k == place) && is_written (states_of held) old.table slot entries k) old.places one_written

  -- no place was free, and just this one is
  module _ (none : (k : ℕ) → 0 ≤ k → k < old.places → is_free (states_of held) old.table k ≡ false) (new : Book D) (parts : HasParts new (Some now) old.words old.places old.place_of (without old.table place) old.has_failed) where
    none_free : free_places old ≡ 0
    none_free = ap (λ h. count_below (is_free (states_in h) old.table) old.places) is_old ∙ count_none (is_free (states_of held) old.table) old.places (λ k lt. none k (omega arith) lt)

    one_free : count_below (is_free (states_of now) (without old.table place)) old.places ≡ count_below (is_free (states_of held) old.table) old.places + 1
    one_free =
        count_more (is_free (states_of held) old.table) (is_free (states_of now) (without old.table place)) old.places place low (none place (omega arith) low)
        (ap (λ b. b && not (is_prepared_ahead (without old.table place) place)) is_so ∙ ap not gone)
        (λ k lt apart. ap (λ b. b && not (is_prepared_ahead (without old.table place) k)) (same_vacant k lt) ∙ ap (λ b. is_vacant (states_of held) old.table k && not b) (kept k apart))

    given_kept : (slot : ℕ) (entries : List Entry) → has_written new slot entries ≡ has_but old (place_needed old) slot entries
    given_kept slot entries =
        has_parts new (Some now) old.words old.places old.place_of (without old.table place) old.has_failed parts slot entries ∙ given_has slot entries
        ∙ ap (λ h. any_below (λ k. not (k == place) && is_written (states_in h) old.table slot entries k) old.places) (sym is_old)
        ∙ ap (λ n. has_but old n slot entries)
        (is ∙ ap (λ h. vacant_place (states_in h) old.table old.places) (sym is_old)
        ∙ sym (cond-true (free_places old == 0) (vacant_place (states_in old.held) old.table old.places) old.places (eq-eqb (free_places old) 0 none_free)))

    just_one : free_places new ≡ 1
    just_one =
        let now_free : free_places new ≡ count_below (is_free (states_of now) (without old.table place)) old.places = free_parts new (Some now) old.words old.places old.place_of (without old.table place) old.has_failed parts in
        let was : free_places old ≡ count_below (is_free (states_of held) old.table) old.places = ap (λ h. count_below (is_free (states_in h) old.table) old.places) is_old in
        let more = one_free in
        let zero_was = none_free in
        omega (arith, now_free, was, more, zero_was)

    pub given_room : HasMadeRoom old new
    given_room = record {
      kept = given_kept;
      left = (let one = just_one in let zero_was = none_free in omega (arith, one, zero_was));
      fewer = λ slot entries none. given_kept slot entries ∙ but_fewer old (place_needed old) slot entries none;
      some = (let one = just_one in omega (arith, one));
    }

  pub represents_same : (new : Book D) → HasParts new (Some now) old.words old.places old.place_of (without old.table place) old.has_failed → disk_of now ≡ disk_of held → ContentsStay facts held now → RepresentsSame facts old new
  represents_same new parts same safe = record {
    shows = λ file shows. shows_parts facts new (Some now) old.words old.places old.place_of (without old.table place) old.has_failed file parts (record {
      same_words = shows.same_words;
      same_places =
          placed_without (states_of held) (stage_of (states_of now)) (writes_of_place (states_of now)) old.table old.places place file.places FreeStage w (placed_in facts old held is_old file shows) old.permuted
          (staged_by (states_of held) (states_of now) (place_in_file old.table place) FreeStage w staged) low
          (slice_set old.table.ahead_for place None) refl ahead gone kept;
      same_place_of = shows.same_place_of;
      same_failed = shows.same_failed;
      stands = λ honest.
          let before : IsTrue (facts (disk_of held)).honest = subst (λ d. IsTrue (facts d).honest) same honest in
          (safe before file.contents (pairs_of file.doubt) (keeps_in facts old held is_old file shows before)).after;
    });
    disk = ap disk_in parts.is_held ∙ ap Some same ∙ sym (ap disk_in is_old);
    words = parts.is_words;
    places = parts.is_places;
    settled = ap (λ (t : PlaceTable). t.settled) parts.is_table;
    failed = parts.is_failed;
  }
