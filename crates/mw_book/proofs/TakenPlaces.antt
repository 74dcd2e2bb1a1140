-- If a place takes the record that was prepared ahead in another one, each place still has its own place of the file, and all
-- places match.
-- Used by: Book::take_written.
use Rattle.std.proofs.Common.{◌≡◌, ◌≢◌, ℕ, ◌+◌, ◌==◌, ◌<◌, ◌≤◌, ◌&&◌, ◌||◌, not, Bool, true, false, List, [], length, None, is_some, get_or, slice_set, refl, sym, ap, subst, ◌∙◌, inl, inr, arith}
use Rattle.std.specs.Cmp.{both_ways}
use Rattle.std.proofs.lemmas.Bool.{and_parts, cases_eq, cond-true, cond-false, eq-eqb, lt-ltb, ne_eqb}
use Rattle.std.proofs.lemmas.List.{get_or-set_same, get_or-set_other, length-set}
use Rattle.mw_words.specs.declared.limits.TheConstants.{MAX_POOL}
use Rattle.mw_words.specs.declared.jobs.Entry.{Entry}
use Rattle.mw_look.specs.declared.steps.Call.TheVariants.{Prepare as PrepareCall, Cancel as CancelCall}
use Rattle.mw_disk.specs.Facts.{Facts}
use Rattle.mw_disk.specs.Runs.{Good, Later}
use Rattle.mw_disk.proofs.RunLaws.{later_refl, good_none}
use Rattle.mw_record.specs.Layout.{pairs_of}
use Rattle.mw_file.specs.declared.place_states.PlaceState.{PlaceState}
use Rattle.mw_file.specs.PlaceStates.{stage_of, writes_of_place}
use Rattle.mw_world.specs.Files.Calls.{place_for}
use Rattle.mw_world.specs.Files.Stages.{stage_told}
use Rattle.mw_world.specs.Files.State.{File, Place, Prepared, is_empty, is_sealed, entries_at, entries_in, prepared}
use Rattle.mw_world.specs.Maps.{upd}
use Rattle.mw_world.proofs.MapLaws.{set_number, upd_here, upd_there}
use Rattle.mw_book.specs.declared.answers.Filed.TheVariants.{Made}
use Rattle.mw_book.specs.declared.book.Book.{Book}
use Rattle.mw_book.specs.declared.place_table.PlaceTable.{PlaceTable}
use Rattle.mw_book.specs.declared.waiting.Waiting.{Waiting}
use Rattle.mw_book.specs.Answers.{NoFault}
use Rattle.mw_book.specs.CallOutcome.{IsFiled}
use Rattle.mw_book.specs.Crashes.{LeavesEither}
use Rattle.mw_book.specs.Ends.{prepare_calls}
use Rattle.mw_book.specs.FilePlaces.{place_in, IsPermutation}
use Rattle.mw_book.specs.OpenFile.{states_in, disk_in, OnDisk}
use Rattle.mw_book.specs.Permits.{HasPlace, is_vacant, vacant_place}
use Rattle.mw_book.specs.PreparedAhead.{are_writes_of, has_written, is_for, is_written, written_place}
use Rattle.mw_book.specs.RecordsAhead.{any_below, first_ready, has_but, is_among, makes_calls, place_lost, place_needed, places_left, written_by}
use Rattle.mw_book.specs.Representation.{ArePlaced, HasParts, Represents, is_prepared_ahead, is_settled, place_in_file, stage_held, stage_in_file, writes_in_file}
use Rattle.mw_book.specs.TakenPlaces.{taken}
use Rattle.mw_book.proofs.CountedPlaces.{Passes, any_by, any_there}
use Rattle.mw_book.proofs.FilePlaces.{IsAt, used_at, used_by}
use Rattle.mw_book.proofs.FoundPlaces.{found_at, vacant_plain, vacant_so, vacant_told}
use Rattle.mw_book.proofs.PlacesAhead.{held_plain, open_empty, plain_open, told_empty}
use Rattle.mw_book.proofs.RecordsAhead.{has_parts, none_by, not_written, or_none}
use Rattle.mw_book.proofs.RepresentedFiles.{on_same, shows_parts, untouched}
use Rattle.mw_book.proofs.WrittenPlaces.{written_ahead, written_there, written_writes}

-- empty places are held alike
held_empty : (ahead : Bool) (p q : Place) → is_empty p ≡ true → is_empty q ≡ true → stage_held false ahead p ≡ stage_held false ahead q
held_empty true p q one other = refl
held_empty false p q one other = told_empty p one ∙ sym (told_empty q other)

module _ (table : PlaceTable) (place written : ℕ) (low : place < length table.file_place) (lower : written < length table.file_place) (wide : length table.ahead_for ≡ length table.file_place) where
  abbrev now : PlaceTable
  now = taken table place written

  -- the places of the file
  pub place_now : place_in_file now place ≡ place_in_file table written
  place_now = elim (cases_eq place written) [
    | inl same ↦
        ap (place_in now.file_place) same ∙ get_or-set_same (slice_set table.file_place place (place_in_file table written)) written (place_in_file table place) written (omega (arith, lower, longer))
        ∙ ap (place_in_file table) same
    | inr apart ↦
        get_or-set_other (slice_set table.file_place place (place_in_file table written)) written place (place_in_file table place) place apart
        ∙ get_or-set_same table.file_place place (place_in_file table written) place low
  ] where
    longer : length (slice_set table.file_place place (place_in_file table written)) ≡ length table.file_place
    longer = length-set table.file_place place (place_in_file table written)

  pub written_now : place_in_file now written ≡ place_in_file table place
  written_now = get_or-set_same (slice_set table.file_place place (place_in_file table written)) written (place_in_file table place) written (omega (arith, lower, longer)) where
    longer : length (slice_set table.file_place place (place_in_file table written)) ≡ length table.file_place
    longer = length-set table.file_place place (place_in_file table written)

  pub others_now : (k : ℕ) → k ≢ place → k ≢ written → place_in_file now k ≡ place_in_file table k
  others_now k apart other =
      get_or-set_other (slice_set table.file_place place (place_in_file table written)) written k (place_in_file table place) k other
      ∙ get_or-set_other table.file_place place k (place_in_file table written) k apart

  -- what is prepared ahead
  pub own_now : is_prepared_ahead now place ≡ false
  own_now = ap is_some (get_or-set_same (slice_set table.ahead_for written (get_or table.ahead_for place None)) place None None (omega (arith, low, longer, wide))) where
    longer : length (slice_set table.ahead_for written (get_or table.ahead_for place None)) ≡ length table.ahead_for
    longer = length-set table.ahead_for written (get_or table.ahead_for place None)

  pub ahead_now : written ≢ place → is_prepared_ahead now written ≡ is_prepared_ahead table place
  ahead_now apart =
      ap is_some (get_or-set_other (slice_set table.ahead_for written (get_or table.ahead_for place None)) place written None None apart
      ∙ get_or-set_same table.ahead_for written (get_or table.ahead_for place None) None (omega (arith, lower, wide)))

  pub aheads_now : (k : ℕ) → k ≢ place → k ≢ written → is_prepared_ahead now k ≡ is_prepared_ahead table k
  aheads_now k apart other =
      ap is_some (get_or-set_other (slice_set table.ahead_for written (get_or table.ahead_for place None)) place k None None apart
      ∙ get_or-set_other table.ahead_for written k (get_or table.ahead_for place None) None other)

  -- the slots that are told of what is prepared ahead
  told_now : written ≢ place → get_or now.ahead_for written None ≡ get_or table.ahead_for place None
  told_now apart =
      get_or-set_other (slice_set table.ahead_for written (get_or table.ahead_for place None)) place written None None apart
      ∙ get_or-set_same table.ahead_for written (get_or table.ahead_for place None) None (omega (arith, lower, wide))

  tells_now : (k : ℕ) → k ≢ place → k ≢ written → get_or now.ahead_for k None ≡ get_or table.ahead_for k None
  tells_now k apart other =
      get_or-set_other (slice_set table.ahead_for written (get_or table.ahead_for place None)) place k None None apart
      ∙ get_or-set_other table.ahead_for written k (get_or table.ahead_for place None) None other

  module _ (places : ℕ) (permuted : IsPermutation table.file_place places) (used : place < places) (also : written < places) where
    -- The same changes are prepared ahead as before, but for the one that is taken.
    module _ (states : List PlaceState) (slot : ℕ) (entries : List Entry) where
      there_written : written ≢ place → is_written states now slot entries written ≡ is_written states table slot entries place
      there_written apart =
          ap (λ found. is_for found slot && are_writes_of (writes_in_file states now written) entries) (told_now apart)
          ∙ ap (λ n. is_for (get_or table.ahead_for place None) slot && are_writes_of (writes_of_place states n) entries) written_now

      else_written : (k : ℕ) → k ≢ place → k ≢ written → is_written states now slot entries k ≡ is_written states table slot entries k
      else_written k apart other =
          ap (λ found. is_for found slot && are_writes_of (writes_in_file states now k) entries) (tells_now k apart other)
          ∙ ap (λ n. is_for (get_or table.ahead_for k None) slot && are_writes_of (writes_of_place states n) entries) (others_now k apart other)

      none_here : (k : ℕ) → k ≡ place → is_written states now slot entries k ≡ false
      none_here k here = ap (is_written states now slot entries) here ∙ not_written states now slot entries place own_now

      kept_there : (k : ℕ) → k ≢ written → is_written states table slot entries k ≡ true → (not (k == written) && is_written states table slot entries k) ≡ true
      kept_there k apart has = ap (λ b. not b && is_written states table slot entries k) (ne_eqb k written apart) ∙ has

      was_there : Passes (is_written states now slot entries) places → any_below (λ k. not (k == written) && is_written states table slot entries k) places ≡ true
      was_there one = elim (cases_eq one.number place) [
        | inl here ↦ absurd (let e : true ≡ false = sym one.so ∙ none_here one.number here in cc)
        | inr apart ↦ elim (cases_eq one.number written) [
          | inl there ↦
              let off : written ≢ place = λ same. apart (there ∙ same) in
              any_by (λ k. not (k == written) && is_written states table slot entries k) places place used
              (kept_there place (λ same. off (sym same)) (sym (there_written off) ∙ sym (ap (is_written states now slot entries) there) ∙ one.so))
          | inr other ↦
              any_by (λ k. not (k == written) && is_written states table slot entries k) places one.number one.low (kept_there one.number other (sym (else_written one.number apart other) ∙ one.so))
        ]
      ]

      is_there : Passes (λ k. not (k == written) && is_written states table slot entries k) places → any_below (is_written states now slot entries) places ≡ true
      is_there one =
          let two = and_parts (not (one.number == written)) (is_written states table slot entries one.number) one.so in
          let other : one.number ≢ written = λ same. let e : false ≡ true = sym (ap not (eq-eqb one.number written same)) ∙ two.0 in cc in
          elim (cases_eq one.number place) [
            | inl here ↦
                any_by (is_written states now slot entries) places written also
                (there_written (λ same. other (here ∙ sym same)) ∙ sym (ap (is_written states table slot entries) here) ∙ two.1)
            | inr apart ↦ any_by (is_written states now slot entries) places one.number one.low (else_written one.number apart other ∙ two.1)
          ]

      pub taken_has : any_below (is_written states (taken table place written) slot entries) places ≡ any_below (λ k. not (k == written) && is_written states table slot entries k) places
      taken_has =
          both_ways (any_below (is_written states now slot entries) places) (any_below (λ k. not (k == written) && is_written states table slot entries k) places)
          (λ is. was_there (any_there (is_written states now slot entries) places is))
          (λ is. is_there (any_there (λ k. not (k == written) && is_written states table slot entries k) places is))

    -- the place that had this place of the file, before the change and after it
    record Had (k : ℕ) : Type 0 where
      was : ℕ
      within : was < places
      at : place_in_file now k ≡ place_in_file table was
      back : place_in_file now was ≡ place_in_file table k
      once : (other : ℕ) → other < places → place_in_file now other ≡ place_in_file now k → other ≡ k

    had_by : (k was : ℕ) → was < places → place_in_file now k ≡ place_in_file table was → place_in_file now was ≡ place_in_file table k → ((other : ℕ) → other < places → place_in_file now other ≡ place_in_file table was → other ≡ k) → Had k
    had_by k was within at back once = record { was = was; within = within; at = at; back = back; once = λ other lt same. once other lt (same ∙ at) }

    -- which place has this place of the file now
    only : (k was other : ℕ) → was < places → other < places → place_in_file now other ≡ place_in_file table was → (other ≡ place → was ≡ written) × ((other ≡ written → was ≡ place) × (other ≢ place → other ≢ written → was ≡ other))
    only k was other within lt same = (
      λ is. sym (permuted.apart written was also within (sym place_now ∙ ap (place_in_file now) (sym is) ∙ same)),
      (
        (λ is. sym (permuted.apart place was used within (sym written_now ∙ ap (place_in_file now) (sym is) ∙ same))),
        (λ off never. sym (permuted.apart other was lt within (sym (others_now other off never) ∙ same))),
      ),
    )

    had : (k : ℕ) → k < places → Had k
    had k lt = elim (cases_eq k place) [
      | inl here ↦ had_by k written also (ap (place_in_file now) here ∙ place_now) (written_now ∙ ap (place_in_file table) (sym here)) (λ other less same. elim (cases_eq other place) [
        | inl is ↦ is ∙ sym here
        | inr off ↦ elim (cases_eq other written) [
          | inl is ↦ is ∙ (only k written other also less same).1.0 is ∙ sym here
          | inr never ↦ absurd (never (sym ((only k written other also less same).1.1 off never)))
        ]
      ])
      | inr apart ↦ elim (cases_eq k written) [
        | inl there ↦ had_by k place used (ap (place_in_file now) there ∙ written_now) (place_now ∙ ap (place_in_file table) (sym there)) (λ other less same. elim (cases_eq other place) [
          | inl is ↦ is ∙ (only k place other used less same).0 is ∙ sym there
          | inr off ↦ elim (cases_eq other written) [
            | inl is ↦ is ∙ sym there
            | inr never ↦ absurd (off (sym ((only k place other used less same).1.1 off never)))
          ]
        ])
        | inr other ↦ had_by k k lt (others_now k apart other) (others_now k apart other) (λ one less same. elim (cases_eq one place) [
          | inl is ↦ absurd (other ((only k k one lt less same).0 is))
          | inr off ↦ elim (cases_eq one written) [
            | inl is ↦ absurd (apart ((only k k one lt less same).1.0 is))
            | inr never ↦ sym ((only k k one lt less same).1.1 off never)
          ]
        ])
      ]
    ]

    -- the table still permutes the used places
    pub taken_permutes : IsPermutation (taken table place written).file_place places
    taken_permutes = record {
      within = λ k lt. let one = had k lt in let less = permuted.within one.was one.within in let at = one.at in omega (arith, less, at);
      apart = λ one other lt less same. (had other less).once one lt same;
      onto = λ number lt.
          let there : IsAt table.file_place places number = used_at table.file_place places number (permuted.onto number lt) in
          let one : Had there.place = had there.place there.low in
          used_by now.file_place places number one.was one.within (one.back ∙ there.at);
      past = λ k le. others_now k (λ same. omega (arith, same, used, le)) (λ same. omega (arith, same, also, le)) ∙ permuted.past k le;
    }

    -- the place has the change of the record that it took
    module _ (states : List PlaceState) (at : ℕ → Place) (entries : List Entry) (placed : ArePlaced states table places at) (empty : is_empty (at place) ≡ true) (plain : is_settled table place ≡ false)
        (ahead : is_prepared_ahead table written ≡ true) (writes : writes_in_file states table written ≡ pairs_of entries) where
      empty_there : is_empty (at written) ≡ true
      empty_there = placed.empty_ahead written also ahead

      plain_there : is_settled table written ≡ false
      plain_there = plain_open states table places at placed written also (open_empty (at written) empty_there)

      stage_here : (k : ℕ) → k ≡ place → stage_in_file states now k ≡ stage_held (is_settled now k) (is_prepared_ahead now k) (upd at place (Prepared entries) k)
      stage_here k here =
          ap (stage_of states) (ap (place_in_file now) here ∙ place_now) ∙ placed.stages written also
          ∙ ap (λ b. stage_held b (is_prepared_ahead table written) (at written)) plain_there ∙ ap (λ b. stage_held false b (at written)) ahead
          ∙ sym (ap stage_told (upd_here at place k (Prepared entries) here))
          ∙ sym (held_plain (is_settled now k) (is_prepared_ahead now k) (upd at place (Prepared entries) k) (ap (is_settled table) here ∙ plain) (ap (is_prepared_ahead now) here ∙ own_now))

      stage_there : (k : ℕ) → k ≢ place → k ≡ written → stage_in_file states now k ≡ stage_held (is_settled now k) (is_prepared_ahead now k) (upd at place (Prepared entries) k)
      stage_there k apart there =
          ap (stage_of states) (ap (place_in_file now) there ∙ written_now) ∙ placed.stages place used
          ∙ ap (λ b. stage_held b (is_prepared_ahead table place) (at place)) plain
          ∙ held_empty (is_prepared_ahead table place) (at place) (at k) empty (ap (λ j. is_empty (at j)) there ∙ empty_there)
          ∙ ap (λ b. stage_held false b (at k)) (sym (ap (is_prepared_ahead now) there ∙ ahead_now (λ same. apart (there ∙ same))))
          ∙ ap (λ b. stage_held b (is_prepared_ahead now k) (at k)) (sym (ap (is_settled table) there ∙ plain_there))
          ∙ ap (stage_held (is_settled now k) (is_prepared_ahead now k)) (sym (upd_there at place k (Prepared entries) apart))

      stage_else : (k : ℕ) → k < places → k ≢ place → k ≢ written → stage_in_file states now k ≡ stage_held (is_settled now k) (is_prepared_ahead now k) (upd at place (Prepared entries) k)
      stage_else k lt apart other =
          ap (stage_of states) (others_now k apart other) ∙ placed.stages k lt ∙ ap (λ b. stage_held (is_settled table k) b (at k)) (sym (aheads_now k apart other))
          ∙ ap (stage_held (is_settled now k) (is_prepared_ahead now k)) (sym (upd_there at place k (Prepared entries) apart))

      pub placed_taken : ArePlaced states (taken table place written) places (upd at place (Prepared entries))
      placed_taken = record {
        stages = λ k lt. elim (cases_eq k place) [
          | inl here ↦ stage_here k here
          | inr apart ↦ elim (cases_eq k written) [
            | inl there ↦ stage_there k apart there
            | inr other ↦ stage_else k lt apart other
          ]
        ];
        ahead = λ k lt flag. elim (cases_eq k place) [
          | inl here ↦ absurd (let e : false ≡ true = sym (ap (is_settled table) here ∙ plain) ∙ flag in cc)
          | inr apart ↦ ap is_sealed (upd_there at place k (Prepared entries) apart) ∙ placed.ahead k lt flag
        ];
        empty_ahead = λ k lt flag. elim (cases_eq k place) [
          | inl here ↦ absurd (let e : false ≡ true = sym (ap (is_prepared_ahead now) here ∙ own_now) ∙ flag in cc)
          | inr apart ↦ elim (cases_eq k written) [
            | inl there ↦ ap is_empty (upd_there at place k (Prepared entries) apart ∙ ap at there) ∙ empty_there
            | inr other ↦ ap is_empty (upd_there at place k (Prepared entries) apart) ∙ placed.empty_ahead k lt (sym (aheads_now k apart other) ∙ flag)
          ]
        ];
        further = placed.further;
        further_not_ahead = placed.further_not_ahead;
        further_none_ahead = λ k le. aheads_now k (λ same. omega (arith, same, used, le)) (λ same. omega (arith, same, also, le)) ∙ placed.further_none_ahead k le;
        writes = λ k lt busy. elim (cases_eq k place) [
          | inl here ↦ ap (writes_of_place states) (ap (place_in_file now) here ∙ place_now) ∙ writes ∙ sym (ap (λ q. pairs_of (entries_in q)) (upd_here at place k (Prepared entries) here))
          | inr apart ↦
              let same = upd_there at place k (Prepared entries) apart in
              elim (cases_eq k written) [
                | inl there ↦ absurd (let e : true ≡ false = sym (ap is_empty (same ∙ ap at there) ∙ empty_there) ∙ busy in cc)
                | inr other ↦
                    ap (writes_of_place states) (others_now k apart other) ∙ placed.writes k lt (sym (ap is_empty same) ∙ busy) ∙ sym (ap (λ q. pairs_of (entries_in q)) same)
              ]
        ];
      }

-- A prepare of a change whose record was prepared ahead: its slot's place takes the record.
pub prepare_taken : {D : Type 0} (facts : D → Facts) (old new : Book D) (slot place written : ℕ) (entries : List Entry) (waiting : List Waiting) → place ≡ vacant_place (states_in old.held) old.table old.places
    → HasPlace (states_in old.held) old.table old.places → written ≡ written_place (states_in old.held) old.table slot entries old.places → written < old.places → old.has_failed ≡ false → slot < MAX_POOL
    → MAX_POOL ≤ length old.place_of → place < length old.table.file_place → written < length old.table.file_place → length old.table.ahead_for ≡ length old.table.file_place
    → HasParts new old.held old.words old.places (slice_set old.place_of slot place) (taken old.table place written) old.has_failed → IsFiled facts PrepareCall slot entries waiting old new Made
prepare_taken facts old new slot place written entries waiting is room found also sound within long low lower wide parts = record {
  counts = good entries;
  records = λ s es.
      let used : place < old.places = (let lt = room in omega (arith, is, lt)) in
      has_parts new old.held old.words old.places (slice_set old.place_of slot place) (taken old.table place written) old.has_failed parts s es
      ∙ taken_has old.table place written low lower wide old.places old.permuted used also (states_in old.held) s es
      ∙ ap (λ n. has_but old n s es) (found ∙ sym (cond-true (has_written old slot entries) (written_place (states_in old.held) old.table slot entries old.places) (place_needed old) there))
      ∙ sym (or_none (has_but old (place_lost old PrepareCall slot entries) s es))
      ∙ ap (λ ws. has_but old (place_lost old PrepareCall slot entries) s es || is_among ws s es)
      (sym (cond-false (makes_calls old PrepareCall slot entries) (first_ready old.words (states_in old.held) old.table old.places slot (places_left old PrepareCall) waiting) [] (ap not there)));
  ends = λ file shows.
      let same = is ∙ found_at (states_in old.held) old.table old.places file shows.same_places in
      let used : place < old.places = (let lt = room in omega (arith, is, lt)) in
      record {
        began = shows.same_failed ∙ sound;
        made = good (entries_at file (vacant_of file));
        shows = subst (λ p. Represents facts new (prepared file slot p entries)) same
            (shows_parts facts new old.held old.words old.places (slice_set old.place_of slot place) (taken old.table place written) old.has_failed (prepared file slot place entries) parts (record {
              same_words = shows.same_words;
              same_places =
                  placed_taken old.table place written low lower wide old.places old.permuted used also (states_in old.held) file.places entries shows.same_places
                  (sym (vacant_told (states_in old.held) old.table old.places file shows.same_places place used) ∙ so)
                  (ap (is_settled old.table) is ∙ vacant_plain (states_in old.held) old.table old.places room)
                  (written_ahead (states_in old.held) old.table slot entries written has) (written_writes (states_in old.held) old.table slot entries written has);
              same_place_of = set_number file.place_of old.place_of slot place MAX_POOL long within shows.same_place_of;
              same_failed = shows.same_failed;
              stands = shows.stands;
            }));
      };
  answers = record { began = sound; same_failed = parts.is_failed; faults = subst (λ h. OnDisk facts NoFault (disk_in old.held) (disk_in h)) (sym parts.is_held) (on_same facts NoFault old.held (λ f. refl)) };
  moments = λ file shows. subst (λ h. OnDisk facts (LeavesEither file.contents file.doubt) (disk_in old.held) (disk_in h)) (sym parts.is_held) (untouched facts old.held file.contents file.doubt shows.stands);
  later = subst (λ h. OnDisk facts Later (disk_in old.held) (disk_in h)) (sym parts.is_held) (on_same facts Later old.held later_refl);
  quiet = λ is. absurd (let e : PrepareCall ≡ CancelCall = is in cc);
  words = parts.is_words;
  places = parts.is_places;
  ahead = λ k. ap (λ table. is_settled table k) parts.is_table;
} where
  vacant_of : File → ℕ
  vacant_of file = place_for PrepareCall file old.places slot

  there : has_written old slot entries ≡ true
  there = lt-ltb (written_place (states_in old.held) old.table slot entries old.places) old.places (let lt = also in omega (arith, found, lt))

  has : is_written (states_in old.held) old.table slot entries written ≡ true
  has = ap (is_written (states_in old.held) old.table slot entries) found ∙ written_there (states_in old.held) old.table slot entries 0 old.places (let lt = also in omega (arith, found, lt))

  so : is_vacant (states_in old.held) old.table place ≡ true
  so = ap (is_vacant (states_in old.held) old.table) is ∙ vacant_so (states_in old.held) old.table old.places room

  -- it made no device call
  good : (entries_there : List Entry) → OnDisk facts (Good (length (written_by old PrepareCall slot entries waiting) + prepare_calls (has_written old slot entries) entries_there)) (disk_in old.held) (disk_in new.held)
  good entries_there =
      subst (λ n. OnDisk facts (Good n) (disk_in old.held) (disk_in new.held))
      (sym (ap (λ ws. length ws + prepare_calls (has_written old slot entries) entries_there) (none_by old PrepareCall slot entries waiting (ap not there)) ∙ ap (λ b. 0 + prepare_calls b entries_there) there))
      (subst (λ h. OnDisk facts (Good 0) (disk_in old.held) (disk_in h)) (sym parts.is_held) (on_same facts (Good 0) old.held good_none))
