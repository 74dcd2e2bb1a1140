-- A call for a change that is alone makes just the device calls that the world lists, and leaves no change settled or
-- prepared ahead.
-- Used by: a_change_alone_makes_the_listed_calls.
use Rattle.std.proofs.Common.{◌≡◌, ◌≢◌, ℕ, ◌+◌, ◌<◌, zero, suc, ◌||◌, ◌&&◌, not, Bool, true, false, List, [], ◌∷◌, length, nat_lt, take, min, if◌then◌else◌, refl, sym, ap, ◌∙◌, inl, inr, arith}
use Rattle.std.specs.List.{filter}
use Rattle.std.proofs.lemmas.Bool.{and_parts, cases_eq, cases_lt, cond-true, cond-false, eq-eqb, ne_eqb, ltb-true}
use Rattle.std.proofs.lemmas.List.{length-map}
use Rattle.mw_words.specs.declared.jobs.Entry.{Entry}
use Rattle.mw_look.specs.declared.steps.Call.{Call}
use Rattle.mw_look.specs.declared.steps.Call.TheVariants.{Prepare as PrepareCall, Seal as SealCall, Settle as SettleCall, Cancel as CancelCall}
use Rattle.mw_disk.specs.Facts.{Facts}
use Rattle.mw_file.specs.PlaceStates.{stage_of, IsOnlySealed}
use Rattle.mw_file.proofs.SharedSettles.{one_count}
use Rattle.mw_world.specs.Files.Calls.{device_calls, place_for}
use Rattle.mw_world.specs.Files.Stages.{stage_told}
use Rattle.mw_world.specs.Files.State.{File, Place, Empty, Prepared, Sealed, empty_from, entries_at, is_sealed}
use Rattle.mw_book.specs.declared.answers.Filed.{Filed}
use Rattle.mw_book.specs.declared.answers.Filed.TheVariants.{Made, Broken, Untouched}
use Rattle.mw_book.specs.declared.book.Book.{Book}
use Rattle.mw_book.specs.declared.waiting.TheConstants.{MOST_AHEAD}
use Rattle.mw_book.specs.Alone.{AloneLeavesNoneAhead, AloneLeavesNonePrepared, AloneMakesListedCalls, AloneRunsMakeListedCalls, FindsAlone}
use Rattle.mw_book.specs.Ends.{calls_on, prepare_calls, settle_calls}
use Rattle.mw_book.specs.RecordsAhead.{is_among, is_ready, makes_calls, place_lost, places_left, prepared_after, written_by}
use Rattle.mw_book.specs.SettledAhead.{is_sealed_stage, ahead_after, ahead_by_settle}
use Rattle.mw_book.specs.OpenFile.{states_in}
use Rattle.mw_book.specs.Representation.{is_prepared_ahead, is_settled, place_at, place_in_file, stage_held, stage_in_file}
use Rattle.mw_book.proofs.ApartChanges.{sealed_stage}
use Rattle.mw_book.proofs.FilePlaces.{IsAt, used_at}
use Rattle.mw_book.proofs.PlacesAhead.{busy_sealed, held_plain, own_busy}
use Rattle.mw_book.proofs.RecordsAhead.{but_fewer}

told_open : (p : Place) → is_sealed p ≡ false → is_sealed_stage (stage_told p) ≡ false
told_open Empty is = refl
told_open (Prepared entries) is = refl
told_open (Sealed entries) is = absurd (let e : true ≡ false = is in cc)

-- where a stage is not sealed by what the world's place says, it isn't whatever is prepared ahead
held_open : (flag ahead : Bool) (p : Place) → is_sealed p ≡ false → is_sealed_stage (stage_held flag ahead p) ≡ false
held_open true ahead p is = refl
held_open false true p is = refl
held_open false false p is = told_open p is

module _ {D : Type 0} (facts : D → Facts) (book : Book D) (file : File) (slot : ℕ) (finds : FindsAlone facts book file SettleCall slot) where
  -- the slot's place, by the file and by the book
  at : file.place_of slot ≡ place_at book slot
  at = finds.shows.same_place_of slot finds.within

  suited : (nat_lt (file.place_of slot) book.places ≡ true) × (is_sealed (file.places (file.place_of slot)) ≡ true)
  suited = and_parts (nat_lt (file.place_of slot) book.places) (is_sealed (file.places (file.place_of slot))) finds.suited

  low : file.place_of slot < book.places
  low = ltb-true (file.place_of slot) book.places suited.0

  -- no other place is sealed in the file
  others_open : (other : ℕ) → other ≢ file.place_of slot → is_sealed_stage (stage_in_file (states_in book.held) book.table other) ≡ false
  others_open other apart = elim (cases_lt other book.places) [
    | inl lt ↦ ap is_sealed_stage (finds.shows.same_places.stages other lt) ∙ held_open (is_settled book.table other) (is_prepared_ahead book.table other) (file.places other) (finds.alone other lt apart)
    | inr past ↦ ap (λ j. is_sealed_stage (stage_of (states_in book.held) j)) (book.permuted.past other past) ∙ ap is_sealed_stage (finds.shows.same_places.further other past)
  ]

  own : is_prepared_ahead book.table (file.place_of slot) ≡ false
  own = own_busy (states_in book.held) book.table book.places file.places finds.shows.same_places (file.place_of slot) low (busy_sealed (file.places (file.place_of slot)) suited.1)

  only_sealed : IsOnlySealed (states_in book.held) (place_in_file book.table (file.place_of slot))
  only_sealed = record {
    sealed =
        finds.shows.same_places.stages (file.place_of slot) low
        ∙ held_plain (is_settled book.table (file.place_of slot)) (is_prepared_ahead book.table (file.place_of slot)) (file.places (file.place_of slot)) (finds.none_ahead (file.place_of slot)) own
        ∙ sealed_stage (file.places (file.place_of slot)) suited.1;
    others = λ number apart is. elim (cases_lt number book.places) [
      | inl lt ↦
          let there : IsAt book.table.file_place book.places number = used_at book.table.file_place book.places number (book.permuted.onto number lt) in
          let isnt : is_sealed_stage (stage_in_file (states_in book.held) book.table there.place) ≡ false = others_open there.place (λ same. apart (sym there.at ∙ ap (place_in_file book.table) same)) in
          absurd (let e : true ≡ false = sym (ap is_sealed_stage (ap (stage_of (states_in book.held)) there.at ∙ is)) ∙ isnt in cc)
      | inr past ↦ absurd (let e : true ≡ false = sym (ap is_sealed_stage is) ∙ ap is_sealed_stage (finds.shows.same_places.further number past) in cc)
    ];
  }

  settle_listed : settle_calls (is_settled book.table (place_at book slot)) (states_in book.held) ≡ length (entries_at file (file.place_of slot)) + 3
  settle_listed =
      ap (λ flag. settle_calls flag (states_in book.held)) (finds.none_ahead (place_at book slot))
      ∙ one_count (states_in book.held) (place_in_file book.table (file.place_of slot)) only_sealed
      ∙ ap (λ writes. length writes + 3) (finds.shows.same_places.writes (file.place_of slot) low (busy_sealed (file.places (file.place_of slot)) suited.1))
      ∙ ap (λ n. n + 3) (length-map (entries_at file (file.place_of slot)) (λ e. (e.addr, e.new)))

  -- a settle settles no change ahead
  settle_none_ahead : (place : ℕ) → ahead_by_settle (states_in book.held) book.table (place_at book slot) place ≡ false
  settle_none_ahead place = elim (cases_eq place (place_at book slot)) [
    | inl here ↦ cond-true _ false rest (eq-eqb place (place_at book slot) here)
    | inr apart ↦
        cond-false _ false rest (ne_eqb place (place_at book slot) apart)
        ∙ ap (λ flag. flag || (not (is_settled book.table (place_at book slot)) && is_sealed_stage (stage_in_file (states_in book.held) book.table place))) (finds.none_ahead place)
        ∙ ap (λ flag. not flag && is_sealed_stage (stage_in_file (states_in book.held) book.table place)) (finds.none_ahead (place_at book slot))
        ∙ others_open place (λ is. apart (is ∙ at))
  ] where
    rest : Bool
    rest = is_settled book.table place || (not (is_settled book.table (place_at book slot)) && is_sealed_stage (stage_in_file (states_in book.held) book.table place))

own_listed : {D : Type 0} (facts : D → Facts) (book : Book D) (file : File) (call : Call) (slot : ℕ) (entries : List Entry) → FindsAlone facts book file call slot
    → calls_on book call slot entries (entries_at file (place_for call file book.places slot)) ≡ device_calls call (entries_at file (place_for call file book.places slot))
own_listed facts book file PrepareCall slot entries finds = ap (λ b. prepare_calls b (entries_at file (empty_from file 0 book.places))) (finds.none_prepared slot entries)
own_listed facts book file SealCall slot entries finds = refl
own_listed facts book file SettleCall slot entries finds = settle_listed facts book file slot finds
own_listed facts book file CancelCall slot entries finds = refl

none_ahead_after : {D : Type 0} (facts : D → Facts) (old : Book D) (file : File) (call : Call) (slot : ℕ) (answer : Filed) → FindsAlone facts old file call slot → (place : ℕ)
    → ahead_after call slot old answer place ≡ false
none_ahead_after facts old file PrepareCall slot answer finds place = finds.none_ahead place
none_ahead_after facts old file SealCall slot answer finds place = finds.none_ahead place
none_ahead_after facts old file SettleCall slot Made finds place = settle_none_ahead facts old file slot finds place
none_ahead_after facts old file SettleCall slot Broken finds place = finds.none_ahead place
none_ahead_after facts old file SettleCall slot Untouched finds place = finds.none_ahead place
none_ahead_after facts old file CancelCall slot answer finds place = finds.none_ahead place

pub leaves_none_ahead : {D : Type 0} (facts : D → Facts) → AloneLeavesNoneAhead facts
leaves_none_ahead facts old new file call slot entries waiting answer finds filed place = filed.ahead place ∙ none_ahead_after facts old file call slot answer finds place

-- nothing is written ahead if no change waits
none_waits : {D : Type 0} (old : Book D) (call : Call) (slot : ℕ) (entries : List Entry) → written_by old call slot entries [] ≡ []
none_waits old call slot entries = by (makes_calls old call slot entries) (min MOST_AHEAD (places_left old call)) where
  nothing : (n : ℕ) → take n (filter (is_ready old.words (states_in old.held) old.table old.places slot) []) ≡ []
  nothing zero = refl
  nothing (suc n) = refl

  by : (b : Bool) (n : ℕ) → (if b then take n (filter (is_ready old.words (states_in old.held) old.table old.places slot) []) else []) ≡ []
  by true n = nothing n
  by false n = refl

pub makes_listed : {D : Type 0} (facts : D → Facts) → AloneMakesListedCalls facts
makes_listed facts book file call slot entries finds =
    let none : length (written_by book call slot entries []) ≡ 0 = ap length (none_waits book call slot entries) in
    let own = own_listed facts book file call slot entries finds in
    omega (arith, none, own)

pub leaves_none_prepared : {D : Type 0} (facts : D → Facts) → AloneLeavesNonePrepared facts
leaves_none_prepared facts old new file call slot entries answer finds filed other those = filed.records other those ∙ by answer where
  by : (answer : Filed) → prepared_after call slot entries [] old answer other those ≡ false
  by Made = ap (λ b. b || is_among (written_by old call slot entries []) other those) (but_fewer old (place_lost old call slot entries) other those (finds.none_prepared other those)) ∙ ap (λ ws. is_among ws other those) (none_waits old call slot entries)
  by Broken = but_fewer old (place_lost old call slot entries) other those (finds.none_prepared other those)
  by Untouched = finds.none_prepared other those

pub runs_listed : {D : Type 0} (facts : D → Facts) → AloneRunsMakeListedCalls facts
runs_listed facts book [] none_ahead none_prepared run = tt
runs_listed facts book (c ∷ calls) none_ahead none_prepared run =
    let finds : FindsAlone facts book c.file c.call c.slot =
    record { within = run.0.within; shows = run.0.shows; suited = run.0.suited; alone = run.0.alone; none_ahead = none_ahead; none_prepared = none_prepared } in (
      own_listed facts book c.file c.call c.slot c.entries finds,
      runs_listed facts c.after calls (leaves_none_ahead facts book c.after c.file c.call c.slot c.entries [] c.answer finds run.1.0)
          (leaves_none_prepared facts book c.after c.file c.call c.slot c.entries c.answer finds run.1.0) run.1.1,
    )
