-- After a call on a book just these changes are prepared ahead (`PreparesAhead`): those before it, but for the one in a
-- place that is lost, and those whose records it wrote.
-- Used by: FiledCalls (for all calls of Book), Book::make_room.
use Rattle.std.proofs.Common.{◌≡◌, ℕ, zero, suc, ◌+◌, ◌-◌, ◌==◌, ◌<◌, ◌≤◌, ◌&&◌, ◌||◌, not, Bool, true, false, List, [], length, take, min, Option, Some, None, get_or, nat_lt, nat_le, All, refl, sym, ap, ◌∙◌, inl, inr, arith}
use Rattle.std.specs.Cmp.{both_ways}
use Rattle.std.specs.List.{filter}
use Rattle.std.proofs.lemmas.Bool.{and_parts, cases_Bool, cases_eq, cases_lt, cond-true, cond-false, le-leb, leb-true, lt-ltb, ltb-true, ne_eqb, or_cases, or_left, or_right}
use Rattle.mw_words.specs.Change.{is_change}
use Rattle.mw_words.specs.declared.jobs.Entry.{Entry}
use Rattle.mw_record.specs.Layout.{pairs_of}
use Rattle.mw_look.specs.declared.steps.Call.{Call}
use Rattle.mw_look.specs.declared.steps.Call.TheVariants.{Prepare as PrepareCall}
use Rattle.mw_file.specs.declared.new_changes.NewChange.{NewChange}
use Rattle.mw_file.specs.declared.place_states.PlaceState.{PlaceState}
use Rattle.mw_file.specs.declared.tenant_file.TenantFile.{TenantFile}
use Rattle.mw_file.specs.File.{states_of}
use Rattle.mw_file.specs.PlaceStates.{writes_of_place}
use Rattle.mw_book.specs.declared.answers.Filed.TheVariants.{Made, Broken}
use Rattle.mw_book.specs.declared.book.Book.{Book}
use Rattle.mw_book.specs.declared.place_table.PlaceTable.{PlaceTable}
use Rattle.mw_book.specs.declared.waiting.Waiting.{Waiting}
use Rattle.mw_book.specs.declared.waiting.TheConstants.{MOST_AHEAD}
use Rattle.mw_book.specs.ChosenPlaces.{AreAhead, IsThere, free_within}
use Rattle.mw_book.specs.FilePlaces.{place_in}
use Rattle.mw_book.specs.OpenFile.{states_in}
use Rattle.mw_book.specs.Permits.{HasPlace, is_vacant, vacant_from, vacant_place}
use Rattle.mw_book.specs.PreparedAhead.{are_writes_of, has_written, is_for, is_written, written_place}
use Rattle.mw_book.specs.RecordsAhead.{PreparesAhead, any_below, count_below, first_ready, free_places, has_but, is_among, is_free, is_ready, makes_calls, place_lost, place_needed, places_left, written_by}
use Rattle.mw_book.specs.Representation.{HasParts, is_prepared_ahead, place_in_file, writes_in_file}
use Rattle.mw_book.proofs.CountedPlaces.{any_by, any_there, count_more, count_same, count_some}
use Rattle.mw_book.proofs.FoundPlaces.{vacant_so}
use Rattle.mw_book.proofs.WrittenPlaces.{written_ahead, written_found, written_there}

pub or_none : (b : Bool) → (b || false) ≡ b
or_none true = refl
or_none false = refl

module _ (states : List PlaceState) (table : PlaceTable) (places slot : ℕ) (entries : List Entry) where
  -- the search finds a record exactly if some used place has it
  pub written_any : nat_lt (written_place states table slot entries places) places ≡ any_below (is_written states table slot entries) places
  written_any =
      both_ways (nat_lt (written_place states table slot entries places) places) (any_below (is_written states table slot entries) places)
      (λ is.
      let lt = ltb-true (written_place states table slot entries places) places is in
      any_by (is_written states table slot entries) places (written_place states table slot entries places) lt (written_there states table slot entries 0 places (omega (arith, lt))))
      (λ is.
      let one = any_there (is_written states table slot entries) places is in
      let low = one.low in
      let found = written_found states table slot entries 0 places one.number (omega arith) (omega (arith, low)) one.so in
      lt-ltb (written_place states table slot entries places) places (omega (arith, found)))

  -- nothing is lost by a place that has no such record, or is no used one
  pub but_none : (lost : ℕ) → ((k : ℕ) → k < places → k ≡ lost → is_written states table slot entries k ≡ false)
      → any_below (λ k. not (k == lost) && is_written states table slot entries k) places ≡ any_below (is_written states table slot entries) places
  but_none lost none = all places (omega arith) where
    one : (k : ℕ) → k < places → (not (k == lost) && is_written states table slot entries k) ≡ is_written states table slot entries k
    one k lt = elim (cases_eq k lost) [
      | inl here ↦ ap (λ b. not (k == lost) && b) (none k lt here) ∙ and_none (not (k == lost)) ∙ sym (none k lt here)
      | inr apart ↦ ap (λ b. not b && is_written states table slot entries k) (ne_eqb k lost apart)
    ] where
      and_none : (b : Bool) → (b && false) ≡ false
      and_none true = refl
      and_none false = refl

    all : (n : ℕ) → n ≤ places → any_below (λ k. not (k == lost) && is_written states table slot entries k) n ≡ any_below (is_written states table slot entries) n
    all zero le = refl
    all (suc n) le =
        let here = one n (omega (arith, le)) in
        let rest = all n (omega (arith, le)) in
        λ i. here i || rest i

  pub but_past : any_below (λ k. not (k == places) && is_written states table slot entries k) places ≡ any_below (is_written states table slot entries) places
  but_past = but_none places (λ k lt same. absurd (let e : ⊥ = omega (arith, lt, same) in e))

-- The changes were chosen. Their writes are in the file, and those of the changes that were prepared ahead before are as they were.
module _ (old new : List PlaceState) (table next : PlaceTable) (places : ℕ) (changes : List NewChange) (written : List Waiting) (ahead : AreAhead table next places changes written)
    (same_places : next.file_place ≡ table.file_place) (writes : All (λ c. writes_of_place new c.place.0 ≡ pairs_of c.entries.items) changes)
    (kept : (k : ℕ) → k < places → is_prepared_ahead table k ≡ true → writes_of_place new (place_in_file table k) ≡ writes_of_place old (place_in_file table k)) (slot : ℕ) (entries : List Entry) where
  as_before : (k : ℕ) → k < places → is_prepared_ahead table k ≡ true → is_written new next slot entries k ≡ is_written old table slot entries k
  as_before k lt is_on =
      ap (λ found. is_for found slot && are_writes_of (writes_in_file new next k) entries) (ahead.kept k is_on)
      ∙ ap (λ ws. is_for (get_or table.ahead_for k None) slot && are_writes_of ws entries) (ap (λ numbers. writes_of_place new (place_in numbers k)) same_places ∙ kept k lt is_on)

  pub has_after : any_below (is_written new next slot entries) places ≡ (any_below (is_written old table slot entries) places || is_among written slot entries)
  has_after =
      both_ways (any_below (is_written new next slot entries) places) (any_below (is_written old table slot entries) places || is_among written slot entries)
      (λ is.
      let one = any_there (is_written new next slot entries) places is in
      elim (cases_Bool (is_prepared_ahead table one.number)) [
        | inl is_on ↦
            or_left (any_below (is_written old table slot entries) places) (is_among written slot entries)
            (any_by (is_written old table slot entries) places one.number one.low (sym (as_before one.number one.low is_on) ∙ one.so))
        | inr is_off ↦ or_right (any_below (is_written old table slot entries) places) (is_among written slot entries) (ahead.only new writes one.number one.low is_off slot entries one.so)
      ])
      (λ is. elim (or_cases (any_below (is_written old table slot entries) places) (is_among written slot entries) is) [
        | inl before ↦
            let one = any_there (is_written old table slot entries) places before in
            any_by (is_written new next slot entries) places one.number one.low (as_before one.number one.low (written_ahead old table slot entries one.number one.so) ∙ one.so)
        | inr this ↦
            let one : IsThere table next new places slot entries = ahead.each new writes slot entries this in
            any_by (is_written new next slot entries) places one.place one.low one.now
      ])

-- a place in which no change is prepared ahead has no record of any
pub not_written : (states : List PlaceState) (table : PlaceTable) (slot : ℕ) (entries : List Entry) (k : ℕ) → is_prepared_ahead table k ≡ false → is_written states table slot entries k ≡ false
not_written states table slot entries k is_off = by (is_written states table slot entries k) refl where
  by : (b : Bool) → is_written states table slot entries k ≡ b → b ≡ false
  by false is = refl
  by true is = absurd (let e : true ≡ false = sym (written_ahead states table slot entries k is) ∙ is_off in cc)

-- tests that agree
pub any_same : (p q : ℕ → Bool) (n : ℕ) → ((k : ℕ) → k < n → p k ≡ q k) → any_below p n ≡ any_below q n
any_same p q zero same = refl
any_same p q (suc n) same =
    let here = same n (omega arith) in
    let rest = any_same p q n (λ k lt. same k (omega (arith, lt))) in
    λ i. here i || rest i

-- how many places are free from the first on
pub free_from_first : (states : List PlaceState) (table : PlaceTable) (places : ℕ) → free_within states table 0 places ≡ count_below (is_free states table) places
free_from_first states table places = count_same (λ k. nat_le 0 k && is_free states table k) (is_free states table) places (λ k lt. ap (λ b. b && is_free states table k) (le-leb 0 k (omega arith)))

-- no place below the lowest vacant one is vacant
lower_taken : (states : List PlaceState) (table : PlaceTable) (first left k : ℕ) → first ≤ k → k < vacant_from states table first left → is_vacant states table k ≡ false
lower_taken states table first zero k le lt = absurd (let e : ⊥ = omega (arith, le, lt) in e)
lower_taken states table first (suc left) k le lt = elim (cases_Bool (is_vacant states table first)) [
  | inl is ↦
      let at : vacant_from states table first (suc left) ≡ first = cond-true (is_vacant states table first) first (vacant_from states table (first + 1) left) is in
      absurd (let e : ⊥ = omega (arith, at, le, lt) in e)
  | inr isnt ↦
      let at : vacant_from states table first (suc left) ≡ vacant_from states table (first + 1) left =
      cond-false (is_vacant states table first) first (vacant_from states table (first + 1) left) isnt in
      elim (cases_eq k first) [
        | inl here ↦ ap (is_vacant states table) here ∙ isnt
        | inr apart ↦ lower_taken states table (first + 1) left k (omega (arith, le, apart)) (omega (arith, at, lt))
      ]
]

-- the lowest vacant place is free: then all other free places are past it
module _ (states : List PlaceState) (table : PlaceTable) (places place : ℕ) (is : place ≡ vacant_place states table places) (low : place < places) (free : is_free states table place ≡ true) where
  pub free_past : count_below (is_free states table) places ≡ free_within states table (place + 1) places + 1
  free_past =
      count_more (λ k. nat_le (place + 1) k && is_free states table k) (is_free states table) places place low (ap (λ b. b && is_free states table place) (past place (omega arith))) free
      (λ k lt apart. elim (cases_lt k place) [
        | inl less ↦
            let taken = lower_taken states table 0 places k (omega arith) (omega (arith, is, less)) in
            ap (λ b. b && not (is_prepared_ahead table k)) taken ∙ sym (ap (λ b. b && is_free states table k) (past k (omega (arith, less))))
        | inr more ↦ sym (ap (λ b. b && is_free states table k) (le-leb (place + 1) k (omega (arith, more, apart))))
      ]) where
        past : (k : ℕ) → k < place + 1 → nat_le (place + 1) k ≡ false
        past k less = by (nat_le (place + 1) k) refl where
          by : (b : Bool) → nat_le (place + 1) k ≡ b → b ≡ false
          by false is_off = refl
          by true is_on = absurd (let e = leb-true (place + 1) k is_on in let bad : ⊥ = omega (arith, e, less) in bad)

  pub some_free : 1 ≤ count_below (is_free states table) places
  some_free = count_some (is_free states table) places place low free

-- the lowest vacant place is free if no change is prepared ahead in it
pub some_vacant : (states : List PlaceState) (table : PlaceTable) (places place : ℕ) → place ≡ vacant_place states table places → HasPlace states table places → is_prepared_ahead table place ≡ false
    → 1 ≤ count_below (is_free states table) places
some_vacant states table places place is room off =
    count_some (is_free states table) places place (let lt = room in omega (arith, is, lt))
    (ap (λ b. b && not (is_prepared_ahead table place)) (ap (is_vacant states table) is ∙ vacant_so states table places room) ∙ ap not off)

module _ {D : Type 0} where
  -- no change is lost if a place is free
  pub none_needed : (book : Book D) → 1 ≤ free_places book → place_needed book ≡ book.places
  none_needed book some = cond-false (free_places book == 0) (vacant_place (states_in book.held) book.table book.places) book.places (ne_eqb (free_places book) 0 (λ none. omega (arith, none, some)))

  pub lost_needed : (book : Book D) (slot : ℕ) (entries : List Entry) → has_written book slot entries ≡ false → place_lost book PrepareCall slot entries ≡ place_needed book
  lost_needed book slot entries none = cond-false (has_written book slot entries) (written_place (states_in book.held) book.table slot entries book.places) (place_needed book) none

  pub has_any : (book : Book D) (slot : ℕ) (entries : List Entry) → has_written book slot entries ≡ any_below (is_written (states_in book.held) book.table slot entries) book.places
  has_any book slot entries = written_any (states_in book.held) book.table book.places slot entries

  -- if no used place is lost, what was prepared ahead still is
  pub nothing_lost : (book : Book D) (lost slot : ℕ) (entries : List Entry) → lost ≡ book.places → has_but book lost slot entries ≡ has_written book slot entries
  nothing_lost book lost slot entries is = ap (λ n. has_but book n slot entries) is ∙ but_past (states_in book.held) book.table book.places slot entries ∙ sym (has_any book slot entries)

  -- what was not prepared ahead is not by a loss
  pub but_fewer : (book : Book D) (lost slot : ℕ) (entries : List Entry) → has_written book slot entries ≡ false → has_but book lost slot entries ≡ false
  but_fewer book lost slot entries none = by (has_but book lost slot entries) refl where
    by : (b : Bool) → has_but book lost slot entries ≡ b → b ≡ false
    by false is = refl
    by true is =
        let one = any_there (λ place. not (place == lost) && is_written (states_in book.held) book.table slot entries place) book.places is in
        let has = (and_parts (not (one.number == lost)) (is_written (states_in book.held) book.table slot entries one.number) one.so).1 in
        absurd (let e : true ≡ false = sym (any_by (is_written (states_in book.held) book.table slot entries) book.places one.number one.low has) ∙ sym (has_any book slot entries) ∙ none in cc)

  -- what the parts of a book tell
  pub has_parts : (new : Book D) (held : Option (TenantFile D)) (words places : ℕ) (place_of : List ℕ) (table : PlaceTable) (failed : Bool) → HasParts new held words places place_of table failed → (slot : ℕ) (entries : List Entry)
      → has_written new slot entries ≡ any_below (is_written (states_in held) table slot entries) places
  has_parts new held words places place_of table failed parts slot entries =
      has_any new slot entries
      ∙ ap (λ h. any_below (is_written (states_in h) new.table slot entries) new.places) parts.is_held
      ∙ ap (λ t. any_below (is_written (states_in held) t slot entries) new.places) parts.is_table
      ∙ ap (λ n. any_below (is_written (states_in held) table slot entries) n) parts.is_places

  -- how many places are free by the parts of a book
  pub free_parts : (new : Book D) (held : Option (TenantFile D)) (words places : ℕ) (place_of : List ℕ) (table : PlaceTable) (failed : Bool) → HasParts new held words places place_of table failed
      → free_places new ≡ count_below (is_free (states_in held) table) places
  free_parts new held words places place_of table failed parts =
      ap (λ h. count_below (is_free (states_in h) new.table) new.places) parts.is_held
      ∙ ap (λ t. count_below (is_free (states_in held) t) new.places) parts.is_table
      ∙ ap (λ n. count_below (is_free (states_in held) table) n) parts.is_places

  -- a call that makes no device call writes no record
  pub none_by : (old : Book D) (call : Call) (slot : ℕ) (entries : List Entry) (waiting : List Waiting) → makes_calls old call slot entries ≡ false → written_by old call slot entries waiting ≡ []
  none_by old call slot entries waiting quiet = cond-false (makes_calls old call slot entries) (first_ready old.words (states_in old.held) old.table old.places slot (places_left old call) waiting) [] quiet

  -- A call that wrote no record, and after which the same is prepared ahead.
  pub same_records : (call : Call) (slot : ℕ) (entries : List Entry) (waiting : List Waiting) (old new : Book D) → place_lost old call slot entries ≡ old.places → makes_calls old call slot entries ≡ false
      → ((s : ℕ) (es : List Entry) → has_written new s es ≡ has_written old s es) → PreparesAhead call slot entries waiting old new Made
  same_records call slot entries waiting old new none quiet same s es =
      same s es ∙ sym (nothing_lost old (place_lost old call slot entries) s es none) ∙ sym (or_none (has_but old (place_lost old call slot entries) s es))
      ∙ ap (λ ws. has_but old (place_lost old call slot entries) s es || is_among ws s es)
      (sym (cond-false (makes_calls old call slot entries) (first_ready old.words (states_in old.held) old.table old.places slot (places_left old call) waiting) [] quiet))

  -- a call in which the device failed
  pub broken_records : (call : Call) (slot : ℕ) (entries : List Entry) (waiting : List Waiting) (old new : Book D) → place_lost old call slot entries ≡ old.places
      → ((s : ℕ) (es : List Entry) → has_written new s es ≡ has_written old s es) → PreparesAhead call slot entries waiting old new Broken
  broken_records call slot entries waiting old new none same s es = same s es ∙ sym (nothing_lost old (place_lost old call slot entries) s es none)

  -- a call that makes device calls chooses the records that it writes
  pub chosen_by : (call : Call) (slot : ℕ) (entries : List Entry) (waiting : List Waiting) (old : Book D) (held : TenantFile D) (left : ℕ) → old.held ≡ Some held → left ≡ places_left old call → makes_calls old call slot entries ≡ true
      → first_ready old.words (states_of held) old.table old.places slot left waiting ≡ written_by old call slot entries waiting
  chosen_by call slot entries waiting old held left is_old many calls =
      ap (λ h. first_ready old.words (states_in h) old.table old.places slot left waiting) (sym is_old)
      ∙ ap (λ n. first_ready old.words (states_in old.held) old.table old.places slot n waiting) many
      ∙ sym (cond-true (makes_calls old call slot entries) (first_ready old.words (states_in old.held) old.table old.places slot (places_left old call) waiting) [] calls)

  -- A call that went well and wrote the records of the changes that were chosen.
  module _ (call : Call) (slot : ℕ) (entries : List Entry) (waiting : List Waiting) (old new : Book D) (held now : TenantFile D) (is_old : old.held ≡ Some held) (next : PlaceTable) (changes : List NewChange) (left : ℕ)
      (ahead : AreAhead old.table next old.places changes (first_ready old.words (states_of held) old.table old.places slot left waiting)) (many : left ≡ places_left old call)
      (calls : makes_calls old call slot entries ≡ true) (none : place_lost old call slot entries ≡ old.places) (same_places : next.file_place ≡ old.table.file_place)
      (writes : All (λ c. writes_of_place (states_of now) c.place.0 ≡ pairs_of c.entries.items) changes)
      (kept : (k : ℕ) → k < old.places → is_prepared_ahead old.table k ≡ true → writes_of_place (states_of now) (place_in_file old.table k) ≡ writes_of_place (states_of held) (place_in_file old.table k))
      (shown : (s : ℕ) (es : List Entry) → has_written new s es ≡ any_below (is_written (states_of now) next s es) old.places) where
    pub made_records : PreparesAhead call slot entries waiting old new Made
    made_records s es =
        shown s es
        ∙ has_after (states_of held) (states_of now) old.table next old.places changes (first_ready old.words (states_of held) old.table old.places slot left waiting) ahead same_places writes kept s es
        ∙ ap (λ b. b || is_among (first_ready old.words (states_of held) old.table old.places slot left waiting) s es)
        (ap (λ h. any_below (is_written (states_in h) old.table s es) old.places) (sym is_old) ∙ sym (has_any old s es) ∙ sym (nothing_lost old (place_lost old call slot entries) s es none))
        ∙ ap (λ ws. has_but old (place_lost old call slot entries) s es || is_among ws s es) (chosen_by call slot entries waiting old held left is_old many calls)

  -- After room was made, a prepare writes the same records as it would have before.
  module _ (slot : ℕ) (entries : List Entry) (waiting : List Waiting) (old mid : Book D) (words : mid.words ≡ old.words) (places : mid.places ≡ old.places) (left : free_places mid - 1 ≡ free_places old - 1)
      (kept : (s : ℕ) (es : List Entry) → has_written mid s es ≡ has_but old (place_needed old) s es) where
    ready_alike : 1 ≤ free_places old → (w : Waiting) → is_ready mid.words (states_in mid.held) mid.table mid.places slot w ≡ is_ready old.words (states_in old.held) old.table old.places slot w
    ready_alike some w =
        ap (λ b. not (w.slot == slot) && not b && is_change mid.words w.entries.items) (kept w.slot w.entries.items ∙ nothing_lost old (place_needed old) w.slot w.entries.items (none_needed old some))
        ∙ ap (λ n. not (w.slot == slot) && not (has_written old w.slot w.entries.items) && is_change n w.entries.items) words

    pub ready_same :
        first_ready mid.words (states_in mid.held) mid.table mid.places slot (free_places mid - 1) waiting ≡ first_ready old.words (states_in old.held) old.table old.places slot (free_places old - 1) waiting
    ready_same = elim (cases_eq (free_places old) 0) [
      | inl none ↦
          ap (λ n. take n (filter (is_ready mid.words (states_in mid.held) mid.table mid.places slot) waiting)) (let l = left in let zero_left : min MOST_AHEAD (free_places mid - 1) ≡ 0 = omega (arith, l, none) in zero_left)
          ∙ sym (ap (λ n. take n (filter (is_ready old.words (states_in old.held) old.table old.places slot) waiting)) (let zero_left : min MOST_AHEAD (free_places old - 1) ≡ 0 = omega (arith, none) in zero_left))
      | inr some ↦
          ap (λ n. take (min MOST_AHEAD n) (filter (is_ready mid.words (states_in mid.held) mid.table mid.places slot) waiting)) left
          ∙ (let alike = ready_alike (omega (arith, some)) in λ i. take (min MOST_AHEAD (free_places old - 1)) (filter (λ w. alike w i) waiting))
    ]
