-- The first MAX_FILE bytes of a longer file have the same words, sizes and damage as the whole file.
-- Used by: mw_file, mw_world_file, bytes_past_the_largest_file_do_not_matter.
use Rattle.std.proofs.Common.{◌≡◌, ℕ, ◌+◌, ◌-◌, ◌*◌, ◌<◌, ◌≤◌, ◌==◌, ◌&&◌, nat_le, if◌then◌else◌, cond, is_none, unwrap_or, Bool, true, false, Option, Some, None, List, [], length, take, drop, slice_index, refl, sym, ap, ◌∙◌, inl, inr, arith}
use Rattle.std.proofs.lemmas.Bool.{cases_lt, cond-true, cond-false, lt-leb, le-leb}
use Rattle.std.proofs.lemmas.List.{get_or-take, length-take, take-take, drop-take}
use Rattle.mw_words.specs.declared.limits.TheConstants.{MAX_WORDS}
use Rattle.mw_record.specs.declared.layout.Layout.{Layout}
use Rattle.mw_record.specs.declared.layout.Layout.TheVariants.{First, Second}
use Rattle.mw_record.specs.declared.layout.TheConstants.{HEAD_SIZE, WORD_SIZE, COMMITTED, SWITCH_AT, SECOND_AT, MAX_FIRST, MAX_SECOND, MAX_FILE, PLACES_GROW}
use Rattle.mw_record.specs.declared.damages.Damage.{Damage}
use Rattle.mw_record.specs.Layout.{most_entries, most_places, place_size, home_at, place_at, size, SameBytes}
use Rattle.mw_record.specs.Records.{Pairs, record_at, body_at, home, is_formed, are_formed, are_apart, records_fit, homes_fit}
use Rattle.mw_record.specs.LayoutBytes.{has_head, has_mark, has_sizes, has_all_bytes, has_formed_records, has_records_apart, has_small_values, words_told, places_told, records_told, told_words, told_pairs, part_tests}
use Rattle.mw_record.specs.Damages.{is_switched, second_at, may_begin, layout_of, at_of, part_of, first_fault, second_tests, damage_of, words_of, found_places, places_of, words_in, file_words, pairs_in}
use Rattle.mw_record.specs.Contents.{HasWords}
use Rattle.mw_record.proofs.Layouts.{home_within, place_within, size_fits}
use Rattle.mw_record.proofs.ReadBytes.{number_same, home_same, commit_set, shut_stays, record_open, record_stays, length_body}
use Rattle.mw_record.proofs.ReadAgain.{within, mark_same}
use Rattle.mw_record.proofs.Faults.{AreSizes, sizes_are, passes, part_fault, begins_within}
use Rattle.mw_record.proofs.Undamaged.{sizes, at_fits}
use Rattle.mw_record.proofs.TestsBelow.{few_entries, formed_at}
use Rattle.mw_record.proofs.SameRecords.{SameRecords, each_same, apart_same, records_fit_same, homes_fit_same, too_many}
use Rattle.mw_record.proofs.Sound.{has_words, told_are}
use Rattle.mw_record.proofs.ChangedBytes.{has_words_same}
use Rattle.mw_record.proofs.Writes.{commit_same, record_same}

-- a place whose bytes stay is well formed if it was before, and only then
formed_same_as : (layout : Layout) (words place : ℕ) (xs ys : List ℕ) (kept : Option Pairs) → SameBytes (place_size layout) (place_at layout words place) (place_at layout words place) xs ys
    → record_at layout ys words place ≡ kept → is_formed layout words (record_at layout xs words place) ≡ is_formed layout words kept
formed_same_as layout words place xs ys None same is =
    ap (is_formed layout words) (shut_stays layout xs ys words place (commit_same layout xs ys (place_at layout words place) same) is)
formed_same_as layout words place xs ys (Some ps) same is =
    elim (cases_lt (most_entries layout) (length ps)) [
      | inr few ↦ ap (is_formed layout words) (record_stays layout xs ys words place ps same few is)
      | inl many ↦
          let at : ℕ = place_at layout words place in
          let was = commit_set layout ys words place ps is in
          let count : slice_index xs (at + 1) ≡ slice_index ys (at + 1) = same 1 (omega arith) in
          let long : length (body_at xs at) ≡ length ps = length_body xs at ∙ count ∙ sym (length_body ys at) ∙ ap length was.1 in
          ap (is_formed layout words) (record_open layout xs words place at refl (commit_same layout xs ys at same ∙ was.0))
          ∙ too_many layout words (body_at xs at) (omega (arith, long, many)) ∙ sym (too_many layout words ps many)
    ]

-- two lists of tests have the same damage if their first tests are equal and, if these pass, their rests have the same damage
next_test : (test test2 : Bool) (rest rest2 : Option Damage) (fault : Damage) → test2 ≡ test → (test ≡ true → rest2 ≡ rest) → cond test2 rest2 (Some fault) ≡ cond test rest (Some fault)
next_test true test2 rest rest2 fault same after = ap (λ b. cond b rest2 (Some fault)) same ∙ after refl
next_test false test2 rest rest2 fault same after = ap (λ b. cond b rest2 (Some fault)) same

-- a file's words, by its damage
words_by : (image : List ℕ) (damage : Option Damage) → damage_of image ≡ damage → file_words image ≡ (if is_none damage then Some (words_in image) else None)
words_by image damage is = ap (λ d. if is_none d then Some (words_in image) else None) is

-- the test of the sizes, on the numbers that the head tells
abbrev are_allowed : Layout → ℕ → ℕ → Bool
are_allowed layout words places = nat_le 1 words && nat_le words MAX_WORDS && nat_le 1 places && nat_le places (most_places layout)

-- the first bytes of a layout, at least MAX_SECOND of them
module _ (layout : Layout) (bytes : List ℕ) (most : ℕ) (enough : MAX_SECOND ≤ most) where
  -- the bytes that are kept
  abbrev first : List ℕ
  first = take most bytes

  first_same : (n : ℕ) → n ≤ MAX_SECOND → SameBytes n 0 0 first bytes
  first_same n fits k lt = get_or-take most bytes (0 + k) 0 (omega (arith, fits, enough, lt))

  part_same : (n i : ℕ) → i + n ≤ MAX_SECOND → SameBytes n i i first bytes
  part_same n i fits = within MAX_SECOND n i first bytes (first_same MAX_SECOND (omega arith)) fits

  long_same : (n : ℕ) → n ≤ MAX_SECOND → nat_le n (length first) ≡ nat_le n (length bytes)
  long_same n fits =
      let long = length-take most bytes in
      elim (cases_lt (length bytes) n) [
        | inl short ↦ lt-leb n (length first) (omega (arith, long, short)) ∙ sym (lt-leb n (length bytes) short)
        | inr all ↦ le-leb n (length first) (omega (arith, long, all, fits, enough)) ∙ sym (le-leb n (length bytes) all)
      ]

  -- the head tells the same
  words_told_first : words_told first ≡ words_told bytes
  words_told_first = number_same 4 8 8 first bytes (part_same 4 8 (omega arith))

  places_told_first : places_told first ≡ places_told bytes
  places_told_first = number_same 2 12 12 first bytes (part_same 2 12 (omega arith))

  first_mark : has_mark layout first ≡ has_mark layout bytes
  first_mark = mark_same layout first bytes (take-take 8 most bytes (omega (arith, enough)))

  -- a value that depends on the sizes is the same
  at_sizes : {X : Type 0} (f : ℕ → ℕ → X) → f (words_told first) (places_told first) ≡ f (words_told bytes) (places_told bytes)
  at_sizes f = ap (λ w. f w (places_told first)) words_told_first ∙ ap (f (words_told bytes)) places_told_first

  first_sizes : has_sizes layout first ≡ has_sizes layout bytes
  first_sizes = at_sizes (are_allowed layout)

  module _ (sizes : AreSizes layout bytes) where
    all_fit : size layout (words_told bytes) (places_told bytes) ≤ MAX_SECOND
    all_fit = size_fits layout (words_told bytes) (places_told bytes) sizes.words_fit sizes.places_fit

    first_all_bytes : has_all_bytes layout first ≡ has_all_bytes layout bytes
    first_all_bytes =
        at_sizes (λ w p. nat_le (size layout w p) (length first))
        ∙ long_same (size layout (words_told bytes) (places_told bytes)) all_fit

    place_same : (j : ℕ) → j < places_told bytes → SameBytes (place_size layout) (place_at layout (words_told bytes) j) (place_at layout (words_told bytes) j) first bytes
    place_same j lt = part_same (place_size layout) (place_at layout (words_told bytes) j) (omega (arith, all_fit, place_within layout (words_told bytes) (places_told bytes) j lt))

    first_homes : (a : ℕ) → a < words_told bytes → home first a ≡ home bytes a
    first_homes a lt = home_same first bytes a (part_same WORD_SIZE (home_at a) (omega (arith, all_fit, home_within layout (words_told bytes) (places_told bytes) a lt)))

    first_formed : has_formed_records layout first ≡ has_formed_records layout bytes
    first_formed =
        let n : ℕ = words_told bytes in
        at_sizes (λ w p. are_formed layout w (record_at layout first w) p)
        ∙ each_same (λ j. is_formed layout n (record_at layout first n j)) (λ j. is_formed layout n (record_at layout bytes n j)) (places_told bytes) (λ j lt.
        formed_same_as layout n j first bytes (record_at layout bytes n j) (place_same j lt) refl)

    module _ (formed : has_formed_records layout bytes ≡ true) where
      first_records : SameRecords (places_told bytes) (record_at layout first (words_told bytes)) (records_told layout bytes)
      first_records j lt =
          let n : ℕ = words_told bytes in
          record_same layout first bytes n j (place_same j lt) (λ ps is. few_entries layout n ps (formed_at layout n (places_told bytes) j (records_told layout bytes) ps formed lt is))

      first_apart : has_records_apart layout first ≡ has_records_apart layout bytes
      first_apart =
          at_sizes (λ w p. are_apart (record_at layout first w) p)
          ∙ apart_same (record_at layout first (words_told bytes)) (records_told layout bytes) (places_told bytes) first_records

      first_small : has_small_values layout first ≡ has_small_values layout bytes
      first_small =
          let n : ℕ = words_told bytes in
          let m : ℕ = places_told bytes in
          let kept = record_at layout first n in
          at_sizes (λ w p. records_fit (record_at layout first w) p && homes_fit (home first) (record_at layout first w) p w)
          ∙ ap (λ b. b && homes_fit (home first) kept m n) (records_fit_same kept (records_told layout bytes) m first_records)
          ∙ ap (λ b. records_fit (records_told layout bytes) m && b) (homes_fit_same (home first) (home bytes) kept (records_told layout bytes) m n first_records first_homes)

  -- The first bytes of a layout have its damage.
  part_fault_first : part_fault layout first ≡ part_fault layout bytes
  part_fault_first =
      next_test _ _ _ _ _ first_sizes (λ ok.
      let sizes : AreSizes layout bytes = sizes_are layout bytes ok in
      next_test _ _ _ _ _ (first_all_bytes sizes) (λ _.
      next_test _ _ _ _ _ (first_formed sizes) (λ formed.
      next_test _ _ _ _ _ (first_apart sizes formed) (λ _.
      next_test _ _ _ _ _ (first_small sizes formed) (λ _. refl)))))

  -- If the layout has words, its first bytes have the same words, and the same entries of each place.
  told_words_first : HasWords layout (words_told bytes) (places_told bytes) (told_words layout bytes) bytes → told_words layout first ≡ told_words layout bytes
  told_words_first was =
      let n : ℕ = words_told bytes in
      let m : ℕ = places_told bytes in
      let fits : size layout n m ≤ MAX_SECOND = all_fit (sizes_are layout bytes was.head.sizes) in
      let long : size layout n m ≤ length first = omega (arith, length-take most bytes, was.long, fits, enough) in
      sym (told_are layout n m (told_words layout bytes) first (has_words_same layout n m (told_words layout bytes) bytes first was long (first_same (size layout n m) fits)))

  told_pairs_first : AreSizes layout bytes → has_formed_records layout bytes ≡ true → (place : ℕ) → place < places_told bytes → told_pairs layout first place ≡ told_pairs layout bytes place
  told_pairs_first sizes formed place lt =
      ap (λ w. unwrap_or (record_at layout first w place) []) words_told_first
      ∙ ap (λ r. unwrap_or r []) (first_records sizes formed place lt)

-- the damage found by the tests after the first layout's magic bytes, by the switch byte
rest_same : (switched switched2 : Bool) (a b a2 b2 : List (Bool × Damage)) → switched2 ≡ switched → (switched ≡ true → first_fault a2 ≡ first_fault a) → (switched ≡ false → first_fault b2 ≡ first_fault b)
    → first_fault (if switched2 then a2 else b2) ≡ first_fault (if switched then a else b)
rest_same true switched2 a b a2 b2 same seconds firsts = ap first_fault (cond-true switched2 a2 b2 same) ∙ seconds refl
rest_same false switched2 a b a2 b2 same seconds firsts = ap first_fault (cond-false switched2 a2 b2 same) ∙ firsts refl

-- the first MAX_FILE bytes of a file
module _ (bytes : List ℕ) where
  abbrev cut : List ℕ
  cut = take MAX_FILE bytes

  file_enough : MAX_SECOND ≤ MAX_FILE
  file_enough = omega arith

  pub is_switched_first : is_switched cut ≡ is_switched bytes
  is_switched_first = ap (λ b. b == COMMITTED) (get_or-take MAX_FILE bytes SWITCH_AT 0 (omega arith))

  second_at_first : second_at cut ≡ second_at bytes
  second_at_first = number_same WORD_SIZE SECOND_AT SECOND_AT cut bytes (part_same First bytes MAX_FILE file_enough WORD_SIZE SECOND_AT (omega arith))

  pub layout_of_first : layout_of cut ≡ layout_of bytes
  layout_of_first = ap (λ b. if b then Second else First) is_switched_first

  pub at_of_first : at_of cut ≡ at_of bytes
  at_of_first = ap (λ b. if b then second_at cut else 0) is_switched_first ∙ ap (λ n. if is_switched bytes then n else 0) second_at_first

  -- a second layout that may begin at its offset has its own first bytes among them
  drop_first : (at : ℕ) → at ≤ MAX_FIRST → drop at cut ≡ take (MAX_FILE - at) (drop at bytes)
  drop_first at le =
      let e : MAX_FILE ≡ at + (MAX_FILE - at) = omega (arith, le) in
      ap (λ n. drop at (take n bytes)) e ∙ drop-take at (MAX_FILE - at) bytes

  left_enough : (at : ℕ) → at ≤ MAX_FIRST → MAX_SECOND ≤ MAX_FILE - at
  left_enough at le = omega (arith, le)

  second_fault_first : first_fault (second_tests cut) ≡ first_fault (second_tests bytes)
  second_fault_first =
      next_test _ _ _ _ _ (ap may_begin second_at_first) (λ ok.
      let at : ℕ = second_at bytes in
      let le : at ≤ MAX_FIRST = (begins_within at ok).1 in
      let most : ℕ = MAX_FILE - at in
      let enough : MAX_SECOND ≤ most = left_enough at le in
      let part : List ℕ = drop at bytes in
      let p : drop (second_at cut) cut ≡ take most part = ap (λ n. drop n cut) second_at_first ∙ drop_first at le in
      next_test _ _ _ _ _ (ap has_head p ∙ long_same Second part most enough HEAD_SIZE (omega arith)) (λ _.
      next_test _ _ _ _ _ (ap (has_mark Second) p ∙ first_mark Second part most enough) (λ _.
      ap (part_fault Second) p ∙ part_fault_first Second part most enough)))

  -- The first bytes of a file have its damage.
  pub damage_of_first : damage_of cut ≡ damage_of bytes
  unfolding damage_of
  damage_of_first =
      next_test _ _ _ _ _ (long_same First bytes MAX_FILE file_enough HEAD_SIZE (omega arith)) (λ _.
      next_test _ _ _ _ _ (first_mark First bytes MAX_FILE file_enough) (λ _.
      rest_same (is_switched bytes) (is_switched cut) (second_tests bytes) (part_tests First bytes) (second_tests cut) (part_tests First cut) is_switched_first
      (λ _. second_fault_first) (λ _. part_fault_first First bytes MAX_FILE file_enough)))

  -- If it has none, they have its sizes, its words, and the entries of its places.
  module _ (none : damage_of bytes ≡ None) where
    begins : at_of bytes ≤ MAX_FIRST
    begins = at_fits bytes none

    most : ℕ
    most = MAX_FILE - at_of bytes

    enough : MAX_SECOND ≤ most
    unfolding most
    enough = left_enough (at_of bytes) begins

    part_first : part_of cut ≡ take most (part_of bytes)
    unfolding most
    part_first = ap (λ n. drop n cut) at_of_first ∙ drop_first (at_of bytes) begins

    pub words_of_first : words_of cut ≡ words_of bytes
    words_of_first = ap words_told part_first ∙ words_told_first (layout_of bytes) (part_of bytes) most enough

    pub found_places_first : found_places cut ≡ found_places bytes
    found_places_first = ap places_told part_first ∙ places_told_first (layout_of bytes) (part_of bytes) most enough

    pub places_of_first : places_of cut ≡ places_of bytes
    places_of_first =
        ap (λ b. if b then found_places cut else PLACES_GROW * found_places cut) is_switched_first
        ∙ ap (λ n. if is_switched bytes then n else PLACES_GROW * n) found_places_first

    pub words_in_first : words_in cut ≡ words_in bytes
    words_in_first =
        ap (λ l. told_words l (part_of cut)) layout_of_first ∙ ap (told_words (layout_of bytes)) part_first
        ∙ told_words_first (layout_of bytes) (part_of bytes) most enough (has_words bytes none)

    pub pairs_in_first : (place : ℕ) → place < found_places bytes → pairs_in cut place ≡ pairs_in bytes place
    pairs_in_first place lt =
        ap (λ l. told_pairs l (part_of cut) place) layout_of_first ∙ ap (λ xs. told_pairs (layout_of bytes) xs place) part_first
        ∙ told_pairs_first (layout_of bytes) (part_of bytes) most enough (sizes bytes none) (passes bytes none).part.formed place lt

  file_words_by : (damage : Option Damage) → damage_of bytes ≡ damage → file_words cut ≡ file_words bytes
  file_words_by None is = words_by cut None (damage_of_first ∙ is) ∙ ap Some (words_in_first is) ∙ sym (words_by bytes None is)
  file_words_by (Some fault) is = words_by cut (Some fault) (damage_of_first ∙ is) ∙ sym (words_by bytes (Some fault) is)

  -- The first bytes of a file have its words.
  pub file_words_first : file_words cut ≡ file_words bytes
  file_words_first = file_words_by (damage_of bytes) refl
