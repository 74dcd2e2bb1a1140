-- A crash while a file gets its second layout leaves a file of the same words. After the migration the second layout is in
-- use, with these words.
-- Used by: lay, migrate.
use Rattle.std.proofs.Common.{◌≡◌, ℕ, ◌+◌, ◌*◌, ◌-◌, ◌^◌, ◌<◌, ◌≤◌, ◌==◌, true, false, None, List, [], ◌∷◌, ◌++◌, length, take, drop, replicate, slice_index, get_or, refl, sym, ap, ◌∙◌, inl, inr, arith, subst}
use Rattle.std.specs.List.{flat_map}
use Rattle.std.proofs.lemmas.Bool.{cases_eq, cases_lt, eq-eqb, ne_eqb, le-leb, and_from}
use Rattle.std.proofs.lemmas.List.{get_or-drop, get_or-append-add, get_or_append_left, get_or_past, get_or-replicate, length-append, length-take-le, length-drop, length-replicate}
use Rattle.mw_disk.specs.Facts.{Facts, IsSynced, patched}
use Rattle.mw_disk.specs.Runs.{SameBut, Touched, Fits, LeavesOnly}
use Rattle.mw_disk.proofs.RunLaws.{fits_rest, leaves, leaves_more, touched_wider}
use Rattle.mw_record.specs.declared.layout.Layout.TheVariants.{First, Second}
use Rattle.mw_record.specs.declared.layout.TheConstants.{HEAD_SIZE, WORD_SIZE, COMMITTED, SWITCH_AT, SECOND_AT, MAX_FIRST, PLACES_GROW, SECOND_MAGIC}
use Rattle.mw_record.specs.Layout.{size, place_at, place_size, header, number_bytes, second_part}
use Rattle.mw_record.specs.Records.{record_at}
use Rattle.mw_record.specs.Damages.{is_switched, second_at, may_begin}
use Rattle.mw_record.specs.Contents.{MayHave, HasWords, HasSecond}
use Rattle.mw_record.proofs.ReadBytes.{number_same, number_written, length-number_bytes, get_patched, get_patched_after, length-patched, record_shut}
use Rattle.mw_record.proofs.ChangedBytes.{has_words_same, first_stays}
use Rattle.mw_record.proofs.ClosedPlaces.{second_part_has, length-second_part}
use Rattle.mw_record.proofs.Faults.{sizes_are}
use Rattle.mw_record.proofs.Sound.{first_file, second_file, are_words}
use Rattle.mw_file.specs.RecoveryInvariant.{IsFile}
use Rattle.mw_file.specs.Migration.{GrownBut, Grown, InSwitch, given_second, IsLaid, CanMigrate, IsMigrated}
use Rattle.mw_file.specs.RollForward.{InRange}
use Rattle.mw_file.proofs.Grown.{leaves_grown, grown_more, grown_wider, grown_touched}

-- a file in its first layout is a file of its words, and so is one with a second layout
pub is_first : (words places : ℕ) (contents image : List ℕ) → is_switched image ≡ false → HasWords First words places contents image → IsFile (PLACES_GROW * places) contents image
is_first words places contents image unswitched has =
    let f = first_file words places contents image unswitched has in
    record { words_are = f.0; places_are = f.2 }

pub is_second : (at words places : ℕ) (contents image : List ℕ) → HasSecond at words places contents image → IsFile places contents image
is_second at words places contents image has =
    let f = second_file at words places contents image has in
    record { words_are = f.0; places_are = f.2 }

-- the sizes of a file's first layout are within the limits
first_sizes : (words places : ℕ) (contents image : List ℕ) → HasWords First words places contents image → MayHave First words places
first_sizes words places contents image has =
    let sizes = sizes_are First image has.head.sizes in
    let w = has.head.words_are in
    let p = has.head.places_are in
    record {
      some_word = omega (arith, w, sizes.some_word);
      words_fit = omega (arith, w, sizes.words_fit);
      some_place = omega (arith, p, sizes.some_place);
      places_fit = omega (arith, p, sizes.places_fit);
    }

-- the second layout may begin where the first ends
may_begin_behind : (words places : ℕ) → MayHave First words places → may_begin (size First words places) ≡ true
may_begin_behind words places may =
    and_from _ _ (le-leb HEAD_SIZE (size First words places) (omega arith))
    (le-leb (size First words places) MAX_FIRST (omega (arith, may.words_fit, may.places_fit)))

-- Before the switch byte is set the file is in its first layout, whatever was written after that layout and as the head's offset.
module _ (words places : ℕ) (contents b : List ℕ) (has : HasWords First words places contents b) (unswitched : is_switched b ≡ false)
    (c : List ℕ) (grown : GrownBut (InRange SECOND_AT WORD_SIZE) (size First words places) b c) where
  pub still_first : HasWords First words places contents c
  still_first =
      first_stays words places contents b c has (omega (arith, has.long, grown.longer))
      (λ k lt which. grown.same k lt (omega (arith, has.long, lt)) (λ s. elim which [
        | inl low ↦ omega (arith, low, s.from)
        | inr high ↦ omega (arith, high, s.to)
      ]))

  pub still_unswitched : is_switched c ≡ false
  still_unswitched =
      ap (λ v. v == COMMITTED) (grown.same SWITCH_AT (omega arith) (omega (arith, has.long)) (λ s. omega (arith, s.from))) ∙ unswitched

length_head : (words places : ℕ) → length (header Second words places) ≡ HEAD_SIZE
length_head words places =
    let w : List ℕ = number_bytes 4 words in
    let p : List ℕ = number_bytes 2 places in
    let z : List ℕ = replicate 18 0 in
    omega (arith, length-append SECOND_MAGIC (w ++ (p ++ z)), length-append w (p ++ z), length-append p z, length-number_bytes 4 words, length-number_bytes 2 places, length-replicate {A = ℕ} 18 0)

length_homes : (contents : List ℕ) → length (flat_map (number_bytes WORD_SIZE) contents) ≡ WORD_SIZE * length contents
length_homes [] = refl
length_homes (x ∷ xs) =
    omega (arith, length-append (number_bytes WORD_SIZE x) (flat_map (number_bytes WORD_SIZE) xs), length-number_bytes WORD_SIZE x, length_homes xs)

-- a byte of zeros is 0, and so is one past their end
zero_at : (n k : ℕ) → slice_index (replicate n 0) k ≡ 0
zero_at n k = elim (cases_lt k n) [
  | inl within ↦ get_or-replicate n k 0 0 within
  | inr past ↦ get_or_past (replicate n 0) k 0 (omega (arith, past, length-replicate {A = ℕ} n 0))
]

-- the bytes of a second layout after its home words are zeros
pub zeros_behind : (places : ℕ) (contents : List ℕ) (k : ℕ) → HEAD_SIZE + WORD_SIZE * length contents ≤ k → slice_index (second_part places contents) k ≡ 0
zeros_behind places contents k past =
    let head : List ℕ = header Second (length contents) places in
    let homes : List ℕ = flat_map (number_bytes WORD_SIZE) contents in
    let zeros : List ℕ = replicate (place_size Second * places) 0 in
    let j : ℕ = k - (HEAD_SIZE + WORD_SIZE * length contents) in
    let is : k ≡ length head + (length homes + j) = omega (arith, past, length_head (length contents) places, length_homes contents) in
    ap (λ i. get_or (head ++ (homes ++ zeros)) i 0) is ∙ get_or-append-add head (homes ++ zeros) (length homes + j) 0 ∙ get_or-append-add homes zeros j 0
    ∙ zero_at (place_size Second * places) j

-- Once the second layout and its offset are in the file, the switch byte tells which layout counts, and both have the same words.
module _ (at words places : ℕ) (contents second b : List ℕ) (has : HasWords First words places contents b) (ends : at ≡ size First words places)
    (bytes : second ≡ second_part (PLACES_GROW * places) contents) (laid : IsLaid at second b)
    (c : List ℕ) (same : SameBut (InRange SWITCH_AT 1) b c) where
  first_there : HasWords First words places contents c
  first_there =
      first_stays words places contents b c has (omega (arith, has.long, same.size))
      (λ k lt which. same.outside k (λ s. elim which [
        | inl low ↦ omega (arith, low, s.from)
        | inr high ↦ omega (arith, high, s.to)
      ]))

  sizes_second : MayHave Second (length contents) (PLACES_GROW * places)
  sizes_second =
      let may = first_sizes words places contents b has in
      let count = has.stands.count in
      record {
        some_word = omega (arith, count, may.some_word);
        words_fit = omega (arith, count, may.words_fit);
        some_place = omega (arith, may.some_place);
        places_fit = omega (arith, may.places_fit);
      }

  long_second : length second ≡ size Second words (PLACES_GROW * places)
  long_second = ap length bytes ∙ length-second_part contents (PLACES_GROW * places) ∙ ap (λ n. size Second n (PLACES_GROW * places)) has.stands.count

  -- the second layout's bytes are there from its offset on
  part_there : (k : ℕ) → k < length second → slice_index (drop at c) k ≡ slice_index (second_part (PLACES_GROW * places) contents) k
  part_there k lt =
      get_or-drop at c k 0 ∙ same.outside (at + k) (λ s. omega (arith, s.to, ends)) ∙ laid.there k lt ∙ ap (λ bs. slice_index bs k) bytes

  part_long : length second ≤ length (drop at c)
  part_long = let e = length-drop at c in let l = laid.long in let m = same.size in omega arith

  pub second_words : HasWords Second words (PLACES_GROW * places) contents (drop at c)
  second_words =
      let whole : List ℕ = second_part (PLACES_GROW * places) contents ++ [] in
      let fresh = second_part_has contents [] (PLACES_GROW * places) sizes_second (are_words First words places contents b has) in
      let fresh2 = subst (λ (n : ℕ). HasWords Second n (PLACES_GROW * places) contents whole) has.stands.count fresh in
      has_words_same Second words (PLACES_GROW * places) contents whole (drop at c) fresh2 (omega (arith, part_long, long_second))
      (λ k lt.
      part_there (0 + k) (omega (arith, lt, long_second))
      ∙ sym (get_or_append_left (second_part (PLACES_GROW * places) contents) [] 0 (0 + k) (omega (arith, lt, long_second, ap length bytes))))

  pub switched_file : slice_index c SWITCH_AT ≡ COMMITTED → HasSecond at words (PLACES_GROW * places) contents c
  switched_file set = record {
    head = record {
      mark = first_there.head.mark;
      switched = eq-eqb _ _ set;
      begins = number_same WORD_SIZE SECOND_AT SECOND_AT c b (λ k lt. same.outside (SECOND_AT + k) (λ s. omega (arith, s.to))) ∙ laid.told;
      fits = ap may_begin ends ∙ may_begin_behind words places (first_sizes words places contents b has);
    };
    part = second_words;
  }

  -- the file has these words, whether the switch byte is set or not
  pub either_layout : IsFile (PLACES_GROW * places) contents c
  either_layout = elim (cases_eq (slice_index c SWITCH_AT) COMMITTED) [
    | inl set ↦ is_second at words (PLACES_GROW * places) contents c (switched_file set)
    | inr clear ↦ is_first words places contents c (ne_eqb _ _ clear) first_there
  ]

  -- the second layout's places are closed
  pub all_closed : (place : ℕ) → place < PLACES_GROW * places → record_at Second (drop at c) words place ≡ None
  all_closed place lt =
      let k : ℕ = place_at Second words place in
      let zero : slice_index (drop at c) k ≡ 0 =
      part_there k (omega (arith, lt, long_second)) ∙ zeros_behind (PLACES_GROW * places) contents k (omega (arith, has.stands.count)) in
      record_shut Second (drop at c) words place k refl (λ set. omega (arith, zero, set))

-- after a write the bytes reach at least to its end
long_enough : (old : List ℕ) (at : ℕ) (block : List ℕ) → at ≤ length old → at + length block ≤ length (patched old at block)
long_enough old at block within =
    omega (
      arith,
      within,
      length-append (take at old) (block ++ drop (at + length block) old),
      length-append block (drop (at + length block) old),
      length-take-le at old within,
    )

-- After the two writes the file has the second layout's bytes, and its head tells their offset.
pub laid_bytes : (at : ℕ) (second offset b b1 b2 : List ℕ) → at < 256 ^ WORD_SIZE → offset ≡ number_bytes WORD_SIZE at → SECOND_AT + WORD_SIZE ≤ at → at ≤ length b
    → b1 ≡ patched b at second → b2 ≡ patched b1 SECOND_AT offset → IsLaid at second b2
laid_bytes at second offset b b1 b2 small is_offset low within is1 is2 =
    let eight : length offset ≡ WORD_SIZE = ap length is_offset ∙ length-number_bytes WORD_SIZE at in
    let long1 : at + length second ≤ length b1 = omega (arith, ap length is1, long_enough b at second within) in
    let read : (k : ℕ) → SECOND_AT + length offset ≤ k → slice_index b2 k ≡ slice_index b1 k =
    λ k past. ap (λ bs. slice_index bs k) is2 ∙ get_patched_after b1 SECOND_AT offset k (omega (arith, long1, low)) past in
    record {
      told =
          ap second_at (is2 ∙ ap (patched b1 SECOND_AT) is_offset)
          ∙ number_written (take SECOND_AT b1) (drop (SECOND_AT + length (number_bytes WORD_SIZE at)) b1) SECOND_AT WORD_SIZE at
          (length-take-le SECOND_AT b1 (omega (arith, long1, low))) small;
      long = omega (arith, long1, low, eight, ap length is2, length-patched b1 SECOND_AT offset (omega (arith, long1, low, eight)));
      there = λ k lt.
          read (at + k) (omega (arith, low, eight)) ∙ ap (λ bs. slice_index bs (at + k)) is1 ∙ get_patched b at second k within lt;
    }

-- Which bytes the migration may change, and what a read gives after it.
module _ (start mid new : Facts) (at : ℕ) where
  pub laying_grown : Grown (InRange SECOND_AT WORD_SIZE) at start mid → Grown InSwitch at start mid
  laying_grown grown = grown_wider (InRange SECOND_AT WORD_SIZE) InSwitch at start mid (λ k s. inr s) grown

  pub switching_grown : Grown (InRange SECOND_AT WORD_SIZE) at start mid → Touched (InRange SWITCH_AT 1) mid new → Grown InSwitch at start new
  switching_grown grown touched =
      grown_more InSwitch at start mid new (laying_grown grown)
      (grown_touched InSwitch at mid new (touched_wider (InRange SWITCH_AT 1) InSwitch mid new (λ k s. inl s) touched))

  pub all_given : (second : List ℕ) → mid.reads ≡ patched (patched start.reads at second) SECOND_AT (number_bytes WORD_SIZE at)
      → new.reads ≡ patched mid.reads SWITCH_AT (COMMITTED ∷ []) → new.reads ≡ given_second at second start.reads
  all_given second laid set = set ∙ ap (λ bs. patched bs SWITCH_AT (COMMITTED ∷ [])) laid

-- the second layout's offset is after the head's offset field, and within the bytes or at their end
module _ (start : Facts) (at words places : ℕ) (contents second : List ℕ) (can : CanMigrate start at words places contents second) where
  pub low_enough : SECOND_AT + WORD_SIZE ≤ at
  low_enough = omega (arith, can.ends)

  pub reaches : at ≤ length start.reads
  reaches = omega (arith, can.ends, can.has.long)

-- The first half, on a disk: it writes the second layout and its offset.
module _ (start : Facts) (at words places : ℕ) (contents second : List ℕ) (can : CanMigrate start at words places contents second)
    (mid : Facts) (grown : Grown (InRange SECOND_AT WORD_SIZE) at start mid) where
  grown_here : (c : List ℕ) → GrownBut (InRange SECOND_AT WORD_SIZE) at start.reads c → GrownBut (InRange SECOND_AT WORD_SIZE) (size First words places) start.reads c
  grown_here c g = subst (λ (n : ℕ). GrownBut (InRange SECOND_AT WORD_SIZE) n start.reads c) can.ends g

  first_file_still : (c : List ℕ) → GrownBut (InRange SECOND_AT WORD_SIZE) at start.reads c → IsFile (PLACES_GROW * places) contents c
  first_file_still c g =
      is_first words places contents c (still_unswitched words places contents start.reads can.has can.unswitched c (grown_here c g))
      (still_first words places contents start.reads can.has can.unswitched c (grown_here c g))

  pub laying_moments : LeavesOnly start mid (IsFile (PLACES_GROW * places) contents)
  laying_moments = leaves_grown (InRange SECOND_AT WORD_SIZE) at start mid can.rest grown first_file_still

  pub laying_read : IsFile (PLACES_GROW * places) contents mid.reads
  laying_read = first_file_still mid.reads grown.seen

  mid_first : HasWords First words places contents mid.reads
  mid_first = still_first words places contents start.reads can.has can.unswitched mid.reads (grown_here mid.reads grown.seen)

  pub switch_fits : IsSynced mid → Fits mid (SWITCH_AT + 1)
  switch_fits rest = fits_rest mid (SWITCH_AT + 1) rest (omega (arith, mid_first.long))

  -- The second half: it sets the switch byte, after the first half is synced.
  module _ (rest : IsSynced mid) (laid : IsLaid at second mid.reads) (new : Facts) (touched : Touched (InRange SWITCH_AT 1) mid new) where
    pub switching_moments : LeavesOnly start new (IsFile (PLACES_GROW * places) contents)
    switching_moments =
        leaves_more start mid new laying_moments
        (leaves (InRange SWITCH_AT 1) mid new rest touched (λ c same. either_layout at words places contents second mid.reads mid_first can.ends can.bytes laid c same))

    pub switching_read : IsFile (PLACES_GROW * places) contents new.reads
    switching_read = either_layout at words places contents second mid.reads mid_first can.ends can.bytes laid new.reads touched.seen

    pub migrated : IsSynced new → new.reads ≡ patched mid.reads SWITCH_AT (COMMITTED ∷ []) → IsMigrated new at words (PLACES_GROW * places) contents
    migrated at_rest written =
        let set : slice_index new.reads SWITCH_AT ≡ COMMITTED =
        ap (λ bs. slice_index bs SWITCH_AT) written ∙ get_patched mid.reads SWITCH_AT (COMMITTED ∷ []) 0 (omega (arith, mid_first.long)) (omega arith) in
        record {
          rest = at_rest;
          has = switched_file at words places contents second mid.reads mid_first can.ends can.bytes laid new.reads touched.seen set;
          closed = all_closed at words places contents second mid.reads mid_first can.ends can.bytes laid new.reads touched.seen;
        }
