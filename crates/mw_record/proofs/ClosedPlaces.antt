-- If all record places of a layout are closed, its words are its home words. This holds of a new file, and of a second layout
-- that was just written.
-- Used by: mw_file, mw_world_file, new_files_have_zeros, second_layouts_have_their_words.
use Rattle.std.proofs.Common.{◌≡◌, ℕ, zero, suc, ◌+◌, ◌-◌, ◌*◌, ◌^◌, ◌<◌, ◌≤◌, ◌||◌, false, Some, None, List, [], ◌∷◌, ◌++◌, length, get_or, replicate, refl, sym, ap, ◌∙◌, subst, arith, append_assoc}
use Rattle.std.specs.List.{flat_map}
use Rattle.std.proofs.lemmas.List.{length-append, length-replicate, get_or-append_right, get_or_append_left}
use Rattle.std.proofs.lemmas.List.Elements.{All-get_or}
use Rattle.mw_words.specs.declared.limits.TheConstants.{MAX_VALUE}
use Rattle.mw_words.specs.Change.{AreWords}
use Rattle.mw_record.specs.declared.layout.Layout.{Layout}
use Rattle.mw_record.specs.declared.layout.Layout.TheVariants.{First, Second}
use Rattle.mw_record.specs.Layout.{size, home_at, place_at, number_at, number_bytes, header, new_file, second_part}
use Rattle.mw_record.specs.Records.{record_at, home, is_covered}
use Rattle.mw_record.specs.Damages.{is_switched, file_words}
use Rattle.mw_record.specs.Contents.{MayHave, IsHead, HasWords}
use Rattle.mw_record.proofs.TestsBelow.{has}
use Rattle.mw_record.proofs.OverlaidRecords.{all_miss}
use Rattle.mw_record.proofs.ReadBytes.{number_zero, number_written, record_shut, length-number_bytes}
use Rattle.mw_record.proofs.ReadAgain.{head_of_header, length-header}
use Rattle.mw_record.proofs.WrittenBytes.{length-words}
use Rattle.mw_record.proofs.Layouts.{place_within}
use Rattle.mw_record.proofs.Sound.{first_file}

get_or-zeros : (n k : ℕ) → get_or {A = ℕ} (replicate n 0) k 0 ≡ 0
get_or-zeros zero k = refl
get_or-zeros (suc n) zero = refl
get_or-zeros (suc n) (suc k) = get_or-zeros n k

-- If the bytes after the home words are all zeros, the layout's words are its home words.
module _ (layout : Layout) (words places : ℕ) (contents part : List ℕ) (head : IsHead layout words places part) (long : size layout words places ≤ length part)
    (count : length contents ≡ words)
    (homes : (a : ℕ) → a < words → home part a ≡ get_or contents a 0)
    (small : (a : ℕ) → a < words → get_or contents a 0 ≤ MAX_VALUE)
    (zeros : (k : ℕ) → home_at words ≤ k → k < size layout words places → get_or part k 0 ≡ 0) where
  no_records : (j : ℕ) → j < places → record_at layout part words j ≡ None
  no_records j lt =
      let at : ℕ = place_at layout words j in
      let fits : at < size layout words places = omega (arith, place_within layout words places j lt) in
      record_shut layout part words j at refl (λ commit. omega (arith, commit, zeros at (omega arith) fits))

  uncovered : (p a : ℕ) → p ≤ places → is_covered (record_at layout part words) p a ≡ false
  uncovered zero a le = refl
  uncovered (suc p) a le =
      ap (λ r. has r a || is_covered (record_at layout part words) p a) (no_records p (omega (arith, le))) ∙ uncovered p a (omega (arith, le))

  closed_has : HasWords layout words places contents part
  closed_has = record {
    head = head;
    long = long;
    stands = record {
      count = count;
      each = λ a lt. sym (all_miss (record_at layout part words) places a (home part a) (uncovered places a (omega arith)) ∙ homes a lt);
      small = small;
      formed = λ j ps lt is. absurd (let e : ⊥ = cc (is, no_records j lt) in e);
      apart = λ i j ps qs a p q ne is js hi hj. (let e : ⊥ = cc (is, no_records i p) in e);
    };
  }

-- A new file has the word 0 at every address.
module _ (words places : ℕ) (may : MayHave First words places) where
  zeros_after_head : (k : ℕ) → 32 ≤ k → get_or (new_file words places) k 0 ≡ 0
  zeros_after_head k past =
      let n : ℕ = 8 * words + 136 * places in
      get_or-append_right (header First words places) (replicate n 0) 32 k 0 (length-header First words places) past ∙ get_or-zeros n (k - 32)

  pub new_file_has : HasWords First words places (replicate words 0) (new_file words places)
  new_file_has =
      let image : List ℕ = new_file words places in
      let n : ℕ = 8 * words + 136 * places in
      let zero_at : (a : ℕ) → get_or {A = ℕ} (replicate words 0) a 0 ≡ 0 = get_or-zeros words in
      closed_has First words places (replicate words 0) image (head_of_header First words places (replicate n 0) may)
      (omega (arith, length-append (header First words places) (replicate n 0), length-header First words places, length-replicate {A = ℕ} n 0))
      (length-replicate words 0)
      (λ a lt. number_zero 8 (home_at a) image (λ k under. zeros_after_head (home_at a + k) (omega arith)) ∙ sym (zero_at a))
      (λ a lt. omega (arith, zero_at a))
      (λ k past lt. zeros_after_head k (omega (arith, past)))

-- the switch byte of a new file is clear
pub new_file_first : (words places : ℕ) → is_switched (new_file words places) ≡ false
unfolding number_bytes
new_file_first words places = refl

pub new_file_words : (words places : ℕ) → MayHave First words places → file_words (new_file words places) ≡ Some (replicate words 0)
new_file_words words places may = (first_file words places (replicate words 0) (new_file words places) (new_file_first words places) (new_file_has words places may)).0

-- words that were written one after the other are read again
word_written : (front rest ws : List ℕ) (i a : ℕ) → length front ≡ i → ((k : ℕ) → k < length ws → get_or ws k 0 < 256 ^ 8) → a < length ws
    → number_at (front ++ (flat_map (number_bytes 8) ws ++ rest)) (i + 8 * a) 8 ≡ get_or ws a 0
word_written front rest [] i a long fits lt = absurd (omega (arith, lt))
word_written front rest (w ∷ ws) i zero long fits lt =
    let block : List ℕ = number_bytes 8 w in
    let more : List ℕ = flat_map (number_bytes 8) ws ++ rest in
    let e : i + 8 * 0 ≡ i = omega arith in
    ap (λ xs. number_at (front ++ xs) (i + 8 * 0) 8) (append_assoc block (flat_map (number_bytes 8) ws) rest)
    ∙ ap (λ n. number_at (front ++ (block ++ more)) n 8) e
    ∙ number_written front more i 8 w long (fits 0 (omega arith))
word_written front rest (w ∷ ws) i (suc a) long fits lt =
    let block : List ℕ = number_bytes 8 w in
    let more : List ℕ = flat_map (number_bytes 8) ws ++ rest in
    let e : i + 8 * suc a ≡ (i + 8) + 8 * a = omega arith in
    let longer : length (front ++ block) ≡ i + 8 = omega (arith, length-append front block, length-number_bytes 8 w, long) in
    ap (λ xs. number_at (front ++ xs) (i + 8 * suc a) 8) (append_assoc block (flat_map (number_bytes 8) ws) rest)
    ∙ ap (λ xs. number_at xs (i + 8 * suc a) 8) (sym (append_assoc front block more))
    ∙ ap (λ n. number_at ((front ++ block) ++ more) n 8) e
    ∙ word_written (front ++ block) rest ws (i + 8) a longer (λ k under. fits (suc k) (omega (arith, under))) (omega (arith, lt))

-- the number of bytes of a second layout that was written
pub length-second_part : (contents : List ℕ) (places : ℕ) → length (second_part places contents) ≡ size Second (length contents) places
length-second_part contents places =
    let n : ℕ = length contents in
    let homes : List ℕ = flat_map (number_bytes 8) contents in
    omega (
      arith,
      length-append (header Second n places) (homes ++ replicate (264 * places) 0),
      length-header Second n places,
      length-append homes (replicate (264 * places) 0),
      length-words contents,
      length-replicate {A = ℕ} (264 * places) 0,
    )

-- A second layout that was written has its words, whatever bytes follow it.
module _ (contents rest : List ℕ) (places : ℕ) (may : MayHave Second (length contents) places) (are : AreWords contents) where
  abbrev words : ℕ
  words = length contents

  abbrev written_homes : List ℕ
  written_homes = flat_map (number_bytes 8) contents

  abbrev behind : List ℕ
  behind = replicate (264 * places) 0 ++ rest

  abbrev image : List ℕ
  image = second_part places contents ++ rest

  in_parts : image ≡ header Second words places ++ (written_homes ++ behind)
  in_parts =
      append_assoc (header Second words places) (written_homes ++ replicate (264 * places) 0) rest
      ∙ ap (λ xs. header Second words places ++ xs) (append_assoc written_homes (replicate (264 * places) 0) rest)

  value_at : (a : ℕ) → a < words → get_or contents a 0 ≤ MAX_VALUE
  value_at a lt = All-get_or (λ v. v ≤ MAX_VALUE) contents a 0 lt are

  home_is : (a : ℕ) → a < words → home image a ≡ get_or contents a 0
  home_is a lt =
      ap (λ xs. number_at xs (home_at a) 8) in_parts
      ∙ word_written (header Second words places) behind contents 32 a (length-header Second words places) (λ k under. omega (arith, value_at k under)) lt

  zero_behind : (k : ℕ) → home_at words ≤ k → k < size Second words places → get_or image k 0 ≡ 0
  zero_behind k past lt =
      let head : List ℕ = header Second words places in
      ap (λ xs. get_or xs k 0) in_parts
      ∙ get_or-append_right head (written_homes ++ behind) 32 k 0 (length-header Second words places) (omega (arith, past))
      ∙ get_or-append_right written_homes behind (8 * words) (k - 32) 0 (length-words contents) (omega (arith, past))
      ∙ get_or_append_left (replicate (264 * places) 0) rest 0 ((k - 32) - 8 * words) (omega (arith, past, lt, length-replicate {A = ℕ} (264 * places) 0))
      ∙ get_or-zeros (264 * places) ((k - 32) - 8 * words)

  pub second_part_has : HasWords Second (length contents) places contents (second_part places contents ++ rest)
  second_part_has =
      let head : IsHead Second words places image = subst (IsHead Second words places) (sym in_parts) (head_of_header Second words places (written_homes ++ behind) may) in
      closed_has Second words places contents image head
      (omega (arith, length-append (second_part places contents) rest, length-second_part contents places))
      refl home_is value_at zero_behind
