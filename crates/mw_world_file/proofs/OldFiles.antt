-- An old file (made, but never opened) represents words 0 with the change of its open record put over them.
-- Used by: SimulatedFile::unopened, old_bytes.
use Rattle.std.proofs.Common.{◌≡◌, ℕ, zero, suc, ◌+◌, ◌-◌, ◌*◌, ◌&&◌, ◌<◌, ◌≤◌, true, false, nat_le, None, Some, Result, Ok, Err, IfOk, Vec, List, [], ◌∷◌, ◌++◌, length, replicate, get_or, refl, sym, ap, ◌∙◌, subst, inl, inr, arith, append_assoc}
use Rattle.std.specs.declared.alloc.Global.{Global}
use Rattle.std.specs.List.{flat_map}
use Rattle.std.proofs.lemmas.Bool.{and_from, and_parts, cases_lt, le-leb}
use Rattle.std.proofs.lemmas.List.{get_or_append_left, get_or-append_right, get_or-take, length-append, length-map, length-replicate, length-take-le}
use Rattle.mw_words.specs.declared.limits.TheConstants.{MAX_ENTRIES}
use Rattle.mw_words.specs.declared.jobs.Entry.{Entry}
use Rattle.mw_words.specs.Change.{is_change, put}
use Rattle.mw_record.specs.declared.layout.Layout.TheVariants.{First}
use Rattle.mw_record.specs.declared.layout.TheConstants.{BODY_SIZE, COMMITTED, ENTRY_SIZE, FIRST_ENTRIES, HEAD_SIZE, PLACES_GROW, WORD_SIZE}
use Rattle.mw_record.specs.Layout.{body, entry_bytes, header, home_at, number_bytes, pairs_of, place_at, place_size}
use Rattle.mw_record.specs.Records.{Pairs, all_over, home, is_record, record_at, rises_below}
use Rattle.mw_record.specs.Contents.{HasWords, MayHave, Represents}
use Rattle.mw_record.specs.Damages.{is_switched}
use Rattle.mw_record.proofs.Changes.{Opens, stands_more}
use Rattle.mw_record.proofs.ReadAgain.{body_again, head_of_header, length-header, length_of_change, numbers_of_change, put-put_pairs, record_of_change, values_of_change}
use Rattle.mw_record.proofs.ReadBytes.{number_zero, record_open, record_shut}
use Rattle.mw_record.proofs.Sound.{first_file}
use Rattle.mw_record.proofs.Writes.{length-body, length-entries}
use Rattle.mw_file.specs.RecoveryInvariant.{IsFile}
use Rattle.mw_disk.specs.Facts.{IsSynced}
use Rattle.mw_memory_disk.specs.Memory.{Memory, memory_facts}
use Rattle.mw_world_file.specs.declared.device.Device.TheVariants.{Shut}
use Rattle.mw_world_file.specs.declared.places.Place.{Place as KeptPlace}
use Rattle.mw_world_file.specs.declared.places.Place.TheVariants.{Empty as KeptEmpty}
use Rattle.mw_world.specs.declared.old_files.TheConstants.{OLD_ENTRIES}
use Rattle.mw_world_file.specs.declared.unopened.TheConstants.{OLD_BODY}
use Rattle.mw_world_file.specs.Books.{PartsRepresent}
use Rattle.mw_world_file.specs.Devices.{place_in}
use Rattle.mw_world.specs.Files.State.{broken, file_of}
use Rattle.mw_world_file.specs.OldFiles.{old_body, old_file}
use Rattle.mw_world_file.proofs.OpenedFiles.{none_there, zero_there}

-- if no record is open, a value stays
none_over : (places addr value : ℕ) → all_over (λ place. None) places addr value ≡ value
none_over zero addr value = refl
none_over (suc places) addr value = none_over places addr value

-- after its entries a record's body has zeros
body_zero : (change : List Entry) (k : ℕ) → length change ≤ OLD_ENTRIES → OLD_BODY ≤ k → get_or (body change) k 0 ≡ 0
body_zero change k few past =
    let n : ℕ = length change in
    let entries : List ℕ = flat_map entry_bytes change in
    let front : List ℕ = n ∷ (replicate 6 0 ++ entries) in
    let zeros : List ℕ = replicate (ENTRY_SIZE * (MAX_ENTRIES - n)) 0 in
    let parts : body change ≡ front ++ zeros = ap (λ xs. n ∷ xs) (sym (append_assoc (replicate 6 0) entries zeros)) in
    let long : length front ≡ 7 + ENTRY_SIZE * n = omega (arith, length-append (replicate {A = ℕ} 6 0) entries, length-entries change) in
    ap (λ xs. get_or xs k 0) parts
    ∙ get_or-append_right front zeros (7 + ENTRY_SIZE * n) k 0 long (omega (arith, few, past))
    ∙ zero_there (ENTRY_SIZE * (MAX_ENTRIES - n)) (k - (7 + ENTRY_SIZE * n))

-- a change with so few entries is a record of the first layout
first_record : (words : ℕ) (change : List Entry) → length change ≤ OLD_ENTRIES → is_change words change ≡ true → is_record First words (pairs_of change) ≡ true
first_record words change few formed =
    let pairs : Pairs = pairs_of change in
    let outer = and_parts (nat_le 1 (length pairs) && nat_le (length pairs) MAX_ENTRIES) (rises_below words 0 pairs) (record_of_change words change formed) in
    let inner = and_parts (nat_le 1 (length pairs)) (nat_le (length pairs) MAX_ENTRIES) outer.0 in
    let long = length-map {B = ℕ × ℕ} change (λ e. (e.addr, e.new)) in
    and_from (nat_le 1 (length pairs) && nat_le (length pairs) FIRST_ENTRIES) (rises_below words 0 pairs)
    (and_from (nat_le 1 (length pairs)) (nat_le (length pairs) FIRST_ENTRIES) inner.0 (le-leb (length pairs) FIRST_ENTRIES (omega (arith, long, few)))) outer.1

-- The bytes of an old file.
module _ (words places : ℕ) (change : List Entry) (few : length change ≤ OLD_ENTRIES) (may : MayHave First words places) (formed : is_change words change ≡ true) where
  abbrev image : List ℕ
  image = old_file words places change

  abbrev zeros : List ℕ
  zeros = replicate (WORD_SIZE * words) 0

  abbrev others : List ℕ
  others = replicate (place_size First * (places - 1)) 0

  abbrev from_first : List ℕ
  from_first = COMMITTED ∷ (old_body change ++ others)

  -- the bytes of the first place
  long_body : length (old_body change) ≡ OLD_BODY
  long_body = length-take-le OLD_BODY (body change) (let long = length-body change (length_of_change words change formed) in omega (arith, long))

  -- the bytes after the head
  behind_head : (k : ℕ) → get_or image (HEAD_SIZE + k) 0 ≡ get_or (zeros ++ from_first) k 0
  behind_head k =
      get_or-append_right (header First words places) (zeros ++ from_first) HEAD_SIZE (HEAD_SIZE + k) 0 (length-header First words places) (omega arith)
      ∙ ap (λ n. get_or (zeros ++ from_first) n 0) (let e : (HEAD_SIZE + k) - HEAD_SIZE ≡ k = omega arith in e)

  -- the home words are zeros
  home_zero : (a : ℕ) → a < words → home image a ≡ 0
  home_zero a low = number_zero WORD_SIZE (home_at a) image (λ k lt.
      let within : WORD_SIZE * a + k < length zeros = let long = length-replicate {A = ℕ} (WORD_SIZE * words) 0 in omega (arith, low, lt, long) in
      ap (λ n. get_or image n 0) (let e : home_at a + k ≡ HEAD_SIZE + (WORD_SIZE * a + k) = omega arith in e)
      ∙ behind_head (WORD_SIZE * a + k) ∙ get_or_append_left zeros from_first 0 (WORD_SIZE * a + k) within ∙ zero_there (WORD_SIZE * words) (WORD_SIZE * a + k))

  -- the bytes from the first place on
  from_place : (k : ℕ) → get_or image (place_at First words 0 + k) 0 ≡ get_or from_first k 0
  from_place k =
      ap (λ n. get_or image n 0) (let e : place_at First words 0 + k ≡ HEAD_SIZE + (WORD_SIZE * words + k) = omega arith in e)
      ∙ behind_head (WORD_SIZE * words + k)
      ∙ get_or-append_right zeros from_first (WORD_SIZE * words) (WORD_SIZE * words + k) 0 (length-replicate {A = ℕ} (WORD_SIZE * words) 0) (omega arith)
      ∙ ap (λ n. get_or from_first n 0) (let e : (WORD_SIZE * words + k) - WORD_SIZE * words ≡ k = omega arith in e)

  committed : get_or image (place_at First words 0) 0 ≡ COMMITTED
  committed = ap (λ n. get_or image n 0) (let e : place_at First words 0 ≡ place_at First words 0 + 0 = omega arith in e) ∙ from_place 0

  others_there : (k : ℕ) → OLD_BODY ≤ k → get_or image (place_at First words 0 + suc k) 0 ≡ 0
  others_there k past =
      from_place (suc k) ∙ get_or-append_right (old_body change) others OLD_BODY k 0 long_body past ∙ zero_there (place_size First * (places - 1)) (k - OLD_BODY)

  body_there : (k : ℕ) → k < BODY_SIZE → get_or image ((place_at First words 0 + 1) + k) 0 ≡ get_or (body change) (0 + k) 0
  body_there k lt =
      ap (λ n. get_or image n 0) (let e : (place_at First words 0 + 1) + k ≡ place_at First words 0 + suc k = omega arith in e)
      ∙ elim (cases_lt k OLD_BODY) [
        | inl low ↦ from_place (suc k) ∙ get_or_append_left (old_body change) others 0 k (let long = long_body in omega (arith, low, long)) ∙ get_or-take OLD_BODY (body change) k 0 low
        | inr past ↦ others_there k past ∙ sym (body_zero change k few past)
      ]
      ∙ ap (λ n. get_or (body change) n 0) (let e : k ≡ 0 + k = omega arith in e)

  -- the change is open in the first place, and all others are closed
  is_open : record_at First image words 0 ≡ Some (pairs_of change)
  is_open =
      record_open First image words 0 (place_at First words 0) refl committed
      ∙ ap Some (body_again image (place_at First words 0) change (length_of_change words change formed) (numbers_of_change words change may.words_fit formed) body_there)

  is_shut : (j : ℕ) → record_at First image words (suc j) ≡ None
  is_shut j = record_shut First image words (suc j) (place_at First words (suc j)) refl (λ commit.
      let zero_here : get_or image (place_at First words (suc j)) 0 ≡ 0 =
      ap (λ n. get_or image n 0) (let e : place_at First words (suc j) ≡ place_at First words 0 + suc (OLD_BODY + place_size First * j) = omega arith in e)
      ∙ others_there (OLD_BODY + place_size First * j) (omega arith) in
      omega (arith, commit, zero_here))

  zeros_stand : Represents First words places (home image) (λ place. None) (replicate words 0)
  zeros_stand = record {
    count = length-replicate words 0;
    each = λ a lt. zero_there words a ∙ sym (none_over places a (home image a) ∙ home_zero a lt);
    small = λ a lt. (let none = zero_there words a in omega (arith, none));
    formed = λ j ps lt is. absurd (let e : None ≡ Some ps = is in cc);
    apart = λ i j ps qs a p q ne is js hi hj. (let e : None ≡ Some ps = is in cc);
  }

  opens : Opens First words places 0 (pairs_of change) (λ place. None) (record_at First image words)
  opens = record {
    within = let some = may.some_place in omega (arith, some);
    was_shut = refl;
    is_open = is_open;
    others = λ j lt other. closed j other;
    formed = first_record words change few formed;
    values = values_of_change words change formed;
    alone = λ j qs a lt is held. absurd (let e : None ≡ Some qs = is in cc);
  } where
    closed : (j : ℕ) → (j ≡ 0 → ⊥) → record_at First image words j ≡ None
    closed zero other = absurd (other refl)
    closed (suc j) other = is_shut j

  pub old_file_has : HasWords First words places (put (replicate words 0) change) image
  old_file_has = record {
    head = head_of_header First words places (zeros ++ from_first) may;
    long =
        let some = may.some_place in
        omega (
          arith,
          some,
          length-append (header First words places) (zeros ++ from_first),
          length-header First words places,
          length-append zeros from_first,
          length-replicate {A = ℕ} (WORD_SIZE * words) 0,
          length-append (old_body change) others,
          long_body,
          length-replicate {A = ℕ} (place_size First * (places - 1)) 0,
        );
    stands = subst (λ ws. Represents First words places (home image) (record_at First image words) ws) (sym (put-put_pairs change (replicate words 0)))
        (stands_more First words places 0 (pairs_of change) (home image) (λ place. None) (record_at First image words) (replicate words 0) opens zeros_stand);
  }

  old_file_first : is_switched image ≡ false
  unfolding number_bytes
  old_file_first = refl

  -- the bytes are a file of the change put over zeros
  pub old_is_file : IsFile (PLACES_GROW * places) (put (replicate words 0) change) image
  old_is_file = let file = first_file words places (put (replicate words 0) change) image old_file_first old_file_has in record { words_are = file.0; places_are = file.2 }

-- so are the bytes that were made
pub made_old : {E : Type 0} (words places : ℕ) (change : List Entry) (made : Result (Vec ℕ Global) E) → length change ≤ OLD_ENTRIES → MayHave First words places → is_change words change ≡ true
    → IfOk made (λ bytes. bytes.items ≡ old_file words places change) → IfOk made (λ bytes. IsFile (PLACES_GROW * places) (put (replicate words 0) change) bytes.items)
made_old words places change (Ok bytes) few may formed same = subst (λ (image : List ℕ). IsFile (PLACES_GROW * places) (put (replicate words 0) change) image) (sym same) (old_is_file words places change few may formed)
made_old words places change (Err fault) few may formed same = tt

-- the parts of its book represent an old file, whose disk leaves only its bytes
pub tells_unopened : (disk : Memory) (contents words : List ℕ) (places : List KeptPlace) (count : ℕ) (doubt : List Entry) (bytes : List ℕ) (n slots : ℕ) → contents ≡ words → places ≡ replicate n KeptEmpty → doubt ≡ []
    → (memory_facts disk).reads ≡ bytes → IsSynced (memory_facts disk) → IsFile count words bytes → PartsRepresent (Shut disk) contents places count (replicate slots 0) true doubt (broken (file_of words) [])
tells_unopened disk contents words places count doubt bytes n slots are empty none reads rest is = record {
  same_contents = sym are;
  same_places = λ place lt. sym (ap (λ ps. place_in ps place) empty ∙ none_there n place);
  same_place_of = λ slot lt. sym (zero_there slots slot);
  same_failed = refl;
  same_doubt = sym none;
  stands = (none, λ image may. subst (λ ws. IsFile count ws image) (sym are) (subst (λ bs. IsFile count words bs) (sym (rest image may ∙ reads)) is));
}
