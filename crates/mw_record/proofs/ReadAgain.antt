-- The head of a file and the body of a record are read as they were written.
-- Used by: mw_file, mw_plain, mw_world, mw_world_file, mw_book.
use Rattle.std.proofs.Common.{◌≡◌, ℕ, ◌+◌, ◌-◌, ◌*◌, ◌^◌, ◌<◌, ◌≤◌, ◌&&◌, nat_eq, nat_le, nat_lt, Bool, true, Some, List, [], ◌∷◌, ◌++◌, length, get_or, take, set, replicate, slice_index, refl, sym, ap, ◌∙◌, subst, arith, append_assoc, add-zero}
use Rattle.std.specs.Cmp.Lexicographic.{pointwise}
use Rattle.std.specs.List.{flat_map, list_all}
use Rattle.std.proofs.lemmas.Bool.{and_parts, and_from, leb-true, ltb-true}
use Rattle.std.proofs.lemmas.List.{append-nil, get_or-take, length-append, length-take-le, length-map, ext_get_or}
use Rattle.mw_words.specs.declared.limits.TheConstants.{MAX_ENTRIES, MAX_VALUE, MAX_WORDS}
use Rattle.mw_words.specs.declared.jobs.Entry.{Entry}
use Rattle.mw_words.specs.Change.{is_in_range, rises_from, is_change, put}
use Rattle.mw_record.specs.declared.layout.Layout.{Layout}
use Rattle.mw_record.specs.declared.layout.Layout.TheVariants.{First, Second}
use Rattle.mw_record.specs.declared.layout.TheConstants.{HEAD_SIZE, PLACES_AT, BODY_SIZE, ENTRY_SIZE, COMMITTED}
use Rattle.mw_record.specs.Layout.{magic, place_at, number_at, number_bytes, header, entry_bytes, body, pairs_of, AreNumbers, SameBytes}
use Rattle.mw_record.specs.Records.{pairs_at, body_at, record_at, put_pairs, is_record, rises_below, has_values}
use Rattle.mw_record.specs.LayoutBytes.{has_mark, words_told, places_told}
use Rattle.mw_record.proofs.Faults.{sizes_are, are_sizes}
use Rattle.mw_record.specs.Contents.{MayHave, IsHead}
use Rattle.mw_record.proofs.Layouts.{length-magic, most_places_fit}
use Rattle.mw_record.proofs.ReadBytes.{number_same, number_written, pairs_same, record_open, length-number_bytes}

-- a head that was written, with any bytes after it
mark_of_head : (layout : Layout) (words places : ℕ) (rest : List ℕ) → has_mark layout (header layout words places ++ rest) ≡ true
mark_of_head First words places rest = refl
mark_of_head Second words places rest = refl

words_of_head : (layout : Layout) (words places : ℕ) (rest : List ℕ) → words < 2 ^ 32 → words_told (header layout words places ++ rest) ≡ words
words_of_head layout words places rest fits =
    let tail : List ℕ = number_bytes 2 places ++ replicate 18 0 in
    let is : header layout words places ++ rest ≡ magic layout ++ (number_bytes 4 words ++ (tail ++ rest)) =
    append_assoc (magic layout) (number_bytes 4 words ++ tail) rest ∙ ap (λ xs. magic layout ++ xs) (append_assoc (number_bytes 4 words) tail rest) in
    ap words_told is ∙ number_written (magic layout) (tail ++ rest) 8 4 words (length-magic layout) fits

places_of_head : (layout : Layout) (words places : ℕ) (rest : List ℕ) → places < 2 ^ 16 → places_told (header layout words places ++ rest) ≡ places
places_of_head layout words places rest fits =
    let front : List ℕ = magic layout ++ number_bytes 4 words in
    let zeros : List ℕ = replicate 18 0 in
    let long : length front ≡ 12 = omega (arith, length-append (magic layout) (number_bytes 4 words), length-number_bytes 4 words, length-magic layout) in
    let is : header layout words places ++ rest ≡ front ++ (number_bytes 2 places ++ (zeros ++ rest)) =
    append_assoc (magic layout) (number_bytes 4 words ++ (number_bytes 2 places ++ zeros)) rest
    ∙ ap (λ xs. magic layout ++ xs) (append_assoc (number_bytes 4 words) (number_bytes 2 places ++ zeros) rest ∙ ap (λ xs. number_bytes 4 words ++ xs) (append_assoc (number_bytes 2 places) zeros rest))
    ∙ sym (append_assoc (magic layout) (number_bytes 4 words) (number_bytes 2 places ++ (zeros ++ rest))) in
    ap places_told is ∙ number_written front (zeros ++ rest) 12 2 places long fits

pub head_of_header : (layout : Layout) (words places : ℕ) (rest : List ℕ) → MayHave layout words places → IsHead layout words places (header layout words places ++ rest)
head_of_header layout words places rest may =
    let w = words_of_head layout words places rest (omega (arith, may.words_fit)) in
    let p = places_of_head layout words places rest (omega (arith, may.places_fit, most_places_fit layout)) in
    record {
      mark = mark_of_head layout words places rest;
      sizes = are_sizes layout (header layout words places ++ rest) (record {
        some_word = omega (arith, w, may.some_word);
        words_fit = omega (arith, w, may.words_fit);
        some_place = omega (arith, p, may.some_place);
        places_fit = omega (arith, p, may.places_fit);
      });
      words_are = w;
      places_are = p;
    }

-- two lists that agree on their first n bytes have the same first n bytes
take_same : (n : ℕ) (xs ys : List ℕ) → n ≤ length xs → n ≤ length ys → SameBytes n 0 0 xs ys → take n xs ≡ take n ys
take_same n xs ys p q same =
    ext_get_or 0 (take n xs) (take n ys) (length-take-le n xs p ∙ sym (length-take-le n ys q)) (λ k lt.
    let l : k < n = omega (arith, lt, length-take-le n xs p) in
    let e : 0 + k ≡ k = omega arith in
    get_or-take n xs k 0 l ∙ ap (λ a. get_or xs a 0) (sym e) ∙ same k l ∙ ap (λ a. get_or ys a 0) e ∙ sym (get_or-take n ys k 0 l))

-- some of the first bytes
pub within : (n m i : ℕ) (xs ys : List ℕ) → SameBytes n 0 0 xs ys → i + m ≤ n → SameBytes m i i xs ys
within n m i xs ys same fits k lt =
    let e : 0 + (i + k) ≡ i + k = omega arith in
    ap (λ a. get_or xs a 0) (sym e) ∙ same (i + k) (omega (arith, fits, lt)) ∙ ap (λ a. get_or ys a 0) e

-- whether the first eight bytes are the magic ones
starts_with_front : Layout → List ℕ → Bool
starts_with_front layout front = pointwise nat_eq (magic layout) front

pub mark_same : (layout : Layout) (xs ys : List ℕ) → take 8 xs ≡ take 8 ys → has_mark layout xs ≡ has_mark layout ys
unfolding starts_with_front
mark_same First xs ys front = ap (λ f. starts_with_front First f) front
mark_same Second xs ys front = ap (λ f. starts_with_front Second f) front

-- A head tells the same sizes if its bytes up to the number of places stay.
pub head_told_same : (layout : Layout) (words places : ℕ) (xs ys : List ℕ) → HEAD_SIZE ≤ length xs → HEAD_SIZE ≤ length ys → SameBytes (PLACES_AT + 2) 0 0 xs ys → IsHead layout words places ys → IsHead layout words places xs
head_told_same layout words places xs ys p q same h =
    let w : words_told xs ≡ words_told ys = number_same 4 8 8 xs ys (within 14 4 8 xs ys same (omega arith)) in
    let m : places_told xs ≡ places_told ys = number_same 2 12 12 xs ys (within 14 2 12 xs ys same (omega arith)) in
    let front : take 8 xs ≡ take 8 ys = take_same 8 xs ys (omega (arith, p)) (omega (arith, q)) (λ k lt. same k (omega (arith, lt))) in
    let s = sizes_are layout ys h.sizes in
    record {
      mark = mark_same layout xs ys front ∙ h.mark;
      sizes = are_sizes layout xs (record {
        some_word = omega (arith, w, s.some_word);
        words_fit = omega (arith, w, s.words_fit);
        some_place = omega (arith, m, s.some_place);
        places_fit = omega (arith, m, s.places_fit);
      });
      words_are = w ∙ h.words_are;
      places_are = m ∙ h.places_are;
    }

-- A head tells the same sizes if its bytes stay.
pub head_same : (layout : Layout) (words places : ℕ) (xs ys : List ℕ) → HEAD_SIZE ≤ length xs → HEAD_SIZE ≤ length ys → SameBytes HEAD_SIZE 0 0 xs ys → IsHead layout words places ys → IsHead layout words places xs
head_same layout words places xs ys p q same h = head_told_same layout words places xs ys p q (λ k lt. same k (omega (arith, lt))) h

pub length-header : (layout : Layout) (words places : ℕ) → length (header layout words places) ≡ 32
length-header layout words places =
    let zeros : List ℕ = replicate 18 0 in
    omega (
      arith,
      length-append (magic layout) (number_bytes 4 words ++ (number_bytes 2 places ++ zeros)),
      length-append (number_bytes 4 words) (number_bytes 2 places ++ zeros),
      length-append (number_bytes 2 places) zeros,
      length-number_bytes 4 words,
      length-magic layout,
      length-number_bytes 2 places,
    )

-- If the first bytes of a layout are a written head, it tells the sizes with which it was written.
pub header_again : (layout : Layout) (image : List ℕ) (words places : ℕ) → MayHave layout words places → HEAD_SIZE ≤ length image → SameBytes HEAD_SIZE 0 0 image (header layout words places) → IsHead layout words places image
header_again layout image words places may long same =
    let h : IsHead layout words places (header layout words places) = subst (IsHead layout words places) (append-nil (header layout words places)) (head_of_header layout words places [] may) in
    let n : length (header layout words places) ≡ 32 = length-header layout words places in
    head_same layout words places image (header layout words places) long (omega (arith, n)) same h

-- Entries that were written one after the other are read again.
pairs_written : (front rest : List ℕ) (entries : List Entry) (i : ℕ) → length front ≡ i → AreNumbers entries
    → pairs_at (front ++ (flat_map entry_bytes entries ++ rest)) i (length entries) ≡ pairs_of entries
pairs_written front rest [] i long fits = refl
pairs_written front rest (e ∷ es) i long fits =
    let a : List ℕ = number_bytes 8 e.addr in
    let v : List ℕ = number_bytes 8 e.new in
    let more : List ℕ = flat_map entry_bytes es ++ rest in
    let image : List ℕ = front ++ (flat_map entry_bytes (e ∷ es) ++ rest) in
    let regroup : flat_map entry_bytes (e ∷ es) ++ rest ≡ a ++ (v ++ more) =
    append_assoc (a ++ v) (flat_map entry_bytes es) rest ∙ append_assoc a v more in
    let at_addr : image ≡ front ++ (a ++ (v ++ more)) = ap (λ xs. front ++ xs) regroup in
    let at_new : image ≡ (front ++ a) ++ (v ++ more) = at_addr ∙ sym (append_assoc front a (v ++ more)) in
    let at_rest : image ≡ ((front ++ a) ++ v) ++ more = at_new ∙ sym (append_assoc (front ++ a) v more) in
    let l8 : length (front ++ a) ≡ i + 8 = omega (arith, length-append front a, length-number_bytes 8 e.addr, long) in
    let l16 : length ((front ++ a) ++ v) ≡ i + 16 = omega (arith, length-append (front ++ a) v, length-number_bytes 8 e.new, l8) in
    let addr : number_at image i 8 ≡ e.addr = ap (λ xs. number_at xs i 8) at_addr ∙ number_written front (v ++ more) i 8 e.addr long fits.0.0 in
    let new : number_at image (i + 8) 8 ≡ e.new = ap (λ xs. number_at xs (i + 8) 8) at_new ∙ number_written (front ++ a) more (i + 8) 8 e.new l8 fits.0.1 in
    let others : pairs_at image (i + 16) (length es) ≡ pairs_of es =
    ap (λ xs. pairs_at xs (i + 16) (length es)) at_rest ∙ pairs_written ((front ++ a) ++ v) rest es (i + 16) l16 fits.1 in
    cc

-- a place whose body was written has those entries
pub body_again : (image : List ℕ) (at : ℕ) (entries : List Entry) → length entries ≤ MAX_ENTRIES → AreNumbers entries
    → SameBytes BODY_SIZE (at + 1) 0 image (body entries) → body_at image at ≡ pairs_of entries
unfolding body_at
body_again image at entries few fits same =
    let n : ℕ = length entries in
    let head : List ℕ = n ∷ replicate 6 0 in
    let zeros : List ℕ = replicate (ENTRY_SIZE * (MAX_ENTRIES - n)) 0 in
    let count : get_or image (at + 1) 0 ≡ n = ap (λ a. get_or image a 0) (sym (add-zero (at + 1))) ∙ same 0 (omega arith) in
    let pairs : pairs_at image (at + 8) n ≡ pairs_at (body entries) 7 n =
    pairs_same n (at + 8) 7 image (body entries) (λ k lt.
    let e : (at + 8) + k ≡ (at + 1) + (7 + k) = omega arith in
    let f : 0 + (7 + k) ≡ 7 + k = omega arith in
    ap (λ a. get_or image a 0) e ∙ same (7 + k) (omega (arith, few, lt)) ∙ ap (λ a. get_or (body entries) a 0) f) in
    ap (pairs_at image (at + 8)) count ∙ pairs ∙ pairs_written head zeros entries 7 refl fits

-- If a written body follows a set commit byte, its entries are the record of the place.
pub record_again : (image : List ℕ) (words place : ℕ) (entries : List Entry) → length entries ≤ MAX_ENTRIES → AreNumbers entries
    → slice_index image (place_at Second words place) ≡ COMMITTED → SameBytes BODY_SIZE (place_at Second words place + 1) 0 image (body entries)
    → record_at Second image words place ≡ Some (pairs_of entries)
record_again image words place entries few fits commit same =
    let at : ℕ = place_at Second words place in
    record_open Second image words place at refl commit ∙ ap Some (body_again image at entries few fits same)

-- The entries of a change are a well-formed record with values of words.
change_parts : (words : ℕ) (es : List Entry) → is_change words es ≡ true
    → (nat_le 1 (length es) ≡ true) × (nat_le (length es) MAX_ENTRIES ≡ true) × (list_all (is_in_range words) es ≡ true) × (rises_from 0 es ≡ true)
change_parts words es ok =
    let a = and_parts (nat_le 1 (length es) && nat_le (length es) MAX_ENTRIES && list_all (is_in_range words) es) (rises_from 0 es) ok in
    let b = and_parts (nat_le 1 (length es) && nat_le (length es) MAX_ENTRIES) (list_all (is_in_range words) es) a.0 in
    let c = and_parts (nat_le 1 (length es)) (nat_le (length es) MAX_ENTRIES) b.0 in
    (c.0, c.1, b.1, a.1)

entry_parts : (words : ℕ) (e : Entry) → is_in_range words e ≡ true → (nat_lt e.addr words ≡ true) × (nat_le e.new MAX_VALUE ≡ true)
entry_parts words e ok =
    let a = and_parts (nat_lt e.addr words && nat_le e.expected MAX_VALUE) (nat_le e.new MAX_VALUE) ok in
    ((and_parts (nat_lt e.addr words) (nat_le e.expected MAX_VALUE) a.0).0, a.1)

entries_rise : (words lowest : ℕ) (es : List Entry) → list_all (is_in_range words) es ≡ true → rises_from lowest es ≡ true → rises_below words lowest (pairs_of es) ≡ true
entries_rise words lowest [] fit rise = refl
entries_rise words lowest (e ∷ es) fit rise =
    let f = and_parts (is_in_range words e) (list_all (is_in_range words) es) fit in
    let r = and_parts (nat_le lowest e.addr) (rises_from (e.addr + 1) es) rise in
    and_from (nat_le lowest e.addr && nat_lt e.addr words) (rises_below words (e.addr + 1) (pairs_of es))
    (and_from (nat_le lowest e.addr) (nat_lt e.addr words) r.0 (entry_parts words e f.0).0)
    (entries_rise words (e.addr + 1) es f.1 r.1)

entries_small : (words : ℕ) (es : List Entry) → list_all (is_in_range words) es ≡ true → has_values (pairs_of es) ≡ true
entries_small words [] fit = refl
entries_small words (e ∷ es) fit =
    let f = and_parts (is_in_range words e) (list_all (is_in_range words) es) fit in
    and_from (nat_le e.new MAX_VALUE) (has_values (pairs_of es)) (entry_parts words e f.0).1 (entries_small words es f.1)

entries_numbers : (words : ℕ) (es : List Entry) → words ≤ MAX_WORDS → list_all (is_in_range words) es ≡ true → AreNumbers es
entries_numbers words [] few fit = tt
entries_numbers words (e ∷ es) few fit =
    let f = and_parts (is_in_range words e) (list_all (is_in_range words) es) fit in
    let p = entry_parts words e f.0 in
    ((omega (arith, few, ltb-true e.addr words p.0), omega (arith, leb-true e.new MAX_VALUE p.1)), entries_numbers words es few f.1)

pub record_of_change : (words : ℕ) (es : List Entry) → is_change words es ≡ true → is_record Second words (pairs_of es) ≡ true
record_of_change words es ok =
    let p = change_parts words es ok in
    let n : length (pairs_of es) ≡ length es = length-map es (λ e. (e.addr, e.new)) in
    and_from (nat_le 1 (length (pairs_of es)) && nat_le (length (pairs_of es)) MAX_ENTRIES) (rises_below words 0 (pairs_of es))
    (ap (λ k. nat_le 1 k && nat_le k MAX_ENTRIES) n ∙ and_from (nat_le 1 (length es)) (nat_le (length es) MAX_ENTRIES) p.0 p.1)
    (entries_rise words 0 es p.2 p.3)

pub values_of_change : (words : ℕ) (es : List Entry) → is_change words es ≡ true → has_values (pairs_of es) ≡ true
values_of_change words es ok = entries_small words es (change_parts words es ok).2

pub numbers_of_change : (words : ℕ) (es : List Entry) → words ≤ MAX_WORDS → is_change words es ≡ true → AreNumbers es
numbers_of_change words es few ok = entries_numbers words es few (change_parts words es ok).2

pub length_of_change : (words : ℕ) (es : List Entry) → is_change words es ≡ true → length es ≤ MAX_ENTRIES
length_of_change words es ok = leb-true (length es) MAX_ENTRIES (change_parts words es ok).1

-- To put a change over words is the same as to put its record over them.
pub put-put_pairs : (es : List Entry) (words : List ℕ) → put words es ≡ put_pairs (pairs_of es) words
put-put_pairs [] words = refl
put-put_pairs (e ∷ es) words = put-put_pairs es (set words e.addr e.new)
