-- What is read as a number, an entry or a record depends only on the bytes that it covers.
-- Used by: src/records.rt, read_number, sizes, mw_file, mw_world_file.
use Rattle.std.proofs.Common.{◌≡◌, ℕ, zero, suc, ◌+◌, ◌*◌, ◌^◌, ◌-◌, ◌<◌, ◌≤◌, List, ◌++◌, length, get_or, Some, None, true, false, ◌==◌, if◌then◌else◌, slice_index, refl, sym, ap, ◌∙◌, arith, add-zero, zero-add, take, drop, inl, inr}
use Rattle.std.proofs.lemmas.List.{get_or-take, get_or-drop, get_or-append-add, get_or_append_left, length-append, length-take-le, length-drop}
use Rattle.std.proofs.lemmas.Bool.{eq-eqb, ne_eqb, cases_eq}
use Rattle.byteorder.specs.Endian.{little_from}
use Rattle.byteorder.specs.Numbers.{length-bytes_low_first, little_number-reads_back}
use Rattle.mw_record.specs.declared.layout.Layout.{Layout}
use Rattle.mw_record.specs.declared.layout.TheConstants.{COMMITTED, WORD_SIZE}
use Rattle.mw_record.specs.Layout.{most_entries, place_size, home_at, place_at, number_at, number_bytes, patched, SameBytes}
use Rattle.mw_record.specs.Records.{Pairs, pairs_at, body_at, record_at, home}

little_same : (n i j : ℕ) (xs ys : List ℕ) → SameBytes n i j xs ys → little_from i n xs ≡ little_from j n ys
little_same zero i j xs ys same = refl
little_same (suc n) i j xs ys same =
    let head : get_or xs i 0 ≡ get_or ys j 0 =
    ap (λ k. get_or xs k 0) (sym (add-zero i)) ∙ same 0 (omega arith) ∙ ap (λ k. get_or ys k 0) (add-zero j) in
    let rest : little_from (suc i) n xs ≡ little_from (suc j) n ys =
    little_same n (suc i) (suc j) xs ys (λ k lt.
    let e : suc i + k ≡ i + suc k = omega arith in
    let f : j + suc k ≡ suc j + k = omega arith in
    ap (λ m. get_or xs m 0) e ∙ same (suc k) (omega arith) ∙ ap (λ m. get_or ys m 0) f) in
    ap (λ a. a + 256 * little_from (suc i) n xs) head ∙ ap (λ a. get_or ys j 0 + 256 * a) rest

-- equal bytes have equal numbers
pub number_same : (n i j : ℕ) (xs ys : List ℕ) → SameBytes n i j xs ys → number_at xs i n ≡ number_at ys j n
unfolding number_at
number_same n i j xs ys same = little_same n i j xs ys same

-- equal bytes have equal entries
pub pairs_same : (n i j : ℕ) (xs ys : List ℕ) → SameBytes (16 * n) i j xs ys → pairs_at xs i n ≡ pairs_at ys j n
pairs_same zero i j xs ys same = refl
pairs_same (suc n) i j xs ys same =
    let part : (m l : ℕ) → m + l ≤ 16 * suc n → SameBytes l (i + m) (j + m) xs ys = λ m l fits k lt.
    let e : (i + m) + k ≡ i + (m + k) = omega arith in
    let f : j + (m + k) ≡ (j + m) + k = omega arith in
    ap (λ a. get_or xs a 0) e ∙ same (m + k) (omega arith) ∙ ap (λ a. get_or ys a 0) f in
    let addr : number_at xs i 8 ≡ number_at ys j 8 = number_same 8 i j xs ys (λ k lt. same k (omega arith)) in
    let new : number_at xs (i + 8) 8 ≡ number_at ys (j + 8) 8 = number_same 8 (i + 8) (j + 8) xs ys (part 8 8 (omega arith)) in
    let rest : pairs_at xs (i + 16) n ≡ pairs_at ys (j + 16) n = pairs_same n (i + 16) (j + 16) xs ys (part 16 (16 * n) (omega arith)) in
    cc

pub length_pairs : (image : List ℕ) (at n : ℕ) → length (pairs_at image at n) ≡ n
length_pairs image at zero = refl
length_pairs image at (suc n) = ap suc (length_pairs image (at + 16) n)

-- entry i is at its own offset
pub pair_at : (image : List ℕ) (at n i : ℕ) (d : ℕ × ℕ) → i < n → get_or (pairs_at image at n) i d ≡ (number_at image (at + 16 * i) 8, number_at image (at + 16 * i + 8) 8)
pair_at image at zero i d lt = absurd (omega arith)
pair_at image at (suc n) zero d lt =
    let e : at ≡ at + 16 * 0 = omega arith in
    ap (λ a. (number_at image a 8, number_at image (a + 8) 8)) e
pair_at image at (suc n) (suc i) d lt =
    let e : (at + 16) + 16 * i ≡ at + 16 * suc i = omega arith in
    pair_at image (at + 16) n i d (omega arith) ∙ ap (λ a. (number_at image a 8, number_at image (a + 8) 8)) e

-- a number is read from the bytes that it covers alone
pub number_in_part : (xs : List ℕ) (at m n : ℕ) → n ≤ m → little_from 0 n (take m (drop at xs)) ≡ number_at xs at n
unfolding number_at
number_in_part xs at m n fits = little_same n 0 at (take m (drop at xs)) xs (λ k lt.
    let l : 0 + k < m = omega (arith, fits, lt) in
    get_or-take m (drop at xs) (0 + k) 0 l ∙ get_or-drop at xs (0 + k) 0 ∙ ap (λ i. get_or xs (at + i) 0) (zero-add k))

-- the entries in a part of the bytes are those at the part's offset
pub pairs_in_part : (xs : List ℕ) (at m n : ℕ) → 16 * n ≤ m → pairs_at (take m (drop at xs)) 0 n ≡ pairs_at xs at n
pairs_in_part xs at m n fits = pairs_same n 0 at (take m (drop at xs)) xs (λ k lt.
    let l : 0 + k < m = omega arith in
    get_or-take m (drop at xs) (0 + k) 0 l ∙ get_or-drop at xs (0 + k) 0 ∙ ap (λ i. get_or xs (at + i) 0) (zero-add k))

-- a place has as many entries as its count byte says
pub length_body : (image : List ℕ) (at : ℕ) → length (body_at image at) ≡ slice_index image (at + 1)
unfolding body_at
length_body image at = length_pairs image (at + 8) (slice_index image (at + 1))

-- the record of a place that begins at this offset, if its commit byte is set or clear
pub record_open : (layout : Layout) (image : List ℕ) (words place at : ℕ) → at ≡ place_at layout words place → slice_index image at ≡ COMMITTED → record_at layout image words place ≡ Some (body_at image at)
unfolding record_at
record_open layout image words place at is commit =
    let e : (slice_index image (place_at layout words place) == COMMITTED) ≡ true = eq-eqb _ _ (ap (λ a. slice_index image a) (sym is) ∙ commit) in
    ap (λ b. if b then Some (body_at image (place_at layout words place)) else None) e ∙ ap (λ a. Some (body_at image a)) (sym is)

pub record_shut : (layout : Layout) (image : List ℕ) (words place at : ℕ) → at ≡ place_at layout words place → (slice_index image at ≡ COMMITTED → ⊥) → record_at layout image words place ≡ None
unfolding record_at
record_shut layout image words place at is commit =
    let e : (slice_index image (place_at layout words place) == COMMITTED) ≡ false = ne_eqb _ _ (λ h. commit (ap (λ a. slice_index image a) is ∙ h)) in
    ap (λ b. if b then Some (body_at image (place_at layout words place)) else None) e

-- a number is 0 if its bytes are
little_zero : (n i : ℕ) (xs : List ℕ) → ((k : ℕ) → k < n → get_or xs (i + k) 0 ≡ 0) → little_from i n xs ≡ 0
little_zero zero i xs zeros = refl
little_zero (suc n) i xs zeros =
    let head : get_or xs i 0 ≡ 0 = ap (λ k. get_or xs k 0) (sym (add-zero i)) ∙ zeros 0 (omega arith) in
    let rest : little_from (suc i) n xs ≡ 0 = little_zero n (suc i) xs (λ k lt.
    let e : suc i + k ≡ i + suc k = omega arith in
    ap (λ m. get_or xs m 0) e ∙ zeros (suc k) (omega arith)) in
    ap (λ a. a + 256 * little_from (suc i) n xs) head ∙ ap (λ a. 0 + 256 * a) rest

pub number_zero : (n i : ℕ) (xs : List ℕ) → ((k : ℕ) → k < n → get_or xs (i + k) 0 ≡ 0) → number_at xs i n ≡ 0
unfolding number_at
number_zero n i xs zeros = little_zero n i xs zeros

-- a number that was written is read again
pub number_written : (front rest : List ℕ) (i n number : ℕ) → length front ≡ i → number < 256 ^ n → number_at (front ++ (number_bytes n number ++ rest)) i n ≡ number
unfolding number_at number_bytes
number_written front rest i n number long fits =
    let block : List ℕ = number_bytes n number ++ rest in
    little_same n i 0 (front ++ block) block (λ k lt.
    ap (λ a. get_or (front ++ block) (a + k) 0) (sym long) ∙ get_or-append-add front block k 0 ∙ ap (λ a. get_or block a 0) (sym (zero-add k)))
    ∙ little_number-reads_back n number rest fits

pub length-number_bytes : (n number : ℕ) → length (number_bytes n number) ≡ n
unfolding number_bytes
length-number_bytes n number = length-bytes_low_first 0 n number

-- the bytes after a block was written over some of them
pub length-patched : (old : List ℕ) (at : ℕ) (block : List ℕ) → at + length block ≤ length old → length (patched old at block) ≡ length old
length-patched old at block fits =
    length-append (take at old) (block ++ drop (at + length block) old)
    ∙ omega (arith, length-append block (drop (at + length block) old), length-take-le at old (omega (arith, fits)), length-drop (at + length block) old, fits)

pub get_patched : (old : List ℕ) (at : ℕ) (block : List ℕ) (k : ℕ) → at ≤ length old → k < length block → get_or (patched old at block) (at + k) 0 ≡ get_or block k 0
get_patched old at block k within lt =
    let long = length-take-le at old within in
    let rest : List ℕ = block ++ drop (at + length block) old in
    ap (λ a. get_or (take at old ++ rest) (a + k) 0) (sym long)
    ∙ get_or-append-add (take at old) rest k 0
    ∙ get_or_append_left block (drop (at + length block) old) 0 k lt

pub get_patched_before : (old : List ℕ) (at : ℕ) (block : List ℕ) (k : ℕ) → at ≤ length old → k < at → get_or (patched old at block) k 0 ≡ get_or old k 0
get_patched_before old at block k within lt =
    get_or_append_left (take at old) (block ++ drop (at + length block) old) 0 k (omega (arith, length-take-le at old within, lt))
    ∙ get_or-take at old k 0 lt

pub get_patched_after : (old : List ℕ) (at : ℕ) (block : List ℕ) (k : ℕ) → at ≤ length old → at + length block ≤ k → get_or (patched old at block) k 0 ≡ get_or old k 0
get_patched_after old at block k within past =
    let j : ℕ = k - (at + length block) in
    let tail : List ℕ = drop (at + length block) old in
    let is : k ≡ length (take at old) + (length block + j) = omega (arith, length-take-le at old within, past) in
    ap (λ a. get_or (take at old ++ (block ++ tail)) a 0) is
    ∙ get_or-append-add (take at old) (block ++ tail) (length block + j) 0
    ∙ get_or-append-add block tail j 0
    ∙ get_or-drop (at + length block) old j 0
    ∙ ap (λ a. get_or old a 0) (omega (arith, past))

-- equal bytes have equal places, records and home words
pub body_same : (most : ℕ) (xs ys : List ℕ) (i j : ℕ) → slice_index ys (j + 1) ≤ most → SameBytes (7 + 16 * most) (i + 1) (j + 1) xs ys → body_at xs i ≡ body_at ys j
unfolding body_at
body_same most xs ys i j few same =
    let count : get_or xs (i + 1) 0 ≡ get_or ys (j + 1) 0 =
    ap (λ a. get_or xs a 0) (sym (add-zero (i + 1))) ∙ same 0 (omega arith) ∙ ap (λ a. get_or ys a 0) (add-zero (j + 1)) in
    let n : ℕ = get_or ys (j + 1) 0 in
    ap (pairs_at xs (i + 8)) count ∙ pairs_same n (i + 8) (j + 8) xs ys (λ k lt.
    let e : (i + 8) + k ≡ (i + 1) + (7 + k) = omega arith in
    let f : (j + 1) + (7 + k) ≡ (j + 8) + k = omega arith in
    ap (λ a. get_or xs a 0) e ∙ same (7 + k) (omega (arith, few, lt)) ∙ ap (λ a. get_or ys a 0) f)

pub home_same : (xs ys : List ℕ) (addr : ℕ) → SameBytes WORD_SIZE (home_at addr) (home_at addr) xs ys → home xs addr ≡ home ys addr
home_same xs ys addr same = number_same 8 (home_at addr) (home_at addr) xs ys same

-- the commit byte of a closed place is clear, and that of an open one is set
pub commit_clear : (layout : Layout) (image : List ℕ) (words place : ℕ) → record_at layout image words place ≡ None → slice_index image (place_at layout words place) ≡ COMMITTED → ⊥
commit_clear layout image words place none commit = (let e = record_open layout image words place (place_at layout words place) refl commit in cc)

pub commit_set : (layout : Layout) (image : List ℕ) (words place : ℕ) (pairs : Pairs) → record_at layout image words place ≡ Some pairs
    → (slice_index image (place_at layout words place) ≡ COMMITTED) × (body_at image (place_at layout words place) ≡ pairs)
commit_set layout image words place pairs is =
    elim (cases_eq (slice_index image (place_at layout words place)) COMMITTED) [
      | inl commit ↦ (commit, (let e = record_open layout image words place (place_at layout words place) refl commit in cc))
      | inr shut ↦ absurd (let e = record_shut layout image words place (place_at layout words place) refl shut in let f : ⊥ = cc in f)
    ]

-- a closed place stays closed if its commit byte stays
pub shut_stays : (layout : Layout) (xs ys : List ℕ) (words place : ℕ) → slice_index xs (place_at layout words place) ≡ slice_index ys (place_at layout words place)
    → record_at layout ys words place ≡ None → record_at layout xs words place ≡ None
shut_stays layout xs ys words place same none =
    record_shut layout xs words place (place_at layout words place) refl (λ commit. commit_clear layout ys words place none (sym same ∙ commit))

-- an open place keeps its record if its bytes stay
pub record_stays : (layout : Layout) (xs ys : List ℕ) (words place : ℕ) (pairs : Pairs) → SameBytes (place_size layout) (place_at layout words place) (place_at layout words place) xs ys
    → length pairs ≤ most_entries layout → record_at layout ys words place ≡ Some pairs → record_at layout xs words place ≡ Some pairs
record_stays layout xs ys words place pairs same few is =
    let at : ℕ = place_at layout words place in
    let g = commit_set layout ys words place pairs is in
    let commit : get_or xs at 0 ≡ COMMITTED =
    ap (λ a. get_or xs a 0) (sym (add-zero at)) ∙ same 0 (omega arith) ∙ ap (λ a. get_or ys a 0) (add-zero at) ∙ g.0 in
    let count : slice_index ys (at + 1) ≤ most_entries layout = omega (arith, few, length_body ys at, ap length g.1) in
    record_open layout xs words place at refl commit
    ∙ ap Some (body_same (most_entries layout) xs ys at at count (λ k lt.
    let e : (at + 1) + k ≡ at + (1 + k) = omega arith in
    ap (λ a. get_or xs a 0) e ∙ same (1 + k) (omega arith) ∙ ap (λ a. get_or ys a 0) (sym e)) ∙ g.1)
