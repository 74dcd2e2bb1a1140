-- A write to one home word of a file sets that word alone, and a place whose bytes stay keeps its record.
-- Used by: mw_file, mw_world_file.
use Rattle.std.proofs.Common.{◌≡◌, ℕ, ◌+◌, ◌-◌, ◌*◌, ◌^◌, [], ◌∷◌, replicate, ◌<◌, ◌≤◌, ◌==◌, if◌then◌else◌, Option, Some, None, List, length, take, drop, get_or, slice_index, refl, sym, ap, ◌∙◌, inl, inr, arith, add-zero}
use Rattle.std.proofs.lemmas.Bool.{cases_eq, cases_lt, cond-true, cond-false, eq-eqb, ne_eqb}
use Rattle.std.proofs.lemmas.List.{length-take-le, length-append, length-replicate}
use Rattle.std.specs.List.{flat_map}
use Rattle.mw_words.specs.declared.jobs.Entry.{Entry}
use Rattle.mw_words.specs.declared.limits.TheConstants.{MAX_ENTRIES}
use Rattle.mw_record.specs.declared.layout.Layout.{Layout}
use Rattle.mw_record.specs.declared.layout.TheConstants.{BODY_SIZE, ENTRY_SIZE}
use Rattle.mw_record.specs.Layout.{most_entries, place_size, home_at, place_at, number_bytes, entry_bytes, body, patched, SameBytes}
use Rattle.mw_record.specs.Records.{Pairs, record_at, home}
use Rattle.mw_record.proofs.ReadBytes.{number_written, length-number_bytes, get_patched_before, get_patched_after, home_same, shut_stays, record_stays}

-- the home word that was written has the number
home_here : (bytes : List ℕ) (a v : ℕ) → v < 256 ^ 8 → home_at a + 8 ≤ length bytes → home (patched bytes (home_at a) (number_bytes 8 v)) a ≡ v
home_here bytes a v small fits =
    let block : List ℕ = number_bytes 8 v in
    number_written (take (home_at a) bytes) (drop (home_at a + length block) bytes) (home_at a) 8 v (length-take-le (home_at a) bytes (omega (arith, fits))) small

-- each other home word stays
home_elsewhere : (bytes : List ℕ) (a v b : ℕ) → home_at a + 8 ≤ length bytes → (a ≡ b → ⊥) → home (patched bytes (home_at a) (number_bytes 8 v)) b ≡ home bytes b
home_elsewhere bytes a v b fits apart =
    let block : List ℕ = number_bytes 8 v in
    let eight : length block ≡ 8 = length-number_bytes 8 v in
    home_same (patched bytes (home_at a) block) bytes b (λ k lt. elim (cases_lt b a) [
      | inl below ↦ get_patched_before bytes (home_at a) block (home_at b + k) (omega (arith, fits)) (omega (arith, below, lt))
      | inr above ↦ get_patched_after bytes (home_at a) block (home_at b + k) (omega (arith, fits)) (omega (arith, above, apart, eight))
    ])

-- A write of a number to a home word sets that word, and no other.
pub home_written : (bytes : List ℕ) (a v b : ℕ) → v < 256 ^ 8 → home_at a + 8 ≤ length bytes → home_at b + 8 ≤ length bytes
    → home (patched bytes (home_at a) (number_bytes 8 v)) b ≡ (if a == b then v else home bytes b)
home_written bytes a v b small fits _ =
    let written : List ℕ = patched bytes (home_at a) (number_bytes 8 v) in
    elim (cases_eq a b) [
      | inl same ↦ ap (home written) (sym same) ∙ home_here bytes a v small fits ∙ sym (cond-true (a == b) v (home bytes b) (eq-eqb a b same))
      | inr apart ↦ home_elsewhere bytes a v b fits apart ∙ sym (cond-false (a == b) v (home bytes b) (ne_eqb a b apart))
    ]

-- a place whose bytes stay keeps its commit byte
pub commit_same : (layout : Layout) (xs ys : List ℕ) (at : ℕ) → SameBytes (place_size layout) at at xs ys → slice_index xs at ≡ slice_index ys at
commit_same layout xs ys at same = ap (λ i. get_or xs i 0) (sym (add-zero at)) ∙ same 0 (omega arith) ∙ ap (λ i. get_or ys i 0) (add-zero at)

record_same_as : (layout : Layout) (xs ys : List ℕ) (words place : ℕ) (kept : Option Pairs) → SameBytes (place_size layout) (place_at layout words place) (place_at layout words place) xs ys
    → record_at layout ys words place ≡ kept → ((ps : Pairs) → kept ≡ Some ps → length ps ≤ most_entries layout) → record_at layout xs words place ≡ kept
record_same_as layout xs ys words place None same is few = shut_stays layout xs ys words place (commit_same layout xs ys (place_at layout words place) same) is
record_same_as layout xs ys words place (Some ps) same is few = record_stays layout xs ys words place ps same (few ps refl) is

-- A place whose bytes stay keeps its record, or stays closed.
pub record_same : (layout : Layout) (xs ys : List ℕ) (words place : ℕ) → SameBytes (place_size layout) (place_at layout words place) (place_at layout words place) xs ys
    → ((ps : Pairs) → record_at layout ys words place ≡ Some ps → length ps ≤ most_entries layout) → record_at layout xs words place ≡ record_at layout ys words place
record_same layout xs ys words place same few = record_same_as layout xs ys words place (record_at layout ys words place) same refl few

-- the number of bytes of a record's entries
pub length-entries : (entries : List Entry) → length (flat_map entry_bytes entries) ≡ ENTRY_SIZE * length entries
length-entries [] = refl
length-entries (e ∷ es) =
    omega (
      arith,
      length-append (entry_bytes e) (flat_map entry_bytes es),
      length-append (number_bytes 8 e.addr) (number_bytes 8 e.new),
      length-number_bytes 8 e.addr,
      length-number_bytes 8 e.new,
      length-entries es,
    )

-- a record's body fills its place
pub length-body : (entries : List Entry) → length entries ≤ MAX_ENTRIES → length (body entries) ≡ BODY_SIZE
length-body entries few =
    let rest : List ℕ = replicate (ENTRY_SIZE * (MAX_ENTRIES - length entries)) 0 in
    omega (arith, few, length-append (flat_map entry_bytes entries) rest, length-replicate {A = ℕ} (ENTRY_SIZE * (MAX_ENTRIES - length entries)) 0, length-entries entries)
