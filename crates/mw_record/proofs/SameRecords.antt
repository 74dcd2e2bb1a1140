-- If two files have the same open records in their first places, they pass the same tests of damage there. Used by: FirstBytes.
use Rattle.std.proofs.Common.{◌≡◌, ℕ, zero, suc, ◌<◌, ◌&&◌, ◌||◌, not, nat_le, Bool, true, false, Option, Some, None, [], ◌∷◌, length, refl, ap, ◌∙◌, arith}
use Rattle.std.proofs.lemmas.Bool.{and_left, and_right, lt-leb}
use Rattle.std.specs.Option.{option_map_or}
use Rattle.mw_words.specs.declared.limits.TheConstants.{MAX_VALUE}
use Rattle.mw_record.specs.declared.layout.Layout.{Layout}
use Rattle.mw_record.specs.Layout.{most_entries}
use Rattle.mw_record.specs.Records.{Pairs, RecordsByPlace, is_record, rises_below, each_below, is_covered, is_apart, are_apart, has_values, records_fit, homes_fit}
use Rattle.mw_record.proofs.TestsBelow.{has}

-- the records of the first places are the same
abbrev pub SameRecords : ℕ → RecordsByPlace → RecordsByPlace → Type 0
SameRecords places kept kept2 = (j : ℕ) → j < places → kept j ≡ kept2 j

pub each_same : (test test2 : ℕ → Bool) (n : ℕ) → ((i : ℕ) → i < n → test i ≡ test2 i) → each_below test n ≡ each_below test2 n
each_same test test2 zero same = refl
each_same test test2 (suc n) same =
    ap (λ b. b && each_below test n) (same n (omega arith)) ∙ ap (λ b. test2 n && b) (each_same test test2 n (λ i lt. same i (omega arith)))

covered_same : (kept kept2 : RecordsByPlace) (places addr : ℕ) → SameRecords places kept kept2 → is_covered kept places addr ≡ is_covered kept2 places addr
covered_same kept kept2 zero addr same = refl
covered_same kept kept2 (suc places) addr same =
    ap (λ r. has r addr || is_covered kept places addr) (same places (omega arith))
    ∙ ap (λ b. has (kept2 places) addr || b) (covered_same kept kept2 places addr (λ j lt. same j (omega (arith, lt))))

free_same : (kept kept2 : RecordsByPlace) (places : ℕ) (ps : Pairs) → SameRecords places kept kept2 → is_apart kept places ps ≡ is_apart kept2 places ps
free_same kept kept2 places [] same = refl
free_same kept kept2 places (p ∷ ps) same =
    ap (λ b. not b && is_apart kept places ps) (covered_same kept kept2 places p.0 same)
    ∙ ap (λ b. not (is_covered kept2 places p.0) && b) (free_same kept kept2 places ps same)

open_same : (test test2 : Pairs → Bool) (r : Option Pairs) → ((ps : Pairs) → test ps ≡ test2 ps) → option_map_or test r true ≡ option_map_or test2 r true
open_same test test2 None same = refl
open_same test test2 (Some ps) same = same ps

-- both have records that share no address, or neither has
pub apart_same : (kept kept2 : RecordsByPlace) (places : ℕ) → SameRecords places kept kept2 → are_apart kept places ≡ are_apart kept2 places
apart_same kept kept2 places same =
    each_same (λ j. option_map_or (is_apart kept j) (kept j) true) (λ j. option_map_or (is_apart kept2 j) (kept2 j) true) places (λ j lt.
    ap (λ r. option_map_or (is_apart kept j) r true) (same j lt)
    ∙ open_same (is_apart kept j) (is_apart kept2 j) (kept2 j) (λ ps. free_same kept kept2 j ps (λ i under. same i (omega (arith, lt, under)))))

-- both have records with values of words, or neither has
pub records_fit_same : (kept kept2 : RecordsByPlace) (places : ℕ) → SameRecords places kept kept2 → records_fit kept places ≡ records_fit kept2 places
records_fit_same kept kept2 places same =
    each_same (λ j. option_map_or has_values (kept j) true) (λ j. option_map_or has_values (kept2 j) true) places (λ j lt.
    ap (λ r. option_map_or has_values r true) (same j lt))

-- both have uncovered home words that are values of words, or neither has
pub homes_fit_same : (homes homes2 : ℕ → ℕ) (kept kept2 : RecordsByPlace) (places words : ℕ) → SameRecords places kept kept2 → ((a : ℕ) → a < words → homes a ≡ homes2 a)
    → homes_fit homes kept places words ≡ homes_fit homes2 kept2 places words
homes_fit_same homes homes2 kept kept2 places words same home_words =
    each_same (λ a. is_covered kept places a || nat_le (homes a) MAX_VALUE) (λ a. is_covered kept2 places a || nat_le (homes2 a) MAX_VALUE) words (λ a lt.
    ap (λ b. b || nat_le (homes a) MAX_VALUE) (covered_same kept kept2 places a same)
    ∙ ap (λ v. is_covered kept2 places a || nat_le v MAX_VALUE) (home_words a lt))

-- too many entries are no well-formed record
pub too_many : (layout : Layout) (words : ℕ) (ps : Pairs) → most_entries layout < length ps → is_record layout words ps ≡ false
too_many layout words ps many =
    and_left (nat_le 1 (length ps) && nat_le (length ps) (most_entries layout)) (rises_below words 0 ps)
    (and_right (nat_le 1 (length ps)) (nat_le (length ps) (most_entries layout)) (lt-leb (length ps) (most_entries layout) many))
