-- A loop that tests each number below a bound (a place, or an address) gives the result of the whole test. Used by: mw_file.
use Rattle.std.proofs.Common.{◌≡◌, ℕ, zero, suc, ◌+◌, ◌<◌, ◌≤◌, ◌&&◌, Bool, true, false, [], ◌∷◌, slice_get, length, nat_le, Option, Some, refl, sym, ap, ◌∙◌, subst, inl, inr, arith, add-one}
use Rattle.std.proofs.lemmas.Bool.{leb-true, ltb-true, and_parts, and_from, and_left, and_right, or_left, or_right, or_from, cases_eq}
use Rattle.std.specs.Option.{option_map_or}
use Rattle.mw_record.specs.declared.layout.Layout.{Layout}
use Rattle.mw_record.specs.Layout.{most_entries}
use Rattle.mw_record.specs.Records.{Pairs, RecordsByPlace, is_record, rises_below, is_formed, are_formed, each_below, is_covered, holds, all_over, record_over}

pub each_more : (test : ℕ → Bool) (i : ℕ) → each_below test i ≡ true → test i ≡ true → each_below test (i + 1) ≡ true
each_more test i below here = ap (each_below test) (add-one i) ∙ and_from (test i) (each_below test i) here below

pub each_at : (test : ℕ → Bool) (n i : ℕ) → each_below test n ≡ true → i < n → test i ≡ true
each_at test zero i all lt = absurd (omega arith)
each_at test (suc n) i all lt =
    let parts = and_parts (test n) (each_below test n) all in
    elim (cases_eq i n) [
      | inl e ↦ ap test e ∙ parts.0
      | inr ne ↦ each_at test n i parts.1 (omega (arith, ne))
    ]

pub each_fails : (test : ℕ → Bool) (n i : ℕ) → i < n → test i ≡ false → each_below test n ≡ false
each_fails test zero i lt fails = absurd (omega arith)
each_fails test (suc n) i lt fails =
    elim (cases_eq i n) [
      | inl e ↦ and_left (test n) (each_below test n) (sym (ap test e) ∙ fails)
      | inr ne ↦ and_right (test n) (each_below test n) (each_fails test n i (omega (arith, ne)) fails)
    ]

pub each_from : (test : ℕ → Bool) (n : ℕ) → ((i : ℕ) → i < n → test i ≡ true) → each_below test n ≡ true
each_from test zero all = refl
each_from test (suc n) all = and_from (test n) (each_below test n) (all n (omega arith)) (each_from test n (λ i lt. all i (omega arith)))

-- a place's record has an address
abbrev pub has : Option Pairs → ℕ → Bool
has kept addr = option_map_or (λ pairs. holds pairs addr) kept false

pub covered_more : (kept : RecordsByPlace) (i addr : ℕ) → is_covered kept i addr ≡ false → has (kept i) addr ≡ false → is_covered kept (i + 1) addr ≡ false
covered_more kept i addr below here = ap (λ n. is_covered kept n addr) (add-one i) ∙ or_from (has (kept i) addr) (is_covered kept i addr) here below

pub covered_at : (kept : RecordsByPlace) (n i addr : ℕ) → i < n → has (kept i) addr ≡ true → is_covered kept n addr ≡ true
covered_at kept zero i addr lt here = absurd (omega arith)
covered_at kept (suc n) i addr lt here =
    elim (cases_eq i n) [
      | inl e ↦ or_left (has (kept n) addr) (is_covered kept n addr) (sym (ap (λ j. has (kept j) addr) e) ∙ here)
      | inr ne ↦ or_right (has (kept n) addr) (is_covered kept n addr) (covered_at kept n i addr (omega (arith, ne)) here)
    ]

pub over_more : (kept : RecordsByPlace) (i addr value : ℕ) → all_over kept (i + 1) addr value ≡ record_over (kept i) addr (all_over kept i addr value)
over_more kept i addr value = ap (λ n. all_over kept n addr value) (add-one i)

-- a well-formed record has no more entries than the layout allows
pub few_entries : (layout : Layout) (words : ℕ) (pairs : Pairs) → is_record layout words pairs ≡ true → length pairs ≤ most_entries layout
few_entries layout words pairs formed =
    let outer = and_parts (nat_le 1 (length pairs) && nat_le (length pairs) (most_entries layout)) (rises_below words 0 pairs) formed in
    let inner = and_parts (nat_le 1 (length pairs)) (nat_le (length pairs) (most_entries layout)) outer.0 in
    leb-true (length pairs) (most_entries layout) inner.1

-- and it has at least one
pub some_entries : (layout : Layout) (words : ℕ) (pairs : Pairs) → is_record layout words pairs ≡ true → 1 ≤ length pairs
some_entries layout words pairs formed =
    let outer = and_parts (nat_le 1 (length pairs) && nat_le (length pairs) (most_entries layout)) (rises_below words 0 pairs) formed in
    let inner = and_parts (nat_le 1 (length pairs)) (nat_le (length pairs) (most_entries layout)) outer.0 in
    leb-true 1 (length pairs) inner.0

-- if all open records are well formed, each is
pub formed_at : (layout : Layout) (words places place : ℕ) (kept : RecordsByPlace) (pairs : Pairs) → are_formed layout words kept places ≡ true → place < places → kept place ≡ Some pairs → is_record layout words pairs ≡ true
formed_at layout words places place kept pairs all lt is =
    sym (ap (is_formed layout words) is) ∙ each_at (λ j. is_formed layout words (kept j)) places place all lt

-- each address of a record is below the number of words
pub rises_at : (words lowest : ℕ) (pairs : Pairs) (i : ℕ) (p : ℕ × ℕ) → rises_below words lowest pairs ≡ true → slice_get pairs i ≡ Some p → p.0 < words
rises_at words lowest [] i p ok read = cc
rises_at words lowest (q ∷ pairs) zero p ok read =
    let e : q ≡ p = cc in
    subst (λ (x : ℕ × ℕ). x.0 < words) e (ltb-true _ _ (and_parts _ _ (and_parts _ _ ok).0).1)
rises_at words lowest (q ∷ pairs) (suc i) p ok read =
    rises_at words (q.0 + 1) pairs i p (and_parts _ _ ok).1 read

pub address_below : (layout : Layout) (words : ℕ) (pairs : Pairs) (i : ℕ) (p : ℕ × ℕ) → is_record layout words pairs ≡ true → slice_get pairs i ≡ Some p → p.0 < words
address_below layout words pairs i p formed read = rises_at words 0 pairs i p (and_parts _ _ formed).1 read
