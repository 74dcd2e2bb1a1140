-- If a file's open records share no address, each word is the value of the open record that has its address, or else its home
-- word.
-- Used by: mw_file.
use Rattle.std.proofs.Common.{◌≡◌, ℕ, zero, suc, ◌+◌, ◌<◌, ◌≤◌, ◌==◌, ◌||◌, nat_le, if◌then◌else◌, true, false, Option, Some, None, [], ◌∷◌, slice_get, refl, sym, ap, ◌∙◌, subst, inl, inr, arith}
use Rattle.std.proofs.lemmas.Bool.{cases_Bool, cases_eq, cond-true, cond-false, both_ways, and_parts, or_cases, or_parts, or_left, or_right, or_from, leb-true, eq-eqb, ne_eqb}
use Rattle.mw_words.specs.declared.limits.TheConstants.{MAX_VALUE}
use Rattle.mw_record.specs.Records.{Pairs, RecordsByPlace, over, record_over, all_over, holds, is_covered, has_values, rises_below}
use Rattle.mw_record.proofs.TestsBelow.{has, covered_at}
use Rattle.mw_record.specs.Contents.{Apart}

-- a record without the address leaves the value
pub over_miss : (ps : Pairs) (a v : ℕ) → holds ps a ≡ false → over ps a v ≡ v
over_miss [] a v none = refl
over_miss (p ∷ ps) a v none =
    let parts = or_parts (p.0 == a) (holds ps a) none in
    over_miss ps a (if p.0 == a then p.1 else v) parts.1 ∙ cond-false (p.0 == a) p.1 v parts.0

-- if a record has the address, the value below it doesn't matter
pub over_hit : (ps : Pairs) (a v w : ℕ) → holds ps a ≡ true → over ps a v ≡ over ps a w
over_hit [] a v w some = cc
over_hit (p ∷ ps) a v w some =
    elim (cases_Bool (p.0 == a)) [
      | inl e ↦ ap (over ps a) (cond-true (p.0 == a) p.1 v e ∙ sym (cond-true (p.0 == a) p.1 w e))
      | inr e ↦ over_hit ps a (if p.0 == a then p.1 else v) (if p.0 == a then p.1 else w) (sym (ap (λ b. b || holds ps a) e) ∙ some)
    ]

pub over_small : (ps : Pairs) (a v : ℕ) → holds ps a ≡ true → has_values ps ≡ true → over ps a v ≤ MAX_VALUE
over_small [] a v some small = cc
over_small (p ∷ ps) a v some small =
    let parts = and_parts (nat_le p.1 MAX_VALUE) (has_values ps) small in
    elim (cases_Bool (holds ps a)) [
      | inl e ↦ over_small ps a (if p.0 == a then p.1 else v) e parts.1
      | inr e ↦
          let here : (p.0 == a) ≡ true = elim (or_cases (p.0 == a) (holds ps a) some) [ inl h ↦ h | inr h ↦ absurd (both_ways (holds ps a) e h) ] in
          let is : over (p ∷ ps) a v ≡ p.1 = over_miss ps a (if p.0 == a then p.1 else v) e ∙ cond-true (p.0 == a) p.1 v here in
          omega (arith, is, leb-true p.1 MAX_VALUE parts.0)
    ]

-- no entry has an address below all addresses
rises_above : (words lowest : ℕ) (ps : Pairs) (a : ℕ) → rises_below words lowest ps ≡ true → a < lowest → holds ps a ≡ false
rises_above words lowest [] a ok lt = refl
rises_above words lowest (p ∷ ps) a ok lt =
    let outer = and_parts _ _ ok in
    let inner = and_parts _ _ outer.0 in
    let above = leb-true lowest p.0 inner.0 in
    let apart : p.0 ≡ a → ⊥ = λ e. omega (arith, e, above, lt) in
    or_from (p.0 == a) (holds ps a) (ne_eqb p.0 a apart) (rises_above words (p.0 + 1) ps a outer.1 (omega (arith, above, lt)))

-- the value at an entry's address after the record is put over it is the entry's new value
pub over_at : (words lowest : ℕ) (ps : Pairs) (i : ℕ) (p : ℕ × ℕ) (v : ℕ) → rises_below words lowest ps ≡ true → slice_get ps i ≡ Some p → over ps p.0 v ≡ p.1
over_at words lowest [] i p v ok read = cc
over_at words lowest (q ∷ ps) zero p v ok read =
    let e : q ≡ p = cc in
    let rest = rises_above words (q.0 + 1) ps q.0 (and_parts _ _ ok).1 (omega arith) in
    let at_q : over (q ∷ ps) q.0 v ≡ q.1 = over_miss ps q.0 (if q.0 == q.0 then q.1 else v) rest ∙ cond-true (q.0 == q.0) q.1 v (eq-eqb q.0 q.0 refl) in
    subst (λ (x : ℕ × ℕ). over (q ∷ ps) x.0 v ≡ x.1) e at_q
over_at words lowest (q ∷ ps) (suc i) p v ok read =
    over_at words (q.0 + 1) ps i p (if q.0 == p.0 then q.1 else v) (and_parts _ _ ok).1 read

pub holds_at : (ps : Pairs) (i : ℕ) (p : ℕ × ℕ) → slice_get ps i ≡ Some p → holds ps p.0 ≡ true
holds_at [] i p read = cc
holds_at (q ∷ ps) zero p read =
    let e : q ≡ p = cc in
    or_left (q.0 == p.0) (holds ps p.0) (eq-eqb q.0 p.0 (ap (λ (x : ℕ × ℕ). x.0) e))
holds_at (q ∷ ps) (suc i) p read = or_right (q.0 == p.0) (holds ps p.0) (holds_at ps i p read)

record_miss : (r : Option Pairs) (a v : ℕ) → has r a ≡ false → record_over r a v ≡ v
record_miss None a v none = refl
record_miss (Some ps) a v none = over_miss ps a v none

-- If no open record has an address, they leave the value there.
pub all_miss : (kept : RecordsByPlace) (places a v : ℕ) → is_covered kept places a ≡ false → all_over kept places a v ≡ v
all_miss kept zero a v none = refl
all_miss kept (suc places) a v none =
    let parts = or_parts (has (kept places) a) (is_covered kept places a) none in
    record_miss (kept places) a (all_over kept places a v) parts.0 ∙ all_miss kept places a v parts.1

-- an open record that covers an address
pub record Covers (kept : RecordsByPlace) (places a : ℕ) : Type 0 where
  pub place : ℕ
  pub pairs : Pairs
  pub within : place < places
  pub is : kept place ≡ Some pairs
  pub holds_it : holds pairs a ≡ true

has_one : (kept : RecordsByPlace) (places place a : ℕ) (r : Option Pairs) → place < places → kept place ≡ r → has r a ≡ true → Covers kept places a
has_one kept places place a None lt is some = cc
has_one kept places place a (Some ps) lt is some = record { place = place; pairs = ps; within = lt; is = is; holds_it = some }

wider : (kept : RecordsByPlace) (places a : ℕ) → Covers kept places a → Covers kept (suc places) a
wider kept places a c = record { place = c.place; pairs = c.pairs; within = omega (arith, c.within); is = c.is; holds_it = c.holds_it }

pub covers : (kept : RecordsByPlace) (places a : ℕ) → is_covered kept places a ≡ true → Covers kept places a
covers kept zero a some = cc
covers kept (suc places) a some =
    elim (or_cases (has (kept places) a) (is_covered kept places a) some) [
      | inl here ↦ has_one kept (suc places) places a (kept places) (omega arith) refl here
      | inr below ↦ wider kept places a (covers kept places a below)
    ]

pub covered : (kept : RecordsByPlace) (places a : ℕ) → Covers kept places a → is_covered kept places a ≡ true
covered kept places a c = covered_at kept places c.place a c.within (ap (λ r. has r a) c.is ∙ c.holds_it)

lone_at : (kept : RecordsByPlace) (places a : ℕ) (c : Covers kept (suc places) a) (r : Option Pairs) → Apart kept (suc places) → (c.place ≡ places → ⊥) → kept places ≡ r → has r a ≡ true → ⊥
lone_at kept places a c None apart before is some = cc
lone_at kept places a c (Some qs) apart before is some = apart c.place places c.pairs qs a c.within (omega arith) before c.is is c.holds_it some

lone : (kept : RecordsByPlace) (places a : ℕ) (c : Covers kept (suc places) a) → Apart kept (suc places) → (c.place ≡ places → ⊥) → has (kept places) a ≡ true → ⊥
lone kept places a c apart before some = lone_at kept places a c (kept places) apart before refl some

-- If an open record has an address and no other does, the value there is that record's.
pub all_hit : (kept : RecordsByPlace) (places a v : ℕ) → Apart kept places → (c : Covers kept places a) → all_over kept places a v ≡ over c.pairs a 0
all_hit kept zero a v apart c = absurd (omega (arith, c.within))
all_hit kept (suc places) a v apart c =
    elim (cases_eq c.place places) [
      | inl last ↦
          let is : kept places ≡ Some c.pairs = ap kept (sym last) ∙ c.is in
          ap (λ r. record_over r a (all_over kept places a v)) is ∙ over_hit c.pairs a (all_over kept places a v) 0 c.holds_it
      | inr before ↦
          let within : c.place < places = omega (arith, c.within, before) in
          let below : Covers kept places a = record { place = c.place; pairs = c.pairs; within = within; is = c.is; holds_it = c.holds_it } in
          let apart_below : Apart kept places = λ i j ps qs b p q. apart i j ps qs b (omega (arith, p)) (omega (arith, q)) in
          let not_last : has (kept places) a ≡ false = elim (cases_Bool (has (kept places) a)) [
            | inl h ↦
                absurd (lone kept places a c apart before h)
            | inr h ↦ h
          ] in
          record_miss (kept places) a (all_over kept places a v) not_last ∙ all_hit kept places a v apart_below below
    ]
