-- A table that permutes the first places stays one: a place of the file is the place of just one place that the world knows.
-- Used by: Book::new, Book::unopened.
use Rattle.std.proofs.Common.{◌≡◌, ℕ, zero, suc, ◌==◌, ◌<◌, ◌≤◌, true, false, List, length, sym, ap, ◌∙◌, inl, inr, arith}
use Rattle.std.proofs.lemmas.Bool.{cases_eq, cases_lt, or_cases, or_left, or_right, eqb-true, eq-eqb}
use Rattle.std.proofs.lemmas.List.{get_or_past}
use Rattle.mw_book.specs.FilePlaces.{place_in, is_used, IsPermutation}

-- a place that has this place of the file
pub record IsAt (table : List ℕ) (places number : ℕ) : Type 0 where
  pub place : ℕ
  pub low : place < places
  pub at : place_in table place ≡ number

pub used_at : (table : List ℕ) (places number : ℕ) → is_used table places number ≡ true → IsAt table places number
used_at table zero number used = absurd (let e : false ≡ true = used in cc)
used_at table (suc places) number used = elim (or_cases (place_in table places == number) (is_used table places number) used) [
  | inl here ↦ record { place = places; low = omega arith; at = eqb-true (place_in table places) number here }
  | inr there ↦ let rest = used_at table places number there in record { place = rest.place; low = (let lt = rest.low in omega (arith, lt)); at = rest.at }
]

pub used_by : (table : List ℕ) (places number place : ℕ) → place < places → place_in table place ≡ number → is_used table places number ≡ true
used_by table zero number place low at = absurd (let e : ⊥ = omega (arith, low) in e)
used_by table (suc places) number place low at = elim (cases_eq place places) [
  | inl here ↦ or_left (place_in table places == number) (is_used table places number) (eq-eqb (place_in table places) number (ap (place_in table) (sym here) ∙ at))
  | inr there ↦ or_right (place_in table places == number) (is_used table places number) (used_by table places number place (omega (arith, low, there)) at)
]

-- the table in which each place is the file's place of the same number
pub in_order_permutes : (table : List ℕ) (places : ℕ) → ((place : ℕ) → place_in table place ≡ place) → IsPermutation table places
in_order_permutes table places same = record {
  within = λ place low. let e = same place in omega (arith, e, low);
  apart = λ one other low lower is. sym (same one) ∙ is ∙ same other;
  onto = λ number low. used_by table places number number low (same number);
  past = λ place high. same place;
}

-- a place whose place in the file is one that the file may have is one that a book may have
pub low_place : (table : List ℕ) (most place : ℕ) → most ≤ length table → place_in table place < most → place < length table
low_place table most place long low = elim (cases_lt place (length table)) [
  | inl lt ↦ lt
  | inr past ↦ let e = get_or_past table place place past in omega (arith, e, low, long, past)
]
