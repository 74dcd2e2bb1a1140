-- Says which changes of home words and open records keep a file's words, and which add one record's change. No byte is
-- mentioned.
-- Used by: mw_file, mw_world_file.
use Rattle.std.proofs.Common.{◌≡◌, ℕ, ◌<◌, ◌≤◌, ◌==◌, ◌⊎◌, if◌then◌else◌, true, false, Option, Some, None, List, [], ◌∷◌, length, get_or, set, refl, sym, ap, ◌∙◌, inl, inr, arith}
use Rattle.std.proofs.lemmas.Bool.{cases_Bool, cases_eq, both_ways, cond-true, cond-false, eq-eqb, ne_eqb}
use Rattle.std.proofs.lemmas.List.{length-set, get_or-set_same, get_or-set_other}
use Rattle.mw_words.specs.declared.limits.TheConstants.{MAX_VALUE}
use Rattle.mw_record.specs.declared.layout.Layout.{Layout}
use Rattle.mw_record.specs.Records.{Pairs, RecordsByPlace, over, all_over, holds, put_pairs, is_covered, has_values, is_record}
use Rattle.mw_record.specs.Contents.{Apart, Represents}
use Rattle.mw_record.proofs.OverlaidRecords.{Covers, covers, covered, all_miss, all_hit, over_small, over_hit, over_miss}

-- The home words have a record's values. A record stays, or it is closed and the new home words have its values.
abbrev pub Agrees : Pairs → (ℕ → ℕ) → Type 0
Agrees ps homes = (a : ℕ) → holds ps a ≡ true → homes a ≡ over ps a 0

abbrev pub StaysOrShut : Option Pairs → Option Pairs → (ℕ → ℕ) → Type 0
StaysOrShut old new homes = (new ≡ old) ⊎ ((new ≡ None) × ((ps : Pairs) → old ≡ Some ps → Agrees ps homes))

-- a home word stays, or an open record covers its address
abbrev pub StaysOrCovered : (ℕ → ℕ) → (ℕ → ℕ) → RecordsByPlace → ℕ → ℕ → Type 0
StaysOrCovered homes homes2 kept places a = (homes2 a ≡ homes a) ⊎ Covers kept places a

module _ (places : ℕ) (homes2 : ℕ → ℕ) (kept kept2 : RecordsByPlace) (records : (j : ℕ) → j < places → StaysOrShut (kept j) (kept2 j) homes2) where
  -- a record that is open now was open before
  was_open : (j : ℕ) (ps : Pairs) → j < places → kept2 j ≡ Some ps → kept j ≡ Some ps
  was_open j ps lt is =
      elim (records j lt) [
        | inl same ↦ sym same ∙ is
        | inr shut ↦ absurd (let e : ⊥ = cc (shut.0, is) in e)
      ]

  was_apart : Apart kept places → Apart kept2 places
  was_apart apart i j ps qs a p q ne is js = apart i j ps qs a p q ne (was_open i ps p is) (was_open j qs q js)

  was_covered : (a : ℕ) → Covers kept2 places a → Covers kept places a
  was_covered a c = record { place = c.place; pairs = c.pairs; within = c.within; is = was_open c.place c.pairs c.within c.is; holds_it = c.holds_it }

  -- after the record that covered an address is closed, none covers it
  bare : (a : ℕ) (c : Covers kept places a) → Apart kept places → kept2 c.place ≡ None → is_covered kept2 places a ≡ false
  bare a c apart shut =
      elim (cases_Bool (is_covered kept2 places a)) [
        | inl again ↦
            let d : Covers kept2 places a = covers kept2 places a again in
            let was : kept d.place ≡ Some d.pairs = was_open d.place d.pairs d.within d.is in
            absurd (elim (cases_eq c.place d.place) [
              | inl one ↦ (let e : ⊥ = cc (ap kept2 one, shut, d.is) in e)
              | inr two ↦ apart c.place d.place c.pairs d.pairs a c.within d.within two c.is was c.holds_it d.holds_it
            ])
        | inr h ↦ h
      ]

  -- the value at an address stays
  value_stays : (homes : ℕ → ℕ) (a : ℕ) → Apart kept places → StaysOrCovered homes homes2 kept places a → all_over kept places a (homes a) ≡ all_over kept2 places a (homes2 a)
  value_stays homes a apart home =
      elim (cases_Bool (is_covered kept places a)) [
        | inl is ↦
            let c : Covers kept places a = covers kept places a is in
            let before : all_over kept places a (homes a) ≡ over c.pairs a 0 = all_hit kept places a (homes a) apart c in
            before ∙ elim (records c.place c.within) [
              | inl same ↦
                  let d : Covers kept2 places a = record { place = c.place; pairs = c.pairs; within = c.within; is = same ∙ c.is; holds_it = c.holds_it } in
                  sym (all_hit kept2 places a (homes2 a) (was_apart apart) d)
              | inr shut ↦ sym (all_miss kept2 places a (homes2 a) (bare a c apart shut.0) ∙ shut.1 c.pairs c.is a c.holds_it)
            ]
        | inr none ↦
            let none2 : is_covered kept2 places a ≡ false = elim (cases_Bool (is_covered kept2 places a)) [
              | inl is ↦ absurd (both_ways (is_covered kept places a) none (covered kept places a (was_covered a (covers kept2 places a is))))
              | inr h ↦ h
            ] in
            let same : homes2 a ≡ homes a = elim home [
              | inl h ↦ h
              | inr c ↦ absurd (both_ways (is_covered kept places a) none (covered kept places a c))
            ] in
            all_miss kept places a (homes a) none ∙ sym same ∙ sym (all_miss kept2 places a (homes2 a) none2)
      ]

-- The words stay if each record stays, or is closed and the new home words have its values, and each home word stays or is covered by an
-- open record.
pub stands_same : (layout : Layout) (words places : ℕ) (homes homes2 : ℕ → ℕ) (kept kept2 : RecordsByPlace) (contents : List ℕ)
    → ((j : ℕ) → j < places → StaysOrShut (kept j) (kept2 j) homes2) → ((a : ℕ) → a < words → StaysOrCovered homes homes2 kept places a)
    → Represents layout words places homes kept contents → Represents layout words places homes2 kept2 contents
stands_same layout words places homes homes2 kept kept2 contents records home_words was = record {
  count = was.count;
  each = λ a lt. was.each a lt ∙ value_stays places homes2 kept kept2 records homes a was.apart (home_words a lt);
  small = was.small;
  formed = λ j ps lt is. was.formed j ps lt (was_open places homes2 kept kept2 records j ps lt is);
  apart = was_apart places homes2 kept kept2 records was.apart;
}

-- the length and the values of words with entries put over them
pub length-put_pairs : (ps : Pairs) (words : List ℕ) → length (put_pairs ps words) ≡ length words
length-put_pairs [] words = refl
length-put_pairs (p ∷ ps) words = length-put_pairs ps (set words p.0 p.1) ∙ length-set words p.0 p.1

pub get_or-put_pairs : (ps : Pairs) (words : List ℕ) (a : ℕ) → a < length words → get_or (put_pairs ps words) a 0 ≡ over ps a (get_or words a 0)
get_or-put_pairs [] words a lt = refl
get_or-put_pairs (p ∷ ps) words a lt =
    let longer : a < length (set words p.0 p.1) = omega (arith, lt, length-set words p.0 p.1) in
    let here : get_or (set words p.0 p.1) a 0 ≡ (if p.0 == a then p.1 else get_or words a 0) = elim (cases_eq p.0 a) [
      | inl e ↦
          ap (λ i. get_or (set words p.0 p.1) i 0) (sym e) ∙ get_or-set_same words p.0 p.1 0 (omega (arith, lt, e))
          ∙ sym (cond-true (p.0 == a) p.1 (get_or words a 0) (eq-eqb p.0 a e))
      | inr ne ↦
          get_or-set_other words p.0 a p.1 0 (λ e. ne (sym e))
          ∙ sym (cond-false (p.0 == a) p.1 (get_or words a 0) (ne_eqb p.0 a ne))
    ] in
    get_or-put_pairs ps (set words p.0 p.1) a longer ∙ ap (over ps a) here

-- One more place is open: its record is well formed, has values of words, and shares no address with an open one.
pub record Opens (layout : Layout) (words places place : ℕ) (ps : Pairs) (kept kept2 : RecordsByPlace) : Type 0 where
  pub within : place < places
  pub was_shut : kept place ≡ None
  pub is_open : kept2 place ≡ Some ps
  pub others : (j : ℕ) → j < places → (j ≡ place → ⊥) → kept2 j ≡ kept j
  pub formed : is_record layout words ps ≡ true
  pub values : has_values ps ≡ true
  pub alone : (j : ℕ) (qs : Pairs) (a : ℕ) → j < places → kept j ≡ Some qs → holds ps a ≡ true → holds qs a ≡ true → ⊥

module _ (layout : Layout) (words places place : ℕ) (ps : Pairs) (kept kept2 : RecordsByPlace) (opens : Opens layout words places place ps kept kept2) where
  -- an open record is the new one, or was open before
  old_or_new : (j : ℕ) (qs : Pairs) → j < places → kept2 j ≡ Some qs → ((j ≡ place) × (qs ≡ ps)) ⊎ ((j ≡ place → ⊥) × (kept j ≡ Some qs))
  old_or_new j qs lt is =
      elim (cases_eq j place) [
        | inl e ↦ inl (e, (let f : Some qs ≡ Some ps = sym is ∙ ap kept2 e ∙ opens.is_open in cc))
        | inr ne ↦ inr (ne, sym (opens.others j lt ne) ∙ is)
      ]

  still : (a : ℕ) → Covers kept places a → Covers kept2 places a
  still a c =
      let ne : c.place ≡ place → ⊥ = λ e. (let f : ⊥ = cc (ap kept e, c.is, opens.was_shut) in f) in
      record { place = c.place; pairs = c.pairs; within = c.within; is = opens.others c.place c.within ne ∙ c.is; holds_it = c.holds_it }

  apart2 : Apart kept places → Apart kept2 places
  apart2 apart i j qs rs a p q ne is js hi hj =
      elim (old_or_new i qs p is) [
        | inl iis ↦ elim (old_or_new j rs q js) [
          | inl jis ↦ ne (iis.0 ∙ sym jis.0)
          | inr jis ↦ opens.alone j rs a q jis.1 (ap (λ x. holds x a) (sym iis.1) ∙ hi) hj
        ]
        | inr iis ↦ elim (old_or_new j rs q js) [
          | inl jis ↦ opens.alone i qs a p iis.1 (ap (λ x. holds x a) (sym jis.1) ∙ hj) hi
          | inr jis ↦ apart i j qs rs a p q ne iis.1 jis.1 hi hj
        ]
      ]

  value_put : (a v : ℕ) → Apart kept places → over ps a (all_over kept places a v) ≡ all_over kept2 places a v
  unfolding still
  value_put a v apart =
      elim (cases_Bool (holds ps a)) [
        | inl here ↦
            let d : Covers kept2 places a = record { place = place; pairs = ps; within = opens.within; is = opens.is_open; holds_it = here } in
            over_hit ps a (all_over kept places a v) 0 here ∙ sym (all_hit kept2 places a v (apart2 apart) d)
        | inr here ↦
            over_miss ps a (all_over kept places a v) here ∙ elim (cases_Bool (is_covered kept places a)) [
              | inl is ↦
                  let c : Covers kept places a = covers kept places a is in
                  all_hit kept places a v apart c ∙ sym (all_hit kept2 places a v (apart2 apart) (still a c))
              | inr none ↦
                  let none2 : is_covered kept2 places a ≡ false = elim (cases_Bool (is_covered kept2 places a)) [
                    | inl is ↦
                        let d : Covers kept2 places a = covers kept2 places a is in
                        absurd (elim (old_or_new d.place d.pairs d.within d.is) [
                          | inl new ↦ both_ways (holds ps a) here (ap (λ x. holds x a) (sym new.1) ∙ d.holds_it)
                          | inr old ↦ both_ways (is_covered kept places a) none
                              (covered kept places a (record { place = d.place; pairs = d.pairs; within = d.within; is = old.1; holds_it = d.holds_it }))
                        ])
                    | inr h ↦ h
                  ] in
                  all_miss kept places a v none ∙ sym (all_miss kept2 places a v none2)
            ]
      ]

small_put : (ps : Pairs) (a v w : ℕ) → w ≡ over ps a v → v ≤ MAX_VALUE → has_values ps ≡ true → w ≤ MAX_VALUE
small_put ps a v w is small values =
    elim (cases_Bool (holds ps a)) [
      | inl some ↦ omega (arith, is, over_small ps a v some values)
      | inr none ↦ omega (arith, is, over_miss ps a v none, small)
    ]

-- After a place is opened, the words are those before with its record put over them.
pub stands_more : (layout : Layout) (words places place : ℕ) (ps : Pairs) (homes : ℕ → ℕ) (kept kept2 : RecordsByPlace) (contents : List ℕ)
    → Opens layout words places place ps kept kept2 → Represents layout words places homes kept contents → Represents layout words places homes kept2 (put_pairs ps contents)
stands_more layout words places place ps homes kept kept2 contents opens was =
    let read : (a : ℕ) → a < words → get_or (put_pairs ps contents) a 0 ≡ over ps a (get_or contents a 0) = λ a lt.
    get_or-put_pairs ps contents a (omega (arith, lt, was.count)) in
    record {
      count = length-put_pairs ps contents ∙ was.count;
      each = λ a lt. read a lt ∙ ap (over ps a) (was.each a lt) ∙ value_put layout words places place ps kept kept2 opens a (homes a) was.apart;
      small = λ a lt. small_put ps a (get_or contents a 0) (get_or (put_pairs ps contents) a 0) (read a lt) (was.small a lt) opens.values;
      formed = λ j qs lt is. elim (old_or_new layout words places place ps kept kept2 opens j qs lt is) [
        | inl new ↦ ap (is_record layout words) new.1 ∙ opens.formed
        | inr old ↦ was.formed j qs lt old.1
      ];
      apart = apart2 layout words places place ps kept kept2 opens was.apart;
    }
