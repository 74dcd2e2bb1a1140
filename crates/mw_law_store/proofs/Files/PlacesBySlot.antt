-- Which record places of a file hold changes, computed from what is due to each slot of the pool, and how they change with
-- that. Used by: ArrivalsAndStarts, CallFiles, Filed, among others.
use Rattle.std.specs.Prelude.{ℕ, ◌≡◌, ◌≢◌, ◌<◌, ◌⊎◌, ◌==◌, Bool, true, false, List}
use Rattle.std.proofs.Common.{refl, sym, ap, ◌∙◌, inl, inr, arith}
use Rattle.std.proofs.lemmas.Bool.Decides.{nat_tests}
use Rattle.mw_words.specs.declared.jobs.Entry.{Entry}
use Rattle.mw_world.specs.Files.State.{File, Place, Empty, Prepared, is_empty, prepared, emptied}
use Rattle.mw_world.specs.Maps.{upd}

-- A slot's change is in this place.
pub record HasPlace (due : ℕ → Place) (file : File) (place : ℕ) : Type 0 where
  pub slot : ℕ
  pub due_some : is_empty (due slot) ≡ false
  pub is : file.place_of slot ≡ place

-- Each slot to which a place is due has a place of its own among the first so many, which is as it is due. No other place is in
-- use.
pub record ArePlaced (places : ℕ) (due : ℕ → Place) (file : File) : Type 0 where
  pub within : (slot : ℕ) → is_empty (due slot) ≡ false → file.place_of slot < places
  pub there : (slot : ℕ) → is_empty (due slot) ≡ false → file.places (file.place_of slot) ≡ due slot
  pub own : (slot other : ℕ) → is_empty (due slot) ≡ false → is_empty (due other) ≡ false → file.place_of slot ≡ file.place_of other → slot ≡ other
  pub in_use : (place : ℕ) → is_empty (file.places place) ≡ false → HasPlace due file place

-- a place in use is the place of a slot to which it is due
pub other_place : (places : ℕ) (due : ℕ → Place) (file : File) (slot place : ℕ) → ArePlaced places due file → is_empty (due slot) ≡ false → is_empty (file.places place) ≡ true → file.place_of slot ≢ place
other_place places due file slot place placed some empty is = grind (arith, placed.there slot some, some, empty, is)

module _ (places : ℕ) (due next : ℕ → Place) (file : File) (placed : ArePlaced places due file) where
  -- the same places are due to the slots
  pub same_due : ((slot : ℕ) → next slot ≡ due slot) → ArePlaced places next file
  same_due same = record {
    within = λ slot some. placed.within slot (was slot some);
    there = λ slot some. placed.there slot (was slot some) ∙ sym (same slot);
    own = λ slot other some there is. placed.own slot other (was slot some) (was other there) is;
    in_use = λ place used. let at = placed.in_use place used in record { slot = at.slot; due_some = ap is_empty (same at.slot) ∙ at.due_some; is = at.is };
  }
    where
      was : (slot : ℕ) → is_empty (next slot) ≡ false → is_empty (due slot) ≡ false
      was slot some = ap is_empty (sym (same slot)) ∙ some

  module _ (slot : ℕ) where
    here_or_else : (to : Place) → ((one : ℕ) → next one ≡ upd due slot to one) → (one : ℕ) → ((one ≡ slot) × (next one ≡ to)) ⊎ ((one ≢ slot) × (next one ≡ due one))
    here_or_else to sets one = by_test (one == slot) refl
      where
        by_test : (b : Bool) → (one == slot) ≡ b → ((one ≡ slot) × (next one ≡ to)) ⊎ ((one ≢ slot) × (next one ≡ due one))
        by_test true is = inl (grind (arith, nat_tests, is), grind (arith, nat_tests, is, sets one))
        by_test false is = inr (λ same. absurd (grind (arith, nat_tests, is, same)), grind (arith, nat_tests, is, sets one))

    -- a place becomes due to a slot that had none, and is put into an empty place
    pub prepares : (place : ℕ) (entries : List Entry) → is_empty (due slot) ≡ true → place < places → is_empty (file.places place) ≡ true
        → ((one : ℕ) → next one ≡ upd due slot (Prepared entries) one) → ArePlaced places next (prepared file slot place entries)
    prepares place entries none low empty sets = record {
      within = λ one some. grind (arith, nat_tests, sets one, placed.within one, some, low);
      there = λ one some. grind (arith, nat_tests, sets one, placed.there one, some, other_place places due file one place placed, empty);
      own = λ one other some there is.
          grind (arith, nat_tests, sets one, sets other, placed.own one other, some, there, is, other_place places due file one place placed, other_place places due file other place placed, empty);
      in_use = λ at used. grind (arith, nat_tests, placed.in_use at, used);
    }

    -- another change is due to a slot, and is put into its place
    pub changes : (contents : List ℕ) (place : ℕ) (to : Place) → is_empty (due slot) ≡ false → is_empty to ≡ false → file.place_of slot ≡ place → ((one : ℕ) → next one ≡ upd due slot to one)
        → ArePlaced places next (record file { contents = contents; places = upd file.places place to })
    changes contents place to some full is sets = record {
      within = λ one there. grind (arith, nat_tests, sets one, placed.within one, some, there, is);
      there = λ one there. grind (arith, nat_tests, sets one, placed.there one, placed.own one slot, some, there, is);
      own = λ one other there too at. grind (arith, nat_tests, sets one, sets other, placed.own one other, some, there, too, at);
      in_use = λ at used. by_test at used (at == place) refl;
    }
      where
        by_test : (at : ℕ) → is_empty (upd file.places place to at) ≡ false → (b : Bool) → (at == place) ≡ b → HasPlace next (record file { contents = contents; places = upd file.places place to }) at
        by_test at used true here = record { slot = slot; due_some = grind (arith, nat_tests, sets slot, full); is = grind (arith, nat_tests, here, is) }
        by_test at used false else_where =
            let had = placed.in_use at (grind (arith, nat_tests, else_where, used)) in
            record { slot = had.slot; due_some = grind (arith, nat_tests, sets had.slot, had.due_some, had.is, is, else_where); is = had.is }

    -- no place is due to a slot any more, and its place is emptied
    pub empties : (place : ℕ) → is_empty (due slot) ≡ false → file.place_of slot ≡ place → ((one : ℕ) → next one ≡ upd due slot Empty one) → ArePlaced places next (emptied file place)
    empties place some is sets = record {
      within = λ one there. grind (arith, nat_tests, sets one, placed.within one, there);
      there = λ one there. grind (arith, nat_tests, sets one, placed.there one, placed.own one slot, some, there, is);
      own = λ one other there too at. grind (arith, nat_tests, sets one, sets other, placed.own one other, there, too, at);
      in_use = λ at used. by_test at used (at == place) refl;
    }
      where
        by_test : (at : ℕ) → is_empty (upd file.places place Empty at) ≡ false → (b : Bool) → (at == place) ≡ b → HasPlace next (emptied file place) at
        by_test at used true here = absurd (grind (arith, nat_tests, here, used))
        by_test at used false else_where =
            let had = placed.in_use at (grind (arith, nat_tests, else_where, used)) in
            record { slot = had.slot; due_some = grind (arith, nat_tests, sets had.slot, had.due_some, had.is, is, else_where); is = had.is }
