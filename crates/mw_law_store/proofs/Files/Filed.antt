-- A tenant's file after a call on it: which record places hold changes, by each slot's status, and which values its words
-- have.
-- Used by: mw_rule.
use Rattle.std.specs.Prelude.{ℕ, zero, suc, ◌≡◌, ◌≢◌, ◌<◌, ◌+◌, ◌==◌, Bool, true, false, if◌then◌else◌, List, [], ◌∷◌, length, set, Option, Some, None}
use Rattle.std.specs.Option.{option_map_or}
use Rattle.std.proofs.Common.{refl, sym, ap, subst, ◌∙◌, arith}
use Rattle.std.proofs.lemmas.Bool.Decides.{nat_tests}
use Rattle.std.proofs.lemmas.List.{get_or-set_same, get_or-set_other, length-set}
use Rattle.mw_lone.proofs.SoundStores.{length-put}
use Rattle.mw_words.specs.declared.gates.Gate.{Gate}
use Rattle.mw_words.specs.declared.jobs.Entry.{Entry}
use Rattle.mw_words.specs.declared.statuses.Status.{Status}
use Rattle.mw_words.specs.Change.{put, rises_from, word_at}
use Rattle.mw_world.specs.Files.State.{File, Place, is_empty, empty_from, entries_at, prepared, sealed, emptied, broken}
use Rattle.mw_world.specs.Maps.{upd, upd_two}
use Rattle.mw_world.specs.Claim.Invariant.{placed}
use Rattle.mw_world.specs.Definition.History.{entry_for}
use Rattle.mw_law_store.proofs.Files.PlacesBySlot.{ArePlaced}
use Rattle.mw_law_store.proofs.Files.Tenants.{Agrees, due_of}

-- a slot's change gets another status, in the file of its tenant, and in that of another one
module _ (gates : ℕ → Gate) (owners : ℕ → ℕ → ℕ) (fates : ℕ → ℕ → Status) (entries : ℕ → ℕ → List Entry) (tenant slot seq : ℕ) (to : Status) (one : ℕ) where
  pub due_set : (gates slot).taken ≡ true → (gates slot).seq ≡ seq → owners slot seq ≡ tenant
      → due_of (gates one) (owners one (gates one).seq) (upd_two fates slot seq to one (gates one).seq) (entries one (gates one).seq) tenant
      ≡ upd (λ (other : ℕ). due_of (gates other) (owners other (gates other).seq) (fates other (gates other).seq) (entries other (gates other).seq) tenant) slot (placed to (entries slot seq)) one
  due_set taken number its = grind (arith, nat_tests, taken, number, its)

  pub due_kept : owners slot seq ≢ tenant
      → due_of (gates one) (owners one (gates one).seq) (upd_two fates slot seq to one (gates one).seq) (entries one (gates one).seq) tenant
      ≡ due_of (gates one) (owners one (gates one).seq) (fates one (gates one).seq) (entries one (gates one).seq) tenant
  due_kept others = grind (arith, nat_tests, others)

-- The lowest empty place of the first so many is empty.
pub empty_there : (file : File) (first left : ℕ) → empty_from file first left < first + left → is_empty (file.places (empty_from file first left)) ≡ true
empty_there file first zero low = absurd (omega (arith, low))
empty_there file first (suc left) low = by_test (is_empty (file.places first)) refl (empty_there file (first + 1) left)
  where
    narrow : {at : ℕ} → at < first + suc left → at < (first + 1) + left
    narrow less = omega (arith, less)

    by_test : (b : Bool) → is_empty (file.places first) ≡ b
        → (empty_from file (first + 1) left < (first + 1) + left → is_empty (file.places (empty_from file (first + 1) left)) ≡ true)
        → is_empty (file.places (if b then first else empty_from file (first + 1) left)) ≡ true
    by_test true is on = is
    by_test false is on = on (narrow (subst (λ (b : Bool). (if b then first else empty_from file (first + 1) left) < first + suc left) is low))

-- a word below a change's lowest has no entry there
none_below : (entries : List Entry) (lowest address : ℕ) → rises_from lowest entries ≡ true → address < lowest → entry_for entries address ≡ None
none_below [] lowest address rise low = refl
none_below (entry ∷ entries) lowest address rise low = grind (arith, nat_tests, rise, low, none_below entries (entry.addr + 1) address)

-- the value that a word has after a change is put over it
pub put_at : (entries : List Entry) (lowest : ℕ) (words : List ℕ) (address : ℕ) → rises_from lowest entries ≡ true → address < length words
    → word_at (put words entries) address ≡ option_map_or (λ (entry : Entry). entry.new) (entry_for entries address) (word_at words address)
put_at [] lowest words address rise low = refl
put_at (entry ∷ entries) lowest words address rise low =
    by_test (entry.addr == address) refl
    (put_at entries (entry.addr + 1) (set words entry.addr entry.new) address (grind (arith, nat_tests, rise)) (subst (λ (many : ℕ). address < many) (sym (length-set words entry.addr entry.new)) low))
  where
    by_test : (b : Bool) → (entry.addr == address) ≡ b
        → word_at (put (set words entry.addr entry.new) entries) address
        ≡ option_map_or (λ (one : Entry). one.new) (entry_for entries address) (word_at (set words entry.addr entry.new) address)
        → word_at (put (set words entry.addr entry.new) entries) address
        ≡ option_map_or (λ (one : Entry). one.new) (if b then Some entry else entry_for entries address) (word_at words address)
    by_test true is on =
        let same : entry.addr ≡ address = grind (arith, nat_tests, is) in
        on ∙ ap (λ (found : Option Entry). option_map_or (λ (one : Entry). one.new) found (word_at (set words entry.addr entry.new) address))
        (none_below entries (entry.addr + 1) address (grind (arith, nat_tests, rise)) (omega (arith, same)))
        ∙ subst (λ (at : ℕ). word_at (set words entry.addr entry.new) at ≡ entry.new) same
        (get_or-set_same words entry.addr entry.new 0 (subst (λ (at : ℕ). at < length words) (sym same) low))
    by_test false is on =
        on ∙ ap (λ (value : ℕ). option_map_or (λ (one : Entry). one.new) (entry_for entries address) value)
        (get_or-set_other words entry.addr address entry.new 0 (λ same. apart same))
      where
        apart : address ≡ entry.addr → ⊥
        apart same = grind (arith, nat_tests, is, same)

module _ (words : ℕ) (fault is_up : Bool) (values : ℕ → ℕ) (file : File) (agrees : Agrees words fault is_up values file) where
  pub prepared_agrees : (slot place : ℕ) (entries : List Entry) → Agrees words fault is_up values (prepared file slot place entries)
  prepared_agrees slot place entries = record { long = agrees.long; failed = agrees.failed; down = agrees.down; certain = agrees.certain; shown = agrees.shown }

  pub emptied_agrees : (place : ℕ) → Agrees words fault is_up values (emptied file place)
  emptied_agrees place = record { long = agrees.long; failed = agrees.failed; down = agrees.down; certain = agrees.certain; shown = agrees.shown }

  -- the values that a change puts agree with the file
  pub sealed_agrees : (place : ℕ) (after : ℕ → ℕ) → (is_up ≡ true → (address : ℕ) → address < words → values address ≡ word_at file.contents address → after address ≡ word_at (put file.contents (entries_at file place)) address)
      → Agrees words fault is_up after (sealed file place)
  sealed_agrees place after puts = record {
    long = length-put file.contents (entries_at file place) ∙ agrees.long;
    failed = agrees.failed;
    down = agrees.down;
    certain = agrees.certain;
    shown = λ is address low. puts is address low (agrees.shown is address low);
  }

  pub broken_agrees : (doubt : List Entry) → Agrees words true is_up values (broken file doubt)
  broken_agrees doubt = record { long = agrees.long; failed = refl; down = λ is. refl; certain = λ is. absurd (both is); shown = agrees.shown }
    where
      both : true ≡ false → ⊥
      both e = cc

pub broken_placed : (places : ℕ) (due : ℕ → Place) (file : File) (doubt : List Entry) → ArePlaced places due file → ArePlaced places due (broken file doubt)
broken_placed places due file doubt placed = record {
  within = placed.within;
  there = placed.there;
  own = placed.own;
  in_use = λ place used. let at = placed.in_use place used in record { slot = at.slot; due_some = at.due_some; is = at.is };
}
