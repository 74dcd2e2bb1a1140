-- The entry that a slot has for a word is the entry of its change, so the slot tells the word's expected and new value.
-- Used by: mw_law_store.
use Rattle.std.specs.Prelude.{ℕ, suc, zero, ◌≡◌, ◌<◌, ◌+◌, ◌==◌, Bool, true, false, if◌then◌else◌, List, [], ◌∷◌, length, is_some, Option, Some}
use Rattle.std.specs.Option.{option_map_or}
use Rattle.std.proofs.Common.{refl, ap, subst, sym, arith, ◌∙◌, ◌≤◌}
use Rattle.std.proofs.lemmas.Bool.Decides.{nat_tests}
use Rattle.mw_words.specs.declared.jobs.Entry.{Entry}
use Rattle.mw_words.specs.Change.{rises_from}
use Rattle.mw_actor.specs.ActorState.{entry_at}
use Rattle.mw_world.specs.Definition.Cells.{Cells}
use Rattle.mw_world.specs.Definition.History.{entry_for}
use Rattle.mw_world.specs.Claim.Invariant.{IsEntryOf}
use Rattle.mw_world.specs.Definition.Logical.{index_from}

-- the values of the word's entry are at an index of the slot
pub record ValuesAt (cells : Cells) (slot address index : ℕ) (entries : List Entry) : Type 0 where
  pub expected : cells.expecteds slot index ≡ option_map_or (λ (entry : Entry). entry.expected) (entry_for entries address) 0
  pub new : cells.new_values slot index ≡ option_map_or (λ (entry : Entry). entry.new) (entry_for entries address) 0

-- the slot's entries from a first one on are these
abbrev Stand : Cells → ℕ → ℕ → List Entry → Type 0
Stand cells slot first entries = (index : ℕ) → index < length entries → IsEntryOf cells slot (first + index) (entry_at entries index)

tail_stands : (cells : Cells) (slot first : ℕ) (entry : Entry) (entries : List Entry) → Stand cells slot first (entry ∷ entries) → Stand cells slot (first + 1) entries
tail_stands cells slot first entry entries stand index within =
    subst (λ (n : ℕ). IsEntryOf cells slot n (entry_at entries index)) (omega arith) (stand (suc index) (omega (arith, within)))

head_stands : (cells : Cells) (slot first : ℕ) (entry : Entry) (entries : List Entry) → Stand cells slot first (entry ∷ entries) → IsEntryOf cells slot first entry
head_stands cells slot first entry entries stand = subst (λ (n : ℕ). IsEntryOf cells slot n entry) (omega arith) (stand 0 (omega arith))

-- the entry that is found is the first one, or among the others
by_head : (cells : Cells) (slot address first rest : ℕ) (entry : Entry) (entries : List Entry) (test : Bool) → (entry.addr == address) ≡ test → IsEntryOf cells slot first entry
    → (is_some (entry_for entries address) ≡ true → ValuesAt cells slot address rest entries)
    → is_some (if test then Some entry else entry_for entries address) ≡ true
    → ValuesAt cells slot address (if test then first else rest) (entry ∷ entries)
by_head cells slot address first rest entry entries true is here there found = record {
  expected = here.expected ∙ sym (ap (λ (b : Bool). option_map_or (λ (one : Entry). one.expected) (if b then Some entry else entry_for entries address) 0) is);
  new = here.new ∙ sym (ap (λ (b : Bool). option_map_or (λ (one : Entry). one.new) (if b then Some entry else entry_for entries address) 0) is);
}
by_head cells slot address first rest entry entries false is here there found = record {
  expected = (there found).expected ∙ sym (ap (λ (b : Bool). option_map_or (λ (one : Entry). one.expected) (if b then Some entry else entry_for entries address) 0) is);
  new = (there found).new ∙ sym (ap (λ (b : Bool). option_map_or (λ (one : Entry). one.new) (if b then Some entry else entry_for entries address) 0) is);
}

pub found_from : (cells : Cells) (slot address first : ℕ) (entries : List Entry) → Stand cells slot first entries → is_some (entry_for entries address) ≡ true
    → ValuesAt cells slot address (index_from cells slot address first (length entries)) entries
found_from cells slot address first [] stand found = cc
found_from cells slot address first (entry ∷ entries) stand found =
    let head = head_stands cells slot first entry entries stand in
    subst (λ (addr : ℕ). ValuesAt cells slot address (if addr == address then first else index_from cells slot address (first + 1) (length entries)) (entry ∷ entries)) (sym head.addr)
    (by_head cells slot address first (index_from cells slot address (first + 1) (length entries)) entry entries (entry.addr == address) refl head
    (found_from cells slot address (first + 1) entries (tail_stands cells slot first entry entries stand)) found)

first_high : (lowest : ℕ) (entry : Entry) (entries : List Entry) → rises_from lowest (entry ∷ entries) ≡ true → lowest ≤ entry.addr
first_high lowest entry entries rises = grind (arith, nat_tests, rises)

rest_rise : (lowest : ℕ) (entry : Entry) (entries : List Entry) → rises_from lowest (entry ∷ entries) ≡ true → rises_from (entry.addr + 1) entries ≡ true
rest_rise lowest entry entries rises = grind (arith, nat_tests, rises)

if_same : (entry : Entry) (other : Option Entry) → (if entry.addr == entry.addr then Some entry else other) ≡ Some entry
if_same entry other = grind (arith, nat_tests)

if_higher : (entry : Entry) (address : ℕ) (other : Option Entry) → entry.addr + 1 ≤ address → (if entry.addr == address then Some entry else other) ≡ other
if_higher entry address other high = grind (arith, nat_tests, high)

-- if addresses rise, the entry at an index is the only one of its word
higher : (entries : List Entry) (lowest index : ℕ) → rises_from lowest entries ≡ true → index < length entries → lowest ≤ (entry_at entries index).addr
higher [] lowest index rises within = absurd (omega (arith, within))
higher (entry ∷ entries) lowest zero rises within = first_high lowest entry entries rises
higher (entry ∷ entries) lowest (suc index) rises within = omega (arith, first_high lowest entry entries rises, higher entries (entry.addr + 1) index (rest_rise lowest entry entries rises) (omega (arith, within)))

pub entry_found : (entries : List Entry) (lowest index : ℕ) → rises_from lowest entries ≡ true → index < length entries → entry_for entries (entry_at entries index).addr ≡ Some (entry_at entries index)
entry_found [] lowest index rises within = absurd (omega (arith, within))
entry_found (entry ∷ entries) lowest zero rises within = if_same entry (entry_for entries entry.addr)
entry_found (entry ∷ entries) lowest (suc index) rises within =
    if_higher entry (entry_at entries index).addr (entry_for entries (entry_at entries index).addr) (higher entries (entry.addr + 1) index (rest_rise lowest entry entries rises) (omega (arith, within)))
    ∙ entry_found entries (entry.addr + 1) index (rest_rise lowest entry entries rises) (omega (arith, within))
