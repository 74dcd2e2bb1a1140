-- `place_at` inverts `index_of`: at the index of a shared word's place, it gives that place. Used by: PlacesAtIndexes.
use Rattle.std.proofs.Common.{ℕ, ◌≡◌, ◌+◌, ◌-◌, ◌*◌, ◌/◌, ◌%◌, ◌<◌, ap, ◌∙◌, arith}
use Rattle.std.proofs.lemmas.Bool.Decides.{nat_tests}
use Rattle.mw_words.specs.declared.limits.TheConstants.{MAX_ENTRIES, MAX_TENANTS, MAX_WORDS, MAX_WORKERS}
use Rattle.mw_words.specs.declared.places.At.{At}
use Rattle.mw_words.specs.declared.places.At.TheVariants.{Door as AtDoor, Gate as AtGate, Row as AtRow, Data, Status as AtStatus, Count, Addr, Expected, New}
use Rattle.mw_rule.specs.declared.indexes.TheConstants.{LINE}
use Rattle.mw_rule.specs.Layout.{Within, index_of, slot_wide, slots_from}
use Rattle.mw_table.specs.Places.{line_place, slot_place, place_at}

-- the place that begins a line
in_line : (pool line : ℕ) → line < MAX_TENANTS + MAX_WORKERS → place_at pool (LINE * line) ≡ line_place line
in_line pool line low =
    let quotient : LINE * line / LINE ≡ line = omega arith in
    let rest : LINE * line % LINE ≡ 0 = omega arith in
    grind (arith, nat_tests, quotient, rest)

-- the place of a slot's word, by the index within the slot
in_slot : (pool slot k : ℕ) → slot < pool → k < slot_wide → place_at pool (slots_from + slot_wide * slot + k) ≡ slot_place slot k
in_slot pool slot k there within =
    let quotient : (slots_from + slot_wide * slot + k - slots_from) / slot_wide ≡ slot = omega arith in
    let rest : (slots_from + slot_wide * slot + k - slots_from) % slot_wide ≡ k = omega arith in
    grind (arith, nat_tests, quotient, rest)

line_of_door : (tenant : ℕ) → tenant < MAX_TENANTS → line_place tenant ≡ AtDoor tenant
line_of_door tenant h = grind (arith, nat_tests)

line_of_row : (worker : ℕ) → line_place (MAX_TENANTS + worker) ≡ AtRow worker
line_of_row worker = let same : MAX_TENANTS + worker - MAX_TENANTS ≡ worker = omega arith in grind (arith, nat_tests, same)

entry_of_address : (slot entry : ℕ) → entry < MAX_ENTRIES → slot_place slot (3 + entry) ≡ Addr slot entry
entry_of_address slot entry h = let same : 3 + entry - 3 ≡ entry = omega arith in grind (arith, nat_tests, same)

entry_of_expected : (slot entry : ℕ) → entry < MAX_ENTRIES → slot_place slot (3 + MAX_ENTRIES + entry) ≡ Expected slot entry
entry_of_expected slot entry h = let same : 3 + MAX_ENTRIES + entry - (3 + MAX_ENTRIES) ≡ entry = omega arith in grind (arith, nat_tests, same)

entry_of_new : (slot entry : ℕ) → entry < MAX_ENTRIES → slot_place slot (3 + 2 * MAX_ENTRIES + entry) ≡ New slot entry
entry_of_new slot entry h = let same : 3 + 2 * MAX_ENTRIES + entry - (3 + 2 * MAX_ENTRIES) ≡ entry = omega arith in grind (arith, nat_tests, same)

in_words_of : (pool tenant address : ℕ) → address < MAX_WORDS → place_at pool (slots_from + slot_wide * pool + MAX_WORDS * tenant + address) ≡ Data tenant address
in_words_of pool tenant address h =
    let quotient : (slots_from + slot_wide * pool + MAX_WORDS * tenant + address - (slots_from + slot_wide * pool)) / MAX_WORDS ≡ tenant = omega arith in
    let rest : (slots_from + slot_wide * pool + MAX_WORDS * tenant + address - (slots_from + slot_wide * pool)) % MAX_WORDS ≡ address = omega arith in
    grind (arith, nat_tests, quotient, rest)

pub finds_place : (pool : ℕ) (at : At) → Within pool at → place_at pool (index_of pool at) ≡ at
finds_place pool (AtDoor tenant) h = in_line pool tenant (omega (arith, h)) ∙ line_of_door tenant h
finds_place pool (AtRow worker) h = in_line pool (MAX_TENANTS + worker) (omega (arith, h)) ∙ line_of_row worker
finds_place pool (AtGate slot) h = let same : slots_from + slot_wide * slot ≡ slots_from + slot_wide * slot + 0 = omega arith in ap (place_at pool) same ∙ in_slot pool slot 0 h (omega arith)
finds_place pool (AtStatus slot) h = in_slot pool slot 1 h (omega arith)
finds_place pool (Count slot) h = in_slot pool slot 2 h (omega arith)
finds_place pool (Addr slot entry) h = in_slot pool slot (3 + entry) h.0 (omega arith) ∙ entry_of_address slot entry h.1
finds_place pool (Expected slot entry) h = in_slot pool slot (3 + MAX_ENTRIES + entry) h.0 (omega arith) ∙ entry_of_expected slot entry h.1
finds_place pool (New slot entry) h = in_slot pool slot (3 + 2 * MAX_ENTRIES + entry) h.0 (omega arith) ∙ entry_of_new slot entry h.1
finds_place pool (Data tenant address) h = in_words_of pool tenant address h
