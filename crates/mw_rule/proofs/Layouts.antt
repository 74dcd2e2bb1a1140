-- Each shared word of the world has an index in the table, and two words have two indexes.
-- Used by: places_stand_apart, mw_table.
use Rattle.std.specs.Prelude.{ℕ, zero, suc, [], ◌∷◌, ◌≡◌, ◌<◌, ◌≤◌, Bool, true, false, All, List, length, nat_lt, slice_index_or}
use Rattle.std.proofs.Common.{refl, ap, arith}
use Rattle.std.proofs.lemmas.Bool.Decides.{nat_tests}
use Rattle.mw_words.specs.declared.places.At.TheVariants.{Door as AtDoor, Gate as AtGate, Row as AtRow, Data, Status as AtStatus, Count, Addr, Expected, New}
use Rattle.mw_words.specs.declared.limits.TheConstants.{MAX_ENTRIES, MAX_WORDS}
use Rattle.mw_world.specs.declared.config.Tenant.{Tenant}
use Rattle.mw_world.specs.Definition.State.{no_tenant, tenant_at, tenants_of}
use Rattle.mw_rule.proofs.FromLaws.{first_holds, second_holds}
use Rattle.mw_rule.specs.Layout.{PlacesAreInTable, PlacesAreWithin, PlacesStandApart}

-- a read past a list's end gives the value for that
index_past : {A : Type 0} (all : List A) (index : ℕ) (none : A) → length all ≤ index → slice_index_or all index none ≡ none
index_past [] index none over = refl
index_past (one ∷ rest) zero none over = absurd (omega (arith, over))
index_past (one ∷ rest) (suc index) none over = index_past rest index none (omega (arith, over))

both_same : {A : Type 0} → (f : ℕ → ℕ → A) {a b c d : ℕ} → a ≡ b → c ≡ d → f a c ≡ f b d
both_same f p q = λ i. f (p i) (q i)

-- two places with one index are one place
pub index_injective : PlacesStandApart
index_injective pool (AtDoor tenant) (AtDoor its) one two same = ap AtDoor (omega (arith, one, two, same))
index_injective pool (AtDoor tenant) (AtRow another) one two same = absurd (omega (arith, one, two, same))
index_injective pool (AtDoor tenant) (AtGate place) one two same = absurd (omega (arith, one, two, same))
index_injective pool (AtDoor tenant) (AtStatus place) one two same = absurd (omega (arith, one, two, same))
index_injective pool (AtDoor tenant) (Count place) one two same = absurd (omega (arith, one, two, same))
index_injective pool (AtDoor tenant) (Addr place index) one two same = absurd (omega (arith, one, two.0, two.1, same))
index_injective pool (AtDoor tenant) (Expected place index) one two same = absurd (omega (arith, one, two.0, two.1, same))
index_injective pool (AtDoor tenant) (New place index) one two same = absurd (omega (arith, one, two.0, two.1, same))
index_injective pool (AtDoor tenant) (Data its word) one two same = absurd (omega (arith, one, two, same))
index_injective pool (AtRow worker) (AtDoor its) one two same = absurd (omega (arith, one, two, same))
index_injective pool (AtRow worker) (AtRow another) one two same = ap AtRow (omega (arith, one, two, same))
index_injective pool (AtRow worker) (AtGate place) one two same = absurd (omega (arith, one, two, same))
index_injective pool (AtRow worker) (AtStatus place) one two same = absurd (omega (arith, one, two, same))
index_injective pool (AtRow worker) (Count place) one two same = absurd (omega (arith, one, two, same))
index_injective pool (AtRow worker) (Addr place index) one two same = absurd (omega (arith, one, two.0, two.1, same))
index_injective pool (AtRow worker) (Expected place index) one two same = absurd (omega (arith, one, two.0, two.1, same))
index_injective pool (AtRow worker) (New place index) one two same = absurd (omega (arith, one, two.0, two.1, same))
index_injective pool (AtRow worker) (Data its word) one two same = absurd (omega (arith, one, two, same))
index_injective pool (AtGate slot) (AtDoor its) one two same = absurd (omega (arith, one, two, same))
index_injective pool (AtGate slot) (AtRow another) one two same = absurd (omega (arith, one, two, same))
index_injective pool (AtGate slot) (AtGate place) one two same = ap AtGate (omega (arith, one, two, same))
index_injective pool (AtGate slot) (AtStatus place) one two same = absurd (omega (arith, one, two, same))
index_injective pool (AtGate slot) (Count place) one two same = absurd (omega (arith, one, two, same))
index_injective pool (AtGate slot) (Addr place index) one two same = absurd (omega (arith, one, two.0, two.1, same))
index_injective pool (AtGate slot) (Expected place index) one two same = absurd (omega (arith, one, two.0, two.1, same))
index_injective pool (AtGate slot) (New place index) one two same = absurd (omega (arith, one, two.0, two.1, same))
index_injective pool (AtGate slot) (Data its word) one two same = absurd (omega (arith, one, two, same))
index_injective pool (AtStatus slot) (AtDoor its) one two same = absurd (omega (arith, one, two, same))
index_injective pool (AtStatus slot) (AtRow another) one two same = absurd (omega (arith, one, two, same))
index_injective pool (AtStatus slot) (AtGate place) one two same = absurd (omega (arith, one, two, same))
index_injective pool (AtStatus slot) (AtStatus place) one two same = ap AtStatus (omega (arith, one, two, same))
index_injective pool (AtStatus slot) (Count place) one two same = absurd (omega (arith, one, two, same))
index_injective pool (AtStatus slot) (Addr place index) one two same = absurd (omega (arith, one, two.0, two.1, same))
index_injective pool (AtStatus slot) (Expected place index) one two same = absurd (omega (arith, one, two.0, two.1, same))
index_injective pool (AtStatus slot) (New place index) one two same = absurd (omega (arith, one, two.0, two.1, same))
index_injective pool (AtStatus slot) (Data its word) one two same = absurd (omega (arith, one, two, same))
index_injective pool (Count slot) (AtDoor its) one two same = absurd (omega (arith, one, two, same))
index_injective pool (Count slot) (AtRow another) one two same = absurd (omega (arith, one, two, same))
index_injective pool (Count slot) (AtGate place) one two same = absurd (omega (arith, one, two, same))
index_injective pool (Count slot) (AtStatus place) one two same = absurd (omega (arith, one, two, same))
index_injective pool (Count slot) (Count place) one two same = ap Count (omega (arith, one, two, same))
index_injective pool (Count slot) (Addr place index) one two same = absurd (omega (arith, one, two.0, two.1, same))
index_injective pool (Count slot) (Expected place index) one two same = absurd (omega (arith, one, two.0, two.1, same))
index_injective pool (Count slot) (New place index) one two same = absurd (omega (arith, one, two.0, two.1, same))
index_injective pool (Count slot) (Data its word) one two same = absurd (omega (arith, one, two, same))
index_injective pool (Addr slot entry) (AtDoor its) one two same = absurd (omega (arith, one.0, one.1, two, same))
index_injective pool (Addr slot entry) (AtRow another) one two same = absurd (omega (arith, one.0, one.1, two, same))
index_injective pool (Addr slot entry) (AtGate place) one two same = absurd (omega (arith, one.0, one.1, two, same))
index_injective pool (Addr slot entry) (AtStatus place) one two same = absurd (omega (arith, one.0, one.1, two, same))
index_injective pool (Addr slot entry) (Count place) one two same = absurd (omega (arith, one.0, one.1, two, same))
index_injective pool (Addr slot entry) (Addr place index) one two same = both_same Addr (omega (arith, one.0, one.1, two.0, two.1, same)) (omega (arith, one.0, one.1, two.0, two.1, same))
index_injective pool (Addr slot entry) (Expected place index) one two same = absurd (omega (arith, one.0, one.1, two.0, two.1, same))
index_injective pool (Addr slot entry) (New place index) one two same = absurd (omega (arith, one.0, one.1, two.0, two.1, same))
index_injective pool (Addr slot entry) (Data its word) one two same = absurd (omega (arith, one.0, one.1, two, same))
index_injective pool (Expected slot entry) (AtDoor its) one two same = absurd (omega (arith, one.0, one.1, two, same))
index_injective pool (Expected slot entry) (AtRow another) one two same = absurd (omega (arith, one.0, one.1, two, same))
index_injective pool (Expected slot entry) (AtGate place) one two same = absurd (omega (arith, one.0, one.1, two, same))
index_injective pool (Expected slot entry) (AtStatus place) one two same = absurd (omega (arith, one.0, one.1, two, same))
index_injective pool (Expected slot entry) (Count place) one two same = absurd (omega (arith, one.0, one.1, two, same))
index_injective pool (Expected slot entry) (Addr place index) one two same = absurd (omega (arith, one.0, one.1, two.0, two.1, same))
index_injective pool (Expected slot entry) (Expected place index) one two same = both_same Expected (omega (arith, one.0, one.1, two.0, two.1, same)) (omega (arith, one.0, one.1, two.0, two.1, same))
index_injective pool (Expected slot entry) (New place index) one two same = absurd (omega (arith, one.0, one.1, two.0, two.1, same))
index_injective pool (Expected slot entry) (Data its word) one two same = absurd (omega (arith, one.0, one.1, two, same))
index_injective pool (New slot entry) (AtDoor its) one two same = absurd (omega (arith, one.0, one.1, two, same))
index_injective pool (New slot entry) (AtRow another) one two same = absurd (omega (arith, one.0, one.1, two, same))
index_injective pool (New slot entry) (AtGate place) one two same = absurd (omega (arith, one.0, one.1, two, same))
index_injective pool (New slot entry) (AtStatus place) one two same = absurd (omega (arith, one.0, one.1, two, same))
index_injective pool (New slot entry) (Count place) one two same = absurd (omega (arith, one.0, one.1, two, same))
index_injective pool (New slot entry) (Addr place index) one two same = absurd (omega (arith, one.0, one.1, two.0, two.1, same))
index_injective pool (New slot entry) (Expected place index) one two same = absurd (omega (arith, one.0, one.1, two.0, two.1, same))
index_injective pool (New slot entry) (New place index) one two same = both_same New (omega (arith, one.0, one.1, two.0, two.1, same)) (omega (arith, one.0, one.1, two.0, two.1, same))
index_injective pool (New slot entry) (Data its word) one two same = absurd (omega (arith, one.0, one.1, two, same))
index_injective pool (Data tenant address) (AtDoor its) one two same = absurd (omega (arith, one, two, same))
index_injective pool (Data tenant address) (AtRow another) one two same = absurd (omega (arith, one, two, same))
index_injective pool (Data tenant address) (AtGate place) one two same = absurd (omega (arith, one, two, same))
index_injective pool (Data tenant address) (AtStatus place) one two same = absurd (omega (arith, one, two, same))
index_injective pool (Data tenant address) (Count place) one two same = absurd (omega (arith, one, two, same))
index_injective pool (Data tenant address) (Addr place index) one two same = absurd (omega (arith, one, two.0, two.1, same))
index_injective pool (Data tenant address) (Expected place index) one two same = absurd (omega (arith, one, two.0, two.1, same))
index_injective pool (Data tenant address) (New place index) one two same = absurd (omega (arith, one, two.0, two.1, same))
index_injective pool (Data tenant address) (Data its word) one two same = both_same Data (omega (arith, one, two, same)) (omega (arith, one, two, same))

low_of : (n m : ℕ) → nat_lt n m ≡ true → n < m
low_of n m is = grind (arith, nat_tests, is)

-- a tenant that has words is there, and has no more words than a tenant may have
has_words : (tenants : List Tenant) (tenant address : ℕ) → All (λ (one : Tenant). (1 ≤ one.words) × (one.words ≤ MAX_WORDS)) tenants → address < (slice_index_or tenants tenant no_tenant).words
    → (tenant < length tenants) × (address < MAX_WORDS)
has_words tenants tenant address all low = by (nat_lt tenant (length tenants)) refl
  where
    past : length tenants ≤ tenant → (slice_index_or tenants tenant no_tenant).words ≡ 0
    past over = ap (λ (one : Tenant). one.words) (index_past tenants tenant no_tenant over)

    by : (test : Bool) → nat_lt tenant (length tenants) ≡ test → (tenant < length tenants) × (address < MAX_WORDS)
    by true is = let known = low_of tenant (length tenants) is in let most = (all tenant no_tenant known).1 in (known, omega (arith, low, most))
    by false is = let none = past (grind (arith, nat_tests, is)) in absurd (omega (arith, low, none))

-- places of the world are within the limits
pub places_within : PlacesAreWithin
places_within config (AtDoor tenant) is_config there = let low = low_of tenant (tenants_of config) there in let most = is_config.tenants.1 in omega (arith, low, most)
places_within config (AtGate slot) is_config there = low_of slot config.pool there
places_within config (AtRow worker) is_config there = let low = low_of worker config.workers there in let most = is_config.workers.1 in omega (arith, low, most)
places_within config (Data tenant address) is_config there = (has_words config.tenants.items tenant address is_config.words (low_of address (tenant_at config tenant).words there)).1
places_within config (AtStatus slot) is_config there = low_of slot config.pool there
places_within config (Count slot) is_config there = low_of slot config.pool there
places_within config (Addr slot entry) is_config there =
    (low_of slot config.pool (first_holds (nat_lt slot config.pool) (nat_lt entry MAX_ENTRIES) there), low_of entry MAX_ENTRIES (second_holds (nat_lt slot config.pool) (nat_lt entry MAX_ENTRIES) there))
places_within config (Expected slot entry) is_config there =
    (low_of slot config.pool (first_holds (nat_lt slot config.pool) (nat_lt entry MAX_ENTRIES) there), low_of entry MAX_ENTRIES (second_holds (nat_lt slot config.pool) (nat_lt entry MAX_ENTRIES) there))
places_within config (New slot entry) is_config there =
    (low_of slot config.pool (first_holds (nat_lt slot config.pool) (nat_lt entry MAX_ENTRIES) there), low_of entry MAX_ENTRIES (second_holds (nat_lt slot config.pool) (nat_lt entry MAX_ENTRIES) there))

-- and their indexes are in the table
pub places_in_table : PlacesAreInTable
places_in_table config (AtDoor tenant) is_config there = let low = low_of tenant (tenants_of config) there in let most = is_config.tenants.1 in omega (arith, low, most)
places_in_table config (AtGate slot) is_config there = let low = low_of slot config.pool there in omega (arith, low)
places_in_table config (AtRow worker) is_config there = let low = places_within config (AtRow worker) is_config there in omega (arith, low)
places_in_table config (Data tenant address) is_config there =
    let both = has_words config.tenants.items tenant address is_config.words (low_of address (tenant_at config tenant).words there) in
    let one = both.0 in let two = both.1 in omega (arith, one, two)
places_in_table config (AtStatus slot) is_config there = let low = low_of slot config.pool there in omega (arith, low)
places_in_table config (Count slot) is_config there = let low = low_of slot config.pool there in omega (arith, low)
places_in_table config (Addr slot entry) is_config there = let both = places_within config (Addr slot entry) is_config there in let one = both.0 in let two = both.1 in omega (arith, one, two)
places_in_table config (Expected slot entry) is_config there = let both = places_within config (Expected slot entry) is_config there in let one = both.0 in let two = both.1 in omega (arith, one, two)
places_in_table config (New slot entry) is_config there = let both = places_within config (New slot entry) is_config there in let one = both.0 in let two = both.1 in omega (arith, one, two)
