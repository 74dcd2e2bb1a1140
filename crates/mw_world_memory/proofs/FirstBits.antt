-- At a start, the bits have exactly the places of the configuration, and match the shared words of the world.
-- Used by: Cells::new, mw_simulator.
use Rattle.std.specs.Prelude.{ℕ, zero, suc, ◌≡◌, ◌+◌, ◌*◌, ◌<◌, ◌≤◌, ◌&&◌, Bool, true, false, not, cond, if◌then◌else◌, nat_lt, List, [], ◌∷◌, length, map, replicate, is_some, slice_get, slice_index, slice_index_or, IfSome, MatchOption, Some, None, Vec}
use Rattle.std.specs.declared.option.Option.{Option}
use Rattle.std.specs.declared.alloc.Global.{Global}
use Rattle.std.proofs.Common.{refl, sym, ap, subst, ◌∙◌, inl, inr, arith}
use Rattle.std.proofs.lemmas.Bool.{cases_lt}
use Rattle.std.proofs.lemmas.Bool.Decides.{nat_tests}
use Rattle.std.proofs.lemmas.List.{length-map, length-replicate, get_or_past}
use Rattle.std.proofs.lemmas.List.Elements.{All-get_or}
use Rattle.mw_words.specs.declared.limits.TheConstants.{MAX_ENTRIES, MAX_VALUE}
use Rattle.mw_words.specs.declared.places.At.TheVariants.{Door as AtDoor, Gate as AtGate, Row as AtRow, Data, Status as AtStatus, Count, Addr, Expected, New}
use Rattle.mw_words.specs.Patterns.{packed_door, packed_gate}
use Rattle.mw_words.specs.Change.{AreWords, word_at}
use Rattle.mw_world.specs.declared.config.Config.{Config}
use Rattle.mw_world.specs.declared.config.Tenant.{Tenant}
use Rattle.mw_world.specs.Definition.State.{IsConfig, no_tenant, tenant_at, tenants_of, first_cells, words_given}
use Rattle.mw_world.specs.Definition.Cells.{AllFit}
use Rattle.mw_world_memory.specs.Bits.{Bits, entry_at, word_bits}
use Rattle.mw_world_memory.specs.BitsMatch.{BitsMatch}
use Rattle.mw_world_memory.specs.BitPlaces.{HasPlacesOf}
use Rattle.mw_world_memory.specs.Openings.{Openings, opening_at, AreOpenings, Gave, first_door, AreFirstWords}

-- The bits were made like this.
pub record StartsAs (config : Config) (openings : Openings) (bits : Bits) : Type 0 where
  pub doors : bits.doors ≡ map first_door openings
  pub gates : bits.gates ≡ replicate config.pool (packed_gate (record { taken = false; pins = 0; seq = config.seq }))
  pub rows : bits.rows ≡ replicate config.workers 0
  pub words : AreFirstWords config.tenants.items openings bits.words (tenants_of config)
  pub statuses : bits.statuses ≡ replicate config.pool 0
  pub counts : bits.counts ≡ replicate config.pool 0
  pub addrs : bits.addrs ≡ replicate (config.pool * MAX_ENTRIES) 0
  pub expecteds : bits.expecteds ≡ replicate (config.pool * MAX_ENTRIES) 0
  pub new_values : bits.new_values ≡ replicate (config.pool * MAX_ENTRIES) 0

-- there is an element at each index below the length
there_is : {A : Type 0} → (xs : List A) (i : ℕ) → is_some (slice_get xs i) ≡ nat_lt i (length xs)
there_is [] i = grind (arith, nat_tests)
there_is (x ∷ xs) zero = grind (arith, nat_tests)
there_is (x ∷ xs) (suc i) =
    let more : nat_lt i (length xs) ≡ nat_lt (suc i) (suc (length xs)) = grind (arith, nat_tests) in
    there_is xs i ∙ more

of_length : (xs : List ℕ) (i n : ℕ) → length xs ≡ n → is_some (slice_get xs i) ≡ nat_lt i n
of_length xs i n long = there_is xs i ∙ ap (nat_lt i) long

long_as : (xs : List ℕ) (n x : ℕ) → xs ≡ replicate n x → length xs ≡ n
long_as xs n x is = ap length is ∙ length-replicate n x

entry_there : (xs : List ℕ) (slot entry pool : ℕ) → length xs ≡ pool * MAX_ENTRIES → is_some (entry_at xs slot entry) ≡ (nat_lt slot pool && nat_lt entry MAX_ENTRIES)
entry_there xs slot entry pool long = by (nat_lt entry MAX_ENTRIES) refl
  where
    by : (low : Bool) → nat_lt entry MAX_ENTRIES ≡ low → is_some (cond low (slice_get xs (slot * MAX_ENTRIES + entry)) None) ≡ (nat_lt slot pool && low)
    by true e =
        let below : entry < MAX_ENTRIES = grind (arith, nat_tests, e) in
        let same : nat_lt (slot * MAX_ENTRIES + entry) (pool * MAX_ENTRIES) ≡ (nat_lt slot pool && true) = grind (arith, nat_tests, below) in
        of_length xs (slot * MAX_ENTRIES + entry) (pool * MAX_ENTRIES) long ∙ same
    by false e = grind (arith, nat_tests)

-- a tenant starts with as many words as it has
first_long : (tenant : Tenant) (opening : Option (Vec ℕ Global)) → IfSome opening (λ given. length given.items ≡ tenant.words) → length (words_given tenant opening) ≡ tenant.words
first_long tenant (Some given) long = long
first_long tenant None long = length-replicate tenant.words 0

words_long : (config : Config) (openings : Openings) (words : List (List ℕ)) (tenant : ℕ) → AreOpenings config openings → AreFirstWords config.tenants.items openings words (tenants_of config) →
    length (slice_index_or words tenant []) ≡ (tenant_at config tenant).words
words_long config openings words tenant are first =
    elim (cases_lt tenant (tenants_of config)) [
      | inl low ↦ ap length (first.each tenant low) ∙ first_long (tenant_at config tenant) (opening_at openings tenant) (are.as_long tenant)
      | inr past ↦
          ap length (get_or_past words tenant [] (omega (arith, first.long, past))) ∙ sym (ap (λ t. t.words) (get_or_past config.tenants.items tenant no_tenant past))
    ]

-- the bits have exactly the places of the configuration
pub start_has_places : (config : Config) (openings : Openings) (bits : Bits) → AreOpenings config openings → StartsAs config openings bits → HasPlacesOf config bits
start_has_places config openings bits are starts (AtDoor tenant) = of_length bits.doors tenant (tenants_of config) (ap length starts.doors ∙ length-map openings first_door ∙ are.one_each)
start_has_places config openings bits are starts (AtGate slot) = of_length bits.gates slot config.pool (long_as bits.gates config.pool _ starts.gates)
start_has_places config openings bits are starts (AtRow worker) = of_length bits.rows worker config.workers (long_as bits.rows config.workers 0 starts.rows)
start_has_places config openings bits are starts (Data tenant address) =
    of_length (slice_index_or bits.words tenant []) address (tenant_at config tenant).words (words_long config openings bits.words tenant are starts.words)
start_has_places config openings bits are starts (AtStatus slot) = of_length bits.statuses slot config.pool (long_as bits.statuses config.pool 0 starts.statuses)
start_has_places config openings bits are starts (Count slot) = of_length bits.counts slot config.pool (long_as bits.counts config.pool 0 starts.counts)
start_has_places config openings bits are starts (Addr slot entry) = entry_there bits.addrs slot entry config.pool (long_as bits.addrs (config.pool * MAX_ENTRIES) 0 starts.addrs)
start_has_places config openings bits are starts (Expected slot entry) = entry_there bits.expecteds slot entry config.pool (long_as bits.expecteds (config.pool * MAX_ENTRIES) 0 starts.expecteds)
start_has_places config openings bits are starts (New slot entry) = entry_there bits.new_values slot entry config.pool (long_as bits.new_values (config.pool * MAX_ENTRIES) 0 starts.new_values)

-- each element of a list of one number is that number
one_number : (n i x : ℕ) → IfSome (slice_get (replicate n x) i) (λ y. y ≡ x)
one_number zero i x = tt
one_number (suc n) zero x = refl
one_number (suc n) (suc i) x = one_number n i x

number_in : (xs : List ℕ) (n i x : ℕ) → xs ≡ replicate n x → IfSome (slice_get xs i) (λ y. y ≡ x)
number_in xs n i x is = subst (λ ys. IfSome (slice_get ys i) (λ y. y ≡ x)) (sym is) (one_number n i x)

entry_in : (xs : List ℕ) (n slot entry x : ℕ) → xs ≡ replicate n x → IfSome (entry_at xs slot entry) (λ y. y ≡ x)
entry_in xs n slot entry x is = by (nat_lt entry MAX_ENTRIES)
  where
    by : (low : Bool) → IfSome (cond low (slice_get xs (slot * MAX_ENTRIES + entry)) None) (λ y. y ≡ x)
    by true = number_in xs n (slot * MAX_ENTRIES + entry) x is
    by false = tt

-- an element of a list is the one at its index
element_in : (xs : List ℕ) (i : ℕ) → IfSome (slice_get xs i) (λ y. y ≡ slice_index xs i)
element_in [] i = tt
element_in (x ∷ xs) zero = refl
element_in (x ∷ xs) (suc i) = element_in xs i

-- a tenant's door says whether its file opened
door_as : (opening : Option (Vec ℕ Global)) (up : Bool) (words : List ℕ) → MatchOption opening (up ≡ false) (λ given. (up ≡ true) × (given.items ≡ words)) →
    first_door opening ≡ packed_door (record { fault = not up; used = 0 })
door_as (Some given) up words gave = ap (λ b. packed_door (record { fault = not b; used = 0 })) (sym gave.0)
door_as None up words gave = ap (λ b. packed_door (record { fault = not b; used = 0 })) (sym gave)

doors_as : (openings : Openings) (words : ℕ → List ℕ) (is_up : ℕ → Bool) → Gave openings words is_up → (tenant : ℕ) →
    IfSome (slice_get (map first_door openings) tenant) (λ bits. bits ≡ packed_door (record { fault = not (is_up tenant); used = 0 }))
doors_as [] words is_up gave tenant = tt
doors_as (opening ∷ openings) words is_up gave zero = door_as opening (is_up 0) (words 0) (gave 0 (omega arith))
doors_as (opening ∷ openings) words is_up gave (suc tenant) =
    doors_as openings (λ t. words (suc t)) (λ t. is_up (suc t)) (λ t low. gave (suc t) (omega (arith, low))) tenant

-- a tenant's words are those that were given, or zeros
word_as : (tenant : Tenant) (opening : Option (Vec ℕ Global)) (up : Bool) (words : List ℕ) (address : ℕ) → MatchOption opening (up ≡ false) (λ given. (up ≡ true) × (given.items ≡ words)) →
    IfSome (slice_get (words_given tenant opening) address) (λ bits. bits ≡ (if up then word_at words address else 0))
word_as tenant (Some given) up words address gave =
    let P : Bool → List ℕ → Type 0 = λ b ws. IfSome (slice_get ws address) (λ bits. bits ≡ (if b then word_at ws address else 0)) in
    let at_words : IfSome (slice_get words address) (λ bits. bits ≡ (if up then word_at words address else 0)) = subst (λ b. P b words) (sym gave.0) (element_in words address) in
    subst (λ ws. IfSome (slice_get ws address) (λ bits. bits ≡ (if up then word_at words address else 0))) (sym gave.1) at_words
word_as tenant None up words address gave =
    subst (λ b. IfSome (slice_get (replicate tenant.words 0) address) (λ bits. bits ≡ (if b then word_at words address else 0))) (sym gave) (one_number tenant.words address 0)

words_as : (config : Config) (openings : Openings) (bits : List (List ℕ)) (words : ℕ → List ℕ) (is_up : ℕ → Bool) → AreOpenings config openings →
    AreFirstWords config.tenants.items openings bits (tenants_of config) → Gave openings words is_up → (tenant address : ℕ) →
    IfSome (word_bits bits tenant address) (λ there. there ≡ (if is_up tenant then word_at (words tenant) address else 0))
words_as config openings bits words is_up are first gave tenant address =
    let P : List ℕ → Type 0 = λ ws. IfSome (slice_get ws address) (λ there. there ≡ (if is_up tenant then word_at (words tenant) address else 0)) in
    elim (cases_lt tenant (tenants_of config)) [
      | inl low ↦
          subst P (sym (first.each tenant low)) (word_as (tenant_at config tenant) (opening_at openings tenant) (is_up tenant) (words tenant) address (gave tenant (omega (arith, low, are.one_each))))
      | inr past ↦ subst P (sym (get_or_past bits tenant [] (omega (arith, first.long, past)))) tt
    ]

-- the bits match the shared words at the start
pub start_is_tied : (config : Config) (openings : Openings) (bits : Bits) (words : ℕ → List ℕ) (is_up : ℕ → Bool) → AreOpenings config openings → StartsAs config openings bits →
    Gave openings words is_up → BitsMatch bits (first_cells config words is_up)
start_is_tied config openings bits words is_up are starts gave (AtDoor tenant) =
    subst (λ doors. IfSome (slice_get doors tenant) (λ there. there ≡ packed_door (record { fault = not (is_up tenant); used = 0 }))) (sym starts.doors) (doors_as openings words is_up gave tenant)
start_is_tied config openings bits words is_up are starts gave (AtGate slot) = number_in bits.gates config.pool slot _ starts.gates
start_is_tied config openings bits words is_up are starts gave (AtRow worker) = number_in bits.rows config.workers worker 0 starts.rows
start_is_tied config openings bits words is_up are starts gave (Data tenant address) = words_as config openings bits.words words is_up are starts.words gave tenant address
start_is_tied config openings bits words is_up are starts gave (AtStatus slot) = number_in bits.statuses config.pool slot 0 starts.statuses
start_is_tied config openings bits words is_up are starts gave (Count slot) = number_in bits.counts config.pool slot 0 starts.counts
start_is_tied config openings bits words is_up are starts gave (Addr slot entry) = entry_in bits.addrs (config.pool * MAX_ENTRIES) slot entry 0 starts.addrs
start_is_tied config openings bits words is_up are starts gave (Expected slot entry) = entry_in bits.expecteds (config.pool * MAX_ENTRIES) slot entry 0 starts.expecteds
start_is_tied config openings bits words is_up are starts gave (New slot entry) = entry_in bits.new_values (config.pool * MAX_ENTRIES) slot entry 0 starts.new_values

-- a tenant's words are values of a word, also after the last one
word_low : (words : List ℕ) (address : ℕ) → AreWords words → word_at words address ≤ MAX_VALUE
word_low words address are =
    elim (cases_lt address (length words)) [
      | inl low ↦ All-get_or (λ v. v ≤ MAX_VALUE) words address 0 low are
      | inr past ↦ subst (λ v. v ≤ MAX_VALUE) (sym (get_or_past words address 0 past)) (omega arith)
    ]

first_low : (up : Bool) (words : List ℕ) (address : ℕ) → (up ≡ true → AreWords words) → (if up then word_at words address else 0) ≤ MAX_VALUE
first_low true words address are = word_low words address (are refl)
first_low false words address are = omega arith

-- the shared words at a start are in range if the words of the opened files are values of a word
pub first_cells_fit : (config : Config) (words : ℕ → List ℕ) (is_up : ℕ → Bool) → IsConfig config → ((tenant : ℕ) → is_up tenant ≡ true → AreWords (words tenant)) →
    AllFit (first_cells config words is_up)
first_cells_fit config words is_up is are (AtDoor tenant) = omega arith
first_cells_fit config words is_up is are (AtGate slot) = (omega arith, omega (arith, is.seq), λ e. refl)
first_cells_fit config words is_up is are (AtRow worker) = (omega arith, omega arith, omega arith)
first_cells_fit config words is_up is are (Data tenant address) = first_low (is_up tenant) (words tenant) address (are tenant)
first_cells_fit config words is_up is are (AtStatus slot) = tt
first_cells_fit config words is_up is are (Count slot) = omega arith
first_cells_fit config words is_up is are (Addr slot entry) = omega arith
first_cells_fit config words is_up is are (Expected slot entry) = omega arith
first_cells_fit config words is_up is are (New slot entry) = omega arith
