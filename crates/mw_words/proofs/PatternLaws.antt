-- Each shared word of 64 bits and its bits (`specs/Patterns`) determine each other. What was packed in range is unpacked
-- again, and its bits fit into 64. What is unpacked from 64 bits is in range and has those bits.
-- Used by: many crates from mw_look on.
use Rattle.std.specs.Prelude.{◌≡◌, ℕ, ◌^◌, ◌≤◌, ◌<◌, ◌==◌, ◌&&◌, ◌||◌, nat_lt, Bool, true, false, cond, Some, None, IfSome}
use Rattle.std.specs.declared.option.Option.{Option}
use Rattle.std.proofs.Common.{refl, sym, ap, ◌∙◌, arith}
use Rattle.std.proofs.lemmas.Bool.Decides.{nat_tests}
use Rattle.mw_words.specs.declared.words.Word.{Word}
use Rattle.mw_words.specs.declared.words.Word.TheVariants.{Plain, Planted, Held, Dirty}
use Rattle.mw_words.specs.declared.gates.Gate.{Gate}
use Rattle.mw_words.specs.declared.doors.Door.{Door}
use Rattle.mw_words.specs.declared.statuses.Status.{Status}
use Rattle.mw_words.specs.declared.statuses.Status.TheVariants.{Draft, Open, YesDirty, Yes, No, DoneYes, DoneNo}
use Rattle.mw_words.specs.declared.rows.Row.{Row}
use Rattle.mw_words.specs.declared.limits.TheConstants.{MAX_POOL, MAX_WORKERS, MAX_ENTRIES}
use Rattle.mw_words.specs.Patterns.{bit, field, IsWordInRange, IsWordOf, packed_word, unpacked_word, IsGateInRange, IsGateOf, packed_gate, unpacked_gate, IsDoorInRange, IsDoorOf, packed_door, unpacked_door, IsStatusInRange, IsStatusOf, packed_status, unpacked_status, IsRowInRange, IsRowOf, packed_row, unpacked_row}

-- the value in an option, or the default
abbrev some_or : {A : Type 0} → A → Option A → A
some_or default (Some x) = x
some_or default None = default

-- a flag's bit is at most 1
bit_bound : (flag : Bool) → bit flag ≤ 1
bit_bound true = omega arith
bit_bound false = omega arith

-- a property holds of what a test chooses, if it holds of both choices
by_test : {A : Type 0} (test : Bool) (x : A) (rest : Option A) (P : A → Type 0) → (test ≡ true → P x) → IfSome rest P → IfSome (cond test (Some x) rest) P
by_test true x rest P here else = here refl
by_test false x rest P here else = else

-- a tenant's word in range has 64 bits
pub packed_word_bound : (word : Word) → IsWordInRange word → packed_word word < 2 ^ 64
packed_word_bound (Plain value) fits = omega (arith, fits)
packed_word_bound (Planted worker attempt) fits = omega (arith, fits.0, fits.1)
packed_word_bound (Held slot seq) fits = omega (arith, fits.0, fits.1)
packed_word_bound (Dirty slot value) fits = omega (arith, fits.0, fits.1)

-- a tenant's word that was packed is unpacked again
pub word_round : (word : Word) → IsWordInRange word → unpacked_word (packed_word word) ≡ Some word
word_round (Plain value) fits = grind (arith, nat_tests, fits)
word_round (Planted worker attempt) fits = grind (arith, nat_tests, fits.0, fits.1)
word_round (Held slot seq) fits = grind (arith, nat_tests, fits.0, fits.1)
word_round (Dirty slot value) fits = grind (arith, nat_tests, fits.0, fits.1)

-- two words in range with the same bits are the same
pub packed_word_injective : (x y : Word) → IsWordInRange x → IsWordInRange y → packed_word x ≡ packed_word y → x ≡ y
packed_word_injective x y fits_x fits_y same =
    ap (some_or x) (sym (word_round x fits_x) ∙ ap unpacked_word same ∙ word_round y fits_y)

-- a word that was unpacked is in range and has those bits
pub unpacked_word_is : (bits : ℕ) → bits < 2 ^ 64 → IfSome (unpacked_word bits) (IsWordOf bits)
unpacked_word_is bits fits =
    let kind = field 62 2 bits in
    let owner = field 48 14 bits in
    let low = field 0 48 bits in
    (by_test (kind == 0 && owner == 0) (Plain low) _ (IsWordOf bits) (λ is. grind (arith, nat_tests, is, fits))
    (by_test (kind == 1 && nat_lt owner MAX_WORKERS) (Planted owner low) _ (IsWordOf bits) (λ is. grind (arith, nat_tests, is, fits))
    (by_test (kind == 2 && nat_lt owner MAX_POOL) (Held owner low) _ (IsWordOf bits) (λ is. grind (arith, nat_tests, is, fits))
    (by_test (kind == 3 && nat_lt owner MAX_POOL) (Dirty owner low) _ (IsWordOf bits) (λ is. grind (arith, nat_tests, is, fits))
    tt))))

-- a gate in range has 64 bits
pub packed_gate_bound : (gate : Gate) → IsGateInRange gate → packed_gate gate < 2 ^ 64
packed_gate_bound gate fits = grind (arith, bit_bound gate.taken, fits.0, fits.1)

-- a gate that was packed is unpacked again
pub gate_round : (gate : Gate) → IsGateInRange gate → unpacked_gate (packed_gate gate) ≡ Some gate
gate_round gate fits = by_taken gate.taken gate.pins gate.seq fits
  where
    by_taken : (taken : Bool) (pins seq : ℕ) →
        let gate : Gate = record { taken = taken; pins = pins; seq = seq } in IsGateInRange gate → unpacked_gate (packed_gate gate) ≡ Some gate
    by_taken true pins seq fits = grind (arith, nat_tests, fits.0, fits.1)
    by_taken false pins seq fits = grind (arith, nat_tests, fits.0, fits.1, fits.2 refl)

-- two gates in range with the same bits are the same
pub packed_gate_injective : (x y : Gate) → IsGateInRange x → IsGateInRange y → packed_gate x ≡ packed_gate y → x ≡ y
packed_gate_injective x y fits_x fits_y same =
    ap (some_or x) (sym (gate_round x fits_x) ∙ ap unpacked_gate same ∙ gate_round y fits_y)

-- a gate that was unpacked is in range and has those bits
pub unpacked_gate_is : (bits : ℕ) → bits < 2 ^ 64 → IfSome (unpacked_gate bits) (IsGateOf bits)
unpacked_gate_is bits fits =
    let taken = field 63 1 bits == 1 in
    let pins = field 48 15 bits in
    (by_test (taken || pins == 0) (record { taken = taken; pins = pins; seq = field 0 48 bits }) _ (IsGateOf bits) (λ is. grind (arith, nat_tests, is, fits))
    tt)

-- a door in range has 64 bits
pub packed_door_bound : (door : Door) → IsDoorInRange door → packed_door door < 2 ^ 64
packed_door_bound door fits = grind (arith, bit_bound door.fault, fits)

-- a door that was packed is unpacked again
pub door_round : (door : Door) → IsDoorInRange door → unpacked_door (packed_door door) ≡ Some door
door_round door fits = by_fault door.fault door.used fits
  where
    by_fault : (fault : Bool) (used : ℕ) →
        let door : Door = record { fault = fault; used = used } in IsDoorInRange door → unpacked_door (packed_door door) ≡ Some door
    by_fault true used fits = grind (arith, nat_tests, fits)
    by_fault false used fits = grind (arith, nat_tests, fits)

-- two doors in range with the same bits are the same
pub packed_door_injective : (x y : Door) → IsDoorInRange x → IsDoorInRange y → packed_door x ≡ packed_door y → x ≡ y
packed_door_injective x y fits_x fits_y same =
    ap (some_or x) (sym (door_round x fits_x) ∙ ap unpacked_door same ∙ door_round y fits_y)

-- a door that was unpacked is in range and has those bits
pub unpacked_door_is : (bits : ℕ) → bits < 2 ^ 64 → IfSome (unpacked_door bits) (IsDoorOf bits)
unpacked_door_is bits fits =
    (by_test (field 16 47 bits == 0) (record { fault = field 63 1 bits == 1; used = field 0 16 bits }) _ (IsDoorOf bits) (λ is. grind (arith, nat_tests, is, fits))
    tt)

-- a status in range has 64 bits
pub packed_status_bound : (status : Status) → IsStatusInRange status → packed_status status < 2 ^ 64
packed_status_bound Draft fits = omega arith
packed_status_bound Open fits = omega arith
packed_status_bound YesDirty fits = omega arith
packed_status_bound Yes fits = omega arith
packed_status_bound (No entry value) fits = omega (arith, fits.0, fits.1)
packed_status_bound DoneYes fits = omega arith
packed_status_bound (DoneNo entry value) fits = omega (arith, fits.0, fits.1)

-- a status that was packed is unpacked again
pub status_round : (status : Status) → IsStatusInRange status → unpacked_status (packed_status status) ≡ Some status
status_round Draft fits = refl
status_round Open fits = refl
status_round YesDirty fits = refl
status_round Yes fits = refl
status_round (No entry value) fits = grind (arith, nat_tests, fits.0, fits.1)
status_round DoneYes fits = refl
status_round (DoneNo entry value) fits = grind (arith, nat_tests, fits.0, fits.1)

-- two statuses in range with the same bits are the same
pub packed_status_injective : (x y : Status) → IsStatusInRange x → IsStatusInRange y → packed_status x ≡ packed_status y → x ≡ y
packed_status_injective x y fits_x fits_y same =
    ap (some_or x) (sym (status_round x fits_x) ∙ ap unpacked_status same ∙ status_round y fits_y)

-- a status that was unpacked is in range and has those bits
pub unpacked_status_is : (bits : ℕ) → bits < 2 ^ 64 → IfSome (unpacked_status bits) (IsStatusOf bits)
unpacked_status_is bits fits =
    let state = field 60 4 bits in
    let entry = field 48 12 bits in
    let value = field 0 48 bits in
    let bare = entry == 0 && value == 0 in
    (by_test (state == 0 && bare) Draft _ (IsStatusOf bits) (λ is. grind (arith, nat_tests, is, fits))
    (by_test (state == 1 && bare) Open _ (IsStatusOf bits) (λ is. grind (arith, nat_tests, is, fits))
    (by_test (state == 2 && bare) YesDirty _ (IsStatusOf bits) (λ is. grind (arith, nat_tests, is, fits))
    (by_test (state == 3 && bare) Yes _ (IsStatusOf bits) (λ is. grind (arith, nat_tests, is, fits))
    (by_test (state == 4 && nat_lt entry MAX_ENTRIES) (No entry value) _ (IsStatusOf bits) (λ is. grind (arith, nat_tests, is, fits))
    (by_test (state == 5 && bare) DoneYes _ (IsStatusOf bits) (λ is. grind (arith, nat_tests, is, fits))
    (by_test (state == 6 && nat_lt entry MAX_ENTRIES) (DoneNo entry value) _ (IsStatusOf bits) (λ is. grind (arith, nat_tests, is, fits))
    tt)))))))

-- a row in range has 64 bits
pub packed_row_bound : (row : Row) → IsRowInRange row → packed_row row < 2 ^ 64
packed_row_bound row fits = omega (arith, fits.0, fits.1, fits.2)

-- a row that was packed is unpacked again
pub row_round : (row : Row) → IsRowInRange row → unpacked_row (packed_row row) ≡ Some row
row_round row fits = grind (arith, nat_tests, fits.0, fits.1, fits.2)

-- two rows in range with the same bits are the same
pub packed_row_injective : (x y : Row) → IsRowInRange x → IsRowInRange y → packed_row x ≡ packed_row y → x ≡ y
packed_row_injective x y fits_x fits_y same =
    ap (some_or x) (sym (row_round x fits_x) ∙ ap unpacked_row same ∙ row_round y fits_y)

-- a row that was unpacked is in range and has those bits
pub unpacked_row_is : (bits : ℕ) → bits < 2 ^ 64 → IfSome (unpacked_row bits) (IsRowOf bits)
unpacked_row_is bits fits =
    let entry = field 48 8 bits in
    (by_test (nat_lt entry MAX_ENTRIES) (record { slot = field 56 8 bits; entry = entry; seq = field 0 48 bits }) _ (IsRowOf bits) (λ is. grind (arith, nat_tests, is, fits))
    tt)
