-- A value of a shared place and its 64 bits determine each other, and a request that loads the bits is told the value.
-- Used by: places_have_patterns, many crates from mw_actor on, among others.
use Rattle.std.specs.Prelude.{ℕ, ◌≡◌}
use Rattle.std.specs.Option.{option_map_or}
use Rattle.std.proofs.Common.{refl, ap, arith}
use Rattle.mw_words.specs.declared.places.At.TheVariants.{Door as AtDoor, Gate as AtGate, Row as AtRow, Data, Status as AtStatus, Count, Addr, Expected, New}
use Rattle.mw_words.proofs.PatternLaws.{packed_door_bound, packed_gate_bound, packed_row_bound, packed_word_bound, packed_status_bound, door_round, gate_round, row_round, word_round, status_round, packed_door_injective, packed_gate_injective, packed_row_injective, packed_word_injective, packed_status_injective}
use Rattle.mw_look.specs.declared.observations.Observation.TheVariants.{SawDoor, SawGate, SawRow, SawWord, SawStatus, Junk}
use Rattle.mw_look.specs.PlacePatterns.{PacksFit, PacksAreUnpacked, PacksAreApart, PacksAreSeen, NilIsZero}
use Rattle.mw_look.specs.Steps.{Step, Load, Change, File, StepFits, op_of, place, place_of}
use Rattle.mw_look.specs.Program.{asks_at, IsPointInRange}
use Rattle.mw_look.specs.declared.points.Point.{Point}
use Rattle.mw_look.specs.declared.points.Point.TheVariants.{Pin, Unpin, FreeSlot, LowerDoor}

-- a value in range has 64 bits
pub packs_fit : PacksFit
packs_fit (AtDoor tenant) door fits = packed_door_bound door fits
packs_fit (AtGate slot) gate fits = packed_gate_bound gate fits
packs_fit (AtRow worker) row fits = packed_row_bound row fits
packs_fit (Data tenant address) word fits = packed_word_bound word fits
packs_fit (AtStatus slot) status fits = packed_status_bound status fits
packs_fit (Count slot) number fits = fits
packs_fit (Addr slot entry) number fits = fits
packs_fit (Expected slot entry) number fits = fits
packs_fit (New slot entry) number fits = fits

-- a value in range is unpacked from its bits
pub packs_are_unpacked : PacksAreUnpacked
packs_are_unpacked (AtDoor tenant) door fits = door_round door fits
packs_are_unpacked (AtGate slot) gate fits = gate_round gate fits
packs_are_unpacked (AtRow worker) row fits = row_round row fits
packs_are_unpacked (Data tenant address) word fits = word_round word fits
packs_are_unpacked (AtStatus slot) status fits = status_round status fits
packs_are_unpacked (Count slot) number fits = refl
packs_are_unpacked (Addr slot entry) number fits = refl
packs_are_unpacked (Expected slot entry) number fits = refl
packs_are_unpacked (New slot entry) number fits = refl

-- two values in range with the same bits at a place are the same
pub packs_are_apart : PacksAreApart
packs_are_apart (AtDoor tenant) x y fits_x fits_y same = packed_door_injective x y fits_x fits_y same
packs_are_apart (AtGate slot) x y fits_x fits_y same = packed_gate_injective x y fits_x fits_y same
packs_are_apart (AtRow worker) x y fits_x fits_y same = packed_row_injective x y fits_x fits_y same
packs_are_apart (Data tenant address) x y fits_x fits_y same = packed_word_injective x y fits_x fits_y same
packs_are_apart (AtStatus slot) x y fits_x fits_y same = packed_status_injective x y fits_x fits_y same
packs_are_apart (Count slot) x y fits_x fits_y same = same
packs_are_apart (Addr slot entry) x y fits_x fits_y same = same
packs_are_apart (Expected slot entry) x y fits_x fits_y same = same
packs_are_apart (New slot entry) x y fits_x fits_y same = same

-- a machine that loads the bits of a value in range observes that value
pub packs_are_seen : PacksAreSeen
packs_are_seen (AtDoor tenant) door fits = ap (λ o. option_map_or SawDoor o Junk) (door_round door fits)
packs_are_seen (AtGate slot) gate fits = ap (λ o. option_map_or SawGate o Junk) (gate_round gate fits)
packs_are_seen (AtRow worker) row fits = ap (λ o. option_map_or SawRow o Junk) (row_round row fits)
packs_are_seen (Data tenant address) word fits = ap (λ o. option_map_or SawWord o Junk) (word_round word fits)
packs_are_seen (AtStatus slot) status fits = ap (λ o. option_map_or SawStatus o Junk) (status_round status fits)
packs_are_seen (Count slot) number fits = refl
packs_are_seen (Addr slot entry) number fits = refl
packs_are_seen (Expected slot entry) number fits = refl
packs_are_seen (New slot entry) number fits = refl

-- the value nil of a place is in range, and its bits are 0
pub nil_is_zero : NilIsZero
nil_is_zero (AtDoor tenant) = (omega arith, refl)
nil_is_zero (AtGate slot) = ((omega arith, omega arith, λ e. refl), refl)
nil_is_zero (AtRow worker) = ((omega arith, omega arith, omega arith), refl)
nil_is_zero (Data tenant address) = (omega arith, refl)
nil_is_zero (AtStatus slot) = (tt, refl)
nil_is_zero (Count slot) = (omega arith, refl)
nil_is_zero (Addr slot entry) = (omega arith, refl)
nil_is_zero (Expected slot entry) = (omega arith, refl)
nil_is_zero (New slot entry) = (omega arith, refl)

-- a step in bits is at the step's place
pub place_of_bits : (step : Step) → place_of (op_of step) ≡ place step
place_of_bits (Load at) = refl
place_of_bits (Change kind at from to) = refl
place_of_bits (File call slot) = refl

-- a read whose numbers are in range asks for steps in range
pub asks_in_range : (tenant address : ℕ) (point : Point) → IsPointInRange point → StepFits (asks_at tenant address point)
asks_in_range tenant address (Pin trail from to) fits = (fits.1, fits.2)
asks_in_range tenant address (Unpin slot seq next) fits = ((nil_is_zero (AtGate slot)).0, (nil_is_zero (AtGate slot)).0)
asks_in_range tenant address (FreeSlot slot seq next) fits = ((nil_is_zero (AtGate slot)).0, (omega arith, omega (arith, fits), λ e. refl))
asks_in_range tenant address (LowerDoor next) fits = ((nil_is_zero (AtDoor tenant)).0, (nil_is_zero (AtDoor tenant)).0)
asks_in_range tenant address point fits = tt
