-- Claims that a value of a shared place and its 64 bits (mw_words) determine each other, and that a request that loads the
-- bits is told the value.
-- Used by: laws.rt.
use Rattle.std.specs.Prelude.{◌≡◌, ◌^◌, ◌<◌, Some}
use Rattle.mw_words.specs.declared.places.At.{At}
use Rattle.mw_look.specs.Places.{Val, Fits, pack, unpack, nil}
use Rattle.mw_look.specs.Observations.{observation_of_bits, seen}

-- a value in range has 64 bits
abbrev pub PacksFit : Type 0
PacksFit = (at : At) (x : Val at) → Fits at x → pack at x < 2 ^ 64

-- a value in range is unpacked from its bits
abbrev pub PacksAreUnpacked : Type 0
PacksAreUnpacked = (at : At) (x : Val at) → Fits at x → unpack at (pack at x) ≡ Some x

-- two values in range with the same bits at a place are the same
abbrev pub PacksAreApart : Type 0
PacksAreApart = (at : At) (x y : Val at) → Fits at x → Fits at y → pack at x ≡ pack at y → x ≡ y

-- a machine that loads the bits of a value in range observes that value
abbrev pub PacksAreSeen : Type 0
PacksAreSeen = (at : At) (x : Val at) → Fits at x → observation_of_bits at (pack at x) ≡ seen at x

-- the value nil of a place is in range, and its bits are 0
abbrev pub NilIsZero : Type 0
NilIsZero = (at : At) → Fits at (nil at) × (pack at (nil at) ≡ 0)
