-- Goals of `sizes` (src/images.rt).
use Rattle.std.proofs.Common.{◌≡◌, ◌∙◌, arith}
use Rattle.mw_record.specs.declared.layout.TheConstants.{WORDS_AT, PLACES_AT}
use Rattle.mw_record.specs.LayoutBytes.{words_told, places_told}
use Rattle.mw_record.proofs.Faults.{are_sizes, not_sizes}
use Rattle.mw_record.proofs.ReadBytes.{number_in_part}
use Rattle.mw_record.proofs.images.sizes.Goals as goal
use Rattle.mw_record.proofs.images.sizes.Goals.{then-words-eq0-via-then-words-eq0, then-words-eq0-via-else-words-eq0+then-words-from, then-places-eq0-via-then-places-eq0, then-places-eq0-via-else-places-eq0+then-places-most_places}

-- no words, or too many
pub returns-then-words-eq0 : goal.returns-then-words-eq0
returns-then-words-eq0 c =
    let words : c.read_u32-words.result ≡ words_told c.args.bytes.now = c.read_u32-words.ensures ∙ number_in_part c.args.bytes.now WORDS_AT 4 4 (omega arith) in
    not_sizes c.args.layout c.args.bytes.now (λ s. elim c.then-words-eq0.branch [
      | then-words-eq0-via-then-words-eq0 w ↦ (let z : ⊥ = omega (arith, words, s.some_word, w.if-words-eq0.true) in z)
      | then-words-eq0-via-else-words-eq0+then-words-from w ↦ (let z : ⊥ = omega (arith, words, s.words_fit, w.from.ensures, w.if-words-from.true) in z)
    ])

-- no places, or too many
pub returns-then-places-eq0 : goal.returns-then-places-eq0
returns-then-places-eq0 c =
    let places : c.read_u16-places.result ≡ places_told c.args.bytes.now = c.read_u16-places.ensures ∙ number_in_part c.args.bytes.now PLACES_AT 2 2 (omega arith) in
    not_sizes c.args.layout c.args.bytes.now (λ s. elim c.then-places-eq0.branch [
      | then-places-eq0-via-then-places-eq0 w ↦ (let z : ⊥ = omega (arith, places, s.some_place, w.if-places-eq0.true) in z)
      | then-places-eq0-via-else-places-eq0+then-places-most_places w ↦ (let z : ⊥ = omega (arith, places, s.places_fit, w.most_places.ensures, w.if-places-most_places.true) in z)
    ])

-- the sizes are those that the head tells
pub returns : goal.returns
returns c =
    let words : c.read_u32-words.result ≡ words_told c.args.bytes.now = c.read_u32-words.ensures ∙ number_in_part c.args.bytes.now WORDS_AT 4 4 (omega arith) in
    let places : c.read_u16-places.result ≡ places_told c.args.bytes.now = c.read_u16-places.ensures ∙ number_in_part c.args.bytes.now PLACES_AT 2 2 (omega arith) in (
      are_sizes c.args.layout c.args.bytes.now (record {
        some_word = omega (arith, words, c.if-words-eq0.false);
        words_fit = omega (arith, words, c.from.ensures, c.if-words-from.false);
        some_place = omega (arith, places, c.if-places-eq0.false);
        places_fit = omega (arith, places, c.most_places.ensures, c.if-places-most_places.false);
      }),
      words,
      places,
    )
