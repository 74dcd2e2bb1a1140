-- The bits at an index of the table are those of the shared word that belongs at that index.
-- Used by: bits_at, words_at_start, mw_table_tests.
use Rattle.std.proofs.Common.{ℕ, ◌≡◌, ◌<◌, true, false, List, slice_index, ap, sym, ◌∙◌, refl}
use Rattle.mw_words.specs.declared.places.At.{At}
use Rattle.mw_look.specs.Places.{pack}
use Rattle.mw_world.specs.declared.config.Config.{Config}
use Rattle.mw_world.specs.Definition.Cells.{Cells, read}
use Rattle.mw_world.specs.Definition.Extent.{has_place}
use Rattle.mw_world.specs.Definition.State.{IsConfig}
use Rattle.mw_rule.specs.Layout.{index_of, words_of}
use Rattle.mw_rule.specs.Rule.{BitsMatch}
use Rattle.mw_table.specs.Places.{IsAt, place_at}
use Rattle.mw_table.proofs.WordsAtPlaces.{finds_place}
use Rattle.mw_rule.proofs.Layouts.{places_in_table, places_within}

same_place : (config : Config) (index : ℕ) (place at : At) → IsConfig config → place ≡ place_at config.pool index → has_place config at ≡ true → index_of config.pool at ≡ index → place ≡ at
same_place config index place at made is there here = is ∙ (ap (place_at config.pool) (sym here) ∙ finds_place config.pool at (places_within config at made there))

pub bits_are : (config : Config) (cells : Cells) (index bits : ℕ) (place : At) → IsConfig config → place ≡ place_at config.pool index → bits ≡ pack place (read cells place)
    → IsAt config cells index bits
bits_are config cells index bits place made is stands at there here = stands ∙ ap (λ (p : At). pack p (read cells p)) (same_place config index place at made is there here)

pub none_is : (config : Config) (cells : Cells) (index bits : ℕ) (place : At) → IsConfig config → place ≡ place_at config.pool index → has_place config place ≡ false
    → IsAt config cells index bits
none_is config cells index bits place made is gone at there here =
    let same : has_place config place ≡ has_place config at = ap (has_place config) (same_place config index place at made is there here) in absurd (cc)

pub ties_so : (config : Config) (cells : Cells) (words : List ℕ) → IsConfig config → ((k : ℕ) → k < words_of config → IsAt config cells k (slice_index words k)) → BitsMatch config cells words
ties_so config cells words made placed at there = placed (index_of config.pool at) (places_in_table config at made there) at there refl
