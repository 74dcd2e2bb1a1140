-- Defines the text that `mwshow` prints for the bytes of a file: its damage, or a line for each fact.
-- Used by: src/lines.rt, src/program.rt. A change here changes docs/OPERATING too.
use Rattle.std.specs.Prelude.{ℕ, ◌≡◌, ◌++◌, Bool, List, Option, codes, decimal, is_none}
use Rattle.std.specs.Option.{option_map_or}
use Rattle.std.specs.Io.KnownBytes.{Appends}
use Rattle.mw_record.specs.declared.damages.Damage.{Damage}
use Rattle.mw_record.specs.Damages.{damage_of, number_of}
use Rattle.mw_file_text.specs.Text.{file_text}
use Rattle.mwshow.specs.Places.{byte_of}

-- a damage, by its number and its byte
abbrev pub damage_line : Damage → ℕ → List ℕ
damage_line damage byte = codes "damage " ++ decimal (number_of damage) ++ codes " byte " ++ decimal byte ++ codes "\n"

-- the text for the bytes of any file
abbrev pub text_of : Bool → List ℕ → List ℕ
text_of all_words image = option_map_or (λ damage. damage_line damage (byte_of damage image)) (damage_of image) (file_text all_words image)

-- The text for the bytes of some file was written, and `sound` tells whether that file has no damage.
pub record IsShown (all_words : Bool) (before now : Option (List ℕ)) (sound : Bool) : Type 0 where
  pub image : List ℕ
  pub is_sound : sound ≡ is_none (damage_of image)
  pub wrote : Appends before now (text_of all_words image)
