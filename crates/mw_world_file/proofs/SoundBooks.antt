-- A sound simulated file (it represents a file with its tenant's number of words) stays sound at every call and start.
-- Used by: mw_simulator.
use Rattle.std.specs.Prelude.{ℕ, ◌≡◌, List, length, Bool, Option, Ok}
use Rattle.std.proofs.Common.{refl, ◌∙◌}
use Rattle.std.proofs.Math.Logic.{∥∥₁_map}
use Rattle.mw_world_file.specs.declared.cut.Cut.{Cut}
use Rattle.mw_world_file.specs.declared.simulated_file.SimulatedFile.{SimulatedFile}
use Rattle.mw_world_file.specs.Books.{Represents}
use Rattle.mw_world.specs.Files.State.{File}
use Rattle.mw_world_file.specs.Recovery.{Restarts}
use Rattle.mw_world_file.specs.CallEffects.{Turns}
use Rattle.mw_world_file.specs.SoundBooks.{HasSound, IsSound, file_in}

-- a book that represents a file represents the one with its own parts
own_file : (book : SimulatedFile) (file : File) → Represents book file → Represents book (file_in book)
own_file book file shows = record {
  same_contents = refl;
  same_places = λ place low. refl;
  same_place_of = λ slot low. refl;
  same_failed = refl;
  same_doubt = refl;
  stands = shows.stands;
}

-- a book that represents a file, and has so many words, is sound
pub sound_by : (words : ℕ) (book : SimulatedFile) (file : File) → Represents book file → length book.contents.items ≡ words → HasSound words book
sound_by words book file shows long = ∣ record { shows = own_file book file shows; long = long } ∣₁

-- after a call
pub sound_after : (words : ℕ) (old new : SimulatedFile) (turn : File → Option File) → HasSound words old → Turns old new turn → HasSound words new
sound_after words old new turn sound turned = ∥∥₁_map sound step
  where
    step : IsSound words old → IsSound words new
    step one =
        let after = turned.shows (file_in old) one.shows in
        record { shows = own_file new after.0 after.2; long = turned.words ∙ one.long }

-- after a start
pub sound_again : (words : ℕ) (old : SimulatedFile) (cut : Option Cut) (torn : List ℕ) (fails_at : Option ℕ) (quota : ℕ) (started : SimulatedFile × Bool) → HasSound words old
    → Restarts old cut torn fails_at quota (Ok started) → HasSound words started.0
sound_again words old cut torn fails_at quota started sound restarts = ∥∥₁_map sound step
  where
    step : IsSound words old → IsSound words started.0
    step one =
        let after = restarts (file_in old) one.shows in
        record { shows = own_file started.0 _ after.shows; long = after.long ∙ one.long }
