-- Defines what a stop leaves of a tenant's file, and how an opening ends on it. Used by: src/opening.rt, src/stops.rt.
use Rattle.std.specs.Prelude.{◌≡◌, ℕ, false, true, List, [], ◌∷◌, Option, Some, None, Result, Ok, Err}
use Rattle.mw_record.specs.Damages.{places_of}
use Rattle.mw_file.specs.OpeningEnds.{open_calls}
use Rattle.mw_world_file.specs.declared.cut.Cut.{Cut}
use Rattle.mw_world_file.specs.declared.cut.Left.{Left}
use Rattle.mw_world_file.specs.declared.simulated_file.SimulatedFile.{SimulatedFile}
use Rattle.mw_world_file.specs.declared.faults.BookFault.{BookFault}
use Rattle.mw_world_file.specs.declared.faults.BookFault.TheVariants.{NotEnabled, Memory}
use Rattle.mw_world_file.specs.Devices.{disk_under}
use Rattle.mw_world.specs.Files.State.{File}
use Rattle.mw_world_file.specs.Openings.{CameOfBytes}
use Rattle.mw_world.specs.Files.Restarts.{may_fail, opened_file}
use Rattle.mw_world_file.specs.Books.{Represents, quota_of, places_of_file}
use Rattle.mw_world_file.specs.Recovery.{IsLeft, doubt_left, may_be_made}

-- The stop left these bytes, which a start may find with these torn bytes. They have as many places as the book's file,
-- and this change is in doubt.
pub record IsStopped (old : SimulatedFile) (file : File) (cut : Option Cut) (torn : List ℕ) (left : Left) : Type 0 where
  pub words : List ℕ
  pub is_left : IsLeft old file cut torn words left.image.items
  pub room : places_of left.image.items ≡ places_of_file old
  pub in_doubt : left.doubt.items ≡ doubt_left file (quota_of old) cut

-- How a stop of a book ends, for each result: it leaves such bytes; or the call makes fewer device calls than the cut
-- says; or memory is out.
abbrev pub Stops : SimulatedFile → Option Cut → List ℕ → Result Left BookFault → Type 0
Stops old cut torn (Ok left) = (file : File) → Represents old file → IsStopped old file cut torn left
Stops old cut torn (Err NotEnabled) = (file : File) → Represents old file → may_be_made file (quota_of old) cut ≡ false
Stops old cut torn (Err Memory) = Unit {0}

-- the list of the device calls that must fail: one or none
abbrev pub named : Option ℕ → List ℕ
named None = []
named (Some number) = number ∷ []

-- The book of a file with these words and quota, after an opening of these bytes that may fail so, on the disk that the
-- opening made of them. It has as many places as the bytes say.
pub record IsReopened (image : List ℕ) (quota : ℕ) (words : List ℕ) (fails_at : Option ℕ) (new : SimulatedFile) : Type 0 where
  pub fails : may_fail (open_calls image) fails_at ≡ true
  pub count : quota_of new ≡ quota
  pub has : places_of_file new ≡ places_of image
  pub shows : Represents new (opened_file words fails_at)
  pub came : CameOfBytes image words fails_at (disk_under new.device)

-- how an opening of these bytes ends, for each result; they are a file of these words with at least `quota` places
abbrev pub ReopenEnds : List ℕ → ℕ → List ℕ → Option ℕ → Result SimulatedFile BookFault → Type 0
ReopenEnds image quota words fails_at (Ok new) = IsReopened image quota words fails_at new
ReopenEnds image quota words fails_at (Err NotEnabled) = may_fail (open_calls image) fails_at ≡ false
ReopenEnds image quota words fails_at (Err Memory) = Unit {0}
