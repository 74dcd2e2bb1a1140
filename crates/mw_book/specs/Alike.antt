-- Defines which files of the world (`File` of mw_world) a book can't tell apart, and claims that it represents all of them
-- or none.
-- Used by: laws.rt. A change here changes the law files_that_are_alike.
use Rattle.std.specs.Prelude.{ℕ, ◌≡◌, ◌<◌}
use Rattle.mw_words.specs.declared.limits.TheConstants.{MAX_POOL}
use Rattle.mw_disk.specs.Facts.{Facts}
use Rattle.mw_world.specs.Files.State.{File}
use Rattle.mw_book.specs.declared.book.Book.{Book}
use Rattle.mw_book.specs.Representation.{Represents}

-- Two files are alike if they are equal in the first places, in the places of the slots that there can be, and in all else.
pub record IsAlike (places : ℕ) (one other : File) : Type 0 where
  pub contents : one.contents ≡ other.contents
  pub same_places : (place : ℕ) → place < places → one.places place ≡ other.places place
  pub same_place_of : (slot : ℕ) → slot < MAX_POOL → one.place_of slot ≡ other.place_of slot
  pub same_failed : one.has_failed ≡ other.has_failed
  pub same_doubt : one.doubt ≡ other.doubt

-- If a book represents a file, it represents every file that is alike.
abbrev pub RepresentsAlike : {D : Type 0} → (D → Facts) → Type 0
RepresentsAlike {D} facts = (book : Book D) (one other : File) → Represents facts book one → IsAlike book.places one other → Represents facts book other
