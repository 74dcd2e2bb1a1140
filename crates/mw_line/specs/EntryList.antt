-- Defines what the reader of a `CAS` line keeps of the entries that it has read: the first ones, and whether there are more.
-- Used by: changes.rt. It may change with that file, as long as read_line keeps its contract.
use Rattle.std.specs.Prelude.{◌≡◌, List, [], ◌∷◌, ◌++◌, length, nat_lt, take, Option, Some, None}
use Rattle.mw_words.specs.declared.limits.TheConstants.{MAX_ENTRIES}
use Rattle.mw_words.specs.declared.jobs.Entry.{Entry}
use Rattle.mw_line.specs.declared.changes.Listing.{Listing}

-- The listing has the first of these entries, at most as many as a change may have, and whether there are more.
pub record Lists (entries : List Entry) (listing : Listing) : Type 0 where
  pub kept : listing.kept.items ≡ take MAX_ENTRIES entries
  pub more : listing.more ≡ nat_lt MAX_ENTRIES (length entries)

-- the new listing has one more entry at the end
abbrev pub Adds : Listing → Entry → Listing → Type 0
Adds old entry new = (entries : List Entry) → Lists entries old → Lists (entries ++ entry ∷ []) new

-- the listing is of the entries that were read; there is none if none could be read
abbrev pub ListsAll : Option (List Entry) → Option Listing → Type 0
ListsAll read (Some listing) = (entries : List Entry) × (read ≡ Some entries) × Lists entries listing
ListsAll read None = read ≡ None
