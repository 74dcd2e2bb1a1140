-- Defines what an engine is made of: the tenants' lines, and their files as they opened.
-- Used by: src/new_parts.rt, mw_programs, mw_law_threads, mw_engine_tests.
use Rattle.std.specs.Prelude.{◌≡◌, ◌≤◌, ℕ, true, false, All, List, [], ◌∷◌, length, replicate, if◌then◌else◌, is_some, Option, Some, None, Vec}
use Rattle.std.specs.declared.alloc.Global.{Global}
use Rattle.mw_words.specs.declared.limits.TheConstants.{MAX_PLACES}
use Rattle.mw_disk.specs.Facts.{Facts}
use Rattle.mw_file.specs.declared.tenant_file.TenantFile.{TenantFile}
use Rattle.mw_file.specs.File.{states_of}
use Rattle.mw_config.specs.declared.lines.TenantLine.{TenantLine}
pub use Rattle.mw_config.specs.FittingFiles.{IsFresh, FitsLine, FitLines}
use Rattle.mw_world.specs.Files.State.{File, file_of}
use Rattle.mw_world.specs.declared.config.Tenant.{Tenant}
use Rattle.mw_world.specs.Definition.State.{TenantStart}
use Rattle.mw_book.specs.declared.book.Book.{Book}
use Rattle.mw_book.specs.Representation.{Represents, unopened}
use Rattle.mw_core.specs.FromTable.{FileOpening}
use Rattle.mw_engine.specs.Identity.{Line}

-- what a line of the tenants file tells
abbrev pub line_read : TenantLine → Line
line_read line = record { name = line.name.items; words = line.words; quota = line.quota }

-- the tenant of a world that a line makes; its name, words and quota are the line's
abbrev pub tenant_read : TenantLine → Tenant
tenant_read line = record { name = line.name; words = line.words; quota = line.quota; old = None }

-- how many places for changes the file of this opening has; 0 if it didn't open
abbrev pub places_found : FileOpening → ℕ
places_found found = if is_some found.words then found.places else 0

-- no file has more than `MAX_PLACES` places
abbrev pub HaveFewPlaces : List FileOpening → Type 0
HaveFewPlaces openings = All (λ found. places_found found ≤ MAX_PLACES) openings

module _ {D : Type 0} where
  -- What the start gives a tenant, by its line and its opened file. There is no file if it didn't open, or doesn't fit
  -- its line. Then the words are zeros, which nobody is told. The places are then as many as the quota, and none is
  -- ever used.
  abbrev pub opening_read : TenantLine → Option (TenantFile D × Vec ℕ Global) → TenantStart
  opening_read line None = record { quota = line.quota; places = line.quota; words = replicate line.words 0; is_up = false }
  opening_read line (Some opened) = record { quota = line.quota; places = length (states_of opened.0); words = opened.1.items; is_up = true }

  -- the same for each tenant
  abbrev pub openings_read : List TenantLine → List (Option (TenantFile D × Vec ℕ Global)) → List TenantStart
  openings_read [] files = []
  openings_read (line ∷ lines) [] = []
  openings_read (line ∷ lines) (file ∷ files) = opening_read line file ∷ openings_read lines files

  -- the file that a book holds, if there is one
  abbrev pub book_file : Book D → Option (TenantFile D)
  book_file book = book.held

  -- the file that the tenant's book must hold, if one opened
  abbrev pub held_read : Option (TenantFile D × Vec ℕ Global) → Option (TenantFile D)
  held_read None = None
  held_read (Some opened) = Some opened.0

  -- what a table takes of the opened file
  abbrev pub opening_of : TenantLine → Option (TenantFile D × Vec ℕ Global) → FileOpening
  opening_of line None = record { quota = line.quota; places = line.quota; words = None }
  opening_of line (Some opened) = record { quota = line.quota; places = length (states_of opened.0); words = Some opened.1 }

  -- the file that the tenant's book represents
  abbrev pub file_read : TenantLine → Option (TenantFile D × Vec ℕ Global) → File
  file_read line None = unopened (replicate line.words 0)
  file_read line (Some opened) = file_of opened.1.items

module _ {D : Type 0} (facts : D → Facts) where
  -- a tenant's opening and book are made of its line and its file
  pub record IsMadeOf (line : TenantLine) (file : Option (TenantFile D × Vec ℕ Global)) (opening : FileOpening) (book : Book D) : Type 0 where
    pub opening_is : opening ≡ opening_of line file
    pub held : book.held ≡ held_read file
    pub places : book.places ≡ line.quota
    pub shows : Represents facts book (file_read line file)

  -- the same for all tenants, in order
  abbrev pub AreMadeOf : List TenantLine → List (Option (TenantFile D × Vec ℕ Global)) → List FileOpening → List (Book D) → Type 0
  AreMadeOf [] [] [] [] = Unit {0}
  AreMadeOf (line ∷ lines) (file ∷ files) (opening ∷ openings) (book ∷ books) = IsMadeOf line file opening book × AreMadeOf lines files openings books
  AreMadeOf lines files openings books = ⊥
