-- The words that an engine's start gives a tenant are those that the opening of its file found.
-- Used by: engines_start_with_changes.
use Rattle.std.specs.Prelude.{ℕ, zero, suc, ◌≡◌, ◌⊎◌, List, [], ◌∷◌, slice_get, Option, Some, Vec, Ok}
use Rattle.std.specs.declared.alloc.Global.{Global}
use Rattle.std.proofs.Common.{ap, ◌∙◌, inl, inr}
use Rattle.std.proofs.lemmas.Option.{none-some, same_Some}
use Rattle.mw_words.specs.declared.jobs.Entry.{Entry}
use Rattle.mw_words.specs.Change.{put}
use Rattle.mw_config.specs.declared.lines.TenantLine.{TenantLine}
use Rattle.mw_disk.specs.Facts.{Facts}
use Rattle.mw_file.specs.declared.tenant_file.TenantFile.{TenantFile}
use Rattle.mw_world.specs.Definition.State.{TenantStart}
use Rattle.mw_rule.specs.Prefixes.{opening_at}
use Rattle.mw_engine.specs.OpenedFiles.{opening_read, openings_read}
use Rattle.mw_law_threads.specs.Durable.Starts.{EnginesStartWithChanges, FindsEither, GivesEither}
use Rattle.mw_law_threads.proofs.Durable.FoundChanges.{starts_find_changes}

module _ {E : Type 0} where
  -- what the start gives the tenant of a number is read from the line and the file with that number
  read_at : (lines : List TenantLine) (files : List (Option (TenantFile E × Vec ℕ Global))) (number : ℕ) (line : TenantLine) (file : Option (TenantFile E × Vec ℕ Global))
      → slice_get lines number ≡ Some line → slice_get files number ≡ Some file → opening_at (openings_read lines files) number ≡ opening_read line file
  read_at [] files number line file here there = absurd (none-some line here)
  read_at (x ∷ lines) [] number line file here there = absurd (none-some file there)
  read_at (x ∷ lines) (y ∷ files) zero line file here there =
      ap (λ (z : TenantLine). opening_read z y) (same_Some x line here) ∙ ap (λ (z : Option (TenantFile E × Vec ℕ Global)). opening_read line z) (same_Some y file there)
  read_at (x ∷ lines) (y ∷ files) (suc number) line file here there = read_at lines files number line file here there

  -- a start that gives what an opening found gives one of the two lists of words that the opening found
  gives : (facts : E → Facts) (words : List ℕ) (more : List Entry) (line : TenantLine) (opened : TenantFile E × Vec ℕ Global) (given : TenantStart)
      → given ≡ opening_read line (Some opened) → FindsEither facts words more (Ok opened) → GivesEither words more given
  gives facts words more line opened given is found = record {
    opened = ap (λ (start : TenantStart). start.is_up) is;
    words_are = either found.0;
  }
    where
      either : (opened.1.items ≡ words) ⊎ (opened.1.items ≡ put words more) → (given.words ≡ words) ⊎ (given.words ≡ put words more)
      either (inl before) = inl (ap (λ (start : TenantStart). start.words) is ∙ before)
      either (inr after) = inr (ap (λ (start : TenantStart). start.words) is ∙ after)

pub engines_start_with_changes : {D E : Type 0} (facts : D → Facts) (again : E → Facts) → EnginesStartWithChanges facts again
engines_start_with_changes facts again view tenant more old new left honest image came openings disk opened reached its_honest rest opens lines files number line here there =
    gives again _ more line opened _ (read_at lines files number line (Some opened) here there)
    (starts_find_changes facts again view tenant more old new left honest image came openings disk (Ok opened) reached its_honest rest opens)
