-- Defines which tenant of a plain store a name finds: the first tenant that has it.
-- Used by: Plain::find. mw_engine has the same definition of its own tenants: change both together.
use Rattle.std.specs.Prelude.{◌≡◌, ◌≢◌, ◌<◌, ℕ, List, Some}
use Rattle.mw_plain.specs.declared.plain.Plain.{Plain}
use Rattle.mw_plain.specs.Parts.{tenants, name_at, words_at}

module _ {D : Type 0} where
  -- none of the first `so_many` tenants has this name
  abbrev pub HasNone : Plain D → ℕ → List ℕ → Type 0
  HasNone plain so_many name = (tenant : ℕ) → tenant < so_many → name_at plain tenant ≢ Some name

  -- this is the number of the first tenant with this name, and its number of words
  pub record IsFirst (plain : Plain D) (name : List ℕ) (found : ℕ × ℕ) : Type 0 where
    pub there : found.0 < tenants plain
    pub named : name_at plain found.0 ≡ Some name
    pub words : words_at plain found.0 ≡ found.1
    pub first : HasNone plain found.0 name
