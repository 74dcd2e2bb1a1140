-- The search for a name finds the first tenant that has it.
-- Used by: Engine::find, Engine::request, TenantWords::tenant_figures.
use Rattle.std.proofs.Common.{◌≡◌, ℕ, ◌+◌, ◌<◌, ◌≤◌, List, length, map, slice_get, Option, Some, get_or, sym, ap, ◌∙◌, inl, inr, arith}
use Rattle.std.proofs.lemmas.Bool.{cases_eq}
use Rattle.std.specs.Option.{option_map, option_map_or}
use Rattle.std.proofs.lemmas.Option.{same_Some, slice_get-map, slice_get-get_or, slice_get_within}
use Rattle.mw_engine.specs.declared.tenant_line.Listed.{Listed}
use Rattle.mw_engine.specs.Identity.{Line, name_told, quota_told, HasWords, HasNone, IsFirst}
use Rattle.mw_engine.specs.Lines.{line_of}

module _ (kept : List Listed) (tenant : ℕ) (line : Listed) (name : List ℕ) (there : tenant < length kept) (here : line ≡ get_or kept tenant line) where
  -- the engine's lines
  abbrev pub lines : List Line
  lines = map line_of kept

  -- the engine's line of the tenant
  told : slice_get lines tenant ≡ Some (line_of line)
  told = slice_get-map line_of kept tenant ∙ ap (option_map line_of) (slice_get-get_or kept tenant line there ∙ ap Some (sym here))

  counted : tenant < length lines
  counted = slice_get_within lines tenant (line_of line) told

  -- it has so many words
  pub has : HasWords lines tenant line.words
  has = record { there = counted; words_are = ap (λ (o : Option Line). option_map_or (λ l. l.words) o 0) told }

  named : name_told lines tenant ≡ Some line.name.items
  named = ap (λ (o : Option Line). option_map (λ l. l.name) o) told

  -- it may use so many slots
  pub quota_is : quota_told lines tenant ≡ line.quota
  quota_is = ap (λ (o : Option Line). option_map_or (λ l. l.quota) o 0) told

  -- if the tenant has the name, it is the first with it
  pub is_first : HasNone lines tenant name → line.name.items ≡ name → IsFirst lines name (tenant, line.words)
  is_first none is = record { named = named ∙ ap Some is; has = has; first = none }

  -- if it has another name, no tenant up to it has the name
  pub none_yet : HasNone lines tenant name → (line.name.items ≡ name → ⊥) → HasNone lines (tenant + 1) name
  none_yet none other earlier before is = elim (cases_eq earlier tenant) [
    | inl at ↦ other (same_Some _ _ (sym named ∙ ap (name_told lines) (sym at) ∙ is))
    | inr apart ↦ none earlier (omega (arith, before, apart)) is
  ]

-- if all tenants were looked at, none has the name
pub none_at_all : (lines : List Line) (tenant : ℕ) (name : List ℕ) → length lines ≤ tenant → HasNone lines tenant name → HasNone lines (length lines) name
none_at_all lines tenant name past none = λ earlier before is. none earlier (omega (arith, past, before)) is
