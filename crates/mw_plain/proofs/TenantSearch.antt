-- The search for a name finds the first tenant that has it. Used by: Plain::find.
use Rattle.std.proofs.Common.{◌≡◌, ℕ, ◌+◌, ◌<◌, ◌≤◌, List, length, slice_get, Option, Some, get_or, sym, ap, ◌∙◌, inl, inr, arith}
use Rattle.std.proofs.lemmas.Bool.{cases_eq}
use Rattle.std.specs.Option.{option_map, option_map_or}
use Rattle.std.proofs.lemmas.Option.{same_Some, slice_get-get_or}
use Rattle.mw_plain.specs.declared.tenant.Part.{Part}
use Rattle.mw_plain.specs.declared.plain.Plain.{Plain}
use Rattle.mw_plain.specs.Parts.{tenants, part_at, name_at, words_at}
use Rattle.mw_plain.specs.Search.{HasNone, IsFirst}

module _ {D : Type 0} (plain : Plain D) (tenant : ℕ) (part : Part D) (name : List ℕ) (there : tenant < tenants plain) (here : part ≡ get_or plain.parts.items tenant part) where
  told : part_at plain tenant ≡ Some part
  told = slice_get-get_or plain.parts.items tenant part there ∙ ap Some (sym here)

  named : name_at plain tenant ≡ Some part.name.items
  named = ap (λ (o : Option (Part D)). option_map (λ p. p.name.items) o) told

  words : words_at plain tenant ≡ part.words
  words = ap (λ (o : Option (Part D)). option_map_or (λ p. p.words) o 0) told

  -- if the tenant has the name, it is the first with it
  pub is_first : HasNone plain tenant name → part.name.items ≡ name → IsFirst plain name (tenant, part.words)
  is_first none is = record { there = there; named = named ∙ ap Some is; words = words; first = none }

  -- if it has another name, no tenant up to it has the name
  pub none_yet : HasNone plain tenant name → (part.name.items ≡ name → ⊥) → HasNone plain (tenant + 1) name
  none_yet none other earlier before is = elim (cases_eq earlier tenant) [
    | inl at ↦ other (same_Some _ _ (sym named ∙ ap (name_at plain) (sym at) ∙ is))
    | inr apart ↦ none earlier (omega (arith, before, apart)) is
  ]
