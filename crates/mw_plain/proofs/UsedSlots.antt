-- The tenants of a plain store use no more slots than the sum of their quotas, and the figures of its report keep the limits.
-- Used by: Plain::figures, Plain::used.
use Rattle.std.proofs.Common.{◌≡◌, ℕ, zero, suc, ◌+◌, ◌-◌, ◌<◌, ◌≤◌, List, [], ◌∷◌, ◌++◌, take, map, length, get_or, arith, sym, ap, subst, ◌∙◌}
use Rattle.std.specs.Prelude.{All, Option, Some, None}
use Rattle.std.proofs.lemmas.List.{length-map, map_more}
use Rattle.std.proofs.lemmas.List.Sums.{sum_by-cons, sum_by_more}
use Rattle.std.proofs.lemmas.List.Elements.{All-nil, All-cons}
use Rattle.mw_words.specs.declared.limits.TheConstants.{MAX_PLACES, MAX_POOL, MAX_TENANTS}
use Rattle.mw_report.specs.declared.figures.TenantFigures.{TenantFigures}
use Rattle.mw_report.specs.Table.{IsWithinLimits, AreWithinLimits}
use Rattle.mw_plain.specs.declared.loaded_file.LoadedFile.{LoadedFile}
use Rattle.mw_plain.specs.declared.tenant.Part.{Part}
use Rattle.mw_plain.specs.Books.{used_in, places_in}
use Rattle.mw_plain.specs.Quotas.{quotas_of, used_by}
use Rattle.mw_plain.specs.Report.{figures_of}

-- the first tenants use no more slots than the sum of all quotas
pub used_first : {D : Type 0} (n : ℕ) (parts : List (Part D)) → used_by (take n parts) ≤ quotas_of parts
used_first zero parts = omega arith
used_first (suc n) [] = omega arith
used_first {D} (suc n) (p ∷ parts) =
    let rest = used_first n parts in
    let used = sum_by-cons (λ (p : Part D). used_in p.book) p (take n parts) in
    let quotas = sum_by-cons (λ (p : Part D). p.quota) p parts in
    omega (arith, rest, p.within, used, quotas)

-- the slots of one tenant more
pub used_more : {D : Type 0} (parts : List (Part D)) (k : ℕ) (p : Part D) (so_far used : ℕ) → k < length parts → get_or parts k p ≡ p
    → so_far ≡ used_by (take k parts) → used ≡ used_in p.book → so_far + used ≡ used_by (take (k + 1) parts)
used_more {D} parts k p so_far used low is counted one =
    let more = sum_by_more (λ (p : Part D). used_in p.book) parts k p low in
    let here = ap (λ (p : Part D). used_in p.book) is in
    omega (arith, more, here, counted, one)

-- a tenant's file has at most `MAX_PLACES` places
few_places : {D : Type 0} (book : Option (LoadedFile D)) → places_in 0 book ≤ MAX_PLACES
few_places None = omega arith
few_places (Some book) = book.file.few

each_within : {D : Type 0} (parts : List (Part D)) → All IsWithinLimits (map figures_of parts)
each_within [] = All-nil IsWithinLimits
each_within (p ∷ parts) =
    All-cons IsWithinLimits (figures_of p) (map figures_of parts) (record { words = p.few_words; quota = p.few_slots; places = few_places p.book; used = omega (arith, p.within, p.few_slots) }) (each_within parts)

-- the figures of one tenant more
pub figures_more : {D : Type 0} (parts : List (Part D)) (k : ℕ) (p : Part D) (told : List TenantFigures) (one : TenantFigures) → k < length parts → get_or parts k p ≡ p
    → told ≡ map figures_of (take k parts) → one ≡ figures_of p → told ++ one ∷ [] ≡ map figures_of (take (k + 1) parts)
figures_more parts k p told one low is so_far new =
    ap (λ xs. xs ++ one ∷ []) so_far ∙ ap (λ x. map figures_of (take k parts) ++ x ∷ []) (new ∙ sym (ap figures_of is)) ∙ sym (map_more figures_of parts k p low)

-- the figures of all tenants keep the limits
pub within_limits : {D : Type 0} (pool used : ℕ) (parts : List (Part D)) (told : List TenantFigures) → told ≡ map figures_of parts → length parts ≤ MAX_TENANTS → pool ≤ MAX_POOL
    → AreWithinLimits told (pool - used)
within_limits pool used parts told is few small = record {
  few = let count : length told ≡ length parts = ap length is ∙ length-map parts figures_of in omega (arith, count, few);
  each = subst (All IsWithinLimits) (sym is) (each_within parts);
  free = omega (arith, small);
}
