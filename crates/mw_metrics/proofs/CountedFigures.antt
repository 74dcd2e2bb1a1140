-- When a loop puts what was counted for a tenant beside its figures, all figures stay in their order: those of the tenants so
-- far, and those that are left.
-- Used by: Meters::counted.
use Rattle.std.proofs.Common.{◌≡◌, refl, ap, sym, ◌∙◌, List, [], ◌∷◌, ◌++◌, map, Result, Ok, Err, is_ok, is_err, false, if◌then◌else◌}
use Rattle.mw_report.specs.declared.figures.TenantFigures.{TenantFigures}
use Rattle.mw_metrics.specs.declared.figures.TenantMetrics.{TenantMetrics}
use Rattle.mw_metrics.specs.Counted.{figures_of}

-- the last of the first part is the first of the second
moved : {A B : Type 0} (f : A → B) (all : List A) (last : A) (rest : List B) → map f (all ++ last ∷ []) ++ rest ≡ map f all ++ f last ∷ rest
moved f [] last rest = refl
moved f (x ∷ xs) last rest = ap (λ ys. f x ∷ ys) (moved f xs last rest)

-- nothing comes after a list
ended : {A : Type 0} (xs : List A) → xs ++ [] ≡ xs
ended [] = refl
ended (x ∷ xs) = ap (λ ys. x ∷ ys) (ended xs)

-- before the first tenant all figures are left
pub begun : (all : List TenantMetrics) (left whole : List TenantFigures) → all ≡ [] → left ≡ whole → map figures_of all ++ left ≡ whole
begun all left whole none is = ap (λ xs. map figures_of xs ++ left) none ∙ is

-- a push that memory did not refuse makes one more tenant of the next figures
pub one_more : {T E : Type 0} (r : Result T E) (old new : List TenantMetrics) (tenant : TenantMetrics) (left rest whole : List TenantFigures)
    → is_err r ≡ false → new ≡ (if is_ok r then old ++ tenant ∷ [] else old) → left ≡ figures_of tenant ∷ rest
    → map figures_of old ++ left ≡ whole → map figures_of new ++ rest ≡ whole
one_more (Ok y) old new tenant left rest whole well is next was =
    ap (λ xs. map figures_of xs ++ rest) is ∙ moved figures_of old tenant rest ∙ ap (λ xs. map figures_of old ++ xs) (sym next) ∙ was
one_more (Err e) old new tenant left rest whole well is next was = absurd (cc)

-- after the last tenant no figures are left
pub all_told : (all : List TenantMetrics) (left whole : List TenantFigures) → left ≡ [] → map figures_of all ++ left ≡ whole → map figures_of all ≡ whole
all_told all left whole none was = sym (ended (map figures_of all)) ∙ ap (λ xs. map figures_of all ++ xs) (sym none) ∙ was
