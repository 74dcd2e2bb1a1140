-- At a start the file passes (capabilities to call one file) are made one by one, and what each knows of its file is true.
-- Used by: Shared::give_file.
use Rattle.std.specs.Prelude.{ℕ, zero, suc, ◌≡◌, ◌<◌, ◌≤◌, ◌+◌, ◌-◌, ◌==◌, Bool, true, false, List, [], ◌∷◌, ◌++◌, length, slice_get, Option, Some, None}
use Rattle.std.proofs.Common.{refl, sym, ap, subst, ◌∙◌, inl, length-append, arith}
use Rattle.std.proofs.lemmas.Bool.Decides.{nat_tests}
use Rattle.atomic_table.specs.Table.{Me}
use Rattle.mw_actor.specs.ActorState.{ActorState}
use Rattle.mw_world.specs.declared.config.Config.{Config}
use Rattle.mw_world.specs.Definition.State.{TenantStart, tenants_of, world_at}
use Rattle.mw_rule.proofs.Calls.TokenLaws.{starts_have_file_tokens}
use Rattle.mw_rule.specs.declared.views.View.{View}
use Rattle.mw_rule.specs.Splits.{without_file, with_file_given, knows}
use Rattle.mw_rule.specs.Rule.{Each, HoldsFile, IsLive, times_held, weight}
use Rattle.mw_rule.specs.Prefixes.{opening_at}
use Rattle.mw_rule.proofs.Totals.{weight_few, weight_none}
use Rattle.mw_table.specs.declared.file_pass.FilePass.{FilePass}
use Rattle.mw_table.specs.declared.shared.Shared.{Shared}
use Rattle.mw_table.specs.Basis.{Basis}
use Rattle.mw_table.specs.TableAtStart.{held_from, held_given}
use Rattle.mw_table.specs.NewFilePasses.{IsOpened}

-- What is known of each tenant's file is true in the world at the start, and no tenant has two files.
module _ (config : Config) (given : List TenantStart) where
  pub all_held : (first left : ℕ) → first + left ≤ tenants_of config → Each (HoldsFile config (world_at config (opening_at given))) (held_from config.pool given first left)
  all_held first zero low = tt
  all_held first (suc left) low = (
    record { there = omega (arith, low); tells = starts_have_file_tokens config (opening_at given) first; waits = tt },
    all_held (first + 1) left (omega (arith, low)),
  )

none_before : (pool : ℕ) (given : List TenantStart) (tenant first left : ℕ) → tenant < first → times_held tenant (held_from pool given first left) ≡ 0
none_before pool given tenant first zero low = refl
none_before pool given tenant first (suc left) low =
    let apart = weight_none first tenant (λ same. absurd (omega (arith, low, same))) in
    let rest = none_before pool given tenant (first + 1) left (omega (arith, low)) in
    omega (arith, apart, rest)

pub held_once : (pool : ℕ) (given : List TenantStart) (tenant first left : ℕ) → times_held tenant (held_from pool given first left) ≤ 1
held_once pool given tenant first zero = omega arith
held_once pool given tenant first (suc left) = by_test (first == tenant) refl (held_once pool given tenant (first + 1) left)
  where
    by_test : (test : Bool) → (first == tenant) ≡ test → times_held tenant (held_from pool given (first + 1) left) ≤ 1 → times_held tenant (held_from pool given first (suc left)) ≤ 1
    by_test true is once =
        let rest = none_before pool given tenant (first + 1) left (grind (arith, nat_tests, is)) in
        let few = weight_few (first == tenant) in
        omega (arith, rest, few)
    by_test false is once =
        let own : weight (first == tenant) ≡ 0 = ap weight is in
        omega (arith, own, once)

-- what is left to give from a tenant on
abbrev pub files_from : Basis → ℕ → ℕ → Me ActorState View
files_from basis tenants tenant = (knows basis.config basis.openings (Some basis.known_run) [] (held_from basis.config.pool basis.openings tenant (tenants - tenant)), [])

one_less : (n k : ℕ) → k < n → n - k ≡ suc (n - (k + 1))
one_less n k low = omega arith

-- what is left after one more, and what is given
pub files_next : (basis : Basis) (tenants tenant : ℕ) (old new : Me ActorState View) → tenant < tenants → old ≡ files_from basis tenants tenant → new ≡ (without_file old.0, old.1)
    → new ≡ files_from basis tenants (tenant + 1)
files_next basis tenants tenant old new low left is =
    is ∙ (ap (λ (me : Me ActorState View). (without_file me.0, me.1)) left
    ∙ ap (λ (k : ℕ). (without_file (knows basis.config basis.openings (Some basis.known_run) [] (held_from basis.config.pool basis.openings tenant k)), [])) (one_less tenants tenant low))

pub file_given : (basis : Basis) (tenants tenant : ℕ) (old new : Me ActorState View) → tenant < tenants → old ≡ files_from basis tenants tenant → new ≡ (with_file_given old.0, [])
    → new ≡ (knows basis.config basis.openings (Some basis.known_run) [] (held_given basis.config.pool basis.openings tenant ∷ []), [])
file_given basis tenants tenant old new low left is =
    is ∙ (ap (λ (me : Me ActorState View). (with_file_given me.0, [])) left
    ∙ ap (λ (k : ℕ). (with_file_given (knows basis.config basis.openings (Some basis.known_run) [] (held_from basis.config.pool basis.openings tenant k)), [])) (one_less tenants tenant low))

-- with one more
abbrev some_in : {A : Type 0} → A → Option A → A
some_in other None = other
some_in other (Some one) = one

by_index_more : {A : Type 0} (P : ℕ → A → Type 0) (old : List A) (one : A) → ((k : ℕ) (x : A) → slice_get old k ≡ Some x → P k x) → P (length old) one
    → (k : ℕ) (x : A) → slice_get (old ++ one ∷ []) k ≡ Some x → P k x
by_index_more P [] one all so zero x is = subst (P 0) (ap (some_in one) is) so
by_index_more P [] one all so (suc k) x is = absurd (cc)
by_index_more P (first ∷ rest) one all so zero x is = all zero x is
by_index_more P (first ∷ rest) one all so (suc k) x is = by_index_more (λ j. P (suc j)) rest one (λ j. all (suc j)) so k x is

pub more_opened : (shared : Shared) (basis : Basis) (old new : List FilePass) (file_pass : FilePass) (tenant : ℕ) → new ≡ old ++ file_pass ∷ [] → length old ≡ tenant
    → ((k : ℕ) (one : FilePass) → slice_get old k ≡ Some one → IsOpened shared basis k one) → IsOpened shared basis tenant file_pass
    → (k : ℕ) (one : FilePass) → slice_get new k ≡ Some one → IsOpened shared basis k one
more_opened shared basis old new file_pass tenant is many all own =
    subst (λ (file_passes : List FilePass). (k : ℕ) (one : FilePass) → slice_get file_passes k ≡ Some one → IsOpened shared basis k one) (sym is)
    (by_index_more (IsOpened shared basis) old file_pass all (subst (λ (k : ℕ). IsOpened shared basis k file_pass) (sym many) own))

pub one_more_file_pass : (old new : List FilePass) (file_pass : FilePass) (count : ℕ) → new ≡ old ++ file_pass ∷ [] → length old ≡ count → length new ≡ count + 1
one_more_file_pass old new file_pass count is many = omega (arith, ap length is, length-append old (file_pass ∷ []), many)

pub files_left_live : (basis : Basis) (tenants tenant : ℕ) (me : Me ActorState View) → me ≡ files_from basis tenants tenant → IsLive me.0
files_left_live basis tenants tenant me left = inl (ap (λ (one : Me ActorState View). one.0.is_spent) left)
