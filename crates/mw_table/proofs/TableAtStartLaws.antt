-- A table (array of shared atomic words) that is made at a start begins under the table's rule (mw_rule `specs/Rule`).
-- Used by: Shared::new, bits_of.
use Rattle.std.specs.Prelude.{ℕ, zero, suc, ◌≡◌, if◌then◌else◌, is_some, List, [], ◌∷◌, length, slice_get, Option, Some, None, Vec}
use Rattle.std.specs.declared.alloc.Global.{Global}
use Rattle.std.proofs.Common.{refl, arith}
use Rattle.atomic_table.specs.Table.{opening}
use Rattle.mw_words.specs.Change.{word_at}
use Rattle.mw_actor.specs.ActorState.{ActorState}
use Rattle.mw_world.specs.declared.config.Config.{Config}
use Rattle.mw_world.specs.declared.config.Tenant.{Tenant}
use Rattle.mw_world.specs.Definition.State.{IsConfig, IsStart, TenantStart, idle_worker_state, tenants_of, words_given}
use Rattle.mw_rule.specs.Splits.{maker}
use Rattle.mw_rule.specs.Layout.{words_of}
use Rattle.mw_rule.specs.Rule.{TableInvariant, BitsMatch}
use Rattle.mw_rule.specs.Prefixes.{opening_at}
use Rattle.mw_rule.proofs.KnownRunLaws.{stays}
use Rattle.mw_rule.proofs.SplitLaws.{starts}
use Rattle.mw_table.specs.declared.origin.FileOpening.{FileOpening}
use Rattle.mw_table.specs.TableAtStart.{StartedWith, basis_of_start, is_opened, openings_given, start_given, value_given, word_given, world_given}
use Rattle.mw_table.proofs.FilePassesAtStart.{all_held, held_once}

-- whether a tenant's file opened is what the start gives of it
pub opened_so : (tenants : List Tenant) (found : List FileOpening) (tenant : ℕ) → length found ≡ length tenants
    → is_opened (slice_get found tenant) ≡ (opening_at (openings_given tenants found) tenant).is_up
opened_so [] [] tenant long = refl
opened_so [] (one ∷ found) tenant long = absurd (omega (arith, long))
opened_so (first ∷ tenants) [] tenant long = absurd (omega (arith, long))
opened_so (first ∷ tenants) (one ∷ found) zero long = refl
opened_so (first ∷ tenants) (one ∷ found) (suc tenant) long = opened_so tenants found tenant (omega (arith, long))

word_so : (tenant : Tenant) (words : Option (Vec ℕ Global)) (address : ℕ) → word_given words address ≡ (if is_some words then word_at (words_given tenant words) address else 0)
word_so tenant None address = refl
word_so tenant (Some words) address = refl

-- a word is what the address has at the start
abbrev value_of : TenantStart → ℕ → ℕ
value_of given address = if given.is_up then word_at given.words address else 0

pub value_so : (tenants : List Tenant) (found : List FileOpening) (tenant address : ℕ) → length found ≡ length tenants
    → value_given (slice_get found tenant) address ≡ value_of (opening_at (openings_given tenants found) tenant) address
value_so [] [] tenant address long = refl
value_so [] (one ∷ found) tenant address long = absurd (omega (arith, long))
value_so (first ∷ tenants) [] tenant address long = absurd (omega (arith, long))
value_so (first ∷ tenants) (one ∷ found) zero address long = word_so first one.words address
value_so (first ∷ tenants) (one ∷ found) (suc tenant) address long = value_so tenants found tenant address (omega (arith, long))

-- the rule holds of the new table
pub fresh_table : (config : Config) (found : List FileOpening) (words : List ℕ) → IsConfig config → IsStart config (start_given config found) → length words ≡ words_of config
    → BitsMatch config (world_given config found).cells words
    → TableInvariant config (StartedWith config found) (opening {S = ActorState} words [] (maker config (openings_given config.tenants.items found) (Some (basis_of_start config found).known_run) (λ worker. idle_worker_state) (basis_of_start config found).files))
fresh_table config found words made start long ties =
    starts config (StartedWith config found) (start_given config found) [] (world_given config found) (openings_given config.tenants.items found) (Some (basis_of_start config found).known_run) (λ worker. idle_worker_state) (basis_of_start config found).files words
    (record { given = refl; nothing = refl }) (stays (Some (basis_of_start config found).known_run)) (record { made = made; starts = start; runs = refl }) (λ tenant low. record { quota = refl; places = refl; words = refl; is_up = refl }) (λ worker low. refl)
    (all_held config (openings_given config.tenants.items found) 0 (tenants_of config) (omega arith)) (λ tenant. held_once config.pool (openings_given config.tenants.items found) tenant 0 (tenants_of config)) long ties
