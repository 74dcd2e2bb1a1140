-- The invariant of the shared words (`Memory`) holds at each start at which no word of a file is above the greatest value.
-- Used by: starts_have_memory.
use Rattle.std.specs.Prelude.{ℕ, ◌≤◌}
use Rattle.std.proofs.Common.{arith}
use Rattle.std.proofs.lemmas.Bool.Decides.{nat_tests}
use Rattle.mw_words.specs.declared.limits.TheConstants.{MAX_VALUE}
use Rattle.mw_words.specs.declared.places.At.TheVariants.{Door as AtDoor, Gate as AtGate, Row as AtRow, Data, Status as AtStatus, Count, Addr, Expected, New}
use Rattle.mw_words.specs.Change.{word_at}
use Rattle.mw_world.specs.declared.config.Config.{Config}
use Rattle.mw_world.specs.Definition.State.{TenantState, IsConfig, started}
use Rattle.mw_world.specs.Definition.Cells.{AllFit}
use Rattle.mw_law_runs.specs.Moves.Laws.{StartsHaveMemory}

first_fit : (config : Config) (tenant_states : ℕ → TenantState) → IsConfig config
    → ((tenant address : ℕ) → word_at (tenant_states tenant).file.contents address ≤ MAX_VALUE) → AllFit (started config tenant_states).cells
first_fit config tenant_states is fit (AtDoor tenant) = grind (arith, nat_tests)
first_fit config tenant_states is fit (AtGate slot) = grind (arith, nat_tests, is.seq)
first_fit config tenant_states is fit (AtRow worker) = grind (arith, nat_tests)
first_fit config tenant_states is fit (Data tenant address) = grind (arith, nat_tests, fit tenant address)
first_fit config tenant_states is fit (AtStatus slot) = tt
first_fit config tenant_states is fit (Count slot) = grind (arith, nat_tests)
first_fit config tenant_states is fit (Addr slot entry) = grind (arith, nat_tests)
first_fit config tenant_states is fit (Expected slot entry) = grind (arith, nat_tests)
first_fit config tenant_states is fit (New slot entry) = grind (arith, nat_tests)

pub starts_have_memory : StartsHaveMemory
starts_have_memory config tenant_states is fit = record {
  claims = grind (arith, nat_tests, is.pool);
  slots = grind (arith, nat_tests);
  references = grind (arith, nat_tests);
  attempts = grind (arith, nat_tests);
  words = grind (arith, nat_tests);
  late = grind (arith, nat_tests);
  written = λ slot seq address was_written. grind (arith, nat_tests);
  fits = first_fit config tenant_states is fit;
}
