-- When a read may come to an idle pass: of word 0 or 1 to that of worker 2, of the only word to one on the table of two tenants.
-- Used by: gets, read_once.
use Rattle.std.specs.Prelude.{ℕ, ◌≡◌, true, nat_lt}
use Rattle.std.proofs.Common.{refl, sym, subst}
use Rattle.mw_words.specs.declared.jobs.Job.TheVariants.{Get}
use Rattle.mw_actor.specs.ActorState.{first}
use Rattle.mw_core.specs.FromTable.{MayCome, Pass, Shared}
use Rattle.mw_core.proofs.FromTable.{request_comes}
use Rattle.mw_table_tests.specs.Readers.{MayGet, MayRead}

is_below : (address words count : ℕ) → words ≡ count → nat_lt address count ≡ true → nat_lt address words ≡ true
is_below address words count is below = subst (λ (n : ℕ). nat_lt address n ≡ true) (sym is) below

pub read_comes : (shared : Shared) (quota address : ℕ) (pass : Pass) → MayRead shared quota pass → nat_lt address 2 ≡ true → MayCome pass.seat.me.0 pass.worker (first pass.worker 0 quota 3 (Get address))
read_comes shared quota address pass may below = request_comes shared pass 0 quota 3 (Get address) may.own may.idle may.tenants (is_below address _ 2 may.words below) may.quota_is may.pool

pub get_comes : (shared : Shared) (pass : Pass) (tenant : ℕ) → MayGet shared pass tenant → MayCome pass.seat.me.0 pass.worker (first pass.worker tenant 1 2 (Get 0))
get_comes shared pass tenant may = request_comes shared pass tenant 1 2 (Get 0) may.own may.idle may.there (is_below 0 _ 1 may.word refl) may.quota may.pool
