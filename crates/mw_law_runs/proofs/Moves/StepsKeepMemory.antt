-- Steps of requests, calls on files, arrivals, handed-out replies and restarts keep the invariant of the shared words, under
-- the premises of `specs/Moves/Steps`.
-- Used by: steps_keep_memory, exchanges_are_typed, steps_are_moves, mw_law_store.
use Rattle.std.specs.Prelude.{ℕ, ◌≡◌, ◌≤◌, ◌==◌, ◌&&◌, Bool, true, false, if◌then◌else◌, List, length, Option, Some, None}
use Rattle.std.proofs.Common.{refl, subst, arith}
use Rattle.std.proofs.lemmas.Bool.Decides.{nat_tests}
use Rattle.mw_words.specs.declared.limits.TheConstants.{MAX_VALUE}
use Rattle.mw_words.specs.declared.replies.Reply.{Reply}
use Rattle.mw_words.specs.Change.{word_at}
use Rattle.mw_look.proofs.PlaceLaws.{packs_are_apart}
use Rattle.mw_look.specs.Places.{pack}
use Rattle.mw_actor.specs.ActorState.{ActorState}
use Rattle.mw_actor.specs.Program.{replied}
use Rattle.mw_world.specs.Definition.Cells.{read}
use Rattle.mw_world.specs.Maps.{upd}
use Rattle.mw_world.specs.Definition.Restarts.{restarted, found_of, may_all_be_found, quotas_then, reopened, under_way, opened_file}
use Rattle.mw_world.specs.Definition.State.{State, WorkerState, may_be_quotas, places_of, tenants_of}
use Rattle.mw_world.specs.Definition.Requests.{came, gave}
use Rattle.mw_world.specs.Definition.World.{may_come, handed, hand}
use Rattle.mw_law_runs.specs.Moves.Memory.{Memory}
use Rattle.mw_law_runs.specs.Moves.Moves.{made_all}
use Rattle.mw_law_runs.specs.Moves.StepMoves.{SameMemory, moves_of_turn, moves_of_call}
use Rattle.mw_law_runs.specs.Moves.Steps.{ExchangesAreTyped, TurnsKeep, CallsKeep, ComesLeaveMemory, HandsLeaveMemory, RestartsHaveMemory}
use Rattle.mw_law_runs.proofs.Moves.CallMoves.{calls_are_moves}
use Rattle.mw_law_runs.proofs.Moves.MovesKeepMemory.{moves_keep}
use Rattle.mw_law_runs.proofs.Moves.Relied.{others_rely_on_all}
use Rattle.mw_law_runs.proofs.Moves.Shared.{memory_is_shared, reliance_is_shared}
use Rattle.mw_law_runs.proofs.Moves.MemoryAtStart.{starts_have_memory}
use Rattle.mw_law_runs.proofs.Moves.TurnMoves.{turns_are_moves}

pub exchanges_are_typed : ExchangesAreTyped
exchanges_are_typed cells at from fit fits is = packs_are_apart at (read cells at) from (fit at) fits (by_test (pack at (read cells at)) (pack at from) is)
  where
    by_test : (one other : ℕ) → (one == other) ≡ true → one ≡ other
    by_test one other is = grind (arith, nat_tests, is)

pub turns_keep : TurnsKeep
turns_keep config state next worker actor is came guards memory =
    let same = turns_are_moves config state next worker actor is came in
    let moves = moves_of_turn state worker actor in
    record {
      memory = memory_is_shared config next (made_all state worker moves) same (moves_keep config state worker moves guards memory);
      later = reliance_is_shared worker state next (made_all state worker moves) same (others_rely_on_all config state worker moves guards memory);
    }

pub calls_keep : CallsKeep
calls_keep config state next worker actor called outcome is came guards memory =
    let same = calls_are_moves config state next worker actor called outcome is came in
    let moves = moves_of_call state worker actor called outcome in
    record {
      memory = memory_is_shared config next (made_all state worker moves) same (moves_keep config state worker moves guards memory);
      later = reliance_is_shared worker state next (made_all state worker moves) same (others_rely_on_all config state worker moves guards memory);
    }

pub if_some : (test : Bool) (one next : State) → (if test then Some one else None) ≡ Some next → one ≡ next
if_some true one next is = cc
if_some false one next is = cc

same_attempt : (worker_states : ℕ → WorkerState) (worker other : ℕ) (worker_state : WorkerState) → worker_state.attempt ≡ (worker_states worker).attempt → (upd worker_states worker worker_state other).attempt ≡ (worker_states other).attempt
same_attempt worker_states worker other worker_state is = grind (arith, nat_tests, is)

pub comes_leave : ComesLeaveMemory
comes_leave config state next worker tenant job is =
    subst (λ (one : State). SameMemory one state) (if_some (may_come config state worker tenant job) (came config state worker tenant job) next is)
    (record { cells = refl; history = refl; attempts = λ other. same_attempt state.worker_states worker other _ refl })

hands_leave_by : (state next : State) (worker tenant : ℕ) (reply : Option Reply) → handed state worker tenant reply ≡ Some next → SameMemory next state
hands_leave_by state next worker tenant None is = cc
hands_leave_by state next worker tenant (Some reply) is =
    subst (λ (one : State). SameMemory one state) (if_some true (gave state worker tenant) next is)
    (record { cells = refl; history = refl; attempts = λ other. same_attempt state.worker_states worker other _ refl })

by_actor : (state next : State) (worker : ℕ) (found : Option ActorState) → hand state worker found ≡ Some next → SameMemory next state
by_actor state next worker None is = cc
by_actor state next worker (Some actor) is = hands_leave_by state next worker actor.tenant (replied actor) is

pub hands_leave : HandsLeaveMemory
hands_leave state next worker is = by_actor state next worker (state.worker_states worker).actor is

opened_words : (words : List ℕ) (fails : Option ℕ) (address : ℕ) → word_at words address ≤ MAX_VALUE → word_at (opened_file words fails).contents address ≤ MAX_VALUE
opened_words words None address low = low
opened_words words (Some number) address low = low

pub restarts_have : RestartsHaveMemory
restarts_have config state next founds is low came =
    subst (λ (one : State). Memory config one)
    (if_some ((length founds == tenants_of config) && may_all_be_found config state founds (tenants_of config) && may_be_quotas config (quotas_then state founds) (places_of state)) (restarted config state founds) next came)
    (starts_have_memory config (λ tenant. reopened (state.tenant_states tenant) (found_of founds tenant) (under_way config state (found_of founds tenant).interrupted)) is
    (λ tenant address. opened_words (found_of founds tenant).words (found_of founds tenant).fails_at address (low tenant address)))
