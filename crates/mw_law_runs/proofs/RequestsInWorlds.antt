-- In a sound world (`IsSound`) each request belongs to its worker and is informed (`IsInformed`), and the counts have what
-- they rest on.
-- Used by: counts_have_rest, mw_law_store.
use Rattle.std.specs.Prelude.{ℕ, ◌≡◌}
use Rattle.std.proofs.Common.{refl, sym, ap, subst, ◌∙◌, arith}
use Rattle.std.proofs.lemmas.Bool.Decides.{nat_tests}
use Rattle.mw_words.specs.declared.replies.Reply.{Reply}
use Rattle.mw_look.specs.declared.points.Point.{Point as ReadPoint}
use Rattle.mw_look.specs.declared.points.Point.TheVariants.{FreeSlot as FreeOfRead}
use Rattle.mw_look.specs.Program.{Reading}
use Rattle.mw_look.specs.Runs.{if_same}
use Rattle.mw_actor.specs.declared.points.Point.{Point}
use Rattle.mw_actor.specs.declared.points.Point.TheVariants.{Read, FreeSlot, GiveUp}
use Rattle.mw_actor.specs.declared.points.Slot.{Slot}
use Rattle.mw_actor.specs.ActorState.{ActorState}
use Rattle.mw_world.specs.declared.config.Config.{Config}
use Rattle.mw_world.specs.Definition.Counts.{frees_at}
use Rattle.mw_world.specs.Definition.History.{standing_at, permission_at}
use Rattle.mw_world.specs.Claim.Invariant.{IsOfWorker}
use Rattle.mw_world.specs.Definition.State.{State}
use Rattle.mw_law_runs.specs.Counts.Ready.{IsReady}
use Rattle.mw_law_runs.specs.Counts.CountInvariant.{CountsRestOn, IsFirstToLeave}
use Rattle.mw_law_runs.proofs.Counts.Exact.{exchanges-are-exact}
use Rattle.mw_law_runs.specs.Knowledge.NextState.{KnowsItsPoint}
use Rattle.mw_law_runs.specs.Obligations.{HaveTheirRequests}
use Rattle.mw_law_runs.specs.Laws.{CountsHaveRest}
use Rattle.mw_law_runs.specs.RunInvariant.{IsSound}

not_both : {n : ℕ} → n ≡ 0 → n ≡ 1 → ⊥
not_both zero_of one_of = omega (arith, zero_of, one_of)

module _ (config : Config) (state : State) (sound : IsSound config state) where
  pub have_their_requests : HaveTheirRequests config state
  have_their_requests worker actor is =
      let worker_state = sound.counts.worker_states worker actor is in
      let request = sound.requests worker actor is in
      let at = sym worker_state.same_worker in
      record {
        same_worker = worker_state.same_worker;
        informed = record {
          memory = sound.memory;
          worker_state = subst (λ (n : ℕ). IsOfWorker config n actor) at worker_state;
          in_range = request.in_range;
          look_in_range = request.look_in_range;
          ready = sound.counts.ready worker actor is;
          for_job = request.for_job;
          standing = subst (λ (n : ℕ). state.history.standing n ≡ standing_at actor actor.point) at (sound.points.standing worker actor is);
          permission = subst (λ (n : ℕ). state.history.permission n ≡ permission_at actor actor.point) at (sound.points.permission worker actor is);
          live = request.stands.live;
          knows = request.stands.knows;
        };
      }

  -- a slot is freed by a request of the tenant that it is taken for
  same_slot_of : (given slot : ℕ) → if_same given slot ≡ 1 → given ≡ slot
  same_slot_of given slot is = grind (arith, nat_tests, is)

  freed_by_read : (actor : ActorState) (look : Reading) (point : ReadPoint) (slot : ℕ) → let a = record actor { point = Read (record look { point = point }) } in
      IsReady a a.point → KnowsItsPoint state a → frees_at slot a.point ≡ 1 → state.history.tenant slot (state.cells.gates slot).seq ≡ actor.tenant
  freed_by_read actor look (FreeOfRead given seq onward) slot ready stands frees =
      subst (λ (one : ℕ). state.history.tenant one (state.cells.gates one).seq ≡ actor.tenant) (same_slot_of given slot frees)
      (ap (λ (number : ℕ). state.history.tenant given number) stands.live.seq ∙ stands.knows.same_tenant ∙ ready.0)
  freed_by_read actor look point slot ready stands frees = absurd (not_both refl frees)

  freed_by : (actor : ActorState) (point : Point) (slot : ℕ) → let a = record actor { point = point } in IsReady a point → KnowsItsPoint state a → frees_at slot point ≡ 1
      → state.history.tenant slot (state.cells.gates slot).seq ≡ actor.tenant
  freed_by actor (Read look) slot ready stands frees = freed_by_read actor look look.point slot ready stands frees
  freed_by actor (FreeSlot given onward) slot ready stands frees =
      subst (λ (one : ℕ). state.history.tenant one (state.cells.gates one).seq ≡ actor.tenant) (same_slot_of given.slot slot frees)
      (ap (λ (number : ℕ). state.history.tenant given.slot number) stands.live.0.seq ∙ stands.knows.0.same_tenant)
  freed_by actor point slot ready stands frees = absurd (not_both refl frees)

  leaves_first : (actor : ActorState) (point : Point) (own : Slot) (undecided : Reply) → KnowsItsPoint state (record actor { point = point }) → point ≡ GiveUp own undecided → IsFirstToLeave state own
  leaves_first actor point own undecided stands is = at_give_up (subst (λ (at : Point). KnowsItsPoint state (record actor { point = at })) is stands)
    where
      at_give_up : KnowsItsPoint state (record actor { point = GiveUp own undecided }) → IsFirstToLeave state own
      at_give_up there = record { number = there.live.seq; stays_not = there.knows.0.stays_not }

  pub rest_on : CountsRestOn state
  rest_on = record {
    exact = λ worker actor is. let request = sound.requests worker actor is in exchanges-are-exact state.cells actor sound.memory.fits request.in_range request.look_in_range;
    freed = λ worker slot actor is frees. freed_by actor actor.point slot (sound.counts.ready worker actor is) (sound.requests worker actor is).stands frees;
    gives_up = λ worker actor own undecided is at. leaves_first actor actor.point own undecided (sound.requests worker actor is).stands at;
  }

pub counts_have_rest : CountsHaveRest
counts_have_rest config state sound = rest_on config state sound
