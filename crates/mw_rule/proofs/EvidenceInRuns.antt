-- What a request's step finds in the table's bits is what the world has there, so it counts as evidence for the reply.
-- Used by: mw_law_threads.
use Rattle.std.specs.Prelude.{ℕ, ◌≡◌, ◌≤◌, List, [], Some}
use Rattle.std.proofs.Common.{sym, ap, subst, ◌∙◌, arith}
use Rattle.mw_words.specs.declared.doors.Door.{Door}
use Rattle.mw_words.specs.declared.jobs.Job.{Job}
use Rattle.mw_words.specs.declared.jobs.Job.TheVariants.{Get, Cas}
use Rattle.mw_words.specs.declared.places.At.TheVariants.{Door as AtDoor}
use Rattle.mw_look.specs.declared.observations.Got.{Got}
use Rattle.mw_look.specs.declared.observations.Observation.TheVariants.{SawDoor}
use Rattle.mw_look.specs.Observations.{observation_of}
use Rattle.mw_look.specs.Program.{Reading}
use Rattle.mw_look.specs.Steps.{place}
use Rattle.mw_actor.specs.declared.points.Point.{Point}
use Rattle.mw_actor.specs.declared.points.Point.TheVariants.{Plant, Read, ReadDoor}
use Rattle.mw_actor.specs.ActorState.{ActorState, first}
use Rattle.mw_actor.specs.Asks.{asks, asks_at}
use Rattle.mw_world.specs.declared.config.Config.{Config}
use Rattle.mw_world.specs.Claim.Headline.{IsExecution}
use Rattle.mw_world.specs.Definition.Events.{WorldEvent}
use Rattle.mw_world.specs.Definition.State.{State, TenantStart}
use Rattle.mw_world.specs.Definition.Turns.{next_attempt}
use Rattle.mw_rule.specs.FromLaws.{IsSound}
use Rattle.mw_rule.proofs.FromLaws.{runs_are_sound}
use Rattle.mw_rule.specs.declared.views.WorkerToken.{WorkerToken}
use Rattle.mw_rule.specs.Steps.{comes, stepped, actor_after}
use Rattle.mw_rule.specs.Evidence.{HasEvidenceAt}
use Rattle.mw_rule.specs.Rule.{HasEvidenceFor}
use Rattle.mw_rule.proofs.EvidenceSteps.{evidence_on}
use Rattle.mw_rule.proofs.Words.{observation_after}

-- a request at its first point is on its way to no reply
first_evidence : (attempt worker tenant quota pool : ℕ) (job : Job) → HasEvidenceAt [] attempt tenant quota (first worker tenant quota pool job).point
first_evidence attempt worker tenant quota pool (Get address) = tt
first_evidence attempt worker tenant quota pool (Cas entries) = tt

pub first_with_evidence : (token : WorkerToken) (request begun tenant quota pool : ℕ) (job : Job)
    → HasEvidenceFor (comes (first token.worker tenant quota pool job) request begun token) (Some (first token.worker tenant quota pool job))
first_with_evidence token request begun tenant quota pool job = λ whole. first_evidence token.attempt token.worker tenant quota pool job

same_door : (one other : Door) → SawDoor one ≡ SawDoor other → one.used ≡ other.used
same_door one other e = let same : one ≡ other = cc in ap (λ (d : Door). d.used) same

module _ (config : Config) (openings : ℕ → TenantStart) (before : List WorldEvent) (state : State) (played : IsExecution config openings before state) (worker : ℕ) where
  sound : IsSound config state
  sound = (runs_are_sound config openings before state played).0

  pub quota_so : (actor : ActorState) → (state.worker_states worker).actor ≡ Some actor → actor.quota ≡ (state.tenant_states actor.tenant).quota
  quota_so actor sits = sound.counts.quotas worker actor sits

  later_at : (actor : ActorState) (point : Point) → (state.worker_states worker).actor ≡ Some (record actor { point = point }) → (state.worker_states worker).attempt ≤ next_attempt point (state.worker_states worker).attempt
  later_at actor (Plant task entry number) sits =
      let me : ActorState = record actor { point = Plant task entry number } in
      let worker_state = sound.counts.worker_states worker me sits in
      let next : number ≡ (state.worker_states worker).attempt = sym (sound.requests worker me sits).stands.knows.1 ∙ ap (λ (n : ℕ). (state.worker_states n).attempt) worker_state.same_worker in omega (arith, next)
  later_at actor point sits = omega arith

  module _ (actor : ActorState) (sits : (state.worker_states worker).actor ≡ Some actor) where
    reads : (look : Reading) → actor.point ≡ Read look → look.tenant ≡ actor.tenant
    reads look is = (sound.counts.ready worker (record actor { point = Read look }) (sits ∙ ap (λ (point : Point). Some (record actor { point = point })) is)).0

    most : (got : Got) → observation_of (place (asks actor)) got ≡ observation_after (asks actor) state.cells → (door : Door) → actor.point ≡ ReadDoor → observation_of (AtDoor actor.tenant) got ≡ SawDoor door → door.used ≤ actor.quota
    most got told door is saw =
        let here : observation_of (AtDoor actor.tenant) got ≡ SawDoor (state.cells.doors actor.tenant) =
        subst (λ (point : Point). observation_of (place (asks_at actor point)) got ≡ observation_after (asks_at actor point) state.cells) is told in
        let same = same_door door (state.cells.doors actor.tenant) (sym saw ∙ here) in
        let low = sound.counts.counts.quotas actor.tenant (sound.counts.worker_states worker actor sits).tenant in
        let quota = quota_so actor sits in omega (arith, same, low, quota)

    -- The same after the request is told what its step found.
    pub evidence_told : (token : WorkerToken) (got : Got) → observation_of (place (asks actor)) got ≡ observation_after (asks actor) state.cells → (state.worker_states worker).attempt ≡ token.attempt → HasEvidenceFor token (Some actor)
        → HasEvidenceFor (stepped got token actor) (Some (actor_after got token.attempt actor))
    evidence_told token got told attempt evidence whole =
        evidence_on token.found actor got token.attempt (next_attempt actor.point token.attempt) actor.point (subst (λ (n : ℕ). n ≤ next_attempt actor.point n) attempt (later_at actor actor.point sits)) reads
        (most got told) (evidence whole)
