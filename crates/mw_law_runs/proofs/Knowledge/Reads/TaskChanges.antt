-- What a request knows when it starts to work on a change (its own or another's), finishes with one, or gives up.
-- Used by: AfterCalls, Inspection, ReleasePhase, among others.
use Rattle.std.specs.Prelude.{ℕ, ◌≡◌, Bool, true, cond}
use Rattle.std.proofs.Common.{sym, ap, subst, ◌∙◌, arith}
use Rattle.std.proofs.lemmas.Bool.Decides.{nat_tests}
use Rattle.mw_words.specs.declared.replies.Reply.{Reply}
use Rattle.mw_words.specs.declared.statuses.Status.{Status}
use Rattle.mw_look.proofs.RangeLaws.{either_way}
use Rattle.mw_actor.specs.declared.points.After.{After}
use Rattle.mw_actor.specs.declared.points.After.TheVariants.{Work, GiveUp as ThenGiveUp, Reply as ThenReply}
use Rattle.mw_actor.specs.declared.points.Point.TheVariants.{ReadTargetStatus, ReadOtherGate, ReadCount, Unpin, GiveUp}
use Rattle.mw_actor.specs.declared.points.Slot.{Slot}
use Rattle.mw_actor.specs.declared.points.Task.{Task}
use Rattle.mw_actor.specs.ActorState.{ActorState, own_entries, is_alone, alone, same_slot}
use Rattle.mw_actor.specs.RequestEnds.{works, resumed, gives_up, finishes}
use Rattle.mw_actor.specs.Help.{turns_to, helps}
use Rattle.mw_law_runs.proofs.Requests.StageLaws.{both_same}
use Rattle.mw_world.specs.Definition.State.{State}
use Rattle.mw_law_runs.specs.Knowledge.Facts.{IsKnown, MayBeMet, IsReadied, IsAtWork, WorksOn, IsOver, Follows}
use Rattle.mw_law_runs.specs.Knowledge.Points.{Knows, without_point}

-- a change is the same as itself
pub alone_is_alone : (own : Slot) → is_alone (alone own) ≡ true
alone_is_alone own = grind (arith, nat_tests)

-- what holds of the own change holds of the target if that is the same
same_target : {A : Type 0} (f : ℕ → ℕ → A) (task : Task) → is_alone task ≡ true → f task.own.slot task.own.seq ≡ f task.target.slot task.target.seq
same_target f task is =
    let same = both_same task.target.slot task.target.seq task.own.slot task.own.seq is in
    ap (λ (slot : ℕ). f slot task.own.seq) (sym same.0) ∙ ap (λ (seq : ℕ). f task.target.slot seq) (sym same.1)

module _ (state : State) (actor : ActorState) where
  -- the own change is a known one
  pub own_known : (own : Slot) → IsReadied state (without_point actor) own → IsKnown state actor.tenant own
  own_known own is = record { is_claimed = is.own.is_claimed; same_tenant = is.own.same_tenant; ready = is.ready }

  pub at_own : (own : Slot) → IsReadied state (without_point actor) own → IsAtWork state (without_point actor) (alone own)
  at_own own is = record { own = is; target = own_known own is }

  pub works_alone : (task : Task) → IsAtWork state (without_point actor) task → is_alone task ≡ true → WorksOn state (without_point actor) task
  works_alone task at is = record {
    at_work = at;
    entries = ap (λ (b : Bool). cond b (own_entries actor) actor.others) is ∙ sym at.own.own.same_entries ∙ same_target state.history.change task is;
  }

  pub works_knows : (task : Task) → IsAtWork state (without_point actor) task → Knows state actor (works task)
  works_knows task at = either_way (Knows state actor) (is_alone task) (ReadTargetStatus task) (ReadCount task) (λ is. works_alone task at is) (λ other. (at, other))

  pub turns_knows : (task : Task) (other : Slot) → IsAtWork state (without_point actor) task → IsKnown state actor.tenant other → Knows state actor (turns_to task other)
  turns_knows task other at known =
      let next : Task = record { own = task.own; target = other } in
      let at_next : IsAtWork state (without_point actor) next = record { own = at.own; target = known } in
      either_way (Knows state actor) (is_alone task) (works next) (Unpin task.target (Work next)) (λ is. works_knows next at_next) (λ is. (at.target, at_next, tt))

  pub helps_knows : (task : Task) (other : Slot) → WorksOn state (without_point actor) task → MayBeMet state actor.tenant other → Knows state actor (helps task other)
  helps_knows task other on met =
      either_way (Knows state actor) (same_slot other task.own) (turns_to task task.own) (ReadOtherGate task other)
      (λ is. turns_knows task task.own on.at_work (own_known task.own on.at_work.own)) (λ apart. (on, met))

  pub gives_up_knows : (task : Task) (undecided : Reply) → IsAtWork state (without_point actor) task → Knows state actor (gives_up task undecided)
  gives_up_knows task undecided at =
      either_way (Knows state actor) (is_alone task) (GiveUp task.own undecided) (Unpin task.target (ThenGiveUp task.own undecided))
      (λ is. (at.own.own, λ draft. absurd (at.own.ready draft))) (λ is. (at.target, at.own, tt))

  pub finishes_knows : (task : Task) (reply : Reply) → IsAtWork state (without_point actor) task → IsOver (without_point actor) (state.history.fate task.target.slot task.target.seq) reply
      → Knows state actor (finishes task reply)
  finishes_knows task reply at over =
      either_way (Knows state actor) (is_alone task) (Unpin task.own (ThenReply reply)) (Unpin task.target (Work (alone task.own)))
      (λ is. (own_known task.own at.own, tt, (at.own, subst (λ (fate : Status). IsOver (without_point actor) fate reply) (sym (same_target state.history.fate task is)) over)))
      (λ is. (at.target, at_own task.own at.own, tt))

  pub resumed_knows : (onward : After) → Follows state (without_point actor) onward → Knows state actor (resumed onward)
  resumed_knows (Work task) follows = works_knows task follows
  resumed_knows (ThenGiveUp own undecided) follows = (follows.own, λ draft. absurd (follows.ready draft))
  resumed_knows (ThenReply reply) follows = tt
