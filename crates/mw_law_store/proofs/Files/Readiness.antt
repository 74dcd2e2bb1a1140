-- After a run an event can happen exactly if it is ready: it passes the simple conditions of `specs/Files/Ready`.
-- Used by: ready_events_happen, mw_rule.
use Rattle.std.specs.Prelude.{ℕ, ◌≡◌, ◌<◌, ◌&&◌, ◌==◌, not, is_none, is_some, Bool, true, false, if◌then◌else◌, nat_lt, List, length, Option, Some, None}
use Rattle.std.proofs.Common.{refl, sym, ap, subst, arith}
use Rattle.std.proofs.lemmas.Bool.Decides.{nat_tests}
use Rattle.std.proofs.lemmas.Option.{none-some}
use Rattle.mw_words.specs.declared.jobs.Job.{Job}
use Rattle.mw_words.specs.declared.replies.Reply.{Reply}
use Rattle.mw_words.specs.declared.statuses.Status.{Status}
use Rattle.mw_words.specs.Change.{is_well_formed}
use Rattle.mw_look.specs.declared.steps.Call.{Call}
use Rattle.mw_actor.specs.declared.points.Point.{Point}
use Rattle.mw_actor.specs.declared.points.Point.TheVariants.{Prepare, Seal, Settle, Cancel}
use Rattle.mw_actor.specs.declared.points.Slot.{Slot}
use Rattle.mw_actor.specs.ActorState.{ActorState, own_entries}
use Rattle.mw_actor.specs.Asks.{asks}
use Rattle.mw_actor.specs.Program.{replied}
use Rattle.mw_world.specs.declared.outcomes.Outcome.{Outcome}
use Rattle.mw_world.specs.declared.outcomes.Outcome.TheVariants.{Good, Fail}
use Rattle.mw_world.specs.Files.State.{File}
use Rattle.mw_world.specs.declared.config.Config.{Config}
use Rattle.mw_world.specs.Claim.Headline.{CanBeMade, IsEnabled}
use Rattle.mw_world.specs.Definition.Calls.{Called, breaks, call, call_if, called_at, calling, calls_made, can_be_made, ends, fails_on, is_made, moved_if, place_for, starts_from}
use Rattle.mw_world.specs.Definition.Extent.{has_slot}
use Rattle.mw_world.specs.Definition.Events.{Found, WorldEvent, Come, Step, File as FileEvent, Hand, Restart}
use Rattle.mw_world.specs.Definition.Requests.{came, gave}
use Rattle.mw_world.specs.Definition.Restarts.{restart, restarted}
use Rattle.mw_world.specs.Definition.State.{State, tenant_at, tenants_of}
use Rattle.mw_world.specs.Definition.Turns.{Made, may_make, moved, turn, turned}
use Rattle.mw_world.specs.Definition.World.{come, hand, handed, may_come, step}
use Rattle.mw_law_runs.proofs.Counts.Startable.{may_start, start_passes, start_tells}
use Rattle.mw_law_store.specs.Files.Ready.{IsReady, MakesCall, MayCall, MayCome, MayFail, MayHand, MayRestart, MayStep, OtherEventsDoNot, ReadyEventsHappen}
use Rattle.mw_law_store.proofs.Files.EnabledEvents.{runs_are_enabled}

-- Tests.

record Is (found : Option State) : Type 0 where
  next : State
  is : found ≡ Some next

tested : (test : Bool) (there : State) → test ≡ true → Is (if test then Some there else None)
tested true there holds = record { next = there; is = refl }
tested false there holds = absurd cc

test_held : (test : Bool) (there next : State) → (if test then Some there else None) ≡ Some next → test ≡ true
test_held true there next is = refl
test_held false there next is = absurd (none-some next is)

all_four : (one two three four : Bool) → one ≡ true → two ≡ true → three ≡ true → four ≡ true → (one && two && three && four) ≡ true
all_four one two three four here there last end = grind (arith, here, there, last, end)

both : (one two : Bool) → one ≡ true → two ≡ true → (one && two) ≡ true
both one two here there = grind (arith, here, there)

-- two tests hold
record Both (one two : Bool) : Type 0 where
  here : one ≡ true
  there : two ≡ true

both_held : (one two : Bool) → (one && two) ≡ true → Both one two
both_held true two is = record { here = refl; there = is }
both_held false two is = absurd (cc)

below : (n limit : ℕ) → n < limit → nat_lt n limit ≡ true
below n limit low = grind (arith, nat_tests, low)

is_below : (n limit : ℕ) → nat_lt n limit ≡ true → n < limit
is_below n limit is = grind (arith, nat_tests, is)

none_is : {A : Type 0} (found : Option A) → is_none found ≡ true → found ≡ None
none_is None is = refl
none_is (Some one) is = absurd (cc)

no_reply : (found : Option Reply) → not (is_some found) ≡ true → found ≡ None
no_reply None is = refl
no_reply (Some reply) is = absurd (cc)

-- A request comes.

come_can : (config : Config) (state : State) (worker tenant : ℕ) (job : Job) → MayCome config state worker tenant job → Is (come config state worker tenant job)
come_can config state worker tenant job may =
    tested (may_come config state worker tenant job) (came config state worker tenant job)
    (all_four (nat_lt worker config.workers) (nat_lt tenant (tenants_of config)) (is_none (state.worker_states worker).actor) (is_well_formed (tenant_at config tenant).words job)
    (below worker config.workers may.worker_there) (below tenant (tenants_of config) may.tenant_there) (ap is_none may.idle) may.formed)

come_may : (config : Config) (state next : State) (worker tenant : ℕ) (job : Job) → come config state worker tenant job ≡ Some next → MayCome config state worker tenant job
come_may config state next worker tenant job is =
    let all = both_held (nat_lt worker config.workers && nat_lt tenant (tenants_of config) && is_none (state.worker_states worker).actor) (is_well_formed (tenant_at config tenant).words job)
    (test_held (may_come config state worker tenant job) (came config state worker tenant job) next is) in
    let three = both_held (nat_lt worker config.workers && nat_lt tenant (tenants_of config)) (is_none (state.worker_states worker).actor) all.here in
    let two = both_held (nat_lt worker config.workers) (nat_lt tenant (tenants_of config)) three.here in
    record {
      worker_there = is_below worker config.workers two.here;
      tenant_there = is_below tenant (tenants_of config) two.there;
      idle = none_is (state.worker_states worker).actor three.there;
      formed = all.there;
    }

-- A step.

step_can : (config : Config) (state : State) (worker : ℕ) (actor : ActorState) → replied actor ≡ None → may_make config (asks actor) ≡ true → Is (turn config state worker (Some actor))
step_can config state worker actor unreplied may =
    tested (not (is_some (replied actor)) && may_make config (asks actor)) (turned state worker actor)
    (both (not (is_some (replied actor))) (may_make config (asks actor)) (ap (λ (found : Option Reply). not (is_some found)) unreplied) may)

-- a request that may make a step next has come to no call
calm_there : (config : Config) (actor : ActorState) (point : Point) → let me = record actor { point = point } in may_make config (asks me) ≡ true → called_at point ≡ None
calm_there config actor (Prepare own) may = absurd (cc)
calm_there config actor (Seal task) may = absurd (cc)
calm_there config actor (Settle task) may = absurd (cc)
calm_there config actor (Cancel task) may = absurd (cc)
calm_there config actor point may = refl

step_may : (config : Config) (state next : State) (worker : ℕ) (found : Option ActorState) → (state.worker_states worker).actor ≡ found → turn config state worker found ≡ Some next → MayStep state worker
step_may config state next worker None sits is = absurd (none-some next is)
step_may config state next worker (Some actor) sits is =
    let held = both_held (not (is_some (replied actor))) (may_make config (asks actor)) (test_held (not (is_some (replied actor)) && may_make config (asks actor)) (turned state worker actor) next is) in
    record { actor = actor; sits = sits; unreplied = no_reply (replied actor) held.here; calm = calm_there config actor actor.point held.there }

-- A call.

module _ (state : State) (actor : ActorState) (change : Slot) (file : File) (call : Call) (status : Status) (place calls : ℕ) where
  record Makes (found : Option Made) : Type 0 where
    made : Made
    is : found ≡ Some made

  good_ends : (starts had_failed can_be : Bool) → (starts ≡ true → had_failed ≡ false → can_be ≡ true) → Makes (ends state actor change file starts had_failed can_be call status place calls Good)
  good_ends false had_failed can_be can = record { made = _; is = refl }
  good_ends true true can_be can = record { made = _; is = refl }
  good_ends true false true can = record { made = _; is = refl }
  good_ends true false false can = absurd (false_true (can refl refl))
    where
      false_true : false ≡ true → ⊥
      false_true e = cc

  fail_if : (test : Bool) → test ≡ true → Makes (if test then Some (breaks state actor change file call place) else None)
  fail_if true makes = record { made = breaks state actor change file call place; is = refl }
  fail_if false makes = absurd (cc)

  fail_ends : (starts had_failed can_be : Bool) (number : ℕ) → starts ≡ true → had_failed ≡ false → (starts ≡ true → had_failed ≡ false → can_be ≡ true) → is_made calls number ≡ true
      → Makes (ends state actor change file starts had_failed can_be call status place calls (Fail number))
  fail_ends false had_failed can_be number so works can makes = absurd (cc)
  fail_ends true true can_be number so works can makes = absurd (cc)
  fail_ends true false true number so works can makes = fail_if (is_made calls number) makes
  fail_ends true false false number so works can makes = absurd (false_true (can refl refl))
    where
      false_true : false ≡ true → ⊥
      false_true e = cc

  -- what a call in which a device call failed was
  record Failed (starts had_failed : Bool) (number : ℕ) : Type 0 where
    so : starts ≡ true
    works : had_failed ≡ false
    makes : is_made calls number ≡ true

  made_if : (test : Bool) (made : Made) → (if test then Some (breaks state actor change file call place) else None) ≡ Some made → test ≡ true
  made_if true made is = refl
  made_if false made is = absurd (none-some made is)

  fail_was : (starts had_failed can_be : Bool) (number : ℕ) (made : Made) → ends state actor change file starts had_failed can_be call status place calls (Fail number) ≡ Some made
      → Failed starts had_failed number
  fail_was false had_failed can_be number made is = absurd (none-some made is)
  fail_was true true can_be number made is = absurd (none-some made is)
  fail_was true false true number made is = record { so = refl; works = refl; makes = made_if (is_made calls number) made is }
  fail_was true false false number made is = absurd (none-some made is)

slot_held : (test : Bool) (one : Option State) (next : State) → test ≡ true → one ≡ Some next → (if test then one else None) ≡ Some next
slot_held true one next holds is = is
slot_held false one next holds is = absurd (cc)

module _ (config : Config) (state : State) (worker : ℕ) (actor : ActorState) (called : Called) where
  abbrev file : File
  file = (state.tenant_states actor.tenant).file

  abbrev places : ℕ
  places = (state.tenant_states actor.tenant).quota

  abbrev status : Status
  status = state.cells.statuses called.change.slot

  abbrev place : ℕ
  place = place_for called.call (state.tenant_states actor.tenant).file (state.tenant_states actor.tenant).quota called.change.slot

  -- a call that makes something of the world leads to it
  leads : (outcome : Outcome) → has_slot config called.change.slot ≡ true → (made : Made) → calling config state actor called outcome ≡ Some made → Is (call_if config state worker actor (Some called) outcome)
  leads outcome slot made is = record {
    next = moved state worker actor made;
    is = slot_held (has_slot config called.change.slot) (moved_if state worker actor (calling config state actor called outcome)) (moved state worker actor made) slot (ap (moved_if state worker actor) is);
  }

  good_can : CanBeMade config state actor called (state.tenant_states actor.tenant).file (state.tenant_states actor.tenant).quota → Is (call_if config state worker actor (Some called) Good)
  good_can can =
      let made = good_ends state actor called.change file called.call status place (calls_made called.call status file place) (starts_from called.call status) (fails_on called.call file)
      (can_be_made called.call file places place (own_entries actor)) can.call in
      leads Good can.slot made.made made.is

  fail_can : (number : ℕ) → CanBeMade config state actor called (state.tenant_states actor.tenant).file (state.tenant_states actor.tenant).quota
      → MakesCall state actor called (state.tenant_states actor.tenant).file (state.tenant_states actor.tenant).quota number → Is (call_if config state worker actor (Some called) (Fail number))
  fail_can number can may =
      let made = fail_ends state actor called.change file called.call status place (calls_made called.call status file place) (starts_from called.call status) (fails_on called.call file)
      (can_be_made called.call file places place (own_entries actor)) number may.starts may.works can.call may.makes in
      leads (Fail number) can.slot made.made made.is

  -- a call that led there made something
  was_made : (found : Option Made) (next : State) → moved_if state worker actor found ≡ Some next → (made : Made) × (found ≡ Some made)
  was_made None next is = absurd (none-some next is)
  was_made (Some made) next is = (made, refl)

  in_slot : (test : Bool) (one : Option State) (next : State) → (if test then one else None) ≡ Some next → one ≡ Some next
  in_slot true one next is = is
  in_slot false one next is = absurd (none-some next is)

  fail_may : (number : ℕ) (next : State) → call_if config state worker actor (Some called) (Fail number) ≡ Some next → MakesCall state actor called (state.tenant_states actor.tenant).file (state.tenant_states actor.tenant).quota number
  fail_may number next is =
      let made = was_made (calling config state actor called (Fail number)) next (in_slot (has_slot config called.change.slot) (moved_if state worker actor (calling config state actor called (Fail number))) next is) in
      let was = fail_was state actor called.change file called.call status place (calls_made called.call status file place) (starts_from called.call status) (fails_on called.call file)
      (can_be_made called.call file places place (own_entries actor)) number made.0 made.1 in
      record { starts = was.so; works = was.works; makes = was.makes }

call_may : (config : Config) (state next : State) (worker : ℕ) (actor : ActorState) (outcome : Outcome) (found : Option Called) → call_if config state worker actor found outcome ≡ Some next
    → (called : Called) × (found ≡ Some called) × (call_if config state worker actor (Some called) outcome ≡ Some next)
call_may config state next worker actor outcome None is = absurd (none-some next is)
call_may config state next worker actor outcome (Some called) is = (called, refl, is)

good_may : (config : Config) (state next : State) (worker : ℕ) (outcome : Outcome) (found : Option ActorState) → (state.worker_states worker).actor ≡ found → call config state worker found outcome ≡ Some next → MayCall state worker
good_may config state next worker outcome None sits is = absurd (none-some next is)
good_may config state next worker outcome (Some actor) sits is =
    let there = call_may config state next worker actor outcome (called_at actor.point) is in
    record { actor = actor; called = there.0; sits = sits; at = there.1 }

failed_may : (config : Config) (state next : State) (worker number : ℕ) (found : Option ActorState) → (state.worker_states worker).actor ≡ found → call config state worker found (Fail number) ≡ Some next
    → MayFail state worker number
failed_may config state next worker number None sits is = absurd (none-some next is)
failed_may config state next worker number (Some actor) sits is =
    let there = call_may config state next worker actor (Fail number) (called_at actor.point) is in
    record { called = record { actor = actor; called = there.0; sits = sits; at = there.1 }; makes = fail_may config state worker actor there.0 number next there.2 }

-- A reply.

hand_can : (state : State) (worker : ℕ) (actor : ActorState) (reply : Reply) → replied actor ≡ Some reply → Is (hand state worker (Some actor))
hand_can state worker actor reply stands = record { next = gave state worker actor.tenant; is = ap (handed state worker actor.tenant) stands }

hand_may : (state next : State) (worker : ℕ) (found : Option ActorState) → (state.worker_states worker).actor ≡ found → hand state worker found ≡ Some next → MayHand state worker
hand_may state next worker None sits is = absurd (none-some next is)
hand_may state next worker (Some actor) sits is = by_reply (replied actor) refl is
  where
    by_reply : (found : Option Reply) → replied actor ≡ found → handed state worker actor.tenant found ≡ Some next → MayHand state worker
    by_reply None stands is = absurd (none-some next is)
    by_reply (Some reply) stands is = record { actor = actor; reply = reply; sits = sits; stands = stands }

-- A start.

same_number : (one other : ℕ) → one ≡ other → (one == other) ≡ true
same_number one other same = grind (arith, nat_tests, same)

is_same : (one other : ℕ) → (one == other) ≡ true → one ≡ other
is_same one other is = grind (arith, nat_tests, is)

restart_can : (config : Config) (state : State) (founds : List Found) → MayRestart config state founds → Is (restart config state founds)
restart_can config state founds may =
    tested (may_start config state founds) (restarted config state founds)
    (start_passes config state founds (record { each = same_number (length founds) (tenants_of config) may.each; found = may.found; quotas = may.quotas }))

restart_may : (config : Config) (state next : State) (founds : List Found) → restart config state founds ≡ Some next → MayRestart config state founds
restart_may config state next founds is =
    let held = start_tells config state founds (test_held (may_start config state founds) (restarted config state founds) next is) in
    record { each = is_same (length founds) (tenants_of config) held.each; found = held.found; quotas = held.quotas }

-- All of it.

module _ (config : Config) (state : State) (enabled : IsEnabled config state) where
  ready_can : (event : WorldEvent) → IsReady config state event → Is (step config state event)
  ready_can (Come worker tenant job) may = come_can config state worker tenant job may
  ready_can (Step worker) may =
      subst (λ (found : Option ActorState). Is (turn config state worker found)) (sym may.sits)
      (step_can config state worker may.actor may.unreplied (enabled.steps worker may.actor may.sits may.unreplied may.calm))
  ready_can (FileEvent worker Good) may =
      subst (λ (found : Option ActorState). Is (call config state worker found Good)) (sym may.sits)
      (subst (λ (found : Option Called). Is (call_if config state worker may.actor found Good)) (sym may.at)
      (good_can config state worker may.actor may.called (enabled.calls worker may.actor may.called may.sits may.at)))
  ready_can (FileEvent worker (Fail number)) may =
      let there = may.called in
      subst (λ (found : Option ActorState). Is (call config state worker found (Fail number))) (sym there.sits)
      (subst (λ (found : Option Called). Is (call_if config state worker there.actor found (Fail number))) (sym there.at)
      (fail_can config state worker there.actor there.called number (enabled.calls worker there.actor there.called there.sits there.at) may.makes))
  ready_can (Hand worker) may = subst (λ (found : Option ActorState). Is (hand state worker found)) (sym may.sits) (hand_can state worker may.actor may.reply may.stands)
  ready_can (Restart founds) may = restart_can config state founds may

pub ready_events_happen : ReadyEventsHappen
ready_events_happen config openings events state event played ready =
    let there = ready_can config state (runs_are_enabled config openings events state played) event ready in
    record { next = there.next; is = there.is }

pub other_events_do_not : OtherEventsDoNot
other_events_do_not config state (Come worker tenant job) can = come_may config state can.next worker tenant job can.is
other_events_do_not config state (Step worker) can = step_may config state can.next worker (state.worker_states worker).actor refl can.is
other_events_do_not config state (FileEvent worker Good) can = good_may config state can.next worker Good (state.worker_states worker).actor refl can.is
other_events_do_not config state (FileEvent worker (Fail number)) can = failed_may config state can.next worker number (state.worker_states worker).actor refl can.is
other_events_do_not config state (Hand worker) can = hand_may state can.next worker (state.worker_states worker).actor refl can.is
other_events_do_not config state (Restart founds) can = restart_may config state can.next founds can.is
