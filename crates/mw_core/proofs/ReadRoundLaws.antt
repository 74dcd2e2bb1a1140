-- One round of a read ends within a bounded number of steps: with the reply, or back at the first point with a reason.
-- Used by: Core::try_look, make_first, make_next.
use Rattle.std.specs.Prelude.{ℕ, ◌≡◌, ◌≤◌, ◌<◌, ◌+◌, Bool, true, false, cond, is_some, List, [], ◌∷◌, length, Option, Some, None, Result, Ok, Err}
use Rattle.std.specs.Option.{option_or}
use Rattle.std.proofs.Common.{refl, sym, ap, subst, ◌∙◌, arith}
use Rattle.mw_words.specs.declared.jobs.Job.TheVariants.{Get}
use Rattle.mw_words.specs.declared.limits.TheConstants.{MAX_ENTRIES}
use Rattle.mw_words.specs.declared.replies.Reply.{Reply}
use Rattle.mw_words.specs.declared.replies.Reply.TheVariants.{Fault as HasFailed}
use Rattle.mw_look.specs.declared.observations.Got.{Got}
use Rattle.mw_look.specs.declared.observations.Got.TheVariants.{Word as Found}
use Rattle.mw_look.specs.declared.observations.Observation.{Observation}
use Rattle.mw_look.specs.declared.points.Point.{Point as LookPoint}
use Rattle.mw_look.specs.declared.points.Point.TheVariants.{ReadDoor, ReadWord, Replied}
use Rattle.mw_look.specs.Observations.{observation_of}
use Rattle.mw_look.specs.Program.{Reading, first, goes, reply_at}
use Rattle.mw_look.specs.Runs.{after, past}
use Rattle.mw_look.specs.Steps.{place}
use Rattle.mw_look.proofs.RunLaws.{keeps_address, keeps_tenant}
use Rattle.mw_actor.specs.declared.points.Point.{Point}
use Rattle.mw_actor.specs.declared.points.Point.TheVariants.{Read}
use Rattle.mw_actor.specs.ActorState.{ActorState}
use Rattle.mw_actor.specs.Asks.{asks}
use Rattle.mw_actor.specs.Program.{replied, tells}
use Rattle.mw_world.specs.Definition.Changes.{done}
use Rattle.mw_table.specs.FromRule.{Answered, LearnsFirstStep, FindsWayAt, AddsFirstStepEvents, AddsStepEvent, IsFound, MayCome, Serves, LearnsStep, View, settled_as}
use Rattle.mw_table.proofs.FromRule.{calls_begin, calls_end, calls_go_on}
use Rattle.mw_table.specs.declared.shared.Pass.{Pass}
use Rattle.mw_table.specs.CarriedRequest.{IsCarried}
use Rattle.mw_core.specs.declared.calls.Advance.{Advance}
use Rattle.mw_core.specs.declared.read_rounds.WhyAgain.{WhyAgain}
use Rattle.mw_core.specs.Steps.{Advances, Begins, StepsOnce}
use Rattle.mw_core.specs.ReadRounds.{EndsAs, GoesOnAs, IsLook, IsSince, Looks, MakesFirst, MakesNext, ServedAs, TookAs, Walked, Walks, heard, is_under_way}
use Rattle.mw_core.specs.Reasons.{Because, turns}
use Rattle.mw_core.proofs.StepEnds.{busy_so}
use Rattle.mw_core.proofs.RetryReasons.{Seen, Tells, sees_on, tells_either, tells_more, turns_because}
use Rattle.mw_core.proofs.StepsLeft.{backs, falls, is_back, left}

-- the request is a read at its first step
pub is_first : (actor : ActorState) (look : IsLook actor) → actor ≡ heard actor look.address []
is_first actor look = λ i. record actor { point = look.at_first i }

-- what a step of the request that the pass carries finds
carried_found : (old new : Pass) (actor : ActorState) (got : Got) → IsCarried old actor → replied actor ≡ None → LearnsStep got old.seat.me.0 new.seat.me.0 → IsFound got actor
carried_found old new actor got carried running took =
    took.found (record carried.token { actor = Some actor }) actor
    (carried.carries.only ∙ ap (λ (reply : Option Reply). settled_as carried.token actor reply ∷ []) running) refl

-- the first step, with which the read came
pub first_came : (old new : Pass) (actor next : ActorState) (address : ℕ) → actor ≡ heard actor address [] → old.idle ≡ true → Begins old new actor next → MakesFirst old new actor next address
first_came old new actor next address same idle begins =
    let h = heard actor address [] in
    let got = Found begins.found in
    let began : LearnsFirstStep h got old.seat.me.0 new.seat.me.0 = subst (λ (one : ActorState). LearnsFirstStep one got old.seat.me.0 new.seat.me.0) same begins.began in
    let event : AddsFirstStepEvents h got old.seat.me.0 new.seat.me.0 = subst (λ (one : ActorState). AddsFirstStepEvents one got old.seat.me.0 new.seat.me.0) same begins.event in
    record {
      told = observation_of (place (asks h)) got;
      cells = began.found.cells;
      found = began.found.is;
      walks = record {
        got = got;
        took = subst (λ (test : Bool). TookAs test h got old.seat.me.0 new.seat.me.0) (sym idle) began;
        event = subst (λ (test : Bool). GoesOnAs test h got old.seat.me.0 new.seat.me.0) (sym idle) event;
        is_told = refl;
      };
      next_is = begins.told ∙ ap (λ (one : ActorState). tells one (observation_of (place (asks one)) got) new.attempt) same;
    }

-- the first step of a read that the pass carried
pub first_stepped : (old new : Pass) (actor next : ActorState) (address : ℕ) (result : Advance) → actor ≡ heard actor address [] → old.idle ≡ false → IsCarried old actor
    → Advances old new actor next result → MakesFirst old new actor next address
first_stepped old new actor next address result same idle carried advances =
    let h = heard actor address [] in
    let steps : StepsOnce old new h next = (subst (λ (one : ActorState). Advances old new one next result) same advances).1 in
    let got = steps.got in
    let found = carried_found old new h got (subst (λ (one : ActorState). IsCarried old one) same carried) refl steps.took in
    record {
      told = observation_of (place (asks h)) got;
      cells = found.cells;
      found = found.is;
      walks = record {
        got = got;
        took = subst (λ (test : Bool). TookAs test h got old.seat.me.0 new.seat.me.0) (sym idle) steps.took;
        event = subst (λ (test : Bool). GoesOnAs test h got old.seat.me.0 new.seat.me.0) (sym idle) steps.event;
        is_told = refl;
      };
      next_is = steps.told;
    }

-- a step of a read that is under way
pub next_made : (old new : Pass) (actor next : ActorState) (read : Reading) (got : Got) (why : Option WhyAgain) → actor.point ≡ Read read → IsCarried old actor → replied actor ≡ None
    → LearnsStep got old.seat.me.0 new.seat.me.0 → AddsStepEvent got old.seat.me.0 new.seat.me.0 → next ≡ tells actor (observation_of (place (asks actor)) got) new.attempt → why ≡ turns read.point (observation_of (place (asks actor)) got)
    → MakesNext old new actor next read why
next_made old new actor next read got why at carried running took event told why_is =
    let same : actor ≡ record actor { point = Read read } = λ i. record actor { point = at i } in
    let observation = observation_of (place (asks actor)) got in
    let found = carried_found old new actor got carried running took in
    record {
      told = observation;
      cells = found.cells;
      found = found.is ∙ ap (λ (one : ActorState). done (asks one) found.cells (λ later observation. observation)) same;
      walks = record { got = got; took = took; event = event; is_told = refl };
      way = subst (FindsWayAt found.cells) at found.way;
      next_is = told ∙ ap (λ (one : ActorState). tells one observation new.attempt) same;
      why_is = why_is;
    }

-- the read after it was told these observations
abbrev pub read_by : ActorState → ℕ → List Observation → Reading
read_by actor address observation = after (first actor.tenant address) observation

-- How far a round has come, and why it turned back, if it did.
pub record Under (old now : Pass) (actor next : ActorState) (address : ℕ) (why : Option WhyAgain) : Type 0 where
  pub latest : Observation
  pub earlier : List Observation
  pub walked : Walked old.idle actor address (latest ∷ earlier) old.seat.me.0 now.seat.me.0
  pub few : length (latest ∷ earlier) + left (read_by actor address (latest ∷ earlier)).point ≤ 11 + MAX_ENTRIES
  pub next_is : next ≡ heard actor address (latest ∷ earlier)
  pub seen : let read = read_by actor address (latest ∷ earlier) in Seen read.tenant read.address read.point (past (first actor.tenant address) (latest ∷ earlier))
  pub back : is_back (read_by actor address (latest ∷ earlier)).point ≡ true → is_some why ≡ true
  pub because : let read = read_by actor address (latest ∷ earlier) in Tells read.tenant read.address (past (first actor.tenant address) (latest ∷ earlier)) why
  pub call : (begun : View) (whole : Bool) → IsSince old.idle whole begun old.seat.me.0 actor → ServedAs whole begun now.seat.me.0 (heard actor address (latest ∷ earlier))

-- at the door the read goes on, or has its reply
low_door : (fault : Bool) → 1 + left (cond fault (Replied HasFailed) ReadWord) ≤ 11 + MAX_ENTRIES
low_door true = omega arith
low_door false = omega arith

seen_door : (tenant address : ℕ) (fault : Bool) (events : List _) → Seen tenant address (cond fault (Replied HasFailed) ReadWord) events
seen_door tenant address true events = tt
seen_door tenant address false events = tt

back_door : (fault : Bool) → is_back (cond fault (Replied HasFailed) ReadWord) ≡ true → ⊥
back_door true is = cc
back_door false is = cc

-- what the thread serves after the first step
first_call : (comes : Bool) (old new : View) (worker : ℕ) (actor : ActorState) (address : ℕ) (told : Observation) → (comes ≡ true → MayCome old worker (heard actor address [])) → actor ≡ heard actor address []
    → Walks comes (heard actor address []) told old new → (begun : View) (whole : Bool) → IsSince comes whole begun old actor → ServedAs whole begun new (heard actor address (told ∷ []))
first_call true old new worker actor address told may same walks begun whole since =
    let h = heard actor address [] in
    subst (λ (one : View). ServedAs whole one new (heard actor address (told ∷ []))) (sym since.0)
    (subst (λ (observation : Observation). ServedAs whole old new (heard actor address (observation ∷ []))) (sym walks.is_told) (_, calls_begin old new worker h walks.got (may refl) walks.took, sym since.1))
first_call false old new worker actor address told may same walks begun whole since =
    let h = heard actor address [] in
    let serves : Serves begun old since.0 h = subst (λ (one : ActorState). Serves begun old since.0 one) same since.1 in
    subst (λ (observation : Observation). ServedAs whole begun new (heard actor address (observation ∷ []))) (sym walks.is_told) (_, calls_go_on begun old new since.0 h walks.got serves refl walks.took, since.2)

-- How far a round is after the first step.
pub first_under : (old new : Pass) (actor next : ActorState) (look : IsLook actor) → (old.idle ≡ true → MayCome old.seat.me.0 old.worker actor) → MakesFirst old new actor next look.address
    → Under old new actor next look.address None
first_under old new actor next look may made =
    let address = look.address in
    let same = is_first actor look in
    let read = first actor.tenant address in
    record {
      latest = made.told;
      earlier = [];
      walked = made.walks;
      few = subst (λ (observation : Observation). 1 + left (goes address ReadDoor observation) ≤ 11 + MAX_ENTRIES) (sym made.found) (low_door _);
      next_is = made.next_is;
      seen = subst (λ (observation : Observation). Seen actor.tenant address (goes address ReadDoor observation) (past read (made.told ∷ []))) (sym made.found) (seen_door actor.tenant address _ _);
      back = λ is. absurd (back_door _ (subst (λ (observation : Observation). is_back (goes address ReadDoor observation) ≡ true) made.found is));
      because = tt;
      call = first_call old.idle old.seat.me.0 new.seat.me.0 old.worker actor address made.told (λ idle. subst (λ (one : ActorState). MayCome old.seat.me.0 old.worker one) same (may idle)) same made.walks;
    }

-- a read that is under way has no reply
pub runs_on : (point : LookPoint) → is_under_way point ≡ true → reply_at point ≡ None
runs_on ReadDoor on = refl
runs_on (Replied reply) on = absurd (cc)
runs_on point on = refl

-- How far it is after each further step.
pub next_under : (old now new : Pass) (actor next last : ActorState) (address : ℕ) (why one : Option WhyAgain) (under : Under old now actor next address why)
    → is_under_way (read_by actor address (under.latest ∷ under.earlier)).point ≡ true
    → MakesNext now new next last (read_by actor address (under.latest ∷ under.earlier)) one → Under old new actor last address (option_or one why)
next_under old now new actor next last address why one under on makes =
    let observation = under.latest ∷ under.earlier in
    let read = read_by actor address observation in
    let begin = first actor.tenant address in
    let events = past begin observation in
    let h = heard actor address observation in
    let made : MakesNext now new h last read one = subst (λ (some : ActorState). MakesNext now new some last read one) under.next_is makes in
    let fewer = falls read.tenant read.address read.point made.cells on in
    let few = under.few in
    record {
      latest = made.told;
      earlier = observation;
      walked = (now.seat.me.0, under.walked, on, made.walks);
      few = subst (λ (told : Observation). length (told ∷ observation) + left (goes read.address read.point told) ≤ 11 + MAX_ENTRIES) (sym made.found) (omega (arith, fewer, few));
      next_is = made.next_is;
      seen = subst (λ (told : Observation). Seen read.tenant read.address (goes read.address read.point told) (past begin (told ∷ observation))) (sym made.found)
          (sees_on read.tenant read.address read.point made.cells events on under.seen);
      back = subst (λ (some : Option WhyAgain). is_back (goes read.address read.point made.told) ≡ true → is_some (option_or some why) ≡ true) (sym made.why_is)
          (subst (λ (told : Observation). is_back (goes read.address read.point told) ≡ true → is_some (option_or (turns read.point told) why) ≡ true) (sym made.found)
          (backs read.tenant read.address read.point made.cells why on made.way under.back));
      because = tells_either read.tenant read.address (past begin (made.told ∷ observation)) one why
          (subst (Tells read.tenant read.address (past begin (made.told ∷ observation))) (sym made.why_is)
          (subst (λ (told : Observation). Tells read.tenant read.address (past begin (told ∷ observation)) (turns read.point told)) (sym made.found)
          (turns_because read.tenant read.address read.point made.cells events on under.seen)))
          (tells_more read.tenant read.address events _ why under.because);
      call = λ begun whole since.
          let stands = under.call begun whole since in
          subst (λ (told : Observation). ServedAs whole begun new.seat.me.0 (heard actor address (told ∷ observation))) (sym made.walks.is_told)
          (_, calls_go_on begun now.seat.me.0 new.seat.me.0 stands.0 h made.walks.got stands.1 (runs_on read.point on) made.walks.took, stands.2);
    }

-- where a read is in its program
abbrev pub look_at : Point → LookPoint
look_at (Read look) = look.point
look_at point = ReadDoor

-- Each further step leaves fewer.
pub lower : (old now new : Pass) (actor next last : ActorState) (address : ℕ) (why one : Option WhyAgain) (under : Under old now actor next address why)
    → is_under_way (read_by actor address (under.latest ∷ under.earlier)).point ≡ true
    → MakesNext now new next last (read_by actor address (under.latest ∷ under.earlier)) one → left (look_at last.point) < left (look_at next.point)
lower old now new actor next last address why one under on made =
    let read = read_by actor address (under.latest ∷ under.earlier) in
    let fewer = falls read.tenant read.address read.point made.cells on in
    subst (λ (some : ActorState). left (look_at last.point) < left (look_at some.point)) (sym under.next_is)
    (subst (λ (some : ActorState). left (look_at some.point) < left read.point) (sym made.next_is)
    (subst (λ (told : Observation). left (goes read.address read.point told) < left read.point) (sym made.found) fewer))

-- a read that is neither under way nor at its reply is at its first point
at_door : (point : LookPoint) → is_under_way point ≡ false → reply_at point ≡ None → point ≡ ReadDoor
at_door ReadDoor off none = refl
at_door (Replied reply) off none = absurd (cc)
at_door point off none = absurd (cc)

stands_at : (old now : Pass) (actor next : ActorState) (address : ℕ) (why : Option WhyAgain) (under : Under old now actor next address why)
    → is_under_way (read_by actor address (under.latest ∷ under.earlier)).point ≡ false → replied next ≡ None → (read_by actor address (under.latest ∷ under.earlier)).point ≡ ReadDoor
stands_at old now actor next address why under off none =
    at_door (read_by actor address (under.latest ∷ under.earlier)).point off (sym (ap replied under.next_is) ∙ none)

-- There it has a reason.
pub has_reason : (old now : Pass) (actor next : ActorState) (address : ℕ) (why : Option WhyAgain) (under : Under old now actor next address why)
    → is_under_way (read_by actor address (under.latest ∷ under.earlier)).point ≡ false → replied next ≡ None → is_some why ≡ true
has_reason old now actor next address why under off none = under.back (ap is_back (stands_at old now actor next address why under off none))

-- a read at its first point is the read that began
at_first_again : (tenant address : ℕ) (observation : List Observation) → (after (first tenant address) observation).point ≡ ReadDoor → after (first tenant address) observation ≡ first tenant address
at_first_again tenant address observation at = λ i. record { tenant = keeps_tenant tenant address observation i; address = keeps_address tenant address observation i; point = at i }

-- So a round ends.
pub ended : (old now new : Pass) (actor next : ActorState) (look : IsLook actor) (why : Option WhyAgain) (result : Result Reply WhyAgain) (under : Under old now actor next look.address why)
    → is_under_way (read_by actor look.address (under.latest ∷ under.earlier)).point ≡ false → IsCarried now next → EndsAs result now new next why → Looks old new actor next result
ended old now new actor next look why (Ok reply) under off carried ends =
    let address = look.address in
    let observation = under.latest ∷ under.earlier in
    let few = under.few in
    let same : new.seat.me.0 ≡ now.seat.me.0 = λ i. (ends.1.same_seat i).me.0 in
    record {
      address = address;
      job = look.job;
      observation = observation;
      walked = subst (λ (view : View). Walked old.idle actor address observation old.seat.me.0 view) (sym same) under.walked;
      few = omega (arith, few);
      next_is = under.next_is;
      ends = ends.0;
      idle = ends.1.idle;
      call = λ begun whole since.
          let stands = under.call begun whole since in (
            stands.0,
            subst (λ (view : View). Answered begun view stands.0 actor.tenant actor.job reply) (sym same)
                (calls_end begun now.seat.me.0 stands.0 (heard actor address observation) reply stands.1 (sym (ap replied under.next_is) ∙ ends.0)),
            stands.2,
          );
    }
ended old now new actor next look why (Err one) under off carried ends =
    let address = look.address in
    let observation = under.latest ∷ under.earlier in
    let few = under.few in
    let again = at_first_again actor.tenant address observation (stands_at old now actor next address why under off ends.0) in
    let back : heard actor address observation ≡ actor = (λ i. record actor { point = Read (again i) }) ∙ sym (is_first actor look) in
    let events = past (first actor.tenant address) observation in
    let told : Because one (read_by actor address observation).tenant (read_by actor address observation).address events =
    subst (Tells (read_by actor address observation).tenant (read_by actor address observation).address events) ends.1 under.because in
    subst (λ (pass : Pass). Looks old pass actor next (Err one)) (sym ends.2)
    (record {
      address = address;
      job = look.job;
      observation = observation;
      walked = under.walked;
      few = omega (arith, few);
      next_is = under.next_is;
      ends = (
        under.next_is ∙ back,
        subst (λ (n : ℕ). Because one n address events) (keeps_tenant actor.tenant address observation)
            (subst (λ (n : ℕ). Because one (read_by actor address observation).tenant n events) (keeps_address actor.tenant address observation) told),
      );
      idle = busy_so now next carried ends.0;
      call = λ begun whole since. let stands = under.call begun whole since in (stands.0, subst (λ (some : ActorState). Serves begun now.seat.me.0 stands.0 some) back stands.1, stands.2);
    })

-- How far a round has come from its first step on.
pub record IsUnder (old now : Pass) (actor next : ActorState) (why : Option WhyAgain) : Type 0 where
  pub look : IsLook actor
  pub under : Under old now actor next look.address why

-- the request is a read
pub reads : (old now : Pass) (actor next : ActorState) (why : Option WhyAgain) → IsUnder old now actor next why → (read : Reading) × (next.point ≡ Read read) × (next.job ≡ Get read.address)
reads old now actor next why goes =
    let under = goes.under in
    let observation = under.latest ∷ under.earlier in (
      read_by actor goes.look.address observation,
      ap (λ (one : ActorState). one.point) under.next_is,
      ap (λ (one : ActorState). one.job) under.next_is ∙ (goes.look.job ∙ ap Get (sym (keeps_address actor.tenant goes.look.address observation))),
    )
