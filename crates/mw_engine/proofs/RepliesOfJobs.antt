-- The reply to a request is one that its job can have (`specs/Replies`).
-- Used by: Engine::serve, try_look, advance, file, make_step.
use Rattle.std.specs.Prelude.{◌≡◌, ℕ, ◌-◌, ◌==◌, Bool, nat_lt, Option, Some, None, IfSome, [], ◌∷◌, List, map, Result, Ok, Err, IfOk}
use Rattle.std.proofs.Common.{refl, sym, subst, ◌∙◌, get_or, ap}
use Rattle.std.proofs.lemmas.Option.{none-some, same_Some, slice_get-get_or, slice_get_within}
use Rattle.mw_words.specs.declared.gates.Gate.{Gate}
use Rattle.mw_words.specs.declared.jobs.Job.{Job}
use Rattle.mw_words.specs.declared.jobs.Job.TheVariants.{Get, Cas}
use Rattle.mw_words.specs.declared.limits.TheConstants.{MAX_ENTRIES, WORN_NUMBER}
use Rattle.mw_words.specs.declared.replies.Reply.{Reply}
use Rattle.mw_words.specs.declared.replies.Reply.TheVariants.{Val, Yes, No, Busy, Fault, Worn}
use Rattle.mw_words.specs.declared.statuses.Status.{Status}
use Rattle.mw_words.specs.declared.words.Word.{Word}
use Rattle.mw_words.specs.declared.words.Word.TheVariants.{Plain, Planted, Held, Dirty}
use Rattle.mw_look.specs.declared.observations.Observation.{Observation}
use Rattle.mw_look.specs.declared.observations.Observation.TheVariants.{SawDoor, SawGate, SawWord, SawStatus, SawRow, SawNumber, Won, Lost}
use Rattle.mw_look.specs.declared.points.After.{After as AfterRead}
use Rattle.mw_look.specs.declared.points.After.TheVariants.{Again, Answer}
use Rattle.mw_look.specs.declared.points.Point.{Point as ReadPoint}
use Rattle.mw_look.specs.declared.points.Point.TheVariants as look
use Rattle.mw_look.specs.declared.points.Trail.{Trail}
use Rattle.mw_look.specs.declared.points.Trail.TheVariants.{Held as ByHeld, Planted as ByPlanted}
use Rattle.mw_look.specs.Observations.{observation_of}
use Rattle.mw_look.specs.Program.{first as first_of_read, word_of, seq_of, same_word, word_seen, pinned, pinning, first_entry, next_entry, address_seen, resumed, goes as goes_read, reply_at as reply_of_read}
use Rattle.mw_look.specs.Runs.{after}
use Rattle.mw_look.specs.Steps.{place}
use Rattle.mw_look.proofs.RangeLaws.{either_way}
use Rattle.mw_actor.specs.declared.points.Point.{Point}
use Rattle.mw_actor.specs.declared.points.Point.TheVariants.{Read}
use Rattle.mw_actor.specs.ActorState.{ActorState, first_point}
use Rattle.mw_actor.specs.Asks.{asks}
use Rattle.mw_actor.specs.Program.{goes, replied, reply_at, tells}
use Rattle.mw_disk.specs.Facts.{Facts}
use Rattle.mw_core.specs.FromTable.{Each, IsCarried, IsFinished, AddsFinishedIf, Pass, WorkerToken, View, finished_as, settled, settled_as, stepped, told as told_by, actor_after, went_well}
use Rattle.mw_core.proofs.FromTable.{calls_end, each_last, requests_go_on_from_calls}
use Rattle.mw_core.specs.declared.calls.Advance.{Advance}
use Rattle.mw_core.specs.declared.read_rounds.WhyAgain.{WhyAgain}
use Rattle.mw_core.specs.Steps.{Advances, Begins, Ends, StepsOnce}
use Rattle.mw_core.specs.ReadRounds.{Looks}
use Rattle.mw_world.specs.Definition.Calls.{Called, called_at}
use Rattle.mw_engine.specs.Brand.{Identity}
use Rattle.mw_engine.specs.FileCalls.{FilesOne}
use Rattle.mw_engine.specs.History.{IsInProgress}
use Rattle.mw_engine.specs.Replies.{IsOnItsWay, IsReplyTo, SaysInRead}
use Rattle.mw_engine.proofs.Histories.{attempt_now}

-- The reply to a read is a value or FAULT, whatever the read is told.
module _ (asked : ℕ) where
  word_seen_says : (word : Word) → SaysInRead asked (word_seen word)
  word_seen_says (Plain value) = tt
  word_seen_says (Dirty slot value) = tt
  word_seen_says (Held slot seq) = tt
  word_seen_says (Planted worker attempt) = tt

  pinned_says : (trail : Trail) (from : Gate) (next : Option Gate) → SaysInRead asked (pinned trail from next)
  pinned_says trail from (Some to) = tt
  pinned_says trail from None = tt

  pinning_says : (trail : Trail) (gate : Gate) → SaysInRead asked (pinning trail gate)
  pinning_says trail gate = either_way (SaysInRead asked) (nat_lt (seq_of trail) WORN_NUMBER) _ _ (λ e. pinned_says trail gate _) (λ e. tt)

  first_entry_says : (trail : Trail) (status : Status) → SaysInRead asked (first_entry trail status)
  first_entry_says (ByHeld slot seq) status = tt
  first_entry_says (ByPlanted worker attempt row) status = tt

  next_entry_says : (trail : Trail) (status : Status) (entry : ℕ) → SaysInRead asked (next_entry trail status entry)
  next_entry_says trail status entry = either_way (SaysInRead asked) (nat_lt entry (MAX_ENTRIES - 1)) _ _ (λ e. tt) (λ e. tt)

  address_says : (trail : Trail) (status : Status) (entry : ℕ) (test : Bool) → SaysInRead asked (address_seen trail status entry test)
  address_says trail status entry test = either_way (SaysInRead asked) test _ _ (λ e. tt) (λ e. next_entry_says trail status entry)

  resumed_says : (after : AfterRead) → SaysInRead asked (resumed after)
  resumed_says Again = tt
  resumed_says (Answer value) = tt

  read_says : (address : ℕ) (point : ReadPoint) (observation : Observation) → SaysInRead asked point → SaysInRead asked (goes_read address point observation)
  read_says address look.ReadDoor (SawDoor door) says = either_way (SaysInRead asked) door.fault _ _ (λ e. tt) (λ e. tt)
  read_says address look.ReadWord (SawWord word) says = word_seen_says word
  read_says address (look.ReadRow worker attempt) (SawRow row) says = tt
  read_says address (look.ConfirmWord trail) (SawWord word) says = either_way (SaysInRead asked) (same_word word (word_of trail)) _ _ (λ e. tt) (λ e. tt)
  read_says address (look.ReadGate trail) (SawGate gate) says = pinning_says trail gate
  read_says address (look.Pin trail from to) Won says = tt
  read_says address (look.Pin trail from to) Lost says = tt
  read_says address (look.ReadStatus trail) (SawStatus status) says = first_entry_says trail status
  read_says address (look.FindEntry trail status entry) (SawNumber number) says = address_says trail status entry (number == address)
  read_says address (look.ReadExpected trail status entry) (SawNumber expected) says = tt
  read_says address (look.ReadNew trail status entry expected) (SawNumber new) says = tt
  read_says address (look.RecheckWord trail status expected new) (SawWord word) says = tt
  read_says address (look.Unpin slot seq after) (SawGate gate) says = either_way (SaysInRead asked) (gate.pins == 1) _ _ (λ e. tt) (λ e. resumed_says after)
  read_says address (look.FreeSlot slot seq after) Won says = tt
  read_says address (look.LowerDoor after) (SawDoor door) says = resumed_says after
  read_says address point observation says = says

-- The same for a read that was told these observations.
after_says : (asked tenant address : ℕ) (observation : List Observation) → SaysInRead asked (after (first_of_read tenant address) observation).point
after_says asked tenant address [] = tt
after_says asked tenant address (latest ∷ earlier) =
    let before = after (first_of_read tenant address) earlier in
    read_says asked before.address before.point latest (after_says asked tenant address earlier)

-- A request begins on its way.
pub first_way : (tenant : ℕ) (job : Job) → IsOnItsWay job (first_point tenant job)
first_way tenant (Get address) = tt
first_way tenant (Cas entries) = tt

-- a fact of every reply that a request may have is a fact of the one it has
if_some : (found : Option Reply) (P : Reply → Type 0) → ((reply : Reply) → found ≡ Some reply → P reply) → IfSome found P
if_some None P so = tt
if_some (Some reply) P so = so reply refl

abbrev IsChange : Job → Type 0
IsChange (Get address) = ⊥
IsChange (Cas entries) = Unit {0}

-- The reply to a change is one that it can have, because it is right at its place.
change_can : (now : View) (token : WorkerToken) (tenant : ℕ) (job : Job) (reply : Reply) (place : ℕ) → IsChange job → IsFinished now (finished_as token tenant job reply place) → IsReplyTo job reply
change_can now token tenant (Get address) reply place change finished = absurd change
change_can now token tenant (Cas entries) (Val value) place change finished = absurd (let reads = finished.right.reads in cc)
change_can now token tenant (Cas entries) Yes place change finished = tt
change_can now token tenant (Cas entries) (No at value) place change finished =
    let right = finished.right in
    let here = right.is_entry in
    let below = slice_get_within entries.items right.index right.entry here in (
      right.index,
      right.entry,
      below,
      same_Some (get_or entries.items right.index right.entry) right.entry (sym (slice_get-get_or entries.items right.index right.entry below) ∙ here),
      record { address = sym right.same_address; other = right.differs },
    )
change_can now token tenant (Cas entries) Busy place change finished = tt
change_can now token tenant (Cas entries) Fault place change finished = tt
change_can now token tenant (Cas entries) Worn place change finished = tt

-- A request stays on its way, whatever it is told, if a change that then has its reply has one that it can have.
goes_way : (actor : ActorState) (next : ℕ) (job : Job) (point : Point) (observation : Observation) → IsOnItsWay job point
    → (IsChange job → (reply : Reply) → reply_at (goes actor next point observation) ≡ Some reply → IsReplyTo job reply) → IsOnItsWay job (goes actor next point observation)
goes_way actor next (Get address) (Read reading) observation way can = read_says address reading.address reading.point observation way
goes_way actor next (Get address) point observation way can = absurd way
goes_way actor next (Cas entries) point observation way can = if_some (reply_at (goes actor next point observation)) (IsReplyTo (Cas entries)) (can tt)

-- a change that has its reply has one that it can have
abbrev ChangeCan : ActorState → Type 0
ChangeCan actor = IsChange actor.job → (reply : Reply) → replied actor ≡ Some reply → IsReplyTo actor.job reply

told_way : (actor next : ActorState) (observation : Observation) (attempt : ℕ) → next ≡ tells actor observation attempt → ChangeCan next → IsOnItsWay actor.job actor.point → IsOnItsWay next.job next.point
told_way actor next observation attempt is can way =
    subst (λ (one : ActorState). IsOnItsWay one.job one.point) (sym is) (goes_way actor attempt actor.job actor.point observation way (subst (λ (one : ActorState). ChangeCan one) is can))

same_way : (actor next : ActorState) → next ≡ actor → IsOnItsWay actor.job actor.point → IsOnItsWay next.job next.point
same_way actor next same way = subst (λ (one : ActorState). IsOnItsWay one.job one.point) (sym same) way

-- so has a request that was served
served_can : (first now : View) (actor : ActorState) → IsInProgress first now actor → ChangeCan actor
served_can first now actor served change reply is =
    let answered = calls_end first now served.token actor reply served.serves is in
    change_can now served.token actor.tenant actor.job reply answered.place change
    (each_last (IsFinished now) first.mine (finished_as served.token actor.tenant actor.job reply answered.place) (subst (Each (IsFinished now)) answered.noted served.serves.right.mine))

-- so has a request that its pass carried when it made the step
stepped_can : (old new : Pass) (actor next : ActorState) → IsCarried old actor → replied actor ≡ None → StepsOnce old new actor next → ChangeCan next
stepped_can old new actor next carried running once change reply is =
    let token = carried.token in
    let mine : WorkerToken = record token { actor = Some actor } in
    let got = once.got in
    let after : WorkerToken = stepped got mine actor in
    let told : ActorState = actor_after got token.attempt actor in
    let had : old.seat.me.0.tokens ≡ mine ∷ [] = carried.carries.only ∙ ap (λ (found : Option Reply). settled_as token actor found ∷ []) running in
    let only : new.seat.me.0.tokens ≡ settled after told ∷ [] = once.took.token ∙ ap (map (told_by got)) had in
    let same : told ≡ next = ap (tells actor (observation_of (place (asks actor)) got)) (attempt_now new after told only) ∙ sym once.told in
    let noted = subst (λ (found : Option Reply). AddsFinishedIf after actor.tenant token.begun actor.job found old.seat.me.0.mine new.seat.me.0.mine) (ap replied same ∙ is) (once.took.ends mine actor had refl) in
    let right = each_last (IsFinished new.seat.me.0) old.seat.me.0.mine (finished_as after actor.tenant actor.job reply noted.place)
    (subst (Each (IsFinished new.seat.me.0)) noted.noted once.took.right.mine) in
    let same_job = ap (λ (one : ActorState). one.job) same in
    change_can new.seat.me.0 after actor.tenant next.job reply noted.place change
    (subst (λ (job : Job). IsFinished new.seat.me.0 (finished_as after actor.tenant job reply noted.place)) same_job right)

-- a request stays on its way over its first step
pub begins_way : (old new : Pass) (actor next : ActorState) → Begins old new actor next → IsInProgress old.seat.me.0 new.seat.me.0 next → IsOnItsWay actor.job actor.point → IsOnItsWay next.job next.point
begins_way old new actor next begins served way = told_way actor next _ new.attempt begins.told (served_can old.seat.me.0 new.seat.me.0 next served) way

ends_way : (old new : Pass) (actor next : ActorState) (result : Advance) (reply : Option Reply) (called : Option Called) → replied actor ≡ reply → IsCarried old actor
    → Ends old new actor next result reply called → IsOnItsWay actor.job actor.point → IsOnItsWay next.job next.point
ends_way old new actor next result (Some reply) called is carried ends way = same_way actor next ends.1.same_request way
ends_way old new actor next result None (Some call) is carried ends way = same_way actor next ends.1.same_request way
ends_way old new actor next result None None is carried ends way = told_way actor next _ new.attempt ends.1.told (stepped_can old new actor next carried is ends.1) way

-- over a step
pub advanced_way : (old new : Pass) (actor next : ActorState) (result : Advance) → IsCarried old actor → Advances old new actor next result → IsOnItsWay actor.job actor.point
    → IsOnItsWay next.job next.point
advanced_way old new actor next result carried advances way = ends_way old new actor next result (replied actor) (called_at actor.point) refl carried advances way

-- over a call on its file, after which it has no reply yet
pub file_way : {D : Type 0} (facts : D → Facts) (identity : Identity) (old new : Pass) (actor next : ActorState) → FilesOne facts identity old new actor next → IsOnItsWay actor.job actor.point → IsOnItsWay next.job next.point
file_way facts identity old new actor next files way =
    let once = files.once in
    let silent = ap replied once.told ∙ (requests_go_on_from_calls actor once.called once.comes_to).onward (went_well once.end) new.attempt in
    told_way actor next _ new.attempt once.told (λ change reply is. absurd (none-some reply (sym silent ∙ is))) way

-- The reply is one that the job can have.
read_can : (address : ℕ) (point : ReadPoint) (reply : Reply) → SaysInRead address point → reply_of_read point ≡ Some reply → IsReplyTo (Get address) reply
read_can address (look.Replied found) reply says is = subst (IsReplyTo (Get address)) (same_Some found reply is) says
read_can address point reply says is = absurd (none-some reply is)

pub look_can : (old new : Pass) (actor next : ActorState) (result : Result Reply WhyAgain) (asked : ℕ) → Looks old new actor next result → IfOk result (IsReplyTo (Get asked))
look_can old new actor next (Ok reply) asked looks =
    read_can asked (after (first_of_read actor.tenant looks.address) looks.observation).point reply (after_says asked actor.tenant looks.address looks.observation) (ap replied (sym looks.next_is) ∙ looks.ends)
look_can old new actor next (Err why) asked looks = tt

can_have : (job : Job) (point : Point) (reply : Reply) → IsOnItsWay job point → reply_at point ≡ Some reply → IsReplyTo job reply
can_have (Get address) (Read reading) reply way is = read_can address reading.point reply way is
can_have (Get address) point reply way is = absurd way
can_have (Cas entries) point reply way is = subst (λ (found : Option Reply). IfSome found (IsReplyTo (Cas entries))) is way

pub way_can : (actor : ActorState) → IsOnItsWay actor.job actor.point → IfSome (replied actor) (IsReplyTo actor.job)
way_can actor way = if_some (replied actor) (IsReplyTo actor.job) (λ reply is. can_have actor.job actor.point reply way is)

pub reply_can : (actor : ActorState) (job : Job) (reply : Reply) → actor.job ≡ job → IsOnItsWay actor.job actor.point → replied actor ≡ Some reply → IsReplyTo job reply
reply_can actor job reply same way is = can_have job actor.point reply (subst (λ (one : Job). IsOnItsWay one actor.point) same way) is

-- the reply that was found is the request's reply
pub says_so : (result found : Option Reply) → result ≡ found → IfSome result (λ reply. found ≡ Some reply)
says_so None found is = tt
says_so (Some reply) found is = sym is
