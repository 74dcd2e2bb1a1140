-- What a played schedule printed is the text of its run, and the replies are those of the tenants' stores alone.
-- Used by: play_on, replay.
use Rattle.std.specs.Prelude.{ℕ, ◌≡◌, ◌≢◌, ◌<◌, ◌++◌, Bool, List, [], Option, Some, None, Result, Ok, Err, OnOk}
use Rattle.std.specs.Io.KnownBytes.{Appends, Keeps}
use Rattle.std.proofs.Common.{inl, inr, refl, sym, ap, subst, ◌∙◌, append-nil, arith}
use Rattle.mw_world.specs.declared.config.Config.{Config}
use Rattle.mw_world.specs.Claim.Headline.{IsExecution, IsRun, IsDurablyLinearizable}
use Rattle.mw_world.specs.Definition.State.{first_openings, new_world, tenants_of}
use Rattle.mw_world.specs.Definition.World.{run}
use Rattle.mw_world.proofs.FirstInvariant.{new_worlds_start}
use Rattle.mw_simulator.specs.declared.world.World.{World}
use Rattle.mw_simulator.specs.Events.{IsAfterRun}
use Rattle.mw_simulator.proofs.ServiceAloneLaws.{serves}
use Rattle.mw_schedule.specs.declared.schedule.Schedule.{Schedule}
use Rattle.mw_schedule.specs.declared.schedule.ScheduleLine.{ScheduleLine}
use Rattle.mw_schedule.specs.Playable.{IsSchedule}
use Rattle.mwreplay.specs.declared.player.PlayFault.{PlayFault}
use Rattle.mwreplay.specs.declared.player.PlayFault.TheVariants as halt
use Rattle.mwreplay.specs.declared.player.Player.{Player}
use Rattle.mwreplay.specs.declared.reasons.Reason.{Reason}
use Rattle.mwreplay.specs.declared.program.ReplayFault.{ReplayFault}
use Rattle.mwreplay.specs.declared.program.ReplayFault.TheVariants as fault
use Rattle.mwreplay.specs.PlayerSteps.{GoesOn, IsRest, IsSame, ObeysAll, Plays}
use Rattle.mwreplay.specs.Printed.{text_of, told_in}
use Rattle.mwreplay.specs.Replayed.{MayPrint, Printed, PrintsAll, Replays, fault_at, status_of}
use Rattle.mwreplay.proofs.PrintedRuns.{replies_told}
use Rattle.mwreplay.proofs.WrittenText.{appends_then, keeps_appends}

-- A world on which the lines of a schedule were played, with what was written to the output.
pub printed : (claims : Bool) (config : Config) (a b c : Option (List ℕ)) (world : World) (schedule : Schedule) (result : Result (Unit {0}) PlayFault) (status : ℕ)
    → IsSchedule schedule → config ≡ schedule.config → world.config ≡ schedule.config → (status ≡ 0 → (P : Type 0) → OnOk result P → P)
    → (status ≢ 1 → (rest : List ℕ) → IsRest result rest → rest ≡ []) → Keeps b c
    → GoesOn claims config a b world [] (ObeysAll schedule.lines.items) result → Printed claims schedule a c status
printed claims config a b c world schedule result status is_schedule same same_world ended whole keeps goes =
    let runs : run schedule.config (new_world schedule.config) goes.more ≡ Some goes.stands.state =
    subst (λ (one : Config). run one (new_world one) goes.more ≡ Some goes.stands.state) same_world goes.stands.runs in
    let played : IsExecution schedule.config (first_openings schedule.config) goes.more goes.stands.state =
    record { made = is_schedule.config; starts = new_worlds_start schedule.config is_schedule.config; runs = runs } in
    record {
      happened = goes.more;
      state = goes.stands.state;
      played = played;
      events = goes.events;
      tell = goes.tell;
      obeys = λ ok. ended ok (ObeysAll schedule.lines.items goes.events) goes.are;
      sent = goes.writes.sent;
      rest = goes.writes.rest;
      text = subst (λ (one : Config). text_of one (told_in claims one goes.more) ≡ goes.writes.sent ++ goes.writes.rest) same
          (ap (text_of config) goes.are_told ∙ goes.writes.whole);
      whole = λ other. whole other goes.writes.rest goes.writes.is_rest;
      wrote = subst (λ l. Appends a c l) (append-nil goes.writes.sent) (appends_then a b c goes.writes.sent [] goes.writes.wrote (keeps_appends b c keeps));
      handed = λ tenant. replies_told claims schedule.config tenant (new_world schedule.config) goes.more;
      alone = subst (λ (one : Config). (tenant : ℕ) → tenant < tenants_of one → IsRun one (first_openings one) goes.more goes.stands.state
          → IsDurablyLinearizable one (first_openings one) goes.more goes.stands.state tenant) same_world
          (λ tenant low is_run. (serves world goes.more goes.stands tenant is_run.numbers low).alone);
    }

pub keeps_same : (a : Option (List ℕ)) → Keeps a a
keeps_same None = tt
keeps_same (Some xs) = refl

-- no fault has the status 0
pub no_good_fault : (one : ReplayFault) → status_of one ≢ 0
no_good_fault (fault.CannotRead error) is = omega (arith, is)
no_good_fault fault.NotPlain is = omega (arith, is)
no_good_fault fault.Memory is = omega (arith, is)
no_good_fault (fault.Wrong number reason) is = omega (arith, is)
no_good_fault (fault.NotEnabled number reason) is = omega (arith, is)
no_good_fault (fault.LastNumber number) is = omega (arith, is)
no_good_fault (fault.DidNotArrive number reason) is = omega (arith, is)
no_good_fault fault.Output is = omega (arith, is)

-- after a line that wasn't played nothing is left to write, except at status 1
halted_whole : (number : ℕ) (one : PlayFault) (reason : Reason) → status_of (fault_at number one reason) ≢ 1 → (rest : List ℕ) → IsRest (Err one) rest → rest ≡ []
halted_whole number halt.NotEnabled reason other rest is = is
halted_whole number halt.LastNumber reason other rest is = is
halted_whole number halt.DidNotArrive reason other rest is = is
halted_whole number halt.Memory reason other rest is = is
halted_whole number halt.Output reason other rest is = absurd (other refl)

-- The lines of a schedule were played on a new world.
printed_so : (old new : Player) (a b c : Option (List ℕ)) (schedule : Schedule) (lines : List ScheduleLine) (result : Result (Unit {0}) PlayFault) (status : ℕ)
    → (status ≡ 0 → (P : Type 0) → OnOk result P → P) → (status ≢ 1 → (rest : List ℕ) → IsRest result rest → rest ≡ [])
    → IsSame old new → Plays old new a b (ObeysAll lines) result → Keeps b c
    → IsSchedule schedule → lines ≡ schedule.lines.items → old.world.config ≡ schedule.config → IsAfterRun old.world [] → Printed old.tells_claims schedule a c status
printed_so old new a b c schedule lines result status ended whole same plays keeps is_schedule same_lines same_config stands =
    printed old.tells_claims old.world.config a b c new.world schedule result status is_schedule same_config (same.config ∙ same_config) ended whole keeps
    (subst (λ all. GoesOn old.tells_claims old.world.config a b new.world [] (ObeysAll all) result) same_lines (plays [] stands))

-- They were played to their end, whatever the output did after that.
pub prints_whole : (old new : Player) (a b c : Option (List ℕ)) (lines : List ScheduleLine) (x : Unit {0}) (status : ℕ)
    → IsSame old new → Plays old new a b (ObeysAll lines) (Ok x) → Keeps b c → PrintsAll old lines a c status
prints_whole old new a b c lines x status same plays keeps schedule =
    printed_so old new a b c schedule lines (Ok x) status (λ good P is. is) (λ other rest is. is) same plays keeps

-- They were played up to a line with this number.
pub prints_halted : (old new : Player) (a b : Option (List ℕ)) (lines : List ScheduleLine) (number : ℕ) (one : PlayFault) (reason : Reason) (told : ReplayFault)
    → told ≡ fault_at number one reason → IsSame old new → Plays old new a b (ObeysAll lines) (Err one) → PrintsAll old lines a b (status_of told)
prints_halted old new a b lines number one reason told is same plays schedule is_schedule same_lines same_config stands =
    subst (λ (other : ReplayFault). Printed old.tells_claims schedule a b (status_of other)) (sym is)
    (printed_so old new a b b schedule lines (Err one) (status_of (fault_at number one reason)) (λ good. absurd (no_good_fault (fault_at number one reason) good))
    (halted_whole number one reason) same plays (keeps_same b) is_schedule same_lines same_config stands)

-- So some schedule was played, or none.
pub may_print : (claims : Bool) (schedule : Schedule) (a b : Option (List ℕ)) (status : ℕ) → IsSchedule schedule → MayPrint claims schedule a b status → Replays claims a b status
may_print claims schedule a b status is_schedule (inl is) = inl (schedule, is_schedule, is)
may_print claims schedule a b status is_schedule (inr none) = inr none
