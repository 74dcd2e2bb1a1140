-- Each event, step and line that a player plays extends its run by its events, and writes what they print.
-- Used by: Player::happen, go_before, go, go_to, go_to_end, among others.
use Rattle.std.specs.Prelude.{ℕ, ◌≡◌, ◌++◌, Bool, List, [], ◌∷◌, Option, Result, Ok, Err, OnOk}
use Rattle.std.proofs.Common.{refl, sym, ap, subst, ◌∙◌, append_assoc, append-nil}
use Rattle.mw_world.specs.declared.config.Config.{Config}
use Rattle.mw_world.specs.declared.events.Event.{Event}
use Rattle.mw_world.specs.declared.events.Event.TheVariants.{Come, Step, File, Hand, Restart}
use Rattle.mw_world.specs.Definition.Events.{WorldEvent}
use Rattle.mw_world.specs.Definition.State.{new_world}
use Rattle.mw_simulator.specs.declared.world.World.{World}
use Rattle.mw_simulator.specs.Events.{AllTell, GoesOn as WorldGoesOn, IsAfterRun}
use Rattle.mw_schedule.specs.declared.schedule.Command.TheVariants.{End}
use Rattle.mw_schedule.specs.declared.schedule.ScheduleLine.{ScheduleLine}
use Rattle.mwreplay.specs.declared.player.PlayFault.{PlayFault}
use Rattle.mwreplay.specs.declared.player.Player.{Player}
use Rattle.mwreplay.specs.PlayerSteps.{GoesOn, IsSame, IsTextOf, Plays, Writes, AreTurns, IsTurn, Obeys, ObeysAll}
use Rattle.mwreplay.specs.Printed.{PrintedLine, line_of, text_of, told_in, told_of}
use Rattle.mwreplay.proofs.PrintedRuns.{told_last}
use Rattle.mwreplay.proofs.WrittenText.{no_rest, writes_nothing, writes_then}

if_ok : (result : Result (Unit {0}) PlayFault) (P : Type 0) → P → OnOk result P
if_ok (Ok x) P is = is
if_ok (Err halt) P is = tt

all_tell_then : (first rest : List Event) (one more : List WorldEvent) → AllTell first one → AllTell rest more → AllTell (first ++ rest) (one ++ more)
all_tell_then [] rest [] more told all = all
all_tell_then [] rest (world_event ∷ one) more told all = absurd told
all_tell_then (event ∷ first) rest [] more told all = absurd told
all_tell_then (event ∷ first) rest (world_event ∷ one) more told all = (told.0, all_tell_then first rest one more told.1 all)

text_of-append : (config : Config) (xs ys : List PrintedLine) → text_of config (xs ++ ys) ≡ text_of config xs ++ text_of config ys
text_of-append config [] ys = refl
text_of-append config (told ∷ xs) ys =
    ap (λ more. line_of config told ++ more) (text_of-append config xs ys) ∙ sym (append_assoc (line_of config told) (text_of config xs) (text_of config ys))

-- nothing has happened and nothing was written
pub goes_nowhere : (claims : Bool) (config : Config) (now : Option (List ℕ)) (world : World) (happened : List WorldEvent) (Are : List Event → Type 0)
    (result : Result (Unit {0}) PlayFault) → IsAfterRun world happened → OnOk result (Are []) → GoesOn claims config now now world happened Are result
goes_nowhere claims config now world happened Are result stands are = record {
  events = [];
  are = are;
  more = [];
  tell = tt;
  stands = subst (λ all. IsAfterRun world all) (sym (append-nil happened)) stands;
  told = [];
  are_told = ap (told_in claims config) (append-nil happened) ∙ sym (append-nil (told_in claims config happened));
  writes = writes_nothing now result;
}

-- a run that goes on by one list of events, and then by another, goes on by both
pub goes_then : (claims : Bool) (config : Config) (a b c : Option (List ℕ)) (middle world : World) (happened : List WorldEvent) (One Two Three : List Event → Type 0)
    (x : Unit {0}) (result : Result (Unit {0}) PlayFault) → ((first rest : List Event) → One first → OnOk result (Two rest) → OnOk result (Three (first ++ rest)))
    → GoesOn claims config a b middle happened One (Ok x)
    → ((before : List WorldEvent) → IsAfterRun middle before → GoesOn claims config b c world before Two result)
    → GoesOn claims config a c world happened Three result
goes_then claims config a b c middle world happened One Two Three x result both first on =
    let second = on (happened ++ first.more) first.stands in
    record {
      events = first.events ++ second.events;
      are = both first.events second.events first.are second.are;
      more = first.more ++ second.more;
      tell = all_tell_then first.events second.events first.more second.more first.tell second.tell;
      stands = subst (λ all. IsAfterRun world all) (append_assoc happened first.more second.more) second.stands;
      told = first.told ++ second.told;
      are_told = ap (told_in claims config) (sym (append_assoc happened first.more second.more)) ∙ second.are_told
          ∙ ap (λ told. told ++ second.told) first.are_told ∙ append_assoc (told_in claims config happened) first.told second.told;
      writes = subst (λ text. Writes a c text result) (sym (text_of-append config first.told second.told))
          (writes_then a b c (text_of config first.told) (text_of config second.told) x result first.writes second.writes);
    }

-- one event, with its text
pub goes_once : (claims : Bool) (old new : World) (a b : Option (List ℕ)) (happened : List WorldEvent) (event : Event) (text : List ℕ)
    (result : Result (Unit {0}) PlayFault) → IsTextOf claims old event text → IsAfterRun old happened → WorldGoesOn new happened (event ∷ []) → Writes a b text result
    → GoesOn claims old.config a b new happened (λ events. events ≡ event ∷ []) result
goes_once claims old new a b happened event text result says stands goes writes = of_one goes.more goes.tell goes.stands
  where
    of_one : (more : List WorldEvent) → AllTell (event ∷ []) more → IsAfterRun new (happened ++ more) → GoesOn claims old.config a b new happened (λ events. events ≡ event ∷ []) result
    of_one [] tell after = absurd tell
    of_one (first ∷ second ∷ more) tell after = absurd tell.1
    of_one (world_event ∷ []) tell after = record {
      events = event ∷ [];
      are = if_ok result (event ∷ [] ≡ event ∷ []) refl;
      more = world_event ∷ [];
      tell = tell;
      stands = after;
      told = told_of claims old.config stands.state world_event;
      are_told = told_last claims old.config (new_world old.config) stands.state happened world_event stands.runs;
      writes = subst (λ all. Writes a b all result) (says stands.state world_event stands.shows tell.0) writes;
    }

-- A player's configuration stays.
pub is_same : (player : Player) → IsSame player player
is_same player = record { config = refl; claims = refl }

pub same_then : (old middle new : Player) → IsSame old middle → IsSame middle new → IsSame old new
same_then old middle new first second = record { config = second.config ∙ first.config; claims = second.claims ∙ first.claims }

-- a player that does nothing plays no event
pub plays_nothing : (player : Player) (now : Option (List ℕ)) (Are : List Event → Type 0) (result : Result (Unit {0}) PlayFault) → OnOk result (Are [])
    → Plays player player now now Are result
plays_nothing player now Are result are happened stands = goes_nowhere player.tells_claims player.world.config now player.world happened Are result stands are

-- a player that plays one list of events, and then another, plays both
pub plays_then : (old middle new : Player) (a b c : Option (List ℕ)) (One Two Three : List Event → Type 0) (x : Unit {0}) (result : Result (Unit {0}) PlayFault)
    → ((first rest : List Event) → One first → OnOk result (Two rest) → OnOk result (Three (first ++ rest)))
    → IsSame old middle → Plays old middle a b One (Ok x) → Plays middle new b c Two result → Plays old new a c Three result
plays_then old middle new a b c One Two Three x result both same first second happened stands =
    goes_then old.tells_claims old.world.config a b c middle.world new.world happened One Two Three x result both (first happened stands)
    (λ before is. subst (λ claims. GoesOn claims old.world.config b c new.world before Two result) same.claims
    (subst (λ config. GoesOn middle.tells_claims config b c new.world before Two result) same.config (second before is)))

-- events as asked for are also as another test asks
pub plays_so : (old new : Player) (a b : Option (List ℕ)) (One Two : List Event → Type 0) (result : Result (Unit {0}) PlayFault)
    → ((events : List Event) → OnOk result (One events) → OnOk result (Two events)) → Plays old new a b One result → Plays old new a b Two result
plays_so old new a b One Two result so plays happened stands =
    let goes = plays happened stands in
    record {
      events = goes.events;
      are = so goes.events goes.are;
      more = goes.more;
      tell = goes.tell;
      stands = goes.stands;
      told = goes.told;
      are_told = goes.are_told;
      writes = goes.writes;
    }

-- events that happened stay happened, however the call ends
pub plays_ends : (old new : Player) (a b : Option (List ℕ)) (Are : List Event → Type 0) (x : Unit {0}) (result : Result (Unit {0}) PlayFault)
    → Plays old new a b Are (Ok x) → Plays old new a b Are result
plays_ends old new a b Are x result plays happened stands =
    let goes = plays happened stands in
    record {
      events = goes.events;
      are = if_ok result (Are goes.events) goes.are;
      more = goes.more;
      tell = goes.tell;
      stands = goes.stands;
      told = goes.told;
      are_told = goes.are_told;
      writes = record {
        sent = goes.writes.sent;
        rest = goes.writes.rest;
        whole = goes.writes.whole;
        is_rest = no_rest result goes.writes.rest goes.writes.is_rest;
        wrote = goes.writes.wrote;
      };
    }

turns-append : (worker : ℕ) (first rest : List Event) → AreTurns worker first → AreTurns worker rest → AreTurns worker (first ++ rest)
turns-append worker [] rest none more = more
turns-append worker (event ∷ first) rest one more = (one.0, turns-append worker first rest one.1 more)

pub turns_then : (worker : ℕ) (result : Result (Unit {0}) PlayFault) (first rest : List Event) → AreTurns worker first → OnOk result (AreTurns worker rest)
    → OnOk result (AreTurns worker (first ++ rest))
turns_then worker (Ok x) first rest one more = turns-append worker first rest one more
turns_then worker (Err halt) first rest one more = tt

-- steps of a worker, and then further steps of it, are steps of it
pub plays_turns : (old middle new : Player) (a b c : Option (List ℕ)) (worker : ℕ) (x : Unit {0}) (result : Result (Unit {0}) PlayFault)
    → IsSame old middle → Plays old middle a b (AreTurns worker) (Ok x) → Plays middle new b c (AreTurns worker) result → Plays old new a c (AreTurns worker) result
plays_turns old middle new a b c worker x result =
    plays_then old middle new a b c (AreTurns worker) (AreTurns worker) (AreTurns worker) x result (turns_then worker result)

-- an event without text
abbrev pub IsUntold : Event → Type 0
IsUntold (Come worker tenant job) = Unit {0}
IsUntold (Step worker) = ⊥
IsUntold (File worker outcome) = Unit {0}
IsUntold (Hand worker) = ⊥
IsUntold (Restart stops) = Unit {0}

pub untold : (claims : Bool) (world : World) (event : Event) → IsUntold event → IsTextOf claims world event []
untold claims world (Come worker tenant job) is state world_event shows tells = sym (ap (λ one. text_of world.config (told_of claims world.config state one)) tells)
untold claims world (Step worker) is state world_event shows tells = absurd is
untold claims world (File worker outcome) is state world_event shows tells = sym (ap (λ one. text_of world.config (told_of claims world.config state one)) tells)
untold claims world (Hand worker) is state world_event shows tells = absurd is
untold claims world (Restart stops) is state world_event shows tells = sym (ap (λ one. text_of world.config (told_of claims world.config state one)) tells.1)

-- an event that happened, and its text was written
pub plays_once : (old new : Player) (a b : Option (List ℕ)) (event : Event) (text : List ℕ) (result : Result (Unit {0}) PlayFault)
    → IsTextOf old.tells_claims old.world event text
    → ((happened : List WorldEvent) → IsAfterRun old.world happened → WorldGoesOn new.world happened (event ∷ []))
    → Writes a b text result → Plays old new a b (λ events. events ≡ event ∷ []) result
plays_once old new a b event text result says goes writes happened stands =
    goes_once old.tells_claims old.world new.world a b happened event text result says stands (goes happened stands) writes

-- an event that was refused adds no event and no text
pub plays_none : (old new : Player) (now : Option (List ℕ)) (Are : List Event → Type 0) (halt : PlayFault)
    → ((happened : List WorldEvent) → IsAfterRun old.world happened → IsAfterRun new.world happened) → Plays old new now now Are (Err halt)
plays_none old new now Are halt stays happened stands =
    goes_nowhere old.tells_claims old.world.config now new.world happened Are (Err halt) (stays happened stands) tt

-- if the player halted, nothing is said of which events were asked for
pub plays_halts : (old new : Player) (a b : Option (List ℕ)) (One Two : List Event → Type 0) (halt : PlayFault)
    → Plays old new a b One (Err halt) → Plays old new a b Two (Err halt)
plays_halts old new a b One Two halt = plays_so old new a b One Two (Err halt) (λ events one. tt)

step_is_turn : (worker : ℕ) (result : Result (Unit {0}) PlayFault) (events : List Event) → OnOk result (events ≡ Step worker ∷ []) → OnOk result (AreTurns worker events)
step_is_turn worker (Ok x) events is = subst (AreTurns worker) (sym is) (refl, tt)
step_is_turn worker (Err halt) events is = tt

-- a step is a step of the worker
pub plays_step : (old new : Player) (a b : Option (List ℕ)) (worker : ℕ) (result : Result (Unit {0}) PlayFault)
    → Plays old new a b (λ events. events ≡ Step worker ∷ []) result → Plays old new a b (AreTurns worker) result
plays_step old new a b worker result = plays_so old new a b (λ events. events ≡ Step worker ∷ []) (AreTurns worker) result (step_is_turn worker result)

call_is_turn : (worker : ℕ) (call : Event) (result : Result (Unit {0}) PlayFault) → IsTurn worker call → (events : List Event) → OnOk result (events ≡ call ∷ [])
    → OnOk result (AreTurns worker events)
call_is_turn worker call (Ok x) turn events is = subst (AreTurns worker) (sym is) (turn, tt)
call_is_turn worker call (Err halt) turn events is = tt

-- a call on the worker's file that goes well is a step of the worker
pub plays_call : (old new : Player) (a b : Option (List ℕ)) (worker : ℕ) (call : Event) (result : Result (Unit {0}) PlayFault)
    → Plays old new a b (λ events. events ≡ call ∷ []) result → IsTurn worker call → Plays old new a b (AreTurns worker) result
plays_call old new a b worker call result plays turn =
    plays_so old new a b (λ events. events ≡ call ∷ []) (AreTurns worker) result (call_is_turn worker call result turn) plays

ended : (worker : ℕ) (result : Result (Unit {0}) PlayFault) (first rest : List Event) → AreTurns worker first → OnOk result (rest ≡ Hand worker ∷ [])
    → OnOk result (Obeys (End worker) (first ++ rest))
ended worker (Ok x) first rest turns is = (first, turns, ap (λ l. first ++ l) is)
ended worker (Err halt) first rest turns is = tt

-- steps of a worker, and then its reply is handed out
pub plays_ended : (old middle new : Player) (a b c : Option (List ℕ)) (worker : ℕ) (x : Unit {0}) (result : Result (Unit {0}) PlayFault)
    → IsSame old middle → Plays old middle a b (AreTurns worker) (Ok x) → Plays middle new b c (λ events. events ≡ Hand worker ∷ []) result
    → Plays old new a c (Obeys (End worker)) result
plays_ended old middle new a b c worker x result =
    plays_then old middle new a b c (AreTurns worker) (λ events. events ≡ Hand worker ∷ []) (Obeys (End worker)) x result (ended worker result)

all_obeyed : (lines : List ScheduleLine) (line : ScheduleLine) (first rest : List Event) → ObeysAll lines first → Obeys line.command rest
    → ObeysAll (lines ++ line ∷ []) (first ++ rest)
all_obeyed [] line first rest none one = (rest, [], ap (λ l. l ++ rest) none ∙ sym (append-nil rest), one, refl)
all_obeyed (earlier ∷ lines) line first rest all one =
    (all.0, all.1 ++ rest, ap (λ l. l ++ rest) all.2 ∙ append_assoc all.0 all.1 rest, all.3, all_obeyed lines line all.1 rest all.4 one)

obeyed_so : (lines : List ScheduleLine) (line : ScheduleLine) (result : Result (Unit {0}) PlayFault) (first rest : List Event) → ObeysAll lines first
    → OnOk result (Obeys line.command rest) → OnOk result (ObeysAll (lines ++ line ∷ []) (first ++ rest))
obeyed_so lines line (Ok x) first rest all one = all_obeyed lines line first rest all one
obeyed_so lines line (Err halt) first rest all one = tt

-- one more line was played
pub plays_line : (old middle new : Player) (a b c : Option (List ℕ)) (lines : List ScheduleLine) (line : ScheduleLine) (x : Unit {0}) (result : Result (Unit {0}) PlayFault)
    → IsSame old middle → Plays old middle a b (ObeysAll lines) (Ok x) → Plays middle new b c (Obeys line.command) result
    → Plays old new a c (ObeysAll (lines ++ line ∷ [])) result
plays_line old middle new a b c lines line x result =
    plays_then old middle new a b c (ObeysAll lines) (Obeys line.command) (ObeysAll (lines ++ line ∷ [])) x result (obeyed_so lines line result)
