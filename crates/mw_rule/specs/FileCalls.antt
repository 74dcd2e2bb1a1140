-- Defines what a call on a tenant's file requires of the thread that makes it, and what the thread learns.
-- Used by: mw_table, mw_law_threads.
use Rattle.std.specs.Prelude.{ℕ, ◌≡◌, ◌<◌, Bool, true, false, [], ◌∷◌, ◌++◌, map, Option, Some, None}
use Rattle.mw_words.specs.declared.places.At.TheVariants.{Status as AtStatus}
use Rattle.mw_words.specs.declared.statuses.Status.{Status}
use Rattle.mw_words.specs.Patterns.{IsStatusInRange, unpacked_status}
use Rattle.mw_look.specs.declared.observations.Got.TheVariants.{File as GotFile}
use Rattle.mw_look.specs.declared.observations.Observation.TheVariants.{Filed}
use Rattle.mw_look.specs.Places.{pack}
use Rattle.mw_look.specs.Steps.{op_of}
use Rattle.mw_actor.specs.ActorState.{ActorState, own_entries}
use Rattle.mw_actor.specs.Asks.{asks}
use Rattle.mw_actor.specs.Program.{tells}
use Rattle.mw_world.specs.Files.State.{entries_at}
use Rattle.mw_world.specs.Definition.Calls.{Called as CallOn, called_at, can_be_made, doubt_of, fails_on, place_for, starts_from}
use Rattle.mw_rule.specs.declared.file_token.FileToken.{FileToken}
use Rattle.mw_rule.specs.Calls.FileTokens.{file_told, file_token_broken, file_token_filed}
use Rattle.mw_rule.specs.declared.views.WorkerEvent.TheVariants.{Called}
use Rattle.mw_rule.specs.declared.views.HeldFile.{HeldFile}
use Rattle.mw_rule.specs.declared.views.WorkerToken.{WorkerToken}
use Rattle.mw_rule.specs.declared.views.View.{View}
use Rattle.mw_rule.specs.KnownRuns.{ExtendsKnownRun}
use Rattle.mw_rule.specs.Steps.{ExtendsWithLearned, HasToken, IsReady}
use Rattle.mw_rule.specs.Rule.{Each, IsRight}
use Rattle.mw_rule.specs.Prefixes.{opening_at}

-- the token after its worker's call was made, and its request was told whether it went well
abbrev pub after_call : Bool → WorkerToken → ActorState → WorkerToken
after_call went_well token actor = record token {
  actor = Some (tells actor (Filed went_well) token.attempt);
  made = token.made ++ Called ∷ [];
  found = token.found ++ record { op = op_of (asks actor); got = GotFile went_well } ∷ [];
}

-- the same for the worker's request, if it has one
abbrev pub went_as : Bool → WorkerToken → Option ActorState → WorkerToken
went_as went_well token None = token
went_as went_well token (Some actor) = after_call went_well token actor

-- the token after the call of its worker was made
abbrev pub went : Bool → WorkerToken → WorkerToken
went went_well token = went_as went_well token token.actor

-- The thread carries this request for the worker, and the request is at this call. The thread has one file: its tenant's.
pub record Calls (view : View) (worker : ℕ) (actor : ActorState) (called : CallOn) (held : HeldFile) : Type 0 where
  pub token : WorkerToken
  pub has : HasToken view worker token
  pub carries : token.actor ≡ Some actor
  pub comes_to : called_at actor.point ≡ Some called
  pub only : view.files ≡ held ∷ []
  pub its : held.file.tenant ≡ actor.tenant

-- Facts of a call, by what the thread knows of the file.
module _ (view : View) (called : CallOn) (held : HeldFile) where
  -- how many places the tenant may use: its quota
  abbrev pub places_held : ℕ
  places_held = (opening_at view.openings held.file.tenant).quota

  -- the place that the call is about
  abbrev pub place_held : ℕ
  place_held = place_for called.call (file_told held.file) (opening_at view.openings held.file.tenant).quota called.change.slot

  -- whether the call fails because the file had failed before
  abbrev pub fails : Bool
  fails = fails_on called.call (file_told held.file)

-- What each step of a call leaves: what was seen may only grow, and no request is finished.
pub record LeavesRest (old new : View) : Type 0 where
  pub goes_on : ExtendsWithLearned old new
  pub right : IsRight new
  pub same_mine : new.mine ≡ old.mine

-- The call starts from this status, which is in range. The thread keeps it in mind, and nothing else has happened.
-- The run that it knows extends the one that it was told with the file. If the file has not failed, the call can be made.
pub record Starts (worker : ℕ) (actor : ActorState) (called : CallOn) (held : HeldFile) (status : Status) (old new : View) : Type 0 where
  pub files : LeavesRest old new
  pub learned_run : ExtendsKnownRun old.learned_run new.known_run
  pub in_range : IsStatusInRange status
  pub same_token : new.tokens ≡ old.tokens
  pub keeps : new.files ≡ record held { found = Some (record { worker = worker; status = status }) } ∷ []
  pub within : fails old called held ≡ false → place_held old called held < places_held old called held
  pub can : fails old called held ≡ false → can_be_made called.call (file_told held.file) (places_held old called held) (place_held old called held) (own_entries actor) ≡ true

-- The call was made, and this is what the thread knows of the file now. The request was told whether it went well,
-- and the words of its next step or call are there.
pub record LearnsFileCall (went_well : Bool) (held : HeldFile) (after : FileToken) (old new : View) : Type 0 where
  pub files : LeavesRest old new
  pub token : new.tokens ≡ map (went went_well) old.tokens
  pub ready : Each (IsReady new.config) new.tokens
  pub keeps : new.files ≡ record held { file = after; found = None } ∷ []

-- A load of the status of the call's change. If the call doesn't start from the status, this load is the whole call,
-- and it does nothing.
abbrev pub LoadedAs : Bool → (worker : ℕ) (actor : ActorState) (called : CallOn) (held : HeldFile) (status : Status) (old new : View) → Type 0
LoadedAs true worker actor called held status old new = Starts worker actor called held status old new
LoadedAs false worker actor called held status old new = LearnsFileCall true held held.file old new

-- The same, by the bits that were found: they are those of a status.
pub record Loaded (worker : ℕ) (actor : ActorState) (called : CallOn) (held : HeldFile) (bits : ℕ) (old new : View) : Type 0 where
  pub status : Status
  pub is : bits ≡ pack (AtStatus called.change.slot) status
  pub read : unpacked_status bits ≡ Some status
  pub loaded : LoadedAs (starts_from called.call status) worker actor called held status old new

-- what is known of the file after a call that went well
abbrev pub filed_so : View → ActorState → CallOn → HeldFile → FileToken
filed_so view actor called held = file_token_filed called.call held.file called.change.slot (place_held view called held) (own_entries actor)

-- what is known of the file after a call in which the device failed
abbrev pub broken_so : View → CallOn → HeldFile → FileToken
broken_so view called held = file_token_broken held.file (doubt_of called.call (entries_at (file_told held.file) (place_held view called held)))
