-- Defines when a file token is true in a world, and states that others' events leave it true. Used by: src/call_laws.rt.
use Rattle.std.specs.Prelude.{ℕ, ◌≡◌, not, true, false, List, length, Some}
use Rattle.mw_actor.specs.ActorState.{ActorState, own_entries}
use Rattle.mw_world.specs.Files.State.{entries_at}
use Rattle.mw_world.specs.declared.config.Config.{Config}
use Rattle.mw_world.specs.Claim.Headline.{IsExecution}
use Rattle.mw_world.specs.Definition.Calls.{Called, breaks, doubt_of, fails_on, goes_well, place_for, starts_from}
use Rattle.mw_world.specs.Definition.Events.{WorldEvent}
use Rattle.mw_world.specs.Definition.State.{State, TenantStart, world_at}
use Rattle.mw_world.specs.Definition.Turns.{Made, moved}
use Rattle.mw_world.specs.Definition.World.{run, step}
use Rattle.mw_rule.specs.declared.file_token.FileToken.{FileToken}
use Rattle.mw_rule.specs.Calls.OtherEvents.{AreBesideFile, IsBesideFile}
use Rattle.mw_rule.specs.Calls.FileTokens.{TellsCall, TellsFile, file_told, file_token_broken, file_token_filed, file_token_of, file_token_opened}
use Rattle.mw_rule.specs.Calls.CallStarts.{CanStart, IsAtCall}

-- The token is true of its tenant's file: of as many places as the tenant's quota, and of the place of the change of
-- each slot of the pool.
abbrev pub HasFileToken : Config → State → FileToken → Type 0
HasFileToken config state file_token = TellsFile (state.tenant_states file_token.tenant).quota config.pool file_token (state.tenant_states file_token.tenant).file

-- At a start, the token from what the start gave a tenant is true of its file.
abbrev pub StartsHaveFileTokens : Type 0
StartsHaveFileTokens = (config : Config) (openings : ℕ → TenantStart) (tenant : ℕ)
    → HasFileToken config (world_at config openings) (file_token_opened tenant (openings tenant).quota config.pool (openings tenant).words (not (openings tenant).is_up))

-- In any world each file has a token.
abbrev pub EachFileHasAToken : Type 0
EachFileHasAToken = (config : Config) (state : State) (tenant : ℕ) → HasFileToken config state (file_token_of tenant (state.tenant_states tenant).quota config.pool (state.tenant_states tenant).file)

-- An event that is no start and no call on the file leaves its token true.
abbrev pub FileTokensStay : Type 0
FileTokensStay = (config : Config) (state next : State) (event : WorldEvent) (file_token : FileToken) → IsBesideFile state file_token.tenant event → step config state event ≡ Some next → HasFileToken config state file_token
    → HasFileToken config next file_token

-- So do any number of such events.
abbrev pub FileTokensStayLong : Type 0
FileTokensStayLong = (config : Config) (events : List WorldEvent) (state last : State) (file_token : FileToken) → AreBesideFile config file_token.tenant state events → run config state events ≡ Some last
    → HasFileToken config state file_token → HasFileToken config last file_token

-- A call's event that leaves its tenant's file as it was leaves every token true.
abbrev pub FileTokensStayOverCalls : Type 0
FileTokensStayOverCalls = (config : Config) (state : State) (worker : ℕ) (actor : ActorState) (made : Made) (file_token : FileToken) → made.file ≡ (state.tenant_states actor.tenant).file → HasFileToken config state file_token
    → HasFileToken config (moved state worker actor made) file_token

-- the place of a call, by the token
abbrev pub place_by : FileToken → Called → ℕ
place_by file_token called = place_for called.call (file_told file_token) (length file_token.places) called.change.slot

-- the token after a request's call that went well
abbrev pub file_token_after : FileToken → ActorState → Called → FileToken
file_token_after file_token actor called = file_token_filed called.call file_token called.change.slot (place_by file_token called) (own_entries actor)

-- the token after a request's call in which the device failed
abbrev pub file_token_after_fault : FileToken → Called → FileToken
file_token_after_fault file_token called = file_token_broken file_token (doubt_of called.call (entries_at (file_told file_token) (place_by file_token called)))

-- What the token tells of this call is true of the tenant's file.
abbrev pub TellsOfCall : Config → State → ActorState → Called → FileToken → Type 0
TellsOfCall config state actor called file_token = TellsCall (length file_token.places) called.change.slot called.call (own_entries actor) (file_told file_token) (state.tenant_states actor.tenant).file

-- After every run, whoever has the token of the file of a request at a call knows what is true of the call: whether
-- it fails because the file had failed, and its place.
abbrev pub FileTokensTellOfCalls : Type 0
FileTokensTellOfCalls = (config : Config) (openings : ℕ → TenantStart) (events : List WorldEvent) (state : State) (worker : ℕ) (actor : ActorState) (called : Called) (file_token : FileToken)
    → IsExecution config openings events state → IsAtCall state worker actor called → file_token.tenant ≡ actor.tenant → HasFileToken config state file_token → TellsOfCall config state actor called file_token

-- The call can be made on the file that the token tells. After it, whether it went well or met a fault, the token
-- after it is true of the file.
pub record IsCallByFileToken (config : Config) (state : State) (worker : ℕ) (actor : ActorState) (called : Called) (file_token : FileToken) : Type 0 where
  pub can : CanStart config actor called (file_told file_token) (length file_token.places)
  pub well : HasFileToken config (moved state worker actor (goes_well state actor called.change (state.tenant_states actor.tenant).file called.call (state.cells.statuses called.change.slot)
      (place_for called.call (state.tenant_states actor.tenant).file (state.tenant_states actor.tenant).quota called.change.slot)))
      (file_token_after file_token actor called)
  pub fault : HasFileToken config (moved state worker actor (breaks state actor called.change (state.tenant_states actor.tenant).file called.call
      (place_for called.call (state.tenant_states actor.tenant).file (state.tenant_states actor.tenant).quota called.change.slot)))
      (file_token_after_fault file_token called)

-- After every run that is so of a call that starts and doesn't fail because the file had failed.
abbrev pub CallsAreMadeByFileToken : Type 0
CallsAreMadeByFileToken = (config : Config) (openings : ℕ → TenantStart) (events : List WorldEvent) (state : State) (worker : ℕ) (actor : ActorState) (called : Called) (file_token : FileToken)
    → IsExecution config openings events state → IsAtCall state worker actor called → starts_from called.call (state.cells.statuses called.change.slot) ≡ true
    → file_token.tenant ≡ actor.tenant → HasFileToken config state file_token → fails_on called.call (file_told file_token) ≡ false → IsCallByFileToken config state worker actor called file_token
