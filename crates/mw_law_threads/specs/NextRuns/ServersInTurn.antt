-- Defines that a tenant's marks of any number of servers, one after the other, are those of one store alone, with the starts
-- between them.
-- Used by: servers_in_turn_are_of_one_store (src/next_run_laws.rt).
use Rattle.std.specs.Prelude.{ℕ, ◌+◌, ◌≡◌, ◌<◌, ◌++◌, Bool, List, [], ◌∷◌, map, Option, Some}
use Rattle.mw_words.specs.declared.replies.Reply.{Reply}
use Rattle.mw_lone.specs.declared.marks.Mark.{Mark}
use Rattle.mw_lone.specs.declared.marks.Mark.TheVariants.{Restart}
use Rattle.mw_lone.specs.Store.{Store, replies_from, run}
use Rattle.mw_world.specs.declared.config.Config.{Config}
use Rattle.mw_world.specs.Claim.Headline.{IsRun}
use Rattle.mw_world.specs.Definition.Events.{WorldEvent}
use Rattle.mw_world.specs.Definition.State.{State, TenantStart, marks_of, store_at, store_of, tenants_of, world_at}
use Rattle.mw_world.specs.Definition.World.{replies_to}
use Rattle.mw_law_threads.specs.NextRuns.LaterStores.{IsLater, later_mark, later_reply}
use Rattle.mw_law_threads.specs.NextRuns.FoundAfter.{IsFoundAfter}

-- One server's run, and which of its tenants is meant: the server's configuration, what its start gave, its events, and its last world.
pub record ServerRun : Type 0 where
  pub config : Config
  pub openings : ℕ → TenantStart
  pub events : List WorldEvent
  pub state : State
  pub tenant : ℕ

-- It is a run of this server with numbers left, and the tenant is there.
pub record IsServerRun (one : ServerRun) : Type 0 where
  pub is : IsRun one.config one.openings one.events one.state
  pub there : one.tenant < tenants_of one.config

-- what the server's start gave the tenant
abbrev pub start_of : ServerRun → TenantStart
start_of one = one.openings one.tenant

-- how many requests of the tenant came to the server
abbrev pub asked_of : ServerRun → ℕ
asked_of one = (one.state.tenant_states one.tenant).asked

-- The servers ran one after the other. Each start found of the tenant's file what the stop before it may have left.
abbrev pub RunInTurn : ServerRun → List ServerRun → Type 0
RunInTurn one [] = IsServerRun one
RunInTurn one (next ∷ later) = IsServerRun one × IsFoundAfter one.config one.state one.tenant (start_of next).words × RunInTurn next later

-- the last server
abbrev pub last_run : ServerRun → List ServerRun → ServerRun
last_run one [] = one
last_run one (next ∷ later) = last_run next later

-- how many requests of the tenant came to all servers but the last
abbrev pub asked_before : ServerRun → List ServerRun → ℕ
asked_before one [] = 0
asked_before one (next ∷ later) = asked_before next later + asked_of one

-- the replies that the servers handed out to the tenant, in order; the numbers of their requests go on from one server to the next
abbrev pub replies_in_turn : ServerRun → List ServerRun → List (ℕ × Reply)
replies_in_turn one [] = replies_to one.config one.tenant (world_at one.config one.openings) one.events
replies_in_turn one (next ∷ later) = replies_to one.config one.tenant (world_at one.config one.openings) one.events ++ map (later_reply (asked_of one)) (replies_in_turn next later)

-- These are the tenant's marks of all servers, with a mark for each start between them; the numbers of their requests go on in the same way.
abbrev pub AreMarksInTurn : ServerRun → List ServerRun → List Mark → Type 0
AreMarksInTurn one [] marks = marks ≡ marks_of one.state one.tenant
AreMarksInTurn one (next ∷ later) marks = (interrupted : Option ℕ) × (take : Bool) × (others : List Mark) × AreMarksInTurn next later others
    × (marks ≡ marks_of one.state one.tenant ++ Restart interrupted take (start_of next).is_up (start_of next).quota ∷ map (later_mark (asked_of one)) others)

-- One store alone, which began as the first server's start gave the tenant, takes the tenant's marks of all servers and the starts between
-- them. It hands out all their replies, in order. In the end it is the last server's own store, but for the numbers of requests and for
-- earlier requests, and has the words of its file and its quota.
pub record AreOfOneStoreInTurn (one : ServerRun) (later : List ServerRun) : Type 0 where
  pub marks : List Mark
  pub are : AreMarksInTurn one later marks
  pub store : Store
  pub legal : run (store_at (start_of one)) marks ≡ Some store
  pub replies : replies_from (store_at (start_of one)) marks ≡ replies_in_turn one later
  pub last : Store
  pub of_last : store_of (last_run one later).openings (last_run one later).state (last_run one later).tenant ≡ Some last
  pub same : IsLater (asked_before one later) store last
  pub words : ((last_run one later).state.tenant_states (last_run one later).tenant).file.contents ≡ store.words
  pub quota : ((last_run one later).state.tenant_states (last_run one later).tenant).quota ≡ store.quota

-- Any number of servers that ran one after the other, with numbers left in each of them, served the tenant as one store alone.
abbrev pub ServersInTurnAreOfOneStore : Type 0
ServersInTurnAreOfOneStore = (one : ServerRun) (later : List ServerRun) → RunInTurn one later → AreOfOneStoreInTurn one later
