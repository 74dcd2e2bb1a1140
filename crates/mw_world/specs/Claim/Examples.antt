-- States the results of some short runs of a world, which schedules (which worker goes on, and how far) describe.
-- Used by: src/laws.rt.
use Rattle.std.specs.Prelude.{ℕ, ◌≡◌, true, false, List, [], ◌∷◌, is_none, Option, Some, None}
use Rattle.std.specs.Option.{option_map}
use Rattle.mw_words.specs.declared.jobs.Entry.{Entry}
use Rattle.mw_words.specs.declared.jobs.Job.{Job}
use Rattle.mw_words.specs.declared.jobs.Job.TheVariants.{Get, Cas}
use Rattle.mw_words.specs.declared.replies.Reply.{Reply}
use Rattle.mw_words.specs.declared.replies.Reply.TheVariants.{Worn, Yes, No, Val, Busy, Fault}
use Rattle.mw_words.specs.declared.words.Word.{Word}
use Rattle.mw_words.specs.declared.words.Word.TheVariants.{Plain, Planted, Held}
use Rattle.mw_lone.specs.declared.marks.Mark.{Mark}
use Rattle.mw_lone.specs.declared.marks.Mark.TheVariants.{Ask, Admit, Look, Miss, Seal, SealFail, FileFail, GiveUp, Retire, Busy as FoundBusy, Reply as HandOut, Restart as IsRestart}
use Rattle.mw_world.specs.declared.outcomes.Outcome.TheVariants.{Fail}
use Rattle.mw_world.specs.declared.config.Config.{Config}
use Rattle.mw_world.specs.declared.config.Tenant.{Tenant}
use Rattle.mw_world.specs.declared.events.Interrupted.{Interrupted}
use Rattle.mw_world.specs.Definition.Events.{Found, WorldEvent, Come, Step, File, Hand, Restart}
use Rattle.mw_world.specs.Definition.Logical.{logical}
use Rattle.mw_world.specs.Definition.State.{new_world, marks_of}
use Rattle.mw_world.specs.Definition.World.{step, replies_to}
use Rattle.mw_world.specs.Claim.Schedules.{Comes, Before, To, End, Fails, Stops, Played, played, events_of, Plants, Resolves, DecidesNo, Pins, Kind, PreparesFile, SealsFile, SettlesFile}

-- a tenant with so many words and this quota
abbrev pub tenant : ℕ → ℕ → Tenant
tenant words quota = record { name = record { items = [] }; words = words; quota = quota; old = None }

-- a world with so many slots and workers, and these tenants
abbrev pub config : ℕ → ℕ → List Tenant → Config
config pool workers tenants = record { pool = pool; workers = workers; seq = 0; tenants = record { items = tenants } }

-- an entry with this address, expected value and new value
abbrev pub entry : ℕ → ℕ → ℕ → Entry
entry address expected new = record { addr = address; expected = expected; new = new }

-- a change with these entries
abbrev pub cas : List Entry → Job
cas entries = Cas (record { items = entries })

-- Replies, each with its request's number.
abbrev pub Replies : Type 0
Replies = List (ℕ × Reply)

-- the replies that a run hands out to a tenant
abbrev pub handed : Config → ℕ → Option Played → Option Replies
handed config tenant run = option_map (λ p. replies_to config tenant (new_world config) (events_of p)) run

-- a tenant's word at the end of a run
abbrev pub word : ℕ → ℕ → Option Played → Option Word
word tenant address run = option_map (λ p. p.state.cells.words tenant address) run

-- The only worker changes the only word.
abbrev pub smallest : Config
smallest = config 1 1 (tenant 1 1 ∷ [])

-- the run of this example
abbrev pub one_change : Option Played
one_change = played smallest (Comes 0 0 (cas (entry 0 0 7 ∷ [])) ∷ End 0 ∷ []) (new_world smallest)

-- A worker is about to resolve its attempt when others make its change. Another change of the same word waits, and
-- plants its own attempt.
abbrev pub three_workers : Config
three_workers = config 3 3 (tenant 2 3 ∷ [])

-- the run of this example
abbrev pub late_finisher : Option Played
late_finisher = played three_workers
    (Comes 0 0 (cas (entry 0 0 1 ∷ entry 1 0 1 ∷ [])) ∷ To 0 Resolves ∷ Comes 2 0 (cas (entry 0 0 9 ∷ [])) ∷ Before 2 Plants ∷ Before 0 Resolves
    ∷ Comes 1 0 (cas (entry 1 1 0 ∷ [])) ∷ End 1 ∷ To 2 Plants ∷ End 0 ∷ End 2 ∷ Comes 1 0 (Get 1) ∷ End 1 ∷ [])
    (new_world three_workers)

-- A word refuses a change, and gets the expected value before the refusal is decided.
abbrev pub two_workers : Config
two_workers = config 2 2 (tenant 1 2 ∷ [])

-- the run of this example
abbrev pub stale_refusal : Option Played
stale_refusal = played two_workers
    (Comes 0 0 (cas (entry 0 5 6 ∷ [])) ∷ Before 0 DecidesNo ∷ Comes 1 0 (cas (entry 0 0 5 ∷ [])) ∷ End 1 ∷ End 0 ∷ [])
    (new_world two_workers)

-- The file fails in a seal. A start then finds the change or doesn't. The neighbour's replies are as if nothing
-- happened.
abbrev pub two_tenants : Config
two_tenants = config 2 1 (tenant 1 1 ∷ tenant 1 1 ∷ [])

-- what is found if this call was under way: these words, so many device calls of the opening, and the one that fails
abbrev pub found : Option Interrupted → List ℕ → ℕ → Option ℕ → Found
found interrupted words calls fails_at = record { interrupted = interrupted; words = words; opening_calls = calls; fails_at = fails_at; quota = None }

-- what is found of a file with no open record, when no call was under way
abbrev pub shut : List ℕ → Found
shut words = found None words 2 None

-- the same, and the start gives this quota
abbrev pub given : ℕ → List ℕ → Found
given quota words = record (shut words) { quota = Some quota }

-- a worker's call that was interrupted after so many device calls
abbrev pub under_way : ℕ → ℕ → Option Interrupted
under_way worker made = Some (record { worker = worker; made = made })

-- the run of this example, by what the start finds of the file that failed
abbrev pub failed_seal : Found → Option Played
failed_seal left = played two_tenants
    (Comes 0 0 (cas (entry 0 0 1 ∷ [])) ∷ Before 0 SealsFile ∷ Fails 0 2 ∷ End 0 ∷ Comes 0 0 (Get 0) ∷ End 0 ∷ Comes 0 1 (cas (entry 0 0 1 ∷ [])) ∷ End 0
    ∷ Stops (left ∷ shut (1 ∷ []) ∷ []) ∷ Comes 0 0 (Get 0) ∷ End 0 ∷ Comes 0 1 (Get 0) ∷ End 0 ∷ [])
    (new_world two_tenants)

-- The device fails in the prepare of a change, or in its settle.
abbrev pub failed_at : Kind → Option Played
failed_at kind = played smallest (Comes 0 0 (cas (entry 0 0 7 ∷ [])) ∷ Before 0 kind ∷ Fails 0 1 ∷ End 0 ∷ Comes 0 0 (Get 0) ∷ End 0 ∷ []) (new_world smallest)

-- The last number of the only slot is used. Then the slot is worn.
abbrev pub nearly_worn : Config
nearly_worn = record smallest { seq = 281474976710654 }

-- the run of this example
abbrev pub worn : Option Played
worn = played nearly_worn (Comes 0 0 (cas (entry 0 0 1 ∷ [])) ∷ End 0 ∷ Comes 0 0 (cas (entry 0 1 2 ∷ [])) ∷ End 0 ∷ Comes 0 0 (Get 0) ∷ End 0 ∷ []) (new_world nearly_worn)

-- The server stops in a seal. Or it stops in a settle, then the opening fails, and then the server stops again.
abbrev pub two_words : Config
two_words = config 1 1 (tenant 2 1 ∷ [])

-- the run in which the server stops in the seal, by what the start finds
abbrev pub torn_gate : Found → Option Played
torn_gate left = played two_words
    (Comes 0 0 (cas (entry 0 0 1 ∷ entry 1 0 2 ∷ [])) ∷ Before 0 SealsFile ∷ Stops (left ∷ [])
    ∷ Comes 0 0 (Get 0) ∷ End 0 ∷ Comes 0 0 (Get 1) ∷ End 0 ∷ [])
    (new_world two_words)

-- the run in which the server stops in the settle
abbrev pub failed_opening : Option Played
failed_opening = played two_words
    (Comes 0 0 (cas (entry 0 0 1 ∷ entry 1 0 2 ∷ [])) ∷ Before 0 SettlesFile ∷ Stops (found (under_way 0 2) (1 ∷ 2 ∷ []) 7 (Some 4) ∷ [])
    ∷ Comes 0 0 (Get 0) ∷ End 0 ∷ Stops (found None (1 ∷ 2 ∷ []) 7 None ∷ []) ∷ Comes 0 0 (Get 0) ∷ End 0 ∷ Comes 0 0 (Get 1) ∷ End 0 ∷ [])
    (new_world two_words)

-- Only the tenant's own changes use up its quota.
abbrev pub two_of_one : Config
two_of_one = config 2 3 (tenant 2 1 ∷ tenant 2 1 ∷ [])

-- the run of this example
abbrev pub used_up : Option Played
used_up = played two_of_one
    (Comes 2 1 (cas (entry 0 0 1 ∷ [])) ∷ To 2 Plants ∷ Comes 0 0 (cas (entry 0 0 1 ∷ [])) ∷ To 0 Plants ∷ Comes 1 0 (cas (entry 1 0 1 ∷ [])) ∷ End 1 ∷ End 0
    ∷ Comes 1 0 (cas (entry 1 0 1 ∷ [])) ∷ End 1 ∷ End 2 ∷ [])
    (new_world two_of_one)

-- A start gives a tenant one slot more.
abbrev pub three_slots : Config
three_slots = config 3 2 (tenant 2 1 ∷ [])

-- the run of this example, by what the start finds and gives
abbrev pub quota_at_start : Found → Option Played
quota_at_start left = played three_slots
    (Comes 0 0 (cas (entry 0 0 1 ∷ [])) ∷ To 0 Plants ∷ Comes 1 0 (cas (entry 1 0 1 ∷ [])) ∷ End 1 ∷ Stops (left ∷ [])
    ∷ Comes 0 0 (cas (entry 0 0 1 ∷ [])) ∷ To 0 Plants ∷ Comes 1 0 (cas (entry 1 0 1 ∷ [])) ∷ End 1 ∷ End 0 ∷ [])
    (new_world three_slots)

-- A start takes one slot from a tenant.
abbrev pub two_for_one : Config
two_for_one = config 2 2 (tenant 2 2 ∷ [])

-- the run of this example
abbrev pub quota_lowered : Option Played
quota_lowered = played two_for_one
    (Stops (given 1 (0 ∷ 0 ∷ []) ∷ []) ∷ Comes 0 0 (cas (entry 0 0 1 ∷ [])) ∷ To 0 Plants ∷ Comes 1 0 (cas (entry 1 0 1 ∷ [])) ∷ End 1 ∷ End 0 ∷ [])
    (new_world two_for_one)

-- A start gives a quota, though its opening fails. The next start gives none.
abbrev pub quota_of_failed_start : Option Played
quota_of_failed_start = played three_slots (Stops (record (given 2 (0 ∷ 0 ∷ [])) { fails_at = Some 1 } ∷ []) ∷ Stops (shut (0 ∷ 0 ∷ []) ∷ []) ∷ []) (new_world three_slots)

-- A tenant whose first file is an old one.
abbrev pub old_tenant : Config
old_tenant = config 2 1 (record (tenant 1 1) { old = Some (record { items = entry 0 0 5 ∷ [] }) } ∷ [])

-- A worker is about to pin a slot. The slot is freed, and a neighbour uses it.
abbrev pub stale_reference : Option Played
stale_reference = played (config 2 2 (tenant 1 1 ∷ tenant 1 1 ∷ []))
    (Comes 0 0 (cas (entry 0 0 1 ∷ [])) ∷ To 0 Resolves ∷ Comes 1 0 (Get 0) ∷ Before 1 Pins ∷ End 0 ∷ Comes 0 1 (cas (entry 0 0 7 ∷ [])) ∷ To 0 Resolves
    ∷ To 1 Pins ∷ End 0 ∷ Comes 0 1 (cas (entry 0 7 8 ∷ [])) ∷ End 0 ∷ End 1 ∷ [])
    (new_world (config 2 2 (tenant 1 1 ∷ tenant 1 1 ∷ [])))

-- One word of a change is held, an attempt is in the other, and nothing is decided.
abbrev pub half_way : Option Played
half_way = played three_workers (Comes 0 0 (cas (entry 0 0 1 ∷ entry 1 0 2 ∷ [])) ∷ To 0 Resolves ∷ To 0 Plants ∷ []) (new_world three_workers)

-- the value that a tenant's word represents at the end of a run
abbrev pub value : ℕ → ℕ → Option Played → Option ℕ
value tenant address run = option_map (λ p. logical p.state.cells tenant address) run

-- the event can't happen at the end of the run
abbrev pub IsRefused : Config → Option Played → WorldEvent → Type 0
IsRefused config run event = option_map (λ p. is_none (step config p.state event)) run ≡ Some true

-- the event can happen at the end of the run
abbrev pub IsTaken : Config → Option Played → WorldEvent → Type 0
IsTaken config run event = option_map (λ p. is_none (step config p.state event)) run ≡ Some false

-- a run without events
abbrev pub at_first : Config → Option Played
at_first config = Some (record { state = new_world config; events = [] })

-- a run after which the worker's next step is to seal its change
abbrev pub before_seal : Option Played
before_seal = played smallest (Comes 0 0 (cas (entry 0 0 7 ∷ [])) ∷ Before 0 SealsFile ∷ []) (new_world smallest)

-- Events that can't happen there. Requests: one for a busy worker, one for a tenant, a worker or a word that doesn't
-- exist. Steps: a step in place of a call, device calls that the call doesn't make, and a reply that isn't there.
-- Stops: after more device calls than there are, or in a call of an idle worker. Openings: a failure of a device call
-- that they don't make. Words: those that nobody wrote, those of a seal that hadn't begun, and those without a change
-- that was sealed to the end. Starts: one that leaves out a tenant. Quotas: 0, above the file's places, above the
-- pool, and above the pool together with a neighbour's.
pub record AreRefused : Type 0 where
  pub busy_worker : IsRefused smallest before_seal (Come 0 0 (Get 0))
  pub step_of_a_call : IsRefused smallest before_seal (Step 0)
  pub third_device_call : IsRefused smallest before_seal (File 0 (Fail 3))
  pub no_reply : IsRefused smallest before_seal (Hand 0)
  pub too_many_made : IsRefused smallest before_seal (Restart (found (under_way 0 3) (0 ∷ []) 2 None ∷ []))
  pub idle_worker : IsRefused smallest before_seal (Restart (found (under_way 1 0) (0 ∷ []) 2 None ∷ []))
  pub short_opening : IsRefused smallest before_seal (Restart (found None (0 ∷ []) 2 (Some 3) ∷ []))
  pub other_words : IsRefused smallest before_seal (Restart (found (under_way 0 1) (8 ∷ []) 2 None ∷ []))
  pub unsealed_words : IsRefused smallest before_seal (Restart (found (under_way 0 0) (7 ∷ []) 6 None ∷ []))
  pub lost_seal : IsRefused smallest before_seal (Restart (found (under_way 0 2) (0 ∷ []) 2 None ∷ []))
  pub no_device_call : IsRefused smallest before_seal (File 0 (Fail 0))
  pub no_opening_call : IsRefused smallest before_seal (Restart (found None (0 ∷ []) 2 (Some 0) ∷ []))
  pub forgotten_tenant : IsRefused smallest before_seal (Restart [])
  pub no_quota : IsRefused smallest before_seal (Restart (given 0 (0 ∷ []) ∷ []))
  pub above_places : IsRefused three_slots (at_first three_slots) (Restart (given 3 (0 ∷ 0 ∷ []) ∷ []))
  pub above_pool : IsRefused smallest before_seal (Restart (given 2 (0 ∷ []) ∷ []))
  pub above_pool_together : IsRefused two_tenants (at_first two_tenants) (Restart (given 2 (0 ∷ []) ∷ shut (0 ∷ []) ∷ []))
  pub no_such_word : IsRefused smallest one_change (Come 0 0 (Get 1))
  pub no_such_tenant : IsRefused smallest one_change (Come 0 1 (Get 0))
  pub no_such_worker : IsRefused smallest one_change (Come 1 0 (Get 0))

-- Starts that can happen: with the same quota; with twice the first quota, also of an old file; and with the greatest
-- quota.
pub record AreTaken : Type 0 where
  pub same_quota : IsTaken smallest before_seal (Restart (given 1 (0 ∷ []) ∷ []))
  pub twice : IsTaken three_slots (at_first three_slots) (Restart (given 2 (0 ∷ 0 ∷ []) ∷ []))
  pub twice_of_old : IsTaken old_tenant (at_first old_tenant) (Restart (record (found None (5 ∷ []) 7 None) { quota = Some 2 } ∷ []))
  pub greatest : IsTaken (config 64 1 (tenant 1 32 ∷ [])) (at_first (config 64 1 (tenant 1 32 ∷ []))) (Restart (given 64 (0 ∷ []) ∷ []))

-- the marks of a tenant at the end of a run
abbrev pub marks : ℕ → Option Played → Option (List Mark)
marks tenant run = option_map (λ p. marks_of p.state tenant) run

-- What comes of the runs above: events refused and allowed, words, replies and marks.
pub record ComeOut : Type 0 where
  pub refused : AreRefused
  pub taken : AreTaken
  pub half_way_words : (word 0 0 half_way ≡ Some (Held 0 0)) × (word 0 1 half_way ≡ Some (Planted 0 1))
  pub half_way_values : (value 0 0 half_way ≡ Some 0) × (value 0 1 half_way ≡ Some 0)
  pub one_change_word : word 0 0 one_change ≡ Some (Plain 7)
  pub one_change_marks : marks 0 one_change ≡ Some (Ask 0 (cas (entry 0 0 7 ∷ [])) ∷ Admit 0 ∷ Seal 0 ∷ Retire 0 ∷ HandOut 0 ∷ [])
  pub one_change_replies : handed smallest 0 one_change ≡ Some ((0, Yes) ∷ [])
  pub late_finisher_replies : handed three_workers 0 late_finisher ≡ Some ((2, Yes) ∷ (0, Yes) ∷ (1, No 0 1) ∷ (3, Val 0) ∷ [])
  pub late_finisher_marks : marks 0 late_finisher ≡ Some (Ask 0 (cas (entry 0 0 1 ∷ entry 1 0 1 ∷ [])) ∷ Admit 0 ∷ Ask 1 (cas (entry 0 0 9 ∷ [])) ∷ Admit 1
      ∷ Ask 2 (cas (entry 1 1 0 ∷ [])) ∷ Admit 2 ∷ Seal 0 ∷ Seal 2 ∷ Retire 2 ∷ HandOut 2 ∷ HandOut 0 ∷ Retire 0 ∷ Miss 1 0 ∷ Retire 1 ∷ HandOut 1
      ∷ Ask 3 (Get 1) ∷ Look 3 ∷ HandOut 3 ∷ [])
  pub stale_refusal_replies : handed two_workers 0 stale_refusal ≡ Some ((1, Yes) ∷ (0, No 0 0) ∷ [])
  pub stale_refusal_marks : marks 0 stale_refusal ≡ Some (Ask 0 (cas (entry 0 5 6 ∷ [])) ∷ Admit 0 ∷ Miss 0 0 ∷ Ask 1 (cas (entry 0 0 5 ∷ [])) ∷ Admit 1
      ∷ Seal 1 ∷ Retire 1 ∷ HandOut 1 ∷ Retire 0 ∷ HandOut 0 ∷ [])
  pub failed_seal_found : handed two_tenants 0 (failed_seal (found None (1 ∷ []) 6 None)) ≡ Some ((0, Fault) ∷ (1, Fault) ∷ (2, Val 1) ∷ [])
  pub failed_seal_gone : handed two_tenants 0 (failed_seal (shut (0 ∷ []))) ≡ Some ((0, Fault) ∷ (1, Fault) ∷ (2, Val 0) ∷ [])
  pub failed_seal_marks : marks 0 (failed_seal (found None (1 ∷ []) 6 None)) ≡ Some (Ask 0 (cas (entry 0 0 1 ∷ [])) ∷ Admit 0 ∷ SealFail 0 ∷ HandOut 0 ∷ Ask 1 (Get 0) ∷ GiveUp 1 ∷ HandOut 1
      ∷ IsRestart None true true 1 ∷ Ask 2 (Get 0) ∷ Look 2 ∷ HandOut 2 ∷ [])
  pub failed_seal_neighbour : handed two_tenants 1 (failed_seal (shut (0 ∷ []))) ≡ Some ((0, Yes) ∷ (1, Val 1) ∷ [])
  pub failed_prepare_replies : handed smallest 0 (failed_at PreparesFile) ≡ Some ((0, Fault) ∷ (1, Fault) ∷ [])
  pub failed_prepare_marks : marks 0 (failed_at PreparesFile) ≡ Some (Ask 0 (cas (entry 0 0 7 ∷ [])) ∷ Admit 0 ∷ FileFail ∷ GiveUp 0 ∷ HandOut 0
      ∷ Ask 1 (Get 0) ∷ GiveUp 1 ∷ HandOut 1 ∷ [])
  pub failed_settle_replies : handed smallest 0 (failed_at SettlesFile) ≡ Some ((0, Yes) ∷ (1, Fault) ∷ [])
  pub failed_settle_marks : marks 0 (failed_at SettlesFile) ≡ Some (Ask 0 (cas (entry 0 0 7 ∷ [])) ∷ Admit 0 ∷ Seal 0 ∷ FileFail ∷ HandOut 0
      ∷ Ask 1 (Get 0) ∷ GiveUp 1 ∷ HandOut 1 ∷ [])
  pub worn_replies : handed nearly_worn 0 worn ≡ Some ((0, Yes) ∷ (1, Worn) ∷ (2, Val 1) ∷ [])
  pub torn_gate_open : handed two_words 0 (torn_gate (found (under_way 0 1) (1 ∷ 2 ∷ []) 7 None)) ≡ Some ((1, Val 1) ∷ (2, Val 2) ∷ [])
  pub torn_gate_shut : handed two_words 0 (torn_gate (found (under_way 0 1) (0 ∷ 0 ∷ []) 2 None)) ≡ Some ((1, Val 0) ∷ (2, Val 0) ∷ [])
  pub torn_gate_marks : marks 0 (torn_gate (found (under_way 0 1) (0 ∷ 0 ∷ []) 2 None)) ≡ Some (Ask 0 (cas (entry 0 0 1 ∷ entry 1 0 2 ∷ [])) ∷ Admit 0 ∷ IsRestart (Some 0) false true 1
      ∷ Ask 1 (Get 0) ∷ Look 1 ∷ HandOut 1 ∷ Ask 2 (Get 1) ∷ Look 2 ∷ HandOut 2 ∷ [])
  pub failed_opening_replies : handed two_words 0 failed_opening ≡ Some ((1, Fault) ∷ (2, Val 1) ∷ (3, Val 2) ∷ [])
  pub used_up_replies : handed two_of_one 0 used_up ≡ Some ((1, Busy) ∷ (0, Yes) ∷ (2, Yes) ∷ [])
  pub used_up_neighbour : handed two_of_one 1 used_up ≡ Some ((0, Yes) ∷ [])
  pub stale_reference_replies : handed (config 2 2 (tenant 1 1 ∷ tenant 1 1 ∷ [])) 0 stale_reference ≡ Some ((0, Yes) ∷ (1, Val 1) ∷ [])
  pub stale_reference_neighbour : handed (config 2 2 (tenant 1 1 ∷ tenant 1 1 ∷ [])) 1 stale_reference ≡ Some ((0, Yes) ∷ (1, Yes) ∷ [])
  pub quota_at_start_replies : handed three_slots 0 (quota_at_start (given 2 (0 ∷ 0 ∷ []))) ≡ Some ((1, Busy) ∷ (3, Yes) ∷ (2, Yes) ∷ [])
  pub quota_at_start_marks : marks 0 (quota_at_start (given 2 (0 ∷ 0 ∷ []))) ≡ Some (Ask 0 (cas (entry 0 0 1 ∷ [])) ∷ Admit 0 ∷ Ask 1 (cas (entry 1 0 1 ∷ [])) ∷ FoundBusy 1 ∷ HandOut 1
      ∷ IsRestart None false true 2 ∷ Ask 2 (cas (entry 0 0 1 ∷ [])) ∷ Admit 2 ∷ Ask 3 (cas (entry 1 0 1 ∷ [])) ∷ Admit 3 ∷ Seal 3 ∷ Retire 3 ∷ HandOut 3
      ∷ Seal 2 ∷ Retire 2 ∷ HandOut 2 ∷ [])
  pub quota_lowered_replies : handed two_for_one 0 quota_lowered ≡ Some ((1, Busy) ∷ (0, Yes) ∷ [])
  pub quota_of_failed_start_marks : marks 0 quota_of_failed_start ≡ Some (IsRestart None false false 2 ∷ IsRestart None false true 2 ∷ [])
  pub same_quota_replies : handed three_slots 0 (quota_at_start (shut (0 ∷ 0 ∷ []))) ≡ Some ((1, Busy) ∷ (3, Busy) ∷ (2, Yes) ∷ [])
