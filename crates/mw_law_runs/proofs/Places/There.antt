-- If a request's point names only slots and entries that exist, its next step is at a word that exists, unless it is a call.
-- Used by: PlaceInvariant.
use Rattle.std.specs.Prelude.{ℕ, zero, suc, ◌≡◌, ◌≤◌, ◌<◌, ◌&&◌, Bool, true, false, nat_lt, List, [], ◌∷◌, length, Some, None}
use Rattle.std.specs.List.{list_all}
use Rattle.std.proofs.Common.{refl, sym, ap, subst, ◌∙◌, arith}
use Rattle.std.proofs.lemmas.Bool.Decides.{nat_tests}
use Rattle.mw_words.specs.declared.jobs.Entry.{Entry}
use Rattle.mw_words.specs.declared.jobs.Job.{Job}
use Rattle.mw_words.specs.declared.jobs.Job.TheVariants.{Get, Cas}
use Rattle.mw_words.specs.declared.limits.TheConstants.{MAX_ENTRIES}
use Rattle.mw_words.specs.declared.places.At.TheVariants.{Data}
use Rattle.mw_words.specs.Change.{is_change, is_in_range, is_well_formed}
use Rattle.mw_look.specs.declared.points.Point.{Point as ReadPoint}
use Rattle.mw_look.specs.declared.points.Point.TheVariants as read
use Rattle.mw_look.specs.declared.points.Trail.{Trail}
use Rattle.mw_look.specs.declared.points.Trail.TheVariants.{Held as ByHeld, Planted as ByPlanted}
use Rattle.mw_look.specs.Program.{Reading, slot_of, asks_at as read_asks_at}
use Rattle.mw_actor.specs.declared.points.Point.{Point}
use Rattle.mw_actor.specs.declared.points.Point.TheVariants.{Read, ReadDoor, Admit, ScanGate, Claim, FillStatus, FillCount, FillAddr, FillExpected, FillNew, Prepare, ReadTargetStatus, Inspect, AnnounceRow, Plant, ReadOtherRow, ConfirmAttempt, ReadDirtyGate, ConfirmDirty, DecideYes, DecideNo, CheckThenResolve, Resolve, ReadOtherGate, PinOther, ReadCount, ReadAddr, ReadExpected, ReadNew, Seal, SweepWord, Release, Clean, SweepRow, SweepConfirm, SweepResolve, Settle, Cancel, Unpin, FreeSlot, LowerDoor, GiveUp, Replied}
use Rattle.mw_actor.specs.declared.points.Task.{Task}
use Rattle.mw_actor.specs.ActorState.{ActorState, entries_of, entry_at, entry_of}
use Rattle.mw_actor.specs.Asks.{asks, asks_at, word_place}
use Rattle.mw_world.specs.declared.config.Config.{Config}
use Rattle.mw_world.specs.Definition.Calls.{called_at}
use Rattle.mw_world.specs.Definition.Extent.{has_place}
use Rattle.mw_world.specs.Definition.State.{State, tenant_at, tenants_of}
use Rattle.mw_world.specs.Definition.Turns.{may_make}
use Rattle.mw_law_runs.specs.Moves.Guards.{IsLive}
use Rattle.mw_law_runs.specs.Knowledge.Facts.{AtEntry, CameBy}
use Rattle.mw_law_runs.specs.Knowledge.Informed.{IsInformed, IsPointFor}
use Rattle.mw_law_runs.specs.Knowledge.Points.{ReadKnows, without_point}
use Rattle.mw_law_runs.specs.Places.{IsWithin, ReadIsWithin}
use Rattle.mw_law_runs.proofs.Places.NextPoints.{few_entries}

low : (n m : ℕ) → n < m → nat_lt n m ≡ true
low n m is = grind (arith, nat_tests, is)

both : (one two : Bool) → one ≡ true → two ≡ true → (one && two) ≡ true
both one two first second = grind (arith, first, second)

none_some : {A : Type 0} (x : A) → Some x ≡ None → ⊥
none_some x e = cc

-- the address of an entry of a well-formed change
all_low : (words : ℕ) (entries : List Entry) (index : ℕ) → list_all (is_in_range words) entries ≡ true → index < length entries → nat_lt (entry_at entries index).addr words ≡ true
all_low words [] index all within = absurd (omega (arith, within))
all_low words (entry ∷ entries) zero all within = grind (arith, nat_tests, all)
all_low words (entry ∷ entries) (suc index) all within = all_low words entries index (rest all) (omega (arith, within))
  where
    rest : list_all (is_in_range words) (entry ∷ entries) ≡ true → list_all (is_in_range words) entries ≡ true
    rest is = grind (arith, nat_tests, is)

all_in : (words : ℕ) (entries : List Entry) → is_change words entries ≡ true → list_all (is_in_range words) entries ≡ true
all_in words entries is = grind (arith, nat_tests, is)

read_word : (words : ℕ) (look : Reading) (job : Job) → IsPointFor job (Read look) → is_well_formed words job ≡ true → nat_lt look.address words ≡ true
read_word words look (Get address) for_job formed = ap (λ (n : ℕ). nat_lt n words) for_job ∙ formed
read_word words look (Cas entries) for_job formed = absurd for_job

module _ (config : Config) (state : State) (past : (worker : ℕ) → config.workers ≤ worker → (state.worker_states worker).attempt ≡ 0) where
  -- a worker whose attempt's number was given out is one of the world's
  given_there : (worker number : ℕ) → number < (state.worker_states worker).attempt → nat_lt worker config.workers ≡ true
  given_there worker number given = by_test (nat_lt worker config.workers) refl
    where
      by_test : (test : Bool) → nat_lt worker config.workers ≡ test → test ≡ true
      by_test true is = refl
      by_test false is = let beyond : config.workers ≤ worker = grind (arith, nat_tests, is) in absurd (omega (arith, past worker beyond, given))

  module _ (actor : ActorState) where
    came_there : (point : ReadPoint) (look : Reading) (tenant address : ℕ) (trail : Trail) → IsInformed config state (record actor { point = Read look }) → CameBy state tenant address trail → slot_of trail < config.pool
    came_there point look tenant address (ByHeld slot seq) informed came = informed.memory.claims.of_pool slot seq came.known.is_claimed
    came_there point look tenant address (ByPlanted worker attempt row) informed came = informed.memory.claims.of_pool row.slot row.seq came.known.is_claimed

    read_there : (look : Reading) (point : ReadPoint) → let me = record actor { point = Read look } in IsInformed config state me → ReadKnows state look.tenant look.address point → ReadIsWithin point
        → may_make config (read_asks_at look.tenant look.address point) ≡ true
    read_there look point informed knows within = by_point point knows within
      where
        door : nat_lt look.tenant (tenants_of config) ≡ true
        door = ap (λ (n : ℕ). nat_lt n (tenants_of config)) informed.ready.0 ∙ low actor.tenant (tenants_of config) informed.worker_state.tenant

        word : has_place config (Data look.tenant look.address) ≡ true
        word = ap (λ (n : ℕ). nat_lt look.address (tenant_at config n).words) informed.ready.0 ∙ read_word (tenant_at config actor.tenant).words look actor.job informed.for_job informed.worker_state.job

        slot : (trail : Trail) → CameBy state look.tenant look.address trail → nat_lt (slot_of trail) config.pool ≡ true
        slot trail came = low (slot_of trail) config.pool (came_there look.point look look.tenant look.address trail informed came)

        by_point : (at : ReadPoint) → ReadKnows state look.tenant look.address at → ReadIsWithin at → may_make config (read_asks_at look.tenant look.address at) ≡ true
        by_point read.ReadDoor knows within = door
        by_point read.ReadWord knows within = word
        by_point (read.ReadRow worker attempt) knows within = given_there worker attempt knows
        by_point (read.ConfirmWord trail) knows within = word
        by_point (read.ReadGate trail) knows within = slot trail knows
        by_point (read.Pin trail from to) knows within = slot trail knows
        by_point (read.ReadStatus trail) knows within = slot trail knows
        by_point (read.FindEntry trail status entry) knows within = both (nat_lt (slot_of trail) config.pool) (nat_lt entry MAX_ENTRIES) (slot trail knows) (low entry MAX_ENTRIES within)
        by_point (read.ReadExpected trail status entry) knows within = both (nat_lt (slot_of trail) config.pool) (nat_lt entry MAX_ENTRIES) (slot trail knows) (low entry MAX_ENTRIES within)
        by_point (read.ReadNew trail status entry expected) knows within = both (nat_lt (slot_of trail) config.pool) (nat_lt entry MAX_ENTRIES) (slot trail knows) (low entry MAX_ENTRIES within)
        by_point (read.RecheckWord trail status expected new) knows within = word
        by_point (read.Unpin given seq after) knows within = low given config.pool (informed.memory.claims.of_pool given seq knows.is_claimed)
        by_point (read.FreeSlot given seq after) knows within = low given config.pool (informed.memory.claims.of_pool given seq knows.is_claimed)
        by_point (read.LowerDoor after) knows within = door
        by_point (read.Replied reply) knows within = door

    module _ (point : Point) (informed : IsInformed config state (record actor { point = point })) where
      door_there : nat_lt actor.tenant (tenants_of config) ≡ true
      door_there = low actor.tenant (tenants_of config) informed.worker_state.tenant

      -- the slot of a live change
      live_there : (slot seq : ℕ) → (state.cells.gates slot).taken ≡ true → nat_lt slot config.pool ≡ true
      live_there slot seq taken = low slot config.pool (informed.memory.claims.there slot taken)

      entry_there : (slot entry : ℕ) → (state.cells.gates slot).taken ≡ true → entry < MAX_ENTRIES → (nat_lt slot config.pool && nat_lt entry MAX_ENTRIES) ≡ true
      entry_there slot entry taken few = both (nat_lt slot config.pool) (nat_lt entry MAX_ENTRIES) (live_there slot 0 taken) (low entry MAX_ENTRIES few)

      -- the word of an entry of the target
      word_there : (task : Task) (entry : ℕ) → AtEntry state (without_point actor) task entry → has_place config (Data actor.tenant (entry_of actor task entry).addr) ≡ true
      word_there task entry at =
          let target = task.target in
          let known = at.works.at_work.target in
          let change = state.history.change target.slot target.seq in
          let same : entries_of actor task ≡ change = at.works.entries in
          let formed = (informed.memory.claims.formed target.slot target.seq known.is_claimed).1 in
          let words : ℕ = (tenant_at config (state.history.tenant target.slot target.seq)).words in
          let here : nat_lt (entry_at change entry).addr words ≡ true = all_low words change entry (all_in words change formed) (subst (λ (es : List Entry). entry < length es) same at.within) in
          subst (λ (es : List Entry). nat_lt (entry_at es entry).addr (tenant_at config actor.tenant).words ≡ true) (sym same)
          (subst (λ (n : ℕ). nat_lt (entry_at change entry).addr (tenant_at config n).words ≡ true) known.same_tenant here)

    at_point : (point : Point) → let me = record actor { point = point } in IsInformed config state me → IsWithin config.pool point → called_at point ≡ None → may_make config (asks_at me point) ≡ true
    at_point (Read look) informed within no_call = read_there look look.point informed informed.knows within
    at_point ReadDoor informed within no_call = door_there ReadDoor informed
    at_point (Admit from to) informed within no_call = door_there (Admit from to) informed
    at_point (ScanGate slot saw_worn) informed within no_call = low slot config.pool within
    at_point (Claim slot saw_worn from to) informed within no_call = low slot config.pool within
    at_point (FillStatus own) informed within no_call = live_there (FillStatus own) informed own.slot 0 informed.live.taken
    at_point (FillCount own) informed within no_call = live_there (FillCount own) informed own.slot 0 informed.live.taken
    at_point (FillAddr own entry) informed within no_call = entry_there (FillAddr own entry) informed own.slot entry informed.live.taken (omega (arith, informed.knows.within, informed.in_range.job.0))
    at_point (FillExpected own entry) informed within no_call = entry_there (FillExpected own entry) informed own.slot entry informed.live.taken (omega (arith, informed.knows.0.within, informed.in_range.job.0))
    at_point (FillNew own entry) informed within no_call = entry_there (FillNew own entry) informed own.slot entry informed.live.taken (omega (arith, informed.knows.0.within, informed.in_range.job.0))
    at_point (Prepare own) informed within no_call = absurd (none_some _ no_call)
    at_point (ReadTargetStatus task) informed within no_call = live_there (ReadTargetStatus task) informed task.target.slot 0 informed.live.1.taken
    at_point (Inspect task entry) informed within no_call = word_there (Inspect task entry) informed task entry informed.knows.0
    at_point (AnnounceRow task entry number) informed within no_call = low actor.worker config.workers informed.worker_state.there
    at_point (Plant task entry number) informed within no_call = word_there (Plant task entry number) informed task entry informed.knows.0
    at_point (ReadOtherRow task entry attempt) informed within no_call = given_there attempt.worker attempt.number informed.knows.1.given
    at_point (ConfirmAttempt task entry attempt other) informed within no_call = word_there (ConfirmAttempt task entry attempt other) informed task entry informed.knows.0
    at_point (ReadDirtyGate task entry slot value) informed within no_call = low slot config.pool within
    at_point (ConfirmDirty task entry other value) informed within no_call = word_there (ConfirmDirty task entry other value) informed task entry informed.knows.0
    at_point (DecideYes task) informed within no_call = live_there (DecideYes task) informed task.target.slot 0 informed.live.1.taken
    at_point (DecideNo task entry value) informed within no_call = live_there (DecideNo task entry value) informed task.target.slot 0 informed.live.1.taken
    at_point (CheckThenResolve task entry attempt) informed within no_call = live_there (CheckThenResolve task entry attempt) informed task.target.slot 0 informed.live.1.taken
    at_point (Resolve task entry attempt was_open) informed within no_call = word_there (Resolve task entry attempt was_open) informed task entry informed.knows.0
    at_point (ReadOtherGate task other) informed within no_call = low other.slot config.pool within
    at_point (PinOther task other from to) informed within no_call = low other.slot config.pool within
    at_point (ReadCount task) informed within no_call = live_there (ReadCount task) informed task.target.slot 0 informed.live.1.taken
    at_point (ReadAddr task count) informed within no_call =
        entry_there (ReadAddr task count) informed task.target.slot (length actor.others) informed.live.1.taken (omega (arith, informed.in_range.point.1.0, informed.in_range.point.1.1))
    at_point (ReadExpected task count addr) informed within no_call =
        entry_there (ReadExpected task count addr) informed task.target.slot (length actor.others) informed.live.1.taken (omega (arith, informed.in_range.point.1.0, informed.in_range.point.1.1))
    at_point (ReadNew task count addr expected) informed within no_call =
        entry_there (ReadNew task count addr expected) informed task.target.slot (length actor.others) informed.live.1.taken (omega (arith, informed.in_range.point.1.0, informed.in_range.point.1.1))
    at_point (Seal task) informed within no_call = absurd (none_some _ no_call)
    at_point (SweepWord task sweep entry) informed within no_call = word_there (SweepWord task sweep entry) informed task entry informed.knows.at
    at_point (Release task sweep entry) informed within no_call = word_there (Release task sweep entry) informed task entry informed.knows.0.at
    at_point (Clean task entry value) informed within no_call = word_there (Clean task entry value) informed task entry informed.knows.0.at
    at_point (SweepRow task sweep entry attempt) informed within no_call = given_there attempt.worker attempt.number informed.knows.2
    at_point (SweepConfirm task sweep entry attempt other) informed within no_call = word_there (SweepConfirm task sweep entry attempt other) informed task entry informed.knows.0.at
    at_point (SweepResolve task sweep entry attempt) informed within no_call = word_there (SweepResolve task sweep entry attempt) informed task entry informed.knows.0.at
    at_point (Settle task) informed within no_call = absurd (none_some _ no_call)
    at_point (Cancel task) informed within no_call = absurd (none_some _ no_call)
    at_point (Unpin slot onward) informed within no_call = live_there (Unpin slot onward) informed slot.slot 0 informed.live.0.taken
    at_point (FreeSlot slot onward) informed within no_call = live_there (FreeSlot slot onward) informed slot.slot 0 informed.live.0.taken
    at_point (LowerDoor onward) informed within no_call = door_there (LowerDoor onward) informed
    at_point (GiveUp own undecided) informed within no_call = live_there (GiveUp own undecided) informed own.slot 0 informed.live.taken
    at_point (Replied reply) informed within no_call = door_there (Replied reply) informed

-- The place of a request's next step exists, if no worker past the last one has made an attempt.
pub place_there : (config : Config) (state : State) (actor : ActorState) → ((worker : ℕ) → config.workers ≤ worker → (state.worker_states worker).attempt ≡ 0) → IsInformed config state actor
    → IsWithin config.pool actor.point → called_at actor.point ≡ None → may_make config (asks actor) ≡ true
place_there config state actor past informed within no_call = at_point config state past actor actor.point informed within no_call
