-- What a request knows while it claims a slot and writes its change into it. Used by: AfterCalls, ByPoint.
use Rattle.std.specs.Prelude.{ℕ, ◌≡◌, ◌≢◌, ◌<◌, ◌≤◌, ◌+◌, Bool, true, false, nat_lt, List, length}
use Rattle.std.proofs.Common.{refl, ap, subst, ◌∙◌, arith}
use Rattle.std.proofs.lemmas.Bool.Decides.{nat_tests}
use Rattle.mw_words.specs.declared.gates.Gate.{Gate}
use Rattle.mw_words.specs.declared.jobs.Entry.{Entry}
use Rattle.mw_words.specs.declared.jobs.Job.{Job}
use Rattle.mw_words.specs.declared.jobs.Job.TheVariants.{Get, Cas}
use Rattle.mw_words.specs.declared.limits.TheConstants.{MAX_WORDS}
use Rattle.mw_words.specs.declared.statuses.Status.{Status}
use Rattle.mw_words.specs.declared.statuses.Status.TheVariants.{Draft}
use Rattle.mw_words.specs.Change.{is_change}
use Rattle.mw_look.specs.declared.observations.Observation.TheVariants.{Won}
use Rattle.mw_look.proofs.RangeLaws.{either_way}
use Rattle.mw_actor.specs.declared.points.Point.{Point}
use Rattle.mw_actor.specs.declared.points.Point.TheVariants.{Claim, FillStatus, FillCount, FillAddr, FillExpected, FillNew, Prepare}
use Rattle.mw_actor.specs.declared.points.Slot.{Slot}
use Rattle.mw_actor.specs.ActorState.{ActorState, own_entries, entries_of_job, entry_at}
use Rattle.mw_actor.specs.Ranges.{IsFormed}
use Rattle.mw_world.specs.Maps.{upd}
use Rattle.mw_world.specs.declared.config.Config.{Config}
use Rattle.mw_world.specs.Definition.Cells.{Cells}
use Rattle.mw_world.specs.Definition.History.{StandingAttempt, HoldPermission}
use Rattle.mw_world.specs.Claim.Invariant.{IsEntryOf}
use Rattle.mw_world.specs.Definition.State.{State}
use Rattle.mw_law_runs.specs.Moves.Guards.{IsLive}
use Rattle.mw_law_runs.proofs.Moves.Phases.{claimed_draft}
use Rattle.mw_law_runs.specs.Counts.CountInvariant.{CountsStand}
use Rattle.mw_law_runs.specs.Knowledge.Facts.{IsDrafted, IsWritten}
use Rattle.mw_law_runs.specs.Knowledge.Informed.{IsInformed, IsPointFor}
use Rattle.mw_law_runs.specs.Knowledge.Live.{AreLive}
use Rattle.mw_law_runs.specs.Knowledge.Points.{Knows, without_point}
use Rattle.mw_law_runs.specs.Knowledge.NextState.{KnowsItsPoint, told, world_told}
use Rattle.mw_law_runs.proofs.Knowledge.Updates.Preservation.{upd_here, upd_two_here, upd_two_next}

-- a change has at least one entry
pub has_one : (job : Job) → IsFormed job → ((address : ℕ) → job ≡ Get address → ⊥) → 1 ≤ length (entries_of_job job)
has_one (Get address) formed change = absurd (change address refl)
has_one (Cas entries) formed change = some_entry entries.items formed
  where
    some_entry : (entries : List Entry) → is_change MAX_WORDS entries ≡ true → 1 ≤ length entries
    some_entry entries is = grind (arith, nat_tests, is)

-- the world with other contents, in which a worker may do something else
abbrev pub posed : State → Cells → (ℕ → StandingAttempt) → (ℕ → HoldPermission) → State
posed state cells standing permission = record state { cells = cells; history = record state.history { standing = standing; permission = permission } }

module _ (state : State) (actor : ActorState) (cells : Cells) (standing : ℕ → StandingAttempt) (permission : ℕ → HoldPermission) where
  -- a draft doesn't depend on them
  pub drafted_posed : (own : Slot) → IsDrafted state (without_point actor) own → IsDrafted (posed state cells standing permission) (without_point actor) own
  drafted_posed own is = record {
    own = record {
      is_claimed = is.own.is_claimed;
      same_tenant = is.own.same_tenant;
      same_worker = is.own.same_worker;
      same_entries = is.own.same_entries;
      stays_not = is.own.stays_not;
    };
    draft = is.draft;
  }

  pub live_posed : (own : Slot) → cells.gates ≡ state.cells.gates → IsLive state own → IsLive (posed state cells standing permission) own
  live_posed own same live = record { taken = ap (λ (f : ℕ → Gate). (f own.slot).taken) same ∙ live.taken; seq = ap (λ (f : ℕ → Gate). (f own.slot).seq) same ∙ live.seq }

  -- the entries written before are still written, and this one too
  pub written_posed : (own : Slot) (done : ℕ) → IsWritten state (without_point actor) own done → cells.statuses ≡ state.cells.statuses → cells.counts ≡ state.cells.counts
      → ((index : ℕ) → index < done → (cells.addrs own.slot index ≡ state.cells.addrs own.slot index) × (cells.expecteds own.slot index ≡ state.cells.expecteds own.slot index)
      × (cells.new_values own.slot index ≡ state.cells.new_values own.slot index))
      → IsWritten (posed state cells standing permission) (without_point actor) own done
  written_posed own done is statuses counts entries = record {
    drafted = drafted_posed own is.drafted;
    status = ap (λ (f : ℕ → Status). f own.slot) statuses ∙ is.status;
    count = ap (λ (f : ℕ → ℕ). f own.slot) counts ∙ is.count;
    entries = λ index within.
        let same = entries index within in
        let was = is.entries index within in
        record { addr = same.0 ∙ was.addr; expected = same.1 ∙ was.expected; new = same.2 ∙ was.new };
  }

below_apart : (index entry : ℕ) → index < entry → index ≢ entry
below_apart index entry within is = omega (arith, within, is)

module _ (config : Config) (state : State) (actor : ActorState) where
  -- a request that isn't a read has an entry to write
  pub some_own : (point : Point) → IsInformed config state (record actor { point = point }) → ((job : Job) → IsPointFor job point → (address : ℕ) → job ≡ Get address → ⊥) → 1 ≤ length (own_entries actor)
  some_own point informed change = has_one actor.job informed.in_range.formed (change actor.job informed.for_job)

  pub claim_won : (slot : ℕ) (saw_worn : Bool) (from to : Gate) → let me = record actor { point = Claim slot saw_worn from to } in CountsStand config state → IsInformed config state me
      → state.cells.gates slot ≡ from → KnowsItsPoint (world_told state me Won) (told state me Won)
  claim_won slot saw_worn from to stand informed is = record {
    live = record { taken = ap (λ (gate : Gate). gate.taken) gate_is ∙ informed.ready.is_taken; seq = ap (λ (gate : Gate). gate.seq) gate_is ∙ informed.ready.same_number };
    knows = record {
      own = record {
        is_claimed = upd_two_here state.history.is_claimed slot from.seq true;
        same_tenant = upd_two_here state.history.tenant slot from.seq actor.tenant;
        same_worker = upd_two_here state.history.owner slot from.seq actor.worker;
        same_entries = upd_two_here state.history.change slot from.seq (own_entries actor);
        stays_not = stays_not (state.history.stays slot from.seq) refl;
      };
      draft = claimed_draft config state own informed.memory free number;
    };
  }
    where
      own : Slot
      own = record { slot = slot; seq = from.seq }

      gate_is : upd state.cells.gates slot to slot ≡ to
      gate_is = upd_here state.cells.gates slot to

      free : (state.cells.gates slot).taken ≡ false
      free = ap (λ (gate : Gate). gate.taken) is ∙ informed.ready.was_not_taken

      number : (state.cells.gates slot).seq ≡ from.seq
      number = ap (λ (gate : Gate). gate.seq) is

      stays_not : (stays : Bool) → state.history.stays slot from.seq ≡ stays → stays ≡ false
      stays_not false e = refl
      stays_not true e = absurd (both (stand.counts.left slot from.seq e).0.0 free)
        where
          both : (state.cells.gates slot).taken ≡ true → (state.cells.gates slot).taken ≡ false → ⊥
          both one two = cc

  pub status_stored : (own : Slot) → let me = record actor { point = FillStatus own } in IsInformed config state me → KnowsItsPoint (world_told state me Won) (told state me Won)
  status_stored own informed = record {
    live = record { taken = informed.live.taken; seq = informed.live.seq };
    knows = (drafted_posed state actor _ _ _ own informed.knows, upd_here state.cells.statuses own.slot Draft);
  }

  pub count_stored : (own : Slot) → let me = record actor { point = FillCount own } in IsInformed config state me → KnowsItsPoint (world_told state me Won) (told state me Won)
  count_stored own informed = record {
    live = record { taken = informed.live.taken; seq = informed.live.seq };
    knows = record {
      written = record {
        drafted = drafted_posed state actor _ _ _ own informed.knows.0;
        status = informed.knows.1;
        count = upd_here state.cells.counts own.slot (length (own_entries actor));
        entries = λ index within. absurd (omega (arith, within));
      };
      within = omega (arith, some_own (FillCount own) informed is_change_point);
    };
  }
    where
      is_change_point : (job : Job) → IsPointFor job (FillCount own) → (address : ℕ) → job ≡ Get address → ⊥
      is_change_point (Get here) for_job address e = for_job
      is_change_point (Cas entries) for_job address e = cc

  pub addr_stored : (own : Slot) (entry : ℕ) → let me = record actor { point = FillAddr own entry } in IsInformed config state me → KnowsItsPoint (world_told state me Won) (told state me Won)
  addr_stored own entry informed = record {
    live = record { taken = informed.live.taken; seq = informed.live.seq };
    knows = (
      record {
        written = written_posed state actor _ _ _ own entry informed.knows.written refl refl
            (λ index within. (upd_two_next state.cells.addrs own.slot entry index (entry_at (own_entries actor) entry).addr (below_apart index entry within), refl, refl));
        within = informed.knows.within;
      },
      upd_two_here state.cells.addrs own.slot entry (entry_at (own_entries actor) entry).addr,
    );
  }

  pub expected_stored : (own : Slot) (entry : ℕ) → let me = record actor { point = FillExpected own entry } in IsInformed config state me → KnowsItsPoint (world_told state me Won) (told state me Won)
  expected_stored own entry informed = record {
    live = record { taken = informed.live.taken; seq = informed.live.seq };
    knows = (
      record {
        written = written_posed state actor _ _ _ own entry informed.knows.0.written refl refl
            (λ index within. (refl, upd_two_next state.cells.expecteds own.slot entry index (entry_at (own_entries actor) entry).expected (below_apart index entry within), refl));
        within = informed.knows.0.within;
      },
      informed.knows.1,
      upd_two_here state.cells.expecteds own.slot entry (entry_at (own_entries actor) entry).expected,
    );
  }

  pub new_stored : (own : Slot) (entry : ℕ) → let me = record actor { point = FillNew own entry } in IsInformed config state me → KnowsItsPoint (world_told state me Won) (told state me Won)
  new_stored own entry informed = record {
    live = live_on;
    knows = either_way (Knows (world_told state (record actor { point = FillNew own entry }) Won) actor) (nat_lt (entry + 1) (length (own_entries actor))) (FillAddr own (entry + 1)) (Prepare own)
        (λ more. record { written = further; within = grind (arith, nat_tests, more) })
        (λ last. subst (IsWritten (world_told state (record actor { point = FillNew own entry }) Won) (without_point actor) own) (all last) further);
  }
    where
      all : nat_lt (entry + 1) (length (own_entries actor)) ≡ false → entry + 1 ≡ length (own_entries actor)
      all last = grind (arith, nat_tests, last, informed.knows.0.within)

      further : IsWritten (world_told state (record actor { point = FillNew own entry }) Won) (without_point actor) own (entry + 1)
      further = one_more (written_posed state actor _ _ _ own entry informed.knows.0.written refl refl
          (λ index within. (refl, refl, upd_two_next state.cells.new_values own.slot entry index (entry_at (own_entries actor) entry).new (below_apart index entry within))))
        where
          one_more : IsWritten (world_told state (record actor { point = FillNew own entry }) Won) (without_point actor) own entry
              → IsWritten (world_told state (record actor { point = FillNew own entry }) Won) (without_point actor) own (entry + 1)
          one_more is = record { drafted = is.drafted; status = is.status; count = is.count; entries = λ index within. at index within (nat_lt index entry) refl }
            where
              at : (index : ℕ) → index < entry + 1 → (b : Bool) → nat_lt index entry ≡ b
                  → IsEntryOf (world_told state (record actor { point = FillNew own entry }) Won).cells own.slot index (entry_at (own_entries actor) index)
              at index within true is_below = is.entries index (grind (arith, nat_tests, is_below))
              at index within false is_last =
                  subst (λ (n : ℕ). IsEntryOf (world_told state (record actor { point = FillNew own entry }) Won).cells own.slot n (entry_at (own_entries actor) n))
                  (grind (arith, nat_tests, within, is_last))
                  (record { addr = informed.knows.1; expected = informed.knows.2; new = upd_two_here state.cells.new_values own.slot entry (entry_at (own_entries actor) entry).new })

      live_on : AreLive (world_told state (record actor { point = FillNew own entry }) Won) (told state (record actor { point = FillNew own entry }) Won).point
      live_on =
          either_way (AreLive (world_told state (record actor { point = FillNew own entry }) Won)) (nat_lt (entry + 1) (length (own_entries actor))) (FillAddr own (entry + 1)) (Prepare own)
          (λ more. record { taken = informed.live.taken; seq = informed.live.seq }) (λ last. record { taken = informed.live.taken; seq = informed.live.seq })
