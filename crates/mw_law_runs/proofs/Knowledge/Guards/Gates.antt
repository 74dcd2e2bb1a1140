-- If a request knows the facts of its point, each move (elementary change) of a door or a gate has its precondition
-- (`Guard`). Used by: UpdateGuards.
use Rattle.std.specs.Prelude.{ℕ, ◌≡◌, ◌<◌, ◌≤◌, ◌+◌, ◌-◌, Bool, true, false, cond, List}
use Rattle.std.proofs.Common.{refl, sym, ap, subst, ◌∙◌, arith}
use Rattle.std.proofs.lemmas.Bool.Decides.{nat_tests}
use Rattle.mw_words.specs.declared.doors.Door.{Door}
use Rattle.mw_words.specs.declared.gates.Gate.{Gate}
use Rattle.mw_words.specs.declared.jobs.Entry.{Entry}
use Rattle.mw_words.specs.declared.jobs.Job.{Job}
use Rattle.mw_words.specs.declared.jobs.Job.TheVariants.{Get, Cas}
use Rattle.mw_words.specs.declared.limits.TheConstants.{WORN_NUMBER}
use Rattle.mw_words.specs.Change.{is_change, is_well_formed}
use Rattle.mw_words.specs.Patterns.{IsDoorInRange, IsGateInRange}
use Rattle.mw_pool.specs.Moves.{Admits, Claims, Pins}
use Rattle.mw_look.specs.Program.{freed}
use Rattle.mw_look.specs.Runs.{if_same}
use Rattle.mw_actor.specs.declared.points.Point.TheVariants.{Claim}
use Rattle.mw_actor.specs.declared.points.Slot.{Slot}
use Rattle.mw_actor.specs.declared.points.Task.{Task}
use Rattle.mw_actor.specs.ActorState.{entries_of_job, is_alone}
use Rattle.mw_actor.specs.Balance.{task_pins}
use Rattle.mw_law_runs.proofs.Requests.StageLaws.{both_same}
use Rattle.mw_world.specs.declared.config.Config.{Config}
use Rattle.mw_world.specs.Definition.State.{State, tenant_at, tenants_of}
use Rattle.mw_law_runs.specs.Moves.Guards.{IsLive, MaySetDoor, MayClaim, MayPin, MayFree}
use Rattle.mw_law_runs.specs.Moves.StepMoves.{lowered}
use Rattle.mw_law_runs.specs.Knowledge.Informed.{IsPointFor}

true_false : {b : Bool} → b ≡ true → b ≡ false → ⊥
true_false one two = cc

-- doors
pub admit_guard : (state : State) (tenant quota : ℕ) (from to : Door) → Admits quota from to → IsDoorInRange to → state.cells.doors tenant ≡ from → MaySetDoor state tenant to
admit_guard state tenant quota from to admits fits found = record {
  fits = fits;
  fault = λ had. absurd (true_false (sym (ap (λ (door : Door). door.fault) found) ∙ had) admits.had_no_fault);
}

one_less : (used limit : ℕ) → used < limit → used - 1 < limit
one_less used limit low = omega (arith, low)

pub lower_guard : (state : State) (tenant : ℕ) → IsDoorInRange (state.cells.doors tenant) → MaySetDoor state tenant (lowered state tenant)
lower_guard state tenant fits = record { fits = one_less (state.cells.doors tenant).used _ fits; fault = λ had. had }

-- a slot is claimed for a change
pub formed_of : (words slot : ℕ) (saw_worn : Bool) (from to : Gate) (job : Job) → IsPointFor job (Claim slot saw_worn from to) → is_well_formed words job ≡ true
    → is_change words (entries_of_job job) ≡ true
formed_of words slot saw_worn from to (Get address) point formed = absurd point
formed_of words slot saw_worn from to (Cas entries) point formed = formed

pub claim_guard : (config : Config) (state : State) (slot tenant : ℕ) (from to : Gate) (entries : List Entry) → Claims from to → state.cells.gates slot ≡ from → IsGateInRange to
    → slot < config.pool → tenant < tenants_of config → is_change (tenant_at config tenant).words entries ≡ true
    → MayClaim config state (record { slot = slot; seq = from.seq }) to tenant entries
claim_guard config state slot tenant from to entries claims found fits there tenant_there formed = record {
  was_free = ap (λ (gate : Gate). gate.taken) found ∙ claims.was_not_taken;
  had_number = ap (λ (gate : Gate). gate.seq) found;
  is_taken = claims.is_taken;
  has_number = claims.same_number;
  has_pin = omega (arith, claims.has_one_pin);
  fits = fits;
  there = there;
  tenant_there = tenant_there;
  formed = formed;
}

-- a slot is pinned
pub pin_guard : (state : State) (slot seq : ℕ) (from to : Gate) → Pins seq from to → state.cells.gates slot ≡ from → IsGateInRange to → MayPin state slot to
pin_guard state slot seq from to pins found fits = record {
  pins = subst (λ (gate : Gate). Pins gate.seq gate to) (sym found) (record {
    was_taken = pins.was_taken;
    was_pinned = pins.was_pinned;
    had_that_number = refl;
    is_taken = pins.is_taken;
    one_more = pins.one_more;
    same_number = pins.same_number;
  });
  fits = fits;
}

-- a slot is freed
next_fits : (seq : ℕ) → seq < WORN_NUMBER → seq + 1 ≤ WORN_NUMBER
next_fits seq low = omega (arith, low)

pub free_guard : (state : State) (given : Slot) → IsLive state given → (state.cells.gates given.slot).pins ≡ 0 → given.seq < WORN_NUMBER → MayFree state given.slot (freed given.seq)
free_guard state given live unpinned low = record {
  frees = record {
    was_taken = live.taken;
    had_no_pins = unpinned;
    is_not_taken = refl;
    has_no_pins = refl;
    next_number = ap (λ (seq : ℕ). seq + 1) (sym live.seq);
  };
  fits = (omega arith, next_fits given.seq low, λ free. refl);
}

-- the request holds a pin of the target
pub same_pin : (own target : ℕ) → target ≡ own → if_same own target ≡ 1
same_pin own target same = grind (arith, nat_tests, same)

target_pinned : (task : Task) (is : Bool) → is_alone task ≡ is → 1 ≤ task_pins task.target.slot task
target_pinned task true is =
    omega (arith, same_pin task.own.slot task.target.slot (both_same task.target.slot task.target.seq task.own.slot task.own.seq is).0)
target_pinned task false is =
    subst (λ (b : Bool). 1 ≤ if_same task.own.slot task.target.slot + cond b 0 (if_same task.target.slot task.target.slot)) (sym is)
    (omega (arith, same_pin task.target.slot task.target.slot refl))

pub target_is_pinned : (task : Task) → 1 ≤ task_pins task.target.slot task
target_is_pinned task = target_pinned task (is_alone task) refl
