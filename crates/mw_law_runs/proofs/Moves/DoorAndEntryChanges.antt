-- Setting a door, and writing a status, a count or an entry into a slot, keep the invariant of the shared words (`Memory`).
-- Used by: MovesKeepMemory.
use Rattle.std.proofs.Common.{ℕ, arith}
use Rattle.std.proofs.lemmas.Bool.Decides.{nat_tests}
use Rattle.mw_words.specs.declared.places.At.TheVariants.{Door as AtDoor, Status as AtStatus, Count, Addr, Expected, New}
use Rattle.mw_words.specs.declared.doors.Door.{Door}
use Rattle.mw_words.specs.declared.statuses.Status.TheVariants.{Draft}
use Rattle.mw_world.specs.declared.config.Config.{Config}
use Rattle.mw_world.specs.Definition.State.{State}
use Rattle.mw_law_runs.specs.Moves.Moves.{SetDoor, FillStatus, FillCount, FillAddr, FillExpected, FillNew, made}
use Rattle.mw_law_runs.specs.Moves.Guards.{Guard}
use Rattle.mw_law_runs.specs.Moves.Memory.{Memory}
use Rattle.mw_law_runs.proofs.Moves.Ranges.{put_fits}

pub door_keeps : (config : Config) (state : State) (mover : ℕ) (at_tenant : ℕ) (door : Door) → Guard config state mover (SetDoor at_tenant door) → Memory config state → Memory config (made state mover (SetDoor at_tenant door))
door_keeps config state mover at_tenant door guard memory =
    record {
      claims = record {
        there = λ slot taken. grind (arith, nat_tests, memory.claims.there slot);
        claimed = λ slot taken. grind (arith, nat_tests, memory.claims.claimed slot);
        latest = λ slot seq is. grind (arith, nat_tests, memory.claims.latest slot seq);
        formed = λ slot seq is. grind (arith, nat_tests, memory.claims.formed slot seq);
        unclaimed = λ slot seq is. grind (arith, nat_tests, memory.claims.unclaimed slot seq);
        of_pool = λ slot seq is. grind (arith, nat_tests, memory.claims.of_pool slot seq);
        rows = λ worker. grind (arith, nat_tests, memory.claims.rows worker);
      };
      slots = record {
        status = λ slot taken ready. grind (arith, nat_tests, memory.slots.status slot);
        count = λ slot taken ready. grind (arith, nat_tests, memory.slots.count slot);
        entries = λ slot index taken ready within. grind (arith, nat_tests, memory.slots.entries slot index);
      };
      references = record {
        held = λ tenant address slot seq is. grind (arith, nat_tests, memory.references.held tenant address slot seq);
        dirty = λ tenant address slot value is. grind (arith, nat_tests, memory.references.dirty tenant address slot value);
        planted = λ tenant address worker attempt is. grind (arith, nat_tests, memory.references.planted tenant address worker attempt);
      };
      attempts = record {
        once = λ tenant address other there worker attempt one two. grind (arith, nat_tests, memory.attempts.once tenant address other there worker attempt);
        numbers = λ worker tenant address attempt is. grind (arith, nat_tests, memory.attempts.numbers worker tenant address attempt);
        ready = λ worker tenant address attempt is draft. grind (arith, nat_tests, memory.attempts.ready worker tenant address attempt);
      };
      words = record {
        allowed = λ slot seq address is. grind (arith, nat_tests, memory.words.allowed slot seq address);
        others = λ slot seq address is. grind (arith, nat_tests, memory.words.others slot seq address);
        acquired = λ slot seq address is. grind (arith, nat_tests, memory.words.acquired slot seq address);
        was_written = λ slot seq address is. grind (arith, nat_tests, memory.words.was_written slot seq address);
      };
      late = record {
        permitted = λ by tenant address worker attempt slot seq is. grind (arith, nat_tests, memory.late.permitted by tenant address worker attempt slot seq);
        finds = λ by tenant address worker attempt slot seq is found. grind (arith, nat_tests, memory.late.finds by tenant address worker attempt slot seq);
        made = λ slot seq address is entry fresh. grind (arith, nat_tests, memory.late.made slot seq address);
        lose = λ by tenant address worker attempt slot seq is is_made found. grind (arith, nat_tests, memory.late.lose by tenant address worker attempt slot seq);
      };
      written = λ slot seq address is. grind (arith, nat_tests, memory.written slot seq address);
      fits = put_fits state.cells (AtDoor at_tenant) door memory.fits guard.fits;
    }

pub status_keeps : (config : Config) (state : State) (mover : ℕ) (own : ℕ) → Guard config state mover (FillStatus own) → Memory config state → Memory config (made state mover (FillStatus own))
status_keeps config state mover own guard memory =
    record {
      claims = record {
        there = λ slot taken. grind (arith, nat_tests, memory.claims.there slot);
        claimed = λ slot taken. grind (arith, nat_tests, memory.claims.claimed slot);
        latest = λ slot seq is. grind (arith, nat_tests, memory.claims.latest slot seq);
        formed = λ slot seq is. grind (arith, nat_tests, memory.claims.formed slot seq);
        unclaimed = λ slot seq is. grind (arith, nat_tests, memory.claims.unclaimed slot seq);
        of_pool = λ slot seq is. grind (arith, nat_tests, memory.claims.of_pool slot seq);
        rows = λ worker. grind (arith, nat_tests, memory.claims.rows worker);
      };
      slots = record {
        status = λ slot taken ready. grind (arith, nat_tests, memory.slots.status slot, guard.draft);
        count = λ slot taken ready. grind (arith, nat_tests, memory.slots.count slot, guard.draft);
        entries = λ slot index taken ready within. grind (arith, nat_tests, memory.slots.entries slot index, guard.draft);
      };
      references = record {
        held = λ tenant address slot seq is. grind (arith, nat_tests, memory.references.held tenant address slot seq);
        dirty = λ tenant address slot value is. grind (arith, nat_tests, memory.references.dirty tenant address slot value);
        planted = λ tenant address worker attempt is. grind (arith, nat_tests, memory.references.planted tenant address worker attempt);
      };
      attempts = record {
        once = λ tenant address other there worker attempt one two. grind (arith, nat_tests, memory.attempts.once tenant address other there worker attempt);
        numbers = λ worker tenant address attempt is. grind (arith, nat_tests, memory.attempts.numbers worker tenant address attempt);
        ready = λ worker tenant address attempt is draft. grind (arith, nat_tests, memory.attempts.ready worker tenant address attempt);
      };
      words = record {
        allowed = λ slot seq address is. grind (arith, nat_tests, memory.words.allowed slot seq address);
        others = λ slot seq address is. grind (arith, nat_tests, memory.words.others slot seq address);
        acquired = λ slot seq address is. grind (arith, nat_tests, memory.words.acquired slot seq address);
        was_written = λ slot seq address is. grind (arith, nat_tests, memory.words.was_written slot seq address);
      };
      late = record {
        permitted = λ by tenant address worker attempt slot seq is. grind (arith, nat_tests, memory.late.permitted by tenant address worker attempt slot seq);
        finds = λ by tenant address worker attempt slot seq is found. grind (arith, nat_tests, memory.late.finds by tenant address worker attempt slot seq);
        made = λ slot seq address is entry fresh. grind (arith, nat_tests, memory.late.made slot seq address);
        lose = λ by tenant address worker attempt slot seq is is_made found. grind (arith, nat_tests, memory.late.lose by tenant address worker attempt slot seq);
      };
      written = λ slot seq address is. grind (arith, nat_tests, memory.written slot seq address);
      fits = put_fits state.cells (AtStatus own) Draft memory.fits tt;
    }

pub count_keeps : (config : Config) (state : State) (mover : ℕ) (own : ℕ) (number : ℕ) → Guard config state mover (FillCount own number) → Memory config state → Memory config (made state mover (FillCount own number))
count_keeps config state mover own number guard memory =
    record {
      claims = record {
        there = λ slot taken. grind (arith, nat_tests, memory.claims.there slot);
        claimed = λ slot taken. grind (arith, nat_tests, memory.claims.claimed slot);
        latest = λ slot seq is. grind (arith, nat_tests, memory.claims.latest slot seq);
        formed = λ slot seq is. grind (arith, nat_tests, memory.claims.formed slot seq);
        unclaimed = λ slot seq is. grind (arith, nat_tests, memory.claims.unclaimed slot seq);
        of_pool = λ slot seq is. grind (arith, nat_tests, memory.claims.of_pool slot seq);
        rows = λ worker. grind (arith, nat_tests, memory.claims.rows worker);
      };
      slots = record {
        status = λ slot taken ready. grind (arith, nat_tests, memory.slots.status slot, guard.draft.draft);
        count = λ slot taken ready. grind (arith, nat_tests, memory.slots.count slot, guard.draft.draft);
        entries = λ slot index taken ready within. grind (arith, nat_tests, memory.slots.entries slot index, guard.draft.draft);
      };
      references = record {
        held = λ tenant address slot seq is. grind (arith, nat_tests, memory.references.held tenant address slot seq);
        dirty = λ tenant address slot value is. grind (arith, nat_tests, memory.references.dirty tenant address slot value);
        planted = λ tenant address worker attempt is. grind (arith, nat_tests, memory.references.planted tenant address worker attempt);
      };
      attempts = record {
        once = λ tenant address other there worker attempt one two. grind (arith, nat_tests, memory.attempts.once tenant address other there worker attempt);
        numbers = λ worker tenant address attempt is. grind (arith, nat_tests, memory.attempts.numbers worker tenant address attempt);
        ready = λ worker tenant address attempt is draft. grind (arith, nat_tests, memory.attempts.ready worker tenant address attempt);
      };
      words = record {
        allowed = λ slot seq address is. grind (arith, nat_tests, memory.words.allowed slot seq address);
        others = λ slot seq address is. grind (arith, nat_tests, memory.words.others slot seq address);
        acquired = λ slot seq address is. grind (arith, nat_tests, memory.words.acquired slot seq address);
        was_written = λ slot seq address is. grind (arith, nat_tests, memory.words.was_written slot seq address);
      };
      late = record {
        permitted = λ by tenant address worker attempt slot seq is. grind (arith, nat_tests, memory.late.permitted by tenant address worker attempt slot seq);
        finds = λ by tenant address worker attempt slot seq is found. grind (arith, nat_tests, memory.late.finds by tenant address worker attempt slot seq);
        made = λ slot seq address is entry fresh. grind (arith, nat_tests, memory.late.made slot seq address);
        lose = λ by tenant address worker attempt slot seq is is_made found. grind (arith, nat_tests, memory.late.lose by tenant address worker attempt slot seq);
      };
      written = λ slot seq address is. grind (arith, nat_tests, memory.written slot seq address);
      fits = put_fits state.cells (Count own) number memory.fits guard.fits;
    }

pub addr_keeps : (config : Config) (state : State) (mover : ℕ) (own : ℕ) (entry : ℕ) (number : ℕ) → Guard config state mover (FillAddr own entry number) → Memory config state → Memory config (made state mover (FillAddr own entry number))
addr_keeps config state mover own entry number guard memory =
    record {
      claims = record {
        there = λ slot taken. grind (arith, nat_tests, memory.claims.there slot);
        claimed = λ slot taken. grind (arith, nat_tests, memory.claims.claimed slot);
        latest = λ slot seq is. grind (arith, nat_tests, memory.claims.latest slot seq);
        formed = λ slot seq is. grind (arith, nat_tests, memory.claims.formed slot seq);
        unclaimed = λ slot seq is. grind (arith, nat_tests, memory.claims.unclaimed slot seq);
        of_pool = λ slot seq is. grind (arith, nat_tests, memory.claims.of_pool slot seq);
        rows = λ worker. grind (arith, nat_tests, memory.claims.rows worker);
      };
      slots = record {
        status = λ slot taken ready. grind (arith, nat_tests, memory.slots.status slot, guard.draft.draft);
        count = λ slot taken ready. grind (arith, nat_tests, memory.slots.count slot, guard.draft.draft);
        entries = λ slot index taken ready within. grind (arith, nat_tests, memory.slots.entries slot index, guard.draft.draft);
      };
      references = record {
        held = λ tenant address slot seq is. grind (arith, nat_tests, memory.references.held tenant address slot seq);
        dirty = λ tenant address slot value is. grind (arith, nat_tests, memory.references.dirty tenant address slot value);
        planted = λ tenant address worker attempt is. grind (arith, nat_tests, memory.references.planted tenant address worker attempt);
      };
      attempts = record {
        once = λ tenant address other there worker attempt one two. grind (arith, nat_tests, memory.attempts.once tenant address other there worker attempt);
        numbers = λ worker tenant address attempt is. grind (arith, nat_tests, memory.attempts.numbers worker tenant address attempt);
        ready = λ worker tenant address attempt is draft. grind (arith, nat_tests, memory.attempts.ready worker tenant address attempt);
      };
      words = record {
        allowed = λ slot seq address is. grind (arith, nat_tests, memory.words.allowed slot seq address);
        others = λ slot seq address is. grind (arith, nat_tests, memory.words.others slot seq address);
        acquired = λ slot seq address is. grind (arith, nat_tests, memory.words.acquired slot seq address);
        was_written = λ slot seq address is. grind (arith, nat_tests, memory.words.was_written slot seq address);
      };
      late = record {
        permitted = λ by tenant address worker attempt slot seq is. grind (arith, nat_tests, memory.late.permitted by tenant address worker attempt slot seq);
        finds = λ by tenant address worker attempt slot seq is found. grind (arith, nat_tests, memory.late.finds by tenant address worker attempt slot seq);
        made = λ slot seq address is entry fresh. grind (arith, nat_tests, memory.late.made slot seq address);
        lose = λ by tenant address worker attempt slot seq is is_made found. grind (arith, nat_tests, memory.late.lose by tenant address worker attempt slot seq);
      };
      written = λ slot seq address is. grind (arith, nat_tests, memory.written slot seq address);
      fits = put_fits state.cells (Addr own entry) number memory.fits guard.fits;
    }

pub expected_keeps : (config : Config) (state : State) (mover : ℕ) (own : ℕ) (entry : ℕ) (number : ℕ) → Guard config state mover (FillExpected own entry number) → Memory config state → Memory config (made state mover (FillExpected own entry number))
expected_keeps config state mover own entry number guard memory =
    record {
      claims = record {
        there = λ slot taken. grind (arith, nat_tests, memory.claims.there slot);
        claimed = λ slot taken. grind (arith, nat_tests, memory.claims.claimed slot);
        latest = λ slot seq is. grind (arith, nat_tests, memory.claims.latest slot seq);
        formed = λ slot seq is. grind (arith, nat_tests, memory.claims.formed slot seq);
        unclaimed = λ slot seq is. grind (arith, nat_tests, memory.claims.unclaimed slot seq);
        of_pool = λ slot seq is. grind (arith, nat_tests, memory.claims.of_pool slot seq);
        rows = λ worker. grind (arith, nat_tests, memory.claims.rows worker);
      };
      slots = record {
        status = λ slot taken ready. grind (arith, nat_tests, memory.slots.status slot, guard.draft.draft);
        count = λ slot taken ready. grind (arith, nat_tests, memory.slots.count slot, guard.draft.draft);
        entries = λ slot index taken ready within. grind (arith, nat_tests, memory.slots.entries slot index, guard.draft.draft);
      };
      references = record {
        held = λ tenant address slot seq is. grind (arith, nat_tests, memory.references.held tenant address slot seq);
        dirty = λ tenant address slot value is. grind (arith, nat_tests, memory.references.dirty tenant address slot value);
        planted = λ tenant address worker attempt is. grind (arith, nat_tests, memory.references.planted tenant address worker attempt);
      };
      attempts = record {
        once = λ tenant address other there worker attempt one two. grind (arith, nat_tests, memory.attempts.once tenant address other there worker attempt);
        numbers = λ worker tenant address attempt is. grind (arith, nat_tests, memory.attempts.numbers worker tenant address attempt);
        ready = λ worker tenant address attempt is draft. grind (arith, nat_tests, memory.attempts.ready worker tenant address attempt);
      };
      words = record {
        allowed = λ slot seq address is. grind (arith, nat_tests, memory.words.allowed slot seq address);
        others = λ slot seq address is. grind (arith, nat_tests, memory.words.others slot seq address);
        acquired = λ slot seq address is. grind (arith, nat_tests, memory.words.acquired slot seq address);
        was_written = λ slot seq address is. grind (arith, nat_tests, memory.words.was_written slot seq address);
      };
      late = record {
        permitted = λ by tenant address worker attempt slot seq is. grind (arith, nat_tests, memory.late.permitted by tenant address worker attempt slot seq);
        finds = λ by tenant address worker attempt slot seq is found. grind (arith, nat_tests, memory.late.finds by tenant address worker attempt slot seq);
        made = λ slot seq address is entry fresh. grind (arith, nat_tests, memory.late.made slot seq address);
        lose = λ by tenant address worker attempt slot seq is is_made found. grind (arith, nat_tests, memory.late.lose by tenant address worker attempt slot seq);
      };
      written = λ slot seq address is. grind (arith, nat_tests, memory.written slot seq address);
      fits = put_fits state.cells (Expected own entry) number memory.fits guard.fits;
    }

pub new_keeps : (config : Config) (state : State) (mover : ℕ) (own : ℕ) (entry : ℕ) (number : ℕ) → Guard config state mover (FillNew own entry number) → Memory config state → Memory config (made state mover (FillNew own entry number))
new_keeps config state mover own entry number guard memory =
    record {
      claims = record {
        there = λ slot taken. grind (arith, nat_tests, memory.claims.there slot);
        claimed = λ slot taken. grind (arith, nat_tests, memory.claims.claimed slot);
        latest = λ slot seq is. grind (arith, nat_tests, memory.claims.latest slot seq);
        formed = λ slot seq is. grind (arith, nat_tests, memory.claims.formed slot seq);
        unclaimed = λ slot seq is. grind (arith, nat_tests, memory.claims.unclaimed slot seq);
        of_pool = λ slot seq is. grind (arith, nat_tests, memory.claims.of_pool slot seq);
        rows = λ worker. grind (arith, nat_tests, memory.claims.rows worker);
      };
      slots = record {
        status = λ slot taken ready. grind (arith, nat_tests, memory.slots.status slot, guard.draft.draft);
        count = λ slot taken ready. grind (arith, nat_tests, memory.slots.count slot, guard.draft.draft);
        entries = λ slot index taken ready within. grind (arith, nat_tests, memory.slots.entries slot index, guard.draft.draft);
      };
      references = record {
        held = λ tenant address slot seq is. grind (arith, nat_tests, memory.references.held tenant address slot seq);
        dirty = λ tenant address slot value is. grind (arith, nat_tests, memory.references.dirty tenant address slot value);
        planted = λ tenant address worker attempt is. grind (arith, nat_tests, memory.references.planted tenant address worker attempt);
      };
      attempts = record {
        once = λ tenant address other there worker attempt one two. grind (arith, nat_tests, memory.attempts.once tenant address other there worker attempt);
        numbers = λ worker tenant address attempt is. grind (arith, nat_tests, memory.attempts.numbers worker tenant address attempt);
        ready = λ worker tenant address attempt is draft. grind (arith, nat_tests, memory.attempts.ready worker tenant address attempt);
      };
      words = record {
        allowed = λ slot seq address is. grind (arith, nat_tests, memory.words.allowed slot seq address);
        others = λ slot seq address is. grind (arith, nat_tests, memory.words.others slot seq address);
        acquired = λ slot seq address is. grind (arith, nat_tests, memory.words.acquired slot seq address);
        was_written = λ slot seq address is. grind (arith, nat_tests, memory.words.was_written slot seq address);
      };
      late = record {
        permitted = λ by tenant address worker attempt slot seq is. grind (arith, nat_tests, memory.late.permitted by tenant address worker attempt slot seq);
        finds = λ by tenant address worker attempt slot seq is found. grind (arith, nat_tests, memory.late.finds by tenant address worker attempt slot seq);
        made = λ slot seq address is entry fresh. grind (arith, nat_tests, memory.late.made slot seq address);
        lose = λ by tenant address worker attempt slot seq is is_made found. grind (arith, nat_tests, memory.late.lose by tenant address worker attempt slot seq);
      };
      written = λ slot seq address is. grind (arith, nat_tests, memory.written slot seq address);
      fits = put_fits state.cells (New own entry) number memory.fits guard.fits;
    }
