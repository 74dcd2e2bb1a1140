-- Setting a row, and the moves that change only the history, keep the invariant of the shared words (`Memory`).
-- Used by: MovesKeepMemory.
use Rattle.std.proofs.Common.{ℕ, arith}
use Rattle.std.proofs.lemmas.Bool.Decides.{nat_tests}
use Rattle.mw_words.specs.declared.places.At.TheVariants.{Row as AtRow}
use Rattle.mw_words.specs.declared.rows.Row.{Row}
use Rattle.mw_actor.specs.declared.points.Slot.{Slot}
use Rattle.mw_world.specs.declared.config.Config.{Config}
use Rattle.mw_world.specs.Definition.History.{StandingAttempt, HoldPermission}
use Rattle.mw_world.specs.Definition.State.{State}
use Rattle.mw_law_runs.specs.Moves.Moves.{SetRow, SkipNumber, LeavePin, DecideFault, SetIntent, made}
use Rattle.mw_law_runs.specs.Moves.Guards.{Guard}
use Rattle.mw_law_runs.specs.Moves.Memory.{Memory}
use Rattle.mw_law_runs.proofs.Moves.Ranges.{put_fits}
use Rattle.mw_law_runs.proofs.Moves.Phases.{open_fresh}

pub row_keeps : (config : Config) (state : State) (mover : ℕ) (row : Row) → Guard config state mover (SetRow row) → Memory config state → Memory config (made state mover (SetRow row))
row_keeps config state mover row guard memory =
    record {
      claims = record {
        there = λ slot taken. grind (arith, nat_tests, memory.claims.there slot, guard.rests);
        claimed = λ slot taken. grind (arith, nat_tests, memory.claims.claimed slot, guard.rests);
        latest = λ slot seq is. grind (arith, nat_tests, memory.claims.latest slot seq, guard.rests);
        formed = λ slot seq is. grind (arith, nat_tests, memory.claims.formed slot seq, guard.rests);
        unclaimed = λ slot seq is. grind (arith, nat_tests, memory.claims.unclaimed slot seq, guard.rests);
        of_pool = λ slot seq is. grind (arith, nat_tests, memory.claims.of_pool slot seq, guard.rests);
        rows = λ worker. grind (arith, nat_tests, memory.claims.rows worker, guard.rests, guard.there);
      };
      slots = record {
        status = λ slot taken ready. grind (arith, nat_tests, memory.slots.status slot, guard.rests);
        count = λ slot taken ready. grind (arith, nat_tests, memory.slots.count slot, guard.rests);
        entries = λ slot index taken ready within. grind (arith, nat_tests, memory.slots.entries slot index, guard.rests);
      };
      references = record {
        held = λ tenant address slot seq is. grind (arith, nat_tests, memory.references.held tenant address slot seq, guard.rests);
        dirty = λ tenant address slot value is. grind (arith, nat_tests, memory.references.dirty tenant address slot value, guard.rests);
        planted = λ tenant address worker attempt is. grind (arith, nat_tests, memory.references.planted tenant address worker attempt, guard.rests);
      };
      attempts = record {
        once = λ tenant address other there worker attempt one two. grind (arith, nat_tests, memory.attempts.once tenant address other there worker attempt, guard.rests);
        numbers = λ worker tenant address attempt is. grind (arith, nat_tests, memory.attempts.numbers worker tenant address attempt, guard.rests);
        ready = λ worker tenant address attempt is draft. grind (arith, nat_tests, memory.attempts.ready worker tenant address attempt, guard.rests);
      };
      words = record {
        allowed = λ slot seq address is. grind (arith, nat_tests, memory.words.allowed slot seq address, guard.rests);
        others = λ slot seq address is. grind (arith, nat_tests, memory.words.others slot seq address, guard.rests);
        acquired = λ slot seq address is. grind (arith, nat_tests, memory.words.acquired slot seq address, guard.rests);
        was_written = λ slot seq address is. grind (arith, nat_tests, memory.words.was_written slot seq address, guard.rests);
      };
      late = record {
        permitted = λ by tenant address worker attempt slot seq is. grind (arith, nat_tests, memory.late.permitted by tenant address worker attempt slot seq, guard.rests);
        finds = λ by tenant address worker attempt slot seq is found. grind (arith, nat_tests, memory.late.finds by tenant address worker attempt slot seq, guard.rests, memory.references.planted tenant address worker attempt);
        made = λ slot seq address is entry fresh. grind (arith, nat_tests, memory.late.made slot seq address, guard.rests);
        lose = λ by tenant address worker attempt slot seq is is_made found. grind (arith, nat_tests, memory.late.lose by tenant address worker attempt slot seq, guard.rests, memory.references.planted tenant address worker attempt);
      };
      written = λ slot seq address is. grind (arith, nat_tests, memory.written slot seq address, guard.rests);
      fits = put_fits state.cells (AtRow mover) row memory.fits guard.fits;
    }

pub skip_number_keeps : (config : Config) (state : State) (mover : ℕ) (number : ℕ) → Guard config state mover (SkipNumber number) → Memory config state → Memory config (made state mover (SkipNumber number))
skip_number_keeps config state mover number guard memory =
    record {
      claims = record {
        there = λ slot taken. grind (arith, nat_tests, memory.claims.there slot);
        claimed = λ slot taken. grind (arith, nat_tests, memory.claims.claimed slot);
        latest = λ slot seq is. grind (arith, nat_tests, memory.claims.latest slot seq);
        formed = λ slot seq is. grind (arith, nat_tests, memory.claims.formed slot seq);
        unclaimed = λ slot seq is. grind (arith, nat_tests, memory.claims.unclaimed slot seq);
        of_pool = λ slot seq is. grind (arith, nat_tests, memory.claims.of_pool slot seq);
        rows = λ worker. grind (arith, nat_tests, memory.claims.rows worker);
      };
      slots = record {
        status = λ slot taken ready. grind (arith, nat_tests, memory.slots.status slot);
        count = λ slot taken ready. grind (arith, nat_tests, memory.slots.count slot);
        entries = λ slot index taken ready within. grind (arith, nat_tests, memory.slots.entries slot index);
      };
      references = record {
        held = λ tenant address slot seq is. grind (arith, nat_tests, memory.references.held tenant address slot seq);
        dirty = λ tenant address slot value is. grind (arith, nat_tests, memory.references.dirty tenant address slot value);
        planted = λ tenant address worker attempt is. grind (arith, nat_tests, memory.references.planted tenant address worker attempt, guard);
      };
      attempts = record {
        once = λ tenant address other there worker attempt one two. grind (arith, nat_tests, memory.attempts.once tenant address other there worker attempt);
        numbers = λ worker tenant address attempt is. grind (arith, nat_tests, memory.attempts.numbers worker tenant address attempt, guard);
        ready = λ worker tenant address attempt is draft. grind (arith, nat_tests, memory.attempts.ready worker tenant address attempt);
      };
      words = record {
        allowed = λ slot seq address is. grind (arith, nat_tests, memory.words.allowed slot seq address);
        others = λ slot seq address is. grind (arith, nat_tests, memory.words.others slot seq address);
        acquired = λ slot seq address is. grind (arith, nat_tests, memory.words.acquired slot seq address);
        was_written = λ slot seq address is. grind (arith, nat_tests, memory.words.was_written slot seq address);
      };
      late = record {
        permitted = λ by tenant address worker attempt slot seq is. grind (arith, nat_tests, memory.late.permitted by tenant address worker attempt slot seq, guard);
        finds = λ by tenant address worker attempt slot seq is found. grind (arith, nat_tests, memory.late.finds by tenant address worker attempt slot seq);
        made = λ slot seq address is entry fresh. grind (arith, nat_tests, memory.late.made slot seq address);
        lose = λ by tenant address worker attempt slot seq is is_made found. grind (arith, nat_tests, memory.late.lose by tenant address worker attempt slot seq);
      };
      written = λ slot seq address is. grind (arith, nat_tests, memory.written slot seq address);
      fits = memory.fits;
    }

pub leave_pin_keeps : (config : Config) (state : State) (mover : ℕ) (target : Slot) → Guard config state mover (LeavePin target) → Memory config state → Memory config (made state mover (LeavePin target))
leave_pin_keeps config state mover target guard memory =
    record {
      claims = record {
        there = λ slot taken. grind (arith, nat_tests, memory.claims.there slot);
        claimed = λ slot taken. grind (arith, nat_tests, memory.claims.claimed slot);
        latest = λ slot seq is. grind (arith, nat_tests, memory.claims.latest slot seq);
        formed = λ slot seq is. grind (arith, nat_tests, memory.claims.formed slot seq);
        unclaimed = λ slot seq is. grind (arith, nat_tests, memory.claims.unclaimed slot seq);
        of_pool = λ slot seq is. grind (arith, nat_tests, memory.claims.of_pool slot seq);
        rows = λ worker. grind (arith, nat_tests, memory.claims.rows worker);
      };
      slots = record {
        status = λ slot taken ready. grind (arith, nat_tests, memory.slots.status slot);
        count = λ slot taken ready. grind (arith, nat_tests, memory.slots.count slot);
        entries = λ slot index taken ready within. grind (arith, nat_tests, memory.slots.entries slot index);
      };
      references = record {
        held = λ tenant address slot seq is. grind (arith, nat_tests, memory.references.held tenant address slot seq);
        dirty = λ tenant address slot value is. grind (arith, nat_tests, memory.references.dirty tenant address slot value);
        planted = λ tenant address worker attempt is. grind (arith, nat_tests, memory.references.planted tenant address worker attempt);
      };
      attempts = record {
        once = λ tenant address other there worker attempt one two. grind (arith, nat_tests, memory.attempts.once tenant address other there worker attempt);
        numbers = λ worker tenant address attempt is. grind (arith, nat_tests, memory.attempts.numbers worker tenant address attempt);
        ready = λ worker tenant address attempt is draft. grind (arith, nat_tests, memory.attempts.ready worker tenant address attempt);
      };
      words = record {
        allowed = λ slot seq address is. grind (arith, nat_tests, memory.words.allowed slot seq address);
        others = λ slot seq address is. grind (arith, nat_tests, memory.words.others slot seq address);
        acquired = λ slot seq address is. grind (arith, nat_tests, memory.words.acquired slot seq address);
        was_written = λ slot seq address is. grind (arith, nat_tests, memory.words.was_written slot seq address);
      };
      late = record {
        permitted = λ by tenant address worker attempt slot seq is. grind (arith, nat_tests, memory.late.permitted by tenant address worker attempt slot seq);
        finds = λ by tenant address worker attempt slot seq is found. grind (arith, nat_tests, memory.late.finds by tenant address worker attempt slot seq);
        made = λ slot seq address is entry fresh. grind (arith, nat_tests, memory.late.made slot seq address);
        lose = λ by tenant address worker attempt slot seq is is_made found. grind (arith, nat_tests, memory.late.lose by tenant address worker attempt slot seq);
      };
      written = λ slot seq address is. grind (arith, nat_tests, memory.written slot seq address);
      fits = memory.fits;
    }

pub decide_fault_keeps : (config : Config) (state : State) (mover : ℕ) (target : Slot) → Guard config state mover (DecideFault target) → Memory config state → Memory config (made state mover (DecideFault target))
decide_fault_keeps config state mover target guard memory =
    record {
      claims = record {
        there = λ slot taken. grind (arith, nat_tests, memory.claims.there slot);
        claimed = λ slot taken. grind (arith, nat_tests, memory.claims.claimed slot);
        latest = λ slot seq is. grind (arith, nat_tests, memory.claims.latest slot seq);
        formed = λ slot seq is. grind (arith, nat_tests, memory.claims.formed slot seq);
        unclaimed = λ slot seq is. grind (arith, nat_tests, memory.claims.unclaimed slot seq);
        of_pool = λ slot seq is. grind (arith, nat_tests, memory.claims.of_pool slot seq);
        rows = λ worker. grind (arith, nat_tests, memory.claims.rows worker);
      };
      slots = record {
        status = λ slot taken ready. grind (arith, nat_tests, memory.slots.status slot);
        count = λ slot taken ready. grind (arith, nat_tests, memory.slots.count slot);
        entries = λ slot index taken ready within. grind (arith, nat_tests, memory.slots.entries slot index);
      };
      references = record {
        held = λ tenant address slot seq is. grind (arith, nat_tests, memory.references.held tenant address slot seq);
        dirty = λ tenant address slot value is. grind (arith, nat_tests, memory.references.dirty tenant address slot value);
        planted = λ tenant address worker attempt is. grind (arith, nat_tests, memory.references.planted tenant address worker attempt);
      };
      attempts = record {
        once = λ tenant address other there worker attempt one two. grind (arith, nat_tests, memory.attempts.once tenant address other there worker attempt);
        numbers = λ worker tenant address attempt is. grind (arith, nat_tests, memory.attempts.numbers worker tenant address attempt);
        ready = λ worker tenant address attempt is draft. grind (arith, nat_tests, memory.attempts.ready worker tenant address attempt);
      };
      words = record {
        allowed = λ slot seq address is. grind (arith, nat_tests, memory.words.allowed slot seq address);
        others = λ slot seq address is. grind (arith, nat_tests, memory.words.others slot seq address);
        acquired = λ slot seq address is. grind (arith, nat_tests, memory.words.acquired slot seq address);
        was_written = λ slot seq address is. grind (arith, nat_tests, memory.words.was_written slot seq address);
      };
      late = record {
        permitted = λ by tenant address worker attempt slot seq is. grind (arith, nat_tests, memory.late.permitted by tenant address worker attempt slot seq);
        finds = λ by tenant address worker attempt slot seq is found. grind (arith, nat_tests, memory.late.finds by tenant address worker attempt slot seq);
        made = λ slot seq address is entry fresh. grind (arith, nat_tests, memory.late.made slot seq address);
        lose = λ by tenant address worker attempt slot seq is is_made found. grind (arith, nat_tests, memory.late.lose by tenant address worker attempt slot seq);
      };
      written = λ slot seq address is. grind (arith, nat_tests, memory.written slot seq address);
      fits = memory.fits;
    }

pub set_intent_keeps : (config : Config) (state : State) (mover : ℕ) (standing : StandingAttempt) (permission : HoldPermission) → Guard config state mover (SetIntent standing permission) → Memory config state → Memory config (made state mover (SetIntent standing permission))
set_intent_keeps config state mover standing permission guard memory =
    record {
      claims = record {
        there = λ slot taken. grind (arith, nat_tests, memory.claims.there slot);
        claimed = λ slot taken. grind (arith, nat_tests, memory.claims.claimed slot);
        latest = λ slot seq is. grind (arith, nat_tests, memory.claims.latest slot seq);
        formed = λ slot seq is. grind (arith, nat_tests, memory.claims.formed slot seq);
        unclaimed = λ slot seq is. grind (arith, nat_tests, memory.claims.unclaimed slot seq);
        of_pool = λ slot seq is. grind (arith, nat_tests, memory.claims.of_pool slot seq);
        rows = λ worker. grind (arith, nat_tests, memory.claims.rows worker);
      };
      slots = record {
        status = λ slot taken ready. grind (arith, nat_tests, memory.slots.status slot);
        count = λ slot taken ready. grind (arith, nat_tests, memory.slots.count slot);
        entries = λ slot index taken ready within. grind (arith, nat_tests, memory.slots.entries slot index);
      };
      references = record {
        held = λ tenant address slot seq is. grind (arith, nat_tests, memory.references.held tenant address slot seq);
        dirty = λ tenant address slot value is. grind (arith, nat_tests, memory.references.dirty tenant address slot value);
        planted = λ tenant address worker attempt is. grind (arith, nat_tests, memory.references.planted tenant address worker attempt, guard.still tenant address attempt);
      };
      attempts = record {
        once = λ tenant address other there worker attempt one two. grind (arith, nat_tests, memory.attempts.once tenant address other there worker attempt);
        numbers = λ worker tenant address attempt is. grind (arith, nat_tests, memory.attempts.numbers worker tenant address attempt, guard.was_given tenant address attempt);
        ready = λ worker tenant address attempt is draft. grind (arith, nat_tests, memory.attempts.ready worker tenant address attempt, guard.ready tenant address attempt);
      };
      words = record {
        allowed = λ slot seq address is. grind (arith, nat_tests, memory.words.allowed slot seq address);
        others = λ slot seq address is. grind (arith, nat_tests, memory.words.others slot seq address);
        acquired = λ slot seq address is. grind (arith, nat_tests, memory.words.acquired slot seq address);
        was_written = λ slot seq address is. grind (arith, nat_tests, memory.words.was_written slot seq address);
      };
      late = record {
        permitted = λ by tenant address worker attempt slot seq is. grind (arith, nat_tests, memory.late.permitted by tenant address worker attempt slot seq, guard.permissions tenant address worker attempt slot seq);
        finds = λ by tenant address worker attempt slot seq is found. grind (arith, nat_tests, memory.late.finds by tenant address worker attempt slot seq, guard.permissions tenant address worker attempt slot seq, memory.words.allowed slot seq address, memory.words.acquired slot seq address, open_fresh (state.history.fate slot seq) (state.history.phase slot seq address));
        made = λ slot seq address is entry fresh. grind (arith, nat_tests, memory.late.made slot seq address);
        lose = λ by tenant address worker attempt slot seq is is_made found. grind (arith, nat_tests, memory.late.lose by tenant address worker attempt slot seq, guard.permissions tenant address worker attempt slot seq);
      };
      written = λ slot seq address is. grind (arith, nat_tests, memory.written slot seq address);
      fits = memory.fits;
    }
