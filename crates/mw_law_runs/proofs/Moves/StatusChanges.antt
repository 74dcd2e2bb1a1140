-- Giving a change another status keeps the invariant of the shared words (`Memory`). Used by: MovesKeepMemory.
use Rattle.std.proofs.Common.{ℕ, arith}
use Rattle.std.proofs.lemmas.Bool.Decides.{nat_tests}
use Rattle.mw_words.specs.declared.places.At.TheVariants.{Status as AtStatus}
use Rattle.mw_words.specs.declared.statuses.Status.TheVariants.{Open, YesDirty, Yes, No, DoneYes, DoneNo}
use Rattle.mw_actor.specs.declared.points.Slot.{Slot}
use Rattle.mw_world.specs.declared.config.Config.{Config}
use Rattle.mw_world.specs.Definition.State.{State}
use Rattle.mw_law_runs.specs.Moves.Moves.{Prepare, SayYes, SayNo, Seal, Settle, Cancel, made}
use Rattle.mw_law_runs.specs.Moves.Guards.{Guard}
use Rattle.mw_law_runs.specs.Moves.Memory.{Memory}
use Rattle.mw_law_runs.proofs.Moves.Ranges.{put_fits, refused_fits}
use Rattle.mw_law_runs.proofs.Moves.Phases.{opens, refuses, seals, settles, cancels}

pub prepare_keeps : (config : Config) (state : State) (mover : ℕ) (target : Slot) → Guard config state mover (Prepare target) → Memory config state → Memory config (made state mover (Prepare target))
prepare_keeps config state mover target guard memory =
    record {
      claims = record {
        there = λ slot taken. grind (arith, nat_tests, memory.claims.there slot, guard.live.taken, guard.live.seq, guard.draft);
        claimed = λ slot taken. grind (arith, nat_tests, memory.claims.claimed slot, guard.live.taken, guard.live.seq, guard.draft);
        latest = λ slot seq is. grind (arith, nat_tests, memory.claims.latest slot seq, guard.live.taken, guard.live.seq, guard.draft);
        formed = λ slot seq is. grind (arith, nat_tests, memory.claims.formed slot seq, guard.live.taken, guard.live.seq, guard.draft);
        unclaimed = λ slot seq is. grind (arith, nat_tests, memory.claims.unclaimed slot seq, guard.live.taken, guard.live.seq, guard.draft, memory.claims.claimed target.slot);
        of_pool = λ slot seq is. grind (arith, nat_tests, memory.claims.of_pool slot seq, guard.live.taken, guard.live.seq, guard.draft);
        rows = λ worker. grind (arith, nat_tests, memory.claims.rows worker, guard.live.taken, guard.live.seq, guard.draft);
      };
      slots = record {
        status = λ slot taken ready. grind (arith, nat_tests, memory.slots.status slot, guard.live.taken, guard.live.seq, guard.draft);
        count = λ slot taken ready. grind (arith, nat_tests, memory.slots.count slot, guard.live.taken, guard.live.seq, guard.draft, guard.count);
        entries = λ slot index taken ready within. grind (arith, nat_tests, memory.slots.entries slot index, guard.live.taken, guard.live.seq, guard.draft, guard.entries index);
      };
      references = record {
        held = λ tenant address slot seq is. grind (arith, nat_tests, memory.references.held tenant address slot seq, guard.live.taken, guard.live.seq, guard.draft);
        dirty = λ tenant address slot value is. grind (arith, nat_tests, memory.references.dirty tenant address slot value, guard.live.taken, guard.live.seq, guard.draft);
        planted = λ tenant address worker attempt is. grind (arith, nat_tests, memory.references.planted tenant address worker attempt, guard.live.taken, guard.live.seq, guard.draft);
      };
      attempts = record {
        once = λ tenant address other there worker attempt one two. grind (arith, nat_tests, memory.attempts.once tenant address other there worker attempt, guard.live.taken, guard.live.seq, guard.draft);
        numbers = λ worker tenant address attempt is. grind (arith, nat_tests, memory.attempts.numbers worker tenant address attempt, guard.live.taken, guard.live.seq, guard.draft);
        ready = λ worker tenant address attempt is draft. grind (arith, nat_tests, memory.attempts.ready worker tenant address attempt, guard.live.taken, guard.live.seq, guard.draft);
      };
      words = record {
        allowed = λ slot seq address is. grind (arith, nat_tests, memory.words.allowed slot seq address, guard.live.taken, guard.live.seq, guard.draft, opens (state.history.phase slot seq address));
        others = λ slot seq address is. grind (arith, nat_tests, memory.words.others slot seq address, guard.live.taken, guard.live.seq, guard.draft);
        acquired = λ slot seq address is. grind (arith, nat_tests, memory.words.acquired slot seq address, guard.live.taken, guard.live.seq, guard.draft);
        was_written = λ slot seq address is. grind (arith, nat_tests, memory.words.was_written slot seq address, guard.live.taken, guard.live.seq, guard.draft);
      };
      late = record {
        permitted = λ by tenant address worker attempt slot seq is. grind (arith, nat_tests, memory.late.permitted by tenant address worker attempt slot seq, guard.live.taken, guard.live.seq, guard.draft);
        finds = λ by tenant address worker attempt slot seq is found. grind (arith, nat_tests, memory.late.finds by tenant address worker attempt slot seq, guard.live.taken, guard.live.seq, guard.draft);
        made = λ slot seq address is entry fresh. grind (arith, nat_tests, memory.late.made slot seq address, guard.live.taken, guard.live.seq, guard.draft);
        lose = λ by tenant address worker attempt slot seq is is_made found. grind (arith, nat_tests, memory.late.lose by tenant address worker attempt slot seq, guard.live.taken, guard.live.seq, guard.draft);
      };
      written = λ slot seq address is. grind (arith, nat_tests, memory.written slot seq address, guard.live.taken, guard.live.seq, guard.draft);
      fits = put_fits state.cells (AtStatus target.slot) Open memory.fits tt;
    }

pub say_yes_keeps : (config : Config) (state : State) (mover : ℕ) (target : Slot) → Guard config state mover (SayYes target) → Memory config state → Memory config (made state mover (SayYes target))
say_yes_keeps config state mover target guard memory =
    record {
      claims = record {
        there = λ slot taken. grind (arith, nat_tests, memory.claims.there slot, guard.live.taken, guard.live.seq, guard.is_open);
        claimed = λ slot taken. grind (arith, nat_tests, memory.claims.claimed slot, guard.live.taken, guard.live.seq, guard.is_open);
        latest = λ slot seq is. grind (arith, nat_tests, memory.claims.latest slot seq, guard.live.taken, guard.live.seq, guard.is_open);
        formed = λ slot seq is. grind (arith, nat_tests, memory.claims.formed slot seq, guard.live.taken, guard.live.seq, guard.is_open);
        unclaimed = λ slot seq is. grind (arith, nat_tests, memory.claims.unclaimed slot seq, guard.live.taken, guard.live.seq, guard.is_open, memory.claims.claimed target.slot);
        of_pool = λ slot seq is. grind (arith, nat_tests, memory.claims.of_pool slot seq, guard.live.taken, guard.live.seq, guard.is_open);
        rows = λ worker. grind (arith, nat_tests, memory.claims.rows worker, guard.live.taken, guard.live.seq, guard.is_open);
      };
      slots = record {
        status = λ slot taken ready. grind (arith, nat_tests, memory.slots.status slot, guard.live.taken, guard.live.seq, guard.is_open);
        count = λ slot taken ready. grind (arith, nat_tests, memory.slots.count slot, guard.live.taken, guard.live.seq, guard.is_open);
        entries = λ slot index taken ready within. grind (arith, nat_tests, memory.slots.entries slot index, guard.live.taken, guard.live.seq, guard.is_open);
      };
      references = record {
        held = λ tenant address slot seq is. grind (arith, nat_tests, memory.references.held tenant address slot seq, guard.live.taken, guard.live.seq, guard.is_open);
        dirty = λ tenant address slot value is. grind (arith, nat_tests, memory.references.dirty tenant address slot value, guard.live.taken, guard.live.seq, guard.is_open);
        planted = λ tenant address worker attempt is. grind (arith, nat_tests, memory.references.planted tenant address worker attempt, guard.live.taken, guard.live.seq, guard.is_open);
      };
      attempts = record {
        once = λ tenant address other there worker attempt one two. grind (arith, nat_tests, memory.attempts.once tenant address other there worker attempt, guard.live.taken, guard.live.seq, guard.is_open);
        numbers = λ worker tenant address attempt is. grind (arith, nat_tests, memory.attempts.numbers worker tenant address attempt, guard.live.taken, guard.live.seq, guard.is_open);
        ready = λ worker tenant address attempt is draft. grind (arith, nat_tests, memory.attempts.ready worker tenant address attempt, guard.live.taken, guard.live.seq, guard.is_open);
      };
      words = record {
        allowed = λ slot seq address is. grind (arith, nat_tests, memory.words.allowed slot seq address, guard.live.taken, guard.live.seq, guard.is_open, guard.keeps address);
        others = λ slot seq address is. grind (arith, nat_tests, memory.words.others slot seq address, guard.live.taken, guard.live.seq, guard.is_open);
        acquired = λ slot seq address is. grind (arith, nat_tests, memory.words.acquired slot seq address, guard.live.taken, guard.live.seq, guard.is_open);
        was_written = λ slot seq address is. grind (arith, nat_tests, memory.words.was_written slot seq address, guard.live.taken, guard.live.seq, guard.is_open);
      };
      late = record {
        permitted = λ by tenant address worker attempt slot seq is. grind (arith, nat_tests, memory.late.permitted by tenant address worker attempt slot seq, guard.live.taken, guard.live.seq, guard.is_open);
        finds = λ by tenant address worker attempt slot seq is found. grind (arith, nat_tests, memory.late.finds by tenant address worker attempt slot seq, guard.live.taken, guard.live.seq, guard.is_open);
        made = λ slot seq address is entry fresh. grind (arith, nat_tests, memory.late.made slot seq address, guard.live.taken, guard.live.seq, guard.is_open, guard.keeps address);
        lose = λ by tenant address worker attempt slot seq is is_made found. grind (arith, nat_tests, memory.late.lose by tenant address worker attempt slot seq, guard.live.taken, guard.live.seq, guard.is_open, guard.keeps address, memory.late.permitted by tenant address worker attempt slot seq, memory.late.finds by tenant address worker attempt slot seq);
      };
      written = λ slot seq address is. grind (arith, nat_tests, memory.written slot seq address, guard.live.taken, guard.live.seq, guard.is_open);
      fits = put_fits state.cells (AtStatus target.slot) YesDirty memory.fits tt;
    }

pub say_no_keeps : (config : Config) (state : State) (mover : ℕ) (target : Slot) (entry : ℕ) (value_there : ℕ) → Guard config state mover (SayNo target entry value_there) → Memory config state → Memory config (made state mover (SayNo target entry value_there))
say_no_keeps config state mover target entry value_there guard memory =
    record {
      claims = record {
        there = λ slot taken. grind (arith, nat_tests, memory.claims.there slot, guard.live.taken, guard.live.seq, guard.is_open);
        claimed = λ slot taken. grind (arith, nat_tests, memory.claims.claimed slot, guard.live.taken, guard.live.seq, guard.is_open);
        latest = λ slot seq is. grind (arith, nat_tests, memory.claims.latest slot seq, guard.live.taken, guard.live.seq, guard.is_open);
        formed = λ slot seq is. grind (arith, nat_tests, memory.claims.formed slot seq, guard.live.taken, guard.live.seq, guard.is_open);
        unclaimed = λ slot seq is. grind (arith, nat_tests, memory.claims.unclaimed slot seq, guard.live.taken, guard.live.seq, guard.is_open, memory.claims.claimed target.slot);
        of_pool = λ slot seq is. grind (arith, nat_tests, memory.claims.of_pool slot seq, guard.live.taken, guard.live.seq, guard.is_open);
        rows = λ worker. grind (arith, nat_tests, memory.claims.rows worker, guard.live.taken, guard.live.seq, guard.is_open);
      };
      slots = record {
        status = λ slot taken ready. grind (arith, nat_tests, memory.slots.status slot, guard.live.taken, guard.live.seq, guard.is_open);
        count = λ slot taken ready. grind (arith, nat_tests, memory.slots.count slot, guard.live.taken, guard.live.seq, guard.is_open);
        entries = λ slot index taken ready within. grind (arith, nat_tests, memory.slots.entries slot index, guard.live.taken, guard.live.seq, guard.is_open);
      };
      references = record {
        held = λ tenant address slot seq is. grind (arith, nat_tests, memory.references.held tenant address slot seq, guard.live.taken, guard.live.seq, guard.is_open);
        dirty = λ tenant address slot value is. grind (arith, nat_tests, memory.references.dirty tenant address slot value, guard.live.taken, guard.live.seq, guard.is_open);
        planted = λ tenant address worker attempt is. grind (arith, nat_tests, memory.references.planted tenant address worker attempt, guard.live.taken, guard.live.seq, guard.is_open);
      };
      attempts = record {
        once = λ tenant address other there worker attempt one two. grind (arith, nat_tests, memory.attempts.once tenant address other there worker attempt, guard.live.taken, guard.live.seq, guard.is_open);
        numbers = λ worker tenant address attempt is. grind (arith, nat_tests, memory.attempts.numbers worker tenant address attempt, guard.live.taken, guard.live.seq, guard.is_open);
        ready = λ worker tenant address attempt is draft. grind (arith, nat_tests, memory.attempts.ready worker tenant address attempt, guard.live.taken, guard.live.seq, guard.is_open);
      };
      words = record {
        allowed = λ slot seq address is. grind (arith, nat_tests, memory.words.allowed slot seq address, guard.live.taken, guard.live.seq, guard.is_open, refuses entry value_there (state.history.phase slot seq address));
        others = λ slot seq address is. grind (arith, nat_tests, memory.words.others slot seq address, guard.live.taken, guard.live.seq, guard.is_open);
        acquired = λ slot seq address is. grind (arith, nat_tests, memory.words.acquired slot seq address, guard.live.taken, guard.live.seq, guard.is_open);
        was_written = λ slot seq address is. grind (arith, nat_tests, memory.words.was_written slot seq address, guard.live.taken, guard.live.seq, guard.is_open);
      };
      late = record {
        permitted = λ by tenant address worker attempt slot seq is. grind (arith, nat_tests, memory.late.permitted by tenant address worker attempt slot seq, guard.live.taken, guard.live.seq, guard.is_open);
        finds = λ by tenant address worker attempt slot seq is found. grind (arith, nat_tests, memory.late.finds by tenant address worker attempt slot seq, guard.live.taken, guard.live.seq, guard.is_open);
        made = λ slot seq address is entry fresh. grind (arith, nat_tests, memory.late.made slot seq address, guard.live.taken, guard.live.seq, guard.is_open);
        lose = λ by tenant address worker attempt slot seq is is_made found. grind (arith, nat_tests, memory.late.lose by tenant address worker attempt slot seq, guard.live.taken, guard.live.seq, guard.is_open);
      };
      written = λ slot seq address is. grind (arith, nat_tests, memory.written slot seq address, guard.live.taken, guard.live.seq, guard.is_open);
      fits = put_fits state.cells (AtStatus target.slot) (No entry value_there) memory.fits guard.fits;
    }

pub seal_keeps : (config : Config) (state : State) (mover : ℕ) (target : Slot) → Guard config state mover (Seal target) → Memory config state → Memory config (made state mover (Seal target))
seal_keeps config state mover target guard memory =
    record {
      claims = record {
        there = λ slot taken. grind (arith, nat_tests, memory.claims.there slot, guard.live.taken, guard.live.seq, guard.decided);
        claimed = λ slot taken. grind (arith, nat_tests, memory.claims.claimed slot, guard.live.taken, guard.live.seq, guard.decided);
        latest = λ slot seq is. grind (arith, nat_tests, memory.claims.latest slot seq, guard.live.taken, guard.live.seq, guard.decided);
        formed = λ slot seq is. grind (arith, nat_tests, memory.claims.formed slot seq, guard.live.taken, guard.live.seq, guard.decided);
        unclaimed = λ slot seq is. grind (arith, nat_tests, memory.claims.unclaimed slot seq, guard.live.taken, guard.live.seq, guard.decided, memory.claims.claimed target.slot);
        of_pool = λ slot seq is. grind (arith, nat_tests, memory.claims.of_pool slot seq, guard.live.taken, guard.live.seq, guard.decided);
        rows = λ worker. grind (arith, nat_tests, memory.claims.rows worker, guard.live.taken, guard.live.seq, guard.decided);
      };
      slots = record {
        status = λ slot taken ready. grind (arith, nat_tests, memory.slots.status slot, guard.live.taken, guard.live.seq, guard.decided);
        count = λ slot taken ready. grind (arith, nat_tests, memory.slots.count slot, guard.live.taken, guard.live.seq, guard.decided);
        entries = λ slot index taken ready within. grind (arith, nat_tests, memory.slots.entries slot index, guard.live.taken, guard.live.seq, guard.decided);
      };
      references = record {
        held = λ tenant address slot seq is. grind (arith, nat_tests, memory.references.held tenant address slot seq, guard.live.taken, guard.live.seq, guard.decided);
        dirty = λ tenant address slot value is. grind (arith, nat_tests, memory.references.dirty tenant address slot value, guard.live.taken, guard.live.seq, guard.decided);
        planted = λ tenant address worker attempt is. grind (arith, nat_tests, memory.references.planted tenant address worker attempt, guard.live.taken, guard.live.seq, guard.decided);
      };
      attempts = record {
        once = λ tenant address other there worker attempt one two. grind (arith, nat_tests, memory.attempts.once tenant address other there worker attempt, guard.live.taken, guard.live.seq, guard.decided);
        numbers = λ worker tenant address attempt is. grind (arith, nat_tests, memory.attempts.numbers worker tenant address attempt, guard.live.taken, guard.live.seq, guard.decided);
        ready = λ worker tenant address attempt is draft. grind (arith, nat_tests, memory.attempts.ready worker tenant address attempt, guard.live.taken, guard.live.seq, guard.decided);
      };
      words = record {
        allowed = λ slot seq address is. grind (arith, nat_tests, memory.words.allowed slot seq address, guard.live.taken, guard.live.seq, guard.decided, seals (state.history.phase slot seq address));
        others = λ slot seq address is. grind (arith, nat_tests, memory.words.others slot seq address, guard.live.taken, guard.live.seq, guard.decided);
        acquired = λ slot seq address is. grind (arith, nat_tests, memory.words.acquired slot seq address, guard.live.taken, guard.live.seq, guard.decided);
        was_written = λ slot seq address is. grind (arith, nat_tests, memory.words.was_written slot seq address, guard.live.taken, guard.live.seq, guard.decided);
      };
      late = record {
        permitted = λ by tenant address worker attempt slot seq is. grind (arith, nat_tests, memory.late.permitted by tenant address worker attempt slot seq, guard.live.taken, guard.live.seq, guard.decided);
        finds = λ by tenant address worker attempt slot seq is found. grind (arith, nat_tests, memory.late.finds by tenant address worker attempt slot seq, guard.live.taken, guard.live.seq, guard.decided);
        made = λ slot seq address is entry fresh. grind (arith, nat_tests, memory.late.made slot seq address, guard.live.taken, guard.live.seq, guard.decided);
        lose = λ by tenant address worker attempt slot seq is is_made found. grind (arith, nat_tests, memory.late.lose by tenant address worker attempt slot seq, guard.live.taken, guard.live.seq, guard.decided);
      };
      written = λ slot seq address is. grind (arith, nat_tests, memory.written slot seq address, guard.live.taken, guard.live.seq, guard.decided);
      fits = put_fits state.cells (AtStatus target.slot) Yes memory.fits tt;
    }

pub settle_keeps : (config : Config) (state : State) (mover : ℕ) (target : Slot) → Guard config state mover (Settle target) → Memory config state → Memory config (made state mover (Settle target))
settle_keeps config state mover target guard memory =
    record {
      claims = record {
        there = λ slot taken. grind (arith, nat_tests, memory.claims.there slot, guard.live.taken, guard.live.seq, guard.is_made);
        claimed = λ slot taken. grind (arith, nat_tests, memory.claims.claimed slot, guard.live.taken, guard.live.seq, guard.is_made);
        latest = λ slot seq is. grind (arith, nat_tests, memory.claims.latest slot seq, guard.live.taken, guard.live.seq, guard.is_made);
        formed = λ slot seq is. grind (arith, nat_tests, memory.claims.formed slot seq, guard.live.taken, guard.live.seq, guard.is_made);
        unclaimed = λ slot seq is. grind (arith, nat_tests, memory.claims.unclaimed slot seq, guard.live.taken, guard.live.seq, guard.is_made, memory.claims.claimed target.slot);
        of_pool = λ slot seq is. grind (arith, nat_tests, memory.claims.of_pool slot seq, guard.live.taken, guard.live.seq, guard.is_made);
        rows = λ worker. grind (arith, nat_tests, memory.claims.rows worker, guard.live.taken, guard.live.seq, guard.is_made);
      };
      slots = record {
        status = λ slot taken ready. grind (arith, nat_tests, memory.slots.status slot, guard.live.taken, guard.live.seq, guard.is_made);
        count = λ slot taken ready. grind (arith, nat_tests, memory.slots.count slot, guard.live.taken, guard.live.seq, guard.is_made);
        entries = λ slot index taken ready within. grind (arith, nat_tests, memory.slots.entries slot index, guard.live.taken, guard.live.seq, guard.is_made);
      };
      references = record {
        held = λ tenant address slot seq is. grind (arith, nat_tests, memory.references.held tenant address slot seq, guard.live.taken, guard.live.seq, guard.is_made, guard.let_go address);
        dirty = λ tenant address slot value is. grind (arith, nat_tests, memory.references.dirty tenant address slot value, guard.live.taken, guard.live.seq, guard.is_made);
        planted = λ tenant address worker attempt is. grind (arith, nat_tests, memory.references.planted tenant address worker attempt, guard.live.taken, guard.live.seq, guard.is_made);
      };
      attempts = record {
        once = λ tenant address other there worker attempt one two. grind (arith, nat_tests, memory.attempts.once tenant address other there worker attempt, guard.live.taken, guard.live.seq, guard.is_made);
        numbers = λ worker tenant address attempt is. grind (arith, nat_tests, memory.attempts.numbers worker tenant address attempt, guard.live.taken, guard.live.seq, guard.is_made);
        ready = λ worker tenant address attempt is draft. grind (arith, nat_tests, memory.attempts.ready worker tenant address attempt, guard.live.taken, guard.live.seq, guard.is_made);
      };
      words = record {
        allowed = λ slot seq address is. grind (arith, nat_tests, memory.words.allowed slot seq address, guard.live.taken, guard.live.seq, guard.is_made, settles (state.history.phase slot seq address), guard.let_go address);
        others = λ slot seq address is. grind (arith, nat_tests, memory.words.others slot seq address, guard.live.taken, guard.live.seq, guard.is_made);
        acquired = λ slot seq address is. grind (arith, nat_tests, memory.words.acquired slot seq address, guard.live.taken, guard.live.seq, guard.is_made);
        was_written = λ slot seq address is. grind (arith, nat_tests, memory.words.was_written slot seq address, guard.live.taken, guard.live.seq, guard.is_made);
      };
      late = record {
        permitted = λ by tenant address worker attempt slot seq is. grind (arith, nat_tests, memory.late.permitted by tenant address worker attempt slot seq, guard.live.taken, guard.live.seq, guard.is_made);
        finds = λ by tenant address worker attempt slot seq is found. grind (arith, nat_tests, memory.late.finds by tenant address worker attempt slot seq, guard.live.taken, guard.live.seq, guard.is_made);
        made = λ slot seq address is entry fresh. grind (arith, nat_tests, memory.late.made slot seq address, guard.live.taken, guard.live.seq, guard.is_made);
        lose = λ by tenant address worker attempt slot seq is is_made found. grind (arith, nat_tests, memory.late.lose by tenant address worker attempt slot seq, guard.live.taken, guard.live.seq, guard.is_made);
      };
      written = λ slot seq address is. grind (arith, nat_tests, memory.written slot seq address, guard.live.taken, guard.live.seq, guard.is_made);
      fits = put_fits state.cells (AtStatus target.slot) DoneYes memory.fits tt;
    }

pub cancel_keeps : (config : Config) (state : State) (mover : ℕ) (target : Slot) (entry : ℕ) (value_there : ℕ) → Guard config state mover (Cancel target entry value_there) → Memory config state → Memory config (made state mover (Cancel target entry value_there))
cancel_keeps config state mover target entry value_there guard memory =
    record {
      claims = record {
        there = λ slot taken. grind (arith, nat_tests, memory.claims.there slot, guard.live.taken, guard.live.seq, guard.refused);
        claimed = λ slot taken. grind (arith, nat_tests, memory.claims.claimed slot, guard.live.taken, guard.live.seq, guard.refused);
        latest = λ slot seq is. grind (arith, nat_tests, memory.claims.latest slot seq, guard.live.taken, guard.live.seq, guard.refused);
        formed = λ slot seq is. grind (arith, nat_tests, memory.claims.formed slot seq, guard.live.taken, guard.live.seq, guard.refused);
        unclaimed = λ slot seq is. grind (arith, nat_tests, memory.claims.unclaimed slot seq, guard.live.taken, guard.live.seq, guard.refused, memory.claims.claimed target.slot);
        of_pool = λ slot seq is. grind (arith, nat_tests, memory.claims.of_pool slot seq, guard.live.taken, guard.live.seq, guard.refused);
        rows = λ worker. grind (arith, nat_tests, memory.claims.rows worker, guard.live.taken, guard.live.seq, guard.refused);
      };
      slots = record {
        status = λ slot taken ready. grind (arith, nat_tests, memory.slots.status slot, guard.live.taken, guard.live.seq, guard.refused);
        count = λ slot taken ready. grind (arith, nat_tests, memory.slots.count slot, guard.live.taken, guard.live.seq, guard.refused);
        entries = λ slot index taken ready within. grind (arith, nat_tests, memory.slots.entries slot index, guard.live.taken, guard.live.seq, guard.refused);
      };
      references = record {
        held = λ tenant address slot seq is. grind (arith, nat_tests, memory.references.held tenant address slot seq, guard.live.taken, guard.live.seq, guard.refused);
        dirty = λ tenant address slot value is. grind (arith, nat_tests, memory.references.dirty tenant address slot value, guard.live.taken, guard.live.seq, guard.refused);
        planted = λ tenant address worker attempt is. grind (arith, nat_tests, memory.references.planted tenant address worker attempt, guard.live.taken, guard.live.seq, guard.refused);
      };
      attempts = record {
        once = λ tenant address other there worker attempt one two. grind (arith, nat_tests, memory.attempts.once tenant address other there worker attempt, guard.live.taken, guard.live.seq, guard.refused);
        numbers = λ worker tenant address attempt is. grind (arith, nat_tests, memory.attempts.numbers worker tenant address attempt, guard.live.taken, guard.live.seq, guard.refused);
        ready = λ worker tenant address attempt is draft. grind (arith, nat_tests, memory.attempts.ready worker tenant address attempt, guard.live.taken, guard.live.seq, guard.refused);
      };
      words = record {
        allowed = λ slot seq address is. grind (arith, nat_tests, memory.words.allowed slot seq address, guard.live.taken, guard.live.seq, guard.refused, cancels entry value_there (state.history.phase slot seq address));
        others = λ slot seq address is. grind (arith, nat_tests, memory.words.others slot seq address, guard.live.taken, guard.live.seq, guard.refused);
        acquired = λ slot seq address is. grind (arith, nat_tests, memory.words.acquired slot seq address, guard.live.taken, guard.live.seq, guard.refused);
        was_written = λ slot seq address is. grind (arith, nat_tests, memory.words.was_written slot seq address, guard.live.taken, guard.live.seq, guard.refused);
      };
      late = record {
        permitted = λ by tenant address worker attempt slot seq is. grind (arith, nat_tests, memory.late.permitted by tenant address worker attempt slot seq, guard.live.taken, guard.live.seq, guard.refused);
        finds = λ by tenant address worker attempt slot seq is found. grind (arith, nat_tests, memory.late.finds by tenant address worker attempt slot seq, guard.live.taken, guard.live.seq, guard.refused);
        made = λ slot seq address is entry fresh. grind (arith, nat_tests, memory.late.made slot seq address, guard.live.taken, guard.live.seq, guard.refused);
        lose = λ by tenant address worker attempt slot seq is is_made found. grind (arith, nat_tests, memory.late.lose by tenant address worker attempt slot seq, guard.live.taken, guard.live.seq, guard.refused);
      };
      written = λ slot seq address is. grind (arith, nat_tests, memory.written slot seq address, guard.live.taken, guard.live.seq, guard.refused);
      fits = put_fits state.cells (AtStatus target.slot) (DoneNo entry value_there) memory.fits (refused_fits config state target entry value_there guard memory);
    }
