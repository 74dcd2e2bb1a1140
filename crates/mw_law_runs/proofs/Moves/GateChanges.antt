-- Claiming, pinning, unpinning and freeing a slot keep the invariant of the shared words (`Memory`). Used by: MovesKeepMemory.
use Rattle.std.proofs.Common.{◌≡◌, ℕ, List, arith}
use Rattle.std.proofs.lemmas.Bool.Decides.{nat_tests}
use Rattle.mw_words.specs.declared.jobs.Entry.{Entry}
use Rattle.mw_words.specs.declared.places.At.TheVariants.{Gate as AtGate}
use Rattle.mw_words.specs.declared.gates.Gate.{Gate}
use Rattle.mw_words.specs.declared.statuses.Status.TheVariants.{Draft}
use Rattle.mw_pool.specs.Moves.{after_unpin}
use Rattle.mw_pool.proofs.MoveLaws.{unpin_is}
use Rattle.mw_actor.specs.declared.points.Slot.{Slot}
use Rattle.mw_world.specs.declared.config.Config.{Config}
use Rattle.mw_world.specs.declared.step_labels.Phase.TheVariants.{Fresh}
use Rattle.mw_world.specs.Definition.History.{new}
use Rattle.mw_world.specs.Definition.State.{State}
use Rattle.mw_law_runs.specs.Moves.Moves.{Claim, Pin, Unpin, Free, made}
use Rattle.mw_law_runs.specs.Moves.Guards.{Guard}
use Rattle.mw_law_runs.specs.Moves.Memory.{Memory}
use Rattle.mw_law_runs.proofs.Moves.Ranges.{put_fits}
use Rattle.mw_law_runs.proofs.Moves.Phases.{draft_fresh, claimed_draft}

pub claim_keeps : (config : Config) (state : State) (mover : ℕ) (own : Slot) (gate : Gate) (at_tenant : ℕ) (request : ℕ) (entries : List Entry) → Guard config state mover (Claim own gate at_tenant request entries) → Memory config state → Memory config (made state mover (Claim own gate at_tenant request entries))
claim_keeps config state mover own gate at_tenant request entries guard memory =
    let draft : state.history.fate own.slot own.seq ≡ Draft = claimed_draft config state own memory guard.was_free guard.had_number in
    let fresh : (address : ℕ) → state.history.phase own.slot own.seq address ≡ Fresh = λ address. draft_fresh config state own address memory draft in
    record {
      claims = record {
        there = λ slot taken. grind (arith, nat_tests, memory.claims.there slot, guard.was_free, guard.had_number, guard.is_taken, guard.has_number, guard.has_pin, draft, guard.there);
        claimed = λ slot taken. grind (arith, nat_tests, memory.claims.claimed slot, guard.was_free, guard.had_number, guard.is_taken, guard.has_number, guard.has_pin, draft);
        latest = λ slot seq is. grind (arith, nat_tests, memory.claims.latest slot seq, guard.was_free, guard.had_number, guard.is_taken, guard.has_number, guard.has_pin, draft);
        formed = λ slot seq is. grind (arith, nat_tests, memory.claims.formed slot seq, guard.was_free, guard.had_number, guard.is_taken, guard.has_number, guard.has_pin, draft, guard.tenant_there, guard.formed);
        unclaimed = λ slot seq is. grind (arith, nat_tests, memory.claims.unclaimed slot seq, guard.was_free, guard.had_number, guard.is_taken, guard.has_number, guard.has_pin, draft);
        of_pool = λ slot seq is. grind (arith, nat_tests, memory.claims.of_pool slot seq, guard.was_free, guard.had_number, guard.is_taken, guard.has_number, guard.has_pin, draft, guard.there);
        rows = λ worker. grind (arith, nat_tests, memory.claims.rows worker, guard.was_free, guard.had_number, guard.is_taken, guard.has_number, guard.has_pin, draft, guard.there);
      };
      slots = record {
        status = λ slot taken ready. grind (arith, nat_tests, memory.slots.status slot, guard.was_free, guard.had_number, guard.is_taken, guard.has_number, guard.has_pin, draft);
        count = λ slot taken ready. grind (arith, nat_tests, memory.slots.count slot, guard.was_free, guard.had_number, guard.is_taken, guard.has_number, guard.has_pin, draft);
        entries = λ slot index taken ready within. grind (arith, nat_tests, memory.slots.entries slot index, guard.was_free, guard.had_number, guard.is_taken, guard.has_number, guard.has_pin, draft);
      };
      references = record {
        held = λ tenant address slot seq is. grind (arith, nat_tests, memory.references.held tenant address slot seq, guard.was_free, guard.had_number, guard.is_taken, guard.has_number, guard.has_pin, draft);
        dirty = λ tenant address slot value is. grind (arith, nat_tests, memory.references.dirty tenant address slot value, guard.was_free, guard.had_number, guard.is_taken, guard.has_number, guard.has_pin, draft);
        planted = λ tenant address worker attempt is. grind (arith, nat_tests, memory.references.planted tenant address worker attempt, guard.was_free, guard.had_number, guard.is_taken, guard.has_number, guard.has_pin, draft);
      };
      attempts = record {
        once = λ tenant address other there worker attempt one two. grind (arith, nat_tests, memory.attempts.once tenant address other there worker attempt, guard.was_free, guard.had_number, guard.is_taken, guard.has_number, guard.has_pin, draft);
        numbers = λ worker tenant address attempt is. grind (arith, nat_tests, memory.attempts.numbers worker tenant address attempt, guard.was_free, guard.had_number, guard.is_taken, guard.has_number, guard.has_pin, draft);
        ready = λ worker tenant address attempt is draft. grind (arith, nat_tests, memory.attempts.ready worker tenant address attempt, guard.was_free, guard.had_number, guard.is_taken, guard.has_number, guard.has_pin, draft);
      };
      words = record {
        allowed = λ slot seq address is. grind (arith, nat_tests, memory.words.allowed slot seq address, guard.was_free, guard.had_number, guard.is_taken, guard.has_number, guard.has_pin, draft, fresh address);
        others = λ slot seq address is. grind (arith, nat_tests, memory.words.others slot seq address, guard.was_free, guard.had_number, guard.is_taken, guard.has_number, guard.has_pin, draft, fresh address);
        acquired = λ slot seq address is. grind (arith, nat_tests, memory.words.acquired slot seq address, guard.was_free, guard.had_number, guard.is_taken, guard.has_number, guard.has_pin, draft, fresh address);
        was_written = λ slot seq address is. grind (arith, nat_tests, memory.words.was_written slot seq address, guard.was_free, guard.had_number, guard.is_taken, guard.has_number, guard.has_pin, draft, fresh address);
      };
      late = record {
        permitted = λ by tenant address worker attempt slot seq is. grind (arith, nat_tests, memory.late.permitted by tenant address worker attempt slot seq, guard.was_free, guard.had_number, guard.is_taken, guard.has_number, guard.has_pin, draft);
        finds = λ by tenant address worker attempt slot seq is found. grind (arith, nat_tests, memory.late.finds by tenant address worker attempt slot seq, guard.was_free, guard.had_number, guard.is_taken, guard.has_number, guard.has_pin, draft, memory.late.permitted by tenant address worker attempt slot seq);
        made = λ slot seq address is entry fresh. grind (arith, nat_tests, memory.late.made slot seq address, guard.was_free, guard.had_number, guard.is_taken, guard.has_number, guard.has_pin, draft);
        lose = λ by tenant address worker attempt slot seq is is_made found. grind (arith, nat_tests, memory.late.lose by tenant address worker attempt slot seq, guard.was_free, guard.had_number, guard.is_taken, guard.has_number, guard.has_pin, draft);
      };
      written = λ slot seq address is. grind (arith, nat_tests, memory.written slot seq address, guard.was_free, guard.had_number, guard.is_taken, guard.has_number, guard.has_pin, draft, fresh address, fresh address);
      fits = put_fits state.cells (AtGate own.slot) gate memory.fits guard.fits;
    }

pub pin_keeps : (config : Config) (state : State) (mover : ℕ) (pinned : ℕ) (gate : Gate) → Guard config state mover (Pin pinned gate) → Memory config state → Memory config (made state mover (Pin pinned gate))
pin_keeps config state mover pinned gate guard memory =
    record {
      claims = record {
        there = λ slot taken. grind (arith, nat_tests, memory.claims.there slot, guard.pins.is_taken, guard.pins.one_more, guard.pins.same_number, guard.pins.was_taken);
        claimed = λ slot taken. grind (arith, nat_tests, memory.claims.claimed slot, guard.pins.is_taken, guard.pins.one_more, guard.pins.same_number, guard.pins.was_taken);
        latest = λ slot seq is. grind (arith, nat_tests, memory.claims.latest slot seq, guard.pins.is_taken, guard.pins.one_more, guard.pins.same_number, guard.pins.was_taken);
        formed = λ slot seq is. grind (arith, nat_tests, memory.claims.formed slot seq, guard.pins.is_taken, guard.pins.one_more, guard.pins.same_number, guard.pins.was_taken);
        unclaimed = λ slot seq is. grind (arith, nat_tests, memory.claims.unclaimed slot seq, guard.pins.is_taken, guard.pins.one_more, guard.pins.same_number, guard.pins.was_taken);
        of_pool = λ slot seq is. grind (arith, nat_tests, memory.claims.of_pool slot seq, guard.pins.is_taken, guard.pins.one_more, guard.pins.same_number, guard.pins.was_taken);
        rows = λ worker. grind (arith, nat_tests, memory.claims.rows worker, guard.pins.is_taken, guard.pins.one_more, guard.pins.same_number, guard.pins.was_taken);
      };
      slots = record {
        status = λ slot taken ready. grind (arith, nat_tests, memory.slots.status slot, guard.pins.is_taken, guard.pins.one_more, guard.pins.same_number, guard.pins.was_taken);
        count = λ slot taken ready. grind (arith, nat_tests, memory.slots.count slot, guard.pins.is_taken, guard.pins.one_more, guard.pins.same_number, guard.pins.was_taken);
        entries = λ slot index taken ready within. grind (arith, nat_tests, memory.slots.entries slot index, guard.pins.is_taken, guard.pins.one_more, guard.pins.same_number, guard.pins.was_taken);
      };
      references = record {
        held = λ tenant address slot seq is. grind (arith, nat_tests, memory.references.held tenant address slot seq, guard.pins.is_taken, guard.pins.one_more, guard.pins.same_number, guard.pins.was_taken);
        dirty = λ tenant address slot value is. grind (arith, nat_tests, memory.references.dirty tenant address slot value, guard.pins.is_taken, guard.pins.one_more, guard.pins.same_number, guard.pins.was_taken);
        planted = λ tenant address worker attempt is. grind (arith, nat_tests, memory.references.planted tenant address worker attempt, guard.pins.is_taken, guard.pins.one_more, guard.pins.same_number, guard.pins.was_taken);
      };
      attempts = record {
        once = λ tenant address other there worker attempt one two. grind (arith, nat_tests, memory.attempts.once tenant address other there worker attempt, guard.pins.is_taken, guard.pins.one_more, guard.pins.same_number, guard.pins.was_taken);
        numbers = λ worker tenant address attempt is. grind (arith, nat_tests, memory.attempts.numbers worker tenant address attempt, guard.pins.is_taken, guard.pins.one_more, guard.pins.same_number, guard.pins.was_taken);
        ready = λ worker tenant address attempt is draft. grind (arith, nat_tests, memory.attempts.ready worker tenant address attempt, guard.pins.is_taken, guard.pins.one_more, guard.pins.same_number, guard.pins.was_taken);
      };
      words = record {
        allowed = λ slot seq address is. grind (arith, nat_tests, memory.words.allowed slot seq address, guard.pins.is_taken, guard.pins.one_more, guard.pins.same_number, guard.pins.was_taken);
        others = λ slot seq address is. grind (arith, nat_tests, memory.words.others slot seq address, guard.pins.is_taken, guard.pins.one_more, guard.pins.same_number, guard.pins.was_taken);
        acquired = λ slot seq address is. grind (arith, nat_tests, memory.words.acquired slot seq address, guard.pins.is_taken, guard.pins.one_more, guard.pins.same_number, guard.pins.was_taken);
        was_written = λ slot seq address is. grind (arith, nat_tests, memory.words.was_written slot seq address, guard.pins.is_taken, guard.pins.one_more, guard.pins.same_number, guard.pins.was_taken);
      };
      late = record {
        permitted = λ by tenant address worker attempt slot seq is. grind (arith, nat_tests, memory.late.permitted by tenant address worker attempt slot seq, guard.pins.is_taken, guard.pins.one_more, guard.pins.same_number, guard.pins.was_taken);
        finds = λ by tenant address worker attempt slot seq is found. grind (arith, nat_tests, memory.late.finds by tenant address worker attempt slot seq, guard.pins.is_taken, guard.pins.one_more, guard.pins.same_number, guard.pins.was_taken);
        made = λ slot seq address is entry fresh. grind (arith, nat_tests, memory.late.made slot seq address, guard.pins.is_taken, guard.pins.one_more, guard.pins.same_number, guard.pins.was_taken);
        lose = λ by tenant address worker attempt slot seq is is_made found. grind (arith, nat_tests, memory.late.lose by tenant address worker attempt slot seq, guard.pins.is_taken, guard.pins.one_more, guard.pins.same_number, guard.pins.was_taken);
      };
      written = λ slot seq address is. grind (arith, nat_tests, memory.written slot seq address, guard.pins.is_taken, guard.pins.one_more, guard.pins.same_number, guard.pins.was_taken);
      fits = put_fits state.cells (AtGate pinned) gate memory.fits guard.fits;
    }

pub unpin_keeps : (config : Config) (state : State) (mover : ℕ) (pinned : ℕ) → Guard config state mover (Unpin pinned) → Memory config state → Memory config (made state mover (Unpin pinned))
unpin_keeps config state mover pinned guard memory =
    record {
      claims = record {
        there = λ slot taken. grind (arith, nat_tests, memory.claims.there slot, guard.pinned);
        claimed = λ slot taken. grind (arith, nat_tests, memory.claims.claimed slot, guard.pinned);
        latest = λ slot seq is. grind (arith, nat_tests, memory.claims.latest slot seq, guard.pinned);
        formed = λ slot seq is. grind (arith, nat_tests, memory.claims.formed slot seq, guard.pinned);
        unclaimed = λ slot seq is. grind (arith, nat_tests, memory.claims.unclaimed slot seq, guard.pinned);
        of_pool = λ slot seq is. grind (arith, nat_tests, memory.claims.of_pool slot seq, guard.pinned);
        rows = λ worker. grind (arith, nat_tests, memory.claims.rows worker, guard.pinned);
      };
      slots = record {
        status = λ slot taken ready. grind (arith, nat_tests, memory.slots.status slot, guard.pinned);
        count = λ slot taken ready. grind (arith, nat_tests, memory.slots.count slot, guard.pinned);
        entries = λ slot index taken ready within. grind (arith, nat_tests, memory.slots.entries slot index, guard.pinned);
      };
      references = record {
        held = λ tenant address slot seq is. grind (arith, nat_tests, memory.references.held tenant address slot seq, guard.pinned, λ (one : (state.cells.gates pinned).pins ≡ 1). (guard.last one).held tenant address seq);
        dirty = λ tenant address slot value is. grind (arith, nat_tests, memory.references.dirty tenant address slot value, guard.pinned, λ (one : (state.cells.gates pinned).pins ≡ 1). (guard.last one).dirty tenant address value);
        planted = λ tenant address worker attempt is. grind (arith, nat_tests, memory.references.planted tenant address worker attempt, guard.pinned, λ (one : (state.cells.gates pinned).pins ≡ 1). (guard.last one).planted tenant address worker attempt is);
      };
      attempts = record {
        once = λ tenant address other there worker attempt one two. grind (arith, nat_tests, memory.attempts.once tenant address other there worker attempt, guard.pinned);
        numbers = λ worker tenant address attempt is. grind (arith, nat_tests, memory.attempts.numbers worker tenant address attempt, guard.pinned);
        ready = λ worker tenant address attempt is draft. grind (arith, nat_tests, memory.attempts.ready worker tenant address attempt, guard.pinned);
      };
      words = record {
        allowed = λ slot seq address is. grind (arith, nat_tests, memory.words.allowed slot seq address, guard.pinned);
        others = λ slot seq address is. grind (arith, nat_tests, memory.words.others slot seq address, guard.pinned);
        acquired = λ slot seq address is. grind (arith, nat_tests, memory.words.acquired slot seq address, guard.pinned);
        was_written = λ slot seq address is. grind (arith, nat_tests, memory.words.was_written slot seq address, guard.pinned);
      };
      late = record {
        permitted = λ by tenant address worker attempt slot seq is. grind (arith, nat_tests, memory.late.permitted by tenant address worker attempt slot seq, guard.pinned);
        finds = λ by tenant address worker attempt slot seq is found. grind (arith, nat_tests, memory.late.finds by tenant address worker attempt slot seq, guard.pinned);
        made = λ slot seq address is entry fresh. grind (arith, nat_tests, memory.late.made slot seq address, guard.pinned);
        lose = λ by tenant address worker attempt slot seq is is_made found. grind (arith, nat_tests, memory.late.lose by tenant address worker attempt slot seq, guard.pinned);
      };
      written = λ slot seq address is. grind (arith, nat_tests, memory.written slot seq address, guard.pinned);
      fits = put_fits state.cells (AtGate pinned) (after_unpin (state.cells.gates pinned)) memory.fits (unpin_is (state.cells.gates pinned) (memory.fits (AtGate pinned)) guard.pinned).1;
    }

pub free_keeps : (config : Config) (state : State) (mover : ℕ) (freed : ℕ) (gate : Gate) → Guard config state mover (Free freed gate) → Memory config state → Memory config (made state mover (Free freed gate))
free_keeps config state mover freed gate guard memory =
    record {
      claims = record {
        there = λ slot taken. grind (arith, nat_tests, memory.claims.there slot, guard.frees.was_taken, guard.frees.had_no_pins, guard.frees.is_not_taken, guard.frees.has_no_pins, guard.frees.next_number);
        claimed = λ slot taken. grind (arith, nat_tests, memory.claims.claimed slot, guard.frees.was_taken, guard.frees.had_no_pins, guard.frees.is_not_taken, guard.frees.has_no_pins, guard.frees.next_number);
        latest = λ slot seq is. grind (arith, nat_tests, memory.claims.latest slot seq, guard.frees.was_taken, guard.frees.had_no_pins, guard.frees.is_not_taken, guard.frees.has_no_pins, guard.frees.next_number);
        formed = λ slot seq is. grind (arith, nat_tests, memory.claims.formed slot seq, guard.frees.was_taken, guard.frees.had_no_pins, guard.frees.is_not_taken, guard.frees.has_no_pins, guard.frees.next_number);
        unclaimed = λ slot seq is. grind (arith, nat_tests, memory.claims.unclaimed slot seq, guard.frees.was_taken, guard.frees.had_no_pins, guard.frees.is_not_taken, guard.frees.has_no_pins, guard.frees.next_number);
        of_pool = λ slot seq is. grind (arith, nat_tests, memory.claims.of_pool slot seq, guard.frees.was_taken, guard.frees.had_no_pins, guard.frees.is_not_taken, guard.frees.has_no_pins, guard.frees.next_number);
        rows = λ worker. grind (arith, nat_tests, memory.claims.rows worker, guard.frees.was_taken, guard.frees.had_no_pins, guard.frees.is_not_taken, guard.frees.has_no_pins, guard.frees.next_number);
      };
      slots = record {
        status = λ slot taken ready. grind (arith, nat_tests, memory.slots.status slot, guard.frees.was_taken, guard.frees.had_no_pins, guard.frees.is_not_taken, guard.frees.has_no_pins, guard.frees.next_number);
        count = λ slot taken ready. grind (arith, nat_tests, memory.slots.count slot, guard.frees.was_taken, guard.frees.had_no_pins, guard.frees.is_not_taken, guard.frees.has_no_pins, guard.frees.next_number);
        entries = λ slot index taken ready within. grind (arith, nat_tests, memory.slots.entries slot index, guard.frees.was_taken, guard.frees.had_no_pins, guard.frees.is_not_taken, guard.frees.has_no_pins, guard.frees.next_number);
      };
      references = record {
        held = λ tenant address slot seq is. grind (arith, nat_tests, memory.references.held tenant address slot seq, guard.frees.was_taken, guard.frees.had_no_pins, guard.frees.is_not_taken, guard.frees.has_no_pins, guard.frees.next_number);
        dirty = λ tenant address slot value is. grind (arith, nat_tests, memory.references.dirty tenant address slot value, guard.frees.was_taken, guard.frees.had_no_pins, guard.frees.is_not_taken, guard.frees.has_no_pins, guard.frees.next_number);
        planted = λ tenant address worker attempt is. grind (arith, nat_tests, memory.references.planted tenant address worker attempt, guard.frees.was_taken, guard.frees.had_no_pins, guard.frees.is_not_taken, guard.frees.has_no_pins, guard.frees.next_number);
      };
      attempts = record {
        once = λ tenant address other there worker attempt one two. grind (arith, nat_tests, memory.attempts.once tenant address other there worker attempt, guard.frees.was_taken, guard.frees.had_no_pins, guard.frees.is_not_taken, guard.frees.has_no_pins, guard.frees.next_number);
        numbers = λ worker tenant address attempt is. grind (arith, nat_tests, memory.attempts.numbers worker tenant address attempt, guard.frees.was_taken, guard.frees.had_no_pins, guard.frees.is_not_taken, guard.frees.has_no_pins, guard.frees.next_number);
        ready = λ worker tenant address attempt is draft. grind (arith, nat_tests, memory.attempts.ready worker tenant address attempt, guard.frees.was_taken, guard.frees.had_no_pins, guard.frees.is_not_taken, guard.frees.has_no_pins, guard.frees.next_number);
      };
      words = record {
        allowed = λ slot seq address is. grind (arith, nat_tests, memory.words.allowed slot seq address, guard.frees.was_taken, guard.frees.had_no_pins, guard.frees.is_not_taken, guard.frees.has_no_pins, guard.frees.next_number);
        others = λ slot seq address is. grind (arith, nat_tests, memory.words.others slot seq address, guard.frees.was_taken, guard.frees.had_no_pins, guard.frees.is_not_taken, guard.frees.has_no_pins, guard.frees.next_number);
        acquired = λ slot seq address is. grind (arith, nat_tests, memory.words.acquired slot seq address, guard.frees.was_taken, guard.frees.had_no_pins, guard.frees.is_not_taken, guard.frees.has_no_pins, guard.frees.next_number);
        was_written = λ slot seq address is. grind (arith, nat_tests, memory.words.was_written slot seq address, guard.frees.was_taken, guard.frees.had_no_pins, guard.frees.is_not_taken, guard.frees.has_no_pins, guard.frees.next_number);
      };
      late = record {
        permitted = λ by tenant address worker attempt slot seq is. grind (arith, nat_tests, memory.late.permitted by tenant address worker attempt slot seq, guard.frees.was_taken, guard.frees.had_no_pins, guard.frees.is_not_taken, guard.frees.has_no_pins, guard.frees.next_number);
        finds = λ by tenant address worker attempt slot seq is found. grind (arith, nat_tests, memory.late.finds by tenant address worker attempt slot seq, guard.frees.was_taken, guard.frees.had_no_pins, guard.frees.is_not_taken, guard.frees.has_no_pins, guard.frees.next_number);
        made = λ slot seq address is entry fresh. grind (arith, nat_tests, memory.late.made slot seq address, guard.frees.was_taken, guard.frees.had_no_pins, guard.frees.is_not_taken, guard.frees.has_no_pins, guard.frees.next_number);
        lose = λ by tenant address worker attempt slot seq is is_made found. grind (arith, nat_tests, memory.late.lose by tenant address worker attempt slot seq, guard.frees.was_taken, guard.frees.had_no_pins, guard.frees.is_not_taken, guard.frees.has_no_pins, guard.frees.next_number);
      };
      written = λ slot seq address is. grind (arith, nat_tests, memory.written slot seq address, guard.frees.was_taken, guard.frees.had_no_pins, guard.frees.is_not_taken, guard.frees.has_no_pins, guard.frees.next_number, memory.words.was_written slot seq address, memory.references.dirty (state.history.tenant slot seq) address slot (new state.history slot seq address), memory.words.was_written slot seq address, memory.references.dirty (state.history.tenant slot seq) address slot (new state.history slot seq address));
      fits = put_fits state.cells (AtGate freed) gate memory.fits guard.fits;
    }
