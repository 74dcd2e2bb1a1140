-- Holding a word, giving it its new value, releasing it and cleaning it keep the invariant of the shared words (`Memory`).
-- Used by: MovesKeepMemory.
use Rattle.std.proofs.Common.{ℕ, arith}
use Rattle.std.proofs.lemmas.Bool.Decides.{nat_tests}
use Rattle.mw_words.specs.declared.places.At.TheVariants.{Data}
use Rattle.mw_words.specs.declared.words.Word.TheVariants.{Plain, Held, Dirty}
use Rattle.mw_actor.specs.declared.points.Slot.{Slot}
use Rattle.mw_world.specs.declared.config.Config.{Config}
use Rattle.mw_world.specs.declared.step_labels.Phase.TheVariants.{Acquired}
use Rattle.mw_world.specs.Claim.Invariant.{MayBe}
use Rattle.mw_world.specs.Definition.State.{State}
use Rattle.mw_law_runs.specs.Moves.Moves.{Hold, WriteNew, LetGo, Clean, made}
use Rattle.mw_law_runs.specs.Moves.Guards.{Guard}
use Rattle.mw_law_runs.specs.Moves.Memory.{Memory}
use Rattle.mw_law_runs.proofs.Moves.Ranges.{put_fits, dirty_fits}
use Rattle.mw_law_runs.proofs.Moves.Phases.{holds, undone, lets_go}

pub hold_keeps : (config : Config) (state : State) (mover : ℕ) (in_tenant : ℕ) (in_address : ℕ) (owner : ℕ) (number : ℕ) (target : Slot) → Guard config state mover (Hold in_tenant in_address owner number target) → Memory config state → Memory config (made state mover (Hold in_tenant in_address owner number target))
hold_keeps config state mover in_tenant in_address owner number target guard memory =
    let permitted = memory.late.permitted mover in_tenant in_address owner number target.slot target.seq guard.permission in
    let finds = memory.late.finds mover in_tenant in_address owner number target.slot target.seq guard.permission guard.word in
    let planted = memory.references.planted in_tenant in_address owner number guard.word in
    let allowed : MayBe (state.history.fate target.slot target.seq) Acquired = holds (state.history.fate target.slot target.seq) (state.history.phase target.slot target.seq in_address) finds.fresh permitted.change.ready (memory.words.allowed target.slot target.seq in_address permitted.change.entry) in
    record {
      claims = record {
        there = λ slot taken. grind (arith, nat_tests, memory.claims.there slot, guard.word);
        claimed = λ slot taken. grind (arith, nat_tests, memory.claims.claimed slot, guard.word);
        latest = λ slot seq is. grind (arith, nat_tests, memory.claims.latest slot seq, guard.word);
        formed = λ slot seq is. grind (arith, nat_tests, memory.claims.formed slot seq, guard.word);
        unclaimed = λ slot seq is. grind (arith, nat_tests, memory.claims.unclaimed slot seq, guard.word);
        of_pool = λ slot seq is. grind (arith, nat_tests, memory.claims.of_pool slot seq, guard.word);
        rows = λ worker. grind (arith, nat_tests, memory.claims.rows worker, guard.word);
      };
      slots = record {
        status = λ slot taken ready. grind (arith, nat_tests, memory.slots.status slot, guard.word);
        count = λ slot taken ready. grind (arith, nat_tests, memory.slots.count slot, guard.word);
        entries = λ slot index taken ready within. grind (arith, nat_tests, memory.slots.entries slot index, guard.word);
      };
      references = record {
        held = λ tenant address slot seq is. grind (arith, nat_tests, memory.references.held tenant address slot seq, guard.word, planted.pinned, finds.row_slot, finds.row_seq, permitted.change, undone (state.history.fate target.slot target.seq) allowed);
        dirty = λ tenant address slot value is. grind (arith, nat_tests, memory.references.dirty tenant address slot value, guard.word, permitted.change.same_tenant, finds.fresh);
        planted = λ tenant address worker attempt is. grind (arith, nat_tests, memory.references.planted tenant address worker attempt, guard.word);
      };
      attempts = record {
        once = λ tenant address other there worker attempt one two. grind (arith, nat_tests, memory.attempts.once tenant address other there worker attempt, guard.word);
        numbers = λ worker tenant address attempt is. grind (arith, nat_tests, memory.attempts.numbers worker tenant address attempt, guard.word);
        ready = λ worker tenant address attempt is draft. grind (arith, nat_tests, memory.attempts.ready worker tenant address attempt, guard.word);
      };
      words = record {
        allowed = λ slot seq address is. grind (arith, nat_tests, memory.words.allowed slot seq address, guard.word, allowed);
        others = λ slot seq address is. grind (arith, nat_tests, memory.words.others slot seq address, guard.word, permitted.change.entry);
        acquired = λ slot seq address is. grind (arith, nat_tests, memory.words.acquired slot seq address, guard.word, permitted.change.same_tenant);
        was_written = λ slot seq address is. grind (arith, nat_tests, memory.words.was_written slot seq address, guard.word, finds.fresh);
      };
      late = record {
        permitted = λ by tenant address worker attempt slot seq is. grind (arith, nat_tests, memory.late.permitted by tenant address worker attempt slot seq, guard.word);
        finds = λ by tenant address worker attempt slot seq is found. grind (arith, nat_tests, memory.late.finds by tenant address worker attempt slot seq, guard.word, memory.late.permitted by tenant address worker attempt slot seq, permitted.change.same_tenant);
        made = λ slot seq address is entry fresh. grind (arith, nat_tests, memory.late.made slot seq address, guard.word);
        lose = λ by tenant address worker attempt slot seq is is_made found. grind (arith, nat_tests, memory.late.lose by tenant address worker attempt slot seq, guard.word);
      };
      written = λ slot seq address is. grind (arith, nat_tests, memory.written slot seq address, guard.word);
      fits = put_fits state.cells (Data in_tenant in_address) (Held target.slot target.seq) memory.fits guard.fits;
    }

pub write_new_keeps : (config : Config) (state : State) (mover : ℕ) (in_tenant : ℕ) (in_address : ℕ) (target : Slot) (written_value : ℕ) → Guard config state mover (WriteNew in_tenant in_address target written_value) → Memory config state → Memory config (made state mover (WriteNew in_tenant in_address target written_value))
write_new_keeps config state mover in_tenant in_address target written_value guard memory =
    let held = memory.references.held in_tenant in_address target.slot target.seq guard.word in
    record {
      claims = record {
        there = λ slot taken. grind (arith, nat_tests, memory.claims.there slot, guard.word);
        claimed = λ slot taken. grind (arith, nat_tests, memory.claims.claimed slot, guard.word);
        latest = λ slot seq is. grind (arith, nat_tests, memory.claims.latest slot seq, guard.word);
        formed = λ slot seq is. grind (arith, nat_tests, memory.claims.formed slot seq, guard.word);
        unclaimed = λ slot seq is. grind (arith, nat_tests, memory.claims.unclaimed slot seq, guard.word);
        of_pool = λ slot seq is. grind (arith, nat_tests, memory.claims.of_pool slot seq, guard.word);
        rows = λ worker. grind (arith, nat_tests, memory.claims.rows worker, guard.word);
      };
      slots = record {
        status = λ slot taken ready. grind (arith, nat_tests, memory.slots.status slot, guard.word);
        count = λ slot taken ready. grind (arith, nat_tests, memory.slots.count slot, guard.word);
        entries = λ slot index taken ready within. grind (arith, nat_tests, memory.slots.entries slot index, guard.word);
      };
      references = record {
        held = λ tenant address slot seq is. grind (arith, nat_tests, memory.references.held tenant address slot seq, guard.word, held.change.same_tenant);
        dirty = λ tenant address slot value is. grind (arith, nat_tests, memory.references.dirty tenant address slot value, guard.word, held.pinned, held.change, guard.is_made, guard.new_value, held.acquired);
        planted = λ tenant address worker attempt is. grind (arith, nat_tests, memory.references.planted tenant address worker attempt, guard.word);
      };
      attempts = record {
        once = λ tenant address other there worker attempt one two. grind (arith, nat_tests, memory.attempts.once tenant address other there worker attempt, guard.word);
        numbers = λ worker tenant address attempt is. grind (arith, nat_tests, memory.attempts.numbers worker tenant address attempt, guard.word);
        ready = λ worker tenant address attempt is draft. grind (arith, nat_tests, memory.attempts.ready worker tenant address attempt, guard.word);
      };
      words = record {
        allowed = λ slot seq address is. grind (arith, nat_tests, memory.words.allowed slot seq address, guard.word, guard.is_made);
        others = λ slot seq address is. grind (arith, nat_tests, memory.words.others slot seq address, guard.word, held.change.entry);
        acquired = λ slot seq address is. grind (arith, nat_tests, memory.words.acquired slot seq address, guard.word, held.change.same_tenant);
        was_written = λ slot seq address is. grind (arith, nat_tests, memory.words.was_written slot seq address, guard.word, held.change.same_tenant, guard.new_value);
      };
      late = record {
        permitted = λ by tenant address worker attempt slot seq is. grind (arith, nat_tests, memory.late.permitted by tenant address worker attempt slot seq, guard.word);
        finds = λ by tenant address worker attempt slot seq is found. grind (arith, nat_tests, memory.late.finds by tenant address worker attempt slot seq, guard.word, held.acquired, memory.late.permitted by tenant address worker attempt slot seq);
        made = λ slot seq address is entry fresh. grind (arith, nat_tests, memory.late.made slot seq address, guard.word);
        lose = λ by tenant address worker attempt slot seq is is_made found. grind (arith, nat_tests, memory.late.lose by tenant address worker attempt slot seq, guard.word);
      };
      written = λ slot seq address is. grind (arith, nat_tests, memory.written slot seq address, guard.word, held.pinned, held.pinned);
      fits = put_fits state.cells (Data in_tenant in_address) (Dirty target.slot written_value) memory.fits guard.fits;
    }

pub let_go_keeps : (config : Config) (state : State) (mover : ℕ) (in_tenant : ℕ) (in_address : ℕ) (target : Slot) (plain_value : ℕ) → Guard config state mover (LetGo in_tenant in_address target plain_value) → Memory config state → Memory config (made state mover (LetGo in_tenant in_address target plain_value))
let_go_keeps config state mover in_tenant in_address target plain_value guard memory =
    let held = memory.references.held in_tenant in_address target.slot target.seq guard.word in
    record {
      claims = record {
        there = λ slot taken. grind (arith, nat_tests, memory.claims.there slot, guard.word);
        claimed = λ slot taken. grind (arith, nat_tests, memory.claims.claimed slot, guard.word);
        latest = λ slot seq is. grind (arith, nat_tests, memory.claims.latest slot seq, guard.word);
        formed = λ slot seq is. grind (arith, nat_tests, memory.claims.formed slot seq, guard.word);
        unclaimed = λ slot seq is. grind (arith, nat_tests, memory.claims.unclaimed slot seq, guard.word);
        of_pool = λ slot seq is. grind (arith, nat_tests, memory.claims.of_pool slot seq, guard.word);
        rows = λ worker. grind (arith, nat_tests, memory.claims.rows worker, guard.word);
      };
      slots = record {
        status = λ slot taken ready. grind (arith, nat_tests, memory.slots.status slot, guard.word);
        count = λ slot taken ready. grind (arith, nat_tests, memory.slots.count slot, guard.word);
        entries = λ slot index taken ready within. grind (arith, nat_tests, memory.slots.entries slot index, guard.word);
      };
      references = record {
        held = λ tenant address slot seq is. grind (arith, nat_tests, memory.references.held tenant address slot seq, guard.word, held.change.same_tenant);
        dirty = λ tenant address slot value is. grind (arith, nat_tests, memory.references.dirty tenant address slot value, guard.word, held.acquired, held.change.same_tenant);
        planted = λ tenant address worker attempt is. grind (arith, nat_tests, memory.references.planted tenant address worker attempt, guard.word);
      };
      attempts = record {
        once = λ tenant address other there worker attempt one two. grind (arith, nat_tests, memory.attempts.once tenant address other there worker attempt, guard.word);
        numbers = λ worker tenant address attempt is. grind (arith, nat_tests, memory.attempts.numbers worker tenant address attempt, guard.word);
        ready = λ worker tenant address attempt is draft. grind (arith, nat_tests, memory.attempts.ready worker tenant address attempt, guard.word);
      };
      words = record {
        allowed = λ slot seq address is. grind (arith, nat_tests, memory.words.allowed slot seq address, guard.word, lets_go (state.history.fate target.slot target.seq) guard.refused);
        others = λ slot seq address is. grind (arith, nat_tests, memory.words.others slot seq address, guard.word, held.change.entry);
        acquired = λ slot seq address is. grind (arith, nat_tests, memory.words.acquired slot seq address, guard.word, held.change.same_tenant);
        was_written = λ slot seq address is. grind (arith, nat_tests, memory.words.was_written slot seq address, guard.word, held.change.same_tenant);
      };
      late = record {
        permitted = λ by tenant address worker attempt slot seq is. grind (arith, nat_tests, memory.late.permitted by tenant address worker attempt slot seq, guard.word);
        finds = λ by tenant address worker attempt slot seq is found. grind (arith, nat_tests, memory.late.finds by tenant address worker attempt slot seq, guard.word, held.acquired, memory.late.permitted by tenant address worker attempt slot seq);
        made = λ slot seq address is entry fresh. grind (arith, nat_tests, memory.late.made slot seq address, guard.word);
        lose = λ by tenant address worker attempt slot seq is is_made found. grind (arith, nat_tests, memory.late.lose by tenant address worker attempt slot seq, guard.word);
      };
      written = λ slot seq address is. grind (arith, nat_tests, memory.written slot seq address, guard.word);
      fits = put_fits state.cells (Data in_tenant in_address) (Plain plain_value) memory.fits guard.fits;
    }

pub clean_keeps : (config : Config) (state : State) (mover : ℕ) (in_tenant : ℕ) (in_address : ℕ) (target : Slot) (plain_value : ℕ) → Guard config state mover (Clean in_tenant in_address target plain_value) → Memory config state → Memory config (made state mover (Clean in_tenant in_address target plain_value))
clean_keeps config state mover in_tenant in_address target plain_value guard memory =
    let dirty = memory.references.dirty in_tenant in_address target.slot plain_value guard.word in
    record {
      claims = record {
        there = λ slot taken. grind (arith, nat_tests, memory.claims.there slot, guard.word, guard.seq);
        claimed = λ slot taken. grind (arith, nat_tests, memory.claims.claimed slot, guard.word, guard.seq);
        latest = λ slot seq is. grind (arith, nat_tests, memory.claims.latest slot seq, guard.word, guard.seq);
        formed = λ slot seq is. grind (arith, nat_tests, memory.claims.formed slot seq, guard.word, guard.seq);
        unclaimed = λ slot seq is. grind (arith, nat_tests, memory.claims.unclaimed slot seq, guard.word, guard.seq);
        of_pool = λ slot seq is. grind (arith, nat_tests, memory.claims.of_pool slot seq, guard.word, guard.seq);
        rows = λ worker. grind (arith, nat_tests, memory.claims.rows worker, guard.word, guard.seq);
      };
      slots = record {
        status = λ slot taken ready. grind (arith, nat_tests, memory.slots.status slot, guard.word, guard.seq);
        count = λ slot taken ready. grind (arith, nat_tests, memory.slots.count slot, guard.word, guard.seq);
        entries = λ slot index taken ready within. grind (arith, nat_tests, memory.slots.entries slot index, guard.word, guard.seq);
      };
      references = record {
        held = λ tenant address slot seq is. grind (arith, nat_tests, memory.references.held tenant address slot seq, guard.word, guard.seq, dirty.was_written);
        dirty = λ tenant address slot value is. grind (arith, nat_tests, memory.references.dirty tenant address slot value, guard.word, guard.seq, dirty.change.same_tenant, dirty.was_written);
        planted = λ tenant address worker attempt is. grind (arith, nat_tests, memory.references.planted tenant address worker attempt, guard.word, guard.seq);
      };
      attempts = record {
        once = λ tenant address other there worker attempt one two. grind (arith, nat_tests, memory.attempts.once tenant address other there worker attempt, guard.word, guard.seq);
        numbers = λ worker tenant address attempt is. grind (arith, nat_tests, memory.attempts.numbers worker tenant address attempt, guard.word, guard.seq);
        ready = λ worker tenant address attempt is draft. grind (arith, nat_tests, memory.attempts.ready worker tenant address attempt, guard.word, guard.seq);
      };
      words = record {
        allowed = λ slot seq address is. grind (arith, nat_tests, memory.words.allowed slot seq address, guard.word, guard.seq, guard.done);
        others = λ slot seq address is. grind (arith, nat_tests, memory.words.others slot seq address, guard.word, guard.seq, dirty.change.entry);
        acquired = λ slot seq address is. grind (arith, nat_tests, memory.words.acquired slot seq address, guard.word, guard.seq, dirty.change.same_tenant);
        was_written = λ slot seq address is. grind (arith, nat_tests, memory.words.was_written slot seq address, guard.word, guard.seq, dirty.change.same_tenant);
      };
      late = record {
        permitted = λ by tenant address worker attempt slot seq is. grind (arith, nat_tests, memory.late.permitted by tenant address worker attempt slot seq, guard.word, guard.seq);
        finds = λ by tenant address worker attempt slot seq is found. grind (arith, nat_tests, memory.late.finds by tenant address worker attempt slot seq, guard.word, guard.seq, dirty.was_written, memory.late.permitted by tenant address worker attempt slot seq);
        made = λ slot seq address is entry fresh. grind (arith, nat_tests, memory.late.made slot seq address, guard.word, guard.seq);
        lose = λ by tenant address worker attempt slot seq is is_made found. grind (arith, nat_tests, memory.late.lose by tenant address worker attempt slot seq, guard.word, guard.seq);
      };
      written = λ slot seq address is. grind (arith, nat_tests, memory.written slot seq address, guard.word, guard.seq);
      fits = put_fits state.cells (Data in_tenant in_address) (Plain plain_value) memory.fits (dirty_fits target.slot plain_value (state.cells.words in_tenant in_address) guard.word (memory.fits (Data in_tenant in_address)));
    }
