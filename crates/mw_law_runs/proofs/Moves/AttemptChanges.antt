-- Planting an attempt in a word, and taking it back, keep the invariant of the shared words (`Memory`). Used by: MovesKeepMemory.
use Rattle.std.proofs.Common.{ℕ, arith}
use Rattle.std.proofs.lemmas.Bool.Decides.{nat_tests}
use Rattle.mw_words.specs.declared.places.At.TheVariants.{Data}
use Rattle.mw_words.specs.declared.words.Word.TheVariants.{Plain, Planted}
use Rattle.mw_world.specs.declared.config.Config.{Config}
use Rattle.mw_world.specs.Definition.State.{State}
use Rattle.mw_law_runs.specs.Moves.Moves.{Plant, TakeBack, made}
use Rattle.mw_law_runs.specs.Moves.Guards.{Guard}
use Rattle.mw_law_runs.specs.Moves.Memory.{Memory}
use Rattle.mw_law_runs.proofs.Moves.Ranges.{put_fits}

pub plant_keeps : (config : Config) (state : State) (mover : ℕ) (in_tenant : ℕ) (in_address : ℕ) (number : ℕ) → Guard config state mover (Plant in_tenant in_address number) → Memory config state → Memory config (made state mover (Plant in_tenant in_address number))
plant_keeps config state mover in_tenant in_address number guard memory =
    record {
      claims = record {
        there = λ slot taken. grind (arith, nat_tests, memory.claims.there slot, guard.word);
        claimed = λ slot taken. grind (arith, nat_tests, memory.claims.claimed slot, guard.word);
        latest = λ slot seq is. grind (arith, nat_tests, memory.claims.latest slot seq, guard.word);
        formed = λ slot seq is. grind (arith, nat_tests, memory.claims.formed slot seq, guard.word);
        unclaimed = λ slot seq is. grind (arith, nat_tests, memory.claims.unclaimed slot seq, guard.word);
        of_pool = λ slot seq is. grind (arith, nat_tests, memory.claims.of_pool slot seq, guard.word);
        rows = λ worker. grind (arith, nat_tests, memory.claims.rows worker, guard.word);
      };
      slots = record {
        status = λ slot taken ready. grind (arith, nat_tests, memory.slots.status slot, guard.word);
        count = λ slot taken ready. grind (arith, nat_tests, memory.slots.count slot, guard.word);
        entries = λ slot index taken ready within. grind (arith, nat_tests, memory.slots.entries slot index, guard.word);
      };
      references = record {
        held = λ tenant address slot seq is. grind (arith, nat_tests, memory.references.held tenant address slot seq, guard.word);
        dirty = λ tenant address slot value is. grind (arith, nat_tests, memory.references.dirty tenant address slot value, guard.word);
        planted = λ tenant address worker attempt is. grind (arith, nat_tests, memory.references.planted tenant address worker attempt, guard.word, guard.change, guard.entry, guard.pinned, guard.rests, guard.next);
      };
      attempts = record {
        once = λ tenant address other there worker attempt one two. grind (arith, nat_tests, memory.attempts.once tenant address other there worker attempt, guard.word, memory.references.planted tenant address worker attempt, memory.references.planted other there worker attempt, guard.next);
        numbers = λ worker tenant address attempt is. grind (arith, nat_tests, memory.attempts.numbers worker tenant address attempt, guard.word, guard.next, guard.rests);
        ready = λ worker tenant address attempt is draft. grind (arith, nat_tests, memory.attempts.ready worker tenant address attempt, guard.word, guard.change.ready, guard.rests);
      };
      words = record {
        allowed = λ slot seq address is. grind (arith, nat_tests, memory.words.allowed slot seq address, guard.word);
        others = λ slot seq address is. grind (arith, nat_tests, memory.words.others slot seq address, guard.word);
        acquired = λ slot seq address is. grind (arith, nat_tests, memory.words.acquired slot seq address, guard.word);
        was_written = λ slot seq address is. grind (arith, nat_tests, memory.words.was_written slot seq address, guard.word);
      };
      late = record {
        permitted = λ by tenant address worker attempt slot seq is. grind (arith, nat_tests, memory.late.permitted by tenant address worker attempt slot seq, guard.word, guard.next);
        finds = λ by tenant address worker attempt slot seq is found. grind (arith, nat_tests, memory.late.finds by tenant address worker attempt slot seq, guard.word, guard.next, memory.late.permitted by tenant address worker attempt slot seq);
        made = λ slot seq address is entry fresh. grind (arith, nat_tests, memory.late.made slot seq address, guard.word);
        lose = λ by tenant address worker attempt slot seq is is_made found. grind (arith, nat_tests, memory.late.lose by tenant address worker attempt slot seq, guard.word, guard.next, memory.late.permitted by tenant address worker attempt slot seq);
      };
      written = λ slot seq address is. grind (arith, nat_tests, memory.written slot seq address, guard.word);
      fits = put_fits state.cells (Data in_tenant in_address) (Planted mover number) memory.fits guard.fits;
    }

pub take_back_keeps : (config : Config) (state : State) (mover : ℕ) (in_tenant : ℕ) (in_address : ℕ) (owner : ℕ) (number : ℕ) (plain_value : ℕ) → Guard config state mover (TakeBack in_tenant in_address owner number plain_value) → Memory config state → Memory config (made state mover (TakeBack in_tenant in_address owner number plain_value))
take_back_keeps config state mover in_tenant in_address owner number plain_value guard memory =
    record {
      claims = record {
        there = λ slot taken. grind (arith, nat_tests, memory.claims.there slot, guard.word);
        claimed = λ slot taken. grind (arith, nat_tests, memory.claims.claimed slot, guard.word);
        latest = λ slot seq is. grind (arith, nat_tests, memory.claims.latest slot seq, guard.word);
        formed = λ slot seq is. grind (arith, nat_tests, memory.claims.formed slot seq, guard.word);
        unclaimed = λ slot seq is. grind (arith, nat_tests, memory.claims.unclaimed slot seq, guard.word);
        of_pool = λ slot seq is. grind (arith, nat_tests, memory.claims.of_pool slot seq, guard.word);
        rows = λ worker. grind (arith, nat_tests, memory.claims.rows worker, guard.word);
      };
      slots = record {
        status = λ slot taken ready. grind (arith, nat_tests, memory.slots.status slot, guard.word);
        count = λ slot taken ready. grind (arith, nat_tests, memory.slots.count slot, guard.word);
        entries = λ slot index taken ready within. grind (arith, nat_tests, memory.slots.entries slot index, guard.word);
      };
      references = record {
        held = λ tenant address slot seq is. grind (arith, nat_tests, memory.references.held tenant address slot seq, guard.word);
        dirty = λ tenant address slot value is. grind (arith, nat_tests, memory.references.dirty tenant address slot value, guard.word);
        planted = λ tenant address worker attempt is. grind (arith, nat_tests, memory.references.planted tenant address worker attempt, guard.word);
      };
      attempts = record {
        once = λ tenant address other there worker attempt one two. grind (arith, nat_tests, memory.attempts.once tenant address other there worker attempt, guard.word);
        numbers = λ worker tenant address attempt is. grind (arith, nat_tests, memory.attempts.numbers worker tenant address attempt, guard.word);
        ready = λ worker tenant address attempt is draft. grind (arith, nat_tests, memory.attempts.ready worker tenant address attempt, guard.word);
      };
      words = record {
        allowed = λ slot seq address is. grind (arith, nat_tests, memory.words.allowed slot seq address, guard.word);
        others = λ slot seq address is. grind (arith, nat_tests, memory.words.others slot seq address, guard.word);
        acquired = λ slot seq address is. grind (arith, nat_tests, memory.words.acquired slot seq address, guard.word);
        was_written = λ slot seq address is. grind (arith, nat_tests, memory.words.was_written slot seq address, guard.word);
      };
      late = record {
        permitted = λ by tenant address worker attempt slot seq is. grind (arith, nat_tests, memory.late.permitted by tenant address worker attempt slot seq, guard.word);
        finds = λ by tenant address worker attempt slot seq is found. grind (arith, nat_tests, memory.late.finds by tenant address worker attempt slot seq, guard.word);
        made = λ slot seq address is entry fresh. grind (arith, nat_tests, memory.late.made slot seq address, guard.word);
        lose = λ by tenant address worker attempt slot seq is is_made found. grind (arith, nat_tests, memory.late.lose by tenant address worker attempt slot seq, guard.word);
      };
      written = λ slot seq address is. grind (arith, nat_tests, memory.written slot seq address, guard.word);
      fits = put_fits state.cells (Data in_tenant in_address) (Plain plain_value) memory.fits guard.fits;
    }
