-- Goals of `SimulatedFile::open` (src/opening.rt).
use Rattle.std.proofs.Common.{◌∙◌, ℕ, List, ap, arith, refl}
use Rattle.mw_words.specs.declared.limits.TheConstants.{MAX_POOL}
use Rattle.mw_memory_disk.specs.Memory.{Memory, memory_facts, scripted}
use Rattle.mw_record.specs.Damages.{words_in, places_of}
use Rattle.mw_world_file.proofs.ShutFiles.{room_opened, opened_ends, shut_ends, words_found}
use Rattle.mw_world_file.proofs.simulated_file.SimulatedFile.open.Goals as goal

pub opened-requires-clause-room : goal.opened-requires-clause-room
opened-requires-clause-room c =
    let image = c.in-Ok.ensures.1 ∙ c.deref.ensures.value in
    room_opened c.in_ok-disk.disk c.args.bytes.items c.in-Ok-open.opened.0 c.in-Ok-open.opened.1.items c.args.quota c.places_once_open-file_places.result
    (ap (λ (m : Memory). (memory_facts m).reads) c.in_ok-disk.ensures.made) c.in-Ok-open.ensures.opens (c.places_once_open-file_places.ensures ∙ ap places_of image)
    (omega (arith, c.from.ensures, c.if-from-quota.false))

pub returns-in-Ok-open : goal.returns-in-Ok-open
returns-in-Ok-open c words is room =
    opened_ends c.in_ok-disk.disk c.args.bytes.items words c.args.quota c.args.fails_at (ap (λ (m : Memory). (memory_facts m).reads) c.in_ok-disk.ensures.made) c.in_ok-disk.ensures.at_rest (ap (λ (m : Memory). (memory_facts m).moment) c.in_ok-disk.ensures.made) is
    (λ k. c.in_ok-disk.ensures.plan k ∙ ap (λ (script : List ℕ). scripted script k) c.in_ok-script_of.ensures)
    c.in-Ok-open.opened.0 c.in-Ok-open.opened.1.items c.in-Ok-open.ensures.opens c.opened.result c.opened.ensures

pub returns-in-Disk : goal.returns-in-Disk
returns-in-Disk c words is room =
    let image = c.in-Ok.ensures.1 ∙ c.deref.ensures.value in
    shut_ends c.in_ok-disk.disk c.args.bytes.items words c.args.quota c.args.fails_at (ap (λ (m : Memory). (memory_facts m).reads) c.in_ok-disk.ensures.made) c.in_ok-disk.ensures.at_rest (ap (λ (m : Memory). (memory_facts m).moment) c.in_ok-disk.ensures.made) is
    (λ k. c.in_ok-disk.ensures.plan k ∙ ap (λ (script : List ℕ). scripted script k) c.in_ok-script_of.ensures)
    c.in-Err.failed.1 c.in-Err.failed.0 c.in-Disk.is c.in-Err.ensures.opens (ap (λ (m : Memory). m.refused) c.in_ok-disk.ensures.made) c.in_ok-found.found.items _ MAX_POOL
    (c.in_ok-found.ensures ∙ ap words_in image ∙ words_found c.args.bytes.items words is) (c.places_once_open-file_places.ensures ∙ ap places_of image) c.shut.result c.shut.ensures

pub opened-requires-clause-keeps : goal.opened-requires-clause-keeps
opened-requires-clause-keeps c = c.in-Ok-open.ensures.opens.keeps refl c.in_ok-disk.ensures.at_rest
