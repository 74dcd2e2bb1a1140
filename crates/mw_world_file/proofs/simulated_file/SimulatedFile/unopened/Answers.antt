-- Goals of `SimulatedFile::unopened` (src/unopened.rt).
use Rattle.std.proofs.Common.{refl, ◌≡◌, ◌∙◌, ◌*◌, ℕ, List, length, replicate, sym, ap, subst, arith, [], true, false}
use Rattle.std.proofs.lemmas.List.{length-replicate}
use Rattle.mw_words.specs.declared.jobs.Entry.{Entry}
use Rattle.mw_words.specs.declared.limits.TheConstants.{MAX_POOL}
use Rattle.mw_words.specs.Change.{put}
use Rattle.mw_lone.proofs.SoundStores.{length-put}
use Rattle.mw_memory_disk.specs.Memory.{Memory, memory_facts}
use Rattle.mw_file.specs.RecoveryInvariant.{IsFile}
use Rattle.mw_record.specs.declared.layout.TheConstants.{PLACES_GROW}
use Rattle.mw_world_file.specs.declared.places.Place.{Place}
use Rattle.mw_world_file.specs.declared.places.Place.TheVariants.{Empty}
use Rattle.mw_world_file.proofs.OldFiles.{tells_unopened}
use Rattle.mw_world_file.proofs.OpenedFiles.{free_kept}
use Rattle.mw_world_file.proofs.simulated_file.SimulatedFile.unopened.Goals as goal

-- the file has more places than are used
pub invariant_of-result-clause-count : goal.invariant_of-result-clause-count
invariant_of-result-clause-count c =
    let used = ap (λ (places : List Place). length places) c.in_ok-empty_places.ensures ∙ length-replicate c.from-2.result Empty in
    omega (arith, used, c.from-2.ensures, c.from-3.ensures)

pub returns-clause-shows : goal.returns-clause-shows
returns-clause-shows c =
    let are : c.in_ok-contents.contents.items ≡ put (replicate {A = ℕ} c.args.words 0) c.args.change.now.items =
    c.in_ok-contents.ensures ∙ ap (λ (entries : List Entry). put c.deref.result.now entries) c.deref-2.ensures.0
    ∙ ap (λ (words : List ℕ). put words c.args.change.now.items) (c.deref.ensures.value ∙ c.in_ok-zeros.ensures) in
    let words : List ℕ = put (replicate {A = ℕ} c.args.words 0) c.args.change.now.items in
    let same : c.from.result ≡ c.from-3.result = c.from.ensures ∙ sym c.from-3.ensures in
    tells_unopened c.in_ok-disk.disk c.in_ok-contents.contents.items words c.in_ok-empty_places.field-0.items _ c.new-3.result.items c.in_ok-bytes.bytes.items c.from-2.result MAX_POOL are
    c.in_ok-empty_places.ensures c.new-3.ensures (ap (λ (m : Memory). (memory_facts m).reads) c.in_ok-disk.ensures.made) c.in_ok-disk.ensures.at_rest
    (subst (λ (places : ℕ). IsFile (PLACES_GROW * places) words c.in_ok-bytes.bytes.items) same c.in_ok-bytes.ensures)

pub returns-clause-words : goal.returns-clause-words
returns-clause-words c =
    let are : c.in_ok-contents.contents.items ≡ put (replicate {A = ℕ} c.args.words 0) c.args.change.now.items =
    c.in_ok-contents.ensures ∙ ap (λ (entries : List Entry). put c.deref.result.now entries) c.deref-2.ensures.0
    ∙ ap (λ (words : List ℕ). put words c.args.change.now.items) (c.deref.ensures.value ∙ c.in_ok-zeros.ensures) in
    ap (λ (ws : List ℕ). length ws) are ∙ length-put (replicate {A = ℕ} c.args.words 0) c.args.change.now.items ∙ length-replicate {A = ℕ} c.args.words 0

pub invariant_of-result-clause-kept : goal.invariant_of-result-clause-kept
invariant_of-result-clause-kept c = free_kept [] _ _ refl c.in_ok-empty_places.ensures

pub invariant_of-result-clause-sized : goal.invariant_of-result-clause-sized
invariant_of-result-clause-sized c open_now = absurd (let e : false ≡ true = open_now in cc)

pub invariant_of-result-clause-has : goal.invariant_of-result-clause-has
invariant_of-result-clause-has c open_now = absurd (let e : false ≡ true = open_now in cc)

pub returns-clause-places : goal.returns-clause-places
returns-clause-places c =
    ap (λ (places : List Place). length places) c.in_ok-empty_places.ensures ∙ length-replicate c.from-2.result Empty ∙ c.from-2.ensures
