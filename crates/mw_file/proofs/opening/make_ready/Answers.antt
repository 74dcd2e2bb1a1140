-- Goals of `make_ready` (src/opening.rt).
use Rattle.std.proofs.Common.{ℕ, List, is_ok, sym, ap, ◌∙◌, subst}
use Rattle.std.proofs.lemmas.Bool.{both_ways}
use Rattle.mw_disk.specs.DeviceCalls.{DeviceCall, Makes}
use Rattle.mw_record.specs.declared.layout.Layout.TheVariants.{First}
use Rattle.mw_record.specs.Layout.{size, second_part}
use Rattle.mw_record.specs.Damages.{is_switched, at_of, words_of, found_places, places_of}
use Rattle.mw_file.specs.RecoveryInvariant.{IsFile}
use Rattle.mw_file.specs.Migration.{InSwitch, Grown, given_second}
use Rattle.mw_file.specs.Stores.{IsDurable}
use Rattle.mw_file.specs.Run.{Ran}
use Rattle.mw_file.proofs.RollLoop.{on_ok}
use Rattle.mw_file.proofs.Ready.{is_unset, is_set, places_unset, places_set, begins_unset, begins_set, calls_unset, calls_set, can_grow, can_finish, migrated_durable, file_moments, second_moments}
use Rattle.mw_file.proofs.OpeningCallLaws.{ready_unset, ready_set}
use Rattle.mw_file.proofs.Safety.{is_file}
use Rattle.mw_file.proofs.opening.make_ready.Goals as goal

pub returns-in-First-clause-calls : goal.returns-in-First-clause-calls
returns-in-First-clause-calls g c =
    let first = sym c.layout.ensures ∙ c.in-First.is in
    subst (λ (n : ℕ). Ran n (g.D.Disk.facts c.args.disk.now) (g.D.Disk.facts c.give_second.new.disk) c.give_second.result) (calls_unset c.args.image.now first) c.give_second.ensures.calls

pub returns-in-First-clause-moments : goal.returns-in-First-clause-moments
returns-in-First-clause-moments g c can =
    let f = g.D.Disk.facts c.args.disk.now in
    let f2 = g.D.Disk.facts c.give_second.new.disk in
    let image = c.args.image.now in
    let first = sym c.layout.ensures ∙ c.in-First.is in
    file_moments f f2 _ _ c.args.words.now (places_unset image first) (c.give_second.ensures.moments (can_grow image f c.args.words.now first can))

pub returns-in-First-clause-read : goal.returns-in-First-clause-read
returns-in-First-clause-read g c can =
    let f = g.D.Disk.facts c.args.disk.now in
    let f2 = g.D.Disk.facts c.give_second.new.disk in
    let image = c.args.image.now in
    let first = sym c.layout.ensures ∙ c.in-First.is in
    subst (λ (n : ℕ). IsFile n c.args.words.now f2.reads) (places_unset image first) (c.give_second.ensures.read (can_grow image f c.args.words.now first can))

pub returns-in-First-clause-done : goal.returns-in-First-clause-done
returns-in-First-clause-done g c =
    let f = g.D.Disk.facts c.args.disk.now in
    let f2 = g.D.Disk.facts c.give_second.new.disk in
    let image = c.args.image.now in
    let words = c.args.words.now in
    let first = sym c.layout.ensures ∙ c.in-First.is in
    on_ok _ _ c.give_second.result (λ done can.
    subst (λ (k : ℕ). IsDurable f2 k (words_of image) words c.args.states.now) (begins_unset image first)
    (migrated_durable f2 _ _ _ words c.args.states.now (done (can_grow image f words first can)) (c.requires.each ∙ sym (places_unset image first)) c.requires.free)) c.give_second.ensures.done

pub returns-in-Second-clause-calls : goal.returns-in-Second-clause-calls
returns-in-Second-clause-calls g c =
    let second = sym c.layout.ensures ∙ c.in-Second.is in
    subst (λ (n : ℕ). Ran n (g.D.Disk.facts c.args.disk.now) (g.D.Disk.facts c.finish.new.disk) c.finish.result) (calls_set c.args.image.now second) c.finish.ensures.calls

pub returns-in-Second-clause-moments : goal.returns-in-Second-clause-moments
returns-in-Second-clause-moments g c can =
    let f = g.D.Disk.facts c.args.disk.now in
    let f2 = g.D.Disk.facts c.finish.new.disk in
    let image = c.args.image.now in
    let words = c.args.words.now in
    let second = sym c.layout.ensures ∙ c.in-Second.is in
    file_moments f f2 _ _ words (places_set image second)
    (second_moments f f2 (at_of image) (words_of image) (found_places image) words (c.finish.ensures.moments words (can_finish image f words second can)))

pub returns-in-Second-clause-read : goal.returns-in-Second-clause-read
returns-in-Second-clause-read g c can =
    let f = g.D.Disk.facts c.args.disk.now in
    let f2 = g.D.Disk.facts c.finish.new.disk in
    let image = c.args.image.now in
    let words = c.args.words.now in
    let second = sym c.layout.ensures ∙ c.in-Second.is in
    subst (λ (n : ℕ). IsFile n words f2.reads) (places_set image second)
    (is_file (at_of image) (words_of image) (found_places image) words f2.reads (c.finish.ensures.read words (can_finish image f words second can)))

pub returns-in-Second-clause-done : goal.returns-in-Second-clause-done
returns-in-Second-clause-done g c =
    let f = g.D.Disk.facts c.args.disk.now in
    let f2 = g.D.Disk.facts c.finish.new.disk in
    let image = c.args.image.now in
    let words = c.args.words.now in
    let second = sym c.layout.ensures ∙ c.in-Second.is in
    on_ok _ _ c.finish.result (λ done can.
    subst (λ (k : ℕ). IsDurable f2 k (words_of image) words c.finish.new.states) (begins_set image second) (done words (can_finish image f words second can))) c.finish.ensures.done

pub returns-in-First-clause-touched : goal.returns-in-First-clause-touched
returns-in-First-clause-touched g c can set =
    let unset = is_unset c.args.image.now (sym c.layout.ensures ∙ c.in-First.is) in
    absurd (both_ways (is_switched c.args.image.now) unset set)

pub returns-in-Second-clause-touched : goal.returns-in-Second-clause-touched
returns-in-Second-clause-touched g c can set =
    let f = g.D.Disk.facts c.args.disk.now in
    let image = c.args.image.now in
    let words = c.args.words.now in
    c.finish.ensures.touched words (can_finish image f words (sym c.layout.ensures ∙ c.in-Second.is) can)

pub returns-in-First-clause-grown : goal.returns-in-First-clause-grown
returns-in-First-clause-grown g c can unset =
    let f = g.D.Disk.facts c.args.disk.now in
    let f2 = g.D.Disk.facts c.give_second.new.disk in
    let image = c.args.image.now in
    let first = sym c.layout.ensures ∙ c.in-First.is in
    subst (λ (k : ℕ). Grown InSwitch k f f2) (begins_unset image first) (c.give_second.ensures.grown (can_grow image f c.args.words.now first can))

pub returns-in-First-clause-given : goal.returns-in-First-clause-given
returns-in-First-clause-given g c =
    let f = g.D.Disk.facts c.args.disk.now in
    let image = c.args.image.now in
    let words = c.args.words.now in
    let first = sym c.layout.ensures ∙ c.in-First.is in
    on_ok _ _ c.give_second.result (λ given can unset.
    given (can_grow image f words first can)
    ∙ ap (λ n. given_second (size First (words_of image) (found_places image)) (second_part n words) f.reads) (places_unset image first)
    ∙ ap (λ k. given_second k (second_part (places_of image) words) f.reads) (begins_unset image first)) c.give_second.ensures.given

pub returns-in-Second-clause-grown : goal.returns-in-Second-clause-grown
returns-in-Second-clause-grown g c can unset =
    let set = is_set c.args.image.now (sym c.layout.ensures ∙ c.in-Second.is) in
    absurd (both_ways (is_switched c.args.image.now) unset set)

pub returns-in-Second-clause-given : goal.returns-in-Second-clause-given
returns-in-Second-clause-given g c =
    let set = is_set c.args.image.now (sym c.layout.ensures ∙ c.in-Second.is) in
    on_ok _ _ c.finish.result (λ done can unset. absurd (both_ways (is_switched c.args.image.now) unset set)) c.finish.ensures.done

pub returns-in-First-clause-made : goal.returns-in-First-clause-made
returns-in-First-clause-made g c =
    let first = sym c.layout.ensures ∙ c.in-First.is in
    subst (λ (calls : List DeviceCall). Makes g.D.Disk.made calls (is_ok c.give_second.result) c.args.disk.now c.give_second.new.disk)
    (ready_unset c.args.image.now c.args.words.now first) c.give_second.ensures.made

pub returns-in-Second-clause-made : goal.returns-in-Second-clause-made
returns-in-Second-clause-made g c =
    let second = sym c.layout.ensures ∙ c.in-Second.is in
    subst (λ (calls : List DeviceCall). Makes g.D.Disk.made calls (is_ok c.finish.result) c.args.disk.now c.finish.new.disk)
    (ready_set c.args.image.now c.args.words.now second) c.finish.ensures.made
