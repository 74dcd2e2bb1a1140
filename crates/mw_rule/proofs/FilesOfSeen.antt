-- The words of a file that a thread holds are those that the start gave, with all changes that the thread has seen put over
-- them.
-- Used by: knowledge_stays_right, mw_table.
use Rattle.std.specs.Prelude.{◌≡◌}
use Rattle.std.proofs.Common.{sym, ◌∙◌}
use Rattle.mw_rule.specs.Calls.FileTokens.{file_told}
use Rattle.mw_rule.specs.FromLaws.{put_sealed}
use Rattle.mw_rule.proofs.FromLaws.{sealed_are_right}
use Rattle.mw_rule.specs.Laws.{FilesAreOfSeen}
use Rattle.mw_rule.specs.Prefixes.{seen_at}
use Rattle.mw_rule.specs.Rule.{HoldsFile, words_given}
use Rattle.mw_rule.proofs.Totals.{each_on}

pub files_are_of_seen : FilesAreOfSeen
files_are_of_seen view index bits stood =
    each_on (HoldsFile view.config stood.state) (λ held. (file_told held.file).contents ≡ put_sealed (words_given view held.file.tenant) (seen_at view.seen held.file.tenant))
    (λ held holds.
    let tenant = held.file.tenant in
    let right = sealed_are_right view.config stood.openings stood.events stood.state tenant stood.played holds.there in
    sym holds.tells.contents ∙ (sym right.all ∙ (λ i. put_sealed ((stood.gave tenant holds.there).words i) (sym (stood.seen tenant holds.there) i)))) view.files stood.files
