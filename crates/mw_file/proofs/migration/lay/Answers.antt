-- Goals of `lay` (src/migration.rt).
use Rattle.std.proofs.Common.{◌≤◌, ℕ, List, [], ◌∷◌, length, true, false, arith, ap, subst, ◌∙◌}
use Rattle.mw_disk.specs.DeviceCalls.{Sync, WriteAt}
use Rattle.mw_disk.proofs.MakesLaws.{makes_one, makes_step}
use Rattle.mw_disk.specs.Facts.{patched}
use Rattle.mw_disk.proofs.RunLaws.{good_call, bad_call, good_trans, called_later, still_honest, later_trans}
use Rattle.mw_record.specs.declared.layout.TheConstants.{SECOND_AT, WORD_SIZE}
use Rattle.mw_record.specs.Layout.{number_bytes}
use Rattle.mw_record.proofs.ReadBytes.{length-number_bytes}
use Rattle.mw_file.specs.RollForward.{InRange}
use Rattle.mw_file.proofs.Grown.{grown_write, grown_quiet, grown_more}
use Rattle.mw_file.proofs.Migrated.{laid_bytes}
use Rattle.mw_file.proofs.Ran.{stops, ran_err}
use Rattle.mw_file.proofs.migration.lay.Goals as goal

pub returns-in_err-write_at-2-clause-calls : goal.returns-in_err-write_at-2-clause-calls
returns-in_err-write_at-2-clause-calls g c =
    let old = g.D.Disk.facts c.args.disk.now in
    let one = g.D.Disk.facts c.write_at.new.self in
    let two = g.D.Disk.facts c.write_at-2.new.self in
    stops 1 1 3 old one two _ (omega arith) (good_call old one c.in_ok-write_at.ensures.call)
    (bad_call one two c.in_err-write_at-2.ensures.call (λ honest. c.in_err-write_at-2.ensures.spared)) c.from_residual-in_err-write_at-2.ensures.0

pub returns-in_err-write_at-2-clause-grown : goal.returns-in_err-write_at-2-clause-grown
returns-in_err-write_at-2-clause-grown g c honest =
    let old = g.D.Disk.facts c.args.disk.now in
    let one = g.D.Disk.facts c.write_at.new.self in
    let two = g.D.Disk.facts c.write_at-2.new.self in
    let S = InRange SECOND_AT WORD_SIZE in
    let at = c.args.at in
    let honest1 = still_honest old one (called_later old one true c.in_ok-write_at.ensures.call) honest in
    let size = ap length c.home_word.ensures.bytes ∙ length-number_bytes WORD_SIZE at in
    grown_more S at old one two
    (grown_write S at old one true c.in_ok-write_at.ensures.call at (length c.args.second.now) (c.in_ok-write_at.ensures.crash honest) (c.in_ok-write_at.ensures.torn honest)
    (λ k from to low. absurd (omega (arith, from, low))))
    (grown_write S at one two false c.in_err-write_at-2.ensures.call SECOND_AT (length c.home_word.result) (c.in_err-write_at-2.ensures.crash honest1) (c.in_err-write_at-2.ensures.torn honest1)
    (λ k from to low. record { from = from; to = omega (arith, to, size) }))

pub returns-in_err-sync-clause-calls : goal.returns-in_err-sync-clause-calls
returns-in_err-sync-clause-calls g c =
    let old = g.D.Disk.facts c.args.disk.now in
    let one = g.D.Disk.facts c.write_at.new.self in
    let two = g.D.Disk.facts c.write_at-2.new.self in
    let new = g.D.Disk.facts c.sync.new.self in
    stops 2 1 3 old two new _ (omega arith)
    (good_trans 1 1 old one two (good_call old one c.in_ok-write_at.ensures.call) (good_call one two c.in_ok-write_at-2.ensures.call))
    (bad_call two new c.in_err-sync.ensures.call (λ honest. c.in_err-sync.ensures.spared)) c.from_residual-in_err-sync.ensures.0

pub returns-in_err-sync-clause-grown : goal.returns-in_err-sync-clause-grown
returns-in_err-sync-clause-grown g c honest =
    let old = g.D.Disk.facts c.args.disk.now in
    let one = g.D.Disk.facts c.write_at.new.self in
    let two = g.D.Disk.facts c.write_at-2.new.self in
    let new = g.D.Disk.facts c.sync.new.self in
    let S = InRange SECOND_AT WORD_SIZE in
    let at = c.args.at in
    let honest1 = still_honest old one (called_later old one true c.in_ok-write_at.ensures.call) honest in
    let honest2 = still_honest one two (called_later one two true c.in_ok-write_at-2.ensures.call) honest1 in
    let size = ap length c.home_word.ensures.bytes ∙ length-number_bytes WORD_SIZE at in
    grown_more S at old one new
    (grown_write S at old one true c.in_ok-write_at.ensures.call at (length c.args.second.now) (c.in_ok-write_at.ensures.crash honest) (c.in_ok-write_at.ensures.torn honest)
    (λ k from to low. absurd (omega (arith, from, low))))
    (grown_more S at one two new
    (grown_write S at one two true c.in_ok-write_at-2.ensures.call SECOND_AT (length c.home_word.result) (c.in_ok-write_at-2.ensures.crash honest1) (c.in_ok-write_at-2.ensures.torn honest1)
    (λ k from to low. record { from = from; to = omega (arith, to, size) }))
    (grown_quiet S at two new false c.in_err-sync.ensures.call (c.in_err-sync.ensures.crash honest2) (c.in_err-sync.ensures.same honest2)))

pub returns-clause-grown : goal.returns-clause-grown
returns-clause-grown g c honest =
    let old = g.D.Disk.facts c.args.disk.now in
    let one = g.D.Disk.facts c.write_at.new.self in
    let two = g.D.Disk.facts c.write_at-2.new.self in
    let new = g.D.Disk.facts c.sync.new.self in
    let S = InRange SECOND_AT WORD_SIZE in
    let at = c.args.at in
    let honest1 = still_honest old one (called_later old one true c.in_ok-write_at.ensures.call) honest in
    let honest2 = still_honest one two (called_later one two true c.in_ok-write_at-2.ensures.call) honest1 in
    let size = ap length c.home_word.ensures.bytes ∙ length-number_bytes WORD_SIZE at in
    grown_more S at old one new
    (grown_write S at old one true c.in_ok-write_at.ensures.call at (length c.args.second.now) (c.in_ok-write_at.ensures.crash honest) (c.in_ok-write_at.ensures.torn honest)
    (λ k from to low. absurd (omega (arith, from, low))))
    (grown_more S at one two new
    (grown_write S at one two true c.in_ok-write_at-2.ensures.call SECOND_AT (length c.home_word.result) (c.in_ok-write_at-2.ensures.crash honest1) (c.in_ok-write_at-2.ensures.torn honest1)
    (λ k from to low. record { from = from; to = omega (arith, to, size) }))
    (grown_quiet S at two new true c.in_ok-sync.ensures.call (c.in_ok-sync.ensures.crash honest2) (c.in_ok-sync.ensures.same honest2)))

pub returns-clause-laid : goal.returns-clause-laid
returns-clause-laid g c honest low within =
    let old = g.D.Disk.facts c.args.disk.now in
    let one = g.D.Disk.facts c.write_at.new.self in
    let two = g.D.Disk.facts c.write_at-2.new.self in
    let new = g.D.Disk.facts c.sync.new.self in
    let honest1 = still_honest old one (called_later old one true c.in_ok-write_at.ensures.call) honest in
    let honest2 = still_honest one two (called_later one two true c.in_ok-write_at-2.ensures.call) honest1 in
    let longer = (c.in_ok-write_at.ensures.torn honest).no_shorter in
    let there : SECOND_AT ≤ length one.reads = omega (arith, low, within, longer) in
    laid_bytes c.args.at c.args.second.now c.home_word.result old.reads one.reads new.reads c.home_word.ensures.fits c.home_word.ensures.bytes low within
    (c.in_ok-write_at.ensures.written honest within)
    (c.in_ok-sync.ensures.same honest2 ∙ c.in_ok-write_at-2.ensures.written honest1 there)

pub returns-clause-written : goal.returns-clause-written
returns-clause-written g c honest low within =
    let old = g.D.Disk.facts c.args.disk.now in
    let one = g.D.Disk.facts c.write_at.new.self in
    let two = g.D.Disk.facts c.write_at-2.new.self in
    let honest1 = still_honest old one (called_later old one true c.in_ok-write_at.ensures.call) honest in
    let honest2 = still_honest one two (called_later one two true c.in_ok-write_at-2.ensures.call) honest1 in
    let longer = (c.in_ok-write_at.ensures.torn honest).no_shorter in
    let there : SECOND_AT ≤ length one.reads = omega (arith, low, within, longer) in
    c.in_ok-sync.ensures.same honest2 ∙ c.in_ok-write_at-2.ensures.written honest1 there
    ∙ ap (patched one.reads SECOND_AT) c.home_word.ensures.bytes
    ∙ ap (λ bs. patched bs SECOND_AT (number_bytes WORD_SIZE c.args.at)) (c.in_ok-write_at.ensures.written honest within)

pub returns-clause-made : goal.returns-clause-made
returns-clause-made g c =
    let told = WriteAt SECOND_AT (number_bytes WORD_SIZE c.args.at) in
    makes_step g.D.Disk.made (WriteAt c.args.at c.args.second.now) (told ∷ Sync ∷ []) true c.args.disk.now c.write_at.new.self c.sync.new.self c.in_ok-write_at.ensures.made
    (makes_step g.D.Disk.made told (Sync ∷ []) true c.write_at.new.self c.write_at-2.new.self c.sync.new.self
    (subst (λ (bs : List ℕ). g.D.Disk.made (WriteAt SECOND_AT bs) true c.write_at.new.self c.write_at-2.new.self) c.home_word.ensures.bytes c.in_ok-write_at-2.ensures.made)
    (makes_one g.D.Disk.made Sync true c.write_at-2.new.self c.sync.new.self c.in_ok-sync.ensures.made))

pub returns-in_err-write_at-clause-calls : goal.returns-in_err-write_at-clause-calls
returns-in_err-write_at-clause-calls g c =
    let old = g.D.Disk.facts c.args.disk.now in
    let one = g.D.Disk.facts c.write_at.new.self in
    ran_err 1 3 old one _ (omega arith) (bad_call old one c.in_err-write_at.ensures.call (λ honest. c.in_err-write_at.ensures.spared)) c.from_residual.ensures.0

pub returns-in_err-write_at-clause-grown : goal.returns-in_err-write_at-clause-grown
returns-in_err-write_at-clause-grown g c honest =
    let old = g.D.Disk.facts c.args.disk.now in
    let one = g.D.Disk.facts c.write_at.new.self in
    grown_write (InRange SECOND_AT WORD_SIZE) c.args.at old one false c.in_err-write_at.ensures.call c.args.at (length c.args.second.now)
    (c.in_err-write_at.ensures.crash honest) (c.in_err-write_at.ensures.torn honest) (λ k from to low. absurd (omega (arith, from, low)))

pub returns-clause-calls : goal.returns-clause-calls
returns-clause-calls g c =
    let old = g.D.Disk.facts c.args.disk.now in
    let one = g.D.Disk.facts c.write_at.new.self in
    let two = g.D.Disk.facts c.write_at-2.new.self in
    let new = g.D.Disk.facts c.sync.new.self in
    good_trans 2 1 old two new
    (good_trans 1 1 old one two (good_call old one c.in_ok-write_at.ensures.call) (good_call one two c.in_ok-write_at-2.ensures.call))
    (good_call two new c.in_ok-sync.ensures.call)

pub returns-clause-later : goal.returns-clause-later
returns-clause-later g c =
    let old = g.D.Disk.facts c.args.disk.now in
    let one = g.D.Disk.facts c.write_at.new.self in
    let two = g.D.Disk.facts c.write_at-2.new.self in
    let new = g.D.Disk.facts c.sync.new.self in
    later_trans old two new
    (later_trans old one two (called_later old one true c.in_ok-write_at.ensures.call) (called_later one two true c.in_ok-write_at-2.ensures.call))
    (called_later two new true c.in_ok-sync.ensures.call)

pub returns-clause-rest : goal.returns-clause-rest
returns-clause-rest g c honest =
    let old = g.D.Disk.facts c.args.disk.now in
    let one = g.D.Disk.facts c.write_at.new.self in
    let two = g.D.Disk.facts c.write_at-2.new.self in
    let honest1 = still_honest old one (called_later old one true c.in_ok-write_at.ensures.call) honest in
    c.in_ok-sync.ensures.durable (still_honest one two (called_later one two true c.in_ok-write_at-2.ensures.call) honest1)
