-- Goals of `LoadedFile::admit` (src/loaded_file.rt).
use Rattle.std.proofs.Common.{◌+◌, sym, ap, ◌∙◌, refl, is_err, arith}
use Rattle.mw_file.specs.File.{states_of}
use Rattle.mw_file.specs.declared.place_states.Stage.TheVariants.{Prepared as PreparedStage}
use Rattle.mw_plain.proofs.Ready.{has_room, one_more, none_sealed}
use Rattle.mw_plain.proofs.StartEnds.{unprepared, prepared}
use Rattle.mw_plain.specs.Cases.{Unprepared, Prepared}
use Rattle.mw_plain.proofs.loaded_file.LoadedFile.admit.Goals as goal

pub prepare-requires-clause-room : goal.prepare-requires-clause-room
prepare-requires-clause-room g c =
    let book = c.args.self.now in
    has_room (states_of book.file) book.used c.args.quota (book.counted c.requires.up) (omega (arith, c.requires.within, c.if-self-quota.false)) c.requires.room

pub invariant_of-self-2 : goal.invariant_of-self-2
invariant_of-self-2 g c =
    let book = c.args.self.now in
    let file = c.in-Ok.ensures in
    record {
      same_words = book.same_words ∙ sym file.ends.words;
      sound = λ up. file.ends.after;
      counted = λ up. one_more (states_of book.file) (states_of c.prepare.new.self) _ _ file.lowest file.staged ∙ ap (λ n. n + 1) (book.counted up);
      unsealed = λ up. none_sealed (states_of book.file) (states_of c.prepare.new.self) _ PreparedStage _ (λ e. cc) (book.unsealed up) file.staged;
    }

pub returns-in_default-clause-ends : goal.returns-in_default-clause-ends
returns-in_default-clause-ends g c =
    let book = c.args.self.now in (
      Unprepared,
      unprepared g.D.Disk.facts c.args.quota book _ c.args.entries.now c.prepare.result c.requires.up (omega (arith, c.requires.within, c.if-self-quota.false))
          refl refl refl (ap is_err c.in_default.is) c.prepare.ensures.ends c.prepare.ensures.later c.prepare.ensures.safe,
    )

pub returns-clause-ends : goal.returns-clause-ends
returns-clause-ends g c =
    let book = c.args.self.now in
    let file = c.in-Ok.ensures in (
      Prepared,
      prepared g.D.Disk.facts c.args.quota book _ c.args.entries.now c.copy_of.result c.in-Ok.place c.requires.up (omega (arith, c.requires.within, c.if-self-quota.false))
          refl refl refl c.copy_of.ensures file.ends file.lowest file.staged file.later file.safe,
    )
