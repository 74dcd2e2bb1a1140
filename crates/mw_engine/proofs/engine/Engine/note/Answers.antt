-- Goals of `Engine::note` (src/notes.rt).
use Rattle.std.proofs.Common.{ap, sym, subst, ◌∙◌}
use Rattle.atomic_table.specs.Table.{Me}
use Rattle.mw_core.specs.FromTable.{IsOf, Shared, View}
use Rattle.mw_engine.specs.FromBelow.{ActorState}
use Rattle.mw_engine.proofs.Branded.{in_words, same_table, still_of}
use Rattle.mw_engine.proofs.engine.Engine.note.Goals as goal

pub note-requires : goal.note-requires
note-requires g c = record {
  own = subst (λ (shared : Shared). IsOf shared c.args.pass.now) (sym c.shared.ensures) (in_words c.args.self.now.words g.J.EngineBrand.identity c.args.self.now.same c.args.pass.now c.requires.own).own;
}

pub returns-clause-own : goal.returns-clause-own
returns-clause-own g c =
    still_of c.args.self.now.words g.J.EngineBrand.identity c.args.self.now.same c.args.pass.now c.note.new.pass c.requires.own (subst (λ (shared : Shared). IsOf shared c.note.new.pass) c.shared.ensures c.note.ensures.own)
    c.note.ensures.stays.same_worker (ap (λ (me : Me ActorState View). me.0.files) c.note.ensures.knows)

pub returns-clause-its : goal.returns-clause-its
returns-clause-its g c = c.note.ensures.its ∙ ap (λ (shared : Shared). shared.table.shared.table_id) c.shared.ensures ∙ same_table c.args.self.now.words g.J.EngineBrand.identity c.args.self.now.same
