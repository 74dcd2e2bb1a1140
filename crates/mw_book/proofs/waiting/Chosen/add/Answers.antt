-- Goals of `Chosen::add` (src/waiting.rt).
use Rattle.std.proofs.Common.{Some, refl, slice_set, sym, subst, ap, ◌∙◌, ◌&&◌, arith}
use Rattle.mw_words.specs.Change.{is_change}
use Rattle.mw_book.specs.ChosenPlaces.{AreChosen, IsUnderWay}
use Rattle.mw_book.proofs.ChosenChanges.{none_free, one_chosen, ready_is}
use Rattle.mw_book.proofs.ChosenPlaces.{one_more}
use Rattle.mw_book.proofs.waiting.Chosen.add.Goals as goal

pub returns-clause-kept : goal.returns-clause-kept
returns-clause-kept c table places there permuted are =
    let next = c.args.self.now.table in
    let changes = c.args.self.now.changes.items in
    subst (λ all. AreChosen c.args.words c.args.states.now table places c.args.low (record next { ahead_for = slice_set next.ahead_for c.in-Some.place (Some c.args.change.now.slot) }) all c.in-Some.place) (sym c.push.ensures.items)
    (one_more c.args.words c.args.states.now table places c.args.low there permuted next changes c.args.self.now.top are c.in-Some.place c.args.change.now.slot _
    c.in-Some.ensures.low c.in-Some.ensures.top c.in-Some.ensures.vacant c.in-Some.ensures.free (let lt = c.in-Some.ensures.top in let few = c.requires.top in omega (arith, lt, few)) c.file_place.ensures
    (ap (λ es. is_change c.args.words es.items) c.copy_of.ensures ∙ sym c.is_change.ensures ∙ c.if-not-is_change.false))

pub returns-clause-ahead : goal.returns-clause-ahead
returns-clause-ahead c table places slot all rest new under =
    let next = c.args.self.now.table in
    let changes = c.args.self.now.changes.items in
    subst (λ cs. IsUnderWay c.args.words c.args.states.now table places c.args.low slot all (record next { ahead_for = slice_set next.ahead_for c.in-Some.place (Some c.args.change.now.slot) }) cs c.in-Some.place rest) (sym c.push.ensures.items)
    (one_chosen c.args.words c.args.states.now table places c.args.low slot all next changes c.args.self.now.top c.args.change.now rest under c.in-Some.place _
    c.in-Some.ensures.low c.in-Some.ensures.top c.requires.room c.in-Some.ensures.vacant c.in-Some.ensures.free c.in-Some.ensures.highest
    (let lt = c.in-Some.ensures.top in let few = c.requires.top in omega (arith, lt, few)) c.file_place.ensures (ap (λ es. es.items) c.copy_of.ensures)
    (ready_is c.args.words c.args.states.now table places slot c.args.change.now ∙ ap (λ b. b && is_change c.args.words c.args.change.now.entries.items) new ∙ sym c.is_change.ensures ∙ c.if-not-is_change.false))

pub returns-in_default-clause-ahead : goal.returns-in_default-clause-ahead
returns-in_default-clause-ahead c table places slot all rest new under =
    none_free c.args.words c.args.states.now table places c.args.low slot all c.args.self.now.table c.args.self.now.changes.items c.args.self.now.top c.args.change.now rest under (c.in_default.ensures.none refl)
