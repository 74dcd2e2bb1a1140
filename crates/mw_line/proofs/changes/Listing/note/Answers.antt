-- Goals of `Listing::note` (src/changes.rt).
use Rattle.std.proofs.Common.{◌≡◌, ◌∷◌, ◌++◌, [], true, Result, Ok, Err, ap, sym, ◌∙◌}
use Rattle.std.specs.Prelude.{OnErr}
use Rattle.std.specs.Result.{is_err}
use Rattle.mw_words.specs.declared.limits.TheConstants.{MAX_ENTRIES}
use Rattle.mw_line.proofs.ChangeReader.{full}
use Rattle.mw_line.proofs.changes.Listing.note.Goals as goal

refused : {A B : Type 0} (r : Result A B) (P : Type 0) → is_err r ≡ true → OnErr r P → P
refused (Ok x) P h told = absurd cc
refused (Err x) P h told = told

pub returns-then-is_err : goal.returns-then-is_err
returns-then-is_err c = λ es lists.
    let no_room = refused c.try_push.result _ (sym c.is_err.ensures.value ∙ c.if-is_err.true) c.try_push.ensures.full in
    let same = refused c.try_push.result _ (sym c.is_err.ensures.value ∙ c.if-is_err.true) c.try_push.ensures.err in
    let h = full MAX_ENTRIES es c.args.self.now.kept.items c.args.entry lists.kept no_room in
    record { kept = ap (λ kept. kept.items) same ∙ h.0; more = sym h.1 }
