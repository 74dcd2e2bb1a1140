-- Goals of `Chosen::choose` (src/waiting.rt).
use Rattle.std.proofs.Common.{◌+◌, ◌∷◌, ◌∙◌, drop, length, sym, ap, subst, arith}
use Rattle.mw_book.specs.declared.waiting.Chosen.{Chosen}
use Rattle.mw_book.specs.ChosenPlaces.{AreChosen, IsUnderWay, free_within}
use Rattle.mw_book.specs.RecordsAhead.{first_ready}
use Rattle.mw_book.proofs.ChosenChanges.{full_passes, next_of, old_passes}
use Rattle.std.proofs.lemmas.Grind.{common_steps}
use Rattle.mw_book.proofs.waiting.Chosen.choose.Goals as goal
use Rattle.mw_book.proofs.waiting.Chosen.choose.Goals.{then-len-lt-MOST_AHEAD+then-is_new, else-len-lt-MOST_AHEAD, else-len-lt-MOST_AHEAD-via-then-len-lt-MOST_AHEAD+else-is_new, else-len-lt-MOST_AHEAD-via-else-len-lt-MOST_AHEAD}

pub loop-change-preserved : goal.loop-change-preserved
loop-change-preserved c =
    let states = c.args.states.now in
    let table = c.args.table.now in
    let places = c.args.places in
    let low = c.args.low in
    let slot = c.args.slot in
    let words = c.args.words in
    let waiting = c.args.waiting.now in
    let i = c.loop-change.change-index in
    let was = c.loop-change.self in
    let inv = c.loop-change.invariant in
    let all = first_ready words states table places slot (free_within states table low places) waiting in
    let under : IsUnderWay words states table places low slot all was.table was.changes.items was.top (c.change-item.result ∷ drop (i + 1) waiting) =
    next_of words states table places low slot all was.table was.changes.items was.top waiting i c.change-item.result c.loop-change-test.true c.change-item.is inv.under in
    elim c.if-len-lt-MOST_AHEAD.branch [
      | then-len-lt-MOST_AHEAD+then-is_new w ↦ record {
        are = subst (λ (x : Chosen). AreChosen words states table places low x.table x.changes.items x.top) (sym w.self-is) (w.add.ensures.kept table places c.requires.there c.requires.permuted inv.are);
        fewer = (let is = ap (λ (x : Chosen). length x.changes.items) w.self-is in let more = w.add.ensures.more in let few = inv.fewer in omega (arith, is, more, few));
        most =
            let is = ap (λ (x : Chosen). length x.changes.items) w.self-is in
            let more = w.add.ensures.more in
            let lt = w.if-len-lt-MOST_AHEAD.true in
            let len = c.len.ensures.value in
            omega (arith, is, more, lt, len);
        top = (let is = ap (λ (x : Chosen). x.top) w.self-is in let le = w.add.ensures.top in let most = inv.top in omega (arith, is, le, most));
        under = subst (λ (x : Chosen). IsUnderWay words states table places low slot all x.table x.changes.items x.top (drop (i + 1) waiting)) (sym w.self-is)
            (w.add.ensures.ahead table places slot all (drop (i + 1) waiting) (sym w.is_new.ensures ∙ w.if-is_new.true) under);
      }
      | else-len-lt-MOST_AHEAD w ↦ record {
        are = subst (λ (x : Chosen). AreChosen words states table places low x.table x.changes.items x.top) (sym w.self-is) inv.are;
        fewer = (let is = ap (λ (x : Chosen). length x.changes.items) w.self-is in let few = inv.fewer in omega (arith, is, few));
        most = (let is = ap (λ (x : Chosen). length x.changes.items) w.self-is in let few = inv.most in omega (arith, is, few));
        top = (let is = ap (λ (x : Chosen). x.top) w.self-is in let few = inv.top in omega (arith, is, few));
        under = subst (λ (x : Chosen). IsUnderWay words states table places low slot all x.table x.changes.items x.top (drop (i + 1) waiting)) (sym w.self-is)
            (elim w.else-len-lt-MOST_AHEAD.branch [
              | else-len-lt-MOST_AHEAD-via-then-len-lt-MOST_AHEAD+else-is_new x ↦
                  old_passes words states table places low slot all was.table was.changes.items was.top c.change-item.result (drop (i + 1) waiting) under (sym x.is_new.ensures ∙ x.if-is_new.false)
              | else-len-lt-MOST_AHEAD-via-else-len-lt-MOST_AHEAD x ↦
                  full_passes words states table places low slot all was.table was.changes.items was.top c.change-item.result (drop (i + 1) waiting) under
                  (let not_lt = x.if-len-lt-MOST_AHEAD.false in let len = c.len.ensures.value in omega (arith, not_lt, len))
            ]);
      }
    ]

pub loop-change-init : goal.loop-change-init
loop-change-init c = grind (arith, common_steps)

pub returns-clause-ahead : goal.returns-clause-ahead
returns-clause-ahead c = grind (arith, common_steps)
