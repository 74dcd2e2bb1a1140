-- Goals of `Engine::into_disks` (src/end.rt).
use Rattle.std.specs.Prelude.{◌≡◌, ◌+◌, [], ◌∷◌, length, List}
use Rattle.std.specs.Vec.Iter.{into_iter_items}
use Rattle.std.proofs.Common.{ap, sym, ◌∙◌, length-append, arith}
use Rattle.mw_engine.specs.Identity.{Line}
use Rattle.mw_engine.proofs.Branded.{same_lines, with_own_lines}
use Rattle.mw_engine.proofs.Disks.{none_given_seen, one_more_seen, same_still, same_twice, sees_all, sees_on}
use Rattle.mw_engine.proofs.engine.Engine.into_disks.Goals as goal

pub loop-book-init : goal.loop-book-init
loop-book-init g c =
    let pass = c.args.pass.now in
    let none = ap length c.in-Ok.ensures.items in
    let gives = c.into_iter-book-iterator.ensures.into_iter_gives in
    let same = ap length gives.0 in
    record {
      all = omega (arith, none, same);
      own = c.requires.own;
      stays = same_still pass;
      sees = sees_all pass.seat.me.0;
      each = none_given_seen g.D.Disk.facts g.J.EngineBrand.identity pass.seat.me.0 pass.seat.me.0 c.in-Ok.disks.items c.in-Ok.ensures.items;
    }

pub loop-book-preserved : goal.loop-book-preserved
loop-book-preserved g c =
    let first = c.args.pass.now in
    let before = c.loop-book.pass in
    let now = c.into_disk.new.pass in
    let disks = c.loop-book.disks in
    let inv = c.loop-book.invariant in
    let all = inv.all in
    let found = c.into_disk.result in
    let of_books = ap length c.in-Some.ensures.steps.0 in
    let more : length c.push.new.self.items ≡ length disks.items + 1 = ap length c.in-Ok-push.ensures.items ∙ length-append disks.items (found ∷ []) in
    record {
      all = omega (arith, all, of_books, more);
      own = c.into_disk.ensures.own;
      stays = same_twice first before now inv.stays c.into_disk.ensures.stays;
      sees = sees_on first.seat.me.0 before.seat.me.0 now.seat.me.0 inv.sees c.into_disk.ensures.sees;
      each = one_more_seen g.D.Disk.facts g.J.EngineBrand.identity first.seat.me.0 before.seat.me.0 now.seat.me.0 disks.items c.push.new.self.items found c.into_inner-kept.result.tenant c.in-Ok-push.ensures.items
          (sym (sym c.from.ensures ∙ (c.if-from-len.false ∙ (c.len-in-loop-book.ensures ∙ disks.ok.0)))) inv.sees c.into_disk.ensures.sees inv.each c.into_disk.ensures.given;
    }

-- no memory for the list of disks: the pass is as it came
pub returns-in_default-clause-own : goal.returns-in_default-clause-own
returns-in_default-clause-own g c = c.requires.own

pub returns-in_default-clause-stays : goal.returns-in_default-clause-stays
returns-in_default-clause-stays g c = same_still c.args.pass.now

pub returns-in_default-clause-sees : goal.returns-in_default-clause-sees
returns-in_default-clause-sees g c = sees_all c.args.pass.now.seat.me.0

pub returns-in_default-clause-given : goal.returns-in_default-clause-given
returns-in_default-clause-given g c = tt

-- a file of another tenant: the pass is as the loop had it
pub returns-then-from-len-clause-own : goal.returns-then-from-len-clause-own
returns-then-from-len-clause-own g c = c.loop-book.invariant.own

pub returns-then-from-len-clause-stays : goal.returns-then-from-len-clause-stays
returns-then-from-len-clause-stays g c = c.loop-book.invariant.stays

pub returns-then-from-len-clause-sees : goal.returns-then-from-len-clause-sees
returns-then-from-len-clause-sees g c = c.loop-book.invariant.sees

pub returns-then-from-len-clause-given : goal.returns-then-from-len-clause-given
returns-then-from-len-clause-given g c = tt

-- the core is the engine's, and so is the pass
pub into_disk-requires-clause-engine : goal.into_disk-requires-clause-engine
into_disk-requires-clause-engine g c = with_own_lines c.args.self.words g.J.EngineBrand.identity c.args.self.same

pub into_disk-requires-clause-own : goal.into_disk-requires-clause-own
into_disk-requires-clause-own g c = c.loop-book.invariant.own

-- no memory for one more disk: the pass has seen that file too
pub returns-in_default-push-clause-own : goal.returns-in_default-push-clause-own
returns-in_default-push-clause-own g c = c.into_disk.ensures.own

pub returns-in_default-push-clause-stays : goal.returns-in_default-push-clause-stays
returns-in_default-push-clause-stays g c =
    same_twice c.args.pass.now c.loop-book.pass c.into_disk.new.pass c.loop-book.invariant.stays c.into_disk.ensures.stays

pub returns-in_default-push-clause-given : goal.returns-in_default-push-clause-given
returns-in_default-push-clause-given g c = tt

pub returns-in_default-push-clause-sees : goal.returns-in_default-push-clause-sees
returns-in_default-push-clause-sees g c =
    sees_on c.args.pass.now.seat.me.0 c.loop-book.pass.seat.me.0 c.into_disk.new.pass.seat.me.0 c.loop-book.invariant.sees c.into_disk.ensures.sees

-- all files are given: the pass is as the loop left it
pub returns-clause-own : goal.returns-clause-own
returns-clause-own g c = c.loop-book.invariant.own

pub returns-clause-stays : goal.returns-clause-stays
returns-clause-stays g c = c.loop-book.invariant.stays

pub returns-clause-sees : goal.returns-clause-sees
returns-clause-sees g c = c.loop-book.invariant.sees

pub returns-clause-given : goal.returns-clause-given
returns-clause-given g c =
    let engine = c.args.self in
    let all = c.loop-book.invariant.all in
    let none : length (into_iter_items c.loop-book.book-iterator) ≡ 0 = sym c.loop-book.book-iterator.rest.ok.0 ∙ c.in-None.ensures.steps.0 in
    let count : length c.loop-book.disks.items ≡ length engine.books.items = omega (arith, all, none) in
    record {
      count = count ∙ (engine.a_book_each ∙ ap (λ (lines : List Line). length lines) (same_lines engine.words g.J.EngineBrand.identity engine.same));
      each = c.loop-book.invariant.each;
    }
