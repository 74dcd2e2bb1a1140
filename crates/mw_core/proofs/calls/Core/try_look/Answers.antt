-- Goals of `Core::try_look` (src/read_rounds.rt).
use Rattle.std.proofs.Common.{◌≡◌, ◌∷◌, true, false, Option, ap, sym, ◌∙◌, subst}
use Rattle.mw_actor.specs.ActorState.{ActorState}
use Rattle.mw_actor.specs.Program.{replied}
use Rattle.mw_core.specs.declared.read_rounds.WhyAgain.{WhyAgain}
use Rattle.mw_core.specs.ReadRounds.{is_under_way}
use Rattle.mw_core.proofs.ReadRoundLaws.{Under, ended, first_under, has_reason, lower, next_under, read_by, runs_on}
use Rattle.mw_core.proofs.calls.Core.try_look.Goals as goal

pub loop-pass-init : goal.loop-pass-init
loop-pass-init c = record {
  own = c.make_first.ensures.own;
  worker = c.make_first.ensures.worker;
  carried = c.make_first.ensures.carried;
  goes = record {
    look = c.requires.look;
    under = first_under c.args.pass.now c.make_first.new.pass c.args.actor.now c.make_first.new.actor c.requires.look c.requires.comes (c.make_first.ensures.made c.requires.look);
  };
}

pub make_next-requires-clause-running : goal.make_next-requires-clause-running
make_next-requires-clause-running c =
    let goes = c.loop-pass.invariant.goes in
    let under = goes.under in
    let read = read_by c.args.actor.now goes.look.address (under.latest ∷ under.earlier) in
    let on : is_under_way read.point ≡ true = sym (c.is_under_way.ensures read (ap (λ (one : ActorState). one.point) under.next_is)) ∙ c.loop-pass-test.true in
    ap replied under.next_is ∙ runs_on read.point on

pub make_next-requires-clause-look : goal.make_next-requires-clause-look
make_next-requires-clause-look c =
    let under = c.loop-pass.invariant.goes.under in
    (read_by c.args.actor.now c.loop-pass.invariant.goes.look.address (under.latest ∷ under.earlier), ap (λ (one : ActorState). one.point) under.next_is)

pub loop-pass-smaller : goal.loop-pass-smaller
loop-pass-smaller c =
    let goes = c.loop-pass.invariant.goes in
    let under = goes.under in
    let read = read_by c.args.actor.now goes.look.address (under.latest ∷ under.earlier) in
    let at = ap (λ (one : ActorState). one.point) under.next_is in
    let on : is_under_way read.point ≡ true = sym (c.is_under_way.ensures read at) ∙ c.loop-pass-test.true in
    lower c.args.pass.now c.loop-pass.pass c.make_next.new.pass c.args.actor.now c.loop-pass.actor c.make_next.new.actor goes.look.address c.loop-pass.why c.make_next.result under on
    (c.make_next.ensures.made read at)

pub loop-pass-preserved : goal.loop-pass-preserved
loop-pass-preserved c =
    let goes = c.loop-pass.invariant.goes in
    let under = goes.under in
    let address = goes.look.address in
    let read = read_by c.args.actor.now address (under.latest ∷ under.earlier) in
    let at = ap (λ (one : ActorState). one.point) under.next_is in
    let on : is_under_way read.point ≡ true = sym (c.is_under_way.ensures read at) ∙ c.loop-pass-test.true in
    record {
      own = c.make_next.ensures.own;
      worker = c.make_next.ensures.worker ∙ c.loop-pass.invariant.worker;
      carried = c.make_next.ensures.carried;
      goes = record {
        look = goes.look;
        under = subst (λ (some : Option WhyAgain). Under c.args.pass.now c.make_next.new.pass c.args.actor.now c.make_next.new.actor address some) (sym c.or-why.ensures)
            (next_under c.args.pass.now c.loop-pass.pass c.make_next.new.pass c.args.actor.now c.loop-pass.actor c.make_next.new.actor address c.loop-pass.why c.make_next.result under on
            (c.make_next.ensures.made read at));
      };
    }

pub end-requires-clause-why : goal.end-requires-clause-why
end-requires-clause-why c =
    let goes = c.loop-pass.invariant.goes in
    let under = goes.under in
    let read = read_by c.args.actor.now goes.look.address (under.latest ∷ under.earlier) in
    let off : is_under_way read.point ≡ false = sym (c.is_under_way.ensures read (ap (λ (one : ActorState). one.point) under.next_is)) ∙ c.loop-pass-test.false in
    has_reason c.args.pass.now c.loop-pass.pass c.args.actor.now c.loop-pass.actor goes.look.address c.loop-pass.why under off

pub returns-clause-looks : goal.returns-clause-looks
returns-clause-looks c =
    let goes = c.loop-pass.invariant.goes in
    let under = goes.under in
    let read = read_by c.args.actor.now goes.look.address (under.latest ∷ under.earlier) in
    let off : is_under_way read.point ≡ false = sym (c.is_under_way.ensures read (ap (λ (one : ActorState). one.point) under.next_is)) ∙ c.loop-pass-test.false in
    ended c.args.pass.now c.loop-pass.pass c.end.new.pass c.args.actor.now c.loop-pass.actor goes.look c.loop-pass.why c.end.result under off c.loop-pass.invariant.carried c.end.ensures.ends
