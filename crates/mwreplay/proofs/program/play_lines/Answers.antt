-- Goals of `play_lines` (src/program.rt).
use Rattle.std.proofs.Common.{◌∷◌, ◌++◌, [], Ok, Err, refl, sym, ap, ◌∙◌, append_assoc}
use Rattle.std.specs.Vec.Iter.{into_iter_items}
use Rattle.mwreplay.specs.PlayerSteps.{ObeysAll}
use Rattle.mwreplay.proofs.PlayerStepLaws.{is_same, plays_halts, plays_line, plays_nothing, same_then}
use Rattle.mwreplay.proofs.program.play_lines.Goals as goal

pub loop-line-init : goal.loop-line-init
loop-line-init g c = record {
  same = is_same c.args.player.now;
  plays = plays_nothing c.args.player.now (g.O.Write.contents c.args.out.now) (ObeysAll []) (Ok tt) refl;
  left = c.into_iter-line-iterator.ensures.into_iter_gives.0;
}

pub loop-line-preserved : goal.loop-line-preserved
loop-line-preserved g c =
    let lines = c.loop-line.yielded in
    let line = c.in-Some.line in
    record {
      same = same_then c.args.player.now c.loop-line.player c.obey.new.self c.loop-line.invariant.same c.obey.ensures.same;
      plays = plays_line c.args.player.now c.loop-line.player c.obey.new.self (g.O.Write.contents c.args.out.now) (g.O.Write.contents c.loop-line.out)
          (g.O.Write.contents c.obey.new.out) lines line tt (Ok tt) c.loop-line.invariant.same c.loop-line.invariant.plays c.in-Ok.ensures.plays;
      left = append_assoc lines (line ∷ []) (into_iter_items c.next.new.self) ∙ ap (λ l. lines ++ l) (sym c.in-Some.ensures.steps.0) ∙ c.loop-line.invariant.left;
    }

pub returns-in-Err-clause-plays : goal.returns-in-Err-clause-plays
returns-in-Err-clause-plays g c =
    let W = g.O.Write.contents in
    let lines = c.loop-line.yielded in
    let line = c.in-Some.line in
    plays_halts c.args.player.now c.obey.new.self (W c.args.out.now) (W c.obey.new.out) (ObeysAll (lines ++ line ∷ [])) (ObeysAll c.args.lines.items) c.in-Err.halt
    (plays_line c.args.player.now c.loop-line.player c.obey.new.self (W c.args.out.now) (W c.loop-line.out) (W c.obey.new.out) lines line tt (Err c.in-Err.halt)
    c.loop-line.invariant.same c.loop-line.invariant.plays c.in-Err.ensures.plays)

pub returns-in-Err-clause-told : goal.returns-in-Err-clause-told
returns-in-Err-clause-told g c = record {
  before = c.loop-line.yielded;
  line = c.in-Some.line;
  after = into_iter_items c.next.new.self;
  there = sym (ap (λ l. c.loop-line.yielded ++ l) (sym c.in-Some.ensures.steps.0) ∙ c.loop-line.invariant.left);
  numbered = refl;
  was = c.loop-line.player.world;
  what = c.asked-asked.result;
  asks = c.asked-asked.ensures;
  told = c.reason.ensures;
}
