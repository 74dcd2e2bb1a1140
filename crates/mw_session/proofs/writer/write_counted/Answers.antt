-- Goals of `write_counted` (src/writer.rt).
use Rattle.std.proofs.Common.{◌≡◌, ◌==◌, false, rules, arith, sym, subst, ◌∙◌, length, take, ◌≤◌, refl}
use Rattle.std.proofs.lemmas.Bool.{eq-eqb, eqb-false, eqb-true}
use Rattle.mw_session.specs.KnownStreams.{inner_of, reads_of, writes_of}
use Rattle.mw_session.specs.StreamRecords.{with_written}
use Rattle.mw_session.proofs.Agreements.{agree_nothing, tied_then}
use Rattle.mw_session.proofs.CallsMade.{made_nothing, made_then, made_write}
use Rattle.mw_session.proofs.WrittenTexts.{sending_done, sending_fails, sending_more, sending_starts, write_fits, write_takes, write_took_nothing}
use Rattle.mw_session.proofs.writer.write_counted.Goals as goal

pub loop-rest-init : goal.loop-rest-init
loop-rest-init g c =
    let T = g.T.PeerStream in
    let s = c.args.stream.now in
    record {
      sending = sending_starts (writes_of s) c.args.count.now c.args.text.now;
      reads = refl;
      tied = agree_nothing (T.remaining (inner_of s)) (T.contents (inner_of s)) (reads_of s) (writes_of s);
      made = made_nothing T.called s;
    }

pub loop-rest-preserved : goal.loop-rest-preserved
loop-rest-preserved g c =
    let T = g.T.PeerStream in
    let before = c.loop-rest.stream in
    let after = c.write.new.self in
    let rest = c.loop-rest.rest.now in
    let taken = c.unwrap_or-taken.result in
    let some : (taken == 0) ≡ false = search rules in
    record {
      sending = sending_more (writes_of c.args.stream.now) (writes_of before) (writes_of after) c.args.count.now c.loop-rest.count c.saturating_add.result c.args.text.now rest taken
          c.loop-rest.invariant.sending
          (subst (λ k. k ≤ length rest) (sym c.unwrap_or-taken.ensures) (write_fits c.write.result rest c.write.ensures.bound))
          (subst (λ k. writes_of after ≡ with_written (writes_of before) (take k rest)) (sym c.unwrap_or-taken.ensures)
          (write_takes (writes_of before) (writes_of after) c.write.result rest c.write.ensures.writes (subst (λ k. (k == 0) ≡ false) c.unwrap_or-taken.ensures some)))
          c.saturating_add.ensures;
      reads = c.write.ensures.reads ∙ c.loop-rest.invariant.reads;
      tied = tied_then T.remaining T.contents c.args.stream.now before after c.loop-rest.invariant.tied c.write.ensures.tied;
      made = made_then T.called c.args.stream.now before after c.loop-rest.invariant.made
          (made_write T.called before after rest c.write.result c.write.ensures.called c.write.ensures.reads c.write.ensures.writes);
    }

pub returns-then-taken-eq0-clause-tied : goal.returns-then-taken-eq0-clause-tied
returns-then-taken-eq0-clause-tied g c =
    let T = g.T.PeerStream in
    tied_then T.remaining T.contents c.args.stream.now c.loop-rest.stream c.write.new.self c.loop-rest.invariant.tied c.write.ensures.tied

pub returns-then-taken-eq0-clause-made : goal.returns-then-taken-eq0-clause-made
returns-then-taken-eq0-clause-made g c =
    let T = g.T.PeerStream in
    let before = c.loop-rest.stream in
    let after = c.write.new.self in
    made_then T.called c.args.stream.now before after c.loop-rest.invariant.made
    (made_write T.called before after c.loop-rest.rest.now c.write.result c.write.ensures.called c.write.ensures.reads c.write.ensures.writes)

pub returns-then-taken-eq0-clause-writes : goal.returns-then-taken-eq0-clause-writes
returns-then-taken-eq0-clause-writes g c =
    let first = writes_of c.args.stream.now in
    let before = writes_of c.loop-rest.stream in
    let after = writes_of c.write.new.self in
    let rest = c.loop-rest.rest.now in
    let some = eqb-false (length rest) 0 (sym c.loop-rest-test.ensures) in
    sending_fails first before after c.args.count.now c.loop-rest.count c.args.text.now rest c.loop-rest.invariant.sending (omega (arith, some))
    (write_took_nothing before after c.write.result rest c.write.ensures.writes (eq-eqb _ _ (sym c.unwrap_or-taken.ensures ∙ c.if-taken-eq0.true)))

pub returns-clause-writes : goal.returns-clause-writes
returns-clause-writes g c =
    sending_done (writes_of c.args.stream.now) (writes_of c.loop-rest.stream) c.args.count.now c.loop-rest.count c.args.text.now c.loop-rest.rest.now c.loop-rest.invariant.sending
    (eqb-true (length c.loop-rest.rest.now) 0 (sym c.loop-rest-test.ensures))
