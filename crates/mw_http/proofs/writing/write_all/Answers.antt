-- Goals of `write_all` (src/writing.rt).
use Rattle.std.proofs.Common.{◌≡◌, ◌==◌, false, rules, sym, subst, ◌∙◌, take, arith}
use Rattle.mw_session.specs.KnownStreams.{writes_of}
use Rattle.mw_session.specs.StreamRecords.{with_written}
use Rattle.mw_session.proofs.WrittenTexts.{write_takes}
use Rattle.mw_http.proofs.ExchangeLaws.{sending_more}
use Rattle.std.proofs.lemmas.Grind.{common_steps}
use Rattle.mw_http.proofs.writing.write_all.Goals as goal

pub loop-rest-preserved : goal.loop-rest-preserved
loop-rest-preserved g c =
    let before = c.loop-rest.stream in
    let after = c.write.new.self in
    let rest = c.loop-rest.rest.now in
    let taken = c.unwrap_or-taken.result in
    let some : (taken == 0) ≡ false = search rules in
    record {
      sending = sending_more (writes_of c.args.stream.now) (writes_of before) (writes_of after) c.args.text.now rest taken
          c.loop-rest.invariant.sending
          (subst (λ k. writes_of after ≡ with_written (writes_of before) (take k rest)) (sym c.unwrap_or-taken.ensures)
          (write_takes (writes_of before) (writes_of after) c.write.result rest c.write.ensures.writes (subst (λ k. (k == 0) ≡ false) c.unwrap_or-taken.ensures some)));
      reads = c.write.ensures.reads ∙ c.loop-rest.invariant.reads;
    }

pub returns-clause-writes : goal.returns-clause-writes
returns-clause-writes c = grind (arith, common_steps)
