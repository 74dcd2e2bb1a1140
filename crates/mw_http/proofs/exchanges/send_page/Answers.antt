-- Goals of `send_page` (src/exchanges.rt): the head is written, and then the body if it is asked for.
use Rattle.mw_session.specs.KnownStreams.{writes_of}
use Rattle.mw_http.proofs.PageTexts.{front_is, front_breaks, front_alone, front_then_body}
use Rattle.mw_http.proofs.exchanges.send_page.Goals as goal

pub returns-then-not-write_all-clause-sends : goal.returns-then-not-write_all-clause-sends
returns-then-not-write_all-clause-sends g c =
    front_breaks c.args.page.now c.args.date.now.items c.args.content (writes_of c.args.stream.now) (writes_of c.write_all.new.stream) c.deref-2.result.now
    (front_is c.args.page.now c.args.date.now.items c.len.result c.deref.result.now c.answer_head-head.result.items c.deref-2.result.now c.len.ensures c.deref.ensures.0
    c.answer_head-head.ensures c.deref-2.ensures.0)
    c.if-not-write_all.ensures.writes

pub returns-then-not-content-clause-sends : goal.returns-then-not-content-clause-sends
returns-then-not-content-clause-sends g c =
    front_alone c.args.page.now c.args.date.now.items c.args.content (writes_of c.args.stream.now) (writes_of c.write_all.new.stream) c.deref-2.result.now
    (front_is c.args.page.now c.args.date.now.items c.len.result c.deref.result.now c.answer_head-head.result.items c.deref-2.result.now c.len.ensures c.deref.ensures.0
    c.answer_head-head.ensures c.deref-2.ensures.0)
    c.if-not-content.true c.if-not-write_all.ensures.writes

pub returns-clause-sends : goal.returns-clause-sends
returns-clause-sends g c =
    front_then_body c.args.page.now c.args.date.now.items c.args.content (writes_of c.args.stream.now) (writes_of c.write_all.new.stream) (writes_of c.send.new.stream)
    c.deref-2.result.now c.deref-3.result.now c.send.result
    (front_is c.args.page.now c.args.date.now.items c.len.result c.deref.result.now c.answer_head-head.result.items c.deref-2.result.now c.len.ensures c.deref.ensures.0
    c.answer_head-head.ensures c.deref-2.ensures.0)
    c.if-not-content.false c.if-not-write_all.ensures.writes c.deref-3.ensures.value c.send.ensures.sends
