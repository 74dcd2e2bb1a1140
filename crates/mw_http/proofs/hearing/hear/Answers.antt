-- Goals of `hear` (src/hearing.rt): what a fresh server of http1 reads or refuses is what is heard.
use Rattle.std.proofs.Common.{ap, ◌∙◌, Some, map, arith}
use Rattle.std.specs.Prelude.{string_bytes}
use Rattle.std.proofs.Common.{inr}
use Rattle.mw_http.specs.Hearing.{Answer}
use Rattle.mw_http.proofs.ReadHeads.{whole_head, no_head, none_at_front}
use Rattle.std.proofs.lemmas.Grind.{common_steps}
use Rattle.mw_http.proofs.hearing.hear.Goals as goal

pub returns-in-Head-clause-whole : goal.returns-in-Head-clause-whole
returns-in-Head-clause-whole c h framing rest accepted few =
    c.answer.ensures ∙ ap (λ (a : Answer). Some a) (whole_head (map string_bytes c.args.names.now) c.new-server.result c.args.bytes.now c.read.new.headers c.read.new.self c.in-Ok.read c.in-Head.head
    c.new-server.ensures c.in-Ok.ensures.ok c.in-Head.is h framing rest accepted)

pub returns-in-Err-clause-heard : goal.returns-in-Err-clause-heard
returns-in-Err-clause-heard c =
    let why = no_head c.new-server.result c.args.bytes.now _ c.in-Err.fault c.new-server.ensures c.in-Err.ensures.err in
    inr (record { fault = c.in-Err.fault; none = why.0; reason = why.1; status = c.refusal_of.ensures })

pub returns-in-Err-clause-whole : goal.returns-in-Err-clause-whole
returns-in-Err-clause-whole c h framing rest accepted few =
    let why = no_head c.new-server.result c.args.bytes.now _ c.in-Err.fault c.new-server.ensures c.in-Err.ensures.err in
    absurd (none_at_front c.args.bytes.now why.0 h framing rest accepted few)

pub returns-in_default : goal.returns-in_default
returns-in_default c = grind (arith, common_steps)
