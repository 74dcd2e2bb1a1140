-- Goals of `read_reply` (src/replies.rt).
use Rattle.std.proofs.Common.{◌≡◌, List, ℕ, Option, Some, None, refl, ◌∙◌}
use Rattle.std.specs.Prelude.{IfSome}
use Rattle.mw_line.specs.declared.replies.Say.{Say}
use Rattle.mw_client.specs.ReplyGrammar.{Says, reading}
use Rattle.mw_client.proofs.ReplyTexts.{is_found, reading_again}
use Rattle.mw_client.proofs.replies.read_reply.Goals as goal

found : (line : List ℕ) (r : Option Say) → r ≡ reading line → IfSome r (λ s. Says s line)
found line (Some s) e = is_found line (Some s) e s refl
found line None e = tt

pub returns-clause-read : goal.returns-clause-read
returns-clause-read c = found c.args.line.now c.reply_of.result c.reply_of.ensures

pub returns-clause-whole : goal.returns-clause-whole
returns-clause-whole c = λ s h. c.reply_of.ensures ∙ reading_again s c.args.line.now h
