-- Goals of `Requests::get` (src/asked.rt).
use Rattle.std.proofs.Common.{sym}
use Rattle.mw_plain.proofs.Numbered.{numbered-below, numbered-get, read-is}
use Rattle.mw_plain.proofs.asked.Requests.get.Goals as goal

pub returns-then-n-self : goal.returns-then-n-self
returns-then-n-self c = rw (← c.self.view_is) (sym (numbered-below _ _ _ c.if-n-self.true))

pub returns : goal.returns
returns c = rw (← c.self.view_is, numbered-get _ _ _ c.if-n-self.false, ← c.deref.ensures.value) (read-is _ _ _ c.get.ensures.lookup)
