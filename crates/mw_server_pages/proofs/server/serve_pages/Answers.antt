-- Goals of `serve_pages` (src/server.rt).
use Rattle.std.proofs.Common.{map}
use Rattle.std.specs.Prelude.{string_bytes}
use Rattle.mw_server_pages.proofs.ClientLaws.{served_more}
use Rattle.mw_server_pages.proofs.server.serve_pages.Goals as goal

pub loop-preserved : goal.loop-preserved
loop-preserved g c =
    served_more (map string_bytes c.args.names.now) g.L.VisitorListener.accepts g.P.Pages.answered c.args.listener.now c.loop.listener c.serve_next.new.listener
    c.args.pages.now c.loop.pages c.serve_next.new.pages c.serve_next.ensures.0
    c.loop.invariant c.serve_next.ensures.1 c.serve_next.ensures.2
