-- Loop invariants of `serve_pages` (src/server.rt).
use Rattle.std.proofs.Common.{map}
use Rattle.std.specs.Prelude.{string_bytes}
use Rattle.mw_server_pages.specs.Clients.{AreServed}
use Rattle.mw_server_pages.proofs.server.serve_pages.Given as goal

-- those that came so far are served
abbrev pub invariant-loop : goal.invariant-loop
invariant-loop g l = AreServed (map string_bytes l.names) g.L.VisitorListener.accepts g.P.Pages.answered l.initial.listener l.listener l.initial.pages l.pages
