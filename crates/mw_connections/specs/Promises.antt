-- Defines that a service, or pages, keep what was promised of their answers.
-- Used by: mw_server_pages, mw_workers, mw_server, mw_programs, peer.rt, visitors.rt. A change here changes what a server's clients may be served
-- with.
use Rattle.std.specs.Prelude.{List}
use Rattle.mw_session.specs.ServiceCalls.{AreAnswered}
use Rattle.mw_session.specs.Talk.{Call}
use Rattle.mw_http.specs.Calls as page

-- Whatever state the service is in, its answers to any calls, one after the other, are as promised. So they are in a session under way: this
-- holds of the calls that were made so far.
abbrev pub KeepsPromise : {S : Type 0} → (S → Call → S → Type 0) → (List Call → Type 0) → Type 0
KeepsPromise {S = S} answered promised = (old new : S) (calls : List Call) → AreAnswered answered old new calls → promised calls

-- The same of pages.
abbrev pub PagesKeep : {P : Type 0} → (P → page.Call → P → Type 0) → (List page.Call → Type 0) → Type 0
PagesKeep {P = P} answered promised = (old new : P) (calls : List page.Call) → page.AreAnswered answered old new calls → promised calls
