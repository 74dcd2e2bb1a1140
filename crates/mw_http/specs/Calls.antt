-- Defines what an exchange may ask of the pages, with the answer.
-- Used by: exchanges.rt, pages.rt, mw_connections, mw_server_pages. A new call of the trait Pages needs a case here.
use Rattle.std.specs.Prelude.{ℕ, List}
use Rattle.mw_session.specs.Transitions.{GoesThrough}
use Rattle.mw_http.specs.Targets.{Place}
use Rattle.mw_http.specs.declared.pages.Page.{Page}

-- A call of the pages, with its answer: the page of a place, or the date.
pub data Call : Type 0 where
  Shows : (place : Place) → Page → Call
  Dates : (date : List ℕ) → Call

-- These calls, in order, lead from one state of the pages to the other, each answered as the pages promise.
abbrev pub AreAnswered : {P : Type 0} → (P → Call → P → Type 0) → P → P → List Call → Type 0
AreAnswered answered old new calls = GoesThrough answered old calls new
