-- Defines when a ticket, which `start` gives for a change and `finish` uses up, is valid.
-- Used by: plain.rt. A change here changes what `start` promises and `finish` requires.
use Rattle.std.specs.Prelude.{◌<◌, IsTrue}
use Rattle.mw_words.specs.Change.{is_change}
use Rattle.mw_plain.specs.declared.plain.Plain.{Plain}
use Rattle.mw_plain.specs.declared.tickets.Ticket.{Ticket}
use Rattle.mw_plain.specs.Books.{IsPrepared}
use Rattle.mw_plain.specs.Parts.{tenants, words_at, book_at}

-- The ticket is for a change of a tenant that is there, well formed for its words. Unless the tenant has faulted, the
-- change is prepared in the ticket's place of its file.
pub record IsOpen {D : Type 0} (plain : Plain D) (ticket : Ticket) : Type 0 where
  pub there : ticket.tenant < tenants plain
  pub formed : IsTrue (is_change (words_at plain ticket.tenant) ticket.entries.items)
  pub prepared : IsPrepared (book_at plain ticket.tenant) ticket.place.0 ticket.entries.items
