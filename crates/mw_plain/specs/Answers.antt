-- Defines what the calls on a plain store promise: each tenant is answered, and left, as its store alone does it.
-- Used by: plain.rt, restarts.rt. A change here changes what tests compare the engine with.
use Rattle.std.specs.Prelude.{◌≡◌, ◌≢◌, ℕ, false, List, length, Option, Some, None, is_some}
use Rattle.mw_disk.specs.Facts.{Facts}
use Rattle.mw_words.specs.declared.jobs.Entry.{Entry}
use Rattle.mw_words.specs.declared.jobs.Job.{Job}
use Rattle.mw_words.specs.declared.jobs.Job.TheVariants.{Cas}
use Rattle.mw_words.specs.declared.replies.Reply.{Reply}
use Rattle.mw_lone.specs.Store.{Store, request, entries_of}
use Rattle.mw_plain.specs.declared.loaded_file.LoadedFile.{LoadedFile}
use Rattle.mw_plain.specs.declared.plain.Plain.{Plain}
use Rattle.mw_plain.specs.declared.tickets.Ticket.{Ticket}
use Rattle.mw_plain.specs.declared.tickets.Start.{Start}
use Rattle.mw_plain.specs.declared.tickets.Start.TheVariants.{Done, Open}
use Rattle.mw_plain.specs.Books.{faulted_in, places_in}
use Rattle.mw_plain.specs.Parts.{words_at, quota_at, book_at}
use Rattle.mw_plain.specs.Tickets.{IsOpen}
use Rattle.mw_plain.specs.Cases.{StartCase, FinishCase, AskCase, Prepared, AtStart, AtFinish, StartFits, FinishFits, AskFits, start_reply, finish_reply, ask_reply, after_start, after_finish, after_ask, under_way, is_end}
use Rattle.mw_plain.specs.Marks.{Started, Finished, Answered}
use Rattle.mw_plain.specs.Refinement.{Backs, IsKept, CrashLeaves}
use Rattle.mw_plain.specs.CallEnds.{StartMade, FinishMade, at_stake}

-- the reply of a start; none if the change is still to be finished
abbrev pub reply_in : Start → Option Reply
reply_in (Done reply) = Some reply
reply_in (Open ticket) = None

-- The change that a crash may find while a job is asked: the job's own while it is sealed or settled, else the one in
-- doubt.
abbrev pub ask_stake : AskCase → List Entry → List Entry → List Entry
ask_stake (AtStart case) entries in_doubt = in_doubt
ask_stake (AtFinish case) entries in_doubt = at_stake case entries in_doubt

-- A new ticket finishes this job of this tenant, which has not faulted. Every ticket of the tenant that was open before
-- is for another place.
pub record OpensTicket {D : Type 0} (old new : Plain D) (tenant : ℕ) (job : Job) (ticket : Ticket) : Type 0 where
  pub tenant_is : ticket.tenant ≡ tenant
  pub change : job ≡ Cas ticket.entries
  pub up : faulted_in (book_at new tenant) ≡ false
  pub is_open : IsOpen new ticket
  pub alone : (other : Ticket) → IsOpen old other → other.tenant ≡ tenant → other.place.0 ≢ ticket.place.0

-- if a start left the job open, its ticket finishes it
abbrev pub OpensIn : {D : Type 0} → Plain D → Plain D → ℕ → Job → Start → Type 0
OpensIn old new tenant job (Done reply) = Unit {0}
OpensIn old new tenant job (Open ticket) = OpensTicket old new tenant job ticket

-- This store alone represents a tenant: it has the tenant's quota, number of words, words, slots in use and fault.
pub record Stands {D : Type 0} (plain : Plain D) (tenant : ℕ) (s : Store) : Type 0 where
  pub quota : s.quota ≡ quota_at plain tenant
  pub as_many : length s.words ≡ words_at plain tenant
  pub backs : Backs (book_at plain tenant) s

module _ {D : Type 0} (facts : D → Facts) where
  -- on an honest disk the tenant's file represents the store's words, with the store's change in doubt
  abbrev pub FileKeeps : Plain D → ℕ → Store → Type 0
  FileKeeps plain tenant s = IsKept facts (book_at plain tenant) s

  -- What a start does to a store alone that represents the tenant. The case fits, and has this reply. Its marks are
  -- legal and hand the reply out. The store after them represents the tenant after the call.
  pub record StartServes (case : StartCase) (new : Plain D) (tenant : ℕ) (job : Job) (result : Start) (s : Store) : Type 0 where
    pub fits : StartFits s job case
    pub reply : reply_in result ≡ start_reply s.words job case
    pub goes : Started s job case
    pub stands : Stands new tenant (after_start s job case)

  -- A start of a job, by its case: what it did on the device, and what it does to the store alone. The file goes on to
  -- represent the store's words. On an honest disk a crash during the call leaves the store's words, or these with the
  -- change in doubt. A case that isn't the end gives a ticket. Open tickets stay open, and the file keeps its
  -- number of places.
  pub record StartsAs (case : StartCase) (old new : Plain D) (tenant : ℕ) (job : Job) (result : Start) : Type 0 where
    pub made : StartMade facts case (quota_at old tenant) (book_at old tenant) (book_at new tenant)
    pub serves : (s : Store) → Stands old tenant s → StartServes case new tenant job result s
    pub keeps : (s : Store) → FileKeeps old tenant s → FileKeeps new tenant (after_start s job case)
    pub moments : (s : Store) → FileKeeps old tenant s → CrashLeaves facts (book_at old tenant) (book_at new tenant) s.words s.in_doubt
    pub ended : is_end case ≡ is_some (reply_in result)
    pub places : (so_many : ℕ) → places_in so_many (book_at new tenant) ≡ places_in so_many (book_at old tenant)
    pub ticket : OpensIn old new tenant job result
    pub kept : (other : Ticket) → IsOpen old other → IsOpen new other

  -- What a finish does to a store alone that represents the tenant, in which request n is this change under way.
  pub record FinishServes (case : FinishCase) (new : Plain D) (ticket : Ticket) (reply : Reply) (s : Store) (n : ℕ) : Type 0 where
    pub fits : FinishFits s (Cas ticket.entries) case
    pub reply_is : Some reply ≡ finish_reply s.words (Cas ticket.entries) case
    pub goes : Finished s n (Cas ticket.entries) case
    pub stands : Stands new ticket.tenant (after_finish s n (Cas ticket.entries) case)

  -- A finish of a change, by its case, as a start above. The tickets for other places stay open.
  pub record FinishesAs (case : FinishCase) (old new : Plain D) (ticket : Ticket) (reply : Reply) : Type 0 where
    pub made : FinishMade facts case (length ticket.entries.items) (book_at old ticket.tenant) (book_at new ticket.tenant)
    pub serves : (s : Store) (n : ℕ) → Stands old ticket.tenant s → request s n ≡ Some (under_way (Cas ticket.entries)) → FinishServes case new ticket reply s n
    pub keeps : (s : Store) (n : ℕ) → FileKeeps old ticket.tenant s → FileKeeps new ticket.tenant (after_finish s n (Cas ticket.entries) case)
    pub moments : (s : Store) → FileKeeps old ticket.tenant s
        → CrashLeaves facts (book_at old ticket.tenant) (book_at new ticket.tenant) s.words (at_stake case ticket.entries.items s.in_doubt)
    pub places : (so_many : ℕ) → places_in so_many (book_at new ticket.tenant) ≡ places_in so_many (book_at old ticket.tenant)
    pub kept : (other : Ticket) → (other.tenant ≡ ticket.tenant → other.place.0 ≢ ticket.place.0) → IsOpen old other → IsOpen new other

  -- what an ask did on the device: a start, and a finish if the start left one to do
  abbrev pub AskMade : AskCase → ℕ → ℕ → Option (LoadedFile D) → Option (LoadedFile D) → Type 0
  AskMade (AtStart case) quota count old new = StartMade facts case quota old new
  AskMade (AtFinish case) quota count old new = (between : Option (LoadedFile D)) × StartMade facts Prepared quota old between × FinishMade facts case count between new

  -- what an ask does to a store alone that represents the tenant
  pub record AskServes (case : AskCase) (new : Plain D) (tenant : ℕ) (job : Job) (reply : Reply) (s : Store) : Type 0 where
    pub fits : AskFits s job case
    pub reply_is : ask_reply s.words job case ≡ Some reply
    pub goes : Answered s job case
    pub stands : Stands new tenant (after_ask s job case)

  -- An ask of a job, by its case: a start, and a finish if the start left one to do.
  pub record AsksAs (case : AskCase) (old new : Plain D) (tenant : ℕ) (job : Job) (reply : Reply) : Type 0 where
    pub made : AskMade case (quota_at old tenant) (length (entries_of job)) (book_at old tenant) (book_at new tenant)
    pub serves : (s : Store) → Stands old tenant s → AskServes case new tenant job reply s
    pub keeps : (s : Store) → FileKeeps old tenant s → FileKeeps new tenant (after_ask s job case)
    pub moments : (s : Store) → FileKeeps old tenant s → CrashLeaves facts (book_at old tenant) (book_at new tenant) s.words (ask_stake case (entries_of job) s.in_doubt)
    pub places : (so_many : ℕ) → places_in so_many (book_at new tenant) ≡ places_in so_many (book_at old tenant)
    pub kept : (other : Ticket) → IsOpen old other → IsOpen new other
