-- A call for one tenant leaves valid each ticket (a started change) whose change is still prepared. Used by: Serves, TaskLaws.
use Rattle.std.proofs.Common.{◌≡◌, ℕ, ◌<◌, Option, IsTrue, sym, ap, subst, ◌∙◌, inl, inr}
use Rattle.std.proofs.lemmas.Bool.{cases_eq}
use Rattle.std.specs.Option.{option_and_then, option_map_or}
use Rattle.mw_words.specs.Change.{is_change}
use Rattle.mw_plain.specs.declared.tenant.Part.{Part}
use Rattle.mw_plain.specs.declared.plain.Plain.{Plain}
use Rattle.mw_plain.specs.declared.tickets.Ticket.{Ticket}
use Rattle.mw_plain.specs.Books.{IsPrepared}
use Rattle.mw_plain.specs.Parts.{words_at, book_at, ServesOne}
use Rattle.mw_plain.specs.Tickets.{IsOpen}

-- every tenant has as many words as before
pub words_stay : {D : Type 0} (old new : Plain D) (tenant other : ℕ) → ServesOne old new tenant → words_at new other ≡ words_at old other
words_stay old new tenant other one = elim (cases_eq other tenant) [
  | inl same ↦ ap (words_at new) same ∙ one.words ∙ ap (words_at old) (sym same)
  | inr apart ↦ ap (λ (o : Option (Part _)). option_map_or (λ p. p.words) o 0) (one.others other apart)
]

-- a ticket stays open if its change, in case it is this tenant's, is still prepared
pub still_open : {D : Type 0} (old new : Plain D) (tenant : ℕ) (other : Ticket) → ServesOne old new tenant
    → (other.tenant ≡ tenant → IsPrepared (book_at old tenant) other.place.0 other.entries.items → IsPrepared (book_at new tenant) other.place.0 other.entries.items)
    → IsOpen old other → IsOpen new other
still_open {D} old new tenant other one prepared open_in = record {
  there = subst (λ n. other.tenant < n) (sym one.count) open_in.there;
  formed = subst (λ n. IsTrue (is_change n other.entries.items)) (sym (words_stay old new tenant other.tenant one)) open_in.formed;
  prepared = elim (cases_eq other.tenant tenant) [
    | inl same ↦ subst (λ u. IsPrepared (book_at new u) other.place.0 other.entries.items) (sym same)
        (prepared same (subst (λ u. IsPrepared (book_at old u) other.place.0 other.entries.items) same open_in.prepared))
    | inr apart ↦ subst (λ (o : Option (Part D)). IsPrepared (option_and_then (λ p. p.book) o) other.place.0 other.entries.items) (sym (one.others other.tenant apart)) open_in.prepared
  ];
}
