-- A book (a tenant's open file) and its file token (the ghost capability to call it) agree after the opening and after each
-- call.
-- Used by: books_follow_file_tokens, new_books_agree, mw_engine.
use Rattle.std.specs.Prelude.{ℕ, zero, suc, ◌≡◌, ◌<◌, ◌≤◌, Bool, true, false, List, length, replicate, slice_index}
use Rattle.std.proofs.Common.{refl, sym, subst, ◌∙◌, inl, inr, arith}
use Rattle.std.proofs.lemmas.Bool.{cases_lt}
use Rattle.std.proofs.lemmas.List.{get_or-set_other}
use Rattle.mw_words.specs.declared.jobs.Entry.{Entry}
use Rattle.mw_look.specs.declared.steps.Call.{Call}
use Rattle.mw_look.specs.declared.steps.Call.TheVariants.{Prepare as PrepareCall, Seal as SealCall, Settle as SettleCall, Cancel as CancelCall}
use Rattle.mw_actor.specs.ActorState.{own_entries}
use Rattle.mw_disk.specs.Facts.{Facts}
use Rattle.mw_world.specs.Files.Calls.{can_be_made, doubt_of, filed, place_for}
use Rattle.mw_world.specs.Files.State.{File, broken, entries_at, file_of}
use Rattle.mw_world.proofs.MapLaws.{upd_there}
use Rattle.mw_book.specs.declared.answers.Filed.TheVariants.{Made, Broken, Untouched}
use Rattle.mw_book.specs.declared.book.Book.{Book}
use Rattle.mw_book.specs.Representation.{Represents}
use Rattle.mw_book.proofs.AlikeFiles.{shows_alike}
use Rattle.mw_book.proofs.PermittedCalls.{permits}
use Rattle.mw_table.specs.FromRule.{FileToken, TellsFile, file_told, file_token_filed, file_token_opened}
use Rattle.mw_table.proofs.FromRule.{opened_told, file_tokens_follow_calls}
use Rattle.mw_core.specs.Books.{Agrees, BooksFollowFileTokens, BooksTakeCalls, OpenedBooksAgree, UnopenedBooksAgree}

-- for slots past those that the token has, it says what the file says
abbrev IsAlikePast : ℕ → File → FileToken → Type 0
IsAlikePast slots file file_token = (slot : ℕ) → slots ≤ slot → file.place_of slot ≡ slice_index file_token.place_of slot

-- A book that represents a file agrees with a token that describes this file.
agrees_so : {D : Type 0} (facts : D → Facts) (book : Book D) (file : File) (file_token : FileToken) (places slots : ℕ) → Represents facts book file → book.places ≡ places
    → TellsFile places slots file_token file → IsAlikePast slots file file_token → Agrees facts book file_token places slots
agrees_so facts book file file_token places slots shows as_many right past = record {
  shows = shows_alike facts book file (file_told file_token) shows (record {
    contents = right.contents;
    same_places = λ place low. right.places place (omega (arith, low, as_many));
    same_place_of = λ slot low. elim (cases_lt slot slots) [
      | inl within ↦ right.place_of slot within
      | inr high ↦ past slot high
    ];
    same_failed = right.has_failed;
    same_doubt = right.doubt;
  });
  as_many = as_many;
  long = right.long;
  of_slots = right.of_slots;
}

-- a token describes the file that is made from it
own_told : (file_token : FileToken) (places slots : ℕ) → length file_token.places ≡ places → length file_token.place_of ≡ slots → TellsFile places slots file_token (file_told file_token)
own_told file_token places slots long of_slots = record {
  long = long;
  of_slots = of_slots;
  contents = refl;
  places = λ place low. refl;
  place_of = λ slot low. refl;
  has_failed = refl;
  doubt = refl;
}

-- A call for the change of a slot leaves what the token says past its slots.
filed_past : (call : Call) (file_token : FileToken) (slot place slots : ℕ) (entries : List Entry) → slot < slots
    → IsAlikePast slots (filed call (file_told file_token) slot place entries) (file_token_filed call file_token slot place entries)
filed_past PrepareCall file_token slot place slots entries low other high =
    upd_there (slice_index file_token.place_of) slot other place (λ same. omega (arith, same, low, high))
    ∙ sym (get_or-set_other file_token.place_of slot other place 0 (λ same. omega (arith, same, low, high)))
filed_past SealCall file_token slot place slots entries low other high = refl
filed_past SettleCall file_token slot place slots entries low other high = refl
filed_past CancelCall file_token slot place slots entries low other high = refl

pub books_follow_file_tokens : {D : Type 0} (facts : D → Facts) → BooksFollowFileTokens facts
books_follow_file_tokens facts old new file_token places slots call slot entries waiting Made agrees low within ends same =
    let place : ℕ = place_for call (file_told file_token) places slot in
    let shows : Represents facts new (filed call (file_told file_token) slot place entries) =
    subst (λ (n : ℕ). Represents facts new (filed call (file_told file_token) slot (place_for call (file_told file_token) n slot) entries)) agrees.as_many ends.shows in
    let sound = within ends.began in
    agrees_so facts new (filed call (file_told file_token) slot place entries) (file_token_filed call file_token slot place entries) places slots shows (same ∙ agrees.as_many)
    (file_tokens_follow_calls places slots slot place call entries file_token (file_told file_token) (own_told file_token places slots agrees.long agrees.of_slots) sound)
    (filed_past call file_token slot place slots entries low)
books_follow_file_tokens facts old new file_token places slots call slot entries waiting Broken agrees low within ends same = record {
  shows = subst (λ (n : ℕ). Represents facts new (broken (file_told file_token) (doubt_of call (entries_at (file_told file_token) (place_for call (file_told file_token) n slot))))) agrees.as_many ends.shows;
  as_many = same ∙ agrees.as_many;
  long = agrees.long;
  of_slots = agrees.of_slots;
}
books_follow_file_tokens facts old new file_token places slots call slot entries waiting Untouched agrees low within ends same =
    subst (λ book. Agrees facts book file_token places slots) (sym ends.same) agrees

pub books_take_calls : {D : Type 0} (facts : D → Facts) → BooksTakeCalls facts
books_take_calls facts book old new worker slots actor called held status agrees low starts =
    permits facts book (file_told held.file) called.call called.change.slot (own_entries actor) low agrees.shows
    (λ sound. subst (λ (n : ℕ). can_be_made called.call (file_told held.file) n (place_for called.call (file_told held.file) n called.change.slot) (own_entries actor) ≡ true)
    (sym agrees.as_many) (starts.can sound))

zeros_all : (many k : ℕ) → 0 ≡ slice_index (replicate many 0) k
zeros_all zero k = refl
zeros_all (suc many) zero = refl
zeros_all (suc many) (suc k) = zeros_all many k

opened_agrees : {D : Type 0} (facts : D → Facts) (book : Book D) (words : List ℕ) (tenant places slots : ℕ) (failed : Bool) → Represents facts book (record (file_of words) { has_failed = failed })
    → book.places ≡ places → Agrees facts book (file_token_opened tenant places slots words failed) places slots
opened_agrees facts book words tenant places slots failed shows as_many =
    agrees_so facts book (record (file_of words) { has_failed = failed }) (file_token_opened tenant places slots words failed) places slots shows as_many
    (opened_told tenant places slots words failed) (λ slot high. zeros_all slots slot)

pub opened_books_agree : {D : Type 0} (facts : D → Facts) → OpenedBooksAgree facts
opened_books_agree facts book words tenant places slots shows as_many = opened_agrees facts book words tenant places slots false shows as_many

pub unopened_books_agree : {D : Type 0} (facts : D → Facts) → UnopenedBooksAgree facts
unopened_books_agree facts book words tenant places slots shows as_many = opened_agrees facts book words tenant places slots true shows as_many
