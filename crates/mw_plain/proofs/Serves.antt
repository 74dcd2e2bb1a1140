-- A call on the plain store does to one tenant what the call of that tenant does, and leaves all others as they were.
-- Used by: Plain::start, Plain::finish.
use Rattle.std.proofs.Common.{◌≡◌, ◌≢◌, ℕ, ◌<◌, ◌≤◌, get_or, slice_get, List, length, Option, Some, is_some, IsTrue, refl, sym, ap, subst, ◌∙◌, inl, inr}
use Rattle.std.proofs.Math.ListN.{set, length-set}
use Rattle.std.proofs.lemmas.Bool.{cases_lt}
use Rattle.std.proofs.lemmas.List.{get_or-set_same, get_or-set_other}
use Rattle.std.proofs.lemmas.Option.{slice_get-get_or, slice_get_past}
use Rattle.std.specs.Option.{option_and_then, option_map, option_map_or}
use Rattle.mw_disk.specs.Facts.{Facts}
use Rattle.mw_words.specs.declared.jobs.Job.{Job}
use Rattle.mw_words.specs.declared.jobs.Job.TheVariants.{Cas}
use Rattle.mw_words.specs.declared.replies.Reply.{Reply}
use Rattle.mw_words.specs.Change.{is_well_formed, is_change}
use Rattle.mw_lone.specs.Store.{entries_of}
use Rattle.mw_lone.proofs.SoundStores.{length-put}
use Rattle.mw_plain.specs.declared.tenant.Part.{Part}
use Rattle.mw_plain.specs.declared.plain.Plain.{Plain}
use Rattle.mw_plain.specs.declared.loaded_file.Begun.{Begun}
use Rattle.mw_plain.specs.declared.loaded_file.Begun.TheVariants.{Done, Prepared as PreparedIn}
use Rattle.mw_plain.specs.declared.tickets.Ticket.{Ticket}
use Rattle.mw_plain.specs.declared.tickets.Start.{Start}
use Rattle.mw_plain.specs.declared.tickets.Start.TheVariants.{Done as IsDone, Open}
use Rattle.mw_plain.specs.Books.{IsPrepared}
use Rattle.mw_plain.specs.Parts.{tenants, part_at, words_at, quota_at, book_at, ServesOne, SameLine}
use Rattle.mw_plain.specs.Cases.{StartCase, FinishCase, GaveUp, Missed, Unsealed, Unsettled, Changed, words_after_finish}
use Rattle.mw_plain.specs.CallEnds.{StartEnds, FinishEnds, Opens, begun_reply}
use Rattle.mw_plain.specs.Answers.{StartsAs, FinishesAs, OpensIn, reply_in}
use Rattle.mw_plain.proofs.Runs.{started, finished}
use Rattle.mw_plain.proofs.Opens.{still_open}

-- what a start of a tenant's job is to the caller
abbrev pub start_of : ℕ → Begun → Start
start_of tenant (Done reply) = IsDone reply
start_of tenant (PreparedIn place entries) = Open (record { tenant = tenant; place = place; entries = entries })

same_reply : (tenant : ℕ) (begun : Begun) → reply_in (start_of tenant begun) ≡ begun_reply begun
same_reply tenant (Done reply) = refl
same_reply tenant (PreparedIn place entries) = refl

-- a finish leaves as many words
same_length : (words : List ℕ) (job : Job) (case : FinishCase) → length (words_after_finish words job case) ≡ length words
same_length words job GaveUp = refl
same_length words job (Missed index) = refl
same_length words job Unsealed = refl
same_length words job Unsettled = length-put words (entries_of job)
same_length words job Changed = length-put words (entries_of job)

-- the elements of a list in which one was set
got_same : {X : Type 0} (xs : List X) (i : ℕ) (x : X) → i < length xs → slice_get (set xs i x) i ≡ Some x
got_same xs i x lt = slice_get-get_or (set xs i x) i x (subst (λ n. i < n) (sym (length-set xs i x)) lt) ∙ ap Some (get_or-set_same xs i x x lt)

got_other : {X : Type 0} (xs : List X) (i j : ℕ) (x : X) → j ≢ i → slice_get (set xs i x) j ≡ slice_get xs j
got_other xs i j x apart = elim (cases_lt j (length xs)) [
  | inl lt ↦ slice_get-get_or (set xs i x) j x (subst (λ n. j < n) (sym (length-set xs i x)) lt) ∙ ap Some (get_or-set_other xs i j x x apart) ∙ sym (slice_get-get_or xs j x lt)
  | inr past ↦ slice_get_past (set xs i x) j (subst (λ n. n ≤ j) (sym (length-set xs i x)) past) ∙ sym (slice_get_past xs j past)
]

-- a call for one tenant that writes only that tenant's part
pub serves_one : {D : Type 0} (old new : Plain D) (tenant : ℕ) (p q : Part D) → tenant < tenants old → part_at old tenant ≡ Some p → new.parts.items ≡ set old.parts.items tenant q
    → new.pool ≡ old.pool → SameLine p q → ServesOne old new tenant × (part_at new tenant ≡ Some q)
serves_one {D} old new tenant p q there was written pool line = (
  record {
    count = ap length written ∙ length-set old.parts.items tenant q;
    name = ap (λ (o : Option (Part D)). option_map (λ p. p.name.items) o) is ∙ ap (λ name. Some name.items) line.name ∙ sym (ap (λ (o : Option (Part D)). option_map (λ p. p.name.items) o) was);
    words = ap (λ (o : Option (Part D)). option_map_or (λ p. p.words) o 0) is ∙ line.words ∙ sym (ap (λ (o : Option (Part D)). option_map_or (λ p. p.words) o 0) was);
    quota = ap (λ (o : Option (Part D)). option_map_or (λ p. p.quota) o 0) is ∙ line.quota ∙ sym (ap (λ (o : Option (Part D)). option_map_or (λ p. p.quota) o 0) was);
    pool = pool;
    others = λ other apart. ap (λ (ps : List (Part D)). slice_get ps other) written ∙ got_other old.parts.items tenant other q apart;
  },
  is,
) where
  is : part_at new tenant ≡ Some q
  is = ap (λ (ps : List (Part D)). slice_get ps tenant) written ∙ got_same old.parts.items tenant q there

-- the part that an index gives
pub part_here : {D : Type 0} (old : Plain D) (tenant : ℕ) (p : Part D) → tenant < tenants old → p ≡ get_or old.parts.items tenant p → part_at old tenant ≡ Some p
part_here old tenant p there value = slice_get-get_or old.parts.items tenant p there ∙ ap Some (sym value)

-- the words of a tenant whose part is this, and its loaded file
pub has_words : {D : Type 0} (old : Plain D) (tenant : ℕ) (p : Part D) → part_at old tenant ≡ Some p → words_at old tenant ≡ p.words
has_words {D} old tenant p is = ap (λ (o : Option (Part D)). option_map_or (λ p. p.words) o 0) is

pub has_book : {D : Type 0} (old : Plain D) (tenant : ℕ) (p : Part D) → part_at old tenant ≡ Some p → book_at old tenant ≡ p.book
has_book {D} old tenant p is = ap (λ (o : Option (Part D)). option_and_then (λ p. p.book) o) is

module _ {D : Type 0} (facts : D → Facts) where
  opens_in : (old new : Plain D) (tenant : ℕ) (job : Job) (begun : Begun) → ServesOne old new tenant → tenant < tenants old
      → IsTrue (is_well_formed (words_at old tenant) job) → Opens facts (book_at old tenant) (book_at new tenant) job begun → OpensIn old new tenant job (start_of tenant begun)
  opens_in old new tenant job (Done reply) one there formed opened = tt
  opens_in old new tenant job (PreparedIn place entries) one there formed opened = record {
    tenant_is = refl;
    change = opened.change;
    up = opened.up;
    is_open = record {
      there = subst (λ n. tenant < n) (sym one.count) there;
      formed = subst (λ n. IsTrue (is_change n entries.items)) (sym one.words) (subst (λ job. IsTrue (is_well_formed (words_at old tenant) job)) opened.change formed);
      prepared = opened.here;
    };
    alone = λ other is_open same here. opened.alone other.entries.items
        (subst (λ (u : ℕ). IsPrepared (book_at old u) place.0 other.entries.items) same (subst (λ (at : ℕ). IsPrepared (book_at old other.tenant) at other.entries.items) here is_open.prepared));
  }

  pub starts_as : (old new : Plain D) (tenant : ℕ) (p q : Part D) (job : Job) (case : StartCase) (begun : Begun) → part_at old tenant ≡ Some p → part_at new tenant ≡ Some q
      → ServesOne old new tenant → tenant < tenants old → IsTrue (is_well_formed (words_at old tenant) job)
      → StartEnds facts case p.quota p.book q.book job begun → StartsAs facts case old new tenant job (start_of tenant begun)
  starts_as old new tenant p q job case begun was is one there formed part_ends = record {
    made = ends.made;
    serves = λ s stands. let fits = ends.fits s stands.quota stands.backs in record {
      fits = fits;
      reply = same_reply tenant begun ∙ ends.reply s stands.backs;
      goes = started s job case (subst (λ n. IsTrue (is_well_formed n job)) (sym stands.as_many) formed) fits;
      stands = record { quota = stands.quota ∙ sym one.quota; as_many = stands.as_many ∙ sym one.words; backs = ends.after s stands.backs };
    };
    keeps = ends.keeps;
    moments = ends.moments;
    ended = ends.ended ∙ ap is_some (sym (same_reply tenant begun));
    places = ends.places;
    ticket = opens_in old new tenant job begun one there formed ends.opened;
    kept = λ other open_in. still_open old new tenant other one (λ same. ends.kept other.place.0 other.entries.items) open_in;
  } where
    ends : StartEnds facts case (quota_at old tenant) (book_at old tenant) (book_at new tenant) job begun
    ends = subst (λ (o : Option (Part D)). StartEnds facts case (option_map_or (λ p. p.quota) o 0) (option_and_then (λ p. p.book) o) (book_at new tenant) job begun) (sym was)
        (subst (λ (o : Option (Part D)). StartEnds facts case p.quota p.book (option_and_then (λ p. p.book) o) job begun) (sym is) part_ends)

  pub starts_here : (old new : Plain D) (tenant : ℕ) (p q : Part D) (job : Job) (case : StartCase) (begun : Begun) (result : Start) → start_of tenant begun ≡ result → tenant < tenants old
      → p ≡ get_or old.parts.items tenant p → new.parts.items ≡ set old.parts.items tenant q → new.pool ≡ old.pool → SameLine p q
      → IsTrue (is_well_formed (words_at old tenant) job) → StartEnds facts case p.quota p.book q.book job begun → StartsAs facts case old new tenant job result
  starts_here old new tenant p q job case begun result same there value written pool line formed ends =
      let was = part_here old tenant p there value in
      let one = serves_one old new tenant p q there was written pool line in
      subst (λ result. StartsAs facts case old new tenant job result) same (starts_as old new tenant p q job case begun was one.1 one.0 there formed ends)

  pub finishes_as : (old new : Plain D) (ticket : Ticket) (p q : Part D) (case : FinishCase) (reply : Reply) → part_at old ticket.tenant ≡ Some p → part_at new ticket.tenant ≡ Some q
      → ServesOne old new ticket.tenant → FinishEnds facts case p.book q.book ticket.place.0 ticket.entries reply → FinishesAs facts case old new ticket reply
  finishes_as old new ticket p q case reply was is one part_ends = record {
    made = ends.made;
    serves = λ s n stands at. let fits = ends.fits s stands.backs in record {
      fits = fits;
      reply_is = ends.reply_is s stands.backs;
      goes = finished s n (Cas ticket.entries) case at fits;
      stands = record {
        quota = stands.quota ∙ sym one.quota;
        as_many = same_length s.words (Cas ticket.entries) case ∙ stands.as_many ∙ sym one.words;
        backs = ends.after s n stands.backs;
      };
    };
    keeps = ends.keeps;
    moments = ends.moments;
    places = ends.places;
    kept = λ other apart open_in. still_open old new ticket.tenant other one (λ same. ends.kept other.place.0 other.entries.items (apart same)) open_in;
  } where
    ends : FinishEnds facts case (book_at old ticket.tenant) (book_at new ticket.tenant) ticket.place.0 ticket.entries reply
    ends = subst (λ (o : Option (Part D)). FinishEnds facts case (option_and_then (λ p. p.book) o) (book_at new ticket.tenant) ticket.place.0 ticket.entries reply) (sym was)
        (subst (λ (o : Option (Part D)). FinishEnds facts case p.book (option_and_then (λ p. p.book) o) ticket.place.0 ticket.entries reply) (sym is) part_ends)
