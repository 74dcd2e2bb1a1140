-- A mark that isn't about a request commutes with a reply to that request, and leaves the request as it was.
-- Used by: replies_commute.
use Rattle.std.proofs.Common.{◌≡◌, ◌≢◌, ℕ, ◌+◌, ◌-◌, true, false, sym, ap, ◌∙◌, arith, Option, Some, inl, inr}
use Rattle.std.specs.Prelude.{◌==◌}
use Rattle.std.proofs.lemmas.Bool.{cases_eq}
use Rattle.std.proofs.lemmas.Bool.Decides.{nat_tests}
use Rattle.std.proofs.lemmas.Cmp.{nat_cmp_total}
use Rattle.std.specs.FinMap as map
use Rattle.std.specs.FinMap.{nat_cmp-IsAntisymmetric}
use Rattle.mw_words.specs.declared.replies.Reply.TheVariants.{Val, Yes, No, Busy as SaysBusy, Fault}
use Rattle.mw_words.specs.Change.{word_at, put}
use Rattle.mw_lone.specs.declared.marks.Mark.{Mark}
use Rattle.mw_lone.specs.declared.marks.Mark.TheVariants.{Ask, Admit, Busy, Look, Miss, Seal, SealFail, FileFail, GiveUp, Retire, Reply as HandOut, Restart}
use Rattle.mw_lone.proofs.SoundStores.{Requests, get-insert_same, get-insert_other}
use Rattle.mw_lone.specs.Store.{Store, RequestState, request, with_request, with_reply, asked, entries_of}
use Rattle.mw_law_store.specs.Late.MarkEffects.{Waits, Fits, Does}
use Rattle.mw_law_store.specs.Late.LateMarks.{names}
use Rattle.mw_law_store.specs.Late.Laws.{RepliesCommute, OthersAreLeft}
use Rattle.mw_law_store.proofs.Late.MarkEffectLaws.{marks-do, doing-marks}

swapped_at : (m : Requests) (k n q : ℕ) (x y : RequestState) → q ≢ n → map.get (map.insert m k y) q ≡ map.get (map.insert (map.insert m n x) k y) q
swapped_at m k n q x y other = elim (cases_eq q k) [
  | inl e ↦ get-insert_same m k q y e ∙ sym (get-insert_same (map.insert m n x) k q y e)
  | inr off ↦ get-insert_other m k q y off ∙ sym (get-insert_other m n q x other) ∙ sym (get-insert_other (map.insert m n x) k q y off)
]

swapped_same : (m : Requests) (k n q : ℕ) (x y : RequestState) → k ≢ n → q ≡ n → map.get (map.insert (map.insert m k y) n x) q ≡ map.get (map.insert (map.insert m n x) k y) q
swapped_same m k n q x y apart e =
    let other : q ≢ k = λ f. apart (sym f ∙ e) in
    get-insert_same (map.insert m k y) n q x e ∙ sym (get-insert_same m n q x e) ∙ sym (get-insert_other (map.insert m n x) k q y other)

-- two requests written under two numbers, in either order
swapped : (m : Requests) (k n : ℕ) (x y : RequestState) → k ≢ n → map.insert (map.insert m k y) n x ≡ map.insert (map.insert m n x) k y
swapped m k n x y apart =
    map.same_map nat_cmp_total nat_cmp-IsAntisymmetric (map.insert (map.insert m k y) n x) (map.insert (map.insert m n x) k y) (λ q. elim (cases_eq q n) [
      | inl e ↦ swapped_same m k n q x y apart e
      | inr other ↦ get-insert_other (map.insert m k y) n q x other ∙ swapped_at m k n q x y other
    ])

-- a store that differs from u only in its requests: one was written, and then another
written : (u t : Store) (m : Requests) (k n : ℕ) (x y : RequestState) → k ≢ n → t ≡ record u { requests = map.insert m k y } → with_request t n x ≡ record u { requests = map.insert (map.insert m n x) k y }
written u t m k n x y apart after = ap (λ (v : Store). with_request v n x) after ∙ ap (λ (w : Requests). record u { requests = w }) (swapped m k n x y apart)

-- another request than the one that was written
other_request : (s : Store) (k n : ℕ) (x : RequestState) (o : Option RequestState) → k ≢ n → request s k ≡ o → request (with_request s n x) k ≡ o
other_request s k n x o apart at = get-insert_other s.requests n k x apart ∙ at

apart_from : (k n : ℕ) → (k == n) ≡ false → k ≢ n
apart_from k n h = grind (arith, nat_tests, h)

pub same_as : (k n : ℕ) → (k == n) ≡ true → k ≡ n
same_as k n h = grind (arith, nat_tests, h)

waits_beside : (s : Store) (k n : ℕ) (x r : RequestState) → k ≢ n → Waits s k r → Waits (with_request s n x) k r
waits_beside s k n x r apart w = record { is_asked = other_request s k n x _ apart w.is_asked; is_change = w.is_change; has_no_slot = w.has_no_slot; has_no_reply = w.has_no_reply; file_works = w.file_works }

fits_beside : (s : Store) (k n : ℕ) (x r : RequestState) → k ≢ n → Fits s k r → Fits (with_request s n x) k r
fits_beside s k n x r apart f = record { is_asked = other_request s k n x _ apart f.is_asked; has_slot = f.has_slot; has_no_reply = f.has_no_reply; file_works = f.file_works; as_expected = f.as_expected }

-- each mark that isn't about the request does the same whether the request was written or not
does_beside : (s t : Store) (n : ℕ) (x : RequestState) (mark : Mark) → names mark n ≡ false → Does s mark t → Does (with_request s n x) mark (with_request t n x)
does_beside s t n x (Ask k job) h d = record {
  is_next = d.is_next;
  well_formed = d.well_formed;
  after = written (record s { next = s.next + 1 }) t s.requests k n x (asked job) (apart_from k n h) d.after;
}
does_beside s t n x (Admit k) h d = record {
  found = d.found;
  waits = waits_beside s k n x d.found (apart_from k n h) d.waits;
  has_room = d.has_room;
  after = written (record s { used = s.used + 1 }) t s.requests k n x (record d.found { admitted = true }) (apart_from k n h) d.after;
}
does_beside s t n x (Busy k) h d = record {
  found = d.found;
  waits = waits_beside s k n x d.found (apart_from k n h) d.waits;
  has_no_room = d.has_no_room;
  after = written s t s.requests k n x (record d.found { placed = Some SaysBusy }) (apart_from k n h) d.after;
}
does_beside s t n x (Look k) h d = record {
  found = d.found;
  is_asked = other_request s k n x _ (apart_from k n h) d.is_asked;
  address = d.address;
  reads = d.reads;
  has_no_reply = d.has_no_reply;
  after = written s t s.requests k n x (record d.found { placed = Some (Val (word_at s.words d.address)) }) (apart_from k n h) d.after;
}
does_beside s t n x (Miss k i) h d = record {
  found = d.found;
  is_asked = other_request s k n x _ (apart_from k n h) d.is_asked;
  has_slot = d.has_slot;
  has_no_reply = d.has_no_reply;
  entry = d.entry;
  is_entry = d.is_entry;
  differs = d.differs;
  after = written s t s.requests k n x (record d.found { placed = Some (No d.entry.addr (word_at s.words d.entry.addr)) }) (apart_from k n h) d.after;
}
does_beside s t n x (Seal k) h d = record {
  found = d.found;
  can_be_written = fits_beside s k n x d.found (apart_from k n h) d.can_be_written;
  after = written (record s { words = put s.words (entries_of d.found.job) }) t s.requests k n x (record d.found { placed = Some Yes }) (apart_from k n h) d.after;
}
does_beside s t n x (SealFail k) h d = record {
  found = d.found;
  can_be_written = fits_beside s k n x d.found (apart_from k n h) d.can_be_written;
  after = written (record s { faulted = true; in_doubt = entries_of d.found.job }) t s.requests k n x (record d.found { placed = Some Fault }) (apart_from k n h) d.after;
}
does_beside s t n x FileFail h d = record { file_works = d.file_works; after = ap (λ (v : Store). with_request v n x) d.after }
does_beside s t n x (GiveUp k) h d = record {
  found = d.found;
  is_asked = other_request s k n x _ (apart_from k n h) d.is_asked;
  has_failed = d.has_failed;
  has_no_reply = d.has_no_reply;
  after = written s t s.requests k n x (record d.found { placed = Some Fault }) (apart_from k n h) d.after;
}
does_beside s t n x (Retire k) h d = record {
  found = d.found;
  is_asked = other_request s k n x _ (apart_from k n h) d.is_asked;
  has_slot = d.has_slot;
  reply = d.reply;
  has_reply = d.has_reply;
  not_retired = d.not_retired;
  after = written (record s { used = s.used - 1 }) t s.requests k n x (record d.found { retired = true }) (apart_from k n h) d.after;
}
does_beside s t n x (HandOut k) h d = record {
  found = d.found;
  is_asked = other_request s k n x _ (apart_from k n h) d.is_asked;
  reply = d.reply;
  has_reply = d.has_reply;
  not_handed = d.not_handed;
  after = written s t s.requests k n x (record d.found { handed = true }) (apart_from k n h) d.after;
}
does_beside s t n x (Restart interrupted take opened quota) h d = absurd (cc)

pub replies-commute : RepliesCommute
replies-commute s t n r reply mark h e = doing-marks (with_reply s n r reply) (with_reply t n r reply) mark (does_beside s t n (record r { placed = Some reply }) mark h (marks-do s t mark e))

-- a request is the same after another one was written
left : (s t : Store) (k n : ℕ) (y : RequestState) → (k == n) ≡ false → t.requests ≡ map.insert s.requests k y → request t n ≡ request s n
left s t k n y h after = ap (λ (m : Requests). map.get m n) after ∙ get-insert_other s.requests k n y (λ e. apart_from k n h (sym e))

pub requests_of : (t u : Store) → t ≡ u → t.requests ≡ u.requests
requests_of t u e = ap (λ (v : Store). v.requests) e

does_leave : (s t : Store) (n : ℕ) (mark : Mark) → names mark n ≡ false → Does s mark t → request t n ≡ request s n
does_leave s t n (Ask k job) h d = left s t k n _ h (requests_of t _ d.after)
does_leave s t n (Admit k) h d = left s t k n _ h (requests_of t _ d.after)
does_leave s t n (Busy k) h d = left s t k n _ h (requests_of t _ d.after)
does_leave s t n (Look k) h d = left s t k n _ h (requests_of t _ d.after)
does_leave s t n (Miss k i) h d = left s t k n _ h (requests_of t _ d.after)
does_leave s t n (Seal k) h d = left s t k n _ h (requests_of t _ d.after)
does_leave s t n (SealFail k) h d = left s t k n _ h (requests_of t _ d.after)
does_leave s t n FileFail h d = ap (λ (v : Store). request v n) d.after
does_leave s t n (GiveUp k) h d = left s t k n _ h (requests_of t _ d.after)
does_leave s t n (Retire k) h d = left s t k n _ h (requests_of t _ d.after)
does_leave s t n (HandOut k) h d = left s t k n _ h (requests_of t _ d.after)
does_leave s t n (Restart interrupted take opened quota) h d = absurd (cc)

pub others-left : OthersAreLeft
others-left s t n mark h e = does_leave s t n mark h (marks-do s t mark e)
