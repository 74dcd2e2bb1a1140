-- Each mark of a store alone is legal exactly if the conditions in `specs/Late/MarkEffects` hold, and leaves the store that
-- is listed there.
-- Used by: marks_do, mw_law_threads.
use Rattle.std.proofs.Common.{◌≡◌, ◌≢◌, ℕ, Bool, true, false, not, List, [], ◌∷◌, length, refl, sym, ap, ◌∙◌, arith, Option, Some, None, is_some, is_none}
use Rattle.std.specs.Prelude.{◌&&◌, ◌||◌, ◌==◌, if◌then◌else◌, nat_lt}
use Rattle.std.proofs.lemmas.Bool.Decides.{nat_tests}
use Rattle.std.proofs.lemmas.Option.{same_Some, none-some, option_and_then_some}
use Rattle.std.specs.List.{slice_get}
use Rattle.std.specs.Option.{option_and_then, option_map_or}
use Rattle.mw_words.specs.declared.jobs.Entry.{Entry}
use Rattle.mw_words.specs.declared.jobs.Job.{Job}
use Rattle.mw_words.specs.declared.jobs.Job.TheVariants.{Get, Cas}
use Rattle.mw_words.specs.Change.{word_at, fits, is_well_formed}
use Rattle.mw_words.specs.declared.replies.Reply.TheVariants.{Val}
use Rattle.mw_lone.specs.declared.marks.Mark.TheVariants.{Ask, Admit, Busy, Look, Miss, Seal, SealFail, FileFail, GiveUp, Retire, Reply as HandOut, Restart}
use Rattle.mw_lone.specs.Store.{Store, RequestState, request, with_reply, is_cas, entries_of, ask, admit, refuse_busy, look_at, miss_at, seal, fail_seal, give_up, retire, hand_out, restart, is_waiting, is_under_way, may_seal, is_empty, is_quota, may_be_interrupted, has_in_doubt}
use Rattle.mw_law_store.specs.Late.MarkEffects.{Asks, Waits, Admits, RefusesBusy, Looks, Misses, Fits, Writes, FailsToWrite, Fails, GivesUp, Retires, HandsOut, CouldBeInterrupted, IsInDoubt, Restarts}
use Rattle.mw_law_store.specs.Late.Laws.{MarksDo, DoingIsMarked}

-- Tests.

-- if a choice gave a store, its test held, and the store is this one
chosen : {A : Type 0} (b : Bool) (x y : A) → (if b then Some x else None) ≡ Some y → (b ≡ true) × (y ≡ x)
chosen true x y e = (refl, sym (same_Some x y e))
chosen false x y e = absurd (none-some y e)

choose : {A : Type 0} (b : Bool) (x y : A) → b ≡ true → y ≡ x → (if b then Some x else None) ≡ Some y
choose true x y e f = ap Some (sym f)
choose false x y e f = absurd (cc)

first_of : (a b : Bool) → a && b ≡ true → a ≡ true
first_of true b h = refl
first_of false b h = h

second_of : (a b : Bool) → a && b ≡ true → b ≡ true
second_of true b h = h
second_of false b h = absurd (cc)

both : (a b : Bool) → a ≡ true → b ≡ true → a && b ≡ true
both true b e f = f
both false b e f = absurd (cc)

three : (a b c : Bool) → a && b && c ≡ true → (a ≡ true) × (b ≡ true) × (c ≡ true)
three true b c h = (refl, first_of b c h, second_of b c h)
three false b c h = absurd (cc)

pub all_three : (a b c : Bool) → a ≡ true → b ≡ true → c ≡ true → a && b && c ≡ true
all_three a b c e f g = both (a && b) c (both a b e f) g

is_not : (b : Bool) → not b ≡ true → b ≡ false
is_not true h = absurd (cc)
is_not false h = refl

negated : (b : Bool) → b ≡ false → not b ≡ true
negated true h = absurd (cc)
negated false h = refl

none_is : {A : Type 0} (o : Option A) → is_none o ≡ true → o ≡ None
none_is None h = refl
none_is (Some x) h = absurd (cc)

is_not_there : {A : Type 0} (o : Option A) → o ≡ None → is_none o ≡ true
is_not_there o e = ap is_none e

some_is : {A : Type 0} (o : Option A) → is_some o ≡ true → (x : A) × (o ≡ Some x)
some_is None h = absurd (cc)
some_is (Some x) h = (x, refl)

-- a mark is about the request of its number, if that was asked
met : {A B : Type 0} (f : A → Option B) (o : Option A) (x : A) → o ≡ Some x → option_and_then f o ≡ f x
met f o x e = ap (option_and_then f) e

-- From the tests to the conditions.

waits_from : (s : Store) (n : ℕ) (r : RequestState) (b : Bool) → request s n ≡ Some r → is_waiting r && not s.faulted && b ≡ true → Waits s n r × (b ≡ true)
waits_from s n r b at h =
    let tests = three (is_waiting r) (not s.faulted) b h in
    let waits = three (is_cas r.job) (not r.admitted) (is_none r.placed) tests.0 in (
      record {
        is_asked = at;
        is_change = waits.0;
        has_no_slot = is_not _ waits.1;
        has_no_reply = none_is _ waits.2;
        file_works = is_not _ tests.1;
      },
      tests.2,
    )

waits_to : (s : Store) (n : ℕ) (r : RequestState) (b : Bool) → Waits s n r → b ≡ true → is_waiting r && not s.faulted && b ≡ true
waits_to s n r b w h =
    let waits = all_three (is_cas r.job) (not r.admitted) (is_none r.placed) w.is_change (negated _ w.has_no_slot) (is_not_there _ w.has_no_reply) in
    all_three (is_waiting r) (not s.faulted) b waits (negated _ w.file_works) h

fits_from : (s : Store) (n : ℕ) (r : RequestState) → request s n ≡ Some r → may_seal s r ≡ true → Fits s n r
fits_from s n r at h =
    let tests = three (is_under_way r) (not s.faulted) (fits s.words (entries_of r.job)) h in
    record {
      is_asked = at;
      has_slot = first_of r.admitted (is_none r.placed) tests.0;
      has_no_reply = none_is _ (second_of r.admitted (is_none r.placed) tests.0);
      file_works = is_not _ tests.1;
      as_expected = tests.2;
    }

fits_to : (s : Store) (n : ℕ) (r : RequestState) → Fits s n r → may_seal s r ≡ true
fits_to s n r f =
    let way = both r.admitted (is_none r.placed) f.has_slot (is_not_there _ f.has_no_reply) in
    all_three (is_under_way r) (not s.faulted) (fits s.words (entries_of r.job)) way (negated _ f.file_works) f.as_expected

-- Each mark.

ask_does : (s t : Store) (n : ℕ) (job : Job) → ask s n job ≡ Some t → Asks s n job t
ask_does s t n job e =
    let c = chosen ((n == s.next) && is_well_formed (length s.words) job) _ t e in
    let at = first_of (n == s.next) (is_well_formed (length s.words) job) c.0 in
    record { is_next = grind (arith, nat_tests, at); well_formed = second_of (n == s.next) (is_well_formed (length s.words) job) c.0; after = c.1 }

admit_does : (s t : Store) (n : ℕ) (r : RequestState) → request s n ≡ Some r → admit s n r ≡ Some t → Admits s n t
admit_does s t n r at e =
    let c = chosen (is_waiting r && not s.faulted && nat_lt s.used s.quota) _ t e in
    let w = waits_from s n r (nat_lt s.used s.quota) at c.0 in
    let room = w.1 in
    record { found = r; waits = w.0; has_room = grind (arith, nat_tests, room); after = c.1 }

busy_does : (s t : Store) (n : ℕ) (r : RequestState) → request s n ≡ Some r → refuse_busy s n r ≡ Some t → RefusesBusy s n t
busy_does s t n r at e =
    let c = chosen (is_waiting r && not s.faulted && (s.used == s.quota)) _ t e in
    let w = waits_from s n r (s.used == s.quota) at c.0 in
    let room = w.1 in
    record { found = r; waits = w.0; has_no_room = grind (arith, nat_tests, room); after = c.1 }

look_does : (s t : Store) (n : ℕ) (r : RequestState) (job : Job) → r.job ≡ job → request s n ≡ Some r → look_at s n r job ≡ Some t → Looks s n t
look_does s t n r (Get address) j at e =
    let c = chosen (is_none r.placed) _ t e in
    record { found = r; is_asked = at; address = address; reads = j; has_no_reply = none_is _ c.0; after = c.1 }
look_does s t n r (Cas entries) j at e = absurd (none-some t e)

miss_does : (s t : Store) (n : ℕ) (i : ℕ) (r : RequestState) (o : Option Entry) → slice_get (entries_of r.job) i ≡ o → request s n ≡ Some r → miss_at s n r o ≡ Some t → Misses s n i t
miss_does s t n i r None is at e = absurd (none-some t e)
miss_does s t n i r (Some entry) is at e =
    let differs = not (word_at s.words entry.addr == entry.expected) in
    let c = chosen (is_under_way r && differs) _ t e in
    let way = first_of (is_under_way r) differs c.0 in
    let other = is_not _ (second_of (is_under_way r) differs c.0) in
    record {
      found = r;
      is_asked = at;
      has_slot = first_of r.admitted (is_none r.placed) way;
      has_no_reply = none_is _ (second_of r.admitted (is_none r.placed) way);
      entry = entry;
      is_entry = is;
      differs = grind (arith, nat_tests, other);
      after = c.1;
    }

seal_does : (s t : Store) (n : ℕ) (r : RequestState) → request s n ≡ Some r → seal s n r ≡ Some t → Writes s n t
seal_does s t n r at e = let c = chosen (may_seal s r) _ t e in record { found = r; can_be_written = fits_from s n r at c.0; after = c.1 }

fail_seal_does : (s t : Store) (n : ℕ) (r : RequestState) → request s n ≡ Some r → fail_seal s n r ≡ Some t → FailsToWrite s n t
fail_seal_does s t n r at e = let c = chosen (may_seal s r) _ t e in record { found = r; can_be_written = fits_from s n r at c.0; after = c.1 }

fail_does : (s t : Store) (b : Bool) → s.faulted ≡ b → (if b then None else Some (record s { faulted = true })) ≡ Some t → Fails s t
fail_does s t true f e = absurd (none-some t e)
fail_does s t false f e = record { file_works = f; after = sym (same_Some _ t e) }

give_up_does : (s t : Store) (n : ℕ) (r : RequestState) → request s n ≡ Some r → give_up s n r ≡ Some t → GivesUp s n t
give_up_does s t n r at e =
    let c = chosen (s.faulted && is_none r.placed) _ t e in
    record { found = r; is_asked = at; has_failed = first_of s.faulted (is_none r.placed) c.0; has_no_reply = none_is _ (second_of s.faulted (is_none r.placed) c.0); after = c.1 }

retire_does : (s t : Store) (n : ℕ) (r : RequestState) → request s n ≡ Some r → retire s n r ≡ Some t → Retires s n t
retire_does s t n r at e =
    let c = chosen (r.admitted && is_some r.placed && not r.retired) _ t e in
    let tests = three r.admitted (is_some r.placed) (not r.retired) c.0 in
    let reply = some_is r.placed tests.1 in
    record { found = r; is_asked = at; has_slot = tests.0; reply = reply.0; has_reply = reply.1; not_retired = is_not _ tests.2; after = c.1 }

hand_out_does : (s t : Store) (n : ℕ) (r : RequestState) → request s n ≡ Some r → hand_out s n r ≡ Some t → HandsOut s n t
hand_out_does s t n r at e =
    let c = chosen (is_some r.placed && not r.handed) _ t e in
    let reply = some_is r.placed (first_of (is_some r.placed) (not r.handed) c.0) in
    record { found = r; is_asked = at; reply = reply.0; has_reply = reply.1; not_handed = is_not _ (second_of (is_some r.placed) (not r.handed) c.0); after = c.1 }

interrupted_from : (s : Store) (n : ℕ) (o : Option RequestState) → request s n ≡ o → option_map_or (may_seal s) o false ≡ true → (r : RequestState) × Fits s n r
interrupted_from s n None at h = absurd (cc)
interrupted_from s n (Some r) at h = (r, fits_from s n r at h)

could_from : (s : Store) (interrupted : Option ℕ) → may_be_interrupted s interrupted ≡ true → CouldBeInterrupted s interrupted
could_from s None h = tt
could_from s (Some n) h = interrupted_from s n (request s n) refl h

not_empty : (es : List Entry) → not (is_empty es) ≡ true → es ≢ []
not_empty [] h = absurd (cc)
not_empty (e ∷ es) h = λ f. let same : is_empty (e ∷ es) ≡ is_empty [] = ap is_empty f in absurd (cc)

doubt_from : (s : Store) (interrupted : Option ℕ) → has_in_doubt s interrupted ≡ true → IsInDoubt s interrupted
doubt_from s None h = not_empty s.in_doubt h
doubt_from s (Some n) h = tt

found_from : (s : Store) (interrupted : Option ℕ) (take : Bool) → (not take || has_in_doubt s interrupted) ≡ true → take ≡ true → IsInDoubt s interrupted
found_from s interrupted true h e = doubt_from s interrupted h
found_from s interrupted false h e = absurd (cc)

restart_does : (s t : Store) (interrupted : Option ℕ) (take opened : Bool) (quota : ℕ) → restart s interrupted take opened quota ≡ Some t → Restarts s interrupted take opened quota t
restart_does s t interrupted take opened quota e =
    let found = not take || has_in_doubt s interrupted in
    let c = chosen (may_be_interrupted s interrupted && found && is_quota quota) _ t e in
    let could = first_of (may_be_interrupted s interrupted && found) (is_quota quota) c.0 in
    record {
      could_be_interrupted = could_from s interrupted (first_of (may_be_interrupted s interrupted) found could);
      is_in_doubt = found_from s interrupted take (second_of (may_be_interrupted s interrupted) found could);
      may_be_given = second_of (may_be_interrupted s interrupted && found) (is_quota quota) c.0;
      after = c.1;
    }

pub marks-do : MarksDo
marks-do s t (Ask n job) e = ask_does s t n job e
marks-do s t (Admit n) e = option_and_then_some (admit s n) (request s n) t e (λ r at f. admit_does s t n r at f)
marks-do s t (Busy n) e = option_and_then_some (refuse_busy s n) (request s n) t e (λ r at f. busy_does s t n r at f)
marks-do s t (Look n) e = option_and_then_some (λ r. look_at s n r r.job) (request s n) t e (λ r at f. look_does s t n r r.job refl at f)
marks-do s t (Miss n i) e = option_and_then_some (λ r. miss_at s n r (slice_get (entries_of r.job) i)) (request s n) t e (λ r at f. miss_does s t n i r (slice_get (entries_of r.job) i) refl at f)
marks-do s t (Seal n) e = option_and_then_some (seal s n) (request s n) t e (λ r at f. seal_does s t n r at f)
marks-do s t (SealFail n) e = option_and_then_some (fail_seal s n) (request s n) t e (λ r at f. fail_seal_does s t n r at f)
marks-do s t FileFail e = fail_does s t s.faulted refl e
marks-do s t (GiveUp n) e = option_and_then_some (give_up s n) (request s n) t e (λ r at f. give_up_does s t n r at f)
marks-do s t (Retire n) e = option_and_then_some (retire s n) (request s n) t e (λ r at f. retire_does s t n r at f)
marks-do s t (HandOut n) e = option_and_then_some (hand_out s n) (request s n) t e (λ r at f. hand_out_does s t n r at f)
marks-do s t (Restart interrupted take opened quota) e = restart_does s t interrupted take opened quota e

-- From the conditions to the tests.

look_done : (s t : Store) (n : ℕ) (r : RequestState) (job : Job) (address : ℕ) → job ≡ Get address → r.placed ≡ None → t ≡ with_reply s n r (Val (word_at s.words address)) → look_at s n r job ≡ Some t
look_done s t n r job address j free after = ap (look_at s n r) j ∙ choose (is_none r.placed) _ t (is_not_there _ free) after

miss_done : (s t : Store) (n : ℕ) (i : ℕ) (d : Misses s n i t) → miss_at s n d.found (slice_get (entries_of d.found.job) i) ≡ Some t
miss_done s t n i d =
    let other = d.differs in
    let differs : not (word_at s.words d.entry.addr == d.entry.expected) ≡ true = grind (arith, nat_tests, other) in
    ap (miss_at s n d.found) d.is_entry ∙ choose _ _ t (both (is_under_way d.found) _ (both d.found.admitted _ d.has_slot (is_not_there _ d.has_no_reply)) differs) d.after

fail_done : (s t : Store) (b : Bool) → b ≡ false → t ≡ record s { faulted = true } → (if b then None else Some (record s { faulted = true })) ≡ Some t
fail_done s t true f after = absurd (cc)
fail_done s t false f after = ap Some (sym after)

some_there : {A : Type 0} (o : Option A) (x : A) → o ≡ Some x → is_some o ≡ true
some_there o x e = ap is_some e

could_to : (s : Store) (interrupted : Option ℕ) → CouldBeInterrupted s interrupted → may_be_interrupted s interrupted ≡ true
could_to s None h = refl
could_to s (Some n) h = ap (λ o. option_map_or (may_seal s) o false) h.1.is_asked ∙ fits_to s n h.0 h.1

there : (es : List Entry) → es ≢ [] → not (is_empty es) ≡ true
there [] h = absurd (h refl)
there (e ∷ es) h = refl

doubt_to : (s : Store) (interrupted : Option ℕ) → IsInDoubt s interrupted → has_in_doubt s interrupted ≡ true
doubt_to s None h = there s.in_doubt h
doubt_to s (Some n) h = refl

found_to : (s : Store) (interrupted : Option ℕ) (take : Bool) → (take ≡ true → IsInDoubt s interrupted) → (not take || has_in_doubt s interrupted) ≡ true
found_to s interrupted true h = doubt_to s interrupted (h refl)
found_to s interrupted false h = refl

ask_done : (s t : Store) (n : ℕ) (job : Job) → Asks s n job t → ask s n job ≡ Some t
ask_done s t n job d =
    let at = d.is_next in
    let same : (n == s.next) ≡ true = grind (arith, nat_tests, at) in
    choose _ _ t (both (n == s.next) _ same d.well_formed) d.after

admit_done : (s t : Store) (n : ℕ) (d : Admits s n t) → admit s n d.found ≡ Some t
admit_done s t n d =
    let room = d.has_room in
    let test : nat_lt s.used s.quota ≡ true = grind (arith, nat_tests, room) in
    choose _ _ t (waits_to s n d.found _ d.waits test) d.after

busy_done : (s t : Store) (n : ℕ) (d : RefusesBusy s n t) → refuse_busy s n d.found ≡ Some t
busy_done s t n d =
    let room = d.has_no_room in
    let test : (s.used == s.quota) ≡ true = grind (arith, nat_tests, room) in
    choose _ _ t (waits_to s n d.found _ d.waits test) d.after

pub doing-marks : DoingIsMarked
doing-marks s t (Ask n job) d = ask_done s t n job d
doing-marks s t (Admit n) d = met (admit s n) (request s n) d.found d.waits.is_asked ∙ admit_done s t n d
doing-marks s t (Busy n) d = met (refuse_busy s n) (request s n) d.found d.waits.is_asked ∙ busy_done s t n d
doing-marks s t (Look n) d = met (λ r. look_at s n r r.job) (request s n) d.found d.is_asked ∙ look_done s t n d.found d.found.job d.address d.reads d.has_no_reply d.after
doing-marks s t (Miss n i) d = met (λ r. miss_at s n r (slice_get (entries_of r.job) i)) (request s n) d.found d.is_asked ∙ miss_done s t n i d
doing-marks s t (Seal n) d = met (seal s n) (request s n) d.found d.can_be_written.is_asked ∙ choose _ _ t (fits_to s n d.found d.can_be_written) d.after
doing-marks s t (SealFail n) d = met (fail_seal s n) (request s n) d.found d.can_be_written.is_asked ∙ choose _ _ t (fits_to s n d.found d.can_be_written) d.after
doing-marks s t FileFail d = fail_done s t s.faulted d.file_works d.after
doing-marks s t (GiveUp n) d = met (give_up s n) (request s n) d.found d.is_asked ∙ choose _ _ t (both s.faulted _ d.has_failed (is_not_there _ d.has_no_reply)) d.after
doing-marks s t (Retire n) d =
    met (retire s n) (request s n) d.found d.is_asked
    ∙ choose _ _ t (all_three d.found.admitted (is_some d.found.placed) (not d.found.retired) d.has_slot (some_there _ d.reply d.has_reply) (negated _ d.not_retired)) d.after
doing-marks s t (HandOut n) d =
    met (hand_out s n) (request s n) d.found d.is_asked
    ∙ choose _ _ t (both (is_some d.found.placed) _ (some_there _ d.reply d.has_reply) (negated _ d.not_handed)) d.after
doing-marks s t (Restart interrupted take opened quota) d =
    let could = both (may_be_interrupted s interrupted) _ (could_to s interrupted d.could_be_interrupted) (found_to s interrupted take d.is_in_doubt) in
    choose _ _ t (both (may_be_interrupted s interrupted && (not take || has_in_doubt s interrupted)) (is_quota quota) could d.may_be_given) d.after
