-- What could be found at a place of a tenant's history stays so when a line is added or a late mark is put in.
-- Used by: Histories, HistoryMatchLaws, LastLines, among others.
use Rattle.std.specs.Prelude.{ℕ, ◌≡◌, ◌≢◌, ◌≤◌, List, length, slice_get, slice_set, Option, Some, None}
use Rattle.std.proofs.Common.{refl, ap, subst, ◌∙◌, inl, inr, arith}
use Rattle.mw_words.specs.declared.jobs.Entry.{Entry}
use Rattle.mw_words.specs.declared.jobs.Job.{Job}
use Rattle.mw_words.specs.declared.replies.Reply.{Reply}
use Rattle.mw_words.specs.declared.replies.Reply.TheVariants.{Val, Yes as SaysYes, No as SaysNo, Busy as SaysBusy, Fault as SaysFault, Worn as SaysWorn}
use Rattle.mw_words.specs.Change.{word_at}
use Rattle.mw_lone.specs.declared.marks.Mark.{Mark}
use Rattle.mw_lone.specs.declared.marks.Mark.TheVariants.{Ask, Admit, Busy, Look, Miss, Seal, SealFail, FileFail, GiveUp, Retire, Reply as HandOut, Restart}
use Rattle.mw_lone.specs.Store.{entries_of}
use Rattle.mw_law_store.specs.Late.LateMarks.{more}
use Rattle.mw_law_store.specs.AbstractStates.{AbstractState, IsAskedBefore, CouldLook, CouldMiss, SealsAt, HasPlace, CouldCome}
use Rattle.mw_law_store.proofs.AbstractStateLaws.{abstract_state_before, abstract_state_late, IsMild, got_before, got_within, got_which, got_late, got_late_which}

pub asked_before : (lines : List (Option Mark)) (line : Option Mark) (place n : ℕ) → IsAskedBefore lines place n → IsAskedBefore (more lines line) place n
asked_before lines line place n asked = record { ask = asked.ask; job = asked.job; is_asked = got_before lines line _ asked.ask asked.is_asked; before = asked.before }

pub asked_late : (lines : List (Option Mark)) (kept place n : ℕ) (mark : Mark) → slice_get lines kept ≡ Some None → IsAskedBefore lines place n → IsAskedBefore (slice_set lines kept (Some mark)) place n
asked_late lines kept place n mark free asked = record { ask = asked.ask; job = asked.job; is_asked = got_late lines kept mark _ asked.ask free asked.is_asked; before = asked.before }

-- what was asked before a place was asked before a later one
pub asked_on : (lines : List (Option Mark)) (place later n : ℕ) → place ≤ later → IsAskedBefore lines place n → IsAskedBefore lines later n
asked_on lines place later n on asked = let before = asked.before in record { ask = asked.ask; job = asked.job; is_asked = asked.is_asked; before = omega (arith, on, before) }

-- A mark that could come late at a place is a Look or a Miss.
pub by_coming : (start : AbstractState) (lines : List (Option Mark)) (place : ℕ) (mark : Mark) (n : ℕ) (job : Job) (reply : Reply) (P : Mark → Reply → Type 0)
    → ((k value : ℕ) → k ≡ n → CouldLook start lines place n job value → P (Look k) (Val value))
    → ((k index address value : ℕ) → k ≡ n → CouldMiss start lines place n (entries_of job) index address value → P (Miss k index) (SaysNo address value))
    → CouldCome start lines place mark n job reply → P mark reply
by_coming start lines place (Look k) n job (Val value) P looks misses could = looks k value could.0 could.1
by_coming start lines place (Look k) n job (SaysNo address value) P looks misses could = absurd could
by_coming start lines place (Look k) n job SaysYes P looks misses could = absurd could
by_coming start lines place (Look k) n job SaysBusy P looks misses could = absurd could
by_coming start lines place (Look k) n job SaysFault P looks misses could = absurd could
by_coming start lines place (Look k) n job SaysWorn P looks misses could = absurd could
by_coming start lines place (Miss k index) n job (SaysNo address value) P looks misses could = misses k index address value could.0 could.1
by_coming start lines place (Miss k index) n job (Val value) P looks misses could = absurd could
by_coming start lines place (Miss k index) n job SaysYes P looks misses could = absurd could
by_coming start lines place (Miss k index) n job SaysBusy P looks misses could = absurd could
by_coming start lines place (Miss k index) n job SaysFault P looks misses could = absurd could
by_coming start lines place (Miss k index) n job SaysWorn P looks misses could = absurd could
by_coming start lines place (Ask k asked) n job reply P looks misses could = absurd could
by_coming start lines place (Admit k) n job reply P looks misses could = absurd could
by_coming start lines place (Busy k) n job reply P looks misses could = absurd could
by_coming start lines place (Seal k) n job reply P looks misses could = absurd could
by_coming start lines place (SealFail k) n job reply P looks misses could = absurd could
by_coming start lines place FileFail n job reply P looks misses could = absurd could
by_coming start lines place (GiveUp k) n job reply P looks misses could = absurd could
by_coming start lines place (Retire k) n job reply P looks misses could = absurd could
by_coming start lines place (HandOut k) n job reply P looks misses could = absurd could
by_coming start lines place (Restart interrupted found opened quota) n job reply P looks misses could = absurd could

pub coming_is_mild : (start : AbstractState) (lines : List (Option Mark)) (place : ℕ) (mark : Mark) (n : ℕ) (job : Job) (reply : Reply) → CouldCome start lines place mark n job reply → IsMild mark
coming_is_mild start lines place mark n job reply could = by_coming start lines place mark n job reply (λ came says. IsMild came) (λ k value is looks. tt) (λ k index address value is misses. tt) could

-- the words of an abstract state
word_then : (now then : AbstractState) (address value : ℕ) → now ≡ then → word_at then.words address ≡ value → word_at now.words address ≡ value
word_then now then address value same says = ap (λ (m : AbstractState). word_at m.words address) same ∙ says

-- A line at the end.

pub look_before : (start : AbstractState) (lines : List (Option Mark)) (line : Option Mark) (place n : ℕ) (job : Job) (value : ℕ) → place ≤ length lines → CouldLook start lines place n job value → CouldLook start (more lines line) place n job value
look_before start lines line place n job value within could = record {
  asked = asked_before lines line place n could.asked;
  address = could.address;
  reads = could.reads;
  says = word_then _ _ could.address value (abstract_state_before start lines line place within) could.says;
}

pub miss_before : (start : AbstractState) (lines : List (Option Mark)) (line : Option Mark) (place n : ℕ) (entries : List Entry) (index address value : ℕ) → place ≤ length lines
    → CouldMiss start lines place n entries index address value → CouldMiss start (more lines line) place n entries index address value
miss_before start lines line place n entries index address value within could = record {
  asked = asked_before lines line place n could.asked;
  entry = could.entry;
  is_entry = could.is_entry;
  same_address = could.same_address;
  says = word_then _ _ address value (abstract_state_before start lines line place within) could.says;
  differs = could.differs;
}

pub could_before : (start : AbstractState) (lines : List (Option Mark)) (line : Option Mark) (place : ℕ) (mark : Mark) (n : ℕ) (job : Job) (reply : Reply) → place ≤ length lines
    → CouldCome start lines place mark n job reply → CouldCome start (more lines line) place mark n job reply
could_before start lines line place mark n job reply within could = by_coming start lines place mark n job reply (λ came says. CouldCome start (more lines line) place came n job says)
    (λ k value is looks. (is, look_before start lines line place n job value within looks))
    (λ k index address value is misses. (is, miss_before start lines line place n (entries_of job) index address value within misses))
    could

seal_before : (start : AbstractState) (lines : List (Option Mark)) (line : Option Mark) (n : ℕ) (entries : List Entry) → ((k : ℕ) → line ≡ Some (Seal k) → k ≢ n) → SealsAt start lines n entries → SealsAt start (more lines line) n entries
seal_before start lines line n entries other_seal there =
    let within = got_within lines _ there.place there.is in
    record {
      place = there.place;
      is = got_before lines line _ there.place there.is;
      asked = asked_before lines line there.place n there.asked;
      its_entries = ap (λ (m : AbstractState). m.entries n) (abstract_state_before start lines line there.place (omega (arith, within))) ∙ there.its_entries;
      once = λ other at. elim (got_which lines line (Some (Seal n)) other at) [
        | inl before ↦ there.once other before
        | inr last ↦ absurd (other_seal n last.1 refl)
      ];
    }

pub has_place_before : (start : AbstractState) (lines : List (Option Mark)) (line : Option Mark) (n : ℕ) (job : Job) (reply : Reply) → ((k : ℕ) → line ≡ Some (Seal k) → k ≢ n)
    → HasPlace start lines n job reply → HasPlace start (more lines line) n job reply
has_place_before start lines line n job (Val value) other_seal there =
    let within = got_within lines _ there.place there.is in
    record { place = there.place; is = got_before lines line _ there.place there.is; could = look_before start lines line there.place n job value (omega (arith, within)) there.could }
has_place_before start lines line n job (SaysNo address value) other_seal there =
    let within = got_within lines _ there.place there.is in
    record {
      place = there.place;
      index = there.index;
      is = got_before lines line _ there.place there.is;
      could = miss_before start lines line there.place n (entries_of job) there.index address value (omega (arith, within)) there.could;
    }
has_place_before start lines line n job SaysYes other_seal there = seal_before start lines line n (entries_of job) other_seal there
has_place_before start lines line n job SaysBusy other_seal there = tt
has_place_before start lines line n job SaysFault other_seal there = tt
has_place_before start lines line n job SaysWorn other_seal there = tt

-- A late mark at another place.

pub look_late : (start : AbstractState) (lines : List (Option Mark)) (kept : ℕ) (late : Mark) (place n : ℕ) (job : Job) (value : ℕ) → IsMild late → slice_get lines kept ≡ Some None
    → CouldLook start lines place n job value → CouldLook start (slice_set lines kept (Some late)) place n job value
look_late start lines kept late place n job value mild free could = record {
  asked = asked_late lines kept place n late free could.asked;
  address = could.address;
  reads = could.reads;
  says = word_then _ _ could.address value (abstract_state_late start lines kept late place mild free) could.says;
}

pub miss_late : (start : AbstractState) (lines : List (Option Mark)) (kept : ℕ) (late : Mark) (place n : ℕ) (entries : List Entry) (index address value : ℕ) → IsMild late → slice_get lines kept ≡ Some None
    → CouldMiss start lines place n entries index address value → CouldMiss start (slice_set lines kept (Some late)) place n entries index address value
miss_late start lines kept late place n entries index address value mild free could = record {
  asked = asked_late lines kept place n late free could.asked;
  entry = could.entry;
  is_entry = could.is_entry;
  same_address = could.same_address;
  says = word_then _ _ address value (abstract_state_late start lines kept late place mild free) could.says;
  differs = could.differs;
}

pub could_late : (start : AbstractState) (lines : List (Option Mark)) (kept place : ℕ) (late mark : Mark) (n : ℕ) (job : Job) (reply : Reply) → IsMild late → slice_get lines kept ≡ Some None
    → CouldCome start lines place mark n job reply → CouldCome start (slice_set lines kept (Some late)) place mark n job reply
could_late start lines kept place late mark n job reply mild free could = by_coming start lines place mark n job reply (λ came says. CouldCome start (slice_set lines kept (Some late)) place came n job says)
    (λ k value is looks. (is, look_late start lines kept late place n job value mild free looks))
    (λ k index address value is misses. (is, miss_late start lines kept late place n (entries_of job) index address value mild free misses))
    could

seal_late : (start : AbstractState) (lines : List (Option Mark)) (kept : ℕ) (late : Mark) (n : ℕ) (entries : List Entry) → IsMild late → slice_get lines kept ≡ Some None
    → SealsAt start lines n entries → SealsAt start (slice_set lines kept (Some late)) n entries
seal_late start lines kept late n entries mild free there = record {
  place = there.place;
  is = got_late lines kept late _ there.place free there.is;
  asked = asked_late lines kept there.place n late free there.asked;
  its_entries = ap (λ (m : AbstractState). m.entries n) (abstract_state_late start lines kept late there.place mild free) ∙ there.its_entries;
  once = λ other at. elim (got_late_which lines kept late (Seal n) other free at) [
    | inl before ↦ there.once other before
    | inr same ↦ absurd (subst IsMild same mild)
  ];
}

pub has_place_late : (start : AbstractState) (lines : List (Option Mark)) (kept : ℕ) (late : Mark) (n : ℕ) (job : Job) (reply : Reply) → IsMild late → slice_get lines kept ≡ Some None
    → HasPlace start lines n job reply → HasPlace start (slice_set lines kept (Some late)) n job reply
has_place_late start lines kept late n job (Val value) mild free there =
    record { place = there.place; is = got_late lines kept late _ there.place free there.is; could = look_late start lines kept late there.place n job value mild free there.could }
has_place_late start lines kept late n job (SaysNo address value) mild free there = record {
  place = there.place;
  index = there.index;
  is = got_late lines kept late _ there.place free there.is;
  could = miss_late start lines kept late there.place n (entries_of job) there.index address value mild free there.could;
}
has_place_late start lines kept late n job SaysYes mild free there = seal_late start lines kept late n (entries_of job) mild free there
has_place_late start lines kept late n job SaysBusy mild free there = tt
has_place_late start lines kept late n job SaysFault mild free there = tt
has_place_late start lines kept late n job SaysWorn mild free there = tt
