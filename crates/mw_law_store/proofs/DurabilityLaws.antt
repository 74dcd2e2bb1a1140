-- In every legal list of marks, the change of each request that was handed YES is one of those put over the store's words.
-- Used by: seals_are_held, mw_law_threads.
use Rattle.std.specs.Prelude.{ℕ, zero, suc, ◌≡◌, ◌≢◌, ◌&&◌, not, Bool, true, false, List, [], ◌∷◌, ◌++◌, slice_get, Option, Some, None, if◌then◌else◌}
use Rattle.std.specs.FinMap as map
use Rattle.std.specs.Option.{option_and_then, option_map, option_to_list}
use Rattle.std.specs.Ordering.{nat_cmp}
use Rattle.std.proofs.Common.{refl, sym, ap, subst, ◌∙◌, append_assoc, append-nil, inl, inr, ◌⊎◌}
use Rattle.std.proofs.lemmas.Option.{same_Some, none-some, option_and_then_some}
use Rattle.mw_words.specs.declared.jobs.Entry.{Entry}
use Rattle.mw_words.specs.declared.jobs.Job.{Job}
use Rattle.mw_words.specs.declared.replies.Reply.{Reply}
use Rattle.mw_words.specs.declared.replies.Reply.TheVariants.{Yes as SaysYes}
use Rattle.mw_words.specs.Change.{put}
use Rattle.mw_lone.specs.declared.marks.Mark.{Mark}
use Rattle.mw_lone.specs.declared.marks.Mark.TheVariants.{Ask, Admit, Busy, Look, Miss, Seal, SealFail, FileFail, GiveUp, Retire, Reply as HandOut, Restart}
use Rattle.mw_lone.specs.Store.{Store, RequestState, request, asked, due_reply, entries_of, step, outgoing, run as run_of_store, replies_from}
use Rattle.mw_lone.proofs.SoundStores.{Requests}
use Rattle.mw_law_store.specs.Late.MarkEffects.{Does, HandsOut}
use Rattle.mw_law_store.proofs.Late.MarkEffectLaws.{marks-do}
use Rattle.mw_law_store.proofs.Late.RequestsOfMarks.{requests_of}
use Rattle.mw_law_store.specs.Durability.{change_of, changes_of, put_all, is_start, no_start, IsDurableIn, begun, SealsAreDurable}
use Rattle.mw_law_store.specs.AbstractStates.{AbstractState, first_abstract_state, doubt_at, after_mark, after_marks}
use Rattle.mw_law_store.proofs.Replies.{replies_step}
use Rattle.mw_law_store.proofs.StoresOfStates.{Tells, which_request, does_goes, goes_tells, run_tells, begun_tells}

-- Changes and words.

put_all_more : (words : List ℕ) (first rest : List (List Entry)) → put_all words (first ++ rest) ≡ put_all (put_all words first) rest
put_all_more words [] rest = refl
put_all_more words (change ∷ first) rest = put_all_more (put words change) first rest

put_found : (now : AbstractState) (interrupted : Option ℕ) (found : Bool)
    → (if found then put now.words (doubt_at now interrupted) else now.words) ≡ put_all now.words (if found then doubt_at now interrupted ∷ [] else [])
put_found now interrupted true = refl
put_found now interrupted false = refl

put_by : (now : AbstractState) (mark : Mark) → (after_mark now mark).words ≡ put_all now.words (change_of now mark)
put_by now (Ask k job) = refl
put_by now (Admit k) = refl
put_by now (Busy k) = refl
put_by now (Look k) = refl
put_by now (Miss k index) = refl
put_by now (Seal k) = refl
put_by now (SealFail k) = refl
put_by now FileFail = refl
put_by now (GiveUp k) = refl
put_by now (Retire k) = refl
put_by now (HandOut k) = refl
put_by now (Restart interrupted found opened quota) = put_found now interrupted found

-- the words of an abstract state are the first ones with all changes put over them
pub words_of_changes : (now : AbstractState) (marks : List Mark) → (after_marks now marks).words ≡ put_all now.words (changes_of now marks)
words_of_changes now [] = refl
words_of_changes now (mark ∷ marks) =
    words_of_changes (after_mark now mark) marks
    ∙ ap (λ words. put_all words (changes_of (after_mark now mark) marks)) (put_by now mark)
    ∙ sym (put_all_more now.words (change_of now mark) (changes_of (after_mark now mark) marks))

pub changes_append : (now : AbstractState) (first rest : List Mark) → changes_of now (first ++ rest) ≡ changes_of now first ++ changes_of (after_marks now first) rest
changes_append now [] rest = refl
changes_append now (mark ∷ first) rest =
    ap (λ changes. change_of now mark ++ changes) (changes_append (after_mark now mark) first rest)
    ∙ sym (append_assoc (change_of now mark) (changes_of (after_mark now mark) first) (changes_of (after_marks (after_mark now mark) first) rest))

pub marks_more : (now : AbstractState) (marks : List Mark) (mark : Mark) → after_marks now (marks ++ mark ∷ []) ≡ after_mark (after_marks now marks) mark
marks_more now [] mark = refl
marks_more now (first ∷ marks) mark = marks_more (after_mark now first) marks mark

both_true : (first rest after : Bool) → first && rest ≡ true → (rest ≡ true → after ≡ true) → first && after ≡ true
both_true true rest after h on = on h
both_true false rest after h on = h

no_start_more : (marks : List Mark) (mark : Mark) → is_start mark ≡ false → no_start marks ≡ true → no_start (marks ++ mark ∷ []) ≡ true
no_start_more [] mark other fine = ap (λ b. not b && true) other
no_start_more (first ∷ marks) mark other fine = both_true (not (is_start first)) (no_start marks) (no_start (marks ++ mark ∷ [])) fine (no_start_more marks mark other)

-- What the marks tell of the requests that a store has.

-- A request came for this job since the last start.
pub record HasCome (marks : List Mark) (n : ℕ) (job : Job) : Type 0 where
  pub first : List Mark
  pub since : List Mark
  pub parted : marks ≡ first ++ Ask n job ∷ since
  pub goes_on : no_start since ≡ true

-- It was also sealed.
pub record WasSealed (words : List ℕ) (marks : List Mark) (n : ℕ) (job : Job) : Type 0 where
  pub first : List Mark
  pub until_seal : List Mark
  pub since : List Mark
  pub parted : marks ≡ first ++ Ask n job ∷ (until_seal ++ Seal n ∷ since)
  pub goes_on : no_start until_seal ≡ true
  pub stays_up : no_start since ≡ true
  pub its_change : (after_marks (first_abstract_state words) (first ++ Ask n job ∷ until_seal)).entries n ≡ entries_of job

pub record Remembers (words : List ℕ) (marks : List Mark) (s : Store) : Type 0 where
  pub tells : Tells (after_marks (first_abstract_state words) marks) s
  pub came : (n : ℕ) (r : RequestState) → request s n ≡ Some r → HasCome marks n r.job
  pub sealed : (n : ℕ) (r : RequestState) → request s n ≡ Some r → r.placed ≡ Some SaysYes → WasSealed words marks n r.job

come_more : (marks : List Mark) (mark : Mark) (n : ℕ) (job : Job) → is_start mark ≡ false → HasCome marks n job → HasCome (marks ++ mark ∷ []) n job
come_more marks mark n job other came = record {
  first = came.first;
  since = came.since ++ mark ∷ [];
  parted = ap (λ ms. ms ++ mark ∷ []) came.parted ∙ append_assoc came.first (Ask n job ∷ came.since) (mark ∷ []);
  goes_on = no_start_more came.since mark other came.goes_on;
}

sealed_more : (words : List ℕ) (marks : List Mark) (mark : Mark) (n : ℕ) (job : Job) → is_start mark ≡ false → WasSealed words marks n job → WasSealed words (marks ++ mark ∷ []) n job
sealed_more words marks mark n job other was = record {
  first = was.first;
  until_seal = was.until_seal;
  since = was.since ++ mark ∷ [];
  parted =
      ap (λ ms. ms ++ mark ∷ []) was.parted ∙ append_assoc was.first (Ask n job ∷ (was.until_seal ++ Seal n ∷ was.since)) (mark ∷ [])
      ∙ ap (λ ms. was.first ++ Ask n job ∷ ms) (append_assoc was.until_seal (Seal n ∷ was.since) (mark ∷ []));
  goes_on = was.goes_on;
  stays_up = no_start_more was.since mark other was.stays_up;
  its_change = was.its_change;
}

-- One request is written.
written_on : (words : List ℕ) (marks : List Mark) (mark : Mark) (s t : Store) (k : ℕ) (y : RequestState) → Remembers words marks s → Does s mark t → is_start mark ≡ false → t.requests ≡ map.insert s.requests k y
    → HasCome (marks ++ mark ∷ []) k y.job → (y.placed ≡ Some SaysYes → WasSealed words (marks ++ mark ∷ []) k y.job) → Remembers words (marks ++ mark ∷ []) t
written_on words marks mark s t k y old does other after its_ask its_seal = record {
  tells = subst (λ (now : AbstractState). Tells now t) (sym (marks_more (first_abstract_state words) marks mark)) (goes_tells (after_marks (first_abstract_state words) marks) s t mark (does_goes s t mark does) old.tells);
  came = λ n r at. elim (which_request s.requests k n y r (sym (ap (λ (m : Requests). map.get m n) after) ∙ at)) [
    | inl it ↦ subst (λ q. HasCome (marks ++ mark ∷ []) q r.job) (sym it.0) (subst (λ (x : RequestState). HasCome (marks ++ mark ∷ []) k x.job) it.1 its_ask)
    | inr beside ↦ come_more marks mark n r.job other (old.came n r beside.1)
  ];
  sealed = λ n r at placed. elim (which_request s.requests k n y r (sym (ap (λ (m : Requests). map.get m n) after) ∙ at)) [
    | inl it ↦
        subst (λ q. WasSealed words (marks ++ mark ∷ []) q r.job) (sym it.0)
        (subst (λ (x : RequestState). WasSealed words (marks ++ mark ∷ []) k x.job) it.1 (its_seal (ap (λ (x : RequestState). x.placed) it.1 ∙ placed)))
    | inr beside ↦ sealed_more words marks mark n r.job other (old.sealed n r beside.1 placed)
  ];
}

-- a request that was asked keeps its reply
restated : (words : List ℕ) (marks : List Mark) (mark : Mark) (s t : Store) (k : ℕ) (found y : RequestState) → Remembers words marks s → Does s mark t → is_start mark ≡ false → t.requests ≡ map.insert s.requests k y
    → request s k ≡ Some found → y.job ≡ found.job → y.placed ≡ found.placed → Remembers words (marks ++ mark ∷ []) t
restated words marks mark s t k found y old does other after is_asked same_job same_reply =
    written_on words marks mark s t k y old does other after
    (subst (HasCome (marks ++ mark ∷ []) k) (sym same_job) (come_more marks mark k found.job other (old.came k found is_asked)))
    (λ placed. subst (WasSealed words (marks ++ mark ∷ []) k) (sym same_job) (sealed_more words marks mark k found.job other (old.sealed k found is_asked (sym same_reply ∙ placed))))

-- a request gets a reply other than YES
refused : (words : List ℕ) (marks : List Mark) (mark : Mark) (s t : Store) (k : ℕ) (found : RequestState) (reply : Reply) → Remembers words marks s → Does s mark t → is_start mark ≡ false
    → t.requests ≡ map.insert s.requests k (record found { placed = Some reply }) → request s k ≡ Some found → reply ≢ SaysYes → Remembers words (marks ++ mark ∷ []) t
refused words marks mark s t k found reply old does other after is_asked apart =
    written_on words marks mark s t k (record found { placed = Some reply }) old does other after (come_more marks mark k found.job other (old.came k found is_asked))
    (λ placed. absurd (apart (same_Some reply SaysYes placed)))

seals : (words : List ℕ) (marks : List Mark) (s : Store) (k : ℕ) (found : RequestState) → Remembers words marks s → request s k ≡ Some found → WasSealed words (marks ++ Seal k ∷ []) k found.job
seals words marks s k found old is_asked =
    let came = old.came k found is_asked in
    record {
      first = came.first;
      until_seal = came.since;
      since = [];
      parted = ap (λ ms. ms ++ Seal k ∷ []) came.parted ∙ append_assoc came.first (Ask k found.job ∷ came.since) (Seal k ∷ []);
      goes_on = came.goes_on;
      stays_up = refl;
      its_change = ap (λ ms. (after_marks (first_abstract_state words) ms).entries k) (sym came.parted) ∙ old.tells.entries k found is_asked;
    }

goes_on_quiet : (words : List ℕ) (marks : List Mark) (s t : Store) → Remembers words marks s → Does s FileFail t → Remembers words (marks ++ FileFail ∷ []) t
goes_on_quiet words marks s t old does =
    let back = λ (n : ℕ). ap (λ (m : Requests). map.get m n) (requests_of t _ does.after) in
    record {
      tells = subst (λ (now : AbstractState). Tells now t) (sym (marks_more (first_abstract_state words) marks FileFail)) (goes_tells (after_marks (first_abstract_state words) marks) s t FileFail does old.tells);
      came = λ n r at. come_more marks FileFail n r.job refl (old.came n r (sym (back n) ∙ at));
      sealed = λ n r at placed. sealed_more words marks FileFail n r.job refl (old.sealed n r (sym (back n) ∙ at) placed);
    }

begins : (words : List ℕ) (marks : List Mark) (t : Store) → t.requests ≡ map.empty → Tells (after_marks (first_abstract_state words) marks) t → Remembers words marks t
begins words marks t none tells =
    let nobody = λ (n : ℕ) (r : RequestState) (at : request t n ≡ Some r). none-some r (sym (map.get-empty nat_cmp n) ∙ sym (ap (λ (m : Requests). map.get m n) none) ∙ at) in
    record { tells = tells; came = λ n r at. absurd (nobody n r at); sealed = λ n r at placed. absurd (nobody n r at) }

remembers_on : (words : List ℕ) (marks : List Mark) (mark : Mark) (s t : Store) → Remembers words marks s → Does s mark t → Remembers words (marks ++ mark ∷ []) t
remembers_on words marks (Ask k job) s t old d =
    written_on words marks (Ask k job) s t k (asked job) old d refl (requests_of t _ d.after) (record { first = marks; since = []; parted = refl; goes_on = refl }) (λ placed. absurd (none-some SaysYes placed))
remembers_on words marks (Admit k) s t old d = restated words marks (Admit k) s t k d.found _ old d refl (requests_of t _ d.after) d.waits.is_asked refl refl
remembers_on words marks (Busy k) s t old d = refused words marks (Busy k) s t k d.found _ old d refl (requests_of t _ d.after) d.waits.is_asked (λ e. cc)
remembers_on words marks (Look k) s t old d = refused words marks (Look k) s t k d.found _ old d refl (requests_of t _ d.after) d.is_asked (λ e. cc)
remembers_on words marks (Miss k index) s t old d = refused words marks (Miss k index) s t k d.found _ old d refl (requests_of t _ d.after) d.is_asked (λ e. cc)
remembers_on words marks (Seal k) s t old d =
    written_on words marks (Seal k) s t k (record d.found { placed = Some SaysYes }) old d refl (requests_of t _ d.after)
    (come_more marks (Seal k) k d.found.job refl (old.came k d.found d.can_be_written.is_asked)) (λ placed. seals words marks s k d.found old d.can_be_written.is_asked)
remembers_on words marks (SealFail k) s t old d = refused words marks (SealFail k) s t k d.found _ old d refl (requests_of t _ d.after) d.can_be_written.is_asked (λ e. cc)
remembers_on words marks FileFail s t old d = goes_on_quiet words marks s t old d
remembers_on words marks (GiveUp k) s t old d = refused words marks (GiveUp k) s t k d.found _ old d refl (requests_of t _ d.after) d.is_asked (λ e. cc)
remembers_on words marks (Retire k) s t old d = restated words marks (Retire k) s t k d.found _ old d refl (requests_of t _ d.after) d.is_asked refl refl
remembers_on words marks (HandOut k) s t old d = restated words marks (HandOut k) s t k d.found _ old d refl (requests_of t _ d.after) d.is_asked refl refl
remembers_on words marks (Restart interrupted found opened quota) s t old d =
    begins words (marks ++ Restart interrupted found opened quota ∷ []) t (requests_of t _ d.after)
    (subst (λ (now : AbstractState). Tells now t) (sym (marks_more (first_abstract_state words) marks (Restart interrupted found opened quota)))
    (goes_tells (after_marks (first_abstract_state words) marks) s t (Restart interrupted found opened quota) d old.tells))

-- What is handed out.

-- Among the marks after those before, one hands out the reply of a request that was sealed before it.
record IsHanded (words : List ℕ) (before marks : List Mark) (n : ℕ) : Type 0 where
  job : Job
  until : List Mark
  rest : List Mark
  parted : marks ≡ until ++ HandOut n ∷ rest
  was_sealed : WasSealed words (before ++ until) n job

later_handed : (words : List ℕ) (before marks : List Mark) (mark : Mark) (n : ℕ) → IsHanded words (before ++ mark ∷ []) marks n → IsHanded words before (mark ∷ marks) n
later_handed words before marks mark n later = record {
  job = later.job;
  until = mark ∷ later.until;
  rest = later.rest;
  parted = ap (λ ms. mark ∷ ms) later.parted;
  was_sealed = subst (λ ms. WasSealed words ms n later.job) (append_assoc before (mark ∷ []) later.until) later.was_sealed;
}

hand_out_now : (words : List ℕ) (before marks : List Mark) (s t : Store) (k n : ℕ) → Remembers words before s → HandsOut s k t → outgoing s (HandOut k) ≡ Some (n, SaysYes) → IsHanded words before (HandOut k ∷ marks) n
hand_out_now words before marks s t k n old d e =
    let says : outgoing s (HandOut k) ≡ Some (k, d.reply) =
    ap (λ o. option_map (λ reply. (k, reply)) (option_and_then due_reply o)) d.is_asked
    ∙ ap (λ b. option_map (λ reply. (k, reply)) (if b then None else d.found.placed)) d.not_handed
    ∙ ap (λ o. option_map (λ reply. (k, reply)) o) d.has_reply in
    let same : (k, d.reply) ≡ (n, SaysYes) = same_Some (k, d.reply) (n, SaysYes) (sym says ∙ e) in
    let is : k ≡ n = ap (λ (said : ℕ × Reply). said.0) same in
    let reply_is : d.reply ≡ SaysYes = ap (λ (said : ℕ × Reply). said.1) same in
    subst (λ q. IsHanded words before (HandOut k ∷ marks) q) is (record {
      job = d.found.job;
      until = [];
      rest = marks;
      parted = refl;
      was_sealed = subst (λ ms. WasSealed words ms k d.found.job) (sym (append-nil before)) (old.sealed k d.found d.is_asked (d.has_reply ∙ ap Some reply_is));
    })

handed_now : (words : List ℕ) (before marks : List Mark) (s t : Store) (mark : Mark) (n : ℕ) → Remembers words before s → Does s mark t → outgoing s mark ≡ Some (n, SaysYes) → IsHanded words before (mark ∷ marks) n
handed_now words before marks s t (HandOut k) n old d e = hand_out_now words before marks s t k n old d e
handed_now words before marks s t (Ask k job) n old d e = absurd (none-some _ e)
handed_now words before marks s t (Admit k) n old d e = absurd (none-some _ e)
handed_now words before marks s t (Busy k) n old d e = absurd (none-some _ e)
handed_now words before marks s t (Look k) n old d e = absurd (none-some _ e)
handed_now words before marks s t (Miss k index) n old d e = absurd (none-some _ e)
handed_now words before marks s t (Seal k) n old d e = absurd (none-some _ e)
handed_now words before marks s t (SealFail k) n old d e = absurd (none-some _ e)
handed_now words before marks s t FileFail n old d e = absurd (none-some _ e)
handed_now words before marks s t (GiveUp k) n old d e = absurd (none-some _ e)
handed_now words before marks s t (Retire k) n old d e = absurd (none-some _ e)
handed_now words before marks s t (Restart interrupted found opened quota) n old d e = absurd (none-some _ e)

-- the reply is the first mark's, or one after it
which_reply : (o : Option (ℕ × Reply)) (replies : List (ℕ × Reply)) (place n : ℕ) → slice_get (option_to_list o ++ replies) place ≡ Some (n, SaysYes)
    → (o ≡ Some (n, SaysYes)) ⊎ ((later : ℕ) × (slice_get replies later ≡ Some (n, SaysYes)))
which_reply None replies place n e = inr (place, e)
which_reply (Some said) replies zero n e = inl e
which_reply (Some said) replies (suc place) n e = inr (place, e)

handed : (words : List ℕ) (before marks : List Mark) (s t : Store) (place n : ℕ) → Remembers words before s → run_of_store s marks ≡ Some t → slice_get (replies_from s marks) place ≡ Some (n, SaysYes) → IsHanded words before marks n
handed words before [] s t place n old e at = absurd (none-some _ at)
handed words before (mark ∷ marks) s t place n old e at =
    option_and_then_some (λ u. run_of_store u marks) (step s mark) t e (λ u done on.
    let does = marks-do s u mark done in
    elim (which_reply (outgoing s mark) (replies_from u marks) place n (ap (λ replies. slice_get replies place) (sym (replies_step s u mark marks done)) ∙ at)) [
      | inl now ↦ handed_now words before marks s u mark n old does now
      | inr later ↦ later_handed words before marks mark n (handed words (before ++ mark ∷ []) marks u t later.0 n (remembers_on words before mark s u old does) on later.1)
    ])

held : (words : List ℕ) (marks : List Mark) (n : ℕ) → IsHanded words [] marks n → IsDurableIn words marks n
held words marks n it =
    let was = it.was_sealed in
    let start = first_abstract_state words in
    let front = was.first ++ Ask n it.job ∷ was.until_seal in
    let back = was.since ++ HandOut n ∷ it.rest in
    let whole : marks ≡ was.first ++ Ask n it.job ∷ (was.until_seal ++ Seal n ∷ back) =
    it.parted ∙ ap (λ ms. ms ++ HandOut n ∷ it.rest) was.parted
    ∙ append_assoc was.first (Ask n it.job ∷ (was.until_seal ++ Seal n ∷ was.since)) (HandOut n ∷ it.rest)
    ∙ ap (λ ms. was.first ++ Ask n it.job ∷ ms) (append_assoc was.until_seal (Seal n ∷ was.since) (HandOut n ∷ it.rest)) in
    let in_two : marks ≡ front ++ Seal n ∷ back = whole ∙ sym (append_assoc was.first (Ask n it.job ∷ was.until_seal) (Seal n ∷ back)) in
    record {
      job = it.job;
      first = was.first;
      until_seal = was.until_seal;
      until_reply = was.since;
      rest = it.rest;
      parted = whole;
      goes_on = was.goes_on;
      stays_up = was.stays_up;
      later = changes_of (after_mark (after_marks start front) (Seal n)) back;
      its_change =
          ap (changes_of start) in_two ∙ changes_append start front (Seal n ∷ back)
          ∙ ap (λ change. changes_of start front ++ change ∷ changes_of (after_mark (after_marks start front) (Seal n)) back) was.its_change;
    }

pub seals_are_held : SealsAreDurable
seals_are_held words quota opened marks t e =
    let start = first_abstract_state words in
    let first = begun_tells words quota opened in
    let tells = run_tells start (begun words quota opened) t marks e first in (
      sym tells.words ∙ words_of_changes start marks,
      λ place n at. held words marks n (handed words [] marks (begun words quota opened) t place n (begins words [] (begun words quota opened) refl first) e at),
    )
