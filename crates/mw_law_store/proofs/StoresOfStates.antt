-- A store alone and an abstract state (words, sealed changes) of one history agree in words, change in doubt and requests.
-- Each mark keeps that.
-- Used by: words_are_of_marks.
use Rattle.std.specs.Prelude.{ℕ, ◌≡◌, ◌≢◌, ◌==◌, Bool, true, false, List, [], ◌∷◌, Option, Some, None, if◌then◌else◌}
use Rattle.std.specs.FinMap as map
use Rattle.std.specs.Option.{option_map_or}
use Rattle.std.specs.Ordering.{nat_cmp}
use Rattle.std.proofs.Common.{refl, sym, ap, subst, ◌∙◌, ◌⊎◌, inl, inr, arith}
use Rattle.std.proofs.lemmas.Bool.{cases_eq}
use Rattle.std.proofs.lemmas.Bool.Decides.{nat_tests}
use Rattle.std.proofs.lemmas.Option.{same_Some, none-some, option_and_then_some}
use Rattle.mw_words.specs.Change.{put}
use Rattle.mw_lone.specs.declared.marks.Mark.{Mark}
use Rattle.mw_lone.specs.declared.marks.Mark.TheVariants.{Ask, Admit, Busy, Look, Miss, Seal, SealFail, FileFail, GiveUp, Retire, Reply as HandOut, Restart}
use Rattle.mw_lone.specs.Store.{Store, RequestState, new_store, request, entries_of, entries_in_doubt, step, run as run_of_store}
use Rattle.mw_lone.proofs.SoundStores.{Requests, get-insert_same, get-insert_other}
use Rattle.mw_law_store.specs.Late.MarkEffects.{Does, CouldBeInterrupted}
use Rattle.mw_law_store.proofs.Late.MarkEffectLaws.{marks-do}
use Rattle.mw_law_store.specs.Durability.{begun}
use Rattle.mw_law_store.specs.RelaxedSteps.{RelaxedStep}
use Rattle.mw_law_store.specs.Laws.{WordsAreOfMarks}
use Rattle.mw_law_store.specs.AbstractStates.{AbstractState, first_abstract_state, doubt_at, after_mark, after_marks}

-- which request a number has after one was written
pub which_request : (m : Requests) (k n : ℕ) (y r : RequestState) → map.get (map.insert m k y) n ≡ Some r → ((n ≡ k) × (y ≡ r)) ⊎ ((n ≢ k) × (map.get m n ≡ Some r))
which_request m k n y r at = elim (cases_eq n k) [
  | inl same ↦ inl (same, same_Some y r (sym (get-insert_same m k n y same) ∙ at))
  | inr other ↦ inr (other, sym (get-insert_other m k n y other) ∙ at)
]

pub record Tells (now : AbstractState) (s : Store) : Type 0 where
  pub words : now.words ≡ s.words
  pub doubt : now.doubt ≡ s.in_doubt
  pub entries : (n : ℕ) (r : RequestState) → request s n ≡ Some r → now.entries n ≡ entries_of r.job

-- a request is written, and its job stays
entries_stay : (now : AbstractState) (s : Store) (k : ℕ) (found y : RequestState) → request s k ≡ Some found → y.job ≡ found.job → Tells now s
    → (n : ℕ) (r : RequestState) → map.get (map.insert s.requests k y) n ≡ Some r → now.entries n ≡ entries_of r.job
entries_stay now s k found y is_asked same_job tells n r at = elim (which_request s.requests k n y r at) [
  | inl it ↦ ap now.entries it.0 ∙ tells.entries k found is_asked ∙ ap entries_of (sym same_job ∙ ap (λ (x : RequestState). x.job) it.1)
  | inr other ↦ tells.entries n r other.1
]

-- a request comes
entries_come : (now : AbstractState) (s : Store) (k : ℕ) (y : RequestState) → Tells now s → (n : ℕ) (r : RequestState) → map.get (map.insert s.requests k y) n ≡ Some r
    → (if n == k then entries_of y.job else now.entries n) ≡ entries_of r.job
entries_come now s k y tells n r at = elim (which_request s.requests k n y r at) [
  | inl it ↦
      let is = it.0 in
      let here : (n == k) ≡ true = grind (arith, nat_tests, is) in
      ap (λ b. if b then entries_of y.job else now.entries n) here ∙ ap (λ (x : RequestState). entries_of x.job) it.1
  | inr other ↦
      let is_not = other.0 in
      let there : (n == k) ≡ false = grind (arith, nat_tests, is_not) in
      ap (λ b. if b then entries_of y.job else now.entries n) there ∙ tells.entries n r other.1
]

-- a start with no requests
none_asked : (now : AbstractState) (n : ℕ) (r : RequestState) → map.get {R = nat_cmp} map.empty n ≡ Some r → now.entries n ≡ entries_of r.job
none_asked now n r at = absurd (none-some r (sym (map.get-empty nat_cmp n) ∙ at))

same_doubt : (now : AbstractState) (s : Store) (interrupted : Option ℕ) → CouldBeInterrupted s interrupted → Tells now s → doubt_at now interrupted ≡ entries_in_doubt s interrupted
same_doubt now s None could tells = tells.doubt
same_doubt now s (Some n) could tells = tells.entries n could.0 could.1.is_asked ∙ sym (ap (λ o. option_map_or (λ (r : RequestState). entries_of r.job) o []) could.1.is_asked)

found_words : (now : AbstractState) (s : Store) (interrupted : Option ℕ) (found : Bool) → CouldBeInterrupted s interrupted → Tells now s
    → (if found then put now.words (doubt_at now interrupted) else now.words) ≡ (if found then put s.words (entries_in_doubt s interrupted) else s.words)
found_words now s interrupted true could tells = ap (λ words. put words (doubt_at now interrupted)) tells.words ∙ ap (put s.words) (same_doubt now s interrupted could tells)
found_words now s interrupted false could tells = tells.words

-- if the words and the change in doubt stay too
pub written_tells : (now : AbstractState) (s t u : Store) (k : ℕ) (found y : RequestState) → t ≡ u → u.words ≡ s.words → u.in_doubt ≡ s.in_doubt → u.requests ≡ map.insert s.requests k y
    → request s k ≡ Some found → y.job ≡ found.job → Tells now s → Tells now t
written_tells now s t u k found y after words doubt requests is_asked same_job tells = subst (Tells now) (sym after) (record {
  words = tells.words ∙ sym words;
  doubt = tells.doubt ∙ sym doubt;
  entries = λ n r at. entries_stay now s k found y is_asked same_job tells n r (sym (ap (λ (m : Requests). map.get m n) requests) ∙ at);
})

pub goes_tells : (now : AbstractState) (s t : Store) (mark : Mark) → RelaxedStep s mark t → Tells now s → Tells (after_mark now mark) t
goes_tells now s t (Ask k job) d tells = subst (Tells (after_mark now (Ask k job))) (sym d.after) (record { words = tells.words; doubt = tells.doubt; entries = entries_come now s k _ tells })
goes_tells now s t (Admit k) d tells = written_tells now s t _ k d.found _ d.after refl refl refl d.waits.is_asked refl tells
goes_tells now s t (Busy k) d tells = written_tells now s t _ k d.found _ d.after refl refl refl d.waits.is_asked refl tells
goes_tells now s t (Look k) d tells = written_tells now s t _ k d.found _ d.after refl refl refl d.is_asked refl tells
goes_tells now s t (Miss k index) d tells = written_tells now s t _ k d.found _ d.after refl refl refl d.is_asked refl tells
goes_tells now s t (Seal k) d tells =
    let its_entries = tells.entries k d.found d.can_be_written.is_asked in
    subst (Tells (after_mark now (Seal k))) (sym d.after) (record {
      words = ap (λ words. put words (now.entries k)) tells.words ∙ ap (put s.words) its_entries;
      doubt = tells.doubt;
      entries = entries_stay now s k d.found _ d.can_be_written.is_asked refl tells;
    })
goes_tells now s t (SealFail k) d tells = subst (Tells (after_mark now (SealFail k))) (sym d.after) (record {
  words = tells.words;
  doubt = tells.entries k d.found d.can_be_written.is_asked;
  entries = entries_stay now s k d.found _ d.can_be_written.is_asked refl tells;
})
goes_tells now s t FileFail d tells = subst (Tells now) (sym d.after) (record { words = tells.words; doubt = tells.doubt; entries = tells.entries })
goes_tells now s t (GiveUp k) d tells = written_tells now s t _ k d.found _ d.after refl refl refl d.is_asked refl tells
goes_tells now s t (Retire k) d tells = written_tells now s t _ k d.found _ d.after refl refl refl d.is_asked refl tells
goes_tells now s t (HandOut k) d tells = written_tells now s t _ k d.found _ d.after refl refl refl d.is_asked refl tells
goes_tells now s t (Restart interrupted found opened quota) d tells = subst (Tells (after_mark now (Restart interrupted found opened quota))) (sym d.after) (record {
  words = found_words now s interrupted found d.could_be_interrupted tells;
  doubt = refl;
  entries = none_asked (first_abstract_state []);
})

-- a legal step is a relaxed one
pub does_goes : (s t : Store) (mark : Mark) → Does s mark t → RelaxedStep s mark t
does_goes s t (Ask k job) d = d
does_goes s t (Admit k) d = d
does_goes s t (Busy k) d = d
does_goes s t (Look k) d = d
does_goes s t (Miss k index) d = d
does_goes s t (Seal k) d = d
does_goes s t (SealFail k) d = d
does_goes s t FileFail d = d
does_goes s t (GiveUp k) d = d
does_goes s t (Retire k) d = record { found = d.found; is_asked = d.is_asked; has_slot = d.has_slot; not_retired = d.not_retired; after = d.after }
does_goes s t (HandOut k) d = record { found = d.found; is_asked = d.is_asked; not_handed = d.not_handed; after = d.after }
does_goes s t (Restart interrupted found opened quota) d = d

pub step_tells : (now : AbstractState) (s t : Store) (mark : Mark) → step s mark ≡ Some t → Tells now s → Tells (after_mark now mark) t
step_tells now s t mark e tells = goes_tells now s t mark (does_goes s t mark (marks-do s t mark e)) tells

pub run_tells : (now : AbstractState) (s t : Store) (marks : List Mark) → run_of_store s marks ≡ Some t → Tells now s → Tells (after_marks now marks) t
run_tells now s t [] e tells = subst (Tells now) (same_Some s t e) tells
run_tells now s t (mark ∷ marks) e tells =
    option_and_then_some (λ u. run_of_store u marks) (step s mark) t e (λ u at on. run_tells (after_mark now mark) u t marks on (step_tells now s u mark at tells))

pub first_tells : (words : List ℕ) (quota : ℕ) → Tells (first_abstract_state words) (new_store words quota)
first_tells words quota = record { words = refl; doubt = refl; entries = none_asked (first_abstract_state words) }

pub begun_tells : (words : List ℕ) (quota : ℕ) (opened : Bool) → Tells (first_abstract_state words) (begun words quota opened)
begun_tells words quota opened = let first = first_tells words quota in record { words = first.words; doubt = first.doubt; entries = first.entries }

pub words_are_of_marks : WordsAreOfMarks
words_are_of_marks words quota opened marks t e =
    let tells = run_tells (first_abstract_state words) (begun words quota opened) t marks e (begun_tells words quota opened) in
    (sym tells.words, sym tells.doubt)
