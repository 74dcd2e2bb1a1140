-- Proves `CallEnds.FinishEnds`, how the finish of a prepared change ends, for a tenant that has not faulted since the start.
-- Used by: LoadedFile::change, LoadedFile::refuse.
use Rattle.std.proofs.Common.{◌≡◌, ◌≢◌, ℕ, ◌+◌, ◌-◌, true, false, List, [], ◌∷◌, ◌++◌, suc, take, drop, length, Option, Some, None, Result, Ok, Err, is_err, IsTrue, IsSomeAnd, refl, sym, ap, subst, ◌∙◌, inl, inr, arith}
use Rattle.std.specs.List.{slice_get}
use Rattle.std.proofs.lemmas.List.{take_at}
use Rattle.arrayvec.specs.ArrayVec.{ArrayVec}
use Rattle.mw_disk.specs.Facts.{Facts}
use Rattle.mw_disk.specs.Runs.{Later, LeavesOnly}
use Rattle.mw_disk.proofs.RunLaws.{later_trans, was_honest, still_honest, leaves_wider, leaves_more, good_trans}
use Rattle.mw_words.specs.declared.jobs.Entry.{Entry}
use Rattle.mw_words.specs.declared.replies.Reply.TheVariants.{No, Yes, Fault}
use Rattle.mw_words.specs.Change.{word_at, fits, put}
use Rattle.mw_file.specs.declared.place_states.Stage.{Stage}
use Rattle.mw_file.specs.declared.place_states.Stage.TheVariants.{Free}
use Rattle.mw_file.specs.declared.tenant_file.TenantFile.{TenantFile}
use Rattle.mw_file.specs.declared.tenant_file.FileFault.{FileFault}
use Rattle.mw_file.specs.declared.tenant_file.FileFault.TheVariants.{Disk, Failed}
use Rattle.mw_file.specs.File.{disk_of, states_of, has_failed, Ends, WentWell}
use Rattle.mw_file.specs.RecoveryInvariant.{RecoversTo, CrashSafe, ContentsStay, ChangeIsSealed, SealEnds, IsFile, IsBeforeOrAfter}
use Rattle.mw_file.specs.PlaceStates.{writes_of_place, IsStaged}
use Rattle.mw_record.specs.Layout.{pairs_of}
use Rattle.mw_record.specs.Records.{Pairs, put_pairs}
use Rattle.mw_record.proofs.ReadAgain.{put-put_pairs}
use Rattle.mw_lone.specs.Store.{Store}
use Rattle.mw_lone.proofs.SoundStores.{length-put}
use Rattle.mw_plain.specs.declared.loaded_file.LoadedFile.{LoadedFile}
use Rattle.mw_plain.specs.Books.{IsPrepared}
use Rattle.mw_plain.specs.Misses.{IsFirstMiss}
use Rattle.mw_plain.specs.Cases.{Missed, Unsealed, Unsettled, Changed, refusal}
use Rattle.mw_plain.specs.Refinement.{StandsFor, IsKept}
use Rattle.mw_plain.specs.CallEnds.{FinishEnds}
use Rattle.mw_plain.proofs.StartEnds.{met_fault}

-- a fact of an entry is a fact of the entry that is found
found_at : (found : Option Entry) (e : Entry) (words : List ℕ) → found ≡ Some e → word_at words e.addr ≢ e.expected → IsSomeAnd found (λ e. word_at words e.addr ≢ e.expected)
found_at None e words is differs = absurd (cc)
found_at (Some x) e words is differs = let same : x ≡ e = cc in subst (λ (y : Entry). word_at words y.addr ≢ y.expected) (sym same) differs

-- changes prepared in other places stay
others_stay : {D : Type 0} (old new : LoadedFile D) (place : ℕ) (stage : Stage) (writes : Pairs) (other : ℕ) (others : List Entry) → old.faulted ≡ false → IsStaged (states_of old.file) (states_of new.file) place stage writes
    → other ≢ place → IsPrepared (Some old) other others → IsPrepared (Some new) other others
others_stay old new place stage writes other others up staged apart was = λ _. (staged.stage_there other apart ∙ (was up).0, staged.writes_there other apart ∙ (was up).1)

-- as many writes as entries
pub as_many : (entries : List Entry) → length (pairs_of entries) ≡ length entries
as_many [] = refl
as_many (e ∷ entries) = ap suc (as_many entries)

-- all words were written
pub all_written : (n : ℕ) (items now : List ℕ) (entries : List Entry) → n ≡ length items → now ≡ put items entries → take n (now ++ drop (length now) items) ≡ put items entries
all_written n items now entries count is =
    let many : length now ≡ n = ap length is ∙ length-put items entries ∙ sym count in
    take_at now (drop (length now) items) n (omega (arith, many)) ∙ is

module _ {D : Type 0} (facts : D → Facts) where
  pub missed : (old new : LoadedFile D) (place : ℕ) (entries : ArrayVec Entry) (e : Entry) (value : ℕ) → old.faulted ≡ false
      → (first : IsFirstMiss old.words.items entries.items e) → value ≡ word_at old.words.items e.addr
      → new.words ≡ old.words → new.used ≡ old.used - 1 → new.faulted ≡ old.faulted → disk_of new.file ≡ disk_of old.file
      → IsStaged (states_of old.file) (states_of new.file) place Free (writes_of_place (states_of old.file) place) → ContentsStay facts old.file new.file
      → FinishEnds facts (Missed first.index) (Some old) (Some new) place entries (No e.addr value)
  missed old new place entries e value up first value_is words used faulted disk staged safe = record {
    made = (up, disk);
    fits = λ s backs. record {
      running = backs.faulted ∙ up;
      as_expected = subst (λ ws. IsTrue (fits ws (take first.index entries.items))) (sym backs.words) first.before;
      differs = subst (λ ws. IsSomeAnd (slice_get entries.items first.index) (λ e. word_at ws e.addr ≢ e.expected)) (sym backs.words)
          (found_at (slice_get entries.items first.index) e old.words.items first.here first.differs);
    };
    reply_is = λ s backs. ap (λ v. Some (No e.addr v)) (value_is ∙ ap (λ ws. word_at ws e.addr) (sym backs.words)) ∙ ap (refusal s.words) (sym first.here);
    after = λ s n backs. record {
      used = ap (λ n. n - 1) backs.used ∙ sym used;
      faulted = backs.faulted ∙ sym faulted;
      words = backs.words ∙ ap (λ v. v.items) (sym words);
    };
    keeps = λ s n keeps honest. let before : IsTrue (facts (disk_of old.file)).honest = subst (λ (d : D). IsTrue (facts d).honest) disk honest in
        (safe before s.words (pairs_of s.in_doubt) (keeps before)).after;
    moments = λ s keeps honest. (safe honest s.words (pairs_of s.in_doubt) (keeps honest)).moments;
    places = λ so_many. staged.count;
    kept = λ other others apart was. others_stay old new place _ _ other others up staged apart was;
  }

  -- a seal that met a fault leaves its change in doubt
  seal_failed : (old new : TenantFile D) (change : Pairs) (r : Result (Unit {0}) FileFault) → is_err r ≡ true → has_failed old ≡ false → Ends facts 2 old new r
      → (contents : List ℕ) (doubt : Pairs) → SealEnds facts r old new change contents doubt → CrashSafe facts old new contents change contents change
  seal_failed old new change (Ok x) bad sound ends contents doubt safe = absurd (cc)
  seal_failed old new change (Err Disk) bad sound ends contents doubt safe = safe
  seal_failed old new change (Err Failed) bad sound ends contents doubt safe = absurd (let no : true ≡ false = sym ends.before ∙ sound in cc)

  pub unsealed : (old new : LoadedFile D) (place : ℕ) (entries : ArrayVec Entry) (r : Result (Unit {0}) FileFault) → old.faulted ≡ false → IsTrue (fits old.words.items entries.items)
      → writes_of_place (states_of old.file) place ≡ pairs_of entries.items
      → new.words ≡ old.words → new.used ≡ old.used → new.faulted ≡ true → is_err r ≡ true → Ends facts 2 old.file new.file r
      → Later (facts (disk_of old.file)) (facts (disk_of new.file)) → ChangeIsSealed facts old.file new.file (writes_of_place (states_of old.file) place) r
      → FinishEnds facts Unsealed (Some old) (Some new) place entries Fault
  unsealed old new place entries r up expected writes words used faulted bad ends later safe = record {
    made = (up, (met_fault facts 2 old.file new.file r bad (old.sound up) ends).made);
    fits = λ s backs. record { running = backs.faulted ∙ up; as_expected = subst (λ ws. IsTrue (fits ws entries.items)) (sym backs.words) expected };
    reply_is = λ s backs. refl;
    after = λ s n backs. record {
      used = backs.used ∙ sym used;
      faulted = sym faulted;
      words = backs.words ∙ ap (λ v. v.items) (sym words);
    };
    keeps = λ s n keeps honest. (crash s keeps (was_honest _ _ later honest)).after;
    moments = λ s keeps honest. (crash s keeps honest).moments;
    places = λ so_many. ap length (met_fault facts 2 old.file new.file r bad (old.sound up) ends).states;
    kept = λ other others apart was now. absurd (let no : true ≡ false = sym faulted ∙ now in cc);
  } where
    crash : (s : Store) → IsKept facts (Some old) s → IsTrue (facts (disk_of old.file)).honest → CrashSafe facts old.file new.file s.words (pairs_of entries.items) s.words (pairs_of entries.items)
    crash s keeps honest = seal_failed old.file new.file (pairs_of entries.items) r bad (old.sound up) ends s.words (pairs_of s.in_doubt)
        (subst (λ change. SealEnds facts r old.file new.file change s.words (pairs_of s.in_doubt)) writes (safe honest s.words (pairs_of s.in_doubt) (keeps honest)))

  -- a seal that went well puts its change over the words
  seal_done : (old new : TenantFile D) (change : Pairs) (r : Result (Unit {0}) FileFault) → is_err r ≡ false
      → (contents : List ℕ) (doubt : Pairs) → SealEnds facts r old new change contents doubt → CrashSafe facts old new contents change (put_pairs change contents) []
  seal_done old new change (Ok x) well contents doubt safe = safe
  seal_done old new change (Err fault) well contents doubt safe = absurd (cc)

  -- a change that is sealed, and then settled or not
  pub record Sealing (old new : LoadedFile D) (between : TenantFile D) (place : ℕ) (entries : ArrayVec Entry) (r : Result (Unit {0}) FileFault) : Type 0 where
    pub up : old.faulted ≡ false
    pub expected : IsTrue (fits old.words.items entries.items)
    pub writes : writes_of_place (states_of old.file) place ≡ pairs_of entries.items
    pub words : new.words.items ≡ put old.words.items entries.items
    pub well : is_err r ≡ false
    pub places : length (states_of between) ≡ length (states_of old.file)
    pub first : Later (facts (disk_of old.file)) (facts (disk_of between))
    pub last : Later (facts (disk_of between)) (facts (disk_of new.file))
    pub sealed : ChangeIsSealed facts old.file between (writes_of_place (states_of old.file) place) r
    pub settled : ContentsStay facts between new.file

  module _ (old new : LoadedFile D) (between : TenantFile D) (place : ℕ) (entries : ArrayVec Entry) (r : Result (Unit {0}) FileFault) (c : Sealing old new between place entries r) where
    change : Pairs
    change = pairs_of entries.items

    begun : (s : Store) → IsKept facts (Some old) s → IsTrue (facts (disk_of old.file)).honest → CrashSafe facts old.file between s.words (pairs_of entries.items) (put_pairs (pairs_of entries.items) s.words) []
    begun s keeps honest = seal_done old.file between (pairs_of entries.items) r c.well s.words (pairs_of s.in_doubt)
        (subst (λ change. SealEnds facts r old.file between change s.words (pairs_of s.in_doubt)) c.writes (c.sealed honest s.words (pairs_of s.in_doubt) (keeps honest)))

    over : (s : Store) → IsKept facts (Some old) s → IsTrue (facts (disk_of old.file)).honest
        → CrashSafe facts between new.file (put_pairs (pairs_of entries.items) s.words) [] (put_pairs (pairs_of entries.items) s.words) []
    over s keeps honest = c.settled (still_honest _ _ c.first honest) (put_pairs (pairs_of entries.items) s.words) [] (begun s keeps honest).after

    sealed_moments : (s : Store) → IsKept facts (Some old) s → IsTrue (facts (disk_of old.file)).honest
        → LeavesOnly (facts (disk_of old.file)) (facts (disk_of new.file)) (IsBeforeOrAfter (length (states_of old.file)) s.words (pairs_of entries.items))
    sealed_moments s keeps honest = leaves_more _ (facts (disk_of between)) _ (begun s keeps honest).moments
        (leaves_wider _ _ (λ image either. inr (subst (λ places. IsFile places (put_pairs (pairs_of entries.items) s.words) image) c.places (one image s either))) (over s keeps honest).moments) where
          one : (image : List ℕ) (s : Store) → IsBeforeOrAfter (length (states_of between)) (put_pairs (pairs_of entries.items) s.words) [] image
              → IsFile (length (states_of between)) (put_pairs (pairs_of entries.items) s.words) image
          one image s (inl is) = is
          one image s (inr is) = is

    sealed_keeps : (s : Store) → IsKept facts (Some old) s → IsTrue (facts (disk_of new.file)).honest → RecoversTo facts new.file (put s.words entries.items) (pairs_of s.in_doubt)
    sealed_keeps s keeps honest =
        let before = was_honest _ _ (later_trans _ _ _ c.first c.last) honest in
        let none : pairs_of s.in_doubt ≡ [] = (keeps before).certain (old.sound c.up) in
        subst (λ doubt. RecoversTo facts new.file (put s.words entries.items) doubt) (sym none)
        (subst (λ ws. RecoversTo facts new.file ws []) (sym (put-put_pairs entries.items s.words)) (over s keeps before).after)

    sealed_words : (s : Store) → StandsFor old s → put s.words entries.items ≡ new.words.items
    sealed_words s backs = ap (λ ws. put ws entries.items) backs.words ∙ sym c.words

    pub unsettled : {T : Type 0} (settling : Result T FileFault) → new.used ≡ old.used → new.faulted ≡ true → is_err settling ≡ true
        → WentWell facts 2 old.file between → Ends facts (length entries.items + 3) between new.file settling
        → FinishEnds facts Unsettled (Some old) (Some new) place entries Yes
    unsettled settling used faulted bad seal ends = record {
      made = (c.up, record { between = disk_of between; sealed = seal.made; unsettled = (met_fault facts _ between new.file settling bad seal.after ends).made });
      fits = λ s backs. record { running = backs.faulted ∙ c.up; as_expected = subst (λ ws. IsTrue (fits ws entries.items)) (sym backs.words) c.expected };
      reply_is = λ s backs. refl;
      after = λ s n backs. record { used = backs.used ∙ sym used; faulted = sym faulted; words = sealed_words s backs };
      keeps = λ s n. sealed_keeps s;
      moments = sealed_moments;
      places = λ so_many. ap length (met_fault facts _ between new.file settling bad seal.after ends).states ∙ c.places;
      kept = λ other others apart was now. absurd (let no : true ≡ false = sym faulted ∙ now in cc);
    }

    pub changed : new.used ≡ old.used - 1 → new.faulted ≡ old.faulted
        → WentWell facts 2 old.file between → WentWell facts (length entries.items + 3) between new.file
        → IsStaged (states_of old.file) (states_of new.file) place Free (writes_of_place (states_of old.file) place)
        → FinishEnds facts Changed (Some old) (Some new) place entries Yes
    changed used faulted seal settle staged = record {
      made = (c.up, good_trans 2 (length entries.items + 3) _ _ _ seal.made settle.made);
      fits = λ s backs. record { running = backs.faulted ∙ c.up; as_expected = subst (λ ws. IsTrue (fits ws entries.items)) (sym backs.words) c.expected };
      reply_is = λ s backs. refl;
      after = λ s n backs. record { used = ap (λ n. n - 1) backs.used ∙ sym used; faulted = backs.faulted ∙ sym faulted; words = sealed_words s backs };
      keeps = λ s n. sealed_keeps s;
      moments = sealed_moments;
      places = λ so_many. staged.count;
      kept = λ other others apart was. others_stay old new place _ _ other others c.up staged apart was;
    }
