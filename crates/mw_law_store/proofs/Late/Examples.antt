-- The example of `specs/Late/Examples` comes out: a late mark (put in before other marks) is legal at its place and illegal
-- at the end.
-- Used by: a_late_mark_comes_out.
use Rattle.std.proofs.Common.{◌≡◌, ◌≢◌, ℕ, ◌<◌, true, List, [], ◌∷◌, refl, ap, ◌∙◌, arith, Option, Some}
use Rattle.std.specs.Prelude.{slice_set}
use Rattle.std.specs.Option.{option_and_then, option_map}
use Rattle.mw_words.specs.declared.replies.Reply.TheVariants.{Yes, No}
use Rattle.mw_lone.specs.declared.marks.Mark.{Mark}
use Rattle.mw_lone.specs.declared.marks.Mark.TheVariants.{Ask, Admit, Miss, Seal}
use Rattle.mw_lone.proofs.KeptRuns.{run-extend}
use Rattle.mw_lone.proofs.SoundStores.{get-insert_same, get-insert_other}
use Rattle.mw_lone.specs.Store.{Store, RequestState, request, with_request, with_reply, asked, step, run, admit, seal, miss_at, entries_of}
use Rattle.std.specs.List.{slice_get}
use Rattle.mw_law_store.specs.Late.Examples.{change, five, lines, refusal, LateMarkComesOut}
use Rattle.mw_law_store.specs.Late.LateMarks.{marks_in, IsReservedFor}
use Rattle.mw_law_store.proofs.Late.RequestNumbers.{runs-number}
use Rattle.mw_law_store.proofs.Late.LateAnswers.{late-mark}

-- request 0, asked and then admitted
abbrev first : RequestState
first = record (asked (change 7 9)) { admitted = true }

abbrev first_asked : Store
first_asked = record (with_request five 0 (asked (change 7 9))) { next = 1 }

abbrev first_admitted : Store
first_admitted = record (with_request first_asked 0 first) { used = 1 }

-- request 1, asked and then admitted
abbrev second : RequestState
second = record (asked (change 5 7)) { admitted = true }

abbrev second_asked : Store
second_asked = record (with_request first_admitted 1 (asked (change 5 7))) { next = 2 }

abbrev second_admitted : Store
second_admitted = record (with_request second_asked 1 second) { used = 2 }

abbrev end : Store
end = record (with_reply second_admitted 1 second Yes) { words = 7 ∷ [] }

goes : (s t : Store) (mark : Mark) (marks : List Mark) (o : Option Store) → step s mark ≡ Some t → run t marks ≡ o → run s (mark ∷ marks) ≡ o
goes s t mark marks o e f = ap (option_and_then (λ u. run u marks)) e ∙ f

admits_first : step first_asked (Admit 0) ≡ Some first_admitted
admits_first = ap (option_and_then (admit first_asked 0)) (get-insert_same five.requests 0 0 (asked (change 7 9)) refl)

admits_second : step second_asked (Admit 1) ≡ Some second_admitted
admits_second = ap (option_and_then (admit second_asked 1)) (get-insert_same first_admitted.requests 1 1 (asked (change 5 7)) refl)

seals_second : step second_admitted (Seal 1) ≡ Some end
seals_second = ap (option_and_then (seal second_admitted 1)) (get-insert_same second_asked.requests 1 1 second refl)

-- the run up to the place
begins : run five (Ask 0 (change 7 9) ∷ Admit 0 ∷ []) ≡ Some first_admitted
begins = goes five first_asked (Ask 0 (change 7 9)) (Admit 0 ∷ []) _ refl (goes first_asked first_admitted (Admit 0) [] _ admits_first refl)

-- the run to the end
ends : run five (marks_in lines) ≡ Some end
ends =
    goes five first_asked (Ask 0 (change 7 9)) (Admit 0 ∷ Ask 1 (change 5 7) ∷ Admit 1 ∷ Seal 1 ∷ []) _ refl
    (goes first_asked first_admitted (Admit 0) (Ask 1 (change 5 7) ∷ Admit 1 ∷ Seal 1 ∷ []) _ admits_first
    (goes first_admitted second_asked (Ask 1 (change 5 7)) (Admit 1 ∷ Seal 1 ∷ []) _ refl
    (goes second_asked second_admitted (Admit 1) (Seal 1 ∷ []) _ admits_second
    (goes second_admitted end (Seal 1) [] _ seals_second refl))))

differ : (a b : ℕ) → a < b → a ≢ b
differ a b h e = omega arith

first_there : request first_admitted 0 ≡ Some first
first_there = get-insert_same first_asked.requests 0 0 first refl

first_at_end : request end 0 ≡ Some first
first_at_end =
    get-insert_other second_admitted.requests 1 0 (record second { placed = Some Yes }) (differ 0 1 (omega arith))
    ∙ (get-insert_other second_asked.requests 1 0 second (differ 0 1 (omega arith))
    ∙ (get-insert_other first_admitted.requests 1 0 (asked (change 5 7)) (differ 0 1 (omega arith)) ∙ first_there))

reserved_place : IsReservedFor five lines 2 (Miss 0 0) 0 (No 0 5)
reserved_place = record {
  is_empty = refl;
  store = first_admitted;
  was = begins;
  would_answer = (
    refl,
    record {
      found = first;
      is_asked = first_there;
      has_slot = refl;
      entry = record { addr = 0; expected = 7; new = 9 };
      is_entry = refl;
      differs = differ 5 7 (omega arith);
      says = refl;
    },
  );
}

late_end : run five (marks_in (slice_set lines 2 refusal)) ≡ Some (with_reply end 0 first (No 0 5))
late_end = late-mark five end lines 2 (Miss 0 0) 0 first (No 0 5) (runs-number (5 ∷ []) 2 [] five refl) reserved_place ends (record { is_asked = first_at_end; has_no_reply = refl })

pub late-mark-comes-out : LateMarkComesOut
late-mark-comes-out = record {
  kept = reserved_place;
  words = ap (option_map (λ s. s.words)) ends;
  at_the_end =
      run-extend five (marks_in lines) (Miss 0 0)
      ∙ ap (option_and_then (λ t. step t (Miss 0 0))) ends
      ∙ ap (option_and_then (λ r. miss_at end 0 r (slice_get (entries_of r.job) 0))) first_at_end;
  late_words = ap (option_map (λ s. s.words)) late_end;
  late_reply =
      ap (option_and_then (λ s. option_and_then (λ r. r.placed) (request s 0))) late_end
      ∙ ap (option_and_then (λ r. r.placed)) (get-insert_same end.requests 0 0 (record first { placed = Some (No 0 5) }) refl);
}
