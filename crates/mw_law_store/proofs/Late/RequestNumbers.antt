-- After every legal run of a store alone, each request that was asked has a number below the next one. Used by: runs_number.
use Rattle.std.proofs.Common.{◌≡◌, ℕ, ◌+◌, ◌<◌, ◌≤◌, Bool, true, false, List, [], ◌∷◌, sym, ap, subst, ◌∙◌, arith, Some, is_none, inl, inr}
use Rattle.std.proofs.lemmas.Bool.{cases_eq}
use Rattle.std.proofs.lemmas.Option.{same_Some, none-some, option_and_then_some}
use Rattle.std.specs.FinMap as map
use Rattle.std.specs.Ordering.{nat_cmp}
use Rattle.mw_words.specs.declared.jobs.Job.{Job}
use Rattle.mw_lone.specs.declared.marks.Mark.{Mark}
use Rattle.mw_lone.specs.declared.marks.Mark.TheVariants.{Ask, Admit, Busy, Look, Miss, Seal, SealFail, FileFail, GiveUp, Retire, Reply as HandOut, Restart}
use Rattle.mw_lone.proofs.SoundStores.{Requests, get-insert_other}
use Rattle.mw_lone.specs.Store.{Store, RequestState, new_store, request, asked, step, run}
use Rattle.mw_law_store.specs.Late.MarkEffects.{Does}
use Rattle.mw_law_store.specs.Late.LateMarks.{IsNumbered}
use Rattle.mw_law_store.specs.Late.Laws.{RunsNumber}
use Rattle.mw_law_store.proofs.Late.MarkEffectLaws.{marks-do}
use Rattle.mw_law_store.proofs.Late.RequestsOfMarks.{requests_of}

-- what a mark does to the requests and their numbers: a new one is asked; one that was asked is written, and keeps its reply if it has one; all stay
-- as they are; or all are gone
pub data Touches (s t : Store) : Type 0 where
  comes : (k : ℕ) (job : Job) → k ≡ s.next → t.next ≡ s.next + 1 → t.requests ≡ map.insert s.requests k (asked job) → Touches s t
  written : (k : ℕ) (r y : RequestState) → request s k ≡ Some r → (is_none y.placed ≡ true → is_none r.placed ≡ true) → t.next ≡ s.next → t.requests ≡ map.insert s.requests k y → Touches s t
  stay : t.next ≡ s.next → t.requests ≡ s.requests → Touches s t
  gone : t.next ≡ s.next → t.requests ≡ map.empty → Touches s t

pub next_of : (t u : Store) → t ≡ u → t.next ≡ u.next
next_of t u e = ap (λ (v : Store). v.next) e

-- a request that has its reply keeps it
replied : (b : Bool) → false ≡ true → b ≡ true
replied b h = absurd (cc)

touches : (s t : Store) (mark : Mark) → Does s mark t → Touches s t
touches s t (Ask k job) d = comes k job d.is_next (next_of t _ d.after) (requests_of t _ d.after)
touches s t (Admit k) d = written k d.found _ d.waits.is_asked (λ h. h) (next_of t _ d.after) (requests_of t _ d.after)
touches s t (Busy k) d = written k d.found _ d.waits.is_asked (replied (is_none d.found.placed)) (next_of t _ d.after) (requests_of t _ d.after)
touches s t (Look k) d = written k d.found _ d.is_asked (replied (is_none d.found.placed)) (next_of t _ d.after) (requests_of t _ d.after)
touches s t (Miss k i) d = written k d.found _ d.is_asked (replied (is_none d.found.placed)) (next_of t _ d.after) (requests_of t _ d.after)
touches s t (Seal k) d = written k d.found _ d.can_be_written.is_asked (replied (is_none d.found.placed)) (next_of t _ d.after) (requests_of t _ d.after)
touches s t (SealFail k) d = written k d.found _ d.can_be_written.is_asked (replied (is_none d.found.placed)) (next_of t _ d.after) (requests_of t _ d.after)
touches s t FileFail d = stay (next_of t _ d.after) (requests_of t _ d.after)
touches s t (GiveUp k) d = written k d.found _ d.is_asked (replied (is_none d.found.placed)) (next_of t _ d.after) (requests_of t _ d.after)
touches s t (Retire k) d = written k d.found _ d.is_asked (λ h. h) (next_of t _ d.after) (requests_of t _ d.after)
touches s t (HandOut k) d = written k d.found _ d.is_asked (λ h. h) (next_of t _ d.after) (requests_of t _ d.after)
touches s t (Restart interrupted take opened quota) d = gone (next_of t _ d.after) (requests_of t _ d.after)

pub mark-touches : (s t : Store) (mark : Mark) → step s mark ≡ Some t → Touches s t
mark-touches s t mark e = touches s t mark (marks-do s t mark e)

-- Numbers stay below the next one.

number_written : (s t : Store) (k : ℕ) (y : RequestState) → k < t.next → s.next ≤ t.next → t.requests ≡ map.insert s.requests k y → IsNumbered s → IsNumbered t
number_written s t k y below on after i n r at = elim (cases_eq n k) [
  | inl e ↦ omega (arith, below)
  | inr other ↦
      let here : request s n ≡ Some r = sym (get-insert_other s.requests k n y other) ∙ sym (ap (λ (m : Requests). map.get m n) after) ∙ at in
      omega (arith, i n r here, on)
]

number_same : (s t : Store) → t.next ≡ s.next → t.requests ≡ s.requests → IsNumbered s → IsNumbered t
number_same s t more after i n r at = let here = i n r (sym (ap (λ (m : Requests). map.get m n) after) ∙ at) in omega arith

number_gone : (t : Store) → t.requests ≡ map.empty → IsNumbered t
number_gone t after n r at = absurd (none-some r (sym (map.get-empty nat_cmp n) ∙ sym (ap (λ (m : Requests). map.get m n) after) ∙ at))

numbers_stay : (s t : Store) → Touches s t → IsNumbered s → IsNumbered t
numbers_stay s t (comes k job is more after) i = number_written s t k (asked job) (omega arith) (omega arith) after i
numbers_stay s t (written k r y at keeps more after) i = number_written s t k y (omega (arith, i k r at)) (omega arith) after i
numbers_stay s t (stay more after) i = number_same s t more after i
numbers_stay s t (gone more after) i = number_gone t after

pub number-step : (s t : Store) (mark : Mark) → step s mark ≡ Some t → IsNumbered s → IsNumbered t
number-step s t mark e i = numbers_stay s t (mark-touches s t mark e) i

pub number-run : (s t : Store) (marks : List Mark) → run s marks ≡ Some t → IsNumbered s → IsNumbered t
number-run s t [] e i = subst IsNumbered (same_Some s t e) i
number-run s t (mark ∷ marks) e i =
    option_and_then_some (λ u. run u marks) (step s mark) t e (λ u at on. number-run u t marks on (number-step s u mark at i))

pub runs-number : RunsNumber
runs-number words quota marks t e = number-run (new_store words quota) t marks e (λ n r at. absurd (none-some r (sym (map.get-empty nat_cmp n) ∙ at)))
