-- A late mark (one put into the history before others) hands out no reply, and leaves the replies that were handed out.
-- Used by: late_marks_leave_replies, mw_law_threads.
use Rattle.std.specs.Prelude.{ℕ, zero, suc, ◌==◌, ◌&&◌, ◌≡◌, ◌++◌, Bool, true, false, not, List, [], ◌∷◌, slice_get, slice_set, Option, Some, None}
use Rattle.std.specs.List.{list_all}
use Rattle.std.specs.Option.{option_and_then, option_map, option_to_list, unwrap_or}
use Rattle.std.proofs.Common.{refl, sym, ap, subst, ◌∙◌, append_assoc, arith}
use Rattle.std.proofs.Math.ListN.{take}
use Rattle.std.proofs.lemmas.Bool.Decides.{nat_tests}
use Rattle.std.proofs.lemmas.Option.{same_Some, none-some, option_and_then_some}
use Rattle.mw_words.specs.declared.replies.Reply.{Reply}
use Rattle.mw_lone.specs.declared.marks.Mark.{Mark}
use Rattle.mw_lone.specs.declared.marks.Mark.TheVariants.{Ask, Admit, Busy, Look, Miss, Seal, SealFail, FileFail, GiveUp, Retire, Reply as HandOut, Restart}
use Rattle.mw_lone.specs.Store.{Store, RequestState, with_reply, due_reply, step, outgoing, run as run_of_store, replies_from}
use Rattle.mw_lone.proofs.SoundStores.{get-insert_other}
use Rattle.mw_law_store.specs.Late.LateMarks.{marks_in, names, IsNumbered, WouldAnswer}
use Rattle.mw_law_store.proofs.Late.RequestsOfMarks.{replies-commute}
use Rattle.mw_law_store.proofs.Late.RequestNumbers.{number-step}
use Rattle.mw_law_store.proofs.Late.LateAnswers.{answers, decided, not-done, IsDone}
use Rattle.mw_law_store.specs.Laws.{LateMarksLeaveReplies}
use Rattle.mw_law_store.proofs.AbstractStateLaws.{not_empty}

-- what a legal mark hands out, followed by what the marks after it do
pub replies_step : (s u : Store) (mark : Mark) (marks : List Mark) → step s mark ≡ Some u → replies_from s (mark ∷ marks) ≡ option_to_list (outgoing s mark) ++ replies_from u marks
replies_step s u mark marks at = ap (λ o. option_to_list (outgoing s mark) ++ unwrap_or (option_map (λ t. replies_from t marks) o) []) at

-- the replies of one list of marks, followed by those of another
pub replies_append : (s u : Store) (first rest : List Mark) → run_of_store s first ≡ Some u → replies_from s (first ++ rest) ≡ replies_from s first ++ replies_from u rest
replies_append s u [] rest e = ap (λ t. replies_from t rest) (same_Some s u e)
replies_append s u (mark ∷ first) rest e =
    option_and_then_some (λ t. run_of_store t first) (step s mark) u e (λ t at on.
    replies_step s t mark (first ++ rest) at
    ∙ ap (λ said. option_to_list (outgoing s mark) ++ said) (replies_append t u first rest on)
    ∙ sym (append_assoc (option_to_list (outgoing s mark)) (replies_from t first) (replies_from u rest))
    ∙ ap (λ said. said ++ replies_from u rest) (sym (replies_step s t mark first at)))

-- a mark that is not about a request hands out the same after that request gets a reply
pub others_hand_out : (s : Store) (n : ℕ) (r : RequestState) (reply : Reply) (mark : Mark) → names mark n ≡ false → outgoing (with_reply s n r reply) mark ≡ outgoing s mark
others_hand_out s n r reply (HandOut k) apart =
    ap (λ o. option_map (λ said. (k, said)) (option_and_then due_reply o)) (get-insert_other s.requests n k (record r { placed = Some reply }) (λ same. let test : (k == n) ≡ true = grind (arith, nat_tests, same) in absurd (cc)))
others_hand_out s n r reply (Ask k job) apart = refl
others_hand_out s n r reply (Admit k) apart = refl
others_hand_out s n r reply (Busy k) apart = refl
others_hand_out s n r reply (Look k) apart = refl
others_hand_out s n r reply (Miss k index) apart = refl
others_hand_out s n r reply (Seal k) apart = refl
others_hand_out s n r reply (SealFail k) apart = refl
others_hand_out s n r reply FileFail apart = refl
others_hand_out s n r reply (GiveUp k) apart = refl
others_hand_out s n r reply (Retire k) apart = refl
others_hand_out s n r reply (Restart interrupted found opened quota) apart = refl

first_unnamed : (named rest : Bool) → not named && rest ≡ true → named ≡ false
first_unnamed true rest h = absurd (cc)
first_unnamed false rest h = refl

rest_unnamed : (named rest : Bool) → not named && rest ≡ true → rest ≡ true
rest_unnamed true rest h = absurd (cc)
rest_unnamed false rest h = h

-- marks that are not about a request hand out the same after that request gets a reply
pub replied_runs : (s t : Store) (n : ℕ) (r : RequestState) (reply : Reply) (marks : List Mark) → list_all (λ later. not (names later n)) marks ≡ true → run_of_store s marks ≡ Some t
    → replies_from (with_reply s n r reply) marks ≡ replies_from s marks
replied_runs s t n r reply [] unnamed e = refl
replied_runs s t n r reply (mark ∷ marks) unnamed e =
    let apart = first_unnamed (names mark n) _ unnamed in
    let rest = rest_unnamed (names mark n) _ unnamed in
    option_and_then_some (λ u. run_of_store u marks) (step s mark) t e (λ u at on.
    replies_step (with_reply s n r reply) (with_reply u n r reply) mark marks (replies-commute s u n r reply mark apart at)
    ∙ ap (λ o. option_to_list o ++ replies_from (with_reply u n r reply) marks) (others_hand_out s n r reply mark apart)
    ∙ ap (λ said. option_to_list (outgoing s mark) ++ said) (replied_runs u t n r reply marks rest on)
    ∙ sym (replies_step s u mark marks at))

-- a mark that comes late hands out nothing
hands_out_nothing : (s : Store) (mark : Mark) (n : ℕ) (reply : Reply) → WouldAnswer s mark n reply → outgoing s mark ≡ None
hands_out_nothing s (Look k) n reply d = refl
hands_out_nothing s (Miss k index) n reply d = refl
hands_out_nothing s (Ask k job) n reply d = absurd d
hands_out_nothing s (Admit k) n reply d = absurd d
hands_out_nothing s (Busy k) n reply d = absurd d
hands_out_nothing s (Seal k) n reply d = absurd d
hands_out_nothing s (SealFail k) n reply d = absurd d
hands_out_nothing s FileFail n reply d = absurd d
hands_out_nothing s (GiveUp k) n reply d = absurd d
hands_out_nothing s (Retire k) n reply d = absurd d
hands_out_nothing s (HandOut k) n reply d = absurd d
hands_out_nothing s (Restart interrupted found opened quota) n reply d = absurd d

-- the late mark comes at the first place
late_first : (start end : Store) (mark : Mark) (n : ℕ) (reply : Reply) (marks : List Mark) → IsNumbered start → WouldAnswer start mark n reply → run_of_store start marks ≡ Some end → (IsDone end n → ⊥)
    → replies_from start (mark ∷ marks) ≡ replies_from start marks
late_first start end mark n reply marks numbered would e never =
    let here = decided start end mark n reply marks numbered would e never in
    let later = answers start end n here.found reply marks here.stands e never in
    replies_step start (with_reply start n here.found reply) mark marks here.does
    ∙ ap (λ o. option_to_list o ++ replies_from (with_reply start n here.found reply) marks) (hands_out_nothing start mark n reply would)
    ∙ replied_runs start end n here.found reply marks later.unnamed e

late_at : (start store end : Store) (lines : List (Option Mark)) (place : ℕ) (mark : Mark) (n : ℕ) (reply : Reply) → IsNumbered start → slice_get lines place ≡ Some None
    → run_of_store start (marks_in (take place lines)) ≡ Some store → WouldAnswer store mark n reply → run_of_store start (marks_in lines) ≡ Some end → (IsDone end n → ⊥)
    → replies_from start (marks_in (slice_set lines place (Some mark))) ≡ replies_from start (marks_in lines)
late_at start store end [] place mark n reply numbered free was would e never = absurd (none-some None free)
late_at start store end (None ∷ lines) zero mark n reply numbered free was would e never =
    late_first start end mark n reply (marks_in lines) numbered (subst (λ s. WouldAnswer s mark n reply) (sym (same_Some start store was)) would) e never
late_at start store end (Some first ∷ lines) zero mark n reply numbered free was would e never = absurd (not_empty first free)
late_at start store end (None ∷ lines) (suc place) mark n reply numbered free was would e never = late_at start store end lines place mark n reply numbered free was would e never
late_at start store end (Some first ∷ lines) (suc place) mark n reply numbered free was would e never =
    option_and_then_some (λ u. run_of_store u (marks_in lines)) (step start first) end e (λ u at on.
    let before : run_of_store u (marks_in (take place lines)) ≡ Some store = sym (ap (option_and_then (λ v. run_of_store v (marks_in (take place lines)))) at) ∙ was in
    replies_step start u first (marks_in (slice_set lines place (Some mark))) at
    ∙ ap (λ said. option_to_list (outgoing start first) ++ said) (late_at u store end lines place mark n reply (number-step start u first at numbered) free before would on never)
    ∙ sym (replies_step start u first (marks_in lines) at))

pub late_marks_leave_replies : LateMarksLeaveReplies
late_marks_leave_replies start end lines place mark n r reply numbered kept e is_open =
    late_at start kept.store end lines place mark n reply numbered kept.is_empty kept.was kept.would_answer e (not-done end n r is_open)
