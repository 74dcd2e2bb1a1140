-- Says of each case in which a call of the plain store may end: its marks (events) are legal for the store alone, they hand out
-- the call's reply, and they lead to the case's store.
-- Used by: laws.rt. A change here changes the law marks_of_a_call.
use Rattle.std.specs.Prelude.{ℕ, ◌≡◌, ◌≢◌, Bool, if◌then◌else◌, List, [], ◌∷◌, ◌++◌, length, Option, Some, IsTrue}
use Rattle.std.specs.Option.{option_and_then, option_map, option_to_list}
use Rattle.mw_words.specs.declared.jobs.Job.{Job}
use Rattle.mw_words.specs.declared.replies.Reply.{Reply}
use Rattle.mw_words.specs.Change.{is_well_formed, put}
use Rattle.mw_lone.specs.declared.marks.Mark.{Mark}
use Rattle.mw_lone.specs.Store.{Store, RequestState, step, run, replies_from, request, store_after_start, is_quota, entries_of}
use Rattle.mw_lone.specs.declared.marks.Mark.TheVariants.{Restart}
use Rattle.mw_plain.specs.Cases.{StartCase, FinishCase, AskCase, StartFits, FinishFits, AskFits, CanChange, start_marks, finish_marks, ask_marks, start_reply, finish_reply, ask_reply, after_start, after_finish, after_ask, request_after_start, under_way, ended, gives_back, Served, ServedFits, AllFit, after_served, after_all, marks_of_all, replies_to_all}

-- These marks are legal in this order. They hand out these replies, each with its request's number, and leave store
-- `t`.
pub record Goes (s : Store) (marks : List Mark) (replies : List (ℕ × Reply)) (t : Store) : Type 0 where
  pub ran : run s marks ≡ Some t
  pub said : replies_from s marks ≡ replies

-- the reply to request n, if there is one
abbrev pub reply_to : ℕ → Option Reply → List (ℕ × Reply)
reply_to n reply = option_to_list (option_map (λ r. (n, r)) reply)

-- of all requests only request n changed, and it is now `r`
pub record Alone (s t : Store) (n : ℕ) (r : RequestState) : Type 0 where
  pub own : request t n ≡ Some r
  pub others : (m : ℕ) → m ≢ n → request t m ≡ request s m

-- A start of a well-formed job takes the store's next number.
pub record Started (s : Store) (job : Job) (case : StartCase) : Type 0 where
  pub goes : Goes s (start_marks s.next job case) (reply_to s.next (start_reply s.words job case)) (after_start s job case)
  pub requests : Alone s (after_start s job case) s.next (request_after_start s.words job case)

-- every start of a well-formed job whose case fits does this
abbrev pub StartGoes : Type 0
StartGoes = (s : Store) (job : Job) (case : StartCase) → IsTrue (is_well_formed (length s.words) job) → StartFits s job case → Started s job case

-- A finish ends a change under way.
pub record Finished (s : Store) (n : ℕ) (job : Job) (case : FinishCase) : Type 0 where
  pub goes : Goes s (finish_marks n case) (reply_to n (finish_reply s.words job case)) (after_finish s n job case)
  pub requests : Alone s (after_finish s n job case) n (ended job (finish_reply s.words job case) (gives_back case))

-- every finish of a change under way whose case fits does this
abbrev pub FinishGoes : Type 0
FinishGoes = (s : Store) (n : ℕ) (job : Job) (case : FinishCase) → request s n ≡ Some (under_way job) → FinishFits s job case → Finished s n job case

-- A job is started, and finished if the start prepared it.
pub record Answered (s : Store) (job : Job) (case : AskCase) : Type 0 where
  pub goes : Goes s (ask_marks s.next job case) (reply_to s.next (ask_reply s.words job case)) (after_ask s job case)
  pub others : (m : ℕ) → m ≢ s.next → request (after_ask s job case) m ≡ request s m

-- every ask of a well-formed job whose case fits does this
abbrev pub AskGoes : Type 0
AskGoes = (s : Store) (job : Job) (case : AskCase) → IsTrue (is_well_formed (length s.words) job) → AskFits s job case → Answered s job case

-- Jobs are asked one after another: the marks of all are legal, and each job has its one reply, in order.
abbrev pub AllGo : Type 0
AllGo = (s : Store) (all : List Served) → AllFit s all → Goes s (marks_of_all s.next all) (replies_to_all s.next all) (after_all s all)

-- one more job that fits the store after all before it makes a fitting list with them
abbrev pub OneMoreFits : Type 0
OneMoreFits = (s : Store) (all : List Served) (last : Served) → AllFit s all → ServedFits (after_all s all) last → AllFit s (all ++ last ∷ []) × (after_all s (all ++ last ∷ []) ≡ after_served (after_all s all) last)

-- All may stop while a change is sealed. The start after it is legal, with every quota that a tenant may have, whether
-- it finds all of the change or nothing.
abbrev pub MayStop : Type 0
MayStop = (s : Store) (n : ℕ) (job : Job) (take opened : Bool) (quota : ℕ) → request s n ≡ Some (under_way job) → CanChange s job → IsTrue (is_quota quota)
    → step s (Restart (Some n) take opened quota) ≡ Some (store_after_start s (if take then put s.words (entries_of job) else s.words) opened quota)

-- two lists of marks, one after the other, do what the joined list does
abbrev pub RunsJoin : Type 0
RunsJoin = (s : Store) (first second : List Mark) → run s (first ++ second) ≡ option_and_then (λ t. run t second) (run s first)

-- and they hand out the same replies
abbrev pub RepliesJoin : Type 0
RepliesJoin = (s t : Store) (first second : List Mark) → run s first ≡ Some t → replies_from s (first ++ second) ≡ replies_from s first ++ replies_from t second
