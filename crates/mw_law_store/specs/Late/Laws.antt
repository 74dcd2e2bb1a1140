-- The statements that this crate proves of marks: what each does to a store alone, and that a mark may be put in late.
-- Used by: src/late_laws.rt.
use Rattle.std.specs.Prelude.{ℕ, ◌≡◌, ◌≢◌, ◌++◌, true, false, not, List, length, Option, Some, None, slice_set}
use Rattle.std.specs.List.{list_all}
use Rattle.std.proofs.Math.ListN.{drop}
use Rattle.std.specs.Option.{option_and_then}
use Rattle.mw_words.specs.declared.replies.Reply.{Reply}
use Rattle.mw_lone.specs.declared.marks.Mark.{Mark}
use Rattle.mw_lone.specs.Store.{Store, RequestState, new_store, request, with_reply, step, run}
use Rattle.mw_law_store.specs.Late.MarkEffects.{Does}
use Rattle.mw_law_store.specs.Late.LateMarks.{marks_in, more, step_line, run_lines, names, IsNumbered, IsOpen, WouldAnswer, IsReservedFor}

-- a legal mark meets the conditions that `Does` lists for it, and leaves the store that `Does` lists
abbrev pub MarksDo : Type 0
MarksDo = (s t : Store) (mark : Mark) → step s mark ≡ Some t → Does s mark t

-- a mark that meets these conditions is legal, and leaves that store
abbrev pub DoingIsMarked : Type 0
DoingIsMarked = (s t : Store) (mark : Mark) → Does s mark t → step s mark ≡ Some t

-- running lines is running their marks
abbrev pub LinesAreRun : Type 0
LinesAreRun = (s : Store) (lines : List (Option Mark)) → run_lines s lines ≡ run s (marks_in lines)

-- the store after lines and one more is the store after that line, run from the store after the lines
abbrev pub LinesExtend : Type 0
LinesExtend = (s : Store) (lines : List (Option Mark)) (line : Option Mark)
    → run s (marks_in (more lines line)) ≡ option_and_then (λ t. step_line t line) (run s (marks_in lines))

-- an empty line at the end adds no mark
abbrev pub EmptyPlaceAddsNothing : Type 0
EmptyPlaceAddsNothing = (lines : List (Option Mark)) → marks_in (more lines None) ≡ marks_in lines

-- a legal mark that isn't about a request commutes with a reply to it: the mark stays legal after the reply, and either order leaves the same store
abbrev pub RepliesCommute : Type 0
RepliesCommute = (s t : Store) (n : ℕ) (r : RequestState) (reply : Reply) (mark : Mark) → names mark n ≡ false → step s mark ≡ Some t
    → step (with_reply s n r reply) mark ≡ Some (with_reply t n r reply)

-- such a mark leaves the request as it was
abbrev pub OthersAreLeft : Type 0
OthersAreLeft = (s t : Store) (n : ℕ) (mark : Mark) → names mark n ≡ false → step s mark ≡ Some t → request t n ≡ request s n

-- after every legal run from a new store each request has a number below the next one
abbrev pub RunsNumber : Type 0
RunsNumber = (words : List ℕ) (quota : ℕ) (marks : List Mark) (t : Store) → run (new_store words quota) marks ≡ Some t → IsNumbered t

-- A mark put in late. The lines are a legal run from a store whose requests have numbers below the next one. A place is reserved for the mark, which
-- would have given the request this reply if it had none then. At the end the request has no reply. Then the lines with the mark at the place are a
-- legal run, and leave the same store, except that the request has the reply.
abbrev pub LateMark : Type 0
LateMark = (start end : Store) (lines : List (Option Mark)) (place : ℕ) (mark : Mark) (n : ℕ) (r : RequestState) (reply : Reply) → IsNumbered start
    → IsReservedFor start lines place mark n reply → run start (marks_in lines) ≡ Some end → IsOpen end n r
    → run start (marks_in (slice_set lines place (Some mark))) ≡ Some (with_reply end n r reply)

-- the same of a new store that went through all marks before these lines
abbrev pub LateMarkOfAll : Type 0
LateMarkOfAll = (words : List ℕ) (quota : ℕ) (closed : List Mark) (start end : Store) (lines : List (Option Mark)) (place : ℕ) (mark : Mark) (n : ℕ) (r : RequestState) (reply : Reply)
    → run (new_store words quota) closed ≡ Some start → IsReservedFor start lines place mark n reply → run (new_store words quota) (closed ++ marks_in lines) ≡ Some end
    → IsOpen end n r → run (new_store words quota) (closed ++ marks_in (slice_set lines place (Some mark))) ≡ Some (with_reply end n r reply)

-- while the request has no reply, it is as it was at the place, and no mark after the place is about it
abbrev pub NothingBetween : Type 0
NothingBetween = (start end : Store) (lines : List (Option Mark)) (place : ℕ) (mark : Mark) (n : ℕ) (r : RequestState) (reply : Reply) (kept : IsReservedFor start lines place mark n reply)
    → IsNumbered start → run start (marks_in lines) ≡ Some end → IsOpen end n r
    → (request kept.store n ≡ Some r) × (list_all (λ later. not (names later n)) (marks_in (drop place lines)) ≡ true)

-- an empty place at the end of lines is reserved for each mark that would decide a reply there
abbrev pub PlaceIsReserved : Type 0
PlaceIsReserved = (start end : Store) (lines : List (Option Mark)) (mark : Mark) (n : ℕ) (reply : Reply) → run start (marks_in lines) ≡ Some end
    → WouldAnswer end mark n reply → IsReservedFor start (more lines None) (length lines) mark n reply

-- a reserved place stays reserved when any line is added at the end
abbrev pub ReservedBesideALine : Type 0
ReservedBesideALine = (start : Store) (lines : List (Option Mark)) (line : Option Mark) (place : ℕ) (mark : Mark) (n : ℕ) (reply : Reply)
    → IsReservedFor start lines place mark n reply → IsReservedFor start (more lines line) place mark n reply

-- a reserved place stays reserved when a late mark is put in at another one, for any request that has no reply at the end
abbrev pub ReservedBesideALateMark : Type 0
ReservedBesideALateMark = (start end : Store) (lines : List (Option Mark)) (place other : ℕ) (mark late : Mark) (n m : ℕ) (reply said : Reply) (r : RequestState)
    → IsNumbered start → place ≢ other → IsReservedFor start lines place mark n reply → IsReservedFor start lines other late m said → run start (marks_in lines) ≡ Some end
    → IsOpen end m r → IsReservedFor start (slice_set lines other (Some late)) place mark n reply
