-- The changes sealed before a place of a tenant's history are a prefix of those sealed later, and give the words there.
-- Used by: sealed_come_in_order, mw_law_threads.
use Rattle.std.specs.Prelude.{ℕ, zero, suc, ◌≡◌, List, [], ◌∷◌, ◌++◌, slice_get, Option, Some, None}
use Rattle.std.proofs.Common.{refl, sym, ap, ◌∙◌, append_assoc, append-nil}
use Rattle.std.proofs.lemmas.Option.{same_Some, none-some}
use Rattle.mw_lone.specs.declared.marks.Mark.{Mark}
use Rattle.mw_lone.specs.declared.marks.Mark.TheVariants.{Ask, Admit, Busy, Look, Miss, Seal, SealFail, FileFail, GiveUp, Retire, Reply as HandOut, Restart}
use Rattle.mw_law_store.specs.History.{put_sealed, IsBeginning, HasNoStart, WordsAreOfSealed, SealedComeInOrder}
use Rattle.mw_law_store.specs.AbstractStates.{AbstractState, SealedChange, after_mark, after_line, abstract_state_of, abstract_state_at}

-- The changes that are sealed from one abstract state to a later one, put over its words, give the later one's words.
record Grows (now then : AbstractState) : Type 0 where
  since : List SealedChange
  sealed : then.sealed ≡ now.sealed ++ since
  words : then.words ≡ put_sealed now.words since

stays : (now then : AbstractState) → then.sealed ≡ now.sealed → then.words ≡ now.words → Grows now then
stays now then sealed words = record { since = []; sealed = sealed ∙ sym (append-nil now.sealed); words = words }

put_sealed_more : (words : List ℕ) (first rest : List SealedChange) → put_sealed words (first ++ rest) ≡ put_sealed (put_sealed words first) rest
put_sealed_more words [] rest = refl
put_sealed_more words (one ∷ first) rest = put_sealed_more _ first rest

grows_on : (now then end : AbstractState) → Grows now then → Grows then end → Grows now end
grows_on now then end one two = record {
  since = one.since ++ two.since;
  sealed = two.sealed ∙ ap (λ (ones : List SealedChange). ones ++ two.since) one.sealed ∙ append_assoc now.sealed one.since two.since;
  words = two.words ∙ ap (λ words. put_sealed words two.since) one.words ∙ sym (put_sealed_more now.words one.since two.since);
}

no_start_here : (line : Option Mark) (lines : List (Option Mark)) → HasNoStart (line ∷ lines) → HasNoStart (line ∷ [])
no_start_here line lines none zero interrupted found opened quota at = none zero interrupted found opened quota at
no_start_here line lines none (suc place) interrupted found opened quota at = absurd (none-some _ at)

no_start_later : (line : Option Mark) (lines : List (Option Mark)) → HasNoStart (line ∷ lines) → HasNoStart lines
no_start_later line lines none place interrupted found opened quota at = none (suc place) interrupted found opened quota at

line_grows : (now : AbstractState) (line : Option Mark) → HasNoStart (line ∷ []) → Grows now (after_line now line)
line_grows now None none = stays now now refl refl
line_grows now (Some (Ask k job)) none = stays now (after_mark now (Ask k job)) refl refl
line_grows now (Some (Admit k)) none = stays now now refl refl
line_grows now (Some (Busy k)) none = stays now now refl refl
line_grows now (Some (Look k)) none = stays now now refl refl
line_grows now (Some (Miss k index)) none = stays now now refl refl
line_grows now (Some (Seal k)) none = record { since = record { request = k; entries = now.entries k } ∷ []; sealed = refl; words = refl }
line_grows now (Some (SealFail k)) none = stays now (after_mark now (SealFail k)) refl refl
line_grows now (Some FileFail) none = stays now now refl refl
line_grows now (Some (GiveUp k)) none = stays now now refl refl
line_grows now (Some (Retire k)) none = stays now now refl refl
line_grows now (Some (HandOut k)) none = stays now now refl refl
line_grows now (Some (Restart interrupted found opened quota)) none = absurd (none zero interrupted found opened quota refl)

lines_grow : (now : AbstractState) (lines : List (Option Mark)) → HasNoStart lines → Grows now (abstract_state_of now lines)
lines_grow now [] none = stays now now refl refl
lines_grow now (line ∷ lines) none =
    grows_on now (after_line now line) (abstract_state_of (after_line now line) lines) (line_grows now line (no_start_here line lines none)) (lines_grow (after_line now line) lines (no_start_later line lines none))

pub words_are_of_sealed : WordsAreOfSealed
words_are_of_sealed start lines none = let grown = lines_grow start lines none in (grown.since, grown.sealed, grown.words)

begins : (start : AbstractState) (lines : List (Option Mark)) → HasNoStart lines → (place : ℕ) → IsBeginning (abstract_state_at start lines place).sealed (abstract_state_of start lines).sealed
begins start [] none zero = record { rest = []; parted = sym (append-nil start.sealed) }
begins start [] none (suc place) = record { rest = []; parted = sym (append-nil start.sealed) }
begins start (line ∷ lines) none zero = let grown = lines_grow start (line ∷ lines) none in record { rest = grown.since; parted = grown.sealed }
begins start (line ∷ lines) none (suc place) = begins (after_line start line) lines (no_start_later line lines none) place

seal_begins : (start : AbstractState) (lines : List (Option Mark)) → HasNoStart lines → (place n : ℕ) → slice_get lines place ≡ Some (Some (Seal n))
    → IsBeginning ((abstract_state_at start lines place).sealed ++ record { request = n; entries = (abstract_state_at start lines place).entries n } ∷ []) (abstract_state_of start lines).sealed
seal_begins start [] none place n at = absurd (none-some (Some (Seal n)) at)
seal_begins start (line ∷ lines) none zero n at =
    let is : line ≡ Some (Seal n) = same_Some line (Some (Seal n)) at in
    let grown = lines_grow (after_line start line) lines (no_start_later line lines none) in
    record { rest = grown.since; parted = grown.sealed ∙ ap (λ (here : Option Mark). (after_line start here).sealed ++ grown.since) is }
seal_begins start (line ∷ lines) none (suc place) n at = seal_begins (after_line start line) lines (no_start_later line lines none) place n at

pub sealed_come_in_order : SealedComeInOrder
sealed_come_in_order start lines none = (begins start lines none, seal_begins start lines none)
