-- However a client's bytes are cut into pieces, a feed gives the same lines: those given and those left are the lines of all
-- bytes.
-- Used by: however_cut, call_by_call.
use Rattle.std.specs.Prelude.{ℕ, ◌≡◌, ◌<◌, ◌≤◌, ◌++◌, List, [], ◌∷◌, length, take, Option, Some, None, slice_get}
use Rattle.std.specs.Option.{option_to_list}
use Rattle.std.proofs.Common.{refl, sym, ap, ◌∙◌, inl, inr, arith, append_assoc, append-nil}
use Rattle.std.proofs.lemmas.Bool.{cases_lt}
use Rattle.std.proofs.lemmas.List.{length-take-le}
use Rattle.std.proofs.lemmas.List.Sums.{prefix_len-le-length}
use Rattle.mw_words.specs.declared.limits.TheConstants.{MAX_LINE}
use Rattle.mw_frame.specs.declared.lines.Line.{Line}
use Rattle.mw_frame.specs.declared.lines.Line.TheVariants.{TooLong}
use Rattle.mw_frame.specs.Lines.{is_text_byte, lines, text_line}
use Rattle.mw_frame.specs.FeedBytes.{text_len}
use Rattle.mw_frame.specs.Stream.{Stream, Open, Ended, behind, fed, lines_of}
use Rattle.mw_frame.proofs.CutTexts.{first_is_text, first_is_too_long, is_part, part_waits}
use Rattle.mw_frame.specs.Given.{HasGiven, Call, Fed, Gave, Leads, bytes_fed, lines_given, HoweverCut, SameLines, GivenAtFirst, GivenThenFed, GivenThenMore, NoneLeft}

-- ---- one answer

-- this is the first line of the bytes, if they have one, and what goes on after it
pub record Answers (bytes : List ℕ) (answer : Option Line) : Type 0 where
  pub first : slice_get (lines bytes) 0 ≡ answer
  pub goes_on : (more : List ℕ) → lines (bytes ++ more) ≡ option_to_list answer ++ lines_of (fed (behind answer (Open bytes)) more)

with_nothing : (bytes : List ℕ) → lines bytes ≡ lines (bytes ++ [])
with_nothing bytes = ap lines (sym (append-nil bytes))

pub answers_text : (bytes : List ℕ) → text_len bytes < length bytes → text_len bytes ≤ MAX_LINE → Answers bytes (Some (text_line (take (text_len bytes) bytes)))
answers_text bytes h fits =
    let len : length (take (text_len bytes) bytes) ≡ text_len bytes = length-take-le (text_len bytes) bytes (omega arith) in
    record {
      first = ap (λ ls. slice_get ls 0) (with_nothing bytes ∙ first_is_text bytes [] h fits);
      goes_on = λ more. rw len (first_is_text bytes more h fits);
    }

pub answers_too_long : (bytes : List ℕ) → MAX_LINE < text_len bytes → Answers bytes (Some TooLong)
answers_too_long bytes h = record {
  first = ap (λ ls. slice_get ls 0) (with_nothing bytes ∙ first_is_too_long bytes [] h);
  goes_on = λ more. first_is_too_long bytes more h;
}

pub answers_none : (bytes : List ℕ) → text_len bytes ≡ length bytes → text_len bytes ≤ MAX_LINE → Answers bytes None
answers_none bytes h fits = record {
  first = ap (λ ls. slice_get ls 0) (part_waits bytes (is_part bytes h fits));
  goes_on = λ more. refl;
}

some_answer : (bytes : List ℕ) → (answer : Option Line) × Answers bytes answer
unfolding text_len
some_answer bytes =
    let most = prefix_len-le-length is_text_byte bytes in
    elim (cases_lt MAX_LINE (text_len bytes)) [
      | inl h ↦ (Some TooLong, answers_too_long bytes h)
      | inr fits ↦ elim (cases_lt (text_len bytes) (length bytes)) [
        | inl h ↦ (Some (text_line (take (text_len bytes) bytes)), answers_text bytes h fits)
        | inr h ↦ (None, answers_none bytes (omega arith) fits)
      ]
    ]

-- Whatever comes later, the lines of a stream are its first one, if it has one, and those of the stream after it.
pub first_and_behind : (stream : Stream) (answer : Option Line) (more : List ℕ) → answer ≡ slice_get (lines_of stream) 0 → lines_of (fed stream more) ≡ option_to_list answer ++ lines_of (fed (behind answer stream) more)
first_and_behind Ended answer more is = rw is refl
first_and_behind (Open bytes) answer more is =
    let some = some_answer bytes in
    rw (is, some.1.first) (some.1.goes_on more)

-- ---- calls

fed-fed : (stream : Stream) (piece more : List ℕ) → fed (fed stream piece) more ≡ fed stream (piece ++ more)
fed-fed (Open bytes) piece more = ap Open (append_assoc bytes piece more)
fed-fed Ended piece more = refl

fed-nil : (stream : Stream) → fed stream [] ≡ stream
fed-nil (Open bytes) = ap Open (append-nil bytes)
fed-nil Ended = refl

pub given-at-first : GivenAtFirst
given-at-first = record { whole = λ more. refl }

pub given-then-fed : GivenThenFed
given-then-fed all given left piece has = record {
  whole = λ more. ap lines (append_assoc all piece more) ∙ has.whole (piece ++ more) ∙ ap (λ s. given ++ lines_of s) (sym (fed-fed left piece more));
}

pub given-then-more : GivenThenMore
given-then-more all given left answer has is = record {
  whole = λ more. has.whole more ∙ ap (λ ls. given ++ ls) (first_and_behind left answer more is) ∙ sym (append_assoc given (option_to_list answer) _);
}

leads_on : (all : List ℕ) (given : List Line) (old new : Stream) (calls : List Call) → HasGiven all given old → Leads old calls new → HasGiven (all ++ bytes_fed calls) (given ++ lines_given calls) new
leads_on all given old new [] has leads = rw (leads, append-nil all, append-nil given) has
leads_on all given old new (Fed piece ∷ calls) has leads =
    rw (← append_assoc all piece (bytes_fed calls)) (leads_on (all ++ piece) given (fed old piece) new calls (given-then-fed all given old piece has) leads)
leads_on all given old new (Gave answer ∷ calls) has leads =
    rw (← append_assoc given (option_to_list answer) (lines_given calls)) (leads_on all (given ++ option_to_list answer) (behind answer old) new calls (given-then-more all given old answer has leads.0) leads.1)

pub however-cut : HoweverCut
however-cut calls left leads = leads_on [] [] (Open []) left calls given-at-first leads

pub none-left : NoneLeft
none-left all given left has none =
    with_nothing all ∙ has.whole [] ∙ ap (λ s. given ++ lines_of s) (fed-nil left) ∙ ap (λ ls. given ++ ls) none ∙ append-nil given

pub same-lines : SameLines
same-lines calls others left rest leads leads' same none none' =
    sym (none-left (bytes_fed calls) (lines_given calls) left (however-cut calls left leads) none)
    ∙ ap lines same
    ∙ none-left (bytes_fed others) (lines_given others) rest (however-cut others rest leads') none'
