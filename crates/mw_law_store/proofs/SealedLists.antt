-- A tenant's sealed changes as a list: at which line of its history each was sealed, and how places of the two correspond.
-- Used by: replies_are_linearized, mw_rule, mw_law_threads.
use Rattle.std.specs.Prelude.{ℕ, zero, suc, ◌≡◌, ◌<◌, ◌≤◌, ◌⊎◌, ◌++◌, true, List, [], ◌∷◌, length, slice_get, Option, Some, None}
use Rattle.std.proofs.Common.{refl, sym, ap, ◌∙◌, append_assoc, inl, inr, arith, length-append}
use Rattle.std.proofs.Math.ListN.{take}
use Rattle.std.proofs.lemmas.List.{take-append-le, take_all}
use Rattle.std.proofs.lemmas.Option.{same_Some, none-some}
use Rattle.mw_words.specs.declared.jobs.Job.{Job}
use Rattle.mw_words.specs.declared.replies.Reply.{Reply}
use Rattle.mw_words.specs.declared.replies.Reply.TheVariants.{Val, Yes as SaysYes, No as SaysNo, Busy as SaysBusy, Fault as SaysFault, Worn as SaysWorn}
use Rattle.mw_words.specs.Change.{fits, word_at}
use Rattle.mw_lone.specs.declared.marks.Mark.{Mark}
use Rattle.mw_lone.specs.declared.marks.Mark.TheVariants.{Ask, Admit, Busy, Look, Miss, Seal, SealFail, FileFail, GiveUp, Retire, Reply as HandOut, Restart}
use Rattle.mw_law_store.specs.History.{put_sealed, IsBeginning, HasNoStart}
use Rattle.mw_law_store.specs.AbstractStates.{AbstractState, SealedChange, after_line, abstract_state_of, abstract_state_at, HasPlace}
use Rattle.mw_law_store.specs.ReplyPlaces.{IsRightSince, PlacesStayRight, words_after}
use Rattle.mw_law_store.specs.HistoryMatches.{SealsFitThere}
use Rattle.mw_law_store.proofs.Sealed.{words_are_of_sealed, sealed_come_in_order}

-- Lists.

taken_first : {A : Type 0} (first rest : List A) → take (length first) (first ++ rest) ≡ first
taken_first first rest = take-append-le (length first) first rest (omega arith) ∙ take_all (length first) first (omega arith)

got_next : {A : Type 0} (first rest : List A) (one : A) → slice_get (first ++ one ∷ rest) (length first) ≡ Some one
got_next [] rest one = refl
got_next (x ∷ first) rest one = got_next first rest one

got_in_first : {A : Type 0} (first rest : List A) (place : ℕ) (one : A) → slice_get first place ≡ Some one → slice_get (first ++ rest) place ≡ Some one
got_in_first [] rest place one is = absurd (none-some one is)
got_in_first (x ∷ first) rest zero one is = is
got_in_first (x ∷ first) rest (suc place) one is = got_in_first first rest place one is

got_or_last : {A : Type 0} (xs : List A) (last one : A) (place : ℕ) → slice_get (xs ++ last ∷ []) place ≡ Some one → (slice_get xs place ≡ Some one) ⊎ ((place ≡ length xs) × (last ≡ one))
got_or_last [] last one zero is = inr (refl, same_Some last one is)
got_or_last [] last one (suc place) is = absurd (none-some one is)
got_or_last (x ∷ xs) last one zero is = inl is
got_or_last (x ∷ xs) last one (suc place) is = elim (got_or_last xs last one place is) [
  | inl before ↦ inl before
  | inr there ↦ inr (ap suc there.0, there.1)
]

got_taken : {A : Type 0} (xs : List A) (many place : ℕ) (one : A) → slice_get (take many xs) place ≡ Some one → slice_get xs place ≡ Some one
got_taken [] zero place one is = is
got_taken [] (suc many) place one is = is
got_taken (x ∷ xs) zero place one is = absurd (none-some one is)
got_taken (x ∷ xs) (suc many) zero one is = is
got_taken (x ∷ xs) (suc many) (suc place) one is = got_taken xs many place one is

-- a prefix of a list is as much of it as it is long
begins_taken : (first all : List SealedChange) → IsBeginning first all → take (length first) all ≡ first
begins_taken first all begins = ap (take (length first)) begins.parted ∙ taken_first first begins.rest

begins_shorter : (first all : List SealedChange) → IsBeginning first all → length first ≤ length all
begins_shorter first all begins = let long = ap length begins.parted ∙ length-append first begins.rest in omega (arith, long)

pub places_stay_right : PlacesStayRight
places_stay_right words sealed more place n job (Val value) within right =
    record { address = right.address; reads = right.reads; says = ap (λ (ones : List SealedChange). word_at (put_sealed words ones) right.address) (take-append-le place sealed more within) ∙ right.says }
places_stay_right words sealed more place n job (SaysNo address value) within right = record {
  index = right.index;
  entry = right.entry;
  is_entry = right.is_entry;
  same_address = right.same_address;
  says = ap (λ (ones : List SealedChange). word_at (put_sealed words ones) address) (take-append-le place sealed more within) ∙ right.says;
  differs = right.differs;
}
places_stay_right words sealed more place n job SaysYes within right = got_in_first sealed more place _ right
places_stay_right words sealed more place n job SaysBusy within right = tt
places_stay_right words sealed more place n job SaysFault within right = tt
places_stay_right words sealed more place n job SaysWorn within right = tt

-- Lines since a start at which nothing was sealed.

no_start_taken : (lines : List (Option Mark)) (many : ℕ) → HasNoStart lines → HasNoStart (take many lines)
no_start_taken lines many none place interrupted found opened quota at = none place interrupted found opened quota (got_taken lines many place _ at)

module _ (start : AbstractState) (lines : List (Option Mark)) (fresh : start.sealed ≡ []) (none : HasNoStart lines) where
  -- how many are sealed before a place, and the words there
  pub at_place : (place : ℕ) → take (length (abstract_state_at start lines place).sealed) (abstract_state_of start lines).sealed ≡ (abstract_state_at start lines place).sealed
  at_place place = begins_taken (abstract_state_at start lines place).sealed (abstract_state_of start lines).sealed ((sealed_come_in_order start lines none).0 place)

  pub not_past : (place : ℕ) → length (abstract_state_at start lines place).sealed ≤ length (abstract_state_of start lines).sealed
  not_past place = begins_shorter (abstract_state_at start lines place).sealed (abstract_state_of start lines).sealed ((sealed_come_in_order start lines none).0 place)

  words_of : (some : List (Option Mark)) → HasNoStart some → (abstract_state_of start some).words ≡ put_sealed start.words (abstract_state_of start some).sealed
  words_of some without =
      let grown = words_are_of_sealed start some without in
      grown.2 ∙ ap (put_sealed start.words) (sym (grown.1 ∙ ap (λ (ones : List SealedChange). ones ++ grown.0) fresh))

  pub words_then : (place : ℕ) → (abstract_state_at start lines place).words ≡ words_after start.words (abstract_state_of start lines).sealed (length (abstract_state_at start lines place).sealed)
  words_then place = words_of (take place lines) (no_start_taken lines place none) ∙ ap (put_sealed start.words) (sym (at_place place))

  pub words_at_end : put_sealed start.words (abstract_state_of start lines).sealed ≡ (abstract_state_of start lines).words
  words_at_end = sym (words_of lines none)

  -- a sealed change at its seal's place
  pub seal_at : (place n : ℕ) → slice_get lines place ≡ Some (Some (Seal n))
      → slice_get (abstract_state_of start lines).sealed (length (abstract_state_at start lines place).sealed) ≡ Some (record { request = n; entries = (abstract_state_at start lines place).entries n })
  seal_at place n at =
      let begins = (sealed_come_in_order start lines none).1 place n at in
      let one : SealedChange = record { request = n; entries = (abstract_state_at start lines place).entries n } in
      let before = (abstract_state_at start lines place).sealed in
      ap (λ (all : List SealedChange). slice_get all (length before)) (begins.parted ∙ append_assoc before (one ∷ []) begins.rest) ∙ got_next before begins.rest one

-- no more are sealed before an earlier place
pub fewer_before : (start : AbstractState) (lines : List (Option Mark)) → HasNoStart lines → (place later : ℕ) → place ≤ later
    → length (abstract_state_at start lines place).sealed ≤ length (abstract_state_at start lines later).sealed
fewer_before start lines none zero later low =
    let grown = words_are_of_sealed start (take later lines) (no_start_taken lines later none) in
    let long = ap length grown.1 ∙ length-append start.sealed grown.0 in
    let same = none_taken start lines in
    omega (arith, long, same)
  where
    none_taken : (start : AbstractState) (lines : List (Option Mark)) → length (abstract_state_at start lines zero).sealed ≡ length start.sealed
    none_taken start [] = refl
    none_taken start (line ∷ lines) = refl
fewer_before start lines none (suc place) zero low = absurd (omega (arith, low))
fewer_before start [] none (suc place) (suc later) low = omega arith
fewer_before start (line ∷ lines) none (suc place) (suc later) low =
    fewer_before (after_line start line) lines (λ other interrupted found opened quota at. none (suc other) interrupted found opened quota at) place later (omega (arith, low))

-- A change that was sealed after the first abstract state was sealed at this line.
pub record StandsAt (start : AbstractState) (lines : List (Option Mark)) (place : ℕ) (one : SealedChange) : Type 0 where
  pub line : ℕ
  pub is : slice_get lines line ≡ Some (Some (Seal one.request))
  pub entries : (abstract_state_at start lines line).entries one.request ≡ one.entries
  pub before : length (abstract_state_at start lines line).sealed ≡ place

by_line : (now : AbstractState) (line : Option Mark) (place : ℕ) (one : SealedChange) → HasNoStart (line ∷ []) → slice_get (after_line now line).sealed place ≡ Some one
    → (slice_get now.sealed place ≡ Some one) ⊎ ((line ≡ Some (Seal one.request)) × (now.entries one.request ≡ one.entries) × (length now.sealed ≡ place))
by_line now None place one none at = inl at
by_line now (Some (Ask k job)) place one none at = inl at
by_line now (Some (Admit k)) place one none at = inl at
by_line now (Some (Busy k)) place one none at = inl at
by_line now (Some (Look k)) place one none at = inl at
by_line now (Some (Miss k index)) place one none at = inl at
by_line now (Some (Seal k)) place one none at = elim (got_or_last now.sealed (record { request = k; entries = now.entries k }) one place at) [
  | inl before ↦ inl before
  | inr last ↦ inr (
    ap (λ (that : SealedChange). Some (Seal that.request)) last.1,
    ap now.entries (sym (ap (λ (that : SealedChange). that.request) last.1)) ∙ ap (λ (that : SealedChange). that.entries) last.1,
    sym last.0,
  )
]
by_line now (Some (SealFail k)) place one none at = inl at
by_line now (Some FileFail) place one none at = inl at
by_line now (Some (GiveUp k)) place one none at = inl at
by_line now (Some (Retire k)) place one none at = inl at
by_line now (Some (HandOut k)) place one none at = inl at
by_line now (Some (Restart interrupted found opened quota)) place one none at = absurd (none zero interrupted found opened quota refl)

stands_since : (start : AbstractState) (lines : List (Option Mark)) (place : ℕ) (one : SealedChange) → HasNoStart lines → slice_get (abstract_state_of start lines).sealed place ≡ Some one
    → (slice_get start.sealed place ≡ Some one) ⊎ StandsAt start lines place one
stands_since start [] place one none at = inl at
stands_since start (line ∷ lines) place one none at =
    elim (stands_since (after_line start line) lines place one (λ other interrupted found opened quota is. none (suc other) interrupted found opened quota is) at) [
      | inl before ↦ elim (by_line start line place one first before) [
        | inl earlier ↦ inl earlier
        | inr here ↦ inr (record { line = 0; is = ap Some here.0; entries = here.1; before = here.2 })
      ]
      | inr later ↦ inr (record { line = suc later.line; is = later.is; entries = later.entries; before = later.before })
    ]
  where
    first : HasNoStart (line ∷ [])
    first zero interrupted found opened quota is = none zero interrupted found opened quota is
    first (suc other) interrupted found opened quota is = absurd (none-some _ is)

pub stands_at : (start : AbstractState) (lines : List (Option Mark)) (place : ℕ) (one : SealedChange) → start.sealed ≡ [] → HasNoStart lines → slice_get (abstract_state_of start lines).sealed place ≡ Some one
    → StandsAt start lines place one
stands_at start lines place one fresh none at = elim (stands_since start lines place one none at) [
  | inl before ↦ absurd (none-some one (ap (λ (ones : List SealedChange). slice_get ones place) (sym fresh) ∙ before))
  | inr there ↦ there
]

-- Each sealed change fits the words before it, if each seal fits the words at its line.
pub all_fit : (start : AbstractState) (lines : List (Option Mark)) → start.sealed ≡ [] → HasNoStart lines → SealsFitThere start lines → (place : ℕ) (one : SealedChange)
    → slice_get (abstract_state_of start lines).sealed place ≡ Some one → fits (words_after start.words (abstract_state_of start lines).sealed place) one.entries ≡ true
all_fit start lines fresh none fit place one at =
    let there = stands_at start lines place one fresh none at in
    let sealed = (abstract_state_of start lines).sealed in
    ap (λ (many : ℕ). fits (words_after start.words sealed many) one.entries) (sym there.before)
    ∙ ap (λ (words : List ℕ). fits words one.entries) (sym (words_then start lines fresh none there.line))
    ∙ ap (fits (abstract_state_at start lines there.line).words) (sym there.entries)
    ∙ fit there.line one.request there.is

-- A reply that has its place among the lines is right after as many changes as are sealed before it. These are at least as many
-- as before the line with which its request came.
module _ (start : AbstractState) (lines : List (Option Mark)) (n : ℕ) (job : Job) (fresh : start.sealed ≡ []) (none : HasNoStart lines) (ask : ℕ)
    (came_once : (other : ℕ) (another : Job) → slice_get lines other ≡ Some (Some (Ask n another)) → other ≡ ask) where
  abbrev begun : ℕ
  begun = length (abstract_state_at start lines ask).sealed

  no_smaller : (place other : ℕ) → other ≡ ask → other < place → begun ≤ length (abstract_state_at start lines place).sealed
  no_smaller place other same before = fewer_before start lines none ask place (omega (arith, same, before))

  pub right_since : (reply : Reply) → HasPlace start lines n job reply → IsRightSince begun start.words (abstract_state_of start lines).sealed n job reply
  right_since (Val value) at = record {
    place = length (abstract_state_at start lines at.place).sealed;
    no_smaller = no_smaller at.place at.could.asked.ask (came_once at.could.asked.ask at.could.asked.job at.could.asked.is_asked) at.could.asked.before;
    within = not_past start lines fresh none at.place;
    right = record { address = at.could.address; reads = at.could.reads; says = ap (λ (words : List ℕ). word_at words at.could.address) (sym (words_then start lines fresh none at.place)) ∙ at.could.says };
  }
  right_since (SaysNo address value) at = record {
    place = length (abstract_state_at start lines at.place).sealed;
    no_smaller = no_smaller at.place at.could.asked.ask (came_once at.could.asked.ask at.could.asked.job at.could.asked.is_asked) at.could.asked.before;
    within = not_past start lines fresh none at.place;
    right = record {
      index = at.index;
      entry = at.could.entry;
      is_entry = at.could.is_entry;
      same_address = at.could.same_address;
      says = ap (λ (words : List ℕ). word_at words address) (sym (words_then start lines fresh none at.place)) ∙ at.could.says;
      differs = at.could.differs;
    };
  }
  right_since SaysYes at = record {
    place = length (abstract_state_at start lines at.place).sealed;
    no_smaller = no_smaller at.place at.asked.ask (came_once at.asked.ask at.asked.job at.asked.is_asked) at.asked.before;
    within = not_past start lines fresh none at.place;
    right = seal_at start lines fresh none at.place n at.is ∙ ap (λ entries. Some (record { request = n; entries = entries })) at.its_entries;
  }
  right_since SaysBusy at = record { place = begun; no_smaller = omega arith; within = not_past start lines fresh none ask; right = tt }
  right_since SaysFault at = record { place = begun; no_smaller = omega arith; within = not_past start lines fresh none ask; right = tt }
  right_since SaysWorn at = record { place = begun; no_smaller = omega arith; within = not_past start lines fresh none ask; right = tt }
