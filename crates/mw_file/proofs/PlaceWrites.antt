-- A whole or torn write of a record or a commit byte leaves the words before it, or these with that record's change.
-- Used by: Safety.
use Rattle.std.proofs.Common.{◌≡◌, ◌⊎◌, ℕ, ◌+◌, ◌<◌, ◌≤◌, List, length, Some, None, Option, true, false, slice_index, refl, sym, ap, ◌∙◌, inl, inr, arith}
use Rattle.std.proofs.lemmas.Bool.{cases_eq, cases_lt, both_ways}
use Rattle.mw_words.specs.declared.limits.TheConstants.{MAX_ENTRIES, MAX_WORDS}
use Rattle.mw_words.specs.declared.jobs.Entry.{Entry}
use Rattle.mw_words.specs.Change.{is_change}
use Rattle.mw_disk.specs.Runs.{SameBut}
use Rattle.mw_record.specs.declared.layout.TheConstants.{HEAD_SIZE, BODY_SIZE, COMMITTED}
use Rattle.mw_record.specs.declared.layout.Layout.TheVariants.{Second}
use Rattle.mw_record.specs.Layout.{place_size, place_at, size, body, pairs_of, SameBytes}
use Rattle.mw_record.specs.Records.{Pairs, holds, record_at, body_at, home, put_pairs}
use Rattle.mw_record.proofs.ReadBytes.{shut_stays, record_open, record_shut, body_same, length_body}
use Rattle.mw_record.proofs.ReadAgain.{body_again, record_of_change, values_of_change, numbers_of_change, length_of_change}
use Rattle.mw_record.proofs.TestsBelow.{few_entries}
use Rattle.mw_record.proofs.Faults.{sizes_are}
use Rattle.mw_record.proofs.ChangedBytes.{words_stay, words_put}
use Rattle.mw_record.specs.Contents.{HasWords}
use Rattle.mw_file.specs.declared.place_states.PlaceState.{PlaceState}
use Rattle.mw_file.specs.declared.place_states.Stage.{Stage}
use Rattle.mw_file.specs.declared.place_states.Stage.TheVariants.{Free, Prepared, Sealed}
use Rattle.mw_file.specs.PlaceStates.{stage_of, writes_of_place, IsStaged, MaySeal}
use Rattle.mw_file.specs.Stores.{PlacedAs, IsWritten}
use Rattle.mw_file.specs.RollForward.{InRange}
use Rattle.mw_file.proofs.Parts.{PartStores}
use Rattle.mw_file.proofs.Bytes.{same_bytes, still_long, record_missed, home_missed, stores_staged}

-- a range inside one place shares no byte with any other place
apart : (words place other at n : ℕ) → place_at Second words place ≤ at → at + n ≤ place_at Second words place + place_size Second → (other ≡ place → ⊥)
    → (k : ℕ) → k < place_size Second → InRange at n (place_at Second words other + k) → ⊥
apart words place other at n low high ne k lt s = elim (cases_lt other place) [
  | inl before ↦ omega (arith, low, high, lt, s.from, s.to, before)
  | inr since ↦ omega (arith, low, high, lt, s.from, s.to, since, ne)
]

-- a closed place is not open
closed : (r : Option Pairs) (ps : Pairs) → r ≡ None → r ≡ Some ps → ⊥
closed r ps none some = let e : ⊥ = cc (none, some) in e

module _ (b c : List ℕ) (words : ℕ) (contents : List ℕ) (states : List PlaceState) (place : ℕ) (was : PartStores b words contents states) (within : place < length states) where
  -- if only bytes of one place changed, the bytes of the others stay
  pub others_same : (at n : ℕ) → place_at Second words place ≤ at → at + n ≤ place_at Second words place + place_size Second → SameBut (InRange at n) b c
      → (other : ℕ) → other < length states → (other ≡ place → ⊥) → SameBytes (place_size Second) (place_at Second words other) (place_at Second words other) c b
  others_same at n low high same other lt ne =
      same_bytes (InRange at n) b c (place_size Second) (place_at Second words other) same (apart words place other at n low high ne)

  -- If the record after a clear commit byte changed in any way, the file has the same words.
  pub prepare_torn : SameBut (InRange (place_at Second words place + 1) BODY_SIZE) b c → record_at Second b words place ≡ None → HasWords Second words (length states) contents c
  prepare_torn same shut =
      let S : ℕ → Type 0 = InRange (place_at Second words place + 1) BODY_SIZE in
      let at : ℕ = place_at Second words place in
      words_stay Second words (length states) contents b c was.has (still_long words (length states) contents b c S was.has same)
      (same_bytes S b c HEAD_SIZE 0 same (λ k lt s. omega (arith, s.from, lt)))
      (λ j lt. elim (cases_eq j place) [
        | inl e ↦ inl (
            let commit : slice_index c (place_at Second words j) ≡ slice_index b (place_at Second words j) = same.outside (place_at Second words j) (λ s. omega (arith, s.from, e)) in
            let was_shut : record_at Second b words j ≡ None = ap (record_at Second b words) e ∙ shut in
            shut_stays Second c b words j commit was_shut ∙ sym was_shut)
        | inr ne ↦ inl (record_missed words (length states) contents b c S was.has same j lt (apart words place j (at + 1) BODY_SIZE (omega arith) (omega arith) ne))
      ])
      (λ a lt. inl (home_missed words (length states) contents b c S was.has same a (λ k l s. omega (arith, s.from, l, lt))))

  -- So the bytes match the states as before, if the place is free.
  pub still_stored : SameBut (InRange (place_at Second words place + 1) BODY_SIZE) b c → record_at Second b words place ≡ None → stage_of states place ≡ Free → PartStores c words contents states
  still_stored same shut free =
      let at : ℕ = place_at Second words place in
      stores_staged b c words contents contents states states place Free (writes_of_place states place) was
      (record { count = refl; stage_here = free; writes_here = refl; stage_there = λ other ne. refl; writes_there = λ other ne. refl }) (prepare_torn same shut)
      (others_same (at + 1) BODY_SIZE (omega arith) (omega arith) same) (shut_stays Second c b words place (same.outside at (λ s. omega (arith, s.from))) shut)

  -- After the whole record was written, it is in the place.
  pub record_written : (entries : List Entry) → SameBut (InRange (place_at Second words place + 1) BODY_SIZE) b c → record_at Second b words place ≡ None
      → is_change words entries ≡ true → SameBytes BODY_SIZE (place_at Second words place + 1) 0 c (body entries) → IsWritten c words place (pairs_of entries)
  record_written entries same shut change written =
      let at : ℕ = place_at Second words place in
      let fit : words ≤ MAX_WORDS = omega (arith, was.has.head.words_are, (sizes_are Second b was.has.head.sizes).words_fit) in
      record {
        shut = shut_stays Second c b words place (same.outside at (λ s. omega (arith, s.from))) shut;
        behind = body_again c at entries (length_of_change words entries change) (numbers_of_change words entries fit change) written;
        formed = record_of_change words entries change;
        values = values_of_change words entries change;
      }

  -- The commit byte of a prepared place was written, and has any value.
  module _ (writes : Pairs) (behind : IsWritten b words place writes) (same : SameBut (InRange (place_at Second words place) 1) b c) where
    commit_only : (k : ℕ) → (k ≡ place_at Second words place → ⊥) → slice_index c k ≡ slice_index b k
    commit_only k ne = same.outside k (λ s. ne (omega (arith, s.from, s.to)))

    body_stays : body_at c (place_at Second words place) ≡ writes
    body_stays =
        let at : ℕ = place_at Second words place in
        let count : slice_index b (at + 1) ≤ MAX_ENTRIES = omega (arith, few_entries Second words writes behind.formed, length_body b at, ap length behind.behind) in
        body_same MAX_ENTRIES c b at at count (λ k lt. commit_only (at + 1 + k) (λ e. omega (arith, e))) ∙ behind.behind

    head_stays : SameBytes HEAD_SIZE 0 0 c b
    head_stays = same_bytes (InRange (place_at Second words place) 1) b c HEAD_SIZE 0 same (λ k lt s. omega (arith, s.from, lt))

    homes_stay : (a : ℕ) → a < words → home c a ≡ home b a
    homes_stay a lt = home_missed words (length states) contents b c (InRange (place_at Second words place) 1) was.has same a (λ k l s. omega (arith, s.from, l, lt))

    other_stays : (j : ℕ) → j < length states → (j ≡ place → ⊥) → record_at Second c words j ≡ record_at Second b words j
    other_stays j lt ne = record_missed words (length states) contents b c (InRange (place_at Second words place) 1) was.has same j lt
        (apart words place j (place_at Second words place) 1 (omega arith) (omega arith) ne)

    long : size Second words (length states) ≤ length c
    long = still_long words (length states) contents b c (InRange (place_at Second words place) 1) was.has same

    -- if it is not set, the words are those before
    pub seal_shut : (slice_index c (place_at Second words place) ≡ COMMITTED → ⊥) → HasWords Second words (length states) contents c
    seal_shut commit =
        words_stay Second words (length states) contents b c was.has long head_stays
        (λ j lt. elim (cases_eq j place) [
          | inl e ↦ inl (ap (record_at Second c words) e ∙ record_shut Second c words place (place_at Second words place) refl commit ∙ sym (ap (record_at Second b words) e ∙ behind.shut))
          | inr ne ↦ inl (other_stays j lt ne)
        ])
        (λ a lt. inl (homes_stay a lt))

    -- if it is set, the record is open
    pub commit_written : slice_index c (place_at Second words place) ≡ COMMITTED → record_at Second c words place ≡ Some writes
    commit_written commit = record_open Second c words place (place_at Second words place) refl commit ∙ ap Some body_stays

    -- an open record is that of a sealed place
    sealed_there : (j : ℕ) (s : Stage) (v qs : Pairs) → PlacedAs b words j s v → record_at Second b words j ≡ Some qs → (s ≡ Sealed) × (qs ≡ v)
    sealed_there j Free v qs placed is = absurd (closed (record_at Second b words j) qs placed is)
    sealed_there j Prepared v qs placed is = absurd (closed (record_at Second b words j) qs placed.shut is)
    sealed_there j Sealed v qs placed is = (refl, (let e : Some qs ≡ Some v = sym is ∙ placed in cc))

    pub seal_open : MaySeal states place → writes_of_place states place ≡ writes → slice_index c (place_at Second words place) ≡ COMMITTED
        → HasWords Second words (length states) (put_pairs writes contents) c
    seal_open may is_writes commit =
        words_put Second words (length states) contents b c was.has long head_stays place writes (record {
          within = within;
          was_shut = behind.shut;
          is_open = commit_written commit;
          others = other_stays;
          formed = behind.formed;
          values = behind.values;
          alone = λ j qs a lt is here there.
              let t = sealed_there j (stage_of states j) (writes_of_place states j) qs (was.placed j lt) is in
              let free : holds (writes_of_place states j) a ≡ false = may.apart j a t.0 (ap (λ w. holds w a) is_writes ∙ here) in
              both_ways (holds (writes_of_place states j) a) free (ap (λ w. holds w a) (sym t.1) ∙ there);
        }) homes_stay

    -- Whatever the commit byte is, the file has the words before, or these with the change put over them.
    pub seal_torn : MaySeal states place → writes_of_place states place ≡ writes
        → HasWords Second words (length states) contents c ⊎ HasWords Second words (length states) (put_pairs writes contents) c
    seal_torn may is_writes = elim (cases_eq (slice_index c (place_at Second words place)) COMMITTED) [
      | inl commit ↦ inr (seal_open may is_writes commit)
      | inr shut ↦ inl (seal_shut shut)
    ]

    -- If it is set, the place is sealed.
    pub seal_done : (new : List PlaceState) → MaySeal states place → writes_of_place states place ≡ writes → slice_index c (place_at Second words place) ≡ COMMITTED
        → IsStaged states new place Sealed writes → PartStores c words (put_pairs writes contents) new
    seal_done new may is_writes commit staged =
        stores_staged b c words contents (put_pairs writes contents) states new place Sealed writes was staged (seal_open may is_writes commit)
        (others_same (place_at Second words place) 1 (omega arith) (omega arith) same) (commit_written commit)

-- A place whose change was given up is free, and its bytes match that.
pub cancel_done : (b : List ℕ) (words : ℕ) (contents : List ℕ) (states new : List PlaceState) (place : ℕ) (writes : Pairs) → PartStores b words contents states
    → IsStaged states new place Free writes → record_at Second b words place ≡ None → PartStores b words contents new
cancel_done b words contents states new place writes was staged shut =
    stores_staged b b words contents contents states new place Free writes was staged was.has (λ other lt ne k l. refl) shut
