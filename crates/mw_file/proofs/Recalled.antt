-- The place states that an opening makes of a file's open records match the file's bytes. Finishing them takes just the
-- device calls that the bytes ask for.
-- Used by: finish, repair, fill_words, writes_of, state_of.
use Rattle.std.proofs.Common.{◌≡◌, ℕ, zero, suc, ◌+◌, ◌<◌, ◌≤◌, ◌==◌, List, [], ◌∷◌, ◌++◌, length, drop, map, append_assoc, append-nil, Some, None, Option, unwrap_or, if◌then◌else◌, min, take, slice_get, slice_set, get_or, refl, sym, ap, ◌∙◌, inl, inr, arith, subst, IsTrue}
use Rattle.std.proofs.lemmas.List.{length-take, take_all, take_more, take_more_set}
use Rattle.std.proofs.lemmas.Bool.{cond-false, ne_eqb}
use Rattle.std.proofs.lemmas.Grind.{flat_map-append}
use Rattle.std.proofs.lemmas.List.Sums.{sum_by_more, sum_by_more_le}
use Rattle.std.proofs.lemmas.Option.{slice_get_cases, get_or_from_slice_get}
use Rattle.mw_disk.specs.DeviceCalls.{DeviceCall, Sync}
use Rattle.mw_disk.specs.Facts.{Facts}
use Rattle.mw_record.specs.declared.layout.Layout.TheVariants.{Second}
use Rattle.mw_record.specs.Records.{Pairs, record_at}
use Rattle.mw_record.specs.Damages.{at_of, words_of, found_places, records_of, pairs_in}
use Rattle.mw_record.specs.Contents.{HasSecond}
use Rattle.mw_file.specs.declared.place_states.PlaceState.{PlaceState}
use Rattle.mw_file.specs.declared.place_states.Stage.{Stage}
use Rattle.mw_file.specs.declared.place_states.Stage.TheVariants.{Free, Prepared, Sealed}
use Rattle.mw_file.specs.PlaceStates.{stage_of, stage_at, writes_in, writes_of_place, if_sealed, home_writes, home_writes_of, commit_writes, commit_writes_of, roll_calls, all_free}
use Rattle.mw_file.proofs.Free.{stage_of-all_free}
use Rattle.mw_file.specs.Stores.{PlacedAs, Stores, IsDurable}
use Rattle.mw_file.specs.RollForward.{if_open, IsRecalled, CanRepair, CanFinish, IsRolled}
use Rattle.mw_file.specs.DeviceCalls.{commit_at, home_call, clear_call, if_sealed_calls, home_calls_of, home_calls, clear_calls_of, clear_calls, roll_device_calls}
use Rattle.mw_file.specs.OpeningCalls.{home_list, clear_list, repair_list}
use Rattle.mw_file.specs.OpeningEnds.{entries_in, entries_below, records_below, open_entries, open_records, repair_calls}
use Rattle.mw_file.proofs.Parts.{part_stores}
use Rattle.mw_file.proofs.SettledFiles.{tells_all}
use Rattle.mw_file.proofs.Rolled.{can_roll}
use Rattle.mw_file.proofs.Safety.{open_durable}

-- an element that was read is within the list, and follows the first ones
module _ {X : Type 0} (xs : List X) (i : ℕ) (x : X) (read : slice_get xs i ≡ Some x) where
  read_within : i < length xs
  read_within = elim ((slice_get_cases xs i).1) [
    | inl there ↦ there.1
    | inr past ↦ absurd (let e : ⊥ = cc (past.1, read) in e)
  ]

  read_next : take i xs ++ x ∷ [] ≡ take (i + 1) xs
  read_next = ap (λ (p : X). take i xs ++ p ∷ []) (sym (get_or_from_slice_get xs i x x read)) ∙ sym (take_more xs i x read_within)

-- the first entries of a list with the next one are the first entries, one more
pub pairs_more : (xs items new : Pairs) (i : ℕ) (x : ℕ × ℕ) → items ≡ take i xs → slice_get xs i ≡ Some x → new ≡ items ++ x ∷ [] → new ≡ take (i + 1) xs
pairs_more xs items new i x so_far read is = is ∙ ap (λ (ps : Pairs). ps ++ x ∷ []) so_far ∙ read_next xs i x read

-- the first words of a list with the next one are the first words, one more
pub word_more : (ws xs : List ℕ) (i w : ℕ) → i < length ws → take i ws ≡ take i xs → slice_get xs i ≡ Some w → take (i + 1) (slice_set ws i w) ≡ take (i + 1) xs
word_more ws xs i w lt so_far read = take_more_set ws i w lt ∙ ap (λ (ps : List ℕ). ps ++ w ∷ []) so_far ∙ read_next xs i w read

-- if a place's record has entries, the place is open
pub open_pairs : (r : Option Pairs) → (length (unwrap_or r []) ≡ 0 → ⊥) → r ≡ Some (unwrap_or r [])
open_pairs None some = absurd (some refl)
open_pairs (Some ps) some = refl

-- the entries of a place's record, if there are some, are those of an open record
pub sealed_record : (r : Option Pairs) (items : Pairs) → items ≡ unwrap_or r [] → (length items ≡ 0 → ⊥) → Some items ≡ r
sealed_record r items is some = ap Some is ∙ sym (open_pairs r (λ none. some (ap length is ∙ none)))

-- the state of a place, and a number of that state
module _ (f : PlaceState → ℕ) (states : List PlaceState) (k : ℕ) (lt : k < length states) where
  state_here : (s : PlaceState) × (slice_get states k ≡ Some s)
  state_here = elim ((slice_get_cases states k).1) [
    | inl there ↦ (there.0, there.2)
    | inr past ↦ absurd (let e = past.0 in let z : ⊥ = omega (arith, e, lt) in z)
  ]

  sum_step : (s : PlaceState) → slice_get states k ≡ Some s → f (get_or states k s) ≡ f s
  sum_step s at = ap f (get_or_from_slice_get states k s s at)

-- if no commit byte must be cleared, no place is sealed
pub none_sealed : (states : List PlaceState) (k : ℕ) → commit_writes states ≡ 0 → k < length states → stage_of states k ≡ Sealed → ⊥
none_sealed states k none lt sealed =
    let here = state_here commit_writes_of states k lt in
    let one : commit_writes_of here.0 ≡ 1 = ap (λ s. if_sealed s 1) (sym (ap stage_at here.1) ∙ sealed) in
    let more = sum_by_more_le commit_writes_of states k here.0 lt in
    omega (arith, none, one, more, sum_step commit_writes_of states k lt here.0 here.1)

entries_open : (s : Stage) (w : Pairs) → if_sealed s (length w) ≡ length (unwrap_or (if_open s w) [])
entries_open Free w = refl
entries_open Prepared w = refl
entries_open Sealed w = refl

records_open : (s : Stage) (w : Pairs) → (s ≡ Sealed → 1 ≤ length w) → if_sealed s 1 ≡ min 1 (length (unwrap_or (if_open s w) []))
records_open Free w some = refl
records_open Prepared w some = refl
records_open Sealed w some = let l = some refl in omega (arith, l)

homes_open : (at : ℕ) (s : Stage) (w : Pairs) → if_sealed_calls s (map (home_call at) w) ≡ map (home_call at) (unwrap_or (if_open s w) [])
homes_open at Free w = refl
homes_open at Prepared w = refl
homes_open at Sealed w = refl

clears_open : (call : DeviceCall) (s : Stage) (w : Pairs) → (s ≡ Sealed → 1 ≤ length w)
    → if_sealed_calls s (call ∷ []) ≡ (if length (unwrap_or (if_open s w) []) == 0 then [] else call ∷ [])
clears_open call Free w some = refl
clears_open call Prepared w some = refl
clears_open call Sealed w some = sym (cond-false (length w == 0) [] (call ∷ []) (ne_eqb (length w) 0 (λ none. let l = some refl in let z : ⊥ = omega (arith, none, l) in z)))

-- the calls for the places of a list with one more are those for the list, and then those for the one
homes_more : (at : ℕ) (states : List PlaceState) (s : PlaceState) → home_calls at (states ++ s ∷ []) ≡ home_calls at states ++ home_calls_of at s
homes_more at states s = flat_map-append (home_calls_of at) states (s ∷ []) ∙ ap (λ calls. home_calls at states ++ calls) (append-nil (home_calls_of at s))

clears_more : (at words first : ℕ) (states : List PlaceState) (s : PlaceState)
    → clear_calls at words first (states ++ s ∷ []) ≡ clear_calls at words first states ++ clear_calls_of (commit_at at words (first + length states)) s
clears_more at words first [] s =
    let here : first ≡ first + 0 = omega arith in
    append-nil (clear_calls_of (commit_at at words first) s) ∙ ap (λ n. clear_calls_of (commit_at at words n) s) here
clears_more at words first (x ∷ states) s =
    let here : (first + 1) + length states ≡ first + length (x ∷ states) = omega arith in
    let one = clear_calls_of (commit_at at words first) x in
    ap (λ calls. one ++ calls) (clears_more at words (first + 1) states s ∙ ap (λ n. clear_calls at words (first + 1) states ++ clear_calls_of (commit_at at words n) s) here)
    ∙ sym (append_assoc one (clear_calls at words (first + 1) states) (clear_calls_of (commit_at at words (first + length (x ∷ states))) s))

module _ (image : List ℕ) (states : List PlaceState) (recalled : IsRecalled image states) where
  -- the record of a place is what the place writes, if it is sealed
  entries_here : (k : ℕ) (s : PlaceState) → k < length states → slice_get states k ≡ Some s → if_open s.stage s.writes.items ≡ records_of image k
  entries_here k s lt at = sym (ap (λ o. if_open (stage_at o) (writes_in o)) at) ∙ recalled.each k (let e = recalled.count in omega arith)

  entries_sum : (k : ℕ) → k ≤ length states → home_writes (take k states) ≡ entries_below image k
  entries_sum zero le = refl
  entries_sum (suc k) le =
      let lt : k < length states = omega (arith, le) in
      let here = state_here home_writes_of states k lt in
      let more = sum_by_more home_writes_of states k here.0 lt in
      let step = sum_step home_writes_of states k lt here.0 here.1 in
      let item : home_writes_of here.0 ≡ entries_in image k =
      entries_open here.0.stage here.0.writes.items ∙ ap (λ r. length (unwrap_or r [])) (entries_here k here.0 lt here.1) in
      let next : home_writes (take (k + 1) states) ≡ entries_below image k + entries_in image k = omega (arith, more, step, item, entries_sum k (omega (arith, le))) in
      ap (λ n. home_writes (take n states)) (let e : suc k ≡ k + 1 = omega arith in e) ∙ next

  records_sum : (k : ℕ) → k ≤ length states → commit_writes (take k states) ≡ records_below image k
  records_sum zero le = refl
  records_sum (suc k) le =
      let lt : k < length states = omega (arith, le) in
      let here = state_here commit_writes_of states k lt in
      let more = sum_by_more commit_writes_of states k here.0 lt in
      let step = sum_step commit_writes_of states k lt here.0 here.1 in
      let some : here.0.stage ≡ Sealed → 1 ≤ length here.0.writes.items = λ is.
      subst (λ (w : Pairs). 1 ≤ length w) (ap writes_in here.1) (recalled.some_entries k (let e = recalled.count in omega arith) (ap stage_at here.1 ∙ is)) in
      let item : commit_writes_of here.0 ≡ min 1 (entries_in image k) =
      records_open here.0.stage here.0.writes.items some ∙ ap (λ r. min 1 (length (unwrap_or r []))) (entries_here k here.0 lt here.1) in
      let next : commit_writes (take (k + 1) states) ≡ records_below image k + min 1 (entries_in image k) = omega (arith, more, step, item, records_sum k (omega (arith, le))) in
      ap (λ n. commit_writes (take n states)) (let e : suc k ≡ k + 1 = omega arith in e) ∙ next

  -- the device calls are as many as the bytes ask for
  pub repair_is : (if commit_writes states == 0 then 0 else roll_calls states) ≡ repair_calls image
  repair_is =
      let whole : take (length states) states ≡ states = take_all (length states) states (omega arith) in
      let homes : home_writes states ≡ open_entries image =
      sym (ap home_writes whole) ∙ entries_sum (length states) (omega arith) ∙ ap (entries_below image) recalled.count in
      let commits : commit_writes states ≡ open_records image =
      sym (ap commit_writes whole) ∙ records_sum (length states) (omega arith) ∙ ap (records_below image) recalled.count in
      ap (λ n. if n == 0 then 0 else (home_writes states + 1) + (n + 1)) commits ∙ ap (λ n. if open_records image == 0 then 0 else (n + 1) + (open_records image + 1)) homes

  -- the calls for the first places are those that the bytes ask for
  homes_listed : (k : ℕ) → k ≤ length states → home_calls (at_of image) (take k states) ≡ home_list image k
  homes_listed zero le = refl
  homes_listed (suc k) le =
      let lt : k < length states = omega (arith, le) in
      let here = state_here home_writes_of states k lt in
      let at = at_of image in
      let item : home_calls_of at here.0 ≡ map (home_call at) (pairs_in image k) =
      homes_open at here.0.stage here.0.writes.items ∙ ap (λ r. map (home_call at) (unwrap_or r [])) (entries_here k here.0 lt here.1) in
      ap (λ n. home_calls at (take n states)) (let e : suc k ≡ k + 1 = omega arith in e)
      ∙ ap (home_calls at) (sym (read_next states k here.0 here.1))
      ∙ homes_more at (take k states) here.0
      ∙ ap (λ calls. calls ++ home_calls_of at here.0) (homes_listed k (omega (arith, le)))
      ∙ ap (λ calls. home_list image k ++ calls) item

  clears_listed : (k : ℕ) → k ≤ length states → clear_calls (at_of image) (words_of image) 0 (take k states) ≡ clear_list image k
  clears_listed zero le = refl
  clears_listed (suc k) le =
      let lt : k < length states = omega (arith, le) in
      let here = state_here commit_writes_of states k lt in
      let at = at_of image in
      let words = words_of image in
      let some : here.0.stage ≡ Sealed → 1 ≤ length here.0.writes.items = λ is.
      subst (λ (w : Pairs). 1 ≤ length w) (ap writes_in here.1) (recalled.some_entries k (let e = recalled.count in omega arith) (ap stage_at here.1 ∙ is)) in
      let call = clear_call (commit_at at words k) in
      let item : clear_calls_of (commit_at at words k) here.0 ≡ (if entries_in image k == 0 then [] else call ∷ []) =
      clears_open call here.0.stage here.0.writes.items some ∙ ap (λ r. if length (unwrap_or r []) == 0 then [] else call ∷ []) (entries_here k here.0 lt here.1) in
      let long = length-take k states in
      let place : 0 + length (take k states) ≡ k = omega (arith, long, lt) in
      ap (λ n. clear_calls at words 0 (take n states)) (let e : suc k ≡ k + 1 = omega arith in e)
      ∙ ap (clear_calls at words 0) (sym (read_next states k here.0 here.1))
      ∙ clears_more at words 0 (take k states) here.0
      ∙ ap (λ n. clear_calls at words 0 (take k states) ++ clear_calls_of (commit_at at words n) here.0) place
      ∙ ap (λ calls. calls ++ clear_calls_of (commit_at at words k) here.0) (clears_listed k (omega (arith, le)))
      ∙ ap (λ calls. clear_list image k ++ calls) item

  -- the device calls are those that the bytes ask for
  pub repair_listed : (if commit_writes states == 0 then [] else roll_device_calls (at_of image) (words_of image) 0 states) ≡ repair_list image
  repair_listed =
      let at = at_of image in
      let words = words_of image in
      let whole : take (length states) states ≡ states = take_all (length states) states (omega arith) in
      let commits : commit_writes states ≡ open_records image =
      sym (ap commit_writes whole) ∙ records_sum (length states) (omega arith) ∙ ap (records_below image) recalled.count in
      let homes : home_calls at states ≡ home_list image (found_places image) =
      sym (ap (home_calls at) whole) ∙ homes_listed (length states) (omega arith) ∙ ap (home_list image) recalled.count in
      let clears : clear_calls at words 0 states ≡ clear_list image (found_places image) =
      sym (ap (clear_calls at words 0) whole) ∙ clears_listed (length states) (omega arith) ∙ ap (clear_list image) recalled.count in
      ap (λ n. if n == 0 then [] else roll_device_calls at words 0 states) commits
      ∙ ap (λ calls. if open_records image == 0 then [] else (calls ++ Sync ∷ []) ++ (clear_calls at words 0 states ++ Sync ∷ [])) homes
      ∙ ap (λ calls. if open_records image == 0 then [] else (home_list image (found_places image) ++ Sync ∷ []) ++ (calls ++ Sync ∷ [])) clears

  -- the bytes that a read gives match these states
  module _ (f : Facts) (contents : List ℕ) (can : CanFinish f image contents) where
    placed_recalled : (place : ℕ) (s : Stage) (w : Pairs) → (s ≡ Prepared → ⊥) → if_open s w ≡ record_at Second (drop (at_of image) f.reads) (words_of image) place
        → PlacedAs (drop (at_of image) f.reads) (words_of image) place s w
    placed_recalled place Free w other is = sym is
    placed_recalled place Prepared w other is = absurd (other refl)
    placed_recalled place Sealed w other is = sym is

    stores_recalled : Stores f.reads (at_of image) (words_of image) contents states
    stores_recalled = record {
      has = subst (λ (n : ℕ). HasSecond (at_of image) (words_of image) n contents f.reads) (sym recalled.count) can.has;
      placed = λ place lt.
          let low : place < found_places image = (let e = recalled.count in omega arith) in
          placed_recalled place (stage_of states place) (writes_of_place states place) (recalled.none_prepared place low) (recalled.each place low ∙ sym (can.same place low));
    }

    pub roll_recalled : CanRepair f (at_of image) (words_of image) (length states) states contents
    roll_recalled = record {
      rest = can.rest;
      roll = can_roll f (at_of image) (words_of image) (length states) 0 states contents can.honest can.rest (omega arith) (record {
        has = stores_recalled.has;
        recorded = (tells_all (drop (at_of image) f.reads) (words_of image) contents states (part_stores f.reads (at_of image) (words_of image) contents states stores_recalled)).recorded;
      });
    }

    -- after the roll forward the bytes match states that are all free
    pub finish_durable : (f2 : Facts) (next : List PlaceState) → HasSecond (at_of image) (words_of image) (length states) contents f2.reads → IsRolled (at_of image) (words_of image) 0 states f f2
        → length next ≡ length states → IsTrue (all_free next) → IsDurable f2 (at_of image) (words_of image) contents next
    finish_durable f2 next has rolled count free =
        open_durable f f2 (at_of image) (words_of image) contents states next stores_recalled rolled has count (λ place. stage_of-all_free next place free)
