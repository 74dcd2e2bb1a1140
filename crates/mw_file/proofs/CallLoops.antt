-- The device calls of a loop: what is to be made from here on makes, after what was made, all of them from the start.
-- Used by: write_records, roll.rt.
use Rattle.std.proofs.Common.{◌≡◌, ℕ, ◌+◌, ◌<◌, ◌≤◌, Bool, true, false, List, [], ◌∷◌, ◌++◌, length, drop, get_or, map, sym, ap, ◌∙◌, subst, arith, not, Some, Result, Ok, Err, append_assoc}
use Rattle.std.specs.List.{slice_get}
use Rattle.std.specs.Result.{is_ok, is_err}
use Rattle.std.proofs.lemmas.List.{drop_more, drop_all, append-nil}
use Rattle.mw_disk.specs.DeviceCalls.{DeviceCall, WriteAt, Sync, Makes}
use Rattle.mw_disk.proofs.MakesLaws.{Made, makes_none, makes_one, makes_after, makes_cut}
use Rattle.mw_record.specs.declared.layout.TheConstants.{WORD_SIZE}
use Rattle.mw_record.specs.Layout.{home_at, number_bytes}
use Rattle.mw_record.specs.Records.{Pairs}
use Rattle.mw_file.specs.declared.place_states.PlaceState.{PlaceState}
use Rattle.mw_file.specs.declared.place_states.Stage.{Stage}
use Rattle.mw_file.specs.declared.place_states.Stage.TheVariants.{Sealed}
use Rattle.mw_file.specs.PlaceStates.{stage_at, stage_of, writes_in, writes_of_place}
use Rattle.mw_file.specs.DeviceCalls.{commit_at, home_call, home_calls_of, home_calls, clear_call, clear_calls_of, clear_calls, if_sealed_calls, roll_device_calls, settle_calls}

-- the calls from here on, if they are made, make all calls from the start
abbrev pub Continues : {D : Type 0} → Made D → List DeviceCall → List DeviceCall → D → D → Type 0
Continues {D} made all from start now = (well : Bool) (end : D) → Makes made from well now end → Makes made all well start end

pub continues_start : {D : Type 0} (made : Made D) (all : List DeviceCall) (start : D) → Continues made all all start start
continues_start made all start well end makes = makes

-- the next of them went well
pub continues_next : {D : Type 0} (made : Made D) (all from here rest : List DeviceCall) (start now next : D) → Continues made all from start now → from ≡ here ++ rest
    → Makes made here true now next → Continues made all rest start next
continues_next made all from here rest start now next so_far is makes well end others =
    so_far well end (subst (λ (l : List DeviceCall). Makes made l well now end) (sym is) (makes_after made here rest well now next end makes others))

-- one of the next failed
pub continues_fall : {D : Type 0} (made : Made D) (all from here rest : List DeviceCall) (start now next : D) → Continues made all from start now → from ≡ here ++ rest
    → Makes made here false now next → Makes made all false start next
continues_fall made all from here rest start now next so_far is makes =
    so_far false next (subst (λ (l : List DeviceCall). Makes made l false now next) (sym is) (makes_cut made here rest now next makes))

-- none is left
pub continues_end : {D : Type 0} (made : Made D) (all from : List DeviceCall) (start now : D) → Continues made all from start now → from ≡ [] → Makes made all true start now
continues_end made all from start now so_far is =
    so_far true now (subst (λ (l : List DeviceCall). Makes made l true now now) (sym is) (makes_none made now))

-- ---- the calls from turn k on

pub values_from : (at : ℕ) (writes : Pairs) (k : ℕ) → k < length writes
    → map (home_call at) (drop k writes) ≡ (home_call at (get_or writes k (0, 0)) ∷ []) ++ map (home_call at) (drop (k + 1) writes)
values_from at writes k lt = ap (λ (l : Pairs). map (home_call at) l) (drop_more writes k (0, 0) lt)

pub no_values : (at : ℕ) (writes : Pairs) (k : ℕ) → length writes ≤ k → map (home_call at) (drop k writes) ≡ []
no_values at writes k past = ap (λ (l : Pairs). map (home_call at) l) (drop_all k writes past)

pub homes_from : (at : ℕ) (states : List PlaceState) (k : ℕ) (s : PlaceState) → k < length states → s ≡ get_or states k s
    → home_calls at (drop k states) ≡ home_calls_of at s ++ home_calls at (drop (k + 1) states)
homes_from at states k s lt is =
    ap (λ (l : List PlaceState). home_calls at l) (drop_more states k s lt)
    ∙ ap (λ (x : PlaceState). home_calls_of at x ++ home_calls at (drop (k + 1) states)) (sym is)

pub no_homes : (at : ℕ) (states : List PlaceState) (k : ℕ) → length states ≤ k → home_calls at (drop k states) ≡ []
no_homes at states k past = ap (λ (l : List PlaceState). home_calls at l) (drop_all k states past)

pub clears_from : (at words first : ℕ) (states : List PlaceState) (k commit : ℕ) (s : PlaceState) → k < length states → s ≡ get_or states k s → commit ≡ commit_at at words (first + k)
    → clear_calls at words (first + k) (drop k states) ≡ clear_calls_of commit s ++ clear_calls at words (first + (k + 1)) (drop (k + 1) states)
clears_from at words first states k commit s lt is where_it_is =
    ap (λ (l : List PlaceState). clear_calls at words (first + k) l) (drop_more states k s lt)
    ∙ (ap (λ (x : PlaceState). clear_calls_of (commit_at at words (first + k)) x ++ clear_calls at words (first + k + 1) (drop (k + 1) states)) (sym is)
    ∙ (ap (λ (c : ℕ). clear_calls_of c s ++ clear_calls at words (first + k + 1) (drop (k + 1) states)) (sym where_it_is)
    ∙ ap (λ (n : ℕ). clear_calls_of commit s ++ clear_calls at words n (drop (k + 1) states)) (let e : first + k + 1 ≡ first + (k + 1) = omega arith in e)))

pub no_clears : (at words first : ℕ) (states : List PlaceState) (k : ℕ) → length states ≤ k → clear_calls at words (first + k) (drop k states) ≡ []
no_clears at words first states k past = ap (λ (l : List PlaceState). clear_calls at words (first + k) l) (drop_all k states past)

-- one home word was written
pub one_value : {D : Type 0} (made : Made D) (at : ℕ) (write : ℕ × ℕ) (offset : ℕ) (block : List ℕ) (well : Bool) (old new : D)
    → offset ≡ at + home_at write.0 → block ≡ number_bytes WORD_SIZE write.1 → made (WriteAt offset block) well old new → Makes made (home_call at write ∷ []) well old new
one_value made at write offset block well old new is_at is_block call =
    makes_one made (home_call at write) well old new
    (subst (λ (n : ℕ). made (WriteAt n (number_bytes WORD_SIZE write.1)) well old new) is_at
    (subst (λ (l : List ℕ). made (WriteAt offset l) well old new) is_block call))

-- ---- a settle is a roll forward of one place

pub alone_device_calls : (at words place : ℕ) (states : List PlaceState) (s : PlaceState) → slice_get states place ≡ Some s → stage_of states place ≡ Sealed
    → roll_device_calls at words place (s ∷ []) ≡ settle_calls at words place (writes_of_place states place)
alone_device_calls at words place states s item sealed =
    let stage : s.stage ≡ Sealed = sym (ap stage_at item) ∙ sealed in
    let homes = map (home_call at) s.writes.items in
    let clear = clear_call (commit_at at words place) in
    ap (λ (t : Stage). ((if_sealed_calls t homes ++ []) ++ Sync ∷ []) ++ ((if_sealed_calls t (clear ∷ []) ++ []) ++ Sync ∷ [])) stage
    ∙ (ap (λ (l : List DeviceCall). (l ++ Sync ∷ []) ++ clear ∷ Sync ∷ []) (append-nil homes)
    ∙ (append_assoc homes (Sync ∷ []) (clear ∷ Sync ∷ [])
    ∙ ap (λ (ws : Pairs). settle_calls at words place ws) (sym (ap writes_in item))))

-- an answer that is an error is no Ok
pub ok_or_err : {T E : Type 0} (r : Result T E) (b : Bool) → is_err r ≡ b → is_ok r ≡ not b
ok_or_err (Ok x) b is = ap not is
ok_or_err (Err e) b is = ap not is
