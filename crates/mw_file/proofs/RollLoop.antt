-- The loops of a roll forward (redo) handle one place each turn: what held of the places so far also holds with the next one.
-- Used by: write_homes, clear_commits, repair, among others.
use Rattle.std.proofs.Common.{◌≡◌, ℕ, ◌+◌, ◌-◌, ◌<◌, ◌≤◌, List, [], ◌∷◌, length, Some, Option, Result, Ok, Err, OnOk, drop, slice_index, slice_get, get_or, sym, ap, ◌∙◌, inl, inr, arith, subst}
use Rattle.std.proofs.lemmas.Bool.{cases_eq}
use Rattle.std.proofs.lemmas.Option.{slice_get-get_or}
use Rattle.mw_disk.specs.Facts.{Facts, patched}
use Rattle.mw_disk.specs.Runs.{Later, Touched, Fits}
use Rattle.mw_disk.proofs.RunLaws.{touched_trans, touched_wider, fits_after, fits_less, still_honest}
use Rattle.mw_record.specs.declared.layout.Layout.TheVariants.{Second}
use Rattle.mw_record.specs.Layout.{home_at, place_at}
use Rattle.mw_record.specs.Records.{Pairs, home, record_over, all_over}
use Rattle.mw_record.proofs.ReadBytes.{get_patched}
use Rattle.mw_record.proofs.TestsBelow.{over_more}
use Rattle.mw_file.specs.declared.place_states.PlaceState.{PlaceState}
use Rattle.mw_file.specs.declared.place_states.Stage.TheVariants.{Sealed}
use Rattle.mw_file.specs.PlaceStates.{stage_of, stage_at, writes_in}
use Rattle.mw_file.specs.RollForward.{Behind, InRecord, InHomes, AtCommit, AtCommits, HasHomes, IsBelow, AreBelow, if_open, record_of, kept_of}
use Rattle.mw_file.proofs.Parts.{byte_of}

-- what an Ok promises, in other words
pub on_ok : {T E : Type 0} (P Q : Type 0) (r : Result T E) → (P → Q) → OnOk r P → OnOk r Q
on_ok P Q (Ok x) told p = told p
on_ok P Q (Err e) told p = p

-- a byte over which a 0 was written
pub cleared : (old new : List ℕ) (at : ℕ) → at ≤ length old → new ≡ patched old at (0 ∷ []) → slice_index new at ≡ 0
cleared old new at within is =
    let here : at ≡ at + 0 = omega arith in
    ap (slice_index new) here ∙ ap (λ bs. slice_index bs (at + 0)) is ∙ get_patched old at (0 ∷ []) 0 within (omega arith)

-- the element that was read is the one of its place
pub item_at : (states : List PlaceState) (i : ℕ) (s : PlaceState) → i < length states → s ≡ get_or states i s → slice_get states i ≡ Some s
item_at states i s lt is = slice_get-get_or states i s lt ∙ ap Some (sym is)

pub kept_is : (states : List PlaceState) (i : ℕ) (s : PlaceState) → slice_get states i ≡ Some s → kept_of states i ≡ record_of s
kept_is states i s at = ap (λ o. if_open (stage_at o) (writes_in o)) at

module _ (start old new : Facts) (at words : ℕ) (states : List PlaceState) (i : ℕ) (s : PlaceState) (lt : i < length states) (item : slice_get states i ≡ Some s) where
  pub below_item : AreBelow words states → IsBelow words (record_of s)
  below_item below = subst (λ (r : Option Pairs). IsBelow words r) (kept_is states i s item) (below i lt)

  pub homes_still_there : Later start old → Touched (Behind at (InHomes states)) start old → HasHomes start at words → HasHomes old at words
  homes_still_there later run has = record {
    honest = still_honest start old later has.honest;
    fits = fits_after (Behind at (InHomes states)) start old (at + home_at words) run has.fits;
  }

  pub homes_more : Touched (Behind at (InHomes states)) start old → Touched (Behind at (InRecord (record_of s))) old new → Touched (Behind at (InHomes states)) start new
  homes_more run more =
      touched_trans (Behind at (InHomes states)) start old new run
      (touched_wider (Behind at (InRecord (record_of s))) (Behind at (InHomes states)) old new
      (λ k r. record {
        from = r.from;
        inside = record { place = i; within = lt; in_record = subst (λ (o : Option Pairs). InRecord o (k - at)) (sym (kept_is states i s item)) r.inside };
      }) more)

  pub values_more : (a : ℕ) → home (drop at old.reads) a ≡ all_over (kept_of states) i a (home (drop at start.reads) a)
      → home (drop at new.reads) a ≡ record_over (record_of s) a (home (drop at old.reads) a)
      → home (drop at new.reads) a ≡ all_over (kept_of states) (i + 1) a (home (drop at start.reads) a)
  values_more a so_far more =
      more ∙ ap (record_over (record_of s) a) so_far
      ∙ ap (λ r. record_over r a (all_over (kept_of states) i a (home (drop at start.reads) a))) (sym (kept_is states i s item))
      ∙ sym (over_more (kept_of states) i a (home (drop at start.reads) a))

  module _ (first commit : ℕ) (is_commit : commit ≡ at + place_at Second words (first + i)) where
    pub commit_there : Touched (Behind at (AtCommits words first states)) start old → Fits start (at + place_at Second words (first + length states)) → Fits old (commit + 1)
    commit_there run fits =
        fits_less old (commit + 1) (at + place_at Second words (first + length states)) (omega (arith, is_commit, lt))
        (fits_after (Behind at (AtCommits words first states)) start old (at + place_at Second words (first + length states)) run fits)

    pub commits_more : Touched (Behind at (AtCommits words first states)) start old → Touched (AtCommit commit s) old new → Touched (Behind at (AtCommits words first states)) start new
    commits_more run more =
        touched_trans (Behind at (AtCommits words first states)) start old new run
        (touched_wider (AtCommit commit s) (Behind at (AtCommits words first states)) old new
        (λ k g. record {
          from = omega (arith, g.at, is_commit);
          inside = record { place = i; within = lt; sealed = ap stage_at item ∙ g.sealed; at = omega (arith, g.at, is_commit) };
        }) more)

    pub shut_more : Touched (AtCommit commit s) old new
        → ((place : ℕ) → place < i → stage_of states place ≡ Sealed → slice_index (drop at old.reads) (place_at Second words (first + place)) ≡ 0)
        → (s.stage ≡ Sealed → slice_index new.reads commit ≡ 0) → (place : ℕ) → place < i + 1 → stage_of states place ≡ Sealed
        → slice_index (drop at new.reads) (place_at Second words (first + place)) ≡ 0
    shut_more more so_far here place low sealed = elim (cases_eq place i) [
      | inl e ↦
          byte_of at new.reads (place_at Second words (first + place)) ∙ ap (λ p. slice_index new.reads (at + place_at Second words (first + p))) e
          ∙ ap (λ k. slice_index new.reads k) (sym is_commit) ∙ here (sym (ap stage_at item) ∙ ap (stage_of states) (sym e) ∙ sealed)
      | inr ne ↦
          byte_of at new.reads (place_at Second words (first + place))
          ∙ more.seen.outside (at + place_at Second words (first + place)) (λ g. ne (omega (arith, g.at, is_commit)))
          ∙ sym (byte_of at old.reads (place_at Second words (first + place))) ∙ so_far place (omega (arith, low, ne)) sealed
    ]
