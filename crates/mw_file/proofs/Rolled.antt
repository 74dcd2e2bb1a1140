-- A crash during a roll forward (redo) leaves a file of the same words. After it the commit bytes are clear.
-- Used by: roll_forward, repair.
use Rattle.std.proofs.Common.{◌≡◌, ◌⊎◌, ℕ, ◌+◌, ◌<◌, ◌≤◌, List, length, drop, IsTrue, slice_index, sym, inl, inr, arith, subst}
use Rattle.mw_disk.specs.Facts.{Facts, IsSynced, MayLeave}
use Rattle.mw_disk.proofs.RunLaws.{touched_trans, same_but_trans, same_but_wider, fits_after, leaves, leaves_touched, leaves_more}
use Rattle.mw_disk.specs.Runs.{SameBut, Touched, Fits, LeavesOnly}
use Rattle.mw_record.specs.declared.layout.Layout.TheVariants.{Second}
use Rattle.mw_record.specs.Layout.{home_at, place_at}
use Rattle.mw_record.specs.Records.{home, all_over}
use Rattle.mw_record.proofs.Changes.{Agrees}
use Rattle.mw_record.specs.Contents.{HasSecond}
use Rattle.mw_file.specs.declared.place_states.PlaceState.{PlaceState}
use Rattle.mw_file.specs.declared.place_states.Stage.TheVariants.{Sealed}
use Rattle.mw_file.specs.PlaceStates.{stage_of, writes_of_place}
use Rattle.mw_file.specs.RollForward.{Behind, InHomes, AtCommits, HasHomes, AreBelow, HasSealed, CanRoll, CanRepair, IsRolled, kept_of}
use Rattle.mw_file.proofs.Parts.{part_same, behind_alone, second_stays, long_there}
use Rattle.mw_file.proofs.RollForwardLaws.{Tells, below_there, homes_torn, agree_there, tells_still, commits_torn}

module _ (start : Facts) (at words places first : ℕ) (states : List PlaceState) (contents : List ℕ) (can : CanRoll start at words places first states contents) where
  -- the records of these bytes
  tells_in : (image : List ℕ) → HasSealed at words places first states contents image → Tells (drop at image) words first states
  tells_in image is = record { recorded = is.recorded }

  tells : Tells (drop at start.reads) words first states
  tells = tells_in start.reads can.read

  long_in : (image : List ℕ) → HasSealed at words places first states contents image → at + place_at Second words places ≤ length image
  long_in image is = long_there at words places contents image is.has

  -- the disk has all bytes of the layout, whatever a crash leaves
  fits_there : (n : ℕ) → n ≤ at + place_at Second words places → Fits start n
  fits_there n low = record {
    reads = omega (arith, low, long_in start.reads can.read);
    left = λ c left. omega (arith, low, long_in c (can.left c left));
  }

  pub has_homes : HasHomes start at words
  has_homes = record { honest = can.honest; fits = fits_there (at + home_at words) (omega arith) }

  pub are_below : AreBelow words states
  are_below place lt writes addr is held = below_there (drop at start.reads) words places first states contents can.read.has.part can.within tells place writes addr lt is held

  -- the first half: it writes home words
  module _ (mid : Facts) (touched : Touched (Behind at (InHomes states)) start mid) where
    homes_has : (d c : List ℕ) → HasSealed at words places first states contents d → SameBut (Behind at (InHomes states)) d c → HasSecond at words places contents c
    homes_has d c was same =
        second_stays at words places contents contents d c (InHomes states) was.has same
        (homes_torn (drop at d) words places first states contents was.has.part can.within (tells_in d was) (drop at c) (part_same at (InHomes states) d c same))

    pub homes_moments : LeavesOnly start mid (HasSecond at words places contents)
    homes_moments = leaves_touched (Behind at (InHomes states)) start mid touched (λ d c left same. homes_has d c (can.left d left) same)

    pub homes_alone : Touched (λ k. at ≤ k) start mid
    homes_alone = behind_alone at (InHomes states) start mid touched

    pub homes_read : HasSecond at words places contents mid.reads
    homes_read = homes_has start.reads mid.reads can.read touched.seen

    mid_tells : Tells (drop at mid.reads) words first states
    mid_tells = tells_still (drop at start.reads) words places first states contents can.read.has.part can.within tells (drop at mid.reads)
        (part_same at (InHomes states) start.reads mid.reads touched.seen)

    pub commits_fit : Fits mid (at + place_at Second words (first + length states))
    commits_fit =
        fits_after (Behind at (InHomes states)) start mid (at + place_at Second words (first + length states)) touched
        (fits_there (at + place_at Second words (first + length states)) (omega (arith, can.within)))

    -- the second half: it clears commit bytes, after the home words are synced
    module _ (rest : IsSynced mid)
        (values : (a : ℕ) → a < words → home (drop at mid.reads) a ≡ all_over (kept_of states) (length states) a (home (drop at start.reads) a))
        (new : Facts) (shut : Touched (Behind at (AtCommits words first states)) mid new) where
      agree : (place : ℕ) → place < length states → stage_of states place ≡ Sealed → Agrees (writes_of_place states place) (home (drop at mid.reads))
      agree = agree_there (drop at start.reads) words places first states contents can.read.has.part can.within tells (drop at mid.reads) values

      commits_has : (c : List ℕ) → SameBut (Behind at (AtCommits words first states)) mid.reads c → HasSecond at words places contents c
      commits_has c same =
          second_stays at words places contents contents mid.reads c (AtCommits words first states) homes_read same
          (commits_torn (drop at mid.reads) words places first states contents homes_read.part can.within mid_tells (drop at c)
          (part_same at (AtCommits words first states) mid.reads c same) agree)

      pub commits_moments : LeavesOnly start new (HasSecond at words places contents)
      commits_moments = leaves_more start mid new homes_moments (leaves (Behind at (AtCommits words first states)) mid new rest shut commits_has)

      pub commits_alone : Touched (λ k. at ≤ k) start new
      commits_alone = touched_trans (λ k. at ≤ k) start mid new homes_alone (behind_alone at (AtCommits words first states) mid new shut)

      pub commits_read : HasSecond at words places contents new.reads
      commits_read = commits_has new.reads shut.seen

      pub rolled : IsSynced new
          → ((place : ℕ) → place < length states → stage_of states place ≡ Sealed → slice_index (drop at new.reads) (place_at Second words (first + place)) ≡ 0)
          → IsRolled at words first states start new
      rolled at_rest commits = record {
        rest = at_rest;
        same =
            let S : ℕ → Type 0 = Behind at (λ k. InHomes states k ⊎ AtCommits words first states k) in
            same_but_trans S start.reads mid.reads new.reads
            (same_but_wider (Behind at (InHomes states)) S start.reads mid.reads (λ k h. record { from = h.from; inside = inl h.inside }) touched.seen)
            (same_but_wider (Behind at (AtCommits words first states)) S mid.reads new.reads (λ k g. record { from = g.from; inside = inr g.inside }) shut.seen);
        shut = commits;
      }

-- on a synced disk it is enough that a read gives such a file
pub can_roll : (f : Facts) (at words places first : ℕ) (states : List PlaceState) (contents : List ℕ) → IsTrue f.honest → IsSynced f → first + length states ≤ places
    → HasSealed at words places first states contents f.reads → CanRoll f at words places first states contents
can_roll f at words places first states contents honest rest within has = record {
  honest = honest;
  within = within;
  read = has;
  left = λ image left. subst (HasSealed at words places first states contents) (sym (rest image left)) has;
}

-- on a synced disk a crash leaves the file that a read gives
pub at_rest_has : (f : Facts) (at words places : ℕ) (states : List PlaceState) (contents : List ℕ) → CanRepair f at words places states contents
    → (c : List ℕ) → MayLeave f c → HasSecond at words places contents c
at_rest_has f at words places states contents can c left = (can.roll.left c left).has
