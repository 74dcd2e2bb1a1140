-- Lemmas that two cases exclude each other: kinds of words, won and lost exchanges, statuses of finished and unfinished
-- changes. Used by: Cleaners, Cleanups, LastPins, among others.
use Rattle.std.specs.Prelude.{ℕ, ◌≡◌, Bool, true, false}
use Rattle.mw_law_runs.specs.Obligations.{IsUnfinished}
use Rattle.mw_words.specs.declared.statuses.Status.{Status}
use Rattle.mw_words.specs.declared.statuses.Status.TheVariants.{DoneYes, DoneNo}
use Rattle.mw_words.specs.declared.words.Word.{Word}
use Rattle.mw_words.specs.declared.words.Word.TheVariants.{Plain, Planted, Held, Dirty}
use Rattle.mw_look.specs.declared.observations.Observation.TheVariants.{SawWord, SawStatus, Won, Lost}

-- words
pub plain_held : (number slot seq : ℕ) → Plain number ≡ Held slot seq → ⊥
plain_held number slot seq is = cc

pub planted_held : (worker number slot seq : ℕ) → Planted worker number ≡ Held slot seq → ⊥
planted_held worker number slot seq is = cc

pub dirty_held : (place value slot seq : ℕ) → Dirty place value ≡ Held slot seq → ⊥
dirty_held place value slot seq is = cc

pub plain_dirty : (number slot value : ℕ) → Plain number ≡ Dirty slot value → ⊥
plain_dirty number slot value is = cc

pub planted_dirty : (worker number slot value : ℕ) → Planted worker number ≡ Dirty slot value → ⊥
planted_dirty worker number slot value is = cc

pub held_dirty : (place number slot value : ℕ) → Held place number ≡ Dirty slot value → ⊥
held_dirty place number slot value is = cc

-- truth values
pub not_both : {P : Type 0} (b : Bool) → b ≡ true → b ≡ false → P
not_both true is isnt = absurd (never isnt)
  where
    never : true ≡ false → ⊥
    never e = cc
not_both false is isnt = absurd (never is)
  where
    never : false ≡ true → ⊥
    never e = cc

-- what a request learns
pub lost_won : Lost ≡ Won → ⊥
lost_won is = cc

pub of_word : (one other : Word) → SawWord one ≡ SawWord other → other ≡ one
of_word one other is = cc

pub of_status : (one other : Status) → SawStatus one ≡ SawStatus other → one ≡ other
of_status one other is = cc

-- a change that is done with isn't unfinished
pub canceled_undone : (entry value : ℕ) → IsUnfinished (DoneNo entry value) → ⊥
canceled_undone entry value is = is

pub done_undone : IsUnfinished DoneYes → ⊥
done_undone is = is
