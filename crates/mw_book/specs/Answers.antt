-- Defines what the answer to a call on a book (a tenant's open file) says of the book and its device, on any disk.
-- Used by: CallOutcome. A change here changes what a call promises.
use Rattle.std.specs.Prelude.{◌≡◌, ◌≢◌, ◌+◌, Bool, true, false, min}
use Rattle.mw_look.specs.declared.steps.Call.{Call}
use Rattle.mw_look.specs.declared.steps.Call.TheVariants.{Cancel as CancelCall}
use Rattle.mw_disk.specs.Facts.{Facts, most_counted}
use Rattle.mw_book.specs.declared.answers.Filed.{Filed}
use Rattle.mw_book.specs.declared.answers.Filed.TheVariants.{Made, Broken, Untouched}
use Rattle.mw_book.specs.declared.book.Book.{Book}
use Rattle.mw_book.specs.OpenFile.{disk_in, OnDisk}

-- the call does nothing, because the book has failed and the call is not a cancel
abbrev pub is_refused : Call → Bool → Bool
is_refused CancelCall failed = false
is_refused call failed = failed

-- the device counts no more faults than before, or one more, up to the last value of its counter
abbrev pub NoFault : Facts → Facts → Type 0
NoFault old new = new.faults ≡ old.faults

abbrev pub OneFault : Facts → Facts → Type 0
OneFault old new = new.faults ≡ min (old.faults + 1) most_counted

module _ {D : Type 0} (facts : D → Facts) (call : Call) (old new : Book D) where
  -- No device call failed.
  pub record NoneFailed : Type 0 where
    pub began : is_refused call old.has_failed ≡ false
    pub same_failed : new.has_failed ≡ old.has_failed
    pub faults : OnDisk facts NoFault (disk_in old.held) (disk_in new.held)

  -- A device call failed. The book had not failed before, and has failed now.
  pub record OneFailed : Type 0 where
    pub other : call ≢ CancelCall
    pub sound : old.has_failed ≡ false
    pub failed : new.has_failed ≡ true
    pub faults : OnDisk facts OneFault (disk_in old.held) (disk_in new.held)

  -- The book had failed before, and the call did nothing.
  pub record IsRefused : Type 0 where
    pub refused : is_refused call old.has_failed ≡ true
    pub same : new ≡ old

  -- what each answer tells
  abbrev pub Answers : Filed → Type 0
  Answers Made = NoneFailed
  Answers Broken = OneFailed
  Answers Untouched = IsRefused
