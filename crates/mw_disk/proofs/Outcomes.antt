-- An outcome went well just if it is an `Ok`, and what is so of a failed call is so of its error.
-- Used by: file.rt; mw_file, mw_opening.
use Rattle.std.specs.Prelude.{◌≡◌, Bool, false, is_ok, IsErr, Result, Ok, Err}
use Rattle.std.proofs.Common.{refl}
use Rattle.std.proofs.lemmas.Bool.{false≢true}
use Rattle.std.specs.IoError.{error_kind}
use Rattle.std.specs.declared.io.Error.{Error}
use Rattle.std.specs.declared.io.ErrorKind.{ErrorKind}
use Rattle.std.specs.declared.io.ErrorKind.TheVariants as kind
use Rattle.mw_disk.specs.FileCalls.{is_well, went_by, went_of}

-- what failed with an error of any kind did not go well
pub not_well : (k : ErrorKind) → is_well (went_by k) ≡ false
not_well kind.Interrupted = refl
not_well _ = refl

pub well_as : {T : Type 0} (outcome : Result T Error) → is_well (went_of outcome) ≡ is_ok outcome
well_as (Ok value) = refl
well_as (Err error) = not_well (error_kind error)

-- a fact of a call that failed is a fact of its error
pub on_err : {T E : Type 0} (P : Bool → Type 0) (r : Result T E) → IsErr r → P false → P (is_ok r)
on_err P (Ok x) is p = absurd (false≢true is)
on_err P (Err e) is p = p
