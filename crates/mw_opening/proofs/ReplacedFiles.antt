-- The error of a file that was replaced is not that of an interrupted call.
-- Used by: none_if.
use Rattle.std.specs.Prelude.{◌≡◌, pos}
use Rattle.std.proofs.Common.{ap, ◌∙◌, refl}
use Rattle.std.specs.IoError.{os_error_kind}
use Rattle.std.specs.declared.io.ErrorKind.{ErrorKind}
use Rattle.mw_disk.specs.FileCalls.{Failed, went_by}

stale_kind : went_by (os_error_kind (pos 116)) ≡ Failed
unfolding os_error_kind
stale_kind = refl

pub stale : (kind : ErrorKind) → kind ≡ os_error_kind (pos 116) → went_by kind ≡ Failed
stale kind is = ap went_by is ∙ stale_kind
