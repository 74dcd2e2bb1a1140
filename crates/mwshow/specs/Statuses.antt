-- Defines the exit statuses of `mwshow`. Used by: src/input.rt, src/program.rt. A change here changes docs/OPERATING too.
use Rattle.std.specs.Prelude.{ℕ}
use Rattle.mwshow.specs.declared.input.ShowFault.{ShowFault}
use Rattle.mwshow.specs.declared.input.ShowFault.TheVariants.{CannotRead, NotPlain, InUse, Memory, Output}

-- the exit status for each reason why a file was not shown
abbrev pub status_of : ShowFault → ℕ
status_of (CannotRead error) = 1
status_of NotPlain = 1
status_of InUse = 1
status_of Memory = 1
status_of Output = 1
