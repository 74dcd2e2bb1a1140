-- Defines how a copy of a tenant's file is answered.
-- Used by: mw_programs, file_copies.rt. A new reason why there is no copy needs a status in specs/Shown.
use Rattle.std.specs.Prelude.{ℕ, Vec, Result}
use Rattle.std.specs.declared.alloc.Global.{Global}
use Rattle.mw_server_pages.specs.declared.file_copies.NoCopy.{NoCopy}

-- the bytes of the file, or why there are none
abbrev pub Copy : Type 0
Copy = Result (Vec ℕ Global) NoCopy
