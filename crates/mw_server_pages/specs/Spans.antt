-- Defines how a span of time is written. Used by: spans.rt. A change here changes what the browser shows.
use Rattle.std.specs.Prelude.{ℕ, ◌/◌, ◌%◌, ◌++◌, List, codes, decimal}

-- a time of so many seconds in days, hours, minutes and seconds
unfoldable pub span : ℕ → List ℕ
span seconds =
    decimal (seconds / 86400) ++ codes " d " ++ decimal (seconds / 3600 % 24) ++ codes " h " ++ decimal (seconds / 60 % 60) ++ codes " min "
    ++ decimal (seconds % 60) ++ codes " s"
