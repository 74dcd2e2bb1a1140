-- Defines the figures that a report of the plain store has for a tenant.
-- Used by: plain.rt, tenant.rt. A change here changes the figures that a report has for a tenant.
use Rattle.std.specs.Prelude.{not}
use Rattle.mw_report.specs.declared.figures.TenantFigures.{TenantFigures}
use Rattle.mw_plain.specs.declared.tenant.Part.{Part}
use Rattle.mw_plain.specs.Books.{used_in, faulted_in, places_in}

-- The figures of a tenant: its line; how many places its file has, 0 if no file opened that fits the line; how many
-- slots it uses; and whether it is up, that is, has not faulted.
abbrev pub figures_of : {D : Type 0} → Part D → TenantFigures
figures_of part = record { name = part.name; words = part.words; quota = part.quota; places = places_in 0 part.book; used = used_in part.book; up = not (faulted_in part.book) }
