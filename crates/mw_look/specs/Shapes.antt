-- Defines how each kind of step changes its word: as an exchange, a store or a fetch.
-- Used by: many crates from mw_world on, steps.rt. A new Kind is an exchange if no case here says otherwise.
use Rattle.mw_look.specs.declared.steps.Kind.{Kind}
use Rattle.mw_look.specs.declared.steps.Kind.TheVariants.{Fill as FillKind, Unpin as UnpinKind, Free as FreeKind, Drop as DropKind, Row as RowKind, Fault as FaultKind}
use Rattle.mw_look.specs.declared.steps.Shape.{Shape}
use Rattle.mw_look.specs.declared.steps.Shape.TheVariants.{Exchange, Store, Fetch}

-- An exchange wins if it finds what it expects, and else changes nothing. A store leaves one value, whatever it
-- finds. A fetch computes what it leaves from what it finds.
abbrev pub shape_of : Kind → Shape
shape_of FillKind = Store
shape_of FreeKind = Store
shape_of RowKind = Store
shape_of UnpinKind = Fetch
shape_of DropKind = Fetch
shape_of FaultKind = Fetch
shape_of kind = Exchange
