-- Defines, for each kind of step, how it changes the bits of its word, and what it finds.
-- Used by: src/ways.rt, mw_table, mw_law_threads.
use Rattle.std.specs.Prelude.{ℕ, ◌+◌, ◌-◌, ◌%◌, ◌^◌, ◌==◌, cond}
use Rattle.std.specs.Int.Bits.{bit_or}
use Rattle.mw_look.specs.declared.observations.Got.{Got}
use Rattle.mw_look.specs.declared.observations.Got.TheVariants.{Word as Bits, Won as GotWon, Lost as GotLost}
use Rattle.mw_look.specs.declared.steps.Kind.{Kind}
use Rattle.mw_look.specs.declared.steps.Kind.TheVariants.{Unpin as UnpinKind, Drop as DropKind}
use Rattle.mw_look.specs.declared.steps.Op.{Op}
use Rattle.mw_look.specs.declared.steps.Op.TheVariants.{Load as LoadBits, Change as ChangeBits, File as FileCall}
use Rattle.mw_look.specs.declared.steps.Shape.{Shape}
use Rattle.mw_look.specs.declared.steps.Shape.TheVariants.{Exchange as ByExchange, Store as ByStore, Fetch as ByFetch}
use Rattle.mw_look.specs.Shapes.{shape_of}
use Rattle.mw_rule.specs.declared.ways.Way.{Way}
use Rattle.mw_rule.specs.declared.ways.Way.TheVariants.{Exchange, Store, Sub, Or}

-- How a kind of step changes its word. Unpin subtracts 1 from the pins, at bit 48; a drop subtracts 1 from the slots
-- in use, at bit 0; the third fetch sets the fault, bit 63.
abbrev pub way_by_shape : Shape → Kind → Way
way_by_shape ByExchange kind = Exchange
way_by_shape ByStore kind = Store
way_by_shape ByFetch UnpinKind = Sub (2 ^ 48)
way_by_shape ByFetch DropKind = Sub 1
way_by_shape ByFetch kind = Or (2 ^ 63)

-- the same, by the kind alone
abbrev pub way_of : Kind → Way
way_of kind = way_by_shape (shape_of kind) kind

-- what a change makes of its word's bits
abbrev pub made_by_way : Way → ℕ → ℕ → ℕ → ℕ
made_by_way Exchange from to bits = cond (bits == from) to bits
made_by_way Store from to bits = to
made_by_way (Sub number) from to bits = (bits + (2 ^ 64 - number)) % 2 ^ 64
made_by_way (Or number) from to bits = bit_or bits number

-- what a change finds, by the bits that its word had
abbrev pub got_by_way : Way → ℕ → ℕ → Got
got_by_way Exchange from bits = cond (bits == from) GotWon GotLost
got_by_way Store from bits = GotWon
got_by_way (Sub number) from bits = Bits bits
got_by_way (Or number) from bits = Bits bits

-- What a step makes of its word's bits. A call on a file leaves them; the calls' own steps are in FileCalls.
abbrev pub made_of_bits : Op → ℕ → ℕ
made_of_bits (LoadBits at) bits = bits
made_of_bits (ChangeBits kind at from to) bits = made_by_way (way_of kind) from to bits
made_of_bits (FileCall call slot) bits = bits

-- What a step finds, by the bits that its word had.
abbrev pub finds : Op → ℕ → Got
finds (LoadBits at) bits = Bits bits
finds (ChangeBits kind at from to) bits = got_by_way (way_of kind) from bits
finds (FileCall call slot) bits = Bits bits
