-- Defines the value that each word of a tenant represents, also while a change works on it.
-- Used by: mw_law_runs, mw_law_store, mw_law_threads.
use Rattle.std.specs.Prelude.{ℕ, zero, suc, ◌+◌, ◌==◌, if◌then◌else◌}
use Rattle.mw_words.specs.declared.statuses.Status.{Status}
use Rattle.mw_words.specs.declared.statuses.Status.TheVariants.{Yes}
use Rattle.mw_words.specs.declared.words.Word.{Word}
use Rattle.mw_words.specs.declared.words.Word.TheVariants.{Plain, Planted, Held, Dirty}
use Rattle.mw_world.specs.Definition.Cells.{Cells}

-- The index of the entry of this address among a slot's entries, from a first one on, of so many that are left. If
-- there is none, the index after the last.
abbrev pub index_from : Cells → ℕ → ℕ → ℕ → ℕ → ℕ
index_from cells slot address first zero = first
index_from cells slot address first (suc left) = if cells.addrs slot first == address then first else index_from cells slot address (first + 1) left

-- the index of the entry of this address in a slot
abbrev pub index_of : Cells → ℕ → ℕ → ℕ
index_of cells slot address = index_from cells slot address 0 (cells.counts slot)

-- the value of a held word: the new one if the status is Yes, else the expected one
abbrev pub held_value : Status → ℕ → ℕ → ℕ
held_value Yes expected new = new
held_value status expected new = expected

-- The value that a word represents. An attempt represents the expected value of the entry that its worker's row
-- names.
abbrev pub value_of : Cells → ℕ → Word → ℕ
value_of cells address (Plain value) = value
value_of cells address (Planted worker attempt) = cells.expecteds (cells.rows worker).slot (cells.rows worker).entry
value_of cells address (Held slot seq) =
    held_value (cells.statuses slot) (cells.expecteds slot (index_of cells slot address)) (cells.new_values slot (index_of cells slot address))
value_of cells address (Dirty slot value) = value

-- the value of a tenant's word
abbrev pub logical : Cells → ℕ → ℕ → ℕ
logical cells tenant address = value_of cells address (cells.words tenant address)
