-- Defines a tenant's words, the changes to them, and which jobs a tenant may ask for.
-- Used by: many crates from mw_line on, jobs.rt. A change here changes what the whole server promises: begin with the rows on
-- a job in CONTRIBUTING.
use Rattle.std.specs.Prelude.{ℕ, ◌+◌, ◌==◌, ◌&&◌, Bool, true, List, [], ◌∷◌, length, nat_le, nat_lt, slice_index, slice_set, All, ◌≤◌}
use Rattle.std.specs.List.{list_all}
use Rattle.mw_words.specs.declared.limits.TheConstants.{MAX_VALUE, MAX_ENTRIES}
use Rattle.mw_words.specs.declared.jobs.Entry.{Entry}
use Rattle.mw_words.specs.declared.jobs.Job.{Job}
use Rattle.mw_words.specs.declared.jobs.Job.TheVariants.{Get, Cas}

-- A tenant's words are a list. At each address below its length it has the value of the word there, which is at most
-- MAX_VALUE.
abbrev pub AreWords : List ℕ → Type 0
AreWords words = All (λ v. v ≤ MAX_VALUE) words

-- the word at an address; past the last word 0, and no request of a tenant comes there
abbrev pub word_at : List ℕ → ℕ → ℕ
word_at words addr = slice_index words addr

-- each entry's word has the expected value
abbrev pub fits : List ℕ → List Entry → Bool
fits words [] = true
fits words (e ∷ es) = (word_at words e.addr == e.expected) && fits words es

-- the words with each entry's new value at its address; an entry past the last word changes nothing
abbrev pub put : List ℕ → List Entry → List ℕ
put words [] = words
put words (e ∷ es) = put (slice_set words e.addr e.new) es

-- the entry's word exists, and its values are values of a word
abbrev pub is_in_range : ℕ → Entry → Bool
is_in_range words e = nat_lt e.addr words && nat_le e.expected MAX_VALUE && nat_le e.new MAX_VALUE

-- the first address is at least this lowest one, and each address is above the one before it
abbrev pub rises_from : ℕ → List Entry → Bool
rises_from lowest [] = true
rises_from lowest (e ∷ es) = nat_le lowest e.addr && rises_from (e.addr + 1) es

-- each address is above the one before it
abbrev pub rises : List Entry → Bool
rises es = rises_from 0 es

-- These entries are a well-formed change of a tenant with so many words: 1 to MAX_ENTRIES of them, each in range, at
-- strictly rising addresses.
abbrev pub is_change : ℕ → List Entry → Bool
is_change words es = nat_le 1 (length es) && nat_le (length es) MAX_ENTRIES && list_all (is_in_range words) es && rises es

-- a tenant with so many words may ask for this job
abbrev pub is_well_formed : ℕ → Job → Bool
is_well_formed words (Get addr) = nat_lt addr words
is_well_formed words (Cas entries) = is_change words entries.items
