-- A job that is well formed for its tenant is one that a request may have, and its entries are in range.
-- Used by: Actor::new, mw_law_runs, mw_engine, mw_simulator.
use Rattle.std.specs.Prelude.{ℕ, ◌≡◌, ◌≤◌, ◌<◌, ◌^◌, ◌&&◌, Bool, true, false, List, [], ◌∷◌, length, nat_le, slice_index_or}
use Rattle.std.specs.List.{list_all}
use Rattle.std.proofs.Common.{refl, sym, subst, arith}
use Rattle.std.proofs.lemmas.Bool.Decides.{nat_tests}
use Rattle.std.proofs.lemmas.List.Sums.{AllPass-from_list_all}
use Rattle.mw_words.specs.declared.limits.TheConstants.{MAX_WORDS, MAX_ENTRIES, MAX_WORKERS, MAX_POOL}
use Rattle.mw_words.specs.declared.jobs.Entry.{Entry}
use Rattle.mw_words.specs.declared.jobs.Job.{Job}
use Rattle.mw_words.specs.declared.jobs.Job.TheVariants.{Get, Cas}
use Rattle.mw_words.specs.Change.{is_in_range, is_well_formed, rises}
use Rattle.mw_actor.specs.declared.points.Point.{Point}
use Rattle.mw_actor.specs.ActorState.{entries_of_job, first_point}
use Rattle.mw_actor.specs.Ranges.{AreEntriesInRange, IsEntryInRange, IsFormed, IsPointInRange, IsInRange}

-- a test of two conditions that holds tells both
both : (one other : Bool) → (one && other) ≡ true → (one ≡ true) × (other ≡ true)
both true true e = (refl, refl)
both true false e = (refl, e)
both false other e = absurd (grind (arith, e))

at_most : (m n : ℕ) → nat_le m n ≡ true → m ≤ n
at_most m n is = grind (arith, nat_tests, is)

entry_fits : (words : ℕ) (entry : Entry) → is_in_range words entry ≡ true → words ≤ MAX_WORDS → IsEntryInRange entry
entry_fits words entry is few = grind (arith, nat_tests, is, few)

-- the entries of a well-formed job are in range, if the tenant has at most MAX_WORDS words
pub well_formed_in_range : (words : ℕ) (job : Job) → is_well_formed words job ≡ true → words ≤ MAX_WORDS → AreEntriesInRange (entries_of_job job)
well_formed_in_range words (Get address) is few = (omega arith, λ k d low. absurd (omega (arith, low)))
well_formed_in_range words (Cas entries) is few =
    let count : ℕ = length entries.items in
    let small : Bool = nat_le 1 count && nat_le count MAX_ENTRIES in
    let whole = both (small && list_all (is_in_range words) entries.items) (rises entries.items) is in
    let each = both small (list_all (is_in_range words) entries.items) whole.0 in
    let counts = both (nat_le 1 count) (nat_le count MAX_ENTRIES) each.0 in
    (at_most count MAX_ENTRIES counts.1, λ k d low. entry_fits words (slice_index_or entries.items k d) (AllPass-from_list_all (is_in_range words) entries.items each.1 k d low) few)

-- the entries of a job that a request may have are in range
pub formed_in_range : (job : Job) → IsFormed job → AreEntriesInRange (entries_of_job job)
formed_in_range (Get address) is = (omega arith, λ k d low. absurd (omega (arith, low)))
formed_in_range (Cas entries) is = well_formed_in_range MAX_WORDS (Cas entries) is (omega arith)

-- an entry in range for a tenant's words is in range for the most words
in_range_of_more : (words : ℕ) (entry : Entry) → is_in_range words entry ≡ true → words ≤ MAX_WORDS → is_in_range MAX_WORDS entry ≡ true
in_range_of_more words entry is few = grind (arith, nat_tests, is, few)

and_both : (one other : Bool) → one ≡ true → other ≡ true → (one && other) ≡ true
and_both true other is so = so
and_both false other is so = is

all_of_more : (words : ℕ) (entries : List Entry) → list_all (is_in_range words) entries ≡ true → words ≤ MAX_WORDS → list_all (is_in_range MAX_WORDS) entries ≡ true
all_of_more words [] is few = refl
all_of_more words (entry ∷ entries) is few =
    let each = both (is_in_range words entry) (list_all (is_in_range words) entries) is in
    and_both (is_in_range MAX_WORDS entry) (list_all (is_in_range MAX_WORDS) entries) (in_range_of_more words entry each.0 few) (all_of_more words entries each.1 few)

-- a well-formed job may be a request's, if the tenant has at most MAX_WORDS words
pub well_formed_is_formed : (words : ℕ) (job : Job) → is_well_formed words job ≡ true → words ≤ MAX_WORDS → IsFormed job
well_formed_is_formed words (Get address) is few = tt
well_formed_is_formed words (Cas entries) is few =
    let count : ℕ = length entries.items in
    let small : Bool = nat_le 1 count && nat_le count MAX_ENTRIES in
    let whole = both (small && list_all (is_in_range words) entries.items) (rises entries.items) is in
    let each = both small (list_all (is_in_range words) entries.items) whole.0 in
    and_both (small && list_all (is_in_range MAX_WORDS) entries.items) (rises entries.items)
    (and_both small (list_all (is_in_range MAX_WORDS) entries.items) each.0 (all_of_more words entries.items each.1 few)) whole.1

first_fits : (tenant : ℕ) (job : Job) → IsPointInRange [] (first_point tenant job)
first_fits tenant (Get address) = tt
first_fits tenant (Cas entries) = tt

-- a request at its first point is in range
begins : (worker tenant quota pool : ℕ) (job : Job) → worker < MAX_WORKERS → quota < 2 ^ 8 → (1 ≤ pool) × (pool ≤ MAX_POOL) → IsFormed job
    → IsInRange (record { worker = worker; tenant = tenant; quota = quota; pool = pool; job = job; others = []; point = first_point tenant job })
begins worker tenant quota pool job low small some is = record {
  worker = low;
  quota = small;
  pool = some;
  formed = is;
  job = formed_in_range job is;
  others = (omega arith, λ k d low. absurd (omega (arith, low)));
  point = first_fits tenant job;
}

-- the same of a request whose point and entries are equal to the first ones
pub begins_in_range : (worker tenant quota pool : ℕ) (job : Job) (others : List Entry) (point : Point) → others ≡ [] → point ≡ first_point tenant job → worker < MAX_WORKERS → quota < 2 ^ 8 → (1 ≤ pool) × (pool ≤ MAX_POOL) → IsFormed job
    → IsInRange (record { worker = worker; tenant = tenant; quota = quota; pool = pool; job = job; others = others; point = point })
begins_in_range worker tenant quota pool job others point none starts low small some is =
    subst (λ o. IsInRange (record { worker = worker; tenant = tenant; quota = quota; pool = pool; job = job; others = o; point = point })) (sym none)
    (subst (λ p. IsInRange (record { worker = worker; tenant = tenant; quota = quota; pool = pool; job = job; others = []; point = p })) (sym starts)
    (begins worker tenant quota pool job low small some is))
