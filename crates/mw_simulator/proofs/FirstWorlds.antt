-- A simulated world at a start represents the world that the definition has at that start.
-- Used by: World::new, all_reopened, first_cells, fresh_tenant_states, idle_worker_states, openings.
use Rattle.std.specs.Prelude.{ℕ, zero, suc, ◌≡◌, ◌+◌, ◌<◌, ◌≤◌, Bool, true, false, not, List, [], ◌∷◌, ◌++◌, length, replicate, slice_get, is_none, nat_le, IfOk, IfSome, IsTrue, MatchOption, Result, Some, None, Vec}
use Rattle.std.specs.declared.option.Option.{Option}
use Rattle.std.specs.declared.alloc.Global.{Global}
use Rattle.std.proofs.Common.{refl, sym, ap, subst, ◌∙◌, inl, inr, arith, get_or}
use Rattle.std.proofs.lemmas.Bool.{and_parts}
use Rattle.std.proofs.lemmas.List.{get_or_past, length_push}
use Rattle.std.proofs.lemmas.List.Elements.{All-replicate}
use Rattle.std.proofs.lemmas.Option.{get_or_from_slice_get, slice_get-get_or, slice_get_cases, slice_get_within}
use Rattle.arrayvec.specs.ArrayVec.{ArrayVec}
use Rattle.mw_words.specs.declared.jobs.Entry.{Entry}
use Rattle.mw_words.specs.Change.{AreWords, is_change, put}
use Rattle.mw_words.specs.declared.limits.TheConstants.{MAX_VALUE}
use Rattle.mw_world_file.specs.declared.simulated_file.SimulatedFile.{SimulatedFile}
use Rattle.mw_world.specs.declared.old_files.TheConstants.{OLD_ENTRIES, OLD_PLACES}
use Rattle.mw_world_file.specs.Books.{Represents as ShowsFile}
use Rattle.mw_world.specs.Files.State.{File, broken, file_of}
use Rattle.mw_world_file.specs.StartValues.{IsGiven}
use Rattle.mw_world.specs.declared.config.Config.{Config}
use Rattle.mw_world.specs.Definition.History.{no_history}
use Rattle.mw_world.specs.Definition.State.{TenantState, tenant_state_at, first_openings, first_cells, idle_worker_state, is_old, may_be_old, no_tenant, old_entries, started, tenant_at, tenants_of}
use Rattle.mw_world_memory.specs.declared.tenants.TenantState.{TenantState as TenantStateInMemory}
use Rattle.mw_world_memory.specs.declared.workers.WorkerState.{WorkerState}
use Rattle.mw_simulator.specs.declared.world.World.{World}
use Rattle.mw_world_memory.specs.Claims.{Recalls}
use Rattle.mw_world_memory.specs.Openings.{AreOpenings, Gave, Openings, opening_at}
use Rattle.mw_world_memory.specs.Workers.{worker_state_of}
use Rattle.mw_simulator.specs.Representation.{Represents, RepresentsTenant}
use Rattle.mw_simulator.specs.Starts.{AreFresh, AreGiven, AreIdle, AreTenants, Each, EachOf, HaveWords}
use Rattle.mw_world_memory.specs.BitsMatch.{BitsMatch}
use Rattle.mw_world_memory.proofs.FirstBits.{first_cells_fit}

pub each_none : {A : Type 0} (P : ℕ → A → Type 0) → Each P []
each_none {A} P index x is = absurd (cc)

-- one element more
pub each_more : {A : Type 0} (P : ℕ → A → Type 0) (xs : List A) (x : A) → Each P xs → P (length xs) x → Each P (xs ++ x ∷ [])
each_more P [] x all here zero y is = let same : x ≡ y = cc in subst (P 0) same here
each_more P [] x all here (suc index) y is = absurd (cc)
each_more P (z ∷ zs) x all here zero y is = all zero y is
each_more P (z ∷ zs) x all here (suc index) y is = each_more (λ k. P (suc k)) zs x (λ k a e. all (suc k) a e) here index y is

-- workers without requests
pub idle_none : AreIdle 0 []
idle_none = record { count = refl; each = each_none (λ worker worker_state. worker_state_of worker_state ≡ idle_worker_state) }

pub idle_more : (workers : ℕ) (worker_states : List WorkerState) (worker_state : WorkerState) → AreIdle workers worker_states → worker_state_of worker_state ≡ idle_worker_state → AreIdle (workers + 1) (worker_states ++ worker_state ∷ [])
idle_more workers worker_states worker_state are is = record {
  count = length_push worker_states worker_state ∙ ap (λ n. n + 1) are.count;
  each = each_more (λ worker worker_state. worker_state_of worker_state ≡ idle_worker_state) worker_states worker_state are.each is;
}

reads_same : {A : Type 0} (xs : List A) (index : ℕ) (x y : A) → x ≡ get_or xs index x → slice_get xs index ≡ Some y → x ≡ y
reads_same xs index x y is there = is ∙ get_or_from_slice_get xs index y x there

-- one element more, for the element that was read at its index
pub each_of_more : {A B : Type 0} (R : ℕ → A → B → Type 0) (xs : List A) (ys : List B) (index : ℕ) (x : A) (y : B) → length ys ≡ index → x ≡ get_or xs index x → R index x y
    → EachOf R xs ys → EachOf R xs (ys ++ y ∷ [])
each_of_more {A} {B} R xs ys index x y long is so all = each_more (λ k b. (a : A) → slice_get xs k ≡ Some a → R k a b) ys y all here
  where
    here : (a : A) → slice_get xs (length ys) ≡ Some a → R (length ys) a y
    here a there =
        let read : slice_get xs index ≡ Some a = subst (λ k. slice_get xs k ≡ Some a) long there in
        subst (λ k. R k a y) (sym long) (subst (λ b. R index b y) (reads_same xs index x a is read) so)

-- the words that a file gives are as many as the file has
long_given : (book : SimulatedFile) (opening : Option (Vec ℕ Global)) (words : ℕ) → IsGiven book opening → length book.contents.items ≡ words → IfSome opening (λ given. length given.items ≡ words)
long_given book (Some given) words gave long = ap length gave.1 ∙ long
long_given book None words gave long = tt

one_gave : (book : SimulatedFile) (opening : Option (Vec ℕ Global)) (words : List ℕ) (up : Bool) → IsGiven book opening → book.contents.items ≡ words → up ≡ not book.has_failed
    → MatchOption opening (up ≡ false) (λ given. (up ≡ true) × (given.items ≡ words))
one_gave book (Some given) words up gave same is = (is ∙ ap not gave.0, gave.1 ∙ same)
one_gave book None words up gave same is = is ∙ ap not gave

module _ (tenant_states : List TenantStateInMemory) (openings : Openings) (given : AreGiven tenant_states openings) where
  -- the tenant whose file gave this
  at_tenant : (P : Option (Vec ℕ Global) → Type 0) (tenant : ℕ) → tenant < length openings
      → ((shown : TenantStateInMemory) (opening : Option (Vec ℕ Global)) → slice_get tenant_states tenant ≡ Some shown → IsGiven shown.book opening → P opening) → P (opening_at openings tenant)
  at_tenant P tenant low then = elim ((slice_get_cases tenant_states tenant).1) [
    | inl shown ↦
        then shown.0 (opening_at openings tenant) shown.2 (given.each tenant (opening_at openings tenant) (slice_get-get_or openings tenant None low) shown.0 shown.2)
    | inr past ↦ absurd (omega (arith, low, past.0, given.count))
  ]

  pub are_openings : (config : Config) → AreTenants config tenant_states → AreOpenings config openings
  are_openings config tenants = record {
    one_each = given.count ∙ tenants.one_each;
    as_long = λ tenant. elim ((slice_get_cases openings tenant).1) [
      | inl there ↦ at_tenant (λ o. IfSome o (λ words. length words.items ≡ (tenant_at config tenant).words)) tenant there.1
          (λ shown opening is gave. long_given shown.book opening (tenant_at config tenant).words gave (tenants.as_long tenant shown is))
      | inr past ↦ subst (λ o. IfSome o (λ words. length words.items ≡ (tenant_at config tenant).words)) (sym (get_or_past openings tenant None past.0)) tt
    ];
  }

  pub all_gave : (words : ℕ → List ℕ) (is_up : ℕ → Bool) → HaveWords tenant_states words is_up → Gave openings words is_up
  all_gave words is_up have tenant low =
      at_tenant (λ o. MatchOption o (is_up tenant ≡ false) (λ given. (is_up tenant ≡ true) × (given.items ≡ words tenant))) tenant low
      (λ shown opening is gave. one_gave shown.book opening (words tenant) (is_up tenant) gave ((have tenant shown is).0) ((have tenant shown is).1))

-- the tenants in memory represent these
abbrev pub AreShown : Config → List TenantStateInMemory → (ℕ → TenantState) → Type 0
AreShown config tenant_states made = Each (λ tenant shown. RepresentsTenant (tenant_at config tenant).words shown (made tenant)) tenant_states

module _ (config : Config) (tenant_states : List TenantStateInMemory) (made : ℕ → TenantState) (shows : AreShown config tenant_states made) where
  pub are_tenants : length tenant_states ≡ tenants_of config → AreTenants config tenant_states
  are_tenants one_each = record { one_each = one_each; as_long = λ tenant shown is. (shows tenant shown is).words_are }

  pub have_words : ((tenant : ℕ) → (made tenant).is_up ≡ not (made tenant).file.has_failed) → HaveWords tenant_states (λ tenant. (made tenant).file.contents) (λ tenant. (made tenant).is_up)
  have_words up tenant shown is = (sym (shows tenant shown is).book.same_contents, up tenant ∙ ap not (shows tenant shown is).book.same_failed)

-- a tenant's first file; with a change, its record is open in it
abbrev pub file_with : ℕ → Option (ArrayVec Entry) → File
file_with words old = record (file_of (put (replicate words 0) (old_entries old))) { has_failed = not (is_none old) }

-- the book of a new file represents it, and so does the book of an old one
pub shows_new : {E : Type 0} (words : ℕ) (old : Option (ArrayVec Entry)) (made : Result SimulatedFile E) → old ≡ None → IfOk made (λ book. ShowsFile book (file_of (replicate words 0)))
    → IfOk made (λ book. ShowsFile book (file_with words old))
shows_new words old made is shows = subst (λ (one : Option (ArrayVec Entry)). IfOk made (λ book. ShowsFile book (file_with words one))) (sym is) shows

pub shows_old : {E : Type 0} (words : ℕ) (old : Option (ArrayVec Entry)) (change : ArrayVec Entry) (made : Result SimulatedFile E) → old ≡ Some change
    → IfOk made (λ book. ShowsFile book (broken (file_of (put (replicate words 0) change.items)) [])) → IfOk made (λ book. ShowsFile book (file_with words old))
shows_old words old change made is shows = subst (λ (one : Option (ArrayVec Entry)). IfOk made (λ book. ShowsFile book (file_with words one))) (sym is) shows

-- the change in an old file is well formed, and the file has enough places
pub old_parts : (words quota : ℕ) (old : Option (ArrayVec Entry)) (change : ArrayVec Entry) → old ≡ Some change → IsTrue (may_be_old words quota old)
    → IsTrue (is_change words change.items) × IsTrue (nat_le (length change.items) OLD_ENTRIES) × IsTrue (nat_le quota OLD_PLACES)
old_parts words quota old change is formed =
    let parts = and_parts (is_old words change.items) (nat_le quota OLD_PLACES) (subst (λ (one : Option (ArrayVec Entry)). IsTrue (may_be_old words quota one)) is formed) in
    let two = and_parts (is_change words change.items) (nat_le (length change.items) OLD_ENTRIES) parts.0 in
    (two.0, two.1, parts.1)

-- the tenants of a new world
abbrev pub first_tenant_states : Config → ℕ → TenantState
first_tenant_states config tenant = tenant_state_at (first_openings config tenant)

-- tenants in memory that are as at first represent these
pub fresh_shown : (config : Config) (tenant_states : List TenantStateInMemory) → AreFresh config.tenants.items tenant_states → AreShown config tenant_states (first_tenant_states config)
fresh_shown config tenant_states are tenant shown is =
    let low : tenant < length config.tenants.items = omega (arith, slice_get_within tenant_states tenant shown is, are.count) in
    are.each tenant shown is (tenant_at config tenant) (slice_get-get_or config.tenants.items tenant no_tenant low)

pub zeros_are_words : (count : ℕ) → AreWords (replicate count 0)
zeros_are_words count = All-replicate (λ v. v ≤ MAX_VALUE) count 0 (omega arith)

pub not_twice : (b : Bool) → b ≡ not (not b)
not_twice true = refl
not_twice false = refl

-- a world in memory at a start
pub shows_start : (world : World) (made : ℕ → TenantState) → BitsMatch world.cells (first_cells world.config (λ tenant. (made tenant).file.contents) (λ tenant. (made tenant).is_up))
    → AreIdle world.config.workers world.worker_states.items → Recalls world.claims no_history → AreShown world.config world.tenant_states.items made
    → ((tenant : ℕ) → (made tenant).is_up ≡ true → AreWords (made tenant).file.contents) → Represents world (started world.config made)
shows_start world made tied idle recalls shows are = record {
  tied = tied;
  fit = first_cells_fit world.config (λ tenant. (made tenant).file.contents) (λ tenant. (made tenant).is_up) world.configured are;
  worker_states = idle.each;
  idle = λ worker past. refl;
  homes = λ worker actor is. absurd (cc);
  claims = recalls;
  tenant_states = shows;
}
