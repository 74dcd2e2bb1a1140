-- Tenants that a schedule may have are still such with one more, or with an old file for one. A schedule is a text that a
-- simulated world plays.
-- Used by: read_tenants, read_olds.
use Rattle.std.proofs.Common.{◌≡◌, ◌≢◌, ℕ, ◌+◌, ◌<◌, ◌≤◌, Bool, true, false, ◌||◌, Option, Some, List, [], ◌∷◌, ◌++◌, length, get_or, set, refl, sym, ap, subst, ◌∙◌, inl, inr, arith}
use Rattle.std.specs.Prelude.{All, bytes_eq, IsTrue, sum_by}
use Rattle.std.specs.List.{list_any}
use Rattle.arrayvec.specs.ArrayVec.{ArrayVec, with_items}
use Rattle.arrayvec.proofs.ArrayVecLemmas.{items-with_items}
use Rattle.std.proofs.lemmas.Bool.{cases_eq}
use Rattle.std.proofs.lemmas.List.{get_or-set_same, get_or-set_other, length-set, get_or_default}
use Rattle.std.proofs.lemmas.List.Sums.{sum_by-append, sum_by-cons, sum_by-set}
use Rattle.std.proofs.lemmas.List.Elements.{All-nil, All-cons, All-append, All-set}
use Rattle.std.proofs.lemmas.List.Quantifiers.{all_pairs_push}
use Rattle.std.proofs.lemmas.Slice.Eq.{bytes_eq-Decides}
use Rattle.mw_words.specs.declared.jobs.Entry.{Entry}
use Rattle.mw_words.specs.declared.limits.TheConstants.{MAX_QUOTA, MAX_WORDS}
use Rattle.mw_words.specs.Name.{is_name}
use Rattle.mw_world.specs.declared.config.Tenant.{Tenant}
use Rattle.mw_world.specs.Definition.State.{may_be_old, no_tenant}
use Rattle.mw_schedule.specs.Playable.{IsFree, IsNext, AreNamed, AreTenants}

pub neither : (a b : Bool) → (a || b) ≡ false → (a ≡ false) × (b ≡ false)
neither true b h = absurd cc
neither false b h = (refl, h)

true_false : (b : Bool) → b ≡ true → b ≡ false → ⊥
true_false b t f = absurd cc

differs : (xs ys : List ℕ) → bytes_eq xs ys ≡ false → xs ≢ ys
differs xs ys h same = true_false (bytes_eq xs ys) ((bytes_eq-Decides xs ys).1 same) h

-- if the test finds no tenant with a name, no tenant has it
pub none_named : (tenants : List Tenant) (name : List ℕ) → list_any (λ tenant. bytes_eq tenant.name.items name) tenants ≡ false → IsFree name tenants
none_named [] name h = All-nil (λ (tenant : Tenant). tenant.name.items ≢ name)
none_named (tenant ∷ tenants) name h =
    let parts = neither (bytes_eq tenant.name.items name) (list_any (λ (other : Tenant). bytes_eq other.name.items name) tenants) h in
    All-cons (λ (other : Tenant). other.name.items ≢ name) tenant tenants (differs tenant.name.items name parts.0) (none_named tenants name parts.1)

one : (P : Tenant → Type 0) (tenant : Tenant) → P tenant → All P (tenant ∷ [])
one P tenant h = All-cons P tenant [] h (All-nil P)

named_more : (tenants : List Tenant) (tenant : Tenant) → AreNamed tenants → IsTrue (is_name tenant.name.items) → IsFree tenant.name.items tenants → AreNamed (tenants ++ tenant ∷ [])
named_more tenants tenant names is new = record {
  named = All-append (λ (t : Tenant). IsTrue (is_name t.name.items)) tenants (tenant ∷ []) names.named (one (λ t. IsTrue (is_name t.name.items)) tenant is);
  once = all_pairs_push (λ (earlier later : Tenant). earlier.name.items ≢ later.name.items) tenants tenant names.once new;
}

-- the sum of the quotas with one more
pub sum_more : (tenants : List Tenant) (tenant : Tenant) → sum_by (λ (t : Tenant). t.quota) (tenants ++ tenant ∷ []) ≡ sum_by (λ (t : Tenant). t.quota) tenants + tenant.quota
sum_more tenants tenant =
    let quota : Tenant → ℕ = λ t. t.quota in
    omega (arith, sum_by-append quota tenants (tenant ∷ []), sum_by-cons quota tenant [])

-- the change in a tenant's old file, if it has one, is well formed
abbrev pub IsOldOf : Tenant → Type 0
IsOldOf tenant = IsTrue (may_be_old tenant.words tenant.quota tenant.old)

pub tenants_more : (pool free : ℕ) (tenants : List Tenant) (tenant : Tenant) → AreTenants pool tenants → sum_by (λ (t : Tenant). t.quota) tenants + free ≡ pool → IsNext tenants free tenant → AreTenants pool (tenants ++ tenant ∷ [])
tenants_more pool free tenants tenant are left next = record {
  names = named_more tenants tenant are.names next.named next.new;
  words = All-append (λ (t : Tenant). (1 ≤ t.words) × (t.words ≤ MAX_WORDS)) tenants (tenant ∷ []) are.words (one (λ t. (1 ≤ t.words) × (t.words ≤ MAX_WORDS)) tenant next.words);
  quotas = All-append (λ (t : Tenant). (1 ≤ t.quota) × (t.quota ≤ MAX_QUOTA)) tenants (tenant ∷ []) are.quotas (one (λ t. (1 ≤ t.quota) × (t.quota ≤ MAX_QUOTA)) tenant next.quota);
  old = All-append IsOldOf tenants (tenant ∷ []) are.old (one IsOldOf tenant (subst (λ (old : Option (ArrayVec Entry)). IsTrue (may_be_old tenant.words tenant.quota old)) (sym next.fresh) refl));
  slots = omega (arith, sum_more tenants tenant, next.slots, left);
}

-- the tenant with this change in an old file
abbrev pub with_old : Tenant → ArrayVec Entry → Tenant
with_old tenant change = record tenant { old = Some change }

-- A tenant gets an old file.
module _ (pool : ℕ) (tenants : List Tenant) (index : ℕ) (change : ArrayVec Entry) (are : AreTenants pool tenants) (there : index < length tenants) where
  abbrev tenant : Tenant
  tenant = get_or tenants index no_tenant

  -- its name stays
  same_name : (k : ℕ) (d : Tenant) → k < length tenants → (get_or (set tenants index (with_old tenant change)) k d).name ≡ (get_or tenants k d).name
  same_name k d low = elim (cases_eq k index) [
    | inl here ↦
        ap (λ (n : ℕ). (get_or (set tenants index (with_old tenant change)) n d).name) here
        ∙ ap (λ (one : Tenant). one.name) (get_or-set_same tenants index (with_old tenant change) d there)
        ∙ ap (λ (one : Tenant). one.name) (get_or_default tenants index no_tenant d there)
        ∙ ap (λ (n : ℕ). (get_or tenants n d).name) (sym here)
    | inr apart ↦ ap (λ (one : Tenant). one.name) (get_or-set_other tenants index k (with_old tenant change) d apart)
  ]

  pub tenants_with_old : IsOldOf (with_old tenant change) → AreTenants pool (set tenants index (with_old tenant change))
  tenants_with_old is = record {
    names = record {
      named = All-set (λ (t : Tenant). IsTrue (is_name t.name.items)) tenants index (with_old tenant change) (are.names.named index no_tenant there) are.names.named;
      once = λ i j d lt within.
          let low : j < length tenants = let long = length-set tenants index (with_old tenant change) in omega (arith, within, long) in
          let one_is = same_name i d (omega (arith, lt, low)) in
          let other_is = same_name j d low in
          λ same. are.names.once i j d lt low (sym (ap (λ (name : ArrayVec ℕ). name.items) one_is) ∙ same ∙ ap (λ (name : ArrayVec ℕ). name.items) other_is);
    };
    words = All-set (λ (t : Tenant). (1 ≤ t.words) × (t.words ≤ MAX_WORDS)) tenants index (with_old tenant change) (are.words index no_tenant there) are.words;
    quotas = All-set (λ (t : Tenant). (1 ≤ t.quota) × (t.quota ≤ MAX_QUOTA)) tenants index (with_old tenant change) (are.quotas index no_tenant there) are.quotas;
    old = All-set IsOldOf tenants index (with_old tenant change) is are.old;
    slots =
        let slots = are.slots in
        let changed = sum_by-set (λ (t : Tenant). t.quota) tenants index (with_old tenant change) no_tenant there in
        omega (arith, slots, changed);
  }

-- The list in memory after one tenant of it was written.
module _ (tenants : ArrayVec Tenant) (index : ℕ) (now : List Tenant) (read : Tenant) (change : ArrayVec Entry) (is : now ≡ tenants.items) (there : index < length tenants.items) where
  abbrev written : List Tenant
  written = set now index (with_old (get_or now index read) change)

  written_is : (with_items tenants written).items ≡ set tenants.items index (with_old (get_or tenants.items index no_tenant) change)
  written_is =
      items-with_items tenants written (length-set now index (with_old (get_or now index read) change) ∙ ap length is)
      ∙ ap (λ (all : List Tenant). set all index (with_old (get_or all index read) change)) is
      ∙ ap (λ (one : Tenant). set tenants.items index (with_old one change)) (get_or_default tenants.items index read no_tenant there)

  pub written_tenants : (pool : ℕ) → AreTenants pool tenants.items → IsOldOf (with_old (get_or tenants.items index no_tenant) change) → AreTenants pool (with_items tenants written).items
  written_tenants pool are old = subst (AreTenants pool) (sym written_is) (tenants_with_old pool tenants.items index change are there old)

  pub written_count : length (with_items tenants written).items ≡ length tenants.items
  written_count = ap length written_is ∙ length-set tenants.items index (with_old (get_or tenants.items index no_tenant) change)
