-- More room for marks and claims, or a change of one tenant, leaves the other tenants' files unchanged.
-- Used by: World::reserve, file, begin, call, come, among others.
use Rattle.std.specs.Prelude.{ℕ, ◌≡◌, ◌≢◌, ◌<◌, List, length, slice_get, slice_set, slice_index_or, Option, Some, None}
use Rattle.std.specs.Option.{option_map}
use Rattle.std.proofs.Common.{refl, sym, ap, ◌∙◌, inl, inr}
use Rattle.std.proofs.lemmas.Bool.{cases_eq}
use Rattle.mw_world_memory.specs.declared.tenants.TenantState.{TenantState as TenantStateInMemory}
use Rattle.mw_world_memory.specs.declared.lines.Lines.{Lines}
use Rattle.mw_simulator.specs.declared.world.World.{World}
use Rattle.mw_world_memory.specs.Claims.{SameClaims}
use Rattle.mw_world_memory.specs.Lines.{SameLines}
use Rattle.mw_simulator.specs.UnchangedParts.{IsUnchanged, TenantContents, SameBooks, SameBooksBut, book_at, kept_at, kept_of}
use Rattle.mw_simulator.proofs.WorldAfterStep.{element}
use Rattle.mw_simulator.proofs.Frames.{set_here, set_else}

pub unchanged_self : (world : World) → IsUnchanged world world
unchanged_self world = record { config = refl; cells = refl; worker_states = refl; claims = record { claims = refl; fault_decided = refl }; tenants = λ tenant. refl }

-- What is told of each element stays, if it stays of the element that was set.
told_after : {A B : Type 0} (told : A → B) (xs : List A) (i : ℕ) (was x : A) → i < length xs → was ≡ slice_index_or xs i was → told x ≡ told was
    → (k : ℕ) → option_map told (slice_get (slice_set xs i x) k) ≡ option_map told (slice_get xs k)
told_after told xs i was x there is same k = elim (cases_eq k i) [
  | inl e ↦
      ap (λ j. option_map told (slice_get (slice_set xs i x) j)) e ∙ ap (λ o. option_map told o) (set_here xs i x there) ∙ ap Some same
      ∙ ap (λ o. option_map told o) (sym (element xs i was there is)) ∙ ap (λ j. option_map told (slice_get xs j)) (sym e)
  | inr apart ↦ ap (λ o. option_map told o) (set_else xs i k x apart)
]

-- room was made for a tenant's marks and for the claims
pub room_alone : (old new : World) (tenant : ℕ) (was : TenantStateInMemory) (lines : Lines) → new.config ≡ old.config → new.cells ≡ old.cells → new.worker_states ≡ old.worker_states
    → new.tenant_states.items ≡ slice_set old.tenant_states.items tenant (record was { lines = lines }) → tenant < length old.tenant_states.items → was ≡ slice_index_or old.tenant_states.items tenant was
    → SameLines was.lines lines → SameClaims old.claims new.claims → IsUnchanged old new
room_alone old new tenant was lines config cells worker_states tenant_states there is same claims = record {
  config = config;
  cells = cells;
  worker_states = worker_states;
  claims = claims;
  tenants = λ k. ap (λ all. kept_at all k) tenant_states ∙ told_after kept_of old.tenant_states.items tenant was (record was { lines = lines }) there is all_kept k;
}
  where
    all_kept : kept_of (record was { lines = lines }) ≡ kept_of was
    all_kept = ap (λ closed. record { book = was.book; quota = was.quota; asked = was.asked; closed = closed; lines = lines.lines.items }) (ap (λ marks. marks.items) same.closed)
        ∙ ap (λ all. record { book = was.book; quota = was.quota; asked = was.asked; closed = was.lines.closed.items; lines = all }) same.lines

-- a tenant was changed, but not its file
pub books_kept : (tenant_states : List TenantStateInMemory) (tenant : ℕ) (was after : TenantStateInMemory) → tenant < length tenant_states → was ≡ slice_index_or tenant_states tenant was → after.book ≡ was.book
    → (k : ℕ) → option_map (λ tenant_state. tenant_state.book) (slice_get (slice_set tenant_states tenant after) k) ≡ option_map (λ tenant_state. tenant_state.book) (slice_get tenant_states k)
books_kept tenant_states tenant was after there is same = told_after (λ tenant_state. tenant_state.book) tenant_states tenant was after there is same

-- a tenant got another file
pub books_kept_but : (tenant_states : List TenantStateInMemory) (place tenant : ℕ) (after : TenantStateInMemory) → place ≡ tenant
    → (k : ℕ) → k ≢ tenant → option_map (λ tenant_state. tenant_state.book) (slice_get (slice_set tenant_states place after) k) ≡ option_map (λ tenant_state. tenant_state.book) (slice_get tenant_states k)
books_kept_but tenant_states place tenant after same k apart = ap (λ o. option_map (λ tenant_state. tenant_state.book) o) (set_else tenant_states place k after (λ e. apart (e ∙ same)))

-- that file is the one that it has
pub book_here : (tenant_states : List TenantStateInMemory) (place tenant : ℕ) (after : TenantStateInMemory) → place ≡ tenant → tenant < length tenant_states
    → option_map (λ tenant_state. tenant_state.book) (slice_get (slice_set tenant_states place after) tenant) ≡ Some after.book
book_here tenant_states place tenant after same there =
    ap (λ i. option_map (λ tenant_state. tenant_state.book) (slice_get (slice_set tenant_states i after) tenant)) same
    ∙ ap (λ o. option_map (λ tenant_state. tenant_state.book) o) (set_here tenant_states tenant after there)

-- no tenant was changed
pub tenant_states_stay : (old new : World) → new.tenant_states ≡ old.tenant_states → SameBooks old new
tenant_states_stay old new same k = ap (λ tenant_states. option_map (λ tenant_state. tenant_state.book) (slice_get tenant_states.items k)) same

-- in an unchanged world all files are unchanged
pub unchanged_books : (old new : World) → IsUnchanged old new → SameBooks old new
unchanged_books old new unchanged k = sym (book_of new) ∙ ap (λ o. option_map (λ (kept : TenantContents). kept.book) o) (unchanged.tenants k) ∙ book_of old
  where
    book_of : (world : World) → option_map (λ (kept : TenantContents). kept.book) (kept_at world.tenant_states.items k) ≡ book_at world k
    book_of world = by (slice_get world.tenant_states.items k)
      where
        by : (o : Option TenantStateInMemory) → option_map (λ (kept : TenantContents). kept.book) (option_map kept_of o) ≡ option_map (λ tenant_state. tenant_state.book) o
        by None = refl
        by (Some tenant_state) = refl

pub books_more : (old mid new : World) → SameBooks old mid → SameBooks mid new → SameBooks old new
books_more old mid new first then k = then k ∙ first k

pub books_more_but : (served : ℕ) (old mid new : World) → SameBooksBut served old mid → SameBooksBut served mid new → SameBooksBut served old new
books_more_but served old mid new first then k apart = then k apart ∙ first k apart
