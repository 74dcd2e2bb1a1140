-- When all new tenants have taken over the old tenants' marks, they are the definition's tenants after the start.
-- Used by: World::restart, follow.
use Rattle.std.specs.Prelude.{ℕ, ◌≡◌, ◌+◌, ◌<◌, ◌≤◌, List, length, slice_get, slice_set, slice_index_or, Option, Some, None, Bool, not}
use Rattle.std.specs.Option.{option_map}
use Rattle.std.proofs.Common.{refl, sym, ap, subst, ◌∙◌, inl, inr, arith}
use Rattle.std.proofs.lemmas.Bool.{cases_lt}
use Rattle.std.proofs.lemmas.List.{length-set}
use Rattle.std.proofs.lemmas.Option.{slice_get_cases, slice_get_within}
use Rattle.mw_world_file.specs.declared.simulated_file.SimulatedFile.{SimulatedFile}
use Rattle.mw_world_file.specs.SoundBooks.{HasSound}
use Rattle.mw_world.specs.declared.config.Config.{Config}
use Rattle.mw_world.specs.declared.events.Stop.{Stop}
use Rattle.mw_world.specs.Definition.State.{tenant_at}
use Rattle.mw_world_memory.specs.declared.tenants.TenantState.{TenantState as TenantStateInMemory}
use Rattle.mw_world_memory.specs.Lines.{OneHasRoom}
use Rattle.mw_world_memory.specs.TenantBooks.{AreSound}
use Rattle.mw_simulator.specs.declared.world.World.{World}
use Rattle.mw_simulator.specs.Starts.{HaveWords}
use Rattle.mw_simulator.specs.Stops.{AllFollow, AreReopened, AreReopening, EachHasRoom, Follows, SameBooksIn}
use Rattle.mw_simulator.proofs.WorldAfterStep.{element}
use Rattle.mw_simulator.proofs.Frames.{set_here, set_else}
use Rattle.mw_simulator.proofs.Unchanged.{books_kept}

-- The first `count` tenants have taken over the marks; all others are unchanged in both lists.
pub record HaveFollowed (olds parts nows afters : List TenantStateInMemory) (count : ℕ) : Type 0 where
  pub olds_long : length nows ≡ length olds
  pub long : length afters ≡ length parts
  pub books : SameBooksIn parts afters
  pub before : (tenant : ℕ) → count ≤ tenant → slice_get nows tenant ≡ slice_get olds tenant
  pub after : (tenant : ℕ) → count ≤ tenant → slice_get afters tenant ≡ slice_get parts tenant
  pub done : (tenant : ℕ) (old part new : TenantStateInMemory) → tenant < count → slice_get olds tenant ≡ Some old → slice_get parts tenant ≡ Some part
      → slice_get afters tenant ≡ Some new → Follows old part new

pub none_followed : (olds parts : List TenantStateInMemory) → HaveFollowed olds parts olds parts 0
none_followed olds parts = record {
  olds_long = refl;
  long = refl;
  books = λ tenant. refl;
  before = λ tenant low. refl;
  after = λ tenant low. refl;
  done = λ tenant old part new low a b c. absurd (omega (arith, low));
}

some_same : {A : Type 0} (o : Option A) (x y : A) → o ≡ Some x → o ≡ Some y → x ≡ y
some_same o x y a b = cc

module _ (olds parts nows afters : List TenantStateInMemory) (count : ℕ) (old part : TenantStateInMemory) (have : HaveFollowed olds parts nows afters count)
    (there_old : count < length nows) (there : count < length afters) (at_old : old ≡ slice_index_or nows count old) (at_part : part ≡ slice_index_or afters count part) where
  was_old : slice_get olds count ≡ Some old
  was_old = sym (have.before count (omega arith)) ∙ element nows count old there_old at_old

  was_part : slice_get parts count ≡ Some part
  was_part = sym (have.after count (omega arith)) ∙ element afters count part there at_part

  -- the next tenant has room for its marks
  pub room_at : EachHasRoom olds parts → OneHasRoom old.lines part.lines
  room_at room = room count part was_part old was_old

  -- one tenant more
  pub one_followed : (was new : TenantStateInMemory) → Follows old part new → HaveFollowed olds parts (slice_set nows count was) (slice_set afters count new) (count + 1)
  one_followed was new follows = record {
    olds_long = length-set nows count was ∙ have.olds_long;
    long = length-set afters count new ∙ have.long;
    books = λ tenant. books_kept afters count part new there at_part follows.book tenant ∙ have.books tenant;
    before = λ tenant low. set_else nows count tenant was (λ e. omega (arith, e, low)) ∙ have.before tenant (omega (arith, low));
    after = λ tenant low. set_else afters count tenant new (λ e. omega (arith, e, low)) ∙ have.after tenant (omega (arith, low));
    done = done;
  }
    where
      here : (a b c : TenantStateInMemory) → slice_get olds count ≡ Some a → slice_get parts count ≡ Some b → slice_get (slice_set afters count new) count ≡ Some c → Follows a b c
      here a b c at_a at_b at_c =
          subst (λ o. Follows o b c) (some_same (slice_get olds count) old a was_old at_a)
          (subst (λ o. Follows old o c) (some_same (slice_get parts count) part b was_part at_b)
          (subst (λ o. Follows old part o) (some_same (slice_get (slice_set afters count new) count) new c (set_here afters count new there) at_c) follows))

      done : (tenant : ℕ) (a b c : TenantStateInMemory) → tenant < count + 1 → slice_get olds tenant ≡ Some a → slice_get parts tenant ≡ Some b
          → slice_get (slice_set afters count new) tenant ≡ Some c → Follows a b c
      done tenant a b c low at_a at_b at_c = elim (cases_lt tenant count) [
        | inl less ↦ have.done tenant a b c less at_a at_b (sym (set_else afters count tenant new (λ e. omega (arith, e, less))) ∙ at_c)
        | inr past ↦
            let same : tenant ≡ count = omega (arith, low, past) in
            here a b c (subst (λ k. slice_get olds k ≡ Some a) same at_a) (subst (λ k. slice_get parts k ≡ Some b) same at_b)
            (subst (λ k. slice_get (slice_set afters count new) k ≡ Some c) same at_c)
      ]

-- all have taken over the marks
pub all_followed : (olds parts nows afters : List TenantStateInMemory) (count : ℕ) → HaveFollowed olds parts nows afters count → length parts ≤ count → AllFollow olds parts afters
all_followed olds parts nows afters count have whole tenant old part new a b c = have.done tenant old part new (omega (arith, slice_get_within parts tenant part b, whole)) a b c

-- so the tenants are those after the start
pub are_reopened : (world : World) (stops : List Stop) (parts afters : List TenantStateInMemory) → length afters ≡ length parts → AreReopening world stops parts
    → AllFollow world.tenant_states.items parts afters → AreReopened world stops afters
are_reopened world stops parts afters long are follow tenant new at_new old at_old state shows = elim ((slice_get_cases parts tenant).1) [
  | inl v ↦ are tenant v.0 v.2 old at_old state shows new (follow tenant old v.0 new at_old v.2 at_new)
  | inr past ↦ absurd (omega (arith, past.0, long, slice_get_within afters tenant new at_new))
]

-- What holds of each book of a list holds of each book of another list with the same files.
book_of : (o : Option TenantStateInMemory) (book : SimulatedFile) → option_map (λ tenant_state. tenant_state.book) o ≡ Some book → (tenant_state : TenantStateInMemory) × (o ≡ Some tenant_state) × (tenant_state.book ≡ book)
book_of None book is = absurd (cc)
book_of (Some tenant_state) book is = (tenant_state, refl, some_same (Some tenant_state.book) tenant_state.book book refl is)

carried : (P : ℕ → SimulatedFile → Type 0) (parts afters : List TenantStateInMemory) → SameBooksIn parts afters
    → ((tenant : ℕ) (tenant_state : TenantStateInMemory) → slice_get parts tenant ≡ Some tenant_state → P tenant tenant_state.book)
    → (tenant : ℕ) (tenant_state : TenantStateInMemory) → slice_get afters tenant ≡ Some tenant_state → P tenant tenant_state.book
carried P parts afters same all tenant tenant_state at =
    let found = book_of (slice_get parts tenant) tenant_state.book (sym (same tenant) ∙ ap (λ o. option_map (λ one. one.book) o) at) in
    subst (λ book. P tenant book) found.2 (all tenant found.0 found.1)

pub sound_then : (config : Config) (parts afters : List TenantStateInMemory) → SameBooksIn parts afters → AreSound config parts → AreSound config afters
sound_then config parts afters same sound = carried (λ tenant book. HasSound (tenant_at config tenant).words book) parts afters same sound

pub words_before : (parts afters : List TenantStateInMemory) (words : ℕ → List ℕ) (is_up : ℕ → Bool) → SameBooksIn parts afters → HaveWords afters words is_up → HaveWords parts words is_up
words_before parts afters words is_up same have =
    carried (λ tenant book. (book.contents.items ≡ words tenant) × (is_up tenant ≡ not book.has_failed)) afters parts (λ tenant. sym (same tenant)) have
