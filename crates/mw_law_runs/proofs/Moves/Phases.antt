-- Lists the phases that a change's word may have (held, never held, ..) by the change's status, and which stay possible after
-- the next status.
-- Used by: mw_law_store.
use Rattle.std.proofs.Common.{◌≡◌, ◌≢◌, ℕ, false, refl, subst, arith}
use Rattle.std.proofs.lemmas.Bool.Decides.{nat_tests}
use Rattle.mw_words.specs.declared.statuses.Status.{Status}
use Rattle.mw_words.specs.declared.statuses.Status.TheVariants.{Draft, Open, YesDirty, Yes, No, DoneYes, DoneNo}
use Rattle.mw_actor.specs.declared.points.Slot.{Slot}
use Rattle.mw_world.specs.declared.config.Config.{Config}
use Rattle.mw_world.specs.declared.step_labels.Phase.{Phase}
use Rattle.mw_world.specs.declared.step_labels.Phase.TheVariants.{Fresh, Acquired, Written, Released}
use Rattle.mw_world.specs.Claim.Invariant.{MayBe, IsRefused}
use Rattle.mw_world.specs.Definition.State.{State}
use Rattle.mw_law_runs.specs.Moves.Memory.{Memory}

open_or : (phase : Phase) → MayBe Open phase → phase ≢ Acquired → phase ≡ Fresh
open_or Fresh may other = refl
open_or Acquired may other = absurd (other refl)
open_or Written may other = absurd may
open_or Released may other = absurd may

-- a word of an open change that isn't held was never held
pub open_fresh : (status : Status) (phase : Phase) → status ≡ Open → MayBe status phase → phase ≢ Acquired → phase ≡ Fresh
open_fresh status phase is may other = open_or phase (subst (λ (one : Status). MayBe one phase) is may) other

draft_is_fresh : (phase : Phase) → MayBe Draft phase → phase ≡ Fresh
draft_is_fresh Fresh may = refl
draft_is_fresh Acquired may = absurd may
draft_is_fresh Written may = absurd may
draft_is_fresh Released may = absurd may

of_draft : (status : Status) (phase : Phase) → status ≡ Draft → MayBe status phase → phase ≡ Fresh
of_draft status phase is may = draft_is_fresh phase (subst (λ (one : Status). MayBe one phase) is may)

-- no word of a draft was ever held
pub draft_fresh : (config : Config) (state : State) (own : Slot) (address : ℕ) → Memory config state → state.history.fate own.slot own.seq ≡ Draft → state.history.phase own.slot own.seq address ≡ Fresh
draft_fresh config state own address memory draft =
    grind (arith, nat_tests, memory.words.allowed own.slot own.seq address, memory.words.others own.slot own.seq address, draft, of_draft (state.history.fate own.slot own.seq) (state.history.phase own.slot own.seq address) draft)

-- the change that would claim the slot next is a draft
pub claimed_draft : (config : Config) (state : State) (own : Slot) → Memory config state → (state.cells.gates own.slot).taken ≡ false → (state.cells.gates own.slot).seq ≡ own.seq → state.history.fate own.slot own.seq ≡ Draft
claimed_draft config state own memory free number =
    grind (arith, nat_tests, memory.claims.latest own.slot own.seq, memory.claims.unclaimed own.slot own.seq, free, number)

pub opens : (phase : Phase) → MayBe Draft phase → MayBe Open phase
opens Fresh may = tt
opens Acquired may = absurd may
opens Written may = absurd may
opens Released may = absurd may

pub refuses : (entry value : ℕ) (phase : Phase) → MayBe Open phase → MayBe (No entry value) phase
refuses entry value Fresh may = tt
refuses entry value Acquired may = tt
refuses entry value Written may = absurd may
refuses entry value Released may = absurd may

pub seals : (phase : Phase) → MayBe YesDirty phase → MayBe Yes phase
seals Fresh may = absurd may
seals Acquired may = tt
seals Written may = absurd may
seals Released may = absurd may

pub settles : (phase : Phase) → MayBe Yes phase → phase ≢ Acquired → MayBe DoneYes phase
settles Fresh may other = absurd may
settles Acquired may other = absurd (other refl)
settles Written may other = tt
settles Released may other = absurd may

pub cancels : (entry value : ℕ) (phase : Phase) → MayBe (No entry value) phase → MayBe (DoneNo entry value) phase
cancels entry value Fresh may = tt
cancels entry value Acquired may = tt
cancels entry value Written may = absurd may
cancels entry value Released may = tt

keeps : (status : Status) → status ≢ Draft → MayBe status Fresh → MayBe status Acquired
keeps Draft ready may = absurd (ready refl)
keeps Open ready may = tt
keeps YesDirty ready may = absurd may
keeps Yes ready may = absurd may
keeps (No entry value) ready may = tt
keeps DoneYes ready may = absurd may
keeps (DoneNo entry value) ready may = tt

-- a word that was never held may be held for a change that is no draft
pub holds : (status : Status) (phase : Phase) → phase ≡ Fresh → status ≢ Draft → MayBe status phase → MayBe status Acquired
holds status phase is ready may = keeps status ready (subst (λ (one : Phase). MayBe status one) is may)

-- a change that may hold a word is not done with as made
pub undone : (status : Status) → MayBe status Acquired → status ≢ DoneYes
undone status may is = subst (λ (one : Status). MayBe one Acquired) is may

pub lets_go : (status : Status) → IsRefused status → MayBe status Released
lets_go Draft refused = absurd refused
lets_go Open refused = absurd refused
lets_go YesDirty refused = absurd refused
lets_go Yes refused = absurd refused
lets_go (No entry value) refused = tt
lets_go DoneYes refused = absurd refused
lets_go (DoneNo entry value) refused = tt

-- a refused change is not open
pub refused_not_open : (status : Status) → IsRefused status → status ≢ Open
refused_not_open status refused is = subst IsRefused is refused
