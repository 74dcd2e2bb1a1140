-- If words have releasers as this crate defines them (`WordsHaveReleasers`), they have them as the world's invariant
-- requires.
-- Used by: requests_release_their_words.
use Rattle.std.specs.Prelude.{ℕ, ◌⊎◌}
use Rattle.std.proofs.Common.{subst, sym, inl, inr}
use Rattle.mw_words.specs.declared.statuses.Status.{Status}
use Rattle.mw_world.specs.Claim.Invariant.{IsUndone}
use Rattle.mw_world.specs.Claim.Obligations.{IsOwner, IsCleaner}
use Rattle.mw_world.specs.Definition.State.{State}
use Rattle.mw_law_runs.specs.ObligationLaws.{RequestsReleaseTheirWords}
use Rattle.mw_law_runs.specs.Obligations.{IsUnfinished, IsOwnerOf, IsCleanerOf}

owner_or : {P : Type 0} (state : State) (slot seq : ℕ) → IsOwnerOf state slot seq ⊎ P → IsOwner state slot seq ⊎ P
owner_or state slot seq (inl owner) = inl (record { actor = owner.actor; is = owner.is; pin = owner.pin })
owner_or state slot seq (inr stays) = inr stays

cleaner_or : {P : Type 0} (state : State) (address slot seq : ℕ) → IsCleanerOf state address slot seq ⊎ P → IsCleaner state address slot seq ⊎ P
cleaner_or state address slot seq (inl cleaner) = inl (record { actor = cleaner.owner.actor; is = cleaner.owner.is; pin = cleaner.owner.pin; cleans = cleaner.cleans })
cleaner_or state address slot seq (inr stays) = inr stays

-- a change that is neither refused nor done with is unfinished
isnt_over : (fate : Status) → IsUndone fate → IsUnfinished fate
isnt_over fate (inl is) = subst IsUnfinished (sym is) tt
isnt_over fate (inr (inl is)) = subst IsUnfinished (sym is) tt
isnt_over fate (inr (inr (inl is))) = subst IsUnfinished (sym is) tt
isnt_over fate (inr (inr (inr is))) = subst IsUnfinished (sym is) tt

pub requests_release_their_words : RequestsReleaseTheirWords
requests_release_their_words state releasers = record {
  refused = releasers.refused;
  undone = λ slot taken is. owner_or state slot (state.cells.gates slot).seq (releasers.unfinished slot taken (isnt_over (state.history.fate slot (state.cells.gates slot).seq) is));
  dirty = λ tenant address slot value is. cleaner_or state address slot (state.cells.gates slot).seq (releasers.dirty tenant address slot value is);
}
