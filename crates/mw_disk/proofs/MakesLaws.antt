-- Lists of device calls: no call, one call, one call before a list, and one list after another. Used by: mw_file.
use Rattle.std.proofs.Common.{Bool, true, false, List, [], ◌∷◌, ◌++◌, refl, sym, subst, inl, inr}
use Rattle.std.proofs.lemmas.Bool.{false≢true}
use Rattle.mw_disk.specs.DeviceCalls.{DeviceCall, Makes}

-- of one disk type, what it says of one call
abbrev pub Made : Type 0 → Type 1
Made D = DeviceCall → Bool → D → D → Type 0

-- no call was made
pub makes_none : {D : Type 0} (made : Made D) (disk : D) → Makes made [] true disk disk
makes_none made disk = (refl, refl)

-- a call failed, so none of the rest was made
pub makes_fall : {D : Type 0} (made : Made D) (call : DeviceCall) (rest : List DeviceCall) (old new : D) → made call false old new → Makes made (call ∷ rest) false old new
makes_fall made call rest old new first = inl (refl, first)

-- a call went well, and then the rest was made
pub makes_step : {D : Type 0} (made : Made D) (call : DeviceCall) (rest : List DeviceCall) (well : Bool) (old mid new : D)
    → made call true old mid → Makes made rest well mid new → Makes made (call ∷ rest) well old new
makes_step made call rest well old mid new first others = inr (mid, first, others)

-- one call was made
pub makes_one : {D : Type 0} (made : Made D) (call : DeviceCall) (well : Bool) (old new : D) → made call well old new → Makes made (call ∷ []) well old new
makes_one made call true old new first = inr (new, first, (refl, refl))
makes_one made call false old new first = inl (refl, first)

-- all of the first list went well, and then the second was made
pub makes_after : {D : Type 0} (made : Made D) (calls rest : List DeviceCall) (well : Bool) (old mid new : D)
    → Makes made calls true old mid → Makes made rest well mid new → Makes made (calls ++ rest) well old new
makes_after {D} made [] rest well old mid new none others = subst (λ (d : D). Makes made rest well d new) none.1 others
makes_after made (call ∷ calls) rest well old mid new first others = elim first [
  | inl failed ↦ absurd (false≢true (sym failed.0))
  | inr went ↦ inr (went.0, went.1, makes_after made calls rest well went.0 mid new went.2 others)
]

-- a call of the first list failed, so none of the second was made
pub makes_cut : {D : Type 0} (made : Made D) (calls rest : List DeviceCall) (old new : D) → Makes made calls false old new → Makes made (calls ++ rest) false old new
makes_cut made [] rest old new none = absurd (false≢true none.0)
makes_cut made (call ∷ calls) rest old new first = elim first [
  | inl failed ↦ inl (refl, failed.1)
  | inr went ↦ inr (went.0, went.1, makes_cut made calls rest went.0 new went.2)
]
