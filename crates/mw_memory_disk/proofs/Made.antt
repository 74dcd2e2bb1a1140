-- How each call on a disk in memory ends is what `memory_made` says of it. Used by: calls of MemDisk.
use Rattle.std.proofs.Common.{◌≡◌, ◌⊎◌, ℕ, ◌+◌, Bool, true, false, List, length, refl, sym, ap, ◌∙◌, subst, inl, inr, leb}
use Rattle.mw_disk.specs.DeviceCalls.{WriteAt}
use Rattle.mw_memory_disk.specs.Memory.{Memory, memory_facts, begun, logged, refused_once, goes_well, ended, Ends, IsRefused, FailsAs, only_if, next_turn, read_turn, memory_made}
use Rattle.mw_memory_disk.specs.declared.event.Call.{Call}
use Rattle.mw_memory_disk.specs.declared.event.Call.TheVariants.{Wrote, Tore}
use Rattle.mw_memory_disk.specs.declared.event.Turn.{Turn}
use Rattle.mw_memory_disk.specs.declared.event.Turn.TheVariants.{Goes, Fails, Stopped}

fails_well : (turn : Turn) → (turn ≡ Goes → ⊥) → false ≡ goes_well turn
fails_well Goes fails = absurd (fails refl)
fails_well Fails fails = refl
fails_well Stopped fails = refl

-- a call that takes no memory and failed ends as a failed write may
pub quiet_fails : (turn : Turn) (well failed : Call) (old new : Memory) → (turn ≡ Goes → ⊥) → new ≡ ended turn well failed old → FailsAs failed turn old new
quiet_fails Goes well failed old new fails is = absurd (fails refl)
quiet_fails Fails well failed old new fails is = inl is
quiet_fails Stopped well failed old new fails is = is

pub went_ends : (turn asked : Turn) (well failed : Call) (old mid new : Memory) → asked ≡ turn → asked ≡ Goes → mid ≡ begun old → new ≡ logged mid well
    → Ends true turn well failed old new
went_ends turn asked well failed old mid new its goes is logs = record {
  outcome = sym (ap goes_well (sym its ∙ goes));
  leaves = logs ∙ (ap (λ (m : Memory). logged m well) is ∙ sym (ap (λ (t : Turn). ended t well failed (begun old)) (sym its ∙ goes)));
}

-- how a call would have been remembered had it gone well does not matter to one that fails
ended_fails : (turn : Turn) (well other failed : Call) (m : Memory) → (turn ≡ Goes → ⊥) → ended turn other failed m ≡ ended turn well failed m
ended_fails Goes well other failed m fails = absurd (fails refl)
ended_fails Fails well other failed m fails = refl
ended_fails Stopped well other failed m fails = refl

pub fails_ends : (turn asked : Turn) (well other failed : Call) (old mid new : Memory) → asked ≡ turn → (asked ≡ Goes → ⊥) → mid ≡ begun old
    → new ≡ ended asked other failed mid → Ends false turn well failed old new
fails_ends turn asked well other failed old mid new its fails is ends = record {
  outcome = fails_well asked fails ∙ ap goes_well its;
  leaves = ends ∙ ended_fails asked well other failed mid fails ∙ (ap (λ (m : Memory). ended asked well failed m) is ∙ ap (λ (t : Turn). ended t well failed (begun old)) its);
}

-- a write that failed
fails_by : (turn : Turn) (at : ℕ) (bytes : List ℕ) (old new : Memory) → (turn ≡ Goes → ⊥) → FailsAs (Tore at (length bytes)) turn (begun old) new
    → Ends false turn (Wrote at bytes) (Tore at (length bytes)) old new ⊎ IsRefused false turn old new
fails_by Goes at bytes old new fails is = absurd (fails refl)
fails_by Fails at bytes old new fails is = elim is [
  | inl logs ↦ inl (record { outcome = refl; leaves = logs })
  | inr refused ↦ inr (record { outcome = refl; runs = λ stopped. cc; leaves = refused })
]
fails_by Stopped at bytes old new fails is = inl (record { outcome = refl; leaves = is })

pub fails_made : (asked : Turn) (at : ℕ) (bytes : List ℕ) (old mid new : Memory) → asked ≡ next_turn old → (asked ≡ Goes → ⊥) → mid ≡ begun old
    → FailsAs (Tore at (length bytes)) asked mid new → memory_made (WriteAt at bytes) false old new
fails_made asked at bytes old mid new its fails is ends =
    fails_by (next_turn old) at bytes old new (λ goes. fails (its ∙ goes))
    (subst (λ (m : Memory). FailsAs (Tore at (length bytes)) (next_turn old) m new) is
    (subst (λ (t : Turn). FailsAs (Tore at (length bytes)) t mid new) its ends))

runs_on : (turn : Turn) → turn ≡ Goes → turn ≡ Stopped → ⊥
runs_on turn goes stopped = cc

pub refused_made : (asked : Turn) (at : ℕ) (bytes : List ℕ) (old mid new : Memory) → asked ≡ next_turn old → asked ≡ Goes → mid ≡ begun old → new ≡ refused_once mid
    → memory_made (WriteAt at bytes) false old new
refused_made asked at bytes old mid new its goes is refused = inr (record {
  outcome = refl;
  runs = runs_on (next_turn old) (sym its ∙ goes);
  leaves = refused ∙ ap (λ (m : Memory). refused_once m) is;
})

-- the turn of a read
pub read_asked : (at n : ℕ) (turn asked : Turn) (fits : Bool) (old mid : Memory) → turn ≡ next_turn old → asked ≡ only_if fits turn
    → fits ≡ leb (at + n) (length (memory_facts mid).reads) → mid ≡ begun old → asked ≡ read_turn old at n
read_asked at n turn asked fits old mid its made tests is =
    made ∙ (ap (λ (b : Bool). only_if b turn) (tests ∙ ap (λ (m : Memory). leb (at + n) (length (memory_facts m).reads)) is)
    ∙ ap (λ (t : Turn). only_if (leb (at + n) (length (memory_facts old).reads)) t) its)
