-- The functions of `specs/Moves` (admit, claim, pin, unpin, free) give exactly the doors (admission counters) and gates
-- (reference counts with a version) that its relations allow, in range. One pin less is 2^48 less in a gate's bits.
-- Used by: mw_look, mw_actor, mw_law_runs.
use Rattle.std.specs.Prelude.{◌≡◌, ℕ, ◌+◌, ◌^◌, ◌<◌, ◌≤◌, ◌==◌, ◌&&◌, Bool, true, false, not, cond, nat_lt, nat_le, Some, None, IfSome}
use Rattle.std.proofs.Common.{refl, arith}
use Rattle.std.proofs.lemmas.Bool.Decides.{nat_tests}
use Rattle.mw_words.specs.declared.limits.TheConstants.{WORN_NUMBER, MAX_PINS}
use Rattle.mw_words.specs.declared.gates.Gate.{Gate}
use Rattle.mw_words.specs.declared.doors.Door.{Door}
use Rattle.mw_words.specs.Patterns.{IsGateInRange, packed_gate, IsDoorInRange}
use Rattle.mw_pool.specs.declared.doors.Admission.{Admission}
use Rattle.mw_pool.specs.declared.doors.Admission.TheVariants.{Fault, Busy, To}
use Rattle.mw_pool.specs.Moves.{Says, after_admit, Claims, after_claim, Pins, after_pin, Unpins, after_unpin, Frees, after_free}

-- a property of what is chosen if a test holds
by_test : {A : Type 0} (test : Bool) (x : A) (P : A → Type 0) → (test ≡ true → P x) → IfSome (cond test (Some x) None) P
by_test true x P here = here refl
by_test false x P here = tt

-- the function's answer is one that a door may give, if the quota fits a byte
pub admit_says : (door : Door) (quota : ℕ) → IsDoorInRange door → quota < 2 ^ 8 → Says door quota (after_admit door quota)
admit_says door quota fits small = by_fault door.fault door.used fits
  where
    by_below : (used : ℕ) (below : Bool) → nat_lt used quota ≡ below → Says (record { fault = false; used = used }) quota (cond below (To (record { fault = false; used = used + 1 })) Busy)
    by_below used true is = grind (arith, nat_tests, is, small)
    by_below used false is = grind (arith, nat_tests, is)

    by_fault : (fault : Bool) (used : ℕ) → used < 2 ^ 16 → let door : Door = record { fault = fault; used = used } in Says door quota (after_admit door quota)
    by_fault true used fits = refl
    by_fault false used fits = by_below used (nat_lt used quota) refl

-- and no other answer is
pub admit_only : (door : Door) (quota : ℕ) (said : Admission) → Says door quota said → after_admit door quota ≡ said
admit_only door quota Fault says = grind (arith, nat_tests, says)
admit_only door quota Busy says = grind (arith, nat_tests, says.0, says.1)
admit_only door quota (To after) says = grind (arith, nat_tests, says.0)

-- a gate after a claim is claimed, and in range
pub claim_is : (gate : Gate) → IsGateInRange gate → IfSome (after_claim gate) (λ next. Claims gate next × IsGateInRange next)
claim_is gate fits = by_test (not gate.taken && nat_lt gate.seq WORN_NUMBER) _ (λ next. Claims gate next × IsGateInRange next) (λ is. grind (arith, nat_tests, is, fits))

-- and no other gate is claimed
pub claim_only : (gate next : Gate) → Claims gate next → after_claim gate ≡ Some next
claim_only gate next claims = grind (arith, nat_tests, claims)

-- a gate after a pin is pinned, and in range
pub pin_is : (gate : Gate) (seq : ℕ) → IsGateInRange gate → IfSome (after_pin gate seq) (λ next. Pins seq gate next × IsGateInRange next)
pin_is gate seq fits = by_test (gate.taken && nat_le 1 gate.pins && nat_lt gate.pins MAX_PINS && (gate.seq == seq)) _ (λ next. Pins seq gate next × IsGateInRange next) (λ is. grind (arith, nat_tests, is, fits))

-- and no other gate in range is pinned
pub pin_only : (gate next : Gate) (seq : ℕ) → IsGateInRange next → Pins seq gate next → after_pin gate seq ≡ Some next
pin_only gate next seq fits pins = grind (arith, nat_tests, fits.0, pins)

-- a gate with a pin has one pin less after an unpin, and is in range
pub unpin_is : (gate : Gate) → IsGateInRange gate → 1 ≤ gate.pins → Unpins gate (after_unpin gate) × IsGateInRange (after_unpin gate)
unpin_is gate fits pinned = grind (arith, fits, pinned)

-- and no other gate has one pin less
pub unpin_only : (gate next : Gate) → Unpins gate next → after_unpin gate ≡ next
unpin_only gate next unpins = grind (arith, unpins)

-- one pin less is 2^48 less in a gate's bits
pub unpin_subtracts : (gate : Gate) → 1 ≤ gate.pins → packed_gate (after_unpin gate) + 2 ^ 48 ≡ packed_gate gate
unpin_subtracts gate pinned = omega (arith, pinned)

-- a gate after it is freed is freed, and in range
pub free_is : (gate : Gate) → IsGateInRange gate → IfSome (after_free gate) (λ next. Frees gate next × IsGateInRange next)
free_is gate fits = by_test (gate.taken && (gate.pins == 0) && nat_lt gate.seq WORN_NUMBER) _ (λ next. Frees gate next × IsGateInRange next) (λ is. grind (arith, nat_tests, is, fits))

-- and no other gate in range is freed
pub free_only : (gate next : Gate) → IsGateInRange next → Frees gate next → after_free gate ≡ Some next
free_only gate next fits frees = grind (arith, nat_tests, fits, frees)
