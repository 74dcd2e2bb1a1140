-- While a slot is taken for a tenant, and the slot's change isn't in the tenant's file, a record place of that file is empty.
-- Used by: outside_leaves_room.
use Rattle.std.specs.Prelude.{ℕ, zero, suc, ◌≡◌, ◌<◌, ◌≤◌, ◌+◌, ◌⊎◌, ◌==◌, ◌&&◌, Bool, true, false, if◌then◌else◌}
use Rattle.std.proofs.Common.{refl, ap, subst, inl, inr, arith}
use Rattle.std.proofs.lemmas.Bool.Decides.{nat_tests}
use Rattle.mw_world.specs.Files.State.{File, is_empty, empty_from}
use Rattle.mw_world.specs.Maps.{upd}
use Rattle.mw_world.specs.declared.config.Config.{Config}
use Rattle.mw_world.specs.Claim.Invariant.{placed}
use Rattle.mw_world.specs.Definition.Counts.{slots_taken_for}
use Rattle.mw_world.specs.Definition.State.{State, tenants_of}
use Rattle.mw_law_runs.specs.RunInvariant.{IsSound}
use Rattle.mw_law_store.specs.Files.Files.{places_of}
use Rattle.mw_law_store.specs.Files.Room.{HasEmptyPlace, IsOutside, OutsideLeavesRoom}
use Rattle.mw_law_store.proofs.Files.Filed.{empty_there}
use Rattle.mw_law_store.proofs.Files.Tenants.{IsFiled, are_filed, in_file}

-- how many of the first so many numbers pass a test
abbrev count : (ℕ → Bool) → ℕ → ℕ
count test zero = 0
count test (suc n) = count test n + (if test n then 1 else 0)

count_above : (test : ℕ → Bool) (one n : ℕ) → n ≤ one → count (upd test one false) n ≡ count test n
count_above test one zero high = refl
count_above test one (suc n) high = grind (arith, nat_tests, count_above test one n (omega (arith, high)), high)

-- the count is one less without one of them
count_without : (test : ℕ → Bool) (one n : ℕ) → test one ≡ true → one < n → count (upd test one false) n + 1 ≡ count test n
count_without test one zero is low = absurd (omega (arith, low))
count_without test one (suc n) is low = by_test (one == n) refl (λ less. count_without test one n is less)
  where
    by_test : (b : Bool) → (one == n) ≡ b → (one < n → count (upd test one false) n + 1 ≡ count test n) → count (upd test one false) (suc n) + 1 ≡ count test (suc n)
    by_test true here less = grind (arith, nat_tests, here, is, count_above test one n (above here))
      where
        above : (one == n) ≡ true → n ≤ one
        above same = grind (arith, nat_tests, same)
    by_test false else_where less = grind (arith, nat_tests, else_where, is, less (grind (arith, nat_tests, else_where, low)))

-- A number that passes the test is at this place.
record IsAt (test : ℕ → Bool) (at : ℕ → ℕ) (n place : ℕ) : Type 0 where
  pub one : ℕ
  pub low : one < n
  pub passes : test one ≡ true
  pub is : at one ≡ place

-- if all places are in use, they are no more than the numbers that pass
no_more : (at : ℕ → ℕ) (n places : ℕ) (test : ℕ → Bool) → ((place : ℕ) → place < places → IsAt test at n place) → places ≤ count test n
no_more at n zero test used = omega arith
no_more at n (suc places) test used =
    let last = used places (omega arith) in
    let fewer = no_more at n places (upd test last.one false) (λ place low. without place low last (used place (omega (arith, low)))) in
    omega (arith, fewer, count_without test last.one n last.passes last.low)
  where
    without : (place : ℕ) → place < places → (last : IsAt test at n places) → IsAt test at n place → IsAt (upd test last.one false) at n place
    without place low last its = record { one = its.one; low = its.low; passes = grind (arith, nat_tests, its.passes, its.is, last.is, low); is = its.is }

-- One of so many places is empty, or all are in use.
empty_or_full : (file : File) (first left : ℕ) → (empty_from file first left < first + left) ⊎ ((place : ℕ) → first ≤ place → place < first + left → is_empty (file.places place) ≡ false)
empty_or_full file first zero = inr (λ place low high. absurd (omega (arith, low, high)))
empty_or_full file first (suc left) = by_test (is_empty (file.places first)) refl (empty_or_full file (first + 1) left)
  where
    by_test : (b : Bool) → is_empty (file.places first) ≡ b
        → ((empty_from file (first + 1) left < (first + 1) + left) ⊎ ((place : ℕ) → first + 1 ≤ place → place < (first + 1) + left → is_empty (file.places place) ≡ false))
        → ((if b then first else empty_from file (first + 1) left) < first + suc left) ⊎ ((place : ℕ) → first ≤ place → place < first + suc left → is_empty (file.places place) ≡ false)
    by_test true is rest = inl (omega arith)
    by_test false is (inl less) = inl (omega (arith, less))
    by_test false is (inr full) = inr (λ place low high. either place low high (first == place) refl)
      where
        either : (place : ℕ) → first ≤ place → place < first + suc left → (b : Bool) → (first == place) ≡ b → is_empty (file.places place) ≡ false
        either place low high true same = subst (λ (at : ℕ). is_empty (file.places at) ≡ false) (grind (arith, nat_tests, same)) is
        either place low high false other = full place (grind (arith, nat_tests, other, low)) (omega (arith, high))

-- every place below the lowest empty one is in use
used_below : (file : File) (first left place : ℕ) → first ≤ place → place < empty_from file first left → is_empty (file.places place) ≡ false
used_below file first zero place low high = absurd (omega (arith, low, high))
used_below file first (suc left) place low high = by_test (is_empty (file.places first)) refl (first == place) refl (used_below file (first + 1) left place)
  where
    by_test : (b : Bool) → is_empty (file.places first) ≡ b → (same : Bool) → (first == place) ≡ same
        → (first + 1 ≤ place → place < empty_from file (first + 1) left → is_empty (file.places place) ≡ false) → is_empty (file.places place) ≡ false
    by_test true is same there on =
        absurd (omega (arith, low, subst (λ (b : Bool). place < (if b then first else empty_from file (first + 1) left)) is high))
    by_test false is true there on = subst (λ (at : ℕ). is_empty (file.places at) ≡ false) (grind (arith, nat_tests, there)) is
    by_test false is false there on = on (grind (arith, nat_tests, there, low)) (subst (λ (b : Bool). place < (if b then first else empty_from file (first + 1) left)) is high)

-- the lowest empty place of the first so many is also that of more
of_more : (file : File) (first left most : ℕ) → empty_from file first left < first + left → left ≤ most → empty_from file first most ≡ empty_from file first left
of_more file first zero most less many = absurd (omega (arith, less))
of_more file first (suc left) zero less many = absurd (omega (arith, many))
of_more file first (suc left) (suc most) less many = by_test (is_empty (file.places first)) refl (of_more file (first + 1) left most)
  where
    by_test : (b : Bool) → is_empty (file.places first) ≡ b
        → (empty_from file (first + 1) left < (first + 1) + left → left ≤ most → empty_from file (first + 1) most ≡ empty_from file (first + 1) left)
        → (if b then first else empty_from file (first + 1) most) ≡ (if b then first else empty_from file (first + 1) left)
    by_test true is on = refl
    by_test false is on = on (narrow (subst (λ (b : Bool). (if b then first else empty_from file (first + 1) left) < first + suc left) is less)) (omega (arith, many))
      where
        narrow : {at : ℕ} → at < first + suc left → at < (first + 1) + left
        narrow low = omega (arith, low)

module _ (config : Config) (state : State) (tenant own : ℕ) (sound : IsSound config state) (filed : IsFiled config state tenant) (outside : IsOutside state tenant own) (low : tenant < tenants_of config) where
  -- the slot is taken for the tenant
  abbrev its : ℕ → Bool
  its slot = (state.cells.gates slot).taken && (state.history.tenant slot (state.cells.gates slot).seq == tenant)

  counted : (n : ℕ) → count its n ≡ slots_taken_for state tenant n
  counted zero = refl
  counted (suc n) = ap (λ (sum : ℕ). sum + (if its n then 1 else 0)) (counted n)

  abbrev file : File
  file = (state.tenant_states tenant).file

  used_by : (place : ℕ) → is_empty (file.places place) ≡ false → IsAt (upd its own false) (λ slot. file.place_of slot) config.pool place
  used_by place used =
      let at = filed.places.in_use place used in
      let there = in_file state tenant at.slot at.due_some in
      record {
        one = at.slot;
        low = sound.memory.claims.there at.slot there.taken;
        passes = passes at.slot there.taken there.same_tenant there.in_file;
        is = at.is;
      }
    where
      passes : (slot : ℕ) → (state.cells.gates slot).taken ≡ true → state.history.tenant slot (state.cells.gates slot).seq ≡ tenant
          → is_empty (placed (state.history.fate slot (state.cells.gates slot).seq) (state.history.change slot (state.cells.gates slot).seq)) ≡ false → upd its own false slot ≡ true
      passes slot taken same there = grind (arith, nat_tests, taken, same, there, outside.outside)

  not_full : ((place : ℕ) → 0 ≤ place → place < 0 + places_of config state tenant → is_empty (file.places place) ≡ false) → ⊥
  not_full full =
      let all = no_more (λ slot. file.place_of slot) config.pool (places_of config state tenant) (upd its own false) (λ place less. used_by place (full place (omega arith) (omega (arith, less)))) in
      let one = count_without its own config.pool (grind (arith, nat_tests, outside.taken, outside.same_tenant)) (sound.memory.claims.there own outside.taken) in
      omega (arith, all, one, counted config.pool, sound.counts.counts.doors tenant low, sound.counts.counts.quotas tenant low)

  pub room_left : HasEmptyPlace file (places_of config state tenant)
  room_left = by_case (empty_or_full file 0 (places_of config state tenant))
    where
      by_case : ((empty_from file 0 (places_of config state tenant) < 0 + places_of config state tenant)
          ⊎ ((place : ℕ) → 0 ≤ place → place < 0 + places_of config state tenant → is_empty (file.places place) ≡ false)) → HasEmptyPlace file (places_of config state tenant)
      by_case (inl less) = record {
        within = omega (arith, less);
        empty = empty_there file 0 (places_of config state tenant) less;
        lowest = λ place below. used_below file 0 (places_of config state tenant) place (omega arith) below;
        of_all = λ most many. of_more file 0 (places_of config state tenant) most less many;
      }
      by_case (inr full) = absurd (not_full full)

pub outside_leaves_room : OutsideLeavesRoom
outside_leaves_room config state tenant slot sound has low outside = room_left config state tenant slot sound (are_filed config state has tenant low) outside low
