-- If a test lets an event happen, all parts of the test are true, and the next world is the one that the definition gives.
-- Used by: mw_law_store, mw_rule, mw_law_threads.
use Rattle.std.specs.Prelude.{◌≡◌, ◌&&◌, Bool, true, false, if◌then◌else◌, Option, Some, None}
use Rattle.std.proofs.Common.{refl, subst, arith}
use Rattle.mw_world.specs.Definition.State.{State}

-- what holds of the world that the test lets through
pub guarded : (P : State → Type 0) (test : Bool) (there next : State) → (test ≡ true → P there) → (if test then Some there else None) ≡ Some next → P next
guarded P true there next keeps is = subst P (same_some there next is) (keeps refl)
  where
    same_some : (one other : State) → Some one ≡ Some other → one ≡ other
    same_some one other e = cc
guarded P false there next keeps is = absurd (none_some next is)
  where
    none_some : (next : State) → None ≡ Some next → ⊥
    none_some next e = cc

pub if_slot : (test : Bool) (one : Option State) (next : State) → (if test then one else None) ≡ Some next → one ≡ Some next
if_slot true one next is = is
if_slot false one next is = cc

-- one of several tests that all hold
pub first_holds : (one two : Bool) → (one && two) ≡ true → one ≡ true
first_holds true two is = refl
first_holds false two is = absurd (grind (arith, is))

pub second_holds : (one two : Bool) → (one && two) ≡ true → two ≡ true
second_holds true two is = is
second_holds false two is = absurd (grind (arith, is))
