-- If a change passes the test against each place, it shares no address with a sealed one. Used by: may_seal.
use Rattle.std.proofs.Common.{◌≡◌, ◌==◌, ◌||◌, ℕ, zero, suc, Bool, true, false, not, List, [], ◌∷◌, refl, sym, ap, ◌∙◌, inl, inr}
use Rattle.std.specs.List.{list_all}
use Rattle.std.proofs.lemmas.Bool.{and_parts, eqb-true, cases_Bool}
use Rattle.mw_record.specs.Records.{Pairs, holds}
use Rattle.mw_file.specs.declared.place_states.PlaceState.{PlaceState}
use Rattle.mw_file.specs.declared.place_states.Stage.TheVariants.{Free, Sealed}
use Rattle.mw_file.specs.PlaceStates.{stage_of, writes_of_place}
use Rattle.mw_file_tests.specs.Permitted.{are_apart, if_sealed, is_apart}

not_true : (b : Bool) → not b ≡ true → b ≡ false
not_true true is = absurd (cc)
not_true false is = refl

-- no address of the one is among the others
apart_at : (writes others : Pairs) (addr : ℕ) → are_apart writes others ≡ true → holds writes addr ≡ true → holds others addr ≡ false
apart_at [] others addr apart here = absurd (cc)
apart_at (w ∷ writes) others addr apart here =
    let parts = and_parts _ _ apart in
    elim (cases_Bool (w.0 == addr)) [
      | inl is ↦ ap (holds others) (sym (eqb-true w.0 addr is)) ∙ not_true _ parts.0
      | inr ne ↦ apart_at writes others addr parts.1 (sym (ap (λ b. b || holds writes addr) ne) ∙ here)
    ]

-- no address of the change is one of a sealed place's
pub apart_from : (writes : Pairs) (states : List PlaceState) → list_all (is_apart writes) states ≡ true
    → (other addr : ℕ) → stage_of states other ≡ Sealed → holds writes addr ≡ true → holds (writes_of_place states other) addr ≡ false
apart_from writes [] all other addr sealed here = absurd (let e : Free ≡ Sealed = sealed in cc)
apart_from writes (s ∷ states) all zero addr sealed here =
    apart_at writes s.writes.items addr (sym (ap (λ stage. if_sealed stage (are_apart writes s.writes.items)) sealed) ∙ (and_parts _ _ all).0) here
apart_from writes (s ∷ states) all (suc other) addr sealed here = apart_from writes states (and_parts _ _ all).1 other addr sealed here
