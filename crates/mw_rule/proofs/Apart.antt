-- Two requests of one tenant that were answered YES have two positions among the tenant's changes.
-- Used by: knowledge_stays_right, mw_table (`changes_are_own` alone).
use Rattle.std.specs.Prelude.{ℕ, zero, suc, ◌≡◌, ◌≤◌, ◌==◌, ◌&&◌, Bool, true, false, List, [], ◌∷◌, slice_get, Some}
use Rattle.std.proofs.Common.{refl, sym, ap, subst, ◌∙◌, arith}
use Rattle.std.proofs.lemmas.Option.{none-some, same_Some}
use Rattle.mw_words.specs.declared.replies.Reply.{Reply}
use Rattle.mw_words.specs.declared.replies.Reply.TheVariants.{Yes as SaysYes}
use Rattle.mw_lone.specs.Store.{entries_of}
use Rattle.mw_rule.specs.FromLaws.{IsRightAt, SealedChange}
use Rattle.mw_rule.specs.declared.views.Finished.{Finished}
use Rattle.mw_rule.specs.declared.views.View.{View}
use Rattle.mw_rule.specs.Laws.{ChangesAreOwn}
use Rattle.mw_rule.specs.Rule.{Each, IsFinished, is_of, times_finished, weight, words_given}
use Rattle.mw_rule.specs.Prefixes.{seen_at}
use Rattle.mw_rule.proofs.Totals.{weight_own}

each_at : {A : Type 0} (P : A → Type 0) (all : List A) (index : ℕ) (one : A) → Each P all → slice_get all index ≡ Some one → P one
each_at P [] index one holds at = absurd (none-some one at)
each_at P (first ∷ rest) zero one holds at = subst P (same_Some first one at) holds.0
each_at P (first ∷ rest) (suc index) one holds at = each_at P rest index one holds.1 at

-- a finished request counts once for its own tenant and number
weight_is : (one : Finished) (tenant request : ℕ) → one.tenant ≡ tenant → one.request ≡ request → weight (is_of tenant request one) ≡ 1
weight_is one tenant request its same = both (one.tenant == tenant) (one.request == request) (weight_own one.tenant tenant its) (weight_own one.request request same)
  where
    both : (a b : Bool) → weight a ≡ 1 → weight b ≡ 1 → weight (a && b) ≡ 1
    both true b first second = second
    both false b first second = absurd (omega (arith, first))

some_noted : (tenant request index : ℕ) (mine : List Finished) (one : Finished) → slice_get mine index ≡ Some one → one.tenant ≡ tenant → one.request ≡ request → 1 ≤ times_finished tenant request mine
some_noted tenant request index [] one at its same = absurd (none-some one at)
some_noted tenant request zero (first ∷ rest) one at its same =
    let is = same_Some first one at in
    let here = weight_is first tenant request (ap (λ (f : Finished). f.tenant) is ∙ its) (ap (λ (f : Finished). f.request) is ∙ same) in omega (arith, here)
some_noted tenant request (suc index) (first ∷ rest) one at its same = let more = some_noted tenant request index rest one at its same in omega (arith, more)

one_index : (tenant request index another : ℕ) (mine : List Finished) (one other : Finished) → times_finished tenant request mine ≤ 1 → slice_get mine index ≡ Some one → slice_get mine another ≡ Some other
    → one.tenant ≡ tenant → one.request ≡ request → other.tenant ≡ tenant → other.request ≡ request → index ≡ another
one_index tenant request index another [] one other few at there its same theirs too = absurd (none-some one at)
one_index tenant request zero zero (first ∷ rest) one other few at there its same theirs too = refl
one_index tenant request zero (suc another) (first ∷ rest) one other few at there its same theirs too =
    let is = same_Some first one at in
    let here = weight_is first tenant request (ap (λ (f : Finished). f.tenant) is ∙ its) (ap (λ (f : Finished). f.request) is ∙ same) in
    let more = some_noted tenant request another rest other there theirs too in absurd (omega (arith, few, here, more))
one_index tenant request (suc index) zero (first ∷ rest) one other few at there its same theirs too =
    let is = same_Some first other there in
    let here = weight_is first tenant request (ap (λ (f : Finished). f.tenant) is ∙ theirs) (ap (λ (f : Finished). f.request) is ∙ too) in
    let more = some_noted tenant request index rest one at its same in absurd (omega (arith, few, here, more))
one_index tenant request (suc index) (suc another) (first ∷ rest) one other few at there its same theirs too =
    ap suc (one_index tenant request index another rest one other (omega (arith, few)) at there its same theirs too)

-- what the change is at the position of a request that was answered YES
its_change : (view : View) (one : Finished) → IsFinished view one → one.reply ≡ SaysYes
    → slice_get (seen_at view.seen one.tenant) one.place ≡ Some (record { request = one.request; entries = entries_of one.job })
its_change view one right stands =
    subst (λ (reply : Reply). IsRightAt (words_given view one.tenant) (seen_at view.seen one.tenant) one.place one.request one.job reply) stands right.right

pub changes_are_own : ChangesAreOwn
changes_are_own view right index another one other at there its first second same =
    let here = its_change view one (each_at (IsFinished view) view.mine index one right.mine at) first in
    let else = its_change view other (each_at (IsFinished view) view.mine another other right.mine there) second in
    let one_change = same_Some _ _ (sym here ∙ (λ i. slice_get (seen_at view.seen (its i)) (same i)) ∙ else) in
    let number = ap (λ (change : SealedChange). change.request) one_change in
    one_index other.tenant other.request index another view.mine one other (right.once other.tenant other.request) at there its number refl refl
