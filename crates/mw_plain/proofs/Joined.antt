-- Two lists of marks, one after the other, do to a store alone what the joined list does. Used by: marks_of_a_call.
use Rattle.std.specs.Prelude.{ℕ, ◌≡◌, List, [], ◌∷◌, ◌++◌, Option, Some, None}
use Rattle.std.specs.Option.{option_and_then, option_map, option_to_list, unwrap_or}
use Rattle.std.proofs.Common.{refl, sym, ap, ◌∙◌, append_assoc}
use Rattle.std.proofs.lemmas.Option.{none-some, same_Some}
use Rattle.mw_words.specs.declared.replies.Reply.{Reply}
use Rattle.mw_lone.specs.declared.marks.Mark.{Mark}
use Rattle.mw_lone.specs.Store.{Store, step, run, outgoing, replies_from}
use Rattle.mw_plain.specs.Cases.{after_served}
use Rattle.mw_plain.specs.Marks.{Goes, OneMoreFits, RepliesJoin, RunsJoin}

run_on : (o : Option Store) (first second : List Mark) → ((t : Store) → run t (first ++ second) ≡ option_and_then (λ u. run u second) (run t first)) → option_and_then (λ t. run t (first ++ second)) o ≡ option_and_then (λ u. run u second) (option_and_then (λ t. run t first) o)
run_on None first second h = refl
run_on (Some t) first second h = h t

pub runs-join : RunsJoin
runs-join s [] second = refl
runs-join s (mark ∷ first) second = run_on (step s mark) first second (λ t. runs-join t first second)

replies_on : (o : Option Store) (t : Store) (first second : List Mark) → option_and_then (λ u. run u first) o ≡ Some t → ((u : Store) → run u first ≡ Some t → replies_from u (first ++ second) ≡ replies_from u first ++ replies_from t second) → unwrap_or (option_map (λ u. replies_from u (first ++ second)) o) [] ≡ unwrap_or (option_map (λ u. replies_from u first) o) [] ++ replies_from t second
replies_on None t first second e h = absurd (none-some t e)
replies_on (Some u) t first second e h = h u e

pub replies-join : RepliesJoin
replies-join s t [] second e = ap (λ u. replies_from u second) (same_Some s t e)
replies-join s t (mark ∷ first) second e =
    let said = option_to_list (outgoing s mark) in
    ap (λ rest. said ++ rest) (replies_on (step s mark) t first second e (λ u at. replies-join u t first second at)) ∙ sym (append_assoc said _ _)

-- no marks change nothing
pub goes-nowhere : (s : Store) → Goes s [] [] s
goes-nowhere s = record { ran = refl; said = refl }

-- one list of marks, and then another
pub goes-then : (s t u : Store) (first second : List Mark) (early late : List (ℕ × Reply)) → Goes s first early t → Goes t second late u → Goes s (first ++ second) (early ++ late) u
goes-then s t u first second early late g h = record {
  ran = runs-join s first second ∙ ap (option_and_then (λ t. run t second)) g.ran ∙ h.ran;
  said = replies-join s t first second g.ran ∙ ap (λ xs. xs ++ replies_from t second) g.said ∙ ap (λ xs. early ++ xs) h.said;
}

pub one-more-fits : OneMoreFits
one-more-fits s [] last fit fits = ((fits, tt), refl)
one-more-fits s (served ∷ more) last fit fits =
    let rest = one-more-fits (after_served s served) more last fit.1 fits in
    ((fit.0, rest.0), rest.1)
