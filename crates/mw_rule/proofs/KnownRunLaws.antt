-- Two laws of the relation "this run extends that one": it is transitive, and an extended run still extends what was known of
-- it.
-- Used by: mw_table, mw_law_threads.
use Rattle.std.specs.Prelude.{ℕ, ◌≡◌, List, [], ◌∷◌, ◌++◌, map, Option, Some, None}
use Rattle.std.proofs.Common.{refl, sym, ap, subst, ◌∙◌, append_assoc, append-nil}
use Rattle.mw_world.specs.declared.outcomes.Outcome.TheVariants.{Fail}
use Rattle.mw_world.specs.declared.config.Config.{Config}
use Rattle.mw_world.specs.Definition.Events.{WorldEvent, File as FileEvent}
use Rattle.mw_world.specs.Definition.State.{TenantStart, world_at}
use Rattle.mw_rule.specs.KnownRuns.{KnownRun, ExtendsRun, ExtendsKnownRun, known_run_of, plain}
use Rattle.mw_rule.specs.Rule.{IsHandedOut, IsRunOf}
use Rattle.mw_rule.specs.declared.views.View.{View}
use Rattle.mw_rule.proofs.HandedReplies.{handed_more}
use Rattle.mw_rule.proofs.Totals.{each_on}

pub on_again : (first between last : Option KnownRun) → ExtendsKnownRun first between → ExtendsKnownRun between last → ExtendsKnownRun first last
on_again None between last one two = tt
on_again (Some first) None last one two = absurd one
on_again (Some first) (Some between) None one two = absurd two
on_again (Some first) (Some between) (Some last) one two = record {
  same_openings = two.same_openings ∙ one.same_openings;
  same_before = two.same_before ∙ one.same_before;
  since = one.since ++ two.since;
  events = two.events ∙ (ap (λ (events : List WorldEvent). events ++ two.since) one.events ∙ append_assoc first.events one.since two.since);
}

pub stays : (known : Option KnownRun) → ExtendsKnownRun known known
stays None = tt
stays (Some known) = record { same_openings = refl; same_before = refl; since = []; events = sym (append-nil known.events) }

pub plain_more : (events more : List WorldEvent) → map plain (events ++ more) ≡ map plain events ++ map plain more
plain_more [] more = refl
plain_more (event ∷ events) more = ap (λ (rest : List WorldEvent). plain event ∷ rest) (plain_more events more)

-- what was known of a run is known of it when more has happened
pub on_with_more : (config : Config) (known : Option KnownRun) (openings : ℕ → TenantStart) (before events more : List WorldEvent) → ExtendsKnownRun known (Some (known_run_of config openings before events))
    → ExtendsKnownRun known (Some (known_run_of config openings before (events ++ more)))
on_with_more config known openings before events more is =
    on_again known (Some (known_run_of config openings before events)) (Some (known_run_of config openings before (events ++ more))) is
    (record { same_openings = refl; same_before = refl; since = map plain more; events = plain_more events more })

pub run_with_more : (config : Config) (openings : ℕ → TenantStart) (before events more : List WorldEvent) (view : View) → IsRunOf config openings before events view → IsRunOf config openings before (events ++ more) view
run_with_more config openings before events more view is = record {
  known = on_with_more config view.known_run openings before events more is.known;
  told = on_with_more config view.learned_run openings before events more is.told;
  handed = each_on (IsHandedOut config (world_at config openings) (before ++ events)) (IsHandedOut config (world_at config openings) (before ++ (events ++ more)))
      (λ one so. subst (λ (all : List WorldEvent). IsHandedOut config (world_at config openings) all one) (append_assoc before events more) (handed_more config (world_at config openings) (before ++ events) more one so))
      view.mine is.handed;
}

-- the run as it is known doesn't tell which device call failed at its end
pub plain_fails : (events : List WorldEvent) (worker one other : ℕ) → map plain (events ++ FileEvent worker (Fail one) ∷ []) ≡ map plain (events ++ FileEvent worker (Fail other) ∷ [])
plain_fails [] worker one other = refl
plain_fails (event ∷ events) worker one other = ap (λ (rest : List WorldEvent). plain event ∷ rest) (plain_fails events worker one other)
