-- Servers that ran one after the other are of one store alone. Used by: servers_in_turn_are_of_one_store.
use Rattle.std.specs.Prelude.{ℕ, ◌+◌, ◌≡◌, ◌++◌, not, List, [], ◌∷◌, map}
use Rattle.std.proofs.Common.{refl, sym, ap, subst, ◌∙◌, arith}
use Rattle.mw_words.specs.declared.replies.Reply.{Reply}
use Rattle.mw_lone.specs.declared.marks.Mark.{Mark}
use Rattle.mw_lone.specs.declared.marks.Mark.TheVariants.{Restart}
use Rattle.mw_lone.specs.Store.{Store, first_store, replies_from, request, run as run_of_store, store_after_start}
use Rattle.mw_world.specs.Claim.Headline.{IsDurablyLinearizable}
use Rattle.mw_world.specs.Definition.State.{TenantStart, marks_of, store_at, world_at}
use Rattle.mw_world.specs.Definition.World.{replies_to}
use Rattle.mw_law_store.proofs.RunSimulation.{every_run_is_durably_linearizable}
use Rattle.mw_law_threads.proofs.NextRuns.LaterStoreLaws.{stores_go_on}
use Rattle.mw_law_threads.proofs.NextRuns.StartLaws.{Starts, legal, quota_fits, served, starts_so}
use Rattle.mw_law_threads.specs.NextRuns.LaterStores.{GoesOn, IsLater, later_mark, later_reply}
use Rattle.mw_law_threads.specs.NextRuns.FoundAfter.{IsFoundAfter}
use Rattle.mw_law_threads.specs.NextRuns.ServersInTurn.{AreOfOneStoreInTurn, IsServerRun, RunInTurn, ServerRun, ServersInTurnAreOfOneStore, asked_before, asked_of, replies_in_turn, start_of}

-- numbers that are greater twice
later_again : (many more : ℕ) (first between last : Store) → IsLater many first between → IsLater more between last → IsLater (more + many) first last
later_again many more first between last one two = record {
  words = one.words ∙ two.words;
  quota = one.quota ∙ two.quota;
  used = one.used ∙ two.used;
  next = (let a = one.next in let b = two.next in omega (arith, a, b));
  requests = λ n. ap (request first) (sum n) ∙ (one.requests (n + more) ∙ two.requests n);
  faulted = one.faulted ∙ two.faulted;
  in_doubt = one.in_doubt ∙ two.in_doubt;
}
  where
    sum : (n : ℕ) → n + (more + many) ≡ (n + more) + many
    sum n = omega arith

later_itself : (store : Store) → IsLater 0 store store
later_itself store = record { words = refl; quota = refl; used = refl; next = (omega arith); requests = λ n. ap (request store) (none n); faulted = refl; in_doubt = refl }
  where
    none : (n : ℕ) → n + 0 ≡ n
    none n = omega arith

-- the first of the servers
first_is : (one : ServerRun) (later : List ServerRun) → RunInTurn one later → IsServerRun one
first_is one [] turn = turn
first_is one (next ∷ later) turn = turn.0

-- one server alone
alone : (one : ServerRun) → IsServerRun one → AreOfOneStoreInTurn one []
alone one is =
    let by : IsDurablyLinearizable one.config one.openings one.events one.state one.tenant = every_run_is_durably_linearizable one.config one.openings one.events one.state one.tenant is.is is.there in
    record {
      marks = marks_of one.state one.tenant;
      are = refl;
      store = by.store;
      legal = by.legal;
      replies = sym by.replies;
      last = by.store;
      of_last = by.legal;
      same = later_itself by.store;
      words = by.left.words;
      quota = by.quota;
    }

-- one server, and then those that are of one store
module _ (one next : ServerRun) (later : List ServerRun) (is : IsServerRun one) (its : IsServerRun next) (found : IsFoundAfter one.config one.state one.tenant (start_of next).words) (rest : AreOfOneStoreInTurn next later) where
  abbrev given : TenantStart
  given = start_of next

  start : Starts one.config one.openings one.events one.state one.tenant is.is is.there given.words given.is_up given.quota
  start = starts_so one.config one.openings one.events one.state one.tenant is.is is.there given.words given.is_up given.quota (quota_fits given.quota (its.is.played.starts.quotas.each next.tenant its.there)) found

  abbrev base : Store
  base = store_at (start_of one)

  abbrev store : Store
  store = (served one.config one.openings one.events one.state one.tenant is.is is.there).store

  abbrev mark : Mark
  mark = Restart start.interrupted start.take given.is_up given.quota

  abbrev own : List Mark
  own = marks_of one.state one.tenant

  on : GoesOn base own store.next mark (first_store given.words given.quota (not given.is_up)) rest.marks rest.store
  on = stores_go_on base store (store_after_start store given.words given.is_up given.quota) rest.store own rest.marks start.interrupted start.take given.is_up given.quota
      (legal one.config one.openings one.events one.state one.tenant is.is is.there) start.goes rest.legal

  asked : store.next ≡ asked_of one
  asked = sym (served one.config one.openings one.events one.state one.tenant is.is is.there).simulated.refines.holds.next

  abbrev all : ℕ → List Mark
  all many = own ++ mark ∷ map (later_mark many) rest.marks

  handed : replies_from base own ≡ replies_to one.config one.tenant (world_at one.config one.openings) one.events
  handed = sym (every_run_is_durably_linearizable one.config one.openings one.events one.state one.tenant is.is is.there).replies

  told : replies_from base (all (asked_of one)) ≡ replies_in_turn one (next ∷ later)
  told =
      ap (λ (n : ℕ). replies_from base (all n)) (sym asked) ∙ on.replies
      ∙ ap (λ (first : List (ℕ × Reply)). first ++ map (later_reply store.next) (replies_from (store_at given) rest.marks)) handed
      ∙ ap (λ (more : List (ℕ × Reply)). replies_to one.config one.tenant (world_at one.config one.openings) one.events ++ map (later_reply store.next) more) rest.replies
      ∙ ap (λ (n : ℕ). replies_to one.config one.tenant (world_at one.config one.openings) one.events ++ map (later_reply n) (replies_in_turn next later)) asked

  with_rest : AreOfOneStoreInTurn one (next ∷ later)
  with_rest = record {
    marks = all (asked_of one);
    are = (start.interrupted, start.take, rest.marks, rest.are, refl);
    store = on.whole;
    legal = ap (λ (n : ℕ). run_of_store base (all n)) (sym asked) ∙ on.legal;
    replies = told;
    last = rest.last;
    of_last = rest.of_last;
    same = later_again (asked_of one) (asked_before next later) on.whole rest.store rest.last (subst (λ (n : ℕ). IsLater n on.whole rest.store) asked on.same) rest.same;
    words = rest.words ∙ sym on.same.words;
    quota = rest.quota ∙ sym on.same.quota;
  }

pub servers_in_turn : ServersInTurnAreOfOneStore
servers_in_turn one [] turn = alone one turn
servers_in_turn one (next ∷ later) turn = with_rest one next later turn.0 (first_is next later turn.2) turn.1 (servers_in_turn next later turn.2)
