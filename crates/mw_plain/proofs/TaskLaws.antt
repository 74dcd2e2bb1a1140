-- If tasks (jobs, each with its tenant) are asked one after the other, each tenant is served as its store alone serves.
-- Used by: Plain::run.
use Rattle.std.proofs.Common.{◌≡◌, ◌≢◌, ℕ, suc, ◌+◌, ◌<◌, ◌==◌, true, false, List, [], ◌∷◌, ◌++◌, length, drop, get_or, Option, IsTrue, refl, sym, ap, subst, ◌∙◌, add-one, append_assoc, append-nil, inl, inr, arith}
use Rattle.std.specs.Prelude.{if◌then◌else◌}
use Rattle.std.proofs.Math.Seq.{drop-cons}
use Rattle.std.proofs.lemmas.Bool.{cases_eq}
use Rattle.std.proofs.lemmas.Bool.Decides.{nat_tests}
use Rattle.std.specs.Option.{option_and_then, option_map_or}
use Rattle.mw_disk.specs.Facts.{Facts}
use Rattle.mw_words.specs.declared.jobs.Job.{Job}
use Rattle.mw_words.specs.declared.replies.Reply.{Reply}
use Rattle.mw_words.specs.Change.{is_well_formed}
use Rattle.mw_lone.specs.Store.{Store}
use Rattle.mw_plain.specs.declared.tenant.Part.{Part}
use Rattle.mw_plain.specs.declared.plain.Plain.{Plain}
use Rattle.mw_plain.specs.declared.tickets.Task.{Task}
use Rattle.mw_plain.specs.Parts.{ServesOne}
use Rattle.mw_plain.specs.Refinement.{Backs, IsKept}
use Rattle.mw_plain.specs.Answers.{Stands, FileKeeps}
use Rattle.mw_plain.specs.Cases.{Served, AllFit, after_ask}
use Rattle.mw_plain.specs.Tasks.{AreTasks, Asked, AskedAll, RunServes, tasks_of}
use Rattle.mw_plain.proofs.Opens.{words_stay}
use Rattle.mw_plain.proofs.Runs.{all-go}

-- the next task
pub next_task : (tasks : List Task) (i : ℕ) (task : Task) → i < length tasks → task ≡ get_or tasks i task → drop i tasks ≡ task ∷ drop (i + 1) tasks
next_task tasks i task lt here = drop-cons tasks i task lt ∙ ap (λ t. t ∷ drop (suc i) tasks) (sym here) ∙ ap (λ n. task ∷ drop n tasks) (sym (add-one i))

-- tasks stay well formed over a call for one tenant
pub tasks_stay : {D : Type 0} (old new : Plain D) (tenant : ℕ) (tasks : List Task) → ServesOne old new tenant → AreTasks old tasks → AreTasks new tasks
tasks_stay old new tenant [] one formed = tt
tasks_stay old new tenant (task ∷ tasks) one formed = (
  record {
    there = subst (λ n. task.tenant < n) (sym one.count) formed.0.there;
    formed = subst (λ n. IsTrue (is_well_formed n task.job)) (sym (words_stay old new tenant task.tenant one)) formed.0.formed;
  },
  tasks_stay old new tenant tasks one formed.1,
)

module _ {D : Type 0} (facts : D → Facts) where
  -- one more was asked
  pub asked_more : (first now next : Plain D) (tasks : List Task) (i : ℕ) (task : Task) (replies new : List Reply) (reply : Reply) → drop i tasks ≡ task ∷ drop (i + 1) tasks
      → new ≡ replies ++ reply ∷ [] → Asked facts now next task reply
      → ((more : List Reply) (last : Plain D) → AskedAll facts now (drop i tasks) more last → AskedAll facts first tasks (replies ++ more) last)
      → (more : List Reply) (last : Plain D) → AskedAll facts next (drop (i + 1) tasks) more last → AskedAll facts first tasks (new ++ more) last
  asked_more first now next tasks i task replies new reply left pushed asked so_far more last rest =
      subst (λ rs. AskedAll facts first tasks (rs ++ more) last) (sym pushed)
      (subst (λ rs. AskedAll facts first tasks rs last) (sym (append_assoc replies (reply ∷ []) more))
      (so_far (reply ∷ more) last (subst (λ ts. AskedAll facts now ts (reply ∷ more) last) (sym left) (next, asked, rest))))

  -- all were asked
  pub asked_all : (first now : Plain D) (tasks : List Task) (i : ℕ) (replies : List Reply) → drop i tasks ≡ []
      → ((more : List Reply) (last : Plain D) → AskedAll facts now (drop i tasks) more last → AskedAll facts first tasks (replies ++ more) last) → AskedAll facts first tasks replies now
  asked_all first now tasks i replies none so_far =
      subst (λ rs. AskedAll facts first tasks rs now) (append-nil replies)
      (so_far [] now (subst (λ ts. AskedAll facts now ts [] now) (sym none) refl))

  -- a call for another tenant
  stands_still : (old new : Plain D) (other tenant : ℕ) (s : Store) → ServesOne old new other → tenant ≢ other → Stands old tenant s → Stands new tenant s
  stands_still old new other tenant s one apart stands = record {
    quota = stands.quota ∙ ap (λ (o : Option (Part D)). option_map_or (λ p. p.quota) o 0) (sym (one.others tenant apart));
    as_many = stands.as_many ∙ ap (λ (o : Option (Part D)). option_map_or (λ p. p.words) o 0) (sym (one.others tenant apart));
    backs = subst (λ (o : Option (Part D)). Backs (option_and_then (λ p. p.book) o) s) (sym (one.others tenant apart)) stands.backs;
  }

  pub serves_all : (old new : Plain D) (tasks : List Task) (replies : List Reply) (tenant : ℕ) (s : Store) → AreTasks old tasks → AskedAll facts old tasks replies new → Stands old tenant s
      → RunServes facts old new tenant tasks replies s
  serves_all old new [] [] tenant s formed asked stands = record {
    all = [];
    own = refl;
    fit = tt;
    goes = all-go s [] tt;
    stands = subst (λ (p : Plain D). Stands p tenant s) (sym asked) stands;
    keeps = λ kept. subst (λ (p : Plain D). FileKeeps facts p tenant s) (sym asked) kept;
  }
  serves_all old new [] (reply ∷ replies) tenant s formed asked stands = absurd asked
  serves_all old new (task ∷ tasks) [] tenant s formed asked stands = absurd asked
  serves_all old new (task ∷ tasks) (reply ∷ replies) tenant s formed asked stands =
      let between = asked.0 in
      let one = asked.1.one in
      let later = tasks_stay old between task.tenant tasks one formed.1 in
      elim (cases_eq task.tenant tenant) [
        | inl same ↦
            let here : Stands old task.tenant s = subst (λ t. Stands old t s) (sym same) stands in
            let serve = asked.1.answers.serves s here in
            let rest = serves_all between new tasks replies tenant (after_ask s task.job asked.1.case) later asked.2 (subst (λ t. Stands between t (after_ask s task.job asked.1.case)) same serve.stands) in
            let served : Served = record { job = task.job; case = asked.1.case; reply = reply } in
            let fit : AllFit s (served ∷ rest.all) = (
              record {
                well_formed = subst (λ n. IsTrue (is_well_formed n task.job)) (sym here.as_many) formed.0.formed;
                met = serve.fits;
                replied = serve.reply_is;
              },
              rest.fit,
            ) in
            let is : (task.tenant == tenant) ≡ true = grind (arith, nat_tests) in
            record {
              all = served ∷ rest.all;
              own = ap (λ (vs : List (Job × Reply)). (task.job, reply) ∷ vs) rest.own
                  ∙ sym (ap (λ b. if b then (task.job, reply) ∷ tasks_of tenant tasks replies else tasks_of tenant tasks replies) is);
              fit = fit;
              goes = all-go s (served ∷ rest.all) fit;
              stands = rest.stands;
              keeps = λ kept. rest.keeps (subst (λ t. FileKeeps facts between t (after_ask s task.job asked.1.case)) same
                  (asked.1.answers.keeps s (subst (λ t. FileKeeps facts old t s) (sym same) kept)));
            }
        | inr apart ↦
            let rest = serves_all between new tasks replies tenant s later asked.2 (stands_still old between task.tenant tenant s one (λ e. apart (sym e)) stands) in
            let is : (task.tenant == tenant) ≡ false = grind (arith, nat_tests) in
            record {
              all = rest.all;
              own = rest.own ∙ sym (ap (λ b. if b then (task.job, reply) ∷ tasks_of tenant tasks replies else tasks_of tenant tasks replies) is);
              fit = rest.fit;
              goes = rest.goes;
              stands = rest.stands;
              keeps = λ kept. rest.keeps (subst (λ (o : Option (Part D)). IsKept facts (option_and_then (λ p. p.book) o) s) (sym (one.others tenant (λ e. apart (sym e)))) kept);
            }
      ]
