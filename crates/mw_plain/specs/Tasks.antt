-- Defines how a list of tasks (jobs, each with its tenant) is answered, and what it does to the tenants' stores alone.
-- Used by: plain.rt. A change here changes what Plain::run promises.
use Rattle.std.specs.Prelude.{◌≡◌, ◌<◌, ◌==◌, ℕ, List, [], ◌∷◌, map, IsTrue, if◌then◌else◌}
use Rattle.mw_disk.specs.Facts.{Facts}
use Rattle.mw_words.specs.declared.jobs.Job.{Job}
use Rattle.mw_words.specs.declared.replies.Reply.{Reply}
use Rattle.mw_words.specs.Change.{is_well_formed}
use Rattle.mw_lone.specs.Store.{Store}
use Rattle.mw_plain.specs.declared.plain.Plain.{Plain}
use Rattle.mw_plain.specs.declared.tickets.Task.{Task}
use Rattle.mw_plain.specs.Answers.{Stands, FileKeeps, AsksAs}
use Rattle.mw_plain.specs.Cases.{AskCase, Served, AllFit, after_all, marks_of_all, replies_to_all}
use Rattle.mw_plain.specs.Marks.{Goes}
use Rattle.mw_plain.specs.Parts.{tenants, words_at, ServesOne}

-- the tasks of one tenant, each with its reply
abbrev pub tasks_of : ℕ → List Task → List Reply → List (Job × Reply)
tasks_of tenant (task ∷ tasks) (reply ∷ replies) = if task.tenant == tenant then (task.job, reply) ∷ tasks_of tenant tasks replies else tasks_of tenant tasks replies
tasks_of tenant tasks replies = []

module _ {D : Type 0} where
  -- each task is of a tenant that is there, and is well formed for the tenant's words
  pub record IsTask (plain : Plain D) (task : Task) : Type 0 where
    pub there : task.tenant < tenants plain
    pub formed : IsTrue (is_well_formed (words_at plain task.tenant) task.job)

  -- all of these are such tasks
  abbrev pub AreTasks : Plain D → List Task → Type 0
  AreTasks plain [] = Unit {0}
  AreTasks plain (task ∷ tasks) = IsTask plain task × AreTasks plain tasks

module _ {D : Type 0} (facts : D → Facts) where
  -- one task was asked: its tenant answered it, and every other tenant is as it was
  pub record Asked (old new : Plain D) (task : Task) (reply : Reply) : Type 0 where
    pub one : ServesOne old new task.tenant
    pub case : AskCase
    pub answers : AsksAs facts case old new task.tenant task.job reply

  -- these tasks were asked, one after the other, with these replies
  abbrev pub AskedAll : Plain D → List Task → List Reply → Plain D → Type 0
  AskedAll old [] [] new = new ≡ old
  AskedAll old [] (reply ∷ replies) new = ⊥
  AskedAll old (task ∷ tasks) [] new = ⊥
  AskedAll old (task ∷ tasks) (reply ∷ replies) new = (between : Plain D) × Asked old between task reply × AskedAll between tasks replies new

  -- What the tasks do to a store alone that represents a tenant; only the tenant's own tasks count. Their marks are
  -- legal and hand out these replies, in order. The store after them represents the tenant, and the tenant's file
  -- represents its words if it did before.
  pub record RunServes (old new : Plain D) (tenant : ℕ) (tasks : List Task) (replies : List Reply) (s : Store) : Type 0 where
    pub all : List Served
    pub own : map (λ served. (served.job, served.reply)) all ≡ tasks_of tenant tasks replies
    pub fit : AllFit s all
    pub goes : Goes s (marks_of_all s.next all) (replies_to_all s.next all) (after_all s all)
    pub stands : Stands new tenant (after_all s all)
    pub keeps : FileKeeps facts old tenant s → FileKeeps facts new tenant (after_all s all)

  -- so the tasks serve each store alone that represents a tenant
  abbrev pub ServesAll : Plain D → Plain D → List Task → List Reply → Type 0
  ServesAll old new tasks replies = (tenant : ℕ) (s : Store) → Stands old tenant s → RunServes old new tenant tasks replies s
