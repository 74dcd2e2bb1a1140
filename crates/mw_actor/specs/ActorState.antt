-- Defines the state of a request, and small definitions that its program uses.
-- Used by: many crates from mw_world on, actor.rt, actor/asks.rt, tasks.rt. A change here changes the program of every
-- request, and its laws.
use Rattle.std.specs.Prelude.{ℕ, ◌==◌, ◌&&◌, Bool, cond, List, [], slice_index_or}
use Rattle.mw_words.specs.declared.rows.Row.{Row}
use Rattle.mw_words.specs.declared.words.Word.{Word}
use Rattle.mw_words.specs.declared.words.Word.TheVariants.{Planted, Held}
use Rattle.mw_words.specs.declared.jobs.Entry.{Entry}
use Rattle.mw_words.specs.declared.jobs.Job.{Job}
use Rattle.mw_words.specs.declared.jobs.Job.TheVariants.{Get, Cas}
use Rattle.mw_look.specs.Program.{first as first_of_read}
use Rattle.mw_actor.specs.declared.points.Slot.{Slot}
use Rattle.mw_actor.specs.declared.points.Task.{Task}
use Rattle.mw_actor.specs.declared.points.Attempt.{Attempt}
use Rattle.mw_actor.specs.declared.points.Point.{Point}
use Rattle.mw_actor.specs.declared.points.Point.TheVariants.{Read, ReadDoor}

-- The state of a request: its worker, its tenant, the tenant's quota, how many slots the pool has, its job, the
-- entries of another's change as far as they were read, and its point.
pub record ActorState : Type 0 where
  pub worker : ℕ
  pub tenant : ℕ
  pub quota : ℕ
  pub pool : ℕ
  pub job : Job
  pub others : List Entry
  pub point : Point

-- the first point of a job: a read follows its own program, a change begins at its tenant's door
abbrev pub first_point : ℕ → Job → Point
first_point tenant (Get address) = Read (first_of_read tenant address)
first_point tenant (Cas entries) = ReadDoor

-- a request at its first point
abbrev pub first : ℕ → ℕ → ℕ → ℕ → Job → ActorState
first worker tenant quota pool job = record { worker = worker; tenant = tenant; quota = quota; pool = pool; job = job; others = []; point = first_point tenant job }

-- two slots are the same and have the same sequence number
abbrev pub same_slot : Slot → Slot → Bool
same_slot one other = (one.slot == other.slot) && (one.seq == other.seq)

-- the task of a request that works on its own change
abbrev pub alone : Slot → Task
alone own = record { own = own; target = own }

-- the target is the request's own change
abbrev pub is_alone : Task → Bool
is_alone task = same_slot task.target task.own

-- the entries of a job; a read has none
abbrev pub entries_of_job : Job → List Entry
entries_of_job (Get address) = []
entries_of_job (Cas entries) = entries.items

-- the entries of the request's own change
abbrev pub own_entries : ActorState → List Entry
own_entries actor = entries_of_job actor.job

-- the entries of the target
abbrev pub entries_of : ActorState → Task → List Entry
entries_of actor task = cond (is_alone task) (own_entries actor) actor.others

-- the entry at an index; past the last one an entry of zeros, and no program comes there
abbrev pub entry_at : List Entry → ℕ → Entry
entry_at entries index = slice_index_or entries index (record { addr = 0; expected = 0; new = 0 })

-- the target's entry at an index
abbrev pub entry_of : ActorState → Task → ℕ → Entry
entry_of actor task index = entry_at (entries_of actor task) index

-- the change that a row names
abbrev pub row_slot : Row → Slot
row_slot row = record { slot = row.slot; seq = row.seq }

-- the word that has an attempt
abbrev pub planted : Attempt → Word
planted attempt = Planted attempt.worker attempt.number

-- the word that is held for a change
abbrev pub held : Slot → Word
held slot = Held slot.slot slot.seq
