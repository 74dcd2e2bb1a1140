-- A request keeps its values in range, and stays at points that fit its job, because each step finds values in range.
-- Used by: mw_law_store.
use Rattle.std.specs.Prelude.{ℕ, List}
use Rattle.std.proofs.Common.{sym, subst, inl, inr}
use Rattle.mw_words.specs.declared.jobs.Entry.{Entry}
use Rattle.mw_words.specs.declared.jobs.Job.{Job}
use Rattle.mw_words.specs.declared.jobs.Job.TheVariants.{Get, Cas}
use Rattle.mw_words.specs.declared.places.At.{At}
use Rattle.mw_words.specs.declared.places.At.TheVariants.{Door as AtDoor, Gate as AtGate, Row as AtRow, Data, Status as AtStatus, Count, Addr, Expected, New}
use Rattle.mw_look.specs.declared.observations.Observation.{Observation}
use Rattle.mw_look.specs.declared.observations.Observation.TheVariants.{SawDoor, SawGate, SawStatus, Won, Lost, Filed}
use Rattle.mw_look.specs.Observations.{IsObservationInRange, seen}
use Rattle.mw_look.specs.Places.{Val, Fits}
use Rattle.mw_look.specs.Program.{Reading as ReadingOfWord, goes as read_goes}
use Rattle.mw_look.proofs.RangeLaws.{goes_in_range}
use Rattle.mw_look.specs.Steps.{Step, Load, Change, File as FileStep}
use Rattle.mw_actor.specs.declared.points.After.{After}
use Rattle.mw_actor.specs.declared.points.After.TheVariants.{Work, GiveUp as ThenGiveUp, Reply as ThenReply}
use Rattle.mw_actor.specs.declared.points.Point.{Point}
use Rattle.mw_actor.specs.declared.points.Point.TheVariants.{Read}
use Rattle.mw_actor.specs.declared.points.Task.{Task}
use Rattle.mw_actor.specs.ActorState.{ActorState}
use Rattle.mw_actor.specs.Help.{others_read}
use Rattle.mw_actor.specs.Program.{goes}
use Rattle.mw_law_runs.proofs.Requests.StageLaws.{goes_leads}
use Rattle.mw_actor.specs.Stages.{Stage, Reading, Outside, Entering, Seeking, Claiming, WritingStatus, WritingCount, WritingAddr, WritingExpected, WritingNew, Preparing, Checking, Inspecting, Holding, Deciding, Working, Nearing, Pinning, Fetching, Leaving, Freeing, Lowering, GivingUp, stage, Resumes, OnTask, Scans, Leads}
use Rattle.mw_world.specs.Definition.Cells.{Cells, read, AllFit}
use Rattle.mw_look.specs.declared.steps.Shape.{Shape}
use Rattle.mw_look.specs.declared.steps.Shape.TheVariants.{Exchange, Store, Fetch}
use Rattle.mw_look.specs.Shapes.{shape_of}
use Rattle.mw_law_runs.specs.Counts.Exact.{IsLookInRange}
use Rattle.mw_law_runs.specs.Knowledge.Informed.{IsPointFor, Changes}
use Rattle.mw_law_runs.proofs.StepEnds.{Ends}

-- what a request sees of a value in range is in range
seen_in_range : (at : At) (x : Val at) → Fits at x → IsObservationInRange (seen at x)
seen_in_range (AtDoor tenant) x fits = fits
seen_in_range (AtGate slot) x fits = fits
seen_in_range (AtRow worker) x fits = fits
seen_in_range (Data tenant address) x fits = fits
seen_in_range (AtStatus slot) x fits = fits
seen_in_range (Count slot) x fits = fits
seen_in_range (Addr slot entry) x fits = fits
seen_in_range (Expected slot entry) x fits = fits
seen_in_range (New slot entry) x fits = fits

changes_in_range : (shape : Shape) (at : At) (from : Val at) (cells : Cells) (observation : Observation) → AllFit cells → Changes shape at from cells observation → IsObservationInRange observation
changes_in_range Exchange at from cells observation fit changes = subst IsObservationInRange (sym changes.0) tt
changes_in_range Store at from cells observation fit changes = subst IsObservationInRange (sym changes) tt
changes_in_range Fetch at from cells observation fit changes = subst IsObservationInRange (sym changes) (seen_in_range at (read cells at) (fit at))

pub ends_in_range : (cells : Cells) (step : Step) (observation : Observation) → AllFit cells → Ends cells step observation → IsObservationInRange observation
ends_in_range cells (Load at) observation fit (inl quiet) = subst IsObservationInRange (sym quiet) (seen_in_range at (read cells at) (fit at))
ends_in_range cells (Load at) observation fit (inr changes) = absurd changes
ends_in_range cells (Change kind at from to) observation fit (inl quiet) = subst IsObservationInRange (sym quiet.1) tt
ends_in_range cells (Change kind at from to) observation fit (inr changes) = changes_in_range (shape_of kind) at from cells observation fit changes
ends_in_range cells (FileStep call slot) observation fit (inl quiet) = absurd quiet
ends_in_range cells (FileStep call slot) observation fit (inr changes) = absurd changes

-- a change never becomes a read
abbrev IsNoRead : Stage → Type 0
IsNoRead (Reading tenant) = ⊥
IsNoRead now = Unit {0}

resumes : (onward : After) → Resumes IsNoRead onward
resumes (Work task) = (λ alone. tt, λ other. tt)
resumes (ThenGiveUp own undecided) = tt
resumes (ThenReply reply) = tt

on_task : (task : Task) → OnTask IsNoRead task
on_task task = record {
  checks = tt;
  works = tt;
  nears = λ other apart. tt;
  turns_back = (λ alone. (λ one. tt, λ two. tt), λ other. tt);
  ends = λ reply alone. tt;
  gives_up = λ alone. tt;
  leaves_and_gives_up = λ undecided other. tt;
}

scans : Scans IsNoRead
scans = (tt, λ slot from to claims. tt, λ reply. tt)

leads : (actor : ActorState) (others : List Entry) (now : Stage) (observation : Observation) → IsNoRead now → Leads IsNoRead actor others now observation
leads actor others Outside observation no_read = (tt, λ from to. tt, tt)
leads actor others (Entering from to) Won no_read = tt
leads actor others (Entering from to) Lost no_read = tt
leads actor others Seeking observation no_read = scans
leads actor others (Claiming slot from to) Won no_read = tt
leads actor others (Claiming slot from to) Lost no_read = scans
leads actor others (WritingStatus own) Won no_read = tt
leads actor others (WritingCount own) Won no_read = tt
leads actor others (WritingAddr own entry) Won no_read = tt
leads actor others (WritingExpected own entry) Won no_read = tt
leads actor others (WritingNew own entry) Won no_read = (λ more. tt, λ last. tt)
leads actor others (Preparing own) (Filed went_well) no_read = (λ well. tt, λ failed. tt)
leads actor others (Checking task) observation no_read = (λ is_open. tt, on_task task)
leads actor others (Inspecting task entry) observation no_read = (tt, tt, λ held more. tt, λ held last. tt, on_task task)
leads actor others (Holding task entry) observation no_read = (tt, on_task task)
leads actor others (Deciding task) observation no_read = (tt, on_task task)
leads actor others (Working task) observation no_read = on_task task
leads actor others (Nearing task other) observation no_read = (tt, tt, λ from to pins. tt)
leads actor others (Pinning task other from to) Won no_read = (λ alone. (λ one. tt, λ two. tt), λ apart. tt)
leads actor others (Pinning task other from to) Lost no_read = tt
leads actor others (Fetching task) observation no_read = (tt, λ some. tt)
leads actor others (Leaving slot onward) (SawGate gate) no_read = (λ last. tt, λ more. resumes onward)
leads actor others (Freeing slot onward) Won no_read = tt
leads actor others (Lowering onward) (SawDoor door) no_read = resumes onward
leads actor others (GivingUp own) (SawStatus status) no_read = tt
leads actor others now observation no_read = no_read

change_goes : (actor : ActorState) (next : ℕ) (point : Point) (observation : Observation) → IsNoRead (stage point) → IsNoRead (stage (goes actor next point observation))
change_goes actor next point observation no_read = goes_leads IsNoRead actor next point observation (leads actor (others_read actor.others point observation) (stage point) observation no_read)

look_of_change : (point : Point) → IsNoRead (stage point) → IsLookInRange point
look_of_change (Read look) no_read = absurd no_read
look_of_change point no_read = tt

pub look_goes : (actor : ActorState) (next : ℕ) (point : Point) (observation : Observation) → IsLookInRange point → IsObservationInRange observation → IsLookInRange (goes actor next point observation)
look_goes actor next (Read look) observation range told = goes_in_range look.address look.point observation range told
look_goes actor next point observation range told = look_of_change (goes actor next point observation) (change_goes actor next point observation tt)

-- a change at a point for its job stays at such a point
for_change : (job : Job) (before point : Point) → IsPointFor job before → IsNoRead (stage before) → IsNoRead (stage point) → IsPointFor job point
for_change (Get address) (Read look) point for_job was_none is_none = absurd was_none
for_change (Get address) before point for_job was_none is_none = absurd for_job
for_change (Cas entries) before (Read look) for_job was_none is_none = absurd is_none
for_change (Cas entries) before point for_job was_none is_none = tt

for_read : (job : Job) (look : ReadingOfWord) (observation : Observation) → IsPointFor job (Read look) → IsPointFor job (Read (record look { point = read_goes look.address look.point observation }))
for_read (Get address) look observation for_job = for_job
for_read (Cas entries) look observation for_job = for_job

pub job_goes : (actor : ActorState) (next : ℕ) (point : Point) (observation : Observation) → IsPointFor actor.job point → IsPointFor actor.job (goes actor next point observation)
job_goes actor next (Read look) observation for_job = for_read actor.job look observation for_job
job_goes actor next point observation for_job = for_change actor.job point (goes actor next point observation) for_job tt (change_goes actor next point observation tt)
