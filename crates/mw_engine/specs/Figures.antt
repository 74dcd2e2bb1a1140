-- Defines what figures (a report for the administrator) tell: what one load of each tenant's door and one of each slot's gate
-- found, each at a moment of its own. No load adds an event to the run.
-- Used by: src/figures.rt, mw_service.
use Rattle.std.specs.Prelude.{ℕ, suc, ◌≡◌, ◌&&◌, Bool, true, not, cond, nat_lt, List, [], ◌∷◌, length, map, sum_by, Option, Some}
use Rattle.mw_words.specs.declared.doors.Door.{Door}
use Rattle.mw_words.specs.declared.gates.Gate.{Gate}
use Rattle.mw_words.specs.declared.limits.TheConstants.{WORN_NUMBER}
use Rattle.mw_words.specs.declared.places.At.{At}
use Rattle.mw_words.specs.declared.places.At.TheVariants.{Door as AtDoor, Gate as AtGate}
use Rattle.mw_words.specs.Patterns.{unpacked_door, unpacked_gate}
use Rattle.mw_report.specs.declared.figures.TenantFigures.{TenantFigures}
use Rattle.mw_core.specs.FromTable.{AddsNoEvent, ExtendsView, LearnsPlainLoad, Pass, View, index_of}
use Rattle.mw_engine.specs.Identity.{Line}

-- A word was loaded and had these bits: those in a world after some run, in which at least what the pass had seen by
-- then was sealed. The load adds no event: the run goes on from the one that the pass knew.
pub record IsLoaded (index bits : ℕ) (old new : View) : Type 0 where
  pub looked : LearnsPlainLoad index bits old new
  pub event : AddsNoEvent index bits old new

-- The words of these places were loaded one after the other and had these bits. Nothing else was done on the shared
-- words.
abbrev pub Loads : ℕ → List (At × ℕ) → View → View → Type 0
Loads pool [] old new = new ≡ old
Loads pool (one ∷ rest) old new = (between : View) × IsLoaded (index_of pool one.0) one.1 old between × Loads pool rest between new

-- these bits, each with its place: the places are of one kind, with consecutive numbers from `first`
abbrev pub each_at : (ℕ → At) → ℕ → List ℕ → List (At × ℕ)
each_at place first [] = []
each_at place first (bits ∷ rest) = (place first, bits) ∷ each_at place (suc first) rest

-- The load of a tenant's door found this door.
pub record FoundDoor (pool tenant : ℕ) (door : Door) (old new : View) : Type 0 where
  pub bits : ℕ
  pub loaded : IsLoaded (index_of pool (AtDoor tenant)) bits old new
  pub unpacked : unpacked_door bits ≡ Some door

-- The load of a slot's gate found this gate.
pub record FoundGate (pool slot : ℕ) (gate : Gate) (old new : View) : Type 0 where
  pub bits : ℕ
  pub loaded : IsLoaded (index_of pool (AtGate slot)) bits old new
  pub unpacked : unpacked_gate bits ≡ Some gate

-- the line that a tenant's figures tell
abbrev pub line_shown : TenantFigures → Line
line_shown figures = record { name = figures.name.items; words = figures.words; quota = figures.quota }

-- the door that a tenant's figures tell: whether its file has a fault, and how many slots are in use
abbrev pub door_shown : TenantFigures → Door
door_shown figures = record { fault = not figures.up; used = figures.used }

-- the same, as what bits unpack to
abbrev pub door_told : TenantFigures → Option Door
door_told figures = Some (door_shown figures)

-- a gate, as what bits unpack to
abbrev pub gate_told : Gate → Option Gate
gate_told gate = Some gate

-- how many places the figures tell of the tenant's file
abbrev pub places_shown : TenantFigures → ℕ
places_shown figures = figures.places

-- The figures tell these lines, these numbers of places, and the doors that one load of each tenant's door found, in
-- the tenants' order.
pub record TellTenants (pool : ℕ) (lines : List Line) (places : List ℕ) (figures : List TenantFigures) (old new : View) : Type 0 where
  pub lines_are : map line_shown figures ≡ lines
  pub places_are : map places_shown figures ≡ places
  pub bits : List ℕ
  pub loads : Loads pool (each_at AtDoor 0 bits) old new
  pub doors : map unpacked_door bits ≡ map door_told figures

-- a slot is free if it is neither taken nor worn
abbrev pub is_free : Gate → Bool
is_free gate = not gate.taken && nat_lt gate.seq WORN_NUMBER

-- how many of these gates are of free slots
abbrev pub free_among : List Gate → ℕ
free_among gates = sum_by (λ gate. cond (is_free gate) 1 0) gates

-- So many of the slots are free, by the gates that one load of each found, in the slots' order.
pub record TellsFree (pool slots free : ℕ) (old new : View) : Type 0 where
  pub gates : List Gate
  pub count : length gates ≡ slots
  pub bits : List ℕ
  pub loads : Loads pool (each_at AtGate 0 bits) old new
  pub unpacked : map unpacked_gate bits ≡ map gate_told gates
  pub free_are : free ≡ free_among gates

-- Figures and free slots are told: the doors were loaded first, then the gates, and nothing else.
pub record TellAll (pool slots : ℕ) (lines : List Line) (places : List ℕ) (figures : List TenantFigures) (free : ℕ) (old new : View) : Type 0 where
  pub between : View
  pub tenants : TellTenants pool lines places figures old between
  pub slots_free : TellsFree pool slots free between new

-- The pass only looked: its worker is the same, it is idle, what it had seen goes on, and it has noted no further
-- request.
pub record HasLooked (old new : Pass) : Type 0 where
  pub same_worker : new.worker ≡ old.worker
  pub idle : new.idle ≡ true
  pub keeps : ExtendsView old.seat.me.0 new.seat.me.0
  pub same_mine : new.seat.me.0.mine ≡ old.seat.me.0.mine
