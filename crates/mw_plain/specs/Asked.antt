-- Defines when the list of requests in code represents the map from request numbers in Store of mw_lone.
-- Used by: asked.rt. It may change with src/asked.rt.
use Rattle.std.specs.Prelude.{ℕ, ◌+◌, ◌≤◌, ◌&&◌, ◌^◌, ◌<◌, not, Bool, List, [], ◌∷◌, length}
use Rattle.std.specs.List.{count_by}
use Rattle.std.specs.Ordering.{nat_cmp}
use Rattle.std.specs.FinMap as map
use Rattle.mw_plain.specs.declared.asked.Request.{Request as Kept}
use Rattle.mw_plain.specs.declared.asked.Requests.TheInside.{Inside}
use Rattle.mw_lone.specs.Store.{RequestState}

-- the requests, the number of the next one, and how many slots they use
pub record Asked : Type 0 where
  pub next : ℕ
  pub used : ℕ
  pub requests : map.FinMap nat_cmp RequestState

-- a request of the list, as a store has it
abbrev pub seen : Kept → RequestState
seen r = record { job = r.job; admitted = r.admitted; placed = r.placed; retired = r.retired; handed = r.handed }

-- it has a slot
abbrev pub holds_slot : Kept → Bool
holds_slot r = r.admitted && not r.retired

-- the requests of a list as a map; the first has the number `first`, and each further one the next
abbrev pub numbered : ℕ → List Kept → map.FinMap nat_cmp RequestState
numbered first [] = map.empty
numbered first (r ∷ rs) = map.insert (numbered (first + 1) rs) first (seen r)

-- what the list and its counts represent
abbrev pub asked_of : Inside → Asked
asked_of a = record { next = a.first + length a.list.items; used = a.used; requests = numbered a.first a.list.items }

-- The next number is at most the last of all. At least as many slots are counted as requests have one.
pub record IsCounted (first : ℕ) (list : List Kept) (used : ℕ) : Type 0 where
  pub numbers : first + length list < 2 ^ 64
  pub slots : count_by holds_slot list ≤ used
