-- Defines what a claim log keeps of a world's history: for which request each slot was claimed, and for which changes the
-- reply FAULT was decided.
-- Used by: src/claims.rt, src/lines.rt, src/workers.rt, mw_simulator.
use Rattle.std.specs.Prelude.{ℕ, ◌+◌, ◌≡◌, ◌≤◌, ◌==◌, ◌&&◌, Bool, List, reverse, Option, vec_len, vec_capacity}
use Rattle.std.specs.List.{find, list_any}
use Rattle.std.specs.Option.{option_map_or}
use Rattle.mw_actor.specs.declared.points.Slot.{Slot}
use Rattle.mw_world.specs.Definition.History.{History}
use Rattle.mw_world_memory.specs.declared.claims.Claim.{Claim}
use Rattle.mw_world_memory.specs.declared.claims.ClaimLog.{ClaimLog}

-- this is the slot under the sequence number
abbrev pub is_under : Slot → ℕ → ℕ → Bool
is_under change slot seq = (change.slot == slot) && (change.seq == seq)

-- the latest of these claims of the slot under the sequence number
abbrev pub latest : List Claim → ℕ → ℕ → Option Claim
latest claims slot seq = find (λ claim. is_under claim.own slot seq) (reverse claims)

-- the slot under the sequence number is one of these
abbrev pub is_one_of : List Slot → ℕ → ℕ → Bool
is_one_of changes slot seq = list_any (λ change. is_under change slot seq) changes

-- the request that a slot was claimed for under a sequence number; 0: it wasn't
abbrev pub request_in : ClaimLog → ℕ → ℕ → ℕ
request_in known slot seq = option_map_or (λ claim. claim.request) (latest known.claims.items slot seq) 0

-- FAULT was decided for the request of the slot's change
abbrev pub is_fault_decided_in : ClaimLog → ℕ → ℕ → Bool
is_fault_decided_in known slot seq = is_one_of known.fault_decided.items slot seq

-- The log has what this history has.
pub record Recalls (known : ClaimLog) (past : History) : Type 0 where
  pub requests : (slot seq : ℕ) → request_in known slot seq ≡ past.request slot seq
  pub fault_decided : (slot seq : ℕ) → is_fault_decided_in known slot seq ≡ past.is_fault_decided slot seq

-- the two logs have the same
pub record SameClaims (old new : ClaimLog) : Type 0 where
  pub claims : new.claims.items ≡ old.claims.items
  pub fault_decided : new.fault_decided.items ≡ old.fault_decided.items

-- there is room for one more label, of any slot
pub record HasRoomForLabel (known : ClaimLog) : Type 0 where
  pub claims : vec_len known.claims + 1 ≤ vec_capacity known.claims
  pub fault_decided : vec_len known.fault_decided + 1 ≤ vec_capacity known.fault_decided
