-- A call that is made again after it was interrupted: what is made from now on leads on from the first call. Used by: file.rt.
use Rattle.std.specs.Prelude.{zero, suc}
use Rattle.mw_disk.specs.DeviceCalls.{DeviceCall}
use Rattle.mw_disk.specs.FileCalls.{Interrupted, IsRepeated, Went}

module _ {F : Type 0} (made : DeviceCall → Went → F → F → Type 0) where
  -- However the call is repeated from now on, it was repeated so from the start on.
  abbrev pub LeadsOn : DeviceCall → F → F → Type 0
  LeadsOn call start now = (went : Went) (new : F) → IsRepeated made call went now new → IsRepeated made call went start new

  -- a call was interrupted
  pub leads_on : (call : DeviceCall) (start now mid : F) → LeadsOn call start now → made call Interrupted now mid → LeadsOn call start mid
  leads_on call start now mid on cut went new rest = on went new (suc rest.0, (mid, cut, rest.1))

  -- a call was the last one
  pub leads_to : (call : DeviceCall) (went : Went) (start now new : F) → LeadsOn call start now → made call went now new → IsRepeated made call went start new
  leads_to call went start now new on last = on went new (zero, last)
