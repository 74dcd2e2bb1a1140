-- Defines how many descriptors a server needs. Used by: src/descriptors.rt. It changes with what a server opens.
use Rattle.std.specs.Prelude.{ℕ, ◌+◌, Bool, if◌then◌else◌}
use Rattle.mw_workers.specs.declared.desk.TheConstants.{DESK_QUEUE}
use Rattle.mw_workers.specs.declared.server.TheConstants.{QUEUE}
use Rattle.mw_workers.specs.declared.usher.TheConstants.{WAITING}

-- the connections that no session serves yet: QUEUE that wait, and one that is being accepted; if they wait for a limited time,
-- WAITING, one that is being accepted, and one on its way to a session
abbrev pub needed_to_wait : Bool → ℕ
needed_to_wait is_limited = if is_limited then WAITING + 2 else QUEUE + 1

-- The standard streams, the tenants' files, a look at one of them, the listener, each connection that is served at once, and those that no session
-- serves yet. With an address for the administrator also its listener, a second handle of it, the connections that wait there,
-- and one that is being accepted. With an address for the pages also its listener, and a second handle of it. With a lease its file.
abbrev pub needed : ℕ → ℕ → Bool → Bool → Bool → Bool → ℕ
needed tenants served is_limited has_admin has_pages has_lease =
    3 + tenants + 1 + 1 + served + needed_to_wait is_limited + (if has_admin then 3 + DESK_QUEUE else 0) + (if has_pages then 2 else 0) + (if has_lease then 1 else 0)
