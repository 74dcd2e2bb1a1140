-- Defines what each family of metrics has for one tenant.
-- Used by: tenant_lines.rt. It may change with them, as long as specs/Figures stays.
use Rattle.std.specs.Prelude.{ℕ, List, []}
use Rattle.mw_metrics.specs.declared.figures.TenantMetrics.{TenantMetrics}
use Rattle.mw_metrics.specs.declared.families.Family.{Family}
use Rattle.mw_metrics.specs.declared.families.Family.TheVariants.{Build, Uptime, Lease, Server, Closed, Tenant, Requests, DeviceFailures, RequestTime, DeviceTime}
use Rattle.mw_metrics.specs.Figures.{gauge_line, request_lines, failure_lines, request_times, call_times}

-- the lines of a family for one tenant: a family of the whole server has none
abbrev pub lines_of : Family → TenantMetrics → List ℕ
lines_of (Tenant gauge) = gauge_line gauge
lines_of Requests = request_lines
lines_of DeviceFailures = failure_lines
lines_of RequestTime = request_times
lines_of DeviceTime = call_times
lines_of Build = λ tenant. []
lines_of Uptime = λ tenant. []
lines_of Lease = λ tenant. []
lines_of (Server figure) = λ tenant. []
lines_of Closed = λ tenant. []

-- the most bytes of these lines
abbrev pub most_of : Family → ℕ
most_of (Tenant gauge) = 212
most_of Requests = 4452
most_of DeviceFailures = 636
most_of RequestTime = 9540
most_of DeviceTime = 9540
most_of Build = 0
most_of Uptime = 0
most_of Lease = 0
most_of (Server figure) = 0
most_of Closed = 0
