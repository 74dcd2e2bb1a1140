-- Defines the text of all figures: the families of metrics in their order, and the samples of each.
-- Used by: exposition.rt, figures.rt, histogram_lines.rt, server_lines.rt, tenant_lines.rt, mw_server_pages. Scrapers read
-- it: change docs/HTTP, docs/OPERATING and contrib with it.
use Rattle.std.specs.Prelude.{ℕ, Bool, true, false, ◌+◌, ◌-◌, ◌^◌, ◌++◌, List, [], ◌∷◌, min, sum, take, flat_map, codes, decimal, Option, Some, None, if◌then◌else◌}
use Rattle.mw_report.specs.declared.figures.TenantFigures.{TenantFigures}
use Rattle.mw_metrics.specs.declared.histogram.HistogramFigures.{HistogramFigures}
use Rattle.mw_metrics.specs.declared.histogram.TheConstants.{BOUNDS}
use Rattle.mw_metrics.specs.declared.figures.ReplyCounts.{ReplyCounts}
use Rattle.mw_metrics.specs.declared.figures.RequestFigures.{RequestFigures}
use Rattle.mw_metrics.specs.declared.figures.CallFigures.{CallFigures}
use Rattle.mw_metrics.specs.declared.figures.TenantCounts.{TenantCounts}
use Rattle.mw_metrics.specs.declared.figures.TenantMetrics.{TenantMetrics}
use Rattle.mw_metrics.specs.declared.figures.FilePlace.{FilePlace}
use Rattle.mw_metrics.specs.declared.figures.FilePlace.TheVariants as place
use Rattle.mw_metrics.specs.declared.figures.ClosedCounts.{ClosedCounts}
use Rattle.mw_metrics.specs.declared.figures.ServerMetrics.{ServerMetrics}
use Rattle.mw_metrics.specs.declared.kinds.RequestKind.{RequestKind}
use Rattle.mw_metrics.specs.declared.kinds.RequestKind.TheVariants.{Get, Cas, Other}
use Rattle.mw_metrics.specs.declared.kinds.ReplyKind.{ReplyKind}
use Rattle.mw_metrics.specs.declared.kinds.ReplyKind.TheVariants.{Val, Yes, No, Busy, Fault, Worn, Err}
use Rattle.mw_metrics.specs.declared.kinds.DeviceCall.{DeviceCall}
use Rattle.mw_metrics.specs.declared.kinds.DeviceCall.TheVariants.{Read, Write, Sync}
use Rattle.mw_metrics.specs.declared.kinds.CloseReason.{CloseReason}
use Rattle.mw_metrics.specs.declared.kinds.CloseReason.TheVariants.{Quit, PeerEnd, TooLong, ReadFault, WriteFault, Memory, Unserved}
use Rattle.mw_metrics.specs.declared.kinds.TheConstants.{REQUEST_KINDS, REPLY_KINDS, DEVICE_CALLS, CLOSE_REASONS}
use Rattle.mw_metrics.specs.declared.families.TenantGauge.{TenantGauge}
use Rattle.mw_metrics.specs.declared.families.TenantGauge.TheVariants.{Words, Quota, RecordPlaces, ChangesUnderWay, Up, FileReplaced}
use Rattle.mw_metrics.specs.declared.families.ServerFigure.{ServerFigure}
use Rattle.mw_metrics.specs.declared.families.ServerFigure.TheVariants.{PoolFree, Served, Waiting, Accepted, PassesInUse, PassWaits, Received, Sent}
use Rattle.mw_metrics.specs.declared.families.Family.{Family}
use Rattle.mw_metrics.specs.declared.families.Family.TheVariants.{Build, Uptime, Lease, Server, Closed, Tenant, Requests, DeviceFailures, RequestTime, DeviceTime}
use Rattle.mw_metrics.specs.declared.families.TheConstants.{TENANT_GAUGES, SERVER_FIGURES}
use Rattle.mw_metrics.specs.Exposition.{Label, label, sample, seconds}
use Rattle.mw_metrics.specs.Names.{kind_text, reply_text, call_text, reason_text, family_name, family_help, family_type}

-- a count of 64 bits: it stops at the greatest one
abbrev pub stopped : ℕ → ℕ
stopped n = min n (2 ^ 64 - 1)

-- how many durations were in the buckets before this one, or in all buckets if there is none
unfoldable pub before : List ℕ → ℕ → ℕ
before counts bucket = stopped (sum (take bucket counts))

-- the two lines before a family's samples: what it tells, and its type
unfoldable pub header : Family → List ℕ
header family =
    codes "# HELP " ++ family_name family ++ codes " " ++ family_help family ++ codes "\n"
    ++ codes "# TYPE " ++ family_name family ++ codes " " ++ family_type family ++ codes "\n"

-- a sample of a family whose value is a number
abbrev pub number : Family → List Label → ℕ → List ℕ
number family labels n = sample (family_name family) labels (decimal n)

-- the label of a tenant
abbrev pub tenant_label : TenantMetrics → Label
tenant_label t = label (codes "tenant") t.figures.name.items

-- The buckets of a histogram from this one on: for each bound how many durations were at most as long. A bound is in
-- seconds, the label le, after the two labels of the histogram.
unfoldable pub bucket_lines : Family → Label → Label → List ℕ → ℕ → List ℕ → List ℕ
bucket_lines family a b counts bucket [] = []
bucket_lines family a b counts bucket (bound ∷ bounds) =
    sample (family_name family ++ codes "_bucket") (a ∷ b ∷ label (codes "le") (seconds bound) ∷ []) (decimal (before counts (bucket + 1)))
    ++ bucket_lines family a b counts (bucket + 1) bounds

-- a histogram: its buckets, the bucket of all durations, their sum in seconds, and their number
unfoldable pub histogram : Family → Label → Label → HistogramFigures → List ℕ
histogram family a b h =
    bucket_lines family a b h.counts 0 BOUNDS
    ++ sample (family_name family ++ codes "_bucket") (a ∷ b ∷ label (codes "le") (codes "+Inf") ∷ []) (decimal (before h.counts 13))
    ++ sample (family_name family ++ codes "_sum") (a ∷ b ∷ []) (seconds h.sum_nanos)
    ++ sample (family_name family ++ codes "_count") (a ∷ b ∷ []) (decimal (before h.counts 13))

-- a figure of the server
abbrev pub figure_of : ServerMetrics → ServerFigure → ℕ
figure_of s PoolFree = s.pool_free
figure_of s Served = s.served
figure_of s Waiting = s.waiting
figure_of s Accepted = s.accepted
figure_of s PassesInUse = s.passes_in_use
figure_of s PassWaits = s.pass_waits
figure_of s Received = s.received
figure_of s Sent = s.sent

-- how many connections were closed for this reason
abbrev pub closed_for : ClosedCounts → CloseReason → ℕ
closed_for c Quit = c.quit
closed_for c PeerEnd = c.peer_end
closed_for c TooLong = c.too_long
closed_for c ReadFault = c.read_fault
closed_for c WriteFault = c.write_fault
closed_for c Memory = c.memory
closed_for c Unserved = c.unserved

-- whether changes are made in a file
abbrev pub takes_changes : FilePlace → Bool
takes_changes place.InPlace = true
takes_changes place.Replaced = true
takes_changes place.GivenUp = false

-- whether a file was replaced, cut or overwritten
abbrev pub is_lost : FilePlace → Bool
is_lost place.InPlace = false
is_lost place.Replaced = true
is_lost place.GivenUp = true

-- whether a tenant is up: its file takes changes, and was not given up
abbrev pub is_up : TenantMetrics → Bool
is_up t = if t.figures.up then takes_changes t.place else false

-- a figure of a tenant at the moment
abbrev pub gauge_of : TenantMetrics → TenantGauge → ℕ
gauge_of t Words = t.figures.words
gauge_of t Quota = t.figures.quota
gauge_of t RecordPlaces = t.figures.places
gauge_of t ChangesUnderWay = t.figures.used
gauge_of t Up = if is_up t then 1 else 0
gauge_of t FileReplaced = if is_lost t.place then 1 else 0

-- how many requests had this reply
abbrev pub replies_of : ReplyCounts → ReplyKind → ℕ
replies_of c Val = c.val
replies_of c Yes = c.yes
replies_of c No = c.no
replies_of c Busy = c.busy
replies_of c Fault = c.fault
replies_of c Worn = c.worn
replies_of c Err = c.err

-- a tenant's requests of this kind
abbrev pub requests_of : TenantCounts → RequestKind → RequestFigures
requests_of c Get = c.get
requests_of c Cas = c.cas
requests_of c Other = c.other

-- the calls of a tenant's device
abbrev pub calls_of : TenantCounts → DeviceCall → CallFigures
calls_of c Read = c.read
calls_of c Write = c.write
calls_of c Sync = c.sync

-- the version, as the label of a sample with the value 1
unfoldable pub build_family : List ℕ → List ℕ
build_family version = header Build ++ number Build (label (codes "version") version ∷ []) 1

-- the time since the start
unfoldable pub uptime_family : ℕ → List ℕ
uptime_family nanos = header Uptime ++ sample (family_name Uptime) [] (seconds nanos)

-- the time since the last beat of the lease that went well began; nothing if there is no lease
unfoldable pub lease_family : Option ℕ → List ℕ
lease_family None = []
lease_family (Some nanos) = header Lease ++ sample (family_name Lease) [] (seconds nanos)

-- one figure of the server
abbrev pub figure_family : ServerMetrics → ServerFigure → List ℕ
figure_family s f = header (Server f) ++ number (Server f) [] (figure_of s f)

-- each figure of the server
unfoldable pub figure_families : ServerMetrics → List ℕ
figure_families s = flat_map (figure_family s) SERVER_FIGURES

-- how many connections were closed for this reason
abbrev pub closed_line : ClosedCounts → CloseReason → List ℕ
closed_line c reason = number Closed (label (codes "reason") (reason_text reason) ∷ []) (closed_for c reason)

-- how many connections were closed, for each reason
unfoldable pub closed_family : ClosedCounts → List ℕ
closed_family c = header Closed ++ flat_map (closed_line c) CLOSE_REASONS

-- one figure of a tenant at the moment
abbrev pub gauge_line : TenantGauge → TenantMetrics → List ℕ
gauge_line g t = number (Tenant g) (tenant_label t ∷ []) (gauge_of t g)

-- one figure of each tenant at the moment
unfoldable pub gauge_family : List TenantMetrics → TenantGauge → List ℕ
gauge_family tenants g = header (Tenant g) ++ flat_map (gauge_line g) tenants

-- each figure of each tenant at the moment
unfoldable pub gauge_families : List TenantMetrics → List ℕ
gauge_families tenants = flat_map (gauge_family tenants) TENANT_GAUGES

-- how many of a tenant's requests of a kind had this reply
abbrev pub reply_line : TenantMetrics → RequestKind → ReplyKind → List ℕ
reply_line t kind reply =
    number Requests (tenant_label t ∷ label (codes "kind") (kind_text kind) ∷ label (codes "reply") (reply_text reply) ∷ [])
    (replies_of (requests_of t.counts kind).replies reply)

-- a tenant's requests of a kind, by their reply
unfoldable pub kind_lines : TenantMetrics → RequestKind → List ℕ
kind_lines t kind = flat_map (reply_line t kind) REPLY_KINDS

-- a tenant's requests, by their kind and their reply
unfoldable pub request_lines : TenantMetrics → List ℕ
request_lines t = flat_map (kind_lines t) REQUEST_KINDS

-- how many calls of a tenant's device failed
abbrev pub failure_line : TenantMetrics → DeviceCall → List ℕ
failure_line t call = number DeviceFailures (tenant_label t ∷ label (codes "call") (call_text call) ∷ []) (calls_of t.counts call).failures

-- the failed calls of a tenant's device
unfoldable pub failure_lines : TenantMetrics → List ℕ
failure_lines t = flat_map (failure_line t) DEVICE_CALLS

-- how long a tenant's requests of this kind took
abbrev pub request_time : TenantMetrics → RequestKind → List ℕ
request_time t kind = histogram RequestTime (tenant_label t) (label (codes "kind") (kind_text kind)) (requests_of t.counts kind).time

-- how long a tenant's requests took
unfoldable pub request_times : TenantMetrics → List ℕ
request_times t = flat_map (request_time t) REQUEST_KINDS

-- how long these calls of a tenant's device took
abbrev pub call_time : TenantMetrics → DeviceCall → List ℕ
call_time t call = histogram DeviceTime (tenant_label t) (label (codes "call") (call_text call)) (calls_of t.counts call).time

-- how long the calls of a tenant's device took
unfoldable pub call_times : TenantMetrics → List ℕ
call_times t = flat_map (call_time t) DEVICE_CALLS

-- a family that has some lines for each tenant
unfoldable pub tenant_family : Family → (TenantMetrics → List ℕ) → List TenantMetrics → List ℕ
tenant_family family lines tenants = header family ++ flat_map lines tenants

-- the families of the whole server
unfoldable pub of_server : List ℕ → ServerMetrics → List ℕ
of_server version s =
    build_family version ++ uptime_family s.uptime_nanos ++ lease_family s.lease_nanos ++ figure_families s ++ closed_family s.closed

-- the families that have a sample of each tenant
unfoldable pub of_tenants : List TenantMetrics → List ℕ
of_tenants tenants =
    gauge_families tenants
    ++ tenant_family Requests request_lines tenants
    ++ tenant_family DeviceFailures failure_lines tenants
    ++ tenant_family RequestTime request_times tenants
    ++ tenant_family DeviceTime call_times tenants

-- the text of all figures
abbrev pub metrics : List ℕ → ServerMetrics → List TenantMetrics → List ℕ
metrics version server tenants = of_server version server ++ of_tenants tenants
