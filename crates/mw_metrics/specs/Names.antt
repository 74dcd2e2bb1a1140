-- Defines what metrics and their labels are called, and what each metric tells.
-- Used by: families.rt, histogram_lines.rt, kinds.rt, samples.rt. Scrapers read them: change docs/HTTP,
-- docs/OPERATING and contrib with it.
use Rattle.std.specs.Prelude.{ℕ, List, codes}
use Rattle.mw_metrics.specs.declared.kinds.RequestKind.{RequestKind}
use Rattle.mw_metrics.specs.declared.kinds.RequestKind.TheVariants.{Get, Cas, Other}
use Rattle.mw_metrics.specs.declared.kinds.ReplyKind.{ReplyKind}
use Rattle.mw_metrics.specs.declared.kinds.ReplyKind.TheVariants.{Val, Yes, No, Busy, Fault, Worn, Err}
use Rattle.mw_metrics.specs.declared.kinds.DeviceCall.{DeviceCall}
use Rattle.mw_metrics.specs.declared.kinds.DeviceCall.TheVariants.{Read, Write, Sync}
use Rattle.mw_metrics.specs.declared.kinds.CloseReason.{CloseReason}
use Rattle.mw_metrics.specs.declared.kinds.CloseReason.TheVariants.{Quit, PeerEnd, TooLong, ReadFault, WriteFault, Memory, Unserved}
use Rattle.mw_metrics.specs.declared.families.TenantGauge.{TenantGauge}
use Rattle.mw_metrics.specs.declared.families.TenantGauge.TheVariants.{Words, Quota, RecordPlaces, ChangesUnderWay, Up, FileReplaced}
use Rattle.mw_metrics.specs.declared.families.ServerFigure.{ServerFigure}
use Rattle.mw_metrics.specs.declared.families.ServerFigure.TheVariants.{PoolFree, Served, Waiting, Accepted, PassesInUse, PassWaits, Received, Sent}
use Rattle.mw_metrics.specs.declared.families.Family.{Family}
use Rattle.mw_metrics.specs.declared.families.Family.TheVariants.{Build, Uptime, Lease, Server, Closed, Tenant, Requests, DeviceFailures, RequestTime, DeviceTime}

-- the label kind of a request
unfoldable pub kind_text : RequestKind → List ℕ
kind_text Get = codes "GET"
kind_text Cas = codes "CAS"
kind_text Other = codes "other"

-- the label reply of a request
unfoldable pub reply_text : ReplyKind → List ℕ
reply_text Val = codes "VAL"
reply_text Yes = codes "YES"
reply_text No = codes "NO"
reply_text Busy = codes "BUSY"
reply_text Fault = codes "FAULT"
reply_text Worn = codes "WORN"
reply_text Err = codes "ERR"

-- the label call of a device
unfoldable pub call_text : DeviceCall → List ℕ
call_text Read = codes "read"
call_text Write = codes "write"
call_text Sync = codes "sync"

-- the label reason of a connection that was closed
unfoldable pub reason_text : CloseReason → List ℕ
reason_text Quit = codes "quit"
reason_text PeerEnd = codes "peer_end"
reason_text TooLong = codes "too_long"
reason_text ReadFault = codes "read_fault"
reason_text WriteFault = codes "write_fault"
reason_text Memory = codes "memory"
reason_text Unserved = codes "unserved"

-- the metric of a tenant's figure
unfoldable pub gauge_name : TenantGauge → List ℕ
gauge_name Words = codes "mondlexi_words"
gauge_name Quota = codes "mondlexi_quota"
gauge_name RecordPlaces = codes "mondlexi_record_places"
gauge_name ChangesUnderWay = codes "mondlexi_changes_under_way"
gauge_name Up = codes "mondlexi_up"
gauge_name FileReplaced = codes "mondlexi_file_replaced"

-- what a tenant's figure tells
unfoldable pub gauge_help : TenantGauge → List ℕ
gauge_help Words = codes "Words of the tenant."
gauge_help Quota = codes "Changes that the tenant may have under way at a time."
gauge_help RecordPlaces = codes "Record places of the tenant's file."
gauge_help ChangesUnderWay = codes "Changes of the tenant under way."
gauge_help Up = codes "1 if the tenant's file takes changes, 0 if it has failed."
gauge_help FileReplaced = codes "1 if the tenant's file was replaced, cut or overwritten since the start."

-- the metric of a figure of the server: a total ends in _total, and has its unit before that
unfoldable pub figure_name : ServerFigure → List ℕ
figure_name PoolFree = codes "mondlexi_pool_free_slots"
figure_name Served = codes "mondlexi_connections_served"
figure_name Waiting = codes "mondlexi_connections_waiting"
figure_name Accepted = codes "mondlexi_connections_total"
figure_name PassesInUse = codes "mondlexi_passes_in_use"
figure_name PassWaits = codes "mondlexi_pass_waits_total"
figure_name Received = codes "mondlexi_received_bytes_total"
figure_name Sent = codes "mondlexi_sent_bytes_total"

-- what a figure of the server tells
unfoldable pub figure_help : ServerFigure → List ℕ
figure_help PoolFree = codes "Free slots of the pool that all tenants share."
figure_help Served = codes "Connections that a session serves."
figure_help Waiting = codes "Connections that wait for a session."
figure_help Accepted = codes "Connections that were accepted."
figure_help PassesInUse = codes "Passes of the engine that are in use."
figure_help PassWaits = codes "Requests that waited for a pass of the engine."
figure_help Received = codes "Bytes that clients sent."
figure_help Sent = codes "Bytes that clients were sent."

-- a counter only rises, a gauge also falls
unfoldable pub figure_type : ServerFigure → List ℕ
figure_type PoolFree = codes "gauge"
figure_type Served = codes "gauge"
figure_type Waiting = codes "gauge"
figure_type PassesInUse = codes "gauge"
figure_type Accepted = codes "counter"
figure_type PassWaits = codes "counter"
figure_type Received = codes "counter"
figure_type Sent = codes "counter"

-- the name of a family of metrics
unfoldable pub family_name : Family → List ℕ
family_name Build = codes "mondlexi_build_info"
family_name Uptime = codes "mondlexi_uptime_seconds"
family_name Lease = codes "mondlexi_lease_age_seconds"
family_name (Server figure) = figure_name figure
family_name Closed = codes "mondlexi_connections_closed_total"
family_name (Tenant gauge) = gauge_name gauge
family_name Requests = codes "mondlexi_requests_total"
family_name DeviceFailures = codes "mondlexi_device_failures_total"
family_name RequestTime = codes "mondlexi_request_seconds"
family_name DeviceTime = codes "mondlexi_device_seconds"

-- what a family of metrics tells
unfoldable pub family_help : Family → List ℕ
family_help Build = codes "The version of the server. The value is always 1."
family_help Uptime = codes "Seconds since the server started."
family_help Lease = codes "Seconds since the last beat of the lease that went well began."
family_help (Server figure) = figure_help figure
family_help Closed = codes "Connections that were closed, by the reason."
family_help (Tenant gauge) = gauge_help gauge
family_help Requests = codes "Requests that were answered, by their kind and their reply."
family_help DeviceFailures = codes "Calls of the device of a tenant's file that failed."
family_help RequestTime = codes "Seconds from a request's line to its reply."
family_help DeviceTime = codes "Seconds of a call of the device of a tenant's file."

-- the type of a family of metrics
unfoldable pub family_type : Family → List ℕ
family_type Build = codes "gauge"
family_type Uptime = codes "gauge"
family_type Lease = codes "gauge"
family_type (Tenant _) = codes "gauge"
family_type (Server figure) = figure_type figure
family_type Closed = codes "counter"
family_type Requests = codes "counter"
family_type DeviceFailures = codes "counter"
family_type RequestTime = codes "histogram"
family_type DeviceTime = codes "histogram"
