-- Defines under which kind a request and its reply are counted, and what the text of a server's figures is of.
-- Used by: src/counted.rt, src/meters.rt, mw_server_pages. A change here changes what a scraper reads.
use Rattle.std.specs.Prelude.{◌≡◌, ℕ, List, map}
use Rattle.mw_words.specs.declared.jobs.Job.{Job}
use Rattle.mw_words.specs.declared.jobs.Job.TheVariants as job
use Rattle.mw_words.specs.declared.replies.Reply.{Reply}
use Rattle.mw_words.specs.declared.replies.Reply.TheVariants as reply
use Rattle.mw_report.specs.declared.figures.Figures.{Figures}
use Rattle.mw_report.specs.declared.figures.TenantFigures.{TenantFigures}
use Rattle.mw_metrics.specs.declared.kinds.RequestKind.{RequestKind}
use Rattle.mw_metrics.specs.declared.kinds.RequestKind.TheVariants as kind
use Rattle.mw_metrics.specs.declared.kinds.ReplyKind.{ReplyKind}
use Rattle.mw_metrics.specs.declared.kinds.ReplyKind.TheVariants as kind_of_reply
use Rattle.mw_metrics.specs.declared.figures.ServerMetrics.{ServerMetrics}
use Rattle.mw_metrics.specs.declared.figures.TenantMetrics.{TenantMetrics}
use Rattle.mw_metrics.specs.Figures.{metrics}

-- the kind of a request for this job
abbrev pub kind_of : Job → RequestKind
kind_of (job.Get addr) = kind.Get
kind_of (job.Cas entries) = kind.Cas

-- the kind of this reply
abbrev pub reply_kind : Reply → ReplyKind
reply_kind (reply.Val value) = kind_of_reply.Val
reply_kind reply.Yes = kind_of_reply.Yes
reply_kind (reply.No addr value) = kind_of_reply.No
reply_kind reply.Busy = kind_of_reply.Busy
reply_kind reply.Fault = kind_of_reply.Fault
reply_kind reply.Worn = kind_of_reply.Worn

-- a tenant's figures of the moment, without what was counted for it
abbrev pub figures_of : TenantMetrics → TenantFigures
figures_of tenant = tenant.figures

-- The text is that of the version and of these figures of the moment, all tenants in their order, with some counts beside
-- them.
pub record IsTextOf (version : List ℕ) (figures : Figures) (text : List ℕ) : Type 0 where
  pub server : ServerMetrics
  pub tenants : List TenantMetrics
  pub pool : server.pool_free ≡ figures.pool_free
  pub same : map figures_of tenants ≡ figures.tenants.items
  pub written : text ≡ metrics version server tenants
