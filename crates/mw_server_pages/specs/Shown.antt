-- Defines what a server shows at each place, by the figures that its service gives then, or by a copy of a tenant's file.
-- Used by: bodies.rt, file_pages.rt, server_pages.rt, mw_programs. A change here changes what operators see: docs/HTTP
-- changes with it.
use Rattle.std.specs.Prelude.{◌≡◌, ℕ, ◌⊎◌, true, List, [], map, Vec, Option, None, Result, Ok, Err, if◌then◌else◌}
use Rattle.std.specs.declared.alloc.Global.{Global}
use Rattle.std.specs.declared.alloc.AllocError.{AllocError}
use Rattle.std.specs.List.{list_all}
use Rattle.mw_http.specs.declared.heads.ContentType.{ContentType}
use Rattle.mw_http.specs.declared.heads.ContentType.TheVariants as kind
use Rattle.mw_http.specs.declared.status.Status.{Status}
use Rattle.mw_http.specs.declared.status.Status.TheVariants as status
use Rattle.mw_http.specs.Targets as target
use Rattle.mw_http.specs.declared.pages.Page.{Page}
use Rattle.mw_http.specs.Calls.{Call, Dates, Shows}
use Rattle.mw_metrics.specs.Counted.{IsTextOf, figures_of}
use Rattle.mw_metrics.specs.declared.figures.TenantMetrics.{TenantMetrics}
use Rattle.mw_server_pages.specs.Health.{health, is_well}
use Rattle.mw_record.specs.Damages.{damage_of}
use Rattle.mw_file_text.specs.Text.{file_text}
use Rattle.mw_server_pages.specs.declared.look.TheConstants.{SCRIPT, STYLE}
use Rattle.mw_server_pages.specs.declared.limits.Limit.{Limit}
use Rattle.mw_server_pages.specs.declared.recents.Recent.{Recent}
use Rattle.mw_server_pages.specs.StatusPage as status_page
use Rattle.mw_server_pages.specs.declared.file_copies.NoCopy.{NoCopy}
use Rattle.mw_server_pages.specs.declared.file_copies.NoCopy.TheVariants as no_copy
use Rattle.mw_server_pages.specs.Copies.{Copy}
use Rattle.mw_report.specs.declared.figures.Figures.{Figures}
use Rattle.mw_session.specs.Talk as talk

-- a page of this status and type, of whose body this holds
pub record IsPage (wanted : Status) (content : ContentType) (Says : List ℕ → Type 0) (page : Page) : Type 0 where
  pub status : page.status ≡ wanted
  pub kind : page.kind ≡ content
  pub says : Says page.body.items

-- an answer of this status, without a body
abbrev pub IsBare : Status → Page → Type 0
IsBare wanted page = IsPage wanted kind.Text (λ body. body ≡ []) page

-- there was no memory for the page: an error without a body
abbrev pub IsError : Page → Type 0
IsError page = IsBare status.InternalError page

-- the page, or an error if there was no memory for it
abbrev pub IsPageOrError : Status → ContentType → (List ℕ → Type 0) → Page → Type 0
IsPageOrError wanted content Says page = IsPage wanted content Says page ⊎ IsError page

-- the page of this body, or an error if there was no memory for it
abbrev pub IsPageOf : Status → ContentType → Result (Vec ℕ Global) AllocError → Page → Type 0
IsPageOf wanted content (Ok body) page = IsPage wanted content (λ text. text ≡ body.items) page
IsPageOf wanted content (Err fault) page = IsError page

-- whether all these tenants are well: 200 if so, else 503 with those that are not
abbrev pub IsHealthOf : List TenantMetrics → Page → Type 0
IsHealthOf tenants page =
    IsPageOrError (if list_all is_well tenants then status.Ok else status.Unavailable) kind.Text (λ body. body ≡ health tenants) page

-- Whether all tenants are well, by these figures and by whether their files are in their places. There was no memory for this: an
-- error.
pub record IsHealthBy (figures : Figures) (page : Page) : Type 0 where
  pub tenants : List TenantMetrics
  pub same : map figures_of tenants ≡ figures.tenants.items
  pub is : IsHealthOf tenants page

-- the answer whether all tenants are well
abbrev pub IsHealth : Figures → Page → Type 0
IsHealth figures page = IsHealthBy figures page ⊎ IsError page

-- the figures for Prometheus
abbrev pub IsMetrics : List ℕ → Figures → Page → Type 0
IsMetrics version figures page = IsPageOrError status.Ok kind.Metrics (λ body. IsTextOf version figures body) page

-- the status page, of a server that is up for some seconds and has a lease of some age or none, of its tenants with these figures, with some limits and some curves
pub record IsStatusText (version : List ℕ) (figures : Figures) (body : List ℕ) : Type 0 where
  pub seconds : ℕ
  pub lease : Option ℕ
  pub tenants : List TenantMetrics
  pub same : map figures_of tenants ≡ figures.tenants.items
  pub limits : List Limit
  pub recents : List Recent
  pub is : body ≡ status_page.page version seconds lease tenants limits recents figures.pool_free

-- the status page, or an error if there was no memory for it
abbrev pub IsStatus : List ℕ → Figures → Page → Type 0
IsStatus version figures page = IsPageOrError status.Ok kind.Html (λ body. IsStatusText version figures body) page

-- Why there is no copy of a tenant's file: the tenant is not known (404), its file has failed or didn't open (503), the device failed
-- or memory was out (500), each without a body.
abbrev pub IsNoCopy : NoCopy → Page → Type 0
IsNoCopy no_copy.NoTenant page = IsBare status.NotFound page
IsNoCopy no_copy.Failed page = IsBare status.Unavailable page
IsNoCopy no_copy.Disk page = IsBare status.InternalError page
IsNoCopy no_copy.Memory page = IsBare status.InternalError page

-- the file of a tenant, byte for byte, or why there is no copy of it
abbrev pub IsFile : Copy → Page → Type 0
IsFile (Ok copy) page = IsPage status.Ok kind.Bytes (λ body. body ≡ copy.items) page
IsFile (Err fault) page = IsNoCopy fault page

-- This text tells all words of a file without damage, and what else `mwshow --words` prints of it.
pub record TellsWords (file body : List ℕ) : Type 0 where
  pub sound : damage_of file ≡ None
  pub text : body ≡ file_text true file

-- all words that these bytes of a file say; they are damaged, or there was no memory for it: an error
abbrev pub IsWordsOf : List ℕ → Page → Type 0
IsWordsOf file page = IsPageOrError status.Ok kind.Text (λ body. TellsWords file body) page

-- all words of a tenant, as a copy of its file says them, or why there is no copy
abbrev pub IsWords : Copy → Page → Type 0
IsWords (Ok copy) page = IsWordsOf copy.items page
IsWords (Err fault) page = IsNoCopy fault page

-- a text that is always the same, or an error if there was no memory for it
abbrev pub IsConstant : ContentType → List ℕ → Page → Type 0
IsConstant content text page = IsPageOrError status.Ok content (λ body. body ≡ text) page

-- what is shown at a place by these figures; the other places are shown by none
abbrev pub IsShown : target.Place → List ℕ → Figures → Page → Type 0
IsShown target.page version figures page = IsStatus version figures page
IsShown target.metrics version figures page = IsMetrics version figures page
IsShown target.health version figures page = IsHealth figures page
IsShown target.style version figures page = ⊥
IsShown target.script version figures page = ⊥
IsShown (target.file tenant) version figures page = ⊥
IsShown (target.words tenant) version figures page = ⊥

-- The service was asked for its figures once, and these are shown.
pub record Counts {S : Type 0} (answered : S → talk.Call → S → Type 0) (version : List ℕ) (old new : S) (place : target.Place) (page : Page) : Type 0 where
  pub figures : Figures
  pub asked : answered old (talk.Counts figures) new
  pub shown : IsShown place version figures page

-- The file of this tenant was copied once, and this is shown of the copy, or why there is none.
pub record Copies {F : Type 0} (copied : F → List ℕ → Copy → F → Type 0) (old new : F) (tenant : List ℕ) (Shows : Copy → Type 0) : Type 0 where
  pub copy : Copy
  pub asked : copied old tenant copy new
  pub shown : Shows copy

-- What the pages answer, of a service and of files. For a file or words one file is copied once, and the service is asked for nothing.
-- For all else no file is copied; for the date, the style and the script the service is asked for nothing either.
abbrev pub Gives : {S F : Type 0} → (S → talk.Call → S → Type 0) → (F → List ℕ → Copy → F → Type 0) → List ℕ → S → F → Call → S → F → Type 0
Gives answered copied version old files (Shows (target.file tenant) page) new new_files = (new ≡ old) × Copies copied files new_files tenant (λ copy. IsFile copy page)
Gives answered copied version old files (Shows (target.words tenant) page) new new_files = (new ≡ old) × Copies copied files new_files tenant (λ copy. IsWords copy page)
Gives answered copied version old files (Shows target.style page) new new_files = (new_files ≡ files) × (new ≡ old) × IsConstant kind.Style STYLE.now page
Gives answered copied version old files (Shows target.script page) new new_files = (new_files ≡ files) × (new ≡ old) × IsConstant kind.Script SCRIPT.now page
Gives answered copied version old files (Shows target.page page) new new_files = (new_files ≡ files) × Counts answered version old new target.page page
Gives answered copied version old files (Shows target.metrics page) new new_files = (new_files ≡ files) × Counts answered version old new target.metrics page
Gives answered copied version old files (Shows target.health page) new new_files = (new_files ≡ files) × Counts answered version old new target.health page
Gives answered copied version old files (Dates date) new new_files = (new ≡ old) × (new_files ≡ files)
