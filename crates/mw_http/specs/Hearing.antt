-- Defines what is heard from the bytes that a client has sent so far: nothing yet, a request, or why it is refused. The
-- grammar of a head is that of the kit's crates httparse and http1 (RFC 9112).
-- Used by: hearing.rt, receiving.rt. A change here changes how clients are answered, and docs/OPERATING with it.
use Rattle.std.specs.Prelude.{◌≡◌, ℕ, ◌<◌, ◌⊎◌, ◌==◌, Bool, true, false, not, ◌||◌, List, [], length, map, Option, None, Some, is_some, Result, Ok, Err, codes, bytes_eq, if◌then◌else◌}
use Rattle.std.specs.List.{list_all}
use Rattle.httparse.specs.Grammar.{RequestHead, HasNoRequest, MayBecomeRequest}
use Rattle.httparse.specs.Spans.{name_and_value}
use Rattle.http1.specs.declared.conn.Limits.{Limits}
use Rattle.http1.specs.declared.error.ReadError.{ReadError}
use Rattle.http1.specs.declared.framing.Framing.{Framing}
use Rattle.http1.specs.Fields.{Header}
use Rattle.http1.specs.Message.{AcceptsRequest}
use Rattle.http1.specs.ReadError.{RequestError, status_of}
use Rattle.http1.specs.Server.{HasNoHead}
use Rattle.mw_http.specs.declared.status.Status.{Status}
use Rattle.mw_http.specs.declared.status.Status.TheVariants.{BadRequest, NotFound, MethodNotAllowed, Misdirected, UriTooLong, FieldsTooLarge, NotImplemented}
use Rattle.mw_http.specs.declared.hearing.Request.{Request}
use Rattle.mw_http.specs.declared.hearing.Heard.{Heard}
use Rattle.mw_http.specs.declared.hearing.Heard.TheVariants.{More, Asked, Refused}
use Rattle.mw_http.specs.declared.hearing.TheConstants.{MAX_HEAD, MAX_FIELDS}
use Rattle.mw_http.specs.Hosts.{is_own_field, is_valid_field}
use Rattle.mw_http.specs.Targets.{Place, place_of, place_at, is_target}

-- what is asked for, and whether its content is
pub record Wish : Type 0 where
  pub place : Place
  pub content : Bool

-- what a request asks for
abbrev pub wish_of : Request → Wish
wish_of request = record { place = place_of request.route; content = request.content }

-- the answer to a head: what it asks for, or the status that refuses it
abbrev pub Answer : Type 0
Answer = Result Wish Status

-- the answer that was heard, if a head was
abbrev pub told : Heard → Option Answer
told More = None
told (Asked request) = Some (Ok (wish_of request))
told (Refused status) = Some (Err status)

-- the limits of a head: MAX_HEAD bytes
abbrev pub limits : Limits
limits = record { max_head_len = MAX_HEAD; max_extensions_len = 0; max_trailers_len = 2 }

-- a method of RFC 9110 or PATCH, other than GET and HEAD
unfoldable pub is_other_method : List ℕ → Bool
is_other_method method =
    bytes_eq method (codes "POST") || bytes_eq method (codes "PUT") || bytes_eq method (codes "DELETE") || bytes_eq method (codes "PATCH")
    || bytes_eq method (codes "OPTIONS") || bytes_eq method (codes "TRACE") || bytes_eq method (codes "CONNECT")

-- what is at a place that was found
abbrev pub found_at : Option Place → Bool → Answer
found_at None content = Err NotFound
found_at (Some place) content = Ok (record { place = place; content = content })

-- what is found at a target
unfoldable pub found : List ℕ → Bool → Answer
found target content = if is_target target then found_at (place_at target) content else Err BadRequest

-- the answer to a method and a target
unfoldable pub answer_line : List ℕ → List ℕ → Answer
answer_line method target =
    if bytes_eq method (codes "GET") then found target true
    else if bytes_eq method (codes "HEAD") then found target false
    else if is_other_method method then Err (if is_some (place_at target) then MethodNotAllowed else NotFound)
    else Err NotImplemented

-- the answer to a method, a target and some fields, of a server with these names
unfoldable pub answer_from : List (List ℕ) → List ℕ → List ℕ → List Header → Answer
answer_from names method target fields =
    if not (list_all is_valid_field fields) then Err BadRequest
    else if list_all (is_own_field names) fields then answer_line method target
    else Err Misdirected

-- the answer to a head, of a server with these names
abbrev pub answer_to : List (List ℕ) → RequestHead → Answer
answer_to names h = answer_from names h.method h.target (map name_and_value h.fields)

-- the status that refuses a head that can't be read
abbrev pub refusal_of : ReadError → Status
refusal_of fault =
    if status_of fault == 414 then UriTooLong
    else if status_of fault == 431 then FieldsTooLarge
    else BadRequest

-- the bytes begin with a head that http1 accepts, and this is its answer
pub record IsAnswered (names : List (List ℕ)) (bytes : List ℕ) (given : Answer) : Type 0 where
  pub head : RequestHead
  pub framing : Framing
  pub rest : List ℕ
  pub accepted : AcceptsRequest limits bytes head framing rest
  pub answer : given ≡ answer_to names head

-- the bytes begin with no head that http1 accepts, whatever follows; it says so for this reason, which has this status
pub record IsNoHead (bytes : List ℕ) (given : Status) : Type 0 where
  pub fault : ReadError
  pub none : HasNoHead limits bytes MAX_FIELDS
  pub reason : RequestError MAX_HEAD bytes MAX_FIELDS fault
  pub status : given ≡ refusal_of fault

-- no head is there, and one still may be
abbrev pub MayBecomeHead : List ℕ → Type 0
MayBecomeHead bytes = HasNoRequest bytes × (length bytes < MAX_HEAD) × MayBecomeRequest bytes

-- what a server with these names hears from some bytes
abbrev pub Hears : List (List ℕ) → List ℕ → Heard → Type 0
Hears names bytes More = MayBecomeHead bytes
Hears names bytes (Asked request) = IsAnswered names bytes (Ok (wish_of request))
Hears names bytes (Refused status) = IsAnswered names bytes (Err status) ⊎ IsNoHead bytes status

-- the bytes so far are none, or there is no head yet
abbrev pub NeedMore : List ℕ → Type 0
NeedMore bytes = (bytes ≡ []) ⊎ MayBecomeHead bytes
