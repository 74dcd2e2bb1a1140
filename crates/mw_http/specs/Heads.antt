-- Defines the head of an answer: a status line and field lines (RFC 9112, sections 4 and 5). The fields are those of RFC
-- 9110: Date (6.6.1), Allow (10.2.1), Content-Type (8.3), Content-Length (8.6) and Connection (7.6.1).
-- Used by: heads.rt.
use Rattle.std.specs.Prelude.{ℕ, ◌==◌, ◌++◌, List, [], length, Option, None, Some, codes, decimal, if◌then◌else◌}
use Rattle.mw_http.specs.declared.heads.ContentType.{ContentType}
use Rattle.mw_http.specs.declared.heads.ContentType.TheVariants.{Text, Html, Metrics, Bytes, Style, Script}
use Rattle.mw_http.specs.declared.heads.Content.{Content}
use Rattle.mw_http.specs.declared.status.Status.{Status}
use Rattle.mw_http.specs.Statuses.{code, reason}

-- what the content is, as a media type
unfoldable pub type_text : ContentType → List ℕ
type_text Text = codes "text/plain; charset=utf-8"
type_text Html = codes "text/html; charset=utf-8"
type_text Metrics = codes "text/plain; version=0.0.4; charset=utf-8"
type_text Bytes = codes "application/octet-stream"
type_text Style = codes "text/css; charset=utf-8"
type_text Script = codes "text/javascript; charset=utf-8"

-- a field line: its name, a colon, a space, its value and a line end
unfoldable pub field : List ℕ → List ℕ → List ℕ
field name value = name ++ codes ": " ++ value ++ codes "\r\n"

-- the status line: the version, the status as a number and in words, and a line end
unfoldable pub status_line : Status → List ℕ
status_line status = codes "HTTP/1.1 " ++ decimal (code status) ++ codes " " ++ reason status ++ codes "\r\n"

-- the date of the answer, if it is known
unfoldable pub date_line : List ℕ → List ℕ
date_line date = if length date == 0 then [] else field (codes "Date") date

-- which methods a target has, if that is why the request is refused
unfoldable pub allow_line : Status → List ℕ
allow_line status = if code status == 405 then field (codes "Allow") (codes "GET, HEAD") else []

-- what a content is and how long
unfoldable pub described : Content → List ℕ
described content = field (codes "Content-Type") (type_text content.kind) ++ field (codes "Content-Length") (decimal content.length)

-- what the content is and how long; nothing is a content of length 0
unfoldable pub content_lines : Option Content → List ℕ
content_lines None = field (codes "Content-Length") (codes "0")
content_lines (Some content) = described content

-- the head of an answer; the connection is closed after its content
unfoldable pub head : Status → List ℕ → Option Content → List ℕ
head status date content =
    status_line status ++ date_line date ++ allow_line status ++ content_lines content ++ field (codes "Connection") (codes "close") ++ codes "\r\n"
