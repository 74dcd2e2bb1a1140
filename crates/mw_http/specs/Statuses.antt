-- Defines the statuses of answers: their numbers and their words. Source: RFC 9110, section 15, and RFC 6585 for 431.
-- Used by: status.rt.
use Rattle.std.specs.Prelude.{ℕ, List, codes}
use Rattle.mw_http.specs.declared.status.Status.{Status}
use Rattle.mw_http.specs.declared.status.Status.TheVariants.{Ok, BadRequest, NotFound, MethodNotAllowed, RequestTimeout, UriTooLong, Misdirected, FieldsTooLarge, InternalError, NotImplemented, Unavailable}

-- a status as a number
unfoldable pub code : Status → ℕ
code Ok = 200
code BadRequest = 400
code NotFound = 404
code MethodNotAllowed = 405
code RequestTimeout = 408
code UriTooLong = 414
code Misdirected = 421
code FieldsTooLarge = 431
code InternalError = 500
code NotImplemented = 501
code Unavailable = 503

-- a status in words
unfoldable pub reason : Status → List ℕ
reason Ok = codes "OK"
reason BadRequest = codes "Bad Request"
reason NotFound = codes "Not Found"
reason MethodNotAllowed = codes "Method Not Allowed"
reason RequestTimeout = codes "Request Timeout"
reason UriTooLong = codes "URI Too Long"
reason Misdirected = codes "Misdirected Request"
reason FieldsTooLarge = codes "Request Header Fields Too Large"
reason InternalError = codes "Internal Server Error"
reason NotImplemented = codes "Not Implemented"
reason Unavailable = codes "Service Unavailable"
