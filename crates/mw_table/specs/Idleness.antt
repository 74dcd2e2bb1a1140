-- Defines an idle pass: its thread has one worker, which has no request. Used by: src/passes.rt, src/shared.rt, mw_core.
use Rattle.std.specs.Prelude.{◌≡◌, Bool, true, [], ◌∷◌, map, is_none}
use Rattle.mw_rule.specs.declared.views.WorkerToken.{WorkerToken}
use Rattle.mw_rule.specs.declared.views.View.{View}

-- the token's worker has no request
abbrev pub has_none : WorkerToken → Bool
has_none token = is_none token.actor

-- The thread has one token, and its worker has no request.
abbrev pub IsIdle : View → Type 0
IsIdle view = map has_none view.tokens ≡ true ∷ []
