-- Defines the files on which a thread may make calls: those whose file passes it has.
-- Used by: src/file_calls.rt, src/file_pass.rt, mw_core, mw_law_threads.
use Rattle.std.specs.Prelude.{ℕ, ◌≡◌, Bool, false, List, [], ◌∷◌, map, is_none, None}
use Rattle.mw_rule.specs.declared.file_token.FileToken.{FileToken}
use Rattle.mw_rule.specs.declared.views.HeldFile.{HeldFile}
use Rattle.mw_rule.specs.declared.views.View.{View}

-- the tenant whose file this is
abbrev pub tenant_held : HeldFile → ℕ
tenant_held held = held.file.tenant

-- the tenants whose files the thread has
abbrev pub tenants_held : View → List ℕ
tenants_held view = map tenant_held view.files

-- no call on the file is under way
abbrev pub is_idle : HeldFile → Bool
is_idle held = is_none held.found

-- what is known of the first of these files; if there is none, an empty file of tenant 0
abbrev pub file_among : List HeldFile → FileToken
file_among [] = record { tenant = 0; contents = []; places = []; place_of = []; has_failed = false; doubt = [] }
file_among (held ∷ rest) = held.file

-- The thread has this tenant's file and no other, and no call on it is under way.
pub record HasFile (view : View) (tenant : ℕ) : Type 0 where
  pub held : HeldFile
  pub only : view.files ≡ held ∷ []
  pub its : held.file.tenant ≡ tenant
  pub idle : held.found ≡ None
