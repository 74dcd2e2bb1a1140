-- A pass takes a tenant's file and gives the same file back; what is known of that file is true in a world.
-- Used by: Shared::take, give_back, confirm.
use Rattle.std.specs.Prelude.{ℕ, ◌≡◌, true, List, [], ◌∷◌, ◌++◌, length, map, Option, Some, None, is_none}
use Rattle.std.proofs.Common.{refl, sym, ap, subst, ◌∙◌, inl, arith}
use Rattle.mw_world.specs.declared.config.Config.{Config}
use Rattle.mw_world.specs.Definition.State.{TenantStart}
use Rattle.mw_rule.specs.declared.views.FoundStatus.{FoundStatus}
use Rattle.mw_rule.specs.declared.views.HeldFile.{HeldFile}
use Rattle.mw_rule.specs.declared.views.View.{View}
use Rattle.mw_rule.specs.Splits.{takes_files, with_file_given, first_held, other_held}
use Rattle.mw_rule.specs.WordActions.{WentOn}
use Rattle.mw_rule.specs.Rule.{Each, HoldsFile, IsLive}
use Rattle.mw_table.specs.declared.file_pass.FilePass.{FilePass}
use Rattle.mw_table.specs.declared.shared.Shared.{Shared}
use Rattle.mw_table.specs.Basis.{Basis}
use Rattle.mw_table.specs.FileCalls.{IsSoOfWorld, file_kept}
use Rattle.mw_table.specs.TableAtStart.{held_given}
use Rattle.mw_table.specs.NewFilePasses.{IsOpened}
use Rattle.mw_table.specs.HeldFiles.{HasFile, file_among, is_idle, tenant_held, tenants_held}

-- a list without length is empty
pub nothing_in : {A : Type 0} (all : List A) → length all ≡ 0 → all ≡ []
nothing_in [] is = refl
nothing_in (one ∷ rest) is = absurd (omega (arith, is))

none_of : (found : Option FoundStatus) → is_none found ≡ true → found ≡ None
none_of None is = refl
none_of (Some one) is = absurd (cc)

abbrev head_of : List ℕ → ℕ
head_of [] = 0
head_of (one ∷ rest) = one

-- by what is known of each file that a thread has
pub has_file_so : (view : View) (files : List HeldFile) (tenant : ℕ) → view.files ≡ files → map tenant_held files ≡ tenant ∷ [] → map is_idle files ≡ true ∷ [] → HasFile view tenant
has_file_so view [] tenant are its idle = absurd (cc)
has_file_so view (held ∷ []) tenant are its idle = record { held = held; only = are; its = ap head_of its; idle = none_of held.found (cc) }
has_file_so view (held ∷ other ∷ rest) tenant are its idle = absurd (cc)

-- what a file pass knows
pub file_pass_has : (file_pass : FilePass) → HasFile file_pass.seat.me.0 file_pass.tenant
file_pass_has file_pass = has_file_so file_pass.seat.me.0 file_pass.seat.me.0.files file_pass.tenant refl file_pass.its file_pass.idle

pub file_pass_lives : (file_pass : FilePass) → IsLive file_pass.seat.me.0
file_pass_lives file_pass = inl file_pass.live

-- the pass that took a file has it
pub taken_has : (view its : View) (tenant : ℕ) → view.files ≡ [] → HasFile its tenant → HasFile (takes_files view its) tenant
taken_has view its tenant free has = record { held = has.held; only = (λ i. free i ++ has.only i); its = has.its; idle = has.idle }

-- what is given back is that tenant's
pub given_its : (view : View) (tenant : ℕ) → HasFile view tenant → tenants_held (with_file_given view) ≡ tenant ∷ []
given_its view tenant has = ap (λ (files : List HeldFile). map tenant_held (first_held files)) has.only ∙ ap (λ (n : ℕ). n ∷ []) has.its

pub given_idle : (view : View) (tenant : ℕ) → HasFile view tenant → map is_idle (with_file_given view).files ≡ true ∷ []
given_idle view tenant has =
    ap (λ (files : List HeldFile). map is_idle (first_held files)) has.only ∙ ap (λ (found : Option FoundStatus). is_none found ∷ []) has.idle

pub none_left : (view : View) (tenant : ℕ) → HasFile view tenant → other_held view.files ≡ []
none_left view tenant has = ap other_held has.only

pub given_file : (files : List HeldFile) → file_among (first_held files) ≡ file_among files
given_file [] = refl
given_file (held ∷ rest) = refl

-- what a file pass knows is this, of its tenant's file
pub file_pass_is : (file_pass : FilePass) → file_pass.seat.me.0.files ≡ record { file = file_kept file_pass; found = None } ∷ []
file_pass_is file_pass =
    let has = file_pass_has file_pass in
    has.only ∙ ap (λ (held : HeldFile). held ∷ []) (λ i. record { file = sym (ap file_among has.only) i; found = has.idle i })

pub file_pass_its : (file_pass : FilePass) → (file_kept file_pass).tenant ≡ file_pass.tenant
file_pass_its file_pass = let has = file_pass_has file_pass in ap (λ (files : List HeldFile). (file_among files).tenant) has.only ∙ has.its

-- what a file pass from a start knows
pub opened_kept : (shared : Shared) (basis : Basis) (tenant : ℕ) (file_pass : FilePass) → IsOpened shared basis tenant file_pass → file_kept file_pass ≡ (held_given basis.config.pool basis.openings tenant).file
opened_kept shared basis tenant file_pass opened = ap (λ (view : View). file_among view.files) opened.view

-- What a file pass knows is true of a world, by a run that is extended by no event.
pub so_of_world : (config : Config) (given : List TenantStart) (file_pass : FilePass) (new : View) → file_pass.seat.me.0.config ≡ config → file_pass.seat.me.0.openings ≡ given → WentOn [] file_pass.seat.me.0 new
    → IsSoOfWorld config given file_pass.seat.me.0.known_run file_pass.tenant (file_kept file_pass)
so_of_world config given file_pass new same also went =
    let view = file_pass.seat.me.0 in
    let holds = subst (λ (files : List HeldFile). Each (HoldsFile view.config went.state) files) (file_pass_is file_pass) went.knew.files in
    let so : IsSoOfWorld view.config view.openings view.known_run (file_kept file_pass).tenant (file_kept file_pass) = record {
      openings = went.openings;
      before = went.before;
      events = went.events;
      state = went.state;
      played = went.played;
      goes_on = went.follows.known;
      gave = went.knew.gave;
      there = holds.0.there;
      tells = holds.0.tells;
    } in
    subst (λ (c : Config). IsSoOfWorld c given view.known_run file_pass.tenant (file_kept file_pass)) same
    (subst (λ (all : List TenantStart). IsSoOfWorld view.config all view.known_run file_pass.tenant (file_kept file_pass)) also
    (subst (λ (n : ℕ). IsSoOfWorld view.config view.openings view.known_run n (file_kept file_pass)) (file_pass_its file_pass) so))
