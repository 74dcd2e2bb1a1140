-- A step on the table's bits does what the definition says of the world's values, and finds the same.
-- Used by: mw_table, mw_law_threads.
use Rattle.std.specs.Prelude.{ℕ, ◌≡◌, ◌≢◌, ◌==◌, Bool, true, false, cond}
use Rattle.std.proofs.Common.{refl, sym, ap, ◌∙◌}
use Rattle.mw_words.specs.declared.places.At.{At}
use Rattle.mw_look.specs.declared.observations.Got.TheVariants.{Word as Bits, Won as GotWon, Lost as GotLost}
use Rattle.mw_look.specs.declared.observations.Observation.{Observation}
use Rattle.mw_look.specs.declared.observations.Observation.TheVariants.{Won, Lost}
use Rattle.mw_look.specs.declared.steps.Kind.{Kind}
use Rattle.mw_look.specs.declared.steps.Kind.TheVariants.{Admit, Claim, Fill, Pin, Unpin, Free, Drop, Row, Plant, Resolve, DecideYes, DecideNo, Release, Ready, Seal, Settle, Cancel, Clean, Fault}
use Rattle.mw_look.specs.Observations.{observation_of}
use Rattle.mw_look.specs.Places.{Val, Fits, pack}
use Rattle.mw_look.specs.Steps.{Step, Load, Change, File, op_of, place}
use Rattle.mw_look.proofs.PlaceLaws.{packs_are_seen}
use Rattle.mw_world.specs.declared.config.Config.{Config}
use Rattle.mw_world.specs.Claim.BitExactness.{IsRightAs, IsRightInBits, bits_fetched}
use Rattle.mw_world.specs.Definition.Cells.{Cells, read, write}
use Rattle.mw_look.specs.declared.steps.Shape.{Shape}
use Rattle.mw_look.specs.declared.steps.Shape.TheVariants.{Exchange, Store, Fetch}
use Rattle.mw_look.specs.Shapes.{shape_of}
use Rattle.mw_world.specs.Definition.Changes.{fetched, changed, done}
use Rattle.mw_world.specs.Definition.Turns.{may_make}
use Rattle.mw_world.proofs.PlacesApart.{read-same, read-other}
use Rattle.mw_rule.specs.declared.ways.Way.{Way}
use Rattle.mw_rule.specs.declared.ways.Way.TheVariants.{Exchange as ByExchange, Store as ByStore, Sub, Or}
use Rattle.mw_rule.specs.Ways.{way_of, made_by_way, got_by_way, made_of_bits, finds}

-- the shared words after a step, and what its request is told
abbrev pub cells_after : Step → Cells → Cells
cells_after step cells = done step cells (λ after observation. after)

abbrev pub observation_after : Step → Cells → Observation
observation_after step cells = done step cells (λ after observation. observation)

changed_is : {A : Type 0} → (shape : Shape) (kind : Kind) (at : At) (from to : Val at) (cells : Cells) (then : Cells → Observation → A)
    → changed shape kind at from to cells then ≡ then (changed shape kind at from to cells (λ after observation. after)) (changed shape kind at from to cells (λ after observation. observation))
changed_is Exchange kind at from to cells then = by (pack at (read cells at) == pack at from)
  where
    by : (wins : Bool) → cond wins (then (write cells at to) Won) (then cells Lost) ≡ then (cond wins (write cells at to) cells) (cond wins Won Lost)
    by true = refl
    by false = refl
changed_is Store kind at from to cells then = refl
changed_is Fetch kind at from to cells then = refl

-- what follows a step depends on these two alone
pub done_is : {A : Type 0} → (step : Step) (cells : Cells) (then : Cells → Observation → A) → done step cells then ≡ then (cells_after step cells) (observation_after step cells)
done_is (Load at) cells then = refl
done_is (Change kind at from to) cells then = changed_is (shape_of kind) kind at from to cells then
done_is (File call slot) cells then = refl

-- The way of a kind fits its shape: for a fetch it makes of the bits what the fetch does.
abbrev IsWayOf : Shape → Kind → Way → Type 0
IsWayOf Exchange kind ByExchange = Unit {0}
IsWayOf Store kind ByStore = Unit {0}
IsWayOf Fetch kind way = (from to bits : ℕ) → (made_by_way way from to bits ≡ bits_fetched kind bits) × (got_by_way way from bits ≡ Bits bits)
IsWayOf shape kind way = ⊥

way_is : (kind : Kind) → IsWayOf (shape_of kind) kind (way_of kind)
way_is Admit = tt
way_is Claim = tt
way_is Fill = tt
way_is Pin = tt
way_is Unpin = λ from to bits. (refl, refl)
way_is Free = tt
way_is Drop = λ from to bits. (refl, refl)
way_is Row = tt
way_is Plant = tt
way_is Resolve = tt
way_is DecideYes = tt
way_is DecideNo = tt
way_is Release = tt
way_is Ready = tt
way_is Seal = tt
way_is Settle = tt
way_is Cancel = tt
way_is Clean = tt
way_is Fault = λ from to bits. (refl, refl)

-- the bits at the step's place after it
change_packs : (shape : Shape) (kind : Kind) (way : Way) (at : At) (from to : Val at) (cells : Cells) → IsWayOf shape kind way → IsRightAs shape kind at (read cells at)
    → pack at (read (changed shape kind at from to cells (λ after observation. after)) at) ≡ made_by_way way (pack at from) (pack at to) (pack at (read cells at))
change_packs Exchange kind ByExchange at from to cells is right = by (pack at (read cells at) == pack at from)
  where
    by : (wins : Bool) → pack at (read (cond wins (write cells at to) cells) at) ≡ cond wins (pack at to) (pack at (read cells at))
    by true = ap (pack at) (read-same cells at to)
    by false = refl
change_packs Exchange kind ByStore at from to cells is right = absurd is
change_packs Exchange kind (Sub number) at from to cells is right = absurd is
change_packs Exchange kind (Or number) at from to cells is right = absurd is
change_packs Store kind ByStore at from to cells is right = ap (pack at) (read-same cells at to)
change_packs Store kind ByExchange at from to cells is right = absurd is
change_packs Store kind (Sub number) at from to cells is right = absurd is
change_packs Store kind (Or number) at from to cells is right = absurd is
change_packs Fetch kind way at from to cells is right =
    ap (pack at) (read-same cells at (fetched kind at (read cells at))) ∙ (right ∙ sym (is (pack at from) (pack at to) (pack at (read cells at))).0)

pub step_packs : (config : Config) (step : Step) (cells : Cells) → may_make config step ≡ true → IsRightInBits step cells
    → pack (place step) (read (cells_after step cells) (place step)) ≡ made_of_bits (op_of step) (pack (place step) (read cells (place step)))
step_packs config (Load at) cells may right = refl
step_packs config (Change kind at from to) cells may right = change_packs (shape_of kind) kind (way_of kind) at from to cells (way_is kind) right
step_packs config (File call slot) cells may right = absurd (false_true may)
  where
    false_true : false ≡ true → ⊥
    false_true e = cc

-- each other place has what it had
change_other : (shape : Shape) (kind : Kind) (at other : At) (from to : Val at) (cells : Cells) → other ≢ at
    → read (changed shape kind at from to cells (λ after observation. after)) other ≡ read cells other
change_other Exchange kind at other from to cells apart = by (pack at (read cells at) == pack at from)
  where
    by : (wins : Bool) → read (cond wins (write cells at to) cells) other ≡ read cells other
    by true = read-other cells at other to apart
    by false = refl
change_other Store kind at other from to cells apart = read-other cells at other to apart
change_other Fetch kind at other from to cells apart = read-other cells at other (fetched kind at (read cells at)) apart

pub step_other : (step : Step) (cells : Cells) (other : At) → other ≢ place step → read (cells_after step cells) other ≡ read cells other
step_other (Load at) cells other apart = refl
step_other (Change kind at from to) cells other apart = change_other (shape_of kind) kind at other from to cells apart
step_other (File call slot) cells other apart = refl

-- what the request is told
change_tells : (shape : Shape) (kind : Kind) (way : Way) (at : At) (from to : Val at) (cells : Cells) → IsWayOf shape kind way → Fits at (read cells at)
    → observation_of at (got_by_way way (pack at from) (pack at (read cells at))) ≡ changed shape kind at from to cells (λ after observation. observation)
change_tells Exchange kind ByExchange at from to cells is fits = by (pack at (read cells at) == pack at from)
  where
    by : (wins : Bool) → observation_of at (cond wins GotWon GotLost) ≡ cond wins Won Lost
    by true = refl
    by false = refl
change_tells Exchange kind ByStore at from to cells is fits = absurd is
change_tells Exchange kind (Sub number) at from to cells is fits = absurd is
change_tells Exchange kind (Or number) at from to cells is fits = absurd is
change_tells Store kind ByStore at from to cells is fits = refl
change_tells Store kind ByExchange at from to cells is fits = absurd is
change_tells Store kind (Sub number) at from to cells is fits = absurd is
change_tells Store kind (Or number) at from to cells is fits = absurd is
change_tells Fetch kind way at from to cells is fits =
    ap (observation_of at) (is (pack at from) (pack at to) (pack at (read cells at))).1 ∙ packs_are_seen at (read cells at) fits

pub step_tells : (config : Config) (step : Step) (cells : Cells) → may_make config step ≡ true → Fits (place step) (read cells (place step))
    → observation_of (place step) (finds (op_of step) (pack (place step) (read cells (place step)))) ≡ observation_after step cells
step_tells config (Load at) cells may fits = packs_are_seen at (read cells at) fits
step_tells config (Change kind at from to) cells may fits = change_tells (shape_of kind) kind (way_of kind) at from to cells (way_is kind) fits
step_tells config (File call slot) cells may fits = absurd (false_true may)
  where
    false_true : false ≡ true → ⊥
    false_true e = cc
