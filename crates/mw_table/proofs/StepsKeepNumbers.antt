-- A step that makes no attempt to hold a word keeps the number of the worker's next attempt.
-- Used by: Shared::begin, exchange, load, store, subtract, mw_core.
use Rattle.std.proofs.Common.{ℕ, ◌≡◌, false, [], ◌∷◌, map, refl, ap, sym, ◌∙◌}
use Rattle.std.specs.Prelude.{Option, Some, None}
use Rattle.mw_words.specs.declared.replies.Reply.{Reply}
use Rattle.mw_look.specs.declared.steps.Op.{Op}
use Rattle.mw_look.specs.declared.observations.Got.{Got}
use Rattle.mw_words.specs.declared.places.At.{At}
use Rattle.mw_look.specs.declared.steps.Kind.{Kind}
use Rattle.mw_look.specs.declared.steps.Kind.TheVariants.{Plant as PlantKind}
use Rattle.mw_look.specs.declared.steps.Op.TheVariants.{Change as ChangeBits}
use Rattle.mw_look.specs.Steps.{op_of}
use Rattle.mw_rule.specs.Ways.{way_of}
use Rattle.mw_rule.specs.declared.ways.Way.TheVariants.{Store, Sub}
use Rattle.mw_actor.specs.declared.points.Point.{Point}
use Rattle.mw_actor.specs.declared.points.Point.TheVariants.{Plant}
use Rattle.mw_words.specs.declared.jobs.Job.{Job}
use Rattle.mw_words.specs.declared.jobs.Job.TheVariants.{Get, Cas}
use Rattle.mw_actor.specs.ActorState.{ActorState, first_point}
use Rattle.mw_actor.specs.Asks.{asks, asks_at}
use Rattle.mw_actor.specs.Program.{replied}
use Rattle.mw_world.specs.Definition.Turns.{next_attempt}
use Rattle.mw_rule.specs.declared.views.WorkerToken.{WorkerToken}
use Rattle.mw_rule.specs.declared.views.View.{View}
use Rattle.mw_rule.specs.Steps.{LearnsFirstStep, IsNextStep, MayCome, LearnsStep, comes, settled_as, stepped, told, told_as, actor_after}
use Rattle.mw_table.specs.Numbers.{number_of, numbers}
use Rattle.mw_table.specs.Passes.{is_plant}

same_attempt : (actor : ActorState) (point : Point) (attempt : ℕ) → is_plant (op_of (asks_at actor point)) ≡ false → next_attempt point attempt ≡ attempt
same_attempt actor (Plant task entry number) attempt plain = absurd (cc)
same_attempt actor point attempt plain = refl

pub settled_number : (token : WorkerToken) (actor : ActorState) (reply : Option Reply) → number_of (settled_as token actor reply) ≡ number_of token
settled_number token actor None = refl
settled_number token actor (Some reply) = refl

pub told_number : (got : Got) (token : WorkerToken) (actor : ActorState) (having : Option ActorState) → having ≡ Some actor → number_of (told_as got token having) ≡ (token.worker, next_attempt actor.point token.attempt)
told_number got token actor None is = absurd (cc)
told_number got token actor (Some one) is =
    settled_number (stepped got token one) (actor_after got token.attempt one) (replied (actor_after got token.attempt one))
    ∙ ap (λ (a : ActorState). (token.worker, next_attempt a.point token.attempt)) (some_same one actor is)
  where
    some_same : (one other : ActorState) → Some one ≡ Some other → one ≡ other
    some_same one other e = cc

-- the numbers after a step
pub numbers_stay : (op : Op) (got : Got) (worker : ℕ) (v w : View) → is_plant op ≡ false → IsNextStep v worker op → LearnsStep got v w → numbers w ≡ numbers v
numbers_stay op got worker v w plain drives took =
    let token = drives.token in
    let actor = drives.actor in
    let here : is_plant (op_of (asks actor)) ≡ false = ap is_plant drives.is ∙ plain in
    let stays : next_attempt actor.point token.attempt ≡ token.attempt = same_attempt actor actor.point token.attempt here in
    ap (map number_of) (took.token ∙ ap (map (told got)) drives.has.only)
    ∙ (ap (λ (n : ℕ × ℕ). n ∷ []) (told_number got token actor token.actor drives.carries ∙ ap (λ (n : ℕ). (token.worker, n)) stays)
    ∙ sym (ap (map number_of) drives.has.only))

said_number : (got : Got) (one : WorkerToken) (actor : ActorState) (request begun worker attempt : ℕ) → next_attempt actor.point one.attempt ≡ one.attempt → number_of (told got (comes actor request begun one)) ≡ number_of one
said_number got one actor request begun worker attempt stays =
    settled_number (stepped got (comes actor request begun one) actor) (actor_after got one.attempt actor) (replied (actor_after got one.attempt actor))
    ∙ ap (λ (n : ℕ). (one.worker, n)) stays

first_stays : (tenant attempt : ℕ) (job : Job) → next_attempt (first_point tenant job) attempt ≡ attempt
first_stays tenant attempt (Get address) = refl
first_stays tenant attempt (Cas entries) = refl

-- the numbers after a request's first step
pub numbers_begin : (actor : ActorState) (got : Got) (worker : ℕ) (v w : View) → MayCome v worker actor → LearnsFirstStep actor got v w → numbers w ≡ numbers v
numbers_begin actor got worker v w may began =
    let one = may.token in
    let stays : next_attempt actor.point one.attempt ≡ one.attempt =
    ap (λ (a : ActorState). next_attempt a.point one.attempt) may.is ∙ first_stays actor.tenant one.attempt actor.job in
    ap (map number_of) (began.token ∙ ap (map (λ token. told got (comes actor began.request began.begun token))) may.has.only)
    ∙ (ap (λ (n : ℕ × ℕ). n ∷ []) (said_number got one actor began.request began.begun worker 0 stays)
    ∙ sym (ap (map number_of) may.has.only))

-- a store and a fetch are no attempts
pub plain_store : (kind : Kind) (at : At) (from to : ℕ) → way_of kind ≡ Store → is_plant (ChangeBits kind at from to) ≡ false
plain_store PlantKind at from to is = absurd (cc)
plain_store kind at from to is = refl

pub plain_fetch : (kind : Kind) (at : At) (from to number : ℕ) → way_of kind ≡ Sub number → is_plant (ChangeBits kind at from to) ≡ false
plain_fetch PlantKind at from to number is = absurd (cc)
plain_fetch kind at from to number is = refl
