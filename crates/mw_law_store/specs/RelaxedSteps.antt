-- Defines a store alone's relaxed step, which is possible also when a number was used up, and the label: what a step adds to
-- a tenant's history.
-- Used by: specs/HistoryMatches, specs/Laws, specs/Simulation, mw_law_threads.
use Rattle.std.specs.Prelude.{ℕ, ◌-◌, ◌≡◌, true, false, List, slice_set, Option, Some, None}
use Rattle.mw_words.specs.declared.replies.Reply.{Reply}
use Rattle.mw_lone.specs.declared.marks.Mark.{Mark}
use Rattle.mw_lone.specs.declared.marks.Mark.TheVariants.{Retire, Reply as HandOut}
use Rattle.mw_lone.specs.Store.{Store, RequestState, request, with_request, with_reply, outgoing}
use Rattle.mw_law_store.specs.Late.MarkEffects.{Does}
use Rattle.mw_law_store.specs.Late.LateMarks.{IsOpen, more}

-- A change gives its slot back, once. Unlike a legal Retire this needs no reply: a change gives back its slot without one if a
-- number was used up and it found no slot.
pub record GivesBack (s : Store) (n : ℕ) (t : Store) : Type 0 where
  pub found : RequestState
  pub is_asked : request s n ≡ Some found
  pub has_slot : found.admitted ≡ true
  pub not_retired : found.retired ≡ false
  pub after : t ≡ record (with_request s n (record found { retired = true })) { used = s.used - 1 }

-- A request ends, once. Unlike a legal Reply this needs no decided reply: a request that ends with WORN has none, or another one.
pub record HandsAny (s : Store) (n : ℕ) (t : Store) : Type 0 where
  pub found : RequestState
  pub is_asked : request s n ≡ Some found
  pub not_handed : found.handed ≡ false
  pub after : t ≡ with_request s n (record found { handed = true })

-- The relaxed step: the legal one (`Does`), but for the two marks that WORN makes illegal.
abbrev pub RelaxedStep : Store → Mark → Store → Type 0
RelaxedStep s (Retire n) t = GivesBack s n t
RelaxedStep s (HandOut n) t = HandsAny s n t
RelaxedStep s mark t = Does s mark t

-- A request that had no reply gets this one.
pub record Decides (s : Store) (n : ℕ) (reply : Reply) (t : Store) : Type 0 where
  pub found : RequestState
  pub is_open : IsOpen s n found
  pub after : t ≡ with_reply s n found reply

-- The label of a step: nothing; a mark; a reserved place; or a mark that is put in at a reserved place and gives this request
-- this reply.
pub data StoreLabel : Type 0 where
  NoLabel : StoreLabel
  Says : (mark : Mark) → StoreLabel
  ReservesPlace : StoreLabel
  MarksLate : (place : ℕ) (mark : Mark) (n : ℕ) (reply : Reply) → StoreLabel

-- the lines after a label is added
abbrev pub lines_after : StoreLabel → List (Option Mark) → List (Option Mark)
lines_after NoLabel lines = lines
lines_after (Says mark) lines = more lines (Some mark)
lines_after ReservesPlace lines = more lines None
lines_after (MarksLate place mark n reply) lines = slice_set lines place (Some mark)

-- The relaxed step of a label: a mark is a relaxed step, a late mark decides the reply, and any other label leaves the store.
abbrev pub RelaxedLabelStep : StoreLabel → Store → Store → Type 0
RelaxedLabelStep NoLabel s t = t ≡ s
RelaxedLabelStep (Says mark) s t = RelaxedStep s mark t
RelaxedLabelStep ReservesPlace s t = t ≡ s
RelaxedLabelStep (MarksLate place mark n reply) s t = Decides s n reply t

-- The legal step of a label, which runs with numbers left have: as the relaxed one, but a mark is a legal step.
abbrev pub LabelStep : StoreLabel → Store → Store → Type 0
LabelStep (Says mark) s t = Does s mark t
LabelStep says s t = RelaxedLabelStep says s t

-- the reply that a label hands out, with its request's number
abbrev pub given_out : StoreLabel → Store → Option (ℕ × Reply)
given_out (Says mark) s = outgoing s mark
given_out says s = None
