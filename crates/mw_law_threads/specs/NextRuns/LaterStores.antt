-- Defines how one store alone goes on over a start. It goes on counting a tenant's requests, which a new server numbers from
-- 0.
-- Used by: src/next_run_laws.rt.
use Rattle.std.specs.Prelude.{ℕ, ◌+◌, ◌≡◌, Bool, not, List, ◌∷◌, ◌++◌, map, Option, Some}
use Rattle.std.specs.Option.{option_map}
use Rattle.mw_words.specs.declared.replies.Reply.{Reply}
use Rattle.mw_lone.specs.declared.marks.Mark.{Mark}
use Rattle.mw_lone.specs.declared.marks.Mark.TheVariants.{Ask, Admit, Busy, Look, Miss, Seal, SealFail, FileFail, GiveUp, Retire, Reply as HandOut, Restart}
use Rattle.mw_lone.specs.Store.{Store, first_store, replies_from, request, run, step}

-- the mark with the number of its request greater by this many
abbrev pub later_mark : ℕ → Mark → Mark
later_mark many (Ask n job) = Ask (n + many) job
later_mark many (Admit n) = Admit (n + many)
later_mark many (Busy n) = Busy (n + many)
later_mark many (Look n) = Look (n + many)
later_mark many (Miss n index) = Miss (n + many) index
later_mark many (Seal n) = Seal (n + many)
later_mark many (SealFail n) = SealFail (n + many)
later_mark many FileFail = FileFail
later_mark many (GiveUp n) = GiveUp (n + many)
later_mark many (Retire n) = Retire (n + many)
later_mark many (HandOut n) = HandOut (n + many)
later_mark many (Restart interrupted take opened quota) = Restart (option_map (λ n. n + many) interrupted) take opened quota

-- the reply with its request's number greater by this many
abbrev pub later_reply : ℕ → ℕ × Reply → ℕ × Reply
later_reply many numbered = (numbered.0 + many, numbered.1)

-- Two stores are the same, but in the first one each request has a number that is greater by this many.
pub record IsLater (many : ℕ) (later store : Store) : Type 0 where
  pub words : later.words ≡ store.words
  pub quota : later.quota ≡ store.quota
  pub used : later.used ≡ store.used
  pub next : later.next ≡ store.next + many
  pub requests : (n : ℕ) → request later (n + many) ≡ request store n
  pub faulted : later.faulted ≡ store.faulted
  pub in_doubt : later.in_doubt ≡ store.in_doubt

-- One store alone takes these marks, then the start, and then the others' marks, as far as the new store does. It hands out the replies
-- of the former, then those of the latter.
pub record GoesOn (first : Store) (marks : List Mark) (many : ℕ) (start : Mark) (new : Store) (others : List Mark) (last : Store) : Type 0 where
  pub whole : Store
  pub legal : run first (marks ++ start ∷ map (later_mark many) others) ≡ Some whole
  pub same : IsLater many whole last
  pub replies : replies_from first (marks ++ start ∷ map (later_mark many) others) ≡ replies_from first marks ++ map (later_reply many) (replies_from new others)

-- A store took some marks, and then a start. A new store began with the words and the quota that the start gave, and took other marks.
-- Then one store alone takes all of these.
abbrev pub StoresGoOn : Type 0
StoresGoOn = (first store base last : Store) (marks others : List Mark) (interrupted : Option ℕ) (take opened : Bool) (quota : ℕ)
    → run first marks ≡ Some store → step store (Restart interrupted take opened quota) ≡ Some base → run (first_store base.words quota (not opened)) others ≡ Some last
    → GoesOn first marks store.next (Restart interrupted take opened quota) (first_store base.words quota (not opened)) others last
