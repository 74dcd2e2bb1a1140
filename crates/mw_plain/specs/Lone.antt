-- Defines the store that a `Lone` in code represents, and how its calls answer a legal or an illegal mark.
-- Used by: lone.rt. It may change with src/lone.rt. Store of mw_lone says what is legal.
use Rattle.std.specs.Prelude.{◌-◌, ◌^◌, ◌≡◌, ◌==◌, ◌||◌, Bool, true, false, Option, Some, None, Result, Ok, Err, is_none}
use Rattle.std.specs.Option.{option_map}
use Rattle.mw_words.specs.declared.replies.Reply.{Reply}
use Rattle.mw_lone.specs.Store.{Store, step, outgoing}
use Rattle.mw_lone.specs.declared.marks.Mark.{Mark}
use Rattle.mw_lone.specs.declared.marks.Mark.TheVariants.{Ask}
use Rattle.mw_plain.specs.declared.lone.Lone.TheInside.{Inside}
use Rattle.mw_plain.specs.declared.lone.LoneFault.{LoneFault}
use Rattle.mw_plain.specs.declared.lone.LoneFault.TheVariants.{Illegal}

-- the store that its parts make
abbrev pub store_of : Inside → Store
store_of a = record {
  words = a.words.items;
  quota = a.quota;
  used = a.requests.used;
  next = a.requests.next;
  requests = a.requests.requests;
  faulted = a.faulted;
  in_doubt = a.in_doubt.items;
}

-- the reply that a mark hands out
abbrev pub reply_of : Store → Mark → Option Reply
reply_of s mark = option_map (λ said. said.1) (outgoing s mark)

-- the mark is that a request comes
abbrev pub is_ask : Mark → Bool
is_ask (Ask n job) = true
is_ask mark = false

-- the mark is that a request comes under the last number, after which there is none
abbrev pub asks_last : Mark → Bool
asks_last (Ask n job) = n == 2 ^ 64 - 1
asks_last mark = false

-- the mark is refused: it is illegal, or asks under the last number
abbrev pub is_refused : Store → Mark → Bool
is_refused s mark = is_none (step s mark) || asks_last mark

-- what the call must do: with the store after a legal mark and the reply that it hands out, answer this reply and
-- become that store; with none, refuse and stay
abbrev pub Does : Option Store → Option Reply → Store → Result (Option Reply) LoneFault → Store → Type 0
Does (Some t) reply s answer now = (answer ≡ Ok reply) × (now ≡ t)
Does None reply s answer now = (answer ≡ Err Illegal) × (now ≡ s)

-- A legal mark is taken: the answer is the reply that it hands out, and the store is the one after it. An illegal mark
-- is refused, and the store stays as it was.
abbrev pub Takes : Store → Mark → Result (Option Reply) LoneFault → Store → Type 0
Takes s mark answer now = Does (step s mark) (reply_of s mark) s answer now
