-- Goals of `Feed::next` (src/feed.rt).
use Rattle.std.proofs.Common.{◌+◌, ◌++◌, length, drop, refl, sym, ap, ◌∙◌, arith, subst}
use Rattle.std.specs.Option.{option_to_list}
use Rattle.mw_frame.specs.FeedBytes.{stream_of}
use Rattle.mw_frame.specs.Stream.{IsPart, fed, lines_of}
use Rattle.mw_frame.proofs.Ends.{open_ends, open_goes_on, open_none, open_part, open_so, open_too_long}
use Rattle.mw_frame.proofs.feed.Feed.next.Goals as goal

pub returns-then-end-gt-MAX_LINE-clause-first : goal.returns-then-end-gt-MAX_LINE-clause-first
returns-then-end-gt-MAX_LINE-clause-first c =
    let old = c.args.self.now in
    let seen = c.as_slice.result.now in
    let is = open_so old c.self.inside.ended c.self.inside.bytes.items seen c.self.view_is c.if-self.false c.as_slice.ensures in
    open_too_long old seen is (omega (arith, c.text_end-end.ensures.end, c.if-end-gt-MAX_LINE.true))

pub returns-then-end-gt-MAX_LINE-clause-lines : goal.returns-then-end-gt-MAX_LINE-clause-lines
returns-then-end-gt-MAX_LINE-clause-lines c =
    let old = c.args.self.now in
    let seen = c.as_slice.result.now in
    let is = open_so old c.self.inside.ended c.self.inside.bytes.items seen c.self.view_is c.if-self.false c.as_slice.ensures in
    open_ends old seen is (omega (arith, c.text_end-end.ensures.end, c.if-end-gt-MAX_LINE.true))

pub returns-then-end-len-clause-first : goal.returns-then-end-len-clause-first
returns-then-end-len-clause-first c =
    let old = c.args.self.now in
    let seen = c.as_slice.result.now in
    let is = open_so old c.self.inside.ended c.self.inside.bytes.items seen c.self.view_is c.if-self.false c.as_slice.ensures in
    open_none old seen is
    (omega (arith, c.text_end-end.ensures.end, c.if-end-len.true, c.len.ensures.value, ap (λ xs. length xs) c.as_slice.ensures))
    (omega (arith, c.text_end-end.ensures.end, c.if-end-gt-MAX_LINE.false))

pub returns-then-end-len-clause-part : goal.returns-then-end-len-clause-part
returns-then-end-len-clause-part c =
    let old = c.args.self.now in
    let seen = c.as_slice.result.now in
    let is = open_so old c.self.inside.ended c.self.inside.bytes.items seen c.self.view_is c.if-self.false c.as_slice.ensures in
    subst IsPart (sym c.self.view_is) (open_part old seen is
    (omega (arith, c.text_end-end.ensures.end, c.if-end-len.true, c.len.ensures.value, ap (λ xs. length xs) c.as_slice.ensures))
    (omega (arith, c.text_end-end.ensures.end, c.if-end-gt-MAX_LINE.false)))

pub returns-clause-lines : goal.returns-clause-lines
returns-clause-lines c =
    let old = c.args.self.now in
    let seen = c.as_slice-2.result.now in
    let ended = c.self.inside.ended in
    let end = c.text_end-end.result in
    let line = c.first_text-line in
    let new = c.advance.new.self.items in
    let is = open_so old ended c.self.inside.bytes.items seen c.self.view_is c.if-self.false c.as_slice-2.ensures in
    let left = open_so (stream_of ended new) ended new (drop (end + 1) seen) refl c.if-self.false
    (ap (λ bytes. drop (end + 1) bytes) c.as_slice-2.ensures ∙ sym c.advance.ensures.items) in
    λ more. open_goes_on old seen is end line.result
    (omega (arith, c.text_end-end.ensures.within, c.if-end-len.false, c.len.ensures.value, ap (λ xs. length xs) c.as_slice.ensures, ap (λ xs. length xs) c.as_slice-2.ensures))
    line.ensures.text line.ensures.first more
    ∙ ap (λ s. option_to_list line.result ++ lines_of (fed s more)) left
