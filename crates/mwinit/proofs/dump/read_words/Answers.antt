-- Goals of `read_words` (src/dump.rt).
use Rattle.std.proofs.Common.{◌≡◌, [], ◌∷◌, ◌+◌, ◌++◌, length, length-append, refl, sym, subst, ap, ◌∙◌, arith}
use Rattle.mwinit.specs.Dump.{word_line, words_text}
use Rattle.mwinit.proofs.Dumps.{all_read, one_word_more}
use Rattle.mwinit.proofs.dump.read_words.Goals as goal

pub loop-addr-init : goal.loop-addr-init
loop-addr-init c = subst (λ words. (c.args.text.now ≡ words_text 0 words ++ c.args.text.now) × (length words ≡ 0)) (sym c.new-words.ensures.items) (refl, refl)

pub loop-addr-preserved : goal.loop-addr-preserved
loop-addr-preserved c =
    let words = c.loop-addr.words.items in
    let value = c.in_ok-value.value in
    let behind = c.in_ok-value.behind.now in
    let so = c.loop-addr.invariant in
    let line : c.loop-addr.rest.now ≡ word_line (length words) value ++ behind =
    subst (λ n. c.loop-addr.rest.now ≡ word_line n value ++ behind) (sym so.1) c.in_ok-value.ensures in
    let longer : length (words ++ value ∷ []) ≡ c.loop-addr.addr + 1 = length-append words (value ∷ []) ∙ ap (λ n. n + 1) so.1 in
    subst (λ ws. (c.args.text.now ≡ words_text 0 ws ++ behind) × (length ws ≡ c.loop-addr.addr + 1)) (sym c.in-Ok.ensures.items)
    (one_word_more c.args.text.now c.loop-addr.rest.now behind words value so.0 line, longer)

pub returns-clause-text : goal.returns-clause-text
returns-clause-text c = all_read c.args.text.now c.loop-addr.rest.now c.loop-addr.words.items c.is_empty.result c.loop-addr.invariant.0 c.is_empty.ensures c.if-not-is_empty.false

pub returns-clause-number : goal.returns-clause-number
returns-clause-number c = c.loop-addr.invariant.1 ∙ omega (arith, c.loop-addr-test.false, c.loop-addr.auto.addr-end)
