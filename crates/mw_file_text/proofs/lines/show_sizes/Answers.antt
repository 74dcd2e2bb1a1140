-- Goals of `show_sizes` (src/lines.rt): its two lines follow each other.
use Rattle.std.proofs.Common.{ℕ, ◌++◌, OnOk, codes, decimal, ◌∙◌, subst}
use Rattle.std.specs.Io.KnownBytes.{Appends}
use Rattle.mw_record.specs.Damages.{found_places, words_of}
use Rattle.mw_file_text.proofs.Written.{last_piece}
use Rattle.mw_file_text.proofs.lines.show_sizes.Goals as goal

pub returns : goal.returns
returns g c =
    let W = g.O.Write.contents in
    let image = c.args.image.now in
    let words = subst (λ (n : ℕ). Appends (W c.args.out.now) (W c.show_number.new.out) (codes "words" ++ codes " " ++ decimal n ++ codes "\n"))
    (c.from.ensures ∙ c.words.ensures.value) c.in_ok-show_number.ensures in
    let places = subst (λ (n : ℕ). OnOk c.show_number-2.result (Appends (W c.show_number.new.out) (W c.show_number-2.new.out) (codes "places" ++ codes " " ++ decimal n ++ codes "\n")))
    (c.from-2.ensures ∙ c.places.ensures.value) c.show_number-2.ensures in
    last_piece c.show_number-2.result (W c.args.out.now) (W c.show_number.new.out) (W c.show_number-2.new.out) (codes "words " ++ decimal (words_of image) ++ codes "\n")
    (codes "places " ++ decimal (found_places image) ++ codes "\n") words places
