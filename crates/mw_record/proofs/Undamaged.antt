-- If a file has no damage, the sizes, the offset and the words that `Image` reads are those of the file. Used by: Image.
use Rattle.std.proofs.Common.{◌≡◌, ℕ, ◌<◌, ◌≤◌, Some, None, List, slice_get, sym, ap, ◌∙◌, inl, inr, arith}
use Rattle.std.proofs.lemmas.Bool.{cases_Bool}
use Rattle.mw_record.specs.declared.layout.Layout.{Layout}
use Rattle.mw_record.specs.declared.layout.TheConstants.{MAX_FIRST}
use Rattle.mw_record.specs.Records.{record_at, home, all_over}
use Rattle.mw_record.specs.LayoutBytes.{told_at}
use Rattle.mw_record.specs.Damages.{is_switched, second_at, layout_of, at_of, part_of, words_of, found_places, words_in, damage_of}
use Rattle.mw_record.proofs.Faults.{AreSizes, passes, sizes_are, begins_within, first_at, second_begins, word_in}
use Rattle.mw_record.proofs.Sizes.{word}

-- its layout in use may have its sizes
pub sizes : (image : List ℕ) → damage_of image ≡ None → AreSizes (layout_of image) (part_of image)
sizes image none = sizes_are (layout_of image) (part_of image) (passes image none).part.sizes

-- its layout in use begins no later than the largest first layout ends
pub at_fits : (image : List ℕ) → damage_of image ≡ None → at_of image ≤ MAX_FIRST
at_fits image none =
    elim (cases_Bool (is_switched image)) [
      | inl s ↦
          let within = begins_within (second_at image) ((passes image none).begins s) in
          omega (arith, within.1, second_begins image s)
      | inr s ↦ omega (arith, first_at image s)
    ]

-- a word that was read from the bytes of its layout in use is one of its words
pub read_word : (image same : List ℕ) (layout : Layout) (part : List ℕ) (words places addr : ℕ) → image ≡ same → layout ≡ layout_of image → part ≡ part_of image
    → words ≡ words_of image → places ≡ found_places image → addr < words_of same
    → slice_get (words_in same) addr ≡ Some (all_over (record_at layout part words) places addr (home part addr))
read_word image same layout part words places addr is lay bytes w p lt =
    let told : all_over (record_at layout part words) places addr (home part addr) ≡ told_at (layout_of image) (part_of image) addr =
    ap (λ l. all_over (record_at l part words) places addr (home part addr)) lay
    ∙ ap (λ xs. all_over (record_at (layout_of image) xs words) places addr (home xs addr)) bytes
    ∙ word (layout_of image) (part_of image) words places w p addr in
    word_in (layout_of same) (part_of same) addr lt
    ∙ ap Some (sym (told ∙ ap (λ xs. told_at (layout_of xs) (part_of xs) addr) is))
