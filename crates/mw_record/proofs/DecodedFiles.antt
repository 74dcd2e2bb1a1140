-- What `decode` found of one layout's bytes tells the file's damage, or its layout in use and its sizes. Used by: decode.
use Rattle.std.proofs.Common.{◌≡◌, ℕ, true, false, Option, Some, None, List, drop, Result, Ok, Err, IsErrAnd, MatchResult, sym, ap, ◌∙◌}
use Rattle.mw_record.specs.declared.layout.Layout.{Layout}
use Rattle.mw_record.specs.declared.layout.Layout.TheVariants.{First, Second}
use Rattle.mw_record.specs.declared.damages.Damage.{Damage}
use Rattle.mw_record.specs.LayoutBytes.{words_told, places_told, has_head, has_mark}
use Rattle.mw_record.specs.Damages.{is_switched, second_at, may_begin, part_of, damage_of, IsSound}
use Rattle.mw_record.proofs.Faults.{part_fault, first_damage, second_damage, second_fault, first_layout, first_at, first_part, second_layout, second_begins, second_part}

-- an error that is handed on is the file's damage
pub handed_on : {T : Type 0} (P : T → Type 0) (damage fault : Option Damage) (d : Damage) (r : Result T Damage) → IsErrAnd r (λ e. e ≡ d)
    → damage ≡ fault → fault ≡ Some d → MatchResult r P (λ e. damage ≡ Some e)
handed_on P damage fault d (Ok x) err same is = absurd err
handed_on P damage fault d (Err e) err same is = same ∙ is ∙ ap Some (sym err)

-- what the bytes of a layout were found to be
pub record Found (layout found : Layout) (part bytes : List ℕ) (words places : ℕ) : Type 0 where
  pub same_layout : found ≡ layout
  pub same_bytes : bytes ≡ part
  pub same_words : words ≡ words_told part
  pub same_places : places ≡ places_told part

module _ (image : List ℕ) (head : has_head image ≡ true) (mark : has_mark First image ≡ true) where
  -- a file whose first layout is in use
  pub found_first : (found : Layout) (bytes : List ℕ) (words places : ℕ) → is_switched image ≡ false → part_fault First image ≡ None → Found First found image bytes words places
      → IsSound image found 0 words places × (bytes ≡ part_of image)
  found_first found bytes words places s none f =
      let p : part_of image ≡ image = first_part image s in (
        record {
          undamaged = first_damage image head mark s ∙ none;
          same_layout = f.same_layout ∙ sym (first_layout image s);
          same_at = sym (first_at image s);
          same_words = f.same_words ∙ ap words_told (sym p);
          same_places = f.same_places ∙ ap places_told (sym p);
        },
        f.same_bytes ∙ sym p,
      )

  -- a file whose second layout is in use, with that layout's head at the offset that the file tells
  module _ (at : ℕ) (s : is_switched image ≡ true) (begins : at ≡ second_at image) (may : may_begin at ≡ true)
      (head2 : has_head (drop at image) ≡ true) (mark2 : has_mark Second (drop at image) ≡ true) where
    pub switched_damage : damage_of image ≡ part_fault Second (drop at image)
    switched_damage =
        second_damage image head mark s
        ∙ second_fault image (ap may_begin (sym begins) ∙ may) (ap (λ n. has_head (drop n image)) (sym begins) ∙ head2) (ap (λ n. has_mark Second (drop n image)) (sym begins) ∙ mark2)
        ∙ ap (λ n. part_fault Second (drop n image)) (sym begins)

    pub found_second : (found : Layout) (bytes : List ℕ) (words places : ℕ) → part_fault Second (drop at image) ≡ None → Found Second found (drop at image) bytes words places
        → IsSound image found at words places × (bytes ≡ part_of image)
    found_second found bytes words places none f =
        let p : part_of image ≡ drop at image = second_part image s ∙ ap (λ n. drop n image) (sym begins) in (
          record {
            undamaged = switched_damage ∙ none;
            same_layout = f.same_layout ∙ sym (second_layout image s);
            same_at = begins ∙ sym (second_begins image s);
            same_words = f.same_words ∙ ap words_told (sym p);
            same_places = f.same_places ∙ ap places_told (sym p);
          },
          f.same_bytes ∙ sym p,
        )
