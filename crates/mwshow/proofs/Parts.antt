-- The kind of a file's damage tells whether its layout in use and its sizes are known. A file with only its first parts is as
-- long.
-- Used by: damage_byte, SizedFile::value_byte.
use Rattle.std.proofs.Common.{◌≡◌, ℕ, ◌+◌, ◌-◌, ◌*◌, ◌≤◌, ◌++◌, true, false, Some, List, length, take, drop, replicate, inl, inr, sym, ◌∙◌, subst, arith, length-append, length-drop}
use Rattle.std.proofs.lemmas.Bool.{cases_Bool, leb-true}
use Rattle.std.proofs.lemmas.List.{length-take-le, length-replicate}
use Rattle.mw_record.specs.declared.damages.Damage.{Damage}
use Rattle.mw_record.specs.declared.damages.Damage.TheVariants.{NotThisFormat, Sizes, Short, SecondLayout}
use Rattle.mw_record.specs.declared.layout.TheConstants.{HEAD_SIZE}
use Rattle.mw_record.specs.declared.layout.Layout.TheVariants.{First, Second}
use Rattle.mw_record.specs.Layout.{home_at, size}
use Rattle.mw_record.specs.LayoutBytes.{has_head, has_mark, has_sizes, has_all_bytes}
use Rattle.mw_record.specs.Damages.{damage_of, is_switched, second_at, may_begin, layout_of, at_of, part_of, words_of, found_places}
use Rattle.mw_record.proofs.Faults as faults
use Rattle.mw_record.proofs.Faults.{part_fault}
use Rattle.mwshow.specs.Places.{HasHead, IsSized, first_homes}

-- a file that isn't too short has a head
has_all_of_head : (image : List ℕ) (d : Damage) → damage_of image ≡ Some d → (d ≡ Short → ⊥) → has_head image ≡ true
has_all_of_head image d is ne =
    elim (cases_Bool (has_head image)) [
      | inl is_so ↦ is_so
      | inr fails ↦ absurd (ne (let e = faults.no_head image fails in cc))
    ]

-- the head of the valid layout is there, and the damage is that layout's
pub record IsOfLayout (image : List ℕ) (d : Damage) : Type 0 where
  pub head : HasHead (at_of image) image
  pub fault : part_fault (layout_of image) (part_of image) ≡ Some d

of_first : (image : List ℕ) (d : Damage) → damage_of image ≡ Some d → has_head image ≡ true → has_mark First image ≡ true → is_switched image ≡ false → IsOfLayout image d
of_first image d is head mark s =
    record {
      head = subst (λ at. HasHead at image) (sym (faults.first_at image s)) (record { begins = omega arith; whole = leb-true _ _ head });
      fault = faults.at_first image (λ layout part. part_fault layout part ≡ Some d) s (sym (faults.first_damage image head mark s) ∙ is);
    }

of_second : (image : List ℕ) (d : Damage) → damage_of image ≡ Some d → (d ≡ Short → ⊥) → (d ≡ SecondLayout → ⊥) → has_head image ≡ true → has_mark First image ≡ true
    → is_switched image ≡ true → IsOfLayout image d
of_second image d is a b head mark s =
    let at : ℕ = second_at image in
    let fault = sym (faults.second_damage image head mark s) ∙ is in
    let begins : may_begin at ≡ true = elim (cases_Bool (may_begin at)) [
      | inl is_so ↦ is_so
      | inr fails ↦ absurd (b (let e = faults.no_place image fails in cc))
    ] in
    let second_head : has_head (drop at image) ≡ true = elim (cases_Bool (has_head (drop at image))) [
      | inl is_so ↦ is_so
      | inr fails ↦ absurd (a (let e = faults.no_second_head image begins fails in cc))
    ] in
    let second_mark : has_mark Second (drop at image) ≡ true = elim (cases_Bool (has_mark Second (drop at image))) [
      | inl is_so ↦ is_so
      | inr fails ↦ absurd (b (let e = faults.no_second_mark image begins second_head fails in cc))
    ] in
    let within = faults.begins_within at begins in
    let long = leb-true _ _ second_head in
    record {
      head = subst (λ at. HasHead at image) (sym (faults.second_begins image s)) (record { begins = within.1; whole = omega (arith, long, length-drop at image) });
      fault = faults.at_second image (λ layout part. part_fault layout part ≡ Some d) s (sym (faults.second_fault image begins second_head second_mark) ∙ fault);
    }

-- a file with one of the damages that are looked for last has a valid layout
layout_known : (image : List ℕ) (d : Damage) → damage_of image ≡ Some d → (d ≡ Short → ⊥) → (d ≡ NotThisFormat → ⊥) → (d ≡ SecondLayout → ⊥) → IsOfLayout image d
layout_known image d is a b c =
    let head = has_all_of_head image d is a in
    let mark : has_mark First image ≡ true = elim (cases_Bool (has_mark First image)) [
      | inl is_so ↦ is_so
      | inr fails ↦ absurd (b (let e = faults.no_mark image head fails in cc))
    ] in
    elim (cases_Bool (is_switched image)) [
      | inl s ↦ of_second image d is a c head mark s
      | inr s ↦ of_first image d is head mark s
    ]

fits_behind : (at n long : ℕ) → at ≤ long → n ≤ long - at → at + n ≤ long
fits_behind at n long a b = omega (arith, a, b)

-- and if its sizes aren't wrong, they are known
sizes_known : (image : List ℕ) (d : Damage) → damage_of image ≡ Some d → (d ≡ Short → ⊥) → (d ≡ NotThisFormat → ⊥) → (d ≡ SecondLayout → ⊥) → (d ≡ Sizes → ⊥)
    → IsSized (layout_of image) (at_of image) (words_of image) (found_places image) image
sizes_known image d is a b c e =
    let told = layout_known image d is a b c in
    let layout = layout_of image in
    let part : List ℕ = part_of image in
    let fault = told.fault in
    let sizes : has_sizes layout part ≡ true = elim (cases_Bool (has_sizes layout part)) [
      | inl is_so ↦ is_so
      | inr fails ↦ absurd (e (let f = faults.no_sizes layout part fails in cc))
    ] in
    let whole : has_all_bytes layout part ≡ true = elim (cases_Bool (has_all_bytes layout part)) [
      | inl is_so ↦ is_so
      | inr fails ↦ absurd (a (let f = faults.too_short layout part sizes fails in cc))
    ] in
    let are = faults.sizes_are layout part sizes in
    let long : size layout (words_of image) (found_places image) ≤ length image - at_of image =
    subst (λ n. size layout (words_of image) (found_places image) ≤ n) (length-drop (at_of image) image) (leb-true _ _ whole) in
    record {
      begins = told.head.begins;
      sizes = record { some_word = are.some_word; words_fit = are.words_fit; some_place = are.some_place; places_fit = are.places_fit };
      whole = fits_behind (at_of image) (size layout (words_of image) (found_places image)) (length image) (omega (arith, told.head.whole)) long;
    }

-- the file with only its first home words is as long
pub length-first_homes : (at words homes : ℕ) (image : List ℕ) → homes ≤ words → at + home_at words ≤ length image → length (first_homes at words homes image) ≡ length image
length-first_homes at words homes image fits whole =
    let zeros : List ℕ = replicate (8 * (words - homes)) 0 in
    let rest : List ℕ = drop (at + home_at words) image in
    omega (
      arith,
      length-append (take (at + home_at homes) image) (zeros ++ rest),
      length-append zeros rest,
      length-take-le (at + home_at homes) image (omega (arith, fits, whole)),
      length-replicate {A = ℕ} (8 * (words - homes)) 0,
      length-drop (at + home_at words) image,
      fits,
      whole,
    )

-- a damage that is looked for once the head, the layout in use, or its sizes are known
abbrev pub IsPastHead : Damage → Type 0
IsPastHead Short = ⊥
IsPastHead d = Unit {0}

abbrev pub IsPastLayout : Damage → Type 0
IsPastLayout Short = ⊥
IsPastLayout NotThisFormat = ⊥
IsPastLayout SecondLayout = ⊥
IsPastLayout d = Unit {0}

abbrev pub IsPastSizes : Damage → Type 0
IsPastSizes Sizes = ⊥
IsPastSizes d = IsPastLayout d

other_than : (Past : Damage → Type 0) (d one other : Damage) → d ≡ one → Past one → (Past other → ⊥) → d ≡ other → ⊥
other_than Past d one other is past none e = none (subst Past (sym is ∙ e) past)

pub head_of : (image : List ℕ) (d one : Damage) → damage_of image ≡ Some d → d ≡ one → IsPastHead one → HEAD_SIZE ≤ length image
head_of image d one is so past = leb-true _ _ (has_all_of_head image d is (other_than IsPastHead d one Short so past (λ none. none)))

pub head_in_use : (image : List ℕ) (d one : Damage) → damage_of image ≡ Some d → d ≡ one → IsPastLayout one → HasHead (at_of image) image
head_in_use image d one is so past =
    let known = layout_known image d is (other_than IsPastLayout d one Short so past (λ none. none)) (other_than IsPastLayout d one NotThisFormat so past (λ none. none))
    (other_than IsPastLayout d one SecondLayout so past (λ none. none)) in
    known.head

pub sizes_of : (image : List ℕ) (d one : Damage) → damage_of image ≡ Some d → d ≡ one → IsPastSizes one
    → IsSized (layout_of image) (at_of image) (words_of image) (found_places image) image
sizes_of image d one is so past =
    sizes_known image d is (other_than IsPastSizes d one Short so past (λ none. none)) (other_than IsPastSizes d one NotThisFormat so past (λ none. none))
    (other_than IsPastSizes d one SecondLayout so past (λ none. none)) (other_than IsPastSizes d one Sizes so past (λ none. none))
