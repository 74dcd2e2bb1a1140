-- The opening of a file keeps its promises, although it reads no more than the first MAX_FILE bytes of the disk.
-- Used by: recover, Recovered, among others.
use Rattle.std.proofs.Common.{◌≡◌, ℕ, ◌+◌, ◌<◌, ◌≤◌, Bool, true, false, List, ◌++◌, length, take, drop, min, Some, None, is_none, if◌then◌else◌, IsTrue, refl, sym, ap, ◌∙◌, arith, subst, inl, inr}
use Rattle.std.proofs.lemmas.List.{take-append-le, take_all, get_or-take, get_or-drop, length-take}
use Rattle.std.proofs.lemmas.Bool.{cases_lt, cases_Bool}
use Rattle.mw_disk.specs.Facts.{Facts, IsSynced}
use Rattle.mw_disk.specs.Runs.{Later, Touched, LeavesOnly}
use Rattle.mw_disk.proofs.RunLaws.{leaves, leaves_more, leaves_wider, touched_trans, touched_wider, still_honest}
use Rattle.mw_record.specs.declared.layout.Layout.{Layout}
use Rattle.mw_record.specs.declared.layout.Layout.TheVariants.{First, Second}
use Rattle.mw_record.specs.declared.layout.TheConstants.{MAX_FILE, MAX_FIRST}
use Rattle.mw_record.specs.declared.damages.Damage.{Damage}
use Rattle.mw_record.specs.Layout.{place_at, size, second_part}
use Rattle.mw_record.specs.Records.{record_at}
use Rattle.mw_record.specs.Damages.{damage_of, file_words, is_switched, second_at, at_of, words_in, words_of, found_places, places_of, records_of}
use Rattle.mw_record.specs.Contents.{HasWords, HasSecond, IsSwitched, RepresentsAs}
use Rattle.mw_record.proofs.Sound.{file_of}
use Rattle.mw_record.proofs.Faults.{sizes_are, begins_within, second_begins, second_layout}
use Rattle.mw_record.proofs.Layouts.{place_within, size_fits}
use Rattle.mw_record.proofs.FirstBytes.{damage_of_first, file_words_first, words_of_first, found_places_first, places_of_first, is_switched_first, at_of_first, words_in_first}
use Rattle.mw_record.proofs.TestsBelow.{few_entries}
use Rattle.mw_record.proofs.Writes.{record_same}
use Rattle.mw_file.specs.Run.{IsUntouched}
use Rattle.mw_file.specs.RollForward.{Nowhere, CanFinish}
use Rattle.mw_file.specs.RecoveryInvariant.{IsFile}
use Rattle.mw_file.specs.Migration.{CanGrow, InSwitch, Grown, given_second}
use Rattle.mw_file.specs.OpeningEnds.{front, SameFile, Unchanged, SparesFirst, KeepsFirst, TellsSecond, GivesSecond, read_calls, ready_calls, open_calls, begins_at, CanOpen, OpensAs}
use Rattle.mw_file.proofs.Grown.{grown_more, grown_touched}
use Rattle.mw_file.proofs.Parts.{same_all}
use Rattle.mw_file.proofs.Ready.{second_as}

-- the first n of n elements and more are those n
pub whole : {A : Type 0} (n : ℕ) (xs ys : List A) → length xs ≡ n → take n (xs ++ ys) ≡ xs
whole n xs ys long = take-append-le n xs ys (omega arith) ∙ take_all n xs (omega arith)

-- the same first bytes, if the limit is cut to the length of the list
take_min : (most : ℕ) (xs : List ℕ) → take (min (length xs) most) xs ≡ take most xs
take_min most xs = elim (cases_lt most (length xs)) [
  | inl longer ↦ let e : min (length xs) most ≡ most = omega arith in ap (λ n. take n xs) e
  | inr all ↦ take_all (min (length xs) most) xs (omega arith) ∙ sym (take_all most xs all)
]

-- the bytes that were read of an honest disk are those that can belong to a file
pub front_read : (f0 f1 : Facts) (len n : ℕ) (got : List ℕ) → len ≡ length f0.reads → n ≡ min len MAX_FILE → f1.reads ≡ f0.reads
    → (n ≤ length f1.reads → got ≡ take n f1.reads) → got ≡ front f0
front_read f0 f1 len n got is_len is_n same read =
    let bytes = f0.reads in
    let long = ap length same in
    let n_is : n ≡ min (length bytes) MAX_FILE = is_n ∙ ap (λ l. min l MAX_FILE) is_len in
    let first : got ≡ take n f1.reads = read (omega arith) in
    first ∙ ap (λ k. take k f1.reads) n_is ∙ ap (λ bs. take (min (length bytes) MAX_FILE) bs) same ∙ take_min MAX_FILE bytes

-- a run that wrote nothing spares the first layout
pub first_unwritten : (f0 f1 : Facts) → (IsTrue f0.honest → Touched Nowhere f0 f1) → SparesFirst f0 f1
first_unwritten f0 f1 quiet honest rest set = touched_wider Nowhere (λ k. second_at f0.reads ≤ k) f0 f1 (λ k z. absurd z) (quiet honest)

-- so does a run after it that writes to the second layout only, if the bytes that were read tell the same offset
pub first_spared : (f0 f1 f2 : Facts) (image : List ℕ) → (IsTrue f0.honest → Touched Nowhere f0 f1) → (IsTrue f0.honest → image ≡ take MAX_FILE f0.reads)
    → (IsTrue f0.honest → IsSynced f0 → is_switched image ≡ true → Touched (λ k. at_of image ≤ k) f1 f2) → SparesFirst f0 f2
first_spared f0 f1 f2 image quiet seen ran honest rest set =
    let is = seen honest in
    let there : is_switched image ≡ true = ap is_switched is ∙ is_switched_first f0.reads ∙ set in
    let begins : at_of image ≡ second_at f0.reads = ap at_of is ∙ at_of_first f0.reads ∙ second_begins f0.reads set in
    touched_trans (λ k. second_at f0.reads ≤ k) f0 f1 f2 (first_unwritten f0 f1 quiet honest rest set)
    (subst (λ (at : ℕ). Touched (λ k. at ≤ k) f1 f2) begins (ran honest rest there))

-- two runs, one after the other, that left the bytes untouched
pub untouched_trans : (a b c : Facts) → Later a b → IsUntouched a b → IsUntouched b c → IsUntouched a c
untouched_trans a b c later ab bc = record {
  same = λ honest. bc.same (still_honest a b later honest) ∙ ab.same honest;
  nothing_new = λ honest image left. ab.nothing_new honest image (bc.nothing_new (still_honest a b later honest) image left);
}

module _ (f0 f1 : Facts) (touched : Touched Nowhere f0 f1) (rest : IsSynced f0) where
  pub reads_stay : f1.reads ≡ f0.reads
  reads_stay = same_all f0.reads f1.reads touched.seen

  pub rest_stays : IsSynced f1
  rest_stays c left =
      let t = touched.each f1.moment c touched.later.later (omega arith) left in
      same_all t.0 c t.2 ∙ rest t.0 t.1 ∙ sym reads_stay

  -- if nothing was written the file is unchanged
  pub nothing_written : Unchanged f0 f1
  nothing_written = record {
    read = subst (SameFile f0.reads) (sym reads_stay) (record { words = refl; places = refl });
    left = leaves Nowhere f0 f1 rest touched (λ c same. subst (SameFile f0.reads) (sym (same_all f0.reads c same)) (record { words = refl; places = refl }));
  }

  -- if every moment of the next run leaves a file of the same words, the file is unchanged after both
  pub all_ready : (f2 : Facts) (places : ℕ) (contents : List ℕ) → IsFile places contents f1.reads → LeavesOnly f1 f2 (IsFile places contents) → IsFile places contents f2.reads → Unchanged f0 f2
  all_ready f2 places contents has moments read =
      let before : IsFile places contents f0.reads = subst (IsFile places contents) reads_stay has in
      let same : (c : List ℕ) → IsFile places contents c → SameFile f0.reads c = λ c now.
      record { words = now.words_are ∙ sym before.words_are; places = now.places_are ∙ sym before.places_are } in
      record {
        read = same f2.reads read;
        left = leaves_more f0 f1 f2 nothing_written.left (leaves_wider f1 f2 same moments);
      }

-- The bytes that can belong to a file, if they have no damage, tell what all of the disk's bytes tell.
module _ (f : Facts) (honest : IsTrue f.honest) (rest : IsSynced f) (undamaged : damage_of (take MAX_FILE f.reads) ≡ None) where
  none : damage_of f.reads ≡ None
  none = sym (damage_of_first f.reads) ∙ undamaged

  -- a file in its first layout
  module _ (unset : is_switched f.reads ≡ false) where
    grows : CanGrow f (take MAX_FILE f.reads) (words_in (take MAX_FILE f.reads))
    grows = record {
      honest = honest;
      rest = rest;
      has =
          subst (λ (ws : List ℕ). HasWords First (words_of (take MAX_FILE f.reads)) (found_places (take MAX_FILE f.reads)) ws f.reads) (sym (words_in_first f.reads none))
          (second_as (λ (k n p : ℕ). HasWords First n p (words_in f.reads) f.reads) 0 0 (words_of f.reads) (words_of (take MAX_FILE f.reads)) (found_places f.reads) (found_places (take MAX_FILE f.reads))
          refl (sym (words_of_first f.reads none)) (sym (found_places_first f.reads none))
          (subst (λ (b : Bool). RepresentsAs b (words_in f.reads) f.reads) unset (file_of f.reads none)));
      unswitched = unset;
    }

  -- a file with a second layout
  module _ (set : is_switched f.reads ≡ true) where
    front_set : is_switched (take MAX_FILE f.reads) ≡ true
    front_set = is_switched_first f.reads ∙ set

    front_has : HasSecond (at_of (take MAX_FILE f.reads)) (words_of (take MAX_FILE f.reads)) (found_places (take MAX_FILE f.reads)) (words_in (take MAX_FILE f.reads)) f.reads
    front_has =
        subst (λ (ws : List ℕ). HasSecond (at_of (take MAX_FILE f.reads)) (words_of (take MAX_FILE f.reads)) (found_places (take MAX_FILE f.reads)) ws f.reads) (sym (words_in_first f.reads none))
        (second_as (λ (k n p : ℕ). HasSecond k n p (words_in f.reads) f.reads) _ _ _ _ _ _
        (sym (at_of_first f.reads ∙ second_begins f.reads set)) (sym (words_of_first f.reads none)) (sym (found_places_first f.reads none))
        (subst (λ (b : Bool). RepresentsAs b (words_in f.reads) f.reads) set (file_of f.reads none)))

    front_records : (place : ℕ) → place < found_places (take MAX_FILE f.reads)
        → record_at Second (drop (at_of (take MAX_FILE f.reads)) f.reads) (words_of (take MAX_FILE f.reads)) place ≡ records_of (take MAX_FILE f.reads) place
    front_records place lt =
        let i : List ℕ = take MAX_FILE f.reads in
        let at : ℕ = at_of i in
        let words : ℕ = words_of i in
        let places : ℕ = found_places i in
        let low : at ≤ MAX_FIRST = (begins_within at front_has.head.fits).1 in
        let sizes = sizes_are Second (drop at f.reads) front_has.part.head.sizes in
        let w = front_has.part.head.words_are in
        let p = front_has.part.head.places_are in
        let fits = size_fits Second words places (omega (arith, sizes.words_fit, w)) (omega (arith, sizes.places_fit, p)) in
        let there = place_within Second words places place lt in
        sym (record_same Second (drop at i) (drop at f.reads) words place
        (λ k l.
        get_or-drop at i (place_at Second words place + k) 0
        ∙ get_or-take MAX_FILE f.reads (at + (place_at Second words place + k)) 0 (omega (arith, low, fits, there, l))
        ∙ sym (get_or-drop at f.reads (place_at Second words place + k) 0))
        (λ ps is. few_entries Second words ps (front_has.part.stands.formed place ps lt is)))
        ∙ ap (λ (l : Layout). record_at l (drop at i) words place) (sym (second_layout i front_set))

    finishes : CanFinish f (take MAX_FILE f.reads) (words_in (take MAX_FILE f.reads))
    finishes = record { honest = honest; rest = rest; has = front_has; same = front_records }

  front_opens : CanOpen f (take MAX_FILE f.reads) (words_in (take MAX_FILE f.reads))
  front_opens = elim (cases_Bool (is_switched f.reads)) [
    | inl set ↦ subst (λ (b : Bool). OpensAs b f (take MAX_FILE f.reads) (words_in (take MAX_FILE f.reads))) (sym (is_switched_first f.reads ∙ set)) (finishes set)
    | inr unset ↦ subst (λ (b : Bool). OpensAs b f (take MAX_FILE f.reads) (words_in (take MAX_FILE f.reads))) (sym (is_switched_first f.reads ∙ unset)) (grows unset)
  ]

pub can_open : (f : Facts) (image : List ℕ) → IsTrue f.honest → IsSynced f → image ≡ take MAX_FILE f.reads → damage_of image ≡ None → CanOpen f image (words_in image)
can_open f image honest rest is undamaged =
    subst (λ (i : List ℕ). CanOpen f i (words_in i)) (sym is) (front_opens f honest rest (sym (ap damage_of is) ∙ undamaged))

-- the words and the damage of the bytes that were read are those of all bytes
pub whole_words : (b image : List ℕ) → image ≡ take MAX_FILE b → damage_of image ≡ None → file_words b ≡ Some (words_in image)
whole_words b image is undamaged =
    sym (file_words_first b) ∙ sym (ap file_words is)
    ∙ ap (λ d. if is_none d then Some (words_in image) else None) undamaged

pub whole_damage : (b image : List ℕ) (damage : Damage) → image ≡ take MAX_FILE b → damage_of image ≡ Some damage → damage_of b ≡ Some damage
whole_damage b image damage is found =
    sym (damage_of_first b) ∙ sym (ap damage_of is) ∙ found

-- how many device calls an opening makes, by the bytes that were read
pub calls_sound : (image : List ℕ) (n : ℕ) → length image ≡ n → damage_of image ≡ None → (1 + min 1 n) + ready_calls image ≡ open_calls image
calls_sound image n long none =
    ap (λ k. (1 + min 1 k) + ready_calls image) (sym long)
    ∙ ap (λ d. read_calls image + (if is_none d then ready_calls image else 0)) (sym none)

pub calls_damaged : (image : List ℕ) (damage : Damage) (n : ℕ) → length image ≡ n → damage_of image ≡ Some damage → 1 + min 1 n ≡ open_calls image
calls_damaged image damage n long some =
    let e : read_calls image ≡ read_calls image + 0 = omega arith in
    ap (λ k. 1 + min 1 k) (sym long) ∙ e ∙ ap (λ d. read_calls image + (if is_none d then ready_calls image else 0)) (sym some)

-- how many device calls are made at most before the bytes were read
pub calls_before : (f : Facts) (len n : ℕ) → len ≡ length f.reads → n ≡ min len MAX_FILE → 1 + min 1 n ≤ open_calls (front f)
calls_before f len n is_len is_n =
    let long : length (front f) ≡ n = length-take MAX_FILE f.reads ∙ omega (arith, is_len, is_n) in
    let e : read_calls (front f) ≡ 1 + min 1 n = ap (λ k. 1 + min 1 k) long in
    omega (arith, e)

-- the bytes that can belong to a file tell where the second layout begins
begins_at_first : (b : List ℕ) → damage_of b ≡ None → begins_at (take MAX_FILE b) ≡ begins_at b
begins_at_first b none =
    let cut : List ℕ = take MAX_FILE b in
    ap (λ s. if s then at_of cut else size First (words_of cut) (found_places cut)) (is_switched_first b)
    ∙ ap (λ n. if is_switched b then n else size First (words_of cut) (found_places cut)) (at_of_first b)
    ∙ ap (λ n. if is_switched b then at_of b else size First n (found_places cut)) (words_of_first b none)
    ∙ ap (λ n. if is_switched b then at_of b else size First (words_of b) n) (found_places_first b none)

-- a run that wrote nothing keeps the first layout
pub first_kept_unwritten : (f0 f1 : Facts) → (IsTrue f0.honest → Touched Nowhere f0 f1) → KeepsFirst f0 f1
first_kept_unwritten f0 f1 quiet honest rest unset =
    grown_touched InSwitch (begins_at f0.reads) f0 f1 (touched_wider Nowhere InSwitch f0 f1 (λ k z. absurd z) (quiet honest))

-- two runs, the first of which wrote nothing, if the bytes that were read tell the same of the file
module _ (f0 f1 f2 : Facts) (image : List ℕ) (quiet : IsTrue f0.honest → Touched Nowhere f0 f1) (seen : IsTrue f0.honest → image ≡ take MAX_FILE f0.reads)
    (undamaged : damage_of image ≡ None) where
  none_whole : IsTrue f0.honest → damage_of f0.reads ≡ None
  none_whole honest = sym (damage_of_first f0.reads) ∙ sym (ap damage_of (seen honest)) ∙ undamaged

  begins_whole : IsTrue f0.honest → begins_at image ≡ begins_at f0.reads
  begins_whole honest = ap begins_at (seen honest) ∙ begins_at_first f0.reads (none_whole honest)

  unset_read : IsTrue f0.honest → is_switched f0.reads ≡ false → is_switched image ≡ false
  unset_read honest unset = ap is_switched (seen honest) ∙ is_switched_first f0.reads ∙ unset

  pub first_kept_on : (IsTrue f0.honest → IsSynced f0 → is_switched image ≡ false → Grown InSwitch (begins_at image) f1 f2) → KeepsFirst f0 f2
  first_kept_on ran honest rest unset =
      grown_more InSwitch (begins_at f0.reads) f0 f1 f2 (first_kept_unwritten f0 f1 quiet honest rest unset)
      (subst (λ (n : ℕ). Grown InSwitch n f1 f2) (begins_whole honest) (ran honest rest (unset_read honest unset)))

  pub second_told : (IsTrue f0.honest → IsSynced f0 → IsSwitched (begins_at image) f2.reads) → TellsSecond f0 f2
  second_told ran honest rest = subst (λ (n : ℕ). IsSwitched n f2.reads) (begins_whole honest) (ran honest rest)

  pub second_given : (IsTrue f0.honest → IsSynced f0 → is_switched image ≡ false
      → f2.reads ≡ given_second (begins_at image) (second_part (places_of image) (words_in image)) f1.reads) → GivesSecond f0 f2
  second_given ran honest rest unset =
      let none = none_whole honest in
      ran honest rest (unset_read honest unset)
      ∙ ap (λ bs. given_second (begins_at image) (second_part (places_of image) (words_in image)) bs) (reads_stay f0 f1 (quiet honest) rest)
      ∙ ap (λ k. given_second k (second_part (places_of image) (words_in image)) f0.reads) (begins_whole honest)
      ∙ ap (λ n. given_second (begins_at f0.reads) (second_part n (words_in image)) f0.reads) (ap places_of (seen honest) ∙ places_of_first f0.reads none)
      ∙ ap (λ ws. given_second (begins_at f0.reads) (second_part (places_of f0.reads) ws) f0.reads) (ap words_in (seen honest) ∙ words_in_first f0.reads none)
