-- Two starts of one book after the same stop, with the same torn bytes, find the same words and take the same change.
-- Used by: restarts_have_one_end.
use Rattle.std.proofs.Common.{◌≡◌, ℕ, Bool, List, Option, Some, None, Ok, Err, refl, sym, ap, ◌∙◌, inl, inr}
use Rattle.std.proofs.lemmas.Bool.{false≢true}
use Rattle.mw_record.specs.Damages.{file_words}
use Rattle.mw_file.specs.OpeningEnds.{open_calls}
use Rattle.mw_world_file.specs.declared.simulated_file.SimulatedFile.{SimulatedFile}
use Rattle.mw_world_file.specs.declared.cut.Cut.{Cut}
use Rattle.mw_world_file.specs.declared.faults.BookFault.TheVariants.{NotEnabled}
use Rattle.mw_world_file.specs.Books.{Represents, quota_of}
use Rattle.mw_world_file.specs.DeviceCalls.{cut_list}
use Rattle.mw_world_file.specs.Devices.{disk_under}
use Rattle.mw_world.specs.Files.State.{File}
use Rattle.mw_world_file.specs.Recovery.{Restarts, doubt_left, made_of}
use Rattle.mw_world.specs.Files.Restarts.{takes, may_fail, opened_file}
use Rattle.mw_world_file.proofs.ExactDisks.{one_image}

some_same : (x y : List ℕ) → Some x ≡ Some y → x ≡ y
some_same x y is = ap (λ (o : Option (List ℕ)). words_or x o) is where
  words_or : List ℕ → Option (List ℕ) → List ℕ
  words_or d None = d
  words_or d (Some w) = w

-- one image has one list of words
one_words : (image other : List ℕ) (words also : List ℕ) → image ≡ other → file_words image ≡ Some words → file_words other ≡ Some also → words ≡ also
one_words image other words also is has had = some_same words also (sym has ∙ (ap file_words is ∙ had))

opened_contents : (words : List ℕ) (fails_at : Option ℕ) → (opened_file words fails_at).contents ≡ words
opened_contents words None = refl
opened_contents words (Some number) = refl

pub same_end : (old : SimulatedFile) (file : File) (cut : Option Cut) (torn : List ℕ) (fails_at : Option ℕ) (quota : ℕ) (one other : SimulatedFile) (took also : Bool) → Represents old file
    → Restarts old cut torn fails_at quota (Ok (one, took)) → Restarts old cut torn fails_at quota (Ok (other, also)) → (one.contents.items ≡ other.contents.items) × (took ≡ also)
same_end old file cut torn fails_at quota one other took also shows this that =
    let a = this file shows in
    let b = that file shows in
    let image = one_image (disk_under old.device) (made_of cut) (cut_list old cut) torn a.image b.image a.left.exact b.left.exact in
    let words = one_words a.image b.image a.words b.words image a.left.has b.left.has in
    let left = sym a.shows.same_contents ∙ opened_contents a.words fails_at in
    let right = sym b.shows.same_contents ∙ opened_contents b.words fails_at in (
      left ∙ (words ∙ sym right),
      a.taken ∙ (ap (λ (ws : List ℕ). takes file.contents (doubt_left file (quota_of old) cut) ws) words ∙ sym b.taken),
    )

pub never_refused : (old : SimulatedFile) (file : File) (cut : Option Cut) (torn : List ℕ) (fails_at : Option ℕ) (quota : ℕ) (one : SimulatedFile) (took : Bool) → Represents old file
    → Restarts old cut torn fails_at quota (Ok (one, took)) → Restarts old cut torn fails_at quota (Err NotEnabled) → ⊥
never_refused old file cut torn fails_at quota one took shows this that =
    let a = this file shows in
    elim (that file shows) [
      | inl fewer ↦ false≢true (sym fewer ∙ a.left.made)
      | inr cannot ↦
          let image = one_image (disk_under old.device) (made_of cut) (cut_list old cut) torn a.image cannot.image a.left.exact cannot.left.exact in
          false≢true (sym cannot.fails ∙ (sym (ap (λ (l : List ℕ). may_fail (open_calls l) fails_at) image) ∙ a.fails))
    ]
