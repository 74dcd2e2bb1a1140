-- The tests for damage may use the sizes that were read from a layout's head. Used by: Undamaged.
use Rattle.std.proofs.Common.{◌≡◌, ℕ, ◌&&◌, nat_le, List, length, ap, ◌∙◌}
use Rattle.mw_record.specs.declared.layout.Layout.{Layout}
use Rattle.mw_record.specs.Layout.{size}
use Rattle.mw_record.specs.Records.{record_at, are_formed, are_apart, records_fit, homes_fit, home, all_over}
use Rattle.mw_record.specs.LayoutBytes.{words_told, places_told, has_all_bytes, has_formed_records, has_records_apart, has_small_values, told_at}

module _ (layout : Layout) (part : List ℕ) (words places : ℕ) (is : words ≡ words_told part) (are : places ≡ places_told part) where
  both : {X : Type 0} (F : ℕ → ℕ → X) → F words places ≡ F (words_told part) (places_told part)
  both F = ap (λ w. F w places) is ∙ ap (F (words_told part)) are

  pub all_bytes : nat_le (size layout words places) (length part) ≡ has_all_bytes layout part
  all_bytes = both (λ w p. nat_le (size layout w p) (length part))

  pub formed : are_formed layout words (record_at layout part words) places ≡ has_formed_records layout part
  formed = both (λ w p. are_formed layout w (record_at layout part w) p)

  pub apart : are_apart (record_at layout part words) places ≡ has_records_apart layout part
  apart = both (λ w p. are_apart (record_at layout part w) p)

  pub small : (records_fit (record_at layout part words) places && homes_fit (home part) (record_at layout part words) places words) ≡ has_small_values layout part
  small = both (λ w p. records_fit (record_at layout part w) p && homes_fit (home part) (record_at layout part w) p w)

  pub word : (addr : ℕ) → all_over (record_at layout part words) places addr (home part addr) ≡ told_at layout part addr
  unfolding told_at
  word addr = both (λ w p. all_over (record_at layout part w) p addr (home part addr))
