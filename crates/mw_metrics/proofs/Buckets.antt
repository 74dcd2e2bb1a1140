-- The buckets of a histogram one at a time: the line of the next one, and how many durations are in those before it.
-- Used by: put_buckets, put_histogram.
use Rattle.std.proofs.Common.{◌≡◌, ℕ, ◌+◌, ◌-◌, ◌^◌, ◌<◌, ◌≤◌, List, [], ◌∷◌, ◌++◌, length, get_or, take, drop, min, sum, decimal, codes, refl, ap, sym, ◌∙◌, arith, append_assoc, append-nil}
use Rattle.std.proofs.lemmas.List.{drop_more}
use Rattle.std.proofs.lemmas.List.Sums.{sum_by_more}
use Rattle.std.proofs.Math.ListN.{drop_of_length-le}
use Rattle.mw_metrics.specs.declared.families.Family.{Family}
use Rattle.mw_metrics.specs.declared.histogram.HistogramFigures.{HistogramFigures}
use Rattle.mw_metrics.specs.declared.histogram.TheConstants.{BOUNDS}
use Rattle.mw_metrics.specs.Exposition.{Label, label, sample, seconds}
use Rattle.mw_metrics.specs.Names.{family_name}
use Rattle.mw_metrics.specs.Figures.{before, bucket_lines, histogram}

-- the lines that are left begin with that of the next bucket
pub lines_more : (family : Family) (a b : Label) (counts bounds : List ℕ) (k : ℕ) → k < length bounds →
    bucket_lines family a b counts k (drop k bounds)
    ≡ sample (family_name family ++ codes "_bucket") (a ∷ b ∷ label (codes "le") (seconds (get_or bounds k 0)) ∷ []) (decimal (before counts (k + 1)))
    ++ bucket_lines family a b counts (k + 1) (drop (k + 1) bounds)
unfolding bucket_lines
lines_more family a b counts bounds k h = ap (bucket_lines family a b counts k) (drop_more bounds k 0 h)

-- no lines are left after the last
pub lines_end : (family : Family) (a b : Label) (counts bounds : List ℕ) (k : ℕ) → length bounds ≤ k →
    bucket_lines family a b counts k (drop k bounds) ≡ []
unfolding bucket_lines
lines_end family a b counts bounds k h = ap (bucket_lines family a b counts k) (drop_of_length-le bounds h)

-- one bucket more
pub before_more : (counts : List ℕ) (k : ℕ) → k < length counts → before counts (k + 1) ≡ min (before counts k + get_or counts k 0) (2 ^ 64 - 1)
unfolding before
before_more counts k h = let e : sum (take (k + 1) counts) ≡ sum (take k counts) + get_or counts k 0 = sum_by_more (λ x. x) counts k 0 h in omega arith

-- no bucket is before the first
pub before_none : (counts : List ℕ) → before counts 0 ≡ 0
unfolding before
before_none counts = refl

-- a bucket's line
abbrev pub bucket_line : Family → Label → Label → List ℕ → ℕ → List ℕ
bucket_line family a b bound count = sample (family_name family ++ codes "_bucket") (a ∷ b ∷ label (codes "le") bound ∷ []) (decimal count)

-- a turn puts the next line, and the lines that are left are those after it
pub lines_step : (family : Family) (a b : Label) (counts bounds : List ℕ) (k : ℕ) (text start next bound : List ℕ) (count : ℕ) → k < length bounds →
    text ++ bucket_lines family a b counts k (drop k bounds) ≡ start → bound ≡ seconds (get_or bounds k 0) → count ≡ before counts (k + 1) →
    next ≡ text ++ bucket_line family a b bound count →
    next ++ bucket_lines family a b counts (k + 1) (drop (k + 1) bounds) ≡ start
lines_step family a b counts bounds k text start next bound count h now e f put =
    let rest = bucket_lines family a b counts (k + 1) (drop (k + 1) bounds) in
    let line : bucket_line family a b bound count ≡ bucket_line family a b (seconds (get_or bounds k 0)) (before counts (k + 1))
    = ap (λ (v : List ℕ). bucket_line family a b v count) e ∙ ap (λ (n : ℕ). bucket_line family a b (seconds (get_or bounds k 0)) n) f in
    ap (λ (t : List ℕ). t ++ rest) put
    ∙ append_assoc text (bucket_line family a b bound count) rest
    ∙ ap (λ (s : List ℕ). text ++ (s ++ rest)) line
    ∙ ap (λ (s : List ℕ). text ++ s) (sym (lines_more family a b counts bounds k h))
    ∙ now

-- at the end all lines are put
pub lines_all : (family : Family) (a b : Label) (counts bounds : List ℕ) (k : ℕ) (text start : List ℕ) → length bounds ≤ k →
    text ++ bucket_lines family a b counts k (drop k bounds) ≡ start → text ≡ start
lines_all family a b counts bounds k text start h now =
    sym (append-nil text) ∙ ap (λ (s : List ℕ). text ++ s) (sym (lines_end family a b counts bounds k h)) ∙ now

-- what is put for a histogram is its lines: its buckets, the bucket of all durations, and the totals
pub histogram_put : (family : Family) (a b : Label) (h : HistogramFigures) (text buckets more done : List ℕ) (all : ℕ) →
    buckets ≡ text ++ bucket_lines family a b h.counts 0 BOUNDS → all ≡ before h.counts 13 →
    more ≡ buckets ++ bucket_line family a b (codes "+Inf") all →
    done ≡ more ++ sample (family_name family ++ codes "_sum") (a ∷ b ∷ []) (seconds h.sum_nanos) ++ sample (family_name family ++ codes "_count") (a ∷ b ∷ []) (decimal all) →
    done ≡ text ++ histogram family a b h
unfolding histogram
histogram_put family a b h text buckets more done all put same one totals =
    let lines = bucket_lines family a b h.counts 0 BOUNDS in
    let last = λ (n : ℕ). bucket_line family a b (codes "+Inf") n in
    let total = sample (family_name family ++ codes "_sum") (a ∷ b ∷ []) (seconds h.sum_nanos) in
    let count = λ (n : ℕ). sample (family_name family ++ codes "_count") (a ∷ b ∷ []) (decimal n) in
    totals
    ∙ ap (λ (t : List ℕ). t ++ total ++ count all) (one ∙ ap (λ (t : List ℕ). t ++ last all) put ∙ append_assoc text lines (last all))
    ∙ ap (λ (t : List ℕ). t ++ count all) (append_assoc text (lines ++ last all) total)
    ∙ append_assoc text (lines ++ last all ++ total) (count all)
    ∙ ap (λ (n : ℕ). text ++ (lines ++ last n ++ total ++ count n)) same

pub ruleset buckets = (lines_more, lines_end, before_more, before_none)
