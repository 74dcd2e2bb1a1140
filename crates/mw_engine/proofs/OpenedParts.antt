-- Each line of the tenants file, with its opened file, gives an opening and a book, which agree.
-- Used by: `opened`, EngineParts::new.
use Rattle.std.specs.Prelude.{◌≡◌, ◌≤◌, ◌<◌, ◌+◌, ℕ, zero, suc, not, is_some, List, [], ◌∷◌, ◌++◌, drop, length, map, replicate, slice_get, Option, Some, None, Vec}
use Rattle.std.specs.declared.alloc.Global.{Global}
use Rattle.std.proofs.Common.{refl, sym, ap, subst, ◌∙◌, arith, add-one, append_assoc, get_or, inl, inr}
use Rattle.std.proofs.Math.Seq.{drop-cons}
use Rattle.std.proofs.lemmas.Bool.{cases_lt}
use Rattle.std.proofs.lemmas.List.{drop_all}
use Rattle.mw_words.specs.declared.limits.TheConstants.{MAX_PLACES}
use Rattle.mw_disk.specs.Facts.{Facts}
use Rattle.mw_file.specs.declared.tenant_file.TenantFile.{TenantFile}
use Rattle.mw_config.specs.declared.lines.TenantLine.{TenantLine}
use Rattle.mw_world.specs.Definition.State.{TenantStart}
use Rattle.mw_book.specs.declared.book.Book.{Book}
use Rattle.mw_core.specs.FromTable.{FileOpening, opening_at, opening_given, openings_given, file_token_opened}
use Rattle.mw_core.specs.Books.{Agrees}
use Rattle.mw_core.proofs.Agreement.{opened_books_agree, unopened_books_agree}
use Rattle.mw_engine.specs.LinesOfWorld.{places_told}
use Rattle.mw_engine.specs.OpenedFiles.{AreMadeOf, FitLines, FitsLine, HaveFewPlaces, IsMadeOf, book_file, held_read, opening_of, opening_read, openings_read, places_found, tenant_read}

module _ {D : Type 0} (facts : D → Facts) where
  -- the next line and file, and those that are left after them
  pub record Next (lines : List TenantLine) (n : ℕ) (line : TenantLine) (file : Option (TenantFile D × Vec ℕ Global)) (rest : List (Option (TenantFile D × Vec ℕ Global))) : Type 0 where
    pub there : n < length lines
    pub lines_left : drop n lines ≡ line ∷ drop (n + 1) lines
    pub fits : FitsLine facts line file
    pub fit : FitLines facts (drop (n + 1) lines) rest

  pub next_of : (lines : List TenantLine) (n : ℕ) (line : TenantLine) (left : List (Option (TenantFile D × Vec ℕ Global))) (file : Option (TenantFile D × Vec ℕ Global)) (rest : List (Option (TenantFile D × Vec ℕ Global)))
      → line ≡ get_or lines n line → left ≡ file ∷ rest → FitLines facts (drop n lines) left → Next lines n line file rest
  next_of lines n line left file rest here next fit = elim (cases_lt n (length lines)) [
    | inl lt ↦
        let lines_left : drop n lines ≡ line ∷ drop (n + 1) lines =
        drop-cons lines n line lt ∙ ap (λ l. l ∷ drop (suc n) lines) (sym here) ∙ ap (λ m. line ∷ drop m lines) (sym (add-one n)) in
        let fits : FitLines facts (line ∷ drop (n + 1) lines) (file ∷ rest) = subst (λ ls. FitLines facts ls (file ∷ rest)) lines_left (subst (FitLines facts (drop n lines)) next fit) in
        record { there = lt; lines_left = lines_left; fits = fits.0; fit = fits.1 }
    | inr past ↦ absurd (subst (λ ls. FitLines facts ls (file ∷ rest)) (drop_all n lines past) (subst (FitLines facts (drop n lines)) next fit))
  ]

  -- a file is left, so its line is too
  pub line_left : (lines : List TenantLine) (n : ℕ) (left : List (Option (TenantFile D × Vec ℕ Global))) (file : Option (TenantFile D × Vec ℕ Global)) (rest : List (Option (TenantFile D × Vec ℕ Global)))
      → left ≡ file ∷ rest → FitLines facts (drop n lines) left → n < length lines
  line_left lines n left file rest next fit = elim (cases_lt n (length lines)) [
    | inl lt ↦ lt
    | inr past ↦ absurd (subst (λ ls. FitLines facts ls (file ∷ rest)) (drop_all n lines past) (subst (FitLines facts (drop n lines)) next fit))
  ]

  -- one more tenant's file is opened
  pub made_more : (lines : List TenantLine) (files left rest : List (Option (TenantFile D × Vec ℕ Global))) (openings openings_then : List FileOpening) (books books_then : List (Book D)) (n : ℕ) (line : TenantLine)
      (file : Option (TenantFile D × Vec ℕ Global)) (opening : FileOpening) (book : Book D) → Next lines n line file rest → left ≡ file ∷ rest → IsMadeOf facts line file opening book
      → openings_then ≡ openings ++ opening ∷ [] → books_then ≡ books ++ book ∷ []
      → ((os : List FileOpening) (bs : List (Book D)) → AreMadeOf facts (drop n lines) left os bs → AreMadeOf facts lines files (openings ++ os) (books ++ bs))
      → (os : List FileOpening) (bs : List (Book D)) → AreMadeOf facts (drop (n + 1) lines) rest os bs → AreMadeOf facts lines files (openings_then ++ os) (books_then ++ bs)
  made_more lines files left rest openings openings_then books books_then n line file opening book next is made pushed also so_far os bs others =
      subst (λ all. AreMadeOf facts lines files (all ++ os) (books_then ++ bs)) (sym pushed)
      (subst (λ all. AreMadeOf facts lines files ((openings ++ opening ∷ []) ++ os) (all ++ bs)) (sym also)
      (subst (λ all. AreMadeOf facts lines files all ((books ++ book ∷ []) ++ bs)) (sym (append_assoc openings (opening ∷ []) os))
      (subst (λ all. AreMadeOf facts lines files (openings ++ opening ∷ os) all) (sym (append_assoc books (book ∷ []) bs))
      (so_far (opening ∷ os) (book ∷ bs)
      (subst (λ ls. AreMadeOf facts ls left (opening ∷ os) (book ∷ bs)) (sym next.lines_left)
      (subst (λ fs. AreMadeOf facts (line ∷ drop (n + 1) lines) fs (opening ∷ os) (book ∷ bs)) (sym is) (made, others)))))))

  -- nothing is left
  pub made_all : (lines : List TenantLine) (files left : List (Option (TenantFile D × Vec ℕ Global))) (openings : List FileOpening) (books : List (Book D)) (n : ℕ) → left ≡ [] → FitLines facts (drop n lines) left
      → ((os : List FileOpening) (bs : List (Book D)) → AreMadeOf facts (drop n lines) left os bs → AreMadeOf facts lines files (openings ++ os) (books ++ bs))
      → AreMadeOf facts lines files (openings ++ []) (books ++ [])
  made_all lines files left openings books n none fit made = made [] [] (none_left (drop n lines) left none fit)
    where
      none_left : (ls : List TenantLine) (fs : List (Option (TenantFile D × Vec ℕ Global))) → fs ≡ [] → FitLines facts ls fs → AreMadeOf facts ls fs [] []
      none_left [] [] none fit = tt
      none_left [] (f ∷ fs) none fit = absurd fit
      none_left (l ∷ ls) [] none fit = absurd fit
      none_left (l ∷ ls) (f ∷ fs) none fit = absurd (cc)

  -- there is an opening and a book for each line
  pub made_counts : (lines : List TenantLine) (files : List (Option (TenantFile D × Vec ℕ Global))) (openings : List FileOpening) (books : List (Book D)) → AreMadeOf facts lines files openings books
      → (length openings ≡ length lines) × (length books ≡ length lines)
  made_counts [] [] [] [] made = (refl, refl)
  made_counts (line ∷ lines) (file ∷ files) (opening ∷ openings) (book ∷ books) made = let rest = made_counts lines files openings books made.1 in (ap suc rest.0, ap suc rest.1)
  made_counts [] [] [] (book ∷ books) made = absurd made
  made_counts [] [] (opening ∷ openings) books made = absurd made
  made_counts [] (file ∷ files) openings books made = absurd made
  made_counts (line ∷ lines) [] openings books made = absurd made
  made_counts (line ∷ lines) (file ∷ files) [] books made = absurd made
  made_counts (line ∷ lines) (file ∷ files) (opening ∷ openings) [] made = absurd made

  -- each book holds its line's file
  pub files_are : (lines : List TenantLine) (files : List (Option (TenantFile D × Vec ℕ Global))) (openings : List FileOpening) (books : List (Book D)) → AreMadeOf facts lines files openings books
      → map book_file books ≡ map held_read files
  files_are [] [] [] [] made = refl
  files_are (line ∷ lines) (file ∷ files) (opening ∷ openings) (book ∷ books) made = λ i. made.0.held i ∷ files_are lines files openings books made.1 i
  files_are [] [] [] (book ∷ books) made = absurd made
  files_are [] [] (opening ∷ openings) books made = absurd made
  files_are [] (file ∷ files) openings books made = absurd made
  files_are (line ∷ lines) [] openings books made = absurd made
  files_are (line ∷ lines) (file ∷ files) [] books made = absurd made
  files_are (line ∷ lines) (file ∷ files) (opening ∷ openings) [] made = absurd made

  -- the places that are told of a file are as many as the start gave
  place_one : (line : TenantLine) (file : Option (TenantFile D × Vec ℕ Global)) → places_found (opening_of line file) ≡ places_told (opening_read line file)
  place_one line None = refl
  place_one line (Some opened) = refl

  pub places_all : (lines : List TenantLine) (files : List (Option (TenantFile D × Vec ℕ Global))) (openings : List FileOpening) (books : List (Book D)) → AreMadeOf facts lines files openings books
      → map places_found openings ≡ map places_told (openings_read lines files)
  places_all [] [] [] [] made = refl
  places_all (line ∷ lines) (file ∷ files) (opening ∷ openings) (book ∷ books) made =
      let first : places_found opening ≡ places_told (opening_read line file) = ap places_found made.0.opening_is ∙ place_one line file in
      let rest = places_all lines files openings books made.1 in
      λ i. first i ∷ rest i
  places_all [] [] [] (book ∷ books) made = absurd made
  places_all [] [] (opening ∷ openings) books made = absurd made
  places_all [] (file ∷ files) openings books made = absurd made
  places_all (line ∷ lines) [] openings books made = absurd made
  places_all (line ∷ lines) (file ∷ files) [] books made = absurd made
  places_all (line ∷ lines) (file ∷ files) (opening ∷ openings) [] made = absurd made

  -- no file has more than `MAX_PLACES` places
  few_of : (line : TenantLine) (file : Option (TenantFile D × Vec ℕ Global)) → places_found (opening_of line file) ≤ MAX_PLACES
  few_of line None = omega arith
  few_of line (Some opened) = opened.0.few

  few_in : (lines : List TenantLine) (files : List (Option (TenantFile D × Vec ℕ Global))) (openings : List FileOpening) (books : List (Book D)) → AreMadeOf facts lines files openings books
      → (index : ℕ) (other : FileOpening) → index < length openings → places_found (get_or openings index other) ≤ MAX_PLACES
  few_in [] [] [] [] made index other low = absurd (omega (arith, low))
  few_in (line ∷ lines) (file ∷ files) (opening ∷ openings) (book ∷ books) made zero other low = subst (λ (one : FileOpening). places_found one ≤ MAX_PLACES) (sym made.0.opening_is) (few_of line file)
  few_in (line ∷ lines) (file ∷ files) (opening ∷ openings) (book ∷ books) made (suc index) other low = few_in lines files openings books made.1 index other (omega (arith, low))
  few_in [] [] [] (book ∷ books) made index other low = absurd made
  few_in [] [] (opening ∷ openings) books made index other low = absurd made
  few_in [] (file ∷ files) openings books made index other low = absurd made
  few_in (line ∷ lines) [] openings books made index other low = absurd made
  few_in (line ∷ lines) (file ∷ files) [] books made index other low = absurd made
  few_in (line ∷ lines) (file ∷ files) (opening ∷ openings) [] made index other low = absurd made

  pub few_all : (lines : List TenantLine) (files : List (Option (TenantFile D × Vec ℕ Global))) (openings : List FileOpening) (books : List (Book D)) → AreMadeOf facts lines files openings books
      → HaveFewPlaces openings
  few_all lines files openings books made = λ index other low. few_in lines files openings books made index other low

  -- what the table takes of the files is what the start gives
  given_one : (line : TenantLine) (file : Option (TenantFile D × Vec ℕ Global)) → opening_given (tenant_read line) (opening_of line file) ≡ opening_read line file
  given_one line None = refl
  given_one line (Some opened) = refl

  pub given_all : (lines : List TenantLine) (files : List (Option (TenantFile D × Vec ℕ Global))) (openings : List FileOpening) (books : List (Book D)) → AreMadeOf facts lines files openings books
      → openings_given (map tenant_read lines) openings ≡ openings_read lines files
  given_all [] [] [] [] made = refl
  given_all (line ∷ lines) (file ∷ files) (opening ∷ openings) (book ∷ books) made =
      let first : opening_given (tenant_read line) opening ≡ opening_read line file = ap (opening_given (tenant_read line)) made.0.opening_is ∙ given_one line file in
      let rest = given_all lines files openings books made.1 in
      λ i. first i ∷ rest i
  given_all [] [] [] (book ∷ books) made = absurd made
  given_all [] [] (opening ∷ openings) books made = absurd made
  given_all [] (file ∷ files) openings books made = absurd made
  given_all (line ∷ lines) [] openings books made = absurd made
  given_all (line ∷ lines) (file ∷ files) [] books made = absurd made
  given_all (line ∷ lines) (file ∷ files) (opening ∷ openings) [] made = absurd made

  -- a tenant's book agrees with the file token that the start gives, and holds a file if the tenant's opened
  abbrev pub AgreesWith : TenantStart → Book D → ℕ → ℕ → Type 0
  AgreesWith given book tenant slots = Agrees facts book (file_token_opened tenant given.quota slots given.words (not given.is_up)) given.quota slots × (is_some book.held ≡ given.is_up)

  agrees_one : (line : TenantLine) (file : Option (TenantFile D × Vec ℕ Global)) (opening : FileOpening) (book : Book D) (tenant slots : ℕ) → IsMadeOf facts line file opening book
      → AgreesWith (opening_read line file) book tenant slots
  agrees_one line None opening book tenant slots made = (unopened_books_agree facts book (replicate line.words 0) tenant line.quota slots made.shows made.places, ap is_some made.held)
  agrees_one line (Some opened) opening book tenant slots made = (opened_books_agree facts book opened.1.items tenant line.quota slots made.shows made.places, ap is_some made.held)

  same_book : (one other : Book D) → Some one ≡ Some other → one ≡ other
  same_book one other is = cc

  pub agrees_at : (lines : List TenantLine) (files : List (Option (TenantFile D × Vec ℕ Global))) (openings : List FileOpening) (books : List (Book D)) (index tenant slots : ℕ) (book : Book D)
      → AreMadeOf facts lines files openings books → slice_get books index ≡ Some book → AgreesWith (opening_at (openings_read lines files) index) book tenant slots
  agrees_at [] [] [] [] index tenant slots book made is = absurd (cc)
  agrees_at (line ∷ lines) (file ∷ files) (opening ∷ openings) (one ∷ books) zero tenant slots book made is =
      subst (λ (b : Book D). AgreesWith (opening_read line file) b tenant slots) (same_book one book is) (agrees_one line file opening one tenant slots made.0)
  agrees_at (line ∷ lines) (file ∷ files) (opening ∷ openings) (one ∷ books) (suc index) tenant slots book made is = agrees_at lines files openings books index tenant slots book made.1 is
  agrees_at [] [] [] (one ∷ books) index tenant slots book made is = absurd made
  agrees_at [] [] (opening ∷ openings) books index tenant slots book made is = absurd made
  agrees_at [] (file ∷ files) openings books index tenant slots book made is = absurd made
  agrees_at (line ∷ lines) [] openings books index tenant slots book made is = absurd made
  agrees_at (line ∷ lines) (file ∷ files) [] books index tenant slots book made is = absurd made
  agrees_at (line ∷ lines) (file ∷ files) (opening ∷ openings) [] index tenant slots book made is = absurd made
