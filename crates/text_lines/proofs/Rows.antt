-- The cells of a line, as a part of the sheet.
use Rattle.std.proofs.Common.{◌≡◌, ℕ, zero, suc, ◌+◌, ◌-◌, ◌*◌, ◌<◌, List, [], ◌∷◌, ◌++◌, length, get_or, take, drop, arith, ap, subst, refl, ◌∙◌, length-take-le, length-drop}
use Rattle.std.proofs.lemmas.List.{get_or-take, get_or-drop}
use native.Mathlib.Nat.{suc-mul}
use native.Mathlib.Numerals.{add-one}
use native.Mathlib.Decide.{dec_lt}
use Rattle.grid.specs.Below.{join_below}
use Rattle.grid.specs.Frames.{line_feed}
use Rattle.text_laws.proofs.Digits.{cells_text, line_text}
use Rattle.text_laws.proofs.Runs.{one_more_fits}
use Rattle.text_lines.specs.Put.{Put}

same_cells : (k : ℕ) (f h : ℕ → ℕ) (q : ℕ) → ((i : ℕ) → i < q → f i ≡ h i) → cells_text k f q ≡ cells_text k h q
unfolding join_below
same_cells k f h zero e = refl
same_cells k f h (suc q) e = rw (same_cells k f h q (λ i l. e i (omega arith)), e q (omega arith)) refl

module _ {A : Type 0} (off : A) (cells : List A) (cols rows r : ℕ) (h : r < rows) (s : length cells ≡ rows * cols) where
  -- line r
  abbrev row : List A
  row = take ((r + 1) * cols - r * cols) (drop (r * cols) cells)

  width : (r + 1) * cols - r * cols ≡ cols
  width = rw (add-one r, suc-mul r cols) (omega arith)

  long : length row ≡ cols
  long = length-take-le _ _ (omega (arith, width, one_more_fits cols h, length-drop (r * cols) cells)) ∙ width

  part : (i : ℕ) → i < cols → get_or row i off ≡ get_or cells (r * cols + i) off
  part i l =
      get_or-take ((r + 1) * cols - r * cols) (drop (r * cols) cells) i off (omega (arith, width, l)) ∙ get_or-drop (r * cols) cells i off

  pub row_put : (f : A → ℕ) (k : ℕ) {from next : ℕ} {out₀ out₁ : List ℕ}
      → Put (cells_text k (λ i. f (get_or row i off)) (length row) ++ (line_feed ∷ [])) (length row * k + 1) from out₀ out₁ next
      → Put (line_text cols k (λ c. f (get_or cells c off)) (r * cols)) (cols * k + 1) from out₀ out₁ next
  row_put f k {from} {next} {out₀} {out₁} p =
      let same = same_cells k (λ i. f (get_or row i off)) (λ i. f (get_or cells (r * cols + i) off)) cols (λ i l. ap f (part i l)) in
      let wide : Put (cells_text k (λ i. f (get_or row i off)) cols ++ (line_feed ∷ [])) (cols * k + 1) from out₀ out₁ next =
      subst (λ (n : ℕ). Put (cells_text k (λ i. f (get_or row i off)) n ++ (line_feed ∷ [])) (n * k + 1) from out₀ out₁ next) long p
      in
      subst (λ (t : List ℕ). Put (t ++ (line_feed ∷ [])) (cols * k + 1) from out₀ out₁ next) same wide

  pub row_known : (P : A → Type 0) → ((c : ℕ) → c < r * cols → P (get_or cells c off)) → ((i : ℕ) → i < length row → P (get_or row i off))
      → (c : ℕ) → c < (r + 1) * cols → P (get_or cells c off)
  row_known P a b c l = go (dec_lt c (r * cols))
    where
      go : Dec (c < r * cols) → P (get_or cells c off)
      go (yes y) = a c y
      go (no n) =
          let i : ℕ = c - r * cols in
          let e : r * cols + i ≡ c = omega arith in
          let w : i < cols = omega (arith, width) in
          subst (λ (x : ℕ). P (get_or cells x off)) e (subst P (part i w) (b i (omega (arith, long))))
