-- A line cell by cell and a sheet line by line: what the loops keep, at the start, after one more, and at the end.
use mathlib.Core.Path.{◌≡◌, refl, sym, ap, ◌∙◌}
use mathlib.Core.List.{List, [], ◌∷◌, ◌++◌}
use Prim.Native.Nat.{ℕ, ◌+◌, ◌*◌}
use native.Mathlib.Nat.{suc-mul, zero-mul, add-zero}
use native.Mathlib.Numerals.{add-one}
use native.Mathlib.Omega.{arith}
use lib.ListN.{set, length-append}
use lib.Seq.{sets}
use Rattle.grid.specs.Frames.{line_feed, hex_text}
use Rattle.text_laws.proofs.Runs.{sets_next}
use Rattle.text_laws.proofs.Digits.{cells_text, line_text, lines_text, no_cells, no_lines, more_cells, more_lines, length_cells, length_lines}
use Rattle.text_lines.specs.Put.{Put}

module _ {a b : List ℕ} {n m i : ℕ} {out₀ out₁ : List ℕ} {j : ℕ} where
  -- one run after the other is one run
  pub put_put : {out₂ : List ℕ} {k : ℕ} → Put a n i out₀ out₁ j → Put b m j out₁ out₂ k → Put (a ++ b) (n + m) i out₀ out₂ k
  put_put p q = record {
    width_of_text = length-append a b ∙ rw (p.width_of_text, q.width_of_text);
    next_place = q.next_place ∙ ap (λ (x : ℕ). x + m) p.next_place ∙ omega arith;
    stored =
        q.stored
        ∙ ap (λ (l : List ℕ). sets l j b) p.stored
        ∙ sets_next a b out₀ i j (p.next_place ∙ ap (λ (x : ℕ). i + x) (sym p.width_of_text));
  }

module _ {a : List ℕ} {n : ℕ} {out₀ out₁ : List ℕ} {j : ℕ} where
  -- a run and its line feed
  pub put_line_feed : {i : ℕ} → Put a n i out₀ out₁ j → Put (a ++ (line_feed ∷ [])) (n + 1) i out₀ (set out₁ j line_feed) (j + 1)
  put_line_feed p = put_put p record { width_of_text = refl; next_place = refl; stored = refl }

-- q cells of a line are stored
pub record CellsTo (k : ℕ) (f : ℕ → ℕ) (out₀ : List ℕ) (from : ℕ) (out : List ℕ) (next q : ℕ) : Type 0 where
  pub next_place : next ≡ from + q * k
  pub stored : out ≡ sets out₀ from (cells_text k f q)

module _ (k : ℕ) (f : ℕ → ℕ) (out₀ : List ℕ) (from : ℕ) where
  pub cells_none : CellsTo k f out₀ from out₀ from 0
  cells_none = record {
    next_place = rw (zero-mul k) (sym (add-zero from));
    stored = ap (λ (t : List ℕ). sets out₀ from t) (sym (no_cells k f));
  }

  pub cells_more : {out : List ℕ} {next q : ℕ} (v : ℕ) {out₁ : List ℕ} {next₁ : ℕ} → CellsTo k f out₀ from out next q → v ≡ f q
      → Put (hex_text k v) k next out out₁ next₁ → CellsTo k f out₀ from out₁ next₁ (q + 1)
  cells_more {out} {next} {q} v {out₁} {next₁} h e p = record {
    next_place = p.next_place ∙ ap (λ (n : ℕ). n + k) h.next_place ∙ rw (add-one q, suc-mul q k) (omega arith);
    stored = p.stored ∙ ap (λ (l : List ℕ). sets l next (hex_text k v)) h.stored ∙ rw e (more_cells k f q out₀ from next h.next_place);
  }

  -- the line feed ends the line
  pub cells_end : {out : List ℕ} {next q cols : ℕ} → q ≡ cols → CellsTo k f out₀ from out next q
      → Put (cells_text k f cols ++ (line_feed ∷ [])) (cols * k + 1) from out₀ (set out next line_feed) (next + 1)
  cells_end {out} {next} {q} {cols} e h =
      let r : CellsTo k f out₀ from out next cols = rw e at h in
      put_line_feed {a = cells_text k f cols} record { width_of_text = length_cells k f cols; next_place = r.next_place; stored = r.stored }

-- r lines of the sheet are stored
pub record LinesTo (cols k : ℕ) (f : ℕ → ℕ) (out₀ : List ℕ) (from : ℕ) (out : List ℕ) (next r : ℕ) : Type 0 where
  pub next_place : next ≡ from + r * (cols * k + 1)
  pub stored : out ≡ sets out₀ from (lines_text cols k f r)

module _ (cols k : ℕ) (f : ℕ → ℕ) (out₀ : List ℕ) (from : ℕ) where
  pub lines_none : LinesTo cols k f out₀ from out₀ from 0
  lines_none = record {
    next_place = rw (zero-mul (cols * k + 1)) (sym (add-zero from));
    stored = ap (λ (t : List ℕ). sets out₀ from t) (sym (no_lines cols k f));
  }

  pub lines_more : {out : List ℕ} {next r : ℕ} {out₁ : List ℕ} {next₁ : ℕ} → LinesTo cols k f out₀ from out next r
      → Put (line_text cols k f (r * cols)) (cols * k + 1) next out out₁ next₁ → LinesTo cols k f out₀ from out₁ next₁ (r + 1)
  lines_more {out} {next} {r} {out₁} {next₁} h p = record {
    next_place =
        p.next_place ∙ ap (λ (n : ℕ). n + (cols * k + 1)) h.next_place ∙ rw (add-one r, suc-mul r (cols * k + 1)) (omega arith);
    stored =
        p.stored
        ∙ ap (λ (l : List ℕ). sets l next (line_text cols k f (r * cols))) h.stored
        ∙ more_lines cols k f r out₀ from next h.next_place;
  }

  pub lines_end : {out : List ℕ} {next r rows : ℕ} → r ≡ rows → LinesTo cols k f out₀ from out next r
      → Put (lines_text cols k f rows) (rows * (cols * k + 1)) from out₀ out next
  lines_end {out} {next} {r} {rows} e h =
      let a : LinesTo cols k f out₀ from out next rows = rw e at h in
      record { width_of_text = length_lines cols k f rows; next_place = a.next_place; stored = a.stored }
