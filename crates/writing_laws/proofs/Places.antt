-- Every place of a sheet's text is of one of five kinds: in a number of the header or of a cell, or at a line's end.
use mathlib.Core.Path.{◌≡◌, refl, ◌∙◌, subst}
use mathlib.Core.Bool.{true, false}
use Prim.Native.Nat.{ℕ, ◌+◌, ◌-◌, ◌*◌, ◌/◌, ◌%◌, ◌≤◌, ◌<◌}
use native.Mathlib.Nat.{div-add-mod', mod-lt, mul_comm, div-lt_iff_lt-mul}
use native.Mathlib.Omega.{arith}
use native.Mathlib.Decide.{dec_lt}
use lib.Arith.{digits_mod}
use lib.Dec.{eqb}
use borrow.Author.Tests.{eq-eqb, ne_eqb}
use Rattle.grid.specs.Frames.{ends_line}
use Rattle.text_laws.proofs.Runs.{one_more_fits}
use Rattle.text_laws.proofs.Ends.{header_ends, in_header, in_lines}

-- of a text with this many rows and columns
module _ (rows cols : ℕ) where
  pub data Place : ℕ → Type 0 where
    in_rows : (d : ℕ) → d < 4 → Place d
    in_cols : (d : ℕ) → d < 4 → Place (4 + d)
    after_header : Place 8
    in_cell : (r q d : ℕ) → r < rows → q < cols → d < 4 → Place (9 + (r * (4 * cols + 1) + (q * 4 + d)))
    after_line : (r : ℕ) → r < rows → Place (9 + (r * (4 * cols + 1) + 4 * cols))

  in_line : (r j : ℕ) → r < rows → j < 4 * cols + 1 → Place (9 + (r * (4 * cols + 1) + j))
  in_line r j h l = go (dec_lt j (4 * cols))
    where
      go : Dec (j < 4 * cols) → Place (9 + (r * (4 * cols + 1) + j))
      go (yes m) =
          let w = mul_comm 4 cols in
          let e : j / 4 * 4 + j % 4 ≡ j = omega arith in
          subst (λ (x : ℕ). Place (9 + (r * (4 * cols + 1) + x))) e (in_cell r (j / 4) (j % 4) h (omega arith) (omega arith))
      go (no m) =
          let e : 4 * cols ≡ j = omega arith in subst (λ (x : ℕ). Place (9 + (r * (4 * cols + 1) + x))) e (after_line r h)

  pub place_of_lem : (i : ℕ) → i < 9 + rows * (4 * cols + 1) → Place i
  place_of_lem i h = first (dec_lt i 4)
    where
      lines : 9 ≤ i → Place i
      lines l =
          let k = i - 9 in
          let e = div-add-mod' k (4 * cols + 1) in
          let q : 9 + (k / (4 * cols + 1) * (4 * cols + 1) + k % (4 * cols + 1)) ≡ i = omega arith in
          subst Place q
          (in_line (k / (4 * cols + 1)) (k % (4 * cols + 1))
          ((div-lt_iff_lt-mul {k = 4 * cols + 1} {x = k} {y = rows} (omega arith)).1 (omega arith))
          (mod-lt k (let z : 0 < 4 * cols + 1 = omega arith in z)))

      third : Dec (i < 9) → (i < 8 → ⊥) → Place i
      third (yes l) f = subst Place (let e : 8 ≡ i = omega arith in e) after_header
      third (no l) f = lines (omega arith)

      second : Dec (i < 8) → (i < 4 → ⊥) → Place i
      second (yes l) f = subst Place (let e : 4 + (i - 4) ≡ i = omega arith in e) (in_cols (i - 4) (omega arith))
      second (no l) f = third (dec_lt i 9) l

      first : Dec (i < 4) → Place i
      first (yes l) = in_rows i l
      first (no l) = second (dec_lt i 8) l

-- ---- which of them end lines

module _ (cols : ℕ) where
  pub ends_number : (i : ℕ) → i < 8 → ends_line cols i ≡ false
  ends_number i h = in_header cols i (λ e. omega arith) (omega arith)

  pub ends_header : ends_line cols 8 ≡ true
  ends_header = header_ends cols 8 refl

  at_line : (r j : ℕ) → j < 4 * cols + 1 → ends_line cols (9 + (r * (4 * cols + 1) + j)) ≡ eqb j (4 * cols)
  at_line r j h =
      let k = r * (4 * cols + 1) + j in
      let e : 9 + k - 9 ≡ k = omega arith in
      in_lines cols (9 + k) (omega arith) ∙ rw (e, digits_mod r {m = 4 * cols + 1} {r = j} h)

  pub ends_cell : (r q d : ℕ) → q < cols → d < 4 → ends_line cols (9 + (r * (4 * cols + 1) + (q * 4 + d))) ≡ false
  ends_cell r q d h l =
      let f = one_more_fits 4 h in
      let w = mul_comm 4 cols in
      at_line r (q * 4 + d) (omega arith) ∙ ne_eqb (q * 4 + d) (4 * cols) (λ e. omega arith)

  pub ends_line_lem : (r : ℕ) → ends_line cols (9 + (r * (4 * cols + 1) + 4 * cols)) ≡ true
  ends_line_lem r = at_line r (4 * cols) (omega arith) ∙ eq-eqb (4 * cols) (4 * cols) refl
