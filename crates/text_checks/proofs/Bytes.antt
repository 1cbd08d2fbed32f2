-- What the tests of single bytes say of the whole text.
use Rattle.std.proofs.Common.{◌≡◌, ℕ, ◌<◌, ◌≤◌, Bool, true, false, not, ◌&&◌, eqb, List, length, get_or, refl, sym, ap, arith}
use Rattle.std.specs.Bool.{beq}
use borrow.Author.Tests.{lt-leb, le-leb, eq-eqb, ne_eqb}
use Rattle.grid.specs.declared.Grid.{Grid}
use Rattle.grid.specs.Frames.{line_feed, is_text_byte, number4, text_grid, ends_line, text_length, is_shaped, first_bad_byte}
use Rattle.grid_laws.proofs.Below.{first_none, first_is, none_of, any_of}
use Rattle.text_checks.specs.Shape.{feeds_end_lines}

-- ---- question 2

-- the first i bytes are digits or line feeds
abbrev pub FineTo : List ℕ → ℕ → Type 0
FineTo text i = (k : ℕ) → k < i → is_text_byte (get_or text k 0) ≡ true

pub bad_byte : (text : List ℕ) (i : ℕ) → i < length text → FineTo text i → is_text_byte (get_or text i 0) ≡ false → i ≡ first_bad_byte text
unfolding first_bad_byte
bad_byte text i l h e = sym (first_is (length text) (λ k. not (is_text_byte (get_or text k 0))) i l (ap not e) (λ k m. ap not (h k m)))

pub no_bad_byte : (text : List ℕ) → FineTo text (length text) → length text ≡ first_bad_byte text
unfolding first_bad_byte
no_bad_byte text h = sym (first_none (length text) (λ k. not (is_text_byte (get_or text k 0))) (λ k m. ap not (h k m)))

-- ---- question 3

-- a line feed stands where a line ends, and nowhere else
abbrev pub IsRight : (cols b i : ℕ) → Type 0
IsRight cols b i = eqb b line_feed ≡ ends_line cols i

-- the first i bytes are right
abbrev pub RightTo : ℕ → List ℕ → ℕ → Type 0
RightTo cols text i = (k : ℕ) → k < i → IsRight cols (get_or text k 0) k

right_first : (f e : Bool) → f ≡ e → (not f && e) ≡ false
right_first f true h = rw h refl
right_first f false h = rw h refl

right_second : (f e : Bool) → f ≡ e → (f && not e) ≡ false
right_second f true h = rw h refl
right_second f false h = rw h refl

wrong_neither : (f e a b : Bool) → (f ≡ e → ⊥) → ((not f && e) ≡ true → a ≡ true) → ((f && not e) ≡ true → b ≡ true) → (not a && not b) ≡ false
wrong_neither true true a b n p q = absurd (n refl)
wrong_neither true false true b n p q = refl
wrong_neither true false false b n p q = rw (q refl) refl
wrong_neither false true a b n p q = rw (p refl) refl
wrong_neither false false a b n p q = absurd (n refl)

unlike : (f e : Bool) → not (beq f e) ≡ true → f ≡ e → ⊥
unlike true true h q = grind arith
unlike true false h q = grind arith
unlike false true h q = grind arith
unlike false false h q = grind arith

module _ (cols : ℕ) (text : List ℕ) where
  pub all_right : RightTo cols text (length text) → feeds_end_lines text cols ≡ true
  unfolding feeds_end_lines
  all_right h =
      rw (
        none_of (length text) (λ k. not (eqb (get_or text k 0) line_feed) && ends_line cols k)
            (λ k m. right_first (eqb (get_or text k 0) line_feed) (ends_line cols k) (h k m)),
        none_of (length text) (λ k. eqb (get_or text k 0) line_feed && not (ends_line cols k))
            (λ k m. right_second (eqb (get_or text k 0) line_feed) (ends_line cols k) (h k m)),
      )

  one_wrong : (i : ℕ) → i < length text → (IsRight cols (get_or text i 0) i → ⊥) → feeds_end_lines text cols ≡ false
  unfolding feeds_end_lines
  one_wrong i l n =
      wrong_neither (eqb (get_or text i 0) line_feed) (ends_line cols i) _ _ n
      (λ e. any_of (length text) (λ k. not (eqb (get_or text k 0) line_feed) && ends_line cols k) i l e)
      (λ e. any_of (length text) (λ k. eqb (get_or text k 0) line_feed && not (ends_line cols k)) i l e)

  -- the byte b, read at the place j, which is i
  pub wrong_here : (i j b : ℕ) (e : Bool) → i < length text → b ≡ get_or text j 0 → j ≡ i → e ≡ ends_line cols i
      → not (beq (eqb b line_feed) e) ≡ true → feeds_end_lines text cols ≡ false
  wrong_here i j b e l p q r h = one_wrong i l (λ right. unlike (eqb b line_feed) e h (rw (p, q, r) right))

module _ (text : List ℕ) where
  pub too_short : length text < 9 → is_shaped text ≡ false
  unfolding is_shaped
  too_short h = rw (lt-leb 9 (length text) h)

  module _ (g : Grid) (same : g ≡ text_grid text) (long : 9 ≤ length text) where
    pub wrong_length : (length text ≡ text_length g → ⊥) → is_shaped text ≡ false
    unfolding is_shaped
    wrong_length n =
        let e : (length text ≡ text_length (text_grid text)) → ⊥ = rw same at n in
        rw (le-leb 9 (length text) long, ne_eqb (length text) _ e)

    pub right_length : length text ≡ text_length g → is_shaped text ≡ feeds_end_lines text g.cols
    unfolding is_shaped feeds_end_lines
    right_length q =
        let e : length text ≡ text_length (text_grid text) = rw same at q in
        rw (same, le-leb 9 (length text) long, eq-eqb (length text) _ e)

-- the two numbers of the header
pub header_grid : (text : List ℕ) {rows cols : ℕ} → rows ≡ number4 text 0 → cols ≡ number4 text 4 →
    ◌≡◌ {A = Grid} record { rows = rows; cols = cols; sides = 0; width = 1; height = 1 } (text_grid text)
unfolding text_grid
header_grid text e f = rw (e, f)
