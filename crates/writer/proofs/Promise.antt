-- The questions in order, and the promise beside a no and after the last yes.
use mathlib.Core.Path.{◌≡◌, refl, sym, ◌∙◌, ap, ap₂, subst}
use mathlib.Core.Bool.{true, false}
use mathlib.Core.List.{List, [], ◌∷◌}
use Prim.Native.Nat.{ℕ, ◌/◌, ◌≤◌, ◌<◌}
use native.Mathlib.Nat.{mul_comm, zero-mul, le-div_iff_mul-le}
use native.Mathlib.Omega.{arith}
use lib.Dec.{leb}
use lib.IntN.{ℤ}
use lib.ListN.{length, take}
use lib.Seq.{take-append_seam}
use borrow.Author.Tests.{le-leb, lt-leb, leb-true}
use Rattle.grid.specs.declared.Grid.{Grid}
use Rattle.grid.specs.declared.Answer.{Answer}
use Rattle.grid.specs.Sheet.{size, SixteenBits}
use Rattle.grid.specs.Checks.{refusal, accepted, ask, ask_sheets}
use Rattle.grid.specs.Frames.{text_length, elevation_text}
use Rattle.grid.specs.Writing.{write_check, ReadsAs}
use Rattle.grid.specs.Promises.{WritePromise}
use Rattle.grid_laws.proofs.Tests.{cond_true, cond_false, same_test}
use Rattle.checks.specs.Sizes.{Fits}
use Rattle.checks.proofs.Gate.{Gate, kept, number_zero, passed, answered_no, is_accepted_lem, next_no, next_yes}
use Rattle.checks.proofs.Asked.{Sheets, sheets_gate, same_lists, have_again}
use Rattle.text_lines.specs.Put.{Put}
use Rattle.frames.specs.Printed.{Printed, ElevationSheet}
use Rattle.frames.proofs.Outputs.{put_printed}
use Rattle.writing_laws.proofs.Asked.{Printable, printable, write_passes, short}
use Rattle.writing_laws.proofs.Written.{reads_as}

-- ---- 4

pub no_rows : (g : Grid) → g.rows ≡ 0 → leb (size g) 2304 ≡ true
no_rows g e = rw (e, zero-mul g.cols) refl

-- rows and columns may be any numbers, so their product may not fit a word
pub by_quotient : (g : Grid) → (g.rows ≡ 0 → ⊥) → leb g.cols (2304 / g.rows) ≡ leb (size g) 2304
by_quotient g n =
    same_test _ _
    (λ e. let q = (le-div_iff_mul-le {k = g.rows} {x = g.cols} {y = 2304} (omega arith)).0 (leb-true g.cols (2304 / g.rows) e) in
    le-leb (size g) 2304 (omega (arith, q, mul_comm g.cols g.rows)))
    (λ e. le-leb g.cols (2304 / g.rows)
    ((le-div_iff_mul-le {k = g.rows} {x = g.cols} {y = 2304} (omega arith)).1
    (omega (arith, leb-true (size g) 2304 e, mul_comm g.cols g.rows))))

-- ---- 5 to 8

module _ (g : Grid) (given room : ℕ) (answer : Answer) (is : answer ≡ ask_sheets g (given ∷ given ∷ []) [] accepted) where
  asked : answer ≡ ask_sheets g (given ∷ []) [] accepted
  asked = is ∙ same_lists g (given ∷ given ∷ []) (given ∷ []) [] [] accepted (have_again (size g) given []) refl

  -- what 8 is asked after
  before_room : Gate (ask_sheets g (given ∷ []) []) (Sheets g (given ∷ []) [])
  before_room = sheets_gate g (given ∷ []) []

  abbrev ask_room : Answer
  ask_room = ask (leb (text_length g) room) (refusal 8 0) accepted

  pub bad_sizes : (answer.number ≡ 0 → ⊥) → answer ≡ ask_sheets g (given ∷ []) [] ask_room
  bad_sizes n = answered_no before_room asked n ask_room

  module _ (z : answer.number ≡ 0) where
    pub fits : Fits g
    fits = (passed before_room asked z).fact.fits

    pub too_short : room < text_length g → refusal 8 0 ≡ ask_sheets g (given ∷ []) [] ask_room
    too_short h = next_no before_room asked z (refusal 8 0) accepted (lt-leb (text_length g) room h)

    pub room_enough : text_length g ≤ room → answer ≡ ask_sheets g (given ∷ []) [] ask_room
    room_enough h =
        is_accepted_lem before_room asked z ∙ next_yes before_room asked z (refusal 8 0) accepted (le-leb (text_length g) room h)

-- ---- 4, and what is asked after it

module _ (g : Grid) (given room : ℕ) where
  pub too_many : leb (size g) 2304 ≡ false → refusal 4 0 ≡ write_check g given room
  unfolding write_check
  too_many n = sym (cond_false _ _ n)

  pub few_enough : leb (size g) 2304 ≡ true → {r : Answer} →
      r ≡ ask_sheets g (given ∷ []) [] (ask (leb (text_length g) room) (refusal 8 0) accepted) → r ≡ write_check g given room
  unfolding write_check
  few_enough y e = e ∙ sym (cond_true _ _ y)

-- ---- the promise

module _ (g : Grid) (e : List ℤ) (text₀ : List ℕ) (answer : Answer) (is : answer ≡ write_check g (length e) (length text₀)) where
  pub beside_no : (answer.number ≡ 0 → ⊥) → WritePromise g e text₀ text₀ record { number = answer.number; place = answer.place; count = 0 }
  beside_no n =
      record {
        answer = is;
        count = kept n _;
        result = kept n _;
        sixteen_bits = λ t. absurd (n (number_zero answer t));
        reads_back = λ t. absurd (n (number_zero answer t));
      }

  module _ (z : answer.number ≡ 0) where
    all_asked : Printable g (length e) (length text₀)
    all_asked = printable g (length e) (length text₀) (ap (λ (a : Answer). a.number) (sym is) ∙ z)

    pub sheet_fits : ElevationSheet g e text₀
    sheet_fits =
        let s = all_asked in
        record { few_rows = s.fits.rows_high; few_cols = s.fits.cols_high; elevations_size = s.long; room = s.room_for }

    module _ {text₁ : List ℕ} {n : ℕ} (put : Put (elevation_text g e) (text_length g) 0 text₀ text₁ n) where
      pub count_small : n ≤ 11529
      count_small = omega (arith, put.next_place, short g all_asked)

      pub written : SixteenBits e → WritePromise g e text₀ text₁ record { number = 0; place = 0; count = n }
      written bits =
          let p : Printed (elevation_text g e) text₀ text₁ n = put_printed all_asked.room_for put in
          record {
            answer = sym (write_passes g (length e) (length text₀) all_asked);
            count = p.length_of_text;
            result = p.stored;
            sixteen_bits = λ _. bits;
            reads_back = λ _.
                subst (λ (t : List ℕ). ReadsAs t g e)
                (sym (ap₂ take p.length_of_text p.stored ∙ take-append_seam (elevation_text g e) _)) (reads_as g e bits all_asked);
          }
