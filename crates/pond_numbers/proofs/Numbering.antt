-- The marks of the wet cells are those before the scan; at each cell of it the marks go on as pond_laws says.
use mathlib.Core.Path.{◌≡◌, sym, ◌∙◌, ap, ap₂, subst}
use mathlib.Core.Bool.{Bool, cond}
use mathlib.Core.List.{List}
use Prim.Native.Nat.{ℕ, ◌+◌, ◌/◌, ◌%◌, ◌≤◌, ◌<◌}
use native.Mathlib.Omega.{arith}
use lib.Dec.{ltb}
use lib.ListN.{length, get_or, set, length-set}
use lib.Seq.{get_or-set_same}
use lib.IntN.{ℤ}
use Rattle.grid.specs.declared.Grid.{Grid}
use Rattle.grid.specs.Below.{table}
use Rattle.grid.specs.Sheet.{size, SixteenBits}
use Rattle.grid.specs.Fill.{filled}
use Rattle.grid.specs.Ponds.{is_wet}
use Rattle.grid_laws.proofs.Below.{table_ext}
use Rattle.fill.specs.Words.{Words}
use Rattle.fill.proofs.Words.{words_key, words_filled}
use Rattle.join_laws.specs.Search.{part_of, Parts, joined_marks, Searching, GoesOn}
use Rattle.join_laws.proofs.Search.{at_part, length_part, take_marks, take_queue, take_kept}
use Rattle.pond_laws.specs.Numbered.{marks_to, ponds_to}
use Rattle.pond_laws.proofs.Numbered.{first_marks, ponds_none, ponds_≤, next_by, next_pond, pond_seeded}
use Rattle.pond_laws.proofs.Depth.{wet_by_keys}
use Rattle.pond_numbers.specs.State.{Sizes, Numbered}

-- ---- the wet cells

-- a word's mark
abbrev pub wet_mark : ℕ → ℕ
wet_mark word = cond (ltb (word % 65536) (word / 65536)) 1 0

-- the first c cells are marked, after the n words
abbrev pub MarkedTo : ℕ → List ℕ → List ℕ → ℕ → Type 0
MarkedTo n w₀ w c = ((x : ℕ) → x < n → get_or w x 0 ≡ get_or w₀ x 0) × ((x : ℕ) → x < c → get_or w (n + x) 0 ≡ wet_mark (get_or w₀ x 0))

part_table : (w : List ℕ) (n start : ℕ) (f : ℕ → ℕ) → ((i : ℕ) → i < n → get_or w (start + i) 0 ≡ f i) → part_of n start w ≡ table n f
unfolding part_of
part_table w n start f h = table_ext n (λ i. get_or w (start + i) 0) f h

pub marked_all : (g : Grid) (e : List ℤ) (w₀ w : List ℕ) → length e ≡ size g → SixteenBits e → Words g e w₀ →
    MarkedTo (size g) w₀ w (size g) → Numbered g e w 0 0
marked_all g e w₀ w long range W M =
    record {
      range = range;
      words = λ c h. M.0 c h ∙ W c h;
      marks = marks;
      counted = sym (ponds_none g e (filled g e));
    }
  where
    wet_is : (c : ℕ) → c < size g → get_or w (size g + c) 0 ≡ cond (is_wet e (filled g e) c) 1 0
    wet_is c h =
        M.1 c h
        ∙ ap₂ (λ (a b : ℕ). cond (ltb a b) 1 0) (words_key g e w₀ long range W c h) (words_filled g e w₀ long range W c h)
        ∙ ap (λ (b : Bool). cond b 1 0) (sym (wet_by_keys g e long range c))

    marks : part_of (size g) (size g) w ≡ marks_to g e (filled g e) 0
    marks = part_table w (size g) (size g) (λ c. cond (is_wet e (filled g e) c) 1 0) wet_is ∙ sym (first_marks g e (filled g e))

-- ---- the scan, at the cell c

pub sizes_same : {g : Grid} {e : List ℤ} {l l' : ℕ} → Sizes g e l → l' ≡ l → Sizes g e l'
sizes_same {g} {e} Z q = subst (Sizes g e) (sym q) Z

module _ (g : Grid) (e : List ℤ) (w : List ℕ) (half c count : ℕ) (Z : Sizes g e (length w)) (middle : half ≡ length w / 2)
    (on : c < size g)
    (N : Numbered g e w c count) where
  pub parts : Parts (size g) (size g) half (length w)
  parts =
      let r = Z.room in
      record { few = Z.few; marks_in = omega arith; queue_in = omega arith; apart = λ a i h k q. omega arith }

  mark_is : get_or w (size g + c) 0 ≡ get_or (marks_to g e (filled g e) c) c 0
  mark_is = sym (at_part (size g) (size g) w c on) ∙ ap (λ (l : List ℕ). get_or l c 0) N.marks

  pub few_ponds : count ≤ c
  few_ponds = let k = N.counted in let l = ponds_≤ g e (filled g e) c in omega arith

  pub passed_by : (get_or w (size g + c) 0 ≡ 1 → ⊥) → Numbered g e w (c + 1) count
  passed_by f =
      let s = next_by g e (filled g e) Z.long c on (λ q. f (mark_is ∙ q)) in
      record { range = N.range; words = N.words; marks = N.marks ∙ sym s.0; counted = N.counted ∙ sym s.1 }

  module _ (one : get_or w (size g + c) 0 ≡ 1) (w₁ : List ℕ) (len : ℕ) (is : w₁ ≡ set (set w (size g + c) (count + 2)) (half + 0) c)
      (queued : len ≡ 0 + 1) where
    some : 0 < size g
    some = omega arith

    pub taken_long : length w₁ ≡ length w
    taken_long = ap length is ∙ length-set (set w (size g + c) (count + 2)) (half + 0) c ∙ length-set w (size g + c) (count + 2)

    mark_one : get_or (marks_to g e (filled g e) c) c 0 ≡ 1
    mark_one = sym mark_is ∙ one

    taken_marks : part_of (size g) (size g) w₁ ≡ set (marks_to g e (filled g e) c) c (ponds_to g e (filled g e) c + 2)
    taken_marks =
        rw is (take_marks g (size g) half (count + 2) (omega arith) w parts c 0 on some)
        ∙ ap₂ (λ (l : List ℕ) (k : ℕ). set l c (k + 2)) N.marks N.counted

    queue_first : get_or (part_of (size g) half w₁) 0 0 ≡ c
    queue_first =
        rw is (rw (take_queue g (size g) half (count + 2) (omega arith) w parts c 0 on some)
        (get_or-set_same (part_of (size g) half w) 0 c 0 (let l = length_part (size g) half w in omega arith)))

    pub seeded : Searching g (count + 2) (part_of (size g) (size g) w₁) (part_of (size g) half w₁) 0 len
    seeded =
        rw queued (rw taken_marks (rw N.counted
        (pond_seeded g e (filled g e) Z.long c on mark_one (part_of (size g) half w₁) queue_first)))

    pub numbered_on : (w₂ : List ℕ) → part_of (size g) (size g) w₂ ≡ joined_marks g (count + 2) (part_of (size g) (size g) w₁) →
        GoesOn g (size g) half (count + 2) w₁ w₂ → Numbered g e w₂ (c + 1) (count + 1)
    numbered_on w₂ joined G =
        let s = next_pond g e (filled g e) Z.long c on mark_one in
        record {
          range = N.range;
          words = λ d h. kept d h ∙ N.words d h;
          marks = joined ∙ ap₂ (λ (k : ℕ) (l : List ℕ). joined_marks g (k + 2) l) N.counted taken_marks ∙ s.0;
          counted = ap (λ (k : ℕ). k + 1) N.counted ∙ sym s.1;
        }
      where
        before : (d : ℕ) → d < size g → (i : ℕ) → i < size g → d ≡ size g + i → ⊥
        before d h i k q = omega arith

        low : (d : ℕ) → d < size g → (i : ℕ) → i < size g → d ≡ half + i → ⊥
        low d h i k q = let r = Z.room in omega arith

        kept : (d : ℕ) → d < size g → get_or w₂ d 0 ≡ get_or w d 0
        kept d h =
            G.kept d (before d h) (low d h)
            ∙ rw is (take_kept g (size g) half (count + 2) (omega arith) w parts c 0 on some d (before d h) (low d h))
